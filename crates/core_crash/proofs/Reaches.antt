-- A record up to the reach was flushed, or a later one of its log was left, and so was it.
use Rattle.map_model.specs.Lists.{Has}
use Rattle.core_paging.specs.image_model.Entries.{Entry, is_record}
use Rattle.core_paging.specs.image_model.Ends.{greatest}
use Rattle.core_paging.specs.image_model.Images.{Image, found}
use Rattle.core_paging.specs.core_state.States.{State, start, flushed_by_all}
use Rattle.core_paging.specs.core_state.Steps.{run}
use Rattle.core_paging.proofs.core_commit.Lists.{Within, has_before, each_at, least_le}
use Rattle.core_paging.proofs.core_commit.History.{Recorded}
use Rattle.core_paging.proofs.core_commit.Invariants.{Inv}
use Rattle.core_paging.proofs.core_commit.Runs.{good_run, good_start}
use Rattle.map_model.proofs.ListLemmas.{keep_has, has_keep, has_cases, has_right}
use Rattle.core_crash.specs.Crashes.{log_of, IsPrefix, from_head, image_of}
use Rattle.core_crash.specs.Reaches.{EveryFound}
use Rattle.core_crash.proofs.Images.{Numbers, log_numbers, numbers_across, gathered_has, has_gathered, greatest_upper}
use Rattle.std.proofs.Common.{◌≡◌, ◌≤◌, ◌++◌, ℕ, pred, max, ◌&&◌, not, leb, ◌==◌, List, refl, sym, ◌∙◌, subst, inl, inr, arith}
use Rattle.std.proofs.lemmas.Bool.{cases_lt, eq-eqb, eqb-true, and_parts, and_from, lt-leb, not_from_false}

pub every_found : EveryFound
every_found g es logs page c r ir kr far behind =
    has_gathered (λ w. from_head (s.head w) (logs w)) g.workers r.log r within
    (has_keep (λ x. not (leb x.number (s.head r.log))) (logs r.log) r left (not_from_false (leb r.number (s.head r.log)) (lt-leb r.number (s.head r.log) behind)))
  where
    s : State
    s = run g (start g) es

    i : Image
    i = image_of g s logs page

    v : Inv g s
    v = (good_run g es (start g) (good_start g)).inv

    within : Within g.workers r.log
    within = let b = has_before r s.entries ir in (each_at (Recorded g (flushed_by_all g s)) s.entries r b.0 v.records b.1).log

    mine : Has r (log_of r.log s.entries)
    mine = has_keep (λ x. is_record x.kind && (x.log == r.log)) s.entries r ir (and_from (is_record r.kind) (r.log == r.log) kr (eq-eqb r.log r.log refl))

    f : IsPrefix (logs r.log) (log_of r.log s.entries)
    f = c.prefixes r.log within.0 within.1

    nums : Numbers (f.0 ++ logs r.log)
    nums = subst Numbers (sym f.1) (log_numbers g (flushed_by_all g s) r.log s.entries v.records)

    -- of the log there is the record's number, or the floor is above it
    reached : r.number ≤ max s.floor (greatest r.log (found i))
    reached = let a = least_le (λ w. max s.floor (greatest w (found i))) g.workers r.log within in omega arith

    of_log : (w : ℕ) → Within g.workers w → (y : Entry) → Has y (logs w) → y.log ≡ w
    of_log w l y iy =
        let p = c.prefixes w l.0 l.1 in
        let q = keep_has (λ x. is_record x.kind && (x.log == w)) s.entries y (subst (λ (z : List Entry). Has y z) p.1 (has_right y p.0 (logs w) iy)) in
        eqb-true y.log w (and_parts (is_record y.kind) (y.log == w) q.1).1

    -- what is found in its log was left there
    there : (y : Entry) → Has y (found i) → y.log ≡ r.log → Has y (logs r.log)
    there y iy l =
        let q = gathered_has (λ w. from_head (s.head w) (logs w)) g.workers y iy in
        let k = (keep_has (λ x. not (leb x.number (s.head q.0))) (logs q.0) y q.2).0 in
        subst (λ (w : ℕ). Has y (logs w)) (sym (of_log q.0 q.1 y k) ∙ l) k

    left : Has r (logs r.log)
    left = elim (cases_lt s.floor r.number) [
      | inr q ↦ c.flushed r.log within.0 within.1 r mine (let b = (v.workers r.log).based within in omega arith)
      | inl q ↦ elim (has_cases r f.0 (logs r.log) (subst (λ (x : List Entry). Has r x) (sym f.1) mine)) [
        | inr j ↦ j
        | inl j ↦ absurd (
            let u = greatest_upper r.log (pred r.number) (found i) (λ y iy l. let z = numbers_across f.0 (logs r.log) nums r y j (there y iy l) in omega arith) in
            let h = reached in
            omega arith)
      ]
    ]
