-- What is entered has a number above its worker's clock, and so above what is flushed everywhere.
use Rattle.std.proofs.Common.{◌≡◌, ◌⊎◌, inl, inr, ◌≤◌, ◌<◌, ℕ, true, cond, List, [], ◌∷◌, ◌++◌, refl, sym, ap, ◌∙◌, subst, arith, true≢false, append_assoc}
use Rattle.std.proofs.lemmas.List.{append-nil}
use Rattle.map_model.specs.Lists.{Has}
use Rattle.map_model.specs.Maps.{MapAnswer}
use Rattle.core_paging.specs.image_model.Entries.{Contents, Entry, Kind, is_record, touches, word_in}
use Rattle.page_model.specs.Needs as record_needs
use Rattle.page_model.specs.Records.{Record}
use Rattle.core_paging.specs.core_state.Openings.{Opening}
use Rattle.core_paging.specs.core_state.States.{State, Worker, flushed_by_all, gsns_of, is_cold, nodes_of, start}
use Rattle.core_paging.specs.core_state.Events.{Event}
use Rattle.core_paging.specs.core_state.Needs.{is_held_by}
use Rattle.core_paging.specs.core_state.Steps.{at_pages, end_entry, follows, happens, moves, page_entry, put_back, read_entry, state_after, step, reads, refs_of, write_entry, writes}
use Rattle.core_paging.proofs.core_state.Runs.{run_more}
use Rattle.core_paging.specs.core_commit.Rises.{EveryRise}
use Rattle.core_paging.proofs.core_commit.History.{Recorded, IsRecorded, number_le_gsn}
use Rattle.core_paging.proofs.core_commit.Invariants.{Inv}
use Rattle.core_paging.proofs.core_commit.Lists.{Within, each_at, has_before, least_le}
use Rattle.core_paging.proofs.core_commit.Runs.{Good, good_run, good_start, good_step, step_keeps}
use Rattle.core_paging.specs.Paging.{EveryResidence}
use Rattle.core_covers.specs.Changes.{EveryChange, HasChanges}
use Rattle.core_covers.specs.Highs.{written_in}

-- ## Runs

pub state_then : (g : Opening) (es : List Event) (e : Event) → state_after g (es ++ e ∷ []) ≡ step g (state_after g es) e
state_then g es e = run_more g (start g) es (e ∷ [])

pub good : (g : Opening) (es : List Event) → Good g (state_after g es)
good g es = good_run g es (start g) (good_start g)

-- each entry is of a worker, and one that touches a page is a record
pub recorded : (g : Opening) (F : ℕ) (h : List Entry) → IsRecorded g F h → (r : Entry) → Has r h → Within g.workers r.log × ((p : ℕ) → touches p r ≡ true → is_record r.kind ≡ true)
recorded g F h rs r i = let b = has_before r h i in let n = each_at (Recorded g F) h r b.0 rs b.1 in (n.log, n.logged)

-- ## What is entered

-- nothing is, or one entry of the pages in which the event writes, which has a number above its worker's clock if it is a record
abbrev pub Enters : State → Event → List Entry → Type 0
Enters s e new = (new ≡ s.entries) ⊎ ((r : Entry) × (new ≡ r ∷ s.entries) × (is_record r.kind ≡ true → (s.worker r.log).clock < r.number) × (r.refs ≡ refs_of s (written_in e)))

-- a touch does not lower a clock
touch_up : (s : State) (w : ℕ) (a : Worker) (ps : List ℕ) → a.clock ≤ (at_pages s w a ps).clock
touch_up s w a [] = omega arith
touch_up s w a (p ∷ ps) = let b = touch_up s w a ps in omega arith

module _ (g : Opening) (s : State) where
  -- the entries with such a one
  abbrev One : List ℕ → List Entry → Type 0
  One ps new = (r : Entry) × (new ≡ r ∷ s.entries) × (is_record r.kind ≡ true → (s.worker r.log).clock < r.number) × (r.refs ≡ refs_of s ps)

  reads_in : (w p k : ℕ) → One [] (reads g s w p k).entries
  reads_in w p k = (read_entry w (at_pages s w (s.worker w) (p ∷ [])) k (word_in g.format (s.page p).node k) (is_held_by (s.row (g.row_of k)).holder w), refl, λ k. absurd (true≢false (sym k)), refl)

  writes_in : (K : Kind) (w p k v : ℕ) (changes : Entry → List Entry) → One (p ∷ []) (writes g s K w p k v changes).entries
  writes_in K w p k v changes = (write_entry g K s w (at_pages s w (s.worker w) (p ∷ [])) p k v, refl, λ _. let b = touch_up s w (s.worker w) (p ∷ []) in omega arith, refl)

  moves_in : (K : Kind) (w : ℕ) (ps : List ℕ) (x : Record) → One ps (moves s K w ps x).entries
  moves_in K w ps x = (page_entry K s w (at_pages s w (s.worker w) ps) ps x, refl, λ _. let b = touch_up s w (s.worker w) ps in omega arith, refl)

  enters_event : (e : Event) → Enters s e (happens g s e).entries
  enters_event (Event.Read w p k a) = inr (reads_in w p k)
  enters_event (Event.Next w p k a) = go a
    where
      go : (a : MapAnswer) → Enters s (Event.Next w p k a) (follows g s w p a).entries
      go (MapAnswer.Pair at word) = inr (reads_in w p at)
      go (MapAnswer.Gap h) = inl refl
      go (MapAnswer.Value v) = inl refl
      go (MapAnswer.Was v) = inl refl
  enters_event (Event.Change w p k v) = inr (writes_in Kind.Change w p k v (λ r. r ∷ (s.worker w).changes))
  enters_event (Event.Put_back w p) = go (s.worker w).changes
    where
      go : (cs : List Entry) → Enters s (Event.Put_back w p) (put_back g s w p cs).entries
      go [] = inl refl
      go (c ∷ cs) = inr (writes_in Kind.Put_back w p c.key c.before (λ _. cs))
  enters_event (Event.Split w l r q i) = inr (moves_in Kind.Split w (l ∷ r ∷ q ∷ []) (record_needs.split_record (nodes_of s) (gsns_of s) l r q i))
  enters_event (Event.Lift w c) = inr (moves_in Kind.Lift w (0 ∷ c ∷ []) (record_needs.lift_record (nodes_of s) (gsns_of s) c))
  enters_event (Event.Join w l r q) = inr (moves_in Kind.Join w (l ∷ r ∷ q ∷ []) (record_needs.join_record (nodes_of s) (gsns_of s) l r q))
  enters_event (Event.Drop w c) = inr (moves_in Kind.Drop w (0 ∷ c ∷ []) (record_needs.drop_record (nodes_of s) (gsns_of s) c))
  enters_event (Event.Purge w p keys) = inr (moves_in Kind.Purge w (p ∷ []) (record_needs.purge_record (gsns_of s) p keys))
  enters_event (Event.End w commit f) = inr (end_entry (cond commit Kind.Commit Kind.Abort) w (s.worker w) f, refl, λ _. omega arith, refl)
  enters_event _ = inl refl

  pub enters_step : (e : Event) → Enters s e (step g s e).entries
  enters_step e = step_keeps (λ t. Enters s e t.entries) g s e (inl refl) (λ m. enters_event e)

-- a record that comes has a number above what is flushed everywhere
pub late : (g : Opening) (s : State) → Good g s → (e : Event) (r : Entry) → Has r (step g s e).entries → is_record r.kind ≡ true → Has r s.entries ⊎ (flushed_by_all g s < r.number)
late g s i e r h k = go (enters_step g s e)
  where
    t : State
    t = step g s e

    go : Enters s e t.entries → Has r s.entries ⊎ (flushed_by_all g s < r.number)
    go (inl same) = inl (subst (λ (l : List Entry). Has r l) same h)
    go (inr one) = at (subst (λ (l : List Entry). Has r l) one.1 h)
      where
        at : Has r (one.0 ∷ s.entries) → Has r s.entries ⊎ (flushed_by_all g s < r.number)
        at (inr old) = inl old
        at (inl new) = inr (
            let w = (recorded g (flushed_by_all g t) t.entries (good_step g s e i).inv.records r h).0 in
            let up = one.2 (ap (λ (x : Entry). is_record x.kind) (sym new) ∙ k) in
            let c = ap (λ (x : Entry). (s.worker x.log).clock) new in
            let n = ap (λ (x : Entry). x.number) new in
            let f = (i.inv.workers r.log).flushed in
            let l = least_le s.flushed g.workers r.log w in omega arith)

-- ## Changes

-- greater numbers have no fewer
pub has_more : (s : State) (p x n m : ℕ) → n ≤ m → HasChanges s p x n → HasChanges s p x m
has_more s p x n m l h r i t b = let a = h r i t b in omega arith

module _ (residence : EveryResidence) (rises : EveryRise) (g : Opening) (p : ℕ) where
  now : (es : List Event) (x : ℕ) → HasChanges (state_after g es) p x ((state_after g es).page p).gsn
  now es x r h t l =
      let s : State = state_after g es in
      let i : Inv g s = (good g es).inv in
      let a = number_le_gsn g (flushed_by_all g s) p s.entries i.records r h t in let e = (i.stamps p).0 in omega arith

  clean : (es : List Event) (x : ℕ) → ((state_after g es).page p).gsn ≤ ((state_after g es).saved p).gsn → HasChanges (state_after g es) p x ((state_after g es).saved p).gsn
  clean es x l = has_more (state_after g es) p x ((state_after g es).page p).gsn ((state_after g es).saved p).gsn l (now es x)

  cold : (es : List Event) (x : ℕ) → is_cold ((state_after g es).place p) ≡ true → HasChanges (state_after g es) p x ((state_after g es).saved p).gsn
  cold es x c = clean es x (let e = ap (λ (v : Contents). v.gsn) ((residence g es).cold p c) in omega arith)

  -- one event more
  one : (es : List Event) (e : Event) (x n : ℕ) → x ≤ flushed_by_all g (state_after g es) → HasChanges (state_after g es) p x n → HasChanges (state_after g (es ++ e ∷ [])) p x n
  one es e x n low up = subst (λ (t : State). HasChanges t p x n) (sym (state_then g es e)) (λ r h t l. elim (late g s (good g es) e r h (record_of r h t)) [
    | inl old ↦ up r old t l
    | inr new ↦ absurd (omega arith)
  ])
    where
      s : State
      s = state_after g es

      record_of : (r : Entry) → Has r (step g s e).entries → touches p r ≡ true → is_record r.kind ≡ true
      record_of r h t = (recorded g (flushed_by_all g (step g s e)) (step g s e).entries (good_step g s e (good g es)).inv.records r h).1 p t

  more : (later es : List Event) (x n : ℕ) → x ≤ flushed_by_all g (state_after g es) → HasChanges (state_after g es) p x n → HasChanges (state_after g (es ++ later)) p x n
  more [] es x n low up = subst (λ (l : List Event). HasChanges (state_after g l) p x n) (sym (append-nil es)) up
  more (e ∷ later) es x n low up = subst (λ (l : List Event). HasChanges (state_after g l) p x n) (append_assoc es (e ∷ []) later)
      (more later (es ++ e ∷ []) x n (let b = (rises g es (e ∷ [])).flushed_by_all in let q = ap (flushed_by_all g) (state_then g es e) in omega arith) (one es e x n low up))

pub every_change : EveryResidence → EveryRise → EveryChange
every_change residence rises g es p = record {
  now = now residence rises g p es;
  clean = clean residence rises g p es;
  cold = cold residence rises g p es;
  more = λ later. more residence rises g p later es;
}
