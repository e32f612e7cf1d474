-- What stands where the head has passed blocks that are synced.
use Rattle.std.proofs.Common.{◌≡◌, ⊎_elim, inl, inr, ℕ, zero, suc, ◌+◌, ◌-◌, ◌*◌, ◌%◌, ◌^◌, ◌≤◌, ◌<◌, List, [], ◌∷◌, ◌++◌, length, drop, take, refl, sym, ◌∙◌, ap, subst, arith, append_assoc}
use Rattle.std.proofs.lemmas.List.{drop-drop, drop-take, length-drop}
use Rattle.map_model.specs.Lists.{Has}
use Rattle.lean_disk.specs.Area.{Area, Write}
use Rattle.disk_image.specs.log_record.declared.record.Record.{Record}
use Rattle.disk_image.specs.log_block.Block.{Belongs}
use Rattle.disk_image.specs.Runs.{Block}
use Rattle.disk_image.proofs.BlockInLemmas.{every_belongs}
use Rattle.worker_log.specs.Logs.{Log}
use Rattle.worker_log.specs.Accounts.{Account, joined, spelled_from}
use Rattle.worker_log.specs.Kept.{HoldsBlocks, IsBlockWrite, IsInRange, IsKept, IsOwnWrite, IsPassed, RiseFrom, cut, ends_of}
use Rattle.worker_log.specs.Calls.{cut_log}
use Rattle.worker_log.specs.Laws.{EveryCut, IsCutOff}
use Rattle.worker_log.proofs.ListLemmas.{fit_blocks-drop, joined-dropped, rise-behind, spelled-belongs, spelled-dropped, spelled-split}

-- blocks in two parts have the records of both
joined-split : (k : ℕ) (ws : List (List Record)) → joined (take k ws) ++ joined (drop k ws) ≡ joined ws
joined-split zero ws = refl
joined-split (suc k) [] = refl
joined-split (suc k) (v ∷ ws) = append_assoc v (joined (take k ws)) (joined (drop k ws)) ∙ ap (λ (rs : List Record). v ++ rs) (joined-split k ws)

pub ends-drop : (k : ℕ) (ws : List (List Record)) → ends_of (drop k ws) ≡ drop k (ends_of ws)
ends-drop zero ws = refl
ends-drop (suc k) [] = refl
ends-drop (suc k) (v ∷ ws) = ends-drop k ws

module _ (k : ℕ) (x : Account) (log : Log) (area : Area) (ranges : IsInRange log) (le : k ≤ x.synced) (low : log.head + k < 2 ^ 63) (kept : IsKept x log area) where
  abbrev ws : List (List Record)
  ws = x.written

  abbrev rest : List (List Record)
  rest = drop k ws

  abbrev g : ℕ
  g = log.generation

  abbrev n : ℕ
  n = log.blocks

  long : length rest ≡ length ws - k
  long = length-drop k ws

  -- the synced ones of the rest
  synced_rest : take (x.synced - k) rest ≡ drop k (take x.synced ws)
  synced_rest = sym (drop-take k (x.synced - k) ws) ∙ ap (λ (i : ℕ). drop k (take i ws)) (let e : k + (x.synced - k) ≡ x.synced = omega arith in e)

  -- and the others
  late_rest : drop (x.synced - k) rest ≡ drop x.synced ws
  late_rest = drop-drop (x.synced - k) k ws ∙ ap (λ (i : ℕ). drop i ws) (let e : k + (x.synced - k) ≡ x.synced = omega arith in e)

  written_belongs : (b : Block) → Has b (spelled_from g log.log log.head ws) → Belongs g log.log b.number b.bytes
  written_belongs b has = (every_belongs g log.log b.number b.bytes).0
      (spelled-belongs g log.log ranges.generation (omega (arith, ranges.number.1)) log.head ws (omega (arith, kept.ring, ranges.head, ranges.some.1)) kept.fit.0 b has)

  -- a write of the log is one still
  own : (w : Write) → Has w kept.holds.since → IsOwnWrite g log.log n (log.head + k) rest w
  own w has = ⊎_elim
      (λ (it : IsBlockWrite n (spelled_from g log.log log.head ws) w). ⊎_elim
      (λ (lt : it.block.number < log.head + k). inr (record { block = it.block; below = lt; belongs = written_belongs it.block it.has; at = it.at }))
      (λ (behind : Has it.block (spelled_from g log.log (log.head + k) rest)). inl (record { block = it.block; has = behind; at = it.at }))
      (spelled-split g log.log k log.head ws it.block it.has))
      (λ (old : IsPassed g log.log n log.head w). inr (record { block = old.block; below = (let b = old.below in omega arith); belongs = old.belongs; at = old.at }))
      (kept.holds.blocks w has)

  holds : HoldsBlocks g log.log n (log.head + k) x.first x.older rest (x.synced - k) area
  holds = record {
    since = kept.holds.since;
    writes = kept.holds.writes;
    blocks = own;
    new = kept.holds.new;
    fair = kept.holds.fair;
    reads = λ b has. kept.holds.reads b (spelled-dropped g log.log k log.head ws b has);
    late = record { late = λ range has. let it = kept.holds.late.late range has in (it.0, omega (arith, it.1, le), omega (arith, it.2, long, kept.synced, le), it.3) };
    end = λ b has. kept.holds.end b (spelled-dropped g log.log k log.head (take x.synced ws) b (subst (λ (l : List (List Record)). Has b (spelled_from g log.log (log.head + k) l)) synced_rest has));
    reach = subst (λ (q : ℕ). 2048 * (q % n) ≤ length area.bytes) (let e : log.head + length ws ≡ log.head + k + length rest = omega (arith, long, kept.synced, le) in e) kept.holds.reach;
  }

  -- the records behind the head rise still
  rises : (least : ℕ) × RiseFrom least (joined rest ++ x.current) log.last
  rises = rise-behind kept.numbers.0 (joined (take k ws)) (joined rest ++ x.current) log.last
      (subst (λ (l : List Record). RiseFrom kept.numbers.0 l log.last)
      (sym (sym (append_assoc (joined (take k ws)) (joined rest) x.current) ∙ ap (λ (l : List Record). l ++ x.current) (joined-split k ws))) kept.numbers.1)

  cut_kept : IsKept (cut k x) (cut_log k log) area
  cut_kept = record {
    next = omega (arith, kept.next, long, kept.synced, le);
    payload = kept.payload;
    count = kept.count;
    fit = (fit_blocks-drop k ws kept.fit.0, kept.fit.1);
    ring = omega (arith, long, kept.ring);
    numbers = rises;
    ends = ap (drop k) kept.ends ∙ sym (ends-drop k ws);
    ending = kept.ending;
    synced = omega (arith, long, kept.synced, le);
    below = λ r has. kept.below r (joined-dropped k (take x.synced ws) r (subst (λ (l : List (List Record)). Has r (joined l)) synced_rest has));
    above = λ r has. kept.above r (subst (λ (l : List (List Record)). Has r (joined l ++ x.current)) late_rest has);
    holds = holds;
  }

  pub cut_off : IsCutOff k x log area
  cut_off = record {
    ranges = record {
      generation = ranges.generation;
      number = ranges.number;
      some = ranges.some;
      head = low;
      ring = (let r = ranges.ring in omega arith);
    };
    kept = cut_kept;
  }

pub every_cut : EveryCut
every_cut k x log area ranges le low kept = cut_off k x log area ranges le low kept
