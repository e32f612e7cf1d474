-- A call on a log is a step of a run.
use Rattle.std.proofs.Common.{◌≡◌, ◌≤◌, ◌<◌, ◌+◌, ◌-◌, ◌↔◌, ◌==◌, ℕ, suc, Bool, true, false, cond, [], ◌∷◌, length, List, Result, Ok, Err, ⊎_elim, refl, sym, ap, ◌∙◌, subst, arith}
use Rattle.std.proofs.lemmas.Bool.{cases_lt}
use Rattle.std.specs.Result.{IsErrAnd, OnOk}
use Rattle.lean_disk.specs.Moments.{CrashIn, Framed, LeavesOnly}
use Rattle.lean_disk.specs.Story.{Crash, Story, Tells}
use Rattle.lean_disk.proofs.MomentLemmas.{weaker}
use Rattle.disk_runs.specs.log_record.declared.record.Record.{Record}
use Rattle.disk_runs.specs.core_state.Openings.{Opening}
use Rattle.disk_runs.specs.core_state.Events.{Event}
use Rattle.disk_runs.specs.disk_image.Laws.{EverySealed}
use Rattle.disk_runs.specs.worker_log.Accounts.{Account}
use Rattle.disk_runs.specs.worker_log.Calls.{After, flushed_log}
use Rattle.disk_runs.specs.worker_log.Logs.{Log, limit, used}
use Rattle.disk_runs.specs.worker_log.Causes.{IsFull, IsLogFull}
use Rattle.disk_runs.specs.worker_log.declared.log.Staging.{Staging}
use Rattle.disk_runs.specs.log_block.Block.{records_text}
use Rattle.disk_runs.specs.worker_log.Kept.{IsInRange, IsKept, LeavesBlocks, StagesTo, flushed}
use Rattle.disk_runs.specs.worker_log.Laws.{EveryFlushed, EveryKept, EveryPrefix, EveryStaged}
use Rattle.disk_runs.specs.core_disk.Versions.{EveryVersion}
use Rattle.disk_runs.specs.Stands.{Known}
use Rattle.disk_runs.proofs.StandLemmas.{every_flush, every_log_call, every_stage}
use Rattle.log_calls.specs.Calls.{Anything, FlushesOn, IsLog, KeepsMoments, KeepsNotes, KeepsWithin, StagesOn}

-- what worker_log says of a call's moments
abbrev pub Moments : ℕ → Log → (old new : Story) → Type 0
Moments a was old new = (x : Account) → (Tells old a → IsKept x was (old.area a)) → LeavesOnly old new (CrashIn old a (LeavesBlocks x was))

-- and of a disk in place of its area
pub on_disk : {A : Type 0} (story : A → Story) (lent disk after back : A) (area a : ℕ) (was : Log) → lent ≡ disk → after ≡ back → area ≡ a → Moments area was (story lent) (story after) → Moments a was (story disk) (story back)
on_disk story lent disk after back area a was same ends at m = subst (λ (k : ℕ). Moments k was (story disk) (story back)) at (subst (λ d. Moments area was (story d) (story back)) same (subst (λ d. Moments area was (story lent) (story d)) ends m))

module _ (a w : ℕ) (at : a ≡ suc w) (was is : Log) (old new : Story) where
  -- the moments of the call, of a log over which a run goes on
  in_run : Moments a was old new → (s0 : Crash) (g : Opening) (es : List Event) (x : Known) → IsLog g es s0 x w was old → LeavesOnly old new (CrashIn old (suc w) (LeavesBlocks (x.account w) (x.log w)))
  in_run m s0 g es x it =
      let here : Moments (suc w) was old new = subst (λ (k : ℕ). Moments k was old new) at m in
      subst (λ (l : Log). LeavesOnly old new (CrashIn old (suc w) (LeavesBlocks (x.account w) l))) (sym it.is)
      (here (x.account w) (λ t. subst (λ (l : Log). IsKept (x.account w) l (old.area (suc w))) it.is (it.stands.logs w it.low it.high).kept))

  pub moments : EveryKept → EveryPrefix → EverySealed → Moments a was old new → KeepsMoments w was old new
  moments keeps prefixes seals m s0 g es x it = every_log_call keeps prefixes seals old new s0 g es x w it.stands it.low it.high (in_run m s0 g es x it)

  pub notes : Moments a was old new → KeepsNotes w was old new
  notes m s0 g es x it = weaker old new (CrashIn old (suc w) (LeavesBlocks (x.account w) (x.log w))) (λ c. c.notes ≡ old.notes) (λ c i. i.notes) (in_run m s0 g es x it)

  pub within : Moments a was old new → KeepsWithin w was old new
  within m s0 g es x it =
      let next : suc w ≡ w + 1 = omega arith in
      subst (λ (k : ℕ). LeavesOnly old new (CrashIn old k Anything)) next
      (weaker old new (CrashIn old (suc w) (LeavesBlocks (x.account w) (x.log w))) (CrashIn old (suc w) Anything)
      (λ c i. record { notes = i.notes; writes = i.writes; leaves = i.leaves; here = tt }) (in_run m s0 g es x it))

  pub frame : Framed a old new → Framed (w + 1) old new
  frame f = let next : a ≡ w + 1 = omega arith in subst (λ (k : ℕ). Framed k old new) next f

  pub stages : EveryVersion → EveryStaged → (r : Record) → was.last < r.gsn → IsInRange is → After r was is → Framed a old new
      → ((x : Account) → Tells new a → IsKept x was (old.area a) → StagesTo r x was is (new.area a)) → StagesOn w r was is old new
  stages versions once r rises ranges after frame kept s0 g es x e it no_cut records =
      let f : Framed (suc w) old new = subst (λ (k : ℕ). Framed k old new) at frame in
      let k : (y : Account) → Tells new (suc w) → IsKept y was (old.area (suc w)) → StagesTo r y was is (new.area (suc w)) =
      subst (λ (j : ℕ). (y : Account) → Tells new j → IsKept y was (old.area j) → StagesTo r y was is (new.area j)) at kept in
      every_stage versions once old new s0 g es w r e x is it.stands (record {
        low = it.low;
        high = it.high;
        event = no_cut;
        records = records;
        rises = subst (λ (l : Log). l.last < r.gsn) (sym it.is) rises;
        ranges = ranges;
        after = subst (λ (l : Log). After r l is) (sym it.is) after;
        kept = λ y was_kept. subst (λ (l : Log). StagesTo r y l is (new.area (suc w))) (sym it.is)
            (k y (f.tells (suc w) ∙ it.stands.tells (suc w) (let h = it.high in omega arith)) (subst (λ (l : Log). IsKept y l (old.area (suc w))) it.is was_kept));
        frame = f;
      })

  pub flushes : EveryVersion → EveryFlushed → IsInRange is → is ≡ flushed_log was → Framed a old new
      → ((x : Account) → Tells new a → IsKept x was (old.area a) → IsKept (flushed x) is (new.area a)) → FlushesOn w was is old new
  flushes versions whole ranges after frame kept s0 g es x e n it no_cut moved within =
      let f : Framed (suc w) old new = subst (λ (k : ℕ). Framed k old new) at frame in
      let k : (y : Account) → Tells new (suc w) → IsKept y was (old.area (suc w)) → IsKept (flushed y) is (new.area (suc w)) =
      subst (λ (j : ℕ). (y : Account) → Tells new j → IsKept y was (old.area j) → IsKept (flushed y) is (new.area j)) at kept in
      every_flush versions whole old new s0 g es w e x is it.stands (record {
        low = it.low;
        high = it.high;
        event = no_cut;
        number = n;
        flushes = moved;
        within = subst (λ (l : Log). n ≤ l.last) (sym it.is) within;
        ranges = ranges;
        after = after ∙ ap flushed_log (sym it.is);
        kept = λ y was_kept. k y (f.tells (suc w) ∙ it.stands.tells (suc w) (let h = it.high in omega arith)) (subst (λ (l : Log). IsKept y l (old.area (suc w))) it.is was_kept);
        frame = f;
      })

pub one_more : (w : ℕ) → 1 + w ≡ suc w
one_more w = omega arith

-- two facts of a call that was answered give a third
pub on_ok : {T E P Q : Type 0} (R : Type 0) (r : Result T E) → OnOk r P → OnOk r Q → (P → Q → R) → OnOk r R
on_ok R (Ok a) p q f = f p q
on_ok R (Err e) p q f = tt

-- the last record is the one that was staged
pub staged_last : (r : Record) (was is : Log) → After r was is → is.last ≡ r.gsn
staged_last r was is after = ⊎_elim
    (λ (no_room : 2000 < length was.payload + length (records_text (r ∷ []))). ap (λ (l : Log). l.last) (after.full (λ room. omega arith)))
    (λ (room : length was.payload + length (records_text (r ∷ [])) ≤ 2000). ap (λ (l : Log). l.last) (after.room room))
    (cases_lt 2000 (length was.payload + length (records_text (r ∷ []))))

few : (next head n : ℕ) → ((next + 1) - head) + 1 ≤ (next - head) + n + 2
few next head n = omega arith

-- no more than two blocks more are used than before
staged_used : (r : Record) (was is : Log) → After r was is → (used is ≤ used was + 2) × (is.blocks ≡ was.blocks)
staged_used r was is after = ⊎_elim
    (λ (no_room : 2000 < length was.payload + length (records_text (r ∷ []))). subst (λ (l : Log). (used l ≤ used was + 2) × (l.blocks ≡ was.blocks)) (sym (after.full (λ room. omega arith)))
    (few was.next was.head (cond (was.count == 0) 0 1), refl))
    (λ (room : length was.payload + length (records_text (r ∷ [])) ≤ 2000). subst (λ (l : Log). (used l ≤ used was + 2) × (l.blocks ≡ was.blocks)) (sym (after.room room))
    (one_block (was.count + 1 == 0) (was.count == 0) (was.next - was.head), refl))
    (cases_lt 2000 (length was.payload + length (records_text (r ∷ []))))
  where
    one_block : (a b : Bool) (x : ℕ) → x + cond a 0 1 ≤ x + cond b 0 1 + 2
    one_block true true x = omega arith
    one_block true false x = omega arith
    one_block false true x = omega arith
    one_block false false x = omega arith

-- behind a change there is room for an end
pub has_room : {T : Type 0} (result : Result T Staging) (r : Record) (was is : Log) → (IsErrAnd result IsLogFull ↔ IsFull was) → OnOk result (After r was is) → OnOk result (used is + 1 ≤ is.blocks)
has_room (Ok a) r was is cause after =
    let u = (staged_used r was is after).0 in
    let b = (staged_used r was is after).1 in
    ⊎_elim
    (λ (low : used was < limit was). omega arith)
    (λ (full : limit was ≤ used was). absurd (cause.1 full))
    (cases_lt (used was) (limit was))
has_room (Err e) r was is cause after = tt
