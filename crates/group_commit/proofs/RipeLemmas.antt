-- For which log a receipt waits.
use Rattle.std.proofs.Common.{◌≡◌, ◌<◌, ◌≤◌, ◌+◌, ◌-◌, ℕ, zero, suc, Bool, true, false, cond, leb, List, [], ◌∷◌, length, get_or, refl, sym, ap, ◌∙◌, inl, inr, arith}
use Rattle.std.proofs.lemmas.Bool.{leb-true, leb-false, le-leb, cond-true}
use Rattle.core_crash.specs.image_model.Entries.{Entry, is_commit}
use Rattle.core_crash.specs.core_state.Openings.{Opening}
use Rattle.core_crash.specs.core_state.States.{State}
use Rattle.core_crash.proofs.core_commit.Lists.{least_le, le_least}
use Rattle.core_calls.specs.Durables.{is_ripe}
use Rattle.core_calls.proofs.DurableLemmas.{ripe_from, ripe_to}
use Rattle.group_commit.specs.declared.receipts.Receipt.{Receipt}
use Rattle.group_commit.specs.declared.receipts.Ripeness.TheVariants.{Durable, Waits}
use Rattle.group_commit.specs.Ripeness.{flushed_of, ripeness_of, waits_from}
use Rattle.group_commit.specs.Tracks.{AreFlushed, Tells}
use Rattle.group_commit.specs.Laws.{WaitLaws, EveryRipe}

-- ## Of a list of numbers

waits_not : (log need f : ℕ) → Waits log f ≡ Durable → ⊥
waits_not log need f e = cc

none_from : (log need : ℕ) (fs : List ℕ) → ((i : ℕ) → i < length fs → need ≤ get_or fs i 0) → waits_from log need fs ≡ Durable
none_from log need [] h = refl
none_from log need (f ∷ fs) h = cond-true (leb need f) (waits_from (suc log) need fs) (Waits log f) (le-leb need f (h 0 (omega arith))) ∙ none_from (suc log) need fs (λ i l. h (suc i) (omega arith))

from_none : (log need : ℕ) (fs : List ℕ) → waits_from log need fs ≡ Durable → (i : ℕ) → i < length fs → need ≤ get_or fs i 0
from_none log need [] e i l = absurd (omega arith)
from_none log need (f ∷ fs) e i l = go (from_none (suc log) need fs) (leb need f) refl e i l
  where
    go : (waits_from (suc log) need fs ≡ Durable → (i : ℕ) → i < length fs → need ≤ get_or fs i 0) → (b : Bool) → leb need f ≡ b → cond b (waits_from (suc log) need fs) (Waits log f) ≡ Durable → (i : ℕ) → i < suc (length fs) → need ≤ get_or (f ∷ fs) i 0
    go ih true q k zero m = leb-true need f q
    go ih true q k (suc j) m = ih k j (omega arith)
    go ih false q k j m = absurd (waits_not log need f k)

record WaitsAt (log need : ℕ) (fs : List ℕ) (w f : ℕ) : Type 0 where
  at : ℕ
  within : at < length fs
  is : w ≡ log + at
  flushed : f ≡ get_or fs at 0
  below : f < need
  before : (j : ℕ) → j < at → need ≤ get_or fs j 0

waits_is : (log need : ℕ) (fs : List ℕ) (w f : ℕ) → waits_from log need fs ≡ Waits w f → WaitsAt log need fs w f
waits_is log need [] w f e = absurd (waits_not w need f (sym e))
waits_is log need (x ∷ fs) w f e = go (waits_is (suc log) need fs w f) (leb need x) refl e
  where
    go : (waits_from (suc log) need fs ≡ Waits w f → WaitsAt (suc log) need fs w f) → (b : Bool) → leb need x ≡ b → cond b (waits_from (suc log) need fs) (Waits log x) ≡ Waits w f → WaitsAt log need (x ∷ fs) w f
    go ih true q k =
        let r = ih k in let a = r.is in let b = r.within in
        record { at = suc r.at; within = omega arith; is = omega arith; flushed = r.flushed; below = r.below; before = before r }
      where
        before : (r : WaitsAt (suc log) need fs w f) → (j : ℕ) → j < suc r.at → need ≤ get_or (x ∷ fs) j 0
        before r zero l = leb-true need x q
        before r (suc j) l = r.before j (omega arith)
    go ih false q k =
        let a : log ≡ w = cc in let b : x ≡ f = cc in let c = leb-false need x q in
        record { at = 0; within = omega arith; is = omega arith; flushed = sym b; below = omega arith; before = λ j l. absurd (omega arith) }

-- ## Of a receipt

module _ (g : Opening) (s : State) (e : Entry) (fs : List ℕ) (r : Receipt) (flushed : AreFlushed g s fs) (tells : Tells r e) (commit : is_commit e.kind ≡ true) (some : 0 < e.log) (within : e.log ≤ g.workers) where
  own : flushed_of fs r.log ≡ s.flushed e.log
  own = ap (flushed_of fs) tells.log ∙ flushed.each e.log some within

  at_log : (i : ℕ) → i < length fs → get_or fs i 0 ≡ s.flushed (suc i)
  at_log i l = ap (λ (j : ℕ). get_or fs j 0) at ∙ flushed.each (suc i) (omega arith) (let a = flushed.logs in omega arith)
    where
      at : i ≡ suc i - 1
      at = omega arith

  -- its own log is flushed, and so is each other as far as it needs
  durable_to : ripeness_of fs r ≡ Durable → is_ripe g s e ≡ true
  durable_to q = go (leb r.gsn (flushed_of fs r.log)) refl q
    where
      go : (b : Bool) → leb r.gsn (flushed_of fs r.log) ≡ b → cond b (waits_from 1 r.need fs) (Waits r.log (flushed_of fs r.log)) ≡ Durable → is_ripe g s e ≡ true
      go true k q = ripe_from g s e (record {
        commit = commit;
        flushed = (let a = leb-true r.gsn (flushed_of fs r.log) k in let b = own in let c = tells.gsn in omega arith);
        need = le_least s.flushed g.workers e.need g.some_worker (λ i l. each i l.0 l.1);
      })
        where
          each : (i : ℕ) → 0 < i → i ≤ g.workers → e.need ≤ s.flushed i
          each i z l =
              let a = from_none 1 r.need fs q (i - 1) (let b = flushed.logs in omega arith) in
              let c = tells.need in let d = flushed.each i z l in omega arith
      go false k q = absurd (waits_not r.log r.need (flushed_of fs r.log) q)

  durable_from : is_ripe g s e ≡ true → ripeness_of fs r ≡ Durable
  durable_from q =
      let p = ripe_to g s e q in
      cond-true (leb r.gsn (flushed_of fs r.log)) (waits_from 1 r.need fs) (Waits r.log (flushed_of fs r.log)) (le-leb r.gsn (flushed_of fs r.log) (let a = p.flushed in let b = own in let c = tells.gsn in omega arith))
      ∙ none_from 1 r.need fs each
    where
      each : (i : ℕ) → i < length fs → r.need ≤ get_or fs i 0
      each i l =
          let p = (ripe_to g s e q).need in let a = least_le s.flushed g.workers (suc i) (omega arith, (let b = flushed.logs in omega arith)) in
          let c = at_log i l in let d = tells.need in omega arith

  waits : (w f : ℕ) → ripeness_of fs r ≡ Waits w f → WaitLaws g s e w f
  waits w f q = go (leb r.gsn (flushed_of fs r.log)) refl q
    where
      go : (b : Bool) → leb r.gsn (flushed_of fs r.log) ≡ b → cond b (waits_from 1 r.need fs) (Waits r.log (flushed_of fs r.log)) ≡ Waits w f → WaitLaws g s e w f
      go false k q =
          let a : r.log ≡ w = cc in let b : flushed_of fs r.log ≡ f = cc in let c = leb-false r.gsn (flushed_of fs r.log) k in let d = tells.gsn in let l = tells.log in
          record { log = (omega arith, omega arith); flushed = sym b ∙ (own ∙ ap s.flushed (sym l ∙ a)); behind = inl (sym a ∙ l, omega arith) }
      go true k q = record {
        log = (let a = p.is in omega arith, (let a = p.is in let b = p.within in let c = flushed.logs in omega arith));
        flushed = p.flushed ∙ (at_log p.at p.within ∙ ap s.flushed (sym at));
        behind = inr ((let a = leb-true r.gsn (flushed_of fs r.log) k in let b = own in let c = tells.gsn in omega arith), (let a = p.below in let b = tells.need in omega arith), before);
      }
        where
          p : WaitsAt 1 r.need fs w f
          p = waits_is 1 r.need fs w f q

          at : w ≡ suc p.at
          at = let a = p.is in omega arith

          before : (v : ℕ) → 0 < v → v < w → e.need ≤ s.flushed v
          before v z l =
              let a = p.before (v - 1) (let b = at in omega arith) in
              let c = flushed.each v z (let b = at in let d = p.within in let n = flushed.logs in omega arith) in
              let d = tells.need in omega arith

pub every_ripe : EveryRipe
every_ripe g s e fs r flushed tells commit some within = record {
  durable = (durable_to g s e fs r flushed tells commit some within, durable_from g s e fs r flushed tells commit some within);
  waits = waits g s e fs r flushed tells commit some within;
}
