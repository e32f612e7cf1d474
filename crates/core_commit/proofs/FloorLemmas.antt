-- Floors of workers: begins alone change them, and never down.
use Rattle.map_model.specs.Lists.{upd}
use Rattle.map_model.specs.Maps.{MapAnswer}
use Rattle.core_state.specs.image_model.Entries.{Entry}
use Rattle.core_state.specs.States.{State, Worker, start, flushed_by_all}
use Rattle.core_state.specs.Openings.{Opening}
use Rattle.core_state.specs.Events.{Event}
use Rattle.core_state.specs.Needs.{are_hot, pages_of, is_worker, needs}
use Rattle.core_state.specs.Steps.{at_pages, put_back, follows, happens, step, run, state_after}
use Rattle.core_commit.specs.Floors.{EveryFloor}
use Rattle.core_commit.proofs.Lists.{least_le}
use Rattle.core_commit.proofs.Copies.{at_place}
use Rattle.core_commit.proofs.Runs.{step_keeps, good_run, good_start}
use Rattle.std.proofs.Common.{◌≡◌, ◌≤◌, ℕ, true, ◌&&◌, not, leb, List, [], ◌∷◌, refl, ap, arith}
use Rattle.std.proofs.lemmas.Bool.{and_parts, leb-true}

module _ (s : State) where
  -- one worker's floor does not fall, and the others' stay
  one : (v : ℕ) (a : Worker) → (s.worker v).floor ≤ a.floor → (w : ℕ) → (s.worker w).floor ≤ (upd s.worker v a w).floor
  one v a l w = at_place (λ j b. (s.worker j).floor ≤ b.floor) s.worker v a w (λ q. let x = ap (λ (i : ℕ). (s.worker i).floor) q in omega arith) (λ _. omega arith)

  pages_stay : (v : ℕ) (a : Worker) (ps : List ℕ) → (at_pages s v a ps).floor ≡ a.floor
  pages_stay v a [] = refl
  pages_stay v a (p ∷ ps) = pages_stay v a ps

  -- a worker that touched pages, whatever else of it changed
  touched : (v : ℕ) (a : Worker) (ps : List ℕ) → a.floor ≡ (at_pages s v (s.worker v) ps).floor → (w : ℕ) → (s.worker w).floor ≤ (upd s.worker v a w).floor
  touched v a ps e = let q = pages_stay v (s.worker v) ps in one v a (omega arith)

floor_event : (g : Opening) (s : State) (e : Event) → needs g s e ≡ true → (w : ℕ) → (s.worker w).floor ≤ ((happens g s e).worker w).floor
floor_event g s (Event.Begin v f) m = one s v _ low
  where
    low : (s.worker v).floor ≤ f
    low =
        let a = and_parts (is_worker g v) (not (s.worker v).is_open && (leb (s.worker v).floor f && leb f (flushed_by_all g s))) m in
        let b = and_parts (not (s.worker v).is_open) (leb (s.worker v).floor f && leb f (flushed_by_all g s)) a.1 in
        leb-true (s.worker v).floor f (and_parts (leb (s.worker v).floor f) (leb f (flushed_by_all g s)) b.1).0
floor_event g s (Event.Lock v i mode) m = one s v _ (omega arith)
floor_event g s (Event.Read v p k a) m = touched s v _ (p ∷ []) refl
floor_event g s (Event.Next v p k a) m = go a
  where
    go : (a : MapAnswer) → (w : ℕ) → (s.worker w).floor ≤ ((follows g s v p a).worker w).floor
    go (MapAnswer.Pair at word) = touched s v _ (p ∷ []) refl
    go (MapAnswer.Gap h) = touched s v _ (p ∷ []) refl
    go (MapAnswer.Value x) = λ w. omega arith
    go (MapAnswer.Was x) = λ w. omega arith
floor_event g s (Event.Change v p k x) m = touched s v _ (p ∷ []) refl
floor_event g s (Event.Put_back v p) m = go (s.worker v).changes
  where
    go : (cs : List Entry) → (w : ℕ) → (s.worker w).floor ≤ ((put_back g s v p cs).worker w).floor
    go [] = λ w. omega arith
    go (c ∷ cs) = touched s v _ (p ∷ []) refl
floor_event g s (Event.Split v l r q i) m = touched s v _ (l ∷ r ∷ q ∷ []) refl
floor_event g s (Event.Lift v c) m = touched s v _ (0 ∷ c ∷ []) refl
floor_event g s (Event.Join v l r q) m = touched s v _ (l ∷ r ∷ q ∷ []) refl
floor_event g s (Event.Drop v c) m = touched s v _ (0 ∷ c ∷ []) refl
floor_event g s (Event.Purge v p keys) m = touched s v _ (p ∷ []) refl
floor_event g s (Event.End v commit f) m = one s v _ (omega arith)
floor_event g s (Event.Sync n) m = λ w. omega arith
floor_event g s _ m = λ w. omega arith

floor_run : (g : Opening) (es : List Event) (s : State) (w : ℕ) → (s.worker w).floor ≤ ((run g s es).worker w).floor
floor_run g [] s w = omega arith
floor_run g (e ∷ es) s w =
    let a = step_keeps (λ t. (s.worker w).floor ≤ (t.worker w).floor) g s e (omega arith) (λ m. floor_event g s e (and_parts (are_hot s (pages_of e)) (needs g s e) m).1 w) in
    let b = floor_run g es (step g s e) w in omega arith

pub every_floor : EveryFloor
every_floor g before after w = record {
  base = let a = floor_run g before (start g) w in let b = rises in omega arith;
  flushed = λ v some among. let a = least_le t.flushed g.workers v (some, among) in let b = all in omega arith;
  flushed_by_all = all;
  rises = rises;
}
  where
    s : State
    s = state_after g before

    t : State
    t = run g s after

    all : (t.worker w).floor ≤ flushed_by_all g t
    all = ((good_run g after s (good_run g before (start g) (good_start g))).inv.workers w).floor

    rises : (s.worker w).floor ≤ (t.worker w).floor
    rises = floor_run g after s w
