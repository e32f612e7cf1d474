-- How far all logs are flushed, and how many commits wait for a flush.
use Rattle.std.proofs.Common.{◌≡◌, ◌⊎◌, inl, inr, ◌≤◌, ◌<◌, ℕ, Bool, true, false, ◌&&◌, ◌==◌, ltb, List, [], ◌∷◌, length, refl, ap, ◌∙◌, arith, true≢false}
use Rattle.std.proofs.lemmas.Bool.{and_left, and_right, cases_Bool, cases_eq, cond-false, le-ltb, ne_eqb}
use Rattle.map_model.specs.Lists.{Has, keep, upd}
use Rattle.map_model.proofs.ListLemmas.{upd_same}
use Rattle.rfa_model.proofs.ReachLemmas.{least_from, least_low}
use Rattle.btree_descent.specs.image_model.Entries.{Entry, is_commit}
use Rattle.btree_descent.specs.core_state.Events.{Event}
use Rattle.btree_descent.specs.core_state.Openings.{Opening}
use Rattle.btree_descent.specs.core_state.States.{State, flushed_by_all}
use Rattle.btree_descent.specs.core_state.Steps.{happens}
use Rattle.btree_descent.proofs.core_commit.Copies.{at_place}
use Rattle.engine_calls.specs.core_calls.LogEvents.{behind}

-- what all logs are flushed up to they are behind a flush
pub floor_flush : (g : Opening) (s : State) (w m floor : ℕ) → s.flushed w ≤ m → floor ≤ flushed_by_all g s → floor ≤ flushed_by_all g (happens g s (Event.Flush w m))
floor_flush g s w m floor rises low = least_from (upd s.flushed w m) g.workers floor g.some_worker each
  where
    each : (u : ℕ) → 0 < u → u ≤ g.workers → floor ≤ upd s.flushed w m u
    each u some high = at_place (λ (v k : ℕ). floor ≤ k) s.flushed w m u (λ e. let q = ap (λ (v : ℕ). s.flushed v) e in let r = rises in let l = was in omega arith) (λ _. was)
      where
        was : floor ≤ s.flushed u
        was = let q = least_low s.flushed g.workers u some high in let l = low in omega arith

-- ## The commits that wait

pub behind_same : (s t : State) (w : ℕ) → t.entries ≡ s.entries → t.flushed w ≡ s.flushed w → behind t w ≡ behind s w
behind_same s t w entries flushed = λ i. length (keep (λ e. is_commit e.kind && ((e.log == w) && ltb (flushed i) e.number)) (entries i))

-- one more entry, which is no commit of w
pub behind_more : (s t : State) (w : ℕ) (r : Entry) → t.entries ≡ r ∷ s.entries → t.flushed w ≡ s.flushed w → (is_commit r.kind && (r.log == w)) ≡ false → behind t w ≡ behind s w
behind_more s t w r entries flushed other =
    (λ i. length (keep (λ e. is_commit e.kind && ((e.log == w) && ltb (flushed i) e.number)) (entries i)))
    ∙ ap (λ (es : List Entry). length es) (cond-false (is_commit r.kind && ((r.log == w) && ltb (s.flushed w) r.number)) (r ∷ rest) rest (past (is_commit r.kind) (r.log == w) (ltb (s.flushed w) r.number) other))
  where
    rest : List Entry
    rest = keep (λ e. is_commit e.kind && ((e.log == w) && ltb (s.flushed w) e.number)) s.entries

    past : (a b c : Bool) → (a && b) ≡ false → (a && (b && c)) ≡ false
    past false b c e = refl
    past true false c e = refl
    past true true c e = absurd (true≢false e)

-- and none does behind a flush up to the last
pub behind_flush : (g : Opening) (s : State) (w m : ℕ) → ((e : Entry) → Has e s.entries → is_commit e.kind ≡ true → e.log ≡ w → e.number ≤ m) → behind (happens g s (Event.Flush w m)) w ≡ 0
behind_flush g s w m last = (λ i. length (keep (λ e. is_commit e.kind && ((e.log == w) && ltb (upd_same s.flushed w m w refl i) e.number)) s.entries)) ∙ none s.entries last
  where
    waits : Entry → Bool
    waits e = is_commit e.kind && ((e.log == w) && ltb m e.number)

    flushed : (e : Entry) → (is_commit e.kind ≡ true → e.log ≡ w → e.number ≤ m) → waits e ≡ false
    flushed e low = go (cases_Bool (is_commit e.kind)) (cases_eq e.log w)
      where
        go : (is_commit e.kind ≡ true) ⊎ (is_commit e.kind ≡ false) → (e.log ≡ w) ⊎ (e.log ≡ w → ⊥) → waits e ≡ false
        go (inr q) _ = and_left (is_commit e.kind) ((e.log == w) && ltb m e.number) q
        go (inl q) (inr other) = and_right (is_commit e.kind) ((e.log == w) && ltb m e.number) (and_left (e.log == w) (ltb m e.number) (ne_eqb e.log w other))
        go (inl q) (inl own) = and_right (is_commit e.kind) ((e.log == w) && ltb m e.number) (and_right (e.log == w) (ltb m e.number) (le-ltb m e.number (low q own)))

    none : (es : List Entry) → ((e : Entry) → Has e es → is_commit e.kind ≡ true → e.log ≡ w → e.number ≤ m) → length (keep (λ e. is_commit e.kind && ((e.log == w) && ltb m e.number)) es) ≡ 0
    none [] low = refl
    none (x ∷ es) low = ap (λ (l : List Entry). length l) (cond-false (waits x) (x ∷ keep (λ e. is_commit e.kind && ((e.log == w) && ltb m e.number)) es) (keep (λ e. is_commit e.kind && ((e.log == w) && ltb m e.number)) es) (flushed x (low x (inl refl))))
        ∙ none es (λ e h. low e (inr h))
