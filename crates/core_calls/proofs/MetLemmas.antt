-- A scan has the row of each entry that it met.
use Rattle.std.proofs.Common.{◌≡◌, ◌⊎◌, ◌==◌, ◌||◌, ℕ, suc, Bool, true, false, cond, List, [], ◌∷◌, ◌++◌, inl, inr, refl, sym, ap, subst, ◌∙◌, true≢false}
use Rattle.std.proofs.lemmas.Bool.{cases_eq, cond-true, cond-false, eq-eqb, ne_eqb, or_left, or_right}
use Rattle.map_model.specs.Lists.{Has, keep}
use Rattle.map_model.specs.Maps.{MapAnswer}
use Rattle.core_crash.specs.core_state.Openings.{Opening}
use Rattle.core_crash.specs.core_state.States.{Row, State}
use Rattle.core_crash.specs.core_state.Events.{Event, Mode}
use Rattle.core_crash.specs.core_state.Local.{publishes_row}
use Rattle.core_crash.specs.core_state.Needs.{holds_row, is_held_by, is_reader, may}
use Rattle.core_crash.specs.core_state.Steps.{AllMet, happens, locked, state_after, step}
use Rattle.core_crash.proofs.core_state.Locality.{every_local}
use Rattle.core_calls.specs.Deeds.{Deed, Met, Over}
use Rattle.core_calls.specs.Fronts.{front, outcomes}
use Rattle.core_calls.specs.Runs.{EveryMet}
use Rattle.core_calls.specs.Scans.{HoldsMet, ScansRows, TakesMet, behind, is_scan}
use Rattle.core_calls.specs.Steps.{Goes, Walks, is_step, scan_from}

-- ## One row

-- who takes a row shared has it
locked_own : (o : Row) (w : ℕ) → holds_row (locked o w Mode.Shared) w ≡ true
locked_own o w = go (is_held_by o.holder w) (is_reader w o.readers) refl refl
  where
    go : (a b : Bool) → is_held_by o.holder w ≡ a → is_reader w o.readers ≡ b → holds_row (cond a o (record o { readers = cond b o.readers (w ∷ o.readers) })) w ≡ true
    go true b p q = or_left (is_held_by o.holder w) (is_reader w o.readers) p
    go false true p q = or_right (is_held_by o.holder w) (is_reader w o.readers) q
    go false false p q = or_right (is_held_by o.holder w) ((w == w) || is_reader w o.readers) (or_left (w == w) (is_reader w o.readers) (eq-eqb w w refl))

module _ (g : Opening) (w : ℕ) where
  -- a row that an event does not publish
  kept_row : (s : State) (e : Event) (i : ℕ) → publishes_row e i ≡ false → holds_row (s.row i) w ≡ true → holds_row ((step g s e).row i) w ≡ true
  kept_row s e i h r = go (may g s e)
    where
      go : (b : Bool) → holds_row ((cond b (happens g s e) s).row i) w ≡ true
      go true = ap (λ (o : Row). holds_row o w) ((every_local g s e).rows i h) ∙ r
      go false = r

  -- its own lock of a row
  taken_row : (s : State) (i j : ℕ) → may g s (Event.Lock w i Mode.Shared) ≡ true → (j ≡ i) ⊎ (holds_row (s.row j) w ≡ true) → holds_row ((step g s (Event.Lock w i Mode.Shared)).row j) w ≡ true
  taken_row s i j m h =
      ap (λ (t : State). holds_row (t.row j) w) (cond-true (may g s (Event.Lock w i Mode.Shared)) (happens g s (Event.Lock w i Mode.Shared)) s m) ∙ elim (cases_eq j i) [
        | inl q ↦ ap (λ (o : Row). holds_row o w) (cond-true (j == i) (locked (s.row i) w Mode.Shared) (s.row j) (eq-eqb j i q)) ∙ locked_own (s.row i) w
        | inr n ↦ ap (λ (o : Row). holds_row o w) (cond-false (j == i) (locked (s.row i) w Mode.Shared) (s.row j) (ne_eqb j i n)) ∙ other n h
      ]
    where
      other : (j ≡ i → ⊥) → (j ≡ i) ⊎ (holds_row (s.row j) w ≡ true) → holds_row (s.row j) w ≡ true
      other n (inl q) = absurd (n q)
      other n (inr r) = r

  -- ## A walk

  last_or_before : (i j : ℕ) (taken : List ℕ) → Has j (taken ++ i ∷ []) → (j ≡ i) ⊎ Has j taken
  last_or_before i j [] (inl q) = inl q
  last_or_before i j [] (inr q) = absurd q
  last_or_before i j (x ∷ xs) (inl q) = inr (inl q)
  last_or_before i j (x ∷ xs) (inr q) = go (last_or_before i j xs q)
    where
      go : (j ≡ i) ⊎ Has j xs → (j ≡ i) ⊎ ((j ≡ x) ⊎ Has j xs)
      go (inl p) = inl p
      go (inr p) = inr (inr p)

  abbrev Has_all : State → List ℕ → Type 0
  Has_all s taken = (j : ℕ) → Has j taken → holds_row (s.row j) w ≡ true

  has_none : (s : State) → Has_all s []
  has_none s j h = absurd h

  -- behind its own lock
  lock_held : (Q : State → ℕ → List ℕ → Type 0) (s : State) (here : ℕ) (taken : List ℕ) (v i : ℕ) (es : List Event) → v ≡ w
      → (AllMet g (step g s (Event.Lock w i Mode.Shared)) es → TakesMet g (step g s (Event.Lock w i Mode.Shared)) here (taken ++ i ∷ []) es Q → Has_all (step g s (Event.Lock w i Mode.Shared)) (taken ++ i ∷ []) → HoldsMet g (step g s (Event.Lock w i Mode.Shared)) es)
      → AllMet g s (Event.Lock v i Mode.Shared ∷ es) → TakesMet g s here taken (Event.Lock v i Mode.Shared ∷ es) Q → Has_all s taken → HoldsMet g (step g s (Event.Lock v i Mode.Shared)) es
  lock_held Q s here taken v i es e ih m t h = subst (λ (u : ℕ). AllMet g s (Event.Lock u i Mode.Shared ∷ es) → TakesMet g s here taken (Event.Lock u i Mode.Shared ∷ es) Q → HoldsMet g (step g s (Event.Lock u i Mode.Shared)) es) (sym e)
      (λ m t. ih m.1 t (λ j r. taken_row s i j m.0 (go j (last_or_before i j taken r)))) m t
    where
      go : (j : ℕ) → (j ≡ i) ⊎ Has j taken → (j ≡ i) ⊎ (holds_row (s.row j) w ≡ true)
      go j (inl q) = inl q
      go j (inr q) = inr (h j q)

  met_held : (P : ℕ → Type 0) (Q : State → ℕ → List ℕ → Type 0) (s : State) (at here : ℕ) (taken : List ℕ) (es : List Event) → AllMet g s es → Walks w at (keep is_step es) P → TakesMet g s here taken es Q → Has_all s taken → HoldsMet g s es
  met_held P Q s at here taken [] m x t h = tt
  met_held P Q s at here taken (Event.Lock v i Mode.Shared ∷ es) m x t h = lock_held Q s here taken v i es x.0 (λ m t h. met_held P Q (step g s (Event.Lock w i Mode.Shared)) at here (taken ++ i ∷ []) es m x.1 t h) m t h
  met_held P Q s at here taken (Event.Lock v i Mode.Alone ∷ es) m x t h = absurd x
  met_held P Q s at here taken (Event.Next v p k (MapAnswer.Pair j y) ∷ es) m x t h =
      ((λ i r. ap (λ (u : ℕ). holds_row (s.row i) u) x.0 ∙ h i (subst (Has i) (sym t.0) r)), met_held P Q (step g s (Event.Next v p k (MapAnswer.Pair j y))) (suc j) (behind (MapAnswer.Pair j y) here) [] es m.1 x.2 t.1 (has_none (step g s (Event.Next v p k (MapAnswer.Pair j y)))))
  met_held P Q s at here taken (Event.Next v p k (MapAnswer.Gap b) ∷ es) m x t h =
      ((λ i r. ap (λ (u : ℕ). holds_row (s.row i) u) x.0 ∙ h i (subst (Has i) (sym t.0) r)), met_held P Q (step g s (Event.Next v p k (MapAnswer.Gap b))) b (behind (MapAnswer.Gap b) here) [] es m.1 x.2 t.1 (has_none (step g s (Event.Next v p k (MapAnswer.Gap b)))))
  met_held P Q s at here taken (Event.Next v p k (MapAnswer.Value b) ∷ es) m x t h = absurd x
  met_held P Q s at here taken (Event.Next v p k (MapAnswer.Was b) ∷ es) m x t h = absurd x
  met_held P Q s at here taken (Event.Begin v f ∷ es) m x t h = absurd x
  met_held P Q s at here taken (Event.Read v p k a ∷ es) m x t h = absurd x
  met_held P Q s at here taken (Event.Change v p k a ∷ es) m x t h = absurd x
  met_held P Q s at here taken (Event.Put_back v p ∷ es) m x t h = absurd x
  met_held P Q s at here taken (Event.End v commit f ∷ es) m x t h = absurd x
  met_held P Q s at here taken (Event.Unlock v i ∷ es) m x t h = absurd x
  met_held P Q s at here taken (e ∷ es) m x t h = met_held P Q (step g s e) at here taken es m.1 x t (λ j r. kept_row s e j refl (h j r))

pub every_met : EveryMet
every_met l g group earlier x t is = go x.outcome.deed is t.steps t.scans
  where
    w : ℕ
    w = x.outcome.session

    s : State
    s = state_after g (front earlier)

    go : (d : Deed) → is_scan d ≡ true → Goes l g w (outcomes earlier) x.outcome.unsaid d (keep is_step x.events) → ScansRows g w (outcomes earlier) s d x.events → HoldsMet g s x.events
    go (Met from to k v alone) is goes scans = met_held g w (λ at. at ≡ suc k) _ s (scan_from (outcomes earlier) from) (scan_from (outcomes earlier) from) [] x.events t.met goes.3 scans (has_none g w s)
    go (Over from to) is goes scans = met_held g w _ _ s (scan_from (outcomes earlier) from) (scan_from (outcomes earlier) from) [] x.events t.met goes.2 scans (has_none g w s)
    go _ is goes scans = absurd (true≢false (sym is))
