-- What the scripts by hand have in common: whose marks events tell, and which rows they take.
use Rattle.std.proofs.Common.{◌≡◌, ◌⊎◌, ℕ, Bool, true, false, cond, not, ◌==◌, List, [], ◌∷◌, Option, None, refl, sym, ap, ◌∙◌, inl, inr, true≢false}
use Rattle.map_model.proofs.ListLemmas.{all_to}
use Rattle.core_crash.specs.core_state.Openings.{Opening, first_map}
use Rattle.core_crash.specs.core_state.States.{Row, State, start}
use Rattle.core_crash.specs.core_state.Events.{Event}
use Rattle.core_crash.specs.core_state.Local.{publishes_row, is_of}
use Rattle.core_crash.proofs.core_state.Locality.{every_local}
use Rattle.core_crash.specs.core_state.Needs.{holds_row, may}
use Rattle.std.proofs.lemmas.Bool.{cases_eq, ne_eqb}
use Rattle.map_model.specs.Lists.{Has, all}
use Rattle.core_crash.specs.core_state.Steps.{happens, step, run}
use Rattle.core_crash.proofs.ByHand.{opening}
use Rattle.page_model.specs.Nodes.{holds}
use Rattle.page_model.specs.Tree.{value_of}
use Rattle.core_calls.specs.Marks.{Mark, mark, onto, marks}
use Rattle.core_calls.specs.Deeds.{marks_for}
use Rattle.core_calls.specs.Refusals.{Limits}
use Rattle.core_calls.specs.Fronts.{Done}

abbrev pub limits : Limits
limits = record { is_full = λ es s u l. false; steps = false; clock_end = 1000; latch_end = 1000; waiting = 256; pairs = 64 }

-- where it is known whether the events are of the session asked for
abbrev pub marks_if : Opening → State → List Event → Bool → List Mark → List Mark
marks_if g s [] b earlier = earlier
marks_if g s (e ∷ es) b earlier = marks_if g (step g s e) es b (cond (may g s e) (cond b (onto (mark g s e) earlier) earlier) earlier)

-- each event is of v, or tells nothing
abbrev pub AreOf : ℕ → List Event → Type 0
AreOf v [] = Unit {0}
AreOf v (e ∷ es) = AreOf v es × (((w : ℕ) → is_of e w ≡ (v == w)) ⊎ ((g : Opening) (s : State) → mark g s e ≡ None))

if_is : (g : Opening) (es : List Event) (s : State) (v w : ℕ) (ms : List Mark) → AreOf v es → marks g s es w ms ≡ marks_if g s es (v == w) ms
if_is g [] s v w ms a = refl
if_is g (e ∷ es) s v w ms a = if_is g es (step g s e) v w (cond (may g s e) (cond (is_of e w) (onto (mark g s e) ms) ms) ms) a.0
    ∙ ap (marks_if g (step g s e) es (v == w)) (go a.1)
  where
    flat : (b : Bool) → cond b ms ms ≡ ms
    flat true = refl
    flat false = refl

    none : (b : Bool) → mark g s e ≡ None → cond b (onto (mark g s e) ms) ms ≡ ms
    none b q = ap (λ (o : Option Mark). cond b (onto o ms) ms) q ∙ flat b

    go : (((w : ℕ) → is_of e w ≡ (v == w)) ⊎ ((g : Opening) (s : State) → mark g s e ≡ None)) → cond (may g s e) (cond (is_of e w) (onto (mark g s e) ms) ms) ms ≡ cond (may g s e) (cond (v == w) (onto (mark g s e) ms) ms) ms
    go (inl q) = ap (λ (b : Bool). cond (may g s e) (cond b (onto (mark g s e) ms) ms) ms) (q w)
    go (inr q) = ap (λ (k : List Mark). cond (may g s e) k ms) (none (is_of e w) (q g s) ∙ sym (none (v == w) (q g s)))

-- so two cases are enough
pub told : (s : State) (x : Done) → AreOf x.outcome.session x.events → marks_if opening s x.events true [] ≡ marks_for x.outcome → marks_if opening s x.events false [] ≡ [] →
    (w : ℕ) → marks opening s x.events w [] ≡ cond (x.outcome.session == w) (marks_for x.outcome) []
told s x a y n w = if_is opening x.events s x.outcome.session w [] a ∙ go (x.outcome.session == w)
  where
    go : (b : Bool) → marks_if opening s x.events b [] ≡ cond b (marks_for x.outcome) []
    go true = y
    go false = n

pub nothing : (k : ℕ) → first_map opening k ≡ None
nothing k = go (holds (opening.node 0) k)
  where
    go : (b : Bool) → value_of opening.format (cond b None None) ≡ None
    go true = refl
    go false = refl

-- ## Rows

abbrev pub rows_in : List Event → List ℕ
rows_in [] = []
rows_in (Event.Lock w i mode ∷ es) = i ∷ rows_in es
rows_in (Event.Unlock w i ∷ es) = i ∷ rows_in es
rows_in (_ ∷ es) = rows_in es

abbrev Avoids : ℕ → List ℕ → Type 0
Avoids i l = (j : ℕ) → Has j l → j ≡ i → ⊥

publishes_none : (e : Event) (es : List Event) (i : ℕ) → Avoids i (rows_in (e ∷ es)) → publishes_row e i ≡ false
publishes_none (Event.Lock w j mode) es i a = ne_eqb j i (λ q. a j (inl refl) q)
publishes_none (Event.Unlock w j) es i a = ne_eqb j i (λ q. a j (inl refl) q)
publishes_none _ es i a = refl

avoids_rest : (e : Event) (es : List Event) (i : ℕ) → Avoids i (rows_in (e ∷ es)) → Avoids i (rows_in es)
avoids_rest (Event.Lock w j mode) es i a = λ k h. a k (inr h)
avoids_rest (Event.Unlock w j) es i a = λ k h. a k (inr h)
avoids_rest _ es i a = a

row_same : (es : List Event) (s : State) (i : ℕ) → Avoids i (rows_in es) → (run opening s es).row i ≡ s.row i
row_same [] s i a = refl
row_same (e ∷ es) s i a = row_same es (step opening s e) i (avoids_rest e es i a) ∙ go (may opening s e)
  where
    go : (b : Bool) → (cond b (happens opening s e) s).row i ≡ s.row i
    go true = (every_local opening s e).rows i (publishes_none e es i a)
    go false = refl

in_or : (l : List ℕ) (i : ℕ) → Has i l ⊎ Avoids i l
in_or [] i = inr (λ j h q. h)
in_or (x ∷ l) i = go (cases_eq i x) (in_or l i)
  where
    go : (i ≡ x) ⊎ (i ≡ x → ⊥) → Has i l ⊎ Avoids i l → Has i (x ∷ l) ⊎ Avoids i (x ∷ l)
    go (inl q) r = inl (inl q)
    go (inr n) (inl h) = inl (inr h)
    go (inr n) (inr a) = inr at
      where
        at : (j : ℕ) → Has j (x ∷ l) → j ≡ i → ⊥
        at j (inl p) q = n (sym q ∙ p)
        at j (inr p) q = a j p q

-- who holds none of the rows of these events holds none
pub free_all : (es : List Event) (w : ℕ) → all (λ i. not (holds_row ((run opening (start opening) es).row i) w)) (rows_in es) ≡ true → (i : ℕ) → holds_row ((run opening (start opening) es).row i) w ≡ false
free_all es w e i = elim (in_or (rows_in es) i) [
  | inl h ↦ off (holds_row ((run opening (start opening) es).row i) w) (all_to (λ i. not (holds_row ((run opening (start opening) es).row i) w)) (rows_in es) e i h)
  | inr a ↦ ap (λ (o : Row). holds_row o w) (row_same es (start opening) i a)
]
  where
    off : (b : Bool) → not b ≡ true → b ≡ false
    off false q = refl
    off true q = absurd (true≢false (sym q))
