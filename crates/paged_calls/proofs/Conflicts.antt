-- Who stands in the way of a lock, as a refusal tells.
use Rattle.std.proofs.Common.{◌≡◌, ◌⊎◌, inl, inr, ◌≤◌, ◌||◌, ◌==◌, ℕ, Bool, true, false, cond, min, List, [], ◌∷◌, Option, Some, None, refl, sym, ap, ◌∙◌, subst, arith, true≢false, eq-eqb}
use Rattle.std.proofs.lemmas.Bool.{cases_eq, cases_lt, eqb-true, ne_eqb, or_cases, or_left}
use Rattle.map_model.specs.declared.call.Refusal.{Refusal}
use Rattle.map_model.specs.declared.call.Refusal.TheVariants as refusal
use Rattle.paged_desks.specs.core_state.Events as happening
use Rattle.paged_desks.specs.core_state.Needs.{is_free, is_held_by, is_reader, may_hold}
use Rattle.paged_desks.specs.core_state.Openings.{Opening}
use Rattle.paged_desks.specs.core_state.States.{Row, State}
use Rattle.paged_desks.specs.core_calls.Refusals.{Hinders}
use Rattle.paged_desks.specs.engine_trait.Refusals.{blocker_of, conflict_with, least_other, least_with, lock_refusal}

-- the least of the readers but w
record IsLeast (w : ℕ) (readers : List ℕ) (u : ℕ) : Type 0 where
  reads : is_reader u readers ≡ true
  other : u ≡ w → ⊥
  low : (v : ℕ) → is_reader v readers ≡ true → (v ≡ w → ⊥) → u ≤ v

-- none is told, and there is none; or it is told
data Found (w : ℕ) (readers : List ℕ) : Type 0 where
  Nobody : least_other w readers ≡ None → ((v : ℕ) → is_reader v readers ≡ true → v ≡ w) → Found w readers
  Least : (u : ℕ) → least_other w readers ≡ Some u → IsLeast w readers u → Found w readers

or_right : (a b : Bool) → b ≡ true → (a || b) ≡ true
or_right true b e = refl
or_right false b e = e

-- a reader of a longer list
reader_or : (v x : ℕ) (l : List ℕ) → is_reader v (x ∷ l) ≡ true → (x ≡ v) ⊎ (is_reader v l ≡ true)
reader_or v x l e = elim (or_cases (x == v) (is_reader v l) e) [ inl q ↦ inl (eqb-true x v q) | inr q ↦ inr q ]

found : (w : ℕ) (readers : List ℕ) → Found w readers
found w [] = Nobody refl (λ v e. absurd (true≢false (sym e)))
found w (x ∷ l) = go (cases_eq x w) (found w l)
  where
    itself : x ≡ w → Found w l → Found w (x ∷ l)
    itself e (Nobody n none) = Nobody (ap (λ b. cond b (least_other w l) (Some (least_with x (least_other w l)))) (eq-eqb x w e) ∙ n) (λ v r. elim (reader_or v x l r) [ inl q ↦ sym q ∙ e | inr q ↦ none v q ])
    itself e (Least u is k) = Least u (ap (λ b. cond b (least_other w l) (Some (least_with x (least_other w l)))) (eq-eqb x w e) ∙ is) (record {
      reads = or_right (x == u) (is_reader u l) k.reads;
      other = k.other;
      low = λ v r ne. elim (reader_or v x l r) [ inl q ↦ absurd (ne (sym q ∙ e)) | inr q ↦ k.low v q ne ];
    })

    told : (x ≡ w → ⊥) → least_other w (x ∷ l) ≡ Some (least_with x (least_other w l))
    told ne = ap (λ b. cond b (least_other w l) (Some (least_with x (least_other w l)))) (ne_eqb x w ne)

    another : (x ≡ w → ⊥) → Found w l → Found w (x ∷ l)
    another ne (Nobody n none) = Least x (told ne ∙ ap (λ o. Some (least_with x o)) n) (record {
      reads = or_left (x == x) (is_reader x l) (eq-eqb x x refl);
      other = ne;
      low = λ v r other. elim (reader_or v x l r) [ inl q ↦ (omega arith) | inr q ↦ absurd (other (none v q)) ];
    })
    another ne (Least u is k) = Least (min x u) (told ne ∙ ap (λ o. Some (least_with x o)) is) (lesser (cases_le x u))
      where
        cases_le : (a b : ℕ) → (min a b ≡ a) × (a ≤ b) ⊎ (min a b ≡ b) × (b ≤ a)
        cases_le a b = elim (cases_lt a b) [ inl lt ↦ inl ((omega arith), (omega arith)) | inr ge ↦ inr ((omega arith), (omega arith)) ]

        lesser : (min x u ≡ x) × (x ≤ u) ⊎ (min x u ≡ u) × (u ≤ x) → IsLeast w (x ∷ l) (min x u)
        lesser (inl p) = subst (λ n. IsLeast w (x ∷ l) n) (sym p.0) (record {
          reads = or_left (x == x) (is_reader x l) (eq-eqb x x refl);
          other = ne;
          low = λ v r other. elim (reader_or v x l r) [ inl q ↦ (omega arith) | inr q ↦ let a = k.low v q other in let b = p.1 in omega arith ];
        })
        lesser (inr p) = subst (λ n. IsLeast w (x ∷ l) n) (sym p.0) (record {
          reads = or_right (x == u) (is_reader u l) k.reads;
          other = k.other;
          low = λ v r other. elim (reader_or v x l r) [ inl q ↦ let b = p.1 in omega arith | inr q ↦ k.low v q other ];
        })

    go : (x ≡ w) ⊎ (x ≡ w → ⊥) → Found w l → Found w (x ∷ l)
    go (inl e) f = itself e f
    go (inr ne) f = another ne f

-- who hinders is the one that is told
blocker_is : (o : Row) (w : ℕ) (m : happening.Mode) (h : ℕ) → Hinders o w m h → blocker_of o.holder w o.readers ≡ Some h
blocker_is o w m h k = go o.holder refl k.holds
  where
    reader : (is_reader h o.readers ≡ true) → ((v : ℕ) → is_reader v o.readers ≡ true → (v ≡ w → ⊥) → h ≤ v) → Found w o.readers → least_other w o.readers ≡ Some h
    reader r low (Nobody n none) = absurd (k.other (none h r))
    reader r low (Least u is l) = is ∙ ap Some (let a = l.low h r k.other in let b = low u l.reads l.other in omega arith)

    go : (held : Option ℕ) → o.holder ≡ held
        → (is_held_by o.holder h ≡ true) ⊎ ((is_free o.holder ≡ true) × (is_reader h o.readers ≡ true) × ((v : ℕ) → is_reader v o.readers ≡ true → (v ≡ w → ⊥) → h ≤ v)) → blocker_of held w o.readers ≡ Some h
    go (Some v) e (inl q) = ap Some (eqb-true v h (ap (λ (a : Option ℕ). is_held_by a h) (sym e) ∙ q))
    go None e (inl q) = absurd (true≢false (sym q ∙ ap (λ (a : Option ℕ). is_held_by a h) e))
    go (Some v) e (inr q) = absurd (true≢false (sym q.0 ∙ ap is_free e))
    go None e (inr q) = reader q.1 q.2 (found w o.readers)

-- a lock that is hindered is refused so
pub lock_refused : (g : Opening) (s : State) (own key : ℕ) (m : happening.Mode) (h : ℕ) → Hinders (s.row (g.row_of key)) own m h → (later : Option Refusal) → lock_refusal g s own key m later ≡ Some (refusal.Conflict h)
lock_refused g s own key m h k later =
    ap (λ b. cond b later (conflict_with (blocker_of (s.row (g.row_of key)).holder own (s.row (g.row_of key)).readers))) k.may_not ∙ ap conflict_with (blocker_is (s.row (g.row_of key)) own m h k)

-- and one that may be had is not
pub lock_free : (g : Opening) (s : State) (own key : ℕ) (m : happening.Mode) → may_hold (s.row (g.row_of key)) own m ≡ true → (later : Option Refusal) → lock_refusal g s own key m later ≡ later
lock_free g s own key m e later = ap (λ b. cond b later (conflict_with (blocker_of (s.row (g.row_of key)).holder own (s.row (g.row_of key)).readers))) e
