-- Pages are written one after the other.
use Rattle.std.proofs.Common.{◌≡◌, ◌<◌, ◌⊎◌, ◌+◌, ℕ, zero, suc, Bool, true, false, cond, ◌&&◌, ◌||◌, not, ltb, ◌==◌, List, [], ◌∷◌, length, get_or, set, drop, refl, sym, ◌∙◌, ap, subst, inl, inr, arith}
use Rattle.std.proofs.lemmas.Bool.{cases_eq, and_parts, and_left, and_right, or_left, or_right, eq-eqb, ne_eqb, ltb-true, cond-true, cond-false}
use Rattle.std.proofs.lemmas.List.{at_drop_more}
use mathlib.Core.Path.{fun_ext}
use Rattle.page_model.specs.Page.{Page}
use Rattle.page_model.specs.Records.{Ref}
use Rattle.disk_image.specs.image_model.Entries.{Entry, Contents, written, touches}
use Rattle.disk_image.specs.log_record.Model.{model_ref}
use Rattle.disk_image.specs.log_record.declared.record.Body.{Body}
use Rattle.disk_image.specs.log_record.declared.record.PageRef.{PageRef}
use Rattle.record_redo.specs.Pages.{page_of, pages_of, Keeps, MarksFor}
use Rattle.record_redo.specs.Inside as inside
use Rattle.record_redo.specs.Inside.{model_refs, is_among, are_below, is_at, can_all, step, steps}
use Rattle.record_redo.proofs.PageLemmas.{pages_set, keeps_all, keeps_both, marks_none, marks_both}
use Rattle.record_redo.proofs.StepLemmas.{Distinct, can_step}
use Rattle.record_redo.proofs.WalkLemmas.{walk_at}

-- ## One page

-- a page that does not stand at its prev stays
pub step_none : (r : Entry) (f : Ref) (page : ℕ → Contents) → ((page f.page).gsn ≡ f.prev → ⊥) → page ≡ step r f page
step_none r f page apart = fun_ext (λ p. sym (cond-false ((f.page == p) && ((page p).gsn == f.prev)) (written r p (page p)) (page p) (go p (cases_eq f.page p))))
  where
    go : (p : ℕ) → (f.page ≡ p) ⊎ (f.page ≡ p → ⊥) → ((f.page == p) && ((page p).gsn == f.prev)) ≡ false
    go p (inl e) = and_right (f.page == p) ((page p).gsn == f.prev) (ne_eqb (page p).gsn f.prev (λ h. apart (ap (λ q. (page q).gsn) e ∙ h)))
    go p (inr n) = and_left (f.page == p) ((page p).gsn == f.prev) (ne_eqb f.page p n)

-- one that does is written
pub step_set : (pages : List Page) (r : Entry) (f : Ref) (y : Page) → f.page < length pages → (pages_of pages f.page).gsn ≡ f.prev → page_of y ≡ written r f.page (pages_of pages f.page) →
    pages_of (set pages f.page y) ≡ step r f (pages_of pages)
step_set pages r f y l at e = pages_set pages f.page y l ∙ fun_ext (λ p. go p (cases_eq f.page p))
  where
    go : (p : ℕ) → (f.page ≡ p) ⊎ (f.page ≡ p → ⊥) → cond (p == f.page) (page_of y) (pages_of pages p) ≡ step r f (pages_of pages) p
    go p (inl h) =
        cond-true (p == f.page) (page_of y) (pages_of pages p) (eq-eqb p f.page (sym h))
        ∙ (e ∙ ap (λ q. written r q (pages_of pages q)) h)
        ∙ sym (cond-true ((f.page == p) && ((pages_of pages p).gsn == f.prev)) (written r p (pages_of pages p)) (pages_of pages p)
        (ap (λ b. b && ((pages_of pages p).gsn == f.prev)) (eq-eqb f.page p h) ∙ eq-eqb (pages_of pages p).gsn f.prev (ap (λ q. (pages_of pages q).gsn) (sym h) ∙ at)))
    go p (inr n) =
        cond-false (p == f.page) (page_of y) (pages_of pages p) (ne_eqb p f.page (λ h. n (sym h)))
        ∙ sym (cond-false ((f.page == p) && ((pages_of pages p).gsn == f.prev)) (written r p (pages_of pages p)) (pages_of pages p) (and_left (f.page == p) ((pages_of pages p).gsn == f.prev) (ne_eqb f.page p n)))

-- ## All pages

pub among_at : (refs : List PageRef) (i : ℕ) (d : PageRef) → i < length refs → is_among (model_refs refs) (get_or refs i d).page ≡ true
among_at [] i d l = absurd (omega arith)
among_at (x ∷ xs) zero d l = or_left (x.page == x.page) (is_among (model_refs xs) x.page) (eq-eqb x.page x.page refl)
among_at (x ∷ xs) (suc i) d l = or_right (x.page == (get_or xs i d).page) (is_among (model_refs xs) (get_or xs i d).page) (among_at xs i d (omega arith))

pub below_at : (n : ℕ) (refs : List PageRef) (i : ℕ) (d : PageRef) → i < length refs → are_below n (model_refs refs) ≡ true → (get_or refs i d).page < n
below_at n refs i d l h = ltb-true (get_or refs i d).page n (walk_at (λ xs. are_below n (model_refs xs)) (λ (x : PageRef). ltb x.page n) (λ x xs. refl) refs i d l h)

-- the first pages are written, and what is asked of the rest is so
pub record IsWriting (start now : List Page) (was marks : List Bool) (r : Entry) (body : Body) (refs rest : List Ref) : Type 0 where
  pub after : steps r rest (pages_of now) ≡ steps r refs (pages_of start)
  pub can : can_all body (pages_of now) rest ≡ true
  pub distinct : Distinct rest
  pub kept : Keeps start now was marks
  pub only : MarksFor (λ p. touches p r) was marks

pub writing_none : (start : List Page) (marks : List Bool) (r : Entry) (body : Body) (refs : List Ref) → Distinct refs → can_all body (pages_of start) refs ≡ true → IsWriting start start marks marks r body refs refs
writing_none start marks r body refs d c = record { after = refl; can = c; distinct = d; kept = keeps_all start marks; only = marks_none (λ p. touches p r) marks }

module _ (start now : List Page) (was marks : List Bool) (r : Entry) (body : Body) (all : List Ref) (refs : List PageRef) (i : ℕ) (d : PageRef) (l : i < length refs) (before : IsWriting start now was marks r body all (model_refs (drop i refs))) where
  abbrev x : Ref
  x = model_ref (get_or refs i d)

  abbrev rest : List Ref
  rest = model_refs (drop (i + 1) refs)

  here : IsWriting start now was marks r body all (x ∷ rest)
  here = subst (λ (fs : List Ref). IsWriting start now was marks r body all fs) (at_drop_more model_refs refs i d l) before

  parts : ((not (is_at (pages_of now) x) || inside.can_be body x.page (pages_of now x.page).node) ≡ true) × (can_all body (pages_of now) rest ≡ true)
  parts = and_parts (not (is_at (pages_of now) x) || inside.can_be body x.page (pages_of now x.page).node) (can_all body (pages_of now) rest) here.can

  pub can_next : (not (is_at (pages_of now) x) || inside.can_be body x.page (pages_of now x.page).node) ≡ true
  can_next = parts.0

  pub writing_more : (next : List Page) (more : List Bool) → pages_of next ≡ step r x (pages_of now) → Keeps now next marks more → MarksFor (λ p. touches p r) marks more →
      IsWriting start next was more r body all rest
  writing_more next more e k m = record {
    after = ap (steps r rest) e ∙ here.after;
    can = ap (λ (page : ℕ → Contents). can_all body page rest) e ∙ can_step body r x rest (pages_of now) here.distinct.0 ∙ parts.1;
    distinct = here.distinct.1;
    kept = keeps_both start now next was marks more here.kept k;
    only = marks_both (λ p. touches p r) (λ p. touches p r) (λ p. touches p r) was marks more (λ p h. h) (λ p h. h) here.only m;
  }
