-- A test of each page that a record names, as far as a loop has come.
use Rattle.std.proofs.Common.{◌≡◌, ◌<◌, ◌+◌, ℕ, Bool, true, false, ◌||◌, not, leb, ◌==◌, List, length, get_or, drop, refl, sym, ◌∙◌, ap}
use Rattle.page_model.specs.Page.{Page}
use Rattle.disk_image.specs.image_model.Entries.{Contents}
use Rattle.disk_image.specs.log_record.Model.{model_ref}
use Rattle.disk_image.specs.log_record.declared.record.Body.{Body}
use Rattle.disk_image.specs.log_record.declared.record.PageRef.{PageRef}
use Rattle.record_redo.specs.Pages.{page_of, pages_of}
use Rattle.record_redo.specs.Inside.{model_refs, are_below, are_met, is_at, can_be, can_all}
use Rattle.record_redo.proofs.PageLemmas.{page_here}
use Rattle.record_redo.proofs.WalkLemmas.{walk_more, walk_fails}
use Rattle.record_redo.proofs.WriteLemmas.{below_at}

abbrev pub nowhere : PageRef
nowhere = record { page = 0; prev = 0 }

module _ (pages : List Page) (refs : List PageRef) (i : ℕ) (v : Page) (b : Bool) (l : i < length refs) (below : are_below (length pages) (model_refs refs) ≡ true) (is : v ≡ get_or pages (get_or refs i nowhere).page v) where
  abbrev x : PageRef
  x = get_or refs i nowhere

  here : pages_of pages x.page ≡ page_of v
  here = page_here pages x.page v (below_at (length pages) refs i nowhere l below) ∙ ap page_of (sym is)

  module _ (number : ℕ) (e : b ≡ ((v.gsn == (get_or refs i nowhere).prev) || leb number v.gsn)) where
    abbrev test : PageRef → Bool
    test y = is_at (pages_of pages) (model_ref y) || leb number (pages_of pages y.page).gsn

    met_here : test x ≡ b
    met_here = ap (λ (w : Contents). (w.gsn == x.prev) || leb number w.gsn) here ∙ sym e

    pub met_more : b ≡ true → are_met (pages_of pages) number (model_refs (drop i refs)) ≡ are_met (pages_of pages) number (model_refs refs) →
        are_met (pages_of pages) number (model_refs (drop (i + 1) refs)) ≡ are_met (pages_of pages) number (model_refs refs)
    met_more t h = walk_more (λ xs. are_met (pages_of pages) number (model_refs xs)) test (λ y ys. refl) refs i nowhere l (met_here ∙ t) h

    pub met_fails : b ≡ false → are_met (pages_of pages) number (model_refs (drop i refs)) ≡ are_met (pages_of pages) number (model_refs refs) → false ≡ are_met (pages_of pages) number (model_refs refs)
    met_fails t h = walk_fails (λ xs. are_met (pages_of pages) number (model_refs xs)) test (λ y ys. refl) refs i nowhere l (met_here ∙ t) h

  module _ (body : Body) (e : b ≡ (not (v.gsn == (get_or refs i nowhere).prev) || can_be body (get_or refs i nowhere).page v.node)) where
    abbrev able : PageRef → Bool
    able y = not (is_at (pages_of pages) (model_ref y)) || can_be body y.page (pages_of pages y.page).node

    can_here : able x ≡ b
    can_here = ap (λ (w : Contents). not (w.gsn == x.prev) || can_be body x.page w.node) here ∙ sym e

    pub can_more : b ≡ true → can_all body (pages_of pages) (model_refs (drop i refs)) ≡ can_all body (pages_of pages) (model_refs refs) →
        can_all body (pages_of pages) (model_refs (drop (i + 1) refs)) ≡ can_all body (pages_of pages) (model_refs refs)
    can_more t h = walk_more (λ xs. can_all body (pages_of pages) (model_refs xs)) able (λ y ys. refl) refs i nowhere l (can_here ∙ t) h

    pub can_fails : b ≡ false → can_all body (pages_of pages) (model_refs (drop i refs)) ≡ can_all body (pages_of pages) (model_refs refs) → false ≡ can_all body (pages_of pages) (model_refs refs)
    can_fails t h = walk_fails (λ xs. can_all body (pages_of pages) (model_refs xs)) able (λ y ys. refl) refs i nowhere l (can_here ∙ t) h
