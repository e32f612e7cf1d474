-- A record of one page: each test is one of that page.
use Rattle.std.proofs.Common.{◌≡◌, ◌<◌, ℕ, Bool, true, false, ◌&&◌, ◌||◌, not, leb, ltb, ◌==◌, List, [], ◌∷◌, length, get_or, refl, sym, ◌∙◌, ap}
use Rattle.map_model.specs.Lists.{all}
use Rattle.page_model.specs.Page.{Page}
use Rattle.page_model.specs.Records.{Ref}
use Rattle.disk_image.specs.image_model.Entries.{Contents}
use Rattle.disk_image.specs.log_record.declared.record.Body.{Body}
use Rattle.record_redo.specs.Pages.{pages_of}
use Rattle.record_redo.specs.Inside.{are_below, are_met, can_be, can_all}
use Rattle.record_redo.proofs.PageLemmas.{page_here}

alone : (p : Ref → Bool) (refs : List Ref) (f : Ref) (b : Bool) → refs ≡ f ∷ [] → p f ≡ b → all p refs ≡ b
alone p refs f b e h = ap (all p) e ∙ (ap (λ c. c && true) h ∙ same b)
  where
    same : (c : Bool) → (c && true) ≡ c
    same true = refl
    same false = refl

module _ (refs : List Ref) (f : Ref) (one : refs ≡ f ∷ []) where
  pub below_as : (n : ℕ) (b : Bool) → ltb f.page n ≡ b → are_below n refs ≡ b
  below_as n b h = alone _ refs f b one h

  pub met_as : (pages : List Page) (d : Page) (number : ℕ) (b : Bool) → f.page < length pages → b ≡ (((get_or pages f.page d).gsn == f.prev) || leb number (get_or pages f.page d).gsn) → are_met (pages_of pages) number refs ≡ b
  met_as pages d number b l e = alone _ refs f b one (ap (λ (w : Contents). (w.gsn == f.prev) || leb number w.gsn) (page_here pages f.page d l) ∙ sym e)

  pub can_as : (pages : List Page) (d : Page) (body : Body) (b : Bool) → f.page < length pages → b ≡ (not ((get_or pages f.page d).gsn == f.prev) || can_be body f.page (get_or pages f.page d).node) → can_all body (pages_of pages) refs ≡ b
  can_as pages d body b l e = alone _ refs f b one (ap (λ (w : Contents). not (w.gsn == f.prev) || can_be body f.page w.node) (page_here pages f.page d l) ∙ sym e)
