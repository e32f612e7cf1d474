-- What the bytes of a slot are.
use Rattle.std.proofs.Common.{◌≡◌, ℕ, List, Option, Some, None, refl, sym, ◌∙◌, ap, arith, codes}
use Rattle.std.proofs.lemmas.Option.{same_Some}
use Rattle.page_model.specs.Page.{Page}
use Rattle.disk_image.specs.disk_slots.Slots.{IsSealed}
use Rattle.disk_image.specs.disk_slots.Pages.{IsPageSlot}
use Rattle.disk_image.proofs.disk_slots.LawLemmas.{every_page}
use Rattle.disk_image.specs.PageSlots.{page_in}
use Rattle.disk_image.proofs.PageSlotLemmas.{every_page_in}
use Rattle.page_store.specs.Inside.{seal_of}
use Rattle.page_store.specs.Slots.{EverySeal, HasSeal, HoldsIn}
use Rattle.page_store.specs.declared.slot.Bounds.{Bounds}
use Rattle.page_store.specs.declared.slot.Held.{Held}
use Rattle.page_store.specs.declared.slot.Held.TheVariants as held
use Rattle.page_store.specs.declared.slot.Seal.{Seal}
use Rattle.page_store.specs.declared.slot.Seal.TheVariants as seal

some_or_none : (o : Option Page) → ((x : Page) → o ≡ Some x → ⊥) → o ≡ None
some_or_none (Some x) never = absurd (never x refl)
some_or_none None never = refl

-- a page that the bytes spell is sealed
pub sealed_page : (p pages : ℕ) (bytes : List ℕ) (x : Page) → page_in p pages bytes ≡ Some x → IsSealed (codes "LEANPAGE") bytes
sealed_page p pages bytes x e = (every_page p pages x).sealed bytes ((every_page_in p pages bytes x).0 e)

-- without a seal there is no page
pub unsealed : (p pages : ℕ) (bytes : List ℕ) → (IsSealed (codes "LEANPAGE") bytes → ⊥) → page_in p pages bytes ≡ None
unsealed p pages bytes never = some_or_none (page_in p pages bytes) (λ x e. never (sealed_page p pages bytes x e))

-- the seal fits and no contents have these bytes
pub malformed : (p pages : ℕ) (bytes : List ℕ) → ((x : Page) → IsPageSlot p pages bytes x → ⊥) → page_in p pages bytes ≡ None
malformed p pages bytes never = some_or_none (page_in p pages bytes) (λ x e. never x ((every_page_in p pages bytes x).0 e))

-- what is held has its seal
pub held_seal : (b : Bounds) (p : ℕ) (bytes : List ℕ) (h : Held) → HoldsIn b p bytes h → HasSeal b p bytes (seal_of h)
held_seal b p bytes (held.Page x) is = (x, is.0, is.1)
held_seal b p bytes (held.NoPage s) is = is

module _ (b : Bounds) (p : ℕ) (bytes : List ℕ) where
  two_pages : (x y : Page) → page_in p b.pages bytes ≡ Some x → page_in p b.pages bytes ≡ Some y → x ≡ y
  two_pages x y one two = same_Some x y (sym one ∙ two)

  no_page : (x : Page) → page_in p b.pages bytes ≡ None → page_in p b.pages bytes ≡ Some x → ⊥
  no_page x none there = let never : ◌≡◌ {A = Option Page} None (Some x) = sym none ∙ there in cc

  pub one_seal : (s t : Seal) → HasSeal b p bytes s → HasSeal b p bytes t → s ≡ t
  one_seal seal.NoSeal seal.NoSeal a c = refl
  one_seal seal.NoSeal seal.Malformed a c = absurd (a c.0)
  one_seal seal.NoSeal seal.LaterGeneration a c = absurd (a (sealed_page p b.pages bytes c.0 c.1))
  one_seal seal.NoSeal seal.Valid a c = absurd (a (sealed_page p b.pages bytes c.0 c.1))
  one_seal seal.Malformed seal.NoSeal a c = absurd (c a.0)
  one_seal seal.Malformed seal.Malformed a c = refl
  one_seal seal.Malformed seal.LaterGeneration a c = absurd (no_page c.0 a.1 c.1)
  one_seal seal.Malformed seal.Valid a c = absurd (no_page c.0 a.1 c.1)
  one_seal seal.LaterGeneration seal.NoSeal a c = absurd (c (sealed_page p b.pages bytes a.0 a.1))
  one_seal seal.LaterGeneration seal.Malformed a c = absurd (no_page a.0 c.1 a.1)
  one_seal seal.LaterGeneration seal.LaterGeneration a c = refl
  one_seal seal.LaterGeneration seal.Valid a c = absurd (let same = ap (λ (z : Page). z.generation) (two_pages a.0 c.0 a.1 c.1) in let l = a.2 in let k = c.2 in omega arith)
  one_seal seal.Valid seal.NoSeal a c = absurd (c (sealed_page p b.pages bytes a.0 a.1))
  one_seal seal.Valid seal.Malformed a c = absurd (no_page a.0 c.1 a.1)
  one_seal seal.Valid seal.LaterGeneration a c = absurd (let same = ap (λ (z : Page). z.generation) (two_pages a.0 c.0 a.1 c.1) in let l = a.2 in let k = c.2 in omega arith)
  one_seal seal.Valid seal.Valid a c = refl

pub every_seal : EverySeal
every_seal b p bytes s t = one_seal b p bytes s t
