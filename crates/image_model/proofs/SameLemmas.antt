-- Redo of pages that agree below the number of pages.
use Rattle.std.proofs.Common.{◌≡◌, ◌<◌, ℕ, Bool, true, cond, ◌&&◌, ◌||◌, not, leb, ltb, ◌==◌, List, [], ◌∷◌, refl, sym, ap, ◌∙◌, inl, inr}
use Rattle.std.proofs.lemmas.Bool.{cases_Bool, and_parts, and_from, ltb-true}
use Rattle.map_model.specs.Lists.{Has}
use Rattle.map_model.proofs.ListLemmas.{all_to, all_same}
use Rattle.page_model.specs.Nodes.{Format}
use Rattle.page_model.specs.Records.{Ref}
use Rattle.page_model.specs.Redo.{can_be}
use Rattle.image_model.specs.Entries.{Entry, Contents, is_page, page_kind, written}
use Rattle.image_model.specs.Redo.{Redone, mark, stands, at_prev, redo, names_pages, is_sayable_as, can_change, passes, all_pass}

module _ (f : Format) (r : Entry) (d e : ℕ → Contents) (named : names_pages f r ≡ true) (same : (p : ℕ) → p < f.pages → d p ≡ e p) where
  at_ref : (x : Ref) → Has x r.refs → d x.page ≡ e x.page
  at_ref x m = same x.page (ltb-true x.page f.pages (all_to (λ (y : Ref). ltb y.page f.pages) r.refs named x m))

  stands_same : stands d r ≡ stands e r
  stands_same = all_same (λ (x : Ref). ((d x.page).gsn == x.prev) || leb r.number (d x.page).gsn) (λ (x : Ref). ((e x.page).gsn == x.prev) || leb r.number (e x.page).gsn) r.refs
      (λ x m. ap (λ (v : Contents). (v.gsn == x.prev) || leb r.number v.gsn) (at_ref x m))

  can_change_same : can_change f d r ≡ can_change f e r
  can_change_same = all_same (λ (x : Ref). not (at_prev r x.page (d x.page)) || can_be f (page_kind r.kind) r.record_of x.page (d x.page).node)
      (λ (x : Ref). not (at_prev r x.page (e x.page)) || can_be f (page_kind r.kind) r.record_of x.page (e x.page).node) r.refs
      (λ x m. ap (λ (v : Contents). not (at_prev r x.page v) || can_be f (page_kind r.kind) r.record_of x.page v.node) (at_ref x m))

  named_same : passes f d r ≡ passes f e r
  named_same =
      ap (λ b. names_pages f r && (not (is_page r.kind && b) || (is_sayable_as f (page_kind r.kind) r.record_of && can_change f d r))) stands_same
      ∙ ap (λ b. names_pages f r && (not (is_page r.kind && stands e r) || (is_sayable_as f (page_kind r.kind) r.record_of && b))) can_change_same

-- a record that names a page that there is not passes nowhere
pub passes_same : (f : Format) (r : Entry) (d e : ℕ → Contents) → ((p : ℕ) → p < f.pages → d p ≡ e p) → passes f d r ≡ passes f e r
passes_same f r d e same = elim (cases_Bool (names_pages f r)) [
  | inl h ↦ named_same f r d e h same
  | inr h ↦ ap (λ b. b && (not (is_page r.kind && stands d r) || (is_sayable_as f (page_kind r.kind) r.record_of && can_change f d r))) h
      ∙ sym (ap (λ b. b && (not (is_page r.kind && stands e r) || (is_sayable_as f (page_kind r.kind) r.record_of && can_change f e r))) h)
]

-- pages that agree below the number of pages, with the same records that counted
pub record SameRedone (f : Format) (d e : Redone) : Type 0 where
  pub page : (p : ℕ) → p < f.pages → d.page p ≡ e.page p
  pub counts : d.counts ≡ e.counts

pub redo_same : (f : Format) (page other : ℕ → Contents) → ((p : ℕ) → p < f.pages → page p ≡ other p) → (z : List Entry) → all_pass f page z ≡ true → SameRedone f (redo page z) (redo other z)
redo_same f page other same [] h = record { page = same; counts = refl }
redo_same f page other same (r ∷ z) h =
    let b = and_parts (all_pass f page z) (passes f (redo page z).page r) h in
    let i = redo_same f page other same z b.0 in
    let d = redo page z in
    let e = redo other z in
    let named = (and_parts (names_pages f r) (not (is_page r.kind && stands d.page r) || (is_sayable_as f (page_kind r.kind) r.record_of && can_change f d.page r)) b.1).0 in
    let st = stands_same f r d.page e.page named i.page in
    record {
      page = λ p l.
          ap (λ c. cond (c && at_prev r p (d.page p)) (written r p (d.page p)) (d.page p)) st
          ∙ ap (λ (v : Contents). cond (stands e.page r && at_prev r p v) (written r p v) v) (i.page p l);
      counts =
          ap (λ (c : ℕ → ℕ → Bool). mark c r.log r.number (stands d.page r)) i.counts
          ∙ ap (λ c. mark e.counts r.log r.number c) st;
    }

pub pass_same : (f : Format) (page other : ℕ → Contents) → ((p : ℕ) → p < f.pages → page p ≡ other p) → (z : List Entry) → all_pass f page z ≡ true → all_pass f other z ≡ true
pass_same f page other same [] h = refl
pass_same f page other same (r ∷ z) h =
    let b = and_parts (all_pass f page z) (passes f (redo page z).page r) h in
    and_from (all_pass f other z) (passes f (redo other z).page r) (pass_same f page other same z b.0)
    (sym (passes_same f r (redo page z).page (redo other z).page (redo_same f page other same z b.0).page) ∙ b.1)
