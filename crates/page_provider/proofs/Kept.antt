-- What is kept of cold pages stays right.
use Rattle.std.proofs.Common.{◌≡◌, ◌<◌, ℕ, true, false, inl, inr, List, length, refl, sym, ap, subst, ◌∙◌}
use Rattle.std.proofs.lemmas.Bool.{cases_eq}
use Rattle.map_model.specs.Lists.{upd}
use Rattle.map_model.proofs.ListLemmas.{upd_other, upd_same}
use Rattle.btree_descent.specs.image_model.Entries.{Contents}
use Rattle.page_model.specs.Nodes.{Node}
use Rattle.page_model.specs.Page as stored
use Rattle.page_model.specs.Tree.{IsTree}
use Rattle.btree_descent.specs.core_state.Openings.{Opening}
use Rattle.btree_descent.specs.core_state.States.{Place, State, is_cold, nodes_of}
use Rattle.btree_descent.specs.core_state.Events as happening
use Rattle.btree_descent.specs.core_state.Steps.{happens}
use Rattle.cold_pages.specs.declared.kept.Kept.{Kept}
use Rattle.cold_pages.specs.Kept.{AreWithin, come, left}
use Rattle.cold_pages.specs.Laws.{IsButEntries, KeptLaws}
use Rattle.cold_pages.proofs.KeptLemmas.{every_kept}
use Rattle.page_moves.specs.Moves.{contents_of}
use Rattle.page_provider.specs.Providers.{IsKept}

-- the contents of a page are what they were, but for nothing
pub but_none : {x y : Contents} → y ≡ x → IsButEntries x y
but_none {x} {y} e = record {
  gsn = ap (λ (c : Contents). c.gsn) e;
  last = ap (λ (c : Contents). c.last) e;
  fields = (let n = ap (λ (c : Contents). c.node) e in n ∙ (λ i. record x.node { pairs = (sym n i).pairs }));
  other = λ _. ap (λ (c : Contents). c.node) e;
}

module _ (g : Opening) (s : State) (table : List Kept) (tree : IsTree g.format (nodes_of s)) (k : IsKept g s table) where
  laws : KeptLaws g.format s.page (λ p. is_cold (s.place p)) table
  laws = every_kept g.format s.page (λ p. is_cold (s.place p)) table tree k

  -- where the same pages are cold, as they were
  pub kept_same : (t : State) → ((q : ℕ) → is_cold (t.place q) ≡ is_cold (s.place q)) → ((q : ℕ) → is_cold (s.place q) ≡ true → t.page q ≡ s.page q) → IsKept g t table
  kept_same t cold page = laws.stays t.page (λ p. is_cold (t.place p)) (λ p l. cold p) (λ p l c. but_none (page p c))

  -- a page is not cold, and stands elsewhere
  pub kept_placed : (p : ℕ) (x : Place) (t : State) → t.place ≡ upd s.place p x → t.page ≡ s.page → is_cold (s.place p) ≡ false → is_cold x ≡ false → IsKept g t table
  kept_placed p x t place page was is = kept_same t cold (λ q c. ap (λ (f : ℕ → Contents). f q) page)
    where
      cold : (q : ℕ) → is_cold (t.place q) ≡ is_cold (s.place q)
      cold q = elim (cases_eq q p) [
        | inl e ↦ ap (λ (f : ℕ → Place). is_cold (f q)) place ∙ (ap is_cold (upd_same s.place p x q e) ∙ (is ∙ sym (ap (λ n. is_cold (s.place n)) e ∙ was)))
        | inr n ↦ ap (λ (f : ℕ → Place). is_cold (f q)) place ∙ ap is_cold (upd_other s.place p x q n)
      ]

  pub kept_within : (p : ℕ) → p < g.format.pages → AreWithin (length table) (s.page p).node
  kept_within p l = laws.within p l

  -- the page has left
  pub kept_left : (p : ℕ) (v : stored.Page) → p < g.format.pages → contents_of v ≡ s.page p → IsKept g (happens g s (happening.Event.Evict p)) (left table p v)
  kept_left p v l is = laws.leaves p v (λ q. is_cold (upd s.place p Place.Cold q)) l is (λ q m n. ap is_cold (upd_other s.place p Place.Cold q n)) (ap is_cold (upd_same s.place p Place.Cold p refl))

  -- it has come, as it was saved
  pub kept_come : (p f : ℕ) (v : Node) → p < g.format.pages → is_cold (s.place p) ≡ true → s.page p ≡ s.saved p → v ≡ (s.page p).node → IsKept g (happens g s (happening.Event.Load p f)) (come table v)
  kept_come p f v l cold saved is = subst (λ (page : ℕ → Contents). IsKept g (record s { place = upd s.place p (Place.Hot f); page = page }) (come table v)) (λ i q. same q i) here
    where
      same : (q : ℕ) → s.page q ≡ upd s.page p (s.saved p) q
      same q = elim (cases_eq q p) [
        | inl e ↦ ap s.page e ∙ (saved ∙ sym (upd_same s.page p (s.saved p) q e))
        | inr n ↦ sym (upd_other s.page p (s.saved p) q n)
      ]

      here : IsKept g (record s { place = upd s.place p (Place.Hot f) }) (come table v)
      here = laws.comes p v (λ q. is_cold (upd s.place p (Place.Hot f) q)) l is (λ q m n. ap is_cold (upd_other s.place p (Place.Hot f) q n)) (ap is_cold (upd_same s.place p (Place.Hot f) p refl))
