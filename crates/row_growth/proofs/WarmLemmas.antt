-- A change of the tree keeps the way to a key hot: each page that it touches is.
use Rattle.std.proofs.Common.{◌≡◌, inl, inr, ◌==◌, ◌||◌, ℕ, Bool, true, false, [], ◌∷◌, refl, sym, ap, ◌∙◌, subst, arith}
use Rattle.std.proofs.lemmas.Bool.{cond-false, eqb-true, or_cases}
use Rattle.page_model.specs.Needs.{lift_record, split_record}
use Rattle.page_model.specs.Nodes.{covers}
use Rattle.row_changes.specs.session_state.image_model.Entries.{Contents, Entry, Kind, touches, written}
use Rattle.row_changes.specs.session_state.core_state.Events.{Event}
use Rattle.row_changes.specs.session_state.core_state.Openings.{Opening}
use Rattle.row_changes.specs.session_state.core_state.States.{Place, State, gsns_of, is_hot, nodes_of}
use Rattle.row_changes.specs.session_state.core_state.Steps.{at_pages, happens, page_entry}
use Rattle.row_changes.specs.session_state.core_calls.Warms.{IsWarmFrom}

-- a page that stands hot in a frame is hot, by whatever number
hot_there : (s : State) (p q frame : ℕ) → s.place q ≡ Place.Hot frame → (q == p) ≡ true → is_hot (s.place p) ≡ true
hot_there s p q frame hot e = ap (λ (i : ℕ). is_hot (s.place i)) (sym (eqb-true q p e)) ∙ ap is_hot hot

module _ (g : Opening) (s : State) (key own left right parent : ℕ) where
  abbrev entry : Entry
  entry = page_entry Kind.Split s own (at_pages s own (s.worker own) (left ∷ right ∷ parent ∷ [])) (left ∷ right ∷ parent ∷ []) (split_record (nodes_of s) (gsns_of s) left right parent 30)

  abbrev split : State
  split = happens g s (Event.Split own left right parent 30)

  module _ (a : ℕ) (left_hot : s.place left ≡ Place.Hot a) (b : ℕ) (right_hot : s.place right ≡ Place.Hot b) (d : ℕ) (parent_hot : s.place parent ≡ Place.Hot d) (warm : IsWarmFrom g s key 0) where
    one_of : (p : ℕ) → touches p entry ≡ true → is_hot (s.place p) ≡ true
    one_of p e = elim (or_cases (left == p) ((right == p) || ((parent == p) || false)) e) [
      | inl q ↦ hot_there s p left a left_hot q
      | inr q ↦ elim (or_cases (right == p) ((parent == p) || false) q) [
        | inl r ↦ hot_there s p right b right_hot r
        | inr r ↦ elim (or_cases (parent == p) false r) [ inl k ↦ hot_there s p parent d parent_hot k | inr k ↦ absurd (cc) ]
      ]
    ]

    pub warm_split : IsWarmFrom g split key 0
    warm_split p below over low = go (touches p entry) refl
      where
        go : (t : Bool) → touches p entry ≡ t → is_hot (s.place p) ≡ true
        go true e = one_of p e
        go false e = warm p below (subst (λ (c : Contents). covers c.node key ≡ true) (cond-false (touches p entry) (written entry p (s.page p)) (s.page p) e) over) (omega arith)

module _ (g : Opening) (s : State) (key own page : ℕ) where
  abbrev raised : Entry
  raised = page_entry Kind.Lift s own (at_pages s own (s.worker own) (0 ∷ page ∷ [])) (0 ∷ page ∷ []) (lift_record (nodes_of s) (gsns_of s) page)

  abbrev lifted : State
  lifted = happens g s (Event.Lift own page)

  module _ (root : s.place 0 ≡ Place.Hot 0) (frame : ℕ) (hot : s.place page ≡ Place.Hot frame) (warm : IsWarmFrom g s key 0) where
    either : (p : ℕ) → touches p raised ≡ true → is_hot (s.place p) ≡ true
    either p e = elim (or_cases (0 == p) ((page == p) || false) e) [
      | inl q ↦ hot_there s p 0 0 root q
      | inr q ↦ elim (or_cases (page == p) false q) [ inl k ↦ hot_there s p page frame hot k | inr k ↦ absurd (cc) ]
    ]

    pub warm_lift : IsWarmFrom g lifted key 0
    warm_lift p below over low = go (touches p raised) refl
      where
        go : (t : Bool) → touches p raised ≡ t → is_hot (s.place p) ≡ true
        go true e = either p e
        go false e = warm p below (subst (λ (c : Contents). covers c.node key ≡ true) (cond-false (touches p raised) (written raised p (s.page p)) (s.page p) e) over) (omega arith)
