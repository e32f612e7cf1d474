-- Where no page can be cooled, each hot page is one of the way.
use Rattle.std.proofs.Common.{◌≡◌, ◌<◌, ◌&&◌, ◌⊎◌, not, ℕ, zero, suc, Bool, true, false, inl, inr, refl, sym, ap, subst, ◌∙◌, arith, true≢false}
use Rattle.page_model.specs.Check.{names_page}
use Rattle.page_model.specs.Tree.{IsTree}
use Rattle.lean_proto.specs.core_state.Openings.{Opening}
use Rattle.lean_proto.specs.core_state.States.{Place, State, nodes_of, is_hot, is_cooling, in_frame}
use Rattle.lean_proto.proofs.core_commit.Events.{names_to}
use Rattle.lean_proto.proofs.row_words.Stays as words
use Rattle.page_pool.specs.Full.{IsWay, NoCandidate, EveryFull}

module _ (g : Opening) (s : State) (way : ℕ → Bool) (tree : IsTree g.format (nodes_of s)) (closed : IsWay g s way) (none : NoCandidate g s way) where
  -- a hot page off the way would have a hot child off the way, and so on down
  off_way : (n p : ℕ) → (s.page p).node.level < n → p < g.format.pages → is_hot (s.place p) ≡ true → way p ≡ false → ⊥
  off_way zero p low lt hot off = omega arith
  off_way (suc n) p low lt hot off =
      let c = words.some_below g.format.pages (λ c. names_page (s.page p).node c && is_hot (s.place c)) (none p lt hot off) in
      let h = words.and_true (names_page (s.page p).node c.0) (is_hot (s.place c.0)) c.2 in
      let z = names_to (s.page p).node c.0 h.0 in
      let level : suc (s.page c.0).node.level ≡ (s.page p).node.level = subst (λ j. suc (s.page j).node.level ≡ (s.page p).node.level) z.2 (tree.down p lt z.0 z.1).level in
      words.cases (way c.0)
      (λ y. true≢false (sym (closed p c.0 lt h.0 y) ∙ off))
      (λ no. off_way n c.0 (omega arith) c.1 h.1 no)

  pub on_way : (p : ℕ) → p < g.format.pages → is_hot (s.place p) ≡ true → way p ≡ true
  on_way p lt hot = words.cases (way p) (λ y. y) (λ no. absurd (off_way (suc (s.page p).node.level) p (omega arith) lt hot no))

-- a page that stands in a frame is hot or cools
pub stands : (x : Place) (f : ℕ) → in_frame x f ≡ true → (is_hot x ≡ true) ⊎ (is_cooling x ≡ true)
stands (Place.Hot i) f h = inl refl
stands (Place.Cooling i e w) f h = inr refl
stands Place.Cold f h = absurd (true≢false (sym h))

pub every_full : EveryFull
every_full g s way tree closed none ripe f some =
    let p = words.some_below g.format.pages (λ q. in_frame (s.place q) f) (ap not some) in record {
      page = p.0;
      below = p.1;
      here = p.2;
      why = elim (stands (s.place p.0) f p.2) [
        | inl hot ↦ inl (on_way g s way tree closed none p.0 p.1 hot)
        | inr cool ↦ inr (ripe p.0 p.1 cool)
      ];
    }
