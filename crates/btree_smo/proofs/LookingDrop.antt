-- Whether the page in a frame is the root's one child, as the nodes of both rows say it.
use Rattle.std.proofs.Common.{◌^◌, ◌≡◌, ◌==◌, ltb, ◌<◌, ◌≤◌, ◌+◌, inl, inr, ℕ, Bool, true, List, [], ◌∷◌, length, refl, sym, ap, subst, ◌∙◌, eq-eqb, arith}
use Rattle.std.proofs.lemmas.Bool.{and_from, lt-ltb, ltb-true}
use Rattle.page_model.specs.Pairs.{Pair}
use Rattle.page_model.specs.Nodes.{Node, NodeOk}
use Rattle.page_model.specs.Check.{names_page}
use Rattle.page_model.specs.Page as stored
use Rattle.page_model.specs.Page.{word_at}
use Rattle.btree_descent.specs.core_state.States.{Place, State, is_hot, nodes_of}
use Rattle.btree_descent.specs.core_state.Needs.{may_drop, is_single}
use Rattle.btree_descent.specs.row_words.declared.given.Given.{Given}
use Rattle.btree_descent.specs.row_words.Moments.{Moment}
use Rattle.btree_descent.specs.row_words.Openings.{opening}
use Rattle.btree_descent.specs.row_words.Words.{swip, swips}
use Rattle.btree_descent.proofs.row_words.Frames.{framed_inner, hot_swip}
use Rattle.btree_descent.proofs.row_words.Stays.{cases, and_true}
use Rattle.btree_descent.specs.rows_trait.declared.view.View.{View}
use Rattle.btree_descent.specs.rows_trait.Views.{state}
use Rattle.btree_descent.specs.Known.{Sound, IsSound}
use Rattle.btree_descent.specs.declared.put.TheConstants.{LAST_NUMBER}
use Rattle.row_image.specs.Images.{written}
use Rattle.row_image.proofs.Pages.{names_pair}
use Rattle.btree_smo.specs.declared.drop_root.Dropping.{Dropping}
use Rattle.btree_smo.specs.declared.outcome.Outcome.{Outcome}
use Rattle.btree_smo.specs.declared.outcome.Outcome.TheVariants.{Done, Full, TooTall, Stale, Moved, Latched, RowSpent, ClockSpent, Unstaged}
use Rattle.btree_smo.specs.Outcomes.{IsHotIn}
use Rattle.btree_smo.specs.Drops.{IsUnfit, IsSpent}
use Rattle.held_rows.specs.Latching.{Refused}
use Rattle.btree_smo.specs.Inside.{StandsIn, IsBare, IsMissed}
use Rattle.btree_smo.specs.Inside.Dropping.{HasOne, IsDropping, NotFit}
use Rattle.btree_smo.proofs.Reading.{reads, one_page, root_is}
use Rattle.btree_smo.proofs.LoweredPages.{one_pair}

module _ {v : Given} {m : Moment} (sound : Sound v m) (n : stored.Page) (root : StandsIn v m 0 n) where
  abbrev s : State
  s = m.core

  abbrev node : Node
  node = (s.page 0).node

  zero_is : n.number ≡ 0
  zero_is = root_is sound.residence root

  level_is : n.node.level ≡ node.level
  level_is = (reads root).level ∙ ap (λ p. (s.page p).node.level) zero_is

  pairs_are : 0 < node.level → n.node.pairs ≡ swips s.place node.pairs
  pairs_are up =
      ap (λ (y : stored.Page). y.node.pairs) root.page
      ∙ (ap (λ p. (Rattle.btree_descent.specs.row_words.Words.framed s.place (s.page p).node).pairs) zero_is
      ∙ ap (λ (y : Node). y.pairs) (framed_inner s.place node sound.tree.root.0 up))

  -- the root with one pair that leads to the frame has the page there as its one child
  pub one_fits : {frame : ℕ} (child : stored.Page) → StandsIn v m frame child → HasOne frame n → may_drop (nodes_of s) child.number ≡ true
  one_fits {frame} child there it =
      let up : 0 < node.level = (let e = level_is in let i = it.inner in omega arith) in
      and_from (ltb 0 node.level) (is_single node.pairs child.number) (lt-ltb 0 node.level up) (single up node.pairs refl)
    where
      single : 0 < node.level → (ps : List Pair) → node.pairs ≡ ps → is_single node.pairs child.number ≡ true
      single up [] e = absurd (let k = ap length (pairs_are up ∙ ap (swips s.place) e) in let o = it.one in omega arith)
      single up (x ∷ y ∷ ys) e = absurd (let k = ap length (pairs_are up ∙ ap (swips s.place) e) in let o = it.one in omega arith)
      single up (x ∷ []) e =
          let ok : NodeOk (opening v).format node = (sound.tree.formed 0 sound.tree.some).node sound.tree.root.0 in
          let below : x.word < (opening v).format.pages = (ok.children up x (subst (λ (ps : List Pair). Rattle.page_model.specs.Pairs.Has x ps) (sym e) (inl refl))).1 in
          let small : x.word < 2 ^ 63 = (let f = sound.few in omega arith) in
          let word : swip (s.place x.word) x.word ≡ 2 ^ 63 + frame = ap (word_at 0) (sym (pairs_are up ∙ ap (swips s.place) e)) ∙ it.word in
          let hot = hot_swip (s.place x.word) x.word small (omega arith) in
          let at : hot.0 ≡ frame = (let h = hot.2 in omega arith) in
          let same : x.word ≡ child.number = one_page x.word child.number sound.residence (record { below = below; hot = hot.1 ∙ ap Place.Hot at }) there.stands in
          ap (λ (ps : List Pair). is_single ps child.number) e ∙ and_from (x.word == child.number) true (eq-eqb x.word child.number same) refl

  -- so it names that page
  pub only_named : {frame : ℕ} (child : stored.Page) → StandsIn v m frame child → HasOne frame n → names_page (s.page n.number).node child.number ≡ true
  only_named child there it =
      let a = and_true (ltb 0 node.level) (is_single node.pairs child.number) (one_fits child there it) in
      let one = one_pair node.pairs child.number a.1 in
      ap (λ p. names_page (s.page p).node child.number) zero_is
      ∙ names_pair node (record { key = one.0; word = child.number }) sound.tree.root.0 (ltb-true 0 node.level a.0) (subst (λ (ps : List Pair). Rattle.page_model.specs.Pairs.Has (record { key = one.0; word = child.number }) ps) (sym one.1) (inl refl))

  -- and one that has it leads there
  fits_one : {frame : ℕ} (p : ℕ) → IsHotIn v m frame p → may_drop (nodes_of s) p ≡ true → HasOne frame n
  fits_one {frame} p there ok =
      let a = and_true (ltb 0 node.level) (is_single node.pairs p) ok in
      let up = ltb-true 0 node.level a.0 in
      let one = one_pair node.pairs p a.1 in
      let pairs : n.node.pairs ≡ record { key = one.0; word = swip (s.place p) p } ∷ [] = pairs_are up ∙ ap (swips s.place) one.1 in record {
        inner = (let e = level_is in omega arith);
        one = ap length pairs;
        word = ap (word_at 0) pairs ∙ ap (λ x. swip x p) there.hot;
      }

  pub not_only : {frame : ℕ} (row : ℕ) → row ≡ 0 → (HasOne frame n → ⊥) → IsUnfit frame row v m
  not_only {frame} row is off = record { either = inl (is, λ p h. cases (may_drop (nodes_of s) p) (λ y. absurd (off (fits_one p h y))) (λ z. z)) }

  pub root_spent : {frame : ℕ} → LAST_NUMBER ≤ n.gsn → IsSpent frame v m
  root_spent {frame} le = inl (record { page = n.number; stands = root.stands; spent = subst (λ x. LAST_NUMBER ≤ x) (reads root).gsn le })

pub none_there : {v : Given} {m : Moment} {frame : ℕ} → IsBare v m frame → IsUnfit frame frame v m
none_there bare = record { either = inr (refl, bare) }

pub child_spent : {v : Given} {m : Moment} {frame : ℕ} (n : stored.Page) → StandsIn v m frame n → LAST_NUMBER ≤ n.gsn → IsSpent frame v m
child_spent n child le = inr (record { page = n.number; stands = child.stands; spent = subst (λ x. LAST_NUMBER ≤ x) (reads child).gsn le })

-- the level can be dropped
pub dropping_at : {w : View} (worker frame : ℕ) (l : Dropping) → IsSound w.given → ((state w).core.worker worker).is_open ≡ true → ((state w).core.worker worker).clock < 2 ^ 62 → StandsIn w.given (state w) 0 l.root → StandsIn w.given (state w) frame l.child
    → l.image ≡ written (state w).core l.child.number l.child.generation → HasOne frame l.root → l.root.gsn < LAST_NUMBER → l.child.gsn < LAST_NUMBER → IsDropping w worker frame l
dropping_at {w} worker frame l sound open_is young root child image one a b =
    let s = (state w).core in
    let c = l.child.number in
    let hot0 : is_hot (s.place 0) ≡ true = ap is_hot (sound w.seen).residence.root in
    let hot1 : is_hot (s.place c) ≡ true = ap is_hot child.stands.hot in
    let fits : may_drop (nodes_of s) c ≡ true = one_fits (sound w.seen) l.root root l.child child one in record {
      root = root;
      first = root_is (sound w.seen).residence root;
      child = child;
      image = image;
      met = rw (hot0, hot1, open_is, fits) refl;
      young = young;
      root_small = a;
      child_small = b;
    }

-- a row was not to be had
pub missed_unfit : {alone : Bool} {v w : View} (frame : ℕ) (why : Outcome) → IsMissed why → Refused alone v w → NotFit alone frame v why w
missed_unfit frame Done h r = absurd h
missed_unfit frame (Full row) h r = absurd h
missed_unfit frame TooTall h r = absurd h
missed_unfit frame (Stale row) h r = absurd h
missed_unfit frame (Moved m) h r = r
missed_unfit frame (Latched l) h r = r
missed_unfit frame (RowSpent row) h r = r
missed_unfit frame ClockSpent h r = absurd h
missed_unfit frame (Unstaged u) h r = absurd h
