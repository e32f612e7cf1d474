-- What is found of a level is so.
use Rattle.std.proofs.Common.{◌≡◌, ◌≢◌, ◌⊎◌, inl, inr, ◌≤◌, ◌<◌, ◌+◌, ◌-◌, ◌==◌, ◌&&◌, ◌||◌, ◌^◌, leb, ltb, not, ℕ, zero, suc, Bool, true, false, cond, List, [], ◌∷◌, length, Option, Some, None, refl, sym, ap, ◌∙◌, subst, arith, true≢false, eq-eqb}
use Rattle.std.proofs.lemmas.Bool.{and_from, and_parts, cases_lt, cond-true, cond-false, eqb-true, le-leb, lt-leb, ne_eqb}
use Rattle.map_model.specs.Lists.{any}
use Rattle.page_model.specs.Check.{names_page}
use Rattle.page_model.specs.Limits.{frame_bit}
use Rattle.page_model.specs.Nodes.{Node, covers}
use Rattle.page_model.specs.Page as stored
use Rattle.page_model.specs.Page.{word_at}
use Rattle.page_model.specs.Pairs.{Has, Pair, Span, spans}
use Rattle.row_changes.specs.session_state.core_state.Events.{Event}
use Rattle.row_changes.specs.session_state.core_state.Needs.{are_hot, may, may_join, needs, pages_of}
use Rattle.row_changes.specs.session_state.core_state.Openings.{Opening}
use Rattle.row_changes.specs.session_state.core_state.States.{Place, State, is_hot, nodes_of}
use Rattle.row_changes.specs.session_state.worker_log.Logs.{Log}
use Rattle.row_changes.specs.session_state.row_words.Openings.{opening}
use Rattle.row_changes.specs.session_state.row_words.Words.{is_inner}
use Rattle.row_changes.specs.session_state.rows_trait.Views.{Shape, state}
use Rattle.row_changes.specs.session_state.rows_trait.declared.view.View.{View}
use Rattle.row_changes.specs.session_state.Holds.{Holds}
use Rattle.row_changes.specs.session_state.declared.session.Session.{Session}
use Rattle.row_image.specs.Hot.{StandsIn}
use Rattle.row_image.specs.Sights.{EveryPair, HasNone, IsFirst, NamesAt, PairLaws}
use Rattle.row_tidying.proofs.btree_smo.Reading.{framed_count}
use Rattle.row_tidying.specs.tidy_rules.Laws.{EveryTidy}
use Rattle.row_tidying.specs.tidy_rules.Tidying.{Sisters, Stage, is_thin, join_of, join_under, next_up, page_at, sisters, thin_most}
use Rattle.row_tidying.specs.Changes.{CanJoin}
use Rattle.row_tidying.proofs.MadeLemmas.{one_in, sound}
use Rattle.row_walks.specs.Inside.Ways.{IsOnWay, IsWayIn, frame_at}
use Rattle.row_walks.specs.Stages.{IsNeighbour}
use Rattle.row_walks.specs.Inside.Levels.{IsJoinable}
use Rattle.row_walks.proofs.LevelLemmas.{last_sister, next_sister, no_sister, up_joins}

-- a page that is named is named by some pair
named_at : (xs : List Pair) (high p : ℕ) → any (λ (s : Span). s.child == p) (spans xs high) ≡ true → (j : ℕ) × (j < length xs) × (word_at j xs ≡ p)
named_at [] high p e = absurd (true≢false (sym e))
named_at (x ∷ xs) high p e = go (named_at xs high p) (x.word == p) refl e
  where
    go : (any (λ (s : Span). s.child == p) (spans xs high) ≡ true → (j : ℕ) × (j < length xs) × (word_at j xs ≡ p)) → (b : Bool) → (x.word == p) ≡ b → (b || any (λ (s : Span). s.child == p) (spans xs high)) ≡ true
        → (j : ℕ) × (j < length (x ∷ xs)) × (word_at j (x ∷ xs) ≡ p)
    go ih true q r = (0, omega arith, eqb-true x.word p q)
    go ih false q r = let k = ih r in (suc k.0, (let l = k.1 in omega arith), k.2)

-- a pair by its index
pair_at : (xs : List Pair) (i : ℕ) → i < length xs → (y : Pair) × Has y xs × (y.word ≡ word_at i xs)
pair_at [] i lt = absurd (omega arith)
pair_at (x ∷ xs) zero lt = (x, inl refl, refl)
pair_at (x ∷ xs) (suc i) lt = let k = pair_at xs i (omega arith) in (k.0, inr k.1, k.2)

module _ (pairs : EveryPair) (tidy : EveryTidy) (z : Shape) (v : View) (x : Session) (log : Log) (h : Holds z v x log) (open_is : x.is_open ≡ true) (key : ℕ) (path : List ℕ) (way : IsWayIn v key path) (l : ℕ) (lt : suc l < length path) where
  abbrev g : Opening
  g = opening v.given

  abbrev s : State
  s = (state v).core

  abbrev child : ℕ
  child = way.page l

  abbrev parent : ℕ
  parent = way.page (suc l)

  abbrev frame : ℕ
  frame = frame_at path l

  abbrev above : ℕ
  above = frame_at path (suc l)

  child_on : IsOnWay g s key l child frame
  child_on = way.way l (omega arith)

  parent_on : IsOnWay g s key (suc l) parent above
  parent_on = way.way (suc l) lt

  found_child : page_at g s key l ≡ Some child
  found_child = way.found l (omega arith)

  found_parent : page_at g s key (suc l) ≡ Some parent
  found_parent = way.found (suc l) lt

  -- what is seen in a frame has as many pairs as the page there
  pub is_page : (p f : ℕ) (n : stored.Page) → StandsIn v.given (state v) f n → s.place p ≡ Place.Hot f → n.number ≡ p
  is_page p f n st hot = one_in z v x log h n.number p f st.stands.hot hot

  pub count_is : (p f : ℕ) (n : stored.Page) → StandsIn v.given (state v) f n → s.place p ≡ Place.Hot f → length n.node.pairs ≡ length (nodes_of s p).pairs
  count_is p f n st hot =
      ap (λ (q : stored.Page). length q.node.pairs) st.page ∙ (framed_count s.place (nodes_of s n.number) ∙ ap (λ (i : ℕ). length (nodes_of s i).pairs) (is_page p f n st hot))

  -- ## The child

  thin_is : is_thin s (page_at g s key l) ≡ leb (length (nodes_of s child).pairs) 15
  thin_is = ap (is_thin s) found_child ∙ ap (λ b. not b && leb (length (nodes_of s child).pairs) 15) (ne_eqb child 0 (way.other l lt))

  module _ (c : stored.Page) (seen : StandsIn v.given (state v) frame c) where
    pub level_thick : 15 < length c.node.pairs → is_thin s (page_at g s key l) ≡ false
    level_thick many = thin_is ∙ lt-leb (length (nodes_of s child).pairs) 15 (let e = count_is child frame c seen child_on.hot in omega arith)

    pub level_thin : length c.node.pairs ≤ 15 → is_thin s (page_at g s key l) ≡ true
    level_thin few = thin_is ∙ le-leb (length (nodes_of s child).pairs) 15 (let e = count_is child frame c seen child_on.hot in omega arith)

  -- ## The parent

  module _ (q : stored.Page) (seen : StandsIn v.given (state v) above q) where
    laws : PairLaws (state v) q
    laws = pairs v.given (state v) above q (sound z v x log h) seen

    number_is : q.number ≡ parent
    number_is = is_page parent above q seen parent_on.hot

    pub parent_count : length q.node.pairs ≡ length (nodes_of s parent).pairs
    parent_count = count_is parent above q seen parent_on.hot

    parts : ((nodes_of s parent).live && ltb 0 (nodes_of s parent).level ≡ true) × (any (λ (t : Span). t.child == child) (spans (nodes_of s parent).pairs (nodes_of s parent).high) ≡ true)
    parts = and_parts ((nodes_of s parent).live && ltb 0 (nodes_of s parent).level) (any (λ (t : Span). t.child == child) (spans (nodes_of s parent).pairs (nodes_of s parent).high)) (way.names l lt)

    inner_is : is_inner (nodes_of s q.number) ≡ true
    inner_is = ap (λ (i : ℕ). is_inner (nodes_of s i)) number_is ∙ parts.0

    -- a pair of the parent, by its index
    names_at : (j p : ℕ) → j < length (nodes_of s parent).pairs → word_at j (nodes_of s parent).pairs ≡ p → NamesAt (state v) q.number j p
    names_at j p below e = record {
      inner = inner_is;
      short = let k = ap (λ (i : ℕ). length (nodes_of s i).pairs) number_is in omega arith;
      names = ap (λ (i : ℕ). word_at j (nodes_of s i).pairs) number_is ∙ e;
    }

    word_there : (j p : ℕ) → NamesAt (state v) q.number j p → word_at j (nodes_of s parent).pairs ≡ p
    word_there j p n = ap (λ (i : ℕ). word_at j (nodes_of s i).pairs) (sym number_is) ∙ n.names

    child_word : (j : ℕ) → j < length (nodes_of s parent).pairs → word_at j (nodes_of s parent).pairs ≡ child → (is_inner q.node ≡ true) × (j < length q.node.pairs) × (word_at j q.node.pairs ≡ frame_bit + frame)
    child_word j below e = laws.named_hot j child frame (names_at j child below e) child_on.hot

    -- some pair has the child's word
    pub some_pair : HasNone q (frame_bit + frame) → ⊥
    some_pair none =
        let k = named_at (nodes_of s parent).pairs (nodes_of s parent).high child parts.1 in
        let w = child_word k.0 k.1 k.2 in
        none w.0 k.0 w.1 w.2

    module _ (at : ℕ) (first : IsFirst q (frame_bit + frame) at) where
      pub at_below : at < length (nodes_of s parent).pairs
      at_below = let a = first.short in let b = parent_count in omega arith

      at_word : word_at at (nodes_of s parent).pairs ≡ child
      at_word =
          let r = laws.hot at frame first.inner first.short first.word_is in
          word_there at r.0 r.1 ∙ one_in z v x log h r.0 child frame r.2 child_on.hot

      at_first : (j : ℕ) → j < at → word_at j (nodes_of s parent).pairs ≢ child
      at_first j below e = first.before j below (child_word j (let k = at_below in omega arith) e).2

      join_is : (b : Option Sisters) → sisters (nodes_of s parent).pairs child ≡ b → join_under x.own g s (page_at g s key l) (page_at g s key (suc l)) ≡ join_of x.own g s parent b
      join_is b e = (λ i. join_under x.own g s (found_child i) (found_parent i)) ∙ ap (join_of x.own g s parent) e

      -- alone under its parent
      pub level_alone : length q.node.pairs < 2 → join_under x.own g s (page_at g s key l) (page_at g s key (suc l)) ≡ None
      level_alone few = join_is None (no_sister (nodes_of s parent).pairs child (let k = parent_count in omega arith))

      -- ## Its neighbour

      next_pair : suc at < length (nodes_of s parent).pairs → sisters (nodes_of s parent).pairs child ≡ Some (record { left = child; right = word_at (suc at) (nodes_of s parent).pairs })
      next_pair more = next_sister (nodes_of s parent).pairs at child more at_word at_first

      last_pair : (b : ℕ) → at ≡ suc b → suc at ≡ length (nodes_of s parent).pairs → sisters (nodes_of s parent).pairs child ≡ Some (record { left = word_at b (nodes_of s parent).pairs; right = child })
      last_pair b is end = last_sister (nodes_of s parent).pairs b child (omega arith) (ap (λ i. word_at i (nodes_of s parent).pairs) (sym is) ∙ at_word) (λ j below. at_first j (omega arith))

      -- it is not hot
      pub cold_there : (other p : ℕ) → other < length q.node.pairs → word_at other q.node.pairs ≡ p → p < frame_bit → (word_at other (nodes_of s parent).pairs ≡ p) × (is_hot (s.place p) ≡ false)
      cold_there other p short e low = let k = laws.cold other p first.inner short e low in (word_there other p k.0, k.1)

      pub needs_next : (thin : is_thin s (page_at g s key l) ≡ true) (p : ℕ) → suc at < length q.node.pairs → word_at (suc at) q.node.pairs ≡ p → p < frame_bit → IsNeighbour g s key l p
      needs_next thin p short e low =
          let k = cold_there (suc at) p short e low in
          record {
            thin = thin;
            own_page = child;
            found = found_child;
            parent = parent;
            found_parent = found_parent;
            pair = record { left = child; right = word_at (suc at) (nodes_of s parent).pairs };
            are = next_pair (let m = parent_count in omega arith);
            either = inr (sym k.0);
            cold = k.1;
          }

      pub needs_last : (thin : is_thin s (page_at g s key l) ≡ true) (b p : ℕ) → at ≡ suc b → suc at ≡ length q.node.pairs → word_at b q.node.pairs ≡ p → p < frame_bit → IsNeighbour g s key l p
      needs_last thin b p is end e low =
          let k = cold_there b p (omega arith) e low in
          record {
            thin = thin;
            own_page = child;
            found = found_child;
            parent = parent;
            found_parent = found_parent;
            pair = record { left = word_at b (nodes_of s parent).pairs; right = child };
            are = last_pair b is (let m = parent_count in omega arith);
            either = inl (sym k.0);
            cold = k.1;
          }

      -- it is hot
      pub hot_there : (other f : ℕ) → other < length q.node.pairs → word_at other q.node.pairs ≡ frame_bit + f → (p : ℕ) × (word_at other (nodes_of s parent).pairs ≡ p) × (s.place p ≡ Place.Hot f)
      hot_there other f short e = let k = laws.hot other f first.inner short e in (k.0, word_there other k.0 k.1, k.2)

      -- a page's number is low
      pub low_there : (other : ℕ) → other < length q.node.pairs → word_at other (nodes_of s parent).pairs < 2 ^ 16
      low_there other short =
          let k = pair_at (nodes_of s parent).pairs other (let m = parent_count in omega arith) in
          let tree = (sound z v x log h).tree in
          let is = and_parts (nodes_of s parent).live (ltb 0 (nodes_of s parent).level) parts.0 in
          let few = h.rows.few_pages in
          let low = (((tree.formed parent parent_on.below).node is.0).children (Rattle.std.proofs.lemmas.Bool.ltb-true 0 (nodes_of s parent).level is.1) k.0 k.1).1 in
          let e = k.2 in
          omega arith

      -- a join that is next may be made
      can_join : (left right a b : ℕ) → is_thin s (page_at g s key l) ≡ true → sisters (nodes_of s parent).pairs child ≡ Some (record { left = left; right = right }) → s.place left ≡ Place.Hot a → s.place right ≡ Place.Hot b
          → length (nodes_of s left).pairs + length (nodes_of s right).pairs ≤ 45 → IsJoinable x.own v key l a b above right
      can_join left right a b thin are la rb few = record {
        thin = thin;
        can = record { left = left; parent = parent; left_stands = la; right_stands = rb; parent_stands = parent_on.hot; joins = (and_parts (s.worker x.own).is_open (may_join g (nodes_of s) left right parent) (and_parts (are_hot s (left ∷ right ∷ parent ∷ [])) (needs g s e) met).1).1 };
        next = joins;
        found = found_parent;
        high = let f = way.few in omega arith;
      }
        where
          e : Event
          e = Event.Join x.own left right parent

          joins : join_under x.own g s (page_at g s key l) (page_at g s key (suc l)) ≡ Some e
          joins = join_is (Some (record { left = left; right = right })) are
              ∙ cond-true (leb (length (nodes_of s left).pairs + length (nodes_of s right).pairs) g.joined) (Some e) None (le-leb (length (nodes_of s left).pairs + length (nodes_of s right).pairs) 45 few)

          hot : (p f : ℕ) → s.place p ≡ Place.Hot f → is_hot (s.place p) ≡ true
          hot p f k = ap is_hot k

          met : may g s e ≡ true
          met = (tidy x.own g s key).met (sound z v x log h).tree (h.session.is_open ∙ open_is) (Stage.From l) e
              ((let n : 7 - l ≡ suc (6 - l) = (let k = way.few in omega arith) in ap (λ m. next_up x.own g s key m l) n) ∙ up_joins x.own g s key (6 - l) l e thin joins)
              (and_from (is_hot (s.place left)) (is_hot (s.place right) && (is_hot (s.place parent) && true)) (hot left a la)
              (and_from (is_hot (s.place right)) (is_hot (s.place parent) && true) (hot right b rb) (and_from (is_hot (s.place parent)) true (hot parent above parent_on.hot) refl)))

      -- or both have too many pairs
      crowded : (left right : ℕ) → sisters (nodes_of s parent).pairs child ≡ Some (record { left = left; right = right }) → 45 < length (nodes_of s left).pairs + length (nodes_of s right).pairs
          → join_under x.own g s (page_at g s key l) (page_at g s key (suc l)) ≡ None
      crowded left right are many = join_is (Some (record { left = left; right = right })) are
          ∙ cond-false (leb (length (nodes_of s left).pairs + length (nodes_of s right).pairs) g.joined) (Some (Event.Join x.own left right parent)) None
          (lt-leb (length (nodes_of s left).pairs + length (nodes_of s right).pairs) 45 many)

      module _ (c : stored.Page) (seen_child : StandsIn v.given (state v) frame c) (n : stored.Page) (f : ℕ) (seen_sister : StandsIn v.given (state v) f n) where
        pub joins_next : is_thin s (page_at g s key l) ≡ true → suc at < length q.node.pairs → word_at (suc at) q.node.pairs ≡ frame_bit + f → length c.node.pairs + length n.node.pairs ≤ 45 → IsJoinable x.own v key l frame f above n.number
        joins_next thin short e few =
            let k = hot_there (suc at) f short e in
            let is = is_page k.0 f n seen_sister k.2 in
            subst (λ p. IsJoinable x.own v key l frame f above p) (sym is)
            (can_join child k.0 frame f thin (next_pair (let m = parent_count in omega arith) ∙ ap (λ w. Some (record { left = child; right = w })) k.1) child_on.hot k.2
            (let a = count_is child frame c seen_child child_on.hot in let b = count_is k.0 f n seen_sister k.2 in omega arith))

        pub joins_last : is_thin s (page_at g s key l) ≡ true → (b : ℕ) → at ≡ suc b → suc at ≡ length q.node.pairs → word_at b q.node.pairs ≡ frame_bit + f → length c.node.pairs + length n.node.pairs ≤ 45 → IsJoinable x.own v key l f frame above c.number
        joins_last thin b at_is end e few =
            let k = hot_there b f (omega arith) e in
            let is = is_page child frame c seen_child child_on.hot in
            subst (λ p. IsJoinable x.own v key l f frame above p) (sym is)
            (can_join k.0 child f frame thin (last_pair b at_is (let m = parent_count in omega arith) ∙ ap (λ w. Some (record { left = w; right = child })) k.1) k.2 child_on.hot
            (let a = count_is child frame c seen_child child_on.hot in let d = count_is k.0 f n seen_sister k.2 in omega arith))

        pub crowded_next : suc at < length q.node.pairs → word_at (suc at) q.node.pairs ≡ frame_bit + f → 45 < length c.node.pairs + length n.node.pairs → join_under x.own g s (page_at g s key l) (page_at g s key (suc l)) ≡ None
        crowded_next short e many =
            let k = hot_there (suc at) f short e in
            crowded child k.0 (next_pair (let m = parent_count in omega arith) ∙ ap (λ w. Some (record { left = child; right = w })) k.1)
            (let a = count_is child frame c seen_child child_on.hot in let b = count_is k.0 f n seen_sister k.2 in omega arith)

        pub crowded_last : (b : ℕ) → at ≡ suc b → suc at ≡ length q.node.pairs → word_at b q.node.pairs ≡ frame_bit + f → 45 < length c.node.pairs + length n.node.pairs → join_under x.own g s (page_at g s key l) (page_at g s key (suc l)) ≡ None
        crowded_last b at_is end e many =
            let k = hot_there b f (omega arith) e in
            crowded k.0 child (last_pair b at_is (let m = parent_count in omega arith) ∙ ap (λ w. Some (record { left = w; right = child })) k.1)
            (let a = count_is child frame c seen_child child_on.hot in let d = count_is k.0 f n seen_sister k.2 in omega arith)
