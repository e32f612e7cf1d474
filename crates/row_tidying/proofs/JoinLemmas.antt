-- What comes of a join.
use Rattle.std.proofs.Common.{◌≡◌, ◌≢◌, ◌⊎◌, inl, inr, ◌≤◌, ◌<◌, ◌+◌, ◌==◌, ◌&&◌, leb, ltb, ℕ, true, List, [], ◌∷◌, length, Result, Ok, refl, sym, ap, ◌∙◌, subst, arith, true≢false}
use Rattle.std.proofs.lemmas.Bool.{and_parts, eqb-true, leb-true, ltb-true}
use Rattle.page_model.specs.Check.{names_page}
use Rattle.page_model.specs.Needs.{join_record}
use Rattle.page_model.specs.Nodes.{Node}
use Rattle.page_model.specs.Pairs.{Span}
use Rattle.page_model.specs.Tree.{IsTree, Names}
use Rattle.page_model.proofs.Tree.{span_fences}
use Rattle.row_changes.specs.session_state.image_model.Entries.{Kind}
use Rattle.row_changes.proofs.session_state.core_commit.Events.{names_to}
use Rattle.row_changes.specs.session_state.core_state.Events as happening
use Rattle.row_changes.specs.session_state.core_state.Needs.{may, may_join}
use Rattle.row_changes.specs.session_state.core_state.Openings.{Opening}
use Rattle.row_changes.specs.session_state.core_state.States.{Place, State, gsns_of, nodes_of}
use Rattle.row_changes.specs.session_state.core_state.Steps.{happens}
use Rattle.row_changes.specs.session_state.core_calls.Room.{free_list}
use Rattle.row_changes.specs.session_state.engine_trait.declared.unserved.Unserved.{Unserved}
use Rattle.row_changes.specs.session_state.draw_trait.declared.draw.Unstaged.{Unstaged}
use Rattle.row_changes.specs.session_state.draw_trait.declared.draw.Unstaged.TheVariants.{DiskFault, LogFull}
use Rattle.lean_disk.specs.Story.{Story}
use Rattle.row_changes.specs.session_state.log_record.declared.record.Record.{Record}
use Rattle.row_changes.specs.session_state.worker_log.Logs.{Log}
use Rattle.row_changes.specs.session_state.row_words.declared.event.Event.TheVariants.{Join}
use Rattle.row_changes.specs.session_state.row_words.Moments.{Moment}
use Rattle.row_changes.specs.session_state.row_words.Openings.{opening}
use Rattle.row_changes.specs.session_state.rows_trait.Causes.{EveryLow}
use Rattle.row_changes.specs.session_state.rows_trait.Views.{AreLow, Shape, after_all, state}
use Rattle.row_changes.specs.session_state.rows_trait.declared.view.View.{View}
use Rattle.row_changes.specs.session_state.Holds.{Holds}
use Rattle.row_changes.specs.session_state.Numbers.{HaveRoom}
use Rattle.row_changes.specs.session_state.Staging.{Staging}
use Rattle.row_changes.specs.session_state.declared.session.Session.{Session}
use Rattle.btree_smo.specs.Joins as joins
use Rattle.btree_smo.specs.Joins.{Joined, Merged, join_entry}
use Rattle.btree_smo.specs.Splits.{IsSpent}
use Rattle.btree_smo.specs.Outcomes.{Caused, Drew, IsHotIn, IsUndisturbed, Missed, WasSo, last_after}
use Rattle.btree_smo.specs.declared.outcome.Outcome.{Outcome}
use Rattle.btree_smo.specs.declared.outcome.Outcome.TheVariants as outcome
use Rattle.tidy_rules.specs.Laws.{EveryFreed, put_in}
use Rattle.row_tidying.specs.Changes.{IsMade, CanJoin, MayTidy}
use Rattle.row_tidying.specs.Ends.{HasRoomFor, IsExpected, answer_of, session_after}
use Rattle.row_tidying.specs.Outcomes.{IsJoined, Joins}
use Rattle.row_tidying.proofs.MadeLemmas.{Told, holds_made, holds_same, hot_in, is_made, met, missed_core, now_is, one_in, sound, spent_within, told_changed, was_then}
use Rattle.row_tidying.proofs.EndLemmas.{not_full, not_spent}

-- what the core asks of the pages
record Beside (g : Opening) (n : ℕ → Node) (l r q : ℕ) : Type 0 where
  pub below : q < g.format.pages
  pub names_left : names_page (n q) l ≡ true
  pub names_right : names_page (n q) r ≡ true
  pub meet : (n l).high ≡ (n r).low
  pub room : length (n l).pairs + length (n r).pairs ≤ g.joined

beside : (g : Opening) (n : ℕ → Node) (l r q : ℕ) → may_join g n l r q ≡ true → Beside g n l r q
beside g n l r q m =
    let p1 = and_parts (ltb q g.format.pages) (names_page (n q) l && (names_page (n q) r && (((n l).high == (n r).low) && leb (length (n l).pairs + length (n r).pairs) g.joined))) m in
    let p2 = and_parts (names_page (n q) l) (names_page (n q) r && (((n l).high == (n r).low) && leb (length (n l).pairs + length (n r).pairs) g.joined)) p1.1 in
    let p3 = and_parts (names_page (n q) r) (((n l).high == (n r).low) && leb (length (n l).pairs + length (n r).pairs) g.joined) p2.1 in
    let p4 = and_parts ((n l).high == (n r).low) (leb (length (n l).pairs + length (n r).pairs) g.joined) p3.1 in
    record { below = ltb-true q g.format.pages p1.0; names_left = p2.0; names_right = p3.0; meet = eqb-true (n l).high (n r).low p4.0; room = leb-true (length (n l).pairs + length (n r).pairs) g.joined p4.1 }

module _ (free : EveryFreed) (z : Shape) (v w : View) (x y : Session) (log log_now : Log) (h : Holds z v x log) (f : MayTidy x log) (fits : HaveRoom v) (a b d page : ℕ) (can : CanJoin v a b d page)
    (rs now : List Record) (old new : Story) (S same : Type 0) (f0 f1 : ℕ) where
  abbrev g : Opening
  g = opening v.given

  abbrev s : State
  s = (state v).core

  abbrev left : ℕ
  left = can.left

  abbrev parent : ℕ
  parent = can.parent

  abbrev Joins_as : Outcome → Type 0
  Joins_as o = Merged z.alone x.own a b d v rs o w y.clock now

  abbrev Draws : Outcome → Type 0
  Draws o = Drew o (λ r. Staging r x y rs now log log_now old new S f0 f1) same

  tree : IsTree g.format (nodes_of s)
  tree = (sound z v x log h).tree

  asked : Beside g (nodes_of s) left page parent
  asked = beside g (nodes_of s) left page parent can.joins

  left_named : (t : Span) × Names (nodes_of s parent) t × (t.child ≡ left)
  left_named = names_to (nodes_of s parent) left asked.names_left

  page_named : (t : Span) × Names (nodes_of s parent) t × (t.child ≡ page)
  page_named = names_to (nodes_of s parent) page asked.names_right

  -- the right page begins where the left one ends, and is not empty; the parent is of another level: they are three
  pages_left_page : left ≢ page
  pages_left_page e =
      let f = span_fences g.format (nodes_of s) tree parent page_named.0 asked.below page_named.1 in let f1 = f.1 in
      let c = tree.down parent asked.below page_named.0 page_named.1 in let c0 = c.low in let c1 = c.high in
      let low = ap (λ (i : ℕ). (nodes_of s i).low) page_named.2 in let high = ap (λ (i : ℕ). (nodes_of s i).high) page_named.2 in
      let same = ap (λ (i : ℕ). (nodes_of s i).high) e in let m = asked.meet in
      omega arith

  pages_left_parent : left ≢ parent
  pages_left_parent e =
      let c = (tree.down parent asked.below left_named.0 left_named.1).level in
      let k = ap (λ (i : ℕ). (nodes_of s i).level) (left_named.2 ∙ e) in
      omega arith

  pages_page_parent : page ≢ parent
  pages_page_parent e =
      let c = (tree.down parent asked.below page_named.0 page_named.1).level in
      let k = ap (λ (i : ℕ). (nodes_of s i).level) (page_named.2 ∙ e) in
      omega arith

  -- so their frames are three
  pub left_page : a ≢ b
  left_page e = pages_left_page (one_in z v x log h left page b (can.left_stands ∙ ap Place.Hot e) can.right_stands)

  pub left_parent : a ≢ d
  left_parent e = pages_left_parent (one_in z v x log h left parent d (can.left_stands ∙ ap Place.Hot e) can.parent_stands)

  pub page_parent : b ≢ d
  page_parent e = pages_page_parent (one_in z v x log h page parent d (can.right_stands ∙ ap Place.Hot e) can.parent_stands)

  then_so : (P : Moment → Type 0) → Missed z.alone v w → WasSo z.alone v w P → P (state v)
  then_so P m so = was_then z.alone v w P h.alone m.ran.given so

  stands_in : (p frame : ℕ) → s.place p ≡ Place.Hot frame → w.given ≡ v.given → IsHotIn w.given (state v) frame p
  stands_in p frame hot given = subst (λ k. IsHotIn k (state v) frame p) (sym given) (hot_in z v x log h p frame hot)

  unfit : (row : ℕ) → joins.IsUnfit a b d row w.given (state v) → w.given ≡ v.given → ⊥
  unfit row t given = go t.either
    where
      go : ((row ≡ a) × ((p : ℕ) → IsHotIn w.given (state v) a p → ⊥))
          ⊎ (((row ≡ b) × ((p r : ℕ) → IsHotIn w.given (state v) a p → IsHotIn w.given (state v) b r → (nodes_of s p).high ≢ (nodes_of s r).low))
          ⊎ ((row ≡ d) × ((p r q : ℕ) → IsHotIn w.given (state v) a p → IsHotIn w.given (state v) b r → IsHotIn w.given (state v) d q → names_page (nodes_of s q) p ≡ true → names_page (nodes_of s q) r ≡ true → ⊥))) → ⊥
      go (inl k) = k.1 left (stands_in left a can.left_stands given)
      go (inr (inl k)) = k.1 left page (stands_in left a can.left_stands given) (stands_in page b can.right_stands given) asked.meet
      go (inr (inr k)) = k.1 left page parent (stands_in left a can.left_stands given) (stands_in page b can.right_stands given) (stands_in parent d can.parent_stands given) asked.names_left asked.names_right

  crowded : (row : ℕ) → joins.IsCrowded a b row w.given (state v) → w.given ≡ v.given → ⊥
  crowded row t given =
      let m = t.crowded in
      let one = ap (λ (i : ℕ). length (nodes_of s i).pairs) (one_in z v x log h t.left left a t.left_stands.hot can.left_stands) in
      let two = ap (λ (i : ℕ). length (nodes_of s i).pairs) (one_in z v x log h t.right page b t.right_stands.hot can.right_stands) in
      let k = asked.room in let e = ap (λ i. (opening i).joined) given in
      omega arith

  spent : IsSpent a b d w.given (state v) → ⊥
  spent (inl t) = not_spent z v w x log h fits f a t
  spent (inr (inl t)) = not_spent z v w x log h fits f b t
  spent (inr (inr t)) = not_spent z v w x log h fits f d t

  pub join_expected : (o : Outcome) → Joins_as o → Draws o → IsUndisturbed o → IsExpected o
  join_expected outcome.Done r k q = tt
  join_expected (outcome.RowSpent row) r k q = tt
  join_expected (outcome.Unstaged DiskFault) r k q = tt
  join_expected (outcome.Unstaged (LogFull used limit)) r k q = not_full v x y log log_now rs now old new S f0 f1 used limit f k
  join_expected (outcome.Full row) r k q = crowded row (then_so (joins.IsCrowded a b row w.given) r.0 r.1) r.0.ran.given
  join_expected outcome.TooTall r k q = r
  join_expected (outcome.Stale row) r k q = unfit row (then_so (joins.IsUnfit a b d row w.given) r.0 r.1) r.0.ran.given
  join_expected (outcome.Moved m) r k q = q
  join_expected (outcome.Latched l) r k q = q
  join_expected outcome.ClockSpent r k q = spent (then_so (IsSpent a b d w.given) r.0 r.1)

  module _ (l : Joined z.alone x.own a b d v rs w y.clock now) where
    here : (p q frame : ℕ) → (after_all w.given l.change.past).core.place p ≡ Place.Hot frame → s.place q ≡ Place.Hot frame → p ≡ q
    here p q frame hot at = one_in z v x log h p q frame (ap (λ m. m.core.place p) (sym (now_is z.alone v w l.change.past h.alone l.change.ran.given l.change.onward)) ∙ hot) at

    left_here : l.left ≡ left
    left_here = here l.left left a l.left_hot can.left_stands

    right_is : l.right ≡ page
    right_is = here l.right page b l.right_hot can.right_stands

    parent_here : l.parent ≡ parent
    parent_here = here l.parent parent d l.parent_hot can.parent_stands

    told : Told z.alone x.own (Join x.own l.left l.right l.parent) [] (join_entry x.own l.left l.right l.parent) v rs w y.clock now
    told = told_changed z.alone x.own (Join x.own l.left l.right l.parent) (join_entry x.own l.left l.right l.parent) v rs w y.clock now l.change

    join_met : may g s (happening.Event.Join x.own l.left l.right l.parent) ≡ true
    join_met = met z v w x log h f Kind.Join refl refl (Join x.own l.left l.right l.parent) [] (l.left ∷ l.right ∷ l.parent ∷ []) (join_record (nodes_of s) (gsns_of s) l.left l.right l.parent) (join_entry x.own l.left l.right l.parent) rs now y log_now told refl refl refl

    freed_is : free_list g (happens g s (happening.Event.Join x.own l.left l.right l.parent)) ≡ put_in page x.free
    freed_is = (free g s).join tree x.own l.left l.right l.parent join_met ∙ (λ i. put_in (right_is i) (sym h.free i))

    module _ (held : w.held ≡ []) (st : Staging (Ok tt) x y rs now log log_now old new S f0 f1) (last : log_now.last ≡ y.clock.clock) where
      pub join_leaves_on : Holds z w (record y { free = put_in page y.free }) log_now
      join_leaves_on =
          subst (λ k. Holds z w (record y { free = put_in page k }) log_now) (sym (ap (λ (k : Session). k.free) st.session))
          (holds_made z v w x log h f Kind.Join refl refl (Join x.own l.left l.right l.parent) [] (l.left ∷ l.right ∷ l.parent ∷ []) (join_record (nodes_of s) (gsns_of s) l.left l.right l.parent) (join_entry x.own l.left l.right l.parent) rs now y log_now told refl refl refl
          old new S f0 f1 held st last (put_in page x.free) freed_is)

      pub is_joined : IsJoined a b d page v w x (record y { free = put_in page y.free }) log log_now old new
      is_joined = subst (λ k. IsJoined a b d k v w x (record y { free = put_in k y.free }) log log_now old new) right_is (record {
        left = l.left;
        parent = l.parent;
        left_stands = ap s.place left_here ∙ can.left_stands;
        right_stands = ap s.place right_is ∙ can.right_stands;
        parent_stands = ap s.place parent_here ∙ can.parent_stands;
        made = freed_as (is_made z v w x log h f Kind.Join refl refl (Join x.own l.left l.right l.parent) [] (l.left ∷ l.right ∷ l.parent ∷ []) (join_record (nodes_of s) (gsns_of s) l.left l.right l.parent) (join_entry x.own l.left l.right l.parent) rs now y log_now told refl refl refl
            old new S f0 f1 held st last (put_in l.right x.free));
      })
        where
          freed_as : IsMade (Join x.own l.left l.right l.parent) [] (put_in l.right x.free) v w x (record y { free = put_in l.right x.free }) log log_now old new → IsMade (Join x.own l.left l.right l.parent) [] (put_in l.right x.free) v w x (record y { free = put_in l.right y.free }) log log_now old new
          freed_as = subst (λ (f : List ℕ). IsMade (Join x.own l.left l.right l.parent) [] (put_in l.right x.free) v w x (record y { free = put_in l.right f }) log log_now old new) (sym (ap (λ (k : Session). k.free) st.session))

  module _ (low : EveryLow) (are : AreLow (length w.seen) w.steps) (held : w.held ≡ []) where
    join_made : (same_now broken : Type 0) (o : Outcome) → IsExpected o → Joins_as o → Draws o → Caused v o w → log_now.last ≡ last_after o log.last y.clock.clock
        → ((row : ℕ) → o ≡ outcome.RowSpent row → same → same_now) → ((why : Unstaged) → o ≡ outcome.Unstaged why → broken)
        → Joins (answer_of o page) a b d page v w x (session_after o page y) log log_now old new same_now broken
    join_made same_now broken outcome.Done t r k c last to off = (refl, is_joined r held k last)
    join_made same_now broken (outcome.RowSpent row) t r k c last to off = (spent_within low 8 z.alone v w row h.alone are r c, to row refl k)
    join_made same_now broken (outcome.Unstaged DiskFault) t r k c last to off = (k.came, off DiskFault refl)
    join_made same_now broken _ t r k c last to off = absurd t

    join_left : (same → y ≡ x) → (same → log_now ≡ log) → (o : Outcome) → IsExpected o → Joins_as o → Draws o → log_now.last ≡ last_after o log.last y.clock.clock → (session_after o page y).works ≡ true → Holds z w (session_after o page y) log_now
    join_left sx sl outcome.Done t r k last works = join_leaves_on r held k last
    join_left sx sl (outcome.RowSpent row) t r k last works =
        subst (λ i. Holds z w i log_now) (sym (sx k)) (subst (λ i. Holds z w x i) (sym (sl k)) (holds_same z v w x log r.ran.given (missed_core 8 z.alone v w h.alone r) held h))
    join_left sx sl (outcome.Unstaged DiskFault) t r k last works = absurd (true≢false (sym works))
    join_left sx sl _ t r k last works = absurd t

    -- as its caller sees it
    pub join_answered : (same_now broken : Type 0) (o : Outcome) → IsExpected o → Joins_as o → Draws o → Caused v o w → log_now.last ≡ last_after o log.last y.clock.clock
        → ((row : ℕ) → o ≡ outcome.RowSpent row → same → same_now) → ((why : Unstaged) → o ≡ outcome.Unstaged why → broken)
        → (r : Result ℕ Unserved) (k : Session) → r ≡ answer_of o page → k ≡ session_after o page y → Joins r a b d page v w x k log log_now old new same_now broken
    join_answered same_now broken o t j k c last to off r n answer after =
        subst (λ (i : Result ℕ Unserved). Joins i a b d page v w x n log log_now old new same_now broken) (sym answer)
        (subst (λ (i : Session). Joins (answer_of o page) a b d page v w x i log log_now old new same_now broken) (sym after) (join_made same_now broken o t j k c last to off))

    pub join_holds : (same → y ≡ x) → (same → log_now ≡ log) → (o : Outcome) → IsExpected o → Joins_as o → Draws o → log_now.last ≡ last_after o log.last y.clock.clock
        → (k : Session) (n : Shape) → n ≡ z → k ≡ session_after o page y → k.works ≡ true → Holds n w k log_now
    join_holds sx sl o t j k last m n shape after works =
        subst (λ (i : Shape). Holds i w m log_now) (sym shape)
        (subst (λ (i : Session). Holds z w i log_now) (sym after) (join_left sx sl o t j k last (ap (λ (i : Session). i.works) (sym after) ∙ works)))

    -- so there is room for the page
    pub join_room : (o : Outcome) → Joins_as o → Draws o → log_now.last ≡ last_after o log.last y.clock.clock → HasRoomFor o y.free
    join_room outcome.Done j k last =
        let few = (join_leaves_on j held k last).spare in
        let more = (free g s).one_more page y.free in
        omega arith
    join_room (outcome.Unstaged why) j k last = tt
    join_room (outcome.Full row) j k last = tt
    join_room outcome.TooTall j k last = tt
    join_room (outcome.Stale row) j k last = tt
    join_room (outcome.Moved m) j k last = tt
    join_room (outcome.Latched l) j k last = tt
    join_room (outcome.RowSpent row) j k last = tt
    join_room outcome.ClockSpent j k last = tt
