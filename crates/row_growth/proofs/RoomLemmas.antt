-- What room for a key takes next, and what it does to the views between.
use Rattle.std.proofs.Common.{◌≡◌, ◌≢◌, ◌⊎◌, inl, inr, ◌≤◌, ◌<◌, ◌-◌, ◌%◌, ◌++◌, ◌==◌, ◌&&◌, ◌||◌, ltb, not, ℕ, zero, suc, Bool, true, false, cond, List, [], ◌∷◌, length, Option, None, Some, Result, Ok, Err, refl, sym, ap, ◌∙◌, subst, arith, true≢false, eq-eqb, append-nil}
use Rattle.std.specs.Prelude.{slice_index}
use Rattle.std.proofs.lemmas.Bool.{cases_eq, eqb-true, le-ltb, lt-ltb, ne_eqb}
use Rattle.map_model.specs.declared.call.Refusal.{Refusal}
use Rattle.map_model.specs.declared.call.Refusal.TheVariants as refusal
use Rattle.map_model.proofs.ListLemmas.{has_any}
use Rattle.page_model.specs.Check.{names_page, some_below}
use Rattle.page_model.specs.Nodes.{Node, covers, holds, is_leaf}
use Rattle.page_model.specs.Pairs.{Span, find, spans}
use Rattle.page_model.specs.Redo.{has_key, is_some}
use Rattle.page_model.specs.Tree.{Names}
use Rattle.row_changes.specs.session_state.core_state.Needs.{is_held_by, may}
use Rattle.row_changes.specs.session_state.core_state.Openings.{Opening}
use Rattle.row_changes.specs.session_state.core_state.States.{Place, State, in_frame, nodes_of}
use Rattle.row_changes.specs.session_state.core_state.Steps.{happens}
use Rattle.row_changes.specs.session_state.core_calls.Warms.{IsWarmFrom}
use Rattle.row_changes.specs.session_state.core_calls.Room.{EveryRoom, IsWay, full_run, is_all_full, room_takes}
use Rattle.lean_disk.specs.Story.{Story}
use Rattle.row_changes.specs.session_state.disk_image.Records.{entry_of}
use Rattle.row_changes.specs.session_state.worker_log.Logs.{Log}
use Rattle.row_changes.specs.session_state.row_words.Moments.{Moment, event_of}
use Rattle.row_changes.specs.session_state.row_words.Openings.{opening}
use Rattle.row_changes.proofs.session_state.row_words.Stays.{and_true}
use Rattle.row_changes.specs.session_state.rows_trait.Views.{Shape, after_all, state}
use Rattle.row_changes.specs.session_state.rows_trait.declared.view.View.{View}
use Rattle.row_changes.specs.session_state.lean_proto.Paths.{above}
use Rattle.row_changes.specs.session_state.btree_descent.Trails.{IsAbove}
use Rattle.btree_smo.specs.Outcomes.{WasSo}
use Rattle.btree_smo.specs.Room.{IsFullIn, IsRoomIn, IsRun}
use Rattle.row_changes.specs.session_state.engine_trait.Refusals.{is_full_for, room_refusal}
use Rattle.row_changes.specs.session_state.engine_trait.Rooms.{IsNextRoom}
use Rattle.row_changes.specs.session_state.Free.{first_of}
use Rattle.row_changes.specs.session_state.Holds.{Holds}
use Rattle.row_changes.specs.Puts.{MayChange}
use Rattle.row_changes.specs.Paths.{IsPathTo, IsUnfit, LeadsToFull}
use Rattle.row_growth.specs.Rooms.{CanGrow, Grew, IsGrown, IsNeeded, IsNoRoom, IsPlaced, IsSpentBehind, Takes, TakesLift, TakesSplit, frame_among, next_of, page_of}
use Rattle.row_growth.specs.declared.room.Next.{Next}
use Rattle.row_growth.specs.declared.room.Next.TheVariants as next
use Rattle.row_growth.specs.declared.room.Growth.{Growth}
use Rattle.row_growth.specs.declared.room.Growth.TheVariants as growth
use Rattle.row_growth.specs.declared.room.Placed.{Placed}
use Rattle.row_changes.specs.session_state.declared.session.Session.{Session}
use Rattle.row_growth.proofs.GrowthLemmas.{holds_same, hot_in, one_in, sound}
use Rattle.row_changes.proofs.SeenLemmas.{none_seen, still}
use Rattle.row_changes.specs.session_state.engine_trait.declared.unserved.Unanswered.TheVariants as unanswered
use Rattle.row_changes.specs.session_state.engine_trait.declared.unserved.Unserved.{Unserved}
use Rattle.row_changes.specs.session_state.engine_trait.declared.unserved.Unserved.TheVariants as unserved

-- ## Tests

some_is : (a b : ℕ) → Some a ≡ Some b → a ≡ b
some_is a b e = cc

has_below : (n : ℕ) (p : ℕ → Bool) (i : ℕ) → i < n → p i ≡ true → some_below n p ≡ true
has_below zero p i lt e = absurd (omega arith)
has_below (suc n) p i lt e = go (has_below n p i) (cases_eq i n)
  where
    or_right : (a b : Bool) → b ≡ true → (a || b) ≡ true
    or_right true b q = refl
    or_right false b q = q

    go : (i < n → p i ≡ true → some_below n p ≡ true) → (i ≡ n) ⊎ (i ≡ n → ⊥) → some_below (suc n) p ≡ true
    go ih (inl q) = ap (λ b. b || some_below n p) (ap p (sym q) ∙ e)
    go ih (inr q) = or_right (p n) (some_below n p) (ih (omega arith) e)

-- a node names its child
names_child : (v : Node) (t : Span) → Names v t → names_page v t.child ≡ true
names_child v t n = λ i. (n.live i && lt-ltb 0 v.level n.inner i) && has_any (λ (s : Span). s.child == t.child) (spans v.pairs v.high) t n.has (eq-eqb t.child t.child refl) i

-- the root's level is below the run just where the run is the whole path
whole_run : (top n len : ℕ) → len ≡ suc top → n ≤ len → ltb top n ≡ (n == len)
whole_run top n len e le = go (cases_eq n len)
  where
    go : (n ≡ len) ⊎ (n ≡ len → ⊥) → ltb top n ≡ (n == len)
    go (inl q) = lt-ltb top n (omega arith) ∙ sym (eq-eqb n len q)
    go (inr q) = le-ltb top n (omega arith) ∙ sym (ne_eqb n len q)

one_more : (a n : ℕ) → n ≡ suc a → (a == 7) ≡ (n == 8)
one_more a n e = go (cases_eq a 7)
  where
    go : (a ≡ 7) ⊎ (a ≡ 7 → ⊥) → (a == 7) ≡ (n == 8)
    go (inl q) = eq-eqb a 7 q ∙ sym (eq-eqb n 8 (omega arith))
    go (inr q) = ne_eqb a 7 q ∙ sym (ne_eqb n 8 (λ r. q (omega arith)))

abbrev refusal_of : (all tall : Bool) → (free takes : ℕ) → Option Refusal
refusal_of all tall free takes = cond (all && tall) (Some refusal.TooTall) (cond (ltb free takes) (Some refusal.NoPages) None)

-- ## What comes next is right

-- the change is to be made, or there can be no room
abbrev pub IsRight : View → Session → ℕ → Result Next Refusal → Type 0
IsRight v x key (Ok n) = Takes v x key n
IsRight v x key (Err refusal.TooTall) = room_refusal (opening v.given) (state v).core key ≡ Some refusal.TooTall
IsRight v x key (Err refusal.NoPages) = room_refusal (opening v.given) (state v).core key ≡ Some refusal.NoPages
IsRight v x key (Err _) = ⊥

-- the page among the first n that stands in the frame, if one does
abbrev standing : (n frame : ℕ) → State → ℕ
standing zero f s = 0
standing (suc n) f s = cond (in_frame (s.place n) f) n (standing n f s)

standing_is : (s : State) → ((p q f : ℕ) → in_frame (s.place p) f ≡ true → in_frame (s.place q) f ≡ true → p ≡ q) → (n f p : ℕ) → p < n → in_frame (s.place p) f ≡ true → standing n f s ≡ p
standing_is s one zero f p lt e = absurd (omega arith)
standing_is s one (suc n) f p lt e = go (in_frame (s.place n) f) refl (standing_is s one n f p)
  where
    go : (b : Bool) → in_frame (s.place n) f ≡ b → (p < n → in_frame (s.place p) f ≡ true → standing n f s ≡ p) → cond b n (standing n f s) ≡ p
    go true q ih = one n p f q e
    go false q ih = ih (let ne : p ≢ n = (λ k. true≢false (sym e ∙ (ap (λ (i : ℕ). in_frame (s.place i) f) k ∙ q))) in omega arith) e

-- a page of the key's way, hot in this frame
record OnWay (g : Opening) (s : State) (key l p frame : ℕ) : Type 0 where
  pub hot : s.place p ≡ Place.Hot frame
  pub below : p < g.format.pages
  pub covers : covers (nodes_of s p) key ≡ true
  pub level : (nodes_of s p).level ≡ l

module _ (rooms : EveryRoom) (z : Shape) (v : View) (x : Session) (log : Log) (h : Holds z v x log) (key : ℕ) (path : List ℕ) (to : LeadsToFull v x.frames key path) where
  abbrev g : Opening
  g = opening v.given

  abbrev s : State
  s = (state v).core

  abbrev leaf : ℕ
  leaf = to.leaf

  abbrev u : IsUnfit v key to.leaf
  u = to.unfit

  abbrev p : IsPathTo v x.frames key path to.frame
  p = to.path_to

  -- the frame so many steps above the leaf's
  abbrev frame : ℕ → ℕ
  frame l = slice_index path (length path - suc l)

  -- and the page there
  abbrev page : ℕ → ℕ
  page l = standing g.format.pages (frame l) s

  above_is : (l : ℕ) → l < length path → above path l ≡ Some (frame l)
  above_is l lt = ap (λ b. cond b (Some (frame l)) None) (lt-ltb l (length path) lt)

  abbrev top : ℕ
  top = length p.under_root

  length_is : length path ≡ suc top
  length_is = ap length p.starts

  -- where a page stands, it is found
  stands_at : (q frame : ℕ) → s.place q ≡ Place.Hot frame → standing g.format.pages frame s ≡ q
  stands_at q frame hot =
      let here : in_frame (s.place q) frame ≡ true = ap (λ k. in_frame k frame) hot ∙ eq-eqb frame frame refl in
      standing_is s (sound z v x log h).residence.one g.format.pages frame q (hot_in z v x log h q frame hot).below here

  leaf_frame : frame 0 ≡ to.frame
  leaf_frame = some_is (frame 0) to.frame (sym (above_is 0 (let q = length_is in omega arith)) ∙ p.ends)

  leaf_is : page 0 ≡ leaf
  leaf_is = ap (λ f. standing g.format.pages f s) leaf_frame ∙ stands_at leaf to.frame to.stands

  root_frame : frame top ≡ 0
  root_frame = let e : length path - suc top ≡ 0 = (let q = length_is in omega arith) in ap (slice_index path) e ∙ ap (λ fs. slice_index fs 0) p.starts

  root_is : page top ≡ 0
  root_is = ap (λ f. standing g.format.pages f s) root_frame ∙ stands_at 0 0 (sound z v x log h).residence.root

  -- each is the parent of the one below it, and one level higher
  parent_at : (l : ℕ) → suc l < length path → OnWay g s key l (page l) (frame l) → OnWay g s key (suc l) (page (suc l)) (frame (suc l))
  parent_at l lt i =
      let a = p.led l (frame (suc l)) (frame l) (above_is (suc l) lt) (above_is l (omega arith)) in
      let child : a.routes.span.child ≡ page l = one_in z v x log h a.routes.span.child (page l) (frame l) a.child i.hot in
      let t = (rooms g s key).parent (sound z v x log h).tree a.routes.parent a.routes.below a.routes.span a.routes.names a.routes.low a.routes.high in
      subst (λ q. OnWay g s key (suc l) q (frame (suc l))) (sym (stands_at a.routes.parent (frame (suc l)) a.routes.hot))
      (record { hot = a.routes.hot; below = a.routes.below; covers = t.0; level = sym t.2 ∙ ap suc (ap (λ k. (nodes_of s k).level) child ∙ i.level) })

  climb : (l : ℕ) → l < length path → OnWay g s key l (page l) (frame l)
  climb zero lt =
      let n = (nodes_of s leaf) in
      let a = and_true (is_leaf n) (covers n key) u.holds in
      let b = and_true n.live (n.level == 0) a.0 in
      subst (λ q. OnWay g s key 0 q (frame 0)) (sym leaf_is) (record { hot = to.stands ∙ ap Place.Hot (sym leaf_frame); below = u.below; covers = a.1; level = eqb-true n.level 0 b.1 })
  climb (suc l) lt = parent_at l lt (climb l (omega arith))

  way : IsWay g s key top page
  way = record {
    root = ap (λ k. (nodes_of s k).level) (sym root_is) ∙ (climb top (let q = length_is in omega arith)).level;
    below = λ l le. (climb l (let q = length_is in omega arith)).below;
    covers = λ l le. (climb l (let q = length_is in omega arith)).covers;
    level = λ l le. (climb l (let q = length_is in omega arith)).level;
  }

  -- a page names the one below it
  names_below : (l : ℕ) → suc l < length path → names_page (nodes_of s (page (suc l))) (page l) ≡ true
  names_below l lt =
      let a = p.led l (frame (suc l)) (frame l) (above_is (suc l) lt) (above_is l (omega arith)) in
      let child : a.routes.span.child ≡ page l = one_in z v x log h a.routes.span.child (page l) (frame l) a.child (climb l (omega arith)).hot in
      (λ i. names_page (nodes_of s (stands_at a.routes.parent (frame (suc l)) a.routes.hot i)) (sym child i)) ∙ names_child (nodes_of s a.routes.parent) a.routes.span a.routes.names

  full_for : is_full_for g s key ≡ true
  full_for = has_below g.format.pages (λ q. holds (s.page q).node key && ((length (s.page q).node.pairs == 60) && not (has_key key (s.page q).node))) leaf u.below (λ i. u.holds i && ((u.full i == 60) && not (is_some (u.none i))))

  module _ (n : ℕ) (v0 : View) (r : IsRun z.alone path n v0 v) where
    run_so : (P : Moment → Type 0) → WasSo z.alone v0 v P → P (state v)
    run_so P so =
        let past : so.past ≡ v0.seen = so.onward.whole ∙ (ap (λ ys. v0.seen ++ ys) (so.onward.quiet h.alone) ∙ append-nil v0.seen) in
        subst P (ap (after_all v.given) (past ∙ sym (none_seen z.alone v0 v h.alone r.ran))) so.so

    full_at : (l : ℕ) → l < n → length (nodes_of s (page l)).pairs ≡ 60
    full_at l lt =
        let le : l < length path = (let q = r.within in omega arith) in
        run_so (IsFullIn v.given (frame l)) (r.full l (frame l) lt (above_is l le)) (page l) (hot_in z v x log h (page l) (frame l) (climb l le).hot)

    room_at : n < length path → length (nodes_of s (page n)).pairs ≢ 60
    room_at lt = run_so (IsRoomIn v.given (frame n)) (r.next (frame n) (above_is n lt)) (page n) (hot_in z v x log h (page n) (frame n) (climb n lt).hot)

    -- the leaf is full
    pub some_full : 0 < n
    some_full =
        let ne : n ≢ 0 = (λ e. room_at (let q = length_is in omega arith) (ap (λ k. length (nodes_of s (page k)).pairs) e ∙ (ap (λ k. length (nodes_of s k).pairs) leaf_is ∙ u.full))) in
        omega arith

    run_is : full_run g s key ≡ n
    run_is = (rooms g s key).run (sound z v x log h).tree top page way n (let q = length_is in let k = r.within in omega arith) full_at (λ le. room_at (let q = length_is in omega arith))

    all_is : is_all_full g s key ≡ (n == length path)
    all_is = (λ i. ltb (way.root i) (run_is i)) ∙ whole_run top n (length path) length_is r.within

    room_all : n ≡ length path → room_refusal g s key ≡ refusal_of true (n == 8) (length x.free) (suc n)
    room_all e =
        let full : is_all_full g s key ≡ true = all_is ∙ eq-eqb n (length path) e in
        let tall : ((nodes_of s 0).level == 7) ≡ (n == 8) = one_more (nodes_of s 0).level n (let a = way.root in let b = length_is in omega arith) in
        λ i. refusal_of (full i) (tall i) (length (sym h.free i)) (cond (full i) (suc (run_is i)) (run_is i))

    room_some : n ≢ length path → room_refusal g s key ≡ cond (ltb (length x.free) n) (Some refusal.NoPages) None
    room_some ne =
        let part : is_all_full g s key ≡ false = all_is ∙ ne_eqb n (length path) ne in
        λ i. refusal_of (part i) ((nodes_of s 0).level == 7) (length (sym h.free i)) (cond (part i) (suc (run_is i)) (run_is i))

    can_lift : (q : ℕ) (qs : List ℕ) → n ≡ length path → (n == 8) ≡ false → x.free ≡ q ∷ qs → room_refusal g s key ≡ None → TakesLift v x key q
    can_lift q qs e short free fits = record {
      least = ap first_of free;
      fits = fits;
      next = (refl, full_for, all_is ∙ eq-eqb n (length path) e, (qs, sym h.free ∙ free));
      full = ap (λ k. length (nodes_of s k).pairs) (sym root_is) ∙ full_at top (let a = length_is in omega arith);
      low =
          let a = way.root in
          let b = length_is in
          let c = p.few in
          let ne : n ≢ 8 = (λ k. true≢false (sym (eq-eqb n 8 k) ∙ short)) in
          omega arith;
    }

    can_split : (m q : ℕ) (qs : List ℕ) → n ≡ suc m → n ≢ length path → x.free ≡ q ∷ qs → room_refusal g s key ≡ None → TakesSplit v x key (frame m) q (frame (suc m))
    can_split m q qs e ne free fits =
        let le : n ≤ length path = r.within in
        let up : suc m < length path = omega arith in
        let low : m < length path = omega arith in
        record {
          left = page m;
          parent = page (suc m);
          left_hot = (climb m low).hot;
          parent_hot = (climb (suc m) up).hot;
          least = ap first_of free;
          fits = fits;
          next = (refl, full_for, all_is ∙ ne_eqb n (length path) ne, (climb m low).covers, ap suc (climb m low).level ∙ (sym e ∙ sym run_is), (qs, sym h.free ∙ free), refl);
          below = (climb m low).below;
          full = full_at m (omega arith);
          within = (climb (suc m) up).below;
          room = λ k. room_at (omega arith) (ap (λ j. length (nodes_of s (page j)).pairs) e ∙ k);
          names = names_below m up;
        }

    lift_right : (q : ℕ) (qs : List ℕ) → x.free ≡ q ∷ qs → n ≡ length path → (a : Bool) → (n == 8) ≡ a → (b : Bool) → ltb (suc (length qs)) (suc n) ≡ b
        → IsRight v x key (cond a (Err refusal.TooTall) (cond b (Err refusal.NoPages) (Ok (next.Lift q))))
    lift_right q qs free e true ea b eb = room_all e ∙ ap (λ k. refusal_of true k (length x.free) (suc n)) ea
    lift_right q qs free e false ea true eb = room_all e ∙ ((λ i. refusal_of true (ea i) (length (free i)) (suc n)) ∙ ap (λ k. cond k (Some refusal.NoPages) None) eb)
    lift_right q qs free e false ea false eb = can_lift q qs e ea free (room_all e ∙ ((λ i. refusal_of true (ea i) (length (free i)) (suc n)) ∙ ap (λ k. cond k (Some refusal.NoPages) None) eb))

    split_right : (m q : ℕ) (qs : List ℕ) → n ≡ suc m → x.free ≡ q ∷ qs → n ≢ length path → (b : Bool) → ltb (suc (length qs)) n ≡ b
        → IsRight v x key (cond b (Err refusal.NoPages) (Ok (next.Split (slice_index path (length path - n)) q (slice_index path (length path - n - 1)))))
    split_right m q qs e free ne true eb = room_some ne ∙ ((λ i. cond (ltb (length (free i)) n) (Some refusal.NoPages) None) ∙ ap (λ k. cond k (Some refusal.NoPages) None) eb)
    split_right m q qs e free ne false eb =
        let left : slice_index path (length path - n) ≡ frame m = ap (λ k. slice_index path (length path - k)) e in
        let index : length path - n - 1 ≡ length path - suc (suc m) = omega arith in
        let parent : slice_index path (length path - n - 1) ≡ frame (suc m) = ap (slice_index path) index in
        subst (λ k. TakesSplit v x key k q (slice_index path (length path - n - 1))) (sym left)
        (subst (λ k. TakesSplit v x key (frame m) q k) (sym parent)
        (can_split m q qs e ne free (room_some ne ∙ ((λ i. cond (ltb (length (free i)) n) (Some refusal.NoPages) None) ∙ ap (λ k. cond k (Some refusal.NoPages) None) eb))))

    none_right : x.free ≡ [] → (a : Bool) → (n == length path) ≡ a → (b : Bool) → (n == 8) ≡ b → IsRight v x key (cond (a && b) (Err refusal.TooTall) (Err refusal.NoPages))
    none_right free true ea true eb = room_all (eqb-true n (length path) ea) ∙ ap (λ k. refusal_of true k (length x.free) (suc n)) eb
    none_right free true ea false eb = room_all (eqb-true n (length path) ea) ∙ ((λ i. refusal_of true (eb i) (length (free i)) (suc n)) ∙ ap (λ k. cond k (Some refusal.NoPages) None) (lt-ltb 0 (suc n) (omega arith)))
    none_right free false ea b eb =
        room_some (λ e. true≢false (sym (eq-eqb n (length path) e) ∙ ea)) ∙ ((λ i. cond (ltb (length (free i)) n) (Some refusal.NoPages) None) ∙ ap (λ k. cond k (Some refusal.NoPages) None) (lt-ltb 0 n some_full))

    right : (free : List ℕ) → x.free ≡ free → (n ≡ length path) ⊎ (n ≡ length path → ⊥) → IsRight v x key (next_of path n free)
    right [] free c = none_right free (n == length path) refl (n == 8) refl
    right (q ∷ qs) free (inl e) =
        subst (λ (k : Bool). IsRight v x key (cond k (cond (n == 8) (Err refusal.TooTall) (cond (ltb (suc (length qs)) (suc n)) (Err refusal.NoPages) (Ok (next.Lift q))))
        (cond (ltb (suc (length qs)) n) (Err refusal.NoPages) (Ok (next.Split (slice_index path (length path - n)) q (slice_index path (length path - n - 1))))))) (sym (eq-eqb n (length path) e))
        (lift_right q qs free e (n == 8) refl (ltb (suc (length qs)) (suc n)) refl)
    right (q ∷ qs) free (inr ne) =
        let e : n ≡ suc (n - 1) = (let k = some_full in omega arith) in
        subst (λ (k : Bool). IsRight v x key (cond k (cond (n == 8) (Err refusal.TooTall) (cond (ltb (suc (length qs)) (suc n)) (Err refusal.NoPages) (Ok (next.Lift q))))
        (cond (ltb (suc (length qs)) n) (Err refusal.NoPages) (Ok (next.Split (slice_index path (length path - n)) q (slice_index path (length path - n - 1))))))) (sym (ne_eqb n (length path) ne))
        (split_right (n - 1) q qs e free ne (ltb (suc (length qs)) n) refl)

    pub next_right : IsRight v x key (next_of path n x.free)
    next_right = right x.free refl (cases_eq n (length path))

-- ## At another view of the same moment

pub unfit_on : (v w : View) (key leaf : ℕ) → w.given ≡ v.given → state w ≡ state v → IsUnfit v key leaf → IsUnfit w key leaf
unfit_on v w key leaf given st u = record {
  below = subst (λ k. leaf < (opening k).format.pages) (sym given) u.below;
  holds = ap (λ m. holds (m.core.page leaf).node key) st ∙ u.holds;
  none = ap (λ m. find key (m.core.page leaf).node.pairs) st ∙ u.none;
  full = ap (λ m. length (m.core.page leaf).node.pairs) st ∙ u.full;
}

pub path_on : (v w : View) (frames key : ℕ) (path : List ℕ) (leaf : ℕ) → w.given ≡ v.given → state w ≡ state v → IsPathTo v frames key path leaf → IsPathTo w frames key path leaf
path_on v w frames key path leaf given st p = record {
  under_root = p.under_root;
  starts = p.starts;
  ends = p.ends;
  few = p.few;
  within = p.within;
  led = λ n frame below a b. subst (λ k. IsAbove k (state w) key frame below) (sym given) (subst (λ m. IsAbove v.given m key frame below) (sym st) (p.led n frame below a b));
}

pub leads_on : (v w : View) (frames key : ℕ) (path : List ℕ) → w.given ≡ v.given → state w ≡ state v → LeadsToFull v frames key path → LeadsToFull w frames key path
leads_on v w frames key path given st t = record {
  leaf = t.leaf;
  unfit = unfit_on v w key t.leaf given st t.unfit;
  frame = t.frame;
  stands = ap (λ m. m.core.place t.leaf) st ∙ t.stands;
  path_to = path_on v w frames key path t.frame given st t.path_to;
}

pub placed_on : (v w : View) (placed : Option Placed) → state w ≡ state v → IsPlaced v placed → IsPlaced w placed
placed_on v w None st p = tt
placed_on v w (Some at) st p = ap (λ m. m.core.place at.page) st ∙ p

pub may_on : (v w : View) (x : Session) (log : Log) (key : ℕ) → w.given ≡ v.given → state w ≡ state v → MayChange v x log key → MayChange w x log key
may_on v w x log key given st f = record {
  works = f.works;
  is_open = f.is_open;
  whole = f.whole;
  few = f.few;
  small = f.small;
  room = let e : room_takes (opening w.given) (state w).core key ≡ room_takes (opening v.given) (state v).core key = (λ i. room_takes (opening (given i)) (st i).core key) in let r = f.room in omega arith;
  row = ap (λ m. is_held_by (m.core.row (key % x.held.count)).holder x.own) st ∙ f.row;
  key_low = f.key_low;
}

module _ (key : ℕ) (v u w : View) (x y : Session) (was is : Log) (old new : Story) (given : u.given ≡ v.given) (seen : u.seen ≡ v.seen) where
  st : state u ≡ state v
  st = still v u given seen

  grown_from : IsGrown key u w x y was is old new → IsGrown key v w x y was is old new
  grown_from t = record {
    event = t.event;
    growth = t.growth;
    given = t.given ∙ given;
    seen = t.seen ∙ ap (λ ys. ys ++ t.event ∷ []) seen;
    met = (λ i. may (opening (sym given i)) (sym st i).core (event_of t.event)) ∙ t.met;
    next = subst (λ k. IsNextRoom x.own (opening k) (state v).core key (event_of t.event)) given (subst (λ m. IsNextRoom x.own (opening u.given) m.core key (event_of t.event)) st t.next);
    fits = (λ i. room_refusal (opening (sym given i)) (sym st i).core key) ∙ t.fits;
    entry = t.entry;
    entry_is = (λ i. (happens (opening (sym given i)) (sym st i).core (event_of t.event)).entries) ∙ (t.entry_is ∙ ap (λ m. entry_of x.own t.entry ∷ m.core.entries) st);
    after = t.after;
    stands = t.stands;
    keeps = t.keeps;
    short = t.short;
    session = t.session;
    fewer = t.fewer;
    takes = subst (λ k. room_takes (opening w.given) (state w).core key < room_takes (opening k) (state v).core key) given (subst (λ m. room_takes (opening w.given) (state w).core key < room_takes (opening u.given) m.core key) st t.takes);
    stays = t.stays ∙ ap (λ m. m.core.place) st;
    warm = λ hot. t.warm (subst (λ k. IsWarmFrom (opening k) (state u).core key 0) (sym given) (subst (λ m. IsWarmFrom (opening v.given) m.core key 0) (sym st) hot));
  }

  spent_from : IsSpentBehind u w → IsSpentBehind v w
  spent_from t = record { misses = t.misses; are_misses = t.are_misses; few = t.few; given = t.given ∙ given; seen = t.seen ∙ ap (λ ys. ys ++ t.misses) seen; many = t.many }

  none_from : (why : Refusal) → IsNoRoom u w key why → IsNoRoom v w key why
  none_from why t = record { given = t.given ∙ given; seen = t.seen ∙ seen; cause = (λ i. room_refusal (opening (sym given i)) (sym st i).core key) ∙ t.cause }

  needed_from : (placed : Option Placed) (page : ℕ) → IsNeeded u w x key placed page → IsNeeded v w x key placed page
  needed_from placed page t = record { given = t.given ∙ given; seen = t.seen ∙ seen; fits = (λ i. room_refusal (opening (sym given i)) (sym st i).core key) ∙ t.fits; least = t.least; other = t.other }

  pub grew_from : (placed : Option Placed) (same broken : Type 0) (r : Result Growth Unserved) → Grew r key placed u w x y was is old new same broken → Grew r key placed v w x y was is old new same broken
  grew_from placed same broken (Ok growth.Grown) t = grown_from t
  grew_from placed same broken (Ok (growth.Needs page)) t = (needed_from placed page t.0, t.1)
  grew_from placed same broken (Err (unserved.Refused refusal.TooTall)) t = (none_from refusal.TooTall t.0, t.1)
  grew_from placed same broken (Err (unserved.Refused refusal.NoPages)) t = (none_from refusal.NoPages t.0, t.1)
  grew_from placed same broken (Err (unserved.Refused refusal.RowSpent)) t = (spent_from t.0, t.1)
  grew_from placed same broken (Err (unserved.Unanswered unanswered.DiskFault)) t = t
  grew_from placed same broken (Err _) t = absurd t

-- ## Behind the look at the path

module _ (rooms : EveryRoom) (z : Shape) (v u : View) (x : Session) (log : Log) (h : Holds z v x log) (key : ℕ) (path : List ℕ) (to : LeadsToFull v x.frames key path) (n : ℕ) (looked : IsRun z.alone path n v u) (held : u.held ≡ v.held) where
  pub seen_there : u.seen ≡ v.seen
  seen_there = none_seen z.alone v u h.alone looked.ran

  pub moment_is : state u ≡ state v
  moment_is = still v u looked.ran.given seen_there

  pub holds_there : Holds z u x log
  holds_there = holds_same z v u x log looked.ran.given (ap (λ m. m.core) moment_is) (held ∙ h.idle) h

  leads_there : LeadsToFull u x.frames key path
  leads_there = leads_on v u x.frames key path looked.ran.given moment_is to

  pub some_there : 0 < n
  some_there = some_full rooms z u x log holds_there key path leads_there n v looked

  pub right_there : IsRight u x key (next_of path n x.free)
  right_there = next_right rooms z u x log holds_there key path leads_there n v looked

-- ## Where there can be no room

pub refused_grew : (key : ℕ) (placed : Option Placed) (v w : View) (x : Session) (log : Log) (story : Story) (same broken : Type 0) → w.given ≡ v.given → w.seen ≡ v.seen → same → (why : Refusal) → IsRight w x key (Err why) → Grew (Err (unserved.Refused why)) key placed v w x x log log story story same broken
refused_grew key placed v w x log story same broken given seen is refusal.TooTall r =
    (record { given = given; seen = seen; cause = (λ i. room_refusal (opening (sym given i)) (sym (still v w given seen) i).core key) ∙ r }, is)
refused_grew key placed v w x log story same broken given seen is refusal.NoPages r =
    (record { given = given; seen = seen; cause = (λ i. room_refusal (opening (sym given i)) (sym (still v w given seen) i).core key) ∙ r }, is)
refused_grew key placed v w x log story same broken given seen is _ r = absurd r

-- ## The page that it takes

takes_least : (v : View) (x : Session) (key : ℕ) (n : Next) → Takes v x key n → first_of x.free ≡ Some (page_of n)
takes_least v x key (next.Lift page) t = t.least
takes_least v x key (next.Split left page parent) t = t.least

takes_fits : (v : View) (x : Session) (key : ℕ) (n : Next) → Takes v x key n → room_refusal (opening v.given) (state v).core key ≡ None
takes_fits v x key (next.Lift page) t = t.fits
takes_fits v x key (next.Split left page parent) t = t.fits

-- it stands hot in the frame, if it was brought into one
among_hot : (v : View) (placed : Option Placed) (page frame : ℕ) → IsPlaced v placed → frame_among placed page ≡ Some frame → (state v).core.place page ≡ Place.Hot frame
among_hot v None page frame p e = absurd (cc)
among_hot v (Some at) page frame p e = go (at.page == page) refl e
  where
    some_same : (a b : ℕ) → Some a ≡ Some b → a ≡ b
    some_same a b q = cc

    go : (b : Bool) → (at.page == page) ≡ b → cond b (Some at.frame) None ≡ Some frame → (state v).core.place page ≡ Place.Hot frame
    go true q r = ap (state v).core.place (sym (eqb-true at.page page q)) ∙ (p ∙ ap Place.Hot (some_same at.frame frame r))
    go false q r = absurd (cc)

-- so the change can be made
pub can_grow : (v : View) (x : Session) (key : ℕ) (placed : Option Placed) (n : Next) (page frame : ℕ) → page ≡ page_of n → IsPlaced v placed → frame_among placed page ≡ Some frame → Takes v x key n → CanGrow v x key frame n
can_grow v x key placed (next.Lift q) page frame is p e t = record { page = q; takes = t; stands = among_hot v placed q frame p (ap (frame_among placed) (sym is) ∙ e) }
can_grow v x key placed (next.Split left q parent) page frame is p e t = record { page = q; takes = t; stands = among_hot v placed q frame p (ap (frame_among placed) (sym is) ∙ e) }

-- else it is needed there
pub is_needed : (v : View) (x : Session) (key : ℕ) (placed : Option Placed) (n : Next) (page : ℕ) → page ≡ page_of n → frame_among placed page ≡ None → Takes v x key n → IsNeeded v v x key placed page
is_needed v x key placed n page is e t = record { given = refl; seen = refl; fits = takes_fits v x key n t; least = takes_least v x key n t ∙ ap Some (sym is); other = e }
