-- What comes of a drop of the root's one child.
use Rattle.std.proofs.Common.{◌≡◌, ◌≢◌, ◌⊎◌, inl, inr, ◌<◌, ◌==◌, ltb, ℕ, true, false, List, [], ◌∷◌, length, Result, Ok, refl, sym, ap, ◌∙◌, subst, arith, true≢false}
use Rattle.std.proofs.lemmas.Bool.{and_parts, eqb-true, ltb-true}
use Rattle.page_model.specs.Needs.{drop_record}
use Rattle.page_model.specs.Nodes.{Node}
use Rattle.page_model.specs.Pairs.{Has, Pair, Span, spans}
use Rattle.page_model.specs.Tree.{IsTree, Names}
use Rattle.row_changes.specs.session_state.image_model.Entries.{Kind}
use Rattle.row_changes.specs.session_state.core_state.Events as happening
use Rattle.row_changes.specs.session_state.core_state.Needs.{is_single, may, may_drop}
use Rattle.row_changes.specs.session_state.core_state.Openings.{Opening}
use Rattle.row_changes.specs.session_state.core_state.States.{Place, State, gsns_of, nodes_of}
use Rattle.row_changes.specs.session_state.core_state.Steps.{happens}
use Rattle.row_changes.specs.session_state.core_calls.Room.{free_list}
use Rattle.row_changes.specs.session_state.engine_trait.declared.unserved.Unserved.{Unserved}
use Rattle.row_changes.specs.session_state.draw_trait.declared.draw.Unstaged.{Unstaged}
use Rattle.row_changes.specs.session_state.draw_trait.declared.draw.Unstaged.TheVariants.{DiskFault, LogFull}
use Rattle.lean_disk.specs.Story.{Story}
use Rattle.row_changes.specs.session_state.log_record.declared.record.Record.{Record}
use Rattle.row_changes.specs.session_state.worker_log.Logs.{Log}
use Rattle.row_changes.specs.session_state.row_words.declared.event.Event.TheVariants.{Drop}
use Rattle.row_changes.specs.session_state.row_words.Moments.{Moment}
use Rattle.row_changes.specs.session_state.row_words.Openings.{opening}
use Rattle.row_changes.specs.session_state.rows_trait.Causes.{EveryLow}
use Rattle.row_changes.specs.session_state.rows_trait.Views.{AreLow, Shape, state}
use Rattle.row_changes.specs.session_state.rows_trait.declared.view.View.{View}
use Rattle.row_changes.specs.session_state.Holds.{Holds}
use Rattle.row_changes.specs.session_state.Numbers.{HaveRoom}
use Rattle.row_changes.specs.session_state.Staging.{Staging}
use Rattle.row_changes.specs.session_state.declared.session.Session.{Session}
use Rattle.btree_smo.specs.Drops as drops
use Rattle.btree_smo.specs.Drops.{Dropped, Lowered, drop_entry}
use Rattle.btree_smo.specs.Outcomes.{Caused, Drew, IsHotIn, IsUndisturbed, Missed, WasSo, last_after}
use Rattle.btree_smo.specs.declared.outcome.Outcome.{Outcome}
use Rattle.btree_smo.specs.declared.outcome.Outcome.TheVariants as outcome
use Rattle.tidy_rules.specs.Laws.{EveryFreed, put_in}
use Rattle.row_tidying.specs.Changes.{IsMade, CanDrop, MayTidy}
use Rattle.row_tidying.specs.Ends.{HasRoomFor, IsExpected, answer_of, session_after}
use Rattle.row_tidying.specs.Outcomes.{Drops, IsDropped}
use Rattle.row_tidying.proofs.MadeLemmas.{Told, holds_made, holds_same, hot_in, is_made, met, missed_core, now_is, one_in, sound, spent_within, told_changed, was_then}
use Rattle.row_tidying.proofs.EndLemmas.{not_full, not_spent}

-- the root names its one child
single_named : (v : Node) (xs : List Pair) (c : ℕ) → v.live ≡ true → 0 < v.level → v.pairs ≡ xs → is_single xs c ≡ true → (t : Span) × Names v t × (t.child ≡ c)
single_named v [] c live inner q e = absurd (true≢false (sym e))
single_named v (x ∷ []) c live inner q e =
    (record { child = x.word; low = x.key; high = v.high }, record { live = live; inner = inner; has = subst (λ (ys : List Pair). Has (record { child = x.word; low = x.key; high = v.high }) (spans ys v.high)) (sym q) (inl refl) }, eqb-true x.word c (and_parts (x.word == c) true e).0)
single_named v (x ∷ y ∷ ys) c live inner q e = absurd (true≢false (sym (and_parts (x.word == c) false e).1))

module _ (free : EveryFreed) (z : Shape) (v w : View) (x y : Session) (log log_now : Log) (h : Holds z v x log) (f : MayTidy x log) (fits : HaveRoom v) (frame page : ℕ) (can : CanDrop v frame page)
    (rs now : List Record) (old new : Story) (S same : Type 0) (f0 f1 : ℕ) where
  abbrev g : Opening
  g = opening v.given

  abbrev s : State
  s = (state v).core

  abbrev Drops_as : Outcome → Type 0
  Drops_as o = Lowered z.alone x.own frame v rs o w y.clock now

  abbrev Draws : Outcome → Type 0
  Draws o = Drew o (λ r. Staging r x y rs now log log_now old new S f0 f1) same

  tree : IsTree g.format (nodes_of s)
  tree = (sound z v x log h).tree

  asked : (ltb 0 (nodes_of s 0).level ≡ true) × (is_single (nodes_of s 0).pairs page ≡ true)
  asked = and_parts (ltb 0 (nodes_of s 0).level) (is_single (nodes_of s 0).pairs page) can.drops

  named : (t : Span) × Names (nodes_of s 0) t × (t.child ≡ page)
  named = single_named (nodes_of s 0) (nodes_of s 0).pairs page tree.root.0 (ltb-true 0 (nodes_of s 0).level asked.0) refl asked.1

  -- the child is another page than the root, since it is of another level
  drop_page : page ≢ 0
  drop_page e = let d = (tree.down 0 tree.some named.0 named.1).level in let k = ap (λ (i : ℕ). (nodes_of s i).level) (named.2 ∙ e) in omega arith

  -- and so is its frame
  pub drop_apart : frame ≢ 0
  drop_apart e = drop_page (one_in z v x log h page 0 0 (can.stands ∙ ap Place.Hot e) (sound z v x log h).residence.root)

  then_so : (P : Moment → Type 0) → Missed z.alone v w → WasSo z.alone v w P → P (state v)
  then_so P m so = was_then z.alone v w P h.alone m.ran.given so

  unfit : (row : ℕ) → drops.IsUnfit frame row w.given (state v) → w.given ≡ v.given → ⊥
  unfit row t given = go t.either
    where
      at : IsHotIn w.given (state v) frame page
      at = subst (λ k. IsHotIn k (state v) frame page) (sym given) (hot_in z v x log h page frame can.stands)

      go : ((row ≡ 0) × ((p : ℕ) → IsHotIn w.given (state v) frame p → may_drop (nodes_of s) p ≡ false)) ⊎ ((row ≡ frame) × ((p : ℕ) → IsHotIn w.given (state v) frame p → ⊥)) → ⊥
      go (inl k) = true≢false (sym can.drops ∙ k.1 page at)
      go (inr k) = k.1 page at

  spent : drops.IsSpent frame w.given (state v) → ⊥
  spent (inl t) = not_spent z v w x log h fits f 0 t
  spent (inr t) = not_spent z v w x log h fits f frame t

  pub drop_expected : (o : Outcome) → Drops_as o → Draws o → IsUndisturbed o → IsExpected o
  drop_expected outcome.Done r k q = tt
  drop_expected (outcome.RowSpent row) r k q = tt
  drop_expected (outcome.Unstaged DiskFault) r k q = tt
  drop_expected (outcome.Unstaged (LogFull used limit)) r k q = not_full v x y log log_now rs now old new S f0 f1 used limit f k
  drop_expected (outcome.Full row) r k q = r
  drop_expected outcome.TooTall r k q = r
  drop_expected (outcome.Stale row) r k q = unfit row (then_so (drops.IsUnfit frame row w.given) r.0 r.1) r.0.ran.given
  drop_expected (outcome.Moved m) r k q = q
  drop_expected (outcome.Latched l) r k q = q
  drop_expected outcome.ClockSpent r k q = spent (then_so (drops.IsSpent frame w.given) r.0 r.1)

  module _ (l : Dropped z.alone x.own frame v rs w y.clock now) where
    here : l.page ≡ page
    here = one_in z v x log h l.page page frame (ap (λ m. m.core.place l.page) (sym (now_is z.alone v w l.change.past h.alone l.change.ran.given l.change.onward)) ∙ l.hot) can.stands

    told : Told z.alone x.own (Drop x.own l.page) [] (drop_entry x.own l.page) v rs w y.clock now
    told = told_changed z.alone x.own (Drop x.own l.page) (drop_entry x.own l.page) v rs w y.clock now l.change

    drop_met : may g s (happening.Event.Drop x.own l.page) ≡ true
    drop_met = met z v w x log h f Kind.Drop refl refl (Drop x.own l.page) [] (0 ∷ l.page ∷ []) (drop_record (nodes_of s) (gsns_of s) l.page) (drop_entry x.own l.page) rs now y log_now told refl refl refl

    freed_is : free_list g (happens g s (happening.Event.Drop x.own l.page)) ≡ put_in page x.free
    freed_is = (free g s).drop tree x.own l.page drop_met ∙ (λ i. put_in (here i) (sym h.free i))

    module _ (held : w.held ≡ []) (st : Staging (Ok tt) x y rs now log log_now old new S f0 f1) (last : log_now.last ≡ y.clock.clock) where
      pub drop_leaves_on : Holds z w (record y { free = put_in page y.free }) log_now
      drop_leaves_on =
          subst (λ k. Holds z w (record y { free = put_in page k }) log_now) (sym (ap (λ (k : Session). k.free) st.session))
          (holds_made z v w x log h f Kind.Drop refl refl (Drop x.own l.page) [] (0 ∷ l.page ∷ []) (drop_record (nodes_of s) (gsns_of s) l.page) (drop_entry x.own l.page) rs now y log_now told refl refl refl
          old new S f0 f1 held st last (put_in page x.free) freed_is)

      pub is_dropped : IsDropped frame page v w x (record y { free = put_in page y.free }) log log_now old new
      is_dropped = subst (λ k. IsDropped frame k v w x (record y { free = put_in k y.free }) log log_now old new) here (record {
        stands = ap s.place here ∙ can.stands;
        made = freed_as (is_made z v w x log h f Kind.Drop refl refl (Drop x.own l.page) [] (0 ∷ l.page ∷ []) (drop_record (nodes_of s) (gsns_of s) l.page) (drop_entry x.own l.page) rs now y log_now told refl refl refl
            old new S f0 f1 held st last (put_in l.page x.free));
      })
        where
          freed_as : IsMade (Drop x.own l.page) [] (put_in l.page x.free) v w x (record y { free = put_in l.page x.free }) log log_now old new → IsMade (Drop x.own l.page) [] (put_in l.page x.free) v w x (record y { free = put_in l.page y.free }) log log_now old new
          freed_as = subst (λ (f : List ℕ). IsMade (Drop x.own l.page) [] (put_in l.page x.free) v w x (record y { free = put_in l.page f }) log log_now old new) (sym (ap (λ (k : Session). k.free) st.session))

  module _ (low : EveryLow) (are : AreLow (length w.seen) w.steps) (held : w.held ≡ []) where
    drop_made : (same_now broken : Type 0) (o : Outcome) → IsExpected o → Drops_as o → Draws o → Caused v o w → log_now.last ≡ last_after o log.last y.clock.clock
        → ((row : ℕ) → o ≡ outcome.RowSpent row → same → same_now) → ((why : Unstaged) → o ≡ outcome.Unstaged why → broken)
        → Drops (answer_of o page) frame page v w x (session_after o page y) log log_now old new same_now broken
    drop_made same_now broken outcome.Done t r k c last to off = (refl, is_dropped r held k last)
    drop_made same_now broken (outcome.RowSpent row) t r k c last to off = (spent_within low 8 z.alone v w row h.alone are r c, to row refl k)
    drop_made same_now broken (outcome.Unstaged DiskFault) t r k c last to off = (k.came, off DiskFault refl)
    drop_made same_now broken _ t r k c last to off = absurd t

    drop_left : (same → y ≡ x) → (same → log_now ≡ log) → (o : Outcome) → IsExpected o → Drops_as o → Draws o → log_now.last ≡ last_after o log.last y.clock.clock → (session_after o page y).works ≡ true → Holds z w (session_after o page y) log_now
    drop_left sx sl outcome.Done t r k last works = drop_leaves_on r held k last
    drop_left sx sl (outcome.RowSpent row) t r k last works =
        subst (λ i. Holds z w i log_now) (sym (sx k)) (subst (λ i. Holds z w x i) (sym (sl k)) (holds_same z v w x log r.ran.given (missed_core 8 z.alone v w h.alone r) held h))
    drop_left sx sl (outcome.Unstaged DiskFault) t r k last works = absurd (true≢false (sym works))
    drop_left sx sl _ t r k last works = absurd t

    -- as its caller sees it
    pub drop_answered : (same_now broken : Type 0) (o : Outcome) → IsExpected o → Drops_as o → Draws o → Caused v o w → log_now.last ≡ last_after o log.last y.clock.clock
        → ((row : ℕ) → o ≡ outcome.RowSpent row → same → same_now) → ((why : Unstaged) → o ≡ outcome.Unstaged why → broken)
        → (r : Result ℕ Unserved) (k : Session) → r ≡ answer_of o page → k ≡ session_after o page y → Drops r frame page v w x k log log_now old new same_now broken
    drop_answered same_now broken o t j k c last to off r n answer after =
        subst (λ (i : Result ℕ Unserved). Drops i frame page v w x n log log_now old new same_now broken) (sym answer)
        (subst (λ (i : Session). Drops (answer_of o page) frame page v w x i log log_now old new same_now broken) (sym after) (drop_made same_now broken o t j k c last to off))

    pub drop_holds : (same → y ≡ x) → (same → log_now ≡ log) → (o : Outcome) → IsExpected o → Drops_as o → Draws o → log_now.last ≡ last_after o log.last y.clock.clock
        → (k : Session) (n : Shape) → n ≡ z → k ≡ session_after o page y → k.works ≡ true → Holds n w k log_now
    drop_holds sx sl o t j k last m n shape after works =
        subst (λ (i : Shape). Holds i w m log_now) (sym shape)
        (subst (λ (i : Session). Holds z w i log_now) (sym after) (drop_left sx sl o t j k last (ap (λ (i : Session). i.works) (sym after) ∙ works)))

    -- so there is room for the page
    pub drop_room : (o : Outcome) → Drops_as o → Draws o → log_now.last ≡ last_after o log.last y.clock.clock → HasRoomFor o y.free
    drop_room outcome.Done j k last =
        let few = (drop_leaves_on j held k last).spare in
        let more = (free g s).one_more page y.free in
        omega arith
    drop_room (outcome.Unstaged why) j k last = tt
    drop_room (outcome.Full row) j k last = tt
    drop_room outcome.TooTall j k last = tt
    drop_room (outcome.Stale row) j k last = tt
    drop_room (outcome.Moved m) j k last = tt
    drop_room (outcome.Latched l) j k last = tt
    drop_room (outcome.RowSpent row) j k last = tt
    drop_room outcome.ClockSpent j k last = tt
