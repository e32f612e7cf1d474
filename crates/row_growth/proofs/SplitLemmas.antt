-- What comes of a split that room for a key takes.
use Rattle.std.proofs.Common.{◌≡◌, ◌≢◌, ◌⊎◌, inl, inr, ◌<◌, ℕ, true, false, List, [], ◌∷◌, length, Result, Ok, refl, sym, ap, ◌∙◌, subst, arith, true≢false}
use Rattle.row_changes.specs.session_state.engine_trait.declared.unserved.Unserved.{Unserved}
use Rattle.page_model.specs.Check.{names_page}
use Rattle.page_model.specs.Needs.{split_record}
use Rattle.page_model.specs.Pairs.{Span}
use Rattle.page_model.specs.Tree.{Names}
use Rattle.row_changes.specs.session_state.image_model.Entries.{Kind}
use Rattle.row_changes.proofs.session_state.core_commit.Events.{names_to}
use Rattle.row_changes.specs.session_state.core_state.Events as happening
use Rattle.row_changes.specs.session_state.core_state.Needs.{may}
use Rattle.row_changes.specs.session_state.core_state.Openings.{Opening}
use Rattle.row_changes.specs.session_state.core_state.States.{Place, State, gsns_of, nodes_of}
use Rattle.row_changes.specs.session_state.core_state.Steps.{happens}
use Rattle.row_changes.specs.session_state.core_calls.Room.{EveryRoom, free_list}
use Rattle.row_changes.specs.session_state.draw_trait.declared.draw.Unstaged.{Unstaged}
use Rattle.row_changes.specs.session_state.draw_trait.declared.draw.Unstaged.TheVariants.{DiskFault, LogFull}
use Rattle.lean_disk.specs.Story.{Story}
use Rattle.row_changes.specs.session_state.log_record.declared.record.Record.{Record}
use Rattle.row_changes.specs.session_state.worker_log.Logs.{Log}
use Rattle.row_changes.specs.session_state.row_words.declared.event.Event.TheVariants.{Split}
use Rattle.row_changes.specs.session_state.row_words.Moments.{Moment}
use Rattle.row_changes.specs.session_state.row_words.Openings.{opening}
use Rattle.row_changes.specs.session_state.rows_trait.Causes.{EveryLow}
use Rattle.row_changes.specs.session_state.rows_trait.Views.{AreLow, Shape, after_all, state}
use Rattle.row_changes.specs.session_state.rows_trait.declared.view.View.{View}
use Rattle.btree_smo.specs.Outcomes.{Caused, Drew, IsHotIn, IsUndisturbed, Missed, WasSo, last_after}
use Rattle.btree_smo.specs.Splits as splits
use Rattle.btree_smo.specs.Splits.{Divided, Parted, split_entry}
use Rattle.btree_smo.specs.declared.outcome.Outcome.{Outcome}
use Rattle.btree_smo.specs.declared.outcome.Outcome.TheVariants as outcome
use Rattle.row_changes.specs.session_state.engine_trait.Rooms.{IsNextRoom}
use Rattle.row_changes.specs.session_state.Free.{without_first}
use Rattle.row_changes.specs.session_state.Holds.{Holds}
use Rattle.row_changes.specs.session_state.Numbers.{HaveRoom}
use Rattle.row_changes.specs.Puts.{MayChange}
use Rattle.row_growth.specs.Rooms.{CanSplit, IsExpected, IsGrown, Made, answer_of, session_after}
use Rattle.row_changes.specs.session_state.Staging.{Staging}
use Rattle.row_changes.specs.session_state.declared.session.Session.{Session}
use Rattle.row_growth.proofs.GrowthLemmas.{grown, holds_grown, holds_same, hot_in, met, missed_core, now_is, one_in, sound, spent_behind, was_then}
use Rattle.row_growth.proofs.ChangeLemmas.{first_rest, not_full, not_spent, page_bare, page_free}
use Rattle.row_changes.proofs.TakesLemmas.{takes_split}
use Rattle.row_growth.proofs.WarmLemmas.{warm_split}

module _ (rooms : EveryRoom) (z : Shape) (v w : View) (x y : Session) (log log_now : Log) (h : Holds z v x log) (key : ℕ) (f : MayChange v x log key) (fits : HaveRoom v) (a b d : ℕ) (can : CanSplit v x key a b d)
    (rs now : List Record) (old new : Story) (S same : Type 0) (f0 f1 : ℕ) where
  abbrev g : Opening
  g = opening v.given

  abbrev s : State
  s = (state v).core

  abbrev left : ℕ
  left = can.takes.left

  abbrev page : ℕ
  page = can.page

  abbrev parent : ℕ
  parent = can.takes.parent

  abbrev Splits : Outcome → Type 0
  Splits o = Parted z.alone x.own a b d v rs o w y.clock now

  abbrev Draws : Outcome → Type 0
  Draws o = Drew o (λ r. Staging r x y rs now log log_now old new S f0 f1) same

  free_at : (page < g.format.pages) × ((nodes_of s page).live ≡ false)
  free_at = page_free rooms z v x log h key page can.takes.least

  named : (t : Span) × Names (nodes_of s parent) t × (t.child ≡ left)
  named = names_to (nodes_of s parent) left can.takes.names

  -- the page that is split is full, the new one is free, and the parent names a page of another level: they are three
  pages_left_page : left ≢ page
  pages_left_page e = let a = can.takes.full in let b = page_bare rooms z v x log h key page can.takes.least in let c = ap (λ k. length (nodes_of s k).pairs) e in omega arith

  pages_left_parent : left ≢ parent
  pages_left_parent e =
      let a = ((sound z v x log h).tree.down parent can.takes.within named.0 named.1).level in
      let b = ap (λ k. (nodes_of s k).level) (named.2 ∙ e) in
      omega arith

  pages_page_parent : page ≢ parent
  pages_page_parent e = true≢false (sym named.1.live ∙ (ap (λ k. (nodes_of s k).live) (sym e) ∙ free_at.1))

  -- so their frames are three
  pub left_page : a ≢ b
  left_page e = pages_left_page (one_in z v x log h left page b (can.takes.left_hot ∙ ap Place.Hot e) can.stands)

  pub left_parent : a ≢ d
  left_parent e = pages_left_parent (one_in z v x log h left parent d (can.takes.left_hot ∙ ap Place.Hot e) can.takes.parent_hot)

  pub page_parent : b ≢ d
  page_parent e = pages_page_parent (one_in z v x log h page parent d (can.stands ∙ ap Place.Hot e) can.takes.parent_hot)

  then_so : (P : Moment → Type 0) → Missed z.alone v w → WasSo z.alone v w P → P (state v)
  then_so P m so = was_then z.alone v w P h.alone m.ran.given so

  stands_in : (p frame : ℕ) → s.place p ≡ Place.Hot frame → w.given ≡ v.given → IsHotIn w.given (state v) frame p
  stands_in p frame hot given = subst (λ k. IsHotIn k (state v) frame p) (sym given) (hot_in z v x log h p frame hot)

  unfit : (row : ℕ) → splits.IsUnfit a b d row w.given (state v) → w.given ≡ v.given → ⊥
  unfit row t given = go t.either
    where
      go : ((row ≡ a) × ((p : ℕ) → IsHotIn w.given (state v) a p → length (nodes_of s p).pairs ≢ 60))
          ⊎ (((row ≡ b) × ((p : ℕ) → IsHotIn w.given (state v) b p → (nodes_of s p).live ≡ true))
          ⊎ ((row ≡ d) × ((p q : ℕ) → IsHotIn w.given (state v) a p → IsHotIn w.given (state v) d q → names_page (nodes_of s q) p ≡ true → ⊥))) → ⊥
      go (inl k) = k.1 left (stands_in left a can.takes.left_hot given) can.takes.full
      go (inr (inl k)) = true≢false (sym (k.1 page (stands_in page b can.stands given)) ∙ free_at.1)
      go (inr (inr k)) = k.1 left parent (stands_in left a can.takes.left_hot given) (stands_in parent d can.takes.parent_hot given) can.takes.names

  no_room : (row : ℕ) → splits.IsFull d row w.given (state v) → ⊥
  no_room row t = can.takes.room (ap (λ k. length (nodes_of s k).pairs) (one_in z v x log h parent t.page d can.takes.parent_hot t.stands.hot) ∙ t.full)

  spent : splits.IsSpent a b d w.given (state v) → ⊥
  spent (inl t) = not_spent z v w x log key h fits f a t
  spent (inr (inl t)) = not_spent z v w x log key h fits f b t
  spent (inr (inr t)) = not_spent z v w x log key h fits f d t

  pub split_expected : (o : Outcome) → Splits o → Draws o → IsUndisturbed o → IsExpected o
  split_expected outcome.Done r k q = tt
  split_expected (outcome.RowSpent row) r k q = tt
  split_expected (outcome.Unstaged DiskFault) r k q = tt
  split_expected (outcome.Unstaged (LogFull used limit)) r k q = not_full v x y log log_now key rs now old new S f0 f1 used limit f k
  split_expected (outcome.Full row) r k q = no_room row (then_so (splits.IsFull d row w.given) r.0 r.1)
  split_expected outcome.TooTall r k q = r
  split_expected (outcome.Stale row) r k q = unfit row (then_so (splits.IsUnfit a b d row w.given) r.0 r.1) r.0.ran.given
  split_expected (outcome.Moved m) r k q = q
  split_expected (outcome.Latched l) r k q = q
  split_expected outcome.ClockSpent r k q = spent (then_so (splits.IsSpent a b d w.given) r.0 r.1)

  module _ (l : Divided z.alone x.own a b d v rs w y.clock now) where
    here : (p q frame : ℕ) → (after_all w.given l.change.past).core.place p ≡ Place.Hot frame → s.place q ≡ Place.Hot frame → p ≡ q
    here p q frame hot at = one_in z v x log h p q frame (ap (λ m. m.core.place p) (sym (now_is z.alone v w l.change.past h.alone l.change.ran.given l.change.onward)) ∙ hot) at

    left_here : l.left ≡ left
    left_here = here l.left left a l.left_hot can.takes.left_hot

    right_is : l.right ≡ page
    right_is = here l.right page b l.right_hot can.stands

    parent_here : l.parent ≡ parent
    parent_here = here l.parent parent d l.parent_hot can.takes.parent_hot

    least_is : x.free ≡ l.right ∷ without_first x.free
    least_is = first_rest x.free page can.takes.least ∙ ap (λ k. k ∷ without_first x.free) (sym right_is)

    next_is : IsNextRoom x.own g s key (happening.Event.Split x.own l.left l.right l.parent 30)
    next_is = subst (λ k. IsNextRoom x.own g s key (happening.Event.Split x.own k l.right l.parent 30)) (sym left_here)
        (subst (λ k. IsNextRoom x.own g s key (happening.Event.Split x.own left k l.parent 30)) (sym right_is) (subst (λ k. IsNextRoom x.own g s key (happening.Event.Split x.own left page k 30)) (sym parent_here) can.takes.next))

    module _ (held : w.held ≡ []) (st : Staging (Ok tt) x y rs now log log_now old new S f0 f1) (last : log_now.last ≡ y.clock.clock) where
      split_met : may g s (happening.Event.Split x.own l.left l.right l.parent 30) ≡ true
      split_met = met z v w x log h key f Kind.Split refl refl (Split x.own l.left l.right l.parent 30) (l.left ∷ l.right ∷ l.parent ∷ []) (split_record (nodes_of s) (gsns_of s) l.left l.right l.parent 30) (split_entry x.own l.left l.right l.parent) rs now y log_now l.change refl refl

      left_is : free_list g (happens g s (happening.Event.Split x.own l.left l.right l.parent 30)) ≡ without_first x.free
      left_is = (rooms g s key).split (sound z v x log h).tree x.own l.left l.right l.parent 30 (without_first x.free) split_met (sym h.free ∙ least_is)

      pub split_holds_on : Holds z w (record y { free = without_first y.free }) log_now
      split_holds_on = holds_grown z v w x log h key f Kind.Split refl refl (Split x.own l.left l.right l.parent 30) (l.left ∷ l.right ∷ l.parent ∷ []) (split_record (nodes_of s) (gsns_of s) l.left l.right l.parent 30) (split_entry x.own l.left l.right l.parent) rs now y log_now l.change refl refl
          old new S f0 f1 held st last l.right (without_first x.free) least_is left_is

      pub split_grown : IsGrown key v w x (record y { free = without_first y.free }) log log_now old new
      split_grown = grown z v w x log h key f Kind.Split refl refl (Split x.own l.left l.right l.parent 30) (l.left ∷ l.right ∷ l.parent ∷ []) (split_record (nodes_of s) (gsns_of s) l.left l.right l.parent 30) (split_entry x.own l.left l.right l.parent) rs now y log_now l.change refl refl
          old new S f0 f1 held st last l.right (without_first x.free) least_is left_is refl next_is can.takes.fits
          (warm_split g s key x.own l.left l.right l.parent a (ap s.place left_here ∙ can.takes.left_hot) b (ap s.place right_is ∙ can.stands) d (ap s.place parent_here ∙ can.takes.parent_hot))
          (λ now. takes_split rooms g s key x.own l.left l.right l.parent refl (sound z v x log h).tree now (subst (λ k. k < g.format.pages) (sym left_here) can.takes.below)
          (subst (λ k. k < g.format.pages) (sym right_is) free_at.0) (subst (λ k. (nodes_of s k).live ≡ false) (sym right_is) free_at.1)
          (subst (λ k. length (nodes_of s k).pairs ≡ 60) (sym left_here) can.takes.full) next_is.3 next_is.4 next_is.2)

  module _ (low : EveryLow) (are : AreLow (length w.seen) w.steps) (held : w.held ≡ []) where
    pub split_grew : (same_now broken : Type 0) (o : Outcome) → IsExpected o → Splits o → Draws o → Caused v o w → log_now.last ≡ last_after o log.last y.clock.clock
        → ((row : ℕ) → o ≡ outcome.RowSpent row → same → same_now) → ((why : Unstaged) → o ≡ outcome.Unstaged why → broken)
        → Made (answer_of o) key v w x (session_after o y) log log_now old new same_now broken
    split_grew same_now broken outcome.Done t r d c last to off = split_grown r held d last
    split_grew same_now broken (outcome.RowSpent row) t r d c last to off = (spent_behind low z.alone v w row h.alone are r c, to row refl d)
    split_grew same_now broken (outcome.Unstaged DiskFault) t r d c last to off = (d.came, off DiskFault refl)
    split_grew same_now broken _ t r d c last to off = absurd t

    pub split_holds : (same → y ≡ x) → (same → log_now ≡ log) → (o : Outcome) → IsExpected o → Splits o → Draws o → log_now.last ≡ last_after o log.last y.clock.clock → (session_after o y).works ≡ true → Holds z w (session_after o y) log_now
    split_holds sx sl outcome.Done t r d last works = split_holds_on r held d last
    split_holds sx sl (outcome.RowSpent row) t r d last works =
        subst (λ k. Holds z w k log_now) (sym (sx d)) (subst (λ k. Holds z w x k) (sym (sl d)) (holds_same z v w x log r.ran.given (missed_core z.alone v w h.alone r) held h))
    split_holds sx sl (outcome.Unstaged why) t r d last works = absurd (true≢false (sym works))
    split_holds sx sl _ t r d last works = absurd t

    -- as its caller sees it
    pub split_answered : (same_now broken : Type 0) (o : Outcome) → IsExpected o → Splits o → Draws o → Caused v o w → log_now.last ≡ last_after o log.last y.clock.clock
        → ((row : ℕ) → o ≡ outcome.RowSpent row → same → same_now) → ((why : Unstaged) → o ≡ outcome.Unstaged why → broken)
        → (r : Result (Unit {0}) Unserved) (k : Session) → r ≡ answer_of o → k ≡ session_after o y → Made r key v w x k log log_now old new same_now broken
    split_answered same_now broken o t d s c last to off r k answer after =
        subst (λ (a : Result (Unit {0}) Unserved). Made a key v w x k log log_now old new same_now broken) (sym answer)
        (subst (λ (a : Session). Made (answer_of o) key v w x a log log_now old new same_now broken) (sym after) (split_grew same_now broken o t d s c last to off))
