-- What comes of a lift that room for a key takes.
use Rattle.std.proofs.Common.{◌≡◌, ◌≢◌, ◌⊎◌, inl, inr, ◌<◌, ℕ, true, false, List, [], ◌∷◌, length, Result, Ok, refl, sym, ap, ◌∙◌, subst, arith, true≢false}
use Rattle.row_changes.specs.session_state.engine_trait.declared.unserved.Unserved.{Unserved}
use Rattle.page_model.specs.Needs.{lift_record}
use Rattle.row_changes.specs.session_state.image_model.Entries.{Kind}
use Rattle.row_changes.specs.session_state.core_state.Events as happening
use Rattle.row_changes.specs.session_state.core_state.Needs.{may}
use Rattle.row_changes.specs.session_state.core_state.Openings.{Opening}
use Rattle.row_changes.specs.session_state.core_state.States.{Place, State, gsns_of, nodes_of}
use Rattle.row_changes.specs.session_state.core_state.Steps.{happens}
use Rattle.row_changes.specs.session_state.core_calls.Room.{EveryRoom, free_list}
use Rattle.row_changes.specs.session_state.draw_trait.declared.draw.Unstaged.{Unstaged}
use Rattle.row_changes.specs.session_state.draw_trait.declared.draw.Unstaged.TheVariants.{DiskFault, LogFull}
use Rattle.lean_disk.specs.Story.{Story}
use Rattle.row_changes.specs.session_state.log_record.declared.record.Record.{Record}
use Rattle.row_changes.specs.session_state.worker_log.Logs.{Log}
use Rattle.row_changes.specs.session_state.row_words.declared.event.Event.TheVariants.{Lift}
use Rattle.row_changes.specs.session_state.row_words.Moments.{Moment}
use Rattle.row_changes.specs.session_state.row_words.Openings.{opening}
use Rattle.row_changes.specs.session_state.rows_trait.Causes.{EveryLow}
use Rattle.row_changes.specs.session_state.rows_trait.Views.{AreLow, Shape, state}
use Rattle.row_changes.specs.session_state.rows_trait.declared.view.View.{View}
use Rattle.btree_smo.specs.Lifts as lifts
use Rattle.btree_smo.specs.Lifts.{Lifted, Raised, lift_entry}
use Rattle.btree_smo.specs.Outcomes.{Caused, Drew, IsHotIn, IsUndisturbed, Missed, WasSo, last_after}
use Rattle.btree_smo.specs.declared.outcome.Outcome.{Outcome}
use Rattle.btree_smo.specs.declared.outcome.Outcome.TheVariants as outcome
use Rattle.row_changes.specs.session_state.engine_trait.Rooms.{IsNextRoom}
use Rattle.row_changes.specs.session_state.Free.{without_first}
use Rattle.row_changes.specs.session_state.Holds.{Holds}
use Rattle.row_changes.specs.session_state.Numbers.{HaveRoom}
use Rattle.row_changes.specs.Puts.{MayChange}
use Rattle.row_growth.specs.Rooms.{CanLift, IsExpected, IsGrown, Made, answer_of, session_after}
use Rattle.row_changes.specs.session_state.Staging.{Staging}
use Rattle.row_changes.specs.session_state.declared.session.Session.{Session}
use Rattle.row_growth.proofs.GrowthLemmas.{grown, holds_grown, holds_same, hot_in, met, missed_core, now_is, one_in, sound, spent_behind, was_then}
use Rattle.row_growth.proofs.ChangeLemmas.{first_rest, not_full, not_spent, page_bare, page_free}
use Rattle.row_changes.proofs.TakesLemmas.{takes_lift}
use Rattle.row_growth.proofs.WarmLemmas.{warm_lift}

module _ (rooms : EveryRoom) (z : Shape) (v w : View) (x y : Session) (log log_now : Log) (h : Holds z v x log) (key : ℕ) (f : MayChange v x log key) (fits : HaveRoom v) (frame : ℕ) (can : CanLift v x key frame)
    (rs now : List Record) (old new : Story) (S same : Type 0) (f0 f1 : ℕ) where
  abbrev g : Opening
  g = opening v.given

  abbrev s : State
  s = (state v).core

  abbrev page : ℕ
  page = can.page

  abbrev Lifts : Outcome → Type 0
  Lifts o = Raised z.alone x.own frame v rs o w y.clock now

  abbrev Draws : Outcome → Type 0
  Draws o = Drew o (λ r. Staging r x y rs now log log_now old new S f0 f1) same

  free_at : (page < g.format.pages) × ((nodes_of s page).live ≡ false)
  free_at = page_free rooms z v x log h key page can.takes.least

  -- the new page is another one than the root, which is full
  lift_page : page ≢ 0
  lift_page e = let a = can.takes.full in let b = page_bare rooms z v x log h key page can.takes.least in let c = ap (λ k. length (nodes_of s k).pairs) e in omega arith

  -- and so is its frame
  pub lift_apart : frame ≢ 0
  lift_apart e = lift_page (one_in z v x log h page 0 0 (can.stands ∙ ap Place.Hot e) (sound z v x log h).residence.root)

  then_so : (P : Moment → Type 0) → Missed z.alone v w → WasSo z.alone v w P → P (state v)
  then_so P m so = was_then z.alone v w P h.alone m.ran.given so

  unfit : (row : ℕ) → lifts.IsUnfit frame row w.given (state v) → w.given ≡ v.given → ⊥
  unfit row t given = go t.either
    where
      go : ((row ≡ 0) × (length (nodes_of s 0).pairs ≢ 60)) ⊎ ((row ≡ frame) × ((p : ℕ) → IsHotIn w.given (state v) frame p → (nodes_of s p).live ≡ true)) → ⊥
      go (inl a) = a.1 can.takes.full
      go (inr b) = true≢false (sym (b.1 page (subst (λ k. IsHotIn k (state v) frame page) (sym given) (hot_in z v x log h page frame can.stands))) ∙ free_at.1)

  spent : lifts.IsSpent frame w.given (state v) → ⊥
  spent (inl t) = not_spent z v w x log key h fits f 0 t
  spent (inr t) = not_spent z v w x log key h fits f frame t

  pub lift_expected : (o : Outcome) → Lifts o → Draws o → IsUndisturbed o → IsExpected o
  lift_expected outcome.Done r d q = tt
  lift_expected (outcome.RowSpent row) r d q = tt
  lift_expected (outcome.Unstaged DiskFault) r d q = tt
  lift_expected (outcome.Unstaged (LogFull used limit)) r d q = not_full v x y log log_now key rs now old new S f0 f1 used limit f d
  lift_expected (outcome.Full row) r d q = r
  lift_expected outcome.TooTall r d q = let a = then_so lifts.IsTall r.0 r.1 in let b = can.takes.low in absurd (omega arith)
  lift_expected (outcome.Stale row) r d q = unfit row (then_so (lifts.IsUnfit frame row w.given) r.0 r.1) r.0.ran.given
  lift_expected (outcome.Moved m) r d q = q
  lift_expected (outcome.Latched l) r d q = q
  lift_expected outcome.ClockSpent r d q = spent (then_so (lifts.IsSpent frame w.given) r.0 r.1)

  module _ (l : Lifted z.alone x.own frame v rs w y.clock now) where
    here : l.page ≡ page
    here = one_in z v x log h l.page page frame (ap (λ m. m.core.place l.page) (sym (now_is z.alone v w l.change.past h.alone l.change.ran.given l.change.onward)) ∙ l.hot) can.stands

    least_is : x.free ≡ l.page ∷ without_first x.free
    least_is = first_rest x.free page can.takes.least ∙ ap (λ k. k ∷ without_first x.free) (sym here)

    module _ (held : w.held ≡ []) (st : Staging (Ok tt) x y rs now log log_now old new S f0 f1) (last : log_now.last ≡ y.clock.clock) where
      lift_met : may g s (happening.Event.Lift x.own l.page) ≡ true
      lift_met = met z v w x log h key f Kind.Lift refl refl (Lift x.own l.page) (0 ∷ l.page ∷ []) (lift_record (nodes_of s) (gsns_of s) l.page) (lift_entry x.own l.page) rs now y log_now l.change refl refl

      left_is : free_list g (happens g s (happening.Event.Lift x.own l.page)) ≡ without_first x.free
      left_is = (rooms g s key).lift (sound z v x log h).tree x.own l.page (without_first x.free) lift_met (sym h.free ∙ least_is)

      pub lift_holds_on : Holds z w (record y { free = without_first y.free }) log_now
      lift_holds_on = holds_grown z v w x log h key f Kind.Lift refl refl (Lift x.own l.page) (0 ∷ l.page ∷ []) (lift_record (nodes_of s) (gsns_of s) l.page) (lift_entry x.own l.page) rs now y log_now l.change refl refl
          old new S f0 f1 held st last l.page (without_first x.free) least_is left_is

      pub lift_grown : IsGrown key v w x (record y { free = without_first y.free }) log log_now old new
      lift_grown = grown z v w x log h key f Kind.Lift refl refl (Lift x.own l.page) (0 ∷ l.page ∷ []) (lift_record (nodes_of s) (gsns_of s) l.page) (lift_entry x.own l.page) rs now y log_now l.change refl refl
          old new S f0 f1 held st last l.page (without_first x.free) least_is left_is refl (subst (λ k. IsNextRoom x.own g s key (happening.Event.Lift x.own k)) (sym here) can.takes.next) can.takes.fits
          (warm_lift g s key x.own l.page (sound z v x log h).residence.root frame (ap s.place here ∙ can.stands))
          (λ now. takes_lift rooms g s key x.own l.page refl (sound z v x log h).tree now f.key_low can.takes.next.2)

  module _ (low : EveryLow) (are : AreLow (length w.seen) w.steps) (held : w.held ≡ []) where
    pub lift_grew : (same_now broken : Type 0) (o : Outcome) → IsExpected o → Lifts o → Draws o → Caused v o w → log_now.last ≡ last_after o log.last y.clock.clock
        → ((row : ℕ) → o ≡ outcome.RowSpent row → same → same_now) → ((why : Unstaged) → o ≡ outcome.Unstaged why → broken)
        → Made (answer_of o) key v w x (session_after o y) log log_now old new same_now broken
    lift_grew same_now broken outcome.Done t r d c last to off = lift_grown r held d last
    lift_grew same_now broken (outcome.RowSpent row) t r d c last to off = (spent_behind low z.alone v w row h.alone are r c, to row refl d)
    lift_grew same_now broken (outcome.Unstaged DiskFault) t r d c last to off = (d.came, off DiskFault refl)
    lift_grew same_now broken _ t r d c last to off = absurd t

    pub lift_holds : (same → y ≡ x) → (same → log_now ≡ log) → (o : Outcome) → IsExpected o → Lifts o → Draws o → log_now.last ≡ last_after o log.last y.clock.clock → (session_after o y).works ≡ true → Holds z w (session_after o y) log_now
    lift_holds sx sl outcome.Done t r d last works = lift_holds_on r held d last
    lift_holds sx sl (outcome.RowSpent row) t r d last works =
        subst (λ k. Holds z w k log_now) (sym (sx d)) (subst (λ k. Holds z w x k) (sym (sl d)) (holds_same z v w x log r.ran.given (missed_core z.alone v w h.alone r) held h))
    lift_holds sx sl (outcome.Unstaged why) t r d last works = absurd (true≢false (sym works))
    lift_holds sx sl _ t r d last works = absurd t

    -- as its caller sees it
    pub lift_answered : (same_now broken : Type 0) (o : Outcome) → IsExpected o → Lifts o → Draws o → Caused v o w → log_now.last ≡ last_after o log.last y.clock.clock
        → ((row : ℕ) → o ≡ outcome.RowSpent row → same → same_now) → ((why : Unstaged) → o ≡ outcome.Unstaged why → broken)
        → (r : Result (Unit {0}) Unserved) (k : Session) → r ≡ answer_of o → k ≡ session_after o y → Made r key v w x k log log_now old new same_now broken
    lift_answered same_now broken o t d s c last to off r k answer after =
        subst (λ (a : Result (Unit {0}) Unserved). Made a key v w x k log log_now old new same_now broken) (sym answer)
        (subst (λ (a : Session). Made (answer_of o) key v w x a log log_now old new same_now broken) (sym after) (lift_grew same_now broken o t d s c last to off))
