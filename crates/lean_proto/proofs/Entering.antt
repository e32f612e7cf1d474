-- Ticks, enters and leaves at control words, whatever others do meanwhile.
use Rattle.std.proofs.Common.{◌≡◌, ◌≢◌, ◌<◌, ◌≤◌, ◌+◌, ◌-◌, ◌^◌, not, ltb, leb, ℕ, zero, suc, Bool, true, false, List, [], ◌∷◌, ◌++◌, ◌⊎◌, Option, Some, None, refl, sym, ap, subst, ◌∙◌, arith, inl, inr}
use Rattle.std.proofs.lemmas.Bool.{and_from, and_right, ne_eqb, cases_eq, leb-true, le-leb, lt-leb, cond-true, cases_Bool}
use Rattle.std.specs.Prelude.{if◌then◌else◌}
use Rattle.map_model.proofs.ListLemmas.{upd_same}
use Rattle.core_paging.specs.image_model.Entries.{Entry}
use Rattle.core_paging.specs.core_state.Openings.{Opening}
use Rattle.core_paging.specs.core_state.States.{State, epoch_of, waits_for}
use Rattle.core_paging.specs.core_state.Events as happening
use Rattle.core_paging.specs.core_state.Needs as core
use Rattle.core_paging.specs.core_state.Needs.{is_worker, is_inside}
use Rattle.core_paging.specs.core_state.Local.{publishes_row}
use Rattle.core_paging.specs.core_state.Steps.{happens, put_back}
use Rattle.core_paging.specs.Paging.{Waiting}
use Rattle.version_latch.specs.row_words.declared.event.Event.{Event}
use Rattle.version_latch.specs.row_words.declared.event.Event.TheVariants as told
use Rattle.version_latch.specs.row_words.declared.event.Event.TheVariants.{Tick, Enter, Leave}
use Rattle.version_latch.specs.row_words.declared.event.Met.TheVariants as met
use Rattle.version_latch.specs.row_words.declared.given.Given.{Given}
use Rattle.version_latch.specs.row_words.Moments.{Moment, event_of, actor_of, pager, by}
use Rattle.version_latch.specs.row_words.Openings.{opening}
use Rattle.version_latch.specs.row_words.Words.{publishes_frame, epoch_word}
use Rattle.version_latch.specs.row_words.Sealed.{stepped, run, changes, heard, sets}
use Rattle.version_latch.specs.row_words.Sealed as sealed
use Rattle.version_latch.proofs.row_words.Stays.{and_true}
use Rattle.version_latch.proofs.row_words.Controls.{every_own}
use Rattle.version_latch.proofs.row_words.SealedLemmas.{run_append}
use Rattle.version_latch.specs.rows_trait.declared.view.View.{View}
use Rattle.version_latch.specs.rows_trait.Views.{Shape, AreApart, NoSync, after_all, may, state}
use Rattle.version_latch.specs.rows_trait.Turns.{Heard, MayTurn, Ran}
use Rattle.lean_proto.specs.Controls.{IsTick, IsEnter, IsLeave, EveryEpoch}
use Rattle.lean_proto.proofs.Meanwhile.{is_actor, meanwhile}
use Rattle.lean_proto.proofs.Owns.{none_of}
use Rattle.lean_proto.proofs.Turning.{goes_one, steps_met, other_word}

-- ## What others leave

-- the global epoch goes on by the pager alone, and never falls
epoch_happens : (g : Opening) (s : State) (e : Event) → s.epoch ≤ (happens g s (event_of e)).epoch
epoch_happens g s (told.PutBack u p) = go (s.worker u).changes
  where
    go : (cs : List Entry) → s.epoch ≤ (put_back g s u p cs).epoch
    go [] = omega arith
    go (c ∷ cs) = omega arith
epoch_happens g s (told.Next u p k (met.Pair at word)) = omega arith
epoch_happens g s (told.Next u p k (met.Gap b)) = omega arith
epoch_happens g s Tick = omega arith
epoch_happens g s _ = omega arith

pub epoch_same : (g : Opening) (s : State) (e : Event) → actor_of e ≢ pager → (happens g s (event_of e)).epoch ≡ s.epoch
epoch_same g s Tick ne = absurd (ne refl)
epoch_same g s (told.PutBack u p) ne = go (s.worker u).changes
  where
    go : (cs : List Entry) → (put_back g s u p cs).epoch ≡ s.epoch
    go [] = refl
    go (c ∷ cs) = refl
epoch_same g s (told.Next u p k (met.Pair at word)) ne = refl
epoch_same g s (told.Next u p k (met.Gap b)) ne = refl
epoch_same g s _ ne = refl

epoch_next : (v : Given) (m : Moment) (e : Event) → m.core.epoch ≤ (stepped v m e).core.epoch
unfolding stepped
epoch_next v m e = go (core.may (opening v) m.core (event_of e))
  where
    go : (b : Bool) → m.core.epoch ≤ (if b then happens (opening v) m.core (event_of e) else m.core).epoch
    go true = epoch_happens (opening v) m.core e
    go false = omega arith

epoch_on : (v : Given) (es : List Event) (m : Moment) → m.core.epoch ≤ (run v m es).core.epoch
epoch_on v [] m = omega arith
epoch_on v (e ∷ es) m = let a = epoch_next v m e in let b = epoch_on v es (stepped v m e) in omega arith

epoch_still : (v : View) → v.actor ≡ pager → (es : List Event) (m : Moment) → AreApart v m es → (run v.given m es).core.epoch ≡ m.core.epoch
unfolding stepped
epoch_still v is [] m a = refl
epoch_still v is (e ∷ es) m a = epoch_still v is es (stepped v.given m e) a.1 ∙ go (core.may (opening v.given) m.core (event_of e))
  where
    go : (b : Bool) → (if b then happens (opening v.given) m.core (event_of e) else m.core).epoch ≡ m.core.epoch
    go true = epoch_same (opening v.given) m.core e (λ z. a.0.other (z ∙ sym is))
    go false = refl

-- where a worker is changes by itself alone
inside_on : (v : View) (es : List Event) (m : Moment) → AreApart v m es → (run v.given m es).core.inside v.actor ≡ m.core.inside v.actor
unfolding stepped
inside_on v [] m a = refl
inside_on v (e ∷ es) m a = inside_on v es (stepped v.given m e) a.1 ∙ (every_own (opening v.given) m e v.actor a.0.other a.0.part).inside

inside_none : (v : Given) (a : ℕ) (es : List Event) (m : Moment) → by a es ≡ [] → NoSync es → (run v m es).core.inside a ≡ m.core.inside a
unfolding stepped
inside_none v a [] m none off = refl
inside_none v a (e ∷ es) m none off = let o = none_of a e es none in inside_none v a es (stepped v m e) o.1 off.1 ∙ (every_own (opening v) m e a o.0 off.0).inside

record Keeps (w : ℕ) (s t : State) : Type 0 where
  pub inside : t.inside w ≡ s.inside w
  pub epoch : s.epoch ≤ t.epoch

keeps : (z : Shape) (v : View) (w : ℕ) → may z.alone v w ≡ true → (between : List Event) → (z.alone ≡ true → between ≡ []) → AreApart v (state v) between
    → Keeps w (state v).core (after_all v.given (v.seen ++ between)).core
keeps z v w actor = meanwhile z v w (λ m. Keeps w (state v).core m.core) actor (record { inside = refl; epoch = omega arith })
    (λ es is a. subst (λ x. Keeps x (state v).core (run v.given (state v) es).core) is (record { inside = inside_on v es (state v) a; epoch = epoch_on v.given es (state v) }))

-- ## Words

heard_epoch : (m : Moment) → heard m 0 0 ≡ m.core.epoch
unfolding heard
heard_epoch m = refl

heard_local : (m : Moment) (w : ℕ) → 0 < w → heard m w 2 ≡ epoch_word (m.core.inside w)
unfolding heard
heard_local m zero some = absurd (omega arith)
heard_local m (suc w) some = refl

-- ticks, enters and leaves change no row, and one control word
module _ (v : Given) (m : Moment) (row : ℕ) where
  tick_changes : changes v m Tick row ≡ false
  unfolding changes
  tick_changes = go (ltb row (opening v).frames)
    where
      go : (b : Bool) → if◌then◌else◌ b (publishes_frame (opening v) m.core (event_of Tick) row) (publishes_row (event_of Tick) (row - (opening v).frames)) ≡ false
      go true = refl
      go false = refl

  enter_changes : (w e : ℕ) → changes v m (Enter w e) row ≡ false
  unfolding changes
  enter_changes w e = go (ltb row (opening v).frames)
    where
      go : (b : Bool) → if◌then◌else◌ b (publishes_frame (opening v) m.core (event_of (Enter w e)) row) (publishes_row (event_of (Enter w e)) (row - (opening v).frames)) ≡ false
      go true = refl
      go false = refl

  leave_changes : (w : ℕ) → changes v m (Leave w) row ≡ false
  unfolding changes
  leave_changes w = go (ltb row (opening v).frames)
    where
      go : (b : Bool) → if◌then◌else◌ b (publishes_frame (opening v) m.core (event_of (Leave w)) row) (publishes_row (event_of (Leave w)) (row - (opening v).frames)) ≡ false
      go true = refl
      go false = refl

tick_sets : (c i : ℕ) → ((c ≡ 0) × (i ≡ 0) → ⊥) → sets Tick c i ≡ false
unfolding sets
tick_sets c i ne = other_word c 0 i 0 ne

enter_sets : (w e c i : ℕ) → ((c ≡ w) × (i ≡ 2) → ⊥) → sets (Enter w e) c i ≡ false
unfolding sets
enter_sets w e c i ne = other_word c w i 2 ne

leave_sets : (w c i : ℕ) → ((c ≡ w) × (i ≡ 2) → ⊥) → sets (Leave w) c i ≡ false
unfolding sets
leave_sets w c i ne = other_word c w i 2 ne

-- ## The laws

none_inside : (o : Option ℕ) → o ≡ None → not (is_inside o) ≡ true
none_inside o e = ap (λ x. not (is_inside x)) e

module _ (z : Shape) (v : View) (w : ℕ) where
  abbrev g : Opening
  g = opening v.given

  abbrev at : List Event → Moment
  at between = after_all v.given (v.seen ++ between)

  ticks : IsTick z v → MayTurn z 0 0 (λ n. n + 1) (λ _. Tick ∷ []) v
  ticks i = record {
    own = λ n. (record { own = i.actor; part = λ off. refl; rows = λ m row. tick_changes v.given m row; words = λ d j le ne. tick_sets d j ne; calm = refl }, tt);
    turns = λ between quiet apart n found.
        let still : (at between).core.epoch ≡ (state v).core.epoch = meanwhile z v pager (λ m. m.core.epoch ≡ (state v).core.epoch) i.actor refl (λ es is a. epoch_still v is es (state v) a) between quiet apart in
        let old : n ≡ (at between).core.epoch = sym found ∙ heard_epoch (at between) in
        let new : heard (after_all v.given ((v.seen ++ between) ++ Tick ∷ [])) 0 0 ≡ suc (at between).core.epoch
        = ap (λ m. heard m 0 0) (run_append v.given (sealed.begun v.given) (v.seen ++ between) (Tick ∷ []))
        ∙ (heard_epoch (stepped v.given (at between) Tick) ∙ ap (λ s. s.epoch) (steps_met v.given (at between) Tick refl)) in
        let small = i.small in
        (new ∙ omega arith, omega arith);
  }

  module _ (e : ℕ) (i : IsEnter z v w e) where
    enter_met : (between : List Event) → (z.alone ≡ true → between ≡ []) → AreApart v (state v) between → core.may g (at between).core (happening.Event.Enter w e) ≡ true
    enter_met between quiet apart =
        let k = keeps z v w i.actor between quiet apart in
        let o = i.old in let u = k.epoch in
        and_from (is_worker g w) _ i.worker
        (and_from (not (is_inside ((at between).core.inside w))) _ (none_inside ((at between).core.inside w) (k.inside ∙ i.outside)) (le-leb e (at between).core.epoch (omega arith)))

    enter_inside : (between : List Event) → (z.alone ≡ true → between ≡ []) → AreApart v (state v) between → (stepped v.given (at between) (Enter w e)).core.inside w ≡ Some e
    enter_inside between quiet apart = ap (λ s. s.inside w) (steps_met v.given (at between) (Enter w e) (enter_met between quiet apart)) ∙ upd_same (at between).core.inside w (Some e) w refl

    some_worker : 0 < w
    some_worker = let a = and_true (ltb 0 w) (leb w g.workers) i.worker in Rattle.std.proofs.lemmas.Bool.ltb-true 0 w a.0

    enters : MayTurn z w 2 (λ _. e) (λ _. Enter w e ∷ []) v
    enters = record {
      own = λ n. (record { own = i.actor; part = λ off. refl; rows = λ m row. enter_changes v.given m row w e; words = λ d j le ne. enter_sets w e d j ne; calm = refl }, tt);
      turns = λ between quiet apart n found. (
        ap (λ m. heard m w 2) (run_append v.given (sealed.begun v.given) (v.seen ++ between) (Enter w e ∷ []))
            ∙ (heard_local (stepped v.given (at between) (Enter w e)) w some_worker ∙ ap epoch_word (enter_inside between quiet apart)),
        let s = i.small in omega arith,
      );
    }

  module _ (i : IsLeave z v w) where
    leave_met : (between : List Event) → (z.alone ≡ true → between ≡ []) → AreApart v (state v) between → core.may g (at between).core (happening.Event.Leave w) ≡ true
    leave_met between quiet apart = ap is_inside (keeps z v w i.actor between quiet apart).inside ∙ i.inside

    leave_inside : (between : List Event) → (z.alone ≡ true → between ≡ []) → AreApart v (state v) between → (stepped v.given (at between) (Leave w)).core.inside w ≡ None
    leave_inside between quiet apart = ap (λ s. s.inside w) (steps_met v.given (at between) (Leave w) (leave_met between quiet apart)) ∙ upd_same (at between).core.inside w None w refl

    leaves : MayTurn z w 2 (λ _. 2 ^ 63) (λ _. Leave w ∷ []) v
    leaves = record {
      own = λ n. (record { own = i.actor; part = λ off. refl; rows = λ m row. leave_changes v.given m row w; words = λ d j le ne. leave_sets w d j ne; calm = refl }, tt);
      turns = λ between quiet apart n found. (
        ap (λ m. heard m w 2) (run_append v.given (sealed.begun v.given) (v.seen ++ between) (Leave w ∷ []))
            ∙ (heard_local (stepped v.given (at between) (Leave w)) w i.some ∙ ap epoch_word (leave_inside between quiet apart)),
        omega arith,
      );
    }

  -- a worker that is outside, or has a later epoch
  ripens : (epoch n : ℕ) (u : View) → 0 < w → Waiting (state u).core → (n ≡ 2 ^ 63) ⊎ (epoch < n) → (state u).core.epoch < 2 ^ 63 → Heard z w 2 (λ _. []) v n u
      → (p : ℕ) → epoch_of ((state u).core.place p) ≤ epoch → waits_for ((state u).core.place p) w ≡ false
  ripens epoch n u some waiting later small h p low = elim (cases_Bool (waits_for ((state u).core.place p) w)) [
    | inl y ↦
        let q = waiting.waits p w y in
        let word : n ≡ q.0 = sym h.word ∙ (heard_local (state u) w some ∙ ap epoch_word q.1) in
        let local = waiting.local w q.0 q.1 in
        let l = q.2 in
        elim later [ inl out ↦ absurd (omega arith) | inr lt ↦ absurd (omega arith) ]
    | inr n ↦ n
  ]

  moment_ran : (es : List Event) (u : View) → (r : Ran z.alone v es u) → state u ≡ run v.given (state v) r.more
  moment_ran es u r = (λ i. after_all (r.given i) (r.seen i)) ∙ run_append v.given (sealed.begun v.given) v.seen r.more

  rises : (es : List Event) (u : View) → Ran z.alone v es u → (state v).core.epoch ≤ (state u).core.epoch
  rises es u r = subst (λ (m : Moment). (state v).core.epoch ≤ m.core.epoch) (sym (moment_ran es u r)) (epoch_on v.given r.more (state v))

  -- where nobody else steps nothing has happened, and where others do it is theirs
  inside_stays : (u : View) → may z.alone v w ≡ true → Ran z.alone v [] u → (state u).core.inside w ≡ (state v).core.inside w
  inside_stays u actor r = elim (cases_Bool z.alone) [
    | inl y ↦ ap (λ m. m.core.inside w) (moment_ran [] u r ∙ ap (run v.given (state v)) (r.all y))
    | inr n ↦
        let is : v.actor ≡ w = is_actor v w (subst (λ b. may b v w ≡ true) n actor) in
        ap (λ m. m.core.inside w) (moment_ran [] u r) ∙ subst (λ a. (run v.given (state v) r.more).core.inside a ≡ (state v).core.inside a) is (inside_none v.given v.actor r.more (state v) (r.own n) (r.part n))
  ]

pub every_epoch : EveryEpoch
every_epoch z v w = record {
  tick = ticks z v w;
  enter = enters z v w;
  leave = leaves z v w;
  entered = λ e n u i t. record {
    met = enter_met z v w e i t.goes.between t.goes.quiet t.goes.apart;
    inside = ap (λ m. m.core.inside w) (goes_one z v u (Enter w e) t.goes) ∙ enter_inside z v w e i t.goes.between t.goes.quiet t.goes.apart;
  };
  left = λ n u i t. record {
    met = leave_met z v w i t.goes.between t.goes.quiet t.goes.apart;
    inside = ap (λ m. m.core.inside w) (goes_one z v u (Leave w) t.goes) ∙ leave_inside z v w i t.goes.between t.goes.quiet t.goes.apart;
  };
  stays = inside_stays z v w;
  rises = rises z v w;
  epoch = λ names n u h. sym (heard_epoch (state u)) ∙ h.word;
  ripe = ripens z v w;
}
