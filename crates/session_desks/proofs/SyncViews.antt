-- What the rows show of the flushes of a sync, one after another.
use Rattle.std.proofs.Common.{◌≡◌, ◌≤◌, ◌<◌, ◌⊎◌, inl, inr, ◌==◌, ◌++◌, ℕ, suc, Bool, true, false, cond, List, [], ◌∷◌, length, refl, sym, ap, ◌∙◌, subst, arith, append-nil}
use Rattle.std.proofs.lemmas.Bool.{cases_eq}
use Rattle.std.proofs.lemmas.List.{append_assoc, length-append}
use Rattle.map_model.specs.Lists.{Has}
use Rattle.session_state.specs.core_state.Openings.{Opening}
use Rattle.session_state.specs.core_state.States as core
use Rattle.session_state.specs.core_state.States.{start}
use Rattle.session_state.specs.core_state.Events as happening
use Rattle.session_state.specs.core_state.Needs.{may}
use Rattle.session_state.specs.core_state.Steps.{AllMet, happens, state_after}
use Rattle.session_state.specs.core_state.Steps as steps
use Rattle.session_state.proofs.core_state.Runs.{run_more}
use Rattle.session_state.specs.core_calls.Fronts.{Done, front}
use Rattle.session_state.specs.core_calls.LogEvents.{AreFlushes}
use Rattle.lean_disk.specs.Story.{Crash, IsLawful, Story}
use Rattle.session_state.specs.core_disk.Versions.{EveryVersion}
use Rattle.session_state.specs.disk_image.Laws.{EverySealed}
use Rattle.session_state.specs.disk_slots.declared.master.Master.{Master}
use Rattle.session_state.specs.disk_runs.Stands.{Known}
use Rattle.session_state.specs.log_calls.Wholes.{EndsInRecord, flush_of}
use Rattle.session_state.specs.engine_calls.Parts.{behind_first}
use Rattle.session_state.proofs.engine_calls.MarkLemmas.{met_join}
use Rattle.session_state.specs.engine_trait.Areas.{Around}
use Rattle.session_state.specs.engine_trait.Logs.{Logs}
use Rattle.session_state.specs.row_opening.Openings.{EveryNeed, EveryReached, Opens}
use Rattle.session_state.specs.row_words.declared.event.Event.{Event}
use Rattle.session_state.specs.row_words.declared.event.Event.TheVariants as told
use Rattle.session_state.specs.row_words.declared.given.Given.{Given}
use Rattle.session_state.specs.row_words.Moments.{Moment, event_of, events_of}
use Rattle.session_state.specs.row_words.Openings.{opening}
use Rattle.session_state.specs.row_words.Sealed.{run, stepped}
use Rattle.session_state.specs.rows_trait.declared.view.View.{View}
use Rattle.session_state.specs.rows_trait.Views.{state}
use Rattle.session_state.specs.worker_log.Calls.{flushed_log}
use Rattle.session_state.specs.worker_log.Laws.{EveryKept, EveryPrefix}
use Rattle.session_state.specs.worker_log.Logs.{Log}
use Rattle.session_state.specs.Ties.{Behind}
use Rattle.session_state.specs.Staging.{KeepsLog}
use Rattle.session_state.specs.Syncs.{HasNoneBehind, flushed_of, flushes_of}
use Rattle.session_desks.specs.Runs.{Breaks, GoesFlushed, IsAt, memory_with}
use Rattle.session_desks.specs.Syncs.{FlushFails, Flushed, FlushedOne}
use Rattle.session_desks.proofs.FloorLemmas.{seen_more}
use Rattle.session_desks.proofs.SyncRuns.{around_more, around_none, breaks_join, flush_breaks, flush_goes, goes_join, goes_none, log_aside}

-- ## In a run

pub events_more : (es fs : List Event) → events_of (es ++ fs) ≡ events_of es ++ events_of fs
events_more [] fs = refl
events_more (e ∷ es) fs = ap (λ z. event_of e ∷ z) (events_more es fs)

-- the state behind the first events, as one of the run
pub front_is : (g : Opening) (xs : List Done) (first : List happening.Event) → state_after g (front xs ++ first) ≡ behind_first g xs first
front_is g xs first = run_more g (start g) (front xs) first

module _ (reached : EveryReached) (needs : EveryNeed) (g : Opening) (xs : List Done) (first : List happening.Event) (v : View) (b : Behind g xs first v) where
  -- the moment's core is the state behind these events
  pub core_is : (state v).core ≡ behind_first g xs first
  core_is = reached g v.given b.opens v.seen ∙ (ap (state_after g) b.seen ∙ run_more g (start g) (front xs) first)

  -- what may happen there may happen in the run
  pub may_is : (e : happening.Event) → may g (behind_first g xs first) e ≡ may (opening v.given) (state v).core e
  may_is e = ap (λ s. may g s e) (sym core_is) ∙ needs g v.given b.opens (state v).core e

  -- and so on, by events that the seat has seen next
  pub more : (es : List Event) (w : View) → w.given ≡ v.given → w.seen ≡ v.seen ++ es → AllMet g (behind_first g xs first) (events_of es) → Behind g xs (first ++ events_of es) w
  more es w given seen met = record {
    opens = subst (λ k. Opens g k) (sym given) b.opens;
    met = met_join g (state_after g (front xs)) first (events_of es) b.met met;
    seen = (λ i. events_of (given i).before ++ events_of (seen i))
        ∙ (ap (λ ys. events_of v.given.before ++ ys) (events_more v.seen es)
        ∙ (sym (append_assoc (events_of v.given.before) (events_of v.seen) (events_of es))
        ∙ (ap (λ ys. ys ++ events_of es) b.seen ∙ append_assoc (front xs) first (events_of es))));
  }

-- ## A flush, or none

are_one : (own n : ℕ) (b : Bool) → AreFlushes (cond b [] (happening.Event.Flush own n ∷ []))
are_one own n true = tt
are_one own n false = tt

few_one : (own n : ℕ) (b : Bool) → length (cond b [] (happening.Event.Flush own n ∷ [])) ≤ 1
few_one own n true = omega arith
few_one own n false = omega arith

met_one : (b : Bool) (g h : Opening) (s t : core.State) (e : happening.Event) → may h t e ≡ may g s e → AllMet g s (cond b [] (e ∷ [])) → AllMet h t (cond b [] (e ∷ []))
met_one true g h s t e q m = tt
met_one false g h s t e q m = (q ∙ m.0, tt)

logs_one : (own u n : ℕ) (g : Opening) (s : core.State) (x y : Log) (b : Bool) → (own ≡ u → y ≡ cond b x (flushed_log x)) → ((own ≡ u → ⊥) → y ≡ x) → Logs u g s (cond b [] (happening.Event.Flush own n ∷ [])) x y
logs_one own u n g s x y true same other = elim (cases_eq own u) [ inl q ↦ same q | inr q ↦ other q ]
logs_one own u n g s x y false same other = (y, record { own = same; other = other }, refl)

flushes_join : (a b : List happening.Event) → AreFlushes a → AreFlushes b → AreFlushes (a ++ b)
flushes_join [] b p q = q
flushes_join (happening.Event.Flush w n ∷ a) b p q = flushes_join a b p q
flushes_join (e ∷ a) b p q = absurd p

pub logs_join : (u : ℕ) (g : Opening) (s : core.State) (a b : List happening.Event) (was mid is : Log) → Logs u g s a was mid → Logs u g (steps.run g s a) b mid is → Logs u g s (a ++ b) was is
logs_join u g s [] b was mid is p q = subst (λ (l : Log). Logs u g s b l is) p q
logs_join u g s (e ∷ a) b was mid is p q = (p.0, p.1, logs_join u g (steps.step g s e) a b p.0 mid is p.2 q)

step_entries : (v : Given) (m : Moment) (own n : ℕ) → (stepped v m (told.Flush own n)).core.entries ≡ m.core.entries
unfolding stepped
step_entries v m own n = go (may (opening v) m.core (happening.Event.Flush own n))
  where
    go : (b : Bool) → (cond b (happens (opening v) m.core (happening.Event.Flush own n)) m.core).entries ≡ m.core.entries
    go true = refl
    go false = refl

entries_one : (v : Given) (m : Moment) (own n : ℕ) (b : Bool) → (run v m (cond b [] (told.Flush own n ∷ []))).core.entries ≡ m.core.entries
entries_one v m own n true = refl
entries_one v m own n false = step_entries v m own n

-- ## One log behind another

-- none yet
pub flushed_none : EveryKept → EveryPrefix → EverySealed → EveryVersion → (many : ℕ) (v : View) (was : ℕ → Log) (s : Story) → IsLawful s → Flushed 0 many v v was was s s
flushed_none keeps prefixes seals versions many v was s law = record {
  events = [];
  given = refl;
  seen = sym (append-nil v.seen);
  flushes = tt;
  few = omega arith;
  last = λ u some high. refl;
  flushed = λ u some high. absurd (omega arith);
  others = λ u low high. refl;
  after = λ u some high. absurd (omega arith);
  logs = λ u some high g s. refl;
  entries = refl;
  around = around_none many true s;
  behind = λ g xs first b. subst (λ ys. Behind g xs ys v) (sym (append-nil first)) b;
  goes = λ m g xs first s0 a at. record { goes = goes_none keeps prefixes seals versions many v (memory_with was m) s law g xs first s0 a at; synced = λ w some high. absurd (omega arith) };
}

module _ (reached : EveryReached) (needs : EveryNeed) (count own many : ℕ) (v u : View) (was mid : ℕ → Log) (old now new : Story) (f : Flushed count many v u was mid old now) (next : own ≡ suc count) (most : own ≤ many) (law : IsLawful old) (keeps : KeepsLog own (mid own) now new) where
  abbrev events : List happening.Event
  events = events_of f.events

  around_on : (g : Opening) → g.workers ≡ many → Around g.workers true old now
  around_on g e = subst (λ n. Around n true old now) (sym e) f.around

  around_new : Around many true old new
  around_new = around_more many (suc own) old now new f.around (λ a i e. log_aside many own a (omega arith) most i e) keeps.frame

  -- one more
  pub flushed_more : (w : View) (is : ℕ → Log) → EndsInRecord (state u).core own (mid own) → FlushedOne own many u w mid is now new → Flushed own many v w was is old new
  flushed_more w is ends x = record {
    events = f.events ++ flushes_of own (mid own);
    given = x.given ∙ f.given;
    seen = x.seen ∙ (ap (λ ys. ys ++ flushes_of own (mid own)) f.seen ∙ append_assoc v.seen f.events (flushes_of own (mid own)));
    flushes = subst AreFlushes (sym all) (flushes_join events (flush_of own (mid own)) f.flushes (are_one own (mid own).last ((mid own).last == (mid own).flushed)));
    few = let a = ap length all in let b = length-append events (flush_of own (mid own)) in let c = few_one own (mid own).last ((mid own).last == (mid own).flushed) in let d = f.few in omega arith;
    last = λ t some high. last_at t some high (cases_eq t own);
    flushed = λ t some high. flushed_at t some high (cases_eq t own);
    others = λ t low high. x.others t (omega arith) high (λ q. absurd (omega arith)) ∙ f.others t (omega arith) high;
    after = λ t some high. after_at t some high (cases_eq t own);
    logs = λ t some high g s. subst (λ ys. Logs t g s ys (was t) (is t)) (sym all) (logs_join t g s events (flush_of own (mid own)) (was t) (mid t) (is t) (f.logs t some high g s) (logs_at t some high g (steps.run g s events)));
    entries = ap (λ (m : Moment). m.core.entries) (seen_more u w (flushes_of own (mid own)) x.given x.seen) ∙ (entries_one u.given (state u) own (mid own).last ((mid own).last == (mid own).flushed) ∙ f.entries);
    around = around_new;
    behind = λ g xs first b. behind_at g xs first b;
    goes = λ m g xs first s0 a at. goes_at m g xs first s0 a at;
  }
    where
      all : events_of (f.events ++ flushes_of own (mid own)) ≡ events ++ flush_of own (mid own)
      all = events_more f.events (flushes_of own (mid own)) ∙ ap (λ ys. events ++ ys) x.core

      all_behind : (first : List happening.Event) → (first ++ events) ++ flush_of own (mid own) ≡ first ++ events_of (f.events ++ flushes_of own (mid own))
      all_behind first = append_assoc first events (flush_of own (mid own)) ∙ ap (λ ys. first ++ ys) (sym all)

      last_at : (t : ℕ) → 0 < t → t ≤ many → (t ≡ own) ⊎ (t ≡ own → ⊥) → (is t).last ≡ (was t).last
      last_at t some high (inl q) = subst (λ s. (is s).last ≡ (was s).last) (sym q) (x.last ∙ f.last own (omega arith) most)
      last_at t some high (inr n) = ap (λ (l : Log). l.last) (x.others t some high n) ∙ f.last t some high

      flushed_at : (t : ℕ) → 0 < t → t ≤ own → (t ≡ own) ⊎ (t ≡ own → ⊥) → (is t).flushed ≡ (is t).last
      flushed_at t some high (inl q) = subst (λ s. (is s).flushed ≡ (is s).last) (sym q) x.flushed
      flushed_at t some high (inr n) = subst (λ (l : Log). l.flushed ≡ l.last) (sym (x.others t some (omega arith) n)) (f.flushed t some (omega arith))

      after_at : (t : ℕ) → 0 < t → t ≤ own → (t ≡ own) ⊎ (t ≡ own → ⊥) → is t ≡ flushed_of (was t)
      after_at t some high (inl q) = subst (λ r. is r ≡ flushed_of (was r)) (sym q) (x.after ∙ ap flushed_of (f.others own (omega arith) most))
      after_at t some high (inr n) = x.others t some (omega arith) n ∙ f.after t some (omega arith)

      logs_at : (t : ℕ) → 0 < t → t ≤ many → (g : Opening) (s : core.State) → Logs t g s (flush_of own (mid own)) (mid t) (is t)
      logs_at t some high g s = logs_one own t (mid own).last g s (mid t) (is t) ((mid own).last == (mid own).flushed)
          (λ q. subst (λ r. is r ≡ cond ((mid own).last == (mid own).flushed) (mid r) (flushed_log (mid r))) q x.after) (λ n. x.others t some high (λ q. n (sym q)))

      behind_at : (g : Opening) (xs : List Done) (first : List happening.Event) → Behind g xs first v → Behind g xs (first ++ events_of (f.events ++ flushes_of own (mid own))) w
      behind_at g xs first b = let c = f.behind g xs first b in
          subst (λ ys. Behind g xs ys w) (ap (λ ys. (first ++ events) ++ ys) x.core ∙ all_behind first)
          (more reached needs g xs (first ++ events) u c (flushes_of own (mid own)) w x.given x.seen
          (subst (AllMet g (behind_first g xs (first ++ events))) (sym x.core) (met_one ((mid own).last == (mid own).flushed) (opening u.given) g (state u).core (behind_first g xs (first ++ events)) (happening.Event.Flush own (mid own).last)
          (may_is reached needs g xs (first ++ events) u c (happening.Event.Flush own (mid own).last)) x.met)))

      goes_at : (m : Master) (g : Opening) (xs : List Done) (first : List happening.Event) (s0 : Crash) (a : Known) → IsAt many v (memory_with was m) g xs first s0 a old → GoesFlushed own g xs first (events_of (f.events ++ flushes_of own (mid own))) s0 a (memory_with is m) old new
      goes_at m g xs first s0 a at =
          let c = f.goes m g xs first s0 a at in
          let y = flush_goes g xs (first ++ events) s0 c.goes.known (memory_with mid m) now new c.goes.moved.stands c.goes.is_of own (omega arith) (let e = at.many_is in let h = most in omega arith) keeps.on keeps.within count is c.synced next
          (subst (λ s. EndsInRecord s own (mid own)) (core_is reached needs g xs (first ++ events) u (f.behind g xs first at.behind) ∙ sym (front_is g xs (first ++ events))) ends) x.whole (λ t some high n. x.others t some (subst (λ c. t ≤ c) at.many_is high) n) in
          subst (λ ys. GoesFlushed own g xs first ys s0 a (memory_with is m) old new) (sym all)
          (record { goes = goes_join g xs first events s0 a (memory_with mid m) old now new law at.stands c.goes (around_on g at.many_is) (flush_of own (mid own)) (memory_with is m) y.goes; synced = y.synced })

  -- or a device failed there
  pub flush_fails : FlushFails many v was old new
  flush_fails = record {
    events = events;
    flushes = f.flushes;
    few = let a = f.few in let h = most in let q = next in omega arith;
    met = λ g xs first b. (f.behind g xs first b).met;
    around = around_new;
    leaves = λ m g xs first s0 a at.
        let c = (f.goes m g xs first s0 a at).goes in
        subst (λ ys. Breaks g xs first ys s0 a old new) (append-nil events)
        (breaks_join g xs first events s0 a (memory_with mid m) old now new law at.stands c (around_on g at.many_is) []
        (flush_breaks g xs (first ++ events) s0 c.known (memory_with mid m) now new c.moved.stands c.is_of own (omega arith) (let e = at.many_is in let h = most in omega arith) keeps.on keeps.within));
  }

-- ## The next log is as it was

module _ (count own many : ℕ) (v u : View) (was mid : ℕ → Log) (old now : Story) (f : Flushed count many v u was mid old now) (low : count < own) (high : own ≤ many) where
  pub ends_still : EndsInRecord (state v).core own (was own) → EndsInRecord (state u).core own (mid own)
  ends_still h = subst (λ l. EndsInRecord (state u).core own l) (sym (f.others own low high)) (λ n. let r = h n in (r.0, subst (λ es. Has r.0 es) (sym f.entries) r.1, r.2, r.3, r.4))

  pub none_still : HasNoneBehind (state v).core own (was own) → HasNoneBehind (state u).core own (mid own)
  none_still h = subst (λ l. HasNoneBehind (state u).core own l) (sym (f.others own low high)) (λ r has k o. h r (subst (λ es. Has r es) f.entries has) k o)
