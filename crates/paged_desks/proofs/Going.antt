-- What calls have done, one behind another.
use Rattle.std.proofs.Common.{◌≡◌, ◌∙◌, ◌≤◌, ◌<◌, ◌+◌, ◌*◌, ◌++◌, ◌||◌, ℕ, Bool, true, false, List, [], ◌∷◌, ap, refl, sym, subst, arith, append_assoc, if◌then◌else◌, true≢false}
use Rattle.std.proofs.lemmas.Bool.{or_parts}
use Rattle.std.proofs.lemmas.List.{append-nil, length-append}
use Rattle.desk_parts.specs.core_calls.Fronts.{Done}
use Rattle.desk_parts.proofs.core_calls.WhereLemmas.{syncs_more, syncs_none}
use Rattle.desk_parts.specs.core_calls.LogEvents.{SyncsWhere, is_log}
use Rattle.desk_parts.specs.core_state.Events as happening
use Rattle.desk_parts.specs.core_state.Local.{is_sync}
use Rattle.desk_parts.specs.core_state.Needs.{may}
use Rattle.desk_parts.specs.core_state.Openings.{Opening}
use Rattle.desk_parts.specs.core_state.States.{State}
use Rattle.desk_parts.specs.core_state.Steps as steps
use Rattle.desk_parts.specs.core_state.Steps.{AllMet, happens, step}
use Rattle.desk_parts.proofs.core_state.Runs.{run_more}
use Rattle.desk_parts.specs.engine_calls.Parts.{behind_first}
use Rattle.desk_parts.specs.engine_trait.Logs.{Logs, LogsOne}
use Rattle.lean_disk.specs.Story.{Story}
use Rattle.map_model.specs.Lists.{any}
use Rattle.desk_parts.specs.page_provider.Amounts.{EveryFew}
use Rattle.desk_parts.specs.page_provider.Moves.{AreMet, ArePagers, Moved, is_pagers}
use Rattle.desk_parts.specs.page_provider.Sequels.{EverySequel}
use Rattle.desk_parts.specs.row_opening.Openings.{EveryNeed, EveryReached, Opens}
use Rattle.desk_parts.specs.row_words.declared.event.Event.{Event}
use Rattle.desk_parts.specs.row_words.declared.event.Event.TheVariants as told
use Rattle.desk_parts.specs.row_words.declared.given.Given.{Given}
use Rattle.desk_parts.specs.row_words.Moments.{Moment, actor_of, event_of, events_of, pager}
use Rattle.desk_parts.specs.row_words.Openings.{opening}
use Rattle.desk_parts.specs.row_words.Sealed.{stepped}
use Rattle.desk_parts.specs.rows_trait.Views.{state}
use Rattle.desk_parts.specs.session_desks.Desks.{desk_of}
use Rattle.desk_parts.specs.session_desks.Parts.{here, logs, shape}
use Rattle.desk_parts.specs.session_desks.declared.desk.Desk.{Desk}
use Rattle.desk_parts.proofs.session_desks.SyncViews.{core_is, events_more, logs_join, more}
use Rattle.desk_parts.specs.session_state.Ties.{Behind}
use Rattle.desk_parts.specs.session_state.declared.session.Session.{Session}
use Rattle.desk_parts.specs.worker_log.Logs.{Log}
use Rattle.paged_desks.specs.Machines.{IsReady, view_of}
use Rattle.paged_desks.specs.Pages.{ArePaging, HasPagedWhere, IsKept, is_paging}
use Rattle.paged_desks.specs.Inside.{IsBeside}
use Rattle.paged_desks.specs.declared.machine.PagedMachine.{PagedMachine}
use Rattle.paged_desks.proofs.Moments.{seen_is, step_core}
use Rattle.paged_desks.proofs.Standing.{desk_is, logs_are}

-- ## Events of the pager

paging_one : (e : Event) → is_pagers e ≡ true → is_paging e ≡ true
paging_one (told.Flush w n) k = refl
paging_one (told.Sync n) k = refl
paging_one e k = k

paging_of : (es : List Event) → ArePagers es → ArePaging es
paging_of [] k = tt
paging_of (e ∷ es) k = (paging_one e k.0, paging_of es k.1)

pub paging_join : (a b : List Event) → ArePaging a → ArePaging b → ArePaging (a ++ b)
paging_join [] b p q = q
paging_join (e ∷ a) b p q = (p.0, paging_join a b p.1 q)

-- none of them is of a log
log_one : (e : Event) → is_pagers e ≡ true → (is_log (event_of e) ≡ false) × (is_sync (event_of e) ≡ false)
log_one (told.Load p f) k = (refl, refl)
log_one (told.Fetch p pairs) k = (refl, refl)
log_one (told.Cool p) k = (refl, refl)
log_one (told.Rescue p) k = (refl, refl)
log_one (told.Save p) k = (refl, refl)
log_one (told.Evict p) k = (refl, refl)
log_one told.Tick k = (refl, refl)
log_one (told.Miss w) k = (refl, refl)
log_one _ k = absurd (true≢false (sym k))

no_log : (es : List Event) → ArePagers es → any is_log (events_of es) ≡ false
no_log [] k = refl
no_log (e ∷ es) k = (λ i. (log_one e k.0).0 i || no_log es k.1 i)

-- and so each log is as it was
logs_one : (e : Event) → is_pagers e ≡ true → (w : ℕ) (g : Opening) (s : State) (l : Log) → LogsOne w g s (event_of e) l l
logs_one (told.Load p f) k w g s l = refl
logs_one (told.Fetch p pairs) k w g s l = refl
logs_one (told.Cool p) k w g s l = refl
logs_one (told.Rescue p) k w g s l = refl
logs_one (told.Save p) k w g s l = refl
logs_one (told.Evict p) k w g s l = refl
logs_one told.Tick k w g s l = refl
logs_one (told.Miss v) k w g s l = refl
logs_one _ k w g s l = absurd (true≢false (sym k))

logs_still : (es : List Event) → ArePagers es → (w : ℕ) (g : Opening) (s : State) (l : Log) → Logs w g s (events_of es) l l
logs_still [] k w g s l = refl
logs_still (e ∷ es) k w g s l = (l, logs_one e k.0 w g s l, logs_still es k.1 w g (step g s (event_of e)) l)

-- each is met
met_one : (v : Given) (m : Moment) (e : Event) → is_pagers e ≡ true → (actor_of e ≡ pager → may (opening v) m.core (event_of e) ≡ true) → may (opening v) m.core (event_of e) ≡ true
met_one v m (told.Load p f) k h = h refl
met_one v m (told.Fetch p pairs) k h = h refl
met_one v m (told.Cool p) k h = h refl
met_one v m (told.Rescue p) k h = h refl
met_one v m (told.Save p) k h = h refl
met_one v m (told.Evict p) k h = h refl
met_one v m told.Tick k h = h refl
met_one v m (told.Miss w) k h = refl
met_one v m _ k h = absurd (true≢false (sym k))

met_own : (v : Given) (m : Moment) (es : List Event) → ArePagers es → AreMet v m es → AllMet (opening v) m.core (events_of es)
met_own v m [] k a = tt
met_own v m (e ∷ es) k a = (met_one v m e k.0 a.0, subst (λ s. AllMet (opening v) s (events_of es)) (step_core v m e) (met_own v (stepped v m e) es k.1 a.1))

-- in the run too
module _ (needs : EveryNeed) (g : Opening) (v : Given) (o : Opens g v) where
  same_step : (s : State) (e : Event) → is_pagers e ≡ true → step (opening v) s (event_of e) ≡ step g s (event_of e)
  same_step s (told.Load p f) k = ap (λ b. if b then happens g s (happening.Event.Load p f) else s) (sym (needs g v o s (happening.Event.Load p f)))
  same_step s (told.Fetch p pairs) k = ap (λ b. if b then happens g s (event_of (told.Fetch p pairs)) else s) (sym (needs g v o s (event_of (told.Fetch p pairs))))
  same_step s (told.Cool p) k = ap (λ b. if b then happens g s (happening.Event.Cool p) else s) (sym (needs g v o s (happening.Event.Cool p)))
  same_step s (told.Rescue p) k = ap (λ b. if b then happens g s (happening.Event.Rescue p) else s) (sym (needs g v o s (happening.Event.Rescue p)))
  same_step s (told.Save p) k = ap (λ b. if b then happens g s (happening.Event.Save p) else s) (sym (needs g v o s (happening.Event.Save p)))
  same_step s (told.Evict p) k = ap (λ b. if b then happens g s (happening.Event.Evict p) else s) (sym (needs g v o s (happening.Event.Evict p)))
  same_step s told.Tick k = ap (λ b. if b then happens g s happening.Event.Tick else s) (sym (needs g v o s happening.Event.Tick))
  same_step s (told.Miss w) k = ap (λ b. if b then happens g s (happening.Event.Miss w) else s) (sym (needs g v o s (happening.Event.Miss w)))
  same_step s _ k = absurd (true≢false (sym k))

  met_too : (s : State) (es : List Event) → ArePagers es → AllMet (opening v) s (events_of es) → AllMet g s (events_of es)
  met_too s [] k a = tt
  met_too s (e ∷ es) k a = (needs g v o s (event_of e) ∙ a.0, subst (λ t. AllMet g t (events_of es)) (same_step s e k.0) (met_too (step (opening v) s (event_of e)) es k.1 a.1))

-- ## One call of the pager

module _ {D : Type 0} (story : D → Story) (P : Opening → State → Type 0) (m n : PagedMachine D) (reached : EveryReached) (needs : EveryNeed) (amounts : EveryFew) (seq : EverySequel) (ready : IsReady story m) (b : IsBeside m n) {most : ℕ}
    (moved : Moved most (shape m.machine) (view_of m) m.pager (view_of n) n.pager) where
  given : (view_of n).given ≡ (view_of m).given
  given = moved.goes.ran.given

  seen : (view_of n).seen ≡ (view_of m).seen ++ moved.events
  seen = seen_is seq refl ready.keeps moved

  met : AreMet (view_of m).given (state (view_of m)) moved.events
  met = subst (AreMet (view_of m).given (state (view_of m))) (moved.goes.ran.all refl) moved.met

  pub paged_by : HasPagedWhere P (3 * most) m n
  paged_by = record {
    events = moved.events;
    given = given;
    seen = seen;
    paging = paging_of moved.events moved.pagers;
    few = amounts most (shape m.machine) (view_of m) m.pager (view_of n) n.pager ready.keeps moved;
    same = (ap (λ (s : Session). s.workers) b.session, ap (λ (s : Session). s.group) b.session);
    turn = ap (λ (s : Session). s.own) b.session;
    sessions = λ w some high. subst (λ (d : Desk). IsKept (desk_of (here m.machine) m.machine.desks.items w).session d.session) (sym (desk_is b w)) (record { clock = omega arith; session = refl });
    logged = λ w some high g s. subst (λ (l : ℕ → Log). Logs w g s (events_of moved.events) (logs m.machine w) (l w)) (sym (logs_are b)) (logs_still moved.events moved.pagers w g s (logs m.machine w));
    master = λ _. b.master;
    behind = λ g xs first f.
        more reached needs g xs first (view_of m) f moved.events (view_of n) given seen
        (subst (λ s. AllMet g s (events_of moved.events)) (core_is reached needs g xs first (view_of m) f) (met_too needs g (view_of m).given f.opens (state (view_of m)).core moved.events moved.pagers (met_own (view_of m).given (state (view_of m)) moved.events moved.pagers met)));
    tight = λ g xs first f. syncs_none (P g) g (events_of moved.events) (behind_first g xs first) (no_log moved.events moved.pagers);
  }

  pub by_events : paged_by.events ≡ moved.events
  unfolding paged_by
  by_events = refl

-- ## One behind another

pub any_join : {A : Type 0} (p : A → Bool) (a b : List A) → any p (a ++ b) ≡ (any p a || any p b)
any_join p [] b = refl
any_join p (x ∷ a) b = ap (λ c. p x || c) (any_join p a b) ∙ or_assoc (p x) (any p a) (any p b)
  where
    or_assoc : (x y z : Bool) → (x || (y || z)) ≡ ((x || y) || z)
    or_assoc true y z = refl
    or_assoc false y z = refl

pub kept_then : {x y z : Session} → IsKept x y → IsKept y z → IsKept x z
kept_then {x = x} {y = y} {z = z} a b = record {
  clock = let p = a.clock in let q = b.clock in omega arith;
  session = b.session ∙ ap (λ (s : Session). record s { clock = record s.clock { clock = z.clock.clock }; free = z.free; unflushed = z.unflushed }) a.session;
}

module _ {D : Type 0} (P : Opening → State → Type 0) {p q r : PagedMachine D} {i j most : ℕ} (few : i + j ≤ most) (a : HasPagedWhere P i p q) (b : HasPagedWhere P j q r) where
  all : events_of (a.events ++ b.events) ≡ events_of a.events ++ events_of b.events
  all = events_more a.events b.events

  behind : (g : Opening) (xs : List Done) (first : List happening.Event) → Behind g xs first (view_of p) → Behind g xs (first ++ events_of (a.events ++ b.events)) (view_of r)
  behind g xs first f = subst (λ es. Behind g xs es (view_of r)) (append_assoc first (events_of a.events) (events_of b.events) ∙ ap (λ es. first ++ es) (sym all)) (b.behind g xs (first ++ events_of a.events) (a.behind g xs first f))

  tight : (g : Opening) (xs : List Done) (first : List happening.Event) → Behind g xs first (view_of p) → SyncsWhere (P g) g (behind_first g xs first) false (events_of (a.events ++ b.events))
  tight g xs first f = subst (SyncsWhere (P g) g (behind_first g xs first) false) (sym all)
      (syncs_more (P g) g (events_of a.events) (events_of b.events) (behind_first g xs first) false (a.tight g xs first f)
      (subst (λ s. SyncsWhere (P g) g s false (events_of b.events)) (run_more g (steps.state_after g (Rattle.desk_parts.specs.core_calls.Fronts.front xs)) first (events_of a.events)) (b.tight g xs (first ++ events_of a.events) (a.behind g xs first f))))

  logged : (w : ℕ) → 0 < w → w ≤ p.machine.work.session.workers → (g : Opening) (s : State) → Logs w g s (events_of (a.events ++ b.events)) (logs p.machine w) (logs r.machine w)
  logged w some high g s = subst (λ es. Logs w g s es (logs p.machine w) (logs r.machine w)) (sym all)
      (logs_join w g s (events_of a.events) (events_of b.events) (logs p.machine w) (logs q.machine w) (logs r.machine w) (a.logged w some high g s)
      (b.logged w some (subst (λ k. w ≤ k) (sym a.same.0) high) g (steps.run g s (events_of a.events))))

  pub paged_then : HasPagedWhere P most p r
  paged_then = record {
    events = a.events ++ b.events;
    given = b.given ∙ a.given;
    seen = b.seen ∙ (ap (λ es. es ++ b.events) a.seen ∙ append_assoc (view_of p).seen a.events b.events);
    paging = paging_join a.events b.events a.paging b.paging;
    few = let x = a.few in let y = b.few in let l = length-append a.events b.events in omega arith;
    same = (b.same.0 ∙ a.same.0, b.same.1 ∙ a.same.1);
    turn = b.turn ∙ a.turn;
    sessions = λ w some high. kept_then (a.sessions w some high) (b.sessions w some (subst (λ k. w ≤ k) (sym a.same.0) high));
    logged = logged;
    master = λ none. let n = or_parts (any is_sync (events_of a.events)) (any is_sync (events_of b.events)) (sym (ap (any is_sync) all ∙ any_join is_sync (events_of a.events) (events_of b.events)) ∙ none) in b.master n.1 ∙ a.master n.0;
    behind = behind;
    tight = tight;
  }

  pub then_events : paged_then.events ≡ a.events ++ b.events
  unfolding paged_then
  then_events = refl

-- by so many events at most, and more may be
pub paged_up : {D : Type 0} {P : Opening → State → Type 0} {i j : ℕ} {p q : PagedMachine D} → i ≤ j → HasPagedWhere P i p q → HasPagedWhere P j p q
paged_up few a = record {
  events = a.events;
  given = a.given;
  seen = a.seen;
  paging = a.paging;
  few = let x = a.few in omega arith;
  same = a.same;
  turn = a.turn;
  sessions = a.sessions;
  logged = a.logged;
  master = a.master;
  behind = a.behind;
  tight = a.tight;
}

pub up_events : {D : Type 0} {P : Opening → State → Type 0} {i j : ℕ} {p q : PagedMachine D} (few : i ≤ j) (a : HasPagedWhere P i p q) → (paged_up few a).events ≡ a.events
unfolding paged_up
up_events few a = refl

-- nothing was done
pub paged_none : {D : Type 0} (P : Opening → State → Type 0) (m : PagedMachine D) → HasPagedWhere P 0 m m
paged_none P m = record {
  events = [];
  given = refl;
  seen = sym (append-nil (view_of m).seen);
  paging = tt;
  few = omega arith;
  same = (refl, refl);
  turn = refl;
  sessions = λ w some high. record { clock = omega arith; session = refl };
  logged = λ w some high g s. refl;
  master = λ _. refl;
  behind = λ g xs first f. subst (λ es. Behind g xs es (view_of m)) (sym (append-nil first)) f;
  tight = λ g xs first f. tt;
}

pub none_events : {D : Type 0} (P : Opening → State → Type 0) (m : PagedMachine D) → (paged_none P m).events ≡ []
unfolding paged_none
none_events P m = refl
