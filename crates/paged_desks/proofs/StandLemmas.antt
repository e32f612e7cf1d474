-- A machine stands while the session whose turn it is begins, takes a row, or reads.
use Rattle.std.proofs.Common.{◌≡◌, ◌∙◌, ◌≤◌, ◌++◌, ◌^◌, ◌⊎◌, inl, inr, ℕ, zero, suc, Bool, true, false, cond, List, [], ◌∷◌, Global, Vec, get_or, ap, refl, sym, subst, true≢false}
use Rattle.std.proofs.lemmas.Bool.{cases_eq}
use Rattle.desk_parts.specs.core_paging.Paging.{Waiting}
use Rattle.desk_parts.specs.core_state.Events as happening
use Rattle.desk_parts.specs.core_state.Needs.{may}
use Rattle.desk_parts.specs.core_state.Openings.{Opening}
use Rattle.desk_parts.specs.core_state.States.{Row, State, Worker}
use Rattle.desk_parts.specs.core_state.Steps.{happens}
use Rattle.desk_parts.specs.btree_descent.Known.{IsSound as IsSoundTree}
use Rattle.desk_parts.specs.Pages.{HasSlots}
use Rattle.desk_parts.specs.disk_slots.declared.master.Master.{Master}
use Rattle.desk_parts.specs.image_model.Entries.{Entry, is_record}
use Rattle.lean_disk.specs.Story.{Story, Tells}
use Rattle.map_model.specs.Maps.{MapAnswer}
use Rattle.map_model.specs.Lists.{Has}
use Rattle.desk_parts.specs.page_calls.Mirrors.{Mirrors}
use Rattle.page_pool.specs.Pools.{Agrees, Pool}
use Rattle.desk_parts.specs.page_provider.Mirrored.{IsMirrored}
use Rattle.desk_parts.specs.page_provider.Providers.{IsKept, Keeps, Provider, pool}
use Rattle.desk_parts.specs.row_words.declared.event.Event.{Event}
use Rattle.desk_parts.specs.row_words.declared.event.Event.TheVariants as told
use Rattle.desk_parts.specs.row_words.declared.event.Met.TheVariants as met
use Rattle.desk_parts.specs.row_words.declared.given.Given.{Given}
use Rattle.desk_parts.specs.row_words.Moments.{Moment, event_of, mode_of}
use Rattle.desk_parts.specs.row_words.Openings.{opening}
use Rattle.desk_parts.specs.row_words.Sealed.{stepped}
use Rattle.desk_parts.specs.rows_trait.declared.view.View.{View}
use Rattle.desk_parts.specs.rows_trait.Views.{Shape, after_all, state}
use Rattle.desk_parts.specs.session_desks.Desks.{desk_of, log_of, place_of}
use Rattle.desk_parts.specs.session_desks.Machines.{AreLogged, IsMachine}
use Rattle.desk_parts.specs.session_desks.Parts.{IsSound, SeatFits, here, logs, shape}
use Rattle.desk_parts.specs.session_desks.Syncs.{HasOpening}
use Rattle.desk_parts.specs.session_desks.declared.desk.Desk.{Desk}
use Rattle.desk_parts.proofs.session_desks.DeskLemmas.{desk_apart, desk_own}
use Rattle.desk_parts.proofs.session_desks.FloorLemmas.{seen_more}
use Rattle.desk_parts.proofs.session_desks.MachineLemmas.{machine_behind}
use Rattle.desk_parts.proofs.session_state.Moments.{acts}
use Rattle.desk_parts.specs.session_state.Holds.{Holds, IsSameSession}
use Rattle.desk_parts.specs.session_state.Others.{EveryOther, Steps}
use Rattle.desk_parts.specs.worker_log.Logs.{Log}
use Rattle.paged_desks.specs.Machines.{IsNobodyInside, IsReady, memory, view_of}
use Rattle.paged_desks.specs.declared.machine.PagedMachine.{PagedMachine}
use Rattle.desk_parts.specs.call_parts.Memory.{Memory}
use Rattle.paged_desks.specs.Calls.{IsBeside}

-- ## What a begin, a row or a read changes

-- rows, workers, and entries that are no records: all else is as it was
pub record IsLooked (s t : State) : Type 0 where
  pub entries : List Entry
  pub row : ℕ → Row
  pub worker : ℕ → Worker
  pub is : t ≡ record s { entries = entries; row = row; worker = worker }
  pub more : (r : Entry) → Has r s.entries → Has r entries
  pub less : (r : Entry) → is_record r.kind ≡ true → Has r entries → Has r s.entries

-- what a session's work changes, where no page moves or has other words: rows, workers, entries, and how far logs are flushed
pub record IsBusy (s t : State) : Type 0 where
  pub entries : List Entry
  pub row : ℕ → Row
  pub worker : ℕ → Worker
  pub flushed : ℕ → ℕ
  pub is : t ≡ record s { entries = entries; row = row; worker = worker; flushed = flushed }

busy_of : (s t : State) → IsLooked s t → IsBusy s t
busy_of s t r = record { entries = r.entries; row = r.row; worker = r.worker; flushed = s.flushed; is = r.is }

looked_none : (s : State) → IsLooked s s
looked_none s = record { entries = s.entries; row = s.row; worker = s.worker; is = refl; more = λ r h. h; less = λ r k h. h }

-- nothing was seen
pub looked_same : (v w : View) → w.given ≡ v.given → w.seen ≡ v.seen → IsLooked (state v).core (state w).core
looked_same v w given seen = subst (λ (m : Moment). IsLooked (state v).core m.core) (λ i. after_all (sym given i) (sym seen i)) (looked_none (state v).core)

-- it takes a row, reads or walks, or begins
abbrev pub IsLook : Event → Type 0
IsLook (told.Begin w f) = Unit {0}
IsLook (told.Lock w i mode) = Unit {0}
IsLook (told.Read w p k a) = Unit {0}
IsLook (told.Next w p k a) = Unit {0}
IsLook _ = ⊥

looked_event : (g : Opening) (s : State) (e : Event) → IsLook e → IsLooked s (happens g s (event_of e))
looked_event g s (told.Begin w f) k = let t = happens g s (happening.Event.Begin w f) in record { entries = t.entries; row = t.row; worker = t.worker; is = refl; more = λ r h. h; less = λ r k h. h }
looked_event g s (told.Lock w i mode) k = let t = happens g s (happening.Event.Lock w i (mode_of mode)) in record { entries = t.entries; row = t.row; worker = t.worker; is = refl; more = λ r h. h; less = λ r k h. h }
looked_event g s (told.Read w p key a) k = let t = happens g s (happening.Event.Read w p key a) in record { entries = t.entries; row = t.row; worker = t.worker; is = refl; more = λ r h. inr h; less = less }
  where
    less : (r : Entry) → is_record r.kind ≡ true → Has r (happens g s (happening.Event.Read w p key a)).entries → Has r s.entries
    less r is (inl e) = absurd (true≢false (sym is ∙ ap (λ (q : Entry). is_record q.kind) e))
    less r is (inr h) = h
looked_event g s (told.Next w p key (met.Pair j x)) k = let t = happens g s (happening.Event.Next w p key (MapAnswer.Pair j x)) in record { entries = t.entries; row = t.row; worker = t.worker; is = refl; more = λ r h. inr h; less = less }
  where
    less : (r : Entry) → is_record r.kind ≡ true → Has r (happens g s (happening.Event.Next w p key (MapAnswer.Pair j x))).entries → Has r s.entries
    less r is (inl e) = absurd (true≢false (sym is ∙ ap (λ (q : Entry). is_record q.kind) e))
    less r is (inr h) = h
looked_event g s (told.Next w p key (met.Gap high)) k = let t = happens g s (happening.Event.Next w p key (MapAnswer.Gap high)) in record { entries = t.entries; row = t.row; worker = t.worker; is = refl; more = λ r h. h; less = λ r k h. h }
looked_event g s _ k = absurd k

step_core : (v : Given) (m : Moment) (e : Event) → (stepped v m e).core ≡ cond (may (opening v) m.core (event_of e)) (happens (opening v) m.core (event_of e)) m.core
unfolding stepped
step_core v m e = refl

-- it was seen next
pub looked_one : (v w : View) (e : Event) → IsLook e → w.given ≡ v.given → w.seen ≡ v.seen ++ e ∷ [] → IsLooked (state v).core (state w).core
looked_one v w e k given seen = subst (λ (m : Moment). IsLooked (state v).core m.core) (sym (seen_more v w (e ∷ []) given seen)) (subst (IsLooked (state v).core) (sym (step_core v.given (state v) e)) (go (may (opening v.given) (state v).core (event_of e))))
  where
    go : (b : Bool) → IsLooked (state v).core (cond b (happens (opening v.given) (state v).core (event_of e)) (state v).core)
    go true = looked_event (opening v.given) (state v).core e k
    go false = looked_none (state v).core

-- ## What stays so

module _ (z : Shape) (v w : View) (given : w.given ≡ v.given) (alone : z.alone ≡ true) (r : IsBusy (state v).core (state w).core) where
  agrees_on : (k : Pool) → Agrees (opening v.given) (state v).core k → Agrees (opening w.given) (state w).core k
  agrees_on k a = subst (λ (q : Given × State). Agrees (opening q.0) q.1 k) (λ i. (sym given i, sym r.is i)) (record {
    queue = a.queue;
    entries = λ x h. let e = a.entries x h in record { frame = e.frame; cooling = e.cooling; epoch = e.epoch };
    empty = a.empty;
    every = a.every;
    once = a.once;
    free = a.free;
  })

  pub keeps_on : (k : Provider) → Keeps z v k → Keeps z w k
  keeps_on k h = record {
    actor = acts z w _ alone;
    sound = subst IsSoundTree (sym given) h.sound;
    waiting = subst (λ (q : Given). (es : List Event) → Waiting (after_all q es).core) (sym given) h.waiting;
    sized = record { some = h.sized.some; shape = h.sized.shape; given = ap (λ (q : Given). (opening q).frames) given ∙ h.sized.given };
    some = h.some;
    workers = (h.workers.0, ap (λ (q : Given). (opening q).workers) given ∙ h.workers.1);
    pages = h.pages ∙ ap (λ (q : Given). (opening q).format.pages) (sym given);
    agrees = agrees_on (pool k) h.agrees;
    kept = subst (λ (q : Given × State). IsKept (opening q.0) q.1 k.kept) (λ i. (sym given i, sym r.is i)) h.kept;
    epoch = subst (λ (t : State). t.epoch ≤ 2 ^ 62) (sym r.is) h.epoch;
  }

  pub mirrored_on : (k : Provider) (s : Story) → IsMirrored v k s → IsMirrored w k s
  mirrored_on k s h = record { mirrors = subst (λ (t : State). Mirrors k.slots k.generation t.saved s) (sym r.is) h.mirrors; spans = h.spans }

  pub outside_on : IsNobodyInside (state v).core → IsNobodyInside (state w).core
  outside_on o = subst IsNobodyInside (sym r.is) o

pub logged_on : (v w : View) → IsLooked (state v).core (state w).core → (log : ℕ → Log) (many : ℕ) → AreLogged (state v).core log many → AreLogged (state w).core log many
logged_on v w r log many are = subst (λ (t : State). AreLogged t log many) (sym r.is) (λ n low high. let l = are n low high in record {
  last = λ e h k q. l.last e (r.less e k h) k q;
  ends = λ unflushed. let x = l.ends unflushed in (x.0, r.more x.0 x.1, x.2, x.3, x.4);
  flushed = l.flushed;
})

-- ## Desks

-- where a desk is looked for that is not there, it is the store's
get_by : {A : Type 0} (f : Desk → A) (xs : List Desk) (i : ℕ) (a b : Desk) → f a ≡ f b → f (get_or xs i a) ≡ f (get_or xs i b)
get_by f [] i a b e = e
get_by f (x ∷ xs) zero a b e = refl
get_by f (x ∷ xs) (suc i) a b e = get_by f xs i a b e

-- what is the same of the session in the store is so of each
pub same_by : {A : Type 0} (f : Desk → A) (x y : Desk) (desks : List Desk) → y.session.own ≡ x.session.own → f y ≡ f x → (w : ℕ) → f (desk_of y desks w) ≡ f (desk_of x desks w)
same_by {A = A} f x y desks own same w = go (cases_eq w x.session.own)
  where
    go : (w ≡ x.session.own) ⊎ (w ≡ x.session.own → ⊥) → f (desk_of y desks w) ≡ f (desk_of x desks w)
    go (inl e) = ap f (desk_own y desks w (e ∙ sym own)) ∙ (same ∙ sym (ap f (desk_own x desks w e)))
    go (inr n) = ap f (desk_apart y desks w (λ q. n (q ∙ own))) ∙ (ap (λ (k : ℕ). f (get_or desks (place_of k w) y)) own ∙ (get_by f desks (place_of x.session.own w) y x same ∙ sym (ap f (desk_apart x desks w n))))

-- ## A machine

module _ {D : Type 0} (story : D → Story) (m n : PagedMachine D) (b : IsBeside m n) where
  items : n.machine.desks.items ≡ m.machine.desks.items
  items = ap (λ (d : Vec Desk Global). d.items) b.desks

  pub logs_is : n.machine.work.session.own ≡ m.machine.work.session.own → logs n.machine ≡ logs m.machine
  logs_is own = (λ i. log_of (here n.machine) (items i)) ∙ (λ i w. same_by (λ (d : Desk). d.log) (here m.machine) (here n.machine) m.machine.desks.items own b.log w i)

  -- the same is in memory of the disk
  pub memory_is : n.machine.work.session.own ≡ m.machine.work.session.own → memory n ≡ memory m
  memory_is own i = record { log = logs_is own i; master = b.master i; slots = (b.pager i).slots }

  -- the same aborts are half done
  pub halves_are : n.machine.work.session.own ≡ m.machine.work.session.own → n.machine.work.session.is_half_aborted ≡ m.machine.work.session.is_half_aborted
      → (w : ℕ) → (desk_of (here n.machine) n.machine.desks.items w).session.is_half_aborted ≡ (desk_of (here m.machine) m.machine.desks.items w).session.is_half_aborted
  halves_are own half w = (λ i. (desk_of (here n.machine) (items i) w).session.is_half_aborted) ∙ same_by (λ (d : Desk). d.session.is_half_aborted) (here m.machine) (here n.machine) m.machine.desks.items own half w

  pub story_is : story n.machine.work.disk ≡ story m.machine.work.disk
  story_is = ap story b.disk

  module _ (ready : IsReady story m) (law : EveryOther) (given : (view_of n).given ≡ (view_of m).given) (r : IsLooked (state (view_of m)).core (state (view_of n)).core) (fits : SeatFits n.machine) (works : n.machine.work.session.works ≡ true) (same : IsSameSession m.machine.work.session n.machine.work.session)
      (steps : Steps m.machine.work.session.own (view_of m) (view_of n)) (holds : Holds (shape n.machine) (view_of n) n.machine.work.session n.machine.work.log) where
    busy : IsBusy (state (view_of m)).core (state (view_of n)).core
    busy = busy_of (state (view_of m)).core (state (view_of n)).core r

    alone : (shape m.machine).alone ≡ true
    alone = subst (λ (z : Shape). z.alone ≡ true) b.shape holds.alone

    sound : IsSound n.machine
    sound = subst (λ (k : Master). IsMachine n.machine.rows.frames n.machine.rows.locks n.machine.rows.workers n.machine.rows.words.items n.machine.seat.view (here n.machine) n.machine.desks.items n.machine.latches k) (sym b.master)
        (subst (λ (ds : List Desk). IsMachine n.machine.rows.frames n.machine.rows.locks n.machine.rows.workers n.machine.rows.words.items n.machine.seat.view (here n.machine) ds n.machine.latches m.machine.master) (sym items)
        (machine_behind law m.machine.rows.frames m.machine.rows.locks m.machine.rows.workers n.machine.rows.frames n.machine.rows.locks n.machine.rows.workers m.machine.rows.words.items n.machine.rows.words.items m.machine.seat.view n.machine.seat.view (here m.machine) (here n.machine) m.machine.desks.items
        m.machine.latches n.machine.latches m.machine.master ready.sound b.shape fits works same steps holds b.latches))

    pub ready_on : IsReady story n
    ready_on = record {
      sound = sound;
      works = works;
      logged = subst (λ (q : (ℕ → Log) × ℕ). AreLogged (state (view_of n)).core q.0 q.1) (λ i. (sym (logs_is same.0) i, sym same.1 i))
          (logged_on (view_of m) (view_of n) r (logs m.machine) m.machine.work.session.workers ready.logged);
      opens = subst HasOpening (sym given) ready.opens;
      keeps = subst (λ (q : Shape × Provider). Keeps q.0 (view_of n) q.1) (λ i. (sym b.shape i, sym b.pager i)) (keeps_on (shape m.machine) (view_of m) (view_of n) given alone busy m.pager ready.keeps);
      well = ap (λ (k : Provider). k.broken) b.pager ∙ ready.well;
      fed = λ faithful. let f = ready.fed (ap (λ (q : Given). q.faithful) (sym given) ∙ faithful) in record {
        tells = subst (λ (d : D). Tells (story d) 1) (sym b.disk) f.tells;
        mirrored = subst (λ (q : D × Provider). IsMirrored (view_of n) q.1 (story q.0)) (λ i. (sym b.disk i, sym b.pager i)) (mirrored_on (shape m.machine) (view_of m) (view_of n) given alone busy m.pager (story m.machine.work.disk) f.mirrored);
      };
      slots = subst (λ (q : Memory × Provider). HasSlots q.0 q.1) (λ i. (sym (memory_is same.0) i, sym b.pager i)) ready.slots;
      frames = subst (λ (k : Provider). 32 ≤ k.frames) (sym b.pager) ready.frames;
      few = subst (λ (k : Provider). k.frames ≤ 2 ^ 16) (sym b.pager) ready.few;
      outside = outside_on (shape m.machine) (view_of m) (view_of n) given alone busy ready.outside;
    }
