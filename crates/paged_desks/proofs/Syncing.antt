-- A machine stands behind a sync.
use Rattle.std.proofs.Common.{◌≡◌, ◌∙◌, ◌≤◌, ◌<◌, ◌^◌, ◌++◌, ◌&&◌, inl, not, ℕ, Bool, true, false, List, [], ◌∷◌, length, map, ap, refl, sym, subst, arith, append_assoc, true≢false}
use Rattle.std.proofs.lemmas.Bool.{and_parts}
use Rattle.std.specs.Prelude.{IsTrue}
use Rattle.desk_parts.proofs.call_parts.MemoryLemmas.{every_memory}
use Rattle.desk_parts.specs.call_parts.Memory.{IsSame}
use Rattle.desk_parts.specs.call_parts.Parts.{Part}
use Rattle.desk_parts.specs.core_calls.Fronts.{Done}
use Rattle.desk_parts.specs.core_calls.LogEvents.{IsSync}
use Rattle.core_covers.specs.Lows.{EverySync, IsAllFlushed}
use Rattle.desk_parts.specs.core_state.Events as happening
use Rattle.rfa_model.specs.Reaches.{least}
use Rattle.desk_parts.specs.core_state.Needs.{is_empty_frame, may}
use Rattle.desk_parts.specs.core_state.Openings.{Opening}
use Rattle.desk_parts.specs.core_state.States.{State, epoch_of, in_frame, is_cooling, is_hot}
use Rattle.desk_parts.specs.core_state.Steps as steps
use Rattle.cooling_stage.specs.declared.stage.Cooling.{Cooling}
use Rattle.desk_parts.proofs.SyncLemmas.{sync_slots}
use Rattle.desk_parts.specs.Laws.{EverySyncPart}
use Rattle.desk_parts.specs.Syncs.{memory_with_slots}
use Rattle.desk_parts.specs.disk_slots.declared.master.Master.{Master}
use Rattle.desk_parts.specs.engine_trait.Logs.{Logs}
use Rattle.lean_disk.specs.Area.{Area}
use Rattle.lean_disk.specs.Story.{Story}
use Rattle.map_model.specs.Lists.{Has, all}
use Rattle.desk_parts.specs.page_calls.Mirrors.{HoldsLast}
use Rattle.page_pool.specs.Pools.{Agrees, IsEntry, Pool}
use Rattle.desk_parts.specs.page_provider.Providers.{IsKept, Keeps, Provider, pool}
use Rattle.paged_rows.specs.Paged.{IsFedIfFaithful, paged}
use Rattle.desk_parts.specs.row_opening.Openings.{EveryNeed, EveryReached}
use Rattle.desk_parts.specs.row_words.declared.event.Event.{Event}
use Rattle.desk_parts.specs.row_words.declared.event.Event.TheVariants as told
use Rattle.desk_parts.specs.row_words.declared.given.Given.{Given}
use Rattle.desk_parts.specs.row_words.Moments.{Moment, event_of, events_of}
use Rattle.desk_parts.specs.row_words.Openings.{opening}
use Rattle.desk_parts.specs.rows_trait.declared.view.View.{View}
use Rattle.desk_parts.specs.rows_trait.Views.{Shape, state}
use Rattle.desk_parts.specs.session_desks.Desks.{desk_of}
use Rattle.desk_parts.specs.session_desks.Parts.{HasLogs, HasTurned, IsSound, MakesSync, Works, here, logs, shape}
use Rattle.desk_parts.specs.session_desks.Parts as desks
use Rattle.desk_parts.specs.session_desks.Syncs.{Flushed, HasOpening, IsWritten}
use Rattle.desk_parts.specs.session_desks.declared.machine.Machine.{Machine}
use Rattle.desk_parts.proofs.session_desks.FloorLemmas.{seen_more}
use Rattle.desk_parts.proofs.session_desks.SyncViews.{events_more}
use Rattle.desk_parts.specs.session_state.Ties.{Behind}
use Rattle.desk_parts.specs.session_state.declared.session.Session.{Session}
use Rattle.desk_parts.specs.worker_log.Logs.{Log}
use Rattle.paged_desks.specs.Machines.{IsNobodyInside, IsReady, memory, pages}
use Rattle.desk_parts.specs.core_calls.LogEvents.{AreFlushes}
use Rattle.paged_desks.specs.Pages.{AreKept, ArePaging, is_paging}
use Rattle.paged_desks.specs.Pages as words
use Rattle.paged_desks.specs.Syncs.{IsMasterBehind, IsSynced}
use Rattle.paged_desks.specs.declared.machine.PagedMachine.{PagedMachine}
use Rattle.desk_parts.proofs.session_desks.SeatLemmas.{holds_of}
use Rattle.paged_desks.proofs.Moments.{IsFlushed, flushed_run, flushed_then, length_events, synced_step}

-- ## The pager

-- what it knows of pages
module _ (g : Opening) (s t : State) (r : IsFlushed s t) where
  entry_on : (x : Cooling) → IsEntry s x → IsEntry t x
  entry_on x e = record {
    frame = subst (λ (q : State). in_frame (q.place x.page) x.frame ≡ true) (sym r.is) e.frame;
    cooling = subst (λ (q : State). is_cooling (q.place x.page) ≡ true) (sym r.is) e.cooling;
    epoch = subst (λ (q : State). epoch_of (q.place x.page) ≡ x.epoch) (sym r.is) e.epoch;
  }

  pub agrees_on : (k : Pool) → Agrees g s k → Agrees g t k
  agrees_on k a = record {
    queue = subst (λ (q : State). map (λ (x : Cooling). x.page) k.queue ≡ q.queue) (sym r.is) a.queue;
    entries = λ x has. entry_on x (a.entries x has);
    empty = subst (λ (q : State). (f : ℕ) → Has f k.empty → (f < g.frames) × (is_empty_frame g q f ≡ true)) (sym r.is) a.empty;
    every = subst (λ (q : State). (f : ℕ) → f < g.frames → is_empty_frame g q f ≡ true → Has f k.empty) (sym r.is) a.every;
    once = a.once;
    free = subst (λ (q : State). (p : ℕ) → p < g.format.pages → k.free p ≡ (not (q.page p).node.live && not (is_hot (q.place p)))) (sym r.is) a.free;
  }

-- behind events that do nothing to pages it keeps what it has to
pub keeps_on : (z y : Shape) (v u : View) (k : Provider) → y.alone ≡ true → u.given ≡ v.given → y.sizes.frames ≡ k.frames → y.sizes.workers ≡ k.workers → IsFlushed (state v).core (state u).core → Keeps z v k → Keeps y u k
keeps_on z y v u k alone given frames workers r c = record {
  actor = ap (λ b. Rattle.desk_parts.specs.rows_trait.Views.may b u Rattle.desk_parts.specs.row_words.Moments.pager) alone;
  sound = subst Rattle.desk_parts.specs.btree_descent.Known.IsSound (sym given) c.sound;
  waiting = subst (λ (q : Given). (es : List Event) → Rattle.desk_parts.specs.core_paging.Paging.Waiting (Rattle.desk_parts.specs.rows_trait.Views.after_all q es).core) (sym given) c.waiting;
  sized = record { some = c.sized.some; shape = frames; given = ap (λ (q : Given). (opening q).frames) given ∙ c.sized.given };
  some = c.some;
  workers = (workers, ap (λ (q : Given). (opening q).workers) given ∙ c.workers.1);
  pages = c.pages ∙ sym (ap (λ (q : Given). (opening q).format.pages) given);
  agrees = subst (λ (q : Given). Agrees (opening q) (state u).core (pool k)) (sym given) (agrees_on (opening v.given) (state v).core (state u).core r (pool k) c.agrees);
  kept = subst (λ (q : Given × State). IsKept (opening q.0) q.1 k.kept) (λ i. (sym given i, sym r.is i)) c.kept;
  epoch = subst (λ (q : State). q.epoch ≤ 2 ^ 62) (sym r.is) c.epoch;
}

-- the slots hold what is saved, where the pages' area is as it was
pub fed_same : (z y : Shape) (v u : View) (k : Provider) (old new : Story) → IsFlushed (state v).core (state u).core → ((a : ℕ) → new.tells a ≡ old.tells a) → new.area 1 ≡ old.area 1 → u.given ≡ v.given → IsFedIfFaithful (paged z v k) old → IsFedIfFaithful (paged y u k) new
fed_same z y v u k old new r tells same given h faithful = let f = h (sym (ap (λ (q : Given). q.faithful) given) ∙ faithful) in record {
  tells = subst IsTrue (sym (tells 1)) f.tells;
  mirrored = record {
    mirrors = λ t p lt page holds.
        f.mirrored.mirrors f.tells p lt page (subst (λ (a : Area). HoldsLast k.slots k.generation p a.bytes page) same holds) ∙ sym (ap (λ (q : State). q.saved p) r.is);
    spans = λ t. subst (λ (a : Area). Rattle.desk_parts.specs.page_store.Saved.Reaches (length k.slots) a.bytes) (sym same) (f.mirrored.spans f.tells);
  };
}

-- ## Sessions

-- a session behind a sync, and behind a turn
kept_by : (x y w : Session) (n : ℕ) → x.clock.clock ≤ n → y ≡ record x { clock = record x.clock { clock = n }; free = y.free; unflushed = 0 } → w ≡ record y { free = w.free } → words.IsKept x w
kept_by x y w n low p q = record { clock = let c = ap (λ (s : Session). s.clock.clock) is in omega arith; session = is ∙ (λ i. record x { clock = record x.clock { clock = sym (ap (λ (s : Session). s.clock.clock) is) i }; free = w.free; unflushed = sym (ap (λ (s : Session). s.unflushed) is) i }) }
  where
    is : w ≡ record x { clock = record x.clock { clock = n }; free = w.free; unflushed = 0 }
    is = q ∙ ap (λ (s : Session). record s { free = w.free }) p

-- ## The machine

-- flushes and a sync are told so
abbrev is_of_logs : happening.Event → Bool
is_of_logs (happening.Event.Flush w n) = true
is_of_logs (happening.Event.Sync n) = true
is_of_logs _ = false

logs_paging : (e : Event) → is_of_logs (event_of e) ≡ true → is_paging e ≡ true
logs_paging (told.Flush w n) k = refl
logs_paging (told.Sync n) k = refl
logs_paging _ k = absurd (true≢false (sym k))

all_of_logs : (es : List Event) → all is_of_logs (events_of es) ≡ true → ArePaging es
all_of_logs [] k = tt
all_of_logs (e ∷ es) k = let p = and_parts (is_of_logs (event_of e)) (all is_of_logs (events_of es)) k in (logs_paging e p.0, all_of_logs es p.1)

sync_of_logs : (n : ℕ) (flushes : List happening.Event) → AreFlushes flushes → all is_of_logs (flushes ++ happening.Event.Sync n ∷ []) ≡ true
sync_of_logs n [] k = refl
sync_of_logs n (happening.Event.Flush w x ∷ es) k = sync_of_logs n es k
sync_of_logs n (e ∷ es) k = absurd k

sync_paging : (n : ℕ) (es : List Event) → IsSync n (events_of es) → ArePaging es
sync_paging n es s = all_of_logs es (ap (all is_of_logs) s.1 ∙ sync_of_logs n s.0 s.2)

-- all is flushed, by the opening's own count of workers
low_in : (g h : Opening) (s : State) → h.workers ≡ g.workers → IsAllFlushed g s → IsAllFlushed h s
low_in g h s e l = subst (λ n. (w : ℕ) → 0 < w → w ≤ n → (s.worker w).clock ≤ least s.flushed n) (sym e) l

module _ {D : Type 0} (story : D → Story) (reached : EveryReached) (needs : EveryNeed) (sync : EverySync) (m : PagedMachine D) (t u : Machine D) (number : ℕ) (ready : IsReady story m)
    (made : MakesSync story m.machine t number) (sessions : desks.IsSynced m.machine t number) (many : t.work.session.workers ≡ m.machine.work.session.workers) (group : t.work.session.group ≡ m.machine.work.session.group)
    (turned : HasTurned m.machine.work.session.own t u) (view : u.seat.view ≡ t.seat.view) (disk : u.work.disk ≡ t.work.disk) (master : u.master ≡ t.master) (grouped : u.work.session.group ≡ t.work.session.group) (law : EverySyncPart (story m.machine.work.disk) (story t.work.disk)) where
  abbrev n : PagedMachine D
  n = record { machine = u; pager = m.pager }

  abbrev v : View
  v = m.machine.seat.view

  abbrev w : View
  w = u.seat.view

  abbrev events : List Event
  events = made.whole.events

  given : w.given ≡ v.given
  given = ap (λ (x : View). x.given) view ∙ made.whole.given

  seen : w.seen ≡ v.seen ++ events
  seen = ap (λ (x : View). x.seen) view ∙ made.whole.seen

  between : IsFlushed (state v).core (state made.view).core
  between = subst (λ (x : Moment). IsFlushed (state v).core x.core) (sym (seen_more v made.view made.flushed.events made.flushed.given made.flushed.seen)) (flushed_run v.given (state v) made.flushed.events made.flushed.flushes)

  synced : IsFlushed (state made.view).core (state t.seat.view).core
  synced = subst (λ (x : Moment). IsFlushed (state made.view).core x.core) (sym (seen_more made.view t.seat.view (told.Sync number ∷ []) made.synced.given made.synced.seen)) (synced_step made.view.given (state made.view) number)

  rest : IsFlushed (state v).core (state w).core
  rest = subst (λ (x : View). IsFlushed (state v).core (state x).core) (sym view) (flushed_then between synced)

  turns : (a : ℕ) → a ≤ m.machine.work.session.workers → a ≤ t.work.session.workers
  turns a h = subst (λ k. a ≤ k) (sym many) h

  log_is : (a : ℕ) → 0 < a → a ≤ m.machine.work.session.workers → logs u a ≡ Rattle.desk_parts.specs.disk_runs.MasterLaws.raised (made.logs a) number
  log_is a some most = turned.log_of a some (turns a most) ∙ made.raised a some most

  kept : AreKept m.machine u
  kept a some most = let s = sessions a some most in kept_by (desk_of (here m.machine) m.machine.desks.items a).session (desk_of (here t) t.desks.items a).session (desk_of (here u) u.desks.items a).session number s.0 s.1 (turned.session_of a some (turns a most))

  logged : (a : ℕ) → 0 < a → a ≤ m.machine.work.session.workers → (g : Opening) (s : State) → Logs a g s (events_of events) (logs m.machine a) (logs u a)
  logged a some most g s = subst (λ (l : Log). Logs a g s (events_of events) (logs m.machine a) l) (sym (turned.log_of a some (turns a most))) (made.whole.logs a some most g s)

  after : (a : ℕ) → 0 < a → a ≤ m.machine.work.session.workers → logs u a ≡ Rattle.desk_parts.specs.disk_runs.MasterLaws.raised (Rattle.desk_parts.specs.session_state.Syncs.flushed_of (logs m.machine a)) number
  after a some most = turned.log_of a some (turns a most) ∙ made.whole.after a some most

  low : IsAllFlushed (opening w.given) (state w).core
  low =
      let x = ready.opens.opening in
      let o = subst (λ (q : Given). Rattle.desk_parts.specs.row_opening.Openings.Opens x q) (sym made.flushed.given) ready.opens.opens in
      let before = events_of made.view.given.before ++ events_of made.view.seen in
      let met = needs x made.view.given o (state made.view).core (happening.Event.Sync number) ∙ made.synced.met in
      let all = (sync x before).synced number (ap (λ s. may x s (happening.Event.Sync number)) (sym (reached x made.view.given o made.view.seen)) ∙ met) in
      let behind = subst (λ (q : Given). Rattle.desk_parts.specs.row_opening.Openings.Opens x q) (sym made.synced.given) o in
      let at = reached x t.seat.view.given behind t.seat.view.seen
      ∙ ap (steps.state_after x) ((λ i. events_of (made.synced.given i).before ++ events_of (made.synced.seen i)) ∙ (ap (λ es. events_of made.view.given.before ++ es) (events_more made.view.seen (told.Sync number ∷ []))
      ∙ sym (append_assoc (events_of made.view.given.before) (events_of made.view.seen) (happening.Event.Sync number ∷ [])))) in
      subst (λ (q : View). IsAllFlushed (opening q.given) (state q).core) (sym view)
      (low_in x (opening t.seat.view.given) (state t.seat.view).core (sym behind.workers) (subst (IsAllFlushed x) (sym at) all))

  behind : (g : Opening) (xs : List Done) (first : List happening.Event) → Behind g xs first v → Behind g xs (first ++ events_of events) w
  behind g xs first b = subst (λ (q : View). Behind g xs (first ++ events_of events) q) (sym view) (made.whole.behind g xs first b)

  -- what is in memory of the disk
  same_memory : IsSame m.machine.work.session.workers (memory_with_slots (desks.memory t) m.pager.slots) (memory n)
  same_memory = record { log = λ a some most. turned.log_of a some (turns a most); master = master; slots = refl }

  part : Part m.machine.work.session.workers events v w (memory m) (memory n) (story m.machine.work.disk) (story u.work.disk)
  part =
      let many = (holds_of (shape m.machine) v (here m.machine) m.machine.desks.items ready.sound.desks).rows.workers in
      let old = story m.machine.work.disk in
      let new = story t.work.disk in
      let p = (law m.machine.work.session.workers number v t.seat.view (desks.memory m.machine) (desks.memory t) m.pager.slots many).part made.whole in
      let q = (every_memory old new m.machine.work.session.workers v t.seat.view (memory m) (memory_with_slots (desks.memory t) m.pager.slots) (memory m) (memory n) many (record { log = λ a some most. refl; master = refl; slots = refl }) same_memory).part events p in
      subst (λ (x : View). Part m.machine.work.session.workers events v x (memory m) (memory n) old (story u.work.disk)) (sym view) (subst (λ d. Part m.machine.work.session.workers events v t.seat.view (memory m) (memory n) old (story d)) (sym disk) q)

  -- a flush leaves the last number of its log
  same_last : (a : ℕ) → 0 < a → a ≤ m.machine.work.session.workers → (made.logs a).last ≡ (logs m.machine a).last
  same_last a some most = made.flushed.last a some most

  master_behind : IsMasterBehind m.machine.work.session.workers number (logs m.machine) m.machine.master u.master
  master_behind = go made.written
    where
      within : (a : ℕ) → 0 < a → a ≤ m.machine.work.session.workers → (logs m.machine a).last ≤ number
      within a some most = subst (λ k. k ≤ number) (same_last a some most) (made.ready.within a some most)

      go : IsWritten story m.machine.work.session.workers number made.logs m.machine.master t.master made.between t.work.disk
          → IsMasterBehind m.machine.work.session.workers number (logs m.machine) m.machine.master u.master
      go (IsWritten.Still all same next) = record {
        within = within;
        still = λ _. master ∙ next;
        written = λ none. absurd (none (λ a some most. sym (same_last a some most) ∙ all a some most));
      }
      go (IsWritten.Wrote some on writes next) = record {
        within = within;
        still = λ all. absurd (some (λ a low most. same_last a low most ∙ all a low most));
        written = λ _. master ∙ next;
      }

  pub synced_is : IsSynced story m n number
  synced_is = record {
    events = events;
    given = given;
    seen = seen;
    paging = sync_paging number events made.whole.are;
    sync = made.whole.are;
    few = let a = made.whole.few in let b = length_events events in omega arith;
    pager = refl;
    same = (turned.workers ∙ many, grouped ∙ group);
    turn = turned.own;
    sessions = kept;
    logged = logged;
    after = after;
    master = master_behind;
    flushed = rest.flushed;
    floor = rest.floor;
    worker = rest.worker;
    rest = rest.is;
    part = part;
    low = low;
    behind = behind;
  }

  -- ## It is as between two calls

  tells_and_pages : ((a : ℕ) → (story t.work.disk).tells a ≡ (story m.machine.work.disk).tells a) × ((story t.work.disk).area 1 ≡ (story m.machine.work.disk).area 1)
  tells_and_pages = go made.written
    where
      f : Flushed m.machine.work.session.workers m.machine.work.session.workers v made.view (logs m.machine) made.logs (story m.machine.work.disk) (story made.between)
      f = made.flushed

      go : IsWritten story m.machine.work.session.workers number made.logs m.machine.master t.master made.between t.work.disk
          → ((a : ℕ) → (story t.work.disk).tells a ≡ (story m.machine.work.disk).tells a) × ((story t.work.disk).area 1 ≡ (story m.machine.work.disk).area 1)
      go (IsWritten.Still all same next) = ((λ a. ap (λ d. (story d).tells a) same ∙ f.around.tells a), ap (λ d. (story d).area 1) same ∙ f.around.aside 1 (inl refl))
      go (IsWritten.Wrote some on writes next) = ((λ a. writes.frame.tells a ∙ f.around.tells a), writes.frame.elsewhere 1 (λ e. absurd (omega arith)) ∙ f.around.aside 1 (inl refl))

  module _ (sound : IsSound u) (works : Works u) where
    abbrev own : ℕ
    own = u.work.session.own

    has_logs : HasLogs u
    has_logs a some most =
        let high = subst (λ k. a ≤ k) (turned.workers ∙ many) most in
        let d = sound.desks.each a some most in
        let is = log_is a some high in record {
          last = λ r has k o. (let b = (ready.logged a some high).last r (subst (λ (q : State). Has r q.entries) rest.is has) k o in let c = made.flushed.last a some high in let e = made.ready.within a some high in let l = ap (λ (l : Log). l.last) is in omega arith);
          ends = λ ne. absurd (ne (ap (λ (l : Log). l.last) is ∙ sym (ap (λ (l : Log). l.flushed) is)));
          flushed = ap (λ k. (state w).core.flushed k) (sym d.own) ∙ d.holds.flushed;
        }

    pub ready_synced : IsReady story n
    ready_synced =
        let d = sound.desks.each own (subst (λ k. 0 < k) (sym turned.own) low_own) (subst (λ k. own ≤ k) (sym turned.workers) (subst (λ k. k ≤ t.work.session.workers) (sym turned.own) (turns m.machine.work.session.own high_own))) in
        let rows = d.holds.rows in record {
          sound = sound;
          works = works;
          logged = has_logs;
          opens = subst HasOpening (sym given) ready.opens;
          keeps = keeps_on (shape m.machine) (shape u) v w m.pager refl given
              (let a = rows.tree.shape in let b = rows.tree.given in let c = ap (λ (q : Given). (opening q).frames) given in let e = ready.keeps.sized.given in omega arith)
              (let a = rows.sized in let b = rows.workers in let c = ap (λ (q : Given). (opening q).workers) given in let e = ready.keeps.workers.1 in omega arith) rest ready.keeps;
          well = ready.well;
          fed = subst (λ q. IsFedIfFaithful (pages n) (story q)) (sym disk) (fed_same (shape m.machine) (shape u) v w m.pager (story m.machine.work.disk) (story t.work.disk) rest tells_and_pages.0 tells_and_pages.1 given ready.fed);
          slots = (let h = sync_slots story m.machine.work.disk t.work.disk m.machine.work.session.workers number v t.seat.view (desks.memory m.machine) (desks.memory t) m.pager.slots m.pager made (record { slots = ready.slots.slots; generation = ready.slots.generation; count = ready.slots.count }) in record { slots = refl; generation = ap (λ (x : Master). x.generation) master ∙ h.generation; count = h.count ∙ sym (ap (λ (x : Master). x.pages) master) });
          frames = ready.frames;
          few = ready.few;
          outside = subst IsNobodyInside (sym rest.is) ready.outside;
        }
      where
        low_own : 0 < m.machine.work.session.own
        low_own = Rattle.desk_parts.proofs.session_desks.SeatLemmas.turn_low (shape m.machine) v (here m.machine) m.machine.desks.items ready.sound.desks

        high_own : m.machine.work.session.own ≤ m.machine.work.session.workers
        high_own = Rattle.desk_parts.proofs.session_desks.SeatLemmas.turn_high (shape m.machine) v (here m.machine) m.machine.desks.items ready.sound.desks
