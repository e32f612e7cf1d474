-- The end of an abort in a run: which outcome it is.
use Rattle.std.proofs.Common.{◌≡◌, ◌∙◌, ◌≤◌, ◌<◌, ◌^◌, ◌++◌, ℕ, suc, Bool, true, false, cond, List, [], ◌∷◌, length, Some, None, ap, refl, sym, subst, arith, true≢false}
use Rattle.std.proofs.lemmas.List.{length-append}
use Rattle.map_model.specs.Lists.{all, any}
use Rattle.map_model.specs.declared.call.Answer.TheVariants as answer
use Rattle.map_model.specs.declared.call.Call.{Call}
use Rattle.map_model.specs.declared.call.Call.TheVariants as call
use Rattle.map_model.specs.declared.call.Refusal.TheVariants as refusal
use Rattle.rfa_model.specs.Reaches.{least}
use Rattle.rfa_model.specs.Stamps.{need_of}
use Rattle.paged_desks.specs.core_calls.Fronts.{Done, front, outcomes}
use Rattle.paged_desks.specs.core_calls.Runs.{Tells}
use Rattle.paged_desks.specs.core_calls.Steps.{is_structure}
use Rattle.paged_desks.specs.core_state.Events as happening
use Rattle.paged_desks.specs.core_state.Needs.{holds_row}
use Rattle.paged_desks.specs.core_state.Openings.{Opening}
use Rattle.paged_desks.specs.core_state.States.{State}
use Rattle.paged_desks.specs.core_state.Steps.{AllMet, state_after}
use Rattle.paged_desks.specs.disk_image.Records.{entry_of}
use Rattle.paged_desks.specs.disk_runs.Quiet.{is_quiet}
use Rattle.paged_desks.proofs.engine_calls.MarkLemmas.{any_append}
use Rattle.paged_desks.proofs.engine_calls.MoveLemmas.{every_move}
use Rattle.paged_desks.proofs.engine_calls.UnlockLemmas.{unlocks_quiet}
use Rattle.paged_desks.specs.engine_calls.Aborts.{IsAbort, aborted_by}
use Rattle.paged_desks.specs.engine_calls.Answers.{EveryAnswer}
use Rattle.paged_desks.specs.engine_calls.Clauses.{EveryComing}
use Rattle.paged_desks.specs.engine_calls.Commits.{unlocks}
use Rattle.paged_desks.specs.engine_calls.Entries.{EveryEntry, abort_record}
use Rattle.paged_desks.specs.engine_calls.Parts.{behind_first}
use Rattle.paged_desks.specs.engine_trait.Calls.{is_half_done}
use Rattle.paged_desks.specs.engine_trait.Limits.{limits}
use Rattle.paged_desks.specs.engine_trait.Refusals.{refusal_in}
use Rattle.lean_disk.specs.Story.{IsLawful, Story}
use Rattle.paged_desks.specs.log_record.declared.record.Body.TheVariants as body
use Rattle.paged_desks.specs.log_record.declared.record.Record.{Record}
use Rattle.paged_desks.specs.page_pool.Counts.{EveryFrame}
use Rattle.row_ends.proofs.LatchLemmas.{gives_events}
use Rattle.row_ends.specs.Ends.{ended_session, gives}
use Rattle.row_ends.specs.Outcomes.{HasEnded, end_record}
use Rattle.row_ends.specs.declared.ending.Ended as replies
use Rattle.paged_desks.specs.row_words.declared.event.Event.{Event}
use Rattle.paged_desks.specs.row_words.declared.event.Event.TheVariants as told
use Rattle.paged_desks.specs.row_words.Moments.{events_of}
use Rattle.paged_desks.specs.row_words.Openings.{opening}
use Rattle.paged_desks.specs.rows_trait.Views.{state}
use Rattle.paged_desks.proofs.session_desks.DeskLemmas.{desk_own}
use Rattle.paged_desks.proofs.session_desks.SeatLemmas.{holds_of, turn_high, turn_low}
use Rattle.paged_desks.specs.session_desks.Desks.{desk_of}
use Rattle.paged_desks.specs.session_desks.Parts.{here, shape}
use Rattle.paged_desks.specs.session_desks.declared.desk.Desk.{Desk}
use Rattle.paged_desks.proofs.session_state.Moments.{events_more}
use Rattle.paged_desks.specs.session_state.Holds.{Holds, IsOf, IsSameSession}
use Rattle.paged_desks.specs.session_state.Ties.{Behind}
use Rattle.paged_desks.specs.session_state.declared.session.Session.{Session}
use Rattle.paged_desks.specs.worker_log.Logs.{Log}
use Rattle.paged_desks.proofs.call_parts.EndLemmas.{most_least}
use Rattle.paged_desks.proofs.call_parts.JoinLemmas.{every_join}
use Rattle.paged_desks.proofs.call_parts.MemoryLemmas.{every_memory}
use Rattle.paged_desks.proofs.call_parts.OwnLemmas.{every_own}
use Rattle.paged_desks.proofs.call_parts.RunLemmas.{behind_more, core_is}
use Rattle.paged_desks.proofs.call_parts.SightLemmas.{every_enter, every_sight}
use Rattle.paged_desks.proofs.call_parts.StepLemmas.{every_step}
use Rattle.paged_desks.specs.call_parts.Deeds.{Answers}
use Rattle.paged_desks.specs.call_parts.Rooms.{ChangesTree}
use Rattle.paged_desks.specs.call_parts.Memory.{Memory, with_own}
use Rattle.paged_desks.specs.call_parts.Parts.{Part}
use Rattle.paged_desks.specs.call_parts.Steps.{SeesBetween, Stages}
use Rattle.paged_desks.proofs.AsideLemmas.{memory_aside, other_desk}
use Rattle.paged_desks.proofs.EndingLemmas.{Grounds, does_tied, grows_none, half_own}
use Rattle.paged_desks.specs.Calls.{AreHalf, DoesTied, IsAside, Tied}
use Rattle.paged_desks.specs.Machines.{IsReady, memory, view_of}
use Rattle.paged_desks.specs.declared.machine.PagedMachine.{PagedMachine}
use Rattle.paged_aborts.specs.Aborts.{MayAbort}
use Rattle.paged_aborts.specs.Backs.{HasUndone}
use Rattle.paged_aborts.proofs.AbortEvents.{Backs}
use Rattle.paged_aborts.proofs.AbortRuns as runs
use Rattle.paged_aborts.proofs.BackEvents.{length_events}
use Rattle.map_model.specs.declared.call.Refusal.{Refusal}

length_unlocks : (own : ℕ) (rows : List ℕ) → length (unlocks own rows) ≡ length rows
length_unlocks own [] = refl
length_unlocks own (i ∷ rows) = ap suc (length_unlocks own rows)

unlocks_none : (own : ℕ) (rows : List ℕ) → any is_structure (unlocks own rows) ≡ false
unlocks_none own [] = refl
unlocks_none own (i ∷ rows) = unlocks_none own rows

-- ## The end, as a part

module _ (l : Grounds) (entries : EveryEntry) {D : Type 0} (story : D → Story) (lawful : (d : D) → IsLawful (story d)) (k n : PagedMachine D) (ready : IsReady story k) (a : IsAside k n) (same : IsSameSession k.machine.work.session n.machine.work.session)
    (reply : replies.Ended) (e : HasEnded reply false (view_of k) (view_of n) k.machine.work.session k.machine.work.log n.machine.work.log (story k.machine.work.disk) (story n.machine.work.disk)) where
  abbrev y : Session
  y = k.machine.work.session

  abbrev own : ℕ
  own = y.own

  abbrev old : Story
  old = story k.machine.work.disk

  abbrev new : Story
  new = story n.machine.work.disk

  held : Holds (shape k.machine) (view_of k) y k.machine.work.log
  held = holds_of (shape k.machine) (view_of k) (here k.machine) k.machine.desks.items ready.sound.desks

  low : 0 < own
  low = turn_low (shape k.machine) (view_of k) (here k.machine) k.machine.desks.items ready.sound.desks

  high : own ≤ y.workers
  high = turn_high (shape k.machine) (view_of k) (here k.machine) k.machine.desks.items ready.sound.desks

  log_is : (memory k).log own ≡ k.machine.work.log
  log_is = ap (λ (d : Desk). d.log) (desk_own (here k.machine) k.machine.desks.items own refl)

  abbrev end_event : Event
  end_event = told.End own false e.floor

  abbrev later : List Event
  later = gives own e.ended.rows

  -- as the core has them
  pub events_are : events_of (end_event ∷ later) ≡ happening.Event.End own false e.floor ∷ unlocks own e.ended.rows
  events_are = ap (λ ys. happening.Event.End own false e.floor ∷ ys) (gives_events own e.ended.rows)

  between : SeesBetween (end_event ∷ []) later (view_of k) (view_of n)
  between = (every_sight (end_event ∷ []) later (view_of k) (view_of n) (view_of n)).split (record { given = e.ended.given; seen = e.ended.seen; met = subst (AllMet (opening (view_of k).given) (state (view_of k)).core) (sym events_are) e.ended.met })

  record_is : end_record false y e.floor ≡ abort_record ((state (view_of k)).core.worker own) e.floor
  record_is = λ i. record { txn = sym held.session.txn i; gsn = suc (sym held.session.clock i); body = body.Abort (need_of (sym held.session.debt i) e.floor) }

  abbrev ended : Memory
  ended = with_own own n.machine.work.log (memory k)

  staged : Part y.workers (end_event ∷ []) (view_of k) between.between (memory k) ended old new
  staged = (every_own l.reached l.needs old new y.workers own (view_of k) between.between (memory k) n.machine.work.log low high held.rows.workers).stage end_event
      (subst (λ (q : Log). Stages own end_event (view_of k) between.between q n.machine.work.log old new) (sym log_is) (record {
        sees = between.before;
        entry = end_record false y e.floor;
        enters = (every_enter entries own (view_of k)).abort e.floor (end_record false y e.floor) record_is;
        after = e.after;
        stands = e.stands;
        keeps = e.keeps;
      }))

  quiet : all is_quiet (events_of later) ≡ true
  quiet = subst (λ ys. all is_quiet ys ≡ true) (sym (gives_events own e.ended.rows)) (unlocks_quiet own e.ended.rows)

  given_back : Part y.workers later between.between (view_of n) ended ended new new
  given_back = (every_step l.reached l.needs l.versions l.kept l.prefixes l.seals new new (lawful n.machine.work.disk) y.workers between.between (view_of n) ended).rest later between.behind quiet

  -- the end, and the rows that are given back
  pub end_part : Part y.workers (end_event ∷ later) (view_of k) (view_of n) (memory k) (memory n) old new
  end_part = (every_memory old new y.workers (view_of k) (view_of n) (memory k) ended (memory k) (memory n) held.rows.workers (record { log = λ w lo hi. refl; master = refl; slots = refl }) (memory_aside story k n a same ready)).part (end_event ∷ later)
      ((every_join old new new (lawful k.machine.work.disk) (every_move l.kept l.prefixes l.seals l.versions old new new) y.workers (end_event ∷ []) (view_of k) between.between (view_of n) (memory k) ended ended).join later staged given_back)

-- ## In a run

module _ (l : Grounds) (answers : EveryAnswer) (coming : EveryComing) (entries : EveryEntry) (frames : EveryFrame) {D : Type 0} (story : D → Story) (lawful : (d : D) → IsLawful (story d)) (m : PagedMachine D) (ready : IsReady story m) (opened : m.machine.work.session.is_open ≡ true) (c : Call) (g : Opening) (xs : List Done) (many : g.workers ≡ m.machine.work.session.workers)
    (tied : Tied g m.machine.work.session.group xs (view_of m) (memory m)) (halves : AreHalf g.workers xs m.machine) (due : MayAbort m.machine.work.session.own m.machine.work.session.is_open c g xs)
    (most : ℕ) (le : most ≤ 2 ^ 15) (k n : PagedMachine D) (u : HasUndone story most m k) (ready_k : IsReady story k) (a : IsAside k n) (same : IsSameSession k.machine.work.session n.machine.work.session) (ready_n : IsReady story n)
    (reply : replies.Ended) (e : HasEnded reply false (view_of k) (view_of n) k.machine.work.session k.machine.work.log n.machine.work.log (story k.machine.work.disk) (story n.machine.work.disk)) where
  abbrev x : Session
  x = m.machine.work.session

  abbrev z : Session
  z = k.machine.work.session

  abbrev mine : ℕ
  mine = x.own

  abbrev at : State
  at = state_after g (front xs)

  abbrev log : Log
  log = (memory m).log mine

  abbrev fs : List happening.Event
  fs = events_of u.events

  abbrev rows : List ℕ
  rows = e.ended.rows

  b0 : Behind g xs [] (view_of m)
  b0 = runs.b0 l answers coming frames story lawful m ready c g xs many tied halves due

  asks : Rattle.paged_desks.specs.core_calls.Steps.call_behind (outcomes xs) c ≡ call.Abort
  asks = runs.asks l answers coming frames story lawful m ready c g xs many tied halves due

  wide : most ≤ 2 ^ 17
  wide = let q = le in omega arith

  behind_u : Behind g xs fs (view_of k)
  behind_u = runs.behind_u l answers coming frames story lawful m ready c g xs many tied halves due most wide k u

  facts : Backs mine fs
  facts = runs.facts l answers coming frames story lawful m ready c g xs many tied halves due most wide k u

  held_k : Holds (shape k.machine) (view_of k) z k.machine.work.log
  held_k = holds_of (shape k.machine) (view_of k) (here k.machine) k.machine.desks.items ready_k.sound.desks

  abbrev there : State
  there = behind_first g xs fs

  core_k : (state (view_of k)).core ≡ there
  core_k = core_is l.reached l.needs g xs fs (view_of k) behind_u

  of_there : IsOf z (there.worker mine)
  of_there = subst (λ (s : State). IsOf z (s.worker mine)) core_k (subst (λ w. IsOf z ((state (view_of k)).core.worker w)) u.turn held_k.session)

  -- the whole of it
  ending : Part x.workers (told.End z.own false e.floor ∷ gives z.own rows) (view_of k) (view_of n) (memory k) (memory n) (story k.machine.work.disk) (story n.machine.work.disk)
  ending = subst (λ w. Part w (told.End z.own false e.floor ∷ gives z.own rows) (view_of k) (view_of n) (memory k) (memory n) (story k.machine.work.disk) (story n.machine.work.disk)) u.same.0 (end_part l entries story lawful k n ready_k a same reply e)

  abbrev es : List Event
  es = u.events ++ told.End z.own false e.floor ∷ gives z.own rows

  whole : Part x.workers es (view_of m) (view_of n) (memory m) (memory n) (story m.machine.work.disk) (story n.machine.work.disk)
  whole = (every_join (story m.machine.work.disk) (story k.machine.work.disk) (story n.machine.work.disk) (lawful m.machine.work.disk) (every_move l.kept l.prefixes l.seals l.versions (story m.machine.work.disk) (story k.machine.work.disk) (story n.machine.work.disk))
      x.workers u.events (view_of m) (view_of k) (view_of n) (memory m) (memory k) (memory n)).join (told.End z.own false e.floor ∷ gives z.own rows) u.part ending

  abbrev ending_events : List happening.Event
  ending_events = happening.Event.End mine false e.floor ∷ unlocks mine rows

  all_events : events_of es ≡ fs ++ ending_events
  all_events = events_more u.events (told.End z.own false e.floor ∷ gives z.own rows) ∙ ap (λ ys. fs ++ ys) (events_are l entries story lawful k n ready_k a same reply e ∙ ap (λ w. happening.Event.End w false e.floor ∷ unlocks w rows) u.turn)

  met : AllMet g at (fs ++ ending_events)
  met = subst (AllMet g at) all_events (whole.logged g xs [] b0).met

  behind_all : Behind g xs (fs ++ ending_events) (view_of n)
  behind_all = subst (λ ys. Behind g xs ys (view_of n)) all_events (behind_more g xs [] (view_of m) b0 es (view_of n) whole.given whole.seen (whole.logged g xs [] b0).met)

  core_n : (state (view_of n)).core ≡ behind_first g xs (fs ++ ending_events)
  core_n = core_is l.reached l.needs g xs (fs ++ ending_events) (view_of n) behind_all

  abbrev r : Record
  r = end_record false z e.floor

  r_is : r ≡ abort_record (there.worker mine) e.floor
  r_is = λ i. record { txn = sym of_there.txn i; gsn = suc (sym of_there.clock i); body = body.Abort (need_of (sym of_there.debt i) e.floor) }

  abbrev done : Done
  done = aborted_by g xs c fs mine z.txn (suc z.clock.clock) e.floor rows

  is_abort : IsAbort g xs c fs mine z.txn (suc z.clock.clock) e.floor rows r
  is_abort = record {
    comes = runs.comes l answers coming frames story lawful m ready c g xs many tied halves due done.outcome refl (λ q. q) refl;
    low = runs.low l answers coming frames story lawful m ready c g xs many tied halves due;
    high = (let p = runs.high l answers coming frames story lawful m ready c g xs many tied halves due in let q = many in omega arith);
    backs = facts.steps;
    structure = facts.structure;
    syncs = runs.tight l answers coming frames story lawful m ready c g xs many tied halves due most wide k u;
    met = met;
    flushed = e.floor_is ∙ (λ i. least (core_k i).flushed (sym behind_u.opens.workers i));
    number_is = sym of_there.txn;
    at_is = ap suc (sym of_there.clock);
    entry = ap (entry_of mine) r_is ∙ (entries g there mine (there.worker mine)).abort e.floor;
    released = λ i. ap (λ (s : State). holds_row (s.row i) mine) (sym core_n) ∙ (ap (λ w. holds_row ((state (view_of n)).core.row i) w) (sym u.turn) ∙ e.ended.free i);
  }

  tells : Tells limits g x.group xs done
  tells = (answers limits g x.group xs).abort c fs mine z.txn (suc z.clock.clock) e.floor rows r is_abort

  few : length (fs ++ ending_events) ≤ 2 ^ 18
  few =
      let p = length-append fs ending_events in
      let q = length_unlocks mine rows in
      let i = e.ended.few in
      let j = held_k.fewer in
      let o = held_k.rows.few in
      let s = length_events u.events in
      let t = u.few in
      let v = Rattle.paged_desks.proofs.Doing.hot_few story m ready frames in
      let w = le in
      omega arith

  structure : any is_structure (fs ++ ending_events) ≡ false
  structure = any_append is_structure fs ending_events facts.structure (unlocks_none mine rows)

  not_refused : (why : Refusal) (b : Bool) → b ≡ true → cond b None (Some refusal.NoTransaction) ≡ Some why → ⊥
  not_refused why true p q = absurd (cc)
  not_refused why false p q = absurd (true≢false (sym p))

  how : Answers g xs done log
  how = record {
    few = let p = few in let q = most_least c in omega arith;
    refused = λ why q. absurd (cc);
    kept = λ why q. absurd (cc);
    refuses = λ why sure q. absurd (not_refused why (at.worker mine).is_open (runs.open_is l answers coming frames story lawful m ready c g xs many tied halves due ∙ opened) (subst (λ (d : Call). refusal_in g at mine (is_half_done mine xs) log d ≡ Some why) asks q));
    still = λ _ _. grows_none (fs ++ ending_events) structure;
    stays = λ _ _ _. structure;
    room = subst (λ (d : Call). ChangesTree mine g at d (fs ++ ending_events)) (sym asks) structure;
  }

  own_k : (desk_of (here n.machine) n.machine.desks.items mine).session.is_half_aborted ≡ n.machine.work.session.is_half_aborted
  own_k = ap (λ (d : Desk). d.session.is_half_aborted) (desk_own (here n.machine) n.machine.desks.items mine (sym (same.0 ∙ u.turn)))

  pub aborted_does : n.machine.work.session ≡ ended_session z (suc z.clock.clock) → DoesTied g x.group xs mine c (answer.Aborted reply.number) (memory m) n (story m.machine.work.disk) (story n.machine.work.disk)
  aborted_does is = subst (λ (q : replies.Ended). DoesTied g x.group xs mine c (answer.Aborted q.number) (memory m) n (story m.machine.work.disk) (story n.machine.work.disk)) (sym e.told_is)
      (does_tied l m n (story m.machine.work.disk) (story n.machine.work.disk) (lawful m.machine.work.disk) g xs many tied halves es whole ready_n.logged (same.1 ∙ u.same.0, same.2 ∙ u.same.1) mine c (answer.Aborted z.txn) done (sym all_events) refl refl refl tells how
      (half_own mine done xs refl ∙ sym (own_k ∙ ap (λ (s : Session). s.is_half_aborted) is))
      (λ w lo hi other. ap (λ (d : Desk). d.session.is_half_aborted) (other_desk story k n a same ready_k w lo (let q = u.same.0 in omega arith) (λ q. other (q ∙ u.turn))) ∙ u.others w lo hi other))
