-- A call of a key, in one run to which its machine is tied: where it is refused, and how far it has come behind its row.
use Rattle.std.proofs.Common.{◌≡◌, ◌∙◌, ◌⊎◌, inl, inr, ◌≤◌, ◌<◌, ◌^◌, ◌%◌, ◌++◌, ◌||◌, ℕ, Bool, true, false, List, [], ◌∷◌, length, Some, ap, refl, sym, subst, arith, append-nil, true≢false}
use Rattle.std.proofs.lemmas.List.{length-append}
use Rattle.map_model.specs.Lists.{any, keep}
use Rattle.map_model.specs.declared.call.Answer.TheVariants as answer
use Rattle.map_model.specs.declared.call.Call.{Call}
use Rattle.map_model.specs.declared.call.Call.TheVariants as call
use Rattle.map_model.specs.declared.call.Refusal.{Refusal}
use Rattle.map_model.specs.declared.call.Refusal.TheVariants as refusal
use Rattle.paged_desks.proofs.core_calls.WhereLemmas.{syncs_weaker}
use Rattle.paged_desks.specs.core_calls.Deeds.{marks_by}
use Rattle.paged_desks.specs.core_calls.Fronts.{Done, front, outcomes}
use Rattle.paged_desks.specs.core_calls.LogEvents.{IsPressed, IsPressedYet, IsTight, RefusedLogs, SyncsWhere}
use Rattle.paged_desks.specs.core_calls.Marks.{is_half}
use Rattle.paged_desks.specs.core_calls.Refusals.{IsCause}
use Rattle.paged_desks.specs.core_calls.Runs.{EachTells}
use Rattle.paged_desks.specs.core_calls.Scans.{StopsOnWay}
use Rattle.paged_desks.specs.core_calls.Steps.{TakesRow, Tries, is_step, is_structure}
use Rattle.paged_desks.specs.core_state.Events as happening
use Rattle.paged_desks.specs.core_state.Openings.{Opening}
use Rattle.paged_desks.specs.core_state.States.{State}
use Rattle.paged_desks.specs.core_state.Steps.{AllMet, state_after, step}
use Rattle.paged_desks.specs.disk_runs.Stands.{Stands}
use Rattle.paged_desks.proofs.engine_calls.MarkLemmas.{keep_none}
use Rattle.paged_desks.specs.engine_calls.Answers.{EveryAnswer}
use Rattle.paged_desks.specs.engine_calls.Clauses.{EveryComing, IsNewLine}
use Rattle.paged_desks.specs.engine_calls.Parts.{behind_first}
use Rattle.paged_desks.specs.engine_calls.Refused.{IsRefusal, TakesRows, refused_by}
use Rattle.paged_desks.specs.engine_trait.Calls.{call_behind, is_half_done}
use Rattle.paged_desks.specs.engine_trait.Limits.{limits}
use Rattle.paged_desks.specs.engine_trait.Refusals.{IsRefusedFor, refusal_in}
use Rattle.paged_desks.specs.key_locks.declared.mode.Mode.{Mode}
use Rattle.paged_desks.specs.key_locks.Rows.{event_mode}
use Rattle.lean_disk.specs.Story.{IsLawful, Story}
use Rattle.paged_desks.specs.row_words.declared.event.Event.TheVariants as told
use Rattle.paged_desks.specs.row_words.Moments.{events_of, mode_of}
use Rattle.paged_desks.specs.rows_trait.declared.view.View.{View}
use Rattle.paged_desks.specs.rows_trait.Views.{Shape, state}
use Rattle.paged_desks.proofs.session_desks.DeskLemmas.{desk_own}
use Rattle.paged_desks.proofs.session_desks.SeatLemmas.{holds_of, turn_high, turn_low}
use Rattle.paged_desks.specs.session_desks.Desks.{desk_of}
use Rattle.paged_desks.specs.session_desks.Parts.{AreAsMany, HasLogs, here, shape}
use Rattle.paged_desks.specs.session_desks.declared.desk.Desk.{Desk}
use Rattle.paged_desks.specs.session_state.Holds.{Holds}
use Rattle.paged_desks.specs.session_state.Ties.{Behind}
use Rattle.paged_desks.specs.session_state.tidy_rules.Rooms.{IsNextRoom, MakesRoom}
use Rattle.paged_desks.specs.session_state.declared.session.Session.{Session}
use Rattle.paged_desks.specs.worker_log.Logs.{Log}
use Rattle.paged_desks.proofs.call_parts.EndLemmas.{most_least}
use Rattle.paged_desks.proofs.call_parts.RunLemmas.{behind_more, core_is}
use Rattle.paged_desks.specs.call_parts.Deeds.{Fails, HasNoneToGo}
use Rattle.paged_desks.specs.call_parts.Memory.{Memory}
use Rattle.paged_desks.specs.call_parts.Parts.{Failed, Part}
use Rattle.paged_desks.specs.call_parts.Rooms.{AreRoom, ChangesTree, IsRoomFor, looks}
use Rattle.paged_desks.specs.Machines.{IsReady, memory, view_of}
use Rattle.paged_desks.specs.Parts.{IsSpent, StandsNowhere, most_a_way}
use Rattle.paged_desks.specs.declared.machine.PagedMachine.{PagedMachine}
use Rattle.paged_desks.specs.Calls.{AreHalf, DoesTied, StandsNot, Tied}
use Rattle.paged_calls.specs.Steps.{FailsWarm, HasCome, HasTaken}
use Rattle.paged_desks.proofs.EndingLemmas.{IsAnswerTo, IsOr, begins, fails_by, grows_none, line_call, refused_tied}
use Rattle.paged_desks.specs.session_state.tidy_rules.Tidying.{Stage}
use Rattle.paged_calls.proofs.EventLemmas.{length_events, locked_room, paging_steps, paging_structure, room_of, structure_of}
use Rattle.paged_calls.proofs.TidyEvents.{come_writes, paging_writes}
use Rattle.paged_calls.proofs.TidyRules.{is_write, tidies_calm}
use Rattle.paged_desks.proofs.HalfLates.{half_late}
use Rattle.paged_desks.proofs.EndingLemmas.{Grounds}
use Rattle.paged_calls.proofs.PieceLemmas.{failed_from, joins_at, lock_part, taken_own}
use Rattle.paged_desks.proofs.StandLemmas.{halves_are, memory_is}
use Rattle.paged_calls.proofs.TakingLemmas.{key_row, late_end}

-- ## Calls of a key

first_false : (p q : Bool) → (p || q) ≡ false → p ≡ false
first_false true q e = e
first_false false q e = refl

second_false : (p q : Bool) → (p || q) ≡ false → q ≡ false
second_false true q e = absurd (true≢false e)
second_false false q e = e

-- a call of this key, which takes its row so
abbrev pub IsOfKey : Call → (key : ℕ) → happening.Mode → Type 0
IsOfKey (call.Get k) key happening.Mode.Shared = k ≡ key
IsOfKey (call.Put k value) key happening.Mode.Alone = k ≡ key
IsOfKey (call.Del k) key happening.Mode.Alone = k ≡ key
IsOfKey _ key mode = ⊥

module _ (g : Opening) (xs : List Done) (own : ℕ) where
  pub tries_of : (c : Call) (key : ℕ) (mode : happening.Mode) → IsOfKey c key mode → (why : Refusal) (es : List happening.Event) → TakesRow why own (g.row_of key) mode es → Tries g own (outcomes xs) c why es
  tries_of (call.Get k) key happening.Mode.Shared e why es t = subst (λ j. TakesRow why own (g.row_of j) happening.Mode.Shared es) (sym e) t
  tries_of (call.Put k value) key happening.Mode.Alone e why es t = subst (λ j. TakesRow why own (g.row_of j) happening.Mode.Alone es) (sym e) t
  tries_of (call.Del k) key happening.Mode.Alone e why es t = subst (λ j. TakesRow why own (g.row_of j) happening.Mode.Alone es) (sym e) t
  tries_of (call.Get k) key happening.Mode.Alone e why es t = absurd e
  tries_of (call.Put k value) key happening.Mode.Shared e why es t = absurd e
  tries_of (call.Del k) key happening.Mode.Shared e why es t = absurd e
  tries_of _ key mode e why es t = absurd e

  scans_of : (c : Call) (key : ℕ) (mode : happening.Mode) → IsOfKey c key mode → (why : Refusal) (s : State) (es : List happening.Event) → StopsOnWay g own (outcomes xs) s c why es
  scans_of (call.Get k) key mode e why s es = tt
  scans_of (call.Put k value) key mode e why s es = tt
  scans_of (call.Del k) key mode e why s es = tt
  scans_of _ key mode e why s es = absurd e

  -- no logs are touched
  due_none : (c : Call) (key : ℕ) (mode : happening.Mode) → IsOfKey c key mode → (why : Refusal) → RefusedLogs limits g xs own c why []
  due_none (call.Get k) key mode e why = tt
  due_none (call.Put k value) key mode e why = tt
  due_none (call.Del k) key mode e why = tt
  due_none _ key mode e why = absurd e

  -- or syncs are made where a page of the key's way finds no frame
  due_spent : (c : Call) (key : ℕ) (mode : happening.Mode) → IsOfKey c key mode → call_behind (outcomes xs) c ≡ c → (es : List happening.Event) → SyncsWhere (λ s. IsTight g s key) g (state_after g (front xs)) false es → RefusedLogs limits g xs own c refusal.RowSpent es
  due_spent (call.Get k) key mode e asks es t = subst (λ d. SyncsWhere (IsPressedYet g d refusal.RowSpent) g (state_after g (front xs)) false es) (sym asks) (subst (λ j. SyncsWhere (λ s. IsTight g s j) g (state_after g (front xs)) false es) (sym (key_of mode e)) t)
    where
      key_of : (mode : happening.Mode) → IsOfKey (call.Get k) key mode → k ≡ key
      key_of happening.Mode.Shared e = e
      key_of happening.Mode.Alone e = absurd e
  due_spent (call.Put k value) key mode e asks es t = subst (λ d. SyncsWhere (IsPressedYet g d refusal.RowSpent) g (state_after g (front xs)) false es) (sym asks) (subst (λ j. SyncsWhere (λ s. IsTight g s j) g (state_after g (front xs)) false es) (sym (key_of mode e)) t)
    where
      key_of : (mode : happening.Mode) → IsOfKey (call.Put k value) key mode → k ≡ key
      key_of happening.Mode.Alone e = e
      key_of happening.Mode.Shared e = absurd e
  due_spent (call.Del k) key mode e asks es t = subst (λ d. SyncsWhere (IsPressedYet g d refusal.RowSpent) g (state_after g (front xs)) false es) (sym asks)
      (syncs_weaker (λ s. IsTight g s k) (IsPressed g (call.Del k)) (λ s h. inl h) g es (state_after g (front xs)) false (subst (λ j. SyncsWhere (λ s. IsTight g s j) g (state_after g (front xs)) false es) (sym (key_of mode e)) t))
    where
      key_of : (mode : happening.Mode) → IsOfKey (call.Del k) key mode → k ≡ key
      key_of happening.Mode.Alone e = e
      key_of happening.Mode.Shared e = absurd e
  due_spent _ key mode e asks es t = absurd e

  next_room : (s : State) (key : ℕ) (e : happening.Event) → is_structure e ≡ false → IsNextRoom own g s key e
  next_room s key (happening.Event.Split w k r q i) h = absurd (true≢false h)
  next_room s key (happening.Event.Lift w k) h = absurd (true≢false h)
  next_room s key (happening.Event.Join w k r q) h = absurd (true≢false h)
  next_room s key (happening.Event.Drop w k) h = absurd (true≢false h)
  next_room s key (happening.Event.Purge w p keys) h = absurd (true≢false h)
  next_room s key _ h = tt

  makes_none : (s : State) (key : ℕ) (es : List happening.Event) → any is_structure es ≡ false → MakesRoom own g s key es
  makes_none s key [] h = tt
  makes_none s key (e ∷ es) h = (next_room s key e (first_false (is_structure e) (any is_structure es) h), makes_none (step g s e) key es (second_false (is_structure e) (any is_structure es) h))

  -- the tree is as it was
  pub room_none : (c : Call) (key : ℕ) (mode : happening.Mode) → IsOfKey c key mode → (s : State) (es : List happening.Event) → any is_structure es ≡ false → any is_write es ≡ false → ChangesTree own g s c es
  room_none (call.Get k) key mode e s es h w = h
  room_none (call.Put k value) key mode e s es h w = makes_none s k es h
  room_none (call.Del k) key mode e s es h w = (tidies_calm own g k s Stage.Before es h w).tidies
  room_none _ key mode e s es h w = absurd e

  pub looks_of : (c : Call) (key : ℕ) (mode : happening.Mode) → IsOfKey c key mode → looks c ≡ true
  looks_of (call.Get k) key mode e = refl
  looks_of (call.Put k value) key mode e = refl
  looks_of (call.Del k) key mode e = refl
  looks_of _ key mode e = absurd e

  -- what it may have done where its disk fails
  pub room_for : (c : Call) (key : ℕ) (mode : happening.Mode) → IsOfKey c key mode → (es : List happening.Event) → AreRoom own (g.row_of key) mode es → any is_structure es ≡ false → any is_write es ≡ false → length es ≤ 2 ^ 18 → IsRoomFor g xs own c es
  room_for (call.Get k) key happening.Mode.Shared e es r h w few = ((subst (λ j. AreRoom own (g.row_of j) happening.Mode.Shared es) (sym e) r, h), few)
  room_for (call.Put k value) key happening.Mode.Alone e es r h w few = ((subst (λ j. AreRoom own (g.row_of j) happening.Mode.Alone es) (sym e) r, makes_none (state_after g (front xs)) k es h), few)
  room_for (call.Del k) key happening.Mode.Alone e es r h w few = ((subst (λ j. AreRoom own (g.row_of j) happening.Mode.Alone es) (sym e) r, (tidies_calm own g k (state_after g (front xs)) Stage.Before es h w).tidies), few)
  room_for (call.Get k) key happening.Mode.Alone e es r h w few = absurd e
  room_for (call.Put k value) key happening.Mode.Shared e es r h w few = absurd e
  room_for (call.Del k) key happening.Mode.Shared e es r h w few = absurd e
  room_for _ key mode e es r h w few = absurd e

-- ## In one run

module _ (l : Grounds) (answers : EveryAnswer) (coming : EveryComing) {D : Type 0} (story : D → Story) (lawful : (d : D) → IsLawful (story d)) (m : PagedMachine D) (ready : IsReady story m) (key : ℕ) (mode : Mode) (c : Call) (of_key : IsOfKey c key (mode_of (event_mode mode))) (g : Opening) (xs : List Done) (workers : g.workers ≡ m.machine.work.session.workers)
    (tied : Tied g m.machine.work.session.group xs (view_of m) (memory m)) (halves : AreHalf g.workers xs m.machine) (line : IsNewLine (outcomes xs)) where
  abbrev pub x : Session
  x = m.machine.work.session

  abbrev pub own : ℕ
  own = x.own

  abbrev pub v : View
  v = view_of m

  abbrev pub how_held : happening.Mode
  how_held = mode_of (event_mode mode)

  abbrev pub z : Shape
  z = shape m.machine

  -- where the call begins
  abbrev pub at : State
  at = state_after g (front xs)

  abbrev pub log : Log
  log = (memory m).log own

  pub holds : Holds z v x m.machine.work.log
  holds = holds_of z v (here m.machine) m.machine.desks.items ready.sound.desks

  pub low : 0 < own
  low = turn_low z v (here m.machine) m.machine.desks.items ready.sound.desks

  pub high : own ≤ x.workers
  high = turn_high z v (here m.machine) m.machine.desks.items ready.sound.desks

  pub b0 : Behind g xs [] v
  b0 = begins g x.group xs v (memory m) tied

  pub core_at : (state v).core ≡ at
  core_at = core_is l.reached l.needs g xs [] v b0

  pub half_is : is_half_done own xs ≡ x.is_half_aborted
  half_is = halves own low (let e = workers in let h = high in omega arith) ∙ ap (λ (d : Desk). d.session.is_half_aborted) (desk_own (here m.machine) m.machine.desks.items own refl)

  pub open_is : (at.worker own).is_open ≡ x.is_open
  open_is = ap (λ (s : State). (s.worker own).is_open) (sym core_at) ∙ holds.session.is_open

  pub asks : call_behind (outcomes xs) c ≡ c
  asks = line_call xs c line

  -- ## It is refused

  pub shown : (why : Refusal) (es : List happening.Event) → length es ≤ 2 ^ 18 → ((s : State) (d : Call) → HasNoneToGo g s d why) → IsRefusedFor g (state_after g (front xs ++ es)) own (is_half_done own xs) log c why → ((q : Refusal) → refusal_in g at own (is_half_done own xs) log c ≡ Some q → IsOr why q)
      → any is_structure es ≡ false → any is_write es ≡ false → IsAnswerTo g xs own c why es log
  shown why es few kept is_for refuses structure writes = record {
    few = let a = few in let b = most_least c in omega arith;
    is_for = subst (λ d. IsRefusedFor g (state_after g (front xs ++ es)) own (is_half_done own xs) log d why) (sym asks) is_for;
    kept = kept (state_after g (front xs ++ es)) (call_behind (outcomes xs) c);
    refuses = λ q sure e. refuses q (ap (refusal_in g at own (is_half_done own xs) log) (sym asks) ∙ e);
    still = λ q e. grows_none es structure;
    stays = λ q sure e. structure;
    room = subst (λ d. ChangesTree own g at d es) (sym asks) (room_none g xs own c key how_held of_key at es structure writes);
  }

  pub is_refusal : (why : Refusal) (es : List happening.Event) → AllMet g at es → TakesRows own (keep is_step es) → TakesRow why own (g.row_of key) how_held (keep is_step es) → any is_structure es ≡ false
      → IsCause limits g (front xs ++ es) (behind_first g xs es) (is_half (marks_by own (outcomes xs))) own c why → RefusedLogs limits g xs own c why es → IsRefusal limits g xs own c why es
  is_refusal why es met rows tries structure cause due = record {
    comes = (coming xs (refused_by own c why es).outcome).new line tt;
    met = met;
    rows = rows;
    tries = subst (λ d. Tries g own (outcomes xs) d why (keep is_step es)) (sym asks) (tries_of g xs own c key how_held of_key why (keep is_step es) tries);
    scans = subst (λ d. StopsOnWay g own (outcomes xs) at d why es) (sym asks) (scans_of g xs own c key how_held of_key why at es);
    structure = λ _. structure;
    cause = cause;
    due = due;
  }

  -- before anything was done
  module _ (n : PagedMachine D) (part : Part x.workers [] v (view_of n) (memory m) (memory n) (story m.machine.work.disk) (story n.machine.work.disk)) (logged : HasLogs n.machine) (as_many : AreAsMany m.machine n.machine)
      (same : (w : ℕ) → 0 < w → w ≤ x.workers → (desk_of (here n.machine) n.machine.desks.items w).session.is_half_aborted ≡ (desk_of (here m.machine) m.machine.desks.items w).session.is_half_aborted) where
    pub refused_now : (why : Refusal) → TakesRow why own (g.row_of key) how_held [] → IsCause limits g (front xs ++ []) at (is_half (marks_by own (outcomes xs))) own c why
        → ((s : State) (d : Call) → HasNoneToGo g s d why) → IsRefusedFor g at own (is_half_done own xs) log c why → ((q : Refusal) → refusal_in g at own (is_half_done own xs) log c ≡ Some q → IsOr why q)
        → DoesTied g x.group xs own c (answer.Refused why) (memory m) n (story m.machine.work.disk) (story n.machine.work.disk)
    refused_now why tries cause kept is_for refuses =
        refused_tied l m n (story m.machine.work.disk) (story n.machine.work.disk) (lawful m.machine.work.disk) g xs workers tied halves [] part logged as_many answers own c why refl low high
        (is_refusal why [] tt tt tries refl cause (due_none g xs own c key how_held of_key why))
        (shown why [] (omega arith) kept (subst (λ ys. IsRefusedFor g (state_after g ys) own (is_half_done own xs) log c why) (sym (append-nil (front xs))) is_for) refuses refl refl)
        same

  -- ## Behind its row

  module _ (u : PagedMachine D) (t : HasTaken key mode m u) where
    abbrev pub row : ℕ
    row = key % x.held.count

    abbrev pub lock : happening.Event
    lock = happening.Event.Lock own row how_held

    pub row_is : g.row_of key ≡ row
    row_is = key_row l.reached l.needs g xs [] z v x key b0 holds.rows

    pub own_is : u.machine.work.session.own ≡ own
    own_is = taken_own l story lawful m u key mode t

    workers_is : u.machine.work.session.workers ≡ x.workers
    workers_is = ap (λ (y : Session). y.workers) t.takes.session

    group_is : u.machine.work.session.group ≡ x.group
    group_is = ap (λ (y : Session). y.group) t.takes.session

    pub locked : Part x.workers (told.Lock own row (event_mode mode) ∷ []) v (view_of u) (memory m) (memory u) (story m.machine.work.disk) (story u.machine.work.disk)
    locked = lock_part l story lawful x.workers m u key mode t

    pub b1 : Behind g xs (lock ∷ []) (view_of u)
    b1 = behind_more g xs [] v b0 (told.Lock own row (event_mode mode) ∷ []) (view_of u) locked.given locked.seen (locked.logged g xs [] b0).met

    pub taken_half : (w : ℕ) → (desk_of (here u.machine) u.machine.desks.items w).session.is_half_aborted ≡ (desk_of (here m.machine) m.machine.desks.items w).session.is_half_aborted
    taken_half = halves_are story m u t.beside own_is (ap (λ (y : Session). y.is_half_aborted) t.takes.session)

    -- pages came
    module _ (n : PagedMachine D) (come : HasCome story key u n) where
      abbrev pub moves : List happening.Event
      moves = events_of come.events

      pub came : Part x.workers come.events (view_of u) (view_of n) (memory u) (memory n) (story u.machine.work.disk) (story n.machine.work.disk)
      came = subst (λ k. Part k come.events (view_of u) (view_of n) (memory u) (memory n) (story u.machine.work.disk) (story n.machine.work.disk)) workers_is come.part

      pub b2 : Behind g xs (lock ∷ moves) (view_of n)
      b2 = behind_more g xs (lock ∷ []) (view_of u) b1 come.events (view_of n) came.given came.seen (came.logged g xs (lock ∷ []) b1).met

      pub tight : SyncsWhere (λ s. IsTight g s key) g at false (lock ∷ moves)
      tight = come.tight g xs (lock ∷ []) b1

      pub no_step : any is_step moves ≡ false
      no_step = paging_steps come.events come.paging

      pub no_structure : any is_structure (lock ∷ moves) ≡ false
      no_structure = paging_structure come.events come.paging

      pub as_many : AreAsMany m.machine n.machine
      as_many = (come.same.0 ∙ workers_is, come.same.1 ∙ group_is)

      pub half_all : (w : ℕ) → 0 < w → w ≤ x.workers → (desk_of (here n.machine) n.machine.desks.items w).session.is_half_aborted ≡ (desk_of (here m.machine) m.machine.desks.items w).session.is_half_aborted
      half_all w lo hi = come.halves w lo (let e = workers_is in omega arith) ∙ taken_half w

      pub few : length moves ≤ most_a_way
      few = let a = come.few in let b = length_events come.events in omega arith

      -- so far
      pub so_far : Part x.workers (told.Lock own row (event_mode mode) ∷ come.events) v (view_of n) (memory m) (memory n) (story m.machine.work.disk) (story n.machine.work.disk)
      so_far = (joins_at l story lawful m.machine.work.disk u.machine.work.disk n.machine.work.disk x.workers (told.Lock own row (event_mode mode) ∷ []) v (view_of u) (view_of n) (memory m) (memory u) (memory n)).join come.events locked came

      -- they did not come all, since a latch is spent
      late : EachTells limits g x.group xs → IsSpent u n → 2 ^ 61 ≤ length (front xs ++ (lock ∷ moves))
      late each (inl old) = late_end l.reached l.needs g xs (lock ∷ moves) (view_of n) b2 old
      late each (inr h) =
          let a = half_late g x.group xs each h.session (halves h.session h.low (let e = workers in let k = h.high in let o = workers_is in omega arith) ∙ (sym (taken_half h.session) ∙ h.half)) in
          let b = length-append (front xs) (lock ∷ moves) in
          omega arith

      pub spent : HasLogs n.machine → IsSpent u n → DoesTied g x.group xs own c (answer.Refused refusal.RowSpent) (memory m) n (story m.machine.work.disk) (story n.machine.work.disk)
      spent logged s =
          refused_tied l m n (story m.machine.work.disk) (story n.machine.work.disk) (lawful m.machine.work.disk) g xs workers tied halves (told.Lock own row (event_mode mode) ∷ come.events) so_far logged as_many answers own c refusal.RowSpent refl low high
          (is_refusal refusal.RowSpent (lock ∷ moves) (so_far.logged g xs [] b0).met (subst (TakesRows own) (sym kept) (refl, tt))
          (subst (λ ys. (ys ≡ []) ⊎ (ys ≡ happening.Event.Lock own (g.row_of key) how_held ∷ [])) (sym kept) (inr (ap (λ i. happening.Event.Lock own i how_held ∷ []) (sym row_is)))) no_structure (late (tied.ties own).told s) (due_spent g xs own c key how_held of_key asks (lock ∷ moves) tight))
          (shown refusal.RowSpent (lock ∷ moves) (let a = few in omega arith) (λ _ _. tt) (inr (inl refl)) (λ q r. inr (inl refl)) no_structure (paging_writes come.events come.paging))
          half_all
        where
          kept : keep is_step (lock ∷ moves) ≡ lock ∷ []
          kept = ap (λ ys. lock ∷ ys) (keep_none is_step moves no_step)

    -- ## Its disk fails

    module _ (n : PagedMachine D) (f : FailsWarm story u n) where
      warm : Failed x.workers true true f.failed.events (view_of u) (memory u) (story u.machine.work.disk) (story n.machine.work.disk)
      warm = failed_from x.workers true true f.failed.events (view_of u) (view_of f.between) (memory u) (story u.machine.work.disk) (story n.machine.work.disk) f.still.given f.still.seen
          (subst (λ (d : D). Failed x.workers true true f.failed.events (view_of f.between) (memory u) (story d) (story n.machine.work.disk)) f.still.beside.disk
          (subst (λ (q : Memory). Failed x.workers true true f.failed.events (view_of f.between) q (story f.between.machine.work.disk) (story n.machine.work.disk)) (memory_is story u f.between f.still.beside (ap (λ (y : Session). y.own) f.still.session))
          (subst (λ w. Failed w true true f.failed.events (view_of f.between) (memory f.between) (story f.between.machine.work.disk) (story n.machine.work.disk)) (ap (λ (y : Session). y.workers) f.still.session ∙ workers_is) f.failed.failed)))

      failed : Failed x.workers true true (lock ∷ f.failed.events) v (memory m) (story m.machine.work.disk) (story n.machine.work.disk)
      failed = (joins_at l story lawful m.machine.work.disk u.machine.work.disk n.machine.work.disk x.workers (told.Lock own row (event_mode mode) ∷ []) v (view_of u) v (memory m) (memory u) (memory u)).failed true true f.failed.events locked warm

      room : IsRoomFor g xs own c (lock ∷ f.failed.events)
      room = room_for g xs own c key how_held of_key (lock ∷ f.failed.events) (subst (λ i. AreRoom own i how_held (lock ∷ f.failed.events)) (sym row_is) (locked_room own row how_held f.failed.events (room_of own row how_held f.failed.events f.failed.paging))) (structure_of f.failed.events f.failed.paging) (come_writes f.failed.events f.failed.paging) (let a = f.failed.few in omega arith)

      pub fault : Fails g x.group xs own c (memory m) (story m.machine.work.disk) (story n.machine.work.disk)
      fault = fails_by g x.group xs x.workers workers own c v (memory m) tied line (looks_of g xs own c key how_held of_key) (story m.machine.work.disk) (story n.machine.work.disk) (lock ∷ f.failed.events) failed room

    -- the disk stands for no run, where a page of it is damaged
    pub never : StandsNowhere story u → StandsNot g x.group xs (memory m) (story m.machine.work.disk)
    never nowhere s0 k b o =
        let r = locked.goes g xs [] b0 s0 k (subst (λ ys. Stands g ys s0 k (story m.machine.work.disk)) (sym (append-nil (front xs))) b.stands) o in
        nowhere g xs (lock ∷ []) b1 s0 r.known r.moved.stands r.has
