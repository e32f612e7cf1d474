-- A get, in each run to which its machine is tied.
use Rattle.std.proofs.Common.{◌≡◌, ◌∙◌, ◌⊎◌, inl, inr, ◌≤◌, ◌<◌, ◌^◌, ◌%◌, ◌++◌, ℕ, true, false, cond, List, [], ◌∷◌, length, Option, Some, None, Err, ap, refl, sym, subst, arith, Ok, Result}
use Rattle.std.proofs.lemmas.List.{length-append}
use Rattle.map_model.specs.Lists.{any}
use Rattle.map_model.specs.declared.call.Answer.TheVariants as answer
use Rattle.map_model.specs.declared.call.Call.{Call}
use Rattle.map_model.specs.declared.call.Call.TheVariants as call
use Rattle.map_model.specs.declared.call.Refusal.{Refusal}
use Rattle.map_model.specs.declared.call.Refusal.TheVariants as refusal
use Rattle.paged_desks.specs.engine_trait.declared.unserved.Unanswered.{Unanswered}
use Rattle.paged_desks.specs.core_calls.Deeds.{Got, marks_by}
use Rattle.paged_desks.specs.core_calls.Fronts.{Done, front, outcomes}
use Rattle.paged_desks.specs.core_calls.LogEvents.{IsTight, SyncsWhere}
use Rattle.paged_desks.specs.core_calls.Marks.{is_half}
use Rattle.paged_desks.specs.core_calls.Refusals.{Hinders, IsCause}
use Rattle.paged_desks.specs.core_calls.Runs.{Tells}
use Rattle.paged_desks.specs.core_calls.Steps.{TakesRow, is_step, is_structure}
use Rattle.paged_desks.specs.core_state.Events as happening
use Rattle.paged_desks.specs.core_state.Needs.{value_in}
use Rattle.paged_desks.specs.core_state.Openings.{Opening}
use Rattle.paged_desks.specs.core_state.States.{State}
use Rattle.paged_desks.specs.core_state.Steps.{AllMet, state_after}
use Rattle.paged_desks.proofs.engine_calls.MarkLemmas.{any_append}
use Rattle.paged_desks.specs.engine_calls.Answers.{EveryAnswer}
use Rattle.paged_desks.specs.engine_calls.Clauses.{EveryComing, IsNewLine}
use Rattle.paged_desks.specs.engine_calls.Parts.{behind_first}
use Rattle.paged_desks.specs.engine_calls.Puts.{IsRead, is_alone, read_by, taking}
use Rattle.paged_desks.specs.engine_trait.Calls.{call_behind, is_half_done}
use Rattle.paged_desks.specs.engine_trait.Limits.{limits}
use Rattle.paged_desks.specs.engine_trait.Refusals.{IsRefusedFor, lock_refusal, refusal_in}
use Rattle.paged_desks.specs.key_locks.declared.mode.Mode.TheVariants.{Shared}
use Rattle.paged_desks.specs.key_locks.Rows.{event_mode}
use Rattle.lean_disk.specs.Story.{IsLawful, Story}
use Rattle.paged_desks.specs.row_words.declared.event.Event.{Event}
use Rattle.paged_desks.specs.row_words.declared.event.Event.TheVariants as told
use Rattle.paged_desks.specs.row_words.Moments.{events_of}
use Rattle.paged_desks.specs.rows_trait.declared.view.View.{View}
use Rattle.paged_desks.specs.rows_trait.Views.{Shape}
use Rattle.paged_desks.proofs.session_desks.DeskLemmas.{desk_own}
use Rattle.paged_desks.specs.session_desks.Desks.{desk_of}
use Rattle.paged_desks.specs.session_desks.Parts.{AreAsMany, HasLogs, here, shape}
use Rattle.paged_desks.specs.session_desks.declared.desk.Desk.{Desk}
use Rattle.paged_desks.proofs.session_state.Moments.{events_more}
use Rattle.paged_desks.specs.session_state.Holds.{Holds}
use Rattle.paged_desks.specs.session_state.Ties.{Behind}
use Rattle.paged_desks.specs.session_state.declared.session.Session.{Session}
use Rattle.paged_desks.specs.worker_log.Logs.{Log}
use Rattle.paged_desks.proofs.call_parts.RunLemmas.{core_is}
use Rattle.paged_desks.specs.call_parts.Deeds.{Answers, HasNoneToGo}
use Rattle.paged_desks.specs.call_parts.Rooms.{ChangesTree}
use Rattle.paged_desks.specs.call_parts.Parts.{Part}
use Rattle.row_room.specs.row_changes.Reads.{HasRead}
use Rattle.row_room.specs.row_changes.Takes.{NotTaken}
use Rattle.paged_desks.specs.Machines.{IsReady, memory, view_of}
use Rattle.paged_desks.specs.Parts.{most_a_way}
use Rattle.paged_desks.specs.Pages.{goes_on}
use Rattle.paged_desks.specs.declared.machine.PagedMachine.{PagedMachine}
use Rattle.paged_desks.specs.declared.warming.Unwarmed.{Unwarmed}
use Rattle.paged_desks.specs.declared.warming.Unwarmed.TheVariants as stopped
use Rattle.paged_desks.specs.Calls.{AreHalf, CallDoes, DoesTied, IsBeside, OnLine, Tied, unserved_of}
use Rattle.paged_calls.specs.Steps.{HasCome, HasNotTaken, HasReadWarm, HasTaken, ReadsWarm}
use Rattle.paged_calls.specs.Tests.{is_going}
use Rattle.paged_calls.proofs.Conflicts.{lock_refused}
use Rattle.paged_desks.proofs.EndingLemmas.{IsOr, does_tied, grows_none, half_own}
use Rattle.paged_calls.proofs.GoingLemmas.{goes, not_going, tests_as}
use Rattle.paged_calls.proofs.KeyLemmas as keys
use Rattle.paged_desks.proofs.EndingLemmas.{Grounds}
use Rattle.paged_calls.proofs.PieceLemmas.{behind_as, joins_at, none_part, read_part}
use Rattle.paged_desks.proofs.StandLemmas.{halves_are}
use Rattle.paged_desks.specs.engine_trait.Serving.{unserved_answer}
use Rattle.paged_calls.proofs.TakingLemmas.{key_free, key_hindered, none_is, none_refuses, some_is, spent_end}
use Rattle.map_model.specs.declared.call.Answer.{Answer}

-- ## In one run

module _ (l : Grounds) (answers : EveryAnswer) (coming : EveryComing) {D : Type 0} (story : D → Story) (lawful : (d : D) → IsLawful (story d)) (m : PagedMachine D) (ready : IsReady story m) (key : ℕ) (g : Opening) (xs : List Done) (workers : g.workers ≡ m.machine.work.session.workers)
    (tied : Tied g m.machine.work.session.group xs (view_of m) (memory m)) (halves : AreHalf g.workers xs m.machine) (line : IsNewLine (outcomes xs)) where
  abbrev x : Session
  x = m.machine.work.session

  abbrev own : ℕ
  own = x.own

  abbrev v : View
  v = view_of m

  abbrev z : Shape
  z = shape m.machine

  -- where the call begins
  abbrev at : State
  at = state_after g (front xs)

  abbrev log : Log
  log = (memory m).log own

  holds : Holds z v x m.machine.work.log
  holds = keys.holds l answers coming story lawful m ready key Shared (call.Get key) refl g xs workers tied halves line

  b0 : Behind g xs [] v
  b0 = keys.b0 l answers coming story lawful m ready key Shared (call.Get key) refl g xs workers tied halves line

  half_is : is_half_done own xs ≡ x.is_half_aborted
  half_is = keys.half_is l answers coming story lawful m ready key Shared (call.Get key) refl g xs workers tied halves line

  open_is : (at.worker own).is_open ≡ x.is_open
  open_is = keys.open_is l answers coming story lawful m ready key Shared (call.Get key) refl g xs workers tied halves line

  asks : call_behind (outcomes xs) (call.Get key) ≡ call.Get key
  asks = keys.asks l answers coming story lawful m ready key Shared (call.Get key) refl g xs workers tied halves line

  -- ## It is refused

  -- before anything was done
  module _ (n : PagedMachine D) (part : Part x.workers [] v (view_of n) (memory m) (memory n) (story m.machine.work.disk) (story n.machine.work.disk)) (logged : HasLogs n.machine) (as_many : AreAsMany m.machine n.machine)
      (same : (w : ℕ) → 0 < w → w ≤ x.workers → (desk_of (here n.machine) n.machine.desks.items w).session.is_half_aborted ≡ (desk_of (here m.machine) m.machine.desks.items w).session.is_half_aborted) where
    refused_now : (why : Refusal) → TakesRow why own (g.row_of key) happening.Mode.Shared [] → IsCause limits g (front xs ++ []) at (is_half (marks_by own (outcomes xs))) own (call.Get key) why
        → ((s : State) (d : Call) → HasNoneToGo g s d why) → IsRefusedFor g at own (is_half_done own xs) log (call.Get key) why → ((q : Refusal) → refusal_in g at own (is_half_done own xs) log (call.Get key) ≡ Some q → IsOr why q)
        → DoesTied g x.group xs own (call.Get key) (answer.Refused why) (memory m) n (story m.machine.work.disk) (story n.machine.work.disk)
    refused_now = keys.refused_now l answers coming story lawful m ready key Shared (call.Get key) refl g xs workers tied halves line n part logged as_many same

    -- no transaction goes on
    pub not_begun : is_going x ≡ false → DoesTied g x.group xs own (call.Get key) (answer.Refused refusal.NoTransaction) (memory m) n (story m.machine.work.disk) (story n.machine.work.disk)
    not_begun shut = refused_now refusal.NoTransaction refl (cause (not_going x shut)) (λ _ _. tt) (inl none) (λ q r. inl (some_is refusal.NoTransaction q (sym none ∙ r)))
      where
        none : refusal_in g at own (is_half_done own xs) log (call.Get key) ≡ Some refusal.NoTransaction
        none = tests_as at (is_half_done own xs) x open_is half_is (lock_refusal g at own key happening.Mode.Shared None) ∙ ap (λ b. cond b (lock_refusal g at own key happening.Mode.Shared None) (Some refusal.NoTransaction)) shut

        cause : (x.is_half_aborted ≡ true) ⊎ (x.is_open ≡ false) → ((at.worker own).is_open ≡ false) ⊎ ((is_half_done own xs ≡ true) × (call.Get key ≡ call.Abort → ⊥))
        cause (inl half) = inr (half_is ∙ half, λ q. absurd (cc))
        cause (inr closed) = inl (open_is ∙ closed)

    -- the row is not to be had
    pub not_taken : x.is_open ≡ true → x.is_half_aborted ≡ false → (why : Refusal) → NotTaken why v (view_of n) own (key % x.held.count) Shared → DoesTied g x.group xs own (call.Get key) (answer.Refused why) (memory m) n (story m.machine.work.disk) (story n.machine.work.disk)
    not_taken is_open whole refusal.RowSpent s = refused_now refusal.RowSpent (inl refl) (spent_end g xs [] (view_of n) (behind_as g xs [] v (view_of n) s.given s.seen b0) s.many) (λ _ _. tt) (inr (inl refl)) (λ q r. inr (inl refl))
    not_taken is_open whole (refusal.Conflict h) s = refused_now (refusal.Conflict h) refl hinders (λ _ _. tt) (inl now) (λ q r. inl (some_is (refusal.Conflict h) q (sym now ∙ r)))
      where
        hinders : Hinders (at.row (g.row_of key)) own happening.Mode.Shared h
        hinders = key_hindered l.reached l.needs g xs [] z v x key b0 holds.rows (view_of n) Shared h s

        now : refusal_in g at own (is_half_done own xs) log (call.Get key) ≡ Some (refusal.Conflict h)
        now = tests_as at (is_half_done own xs) x open_is half_is (lock_refusal g at own key happening.Mode.Shared None)
            ∙ (ap (λ c. cond c (lock_refusal g at own key happening.Mode.Shared None) (Some refusal.NoTransaction)) (goes x is_open whole) ∙ lock_refused g at own key happening.Mode.Shared h hinders None)
    not_taken is_open whole _ s = absurd s

  -- ## It is answered

  module _ (is_open : x.is_open ≡ true) (whole : x.is_half_aborted ≡ false) (u : PagedMachine D) (t : HasTaken key Shared m u) where
    abbrev row : ℕ
    row = key % x.held.count

    abbrev lock : happening.Event
    lock = happening.Event.Lock own row happening.Mode.Shared

    row_is : g.row_of key ≡ row
    row_is = keys.row_is l answers coming story lawful m ready key Shared (call.Get key) refl g xs workers tied halves line u t

    locked : Part x.workers (told.Lock own row (event_mode Shared) ∷ []) v (view_of u) (memory m) (memory u) (story m.machine.work.disk) (story u.machine.work.disk)
    locked = keys.locked l answers coming story lawful m ready key Shared (call.Get key) refl g xs workers tied halves line u t

    -- no test refuses it
    none : refusal_in g at own (is_half_done own xs) log (call.Get key) ≡ None
    none = none_refuses g at own (is_half_done own xs) log key (open_is ∙ is_open) (half_is ∙ whole) (key_free l.reached l.needs g xs [] z v x key b0 holds.rows (view_of u) u.machine.work.session Shared t.takes)

    -- pages came
    module _ (n : PagedMachine D) (come : HasCome story key u n) where
      abbrev moves : List happening.Event
      moves = events_of come.events

      came : Part x.workers come.events (view_of u) (view_of n) (memory u) (memory n) (story u.machine.work.disk) (story n.machine.work.disk)
      came = keys.came l answers coming story lawful m ready key Shared (call.Get key) refl g xs workers tied halves line u t n come

      b2 : Behind g xs (lock ∷ moves) (view_of n)
      b2 = keys.b2 l answers coming story lawful m ready key Shared (call.Get key) refl g xs workers tied halves line u t n come

      tight : SyncsWhere (λ s. IsTight g s key) g at false (lock ∷ moves)
      tight = keys.tight l answers coming story lawful m ready key Shared (call.Get key) refl g xs workers tied halves line u t n come

      no_step : any is_step moves ≡ false
      no_step = keys.no_step l answers coming story lawful m ready key Shared (call.Get key) refl g xs workers tied halves line u t n come

      no_structure : any is_structure (lock ∷ moves) ≡ false
      no_structure = keys.no_structure l answers coming story lawful m ready key Shared (call.Get key) refl g xs workers tied halves line u t n come

      half_all : (w : ℕ) → 0 < w → w ≤ x.workers → (desk_of (here n.machine) n.machine.desks.items w).session.is_half_aborted ≡ (desk_of (here m.machine) m.machine.desks.items w).session.is_half_aborted
      half_all = keys.half_all l answers coming story lawful m ready key Shared (call.Get key) refl g xs workers tied halves line u t n come

      few : length moves ≤ most_a_way
      few = keys.few l answers coming story lawful m ready key Shared (call.Get key) refl g xs workers tied halves line u t n come

      -- and the key was read
      module _ (k : PagedMachine D) (value : Option ℕ) (beside : IsBeside n k) (same : k.machine.work.session.own ≡ n.machine.work.session.own) (half_same : k.machine.work.session.is_half_aborted ≡ n.machine.work.session.is_half_aborted) (read : HasRead own (view_of n) (view_of k) key value) where
        abbrev seen_read : Event
        seen_read = told.Read own read.page key value

        abbrev es : List Event
        es = told.Lock own row (event_mode Shared) ∷ (come.events ++ seen_read ∷ [])

        abbrev first : List happening.Event
        first = taking g own key happening.Mode.Shared [] moves

        abbrev last : happening.Event
        last = happening.Event.Read own read.page key value

        whole_part : Part x.workers es v (view_of k) (memory m) (memory k) (story m.machine.work.disk) (story k.machine.work.disk)
        whole_part = (joins_at l story lawful m.machine.work.disk u.machine.work.disk k.machine.work.disk x.workers (told.Lock own row (event_mode Shared) ∷ []) v (view_of u) (view_of k) (memory m) (memory u) (memory k)).join (come.events ++ seen_read ∷ []) locked
            ((joins_at l story lawful u.machine.work.disk n.machine.work.disk k.machine.work.disk x.workers come.events (view_of u) (view_of n) (view_of k) (memory u) (memory n) (memory k)).join (seen_read ∷ []) came
            (read_part l story lawful x.workers own key value n k beside same read))

        all_events : events_of es ≡ first ++ last ∷ []
        all_events = ap (λ ys. lock ∷ ys) (events_more come.events (seen_read ∷ [])) ∙ ap (λ i. happening.Event.Lock own i happening.Mode.Shared ∷ (moves ++ last ∷ [])) (sym row_is)

        abbrev done : Done
        done = read_by (Got key value (is_alone g xs first own key)) first own read.page key value

        structure_all : any is_structure (first ++ last ∷ []) ≡ false
        structure_all = any_append is_structure first (last ∷ []) no_structure refl

        value_is : value ≡ value_in g.format ((behind_first g xs first).page read.page).node key
        value_is = read.told ∙ ((λ j. value_in (sym b2.opens.format j) ((core_is l.reached l.needs g xs (lock ∷ moves) (view_of n) b2 j).page read.page).node key)
            ∙ ap (λ i. value_in g.format ((behind_first g xs (happening.Event.Lock own i happening.Mode.Shared ∷ moves)).page read.page).node key) (sym row_is))

        is_read : IsRead g xs (call.Get key) happening.Mode.Shared [] moves own read.page key value
        is_read = record {
          line = line;
          before_steps = refl;
          between_steps = no_step;
          structure = no_structure;
          syncs = subst (λ i. SyncsWhere (λ s. IsTight g s key) g at false (happening.Event.Lock own i happening.Mode.Shared ∷ moves)) (sym row_is) tight;
          met = subst (AllMet g at) all_events (whole_part.logged g xs [] b0).met;
          value_is = value_is;
          whole = half_is ∙ whole;
        }

        tells : Tells limits g x.group xs done
        tells = (answers limits g x.group xs).get [] moves own read.page key value is_read

        few_all : length (first ++ last ∷ []) ≤ 2 ^ 18
        few_all = let a = length-append first (last ∷ []) in let b = few in omega arith

        how : Answers g xs done log
        how = record {
          few = few_all;
          refused = λ why q. absurd (cc);
          kept = λ why q. absurd (cc);
          refuses = λ why sure q. absurd (none_is why (sym none ∙ (ap (refusal_in g at own (is_half_done own xs) log) (sym asks) ∙ q)));
          still = λ _ _. grows_none (first ++ last ∷ []) structure_all;
          stays = λ _ _ _. structure_all;
          room = subst (λ d. ChangesTree own g at d (first ++ last ∷ [])) (sym asks) structure_all;
        }

        half_read : (w : ℕ) → 0 < w → w ≤ x.workers → (desk_of (here k.machine) k.machine.desks.items w).session.is_half_aborted ≡ (desk_of (here m.machine) m.machine.desks.items w).session.is_half_aborted
        half_read w lo hi = halves_are story n k beside same half_same w ∙ half_all w lo hi

        pub got : HasLogs k.machine → AreAsMany m.machine k.machine → DoesTied g x.group xs own (call.Get key) (answer.Value value) (memory m) k (story m.machine.work.disk) (story k.machine.work.disk)
        got logged many_too = does_tied l m k (story m.machine.work.disk) (story k.machine.work.disk) (lawful m.machine.work.disk) g xs workers tied halves es whole_part logged many_too own (call.Get key) (answer.Value value) done (sym all_events) refl refl refl tells how
            (half_own own done xs refl ∙ (half_is ∙ (ap (λ (d : Desk). d.session.is_half_aborted) (sym (desk_own (here m.machine) m.machine.desks.items own refl)) ∙ sym (half_read own (keys.low l answers coming story lawful m ready key Shared (call.Get key) refl g xs workers tied halves line) (keys.high l answers coming story lawful m ready key Shared (call.Get key) refl g xs workers tied halves line))))) (λ w lo hi ne. half_read w lo hi)

-- ## In each run

module _ (l : Grounds) (answers : EveryAnswer) (coming : EveryComing) {D : Type 0} (story : D → Story) (lawful : (d : D) → IsLawful (story d)) (m : PagedMachine D) (ready : IsReady story m) (key : ℕ) where
  abbrev Did : Result Answer Unanswered → PagedMachine D → Type 0
  Did r n = CallDoes story OnLine m.machine.work.session.own (call.Get key) r m n

  -- no transaction goes on
  pub get_closed : is_going m.machine.work.session ≡ false → Did (Ok (answer.Refused refusal.NoTransaction)) m
  get_closed shut g xs workers tied halves line = not_begun l answers coming story lawful m ready key g xs workers tied halves line m
      (none_part l story lawful m m (record { shape = refl; disk = refl; log = refl; desks = refl; latches = refl; master = refl; pager = refl }) refl m.machine.work.session.workers refl refl) ready.logged (refl, refl) (λ w lo hi. refl) shut

  module _ (is_open : m.machine.work.session.is_open ≡ true) (whole : m.machine.work.session.is_half_aborted ≡ false) where
    -- the row was not to be had
    module _ (n : PagedMachine D) (now : IsReady story n) where
      untaken : (why : Refusal) → (s : HasNotTaken why key Shared m n) → (view_of n).given ≡ (view_of m).given → (view_of n).seen ≡ (view_of m).seen → (g : Opening) (xs : List Done) → g.workers ≡ m.machine.work.session.workers → Tied g m.machine.work.session.group xs (view_of m) (memory m)
          → AreHalf g.workers xs m.machine → OnLine g xs → DoesTied g m.machine.work.session.group xs m.machine.work.session.own (call.Get key) (answer.Refused why) (memory m) n (story m.machine.work.disk) (story n.machine.work.disk)
      untaken why s given seen g xs workers tied halves line = not_taken l answers coming story lawful m ready key g xs workers tied halves line n
          (none_part l story lawful m n s.beside (ap (λ (y : Session). y.own) s.session) m.machine.work.session.workers given seen) now.logged (ap (λ (y : Session). y.workers) s.session, ap (λ (y : Session). y.group) s.session)
          (λ w lo hi. halves_are story m n s.beside (ap (λ (y : Session). y.own) s.session) (ap (λ (y : Session). y.is_half_aborted) s.session) w) is_open whole why s.not_taken

      pub get_untaken : (why : Refusal) → HasNotTaken why key Shared m n → Did (Ok (answer.Refused why)) n
      get_untaken refusal.RowSpent s = untaken refusal.RowSpent s s.not_taken.given s.not_taken.seen
      get_untaken (refusal.Conflict h) s = untaken (refusal.Conflict h) s s.not_taken.given s.not_taken.seen
      get_untaken _ s = absurd s.not_taken

    module _ (u : PagedMachine D) (t : HasTaken key Shared m u) (taken : IsReady story u) (n : PagedMachine D) where
      -- it was read
      pub get_read : (value : Option ℕ) → IsReady story n → HasReadWarm story key value u n → CallDoes story OnLine m.machine.work.session.own (call.Get key) (Ok (answer.Value value)) m n
      get_read value now r g xs workers tied halves line = got l answers coming story lawful m ready key g xs workers tied halves line is_open whole u t r.between r.come n value r.beside
          (ap (λ (y : Session). y.own) r.session) (ap (λ (y : Session). y.is_half_aborted) r.session) (subst (λ w. HasRead w (view_of r.between) (view_of n) key value) (ap (λ (y : Session). y.own) t.takes.session) r.read) now.logged
          (ap (λ (y : Session). y.workers) r.session ∙ (r.come.same.0 ∙ ap (λ (y : Session). y.workers) t.takes.session), ap (λ (y : Session). y.group) r.session ∙ (r.come.same.1 ∙ ap (λ (y : Session). y.group) t.takes.session))

      -- pages did not come all
      pub get_unwarmed : (why : Unwarmed) → (goes_on {A = Option ℕ} (Err why) ≡ true → IsReady story n) → ReadsWarm story key (Err why) u n → Did (unserved_answer (unserved_of why)) n
      get_unwarmed stopped.RowSpent now r g xs workers tied halves line = keys.spent l answers coming story lawful m ready key Shared (call.Get key) refl g xs workers tied halves line u t n r.0 (now refl).logged r.1
      get_unwarmed stopped.DiskFault now r g xs workers tied halves line = keys.fault l answers coming story lawful m ready key Shared (call.Get key) refl g xs workers tied halves line u t n r
      get_unwarmed (stopped.Damaged page) now r g xs workers tied halves line = (keys.fault l answers coming story lawful m ready key Shared (call.Get key) refl g xs workers tied halves line u t n r.0, keys.never l answers coming story lawful m ready key Shared (call.Get key) refl g xs workers tied halves line u t r.1)
      get_unwarmed (stopped.Altered page) now r g xs workers tied halves line = (keys.fault l answers coming story lawful m ready key Shared (call.Get key) refl g xs workers tied halves line u t n r.0, keys.never l answers coming story lawful m ready key Shared (call.Get key) refl g xs workers tied halves line u t r.1)
