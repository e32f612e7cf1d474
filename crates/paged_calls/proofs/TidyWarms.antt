-- What a del did behind the taking of its row, round by round.
use Rattle.std.proofs.Common.{◌≡◌, ◌∙◌, ◌⊎◌, inl, inr, ◌≤◌, ◌<◌, ◌+◌, ◌^◌, ◌%◌, ◌-◌, ◌++◌, ◌&&◌, ltb, List, ℕ, suc, true, false, [], ◌∷◌, Option, Some, None, Result, Ok, Err, length, ap, refl, sym, subst, arith, append-nil, true≢false}
use Rattle.map_model.specs.declared.call.Refusal.TheVariants as refusal
use Rattle.page_model.specs.Nodes.{Node, covers, holds, is_leaf}
use Rattle.page_model.specs.Redo.{is_some}
use Rattle.paged_desks.specs.engine_trait.declared.unserved.Unanswered.TheVariants as unanswered
use Rattle.paged_desks.specs.engine_trait.declared.unserved.Unserved.{Unserved}
use Rattle.paged_desks.specs.engine_trait.declared.unserved.Unserved.TheVariants as unserved
use Rattle.paged_desks.specs.btree_descent.declared.descent.TheConstants.{TOMBSTONE}
use Rattle.paged_desks.proofs.core_calls.WhereLemmas.{syncs_weaker}
use Rattle.paged_desks.specs.core_calls.LogEvents.{IsTight, IsTightAround}
use Rattle.paged_desks.specs.core_state.Needs.{are_hot, holds_row, is_held_by, is_value, may, may_read, needs, value_in}
use Rattle.paged_desks.specs.core_paging.Paging.{Residence}
use Rattle.paged_desks.specs.core_state.Events as happening
use Rattle.std.proofs.lemmas.Bool.{and_parts, cases_eq, ltb-true}
use Rattle.paged_desks.specs.core_state.Openings.{Opening}
use Rattle.paged_desks.specs.core_state.States.{State, is_hot, nodes_of}
use Rattle.paged_desks.specs.core_state.Steps as core
use Rattle.paged_desks.specs.core_state.Steps.{happens}
use Rattle.paged_desks.specs.engine_calls.Parts.{behind_first}
use Rattle.lean_disk.specs.Story.{IsLawful, Story}
use Rattle.paged_desks.specs.page_pool.Pools.{EveryStanding}
use Rattle.paged_desks.specs.paged_rows.Paged.{IsNamed, IsWarm}
use Rattle.row_room.specs.row_changes.Dels.{Dels as Did}
use Rattle.row_room.specs.row_changes.Puts.{IsChanged, MayWrite, works_behind}
use Rattle.row_room.specs.row_changes.Reads.{HasRead}
use Rattle.row_room.specs.row_changes.Ways.{HasMetCold, IsLost}
use Rattle.row_room.specs.row_changes.declared.ways.Cold.{Cold}
use Rattle.row_room.specs.row_changes.declared.ways.Unmade.{Unmade}
use Rattle.row_room.specs.row_changes.declared.ways.Unmade.TheVariants as unmade
use Rattle.row_walks.specs.Stages.{IsNeighbour, IsPassed, MayShrink, left_of, level_of, stage_of}
use Rattle.row_walks.specs.Steps.{IsQuietTo, IsShrinkBy, IsTidied, TidySteps}
use Rattle.row_walks.specs.AtOnce.{DelsAtOnce, IsUndone}
use Rattle.row_walks.specs.declared.at_once.AtOnce.{AtOnce}
use Rattle.row_walks.specs.declared.at_once.AtOnce.TheVariants as at_once
use Rattle.row_walks.specs.declared.steps.At.{At}
use Rattle.row_walks.specs.declared.steps.At.TheVariants as reached
use Rattle.row_walks.specs.declared.steps.Tidied.{Tidied}
use Rattle.row_walks.specs.declared.steps.Tidied.TheVariants as tidied
use Rattle.paged_desks.specs.row_words.declared.event.Event.{Event}
use Rattle.paged_desks.specs.row_words.declared.event.Event.TheVariants as told
use Rattle.paged_desks.specs.row_words.declared.given.Given.{Given}
use Rattle.paged_desks.specs.row_words.Moments.{event_of, events_of}
use Rattle.paged_desks.specs.row_words.Openings.{opening}
use Rattle.paged_desks.specs.rows_trait.Views.{state}
use Rattle.paged_desks.specs.session_desks.Parts.{SeatFits, shape}
use Rattle.paged_desks.proofs.session_state.OtherLemmas.{no_steps}
use Rattle.paged_desks.proofs.session_state.UndoLemmas.{room_to_stage}
use Rattle.paged_desks.specs.session_state.Holds.{Holds, IsSameSession}
use Rattle.paged_desks.specs.session_state.Others.{EveryOther}
use Rattle.paged_desks.specs.session_state.Staging.{KeepsLog}
use Rattle.paged_desks.specs.session_state.Undo.{HasRoomToStage}
use Rattle.paged_desks.specs.session_state.tidy_rules.Tidying.{Stage, next_tidy}
use Rattle.paged_desks.specs.session_state.declared.session.Session.{Session}
use Rattle.paged_desks.specs.session_state.declared.work.Work.{Work}
use Rattle.paged_desks.proofs.call_parts.RunLemmas.{behind_more}
use Rattle.paged_desks.proofs.EndingLemmas.{Grounds}
use Rattle.paged_desks.proofs.StandLemmas.{looked_same, ready_on}
use Rattle.paged_desks.specs.Calls.{IsAside, unserved_of, works_behind as is_working}
use Rattle.paged_desks.specs.Machines.{IsReady, pages, view_of}
use Rattle.paged_desks.specs.Pages.{HasPagedWhere, IsKept, goes_on, most_a_level}
use Rattle.paged_desks.specs.Parts.{HasFailed, HasGone, HasGoneWhere, IsSpent, StandsNowhere}
use Rattle.paged_desks.specs.declared.machine.PagedMachine.{PagedMachine}
use Rattle.paged_desks.specs.declared.warming.Unwarmed.{Unwarmed}
use Rattle.paged_desks.specs.declared.warming.Unwarmed.TheVariants as stopped
use Rattle.paged_calls.specs.Changes.{MayStill, as_made}
use Rattle.paged_calls.specs.Growths.{IsGoing}
use Rattle.paged_calls.specs.Tidyings.{Dels, GoesOn, HasWished, HasTidied, HasTidiedAll, HasValue, IsLive, IsTidy, MayDel, TidiesAll, TidiesOn, TidyEnds, TidyRounds}
use Rattle.paged_calls.proofs.ChangeSteps.{beside_of}
use Rattle.paged_calls.proofs.ChangeWarms.{still_cold, still_self}
use Rattle.paged_calls.proofs.GrowthStands.{IsMissed, missed_core, missed_spent, ready_missed}
use Rattle.paged_calls.proofs.TidyStages.{IsFewer, fewer_left}
use Rattle.paged_calls.proofs.TidyStands.{made_tidied, missed_quiet, ready_tidied, tidied_come, tidied_missed, tidied_none, tidied_then, tidied_up}
use Rattle.page_model.specs.Tree.{IsTree}
use Rattle.paged_desks.specs.core_calls.Warms.{IsWarmFrom}
use Rattle.paged_desks.proofs.row_words.SealedLemmas.{run_append}
use Rattle.paged_desks.specs.row_words.Moments.{Moment}
use Rattle.paged_desks.specs.row_words.Sealed.{begun}
use Rattle.paged_desks.proofs.session_desks.SeatLemmas.{holds_of}
use Rattle.paged_desks.specs.session_desks.Parts.{here as seat}
use Rattle.paged_desks.proofs.session_state.Moments.{seen_state}
use Rattle.paged_desks.proofs.call_parts.RunLemmas.{run_core}
use Rattle.paged_calls.specs.Growths.{AreLike}
use Rattle.paged_calls.specs.Tidyings.{BringsNeighbour, HasPassed, WantsNeighbour, most_a_coming}
use Rattle.paged_calls.proofs.EventLemmas.{paging_structure}
use Rattle.paged_calls.proofs.LikeLemmas.{run_came}
use Rattle.paged_calls.proofs.MadeLemmas.{core_paging, making_paging}
use Rattle.paged_calls.proofs.RoomLemmas.{gone_no_fuller, rows_kept}
use Rattle.paged_calls.proofs.TidyPages.{neighbour_level, none_wanted, parent_at, parent_names, passed_kept}
use Rattle.paged_calls.proofs.WarmLemmas.{kept_own}

-- ## Whether it may go on

-- as a step asks it
pub may_shrink : {D : Type 0} (key : ℕ) (here : At) (m : PagedMachine D) → m.machine.work.session.works ≡ true → m.machine.work.session.clock.clock < 2 ^ 62 → MayDel key here m → MayShrink m.machine.work.session m.machine.work.log (opening (view_of m).given).format.levels here
may_shrink key here m works small f = record { works = works; is_open = f.is_open; whole = f.whole; small = small; room = f.room }

-- as the change of the key asks it
pub may_write : {D : Type 0} (key : ℕ) (m : PagedMachine D) → m.machine.work.session.works ≡ true → m.machine.work.session.clock.clock < 2 ^ 62 → key < 2 ^ 64 - 1 → MayDel key reached.Over m → MayWrite 0 (view_of m) m.machine.work.session m.machine.work.log key
may_write key m works small low f = record { works = works; is_open = f.is_open; whole = f.whole; few = f.few; small = small; room = f.room; row = f.row; key_low = low }

-- for the change alone there is room
pub may_over : {D : Type 0} (key : ℕ) (here : At) (m : PagedMachine D) → MayDel key here m → MayDel key reached.Over m
may_over key here m f = record { is_open = f.is_open; whole = f.whole; few = f.few; room = (let a = f.room in omega arith); row = f.row; within = omega arith }

-- before all
pub may_begin : {D : Type 0} (key : ℕ) (m : PagedMachine D) → MayStill key m → MayDel key reached.Before m
may_begin key m f = record {
  is_open = f.is_open;
  whole = f.whole;
  few = f.few;
  room = room_to_stage m.machine.work.log (suc (left_of (opening (view_of m).given).format.levels reached.Before)) f.room (omega arith);
  row = f.row;
  within = omega arith;
}

pub going_of : {D : Type 0} (key : ℕ) (here : At) (m : PagedMachine D) → MayDel key here m → IsGoing m
going_of key here m f = record { is_open = f.is_open; whole = f.whole; few = f.few }

-- a change of the tree leaves the lock rows as they are
row_one : (own : ℕ) (g : Opening) (s : State) (e : Event) → IsShrinkBy own e → (happens g s (event_of e)).row ≡ s.row
row_one own g s (told.Purge w p keys) k = refl
row_one own g s (told.Join w l r q) k = refl
row_one own g s (told.Drop w c) k = refl
row_one own g s _ k = absurd k

module _ {D : Type 0} (story : D → Story) (key : ℕ) (here there : At) (m n : PagedMachine D)
    (c : IsTidied key here there (view_of m) (view_of n) m.machine.work.session n.machine.work.session m.machine.work.log n.machine.work.log (story m.machine.work.disk) (story n.machine.work.disk)) where
  abbrev own : ℕ
  own = m.machine.work.session.own

  rows : (state (view_of n)).core.row ≡ (state (view_of m)).core.row
  rows = ap (λ (s : State). s.row) c.happened ∙ row_one own (opening (view_of m).given) (state (view_of m)).core c.event c.by

  pub fewer_tidied : MayDel key here m → IsFewer (opening (view_of m).given).format.levels here there
  fewer_tidied f = fewer_left own (opening (view_of m).given) (state (view_of m)).core key there here (event_of c.event) f.within c.next c.now

  pub may_tidied : MayDel key here m → MayShrink n.machine.work.session n.machine.work.log (opening (view_of m).given).format.levels there → MayDel key there n
  may_tidied f s = record {
    is_open = s.is_open;
    whole = s.whole;
    few = subst (λ (x : Session). length x.undo < 64) (sym c.session) f.few;
    room = subst (λ (q : Given). HasRoomToStage n.machine.work.log (suc (left_of (opening q).format.levels there))) (sym c.given) s.room;
    row = (λ i. is_held_by ((rows i) (key % (c.session i).held.count)).holder (c.session i).own) ∙ f.row;
    within = subst (λ (q : Given). level_of there ≤ (opening q).format.levels) (sym c.given) (fewer_tidied f).within;
  }

  pub going_tidied : IsGoing m → IsGoing n
  going_tidied f = record {
    is_open = ap (λ (x : Session). x.is_open) c.session ∙ f.is_open;
    whole = ap (λ (x : Session). x.is_half_aborted) c.session ∙ f.whole;
    few = subst (λ (x : Session). length x.undo < 64) (sym c.session) f.few;
  }

  pub half_tidied : n.machine.work.session.is_half_aborted ≡ m.machine.work.session.is_half_aborted
  half_tidied = ap (λ (x : Session). x.is_half_aborted) c.session

-- where nothing was seen but misses
module _ {D : Type 0} (key : ℕ) (here : At) (m n : PagedMachine D) (q : IsMissed 61 (view_of m) (view_of n)) (e : n.machine.work ≡ m.machine.work) where
  -- what hangs on the core, the opening, the session and the log alone is so there
  both : ◌≡◌ {A = Given × (State × Work D)} ((view_of n).given, ((state (view_of n)).core, n.machine.work)) ((view_of m).given, ((state (view_of m)).core, m.machine.work))
  both i = (q.given i, (missed_core 61 (view_of m) (view_of n) q i, e i))

  pub may_missed : MayDel key here m → MayDel key here n
  may_missed f = record {
    is_open = ap (λ (k : Work D). k.session.is_open) e ∙ f.is_open;
    whole = ap (λ (k : Work D). k.session.is_half_aborted) e ∙ f.whole;
    few = subst (λ (k : Work D). length k.session.undo < 64) (sym e) f.few;
    room = subst (λ (k : Given × (State × Work D)). HasRoomToStage k.1.1.log (suc (left_of (opening k.0).format.levels here))) (sym both) f.room;
    row = (λ i. is_held_by ((both i).1.0.row (key % (both i).1.1.session.held.count)).holder (both i).1.1.session.own) ∙ f.row;
    within = subst (λ (k : Given). level_of here ≤ (opening k).format.levels) (sym q.given) f.within;
  }

  pub live_missed : IsLive key here m → IsLive key here n
  live_missed (inl b) = inl b
  live_missed (inr v) = inr (subst (λ (k : Given × (State × Work D)). (p : ℕ) → p < (opening k.0).format.pages → holds (nodes_of k.1.0 p) key ≡ true → is_some (value_in (opening k.0).format (nodes_of k.1.0 p) key) ≡ true) (sym both) v)

  pub tidy_missed : next_tidy m.machine.work.session.own (opening (view_of m).given) (state (view_of m)).core key (stage_of here) ≡ None → IsTidy key here n
  tidy_missed t = subst (λ (k : Given × (State × Work D)). next_tidy k.1.1.session.own (opening k.0) k.1.0 key (stage_of here) ≡ None) (sym both) t

  pub passed_missed : (level : ℕ) → IsPassed m.machine.work.session.own (opening (view_of m).given) (state (view_of m)).core key here level → IsPassed n.machine.work.session.own (opening (view_of n).given) (state (view_of n)).core key here level
  passed_missed level = subst (λ (k : Given × (State × Work D)). IsPassed k.1.1.session.own (opening k.0) k.1.0 key here level) (sym both)

  pub wants_missed : (page level : ℕ) → IsNeighbour (opening (view_of m).given) (state (view_of m)).core key level page → IsNeighbour (opening (view_of n).given) (state (view_of n)).core key level page
  wants_missed page level = subst (λ (k : Given × (State × Work D)). IsNeighbour (opening k.0) k.1.0 key level page) (sym both)

  pub small_missed : m.machine.work.session.clock.clock < 2 ^ 62 → n.machine.work.session.clock.clock < 2 ^ 62
  small_missed = subst (λ (k : Work D). k.session.clock.clock < 2 ^ 62) (sym e)

  pub warm_missed : IsWarm (pages m) key 0 → IsWarm (pages n) key 0
  warm_missed = subst (λ (k : Given × (State × Work D)). (p : ℕ) → p < (opening k.0).format.pages → covers (nodes_of k.1.0 p) key ≡ true → 0 ≤ (nodes_of k.1.0 p).level → is_hot (k.1.0.place p) ≡ true) (sym both)

-- ## A step

-- what a step came to
abbrev pub HasStepped : {D : Type 0} → (story : D → Story) → (key : ℕ) → (here : At) → (m n : PagedMachine D) → Result Tidied Unmade → Type 0
HasStepped story key here m n r = TidySteps r key here (view_of m) (view_of n) m.machine.work.session n.machine.work.session m.machine.work.log n.machine.work.log (story m.machine.work.disk) (story n.machine.work.disk) (n.machine.work ≡ m.machine.work)

-- nothing is put back
pub none_lost : {D : Type 0} (story : D → Story) (key : ℕ) (here : At) (m n : PagedMachine D) (made : Unmade) → HasStepped story key here m n (Err made) → IsLost made → ⊥
none_lost story key here m n unmade.Lost d is = absurd d
none_lost story key here m n (unmade.Cold cold) d is = is
none_lost story key here m n (unmade.Unserved why) d is = is

pub never_needs : (why : Unserved) (page l : ℕ) → ◌≡◌ {A = Result Tidied Unserved} (Err why) (Ok (tidied.Needs page l)) → ⊥
never_needs why page l e = cc

pub same_needs : (t : Tidied) (page l : ℕ) → ◌≡◌ {A = Result Tidied Unserved} (Ok t) (Ok (tidied.Needs page l)) → ◌≡◌ {A = Result Tidied Unmade} (Ok t) (Ok (tidied.Needs page l))
same_needs t page l e = cc

-- whether the machine works on
pub step_works : {D : Type 0} (story : D → Story) (key : ℕ) (here : At) (m n : PagedMachine D) (A : Type 0) (why : Unserved) → HasStepped story key here m n (Err (unmade.Unserved why)) → works_behind {A = Tidied} (Err (unmade.Unserved why)) ≡ is_working {A = A} (Err why)
step_works story key here m n A (unserved.Refused refusal.RowSpent) d = refl
step_works story key here m n A (unserved.Refused refusal.ClockSpent) d = refl
step_works story key here m n A (unserved.Unanswered unanswered.DiskFault) d = refl
step_works story key here m n A _ d = absurd d

-- a refusal of a step
pub refused_step : {D : Type 0} (story : D → Story) (key : ℕ) (here : At) (m n : PagedMachine D) (made : Unmade) (why : Unserved) → made ≡ unmade.Unserved why → HasStepped story key here m n (Err made) → HasStepped story key here m n (Err (unmade.Unserved why))
refused_step story key here m n made why is d = subst (λ (k : Unmade). HasStepped story key here m n (Err k)) is d

pub refused_works : {D : Type 0} (story : D → Story) (key : ℕ) (here : At) (m n : PagedMachine D) (A : Type 0) (made : Unmade) (why : Unserved) → made ≡ unmade.Unserved why → HasStepped story key here m n (Err made) → works_behind {A = Tidied} (Err made) ≡ is_working {A = A} (Err why)
refused_works story key here m n A made why is d = ap (λ (k : Unmade). works_behind {A = Tidied} (Err k)) is ∙ step_works story key here m n A why (refused_step story key here m n made why is d)

-- where it met a page that is not hot, nothing was done
pub cold_step : {D : Type 0} (story : D → Story) (key : ℕ) (here : At) (m n : PagedMachine D) (made : Unmade) (cold : Cold) → made ≡ unmade.Cold cold → HasStepped story key here m n (Err made) → HasMetCold key cold.page (view_of m) (view_of n) × (n.machine.work ≡ m.machine.work)
cold_step story key here m n made cold is d = subst (λ (k : Unmade). HasStepped story key here m n (Err k)) is d

pub cold_missed : {D : Type 0} (key page : ℕ) (m n : PagedMachine D) → HasMetCold key page (view_of m) (view_of n) → (most : ℕ) → IsMissed most (view_of m) (view_of n)
cold_missed key page m n d most = record { misses = []; are_misses = tt; few = omega arith; given = d.given; seen = d.seen ∙ sym (append-nil (view_of m).seen) }

-- a step that came out so
pub stepped_as : {D : Type 0} (story : D → Story) (key : ℕ) (here : At) (m n : PagedMachine D) (t q : Tidied) → t ≡ q → HasStepped story key here m n (Ok t) → HasStepped story key here m n (Ok q)
stepped_as story key here m n t q e d = subst (λ (x : Tidied). HasStepped story key here m n (Ok x)) e d

module _ (l : Grounds) {D : Type 0} (story : D → Story) (lawful : (d : D) → IsLawful (story d)) (key : ℕ) (here : At) (m n : PagedMachine D) (ready : IsReady story m) (a : IsAside m n) (same : IsSameSession m.machine.work.session n.machine.work.session) where
  abbrev own_here : ℕ
  own_here = m.machine.work.session.own

  module _ (law : EveryOther) (standing : EveryStanding) (fits : SeatFits n.machine) (holding : n.machine.work.session.works ≡ true → Holds (shape n.machine) (view_of n) n.machine.work.session n.machine.work.log) (works : n.machine.work.session.works ≡ true) where
    unmoved : n.machine.work ≡ m.machine.work → (view_of n).given ≡ (view_of m).given → (view_of n).seen ≡ (view_of m).seen → IsReady story n
    unmoved e given seen = ready_on story m n (beside_of m n a (ap (λ (k : Work D). k.log) e) (ap (λ (k : Work D). k.disk) e)) ready law given (looked_same (view_of m) (view_of n) given seen) fits works same (no_steps own_here (view_of m) (view_of n) given seen) (holding works)

    quiet : IsQuietTo (view_of m) (view_of n) → n.machine.work ≡ m.machine.work → IsReady story n
    quiet q e = ready_missed l story lawful m n a key 61 (missed_quiet (view_of m) (view_of n) q) e law ready fits (holding works)

    pub step_ready : (r : Result Tidied Unmade) → works_behind r ≡ true → HasStepped story key here m n r → IsReady story n
    step_ready (Ok tidied.Clean) w d = quiet d.0.quiet d.1
    step_ready (Ok (tidied.Changed there)) w d = ready_tidied l story m n a same ready key here there d.0 law standing fits works (holding works)
    step_ready (Ok (tidied.Needs page level)) w d = quiet d.0.quiet d.1
    step_ready (Err (unmade.Cold cold)) w d = unmoved d.1 d.0.given d.0.seen
    step_ready (Err (unmade.Unserved (unserved.Refused refusal.ClockSpent))) w d = ready_tidied l story m n a same ready key here d.behind d.tidied law standing fits works (holding works)
    step_ready (Err (unmade.Unserved (unserved.Refused refusal.RowSpent))) w d = ready_missed l story lawful m n a key 69 (missed_spent 69 (view_of m) (view_of n) d.0) d.1 law ready fits (holding works)
    step_ready (Err (unmade.Unserved (unserved.Unanswered unanswered.DiskFault))) w d = absurd (true≢false (sym w))
    step_ready (Err (unmade.Unserved _)) w d = absurd d
    step_ready (Err unmade.Lost) w d = absurd d

  -- ## As a round

  tidied_quiet : IsQuietTo (view_of m) (view_of n) → n.machine.work ≡ m.machine.work → HasTidied story key here here 61 m n
  tidied_quiet q e = tidied_missed l story lawful key here 61 m n a (missed_quiet (view_of m) (view_of n) q) e

  -- the change that was next was made, and the key has a value still
  pub changed_round : (there : At) → MayDel key here m → IsWarm (pages m) key 0 → IsLive key there n → HasStepped story key here m n (Ok (tidied.Changed there)) → TidiesOn story key here there 69 m n
  changed_round there may warm live d = record {
    made = tidied_up story key here there 62 69 m n (omega arith) (made_tidied l story m n a same ready key here there d.0 lawful (half_tidied story key here there m n d.0));
    goes = record { may = may_tidied story key here there m n d.0 may d.1; small = d.1.small; warm = d.0.warm warm; live = live };
    fewer = subst (λ (q : Given). left_of (opening q).format.levels there < left_of (opening (view_of m).given).format.levels here) (sym d.0.given) (fewer_tidied story key here there m n d.0 may).fewer;
  }

  goes_quiet : IsQuietTo (view_of m) (view_of n) → n.machine.work ≡ m.machine.work → MayDel key here m → m.machine.work.session.clock.clock < 2 ^ 62 → IsWarm (pages m) key 0 → IsLive key here m → GoesOn key here n
  goes_quiet q e may small warm live =
      let k = missed_quiet (view_of m) (view_of n) q in
      record { may = may_missed key here m n k e may; small = small_missed key here m n k e small; warm = warm_missed key here m n k e warm; live = live_missed key here m n k e live }

  -- none is left
  pub clean_round : MayDel key here m → m.machine.work.session.clock.clock < 2 ^ 62 → IsWarm (pages m) key 0 → IsLive key here m → HasStepped story key here m n (Ok tidied.Clean) → HasTidiedAll story key here 69 m n
  clean_round may small warm live d = record {
    there = here;
    made = tidied_up story key here here 61 69 m n (omega arith) (tidied_quiet d.0.quiet d.1);
    goes = goes_quiet d.0.quiet d.1 may small warm live;
    tidy = tidy_missed key here m n (missed_quiet (view_of m) (view_of n) d.0.quiet) d.1 d.0.next;
  }

  -- it was refused, or failed
  pub refused_round : (why : Unserved) → MayDel key here m → HasStepped story key here m n (Err (unmade.Unserved why)) → TidyEnds story key here 69 why m n
  refused_round (unserved.Refused refusal.ClockSpent) may d = record {
    there = d.behind;
    made = tidied_up story key here d.behind 62 69 m n (omega arith) (made_tidied l story m n a same ready key here d.behind d.tidied lawful (half_tidied story key here d.behind m n d.tidied));
    going = going_tidied story key here d.behind m n d.tidied (going_of key here m may);
    spent = d.spent;
  }
  refused_round (unserved.Refused refusal.RowSpent) may d = record { there = here; made = tidied_missed l story lawful key here 69 m n a (missed_spent 69 (view_of m) (view_of n) d.0) d.1; spent = inl (inl d.0.many) }
  refused_round (unserved.Unanswered unanswered.DiskFault) may d = inl (record { between = m; there = here; made = tidied_up story key here here 0 69 m m (omega arith) (tidied_none l story lawful key here m m (still_self story m)); keeps = d })
  refused_round _ may d = absurd d

  -- a neighbour is wanted
  pub wished_round : (page level : ℕ) → MayDel key here m → m.machine.work.session.clock.clock < 2 ^ 62 → IsWarm (pages m) key 0 → IsLive key here m → HasStepped story key here m n (Ok (tidied.Needs page level)) → HasWished story key here page level 69 m n
  wished_round page level may small warm live d = record {
    made = tidied_up story key here here 61 69 m n (omega arith) (tidied_quiet d.0.quiet d.1);
    goes = goes_quiet d.0.quiet d.1 may small warm live;
    passed = passed_missed key here m n (missed_quiet (view_of m) (view_of n) d.0.quiet) d.1 level d.0.passed;
    wants = wants_missed key here m n (missed_quiet (view_of m) (view_of n) d.0.quiet) d.1 page level d.0.neighbour;
  }

-- ## One behind the other

module _ (l : Grounds) {D : Type 0} (story : D → Story) (lawful : (d : D) → IsLawful (story d)) (key : ℕ) (here mid : At) (a b : ℕ) (m u n : PagedMachine D) (d : HasTidied story key here mid a m u) where
  abbrev more : (there : At) (k : PagedMachine D) → HasTidied story key mid there b u k → HasTidied story key here there (a + b) m k
  more there k e = tidied_then l story lawful key here mid there a b m u k d e

  spent_back : IsSpent u n → IsSpent m n
  spent_back (inl old) = inl old
  spent_back (inr h) = inr (record { session = h.session; low = h.low; high = (let e = d.same.0 in let k = h.high in omega arith); half = sym (d.halves h.session h.low (let e = d.same.0 in let k = h.high in omega arith)) ∙ h.half })

  nowhere_back : StandsNowhere story u → StandsNowhere story m
  nowhere_back nowhere g xs first s s0 k st o =
      let met = (d.part.logged g xs first s).met in
      let r = d.part.goes g xs first s s0 k st o in
      nowhere g xs (first ++ events_of d.events) (behind_more g xs first (view_of m) s d.events (view_of u) d.part.given d.part.seen met) s0 r.known r.moved.stands r.has

  pub ends_then : (why : Unserved) → TidyEnds story key mid b why u n → TidyEnds story key here (a + b) why m n
  ends_then (unserved.Refused refusal.RowSpent) e = record { there = e.there; made = more e.there n e.made; spent = spent_back e.spent }
  ends_then (unserved.Refused refusal.ClockSpent) e = record { there = e.there; made = more e.there n e.made; going = e.going; spent = e.spent }
  ends_then (unserved.Unanswered unanswered.DiskFault) (inl f) = inl (record { between = f.between; there = f.there; made = more f.there f.between f.made; keeps = subst (λ w. KeepsLog w f.between.machine.work.log (story f.between.machine.work.disk) (story n.machine.work.disk)) d.turn f.keeps })
  ends_then (unserved.Unanswered unanswered.DiskFault) (inr f) = inr (record { between = f.between; there = f.there; made = more f.there f.between f.made; failed = f.failed })
  ends_then (unserved.Unanswered (unanswered.Damaged place)) e = (record { between = e.0.between; there = e.0.there; made = more e.0.there e.0.between e.0.made; failed = e.0.failed }, nowhere_back e.1)
  ends_then _ e = absurd e

  pub dels_then : (r : Result (Option ℕ) Unserved) → Dels story key mid b r u n → Dels story key here (a + b) r m n
  dels_then (Ok (Some before)) e = record {
    between = e.between;
    there = e.there;
    made = more e.there e.between e.made;
    tidy = e.tidy;
    changed = subst (λ (w : ℕ). IsChanged w (view_of e.between) (view_of n) key TOMBSTONE (Some before) e.between.machine.work.log n.machine.work.log (story e.between.machine.work.disk) (story n.machine.work.disk)) d.turn e.changed;
    ready = e.ready;
    aside = e.aside;
    session = e.session;
    is_half_aborted = e.is_half_aborted;
  }
  dels_then (Ok None) e = record {
    between = e.between;
    there = e.there;
    made = more e.there e.between e.made;
    unchanged = e.unchanged;
    read = subst (λ (w : ℕ). HasRead w (view_of e.between) (view_of n) key None) d.turn e.read;
    ready = e.ready;
    may = e.may;
    beside = e.beside;
    session = e.session;
    is_half_aborted = e.is_half_aborted;
  }
  dels_then (Err why) e = ends_then why e

  pub all_then : HasTidiedAll story key mid b u n → HasTidiedAll story key here (a + b) m n
  all_then e = record { there = e.there; made = more e.there n e.made; goes = e.goes; tidy = e.tidy }

-- in no more events than so many
module _ {D : Type 0} (story : D → Story) (key : ℕ) (here : At) (a b : ℕ) (m n : PagedMachine D) (le : a ≤ b) where
  pub ends_up : (why : Unserved) → TidyEnds story key here a why m n → TidyEnds story key here b why m n
  ends_up (unserved.Refused refusal.RowSpent) e = record { there = e.there; made = tidied_up story key here e.there a b m n le e.made; spent = e.spent }
  ends_up (unserved.Refused refusal.ClockSpent) e = record { there = e.there; made = tidied_up story key here e.there a b m n le e.made; going = e.going; spent = e.spent }
  ends_up (unserved.Unanswered unanswered.DiskFault) (inl f) = inl (record { between = f.between; there = f.there; made = tidied_up story key here f.there a b m f.between le f.made; keeps = f.keeps })
  ends_up (unserved.Unanswered unanswered.DiskFault) (inr f) = inr (record { between = f.between; there = f.there; made = tidied_up story key here f.there a b m f.between le f.made; failed = f.failed })
  ends_up (unserved.Unanswered (unanswered.Damaged place)) e = (record { between = e.0.between; there = e.0.there; made = tidied_up story key here e.0.there a b m e.0.between le e.0.made; failed = e.0.failed }, e.1)
  ends_up _ e = absurd e

  pub all_up : HasTidiedAll story key here a m n → HasTidiedAll story key here b m n
  all_up e = record { there = e.there; made = tidied_up story key here e.there a b m n le e.made; goes = e.goes; tidy = e.tidy }

  pub on_up : (there : At) → TidiesOn story key here there a m n → TidiesOn story key here there b m n
  on_up there e = record { made = tidied_up story key here there a b m n le e.made; goes = e.goes; fewer = e.fewer }

-- ## The coming of pages

-- where a sync is said to stand more widely
pub gone_weaker : {D : Type 0} (story : D → Story) (P Q : Opening → State → Type 0) → ((g : Opening) (s : State) → P g s → Q g s) → (most : ℕ) (m n : PagedMachine D) → HasGoneWhere story P most m n → HasGoneWhere story Q most m n
gone_weaker story P Q wide most m n g = record {
  paged = record {
    events = g.paged.events;
    given = g.paged.given;
    seen = g.paged.seen;
    paging = g.paged.paging;
    few = g.paged.few;
    same = g.paged.same;
    turn = g.paged.turn;
    sessions = g.paged.sessions;
    logged = g.paged.logged;
    master = g.paged.master;
    behind = g.paged.behind;
    tight = λ h xs first b. syncs_weaker (P h) (Q h) (wide h) h (events_of g.paged.events) (behind_first h xs first) false (g.paged.tight h xs first b);
  };
  few = g.few;
  part = g.part;
}

pub way_around : {D : Type 0} (story : D → Story) (key most : ℕ) (m n : PagedMachine D) → HasGone story key most m n → HasGoneWhere story (IsTightAround key) most m n
way_around story key most m n g = gone_weaker story (λ h s. IsTight h s key) (IsTightAround key) (λ h s t. inl t) most m n g

module _ (l : Grounds) {D : Type 0} (story : D → Story) (lawful : (d : D) → IsLawful (story d)) (key : ℕ) (here : At) (m n : PagedMachine D) where
  made_here : HasTidied story key here here 0 m m
  made_here = tidied_none l story lawful key here m m (still_self story m)

  -- pages did not come
  pub unwarmed_ends : (most bound : ℕ) → most ≤ bound → (why : Unwarmed) → (goes_on {A = Unit {0}} (Err why) ≡ true → HasGoneWhere story (IsTightAround key) most m n) → (goes_on {A = Unit {0}} (Err why) ≡ false → HasFailed story m n) → (why ≡ stopped.RowSpent → IsSpent m n)
      → ((page : ℕ) → (why ≡ stopped.Damaged page) ⊎ (why ≡ stopped.Altered page) → StandsNowhere story m) → TidyEnds story key here bound (unserved_of why) m n
  unwarmed_ends most bound up stopped.RowSpent gone failed spent damaged = record { there = here; made = tidied_up story key here here most bound m n up (tidied_come l story lawful key here most m n (gone refl)); spent = spent refl }
  unwarmed_ends most bound up stopped.DiskFault gone failed spent damaged = inr (record { between = m; there = here; made = tidied_up story key here here 0 bound m m (omega arith) made_here; failed = failed refl })
  unwarmed_ends most bound up (stopped.Damaged page) gone failed spent damaged = (record { between = m; there = here; made = tidied_up story key here here 0 bound m m (omega arith) made_here; failed = failed refl }, damaged page (inl refl))
  unwarmed_ends most bound up (stopped.Altered page) gone failed spent damaged = (record { between = m; there = here; made = tidied_up story key here here 0 bound m m (omega arith) made_here; failed = failed refl }, damaged page (inr refl))

-- ## The change of the key

-- a read is of a leaf of the key
leaf_read : (own : ℕ) (g : Opening) (s : State) (page key : ℕ) (value : Option ℕ) → may g s (happening.Event.Read own page key value) ≡ true → (page < g.format.pages) × (holds (nodes_of s page) key ≡ true)
leaf_read own g s page key value met =
    let n = nodes_of s page in
    let a = and_parts (are_hot s (page ∷ [])) (needs g s (happening.Event.Read own page key value)) met in
    let b = and_parts (may_read g s own page key) (is_value value (value_in g.format n key)) a.1 in
    let c = and_parts (s.worker own).is_open (holds_row (s.row (g.row_of key)) own && (ltb page g.format.pages && holds n key)) b.0 in
    let d = and_parts (holds_row (s.row (g.row_of key)) own) (ltb page g.format.pages && holds n key) c.1 in
    let e = and_parts (ltb page g.format.pages) (holds n key) d.1 in
    (ltb-true page g.format.pages e.0, e.1)

module _ (l : Grounds) {D : Type 0} (story : D → Story) (lawful : (d : D) → IsLawful (story d)) (key : ℕ) (here there : At) (most : ℕ) (m u n : PagedMachine D) (made : HasTidied story key here there most m u) (ready : IsReady story u) (a : IsAside u n) (same : IsSameSession u.machine.work.session n.machine.work.session) where
  abbrev HasDone : Result (Option ℕ) Unmade → Type 0
  HasDone r = Did r u.machine.work.session.own (view_of u) (view_of n) key u.machine.work.log n.machine.work.log (story u.machine.work.disk) (story n.machine.work.disk) (n.machine.work ≡ u.machine.work) (n.machine.work.disk ≡ u.machine.work.disk)

  module _ (may : MayDel key there u) (live : IsLive key there u) (tidy : IsTidy key there u) where
    -- a key that was tidied for is there
    unchanged : HasRead u.machine.work.session.own (view_of u) (view_of n) key None → stage_of there ≡ Stage.Before
    unchanged r = elim live [ inl b ↦ b | inr v ↦ absurd (lost v) ]
      where
        at : (r.page < (opening (view_of u).given).format.pages) × (holds (nodes_of (state (view_of u)).core r.page) key ≡ true)
        at = leaf_read u.machine.work.session.own (opening (view_of u).given) (state (view_of u)).core r.page key None r.met

        lost : HasValue key u → ⊥
        lost v = true≢false (sym (v r.page at.0 at.1) ∙ ap is_some (sym r.told))

    pub dels_ok : (was : Option ℕ) → n.machine.work.session.is_half_aborted ≡ u.machine.work.session.is_half_aborted → HasDone (Ok was) → Dels story key here most (Ok was) m n
    dels_ok (Some before) half d = record {
      between = u;
      there = there;
      made = made;
      tidy = tidy;
      changed = subst (λ (w : ℕ). IsChanged w (view_of u) (view_of n) key TOMBSTONE (Some before) u.machine.work.log n.machine.work.log (story u.machine.work.disk) (story n.machine.work.disk)) made.turn d;
      ready = ready;
      aside = a;
      session = same;
      is_half_aborted = half;
    }
    dels_ok None half d = record {
      between = u;
      there = there;
      made = made;
      unchanged = unchanged d.0;
      read = subst (λ (w : ℕ). HasRead w (view_of u) (view_of n) key None) made.turn d.0;
      ready = ready;
      may = may;
      beside = beside_of u n a d.1 d.2;
      session = same;
      is_half_aborted = half;
    }

  -- or refused
  pub dels_refused : (why : Unserved) → HasDone (Err (unmade.Unserved why)) → TidyEnds story key here most why m n
  dels_refused (unserved.Refused refusal.RowSpent) d = record {
    there = there;
    made = tidied_up story key here there (most + 0) most m n (omega arith) (tidied_then l story lawful key here there there most 0 m u n made (tidied_none l story lawful key there u n (still_cold story u n a d.0.given d.0.seen d.1)));
    spent = inl (inl d.0.many);
  }
  dels_refused (unserved.Unanswered unanswered.DiskFault) d = inl (record { between = u; there = there; made = made; keeps = subst (λ (w : ℕ). KeepsLog w u.machine.work.log (story u.machine.work.disk) (story n.machine.work.disk)) made.turn d })
  dels_refused _ d = absurd d

  -- by the call's own answer
  pub dels_by : MayDel key there u → IsLive key there u → IsTidy key there u → (r : Result (Option ℕ) Unserved) → (works_behind (as_made r) ≡ true → n.machine.work.session.is_half_aborted ≡ u.machine.work.session.is_half_aborted) → HasDone (as_made r) → Dels story key here most r m n
  dels_by may live tidy (Ok was) half d = dels_ok may live tidy was (half refl) d
  dels_by may live tidy (Err why) half d = dels_refused why d

-- ## At once

-- nothing was done
pub undone_missed : {D : Type 0} (m n : PagedMachine D) (same : Type 0) → IsUndone (view_of m) (view_of n) same → (most : ℕ) → IsMissed most (view_of m) (view_of n)
undone_missed m n same d most = record { misses = []; are_misses = tt; few = omega arith; given = d.given; seen = d.seen ∙ sym (append-nil (view_of m).seen) }

module _ (l : Grounds) {D : Type 0} (story : D → Story) (lawful : (d : D) → IsLawful (story d)) (key most : ℕ) (m n : PagedMachine D) (ready : IsReady story m) (a : IsAside m n) (same : IsSameSession m.machine.work.session n.machine.work.session) where
  abbrev pub HasDoneAtOnce : Result AtOnce Unmade → Type 0
  HasDoneAtOnce r = DelsAtOnce r key (view_of m) (view_of n) m.machine.work.session m.machine.work.log n.machine.work.log (story m.machine.work.disk) (story n.machine.work.disk) (n.machine.work ≡ m.machine.work) (n.machine.work.disk ≡ m.machine.work.disk)

  none_yet : HasTidied story key reached.Before reached.Before most m m
  none_yet = tidied_up story key reached.Before reached.Before 0 most m m (omega arith) (tidied_none l story lawful key reached.Before m m (still_self story m))

  pub at_once_done : MayDel key reached.Before m → (was : Option ℕ) → n.machine.work.session.is_half_aborted ≡ m.machine.work.session.is_half_aborted → HasDoneAtOnce (Ok (at_once.Done was)) → Dels story key reached.Before most (Ok was) m n
  at_once_done may was half d = dels_ok l story lawful key reached.Before reached.Before most m m n none_yet ready a same may (inl refl) d.0 was half d.1

  -- as it came out
  pub once_as : (t q : AtOnce) → t ≡ q → HasDoneAtOnce (Ok t) → HasDoneAtOnce (Ok q)
  once_as t q e d = subst (λ (x : AtOnce). HasDoneAtOnce (Ok x)) e d

  pub once_cold : (made : Unmade) (cold : Cold) → made ≡ unmade.Cold cold → HasDoneAtOnce (Err made) → HasMetCold key cold.page (view_of m) (view_of n) × (n.machine.work ≡ m.machine.work)
  once_cold made cold is d = subst (λ (k : Unmade). HasDoneAtOnce (Err k)) is d

  pub once_unserved : (made : Unmade) (why : Unserved) → made ≡ unmade.Unserved why → HasDoneAtOnce (Err made) → HasDoneAtOnce (Err (unmade.Unserved why))
  once_unserved made why is d = subst (λ (k : Unmade). HasDoneAtOnce (Err k)) is d

  -- nothing is put back
  pub once_lost : (made : Unmade) → HasDoneAtOnce (Err made) → IsLost made → ⊥
  once_lost unmade.Lost d is = absurd d
  once_lost (unmade.Cold cold) d is = is
  once_lost (unmade.Unserved why) d is = is

  -- whether the machine works on
  pub once_works : (why : Unserved) → HasDoneAtOnce (Err (unmade.Unserved why)) → works_behind {A = AtOnce} (Err (unmade.Unserved why)) ≡ is_working {A = Option ℕ} (Err why)
  once_works (unserved.Refused refusal.RowSpent) d = refl
  once_works (unserved.Unanswered unanswered.DiskFault) d = refl
  once_works _ d = absurd d

  pub once_works_on : (made : Unmade) (why : Unserved) → made ≡ unmade.Unserved why → HasDoneAtOnce (Err made) → works_behind {A = AtOnce} (Err made) ≡ is_working {A = Option ℕ} (Err why)
  once_works_on made why is d = ap (λ (k : Unmade). works_behind {A = AtOnce} (Err k)) is ∙ once_works why (once_unserved made why is d)

  -- behind nothing that was done
  pub once_then : IsMissed 0 (view_of m) (view_of n) → n.machine.work ≡ m.machine.work → (k : PagedMachine D) (r : Result (Option ℕ) Unserved) → Dels story key reached.Before most r n k → Dels story key reached.Before most r m k
  once_then q e k r d = subst (λ (b : ℕ). Dels story key reached.Before b r m k) (let same : 0 + most ≡ most = omega arith in same) (dels_then l story lawful key reached.Before reached.Before 0 most m n k (tidied_missed l story lawful key reached.Before 0 m n a q e) r d)

  pub at_once_refused : (why : Unserved) → HasDoneAtOnce (Err (unmade.Unserved why)) → Dels story key reached.Before most (Err why) m n
  at_once_refused why d = dels_refused l story lawful key reached.Before reached.Before most m m n none_yet ready a same why d

-- ## A neighbour

-- the key's way and the free pages aside, so much is so behind the coming of pages
module _ {D : Type 0} (story : D → Story) (key : ℕ) (here : At) (most : ℕ) (P : Opening → State → Type 0) (m n : PagedMachine D) (ready : IsReady story m) (p : HasPagedWhere P most m n) where
  k : IsKept m.machine.work.session n.machine.work.session
  k = kept_own story key most m n ready p

  rows_there : (state (view_of n)).core.row ≡ (state (view_of m)).core.row
  rows_there = rows_kept (view_of m) (view_of n) p.events p.paging p.given p.seen

  pub may_come : MayDel key here m → MayDel key here n
  may_come f = record {
    is_open = ap (λ (x : Session). x.is_open) k.session ∙ f.is_open;
    whole = ap (λ (x : Session). x.is_half_aborted) k.session ∙ f.whole;
    few = let a = ap (λ (x : Session). length x.undo) k.session in let b = f.few in omega arith;
    room = subst (λ (q : Given). HasRoomToStage n.machine.work.log (suc (left_of (opening q).format.levels here))) (sym p.given)
        (let a = f.room in let c = gone_no_fuller story key most m n ready p in let d = c.fill in let e = c.blocks in omega arith);
    row = (λ i. is_held_by ((rows_there i) (key % (ap (λ (x : Session). x.held.count) k.session) i)).holder ((ap (λ (x : Session). x.own) k.session) i)) ∙ f.row;
    within = subst (λ (q : Given). level_of here ≤ (opening q).format.levels) (sym p.given) f.within;
  }

  -- pages are as they were but for the entries of leaves
  like_come : AreLike (state (view_of m)).core (state (view_of n)).core
  like_come = subst (λ (t : State). AreLike (state (view_of m)).core t) (sym core_run) (run_came (opening (view_of m).given) p.events (state (view_of m)).core resides_on (core_paging m.machine.work.session.own p.events (making_paging m.machine.work.session.own p.events p.paging) (paging_structure p.events p.paging)))
    where
      core_run : (state (view_of n)).core ≡ core.run (opening (view_of m).given) (state (view_of m)).core (events_of p.events)
      core_run = ap (λ (x : Moment). x.core) (seen_state (view_of m) (view_of n) p.events p.given p.seen) ∙ run_core (view_of m).given (state (view_of m)) p.events

      resides_on : (more : List Event) → Residence (opening (view_of m).given) (core.run (opening (view_of m).given) (state (view_of m)).core (events_of more))
      resides_on more = subst (λ (t : State). Residence (opening (view_of m).given) t) (ap (λ (x : Moment). x.core) (run_append (view_of m).given (begun (view_of m).given) (view_of m).seen more) ∙ run_core (view_of m).given (state (view_of m)) more)
          (ready.keeps.sound ((view_of m).seen ++ more)).residence

  -- ## One neighbour came, and beside it no page has other entries

  module _ (page level : ℕ) (passed : HasPassed key here level m) (wants : WantsNeighbour key page level m) (warm : IsWarm (pages m) key 0) (warm_now : IsWarm (pages n) key 0) (hot : is_hot ((state (view_of n)).core.place page) ≡ true)
      (others : (q : ℕ) → (q ≡ page → ⊥) → nodes_of (state (view_of n)).core q ≡ nodes_of (state (view_of m)).core q) where
    abbrev g : Opening
    g = opening (view_of m).given

    abbrev s : State
    s = (state (view_of m)).core

    abbrev t : State
    t = (state (view_of n)).core

    tree : IsTree g.format (nodes_of s)
    tree = (ready.keeps.sound (view_of m).seen).tree

    passed_there : HasPassed key here level n
    passed_there = subst (λ (q : Given × ℕ). IsPassed q.1 (opening q.0) t key here level) (λ i. (sym p.given i, sym p.turn i))
        (passed_kept g s t tree key page warm wants.cold like_come others m.machine.work.session.own here level (neighbour_level g s tree key level page wants) passed)

    wanted_there : (q : ℕ) → WantsNeighbour key q level n → ⊥
    wanted_there q w = none_wanted g s t tree key page warm wants.cold like_come others level wants (subst (λ (o : Given). IsWarmFrom (opening o) t key 0) p.given warm_now) hot q (subst (λ (o : Given). IsNeighbour (opening o) t key level q) p.given w)

    -- the key's leaf is of its way, which was hot
    live_there : IsLive key here m → IsLive key here n
    live_there (inl b) = inl b
    live_there (inr v) = inr (subst (λ (o : Given). (q : ℕ) → q < (opening o).format.pages → holds (nodes_of t q) key ≡ true → is_some (value_in (opening o).format (nodes_of t q) key) ≡ true) (sym p.given) each)
      where
        each : (q : ℕ) → q < g.format.pages → holds (nodes_of t q) key ≡ true → is_some (value_in g.format (nodes_of t q) key) ≡ true
        each q lt h =
            let over : covers (nodes_of s q) key ≡ true = ap (λ (x : Node). covers x key) (sym (like_come q).fields) ∙ (and_parts (is_leaf (nodes_of t q)) (covers (nodes_of t q) key) h).1 in
            let same = others q (λ e. true≢false (sym (warm q lt over (omega arith)) ∙ (ap (λ (i : ℕ). is_hot (s.place i)) e ∙ wants.cold))) in
            ap (λ (x : Node). is_some (value_in g.format x key)) same ∙ v q lt (ap (λ (x : Node). holds x key) (sym same) ∙ h)

    pub neighbour_came : (l : Grounds) → ((d : D) → IsLawful (story d)) → HasGoneWhere story (IsTightAround key) most m n → most ≤ most_a_coming → MayDel key here m → IsLive key here m → n.machine.work.session.clock.clock < 2 ^ 62
        → BringsNeighbour story key here level most_a_coming (Ok tt) m n
    neighbour_came l lawful gone few may live small = (
      tidied_up story key here here most most_a_coming m n few (tidied_come l story lawful key here most m n gone),
      (record { may = may_come may; small = small; warm = warm_now; live = live_there live }, (passed_there, wanted_there)),
    )

-- a neighbour is named by a page of the key's way
pub wants_named : {D : Type 0} (story : D → Story) (key page level : ℕ) (m : PagedMachine D) → IsReady story m → WantsNeighbour key page level m → IsNamed (pages m) key page
wants_named story key page level m ready w =
    let g = opening (view_of m).given in
    let s = (state (view_of m)).core in
    let tree = (ready.keeps.sound (view_of m).seen).tree in
    let a = parent_at g s tree key level page w in
    record { parent = w.parent; below = a.below; on = a.covers_key; names = parent_names g s tree key level page w }

-- what the coming of one has at most
pub coming_few : {D : Type 0} (story : D → Story) (m : PagedMachine D) → IsReady story m → most_a_level m.machine.work.session.workers ≤ most_a_coming
coming_few story m ready = let w = (holds_of (shape m.machine) (view_of m) (seat m.machine) m.machine.desks.items ready.sound.desks).rows.most in omega arith

-- ## Higher up

-- the next neighbour is of a higher level, since this one wants none
pub climbs_up : {D : Type 0} (key : ℕ) (m : PagedMachine D) (height level page : ℕ) → height ≤ level → ((p : ℕ) → WantsNeighbour key p height m → ⊥) → IsNeighbour (opening (view_of m).given) (state (view_of m)).core key level page → height < level
climbs_up key m height level page le none w = elim (cases_eq level height) [
  | inl e ↦ absurd (none page (subst (λ (i : ℕ). IsNeighbour (opening (view_of m).given) (state (view_of m)).core key i page) e w))
  | inr ne ↦ strict height level le (λ e. ne (sym e))
]
  where
    strict : (a b : ℕ) → a ≤ b → (a ≡ b → ⊥) → a < b
    strict a b up ne = elim (cases_eq a b) [ inl e ↦ absurd (ne e) | inr n ↦ (let x = up in let y = n in omega arith) ]

-- ## The first step of a round, and the others

module _ (l : Grounds) {D : Type 0} (story : D → Story) (lawful : (d : D) → IsLawful (story d)) (key : ℕ) (here : At) (a b : ℕ) (m u n : PagedMachine D) (d : HasTidied story key here here a m u) (same : (view_of u).given ≡ (view_of m).given) where
  pub rounds_then : (r : Result (Option At) Unserved) → TidyRounds story key here b r u n → TidyRounds story key here (a + b) r m n
  rounds_then (Ok (Some there)) e = record {
    made = tidied_then l story lawful key here here there a b m u n d e.made;
    goes = e.goes;
    fewer = subst (λ (q : Given). left_of (opening (view_of n).given).format.levels there < left_of (opening q).format.levels here) same e.fewer;
  }
  rounds_then (Ok None) e = all_then l story lawful key here here a b m u n d e
  rounds_then (Err why) e = ends_then l story lawful key here here a b m u n d why e

pub rounds_up : {D : Type 0} (story : D → Story) (key : ℕ) (here : At) (a b : ℕ) (m n : PagedMachine D) → a ≤ b → (r : Result (Option At) Unserved) → TidyRounds story key here a r m n → TidyRounds story key here b r m n
rounds_up story key here a b m n le (Ok (Some there)) e = on_up story key here a b m n le there e
rounds_up story key here a b m n le (Ok None) e = all_up story key here a b m n le e
rounds_up story key here a b m n le (Err why) e = ends_up story key here a b m n le why e

-- a round that came out so
pub round_as : {D : Type 0} (story : D → Story) (key : ℕ) (here : At) (most : ℕ) (m n : PagedMachine D) (a b : Option At) → a ≡ b → TidyRounds story key here most (Ok a) m n → TidyRounds story key here most (Ok b) m n
round_as story key here most m n a b e d = subst (λ (q : Option At). TidyRounds story key here most (Ok q) m n) e d

-- ## All rounds

module _ (l : Grounds) {D : Type 0} (story : D → Story) (lawful : (d : D) → IsLawful (story d)) (key : ℕ) (here mid : At) (a b : ℕ) (m u n : PagedMachine D) (d : HasTidied story key here mid a m u) where
  pub tidies_then : (r : Result (Unit {0}) Unserved) → TidiesAll story key mid b r u n → TidiesAll story key here (a + b) r m n
  tidies_then (Ok tt) e = all_then l story lawful key here mid a b m u n d e
  tidies_then (Err why) e = ends_then l story lawful key here mid a b m u n d why e

pub tidies_up : {D : Type 0} (story : D → Story) (key : ℕ) (here : At) (a b : ℕ) (m n : PagedMachine D) → a ≤ b → (r : Result (Unit {0}) Unserved) → TidiesAll story key here a r m n → TidiesAll story key here b r m n
tidies_up story key here a b m n le (Ok tt) e = all_up story key here a b m n le e
tidies_up story key here a b m n le (Err why) e = ends_up story key here a b m n le why e
