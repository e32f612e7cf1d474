-- What a put did behind the taking of its row, round by round.
use Rattle.std.proofs.Common.{◌≡◌, ◌∙◌, ◌⊎◌, inl, inr, ◌≤◌, ◌<◌, ◌+◌, ◌*◌, ◌^◌, ◌%◌, ◌-◌, ◌++◌, ◌==◌, ◌&&◌, cond, ℕ, suc, true, false, List, [], ◌∷◌, Option, Some, None, Result, Ok, Err, length, ap, refl, sym, subst, arith, true≢false}
use Rattle.std.proofs.lemmas.Bool.{and_from, and_parts, eq-eqb}
use Rattle.map_model.specs.Lists.{Has}
use Rattle.map_model.specs.declared.call.Refusal.{Refusal}
use Rattle.map_model.specs.declared.call.Refusal.TheVariants as refusal
use Rattle.paged_desks.specs.engine_trait.declared.unserved.Unanswered.TheVariants as unanswered
use Rattle.paged_desks.specs.engine_trait.declared.unserved.Unserved.{Unserved}
use Rattle.paged_desks.specs.engine_trait.declared.unserved.Unserved.TheVariants as unserved
use Rattle.paged_desks.specs.core_calls.Warms.{IsWarmFrom}
use Rattle.paged_desks.specs.core_calls.Room.{EveryRoom, free_list, is_full_at, room_takes}
use Rattle.paged_desks.specs.core_paging.Paging.{EveryResidence, Residence}
use Rattle.paged_desks.specs.core_state.Needs.{is_held_by}
use Rattle.paged_desks.specs.core_state.Openings.{Opening}
use Rattle.paged_desks.specs.core_state.States.{State, nodes_of}
use Rattle.paged_desks.specs.core_state.Steps as core
use Rattle.lean_disk.specs.Story.{IsLawful, Story}
use Rattle.page_model.specs.Nodes as nodes
use Rattle.page_model.specs.Nodes.{covers, is_leaf}
use Rattle.page_model.specs.Pairs.{find}
use Rattle.paged_desks.specs.page_pool.Pools.{EveryStanding}
use Rattle.row_room.proofs.row_changes.TakesLemmas.{takes_most}
use Rattle.row_room.specs.row_changes.Paths.{IsUnfit}
use Rattle.row_room.specs.row_changes.Puts.{IsChanged, MayChange, works_behind}
use Rattle.row_room.specs.row_changes.Ways.{IsLost}
use Rattle.row_room.specs.row_changes.declared.ways.Unmade.{Unmade}
use Rattle.row_room.specs.row_changes.declared.ways.Unmade.TheVariants as unmade
use Rattle.row_room.specs.Outcomes.{Steps}
use Rattle.row_room.specs.Outcomes.{Crowded}
use Rattle.row_room.specs.Rooms as rooms
use Rattle.row_room.specs.row_growth.Rooms.{frame_among}
use Rattle.row_room.specs.row_growth.declared.room.Placed.{Placed}
use Rattle.row_room.specs.declared.steps.Stepped.{Stepped}
use Rattle.row_room.specs.declared.steps.Stepped.TheVariants as stepped
use Rattle.paged_desks.specs.paged_rows.Paged.{IsWarm}
use Rattle.paged_desks.proofs.row_words.SealedLemmas.{run_append}
use Rattle.paged_desks.specs.row_words.declared.event.Event.{Event}
use Rattle.paged_desks.specs.row_words.declared.given.Given.{Given}
use Rattle.paged_desks.specs.row_words.Moments.{Moment, events_of}
use Rattle.paged_desks.specs.row_words.Sealed.{begun}
use Rattle.paged_desks.specs.row_words.Openings.{opening}
use Rattle.paged_desks.specs.rows_trait.declared.view.View.{View}
use Rattle.paged_desks.specs.rows_trait.Views.{state}
use Rattle.paged_desks.proofs.session_desks.SeatLemmas.{holds_of}
use Rattle.paged_desks.specs.session_desks.Parts.{SeatFits, here, shape}
use Rattle.paged_desks.proofs.session_state.Moments.{seen_state}
use Rattle.paged_desks.proofs.session_state.OtherLemmas.{no_steps}
use Rattle.paged_desks.proofs.session_state.UndoLemmas.{room_to_stage}
use Rattle.paged_desks.specs.session_state.Free.{first_of}
use Rattle.paged_desks.specs.session_state.Holds.{Holds, IsSameSession}
use Rattle.paged_desks.specs.session_state.Others.{EveryOther}
use Rattle.paged_desks.specs.session_state.Staging.{KeepsLog}
use Rattle.paged_desks.specs.session_state.Undo.{HasRoomToStage}
use Rattle.paged_desks.specs.session_state.tidy_rules.Rooms.{NoneGoes}
use Rattle.paged_desks.specs.engine_trait.Refusals.{room_refusal}
use Rattle.paged_desks.specs.session_state.declared.session.Session.{Session}
use Rattle.paged_desks.specs.session_state.declared.work.Work.{Work}
use Rattle.paged_desks.specs.worker_log.Logs.{Log}
use Rattle.paged_desks.proofs.call_parts.RunLemmas.{behind_more, run_core}
use Rattle.paged_desks.proofs.EndingLemmas.{Grounds}
use Rattle.paged_desks.proofs.StandLemmas.{looked_same, ready_on}
use Rattle.paged_desks.specs.Calls.{IsAside, unserved_of, works_behind as is_working}
use Rattle.paged_desks.specs.Machines.{IsReady, pages, view_of}
use Rattle.paged_desks.specs.Pages.{HasPaged, IsKept, goes_on, most_a_level}
use Rattle.paged_desks.specs.Parts.{HasFailed, HasGone, IsSpent, StandsNowhere}
use Rattle.paged_desks.specs.declared.machine.PagedMachine.{PagedMachine}
use Rattle.paged_desks.specs.declared.warming.Unwarmed.{Unwarmed}
use Rattle.paged_desks.specs.declared.warming.Unwarmed.TheVariants as stopped
use Rattle.paged_calls.specs.Changes.{MayStill}
use Rattle.paged_calls.specs.Growths.{AreLike, HasMade, IsGoing, MayPut}
use Rattle.paged_calls.specs.Rounds.{GoesOnWarm, HasPut, IsPutCrowded, IsWanted, Rounds, most_a_round, most_behind_wish, round_of}
use Rattle.paged_calls.specs.declared.growing.Round.{Round}
use Rattle.paged_calls.specs.declared.growing.Round.TheVariants as round
use Rattle.paged_calls.proofs.ChangeStands.{ready_changed}
use Rattle.paged_calls.proofs.ChangeSteps.{beside_of}
use Rattle.paged_calls.proofs.ChangeWarms.{still_self}
use Rattle.paged_calls.proofs.EventLemmas.{paging_structure}
use Rattle.paged_calls.proofs.GrowthStands.{IsMissed, made_grown, made_missed, missed_core, missed_kept, missed_spent, ready_grown, ready_missed}
use Rattle.paged_calls.proofs.LikeLemmas.{run_came}
use Rattle.paged_calls.proofs.MadeLemmas.{core_paging, made_gone, made_none, made_then, made_up, making_paging}
use Rattle.paged_calls.proofs.RoomLemmas.{gone_no_fuller, rows_kept}
use Rattle.paged_calls.proofs.WarmLemmas.{kept_own}
use Rattle.paged_calls.proofs.WayLemmas.{has_below, takes_least}

-- ## Whether it may be put

-- as the steps ask it
pub may_step : {D : Type 0} (key : ℕ) (m : PagedMachine D) → m.machine.work.session.works ≡ true → m.machine.work.session.clock.clock < 2 ^ 62 → key < 2 ^ 64 - 1 → MayPut key m → MayChange (view_of m) m.machine.work.session m.machine.work.log key
may_step key m works small low f = record { works = works; is_open = f.is_open; whole = f.whole; few = f.few; small = small; room = f.room; row = f.row; key_low = low }

-- and as they leave it
pub may_again : {D : Type 0} (key : ℕ) (m : PagedMachine D) → MayChange (view_of m) m.machine.work.session m.machine.work.log key → MayPut key m
may_again key m f = record { is_open = f.is_open; whole = f.whole; few = f.few; room = f.room; row = f.row }

-- before all rounds
pub may_first : {D : Type 0} (key : ℕ) (m : PagedMachine D) → MayStill key m → MayPut key m
may_first key m f = record {
  is_open = f.is_open;
  whole = f.whole;
  few = f.few;
  room = room_to_stage m.machine.work.log (suc (room_takes (opening (view_of m).given) (state (view_of m)).core key)) f.room (let a = takes_most (opening (view_of m).given) (state (view_of m)).core key in omega arith);
  row = f.row;
}

pub going_of : {D : Type 0} (key : ℕ) (m : PagedMachine D) → MayPut key m → IsGoing m
going_of key m f = record { is_open = f.is_open; whole = f.whole; few = f.few }

-- where the machine is as it was
going_same : {D : Type 0} (m n : PagedMachine D) → n.machine.work ≡ m.machine.work → IsGoing m → IsGoing n
going_same m n e f = record {
  is_open = ap (λ (k : Work _). k.session.is_open) e ∙ f.is_open;
  whole = ap (λ (k : Work _). k.session.is_half_aborted) e ∙ f.whole;
  few = subst (λ (k : Work _). length k.session.undo < 64) (sym e) f.few;
}

-- ## The pages of rows

module _ {D : Type 0} (story : D → Story) (key most : ℕ) (m n : PagedMachine D) (ready : IsReady story m) (p : HasPaged key most m n) where
  abbrev g : Opening
  g = opening (view_of m).given

  abbrev s : State
  s = (state (view_of m)).core

  core_is : (state (view_of n)).core ≡ core.run g s (events_of p.events)
  core_is = ap (λ (x : Moment). x.core) (seen_state (view_of m) (view_of n) p.events p.given p.seen) ∙ run_core (view_of m).given (state (view_of m)) p.events

  resides_on : (more : List Event) → Residence g (core.run g s (events_of more))
  resides_on more = subst (λ (t : State). Residence g t) (ap (λ (x : Moment). x.core) (run_append (view_of m).given (begun (view_of m).given) (view_of m).seen more) ∙ run_core (view_of m).given (state (view_of m)) more)
      (ready.keeps.sound ((view_of m).seen ++ more)).residence

  like : AreLike s (state (view_of n)).core
  like = subst (λ (t : State). AreLike s t) (sym core_is) (run_came g p.events s resides_on (core_paging m.machine.work.session.own p.events (making_paging m.machine.work.session.own p.events p.paging) (paging_structure p.events p.paging)))

  -- where the leaf was full, room takes no more pages
  pub takes_kept : is_full_at g s key 0 ≡ true → room_takes (opening (view_of n).given) (state (view_of n)).core key ≤ room_takes g s key
  takes_kept leaf = subst (λ (q : Given). room_takes (opening q) (state (view_of n)).core key ≤ room_takes g s key) (sym p.given) (takes_least g s (state (view_of n)).core like key leaf)

  k : IsKept m.machine.work.session n.machine.work.session
  k = kept_own story key most m n ready p

  pub going_gone : IsGoing m → IsGoing n
  going_gone f = record {
    is_open = ap (λ (x : Session). x.is_open) k.session ∙ f.is_open;
    whole = ap (λ (x : Session). x.is_half_aborted) k.session ∙ f.whole;
    few = let a = ap (λ (x : Session). length x.undo) k.session in let b = f.few in omega arith;
  }

  pub may_gone : is_full_at g s key 0 ≡ true → MayPut key m → MayPut key n
  may_gone leaf f = record {
    is_open = (going_gone (going_of key m f)).is_open;
    whole = (going_gone (going_of key m f)).whole;
    few = (going_gone (going_of key m f)).few;
    room = let a = f.room in let b = takes_kept leaf in let c = gone_no_fuller story key most m n ready p in let d = c.fill in let e = c.blocks in omega arith;
    row = (λ i. is_held_by ((rows i) (key % (ap (λ (x : Session). x.held.count) k.session) i)).holder ((ap (λ (x : Session). x.own) k.session) i)) ∙ f.row;
  }
    where
      rows : (state (view_of n)).core.row ≡ (state (view_of m)).core.row
      rows = rows_kept (view_of m) (view_of n) p.events p.paging p.given p.seen

-- a leaf without room for the key is full
pub unfit_full : {D : Type 0} (key leaf : ℕ) (m : PagedMachine D) → IsUnfit (view_of m) key leaf → is_full_at (opening (view_of m).given) (state (view_of m)).core key 0 ≡ true
unfit_full key leaf m k =
    let g = opening (view_of m).given in
    let s = (state (view_of m)).core in
    let n = (s.page leaf).node in
    let a = and_parts (is_leaf n) (covers n key) k.holds in
    let b = and_parts n.live (n.level == 0) a.0 in
    has_below g.format.pages leaf (λ p. covers (s.page p).node key && (((s.page p).node.level == 0) && (length (s.page p).node.pairs == g.format.room))) k.below
    (and_from (covers n key) ((n.level == 0) && (length n.pairs == g.format.room)) a.1 (and_from (n.level == 0) (length n.pairs == g.format.room) b.1 (eq-eqb (length n.pairs) g.format.room k.full)))

-- where nothing was seen but misses it is so still
module _ (key most : ℕ) (v w : View) (q : IsMissed most v w) where
  core_there : (state w).core ≡ (state v).core
  core_there = missed_core most v w q

  pub unfit_missed : (leaf : ℕ) → IsUnfit v key leaf → IsUnfit w key leaf
  unfit_missed leaf k = record {
    below = subst (λ (g : Given). leaf < (opening g).format.pages) (sym q.given) k.below;
    holds = ap (λ (s : State). nodes.holds (nodes_of s leaf) key) core_there ∙ k.holds;
    none = ap (λ (s : State). find key (nodes_of s leaf).pairs) core_there ∙ k.none;
    full = ap (λ (s : State). length (nodes_of s leaf).pairs) core_there ∙ k.full;
  }

  pub none_missed : NoneGoes (opening v.given) (state v).core key → NoneGoes (opening w.given) (state w).core key
  none_missed = subst (λ (u : Given × State). NoneGoes (opening u.0) u.1 key) (λ i. (sym q.given i, sym core_there i))

  pub refusal_missed : room_refusal (opening w.given) (state w).core key ≡ room_refusal (opening v.given) (state v).core key
  refusal_missed i = room_refusal (opening (q.given i)) (core_there i) key

  pub takes_missed : room_takes (opening w.given) (state w).core key ≡ room_takes (opening v.given) (state v).core key
  takes_missed i = room_takes (opening (q.given i)) (core_there i) key

-- so many events at most has one step
abbrev pub most_a_step : ℕ
most_a_step = 69

-- ## One step

module _ (l : Grounds) (residence : EveryResidence) {D : Type 0} (story : D → Story) (lawful : (d : D) → IsLawful (story d)) (key value : ℕ) (m n : PagedMachine D) (ready : IsReady story m) (a : IsAside m n) (same : IsSameSession m.machine.work.session n.machine.work.session) where
  abbrev own : ℕ
  own = m.machine.work.session.own

  abbrev Did : Option Placed → Result Stepped Unmade → Type 0
  Did placed r = Steps r placed (view_of m) (view_of n) key value m.machine.work.session n.machine.work.session m.machine.work.log n.machine.work.log (story m.machine.work.disk) (story n.machine.work.disk) (n.machine.work ≡ m.machine.work)

  module _ (law : EveryOther) (standing : EveryStanding) (fits : SeatFits n.machine) (holds : n.machine.work.session.works ≡ true → Holds (shape n.machine) (view_of n) n.machine.work.session n.machine.work.log) (works : n.machine.work.session.works ≡ true) where
    unmoved : n.machine.work ≡ m.machine.work → (view_of n).given ≡ (view_of m).given → (view_of n).seen ≡ (view_of m).seen → IsReady story n
    unmoved e given seen = ready_on story m n (beside_of m n a (ap (λ (k : Work D). k.log) e) (ap (λ (k : Work D). k.disk) e)) ready law given (looked_same (view_of m) (view_of n) given seen) fits works same (no_steps own (view_of m) (view_of n) given seen) (holds works)

    pub step_ready : (placed : Option Placed) (r : Result Stepped Unmade) → works_behind r ≡ true → Did placed r → IsReady story n
    step_ready placed (Ok (stepped.Done before)) w d = ready_changed story m n a same ready law standing key value before d fits works (holds works)
    step_ready placed (Ok stepped.Grown) w d = ready_grown l story m n a same ready key d.0 law standing fits works (holds works)
    step_ready placed (Ok (stepped.Needs page)) w d = ready_missed l story lawful m n a key 61 (missed_kept key (view_of m) (view_of n) d.0.wanting.kept) d.1 law ready fits (holds works)
    step_ready placed (Err (unmade.Cold cold)) w d = unmoved d.1 d.0.given d.0.seen
    step_ready placed (Err (unmade.Unserved (unserved.Refused refusal.TooTall))) w d = ready_missed l story lawful m n a key 61 (missed_kept key (view_of m) (view_of n) d.0.tight.kept) d.1 law ready fits (holds works)
    step_ready placed (Err (unmade.Unserved (unserved.Refused refusal.NoPages))) w d = ready_missed l story lawful m n a key 61 (missed_kept key (view_of m) (view_of n) d.0.tight.kept) d.1 law ready fits (holds works)
    step_ready placed (Err (unmade.Unserved (unserved.Refused refusal.ClockSpent))) w d = ready_grown l story m n a same ready key d.roomed law standing fits works (holds works)
    step_ready placed (Err (unmade.Unserved (unserved.Refused refusal.RowSpent))) w d = ready_missed l story lawful m n a key 69 (missed_spent 69 (view_of m) (view_of n) d.0) d.1 law ready fits (holds works)
    step_ready placed (Err (unmade.Unserved (unserved.Unanswered unanswered.DiskFault))) w d = absurd (true≢false (sym w))
    step_ready placed (Err (unmade.Unserved _)) w d = absurd d
    step_ready placed (Err unmade.Lost) w d = absurd d

  -- ## As a round

  -- nothing was done yet
  pub made_self : HasMade story key most_a_step m m
  made_self = made_up story key 0 most_a_step m m (omega arith) (made_none l residence story lawful key m m (still_self story m))

  -- nor was anything but misses
  made_kept : rooms.IsKept key (view_of m) (view_of n) → n.machine.work ≡ m.machine.work → HasMade story key most_a_step m n
  made_kept k e = made_up story key 61 most_a_step m n (omega arith) (made_missed l story lawful m n a key 61 (missed_kept key (view_of m) (view_of n) k) e)

  -- the leaf is full, none of its tombstones can go, and there can be no room
  crowded : (why : Refusal) → Crowded key why (view_of m) (view_of n) m.machine.work.session.clock.clock → n.machine.work ≡ m.machine.work → IsGoing m → m.machine.work.session.clock.clock < 2 ^ 62 → IsPutCrowded story key most_a_step why m n
  crowded why d e going small =
      let q = missed_kept key (view_of m) (view_of n) d.tight.kept in record {
        made = made_kept d.tight.kept e;
        going = going_same m n e going;
        leaf = d.leaf;
        unfit = unfit_missed key 61 (view_of m) (view_of n) q d.leaf d.unfit;
        small = subst (λ (k : Work D). k.session.clock.clock < 2 ^ 62) (sym e) small;
        none = none_missed key 61 (view_of m) (view_of n) q d.tight.kept.none;
        cause = refusal_missed key 61 (view_of m) (view_of n) q ∙ d.tight.cause;
      }

  pub done_round : (before : Option ℕ) → n.machine.work.session.is_half_aborted ≡ m.machine.work.session.is_half_aborted → (placed : Option Placed) → Did placed (Ok (stepped.Done before)) → HasPut story key value before most_a_step m n
  done_round before half placed d = record { between = m; made = made_self; changed = d; ready = ready; aside = a; session = same; is_half_aborted = half }

  pub grown_round : n.machine.work.session.is_half_aborted ≡ m.machine.work.session.is_half_aborted → IsWarm (pages m) key 0 → (placed : Option Placed) → Did placed (Ok stepped.Grown) → GoesOnWarm story key most_a_step m n
  grown_round half warm placed d = record {
    made = made_up story key 62 most_a_step m n (omega arith) (made_grown l story m n a same ready key d.0 lawful half);
    may = may_again key n d.1;
    small = d.1.small;
    warm = d.0.warm warm;
    takes = d.0.takes;
  }

  pub refused_round : (why : Unserved) (placed : Option Placed) → (works_behind {A = Stepped} (Err (unmade.Unserved why)) ≡ true → n.machine.work.session.is_half_aborted ≡ m.machine.work.session.is_half_aborted) → IsGoing m → m.machine.work.session.clock.clock < 2 ^ 62 → Did placed (Err (unmade.Unserved why)) → Rounds story key value most_a_step (Err why) m n
  refused_round (unserved.Refused refusal.TooTall) placed half going small d = crowded refusal.TooTall d.0 d.1 going small
  refused_round (unserved.Refused refusal.NoPages) placed half going small d = crowded refusal.NoPages d.0 d.1 going small
  refused_round (unserved.Refused refusal.ClockSpent) placed half going small d = record {
    made = made_up story key 62 most_a_step m n (omega arith) (made_grown l story m n a same ready key d.roomed lawful (half refl));
    going = record {
      is_open = ap (λ (x : Session). x.is_open) d.roomed.session ∙ going.is_open;
      whole = ap (λ (x : Session). x.is_half_aborted) d.roomed.session ∙ going.whole;
      few = subst (λ (x : Session). length x.undo < 64) (sym d.roomed.session) going.few;
    };
    spent = d.spent;
  }
  refused_round (unserved.Refused refusal.RowSpent) placed half going small d = record { made = made_missed l story lawful m n a key 69 (missed_spent 69 (view_of m) (view_of n) d.0) d.1; spent = inl (inl d.0.many) }
  refused_round (unserved.Unanswered unanswered.DiskFault) placed half going small d = inl (record { between = m; made = made_self; keeps = d })
  refused_round _ placed half going small d = absurd d

-- ## One round behind another

-- it goes on
abbrev pub IsGrownRound : Result Round Unserved → Type 0
IsGrownRound (Ok round.Grown) = Unit {0}
IsGrownRound _ = ⊥

module _ (l : Grounds) (residence : EveryResidence) {D : Type 0} (story : D → Story) (lawful : (d : D) → IsLawful (story d)) (key value : ℕ) (a b : ℕ) (m u n : PagedMachine D) (d : HasMade story key a m u) where
  abbrev both : (k : PagedMachine D) → HasMade story key b u k → HasMade story key (a + b) m k
  both k e = made_then l residence story lawful key a b m u k d e

  spent_back : IsSpent u n → IsSpent m n
  spent_back (inl old) = inl old
  spent_back (inr h) = inr (record { session = h.session; low = h.low; high = (let e = d.same.0 in let k = h.high in omega arith); half = sym (d.halves h.session h.low (let e = d.same.0 in let k = h.high in omega arith)) ∙ h.half })

  nowhere_back : StandsNowhere story u → StandsNowhere story m
  nowhere_back nowhere g xs first b s0 k st o =
      let met = (d.part.logged g xs first b).met in
      let r = d.part.goes g xs first b s0 k st o in
      nowhere g xs (first ++ events_of d.events) (behind_more g xs first (view_of m) b d.events (view_of u) d.part.given d.part.seen met) s0 r.known
      r.moved.stands r.has

  pub rounds_then : (r : Result Round Unserved) → (IsGrownRound r → room_takes (opening (view_of u).given) (state (view_of u)).core key ≤ room_takes (opening (view_of m).given) (state (view_of m)).core key) → Rounds story key value b r u n → Rounds story key value (a + b) r m n
  rounds_then (Ok (round.Done before)) le e = record {
    between = e.between;
    made = both e.between e.made;
    changed = subst (λ w. IsChanged w (view_of e.between) (view_of n) key value before e.between.machine.work.log n.machine.work.log (story e.between.machine.work.disk) (story n.machine.work.disk)) d.turn e.changed;
    ready = e.ready;
    aside = e.aside;
    session = e.session;
    is_half_aborted = e.is_half_aborted;
  }
  rounds_then (Ok round.Grown) le e = record { made = both n e.made; may = e.may; small = e.small; warm = e.warm; takes = let x = le tt in let y = e.takes in omega arith }
  rounds_then (Err (unserved.Refused refusal.RowSpent)) le e = record { made = both n e.made; spent = spent_back e.spent }
  rounds_then (Err (unserved.Refused refusal.ClockSpent)) le e = record { made = both n e.made; going = e.going; spent = e.spent }
  rounds_then (Err (unserved.Refused refusal.TooTall)) le e = record { made = both n e.made; going = e.going; leaf = e.leaf; unfit = e.unfit; small = e.small; none = e.none; cause = e.cause }
  rounds_then (Err (unserved.Refused refusal.NoPages)) le e = record { made = both n e.made; going = e.going; leaf = e.leaf; unfit = e.unfit; small = e.small; none = e.none; cause = e.cause }
  rounds_then (Err (unserved.Unanswered unanswered.DiskFault)) le (inl f) = inl (record { between = f.between; made = both f.between f.made; keeps = subst (λ w. KeepsLog w f.between.machine.work.log (story f.between.machine.work.disk) (story n.machine.work.disk)) d.turn f.keeps })
  rounds_then (Err (unserved.Unanswered unanswered.DiskFault)) le (inr f) = inr (record { between = f.between; made = both f.between f.made; failed = f.failed })
  rounds_then (Err (unserved.Unanswered (unanswered.Damaged place))) le e = (record { between = e.0.between; made = both e.0.between e.0.made; failed = e.0.failed }, nowhere_back e.1)
  rounds_then (Err _) le e = absurd e

-- in no more events than so many
pub rounds_up : {D : Type 0} (story : D → Story) (key value a b : ℕ) (m n : PagedMachine D) → a ≤ b → (r : Result Round Unserved) → Rounds story key value a r m n → Rounds story key value b r m n
rounds_up story key value a b m n le (Ok (round.Done before)) e = record { between = e.between; made = made_up story key a b m e.between le e.made; changed = e.changed; ready = e.ready; aside = e.aside; session = e.session; is_half_aborted = e.is_half_aborted }
rounds_up story key value a b m n le (Ok round.Grown) e = record { made = made_up story key a b m n le e.made; may = e.may; small = e.small; warm = e.warm; takes = e.takes }
rounds_up story key value a b m n le (Err (unserved.Refused refusal.RowSpent)) e = record { made = made_up story key a b m n le e.made; spent = e.spent }
rounds_up story key value a b m n le (Err (unserved.Refused refusal.ClockSpent)) e = record { made = made_up story key a b m n le e.made; going = e.going; spent = e.spent }
rounds_up story key value a b m n le (Err (unserved.Refused refusal.TooTall)) e = record { made = made_up story key a b m n le e.made; going = e.going; leaf = e.leaf; unfit = e.unfit; small = e.small; none = e.none; cause = e.cause }
rounds_up story key value a b m n le (Err (unserved.Refused refusal.NoPages)) e = record { made = made_up story key a b m n le e.made; going = e.going; leaf = e.leaf; unfit = e.unfit; small = e.small; none = e.none; cause = e.cause }
rounds_up story key value a b m n le (Err (unserved.Unanswered unanswered.DiskFault)) (inl f) = inl (record { between = f.between; made = made_up story key a b m f.between le f.made; keeps = f.keeps })
rounds_up story key value a b m n le (Err (unserved.Unanswered unanswered.DiskFault)) (inr f) = inr (record { between = f.between; made = made_up story key a b m f.between le f.made; failed = f.failed })
rounds_up story key value a b m n le (Err (unserved.Unanswered (unanswered.Damaged place))) e = (record { between = e.0.between; made = made_up story key a b m e.0.between le e.0.made; failed = e.0.failed }, e.1)
rounds_up story key value a b m n le (Err _) e = absurd e

-- ## Where a page did not come

module _ (l : Grounds) (residence : EveryResidence) {D : Type 0} (story : D → Story) (lawful : (d : D) → IsLawful (story d)) (key value : ℕ) (m n : PagedMachine D) where
  made_here : HasMade story key 0 m m
  made_here = made_none l residence story lawful key m m (still_self story m)

  pub unwarmed_rounds : (most bound : ℕ) → most ≤ bound → (why : Unwarmed) → (goes_on {A = Unit {0}} (Err why) ≡ true → HasGone story key most m n) → (goes_on {A = Unit {0}} (Err why) ≡ false → HasFailed story m n) → (why ≡ stopped.RowSpent → IsSpent m n)
      → ((page : ℕ) → (why ≡ stopped.Damaged page) ⊎ (why ≡ stopped.Altered page) → StandsNowhere story m) → Rounds story key value bound (Err (unserved_of why)) m n
  unwarmed_rounds most bound up stopped.RowSpent gone failed spent damaged = record { made = made_up story key most bound m n up (made_gone l residence story lawful key most m n (gone refl)); spent = spent refl }
  unwarmed_rounds most bound up stopped.DiskFault gone failed spent damaged = inr (record { between = m; made = made_up story key 0 bound m m (omega arith) made_here; failed = failed refl })
  unwarmed_rounds most bound up (stopped.Damaged page) gone failed spent damaged = (record { between = m; made = made_up story key 0 bound m m (omega arith) made_here; failed = failed refl }, damaged page (inl refl))
  unwarmed_rounds most bound up (stopped.Altered page) gone failed spent damaged = (record { between = m; made = made_up story key 0 bound m m (omega arith) made_here; failed = failed refl }, damaged page (inr refl))

-- a refusal of one kind of answer, by which another is refused
why_of : {A : Type 0} → Unwarmed → Result A Unwarmed → Unwarmed
why_of other (Ok a) = other
why_of other (Err why) = why

pub spent_as : (A : Type 0) (P : Type 0) (why : Unwarmed) → (◌≡◌ {A = Result A Unwarmed} (Err why) (Err stopped.RowSpent) → P) → why ≡ stopped.RowSpent → P
spent_as A P why f e = f (ap Err e)

pub damaged_as : (A : Type 0) (P : Type 0) (why : Unwarmed) → ((page : ℕ) → (◌≡◌ {A = Result A Unwarmed} (Err why) (Err (stopped.Damaged page))) ⊎ (◌≡◌ {A = Result A Unwarmed} (Err why) (Err (stopped.Altered page))) → P) → (page : ℕ) → (why ≡ stopped.Damaged page) ⊎ (why ≡ stopped.Altered page) → P
damaged_as A P why f page (inl e) = f page (inl (ap Err e))
damaged_as A P why f page (inr e) = f page (inr (ap Err e))

-- ## The next page

-- it is free
pub wanted_free : {D : Type 0} (story : D → Story) (key page : ℕ) (m : PagedMachine D) → EveryRoom → IsReady story m → IsWanted key page m → (page < (opening (view_of m).given).format.pages) × (((state (view_of m)).core.page page).node.live ≡ false)
wanted_free story key page m room ready w = ((room g s key).free page).0 (go m.machine.work.session.free h.free w.least)
  where
    g : Opening
    g = opening (view_of m).given

    s : State
    s = (state (view_of m)).core

    h : Holds (shape m.machine) (view_of m) m.machine.work.session m.machine.work.log
    h = holds_of (shape m.machine) (view_of m) (here m.machine) m.machine.desks.items ready.sound.desks

    go : (ps : List ℕ) → ps ≡ free_list g s → first_of ps ≡ Some page → Has page (free_list g s)
    go [] e q = absurd (cc)
    go (p ∷ ps) e q = subst (λ xs. Has page xs) e (inl (cc))

-- and no other one is asked for behind its coming
pub not_other : (page frame other : ℕ) (free : List ℕ) → first_of free ≡ Some page → first_of free ≡ Some other → frame_among (Some (record { page = page; frame = frame })) other ≡ None → ⊥
not_other page frame other free a b none = absurd (some_none frame (sym (ap (λ c. cond c (Some frame) None) (eq-eqb page other same)) ∙ none))
  where
    some_same : (p q : ℕ) → Some p ≡ Some q → p ≡ q
    some_same p q e = cc

    same : page ≡ other
    same = some_same page other (sym a ∙ b)

    some_none : (p : ℕ) → Some p ≡ None → ⊥
    some_none p e = absurd (cc)

-- ## Whether the machine works on

abbrev pub HasStepped : {D : Type 0} → (story : D → Story) → (key value : ℕ) → Option Placed → (m n : PagedMachine D) → Result Stepped Unmade → Type 0
HasStepped story key value placed m n r = Steps r placed (view_of m) (view_of n) key value m.machine.work.session n.machine.work.session m.machine.work.log n.machine.work.log (story m.machine.work.disk) (story n.machine.work.disk) (n.machine.work ≡ m.machine.work)

pub step_works : {D : Type 0} (story : D → Story) (key value : ℕ) (placed : Option Placed) (m n : PagedMachine D) (A : Type 0) (why : Unserved) → HasStepped story key value placed m n (Err (unmade.Unserved why)) → works_behind {A = Stepped} (Err (unmade.Unserved why)) ≡ is_working {A = A} (Err why)
step_works story key value placed m n A (unserved.Refused refusal.TooTall) d = refl
step_works story key value placed m n A (unserved.Refused refusal.NoPages) d = refl
step_works story key value placed m n A (unserved.Refused refusal.ClockSpent) d = refl
step_works story key value placed m n A (unserved.Refused refusal.RowSpent) d = refl
step_works story key value placed m n A (unserved.Unanswered unanswered.DiskFault) d = refl
step_works story key value placed m n A _ d = absurd d

pub none_lost : {D : Type 0} (story : D → Story) (key value : ℕ) (placed : Option Placed) (m n : PagedMachine D) (made : Unmade) → HasStepped story key value placed m n (Err made) → IsLost made → ⊥
none_lost story key value placed m n unmade.Lost d lost = d
none_lost story key value placed m n (unmade.Cold cold) d lost = lost
none_lost story key value placed m n (unmade.Unserved why) d lost = lost

-- ## Behind the coming of a page

module _ (l : Grounds) (residence : EveryResidence) {D : Type 0} (story : D → Story) (lawful : (d : D) → IsLawful (story d)) (key value : ℕ) (m k : PagedMachine D) (ready : IsReady story m) (most : ℕ) (bound : ℕ) (few : most + most_a_step ≤ bound) (gone : HasGone story key most m k) where
  came : HasMade story key most m k
  came = made_gone l residence story lawful key most m k gone

  -- a step, where the leaf was full
  pub into_round : (leaf : ℕ) → IsUnfit (view_of m) key leaf → (n : PagedMachine D) (r : Result Round Unserved) → Rounds story key value most_a_step r k n → Rounds story key value bound r m n
  into_round leaf unfit n r e = rounds_up story key value (most + most_a_step) bound m n few r
      (rounds_then l residence story lawful key value most most_a_step m k n came r (λ _. takes_kept story key most m k ready gone.paged (unfit_full key leaf m unfit)) e)

  -- a clock that has come to its end
  pub stopped_round : (up_to : ℕ) → most ≤ up_to → IsGoing m → 2 ^ 62 ≤ k.machine.work.session.clock.clock → Rounds story key value up_to (Err (unserved.Refused refusal.ClockSpent)) m k
  stopped_round up_to up going spent = record { made = made_up story key most up_to m k up came; going = going_gone story key most m k ready gone.paged going; spent = spent }

-- so few events has the coming of one page
pub level_few : {D : Type 0} (story : D → Story) (m : PagedMachine D) → IsReady story m → most_a_level m.machine.work.session.workers + most_a_step ≤ most_behind_wish
level_few story m ready = let w = (holds_of (shape m.machine) (view_of m) (here m.machine) m.machine.desks.items ready.sound.desks).rows.most in omega arith

-- and that of a way
pub way_few : {D : Type 0} (story : D → Story) (m : PagedMachine D) → IsReady story m → 9 * most_a_level m.machine.work.session.workers + most_a_step ≤ most_a_round
way_few story m ready = let w = (holds_of (shape m.machine) (view_of m) (here m.machine) m.machine.desks.items ready.sound.desks).rows.most in omega arith

-- a refusal of a put, by which its last round is refused
pub never_grown : (why : Unserved) (P : Type 0) → IsGrownRound (Err why) → P
never_grown why P e = absurd e

pub put_grown : (r : Result (Option ℕ) Unserved) (P : Type 0) → IsGrownRound (round_of r) → P
put_grown (Ok before) P e = absurd e
put_grown (Err why) P e = absurd e

-- no other page is wanted behind the coming of this one
pub stuck : {D : Type 0} (story : D → Story) (key value page frame : ℕ) (m k n : PagedMachine D) → IsWanted key page m → k.machine.work.session.free ≡ m.machine.work.session.free → (step : Stepped) (other : ℕ) → step ≡ stepped.Needs other
    → HasStepped story key value (Some (record { page = page; frame = frame })) k n (Ok step) → ⊥
stuck story key value page frame m k n w free step other is d = not_other page frame other k.machine.work.session.free (ap first_of free ∙ w.least) e.0.wanting.least e.0.wanting.other
  where
    e : HasStepped story key value (Some (record { page = page; frame = frame })) k n (Ok (stepped.Needs other))
    e = subst (λ (q : Stepped). HasStepped story key value (Some (record { page = page; frame = frame })) k n (Ok q)) is d

-- a step that came out so
pub stepped_as : {D : Type 0} (story : D → Story) (key value : ℕ) (placed : Option Placed) (m n : PagedMachine D) (a b : Stepped) → a ≡ b → HasStepped story key value placed m n (Ok a) → HasStepped story key value placed m n (Ok b)
stepped_as story key value placed m n a b e d = subst (λ (q : Stepped). HasStepped story key value placed m n (Ok q)) e d

-- ## Where a page is needed

needs_of : {D : Type 0} (story : D → Story) (key value : ℕ) (placed : Option Placed) (m n : PagedMachine D) (step : Stepped) (page : ℕ) → step ≡ stepped.Needs page → HasStepped story key value placed m n (Ok step) → HasStepped story key value placed m n (Ok (stepped.Needs page))
needs_of story key value placed m n step page is d = stepped_as story key value placed m n step (stepped.Needs page) is d

-- nothing was done but that rows were given up as they stood
pub needs_missed : {D : Type 0} (story : D → Story) (key value : ℕ) (placed : Option Placed) (m n : PagedMachine D) (step : Stepped) (page : ℕ) → step ≡ stepped.Needs page → HasStepped story key value placed m n (Ok step) → IsMissed 61 (view_of m) (view_of n) × (n.machine.work ≡ m.machine.work)
needs_missed story key value placed m n step page is d = let e = needs_of story key value placed m n step page is d in (missed_kept key (view_of m) (view_of n) e.0.wanting.kept, e.1)

-- the leaf is full, none of its tombstones can go, and this page comes next
pub met_needs : {D : Type 0} (story : D → Story) (key value : ℕ) (placed : Option Placed) (m n : PagedMachine D) (step : Stepped) (page : ℕ) → step ≡ stepped.Needs page → HasStepped story key value placed m n (Ok step) → IsWanted key page n
met_needs story key value placed m n step page is d =
    let e = needs_of story key value placed m n step page is d in
    let q = missed_kept key (view_of m) (view_of n) e.0.wanting.kept in record {
      leaf = e.0.leaf;
      unfit = unfit_missed key 61 (view_of m) (view_of n) q e.0.leaf e.0.unfit;
      none = none_missed key 61 (view_of m) (view_of n) q e.0.wanting.kept.none;
      fits = refusal_missed key 61 (view_of m) (view_of n) q ∙ e.0.wanting.fits;
      least = ap (λ (k : Work _). first_of k.session.free) e.1 ∙ e.0.wanting.least;
    }

-- and it may be put there still
pub may_same_put : {D : Type 0} (key : ℕ) (m u : PagedMachine D) → IsMissed 61 (view_of m) (view_of u) → u.machine.work ≡ m.machine.work → MayPut key m → MayPut key u
may_same_put {D} key m u q e f = record {
  is_open = ap (λ (k : Work D). k.session.is_open) e ∙ f.is_open;
  whole = ap (λ (k : Work D). k.session.is_half_aborted) e ∙ f.whole;
  few = subst (λ (k : Work D). length k.session.undo < 64) (sym e) f.few;
  room = subst (λ (k : Log × ℕ). HasRoomToStage k.0 (suc k.1)) (λ i. ((sym e i).log, sym (takes_missed key 61 (view_of m) (view_of u) q) i)) f.room;
  row = (λ i. is_held_by ((missed_core 61 (view_of m) (view_of u) q i).row (key % (e i).session.held.count)).holder (e i).session.own) ∙ f.row;
}

pub warm_same : {D : Type 0} (key : ℕ) (m u : PagedMachine D) → IsMissed 61 (view_of m) (view_of u) → IsWarm (pages m) key 0 → IsWarm (pages u) key 0
warm_same key m u q w = subst (λ (k : Given × State). IsWarmFrom (opening k.0) k.1 key 0) (λ i. (sym q.given i, sym (missed_core 61 (view_of m) (view_of u) q) i)) w

-- so it goes on from there
pub rounds_from : (l : Grounds) (residence : EveryResidence) {D : Type 0} (story : D → Story) (lawful : (d : D) → IsLawful (story d)) (key value : ℕ) (m u n : PagedMachine D) → IsAside m u → IsMissed 61 (view_of m) (view_of u) × (u.machine.work ≡ m.machine.work) → (r : Result Round Unserved)
    → Rounds story key value most_behind_wish r u n → Rounds story key value most_a_round r m n
rounds_from l residence story lawful key value m u n a q r e = rounds_up story key value (61 + most_behind_wish) most_a_round m n (omega arith) r
    (rounds_then l residence story lawful key value 61 most_behind_wish m u n (made_missed l story lawful m u a key 61 q.0 q.1) r (λ _. let t = takes_missed key 61 (view_of m) (view_of u) q.0 in omega arith) e)

-- a round that came out so
pub round_as : {D : Type 0} (story : D → Story) (key value most : ℕ) (m n : PagedMachine D) (a b : Round) → a ≡ b → Rounds story key value most (Ok a) m n → Rounds story key value most (Ok b) m n
round_as story key value most m n a b e d = subst (λ (q : Round). Rounds story key value most (Ok q) m n) e d
