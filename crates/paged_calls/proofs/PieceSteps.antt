-- A machine behind a piece of a call, by the piece's answer.
use Rattle.std.proofs.Common.{◌≡◌, ◌∙◌, ◌%◌, ℕ, true, Option, Result, Ok, Err, OnOk, IfErr, ap}
use Rattle.paged_desks.specs.key_locks.declared.mode.Mode.{Mode}
use Rattle.paged_desks.specs.key_locks.Rows.{event_mode}
use Rattle.lean_disk.specs.Story.{Story}
use Rattle.map_model.specs.declared.call.Refusal.{Refusal}
use Rattle.map_model.specs.declared.call.Refusal.TheVariants as refusal
use Rattle.row_room.specs.row_changes.Reads.{Reads}
use Rattle.row_room.specs.row_changes.Takes.{NotTaken, Takes}
use Rattle.row_room.specs.row_changes.declared.ways.Cold.{Cold}
use Rattle.paged_desks.specs.row_words.declared.event.Event.TheVariants as told
use Rattle.paged_desks.specs.session_desks.Parts.{SeatFits, shape}
use Rattle.paged_desks.proofs.session_state.OtherLemmas.{is_own, no_steps, one_step}
use Rattle.paged_desks.specs.session_state.Holds.{Holds as HoldsSession}
use Rattle.paged_desks.specs.session_state.Others.{EveryOther}
use Rattle.paged_desks.specs.session_state.Staging.{IsButClock}
use Rattle.paged_desks.specs.session_state.declared.session.Session.{Session}
use Rattle.paged_desks.specs.Machines.{IsReady, view_of}
use Rattle.paged_desks.specs.declared.machine.PagedMachine.{PagedMachine}
use Rattle.paged_calls.specs.Steps.{HasNotTaken, HasTaken, Holds}
use Rattle.paged_desks.specs.Calls.{IsBeside}
use Rattle.paged_desks.proofs.StandLemmas.{looked_one, looked_same, ready_on}
use Rattle.paged_calls.proofs.TakingLemmas.{row_held}

module _ {D : Type 0} (story : D → Story) (law : EveryOther) (m n : PagedMachine D) (ready : IsReady story m) (b : IsBeside m n) (fits : SeatFits n.machine) (holds : HoldsSession (shape n.machine) (view_of n) n.machine.work.session n.machine.work.log) where
  abbrev x : Session
  x = m.machine.work.session

  abbrev y : Session
  y = n.machine.work.session

  abbrev own : ℕ
  own = x.own

  -- nothing was seen
  still : (view_of n).given ≡ (view_of m).given → (view_of n).seen ≡ (view_of m).seen → y ≡ x → IsReady story n
  still given seen session = ready_on story m n b ready law given (looked_same (view_of m) (view_of n) given seen) fits (ap (λ (s : Session). s.works) session ∙ ready.works)
      (ap (λ (s : Session). s.own) session, ap (λ (s : Session). s.workers) session, ap (λ (s : Session). s.group) session) (no_steps own (view_of m) (view_of n) given seen) holds

  -- ## A row

  pub taken_ready : (key : ℕ) (mode : Mode) → Takes (view_of m) (view_of n) x y (key % x.held.count) mode → IsReady story n
  taken_ready key mode t = ready_on story m n b ready law t.given (looked_one (view_of m) (view_of n) (told.Lock own (key % x.held.count) (event_mode mode)) tt t.given t.seen) fits (ap (λ (s : Session). s.works) t.session ∙ ready.works)
      (ap (λ (s : Session). s.own) t.session, ap (λ (s : Session). s.workers) t.session, ap (λ (s : Session). s.group) t.session)
      (one_step own (view_of m) (view_of n) (told.Lock own (key % x.held.count) (event_mode mode)) t.given t.seen (is_own own) t.met) holds

  untaken_ready : (key : ℕ) (mode : Mode) (why : Refusal) → NotTaken why (view_of m) (view_of n) own (key % x.held.count) mode → y ≡ x → IsReady story n
  untaken_ready key mode refusal.RowSpent s e = still s.given s.seen e
  untaken_ready key mode (refusal.Conflict h) s e = still s.given s.seen e
  untaken_ready key mode _ s e = absurd s

  pub take_ready : (key : ℕ) (mode : Mode) (r : Result (Unit {0}) Refusal) → OnOk r (Takes (view_of m) (view_of n) x y (key % x.held.count) mode) → IfErr r (λ why. NotTaken why (view_of m) (view_of n) own (key % x.held.count) mode × (y ≡ x)) → IsReady story n
  take_ready key mode (Ok u) t s = taken_ready key mode t
  take_ready key mode (Err why) t s = untaken_ready key mode why s.0 s.1

  pub take_ok : (key : ℕ) (mode : Mode) (r : Result (Unit {0}) Refusal) → OnOk r (Takes (view_of m) (view_of n) x y (key % x.held.count) mode) → OnOk r (HasTaken key mode m n)
  take_ok key mode (Ok u) t = record { takes = t; beside = b }
  take_ok key mode (Err why) t = tt

  pub take_err : (key : ℕ) (mode : Mode) (r : Result (Unit {0}) Refusal) → IfErr r (λ why. NotTaken why (view_of m) (view_of n) own (key % x.held.count) mode × (y ≡ x)) → IfErr r (λ why. HasNotTaken why key mode m n)
  take_err key mode (Ok u) s = tt
  take_err key mode (Err why) s = record { not_taken = s.0; session = s.1; beside = b }

  -- ## A read

  pub read_ready : (key : ℕ) (r : Result (Option ℕ) Cold) → IsButClock x y → Reads r own (view_of m) (view_of n) key (y ≡ x) → IsReady story n
  read_ready key (Ok value) session k = ready_on story m n b ready law k.given (looked_one (view_of m) (view_of n) (told.Read own k.page key value) tt k.given k.seen) fits (ap (λ (s : Session). s.works) session ∙ ready.works)
      (ap (λ (s : Session). s.own) session, ap (λ (s : Session). s.workers) session, ap (λ (s : Session). s.group) session)
      (one_step own (view_of m) (view_of n) (told.Read own k.page key value) k.given k.seen (is_own own) k.met) holds
  read_ready key (Err cold) session k = still k.0.given k.0.seen k.1

-- ## What a call holds

-- behind the taking of its row
pub holds_taken : {D : Type 0} (m n : PagedMachine D) (key : ℕ) (mode : Mode) → HasTaken key mode m n → m.machine.work.session.is_open ≡ true → Holds key n
holds_taken m n key mode t is_open = record { is_open = ap (λ (s : Session). s.is_open) t.takes.session ∙ is_open; row = row_held (view_of m) (view_of n) m.machine.work.session n.machine.work.session key mode t.takes }
