-- Changes are put back, and pages come where they are needed, as a part of a call.
use Rattle.std.specs.Prelude.{◌≡◌, ◌⊎◌, ◌≤◌, ◌<◌, ◌+◌, ◌*◌, ◌||◌, ℕ, suc, Bool, true, false, List, [], ◌∷◌, length, Some, Result, Ok, Err}
use Rattle.page_model.specs.Limits.{transaction_changes}
use Rattle.map_model.specs.Lists.{any}
use Rattle.map_model.specs.declared.call.Refusal.TheVariants as refusal
use Rattle.paged_desks.specs.engine_trait.declared.unserved.Unanswered.TheVariants as unanswered
use Rattle.paged_desks.specs.engine_trait.declared.unserved.Unserved.{Unserved}
use Rattle.paged_desks.specs.engine_trait.declared.unserved.Unserved.TheVariants as unserved
use Rattle.paged_desks.specs.core_calls.Fronts.{Done}
use Rattle.paged_desks.specs.core_calls.LogEvents.{IsTightSomewhere, SyncsWhere}
use Rattle.paged_desks.specs.core_state.Events as happening
use Rattle.paged_desks.specs.core_state.Openings.{Opening}
use Rattle.paged_desks.specs.engine_calls.Parts.{behind_first}
use Rattle.lean_disk.specs.Story.{Story}
use Rattle.paged_desks.specs.row_words.declared.event.Event.{Event}
use Rattle.paged_desks.specs.row_words.declared.event.Event.TheVariants as told
use Rattle.paged_desks.specs.row_words.Moments.{events_of}
use Rattle.paged_desks.specs.session_desks.Desks.{desk_of}
use Rattle.paged_desks.specs.session_desks.Parts.{AreAsMany, SeatFits, here}
use Rattle.paged_desks.specs.session_state.Ties.{Behind}
use Rattle.paged_desks.specs.session_state.Undo.{newest_of}
use Rattle.paged_desks.specs.session_state.declared.undo.Undone.{Undone}
use Rattle.paged_desks.specs.call_parts.Parts.{Failed, Part}
use Rattle.paged_desks.specs.call_parts.Rooms.{AreBacks}
use Rattle.paged_desks.specs.paged_rows.Paged.{IsWarm}
use Rattle.row_changes.specs.Backs.{StepsBack}
use Rattle.row_ends.specs.Outcomes.{Aborts}
use Rattle.row_ends.specs.declared.ending.Ended.{Ended}
use Rattle.row_changes.specs.declared.ways.Unmade.{Unmade}
use Rattle.paged_desks.specs.Machines.{memory, pages, view_of}
use Rattle.paged_desks.specs.Pages.{hot_in, most_a_level}
use Rattle.paged_desks.specs.Parts.{IsLate, IsStuck, StandsNowhere}
use Rattle.paged_desks.specs.declared.machine.PagedMachine.{PagedMachine}

-- ## In a leaf

-- what a put-back does in its leaf, by answer
abbrev pub BacksInLeaf : {D : Type 0} → (story : D → Story) → Result (Unit {0}) Unmade → (m n : PagedMachine D) → Type 0
BacksInLeaf story r m n = StepsBack r (view_of m) (view_of n) m.machine.work.session n.machine.work.session m.machine.work.log n.machine.work.log (story m.machine.work.disk) (story n.machine.work.disk) (n.machine.work ≡ m.machine.work)

-- the key of the session's newest change has a way that is hot
abbrev pub IsWarmNewest : {D : Type 0} → PagedMachine D → Type 0
IsWarmNewest m = (u : Undone) → newest_of m.machine.work.session.undo ≡ Some u → IsWarm (pages m) u.key 0

-- the newest change that is left is of this key
abbrev pub IsNewestKey : {D : Type 0} → (key : ℕ) → PagedMachine D → Type 0
IsNewestKey key m = (u : Undone) × (newest_of m.machine.work.session.undo ≡ Some u) × (u.key ≡ key)

-- ## A leaf that has lost an entry

-- The machine works no longer, and is as it was else: rows were looked at, and nothing was seen.
pub record IsGivenUp {D : Type 0} (m n : PagedMachine D) : Type 0 where
  pub works : n.machine.work.session.works ≡ false
  pub given : (view_of n).given ≡ (view_of m).given
  pub seen : (view_of n).seen ≡ (view_of m).seen
  pub disk : n.machine.work.disk ≡ m.machine.work.disk
  pub same : AreAsMany m.machine n.machine
  pub fits : SeatFits n.machine

-- a page of the disk is damaged
abbrev pub IsDamaged : Unserved → Type 0
IsDamaged (unserved.Unanswered (unanswered.Damaged place)) = Unit {0}
IsDamaged _ = ⊥

-- ## Changes that were put back

-- so many events at most has one change, beside those by which pages cool: the pages of its key's way come, and it is put back
abbrev pub most_a_back : (logs : ℕ) → ℕ
most_a_back logs = suc (9 * most_a_level logs)

-- and all that a transaction may have, with one that is refused
abbrev pub most_in_all : (logs : ℕ) → ℕ
most_in_all logs = suc transaction_changes * most_a_back logs

-- a change is put back
abbrev pub is_back : Event → Bool
is_back (told.PutBack w p) = true
is_back e = false

-- so many are
abbrev pub backs_in : List Event → ℕ
backs_in [] = 0
backs_in (told.PutBack w p ∷ es) = suc (backs_in es)
backs_in (e ∷ es) = backs_in es

-- Changes of the session whose turn it is were put back, and pages came where they were needed, by so many events at most beside those by which pages cooled. In each run a sync stands
-- only where a page of some key's way finds no frame. The session's abort is half done once one was put back, and the others of its changes are left; other sessions' aborts are as they were.
pub record HasUndone {D : Type 0} (story : D → Story) (most : ℕ) (m n : PagedMachine D) : Type 0 where
  pub events : List Event
  pub part : Part m.machine.work.session.workers events (view_of m) (view_of n) (memory m) (memory n) (story m.machine.work.disk) (story n.machine.work.disk)
  pub backs : AreBacks m.machine.work.session.own (events_of events)
  pub left : backs_in events + length n.machine.work.session.undo ≡ length m.machine.work.session.undo
  pub few : length events + 2 * hot_in n ≤ 2 * hot_in m + most
  pub tight : (g : Opening) (xs : List Done) (first : List happening.Event) → Behind g xs first (view_of m) → SyncsWhere (IsTightSomewhere g) g (behind_first g xs first) false (events_of events)
  pub same : AreAsMany m.machine n.machine
  pub turn : n.machine.work.session.own ≡ m.machine.work.session.own
  pub is_open : n.machine.work.session.is_open ≡ m.machine.work.session.is_open
  pub half : n.machine.work.session.is_half_aborted ≡ (any is_back events || m.machine.work.session.is_half_aborted)
  pub others : (w : ℕ) → 0 < w → w ≤ m.machine.work.session.workers → (w ≡ m.machine.work.session.own → ⊥) → (desk_of (here n.machine) n.machine.desks.items w).session.is_half_aborted ≡ (desk_of (here m.machine) m.machine.desks.items w).session.is_half_aborted

-- A device failed in that, or a page was not to be had: these events were under way.
pub record HasFailedBack {D : Type 0} (story : D → Story) (most : ℕ) (m n : PagedMachine D) : Type 0 where
  pub events : List happening.Event
  pub failed : Failed m.machine.work.session.workers true true events (view_of m) (memory m) (story m.machine.work.disk) (story n.machine.work.disk)
  pub backs : AreBacks m.machine.work.session.own events
  pub few : length events ≤ 2 * hot_in m + most
  pub same : AreAsMany m.machine n.machine
  pub fits : SeatFits n.machine

-- Why it is refused so: it is late. Or a page of some key's way finds no frame, and the log of a session whose abort is half done may not be flushed.
abbrev pub IsWhy : {D : Type 0} → PagedMachine D → Type 0
IsWhy n = IsLate (view_of n) ⊎ ((key : ℕ) × IsStuck key n)

-- by answer, where this is so of the changes that are left
abbrev pub PutsBack : {D : Type 0} → (story : D → Story) → (most : ℕ) → (Left : PagedMachine D → PagedMachine D → Type 0) → Result (Unit {0}) Unserved → (m n : PagedMachine D) → Type 0
PutsBack story most Left (Ok u) m n = HasUndone story most m n × Left m n
PutsBack story most Left (Err (unserved.Refused refusal.RowSpent)) m n = HasUndone story most m n × IsWhy n
PutsBack story most Left (Err (unserved.Unanswered unanswered.DiskFault)) m n = HasFailedBack story most m n
PutsBack story most Left (Err (unserved.Unanswered (unanswered.Damaged place))) m n = HasFailedBack story most m n × StandsNowhere story m
PutsBack story most Left (Err why) m n = ⊥

-- one was put back
abbrev pub OneLess : {D : Type 0} → (m n : PagedMachine D) → Type 0
OneLess m n = suc (length n.machine.work.session.undo) ≡ length m.machine.work.session.undo

-- none is left
abbrev pub NoneLeft : {D : Type 0} → (m n : PagedMachine D) → Type 0
NoneLeft m n = n.machine.work.session.undo ≡ []

-- so many were put back so far
pub record SoFar {D : Type 0} (story : D → Story) (m n : PagedMachine D) : Type 0 where
  pub many : ℕ
  pub undone : HasUndone story (many * most_a_back m.machine.work.session.workers) m n
  pub left : many + length n.machine.work.session.undo ≡ length m.machine.work.session.undo

-- ## The end

-- what it did behind the put-backs, by answer
abbrev pub EndsAbort : {D : Type 0} → (story : D → Story) → Result Ended Unserved → (m n : PagedMachine D) → Type 0
EndsAbort story r m n = Aborts story r (view_of m) (view_of n) m.machine.work.session n.machine.work.session m.machine.work.log n.machine.work.log m.machine.work.disk n.machine.work.disk
