-- Words of private functions: what a scan did, leaf by leaf.
use Rattle.std.specs.Prelude.{◌≡◌, ◌⊎◌, ◌≤◌, ◌<◌, ◌+◌, ◌*◌, ◌^◌, ℕ, false, ltb, List, [], length, Option, Some, None, Result, Ok, Err}
use Rattle.map_model.specs.Lists.{any, keep}
use Rattle.map_model.specs.declared.call.Refusal.TheVariants as refusal
use Rattle.paged_calls.specs.engine_trait.declared.unserved.Unanswered.TheVariants as unanswered
use Rattle.paged_calls.specs.engine_trait.declared.unserved.Unserved.{Unserved}
use Rattle.paged_calls.specs.engine_trait.declared.unserved.Unserved.TheVariants as unserved
use Rattle.paged_calls.specs.core_state.Events as happening
use Rattle.paged_calls.specs.core_state.Lists.{count_below}
use Rattle.paged_calls.specs.core_state.Openings.{Opening}
use Rattle.paged_calls.specs.core_state.States.{State}
use Rattle.paged_calls.specs.core_calls.Fronts.{Done}
use Rattle.paged_calls.specs.core_calls.LogEvents.{IsTightSomewhere, SyncsWhere}
use Rattle.paged_calls.specs.core_calls.Scans.{TakesMet}
use Rattle.paged_calls.specs.core_calls.Steps.{Walks, is_step, is_structure}
use Rattle.paged_calls.specs.engine_calls.Parts.{behind_first}
use Rattle.paged_calls.specs.engine_calls.Scans.{PassesGaps}
use Rattle.lean_disk.specs.Story.{Story}
use Rattle.paged_calls.specs.row_words.declared.event.Event.{Event}
use Rattle.paged_calls.specs.row_words.Moments.{events_of}
use Rattle.paged_calls.specs.row_words.Openings.{opening}
use Rattle.paged_calls.specs.rows_trait.Views.{state}
use Rattle.paged_calls.specs.call_parts.Parts.{Part}
use Rattle.paged_calls.specs.call_parts.Rooms.{AreWalk}
use Rattle.paged_calls.specs.session_state.Ties.{Behind}
use Rattle.paged_calls.specs.session_desks.Desks.{desk_of}
use Rattle.paged_calls.specs.session_desks.Parts.{AreAsMany, here}
use Rattle.row_scans.specs.Meets.{HasMet, HasMetConflict, HasMetSpent, IsButRows}
use Rattle.row_scans.specs.declared.meets.Met.{Met}
use Rattle.row_scans.specs.declared.meets.Met.TheVariants as met
use Rattle.paged_calls.specs.paged_desks.Calls.{IsBeside}
use Rattle.paged_calls.specs.paged_desks.Machines.{IsReady, memory, view_of}
use Rattle.paged_calls.specs.paged_desks.Pages.{hot_in, most_a_level}
use Rattle.paged_calls.specs.paged_desks.Parts.{IsSpent, StandsNowhere}
use Rattle.paged_calls.specs.paged_desks.declared.machine.PagedMachine.{PagedMachine}
use Rattle.paged_calls.specs.Steps.{FailsWarm, HasCome}

-- no other session stands in the way
abbrev pub NoOther : Unserved → Type 0
NoOther (unserved.Refused (refusal.Conflict h)) = ⊥
NoOther why = Unit {0}

-- ## How many events

-- how many pages have a high fence above the key: no more leaves than that are met from there on
abbrev pub pages_above : Opening → State → (key : ℕ) → ℕ
pages_above g s key = count_below g.format.pages (λ p. ltb key (s.page p).node.high)

abbrev pub above_in : {D : Type 0} → PagedMachine D → (key : ℕ) → ℕ
above_in m key = pages_above (opening (view_of m).given) (state (view_of m)).core key

-- so many events at most the coming of the pages of a key's way has, beside those by which pages cool
abbrev pub most_a_come : {D : Type 0} → PagedMachine D → ℕ
most_a_come m = 9 * most_a_level m.machine.work.session.workers

-- so many a leaf with the walk in it
abbrev pub most_a_leaf : ℕ
most_a_leaf = 2 ^ 9

-- ## One leaf

-- the pages of the key's way came, if it was needed, and then P
pub record Then {D : Type 0} (story : D → Story) (key : ℕ) (P : (between n : PagedMachine D) → Type 0) (m n : PagedMachine D) : Type 0 where
  pub between : PagedMachine D
  pub come : HasCome story key m between
  pub few : length come.events + 2 * hot_in between ≤ 2 * hot_in m + most_a_come m
  pub ready : IsReady story between
  pub beside : IsBeside between n
  pub session : IsButRows between.machine.work.session n.machine.work.session
  pub is : P between n

-- a latch is spent, in the walk or in the coming of pages
abbrev pub IsSpentWarm : {D : Type 0} → (story : D → Story) → (key : ℕ) → (m n : PagedMachine D) → Type 0
IsSpentWarm story key m n = Then story key (λ u k. HasMetSpent m.machine.work.session.own (view_of u) (view_of k) key) m n ⊎ (HasCome story key m n × IsSpent m n)

-- by answer
abbrev pub MeetsWarm : {D : Type 0} → (story : D → Story) → (key : ℕ) → Result Met Unserved → (m n : PagedMachine D) → Type 0
MeetsWarm story key (Ok x) m n = Then story key (λ u k. HasMet m.machine.work.session.own (view_of u) (view_of k) key x) m n
MeetsWarm story key (Err (unserved.Refused (refusal.Conflict h))) m n = Then story key (λ u k. HasMetConflict m.machine.work.session.own (view_of u) (view_of k) key h) m n
MeetsWarm story key (Err (unserved.Refused refusal.RowSpent)) m n = IsSpentWarm story key m n
MeetsWarm story key (Err (unserved.Unanswered unanswered.DiskFault)) m n = FailsWarm story m n
MeetsWarm story key (Err (unserved.Unanswered (unanswered.Damaged place))) m n = FailsWarm story m n × StandsNowhere story m
MeetsWarm story key (Err why) m n = ⊥

-- ## From leaf to leaf

-- From the key on the scan has passed gaps alone, and stands at another. Each gap was told behind the rows of the entries that it met, and behind no other row.
pub record HasPassed {D : Type 0} (story : D → Story) (from at : ℕ) (m n : PagedMachine D) : Type 0 where
  pub events : List Event
  pub part : Part m.machine.work.session.workers events (view_of m) (view_of n) (memory m) (memory n) (story m.machine.work.disk) (story n.machine.work.disk)
  pub walks : Walks m.machine.work.session.own from (keep is_step (events_of events)) (λ k. k ≡ at)
  pub gaps : PassesGaps (keep is_step (events_of events))
  pub walking : AreWalk m.machine.work.session.own (events_of events)
  pub structure : any is_structure (events_of events) ≡ false
  -- each leaf that was passed is one less above the key
  pub few : length events + 2 * hot_in n + most_a_leaf * above_in n at ≤ 2 * hot_in m + most_a_leaf * above_in m from
  pub rows : (g : Opening) (xs : List Done) (first : List happening.Event) → Behind g xs first (view_of m) → TakesMet g (behind_first g xs first) from [] (events_of events) (λ s k taken. (k ≡ at) × (taken ≡ []))
  pub tight : (g : Opening) (xs : List Done) (first : List happening.Event) → Behind g xs first (view_of m) → SyncsWhere (IsTightSomewhere g) g (behind_first g xs first) false (events_of events)
  pub same : AreAsMany m.machine n.machine
  pub turn : n.machine.work.session.own ≡ m.machine.work.session.own
  pub halves : (w : ℕ) → 0 < w → w ≤ m.machine.work.session.workers → (desk_of (here n.machine) n.machine.desks.items w).session.is_half_aborted ≡ (desk_of (here m.machine) m.machine.desks.items w).session.is_half_aborted

-- gaps were passed, and then P, of where it stood
pub record Behinds {D : Type 0} (story : D → Story) (from to : ℕ) (P : (at : ℕ) → (between n : PagedMachine D) → Type 0) (m n : PagedMachine D) : Type 0 where
  pub between : PagedMachine D
  pub at : ℕ
  pub low : from ≤ at
  pub high : at ≤ to
  pub passed : HasPassed story from at m between
  pub is : P at between n

-- the pair was met, in a leaf
abbrev pub IsNext : {D : Type 0} → (story : D → Story) → (from to key value : ℕ) → (m n : PagedMachine D) → Type 0
IsNext story from to key value m n = Behinds story from to (λ at u k. Then story at (λ a b. HasMet u.machine.work.session.own (view_of a) (view_of b) at (met.Pair key value)) u k) m n

-- there is none: gaps alone were passed up to behind the last key, or the pair behind them is beyond it
abbrev pub IsOver : {D : Type 0} → (story : D → Story) → (from to : ℕ) → (m n : PagedMachine D) → Type 0
IsOver story from to m n = ((at : ℕ) × (to < at) × HasPassed story from at m n) ⊎ ((key : ℕ) × (value : ℕ) × (to < key) × IsNext story from to key value m n)

-- by answer
abbrev pub Nexts : {D : Type 0} → (story : D → Story) → (from to : ℕ) → Result (Option (ℕ × ℕ)) Unserved → (m n : PagedMachine D) → Type 0
Nexts story from to (Ok (Some pair)) m n = (pair.0 ≤ to) × IsNext story from to pair.0 pair.1 m n
Nexts story from to (Ok None) m n = IsOver story from to m n
Nexts story from to (Err (unserved.Refused (refusal.Conflict h))) m n = Behinds story from to (λ at u k. Then story at (λ a b. HasMetConflict u.machine.work.session.own (view_of a) (view_of b) at h) u k) m n
Nexts story from to (Err (unserved.Refused refusal.RowSpent)) m n = Behinds story from to (λ at u k. IsSpentWarm story at u k) m n
Nexts story from to (Err (unserved.Unanswered unanswered.DiskFault)) m n = Behinds story from to (λ at u k. FailsWarm story u k) m n
Nexts story from to (Err (unserved.Unanswered (unanswered.Damaged place))) m n = Behinds story from to (λ at u k. FailsWarm story u k × StandsNowhere story u) m n
Nexts story from to (Err why) m n = ⊥
