-- Queues that have what the core has: the ends of each session that wait.
use Rattle.std.specs.Prelude.{◌≡◌, ◌<◌, ◌≤◌, ℕ, suc, Bool, true, false, ◌&&◌, ltb, leb, ◌==◌, List, [], ◌∷◌, ◌++◌, length, if◌then◌else◌}
use Rattle.map_model.specs.Lists.{Has}
use Rattle.map_model.specs.Journals.{Name}
use Rattle.rfa_model.specs.Stamps.{need_of}
use Rattle.core_crash.specs.image_model.Entries.{Entry, is_end, is_commit}
use Rattle.core_crash.specs.image_model.Ends.{name_of}
use Rattle.core_crash.specs.core_state.Openings.{Opening}
use Rattle.core_crash.specs.core_state.States.{State, flushed_by_all}
use Rattle.core_crash.specs.core_state.Events.{Event}
use Rattle.core_calls.specs.Durables.{is_told}
use Rattle.group_commit.specs.declared.receipts.Receipt.{Receipt}
use Rattle.group_commit.specs.declared.queue.End.{End}
use Rattle.group_commit.specs.Ripeness.{flushed_of}
use Rattle.group_commit.specs.Queues.{queue_of}

-- the numbers are those up to which the core has flushed the logs
pub record AreFlushed (g : Opening) (s : State) (fs : List ℕ) : Type 0 where
  pub logs : length fs ≡ g.workers
  pub each : (w : ℕ) → 0 < w → w ≤ g.workers → flushed_of fs w ≡ s.flushed w

-- the receipt tells of the entry
pub record Tells (r : Receipt) (e : Entry) : Type 0 where
  pub txn : r.txn ≡ e.txn
  pub log : r.log ≡ e.log
  pub gsn : r.gsn ≡ e.number
  pub need : r.need ≡ e.need

-- the receipt of the end that session w makes in this state, where it finds all logs flushed up to f
pub record IsOfEnd (s : State) (w f : ℕ) (r : Receipt) : Type 0 where
  pub txn : r.txn ≡ (s.worker w).txn
  pub log : r.log ≡ w
  pub gsn : r.gsn ≡ suc (s.worker w).clock
  pub need : r.need ≡ need_of (s.worker w).debt f

-- it ends a transaction
abbrev pub is_ending : Event → Bool
is_ending (Event.End w commit f) = true
is_ending _ = false

-- an end, as a queue has it
abbrev pub end_of : Entry → End
end_of e = record { txn = e.txn; gsn = e.number; need = e.need; is_commit = is_commit e.kind }

-- the ends of session w above a number, the oldest first
abbrev pub ends_above : (w from : ℕ) → List Entry → List End
ends_above w from [] = []
ends_above w from (e ∷ older) = if is_end e.kind && ((e.log == w) && ltb from e.number) then ends_above w from older ++ end_of e ∷ [] else ends_above w from older

-- flushed in its own log, and everywhere as far as it needs
abbrev pub is_flushed : Opening → State → Entry → Bool
is_flushed g s e = leb e.number (s.flushed e.log) && leb e.need (flushed_by_all g s)

-- Each queue has its session's ends above a number, which its clock has reached. Up to it all are ripe, and the commits are told; above it
-- none is told. Commits alone are told.
pub record Tracks (g : Opening) (s : State) (told : List Name) (qs : List (List End)) : Type 0 where
  pub sessions : length qs ≡ g.workers
  pub from : ℕ → ℕ
  pub reached : (w : ℕ) → from w ≤ (s.worker w).clock
  pub lists : (w : ℕ) → 0 < w → w ≤ g.workers → queue_of qs w ≡ ends_above w (from w) s.entries
  pub ripe : (e : Entry) → Has e s.entries → is_end e.kind ≡ true → e.number ≤ from e.log → is_flushed g s e ≡ true
  pub told_is : (e : Entry) → Has e s.entries → is_commit e.kind ≡ true → e.number ≤ from e.log → is_told told e ≡ true
  pub untold : (e : Entry) → Has e s.entries → is_commit e.kind ≡ true → from e.log < e.number → is_told told e ≡ false
  pub known : (n : Name) → Has n told → (e : Entry) × Has e s.entries × (is_commit e.kind ≡ true) × (name_of e ≡ n)
