-- Why a line is refused: what the state shows at its place.
use Rattle.std.specs.Prelude.{◌≡◌, ◌⊎◌, ◌≤◌, ◌<◌, ℕ, Bool, true, false, ◌&&◌, not, leb, ◌==◌, List, length}
use Rattle.map_model.specs.declared.call.Call.{Call}
use Rattle.map_model.specs.declared.call.Call.TheVariants as call
use Rattle.map_model.specs.declared.call.Refusal.{Refusal}
use Rattle.map_model.specs.declared.call.Refusal.TheVariants as refusal
use Rattle.page_model.specs.Nodes.{holds}
use Rattle.page_model.specs.Redo.{has_key}
use Rattle.map_model.specs.Lists.{keep}
use Rattle.core_crash.specs.image_model.Entries.{is_end}
use Rattle.core_crash.specs.core_state.Openings.{Opening}
use Rattle.core_crash.specs.core_state.States.{Row, State, flushed_by_all, nodes_of}
use Rattle.core_crash.specs.core_state.Events.{Event, Mode}
use Rattle.core_crash.specs.core_state.Needs.{is_held_by, is_free, is_reader, may_hold}
use Rattle.core_calls.specs.Room.{is_all_full, room_takes, free_list}

-- What the core does not show. After some events: whether so many of a log's blocks are in use, of those that changes may use. Whether a
-- begin makes the step where a log is half full. Where clocks end; how many events must stand before a latch is spent; how many ends of a
-- session may wait; and how many pairs a scan prints.
pub record Limits : Type 0 where
  pub is_full : List Event → (session used limit : ℕ) → Bool
  pub steps : Bool
  pub clock_end : ℕ
  pub latch_end : ℕ
  pub waiting : ℕ
  pub pairs : ℕ

-- w may not have the row, for h holds it; of readers the least other is named
pub record Hinders (o : Row) (w : ℕ) (mode : Mode) (h : ℕ) : Type 0 where
  pub may_not : may_hold o w mode ≡ false
  pub other : h ≡ w → ⊥
  pub holds : (is_held_by o.holder h ≡ true) ⊎ ((is_free o.holder ≡ true) × (is_reader h o.readers ≡ true) × ((v : ℕ) → is_reader v o.readers ≡ true → (v ≡ w → ⊥) → h ≤ v))

-- h holds a row that the call needs; a scan meets keys
abbrev pub IsHindered : Opening → State → ℕ → Call → ℕ → Type 0
IsHindered g s w (call.Get k) h = Hinders (s.row (g.row_of k)) w Mode.Shared h
IsHindered g s w (call.Put k v) h = Hinders (s.row (g.row_of k)) w Mode.Alone h
IsHindered g s w (call.Del k) h = Hinders (s.row (g.row_of k)) w Mode.Alone h
IsHindered g s w (call.Scan from to) h = (k : ℕ) × (from ≤ k) × Hinders (s.row (g.row_of k)) w Mode.Shared h
IsHindered g s w c h = ⊥

-- the key's leaf is full and has not the key
pub record IsFull (g : Opening) (s : State) (k : ℕ) : Type 0 where
  pub page : ℕ
  pub within : page < g.format.pages
  pub leaf : holds (s.page page).node k ≡ true
  pub without : has_key k (s.page page).node ≡ false
  pub full : length (s.page page).node.pairs ≡ g.format.room

-- the ends of a session that are not ripe
abbrev pub waiting : Opening → State → ℕ → ℕ
waiting g s w = length (keep (λ e. is_end e.kind && ((e.log == w) && not (leb e.number (s.flushed w) && leb e.need (flushed_by_all g s)))) s.entries)

-- the transaction has all its changes; at a begin, too many ends wait
abbrev pub IsLong : Limits → Opening → State → ℕ → Call → Type 0
IsLong l g s w call.Begin = l.waiting ≤ waiting g s w
IsLong l g s w c = g.changes ≤ length (s.worker w).changes

-- room for the key takes a further level, and there is none
pub record IsTall (g : Opening) (s : State) (k : ℕ) : Type 0 where
  pub leaf : IsFull g s k
  pub all : is_all_full g s k ≡ true
  pub level : (nodes_of s 0).level ≡ g.format.levels

-- room for the key takes more pages than are free
pub record IsShort (g : Opening) (s : State) (k : ℕ) : Type 0 where
  pub leaf : IsFull g s k
  pub few : length (free_list g s) < room_takes g s k

-- a put, whose key has P
abbrev pub asks_put : Call → (ℕ → Type 0) → Type 0
asks_put (call.Put k v) P = P k
asks_put c P = ⊥

-- After these events. While an abort is half done, its session can only abort. The other refusals are no line's answer.
abbrev pub IsCause : Limits → Opening → List Event → State → (half : Bool) → (w : ℕ) → Call → Refusal → Type 0
IsCause l g es s half w c refusal.InTransaction = (s.worker w).is_open ≡ true
IsCause l g es s half w c refusal.NoTransaction = ((s.worker w).is_open ≡ false) ⊎ ((half ≡ true) × (c ≡ call.Abort → ⊥))
IsCause l g es s half w c refusal.TooLong = IsLong l g s w c
IsCause l g es s half w c (refusal.LogFull used limit) = l.is_full es w used limit ≡ true
IsCause l g es s half w c refusal.ClockSpent = l.clock_end ≤ (s.worker w).clock
IsCause l g es s half w c refusal.RowSpent = l.latch_end ≤ length es
IsCause l g es s half w c (refusal.Conflict h) = IsHindered g s w c h
IsCause l g es s half w c refusal.TooTall = asks_put c (IsTall g s)
IsCause l g es s half w c refusal.NoPages = asks_put c (IsShort g s)
IsCause l g es s half w c _ = ⊥

-- Who may not have a row is hindered by one, so a conflict is answered exactly where a row is held so.
abbrev pub EveryHinder : Type 0
EveryHinder = (o : Row) (w : ℕ) (mode : Mode) → may_hold o w mode ≡ false → (h : ℕ) × Hinders o w mode h
