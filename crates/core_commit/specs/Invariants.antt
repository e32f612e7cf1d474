-- What every state of the core has, and each kind of event keeps: of each lock row, of each worker, of what is cut, and of
-- pages. F is what is flushed everywhere, h the entries so far.
use Rattle.map_model.specs.Lists.{upd, Has}
use Rattle.page_model.specs.Tree.{IsTree}
use Rattle.core_state.specs.image_model.Entries.{Entry, is_call, is_end, is_record, Contents}
use Rattle.core_state.specs.image_model.Entries.Kind.{Commit}
use Rattle.core_state.specs.States.{Place, Row, Worker, State, flushed_by_all, nodes_of, is_cold}
use Rattle.core_state.specs.Openings.{Opening}
use Rattle.core_state.specs.Steps.{claims, end_entry}
use Rattle.core_commit.specs.Past.{Within, EndOf, Covered, PagesCovered, IsRecorded, IsHistory, HasStamp, page_at, history_value, without}
use Rattle.std.specs.Prelude.{◌≡◌, ◌<◌, ◌≤◌, ℕ, max, true, if◌then◌else◌, List, [], ◌∷◌, ◌⊎◌, Some}

-- ## Rows

abbrev pub Holds : Row → ℕ → Type 0
Holds o w = (o.holder ≡ Some w) ⊎ Has w o.readers

-- the greatest number of an end that the worker knows of
abbrev pub top_of : Worker → ℕ
top_of a = if a.is_open then a.clock else a.end

-- Row i, where worker w has the bound X w on what is covered, and knows of ends up to T w.
pub record RowOk (g : Opening) (X T : ℕ → ℕ) (h : List Entry) (i : ℕ) (o : Row) : Type 0 where
  -- each write is the holder's, or is ended, and the stamp tells of it
  pub writes : (y : Entry) → Has y h → claims y ≡ true → g.row_of y.key ≡ i → (o.holder ≡ Some y.log) ⊎ ((d : EndOf h y) × (d.end.number ≤ o.number) × Covered o.log (X o.log) d.end)
  -- each call is of one who holds it, or is ended, and stamp or readers' end tells of it
  pub reads : (y : Entry) → Has y h → is_call y.kind ≡ true → g.row_of y.key ≡ i → Holds o y.log ⊎ ((d : EndOf h y) × (d.end.number ≤ max o.number o.read_end))
  pub alone : (w v : ℕ) → o.holder ≡ Some w → Has v o.readers → v ≡ w
  -- who holds the row has each write of others covered
  pub touched : (w : ℕ) → Holds o w → (y : Entry) → Has y h → claims y ≡ true → g.row_of y.key ≡ i → (y.log ≡ w) ⊎ ((d : EndOf h y) × (d.end.number ≤ T w) × Covered w (X w) d.end)
  pub sole : (w : ℕ) → o.holder ≡ Some w → (y : Entry) → Has y h → is_call y.kind ≡ true → g.row_of y.key ≡ i → (y.log ≡ w) ⊎ ((d : EndOf h y) × (d.end.number ≤ T w))
  -- who holds it is a worker, and where nobody held it alone the stamp is none
  pub known : (w : ℕ) → Holds o w → 0 < w
  pub fresh : o.log ≡ 0 → o.number ≡ 0

-- ## Workers

-- an end of the worker's transaction
abbrev pub marker : ℕ → Worker → Entry
marker w a = end_entry Commit w a 0

-- the values after the changes are put back, the newest first
abbrev pub undone : List Entry → (ℕ → ℕ) → ℕ → ℕ
undone [] m = m
undone (c ∷ cs) m = undone cs (upd m c.key c.before)

abbrev pub values_of : Opening → List Entry → ℕ → ℕ
values_of g h k = history_value g k h

-- Worker w, whose log is flushed up to fl.
pub record WorkerOk (g : Opening) (F base fl : ℕ) (h : List Entry) (row : ℕ → Row) (w : ℕ) (a : Worker) : Type 0 where
  pub floor : a.floor ≤ F
  pub debt : a.debt ≤ a.clock
  pub end : a.end ≤ a.clock
  pub flushed : fl ≤ a.clock
  pub based : Within g.workers w → base ≤ fl
  -- a flushed number above the master's floor is that of a record
  pub in_log : (fl ≤ base) ⊎ ((r : Entry) × Has r h × (is_record r.kind ≡ true) × (r.log ≡ w) × (r.number ≡ fl))
  pub numbers : (r : Entry) → Has r h → r.log ≡ w → (r.number ≤ a.clock) × (r.txn ≤ a.txn)
  -- what its ends needed is owed, or flushed everywhere
  pub ends : (e : Entry) → Has e h → is_end e.kind ≡ true → e.log ≡ w → (e.number ≤ a.end) × (e.need ≤ max a.debt F)
  -- an entry of its own is of the open transaction, or of one that has ended
  pub past : (r : Entry) → Has r h → r.log ≡ w → ((a.is_open ≡ true) × (r.txn ≡ a.txn)) ⊎ EndOf h r
  pub unended : a.is_open ≡ true → (e : Entry) → Has e h → is_end e.kind ≡ true → e.log ≡ w → e.txn ≡ a.txn → ⊥
  -- it knows what was written before it on the pages of its records
  pub pages : PagesCovered w (max a.debt F) h
  pub is_log : a.is_open ≡ true → Within g.workers w
  -- it holds the rows that its open transaction used
  pub used : a.is_open ≡ true → (r : Entry) → Has r h → is_call r.kind ≡ true → r.log ≡ w → r.txn ≡ a.txn → Holds (row (g.row_of r.key)) w × (claims r ≡ true → (row (g.row_of r.key)).holder ≡ Some w)
  pub changes : a.is_open ≡ true → (c : Entry) → Has c a.changes → (row (g.row_of c.key)).holder ≡ Some w
  -- what a listed change is put back to is a word that a leaf can have
  pub words : a.is_open ≡ true → (c : Entry) → Has c a.changes → c.before ≤ g.format.dead

-- the open transaction's changes, put back, leave what the others wrote
abbrev pub Undoes : Opening → List Entry → ℕ → Worker → Type 0
Undoes g h w a = a.is_open ≡ true → (k : ℕ) → undone a.changes (values_of g h) k ≡ without g (marker w a) k h

-- ## States

abbrev pub bound : Opening → State → ℕ → ℕ
bound g s w = max (s.worker w).debt (flushed_by_all g s)

abbrev pub tops : State → ℕ → ℕ
tops s w = top_of (s.worker w)

-- what is cut is of transactions that are ended in every crash
pub record CutsOk (g : Opening) (F floor cut : ℕ) (head flushed : ℕ → ℕ) (h : List Entry) : Type 0 where
  pub base : g.base ≤ floor
  pub low : cut ≤ floor
  pub heads : (w : ℕ) → head w ≤ cut
  pub ripe : (r : Entry) → Has r h → is_record r.kind ≡ true → r.number ≤ cut → (e : EndOf h r) × (e.end.number ≤ flushed e.end.log) × (e.end.need ≤ F)

-- what pages contain is what the entries make of the start's pages
pub record IsTold (g : Opening) (s : State) : Type 0 where
  pub history : IsHistory g (flushed_by_all g s) s.entries
  pub pages : (p : ℕ) → s.page p ≡ page_at g s.entries p
  pub undo : (w : ℕ) → Undoes g s.entries w (s.worker w)

-- all but `told` lasts whatever pages contain; what is told is so where the opening is faithful
pub record Inv (g : Opening) (s : State) : Type 0 where
  pub cuts : CutsOk g (flushed_by_all g s) s.floor s.cut s.head s.flushed s.entries
  pub records : IsRecorded g (flushed_by_all g s) s.entries
  pub stamps : (p : ℕ) → HasStamp (s.page p) (page_at g s.entries p)
  pub tree : IsTree g.format (nodes_of s)
  pub rows : (i : ℕ) → RowOk g (bound g s) (tops s) s.entries i (s.row i)
  pub workers : (w : ℕ) → WorkerOk g (flushed_by_all g s) s.floor (s.flushed w) s.entries s.row w (s.worker w)
  pub told : g.faithful ≡ true → IsTold g s

-- a page that is cold, or not dirty, is as it was saved
pub record Copied (page saved : ℕ → Contents) (place : ℕ → Place) : Type 0 where
  pub cold : (p : ℕ) → is_cold (place p) ≡ true → page p ≡ saved p
  pub clean : (p : ℕ) → (page p).gsn ≤ (saved p).gsn → page p ≡ saved p
  pub behind : (p : ℕ) → (saved p).gsn ≤ (page p).gsn

-- all of it
pub record Good (g : Opening) (s : State) : Type 0 where
  pub inv : Inv g s
  pub copied : Copied s.page s.saved s.place
