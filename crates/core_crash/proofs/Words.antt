-- Words of the proof: a crash said by thresholds, and committed transactions by their entries.
use Rattle.map_model.specs.Lists.{Has, any, keep, upd, in_order}
use Rattle.core_paging.specs.image_model.Entries.{Entry, Contents, is_write, is_call, is_commit, is_record, same_txn, earlier, touches}
use Rattle.core_paging.specs.image_model.Ends.{reach}
use Rattle.core_paging.specs.image_model.Redo.{Redone, redo_one, redo, passes}
use Rattle.core_paging.specs.image_model.Undo.{is_lost, undo, values}
use Rattle.page_model.specs.Nodes.{Format}
use Rattle.page_model.specs.Tree.{IsTree, entry}
use Rattle.core_paging.specs.core_state.States.{State, start, flushed_by_all}
use Rattle.core_paging.specs.core_state.Openings.{Opening, first}
use Rattle.core_paging.specs.core_state.Events.{Event}
use Rattle.core_paging.specs.core_state.Steps.{claims, run}
use Rattle.core_paging.specs.core_state.Steps.{HasBeen}
use Rattle.core_paging.proofs.core_commit.Lists.{Within}
use Rattle.core_paging.proofs.core_commit.History.{answer}
use Rattle.std.proofs.Common.{◌≡◌, ◌≤◌, ℕ, Bool, true, false, ◌&&◌, ◌||◌, not, leb, List, [], ◌∷◌, None, if◌then◌else◌}

-- ## A crash

-- the records that a crash leaves: of each log those up to a number
abbrev pub found : (ℕ → ℕ) → Entry → Bool
found up_to r = is_record r.kind && leb r.number (up_to r.log)

-- before its log's head
abbrev pub is_cut : (ℕ → ℕ) → Entry → Bool
is_cut head r = leb r.number (head r.log)

abbrev pub there : (ℕ → ℕ) → (ℕ → ℕ) → Entry → Bool
there head up_to r = found up_to r && not (is_cut head r)

abbrev pub left : (ℕ → ℕ) → State → List Entry
left up_to s = keep (there s.head up_to) s.entries

-- redo with its tests
pub record Tested : Type 0 where
  pub done : Redone
  pub sound : Bool

abbrev pub test_one : Format → Tested → Entry → Tested
test_one f t r = record { done = redo_one t.done r; sound = t.sound && passes f t.done.page r }

abbrev pub tested : Format → (ℕ → Contents) → List Entry → Tested
tested f page [] = record { done = record { page = page; counts = λ _ _. false }; sound = true }
tested f page (r ∷ z) = test_one f (tested f page z) r

abbrev pub recovered : Opening → ℕ → (ℕ → Contents) → List Entry → ℕ → ℕ
recovered g floor page z =
    let sorted = in_order earlier z in
    let d = redo page sorted in
    undo (is_lost g.workers floor z d) sorted (values g.format d)

-- ## The journal

pub record Done : Type 0 where
  pub end : Entry
  pub calls : List Entry

-- the calls of e's transaction, the newest first
abbrev pub calls_of : Entry → List Entry → List Entry
calls_of e h = keep (λ r. same_txn r e) h

-- the committed transactions
abbrev pub committed : List Entry → List Done
committed [] = []
committed (e ∷ h) = if is_commit e.kind then record { end = e; calls = calls_of e h } ∷ committed h else committed h

abbrev pub done_earlier : Done → Done → Bool
done_earlier a b = earlier a.end b.end

-- by commit number, the greatest first
abbrev pub journal : List Entry → List Done
journal h = in_order done_earlier (committed h)

abbrev pub write_all : List Entry → (ℕ → ℕ) → ℕ → ℕ
write_all [] m = m
write_all (r ∷ rs) m = if is_write r.kind then upd (write_all rs m) r.key r.after else write_all rs m

abbrev pub after : (ℕ → ℕ) → List Done → ℕ → ℕ
after m [] = m
after m (t ∷ ts) = write_all t.calls (after m ts)

-- ended by commit
abbrev pub wins : ℕ → List Entry → Done → Bool
wins reach z t = any (λ e. is_commit e.kind && (same_txn e t.end && leb e.need reach)) z

abbrev pub kept : Opening → ℕ → List Entry → List Done → List Done
kept g floor z j = keep (λ t. leb t.end.number floor || wins (reach g.workers floor z) z t) j

abbrev pub Wrote : Done → ℕ → Type 0
Wrote t k = (r : Entry) × Has r t.calls × (claims r ≡ true) × (r.key ≡ k)

abbrev pub Used : Done → ℕ → Type 0
Used t k = (r : Entry) × Has r t.calls × (is_call r.kind ≡ true) × (r.key ≡ k)

-- u is before t in j, and claimed a key that t read or wrote
pub record Depends (j : List Done) (t u : Done) : Type 0 where
  pub key : ℕ
  pub used : Used t key
  pub wrote : Wrote u key
  pub in_journal : Has u j
  pub before : done_earlier u t ≡ true

abbrev pub IsClosed : List Done → List Done → Type 0
IsClosed j ts = (t u : Done) → Has t ts → Depends j t u → Has u ts

-- each call answers as a map does that the calls before it leave
abbrev pub Lawful : (ℕ → ℕ) → List Entry → Type 0
Lawful m [] = Unit {0}
Lawful m (r ∷ rs) = Lawful m rs × (is_call r.kind ≡ true → answer r ≡ write_all rs m r.key)

-- the transactions one after another, the last of the list first
abbrev pub Serial : (ℕ → ℕ) → List Done → Type 0
Serial m [] = Unit {0}
Serial m (t ∷ ts) = Serial m ts × Lawful (after m ts) t.calls

-- flushed in its own log, and everywhere as far as it needs
abbrev pub IsRipe : Opening → State → Done → Type 0
IsRipe g s t = (t.end.number ≤ s.flushed t.end.log) × (t.end.need ≤ flushed_by_all g s)

-- ## What a crash may leave

pub record Crash (g : Opening) (es : List Event) (up_to : ℕ → ℕ) (page : ℕ → Contents) : Type 0 where
  pub logs : (w : ℕ) → Within g.workers w → (run g (start g) es).flushed w ≤ up_to w
  pub pages : (p : ℕ) → HasBeen g (start g) es p (page p)
  pub numbers : (p : ℕ) → (page p).gsn ≤ flushed_by_all g (run g (start g) es)
  -- a page holds its changes up to the greatest number of a Cut
  pub changes : (p : ℕ) (r : Entry) → Has r (run g (start g) es).entries → touches p r ≡ true → r.number ≤ (run g (start g) es).cut → r.number ≤ (page p).gsn

pub record Stands (g : Opening) (h : List Entry) (floor : ℕ) (z : List Entry) (page : ℕ → Contents) : Type 0 where
  pub map : (k : ℕ) → recovered g floor page z k ≡ after (first g) (kept g floor z (journal h)) k
  pub closed : IsClosed (journal h) (kept g floor z (journal h))
  -- the pages that redo leaves are a tree, each well formed
  pub tree : IsTree g.format (λ p. ((redo page (in_order earlier z)).page p).node)
  -- and each record that counts could be done
  pub sound : (tested g.format page (in_order earlier z)).sound ≡ true
  -- and each key that is put back has an entry
  pub entries : (r : Entry) → Has r z → is_lost g.workers floor z (redo page (in_order earlier z)) r ≡ true → entry g.format.pages (λ p. ((redo page (in_order earlier z)).page p).node) r.key ≡ None → ⊥

abbrev pub EveryCrash : Type 0
EveryCrash = (g : Opening) → g.faithful ≡ true → (es : List Event) (up_to : ℕ → ℕ) (page : ℕ → Contents) → Crash g es up_to page →
    let s = run g (start g) es in
    let z = left up_to s in
    Stands g s.entries s.floor z page
    × ((t : Done) → Has t (journal s.entries) → IsRipe g s t → Has t (kept g s.floor z (journal s.entries)))

abbrev pub EverySerial : Type 0
EverySerial = (g : Opening) → g.faithful ≡ true → (es : List Event) → Serial (first g) (journal (run g (start g) es).entries)

-- the calls of all sessions, in the order in which they happened, are a legal history
abbrev pub EveryLegal : Type 0
EveryLegal = (g : Opening) → g.faithful ≡ true → (es : List Event) → Lawful (first g) (run g (start g) es).entries
