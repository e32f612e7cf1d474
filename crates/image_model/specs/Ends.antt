-- How far the logs of an image reach, and which transactions are ended, won, lost and kept. Logs are 1 to some number.
use Rattle.std.specs.Prelude.{if◌then◌else◌, ℕ, max, Bool, ◌&&◌, ◌||◌, not, leb, ◌==◌, List, [], ◌∷◌}
use Rattle.map_model.specs.Lists.{any, keep}
use Rattle.map_model.specs.Journals.{Name, Txn, Journal}
use Rattle.rfa_model.specs.Reaches.{reach_of}
use Rattle.image_model.specs.Entries.{Entry, is_end, is_commit, same_txn}

-- the log's greatest number, 0 where it has none
abbrev pub greatest : ℕ → List Entry → ℕ
greatest w [] = 0
greatest w (r ∷ z) = if r.log == w then max r.number (greatest w z) else greatest w z

-- the least, over the logs, of the greater of the master's floor and the log's greatest number
abbrev pub reach : (logs floor : ℕ) → List Entry → ℕ
reach logs floor z = reach_of logs floor (λ w. greatest w z)

-- e ends the transaction of r, and the logs reach what it needs
abbrev pub ends : ℕ → Entry → Entry → Bool
ends far r e = is_end e.kind && (same_txn e r && leb e.need far)

-- r's transaction is ended
abbrev pub ended : ℕ → List Entry → Entry → Bool
ended far z r = any (ends far r) z

-- e ends a transaction by commit
abbrev pub wins : ℕ → Entry → Bool
wins far e = is_commit e.kind && leb e.need far

abbrev pub name_of : Entry → Name
name_of r = record { session = r.log; number = r.txn }

abbrev pub names_of : List Entry → List Name
names_of [] = []
names_of (r ∷ z) = name_of r ∷ names_of z

-- ended by commit
abbrev pub winners : ℕ → List Entry → List Name
winners far z = names_of (keep (wins far) z)

-- the others with records that are not ended: each by its first record
abbrev pub is_first : List Entry → Entry → Bool
is_first earlier r = not (any (same_txn r) earlier)

abbrev pub firsts : List Entry → List Entry
firsts [] = []
firsts (r ∷ z) = if is_first z r then r ∷ firsts z else firsts z

abbrev pub losers : ℕ → List Entry → List Name
losers far z = names_of (keep (λ r. not (ended far z r)) (firsts z))

-- its end was cut with the logs, or it is a winner
abbrev pub is_kept : (logs floor : ℕ) → List Entry → Txn → Bool
is_kept logs floor z t = leb t.at floor || any (λ e. wins (reach logs floor z) e && ((e.log == t.session) && (e.txn == t.number))) z

abbrev pub kept : (logs floor : ℕ) → List Entry → Journal → Journal
kept logs floor z j = keep (is_kept logs floor z) j
