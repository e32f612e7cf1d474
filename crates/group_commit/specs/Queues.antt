-- Queues of ends, one for each session, the oldest end first; and what a take finds and leaves.
use Rattle.std.specs.Prelude.{◌≡◌, ◌<◌, ◌≤◌, ◌-◌, ◌+◌, ◌⊎◌, ℕ, Bool, false, ◌&&◌, not, leb, List, [], ◌∷◌, ◌++◌, length, drop, slice_set, slice_index_or, Option, Some, None, if◌then◌else◌}
use Rattle.rfa_model.specs.Reaches.{least}
use Rattle.group_commit.specs.declared.receipts.Receipt.{Receipt}
use Rattle.group_commit.specs.declared.queue.End.{End}
use Rattle.group_commit.specs.Ripeness.{flushed_of}

-- ## One queue, whose log is flushed up to f, and all logs up to `all`

abbrev pub is_ripe_at : (f all : ℕ) → End → Bool
is_ripe_at f all e = leb e.gsn f && leb e.need all

-- a ripe abort
abbrev pub is_done : (f all : ℕ) → End → Bool
is_done f all e = not e.is_commit && is_ripe_at f all e

-- the oldest end is one
abbrev pub begins_done : (f all : ℕ) → List End → Bool
begins_done f all [] = false
begins_done f all (e ∷ q) = is_done f all e

-- the oldest end is ripe
abbrev pub begins_ripe : (f all : ℕ) → List End → Bool
begins_ripe f all [] = false
begins_ripe f all (e ∷ q) = is_ripe_at f all e

-- without ripe aborts, up to the first end that is none
abbrev pub settled : (f all : ℕ) → List End → List End
settled f all [] = []
settled f all (e ∷ q) = if is_done f all e then settled f all q else e ∷ q

-- the oldest end, if it is a ripe commit
abbrev pub ripe_first : (f all : ℕ) → List End → Option End
ripe_first f all [] = None
ripe_first f all (e ∷ q) = if e.is_commit && is_ripe_at f all e then Some e else None

-- ## All queues

-- session w's; sessions are 1, 2, ..
abbrev pub queue_of : List (List End) → ℕ → List End
queue_of qs w = slice_index_or qs (w - 1) []

-- how many ends there are
abbrev pub queued : List (List End) → ℕ
queued [] = 0
queued (q ∷ qs) = length q + queued qs

-- so many, all empty
pub record AreNew (workers : ℕ) (qs : List (List End)) : Type 0 where
  pub sessions : length qs ≡ workers
  pub empty : (w : ℕ) → queue_of qs w ≡ []

-- an end is put behind those of its session
abbrev pub pushed : Receipt → Bool → List (List End) → List (List End)
pushed r is_commit qs = slice_set qs (r.log - 1) (queue_of qs r.log ++ record { txn = r.txn; gsn = r.gsn; need = r.need; is_commit = is_commit } ∷ [])

-- the session's oldest end goes
abbrev pub without_first : ℕ → List (List End) → List (List End)
without_first w qs = slice_set qs (w - 1) (drop 1 (queue_of qs w))

-- ripe aborts go from the head of each queue
pub record IsSettled (fs : List ℕ) (all : ℕ) (old new : List (List End)) : Type 0 where
  pub sessions : length new ≡ length old
  pub each : (w : ℕ) → 0 < w → w ≤ length old → queue_of new w ≡ settled (flushed_of fs w) all (queue_of old w)

-- ## The first that is ripe

abbrev pub receipt_of : (w : ℕ) → End → Receipt
receipt_of w e = record { txn = e.txn; log = w; gsn = e.gsn; need = e.need }

abbrev pub receipt_if : (w : ℕ) → Option End → Option Receipt
receipt_if w None = None
receipt_if w (Some e) = Some (receipt_of w e)

-- the receipt of the session's oldest end, if it is a ripe commit
abbrev pub next_of : List ℕ → (all : ℕ) → List (List End) → (w : ℕ) → Option Receipt
next_of fs all qs w = receipt_if w (ripe_first (flushed_of fs w) all (queue_of qs w))

-- the second where its number is less, else the first
abbrev pub sooner : Option Receipt → Receipt → Option Receipt
sooner None r = Some r
sooner (Some a) r = if leb a.gsn r.gsn then Some a else Some r

-- one of the receipts of sessions 1 to n, and none comes before it, by number, ties by session
pub record Soonest (next : ℕ → Option Receipt) (n : ℕ) (r : Receipt) : Type 0 where
  pub some : 0 < r.log
  pub within : r.log ≤ n
  pub is : next r.log ≡ Some r
  pub first : (w : ℕ) (x : Receipt) → 0 < w → w ≤ n → next w ≡ Some x → (r.gsn < x.gsn) ⊎ ((r.gsn ≡ x.gsn) × (r.log ≤ w))

-- the soonest, where there is one
abbrev pub IsSoonest : (ℕ → Option Receipt) → ℕ → Option Receipt → Type 0
IsSoonest next n None = (w : ℕ) → 0 < w → w ≤ n → next w ≡ None
IsSoonest next n (Some r) = Soonest next n r

-- the queues but for what was taken, if anything was
abbrev pub left : Option Receipt → List (List End) → List (List End)
left None qs = qs
left (Some r) qs = without_first r.log qs

-- Where logs are flushed up to these numbers: ripe aborts go; of what is left the soonest is found, and goes.
pub record Takes (fs : List ℕ) (old : List (List End)) (r : Option Receipt) (new : List (List End)) : Type 0 where
  pub between : List (List End)
  pub aborts : IsSettled fs (least (flushed_of fs) (length fs)) old between
  pub soonest : IsSoonest (next_of fs (least (flushed_of fs) (length fs)) between) (length old) r
  pub taken : new ≡ left r between
