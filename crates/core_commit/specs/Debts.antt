-- What a worker knows of the logs of others, and which number its end needs.
use Rattle.map_model.specs.Lists.{Has}
use Rattle.rfa_model.specs.Stamps.{is_remote, need_of}
use Rattle.core_state.specs.image_model.Entries.{Entry, is_write, is_end, same_txn, touches}
use Rattle.core_state.specs.States.{State, start, flushed_by_all}
use Rattle.core_state.specs.Openings.{Opening}
use Rattle.core_state.specs.Events.{Event}
use Rattle.core_state.specs.Needs.{holds_row, may}
use Rattle.core_state.specs.Steps.{step, run}
use Rattle.std.specs.Prelude.{◌≡◌, ◌<◌, ◌≤◌, ℕ, max, Bool, true, List, [], ◌∷◌, ◌⊎◌}

-- ## Which number an end needs

-- the worker of an event that touches stamps
abbrev pub IsBy : Event → ℕ → Type 0
IsBy (Event.Lock v i mode) w = v ≡ w
IsBy (Event.Read v p k a) w = v ≡ w
IsBy (Event.Next v p k a) w = v ≡ w
IsBy (Event.Change v p k x) w = v ≡ w
IsBy (Event.Put_back v p) w = v ≡ w
IsBy (Event.Split v l r q i) w = v ≡ w
IsBy (Event.Lift v c) w = v ≡ w
IsBy (Event.Join v l r q) w = v ≡ w
IsBy (Event.Drop v c) w = v ≡ w
IsBy (Event.Purge v p keys) w = v ≡ w
IsBy _ w = ⊥

-- the number and the log of a page's last record, or of a row's last exclusive end
pub record Stamp : Type 0 where
  pub number : ℕ
  pub log : ℕ

-- those of these pages
abbrev pub stamps_of : State → List ℕ → List Stamp
stamps_of s [] = []
stamps_of s (p ∷ ps) = record { number = (s.page p).gsn; log = (s.page p).last } ∷ stamps_of s ps

-- the stamps that it touches: of its lock row, or of each page that it reads or changes
abbrev pub touched : State → Event → List Stamp
touched s (Event.Lock v i mode) = record { number = (s.row i).number; log = (s.row i).log } ∷ []
touched s (Event.Read v p k a) = stamps_of s (p ∷ [])
touched s (Event.Next v p k a) = stamps_of s (p ∷ [])
touched s (Event.Change v p k x) = stamps_of s (p ∷ [])
touched s (Event.Put_back v p) = stamps_of s (p ∷ [])
touched s (Event.Split v l r q i) = stamps_of s (l ∷ r ∷ q ∷ [])
touched s (Event.Lift v c) = stamps_of s (0 ∷ c ∷ [])
touched s (Event.Join v l r q) = stamps_of s (l ∷ r ∷ q ∷ [])
touched s (Event.Drop v c) = stamps_of s (0 ∷ c ∷ [])
touched s (Event.Purge v p keys) = stamps_of s (p ∷ [])
touched s _ = []

-- in s the event is one of w that touches a stamp with number n, which is remote
pub record IsRemoteTouch (g : Opening) (s : State) (e : Event) (w n : ℕ) : Type 0 where
  pub may : may g s e ≡ true
  pub by : IsBy e w
  pub stamp : Stamp
  pub has : Has stamp (touched s e)
  pub number : stamp.number ≡ n
  pub remote : is_remote w (s.worker w).floor stamp.number stamp.log ≡ true

-- at some moment of the run w touched a number n that was remote then
abbrev pub Touched : Opening → State → List Event → ℕ → ℕ → Type 0
Touched g s [] w n = ⊥
Touched g s (e ∷ es) w n = IsRemoteTouch g s e w n ⊎ Touched g (step g s e) es w n

-- The need of an end is not 0 exactly where its worker touched a number, in this transaction or an earlier one, that was
-- remote then and is above f, the least flushed number as the worker found it; it is then the greatest such number.
abbrev pub EveryNeed : Type 0
EveryNeed = (g : Opening) (es : List Event) (w : ℕ) (commit : Bool) (f : ℕ) →
    let s = run g (start g) es in
    let x = need_of (s.worker w).debt f in
    may g s (Event.End w commit f) ≡ true →
    ((n : ℕ) → Touched g (start g) es w n → f < n → (x ≡ 0 → ⊥) × (n ≤ x))
    × ((x ≡ 0 → ⊥) → Touched g (start g) es w x × (f < x))

-- ## What a worker knows

-- an end of y's transaction
pub record Ended (s : State) (y : Entry) : Type 0 where
  pub end : Entry
  pub has : Has end s.entries
  pub is_end : is_end end.kind ≡ true
  pub same : same_txn end y ≡ true

-- it stands in w's own log, or w's debt or all logs are as far
abbrev pub Knows : Opening → State → ℕ → Entry → Type 0
Knows g s w y = (y.log ≡ w) ⊎ (y.number ≤ max (s.worker w).debt (flushed_by_all g s))

-- what worker w knows of what it met
pub record Debt (g : Opening) (s : State) (w : ℕ) : Type 0 where
  -- of each record of w it knows what was written on the same page before
  pub pages : (r y : Entry) (p : ℕ) → Has r s.entries → Has y s.entries → r.log ≡ w → touches p r ≡ true → touches p y ≡ true → y.number < r.number → Knows g s w y
  -- of each row that it holds it knows the ends of those who wrote there
  pub rows : (i : ℕ) → holds_row (s.row i) w ≡ true → (y : Entry) → Has y s.entries → is_write y.kind ≡ true → g.row_of y.key ≡ i → (y.log ≡ w) ⊎ ((d : Ended s y) × Knows g s w d.end)
  -- floors are flushed, debts are up to the clock
  pub floor : (s.worker w).floor ≤ flushed_by_all g s
  pub debt : (s.worker w).debt ≤ (s.worker w).clock

-- so after every list of events
abbrev pub EveryDebt : Type 0
EveryDebt = (g : Opening) (es : List Event) (w : ℕ) → Debt g (run g (start g) es) w
