-- What an event may change: the rows that it publishes, and what is its worker's own.
use Rattle.map_model.specs.Lists.{any}
use Rattle.core_state.specs.States.{State, is_hot, is_cooling, frame_of}
use Rattle.core_state.specs.Openings.{Opening}
use Rattle.core_state.specs.Events.{Event}
use Rattle.core_state.specs.Steps.{happens}
use Rattle.std.specs.Prelude.{◌≡◌, ◌==◌, ℕ, Bool, true, false, List, [], ◌∷◌}

-- it publishes the lock row
abbrev pub publishes_row : Event → ℕ → Bool
publishes_row (Event.Lock w i mode) j = i == j
publishes_row (Event.Unlock w i) j = i == j
publishes_row _ j = false

-- the pages that it changes, reads, brings into frames, takes out of them or saves
abbrev pub published : Event → List ℕ
published (Event.Change w p k v) = p ∷ []
published (Event.Put_back w p) = p ∷ []
published (Event.Split w l r q i) = l ∷ r ∷ q ∷ []
published (Event.Lift w c) = 0 ∷ c ∷ []
published (Event.Join w l r q) = l ∷ r ∷ q ∷ []
published (Event.Drop w c) = 0 ∷ c ∷ []
published (Event.Purge w p keys) = p ∷ []
published (Event.Fetch p pairs) = p ∷ []
published (Event.Load p f) = p ∷ []
published (Event.Cool p) = p ∷ []
published (Event.Rescue p) = p ∷ []
published (Event.Save p) = p ∷ []
published (Event.Evict p) = p ∷ []
published _ = []

-- the page is one of them
abbrev pub publishes_page : Event → ℕ → Bool
publishes_page e q = any (λ p. p == q) (published e)

-- it is an event of the worker
abbrev pub is_of : Event → ℕ → Bool
is_of (Event.Enter v e) w = v == w
is_of (Event.Leave v) w = v == w
is_of (Event.Begin v f) w = v == w
is_of (Event.Lock v i mode) w = v == w
is_of (Event.Read v p k a) w = v == w
is_of (Event.Next v p k a) w = v == w
is_of (Event.Peek v p k a) w = v == w
is_of (Event.Change v p k x) w = v == w
is_of (Event.Put_back v p) w = v == w
is_of (Event.Split v l r q i) w = v == w
is_of (Event.Lift v c) w = v == w
is_of (Event.Join v l r q) w = v == w
is_of (Event.Drop v c) w = v == w
is_of (Event.Purge v p keys) w = v == w
is_of (Event.End v commit f) w = v == w
is_of (Event.Unlock v i) w = v == w
is_of (Event.Flush v n) w = v == w
is_of (Event.Post v n) w = v == w
is_of (Event.Ask v) w = v == w
is_of (Event.Refused v n m) w = v == w
is_of (Event.Miss v) w = v == w
is_of _ w = false

-- a sync is of all workers
abbrev pub is_sync : Event → Bool
is_sync (Event.Sync n) = true
is_sync _ = false

-- what an event leaves as it was
pub record Local (g : Opening) (s : State) (e : Event) : Type 0 where
  pub rows : (j : ℕ) → publishes_row e j ≡ false → (happens g s e).row j ≡ s.row j
  pub pages : (q : ℕ) → publishes_page e q ≡ false → (happens g s e).page q ≡ s.page q
  pub saved : (q : ℕ) → publishes_page e q ≡ false → (happens g s e).saved q ≡ s.saved q
  -- the page stands where it stood; a leave changes for whom it waits
  pub hot : (q : ℕ) → publishes_page e q ≡ false → is_hot ((happens g s e).place q) ≡ is_hot (s.place q)
  pub cooling : (q : ℕ) → publishes_page e q ≡ false → is_cooling ((happens g s e).place q) ≡ is_cooling (s.place q)
  pub frame : (q : ℕ) → publishes_page e q ≡ false → frame_of ((happens g s e).place q) ≡ frame_of (s.place q)
  -- a sync alone is of all workers
  pub workers : (w : ℕ) → is_of e w ≡ false → is_sync e ≡ false → (happens g s e).worker w ≡ s.worker w
  pub flushed : (w : ℕ) → is_of e w ≡ false → is_sync e ≡ false → (happens g s e).flushed w ≡ s.flushed w
  pub inside : (w : ℕ) → is_of e w ≡ false → (happens g s e).inside w ≡ s.inside w

-- An event changes no row that it does not publish, and of workers its own alone.
abbrev pub EveryLocal : Type 0
EveryLocal = (g : Opening) (s : State) (e : Event) → Local g s e
