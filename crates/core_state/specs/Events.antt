-- What can happen: each event by its worker, if it has one, and what it names.
use Rattle.map_model.specs.Maps.{MapAnswer}
use Rattle.page_model.specs.Pairs.{Pair}
use Rattle.std.specs.Prelude.{ℕ, Bool, List, Option}

-- how a row is held: with others that read, or by one alone
pub data Mode : Type 0 where
  Shared Alone : Mode

-- w a worker, p, l, r, q, c pages (left, right, their parent, the root's child), i a row or the place of a pair,
-- k a key, v a word, n a number, f the least flushed number as the worker found it (of Load: a frame), e an epoch.
-- Fetch: the cold leaf p was read, and had these pairs.
pub data Event : Type 0 where
  Enter : (w e : ℕ) → Event
  Leave : (w : ℕ) → Event
  Begin : (w f : ℕ) → Event
  Lock : (w i : ℕ) → (mode : Mode) → Event
  Read : (w p k : ℕ) → (answer : Option ℕ) → Event
  Next : (w p k : ℕ) → (answer : MapAnswer) → Event
  Peek : (w p k : ℕ) → (answer : Option ℕ) → Event
  Change : (w p k v : ℕ) → Event
  Put_back : (w p : ℕ) → Event
  Split : (w l r q i : ℕ) → Event
  Lift : (w c : ℕ) → Event
  Join : (w l r q : ℕ) → Event
  Drop : (w c : ℕ) → Event
  Purge : (w p : ℕ) → (keys : List ℕ) → Event
  End : (w : ℕ) → (commit : Bool) → (f : ℕ) → Event
  Unlock : (w i : ℕ) → Event
  Flush : (w n : ℕ) → Event
  Sync : (n : ℕ) → Event
  Post : (w n : ℕ) → Event
  Fetch : (p : ℕ) → (pairs : List Pair) → Event
  Load : (p f : ℕ) → Event
  Cool : (p : ℕ) → Event
  Rescue : (p : ℕ) → Event
  Save : (p : ℕ) → Event
  Evict : (p : ℕ) → Event
  Tick : Event
  Cut : (x : ℕ) → (heads : ℕ → ℕ) → Event
  Ask : (w : ℕ) → Event
  Refused : (w n m : ℕ) → Event
  Miss : (w : ℕ) → Event
