-- What the covers of the shards know. Frames are dealt to eight shards; the cover of a shard is what was flushed everywhere when its pages were saved last.
use Rattle.std.specs.Prelude.{◌≡◌, ◌<◌, ◌≤◌, ◌%◌, ◌++◌, ◌∷◌, ℕ, true, List, []}
use Rattle.map_model.specs.Lists.{Has, upd}
use Rattle.core_paging.specs.core_state.Openings.{Opening}
use Rattle.core_paging.specs.core_state.States.{State, flushed_by_all, in_frame, start}
use Rattle.core_paging.specs.core_state.Events.{Event}
use Rattle.core_paging.specs.core_state.Needs.{is_dirty}
use Rattle.core_paging.specs.core_state.Steps.{AllMet, state_after}
use Rattle.core_covers.specs.Changes.{HasChanges}

-- how many shards there are
abbrev pub shards : ℕ
shards = 8

-- the shard of a frame
abbrev pub shard_of : ℕ → ℕ
shard_of f = f % shards

-- the number is at most the cover of each shard
abbrev pub IsCovered : (cover : ℕ → ℕ) → ℕ → Type 0
IsCovered cover x = (k : ℕ) → k < shards → x ≤ cover k

-- `firm`: of each page, the number of the contents that are synced on the disk. All logs are flushed up to each cover. What is saved of a page that stands in
-- a frame has the page's changes up to the cover of that frame's shard; and what is firm of a page has those up to all covers.
pub record AreCovers (g : Opening) (s : State) (cover firm : ℕ → ℕ) : Type 0 where
  pub low : (k : ℕ) → k < shards → cover k ≤ flushed_by_all g s
  pub framed : (p f : ℕ) → in_frame (s.place p) f ≡ true → HasChanges s p (cover (shard_of f)) (s.saved p).gsn
  pub synced : (p x : ℕ) → p < g.format.pages → IsCovered cover x → HasChanges s p x (firm p)

-- of each page in a frame of shard k, what is saved has its changes up to x
abbrev pub IsShardSaved : State → (k x : ℕ) → Type 0
IsShardSaved s k x = (p f : ℕ) → in_frame (s.place p) f ≡ true → shard_of f ≡ k → HasChanges s p x (s.saved p).gsn

-- what is firm of each page is as new as what was saved of it
abbrev pub IsSettled : Opening → State → (firm : ℕ → ℕ) → Type 0
IsSettled g s firm = (p : ℕ) → p < g.format.pages → (s.saved p).gsn ≤ firm p

-- How covers last, and how they rise.
pub record CoverLaws (g : Opening) (es : List Event) (cover firm : ℕ → ℕ) : Type 0 where
  -- whatever happens
  pub more : (later : List Event) → AreCovers g (state_after g es) cover firm → AreCovers g (state_after g (es ++ later)) cover firm
  -- newer contents become firm
  pub newer : (now : ℕ → ℕ) → AreCovers g (state_after g es) cover firm → ((p : ℕ) → p < g.format.pages → firm p ≤ now p) → AreCovers g (state_after g es) cover now
  -- what was saved of each page is synced
  pub settled : (now : ℕ → ℕ) → AreCovers g (state_after g es) cover firm → IsSettled g (state_after g es) now → AreCovers g (state_after g es) cover now
  -- and shard k was saved up to x, up to which all logs are flushed: then x is its cover
  pub shard : (k x : ℕ) (now : ℕ → ℕ) → AreCovers g (state_after g es) cover firm → IsShardSaved (state_after g es) k x → IsSettled g (state_after g es) now → x ≤ flushed_by_all g (state_after g es)
      → AreCovers g (state_after g es) (upd cover k x) now

-- in each run
abbrev pub EveryCover : Type 0
EveryCover = (g : Opening) (es : List Event) (cover firm : ℕ → ℕ) → CoverLaws g es cover firm

-- where a run begins, each cover is the base number, whatever is firm
abbrev pub EveryBaseCover : Type 0
EveryBaseCover = (g : Opening) (firm : ℕ → ℕ) → AreCovers g (start g) (λ _. g.base) firm

-- these pages are saved, one after another
abbrev pub saves : List ℕ → List Event
saves [] = []
saves (p ∷ pages) = Event.Save p ∷ saves pages

-- Where each dirty page in a frame of shard k is among those that are saved, the shard is saved, up to each number.
abbrev pub EveryIncrement : Type 0
EveryIncrement = (g : Opening) (es : List Event) (k : ℕ) (pages : List ℕ) → AllMet g (state_after g es) (saves pages)
    → ((p f : ℕ) → in_frame ((state_after g es).place p) f ≡ true → shard_of f ≡ k → is_dirty (state_after g es) p ≡ true → Has p pages)
    → (x : ℕ) → IsShardSaved (state_after g (es ++ saves pages)) k x
