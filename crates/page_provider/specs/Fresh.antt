-- A pager at its beginning.
use Rattle.std.specs.Prelude.{◌≡◌, ◌≤◌, ◌<◌, ◌^◌, ℕ, zero, suc, Bool, true, false, not, List, [], ◌∷◌, length}
use Rattle.btree_descent.specs.core_paging.Paging.{Waiting}
use Rattle.btree_descent.specs.core_state.Needs.{free_pages}
use Rattle.btree_descent.specs.core_state.States.{Place}
use Rattle.free_pages.specs.Pages.{count, is_in}
use Rattle.btree_descent.specs.row_words.Moments.{pager}
use Rattle.btree_descent.specs.row_words.Openings.{opening}
use Rattle.btree_descent.specs.rows_trait.declared.view.View.{View}
use Rattle.btree_descent.specs.rows_trait.Views.{Shape, after_all, may, state}
use Rattle.btree_descent.specs.Descents.{Sized}
use Rattle.btree_descent.specs.Known.{IsSound}
use Rattle.cold_pages.specs.declared.kept.Kept.{Kept}
use Rattle.page_calls.specs.declared.slots.Slot.{Slot}
use Rattle.page_provider.specs.Providers.{IsKept, Keeps, Provider}

-- the numbers from n - 1 down to 1
abbrev pub down_to_one : ℕ → List ℕ
down_to_one zero = []
down_to_one (suc zero) = []
down_to_one (suc (suc n)) = suc n ∷ down_to_one (suc n)

-- no page cools, and each frame but frame 0 is empty
abbrev pub fresh : (frames workers generation : ℕ) → List Bool → List Slot → List Kept → Provider
fresh frames workers generation free slots kept = record { frames = frames; workers = workers; generation = generation; queue = []; empty = down_to_one frames; free = free; slots = slots; kept = kept; hand = 0; broken = false }

-- Rows of which page 0 alone is in a frame, where the seat may step as the pager, which pages are free, and what is kept of the others.
pub record Begins (z : Shape) (v : View) (frames workers : ℕ) (free : List Bool) (kept : List Kept) : Type 0 where
  pub actor : may z.alone v pager ≡ true
  pub sound : IsSound v.given
  pub waiting : (es : _) → Waiting (after_all v.given es).core
  pub sized : Sized z v frames
  pub some : 0 < workers
  pub workers_are : (z.sizes.workers ≡ workers) × ((opening v.given).workers ≡ workers)
  pub pages : length free ≡ (opening v.given).format.pages
  pub cold : (p : ℕ) → 0 < p → (state v).core.place p ≡ Place.Cold
  pub queue : (state v).core.queue ≡ []
  pub table : IsKept (opening v.given) (state v).core kept
  pub marks : (p : ℕ) → p < (opening v.given).format.pages → is_in free p ≡ not ((state v).core.page p).node.live
  pub epoch : (state v).core.epoch ≤ 2 ^ 62

-- a fresh pager is the pager of these
abbrev pub EveryFresh : Type 0
EveryFresh = (z : Shape) (v : View) (frames workers generation : ℕ) (free : List Bool) (slots : List Slot) (kept : List Kept) → Begins z v frames workers free kept → Keeps z v (fresh frames workers generation free slots kept)

-- The free pages are as many as the core has, free and not hot.
abbrev pub EveryFree : Type 0
EveryFree = (z : Shape) (v : View) (k : Provider) → Keeps z v k → count k.free ≡ free_pages (opening v.given) (state v).core
