-- A pager, and what it keeps: its memory agrees with the state that its seat has seen.
use Rattle.std.specs.Prelude.{◌≡◌, ◌≤◌, ◌<◌, ◌^◌, ℕ, Bool, true, List, length}
use Rattle.btree_descent.specs.core_paging.Paging.{Waiting}
use Rattle.btree_descent.specs.core_state.Openings.{Opening}
use Rattle.btree_descent.specs.core_state.States.{State, is_cold}
use Rattle.btree_descent.specs.row_words.Moments.{pager}
use Rattle.btree_descent.specs.row_words.Openings.{opening}
use Rattle.btree_descent.specs.rows_trait.declared.view.View.{View}
use Rattle.btree_descent.specs.rows_trait.Views.{Shape, after_all, may, state}
use Rattle.btree_descent.specs.Known.{IsSound}
use Rattle.btree_descent.specs.Descents.{Sized}
use Rattle.cooling_stage.specs.declared.stage.Cooling.{Cooling}
use Rattle.cold_pages.specs.declared.kept.Kept.{Kept}
use Rattle.cold_pages.specs.Laws.{IsRight}
use Rattle.page_calls.specs.declared.slots.Slot.{Slot}
use Rattle.free_pages.specs.Pages.{is_in}
use Rattle.page_pool.specs.Pools.{Pool, Agrees}

-- So many frames, and workers; the generation by which pages are saved; the queue, the empty frames, the free pages
-- that are not hot; what is known of each page's slots, and what is kept of each page; the frame at which the hand stands; and
-- whether the device or a page has failed it.
pub record Provider : Type 0 where
  pub frames : ℕ
  pub workers : ℕ
  pub generation : ℕ
  pub queue : List Cooling
  pub empty : List ℕ
  pub free : List Bool
  pub slots : List Slot
  pub kept : List Kept
  pub hand : ℕ
  pub broken : Bool

-- what it knows of where pages are
abbrev pub pool : Provider → Pool
pool k = record { queue = k.queue; empty = k.empty; free = is_in k.free }

-- what is kept of the cold pages is right of a state
abbrev pub IsKept : Opening → State → List Kept → Type 0
IsKept g s kept = IsRight g.format s.page (λ p. is_cold (s.place p)) kept

-- The pager of these rows: it may step as the pager, at every moment the pages are a tree and places are in order, and
-- its memory agrees with what it has seen.
pub record Keeps (z : Shape) (v : View) (k : Provider) : Type 0 where
  pub actor : may z.alone v pager ≡ true
  pub sound : IsSound v.given
  pub waiting : (es : _) → Waiting (after_all v.given es).core
  pub sized : Sized z v k.frames
  pub some : 0 < k.workers
  pub workers : (z.sizes.workers ≡ k.workers) × ((opening v.given).workers ≡ k.workers)
  pub pages : length k.free ≡ (opening v.given).format.pages
  pub agrees : Agrees (opening v.given) (state v).core (pool k)
  pub kept : IsKept (opening v.given) (state v).core k.kept
  pub epoch : (state v).core.epoch ≤ 2 ^ 62
