-- An eviction: what it needs, and what it did.
use Rattle.std.specs.Prelude.{◌≡◌, ◌≤◌, ◌<◌, ◌||◌, ℕ, Bool, true, false, List, [], ◌∷◌, ◌++◌, if◌then◌else◌}
use Rattle.btree_descent.specs.core_state.Needs.{is_dirty}
use Rattle.btree_descent.specs.core_state.States.{flushed_by_all, frame_of, is_cooling, waits_for}
use Rattle.btree_descent.specs.row_words.declared.event.Event.{Event}
use Rattle.btree_descent.specs.row_words.declared.event.Event.TheVariants.{Save, Evict}
use Rattle.btree_descent.specs.row_words.Openings.{opening}
use Rattle.btree_descent.specs.rows_trait.declared.view.View.{View}
use Rattle.btree_descent.specs.rows_trait.Views.{Shape, state}
use Rattle.cooling_stage.specs.Queue.{without}
use Rattle.page_provider.specs.declared.refusal.Refusal.{Refusal}
use Rattle.page_provider.specs.declared.refusal.Refusal.TheVariants as refusal
use Rattle.page_provider.specs.Providers.{Provider}
use Rattle.page_provider.specs.Refusals.{Caused, IsOfEvict, IsOthers, SpentAt, breaks}
use Rattle.page_provider.specs.Steps.{Goes, IsMissAtMost}

-- the page cools, waits for none of the workers, and its number is flushed everywhere
pub record CanLeave (v : View) (page : ℕ) : Type 0 where
  pub below : page < (opening v.given).format.pages
  pub cooling : is_cooling ((state v).core.place page) ≡ true
  pub unwaited : (w : ℕ) → w ≤ (opening v.given).workers → waits_for ((state v).core.place page) w ≡ false
  pub low : ((state v).core.page page).gsn ≤ flushed_by_all (opening v.given) (state v).core

-- it is saved, or not
abbrev pub saving : Bool → ℕ → List Event
saving dirty page = if dirty then Save page ∷ [] else []

-- a dirty page is saved first
abbrev pub leaving : Bool → ℕ → List Event
leaving dirty page = saving dirty page ++ Evict page ∷ []

-- the page has left its frame, and the queue, and what it was is kept
abbrev pub gone : Provider → (page frame : ℕ) → Provider → Provider
gone was page frame is = record was { queue = without page was.queue; empty = was.empty ++ frame ∷ []; slots = is.slots; kept = is.kept }

pub record HasLeft (z : Shape) (v : View) (was : Provider) (page : ℕ) (u : View) (is : Provider) : Type 0 where
  pub goes : Goes z v (leaving (is_dirty (state v).core page) page) u is
  pub pool : is ≡ gone was page (frame_of ((state v).core.place page)) is

-- It stays, for this reason: it was saved if it was dirty, or it was not, and beside that one miss at most was
-- appended.
pub record HasStayed (z : Shape) (v : View) (was : Provider) (page : ℕ) (why : Refusal) (u : View) (is : Provider) : Type 0 where
  pub saved : Bool
  pub misses : List Event
  pub few : IsMissAtMost misses
  pub goes : Goes z v (saving saved page ++ misses) u is
  pub dirty : saved ≡ true → is_dirty (state v).core page ≡ true
  pub pool : is ≡ record was { slots = is.slots; broken = is.broken }
  pub broken : is.broken ≡ (was.broken || breaks why)
  pub kind : IsOfEvict why
  pub cause : Caused v why u
  pub spent : SpentAt (frame_of ((state v).core.place page)) v why u
  pub quiet : z.alone ≡ true → IsOthers why → ⊥
  pub earlier : why ≡ refusal.Broken → was.broken ≡ true
