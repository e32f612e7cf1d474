-- How many pages cool where a page is brought in, where nobody else steps.
use Rattle.std.specs.Prelude.{◌≡◌, ◌≤◌, ◌+◌, ◌/◌, ◌⊎◌, ℕ, suc, max, Bool, List, [], ◌∷◌, length}
use Rattle.btree_descent.specs.row_words.declared.event.Event.{Event}
use Rattle.btree_descent.specs.row_words.declared.event.Event.TheVariants.{Cool}
use Rattle.btree_descent.specs.row_words.Openings.{opening}
use Rattle.btree_descent.specs.rows_trait.declared.view.View.{View}
use Rattle.btree_descent.specs.rows_trait.Turns.{Ran}
use Rattle.btree_descent.specs.rows_trait.Views.{state}
use Rattle.page_pool.specs.Full.{NoCandidate, NoneRipe}
use Rattle.page_provider.specs.Moves.{way}
use Rattle.page_provider.specs.Providers.{Provider}

-- so many pages are the queue's share of the frames
abbrev pub share : ℕ → ℕ
share frames = max (frames / 10) 1

-- how many of the events are of a page that cools
abbrev pub cools_in : List Event → ℕ
cools_in [] = 0
cools_in (Cool p ∷ es) = suc (cools_in es)
cools_in (e ∷ es) = cools_in es

-- No page cooled that had not to: none did, or so many that the queue got its share at most; or no frame was empty, and
-- behind the call no page of the queue can leave.
pub record AreNeeded (alone : Bool) (v : View) (was : Provider) (u : View) : Type 0 where
  pub events : List Event
  pub ran : Ran alone v events u
  pub few : (cools_in events ≡ 0) ⊎ ((length was.queue + cools_in events ≤ share was.frames) ⊎ ((was.empty ≡ []) × NoneRipe (opening u.given) (state u).core))

-- at some moment from one view to another no page off the way could be cooled
pub record HadNone (path : List ℕ) (alone : Bool) (v u : View) : Type 0 where
  pub at : View
  pub before : List Event
  pub after : List Event
  pub came : Ran alone v before at
  pub went : Ran alone at after u
  pub none : NoCandidate (opening at.given) (state at).core (way path (state at).core)

-- The queue has its share, but for one page where no frame was empty; or no page off the way could be cooled.
abbrev pub HasShare : List ℕ → (alone : Bool) → View → Provider → View → Provider → Type 0
HasShare path alone v was u is = (share was.frames ≤ length is.queue) ⊎ (((was.empty ≡ []) × (share was.frames ≤ length is.queue + 1)) ⊎ HadNone path alone v u)
