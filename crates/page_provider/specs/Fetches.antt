-- A page that was read: what is known of it, and the event by which a leaf has these entries from then on.
use Rattle.std.specs.Prelude.{◌≡◌, ◌<◌, ℕ, true, List, [], ◌∷◌, length, if◌then◌else◌}
use Rattle.page_model.specs.Nodes.{is_leaf}
use Rattle.page_model.specs.Page as stored
use Rattle.cold_pages.specs.Compared.{IsAsKept}
use Rattle.btree_descent.specs.core_state.States.{is_cold}
use Rattle.disk_runs.specs.disk_slots.Pages.{IsPage}
use Rattle.lean_disk.specs.Story.{Story, Tells}
use Rattle.page_moves.specs.Moves.{contents_of}
use Rattle.btree_descent.specs.row_words.declared.event.Event.{Event}
use Rattle.btree_descent.specs.row_words.declared.event.Event.TheVariants.{Fetch}
use Rattle.btree_descent.specs.row_words.Openings.{opening}
use Rattle.row_opening.specs.Opened.{entries_of}
use Rattle.btree_descent.specs.rows_trait.declared.view.View.{View}
use Rattle.btree_descent.specs.rows_trait.Turns.{Ran}
use Rattle.btree_descent.specs.rows_trait.Views.{Shape, state}
use Rattle.page_provider.specs.Gives.{Gives, Holds}
use Rattle.page_provider.specs.Providers.{Keeps, Provider}

-- ## The event

-- the leaf has these entries from then on
abbrev pub fetch_of : ℕ → stored.Page → Event
fetch_of page n = Fetch page (entries_of n.node.pairs)

-- an inner node and a free page are what they were
abbrev pub fetching : ℕ → stored.Page → List Event
fetching page n = if is_leaf n.node then fetch_of page n ∷ [] else []

-- it was appended, and nothing else
pub record HasTold (z : Shape) (v : View) (page : ℕ) (n : stored.Page) (u : View) : Type 0 where
  pub ran : Ran z.alone v (fetching page n) u
  pub held : u.held ≡ v.held

-- ## What was read

-- It has its own number, and is well formed by itself; where the device tells, it is what the slot that counts holds; and it is
-- as it was kept.
pub record WasRead (was : Provider) (page : ℕ) (s : Story) (n : stored.Page) : Type 0 where
  pub number_is : n.number ≡ page
  pub page_is : IsPage page (length was.slots) n
  pub given : Tells s 1 → Holds was.slots was.generation page (s.area 1).bytes n
  pub as_kept : IsAsKept was.kept page n

-- So of a page that is cold; and where the rows began faithful these are its saved contents.
pub record IsFound (v : View) (k : Provider) (page : ℕ) (n : stored.Page) : Type 0 where
  pub below : page < (opening v.given).format.pages
  pub cold : is_cold ((state v).core.place page) ≡ true
  pub number_is : n.number ≡ page
  pub page_is : IsPage page (opening v.given).format.pages n
  pub as_kept : IsAsKept k.kept page n
  pub own : v.given.faithful ≡ true → contents_of n ≡ (state v).core.saved page

-- ## Law

-- What a device gives of a cold page, where that is what is saved, is as it was kept. So no such page is Altered.
abbrev pub EveryGivenKept : (s : Story) → Type 0
EveryGivenKept s = (z : Shape) (v : View) (k : Provider) (page : ℕ) (n : stored.Page) → Keeps z v k → page < (opening v.given).format.pages → is_cold ((state v).core.place page) ≡ true → Gives v k page s
    → Holds k.slots k.generation page (s.area 1).bytes n → IsAsKept k.kept page n
