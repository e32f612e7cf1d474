-- Words of private functions: a frame that is to be filled, and a page that came into one.
use Rattle.std.specs.Prelude.{◌≡◌, ◌<◌, ℕ, Bool, true, false, List, [], ◌∷◌, ◌++◌, Option, Some, None}
use Rattle.map_model.specs.Lists.{all}
use Rattle.btree_descent.specs.core_state.Needs.{has_hot_parent}
use Rattle.btree_descent.specs.core_state.States.{Place, is_cold, is_hot}
use Rattle.page_model.specs.Page as stored
use Rattle.page_moves.specs.Moves.{contents_of}
use Rattle.btree_descent.specs.row_words.declared.event.Event.{Event}
use Rattle.btree_descent.specs.row_words.declared.event.Event.TheVariants.{Load}
use Rattle.btree_descent.specs.row_words.Moments.{events_of}
use Rattle.btree_descent.specs.row_words.Openings.{opening}
use Rattle.btree_descent.specs.rows_trait.declared.view.View.{View}
use Rattle.btree_descent.specs.rows_trait.Turns.{Ran}
use Rattle.btree_descent.specs.rows_trait.Views.{Shape, state}
use Rattle.disk_runs.specs.Quiet.{is_quiet}
use Rattle.btree_descent.specs.core_state.Openings.{Opening}
use Rattle.lean_disk.specs.Moments.{LeavesOnly}
use Rattle.lean_disk.specs.Story.{Crash, Story}
use Rattle.disk_runs.specs.Stands.{Known, LeavesRun}
use Rattle.page_provider.specs.declared.refusal.Refusal.{Refusal}
use Rattle.page_provider.specs.declared.refusal.Refusal.TheVariants as refusal
use Rattle.page_provider.specs.Faults.{HasLost, LacksFrame, LostCause}
use Rattle.page_provider.specs.Cools.{Idle}
use Rattle.page_provider.specs.Disks.{Runs, told}
use Rattle.page_provider.specs.Mirrored.{NoSaves}
use Rattle.page_provider.specs.Moves.{AreMet, KeepsPath, Moved, Rested}
use Rattle.page_provider.specs.Providers.{Provider}
use Rattle.page_provider.specs.Shares.{AreNeeded, HasShare}
use Rattle.page_provider.specs.Steps.{Goes}

-- The disk does not see what was appended, no page was read, and the same is known of each page's slots.
pub record IsUnseen (alone : Bool) (v : View) (was : Provider) (u : View) (is : Provider) : Type 0 where
  pub events : List Event
  pub ran : Ran alone v events u
  pub quiet : all is_quiet (events_of events) ≡ true
  pub none : NoSaves events
  pub slots : is.slots ≡ was.slots
  pub generation : is.generation ≡ was.generation

-- ## Room

-- The frame is the last of the empty ones. Pages have cooled, and one has left at most; none came.
pub record HasRoom (z : Shape) (path : List ℕ) (v : View) (was : Provider) (frame : ℕ) (u : View) (is : Provider) : Type 0 where
  pub moved : Moved 2 z v was u is
  pub keeps : KeepsPath path v u
  pub rested : Rested z v u
  pub rest : List ℕ
  pub last : is.empty ≡ rest ++ frame ∷ []
  pub broken : is.broken ≡ was.broken
  pub needed : z.alone ≡ true → AreNeeded z.alone v was u
  pub enough : z.alone ≡ true → HasShare path z.alone v was u is

-- no frame is made empty for these alone
abbrev pub IsOfRoom : Refusal → Type 0
IsOfRoom (refusal.NoPages) = ⊥
IsOfRoom (refusal.Damaged page counts other) = ⊥
IsOfRoom (refusal.Altered page) = ⊥
IsOfRoom _ = Unit {0}

-- ## A page comes

-- It has come by this event, into the frame; every other page that was hot is so still.
pub record HasCome (z : Shape) (e : Event) (page frame : ℕ) (v : View) (was : Provider) (u : View) (is : Provider) : Type 0 where
  pub goes : Goes z v (e ∷ []) u is
  pub met : AreMet v.given (state v) goes.ran.more
  pub hot : (state u).core.place page ≡ Place.Hot frame
  pub others : (p : ℕ) → is_hot ((state v).core.place p) ≡ true → (state u).core.place p ≡ (state v).core.place p
  pub memory : is ≡ record was { queue = is.queue; empty = is.empty; free = is.free; kept = is.kept }

-- or none came, since no node in a frame names it: where nobody else steps not each page that names it is hot
abbrev pub ComesOrNot : Bool → Shape → Event → (page frame : ℕ) → View → Provider → View → Provider → Type 0
ComesOrNot true z e page frame v was u is = HasCome z e page frame v was u is
ComesOrNot false z e page frame v was u is = Idle z v was u is × (is ≡ was) × (z.alone ≡ true → has_hot_parent (opening v.given) (state v).core page ≡ false)

-- A cold page came into a frame, or was not named.
abbrev pub Fills : Shape → List ℕ → View → Provider → (page : ℕ) → Option ℕ → View → Provider → Type 0
Fills z path v was page (Some frame) u is = HasCome z (Load page frame) page frame v was u is
Fills z path v was page None u is = HasLost 1 z path v was page u is

-- The page is cold, these are its saved contents, and the frame is the last of the empty ones.
pub record CanCome (v : View) (k : Provider) (page frame : ℕ) (n : stored.Page) : Type 0 where
  pub below : page < (opening v.given).format.pages
  pub cold : is_cold ((state v).core.place page) ≡ true
  pub number_is : n.number ≡ page
  pub contents : contents_of n ≡ (state v).core.saved page
  pub rest : List ℕ
  pub last : k.empty ≡ rest ++ frame ∷ []

-- ## What was read

-- the page was not: the device failed, or the slot that counts holds no valid page, and this is what both hold, or one that is
-- not as it was kept; the pager is broken
pub record HasRead (was : Provider) (page : ℕ) (s : Story) (why : Refusal) (is : Provider) : Type 0 where
  pub memory : is ≡ record was { broken = true }
  pub cause : LostCause was page s why

-- In every run over the disk it goes on as it was, and a crash in between leaves what one before it does.
abbrev pub ReadsWell : (was is : Provider) → (old new : Story) → Type 0
ReadsWell was is old new = (g : Opening) (s0 : Crash) (x : Known) (v : View) → Runs g s0 x was v old → LeavesOnly old new (LeavesRun g (told v) s0 x.master) × Runs g s0 x is v new

-- ## What was read, and a page that is placed

-- the page is cold, and these are its number and its saved contents
pub record HasContents (v : View) (page : ℕ) (n : stored.Page) : Type 0 where
  pub below : page < (opening v.given).format.pages
  pub cold : is_cold ((state v).core.place page) ≡ true
  pub number_is : n.number ≡ page
  pub contents : contents_of n ≡ (state v).core.saved page

-- why it did not come
abbrev pub PlaceCause : Shape → List ℕ → View → (page : ℕ) → View → Provider → Refusal → Type 0
PlaceCause z path v page u is (refusal.PoolFull on latched above held) = LacksFrame z path v page u is (refusal.PoolFull on latched above held)
PlaceCause z path v page u is (refusal.NoPages) = ⊥
PlaceCause z path v page u is (refusal.Damaged p counts other) = ⊥
PlaceCause z path v page u is (refusal.Altered p) = ⊥
PlaceCause z path v page u is why = Unit {0}
