-- A page that is brought into a frame: what is asked, what comes, and why no frame could be given.
use Rattle.std.specs.Prelude.{◌≡◌, ◌≢◌, ◌≤◌, ◌<◌, ◌+◌, ◌⊎◌, ℕ, true, false, List, length, Option, Some, None}
use Rattle.map_model.specs.Lists.{Has}
use Rattle.page_model.specs.Check.{names_page}
use Rattle.btree_descent.specs.core_state.Needs.{has_hot_parent}
use Rattle.btree_descent.specs.core_state.Openings.{Opening}
use Rattle.btree_descent.specs.core_state.States.{Place, flushed_by_all, is_cold, is_cooling, is_hot}
use Rattle.disk_runs.specs.Stands.{Known}
use Rattle.lean_disk.specs.Story.{Crash, Story, Tells}
use Rattle.cold_pages.specs.Compared.{IsAsKept}
use Rattle.page_model.specs.Page.{Page}
use Rattle.page_calls.specs.Calls.{IsDamaged}
use Rattle.free_pages.specs.Pages.{count}
use Rattle.btree_descent.specs.row_words.Openings.{opening}
use Rattle.btree_descent.specs.rows_trait.declared.view.View.{View}
use Rattle.btree_descent.specs.rows_trait.Views.{Shape, state}
use Rattle.page_pool.specs.Full.{IsHeldBack, IsTaken, IsWay}
use Rattle.page_provider.specs.declared.refusal.Refusal.{Refusal}
use Rattle.page_provider.specs.declared.refusal.Refusal.TheVariants as refusal
use Rattle.page_provider.specs.Disks.{Runs}
use Rattle.page_provider.specs.Gives.{Holds}
use Rattle.page_provider.specs.Moves.{KeepsPath, Moved, Rested, way}
use Rattle.page_provider.specs.Providers.{Keeps, Provider}
use Rattle.page_provider.specs.Shares.{AreNeeded, HasShare}

-- ## What is asked

-- The frames of a descent. Where nobody else steps they begin with the root's, and have with each page the one that names it.
pub record IsDescent (z : Shape) (v : View) (path : List ℕ) : Type 0 where
  pub within : (f : ℕ) → Has f path → f < (opening v.given).frames
  pub root : z.alone ≡ true → Has 0 path
  pub closed : z.alone ≡ true → IsWay (opening v.given) (state v).core (way path (state v).core)

-- if a hot page names this one, it is among them
abbrev pub LeadsTo : Shape → View → List ℕ → (page : ℕ) → Type 0
LeadsTo z v path page = z.alone ≡ true → (q : ℕ) → q < (opening v.given).format.pages → names_page ((state v).core.page q).node page ≡ true → is_hot ((state v).core.place q) ≡ true → way path (state v).core q ≡ true

-- the page is neither hot nor free, and no hot page names it
pub record IsAstray (v : View) (page : ℕ) : Type 0 where
  pub hot : is_hot ((state v).core.place page) ≡ false
  pub live : ((state v).core.page page).node.live ≡ true
  pub parent : has_hot_parent (opening v.given) (state v).core page ≡ false

-- the page is hot, or free, or each page that names it is hot and nobody else steps
pub record IsWanted (z : Shape) (v : View) (page : ℕ) : Type 0 where
  pub below : page < (opening v.given).format.pages
  pub at_hand : (is_hot ((state v).core.place page) ≡ true) ⊎ ((((state v).core.page page).node.live ≡ false) ⊎ ((z.alone ≡ true) × (has_hot_parent (opening v.given) (state v).core page ≡ true)))

-- ## What comes

-- where nobody else steps each page but this one is as it was
abbrev pub KeepsOthers : Shape → (page : ℕ) → View → View → Type 0
KeepsOthers z page v u = z.alone ≡ true → (p : ℕ) → p ≢ page → (state u).core.page p ≡ (state v).core.page p

-- The page stands hot in the frame, and each page of the path where it stood; and no other page changed.
pub record HasPlaced (most : ℕ) (z : Shape) (path : List ℕ) (v : View) (was : Provider) (page frame : ℕ) (u : View) (is : Provider) : Type 0 where
  pub moved : Moved most z v was u is
  pub keeps : KeepsPath path v u
  pub hot : (state u).core.place page ≡ Place.Hot frame
  pub broken : is.broken ≡ was.broken
  -- where nobody else steps, no page cooled that had not to, and where a cold page came the queue has its share
  pub needed : z.alone ≡ true → AreNeeded z.alone v was u
  pub enough : z.alone ≡ true → is_cold ((state v).core.place page) ≡ true → HasShare path z.alone v was u is
  pub others : KeepsOthers z page v u

-- It stands in none, and is no free one. Where nobody else steps no hot page names it, and nothing was done.
pub record HasLost (most : ℕ) (z : Shape) (path : List ℕ) (v : View) (was : Provider) (page : ℕ) (u : View) (is : Provider) : Type 0 where
  pub moved : Moved most z v was u is
  pub keeps : KeepsPath path v u
  pub broken : is.broken ≡ was.broken
  pub hot : is_hot ((state v).core.place page) ≡ false
  pub live : ((state v).core.page page).node.live ≡ true
  pub astray : z.alone ≡ true → IsAstray v page × (is ≡ was)

abbrev pub Faulted : (most : ℕ) → Shape → List ℕ → View → Provider → (page : ℕ) → Option ℕ → View → Provider → Type 0
Faulted most z path v was page (Some frame) u is = HasPlaced most z path v was page frame u is
Faulted most z path v was page None u is = HasLost most z path v was page u is

-- ## No frame

-- Of so many frames each is in one of the four counts. Where nobody else steps, and the frames of the path are those of a descent: each
-- has a page of the path, or one above what is flushed everywhere, or one that is held back by a worker; and there is such a page where
-- the count of these is not 0.
pub record IsFull (z : Shape) (path : List ℕ) (on above held : ℕ) (u : View) : Type 0 where
  pub taken : (f : ℕ) → f < (opening u.given).frames → IsTaken (opening u.given) (state u).core (way path (state u).core) f
  pub on_few : on ≤ length path
  pub some_above : 0 < above → (p : ℕ) × (is_cooling ((state u).core.place p) ≡ true) × (flushed_by_all (opening u.given) (state u).core < ((state u).core.page p).gsn)
  pub some_held : 0 < held → (p : ℕ) × (is_cooling ((state u).core.place p) ≡ true) × IsHeldBack (state u).core p

abbrev pub FullCause : Shape → List ℕ → View → Provider → Refusal → Type 0
FullCause z path u is (refusal.PoolFull on latched above held) = (on + latched + above + held ≡ is.frames) × (z.alone ≡ true → (latched ≡ 0) × IsFull z path on above held u)
FullCause z path u is _ = Unit {0}

-- then no page came: one that was cold is so still, and no page changed
abbrev pub StaysCold : Shape → View → Refusal → View → Type 0
StaysCold z v (refusal.PoolFull on latched above held) u = Rested z v u
StaysCold z v _ u = Unit {0}

-- So the page is cold. It may have been read: the entries of a leaf that was are what was read, and no other page changed.
pub record LacksFrame (z : Shape) (path : List ℕ) (v : View) (page : ℕ) (u : View) (is : Provider) (why : Refusal) : Type 0 where
  pub full : FullCause z path u is why
  pub cold : is_cold ((state u).core.place page) ≡ true
  pub others : KeepsOthers z page v u

-- ## Why a page could not be read

-- the slot that counts holds a page that is not as it was kept
pub record IsAltered (was : Provider) (page : ℕ) (s : Story) : Type 0 where
  pub found : Page
  pub holds : Holds was.slots was.generation page (s.area 1).bytes found
  pub other : IsAsKept was.kept page found → ⊥

abbrev pub LostCause : Provider → (page : ℕ) → Story → Refusal → Type 0
LostCause was page s (refusal.DiskFault) = Unit {0}
LostCause was page s (refusal.Damaged p counts other) = (p ≡ page) × (Tells s 1 → IsDamaged was.slots was.generation page (s.area 1).bytes counts other)
LostCause was page s (refusal.Altered p) = (p ≡ page) × (Tells s 1 → IsAltered was page s)
LostCause was page s _ = ⊥

-- such a page was cold
abbrev pub ColdCause : View → (page : ℕ) → Refusal → Type 0
ColdCause v page (refusal.Damaged p counts other) = is_cold ((state v).core.place page) ≡ true
ColdCause v page (refusal.Altered p) = is_cold ((state v).core.place page) ≡ true
ColdCause v page _ = Unit {0}

-- Where a run of the core stands over the disk each cold page is there as it was kept: a fault alone keeps it back.
abbrev pub EveryFound : (s : Story) → Type 0
EveryFound s = (g : Opening) (s0 : Crash) (x : Known) (z : Shape) (k : Provider) (v : View) (page : ℕ) (why : Refusal) → Keeps z v k → Runs g s0 x k v s → page < (opening v.given).format.pages → is_cold ((state v).core.place page) ≡ true
    → LostCause k page s why → why ≡ refusal.DiskFault

-- ## Why no page came: s is what the device told before. Where no frame could be given the page is cold, and no other one changed.

abbrev pub FaultCause : Shape → List ℕ → View → Provider → (page : ℕ) → Story → View → Provider → Refusal → Type 0
FaultCause z path v was page s u is (refusal.PoolFull on latched above held) = LacksFrame z path v page u is (refusal.PoolFull on latched above held)
FaultCause z path v was page s u is (refusal.Damaged p counts other) = LostCause was page s (refusal.Damaged p counts other)
FaultCause z path v was page s u is (refusal.Altered p) = LostCause was page s (refusal.Altered p)
FaultCause z path v was page s u is (refusal.NoPages) = ⊥
FaultCause z path v was page s u is _ = Unit {0}

-- ## Why no page was given out

abbrev pub NoPageCause : Provider → (wanted : ℕ) → Refusal → Type 0
NoPageCause k wanted (refusal.NoPages) = (k.broken ≡ false) × (count k.free < wanted)
NoPageCause k wanted (refusal.Broken) = k.broken ≡ true
NoPageCause k wanted _ = ⊥
