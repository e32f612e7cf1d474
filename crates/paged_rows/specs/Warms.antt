-- A page of a key's way is brought into a frame, or a free one, or one beside the way.
use Rattle.std.specs.Prelude.{◌≡◌, ◌≢◌, ◌<◌, ◌≤◌, ◌+◌, ◌⊎◌, ℕ, true, false, [], Option, Some, None}
use Rattle.btree_descent.specs.core_state.States.{Place, flushed_by_all, in_frame, is_cold, is_cooling, is_hot}
use Rattle.cold_pages.specs.Laws.{IsButEntries}
use Rattle.page_model.specs.Nodes.{covers}
use Rattle.page_pool.specs.Full.{IsHeldBack}
use Rattle.page_provider.specs.declared.refusal.Refusal.{Refusal}
use Rattle.page_provider.specs.declared.refusal.Refusal.TheVariants as refusal
use Rattle.lean_disk.specs.Moments.{OnlyReads}
use Rattle.lean_disk.specs.Story.{Story}
use Rattle.map_model.specs.Lists.{any}
use Rattle.page_provider.specs.Disks.{saves_page}
use Rattle.page_provider.specs.Ends.{HasRefused}
use Rattle.page_provider.specs.Faults.{LostCause}
use Rattle.page_provider.specs.Moves.{Moved}
use Rattle.btree_descent.specs.row_words.Moments.{events_of}
use Rattle.btree_descent.specs.row_words.Openings.{opening}
use Rattle.btree_descent.specs.rows_trait.Views.{state}
use Rattle.paged_rows.specs.Paged.{IsFree, IsNamed, IsWarm, Paged}
use Rattle.paged_rows.specs.declared.wanted.Wanted.{Wanted}
use Rattle.paged_rows.specs.declared.wanted.Wanted.TheVariants as want

-- so many events at most, beside those by which pages cool, has the coming of one page
abbrev pub most_a_page : ℕ
most_a_page = 5

-- Pages have moved, and at most so many events were no cool and no tick; the pager is broken where it was.
pub record HasMoved (most : ℕ) (p q : Paged) : Type 0 where
  pub shape : q.shape ≡ p.shape
  pub moved : Moved most p.shape p.view p.pager q.view q.pager
  pub broken : q.pager.broken ≡ p.pager.broken

-- ## A page that comes

-- A page of the key's way that was not hot is hot now, in this frame.
pub record HasCome (key frame : ℕ) (p q : Paged) : Type 0 where
  pub moved : HasMoved most_a_page p q
  pub page : ℕ
  pub below : page < (opening p.view.given).format.pages
  pub covers : covers ((state p.view).core.page page).node key ≡ true
  pub cold : is_hot ((state p.view).core.place page) ≡ false
  pub hot : (state q.view).core.place page ≡ Place.Hot frame

-- All of it is hot, and nothing was done; or one more page of it has come.
abbrev pub Warms : (key : ℕ) → Option ℕ → (p q : Paged) → Type 0
Warms key None p q = HasMoved 0 p q × IsWarm q key 0
Warms key (Some frame) p q = HasCome key frame p q

-- The page, which was free, stands hot in this frame, as it was; and the pages of the key's way are hot still.
pub record HasJoined (key page frame : ℕ) (p q : Paged) : Type 0 where
  pub moved : HasMoved most_a_page p q
  pub hot : (state q.view).core.place page ≡ Place.Hot frame
  pub same : (state q.view).core.page page ≡ (state p.view).core.page page
  pub warm : IsWarm q key 0

-- each page but this one is as it was
abbrev pub KeepsOthers : (page : ℕ) → (p q : Paged) → Type 0
KeepsOthers page p q = (other : ℕ) → other ≢ page → (state q.view).core.page other ≡ (state p.view).core.page other

-- The page, which a page of the key's way names, stands hot in this frame, and is named still. It is as it was, but for the entries of a leaf, and where rows
-- began faithful these too; each other page is as it was; and the pages of the key's way are hot still.
pub record HasComeBeside (key page frame : ℕ) (p q : Paged) : Type 0 where
  pub moved : HasMoved most_a_page p q
  pub hot : (state q.view).core.place page ≡ Place.Hot frame
  pub named : IsNamed q key page
  pub like : IsButEntries ((state p.view).core.page page) ((state q.view).core.page page)
  pub same : p.view.given.faithful ≡ true → (state q.view).core.page page ≡ (state p.view).core.page page
  pub others : KeepsOthers page p q
  pub warm : IsWarm q key 0

-- what is asked: a free page, or one that a page of the way names, is brought where the key's way is hot
abbrev pub CanBring : (key : ℕ) → Wanted → Paged → Type 0
CanBring key want.Way p = Unit {0}
CanBring key (want.Free page) p = IsFree p page × IsWarm p key 0
CanBring key (want.Beside page) p = IsNamed p key page × IsWarm p key 0

-- what has come, and into which frame
abbrev pub Brings : (key : ℕ) → Wanted → Option ℕ → (p q : Paged) → Type 0
Brings key want.Way come p q = Warms key come p q
Brings key (want.Free page) None p q = ⊥
Brings key (want.Free page) (Some frame) p q = HasJoined key page frame p q
Brings key (want.Beside page) None p q = ⊥
Brings key (want.Beside page) (Some frame) p q = HasComeBeside key page frame p q

-- ## The device

-- by whichever events it is said: where the pager is whole, and none of them saves a page, the device was only read
abbrev pub ReadsUnlessSaved : (p q : Paged) → (old new : Story) → Type 0
ReadsUnlessSaved p q old new = (most : ℕ) (m : Moved most p.shape p.view p.pager q.view q.pager) → q.pager.broken ≡ false → any saves_page (events_of m.events) ≡ false → OnlyReads old new

-- ## No frame

-- a page of the key's way stands in the frame, or one above what is flushed everywhere, or one that is held back by a worker
pub record IsKept (key frame : ℕ) (q : Paged) : Type 0 where
  pub page : ℕ
  pub here : in_frame ((state q.view).core.place page) frame ≡ true
  pub why : (covers ((state q.view).core.page page).node key ≡ true) ⊎ ((flushed_by_all (opening q.view.given) (state q.view).core < ((state q.view).core.page page).gsn) ⊎ IsHeldBack (state q.view).core page)

-- the page is of the key's way, or it is the one that was wanted: a free one, or one that a page of the way names
abbrev pub IsNeeded : (key : ℕ) → Wanted → (page : ℕ) → Paged → Type 0
IsNeeded key want.Way page q = covers ((state q.view).core.page page).node key ≡ true
IsNeeded key (want.Free free) page q = (page ≡ free) × (((state q.view).core.page page).node.live ≡ false)
IsNeeded key (want.Beside beside) page q = (page ≡ beside) × IsNamed q key page

-- Such a page is in no frame, and each frame is kept from it: so many by pages of the way, of each level one at most; so many by pages above what is
-- flushed everywhere, and so many by pages that are held back; and there is such a page where the count is not 0.
pub record IsCrowded (key : ℕ) (wanted : Wanted) (on above held : ℕ) (q : Paged) : Type 0 where
  pub page : ℕ
  pub below : page < (opening q.view.given).format.pages
  pub needed : IsNeeded key wanted page q
  pub cold : is_cold ((state q.view).core.place page) ≡ true
  pub kept : (frame : ℕ) → frame < (opening q.view.given).frames → IsKept key frame q
  pub sum : on + above + held ≡ q.pager.frames
  pub few : on ≤ 8
  pub some_above : 0 < above → (p : ℕ) × (is_cooling ((state q.view).core.place p) ≡ true) × (flushed_by_all (opening q.view.given) (state q.view).core < ((state q.view).core.page p).gsn)
  pub some_held : 0 < held → (p : ℕ) × (is_cooling ((state q.view).core.place p) ≡ true) × IsHeldBack (state q.view).core p

-- so it is where no frame could be given; pages are not asked for
abbrev pub CrowdedCause : (key : ℕ) → Wanted → Refusal → Paged → Type 0
CrowdedCause key wanted (refusal.PoolFull on latched above held) q = IsCrowded key wanted on above held q
CrowdedCause key wanted refusal.NoPages q = ⊥
CrowdedCause key wanted _ q = Unit {0}

-- where one beside the way was wanted each other page is as it was
abbrev pub KeepsRest : Wanted → (p q : Paged) → Type 0
KeepsRest (want.Beside page) p q = KeepsOthers page p q
KeepsRest _ p q = Unit {0}

-- so it is too where no frame could be given
abbrev pub RestCause : Wanted → Paged → Refusal → Paged → Type 0
RestCause wanted p (refusal.PoolFull on latched above held) q = KeepsRest wanted p q
RestCause wanted p _ q = Unit {0}

-- It was refused; other pages may have cooled and left, and what was hot of the way is so still.
pub record IsRefusedTo (key : ℕ) (wanted : Wanted) (p : Paged) (why : Refusal) (q : Paged) : Type 0 where
  pub shape : q.shape ≡ p.shape
  pub refused : HasRefused most_a_page p.shape [] p.view p.pager why q.view q.pager
  pub warm : (level : ℕ) → IsWarm p key level → IsWarm q key level
  pub crowded : CrowdedCause key wanted why q
  pub rest : RestCause wanted p why q

-- ## A page that is not to be had

-- it is cold, and why it could not be read: s is what the device told before
pub record IsLost (p : Paged) (page : ℕ) (s : Story) (why : Refusal) : Type 0 where
  pub below : page < (opening p.view.given).format.pages
  pub cold : is_cold ((state p.view).core.place page) ≡ true
  pub cause : LostCause p.pager page s why

abbrev pub LostTo : Paged → Story → Refusal → Type 0
LostTo p s (refusal.Damaged page counts other) = IsLost p page s (refusal.Damaged page counts other)
LostTo p s (refusal.Altered page) = IsLost p page s (refusal.Altered page)
LostTo p s _ = Unit {0}

-- it is this page that is not to be had
abbrev pub IsOfPage : (page : ℕ) → Refusal → Type 0
IsOfPage page (refusal.Damaged lost counts other) = lost ≡ page
IsOfPage page (refusal.Altered lost) = lost ≡ page
IsOfPage page _ = Unit {0}
