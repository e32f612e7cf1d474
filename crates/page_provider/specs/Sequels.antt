-- What calls did, one behind another.
use Rattle.std.specs.Prelude.{◌≡◌, ◌+◌, ◌≤◌, ℕ, Bool, List, [], true, false}
use Rattle.map_model.specs.Lists.{any}
use Rattle.cold_pages.specs.Laws.{IsButEntries}
use Rattle.lean_disk.specs.Moments.{Framed, OnlyReads}
use Rattle.lean_disk.specs.Story.{Story}
use Rattle.page_calls.specs.Calls.{KeepsWithin}
use Rattle.btree_descent.specs.row_words.Moments.{events_of}
use Rattle.btree_descent.specs.rows_trait.declared.view.View.{View}
use Rattle.btree_descent.specs.rows_trait.Views.{Shape, state}
use Rattle.btree_descent.specs.rows_trait.Turns.{Ran}
use Rattle.page_provider.specs.declared.refusal.Refusal.{Refusal}
use Rattle.page_provider.specs.Disks.{Disked, ReadsUnlessSaved, saves_page}
use Rattle.page_provider.specs.Ends.{HasRefused}
use Rattle.page_provider.specs.Moves.{Moved}
use Rattle.page_provider.specs.Providers.{Keeps, Provider}

-- Over rows: steps that append nothing, two calls, and one that is refused behind another; and where nobody else steps no page
-- has other contents, but for the entries of a leaf that was read again; and where rows began faithful, not these either.
pub record EverySequel : Type 0 where
  pub rest : (z : Shape) (v u : View) (k : Provider) → Keeps z v k → v.held ≡ [] → u.held ≡ [] → Ran z.alone v [] u → Moved 0 z v k u k
  pub moved : (m n most : ℕ) (z : Shape) (v u w : View) (a b c : Provider) → m + n ≤ most → Moved m z v a u b → Moved n z u b w c → Moved most z v a w c
  pub refused : (m n most : ℕ) (z : Shape) (path : List ℕ) (v u w : View) (a b c : Provider) (why : Refusal) → m + n ≤ most → Moved m z v a u b → b.broken ≡ a.broken → HasRefused n z path u b why w c → HasRefused most z [] v a why w c
  pub pages : (most : ℕ) (z : Shape) (v u : View) (a b : Provider) → z.alone ≡ true → Keeps z v a → Moved most z v a u b → (p : ℕ) → IsButEntries ((state v).core.page p) ((state u).core.page p)
  pub contents : (most : ℕ) (z : Shape) (v u : View) (a b : Provider) → z.alone ≡ true → v.given.faithful ≡ true → Keeps z v a → Moved most z v a u b → (p : ℕ) → (state u).core.page p ≡ (state v).core.page p

-- Over a disk of which nothing is asked: steps that append nothing.
abbrev pub EveryDiskRest : Story → Type 0
EveryDiskRest s = (alone : Bool) (v u : View) (k : Provider) → Ran alone v [] u → Disked alone k v k u s s

-- Over a disk: two calls, the first of which left the pager whole.
abbrev pub EveryDiskSequel : (old mid new : Story) → Type 0
EveryDiskSequel old mid new = (alone : Bool) (v u w : View) (a b c : Provider) → b.broken ≡ false → Disked alone a v b u old mid → Disked alone b u c w mid new → Disked alone a v c w old new

-- ## The pages' area

-- Where nothing was asked of the device: steps that append nothing.
pub record EveryAreaRest (s : Story) : Type 0 where
  pub frame : Framed 1 s s
  pub within : KeepsWithin s s
  pub reads : (v u : View) (k : Provider) (alone : Bool) → Ran alone v [] u → ReadsUnlessSaved v u k s s

-- Two calls; of what was read, where the first left the pager whole.
pub record EveryAreaSequel (old mid new : Story) : Type 0 where
  pub frame : Framed 1 old mid → Framed 1 mid new → Framed 1 old new
  pub within : Framed 1 old mid → KeepsWithin old mid → KeepsWithin mid new → KeepsWithin old new
  pub reads : (v u w : View) (b c : Provider) → b.broken ≡ false → ReadsUnlessSaved v u b old mid → ReadsUnlessSaved u w c mid new → ReadsUnlessSaved v w c old new

-- Where nobody else steps, a call that left the pager whole, and none of whose events saves a page, has only read the device.
abbrev pub EveryUnsaved : (old new : Story) → Type 0
EveryUnsaved old new = (most : ℕ) (z : Shape) (v u : View) (was is : Provider) → z.alone ≡ true → (m : Moved most z v was u is) → ReadsUnlessSaved v u is old new → is.broken ≡ false → any saves_page (events_of m.events) ≡ false → OnlyReads old new
