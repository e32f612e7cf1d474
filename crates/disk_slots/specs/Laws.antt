-- What holds of every slot.
use Rattle.std.specs.Prelude.{◌≡◌, ℕ, ◌^◌, ◌<◌, ◌≤◌, List, [], replicate, codes}
use Rattle.page_model.specs.Nodes.{Format, WellFormed}
use Rattle.page_model.specs.Page.{Page}
use Rattle.btree_node.specs.Words.{words_of}
use Rattle.lean_bytes.specs.Numbers.{AreWords}
use Rattle.disk_slots.specs.declared.master.Master.{Master}
use Rattle.disk_slots.specs.Slots.{IsSealed}
use Rattle.disk_slots.specs.Pages.{IsPage, IsPageSlot}
use Rattle.disk_slots.specs.Masters.{IsMasterSlot}

-- a format of page_model with the sizes of a page slot
pub record IsSized (f : Format) : Type 0 where
  pub room : f.room ≡ 60
  pub levels : f.levels ≡ 7
  pub dead : f.dead ≡ 2 ^ 63

pub record PageLaws (n pages : ℕ) (p : Page) : Type 0 where
  -- bytes are the slot of one page, whatever its number and the number of pages
  pub one : (bytes : List ℕ) (m others : ℕ) (q : Page) → IsPageSlot n pages bytes p → IsPageSlot m others bytes q → p ≡ q
  pub sealed : (bytes : List ℕ) → IsPageSlot n pages bytes p → IsSealed (codes "LEANPAGE") bytes
  pub zeros : IsPageSlot n pages (replicate 1024 0) p → ⊥
  -- a stored page is well formed, but that one without pairs may have any fences
  pub formed : (f : Format) → IsSized f → f.pages ≡ pages → IsPage n pages p → (p.node.pairs ≡ [] → p.node.low ≤ p.node.high) → WellFormed f p.node
  pub stored : (f : Format) → IsSized f → f.pages ≡ pages → WellFormed f p.node → p.number ≡ n → p.last_log < 256 → AreWords (words_of p) → IsPage n pages p

abbrev pub EveryPage : Type 0
EveryPage = (n pages : ℕ) (p : Page) → PageLaws n pages p

pub record MasterLaws (n : ℕ) (m : Master) : Type 0 where
  -- bytes are the slot of one master
  pub one : (bytes : List ℕ) (k : ℕ) (o : Master) → IsMasterSlot n bytes m → IsMasterSlot k bytes o → m ≡ o
  pub sealed : (bytes : List ℕ) → IsMasterSlot n bytes m → IsSealed (codes "LEANMAST") bytes
  pub zeros : IsMasterSlot n (replicate 1024 0) m → ⊥

abbrev pub EveryMaster : Type 0
EveryMaster = (n : ℕ) (m : Master) → MasterLaws n m
