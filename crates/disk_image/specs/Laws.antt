-- What the definitions say of the grammar of slots, records and blocks, and of one another.
use Rattle.std.specs.Prelude.{◌≡◌, ◌↔◌, ◌<◌, ◌≤◌, ℕ, List, Some, IsTrue}
use Rattle.page_model.specs.Page.{Page}
use Rattle.image_model.specs.Images.{Image, IsSound, map_of, won_by, lost_by, recovered_page}
use Rattle.disk_slots.specs.Pages.{IsPageSlot}
use Rattle.disk_slots.specs.Masters.{IsMasterSlot}
use Rattle.disk_slots.specs.declared.master.Master.{Master}
use Rattle.log_record.specs.declared.record.Record.{Record}
use Rattle.log_block.specs.Block.{IsSealed, Belongs, IsBlock}
use Rattle.disk_image.specs.PageSlots.{page_in}
use Rattle.disk_image.specs.MasterSlots.{master_in}
use Rattle.disk_image.specs.Blocks.{is_sealed, belongs, block_in}
use Rattle.disk_image.specs.Shown.{Areas, IsSoundDisk}
use Rattle.disk_image.specs.Breaks.{Breaks}

-- a slot's page and master are those that the grammar says
abbrev pub EveryPageIn : Type 0
EveryPageIn = (n pages : ℕ) (bytes : List ℕ) (p : Page) → (page_in n pages bytes ≡ Some p) ↔ IsPageSlot n pages bytes p

abbrev pub EveryMasterIn : Type 0
EveryMasterIn = (n : ℕ) (bytes : List ℕ) (m : Master) → (master_in n bytes ≡ Some m) ↔ IsMasterSlot n bytes m

-- so are a block's seal, its numbers and its records
abbrev pub EverySealed : Type 0
EverySealed = (bytes : List ℕ) → IsTrue (is_sealed bytes) ↔ IsSealed bytes

abbrev pub EveryBelongs : Type 0
EveryBelongs = (generation log block : ℕ) (bytes : List ℕ) → IsTrue (belongs generation log block bytes) ↔ Belongs generation log block bytes

abbrev pub EveryBlockIn : Type 0
EveryBlockIn = (generation log block : ℕ) (bytes : List ℕ) (records : List Record) →
    (block_in generation log block bytes ≡ Some records) ↔ IsBlock generation log block bytes records

-- A disk with a place that breaks a rule is not sound.
abbrev pub EveryBreak : Type 0
EveryBreak = (m : Master) (area : Areas) (a place : ℕ) → Breaks m area a place → IsSoundDisk m area → ⊥

-- two images that agree up to the number of logs and the number of pages
pub record Agree (i j : Image) : Type 0 where
  pub format : i.format ≡ j.format
  pub logs : i.logs ≡ j.logs
  pub floor : i.floor ≡ j.floor
  pub log : (w : ℕ) → 0 < w → w ≤ i.logs → i.log w ≡ j.log w
  pub base : (p : ℕ) → p < i.format.pages → i.base p ≡ j.base p

-- what they then have in common
pub record Agreement (i j : Image) : Type 0 where
  pub sound : IsSound j
  pub map : (k : ℕ) → map_of j k ≡ map_of i k
  pub won : won_by j ≡ won_by i
  pub lost : lost_by j ≡ lost_by i
  pub recovered : (p : ℕ) → p < i.format.pages → recovered_page j p ≡ recovered_page i p

-- If one of them is sound, so is the other, and they stand for the same.
abbrev pub EveryAgreement : Type 0
EveryAgreement = (i j : Image) → Agree i j → IsSound i → Agreement i j
