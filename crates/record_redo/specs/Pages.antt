-- Pages in memory as those of an image, and what one record makes of them.
use Rattle.std.specs.Prelude.{◌≡◌, ◌⊎◌, ℕ, Bool, true, false, List, length, slice_index_or, Option, Some, None, slice_get}
use Rattle.page_model.specs.Page.{Page}
use Rattle.page_model.specs.Nodes.{free}
use Rattle.disk_image.specs.image_model.Entries as model
use Rattle.disk_image.specs.image_model.Entries.{Entry}
use Rattle.disk_image.specs.image_model.Redo.{redo_one}

-- a page with the number and the log of its last record
abbrev pub page_of : Page → model.Contents
page_of p = record { gsn = p.gsn; last = p.last_log; node = p.node }

abbrev pub page_or : Option Page → model.Contents
page_or (Some p) = page_of p
page_or None = record { gsn = 0; last = 0; node = free }

-- pages by their numbers; beyond the last there are free ones
abbrev pub pages_of : List Page → ℕ → model.Contents
pages_of pages p = page_or (slice_get pages p)

-- what the record makes of pages, with no mark of what counted
abbrev pub one_redone : (ℕ → model.Contents) → Entry → ℕ → model.Contents
one_redone page r = (redo_one (record { page = page; counts = λ _ _. false }) r).page

-- its own number and its generation
pub record SameOwn (x y : Page) : Type 0 where
  pub number : y.number ≡ x.number
  pub generation : y.generation ≡ x.generation

-- Pages that change keep their own numbers and generations, and are marked; no mark goes.
pub record Keeps (before after : List Page) (was now : List Bool) : Type 0 where
  pub count : length after ≡ length before
  pub marks : length now ≡ length was
  pub own : (p : ℕ) (x y : Page) → slice_get before p ≡ Some x → slice_get after p ≡ Some y → SameOwn x y
  pub stay : (p : ℕ) → slice_index_or was p false ≡ true → slice_index_or now p false ≡ true
  pub same : (p : ℕ) → slice_index_or now p false ≡ false → slice_get after p ≡ slice_get before p

-- each mark was there, or this is why it was set
pub record MarksFor (why : ℕ → Bool) (was now : List Bool) : Type 0 where
  pub at : (p : ℕ) → slice_index_or now p false ≡ true → (slice_index_or was p false ≡ true) ⊎ (why p ≡ true)
