-- What stands for an image once its records are redone, and which of them are lost.
use Rattle.std.specs.Prelude.{◌≡◌, Bool, length}
use Rattle.image_model.specs.Entries.{Entry}
use Rattle.image_model.specs.Ends.{reach}
use Rattle.image_model.specs.Redo.{redo}
use Rattle.image_model.specs.Images as images
use Rattle.plain_images.specs.declared.records.Image.{Image}
use Rattle.plain_images.specs.declared.replayed.Replayed.{Replayed}
use Rattle.plain_images.specs.Records.{entries_of}
use Rattle.plain_images.specs.Images.{bases_of, image_of, counted, redone_of}
use Rattle.plain_images.specs.Undo.{is_lost_by}

-- its records in order, its reach, and what redo makes of its bases
pub record IsReplayed (image : Image) (d : Replayed) : Type 0 where
  pub sorted : entries_of d.records.items ≡ images.sorted (image_of image)
  pub reached : d.far ≡ reach (length image.logs.items) image.floor (entries_of d.records.items)
  pub made : redone_of image.bases.items d.redone ≡ redo (bases_of image.bases.items) (entries_of d.records.items)

-- a write that counts, of a transaction that is not ended
abbrev pub lost_in : Replayed → Entry → Bool
lost_in d = is_lost_by d.far (entries_of d.records.items) (counted d.redone.marks.items)
