use Rattle.std.proofs.Common.{◌≡◌, ap, subst, ◌∙◌, List, Option, length}
use Rattle.map_model.specs.Lists.{in_order}
use Rattle.image_model.specs.Entries.{earlier}
use Rattle.image_model.specs.Ends.{reach}
use Rattle.image_model.specs.Images.{gathered}
use Rattle.image_model.specs.Redo.{redo}
use Rattle.plain_images.specs.declared.records.Log.{Log}
use Rattle.plain_images.specs.declared.records.Page.{Page}
use Rattle.plain_images.specs.declared.records.Record.{Record}
use Rattle.plain_images.specs.Records.{entries_of}
use Rattle.plain_images.specs.Images.{log_of, bases_of, redone_of}
use Rattle.plain_images.proofs.replayed.replay.Goals as goal

pub returns : goal.returns
returns c =
    let logs = c.as_slice-logs.ensures.value in
    let bases = c.as_slice-bases.ensures.value in
    let records = c.as_slice-records.ensures.value in
    record {
      sorted = c.in_ok-sorted.ensures ∙ ap (λ (l : List Log). in_order earlier (gathered (log_of l) (length l))) logs;
      reached = c.reach-far.ensures ∙ ap (λ (l : List Log). reach (length l) c.args.image.now.floor (entries_of c.as_slice-records.result.now)) logs
          ∙ ap (λ (r : List Record). reach (length c.args.image.now.logs.items) c.args.image.now.floor (entries_of r)) records;
      made = subst (λ (b : List (Option Page)). redone_of b c.in_ok-redone.redone ≡ redo (bases_of b) (entries_of c.in_ok-sorted.sorted.items)) bases
          (c.in_ok-redone.ensures ∙ ap (λ (r : List Record). redo (bases_of c.as_slice-bases.result.now) (entries_of r)) records);
    }
