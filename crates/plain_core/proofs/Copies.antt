-- What a loop that copies entries keeps.
use Rattle.std.proofs.Common.{◌≡◌, List, ◌++◌}
use Rattle.core_state.specs.image_model.Entries as model
use Rattle.plain_core.specs.declared.records.Entry.{Entry}
use Rattle.plain_core.specs.Records.{entries_of}

-- the copies, with the rest, are the whole
abbrev pub HasCopied : List Entry → List Entry → List model.Entry → Type 0
HasCopied copies rest whole = entries_of copies ++ entries_of rest ≡ whole
