-- What the program's names stand for.
use Rattle.std.specs.Prelude.{List, map}
use Rattle.map_model.specs.Journals as journals
use Rattle.plain_images.specs.declared.ends.Name.{Name}

abbrev pub name_of : Name → journals.Name
name_of n = record { session = n.session; number = n.number }

abbrev pub names_of : List Name → List journals.Name
names_of ns = map name_of ns
