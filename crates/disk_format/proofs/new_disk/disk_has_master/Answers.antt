use Rattle.std.proofs.Common.{◌≡◌, Some, None, List, ℕ, sym, ◌∙◌, refl}
use Rattle.std.proofs.lemmas.Bool.{true≢false}
use Rattle.master_store.specs.disk_image.MasterSlots.{master_on}
use Rattle.disk_format.proofs.MasterLemmas.{some_master, no_master}
use Rattle.disk_format.proofs.new_disk.disk_has_master.Goals as goal

pub returns-in-Some-clause-answer : goal.returns-in-Some-clause-answer
returns-in-Some-clause-answer g c = λ told.
    let bytes : List ℕ = ((g.D.Disk.story c.args.disk.now).area 0).bytes in
    let is : master_on bytes ≡ Some c.in-Some.field-0 = sym ((c.in_ok-read_disk_master.ensures).answer told) ∙ c.in-Some.is in
    ((λ so. some_master bytes c.in-Some.field-0 is), (λ has. refl))

pub returns-in-None-clause-answer : goal.returns-in-None-clause-answer
returns-in-None-clause-answer g c = λ told.
    let bytes : List ℕ = ((g.D.Disk.story c.args.disk.now).area 0).bytes in
    let is : master_on bytes ≡ None = sym ((c.in_ok-read_disk_master.ensures).answer told) ∙ c.in-None.is in
    ((λ so. absurd (true≢false (sym so))), (λ has. absurd (no_master bytes is has)))
