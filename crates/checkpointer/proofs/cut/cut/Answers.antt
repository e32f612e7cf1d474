use Rattle.std.proofs.Common.{◌∙◌, ℕ, sym, subst, true≢false}
use Rattle.disk_runs.specs.disk_slots.declared.master.Master.{Master}
use Rattle.checkpointer.specs.Cuts.{IsCutOff, KeepsCut}
use Rattle.checkpointer.proofs.CutLemmas.{cut_keeps, cut_off, none_moves, one_number, passed_none, same_heads, still_keeps, still_off}
use Rattle.checkpointer.proofs.cut.cut.Goals as goal

pub returns-then-are_heads-clause-passed : goal.returns-then-are_heads-clause-passed
returns-then-are_heads-clause-passed g c =
    let log = g.L.Rings.log_of c.args.rings.now in
    let count = g.L.Rings.count_of c.args.rings.now in
    let x = c.cut_number-number.result in
    passed_none x count log (none_moves x count log c.args.master.now c.next_heads-heads.result c.requires.rings c.next_heads-heads.ensures (c.are_heads.ensures.0 c.if-are_heads.true))

pub returns-then-are_heads-clause-go : goal.returns-then-are_heads-clause-go
returns-then-are_heads-clause-go g c = λ g' es s0 k due.
    let log = g.L.Rings.log_of c.args.rings.now in
    let count = g.L.Rings.count_of c.args.rings.now in
    let x = c.cut_number-number.result in
    let same = c.are_heads.ensures.0 c.if-are_heads.true in
    still_off c.every_passed.ensures c.every_version.ensures g' es s0 k x c.args.floor count log c.args.master.now (g.D.Disk.story c.args.disk.now) due
    (none_moves x count log c.args.master.now c.next_heads-heads.result c.requires.rings c.next_heads-heads.ensures same)

pub returns-then-are_heads-clause-keeps : goal.returns-then-are_heads-clause-keeps
returns-then-are_heads-clause-keeps g c = λ x is.
    let law = ((g.met.D.Disk g.world.𝓛 g.world.𝓜 g.world.𝓡 ((λ s x. x), (λ x. x), (λ x. x), (λ x. x))).lawful c.args.disk.now) in
    still_keeps c.every_kept.ensures c.every_prefix.ensures c.every_sealed.ensures x c.args.floor (g.L.Rings.count_of c.args.rings.now) (g.L.Rings.log_of c.args.rings.now) c.args.master.now (g.D.Disk.story c.args.disk.now) law

pub returns-in_err-install-clause-keeps : goal.returns-in_err-install-clause-keeps
returns-in_err-install-clause-keeps g c = λ x is.
    let log = g.L.Rings.log_of c.args.rings.now in
    let count = g.L.Rings.count_of c.args.rings.now in
    let number = c.cut_number-number.result in
    subst (λ (y : ℕ). KeepsCut y c.args.floor count log c.args.master.now (g.D.Disk.story c.args.disk.now) (g.D.Disk.story c.install.new.disk)) (one_number c.args.covers.now c.args.floor c.args.first number x c.cut_number-number.ensures is)
    (cut_keeps c.every_passed.ensures number c.args.floor count log c.args.master.now c.next_heads-heads.result (g.D.Disk.story c.args.disk.now) (g.D.Disk.story c.install.new.disk) c.requires.rings c.next_heads-heads.ensures c.ranges.floor.fits
    c.install.ensures.any_moment c.install.ensures.within)

pub returns-clause-go : goal.returns-clause-go
returns-clause-go g c = λ g' es s0 k due.
    let log = g.L.Rings.log_of c.args.rings.now in
    let count = g.L.Rings.count_of c.args.rings.now in
    let number = c.cut_number-number.result in
    let s = g.D.Disk.story c.args.disk.now in
    let new = g.D.Disk.story c.install.new.disk in
    let is = g.L.Rings.log_of c.pass_all.new.rings in
    subst (λ (n : Master). IsCutOff g' es s0 k number count is n new) (sym c.in_ok-install.ensures.master)
    (cut_off c.every_passed.ensures g' es s0 k number c.args.floor count log c.args.master.now s due c.requires.rings c.next_heads-heads.result c.next_heads-heads.ensures c.ranges.floor.fits new is c.in_ok-install.ensures.stands c.pass_all.ensures.passed)

pub returns-clause-still : goal.returns-clause-still
returns-clause-still g c = λ none.
    let log = g.L.Rings.log_of c.args.rings.now in
    let count = g.L.Rings.count_of c.args.rings.now in
    let number = c.cut_number-number.result in
    absurd (true≢false (sym (c.are_heads.ensures.1 (same_heads number count log c.args.master.now c.next_heads-heads.result c.requires.rings c.next_heads-heads.ensures none)) ∙ c.if-are_heads.false))

pub returns-clause-keeps : goal.returns-clause-keeps
returns-clause-keeps g c = λ x is.
    let log = g.L.Rings.log_of c.args.rings.now in
    let count = g.L.Rings.count_of c.args.rings.now in
    let number = c.cut_number-number.result in
    subst (λ (y : ℕ). KeepsCut y c.args.floor count log c.args.master.now (g.D.Disk.story c.args.disk.now) (g.D.Disk.story c.install.new.disk)) (one_number c.args.covers.now c.args.floor c.args.first number x c.cut_number-number.ensures is)
    (cut_keeps c.every_passed.ensures number c.args.floor count log c.args.master.now c.next_heads-heads.result (g.D.Disk.story c.args.disk.now) (g.D.Disk.story c.install.new.disk) c.requires.rings c.next_heads-heads.ensures c.ranges.floor.fits
    c.install.ensures.any_moment c.install.ensures.within)
