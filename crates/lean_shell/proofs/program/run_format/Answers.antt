use Rattle.std.proofs.Common.{◌≡◌, ⊎_elim, refl, sym, ◌∙◌, ap, subst, arith}
use Rattle.lean_disk.specs.Faults.{Rose}
use Rattle.lean_shell.specs.declared.failure.Failure.TheVariants.{Usage, DiskFault, Memory, AlreadyFormatted}
use Rattle.lean_shell.specs.Endings.{number_of}
use Rattle.lean_shell.proofs.EndLemmas.{failed, finished_well, keeps_all, unmoved}
use Rattle.lean_shell.proofs.program.run_format.Goals as goal

pub returns-in_default : goal.returns-in_default
returns-in_default g c =
    let s0 = g.D.Disk.story c.args.disk.now in
    let law = ((g.met.D.Disk g.world.𝓛 g.world.𝓜 g.world.𝓡 ((λ s x. x), (λ x. x), (λ x. x), (λ x. x))).lawful c.args.disk.now) in
    failed c.args.shape s0 s0 (g.D.Disk.story c.fail.new.disk) law (keeps_all s0) (unmoved c.args.shape s0 law) (λ a lt. refl) c.fail.ensures.noted (g.K.Sink.held c.args.sink.now) (g.K.Sink.held c.fail.new.sink) (g.K.Sink.faults c.args.sink.now) (g.K.Sink.faults c.fail.new.sink) (g.D.Disk.faults c.args.disk.now) (g.D.Disk.faults c.fail.new.disk)
    Memory c.fail.result c.fail.ensures.answer (λ e. let n : number_of Memory ≡ number_of Usage = ap number_of e in omega (arith, n)) c.fail.ensures.printed (λ e. absurd (let n : number_of Memory ≡ number_of AlreadyFormatted = ap number_of e in omega (arith, n))) (λ e a. refl) (record { later = omega (arith, c.fail.ensures.faults); cause = λ e. absurd (let n : number_of Memory ≡ number_of DiskFault = ap number_of e in omega (arith, n)); calm = λ n. c.fail.ensures.faults })

pub returns-in-Done : goal.returns-in-Done
returns-in-Done g c =
    let s0 = g.D.Disk.story c.args.disk.now in
    let s = g.D.Disk.story c.format.new.disk in
    let law = ((g.met.D.Disk g.world.𝓛 g.world.𝓜 g.world.𝓡 ((λ s x. x), (λ x. x), (λ x. x), (λ x. x))).lawful c.format.new.disk) in
    let is = c.format.ensures in
    finished_well c.args.shape s0 s (g.D.Disk.story c.finish.new.disk) law is.keeps is.any_moment is.logs c.finish.ensures.noted (g.K.Sink.held c.args.sink.now) (g.K.Sink.held c.finish.new.sink) (g.K.Sink.faults c.args.sink.now) (g.K.Sink.faults c.finish.new.sink) (g.D.Disk.faults c.args.disk.now) (g.D.Disk.faults c.finish.new.disk)
    c.finish.result c.finish.ensures.printed (is.after c.in-Done.is) (is.no_master c.in-Done.is) (c.finish.ensures.faults ∙ is.cause_disk_fault.calm (λ e. let differ = sym c.in-Done.is ∙ e in cc))

pub returns-in-AlreadyFormatted : goal.returns-in-AlreadyFormatted
returns-in-AlreadyFormatted g c =
    let s0 = g.D.Disk.story c.args.disk.now in
    let s = g.D.Disk.story c.format.new.disk in
    let law = ((g.met.D.Disk g.world.𝓛 g.world.𝓜 g.world.𝓡 ((λ s x. x), (λ x. x), (λ x. x), (λ x. x))).lawful c.format.new.disk) in
    let is = c.format.ensures in
    let ended = c.fail-in-AlreadyFormatted.ensures in
    failed c.args.shape s0 s (g.D.Disk.story c.fail-in-AlreadyFormatted.new.disk) law is.keeps is.any_moment is.logs ended.noted (g.K.Sink.held c.args.sink.now) (g.K.Sink.held c.fail-in-AlreadyFormatted.new.sink) (g.K.Sink.faults c.args.sink.now) (g.K.Sink.faults c.fail-in-AlreadyFormatted.new.sink) (g.D.Disk.faults c.args.disk.now) (g.D.Disk.faults c.fail-in-AlreadyFormatted.new.disk)
    AlreadyFormatted c.fail-in-AlreadyFormatted.result ended.answer (λ e. let n : number_of AlreadyFormatted ≡ number_of Usage = ap number_of e in omega (arith, n)) ended.printed (λ e. is.cause_already_formatted c.in-AlreadyFormatted.is) (λ e. is.same c.in-AlreadyFormatted.is)
    (record { later = omega (arith, is.cause_disk_fault.later, ended.faults); cause = λ e. absurd (let n : number_of AlreadyFormatted ≡ number_of DiskFault = ap number_of e in omega (arith, n)); calm = λ n. ended.faults ∙ is.cause_disk_fault.calm (λ e. let differ = sym c.in-AlreadyFormatted.is ∙ e in cc) })

pub returns : goal.returns
returns g c =
    let s0 = g.D.Disk.story c.args.disk.now in
    let s = g.D.Disk.story c.format.new.disk in
    let law = ((g.met.D.Disk g.world.𝓛 g.world.𝓜 g.world.𝓡 ((λ s x. x), (λ x. x), (λ x. x), (λ x. x))).lawful c.format.new.disk) in
    let is = c.format.ensures in
    let ended = c.fail-in-DiskFault.ensures in
    failed c.args.shape s0 s (g.D.Disk.story c.fail-in-DiskFault.new.disk) law is.keeps is.any_moment is.logs ended.noted (g.K.Sink.held c.args.sink.now) (g.K.Sink.held c.fail-in-DiskFault.new.sink) (g.K.Sink.faults c.args.sink.now) (g.K.Sink.faults c.fail-in-DiskFault.new.sink) (g.D.Disk.faults c.args.disk.now) (g.D.Disk.faults c.fail-in-DiskFault.new.disk)
    DiskFault c.fail-in-DiskFault.result ended.answer (λ e. let n : number_of DiskFault ≡ number_of Usage = ap number_of e in omega (arith, n)) ended.printed (λ e. absurd (let n : number_of DiskFault ≡ number_of AlreadyFormatted = ap number_of e in omega (arith, n))) (λ e. absurd (⊎_elim (λ e. let n : number_of DiskFault ≡ number_of Memory = ap number_of e in omega (arith, n)) (λ e. let n : number_of DiskFault ≡ number_of AlreadyFormatted = ap number_of e in omega (arith, n)) e))
    (record { later = omega (arith, is.cause_disk_fault.later, ended.faults); cause = λ e. subst (Rose (g.D.Disk.faults c.args.disk.now)) (sym ended.faults) (is.cause_disk_fault.cause c.in-DiskFault.is); calm = λ n. absurd (n refl) })
