use Rattle.std.proofs.Common.{ℕ, inl, refl, subst, sym}
use Rattle.buffered_engine.specs.recovery.Telling.{TellsAll}
use Rattle.lean_shell.specs.declared.failure.Failure.TheVariants.{Usage}
use Rattle.lean_shell.proofs.CommandLemmas.{no_dump, no_format, no_run, not_both, not_run, of_dump, of_format, of_make, of_none, of_run, of_unread, same_workload, tells_on, usage_moments}
use Rattle.buffered_engine.specs.engine_front.Fronts.{events_in}
use Rattle.lean_shell.specs.Words.{AsksRun, texts}
use Rattle.lean_shell.specs.Makes.{MakeEnds}
use Rattle.lean_shell.specs.declared.make.Workload.{Workload}
use Rattle.lean_shell.specs.declared.words.Command.TheVariants.{Dump, Format, Make, Run}
use Rattle.lean_shell.proofs.WordLemmas.{read_none, read_some}
use Rattle.lean_shell.proofs.program.run_alone.Goals as goal

pub returns-in-Ok-Some-Format-clause-ends : goal.returns-in-Ok-Some-Format-clause-ends
returns-in-Ok-Some-Format-clause-ends g c = of_format (texts c.args.words.now) c.run_format-status.result (events_in c.no_events.result.view) (g.D.Disk.story c.args.disk) (g.D.Disk.story c.run_format-status.new.disk) (g.S.Source.feed c.args.source.now) (g.S.Source.feed c.args.source.now) (g.K.Sink.held c.args.sink.now) (g.K.Sink.held c.run_format-status.new.sink)
    (record { source = g.S.Source.faults c.args.source.now; sink = g.K.Sink.faults c.args.sink.now; disk = g.D.Disk.faults c.args.disk }) (record { source = g.S.Source.faults c.args.source.now; sink = g.K.Sink.faults c.run_format-status.new.sink; disk = g.D.Disk.faults c.run_format-status.new.disk })
    c.in-Ok-Some-Format.shape (read_some (texts c.args.words.now) c.in-Ok-Some-Format.field-0 c.in-Ok-Some-Format.field-0-0 (Format c.in-Ok-Some-Format.shape) c.in-Ok-Some-Format.field-0-is c.in-Ok-Some-Format.field-0-0-is c.in-Ok-Some-Format.ensures.some) refl c.run_format-status.ensures

pub returns-in-Ok-Some-Run-clause-ends : goal.returns-in-Ok-Some-Run-clause-ends
returns-in-Ok-Some-Run-clause-ends g c = of_run (texts c.args.words.now) c.run_disk.result.status (events_in c.run_disk.result.front.view) (g.D.Disk.story c.args.disk) (g.D.Disk.story c.run_disk.result.disk) (g.S.Source.feed c.args.source.now) (g.S.Source.feed c.run_disk.new.source) (g.K.Sink.held c.args.sink.now) (g.K.Sink.held c.run_disk.new.sink)
    (record { source = g.S.Source.faults c.args.source.now; sink = g.K.Sink.faults c.args.sink.now; disk = g.D.Disk.faults c.args.disk }) (record { source = g.S.Source.faults c.run_disk.new.source; sink = g.K.Sink.faults c.run_disk.new.sink; disk = g.D.Disk.faults c.run_disk.result.disk })
    c.in-Ok-Some-Run.size (read_some (texts c.args.words.now) c.in-Ok-Some-Run.field-0 c.in-Ok-Some-Run.field-0-0 (Run c.in-Ok-Some-Run.size) c.in-Ok-Some-Run.field-0-is c.in-Ok-Some-Run.field-0-0-is c.in-Ok-Some-Run.ensures.some) c.run_disk.ensures.ends c.run_disk.ensures.cause_read_fault c.run_disk.ensures.cause_write_fault c.run_disk.ensures.cause_disk_fault

pub returns-in-Ok-Some-Dump-clause-ends : goal.returns-in-Ok-Some-Dump-clause-ends
returns-in-Ok-Some-Dump-clause-ends g c = of_dump (texts c.args.words.now) c.dump_disk-status.result (events_in c.no_events-in-Ok-Some-Dump.result.view) (g.D.Disk.story c.args.disk) (g.D.Disk.story c.dump_disk-status.new.disk) (g.S.Source.feed c.args.source.now) (g.S.Source.feed c.args.source.now) (g.K.Sink.held c.args.sink.now) (g.K.Sink.held c.dump_disk-status.new.sink)
    (record { source = g.S.Source.faults c.args.source.now; sink = g.K.Sink.faults c.args.sink.now; disk = g.D.Disk.faults c.args.disk }) (record { source = g.S.Source.faults c.args.source.now; sink = g.K.Sink.faults c.dump_disk-status.new.sink; disk = g.D.Disk.faults c.dump_disk-status.new.disk })
    (read_some (texts c.args.words.now) c.in-Ok-Some-Dump.field-0 c.in-Ok-Some-Dump.field-0-0 Dump c.in-Ok-Some-Dump.field-0-is c.in-Ok-Some-Dump.field-0-0-is c.in-Ok-Some-Dump.ensures.some) refl c.dump_disk-status.ensures.ends c.dump_disk-status.ensures.cause_write_fault c.dump_disk-status.ensures.cause_disk_fault

pub returns-in-Ok-Some-Run-clause-source : goal.returns-in-Ok-Some-Run-clause-source
returns-in-Ok-Some-Run-clause-source g c = λ none. absurd (none c.in-Ok-Some-Run.size (read_some (texts c.args.words.now) c.in-Ok-Some-Run.field-0 c.in-Ok-Some-Run.field-0-0 (Run c.in-Ok-Some-Run.size) c.in-Ok-Some-Run.field-0-is c.in-Ok-Some-Run.field-0-0-is c.in-Ok-Some-Run.ensures.some))

pub returns-in-Ok-None-clause-ends : goal.returns-in-Ok-None-clause-ends
returns-in-Ok-None-clause-ends g c = of_none (texts c.args.words.now) c.fail-status.result (events_in c.no_events-in-Ok-None.result.view) (g.D.Disk.story c.args.disk) (g.D.Disk.story c.fail-status.new.disk) (g.S.Source.feed c.args.source.now) (g.S.Source.feed c.args.source.now) (g.K.Sink.held c.args.sink.now) (g.K.Sink.held c.fail-status.new.sink)
    (record { source = g.S.Source.faults c.args.source.now; sink = g.K.Sink.faults c.args.sink.now; disk = g.D.Disk.faults c.args.disk }) (record { source = g.S.Source.faults c.args.source.now; sink = g.K.Sink.faults c.fail-status.new.sink; disk = g.D.Disk.faults c.fail-status.new.disk })
    (read_none (texts c.args.words.now) c.in-Ok-None.field-0 c.in-Ok-None.field-0-is c.in-Ok-None.ensures.none) c.fail-status.ensures.answer refl
    (record {
      failure = Usage;
      is = inl refl;
      status_is = c.fail-status.ensures.answer;
      printed = c.fail-status.ensures.printed;
      same = c.fail-status.ensures.noted.area;
      tells_on = tells_on (g.D.Disk.story c.args.disk) (g.D.Disk.story c.fail-status.new.disk) c.fail-status.ensures.noted;
      faults = c.fail-status.ensures.faults;
      any_moment = usage_moments (g.D.Disk.story c.args.disk) (g.D.Disk.story c.fail-status.new.disk) ((g.met.D.Disk g.world.𝓛 g.world.𝓜 g.world.𝓡 ((λ s x. x), (λ x. x), (λ x. x), (λ x. x))).lawful c.args.disk) c.fail-status.ensures.noted;
    })

pub returns-in-Ok-Some-Format-clause-headline : goal.returns-in-Ok-Some-Format-clause-headline
returns-in-Ok-Some-Format-clause-headline g c = λ size also. absurd (not_both (texts c.args.words.now) c.in-Ok-Some-Format.shape size (read_some (texts c.args.words.now) c.in-Ok-Some-Format.field-0 c.in-Ok-Some-Format.field-0-0 (Format c.in-Ok-Some-Format.shape) c.in-Ok-Some-Format.field-0-is c.in-Ok-Some-Format.field-0-0-is c.in-Ok-Some-Format.ensures.some) also)

pub returns-in-Ok-Some-Run-clause-headline : goal.returns-in-Ok-Some-Run-clause-headline
returns-in-Ok-Some-Run-clause-headline g c = λ size also feed_tells held_tells tells.
    let words = texts c.args.words.now in
    let asks : AsksRun words c.in-Ok-Some-Run.size = read_some words c.in-Ok-Some-Run.field-0 c.in-Ok-Some-Run.field-0-0 (Run c.in-Ok-Some-Run.size) c.in-Ok-Some-Run.field-0-is c.in-Ok-Some-Run.field-0-0-is c.in-Ok-Some-Run.ensures.some in
    c.run_disk.ensures.headline feed_tells held_tells (subst (λ (n : ℕ). TellsAll n (g.D.Disk.story c.args.disk)) (sym asks.given.sessions) tells)

pub returns-in-Ok-Some-Dump-clause-headline : goal.returns-in-Ok-Some-Dump-clause-headline
returns-in-Ok-Some-Dump-clause-headline g c = λ size also. absurd (not_run (texts c.args.words.now) size (read_some (texts c.args.words.now) c.in-Ok-Some-Dump.field-0 c.in-Ok-Some-Dump.field-0-0 Dump c.in-Ok-Some-Dump.field-0-is c.in-Ok-Some-Dump.field-0-0-is c.in-Ok-Some-Dump.ensures.some) also)

pub returns-in-Ok-None-clause-headline : goal.returns-in-Ok-None-clause-headline
returns-in-Ok-None-clause-headline g c = λ size also. absurd ((read_none (texts c.args.words.now) c.in-Ok-None.field-0 c.in-Ok-None.field-0-is c.in-Ok-None.ensures.none) (Run size) also)

pub returns-in-Err-clause-ends : goal.returns-in-Err-clause-ends
returns-in-Err-clause-ends g c = of_unread (texts c.args.words.now) c.unread.result.status (events_in c.unread.result.front.view) (g.D.Disk.story c.args.disk) (g.D.Disk.story c.unread.result.disk) (g.S.Source.feed c.args.source.now) (g.S.Source.feed c.args.source.now) (g.K.Sink.held c.args.sink.now) (g.K.Sink.held c.unread.new.sink)
    (record { source = g.S.Source.faults c.args.source.now; sink = g.K.Sink.faults c.args.sink.now; disk = g.D.Disk.faults c.args.disk }) (record { source = g.S.Source.faults c.args.source.now; sink = g.K.Sink.faults c.unread.new.sink; disk = g.D.Disk.faults c.unread.result.disk })
    refl refl c.unread.ensures

pub returns-in-Err-clause-headline : goal.returns-in-Err-clause-headline
returns-in-Err-clause-headline g c = λ size also feed_tells. c.unread.ensures.headline (g.S.Source.feed c.args.source.now)

-- ## A workload

pub returns-in-Ok-Some-Make-clause-ends : goal.returns-in-Ok-Some-Make-clause-ends
returns-in-Ok-Some-Make-clause-ends g c = of_make (texts c.args.words.now) c.make_disk.result.status (events_in c.make_disk.result.front.view) (g.D.Disk.story c.args.disk) (g.D.Disk.story c.make_disk.result.disk) (g.S.Source.feed c.args.source.now) (g.S.Source.feed c.args.source.now) (g.K.Sink.held c.args.sink.now) (g.K.Sink.held c.make_disk.new.sink)
    (record { source = g.S.Source.faults c.args.source.now; sink = g.K.Sink.faults c.args.sink.now; disk = g.D.Disk.faults c.args.disk }) (record { source = g.S.Source.faults c.args.source.now; sink = g.K.Sink.faults c.make_disk.new.sink; disk = g.D.Disk.faults c.make_disk.result.disk })
    c.in-Ok-Some-Make.workload (g.D.Disk.story c.make_disk.ensures.ends.0) (read_some (texts c.args.words.now) c.in-Ok-Some-Make.field-0 c.in-Ok-Some-Make.field-0-0 (Make c.in-Ok-Some-Make.workload) c.in-Ok-Some-Make.field-0-is c.in-Ok-Some-Make.field-0-0-is c.in-Ok-Some-Make.ensures.some) refl c.make_disk.ensures.ends.1 c.make_disk.ensures.cause_write_fault c.make_disk.ensures.cause_disk_fault

pub returns-in-Ok-Some-Make-clause-headline : goal.returns-in-Ok-Some-Make-clause-headline
returns-in-Ok-Some-Make-clause-headline g c = λ size also. absurd (no_run (texts c.args.words.now) size c.in-Ok-Some-Make.workload also (read_some (texts c.args.words.now) c.in-Ok-Some-Make.field-0 c.in-Ok-Some-Make.field-0-0 (Make c.in-Ok-Some-Make.workload) c.in-Ok-Some-Make.field-0-is c.in-Ok-Some-Make.field-0-0-is c.in-Ok-Some-Make.ensures.some))

pub returns-in-Ok-Some-Make-clause-make : goal.returns-in-Ok-Some-Make-clause-make
returns-in-Ok-Some-Make-clause-make g c = λ workload also.
    let ends = c.make_disk.ensures.ends in (
      ends.0,
      subst (λ (w : Workload). MakeEnds w c.make_disk.result.status (events_in c.make_disk.result.front.view) (g.D.Disk.story c.args.disk) (g.D.Disk.story ends.0) (g.D.Disk.story c.make_disk.result.disk) (g.K.Sink.held c.args.sink.now) (g.K.Sink.held c.make_disk.new.sink) (g.K.Sink.faults c.args.sink.now) (g.K.Sink.faults c.make_disk.new.sink))
          (same_workload (texts c.args.words.now) c.in-Ok-Some-Make.workload workload (read_some (texts c.args.words.now) c.in-Ok-Some-Make.field-0 c.in-Ok-Some-Make.field-0-0 (Make c.in-Ok-Some-Make.workload) c.in-Ok-Some-Make.field-0-is c.in-Ok-Some-Make.field-0-0-is c.in-Ok-Some-Make.ensures.some) also) ends.1,
    )

pub returns-in-Ok-Some-Format-clause-make : goal.returns-in-Ok-Some-Format-clause-make
returns-in-Ok-Some-Format-clause-make g c = λ workload also. absurd (no_format (texts c.args.words.now) c.in-Ok-Some-Format.shape workload (read_some (texts c.args.words.now) c.in-Ok-Some-Format.field-0 c.in-Ok-Some-Format.field-0-0 (Format c.in-Ok-Some-Format.shape) c.in-Ok-Some-Format.field-0-is c.in-Ok-Some-Format.field-0-0-is c.in-Ok-Some-Format.ensures.some) also)

pub returns-in-Ok-Some-Run-clause-make : goal.returns-in-Ok-Some-Run-clause-make
returns-in-Ok-Some-Run-clause-make g c = λ workload also. absurd (no_run (texts c.args.words.now) c.in-Ok-Some-Run.size workload (read_some (texts c.args.words.now) c.in-Ok-Some-Run.field-0 c.in-Ok-Some-Run.field-0-0 (Run c.in-Ok-Some-Run.size) c.in-Ok-Some-Run.field-0-is c.in-Ok-Some-Run.field-0-0-is c.in-Ok-Some-Run.ensures.some) also)

pub returns-in-Ok-Some-Dump-clause-make : goal.returns-in-Ok-Some-Dump-clause-make
returns-in-Ok-Some-Dump-clause-make g c = λ workload also. absurd (no_dump (texts c.args.words.now) workload (read_some (texts c.args.words.now) c.in-Ok-Some-Dump.field-0 c.in-Ok-Some-Dump.field-0-0 Dump c.in-Ok-Some-Dump.field-0-is c.in-Ok-Some-Dump.field-0-0-is c.in-Ok-Some-Dump.ensures.some) also)

pub returns-in-Ok-None-clause-make : goal.returns-in-Ok-None-clause-make
returns-in-Ok-None-clause-make g c = λ workload also. absurd ((read_none (texts c.args.words.now) c.in-Ok-None.field-0 c.in-Ok-None.field-0-is c.in-Ok-None.ensures.none) (Make workload) also)

pub returns-in-Err-clause-make : goal.returns-in-Err-clause-make
returns-in-Err-clause-make g c = λ workload also. (c.unread.result.disk, c.unread.ensures.make workload)
