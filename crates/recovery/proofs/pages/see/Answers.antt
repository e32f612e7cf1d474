use Rattle.std.proofs.Common.{◌≡◌, ◌∙◌, ap, subst}
use Rattle.lean_disk.specs.Area.{Area}
use Rattle.lean_disk.specs.Story.{areas_of}
use Rattle.lean_disk.proofs.MomentLemmas.{reads_then}
use Rattle.master_store.specs.disk_image.Shown.{Areas}
use Rattle.master_store.specs.page_store.Bases.{IsAhead}
use Rattle.recovery.specs.Inside.{IsStray}
use Rattle.recovery.proofs.PrepareLemmas.{same_areas}
use Rattle.recovery.proofs.pages.see.Goals as goal

pub returns-clause-stray : goal.returns-clause-stray
returns-clause-stray g c told =
    let story = g.P.Part.story in
    let s0 = story c.args.dev.now in
    let s1 = story c.fetch_seen.new.dev in
    let m = c.args.master.now in
    let reads = c.fetch_seen.ensures.reads in
    let seen = c.in-Ok.seen in
    let same : areas_of s1 ≡ areas_of s0 = same_areas s0 s1 (λ a. ap (λ (x : Area). x.bytes) (reads.area a)) in
    subst (λ (x : Areas). IsAhead m c.args.page x seen.base.slot seen.ahead → IsStray m c.args.page x seen.base c.in-Ok-is_stray.stray) same
    (c.in-Ok-is_stray.ensures.answer (reads.tells 1 ∙ told)) (c.in-Ok.ensures.ahead told)

pub returns-clause-reads : goal.returns-clause-reads
returns-clause-reads g c = reads_then (g.P.Part.story c.args.dev.now) (g.P.Part.story c.fetch_seen.new.dev) (g.P.Part.story c.is_stray.new.dev) c.fetch_seen.ensures.reads c.is_stray.ensures.reads
