use Rattle.std.proofs.Common.{◌≡◌, ◌∙◌, ◌*◌, ◌≤◌, IfErr, arith, ap, length, refl, subst, sym, true}
use Rattle.lean_disk.specs.Moments.{Framed}
use Rattle.desk_parts.specs.page_calls.Calls.{KeepsWithin}
use Rattle.desk_parts.specs.page_provider.Disks.{Disked}
use Rattle.paged_rows.specs.Paged.{paged}
use Rattle.paged_rows.specs.Warms.{LostTo, ReadsUnlessSaved}
use Rattle.desk_parts.specs.row_words.declared.given.Given.{Given}
use Rattle.desk_parts.specs.row_words.Openings.{opening}
use Rattle.desk_parts.specs.session_state.Opened.{plain_shape}
use Rattle.paged_desks.specs.Machines.{pages, view_of}
use Rattle.paged_desks.specs.Pages.{IsTightFor}
use Rattle.paged_desks.specs.declared.machine.PagedMachine.{PagedMachine}
use Rattle.paged_desks.proofs.Breaking.{broken_by, broken_up}
use Rattle.paged_desks.proofs.Doing.{done_by, done_up, slots_on}
use Rattle.paged_desks.proofs.Late.{late_err}
use Rattle.paged_desks.proofs.Losses.{away_err}
use Rattle.paged_desks.proofs.Standing.{ready_on}
use Rattle.paged_desks.proofs.Warmth.{moved_of, paged_is}
use Rattle.paged_desks.proofs.machine.PagedMachine.bring.Goals as goal

pub bring_wanted-came-requires-clause-paged : goal.bring_wanted-came-requires-clause-paged
bring_wanted-came-requires-clause-paged g c = paged_is c.requires.ready

pub returns-clause-ready : goal.returns-clause-ready
returns-clause-ready g c well =
    let m = c.args.self.now in
    let q = paged (plain_shape c.bring_wanted-came.new.rows.frames c.bring_wanted-came.new.rows.locks c.bring_wanted-came.new.rows.workers) c.bring_wanted-came.new.seat.view c.bring_wanted-came.new.pager in
    let n : PagedMachine g.row.D.Denot = record { machine = record m.machine { rows = c.bring_wanted-came.new.rows; seat = c.bring_wanted-came.new.seat; work = record m.machine.work { disk = c.bring_wanted-came.new.dev.disk.now } }; pager = c.bring_wanted-came.new.pager } in
    let moved = moved_of c.args.key c.args.wanted (pages m) q c.bring_wanted-came.result c.bring_wanted-came.ensures.ok c.bring_wanted-came.ensures.err in
    let old : length m.pager.slots ≡ length m.pager.free = sym c.pages.ensures.slots ∙ c.pages.ensures.free in
    let new : length c.bring_wanted-came.new.pager.slots ≡ length c.bring_wanted-came.new.pager.free = sym c.pages-2.ensures.slots ∙ c.pages-2.ensures.free in
    let format = ap (λ (v : Given). (opening v).format.pages) moved.2.goes.ran.given in
    let one = c.requires.ready.keeps.pages in
    let two = c.bring_wanted-came.ensures.paged.keeps.pages in
    let each : length c.bring_wanted-came.new.pager.slots ≡ length m.pager.slots = new ∙ (two ∙ (format ∙ (sym one ∙ sym old))) in
    ready_on g.D.Disk.story m n c.laws.ensures.sequel c.requires.ready (record { shape = c.bring_wanted-came.ensures.fits.1; session = refl; log = refl; desks = refl; latches = refl; master = refl }) moved.2 c.bring_wanted-came.ensures.fits.0 c.bring_wanted-came.ensures.paged well (c.bring_wanted-came.ensures.fed well)
    (slots_on g.D.Disk.story m n c.requires.ready (record { shape = c.bring_wanted-came.ensures.fits.1; session = refl; log = refl; desks = refl; latches = refl; master = refl }) moved.2 (c.every_disk_part.ensures.pages m.machine.work.disk c.bring_wanted-came.new.dev.disk.now) each)

pub returns-clause-done : goal.returns-clause-done
returns-clause-done g c well =
    let m = c.args.self.now in
    let q = paged (plain_shape c.bring_wanted-came.new.rows.frames c.bring_wanted-came.new.rows.locks c.bring_wanted-came.new.rows.workers) c.bring_wanted-came.new.seat.view c.bring_wanted-came.new.pager in
    let l = c.laws.ensures in
    let n : PagedMachine g.row.D.Denot = record { machine = record m.machine { rows = c.bring_wanted-came.new.rows; seat = c.bring_wanted-came.new.seat; work = record m.machine.work { disk = c.bring_wanted-came.new.dev.disk.now } }; pager = c.bring_wanted-came.new.pager } in
    let moved = moved_of c.args.key c.args.wanted (pages m) q c.bring_wanted-came.result c.bring_wanted-came.ensures.ok c.bring_wanted-came.ensures.err in
    let few : 3 * moved.0 ≤ 15 = (let x = moved.1 in omega arith) in
    done_up few
    (done_by g.D.Disk.story m n c.requires.ready (record { shape = c.bring_wanted-came.ensures.fits.1; session = refl; log = refl; desks = refl; latches = refl; master = refl }) moved.2 (c.every_disk_part.ensures.pages m.machine.work.disk c.bring_wanted-came.new.dev.disk.now) (IsTightFor c.args.wanted c.args.key) l.reached l.needs l.few l.sequel
    (record {
      disk = subst (λ d. Disked true m.pager (view_of m) n.pager (view_of n) (g.D.Disk.story d) (g.D.Disk.story n.machine.work.disk)) c.new.ensures.disk c.bring_wanted-came.ensures.disk;
      stays = record {
        frame = subst (λ d. Framed 1 (g.D.Disk.story d) (g.D.Disk.story n.machine.work.disk)) c.new.ensures.disk c.bring_wanted-came.ensures.frame;
        within = subst (λ d. KeepsWithin (g.D.Disk.story d) (g.D.Disk.story n.machine.work.disk)) c.new.ensures.disk c.bring_wanted-came.ensures.within;
      };
      reads = subst (λ d. ReadsUnlessSaved (pages m) (pages n) (g.D.Disk.story d) (g.D.Disk.story n.machine.work.disk)) c.new.ensures.disk c.bring_wanted-came.ensures.reads;
    }) well)

pub returns-clause-broke : goal.returns-clause-broke
returns-clause-broke g c _ =
    let m = c.args.self.now in
    let q = paged (plain_shape c.bring_wanted-came.new.rows.frames c.bring_wanted-came.new.rows.locks c.bring_wanted-came.new.rows.workers) c.bring_wanted-came.new.seat.view c.bring_wanted-came.new.pager in
    let l = c.laws.ensures in
    let n : PagedMachine g.row.D.Denot = record { machine = record m.machine { rows = c.bring_wanted-came.new.rows; seat = c.bring_wanted-came.new.seat; work = record m.machine.work { disk = c.bring_wanted-came.new.dev.disk.now } }; pager = c.bring_wanted-came.new.pager } in
    let moved = moved_of c.args.key c.args.wanted (pages m) q c.bring_wanted-came.result c.bring_wanted-came.ensures.ok c.bring_wanted-came.ensures.err in
    let few : 3 * moved.0 ≤ 15 = (let x = moved.1 in omega arith) in
    broken_up few
    (broken_by g.D.Disk.story m n c.requires.ready (record { shape = c.bring_wanted-came.ensures.fits.1; session = refl; log = refl; desks = refl; latches = refl; master = refl }) moved.2 (c.every_disk_part.ensures.pages m.machine.work.disk c.bring_wanted-came.new.dev.disk.now) l.few
    (record {
      disk = subst (λ d. Disked true m.pager (view_of m) n.pager (view_of n) (g.D.Disk.story d) (g.D.Disk.story n.machine.work.disk)) c.new.ensures.disk c.bring_wanted-came.ensures.disk;
      stays = record {
        frame = subst (λ d. Framed 1 (g.D.Disk.story d) (g.D.Disk.story n.machine.work.disk)) c.new.ensures.disk c.bring_wanted-came.ensures.frame;
        within = subst (λ d. KeepsWithin (g.D.Disk.story d) (g.D.Disk.story n.machine.work.disk)) c.new.ensures.disk c.bring_wanted-came.ensures.within;
      };
      reads = subst (λ d. ReadsUnlessSaved (pages m) (pages n) (g.D.Disk.story d) (g.D.Disk.story n.machine.work.disk)) c.new.ensures.disk c.bring_wanted-came.ensures.reads;
    }) c.bring_wanted-came.ensures.fits.0)

pub returns-clause-late : goal.returns-clause-late
returns-clause-late g c =
    let q = paged (plain_shape c.bring_wanted-came.new.rows.frames c.bring_wanted-came.new.rows.locks c.bring_wanted-came.new.rows.workers) c.bring_wanted-came.new.seat.view c.bring_wanted-came.new.pager in
    late_err c.every_low.ensures c.args.key c.args.wanted (pages c.args.self.now) q c.versions.ensures.low c.bring_wanted-came.result c.bring_wanted-came.ensures.err

pub returns-clause-away : goal.returns-clause-away
returns-clause-away g c =
    let m = c.args.self.now in
    let s = g.D.Disk.story in
    let lost : IfErr c.bring_wanted-came.result (LostTo (pages m) (s m.machine.work.disk)) = subst (λ d. IfErr c.bring_wanted-came.result (LostTo (pages m) (s d))) c.new.ensures.disk c.bring_wanted-came.ensures.lost in
    away_err s m c.requires.ready (c.every_found.ensures m.machine.work.disk) c.bring_wanted-came.result lost
