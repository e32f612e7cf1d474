use Rattle.std.proofs.Common.{◌∙◌, Err, ap, refl, sym, true, true≢false}
use Rattle.page_provider.specs.Providers.{Provider}
use Rattle.page_provider.proofs.Fetched.{altered, was_read}
use Rattle.page_provider.proofs.Reading.{altered_unlike, came_unlike, damaged, damaged_unlike, lost_unlike, reads_well}
use Rattle.page_provider.proofs.Mirrored.{read_keeps}
use Rattle.page_provider.proofs.Framing.{framed_reads}
use Rattle.page_provider.proofs.Parts.{cause_for, cause_to}
use Rattle.page_provider.proofs.pager.Pager.read.Goals as goal

pub returns-then-is_as_kept-clause-disk : goal.returns-then-is_as_kept-clause-disk
returns-then-is_as_kept-clause-disk g c = reads_well c.self.view_is refl refl c.in-Ok.ensures.any_moment c.in-Ok.ensures.stands

pub returns-else-is_as_kept-clause-disk : goal.returns-else-is_as_kept-clause-disk
returns-else-is_as_kept-clause-disk g c = reads_well c.self.view_is refl refl c.in-Ok.ensures.any_moment c.in-Ok.ensures.stands

pub returns-in-Err-DiskFault-clause-disk : goal.returns-in-Err-DiskFault-clause-disk
returns-in-Err-DiskFault-clause-disk g c = reads_well c.self.view_is refl refl c.in-Err-DiskFault.ensures.any_moment c.in-Err-DiskFault.ensures.stands

pub returns-in-Err-Damaged-clause-disk : goal.returns-in-Err-Damaged-clause-disk
returns-in-Err-Damaged-clause-disk g c = reads_well c.self.view_is refl refl c.in-Err-Damaged.ensures.any_moment c.in-Err-Damaged.ensures.stands

pub returns-then-is_as_kept-clause-mirrors : goal.returns-then-is_as_kept-clause-mirrors
returns-then-is_as_kept-clause-mirrors g c = read_keeps c.self.view_is refl c.in-Ok.ensures.mirrors

pub returns-else-is_as_kept-clause-mirrors : goal.returns-else-is_as_kept-clause-mirrors
returns-else-is_as_kept-clause-mirrors g c = read_keeps c.self.view_is refl c.in-Ok.ensures.mirrors

pub returns-in-Err-DiskFault-clause-mirrors : goal.returns-in-Err-DiskFault-clause-mirrors
returns-in-Err-DiskFault-clause-mirrors g c = read_keeps c.self.view_is refl c.in-Err-DiskFault.ensures.mirrors

pub returns-in-Err-Damaged-clause-mirrors : goal.returns-in-Err-Damaged-clause-mirrors
returns-in-Err-Damaged-clause-mirrors g c = read_keeps c.self.view_is refl c.in-Err-Damaged.ensures.mirrors

pub returns-then-is_as_kept-clause-frame : goal.returns-then-is_as_kept-clause-frame
returns-then-is_as_kept-clause-frame g c = framed_reads c.in-Ok.ensures.reads

pub returns-else-is_as_kept-clause-frame : goal.returns-else-is_as_kept-clause-frame
returns-else-is_as_kept-clause-frame g c = framed_reads c.in-Ok.ensures.reads

pub returns-in-Err-DiskFault-clause-frame : goal.returns-in-Err-DiskFault-clause-frame
returns-in-Err-DiskFault-clause-frame g c = framed_reads c.in-Err-DiskFault.ensures.reads

pub returns-in-Err-Damaged-clause-frame : goal.returns-in-Err-Damaged-clause-frame
returns-in-Err-Damaged-clause-frame g c = framed_reads c.in-Err-Damaged.ensures.reads

pub returns-then-is_as_kept-clause-ok : goal.returns-then-is_as_kept-clause-ok
returns-then-is_as_kept-clause-ok g c = was_read c.self.view_is c.in-Ok.ensures.own c.in-Ok.ensures.given (c.is_as_kept.ensures.0 c.if-is_as_kept.true)

pub returns-else-is_as_kept-clause-err : goal.returns-else-is_as_kept-clause-err
returns-else-is_as_kept-clause-err g c = record {
  memory = ap (λ (p : Provider). record p { broken = true }) c.self.view_is;
  cause = (refl, altered c.self.view_is c.in-Ok.ensures.given (λ k. true≢false (sym (c.is_as_kept.ensures.1 k) ∙ c.if-is_as_kept.false)));
}

pub returns-then-is_as_kept-clause-cause : goal.returns-then-is_as_kept-clause-cause
returns-then-is_as_kept-clause-cause g c = cause_to c.in-Ok.ensures.cause_disk_fault (λ e. came_unlike _ refl e) (λ e. came_unlike _ refl e)

pub returns-else-is_as_kept-clause-cause : goal.returns-else-is_as_kept-clause-cause
returns-else-is_as_kept-clause-cause g c = cause_to c.in-Ok.ensures.cause_disk_fault (λ e. came_unlike _ refl e) (λ e. altered_unlike _ refl e)

pub returns-in-Err-DiskFault-clause-cause : goal.returns-in-Err-DiskFault-clause-cause
returns-in-Err-DiskFault-clause-cause g c = cause_for c.in-Err-DiskFault.ensures.cause_disk_fault (ap (λ l. Err l) c.in-Err-DiskFault.field-0-is) refl

pub returns-in-Err-Damaged-clause-cause : goal.returns-in-Err-Damaged-clause-cause
returns-in-Err-Damaged-clause-cause g c = cause_to c.in-Err-Damaged.ensures.cause_disk_fault (λ e. lost_unlike _ refl c.in-Err-Damaged.field-0-is e) (λ e. damaged_unlike _ refl e)

pub returns-in-Err-DiskFault-clause-err : goal.returns-in-Err-DiskFault-clause-err
returns-in-Err-DiskFault-clause-err g c = record { memory = ap (λ (p : Provider). record p { broken = true }) c.self.view_is; cause = tt }

pub returns-then-is_as_kept-clause-reads : goal.returns-then-is_as_kept-clause-reads
returns-then-is_as_kept-clause-reads g c = c.in-Ok.ensures.reads

pub returns-else-is_as_kept-clause-reads : goal.returns-else-is_as_kept-clause-reads
returns-else-is_as_kept-clause-reads g c = c.in-Ok.ensures.reads

pub returns-in-Err-DiskFault-clause-reads : goal.returns-in-Err-DiskFault-clause-reads
returns-in-Err-DiskFault-clause-reads g c = c.in-Err-DiskFault.ensures.reads

pub returns-in-Err-Damaged-clause-reads : goal.returns-in-Err-Damaged-clause-reads
returns-in-Err-Damaged-clause-reads g c = c.in-Err-Damaged.ensures.reads

pub returns-in-Err-Damaged-clause-err : goal.returns-in-Err-Damaged-clause-err
returns-in-Err-Damaged-clause-err g c =
    let k = c.in-Err-Damaged in
    record {
      memory = ap (λ (p : Provider). record p { broken = true }) c.self.view_is;
      cause = damaged (g.P.Part.story c.args.dev.now) c.self.view_is (k.ensures.cause_damaged k.counts k.other (ap (λ l. Err l) k.field-0-is));
    }

pub returns-then-is_as_kept-clause-seat : goal.returns-then-is_as_kept-clause-seat
returns-then-is_as_kept-clause-seat g c = c.in-Ok.ensures.seat

pub returns-else-is_as_kept-clause-seat : goal.returns-else-is_as_kept-clause-seat
returns-else-is_as_kept-clause-seat g c = c.in-Ok.ensures.seat

pub returns-in-Err-DiskFault-clause-seat : goal.returns-in-Err-DiskFault-clause-seat
returns-in-Err-DiskFault-clause-seat g c = c.in-Err-DiskFault.ensures.seat

pub returns-in-Err-Damaged-clause-seat : goal.returns-in-Err-Damaged-clause-seat
returns-in-Err-Damaged-clause-seat g c = c.in-Err-Damaged.ensures.seat
