use Rattle.std.proofs.Common.{sym, ◌∙◌}
use Rattle.std.proofs.lemmas.Bool.{true≢false}
use Rattle.lean_disk.specs.Story.{Tells}
use Rattle.disk_format.specs.Formatted.{HasMaster}
use Rattle.disk_format.proofs.ComposeLemmas.{read_moments, pages_moments, all_moments, new_disk}
use Rattle.disk_format.proofs.new_disk.format.Goals as goal

pub returns-in_default-clause-any_moment : goal.returns-in_default-clause-any_moment
returns-in_default-clause-any_moment g c = read_moments c.args.shape (g.D.Disk.story c.args.disk.now) (g.D.Disk.story c.disk_has_master.new.disk) c.disk_has_master.ensures.reads

pub returns-then-found-clause-any_moment : goal.returns-then-found-clause-any_moment
returns-then-found-clause-any_moment g c = read_moments c.args.shape (g.D.Disk.story c.args.disk.now) (g.D.Disk.story c.disk_has_master.new.disk) c.disk_has_master.ensures.reads

pub returns-in_default-lay_disk_pages-clause-any_moment : goal.returns-in_default-lay_disk_pages-clause-any_moment
returns-in_default-lay_disk_pages-clause-any_moment g c =
    let s0 = g.D.Disk.story c.args.disk.now in
    let s1 = g.D.Disk.story c.disk_has_master.new.disk in
    let s2 = g.D.Disk.story c.lay_disk_pages.new.disk in
    let none : Tells s0 0 → HasMaster (s0.area 0).bytes → ⊥ = λ told has. true≢false (sym (((c.in-Ok.ensures).answer told).1 has) ∙ c.if-found.false) in
    pages_moments c.args.shape s0 s1 c.disk_has_master.ensures.reads c.requires.workers none s2 c.lay_disk_pages.ensures.any_moment c.lay_disk_pages.ensures.frame

pub returns-in_default-write_disk_master-clause-any_moment : goal.returns-in_default-write_disk_master-clause-any_moment
returns-in_default-write_disk_master-clause-any_moment g c =
    let s0 = g.D.Disk.story c.args.disk.now in
    let s1 = g.D.Disk.story c.disk_has_master.new.disk in
    let s2 = g.D.Disk.story c.lay_disk_pages.new.disk in
    let s3 = g.D.Disk.story c.write_disk_master.new.disk in
    let none : Tells s0 0 → HasMaster (s0.area 0).bytes → ⊥ = λ told has. true≢false (sym (((c.in-Ok.ensures).answer told).1 has) ∙ c.if-found.false) in
    all_moments c.args.shape s0 s1 c.disk_has_master.ensures.reads c.requires.workers none s2 c.lay_disk_pages.ensures.any_moment c.lay_disk_pages.ensures.frame (c.lay_disk_pages.ensures.done c.in-Done.is) s3 c.write_disk_master.ensures.any_moment c.write_disk_master.ensures.frame

pub returns-clause-after : goal.returns-clause-after
returns-clause-after g c = λ done.
    let s0 = g.D.Disk.story c.args.disk.now in
    let s1 = g.D.Disk.story c.disk_has_master.new.disk in
    let s2 = g.D.Disk.story c.lay_disk_pages.new.disk in
    let s3 = g.D.Disk.story c.write_disk_master.new.disk in
    let none : Tells s0 0 → HasMaster (s0.area 0).bytes → ⊥ = λ told has. true≢false (sym (((c.in-Ok.ensures).answer told).1 has) ∙ c.if-found.false) in
    new_disk c.args.shape s0 s1 c.disk_has_master.ensures.reads c.requires.workers none s2 c.lay_disk_pages.ensures.any_moment c.lay_disk_pages.ensures.frame (c.lay_disk_pages.ensures.done c.in-Done.is) s3 c.write_disk_master.ensures.any_moment c.write_disk_master.ensures.frame
    (c.write_disk_master.ensures.done (c.in-Done-write_disk_master).is)

pub returns-clause-no_master : goal.returns-clause-no_master
returns-clause-no_master g c = λ done told has. true≢false (sym (((c.in-Ok.ensures).answer told).1 has) ∙ c.if-found.false)

pub returns-clause-any_moment : goal.returns-clause-any_moment
returns-clause-any_moment g c =
    let s0 = g.D.Disk.story c.args.disk.now in
    let s1 = g.D.Disk.story c.disk_has_master.new.disk in
    let s2 = g.D.Disk.story c.lay_disk_pages.new.disk in
    let s3 = g.D.Disk.story c.write_disk_master.new.disk in
    let none : Tells s0 0 → HasMaster (s0.area 0).bytes → ⊥ = λ told has. true≢false (sym (((c.in-Ok.ensures).answer told).1 has) ∙ c.if-found.false) in
    all_moments c.args.shape s0 s1 c.disk_has_master.ensures.reads c.requires.workers none s2 c.lay_disk_pages.ensures.any_moment c.lay_disk_pages.ensures.frame (c.lay_disk_pages.ensures.done c.in-Done.is) s3 c.write_disk_master.ensures.any_moment c.write_disk_master.ensures.frame
