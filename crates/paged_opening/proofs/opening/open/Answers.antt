use Rattle.paged_opening.proofs.MirrorLemmas.{mirrored}
use Rattle.paged_opening.proofs.opening.open.Goals as goal

pub returns-clause-mirrors : goal.returns-clause-mirrors
returns-clause-mirrors g c =
    let story = g.D.Disk.story in
    let r = c.in-Ok.ensures in
    mirrored c.every_whole.ensures c.args.frames c.args.locks c.args.sessions (story c.args.disk.now) (story c.recover.new.disk) _ (record {
      recovered = c.in-Ok.recovered;
      is = record { answer = r.answer; opened = r.opened; installed = r.installed; slots = r.slots; whole = r.whole; few = r.few; sequence = r.sequence; beyond = r.beyond };
      paged = c.in-Ok-page_in.ensures;
    })
