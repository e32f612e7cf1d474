use Rattle.std.proofs.Common.{◌∙◌, Err, ap, refl}
use Rattle.checkpointer.proofs.GoingLemmas.{fails_looked, going_looked, incremented, settle_fails, stops_looked}
use Rattle.checkpointer.proofs.increment.increment.Goals as goal

pub returns-in-Err-RowSpent-clause-stopped : goal.returns-in-Err-RowSpent-clause-stopped
returns-in-Err-RowSpent-clause-stopped g c = λ spent o h.
    let l = c.above.ensures.looked in
    stops_looked o (g.S.Saver.front c.args.saver.now) (g.S.Saver.front c.above.new.saver) (g.S.Saver.knows c.args.saver.now) (g.S.Saver.knows c.above.new.saver) (g.P.Part.story c.args.dev.now) (g.P.Part.story c.save_shard.new.dev) l.front l.knows
    (g.S.Saver.front c.save_shard.new.saver) (g.S.Saver.knows c.save_shard.new.saver)
    (c.save_shard.ensures.stopped (c.in-Err-RowSpent.is ∙ ap (λ x. Err x) c.in-Err-RowSpent.field-0-is) o ((l.opens o).0 h))

pub returns-in-Err-DiskFault-clause-failed : goal.returns-in-Err-DiskFault-clause-failed
returns-in-Err-DiskFault-clause-failed g c = λ failed o h.
    let l = c.above.ensures.looked in
    fails_looked o (g.S.Saver.front c.args.saver.now) (g.S.Saver.front c.above.new.saver) (g.S.Saver.knows c.args.saver.now) (g.S.Saver.knows c.above.new.saver) (g.P.Part.story c.args.dev.now) (g.P.Part.story c.save_shard.new.dev) l.front l.knows
    (c.in-Err-DiskFault.ensures.failed refl o ((l.opens o).0 h))

pub returns-in-Ok-settle-clause-saved : goal.returns-in-Ok-settle-clause-saved
returns-in-Ok-settle-clause-saved g c = λ o h.
    let es = g.S.Saver.front c.args.saver.now in
    let mid = g.S.Saver.front c.save_shard.new.saver in
    let P = g.S.Saver.knows c.args.saver.now in
    let Q = g.S.Saver.knows c.save_shard.new.saver in
    let s0 = g.P.Part.story c.args.dev.now in
    let s1 = g.P.Part.story c.save_shard.new.dev in
    let l = c.above.ensures.looked in
    let h1 = (l.opens o).0 h in
    let h2 = (c.save_shard.ensures.opens o).0 h1 in
    incremented c.every_change.ensures c.every_cover.ensures o es mid (g.S.Saver.front c.settle.new.self) c.args.shard c.args.floor P Q (g.S.Saver.knows c.settle.new.self) s0 s1 (g.P.Part.story c.settle.new.dev) c.requires.shard (c.requires.floor o h)
    (going_looked o es (g.S.Saver.front c.above.new.saver) P (g.S.Saver.knows c.above.new.saver) s0 s1 l.front l.knows mid c.args.shard (λ _. Unit {0}) Q (c.in-Ok.ensures.going o h1))
    (c.in-Ok-settle.ensures.settled o h2) (c.settle.ensures.keeps o h2)

pub returns-in-Err-clause-failed : goal.returns-in-Err-clause-failed
returns-in-Err-clause-failed g c = λ failed o h.
    let es = g.S.Saver.front c.args.saver.now in
    let mid = g.S.Saver.front c.save_shard.new.saver in
    let P = g.S.Saver.knows c.args.saver.now in
    let Q = g.S.Saver.knows c.save_shard.new.saver in
    let s0 = g.P.Part.story c.args.dev.now in
    let s1 = g.P.Part.story c.save_shard.new.dev in
    let l = c.above.ensures.looked in
    let h1 = (l.opens o).0 h in
    settle_fails o es mid c.args.shard P Q s0 s1 (g.P.Part.story c.settle.new.dev)
    (going_looked o es (g.S.Saver.front c.above.new.saver) P (g.S.Saver.knows c.above.new.saver) s0 s1 l.front l.knows mid c.args.shard (λ _. Unit {0}) Q (c.in-Ok.ensures.going o h1))
    (c.settle.ensures.keeps o ((c.save_shard.ensures.opens o).0 h1))
