use Rattle.std.proofs.Common.{ℕ, subst, arith}
use Rattle.page_model.specs.Needs.{key_at}
use Rattle.node_tree.proofs.PairLemmas.{pair_at}
use Rattle.script_lang.specs.Notices.{Notice}
use Rattle.lean_shell.specs.Lines.{IsPut, line_of}
use Rattle.lean_shell.proofs.Dumps.LeafLemmas.{skipped, told}
use Rattle.lean_shell.proofs.pairs.put_live.Goals as goal

pub returns-then-word-ge-TOMBSTONE-clause-put : goal.returns-then-word-ge-TOMBSTONE-clause-put
returns-then-word-ge-TOMBSTONE-clause-put g c =
    skipped (pair_at c.args.at c.args.leaf.now.node.pairs) (g.K.Sink.held c.args.sink.now) (g.K.Sink.faults c.args.sink.now) (g.D.Disk.story c.args.disk.now)
    (let is = c.word_at-word.ensures in let dead = c.if-word-ge-TOMBSTONE.true in omega arith)

pub returns-clause-put : goal.returns-clause-put
returns-clause-put g c =
    let held = g.K.Sink.held in
    let story = g.D.Disk.story in
    let pairs = c.args.leaf.now.node.pairs in
    told (pair_at c.args.at pairs) c.put_pair.result (held c.args.sink.now) (held c.put_pair.new.sink) (g.K.Sink.faults c.args.sink.now) (g.K.Sink.faults c.put_pair.new.sink) (story c.args.disk.now) (story c.put_pair.new.disk)
    (let is = c.word_at-word.ensures in let live = c.if-word-ge-TOMBSTONE.false in omega arith)
    (subst (λ (w : ℕ). IsPut (line_of (Notice.Pair (key_at c.args.at pairs) w)) c.put_pair.result (held c.args.sink.now) (held c.put_pair.new.sink) (story c.args.disk.now) (story c.put_pair.new.disk)) c.word_at-word.ensures
    (subst (λ (k : ℕ). IsPut (line_of (Notice.Pair k c.word_at-word.result)) c.put_pair.result (held c.args.sink.now) (held c.put_pair.new.sink) (story c.args.disk.now) (story c.put_pair.new.disk)) c.key_at.ensures c.put_pair.ensures.put))
    c.put_pair.ensures.cause
