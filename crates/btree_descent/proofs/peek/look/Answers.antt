use Rattle.std.proofs.Common.{◌∙◌, ap, sym, subst, [], ◌∷◌}
use Rattle.lean_proto.specs.row_words.declared.event.Event.TheVariants.{Peek, Miss}
use Rattle.lean_proto.specs.rows_trait.Views.{Shape, may, state}
use Rattle.lean_proto.proofs.rows_trait.Causes.{found_after}
use Rattle.lean_proto.proofs.version_latch.Keeping.{looked_after, may_ran, may_shape}
use Rattle.btree_descent.specs.Named.{peek_at}
use Rattle.btree_descent.specs.Known.{Says}
use Rattle.btree_descent.specs.Peeks.{Went, Caused, IsSettled}
use Rattle.btree_descent.specs.declared.peek.Peeked.{Peeked}
use Rattle.btree_descent.proofs.Calls.{sound_after, frames_after}
use Rattle.btree_descent.proofs.Nodes.{leaf_in, leaf_says}
use Rattle.btree_descent.proofs.Pasts.{passed}
use Rattle.btree_descent.proofs.Peeking.{peek_silent, peek_same, peek_other, peek_met, went_saw, caused_saw, settled_saw}
use Rattle.btree_descent.proofs.Ways.{head_after}
use Rattle.btree_descent.proofs.peek.look.Goals as goal

pub check-requires-clause-event : goal.check-requires-clause-event
check-requires-clause-event g c n =
    let y = g.R.Rows.shape c.args.rows.now in
    let v = g.R.Rows.view c.args.seat.now in
    let u = g.R.Rows.view c.entry.new.seat in
    let z = g.R.Rows.shape c.entry.new.rows in
    let leaf = c.args.leaf.now in
    peek_silent (may z.alone u) u.given c.args.worker leaf.head.page c.args.key c.said-value.result leaf.glimpse.version n
    (may_shape z y u c.args.worker c.entry.ensures.fits.1 (may_ran y.alone v u [] c.args.worker c.entry.ensures.kept.ran c.requires.leaf.on.actor))

pub returns-in-Ok-clause-went : goal.returns-in-Ok-clause-went
returns-in-Ok-clause-went g c =
    let y = g.R.Rows.shape c.args.rows.now in
    let v = g.R.Rows.view c.args.seat.now in
    let u = g.R.Rows.view c.entry.new.seat in
    let z = g.R.Rows.shape c.entry.new.rows in
    let w = g.R.Rows.view c.check.new.seat in
    let l = c.requires.leaf in
    let row = c.args.leaf.now.glimpse.row in
    let version = c.args.leaf.now.glimpse.version in
    let h = c.args.leaf.now.head in
    let kept = c.entry.ensures.kept in
    let a = c.said-value.result in
    let e = Peek c.args.worker h.page c.args.key a in
    let names = peek_at c.args.worker h.page c.args.key a version in
    let did = passed z y row version names v u w e c.entry.ensures.fits.1 kept.ran c.in-Ok.ensures.ok (peek_same c.args.worker h.page c.args.key a version) (may_ran y.alone v u [] c.args.worker kept.ran l.on.actor) in
    let leaf = leaf_in w.given (state w) row version c.args.key h u.steps (frames_after y v w c.args.frames row did.ran.given l.on.sized l.on.within) (sound_after v w did.ran.given l.on.sound) (λ i k small kn. c.in-Ok.ensures.valid i k kn)
    (head_after row version h v u kept.knows l.head) l.node l.level in
    let says = subst (Says w.given (state w) h.page c.args.key) (sym c.said-value.ensures) (leaf_says w.given (state w) row version c.args.key h c.entry.result u.steps leaf c.entry.ensures.entry) in
    subst (λ (p : Peeked). Went y.alone c.args.worker c.args.key v p w) (sym c.seen_as.ensures) (went_saw y.alone c.args.worker c.args.key a v w record {
      page = h.page;
      past = did.past;
      onward = did.onward;
      ran = did.ran;
      seen = did.seen;
      met = peek_met w did.past c.args.worker h.page c.args.key a did.seen says;
      says = says;
    })

pub returns-in-Ok-clause-cause : goal.returns-in-Ok-clause-cause
returns-in-Ok-clause-cause g c u f = subst (λ (p : Peeked). Caused u p (g.R.Rows.view c.check.new.seat)) (sym c.seen_as.ensures) (caused_saw c.said-value.result u (g.R.Rows.view c.check.new.seat))

pub returns-in-Ok-clause-quiet : goal.returns-in-Ok-clause-quiet
returns-in-Ok-clause-quiet g c alone last = subst IsSettled (sym c.seen_as.ensures) (settled_saw c.said-value.result)

pub returns-in-Err-clause-went : goal.returns-in-Err-clause-went
returns-in-Err-clause-went g c =
    let y = g.R.Rows.shape c.args.rows.now in
    let v = g.R.Rows.view c.args.seat.now in
    let u = g.R.Rows.view c.entry.new.seat in
    let z = g.R.Rows.shape c.entry.new.rows in
    let w = g.R.Rows.view c.check.new.seat in
    let h = c.args.leaf.now.head in
    let glimpse = c.args.leaf.now.glimpse in
    let kept = c.entry.ensures.kept in
    let e = c.in-Err.ensures.err in
    looked_after z y glimpse.row c.in-Err.moved.found (peek_at c.args.worker h.page c.args.key c.said-value.result glimpse.version) v u w (Miss c.args.worker ∷ []) c.entry.ensures.fits.1 kept.ran e.3
    (peek_other c.args.worker h.page c.args.key c.said-value.result glimpse.version c.in-Err.moved.found (λ q. e.2 (q ∙ sym e.1))) (may_ran y.alone v u [] c.args.worker kept.ran c.requires.leaf.on.actor, tt)

pub returns-in-Err-clause-cause : goal.returns-in-Err-clause-cause
returns-in-Err-clause-cause g c a f =
    let v = g.R.Rows.view c.args.seat.now in
    let u = g.R.Rows.view c.entry.new.seat in
    let glimpse = c.args.leaf.now.glimpse in
    c.in-Err.ensures.cause a (found_after glimpse.row glimpse.version a v u f c.entry.ensures.kept.loads)

pub returns-in-Err-clause-quiet : goal.returns-in-Err-clause-quiet
returns-in-Err-clause-quiet g c alone last =
    let glimpse = c.args.leaf.now.glimpse in
    let kept = c.entry.ensures.kept in
    let e = c.in-Err.ensures.err in
    e.2 (e.3.steady (ap (λ (s : Shape). s.alone) c.entry.ensures.fits.1 ∙ alone) glimpse.version (kept.latest glimpse.row ∙ last) ∙ sym e.1)
