use Rattle.std.proofs.Common.{◌∙◌, sym, subst}
use Rattle.btree_descent.specs.row_words.declared.event.Event.TheVariants.{Load}
use Rattle.page_provider.specs.Comes.{ComesOrNot}
use Rattle.page_provider.proofs.Filling.{lost_once}
use Rattle.page_provider.proofs.Placing.{halts_unseen}
use Rattle.page_provider.proofs.pager.Pager.fill.Goals as goal

pub returns-in_err-fill_free_page-clause-unseen : goal.returns-in_err-fill_free_page-clause-unseen
returns-in_err-fill_free_page-clause-unseen g c = halts_unseen c.in_err-fill_free_page.ensures.same c.in_err-fill_free_page.ensures.err

pub returns-then-not-is_live-clause-ok : goal.returns-then-not-is_live-clause-ok
returns-then-not-is_live-clause-ok g c = c.in_ok-fill_free_page.ensures.ok

pub returns-in_err-fill_node-clause-unseen : goal.returns-in_err-fill_node-clause-unseen
returns-in_err-fill_node-clause-unseen g c = halts_unseen c.in_err-fill_node.ensures.same c.in_err-fill_node.ensures.err

pub returns-then-branch-clause-ok : goal.returns-then-branch-clause-ok
returns-then-branch-clause-ok g c =
    subst (λ d. ComesOrNot d (g.R.Rows.shape c.args.rows.now) (Load c.args.page c.args.frame) c.args.page c.args.frame (g.R.Rows.view c.args.seat.now) c.args.self.now (g.R.Rows.view c.fill_node.new.seat) c.fill_node.new.self) c.if-branch.true c.in_ok-fill_node.ensures.ok

pub returns-clause-ok : goal.returns-clause-ok
returns-clause-ok g c =
    lost_once c.args.path.now c.laws.ensures.rows c.requires.keeps c.requires.comes (sym c.is_live.ensures ∙ c.if-not-is_live.false)
    (subst (λ d. ComesOrNot d (g.R.Rows.shape c.args.rows.now) (Load c.args.page c.args.frame) c.args.page c.args.frame (g.R.Rows.view c.args.seat.now) c.args.self.now (g.R.Rows.view c.fill_node.new.seat) c.fill_node.new.self) c.if-branch.false c.in_ok-fill_node.ensures.ok)
