use Rattle.std.proofs.Common.{◌∙◌, sym, arith}
use Rattle.btree_descent.specs.rows_trait.Views.{state}
use Rattle.page_provider.proofs.Fetched.{fetch_aside, fetch_tame, told_heard, told_none}
use Rattle.page_provider.proofs.Flushing.{some_words}
use Rattle.page_provider.proofs.fetching.fetch.Goals as goal

pub returns-then-not-is_leaf-clause-told : goal.returns-then-not-is_leaf-clause-told
returns-then-not-is_leaf-clause-told g c = told_none c.args.page c.args.node (sym c.is_leaf.ensures ∙ c.if-not-is_leaf.true)

pub load_control-requires-clause-place : goal.load_control-requires-clause-place
load_control-requires-clause-place g c = let w = c.requires.workers in (omega arith, some_words 0)

pub load_control-requires-clause-event : goal.load_control-requires-clause-event
load_control-requires-clause-event g c = λ x. fetch_aside (g.R.Rows.shape c.args.rows.now).alone (g.R.Rows.view c.args.seat.now) c.args.page c.args.node c.requires.actor

pub load_control-requires-clause-tame : goal.load_control-requires-clause-tame
load_control-requires-clause-tame g c = λ x. fetch_tame (state (g.R.Rows.view c.args.seat.now)) c.args.page c.args.node

pub returns-clause-told : goal.returns-clause-told
returns-clause-told g c = told_heard c.args.page c.args.node c.requires.actor (sym c.is_leaf.ensures ∙ c.if-not-is_leaf.false) c.load_control.ensures.step
