use Rattle.std.proofs.Common.{◌∙◌, sym}
use Rattle.btree_descent.specs.rows_trait.Views.{state}
use Rattle.btree_descent.proofs.btree_node.SpellingLemmas.{one-page}
use Rattle.row_image.specs.Images.{written}
use Rattle.row_image.proofs.page.image.Goals as goal

pub unreachable-requires : goal.unreachable-requires
unreachable-requires g c =
    let p = c.requires.stays.0 in
    c.in_default.ensures.cause (written (state (g.R.Rows.view c.load_written.new.seat)).core p c.args.generation) (c.in_ok-load_written.ensures.answer.spelled p c.requires.stays.1).spells

pub returns-clause-answer : goal.returns-clause-answer
returns-clause-answer g c =
    let a = c.in_ok-load_written.ensures.answer in
    let w = g.R.Rows.view c.load_written.new.seat in
    let words = c.load_written.new.into in record {
      ran = a.ran;
      version = a.version;
      free = a.free;
      found = a.found;
      written = λ p stays. let s = a.spelled p stays in record {
        stands = s.stands;
        page = sym (one-page words c.in-Some.node c.in-Some.ensures.answer) ∙ one-page words (written (state w).core p c.args.generation) s.spells;
      };
    }
