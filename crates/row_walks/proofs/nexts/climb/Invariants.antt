use Rattle.std.proofs.Common.{◌≡◌, ◌≤◌, ◌<◌, ℕ, suc, true, None}
use Rattle.row_changes.specs.session_state.Holds.{Holds}
use Rattle.row_changes.specs.session_state.row_words.Openings.{opening}
use Rattle.row_changes.specs.session_state.rows_trait.Views.{state}
use Rattle.row_tidying.specs.tidy_rules.Tidying.{is_thin, join_under, page_at}
use Rattle.row_tidying.specs.row_ends.Flushed.{Looked}
use Rattle.row_walks.proofs.nexts.climb.Given as goal

abbrev pub invariant-loop-at : goal.invariant-loop-at
invariant-loop-at g l =
    let v = g.R.Rows.view l.fn.seat in
    record {
      fits : g.R.Rows.fits l.rows l.seat × (g.R.Rows.shape l.rows ≡ g.R.Rows.shape l.fn.rows);
      holds : Holds (g.R.Rows.shape l.rows) (g.R.Rows.view l.seat) l.fn.session l.fn.log;
      looked : Looked v (g.R.Rows.view l.seat);
      low : l.fn.from ≤ l.at;
      thin : (j : ℕ) → l.fn.from ≤ j → j < l.at → is_thin (state v).core (page_at (opening v.given) (state v).core l.fn.key j) ≡ true;
      none : (j : ℕ) → l.fn.from ≤ j → j < l.at → join_under l.fn.session.own (opening v.given) (state v).core (page_at (opening v.given) (state v).core l.fn.key j) (page_at (opening v.given) (state v).core l.fn.key (suc j)) ≡ None;
    }
