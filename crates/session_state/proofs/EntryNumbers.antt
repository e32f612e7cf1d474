-- No entry has a number above its worker's clock, nor a transaction above its worker's.
use Rattle.std.proofs.Common.{◌≤◌, ◌++◌, refl, sym, subst}
use Rattle.map_model.specs.Lists.{Has}
use Rattle.btree_descent.specs.image_model.Entries.{Entry}
use Rattle.btree_descent.specs.core_state.Openings.{Opening}
use Rattle.btree_descent.specs.core_state.States.{State, start}
use Rattle.btree_descent.proofs.core_commit.Runs.{good_run, good_start}
use Rattle.btree_descent.specs.row_words.declared.given.Given.{Given}
use Rattle.btree_descent.specs.row_words.Moments.{events_of}
use Rattle.row_opening.specs.Openings.{EveryReached, Opens}
use Rattle.session_state.specs.Numbers.{AreClocked}

-- on rows that began as an opening
pub entries_clocked : EveryReached → (g : Opening) (v : Given) → Opens g v → AreClocked v
entries_clocked reached g v opens es =
    subst (λ (s : State). (r : Entry) → Has r s.entries → (r.number ≤ (s.worker r.log).clock) × (r.txn ≤ (s.worker r.log).txn)) (sym (reached g v opens es))
    (λ r i. ((good_run g (events_of v.before ++ events_of es) (start g) (good_start g)).inv.workers r.log).numbers r i refl)
