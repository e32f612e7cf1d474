-- A sync may turn all flushed words, where its need is met.
use Rattle.std.proofs.Common.{◌≡◌, ℕ, true, [], ◌∷◌, refl, ap, ◌∙◌}
use Rattle.row_words.specs.declared.event.Event.TheVariants.{Sync}
use Rattle.row_words.specs.Moments.{event_of}
use Rattle.row_words.specs.Openings.{opening}
use Rattle.row_words.specs.Sealed.{begun, heard}
use Rattle.row_words.proofs.SealedLemmas.{run_append, sync_changes, sync_sets, sync_heard}
use Rattle.row_words.specs.core_state.Needs as core
use Rattle.rows_trait.specs.declared.view.View.{View}
use Rattle.rows_trait.specs.Views.{Shape, state}
use Rattle.rows_trait.specs.Turns.{MaySync}

pub may_sync : (z : Shape) (v : View) (n : ℕ) → core.may (opening v.given) (state v).core (event_of (Sync n)) ≡ true → MaySync z n (Sync n ∷ []) v
may_sync z v n met = record {
  own = (record { rows = λ m row. sync_changes v.given m n row; words = λ d j le ne. sync_sets n d j ne; calm = refl }, tt);
  syncs = λ w some le. ap (λ m. heard m w 0) (run_append v.given (begun v.given) v.seen (Sync n ∷ [])) ∙ sync_heard v.given (state v) n w some met;
}
