-- What one find leaves.
use Rattle.std.proofs.Common.{ℕ, false, List, [], ◌∷◌}
use Rattle.btree_descent.specs.row_words.declared.event.Event.{Event}
use Rattle.btree_descent.specs.row_words.declared.event.Event.TheVariants.{Read, Miss}
use Rattle.btree_descent.specs.rows_trait.declared.view.View.{View}
use Rattle.btree_descent.specs.rows_trait.Turns.{Ran}
use Rattle.btree_descent.specs.declared.descent.Answer.{Answer}
use Rattle.btree_descent.specs.declared.descent.Answer.TheVariants as answer
use Rattle.btree_descent.specs.Known.{said}
use Rattle.btree_descent.specs.Descents.{Went}

pub ran_of : (worker key : ℕ) (v w : View) (a : Answer) → Went false worker key v a w → (es : List Event) × Ran false v es w
ran_of worker key v w (answer.Found f) s = (Read worker s.answered.page key (said f.word) ∷ [], s.answered.ran)
ran_of worker key v w (answer.Cold p) s = ([], s.ran)
ran_of worker key v w (answer.Moved m) s = (Miss worker ∷ [], s)
ran_of worker key v w (answer.Latched l) s = (Miss worker ∷ [], s)
