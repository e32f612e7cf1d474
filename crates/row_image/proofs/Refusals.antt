-- The two ways in which a part of a call refuses.
use Rattle.std.proofs.Common.{◌≡◌, ◌≢◌, ◌%◌, ℕ, true, [], ◌∷◌, Some, refl, sym, ◌∙◌, arith}
use Rattle.btree_descent.specs.row_words.declared.event.Event.TheVariants.{Miss}
use Rattle.btree_descent.specs.rows_trait.declared.view.View.{View}
use Rattle.btree_descent.specs.rows_trait.Views.{Shape, latest, may}
use Rattle.btree_descent.specs.rows_trait.Causes.{HasFound, IsLatched, HasMoved}
use Rattle.btree_descent.specs.rows_trait.Turns.{Looked}
use Rattle.btree_descent.proofs.rows_trait.Runs.{ran_append}
use Rattle.btree_descent.proofs.rows_trait.Causes.{found_before, latched_before}
use Rattle.btree_descent.specs.version_latch.declared.glimpse.Latched.{Latched}
use Rattle.btree_descent.specs.version_latch.declared.glimpse.Moved.{Moved}
use Rattle.btree_descent.specs.version_latch.Named.{missed, checked}
use Rattle.btree_descent.proofs.version_latch.Naming.{missed_odd, checked_other}
use Rattle.btree_descent.proofs.version_latch.Keeping.{looked_ran, may_ran}
use Rattle.row_image.specs.declared.refusal.Unseen.TheVariants as unseen
use Rattle.row_image.specs.Inside.{Watched, Refused}

-- a row was held
pub start_refused : {z : Shape} {row : ℕ} {v w : View} (actor : ℕ) (l : Latched) → may z.alone v actor ≡ true → l.word % 2 ≡ 1 → Looked z row (missed actor) v l.word w → IsLatched l.row l.word v w
    → Refused z.alone actor (λ q. q ≡ row) v (unseen.Latched l) w
start_refused {z = z} {row = row} {v = v} {w = w} actor l m odd look why = record {
  ran = looked_ran z row l.word (missed actor) v w (Miss actor ∷ []) look (missed_odd actor l.word odd) (m, tt);
  cause = λ u o. latched_before l.row l.word u v w o why;
  held = look.held;
  at = row;
  one = refl;
  never = λ alone none. let e = look.free alone none in absurd (omega arith);
}

-- a row had moved
pub check_refused : {z : Shape} {row version : ℕ} {v u w : View} (actor : ℕ) (m : Moved) → may z.alone v actor ≡ true → Watched z.alone v u → HasFound row version v u
    → (z.alone ≡ true → latest row u.steps ≡ Some version) → m.seen ≡ version → m.found ≢ m.seen → Looked z row (checked actor version) u m.found w
    → ((a : View) → HasFound row version a u → HasMoved m.row m.seen m.found a w) → Refused z.alone actor (λ q. q ≡ row) v (unseen.Moved m) w
check_refused {z = z} {row = row} {version = version} {v = v} {u = u} {w = w} actor m own k found last seen ne look why = record {
  ran = ran_append z.alone v [] u (Miss actor ∷ []) w k.ran (looked_ran z row m.found (checked actor version) u w (Miss actor ∷ []) look (checked_other actor version m.found (λ e. ne (e ∙ sym seen))) (may_ran z.alone v u [] actor k.ran own, tt));
  cause = λ a o. why a (found_before row version a v u o found);
  held = look.held ∙ k.held;
  at = row;
  one = refl;
  never = λ alone none. ne (look.steady alone version (last alone) ∙ sym seen);
}
