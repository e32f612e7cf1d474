-- A row that was latched from the version that it had, or was not.
use Rattle.std.proofs.Common.{◌≡◌, ◌%◌, ℕ, true, false, List, [], ◌∷◌, sym, ap, subst, ◌∙◌, arith}
use Rattle.row_words.specs.declared.event.Event.{Event}
use Rattle.row_words.specs.declared.event.Event.TheVariants.{Miss}
use Rattle.rows_trait.specs.declared.view.View.{View}
use Rattle.rows_trait.specs.Views.{Shape, IsEven, hold, holds, may}
use Rattle.rows_trait.specs.Turns.{Goes, Looked, Taken, Ran}
use Rattle.rows_trait.proofs.Runs.{ran_goes, ran_append}
use Rattle.lean_proto.specs.version_latch.Named.{missed, checked}
use Rattle.lean_proto.specs.version_latch.Unheld.{NotHeld}
use Rattle.lean_proto.specs.version_latch.declared.glimpse.Moved.{Moved as Two}
use Rattle.lean_proto.specs.version_latch.declared.glimpse.Unheld.TheVariants.{Moved, RowSpent}
use Rattle.lean_proto.proofs.version_latch.Naming.{missed_odd, missed_even, checked_same, checked_other}
use Rattle.lean_proto.proofs.version_latch.Keeping.{looked_ran, looked_latest, may_ran}
use Rattle.held_rows.specs.Latching.{Took, Refused}

module _ {z : Shape} {row : ℕ} {v u : View} (worker : ℕ) where
  pub latched_refused : {word : ℕ} → may z.alone v worker ≡ true → word % 2 ≡ 1 → Looked z row (missed worker) v word u → Refused z.alone v u
  latched_refused {word} actor odd l = record {
    missed = record { events = Miss worker ∷ []; ran = looked_ran z row word (missed worker) v u (Miss worker ∷ []) l (missed_odd worker word odd) (actor, tt); misses = tt; few = omega arith };
    held = l.held;
  }

  pub latched_quiet : {word : ℕ} → word % 2 ≡ 1 → Looked z row (missed worker) v word u → z.alone ≡ true → holds v.held row ≡ false → ⊥
  latched_quiet {word} odd l alone free = let e : word % 2 ≡ 0 = l.free alone free in absurd (omega arith)

  looked_none : {version : ℕ} → IsEven version → Looked z row (missed worker) v version u → Ran z.alone v [] u
  looked_none {version} even l = looked_ran z row version (missed worker) v u [] l (missed_even worker version even) tt

  module _ {version : ℕ} {w : View} where
    pub took_all : IsEven version → Looked z row (missed worker) v version u → Taken z row version (checked worker version) u w → Took z row v w
    took_all even l t = record {
      ran = ran_append z.alone v [] u [] w (looked_none even l) (ran_goes z u [] w tt (subst (λ (es : List Event). Goes z u es w) (checked_same worker version) t.goes));
      version = version;
      was = t.was;
      held = t.held ∙ ap (λ hs. hold row version t.was t.was false ∷ hs) l.held;
      size = t.size;
      stands = t.goes.stands;
      fresh = ap (λ hs. holds hs row) (sym l.held) ∙ t.fresh;
    }

    pub moved_refused : {m : Two} → may z.alone v worker ≡ true → IsEven version → Looked z row (missed worker) v version u → NotHeld z row version (checked worker version) u (Moved m) w → Refused z.alone v w
    moved_refused {m} actor even l n =
        let r = n.2 in record {
          missed = record {
            events = Miss worker ∷ [];
            ran = ran_append z.alone v [] u (Miss worker ∷ []) w (looked_none even l) (looked_ran z row m.found (checked worker version) u w (Miss worker ∷ []) r.looked (checked_other worker version m.found r.other) (may_ran z.alone v u [] worker (looked_none even l) actor, tt));
            misses = tt;
            few = omega arith;
          };
          held = r.looked.held ∙ l.held;
        }

    pub moved_quiet : {m : Two} → Looked z row (missed worker) v version u → NotHeld z row version (checked worker version) u (Moved m) w → z.alone ≡ true → ⊥
    moved_quiet {m} l n alone = n.2.other (n.2.looked.steady alone version (looked_latest z row version (missed worker) v u l))

    pub spent_refused : IsEven version → Looked z row (missed worker) v version u → NotHeld z row version (checked worker version) u RowSpent w → Refused z.alone v w
    spent_refused even l n = record {
      missed = record { events = []; ran = subst (λ x. Ran z.alone v [] x) (sym n.1) (looked_none even l); misses = tt; few = omega arith };
      held = ap (λ (x : View). x.held) n.1 ∙ l.held;
    }
