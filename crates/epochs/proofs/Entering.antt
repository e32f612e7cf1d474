-- A worker enters and leaves.
use Rattle.std.proofs.Common.{◌≡◌, ◌<◌, ◌≤◌, ◌^◌, ◌+◌, ℕ, suc, inl, inr, true, [], ◌∷◌, ◌++◌, Some, None, refl, sym, subst, ◌∙◌, arith}
use Rattle.std.proofs.lemmas.Bool.{cases_lt}
use Rattle.lean_proto.specs.core_state.Needs as core
use Rattle.lean_proto.specs.core_state.Needs.{is_worker}
use Rattle.lean_proto.specs.row_words.declared.event.Event.{Event}
use Rattle.lean_proto.specs.row_words.declared.event.Event.TheVariants.{Enter, Leave, Tick}
use Rattle.lean_proto.specs.row_words.declared.given.Given.{Given}
use Rattle.lean_proto.specs.row_words.Moments.{event_of}
use Rattle.lean_proto.specs.row_words.Openings.{opening}
use Rattle.lean_proto.specs.rows_trait.declared.view.View.{View}
use Rattle.lean_proto.specs.rows_trait.Views.{Shape, after_all, state}
use Rattle.lean_proto.specs.rows_trait.Turns.{Heard, Turned, Ran}
use Rattle.lean_proto.proofs.rows_trait.Runs.{ran_goes, ran_append}
use Rattle.lean_proto.proofs.version_latch.Keeping.{may_ran}
use Rattle.lean_proto.specs.Controls.{IsTick, IsEnter, IsLeave, Entered, EveryEpoch}
use Rattle.epochs.specs.Epochs.{HasTicked, IsInside, IsOutside, HasEntered, HasLeft, Met}

pub heard_ran : (z : Shape) (c i n : ℕ) (v u : View) → Heard z c i (λ _. []) v n u → Ran z.alone v [] u
heard_ran z c i n v u h = ran_goes z v [] u tt h.goes

-- the need was met where the event stands
met_at : (z : Shape) (v u x : View) (e : Event) (c i n : ℕ) (f : ℕ → ℕ) (w : ℕ) (at : Rattle.std.specs.Prelude.Option ℕ) → u.given ≡ v.given → (t : Turned z c i f (λ _. e ∷ []) u n x) → Entered u t.goes.between e w at x → Met v e x
met_at z v u x e c i n f w at given t m = record {
  before = u.seen ++ t.goes.between;
  seen = t.goes.seen;
  met = subst (λ (g : Given). core.may (opening g) (after_all g (u.seen ++ t.goes.between)).core (event_of e) ≡ true) given m.met;
}

module _ (every : EveryEpoch) (z : Shape) (v : View) (w : ℕ) (o : IsOutside z v w) (n e : ℕ) (u : View) (h : Heard z 0 0 (λ _. []) v n u) (old : e ≤ n) (small : e < 2 ^ 63) where
  ran : Ran z.alone v [] u
  ran = heard_ran z 0 0 n v u h

  now : (state u).core.epoch ≡ n
  now = (every z v w).epoch (λ _. []) n u h

  pub enter_ready : IsEnter z u w e
  enter_ready = record {
    actor = may_ran z.alone v u [] w ran o.actor;
    worker = subst (λ (g : Given). is_worker (opening g) w ≡ true) (sym ran.given) o.worker;
    outside = (every z v w).stays u o.actor ran ∙ o.outside;
    old = (let a = now in omega arith);
    small = small;
  }

  pub has_entered : (same : n < 2 ^ 63 → e ≡ n) (last : 2 ^ 63 ≤ n → suc e ≡ 2 ^ 63) (k : ℕ) (x : View) → Turned z w 2 (λ _. e) (λ _. Enter w e ∷ []) u k x → HasEntered z v w x
  has_entered same last k x t =
      let done = (every z u w).entered e k x enter_ready t in record {
        epoch = e;
        ran = ran_append z.alone v [] u (Enter w e ∷ []) x ran (ran_goes z u (Enter w e ∷ []) x (enter_ready.actor, tt) t.goes);
        held = t.held ∙ h.held;
        met = met_at z v u x (Enter w e) w 2 k (λ _. e) w (Some e) ran.given t done;
        inside = done.inside;
        late = λ few. late few;
      }
    where
      -- an epoch that has come to 2^63 is taken as the last one below it
      late : (state v).core.epoch < 2 ^ 63 → (state v).core.epoch ≤ e
      late few =
          let a = now in let b = (every z v w).rises [] u ran in
          elim (cases_lt n (2 ^ 63)) [ inl lt ↦ (let q = same lt in omega arith) | inr ge ↦ (let q = last ge in omega arith) ]

module _ (every : EveryEpoch) (z : Shape) (v : View) (w : ℕ) (o : IsInside z v w) where
  pub leave_ready : IsLeave z v w
  leave_ready = record { actor = o.actor; some = o.some; inside = o.inside }

  pub has_left : (k : ℕ) (x : View) → Turned z w 2 (λ _. 2 ^ 63) (λ _. Leave w ∷ []) v k x → HasLeft z v w x
  has_left k x t =
      let done = (every z v w).left k x leave_ready t in record {
        ran = ran_goes z v (Leave w ∷ []) x (o.actor, tt) t.goes;
        held = t.held;
        met = met_at z v v x (Leave w) w 2 k (λ _. 2 ^ 63) w None refl t done;
        inside = done.inside;
      }

-- ## A tick

pub has_ticked : (z : Shape) (v : View) (k : ℕ) (x : View) → IsTick z v → Turned z 0 0 (λ n. n + 1) (λ _. Tick ∷ []) v k x → HasTicked z v x
has_ticked z v k x i t = record { ran = ran_goes z v (Tick ∷ []) x (i.actor, tt) t.goes; held = t.held }
