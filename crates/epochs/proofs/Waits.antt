-- No page waits for a worker that is outside, or entered later.
use Rattle.std.proofs.Common.{◌≡◌, ◌≢◌, ◌<◌, ◌≤◌, ◌+◌, ◌^◌, ℕ, zero, suc, Bool, true, false, List, [], ◌∷◌, ◌++◌, ◌⊎◌, Option, Some, None, inl, inr, refl, sym, ap, subst, ◌∙◌, arith}
use Rattle.std.proofs.lemmas.Bool.{cases_eq, eqb-true, cases_Bool}
use Rattle.lean_proto.specs.core_state.States.{epoch_of, waits_for}
use Rattle.lean_proto.specs.core_paging.Paging.{Waiting}
use Rattle.lean_proto.specs.row_words.declared.given.Given.{Given}
use Rattle.lean_proto.specs.row_words.Moments.{Moment, pager}
use Rattle.lean_proto.specs.row_words.Sealed.{heard}
use Rattle.lean_proto.specs.row_words.Words.{epoch_word}
use Rattle.lean_proto.specs.rows_trait.declared.view.Act.{Act}
use Rattle.lean_proto.specs.rows_trait.declared.view.Act.TheVariants.{Hear}
use Rattle.lean_proto.specs.rows_trait.declared.view.View.{View}
use Rattle.lean_proto.specs.rows_trait.Views.{Shape, after_all, may, state}
use Rattle.lean_proto.specs.rows_trait.Turns.{Heard, Ran}
use Rattle.lean_proto.proofs.rows_trait.Runs.{ran_none, ran_append}
use Rattle.lean_proto.proofs.version_latch.Keeping.{may_ran}
use Rattle.lean_proto.specs.Controls.{EveryEpoch}
use Rattle.lean_proto.specs.Still.{Stood, IsStill, EveryStood}
use Rattle.epochs.specs.Epochs.{IsJudge, IsStamp, IsDeserted, Unwaited}
use Rattle.epochs.proofs.Entering.{heard_ran}

pub is_stamp : EveryEpoch → (z : Shape) (n : ℕ) (v u : View) → Heard z 0 0 (λ _. []) v n u → IsStamp z v n u
is_stamp every z n v u h = record { ran = heard_ran z 0 0 n v u h; held = h.held; steps = h.steps; epoch_is = (every z v 0).epoch (λ _. []) n u h }

-- the pager's seat, or the only one, over steps that append nothing
is_still : (alone : Bool) (v : View) → may alone v pager ≡ true → IsStill alone v []
is_still true v m = refl
is_still false v m = (sym (eqb-true pager v.actor m), refl)

pub stood : EveryStood → (z : Shape) (v u : View) → may z.alone v pager ≡ true → Ran z.alone v [] u → Stood v u
stood still z v u m r = still z v u [] (is_still z.alone v m) r

-- a page waits for no worker 0, which is none
nobody : (u : View) → Waiting (state u).core → (p : ℕ) → waits_for ((state u).core.place p) 0 ≡ false
nobody u k p = elim (cases_Bool (waits_for ((state u).core.place p) 0)) [
  | inl y ↦ let q = k.waits p 0 y in let a = k.some 0 q.0 q.1 in absurd (omega arith)
  | inr n ↦ n
]

-- What holds after some workers: the judge is one still, and no page waits for the first n.
pub record Judging (z : Shape) (v : View) (n epoch : ℕ) (u : View) : Type 0 where
  pub ran : Ran z.alone v [] u
  pub held : u.held ≡ v.held
  pub unwaited : (p w : ℕ) → 0 < w → w ≤ n → epoch_of ((state u).core.place p) ≤ epoch → waits_for ((state u).core.place p) w ≡ false
  pub acts : List Act
  pub steps : u.steps ≡ acts ++ v.steps

pub judging_none : (z : Shape) (v : View) (epoch : ℕ) → Judging z v 0 epoch v
judging_none z v epoch = record { ran = ran_none z.alone v; held = refl; unwaited = λ p w some few. absurd (omega arith); acts = []; steps = refl }

pub judge_on : EveryStood → (z : Shape) (v u : View) → IsJudge z v → Ran z.alone v [] u → IsJudge z u
judge_on still z v u j r = record {
  actor = may_ran z.alone v u [] pager r j.actor;
  waiting = λ es. subst (λ (g : Given). Waiting (after_all g es).core) (sym r.given) (j.waiting es);
  small = (let a = (stood still z v u j.actor r).epoch in let b = j.small in omega arith);
}

-- one worker more
pub judging_more : EveryEpoch → EveryStood → (z : Shape) (v u x : View) (n epoch local : ℕ) → IsJudge z v → Judging z v n epoch u → Heard z (n + 1) 2 (λ _. []) u local x → (local ≡ 2 ^ 63) ⊎ (epoch < local) → Judging z v (n + 1) epoch x
judging_more every still z v u x n epoch local j k h later =
    let r = heard_ran z (n + 1) 2 local u x h in
    let all = ran_append z.alone v [] u [] x k.ran r in
    let at = judge_on still z v x j all in
    let s = stood still z u x (judge_on still z v u j k.ran).actor r in record {
      ran = all;
      held = h.held ∙ k.held;
      unwaited = λ p w some few low. elim (cases_eq w (n + 1)) [
        | inl e ↦ subst (λ q. waits_for ((state x).core.place p) q ≡ false) (sym e) ((every z u (n + 1)).ripe epoch local x (omega arith) (at.waiting x.seen) later at.small h p low)
        | inr ne ↦ s.unwaited p w (k.unwaited p w some (omega arith) (let a = s.since p in omega arith))
      ];
      acts = Hear (n + 1) 2 local ∷ k.acts;
      steps = h.steps ∙ ap (λ l. Hear (n + 1) 2 local ∷ l) k.steps;
    }

-- all workers
pub ripens_all : EveryStood → (z : Shape) (v u : View) (n epoch : ℕ) → IsJudge z v → Judging z v n epoch u → Unwaited n epoch u
ripens_all still z v u n epoch j k p w few low = elim (cases_eq w 0) [
  | inl e ↦ subst (λ q. waits_for ((state u).core.place p) q ≡ false) (sym e) (nobody u ((judge_on still z v u j k.ran).waiting u.seen) p)
  | inr ne ↦ k.unwaited p w (omega arith) few low
]

-- ## Not ripe

heard_local : (m : Moment) (w : ℕ) → 0 < w → heard m w 2 ≡ epoch_word (m.core.inside w)
unfolding heard
heard_local m zero some = absurd (omega arith)
heard_local m (suc w) some = refl

-- a worker whose word is not that of one outside is inside, with the epoch that was loaded
pub inside_with : (z : Shape) (v u : View) (w e : ℕ) → 0 < w → e ≢ 2 ^ 63 → Heard z w 2 (λ _. []) v e u → (state u).core.inside w ≡ Some e
inside_with z v u w e some ne h = by ((state u).core.inside w) (sym h.word ∙ heard_local (state u) w some)
  where
    by : (o : Option ℕ) → e ≡ epoch_word o → o ≡ Some e
    by None same = absurd (ne same)
    by (Some x) same = ap Some (sym same)

-- where nobody else steps and nobody is inside, no worker is
pub not_held : EveryEpoch → (z : Shape) (v u : View) (w e : ℕ) → z.alone ≡ true → IsDeserted v → Ran z.alone v [] u → (state u).core.inside w ≡ Some e → ⊥
not_held every z v u w e alone none ran is =
    let still = (every z v w).stays u (ap (λ b. may b v w) alone) ran in
    let both : None ≡ Some e = sym (none w) ∙ (sym still ∙ is) in
    cc
