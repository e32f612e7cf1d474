-- How far all logs are flushed, and that nothing has changed where nobody else steps and nothing was appended.
use Rattle.std.proofs.Common.{◌≡◌, ◌<◌, ◌≤◌, ◌+◌, ℕ, Bool, true, false, [], ◌++◌, append-nil, refl, sym, ap, subst, ◌∙◌, arith, add-one}
use Rattle.std.specs.Prelude.{min}
use Rattle.rfa_model.specs.Reaches.{least}
use Rattle.btree_descent.specs.core_state.States.{flushed_by_all}
use Rattle.btree_descent.specs.row_words.declared.given.Given.{Given}
use Rattle.btree_descent.specs.row_words.Openings.{opening}
use Rattle.btree_descent.specs.rows_trait.declared.view.View.{View}
use Rattle.btree_descent.specs.rows_trait.Turns.{Heard, Ran}
use Rattle.btree_descent.specs.rows_trait.Views.{Shape, NoSync, after_all, state}
use Rattle.btree_descent.proofs.rows_trait.Runs.{ran_append, ran_goes}
use Rattle.page_provider.specs.Laws.{RowLaws}
use Rattle.page_provider.specs.Leaves.{IsFlushed}
use Rattle.page_provider.specs.Providers.{Provider, Keeps}
use Rattle.page_provider.proofs.Departures.{flushed_up, least_up, low_on}

-- ## Where nothing was appended

pub calm_more : (alone : Bool) {v u : View} → (r : Ran alone v [] u) → NoSync r.more
calm_more true r = subst NoSync (sym (r.all refl)) tt
calm_more false r = r.part refl

-- the only seat has seen nothing else
pub same_state : {alone : Bool} {v u : View} → alone ≡ true → Ran alone v [] u → state u ≡ state v
same_state {v = v} only r = λ i. after_all (r.given i) ((r.seen ∙ (ap (λ es. v.seen ++ es) (r.all only) ∙ append-nil v.seen)) i)

pub flushed_ran : {z : Shape} {v u : View} {n : ℕ} → RowLaws → v.held ≡ [] → Ran z.alone v [] u → IsFlushed z n v → IsFlushed z n u
flushed_ran {z = z} {v = v} {u = u} laws none r f = record {
  low = let a = low_on laws.loads z v u r.more none r.given r.seen (calm_more z.alone r) in let b = f.low in omega arith;
  exact = λ alone. f.exact alone ∙ (λ i. flushed_by_all (opening (sym r.given i)) (sym (same_state alone r) i).core);
}

-- ## The least of the flushed words

-- It is at most the least of the first n, and where nobody else steps no less.
pub record IsLow (z : Shape) (v : View) (n number : ℕ) (u : View) : Type 0 where
  pub ran : Ran z.alone v [] u
  pub held : u.held ≡ v.held
  pub low : number ≤ least (state u).core.flushed n
  pub exact : z.alone ≡ true → number ≡ least (state u).core.flushed n

heard_none : {z : Shape} {c i n : ℕ} {v u : View} → Heard z c i (λ _. []) v n u → Ran z.alone v [] u
heard_none {z = z} {v = v} {u = u} h = ran_goes z v [] u tt h.goes

least_next : (f : ℕ → ℕ) (k : ℕ) → least f (k + 1) ≡ min (f (k + 1)) (least f k)
least_next f k = subst (λ j. least f j ≡ min (f j) (least f k)) (sym (add-one k)) refl

pub low_first : {z : Shape} {v u : View} {n : ℕ} → RowLaws → Heard z 1 0 (λ _. []) v n u → IsLow z v 1 n u
low_first {z = z} {v = v} {u = u} {n = n} laws h =
    let now : (state u).core.flushed 1 ≡ n = (laws.loads z v 1 (λ _. []) n u (omega arith) h).now in
    let one : least (state u).core.flushed 1 ≡ n = (let a = least_next (state u).core.flushed 0 in omega arith) in
    record { ran = heard_none h; held = h.held; low = omega arith; exact = λ alone. sym one }

pub low_more : {z : Shape} {v u x : View} {k m n : ℕ} → RowLaws → v.held ≡ [] → IsLow z v k m u → Heard z (k + 1) 0 (λ _. []) u n x → IsLow z v (k + 1) (min m n) x
low_more {z = z} {v = v} {u = u} {x = x} {k = k} {m = m} {n = n} laws none l h =
    let r = heard_none h in
    let now : (state x).core.flushed (k + 1) ≡ n = (laws.loads z u (k + 1) (λ _. []) n x (omega arith) h).now in
    let next = least_next (state x).core.flushed k in
    let up = least_up (state u).core.flushed (state x).core.flushed k (flushed_up laws.loads z u x r.more (l.held ∙ none) r.given r.seen (calm_more z.alone r)) in
    let low = l.low in
    record {
      ran = ran_append z.alone v [] u [] x l.ran r;
      held = h.held ∙ l.held;
      low = omega arith;
      exact = λ alone.
          let a = l.exact alone in
          let b : least (state x).core.flushed k ≡ least (state u).core.flushed k = ap (λ s. least s.core.flushed k) (same_state alone r) in
          omega arith;
    }

pub low_flushed : {z : Shape} {v u : View} {n number : ℕ} {k : Provider} → Keeps z v k → n ≡ k.workers → IsLow z v n number u → IsFlushed z number u
low_flushed {z = z} {v = v} {u = u} {n = n} {number = number} {k = k} c all l =
    let many : n ≡ (opening u.given).workers = all ∙ (sym c.workers.1 ∙ ap (λ (g : Given). (opening g).workers) (sym l.ran.given)) in
    record {
      low = subst (λ j. number ≤ least (state u).core.flushed j) many l.low;
      exact = λ alone. l.exact alone ∙ ap (λ j. least (state u).core.flushed j) many;
    }

-- a worker's control words are four
pub some_words : (w : ℕ) → 0 < Rattle.btree_descent.specs.rows_trait.Layout.count_of (w + 1)
some_words w = subst (λ n. 0 < Rattle.btree_descent.specs.rows_trait.Layout.count_of n) (sym (add-one w)) (omega arith)
