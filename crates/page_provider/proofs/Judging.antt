-- Whether a page of the queue can leave, and a walk over the queue.
use Rattle.std.proofs.Common.{◌≡◌, ◌<◌, ◌≤◌, ◌+◌, ◌==◌, ◌⊎◌, inl, inr, ℕ, zero, suc, Bool, true, false, List, [], ◌∷◌, length, Option, None, Some, slice_get, refl, sym, ap, subst, ◌∙◌, arith, add-one, true≢false}
use Rattle.std.specs.Prelude.{if◌then◌else◌}
use Rattle.std.proofs.lemmas.Bool.{cases_lt}
use Rattle.btree_descent.specs.core_state.States.{Place, flushed_by_all, is_cooling, is_hot}
use Rattle.btree_descent.specs.row_words.declared.given.Given.{Given}
use Rattle.btree_descent.specs.row_words.Moments.{Moment}
use Rattle.btree_descent.specs.row_words.Openings.{opening}
use Rattle.btree_descent.specs.rows_trait.declared.view.View.{View}
use Rattle.btree_descent.specs.rows_trait.Turns.{Ran}
use Rattle.btree_descent.specs.rows_trait.Views.{Shape, state}
use Rattle.btree_descent.proofs.rows_trait.Runs.{ran_append, ran_none}
use Rattle.cooling_stage.specs.declared.stage.Cooling.{Cooling}
use Rattle.cooling_stage.specs.Queue.{behind, found}
use Rattle.epochs.specs.Epochs.{IsJudge, Ripens}
use Rattle.epochs.specs.declared.judging.Ripeness.TheVariants as ripeness
use Rattle.page_pool.specs.Full.{IsHeldBack, NoneRipe}
use Rattle.page_pool.specs.Queues.{IsFound, Tells, entry_of}
use Rattle.page_provider.specs.declared.leaving.Leave.TheVariants as leave
use Rattle.page_provider.specs.declared.leaving.Chosen.TheVariants as chosen
use Rattle.page_provider.specs.declared.refusal.Refusal.{Refusal}
use Rattle.page_provider.specs.Inside.{Missed, Numbers}
use Rattle.page_provider.specs.Laws.{RowLaws}
use Rattle.page_provider.specs.Leaves as leaves
use Rattle.page_provider.specs.Leaves.{Chose, IsFlushed, MissedLater, NoneLeaves}
use Rattle.page_provider.specs.Providers.{Provider, Keeps, pool}
use Rattle.page_provider.proofs.Flushing.{flushed_ran, same_state}
use Rattle.page_provider.proofs.Keeping.{keeps_ran, ran_stood}

-- ## One page

pub tells : {z : Shape} {v : View} {k : Provider} → RowLaws → Keeps z v k → Tells (opening v.given) (state v).core (pool k)
tells {v = v} {k = k} laws c = laws.queues (opening v.given) (state v).core (pool k) (c.sound v.seen).residence c.agrees

pub entry_is : {z : Shape} {v : View} {k : Provider} {entry : Cooling} → RowLaws → Keeps z v k → found entry.page k.queue ≡ Some entry → IsFound (opening v.given) (state v).core entry.page entry
entry_is {entry = entry} laws c there = (tells laws c).cooling entry.page entry there

pub entry_fits : {z : Shape} {v : View} {k : Provider} {entry : Cooling} → RowLaws → Keeps z v k → found entry.page k.queue ≡ Some entry → entry.frame < k.frames
entry_fits {entry = entry} laws c there = subst (λ n. entry.frame < n) c.sized.given (entry_is laws c there).within

pub not_hot : (x : Place) → is_cooling x ≡ true → is_hot x ≡ false
not_hot (Place.Hot f) h = absurd (true≢false (sym h))
not_hot (Place.Cooling f e w) h = refl
not_hot Place.Cold h = refl

pub is_judge : {z y : Shape} {v : View} {k : Provider} → y ≡ z → Keeps z v k → IsJudge y v
is_judge {v = v} same c = subst (λ (s : Shape). IsJudge s v) (sym same) (record { actor = c.actor; waiting = c.waiting; small = let a = c.epoch in omega arith })

module _ {z : Shape} {v u : View} {k : Provider} {entry : Cooling} {flushed number : ℕ} (laws : RowLaws) (c : Keeps z v k) (none : v.held ≡ []) (low : IsFlushed z flushed v) (there : found entry.page k.queue ≡ Some entry) (n : Numbers z v entry.frame number u) (free : u.held ≡ v.held) where
  now : Keeps z u k
  now = keeps_ran laws.stood laws.standing tt n.ran c

  here : IsFound (opening u.given) (state u).core entry.page entry
  here = entry_is laws now there

  number_is : number ≡ ((state u).core.page entry.page).gsn
  number_is = n.says entry.page here.below here.here

  pub judged_above : flushed < number → leaves.Tells z v entry.page leave.Above u
  judged_above few = record {
    ran = n.ran;
    held = free;
    says = λ alone. let a = number_is in let b = (flushed_ran laws none n.ran low).exact alone in omega arith;
  }

  module _ {y : Shape} {x : View} (same : y ≡ z) where
    all_ran : Ran y.alone u [] x → Ran z.alone v [] x
    all_ran r = ran_append z.alone v [] u [] x n.ran (subst (λ (s : Shape). Ran s.alone u [] x) same r)

    pub judged_yes : {workers : ℕ} → workers ≡ k.workers → number ≤ flushed → Ripens y u workers entry.epoch ripeness.Yes x → leaves.Tells z v entry.page leave.Yes x
    judged_yes {workers} many few r =
        let ran = all_ran r.ran in
        let on = subst (λ (s : Shape). Ran s.alone u [] x) same r.ran in
        let late = keeps_ran laws.stood laws.standing tt ran c in
        let f = entry_is laws late there in
        let all = late.workers.1 in
        record {
          ran = ran;
          held = r.held ∙ free;
          says = record {
            below = f.below;
            cooling = f.cooling;
            unwaited = λ w within. r.judged entry.page w (omega arith) (let e = f.epoch in omega arith);
            low =
                let a = number_is in
                let b = ap (λ p. p.gsn) ((ran_stood laws.stood now tt on).page entry.page (not_hot ((state u).core.place entry.page) here.cooling)) in
                let d = (flushed_ran laws none ran low).low in
                omega arith;
          };
        }

    pub judged_held : {w e workers : ℕ} → Ripens y u workers entry.epoch (ripeness.Held w e) x → leaves.Tells z v entry.page leave.Held x
    judged_held {w} {e} r =
        let ran = all_ran r.ran in
        let f = entry_is laws (keeps_ran laws.stood laws.standing tt ran c) there in
        let h = r.judged in
        record {
          ran = ran;
          held = r.held ∙ free;
          says = λ alone. record { worker = w; epoch = e; inside = h.inside; early = (let a = h.early in let b = f.epoch in omega arith) };
        }

-- ## Where nobody else steps

-- its number is above what is flushed everywhere, or it is held back by a worker
abbrev pub IsBack : View → ℕ → Type 0
IsBack v p = (flushed_by_all (opening v.given) (state v).core < ((state v).core.page p).gsn) ⊎ IsHeldBack (state v).core p

abbrev pub SomeHeld : View → Type 0
SomeHeld v = (p : ℕ) × (is_cooling ((state v).core.place p) ≡ true) × IsHeldBack (state v).core p

abbrev pub SomeAbove : View → Type 0
SomeAbove v = (p : ℕ) × (is_cooling ((state v).core.place p) ≡ true) × (flushed_by_all (opening v.given) (state v).core < ((state v).core.page p).gsn)

-- what is said of where a seat stands is so of another one that stands there
pub as_there : (v u : View) (P : Given → Moment → Type 0) → u.given ≡ v.given → state u ≡ state v → P v.given (state v) → P u.given (state u)
as_there v u P given same h = subst (λ (s : Given × Moment). P s.0 s.1) (λ i. (sym given i, sym same i)) h

pub none_same : (v u : View) {k : Provider} {held : ℕ} → u.given ≡ v.given → state u ≡ state v → NoneLeaves k held v → NoneLeaves k held u
none_same v u {k = k} {held = held} given same n = record {
  none = as_there v u (λ g m. NoneRipe (opening g) m.core) given same n.none;
  some_held = λ few. as_there v u (λ g m. (p : ℕ) × (is_cooling (m.core.place p) ≡ true) × IsHeldBack m.core p) given same (n.some_held few);
  some_above = λ few. as_there v u (λ g m. (p : ℕ) × (is_cooling (m.core.place p) ≡ true) × (flushed_by_all (opening g) m.core < (m.core.page p).gsn)) given same (n.some_above few);
}

-- ## The queue

found_at : (p : ℕ) (q : List Cooling) (x : Cooling) → found p q ≡ Some x → (j : ℕ) × (j < length q) × (slice_get q j ≡ Some x)
found_at p [] x e = absurd (cc)
found_at p (y ∷ ys) x e = go (λ k. found_at p ys x k) (y.page == p) e
  where
    go : (found p ys ≡ Some x → (j : ℕ) × (j < length ys) × (slice_get ys j ≡ Some x)) → (b : Bool) → (if b then Some y else found p ys) ≡ Some x → (j : ℕ) × (j < length (y ∷ ys)) × (slice_get (y ∷ ys) j ≡ Some x)
    go rest true k = (0, omega arith, k)
    go rest false k = let o = rest k in (suc o.0, (let a = o.1 in omega arith), o.2)

pub slice_some : (q : List Cooling) (i : ℕ) → i < length q → None ≡ slice_get q i → ⊥
slice_some [] i few e = omega arith
slice_some (x ∷ xs) zero few e = cc
slice_some (x ∷ xs) (suc i) few e = slice_some xs i (omega arith) e

-- a page that cools has an entry
cooling_entry : (p : ℕ) (x : Place) → is_cooling x ≡ true → (entry : Cooling) × (entry_of p x ≡ Some entry)
cooling_entry p (Place.Hot f) h = absurd (true≢false (sym h))
cooling_entry p (Place.Cooling f e w) h = (record { page = p; frame = f; epoch = e }, refl)
cooling_entry p Place.Cold h = absurd (true≢false (sym h))

-- The first pages of the queue were judged, and none of them can leave: what holds of them where nobody else steps is said at the
-- beginning of the walk.
pub record Walked (z : Shape) (v : View) (k : Provider) (i : ℕ) (next : Option Cooling) (held : ℕ) (u : View) : Type 0 where
  pub ran : Ran z.alone v [] u
  pub free : u.held ≡ v.held
  pub next_is : next ≡ slice_get k.queue i
  pub few : held ≤ i
  pub judged : z.alone ≡ true → (j : ℕ) (x : Cooling) → j < i → slice_get k.queue j ≡ Some x → IsBack v x.page
  pub some_held : z.alone ≡ true → 0 < held → SomeHeld v
  pub some_above : z.alone ≡ true → held < i → SomeAbove v

pub walked_none : {z : Shape} {v : View} {k : Provider} {next : Option Cooling} → next ≡ slice_get k.queue 0 → Walked z v k 0 next 0 v
walked_none {z = z} {v = v} e = record {
  ran = ran_none z.alone v;
  free = refl;
  next_is = e;
  few = omega arith;
  judged = λ alone j x few. absurd (omega arith);
  some_held = λ alone few. absurd (omega arith);
  some_above = λ alone few. absurd (omega arith);
}

module _ {z : Shape} {v u : View} {k : Provider} {i held : ℕ} {entry : Cooling} (laws : RowLaws) (c : Keeps z v k) (w : Walked z v k i (Some entry) held u) where
  pub walked_there : found entry.page k.queue ≡ Some entry
  walked_there = (laws.places k.queue (tells laws c).once i entry (sym w.next_is)).here

  pub walked_keeps : Keeps z u k
  walked_keeps = keeps_ran laws.stood laws.standing tt w.ran c

  walked_cools : is_cooling ((state v).core.place entry.page) ≡ true
  walked_cools = (entry_is laws c walked_there).cooling

  walked_next : {next : Option Cooling} → next ≡ slice_get (behind entry.page k.queue) 0 → next ≡ slice_get k.queue (i + 1)
  walked_next e = e ∙ ((laws.places k.queue (tells laws c).once i entry (sym w.next_is)).next ∙ ap (λ j. slice_get k.queue j) (sym (add-one i)))

  walked_judged : (z.alone ≡ true → IsBack v entry.page) → z.alone ≡ true → (j : ℕ) (y : Cooling) → j < i + 1 → slice_get k.queue j ≡ Some y → IsBack v y.page
  walked_judged this alone j y few is = elim (cases_lt j i) [
    | inl lt ↦ w.judged alone j y lt is
    | inr ge ↦
        let e : j ≡ i = omega arith in
        let both : Some y ≡ Some entry = sym is ∙ (ap (λ n. slice_get k.queue n) e ∙ sym w.next_is) in
        let same : y ≡ entry = cc in
        subst (λ (d : Cooling). IsBack v d.page) (sym same) (this alone)
  ]

  pub walked_above : {x : View} {next : Option Cooling} → leaves.Tells z u entry.page leave.Above x → next ≡ slice_get (behind entry.page k.queue) 0 → Walked z v k (i + 1) next held x
  walked_above {x} t e =
      let ran = ran_append z.alone v [] u [] x w.ran t.ran in
      let few = w.few in
      let this : z.alone ≡ true → flushed_by_all (opening v.given) (state v).core < ((state v).core.page entry.page).gsn = λ alone. as_there x v (λ g m. flushed_by_all (opening g) m.core < (m.core.page entry.page).gsn) (sym ran.given) (sym (same_state alone ran)) (t.says alone) in
      record {
        ran = ran;
        free = t.held ∙ w.free;
        next_is = walked_next e;
        few = omega arith;
        judged = walked_judged (λ alone. inl (this alone));
        some_held = w.some_held;
        some_above = λ alone more. (entry.page, walked_cools, this alone);
      }

  pub walked_held : {x : View} {next : Option Cooling} → leaves.Tells z u entry.page leave.Held x → next ≡ slice_get (behind entry.page k.queue) 0 → Walked z v k (i + 1) next (held + 1) x
  walked_held {x} t e =
      let ran = ran_append z.alone v [] u [] x w.ran t.ran in
      let few = w.few in
      let this : z.alone ≡ true → IsHeldBack (state v).core entry.page = λ alone. as_there x v (λ g m. IsHeldBack m.core entry.page) (sym ran.given) (sym (same_state alone ran)) (t.says alone) in
      record {
        ran = ran;
        free = t.held ∙ w.free;
        next_is = walked_next e;
        few = omega arith;
        judged = walked_judged (λ alone. inr (this alone));
        some_held = λ alone some. (entry.page, walked_cools, this alone);
        some_above = λ alone more. w.some_above alone (omega arith);
      }

  pub walked_yes : {x : View} → leaves.Tells z u entry.page leave.Yes x → Chose z v k (chosen.Page entry) x
  walked_yes {x} t = record { ran = ran_append z.alone v [] u [] x w.ran t.ran; held = t.held ∙ w.free; chooses = (t.says, walked_there) }

  pub walked_missed : {x : View} {why : Refusal} → Missed z u why x → MissedLater z v why x
  walked_missed m = record { at = u; came = w.ran; free = w.free; missed = m }

-- the whole queue
pub walked_all : {z : Shape} {v u : View} {k : Provider} {i held : ℕ} {next : Option Cooling} → RowLaws → Keeps z v k → i ≡ length k.queue → Walked z v k i next held u → Chose z v k (chosen.Nobody held) u
walked_all {z = z} {v = v} {u = u} {k = k} {i = i} {held = held} laws c all w = record {
  ran = w.ran;
  held = w.free;
  chooses = (
    (let few = w.few in omega arith),
    λ alone. none_same v u w.ran.given (same_state alone w.ran) (record {
      none = λ p below cools.
          let e = cooling_entry p ((state v).core.place p) cools in
          let there : found p k.queue ≡ Some e.0 = (tells laws c).told p ∙ e.1 in
          let at = found_at p k.queue e.0 there in
          let few = at.1 in
          subst (λ q. IsBack v q) ((tells laws c).cooling p e.0 there).page (w.judged alone at.0 e.0 (omega arith) at.2);
      some_held = w.some_held alone;
      some_above = λ few. w.some_above alone (omega arith);
    }),
  );
}

-- fewer than there are frames
pub walked_few : {z : Shape} {v u : View} {k : Provider} {i held : ℕ} {next : Option Cooling} → RowLaws → Keeps z v k → i < length k.queue → Walked z v k i next held u → held < k.frames
walked_few laws c few w = let a = w.few in let b = (tells laws c).fewer in let d = c.sized.given in omega arith

pub walked_some : {z : Shape} {v u : View} {k : Provider} {i held : ℕ} {next : Option Cooling} {entry : Cooling} → next ≡ Some entry → Walked z v k i next held u → Walked z v k i (Some entry) held u
walked_some {z = z} {v = v} {u = u} {k = k} {i = i} {held = held} is w = subst (λ (o : Option Cooling). Walked z v k i o held u) is w
