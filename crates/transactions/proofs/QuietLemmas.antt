-- Events that are no steps of a session leave it as it was; what a step makes of it.
use Rattle.std.proofs.Common.{◌≡◌, ◌⊎◌, ℕ, suc, Bool, true, false, cond, ◌==◌, List, [], ◌∷◌, ◌++◌, refl, sym, ap, ◌∙◌, subst, inl, inr}
use Rattle.std.proofs.lemmas.Bool.{cases_eq, cond-true, cond-false, and_parts, ne_eqb, eq-eqb}
use Rattle.map_model.specs.Lists.{upd}
use Rattle.map_model.specs.Maps.{MapAnswer}
use Rattle.core_state.specs.image_model.Entries.{Kind, Entry}
use Rattle.page_model.specs.Records.{Record}
use Rattle.core_state.specs.States.{State, Worker, Row}
use Rattle.core_state.specs.Openings.{Opening}
use Rattle.core_state.specs.Events.{Event}
use Rattle.core_state.specs.Needs.{holds_row, is_held_by, may, may_hold}
use Rattle.core_state.specs.Steps.{at_pages, at_row, begun, finished, locked, unlocked, moves, write_entry, put_back, follows, happens, step, run, AllMet}
use Rattle.transactions.specs.Kinds.{AllMay}
use Rattle.transactions.specs.Steps.{is_step_of, AreQuiet, steps_of, is_half_after}
use Rattle.transactions.proofs.RowLemmas.{upd_other, swap_ne, Stays, lock_stays, unlock_stays}

-- ## One state after another

pub record Same (w : ℕ) (s t : State) : Type 0 where
  pub txn : (t.worker w).txn ≡ (s.worker w).txn
  pub is_open : (t.worker w).is_open ≡ (s.worker w).is_open
  pub changes : (t.worker w).changes ≡ (s.worker w).changes
  pub holds : (i : ℕ) → holds_row (t.row i) w ≡ holds_row (s.row i) w
  pub alone : (i : ℕ) → is_held_by (t.row i).holder w ≡ is_held_by (s.row i).holder w

pub same_then : (w : ℕ) (s t u : State) → Same w s t → Same w t u → Same w s u
same_then w s t u a b = record { txn = b.txn ∙ a.txn; is_open = b.is_open ∙ a.is_open; changes = b.changes ∙ a.changes; holds = λ i. b.holds i ∙ a.holds i; alone = λ i. b.alone i ∙ a.alone i }

pub same_self : (w : ℕ) (s : State) → Same w s s
same_self w s = record { txn = refl; is_open = refl; changes = refl; holds = λ i. refl; alone = λ i. refl }

-- the worker, for what a transaction is
pub record Alike (a b : Worker) : Type 0 where
  pub txn : b.txn ≡ a.txn
  pub is_open : b.is_open ≡ a.is_open
  pub changes : b.changes ≡ a.changes

pub alike_pages : (s : State) (w : ℕ) (a : Worker) (ps : List ℕ) → Alike a (at_pages s w a ps)
alike_pages s w a [] = record { txn = refl; is_open = refl; changes = refl }
alike_pages s w a (p ∷ ps) = let h = alike_pages s w a ps in record { txn = h.txn; is_open = h.is_open; changes = h.changes }

alike_upd : (f : ℕ → Worker) (v w : ℕ) (b : Worker) → Alike (f v) b → Alike (f w) (upd f v b w)
alike_upd f v w b h = go (cases_eq w v)
  where
    go : (w ≡ v) ⊎ (w ≡ v → ⊥) → Alike (f w) (upd f v b w)
    go (inl e) = subst (λ (x : Worker). Alike (f w) x) (sym (cond-true (w == v) b (f w) (eq-eqb w v e))) (subst (λ (i : ℕ). Alike (f i) b) (sym e) h)
    go (inr n) = subst (λ (x : Worker). Alike (f w) x) (sym (cond-false (w == v) b (f w) (ne_eqb w v n))) (record { txn = refl; is_open = refl; changes = refl })

alike_other : (f : ℕ → Worker) (v w : ℕ) (b : Worker) → (v == w) ≡ false → Alike (f w) (upd f v b w)
alike_other f v w b n = subst (λ (x : Worker). Alike (f w) x) (sym (upd_other f v b w (swap_ne v w n))) (record { txn = refl; is_open = refl; changes = refl })

-- rows are as they were
by_worker : (w : ℕ) (s t : State) → t.row ≡ s.row → Alike (s.worker w) (t.worker w) → Same w s t
by_worker w s t r h = record { txn = h.txn; is_open = h.is_open; changes = h.changes; holds = λ i. ap (λ (f : ℕ → Row). holds_row (f i) w) r; alone = λ i. ap (λ (f : ℕ → Row). is_held_by (f i).holder w) r }

by_row : (w : ℕ) (s t : State) (i : ℕ) (o : Row) → t.row ≡ upd s.row i o → Stays w (s.row i) o → Alike (s.worker w) (t.worker w) → Same w s t
by_row w s t i o r st h = record {
  txn = h.txn;
  is_open = h.is_open;
  changes = h.changes;
  holds = λ j. ap (λ (f : ℕ → Row). holds_row (f j) w) r ∙ at (λ (x : Row). holds_row x w) st.holds j;
  alone = λ j. ap (λ (f : ℕ → Row). is_held_by (f j).holder w) r ∙ at (λ (x : Row). is_held_by x.holder w) st.alone j;
}
  where
    at : (P : Row → Bool) → P o ≡ P (s.row i) → (j : ℕ) → P (upd s.row i o j) ≡ P (s.row j)
    at P e j = go (cases_eq j i)
      where
        go : (j ≡ i) ⊎ (j ≡ i → ⊥) → P (upd s.row i o j) ≡ P (s.row j)
        go (inl q) = ap P (cond-true (j == i) o (s.row j) (eq-eqb j i q)) ∙ (e ∙ ap (λ (x : ℕ). P (s.row x)) (sym q))
        go (inr n) = ap P (cond-false (j == i) o (s.row j) (ne_eqb j i n))

moved : (s : State) (kind : Kind) (v w : ℕ) (ps : List ℕ) (x : Record) → Same w s (moves s kind v ps x)
moved s kind v w ps x =
    let a = at_pages s v (s.worker v) ps in
    let h = alike_pages s v (s.worker v) ps in
    by_worker w s (moves s kind v ps x) refl (alike_upd s.worker v w (record a { clock = suc a.clock; changes = a.changes }) (record { txn = h.txn; is_open = h.is_open; changes = h.changes }))

quiet_event : (g : Opening) (s : State) (w : ℕ) (e : Event) → is_step_of w e ≡ false → may g s e ≡ true → Same w s (happens g s e)
quiet_event g s w (Event.Begin v f) q m = by_worker w s (happens g s (Event.Begin v f)) refl (alike_other s.worker v w (begun (s.worker v) f) q)
quiet_event g s w (Event.Lock v i mode) q m =
    by_row w s (happens g s (Event.Lock v i mode)) i (locked (s.row i) v mode) refl (lock_stays (s.row i) v w q mode (and_parts (s.worker v).is_open (may_hold (s.row i) v mode) m).1)
    (alike_other s.worker v w (at_row v (s.worker v) (s.row i)) q)
quiet_event g s w (Event.Read v p k a) q m = by_worker w s (happens g s (Event.Read v p k a)) refl (alike_other s.worker v w (at_pages s v (s.worker v) (p ∷ [])) q)
quiet_event g s w (Event.Next v p k a) q m = go a
  where
    go : (a : MapAnswer) → Same w s (follows g s v p a)
    go (MapAnswer.Pair at word) = by_worker w s (follows g s v p (MapAnswer.Pair at word)) refl (alike_other s.worker v w (at_pages s v (s.worker v) (p ∷ [])) q)
    go (MapAnswer.Gap h) = by_worker w s (follows g s v p (MapAnswer.Gap h)) refl (alike_other s.worker v w (at_pages s v (s.worker v) (p ∷ [])) q)
    go (MapAnswer.Value h) = same_self w s
    go (MapAnswer.Was h) = same_self w s
quiet_event g s w (Event.Change v p k x) q m =
    let a = at_pages s v (s.worker v) (p ∷ []) in
    let r = write_entry g Kind.Change s v a p k x in
    by_worker w s (happens g s (Event.Change v p k x)) refl (alike_other s.worker v w (record a { clock = r.number; changes = r ∷ (s.worker v).changes }) q)
quiet_event g s w (Event.Put_back v p) q m = go (s.worker v).changes
  where
    go : (cs : List Entry) → Same w s (put_back g s v p cs)
    go [] = same_self w s
    go (c ∷ cs) =
        let a = at_pages s v (s.worker v) (p ∷ []) in
        by_worker w s (put_back g s v p (c ∷ cs)) refl (alike_other s.worker v w (record a { clock = suc a.clock; changes = cs }) q)
quiet_event g s w (Event.End v commit f) q m = by_worker w s (happens g s (Event.End v commit f)) refl (alike_other s.worker v w (finished (s.worker v) (suc (s.worker v).clock)) q)
quiet_event g s w (Event.Unlock v i) q m =
    by_row w s (happens g s (Event.Unlock v i)) i (unlocked (s.row i) v (s.worker v).end) refl (unlock_stays (s.row i) v w (s.worker v).end q) (record { txn = refl; is_open = refl; changes = refl })
quiet_event g s w (Event.Split v l r p i) q m = moved s Kind.Split v w (l ∷ r ∷ p ∷ []) _
quiet_event g s w (Event.Lift v c) q m = moved s Kind.Lift v w (0 ∷ c ∷ []) _
quiet_event g s w (Event.Join v l r p) q m = moved s Kind.Join v w (l ∷ r ∷ p ∷ []) _
quiet_event g s w (Event.Drop v c) q m = moved s Kind.Drop v w (0 ∷ c ∷ []) _
quiet_event g s w (Event.Purge v p keys) q m = moved s Kind.Purge v w (p ∷ []) _
quiet_event g s w _ q m = record { txn = refl; is_open = refl; changes = refl; holds = λ i. refl; alone = λ i. refl }

-- an event whose need is met happens
pub stepped : (g : Opening) (s : State) (e : Event) → may g s e ≡ true → step g s e ≡ happens g s e
stepped g s e m = cond-true (may g s e) (happens g s e) s m

pub quiet_run : (g : Opening) (s : State) (w : ℕ) (es : List Event) → AllMet g s es → AreQuiet w es → Same w s (run g s es)
quiet_run g s w [] m q = same_self w s
quiet_run g s w (e ∷ es) m q =
    same_then w s (step g s e) (run g (step g s e) es) (subst (λ (t : State). Same w s t) (sym (stepped g s e m.0)) (quiet_event g s w e q.0 m.0)) (quiet_run g (step g s e) w es m.1 q.1)

-- ## Lists

pub met_parts : (g : Opening) (s : State) (a b : List Event) → AllMet g s (a ++ b) → AllMet g s a × AllMet g (run g s a) b
met_parts g s [] b m = (tt, m)
met_parts g s (e ∷ a) b m = let ps = met_parts g (step g s e) a b m.1 in ((m.0, ps.0), ps.1)

pub met_from : (g : Opening) (s : State) (a b : List Event) → AllMet g s a → AllMet g (run g s a) b → AllMet g s (a ++ b)
met_from g s [] b m n = n
met_from g s (e ∷ a) b m n = (m.0, met_from g (step g s e) a b m.1 n)

pub steps_more : (w : ℕ) (a b : List Event) → steps_of w (a ++ b) ≡ steps_of w a ++ steps_of w b
steps_more w [] b = refl
steps_more w (e ∷ a) b = go (is_step_of w e) (steps_more w a b)
  where
    go : (c : Bool) → steps_of w (a ++ b) ≡ steps_of w a ++ steps_of w b → cond c (e ∷ steps_of w (a ++ b)) (steps_of w (a ++ b)) ≡ cond c (e ∷ steps_of w a) (steps_of w a) ++ steps_of w b
    go true ih = ap (λ (l : List Event). e ∷ l) ih
    go false ih = ih

pub quiet_steps : (w : ℕ) (a : List Event) → AreQuiet w a → steps_of w a ≡ []
quiet_steps w [] q = refl
quiet_steps w (e ∷ a) q = cond-false (is_step_of w e) (e ∷ steps_of w a) (steps_of w a) q.0 ∙ quiet_steps w a q.1

pub quiet_more : (w : ℕ) (a b : List Event) → AreQuiet w a → AreQuiet w b → AreQuiet w (a ++ b)
quiet_more w [] b p q = q
quiet_more w (e ∷ a) b p q = (p.0, quiet_more w a b p.1 q)

pub may_more : (p : Event → Bool) (a b : List Event) → AllMay p a → AllMay p b → AllMay p (a ++ b)
may_more p [] b h k = k
may_more p (e ∷ a) b h k = (h.0, may_more p a b h.1 k)

-- ## Whether an abort is half done

pub half_more : (w : ℕ) (b : Bool) (xs ys : List Event) → is_half_after w b (xs ++ ys) ≡ is_half_after w (is_half_after w b xs) ys
half_more w b [] ys = refl
half_more w b (Event.Begin v f ∷ xs) ys = half_more w (cond (v == w) false b) xs ys
half_more w b (Event.Put_back v p ∷ xs) ys = half_more w (cond (v == w) true b) xs ys
half_more w b (Event.End v commit f ∷ xs) ys = half_more w (cond (v == w) false b) xs ys
half_more w b (_ ∷ xs) ys = half_more w b xs ys

half_quiet : (w : ℕ) (b : Bool) (e : Event) (es : List Event) → is_step_of w e ≡ false → is_half_after w b (e ∷ es) ≡ is_half_after w b es
half_quiet w b (Event.Begin v f) es q = ap (λ h. is_half_after w h es) (cond-false (v == w) false b q)
half_quiet w b (Event.Put_back v p) es q = ap (λ h. is_half_after w h es) (cond-false (v == w) true b q)
half_quiet w b (Event.End v commit f) es q = ap (λ h. is_half_after w h es) (cond-false (v == w) false b q)
half_quiet w b _ es q = refl

pub half_same : (w : ℕ) (b : Bool) (es : List Event) → AreQuiet w es → is_half_after w b es ≡ b
half_same w b [] q = refl
half_same w b (e ∷ es) q = half_quiet w b e es q.0 ∙ half_same w b es q.1
