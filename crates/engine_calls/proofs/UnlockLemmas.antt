-- Rows that are given back, and the flush behind them: what that leaves of the state.
use Rattle.std.proofs.Common.{◌≡◌, ℕ, Bool, true, false, cond, ◌==◌, List, [], ◌∷◌, ◌++◌, refl, sym, ap, ◌∙◌, true≢false}
use Rattle.map_model.specs.Lists.{all, any, keep}
use Rattle.run_crashes.specs.image_model.Entries.{Entry}
use Rattle.run_crashes.specs.core_state.Openings.{Opening}
use Rattle.run_crashes.specs.core_state.States.{Row, State}
use Rattle.run_crashes.specs.core_state.Events.{Event}
use Rattle.run_crashes.specs.core_state.Needs.{may}
use Rattle.run_crashes.specs.core_state.Steps.{AllMet, happens, run, step}
use Rattle.run_crashes.specs.core_calls.Fronts.{AreFresh}
use Rattle.run_crashes.specs.core_calls.LogEvents.{is_log}
use Rattle.run_crashes.specs.core_calls.Marks.{Mark, marks}
use Rattle.run_crashes.specs.core_calls.Steps.{Unlocks, is_step, is_structure}
use Rattle.run_crashes.specs.disk_runs.Quiet.{is_quiet}
use Rattle.engine_calls.specs.Commits.{flush_if, unlocks}
use Rattle.engine_calls.proofs.MarkLemmas.{has_mark}

pub if_met : (b : Bool) → b ≡ true → (s t : State) → cond b t s ≡ t
if_met true e s t = refl
if_met false e s t = absurd (true≢false (sym e))

pub are_unlocks : (w : ℕ) (rows : List ℕ) → Unlocks w (unlocks w rows)
are_unlocks w [] = tt
are_unlocks w (i ∷ rows) = (refl, are_unlocks w rows)

pub no_log : (w : ℕ) (rows : List ℕ) → any is_log (unlocks w rows) ≡ false
no_log w [] = refl
no_log w (i ∷ rows) = no_log w rows

same_if : (b : Bool) (s t : State) (A : Type 0) (f : State → A) → f t ≡ f s → f (cond b t s) ≡ f s
same_if true s t A f e = e
same_if false s t A f e = refl

-- logs are as they were
pub entries_same : (g : Opening) (w : ℕ) (rows : List ℕ) (s : State) → (run g s (unlocks w rows)).entries ≡ s.entries
entries_same g w [] s = refl
entries_same g w (i ∷ rows) s = entries_same g w rows (step g s (Event.Unlock w i))
    ∙ same_if (may g s (Event.Unlock w i)) s (happens g s (Event.Unlock w i)) (List Entry) (λ t. t.entries) refl

pub flushed_same : (g : Opening) (w : ℕ) (rows : List ℕ) (s : State) → (run g s (unlocks w rows)).flushed ≡ s.flushed
flushed_same g w [] s = refl
flushed_same g w (i ∷ rows) s = flushed_same g w rows (step g s (Event.Unlock w i))
    ∙ same_if (may g s (Event.Unlock w i)) s (happens g s (Event.Unlock w i)) (ℕ → ℕ) (λ t. t.flushed) refl

pub unlocks_none : (w : ℕ) (rows : List ℕ) → any has_mark (unlocks w rows) ≡ false
unlocks_none w [] = refl
unlocks_none w (i ∷ rows) = unlocks_none w rows

pub unlocks_structure : (w : ℕ) (rows : List ℕ) → any is_structure (unlocks w rows) ≡ false
unlocks_structure w [] = refl
unlocks_structure w (i ∷ rows) = unlocks_structure w rows

pub unlocks_steps : (w : ℕ) (rows : List ℕ) → keep is_step (unlocks w rows) ≡ unlocks w rows
unlocks_steps w [] = refl
unlocks_steps w (i ∷ rows) = ap (λ (es : List Event). Event.Unlock w i ∷ es) (unlocks_steps w rows)

pub unlocks_quiet : (w : ℕ) (rows : List ℕ) → all is_quiet (unlocks w rows) ≡ true
unlocks_quiet w [] = refl
unlocks_quiet w (i ∷ rows) = unlocks_quiet w rows

pub unlocks_logs : (w : ℕ) (rows : List ℕ) → any is_log (unlocks w rows) ≡ false
unlocks_logs w [] = refl
unlocks_logs w (i ∷ rows) = unlocks_logs w rows

-- ## And a flush, if one is due

abbrev behind_end : (due : Bool) → (w at : ℕ) → List ℕ → List Event
behind_end due w at rows = unlocks w rows ++ flush_if due w at

pub steps_are : (due : Bool) (w at : ℕ) (rows : List ℕ) → keep is_step (behind_end due w at rows) ≡ unlocks w rows
steps_are true w at [] = refl
steps_are false w at [] = refl
steps_are due w at (i ∷ rows) = ap (λ (k : List Event). Event.Unlock w i ∷ k) (steps_are due w at rows)

pub no_structure : (due : Bool) (w at : ℕ) (rows : List ℕ) → any is_structure (behind_end due w at rows) ≡ false
no_structure true w at [] = refl
no_structure false w at [] = refl
no_structure due w at (i ∷ rows) = no_structure due w at rows

no_mark : (a b : Bool) (ms : List Mark) → cond a (cond b ms ms) ms ≡ ms
no_mark true true ms = refl
no_mark true false ms = refl
no_mark false b ms = refl

-- no transaction is told of
pub no_marks : (g : Opening) (due : Bool) (w at : ℕ) (rows : List ℕ) (s : State) (v : ℕ) (ms : List Mark) → marks g s (behind_end due w at rows) v ms ≡ ms
no_marks g true w at [] s v ms = no_mark (may g s (Event.Flush w at)) (w == v) ms
no_marks g false w at [] s v ms = refl
no_marks g due w at (i ∷ rows) s v ms =
    no_marks g due w at rows (step g s (Event.Unlock w i)) v (cond (may g s (Event.Unlock w i)) (cond (w == v) ms ms) ms)
    ∙ no_mark (may g s (Event.Unlock w i)) (w == v) ms

pub met_behind : (g : Opening) (due : Bool) (w at : ℕ) (rows : List ℕ) (s : State) → AllMet g s (unlocks w rows) → may g (run g s (unlocks w rows)) (Event.Flush w at) ≡ true → AllMet g s (behind_end due w at rows)
met_behind g true w at [] s m q = (q, tt)
met_behind g false w at [] s m q = tt
met_behind g due w at (i ∷ rows) s m q = (m.0, met_behind g due w at rows (step g s (Event.Unlock w i)) m.1 q)

pub fresh_behind : (g : Opening) (due : Bool) (w at : ℕ) (rows : List ℕ) (s : State) → AreFresh g s (behind_end due w at rows)
fresh_behind g true w at [] s = (tt, tt)
fresh_behind g false w at [] s = tt
fresh_behind g due w at (i ∷ rows) s = (tt, fresh_behind g due w at rows (step g s (Event.Unlock w i)))

-- rows are as they were
pub row_same : (g : Opening) (due : Bool) (w at : ℕ) (s : State) (j : ℕ) → (run g s (flush_if due w at)).row j ≡ s.row j
row_same g false w at s j = refl
row_same g true w at s j = same_if (may g s (Event.Flush w at)) s (happens g s (Event.Flush w at)) Row (λ t. t.row j) refl
