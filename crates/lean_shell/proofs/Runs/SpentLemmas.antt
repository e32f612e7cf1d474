-- So few calls, with so few steps of scans, have too few events for a latch to be spent.
use Rattle.std.proofs.Common.{◌≡◌, ◌≤◌, ◌<◌, ◌+◌, ◌*◌, ◌^◌, ℕ, Bool, true, false, cond, not, inl, inr, List, [], ◌∷◌, length, refl, sym, ◌∙◌, ap, subst, arith}
use Rattle.std.proofs.lemmas.List.{append-nil, length-append}
use Rattle.map_model.specs.declared.call.Answer.TheVariants as answer
use Rattle.map_model.specs.declared.call.Refusal.{Refusal}
use Rattle.map_model.specs.declared.call.Refusal.TheVariants.{RowSpent}
use Rattle.map_model.specs.Lists.{Has, keep}
use Rattle.map_model.specs.Pairings.{script_of}
use Rattle.buffered_engine.specs.core_state.Events.{Event}
use Rattle.buffered_engine.specs.core_state.Openings.{Opening}
use Rattle.buffered_engine.specs.core_calls.Deeds.{Deed, Refused, answered, asked}
use Rattle.buffered_engine.specs.core_calls.Fronts.{Done, front}
use Rattle.buffered_engine.specs.core_calls.LineCounts.{EveryLineCount, asks_no_scan, is_scan_call}
use Rattle.buffered_engine.specs.core_calls.Runs.{EachTells, IsRefused, Tells}
use Rattle.buffered_engine.specs.engine_trait.Limits.{limits}
use Rattle.script_run.specs.Runs.{Executes, calls_of}
use Rattle.buffered_engine.specs.call_parts.Memory.{Memory}
use Rattle.buffered_engine.specs.call_parts.Rooms.{most_of}
use Rattle.lean_shell.specs.Runs.{asks_scan, steps_of_scans}
use Rattle.lean_shell.proofs.Runs.CountLemmas.{most_any, most_other, others}

same_why : (a b : Refusal) → answer.Refused a ≡ answer.Refused b → a ≡ b
same_why a b e = cc

-- such a refusal comes late
is_late : (g : Opening) (xs : List Done) (x : Done) (d : Deed) → answered d ≡ answer.Refused RowSpent → IsRefused limits g xs x d → 2 ^ 61 ≤ length (front xs) + length x.events
is_late g xs x (Refused c why backs) e r =
    let q = subst (λ (w : Refusal). IsRefused limits g xs x (Refused c w backs)) (same_why why RowSpent e) r in
    let own = ap (λ (es : List Event). length es) q.2 in
    let split = length-append q.0 q.1 in
    let all = length-append (front xs) q.0 in
    let late = q.3 in
    omega (arith, own, split, all, late)
is_late g xs x _ e r = absurd (cc)

-- each call has few events, and a step of a scan has more
pub few_events : (g : Opening) (group : ℕ) (first : Memory) (xs : List Done) (last : Memory) → Executes g group [] first xs last → length (front xs) ≤ 2 ^ 18 * others xs + 2 ^ 26 * steps_of_scans xs
few_events g group first [] last e = omega arith
few_events g group first (x ∷ earlier) last e = go (is_scan_call (asked x.outcome.deed)) refl (few_events g group first earlier e.0 e.1)
  where
    all : length (front (x ∷ earlier)) ≡ length (front earlier) + length x.events
    all = length-append (front earlier) x.events

    own : length x.events ≤ most_of (asked x.outcome.deed)
    own = e.2.how.few

    go : (b : Bool) → is_scan_call (asked x.outcome.deed) ≡ b → length (front earlier) ≤ 2 ^ 18 * others earlier + 2 ^ 26 * steps_of_scans earlier
        → length (front (x ∷ earlier)) ≤ 2 ^ 18 * length (cond (not b) (x ∷ keep asks_no_scan earlier) (keep asks_no_scan earlier)) + 2 ^ 26 * length (cond b (x ∷ keep asks_scan earlier) (keep asks_scan earlier))
    go true is before = let a = all in let o = own in let m = most_any (asked x.outcome.deed) in omega (arith, before, a, o, m)
    go false is before = let a = all in let o = own in let m = most_other (asked x.outcome.deed) is in omega (arith, before, a, o, m)

none_before : (g : Opening) (group : ℕ) (first : Memory) (xs : List Done) (last : Memory) → Executes g group [] first xs last → length (front xs) < 2 ^ 61 → (x : Done) → Has x xs → answered x.outcome.deed ≡ answer.Refused RowSpent → ⊥
none_before g group first [] last e few x h a = absurd h
none_before g group first (y ∷ earlier) last e few x (inl is) a =
    let t = subst (λ (ys : List Done). Tells limits g group ys y) (append-nil earlier) e.2.tells in
    let late = is_late g earlier y y.outcome.deed (sym (ap (λ (z : Done). answered z.outcome.deed) is) ∙ a) t.refused in
    let all = length-append (front earlier) y.events in
    omega (arith, late, all, few)
none_before g group first (y ∷ earlier) last e few x (inr h) a = none_before g group first earlier e.0 e.1 (let all = length-append (front earlier) y.events in omega (arith, few, all)) x h a

pub none_spent : EveryLineCount → (g : Opening) (group : ℕ) (first : Memory) (xs : List Done) (last : Memory) → Executes g group [] first xs last → EachTells limits g group xs → length (script_of (calls_of xs)) < 2 ^ 40 → steps_of_scans xs ≤ 2 ^ 34
    → (x : Done) → Has x xs → answered x.outcome.deed ≡ answer.Refused RowSpent → ⊥
none_spent counts g group first xs last e each few scans =
    let a = few_events g group first xs last e in
    let m : others xs ≤ 2 * length (script_of (calls_of xs)) = (counts limits g group xs each).others in
    none_before g group first xs last e (omega (arith, a, m, few, scans))
