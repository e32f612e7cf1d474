-- How many numbers a run draws, and how many masters it writes: few, whatever the events of its scans.
use Rattle.std.proofs.Common.{◌≡◌, ◌≤◌, ◌<◌, ◌+◌, ◌*◌, ◌^◌, ℕ, suc, Bool, true, false, cond, not, List, [], ◌∷◌, length, refl, sym, subst, arith, true≢false}
use Rattle.std.proofs.lemmas.List.{append-nil}
use Rattle.map_model.specs.declared.call.Call.{Call}
use Rattle.map_model.specs.declared.call.Call.TheVariants as call
use Rattle.map_model.specs.Lists.{keep}
use Rattle.map_model.specs.Pairings.{script_of}
use Rattle.buffered_engine.specs.core_state.Events.{Event}
use Rattle.buffered_engine.specs.core_state.Openings.{Opening}
use Rattle.buffered_engine.specs.core_calls.Deeds.{asked}
use Rattle.buffered_engine.specs.core_calls.Fronts.{Done, front}
use Rattle.buffered_engine.specs.core_calls.LineCounts.{EveryLineCount, asks_no_scan, is_scan_call}
use Rattle.buffered_engine.specs.core_calls.Runs.{EachTells, Tells}
use Rattle.buffered_engine.specs.disk_runs.Masters.{masters}
use Rattle.buffered_engine.proofs.disk_runs.LineLemmas.{every_master_count}
use Rattle.buffered_engine.specs.call_parts.Memory.{Memory}
use Rattle.buffered_engine.specs.call_parts.Rooms.{most_of}
use Rattle.buffered_engine.specs.engine_trait.Limits.{limits}
use Rattle.event_counts.specs.Draws.{EveryDraw, draws}
use Rattle.event_counts.specs.Scans.{EveryScanCount}
use Rattle.script_run.specs.Runs.{Executes, calls_of}

-- ## Events of a call

pub most_other : (c : Call) → is_scan_call c ≡ false → most_of c ≡ 2 ^ 18
most_other (call.Scan from to) e = absurd (true≢false e)
most_other _ e = refl

pub most_any : (c : Call) → most_of c ≤ 2 ^ 26
most_any (call.Scan from to) = omega arith
most_any _ = omega arith

abbrev IsScan : Call → Type 0
IsScan c = (from : ℕ) × (to : ℕ) × (c ≡ call.Scan from to)

scan_is : (c : Call) → is_scan_call c ≡ true → IsScan c
scan_is (call.Scan from to) e = (from, to, refl)
scan_is _ e = absurd (true≢false (sym e))

-- ## Of a run

-- the answers that are to no scan
abbrev pub others : List Done → ℕ
others xs = length (keep asks_no_scan xs)

-- few numbers are drawn by these events, and few masters written
pub record TakesFew (es : List Event) : Type 0 where
  pub draw : draws es ≤ 2 ^ 59 + 2 ^ 54
  pub write : masters es ≤ 2 ^ 59 + 2 ^ 54

module _ (law : EveryDraw) (scans : EveryScanCount) (g : Opening) (group : ℕ) (frames : 24 + suc g.format.levels ≤ g.frames) (changes : g.changes ≡ 64) where
  taken : (first : Memory) (xs : List Done) (last : Memory) → Executes g group [] first xs last
      → (draws (front xs) ≤ 2 ^ 18 * others xs + 65 * length xs) × (masters (front xs) ≤ 2 ^ 18 * others xs + 3 * length xs)
  taken first [] last e = (omega arith, omega arith)
  taken first (x ∷ earlier) last e = go (is_scan_call (asked x.outcome.deed)) refl (taken first earlier e.0 e.1)
    where
      tells : Tells limits g group earlier x
      tells = subst (λ (ys : List Done). Tells limits g group ys x) (append-nil earlier) e.2.tells

      drawn : draws (front (x ∷ earlier)) ≡ draws (front earlier) + draws x.events
      drawn = (law g (front earlier) x.events).more

      written : masters (front (x ∷ earlier)) ≡ masters (front earlier) + masters x.events
      written = (every_master_count (front earlier) x.events).more

      few : length x.events ≤ most_of (asked x.outcome.deed)
      few = e.2.how.few

      go : (b : Bool) → is_scan_call (asked x.outcome.deed) ≡ b → (draws (front earlier) ≤ 2 ^ 18 * others earlier + 65 * length earlier) × (masters (front earlier) ≤ 2 ^ 18 * others earlier + 3 * length earlier)
          → (draws (front (x ∷ earlier)) ≤ 2 ^ 18 * length (cond (not b) (x ∷ keep asks_no_scan earlier) (keep asks_no_scan earlier)) + 65 * suc (length earlier))
          × (masters (front (x ∷ earlier)) ≤ 2 ^ 18 * length (cond (not b) (x ∷ keep asks_no_scan earlier) (keep asks_no_scan earlier)) + 3 * suc (length earlier))
      go true is ih =
          let s = scan_is (asked x.outcome.deed) is in
          let n = (scans limits g group earlier x s.0 s.1 frames (omega (arith, changes)) tells s.2).few in
          let a = n.0 in let b = n.1 in let c = ih.0 in let d = ih.1 in let p = drawn in let q = written in let k = changes in
          (omega (arith, a, c, p, k), omega (arith, b, d, q))
      go false is ih =
          let f = few in let m = most_other (asked x.outcome.deed) is in
          let a = (law g x.events []).few in let b = (every_master_count x.events []).few in let c = ih.0 in let d = ih.1 in let p = drawn in let q = written in
          (omega (arith, a, f, m, c, p), omega (arith, b, f, m, d, q))

  -- to fewer than 2^40 lines
  pub few_taken : EveryLineCount → (first : Memory) (xs : List Done) (last : Memory) → Executes g group [] first xs last → EachTells limits g group xs → length (script_of (calls_of xs)) < 2 ^ 40
      → (draws (front xs) + 2 ^ 26 ≤ 2 ^ 59 + 2 ^ 54) × (masters (front xs) + 2 ^ 26 ≤ 2 ^ 59 + 2 ^ 54)
  few_taken counts first xs last e each few =
      let t = taken first xs last e in
      let a = t.0 in let b = t.1 in
      let n : length xs ≤ 66 * length (script_of (calls_of xs)) = (counts limits g group xs each).answers in
      let m : others xs ≤ 2 * length (script_of (calls_of xs)) = (counts limits g group xs each).others in
      (omega (arith, a, n, m, few), omega (arith, b, n, m, few))

-- so with one more that was not answered
pub with_own : EveryDraw → (g : Opening) (xs : List Done) (x : Done) → (draws (front xs) + 2 ^ 26 ≤ 2 ^ 59 + 2 ^ 54) × (masters (front xs) + 2 ^ 26 ≤ 2 ^ 59 + 2 ^ 54) → length x.events ≤ 2 ^ 26 → TakesFew (front (x ∷ xs))
with_own law g xs x t few = record {
  draw = let a = t.0 in let b = (law g (front xs) x.events).more in let c = (law g x.events []).few in omega (arith, a, b, c, few);
  write = let a = t.1 in let b = (every_master_count (front xs) x.events).more in let c = (every_master_count x.events []).few in omega (arith, a, b, c, few);
}

pub all_few : (es : List Event) → (draws es + 2 ^ 26 ≤ 2 ^ 59 + 2 ^ 54) × (masters es + 2 ^ 26 ≤ 2 ^ 59 + 2 ^ 54) → TakesFew es
all_few es t = let a = t.0 in let b = t.1 in record { draw = omega arith; write = omega arith }
