-- What is counted, answer by answer.
use Rattle.std.proofs.Common.{◌≡◌, ◌≤◌, ◌+◌, [], ◌∷◌, Bool, true, false, cond, List, length, refl, ap, ◌∙◌, subst, arith}
use Rattle.call_parts.specs.core_calls.Fronts.{Done}
use Rattle.engine_front.specs.Turns.{IsNext, IsScanning}
use Rattle.engine_front.specs.declared.calls.Next.{Next}
use Rattle.engine_front.specs.declared.calls.Next.TheVariants as next
use Rattle.script_run.specs.Runs.{calls_of}
use Rattle.map_model.specs.declared.call.Answer.{Answer}
use Rattle.map_model.specs.declared.call.Answer.TheVariants as answer
use Rattle.map_model.specs.declared.call.Answered.{Answered}
use Rattle.map_model.specs.declared.call.Call.{Call}
use Rattle.map_model.specs.declared.call.Call.TheVariants as call
use Rattle.map_model.specs.Pairings.{is_open_line}
use Rattle.workload_run.specs.Counts.{begun_in, draw_refusals, is_refusal, pairs_by, pairs_in, refusals_by, refused_in}

-- ## As many as there are answers

few_begun : (b : Bool) (a : Answer) → draw_refusals b a ≤ 1
few_begun false a = omega arith
few_begun true a = go (is_refusal a)
  where
    go : (r : Bool) → cond r 1 0 ≤ 1
    go true = omega arith
    go false = omega arith

few_refusals : (b : Bool) (c : Call) (a : Answer) → refusals_by b c a ≤ 1
few_refusals b (call.Get key) a = few_begun b a
few_refusals b (call.Put key value) a = few_begun b a
few_refusals b (call.Del key) a = few_begun b a
few_refusals b _ a = omega arith

few_pairs : (a : Answer) → pairs_by a ≤ 1
few_pairs (answer.Pair key value) = omega arith
few_pairs _ = omega arith

pub refused_few : (xs : List Answered) → refused_in xs ≤ length xs
refused_few [] = omega arith
refused_few (x ∷ xs) = go (refused_few xs) (is_open_line xs)
  where
    go : refused_in xs ≤ length xs → (b : Bool) → cond b (refused_in xs) (refusals_by (begun_in xs) x.call x.answer + refused_in xs) ≤ length (x ∷ xs)
    go h true = omega (arith, h)
    go h false = let k = few_refusals (begun_in xs) x.call x.answer in omega (arith, h, k)

pub pairs_few : (xs : List Answered) → pairs_in xs ≤ length xs
pairs_few [] = omega arith
pairs_few (x ∷ xs) = let h = pairs_few xs in let k = few_pairs x.answer in omega (arith, h, k)

-- ## What comes next

-- a new line
pub new_line : (n : Next) (xs : List Done) → n ≡ next.Line → IsNext n xs → is_open_line (calls_of xs) ≡ false
new_line n xs is may = go xs (subst (λ (m : Next). IsNext m xs) is may)
  where
    go : (xs : List Done) → IsNext next.Line xs → is_open_line (calls_of xs) ≡ false
    go [] new = refl
    go (x ∷ earlier) new = ap (λ b. cond b false true) new.1

-- the next step of a scan
pub scan_line : (n : Next) (xs : List Done) → n ≡ next.Scan → IsNext n xs → is_open_line (calls_of xs) ≡ true
scan_line n xs is may =
    let s : IsScanning xs = subst (λ (m : Next). IsNext m xs) is may in
    ap (λ (ys : List Done). is_open_line (calls_of ys)) s.are ∙ ap (λ b. cond b false true) s.more
