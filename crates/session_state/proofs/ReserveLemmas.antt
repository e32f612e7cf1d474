-- How many bytes of a log steps take.
use Rattle.std.proofs.Common.{◌≡◌, ◌≤◌, ◌+◌, ◌-◌, ◌*◌, ◌++◌, ℕ, zero, suc, List, [], ◌∷◌, inl, inr, refl, sym, ap, ◌∙◌, subst, arith, lit≤}
use Rattle.std.specs.Prelude.{replicate}
use Rattle.std.proofs.Math.Nat.{le-max_left, le-max_right}
use Rattle.engine_calls.specs.worker_log.Logs.{Log}
use Rattle.session_state.specs.Reserves.{EveryReserve, Makes, MakesAll, Step, takes, takes_all}
use Rattle.session_state.specs.Undo.{filled}
use Rattle.session_state.proofs.UndoLemmas.{fills, flush_fills, used_filled, used_written, written_most}

-- one step
step_fills : (x : Step) (was is : Log) → Makes x was is → (filled is ≤ filled was + takes x) × (is.blocks ≡ was.blocks)
step_fills (Step.Stages size) was is m =
    let f = fills m.0 was is m.2 in
    let a = f.rises in
    let b = le-max_left size (2 * size - 100) in
    let c = le-max_right size (2 * size - 100) in
    let s = m.1 in
    (elim a [ inl within ↦ omega arith | inr over ↦ omega arith ], f.blocks)
step_fills Step.Flushes was is m = subst (λ (l : Log). (filled l ≤ filled was + 1900) × (l.blocks ≡ was.blocks)) (sym m) (flush_fills was, refl)

-- all of them
all_fill : (xs : List Step) (was is : Log) → MakesAll xs was is → (filled is ≤ filled was + takes_all xs) × (is.blocks ≡ was.blocks)
all_fill [] was is m = (let e = ap filled m in omega arith, ap (λ (l : Log). l.blocks) m)
all_fill (x ∷ xs) was is m =
    let a = step_fills x was m.0 m.1 in
    let b = all_fill xs m.0 is m.2 in
    let a0 = a.0 in let b0 = b.0 in
    (omega arith, b.1 ∙ a.1)

-- put-backs, and then two flushes
takes_back : (n : ℕ) → takes_all (replicate n (Step.Stages 64) ++ replicate 2 Step.Flushes) ≡ 64 * n + 3800
takes_back zero = refl
takes_back (suc n) = let a = takes_back n in omega arith

pub every_reserve : EveryReserve
every_reserve = record {
  room = λ xs was is free all low.
      let a = all_fill xs was is all in
      let a0 = a.0 in let a1 = a.1 in
      let b = written_most was free in
      let c = used_written is in
      omega arith;
  put = lit≤ tt;
  del = lit≤ tt;
  flush = λ xs was is many hand kept all low.
      let a = all_fill xs was is all in
      let a0 = a.0 in let a1 = a.1 in
      let b = used_filled was hand in
      let c = flush_fills is in
      omega arith;
  abort = λ back many few. let a = takes_back back in omega arith;
}
