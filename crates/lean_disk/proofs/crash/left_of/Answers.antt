use Rattle.std.proofs.Common.{◌≡◌, ◌∙◌, ◌-◌, ℕ, List, length, take, drop, sym, ap, subst, arith, length-drop}
use Rattle.std.proofs.lemmas.List.{take_all}
use Rattle.lean_disk.specs.Crashed.{Held, held_at}
use Rattle.lean_disk.specs.declared.area_log.Call.{Call}
use Rattle.lean_disk.proofs.CrashLemmas.{held_parts}
use Rattle.lean_disk.proofs.crash.left_of.Goals as goal

pub returns : goal.returns
returns c =
    let first : List ℕ = c.args.log.now.first.items in
    let calls : List Call = c.args.log.now.calls.items in
    let m = c.args.moment in
    let n = c.last_synced-synced.result in
    let choice = c.args.choice in
    let read : List ℕ = c.in_ok-read.read.items in
    let synced : (held_at choice m first (take n calls)).left ≡ (held_at choice m first (take n calls)).read =
    subst (λ (l : List Call). (held_at choice m first (take n l)).left ≡ (held_at choice m first (take n l)).read) c.deref.ensures.value (c.last_synced-synced.ensures.synced choice first) in
    let gives : (held_at choice m first (take n calls)).read ≡ read =
    ap (λ (xs : List ℕ). (held_at choice m xs (take n calls)).read) (sym c.deref-2.ensures.value)
    ∙ ap (λ (l : List Call). (held_at choice m c.deref-2.result.now (take n l)).read) (sym c.deref-3.ensures.value) ∙ c.in_ok-read.ensures choice in
    let rest : take (length c.deref-5.result.now - n) (drop n c.deref-5.result.now) ≡ drop n calls =
    take_all (length c.deref-5.result.now - n) (drop n c.deref-5.result.now) (omega (arith, length-drop {A = Call})) ∙ ap (drop n) c.deref-5.ensures.value in
    let left : c.in_ok-left.left.items ≡ (held_at choice m read (drop n calls)).left =
    c.in_ok-left.ensures ∙ ap (λ (xs : List ℕ). (held_at choice m xs (take (length c.deref-5.result.now - n) (drop n c.deref-5.result.now))).left) c.deref-4.ensures.value
    ∙ ap (λ (l : List Call). (held_at choice m read l).left) rest in
    left ∙ ap (λ (h : Held). h.left) (held_parts choice m n first read calls gives synced)
