-- How a scan ends, and what is asked behind the last answer to a line.
use Rattle.std.proofs.Common.{◌≡◌, ◌<◌, ℕ, suc, Bool, true, false, refl, sym, ap, subst, arith, true≢false}
use Rattle.map_model.specs.Pairings.{is_last}
use Rattle.map_model.specs.declared.call.Answer.{Answer}
use Rattle.map_model.specs.declared.call.Answer.TheVariants as answer
use Rattle.map_model.specs.declared.call.Refusal.TheVariants as refusal
use Rattle.host_disk.specs.buffered_engine.engine_front.Turns.{behind_answer, behind_durables, behind_last, is_conflict_in}
use Rattle.host_disk.specs.buffered_engine.engine_front.declared.calls.Next.{Next}
use Rattle.host_disk.specs.buffered_engine.engine_front.declared.calls.Next.TheVariants.{Abort, Durables, Line, Scan}
use Rattle.host_disk.specs.buffered_engine.paged_scans.declared.scans.Scan as scans
use Rattle.host_disk.specs.buffered_engine.States.{pairs_left}

-- how many steps a scan has at most: a pair each, and one that ends it
abbrev pub still_left : Next → scans.Scan → ℕ
still_left Scan x = suc (pairs_left x)
still_left n x = 0

pub fewer_left : (n k : Next) (x y : scans.Scan) → n ≡ Scan → (k ≡ Scan → pairs_left y < pairs_left x) → still_left k y < still_left n x
fewer_left n k x y e h = subst (λ (m : Next). still_left k y < still_left m x) (sym e) (go k h)
  where
    go : (k : Next) → (k ≡ Scan → pairs_left y < pairs_left x) → still_left k y < suc (pairs_left x)
    go Scan h = let l = h refl in omega arith
    go Line h = omega arith
    go Durables h = omega arith
    go Abort h = omega arith

-- behind the last answer, and behind the durable lines, comes a new line
pub line_of : (n : Next) (a : Answer) → n ≡ behind_answer a → (n ≡ Scan → ⊥) → (n ≡ Abort → ⊥) → behind_durables n ≡ Line
line_of n (answer.Pair key value) e scan abort = absurd (scan e)
line_of n a e scan abort = go (is_conflict_in a) e
  where
    go : (b : Bool) → n ≡ behind_last b → behind_durables n ≡ Line
    go true q = absurd (abort q)
    go false q = ap behind_durables q

pub line_behind : (a : Answer) → is_last a ≡ true → behind_durables (behind_answer a) ≡ Line
line_behind (answer.Pair key value) e = absurd (true≢false (sym e))
line_behind (answer.Refused (refusal.Conflict h)) e = absurd (true≢false (sym e))
line_behind (answer.Refused why) e = refl
line_behind a e = refl
