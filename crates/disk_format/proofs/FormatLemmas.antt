-- Pages that are written one piece after the other, and what a crash leaves meanwhile.
use Rattle.std.proofs.Common.{◌≡◌, ◌+◌, ◌*◌, ℕ, List, ◌++◌, length, take, sym, ◌∙◌, ap, subst, arith}
use Rattle.lean_disk.specs.Area.{Area, put_over}
use Rattle.lean_disk.specs.Calls.{Wrote}
use Rattle.lean_disk.specs.Moments.{LeavesOnly, Framed, CrashIn}
use Rattle.lean_disk.specs.Story.{Story, Tells}
use Rattle.lean_disk.specs.declared.disk.Did.{Did}
use Rattle.lean_disk.specs.declared.disk.Did.TheVariants.{Done}
use Rattle.lean_disk.proofs.MomentLemmas.{goes_on, framed_wrote, crash_in}
use Rattle.disk_format.specs.Formatted.{Anything, HasPages}
use Rattle.disk_format.specs.Fresh.{fresh_page}
use Rattle.disk_format.specs.Pieces.{pages_from}
use Rattle.disk_format.proofs.FreshLemmas.{length-fresh_page}
use Rattle.disk_format.proofs.PieceLemmas.{length-pages_from, pages_from-more, prefix-put_over}

-- a run on one area of which nothing is said
pub anything_wrote : (a at : ℕ) (bytes : List ℕ) (result : Did) (s0 s s1 : Story) → LeavesOnly s0 s (CrashIn s0 a Anything) → Framed a s0 s → Wrote a at bytes result s s1 → LeavesOnly s0 s1 (CrashIn s0 a Anything)
anything_wrote a at bytes result s0 s s1 run frame wrote =
    goes_on s0 s s1 (CrashIn s0 a Anything) run wrote.time (λ c now. crash_in a s0 s1 Anything c (framed_wrote a at bytes result s0 s s1 frame wrote) now tt)

module _ (first count : ℕ) where
  abbrev piece : List ℕ
  piece = pages_from fresh_page first count

  pub pages-put_over : (old : List ℕ) → HasPages first old → HasPages (first + count) (put_over (2048 * first) piece old)
  pages-put_over old has =
      let long : length piece ≡ 2048 * count = length-pages_from fresh_page 2048 length-fresh_page first count in
      let before : length (pages_from fresh_page 0 first) ≡ 2048 * first = length-pages_from fresh_page 2048 length-fresh_page 0 first in
      let at : 2048 * (first + count) ≡ 2048 * first + length piece = omega (arith, long) in
      let none : 0 + first ≡ first = omega arith in
      ap (λ (n : ℕ). take n (put_over (2048 * first) piece old)) at
      ∙ (prefix-put_over (2048 * first) (pages_from fresh_page 0 first) piece old has before
      ∙ sym (pages_from-more fresh_page 2048 length-fresh_page 0 first count ∙ ap (λ (f : ℕ). pages_from fresh_page 0 first ++ pages_from fresh_page f count) none))

  -- a piece more
  pub pages_written : (a : ℕ) (s s1 : Story) (result : Did) → Wrote a (2048 * first) piece result s s1 → result ≡ Done → (Tells s a → HasPages first (s.area a).bytes)
      → Tells s1 a → HasPages (first + count) (s1.area a).bytes
  pages_written a s s1 result wrote done has told =
      let was : Tells s a = sym (wrote.time.tells a) ∙ told in
      subst (λ (x : Area). HasPages (first + count) x.bytes) (sym (wrote.done was done)) (pages-put_over (s.area a).bytes (has was))
