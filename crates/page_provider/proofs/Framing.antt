-- What stays where calls on one area follow one another, and where they only read.
use Rattle.std.proofs.Common.{ℕ, ap, subst, ◌∙◌, arith}
use Rattle.lean_disk.specs.Area.{Area, Leaves}
use Rattle.lean_disk.specs.Moments.{AsAt, CrashIn, Framed, OnlyReads}
use Rattle.lean_disk.specs.Story.{IsLawful, Story}
use Rattle.lean_disk.proofs.MomentLemmas.{crash_in, framed, started, weaker}
use Rattle.lean_disk.proofs.MomentLemmas as moments
use Rattle.page_calls.specs.Calls.{Anything, KeepsWithin}

pub framed_then : {a : ℕ} {s0 s1 s2 : Story} → Framed a s0 s1 → Framed a s1 s2 → Framed a s0 s2
framed_then f w = record {
  notes = w.notes ∙ f.notes;
  tells = λ b. w.tells b ∙ f.tells b;
  areas = w.areas ∙ f.areas;
  counts = w.counts ∙ f.counts;
  later = omega (arith, f.later, w.later);
  past = λ m c le left. f.past m c le (w.past m c (omega (arith, le, f.later)) left);
  elsewhere = λ b other. w.elsewhere b other ∙ f.elsewhere b other;
  first = w.first ∙ f.first;
}

pub framed_reads : {old new : Story} → OnlyReads old new → Framed 1 old new
framed_reads r = record {
  notes = r.notes;
  tells = r.tells;
  areas = r.areas;
  counts = r.counts;
  later = r.later;
  past = r.past;
  elsewhere = λ b other. r.area b;
  first = ap (λ (x : Area). x.first) (r.area 1);
}

-- ## At every moment

-- before the first call
pub within_none : {s : Story} → IsLawful s → KeepsWithin s s
within_none {s} law = started s (CrashIn s 1 Anything) law (λ c now. crash_in 1 s s Anything c (framed 1 s) now tt)

pub within_then : {old mid new : Story} → Framed 1 old mid → KeepsWithin old mid → KeepsWithin mid new → KeepsWithin old new
within_then {old} {mid} {new} f first last = moments.then old mid new (CrashIn old 1 Anything) first (weaker mid new (CrashIn mid 1 Anything) (CrashIn old 1 Anything) (λ c x. record {
  notes = x.notes ∙ f.notes;
  writes = λ b other told. x.writes b other (f.tells b ∙ told) ∙ ap (λ (a : Area). a.writes) (f.elsewhere b other);
  leaves = λ b other told. subst (λ (a : Area). Leaves a (c.image b)) (f.elsewhere b other) (x.leaves b other (f.tells b ∙ told));
  here = tt;
}) last)

pub within_reads : {old new : Story} → OnlyReads old new → KeepsWithin old new
within_reads {old} {new} r = weaker old new (AsAt old) (CrashIn old 1 Anything) (λ c x. record {
  notes = x.notes;
  writes = λ b other told. x.writes b told;
  leaves = λ b other told. x.leaves b told;
  here = tt;
}) r.any_moment
