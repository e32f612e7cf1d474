-- What is so of two parts of a call on one area, one behind the other.
use Rattle.std.proofs.Common.{◌≡◌, ◌+◌, ℕ, suc, ap, ◌∙◌, subst, arith}
use Rattle.lean_disk.specs.Area.{Area, Leaves}
use Rattle.lean_disk.specs.Moments.{CrashIn, Framed, LeavesOnly}
use Rattle.lean_disk.specs.Story.{Crash, Story}
use Rattle.engine_calls.specs.log_calls.Calls.{Anything}

pub framed_then : (a : ℕ) (s0 s1 s2 : Story) → Framed a s0 s1 → Framed a s1 s2 → Framed a s0 s2
framed_then a s0 s1 s2 f w = record {
  notes = w.notes ∙ f.notes;
  tells = λ b. w.tells b ∙ f.tells b;
  areas = w.areas ∙ f.areas;
  counts = w.counts ∙ f.counts;
  later = omega (arith, f.later, w.later);
  past = λ m c le left. f.past m c le (w.past m c (omega (arith, le, f.later)) left);
  elsewhere = λ b other. w.elsewhere b other ∙ f.elsewhere b other;
  first = w.first ∙ f.first;
}

-- what is left of a later part is left of the whole
pub within_then : (a : ℕ) (old mid : Story) (c : Crash) → Framed a old mid → CrashIn mid a Anything c → CrashIn old a Anything c
within_then a old mid c f n = record {
  notes = n.notes ∙ f.notes;
  writes = λ b other told. n.writes b other (f.tells b ∙ told) ∙ ap (λ (x : Area). x.writes) (f.elsewhere b other);
  leaves = λ b other told. subst (λ (x : Area). Leaves x (c.image b)) (f.elsewhere b other) (n.leaves b other (f.tells b ∙ told));
  here = tt;
}

-- the area of a log is the one behind its number
next_is : (own : ℕ) → own + 1 ≡ suc own
next_is own = omega arith

pub frame_of : (own : ℕ) (old new : Story) → Framed (own + 1) old new → Framed (suc own) old new
frame_of own old new f = subst (λ a. Framed a old new) (next_is own) f

pub within_of : (own : ℕ) (old new : Story) → LeavesOnly old new (CrashIn old (own + 1) Anything) → LeavesOnly old new (CrashIn old (suc own) Anything)
within_of own old new f = subst (λ a. LeavesOnly old new (CrashIn old a Anything)) (next_is own) f
