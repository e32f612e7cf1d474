-- How a run of calls goes on.
use Rattle.std.proofs.Common.{◌≡◌, ◌⊎◌, inl, inr, ⊎_elim, ℕ, ◌≤◌, false, List, refl, ◌∙◌, ap, subst, IsTrue, arith}
use Rattle.std.proofs.lemmas.Bool.{cases_lt}
use Rattle.lean_disk.specs.Area.{Area, Write, Leaves}
use Rattle.lean_disk.specs.Story.{Story, Crash, LeavesNow, IsLawful, Elapses}
use Rattle.lean_disk.specs.Calls.{Looked, Wrote, Synced, Split, Rejoined}
use Rattle.lean_disk.specs.Moments.{LeavesOnly, Framed, CrashIn, AsAt, OnlyReads}
use Rattle.lean_disk.specs.declared.disk.Did.{Did}
use Rattle.lean_disk.specs.declared.disk.Read.{Read}

pub elapsed : (old new : Story) → Elapses old new → (m : ℕ) (c : Crash) → new.left_at m c → old.left_at m c ⊎ LeavesNow new c
elapsed old new time m c left = ⊎_elim (λ lt. inr (time.now m c lt left)) (λ le. inl (time.past m c le left)) (cases_lt old.moment m)

-- before the first call
pub started : (old : Story) (P : Crash → Type 0) → IsLawful old → ((c : Crash) → LeavesNow old c → P c) → LeavesOnly old old P
started old P law here = record {
  each = λ m c le left. here c (law.only_now m c le left);
  before = λ m c left. inl left;
}

-- what goes on with nothing else but crashes that have P
pub goes_on_by : (old mid new : Story) (P : Crash → Type 0) → LeavesOnly old mid P → ((m : ℕ) (c : Crash) → new.left_at m c → mid.left_at m c ⊎ LeavesNow new c) → ((c : Crash) → LeavesNow new c → P c) → LeavesOnly old new P
goes_on_by old mid new P so_far nothing_else here = record {
  each = λ m c le left. ⊎_elim (so_far.each m c le) (here c) (nothing_else m c left);
  before = λ m c left. ⊎_elim (so_far.before m c) (λ now. inr (here c now)) (nothing_else m c left);
}

-- one call more, after which each crash has P
pub goes_on : (old mid new : Story) (P : Crash → Type 0) → LeavesOnly old mid P → Elapses mid new → ((c : Crash) → LeavesNow new c → P c) → LeavesOnly old new P
goes_on old mid new P so_far time here = goes_on_by old mid new P so_far (elapsed mid new time) here

-- two runs, one after the other
pub then : (old mid new : Story) (P : Crash → Type 0) → LeavesOnly old mid P → LeavesOnly mid new P → LeavesOnly old new P
then old mid new P first second = record {
  each = λ m c le left. ⊎_elim (first.each m c le) (λ has. has) (second.before m c left);
  before = λ m c left. ⊎_elim (first.before m c) inr (second.before m c left);
}

-- a fact that follows
pub weaker : (old new : Story) (P Q : Crash → Type 0) → ((c : Crash) → P c → Q c) → LeavesOnly old new P → LeavesOnly old new Q
weaker old new P Q follows run = record {
  each = λ m c le left. follows c (run.each m c le left);
  before = λ m c left. ⊎_elim inl (λ has. inr (follows c has)) (run.before m c left);
}

-- runs on one area
pub framed : (a : ℕ) (s : Story) → Framed a s s
framed a s = record { notes = refl; tells = λ b. refl; areas = refl; counts = refl; later = omega arith; past = λ m c le left. left; elsewhere = λ b other. refl; first = refl }

pub framed_wrote : (a at : ℕ) (bytes : List ℕ) (result : Did) (s0 s1 s2 : Story) → Framed a s0 s1 → Wrote a at bytes result s1 s2 → Framed a s0 s2
framed_wrote a at bytes result s0 s1 s2 f w = record {
  notes = w.notes ∙ f.notes;
  tells = λ b. w.time.tells b ∙ f.tells b;
  areas = w.time.areas ∙ f.areas;
  counts = w.time.counts ∙ f.counts;
  later = omega (arith, f.later, w.time.later);
  past = λ m c le left. f.past m c le (w.time.past m c (omega (arith, le, f.later)) left);
  elsewhere = λ b other. w.elsewhere b other ∙ f.elsewhere b other;
  first = w.first ∙ f.first;
}

pub framed_synced : (a : ℕ) (result : Did) (s0 s1 s2 : Story) → Framed a s0 s1 → Synced a result s1 s2 → Framed a s0 s2
framed_synced a result s0 s1 s2 f y = record {
  notes = y.notes ∙ f.notes;
  tells = λ b. y.time.tells b ∙ f.tells b;
  areas = y.time.areas ∙ f.areas;
  counts = y.time.counts ∙ f.counts;
  later = omega (arith, f.later, y.time.later);
  past = λ m c le left. f.past m c le (y.time.past m c (omega (arith, le, f.later)) left);
  elsewhere = λ b other. y.elsewhere b other ∙ f.elsewhere b other;
  first = y.first ∙ f.first;
}

-- a crash now, in such a run
pub crash_in : (a : ℕ) (s0 s : Story) (Q : List Write → List ℕ → Type 0) (c : Crash) → Framed a s0 s → LeavesNow s c → Q (c.writes a) (c.image a) → CrashIn s0 a Q c
crash_in a s0 s Q c f now here = record {
  notes = now.notes ∙ f.notes;
  writes = λ b other told. now.writes b (f.tells b ∙ told) ∙ ap (λ (x : Area). x.writes) (f.elsewhere b other);
  leaves = λ b other told. subst (λ (x : Area). Leaves x (c.image b)) (f.elsewhere b other) (now.leaves b (f.tells b ∙ told));
  here = here;
}

-- A round: an area is split off, both go on apart, and it is back. What was before the round is told as it was, and besides it only what may be after it.
pub round : (a : ℕ) (old apart later new part ended : Story) → Split a old apart part
    → ((m : ℕ) (c : Crash) → later.left_at m c → apart.left_at m c) → ((m : ℕ) (c : Crash) → m ≤ part.moment → ended.left_at m c → part.left_at m c)
    → Rejoined a later ended new → (m : ℕ) (c : Crash) → new.left_at m c → old.left_at m c ⊎ LeavesNow new c
round a old apart later new part ended split disk area rejoined m c left = ⊎_elim
    (λ both. inl (split.past m c (disk m c both.0) (area m c (split.before m c (disk m c both.0)) both.1)))
    inr (rejoined.past m c left)

-- while something is split off, a disk's call adds no moment
pub no_moment : (old new : Story) → Elapses old new → old.counts ≡ false → (m : ℕ) (c : Crash) → new.left_at m c → old.left_at m c
no_moment old new time out m c left = ⊎_elim (λ was. was) (λ (now : LeavesNow new c). absurd (let counts : new.counts ≡ false = time.counts ∙ out in let yes : IsTrue new.counts = now.counts in cc)) (elapsed old new time m c left)

-- ## Runs that only read

-- before the first call
pub reads_none : (s : Story) → IsLawful s → OnlyReads s s
reads_none s law = record {
  any_moment = started s (AsAt s) law (λ c now. record { notes = now.notes; writes = now.writes; leaves = now.leaves });
  area = λ a. refl;
  notes = refl;
  tells = λ a. refl;
  areas = refl;
  counts = refl;
  later = omega arith;
  past = λ m c le left. left;
}

-- one call more
pub reads_more : (a at : ℕ) (before after : List ℕ) (result : Read) (s0 s1 s2 : Story) → OnlyReads s0 s1 → Looked a at before after result s1 s2 → OnlyReads s0 s2
reads_more a at before after result s0 s1 s2 r l = record {
  any_moment = goes_on s0 s1 s2 (AsAt s0) r.any_moment l.time (λ c now. record {
    notes = now.notes ∙ (l.notes ∙ r.notes);
    writes = λ b told. now.writes b (l.time.tells b ∙ (r.tells b ∙ told)) ∙ ap (λ (x : Area). x.writes) (l.area b ∙ r.area b);
    leaves = λ b told. subst (λ (x : Area). Leaves x (c.image b)) (l.area b ∙ r.area b) (now.leaves b (l.time.tells b ∙ (r.tells b ∙ told)));
  });
  area = λ b. l.area b ∙ r.area b;
  notes = l.notes ∙ r.notes;
  tells = λ b. l.time.tells b ∙ r.tells b;
  areas = l.time.areas ∙ r.areas;
  counts = l.time.counts ∙ r.counts;
  later = omega (arith, r.later, l.time.later);
  past = λ m c le left. r.past m c le (l.time.past m c (omega (arith, le, r.later)) left);
}

-- a call that only read, and one run more
pub reads_then : (s0 s1 s2 : Story) → OnlyReads s0 s1 → OnlyReads s1 s2 → OnlyReads s0 s2
reads_then s0 s1 s2 r l = record {
  any_moment = then s0 s1 s2 (AsAt s0) r.any_moment (weaker s1 s2 (AsAt s1) (AsAt s0) (λ c now. record {
    notes = now.notes ∙ r.notes;
    writes = λ b told. now.writes b (r.tells b ∙ told) ∙ ap (λ (x : Area). x.writes) (r.area b);
    leaves = λ b told. subst (λ (x : Area). Leaves x (c.image b)) (r.area b) (now.leaves b (r.tells b ∙ told));
  }) l.any_moment);
  area = λ b. l.area b ∙ r.area b;
  notes = l.notes ∙ r.notes;
  tells = λ b. l.tells b ∙ r.tells b;
  areas = l.areas ∙ r.areas;
  counts = l.counts ∙ r.counts;
  later = omega (arith, r.later, l.later);
  past = λ m c le left. r.past m c le (l.past m c (omega (arith, le, r.later)) left);
}
