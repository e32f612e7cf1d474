-- In which areas the disk is worked on.
use Rattle.std.proofs.Common.{◌≡◌, ◌⊎◌, inl, inr, ◌≤◌, ◌<◌, ◌||◌, ℕ, suc, Bool, true, false, refl, sym, ap, ◌∙◌, subst, arith, true≢false}
use Rattle.std.proofs.lemmas.Bool.{cases_eq}
use Rattle.lean_disk.proofs.MomentLemmas as moments
use Rattle.lean_disk.proofs.MomentLemmas.{weaker}
use Rattle.lean_disk.specs.Area.{Area, Leaves}
use Rattle.lean_disk.specs.Moments.{AsAt, CrashIn, Framed, LeavesOnly, OnlyReads}
use Rattle.lean_disk.specs.Story.{Crash, Story}
use Rattle.session_state.specs.log_calls.Calls.{Anything}
use Rattle.call_parts.specs.Areas.{Apart, Around, Beside, IsAside}
use Rattle.call_parts.specs.Laws.{EveryArea}

-- ## Areas aside

-- the area of a log is none of them
pub log_aside : (logs own a : ℕ) (saves syncs : Bool) → 0 < own → own ≤ logs → IsAside logs saves syncs a → a ≡ suc own → ⊥
log_aside logs own a saves syncs some high (inl q) e = absurd (let p = q.0 in omega arith)
log_aside logs own a saves syncs some high (inr (inl q)) e = absurd (omega arith)
log_aside logs own a saves syncs some high (inr (inr q)) e = absurd (let p = q.0 in omega arith)

-- and where pages are saved that of the pages is none
page_aside : (logs a : ℕ) (syncs : Bool) → IsAside logs true syncs a → a ≡ 1 → ⊥
page_aside logs a syncs (inl q) e = absurd (true≢false q.1)
page_aside logs a syncs (inr (inl q)) e = absurd (omega arith)
page_aside logs a syncs (inr (inr q)) e = absurd (let p = q.0 in omega arith)

fst : (u v : Bool) → (u || v) ≡ false → u ≡ false
fst true v e = absurd (true≢false e)
fst false v e = refl

snd : (u v : Bool) → (u || v) ≡ false → v ≡ false
snd true v e = absurd (true≢false e)
snd false v e = e

-- both
pub either_none : (u v : Bool) → (u || v) ≡ false → (u ≡ false) × (v ≡ false)
either_none u v e = (fst u v e, snd u v e)

left_of : (n : ℕ) (a b c d : Bool) (x : ℕ) → IsAside n (a || c) (b || d) x → IsAside n a b x
left_of n a b c d x (inl i) = inl (i.0, fst a c i.1)
left_of n a b c d x (inr (inl i)) = inr (inl i)
left_of n a b c d x (inr (inr i)) = inr (inr (i.0, fst b d i.1))

right_of : (n : ℕ) (a b c d : Bool) (x : ℕ) → IsAside n (a || c) (b || d) x → IsAside n c d x
right_of n a b c d x (inl i) = inl (i.0, snd a c i.1)
right_of n a b c d x (inr (inl i)) = inr (inl i)
right_of n a b c d x (inr (inr i)) = inr (inr (i.0, snd b d i.1))

-- ## One step

pub around_none : (n : ℕ) (a b : Bool) (s : Story) → Around n a b s s
around_none n a b s = record { notes = refl; tells = λ x. refl; areas = refl; counts = refl; later = omega arith; past = λ m c le left. left; aside = λ x q. refl; first = λ x. refl }

-- of an area that is worked on
module _ (n area : ℕ) (a b : Bool) (old new : Story) (apart : (x : ℕ) → IsAside n a b x → x ≡ area → ⊥) where
  pub around_framed : Framed area old new → Around n a b old new
  around_framed f = record {
    notes = f.notes;
    tells = f.tells;
    areas = f.areas;
    counts = f.counts;
    later = f.later;
    past = f.past;
    aside = λ x i. f.elsewhere x (apart x i);
    first = λ x. at x (cases_eq x area);
  }
    where
      at : (x : ℕ) → (x ≡ area) ⊎ (x ≡ area → ⊥) → (new.area x).first ≡ (old.area x).first
      at x (inl q) = subst (λ (y : ℕ). (new.area y).first ≡ (old.area y).first) (sym q) f.first
      at x (inr other) = ap (λ (z : Area). z.first) (f.elsewhere x other)

  pub within_framed : LeavesOnly old new (CrashIn old area Anything) → LeavesOnly old new (Beside n a b old)
  within_framed = weaker old new (CrashIn old area Anything) (Beside n a b old) (λ c is. record {
    notes = is.notes;
    writes = λ x i told. is.writes x (apart x i) told;
    leaves = λ x i told. is.leaves x (apart x i) told;
  })

-- of none
pub reads_apart : (n : ℕ) (old new : Story) → OnlyReads old new → Apart n false false old new
reads_apart n old new r = record {
  around = record {
    notes = r.notes;
    tells = r.tells;
    areas = r.areas;
    counts = r.counts;
    later = r.later;
    past = r.past;
    aside = λ x i. r.area x;
    first = λ x. ap (λ (z : Area). z.first) (r.area x);
  };
  within = weaker old new (AsAt old) (Beside n false false old) (λ c at. record { notes = at.notes; writes = λ x i told. at.writes x told; leaves = λ x i told. at.leaves x told }) r.any_moment;
}

-- ## One behind another

pub around_join : (n : ℕ) (a b c d : Bool) (old mid new : Story) → Around n a b old mid → Around n c d mid new → Around n (a || c) (b || d) old new
around_join n a b c d old mid new p q = record {
  notes = q.notes ∙ p.notes;
  tells = λ x. q.tells x ∙ p.tells x;
  areas = q.areas ∙ p.areas;
  counts = q.counts ∙ p.counts;
  later = omega (arith, p.later, q.later);
  past = λ m e le left. p.past m e le (q.past m e (omega (arith, le, p.later)) left);
  aside = λ x i. q.aside x (right_of n a b c d x i) ∙ p.aside x (left_of n a b c d x i);
  first = λ x. q.first x ∙ p.first x;
}

-- a crash in the later part, as one since the first
beside_on : (n : ℕ) (a b c d : Bool) (old mid : Story) (e : Crash) → Around n a b old mid → Beside n c d mid e → Beside n (a || c) (b || d) old e
beside_on n a b c d old mid e p q = record {
  notes = q.notes ∙ p.notes;
  writes = λ x i told. q.writes x (right_of n a b c d x i) (p.tells x ∙ told) ∙ ap (λ (k : Area). k.writes) (p.aside x (left_of n a b c d x i));
  leaves = λ x i told. subst (λ (k : Area). Leaves k (e.image x)) (p.aside x (left_of n a b c d x i)) (q.leaves x (right_of n a b c d x i) (p.tells x ∙ told));
}

-- in which fewer areas are worked in
beside_less : (n : ℕ) (a b c d : Bool) (old : Story) (e : Crash) → Beside n a b old e → Beside n (a || c) (b || d) old e
beside_less n a b c d old e q = record {
  notes = q.notes;
  writes = λ x i told. q.writes x (left_of n a b c d x i) told;
  leaves = λ x i told. q.leaves x (left_of n a b c d x i) told;
}

-- at every moment of both parts
pub within_join : (n : ℕ) (a b c d : Bool) (old mid new : Story) → Around n a b old mid → LeavesOnly old mid (Beside n a b old) → LeavesOnly mid new (Beside n c d mid) → LeavesOnly old new (Beside n (a || c) (b || d) old)
within_join n a b c d old mid new p x y = moments.then old mid new (Beside n (a || c) (b || d) old)
    (weaker old mid (Beside n a b old) (Beside n (a || c) (b || d) old) (λ e q. beside_less n a b c d old e q) x)
    (weaker mid new (Beside n c d mid) (Beside n (a || c) (b || d) old) (λ e q. beside_on n a b c d old mid e p q) y)

-- where no fewer areas are worked in
false_where : (u v : Bool) → (u ≡ true → v ≡ true) → v ≡ false → u ≡ false
false_where true v wide e = absurd (true≢false (sym (wide refl) ∙ e))
false_where false v wide e = refl

aside_less : (n : ℕ) (a b c d : Bool) → (a ≡ true → c ≡ true) → (b ≡ true → d ≡ true) → (x : ℕ) → IsAside n c d x → IsAside n a b x
aside_less n a b c d p q x (inl i) = inl (i.0, false_where a c p i.1)
aside_less n a b c d p q x (inr (inl i)) = inr (inl i)
aside_less n a b c d p q x (inr (inr i)) = inr (inr (i.0, false_where b d q i.1))

module _ (n : ℕ) (a b c d : Bool) (old new : Story) (p : a ≡ true → c ≡ true) (q : b ≡ true → d ≡ true) where
  pub around_wider : Around n a b old new → Around n c d old new
  around_wider r = record {
    notes = r.notes;
    tells = r.tells;
    areas = r.areas;
    counts = r.counts;
    later = r.later;
    past = r.past;
    aside = λ x i. r.aside x (aside_less n a b c d p q x i);
    first = r.first;
  }

  pub within_wider : LeavesOnly old new (Beside n a b old) → LeavesOnly old new (Beside n c d old)
  within_wider = weaker old new (Beside n a b old) (Beside n c d old) (λ e r. record {
    notes = r.notes;
    writes = λ x i told. r.writes x (aside_less n a b c d p q x i) told;
    leaves = λ x i told. r.leaves x (aside_less n a b c d p q x i) told;
  })

pub every_area : (old new : Story) → EveryArea old new
every_area old new many = record {
  reads = reads_apart many old new;
  pages = λ f x. record { around = around_framed many 1 true false old new (λ a. page_aside many a false) f; within = within_framed many 1 true false old new (λ a. page_aside many a false) x };
  wider = λ a b c d p q r. record { around = around_wider many a b c d old new p q r.around; within = within_wider many a b c d old new p q r.within };
}
