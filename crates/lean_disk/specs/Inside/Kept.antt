-- How what a disk in memory tells goes on by a call, a note, and an area that is split off or comes back.
use Rattle.std.proofs.Common.{◌≡◌, ◌⊎◌, inl, inr, ⊎_elim, ℕ, ◌+◌, ◌≤◌, ◌<◌, Bool, true, false, IsTrue, List, refl, sym, ◌∙◌, ap, subst, arith}
use Rattle.std.specs.List.{AllByRecursion}
use Rattle.std.proofs.lemmas.Bool.{cases_lt, cases_eq}
use Rattle.lean_disk.specs.Area.{Area, Leaves, Write, fresh}
use Rattle.lean_disk.specs.Story.{LeavesNow, Crash, Elapses, IsLawful, Story}
use Rattle.lean_disk.specs.Replay.{replay}
use Rattle.lean_disk.specs.Memory.{View, WasAt, Was, IsAround, IsDated, area_now, area_after, gone, kept_story, late}
use Rattle.lean_disk.specs.declared.area_log.Call.{Call}
use Rattle.lean_disk.specs.Inside.Grown.{grown}
use Rattle.lean_disk.specs.Inside.Lists.{upto_push_later, upto_all, all_push, all_prefix, all_last, all_weaker, all_both}
use Rattle.lean_disk.specs.Inside.Areas.{reads_so, replay_fits}

pub late_most : (whole : Bool) → late whole ≤ 1
late_most true = omega arith
late_most false = omega arith

pub not_late : (whole : Bool) → late whole ≡ 0 → whole ≡ true
not_late true is = refl
not_late false is = cc

pub is_late : (whole : Bool) → whole ≡ false → late whole ≡ 1
is_late whole is = ap late is

pub is_not_late : (whole : Bool) → whole ≡ true → late whole ≡ 0
is_not_late whole is = ap late is

-- nothing is asked of an area that is split off
pub was_gone : (k i : ℕ) (made : List Write) (left : List ℕ) → WasAt gone k i made left
was_gone k i made left = record { around = tt; writes = λ (h : IsTrue false). cc; leaves = λ (h : IsTrue false). absurd (cc) }

-- by then all calls of an area were made
pub whole_at : (k : ℕ) (v : View) → AllByRecursion (λ c. c.number ≤ k) v.line → area_after k v ≡ area_now v
whole_at k v all = ap (replay (fresh v.first)) (upto_all k v.line all)

pub was_now : (k i : ℕ) (v : View) (made : List Write) (left : List ℕ) → AllByRecursion (λ c. c.number ≤ k) v.line → AllByRecursion (λ c. c.notes ≤ i) v.line
    → (IsTrue v.here → made ≡ (area_now v).writes) → (IsTrue v.here → Leaves (area_now v) left) → WasAt v k i made left
was_now k i v made left all noted writes leaves = record {
  around = all_both (λ c. c.number ≤ k) (λ c. c.notes ≤ i) (IsAround k i) (λ c le few. ((λ _. few), (λ lt. absurd (omega (arith, le, lt))))) v.line all noted;
  writes = λ h. writes h ∙ ap (λ (x : Area). x.writes) (sym (whole_at k v all));
  leaves = λ h. subst (λ (x : Area). Leaves x left) (sym (whole_at k v all)) (leaves h);
}

pub now_was : (k i : ℕ) (v : View) (made : List Write) (left : List ℕ) → AllByRecursion (λ c. c.number ≤ k) v.line → WasAt v k i made left
    → (IsTrue v.here → made ≡ (area_now v).writes) × (IsTrue v.here → Leaves (area_now v) left)
now_was k i v made left all w = (
  (λ h. w.writes h ∙ ap (λ (x : Area). x.writes) (whole_at k v all)),
  (λ h. subst (λ (x : Area). Leaves x left) (whole_at k v all) (w.leaves h)),
)

-- a call that was made later changes nothing of what was
pub was_before : (k i : ℕ) (v : View) (c : Call) (made : List Write) (left : List ℕ) → k < c.number → WasAt (grown c v) k i made left → WasAt v k i made left
was_before k i v c made left lt w =
    let same : area_after k (grown c v) ≡ area_after k v = ap (replay (fresh v.first)) (upto_push_later k v.line c lt) in record {
      around = all_prefix (IsAround k i) v.line c w.around;
      writes = λ h. w.writes h ∙ ap (λ (x : Area). x.writes) same;
      leaves = λ h. subst (λ (x : Area). Leaves x left) same (w.leaves h);
    }

pub was_after : (k i : ℕ) (v : View) (c : Call) (made : List Write) (left : List ℕ) → k < c.number → i ≤ c.notes → WasAt v k i made left → WasAt (grown c v) k i made left
was_after k i v c made left lt noted w =
    let same : area_after k (grown c v) ≡ area_after k v = ap (replay (fresh v.first)) (upto_push_later k v.line c lt) in record {
      around = all_push (IsAround k i) v.line c w.around ((λ le. absurd (omega (arith, le, lt))), (λ _. noted));
      writes = λ h. w.writes h ∙ ap (λ (x : Area). x.writes) (sym same);
      leaves = λ h. subst (λ (x : Area). Leaves x left) (sym same) (w.leaves h);
    }

module _ (views : ℕ → View) (whole : Bool) (areas made notes : ℕ) (dated : (b : ℕ) → AllByRecursion (IsDated made (late whole) notes) (views b).line) where
  abbrev old : Story
  old = kept_story views whole areas made notes

  early : (b : ℕ) → AllByRecursion (λ c. c.notes ≤ notes) (views b).line
  early b = all_weaker (IsDated made (late whole) notes) (λ c. c.notes ≤ notes) (λ c d. d.early) (views b).line (dated b)

  numbered : late whole ≡ 0 → (b : ℕ) → AllByRecursion (λ c. c.number ≤ made) (views b).line
  numbered on_time b = all_weaker (IsDated made (late whole) notes) (λ c. c.number ≤ made) (λ c d. omega (arith, d.number, on_time)) (views b).line (dated b)

  pub lawful : IsLawful old
  lawful = record {
    reads_so = λ a told. reads_so (area_now (views a)) (replay_fits (fresh (views a).first) (views a).line (omega arith));
    counts_now = λ c now.
        let on_time : late whole ≡ 0 = is_not_late whole now.counts in
        record {
          k = made;
          at = omega (arith, now.notes, on_time);
          made = omega arith;
          noted = omega (arith, now.notes);
          each = λ a. was_now made c.notes (views a) (c.writes a) (c.image a) (numbered on_time a)
              (all_weaker (λ x. x.notes ≤ notes) (λ x. x.notes ≤ c.notes) (λ x le. omega (arith, le, now.notes)) (views a).line (early a)) (now.writes a) (now.leaves a);
        };
    only_now = λ m c le w.
        let bound : late whole ≤ 1 = late_most whole in
        let on_time : late whole ≡ 0 = omega (arith, le, w.at, w.made, w.noted) in
        let k_is : w.k ≡ made = omega (arith, le, w.at, w.made, w.noted) in
        let each : (a : ℕ) → WasAt (views a) made c.notes (c.writes a) (c.image a) = λ a. subst (λ (k : ℕ). WasAt (views a) k c.notes (c.writes a) (c.image a)) k_is (w.each a) in
        record {
          counts = not_late whole on_time;
          notes = omega (arith, le, w.at, w.made, w.noted);
          writes = λ a. (now_was made c.notes (views a) (c.writes a) (c.image a) (numbered on_time a) (each a)).0;
          leaves = λ a. (now_was made c.notes (views a) (c.writes a) (c.image a) (numbered on_time a) (each a)).1;
        };
  }

  -- one call more, in the area a
  module _ (views' : ℕ → View) (after a : ℕ) (c : Call) (counted : after + late whole ≡ made + 1) (is_number : c.number ≡ made + 1) (is_notes : c.notes ≡ notes)
      (here : views' a ≡ grown c (views a)) (there : (b : ℕ) → (b ≡ a → ⊥) → views' b ≡ views b) where
    abbrev new : Story
    new = kept_story views' whole areas after notes

    view_of : (b : ℕ) → (views' b ≡ grown c (views b)) ⊎ (views' b ≡ views b)
    view_of b = elim (cases_eq b a) [
      | inl is ↦ inl (ap views' is ∙ here ∙ ap (λ (d : ℕ). grown c (views d)) (sym is))
      | inr other ↦ inr (there b other)
    ]

    pub here_same : (b : ℕ) → (views' b).here ≡ (views b).here
    here_same b = ⊎_elim (λ e. ap (λ (v : View). v.here) e) (λ e. ap (λ (v : View). v.here) e) (view_of b)

    pub dated_on : (b : ℕ) → AllByRecursion (IsDated after (late whole) notes) (views' b).line
    dated_on b =
        let bound : late whole ≤ 1 = late_most whole in
        let old = all_weaker (IsDated made (late whole) notes) (IsDated after (late whole) notes)
        (λ d is. record { first = is.first; number = omega (arith, is.number, counted); early = is.early; next = λ lt. is.next (omega (arith, lt, is.number, counted)) }) (views b).line (dated b) in
        ⊎_elim
        (λ e. subst (λ (v : View). AllByRecursion (IsDated after (late whole) notes) v.line) (sym e)
        (all_push (IsDated after (late whole) notes) (views b).line c old (record { first = omega (arith, is_number); number = omega (arith, is_number, counted); early = omega (arith, is_notes); next = λ lt. omega (arith, is_notes) })))
        (λ e. subst (λ (v : View). AllByRecursion (IsDated after (late whole) notes) v.line) (sym e) old) (view_of b)

    past_of : (m : ℕ) (x : Crash) → (w : Was views' after notes m x) → w.k ≤ made → Was views made notes m x
    past_of m x w le = record {
      k = w.k;
      at = w.at;
      made = le;
      noted = w.noted;
      each = λ b. ⊎_elim
          (λ e. was_before w.k x.notes (views b) c (x.writes b) (x.image b) (omega (arith, le, is_number)) (subst (λ (v : View). WasAt v w.k x.notes (x.writes b) (x.image b)) e (w.each b)))
          (λ e. subst (λ (v : View). WasAt v w.k x.notes (x.writes b) (x.image b)) e (w.each b)) (view_of b);
    }

    -- after the call: it was the last, so nothing is split off, and the notes are those before it
    now_notes : (m : ℕ) (x : Crash) → (w : Was views' after notes m x) → made < w.k → x.notes ≡ notes
    now_notes m x w lt =
        let here_was : WasAt (grown c (views a)) w.k x.notes (x.writes a) (x.image a) = subst (λ (v : View). WasAt v w.k x.notes (x.writes a) (x.image a)) here (w.each a) in
        let at_most : c.notes ≤ x.notes = (all_last (IsAround w.k x.notes) (views a).line c here_was.around).0 (omega (arith, is_number, lt)) in
        omega (arith, at_most, is_notes, w.noted)

    now_of : (m : ℕ) (x : Crash) → (w : Was views' after notes m x) → made < w.k → LeavesNow new x
    now_of m x w lt =
        let on_time : late whole ≡ 0 = omega (arith, w.made, lt, counted) in
        let k_is : w.k ≡ after = omega (arith, w.made, lt, counted) in
        let all : (b : ℕ) → AllByRecursion (λ d. d.number ≤ after) (views' b).line = λ b. all_weaker (IsDated after (late whole) notes) (λ d. d.number ≤ after) (λ d is. omega (arith, is.number, on_time)) (views' b).line (dated_on b) in
        let each : (b : ℕ) → WasAt (views' b) after x.notes (x.writes b) (x.image b) = λ b. subst (λ (k : ℕ). WasAt (views' b) k x.notes (x.writes b) (x.image b)) k_is (w.each b) in
        record {
          counts = not_late whole on_time;
          notes = now_notes m x w lt;
          writes = λ b. (now_was after x.notes (views' b) (x.writes b) (x.image b) (all b) (each b)).0;
          leaves = λ b. (now_was after x.notes (views' b) (x.writes b) (x.image b) (all b) (each b)).1;
        }

    pub called : Elapses old new
    called =
        let bound : late whole ≤ 1 = late_most whole in record {
          later = omega (arith, counted, bound);
          counts = refl;
          tells = here_same;
          areas = refl;
          past = λ m x le w. ⊎_elim
              (λ (lt : made < w.k). absurd (let is : x.notes ≡ notes = now_notes m x w lt in omega (arith, is, lt, le, w.at, w.made, counted)))
              (λ l. past_of m x w l) (cases_lt made w.k);
          now = λ m x gt w. ⊎_elim (λ lt. now_of m x w lt) (λ (l : w.k ≤ made). absurd (omega (arith, l, gt, w.at, w.noted))) (cases_lt made w.k);
          frozen = λ out. let one : late whole ≡ 1 = is_late whole out in omega (arith, one, counted);
          keeps = λ m x w. record {
            k = w.k;
            at = w.at;
            made = omega (arith, w.made, counted, bound);
            noted = w.noted;
            each = λ b. ⊎_elim
                (λ e. subst (λ (v : View). WasAt v w.k x.notes (x.writes b) (x.image b)) (sym e)
                (was_after w.k x.notes (views b) c (x.writes b) (x.image b) (omega (arith, w.made, is_number)) (omega (arith, w.noted, is_notes)) (w.each b)))
                (λ e. subst (λ (v : View). WasAt v w.k x.notes (x.writes b) (x.image b)) (sym e) (w.each b)) (view_of b);
          };
        }
