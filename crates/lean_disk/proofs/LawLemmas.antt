-- At each moment of a disk in memory a crash is told of.
use Rattle.std.proofs.Common.{◌≡◌, ◌⊎◌, inl, inr, ⊎_elim, ℕ, zero, suc, ◌+◌, ◌≤◌, ◌<◌, Bool, true, false, if◌then◌else◌, IsTrue, List, [], ◌∷◌, refl, subst, arith}
use Rattle.std.specs.List.{AllByRecursion}
use Rattle.std.proofs.lemmas.Bool.{cases_lt}
use Rattle.lean_disk.specs.Area.{fresh}
use Rattle.lean_disk.specs.Memory.{IsAround, IsDated, IsInStep, AreDated, AreInStep, all_here, all_own, area_after, areas_story, late, slot_view, view_at}
use Rattle.lean_disk.specs.Laws.{EveryMoment, HasCrash}
use Rattle.lean_disk.specs.Replay.{upto}
use Rattle.lean_disk.specs.Inside.Areas.{reads_so, replay_fits}
use Rattle.lean_disk.specs.Inside.Kept.{is_not_late}
use Rattle.lean_disk.specs.Inside.Lists.{all_weaker, all_both}
use Rattle.lean_disk.specs.declared.area_log.Call.{Call}
use Rattle.lean_disk.specs.declared.slot.Slot.{Slot}

-- a call past number k, with at most i notes before it
record IsFew (k i : ℕ) (Q : Call → Type 0) : Type 0 where
  call : Call
  later : k < call.number
  few : call.notes ≤ i
  holds : Q call

-- each call past number k has more than i notes before it, or there is one that hasn't
abbrev AreMany : ℕ → ℕ → List Call → Type 0
AreMany k i line = AllByRecursion (λ c. k < c.number → suc i ≤ c.notes) line

module _ (k i : ℕ) (Q : Call → Type 0) where
  one_many : (c : Call) → Q c → (k < c.number → suc i ≤ c.notes) ⊎ IsFew k i Q
  one_many c holds = ⊎_elim
      (λ (lt : k < c.number). ⊎_elim
      (λ (many : i < c.notes). inl (λ _. omega (arith, many)))
      (λ (few : c.notes ≤ i). inr (record { call = c; later = lt; few = few; holds = holds }))
      (cases_lt i c.notes))
      (λ (le : c.number ≤ k). inl (λ lt. absurd (omega (arith, lt, le))))
      (cases_lt k c.number)

  line_many : (line : List Call) → AllByRecursion Q line → AreMany k i line ⊎ IsFew k i Q
  line_many [] all = inl tt
  line_many (c ∷ line) all = ⊎_elim (λ here. ⊎_elim (λ rest. inl (here, rest)) (λ few. inr few) (line_many line all.1)) (λ few. inr few) (one_many c all.0)

  areas_many : (slots : List Slot) → ((a : ℕ) → AllByRecursion Q (view_at slots a).line) → ((a : ℕ) → AreMany k i (view_at slots a).line) ⊎ IsFew k i Q
  areas_many [] all = inl (λ a. tt)
  areas_many (slot ∷ slots) all = ⊎_elim
      (λ (here : AreMany k i (slot_view slot).line). ⊎_elim (λ rest. inl (first_many slot slots here rest)) (λ few. inr few) (areas_many slots (λ a. all (suc a))))
      (λ few. inr few) (line_many (slot_view slot).line (all zero)) where
        first_many : (x : Slot) (xs : List Slot) → AreMany k i (slot_view x).line → ((a : ℕ) → AreMany k i (view_at xs a).line) → (a : ℕ) → AreMany k i (view_at (x ∷ xs) a).line
        first_many x xs here rest zero = here
        first_many x xs here rest (suc a) = rest a

-- what holds of a call with each number holds with all
each_all : (P : ℕ → Call → Type 0) (line : List Call) → ((b : ℕ) → AllByRecursion (P b) line) → AllByRecursion (λ c. (b : ℕ) → P b c) line
each_all P [] all = tt
each_all P (c ∷ line) all = ((λ b. (all b).0), each_all P line (λ b. (all b).1))

module _ (slots : List Slot) (made notes : ℕ) (dated : (a : ℕ) → AllByRecursion (IsDated made 0 notes) (view_at slots a).line) (in_step : AreInStep (view_at slots)) where
  -- how many calls and notes there were at a moment
  record IsThen (m : ℕ) : Type 0 where
    k : ℕ
    i : ℕ
    at : k + i ≡ m
    calls : k ≤ made
    noted : i ≤ notes
    around : (a : ℕ) → AllByRecursion (IsAround k i) (view_at slots a).line

  abbrev IsKnown : Call → Type 0
  IsKnown x = IsDated made 0 notes x × ((b : ℕ) → AllByRecursion (IsInStep x) (view_at slots b).line)

  known : (a : ℕ) → AllByRecursion IsKnown (view_at slots a).line
  known a = all_both (IsDated made 0 notes) (λ x. (b : ℕ) → AllByRecursion (IsInStep x) (view_at slots b).line) IsKnown (λ x p q. (p, q)) (view_at slots a).line (dated a)
      (each_all (λ b x. AllByRecursion (IsInStep x) (view_at slots b).line) (view_at slots a).line (in_step a))

  begins : IsThen 0
  begins = record {
    k = 0;
    i = 0;
    at = refl;
    calls = omega arith;
    noted = omega arith;
    around = λ a. all_weaker (IsDated made 0 notes) (IsAround 0 0) (λ c is. ((λ le. absurd (omega (arith, le, is.first))), (λ lt. omega arith))) (view_at slots a).line (dated a);
  }

  -- the next moment is a note
  note_next : (m : ℕ) (t : IsThen m) → t.i < notes → ((a : ℕ) → AreMany t.k t.i (view_at slots a).line) → IsThen (suc m)
  note_next m t lt many = record {
    k = t.k;
    i = suc t.i;
    at = omega (arith, t.at);
    calls = t.calls;
    noted = omega (arith, lt);
    around = λ a. all_both (IsAround t.k t.i) (λ c. t.k < c.number → suc t.i ≤ c.notes) (IsAround t.k (suc t.i))
        (λ c was more. ((λ le. let few : c.notes ≤ t.i = was.0 le in omega (arith, few)), more)) (view_at slots a).line (t.around a) (many a);
  }

  -- it is a call
  call_next : (m : ℕ) (t : IsThen m) → suc t.k ≤ made → ((a : ℕ) → AllByRecursion (λ c. c.number ≤ suc t.k → c.notes ≤ t.i) (view_at slots a).line) → IsThen (suc m)
  call_next m t le few = record {
    k = suc t.k;
    i = t.i;
    at = omega (arith, t.at);
    calls = le;
    noted = t.noted;
    around = λ a. all_both (IsAround t.k t.i) (λ c. c.number ≤ suc t.k → c.notes ≤ t.i) (IsAround (suc t.k) t.i)
        (λ c was less. (less, (λ lt. was.1 (omega (arith, lt))))) (view_at slots a).line (t.around a) (few a);
  }

  few_next : (m : ℕ) (t : IsThen m) → IsFew t.k t.i IsKnown → IsThen (suc m)
  few_next m t few = call_next m t (omega (arith, few.later, few.holds.0.number))
      (λ a. all_weaker (IsInStep few.call) (λ c. c.number ≤ suc t.k → c.notes ≤ t.i)
      (λ c step le. let less : c.notes ≤ few.call.notes = step.down (omega (arith, le, few.later)) in omega (arith, less, few.few)) (view_at slots a).line (few.holds.1 a))

  all_noted : (m : ℕ) (t : IsThen m) → suc m ≤ made + notes → notes ≤ t.i → IsThen (suc m)
  all_noted m t le ge = call_next m t (omega (arith, le, ge, t.at, t.noted))
      (λ a. all_weaker (IsDated made 0 notes) (λ c. c.number ≤ suc t.k → c.notes ≤ t.i) (λ c is _. omega (arith, is.early, ge)) (view_at slots a).line (dated a))

  next_then : (m : ℕ) → suc m ≤ made + notes → IsThen m → IsThen (suc m)
  next_then m le t = ⊎_elim
      (λ (lt : t.i < notes). ⊎_elim (λ many. note_next m t lt many) (λ few. few_next m t few) (areas_many t.k t.i IsKnown slots known))
      (λ (ge : notes ≤ t.i). all_noted m t le ge)
      (cases_lt t.i notes)

  then_at : (m : ℕ) → m ≤ made + notes → IsThen m
  then_at zero le = begins
  then_at (suc m) le = next_then m le (then_at m (omega (arith, le)))

-- the crash at that moment leaves what a read gave then
own_of : (own here : Bool) → IsTrue (if own then here else false) → own ≡ true
own_of true here is = refl
own_of false here is = absurd (let no : false ≡ true = is in cc)

areas_crash : (own : Bool) (slots : List Slot) (made notes m : ℕ) → AreDated own slots made notes → AreInStep (view_at slots) → late (all_own own slots) ≡ 0 → m ≤ made + notes → HasCrash (areas_story own slots made notes) m
areas_crash own slots made notes m dated in_step on_time le =
    let dated_now : (a : ℕ) → AllByRecursion (IsDated made 0 notes) (view_at slots a).line = λ a. subst (λ (n : ℕ). AllByRecursion (IsDated made n notes) (view_at slots a).line) on_time (dated a) in
    let t = then_at slots made notes dated_now in_step m le in
    record {
      crash = record { notes = t.i; writes = λ a. (area_after t.k (view_at slots a)).writes; image = λ a. (area_after t.k (view_at slots a)).bytes };
      there = record {
        k = t.k;
        at = t.at;
        made = t.calls;
        noted = t.noted;
        each = λ a. record {
          around = t.around a;
          writes = λ here. refl;
          leaves = λ here. reads_so (area_after t.k (view_at slots a)) (replay_fits (fresh (view_at slots a).first) (upto t.k (view_at slots a).line) (omega arith));
        };
      };
    }

pub every_moment : EveryMoment
every_moment d m counts le =
    let on_time : late (all_own d.own d.areas.items) ≡ 0 = is_not_late (all_own d.own d.areas.items) counts in
    areas_crash d.own d.areas.items d.made d.notes m d.dated (d.in_step (own_of d.own (all_here d.areas.items) counts)) on_time (omega (arith, le, on_time))
