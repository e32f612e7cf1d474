-- What a choice leaves is what a crash may leave.
use Rattle.std.proofs.Common.{if◌then◌else◌, ◌≡◌, ⊎_elim, ℕ, ◌+◌, ◌/◌, ◌≤◌, ◌<◌, Bool, true, false, nat_le, List, [], ◌∷◌, ◌++◌, length, get_or, take, drop, replicate, refl, sym, ◌∙◌, ap, subst, arith, append-nil}
use Rattle.std.proofs.lemmas.List.{take_more, take-append-drop, length-take, length-replicate}
use Rattle.std.proofs.lemmas.Bool.{le-leb, cases_lt}
use Rattle.std.proofs.lemmas.Bool.Decides.{nat_tests}
use Rattle.std.specs.List.{AllByRecursion}
use Rattle.lean_disk.specs.Area.{Area, Leaves, fresh, written, torn, synced, put_over}
use Rattle.lean_disk.specs.Replay.{step, replay, upto}
use Rattle.lean_disk.specs.Memory.{View, IsAround, area_after}
use Rattle.lean_disk.specs.Crashed.{Held, put_choice, held_step, held, held_at, by_moment, left_by}
use Rattle.lean_disk.specs.Inside.Synced.{IsSyncedBy}
use Rattle.lean_disk.specs.Inside.Areas.{chosen_torn, chosen_written, torn_more, put_over_apart, synced_left, reads_so, step_fits}
use Rattle.lean_disk.specs.Inside.Lists.{upto_yes, upto_no}
use Rattle.lean_disk.specs.declared.area_log.Call.{Call}
use Rattle.lean_disk.specs.declared.area_log.What.{What}
use Rattle.lean_disk.specs.declared.area_log.What.TheVariants.{Looked, Wrote, Synced}
use Rattle.lean_disk.specs.declared.crash.Choice.{Choice}
use Rattle.lean_disk.specs.declared.crash.Choice.TheVariants.{NoBytes, AllBytes, FirstHalf, Zeros}

by_yes : (m : ℕ) (c : Call) (cs : List Call) → nat_le (c.number + c.notes) m ≡ true → by_moment m (c ∷ cs) ≡ c ∷ by_moment m cs
by_yes m c cs is = ap (λ (b : Bool). if b then c ∷ by_moment m cs else by_moment m cs) is

by_no : (m : ℕ) (c : Call) (cs : List Call) → nat_le (c.number + c.notes) m ≡ false → by_moment m (c ∷ cs) ≡ by_moment m cs
by_no m c cs is = ap (λ (b : Bool). if b then c ∷ by_moment m cs else by_moment m cs) is

by_head : (c : Call) (xs ys zs : List Call) (b : Bool) → xs ≡ ys ++ zs → (if b then c ∷ xs else xs) ≡ (if b then c ∷ ys else ys) ++ zs
by_head c xs ys zs true is = ap (λ (l : List Call). c ∷ l) is
by_head c xs ys zs false is = is

by_append : (m : ℕ) (xs ys : List Call) → by_moment m (xs ++ ys) ≡ by_moment m xs ++ by_moment m ys
by_append m [] ys = refl
by_append m (x ∷ xs) ys = by_head x (by_moment m (xs ++ ys)) (by_moment m xs) (by_moment m ys) (nat_le (x.number + x.notes) m) (by_append m xs ys)

held_append : (choice : Choice) (h : Held) (xs ys : List Call) → held choice h (xs ++ ys) ≡ held choice (held choice h xs) ys
held_append choice h [] ys = refl
held_append choice h (x ∷ xs) ys = held_append choice (held_step choice h x.what) xs ys

-- one call of a list more
module _ (choice : Choice) (h : Held) (m : ℕ) (calls : List Call) (i : ℕ) (c : Call) (lt : i < length calls) (is : c ≡ get_or calls i c) where
  more : take (i + 1) calls ≡ take i calls ++ c ∷ []
  more = take_more calls i c lt ∙ ap (λ (d : Call). take i calls ++ d ∷ []) (sym is)

  pub held_more : nat_le (c.number + c.notes) m ≡ true → held choice h (by_moment m (take (i + 1) calls)) ≡ held_step choice (held choice h (by_moment m (take i calls))) c.what
  held_more by_then = ap (λ (l : List Call). held choice h (by_moment m l)) more
      ∙ ap (held choice h) (by_append m (take i calls) (c ∷ []) ∙ ap (λ (l : List Call). by_moment m (take i calls) ++ l) (by_yes m c [] by_then))
      ∙ held_append choice h (by_moment m (take i calls)) (c ∷ [])

  pub held_still : nat_le (c.number + c.notes) m ≡ false → held choice h (by_moment m (take (i + 1) calls)) ≡ held choice h (by_moment m (take i calls))
  held_still later = ap (λ (l : List Call). held choice h (by_moment m l)) more
      ∙ ap (held choice h) (by_append m (take i calls) (c ∷ []) ∙ ap (λ (l : List Call). by_moment m (take i calls) ++ l) (by_no m c [] later) ∙ append-nil (by_moment m (take i calls)))

-- after a sync that answered Done
pub held_synced : (choice : Choice) (m : ℕ) (first : List ℕ) (calls : List Call) (i : ℕ) (c : Call) → i < length calls → c ≡ get_or calls i c → IsSyncedBy m c
    → (held_at choice m first (take (i + 1) calls)).left ≡ (held_at choice m first (take (i + 1) calls)).read
held_synced choice m first calls i c lt is done =
    let start : Held = record { read = first; left = first } in
    let by_then : nat_le (c.number + c.notes) m ≡ true = le-leb (c.number + c.notes) m done.by_then in
    let last : held_at choice m first (take (i + 1) calls) ≡ held_step choice (held_at choice m first (take i calls)) (Synced true) =
    held_more choice start m calls i c lt is by_then ∙ ap (held_step choice (held_at choice m first (take i calls))) done.synced in
    ap (λ (h : Held). h.left) last ∙ sym (ap (λ (h : Held). h.read) last)

-- both parts of a list of calls
pub held_parts : (choice : Choice) (m n : ℕ) (first read : List ℕ) (calls : List Call) → (held_at choice m first (take n calls)).read ≡ read
    → (held_at choice m first (take n calls)).left ≡ (held_at choice m first (take n calls)).read → held_at choice m read (drop n calls) ≡ held_at choice m first calls
held_parts choice m n first read calls gives same =
    let start : Held = record { read = first; left = first } in
    let middle : Held = held_at choice m first (take n calls) in
    let here : let now : Held = record { read = read; left = read } in now ≡ middle = λ i. record { read = sym gives i; left = sym (same ∙ gives) i } in
    ap (λ (h : Held). held choice h (by_moment m (drop n calls))) here
    ∙ sym (held_append choice start (by_moment m (take n calls)) (by_moment m (drop n calls)))
    ∙ ap (held choice start) (sym (by_append m (take n calls) (drop n calls)))
    ∙ ap (λ (l : List Call). held choice start (by_moment m l)) (take-append-drop n calls)

torn_left : (choice : Choice) (at : ℕ) (bytes left : List ℕ) (x : Area) → x.end ≤ length x.bytes → Leaves x left → Leaves (torn at bytes x) (put_choice choice at bytes left)
torn_left NoBytes at bytes left x fits leaves = torn_more at bytes x left leaves
torn_left AllBytes at bytes left x fits leaves = chosen_torn at bytes bytes x left (omega arith) fits leaves
torn_left FirstHalf at bytes left x fits leaves = chosen_torn at bytes (take (length bytes / 2) bytes) x left (omega (arith, length-take {A = ℕ})) fits leaves
torn_left Zeros at bytes left x fits leaves = chosen_torn at bytes (replicate (length bytes) 0) x left (omega (arith, length-replicate {A = ℕ} (length bytes) 0)) fits leaves

written_left : (choice : Choice) (at : ℕ) (bytes left : List ℕ) (x : Area) → x.end ≤ length x.bytes → Leaves x left → Leaves (written at bytes x) (put_choice choice at bytes left)
written_left NoBytes at bytes left x fits leaves = record {
  clean = λ e. cc;
  no_shorter = leaves.no_shorter;
  same = λ j lt apart. leaves.same j lt apart.1 ∙ sym (put_over_apart at bytes x.bytes j (omega (arith, lt, fits)) apart.0);
}
written_left AllBytes at bytes left x fits leaves = chosen_written at bytes bytes x left (omega arith) fits leaves
written_left FirstHalf at bytes left x fits leaves = chosen_written at bytes (take (length bytes / 2) bytes) x left (omega (arith, length-take {A = ℕ})) fits leaves
written_left Zeros at bytes left x fits leaves = chosen_written at bytes (replicate (length bytes) 0) x left (omega (arith, length-replicate {A = ℕ} (length bytes) 0)) fits leaves

step_left : (choice : Choice) (h : Held) (what : What) (x : Area) → x.end ≤ length x.bytes → x.bytes ≡ h.read → Leaves x h.left
    → ((step x what).bytes ≡ (held_step choice h what).read) × Leaves (step x what) (held_step choice h what).left
step_left choice h Looked x fits same leaves = (same, leaves)
step_left choice h (Wrote at bytes true) x fits same leaves = (ap (put_over at bytes.items) same, written_left choice at bytes.items h.left x fits leaves)
step_left choice h (Wrote at bytes false) x fits same leaves = (same, torn_left choice at bytes.items h.left x fits leaves)
step_left choice h (Synced true) x fits same leaves = (same, subst (Leaves (synced x)) same (synced_left x))
step_left choice h (Synced false) x fits same leaves = (same, leaves)

held_left : (choice : Choice) (h : Held) (calls : List Call) (x : Area) → x.end ≤ length x.bytes → x.bytes ≡ h.read → Leaves x h.left → Leaves (replay x calls) (held choice h calls).left
held_left choice h [] x fits same leaves = leaves
held_left choice h (c ∷ calls) x fits same leaves =
    let one = step_left choice h c.what x fits same leaves in
    held_left choice (held_step choice h c.what) calls (step x c.what) (step_fits x c.what fits) one.0 one.1

-- at a moment that was, the calls by then are those up to a number
by_is_upto : (k i m : ℕ) → k + i ≡ m → (line : List Call) → AllByRecursion (IsAround k i) line → by_moment m line ≡ upto k line
by_is_upto k i m at [] all = refl
by_is_upto k i m at (c ∷ cs) all = ⊎_elim
    (λ (lt : k < c.number).
    let few : i ≤ c.notes = all.0.1 lt in
    by_no m c cs (let e : nat_le (c.number + c.notes) m ≡ false = grind (arith, nat_tests) in e) ∙ by_is_upto k i m at cs all.1 ∙ sym (upto_no k c cs lt))
    (λ (le : c.number ≤ k).
    let few : c.notes ≤ i = all.0.0 le in
    by_yes m c cs (le-leb (c.number + c.notes) m (omega (arith, le, few, at))) ∙ ap (λ (l : List Call). c ∷ l) (by_is_upto k i m at cs all.1) ∙ sym (upto_yes k c cs le))
    (cases_lt k c.number)

-- what a choice leaves is what a crash may leave
pub choice_leaves : (choice : Choice) (k i m : ℕ) → k + i ≡ m → (v : View) → AllByRecursion (IsAround k i) v.line → Leaves (area_after k v) (left_by choice m v)
choice_leaves choice k i m at v around =
    subst (λ (l : List Call). Leaves (replay (fresh v.first) l) (left_by choice m v)) (by_is_upto k i m at v.line around)
    (held_left choice (record { read = v.first; left = v.first }) (by_moment m v.line) (fresh v.first) (omega arith) refl (reads_so (fresh v.first) (omega arith)))
