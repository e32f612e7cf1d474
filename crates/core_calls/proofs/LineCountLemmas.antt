-- How many answers there are to lines.
use Rattle.std.proofs.Common.{◌≡◌, ◌⊎◌, ◌≤◌, ◌<◌, ◌+◌, ◌*◌, ℕ, suc, Bool, true, false, cond, not, List, [], ◌∷◌, ◌++◌, length, map, Option, Some, refl, sym, ap, ◌∙◌, subst, inl, inr, arith, true≢false}
use Rattle.std.proofs.Math.Nat.{mul-suc}
use Rattle.std.proofs.lemmas.Bool.{cond-true, cond-false}
use Rattle.std.proofs.lemmas.List.{length-append}
use Rattle.map_model.specs.declared.call.Answer.TheVariants as answer
use Rattle.map_model.specs.declared.call.Answered.{Answered}
use Rattle.map_model.specs.declared.call.Call.{Call}
use Rattle.map_model.specs.declared.call.Refusal.{Refusal}
use Rattle.map_model.specs.declared.call.Refusal.TheVariants as refusal
use Rattle.map_model.specs.Journals.{Name}
use Rattle.map_model.specs.Lists.{Has, keep}
use Rattle.map_model.specs.Outputs.{Reply}
use Rattle.map_model.specs.Pairings.{is_last, is_open_line}
use Rattle.map_model.proofs.ListLemmas.{has_left, has_right}
use Rattle.core_crash.specs.image_model.Entries.{Entry, is_commit}
use Rattle.core_crash.specs.image_model.Ends.{name_of}
use Rattle.core_crash.specs.core_state.Openings.{Opening}
use Rattle.core_crash.specs.core_state.Events.{Event}
use Rattle.core_crash.specs.core_state.Steps.{state_after}
use Rattle.core_calls.specs.Deeds.{Deed, Met, Committed, Aborted, Refused, Outcome, Unsaid, asked, answered, in_words}
use Rattle.core_calls.specs.Refusals.{Limits}
use Rattle.core_calls.specs.Fronts.{Done, front, outcomes}
use Rattle.core_calls.specs.Steps.{is_step, Goes, FollowsConflict, IsAbortOf, IsBehind, hindered_in, one_pair, met_last}
use Rattle.core_calls.specs.Runs.{EachTells}
use Rattle.core_calls.specs.Durables.{AreOnce, up_to, durables, moments, EveryDurable}
use Rattle.core_calls.specs.Alone.{names_by, commits_name}
use Rattle.core_calls.specs.Printed.{durable_lines, due_lines, printed}
use Rattle.core_calls.specs.LineCounts.{is_scan_call, asks_no_scan, lines_asked, EveryLineCount}
use Rattle.core_calls.proofs.AloneLemmas.{OfOutcome, new_or_old}
use Rattle.core_calls.proofs.CommitLemmas.{since_moments}
use Rattle.core_calls.proofs.DurableLemmas.{ripe_to}
use Rattle.core_calls.proofs.PrintedLemmas.{due_are, earlier_lines}

-- ## What a deed is to its line

-- an abort behind a conflict is the last of its line
abort_last : (c : Call) (d : Deed) → IsAbortOf c d → is_last (answered d) ≡ true
abort_last c (Aborted e n at backs) i = refl
abort_last c (Refused e why backs) i = ap (λ (w : Refusal). is_last (answer.Refused w)) i.1
abort_last c _ i = absurd i

-- it is the last, it tells a pair, or it meets a conflict
data Sort (pairs met : ℕ) (d : Deed) : Type 0 where
  Ends : is_last (answered d) ≡ true → ((n : ℕ) → one_pair d n ≡ 0) → Sort pairs met d
  Meets : is_last (answered d) ≡ false → ((n : ℕ) → one_pair d n ≡ suc n) → is_scan_call (asked d) ≡ true → met < pairs → Sort pairs met d
  Stops : is_last (answered d) ≡ false → (c : Call) → hindered_in d ≡ Some c → Sort pairs met d

sort_of : (l : Limits) (g : Opening) (w : ℕ) (earlier : List Outcome) (us : List Unsaid) (d : Deed) (es : List Event) → Goes l g w earlier us d es → Sort l.pairs (met_last earlier) d
sort_of l g w earlier us (Met from to k v alone) es go = Meets refl (λ n. refl) refl go.2
sort_of l g w earlier us (Refused c why backs) es go = by why
  where
    by : (why : Refusal) → Sort l.pairs (met_last earlier) (Refused c why backs)
    by (refusal.Conflict h) = Stops refl c refl
    by _ = Ends refl (λ n. refl)
sort_of l g w earlier us _ es go = Ends refl (λ n. refl)

-- ## The newest line

abbrev words : List Done → List Answered
words xs = map in_words (outcomes xs)

abbrev size : List Done → ℕ
size xs = length (lines_asked xs)

abbrev others : List Done → ℕ
others xs = length (keep asks_no_scan xs)

abbrev line : Done → ℕ × Call
line x = (x.outcome.session, asked x.outcome.deed)

-- it goes on
same_line : (x : Done) (xs : List Done) → is_open_line (words xs) ≡ true → size (x ∷ xs) ≡ size xs
same_line x xs e = ap (λ (ls : List (ℕ × Call)). length ls) (cond-true (is_open_line (words xs)) (lines_asked xs) (lines_asked xs ++ line x ∷ []) e)

-- or another begins
new_line : (x : Done) (xs : List Done) → is_open_line (words xs) ≡ false → size (x ∷ xs) ≡ suc (size xs)
new_line x xs e =
    let a = ap (λ (ls : List (ℕ × Call)). length ls) (cond-false (is_open_line (words xs)) (lines_asked xs) (lines_asked xs ++ line x ∷ []) e) in
    let b = length-append (lines_asked xs) (line x ∷ []) in
    omega arith

-- behind its last answer nothing belongs to it
closes : (x : Done) (xs : List Done) → is_last (answered x.outcome.deed) ≡ true → is_open_line (words (x ∷ xs)) ≡ false
closes x xs e = cond-true (is_last (answered x.outcome.deed)) false true e

opens : (x : Done) (xs : List Done) → is_last (answered x.outcome.deed) ≡ false → is_open_line (words (x ∷ xs)) ≡ true
opens x xs e = cond-false (is_last (answered x.outcome.deed)) false true e

-- How many there are: where the newest line is done with, behind pairs of a scan, or behind a conflict.
data Stands (pairs : ℕ) (xs : List Done) : Type 0 where
  Closed : is_open_line (words xs) ≡ false → met_last (outcomes xs) ≡ 0 → length xs ≤ (pairs + 2) * size xs → others xs ≤ 2 * size xs → Stands pairs xs
  Within : is_open_line (words xs) ≡ true → (n : ℕ) → size xs ≡ suc n → met_last (outcomes xs) ≤ pairs → length xs ≤ (pairs + 2) * n + met_last (outcomes xs) → others xs ≤ 2 * n → Stands pairs xs
  Hindered : is_open_line (words xs) ≡ true → ((x : Outcome) → FollowsConflict (outcomes xs) x → is_last (answered x.deed) ≡ true) → (n : ℕ) → size xs ≡ suc n →
      length xs ≤ (pairs + 2) * n + (pairs + 1) → others xs ≤ 2 * n + 1 → Stands pairs xs

-- with a line more
line_more : (k n m a : ℕ) → m ≡ suc n → a ≤ k * n + k → a ≤ k * m
line_more k n m a e h = subst (λ (i : ℕ). a ≤ k * i) (sym e) (subst (λ (i : ℕ). a ≤ i) (sym (mul-suc k n)) h)

-- within the bound of a line
within : (pairs m b a c : ℕ) → a ≤ m + b → c ≤ a + 1 → b + 1 ≤ pairs + 2 → c ≤ m + (pairs + 2)
within pairs m b a c h i j = omega (arith, h, i, j)

module _ (pairs : ℕ) (x : Done) (xs : List Done) where
  others_more : others (x ∷ xs) ≤ suc (others xs)
  others_more = go (asks_no_scan x)
    where
      go : (b : Bool) → length (cond b (x ∷ keep asks_no_scan xs) (keep asks_no_scan xs)) ≤ suc (others xs)
      go true = omega arith
      go false = omega arith

  others_same : is_scan_call (asked x.outcome.deed) ≡ true → others (x ∷ xs) ≡ others xs
  others_same e = ap (λ (ys : List Done). length ys) (cond-false (asks_no_scan x) (x ∷ keep asks_no_scan xs) (keep asks_no_scan xs) (ap not e))

  -- behind the last answer to a line
  ended : is_last (answered x.outcome.deed) ≡ true → ((n : ℕ) → one_pair x.outcome.deed n ≡ 0) → Stands pairs xs → Stands pairs (x ∷ xs)
  ended e none (Closed o z a b) =
      let s = new_line x xs o in let c = others_more in
      Closed (closes x xs e) (none (met_last (outcomes xs)))
      (line_more (pairs + 2) (size xs) (size (x ∷ xs)) (suc (length xs)) s (within pairs ((pairs + 2) * size xs) 0 (length xs) (suc (length xs)) (omega (arith, a)) (omega arith) (omega arith)))
      (omega (arith, s, b, c))
  ended e none (Within o n q m a b) =
      let s = same_line x xs o in let c = others_more in
      Closed (closes x xs e) (none (met_last (outcomes xs)))
      (line_more (pairs + 2) n (size (x ∷ xs)) (suc (length xs)) (s ∙ q) (within pairs ((pairs + 2) * n) (met_last (outcomes xs)) (length xs) (suc (length xs)) a (omega arith) (omega (arith, m))))
      (omega (arith, s, q, b, c))
  ended e none (Hindered o last n q a b) =
      let s = same_line x xs o in let c = others_more in
      Closed (closes x xs e) (none (met_last (outcomes xs)))
      (line_more (pairs + 2) n (size (x ∷ xs)) (suc (length xs)) (s ∙ q) (within pairs ((pairs + 2) * n) (pairs + 1) (length xs) (suc (length xs)) a (omega arith) (omega arith)))
      (omega (arith, s, q, b, c))

  -- behind a pair
  told : is_last (answered x.outcome.deed) ≡ false → ((n : ℕ) → one_pair x.outcome.deed n ≡ suc n) → is_scan_call (asked x.outcome.deed) ≡ true → met_last (outcomes xs) < pairs → FollowsConflict (outcomes xs) x.outcome →
      Stands pairs xs → Stands pairs (x ∷ xs)
  told e one scan few follows (Closed o z a b) =
      let s = new_line x xs o in let c = others_same scan in let p = one (met_last (outcomes xs)) in
      Within (opens x xs e) (size xs) s (omega (arith, p, few)) (omega (arith, a, p)) (omega (arith, b, c))
  told e one scan few follows (Within o n q m a b) =
      let s = same_line x xs o in let c = others_same scan in let p = one (met_last (outcomes xs)) in
      Within (opens x xs e) n (s ∙ q) (omega (arith, p, few)) (omega (arith, a, p)) (omega (arith, b, c))
  told e one scan few follows (Hindered o last n q a b) = absurd (true≢false (sym (last x.outcome follows) ∙ e))

  -- behind a conflict
  stopped : is_last (answered x.outcome.deed) ≡ false → (c : Call) → hindered_in x.outcome.deed ≡ Some c → FollowsConflict (outcomes xs) x.outcome → Stands pairs xs → Stands pairs (x ∷ xs)
  stopped e c h follows stands = go stands
    where
      last : (y : Outcome) → FollowsConflict (outcomes (x ∷ xs)) y → is_last (answered y.deed) ≡ true
      last y i = abort_last c y.deed (subst (λ (o : Option Call). IsBehind o x.outcome.session y) h i).1

      go : Stands pairs xs → Stands pairs (x ∷ xs)
      go (Closed o z a b) =
          let s = new_line x xs o in let k = others_more in
          Hindered (opens x xs e) last (size xs) s (omega (arith, a)) (omega (arith, b, k))
      go (Within o n q m a b) =
          let s = same_line x xs o in let k = others_more in
          Hindered (opens x xs e) last n (s ∙ q) (omega (arith, a, m)) (omega (arith, b, k))
      go (Hindered o ends n q a b) = absurd (true≢false (sym (ends x.outcome follows) ∙ e))

-- so it is of each run
stands : (l : Limits) (g : Opening) (group : ℕ) (xs : List Done) → EachTells l g group xs → Stands l.pairs xs
stands l g group [] t = Closed refl refl (omega arith) (omega arith)
stands l g group (x ∷ xs) t = go (sort_of l g x.outcome.session (outcomes xs) x.outcome.unsaid x.outcome.deed (keep is_step x.events) t.1.steps) (stands l g group xs t.0)
  where
    go : Sort l.pairs (met_last (outcomes xs)) x.outcome.deed → Stands l.pairs xs → Stands l.pairs (x ∷ xs)
    go (Ends e none) s = ended l.pairs x xs e none s
    go (Meets e one scan few) s = told l.pairs x xs e one scan few t.1.hindered s
    go (Stops e c h) s = stopped l.pairs x xs e c h t.1.hindered s

-- in whichever line it stands
few_answers : (pairs : ℕ) (xs : List Done) → Stands pairs xs → length xs ≤ (pairs + 2) * size xs
few_answers pairs xs (Closed o z a b) = a
few_answers pairs xs (Within o n q m a b) = line_more (pairs + 2) n (size xs) (length xs) q (within pairs ((pairs + 2) * n) (met_last (outcomes xs)) (length xs) (length xs) a (omega arith) (omega (arith, m)))
few_answers pairs xs (Hindered o last n q a b) = line_more (pairs + 2) n (size xs) (length xs) q (within pairs ((pairs + 2) * n) (pairs + 1) (length xs) (length xs) a (omega arith) (omega arith))

few_others : (pairs : ℕ) (xs : List Done) → Stands pairs xs → others xs ≤ 2 * size xs
few_others pairs xs (Closed o z a b) = b
few_others pairs xs (Within o n q m a b) = omega (arith, q, b)
few_others pairs xs (Hindered o last n q a b) = omega (arith, q, b)

-- ## Durable lines

-- a list without one that it has
abbrev without : (n : Name) (ms : List Name) → Has n ms → List Name
without n [] h = absurd h
without n (m ∷ ms) (inl e) = ms
without n (m ∷ ms) (inr h) = m ∷ without n ms h

one_less : (n : Name) (ms : List Name) (h : Has n ms) → length ms ≡ suc (length (without n ms h))
one_less n [] h = absurd h
one_less n (m ∷ ms) (inl e) = refl
one_less n (m ∷ ms) (inr h) = ap suc (one_less n ms h)

still_has : (n o : Name) (ms : List Name) (h : Has n ms) → Has o ms → (n ≡ o → ⊥) → Has o (without n ms h)
still_has n o [] h k differ = absurd h
still_has n o (m ∷ ms) (inl e) (inl f) differ = absurd (differ (e ∙ sym f))
still_has n o (m ∷ ms) (inl e) (inr k) differ = k
still_has n o (m ∷ ms) (inr h) (inl f) differ = inl f
still_has n o (m ∷ ms) (inr h) (inr k) differ = inr (still_has n o ms h k differ)

-- names that stand once, each among others, are no more than these
as_many : (ns ms : List Name) → AreOnce ns → ((n : Name) → Has n ns → Has n ms) → length ns ≤ length ms
as_many [] ms once among = omega arith
as_many (n ∷ ns) ms once among =
    let h = among n (inl refl) in
    let e = one_less n ms h in
    let r = as_many ns (without n ms h) once.0 (λ o k. still_has n o ms h (among o (inr k)) (λ same. once.1 (subst (λ (v : Name). Has v ns) (sym same) k))) in
    omega (arith, e, r)

-- the transactions that outcomes commit
abbrev names_in : List Done → List Name
names_in [] = []
names_in (x ∷ xs) = commits_name x.outcome ++ names_in xs

one_name : (w : ℕ) (d : Deed) → length (names_by w d) ≤ 1
one_name w (Committed n at) = omega arith
one_name w _ = omega arith

few_names : (xs : List Done) → length (names_in xs) ≤ length xs
few_names [] = omega arith
few_names (x ∷ xs) =
    let a = one_name x.outcome.session x.outcome.deed in
    let b = few_names xs in
    let c = length-append (commits_name x.outcome) (names_in xs) in
    omega (arith, a, b, c)

-- each commit is an outcome's
all_names : (l : Limits) (g : Opening) (group : ℕ) (xs : List Done) → EachTells l g group xs → (e : Entry) → Has e (state_after g (front xs)).entries → is_commit e.kind ≡ true → Has (name_of e) (names_in xs)
all_names l g group [] t e i k = absurd i
all_names l g group (x ∷ xs) t e i k = go (all_names l g group xs t.0 e) (new_or_old l g group x xs t e i k)
  where
    go : (Has e (state_after g (front xs)).entries → is_commit e.kind ≡ true → Has (name_of e) (names_in xs)) → Has e (state_after g (front xs)).entries ⊎ OfOutcome x e → Has (name_of e) (commits_name x.outcome ++ names_in xs)
    go ih (inl j) = has_right (name_of e) (commits_name x.outcome) (names_in xs) (ih j k)
    go ih (inr o) = has_left (name_of e) (commits_name x.outcome) (names_in xs)
        (subst (λ (d : Deed). Has (name_of e) (names_by x.outcome.session d)) (sym o.deed) (inl (ap (λ (w : ℕ). record { session = w; number = e.txn }) (sym o.session))))

few_durables : EveryDurable → (l : Limits) (g : Opening) (group : ℕ) (xs : List Done) → EachTells l g group xs → length (durables g (moments xs)) ≤ length xs
few_durables durable l g group xs t =
    let d = durable g (moments xs) in
    let a = as_many (durables g (moments xs)) (names_in xs) d.once among in
    let b = few_names xs in
    omega (arith, a, b)
  where
    among : (n : Name) → Has n (durables g (moments xs)) → Has n (names_in xs)
    among n h = let r = (durable g (moments xs)).told n h in
        subst (λ (m : Name). Has m (names_in xs)) r.3 (all_names l g group xs t r.0 (since_moments g xs r.0 r.1) (ripe_to g (state_after g (up_to (moments xs))) r.0 r.2).commit)

lines_size : (ns : List Name) → length (durable_lines ns) ≡ length ns
lines_size [] = refl
lines_size (n ∷ ns) = ap suc (lines_size ns)

-- each answer, and each durable line once
printed_size : (g : Opening) (xs : List Done) → length (printed g xs) ≡ length xs + length (durables g (moments xs))
printed_size g [] = refl
printed_size g (x ∷ xs) =
    let d = due_are g x xs in
    let a = length-append (due_lines g xs x) (earlier_lines g x xs) in
    let b = ap (λ (rs : List Reply). length rs) d.1 in
    let c = lines_size d.0 in
    let e = ap (λ (ns : List Name). length ns) d.2 in
    let f = length-append d.0 (durables g (moments xs)) in
    let h = printed_size g xs in
    omega (arith, a, b, c, e, f, h)

pub every_line_count : EveryDurable → EveryLineCount
every_line_count durable l g group xs t = record {
  answers = few_answers l.pairs xs (stands l g group xs t);
  others = few_others l.pairs xs (stands l g group xs t);
  reported = few_durables durable l g group xs t;
  printed_are = printed_size g xs;
}
