-- What ties a run's records to each other.
use Rattle.std.proofs.Common.{◌≡◌, ◌≤◌, ◌++◌, ◌&&◌, ◌==◌, ℕ, Bool, true, false, cond, not, leb, List, [], ◌∷◌, length, Some, None, refl, sym, ◌∙◌, ap, subst, arith, inl, inr, true≢false}
use Rattle.std.proofs.lemmas.Bool.{and_parts}
use Rattle.map_model.specs.Lists.{Has, keep}
use Rattle.map_model.specs.Maps.{MapAnswer}
use Rattle.map_model.specs.declared.call.Answer.TheVariants as answer
use Rattle.map_model.specs.declared.call.Answered.{Answered}
use Rattle.map_model.specs.declared.call.Call.{Call}
use Rattle.map_model.specs.declared.call.Call.TheVariants.{Commit}
use Rattle.map_model.specs.declared.call.Refusal.{Refusal}
use Rattle.map_model.specs.declared.call.Refusal.TheVariants.{Conflict}
use Rattle.map_model.specs.Pairings.{in_turn, is_last, is_last_refusal, is_open_line, script_of}
use Rattle.lean_shell.specs.image_model.Entries.{Entry}
use Rattle.lean_shell.specs.core_state.Events.{Event}
use Rattle.lean_shell.specs.core_state.Needs.{are_hot, following, holds_answer, is_following, is_leaf_of, needs}
use Rattle.lean_shell.specs.core_state.Openings.{Opening}
use Rattle.lean_shell.specs.core_state.States.{State}
use Rattle.lean_shell.specs.core_state.Steps.{run, state_after}
use Rattle.lean_shell.specs.core_calls.Deeds.{Deed, Met, Refused, answered}
use Rattle.lean_shell.specs.core_calls.Scans.{is_scan}
use Rattle.lean_shell.specs.core_calls.Steps.{hindered_in, is_conflict}
use Rattle.lean_disk.specs.Story.{Story}
use Rattle.lean_shell.specs.core_calls.Fronts.{Done, front}
use Rattle.lean_shell.specs.script_run.Runs.{calls_of}
use Rattle.run_tests.specs.Ties.{EveryConflictIsAborted, EveryFlushedIsLeft, EveryHandIsNext, EveryPairIsHeld, EveryUsedIsWritten}

hindered_open : (d : Deed) (c : Call) → hindered_in d ≡ Some c → is_last (answered d) ≡ false
hindered_open (Refused asks why backs) c e = at why e
  where
    at : (why : Refusal) → cond (is_conflict why) (Some asks) None ≡ Some c → is_last_refusal why ≡ false
    at (Conflict h) e = refl
    at _ e = absurd (cc)
hindered_open _ c e = absurd (cc)

not_hindered : (newest : Done) (earlier : List Done) (c : Call) → is_open_line (calls_of (newest ∷ earlier)) ≡ false → hindered_in newest.outcome.deed ≡ Some c → ⊥
not_hindered newest earlier c closed e =
    let open_yet : cond (is_last (answered newest.outcome.deed)) false true ≡ true = ap (λ (b : Bool). cond b false true) (hindered_open newest.outcome.deed c e) in
    true≢false (sym open_yet ∙ closed)

pub every_conflict_is_aborted : (s0 s1 : Story) → EveryConflictIsAborted s0 s1
every_conflict_is_aborted s0 s1 size status feed0 feed1 put sink0 sink1 x newest earlier c are w d e =
    not_hindered newest earlier c (subst (λ (xs : List Done). is_open_line (calls_of xs) ≡ false) are (x.closed w d)) e

-- who tells a pair tells it of a scan
tells_scan : (d : Deed) (key value : ℕ) → answered d ≡ answer.Pair key value → is_scan d ≡ true
tells_scan (Met from to k v alone) key value e = refl
tells_scan _ key value e = absurd (cc)

pub every_pair_is_held : (s0 s1 : Story) → EveryPairIsHeld s0 s1
every_pair_is_held s0 s1 size status feed0 feed1 put sink0 sink1 x later earlier y key value are told =
    let g : Opening = x.executed.opening in
    let r = (x.scans later earlier y are (tells_scan y.outcome.deed key value told)).told key value told in
    let s : State = run g (state_after g (front earlier)) r.before in
    let w : ℕ = y.outcome.session in
    let a : MapAnswer = MapAnswer.Pair key r.word in
    let n = (and_parts (are_hot s (r.page ∷ [])) (needs g s (Event.Next w r.page r.at a)) r.met).1 in
    let b = (and_parts (s.worker w).is_open (is_leaf_of g (s.page r.page).node r.page r.at && (is_following a (following g.format r.at (s.page r.page).node.pairs (s.page r.page).node.high) && holds_answer g s w a)) n).1 in
    let c = (and_parts (is_leaf_of g (s.page r.page).node r.page r.at) (is_following a (following g.format r.at (s.page r.page).node.pairs (s.page r.page).node.high) && holds_answer g s w a) b).1 in
    record {
      before = r.before;
      after = Event.Next w r.page r.at a ∷ r.after;
      is = r.is;
      held = (and_parts (is_following a (following g.format r.at (s.page r.page).node.pairs (s.page r.page).node.high)) (holds_answer g s w a) c).1;
      page = r.page;
      stood = r.stood;
    }

-- lists that end alike
last_of : (xs ys : List Answered) (x y : Answered) → xs ++ x ∷ [] ≡ ys ++ y ∷ [] → (xs ≡ ys) × (x ≡ y)
last_of [] [] x y e = (refl, cc)
last_of [] (b ∷ ys) x y e = absurd (none ys y (ap (λ (l : List Answered). length l) e))
  where
    none : (ys : List Answered) (y : Answered) → 1 ≡ length (b ∷ ys ++ y ∷ []) → ⊥
    none [] y e = omega (arith, e)
    none (z ∷ ys) y e = omega (arith, e)
last_of (a ∷ xs) [] x y e = absurd (none xs x (ap (λ (l : List Answered). length l) e))
  where
    none : (xs : List Answered) (x : Answered) → length (a ∷ xs ++ x ∷ []) ≡ 1 → ⊥
    none [] x e = omega (arith, e)
    none (z ∷ xs) x e = omega (arith, e)
last_of (a ∷ xs) (b ∷ ys) x y e =
    let h : a ≡ b = cc in let t : xs ++ x ∷ [] ≡ ys ++ y ∷ [] = cc in
    let r = last_of xs ys x y t in (cc (h, r.0), r.1)

same_turn : (xs ys : List Answered) → in_turn xs ≡ in_turn ys → xs ≡ ys
same_turn [] [] e = refl
same_turn [] (y ∷ ys) e = absurd (none (in_turn ys) y e)
  where
    none : (l : List Answered) (y : Answered) → [] ≡ l ++ y ∷ [] → ⊥
    none [] y e = cc
    none (z ∷ l) y e = cc
same_turn (x ∷ xs) [] e = absurd (none (in_turn xs) x e)
  where
    none : (l : List Answered) (x : Answered) → l ++ x ∷ [] ≡ [] → ⊥
    none [] x e = cc
    none (z ∷ l) x e = cc
same_turn (x ∷ xs) (y ∷ ys) e =
    let r = last_of (in_turn xs) (in_turn ys) x y e in
    let i = same_turn xs ys r.0 in let j = r.1 in cc

same_rest : (xs a b : List (ℕ × Call)) → xs ++ a ≡ xs ++ b → a ≡ b
same_rest [] a b e = e
same_rest (x ∷ xs) a b e = same_rest xs a b (let t : xs ++ a ≡ xs ++ b = cc in t)

first_pair : (x y : ℕ × Call) (xs ys : List (ℕ × Call)) → x ∷ xs ≡ y ∷ ys → x ≡ y
first_pair x y xs ys e = cc

pub every_hand_is_next : EveryHandIsNext
every_hand_is_next workers input output records all x calls session call others told comes =
    let same : calls ≡ x.calls = same_turn calls x.calls (sym told ∙ x.told) in
    let lines = ap (λ (cs : List Answered). script_of cs ++ (session, call) ∷ others) (sym same) ∙ (sym comes ∙ x.comes) in
    let pair = first_pair (session, call) (x.end.log, Commit) others x.others (same_rest (script_of x.calls) ((session, call) ∷ others) ((x.end.log, Commit) ∷ x.others) lines) in
    record { session_is = ap (λ (p : ℕ × Call). p.0) pair; call_is = ap (λ (p : ℕ × Call). p.1) pair }

kept_has : (p : Entry → Bool) (xs : List Entry) (r : Entry) → Has r xs → p r ≡ true → Has r (keep p xs)
kept_has p [] r h e = absurd h
kept_has p (x ∷ xs) r (inl q) e = subst (λ (b : Bool). Has r (cond b (x ∷ keep p xs) (keep p xs))) (sym (ap p (sym q) ∙ e)) (inl q)
kept_has p (x ∷ xs) r (inr h) e = go (p x) (kept_has p xs r h e)
  where
    go : (b : Bool) → Has r (keep p xs) → Has r (cond b (x ∷ keep p xs) (keep p xs))
    go true i = inr i
    go false i = i

pub every_flushed_is_left : EveryFlushedIsLeft
every_flushed_is_left s w records o r h low above =
    subst (Has r) (sym o.are) (kept_has (λ e. not (leb e.number (s.head w))) o.left r (o.flushed r h low) (ap not above))

pub every_used_is_written : (s0 s1 : Story) → EveryUsedIsWritten s0 s1
every_used_is_written s0 s1 size status feed0 feed1 put sink0 sink1 x m no_fault tells all clean young w low high =
    let b = (x.disk no_fault tells m all clean young).logs w low high in record {
      written = b.written;
      enough = (let c = b.count in let d = go ((x.executed.last.log w).count == 0) in omega (arith, c, d));
      lie = b.lie;
    }
  where
    go : (z : Bool) → cond z 0 1 ≤ 1
    go true = omega arith
    go false = omega arith
