-- Lines and their answers.
use Rattle.std.proofs.Common.{◌≡◌, ◌⊎◌, ℕ, Bool, true, false, cond, ◌==◌, List, [], ◌∷◌, ◌++◌, Option, Some, refl, sym, ap, ap₂, ◌∙◌, subst, inl, inr, true≢false}
use Rattle.std.proofs.lemmas.Bool.{cases_eq, eq-eqb, ne_eqb, cond-true, cond-false}
use Rattle.std.proofs.lemmas.List.{append-nil}
use mathlib.Core.List.{append_assoc}
use Rattle.map_model.specs.declared.call.Call.{Call}
use Rattle.map_model.specs.declared.call.Answered.{Answered}
use Rattle.map_model.specs.Lists.{keep}
use Rattle.map_model.specs.Pairings.{is_last, first_call, rest_of, pair_onto, grouped, counted, calls_of, is_of, AreAnswered, EachIsAnswered, answers_in, in_turn, is_open_line, script_of, GoesOn, EachGoesOn}
use Rattle.map_model.specs.PairLaws.{ArePaired, EveryPair, EveryScript, HasLinesOf, EveryRoundScript, WorkedPairs}

-- the first line of a session that has lines
first_is : (w : ℕ) (asked : List (ℕ × Call)) (c : Call) (more : List Call) → calls_of w asked ≡ c ∷ more → first_call w asked ≡ Some c
first_is w [] c more e = absurd (cc)
first_is w (x ∷ xs) c more e = go (first_is w xs c more) (x.0 == w) e
  where
    head : List Call → Call
    head [] = c
    head (y ∷ ys) = y

    go : (calls_of w xs ≡ c ∷ more → first_call w xs ≡ Some c) → (b : Bool) → cond b (x.1 ∷ calls_of w xs) (calls_of w xs) ≡ c ∷ more → cond b (Some x.1) (first_call w xs) ≡ Some c
    go ih true q = ap (λ (l : List Call). Some (head l)) q
    go ih false q = ih q

abbrev tail_or : List Call → List Call
tail_or [] = []
tail_or (y ∷ ys) = ys

rest_own : (w : ℕ) (asked : List (ℕ × Call)) (c : Call) (more : List Call) → calls_of w asked ≡ c ∷ more → calls_of w (rest_of w asked) ≡ more
rest_own w [] c more e = absurd (cc)
rest_own w (x ∷ xs) c more e = go (rest_own w xs c more) (x.0 == w) refl e
  where
    go : (calls_of w xs ≡ c ∷ more → calls_of w (rest_of w xs) ≡ more) → (b : Bool) → (x.0 == w) ≡ b → cond b (x.1 ∷ calls_of w xs) (calls_of w xs) ≡ c ∷ more → calls_of w (cond b xs (x ∷ rest_of w xs)) ≡ more
    go ih true k q = ap tail_or q
    go ih false k q = cond-false (x.0 == w) (x.1 ∷ calls_of w (rest_of w xs)) (calls_of w (rest_of w xs)) k ∙ ih q

rest_other : (w v : ℕ) (asked : List (ℕ × Call)) → (v ≡ w → ⊥) → calls_of v (rest_of w asked) ≡ calls_of v asked
rest_other w v [] n = refl
rest_other w v (x ∷ xs) n = go (rest_other w v xs n) (cases_eq x.0 w)
  where
    go : calls_of v (rest_of w xs) ≡ calls_of v xs → ((x.0 ≡ w) ⊎ (x.0 ≡ w → ⊥)) → calls_of v (rest_of w (x ∷ xs)) ≡ calls_of v (x ∷ xs)
    go ih (inl q) = ap (calls_of v) (cond-true (x.0 == w) xs (x ∷ rest_of w xs) (eq-eqb x.0 w q)) ∙ sym (cond-false (x.0 == v) (x.1 ∷ calls_of v xs) (calls_of v xs) (ne_eqb x.0 v (λ z. n (sym z ∙ q))))
    go ih (inr q) = ap (calls_of v) (cond-false (x.0 == w) xs (x ∷ rest_of w xs) (ne_eqb x.0 w q)) ∙ ap (λ (l : List Call). cond (x.0 == v) (x.1 ∷ l) l) ih

-- the first of a session's answers
record First (asked : List (ℕ × Call)) (x : Answered) (xs : List Answered) : Type 0 where
  more : List Call
  calls : calls_of x.session asked ≡ x.call ∷ more
  rest : AreAnswered (cond (is_last x.answer) more (x.call ∷ more)) (keep (is_of x.session) xs)

first : (asked : List (ℕ × Call)) (x : Answered) (xs : List Answered) → AreAnswered (calls_of x.session asked) (keep (is_of x.session) (x ∷ xs)) → First asked x xs
first asked x xs a = go (calls_of x.session asked) refl
    (subst (λ (l : List Answered). AreAnswered (calls_of x.session asked) l) (cond-true (x.session == x.session) (x ∷ keep (is_of x.session) xs) (keep (is_of x.session) xs) (eq-eqb x.session x.session refl)) a)
  where
    go : (l : List Call) → calls_of x.session asked ≡ l → AreAnswered l (x ∷ keep (is_of x.session) xs) → First asked x xs
    go [] e b = absurd b
    go (c ∷ l) e b = record {
      more = l;
      calls = e ∙ ap (λ (y : Call). y ∷ l) (sym b.0);
      rest = subst (λ (y : Call). AreAnswered (cond (is_last x.answer) l (y ∷ l)) (keep (is_of x.session) xs)) (sym b.0) b.1;
    }

grouped_is : (asked : List (ℕ × Call)) (xs : List Answered) → EachIsAnswered asked xs → grouped asked (answers_in xs) ≡ xs
grouped_is asked [] a = refl
grouped_is asked (x ∷ xs) a = go (first asked x xs (a x.session)) (λ next h. grouped_is next xs h)
  where
    go : First asked x xs → ((next : List (ℕ × Call)) → EachIsAnswered next xs → grouped next (answers_in xs) ≡ xs) →
        pair_onto (first_call x.session asked) x.session x.answer (grouped (cond (is_last x.answer) (rest_of x.session asked) asked) (answers_in xs)) ≡ x ∷ xs
    go f ih = ap (λ (o : Option Call). pair_onto o x.session x.answer (grouped (cond (is_last x.answer) (rest_of x.session asked) asked) (answers_in xs))) (first_is x.session asked x.call f.more f.calls)
        ∙ ap (λ (l : List Answered). x ∷ l) (ih (cond (is_last x.answer) (rest_of x.session asked) asked) all)
      where
        queue : (b : Bool) → calls_of x.session (cond b (rest_of x.session asked) asked) ≡ cond b f.more (x.call ∷ f.more)
        queue true = rest_own x.session asked x.call f.more f.calls
        queue false = f.calls

        others : (w : ℕ) → (w ≡ x.session → ⊥) → (b : Bool) → calls_of w (cond b (rest_of x.session asked) asked) ≡ calls_of w asked
        others w n true = rest_other x.session w asked n
        others w n false = refl

        all : (w : ℕ) → AreAnswered (calls_of w (cond (is_last x.answer) (rest_of x.session asked) asked)) (keep (is_of w) xs)
        all w = elim (cases_eq w x.session) [
          | inl q ↦ subst (λ (v : ℕ). AreAnswered (calls_of v (cond (is_last x.answer) (rest_of x.session asked) asked)) (keep (is_of v) xs)) (sym q)
              (subst (λ (l : List Call). AreAnswered l (keep (is_of x.session) xs)) (sym (queue (is_last x.answer))) f.rest)
          | inr n ↦ subst (λ (l : List Call). AreAnswered l (keep (is_of w) xs)) (sym (others w n (is_last x.answer)))
              (subst (λ (l : List Answered). AreAnswered (calls_of w asked) l) (cond-false (x.session == w) (x ∷ keep (is_of w) xs) (keep (is_of w) xs) (ne_eqb x.session w (λ z. n (sym z)))) (a w))
        ]

pub every_pair : EveryPair
every_pair asked xs a = ap counted (grouped_is asked xs a)

paired_so : (asked : List (ℕ × Call)) (xs : List Answered) → EachIsAnswered asked xs → ArePaired asked xs
paired_so asked xs a = record { answered = a; pairs = every_pair asked xs a }

-- ## One thread

-- the lines of a session that are left
abbrev left : List Call → List Answered → List Call
left q [] = q
left [] (x ∷ xs) = []
left (c ∷ q) (x ∷ xs) = left (cond (is_last x.answer) q (c ∷ q)) xs

record Leaves (q : List Call) (xs : List Answered) (l : List Call) : Type 0 where
  all : AreAnswered q xs
  left_is : left q xs ≡ l

-- one answer more
snoc : (q : List Call) (xs : List Answered) (x : Answered) (r : List Call) → Leaves q xs (x.call ∷ r) → Leaves q (xs ++ x ∷ []) (cond (is_last x.answer) r (x.call ∷ r))
snoc q [] x r h = go q h.left_is
  where
    head : List Call → Call
    head [] = x.call
    head (y ∷ ys) = y

    go : (q : List Call) → q ≡ x.call ∷ r → Leaves q (x ∷ []) (cond (is_last x.answer) r (x.call ∷ r))
    go [] e = absurd (cc)
    go (d ∷ p) e = record { all = (sym (ap head e), tt); left_is = ap (λ (l : List Call). cond (is_last x.answer) (tail_or l) l) e }
snoc [] (y ∷ xs) x r h = absurd h.all
snoc (d ∷ q) (y ∷ xs) x r h = go (snoc (cond (is_last y.answer) q (d ∷ q)) xs x r (record { all = h.all.1; left_is = h.left_is }))
  where
    go : Leaves (cond (is_last y.answer) q (d ∷ q)) (xs ++ x ∷ []) (cond (is_last x.answer) r (x.call ∷ r)) → Leaves (d ∷ q) ((y ∷ xs) ++ x ∷ []) (cond (is_last x.answer) r (x.call ∷ r))
    go k = record { all = (h.all.0, k.all); left_is = k.left_is }

calls_both : (w : ℕ) (a b : List (ℕ × Call)) → calls_of w (a ++ b) ≡ calls_of w a ++ calls_of w b
calls_both w [] b = refl
calls_both w (x ∷ a) b = go (calls_both w a b) (x.0 == w)
  where
    go : calls_of w (a ++ b) ≡ calls_of w a ++ calls_of w b → (c : Bool) → cond c (x.1 ∷ calls_of w (a ++ b)) (calls_of w (a ++ b)) ≡ cond c (x.1 ∷ calls_of w a) (calls_of w a) ++ calls_of w b
    go ih true = ap (λ (l : List Call). x.1 ∷ l) ih
    go ih false = ih

keep_both : (w : ℕ) (a b : List Answered) → keep (is_of w) (a ++ b) ≡ keep (is_of w) a ++ keep (is_of w) b
keep_both w [] b = refl
keep_both w (x ∷ a) b = go (keep_both w a b) (x.session == w)
  where
    go : keep (is_of w) (a ++ b) ≡ keep (is_of w) a ++ keep (is_of w) b → (c : Bool) → cond c (x ∷ keep (is_of w) (a ++ b)) (keep (is_of w) (a ++ b)) ≡ cond c (x ∷ keep (is_of w) a) (keep (is_of w) a) ++ keep (is_of w) b
    go ih true = ap (λ (l : List Answered). x ∷ l) ih
    go ih false = ih

-- the line that is open
abbrev open_of : ℕ → List Answered → List Call
open_of w [] = []
open_of w (y ∷ ys) = cond (y.session == w) (cond (is_last y.answer) [] (y.call ∷ [])) []

-- one answer of the session, to the line that stands first
own_more : (w : ℕ) (x : Answered) (q : List Call) (xs : List Answered) (r : List Call) → x.session ≡ w → Leaves q (keep (is_of w) xs) (x.call ∷ r) →
    Leaves q (keep (is_of w) (xs ++ x ∷ [])) (cond (x.session == w) (cond (is_last x.answer) [] (x.call ∷ [])) [] ++ r)
own_more w x q xs r e h =
    subst (λ (l : List Answered). Leaves q l (cond (x.session == w) (cond (is_last x.answer) [] (x.call ∷ [])) [] ++ r))
    (sym (keep_both w xs (x ∷ []) ∙ ap (λ (l : List Answered). keep (is_of w) xs ++ l) (cond-true (x.session == w) (x ∷ []) [] (eq-eqb x.session w e))))
    (subst (λ (l : List Call). Leaves q (keep (is_of w) xs ++ x ∷ []) l) (sym (ap (λ (b : Bool). cond b (cond (is_last x.answer) [] (x.call ∷ [])) [] ++ r) (eq-eqb x.session w e) ∙ go (is_last x.answer)))
    (snoc q (keep (is_of w) xs) x r h))
  where
    go : (b : Bool) → cond b [] (x.call ∷ []) ++ r ≡ cond b r (x.call ∷ r)
    go true = refl
    go false = refl

-- and one of another
other_more : (w : ℕ) (x : Answered) (q : List Call) (xs : List Answered) (r : List Call) → (x.session ≡ w → ⊥) → Leaves q (keep (is_of w) xs) r →
    Leaves q (keep (is_of w) (xs ++ x ∷ [])) (cond (x.session == w) (cond (is_last x.answer) [] (x.call ∷ [])) [] ++ r)
other_more w x q xs r n h =
    subst (λ (l : List Answered). Leaves q l (cond (x.session == w) (cond (is_last x.answer) [] (x.call ∷ [])) [] ++ r))
    (sym (keep_both w xs (x ∷ []) ∙ (ap (λ (l : List Answered). keep (is_of w) xs ++ l) (cond-false (x.session == w) (x ∷ []) [] (ne_eqb x.session w n)) ∙ append-nil (keep (is_of w) xs))))
    (subst (λ (l : List Call). Leaves q (keep (is_of w) xs) l) (sym (ap (λ (b : Bool). cond b (cond (is_last x.answer) [] (x.call ∷ [])) [] ++ r) (ne_eqb x.session w n))) h)

answered_all : (xs : List Answered) → EachGoesOn xs → (others : List (ℕ × Call)) (w : ℕ) → Leaves (calls_of w (script_of xs ++ others)) (keep (is_of w) (in_turn xs)) (open_of w xs ++ calls_of w others)
answered_all [] t others w = record { all = tt; left_is = refl }
answered_all (x ∷ xs) t others w = go (is_open_line xs) refl (answered_all xs t.0)
  where
    Before : Type 0
    Before = (more : List (ℕ × Call)) (v : ℕ) → Leaves (calls_of v (script_of xs ++ more)) (keep (is_of v) (in_turn xs)) (open_of v xs ++ calls_of v more)

    one : List (ℕ × Call)
    one = (x.session, x.call) ∷ []

    -- a new line
    fresh : (open_of w xs ≡ []) → Before → Leaves (calls_of w ((script_of xs ++ one) ++ others)) (keep (is_of w) (in_turn (x ∷ xs))) (open_of w (x ∷ xs) ++ calls_of w others)
    fresh e ih = subst (λ (l : List (ℕ × Call)). Leaves (calls_of w l) (keep (is_of w) (in_turn (x ∷ xs))) (open_of w (x ∷ xs) ++ calls_of w others)) (sym (append_assoc (script_of xs) one others))
        (elim (cases_eq x.session w) [
          | inl i ↦ own_more w x (calls_of w (script_of xs ++ (x.session, x.call) ∷ others)) (in_turn xs) (calls_of w others) i
              (subst (Leaves (calls_of w (script_of xs ++ (x.session, x.call) ∷ others)) (keep (is_of w) (in_turn xs)))
              (ap (λ (l : List Call). l ++ calls_of w ((x.session, x.call) ∷ others)) e ∙ cond-true (x.session == w) (x.call ∷ calls_of w others) (calls_of w others) (eq-eqb x.session w i)) (ih ((x.session, x.call) ∷ others) w))
          | inr n ↦ other_more w x (calls_of w (script_of xs ++ (x.session, x.call) ∷ others)) (in_turn xs) (calls_of w others) n
              (subst (Leaves (calls_of w (script_of xs ++ (x.session, x.call) ∷ others)) (keep (is_of w) (in_turn xs)))
              (ap (λ (l : List Call). l ++ calls_of w ((x.session, x.call) ∷ others)) e ∙ cond-false (x.session == w) (x.call ∷ calls_of w others) (calls_of w others) (ne_eqb x.session w n)) (ih ((x.session, x.call) ∷ others) w))
        ])

    none : (ys : List Answered) → is_open_line ys ≡ false → open_of w ys ≡ []
    none [] e = refl
    none (y ∷ ys) e = at (y.session == w) (is_last y.answer) e
      where
        at : (a b : Bool) → cond b false true ≡ false → cond a (cond b [] (y.call ∷ [])) [] ≡ []
        at true true q = refl
        at true false q = absurd (true≢false q)
        at false b q = refl

    -- the line that is open
    further : (ys : List Answered) → is_open_line ys ≡ true → GoesOn ys x → (q : List Call) (ts : List Answered) → Leaves q (keep (is_of w) ts) (open_of w ys ++ calls_of w others) →
        Leaves q (keep (is_of w) (ts ++ x ∷ [])) (open_of w (x ∷ xs) ++ calls_of w others)
    further [] e k q ts h = absurd (true≢false (sym e))
    further (y ∷ ys) e k q ts h = elim (cases_eq x.session w) [
      | inl i ↦ own_more w x q ts (calls_of w others) i (subst (Leaves q (keep (is_of w) ts)) (mine i) h)
      | inr n ↦ other_more w x q ts (calls_of w others) n
          (subst (Leaves q (keep (is_of w) ts)) (ap (λ (b : Bool). cond b (cond (is_last y.answer) [] (y.call ∷ [])) [] ++ calls_of w others) (ne_eqb y.session w (λ z. n (same.0 ∙ z)))) h)
    ]
      where
        not_last : (b : Bool) → cond b false true ≡ true → b ≡ false
        not_last false z = refl
        not_last true z = absurd (true≢false (sym z))

        same : (x.session ≡ y.session) × (x.call ≡ y.call)
        same = k (not_last (is_last y.answer) e)

        mine : x.session ≡ w → cond (y.session == w) (cond (is_last y.answer) [] (y.call ∷ [])) [] ++ calls_of w others ≡ x.call ∷ calls_of w others
        mine i = ap₂ (λ (a b : Bool). cond a (cond b [] (y.call ∷ [])) [] ++ calls_of w others) (eq-eqb y.session w (sym same.0 ∙ i)) (not_last (is_last y.answer) e)
            ∙ ap (λ (c : Call). c ∷ calls_of w others) (sym same.1)

    go : (b : Bool) → is_open_line xs ≡ b → Before → Leaves (calls_of w (cond b (script_of xs) (script_of xs ++ one) ++ others)) (keep (is_of w) (in_turn (x ∷ xs))) (open_of w (x ∷ xs) ++ calls_of w others)
    go true e ih = further xs e t.1 (calls_of w (script_of xs ++ others)) (in_turn xs) (ih others w)
    go false e ih = fresh (none xs e) ih

pub every_script : EveryScript
every_script xs others t = paired_so (script_of xs ++ others) (in_turn xs) (λ w. (answered_all xs t others w).all)

-- ## Many threads

-- a session's answers are those of its own
own_in_turn : (w : ℕ) (xs : List Answered) → keep (is_of w) (in_turn (keep (is_of w) xs)) ≡ keep (is_of w) (in_turn xs)
own_in_turn w [] = refl
own_in_turn w (x ∷ xs) = go (own_in_turn w xs) (x.session == w) refl
  where
    go : keep (is_of w) (in_turn (keep (is_of w) xs)) ≡ keep (is_of w) (in_turn xs) → (b : Bool) → (x.session == w) ≡ b →
        keep (is_of w) (in_turn (cond b (x ∷ keep (is_of w) xs) (keep (is_of w) xs))) ≡ keep (is_of w) (in_turn xs ++ x ∷ [])
    go ih true e =
        keep_both w (in_turn (keep (is_of w) xs)) (x ∷ [])
        ∙ (ap (λ (l : List Answered). l ++ keep (is_of w) (x ∷ [])) ih ∙ sym (keep_both w (in_turn xs) (x ∷ [])))
    go ih false e =
        ih ∙ sym (keep_both w (in_turn xs) (x ∷ [])
        ∙ (ap (λ (l : List Answered). keep (is_of w) (in_turn xs) ++ l) (ap (λ (b : Bool). cond b (x ∷ []) []) e) ∙ append-nil (keep (is_of w) (in_turn xs))))

pub every_round_script : EveryRoundScript
every_round_script asked xs h = paired_so asked (in_turn xs) (λ w. own w (h w))
  where
    own : (w : ℕ) → HasLinesOf w asked xs → AreAnswered (calls_of w asked) (keep (is_of w) (in_turn xs))
    own w l =
        subst (λ (cs : List Call). AreAnswered cs (keep (is_of w) (in_turn xs))) (sym l.lines)
        (subst (AreAnswered (calls_of w (script_of (keep (is_of w) xs) ++ l.others))) (own_in_turn w xs) (answered_all (keep (is_of w) xs) l.goes_on l.others w).all)

pub worked_pairs : WorkedPairs
worked_pairs = refl
