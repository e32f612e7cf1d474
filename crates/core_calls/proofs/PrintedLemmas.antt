-- What a run prints.
use Rattle.std.proofs.Common.{◌≡◌, ◌⊎◌, ℕ, Bool, true, false, cond, List, [], ◌∷◌, ◌++◌, reverse, refl, sym, ap, ap₂, ◌∙◌, subst, inl, inr}
use Rattle.std.proofs.lemmas.List.{append-nil, append_assoc, reverse-append}
use Rattle.map_model.specs.declared.call.Answer.{Answer}
use Rattle.map_model.specs.declared.call.Answered.{Answered}
use Rattle.map_model.specs.Lists.{Has}
use Rattle.map_model.specs.Journals.{Name}
use Rattle.map_model.specs.Pairings.{answers_in, is_last}
use Rattle.map_model.specs.Outputs.{Reply, answer_of, answers_told, name_of, names}
use Rattle.map_model.proofs.ListLemmas.{has_cases, has_left, has_right}
use Rattle.core_crash.specs.core_state.Openings.{Opening}
use Rattle.core_crash.specs.core_state.Events.{Event}
use Rattle.core_crash.specs.core_state.Steps.{state_after}
use Rattle.core_calls.proofs.PairLemmas.{none_before, none_behind}
use Rattle.core_calls.specs.Deeds.{answered, in_words, transcript}
use Rattle.core_calls.specs.Fronts.{Done, front, outcomes}
use Rattle.core_calls.specs.Durables.{due, durables, pending, moments}
use Rattle.core_calls.specs.Printed.{durable_lines, due_lines, printed, FirstLines, EveryPrinted}
use Rattle.core_calls.proofs.CommitLemmas.{up_to_next}

-- ## Lines behind lines

answers_both : (a b : List Reply) → answers_told (a ++ b) ≡ answers_told b ++ answers_told a
answers_both [] b = sym (append-nil (answers_told b))
answers_both (r ∷ a) b = ap (λ (l : List (ℕ × Answer)). l ++ answer_of r) (answers_both a b) ∙ append_assoc (answers_told b) (answers_told a) (answer_of r)

names_both : (a b : List Reply) → names (a ++ b) ≡ names b ++ names a
names_both [] b = sym (append-nil (names b))
names_both (r ∷ a) b = ap (λ (l : List Name). l ++ name_of r) (names_both a b) ∙ append_assoc (names b) (names a) (name_of r)

pub answers_in_both : (a b : List Answered) → answers_in (a ++ b) ≡ answers_in a ++ answers_in b
answers_in_both [] b = refl
answers_in_both (x ∷ a) b = ap (λ (l : List (ℕ × Answer)). (x.session, x.answer) ∷ l) (answers_in_both a b)

-- durable lines have no answers
no_answers : (ns : List Name) → answers_told (durable_lines ns) ≡ []
no_answers [] = refl
no_answers (n ∷ ns) = append-nil (answers_told (durable_lines ns)) ∙ no_answers ns

reverse_more : (n : Name) (ns : List Name) → reverse (n ∷ ns) ≡ reverse ns ++ n ∷ []
reverse_more n ns = reverse-append (n ∷ []) ns

names_of_lines : (ns : List Name) → names (durable_lines ns) ≡ reverse ns
names_of_lines [] = refl
names_of_lines (n ∷ ns) = ap (λ (l : List Name). l ++ n ∷ []) (names_of_lines ns) ∙ sym (reverse_more n ns)

has_reverse : (n : Name) (ns : List Name) → Has n (reverse ns) → Has n ns
has_reverse n [] h = h
has_reverse n (m ∷ ns) h = go (λ i. has_reverse n ns i) (has_cases n (reverse ns) (m ∷ []) (subst (Has n) (reverse_more m ns) h))
  where
    go : (Has n (reverse ns) → Has n ns) → Has n (reverse ns) ⊎ Has n (m ∷ []) → Has n (m ∷ ns)
    go ih (inl i) = inr (ih i)
    go ih (inr (inl e)) = inl e
    go ih (inr (inr i)) = absurd i

-- the first part of two lists, cut elsewhere
split : (n f a b : List Reply) → n ++ f ≡ a ++ b → ((c : List Reply) × (c ++ f ≡ b)) ⊎ ((c : List Reply) × (n ++ c ≡ a) × (f ≡ c ++ b))
split n f [] b e = inl (n, e)
split [] f (x ∷ a) b e = inr (x ∷ a, refl, e)
split (y ∷ n) f (x ∷ a) b e = go (split n f a b (ap rest e))
  where
    rest : List Reply → List Reply
    rest [] = []
    rest (z ∷ l) = l

    head : List Reply → Reply
    head [] = y
    head (z ∷ l) = z

    go : ((c : List Reply) × (c ++ f ≡ b)) ⊎ ((c : List Reply) × (n ++ c ≡ a) × (f ≡ c ++ b)) → ((c : List Reply) × (c ++ f ≡ b)) ⊎ ((c : List Reply) × (y ∷ (n ++ c) ≡ x ∷ a) × (f ≡ c ++ b))
    go (inl q) = inl q
    go (inr (c, p, q)) = inr (c, ap₂ (λ (z : Reply) (l : List Reply). z ∷ l) (ap head e) p, q)

-- ## All lines

-- the lines behind an outcome are durable lines
pub due_are : (g : Opening) (x : Done) (xs : List Done) → (ns : List Name) × (due_lines g xs x ≡ durable_lines ns) × (durables g (moments (x ∷ xs)) ≡ ns ++ durables g (moments xs))
due_are g x xs = go (is_last (answered x.outcome.deed))
  where
    now : List Name
    now = due g (state_after g (front (x ∷ xs))) (durables g (moments xs))

    go : (b : Bool) → (ns : List Name) × (cond b (durable_lines now) [] ≡ durable_lines ns) × (durables g (cond b ((pending xs ++ x.events) ∷ moments xs) (moments xs)) ≡ ns ++ durables g (moments xs))
    go true = (now, refl, ap (λ (es : List Event). due g (state_after g es) (durables g (moments xs)) ++ durables g (moments xs)) (up_to_next x xs))
    go false = ([], refl, refl)

-- and its answer with all before it
abbrev pub earlier_lines : Opening → Done → List Done → List Reply
earlier_lines g x xs = Reply.Answered x.outcome.session (answered x.outcome.deed) ∷ printed g xs

-- with the answer to the newest
with_answer : (g : Opening) (x : Done) (xs : List Done) → answers_told (printed g xs) ≡ answers_in (transcript (outcomes xs)) → answers_told (earlier_lines g x xs) ≡ answers_in (transcript (outcomes (x ∷ xs)))
with_answer g x xs before = ap (λ (l : List (ℕ × Answer)). l ++ (x.outcome.session, answered x.outcome.deed) ∷ []) before ∙ sym (answers_in_both (transcript (outcomes xs)) (in_words x.outcome ∷ []))

-- which answer nothing
none_due : (g : Opening) (x : Done) (xs : List Done) → answers_told (due_lines g xs x) ≡ []
none_due g x xs = let d = due_are g x xs in ap answers_told d.1 ∙ no_answers d.0

all_answers : (g : Opening) (xs : List Done) → answers_told (printed g xs) ≡ answers_in (transcript (outcomes xs))
all_answers g [] = refl
all_answers g (x ∷ xs) = answers_both (due_lines g xs x) (earlier_lines g x xs)
    ∙ (ap (λ (l : List (ℕ × Answer)). answers_told (earlier_lines g x xs) ++ l) (none_due g x xs)
    ∙ (append-nil (answers_told (earlier_lines g x xs)) ∙ with_answer g x xs (all_answers g xs)))

all_names : (g : Opening) (xs : List Done) → names (printed g xs) ≡ reverse (durables g (moments xs))
all_names g [] = refl
all_names g (x ∷ xs) = let d = due_are g x xs in
    names_both (due_lines g xs x) (earlier_lines g x xs)
    ∙ (ap₂ (λ (a b : List Name). a ++ b) (append-nil (names (printed g xs)) ∙ all_names g xs) (ap names d.1 ∙ names_of_lines d.0)
    ∙ (sym (reverse-append d.0 (durables g (moments xs)))
    ∙ ap (λ (ns : List Name). reverse ns) (sym d.2)))

-- ## The first of them

-- what was due earlier is among what is due in the end
pub due_later : (g : Opening) (later heard : List Done) (n : Name) → Has n (durables g (moments heard)) → Has n (durables g (moments (later ++ heard)))
due_later g [] heard n h = h
due_later g (x ∷ later) heard n h =
    let d = due_are g x (later ++ heard) in
    subst (Has n) (sym d.2) (has_right n d.0 (durables g (moments (later ++ heard))) (due_later g later heard n h))

-- up to the answer to x, or behind it
cut_behind : (g : Opening) (x : Done) (xs : List Done) (newer c first : List Reply) → newer ++ first ≡ printed g (x ∷ xs) → answers_told c ≡ [] → first ≡ c ++ earlier_lines g x xs → FirstLines g (x ∷ xs) first
cut_behind g x xs newer c first e none is = record {
  later = [];
  heard = x ∷ xs;
  are = refl;
  answers = ap answers_told is ∙ (answers_both c (earlier_lines g x xs) ∙ (ap (λ (l : List (ℕ × Answer)). answers_told (earlier_lines g x xs) ++ l) none ∙ (append-nil (answers_told (earlier_lines g x xs)) ∙ with_answer g x xs (all_answers g xs))));
  reports = λ n h. has_reverse n (durables g (moments (x ∷ xs))) (subst (Has n) (sym (names_both newer first) ∙ (ap names e ∙ all_names g (x ∷ xs))) (has_left n (names first) (names newer) h));
}

first_lines : (g : Opening) (xs : List Done) (newer first : List Reply) → newer ++ first ≡ printed g xs → FirstLines g xs first
first_lines g [] newer first e = record { later = []; heard = []; are = refl; answers = ap answers_told (none_behind newer first e); reports = λ n h. subst (Has n) (ap names (none_behind newer first e)) h }
first_lines g (x ∷ xs) newer first e = go (λ n q. first_lines g xs n first q) (split newer first (due_lines g xs x) (earlier_lines g x xs) e)
  where
    within : (c : List Reply) → newer ++ c ≡ due_lines g xs x → answers_told c ≡ []
    within c q = none_before (answers_told c) (answers_told newer) (sym (answers_both newer c) ∙ (ap answers_told q ∙ none_due g x xs))

    rest : List Reply → List Reply
    rest [] = []
    rest (z ∷ l) = l

    more : FirstLines g xs first → FirstLines g (x ∷ xs) first
    more f = record { later = x ∷ f.later; heard = f.heard; are = ap (λ (l : List Done). x ∷ l) f.are; answers = f.answers; reports = f.reports }

    before : ((n : List Reply) → n ++ first ≡ printed g xs → FirstLines g xs first) → (c : List Reply) → c ++ first ≡ earlier_lines g x xs → FirstLines g (x ∷ xs) first
    before ih [] q = cut_behind g x xs newer [] first e refl q
    before ih (y ∷ c) q = more (ih c (ap rest q))

    go : ((n : List Reply) → n ++ first ≡ printed g xs → FirstLines g xs first) →
        ((c : List Reply) × (c ++ first ≡ earlier_lines g x xs)) ⊎ ((c : List Reply) × (newer ++ c ≡ due_lines g xs x) × (first ≡ c ++ earlier_lines g x xs)) → FirstLines g (x ∷ xs) first
    go ih (inl (c, q)) = before ih c q
    go ih (inr (c, p, q)) = cut_behind g x xs newer c first e (within c p) q

pub every_printed : EveryPrinted
every_printed g xs = record { answers = all_answers g xs; reports = all_names g xs; first = first_lines g xs }
