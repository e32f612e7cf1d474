-- What outcomes tell in a transcript is what their marks tell.
use Rattle.std.proofs.Common.{◌≡◌, ◌⊎◌, ℕ, Bool, true, false, cond, ◌==◌, List, [], ◌∷◌, ◌++◌, length, map, Option, Some, None, refl, sym, ap, ◌∙◌, subst, inl, inr, true≢false}
use Rattle.std.proofs.lemmas.List.{append_assoc}
use Rattle.std.proofs.lemmas.Bool.{cases_eq, eq-eqb, ne_eqb, cond-true, cond-false}
use Rattle.map_model.specs.declared.call.Answer.{Answer}
use Rattle.map_model.specs.declared.call.Answer.TheVariants as answer
use Rattle.map_model.specs.Lists.{keep}
use Rattle.map_model.specs.Maps.{MapCall, MapAnswer}
use Rattle.map_model.specs.Histories.{Step}
use Rattle.map_model.specs.Journals.{Txn}
use Rattle.map_model.specs.Transcripts.{Line, lines_onto, lines_of, lines_in, map_call, step_onto, steps_of, is_bound, told, told_onto, txn_of}
use Rattle.map_model.specs.declared.call.Answered.{Answered}
use Rattle.core_calls.specs.Marks.{Mark, Began, Called, Ended, is_half}
use Rattle.core_calls.specs.Deeds.{Deed, Begun, Got, Changed, Deleted, Absent, Met, Paused, Over, Committed, Aborted, Refused, Synced, Checkpointed, asked, answered, put_backs, marks_of, may_follow, Outcome, Unsaid, reads_of, marks_for, marks_by, AreInTurn, transcript, in_words}
use Rattle.core_calls.specs.Told.{Pairwise, Covers}
use Rattle.core_calls.proofs.PairLemmas.{covers_less}
use Rattle.core_calls.proofs.EntryLemmas.{Deal, marks_in, deals_in}

-- ## Calls and marks

-- the call is the mark's
pub data Shows (x : Step) (m : Mark) : Type 0 where
  Plain : (alone : Bool) → m ≡ Called x.call x.answer alone → Shows x m
  Missed : (k : ℕ) → x.call ≡ MapCall.Del k → x.answer ≡ MapAnswer.Was None → m ≡ Called (MapCall.Get k) (MapAnswer.Value None) true → Shows x m
  Paired : (k v : ℕ) → (alone : Bool) → x.call ≡ MapCall.Next k → x.answer ≡ MapAnswer.Pair k v → m ≡ Called (MapCall.Get k) (MapAnswer.Value (Some v)) alone → Shows x m

-- a read that no outcome tells of
abbrev pub IsSeen : Mark → Type 0
IsSeen m = (x : Unsaid) × (m ≡ Called (MapCall.Get x.key) (MapAnswer.Value x.value) x.alone)

abbrev pub ShowAll : List Step → List Mark → Type 0
ShowAll xs ms = Covers Shows IsSeen xs ms

pub record IsDeal (t : Txn) (d : Deal) : Type 0 where
  pub session : t.session ≡ d.session
  pub number : t.number ≡ d.number
  pub at : t.at ≡ d.at
  pub calls : ShowAll t.calls d.marks

abbrev pub AreDeals : List Txn → List Deal → Type 0
AreDeals ts ds = Pairwise IsDeal ts ds

-- ## Lines

abbrev pub line_of : ℕ → ℕ → Deed → Line
line_of place w d = record { place = place; said = record { session = w; call = asked d; answer = answered d } }

abbrev pub lines : List Outcome → List Line
lines [] = []
lines (x ∷ earlier) = line_of (length (lines earlier)) x.session x.deed ∷ lines earlier

abbrev line_at : ℕ → Answered → Line
line_at place x = record { place = place; said = x }

lines_more : (h : List Line) (xs : List Answered) (x : Answered) → lines_onto h (xs ++ x ∷ []) ≡ line_at (length (lines_onto h xs)) x ∷ lines_onto h xs
lines_more h [] x = refl
lines_more h (y ∷ ys) x = lines_more (line_at (length h) y ∷ h) ys x

pub lines_are : (xs : List Outcome) → lines_of (transcript xs) ≡ lines xs
lines_are [] = refl
lines_are (x ∷ xs) = lines_more [] (transcript xs) (in_words x) ∙ ap (λ (l : List Line). line_of (length l) x.session x.deed ∷ l) (lines_are xs)

abbrev pub told_by : ℕ → Txn → Bool
told_by w t = t.session == w

abbrev pub told_in : List Line → List Txn
told_in ls = map txn_of (told ls)

-- what is told of session w
pub record Heard (w : ℕ) (ls : List Line) (ms : List Mark) : Type 0 where
  pub done : AreDeals (keep (told_by w) (told_in ls)) (deals_in w ms)
  pub open_calls : is_half ms ≡ false → ShowAll (steps_of (lines_in w ls)) (marks_in ms)

-- ## An outcome of its own

in_own : (w : ℕ) (x : Line) (ls : List Line) → x.said.session ≡ w → lines_in w (x ∷ ls) ≡ cond (is_bound x.said.answer) [] (x ∷ lines_in w ls)
in_own w x ls e = cond-true (x.said.session == w) (cond (is_bound x.said.answer) [] (x ∷ lines_in w ls)) (lines_in w ls) (eq-eqb x.said.session w e)

no_answer : (s : ℕ) (c : Option MapCall) (l : List Step) → step_onto s c None l ≡ l
no_answer s None l = refl
no_answer s (Some c) l = refl

deals_back : (w : ℕ) (bs : List Step) (ms : List Mark) → deals_in w (put_backs bs ++ ms) ≡ deals_in w ms
deals_back w [] ms = refl
deals_back w (b ∷ bs) ms = deals_back w bs ms

-- where its lines are these, and its deals those
heard : (w place : ℕ) (d : Deed) (ls : List Line) (ms new : List Mark) → Heard w ls ms → told_in (line_of place w d ∷ ls) ≡ told_in ls → deals_in w new ≡ deals_in w ms →
    (is_half new ≡ false → ShowAll (steps_of (cond (is_bound (answered d)) [] (line_of place w d ∷ lines_in w ls))) (marks_in new)) → Heard w (line_of place w d ∷ ls) new
heard w place d ls ms new h t e o = record {
  done = subst (λ (l : List Txn). AreDeals (keep (told_by w) l) (deals_in w new)) (sym t) (subst (λ (l : List Deal). AreDeals (keep (told_by w) (told_in ls)) l) (sym e) h.done);
  open_calls = λ n. subst (λ (l : List Line). ShowAll (steps_of l) (marks_in new)) (sym (in_own w (line_of place w d) ls refl)) (o n);
}

own : (w place : ℕ) (d : Deed) (ls : List Line) (ms : List Mark) → may_follow (is_half ms) d → Heard w ls ms → Heard w (line_of place w d ∷ ls) (marks_of d ++ ms)
own w place (Begun n) ls ms a h = heard w place (Begun n) ls ms (Began n ∷ ms) h refl refl (λ _. tt)
own w place (Got k v alone) ls ms a h = heard w place (Got k v alone) ls ms (marks_of (Got k v alone) ++ ms) h refl refl (λ q. inl (h.open_calls q, Plain alone refl))
own w place (Changed k v b) ls ms a h = heard w place (Changed k v b) ls ms (marks_of (Changed k v b) ++ ms) h refl refl (λ q. inl (h.open_calls q, Plain true refl))
own w place (Deleted k b) ls ms a h = heard w place (Deleted k b) ls ms (marks_of (Deleted k b) ++ ms) h refl refl (λ q. inl (h.open_calls q, Plain true refl))
own w place (Absent k) ls ms a h = heard w place (Absent k) ls ms (marks_of (Absent k) ++ ms) h refl refl (λ q. inl (h.open_calls q, Missed k refl refl refl))
own w place (Met from to k v alone) ls ms a h = heard w place (Met from to k v alone) ls ms (marks_of (Met from to k v alone) ++ ms) h refl refl (λ q. inl (h.open_calls q, Paired k v alone refl refl refl))
own w place (Paused from to k) ls ms a h = heard w place (Paused from to k) ls ms ms h refl refl h.open_calls
own w place (Over from to) ls ms a h = heard w place (Over from to) ls ms ms h refl refl h.open_calls
own w place (Synced at) ls ms a h = heard w place (Synced at) ls ms ms h refl refl h.open_calls
own w place (Checkpointed at) ls ms a h = heard w place (Checkpointed at) ls ms ms h refl refl h.open_calls
own w place (Aborted c n at bs) ls ms a h = heard w place (Aborted c n at bs) ls ms (Ended false n at ∷ (put_backs bs ++ ms)) h refl (deals_back w bs ms) (λ _. tt)
own w place (Refused c r bs) ls ms a h = heard w place (Refused c r bs) ls ms (put_backs bs ++ ms) h refl (deals_back w bs ms) (go bs)
  where
    go : (bs : List Step) → is_half (put_backs bs ++ ms) ≡ false → ShowAll (step_onto w (map_call c (answer.Refused r)) None (steps_of (lines_in w ls))) (marks_in (put_backs bs ++ ms))
    go [] n = subst (λ (l : List Step). ShowAll l (marks_in ms)) (sym (no_answer w (map_call c (answer.Refused r)) (steps_of (lines_in w ls)))) (h.open_calls n)
    go (b ∷ bs) n = absurd (true≢false n)
own w place (Committed n at) ls ms a h = record {
  done = subst (λ (l : List Txn). AreDeals l (deals_in w (Ended true n at ∷ ms))) (sym (cond-true (w == w) (t ∷ keep (told_by w) (told_in ls)) (keep (told_by w) (told_in ls)) (eq-eqb w w refl))) (h.done, record { session = refl; number = refl; at = refl; calls = h.open_calls a });
  open_calls = λ _. subst (λ (l : List Line). ShowAll (steps_of l) []) (sym (in_own w (line_of place w (Committed n at)) ls refl)) tt;
}
  where
    t : Txn
    t = record { session = w; number = n; at = at; calls = steps_of (lines_in w ls) }

-- reads before it change nothing that is told
seen : (w : ℕ) (us : List Unsaid) (ls : List Line) (ms : List Mark) → Heard w ls ms → Heard w ls (reads_of us ++ ms)
seen w [] ls ms h = h
seen w (u ∷ us) ls ms h = go (seen w us ls ms h)
  where
    go : Heard w ls (reads_of us ++ ms) → Heard w ls (reads_of (u ∷ us) ++ ms)
    go ih = record { done = ih.done; open_calls = λ n. covers_less Shows IsSeen (steps_of (lines_in w ls)) (Called (MapCall.Get u.key) (MapAnswer.Value u.value) u.alone) (marks_in (reads_of us ++ ms)) (u, refl) (ih.open_calls n) }

half_seen : (us : List Unsaid) (ms : List Mark) → is_half (reads_of us ++ ms) ≡ is_half ms
half_seen [] ms = refl
half_seen (u ∷ us) ms = half_seen us ms

own_outcome : (w place : ℕ) (x : Outcome) (ls : List Line) (ms : List Mark) → may_follow (is_half ms) x.deed → Heard w ls ms → Heard w (line_of place w x.deed ∷ ls) (marks_for x ++ ms)
own_outcome w place x ls ms a h = subst (λ (l : List Mark). Heard w (line_of place w x.deed ∷ ls) l) (sym (append_assoc (marks_of x.deed) (reads_of x.unsaid) ms))
    (own w place x.deed ls (reads_of x.unsaid ++ ms) (subst (λ (b : Bool). may_follow b x.deed) (sym (half_seen x.unsaid ms)) a) (seen w x.unsaid ls ms h))

-- ## An outcome of another

other : (w place v : ℕ) (d : Deed) (ls : List Line) (ms : List Mark) → (v ≡ w → ⊥) → Heard w ls ms → Heard w (line_of place v d ∷ ls) ms
other w place v d ls ms n h = record {
  done = subst (λ (l : List Txn). AreDeals l (deals_in w ms)) (sym (go (answered d))) h.done;
  open_calls = λ q. subst (λ (l : List Line). ShowAll (steps_of l) (marks_in ms)) (sym (cond-false (v == w) (cond (is_bound (answered d)) [] (line_of place v d ∷ lines_in w ls)) (lines_in w ls) (ne_eqb v w n))) (h.open_calls q);
}
  where
    go : (a : Answer) → keep (told_by w) (map txn_of (told_onto a v (lines_in v ls) (told ls))) ≡ keep (told_by w) (told_in ls)
    go (answer.Committed number at) = cond-false (v == w) (txn_of (record { session = v; number = number; at = at; lines = lines_in v ls }) ∷ keep (told_by w) (told_in ls)) (keep (told_by w) (told_in ls)) (ne_eqb v w n)
    go _ = refl

-- ## All outcomes

pub heard_all : (w : ℕ) (xs : List Outcome) → AreInTurn xs → Heard w (lines xs) (marks_by w xs)
heard_all w [] a = record { done = tt; open_calls = λ _. tt }
heard_all w (x ∷ xs) a = go (heard_all w xs a.0) (cases_eq x.session w)
  where
    place : ℕ
    place = length (lines xs)

    go : Heard w (lines xs) (marks_by w xs) → ((x.session ≡ w) ⊎ (x.session ≡ w → ⊥)) → Heard w (lines (x ∷ xs)) (marks_by w (x ∷ xs))
    go h (inl e) =
        subst (λ (l : List Mark). Heard w (lines (x ∷ xs)) l) (sym (cond-true (x.session == w) (marks_for x ++ marks_by w xs) (marks_by w xs) (eq-eqb x.session w e)))
        (subst (λ (v : ℕ). Heard w (line_of place v x.deed ∷ lines xs) (marks_for x ++ marks_by w xs)) (sym e)
        (own_outcome w place x (lines xs) (marks_by w xs) (subst (λ (v : ℕ). may_follow (is_half (marks_by v xs)) x.deed) e a.1) h))
    go h (inr n) =
        subst (λ (l : List Mark). Heard w (lines (x ∷ xs)) l) (sym (cond-false (x.session == w) (marks_for x ++ marks_by w xs) (marks_by w xs) (ne_eqb x.session w n)))
        (other w place x.session x.deed (lines xs) (marks_by w xs) n h)
