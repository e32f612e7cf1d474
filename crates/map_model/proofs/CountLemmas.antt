-- The answers of unfinished groups change no journal.
use Rattle.std.proofs.Common.{◌≡◌, ℕ, Bool, true, false, cond, ◌&&◌, ◌==◌, List, [], ◌∷◌, length, map, refl, sym, ap, ap₂, ◌∙◌, subst, true≢false}
use Rattle.std.proofs.lemmas.Bool.{eqb-true, eq-eqb, or_left, or_right, and_from, cond-false}
use Rattle.map_model.specs.declared.call.Answer.{Answer}
use Rattle.map_model.specs.declared.call.Answer.TheVariants as answer
use Rattle.map_model.specs.declared.call.Answered.{Answered}
use Rattle.map_model.specs.Histories.{Step}
use Rattle.map_model.specs.Journals.{Txn, journal_of}
use Rattle.map_model.specs.Transcripts.{Line, Told, lines_onto, lines_in, steps_of, step_onto, map_call, map_answer, is_bound, told, told_onto, txn_of}
use Rattle.map_model.specs.Pairings.{is_last, ends_for, counted}
use Rattle.map_model.specs.PairLaws.{EveryCount}
use Rattle.map_model.proofs.LineLemmas.{line_at}

-- lines from which the answers of unfinished groups were left out tell of the same transactions, and of the same calls of each session whose last line is to come
record AreSame (some all : List Line) (more : List Answered) : Type 0 where
  txns : map txn_of (told some) ≡ map txn_of (told all)
  calls : (w : ℕ) → ends_for w more ≡ true → steps_of (lines_in w some) ≡ steps_of (lines_in w all)

-- a line more of both
told_both : (a : Answer) (s : ℕ) (xs ys : List Line) (some all : List Told) → steps_of xs ≡ steps_of ys → map txn_of some ≡ map txn_of all → map txn_of (told_onto a s xs some) ≡ map txn_of (told_onto a s ys all)
told_both (answer.Committed number at) s xs ys some all e f = ap₂ (λ (c : List Step) (ts : List Txn). record { session = s; number = number; at = at; calls = c } ∷ ts) e f
told_both _ s xs ys some all e f = f

in_both : (w i j : ℕ) (x : Answered) (some all : List Line) → steps_of (lines_in w some) ≡ steps_of (lines_in w all) → steps_of (lines_in w (line_at i x ∷ some)) ≡ steps_of (lines_in w (line_at j x ∷ all))
in_both w i j x some all e = go (x.session == w) (is_bound x.answer)
  where
    go : (a b : Bool) → steps_of (cond a (cond b [] (line_at i x ∷ lines_in w some)) (lines_in w some)) ≡ steps_of (cond a (cond b [] (line_at j x ∷ lines_in w all)) (lines_in w all))
    go true true = refl
    go true false = ap (λ (z : List Step). step_onto x.session (map_call x.call x.answer) (map_answer x.answer) z) e
    go false b = e

-- an answer that is not the last to its line commits nothing
told_none : (a : Answer) (s : ℕ) (ls : List Line) (older : List Told) → is_last a ≡ false → told_onto a s ls older ≡ older
told_none (answer.Committed number at) s ls older e = absurd (true≢false e)
told_none _ s ls older e = refl

module _ (x : Answered) (more : List Answered) where
  ends_later : (w : ℕ) → ends_for w more ≡ true → ends_for w (x ∷ more) ≡ true
  ends_later w e = or_right ((x.session == w) && is_last x.answer) (ends_for w more) e

  both_more : (i j : ℕ) (some all : List Line) → ends_for x.session (x ∷ more) ≡ true → AreSame some all (x ∷ more) → AreSame (line_at i x ∷ some) (line_at j x ∷ all) more
  both_more i j some all e h = record {
    txns = told_both x.answer x.session (lines_in x.session some) (lines_in x.session all) (told some) (told all) (h.calls x.session e) h.txns;
    calls = λ w l. in_both w i j x some all (h.calls w (ends_later w l));
  }

  open_group : ends_for x.session (x ∷ more) ≡ false → is_last x.answer ≡ false
  open_group e = go (is_last x.answer) refl
    where
      go : (b : Bool) → is_last x.answer ≡ b → is_last x.answer ≡ false
      go false q = q
      go true q = absurd (true≢false (sym (or_left ((x.session == x.session) && is_last x.answer) (ends_for x.session more) (and_from (x.session == x.session) (is_last x.answer) (eq-eqb x.session x.session refl) q)) ∙ e))

  all_more : (j : ℕ) (some all : List Line) → ends_for x.session (x ∷ more) ≡ false → AreSame some all (x ∷ more) → AreSame some (line_at j x ∷ all) more
  all_more j some all e h = record {
    txns = h.txns ∙ ap (λ (ts : List Told). map txn_of ts) (sym (told_none x.answer x.session (lines_in x.session all) (told all) (open_group e)));
    calls = λ w l. h.calls w (ends_later w l) ∙ ap steps_of (sym (cond-false (x.session == w) (cond (is_bound x.answer) [] (line_at j x ∷ lines_in w all)) (lines_in w all) (other w l (x.session == w) refl)));
  }
    where
      other : (w : ℕ) → ends_for w more ≡ true → (b : Bool) → (x.session == w) ≡ b → (x.session == w) ≡ false
      other w l false q = q
      other w l true q = absurd (true≢false (sym (ends_later x.session (subst (λ (v : ℕ). ends_for v more ≡ true) (sym (eqb-true x.session w q)) l)) ∙ e))

txns_same : (more : List Answered) (some all : List Line) → AreSame some all more → map txn_of (told (lines_onto some (counted more))) ≡ map txn_of (told (lines_onto all more))
txns_same [] some all h = h.txns
txns_same (x ∷ more) some all h = go (txns_same more) (ends_for x.session (x ∷ more)) refl
  where
    go : ((some all : List Line) → AreSame some all more → map txn_of (told (lines_onto some (counted more))) ≡ map txn_of (told (lines_onto all more))) →
        (b : Bool) → ends_for x.session (x ∷ more) ≡ b → map txn_of (told (lines_onto some (cond b (x ∷ counted more) (counted more)))) ≡ map txn_of (told (lines_onto all (x ∷ more)))
    go ih true e = ih (line_at (length some) x ∷ some) (line_at (length all) x ∷ all) (both_more x more (length some) (length all) some all e h)
    go ih false e = ih some (line_at (length all) x ∷ all) (all_more x more (length all) some all e h)

pub every_count : EveryCount
every_count xs = ap journal_of (txns_same xs [] [] (record { txns = refl; calls = λ w e. refl }))
