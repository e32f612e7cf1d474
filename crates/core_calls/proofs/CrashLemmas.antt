-- A crash at any moment of a run.
use Rattle.std.proofs.Common.{◌≡◌, ◌⊎◌, ℕ, true, false, List, [], ◌∷◌, ◌++◌, map, Option, Some, None, refl, sym, ap, ◌∙◌, subst, inl, inr, true≢false}
use Rattle.std.proofs.lemmas.List.{append-nil}
use Rattle.std.proofs.lemmas.Bool.{cases_Bool}
use Rattle.map_model.specs.Lists.{Has}
use Rattle.map_model.specs.Journals.{Txn, Journal, journal_of, is_earlier, Serial}
use Rattle.map_model.specs.Laws.{IsFalling}
use Rattle.map_model.specs.Transcripts.{Line, told, told_onto, txn_of, lines_in, journal}
use Rattle.core_crash.specs.image_model.Entries.{Entry, Contents}
use Rattle.core_crash.specs.image_model.Ends.{is_kept}
use Rattle.core_crash.specs.image_model.Images.{Image, found}
use Rattle.core_crash.specs.core_state.Openings.{Opening, first_map}
use Rattle.core_crash.specs.core_state.States.{start}
use Rattle.core_crash.specs.core_state.Events.{Event}
use Rattle.core_crash.specs.core_state.Steps.{run, state_after}
use Rattle.core_crash.specs.Crashes.{Leaves, image_of, journal_in}
use Rattle.map_model.proofs.ListLemmas.{order_has, has_order}
use Rattle.core_calls.specs.Marks.{Mark, marks}
use Rattle.core_calls.specs.Deeds.{Deed, Committed, Outcome, answered, transcript, Answers}
use Rattle.core_calls.specs.Told.{SameTxn, ByThen, ToldLaws, EveryTold}
use Rattle.core_calls.specs.Refusals.{Limits}
use Rattle.core_calls.specs.Fronts.{Done, front, outcomes}
use Rattle.core_calls.specs.Runs.{EachTells, Moment, Waiting, InHand, EveryRun}
use Rattle.core_calls.specs.Durables.{pending, moments, durables, IsKept, EveryDurable}
use Rattle.core_calls.specs.Printed.{EveryPrinted}
use Rattle.core_calls.specs.Crashes.{WithOneInHand, RunSurvives, EveryRunCrash}
use Rattle.core_calls.proofs.TranscriptLemmas.{lines, lines_are, told_in}
use Rattle.core_calls.proofs.RunLemmas.{marks_behind, marks_all, in_turn_all, answers_all}
use Rattle.core_calls.proofs.CommitLemmas.{up_to_later}
use Rattle.core_calls.proofs.NumberLemmas.{number_of}
use Rattle.core_calls.proofs.PairLemmas.{pair_of}
use Rattle.core_calls.proofs.PrintedLemmas.{due_later}

-- an outcome adds no transaction; or it is a commit, and adds its own
record AddsOne (x : Outcome) (old new : List Txn) : Type 0 where
  number : ℕ
  at : ℕ
  commit : x.deed ≡ Committed number at
  more : Txn
  session_is : more.session ≡ x.session
  number_is : more.number ≡ number
  at_is : more.at ≡ at
  new_is : new ≡ more ∷ old

abbrev OneMore : Outcome → List Txn → List Txn → Type 0
OneMore x old new = (new ≡ old) ⊎ AddsOne x old new

one_more : (x : Outcome) (xs : List Outcome) → OneMore x (told_in (lines xs)) (told_in (lines (x ∷ xs)))
one_more x xs = go x.deed refl
  where
    go : (d : Deed) → x.deed ≡ d → OneMore x (told_in (lines xs)) (map txn_of (told_onto (answered d) x.session (lines_in x.session (lines xs)) (told (lines xs))))
    go (Committed n at) e = inr (record {
      number = n;
      at = at;
      commit = e;
      more = txn_of (record { session = x.session; number = n; at = at; lines = lines_in x.session (lines xs) });
      session_is = refl;
      number_is = refl;
      at_is = refl;
      new_is = refl;
    })
    go _ e = inl refl

journal_is : (xs : List Outcome) → journal (transcript xs) ≡ journal_of (told_in (lines xs))
journal_is xs = ap (λ (l : List Line). journal_of (map txn_of (told l))) (lines_are xs)

to_txns : (xs : List Outcome) (t : Txn) → Has t (journal (transcript xs)) → Has t (told_in (lines xs))
to_txns xs t i = order_has is_earlier (told_in (lines xs)) t (subst (λ (j : Journal). Has t j) (journal_is xs) i)

from_txns : (xs : List Outcome) (t : Txn) → Has t (told_in (lines xs)) → Has t (journal (transcript xs))
from_txns xs t i = subst (λ (j : Journal). Has t j) (sym (journal_is xs)) (has_order is_earlier (told_in (lines xs)) t i)

module _ (laws : EveryTold) (durable : EveryDurable) (prints : EveryPrinted) (l : Limits) (g : Opening) (faithful : g.faithful ≡ true) (group : ℕ) (earlier : List Done) (before : List Event)
    (t : EachTells l g group earlier) (logs : ℕ → List Entry) (page : ℕ → Contents) (c : Leaves g (front earlier ++ before) logs page) where
  abbrev es : List Event
  es = front earlier ++ before

  abbrev told_by_then : Journal
  told_by_then = journal (transcript (outcomes earlier))

  abbrev image : Image
  image = image_of g (run g (start g) (front earlier ++ before)) logs page

  -- with outcomes that are those of the events
  given : (next : Option Outcome) (xs : List Outcome) → Answers g es xs → (by_then : Journal) → WithOneInHand image (outcomes earlier) next by_then → Serial (first_map g) by_then → ByThen image told_by_then (journal (transcript xs)) by_then → RunSurvives g es logs page earlier next
  given next xs a by_then w s b = record {
    by_then = by_then;
    by_then_is = w;
    serial = s;
    falls = b.falls;
    happened = λ v j. pair_of SameTxn (journal (transcript xs)) (journal_in g (state_after g es)) (laws g es xs a).same v (b.only v j).0;
    numbers = λ r i k v j p q.
        let u = pair_of SameTxn (journal (transcript xs)) (journal_in g (state_after g es)) (laws g es xs a).same v (b.only v j).0 in
        u.2.at ∙ number_of g es u.0 u.1 r i k (sym u.2.session ∙ p) (sym u.2.number ∙ q);
    survives = (laws g es xs a).crash faithful logs page c told_by_then by_then b;
    reported = λ newer first q n i. subst (λ (f : List Event). IsKept g (run g (start g) f) logs page by_then n) (up_to_later earlier before)
        ((durable g (moments earlier)).kept faithful (pending earlier ++ before) xs (subst (λ (f : List Event). Answers g f xs) (sym (up_to_later earlier before)) a) logs page
        (subst (λ (f : List Event). Leaves g f logs page) (sym (up_to_later earlier before)) c) told_by_then by_then
        (subst (λ (f : List Event). ByThen (image_of g (run g (start g) f) logs page) told_by_then (journal (transcript xs)) by_then) (sym (up_to_later earlier before)) b)
        n (let f = (prints g earlier).first newer first q in subst (λ (k : List Done). Has n (durables g (moments k))) f.are (due_later g f.later f.heard n (f.reports n i))));
  }

  -- what was told before
  old : ToldLaws g (front earlier) (outcomes earlier)
  old = laws g (front earlier) (outcomes earlier) (answers_all l g group earlier t)

  whole : (j : Journal) → IsFalling j → ByThen image j j j
  whole j f = record { falls = f; has_told = λ u i. i; has_kept = λ u i k. i; only = λ u i. (i, inl i) }

  -- a commit in hand
  in_hand : (y : Outcome) → Answers g es (y ∷ outcomes earlier) → RunSurvives g es logs page earlier (Some y)
  in_hand y a = go (one_more y (outcomes earlier))
    where
      all : ToldLaws g (front earlier ++ before) (y ∷ outcomes earlier)
      all = laws g (front earlier ++ before) (y ∷ outcomes earlier) a

      go : OneMore y (told_in (lines (outcomes earlier))) (told_in (lines (y ∷ outcomes earlier))) → RunSurvives g es logs page earlier (Some y)
      go (inl q) = given (Some y) (y ∷ outcomes earlier) a told_by_then (inl refl) (old.serial faithful) (subst (λ (j : Journal). ByThen image told_by_then j told_by_then)
          (journal_is (outcomes earlier) ∙ (ap journal_of (sym q) ∙ sym (journal_is (y ∷ outcomes earlier)))) (whole told_by_then old.falls))
      go (inr o) = elim (cases_Bool (is_kept image.logs image.floor (found image) o.more)) [
        | inl k ↦ given (Some y) (y ∷ outcomes earlier) a (journal (transcript (y ∷ outcomes earlier))) (inr (record {
          outcome = y;
          is_next = refl;
          number = o.number;
          at = o.at;
          commit = o.commit;
          all = refl;
          more = o.more;
          session_is = o.session_is;
          number_is = o.number_is;
          at_is = o.at_is;
          kept = k;
          one = from_txns (y ∷ outcomes earlier) o.more (subst (λ (ts : List Txn). Has o.more ts) (sym o.new_is) (inl refl));
          has = has;
          only = only;
        })) (all.serial faithful)
            (record { falls = all.falls; has_told = has; has_kept = λ v i j. i; only = λ v i. (i, kept k v (only v i)) })
        | inr k ↦ given (Some y) (y ∷ outcomes earlier) a told_by_then (inl refl) (old.serial faithful)
            (record { falls = old.falls; has_told = λ v i. i; has_kept = λ v i j. lost k v (only v i) j; only = λ v i. (has v i, inl i) })
      ]
        where
          has : (v : Txn) → Has v told_by_then → Has v (journal (transcript (y ∷ outcomes earlier)))
          has v i = from_txns (y ∷ outcomes earlier) v (subst (λ (ts : List Txn). Has v ts) (sym o.new_is) (inr (to_txns (outcomes earlier) v i)))

          only : (v : Txn) → Has v (journal (transcript (y ∷ outcomes earlier))) → Has v told_by_then ⊎ (v ≡ o.more)
          only v i = at (subst (λ (ts : List Txn). Has v ts) o.new_is (to_txns (y ∷ outcomes earlier) v i))
            where
              at : Has v (o.more ∷ told_in (lines (outcomes earlier))) → Has v told_by_then ⊎ (v ≡ o.more)
              at (inl p) = inr p
              at (inr j) = inl (from_txns (outcomes earlier) v j)

          kept : is_kept image.logs image.floor (found image) o.more ≡ true → (v : Txn) → Has v told_by_then ⊎ (v ≡ o.more) → Has v told_by_then ⊎ (is_kept image.logs image.floor (found image) v ≡ true)
          kept k v (inl i) = inl i
          kept k v (inr p) = inr (ap (is_kept image.logs image.floor (found image)) p ∙ k)

          lost : is_kept image.logs image.floor (found image) o.more ≡ false → (v : Txn) → Has v told_by_then ⊎ (v ≡ o.more) → is_kept image.logs image.floor (found image) v ≡ true → Has v told_by_then
          lost k v (inl i) j = i
          lost k v (inr p) j = absurd (true≢false (sym j ∙ (ap (is_kept image.logs image.floor (found image)) p ∙ k)))

  waiting : (next : Option Outcome) → Answers g es (outcomes earlier) → RunSurvives g es logs page earlier next
  waiting next a = given next (outcomes earlier) a told_by_then (inl refl) (old.serial faithful) (whole told_by_then old.falls)

  crashed : (x : Done) → Moment g es (outcomes earlier) x.outcome → RunSurvives g es logs page earlier (Some x.outcome)
  crashed x (Waiting a) = waiting (Some x.outcome) a
  crashed x (InHand q a) = in_hand x.outcome a

pub every_run_crash : EveryTold → EveryRun → EveryDurable → EveryPrinted → EveryRunCrash
every_run_crash laws runs durable prints l g f group = record {
  between = λ earlier x before after t e logs page c. crashed laws durable prints l g f group earlier before t.0 logs page c x ((runs l g group earlier x t).moments before after e);
  stopped = λ earlier rest t n logs page c. waiting laws durable prints l g f group earlier rest t logs page c None (record {
    rest = λ w. marks g (state_after g (front earlier)) rest w [];
    each = λ w. marks_behind g (front earlier) rest w ∙ ap (λ (k : List Mark). marks g (state_after g (front earlier)) rest w [] ++ k) (marks_all l g group earlier t w);
    open_yet = n;
    in_turn = in_turn_all l g group earlier t;
  });
  behind = λ earlier t logs page c. subst (λ (es : List Event). RunSurvives g es logs page earlier None) (append-nil (front earlier))
      (waiting laws durable prints l g f group earlier [] t logs page (subst (λ (es : List Event). Leaves g es logs page) (sym (append-nil (front earlier))) c) None
      (subst (λ (es : List Event). Answers g es (outcomes earlier)) (sym (append-nil (front earlier))) (answers_all l g group earlier t)));
}
