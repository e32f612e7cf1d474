-- Every law of the core, in the words of a transcript.
use Rattle.std.proofs.Common.{◌≡◌, ℕ, Bool, true, false, leb, ◌||◌, ◌&&◌, ◌==◌, List, [], ◌∷◌, ◌++◌, map, refl, sym, ap, ap₂, ◌∙◌, subst, true≢false}
use Rattle.map_model.proofs.ListLemmas.{has_keep, keep_has}
use Rattle.map_model.specs.Lists.{Has, any, keep}
use Rattle.map_model.specs.Journals.{Txn, Journal, is_earlier, journal_of, after, Used, Wrote}
use Rattle.map_model.specs.Laws.{EveryOrder, EveryClosed, IsFalling}
use Rattle.map_model.specs.Transcripts.{lines_of, told, txn_of, journal}
use Rattle.core_crash.specs.image_model.Ends.{reach, wins, is_kept}
use Rattle.core_crash.specs.image_model.Histories as histories
use Rattle.core_crash.specs.image_model.Images.{Image, StandsFor, found, won_by}
use Rattle.core_crash.specs.core_state.Openings.{Opening, first_map}
use Rattle.core_crash.specs.core_state.States.{State, start, flushed_by_all}
use Rattle.core_crash.specs.core_state.Events.{Event}
use Rattle.core_crash.specs.core_state.Steps.{run}
use Rattle.core_crash.proofs.core_commit.Runs.{good_run, good_start}
use Rattle.core_crash.proofs.core_commit.History.{IsRecorded}
use Rattle.core_crash.specs.Crashes.{Recovers, image_of, journal_in, IsRipe, EveryCrash, EverySerial}
use Rattle.core_calls.specs.Marks.{Mark, Ended, Began, Called, Back}
use Rattle.core_calls.specs.Deeds.{Outcome, marks_by, commits, Answers, transcript}
use Rattle.core_calls.specs.Told.{Pairwise, SameTxn, kept_of, Survives, ByThen, ToldLaws, EveryTold}
use Rattle.core_calls.proofs.PairLemmas.{pair_of, pairs_map, pairs_keep, of_session, falls_eq, falls_keep}
use Rattle.core_calls.proofs.EntryLemmas.{Deal, deals_of, deals_in}
use Rattle.core_calls.proofs.MarkLemmas.{is_by, marked}
use Rattle.core_calls.proofs.TranscriptLemmas.{IsDeal, lines, lines_are, told_in, heard_all}
use Rattle.core_calls.proofs.JournalLemmas.{Ties, ts_apart, tied, run_same, used_same}

-- what commits nothing adds no transaction
deals_rest : (w : ℕ) (rest ms : List Mark) → commits rest ≡ false → deals_in w (rest ++ ms) ≡ deals_in w ms
deals_rest w [] ms c = refl
deals_rest w (Ended true n at ∷ rest) ms c = absurd (true≢false c)
deals_rest w (Ended false n at ∷ rest) ms c = deals_rest w rest ms c
deals_rest w (Began n ∷ rest) ms c = deals_rest w rest ms c
deals_rest w (Called k a alone ∷ rest) ms c = deals_rest w rest ms c
deals_rest w (Back k a ∷ rest) ms c = deals_rest w rest ms c

kept_same : (i : Image) (t u : Txn) → t.session ≡ u.session → t.number ≡ u.number → t.at ≡ u.at → is_kept i.logs i.floor (found i) t ≡ is_kept i.logs i.floor (found i) u
kept_same i t u s n a = ap₂ (λ (x y : Bool). x || y) (ap (λ (x : ℕ). leb x i.floor) a) (ap₂ (λ (x y : ℕ). any (λ e. wins (reach i.logs i.floor (found i)) e && ((e.log == x) && (e.txn == y))) (found i)) s n)

module _ (order : EveryOrder) (closed : EveryClosed) (serial : EverySerial) (crash : EveryCrash) (g : Opening) (es : List Event) (xs : List Outcome) (a : Answers g es xs) where
  abbrev now : State
  now = run g (start g) es

  abbrev J : Journal
  J = journal (transcript xs)

  abbrev K : Journal
  K = journal_in g (run g (start g) es)

  hist : IsRecorded g (flushed_by_all g now) now.entries
  hist = (good_run g es (start g) (good_start g)).inv.records

  each : (w : ℕ) → Pairwise IsDeal (keep (of_session w) (told_in (lines xs))) (keep (is_by w) (deals_of g.format now.entries))
  each w = subst (λ (l : List Deal). Pairwise IsDeal (keep (of_session w) (told_in (lines xs))) l)
      (sym ((marked g es).done w ∙ (ap (deals_in w) (a.each w) ∙ deals_rest w (a.rest w) (marks_by w xs) (a.open_yet w)))) (heard_all w xs a.in_turn).done

  J_is : J ≡ journal_of (told_in (lines xs))
  J_is = ap (λ (l : List Rattle.map_model.specs.Transcripts.Line). journal_of (map txn_of (told l))) (lines_are xs)

  ties : Pairwise (Ties now.entries) J K
  ties = subst (λ (j : Journal). Pairwise (Ties now.entries) j K) (sym J_is) (tied order g (flushed_by_all g now) now.entries hist (told_in (lines xs)) each)

  falls : IsFalling J
  falls = subst IsFalling (sym J_is) (order (told_in (lines xs)) (ts_apart order g (flushed_by_all g now) now.entries hist (told_in (lines xs)) each)).falls

  core_falls : IsFalling K
  core_falls = (order (histories.committed g.format now.entries) (Rattle.core_calls.proofs.JournalLemmas.core_apart g (flushed_by_all g now) g.format now.entries hist)).falls

  module _ (faithful : g.faithful ≡ true) (i : Image) (r : Recovers g now i) where
    abbrev p : Txn → Bool
    p = is_kept i.logs i.floor (found i)

    kept_ties : Pairwise (Ties now.entries) (kept_of i J) (kept_of i K)
    kept_ties = pairs_keep (Ties now.entries) p p (λ t u c. kept_same i t u c.session c.number c.at) J K ties

    maps : after (first_map g) (kept_of i J) ≡ after (first_map g) (kept_of i K)
    maps = (run_same now.entries (first_map g) (kept_of i J) (kept_of i K) kept_ties (closed (first_map g) K p core_falls (serial g faithful es) r.closed)).map

    -- whose write a kept one used is kept
    follows : (t u : Txn) → Has t (kept_of i J) → Has u J → (k : ℕ) → Used t k → Wrote u k → is_earlier u t ≡ true → Has u (kept_of i J)
    follows t u it iu k ut wu e =
        let x = pair_of (Ties now.entries) (kept_of i J) (kept_of i K) kept_ties t it in
        let y = pair_of (Ties now.entries) J K ties u iu in
        let c = y.2.claims k wu in
        let f = r.followed x.0 y.0 x.1 (record {
          key = k;
          used = used_same now.entries t x.0 k x.2 ut;
          claim = c.entry;
          has = c.has;
          claims = c.claims;
          of_key = c.of_key;
          session = c.session;
          number = c.number;
          in_journal = y.1;
          before = before u t y.0 x.0 y.2 x.2 ∙ e;
        }) in
        has_keep p J u iu (kept_same i u y.0 y.2.session y.2.number y.2.at ∙ (keep_has p K y.0 f).1)
      where
        before : (u t v s : Txn) → Ties now.entries u v → Ties now.entries t s → is_earlier v s ≡ is_earlier u t
        before u t v s c e = ap₂ (λ (x y : ℕ). earlier_by x v.session y s.session) (sym c.at) (sym e.at) ∙ ap₂ (λ (x y : ℕ). earlier_by u.at x t.at y) (sym c.session) (sym e.session)
          where
            earlier_by : ℕ → ℕ → ℕ → ℕ → Bool
            earlier_by a x b y = Rattle.std.specs.Prelude.ltb a b || ((a == b) && Rattle.std.specs.Prelude.ltb x y)

    ripe : (t : Txn) → Has t J → IsRipe g now t → Has t (kept_of i J)
    ripe t it w =
        let x = pair_of (Ties now.entries) J K ties t it in
        let k = r.ripe x.0 x.1 (record { end = w.end; has = w.has; commit = w.commit; session = w.session ∙ x.2.session; number = w.number ∙ x.2.number; flushed = w.flushed; need = w.need }) in
        has_keep p J t it (kept_same i t x.0 x.2.session x.2.number x.2.at ∙ (keep_has p K x.0 k).1)

    -- with those in hand
    module _ (told by_then : Journal) (b : ByThen i told J by_then) where
      same_kept : kept_of i by_then ≡ kept_of i J
      same_kept = falls_eq (kept_of i by_then) (kept_of i J) (falls_keep p by_then b.falls) (falls_keep p J falls)
          (λ t j. let q = keep_has p by_then t j in has_keep p J t (b.only t q.0).0 q.1)
          (λ t j. let q = keep_has p J t j in has_keep p by_then t (b.has_kept t q.0 q.1) q.1)

      survives : Survives g now i by_then
      survives = record {
        stands = subst (λ m. StandsFor i m (won_by i)) (sym (ap (after (first_map g)) same_kept ∙ maps)) r.stands;
        closed = λ t u it d. subst (Has u) (sym same_kept) (follows t u (subst (Has t) same_kept it) (b.only u d.in_journal).0 d.key d.used d.wrote d.before);
        ripe = λ t it w. subst (Has t) (sym same_kept) (ripe t (b.only t it).0 w);
      }

  pub laws : ToldLaws g es xs
  laws = record {
    same = pairs_map (Ties now.entries) SameTxn (λ t u c. record { session = c.session; number = c.number; at = c.at; calls = c.calls }) J K ties;
    falls = falls;
    serial = λ f. (run_same now.entries (first_map g) J K ties (serial g f es)).serial;
    crash = λ f logs page l told by_then b. survives f (image_of g now logs page) (crash g f es logs page l) told by_then b;
  }

pub every_told : EveryOrder → EveryClosed → EverySerial → EveryCrash → EveryTold
every_told order closed serial crash g es xs a = laws order closed serial crash g es xs a
