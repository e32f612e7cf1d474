-- From a disk that holds what a crash of a run left to the words of the lines that were out.
use Rattle.std.proofs.Common.{◌≡◌, ◌&&◌, ◌||◌, ◌==◌, not, leb, inl, inr, ℕ, List, [], ◌++◌, length, Option, Some, None, refl, sym, ap, ap₂, ◌∙◌, subst}
use Rattle.std.proofs.lemmas.List.{append-nil}
use Rattle.map_model.specs.Lists.{Has, any}
use Rattle.map_model.specs.Journals.{Journal, Txn, IsClosed, after}
use Rattle.map_model.proofs.ListLemmas.{has_right, keep_has}
use Rattle.map_model.specs.Outputs.{Reply}
use Rattle.disk_runs.specs.image_model.Entries.{Entry, is_record}
use Rattle.disk_runs.specs.image_model.Ends.{is_kept, kept, reach, wins}
use Rattle.disk_runs.specs.image_model.Images.{Image, StandsFor, found, gathered, won_by}
use Rattle.disk_runs.specs.core_state.Openings.{Opening, first_map}
use Rattle.disk_runs.specs.core_state.Events.{Event}
use Rattle.disk_runs.specs.core_state.Steps.{state_after}
use Rattle.disk_runs.specs.core_crash.Crashes.{image_of}
use Rattle.disk_runs.proofs.core_crash.Cuts.{keep_same}
use Rattle.disk_runs.proofs.core_crash.Images.{gathered_has}
use Rattle.disk_runs.specs.disk_slots.declared.master.Master.{Master}
use Rattle.disk_runs.specs.disk_image.Laws.{Agreement, EveryAgreement}
use Rattle.disk_runs.specs.disk_image.Shown.{Areas, image_by}
use Rattle.disk_runs.specs.core_disk.FloorLaws.{at_floor}
use Rattle.disk_runs.specs.core_disk.Held.{HoldsRun}
use Rattle.disk_runs.specs.core_disk.Shows.{EveryShown, Shows}
use Rattle.disk_runs.proofs.core_disk.FloorLemmas.{agreement_at, sound_at}
use Rattle.disk_runs.proofs.core_disk.HeldLemmas.{gathered_same}
use Rattle.core_calls.specs.Crashes.{EveryRunCrash, RunSurvives, WithOneInHand}
use Rattle.core_calls.specs.Deeds.{Outcome}
use Rattle.core_calls.specs.Fronts.{Done, front, outcomes}
use Rattle.core_calls.specs.Printed.{printed}
use Rattle.core_calls.specs.Told.{SameTxn, kept_of}
use Rattle.disk_runs.specs.Masters.{IsOfRunBy}
use Rattle.run_crashes.specs.Laws.{EveryReopened, EveryReopenedFor, Passing}
use Rattle.run_crashes.specs.Lines.{FellIn, Between, InCall, Stopped, Recovers, outcome_of}

-- what is in hand is kept by an image that keeps the same
in_hand : (i j : Image) (told : List Outcome) (next : Option Outcome) (by_then : Journal) → ((t : Txn) → Has t by_then → is_kept i.logs i.floor (found i) t ≡ is_kept j.logs j.floor (found j) t)
    → WithOneInHand i told next by_then → WithOneInHand j told next by_then
in_hand i j told next by_then same (inl e) = inl e
in_hand i j told next by_then same (inr h) = inr (record {
  outcome = h.outcome;
  is_next = h.is_next;
  number = h.number;
  at = h.at;
  commit = h.commit;
  all = h.all;
  more = h.more;
  session_is = h.session_is;
  number_is = h.number_is;
  at_is = h.at_is;
  kept = sym (same h.more h.one) ∙ h.kept;
  one = h.one;
  has = h.has;
  only = h.only;
})

-- whether a transaction is kept goes by its session, its number and its commit number
kept_by : (logs floor : ℕ) (z : List Entry) (t u : Txn) → SameTxn t u → is_kept logs floor z t ≡ is_kept logs floor z u
kept_by logs floor z t u same = λ i. leb (same.at i) floor || any (λ e. wins (reach logs floor z) e && ((e.log == same.session i) && (e.txn == same.number i))) z

module _ (agrees : EveryAgreement) (g : Opening) (Such : List Done → List Event → Type 0) (m n : Master) (area : Areas) (heard : List Done) (next : Option Done) (newer out : List Reply) (lines : newer ++ out ≡ printed g heard)
    (behind : List Event) (fell : FellIn (Such heard) next behind) (of_run : IsOfRunBy (front heard ++ behind) m n) (h : HoldsRun g (front heard ++ behind) n area) (x : Shows g (front heard ++ behind) n area)
    (r : RunSurvives g (front heard ++ behind) x.logs x.page heard (outcome_of next)) where
  abbrev es : List Event
  es = front heard ++ behind

  abbrev image : Image
  image = image_of g (state_after g es) x.logs x.page

  abbrev shown : Image
  shown = image_by n area

  -- by the master's floor, and so by the core's
  agreement : Agreement image shown
  agreement = agreement_at image n.floor x.as_far.reach shown (agrees (at_floor n.floor image) shown x.agree (sound_at image n.floor x.as_far.reach r.survives.stands.sound))

  found_is : found image ≡ found shown
  found_is = gathered_same image.log shown.log g.workers x.agree.log ∙ ap (gathered shown.log) (sym h.is.logs)

  -- the core's floor keeps the same of them as the master's
  keeps_same : (t : Txn) → Has t r.by_then → is_kept image.logs image.floor (found image) t ≡ is_kept shown.logs shown.floor (found shown) t
  keeps_same t i =
      let u = r.happened t i in
      kept_by g.workers image.floor (found image) t u.0 u.2
      ∙ (sym (x.as_far.kept u.0 u.1)
      ∙ (sym (kept_by g.workers n.floor (found image) t u.0 u.2) ∙ ap₂ (λ (l : ℕ) (z : List Entry). is_kept l n.floor z t) (sym h.is.logs) found_is))

  -- what is found in the image has happened
  entered : (r : Entry) → Has r (found shown) → Has r (state_after g es).entries
  entered r i =
      let q = gathered_has image.log g.workers r (subst (Has r) (sym found_is) i) in
      let w : ℕ = q.0 in
      let left : Has r (x.logs w) = (keep_has (λ (e : Entry). not (leb e.number ((state_after g es).head w))) (x.logs w) r q.2).0 in
      let p = x.leaves.prefixes w q.1.0 q.1.1 in
      (keep_has (λ (e : Entry). is_record e.kind && (e.log == w)) (state_after g es).entries r (subst (Has r) p.1 (has_right r p.0 (x.logs w) left))).0

  abbrev kept_ones : Journal
  kept_ones = kept (length n.heads) n.floor (found shown) r.by_then

  kept_is : kept_of image r.by_then ≡ kept_ones
  kept_is = keep_same (is_kept image.logs image.floor (found image)) (is_kept shown.logs shown.floor (found shown)) r.by_then keeps_same

  pub recovers : Recovers g Such heard next out m area
  recovers = record {
    n = n;
    behind = behind;
    fell = fell;
    of_run = of_run;
    holds = h;
    by_then = r.by_then;
    by_then_is = in_hand image shown (outcomes heard) (outcome_of next) r.by_then keeps_same r.by_then_is;
    falls = r.falls;
    serial = r.serial;
    numbers = λ e i. r.numbers e (entered e i);
    kept_ones = kept_ones;
    kept_is = refl;
    closed = subst (IsClosed r.by_then) kept_is r.survives.closed;
    reported = λ name i. let k = r.reported newer out lines name i in (k.txn, subst (Has k.txn) kept_is k.kept, k.session, k.number);
    clean = x.clean;
    stands = record {
      master = x.clean.master;
      readable = x.clean.readable;
      stands = subst (λ (j : Journal). StandsFor shown (after (first_map g) j) (won_by shown)) kept_is
          (record { sound = agreement.sound; map = λ k. r.survives.stands.map k ∙ sym (agreement.map k); won = refl });
    };
  }

-- of events of any kind
pub every_reopened_for : EveryShown → EveryRunCrash → EveryAgreement → (Such : List Done → List Event → Type 0) → EveryReopenedFor Such
every_reopened_for shows crashes agrees Such l g group xs m n area = record {
  between = λ x before after newer out t e lines q h. let s = shows g (front xs ++ before) n area h in
      recovers agrees g Such m n area xs (Some x) newer out lines before (InCall x refl after e) q h s ((crashes l g h.is.faithful group).between xs x before after t (sym e) s.logs s.page s.leaves);
  stopped = λ es newer out t none such lines q h. let s = shows g (front xs ++ es) n area h in
      recovers agrees g Such m n area xs None newer out lines es (Stopped such) q h s ((crashes l g h.is.faithful group).stopped xs es t none s.logs s.page s.leaves);
  behind = λ newer out t lines q h. let at = subst (λ (k : List Event). HoldsRun g k n area) (sym (append-nil (front xs))) h in let s = shows g (front xs ++ []) n area at in
      recovers agrees g Such m n area xs None newer out lines [] (Between refl) (subst (λ (k : List Event). IsOfRunBy k m n) (sym (append-nil (front xs))) q) at s ((crashes l g h.is.faithful group).stopped xs [] t (λ w. refl) s.logs s.page s.leaves);
}

pub every_reopened : EveryShown → EveryRunCrash → EveryAgreement → EveryReopened
every_reopened shows crashes agrees test = every_reopened_for shows crashes agrees (Passing test)
