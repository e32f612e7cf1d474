-- A machine behind a walk in one leaf.
use Rattle.std.proofs.Common.{◌≡◌, ◌∙◌, ◌++◌, ◌==◌, ℕ, true, List, [], ◌∷◌, Result, Ok, Err, append-nil, ap, refl, sym, subst}
use Rattle.std.proofs.lemmas.Bool.{and_from}
use Rattle.std.proofs.lemmas.List.{append_assoc}
use Rattle.paged_calls.specs.core_state.States.{State}
use Rattle.lean_disk.specs.Story.{Story}
use Rattle.map_model.specs.Lists.{Has, all}
use Rattle.map_model.specs.declared.call.Refusal.TheVariants as refusal
use Rattle.row_scans.specs.Meets.{HasMet, HasTaken, IsButRows, Meets, takes_of, told_of, walk_of}
use Rattle.row_scans.specs.declared.meets.Met.{Met}
use Rattle.row_scans.specs.declared.meets.Unmet.{Unmet}
use Rattle.row_scans.specs.declared.meets.Unmet.TheVariants as unmet
use Rattle.paged_calls.specs.row_words.declared.event.Event.{Event}
use Rattle.paged_calls.specs.row_words.declared.event.Event.TheVariants.{Next}
use Rattle.paged_calls.specs.row_words.Openings.{opening}
use Rattle.paged_calls.specs.rows_trait.declared.view.View.{View}
use Rattle.paged_calls.specs.rows_trait.Views.{state}
use Rattle.paged_calls.specs.core_calls.Scans.{rows_met}
use Rattle.paged_calls.specs.session_desks.Parts.{SeatFits, shape}
use Rattle.paged_calls.proofs.session_state.OtherLemmas.{is_own, no_steps}
use Rattle.paged_calls.specs.session_state.Holds.{Holds, IsSameSession}
use Rattle.paged_calls.specs.session_state.Others.{EveryOther, Steps, is_of}
use Rattle.paged_calls.specs.session_state.declared.session.Session.{Session}
use Rattle.paged_calls.specs.paged_desks.Calls.{IsBeside}
use Rattle.paged_calls.specs.paged_desks.Machines.{IsReady, view_of}
use Rattle.paged_calls.specs.paged_desks.declared.machine.PagedMachine.{PagedMachine}
use Rattle.paged_calls.proofs.paged_desks.StandLemmas.{IsLook, IsLooked, looked_one, looked_same, ready_on}

-- ## Looks, one behind another

looked_then : (s t u : State) → IsLooked s t → IsLooked t u → IsLooked s u
looked_then s t u a b = record {
  entries = b.entries;
  row = b.row;
  worker = b.worker;
  is = b.is ∙ ap (λ (x : State). record x { entries = b.entries; row = b.row; worker = b.worker }) a.is;
  more = λ r h. b.more r (subst (λ (x : State). Has r x.entries) (sym a.is) (a.more r h));
  less = λ r k h. a.less r k (subst (λ (x : State). Has r x.entries) a.is (b.less r k h));
}

abbrev AreLooks : List Event → Type 0
AreLooks [] = Unit {0}
AreLooks (e ∷ es) = IsLook e × AreLooks es

looked_all : (es : List Event) → AreLooks es → (v w : View) → w.given ≡ v.given → w.seen ≡ v.seen ++ es → IsLooked (state v).core (state w).core
looked_all [] k v w given seen = looked_same v w given (seen ∙ append-nil v.seen)
looked_all (e ∷ es) k v w given seen =
    let u : View = record v { seen = v.seen ++ e ∷ [] } in
    looked_then (state v).core (state u).core (state w).core (looked_one v u e k.0 refl refl) (looked_all es k.1 u w given (seen ∙ sym (append_assoc v.seen (e ∷ []) es)))

-- ## The events of a walk

takes_look : (own : ℕ) (rows : List ℕ) → AreLooks (takes_of own rows)
takes_look own [] = tt
takes_look own (i ∷ rows) = (tt, takes_look own rows)

takes_own : (own : ℕ) (rows : List ℕ) → all (is_of own) (takes_of own rows) ≡ true
takes_own own [] = refl
takes_own own (i ∷ rows) = and_from (own == own) (all (is_of own) (takes_of own rows)) (is_own own) (takes_own own rows)

walk_look : (own page key : ℕ) (x : Met) (rows : List ℕ) → AreLooks (takes_of own rows ++ Next own page key (told_of x) ∷ [])
walk_look own page key x [] = (tt, tt)
walk_look own page key x (i ∷ rows) = (tt, walk_look own page key x rows)

walk_own : (own page key : ℕ) (x : Met) (rows : List ℕ) → all (is_of own) (takes_of own rows ++ Next own page key (told_of x) ∷ []) ≡ true
walk_own own page key x [] = and_from (own == own) true (is_own own) refl
walk_own own page key x (i ∷ rows) = and_from (own == own) (all (is_of own) (takes_of own rows ++ Next own page key (told_of x) ∷ [])) (is_own own) (walk_own own page key x rows)

-- ## By answer

module _ {D : Type 0} (story : D → Story) (law : EveryOther) (m n : PagedMachine D) (ready : IsReady story m) (b : IsBeside m n) (fits : SeatFits n.machine) (holds : Holds (shape n.machine) (view_of n) n.machine.work.session n.machine.work.log)
    (session : IsButRows m.machine.work.session n.machine.work.session) where
  abbrev own : ℕ
  own = m.machine.work.session.own

  works : n.machine.work.session.works ≡ true
  works = ap (λ (s : Session). s.works) session ∙ ready.works

  same : IsSameSession m.machine.work.session n.machine.work.session
  same = (ap (λ (s : Session). s.own) session, ap (λ (s : Session). s.workers) session, ap (λ (s : Session). s.group) session)

  met_ready : (key : ℕ) (x : Met) → HasMet own (view_of m) (view_of n) key x → IsReady story n
  met_ready key x d =
      let rows = rows_met (opening (view_of m).given) (state (view_of m)).core d.page key in
      let es = walk_of (opening (view_of m).given) (state (view_of m)).core own d.page key x in
      let steps : Steps own (view_of m) (view_of n) = record { events = es; given = d.given; seen = d.seen; are_own = walk_own own d.page key x rows; met = d.met } in
      ready_on story m n b ready law d.given (looked_all es (walk_look own d.page key x rows) (view_of m) (view_of n) d.given d.seen) fits works same steps holds

  taken_ready : (rows : List ℕ) → HasTaken own rows (view_of m) (view_of n) → IsReady story n
  taken_ready rows t =
      let es = takes_of own rows in
      let steps : Steps own (view_of m) (view_of n) = record { events = es; given = t.given; seen = t.seen; are_own = takes_own own rows; met = t.met } in
      ready_on story m n b ready law t.given (looked_all es (takes_look own rows) (view_of m) (view_of n) t.given t.seen) fits works same steps holds

  pub walk_ready : (key : ℕ) (r : Result Met Unmet) (kept : Type 0) → Meets r own (view_of m) (view_of n) key kept → IsReady story n
  walk_ready key (Ok x) kept d = met_ready key x d
  walk_ready key (Err (unmet.Refused (refusal.Conflict h))) kept d = taken_ready d.rows d.taken
  walk_ready key (Err (unmet.Refused refusal.RowSpent)) kept d = taken_ready d.rows d.taken
  walk_ready key (Err (unmet.Cold cold)) kept d =
      let c = d.0 in
      ready_on story m n b ready law c.given (looked_same (view_of m) (view_of n) c.given c.seen) fits works same (no_steps own (view_of m) (view_of n) c.given c.seen) holds
  walk_ready key (Err (unmet.Refused _)) kept d = absurd d
