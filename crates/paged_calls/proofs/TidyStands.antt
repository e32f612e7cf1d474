-- A machine behind a step of a tidying, and behind the coming of a neighbour: it stands, and that is a part of a call.
use Rattle.std.proofs.Common.{◌≡◌, ◌∙◌, ◌≤◌, ◌+◌, ◌++◌, ℕ, true, false, List, [], ◌∷◌, Some, ap, refl, sym, subst}
use Rattle.paged_desks.specs.core_calls.LogEvents.{IsTightAround}
use Rattle.map_model.specs.Lists.{any}
use Rattle.row_room.specs.btree_smo.Outcomes.{AreMisses}
use Rattle.paged_desks.specs.core_calls.Fronts.{Done}
use Rattle.paged_desks.specs.core_state.Events as happening
use Rattle.paged_desks.specs.core_state.Openings.{Opening}
use Rattle.paged_desks.specs.core_state.States.{State}
use Rattle.paged_desks.specs.core_state.Steps as core
use Rattle.paged_desks.specs.engine_calls.Parts.{behind_first}
use Rattle.lean_disk.specs.Story.{IsLawful, Story}
use Rattle.paged_desks.specs.page_pool.Pools.{EveryStanding}
use Rattle.row_walks.specs.Stages.{stage_of}
use Rattle.row_walks.specs.Steps.{IsQuietTo, IsShrinkBy, IsTidied}
use Rattle.row_walks.specs.declared.steps.At.{At}
use Rattle.paged_desks.specs.row_words.declared.event.Event.{Event}
use Rattle.paged_desks.specs.row_words.declared.event.Event.TheVariants as told
use Rattle.paged_desks.specs.row_words.Moments.{event_of, events_of}
use Rattle.paged_desks.specs.row_words.Openings.{opening}
use Rattle.paged_desks.specs.rows_trait.declared.view.View.{View}
use Rattle.paged_desks.specs.rows_trait.Views.{state}
use Rattle.paged_desks.specs.session_desks.Parts.{SeatFits, shape}
use Rattle.paged_desks.specs.session_state.Holds.{Holds, IsSameSession}
use Rattle.paged_desks.specs.session_state.Others.{EveryOther}
use Rattle.paged_desks.specs.session_state.Ties.{Behind}
use Rattle.paged_desks.specs.session_state.tidy_rules.Tidying.{IsNextTidy, Stage, behind, next_tidy}
use Rattle.paged_desks.proofs.call_parts.RunLemmas.{core_is}
use Rattle.paged_desks.specs.Calls.{IsAside}
use Rattle.paged_desks.specs.Machines.{IsReady, view_of}
use Rattle.paged_desks.specs.Parts.{HasGoneWhere}
use Rattle.paged_desks.specs.declared.machine.PagedMachine.{PagedMachine}
use Rattle.paged_desks.proofs.EndingLemmas.{Grounds}
use Rattle.paged_calls.specs.Steps.{IsStill}
use Rattle.paged_calls.specs.Tidyings.{HasTidied, IsTidyingTo, is_tidying}
use Rattle.paged_calls.proofs.EventLemmas.{paging_structure}
use Rattle.paged_calls.proofs.GrowthStands.{IsMissed, IsOneChange, all_is, entered_shrink, made_missed_where, made_one, miss_run, miss_structure, miss_tidying, no_log_shrink, ready_one, shrink_of, tidying_shrink}
use Rattle.paged_calls.proofs.MadeLemmas.{made_both, made_come, made_more, made_still}
use Rattle.paged_calls.proofs.TidyEvents.{paging_writes, tidying_paging}
use Rattle.paged_calls.proofs.TidyRules.{is_write, next_tidy_as, tidies_calm, tidies_join, tidies_one}

-- ## Which events come by

miss_writes : (es : List Event) → AreMisses es → any is_write (events_of es) ≡ false
miss_writes [] k = refl
miss_writes (told.Miss w ∷ es) k = miss_writes es k
miss_writes (_ ∷ es) k = absurd k

-- nothing was seen but misses
pub missed_quiet : (v w : View) → IsQuietTo v w → IsMissed 61 v w
missed_quiet v w k = record { misses = k.misses; are_misses = k.are_misses; few = k.few; given = k.given; seen = k.seen }

-- the change is the next one of its kind
next_one : (own : ℕ) (g : Opening) (s : State) (key : ℕ) (at : Stage) (w : ℕ) (e : Event) → IsShrinkBy w e → next_tidy own g s key at ≡ Some (event_of e) → IsNextTidy own g s key at (event_of e)
next_one own g s key at w (told.Purge v p keys) k n = n
next_one own g s key at w (told.Join v l r q) k n = n
next_one own g s key at w (told.Drop v c) k n = n
next_one own g s key at w _ k n = absurd k

-- from each state by which a tidying goes on, misses and this change lead there
module _ (own : ℕ) (g : Opening) (key : ℕ) (s : State) (here there : Stage) (first later : List Event) (are_first : AreMisses first) (are_later : AreMisses later) (e : Event) (k : IsShrinkBy own e) where
  pub tidies_all : next_tidy own g s key here ≡ Some (event_of e) → behind s here (event_of e) ≡ there → IsTidyingTo own key here there g s (events_of (first ++ e ∷ later))
  tidies_all n b = subst (IsTidyingTo own key here there g s) (sym (all_is own g s first later are_first are_later e))
      (tidies_join own g key here here there s (events_of first) (event_of e ∷ events_of later) (tidies_calm own g key s here (events_of first) (miss_structure first are_first) (miss_writes first are_first))
      (subst (λ (t : State). IsTidyingTo own key here there g t (event_of e ∷ events_of later)) (sym (miss_run g s first are_first))
      (tidies_join own g key here there there s (event_of e ∷ []) (events_of later) (tidies_one own g key here there s (event_of e) (next_one own g s key here own e k n) b)
      (tidies_calm own g key (core.run g s (event_of e ∷ [])) there (events_of later) (miss_structure later are_later) (miss_writes later are_later)))))

-- ## One change

module _ (l : Grounds) {D : Type 0} (story : D → Story) (m n : PagedMachine D) (a : IsAside m n) (same : IsSameSession m.machine.work.session n.machine.work.session) (ready : IsReady story m) (key : ℕ) (here there : At)
    (c : IsTidied key here there (view_of m) (view_of n) m.machine.work.session n.machine.work.session m.machine.work.log n.machine.work.log (story m.machine.work.disk) (story n.machine.work.disk)) where
  abbrev own : ℕ
  own = m.machine.work.session.own

  one : IsOneChange own (view_of m) (view_of n) m.machine.work.log n.machine.work.log (story m.machine.work.disk) (story n.machine.work.disk)
  one = record {
    event = c.event;
    first = c.first;
    later = c.later;
    are_first = c.are_first;
    are_later = c.are_later;
    few = c.few;
    given = c.given;
    seen = c.seen;
    met = c.met;
    happened = c.happened;
    enters_as = shrink_of own (opening (view_of m).given) (state (view_of m)).core c.event c.by c.met;
    entered = entered_shrink own c.event c.by;
    unlogged = no_log_shrink own c.event c.by;
    entry = c.entry;
    entry_is = c.entry_is;
    after = c.after;
    stands = c.stands;
    keeps = c.keeps;
    stays = c.stays;
  }

  pub ready_tidied : EveryOther → EveryStanding → SeatFits n.machine → n.machine.work.session.works ≡ true → Holds (shape n.machine) (view_of n) n.machine.work.session n.machine.work.log → IsReady story n
  ready_tidied = ready_one l story m n a same ready one

  -- in each run
  room : (g : Opening) (xs : List Done) (first : List happening.Event) → Behind g xs first (view_of m) → IsTidyingTo own key (stage_of here) (stage_of there) g (behind_first g xs first) (events_of (c.first ++ c.event ∷ c.later))
  room g xs first b = tidies_all own g key (behind_first g xs first) (stage_of here) (stage_of there) c.first c.later c.are_first c.are_later c.event c.by next now
    where
      core_at : (state (view_of m)).core ≡ behind_first g xs first
      core_at = core_is l.reached l.needs g xs first (view_of m) b

      next : next_tidy own g (behind_first g xs first) key (stage_of here) ≡ Some (event_of c.event)
      next = ap (λ (t : State). next_tidy own g t key (stage_of here)) (sym core_at)
          ∙ (sym (next_tidy_as (opening (view_of m).given) g (sym b.opens.format) (sym b.opens.locks) (sym b.opens.workers) (sym b.opens.joined) (state (view_of m)).core own key (stage_of here)) ∙ c.next)

      now : behind (behind_first g xs first) (stage_of here) (event_of c.event) ≡ stage_of there
      now = ap (λ (t : State). behind t (stage_of here) (event_of c.event)) (sym core_at) ∙ sym c.now

  pub made_tidied : ((d : D) → IsLawful (story d)) → n.machine.work.session.is_half_aborted ≡ m.machine.work.session.is_half_aborted → HasTidied story key here there 62 m n
  unfolding one
  made_tidied = made_one l story m n a same ready one is_tidying (IsTightAround key) (λ own g s es. IsTidyingTo own key (stage_of here) (stage_of there) g s es) (miss_tidying own) (tidying_shrink own c.event c.by) room

-- ## What changes nothing

module _ (l : Grounds) {D : Type 0} (story : D → Story) (lawful : (d : D) → IsLawful (story d)) (key : ℕ) where
  abbrev to : (here there : At) → (own : ℕ) → Opening → State → List happening.Event → Type 0
  to here there own g s es = IsTidyingTo own key (stage_of here) (stage_of there) g s es

  pub tidied_none : (here : At) (m u : PagedMachine D) → IsStill story m u → HasTidied story key here here 0 m u
  tidied_none here m u s = made_still l story lawful is_tidying (IsTightAround key) (to here here) m u (λ g t. tidies_calm m.machine.work.session.own g key t (stage_of here) [] refl refl) s

  pub tidied_missed : (here : At) (most : ℕ) (m n : PagedMachine D) → IsAside m n → IsMissed most (view_of m) (view_of n) → n.machine.work ≡ m.machine.work → HasTidied story key here here most m n
  tidied_missed here most m n a q e = made_missed_where l story lawful m n a key most q e is_tidying (IsTightAround key) (to here here) (miss_tidying m.machine.work.session.own)
      (λ g s es k. tidies_calm m.machine.work.session.own g key s (stage_of here) (events_of es) (miss_structure es k) (miss_writes es k))

  -- pages came
  pub tidied_come : (here : At) (most : ℕ) (m n : PagedMachine D) → HasGoneWhere story (IsTightAround key) most m n → HasTidied story key here here most m n
  tidied_come here most m n g = made_come l story lawful is_tidying (IsTightAround key) (to here here) most m n (tidying_paging m.machine.work.session.own)
      (λ h s es k. tidies_calm m.machine.work.session.own h key s (stage_of here) (events_of es) (paging_structure es k) (paging_writes es k)) g

  -- one behind the other
  pub tidied_then : (here mid there : At) (a b : ℕ) (m u n : PagedMachine D) → HasTidied story key here mid a m u → HasTidied story key mid there b u n → HasTidied story key here there (a + b) m n
  tidied_then here mid there a b m u n d e = made_both l story lawful is_tidying (IsTightAround key) (to here mid) (to mid there) (to here there) a b m u n d e
      (λ g xs first s x y. tidies_join m.machine.work.session.own g key (stage_of here) (stage_of mid) (stage_of there) (behind_first g xs first) (events_of d.events) (events_of e.events) x y)

pub tidied_up : {D : Type 0} (story : D → Story) (key : ℕ) (here there : At) (a b : ℕ) (m n : PagedMachine D) → a ≤ b → HasTidied story key here there a m n → HasTidied story key here there b m n
tidied_up story key here there a b m n up d = made_more story is_tidying (IsTightAround key) (λ own g s es. IsTidyingTo own key (stage_of here) (stage_of there) g s es) a b m n up d
