-- The walk in one leaf, behind the coming of the pages of its way.
use Rattle.std.proofs.Common.{◌≡◌, inl, inr, ◌≤◌, ◌+◌, ◌*◌, ℕ, true, List, length, Result, Ok, Err, ap, refl, sym, subst, arith, true≢false}
use Rattle.std.proofs.lemmas.List.{length-append}
use Rattle.lean_disk.specs.Story.{Story}
use Rattle.map_model.specs.declared.call.Refusal.{Refusal}
use Rattle.map_model.specs.declared.call.Refusal.TheVariants as refusal
use Rattle.paged_calls.specs.engine_trait.declared.unserved.Unanswered.TheVariants as unanswered
use Rattle.paged_calls.specs.engine_trait.declared.unserved.Unserved.{Unserved}
use Rattle.paged_calls.specs.engine_trait.declared.unserved.Unserved.TheVariants as unserved
use Rattle.paged_calls.specs.page_pool.Counts.{hot_pages}
use Rattle.paged_calls.specs.row_words.declared.event.Event.{Event}
use Rattle.paged_calls.specs.row_words.Openings.{opening}
use Rattle.paged_calls.specs.rows_trait.Views.{after_all}
use Rattle.paged_calls.specs.rows_trait.declared.view.View.{View}
use Rattle.paged_calls.specs.session_state.declared.session.Session.{Session}
use Rattle.paged_calls.specs.row_changes.declared.ways.Cold.{Cold}
use Rattle.row_scans.specs.Meets.{HasMet, HasMetConflict, HasMetSpent, IsButRows, IsCut, Meets}
use Rattle.row_scans.specs.declared.meets.Met.{Met}
use Rattle.row_scans.specs.declared.meets.Unmet.{Unmet}
use Rattle.row_scans.specs.declared.meets.Unmet.TheVariants as unmet
use Rattle.paged_calls.specs.paged_desks.Calls.{IsBeside, unserved_of, works_behind}
use Rattle.paged_calls.specs.paged_desks.Machines.{IsReady, view_of}
use Rattle.paged_calls.specs.paged_desks.Pages.{goes_on, hot_in}
use Rattle.paged_calls.specs.paged_desks.Parts.{HasGone}
use Rattle.paged_calls.specs.paged_desks.declared.machine.PagedMachine.{PagedMachine}
use Rattle.paged_calls.specs.paged_desks.declared.warming.Unwarmed.{Unwarmed}
use Rattle.paged_calls.specs.paged_desks.declared.warming.Unwarmed.TheVariants as stopped
use Rattle.paged_calls.specs.Steps.{HasCome, IsStill, ReadsWarm}
use Rattle.paged_scans.specs.Steps.{MeetsWarm, Then, most_a_come}

-- ## How many events

-- the same pages are hot where the same was seen
hot_still : {D : Type 0} (m u : PagedMachine D) → (view_of u).given ≡ (view_of m).given → (view_of u).seen ≡ (view_of m).seen → hot_in u ≡ hot_in m
hot_still m u given seen = λ i. hot_pages (opening (given i)) (after_all (given i) (seen i)).core

-- where no page came
pub few_none : {D : Type 0} (story : D → Story) (key : ℕ) (m : PagedMachine D) (come : HasCome story key m m) → length come.events + 2 * hot_in m ≤ 2 * hot_in m + most_a_come m
few_none story key m come =
    let a = ap (λ (es : List Event). length es) come.part.seen in
    let b = length-append (view_of m).seen come.events in
    omega arith

-- where pages came
pub few_come : {D : Type 0} (story : D → Story) (key : ℕ) (m u n : PagedMachine D) → IsStill story m u → HasGone story key (most_a_come u) u n → (come : HasCome story key m n) → length come.events + 2 * hot_in n ≤ 2 * hot_in m + most_a_come m
few_come story key m u n s gone come =
    let a = ap (λ (es : List Event). length es) come.part.seen in
    let b = length-append (view_of m).seen come.events in
    let c = ap (λ (es : List Event). length es) gone.paged.seen in
    let d = length-append (view_of u).seen gone.paged.events in
    let e = ap (λ (es : List Event). length es) s.seen in
    let f = gone.paged.few in
    let h = hot_still m u s.given s.seen in
    let w = ap (λ (x : Session). x.workers) s.session in
    omega arith

-- ## By answer

-- where the pages of the way came before it
module _ {D : Type 0} (story : D → Story) (key : ℕ) (m u n : PagedMachine D) (come : HasCome story key m u) (few : length come.events + 2 * hot_in u ≤ 2 * hot_in m + most_a_come m) (ready : IsReady story u) (beside : IsBeside u n) (session : IsButRows u.machine.work.session n.machine.work.session) where
  then_is : (P : (between n : PagedMachine D) → Type 0) → P u n → Then story key P m n
  then_is P p = record { between = u; come = come; few = few; ready = ready; beside = beside; session = session; is = p }

  pub met_then : (x : Met) → HasMet m.machine.work.session.own (view_of u) (view_of n) key x → MeetsWarm story key (Ok x) m n
  met_then x k = then_is (λ a b. HasMet m.machine.work.session.own (view_of a) (view_of b) key x) k

  pub refused_then : (why : Refusal) (same : Type 0) → Meets (Err (unmet.Refused why)) m.machine.work.session.own (view_of u) (view_of n) key same → MeetsWarm story key (Err (unserved.Refused why)) m n
  refused_then (refusal.Conflict h) same k = then_is (λ a b. HasMetConflict m.machine.work.session.own (view_of a) (view_of b) key h) k
  refused_then refusal.RowSpent same k = inl (then_is (λ a b. HasMetSpent m.machine.work.session.own (view_of a) (view_of b) key) k)
  refused_then _ same k = absurd k

-- pages did not come all
pub unwarmed_as : {D : Type 0} (story : D → Story) (key : ℕ) (m n : PagedMachine D) (why : Unwarmed) → ReadsWarm story key (Err why) m n → MeetsWarm story key (Err (unserved_of why)) m n
unwarmed_as story key m n stopped.RowSpent r = inr r
unwarmed_as story key m n stopped.DiskFault r = r
unwarmed_as story key m n (stopped.Damaged page) r = r
unwarmed_as story key m n (stopped.Altered page) r = r

-- the machine works on where they may come again
pub ready_as : (A : Type 0) {D : Type 0} (story : D → Story) (n : PagedMachine D) (why : Unwarmed) → (goes_on {A = Unit {0}} (Err why) ≡ true → IsReady story n) → works_behind {A = A} (Err (unserved_of why)) ≡ true → IsReady story n
ready_as A story n stopped.RowSpent ready e = ready refl
ready_as A story n stopped.DiskFault ready e = absurd (true≢false (sym e))
ready_as A story n (stopped.Damaged page) ready e = absurd (true≢false (sym e))
ready_as A story n (stopped.Altered page) ready e = absurd (true≢false (sym e))

-- a walk tells of no fault
pub no_fault : (A : Type 0) (why : Refusal) (own key : ℕ) (v w : View) (same : Type 0) → Meets (Err (unmet.Refused why)) own v w key same → ◌≡◌ {A = Result A Unserved} (Err (unserved.Refused why)) (Err (unserved.Unanswered unanswered.DiskFault)) → ⊥
no_fault A why own key v w same k e = absurd (cc)

-- as another session's number names it
pub met_as : (a b : ℕ) (v w : View) (key : ℕ) (x : Met) → a ≡ b → HasMet a v w key x → HasMet b v w key x
met_as a b v w key x e k = subst (λ o. HasMet o v w key x) e k

pub meets_as : (r : Result Met Unmet) (a b : ℕ) (v w : View) (key : ℕ) (same : Type 0) → a ≡ b → Meets r a v w key same → Meets r b v w key same
meets_as r a b v w key same e k = subst (λ o. Meets r o v w key same) e k

-- and by another name of why it met nothing
pub meets_why : (p q : Unmet) (own : ℕ) (v w : View) (key : ℕ) (same : Type 0) → p ≡ q → Meets (Err p) own v w key same → Meets (Err q) own v w key same
meets_why p q own v w key same e k = subst (λ (r : Unmet). Meets (Err r) own v w key same) e k

pub cut_is : (p : Unmet) (cold : Cold) → p ≡ unmet.Cold cold → IsCut p
cut_is p cold e = subst IsCut (sym e) tt
