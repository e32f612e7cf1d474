-- A page is brought, or not, and the machine goes on, or stops.
use Rattle.std.proofs.Common.{◌≡◌, ◌∙◌, arith, refl, subst, sym, ℕ, true, false, Err}
use Rattle.core_covers.specs.Lows.{EveryLow, IsAllFlushed}
use Rattle.desk_parts.specs.core_state.States.{State}
use Rattle.lean_disk.specs.Story.{Story}
use Rattle.desk_parts.specs.page_provider.declared.refusal.Refusal.{Refusal}
use Rattle.desk_parts.specs.page_provider.Sequels.{EverySequel}
use Rattle.paged_rows.specs.Warms.{IsRefusedTo}
use Rattle.paged_rows.specs.declared.wanted.Wanted.{Wanted}
use Rattle.desk_parts.specs.row_opening.Openings.{EveryReached}
use Rattle.desk_parts.specs.row_words.declared.given.Given.{Given}
use Rattle.desk_parts.specs.row_words.Openings.{opening}
use Rattle.desk_parts.specs.rows_trait.Views.{state}
use Rattle.desk_parts.specs.session_desks.Syncs.{HasOpening}
use Rattle.paged_desks.specs.Machines.{IsNobodyInside, IsReady, pages, view_of}
use Rattle.paged_desks.specs.Pages.{goes_on}
use Rattle.paged_desks.specs.Inside.{IsOfPage, stopped_by}
use Rattle.paged_desks.specs.declared.machine.PagedMachine.{PagedMachine}
use Rattle.paged_desks.specs.declared.warming.Unwarmed.{Unwarmed}
use Rattle.paged_desks.proofs.Full.{never_full}
use Rattle.paged_desks.proofs.Moments.{rest_is}
use Rattle.paged_desks.proofs.Stops.{broken_is, going, not_full, of_page}
use Rattle.paged_desks.proofs.Warmth.{paged_is}

module _ {D : Type 0} (story : D → Story) (key : ℕ) (wanted : Wanted) (m n : PagedMachine D) where
  -- where no page is above what is flushed everywhere, there was a frame
  pub pages_refused : (why : Refusal) → EveryReached → EveryLow → EverySequel → IsReady story m → IsAllFlushed (opening (view_of m).given) (state (view_of m)).core → IsRefusedTo key wanted (pages m) why (pages n) → IsOfPage why
  pages_refused why reached lows seq ready low e =
      let moved = e.refused.moved in
      let rest = rest_is seq refl ready.keeps moved in
      let given = moved.goes.ran.given in
      let frames = moved.same.frames in
      let some = ready.frames in
      of_page key wanted (pages m) (pages n) why (paged_is ready) ready.well
      (not_full key wanted (pages n) why
      (λ on above held. never_full key wanted on above held (pages n) reached lows (subst HasOpening (sym given) ready.opens) (omega arith) (subst IsNobodyInside (sym rest.is) ready.outside)
      (subst (λ (q : Given × State). IsAllFlushed (opening q.0) q.1) (λ i. (sym given i, sym rest.is i)) low)) e.crowded) e

  module _ (o : PagedMachine D) (why : Refusal) (u : Unwarmed) (ready : IsReady story m) (e : IsRefusedTo key wanted (pages m) why (pages n)) (page : IsOfPage why) (by : u ≡ stopped_by why) (on : n.pager.broken ≡ false → o ≡ n) where
    calm : (A : Type 0) → goes_on {A = A} (Err u) ≡ true → n.pager.broken ≡ false
    calm A g = broken_is key wanted (pages m) (pages n) why ready.well e ∙ going A why u by page g

    pub stop_keeps : (A : Type 0) (P : PagedMachine D → Type 0) → (n.pager.broken ≡ false → P n) → goes_on {A = A} (Err u) ≡ true → P o
    stop_keeps A P r g = subst P (sym (on (calm A g))) (r (calm A g))
