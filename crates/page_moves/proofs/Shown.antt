-- The words of a row in which a page stands.
use Rattle.std.proofs.Common.{◌≡◌, ◌<◌, not, ℕ, true, sym, subst, ◌∙◌, true≢false}
use Rattle.std.proofs.lemmas.Bool.{lt-ltb, cond-true}
use Rattle.lean_proto.specs.core_state.States.{State, in_frame}
use Rattle.lean_proto.specs.core_state.Needs as core
use Rattle.lean_proto.specs.core_state.Needs.{is_empty_frame}
use Rattle.lean_proto.specs.core_state.Steps.{happens}
use Rattle.lean_proto.specs.core_paging.Paging.{Residence}
use Rattle.lean_proto.specs.row_words.declared.event.Event.{Event}
use Rattle.lean_proto.specs.row_words.declared.given.Given.{Given}
use Rattle.lean_proto.specs.row_words.Moments.{Moment, event_of}
use Rattle.lean_proto.specs.row_words.Openings.{opening}
use Rattle.lean_proto.specs.row_words.Sealed.{stepped, Shown}
use Rattle.lean_proto.specs.row_words.Words.{ShowsPage}
use Rattle.lean_proto.proofs.row_words.Stays.{below_false, not_true}
use Rattle.swips.specs.Hints.{mark}

-- what a row shows of the page that stands in it
pub page_shown : (v : Given) (m : Moment) (row p i x : ℕ) → row < (opening v).frames → p < (opening v).format.pages → in_frame (m.core.place p) row ≡ true → Shown v m row i x → ShowsPage m.core p i x
unfolding Shown
page_shown v m row p i x lt below stands s = (s.frame (lt-ltb row (opening v).frames lt)).page p below stands

-- a frame with a page is not empty
not_empty : (v : Given) (s : State) (row p : ℕ) → p < (opening v).format.pages → in_frame (s.place p) row ≡ true → is_empty_frame (opening v) s row ≡ true → ⊥
not_empty v s row p below stands e = true≢false (sym stands ∙ not_true (in_frame (s.place p) row) (below_false (opening v).format.pages (λ q. not (in_frame (s.place q) row)) e p below))

-- a row shows what its one page does
pub row_shown : (v : Given) (m : Moment) (row p i x : ℕ) → row < (opening v).frames → Residence (opening v) m.core → p < (opening v).format.pages → in_frame (m.core.place p) row ≡ true → ShowsPage m.core p i x → Shown v m row i x
unfolding Shown
row_shown v m row p i x lt r below stands shows = record {
  frame = λ t. record {
    page = λ q l at. subst (λ z. ShowsPage m.core z i x) (r.one p q row stands at) shows;
    empty = λ is e. absurd (not_empty v m.core row p below stands e);
  };
  lock = λ t. absurd (true≢false (sym (lt-ltb row (opening v).frames lt) ∙ t));
}

-- an empty row shows the mark
pub empty_shown : (v : Given) (m : Moment) (row i x : ℕ) → row < (opening v).frames → ((q : ℕ) → in_frame (m.core.place q) row ≡ true → ⊥) → (i ≡ 126 → x ≡ mark) → Shown v m row i x
unfolding Shown
empty_shown v m row i x lt none marked = record {
  frame = λ t. record { page = λ q l at. absurd (none q at); empty = λ is e. marked is };
  lock = λ t. absurd (true≢false (sym (lt-ltb row (opening v).frames lt) ∙ t));
}

-- the state behind an event that may happen
pub stepped_is : (v : Given) (m : Moment) (e : Event) → core.may (opening v) m.core (event_of e) ≡ true → (stepped v m e).core ≡ happens (opening v) m.core (event_of e)
unfolding stepped
stepped_is v m e met = cond-true (core.may (opening v) m.core (event_of e)) (happens (opening v) m.core (event_of e)) m.core met
