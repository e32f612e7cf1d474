-- What the seat sees where nobody else steps, and what it is in a run.
use Rattle.std.proofs.Common.{◌≡◌, ◌≤◌, ◌<◌, ℕ, true, List, [], ◌∷◌, ◌++◌, refl, sym, ap, subst, ◌∙◌, append-nil}
use Rattle.btree_descent.specs.core_state.Needs.{may}
use Rattle.engine_calls.specs.core_calls.Room.{free_list, frees_from}
use Rattle.btree_descent.specs.core_state.Steps.{happens}
use Rattle.btree_descent.specs.row_words.declared.event.Event.{Event}
use Rattle.btree_descent.specs.row_words.declared.given.Given.{Given}
use Rattle.btree_descent.specs.row_words.Moments.{Moment, event_of, events_of}
use Rattle.btree_descent.specs.row_words.Openings.{opening}
use Rattle.btree_descent.specs.row_words.Sealed.{begun, run, stepped}
use Rattle.btree_descent.proofs.row_words.SealedLemmas.{run_append}
use Rattle.btree_descent.specs.rows_trait.declared.view.View.{View}
use Rattle.btree_descent.specs.rows_trait.Views.{Shape, after_all, may as plays, state}
use Rattle.btree_descent.specs.rows_trait.Turns.{Goes}
use Rattle.btree_descent.specs.lean_proto.Paging.{IsResident}

-- a seat acts for everyone
pub acts : (z : Shape) (v : View) (w : ℕ) → z.alone ≡ true → plays z.alone v w ≡ true
acts z v w alone = ap (λ b. plays b v w) alone

-- it has seen its own events alone
pub goes_seen : (z : Shape) (v w : View) (es : List Event) → z.alone ≡ true → Goes z v es w → w.seen ≡ v.seen ++ es
goes_seen z v w es alone g = g.seen ∙ ap (λ ys. ys ++ es) (ap (λ ys. v.seen ++ ys) (g.quiet alone) ∙ append-nil v.seen)

-- the moment after is the moment before with these
pub goes_state : (z : Shape) (v w : View) (es : List Event) → z.alone ≡ true → Goes z v es w → state w ≡ run v.given (state v) es
goes_state z v w es alone g = (λ i. after_all (g.given i) (goes_seen z v w es alone g i)) ∙ run_append v.given (begun v.given) v.seen es

-- so where these were seen, whoever stepped
pub seen_state : (v w : View) (es : List Event) → w.given ≡ v.given → w.seen ≡ v.seen ++ es → state w ≡ run v.given (state v) es
seen_state v w es given seen = (λ i. after_all (given i) (seen i)) ∙ run_append v.given (begun v.given) v.seen es

-- what an event makes of the core, where its need is met
pub met_core : (v : Given) (m : Moment) (e : Event) → may (opening v) m.core (event_of e) ≡ true → (stepped v m e).core ≡ happens (opening v) m.core (event_of e)
unfolding stepped
met_core v m e h = rw h refl

-- each page stands in the frame of its own number still, where no page moved
pub resident_on : (z : Shape) (v w : View) → w.given ≡ v.given → (state w).core.place ≡ (state v).core.place → IsResident z v → IsResident z w
resident_on z v w given place r = record {
  room = subst (λ k. (opening k).format.pages ≤ z.sizes.frames) (sym given) r.room;
  hot = λ p lt. ap (λ k. k p) place ∙ r.hot p (subst (λ k. p < (opening k).format.pages) given lt);
}

-- the free pages are the same, where no page changed
pub free_same : (v w : View) (free : List ℕ) → w.given ≡ v.given → (state w).core.page ≡ (state v).core.page → free ≡ free_list (opening v.given) (state v).core → free ≡ free_list (opening w.given) (state w).core
free_same v w free given page e = e ∙ (λ i. frees_from (λ p. (sym page i p).node) (opening (sym given i)).format.pages 0)

pub events_more : (es fs : List Event) → events_of (es ++ fs) ≡ events_of es ++ events_of fs
events_more [] fs = refl
events_more (e ∷ es) fs = ap (λ z. event_of e ∷ z) (events_more es fs)
