-- The events of a session leave the core's floor as it was.
use Rattle.std.proofs.Common.{◌≡◌, ◌++◌, ℕ, Bool, true, false, cond, List, [], ◌∷◌, refl, sym, ap, ◌∙◌, true≢false}
use Rattle.std.proofs.lemmas.Bool.{and_parts}
use Rattle.map_model.specs.Lists.{all}
use Rattle.session_state.specs.image_model.Entries.{Entry}
use Rattle.session_state.specs.core_state.Openings.{Opening}
use Rattle.session_state.specs.core_state.States.{State}
use Rattle.session_state.specs.core_state.Needs.{may}
use Rattle.session_state.specs.core_state.Steps.{happens, put_back}
use Rattle.session_state.specs.row_words.declared.event.Event.{Event}
use Rattle.session_state.specs.row_words.declared.event.Event.TheVariants as told
use Rattle.session_state.specs.row_words.declared.event.Met.TheVariants as met
use Rattle.session_state.specs.row_words.declared.given.Given.{Given}
use Rattle.session_state.specs.row_words.Moments.{Moment, event_of}
use Rattle.session_state.specs.row_words.Openings.{opening}
use Rattle.session_state.specs.row_words.Sealed.{begun, run, stepped}
use Rattle.session_state.proofs.row_words.SealedLemmas.{run_append}
use Rattle.session_state.specs.rows_trait.declared.view.View.{View}
use Rattle.session_state.specs.rows_trait.Views.{after_all, state}
use Rattle.session_state.specs.Others.{Steps, is_of}

happens_floor : (own : ℕ) (g : Opening) (s : State) (e : Event) → is_of own e ≡ true → (happens g s (event_of e)).floor ≡ s.floor
happens_floor own g s (told.PutBack w p) o = at (s.worker w).changes
  where
    at : (cs : List Entry) → (put_back g s w p cs).floor ≡ s.floor
    at [] = refl
    at (c ∷ cs) = refl
happens_floor own g s (told.Sync n) o = absurd (true≢false (sym o))
happens_floor own g s (told.Cut x heads) o = absurd (true≢false (sym o))
happens_floor own g s (told.Next w p k (met.Pair j x)) o = refl
happens_floor own g s (told.Next w p k (met.Gap h)) o = refl
happens_floor own g s e o = refl

step_floor : (own : ℕ) (v : Given) (m : Moment) (e : Event) → is_of own e ≡ true → (stepped v m e).core.floor ≡ m.core.floor
unfolding stepped
step_floor own v m e o = go (may (opening v) m.core (event_of e))
  where
    go : (b : Bool) → (cond b (happens (opening v) m.core (event_of e)) m.core).floor ≡ m.core.floor
    go true = happens_floor own (opening v) m.core e o
    go false = refl

run_floor : (own : ℕ) (v : Given) (m : Moment) (es : List Event) → all (is_of own) es ≡ true → (run v m es).core.floor ≡ m.core.floor
run_floor own v m [] a = refl
run_floor own v m (e ∷ es) a = let p = and_parts (is_of own e) (all (is_of own) es) a in run_floor own v (stepped v m e) es p.1 ∙ step_floor own v m e p.0

-- the moment behind more that was seen
pub seen_more : (v w : View) (es : List Event) → w.given ≡ v.given → w.seen ≡ v.seen ++ es → state w ≡ run v.given (state v) es
seen_more v w es given seen = (λ i. after_all (given i) (seen i)) ∙ run_append v.given (begun v.given) v.seen es

pub steps_floor : (own : ℕ) (v w : View) → Steps own v w → (state w).core.floor ≡ (state v).core.floor
steps_floor own v w s = ap (λ (m : Moment). m.core.floor) (seen_more v w s.events s.given s.seen) ∙ run_floor own v.given (state v) s.events s.are_own
