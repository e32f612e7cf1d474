-- What a seat has seen where nobody else steps.
use Rattle.std.proofs.Common.{◌≡◌, ◌∙◌, ◌++◌, Bool, true, List, [], ◌∷◌, ap, append-nil}
use Rattle.session_state.specs.core_state.Needs.{may}
use Rattle.session_state.specs.core_state.Steps.{happens}
use Rattle.session_state.specs.row_words.declared.event.Event.{Event}
use Rattle.session_state.specs.row_words.Moments.{event_of}
use Rattle.session_state.specs.row_words.Openings.{opening}
use Rattle.session_state.specs.row_words.Sealed.{begun}
use Rattle.session_state.proofs.row_words.SealedLemmas.{run_append}
use Rattle.session_state.specs.rows_trait.Turns.{Ran}
use Rattle.session_state.specs.rows_trait.Views.{after_all, state}
use Rattle.session_state.specs.rows_trait.declared.view.View.{View}
use Rattle.session_state.proofs.Moments.{met_core}

-- its own events alone
pub ran_seen : (alone : Bool) (v w : View) (es : List Event) → alone ≡ true → Ran alone v es w → w.seen ≡ v.seen ++ es
ran_seen alone v w es is r = r.seen ∙ ap (λ ys. v.seen ++ ys) (r.all is)

pub none_seen : (alone : Bool) (v w : View) → alone ≡ true → Ran alone v [] w → w.seen ≡ v.seen
none_seen alone v w is r = ran_seen alone v w [] is r ∙ append-nil v.seen

-- where it has seen none, it stands where it stood
pub still : (v w : View) → w.given ≡ v.given → w.seen ≡ v.seen → state w ≡ state v
still v w given seen i = after_all (given i) (seen i)

-- and the core behind one event whose need was met
pub seen_core : (v w : View) (e : Event) → w.given ≡ v.given → w.seen ≡ v.seen ++ e ∷ [] → may (opening v.given) (state v).core (event_of e) ≡ true → (state w).core ≡ happens (opening v.given) (state v).core (event_of e)
seen_core v w e given seen met =
    ap (λ m. m.core) ((λ i. after_all (given i) (seen i)) ∙ run_append v.given (begun v.given) v.seen (e ∷ [])) ∙ met_core v.given (state v) e met
