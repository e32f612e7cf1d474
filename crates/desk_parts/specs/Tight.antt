-- Where syncs stand among the events of a call that brings pages in.
use Rattle.std.specs.Prelude.{◌≡◌, ◌++◌, ℕ, true, false, List}
use Rattle.map_model.specs.Lists.{all}
use Rattle.call_parts.specs.core_state.Events.{Event}
use Rattle.call_parts.specs.core_state.Openings.{Opening}
use Rattle.call_parts.specs.core_calls.Fronts.{Done}
use Rattle.call_parts.specs.core_calls.LogEvents.{IsSync, IsTight, IsTightSomewhere, SyncsWhere}
use Rattle.call_parts.specs.engine_calls.Parts.{behind_first}
use Rattle.call_parts.specs.row_words.Openings.{opening}
use Rattle.call_parts.specs.rows_trait.declared.view.View.{View}
use Rattle.call_parts.specs.rows_trait.Views.{state}
use Rattle.call_parts.specs.session_state.Ties.{Behind}
use Rattle.call_parts.specs.Steps.{moves_page}

-- In each run in which the view has seen some first events of a call: with these events next, a sync stands only where a page of the key's way finds no frame.
abbrev pub SyncsIfTight : (key : ℕ) → View → List Event → Type 0
SyncsIfTight key v es = (g : Opening) (xs : List Done) (first : List Event) → Behind g xs first v → SyncsWhere (λ s. IsTight g s key) g (behind_first g xs first) false es

-- or where a page of some key's way finds none
abbrev pub SyncsIfTightSomewhere : View → List Event → Type 0
SyncsIfTightSomewhere v es = (g : Opening) (xs : List Done) (first : List Event) → Behind g xs first v → SyncsWhere (IsTightSomewhere g) g (behind_first g xs first) false es

-- in each such run the view u stands behind these events
abbrev pub StandsBehind : View → List Event → View → Type 0
StandsBehind v es u = (g : Opening) (xs : List Done) (first : List Event) → Behind g xs first v → Behind g xs (first ++ es) u

-- From the view v by some events to u, and by further ones from there.
pub record TightLaws (key : ℕ) (v u : View) (es : List Event) : Type 0 where
  -- pages that are moved
  pub moves : all moves_page es ≡ true → SyncsIfTight key v es
  -- a sync, where the view has seen a page of the key's way find no frame
  pub sync : (n : ℕ) → IsSync n es → IsTight (opening v.given) (state v).core key → SyncsIfTight key v es
  -- one behind the other
  pub join : (later : List Event) → StandsBehind v es u → SyncsIfTight key v es → SyncsIfTight key u later → SyncsIfTight key v (es ++ later)
  pub somewhere : SyncsIfTight key v es → SyncsIfTightSomewhere v es
  pub join_somewhere : (later : List Event) → StandsBehind v es u → SyncsIfTightSomewhere v es → SyncsIfTightSomewhere u later → SyncsIfTightSomewhere v (es ++ later)

abbrev pub EveryTight : Type 0
EveryTight = (key : ℕ) (v u : View) (es : List Event) → TightLaws key v u es
