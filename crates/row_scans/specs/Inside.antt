-- Words of private functions: which entries a walk has come to.
use Rattle.std.specs.Prelude.{◌≡◌, ◌⊎◌, ◌<◌, ◌%◌, ◌++◌, ℕ, true, List, [], ◌∷◌}
use Rattle.map_model.specs.Lists.{Has}
use Rattle.page_model.specs.Nodes.{holds}
use Rattle.row_changes.specs.session_state.core_index.Walks.{met_keys}
use Rattle.row_changes.specs.session_state.core_state.Needs.{may}
use Rattle.row_changes.specs.session_state.core_state.States.{is_hot}
use Rattle.row_changes.specs.session_state.row_words.declared.event.Event.TheVariants.{Next}
use Rattle.row_changes.specs.session_state.row_words.Moments.{event_of}
use Rattle.row_changes.specs.session_state.row_words.Openings.{opening}
use Rattle.row_changes.specs.session_state.rows_trait.declared.view.View.{View}
use Rattle.row_changes.specs.session_state.rows_trait.Views.{state}
use Rattle.row_changes.specs.Ways.{HasMetCold}
use Rattle.row_changes.specs.session_state.declared.session.Session.{Session}
use Rattle.row_scans.specs.Meets.{IsInLeaf, told_of}
use Rattle.row_scans.specs.declared.looks.Looked.{Looked}
use Rattle.row_scans.specs.declared.looks.Looked.TheVariants as looked
use Rattle.row_scans.specs.declared.meets.Met.{Met}

-- of the entries that a walk from the key on meets in its leaf, which is hot, these are the first
pub record IsFirst (v : View) (key : ℕ) (keys : List ℕ) : Type 0 where
  pub page : ℕ
  pub below : page < (opening v.given).format.pages
  pub hot : is_hot ((state v).core.place page) ≡ true
  pub leaf : holds ((state v).core.page page).node key ≡ true
  pub rest : List ℕ
  pub whole : met_keys (opening v.given).format key ((state v).core.page page).node.pairs ≡ keys ++ rest

-- or there are none yet, wherever the leaf is
abbrev pub AreFirst : View → (key : ℕ) → List ℕ → Type 0
AreFirst v key keys = (keys ≡ []) ⊎ IsFirst v key keys

-- the session has their rows
abbrev pub AreHeld : Session → List ℕ → Type 0
AreHeld x keys = (k : ℕ) → Has k keys → Has (k % x.held.count) x.held.rows

-- The walk was seen next. These are all the entries that it met.
pub record HasWalked (own : ℕ) (v w : View) (key : ℕ) (keys : List ℕ) (m : Met) : Type 0 where
  pub page : ℕ
  pub given : w.given ≡ v.given
  pub seen : w.seen ≡ v.seen ++ Next own page key (told_of m) ∷ []
  pub met : may (opening v.given) (state v).core (event_of (Next own page key (told_of m))) ≡ true
  pub whole : met_keys (opening v.given).format key ((state v).core.page page).node.pairs ≡ keys
  pub leaf : IsInLeaf (opening v.given) (state v).core page key m

-- nothing was seen, and this is the next entry on the way
pub record IsNextEntry (v w : View) (key at : ℕ) (keys : List ℕ) : Type 0 where
  pub given : w.given ≡ v.given
  pub seen : w.seen ≡ v.seen
  pub first : IsFirst v key (keys ++ at ∷ [])

-- by what it finds; that a page is not hot comes before all rows
abbrev pub Looks : Looked → (own : ℕ) → (v w : View) → (key : ℕ) → (keys : List ℕ) → (same : Type 0) → Type 0
Looks (looked.Met m) own v w key keys same = HasWalked own v w key keys m
Looks (looked.Untaken at) own v w key keys same = IsNextEntry v w key at keys × same
Looks (looked.Cold page) own v w key keys same = HasMetCold key page v w × (keys ≡ []) × same
