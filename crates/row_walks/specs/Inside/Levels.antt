-- What is found of one level of a key's way.
use Rattle.std.specs.Prelude.{◌≡◌, ◌<◌, ℕ, suc, true, false, Some, None}
use Rattle.row_changes.specs.session_state.core_state.Events as happening
use Rattle.row_changes.specs.session_state.row_words.Openings.{opening}
use Rattle.row_changes.specs.session_state.rows_trait.declared.view.View.{View}
use Rattle.row_changes.specs.session_state.rows_trait.Views.{state}
use Rattle.row_tidying.specs.tidy_rules.Tidying.{is_thin, join_under, page_at}
use Rattle.row_tidying.specs.Changes.{CanJoin}
use Rattle.row_walks.specs.Stages.{IsNeighbour}
use Rattle.row_walks.specs.declared.levels.Level.{Level}
use Rattle.row_walks.specs.declared.levels.Level.TheVariants as level

-- the level's page is thin, and the pages in these frames are joined then, under the one in the frame `d`
pub record IsJoinable (own : ℕ) (v : View) (key l a b d page : ℕ) : Type 0 where
  pub thin : is_thin (state v).core (page_at (opening v.given) (state v).core key l) ≡ true
  pub can : CanJoin v a b d page
  pub next : join_under own (opening v.given) (state v).core (page_at (opening v.given) (state v).core key l) (page_at (opening v.given) (state v).core key (suc l)) ≡ Some (happening.Event.Join own can.left page can.parent)
  pub found : page_at (opening v.given) (state v).core key (suc l) ≡ Some can.parent
  pub high : l < (opening v.given).format.levels

-- by what is found
abbrev pub IsFound : Level → (own : ℕ) → View → (key l : ℕ) → Type 0
IsFound level.Thick own v key l = is_thin (state v).core (page_at (opening v.given) (state v).core key l) ≡ false
IsFound level.Single own v key l =
    (is_thin (state v).core (page_at (opening v.given) (state v).core key l) ≡ true) × (join_under own (opening v.given) (state v).core (page_at (opening v.given) (state v).core key l) (page_at (opening v.given) (state v).core key (suc l)) ≡ None)
IsFound (level.Needs page) own v key l = IsNeighbour (opening v.given) (state v).core key l page
IsFound (level.Joins left right parent page) own v key l = IsJoinable own v key l left right parent page
