-- What a del at once does, by answer.
use Rattle.std.specs.Prelude.{◌≡◌, ℕ, None, Result, Ok, Err}
use Rattle.lean_disk.specs.Story.{Story}
use Rattle.row_changes.specs.session_state.row_words.Openings.{opening}
use Rattle.row_changes.specs.session_state.rows_trait.declared.view.View.{View}
use Rattle.row_changes.specs.session_state.rows_trait.Views.{state}
use Rattle.row_changes.specs.session_state.worker_log.Logs.{Log}
use Rattle.row_changes.specs.session_state.declared.session.Session.{Session}
use Rattle.row_changes.specs.Dels.{Dels}
use Rattle.row_changes.specs.declared.ways.Unmade.{Unmade}
use Rattle.row_tidying.specs.tidy_rules.Tidying.{Stage, next_tidy}
use Rattle.row_walks.specs.declared.at_once.AtOnce.{AtOnce}
use Rattle.row_walks.specs.declared.at_once.AtOnce.TheVariants as at_once

-- no change of the tree is to be made before the key is changed
abbrev pub NothingToTidy : (own key : ℕ) → View → Type 0
NothingToTidy own key v = next_tidy own (opening v.given) (state v).core key Stage.Before ≡ None

-- nothing was done
pub record IsUndone (v w : View) (same : Type 0) : Type 0 where
  pub given : w.given ≡ v.given
  pub seen : w.seen ≡ v.seen
  pub unchanged : same

-- The tree was left as the rules have it, and the key's value was taken away, or there was none; or nothing was done; or it was refused as any del.
abbrev pub DelsAtOnce : Result AtOnce Unmade → (key : ℕ) → (v w : View) → (x : Session) → (was is : Log) → (old new : Story) → (same same_disk : Type 0) → Type 0
DelsAtOnce (Ok (at_once.Done before)) key v w x was is old new same same_disk = NothingToTidy x.own key v × Dels (Ok before) x.own v w key was is old new same same_disk
DelsAtOnce (Ok at_once.MayBeThin) key v w x was is old new same same_disk = IsUndone v w same
DelsAtOnce (Err why) key v w x was is old new same same_disk = Dels (Err why) x.own v w key was is old new same same_disk
