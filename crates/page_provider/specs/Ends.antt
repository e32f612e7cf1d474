-- How a call of the pager ends that is refused.
use Rattle.std.specs.Prelude.{◌≡◌, ◌||◌, ℕ, true, List}
use Rattle.btree_descent.specs.rows_trait.declared.view.View.{View}
use Rattle.btree_descent.specs.rows_trait.Views.{Shape}
use Rattle.page_provider.specs.declared.refusal.Refusal.{Refusal}
use Rattle.page_provider.specs.declared.refusal.Refusal.TheVariants as refusal
use Rattle.page_provider.specs.Moves.{KeepsPath, Moved}
use Rattle.page_provider.specs.Providers.{Provider}
use Rattle.page_provider.specs.Refusals.{Caused, IsOthers, breaks}

-- Pages may have cooled and left by then, none of the path; what was loaded since the call began shows why it refuses; and the pager is
-- broken where it was, or the device or a page has failed it.
pub record HasRefused (most : ℕ) (z : Shape) (path : List ℕ) (v : View) (was : Provider) (why : Refusal) (u : View) (is : Provider) : Type 0 where
  pub moved : Moved most z v was u is
  pub keeps : KeepsPath path v u
  pub broken : is.broken ≡ (was.broken || breaks why)
  pub cause : Caused v why u
  pub quiet : z.alone ≡ true → IsOthers why → ⊥
  pub earlier : why ≡ refusal.Broken → was.broken ≡ true
