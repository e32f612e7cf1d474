-- How many events a call has.
use Rattle.std.specs.Prelude.{◌≤◌, ◌+◌, ◌*◌, ℕ, length}
use Rattle.btree_descent.specs.row_words.Openings.{opening}
use Rattle.btree_descent.specs.rows_trait.declared.view.View.{View}
use Rattle.btree_descent.specs.rows_trait.Views.{Shape, state}
use Rattle.page_pool.specs.Counts.{hot_pages}
use Rattle.page_provider.specs.Moves.{Moved}
use Rattle.page_provider.specs.Providers.{Provider, Keeps}

-- A page has to come before it can cool: with each page that cools, which is two events, there is one hot page less. So over many
-- calls there are no more events than a few a call.
abbrev pub EveryFew : Type 0
EveryFew = (most : ℕ) (z : Shape) (v : View) (was : Provider) (u : View) (is : Provider) → Keeps z v was → (m : Moved most z v was u is)
    → length m.events + 2 * hot_pages (opening u.given) (state u).core ≤ 2 * hot_pages (opening v.given) (state v).core + 3 * most
