-- What is known of numbers where rows begin, and of those that may come at a moment.
use Rattle.std.specs.Prelude.{◌≡◌, ◌≤◌, ◌<◌, ◌+◌, ◌*◌, ◌^◌, ℕ, max, true, List}
use Rattle.map_model.specs.Lists.{Has}
use Rattle.page_model.specs.Limits.{most_sessions}
use Rattle.btree_descent.specs.image_model.Entries.{Entry}
use Rattle.core_numbers.specs.Numbers as numbers
use Rattle.row_numbers.specs.Views.{Fits}
use Rattle.btree_descent.specs.row_words.declared.event.Event.{Event}
use Rattle.btree_descent.specs.row_words.declared.given.Given.{Given}
use Rattle.btree_descent.specs.row_words.Openings.{opening}
use Rattle.btree_descent.specs.row_words.Sealed.{begun}
use Rattle.btree_descent.specs.rows_trait.declared.view.View.{View}
use Rattle.btree_descent.specs.rows_trait.Views.{after_all, state}

-- the base fits its word, and as the rows began no number was above it that may not come
pub record AreNumbered (v : Given) : Type 0 where
  pub small : v.base < 2 ^ 64
  pub few : (opening v).workers ≤ most_sessions
  pub begun : numbers.AreNumbered v.base (opening v) (begun v).core

-- the next number of each worker that is open fits its word, also that of a record of whatever page
abbrev pub HaveRoom : View → Type 0
HaveRoom v = (w p : ℕ) → ((state v).core.worker w).is_open ≡ true → Fits v w p

-- no clock is above the base and what sessions may count from 2^62 on
abbrev pub AreClocksLow : View → Type 0
AreClocksLow v = (w : ℕ) → ((state v).core.worker w).clock ≤ max v.given.base (2 ^ 62 + 66 * most_sessions)

-- at each moment that can come no entry of a worker has a number above its clock, and none is of a transaction that is still to come
abbrev pub AreClocked : Given → Type 0
AreClocked v = (es : List Event) (r : Entry) → Has r (after_all v es).core.entries → (r.number ≤ ((after_all v es).core.worker r.log).clock) × (r.txn ≤ ((after_all v es).core.worker r.log).txn)
