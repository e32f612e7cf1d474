-- What is known of numbers where rows begin, and behind what a seat has seen.
use Rattle.std.specs.Prelude.{◌≡◌, ◌≤◌, ◌<◌, ◌+◌, ◌*◌, ◌^◌, ℕ, suc, max, true}
use Rattle.page_model.specs.Limits.{most_sessions}
use Rattle.core_numbers.specs.Numbers as numbers
use Rattle.core_numbers.specs.Numbers.{AreNumbered, AreUpTo}
use Rattle.rows_trait.specs.row_words.declared.given.Given.{Given}
use Rattle.rows_trait.specs.row_words.Moments.{events_of, first_state}
use Rattle.rows_trait.specs.row_words.Openings.{opening}
use Rattle.rows_trait.specs.row_words.Sealed.{begun}
use Rattle.rows_trait.specs.declared.view.View.{View}
use Rattle.rows_trait.specs.Views.{AreTame, state}

-- where rows begin
abbrev pub EveryBegun : Type 0
EveryBegun = (v : Given) → AreUpTo (first_state v) v.base → numbers.AreTame (opening v) (first_state v) (events_of v.before) → AreNumbered v.base (opening v) (begun v).core

-- behind what a seat has seen
abbrev pub EveryView : Type 0
EveryView = (v : View) → AreNumbered v.given.base (opening v.given) (begun v.given).core → AreTame v.given (begun v.given) v.seen → AreNumbered v.given.base (opening v.given) (state v).core

-- the next number of a worker that is open, of an end, and of a record of page p
pub record Fits (v : View) (w p : ℕ) : Type 0 where
  pub end : suc ((state v).core.worker w).clock < 2 ^ 63
  pub page : suc (max ((state v).core.worker w).clock ((state v).core.page p).gsn) < 2 ^ 63

abbrev pub EveryFit : Type 0
EveryFit = (v : View) (w p : ℕ) → (opening v.given).workers ≤ most_sessions → AreNumbered v.given.base (opening v.given) (state v).core → ((state v).core.worker w).is_open ≡ true → Fits v w p

-- a worker's clock, open or not: the number of a sync
abbrev pub EveryClock : Type 0
EveryClock = (v : View) (w : ℕ) → (opening v.given).workers ≤ most_sessions → AreNumbered v.given.base (opening v.given) (state v).core → ((state v).core.worker w).clock ≤ max v.given.base (2 ^ 62 + 66 * most_sessions)
