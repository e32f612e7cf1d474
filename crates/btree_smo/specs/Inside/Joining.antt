-- What is known on the way of a join: words of its private functions.
use Rattle.std.specs.Prelude.{◌≡◌, ◌≢◌, ◌≤◌, ◌<◌, ◌^◌, ◌+◌, ◌⊎◌, ℕ, Bool, true, length}
use Rattle.page_model.specs.Pairs.{without}
use Rattle.page_model.specs.Page as stored
use Rattle.page_model.specs.Page.{with_pairs}
use Rattle.disk_image.specs.btree_node.Structure.{joined, freed}
use Rattle.btree_descent.specs.core_state.Events as happening
use Rattle.btree_descent.specs.core_state.Needs as core
use Rattle.btree_descent.specs.row_words.declared.event.Event.TheVariants.{Join}
use Rattle.btree_descent.specs.row_words.Openings.{opening}
use Rattle.btree_descent.specs.rows_trait.declared.view.View.{View}
use Rattle.btree_descent.specs.rows_trait.Views.{Shape, state, may}
use Rattle.disk_image.specs.log_record.declared.record.Record.{Record}
use Rattle.disk_image.specs.log_record.declared.record.Pairs.{Pairs}
use Rattle.disk_image.specs.log_record.declared.record.Body.TheVariants as body
use Rattle.disk_image.specs.log_record.Model.{model_pairs}
use Rattle.btree_descent.specs.Known.{IsSound}
use Rattle.btree_descent.specs.declared.put.TheConstants.{LAST_NUMBER}
use Rattle.row_image.specs.Images.{written}
use Rattle.btree_smo.specs.declared.join.Joining.{Joining}
use Rattle.btree_smo.specs.declared.outcome.Outcome.{Outcome}
use Rattle.btree_smo.specs.declared.outcome.Outcome.TheVariants.{Full, Stale, Moved, Latched, RowSpent, ClockSpent}
use Rattle.btree_smo.specs.Joins.{IsCrowded, IsUnfit}
use Rattle.btree_smo.specs.Splits.{IsSpent}
use Rattle.held_rows.specs.Rows.{Stood, HoldsThree}
use Rattle.held_rows.specs.Latching.{Refused}
use Rattle.btree_smo.specs.Inside.{StandsIn, IsLeft, Leads}

-- ## Tests of nodes

-- the parent leads to the left node, in frame a, and to the right one, in frame b, which are neighbours and fit together
pub record CanJoin (a b : ℕ) (left right parent : stored.Page) : Type 0 where
  pub leads_left : Leads left.node.low a parent
  pub leads_right : Leads right.node.low b parent
  pub beside : left.node.high ≡ right.node.low
  pub few : length left.node.pairs + length right.node.pairs ≤ 45
  pub left_small : left.gsn < LAST_NUMBER
  pub right_small : right.gsn < LAST_NUMBER
  pub parent_small : parent.gsn < LAST_NUMBER

-- why not, by outcome, where the frames are a, b and d
abbrev pub CantJoin : (a b d : ℕ) → (left right parent : stored.Page) → Outcome → Type 0
CantJoin a b d left right parent (Full row) = (row ≡ a) × (45 < length left.node.pairs + length right.node.pairs)
CantJoin a b d left right parent (Stale row) = ((row ≡ b) × (left.node.high ≢ right.node.low)) ⊎ ((row ≡ d) × ((Leads left.node.low a parent → ⊥) ⊎ (Leads right.node.low b parent → ⊥)))
CantJoin a b d left right parent ClockSpent = (LAST_NUMBER ≤ left.gsn) ⊎ ((LAST_NUMBER ≤ right.gsn) ⊎ (LAST_NUMBER ≤ parent.gsn))
CantJoin a b d left right parent _ = ⊥

-- ## Held rows

-- the three pages as they stand in their rows, and the right one as it is written; it can be joined to the left one
pub record IsJoining (v : View) (worker a b d : ℕ) (l : Joining) : Type 0 where
  pub left : StandsIn v.given (state v) a l.left
  pub right : StandsIn v.given (state v) b l.right
  pub parent : StandsIn v.given (state v) d l.parent
  pub image : l.image ≡ written (state v).core l.right.number l.right.generation
  pub can : CanJoin a b l.left l.right l.parent
  pub met : core.may (opening v.given) (state v).core (happening.Event.Join worker l.left.number l.right.number l.parent.number) ≡ true
  pub young : ((state v).core.worker worker).clock < 2 ^ 62

-- it can't, or a row was not to be had
abbrev pub NotFit : Bool → (a b d : ℕ) → View → Outcome → View → Type 0
NotFit alone a b d v (Full row) w = Stood alone v w × IsCrowded a b row w.given (state w)
NotFit alone a b d v (Stale row) w = Stood alone v w × IsUnfit a b d row w.given (state w)
NotFit alone a b d v ClockSpent w = Stood alone v w × IsSpent a b d w.given (state w)
NotFit alone a b d v (Moved m) w = Refused alone v w
NotFit alone a b d v (Latched l) w = Refused alone v w
NotFit alone a b d v (RowSpent row) w = Refused alone v w
NotFit alone a b d v _ w = ⊥

-- the record of the join, with these numbers
pub record IsRecord (txn number : ℕ) (l : Joining) (r : Record) : Type 0 where
  pub txn_is : r.txn ≡ txn
  pub number_is : r.gsn ≡ number
  pub pairs : Pairs
  pub body_is : r.body ≡ body.Join (record { page = l.left.number; prev = l.left.gsn }) (record { page = l.right.number; prev = l.right.gsn }) (record { page = l.parent.number; prev = l.parent.gsn }) l.right.node.low l.right.node.high pairs
  pub pairs_are : model_pairs pairs ≡ l.image.node.pairs

-- the three pages once the first two were joined, with the number of the record and its log
abbrev pub left_after : stored.Page → stored.Page → (number log : ℕ) → stored.Page
left_after left right number log = record (joined left right) { gsn = number; last_log = log }

abbrev pub right_after : stored.Page → (number log : ℕ) → stored.Page
right_after right number log = record (freed right) { gsn = number; last_log = log }

abbrev pub parent_after : stored.Page → (sep number log : ℕ) → stored.Page
parent_after parent sep number log = record (with_pairs parent (without sep parent.node.pairs)) { gsn = number; last_log = log }

-- the nodes are those that the join leaves in the rows, which are held
pub record IsMerged (z : Shape) (v : View) (worker l r q a b d : ℕ) (left right parent : stored.Page) : Type 0 where
  pub three : HoldsThree z v a b d
  pub actor : may z.alone v worker ≡ true
  pub sound : IsSound v.given
  pub met : core.may (opening v.given) (state v).core (happening.Event.Join worker l r q) ≡ true
  pub young : ((state v).core.worker worker).clock < 2 ^ 62
  pub left_left : IsLeft z v (Join worker l r q) a left
  pub left_is : left.number ≡ l
  pub right_left : IsLeft z v (Join worker l r q) b right
  pub right_is : right.number ≡ r
  pub parent_left : IsLeft z v (Join worker l r q) d parent
  pub parent_is : parent.number ≡ q
