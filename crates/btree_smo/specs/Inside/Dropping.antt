-- What is known on the way of a drop: words of its private functions.
use Rattle.std.specs.Prelude.{◌≡◌, ◌<◌, ◌^◌, ◌+◌, ℕ, Bool, true, length}
use Rattle.page_model.specs.Page as stored
use Rattle.page_model.specs.Page.{word_at}
use Rattle.disk_image.specs.btree_node.Structure.{lowered, freed}
use Rattle.btree_descent.specs.core_state.Events as happening
use Rattle.btree_descent.specs.core_state.Needs as core
use Rattle.btree_descent.specs.row_words.declared.event.Event.TheVariants.{Drop}
use Rattle.btree_descent.specs.row_words.Openings.{opening}
use Rattle.btree_descent.specs.rows_trait.declared.view.View.{View}
use Rattle.btree_descent.specs.rows_trait.Views.{Shape, state, may}
use Rattle.disk_image.specs.log_record.declared.record.Record.{Record}
use Rattle.disk_image.specs.log_record.declared.record.Pairs.{Pairs}
use Rattle.disk_image.specs.log_record.declared.record.Body.TheVariants as body
use Rattle.disk_image.specs.log_record.Model.{model_pairs}
use Rattle.btree_descent.specs.Known.{IsSound}
use Rattle.btree_descent.specs.declared.put.TheConstants.{LAST_NUMBER}
use Rattle.row_image.specs.Images.{written}
use Rattle.btree_smo.specs.declared.drop_root.Dropping.{Dropping}
use Rattle.btree_smo.specs.declared.outcome.Outcome.{Outcome}
use Rattle.btree_smo.specs.declared.outcome.Outcome.TheVariants.{Stale, Moved, Latched, RowSpent, ClockSpent}
use Rattle.btree_smo.specs.Drops.{IsUnfit, IsSpent}
use Rattle.held_rows.specs.Rows.{Stood, HoldsTwo}
use Rattle.held_rows.specs.Latching.{Refused}
use Rattle.btree_smo.specs.Inside.{StandsIn, IsLeft}

-- the node is an inner one with one pair, which leads to this frame
pub record HasOne (frame : ℕ) (n : stored.Page) : Type 0 where
  pub inner : 0 < n.node.level
  pub one : length n.node.pairs ≡ 1
  pub word : word_at 0 n.node.pairs ≡ 2 ^ 63 + frame

-- the root and the page in the frame as they stand in their rows, and that page as it is written; it is the root's one child
pub record IsDropping (v : View) (worker frame : ℕ) (l : Dropping) : Type 0 where
  pub root : StandsIn v.given (state v) 0 l.root
  pub first : l.root.number ≡ 0
  pub child : StandsIn v.given (state v) frame l.child
  pub image : l.image ≡ written (state v).core l.child.number l.child.generation
  pub met : core.may (opening v.given) (state v).core (happening.Event.Drop worker l.child.number) ≡ true
  pub young : ((state v).core.worker worker).clock < 2 ^ 62
  pub root_small : l.root.gsn < LAST_NUMBER
  pub child_small : l.child.gsn < LAST_NUMBER

-- it is not, or a row was not to be had
abbrev pub NotFit : Bool → (frame : ℕ) → View → Outcome → View → Type 0
NotFit alone frame v (Stale row) w = Stood alone v w × IsUnfit frame row w.given (state w)
NotFit alone frame v ClockSpent w = Stood alone v w × IsSpent frame w.given (state w)
NotFit alone frame v (Moved m) w = Refused alone v w
NotFit alone frame v (Latched l) w = Refused alone v w
NotFit alone frame v (RowSpent row) w = Refused alone v w
NotFit alone frame v _ w = ⊥

-- the record of the drop, with these numbers
pub record IsRecord (txn number : ℕ) (l : Dropping) (r : Record) : Type 0 where
  pub txn_is : r.txn ≡ txn
  pub number_is : r.gsn ≡ number
  pub pairs : Pairs
  pub body_is : r.body ≡ body.DropRoot l.root.gsn (record { page = l.child.number; prev = l.child.gsn }) l.child.node.level pairs
  pub pairs_are : model_pairs pairs ≡ l.image.node.pairs

-- both pages once the level was dropped, with the number of the record and its log
abbrev pub root_after : stored.Page → stored.Page → (number log : ℕ) → stored.Page
root_after root child number log = record (lowered root child) { gsn = number; last_log = log }

abbrev pub child_after : stored.Page → (number log : ℕ) → stored.Page
child_after child number log = record (freed child) { gsn = number; last_log = log }

-- the nodes are those that the drop leaves in the rows, which are held
pub record IsLowered (z : Shape) (v : View) (worker page a b : ℕ) (root child : stored.Page) : Type 0 where
  pub two : HoldsTwo z v a b
  pub actor : may z.alone v worker ≡ true
  pub sound : IsSound v.given
  pub met : core.may (opening v.given) (state v).core (happening.Event.Drop worker page) ≡ true
  pub young : ((state v).core.worker worker).clock < 2 ^ 62
  pub root_left : IsLeft z v (Drop worker page) a root
  pub root_is : root.number ≡ 0
  pub child_left : IsLeft z v (Drop worker page) b child
  pub child_is : child.number ≡ page
