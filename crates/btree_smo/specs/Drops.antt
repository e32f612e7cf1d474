-- The drop of the root's one child, by outcome.
use Rattle.std.specs.Prelude.{◌≡◌, ◌⊎◌, ℕ, Bool, false, List, [], ◌∷◌}
use Rattle.disk_image.specs.image_model.Entries.{Entry, Kind}
use Rattle.page_model.specs.Needs.{drop_record}
use Rattle.btree_descent.specs.core_state.Needs.{may_drop}
use Rattle.btree_descent.specs.core_state.States.{Place, State, nodes_of, gsns_of}
use Rattle.btree_descent.specs.core_state.Steps.{at_pages, page_entry}
use Rattle.btree_descent.specs.row_words.declared.event.Event.TheVariants.{Drop}
use Rattle.btree_descent.specs.row_words.declared.given.Given.{Given}
use Rattle.btree_descent.specs.row_words.Moments.{Moment}
use Rattle.btree_descent.specs.rows_trait.declared.view.View.{View}
use Rattle.btree_descent.specs.rows_trait.Views.{after_all}
use Rattle.disk_image.specs.log_record.declared.record.Record.{Record}
use Rattle.btree_descent.specs.draw_trait.Clocks.{Clock}
use Rattle.btree_smo.specs.declared.outcome.Outcome.{Outcome}
use Rattle.btree_smo.specs.declared.outcome.Outcome.TheVariants as outcome
use Rattle.btree_smo.specs.declared.outcome.Outcome.TheVariants.{Done, Full, TooTall, Stale, Moved, Latched, RowSpent, ClockSpent}
use Rattle.btree_smo.specs.Outcomes.{Missed, WasSo, Changed, NotStaged, IsHotIn, IsSpentIn}

-- what the core enters of a drop by worker w of page c
abbrev pub drop_entry : (w c : ℕ) → State → Entry
drop_entry w c s = page_entry Kind.Drop s w (at_pages s w (s.worker w) (0 ∷ c ∷ [])) (0 ∷ c ∷ []) (drop_record (nodes_of s) (gsns_of s) c)

-- the root has the contents of the page that stands in the frame
pub record Dropped (alone : Bool) (worker frame : ℕ) (v : View) (rs : List Record) (w : View) (c : Clock) (now : List Record) : Type 0 where
  pub page : ℕ
  pub change : Changed alone worker (Drop worker page) (drop_entry worker page) v rs w c now
  pub hot : (after_all w.given change.past).core.place page ≡ Place.Hot frame

-- the root might have got those of the page that stood hot in the frame, and the record was not staged
pub record NotDropped (alone : Bool) (worker frame : ℕ) (v : View) (rs : List Record) (w : View) (c : Clock) (now : List Record) : Type 0 where
  pub page : ℕ
  pub refused : NotStaged alone worker (Drop worker page) (0 ∷ page ∷ []) v rs w c now
  pub hot : (after_all w.given refused.met.past).core.place page ≡ Place.Hot frame

-- The page that stands hot in the frame is not the root's one child, or none stands there: this row says which.
pub record IsUnfit (frame row : ℕ) (v : Given) (m : Moment) : Type 0 where
  pub either : ((row ≡ 0) × ((p : ℕ) → IsHotIn v m frame p → may_drop (nodes_of m.core) p ≡ false)) ⊎ ((row ≡ frame) × ((p : ℕ) → IsHotIn v m frame p → ⊥))

-- the number of the root, or of the page in the frame, is the last one
abbrev pub IsSpent : (frame : ℕ) → Given → Moment → Type 0
IsSpent frame v m = IsSpentIn v m 0 ⊎ IsSpentIn v m frame

-- what a drop appends and stages, and why it refused
abbrev pub Lowered : Bool → (worker frame : ℕ) → View → List Record → Outcome → View → Clock → List Record → Type 0
Lowered alone worker frame v rs Done w c now = Dropped alone worker frame v rs w c now
Lowered alone worker frame v rs (outcome.Unstaged u) w c now = NotDropped alone worker frame v rs w c now
Lowered alone worker frame v rs (Full row) w c now = ⊥
Lowered alone worker frame v rs TooTall w c now = ⊥
Lowered alone worker frame v rs (Stale row) w c now = Missed alone v w × WasSo alone v w (IsUnfit frame row w.given)
Lowered alone worker frame v rs (Moved m) w c now = Missed alone v w
Lowered alone worker frame v rs (Latched l) w c now = Missed alone v w
Lowered alone worker frame v rs (RowSpent row) w c now = Missed alone v w
Lowered alone worker frame v rs ClockSpent w c now = Missed alone v w × WasSo alone v w (IsSpent frame w.given)
