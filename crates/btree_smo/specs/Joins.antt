-- The join of two neighbours, by outcome.
use Rattle.std.specs.Prelude.{◌≡◌, ◌≢◌, ◌<◌, ◌+◌, ◌⊎◌, ℕ, Bool, true, List, [], ◌∷◌, length}
use Rattle.disk_image.specs.image_model.Entries.{Entry, Kind}
use Rattle.page_model.specs.Needs.{join_record}
use Rattle.page_model.specs.Check.{names_page}
use Rattle.btree_descent.specs.core_state.States.{Place, State, nodes_of, gsns_of}
use Rattle.btree_descent.specs.core_state.Steps.{at_pages, page_entry}
use Rattle.btree_descent.specs.row_words.declared.event.Event.TheVariants.{Join}
use Rattle.btree_descent.specs.row_words.declared.given.Given.{Given}
use Rattle.btree_descent.specs.row_words.Moments.{Moment}
use Rattle.btree_descent.specs.row_words.Openings.{opening}
use Rattle.btree_descent.specs.rows_trait.declared.view.View.{View}
use Rattle.btree_descent.specs.rows_trait.Views.{after_all}
use Rattle.disk_image.specs.log_record.declared.record.Record.{Record}
use Rattle.btree_descent.specs.draw_trait.Clocks.{Clock}
use Rattle.btree_smo.specs.declared.outcome.Outcome.{Outcome}
use Rattle.btree_smo.specs.declared.outcome.Outcome.TheVariants as outcome
use Rattle.btree_smo.specs.declared.outcome.Outcome.TheVariants.{Done, Full, TooTall, Stale, Moved, Latched, RowSpent, ClockSpent}
use Rattle.btree_smo.specs.Outcomes.{Missed, WasSo, Changed, NotStaged, IsHotIn}
use Rattle.btree_smo.specs.Splits.{IsSpent}

-- what the core enters of a join by worker w of page l with its right neighbour r under q
abbrev pub join_entry : (w l r q : ℕ) → State → Entry
join_entry w l r q s = page_entry Kind.Join s w (at_pages s w (s.worker w) (l ∷ r ∷ q ∷ [])) (l ∷ r ∷ q ∷ []) (join_record (nodes_of s) (gsns_of s) l r q)

-- the page in frame a was joined with that in frame b, under the page in frame d
pub record Joined (alone : Bool) (worker a b d : ℕ) (v : View) (rs : List Record) (w : View) (c : Clock) (now : List Record) : Type 0 where
  pub left : ℕ
  pub right : ℕ
  pub parent : ℕ
  pub change : Changed alone worker (Join worker left right parent) (join_entry worker left right parent) v rs w c now
  pub left_hot : (after_all w.given change.past).core.place left ≡ Place.Hot a
  pub right_hot : (after_all w.given change.past).core.place right ≡ Place.Hot b
  pub parent_hot : (after_all w.given change.past).core.place parent ≡ Place.Hot d

-- the page that stood hot in frame a might have been joined with that in frame b, under that in frame d, and the record was not staged
pub record NotJoined (alone : Bool) (worker a b d : ℕ) (v : View) (rs : List Record) (w : View) (c : Clock) (now : List Record) : Type 0 where
  pub left : ℕ
  pub right : ℕ
  pub parent : ℕ
  pub refused : NotStaged alone worker (Join worker left right parent) (left ∷ right ∷ parent ∷ []) v rs w c now
  pub left_hot : (after_all w.given refused.met.past).core.place left ≡ Place.Hot a
  pub right_hot : (after_all w.given refused.met.past).core.place right ≡ Place.Hot b
  pub parent_hot : (after_all w.given refused.met.past).core.place parent ≡ Place.Hot d

-- this row is the left page's, and the pages in frames a and b have more pairs together than pages that are joined
pub record IsCrowded (a b row : ℕ) (v : Given) (m : Moment) : Type 0 where
  pub row_is : row ≡ a
  pub left : ℕ
  pub right : ℕ
  pub left_stands : IsHotIn v m a left
  pub right_stands : IsHotIn v m b right
  pub crowded : (opening v).joined < length (m.core.page left).node.pairs + length (m.core.page right).node.pairs

-- The row says what is not so: no page stands hot in frame a, or that in frame b does not begin where that in frame a ends, or the page in
-- frame d does not name both.
pub record IsUnfit (a b d row : ℕ) (v : Given) (m : Moment) : Type 0 where
  pub either : ((row ≡ a) × ((p : ℕ) → IsHotIn v m a p → ⊥))
      ⊎ (((row ≡ b) × ((p r : ℕ) → IsHotIn v m a p → IsHotIn v m b r → (m.core.page p).node.high ≢ (m.core.page r).node.low))
      ⊎ ((row ≡ d) × ((p r q : ℕ) → IsHotIn v m a p → IsHotIn v m b r → IsHotIn v m d q → names_page (m.core.page q).node p ≡ true → names_page (m.core.page q).node r ≡ true → ⊥)))

-- what a join appends and stages, and why it refused
abbrev pub Merged : Bool → (worker a b d : ℕ) → View → List Record → Outcome → View → Clock → List Record → Type 0
Merged alone worker a b d v rs Done w c now = Joined alone worker a b d v rs w c now
Merged alone worker a b d v rs (outcome.Unstaged u) w c now = NotJoined alone worker a b d v rs w c now
Merged alone worker a b d v rs (Full row) w c now = Missed alone v w × WasSo alone v w (IsCrowded a b row w.given)
Merged alone worker a b d v rs TooTall w c now = ⊥
Merged alone worker a b d v rs (Stale row) w c now = Missed alone v w × WasSo alone v w (IsUnfit a b d row w.given)
Merged alone worker a b d v rs (Moved m) w c now = Missed alone v w
Merged alone worker a b d v rs (Latched l) w c now = Missed alone v w
Merged alone worker a b d v rs (RowSpent row) w c now = Missed alone v w
Merged alone worker a b d v rs ClockSpent w c now = Missed alone v w × WasSo alone v w (IsSpent a b d w.given)
