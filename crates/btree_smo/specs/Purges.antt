-- The purge of a leaf's tombstones that nobody can need, by outcome.
use Rattle.std.specs.Prelude.{◌≡◌, ◌≤◌, ◌<◌, ◌+◌, ◌⊎◌, ℕ, Bool, true, false, ◌&&◌, ◌==◌, List, [], ◌∷◌, ◌++◌, length, Result, Ok, Err, if◌then◌else◌}
use Rattle.disk_image.specs.image_model.Entries.{Entry, Kind}
use Rattle.page_model.specs.Pairs.{Pair}
use Rattle.page_model.specs.Nodes.{is_leaf}
use Rattle.page_model.specs.Needs.{purge_record}
use Rattle.btree_descent.specs.core_state.Openings.{Opening}
use Rattle.btree_descent.specs.core_state.States.{Place, State, gsns_of, flushed_by_all}
use Rattle.btree_descent.specs.core_state.Needs as core
use Rattle.btree_descent.specs.core_state.Needs.{is_settled}
use Rattle.btree_descent.specs.core_state.Steps.{at_pages, page_entry}
use Rattle.btree_descent.specs.row_words.declared.event.Event.{Event}
use Rattle.btree_descent.specs.row_words.declared.event.Event.TheVariants.{Purge}
use Rattle.btree_descent.specs.row_words.declared.given.Given.{Given}
use Rattle.btree_descent.specs.row_words.Moments.{Moment, event_of}
use Rattle.btree_descent.specs.row_words.Openings.{opening}
use Rattle.btree_descent.specs.rows_trait.declared.view.View.{View}
use Rattle.btree_descent.specs.rows_trait.Views.{Shape, after_all, state}
use Rattle.btree_descent.specs.rows_trait.Turns.{Ran}
use Rattle.disk_image.specs.log_record.declared.record.Record.{Record}
use Rattle.btree_descent.specs.draw_trait.Clocks.{Clock, drawn}
use Rattle.btree_descent.specs.draw_trait.declared.draw.Unstaged.{Unstaged}
use Rattle.disk_image.specs.Records.{entry_of}
use Rattle.btree_descent.specs.Puts.{Onward, clock_in}
use Rattle.btree_smo.specs.declared.outcome.Outcome.{Outcome}
use Rattle.btree_smo.specs.declared.outcome.Outcome.TheVariants as outcome
use Rattle.btree_smo.specs.declared.purge.Purged.{Purged}
use Rattle.btree_smo.specs.declared.purge.Purged.TheVariants.{Done, Spared, Refused}
use Rattle.btree_smo.specs.Outcomes.{AreMisses, MissedUpTo, WasSo, IsHotIn, IsSpentIn, Caused, IsUndisturbed}

-- ## What it asks

-- each log is flushed up to the number, and where nobody else steps it is the least flushed number
pub record IsFloor (z : Shape) (v : View) (floor : ℕ) : Type 0 where
  pub low : (u : ℕ) → 0 < u → u ≤ (opening v.given).workers → floor ≤ (state v).core.flushed u
  pub exact : z.alone ≡ true → floor ≡ flushed_by_all (opening v.given) (state v).core

-- ## What it appends

-- what the core enters of a purge by worker w of these keys of page p
abbrev pub purge_entry : (w p : ℕ) → List ℕ → State → Entry
purge_entry w p keys s = page_entry Kind.Purge s w (at_pages s w (s.worker w) (p ∷ [])) (p ∷ []) (purge_record (gsns_of s) p keys)

-- the keys of the tombstones among these pairs that nobody can need, in their order
abbrev pub purgeable_keys : Opening → State → List Pair → List ℕ
purgeable_keys g s [] = []
purgeable_keys g s (x ∷ xs) = if (x.word == g.format.dead) && is_settled g s x.key then x.key ∷ purgeable_keys g s xs else purgeable_keys g s xs

-- Keys were purged of the leaf in the frame, and at most so many entries were left; behind the purge the lock rows were given up, which are
-- misses. Where nobody else steps these are all keys that can go.
pub record Cleared (alone : Bool) (worker frame most : ℕ) (v : View) (rs : List Record) (w : View) (c : Clock) (now : List Record) : Type 0 where
  pub page : ℕ
  pub keys : List ℕ
  pub past : List Event
  pub onward : Onward alone v past
  pub misses : List Event
  pub ran : Ran alone v (Purge worker page keys ∷ misses) w
  pub only : AreMisses misses × (length misses ≤ 60)
  pub later : List Event
  pub seen : w.seen ≡ (past ++ Purge worker page keys ∷ []) ++ later
  pub met : core.may (opening w.given) (after_all w.given past).core (event_of (Purge worker page keys)) ≡ true
  pub staged : (r : Record) × (now ≡ r ∷ rs) × (entry_of worker r ≡ purge_entry worker page keys (after_all w.given past).core)
  pub clock : c ≡ clock_in ((after_all w.given (past ++ Purge worker page keys ∷ [])).core.worker worker)
  pub hot : (after_all w.given past).core.place page ≡ Place.Hot frame
  pub some : 0 < length keys
  pub left : length ((after_all w.given past).core.page page).node.pairs ≤ most + length keys
  pub all : alone ≡ true → keys ≡ purgeable_keys (opening w.given) (after_all w.given past).core ((after_all w.given past).core.page page).node.pairs

-- ## What it leaves

-- The leaf in the frame keeps all its entries: this many of them are no tombstones that can go, as far as lock rows were to be had. Where nobody
-- else steps that is exact, and none can go, or more than `most` would be left.
pub record Keeps (alone : Bool) (frame most left : ℕ) (v : Given) (m : Moment) : Type 0 where
  pub page : ℕ
  pub stands : IsHotIn v m frame page
  pub leaf : is_leaf (m.core.page page).node ≡ true
  pub few : left ≤ length (m.core.page page).node.pairs
  pub exact : alone ≡ true → left + length (purgeable_keys (opening v) m.core (m.core.page page).node.pairs) ≡ length (m.core.page page).node.pairs
  pub none : alone ≡ true → (length (purgeable_keys (opening v) m.core (m.core.page page).node.pairs) ≡ 0) ⊎ (most < left)

-- nothing was appended but misses, one a row that was held
abbrev pub Gave : Bool → View → View → Type 0
Gave alone v w = MissedUpTo 61 alone v w

-- the record was not staged: the rows were given up as they stood
pub record NotCleared (alone : Bool) (worker frame : ℕ) (v : View) (rs : List Record) (w : View) (c : Clock) (now : List Record) : Type 0 where
  pub page : ℕ
  pub keys : List ℕ
  pub missed : Gave alone v w
  pub met : WasSo alone v w (λ m. core.may (opening w.given) m.core (event_of (Purge worker page keys)) ≡ true)
  pub staged : now ≡ rs
  pub clock : c ≡ drawn (clock_in (at_pages (after_all w.given met.past).core worker ((after_all w.given met.past).core.worker worker) (page ∷ [])))
  pub hot : (after_all w.given met.past).core.place page ≡ Place.Hot frame

-- no leaf stands hot in the frame
pub record IsNoLeaf (frame row : ℕ) (v : Given) (m : Moment) : Type 0 where
  pub row_is : row ≡ frame
  pub none : (p : ℕ) → IsHotIn v m frame p → is_leaf (m.core.page p).node ≡ false

-- why it refused
abbrev pub Declined : Bool → (worker frame : ℕ) → View → List Record → Outcome → View → Clock → List Record → Type 0
Declined alone worker frame v rs (outcome.Unstaged u) w c now = NotCleared alone worker frame v rs w c now
Declined alone worker frame v rs (outcome.Stale row) w c now = Gave alone v w × WasSo alone v w (IsNoLeaf frame row w.given)
Declined alone worker frame v rs outcome.ClockSpent w c now = Gave alone v w × WasSo alone v w (λ m. IsSpentIn w.given m frame)
Declined alone worker frame v rs (outcome.Moved m) w c now = Gave alone v w
Declined alone worker frame v rs (outcome.Latched l) w c now = Gave alone v w
Declined alone worker frame v rs (outcome.RowSpent row) w c now = Gave alone v w
Declined alone worker frame v rs _ w c now = ⊥

-- what a purge appends and stages, and why it refused
abbrev pub Clears : Bool → (worker frame most : ℕ) → View → List Record → Purged → View → Clock → List Record → Type 0
Clears alone worker frame most v rs Done w c now = Cleared alone worker frame most v rs w c now
Clears alone worker frame most v rs (Spared left) w c now = Gave alone v w × WasSo alone v w (Keeps alone frame most left w.given)
Clears alone worker frame most v rs (Refused why) w c now = Declined alone worker frame v rs why w c now

-- ## Its draw and its cause

-- where it drew, the draw went on with what came of the record; else it is as it was
abbrev pub DrewOf : Purged → (on : Result (Unit {0}) Unstaged → Type 0) → (same : Type 0) → Type 0
DrewOf Done on same = on (Ok tt)
DrewOf (Refused (outcome.Unstaged u)) on same = on (Err u)
DrewOf _ on same = same

-- the number of the log's last record
abbrev pub last_of : Purged → (last clock : ℕ) → ℕ
last_of Done last clock = clock
last_of _ last clock = last

-- what was found by the time at which it refused
abbrev pub CausedOf : View → Purged → View → Type 0
CausedOf v (Refused why) w = Caused v why w
CausedOf v _ w = Unit {0}

-- no other seat was in the way
abbrev pub IsCalm : Purged → Type 0
IsCalm (Refused why) = IsUndisturbed why
IsCalm _ = Unit {0}
