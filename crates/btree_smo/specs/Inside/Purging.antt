-- What is known on the way of a purge: words of its private functions.
use Rattle.std.specs.Prelude.{not, ◌≡◌, ◌≢◌, ◌≤◌, ◌<◌, ◌+◌, ◌%◌, ◌^◌, ◌⊎◌, ℕ, Bool, true, false, List, [], ◌∷◌, ◌++◌, length, take, Some}
use Rattle.page_model.specs.Pairs.{Pair, find, is_in, keep}
use Rattle.page_model.specs.Page as stored
use Rattle.page_model.specs.Page.{with_pairs}
use Rattle.btree_descent.specs.row_words.declared.event.Event.{Event}
use Rattle.btree_descent.specs.row_words.declared.event.Event.TheVariants.{Purge}
use Rattle.btree_descent.specs.row_words.Openings.{opening}
use Rattle.btree_descent.specs.rows_trait.declared.view.View.{View}
use Rattle.btree_descent.specs.rows_trait.Layout.{rows_of}
use Rattle.btree_descent.specs.rows_trait.Views.{Shape, AreApart, holds, held_at, state, may}
use Rattle.btree_descent.specs.rows_trait.Turns.{Ran}
use Rattle.btree_descent.specs.core_state.Events as happening
use Rattle.btree_descent.specs.core_state.Needs as core
use Rattle.disk_image.specs.log_record.declared.record.Record.{Record}
use Rattle.disk_image.specs.log_record.declared.record.Keys.{Keys}
use Rattle.disk_image.specs.log_record.declared.record.Body.TheVariants as body
use Rattle.disk_image.specs.log_record.Model.{model_keys}
use Rattle.btree_descent.specs.Known.{IsSound}
use Rattle.btree_descent.specs.lean_proto.Purges.{IsQuiet}
use Rattle.btree_smo.specs.Outcomes.{AreMisses, Found, IsSpentIn}
use Rattle.btree_descent.specs.version_latch.declared.glimpse.TheConstants.{LAST}
use Rattle.held_rows.specs.Rows.{Stood, IsFrame}
use Rattle.btree_smo.specs.Inside.{IsLeft, StandsIn}
use Rattle.btree_smo.specs.declared.quiet.Quiet.{Quiet}
use Rattle.btree_smo.specs.declared.quiet.Quiet.TheVariants.{Taken, Busy, Spent}
use Rattle.btree_smo.specs.Inside.Quiet.{with_holds, IsTaken, IsBusy, IsSpentRow}
use Rattle.btree_smo.specs.Purges.{purgeable_keys, IsNoLeaf}
use Rattle.btree_smo.specs.declared.outcome.Outcome.{Outcome}
use Rattle.btree_smo.specs.declared.outcome.Outcome.TheVariants as outcome
use Rattle.btree_descent.specs.declared.put.TheConstants.{LAST_NUMBER}

-- ## Lock rows that are held

-- a row that is held with the words that it had
pub record IsKept (z : Shape) (v : View) (row : ℕ) : Type 0 where
  pub mine : holds v.held row ≡ true
  pub inside : row < rows_of z.sizes
  pub done : (held_at v.held row).done ≡ false
  pub same : (held_at v.held row).now ≡ (held_at v.held row).was

-- the row is the lock row of one of the places
pub record IsPlace (frames : ℕ) (places : List ℕ) (q : ℕ) : Type 0 where
  pub place : ℕ
  pub among : is_in place places ≡ true
  pub is : q ≡ frames + place

-- no place stands twice in the list
abbrev pub AreDistinct : List ℕ → Type 0
AreDistinct [] = Unit {0}
AreDistinct (x ∷ xs) = (is_in x xs ≡ false) × AreDistinct xs

-- the lock rows of these places are held as they stood, and no other row
pub record KeepsPlaces (z : Shape) (v : View) (frames : ℕ) (places : List ℕ) : Type 0 where
  pub each : (i : ℕ) → is_in i places ≡ true → IsKept z v (frames + i)
  pub only : (q : ℕ) → holds v.held q ≡ true → IsPlace frames places q
  pub distinct : AreDistinct places

-- and a leaf's row besides
pub record KeepsBeside (z : Shape) (v : View) (frames leaf : ℕ) (places : List ℕ) : Type 0 where
  pub first : IsKept z v leaf
  pub each : (i : ℕ) → is_in i places ≡ true → IsKept z v (frames + i)
  pub only : (q : ℕ) → holds v.held q ≡ true → (q ≡ leaf) ⊎ IsPlace frames places q
  pub far : (i : ℕ) → is_in i places ≡ true → leaf ≢ frames + i
  pub distinct : AreDistinct places

-- From a view at which a leaf's row alone was held, lock rows were latched besides, each quiet up to f.
pub record Holding (z : Shape) (frames f leaf : ℕ) (places : List ℕ) (v w : View) : Type 0 where
  pub stood : Stood z.alone v (with_holds w v)
  pub less : (q : ℕ) → holds v.held q ≡ true → holds w.held q ≡ true
  pub leaf_is : held_at w.held leaf ≡ held_at v.held leaf
  pub each : (i : ℕ) → is_in i places ≡ true → IsKept z w (frames + i)
  pub quiet : (i : ℕ) → is_in i places ≡ true → IsQuiet ((state w).core.row i) f
  pub only : (q : ℕ) → holds w.held q ≡ true → (q ≡ leaf) ⊎ IsPlace frames places q
  pub distinct : AreDistinct places

-- ## Keys that go

-- of the first i pairs of a leaf these keys are tombstones whose lock rows are held; where nobody else steps, they are all that can go
pub record CanGo (z : Shape) (locks : ℕ) (pairs : List Pair) (i : ℕ) (places keys : List ℕ) (w : View) : Type 0 where
  pub dead : (k : ℕ) → is_in k keys ≡ true → find k pairs ≡ Some (2 ^ 63)
  pub locked : (k : ℕ) → is_in k keys ≡ true → is_in (k % locks) places ≡ true
  pub few : length keys ≤ i
  pub fewer : length places ≤ length keys
  pub all : z.alone ≡ true → keys ≡ purgeable_keys (opening w.given) (state w).core (take i pairs)

-- both, on the way through the pairs
pub record Passing (z : Shape) (frames f locks leaf : ℕ) (pairs : List Pair) (i : ℕ) (places keys : List ℕ) (v w : View) : Type 0 where
  pub holding : Holding z frames f leaf places v w
  pub gone : CanGo z locks pairs i places keys w

-- ## The purge

-- a leaf stands in the row, with a number below the last one
pub record IsLeafIn (v : View) (row : ℕ) (n : stored.Page) : Type 0 where
  pub stands : StandsIn v.given (state v) row n
  pub live : n.node.live ≡ true
  pub flat : n.node.level ≡ 0
  pub small : n.gsn < LAST_NUMBER

-- none does
abbrev pub NotLeaf : (row : ℕ) → Outcome → View → Type 0
NotLeaf row (outcome.Stale r) w = IsNoLeaf row r w.given (state w)
NotLeaf row outcome.ClockSpent w = IsSpentIn w.given (state w) row
NotLeaf row _ w = ⊥

-- the rows that are held for a purge: the leaf's, and the lock rows of the keys that go
pub record HoldsFor (z : Shape) (v : View) (frames leaf : ℕ) (places keys : List ℕ) : Type 0 where
  pub frame : IsFrame z v leaf
  pub beside : KeepsBeside z v frames leaf places
  pub locked : (k : ℕ) → is_in k keys ≡ true → is_in ((opening v.given).row_of k) places ≡ true
  pub frames_is : (opening v.given).frames ≡ frames

-- the leaf as it stands in its row, and the purge may be
pub record IsPurging (z : Shape) (v : View) (worker frames leaf : ℕ) (n : stored.Page) (places keys : List ℕ) : Type 0 where
  pub rows : HoldsFor z v frames leaf places keys
  pub stands : StandsIn v.given (state v) leaf n
  pub flat : n.node.level ≡ 0
  pub met : core.may (opening v.given) (state v).core (happening.Event.Purge worker n.number keys) ≡ true
  pub young : ((state v).core.worker worker).clock < 2 ^ 62

-- the node is the one that the purge leaves in its row
pub record IsPurged (z : Shape) (v : View) (worker page : ℕ) (keys : List ℕ) (frames leaf : ℕ) (n : stored.Page) (places : List ℕ) : Type 0 where
  pub rows : HoldsFor z v frames leaf places keys
  pub actor : may z.alone v worker ≡ true
  pub sound : IsSound v.given
  pub met : core.may (opening v.given) (state v).core (happening.Event.Purge worker page keys) ≡ true
  pub young : ((state v).core.worker worker).clock < 2 ^ 62
  pub left : IsLeft z v (Purge worker page keys) leaf n
  pub is : n.number ≡ page

-- the record of the purge, with these numbers
pub record IsRecord (txn number : ℕ) (n : stored.Page) (keys : List ℕ) (r : Record) : Type 0 where
  pub txn_is : r.txn ≡ txn
  pub number_is : r.gsn ≡ number
  pub gone : Keys
  pub body_is : r.body ≡ body.Purge (record { page = n.number; prev = n.gsn }) gone
  pub gone_are : model_keys gone ≡ keys

-- the leaf once the keys were purged, with the number of the record and its log
abbrev pub leaf_after : stored.Page → (keys : List ℕ) → (number log : ℕ) → stored.Page
leaf_after n keys number log = record (with_pairs n (keep (λ k. not (is_in k keys)) n.node.pairs)) { gsn = number; last_log = log }

-- the event was published behind what was seen at v and what others did then; the lock rows were given up behind it
pub record WentOn (alone : Bool) (v : View) (e : Event) (w : View) : Type 0 where
  pub between : List Event
  pub quiet : alone ≡ true → between ≡ []
  pub apart : AreApart v (state v) between
  pub misses : List Event
  pub ran : Ran alone v (e ∷ misses) w
  pub only : AreMisses misses × (length misses ≤ 60)
  pub later : List Event
  pub seen : w.seen ≡ ((v.seen ++ between) ++ e ∷ []) ++ later

-- ## The places

-- The place is among those that are held: it was before, or its row was latched. Or it is not: then nothing was latched.
abbrev pub TookPlace : Shape → (frames i f : ℕ) → List ℕ → View → Quiet → List ℕ → View → Type 0
TookPlace z frames i f places v Taken more w = ((is_in i places ≡ true) × (more ≡ places) × (w ≡ v)) ⊎ ((is_in i places ≡ false) × (more ≡ places ++ i ∷ []) × IsTaken z frames i f v w)
TookPlace z frames i f places v Busy more w = (is_in i places ≡ false) × (more ≡ places) × IsBusy z frames i f v w
TookPlace z frames i f places v Spent more w = (more ≡ places) × IsSpentRow z frames i v w

-- the version of the row was found to have come to the last one
pub record IsLast (row : ℕ) (v w : View) : Type 0 where
  pub version : ℕ
  pub last : LAST ≤ version
  pub found : Found row version v w
