-- Who is inside, and whether a cooling page waits for somebody.
use Rattle.std.specs.Prelude.{◌≡◌, ◌<◌, ◌≤◌, ◌^◌, ℕ, true, false, List, [], ◌∷◌, ◌++◌, Some, None}
use Rattle.lean_proto.specs.core_state.Needs as core
use Rattle.lean_proto.specs.core_state.Needs.{is_worker, is_inside}
use Rattle.lean_proto.specs.core_state.States.{epoch_of, waits_for}
use Rattle.lean_proto.specs.core_paging.Paging.{Waiting}
use Rattle.lean_proto.specs.row_words.declared.event.Event.{Event}
use Rattle.lean_proto.specs.row_words.declared.event.Event.TheVariants.{Enter, Leave, Tick}
use Rattle.lean_proto.specs.row_words.Moments.{event_of, pager}
use Rattle.lean_proto.specs.row_words.Openings.{opening}
use Rattle.lean_proto.specs.rows_trait.declared.view.View.{View}
use Rattle.lean_proto.specs.rows_trait.declared.view.Act.TheVariants.{Hear}
use Rattle.lean_proto.specs.rows_trait.declared.view.Act.{Act}
use Rattle.lean_proto.specs.rows_trait.Views.{Shape, after_all, may, state}
use Rattle.lean_proto.specs.rows_trait.Turns.{Ran}
use Rattle.epochs.specs.declared.judging.Ripeness.{Ripeness}
use Rattle.epochs.specs.declared.judging.Ripeness.TheVariants.{Yes, Held}

-- ## In and out

-- the seat may step for the worker, which is outside
pub record IsOutside (z : Shape) (v : View) (w : ℕ) : Type 0 where
  pub actor : may z.alone v w ≡ true
  pub worker : is_worker (opening v.given) w ≡ true
  pub outside : (state v).core.inside w ≡ None

-- which is inside
pub record IsInside (z : Shape) (v : View) (w : ℕ) : Type 0 where
  pub actor : may z.alone v w ≡ true
  pub some : 0 < w
  pub inside : is_inside ((state v).core.inside w) ≡ true

-- the event was appended last, and its need was met right before it
pub record Met (v : View) (e : Event) (u : View) : Type 0 where
  pub before : List Event
  pub seen : u.seen ≡ before ++ e ∷ []
  pub met : core.may (opening v.given) (after_all v.given before).core (event_of e) ≡ true

-- It has entered, with an epoch that is no earlier than the global one was before, up to 2^63 - 1.
pub record HasEntered (z : Shape) (v : View) (w : ℕ) (u : View) : Type 0 where
  pub epoch : ℕ
  pub ran : Ran z.alone v (Enter w epoch ∷ []) u
  pub held : u.held ≡ v.held
  pub met : Met v (Enter w epoch) u
  pub inside : (state u).core.inside w ≡ Some epoch
  pub late : (state v).core.epoch < 2 ^ 63 → (state v).core.epoch ≤ epoch

-- it has left
pub record HasLeft (z : Shape) (v : View) (w : ℕ) (u : View) : Type 0 where
  pub ran : Ran z.alone v (Leave w ∷ []) u
  pub held : u.held ≡ v.held
  pub met : Met v (Leave w) u
  pub inside : (state u).core.inside w ≡ None

-- ## Ripe

-- nothing was appended, and this is the global epoch, which alone was loaded
pub record IsStamp (z : Shape) (v : View) (epoch : ℕ) (u : View) : Type 0 where
  pub ran : Ran z.alone v [] u
  pub held : u.held ≡ v.held
  pub steps : u.steps ≡ Hear 0 0 epoch ∷ v.steps
  pub epoch_is : (state u).core.epoch ≡ epoch

-- the global epoch has gone on
pub record HasTicked (z : Shape) (v u : View) : Type 0 where
  pub ran : Ran z.alone v (Tick ∷ []) u
  pub held : u.held ≡ v.held

-- Only the seat itself cools pages; at every moment whoever a page waits for is inside; and the global epoch is below
-- 2^63.
pub record IsJudge (z : Shape) (v : View) : Type 0 where
  pub actor : may z.alone v pager ≡ true
  pub waiting : (es : List Event) → Waiting (after_all v.given es).core
  pub small : (state v).core.epoch < 2 ^ 63

-- no page that cools since this epoch, or an earlier one, waits for a worker up to n
abbrev pub Unwaited : (n epoch : ℕ) → View → Type 0
Unwaited n epoch u = (p w : ℕ) → w ≤ n → epoch_of ((state u).core.place p) ≤ epoch → waits_for ((state u).core.place p) w ≡ false

-- A worker is inside, with an epoch that is not later, and this was loaded last.
pub record IsHeld (v : View) (workers epoch w e : ℕ) (u : View) : Type 0 where
  pub some : 0 < w
  pub few : w ≤ workers
  pub early : e ≤ epoch
  pub inside : (state u).core.inside w ≡ Some e
  pub acts : List Act
  pub loaded : u.steps ≡ Hear w 2 e ∷ (acts ++ v.steps)

-- It is ripe: no such page waits for anybody. Or a worker is inside since this epoch or an earlier one.
abbrev pub Judged : (v : View) (workers epoch : ℕ) → Ripeness → View → Type 0
Judged v workers epoch Yes u = Unwaited workers epoch u
Judged v workers epoch (Held w e) u = IsHeld v workers epoch w e u

pub record Ripens (z : Shape) (v : View) (workers epoch : ℕ) (answer : Ripeness) (u : View) : Type 0 where
  pub ran : Ran z.alone v [] u
  pub held : u.held ≡ v.held
  pub judged : Judged v workers epoch answer u

-- nobody is inside
abbrev pub IsDeserted : View → Type 0
IsDeserted v = (w : ℕ) → (state v).core.inside w ≡ None
