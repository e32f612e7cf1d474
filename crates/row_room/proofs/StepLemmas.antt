-- One step of a put: a try, and a change of the tree where the leaf has no room.
use Rattle.std.proofs.Common.{◌≡◌, ◌≤◌, ◌<◌, ◌%◌, ◌++◌, ◌^◌, ℕ, true, List, [], ◌∷◌, length, Option, Some, None, Result, Ok, Err, refl, sym, ap, ◌∙◌, subst, arith, append-nil}
use Rattle.map_model.specs.declared.call.Refusal.{Refusal}
use Rattle.map_model.specs.declared.call.Refusal.TheVariants as refusal
use Rattle.page_model.specs.Nodes.{holds}
use Rattle.page_model.specs.Pairs.{find}
use Rattle.row_growth.specs.session_state.engine_trait.declared.unserved.Unanswered.TheVariants as unanswered
use Rattle.row_growth.specs.session_state.engine_trait.declared.unserved.Unserved.{Unserved}
use Rattle.row_growth.specs.session_state.engine_trait.declared.unserved.Unserved.TheVariants as unserved
use Rattle.row_growth.specs.session_state.core_calls.Room.{room_takes}
use Rattle.row_growth.specs.session_state.core_state.Needs.{is_held_by, may}
use Rattle.row_growth.specs.session_state.core_state.Openings.{Opening}
use Rattle.row_growth.specs.session_state.core_state.States.{State}
use Rattle.row_growth.specs.session_state.core_state.Steps.{happens}
use Rattle.row_growth.specs.session_state.disk_image.Records.{entry_of}
use Rattle.lean_disk.specs.Faults.{HasCause}
use Rattle.lean_disk.specs.Story.{Story}
use Rattle.row_growth.specs.session_state.row_words.declared.event.Event.{Event}
use Rattle.row_growth.specs.session_state.row_words.declared.event.Event.TheVariants.{Lift, Purge, Split}
use Rattle.row_growth.specs.session_state.row_words.declared.given.Given.{Given}
use Rattle.row_growth.specs.session_state.row_words.Moments.{event_of}
use Rattle.row_growth.specs.session_state.row_words.Openings.{opening}
use Rattle.row_growth.specs.session_state.rows_trait.Views.{after_all, state}
use Rattle.row_growth.specs.session_state.rows_trait.declared.view.View.{View}
use Rattle.row_growth.specs.session_state.worker_log.Logs.{Log}
use Rattle.row_growth.specs.session_state.engine_trait.Refusals.{clock_refusal, room_refusal}
use Rattle.row_growth.specs.session_state.core_calls.Warms.{IsWarmFrom}
use Rattle.row_growth.specs.session_state.Undo.{HasHand}
use Rattle.row_growth.specs.session_state.declared.session.Session.{Session}
use Rattle.row_growth.proofs.session_state.UndoLemmas.{room_after}
use Rattle.row_tidying.specs.tidy_rules.Rooms.{IsNextRoom, NoneGoes}
use Rattle.row_growth.specs.row_changes.Outcomes.{HasNoRoom, Tries}
use Rattle.row_growth.specs.row_changes.Paths.{IsUnfit}
use Rattle.row_growth.specs.row_changes.Puts.{MayChange, works_behind}
use Rattle.row_growth.specs.row_changes.Ways.{IsWarm}
use Rattle.row_growth.specs.row_changes.declared.puts.Tried.{Tried}
use Rattle.row_growth.specs.row_changes.declared.ways.Unmade.{Unmade}
use Rattle.row_growth.specs.row_changes.declared.ways.Unmade.TheVariants as unmade
use Rattle.row_growth.proofs.row_changes.StepLemmas.{cause_from, clock_at_end, clock_below}
use Rattle.row_growth.specs.declared.room.Growth.{Growth}
use Rattle.row_growth.specs.declared.room.Growth.TheVariants as growth
use Rattle.row_growth.specs.declared.room.Placed.{Placed}
use Rattle.row_tidying.specs.Outcomes.{IsSpentWithin}
use Rattle.row_room.specs.Rooms.{IsKept, IsNoSpace, IsRoomBy, IsRoomed, IsWanting, MadeSpace}
use Rattle.row_room.specs.Outcomes.{Steps}
use Rattle.row_room.specs.declared.steps.Stepped.{Stepped}
use Rattle.row_room.specs.declared.steps.Stepped.TheVariants as stepped

-- ## A try

-- a try that was refused is a step that was refused
pub tried_as : (k : Unmade) (placed : Option Placed) (v w : View) (key value : ℕ) (x y : Session) (was is : Log) (old new : Story) (path : List ℕ) (same broken : Type 0) → Tries (Err k) v w key value x y was is old new path same broken → Steps (Err k) placed v w key value x y was is old new same
tried_as (unmade.Cold cold) placed v w key value x y was is old new path same broken t = t
tried_as unmade.Lost placed v w key value x y was is old new path same broken t = absurd t
tried_as (unmade.Unserved why) placed v w key value x y was is old new path same broken t = tried_refused why placed v w key value x y was is old new path same broken t
  where
    tried_refused : (why : Unserved) (placed : Option Placed) (v w : View) (key value : ℕ) (x y : Session) (was is : Log) (old new : Story) (path : List ℕ) (same broken : Type 0) → Tries (Err (unmade.Unserved why)) v w key value x y was is old new path same broken → Steps (Err (unmade.Unserved why)) placed v w key value x y was is old new same
    tried_refused (unserved.Refused refusal.RowSpent) placed v w key value x y was is old new path same broken t = (record { misses = []; are_misses = tt; few = omega arith; given = t.0.given; seen = t.0.seen ∙ sym (append-nil v.seen); many = t.0.many }, t.1)
    tried_refused (unserved.Unanswered unanswered.DiskFault) placed v w key value x y was is old new path same broken t = t.0
    tried_refused _ placed v w key value x y was is old new path same broken t = absurd t

-- ## From a view at which as much was seen

module _ (v u : View) (given : u.given ≡ v.given) (seen : u.seen ≡ v.seen) where
  carried : (P : Given → List Event → Type 0) → P u.given u.seen → P v.given v.seen
  carried P p = subst (λ es. P v.given es) seen (subst (λ k. P k u.seen) given p)

  pub roomed_from : (key : ℕ) (w : View) (x y : Session) (was is : Log) (old new : Story) → IsRoomed key u w x y was is old new → IsRoomed key v w x y was is old new
  roomed_from key w x y was is old new c = record {
    event = c.event;
    by = c.by;
    first = c.first;
    later = c.later;
    are_first = c.are_first;
    are_later = c.are_later;
    few = c.few;
    given = c.given ∙ given;
    seen = c.seen ∙ ap (λ es. es ++ (c.first ++ c.event ∷ c.later)) seen;
    met = carried (λ k es. may (opening k) (after_all k es).core (event_of c.event) ≡ true) c.met;
    happened = carried (λ k es. (state w).core ≡ happens (opening k) (after_all k es).core (event_of c.event)) c.happened;
    next = carried (λ k es. IsNextRoom x.own (opening k) (after_all k es).core key (event_of c.event)) c.next;
    entry = c.entry;
    entry_is = carried (λ k es. (happens (opening k) (after_all k es).core (event_of c.event)).entries ≡ entry_of x.own c.entry ∷ (after_all k es).core.entries) c.entry_is;
    after = c.after;
    stands = c.stands;
    keeps = c.keeps;
    short = c.short;
    session = c.session;
    free = carried (λ k es. Rattle.row_room.specs.Rooms.TakesPage c.event x.free y.free (room_refusal (opening k) (after_all k es).core key ≡ None)) c.free;
    takes = carried (λ k es. room_takes (opening w.given) (state w).core key < room_takes (opening k) (after_all k es).core key) c.takes;
    stays = carried (λ k es. (state w).core.place ≡ (after_all k es).core.place) c.stays;
    warm = carried (λ k es. IsWarmFrom (opening k) (after_all k es).core key 0 → IsWarm w key) c.warm;
  }

  spent_from : (w : View) → IsSpentWithin 69 u w → IsSpentWithin 69 v w
  spent_from w q = record { misses = q.misses; are_misses = q.are_misses; few = q.few; given = q.given ∙ given; seen = q.seen ∙ ap (λ es. es ++ q.misses) seen; many = q.many }

  kept_from : (key : ℕ) (w : View) → IsKept key u w → IsKept key v w
  kept_from key w q = record { misses = q.misses; are_misses = q.are_misses; few = q.few; given = q.given ∙ given; seen = q.seen ∙ ap (λ es. es ++ q.misses) seen; none = carried (λ k es. NoneGoes (opening k) (after_all k es).core key) q.none }

  no_space_from : (key : ℕ) (why : Refusal) (w : View) → IsNoSpace key why u w → IsNoSpace key why v w
  no_space_from key why w q = record { kept = kept_from key w q.kept; cause = carried (λ k es. room_refusal (opening k) (after_all k es).core key ≡ Some why) q.cause }

  wanting_from : (key : ℕ) (placed : Option Placed) (page : ℕ) (w : View) (x : Session) → IsWanting key placed page u w x → IsWanting key placed page v w x
  wanting_from key placed page w x q = record { kept = kept_from key w q.kept; fits = carried (λ k es. room_refusal (opening k) (after_all k es).core key ≡ None) q.fits; least = q.least; other = q.other }

  -- the leaf is full
  unfit_from : (key leaf : ℕ) → IsUnfit u key leaf → IsUnfit v key leaf
  unfit_from key leaf q = record {
    below = carried (λ k es. leaf < (opening k).format.pages) q.below;
    holds = carried (λ k es. holds ((after_all k es).core.page leaf).node key ≡ true) q.holds;
    none = carried (λ k es. find key ((after_all k es).core.page leaf).node.pairs ≡ None) q.none;
    full = carried (λ k es. length ((after_all k es).core.page leaf).node.pairs ≡ 60) q.full;
  }

-- ## Behind a change of the tree

-- it changes no lock row
room_rows : (own : ℕ) (g : Opening) (s : State) (e : Event) → IsRoomBy own e → (happens g s (event_of e)).row ≡ s.row
room_rows own g s (Purge w p keys) t = refl
room_rows own g s (Split w l r q i) t = refl
room_rows own g s (Lift w c) t = refl
room_rows own g s _ t = absurd t

pub may_after : (key : ℕ) (v w : View) (x y : Session) (was is : Log) (old new : Story) → HasHand was → MayChange v x was key → IsRoomed key v w x y was is old new → clock_refusal y.clock.clock None ≡ None → MayChange w y is key
may_after key v w x y was is old new hand f c e = record {
  works = ap (λ (s : Session). s.works) c.session ∙ f.works;
  is_open = ap (λ (s : Session). s.is_open) c.session ∙ f.is_open;
  whole = ap (λ (s : Session). s.is_half_aborted) c.session ∙ f.whole;
  few = let a = ap (λ (s : Session). length s.undo) c.session in let b = f.few in omega arith;
  small = clock_below y.clock.clock e;
  room = let r = room_after c.entry was is (room_takes (opening v.given) (state v).core key) c.short c.after hand f.room in let less = c.takes in omega arith;
  row = ap (λ (k : State). is_held_by (k.row (key % y.held.count)).holder y.own) c.happened
      ∙ (ap (λ o. is_held_by (o (key % y.held.count)).holder y.own) (room_rows x.own (opening v.given) (state v).core c.event c.by)
      ∙ (ap (λ (s : Session). is_held_by ((state v).core.row (key % s.held.count)).holder s.own) c.session ∙ f.row));
  key_low = f.key_low;
}

-- ## A step

-- where the try found no room, by what came of the change of the tree
pub step_refused : (key value leaf : ℕ) (placed : Option Placed) (v u w : View) (x y : Session) (was is : Log) (old new : Story) (same broken : Type 0) → u.given ≡ v.given → u.seen ≡ v.seen → MayChange v x was key → IsUnfit u key leaf
    → (why : Unserved) → MadeSpace (Err why) key placed u w x y was is old new same broken → Steps (Err (unmade.Unserved why)) placed v w key value x y was is old new same
step_refused key value leaf placed v u w x y was is old new same broken given seen f q (unserved.Refused refusal.TooTall) g = (record { leaf = leaf; unfit = unfit_from v u given seen key leaf q; ready = f.small; tight = no_space_from v u given seen key refusal.TooTall w g.0 }, g.1)
step_refused key value leaf placed v u w x y was is old new same broken given seen f q (unserved.Refused refusal.NoPages) g = (record { leaf = leaf; unfit = unfit_from v u given seen key leaf q; ready = f.small; tight = no_space_from v u given seen key refusal.NoPages w g.0 }, g.1)
step_refused key value leaf placed v u w x y was is old new same broken given seen f q (unserved.Refused refusal.RowSpent) g = (spent_from v u given seen w g.0, g.1)
step_refused key value leaf placed v u w x y was is old new same broken given seen f q (unserved.Unanswered unanswered.DiskFault) g = g.0
step_refused key value leaf placed v u w x y was is old new same broken given seen f q _ g = absurd g

-- where it takes another page than the one in a frame
pub step_needs : (key value page : ℕ) (placed : Option Placed) (v u w : View) (x y : Session) (was is : Log) (old new : Story) (same broken : Type 0) → u.given ≡ v.given → u.seen ≡ v.seen → (leaf : ℕ) → IsUnfit u key leaf
    → MadeSpace (Ok (growth.Needs page)) key placed u w x y was is old new same broken → Steps (Ok (stepped.Needs page)) placed v w key value x y was is old new same
step_needs key value page placed v u w x y was is old new same broken given seen leaf q g = (record { leaf = leaf; unfit = unfit_from v u given seen key leaf q; wanting = wanting_from v u given seen key placed page w x g.0 }, g.1)

-- where the tree was changed, by the test behind it
pub step_stopped : (key value : ℕ) (placed : Option Placed) (v w : View) (x y : Session) (was is : Log) (old new : Story) (same : Type 0) → IsRoomed key v w x y was is old new → (why : Refusal) → clock_refusal y.clock.clock None ≡ Some why → Steps (Err (unmade.Unserved (unserved.Refused why))) placed v w key value x y was is old new same
step_stopped key value placed v w x y was is old new same c why e =
    let q = clock_at_end y.clock.clock why e in
    subst (λ k. Steps (Err (unmade.Unserved (unserved.Refused k))) placed v w key value x y was is old new same) (sym q.is) (record { roomed = c; spent = q.spent })

-- a change that came out so
pub space_as : (r e : Growth) → r ≡ e → (key : ℕ) (placed : Option Placed) (v w : View) (x y : Session) (was is : Log) (old new : Story) (same broken : Type 0) → MadeSpace (Ok r) key placed v w x y was is old new same broken → MadeSpace (Ok e) key placed v w x y was is old new same broken
space_as r e is_so key placed v w x y was is old new same broken t = subst (λ k. MadeSpace (Ok k) key placed v w x y was is old new same broken) is_so t

-- ## What it tells of faults

-- the answers of a put
abbrev put_refused : Unserved → Result Stepped Unmade
put_refused why = Err (unmade.Unserved why)

abbrev growth_refused : Unserved → Result Growth Unserved
growth_refused why = Err why

abbrev try_unmade : Unmade → Result Tried Unmade
try_unmade k = Err k

abbrev put_unmade : Unmade → Result Stepped Unmade
put_unmade k = Err k

-- a refused try tells of the same faults
pub try_told : (a b : ℕ) (k : Unmade) → HasCause a b (try_unmade k ≡ try_unmade (unmade.Unserved (unserved.Unanswered unanswered.DiskFault))) → HasCause a b (put_unmade k ≡ put_unmade (unmade.Unserved (unserved.Unanswered unanswered.DiskFault)))
try_told a b k h = cause_from a a b _ _ refl h (λ q. ap try_unmade (inner q)) (λ q. ap put_unmade (outer q))
  where
    inner : put_unmade k ≡ put_unmade (unmade.Unserved (unserved.Unanswered unanswered.DiskFault)) → k ≡ unmade.Unserved (unserved.Unanswered unanswered.DiskFault)
    inner q = cc

    outer : try_unmade k ≡ try_unmade (unmade.Unserved (unserved.Unanswered unanswered.DiskFault)) → k ≡ unmade.Unserved (unserved.Unanswered unanswered.DiskFault)
    outer q = cc

-- a refused change tells of the same faults
pub refused_told : (a b c : ℕ) (P : Type 0) (why : Unserved) → HasCause a b P → (P → ⊥) → HasCause b c (growth_refused why ≡ growth_refused (unserved.Unanswered unanswered.DiskFault)) → HasCause a c (put_refused why ≡ put_refused (unserved.Unanswered unanswered.DiskFault))
refused_told a b c P why h calm k = cause_from a b c _ _ (h.calm calm) k (λ q. ap growth_refused (inner q)) (λ q. ap put_refused (outer q))
  where
    inner : put_refused why ≡ put_refused (unserved.Unanswered unanswered.DiskFault) → why ≡ (unserved.Unanswered unanswered.DiskFault)
    inner q = cc

    outer : growth_refused why ≡ growth_refused (unserved.Unanswered unanswered.DiskFault) → why ≡ (unserved.Unanswered unanswered.DiskFault)
    outer q = cc

-- the end of the clock is no fault
pub stopped_calm : (clock : ℕ) (why : Refusal) → clock_refusal clock None ≡ Some why → put_refused (unserved.Refused why) ≡ put_refused (unserved.Unanswered unanswered.DiskFault) → ⊥
stopped_calm clock why e = subst (λ k. put_refused (unserved.Refused k) ≡ put_refused (unserved.Unanswered unanswered.DiskFault) → ⊥) (sym (clock_at_end clock why e).is) (λ p. absurd (cc))

-- and the session works behind it
pub stopped_goes : (clock : ℕ) (why : Refusal) → clock_refusal clock None ≡ Some why → works_behind (put_refused (unserved.Refused why)) ≡ true
stopped_goes clock why e = subst (λ k. works_behind (put_refused (unserved.Refused k)) ≡ true) (sym (clock_at_end clock why e).is) refl
