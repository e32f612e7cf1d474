-- One step of a put: a try, and a change of the tree where the leaf has no room.
use Rattle.std.proofs.Common.{◌≡◌, ◌<◌, ◌%◌, ◌++◌, ℕ, true, List, [], ◌∷◌, length, Option, Some, None, Result, Ok, Err, refl, sym, ap, ◌∙◌, subst, arith, append-nil}
use Rattle.map_model.specs.declared.call.Refusal.{Refusal}
use Rattle.map_model.specs.declared.call.Refusal.TheVariants as refusal
use Rattle.row_changes.specs.session_state.engine_trait.declared.unserved.Unanswered.TheVariants as unanswered
use Rattle.row_changes.specs.session_state.engine_trait.declared.unserved.Unserved.{Unserved}
use Rattle.row_changes.specs.session_state.engine_trait.declared.unserved.Unserved.TheVariants as unserved
use Rattle.row_changes.specs.session_state.core_calls.Room.{room_takes}
use Rattle.row_changes.specs.session_state.core_state.Needs.{is_held_by, may}
use Rattle.row_changes.specs.session_state.row_words.Moments.{event_of}
use Rattle.row_changes.specs.session_state.core_state.States.{State}
use Rattle.row_changes.specs.session_state.core_state.Steps.{happens}
use Rattle.row_changes.specs.session_state.disk_image.Records.{entry_of}
use Rattle.lean_disk.specs.Story.{Story}
use Rattle.row_changes.specs.session_state.row_words.declared.event.Event.{Event}
use Rattle.row_changes.specs.session_state.row_words.declared.given.Given.{Given}
use Rattle.row_changes.specs.session_state.row_words.Openings.{opening}
use Rattle.row_changes.specs.session_state.rows_trait.Views.{after_all, state}
use Rattle.row_changes.specs.session_state.rows_trait.declared.view.View.{View}
use Rattle.row_changes.specs.session_state.worker_log.Logs.{Log}
use Rattle.row_changes.specs.session_state.engine_trait.Refusals.{clock_refusal, room_refusal}
use Rattle.row_changes.specs.session_state.engine_trait.Rooms.{IsNextRoom}
use Rattle.row_changes.specs.Outcomes.{HasNoRoom, Tries}
use Rattle.row_growth.specs.Outcomes.{Crowded, Steps, Wants}
use Rattle.row_changes.specs.Puts.{MayChange, works_behind}
use Rattle.lean_disk.specs.Faults.{HasCause}
use Rattle.row_changes.specs.Paths.{IsUnfit}
use Rattle.row_growth.specs.Rooms.{Grew, IsGrown, IsNeeded, IsNoRoom, IsSpentBehind}
use Rattle.row_growth.specs.declared.room.Growth.{Growth}
use Rattle.row_growth.specs.declared.room.Growth.TheVariants as growth
use Rattle.row_growth.specs.declared.room.Placed.{Placed}
use Rattle.row_changes.specs.Ways.{IsWarm}
use Rattle.row_changes.specs.declared.ways.Unmade.{Unmade}
use Rattle.row_changes.specs.declared.ways.Unmade.TheVariants as unmade
use Rattle.row_growth.specs.declared.steps.Stepped.{Stepped}
use Rattle.row_growth.specs.declared.steps.Stepped.TheVariants as stepped
use Rattle.row_changes.specs.declared.puts.Tried.{Tried}
use Rattle.row_changes.specs.declared.puts.Tried.TheVariants as tried
use Rattle.row_changes.specs.session_state.declared.session.Session.{Session}
use Rattle.row_growth.proofs.GrowthLemmas.{growth_leaves}
use Rattle.row_changes.proofs.StepLemmas.{cause_from, clock_at_end, clock_below}
use Rattle.row_changes.proofs.SeenLemmas.{seen_core, still}
use Rattle.row_changes.proofs.session_state.UndoLemmas.{room_after}
use Rattle.row_changes.specs.session_state.core_calls.Warms.{IsWarmFrom}
use Rattle.row_changes.specs.session_state.Undo.{HasHand}
use Rattle.row_growth.proofs.RoomLemmas.{unfit_on}

-- ## A try

-- a try that was refused is a step that was refused
pub tried_as : (k : Unmade) (placed : Option Placed) (v w : View) (key value : ℕ) (x y : Session) (was is : Log) (old new : Story) (path : List ℕ) (same broken : Type 0) → Tries (Err k) v w key value x y was is old new path same broken → Steps (Err k) placed v w key value x y was is old new same
tried_as (unmade.Cold cold) placed v w key value x y was is old new path same broken t = t
tried_as unmade.Lost placed v w key value x y was is old new path same broken t = absurd t
tried_as (unmade.Unserved why) placed v w key value x y was is old new path same broken t = tried_refused why placed v w key value x y was is old new path same broken t
  where
    tried_refused : (why : Unserved) (placed : Option Placed) (v w : View) (key value : ℕ) (x y : Session) (was is : Log) (old new : Story) (path : List ℕ) (same broken : Type 0) → Tries (Err (unmade.Unserved why)) v w key value x y was is old new path same broken → Steps (Err (unmade.Unserved why)) placed v w key value x y was is old new same
    tried_refused (unserved.Refused refusal.RowSpent) placed v w key value x y was is old new path same broken t = (record { misses = []; are_misses = tt; few = omega arith; given = t.0.given; seen = t.0.seen ∙ sym (append-nil v.seen); many = t.0.many }, t.1)
    tried_refused (unserved.Unanswered unanswered.DiskFault) placed v w key value x y was is old new path same broken t = t.0
    tried_refused _ placed v w key value x y was is old new path same broken t = absurd t

-- ## From a view at which as much was seen

module _ (v u : View) (given : u.given ≡ v.given) (seen : u.seen ≡ v.seen) where
  carried : (P : Given → List Event → Type 0) → P u.given u.seen → P v.given v.seen
  carried P p = subst (λ es. P v.given es) seen (subst (λ k. P k u.seen) given p)

  pub grown_from : (key : ℕ) (w : View) (x y : Session) (was is : Log) (old new : Story) → IsGrown key u w x y was is old new → IsGrown key v w x y was is old new
  grown_from key w x y was is old new c = record {
    event = c.event;
    growth = c.growth;
    given = c.given ∙ given;
    seen = c.seen ∙ ap (λ es. es ++ c.event ∷ []) seen;
    met = carried (λ k es. may (opening k) (after_all k es).core (event_of c.event) ≡ true) c.met;
    next = carried (λ k es. IsNextRoom x.own (opening k) (after_all k es).core key (event_of c.event)) c.next;
    fits = carried (λ k es. room_refusal (opening k) (after_all k es).core key ≡ None) c.fits;
    entry = c.entry;
    entry_is = carried (λ k es. (happens (opening k) (after_all k es).core (event_of c.event)).entries ≡ entry_of x.own c.entry ∷ (after_all k es).core.entries) c.entry_is;
    after = c.after;
    stands = c.stands;
    keeps = c.keeps;
    short = c.short;
    session = c.session;
    fewer = c.fewer;
    takes = carried (λ k es. room_takes (opening w.given) (state w).core key < room_takes (opening k) (after_all k es).core key) c.takes;
    stays = carried (λ k es. (state w).core.place ≡ (after_all k es).core.place) c.stays;
    warm = carried (λ k es. IsWarmFrom (opening k) (after_all k es).core key 0 → IsWarm w key) c.warm;
  }

  pub spent_from : (w : View) → IsSpentBehind u w → IsSpentBehind v w
  spent_from w q = record { misses = q.misses; are_misses = q.are_misses; few = q.few; given = q.given ∙ given; seen = q.seen ∙ ap (λ es. es ++ q.misses) seen; many = q.many }

  -- the leaf is full
  pub crowded_from : (key leaf : ℕ) (why : Refusal) (w : View) (x : Session) (was : Log) → MayChange v x was key → IsUnfit u key leaf → IsNoRoom u w key why → Crowded key why v w x.clock.clock
  crowded_from key leaf why w x was f q r = record {
    given = r.given ∙ given;
    seen = r.seen ∙ seen;
    leaf = leaf;
    unfit = unfit_on u w key leaf r.given (still u w r.given r.seen) q;
    ready = f.small;
    cause = subst (λ es. room_refusal (opening w.given) (after_all w.given es).core key ≡ Some why) (sym r.seen) (subst (λ k. room_refusal (opening k) (after_all k u.seen).core key ≡ Some why) (sym r.given) r.cause);
  }

  -- and a page is needed
  pub wants_from : (key leaf : ℕ) (placed : Option Placed) (page : ℕ) (w : View) (x : Session) → IsUnfit u key leaf → IsNeeded u w x key placed page → Wants key placed page v w x
  wants_from key leaf placed page w x q r = record {
    leaf = leaf;
    unfit = unfit_on u w key leaf r.given (still u w r.given r.seen) q;
    needed = record { given = r.given ∙ given; seen = r.seen ∙ seen; fits = carried (λ k es. room_refusal (opening k) (after_all k es).core key ≡ None) r.fits; least = r.least; other = r.other };
  }

-- ## Behind a change of the tree

pub may_after : (key : ℕ) (v w : View) (x y : Session) (was is : Log) (old new : Story) → HasHand was → MayChange v x was key → IsGrown key v w x y was is old new → clock_refusal y.clock.clock None ≡ None → MayChange w y is key
may_after key v w x y was is old new hand f c e = record {
  works = ap (λ (s : Session). s.works) c.session ∙ f.works;
  is_open = ap (λ (s : Session). s.is_open) c.session ∙ f.is_open;
  whole = ap (λ (s : Session). s.is_half_aborted) c.session ∙ f.whole;
  few = let a = ap (λ (s : Session). length s.undo) c.session in let b = f.few in omega arith;
  small = clock_below y.clock.clock e;
  room = let r = room_after c.entry was is (room_takes (opening v.given) (state v).core key) c.short c.after hand f.room in let less = c.takes in omega arith;
  row = ap (λ (k : State). is_held_by (k.row (key % y.held.count)).holder y.own) (seen_core v w c.event c.given c.seen c.met)
      ∙ (ap (λ o. is_held_by o.holder y.own) ((growth_leaves x.own (opening v.given) (state v).core c.event c.growth).row (key % y.held.count))
      ∙ (ap (λ (s : Session). is_held_by ((state v).core.row (key % s.held.count)).holder s.own) c.session ∙ f.row));
  key_low = f.key_low;
}

-- ## A step

-- a try that found the leaf full
pub tried_full : (r : Tried) → r ≡ tried.Full → (v w : View) (key value : ℕ) (x y : Session) (was is : Log) (old new : Story) (path : List ℕ) (same broken : Type 0) → Tries (Ok r) v w key value x y was is old new path same broken → HasNoRoom v w x.frames key path × same
tried_full r e v w key value x y was is old new path same broken t = subst (λ k. Tries (Ok k) v w key value x y was is old new path same broken) e t

-- where the try found no room, by what came of the change of the tree
pub step_refused : (key value leaf : ℕ) (placed : Option Placed) (v u w : View) (x y : Session) (was is : Log) (old new : Story) (same broken : Type 0) → u.given ≡ v.given → u.seen ≡ v.seen → MayChange v x was key → IsUnfit u key leaf
    → (why : Unserved) → Grew (Err why) key placed u w x y was is old new same broken → Steps (Err (unmade.Unserved why)) placed v w key value x y was is old new same
step_refused key value leaf placed v u w x y was is old new same broken given seen f q (unserved.Refused refusal.TooTall) g = (crowded_from v u given seen key leaf refusal.TooTall w x was f q g.0, g.1)
step_refused key value leaf placed v u w x y was is old new same broken given seen f q (unserved.Refused refusal.NoPages) g = (crowded_from v u given seen key leaf refusal.NoPages w x was f q g.0, g.1)
step_refused key value leaf placed v u w x y was is old new same broken given seen f q (unserved.Refused refusal.RowSpent) g = (spent_from v u given seen w g.0, g.1)
step_refused key value leaf placed v u w x y was is old new same broken given seen f q (unserved.Unanswered unanswered.DiskFault) g = g.0
step_refused key value leaf placed v u w x y was is old new same broken given seen f q _ g = absurd g

-- where it takes another page than the one in a frame
pub step_needs : (key value page : ℕ) (placed : Option Placed) (v u w : View) (x y : Session) (was is : Log) (old new : Story) (same broken : Type 0) → u.given ≡ v.given → u.seen ≡ v.seen → (leaf : ℕ) → IsUnfit u key leaf
    → Grew (Ok (growth.Needs page)) key placed u w x y was is old new same broken → Steps (Ok (stepped.Needs page)) placed v w key value x y was is old new same
step_needs key value page placed v u w x y was is old new same broken given seen leaf q g = (wants_from v u given seen key leaf placed page w x q g.0, g.1)

-- where the tree was changed, by the test behind it
pub step_stopped : (key value : ℕ) (placed : Option Placed) (v w : View) (x y : Session) (was is : Log) (old new : Story) (same : Type 0) → IsGrown key v w x y was is old new → (why : Refusal) → clock_refusal y.clock.clock None ≡ Some why → Steps (Err (unmade.Unserved (unserved.Refused why))) placed v w key value x y was is old new same
step_stopped key value placed v w x y was is old new same c why e =
    let q = clock_at_end y.clock.clock why e in
    subst (λ k. Steps (Err (unmade.Unserved (unserved.Refused k))) placed v w key value x y was is old new same) (sym q.is) (record { grown = c; spent = q.spent })

-- a growth that came out so
pub grew_as : (r e : Growth) → r ≡ e → (key : ℕ) (placed : Option Placed) (v w : View) (x y : Session) (was is : Log) (old new : Story) (same broken : Type 0) → Grew (Ok r) key placed v w x y was is old new same broken → Grew (Ok e) key placed v w x y was is old new same broken
grew_as r e is_so key placed v w x y was is old new same broken t = subst (λ k. Grew (Ok k) key placed v w x y was is old new same broken) is_so t

-- a step that came out so
pub stepped_as : (r e : Stepped) → r ≡ e → (placed : Option Placed) (v w : View) (key value : ℕ) (x y : Session) (was is : Log) (old new : Story) (same : Type 0) → Steps (Ok r) placed v w key value x y was is old new same → Steps (Ok e) placed v w key value x y was is old new same
stepped_as r e is_so placed v w key value x y was is old new same t = subst (λ k. Steps (Ok k) placed v w key value x y was is old new same) is_so t

-- what follows from its leaving all as it was, whichever page is in a frame
pub step_same : (why : Unserved) (placed at : Option Placed) (v w : View) (key value : ℕ) (x y : Session) (was is : Log) (old new : Story) (same so : Type 0) → (same → so) → Steps (Err (unmade.Unserved why)) placed v w key value x y was is old new same → Steps (Err (unmade.Unserved why)) at v w key value x y was is old new so
step_same (unserved.Refused refusal.TooTall) placed at v w key value x y was is old new same so f t = (t.0, f t.1)
step_same (unserved.Refused refusal.NoPages) placed at v w key value x y was is old new same so f t = (t.0, f t.1)
step_same (unserved.Refused refusal.RowSpent) placed at v w key value x y was is old new same so f t = (t.0, f t.1)
step_same (unserved.Refused refusal.ClockSpent) placed at v w key value x y was is old new same so f t = t
step_same (unserved.Unanswered unanswered.DiskFault) placed at v w key value x y was is old new same so f t = t
step_same _ placed at v w key value x y was is old new same so f t = absurd t

-- ## What it tells of faults

-- the answers of a put
abbrev put_refused : Unserved → Result Stepped Unmade
put_refused why = Err (unmade.Unserved why)

abbrev growth_refused : Unserved → Result Growth Unserved
growth_refused why = Err why

abbrev try_unmade : Unmade → Result Tried Unmade
try_unmade k = Err k

abbrev put_unmade : Unmade → Result Stepped Unmade
put_unmade k = Err k

-- a refused try tells of the same faults
pub try_told : (a b : ℕ) (k : Unmade) → HasCause a b (try_unmade k ≡ try_unmade (unmade.Unserved (unserved.Unanswered unanswered.DiskFault))) → HasCause a b (put_unmade k ≡ put_unmade (unmade.Unserved (unserved.Unanswered unanswered.DiskFault)))
try_told a b k h = cause_from a a b _ _ refl h (λ q. ap try_unmade (inner q)) (λ q. ap put_unmade (outer q))
  where
    inner : put_unmade k ≡ put_unmade (unmade.Unserved (unserved.Unanswered unanswered.DiskFault)) → k ≡ unmade.Unserved (unserved.Unanswered unanswered.DiskFault)
    inner q = cc

    outer : try_unmade k ≡ try_unmade (unmade.Unserved (unserved.Unanswered unanswered.DiskFault)) → k ≡ unmade.Unserved (unserved.Unanswered unanswered.DiskFault)
    outer q = cc

-- a refused change tells of the same faults
pub refused_told : (a b c : ℕ) (P : Type 0) (why : Unserved) → HasCause a b P → (P → ⊥) → HasCause b c (growth_refused why ≡ growth_refused (unserved.Unanswered unanswered.DiskFault)) → HasCause a c (put_refused why ≡ put_refused (unserved.Unanswered unanswered.DiskFault))
refused_told a b c P why h calm k = cause_from a b c _ _ (h.calm calm) k (λ q. ap growth_refused (inner q)) (λ q. ap put_refused (outer q))
  where
    inner : put_refused why ≡ put_refused (unserved.Unanswered unanswered.DiskFault) → why ≡ (unserved.Unanswered unanswered.DiskFault)
    inner q = cc

    outer : growth_refused why ≡ growth_refused (unserved.Unanswered unanswered.DiskFault) → why ≡ (unserved.Unanswered unanswered.DiskFault)
    outer q = cc

-- the end of the clock is no fault
pub stopped_calm : (clock : ℕ) (why : Refusal) → clock_refusal clock None ≡ Some why → put_refused (unserved.Refused why) ≡ put_refused (unserved.Unanswered unanswered.DiskFault) → ⊥
stopped_calm clock why e = subst (λ k. put_refused (unserved.Refused k) ≡ put_refused (unserved.Unanswered unanswered.DiskFault) → ⊥) (sym (clock_at_end clock why e).is) (λ p. absurd (cc))

-- and the session works behind it
pub stopped_goes : (clock : ℕ) (why : Refusal) → clock_refusal clock None ≡ Some why → works_behind (put_refused (unserved.Refused why)) ≡ true
stopped_goes clock why e = subst (λ k. works_behind (put_refused (unserved.Refused k)) ≡ true) (sym (clock_at_end clock why e).is) refl
