-- One step of a tidying, by what came of the leaf and of the way up.
use Rattle.std.proofs.Common.{◌≡◌, ◌≢◌, ◌⊎◌, inl, inr, ◌≤◌, ◌<◌, ◌+◌, ◌-◌, ◌++◌, ◌^◌, ℕ, zero, suc, true, false, List, [], ◌∷◌, length, Option, Some, None, Result, Ok, Err, refl, sym, ap, ◌∙◌, subst, arith, append-nil}
use Rattle.std.specs.Prelude.{IsErrAnd}
use Rattle.std.proofs.lemmas.Bool.{cases_lt}
use Rattle.std.proofs.lemmas.List.{append_assoc, length-append}
use Rattle.map_model.specs.declared.call.Refusal.{Refusal}
use Rattle.map_model.specs.declared.call.Refusal.TheVariants as refusal
use Rattle.row_changes.specs.session_state.engine_trait.Refusals.{clock_refusal}
use Rattle.row_changes.specs.session_state.engine_trait.declared.unserved.Unanswered.TheVariants as unanswered
use Rattle.row_changes.specs.session_state.engine_trait.declared.unserved.Unserved.{Unserved}
use Rattle.row_changes.specs.session_state.engine_trait.declared.unserved.Unserved.TheVariants as unserved
use Rattle.row_changes.specs.session_state.core_calls.Warms.{IsWarmFrom}
use Rattle.row_changes.specs.session_state.core_state.Events as happening
use Rattle.row_changes.specs.session_state.core_state.Needs.{may}
use Rattle.row_changes.specs.session_state.core_state.Openings.{Opening}
use Rattle.row_changes.specs.session_state.core_state.States.{State, nodes_of}
use Rattle.row_changes.specs.session_state.core_state.Steps.{happens}
use Rattle.lean_disk.specs.Faults.{HasCause}
use Rattle.lean_disk.specs.Story.{Story}
use Rattle.row_changes.specs.session_state.disk_image.Records.{entry_of}
use Rattle.row_changes.specs.session_state.worker_log.Logs.{Log}
use Rattle.row_changes.specs.session_state.row_words.declared.event.Event.{Event}
use Rattle.row_changes.specs.session_state.row_words.declared.event.Event.TheVariants.{Drop, Join, Miss}
use Rattle.row_changes.specs.session_state.row_words.declared.given.Given.{Given}
use Rattle.row_changes.specs.session_state.row_words.Moments.{Moment, event_of}
use Rattle.row_changes.specs.session_state.row_words.Openings.{opening}
use Rattle.row_changes.specs.session_state.row_words.Sealed.{begun}
use Rattle.row_changes.proofs.session_state.row_words.SealedLemmas.{run_append}
use Rattle.row_changes.specs.session_state.rows_trait.Views.{Shape, after_all, state}
use Rattle.row_changes.specs.session_state.rows_trait.declared.view.View.{View}
use Rattle.row_changes.specs.session_state.flush_avoidance.Clocks.{risen}
use Rattle.row_changes.specs.session_state.Holds.{Holds}
use Rattle.row_changes.specs.session_state.Undo.{HasHand}
use Rattle.row_changes.specs.session_state.declared.session.Session.{Session}
use Rattle.row_changes.proofs.session_state.UndoLemmas.{room_after}
use Rattle.row_tidying.specs.btree_smo.Outcomes.{AreMisses}
use Rattle.row_tidying.specs.tidy_rules.Tidying.{Stage, behind, is_thin, join_under, next_tidy, next_up, page_at}
use Rattle.row_changes.specs.Puts.{works_behind}
use Rattle.row_changes.specs.Ways.{HasMetCold, IsCut, IsWarm}
use Rattle.row_changes.specs.declared.ways.Unmade.{Unmade}
use Rattle.row_changes.specs.declared.ways.Unmade.TheVariants as unmade
use Rattle.row_changes.proofs.Misses.{misses_core}
use Rattle.row_changes.proofs.StepLemmas.{cause_from, clock_at_end, clock_below, ok_calm}
use Rattle.row_tidying.specs.Changes.{CanDrop, CanJoin, IsMade, MayTidy}
use Rattle.row_tidying.specs.Outcomes.{Drops, IsDropped, IsJoined, IsSpentWithin, Joins}
use Rattle.row_walks.specs.Inside.Climbs.{Climbs, IsStill, IsUpMade, IsUpStopped, answer_to}
use Rattle.row_walks.specs.Inside.Leaves.{IsThickLeaf, IsThinLeaf, LeafDoes}
use Rattle.row_walks.specs.Inside.Nexts.{ArePassed, IsNext, IsNextDrop, IsNextJoin, IsWanted, up_from}
use Rattle.row_walks.specs.Stages.{IsNeighbour, IsPassed, MayShrink, left_of, level_of, stage_of}
use Rattle.row_walks.specs.Steps.{IsClean, IsQuietTo, IsShrinkBy, IsTidied, IsWantingNeighbour, Stopped, TidySteps, freed}
use Rattle.row_walks.specs.declared.leaves.Leaf.{Leaf}
use Rattle.row_walks.specs.declared.leaves.Leaf.TheVariants as leaf
use Rattle.row_walks.specs.declared.nexts.Next.{Next}
use Rattle.row_walks.specs.declared.steps.At.{At}
use Rattle.row_walks.specs.declared.steps.At.TheVariants as at
use Rattle.row_walks.specs.declared.steps.Tidied.{Tidied}
use Rattle.row_walks.specs.declared.steps.Tidied.TheVariants as tidied
use Rattle.row_tidying.proofs.MadeLemmas.{one_in}
use Rattle.row_walks.proofs.LevelLemmas.{up_passes}
use Rattle.row_walks.proofs.LookLemmas.{can_drop_on, can_join_on, onward}

-- ## What is asked

pub may_tidy : (x : Session) (log : Log) (a : At) → MayShrink x log 7 a → MayTidy x log
may_tidy x log a f = record { works = f.works; is_open = f.is_open; whole = f.whole; small = f.small; room = let r = f.room in omega arith }

-- ## Behind misses

pub quiet_core : (v u : View) → IsQuietTo v u → (state u).core ≡ (state v).core
quiet_core v u t = ap (λ (n : Moment). n.core) ((λ i. after_all (t.given i) (t.seen i)) ∙ run_append v.given (begun v.given) v.seen t.misses) ∙ misses_core v.given (state v) t.misses t.are_misses

pub quiet_none : (v u : View) → u.given ≡ v.given → u.seen ≡ v.seen → IsQuietTo v u
quiet_none v u given seen = record { misses = []; are_misses = tt; few = omega arith; given = given; seen = seen ∙ sym (append-nil v.seen) }

misses_join : (xs ys : List Event) → AreMisses xs → AreMisses ys → AreMisses (xs ++ ys)
misses_join [] ys a b = b
misses_join (Miss m ∷ xs) ys a b = misses_join xs ys a b
misses_join _ ys a b = absurd a

-- ## A join or a drop, as what was next

module _ (z : Shape) (v : View) (x : Session) (log : Log) (h : Holds z v x log) (key from : ℕ) (w : View) (y : Session) (is : Log) (old new : Story) where
  pub join_made : (a b d page l : ℕ) → IsNextJoin x.own v key from a b d page l → IsJoined a b d page v w x y log is old new → IsUpMade key from (at.From (suc l)) v w x y log is old new
  join_made a b d page l n t =
      let is_left = one_in z v x log h t.left n.can.left a t.left_stands n.can.left_stands in
      let is_parent = one_in z v x log h t.parent n.can.parent d t.parent_stands n.can.parent_stands in
      record {
        event = Join x.own t.left page t.parent;
        by = refl;
        made = t.made;
        next = n.next ∙ (λ i. Some (happening.Event.Join x.own (sym is_left i) page (sym is_parent i)));
        now = λ a. ap Stage.From (sym (ap (λ (p : ℕ). (nodes_of (state v).core p).level) is_parent ∙ n.level));
        fewer = let low = n.low in let high : l < 7 = n.high in omega arith;
      }

  pub drop_made : (frame page : ℕ) → IsNextDrop x.own v key from frame page → IsDropped frame page v w x y log is old new → IsUpMade key from at.Over v w x y log is old new
  drop_made frame page n t = record { event = Drop x.own page; by = refl; made = t.made; next = n.next; now = λ a. refl; fewer = omega arith }

-- by the test behind it
pub climbs_by : (key from : ℕ) (b : At) (v w : View) (x y : Session) (was is : Log) (old new : Story) (same : Type 0) → IsUpMade key from b v w x y was is old new
    → (r : Option Refusal) → clock_refusal y.clock.clock None ≡ r → Climbs (answer_to r b) key from v w x y was is old new same
climbs_by key from b v w x y was is old new same t None e = (t, clock_below y.clock.clock e)
climbs_by key from b v w x y was is old new same t (Some why) e =
    let q = clock_at_end y.clock.clock why e in
    subst (λ (k : Refusal). Climbs (Err (unmade.Unserved (unserved.Refused k))) key from v w x y was is old new same) (sym q.is) (record { behind = b; made = t; spent = q.spent })

-- a join and a drop that were refused
pub join_refused : (key from a b d page : ℕ) (v w : View) (x y : Session) (was is : Log) (old new : Story) (same broken : Type 0) (why : Unserved) → Joins (Err why) a b d page v w x y was is old new same broken
    → Climbs (Err (unmade.Unserved why)) key from v w x y was is old new same
join_refused key from a b d page v w x y was is old new same broken (unserved.Refused refusal.RowSpent) t = t
join_refused key from a b d page v w x y was is old new same broken (unserved.Unanswered unanswered.DiskFault) t = t.0
join_refused key from a b d page v w x y was is old new same broken _ t = absurd t

pub drop_refused : (key from frame page : ℕ) (v w : View) (x y : Session) (was is : Log) (old new : Story) (same broken : Type 0) (why : Unserved) → Drops (Err why) frame page v w x y was is old new same broken
    → Climbs (Err (unmade.Unserved why)) key from v w x y was is old new same
drop_refused key from frame page v w x y was is old new same broken (unserved.Refused refusal.RowSpent) t = t
drop_refused key from frame page v w x y was is old new same broken (unserved.Unanswered unanswered.DiskFault) t = t.0
drop_refused key from frame page v w x y was is old new same broken _ t = absurd t

-- ## From a view at which nothing more was seen

module _ (v u : View) (given : u.given ≡ v.given) (seen : u.seen ≡ v.seen) where
  carried : (P : Given → List Event → Type 0) → P u.given u.seen → P v.given v.seen
  carried P p = subst (λ es. P v.given es) seen (subst (λ k. P k u.seen) given p)

  quiet_from : (w : View) → IsQuietTo u w → IsQuietTo v w
  quiet_from w q = record { misses = q.misses; are_misses = q.are_misses; few = q.few; given = q.given ∙ given; seen = q.seen ∙ ap (λ es. es ++ q.misses) seen }

  tidied_from : (key : ℕ) (a b : At) (w : View) (x y : Session) (was is : Log) (old new : Story) → IsTidied key a b u w x y was is old new → IsTidied key a b v w x y was is old new
  tidied_from key a b w x y was is old new c = record {
    event = c.event;
    by = c.by;
    first = c.first;
    later = c.later;
    are_first = c.are_first;
    are_later = c.are_later;
    few = c.few;
    given = c.given ∙ given;
    seen = c.seen ∙ ap (λ es. es ++ (c.first ++ c.event ∷ c.later)) seen;
    met = carried (λ k es. may (opening k) (after_all k es).core (event_of c.event) ≡ true) c.met;
    happened = carried (λ k es. (state w).core ≡ happens (opening k) (after_all k es).core (event_of c.event)) c.happened;
    next = carried (λ k es. next_tidy x.own (opening k) (after_all k es).core key (stage_of a) ≡ Some (event_of c.event)) c.next;
    now = carried (λ k es. stage_of b ≡ behind (after_all k es).core (stage_of a) (event_of c.event)) c.now;
    entry = c.entry;
    entry_is = carried (λ k es. (happens (opening k) (after_all k es).core (event_of c.event)).entries ≡ entry_of x.own c.entry ∷ (after_all k es).core.entries) c.entry_is;
    after = c.after;
    stands = c.stands;
    keeps = c.keeps;
    short = c.short;
    session = c.session;
    stays = carried (λ k es. (state w).core.place ≡ (after_all k es).core.place) c.stays;
    warm = carried (λ k es. IsWarmFrom (opening k) (after_all k es).core key 0 → IsWarm w key) c.warm;
  }

  spent_from : (most : ℕ) (w : View) → IsSpentWithin most u w → IsSpentWithin most v w
  spent_from most w q = record { misses = q.misses; are_misses = q.are_misses; few = q.few; given = q.given ∙ given; seen = q.seen ∙ ap (λ es. es ++ q.misses) seen; many = q.many }

  pub steps_from : (key : ℕ) (a : At) (w : View) (x y : Session) (was is : Log) (old new : Story) (same : Type 0) (r : Result Tidied Unmade) → (IsErrAnd r IsCut → ⊥) → TidySteps r key a u w x y was is old new same → TidySteps r key a v w x y was is old new same
  steps_from key a w x y was is old new same (Ok tidied.Clean) hot t = (record { quiet = quiet_from w t.0.quiet; next = carried (λ k es. next_tidy x.own (opening k) (after_all k es).core key (stage_of a) ≡ None) t.0.next }, t.1)
  steps_from key a w x y was is old new same (Ok (tidied.Changed b)) hot t = (tidied_from key a b w x y was is old new t.0, carried (λ k es. MayShrink y is (opening k).format.levels b) t.1)
  steps_from key a w x y was is old new same (Ok (tidied.Needs page l)) hot t =
      (record { quiet = quiet_from w t.0.quiet; passed = carried (λ k es. IsPassed x.own (opening k) (after_all k es).core key a l) t.0.passed; neighbour = carried (λ k es. IsNeighbour (opening k) (after_all k es).core key l page) t.0.neighbour }, t.1)
  steps_from key a w x y was is old new same (Err (unmade.Unserved (unserved.Refused refusal.ClockSpent))) hot t = record { behind = t.behind; tidied = tidied_from key a t.behind w x y was is old new t.tidied; spent = t.spent }
  steps_from key a w x y was is old new same (Err (unmade.Unserved (unserved.Refused refusal.RowSpent))) hot t = (spent_from 69 w t.0, t.1)
  steps_from key a w x y was is old new same (Err (unmade.Unserved (unserved.Unanswered unanswered.DiskFault))) hot t = t
  steps_from key a w x y was is old new same (Err (unmade.Cold cold)) hot t = absurd (hot tt)
  steps_from key a w x y was is old new same (Err _) hot t = absurd t

-- ## A step

-- behind a change it may go on
pub may_after : (key : ℕ) (a b : At) (v w : View) (x y : Session) (was is : Log) (old new : Story) → HasHand was → MayShrink x was 7 a → IsTidied key a b v w x y was is old new → suc (left_of 7 b) ≤ left_of 7 a → y.clock.clock < 2 ^ 62 → MayShrink y is 7 b
may_after key a b v w x y was is old new hand f c fewer small = record {
  works = ap (λ (s : Session). s.works) c.session ∙ f.works;
  is_open = ap (λ (s : Session). s.is_open) c.session ∙ f.is_open;
  whole = ap (λ (s : Session). s.is_half_aborted) c.session ∙ f.whole;
  small = small;
  room = room_after c.entry was is (suc (left_of 7 b)) c.short c.after hand (let r = f.room in omega arith);
}

-- by the test behind it
pub tidied_by : (key : ℕ) (a b : At) (v w : View) (x y : Session) (was is : Log) (old new : Story) (same : Type 0) → HasHand was → MayShrink x was 7 a → suc (left_of 7 b) ≤ left_of 7 a → IsTidied key a b v w x y was is old new
    → (r : Option Refusal) → clock_refusal y.clock.clock None ≡ r → TidySteps (answer_to r b) key a v w x y was is old new same
tidied_by key a b v w x y was is old new same hand f fewer t None e = (t, may_after key a b v w x y was is old new hand f t fewer (clock_below y.clock.clock e))
tidied_by key a b v w x y was is old new same hand f fewer t (Some why) e =
    let q = clock_at_end y.clock.clock why e in
    subst (λ (k : Refusal). TidySteps (Err (unmade.Unserved (unserved.Refused k))) key a v w x y was is old new same) (sym q.is) (record { behind = b; tidied = t; spent = q.spent })

-- from the levels that are passed on
pub passed_up : (own : ℕ) (g : Opening) (s : State) (key : ℕ) (a : At) (level : ℕ) → g.format.levels ≡ 7 → IsPassed own g s key a level → next_up own g s key (7 - level_of a) (level_of a) ≡ next_up own g s key (7 - level) level
passed_up own g s key a level seven p =
    let low = p.from in
    let high = p.within in
    let e : level_of a + (level - level_of a) ≡ level = omega arith in
    up_passes own g s key (7 - level_of a) (level_of a) (level - level_of a) (omega arith) (λ j x y. p.thin j x (omega arith)) (λ j x y. p.none j x (omega arith))
    ∙ (let f : (7 - level_of a) - (level - level_of a) ≡ 7 - level = omega arith in λ i. next_up own g s key (f i) (e i))

-- where the way up was gone behind misses
module _ (key : ℕ) (a : At) (level : ℕ) (v u w : View) (x y : Session) (was is : Log) (old new : Story) (t : IsQuietTo v u) (hand : HasHand was) (may_shrink : MayShrink x was 7 a)
    (passed : IsPassed x.own (opening v.given) (state v).core key a level) (up : next_tidy x.own (opening v.given) (state v).core key (stage_of a) ≡ up_from x.own v key level) (fewer : suc (7 - level) ≤ left_of 7 a) where
  abbrev g : Opening
  g = opening v.given

  abbrev s : State
  s = (state v).core

  core : (state u).core ≡ s
  core = quiet_core v u t

  moved : (P : Given → State → Type 0) → P u.given (state u).core → P v.given s
  moved P p = subst (λ (k : Given). P k s) t.given (subst (λ (m : State). P u.given m) core p)

  quiet_on : IsStill u w → IsQuietTo v w
  quiet_on k = record { misses = t.misses; are_misses = t.are_misses; few = t.few; given = k.given ∙ t.given; seen = k.seen ∙ t.seen }

  tidied_on : (b : At) → IsUpMade key level b u w x y was is old new → IsTidied key a b v w x y was is old new
  tidied_on b k = record {
    event = k.event;
    by = k.by;
    first = t.misses;
    later = [];
    are_first = t.are_misses;
    are_later = tt;
    few = let f = t.few in omega arith;
    given = k.made.given ∙ t.given;
    seen = k.made.seen ∙ (ap (λ (es : List Event). es ++ k.event ∷ []) t.seen ∙ append_assoc v.seen t.misses (k.event ∷ []));
    met = moved (λ q m. may (opening q) m (event_of k.event) ≡ true) k.made.met;
    happened = moved (λ q m. (state w).core ≡ happens (opening q) m (event_of k.event)) k.made.happened;
    next = up ∙ moved (λ q m. next_up x.own (opening q) m key (7 - level) level ≡ Some (event_of k.event)) k.next;
    now = moved (λ q m. stage_of b ≡ behind m (stage_of a) (event_of k.event)) (k.now (stage_of a));
    entry = k.made.entry;
    entry_is = moved (λ q m. (happens (opening q) m (event_of k.event)).entries ≡ entry_of x.own k.made.entry ∷ m.entries) k.made.entry_is;
    after = k.made.after;
    stands = k.made.stands;
    keeps = k.made.keeps;
    short = k.made.short;
    session = k.made.session ∙ (λ i. record x { clock = risen x.clock y.clock; first = y.first; free = freed k.event x.free });
    stays = moved (λ q m. (state w).core.place ≡ m.place) k.made.stays;
    warm = moved (λ q m. IsWarmFrom (opening q) m key 0 → IsWarm w key) (k.made.warm key);
  }

  passed_on : (l : ℕ) → ArePassed x.own g s key level l → IsPassed x.own g s key a l
  passed_on l p = record {
    from = let e = passed.from in let f = p.low in omega arith;
    within = p.high;
    thin = λ j low high. elim (cases_lt j level) [ inl less ↦ passed.thin j low less | inr more ↦ p.thin j more high ];
    none = λ j low high. elim (cases_lt j level) [ inl less ↦ passed.none j low less | inr more ↦ p.none j more high ];
  }

  spent_on : IsSpentWithin 8 u w → IsSpentWithin 69 v w
  spent_on k = record {
    misses = t.misses ++ k.misses;
    are_misses = misses_join t.misses k.misses t.are_misses k.are_misses;
    few = let p = t.few in let q = k.few in let c = length-append t.misses k.misses in omega arith;
    given = k.given ∙ t.given;
    seen = k.seen ∙ (ap (λ (es : List Event). es ++ k.misses) t.seen ∙ append_assoc v.seen t.misses k.misses);
    many = k.many;
  }

  pub steps_up : (same : Type 0) (r : Result Tidied Unmade) → Climbs r key level u w x y was is old new same → TidySteps r key a v w x y was is old new same
  steps_up same (Ok tidied.Clean) k = (record { quiet = quiet_on k.0; next = up ∙ moved (λ q m. next_up x.own (opening q) m key (7 - level) level ≡ None) k.1 }, k.2)
  steps_up same (Ok (tidied.Changed b)) k =
      let c = tidied_on b k.0 in
      (c, may_after key a b v w x y was is old new hand may_shrink c (let f : left_of 7 b ≤ 7 - level = k.0.fewer in omega arith) k.1)
  steps_up same (Ok (tidied.Needs page l)) k =
      (record { quiet = quiet_on k.0; passed = passed_on l (moved (λ q m. ArePassed x.own (opening q) m key level l) k.1.passed); neighbour = moved (λ q m. IsNeighbour (opening q) m key l page) k.1.neighbour }, k.2)
  steps_up same (Err (unmade.Unserved (unserved.Refused refusal.ClockSpent))) k = record { behind = k.behind; tidied = tidied_on k.behind k.made; spent = k.spent }
  steps_up same (Err (unmade.Unserved (unserved.Refused refusal.RowSpent))) k = (spent_on k.0, k.1)
  steps_up same (Err (unmade.Unserved (unserved.Unanswered unanswered.DiskFault))) k = k
  steps_up same (Err _) k = absurd k

-- a neighbour that is wanted stands no lower than the level it was gone up from
pub climbs_higher : (key from : ℕ) (v w : View) (x y : Session) (was is : Log) (old new : Story) (same : Type 0) (r : Result Tidied Unmade) → Climbs r key from v w x y was is old new same
    → (page l : ℕ) → r ≡ Ok (tidied.Needs page l) → from ≤ l
climbs_higher key from v w x y was is old new same r t page l e = (subst (λ (k : Result Tidied Unmade). Climbs k key from v w x y was is old new same) e t).1.passed.low

-- behind a change none is wanted
pub answer_wants_none : (clock : ℕ) (b : At) (r : Result Tidied Unmade) → r ≡ answer_to (clock_refusal clock None) b → (page l : ℕ) → r ≡ Ok (tidied.Needs page l) → ⊥
answer_wants_none clock b r e page l q = go (clock_refusal clock None) (sym e ∙ q)
  where
    go : (o : Option Refusal) → answer_to o b ≡ Ok (tidied.Needs page l) → ⊥
    go None p = absurd (cc)
    go (Some why) p = absurd (cc)

-- what came of a leaf
pub leaf_thick : (key : ℕ) (v w : View) (x y : Session) (was is : Log) (old new : Story) (same : Type 0) → LeafDoes (Ok leaf.Thick) key v w x y was is old new same → TidySteps (Ok tidied.Clean) key at.Before v w x y was is old new same
leaf_thick key v w x y was is old new same t = (record { quiet = t.0.quiet; next = t.0.next }, t.1)

pub leaf_refused : (key : ℕ) (v w : View) (x y : Session) (was is : Log) (old new : Story) (same : Type 0) (why : Unserved) → LeafDoes (Err why) key v w x y was is old new same → TidySteps (Err (unmade.Unserved why)) key at.Before v w x y was is old new same
leaf_refused key v w x y was is old new same (unserved.Refused refusal.RowSpent) t =
    (record { misses = t.0.misses; are_misses = t.0.are_misses; few = (let f = t.0.few in omega arith); given = t.0.given; seen = t.0.seen; many = t.0.many }, t.1)
leaf_refused key v w x y was is old new same (unserved.Unanswered unanswered.DiskFault) t = t
leaf_refused key v w x y was is old new same _ t = absurd t

pub leaf_as : (r e : Leaf) → r ≡ e → (key : ℕ) (v w : View) (x y : Session) (was is : Log) (old new : Story) (same : Type 0) → LeafDoes (Ok r) key v w x y was is old new same → LeafDoes (Ok e) key v w x y was is old new same
leaf_as r e is_so key v w x y was is old new same t = subst (λ (k : Leaf). LeafDoes (Ok k) key v w x y was is old new same) is_so t

-- a tidying that is over
pub clean_over : (key : ℕ) (a : At) (v w : View) (own : ℕ) → a ≡ at.Over → IsQuietTo v w → IsClean key a v w own
clean_over key a v w own is t = subst (λ (k : At). IsClean key k v w own) (sym is) (record { quiet = t; next = refl })

-- as of another stage that is the same
pub steps_as : (a e : At) → a ≡ e → (v w : View) (r : Result Tidied Unmade) (key : ℕ) (x y : Session) (was is : Log) (old new : Story) (same : Type 0) → TidySteps r key e v w x y was is old new same → TidySteps r key a v w x y was is old new same
steps_as a e is_so v w r key x y was is old new same t = subst (λ (k : At). TidySteps r key k v w x y was is old new same) (sym is_so) t

pub may_carried : (v u : View) → u.given ≡ v.given → (x : Session) (log : Log) (a : At) → MayShrink x log 7 a → MayShrink x log (opening u.given).format.levels a
may_carried v u given x log a f = f

pub passed_carried : (v u : View) → u.given ≡ v.given → u.seen ≡ v.seen → (own key : ℕ) (a : At) (level : ℕ) → IsPassed own (opening v.given) (state v).core key a level → IsPassed own (opening u.given) (state u).core key a level
passed_carried v u given seen own key a level p = subst (λ (es : List Event). IsPassed own (opening u.given) (after_all u.given es).core key a level) (sym seen) (subst (λ (k : Given). IsPassed own (opening k) (after_all k v.seen).core key a level) (sym given) p)

-- ## What they tell of faults

abbrev freed_refused : Unserved → Result ℕ Unserved
freed_refused why = Err why

abbrev freed_ok : ℕ → Result ℕ Unserved
freed_ok p = Ok p

abbrev pub step_refused : Unserved → Result Tidied Unmade
step_refused why = Err (unmade.Unserved why)

-- a refused change tells of the same faults
pub refused_told : (a b : ℕ) (why : Unserved) → HasCause a b (freed_refused why ≡ freed_refused (unserved.Unanswered unanswered.DiskFault)) → HasCause a b (step_refused why ≡ step_refused (unserved.Unanswered unanswered.DiskFault))
refused_told a b why h = cause_from a a b _ _ refl h (λ q. ap freed_refused (inner q)) (λ q. ap step_refused (outer q))
  where
    inner : step_refused why ≡ step_refused (unserved.Unanswered unanswered.DiskFault) → why ≡ unserved.Unanswered unanswered.DiskFault
    inner q = cc

    outer : freed_refused why ≡ freed_refused (unserved.Unanswered unanswered.DiskFault) → why ≡ unserved.Unanswered unanswered.DiskFault
    outer q = cc

-- the test of the clock is no fault
answer_calm : (clock : ℕ) (b : At) (r : Option Refusal) → clock_refusal clock None ≡ r → answer_to r b ≡ step_refused (unserved.Unanswered unanswered.DiskFault) → ⊥
answer_calm clock b None e q = absurd (cc)
answer_calm clock b (Some why) e q = absurd ((subst (λ (k : Refusal). answer_to (Some k) b ≡ step_refused (unserved.Unanswered unanswered.DiskFault) → ⊥) (sym (clock_at_end clock why e).is) (λ p. absurd (cc))) q)

pub answered_works : (clock : ℕ) (b : At) (r : Result Tidied Unmade) → r ≡ answer_to (clock_refusal clock None) b → works_behind r ≡ true
answered_works clock b r e = ap works_behind e ∙ go (clock_refusal clock None) refl
  where
    go : (o : Option Refusal) → clock_refusal clock None ≡ o → works_behind (answer_to o b) ≡ true
    go None q = refl
    go (Some why) q = refl

pub answered_told : (a c clock : ℕ) (b : At) (f : ℕ) (r : Result Tidied Unmade) → r ≡ answer_to (clock_refusal clock None) b → HasCause a c (freed_ok f ≡ freed_refused (unserved.Unanswered unanswered.DiskFault)) → HasCause a c (r ≡ step_refused (unserved.Unanswered unanswered.DiskFault))
answered_told a c clock b f r e h = cause_from a a c _ _ refl h (λ q. absurd (answer_calm clock b (clock_refusal clock None) refl (sym e ∙ q))) (λ p. absurd (ok_calm f (unserved.Unanswered unanswered.DiskFault) p))

-- a call behind one that told of none
pub behind_told : (a b c : ℕ) (P Q : Type 0) → HasCause a b P → (P → ⊥) → HasCause b c Q → HasCause a c Q
behind_told a b c P Q h calm k = cause_from a b c _ _ (h.calm calm) k (λ q. q) (λ q. q)

-- one answer that tells of none is as another one
pub calm_told : (a b : ℕ) (P Q : Type 0) → HasCause a b P → (P → ⊥) → (Q → ⊥) → HasCause a b Q
calm_told a b P Q h p q = cause_from a a b _ _ refl h (λ k. absurd (q k)) (λ k. absurd (p k))

pub answered_calm : (clock : ℕ) (b : At) (r : Result Tidied Unmade) → r ≡ answer_to (clock_refusal clock None) b → r ≡ step_refused (unserved.Unanswered unanswered.DiskFault) → ⊥
answered_calm clock b r e q = answer_calm clock b (clock_refusal clock None) refl (sym e ∙ q)

abbrev leaf_err : Unserved → Result Leaf Unserved
leaf_err why = Err why

pub leaf_told : (a b : ℕ) (why : Unserved) → HasCause a b (leaf_err why ≡ leaf_err (unserved.Unanswered unanswered.DiskFault)) → HasCause a b (step_refused why ≡ step_refused (unserved.Unanswered unanswered.DiskFault))
leaf_told a b why h = cause_from a a b _ _ refl h (λ q. ap leaf_err (inner q)) (λ q. ap step_refused (outer q))
  where
    inner : step_refused why ≡ step_refused (unserved.Unanswered unanswered.DiskFault) → why ≡ unserved.Unanswered unanswered.DiskFault
    inner q = cc

    outer : leaf_err why ≡ leaf_err (unserved.Unanswered unanswered.DiskFault) → why ≡ unserved.Unanswered unanswered.DiskFault
    outer q = cc

-- ## Behind a hot way

pub answered_hot : (clock : ℕ) (b : At) (r : Result Tidied Unmade) → r ≡ answer_to (clock_refusal clock None) b → IsErrAnd r IsCut → ⊥
answered_hot clock b r e cut = go (clock_refusal clock None) (subst (λ (k : Result Tidied Unmade). IsErrAnd k IsCut) e cut)
  where
    go : (o : Option Refusal) → IsErrAnd (answer_to o b) IsCut → ⊥
    go None q = q
    go (Some why) q = q

pub climbs_hot : (key from : ℕ) (v w : View) (x y : Session) (was is : Log) (old new : Story) (same : Type 0) (r : Result Tidied Unmade) → Climbs r key from v w x y was is old new same → IsErrAnd r IsCut → ⊥
climbs_hot key from v w x y was is old new same (Ok a) t cut = cut
climbs_hot key from v w x y was is old new same (Err (unmade.Cold cold)) t cut = t
climbs_hot key from v w x y was is old new same (Err _) t cut = cut

-- ## From a view at which nothing more was seen, on the way up

pub next_as : (r e : Next) → r ≡ e → (own : ℕ) (v : View) (key from : ℕ) → IsNext r own v key from → IsNext e own v key from
next_as r e is own v key from t = subst (λ (k : Next). IsNext k own v key from) is t

module _ (v u : View) (given : u.given ≡ v.given) (core : (state u).core ≡ (state v).core) (own key from : ℕ) where
  up_on : (e : Option happening.Event) → up_from own v key from ≡ e → up_from own u key from ≡ e
  up_on e = onward v u given core (λ q m. next_up own (opening q) m key (7 - from) from ≡ e)

  pub join_on : (a b d page l : ℕ) → IsNextJoin own v key from a b d page l → IsNextJoin own u key from a b d page l
  unfolding can_join_on
  join_on a b d page l n = record {
    can = can_join_on v u given core a b d page n.can;
    next = up_on (Some (happening.Event.Join own n.can.left page n.can.parent)) n.next;
    low = n.low;
    high = n.high;
    level = onward v u given core (λ q m. (nodes_of m n.can.parent).level ≡ suc l) n.level;
  }

  pub drop_on : (frame page : ℕ) → IsNextDrop own v key from frame page → IsNextDrop own u key from frame page
  drop_on frame page n = record { can = can_drop_on v u given core frame page n.can; next = up_on (Some (happening.Event.Drop own page)) n.next }

module _ (v u : View) (given : u.given ≡ v.given) (seen : u.seen ≡ v.seen) where
  went : (P : Given → List Event → Type 0) → P u.given u.seen → P v.given v.seen
  went P p = subst (λ es. P v.given es) seen (subst (λ k. P k u.seen) given p)

  made_from : (key from : ℕ) (b : At) (w : View) (x y : Session) (was is : Log) (old new : Story) → IsUpMade key from b u w x y was is old new → IsUpMade key from b v w x y was is old new
  made_from key from b w x y was is old new c = record {
    event = c.event;
    by = c.by;
    made = record {
      given = c.made.given ∙ given;
      seen = c.made.seen ∙ ap (λ es. es ++ c.event ∷ []) seen;
      are_misses = tt;
      met = went (λ k es. may (opening k) (after_all k es).core (event_of c.event) ≡ true) c.made.met;
      happened = went (λ k es. (state w).core ≡ happens (opening k) (after_all k es).core (event_of c.event)) c.made.happened;
      entry = c.made.entry;
      entry_is = went (λ k es. (happens (opening k) (after_all k es).core (event_of c.event)).entries ≡ entry_of x.own c.made.entry ∷ (after_all k es).core.entries) c.made.entry_is;
      after = c.made.after;
      stands = c.made.stands;
      keeps = c.made.keeps;
      short = c.made.short;
      session = c.made.session;
      stays = went (λ k es. (state w).core.place ≡ (after_all k es).core.place) c.made.stays;
      warm = λ key. went (λ k es. IsWarmFrom (opening k) (after_all k es).core key 0 → IsWarm w key) (c.made.warm key);
    };
    next = went (λ k es. next_up x.own (opening k) (after_all k es).core key (7 - from) from ≡ Some (event_of c.event)) c.next;
    now = went (λ k es. (a : Stage) → stage_of b ≡ behind (after_all k es).core a (event_of c.event)) c.now;
    fewer = c.fewer;
  }

  spent_went : (most : ℕ) (w : View) → IsSpentWithin most u w → IsSpentWithin most v w
  spent_went most w q = record { misses = q.misses; are_misses = q.are_misses; few = q.few; given = q.given ∙ given; seen = q.seen ∙ ap (λ es. es ++ q.misses) seen; many = q.many }

  pub climbs_from : (key from : ℕ) (w : View) (x y : Session) (was is : Log) (old new : Story) (same : Type 0) (r : Result Tidied Unmade) → Climbs r key from u w x y was is old new same → Climbs r key from v w x y was is old new same
  climbs_from key from w x y was is old new same (Ok tidied.Clean) t = (record { given = t.0.given ∙ given; seen = t.0.seen ∙ seen }, went (λ k es. next_up x.own (opening k) (after_all k es).core key (7 - from) from ≡ None) t.1, t.2)
  climbs_from key from w x y was is old new same (Ok (tidied.Changed b)) t = (made_from key from b w x y was is old new t.0, t.1)
  climbs_from key from w x y was is old new same (Ok (tidied.Needs page l)) t =
      (record { given = t.0.given ∙ given; seen = t.0.seen ∙ seen }, record { passed = went (λ k es. ArePassed x.own (opening k) (after_all k es).core key from l) t.1.passed; neighbour = went (λ k es. IsNeighbour (opening k) (after_all k es).core key l page) t.1.neighbour }, t.2)
  climbs_from key from w x y was is old new same (Err (unmade.Unserved (unserved.Refused refusal.ClockSpent))) t = record { behind = t.behind; made = made_from key from t.behind w x y was is old new t.made; spent = t.spent }
  climbs_from key from w x y was is old new same (Err (unmade.Unserved (unserved.Refused refusal.RowSpent))) t = (spent_went 8 w t.0, t.1)
  climbs_from key from w x y was is old new same (Err (unmade.Unserved (unserved.Unanswered unanswered.DiskFault))) t = t
  climbs_from key from w x y was is old new same (Err _) t = absurd t
