-- The spot of a key in its leaf, and what a del there does from the way on.
use Rattle.std.proofs.Common.{◌≡◌, ◌%◌, ℕ, true, List, [], length, Option, Some, None, Result, Ok, Err, sym, ◌∙◌, subst}
use Rattle.map_model.specs.declared.call.Refusal.TheVariants as refusal
use Rattle.session_state.specs.engine_trait.declared.unserved.Unanswered.TheVariants as unanswered
use Rattle.session_state.specs.engine_trait.declared.unserved.Unserved.TheVariants as unserved
use Rattle.session_state.specs.core_state.Needs.{is_held_by}
use Rattle.lean_disk.specs.Story.{Story}
use Rattle.session_state.specs.row_words.declared.event.Event.{Event}
use Rattle.session_state.specs.row_words.declared.given.Given.{Given}
use Rattle.session_state.specs.row_words.Moments.{Moment}
use Rattle.session_state.specs.rows_trait.Causes.{EveryLow}
use Rattle.session_state.specs.rows_trait.Turns.{Ran}
use Rattle.session_state.specs.rows_trait.Views.{AreLow, Shape, after_all}
use Rattle.session_state.specs.rows_trait.declared.view.View.{View}
use Rattle.session_state.specs.btree_descent.Puts.{IsRowSpent}
use Rattle.session_state.specs.btree_descent.Spots.{Located}
use Rattle.session_state.specs.btree_descent.declared.put.Spot.{Spot}
use Rattle.session_state.specs.worker_log.Logs.{Log}
use Rattle.session_state.specs.Holds.{Holds}
use Rattle.session_state.specs.declared.session.Session.{Session}
use Rattle.row_changes.specs.Dels.{Dels}
use Rattle.row_changes.specs.Puts.{IsChanged, MayWrite}
use Rattle.row_changes.specs.Reads.{HasRead}
use Rattle.row_changes.specs.Spots.{HasSpot, IsSpotFor}
use Rattle.row_changes.specs.Takes.{IsSpent}
use Rattle.row_changes.specs.Ways.{IsWarm}
use Rattle.row_changes.specs.declared.ways.Unmade.{Unmade}
use Rattle.row_changes.specs.declared.ways.Unmade.TheVariants as unmade
use Rattle.row_changes.proofs.PutLemmas.{spent_many}
use Rattle.row_changes.proofs.SeenLemmas.{none_seen}

-- the way led to it
pub spot_for : (z : Shape) (v w : View) (x : Session) (log : Log) (key : ℕ) (s : Spot) → Holds z v x log → Located z x.own x.frames key v s w → IsSpotFor z v w x key s
spot_for z v w x log key s h l = record {
  given = l.ran.given;
  seen = none_seen z.alone v w h.alone l.ran;
  spot = record { at = l.spot; start = v; found = l.found; latest = l.latest h.alone h.idle };
}

-- on rows of the same shape, by a session that is the same beside its numbers
pub spot_as : (z y : Shape) (v w : View) (x : Session) (key : ℕ) (s : Spot) → y ≡ z → IsSpotFor z v w x key s → HasSpot y w x key s
spot_as z y v w x key s e i = subst (λ (k : Shape). HasSpot k w x key s) (sym e) i.spot

-- a version that is spent was loaded since the way began
pub spent_since : EveryLow → (z : Shape) (row : ℕ) (u v w : View) → z.alone ≡ true → Ran z.alone v [] w → AreLow (length w.seen) w.steps → IsRowSpent row u w → IsSpent v w
spent_since low z row u v w alone ran are r = record { given = ran.given; seen = none_seen z.alone v w alone ran; many = spent_many low row u w are r }

-- ## From where the way began

module _ (v u : View) (given : u.given ≡ v.given) (seen : u.seen ≡ v.seen) where
  -- what is so of where it led is so of where it began
  back : (P : Given → List Event → Type 0) → P u.given u.seen → P v.given v.seen
  back P p = subst (P v.given) seen (subst (λ (g : Given). P g u.seen) given p)

  pub may_there : {many : ℕ} (x : Session) (log : Log) (key : ℕ) → MayWrite many v x log key → MayWrite many u x log key
  may_there x log key m = record {
    works = m.works;
    is_open = m.is_open;
    whole = m.whole;
    few = m.few;
    small = m.small;
    room = m.room;
    row = subst (λ (k : Moment). is_held_by (k.core.row (key % x.held.count)).holder x.own ≡ true) (λ i. after_all (sym given i) (sym seen i)) m.row;
    key_low = m.key_low;
  }

  pub warm_there : (key : ℕ) → IsWarm v key → IsWarm u key
  warm_there key warm = go u.given u.seen (sym given) (sym seen)
    where
      go : (g : Given) (es : List Event) → v.given ≡ g → v.seen ≡ es → IsWarm (record u { given = g; seen = es }) key
      go g es p q = subst (λ (ys : List Event). IsWarm (record u { given = g; seen = ys }) key) q (subst (λ (k : Given). IsWarm (record u { given = k; seen = v.seen }) key) p warm)

  changed_from : (w : View) (own key value : ℕ) (before : Option ℕ) (was is : Log) (old new : Story) → IsChanged own u w key value before was is old new → IsChanged own v w key value before was is old new
  changed_from w own key value before was is old new c = go v.given v.seen given seen
    where
      go : (g : Given) (es : List Event) → u.given ≡ g → u.seen ≡ es → IsChanged own (record v { given = g; seen = es }) w key value before was is old new
      go g es p q = subst (λ (ys : List Event). IsChanged own (record v { given = g; seen = ys }) w key value before was is old new) q
          (subst (λ (k : Given). IsChanged own (record v { given = k; seen = u.seen }) w key value before was is old new) p
          (record { page = c.page; given = c.given; seen = c.seen; met = c.met; told = c.told; entry = c.entry; entry_is = c.entry_is; after = c.after; stands = c.stands; keeps = c.keeps }))

  read_from : (w : View) (own key : ℕ) (value : Option ℕ) → HasRead own u w key value → HasRead own v w key value
  read_from w own key value r = go v.given v.seen given seen
    where
      go : (g : Given) (es : List Event) → u.given ≡ g → u.seen ≡ es → HasRead own (record v { given = g; seen = es }) w key value
      go g es p q = subst (λ (ys : List Event). HasRead own (record v { given = g; seen = ys }) w key value) q
          (subst (λ (k : Given). HasRead own (record v { given = k; seen = u.seen }) w key value) p
          (record { page = r.page; given = r.given; seen = r.seen; met = r.met; told = r.told }))

  -- by answer
  pub dels_from : (r : Result (Option ℕ) Unmade) (own : ℕ) (w : View) (key : ℕ) (was is : Log) (old new : Story) (same same_disk : Type 0) → Dels r own u w key was is old new same same_disk → Dels r own v w key was is old new same same_disk
  dels_from (Ok (Some before)) own w key was is old new same same_disk d = changed_from w own key _ (Some before) was is old new d
  dels_from (Ok None) own w key was is old new same same_disk d = (read_from w own key None d.0, d.1, d.2)
  dels_from (Err (unmade.Unserved (unserved.Refused refusal.RowSpent))) own w key was is old new same same_disk d =
      (record { given = d.0.given ∙ given; seen = d.0.seen ∙ seen; many = d.0.many }, d.1)
  dels_from (Err (unmade.Unserved (unserved.Unanswered unanswered.DiskFault))) own w key was is old new same same_disk d = d
  dels_from (Err (unmade.Cold cold)) own w key was is old new same same_disk d =
      (record { given = d.0.given ∙ given; seen = d.0.seen ∙ seen; cold = d.0.cold }, d.1)
  dels_from (Err why) own w key was is old new same same_disk d = absurd d
