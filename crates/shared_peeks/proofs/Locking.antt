-- What a lock leaves: who has locked a row is in a transaction still.
use Rattle.std.proofs.Common.{◌≡◌, ◌+◌, ◌<◌, ◌≤◌, ◌^◌, ◌&&◌, ℕ, Bool, true, false, List, [], ◌∷◌, ◌++◌, refl, sym, ap, subst, ◌∙◌, eq-eqb}
use Rattle.std.proofs.lemmas.Bool.{cond-true}
use Rattle.map_model.specs.Lists.{upd}
use Rattle.btree_descent.specs.core_state.Needs as core
use Rattle.btree_descent.specs.core_state.Needs.{may_hold}
use Rattle.btree_descent.specs.core_state.States.{State}
use Rattle.btree_descent.specs.core_state.Steps.{at_row, happens}
use Rattle.btree_descent.specs.core_state.Events as happening
use Rattle.btree_descent.specs.row_words.declared.event.Event.{Event}
use Rattle.btree_descent.specs.row_words.declared.event.Event.TheVariants as told
use Rattle.btree_descent.specs.row_words.declared.event.Mode.TheVariants as told_mode
use Rattle.btree_descent.specs.row_words.declared.given.Given.{Given}
use Rattle.btree_descent.specs.row_words.Moments.{Moment, event_of}
use Rattle.btree_descent.specs.row_words.Openings.{opening}
use Rattle.btree_descent.specs.row_words.Sealed.{begun, stepped}
use Rattle.btree_descent.proofs.row_words.SealedLemmas.{run_append}
use Rattle.btree_descent.specs.rows_trait.declared.view.View.{View}
use Rattle.btree_descent.specs.rows_trait.Views.{AreTame, Shape, after_all, state}
use Rattle.btree_descent.specs.rows_trait.Turns.{Ran}
use Rattle.btree_descent.specs.Known.{IsSound}
use Rattle.key_locks.specs.Rows as keys
use Rattle.key_locks.specs.declared.locking.Refusal.{Refusal}
use Rattle.key_locks.specs.declared.locking.Refusal.TheVariants as refusal
use Rattle.key_locks.specs.declared.locking.Stamp.{Stamp}
use Rattle.key_locks.specs.declared.mode.Mode.{Mode}
use Rattle.key_locks.specs.declared.mode.Mode.TheVariants as mode
use Rattle.key_locks.specs.Locking.{HasLock, Refuses}
use Rattle.shared_rows.specs.Parts.{Taker}
use Rattle.shared_rows.specs.Ruled.{newcomer}
use Rattle.shared_rows.specs.declared.rows.SharedRows.{SharedRows}
use Rattle.shared_peeks.specs.Locked.{CanLock}
use Rattle.shared_peeks.proofs.Two.{can_start}

pub refused_ran : (worker row i : ℕ) (m : Mode) (v w : View) (r : Refusal) → Refuses false worker row i m v r w → (es : List Event) × Ran false v es w
refused_ran worker row i m v w (refusal.Conflict b) d = ([], d.ran)
refused_ran worker row i m v w (refusal.Moved l) d = (told.Miss worker ∷ [], d.ran)
refused_ran worker row i m v w (refusal.Latched l) d = (told.Miss worker ∷ [], d.ran)
refused_ran worker row i m v w (refusal.RowSpent q) d = ([], d.ran)

and_first : (a b : Bool) → (a && b) ≡ true → a ≡ true
and_first true b e = refl
and_first false b e = e

upd_here : {A : Type 0} (f : ℕ → A) (w : ℕ) (a : A) → upd f w a w ≡ a
upd_here f w a = rw (eq-eqb w w refl) refl

met_core : (v : Given) (m : Moment) (e : Event) → core.may (opening v) m.core (event_of e) ≡ true → (stepped v m e).core ≡ happens (opening v) m.core (event_of e)
unfolding stepped
met_core v m e ok = cond-true (core.may (opening v) m.core (event_of e)) (happens (opening v) m.core (event_of e)) m.core ok

pub open_after : (worker i : ℕ) (stamp : Stamp) (v w : View) → HasLock false worker i mode.Alone v stamp w → ((state w).core.worker worker).is_open ≡ true
open_after worker i stamp v w h =
    let p = h.published in
    let past = v.seen ++ p.between in
    let m = after_all v.given past in
    let e = told.Lock worker i told_mode.Alone in
    let at : state w ≡ stepped v.given m e = (λ j. after_all (p.ran.given j) (p.seen j)) ∙ run_append v.given (begun v.given) past (e ∷ []) in
    let is : (state w).core.worker worker ≡ at_row worker (m.core.worker worker) (m.core.row i) = ap (λ (q : Moment). q.core.worker worker) at ∙ (ap (λ (s : State). s.worker worker) (met_core v.given m e p.met) ∙ upd_here m.core.worker worker _) in
    ap (λ a. a.is_open) is ∙ and_first (m.core.worker worker).is_open (may_hold (m.core.row i) worker happening.Mode.Alone) p.met

-- the sizes are those of what is given
pub keys_on : (z : Shape) (v w : View) (worker frames count : ℕ) → w.given ≡ v.given → keys.Sized z v worker frames count → keys.Sized z w worker frames count
keys_on z v w worker frames count same s = record {
  spans = s.spans;
  given = ap (λ (g : Given). (opening g).frames) same ∙ s.given;
  locks = ap (λ (g : Given). g.rows) same ∙ s.locks;
  few = subst (λ (g : Given). (opening g).workers ≤ 16) (sym same) s.few;
  works = subst (λ (g : Given). keys.IsWorker (opening g).workers worker) (sym same) s.works;
}

-- a seat that has just been made may lock, where its worker was in a transaction
pub can_lock : (r : SharedRows) (v : View) (frames locks a : ℕ) (t : Taker) → t.table_id ≡ r.table.shared.table_id → t.me ≡ (newcomer a v.given v.seen, []) → r.frames ≡ frames → r.locks ≡ locks
    → 0 < frames → (opening v.given).frames ≡ frames → IsSound v.given → AreTame v.given (begun v.given) v.seen
    → 0 < locks → frames + locks < 2 ^ 32 → v.given.rows ≡ locks → (opening v.given).workers ≤ 16 → keys.IsWorker (opening v.given).workers a → keys.IsSound v.given → ((state v).core.worker a).is_open ≡ true
    → CanLock r frames locks (record { seat = t; worker = a; good = 0 })
can_lock r v frames locks a t own me frames_is locks_is some given sound tame some_lock small rows few works keys_sound is_open =
    let u : t.me.0 ≡ newcomer a v.given v.seen = ap (λ z. z.0) me in
    let same = ap (λ z. z.given) u in record {
      can = (can_start r v frames a t own me frames_is some given sound tame).0;
      sized = record {
        spans = record { shape = frames_is; rows = locks_is; some = some_lock; small = small };
        given = ap (λ (g : Given). (opening g).frames) same ∙ given;
        locks = ap (λ (g : Given). g.rows) same ∙ rows;
        few = subst (λ (g : Given). (opening g).workers ≤ 16) (sym same) few;
        works = subst (λ (g : Given). keys.IsWorker (opening g).workers a) (sym same) works;
      };
      sound = subst keys.IsSound (sym same) keys_sound;
      is_open = ap (λ (z : View). ((state z).core.worker a).is_open) u ∙ is_open;
    }
