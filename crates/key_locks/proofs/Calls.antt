-- What stays over the steps of a call, and a publish as its earlier steps count it.
use Rattle.std.proofs.Common.{◌≡◌, ℕ, Bool, [], ◌∷◌, ◌++◌, sym, ap, subst, ◌∙◌, append_assoc}
use Rattle.lean_proto.specs.core_state.States.{Row}
use Rattle.lean_proto.specs.core_state.Needs as core
use Rattle.lean_proto.specs.row_words.declared.event.Event.{Event}
use Rattle.lean_proto.specs.row_words.declared.given.Given.{Given}
use Rattle.lean_proto.specs.row_words.Moments.{event_of}
use Rattle.lean_proto.specs.row_words.Openings.{opening}
use Rattle.lean_proto.specs.rows_trait.declared.view.View.{View}
use Rattle.lean_proto.specs.rows_trait.Views.{after_all}
use Rattle.lean_proto.specs.rows_trait.Turns.{Ran}
use Rattle.lean_proto.proofs.rows_trait.Runs.{ran_append}
use Rattle.key_locks.specs.Rows.{IsSound}
use Rattle.key_locks.specs.Locking.{IsPublished}

pub sound_given : (v w : View) → w.given ≡ v.given → IsSound v.given → IsSound w.given
sound_given v w same s = subst IsSound (sym same) s

pub workers_given : (v w : View) → w.given ≡ v.given → (opening w.given).workers ≡ (opening v.given).workers
workers_given v w same = ap (λ (g : Given). (opening g).workers) same

-- a publish counts from an earlier view too, and the row was the same there
pub published_before : (alone : Bool) (e : Event) (i : ℕ) (o p : Row) (v u w : View) → Ran alone v [] u → IsPublished alone e i o p u w → IsPublished alone e i o p v w
published_before alone e i o p v u w r q = record {
  ran = ran_append alone v [] u (e ∷ []) w r q.ran;
  between = r.more ++ q.between;
  seen = q.seen ∙ ap (λ s. s ++ e ∷ []) whole;
  met = (λ j. core.may (opening (sym r.given j)) (after_all (sym r.given j) (sym whole j)).core (event_of e)) ∙ q.met;
  was = (λ j. (after_all (sym r.given j) (sym whole j)).core.row i) ∙ q.was;
  now = q.now;
}
  where
    whole : u.seen ++ q.between ≡ v.seen ++ (r.more ++ q.between)
    whole = ap (λ s. s ++ q.between) r.seen ∙ append_assoc v.seen r.more q.between
