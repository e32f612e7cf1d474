-- A part is one however its memory is written.
use Rattle.std.proofs.Common.{◌≡◌, ℕ, Bool, List, Some, sym, ◌∙◌, subst, arith}
use Rattle.std.specs.Prelude.{slice_get}
use Rattle.session_state.specs.core_state.Openings.{Opening}
use Rattle.session_state.specs.core_state.Events as happening
use Rattle.session_state.specs.core_state.States.{State}
use Rattle.session_state.specs.core_calls.Fronts.{Done}
use Rattle.session_state.specs.disk_runs.Masters.{IsNoEarlier}
use Rattle.session_state.specs.disk_runs.Stands.{Known}
use Rattle.session_state.specs.disk_slots.declared.master.Master.{Master}
use Rattle.lean_disk.specs.Story.{Story}
use Rattle.page_calls.specs.declared.slots.Slot.{Slot}
use Rattle.session_state.specs.row_words.declared.event.Event.{Event}
use Rattle.session_state.specs.row_words.Moments.{events_of}
use Rattle.session_state.specs.row_words.Openings.{opening}
use Rattle.session_state.specs.rows_trait.declared.view.View.{View}
use Rattle.session_state.specs.worker_log.Logs.{Log}
use Rattle.session_state.specs.engine_calls.Parts.{behind_first}
use Rattle.session_state.specs.engine_trait.Logs.{Logs}
use Rattle.session_state.specs.Ties.{Behind}
use Rattle.call_parts.specs.Laws.{EveryMemory}
use Rattle.call_parts.specs.Memory.{IsOf, IsSame, Memory}
use Rattle.call_parts.specs.Parts.{Failed, Logged, Part}

-- the same is known of a disk
same_of : (many : ℕ) (g : Opening) (m n : Memory) (k : Known) → g.workers ≡ many → IsSame many m n → IsOf g m k → IsOf g n k
same_of many g m n k workers s o = record {
  log = λ w lo hi. o.log w lo hi ∙ sym (s.log w lo (let q = workers in let h = hi in omega arith));
  master = o.master ∙ sym s.master;
  slots = λ p x e. o.slots p x (subst (λ (slots : List Slot). slice_get slots p ≡ Some x) s.slots e);
}

back : (many : ℕ) (m n : Memory) → IsSame many m n → IsSame many n m
back many m n s = record { log = λ w lo hi. sym (s.log w lo hi); master = sym s.master; slots = sym s.slots }

module _ (many : ℕ) (v w : View) (was is was_too is_too : Memory) (old new : Story) (workers : (opening v.given).workers ≡ many) (before : IsSame many was was_too) (behind : IsSame many is is_too) where
  -- what was so of the one was so of the other
  was_of : (g : Opening) (xs : List Done) (first : List happening.Event) → Behind g xs first v → (a : Known) → IsOf g was_too a → IsOf g was a
  was_of g xs first b a o = same_of many g was_too was a (b.opens.workers ∙ workers) (back many was was_too before) o

  logged : (g : Opening) (s : State) (es : List happening.Event) → Logged many g s es was is → Logged many g s es was_too is_too
  logged g s es l = record {
    met = l.met;
    logs = λ u lo hi. subst (λ (x : Log). Logs u g s es x (is_too.log u)) (sym (before.log u lo hi)) (subst (λ (x : Log). Logs u g s es (was.log u) x) (sym (behind.log u lo hi)) (l.logs u lo hi));
  }

  part : (es : List Event) → Part many es v w was is old new → Part many es v w was_too is_too old new
  part es p = record {
    given = p.given;
    seen = p.seen;
    around = p.around;
    master = λ q. behind.master ∙ (p.master q ∙ sym before.master);
    no_earlier = subst (λ (m : Master). IsNoEarlier (events_of es) m is_too.master) (sym before.master) (subst (λ (m : Master). IsNoEarlier (events_of es) was.master m) (sym behind.master) p.no_earlier);
    logged = λ g xs first b. logged g (behind_first g xs first) (events_of es) (p.logged g xs first b);
    goes = λ g xs first b s0 a st o. let x = p.goes g xs first b s0 a st (was_of g xs first b a o) in record { known = x.known; moved = x.moved; has = same_of many g is is_too x.known (b.opens.workers ∙ workers) behind x.has; within = x.within };
  }

  failed : (saves syncs : Bool) (es : List happening.Event) → Failed many saves syncs es v was old new → Failed many saves syncs es v was_too old new
  failed saves syncs es f = record { around = f.around; fails = λ g xs first b s0 a st o. f.fails g xs first b s0 a st (was_of g xs first b a o) }

pub every_memory : (old new : Story) → EveryMemory old new
every_memory old new many v w was is was_too is_too workers before behind = record {
  part = part many v w was is was_too is_too old new workers before behind;
  failed = failed many v w was is was_too is_too old new workers before behind;
}
