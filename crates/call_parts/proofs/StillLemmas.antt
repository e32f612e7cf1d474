-- What touches no page is a part of a call.
use Rattle.std.proofs.Common.{◌≡◌, inl, inr, ◌++◌, ℕ, Bool, false, List, sym, ap, ◌∙◌, subst}
use Rattle.map_model.specs.Lists.{any}
use Rattle.session_state.specs.core_state.Openings.{Opening}
use Rattle.session_state.specs.core_state.Events as happening
use Rattle.session_state.specs.core_state.Local.{is_sync}
use Rattle.session_state.specs.core_state.Steps.{state_after}
use Rattle.session_state.specs.core_calls.Fronts.{Done, front}
use Rattle.session_state.specs.disk_runs.Stands.{Known, Stands}
use Rattle.lean_disk.proofs.MomentLemmas.{weaker}
use Rattle.lean_disk.specs.Moments.{LeavesOnly}
use Rattle.lean_disk.specs.Story.{Crash, Story}
use Rattle.page_calls.specs.Slots.{is_some}
use Rattle.session_state.specs.row_words.declared.event.Event.{Event}
use Rattle.session_state.specs.row_words.Moments.{events_of}
use Rattle.session_state.specs.row_words.Openings.{opening}
use Rattle.session_state.specs.rows_trait.declared.view.View.{View}
use Rattle.session_state.specs.engine_calls.Parts.{behind_first}
use Rattle.session_state.specs.engine_trait.Areas as areas
use Rattle.session_state.specs.engine_trait.Calls as resident
use Rattle.session_state.specs.Ties.{Behind}
use Rattle.call_parts.specs.Areas.{Around, Beside, IsAside}
use Rattle.call_parts.specs.Laws.{EveryStill}
use Rattle.call_parts.specs.Memory.{IsOf, Memory}
use Rattle.call_parts.specs.Parts.{Failed, GoesOn, Part}
use Rattle.call_parts.specs.Steps.{Still, StillBreaks, StillGoes, resident_of, with_resident}
use Rattle.call_parts.proofs.RunLemmas.{met_later}

-- ## Areas

aside_too : (n : ℕ) (b : Bool) (x : ℕ) → IsAside n false b x → areas.IsAside n b x
aside_too n b x (inl i) = inl i.0
aside_too n b x (inr i) = inr i

around_too : (n : ℕ) (b : Bool) (old new : Story) → areas.Around n b old new → Around n false b old new
around_too n b old new r = record { notes = r.notes; tells = r.tells; areas = r.areas; counts = r.counts; later = r.later; past = r.past; aside = λ x i. r.aside x (aside_too n b x i); first = r.first }

within_too : (n many : ℕ) (b : Bool) (old new : Story) → n ≡ many → LeavesOnly old new (areas.Beside n b old) → LeavesOnly old new (Beside many false b old)
within_too n many b old new e r = subst (λ k. LeavesOnly old new (Beside k false b old)) e (weaker old new (areas.Beside n b old) (Beside n false b old) (λ c is. record {
  notes = is.notes;
  writes = λ x i told. is.writes x (aside_too n b x i) told;
  leaves = λ x i told. is.leaves x (aside_too n b x i) told;
}) r)

-- ## Parts

module _ (many : ℕ) (v w : View) (was : Memory) (old new : Story) (workers : (opening v.given).workers ≡ many) where
  -- of slots nothing is asked
  held : (g : Opening) (a : Known) → IsOf g was a → resident.IsOf g (resident_of was) a
  held g a o = record { log = o.log; master = o.master }

  goes : (es : List Event) (is : resident.Memory) → Still many es v w was is old new → Part many es v w was (with_resident is was) old new
  goes es is s = record {
    given = s.given;
    seen = s.seen;
    around = subst (λ k. Around many k (any is_sync (events_of es)) old new) (sym s.unsaved) (around_too many (any is_sync (events_of es)) old new s.around);
    master = s.master;
    no_earlier = s.no_earlier;
    logged = λ g xs first b. record { met = met_later g (state_after g (front xs)) first (events_of es) (s.behind g xs first b).met; logs = λ u lo hi. s.logs u lo hi g (behind_first g xs first) };
    goes = on;
  }
    where
      on : (g : Opening) (xs : List Done) (first : List happening.Event) → Behind g xs first v → (s0 : Crash) (a : Known) → Stands g (front xs ++ first) s0 a old → IsOf g was a → GoesOn many g xs first (events_of es) s0 a (with_resident is was) old new
      on g xs first b s0 a st o = record {
        known = r.known;
        moved = r.moved;
        has = record { log = r.is_of.log; master = r.is_of.master; slots = λ p x q. (ap (λ f. (f p).slot) r.firm ∙ (o.slots p x q).0, ap (λ f. is_some (f p)) r.late ∙ (o.slots p x q).1) };
        within = subst (λ k. LeavesOnly old new (Beside many k (any is_sync (events_of es)) old)) (sym s.unsaved) (within_too g.workers many (any is_sync (events_of es)) old new (b.opens.workers ∙ workers) r.within);
      }
        where
          r : StillGoes g xs first (events_of es) s0 a is old new
          r = s.goes g xs first (b.opens.workers ∙ workers) b s0 a st (held g a o)

  breaks : (syncs : Bool) (es : List happening.Event) → StillBreaks many syncs es v was old new → Failed many false syncs es v was old new
  breaks syncs es s = record {
    around = around_too many syncs old new s.around;
    fails = λ g xs first b s0 a st o. let r = s.fails g xs first (b.opens.workers ∙ workers) b s0 a st (held g a o) in record { passes = r.passes; within = within_too g.workers many syncs old new (b.opens.workers ∙ workers) r.within };
  }

pub every_still : (old new : Story) → EveryStill old new
every_still old new many v w was workers = record { goes = goes many v w was old new workers; breaks = breaks many v w was old new workers }
