-- A sync of all logs is a part of a call of an engine whose pages have slots.
use Rattle.std.proofs.Common.{◌≡◌, ◌⊎◌, inl, inr, ◌++◌, ℕ, true, List, [], ◌∷◌, refl, sym, ap, ◌∙◌, subst, true≢false}
use Rattle.call_parts.specs.core_state.Events as happening
use Rattle.call_parts.specs.core_state.Openings.{Opening}
use Rattle.call_parts.specs.core_calls.Fronts.{Done, front}
use Rattle.call_parts.specs.core_calls.LogEvents.{AreFlushes, IsSync}
use Rattle.call_parts.specs.disk_runs.Stands.{Known, Stands}
use Rattle.call_parts.specs.disk_slots.declared.master.Master.{Master}
use Rattle.lean_disk.specs.Moments.{LeavesOnly}
use Rattle.lean_disk.specs.Story.{Crash, Story}
use Rattle.call_parts.specs.engine_trait.Areas.{Around, Beside}
use Rattle.call_parts.specs.engine_trait.Calls as resident
use Rattle.call_parts.specs.page_calls.declared.slots.Slot.{Slot}
use Rattle.call_parts.specs.row_words.Moments.{events_of}
use Rattle.call_parts.specs.row_words.Openings.{opening}
use Rattle.call_parts.specs.rows_trait.declared.view.View.{View}
use Rattle.session_desks.specs.Syncs.{IsWritten, SyncFails, SyncGoes}
use Rattle.call_parts.specs.session_state.Ties.{Behind}
use Rattle.call_parts.specs.worker_log.Logs.{Log}
use Rattle.call_parts.specs.Laws.{EveryStill}
use Rattle.call_parts.specs.Rooms.{ArePaging}
use Rattle.call_parts.specs.Steps.{Still, StillBreaks, StillGoes}
use Rattle.desk_parts.specs.Laws.{EverySyncPart, EverySyncSlots}
use Rattle.desk_parts.specs.Syncs.{AreOfSync, memory_with_slots}

-- ## Events

flushes_paging : (es : List happening.Event) → AreFlushes es → ArePaging es
flushes_paging [] a = refl
flushes_paging (happening.Event.Flush w n ∷ es) a = flushes_paging es a
flushes_paging (e ∷ es) a = absurd a

-- flushes, and then a sync
of_flushes : (n : ℕ) (fl : List happening.Event) → AreFlushes fl → AreOfSync (fl ++ happening.Event.Sync n ∷ [])
of_flushes n [] a = record { paging = refl; unsaved = refl; synced = refl }
of_flushes n (happening.Event.Flush w m ∷ fl) a = let r = of_flushes n fl a in record { paging = r.paging; unsaved = r.unsaved; synced = r.synced }
of_flushes n (e ∷ fl) a = absurd a

of_sync : (n : ℕ) (es : List happening.Event) → IsSync n es → AreOfSync es
of_sync n es i = subst AreOfSync (sym i.1) (of_flushes n i.0 i.2)

of_either : (es : List happening.Event) → AreFlushes es ⊎ ((n : ℕ) × IsSync n es) → ArePaging es
of_either es (inl a) = flushes_paging es a
of_either es (inr s) = (of_sync s.0 es s.1).paging

-- ## A sync

module _ (many n : ℕ) (v w : View) (was is : resident.Memory) (slots : List Slot) (old new : Story) (still : EveryStill old new) (workers : (opening v.given).workers ≡ many) where
  whole : (s : SyncGoes many n v w was is old new) → Still many s.events v w (memory_with_slots was slots) is old new
  whole s = record {
    given = s.given;
    seen = s.seen;
    behind = s.behind;
    unsaved = are.unsaved;
    around = subst (λ k. Around many k old new) (sym are.synced) s.around;
    master = λ q. absurd (true≢false (sym are.synced ∙ q));
    no_earlier = s.no_earlier;
    logs = s.logs;
    goes = goes;
  }
    where
      are : AreOfSync (events_of s.events)
      are = of_sync n (events_of s.events) s.are

      goes : (g : Opening) (xs : List Done) (first : List happening.Event) → g.workers ≡ many → Behind g xs first v → (s0 : Crash) (a : Known) → Stands g (front xs ++ first) s0 a old → resident.IsOf g was a → StillGoes g xs first (events_of s.events) s0 a is old new
      goes g xs first same b s0 a st o = let r = s.goes g xs first s0 a (record { many_is = same; behind = b; stands = st; is_of = o }) in record {
        known = r.known;
        moved = r.moved;
        is_of = r.is_of;
        firm = r.firm;
        late = r.late;
        within = subst (λ k. LeavesOnly old new (Beside g.workers k old)) (sym are.synced) r.within;
      }

  breaks : (s : SyncFails many v was old new) → StillBreaks many true s.events v (memory_with_slots was slots) old new
  breaks s = record {
    around = s.around;
    fails = λ g xs first same b s0 a st o. let r = s.leaves g xs first s0 a (record { many_is = same; behind = b; stands = st; is_of = o }) in record { passes = r.passes; within = r.within };
  }

pub every_sync_part : (old new : Story) → EveryStill old new → EverySyncPart old new
every_sync_part old new still many n v w was is slots workers = record {
  part = λ s. (still many v w (memory_with_slots was slots) workers).goes s.events is (whole many n v w was is slots old new still workers s);
  are = λ s. of_sync n (events_of s.events) s.are;
  failed = λ s. (still many v w (memory_with_slots was slots) workers).breaks true s.events (breaks many n v w was is slots old new still workers s);
  paging = λ s. of_either s.events s.are;
}

-- ## The slots

-- the next master has the generation, and as many pages
written_same : {D : Type 0} (story : D → Story) (many n : ℕ) (logs : ℕ → Log) (master next : Master) (old new : D) → IsWritten story many n logs master next old new → (next.generation ≡ master.generation) × (next.pages ≡ master.pages)
written_same story many n logs master next old new (IsWritten.Still ends same next_is) = (ap (λ (m : Master). m.generation) next_is, ap (λ (m : Master). m.pages) next_is)
written_same story many n logs master next old new (IsWritten.Wrote behind syncs writing next_is) = (ap (λ (m : Master). m.generation) next_is, ap (λ (m : Master). m.pages) next_is)

pub sync_slots : {D : Type 0} (story : D → Story) (old new : D) → EverySyncSlots story old new
sync_slots story old new many n v w was is slots k made held = let same = written_same story many n made.logs was.master is.master made.between new made.written in record {
  slots = held.slots;
  generation = same.0 ∙ held.generation;
  count = held.count ∙ sym same.1;
}
