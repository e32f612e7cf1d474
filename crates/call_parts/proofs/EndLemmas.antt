-- How a call ends by its parts.
use Rattle.std.proofs.Common.{◌≡◌, ◌≤◌, ◌^◌, ◌++◌, ℕ, Bool, true, false, List, [], ◌∷◌, length, refl, sym, ap, ◌∙◌, subst, arith}
use Rattle.std.proofs.lemmas.List.{append-nil}
use Rattle.map_model.specs.Lists.{any}
use Rattle.map_model.specs.declared.call.Answer.{Answer}
use Rattle.map_model.specs.declared.call.Call.{Call}
use Rattle.map_model.specs.declared.call.Call.TheVariants as call
use Rattle.session_state.specs.core_state.Openings.{Opening}
use Rattle.session_state.specs.core_state.Events as happening
use Rattle.session_state.specs.core_state.Local.{is_sync}
use Rattle.session_state.specs.core_state.Steps.{state_after}
use Rattle.session_state.specs.core_calls.Deeds.{answered, asked}
use Rattle.session_state.specs.core_calls.Fronts.{Done, front, outcomes}
use Rattle.session_state.specs.core_calls.Runs.{Tells}
use Rattle.session_state.specs.core_calls.Steps.{call_behind}
use Rattle.session_state.specs.disk_runs.Masters.{IsNoEarlier}
use Rattle.session_state.specs.disk_runs.Moments.{LeavesSome}
use Rattle.session_state.specs.disk_runs.Stands.{Known, Stands}
use Rattle.session_state.proofs.disk_runs.MomentLemmas.{both, some_laws}
use Rattle.lean_disk.proofs.MomentLemmas.{weaker}
use Rattle.lean_disk.specs.Moments.{LeavesOnly}
use Rattle.lean_disk.specs.Story.{Crash, Story}
use Rattle.session_state.specs.run_crashes.Lines.{CallLeaves}
use Rattle.session_state.specs.row_words.declared.event.Event.{Event}
use Rattle.session_state.specs.row_words.Moments.{events_of}
use Rattle.session_state.specs.rows_trait.declared.view.View.{View}
use Rattle.session_state.specs.engine_calls.Clauses.{Between}
use Rattle.session_state.specs.engine_calls.Parts.{Passes}
use Rattle.session_state.specs.engine_trait.Calls.{is_half_done}
use Rattle.session_state.specs.engine_trait.Limits.{limits}
use Rattle.session_state.specs.engine_trait.Logs.{Logs}
use Rattle.session_state.specs.Ties.{Behind, Ties}
use Rattle.call_parts.specs.Areas.{Around, Beside, is_save}
use Rattle.call_parts.specs.Deeds.{Answers, Does, Fails, Keeps, Stops}
use Rattle.call_parts.specs.Laws.{EndLaws, EveryEnd}
use Rattle.call_parts.specs.Memory.{IsOf, Memory}
use Rattle.call_parts.specs.Parts.{Failed, FailsIn, GoesOn, Logged, Part}
use Rattle.call_parts.specs.Rooms.{IsRoomFor, may_save, may_sync, most_of}
use Rattle.call_parts.proofs.AreaLemmas.{around_wider, within_wider}
use Rattle.call_parts.proofs.RunLemmas.{behind_more}

-- each call may have so many events
pub most_least : (c : Call) → 2 ^ 18 ≤ most_of c
most_least (call.Scan from to) = omega arith
most_least _ = omega arith

module _ (g : Opening) (group : ℕ) (xs : List Done) (own : ℕ) (half : Bool) (c : Call) (v : View) (was : Memory) (t : Ties g group xs own half v) (none : t.loads ≡ []) (old new : Story) where
  -- before its first event
  start : Behind g xs [] v
  start = subst (λ ys. Behind g xs ys v) none (record { opens = t.opens; met = t.met; seen = t.seen })

  module _ (s0 : Crash) (k : Known) (b : Between limits g group xs s0 k old) where
    stands : Stands g (front xs ++ []) s0 k old
    stands = subst (λ ys. Stands g ys s0 k old) (sym (append-nil (front xs))) b.stands

    -- what a crash leaves at each moment
    leaves : (es : List happening.Event) → Passes g xs [] es s0 k old new → LeavesOnly old new (CallLeaves g xs es s0 k.master)
    leaves es p = weaker old new (λ e. (e.notes ≡ old.notes) × LeavesSome g (front xs ++ []) es s0 k.master e) (CallLeaves g xs es s0 k.master)
        (λ e h. record { notes = h.0 ∙ b.notes; some = subst (λ ys. LeavesSome g ys es s0 k.master e) (append-nil (front xs)) h.1 })
        (both old new (λ e. e.notes ≡ old.notes) (LeavesSome g (front xs ++ []) es s0 k.master) p.told p.any_moment)

  -- ## It is answered

  module _ (es : List Event) (w : View) (is : Memory) (x : Done) (p : Part g.workers es v w was is old new) (told : x.events ≡ events_of es) (tells : Tells limits g group xs x) where
    pub back : events_of es ≡ x.events
    back = sym told

    pub keeps : (s0 : Crash) (k : Known) → Between limits g group xs s0 k old → IsOf g was k → Keeps g group xs x s0 k is old new
    keeps s0 k b o = record {
      answers = record {
        answer = tells;
        known = r.known;
        no_earlier = subst (λ ys. IsNoEarlier ys k.master r.known.master) back r.moved.line;
        stands = subst (λ ys. Stands g (front xs ++ ys) s0 r.known new) back r.moved.stands;
        notes = r.moved.notes;
        any_moment = subst (λ ys. LeavesOnly old new (CallLeaves g xs ys s0 k.master)) back (leaves s0 k b (events_of es) r.moved.passes);
      };
      memory = r.has;
      within = subst (λ ys. LeavesOnly old new (Beside g.workers (any is_save ys) (any is_sync ys) old)) back r.within;
    }
      where
        r : GoesOn g.workers g xs [] (events_of es) s0 k is old new
        r = p.goes g xs [] start s0 k (stands s0 k b) o

    pub logged : Logged g.workers g (state_after g (front xs)) (events_of es) was is
    logged = p.logged g xs [] start

    abbrev pub does : (a : Answer) → x.outcome.session ≡ own → asked x.outcome.deed ≡ c → answered x.outcome.deed ≡ a → Answers g xs x (was.log own) → Does g group xs own c a was is old new
    does a session asks is_a how = record {
      done = x;
      session = session;
      asked_is = asks;
      answer_is = is_a;
      happens = record {
        tells = tells;
        how = subst (λ n. Answers g xs x (was.log n)) (sym session) how;
        logs = λ n lo hi. subst (λ ys. Logs n g (state_after g (front xs)) ys (was.log n) (is.log n)) back (logged.logs n lo hi);
        master = subst (λ ys. any is_sync ys ≡ false → is.master ≡ was.master) back p.master;
        no_earlier = subst (λ ys. IsNoEarlier ys was.master is.master) back p.no_earlier;
      };
      frame = subst (λ ys. Around g.workers (any is_save ys) (any is_sync ys) old new) back p.around;
      keeps = keeps;
    }

    behind_w : Behind g xs (events_of es) w
    behind_w = behind_more g xs [] v start es w p.given p.seen logged.met

    pub ties : (half_now : Bool) → is_half_done own (x ∷ xs) ≡ half_now → Ties g group (x ∷ xs) own half_now w
    ties half_now half_is = record {
      opens = behind_w.opens;
      told = (t.told, tells);
      half_is = half_is;
      loads = [];
      are_loads = tt;
      few = omega arith;
      met = tt;
      seen = behind_w.seen ∙ (ap (λ ys. front xs ++ ys) back ∙ sym (append-nil (front xs ++ x.events)));
    }

  -- ## It fails

  module _ (saves syncs : Bool) (es : List happening.Event) (f : Failed g.workers saves syncs es v was old new) (wide_saves : saves ≡ true → may_save xs c ≡ true) (wide_syncs : syncs ≡ true → may_sync g xs own c ≡ true) where
    around : Around g.workers (may_save xs c) (may_sync g xs own c) old new
    around = around_wider g.workers saves syncs (may_save xs c) (may_sync g xs own c) old new wide_saves wide_syncs f.around

    module _ (s0 : Crash) (k : Known) (b : Between limits g group xs s0 k old) (o : IsOf g was k) where
      failed : FailsIn g.workers saves syncs g xs [] es s0 k old new
      failed = f.fails g xs [] start s0 k (stands s0 k b) o

      within : LeavesOnly old new (Beside g.workers (may_save xs c) (may_sync g xs own c) old)
      within = within_wider g.workers saves syncs (may_save xs c) (may_sync g xs own c) old new wide_saves wide_syncs failed.within

      left : LeavesOnly old new (CallLeaves g xs es s0 k.master)
      left = leaves s0 k b es failed.passes

    pub fails : IsRoomFor g xs own (call_behind (outcomes xs) c) es → Fails g group xs own c was old new
    fails room = record {
      frame = around;
      leaves = λ s0 k b o. record { stops = Stops.Nothing es room (left s0 k b o); within = within s0 k b o };
    }

    pub stops : (rest : List happening.Event) (x : Done) → es ++ rest ≡ x.events → x.outcome.session ≡ own → asked x.outcome.deed ≡ c → Tells limits g group xs x → length x.events ≤ most_of c → Fails g group xs own c was old new
    stops rest x is session asks tells few = record {
      frame = around;
      leaves = λ s0 k b o. record {
        stops = Stops.Part x asks session tells few
            (weaker old new (CallLeaves g xs es s0 k.master) (CallLeaves g xs x.events s0 k.master)
            (λ e h. record { notes = h.notes; some = subst (λ ys. LeavesSome g (front xs) ys s0 k.master e) is ((some_laws g (front xs) s0 k.master e).longer es rest h.some) }) (left s0 k b o));
        within = within s0 k b o;
      };
    }

pub every_end : (old new : Story) → EveryEnd old new
every_end old new many g group xs own half c v was t none workers = subst (λ n. EndLaws n g group xs own c v was old new) (t.opens.workers ∙ workers) (record {
  does = λ es w is x a p told session asks is_a tells how. (does g group xs own half c v was t none old new es w is x p told tells a session asks is_a how, refl);
  ties = λ es w is x half_now p told tells half_is. ties g group xs own half c v was t none old new es w is x p told tells half_now half_is;
  fails = λ saves syncs es f wide_saves wide_syncs room. fails g group xs own half c v was t none old new saves syncs es f wide_saves wide_syncs room;
  stops = λ saves syncs es rest x f wide_saves wide_syncs is session asks tells few. stops g group xs own half c v was t none old new saves syncs es f wide_saves wide_syncs rest x is session asks tells few;
})
