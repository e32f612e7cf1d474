-- A part of a call that goes on from where the disk stands.
use Rattle.std.proofs.Common.{◌≡◌, ◌≤◌, ◌<◌, ◌-◌, ℕ, true, List, [], ◌∷◌, ◌++◌, refl, sym, ◌∙◌, subst, append_assoc}
use Rattle.std.proofs.lemmas.List.{append-nil}
use Rattle.map_model.specs.Lists.{all}
use Rattle.page_model.specs.Page.{Page}
use Rattle.run_crashes.specs.core_state.Openings.{Opening}
use Rattle.run_crashes.specs.core_state.Events.{Event}
use Rattle.lean_disk.specs.Calls.{Synced, Wrote}
use Rattle.lean_disk.specs.Moments.{LeavesOnly}
use Rattle.lean_disk.specs.Story.{Crash, IsLawful, Story}
use Rattle.lean_disk.specs.declared.disk.Did.TheVariants as did
use Rattle.lean_disk.proofs.MomentLemmas.{goes_on, started, weaker}
use Rattle.lean_disk.proofs.MomentLemmas as moments
use Rattle.run_crashes.specs.disk_image.Laws.{EverySealed}
use Rattle.run_crashes.specs.disk_slots.declared.master.Master.{Master}
use Rattle.run_crashes.specs.disk_slots.Pages.{page_slot}
use Rattle.run_crashes.specs.page_store.Saved.{place_of}
use Rattle.run_crashes.specs.worker_log.Laws.{EveryKept, EveryPrefix}
use Rattle.run_crashes.specs.worker_log.Logs.{Log}
use Rattle.run_crashes.specs.core_disk.Versions.{EveryVersion}
use Rattle.run_crashes.specs.core_calls.Fronts.{Done, front}
use Rattle.run_crashes.specs.disk_runs.MasterLaws.{IsSync, LeavesEither, with_sync}
use Rattle.run_crashes.specs.disk_runs.Masters.{IsNoEarlier}
use Rattle.run_crashes.specs.disk_runs.Moments.{LeavesSome}
use Rattle.run_crashes.specs.disk_runs.PageLaws.{IsSave, with_late, with_settled}
use Rattle.run_crashes.specs.disk_runs.Quiet.{is_quiet}
use Rattle.run_crashes.specs.disk_runs.Stands.{Known, LeavesRun, Stands}
use Rattle.run_crashes.proofs.disk_runs.LineLemmas.{further, next, same}
use Rattle.run_crashes.proofs.disk_runs.MomentLemmas.{none_yet, some_laws}
use Rattle.run_crashes.proofs.disk_runs.SaveStandLemmas.{every_save, every_settled}
use Rattle.run_crashes.proofs.disk_runs.StandLemmas.{every_rest}
use Rattle.log_calls.specs.Calls.{IsLog}
use Rattle.log_calls.specs.Syncs.{KeepsEither, SyncsOn}
use Rattle.log_calls.specs.Wholes.{IsWhole, flush_of}
use Rattle.engine_calls.specs.Clauses.{OnLog}
use Rattle.engine_calls.specs.Moves.{EveryMove, Moved}
use Rattle.engine_calls.specs.Parts.{Passes}
use Rattle.engine_calls.proofs.PartLemmas.{quiet_all}

-- one part behind another
pub passes_join : (g : Opening) (xs : List Done) (es more later : List Event) (s0 : Crash) (a b : Known) (old mid new : Story) → Passes g xs es more s0 a old mid → IsNoEarlier more a.master b.master → mid.notes ≡ old.notes → Passes g xs (es ++ more) later s0 b mid new
    → Passes g xs es (more ++ later) s0 a old new
passes_join g xs es more later s0 a b old mid new p line notes q = record {
  told = moments.then old mid new (λ c. c.notes ≡ old.notes) p.told (weaker mid new (λ c. c.notes ≡ mid.notes) (λ c. c.notes ≡ old.notes) (λ c h. h ∙ notes) q.told);
  any_moment = moments.then old mid new (LeavesSome g (front xs ++ es) (more ++ later) s0 a.master)
      (weaker old mid (LeavesSome g (front xs ++ es) more s0 a.master) (LeavesSome g (front xs ++ es) (more ++ later) s0 a.master) (λ c h. (some_laws g (front xs ++ es) s0 a.master c).longer more later h) p.any_moment)
      (weaker mid new (LeavesSome g (front xs ++ (es ++ more)) later s0 b.master) (LeavesSome g (front xs ++ es) (more ++ later) s0 a.master)
      (λ c h. (some_laws g (front xs ++ es) s0 a.master c).later more later b.master line (subst (λ (z : List Event). LeavesSome g z later s0 b.master c) (sym (append_assoc (front xs) es more)) h)) q.any_moment);
}

module _ (g : Opening) (xs : List Done) (es : List Event) (s0 : Crash) (a : Known) (old mid new : Story) (law : IsLawful old) (st : Stands g (front xs ++ es) s0 a old) where
  -- as the events of the call, behind those before it
  one : (more : List Event) → (front xs ++ es) ++ more ≡ front xs ++ (es ++ more)
  one more = append_assoc (front xs) es more

  still_told : LeavesOnly old old (λ c. c.notes ≡ old.notes)
  still_told = started old (λ c. c.notes ≡ old.notes) law (λ c now. now.notes)

  -- what is so at each moment before the event
  before : (more : List Event) → LeavesOnly old new (LeavesRun g (front xs ++ es) s0 a.master) → LeavesOnly old new (LeavesSome g (front xs ++ es) more s0 a.master)
  before more x = weaker old new (LeavesRun g (front xs ++ es) s0 a.master) (LeavesSome g (front xs ++ es) more s0 a.master) (λ c. (some_laws g (front xs ++ es) s0 a.master c).run more) x

  pub rest : EveryKept → EveryPrefix → EverySealed → EveryVersion → (more : List Event) → all is_quiet more ≡ true → Moved g xs es more s0 a a old old
  rest keeps prefixes seals versions more q = record {
    line = same more a.master;
    passes = record {
      told = still_told;
      any_moment = started old (LeavesSome g (front xs ++ es) more s0 a.master) law (λ c now fair. none_yet g (front xs ++ es) more a.master c.image (every_rest keeps prefixes seals old s0 g (front xs ++ es) a st c now fair));
    };
    stands = subst (λ (z : List Event). Stands g z s0 a old) (one more) (quiet_all versions g (front xs ++ es) more s0 a old q st);
    notes = refl;
  }

  pub save : EveryKept → EveryPrefix → EverySealed → EveryVersion → (p : ℕ) (y : Page) → IsSave g (front xs ++ es) a p y → Wrote 1 (place_of p (1 - (a.firm p).slot)) (page_slot y) did.Done old new → Moved g xs es (Event.Save p ∷ []) s0 a (with_late a p y) old new
  save keeps prefixes seals versions p y i w =
      let k = every_save keeps prefixes seals versions old new s0 g (front xs ++ es) a p y did.Done st law i w in
      record {
        line = same (Event.Save p ∷ []) a.master;
        passes = record { told = goes_on old old new (λ c. c.notes ≡ old.notes) still_told w.time (λ c now. now.notes ∙ w.notes); any_moment = before (Event.Save p ∷ []) k.any_moment };
        stands = subst (λ (z : List Event). Stands g z s0 (with_late a p y) new) (one (Event.Save p ∷ [])) (k.after refl);
        notes = w.notes;
      }

  pub settle : EveryKept → EveryPrefix → EverySealed → EveryVersion → Synced 1 did.Done old new → Moved g xs es [] s0 a (with_settled a) old new
  settle keeps prefixes seals versions w =
      let k = every_settled keeps prefixes seals versions old new s0 g (front xs ++ es) a did.Done st law w in
      record {
        line = same [] a.master;
        passes = record { told = goes_on old old new (λ c. c.notes ≡ old.notes) still_told w.time (λ c now. now.notes ∙ w.notes); any_moment = before [] k.any_moment };
        stands = subst (λ (z : List Event). Stands g (front xs ++ z) s0 (with_settled a) new) (sym (append-nil es)) (k.after refl);
        notes = w.notes;
      }

  pub flush : (w : ℕ) (is : Log) → 0 < w → w ≤ g.workers → OnLog w (a.log w) old new → (k : IsWhole g (front xs ++ es) s0 a w (a.log w) is new) → Moved g xs es (flush_of w (a.log w)) s0 a k.known old new
  flush w is low high on k =
      let own : IsLog g (front xs ++ es) s0 a w (a.log w) old = record { stands = st; low = low; high = high; is = refl } in
      record {
        line = subst (λ (m : Master). IsNoEarlier (flush_of w (a.log w)) a.master m) (sym k.master) (same (flush_of w (a.log w)) a.master);
        passes = record { told = on.told s0 g (front xs ++ es) a own; any_moment = before (flush_of w (a.log w)) (on.moments s0 g (front xs ++ es) a own) };
        stands = subst (λ (z : List Event). Stands g z s0 k.known new) (one (flush_of w (a.log w))) k.stands;
        notes = on.notes;
      }

  pub sync : (m : Master) (n : ℕ) → IsSync g (front xs ++ es) a m n → SyncsOn m old new → KeepsEither m old new → LeavesOnly old new (λ c. c.notes ≡ old.notes) → new.notes ≡ old.notes → Moved g xs es (Event.Sync n ∷ []) s0 a (with_sync a m n) old new
  sync m n i on keeps told notes = record {
    line = next (Event.Sync n) a.master m refl i.next;
    passes = record {
      told = told;
      any_moment = weaker old new (LeavesEither g (front xs ++ es) (Event.Sync n) s0 a.master m) (LeavesSome g (front xs ++ es) (Event.Sync n ∷ []) s0 a.master)
          (λ c. (some_laws g (front xs ++ es) s0 a.master c).master (Event.Sync n) m [] refl i.next) (keeps s0 g (front xs ++ es) a n st i);
    };
    stands = subst (λ (z : List Event). Stands g z s0 (with_sync a m n) new) (one (Event.Sync n ∷ [])) (on s0 g (front xs ++ es) a n st i);
    notes = notes;
  }

  pub join : (more later : List Event) (b c : Known) → Moved g xs es more s0 a b old mid → Moved g xs (es ++ more) later s0 b c mid new → Moved g xs es (more ++ later) s0 a c old new
  join more later b c p q = record {
    line = further more later a.master b.master c.master p.line q.line;
    passes = passes_join g xs es more later s0 a b old mid new p.passes p.line p.notes q.passes;
    stands = subst (λ (z : List Event). Stands g (front xs ++ z) s0 c new) (append_assoc es more later) q.stands;
    notes = q.notes ∙ p.notes;
  }

pub every_move : EveryKept → EveryPrefix → EverySealed → EveryVersion → (old mid new : Story) → EveryMove old mid new
every_move keeps prefixes seals versions old mid new g xs es s0 a law st = record {
  rest = rest g xs es s0 a old mid new law st keeps prefixes seals versions;
  save = save g xs es s0 a old mid new law st keeps prefixes seals versions;
  settle = settle g xs es s0 a old mid new law st keeps prefixes seals versions;
  flush = flush g xs es s0 a old mid new law st;
  sync = sync g xs es s0 a old mid new law st;
  join = join g xs es s0 a old mid new law st;
}
