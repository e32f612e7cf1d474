-- A whole run.
use Rattle.std.proofs.Common.{◌≡◌, ℕ, List, [], ◌∷◌, suc, arith}
use Rattle.run_crashes.specs.core_state.Openings.{Opening}
use Rattle.lean_disk.specs.Moments.{LeavesOnly}
use Rattle.lean_disk.specs.Area.{Leaves}
use Rattle.lean_disk.specs.Story.{Crash, Story, Tells}
use Rattle.lean_disk.proofs.MomentLemmas.{weaker}
use Rattle.run_crashes.specs.disk_slots.declared.master.Master.{Master}
use Rattle.run_crashes.specs.disk_image.Laws.{EveryAgreement, EverySealed}
use Rattle.run_crashes.specs.worker_log.Laws.{EveryKept, EveryPrefix}
use Rattle.run_crashes.specs.core_state.Events.{Event}
use Rattle.run_crashes.specs.core_disk.Held.{HoldsRun}
use Rattle.run_crashes.specs.core_disk.Shows.{EveryShown}
use Rattle.run_crashes.specs.core_calls.Crashes.{EveryRunCrash}
use Rattle.run_crashes.specs.core_calls.Fronts.{Done, front}
use Rattle.run_crashes.specs.core_calls.Refusals.{Limits}
use Rattle.run_crashes.specs.core_calls.Runs as runs
use Rattle.run_crashes.specs.disk_runs.Fair.{IsFairFrom}
use Rattle.run_crashes.specs.disk_runs.Stands.{Known, Stands}
use Rattle.run_crashes.proofs.disk_runs.LineLemmas.{opened}
use Rattle.run_crashes.proofs.disk_runs.MomentLemmas.{some_laws}
use Rattle.run_crashes.proofs.disk_runs.StandLemmas.{every_same, log_part, master_part, page_part}
use Rattle.run_crashes.specs.Laws.{CommitsNone, OfEachFirst, Passing}
use Rattle.run_crashes.specs.Lines.{CallLeaves, PutLeaves, RunLeft}
use Rattle.run_crashes.proofs.LineLemmas.{every_crashed_line_for, every_line_for, every_stop_for}
use Rattle.engine_calls.specs.Clauses.{CallAnswers}
use Rattle.engine_calls.specs.Runs.{EveryRun, EveryRunFor, LeftOf, LineCrash, Runs}
use Rattle.engine_calls.proofs.MomentLemmas.{still}

-- a crash that leaves the areas as they are now leaves what one now would
as_now : EveryKept → EveryPrefix → EverySealed → (g : Opening) (es : List Event) (s0 : Crash) (x : Known) (s : Story) → Stands g es s0 x s → (c : Crash) → IsFairFrom g.workers s0 c
    → ((a : ℕ) → Tells s a → c.writes a ≡ (s.area a).writes) → ((a : ℕ) → Tells s a → Leaves (s.area a) (c.image a)) → HoldsRun g es x.master c.image
as_now keeps prefixes seals g es s0 x s stands c fair writes leaves = record {
  master = master_part keeps prefixes seals g es s0 x s stands c fair (writes 0 (stands.tells 0 (omega arith))) (leaves 0 (stands.tells 0 (omega arith)));
  is = stands.is;
  logs = λ w low high. log_part keeps prefixes seals g es s0 x s stands c fair w low high (writes (suc w) (stands.tells (suc w) (omega arith))) (leaves (suc w) (stands.tells (suc w) (omega arith)));
  pages = page_part keeps prefixes seals g es s0 x s stands c fair (writes 1 (stands.tells 1 (omega arith))) (leaves 1 (stands.tells 1 (omega arith)));
}

module _ (shown : EveryShown) (crashes : EveryRunCrash) (agrees : EveryAgreement) (keeps : EveryKept) (prefixes : EveryPrefix) (seals : EverySealed)
    (Such : List Done → List Event → Type 0) (l : Limits) (g : Opening) (group : ℕ) (s0 : Crash) (m : Master) (k : Known) (from old new : Story) where
  -- while lines are put the disk stands for the events of the call
  puts : (out : Story) (xs : List Done) (x : Done) → Runs l g group Such xs s0 m k from old → (a : CallAnswers l g group xs x s0 k old new)
      → LeavesOnly new out (LineCrash g xs x s0 new) → LeavesOnly new out (PutLeaves g xs x s0 a.known.master)
  puts out xs x r a p = weaker new out (LineCrash g xs x s0 new) (PutLeaves g xs x s0 a.known.master)
      (λ c h. record {
        later = h.later;
        first = h.first;
        split = h.split;
        notes = h.notes;
        some = (some_laws g (front (x ∷ xs)) s0 a.known.master c).run [] (λ fair. as_now keeps prefixes seals g (front (x ∷ xs)) s0 a.known new a.stands c fair h.writes h.leaves);
      }) p

  -- so a run goes on by the call and its lines
  pub line : (out : Story) (xs : List Done) (x : Done) → Runs l g group Such xs s0 m k from old → (a : CallAnswers l g group xs x s0 k old new)
      → LeavesOnly new out (LineCrash g xs x s0 new) → LeavesOnly from out (RunLeft g Such (x ∷ xs) s0 m)
  line out xs x r a p = every_line_for shown crashes agrees Such from old new out l g group s0 m k.master a.known.master xs x (r.between.told, a.answer) r.of_run (opened (front xs) x.events m k.master a.known.master r.of_run a.no_earlier)
      r.any_moment a.any_moment (puts out xs x r a p)

  -- a call that committed nothing, with such events, and the first part of one that would be answered so
  pub stop : (xs : List Done) → Runs l g group Such xs s0 m k from old → (es : List Event) → CommitsNone g xs es → OfEachFirst (Such xs) es
      → LeavesOnly old new (CallLeaves g xs es s0 k.master) → LeftOf l g group Such s0 m from new
  stop xs r es none such p = record {
    calls = xs;
    told = r.between.told;
    any_moment = (every_stop_for shown crashes agrees Such from old new l g group s0 m k.master xs).nothing es r.between.told none such r.of_run r.any_moment p;
  }

  pub stop_in : (xs : List Done) (x : Done) → Runs l g group Such xs s0 m k from old → runs.Tells l g group xs x → LeavesOnly old new (CallLeaves g xs x.events s0 k.master)
      → LeftOf l g group Such s0 m from new
  stop_in xs x r tells p = record {
    calls = x ∷ xs;
    told = (r.between.told, tells);
    any_moment = (every_stop_for shown crashes agrees Such from old new l g group s0 m k.master xs).part x (r.between.told, tells) r.of_run r.any_moment p;
  }

-- with events of any kind
pub every_run_for : EveryShown → EveryRunCrash → EveryAgreement → EveryKept → EveryPrefix → EverySealed → (Such : List Done → List Event → Type 0) → (from old new out : Story) → EveryRunFor Such from old new out
every_run_for shown crashes agrees keeps prefixes seals Such from old new out l g group s0 m k = record {
  begins = λ law counts stands of_run notes. record {
    between = record { told = tt; stands = stands; counts = counts; notes = notes };
    of_run = of_run;
    any_moment = weaker from from (CallLeaves g [] [] s0 k.master) (RunLeft g Such [] s0 m)
        (λ c. (every_crashed_line_for shown crashes agrees Such l g group s0 m k.master [] c).behind tt of_run)
        (still keeps prefixes seals g [] [] s0 k from law stands notes);
  };
  answered = λ xs x r a lines. record {
    between = record {
      told = (r.between.told, a.answer);
      stands = every_same new out s0 g (front (x ∷ xs)) a.known a.stands lines.tells lines.areas;
      counts = lines.counts;
      notes = lines.notes;
    };
    of_run = opened (front xs) x.events m k.master a.known.master r.of_run a.no_earlier;
    any_moment = line shown crashes agrees keeps prefixes seals Such l g group s0 m k from old new out xs x r a lines.any_moment;
  };
  unheard = λ xs x r a p. record {
    calls = x ∷ xs;
    told = (r.between.told, a.answer);
    any_moment = line shown crashes agrees keeps prefixes seals Such l g group s0 m k from old new out xs x r a p;
  };
  stopped = stop shown crashes agrees keeps prefixes seals Such l g group s0 m k from old new;
  in_part = stop_in shown crashes agrees keeps prefixes seals Such l g group s0 m k from old new;
}

-- and with those that a test tells
pub every_run : EveryShown → EveryRunCrash → EveryAgreement → EveryKept → EveryPrefix → EverySealed → (from old new out : Story) → EveryRun from old new out
every_run shown crashes agrees keeps prefixes seals from old new out test = every_run_for shown crashes agrees keeps prefixes seals (Passing test) from old new out
