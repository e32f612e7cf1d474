-- A call in parts.
use Rattle.std.proofs.Common.{◌≡◌, ◌≤◌, ◌<◌, ℕ, Bool, true, false, ◌&&◌, List, [], ◌∷◌, ◌++◌, refl, sym, ◌∙◌, subst, append_assoc, true≢false}
use Rattle.std.proofs.lemmas.List.{append-nil}
use Rattle.map_model.specs.Lists.{all}
use Rattle.run_crashes.specs.core_state.Openings.{Opening}
use Rattle.run_crashes.specs.core_state.Events.{Event}
use Rattle.run_crashes.specs.core_state.Steps.{state_after}
use Rattle.lean_disk.specs.Moments.{LeavesOnly}
use Rattle.lean_disk.specs.Story.{Crash, IsLawful, Story}
use Rattle.lean_disk.proofs.MomentLemmas.{weaker}
use Rattle.lean_disk.proofs.MomentLemmas as moments
use Rattle.run_crashes.specs.log_record.declared.record.Record.{Record}
use Rattle.run_crashes.specs.disk_image.Laws.{EverySealed}
use Rattle.run_crashes.specs.disk_image.Records.{entry_of}
use Rattle.run_crashes.specs.worker_log.Accounts.{Account}
use Rattle.run_crashes.specs.worker_log.Kept.{flushed}
use Rattle.run_crashes.specs.worker_log.Laws.{EveryKept, EveryPrefix}
use Rattle.run_crashes.specs.worker_log.Logs.{Log}
use Rattle.run_crashes.specs.core_disk.Versions.{EveryVersion, then}
use Rattle.run_crashes.specs.core_calls.Fronts.{Done, front}
use Rattle.run_crashes.specs.core_calls.Refusals.{Limits}
use Rattle.run_crashes.specs.disk_runs.Laws.{with_log}
use Rattle.run_crashes.specs.disk_runs.Logs.{Flushes, Records}
use Rattle.run_crashes.specs.disk_runs.Masters.{IsNoEarlier}
use Rattle.run_crashes.specs.disk_runs.Moments.{LeavesSome}
use Rattle.run_crashes.specs.disk_runs.Quiet.{is_quiet}
use Rattle.run_crashes.specs.disk_runs.Stands.{Known, LeavesRun, Stands}
use Rattle.run_crashes.proofs.disk_runs.LineLemmas.{further, same}
use Rattle.run_crashes.proofs.disk_runs.MomentLemmas.{both, some_laws}
use Rattle.log_calls.specs.Calls.{IsLog}
use Rattle.run_crashes.specs.Lines.{CallLeaves}
use Rattle.engine_calls.specs.Clauses.{Between, Nothing, OnLog, Part}
use Rattle.engine_calls.specs.Parts.{Enters, EveryPart, Gone, PartLaws, Passes, Settles}
use Rattle.engine_calls.proofs.MomentLemmas.{quiet_more, still}

each_true : (p q : Bool) → (p && q) ≡ true → (p ≡ true) × (q ≡ true)
each_true true q x = (refl, x)
each_true false q x = absurd (true≢false (sym x))

-- events that the disk does not see
pub quiet_all : EveryVersion → (g : Opening) (es more : List Event) (s0 : Crash) (a : Known) (s : Story) → all is_quiet more ≡ true → Stands g es s0 a s → Stands g (es ++ more) s0 a s
quiet_all versions g es [] s0 a s q st = subst (λ (z : List Event). Stands g z s0 a s) (sym (append-nil es)) st
quiet_all versions g es (e ∷ more) s0 a s q st =
    let both_of = each_true (is_quiet e) (all is_quiet more) q in
    subst (λ (z : List Event). Stands g z s0 a s) (append_assoc es (e ∷ []) more)
    (quiet_all versions g (then es e) more s0 a s both_of.1 (quiet_more versions g es e s0 a s both_of.0 st))

module _ (l : Limits) (g : Opening) (group : ℕ) (xs : List Done) (s0 : Crash) (k : Known) (old mid new : Story) (es : List Event) (a : Known) (b : Between l g group xs s0 k old) where
  -- moments of the first part, of a call that goes on
  early : (more : List Event) → Gone g xs es s0 k old a mid → LeavesOnly old mid (CallLeaves g xs (es ++ more) s0 k.master)
  early more x = weaker old mid (CallLeaves g xs es s0 k.master) (CallLeaves g xs (es ++ more) s0 k.master)
      (λ c h. record { notes = h.notes; some = (some_laws g (front xs) s0 k.master c).longer es more h.some }) x.any_moment

  -- and of the next part
  late : (more : List Event) → Gone g xs es s0 k old a mid → Passes g xs es more s0 a mid new → LeavesOnly mid new (CallLeaves g xs (es ++ more) s0 k.master)
  late more x p = weaker mid new (λ c. (c.notes ≡ mid.notes) × LeavesSome g (front xs ++ es) more s0 a.master c) (CallLeaves g xs (es ++ more) s0 k.master)
      (λ c h. record { notes = h.0 ∙ (x.notes ∙ b.notes); some = (some_laws g (front xs) s0 k.master c).later es more a.master x.no_earlier h.1 })
      (both mid new (λ c. c.notes ≡ mid.notes) (LeavesSome g (front xs ++ es) more s0 a.master) p.told p.any_moment)

  pub whole : (more : List Event) → Gone g xs es s0 k old a mid → Passes g xs es more s0 a mid new → LeavesOnly old new (CallLeaves g xs (es ++ more) s0 k.master)
  whole more x p = moments.then old mid new (CallLeaves g xs (es ++ more) s0 k.master) (early more x) (late more x p)

  pub pass : (more : List Event) (c : Known) → Gone g xs es s0 k old a mid → Passes g xs es more s0 a mid new → IsNoEarlier more a.master c.master → Stands g (front xs ++ (es ++ more)) s0 c new → new.notes ≡ mid.notes
      → Gone g xs (es ++ more) s0 k old c new
  pass more c x p line st notes = record { no_earlier = further es more k.master a.master c.master x.no_earlier line; stands = st; notes = notes ∙ x.notes; any_moment = whole more x p }

  -- a call on a log, at all moments of which its events have not happened yet
  pub on_log : (more : List Event) (w : ℕ) → 0 < w → w ≤ g.workers → Gone g xs es s0 k old a mid → OnLog w (a.log w) mid new → Passes g xs es more s0 a mid new
  on_log more w low high x on =
      let own : IsLog g (front xs ++ es) s0 a w (a.log w) mid = record { stands = x.stands; low = low; high = high; is = refl } in
      record {
        told = on.told s0 g (front xs ++ es) a own;
        any_moment = weaker mid new (LeavesRun g (front xs ++ es) s0 a.master) (LeavesSome g (front xs ++ es) more s0 a.master)
            (λ c. (some_laws g (front xs ++ es) s0 a.master c).run more) (on.moments s0 g (front xs ++ es) a own);
      }

  pub none : EveryKept → EveryPrefix → EverySealed → IsLawful old → Gone g xs [] s0 k old k old
  none keeps prefixes seals law = record {
    no_earlier = same [] k.master;
    stands = subst (λ (z : List Event). Stands g z s0 k old) (sym (append-nil (front xs))) b.stands;
    notes = refl;
    any_moment = still keeps prefixes seals g xs [] s0 k old law b.stands b.notes;
  }

  pub quiet : EveryVersion → (more : List Event) → all is_quiet more ≡ true → Gone g xs es s0 k old a mid → Gone g xs (es ++ more) s0 k old a mid
  quiet versions more q x = record {
    no_earlier = further es more k.master a.master a.master x.no_earlier (same more a.master);
    stands = subst (λ (z : List Event). Stands g z s0 a mid) (append_assoc (front xs) es more) (quiet_all versions g (front xs ++ es) more s0 a mid q x.stands);
    notes = x.notes;
    any_moment = early more x;
  }

  -- one event more, as the log's laws have it
  one : (e : Event) → (front xs ++ es) ++ e ∷ [] ≡ front xs ++ (es ++ e ∷ [])
  one e = append_assoc (front xs) es (e ∷ [])

  pub stage : (e : Event) (w : ℕ) (r : Record) (log : Log) → Gone g xs es s0 k old a mid → Enters g xs es e a w r log mid new → (y : Account) × Gone g xs (es ++ e ∷ []) s0 k old (with_log a w log y) new
  stage e w r log x c =
      let q = c.stages s0 g (front xs ++ es) a e (record { stands = x.stands; low = c.low; high = c.high; is = refl }) c.event
      (subst (λ (z : List Event). Records w (entry_of w r) (state_after g (front xs ++ es)) (state_after g z)) (sym (one e)) c.records) in
      (q.0, pass (e ∷ []) (with_log a w log q.0) x (on_log (e ∷ []) w c.low c.high x c.on) (same (e ∷ []) a.master) (subst (λ (z : List Event). Stands g z s0 (with_log a w log q.0) new) (one e) q.1) c.on.notes)

  pub flush : (e : Event) (w n : ℕ) (log : Log) → Gone g xs es s0 k old a mid → Settles g xs es e a w n log mid new → Gone g xs (es ++ e ∷ []) s0 k old (with_log a w log (flushed (a.account w))) new
  flush e w n log x c =
      pass (e ∷ []) (with_log a w log (flushed (a.account w))) x (on_log (e ∷ []) w c.low c.high x c.on) (same (e ∷ []) a.master)
      (subst (λ (z : List Event). Stands g z s0 (with_log a w log (flushed (a.account w))) new) (one e)
      (c.call s0 g (front xs ++ es) a e n (record { stands = x.stands; low = c.low; high = c.high; is = refl }) c.event
      (subst (λ (z : List Event). Flushes w n (state_after g (front xs ++ es)) (state_after g z)) (sym (one e)) c.flushes) c.within)) c.on.notes

  pub part_laws : EveryVersion → EveryKept → EveryPrefix → EverySealed → PartLaws l g group xs s0 k old mid new es a
  part_laws versions keeps prefixes seals = record {
    none = λ law. none keeps prefixes seals law;
    quiet = λ more q x. quiet versions more q x;
    stage = λ e w r log x c. stage e w r log x c;
    flush = λ e w n log x c. flush e w n log x c;
    pass = λ more c x p line st notes. pass more c x p line st notes;
    failed = λ w low high x on. on_log [] w low high x on;
    answers = λ x is gone tells. record {
      answer = tells;
      known = a;
      no_earlier = subst (λ (z : List Event). IsNoEarlier z k.master a.master) is gone.no_earlier;
      stands = subst (λ (z : List Event). Stands g (front xs ++ z) s0 a mid) is gone.stands;
      notes = gone.notes;
      any_moment = subst (λ (z : List Event). LeavesOnly old mid (CallLeaves g xs z s0 k.master)) is gone.any_moment;
    };
    stops = λ more x p none. Nothing (es ++ more) none (whole more x p);
    stops_in = λ more rest x is gone p tells. Part x tells
        (weaker old new (CallLeaves g xs (es ++ more) s0 k.master) (CallLeaves g xs x.events s0 k.master)
        (λ c h. record { notes = h.notes; some = subst (λ (z : List Event). LeavesSome g (front xs) z s0 k.master c) is ((some_laws g (front xs) s0 k.master c).longer (es ++ more) rest h.some) })
        (whole more gone p));
  }

pub every_part : EveryVersion → EveryKept → EveryPrefix → EverySealed → (old mid new : Story) → EveryPart old mid new
every_part versions keeps prefixes seals old mid new l g group xs s0 k es a b = part_laws l g group xs s0 k old mid new es a b versions keeps prefixes seals
