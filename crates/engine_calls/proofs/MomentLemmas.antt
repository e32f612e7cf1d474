-- Moments of a call, and what stands behind it.
use Rattle.std.proofs.Common.{◌≡◌, ℕ, List, ◌++◌, ◌∙◌}
use Rattle.run_crashes.specs.core_state.Openings.{Opening}
use Rattle.run_crashes.specs.core_state.Events.{Event}
use Rattle.lean_disk.specs.Moments.{LeavesOnly}
use Rattle.lean_disk.specs.Story.{Crash, IsLawful, Story}
use Rattle.lean_disk.proofs.MomentLemmas.{started, weaker}
use Rattle.run_crashes.specs.disk_slots.declared.master.Master.{Master}
use Rattle.run_crashes.specs.disk_image.Laws.{EverySealed}
use Rattle.run_crashes.specs.worker_log.Laws.{EveryKept, EveryPrefix}
use Rattle.run_crashes.specs.core_disk.Versions.{EveryVersion, then}
use Rattle.run_crashes.specs.core_calls.Fronts.{Done, front}
use Rattle.run_crashes.specs.disk_runs.Quiet.{is_quiet}
use Rattle.run_crashes.specs.disk_runs.Stands.{Known, LeavesRun, Stands}
use Rattle.run_crashes.proofs.disk_runs.LineLemmas.{same}
use Rattle.run_crashes.proofs.disk_runs.MomentLemmas.{both, none_yet}
use Rattle.run_crashes.proofs.disk_runs.QuietLemmas.{every_quiet}
use Rattle.run_crashes.proofs.disk_runs.StandLemmas.{every_rest, every_still}
use Rattle.run_crashes.specs.Lines.{CallLeaves, notes_of}
use Rattle.std.specs.Prelude.{true}

-- some first events of the call have happened
pub among : (g : Opening) (xs : List Done) (first rest more : List Event) (s0 : Crash) (n : Master) (old new : Story) (notes : ℕ) → first ++ rest ≡ more → notes ≡ notes_of g xs s0
    → LeavesOnly old new (LeavesRun g (front xs ++ first) s0 n) → LeavesOnly old new (λ c. c.notes ≡ notes) → LeavesOnly old new (CallLeaves g xs more s0 n)
among g xs first rest more s0 n old new notes is counted runs told =
    weaker old new (λ c. LeavesRun g (front xs ++ first) s0 n c × (c.notes ≡ notes)) (CallLeaves g xs more s0 n)
    (λ c h. record { notes = h.1 ∙ counted; some = λ fair. record { first = first; rest = rest; is = is; master = n; no_earlier = same first n; holds = h.0 fair } })
    (both old new (LeavesRun g (front xs ++ first) s0 n) (λ c. c.notes ≡ notes) runs told)

-- a call that touches no device
pub still : EveryKept → EveryPrefix → EverySealed → (g : Opening) (xs : List Done) (more : List Event) (s0 : Crash) (k : Known) (s : Story) → IsLawful s → Stands g (front xs) s0 k s
    → s.notes ≡ notes_of g xs s0 → LeavesOnly s s (CallLeaves g xs more s0 k.master)
still keeps prefixes seals g xs more s0 k s law stands counted =
    started s (CallLeaves g xs more s0 k.master) law
    (λ c now. record { notes = now.notes ∙ counted; some = λ fair. none_yet g (front xs) more k.master c.image (every_rest keeps prefixes seals s s0 g (front xs) k stands c now fair) })

-- an event more that the disk does not see
pub quiet_more : EveryVersion → (g : Opening) (es : List Event) (e : Event) (s0 : Crash) (k : Known) (s : Story) → is_quiet e ≡ true → Stands g es s0 k s → Stands g (then es e) s0 k s
quiet_more versions g es e s0 k s q st = let x = every_quiet g st.is.faithful es e q in every_still versions s s0 g es k e st x.no_cut x.same
