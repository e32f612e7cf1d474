-- Calls carry the run of the row on.
use Rattle.std.proofs.Common.{◌≡◌, false, true, List, [], ◌++◌, drop, refl, subst, arith}
use Rattle.disk_runs.specs.core_state.Openings.{Opening}
use Rattle.disk_runs.specs.core_state.Events.{Event, Mode}
use Rattle.disk_runs.specs.core_state.Steps.{state_after}
use Rattle.disk_runs.specs.core_crash.Example.{events}
use Rattle.lean_disk.specs.Moments.{LeavesOnly}
use Rattle.lean_disk.specs.Story.{Crash, Story}
use Rattle.lean_disk.proofs.MomentLemmas as moments
use Rattle.disk_runs.specs.log_record.declared.record.Record.{Record}
use Rattle.disk_runs.specs.disk_slots.declared.master.Master.{Master}
use Rattle.disk_runs.specs.disk_image.Records.{entry_of}
use Rattle.disk_runs.specs.worker_log.Logs.{Log}
use Rattle.disk_runs.specs.worker_log.Kept.{flushed}
use Rattle.disk_runs.specs.core_disk.Versions.{EveryVersion, is_cut, then}
use Rattle.disk_runs.specs.Fair.{IsFairFrom}
use Rattle.disk_runs.specs.Laws.{with_log}
use Rattle.disk_runs.specs.Logs.{Records}
use Rattle.disk_runs.specs.Moments.{EverySurvival, LeavesSome, Survives}
use Rattle.disk_runs.specs.Quiet.{is_quiet}
use Rattle.disk_runs.specs.Stands.{LeavesRun}
use Rattle.disk_runs.proofs.LineLemmas.{same}
use Rattle.disk_runs.proofs.QuietLemmas.{every_quiet}
use Rattle.disk_runs.proofs.StandLemmas.{every_still}
use Rattle.log_calls.specs.Calls.{FlushesOn, IsLog, KeepsMoments, StagesOn}
use Rattle.row_crashes.specs.Left.{ripe_events}
use Rattle.row_crashes.specs.Row.{AnyMoment, AnyMomentLives, Carries, Runs}
use Rattle.row_crashes.proofs.RowLemmas.{RowFacts, abort, change_5, change_6, change_6_again, commit, put_back_6, row_facts, up_to}

-- ## One event

-- one that the disk does not see
quiet : EveryVersion → (es : List Event) (e : Event) → is_quiet e ≡ true → (g : Opening) (s0 : Crash) (n : Master) (first second : Log) (s : Story) → Runs es g s0 n first second s → Runs (then es e) g s0 n first second s
quiet versions es e q g s0 n first second s r =
    let l = every_quiet g r.stands.is.faithful es e q in
    record { opening = r.opening; known = r.known; stands = every_still versions s s0 g es r.known e r.stands l.no_cut l.same; master = r.master; first_is = r.first_is; second_is = r.second_is }

-- its facts of the entries
facts : (es : List Event) (g : Opening) (s0 : Crash) (n : Master) (first second : Log) (s : Story) → Runs es g s0 n first second s → RowFacts g
facts es g s0 n first second s r = row_facts g r.opening r.known.master.pages r.stands.is.format

is_first : (es : List Event) (g : Opening) (s0 : Crash) (n : Master) (first second : Log) (s : Story) (r : Runs es g s0 n first second s) → IsLog g es s0 r.known 1 first s
is_first es g s0 n first second s r = record { stands = r.stands; low = omega arith; high = let w = r.opening.workers in omega arith; is = r.first_is }

is_second : (es : List Event) (g : Opening) (s0 : Crash) (n : Master) (first second : Log) (s : Story) (r : Runs es g s0 n first second s) → IsLog g es s0 r.known 2 second s
is_second es g s0 n first second s r = record { stands = r.stands; low = omega arith; high = let w = r.opening.workers in omega arith; is = r.second_is }

-- a record in log 1, and one in log 2
staged_first : (es : List Event) (e : Event) (r : Record) (g : Opening) (s0 : Crash) (n : Master) (was is second : Log) (old new : Story) → StagesOn 1 r was is old new → is_cut e ≡ false
    → Records 1 (entry_of 1 r) (state_after g es) (state_after g (then es e)) → Runs es g s0 n was second old → Runs (then es e) g s0 n is second new
staged_first es e r g s0 n was is second old new stages no_cut records run =
    let to = stages s0 g es run.known e (is_first es g s0 n was second old run) no_cut records in
    record { opening = run.opening; known = with_log run.known 1 is to.0; stands = to.1; master = run.master; first_is = refl; second_is = run.second_is }

staged_second : (es : List Event) (e : Event) (r : Record) (g : Opening) (s0 : Crash) (n : Master) (first was is : Log) (old new : Story) → StagesOn 2 r was is old new → is_cut e ≡ false
    → Records 2 (entry_of 2 r) (state_after g es) (state_after g (then es e)) → Runs es g s0 n first was old → Runs (then es e) g s0 n first is new
staged_second es e r g s0 n first was is old new stages no_cut records run =
    let to = stages s0 g es run.known e (is_second es g s0 n first was old run) no_cut records in
    record { opening = run.opening; known = with_log run.known 2 is to.0; stands = to.1; master = run.master; first_is = run.first_is; second_is = refl }

-- ## Moments

-- A call before which these events of the row have happened.
some_of : (es rest : List Event) (g : Opening) (s0 : Crash) (n : Master) (old new : Story) → es ++ rest ≡ events → LeavesOnly old new (LeavesRun g es s0 n) → LeavesOnly old new (LeavesSome g [] events s0 n)
some_of es rest g s0 n old new is run = moments.weaker old new (LeavesRun g es s0 n) (LeavesSome g [] events s0 n)
    (λ c l fair. record { first = es; rest = rest; is = is; master = n; no_earlier = same es n; holds = l fair }) run

-- the moments of a call on log 1, whatever has happened
pub moments_here : (es : List Event) (was second : Log) (old new : Story) → KeepsMoments 1 was old new → (g : Opening) (s0 : Crash) (n : Master) → Runs es g s0 n was second old → LeavesOnly old new (LeavesRun g es s0 n)
moments_here es was second old new keeps g s0 n run = subst (λ (m : Master). LeavesOnly old new (LeavesRun g es s0 m)) run.master (keeps s0 g es run.known (is_first es g s0 n was second old run))

moments_first : (es rest : List Event) → es ++ rest ≡ events → (was second : Log) (old new : Story) → KeepsMoments 1 was old new → AnyMoment es was second old new
moments_first es rest is was second old new keeps g s0 n run =
    some_of es rest g s0 n old new is (moments_here es was second old new keeps g s0 n run)

moments_second : (es rest : List Event) → es ++ rest ≡ events → (first was : Log) (old new : Story) → KeepsMoments 2 was old new → AnyMoment es first was old new
moments_second es rest is first was old new keeps g s0 n run =
    some_of es rest g s0 n old new is (subst (λ (m : Master). LeavesOnly old new (LeavesRun g es s0 m)) run.master (keeps s0 g es run.known (is_second es g s0 n first was old run)))

-- calls one after the other
pub after_that : (es more last : List Event) (f0 f1 f2 s0 s1 s2 : Log) (old mid new : Story) → Carries es more f0 s0 f1 s1 old mid → Carries more last f1 s1 f2 s2 mid new → Carries es last f0 s0 f2 s2 old new
after_that es more last f0 f1 f2 s0 s1 s2 old mid new a b g c n r = b g c n (a g c n r)

pub longer : (es more : List Event) (f0 f1 s0 s1 : Log) (old mid new : Story) → Carries es more f0 s0 f1 s1 old mid → AnyMoment es f0 s0 old mid → AnyMoment more f1 s1 mid new → AnyMoment es f0 s0 old new
longer es more f0 f1 s0 s1 old mid new to a b g c n r = moments.then old mid new (LeavesSome g [] events c n) (a g c n r) (b g c n (to g c n r))

-- ## The calls

pub change_first : EveryVersion → (was is second : Log) (old new : Story) → StagesOn 1 change_5 was is old new → Carries [] (up_to 3) was second is second old new
change_first versions was is second old new stages g s0 n r =
    let a = quiet versions [] (Event.Begin 1 0) refl g s0 n was second old r in
    let b = quiet versions (up_to 1) (Event.Lock 1 5 Mode.Alone) refl g s0 n was second old a in
    staged_first (up_to 2) (Event.Change 1 0 5 7) change_5 g s0 n was is second old new stages refl (facts [] g s0 n was second old r).change_5 b

pub change_first_moments : EveryVersion → (was second : Log) (old new : Story) → KeepsMoments 1 was old new → AnyMoment [] was second old new
change_first_moments versions was second old new keeps g s0 n r =
    let a = quiet versions [] (Event.Begin 1 0) refl g s0 n was second old r in
    let b = quiet versions (up_to 1) (Event.Lock 1 5 Mode.Alone) refl g s0 n was second old a in
    moments_first (up_to 2) (drop 2 events) refl was second old new keeps g s0 n b

-- worker 2's first transaction
module _ (versions : EveryVersion) (first : Log) where
  pub change_second : (was is : Log) (old new : Story) → StagesOn 2 change_6 was is old new → Carries (up_to 3) (up_to 6) first was first is old new
  change_second was is old new stages g s0 n r =
      let a = quiet versions (up_to 3) (Event.Begin 2 0) refl g s0 n first was old r in
      let b = quiet versions (up_to 4) (Event.Lock 2 6 Mode.Alone) refl g s0 n first was old a in
      staged_second (up_to 5) (Event.Change 2 0 6 1) change_6 g s0 n first was is old new stages refl (facts (up_to 3) g s0 n first was old r).change_6 b

  pub change_second_moments : (was : Log) (old new : Story) → KeepsMoments 2 was old new → AnyMoment (up_to 3) first was old new
  change_second_moments was old new keeps g s0 n r =
      let a = quiet versions (up_to 3) (Event.Begin 2 0) refl g s0 n first was old r in
      let b = quiet versions (up_to 4) (Event.Lock 2 6 Mode.Alone) refl g s0 n first was old a in
      moments_second (up_to 5) (drop 5 events) refl first was old new keeps g s0 n b

  pub put_back_second : (was is : Log) (old new : Story) → StagesOn 2 put_back_6 was is old new → Carries (up_to 6) (up_to 7) first was first is old new
  put_back_second was is old new stages g s0 n r =
      staged_second (up_to 6) (Event.Put_back 2 0) put_back_6 g s0 n first was is old new stages refl (facts (up_to 6) g s0 n first was old r).put_back_6 r

  pub abort_second : (was is : Log) (old new : Story) → StagesOn 2 abort was is old new → Carries (up_to 7) (up_to 9) first was first is old new
  abort_second was is old new stages g s0 n r =
      let a = staged_second (up_to 7) (Event.End 2 false 0) abort g s0 n first was is old new stages refl (facts (up_to 7) g s0 n first was old r).abort r in
      quiet versions (up_to 8) (Event.Unlock 2 6) refl g s0 n first is new a

  -- and its second one
  pub change_again : (was is : Log) (old new : Story) → StagesOn 2 change_6_again was is old new → Carries (up_to 9) (up_to 12) first was first is old new
  change_again was is old new stages g s0 n r =
      let a = quiet versions (up_to 9) (Event.Begin 2 0) refl g s0 n first was old r in
      let b = quiet versions (up_to 10) (Event.Lock 2 6 Mode.Alone) refl g s0 n first was old a in
      staged_second (up_to 11) (Event.Change 2 0 6 2) change_6_again g s0 n first was is old new stages refl (facts (up_to 9) g s0 n first was old r).change_6_again b

  pub change_again_moments : (was : Log) (old new : Story) → KeepsMoments 2 was old new → AnyMoment (up_to 9) first was old new
  change_again_moments was old new keeps g s0 n r =
      let a = quiet versions (up_to 9) (Event.Begin 2 0) refl g s0 n first was old r in
      let b = quiet versions (up_to 10) (Event.Lock 2 6 Mode.Alone) refl g s0 n first was old a in
      moments_second (up_to 11) (drop 11 events) refl first was old new keeps g s0 n b

  pub commit_second : (was is : Log) (old new : Story) → StagesOn 2 commit was is old new → Carries (up_to 12) (up_to 14) first was first is old new
  commit_second was is old new stages g s0 n r =
      let a = staged_second (up_to 12) (Event.End 2 true 0) commit g s0 n first was is old new stages refl (facts (up_to 12) g s0 n first was old r).commit r in
      quiet versions (up_to 13) (Event.Unlock 2 6) refl g s0 n first is new a

  pub flush_second : (was is : Log) (old new : Story) → was.last ≡ 6 → FlushesOn 2 was is old new → Carries (up_to 14) events first was first is old new
  flush_second was is old new last flushes g s0 n r =
      let to = flushes s0 g (up_to 14) r.known (Event.Flush 2 6) 6 (is_second (up_to 14) g s0 n first was old r) refl (facts (up_to 14) g s0 n first was old r).flush (omega arith) in
      record { opening = r.opening; known = with_log r.known 2 is (flushed (r.known.account 2)); stands = to; master = r.master; first_is = r.first_is; second_is = refl }

-- ## Calls one after the other

module _ (versions : EveryVersion) (first l0 l1 l2 l3 : Log) (s0 s1 s2 s3 : Story) where
  two_steps : StagesOn 2 change_6 l0 l1 s0 s1 → StagesOn 2 put_back_6 l1 l2 s1 s2 → Carries (up_to 3) (up_to 7) first l0 first l2 s0 s2
  two_steps a b = after_that (up_to 3) (up_to 6) (up_to 7) first first first l0 l1 l2 s0 s1 s2 (change_second versions first l0 l1 s0 s1 a) (put_back_second versions first l1 l2 s1 s2 b)

  pub aborts : StagesOn 2 change_6 l0 l1 s0 s1 → StagesOn 2 put_back_6 l1 l2 s1 s2 → StagesOn 2 abort l2 l3 s2 s3 → Carries (up_to 3) (up_to 9) first l0 first l3 s0 s3
  aborts a b c = after_that (up_to 3) (up_to 7) (up_to 9) first first first l0 l2 l3 s0 s2 s3 (two_steps a b) (abort_second versions first l2 l3 s2 s3 c)

  pub aborts_2 : StagesOn 2 change_6 l0 l1 s0 s1 → KeepsMoments 2 l0 s0 s1 → KeepsMoments 2 l1 s1 s2 → AnyMoment (up_to 3) first l0 s0 s2
  aborts_2 a m n = longer (up_to 3) (up_to 6) first first l0 l1 s0 s1 s2 (change_second versions first l0 l1 s0 s1 a) (change_second_moments versions first l0 s0 s1 m)
      (moments_second (up_to 6) (drop 6 events) refl first l1 s1 s2 n)

  pub aborts_3 : StagesOn 2 change_6 l0 l1 s0 s1 → StagesOn 2 put_back_6 l1 l2 s1 s2 → KeepsMoments 2 l0 s0 s1 → KeepsMoments 2 l1 s1 s2 → KeepsMoments 2 l2 s2 s3 → AnyMoment (up_to 3) first l0 s0 s3
  aborts_3 a b m n o = longer (up_to 3) (up_to 7) first first l0 l2 s0 s2 s3 (two_steps a b) (aborts_2 a m n) (moments_second (up_to 7) (drop 7 events) refl first l2 s2 s3 o)

  commits_so_far : StagesOn 2 change_6_again l0 l1 s0 s1 → StagesOn 2 commit l1 l2 s1 s2 → Carries (up_to 9) (up_to 14) first l0 first l2 s0 s2
  commits_so_far a b = after_that (up_to 9) (up_to 12) (up_to 14) first first first l0 l1 l2 s0 s1 s2 (change_again versions first l0 l1 s0 s1 a) (commit_second versions first l1 l2 s1 s2 b)

  pub commits : StagesOn 2 change_6_again l0 l1 s0 s1 → StagesOn 2 commit l1 l2 s1 s2 → Carries (up_to 14) events first l2 first l3 s2 s3 → Carries (up_to 9) events first l0 first l3 s0 s3
  commits a b c = after_that (up_to 9) (up_to 14) events first first first l0 l2 l3 s0 s2 s3 (commits_so_far a b) c

  pub commits_2 : StagesOn 2 change_6_again l0 l1 s0 s1 → KeepsMoments 2 l0 s0 s1 → KeepsMoments 2 l1 s1 s2 → AnyMoment (up_to 9) first l0 s0 s2
  commits_2 a m n = longer (up_to 9) (up_to 12) first first l0 l1 s0 s1 s2 (change_again versions first l0 l1 s0 s1 a) (change_again_moments versions first l0 s0 s1 m)
      (moments_second (up_to 12) (drop 12 events) refl first l1 s1 s2 n)

  pub commits_3 : StagesOn 2 change_6_again l0 l1 s0 s1 → StagesOn 2 commit l1 l2 s1 s2 → KeepsMoments 2 l0 s0 s1 → KeepsMoments 2 l1 s1 s2 → AnyMoment (up_to 14) first l2 s2 s3 → AnyMoment (up_to 9) first l0 s0 s3
  commits_3 a b m n o = longer (up_to 9) (up_to 14) first first l0 l2 s0 s2 s3 (commits_so_far a b) (commits_2 a m n) o

-- while log 2 is flushed
pub flush_moments : (first was : Log) (old new : Story) → KeepsMoments 2 was old new → AnyMoment (up_to 14) first was old new
flush_moments first was old new keeps = moments_second (up_to 14) (drop 14 events) refl first was old new keeps

-- the whole row
module _ (f0 f1 l0 l1 l2 : Log) (d0 d1 d2 d3 : Story) (first : Carries [] (up_to 3) f0 l0 f1 l0 d0 d1) where
  pub moments_2 : AnyMoment [] f0 l0 d0 d1 → AnyMoment (up_to 3) f1 l0 d1 d2 → AnyMoment [] f0 l0 d0 d2
  moments_2 a b = longer [] (up_to 3) f0 f1 l0 l0 d0 d1 d2 first a b

  carried_2 : Carries (up_to 3) (up_to 9) f1 l0 f1 l1 d1 d2 → Carries [] (up_to 9) f0 l0 f1 l1 d0 d2
  carried_2 second = after_that [] (up_to 3) (up_to 9) f0 f1 f1 l0 l0 l1 d0 d1 d2 first second

  pub carried : Carries (up_to 3) (up_to 9) f1 l0 f1 l1 d1 d2 → Carries (up_to 9) events f1 l1 f1 l2 d2 d3 → Carries [] events f0 l0 f1 l2 d0 d3
  carried second last = after_that [] (up_to 9) events f0 f1 f1 l0 l1 l2 d0 d2 d3 (carried_2 second) last

  pub moments_3 : Carries (up_to 3) (up_to 9) f1 l0 f1 l1 d1 d2 → AnyMoment [] f0 l0 d0 d2 → AnyMoment (up_to 9) f1 l1 d2 d3 → AnyMoment [] f0 l0 d0 d3
  moments_3 second a b = longer [] (up_to 9) f0 f1 l0 l1 d0 d2 d3 (carried_2 second) a b

-- log 1 is flushed behind the row
pub flush_first : EveryVersion → (was is second : Log) (old new : Story) → was.last ≡ 1 → FlushesOn 1 was is old new → Carries events ripe_events was second is second old new
flush_first versions was is second old new last flushes g s0 n r =
    let to = flushes s0 g events r.known (Event.Flush 1 1) 1 (is_first events g s0 n was second old r) refl (facts events g s0 n was second old r).flush_first (omega arith) in
    record { opening = r.opening; known = with_log r.known 1 is (flushed (r.known.account 1)); stands = to; master = r.master; first_is = refl; second_is = r.second_is }

-- what lives at a moment
pub lives : EverySurvival → (es : List Event) (first second : Log) (old new : Story) → AnyMoment es first second old new → AnyMomentLives es first second old new
lives survival es first second old new any g s0 n r = moments.weaker old new (LeavesSome g [] events s0 n) (λ c. IsFairFrom g.workers s0 c → Survives g [] events n c.image)
    (λ c l fair. survival g [] events n c.image (l fair)) (any g s0 n r)
