-- Which line is the next.
use Rattle.std.proofs.Common.{◌≡◌, ◌<◌, ◌≤◌, ◌+◌, ◌-◌, ◌*◌, ◌^◌, ◌++◌, [], ◌∷◌, ℕ, List, Option, Some, None, length, refl, sym, ap, ◌∙◌, subst, arith}
use Rattle.std.proofs.lemmas.List.{append-nil, length-append}
use mathlib.Core.List.{append_assoc}
use Rattle.map_model.specs.declared.call.Call.{Call}
use Rattle.map_model.specs.declared.call.Call.TheVariants.{Begin, Scan, Sync}
use Rattle.script_lang.specs.declared.line.Line.{Line}
use Rattle.transcripts.specs.Told.{LineFits}
use Rattle.workload.specs.Laws.{EveryLength, EveryLine, IsOfWorkload}
use Rattle.workload.specs.Lines.{lines_of}
use Rattle.workload_run.specs.Inside.{IsAt}
use Rattle.workload_run.specs.Plans.{EachScansOn, IsMade, IsStepOf, StageTakes, Takes, asked_of, last_key}
use Rattle.workload_run.specs.Plans.Takes.{Behind, OfWorkload}
use Rattle.workload_run.specs.declared.plan.Stage.{Stage}
use Rattle.workload_run.specs.declared.plan.Stage.TheVariants as stage

asked_append : (xs ys : List Line) → asked_of (xs ++ ys) ≡ asked_of xs ++ asked_of ys
asked_append [] ys = refl
asked_append (x ∷ xs) ys = ap (λ (ls : List (ℕ × Call)). (x.session, x.call) ∷ ls) (asked_append xs ys)

asked_length : (xs : List Line) → length (asked_of xs) ≡ length xs
asked_length [] = refl
asked_length (x ∷ xs) = let h = asked_length xs in omega (arith, h)

scans_append : (xs ys : List (ℕ × Call)) → EachScansOn xs → EachScansOn ys → EachScansOn (xs ++ ys)
scans_append [] ys first second = second
scans_append (x ∷ xs) ys first second = (first.0, first.1, scans_append xs ys first.2 second)

-- a step of a walk is one, from where it goes on
step_scans : (on : Option ℕ) (line : Line) → IsStepOf on line → (line.session ≡ 1) × (from : ℕ) × (from < 2 ^ 64 - 1) × (on ≡ Some from) × (line.call ≡ Scan from last_key)
step_scans None line is = absurd is
step_scans (Some from) line is = (ap (λ (l : Line). l.session) is.1, from, is.0, refl, ap (λ (l : Line). l.call) is.1)

-- what a scan asks that goes on there
abbrev pub GoesFrom : Option ℕ → Call → Type 0
GoesFrom on (Scan from to) = on ≡ Some from
GoesFrom on _ = Unit {0}

module _ (number count sessions : ℕ) where
  abbrev whole : List Line
  whole = lines_of number count sessions

  abbrev At : List (ℕ × Call) → List Line → Stage → Type 0
  At done left s = IsAt number count sessions done left s

  -- before the first line
  pub at_first : (lines : List Line) (s : Stage) (n : ℕ) → lines ≡ lines_of number count n → n ≡ sessions → s ≡ stage.Sync → At [] lines s
  at_first lines s n are same is = subst (At [] lines) (sym is) ([], are ∙ ap (lines_of number count) same, refl)

  -- behind the next line
  module _ (done : List (ℕ × Call)) (lines left : List Line) (on : Option ℕ) (line : Line) where
    abbrev more : List (ℕ × Call)
    more = done ++ (line.session, line.call) ∷ []

    behind : (old new : Stage) → lines ≡ [] → left ≡ [] → At done lines old → StageTakes old on line new → At more left new
    behind stage.Sync new was none (earlier, are, is) takes =
        subst (At more left) (sym takes.1)
        (none, ap (λ (l : Line). done ++ (l.session, l.call) ∷ []) takes.0 ∙ ap (λ (ds : List (ℕ × Call)). ds ++ (0, Sync) ∷ []) (is ∙ ap asked_of (sym (append-nil earlier) ∙ (ap (λ (ls : List Line). earlier ++ ls) (sym was) ∙ are))))
    behind stage.Begin new was none (empty, is) takes =
        subst (At more left) (sym takes.1)
        (none, [], tt, ap (λ (l : Line). done ++ (l.session, l.call) ∷ []) takes.0 ∙ (ap (λ (ds : List (ℕ × Call)). ds ++ (1, Begin) ∷ []) is ∙ append_assoc (asked_of whole) ((0, Sync) ∷ []) ((1, Begin) ∷ [])))
    behind stage.Walk new was none (empty, walk, scans, is) takes =
        let step = step_scans on line takes.0 in
        let pair : (line.session, line.call) ≡ (1, Scan step.1 last_key) = ap (λ (s : ℕ). (s, line.call)) step.0 ∙ ap (λ (c : Call). (1, c)) step.4 in
        let last : EachScansOn ((1, Scan step.1 last_key) ∷ []) = (refl, refl, tt) in
        subst (At more left) (sym takes.1) (
          none,
          walk ++ (1, Scan step.1 last_key) ∷ [],
          scans_append walk ((1, Scan step.1 last_key) ∷ []) scans last,
          ap (λ (p : ℕ × Call). done ++ p ∷ []) pair ∙ (ap (λ (ds : List (ℕ × Call)). ds ++ (1, Scan step.1 last_key) ∷ []) is ∙ append_assoc (asked_of whole) ((0, Sync) ∷ (1, Begin) ∷ walk) ((1, Scan step.1 last_key) ∷ [])),
        )

    of_workload : (s : Stage) → lines ≡ line ∷ left → At done lines s → At more left s
    of_workload stage.Sync begins (earlier, are, is) = (
      earlier ++ line ∷ [],
      append_assoc earlier (line ∷ []) left ∙ (ap (λ (ls : List Line). earlier ++ ls) (sym begins) ∙ are),
      ap (λ (ds : List (ℕ × Call)). ds ++ (line.session, line.call) ∷ []) is ∙ sym (asked_append earlier (line ∷ [])),
    )
    of_workload stage.Begin begins (empty, is) = let clash : [] ≡ line ∷ left = sym empty ∙ begins in absurd (let n : 0 ≡ length (line ∷ left) = ap (λ (ls : List Line). length ls) clash in omega (arith, n))
    of_workload stage.Walk begins (empty, walk, scans, is) = let clash : [] ≡ line ∷ left = sym empty ∙ begins in absurd (let n : 0 ≡ length (line ∷ left) = ap (λ (ls : List Line). length ls) clash in omega (arith, n))

    pub at_next : (old new : Stage) → At done lines old → Takes lines old on line left new → At more left new
    at_next old new at (OfWorkload begins same) = subst (At more left) (sym same) (of_workload old begins at)
    at_next old new at (Behind was none takes) = behind old new was none at takes

    -- it is in the grammar of a script, and a scan goes on where the walk does
    module _ (every : EveryLine) (some : 1 ≤ sessions) where
      abbrev IsNextLine : Type 0
      IsNextLine = LineFits sessions line.session line.call × GoesFrom on line.call

      no_scan : (c : Call) → IsOfWorkload c → GoesFrom on c
      no_scan (Scan from to) is = absurd is
      no_scan _ is = tt

      line_workload : (s : Stage) → lines ≡ line ∷ left → At done lines s → IsNextLine
      line_workload stage.Sync begins (earlier, are, is) =
          let l = every number count sessions earlier line left some (ap (λ (ls : List Line). earlier ++ ls) (sym begins) ∙ are) in
          (record { session = l.session; fits = l.fits }, no_scan line.call l.within)
      line_workload stage.Begin begins (empty, is) = let clash : [] ≡ line ∷ left = sym empty ∙ begins in absurd (let n : 0 ≡ length (line ∷ left) = ap (λ (ls : List Line). length ls) clash in omega (arith, n))
      line_workload stage.Walk begins (empty, walk, scans, is) = let clash : [] ≡ line ∷ left = sym empty ∙ begins in absurd (let n : 0 ≡ length (line ∷ left) = ap (λ (ls : List Line). length ls) clash in omega (arith, n))

      abbrev Next : Line → Type 0
      Next l = LineFits sessions l.session l.call × GoesFrom on l.call

      line_behind : (old new : Stage) → StageTakes old on line new → Next line
      line_behind stage.Sync new takes = subst Next (sym takes.0) (record { session = refl; fits = tt }, tt)
      line_behind stage.Begin new takes = subst Next (sym takes.0) (record { session = (omega arith, some); fits = tt }, tt)
      line_behind stage.Walk new takes = go on takes.0
        where
          go : (o : Option ℕ) → IsStepOf o line → LineFits sessions line.session line.call × GoesFrom o line.call
          go None is = absurd is
          go (Some from) is = subst (λ (l : Line). LineFits sessions l.session l.call × GoesFrom (Some from) l.call) (sym is.1) (record { session = (omega arith, some); fits = (is.0, omega arith) }, refl)

      pub next_line : (old new : Stage) → At done lines old → Takes lines old on line left new → IsNextLine
      next_line old new at (OfWorkload begins same) = line_workload old begins at
      next_line old new at (Behind was none takes) = line_behind old new takes

  -- these lines are the first of all that are made
  pub record IsFirst (done : List (ℕ × Call)) : Type 0 where
    pub others : List (ℕ × Call)
    pub made : IsMade number count sessions (done ++ others)

  pub first_of : (done : List (ℕ × Call)) (left : List Line) (s : Stage) → At done left s → IsFirst done
  first_of done left stage.Sync (earlier, are, is) = record {
    others = asked_of left ++ (0, Sync) ∷ (1, Begin) ∷ [];
    made = record {
      walk = [];
      scans = tt;
      is = sym (append_assoc done (asked_of left) ((0, Sync) ∷ (1, Begin) ∷ []))
          ∙ ap (λ (ds : List (ℕ × Call)). ds ++ (0, Sync) ∷ (1, Begin) ∷ []) (ap (λ (ds : List (ℕ × Call)). ds ++ asked_of left) is ∙ (sym (asked_append earlier left) ∙ ap asked_of are));
    };
  }
  first_of done left stage.Begin (empty, is) = record {
    others = (1, Begin) ∷ [];
    made = record { walk = []; scans = tt; is = ap (λ (ds : List (ℕ × Call)). ds ++ (1, Begin) ∷ []) is ∙ append_assoc (asked_of whole) ((0, Sync) ∷ []) ((1, Begin) ∷ []) };
  }
  first_of done left stage.Walk (empty, walk, scans, is) = record { others = []; made = record { walk = walk; scans = scans; is = append-nil done ∙ is } }

  -- all are made where the walk is on
  pub all_made : (done : List (ℕ × Call)) (left : List Line) (s : Stage) → s ≡ stage.Walk → At done left s → IsMade number count sessions (done ++ [])
  all_made done left s walking at = go (subst (At done left) walking at)
    where
      go : At done left stage.Walk → IsMade number count sessions (done ++ [])
      go (empty, walk, scans, is) = record { walk = walk; scans = scans; is = append-nil done ∙ is }

  -- and it is where there are as many as a script may have
  module _ (lengths : EveryLength) (few : count < 2 ^ 32) where
    size : length (asked_of whole) ≡ 10 * count
    size = asked_length whole ∙ lengths number count sessions

    pub walks_on : (done : List (ℕ × Call)) (left : List Line) (s : Stage) → length done ≡ 2 ^ 40 - 1 → At done left s → s ≡ stage.Walk
    walks_on done left stage.Sync long (earlier, are, is) =
        let all : length earlier + length left ≡ length whole = sym (length-append earlier left) ∙ ap (λ (ls : List Line). length ls) are in
        let taken : length done ≡ length earlier = ap (λ (ds : List (ℕ × Call)). length ds) is ∙ asked_length earlier in
        let n : length whole ≡ 10 * count = lengths number count sessions in
        absurd (omega (arith, long, all, taken, n, few))
    walks_on done left stage.Begin long (empty, is) =
        let taken : length done ≡ length (asked_of whole) + 1 = ap (λ (ds : List (ℕ × Call)). length ds) is ∙ length-append (asked_of whole) ((0, Sync) ∷ []) in
        let n : length (asked_of whole) ≡ 10 * count = size in
        absurd (omega (arith, long, taken, n, few))
    walks_on done left stage.Walk long at = refl
