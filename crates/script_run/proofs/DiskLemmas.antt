-- What the disk stands for, and what a crash at any moment leaves.
use Rattle.std.proofs.Common.{◌≡◌, inl, inr, ◌++◌, ◌∷◌, [], ◌≤◌, ◌<◌, ◌+◌, ◌^◌, ℕ, suc, Bool, List, Option, Some, None, IsTrue, length, refl, sym, ap, ◌∙◌, subst, arith}
use Rattle.std.proofs.lemmas.List.{length-append}
use mathlib.Core.List.{append_assoc}
use Rattle.lean_disk.specs.Area.{Area, Leaves}
use Rattle.lean_disk.specs.Moments.{LeavesOnly}
use Rattle.lean_disk.specs.Story.{Crash, IsLawful, Story}
use Rattle.lean_disk.proofs.MomentLemmas.{started, then, weaker}
use Rattle.map_model.specs.Outputs.{Reply}
use Rattle.call_parts.specs.core_state.Events.{Event}
use Rattle.call_parts.specs.core_state.Openings.{Opening}
use Rattle.call_parts.specs.disk_slots.declared.master.Master.{Master}
use Rattle.call_parts.specs.disk_image.Laws.{EveryAgreement}
use Rattle.call_parts.specs.core_disk.Shows.{EveryShown}
use Rattle.call_parts.specs.core_calls.Crashes.{EveryRunCrash}
use Rattle.call_parts.specs.core_calls.Fronts.{Done, front, outcomes}
use Rattle.call_parts.specs.core_calls.Printed.{printed}
use Rattle.call_parts.specs.disk_runs.Fair.{TellsAll}
use Rattle.call_parts.specs.disk_runs.Masters.{IsNoEarlier, IsOfRunBy}
use Rattle.call_parts.specs.disk_runs.Stands.{Known}
use Rattle.call_parts.proofs.disk_runs.LineLemmas.{every_master_line}
use Rattle.call_parts.proofs.disk_runs.StandLemmas.{every_same}
use Rattle.call_parts.specs.run_crashes.Lines.{CallLeaves, NoneStopped, RunLeft, lines_of, notes_of}
use Rattle.call_parts.proofs.run_crashes.LineLemmas.{every_crashed_line_for, every_stop_for, wider}
use Rattle.call_parts.specs.engine_calls.Clauses.{Between}
use Rattle.call_parts.specs.engine_calls.Runs.{LineCrash, LinesOut, Runs}
use Rattle.call_parts.proofs.engine_calls.MomentLemmas.{still}
use Rattle.call_parts.proofs.engine_calls.RunLemmas.{every_run_for, line}
use Rattle.call_parts.specs.core_calls.Steps.{call_behind}
use Rattle.call_parts.specs.engine_trait.Limits.{limits}
use Rattle.call_parts.specs.Areas.{Around, Beside, IsAside}
use Rattle.call_parts.specs.Deeds.{Keeps, Stops, Stops as stops}
use Rattle.call_parts.specs.Memory.{IsOf, Memory}
use Rattle.script_run.specs.Runs.{CallMissing, DiskTo, Hand, LinesMissing, OthersStand, PrintsTo, RunStands, StaysAside, StoppedIn, CallMissing as missing}
use Rattle.script_run.specs.Inside.{IsOfPutting, IsOfReading, Laws, OnlyNotes, PutLeaves}
use Rattle.script_run.specs.declared.stop.Stop.{Stop}
use Rattle.script_run.specs.declared.stop.Stop.TheVariants.{End, Refused, ReadFault, WriteFault, DiskFault, Damaged}
use Rattle.script_run.proofs.DueLemmas.{printed_more}
use Rattle.script_run.proofs.EventLemmas.{room_commits_none, stopped_of_each_first}
use Rattle.script_run.proofs.StopLemmas.{FirstOf, first_of}

-- a run without a call that was not answered
unstopped : (g : Opening) (Such : List Done → List Event → Type 0) (s0 : Crash) (m : Master) (xs : List Done) (from now : Story) → LeavesOnly from now (RunLeft g NoneStopped xs s0 m) → LeavesOnly from now (RunLeft g Such xs s0 m)
unstopped g Such s0 m xs from now run = weaker from now (RunLeft g NoneStopped xs s0 m) (RunLeft g Such xs s0 m) (wider g NoneStopped Such (λ heard es none. absurd none) s0 m xs) run

no_earlier : (xs ys : List Event) (n m k : Master) → IsNoEarlier xs n m → IsNoEarlier ys m k → IsNoEarlier (xs ++ ys) n k
no_earlier xs ys n m k p q = let laws = every_master_line n m k in laws.further xs ys p q

-- ## Other areas

-- an area behind those of the logs, in which no call does anything
aside : (logs : ℕ) (saves syncs : Bool) (a : ℕ) → suc logs < a → IsAside logs saves syncs a
aside logs saves syncs a behind = inr (inl behind)

module _ (logs : ℕ) where
  pub stays_none : (count : ℕ) (s : Story) → IsLawful s → LeavesOnly s s (StaysAside logs count s)
  stays_none count s law = started s (StaysAside logs count s) law
      (λ c now. record {
        notes = let n : c.notes ≡ s.notes = now.notes in omega arith;
        writes = λ a other. now.writes a;
        leaves = λ a other. now.leaves a;
      })

  pub stays_call : (count : ℕ) (saves syncs : Bool) (old new : Story) → LeavesOnly old new (Beside logs saves syncs old) → LeavesOnly old new (StaysAside logs count old)
  stays_call count saves syncs old new run = weaker old new (Beside logs saves syncs old) (StaysAside logs count old)
      (λ c h. record { notes = let n : c.notes ≡ old.notes = h.notes in omega arith; writes = λ a other. h.writes a (aside logs saves syncs a other); leaves = λ a other. h.leaves a (aside logs saves syncs a other) }) run

  pub stays_more : (count more : ℕ) (s old new : Story) → count ≤ more → LeavesOnly old new (StaysAside logs count s) → LeavesOnly old new (StaysAside logs more s)
  stays_more count more s old new le run = weaker old new (StaysAside logs count s) (StaysAside logs more s) (λ c h. record { notes = let n : c.notes ≤ s.notes + count = h.notes in omega arith; writes = h.writes; leaves = h.leaves }) run

  -- while lines are put, behind a call
  pub stays_put : (told : List Reply) (saves syncs : Bool) (old mid new : Story) → Around logs saves syncs old mid → IsTrue old.counts → old.notes + length told < 2 ^ 64 → LeavesOnly mid new (PutLeaves told mid) → LeavesOnly mid new (StaysAside logs (length told) old)
  stays_put told saves syncs old mid new frame counts room run = weaker mid new (PutLeaves told mid) (StaysAside logs (length told) old)
      (λ c p. record {
        notes =
            let size : length (p.later ++ p.first) ≡ length p.later + length p.first = length-append p.later p.first in
            let whole : length (p.later ++ p.first) ≡ length told = ap length p.split in
            let same : mid.notes ≡ old.notes = frame.notes in
            let now : c.notes ≡ mid.notes + length p.first = p.notes (frame.counts ∙ counts) (omega arith) in
            omega (arith, size, whole, same, now);
        writes = λ b other tell. p.writes b (frame.tells b ∙ tell) ∙ ap (λ (u : Area). u.writes) (frame.aside b (aside logs saves syncs b other));
        leaves = λ b other tell. subst (λ (u : Area). Leaves u (c.image b)) (frame.aside b (aside logs saves syncs b other)) (p.leaves b (frame.tells b ∙ tell));
      }) run

  -- behind a run
  pub stays_behind : (first : List Reply) (count : ℕ) (old mid new : Story) → OthersStand logs first old mid → IsTrue old.counts → old.notes + length first < 2 ^ 64 → LeavesOnly mid new (StaysAside logs count mid) → LeavesOnly mid new (StaysAside logs (count + length first) old)
  stays_behind first count old mid new others counts room run = weaker mid new (StaysAside logs count mid) (StaysAside logs (count + length first) old)
      (λ c p. record {
        notes =
            let was : mid.notes ≡ old.notes + length first = others.notes counts room in
            let now : c.notes ≤ mid.notes + count = p.notes in
            omega (arith, was, now);
        writes = λ b other tell. p.writes b other (others.tells b ∙ tell) ∙ ap (λ (u : Area). u.writes) (others.area b other);
        leaves = λ b other tell. subst (λ (u : Area). Leaves u (c.image b)) (others.area b other) (p.leaves b other (others.tells b ∙ tell));
      }) run

  pub others_same : (s : Story) → OthersStand logs [] s s
  others_same s = record { later = omega arith; counts = refl; tells = λ a. refl; areas = refl; area = λ a other. refl; notes = λ counts fits. omega arith }

  -- a call, and then its lines
  pub others_call : (told : List Reply) (saves syncs : Bool) (old mid new : Story) → Around logs saves syncs old mid → OnlyNotes told mid new → OthersStand logs told old new
  others_call told saves syncs old mid new frame notes = record {
    later = let p : old.moment ≤ mid.moment = frame.later in let q : mid.moment ≤ new.moment = notes.later in omega arith;
    counts = notes.counts ∙ frame.counts;
    tells = λ b. notes.tells b ∙ frame.tells b;
    areas = notes.areas ∙ frame.areas;
    area = λ b other. notes.area b ∙ frame.aside b (aside logs saves syncs b other);
    notes = λ counts room. let n : mid.notes ≡ old.notes = frame.notes in let m : new.notes ≡ mid.notes + length told = notes.notes (frame.counts ∙ counts) (omega arith) in omega arith;
  }

  pub others_fault : (saves syncs : Bool) (old new : Story) → Around logs saves syncs old new → OthersStand logs [] old new
  others_fault saves syncs old new frame = record {
    later = frame.later;
    counts = frame.counts;
    tells = frame.tells;
    areas = frame.areas;
    area = λ b other. frame.aside b (aside logs saves syncs b other);
    notes = λ counts room. let n : new.notes ≡ old.notes = frame.notes in omega arith;
  }

  pub others_then : (first second : List Reply) (s0 s1 s2 : Story) → OthersStand logs first s0 s1 → OthersStand logs second s1 s2 → OthersStand logs (second ++ first) s0 s2
  others_then first second s0 s1 s2 p q = record {
    later = let l : s0.moment ≤ s1.moment = p.later in let k : s1.moment ≤ s2.moment = q.later in omega arith;
    counts = q.counts ∙ p.counts;
    tells = λ a. q.tells a ∙ p.tells a;
    areas = q.areas ∙ p.areas;
    area = λ a other. q.area a other ∙ p.area a other;
    notes = λ counts fits.
        let size : length (second ++ first) ≡ length second + length first = length-append second first in
        let one : s1.notes ≡ s0.notes + length first = p.notes counts (omega arith) in
        let two : s2.notes ≡ s1.notes + length second = q.notes (p.counts ∙ counts) (omega arith) in omega arith;
  }

-- ## Where it goes on

-- no fault of the sink and none of the disk
abbrev pub IsCalm : Option Stop → Type 0
IsCalm None = Unit {0}
IsCalm (Some stop) = IsOfReading stop

pub calm : (stop : Option Stop) (hand : Hand) (g : Opening) (group : ℕ) (calls : List Done) (last : List Event) (s0 : Crash) (m : Master) (k : Known) (from now : Story) (memory : Memory)
    → IsCalm stop → RunStands g group calls last s0 m k from now memory → DiskTo stop hand g group calls last s0 m k from now memory
calm None hand g group calls last s0 m k from now memory of stands = stands
calm (Some End) hand g group calls last s0 m k from now memory of stands = stands
calm (Some (Refused line)) hand g group calls last s0 m k from now memory of stands = stands
calm (Some ReadFault) hand g group calls last s0 m k from now memory of stands = stands
calm (Some WriteFault) hand g group calls last s0 m k from now memory of stands = absurd of
calm (Some DiskFault) hand g group calls last s0 m k from now memory of stands = absurd of
calm (Some (Damaged place)) hand g group calls last s0 m k from now memory of stands = absurd of

-- ## One run behind another

module _ (shown : EveryShown) (crashes : EveryRunCrash) (agrees : EveryAgreement) (g : Opening) (group : ℕ) (s0 : Crash) (m : Master) where
  -- more calls
  left_more : (newer ys : List Done) (c : Crash) → RunLeft g NoneStopped ys s0 m c → RunLeft g NoneStopped (newer ++ ys) s0 m c
  left_more [] ys c l = l
  left_more (x ∷ newer) ys c l = (every_crashed_line_for shown crashes agrees NoneStopped limits g group s0 m m (newer ++ ys) c).more x (left_more newer ys c l)

  module _ (ys : List Done) (from old new : Story) (first : LeavesOnly from old (RunLeft g NoneStopped ys s0 m)) where
    first_later : (newer : List Done) → LeavesOnly from old (RunLeft g NoneStopped (newer ++ ys) s0 m)
    first_later newer = weaker from old (RunLeft g NoneStopped ys s0 m) (RunLeft g NoneStopped (newer ++ ys) s0 m) (left_more newer ys) first

    moments : (newer : List Done) → LeavesOnly old new (RunLeft g NoneStopped (newer ++ ys) s0 m) → LeavesOnly from new (RunLeft g NoneStopped (newer ++ ys) s0 m)
    moments newer second = then from old new (RunLeft g NoneStopped (newer ++ ys) s0 m) (first_later newer) second

    module _ (newer : List Done) (es last : List Event) (k known : Known) (behind : IsNoEarlier es k.master known.master) (memory : Memory) where
      runs_later : RunStands g group (newer ++ ys) last s0 m known old new memory → RunStands g group (newer ++ ys) (es ++ last) s0 m k from new memory
      runs_later d = record {
        known = d.known;
        memory_is = d.memory_is;
        no_earlier = no_earlier es last k.master known.master d.known.master behind d.no_earlier;
        runs = record { between = d.runs.between; of_run = d.runs.of_run; any_moment = moments newer d.runs.any_moment };
      }

      missing_later : LinesMissing g (newer ++ ys) last s0 m known old new memory → LinesMissing g (newer ++ ys) (es ++ last) s0 m k from new memory
      missing_later d = record {
        any_moment = moments newer d.any_moment;
        known = d.known;
        stands = d.stands;
        memory_is = d.memory_is;
        no_earlier = no_earlier es last k.master known.master d.known.master behind d.no_earlier;
      }

      call_later : (hand : Hand) → CallMissing g group (newer ++ ys) hand s0 m old new → CallMissing g group (newer ++ ys) hand s0 m from new
      call_later hand (missing.Nothing l) =
          let Left : Crash → Type 0 = RunLeft g (StoppedIn g (newer ++ ys) hand) (newer ++ ys) s0 m in
          missing.Nothing (then from old new Left (unstopped g (StoppedIn g (newer ++ ys) hand) s0 m (newer ++ ys) from old (first_later newer)) l)
      call_later hand (missing.Part x asks session tells few l) = missing.Part x asks session tells few (moments (x ∷ newer) l)

      -- A run that began at another story goes on so.
      pub disk_later : (stop : Option Stop) (hand : Hand) → DiskTo stop hand g group (newer ++ ys) last s0 m known old new memory → DiskTo stop hand g group (newer ++ ys) (es ++ last) s0 m k from new memory
      disk_later None hand d = runs_later d
      disk_later (Some End) hand d = runs_later d
      disk_later (Some (Refused line)) hand d = runs_later d
      disk_later (Some ReadFault) hand d = runs_later d
      disk_later (Some WriteFault) hand d = missing_later d
      disk_later (Some DiskFault) hand d = call_later hand d
      disk_later (Some (Damaged place)) hand d = absurd d

-- ## One call

module _ (laws : Laws) (g : Opening) (group : ℕ) (s0 : Crash) (m : Master) where
  module _ (xs : List Done) (k : Known) (old : Story) (law : IsLawful old) (between : Between limits g group xs s0 k old) (of_run : IsOfRunBy (front xs) m k.master) where
    -- nothing happened yet
    rests : Runs limits g group NoneStopped xs s0 m k old old
    rests = record {
      between = between;
      of_run = of_run;
      any_moment = weaker old old (CallLeaves g xs [] s0 k.master) (RunLeft g NoneStopped xs s0 m)
          (λ c. (every_crashed_line_for laws.shown laws.crashes laws.agrees NoneStopped limits g group s0 m k.master xs c).behind between.told of_run)
          (still laws.keeps laws.prefixes laws.seals g xs [] s0 k old law between.stands between.notes);
    }

    pub none_stands : (memory : Memory) → IsOf g memory k → RunStands g group xs [] s0 m k old old memory
    none_stands memory is = record { known = k; memory_is = is; no_earlier = (every_master_line k.master k.master k.master).same []; runs = rests }

    -- the disk failed
    pub stopped : (mid : Story) (hand : Hand) → Stops g group xs hand.session hand.call s0 k old mid → CallMissing g group xs hand s0 m old mid
    stopped mid hand (stops.Nothing es room l) =
        missing.Nothing ((every_stop_for laws.shown laws.crashes laws.agrees (StoppedIn g xs hand) old old mid limits g group s0 m k.master xs).nothing es between.told (room_commits_none g xs hand.session (call_behind (outcomes xs) hand.call) es room)
        (stopped_of_each_first g xs hand es room) of_run (unstopped g (StoppedIn g xs hand) s0 m xs old old rests.any_moment) l)
    stopped mid hand (stops.Part x asks session tells few l) =
        missing.Part x asks session tells few ((every_stop_for laws.shown laws.crashes laws.agrees NoneStopped old old mid limits g group s0 m k.master xs).part x (between.told, tells) of_run rests.any_moment l)

    -- it was answered, and these lines of it were put
    module _ (x : Done) (saves syncs : Bool) (memory : Memory) (mid new : Story) (frame : Around g.workers saves syncs old mid) (kept : Keeps g group xs x s0 k memory old mid) (told : List Reply) (notes : OnlyNotes told mid new) (puts : LeavesOnly mid new (PutLeaves told mid)) (few : old.notes + length told < 2 ^ 64) where
      count : IsTrue mid.counts
      count = frame.counts ∙ between.counts

      crash : (lacks : List Reply) → lacks ++ told ≡ lines_of g xs x → (c : Crash) → PutLeaves told mid c → LineCrash g xs x s0 mid c
      crash lacks all c p =
          let size : length (p.later ++ p.first) ≡ length p.later + length p.first = length-append p.later p.first in
          let whole : length (p.later ++ p.first) ≡ length told = ap length p.split in
          let was : old.notes ≡ notes_of g xs s0 = between.notes in
          let same : mid.notes ≡ old.notes = frame.notes in
          let now : c.notes ≡ mid.notes + length p.first = p.notes count (omega arith) in
          record {
            later = lacks ++ p.later;
            first = p.first;
            split = append_assoc lacks p.later p.first ∙ ap (λ (rs : List Reply). lacks ++ rs) p.split ∙ all;
            notes = now ∙ ap (λ (n : ℕ). n + length p.first) (same ∙ was);
            writes = p.writes;
            leaves = p.leaves;
          }

      lines : (lacks : List Reply) → lacks ++ told ≡ lines_of g xs x → LeavesOnly mid new (LineCrash g xs x s0 mid)
      lines lacks all = weaker mid new (PutLeaves told mid) (LineCrash g xs x s0 mid) (crash lacks all) puts

      tells : TellsAll g.workers new
      tells a high = notes.tells a ∙ kept.answers.stands.tells a high

      out : told ≡ lines_of g xs x → LinesOut g xs x s0 mid new
      out all =
          let was : old.notes ≡ notes_of g xs s0 = between.notes in
          let same : mid.notes ≡ old.notes = frame.notes in
          let now : new.notes ≡ mid.notes + length told = notes.notes count (omega arith) in
          let size : length (lines_of g xs x ++ printed g xs) ≡ length (lines_of g xs x) + length (printed g xs) = length-append (lines_of g xs x) (printed g xs) in
          let more : length (printed g (x ∷ xs)) ≡ length (lines_of g xs x ++ printed g xs) = ap length (printed_more g xs x) in
          let each : length told ≡ length (lines_of g xs x) = ap length all in
          record {
            any_moment = lines [] all;
            tells = tells;
            areas = λ a high. notes.area a;
            counts = notes.counts ∙ count;
            notes = omega (arith, was, same, now, size, more, each);
          }

      all_out : told ≡ lines_of g xs x → RunStands g group (x ∷ xs) x.events s0 m k old new memory
      all_out all = record {
        known = kept.answers.known;
        memory_is = kept.memory;
        no_earlier = kept.answers.no_earlier;
        runs = (every_run_for laws.shown laws.crashes laws.agrees laws.keeps laws.prefixes laws.seals NoneStopped old old mid new limits g group s0 m k).answered xs x rests kept.answers (out all);
      }

      some_out : (lacks : List Reply) → lacks ++ told ≡ lines_of g xs x → LinesMissing g (x ∷ xs) x.events s0 m k old new memory
      some_out lacks all = record {
        any_moment = line laws.shown laws.crashes laws.agrees laws.keeps laws.prefixes laws.seals NoneStopped limits g group s0 m k old old mid new xs x rests kept.answers (lines lacks all);
        known = kept.answers.known;
        stands = every_same mid new s0 g (front (x ∷ xs)) kept.answers.known kept.answers.stands tells (λ a high. notes.area a);
        memory_is = kept.memory;
        no_earlier = kept.answers.no_earlier;
      }

      pub answered : (stop : Option Stop) (hand : Hand) (tail : List ℕ) → IsOfPutting stop → PrintsTo stop (lines_of g xs x) told tail → DiskTo stop hand g group (x ∷ xs) x.events s0 m k old new memory
      answered None hand tail of prints = all_out prints.told_is
      answered (Some stop) hand tail of prints =
          let f : FirstOf (lines_of g xs x) told = first_of (Some stop) (lines_of g xs x) told tail prints in
          let P : Stop → Type 0 = λ s. DiskTo (Some s) hand g group (x ∷ xs) x.events s0 m k old new memory in
          let at : P WriteFault = some_out f.later f.is in subst P (sym of) at
