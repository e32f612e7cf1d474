-- The disk of a run, by why its script stopped: what a crash leaves of it, and what it stands for.
use Rattle.std.proofs.Common.{◌≡◌, ◌⊎◌, inl, inr, ⊎_elim, ◌≤◌, ◌++◌, ℕ, Bool, true, false, cond, List, [], ◌∷◌, length, Option, Some, None, refl, sym, ◌∙◌, ap, subst, arith, true≢false}
use Rattle.std.proofs.lemmas.List.{append-nil, length-append}
use Rattle.map_model.specs.declared.call.Call.{Call}
use Rattle.map_model.specs.declared.call.Refusal.{Refusal}
use Rattle.map_model.specs.declared.call.Refusal.TheVariants as refusal
use Rattle.map_model.specs.Journals.{Name}
use Rattle.map_model.specs.Outputs.{Reply}
use Rattle.map_model.specs.Pairings.{is_last, is_open_line, script_of}
use Rattle.lean_disk.specs.Moments.{LeavesOnly}
use Rattle.lean_disk.specs.Story.{Crash, Story}
use Rattle.lean_disk.proofs.MomentLemmas.{weaker}
use Rattle.buffered_engine.specs.lean_edge.Outside.{Feed}
use Rattle.script_lang.specs.Reading.{Unread}
use Rattle.buffered_engine.specs.disk_slots.declared.master.Master.{Master}
use Rattle.buffered_engine.specs.disk_image.Laws.{EveryAgreement}
use Rattle.buffered_engine.specs.core_state.Events.{Event}
use Rattle.buffered_engine.specs.core_state.Openings.{Opening}
use Rattle.buffered_engine.specs.core_calls.Crashes.{EveryRunCrash}
use Rattle.buffered_engine.specs.core_calls.Deeds.{Deed, Refused, answered, asked}
use Rattle.buffered_engine.specs.core_calls.Fronts.{Done, front}
use Rattle.buffered_engine.specs.core_calls.Printed.{due_lines, durable_lines, printed}
use Rattle.buffered_engine.specs.core_calls.Runs.{EachTells, Tells}
use Rattle.buffered_engine.specs.core_calls.Steps.{hindered_in, is_conflict}
use Rattle.buffered_engine.proofs.core_calls.PrintedLemmas.{due_are}
use Rattle.buffered_engine.specs.core_disk.Held.{HoldsRun}
use Rattle.buffered_engine.specs.core_disk.Shows.{EveryShown}
use Rattle.buffered_engine.specs.disk_runs.Masters.{IsNoEarlier, IsOfRunBy}
use Rattle.buffered_engine.specs.disk_runs.Stands.{Known, Stands}
use Rattle.buffered_engine.specs.call_parts.Memory.{IsOf, Memory}
use Rattle.buffered_engine.specs.call_parts.Rooms.{most_of}
use Rattle.buffered_engine.specs.engine_trait.Limits.{limits}
use Rattle.buffered_engine.specs.run_crashes.Lines.{NoneStopped, Recovers, RunLeft, next_of}
use Rattle.buffered_engine.proofs.run_crashes.ReopenLemmas.{every_reopened_for}
use Rattle.script_run.specs.Runs.{CallMissing, DiskTo, Hand, InHand, ReadsTo, StoppedIn, calls_of}
use Rattle.script_run.specs.Runs.CallMissing.{Nothing, Part}
use Rattle.script_run.specs.Runs.InHand.{OfAbort, OfLine, OfScan}
use Rattle.script_run.specs.declared.stop.Stop.{Stop}
use Rattle.script_run.specs.declared.stop.Stop.TheVariants as stops
use Rattle.transcripts.specs.Laws.{NextLaws}
use Rattle.transcripts.specs.Told.{asked_text}
use Rattle.lean_shell.specs.Starts.{HasLinesFor, IsAskedNext}
use Rattle.lean_shell.proofs.Runs.LeftLemmas.{CountsFrom}
use Rattle.lean_shell.proofs.Runs.PrintedLemmas.{Lacks, lacks, prefix_few, same_prefix}
use Rattle.lean_shell.proofs.Runs.ScriptLemmas.{begins_line, same_line}

-- ## Crashes

-- All calls were answered; or one was not, behind events by which it made room, or behind the first of those by which it would be answered.
pub data Moved (stop : Stop) (hand : Hand) (g : Opening) (group : ℕ) (xs : List Done) (c0 : Crash) (m : Master) (from now : Story) : Type 0 where
  InRun : LeavesOnly from now (RunLeft g NoneStopped xs c0 m) → Moved stop hand g group xs c0 m from now
  InRoom : stop ≡ stops.DiskFault → LeavesOnly from now (RunLeft g (StoppedIn g xs hand) xs c0 m) → Moved stop hand g group xs c0 m from now
  InPart : (x : Done) → stop ≡ stops.DiskFault → asked x.outcome.deed ≡ hand.call → x.outcome.session ≡ hand.session → Tells limits g group xs x → length x.events ≤ most_of hand.call → LeavesOnly from now (RunLeft g NoneStopped (x ∷ xs) c0 m) → Moved stop hand g group xs c0 m from now

pub moved : (stop : Stop) (hand : Hand) (g : Opening) (group : ℕ) (xs : List Done) (last : List Event) (c0 : Crash) (m : Master) (k : Known) (from now : Story) (memory : Memory) → DiskTo (Some stop) hand g group xs last c0 m k from now memory → Moved stop hand g group xs c0 m from now
moved stops.End hand g group xs last c0 m k from now memory d = InRun d.runs.any_moment
moved (stops.Refused line) hand g group xs last c0 m k from now memory d = InRun d.runs.any_moment
moved stops.ReadFault hand g group xs last c0 m k from now memory d = InRun d.runs.any_moment
moved stops.WriteFault hand g group xs last c0 m k from now memory d = InRun d.any_moment
moved stops.DiskFault hand g group xs last c0 m k from now memory d = go d
  where
    go : CallMissing g group xs hand c0 m from now → Moved stops.DiskFault hand g group xs c0 m from now
    go (Nothing l) = InRoom refl l
    go (Part x is session tells few l) = InPart x refl is session tells few l
moved (stops.Damaged place) hand g group xs last c0 m k from now memory never = absurd never

-- the master of a fair image is of a run of this one
left_counts : (g : Opening) (Such : List Done → List Event → Type 0) (xs : List Done) (c0 : Crash) (m : Master) (c : Crash) → RunLeft g Such xs c0 m c → CountsFrom g c0 m c
left_counts g Such xs c0 m c q = λ fair. let r = q.recovers fair in (r.n, r.of_run.of_run, r.holds.master)

pub counts_moved : (stop : Stop) (hand : Hand) (g : Opening) (group : ℕ) (xs : List Done) (c0 : Crash) (m : Master) (from now : Story) → Moved stop hand g group xs c0 m from now → LeavesOnly from now (CountsFrom g c0 m)
counts_moved stop hand g group xs c0 m from now (InRun l) = weaker from now (RunLeft g NoneStopped xs c0 m) (CountsFrom g c0 m) (left_counts g NoneStopped xs c0 m) l
counts_moved stop hand g group xs c0 m from now (InRoom e l) = weaker from now (RunLeft g (StoppedIn g xs hand) xs c0 m) (CountsFrom g c0 m) (left_counts g (StoppedIn g xs hand) xs c0 m) l
counts_moved stop hand g group xs c0 m from now (InPart x e is session tells few l) = weaker from now (RunLeft g NoneStopped (x ∷ xs) c0 m) (CountsFrom g c0 m) (left_counts g NoneStopped (x ∷ xs) c0 m) l

-- two facts of each moment
pub both : (from now : Story) (P Q : Crash → Type 0) → LeavesOnly from now P → LeavesOnly from now Q → LeavesOnly from now (λ c. P c × Q c)
both from now P Q p q = record {
  each = λ m c later left. (p.each m c later left, q.each m c later left);
  before = λ m c left. ⊎_elim (λ old. inl old) (λ pc. ⊎_elim (λ old. inl old) (λ qc. inr (pc, qc)) (q.before m c left)) (p.before m c left);
}

-- ## The call that was not answered

-- the script's next line asks it, or it is the abort or the step of a scan that is due
pub asks_next : (sessions : ℕ) (calls : List Done) (hand : Hand) (start feed : Feed) (reader : Unread) → NextLaws sessions start feed reader (script_of (calls_of calls)) → InHand sessions calls hand start feed reader (asked_text (script_of (calls_of calls)))
    → IsAskedNext sessions start.left calls hand.session hand.call
asks_next sessions calls hand start feed reader laws (OfLine fits reading) = IsAskedNext.OfLine fits (laws.asks hand.session hand.call fits reading)
asks_next sessions calls hand start feed reader laws (OfAbort y earlier e session due reading) = IsAskedNext.OfAbort y earlier e session due
asks_next sessions calls hand start feed reader laws (OfScan y earlier e session same more none reading) = IsAskedNext.OfScan y earlier e session same more none

in_hand : (stop : Stop) (sessions : ℕ) (calls : List Done) (hand : Hand) (number : ℕ) (start feed : Feed) (reader : Unread) (seen : List ℕ) → stop ≡ stops.DiskFault → ReadsTo (Some stop) sessions calls hand number start feed reader seen → InHand sessions calls hand start feed reader seen
in_hand stop sessions calls hand number start feed reader seen is reads = subst (λ (s : Stop). ReadsTo (Some s) sessions calls hand number start feed reader seen) is reads

pub asked_of : (stop : Stop) (sessions : ℕ) (calls : List Done) (hand : Hand) (number : ℕ) (start feed : Feed) (reader : Unread) → NextLaws sessions start feed reader (script_of (calls_of calls)) → stop ≡ stops.DiskFault
    → ReadsTo (Some stop) sessions calls hand number start feed reader (asked_text (script_of (calls_of calls))) → IsAskedNext sessions start.left calls hand.session hand.call
asked_of stop sessions calls hand number start feed reader laws is reads =
    asks_next sessions calls hand start feed reader laws (in_hand stop sessions calls hand number start feed reader (asked_text (script_of (calls_of calls))) is reads)

-- a conflict leaves a line unfinished
conflict_open : (d : Deed) (c : Call) → hindered_in d ≡ Some c → is_last (answered d) ≡ false
conflict_open (Refused a why backs) c e = go why e
  where
    none : (c : Call) → ◌≡◌ {A = Option Call} None (Some c) → ⊥
    none c q = cc

    go : (why : Refusal) → cond (is_conflict why) (Some a) None ≡ Some c → is_last (answered (Refused a why backs)) ≡ false
    go (refusal.Conflict h) q = refl
    go _ q = absurd (none c q)
conflict_open _ c e = absurd (none c e)
  where
    none : (c : Call) → ◌≡◌ {A = Option Call} None (Some c) → ⊥
    none c q = cc

-- so the script begins with the lines of all calls and of this one
pub lines_with : (sessions : ℕ) (input : List ℕ) (calls : List Done) (x : Done) → HasLinesFor sessions input calls → IsAskedNext sessions input calls x.outcome.session (asked x.outcome.deed) → HasLinesFor sessions input (x ∷ calls)
lines_with sessions input calls x l a = go (is_open_line (calls_of calls)) refl a
  where
    not_open : (y : Done) (earlier : List Done) → calls ≡ y ∷ earlier → is_last (answered y.outcome.deed) ≡ false → is_open_line (calls_of calls) ≡ false → ⊥
    not_open y earlier is more e =
        let open_yet : is_open_line (calls_of (y ∷ earlier)) ≡ true = ap (λ (b : Bool). cond b false true) more in
        true≢false (sym open_yet ∙ (ap (λ (xs : List Done). is_open_line (calls_of xs)) (sym is) ∙ e))

    go : (b : Bool) → is_open_line (calls_of calls) ≡ b → IsAskedNext sessions input calls x.outcome.session (asked x.outcome.deed) → HasLinesFor sessions input (x ∷ calls)
    go true e a = same_line sessions input calls x e l
    go false e (IsAskedNext.OfLine fits comes) = begins_line sessions input calls x e l.fits fits comes
    go false e (IsAskedNext.OfAbort y earlier is session due) =
        absurd (not_open y earlier is (conflict_open y.outcome.deed (asked x.outcome.deed) due) e)
    go false e (IsAskedNext.OfScan y earlier is session same more none) = absurd (not_open y earlier is more e)

-- ## The disk at the end

-- unless the disk failed, it stands for all events
pub record StandsNow (g : Opening) (xs : List Done) (last : List Event) (c0 : Crash) (k : Known) (now : Story) (memory : Memory) : Type 0 where
  pub known : Known
  pub stands : Stands g (front xs) c0 known now
  pub memory_is : IsOf g memory known
  pub no_earlier : IsNoEarlier last k.master known.master

pub stands_now : (stop : Stop) (hand : Hand) (g : Opening) (group : ℕ) (xs : List Done) (last : List Event) (c0 : Crash) (m : Master) (k : Known) (from now : Story) (memory : Memory) → (stop ≡ stops.DiskFault → ⊥) → DiskTo (Some stop) hand g group xs last c0 m k from now memory → StandsNow g xs last c0 k now memory
stands_now stops.End hand g group xs last c0 m k from now memory not_disk d = record { known = d.known; stands = d.runs.between.stands; memory_is = d.memory_is; no_earlier = d.no_earlier }
stands_now (stops.Refused line) hand g group xs last c0 m k from now memory not_disk d = record { known = d.known; stands = d.runs.between.stands; memory_is = d.memory_is; no_earlier = d.no_earlier }
stands_now stops.ReadFault hand g group xs last c0 m k from now memory not_disk d = record { known = d.known; stands = d.runs.between.stands; memory_is = d.memory_is; no_earlier = d.no_earlier }
stands_now stops.WriteFault hand g group xs last c0 m k from now memory not_disk d = record { known = d.known; stands = d.stands; memory_is = d.memory_is; no_earlier = d.no_earlier }
stands_now stops.DiskFault hand g group xs last c0 m k from now memory not_disk d = absurd (not_disk refl)
stands_now (stops.Damaged place) hand g group xs last c0 m k from now memory not_disk d = absurd d

-- of a disk that stood for the run no page was damaged
pub damaged_not : (stop : Stop) (hand : Hand) (g : Opening) (group : ℕ) (xs : List Done) (last : List Event) (c0 : Crash) (m : Master) (k : Known) (from now : Story) (memory : Memory) (place : ℕ) → stop ≡ stops.Damaged place
    → DiskTo (Some stop) hand g group xs last c0 m k from now memory → ⊥
damaged_not stop hand g group xs last c0 m k from now memory place is d = subst (λ (s : Stop). DiskTo (Some s) hand g group xs last c0 m k from now memory) is d

-- with these replies told, the first of the outcomes were heard
pub record HeardNow (g : Opening) (calls : List Done) (told : List Reply) : Type 0 where
  pub unheard : List Done
  pub heard : List Done
  pub are : unheard ++ heard ≡ calls
  -- at most one was not, and none if all lines were told
  pub newest : (unheard ≡ []) ⊎ ((x : Done) × (unheard ≡ x ∷ []))
  pub whole : length (printed g calls) ≤ length told → unheard ≡ []
  pub missing : List Name
  pub lines : durable_lines missing ++ told ≡ printed g heard
  pub recovers : (shows : EveryShown) (crashes : EveryRunCrash) (agrees : EveryAgreement) (m n : Master) (area : ℕ → List ℕ) → IsOfRunBy (front calls) m n → HoldsRun g (front calls) n area → Recovers g NoneStopped heard (next_of unheard) told m area

-- the lines of all calls but the last are told
abbrev pub IsCutLast : Opening → List Done → List Reply → Type 0
IsCutLast g [] told = Unit {0}
IsCutLast g (x ∷ earlier) told = length (printed g earlier) ≤ length told

pub heard_now : (g : Opening) (group : ℕ) (calls : List Done) (newer told : List Reply) → EachTells limits g group calls → newer ++ told ≡ printed g calls → IsCutLast g calls told → HeardNow g calls told
heard_now g group [] newer told each e cut = record {
  unheard = [];
  heard = [];
  are = refl;
  newest = inl refl;
  whole = λ all. refl;
  missing = [];
  lines = none newer told e;
  recovers = λ shows crashes agrees m n area of_run h. (every_reopened_for shows crashes agrees NoneStopped limits g group [] m n area).behind [] told tt (none newer told e) of_run h;
}
  where
    none : (newer told : List Reply) → newer ++ told ≡ [] → told ≡ []
    none [] told e = e
    none (r ∷ newer) told e = cc
heard_now g group (x ∷ earlier) newer told each e cut = ⊎_elim (λ l. record {
  unheard = [];
  heard = x ∷ earlier;
  are = refl;
  newest = inl refl;
  whole = λ all. refl;
  missing = l.missing;
  lines = l.is;
  recovers = λ shows crashes agrees m n area of_run h. (every_reopened_for shows crashes agrees NoneStopped limits g group (x ∷ earlier) m n area).behind (durable_lines l.missing) told each l.is of_run h;
}) (λ l. record {
  unheard = x ∷ [];
  heard = earlier;
  are = refl;
  newest = inr (x, refl);
  whole = λ all. absurd (shorter l.0 l.1 all);
  missing = [];
  lines = same l.0 l.1;
  recovers = λ shows crashes agrees m n area of_run h. (every_reopened_for shows crashes agrees NoneStopped limits g group earlier m n area).between x x.events [] [] told each (append-nil x.events) (same l.0 l.1) of_run h;
}) lacking
  where
    -- its lines are the durable ones that are due, and its answer
    lacking : Lacks told (printed g earlier) (printed g (x ∷ earlier)) ⊎ ((n : List Reply) × (n ++ told ≡ printed g earlier))
    lacking =
        let d = due_are g x earlier in
        let is : printed g (x ∷ earlier) ≡ durable_lines d.0 ++ Reply.Answered x.outcome.session (answered x.outcome.deed) ∷ printed g earlier = ap (λ (rs : List Reply). rs ++ Reply.Answered x.outcome.session (answered x.outcome.deed) ∷ printed g earlier) d.1 in
        subst (λ (all : List Reply). Lacks told (printed g earlier) all ⊎ ((n : List Reply) × (n ++ told ≡ printed g earlier))) (sym is)
        (lacks d.0 x.outcome.session (answered x.outcome.deed) (printed g earlier) newer told (e ∙ is))

    shorter : (n : List Reply) → n ++ told ≡ printed g earlier → length (printed g (x ∷ earlier)) ≤ length told → ⊥
    shorter n q all =
        let a = length-append (due_lines g earlier x) (Reply.Answered x.outcome.session (answered x.outcome.deed) ∷ printed g earlier) in
        let b = prefix_few n told (printed g earlier) q in
        omega (arith, a, b, all)

    same : (n : List Reply) → n ++ told ≡ printed g earlier → told ≡ printed g earlier
    same n q = same_prefix n told (printed g earlier) q (let a = prefix_few n told (printed g earlier) q in let b = cut in omega arith)
