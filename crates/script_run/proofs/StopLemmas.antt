-- Why a run stops, where the reader stands then, and how the engine.
use Rattle.std.proofs.Common.{◌≡◌, ◌++◌, ◌∷◌, [], ℕ, Bool, List, true, false, Option, Some, None, Result, Ok, Err, refl, sym, ap, ◌∙◌, subst, arith, true≢false}
use mathlib.Core.List.{append_assoc}
use Rattle.lean_disk.specs.Faults.{HasCause}
use Rattle.lean_edge.specs.Outside.{Feed}
use Rattle.script_lang.specs.Reading.{Unread, Reading}
use Rattle.map_model.specs.Journals.{Name}
use Rattle.map_model.specs.Outputs.{Reply}
use Rattle.map_model.specs.declared.call.Answered.{Answered}
use Rattle.map_model.specs.Pairings.{is_open_line, script_of}
use Rattle.call_parts.specs.core_state.Openings.{Opening}
use Rattle.call_parts.specs.core_calls.Durables.{durables, moments}
use Rattle.call_parts.specs.core_calls.Fronts.{Done}
use Rattle.transcripts.specs.Told.{ask, asked_text}
use Rattle.transcripts.proofs.AskedLemmas.{asked_append}
use Rattle.transcripts.proofs.TranscriptLemmas.{script_append}
use Rattle.script_run.specs.Runs.{EngineStands, Hand, InHand, IsRefusedLine, ReadsTo, PrintsTo, IsWhole, works_behind, works_on}
use Rattle.script_run.specs.Runs.InHand.{OfLine, OfAbort, OfScan}
use Rattle.script_run.specs.Inside.{EngineGoes, HasTold, IsOfEngine, IsOfPutting, IsOfReading, IsOfRunning, MayRun, StopsFor}
use Rattle.engine_front.specs.Stops.{StopsBy}
use Rattle.call_parts.specs.engine_trait.declared.unserved.Unanswered.{Unanswered}
use Rattle.call_parts.specs.engine_trait.declared.unserved.Unanswered.TheVariants as unanswered
use Rattle.script_run.specs.declared.stop.Stop.{Stop}
use Rattle.script_run.specs.declared.stop.Stop.TheVariants.{End, Refused, ReadFault, WriteFault, DiskFault, Damaged}

-- ## The reader

-- the call in hand, behind more calls, and behind equal bytes
hand_more : (sessions : ℕ) (newer more : List Done) (hand : Hand) (start now : Feed) (r : Unread) (seen other : List ℕ) → seen ≡ other → InHand sessions newer hand start now r seen → InHand sessions (newer ++ more) hand start now r other
hand_more sessions newer more hand start now r seen other bytes (OfLine fits is) = OfLine fits (subst (λ (t : List ℕ). Reading start now r (t ++ (ask hand.session hand.call ++ 10 ∷ []))) bytes is)
hand_more sessions newer more hand start now r seen other bytes (OfAbort y earlier are session hindered is) =
    OfAbort y (earlier ++ more) (ap (λ (xs : List Done). xs ++ more) are) session hindered (subst (λ (t : List ℕ). Reading start now r t) bytes is)
hand_more sessions newer more hand start now r seen other bytes (OfScan y earlier are session asks unfinished none is) =
    OfScan y (earlier ++ more) (ap (λ (xs : List Done). xs ++ more) are) session asks unfinished none (subst (λ (t : List ℕ). Reading start now r t) bytes is)

-- the same, at an equal number, behind more calls and equal bytes
pub reads_more : (stop : Option Stop) (sessions : ℕ) (newer more : List Done) (hand : Hand) (m n : ℕ) (start now : Feed) (r : Unread) (seen other : List ℕ) → m ≡ n → seen ≡ other
    → ReadsTo stop sessions newer hand m start now r seen → ReadsTo stop sessions (newer ++ more) hand n start now r other
reads_more None sessions newer more hand m n start now r seen other number bytes is = subst (λ (t : List ℕ). Reading start now r t) bytes is
reads_more (Some End) sessions newer more hand m n start now r seen other number bytes is = (subst (λ (t : List ℕ). Reading start now r t) bytes is.0, is.1)
reads_more (Some (Refused line)) sessions newer more hand m n start now r seen other number bytes is =
    (is.0 ∙ number, subst (λ (k : ℕ). IsRefusedLine sessions k start now r other) number (subst (λ (t : List ℕ). IsRefusedLine sessions m start now r t) bytes is.1))
reads_more (Some ReadFault) sessions newer more hand m n start now r seen other number bytes is = subst (λ (t : List ℕ). Reading start now r t) bytes is
reads_more (Some WriteFault) sessions newer more hand m n start now r seen other number bytes is = subst (λ (t : List ℕ). Reading start now r t) bytes is
reads_more (Some DiskFault) sessions newer more hand m n start now r seen other number bytes is = hand_more sessions newer more hand start now r seen other bytes is
reads_more (Some (Damaged place)) sessions newer more hand m n start now r seen other number bytes is = hand_more sessions newer more hand start now r seen other bytes is

-- the lines of calls behind those that were answered in full
pub seen_more : (seen : List ℕ) (xs ys : List Answered) → is_open_line xs ≡ false → (seen ++ asked_text (script_of xs)) ++ asked_text (script_of ys) ≡ seen ++ asked_text (script_of (ys ++ xs))
seen_more seen xs ys closed =
    append_assoc seen (asked_text (script_of xs)) (asked_text (script_of ys))
    ∙ ap (λ (t : List ℕ). seen ++ t) (sym (ap asked_text (script_append ys xs closed) ∙ asked_append (script_of xs) (script_of ys)))

-- a sink's failure, or none, leaves the reader behind the call
pub reads_putting : (stop : Option Stop) (sessions : ℕ) (newer : List Done) (hand : Hand) (n : ℕ) (start now : Feed) (r : Unread) (seen : List ℕ) → IsOfPutting stop → Reading start now r seen → ReadsTo stop sessions newer hand n start now r seen
reads_putting None sessions newer hand n start now r seen of is = is
reads_putting (Some stop) sessions newer hand n start now r seen of is = subst (λ (s : Stop). ReadsTo (Some s) sessions newer hand n start now r seen) (sym of) is

-- ## What was put

pub prints_none : (stop : Stop) → IsOfReading stop → PrintsTo (Some stop) [] [] []
prints_none End of = record { told_is = refl; none = refl }
prints_none (Refused line) of = record { told_is = refl; none = refl }
prints_none ReadFault of = record { told_is = refl; none = refl }
prints_none WriteFault of = absurd of
prints_none DiskFault of = absurd of
prints_none (Damaged place) of = absurd of

-- what was told is the first of all
pub record FirstOf (all told : List Reply) : Type 0 where
  pub later : List Reply
  pub is : later ++ told ≡ all

pub first_of : (stop : Option Stop) (all told : List Reply) (tail : List ℕ) → PrintsTo stop all told tail → FirstOf all told
first_of stop all told tail is = go stop is
  where
    whole : IsWhole all told tail → FirstOf all told
    whole w = record { later = []; is = w.told_is }

    go : (stop : Option Stop) → PrintsTo stop all told tail → FirstOf all told
    go None w = whole w
    go (Some End) w = whole w
    go (Some (Refused line)) w = whole w
    go (Some ReadFault) w = whole w
    go (Some WriteFault) cut = record { later = cut.later ++ cut.next ∷ []; is = append_assoc cut.later (cut.next ∷ []) told ∙ cut.split }
    go (Some DiskFault) w = whole w
    go (Some (Damaged place)) w = whole w

-- ## The engine

pub reading_stands : (stop : Stop) (Stands : Option (List Name) → Type 0) (g : Opening) (calls : List Done) → IsOfReading stop → Stands (Some (durables g (moments calls))) → EngineStands stop Stands g calls
reading_stands End Stands g calls of stands = stands
reading_stands (Refused line) Stands g calls of stands = stands
reading_stands ReadFault Stands g calls of stands = stands
reading_stands WriteFault Stands g calls of stands = absurd of
reading_stands DiskFault Stands g calls of stands = absurd of
reading_stands (Damaged place) Stands g calls of stands = absurd of

pub putting_goes : (stop : Option Stop) (Stands : Option (List Name) → Type 0) (g : Opening) (calls : List Done) → IsOfPutting stop → HasTold stop (λ names. Stands (Some names)) (durables g (moments calls)) → EngineGoes stop Stands g calls
putting_goes None Stands g calls of told = told
putting_goes (Some stop) Stands g calls of told = subst (λ (s : Stop). EngineStands s Stands g calls) (sym of) told

-- ## Which stop

-- the sink's
pub putting_runs : (stop : Option Stop) → IsOfPutting stop → MayRun stop
putting_runs None of = tt
putting_runs (Some stop) of = subst IsOfRunning (sym of) tt

pub putting_no_disk : (stop : Option Stop) → IsOfPutting stop → stop ≡ Some DiskFault → ⊥
putting_no_disk None of e = let is : None ≡ Some DiskFault = e in cc
putting_no_disk (Some stop) of e = let is : stop ≡ WriteFault = of in let same : Some stop ≡ Some DiskFault = e in cc

pub putting_no_err : {A : Type 0} → (stop : Stop) → stop ≡ WriteFault → ◌≡◌ {A = Result A Stop} (Err stop) (Err DiskFault) → ⊥
putting_no_err stop of e = let is : stop ≡ WriteFault = of in let same : stop ≡ DiskFault = cc in let clash : WriteFault ≡ DiskFault = sym is ∙ same in cc

pub putting_no_read : (stop : Option Stop) → IsOfPutting stop → stop ≡ Some ReadFault → ⊥
putting_no_read None of e = let is : None ≡ Some ReadFault = e in cc
putting_no_read (Some stop) of e = let is : stop ≡ WriteFault = of in let same : Some stop ≡ Some ReadFault = e in cc

pub running_no_read : (stop : Option Stop) → MayRun stop → stop ≡ Some ReadFault → ⊥
running_no_read stop may e = subst MayRun e may

pub running_goes : (stop : Option Stop) → MayRun stop → (stop ≡ Some WriteFault → ⊥) → works_behind stop ≡ true → stop ≡ None
running_goes None may sink works = refl
running_goes (Some WriteFault) may sink works = absurd (sink refl)
running_goes (Some DiskFault) may sink works = absurd (true≢false (sym works))
running_goes (Some (Damaged place)) may sink works = absurd (true≢false (sym works))
running_goes (Some _) may sink works = absurd may

pub putting_works : (stop : Option Stop) → IsOfPutting stop → works_behind stop ≡ true
putting_works None of = refl
putting_works (Some stop) of = ap works_on of

-- the engine's
pub engine_ends : (stop : Stop) → IsOfEngine stop → works_on stop ≡ false
engine_ends DiskFault of = refl
engine_ends (Damaged place) of = refl
engine_ends _ of = absurd of

pub engine_runs : (stop : Stop) → IsOfEngine stop → IsOfRunning stop
engine_runs DiskFault of = tt
engine_runs (Damaged place) of = tt
engine_runs _ of = absurd of

pub engine_no_sink : (stop : Stop) → IsOfEngine stop → Some stop ≡ Some WriteFault → ⊥
engine_no_sink stop of e = let is : stop ≡ WriteFault = cc in subst IsOfEngine is of

pub engine_no_read : (stop : Stop) → IsOfEngine stop → Some stop ≡ Some ReadFault → ⊥
engine_no_read stop of e = let is : stop ≡ ReadFault = cc in subst IsOfEngine is of

-- behind an error it works no longer
pub not_works : (works : Bool) → (works ≡ true → ⊥) → works ≡ false
not_works true never = absurd (never refl)
not_works false never = refl

-- why it did not answer
pub by_fault : {fails : Type 0} (never : Type 0) {why : Unanswered} → why ≡ unanswered.DiskFault → StopsBy why fails never → fails
by_fault {fails} never is stops = subst (λ (u : Unanswered). StopsBy u fails never) is stops

pub by_damage : {fails never : Type 0} {why : Unanswered} {place : ℕ} → why ≡ unanswered.Damaged place → StopsBy why fails never → fails × never
by_damage {fails} {never} is stops = subst (λ (u : Unanswered). StopsBy u fails never) is stops

-- whatever stopped the engine, its call has failed
pub failed_of : (stop : Stop) (fails never : Type 0) → StopsFor stop fails never → fails
failed_of DiskFault fails never stops = stops
failed_of (Damaged place) fails never stops = stops.0
failed_of _ fails never stops = absurd stops

pub ok_no_err : {A : Type 0} → (r : Result A Stop) (a : A) (stop : Stop) → r ≡ Ok a → r ≡ Err stop → ⊥
ok_no_err r a stop ok err = let clash : Ok a ≡ Err stop = sym ok ∙ err in cc

-- a fault that did not come
pub no_cause : (before now : ℕ) (failed : Type 0) → now ≡ before → (failed → ⊥) → HasCause before now failed
no_cause before now failed same never = record { later = omega arith; cause = λ f. absurd (never f); calm = λ n. same }

-- and one that came behind none
pub cause_behind : (before mid now : ℕ) (failed : Type 0) → mid ≡ before → HasCause mid now failed → HasCause before now failed
cause_behind before mid now failed same h = subst (λ (n : ℕ). HasCause n now failed) same h

-- a reader stops for no other's fault
pub of_no_sink : (stop : Stop) → IsOfReading stop → Some stop ≡ Some WriteFault → ⊥
of_no_sink stop of e = let is : stop ≡ WriteFault = cc in subst IsOfReading is of

pub reading_works : (stop : Stop) → IsOfReading stop → works_on stop ≡ true
reading_works End of = refl
reading_works (Refused line) of = refl
reading_works ReadFault of = refl
reading_works _ of = absurd of

pub of_no_disk : (stop : Stop) → IsOfReading stop → Some stop ≡ Some DiskFault → ⊥
of_no_disk stop of e = let is : stop ≡ DiskFault = cc in subst IsOfReading is of
