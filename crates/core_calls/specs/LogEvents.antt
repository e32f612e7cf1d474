-- Where flushes, syncs and cuts stand.
use Rattle.std.specs.Prelude.{◌≡◌, ◌⊎◌, ◌<◌, ℕ, Bool, true, false, ◌&&◌, ◌==◌, ltb, leb, List, [], ◌∷◌, ◌++◌, length, if◌then◌else◌}
use Rattle.map_model.specs.declared.call.Call.{Call}
use Rattle.map_model.specs.declared.call.Call.TheVariants as call
use Rattle.map_model.specs.declared.call.Refusal.{Refusal}
use Rattle.map_model.specs.declared.call.Refusal.TheVariants as refusal
use Rattle.map_model.specs.Lists.{any, keep}
use Rattle.core_crash.specs.image_model.Entries.{is_commit}
use Rattle.page_model.specs.Check.{names_page}
use Rattle.page_model.specs.Nodes.{covers}
use Rattle.core_crash.specs.core_state.Openings.{Opening}
use Rattle.core_crash.specs.core_state.States.{State, flushed_by_all, in_frame, is_cold}
use Rattle.core_crash.specs.core_state.Events.{Event}
use Rattle.core_crash.specs.core_state.Steps.{run, state_after, step}
use Rattle.core_calls.specs.Deeds.{Deed, Begun, Committed, Aborted, Refused, Synced, Checkpointed, asked}
use Rattle.core_calls.specs.Refusals.{Limits, waiting}
use Rattle.core_calls.specs.Fronts.{Done, front, outcomes}
use Rattle.core_calls.specs.Steps.{call_behind}

-- the commits of a log that are not flushed
abbrev pub behind : State → ℕ → ℕ
behind s w = length (keep (λ e. is_commit e.kind && ((e.log == w) && ltb (s.flushed w) e.number)) s.entries)

-- what is done to logs
abbrev pub is_log : Event → Bool
is_log (Event.Flush w n) = true
is_log (Event.Sync n) = true
is_log (Event.Cut x heads) = true
is_log _ = false

-- last, the log is flushed up to the commit if so many of its commits are behind
pub record Flushes (g : Opening) (group : ℕ) (s : State) (w at : ℕ) (es : List Event) : Type 0 where
  pub before : List Event
  pub is : es ≡ before ++ (if leb group (behind (run g s before) w) then Event.Flush w at ∷ [] else [])
  pub else_none : any is_log before ≡ false

-- flushes alone
abbrev pub AreFlushes : List Event → Type 0
AreFlushes [] = Unit {0}
AreFlushes (Event.Flush w n ∷ es) = AreFlushes es
AreFlushes _ = ⊥

-- a sync up to a number: flushes, and then the sync
abbrev pub IsSync : ℕ → List Event → Type 0
IsSync n es = (flushes : List Event) × (es ≡ flushes ++ Event.Sync n ∷ []) × AreFlushes flushes

-- with a cut behind it
abbrev pub IsSyncAndCut : ℕ → List Event → Type 0
IsSyncAndCut x es = (flushes : List Event) × (n : ℕ) × (heads : ℕ → ℕ) × (es ≡ flushes ++ Event.Sync n ∷ Event.Cut x heads ∷ []) × AreFlushes flushes

-- A begin makes the step where a log is half full, and syncs where too many ends of its session wait.
abbrev pub PreparesBy : (is_half_full is_waiting : Bool) → List Event → Type 0
PreparesBy true b es = (x : ℕ) × IsSyncAndCut x es
PreparesBy false true es = (n : ℕ) × IsSync n es
PreparesBy false false es = es ≡ []

-- So behind these outcomes, of an engine whose begins make the step at all. Whether a log is half full then no event shows, but by its bytes the engine.
abbrev pub Prepares : (half : Bool) → Limits → Opening → List Done → ℕ → List Event → Type 0
Prepares half l g earlier w es = PreparesBy (l.steps && half) (leb l.waiting (waiting g (state_after g (front earlier)) w)) es

-- ## A page that finds no frame

-- the frame has a page of the key's way, or one above the number up to which all logs are flushed
pub record IsTaken (g : Opening) (s : State) (key frame : ℕ) : Type 0 where
  pub page : ℕ
  pub here : in_frame (s.place page) frame ≡ true
  pub stays : (covers (s.page page).node key ≡ true) ⊎ (flushed_by_all g s < (s.page page).gsn)

-- so it is of each: none can be given to another page
abbrev pub AreTaken : Opening → State → (key : ℕ) → Type 0
AreTaken g s key = (frame : ℕ) → frame < g.frames → IsTaken g s key frame

-- a page of the key's way, or a free one, stands in no frame, and none can be given to it
pub record IsTight (g : Opening) (s : State) (key : ℕ) : Type 0 where
  pub page : ℕ
  pub below : page < g.format.pages
  pub needed : (covers (s.page page).node key ≡ true) ⊎ ((s.page page).node.live ≡ false)
  pub cold : is_cold (s.place page) ≡ true
  pub taken : AreTaken g s key

-- this page, which a page of the key's way names, stands in no frame, and none can be given to it
pub record IsTightBeside (key page : ℕ) (g : Opening) (s : State) : Type 0 where
  pub parent : ℕ
  pub below : parent < g.format.pages
  pub on : covers (s.page parent).node key ≡ true
  pub names : names_page (s.page parent).node page ≡ true
  pub cold : is_cold (s.place page) ≡ true
  pub taken : AreTaken g s key

-- a page of the key's way, a free one, or one beside the way, as a join needs it, finds no frame
abbrev pub IsTightAround : (key : ℕ) → Opening → State → Type 0
IsTightAround key g s = IsTight g s key ⊎ ((page : ℕ) × IsTightBeside key page g s)

-- so it is for some key
abbrev pub IsTightSomewhere : Opening → State → Type 0
IsTightSomewhere g s = (key : ℕ) × IsTight g s key

-- so it is for a key to which the call comes: a del comes to pages beside its way too, a scan and an abort come to several keys
abbrev pub IsPressed : Opening → Call → State → Type 0
IsPressed g (call.Get k) s = IsTight g s k
IsPressed g (call.Put k v) s = IsTight g s k
IsPressed g (call.Del k) s = IsTightAround k g s
IsPressed g (call.Scan from to) s = IsTightSomewhere g s
IsPressed g call.Abort s = IsTightSomewhere g s
IsPressed g c s = ⊥

-- Whole syncs alone, flushes and then the sync, with nothing between them; each begins at a state of which P is so.
abbrev pub SyncsWhere : (P : State → Type 0) → Opening → State → (flushed : Bool) → List Event → Type 0
SyncsWhere P g s false [] = Unit {0}
SyncsWhere P g s true [] = ⊥
SyncsWhere P g s flushed (Event.Cut x heads ∷ es) = ⊥
SyncsWhere P g s false (Event.Flush w n ∷ es) = P s × SyncsWhere P g (step g s (Event.Flush w n)) true es
SyncsWhere P g s true (Event.Flush w n ∷ es) = SyncsWhere P g (step g s (Event.Flush w n)) true es
SyncsWhere P g s false (Event.Sync n ∷ es) = P s × SyncsWhere P g (step g s (Event.Sync n)) false es
SyncsWhere P g s true (Event.Sync n ∷ es) = SyncsWhere P g (step g s (Event.Sync n)) false es
SyncsWhere P g s false (e ∷ es) = SyncsWhere P g (step g s e) false es
SyncsWhere P g s true (e ∷ es) = ⊥

-- whole syncs alone, wherever they begin
abbrev pub AreSyncs : (flushed : Bool) → List Event → Type 0
AreSyncs flushed (Event.Flush w n ∷ es) = AreSyncs true es
AreSyncs flushed (Event.Sync n ∷ es) = AreSyncs false es
AreSyncs false [] = Unit {0}
AreSyncs flushed _ = ⊥

-- How these are put together, and what is so of lists of events in which they stand.
pub record WhereLaws (P Q : State → Type 0) (g : Opening) (s : State) (es : List Event) : Type 0 where
  -- at the logs there is nothing else
  pub alone : (b : Bool) → SyncsWhere P g s b es → AreSyncs b (keep is_log es)
  -- events that do nothing to logs have none
  pub none : any is_log es ≡ false → SyncsWhere P g s false es
  -- where P never is so, there are none
  pub nowhere : ((t : State) → P t → ⊥) → SyncsWhere P g s false es → any is_log es ≡ false
  -- further events, and a lesser thing to say
  pub more : (fs : List Event) → SyncsWhere P g s false es → SyncsWhere P g (run g s es) false fs → SyncsWhere P g s false (es ++ fs)
  -- a sync that is made at once, as before a begin
  pub due : (n : ℕ) → IsSync n es → P s → SyncsWhere P g s false es
  pub weaker : (b : Bool) → ((t : State) → P t → Q t) → SyncsWhere P g s b es → SyncsWhere Q g s b es

-- A law of all tests is of a greater type; so it is said for what presses two calls.
abbrev pub EveryWhere : Type 0
EveryWhere = (c d : Call) (g : Opening) (s : State) (es : List Event) → WhereLaws (IsPressed g c) (IsPressed g d) g s es

-- So it is for a call that is refused, where it has come to pages: a get, a put and a del behind their row, a scan as far as a row that it may not have.
abbrev pub IsPressedYet : Opening → Call → Refusal → State → Type 0
IsPressedYet g c refusal.TooTall s = IsPressed g c s
IsPressedYet g c refusal.NoPages s = IsPressed g c s
IsPressedYet g c refusal.ClockSpent s = IsPressed g c s
IsPressedYet g c refusal.RowSpent s = IsPressed g c s
IsPressedYet g (call.Scan from to) (refusal.Conflict h) s = IsTightSomewhere g s
IsPressedYet g c why s = ⊥

-- A begin that finds an open transaction, or a spent latch, does nothing; one that is refused otherwise has prepared. Another call made syncs for pages that it needed.
abbrev pub RefusedLogs : Limits → Opening → List Done → ℕ → Call → Refusal → List Event → Type 0
RefusedLogs l g earlier w call.Begin refusal.InTransaction es = keep is_log es ≡ []
RefusedLogs l g earlier w call.Begin refusal.RowSpent es = keep is_log es ≡ []
RefusedLogs l g earlier w call.Begin why es = (half : Bool) × Prepares half l g earlier w (keep is_log es)
RefusedLogs l g earlier w c why es = SyncsWhere (IsPressedYet g (call_behind (outcomes earlier) c) why) g (state_after g (front earlier)) false es

-- What is done to the logs. Where it is not said a sync stands exactly where a page that is needed finds no frame.
abbrev pub LogsGo : Limits → Opening → ℕ → List Done → ℕ → Deed → List Event → Type 0
LogsGo l g group earlier w (Begun n) es = (before : List Event) × (f : ℕ) × (half : Bool) × (es ≡ before ++ Event.Begin w f ∷ []) × Prepares half l g earlier w (keep is_log es)
LogsGo l g group earlier w (Committed n at) es = Flushes g group (state_after g (front earlier)) w at es
LogsGo l g group earlier w (Aborted c n at backs) es = SyncsWhere (IsPressed g call.Abort) g (state_after g (front earlier)) false es
LogsGo l g group earlier w (Refused c why backs) es = RefusedLogs l g earlier w c why es
LogsGo l g group earlier w (Synced at) es = (before : List Event) × (es ≡ before ++ Event.Sync at ∷ []) × IsSync at (keep is_log es)
LogsGo l g group earlier w (Checkpointed at) es = (before : List Event) × (heads : ℕ → ℕ) × (es ≡ before ++ Event.Cut at heads ∷ []) × IsSyncAndCut at (keep is_log es)
LogsGo l g group earlier w d es = SyncsWhere (IsPressed g (asked d)) g (state_after g (front earlier)) false es
