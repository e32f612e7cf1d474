-- An event changes only the rows that it publishes, the control words that it sets, and of the workers its own.
use Rattle.std.specs.Prelude.{◌≡◌, ◌≢◌, ℕ, Bool, false, ◌&&◌, not, ◌==◌}
use Rattle.core_state.specs.Openings.{Opening}
use Rattle.row_words.specs.declared.event.Event.{Event}
use Rattle.row_words.specs.declared.event.Event.TheVariants as told
use Rattle.row_words.specs.Moments.{Moment, step, event_of, actor_of, is_sync}
use Rattle.row_words.specs.Words.{Shows, publishes, control}

-- what a word of a row that is not published may read before the event, it may read after it
abbrev pub EveryStays : Type 0
EveryStays = (g : Opening) (m : Moment) (e : Event) (row i x : ℕ) → publishes g m.core (event_of e) row ≡ false → Shows g m.core row i x → Shows g (step g m e).core row i x

-- the event sets control word i of worker c; a sync sets the flushed number of each worker
abbrev pub sets : Event → ℕ → ℕ → Bool
sets (told.Flush w n) c i = (c == w) && (i == 0)
sets (told.Sync n) c i = not (c == 0) && (i == 0)
sets (told.End w commit f) c i = (c == w) && (i == 1)
sets (told.Enter w e) c i = (c == w) && (i == 2)
sets (told.Leave w) c i = (c == w) && (i == 2)
sets (told.Ask w) c i = (c == w) && (i == 3)
sets (told.Refused w n m) c i = (c == w) && (i == 3)
sets told.Tick c i = (c == 0) && (i == 0)
sets (told.Post w n) c i = (c == 0) && (i == 1)
sets _ c i = false

-- a control word that the event does not set stays
abbrev pub EveryControl : Type 0
EveryControl = (g : Opening) (m : Moment) (e : Event) (c i : ℕ) → sets e c i ≡ false → control (step g m e) c i ≡ control m c i

-- what only a worker's own events change
pub record Own (g : Opening) (m : Moment) (e : Event) (w : ℕ) : Type 0 where
  pub worker : (step g m e).core.worker w ≡ m.core.worker w
  pub flushed : (step g m e).core.flushed w ≡ m.core.flushed w
  pub inside : (step g m e).core.inside w ≡ m.core.inside w

-- an event of another actor that is no sync leaves what is a worker's own
abbrev pub EveryOwn : Type 0
EveryOwn = (g : Opening) (m : Moment) (e : Event) (w : ℕ) → actor_of e ≢ w → is_sync e ≡ false → Own g m e w
