-- Wrong outcomes, each refused.
use Rattle.std.specs.Prelude.{◌≡◌, ◌≤◌, ◌<◌, ℕ, suc, Bool, true, false, List, [], ◌∷◌, Option, Some}
use Rattle.map_model.specs.declared.call.Call.{Call}
use Rattle.map_model.specs.declared.call.Call.TheVariants as call
use Rattle.map_model.specs.declared.call.Refusal.{Refusal}
use Rattle.map_model.specs.declared.call.Refusal.TheVariants as refusal
use Rattle.map_model.specs.Maps.{MapAnswer}
use Rattle.map_model.specs.Histories.{Step}
use Rattle.map_model.specs.Lists.{Has}
use Rattle.core_crash.specs.image_model.Entries.{Entry, is_commit}
use Rattle.core_crash.specs.image_model.Ends.{name_of}
use Rattle.core_crash.specs.core_state.Openings.{Opening, first_map}
use Rattle.core_crash.specs.core_state.States.{State}
use Rattle.core_crash.specs.core_state.Events.{Event, Mode}
use Rattle.core_crash.specs.core_state.Needs.{is_leaf_of}
use Rattle.core_crash.specs.core_state.Steps.{state_after}
use Rattle.core_calls.specs.Deeds.{Deed, Begun, Got, Changed, Met, Over, Committed, Aborted, Refused, Outcome, Answers}
use Rattle.core_calls.specs.Refusals.{Limits}
use Rattle.core_calls.specs.Fronts.{Done, outcomes}
use Rattle.core_calls.specs.Steps.{Goes, Walks, call_behind, is_change}
use Rattle.core_calls.specs.Scans.{ScansRows, rows_met}
use Rattle.core_calls.specs.LogEvents.{LogsGo}
use Rattle.core_calls.specs.Durables.{is_ripe, up_to, durables}

-- an outcome with no read before it that nobody was told
abbrev pub of : ℕ → Deed → Outcome
of w d = record { session = w; deed = d; unsaid = [] }

-- none of these are the outcomes of a list of events
pub record Controls (g : Opening) : Type 0 where
  -- a committed transaction that put a value and got the one at the opening, where that is faithful
  pub stale_get : g.faithful ≡ true → (es : List Event) (w n at k v : ℕ) (a b : Option ℕ) (alone : Bool) (earlier : List Outcome) →
      Answers g es (of w (Committed n at) ∷ of w (Got k b alone) ∷ of w (Changed k v a) ∷ earlier) → b ≡ first_map g k → (first_map g k ≡ Some v → ⊥) → ⊥
  -- a durable line of a commit that is not ripe
  pub early_line : (ms : List (List Event)) (e : Entry) → Has e (state_after g (up_to ms)).entries → is_commit e.kind ≡ true → is_ripe g (state_after g (up_to ms)) e ≡ false → Has (name_of e) (durables g ms) → ⊥
  -- an abort that puts nothing back behind a put
  pub lost_put_back : (es : List Event) (w n m at k v : ℕ) (a : Option ℕ) (c : Call) (earlier : List Outcome) →
      Answers g es (of w (Aborted c n at []) ∷ of w (Changed k v a) ∷ of w (Begun m) ∷ earlier) → ⊥
  -- a commit whose number is not above that of the session's commit before it
  pub low_number : (es : List Event) (w n m l at before : ℕ) (earlier : List Outcome) →
      Answers g es (of w (Committed n at) ∷ of w (Begun m) ∷ of w (Committed l before) ∷ earlier) → at ≤ before → ⊥
  -- a transaction that is numbered other than the one before it and one more
  pub wrong_count : (es : List Event) (w n m : ℕ) (at : ℕ) (earlier : List Outcome) →
      Answers g es (of w (Begun n) ∷ of w (Committed m at) ∷ earlier) → (n ≡ suc m → ⊥) → ⊥

-- of no opening
abbrev pub EveryControl : Type 0
EveryControl = (g : Opening) → Controls g

-- ## The events of a call

-- none of these are the events of a call of session w, behind outcomes of which none is a conflict that waits for its abort
pub record StepControls (l : Limits) (g : Opening) (group : ℕ) (w : ℕ) (earlier : List Done) : Type 0 where
  -- a get of a row that the session has, and does not take again
  pub untaken_get : (p k : ℕ) (a : Option ℕ) (alone : Bool) → Goes l g w (outcomes earlier) [] (Got k a alone) (Event.Read w p k a ∷ []) → ⊥
  -- a get that takes its row alone
  pub alone_get : (p k : ℕ) (a : Option ℕ) (alone : Bool) → Goes l g w (outcomes earlier) [] (Got k a alone) (Event.Lock w (g.row_of k) Mode.Alone ∷ Event.Read w p k a ∷ []) → ⊥
  -- a put that finds no page, and has taken another row than its key's
  pub other_row : (k v i : ℕ) (mode : Mode) (backs : List Step) → Goes l g w (outcomes earlier) [] (Refused (call.Put k v) refusal.NoPages backs) (Event.Lock w i mode ∷ []) → (i ≡ g.row_of k → ⊥) → ⊥
  -- one that has taken none
  pub no_row : (k v : ℕ) (backs : List Step) → Goes l g w (outcomes earlier) [] (Refused (call.Put k v) refusal.NoPages backs) [] → ⊥
  -- a begin that is refused, or a get in no transaction, that has done anything
  pub busy_begin : (why : Refusal) (e : Event) (es : List Event) (backs : List Step) → Goes l g w (outcomes earlier) [] (Refused call.Begin why backs) (e ∷ es) → ⊥
  pub busy_get : (k : ℕ) (e : Event) (es : List Event) (backs : List Step) → Goes l g w (outcomes earlier) [] (Refused (call.Get k) refusal.NoTransaction backs) (e ∷ es) → ⊥
  -- a get at a spent latch that has put a change back
  pub get_back : (k p : ℕ) (es : List Event) (backs : List Step) → Goes l g w (outcomes earlier) [] (Refused (call.Get k) refusal.RowSpent backs) (Event.Put_back w p ∷ es) → ⊥
  -- a get in no transaction that has synced, and a commit that is refused and has
  pub idle_sync : (k n : ℕ) (es : List Event) (backs : List Step) → LogsGo l g group earlier w (Refused (call.Get k) refusal.NoTransaction backs) (Event.Sync n ∷ es) → ⊥
  pub late_sync : (why : Refusal) (n : ℕ) (es : List Event) (backs : List Step) → LogsGo l g group earlier w (Refused call.Commit why backs) (Event.Sync n ∷ es) → ⊥
  -- a put in no transaction that has changed the tree
  pub idle_room : (k v : ℕ) (backs : List Step) → is_change (Refused (call.Put k v) refusal.NoTransaction backs) ≡ true → ⊥

-- on a new line
abbrev pub EveryStepControl : Type 0
EveryStepControl = (l : Limits) (g : Opening) (group : ℕ) (w : ℕ) (earlier : List Done) → ((c : Call) → call_behind (outcomes earlier) c ≡ c) → StepControls l g group w earlier

-- ## The rows of a scan

-- The events are a walk of session w from a key on, and are not those of this deed of it, behind no outcome.
abbrev pub IsWalkOnly : Opening → State → (w at : ℕ) → Deed → List Event → (ℕ → Type 0) → Type 0
IsWalkOnly g s w at d es P = Walks w at es P × (ScansRows g w [] s d es → ⊥)

-- so it is of each of these
pub record ScanControls (g : Opening) (s : State) (w p at : ℕ) : Type 0 where
  -- a pair is told behind a tombstone whose row was not taken
  pub passed_over : (to i j k v : ℕ) → rows_met g s p at ≡ i ∷ j ∷ [] → IsWalkOnly g s w at (Met at to k v false) (Event.Lock w j Mode.Shared ∷ Event.Next w p at (MapAnswer.Pair k v) ∷ []) (λ n. n ≡ suc k)
  -- a pair is told whose row the session has, and did not take again
  pub not_again : (to i k v : ℕ) → rows_met g s p at ≡ i ∷ [] → IsWalkOnly g s w at (Met at to k v false) (Event.Next w p at (MapAnswer.Pair k v) ∷ []) (λ n. n ≡ suc k)
  -- a scan is over that took the row of no entry, before its gap, or behind it
  pub stray : (to i high : ℕ) → rows_met g s p at ≡ [] → to < high → IsWalkOnly g s w at (Over at to) (Event.Lock w i Mode.Shared ∷ Event.Next w p at (MapAnswer.Gap high) ∷ []) (λ n. to < n)
  pub more : (to i high : ℕ) → to < high → IsWalkOnly g s w at (Over at to) (Event.Next w p at (MapAnswer.Gap high) ∷ Event.Lock w i Mode.Shared ∷ []) (λ n. to < n)
  -- it met a conflict, where its leaf has no further entry
  pub far : (to h : ℕ) → ((q : ℕ) → is_leaf_of g (s.page q).node q at ≡ true → rows_met g s q at ≡ []) → IsWalkOnly g s w at (Refused (call.Scan at to) (refusal.Conflict h) []) [] (λ n. Unit {0})

-- at each state
abbrev pub EveryScanControl : Type 0
EveryScanControl = (g : Opening) (s : State) (w p at : ℕ) → ScanControls g s w p at
