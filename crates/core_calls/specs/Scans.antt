-- Which rows a scan takes: those of the entries that it meets, tombstones too, and no others.
use Rattle.std.specs.Prelude.{◌≡◌, ◌⊎◌, ℕ, suc, Bool, true, false, List, [], ◌∷◌, ◌++◌, map}
use Rattle.map_model.specs.declared.call.Call.{Call}
use Rattle.map_model.specs.declared.call.Call.TheVariants as call
use Rattle.map_model.specs.declared.call.Refusal.{Refusal}
use Rattle.map_model.specs.declared.call.Refusal.TheVariants as refusal
use Rattle.map_model.specs.Lists.{Has}
use Rattle.map_model.specs.Maps.{MapAnswer}
use Rattle.core_crash.specs.core_state.Openings.{Opening}
use Rattle.core_crash.specs.core_state.States.{State}
use Rattle.core_crash.specs.core_state.Events.{Event, Mode}
use Rattle.core_crash.specs.core_state.Needs.{holds_row, is_leaf_of}
use Rattle.core_crash.specs.core_state.Steps.{step}
use Rattle.core_index.specs.Walks.{met_keys}
use Rattle.core_calls.specs.Deeds.{Deed, Met, Over, Refused, Outcome}
use Rattle.core_calls.specs.Refusals.{Hinders}
use Rattle.core_calls.specs.Steps.{call_behind, scan_from}

-- the rows of the entries that a walk from a key on meets in the leaf p, in the order of their keys
abbrev pub rows_met : Opening → State → (p k : ℕ) → List ℕ
rows_met g s p k = map g.row_of (met_keys g.format k (s.page p).node.pairs)

-- where a walk goes on: behind a pair, or at the end of a gap
abbrev pub behind : MapAnswer → ℕ → ℕ
behind (MapAnswer.Pair k v) at = suc k
behind (MapAnswer.Gap h) at = h
behind _ at = at

-- A walk from a key on, which has taken these rows since its last pair or gap. Each pair and each gap is told behind the rows of the
-- entries that it met, each taken once, whether the session has it already or not, and behind no other row. Of the end this is so: of the
-- state, of where the walk stands, and of the rows taken since.
abbrev pub TakesMet : Opening → State → (at : ℕ) → (taken : List ℕ) → List Event → (State → ℕ → List ℕ → Type 0) → Type 0
TakesMet g s at taken [] P = P s at taken
TakesMet g s at taken (Event.Lock w i mode ∷ es) P = TakesMet g (step g s (Event.Lock w i mode)) at (taken ++ i ∷ []) es P
TakesMet g s at taken (Event.Next w p k a ∷ es) P = (taken ≡ rows_met g s p k) × TakesMet g (step g s (Event.Next w p k a)) (behind a at) [] es P
TakesMet g s at taken (e ∷ es) P = TakesMet g (step g s e) at taken es P

-- in the leaf of the key that it comes to, a walk meets entries of these rows, and then of these
pub record IsWay (g : Opening) (s : State) (at : ℕ) (taken rest : List ℕ) : Type 0 where
  pub page : ℕ
  pub leaf : is_leaf_of g (s.page page).node page at ≡ true
  pub rows : rows_met g s page at ≡ taken ++ rest

-- it took no row behind its last pair or gap
abbrev pub IsTold : State → ℕ → List ℕ → Type 0
IsTold s at taken = taken ≡ []

-- h has the row of the entry that session w meets next
abbrev pub IsHinderedNext : Opening → (w h : ℕ) → State → ℕ → List ℕ → Type 0
IsHinderedNext g w h s at taken = (i : ℕ) × (rest : List ℕ) × IsWay g s at taken (i ∷ rest) × Hinders (s.row i) w Mode.Shared h

-- it has taken no row, or the first on its way
abbrev pub IsOnWay : Opening → State → ℕ → List ℕ → Type 0
IsOnWay g s at taken = (taken ≡ []) ⊎ ((rest : List ℕ) × IsWay g s at taken rest)

-- a scan that is refused
abbrev pub StopsOnWay : Opening → ℕ → List Outcome → State → Call → Refusal → List Event → Type 0
StopsOnWay g w earlier s (call.Scan from to) (refusal.Conflict h) es = TakesMet g s (scan_from earlier from) [] es (IsHinderedNext g w h)
StopsOnWay g w earlier s (call.Scan from to) refusal.RowSpent es = TakesMet g s (scan_from earlier from) [] es (IsOnWay g)
StopsOnWay g w earlier s c why es = Unit {0}

-- From the state s on, of a deed of session w by these events: a scan takes the rows of the entries that it meets.
abbrev pub ScansRows : Opening → ℕ → List Outcome → State → Deed → List Event → Type 0
ScansRows g w earlier s (Met from to k v alone) es = TakesMet g s (scan_from earlier from) [] es IsTold
ScansRows g w earlier s (Over from to) es = TakesMet g s (scan_from earlier from) [] es IsTold
ScansRows g w earlier s (Refused c why backs) es = StopsOnWay g w earlier s (call_behind earlier c) why es
ScansRows g w earlier s deed es = Unit {0}

-- ## What follows

-- at each pair and at each gap its session has the row of each entry that was met
abbrev pub HoldsMet : Opening → State → List Event → Type 0
HoldsMet g s [] = Unit {0}
HoldsMet g s (Event.Next w p k a ∷ es) = ((i : ℕ) → Has i (rows_met g s p k) → holds_row (s.row i) w ≡ true) × HoldsMet g (step g s (Event.Next w p k a)) es
HoldsMet g s (e ∷ es) = HoldsMet g (step g s e) es

-- a scan told a pair, or that it is over
abbrev pub is_scan : Deed → Bool
is_scan (Met from to k v alone) = true
is_scan (Over from to) = true
is_scan _ = false
