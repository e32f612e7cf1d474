-- Which steps of its session stand for a deed.
use Rattle.std.specs.Prelude.{◌≡◌, ◌⊎◌, ◌<◌, ◌≤◌, ℕ, suc, Bool, true, false, ◌&&◌, List, [], ◌∷◌, Option, Some, None, if◌then◌else◌}
use Rattle.map_model.specs.declared.call.Call.{Call}
use Rattle.map_model.specs.declared.call.Call.TheVariants as call
use Rattle.map_model.specs.declared.call.Refusal.{Refusal}
use Rattle.map_model.specs.declared.call.Refusal.TheVariants as refusal
use Rattle.map_model.specs.Maps.{MapAnswer}
use Rattle.map_model.specs.Histories.{Step}
use Rattle.core_crash.specs.core_state.Openings.{Opening}
use Rattle.core_crash.specs.core_state.Events.{Event, Mode}
use Rattle.core_calls.specs.Deeds.{Deed, Begun, Got, Changed, Deleted, Absent, Met, Paused, Over, Committed, Aborted, Refused, Synced, Checkpointed, Unsaid, Outcome}
use Rattle.core_calls.specs.Refusals.{Limits}

-- a step of a transaction; the other events are of pages, of structure, of logs and of epochs
abbrev pub is_step : Event → Bool
is_step (Event.Begin w f) = true
is_step (Event.Lock w i mode) = true
is_step (Event.Read w p k a) = true
is_step (Event.Next w p k a) = true
is_step (Event.Change w p k v) = true
is_step (Event.Put_back w p) = true
is_step (Event.End w commit f) = true
is_step (Event.Unlock w i) = true
is_step _ = false

-- it changes the tree and no value
abbrev pub is_structure : Event → Bool
is_structure (Event.Split w l r q i) = true
is_structure (Event.Lift w c) = true
is_structure (Event.Join w l r q) = true
is_structure (Event.Drop w c) = true
is_structure (Event.Purge w p keys) = true
is_structure _ = false

-- the rows are given back
abbrev pub Unlocks : ℕ → List Event → Type 0
Unlocks w [] = Unit {0}
Unlocks w (Event.Unlock v i ∷ es) = (v ≡ w) × Unlocks w es
Unlocks w _ = ⊥

-- changes are put back, the transaction is aborted, and the rows are given back
abbrev pub Undoes : ℕ → List Event → Type 0
Undoes w (Event.Put_back v p ∷ es) = (v ≡ w) × Undoes w es
Undoes w (Event.End v false f ∷ es) = (v ≡ w) × Unlocks w es
Undoes w _ = ⊥

-- A walk by shared rows: where it stands after these events, from a key on.
abbrev pub Walks : ℕ → (at : ℕ) → List Event → (ℕ → Type 0) → Type 0
Walks w at [] P = P at
Walks w at (Event.Lock v i Mode.Shared ∷ es) P = (v ≡ w) × Walks w at es P
Walks w at (Event.Next v p k (MapAnswer.Pair j x) ∷ es) P = (v ≡ w) × (k ≡ at) × Walks w (suc j) es P
Walks w at (Event.Next v p k (MapAnswer.Gap h) ∷ es) P = (v ≡ w) × (k ≡ at) × Walks w h es P
Walks w at _ P = ⊥

-- behind a pair, or else where it stood
abbrev pub behind_pair : Deed → ℕ → ℕ
behind_pair (Met a b k v alone) from = suc k
behind_pair _ from = from

-- where the scan stands
abbrev pub scan_from : List Outcome → ℕ → ℕ
scan_from [] from = from
scan_from (x ∷ earlier) from = behind_pair x.deed from

-- one pair more, or none
abbrev pub one_pair : Deed → ℕ → ℕ
one_pair (Met a b k v alone) n = suc n
one_pair _ n = 0

-- how many pairs the scan has printed
abbrev pub met_last : List Outcome → ℕ
met_last [] = 0
met_last (x ∷ earlier) = one_pair x.deed (met_last earlier)

-- reads above a key
abbrev pub AreAbove : ℕ → List Unsaid → Type 0
AreAbove to [] = Unit {0}
AreAbove to (u ∷ us) = (to < u.key) × AreAbove to us

-- ## What is asked behind a conflict

-- a conflict
abbrev pub is_conflict : Refusal → Bool
is_conflict (refusal.Conflict h) = true
is_conflict _ = false

-- the call that met a conflict, if it did
abbrev pub hindered_in : Deed → Option Call
hindered_in (Refused c why backs) = if is_conflict why then Some c else None
hindered_in _ = None

-- behind a conflict, whatever its line asked, the abort of its transaction
abbrev pub due_call : Option Call → Call → Call
due_call None c = c
due_call (Some hindered) c = call.Abort

-- what a call asks, behind these outcomes
abbrev pub call_behind : List Outcome → Call → Call
call_behind [] c = c
call_behind (y ∷ earlier) c = due_call (hindered_in y.deed) c

-- ## What a refused call has done

-- A call of a key: that there is no room is found behind its row; that a clock or a latch is spent, before it or behind it; any other refusal comes before it.
abbrev pub TakesRow : Refusal → (w row : ℕ) → Mode → List Event → Type 0
TakesRow refusal.TooTall w i mode es = es ≡ Event.Lock w i mode ∷ []
TakesRow refusal.NoPages w i mode es = es ≡ Event.Lock w i mode ∷ []
TakesRow refusal.ClockSpent w i mode es = (es ≡ []) ⊎ (es ≡ Event.Lock w i mode ∷ [])
TakesRow refusal.RowSpent w i mode es = (es ≡ []) ⊎ (es ≡ Event.Lock w i mode ∷ [])
TakesRow why w i mode es = es ≡ []

-- session w puts changes back, and does nothing else
abbrev pub PutsBack : ℕ → List Event → Type 0
PutsBack w [] = Unit {0}
PutsBack w (Event.Put_back v p ∷ es) = (v ≡ w) × PutsBack w es
PutsBack w _ = ⊥

-- A get, a put and a del may have taken their key's row. A scan has walked as far as a row that it may not have, or a latch that is spent; an abort that ended at one has put changes back. Where
-- nothing else is said, nothing was done.
abbrev pub Tries : Opening → ℕ → List Outcome → Call → Refusal → List Event → Type 0
Tries g w earlier (call.Get k) why es = TakesRow why w (g.row_of k) Mode.Shared es
Tries g w earlier (call.Put k v) why es = TakesRow why w (g.row_of k) Mode.Alone es
Tries g w earlier (call.Del k) why es = TakesRow why w (g.row_of k) Mode.Alone es
Tries g w earlier (call.Scan from to) (refusal.Conflict h) es = Walks w (scan_from earlier from) es (λ at. Unit {0})
Tries g w earlier (call.Scan from to) refusal.RowSpent es = Walks w (scan_from earlier from) es (λ at. Unit {0})
Tries g w earlier call.Abort refusal.RowSpent es = PutsBack w es
Tries g w earlier c why es = es ≡ []

-- an abort alone, which ended at a spent latch, has put changes back
abbrev pub MayPutBack : Call → Refusal → List Step → Type 0
MayPutBack call.Abort refusal.RowSpent backs = Unit {0}
MayPutBack c why backs = backs ≡ []

-- ## The steps of a deed

-- The steps of session w that stand for a deed. A get, a put and a del take their key's row each time, whether the session has it already or not. A scan prints the pairs
-- from a key to another, so many at most; a pair behind them is not told.
abbrev pub Goes : Limits → Opening → ℕ → List Outcome → List Unsaid → Deed → List Event → Type 0
Goes l g w earlier us (Begun n) es = (us ≡ []) × (f : ℕ) × (es ≡ Event.Begin w f ∷ [])
Goes l g w earlier us (Got k a alone) es = (us ≡ []) × (p : ℕ) × (es ≡ Event.Lock w (g.row_of k) Mode.Shared ∷ Event.Read w p k a ∷ [])
Goes l g w earlier us (Changed k v a) es = (us ≡ []) × (p : ℕ) × (es ≡ Event.Lock w (g.row_of k) Mode.Alone ∷ Event.Change w p k v ∷ [])
Goes l g w earlier us (Deleted k a) es = (us ≡ []) × (p : ℕ) × (es ≡ Event.Lock w (g.row_of k) Mode.Alone ∷ Event.Change w p k g.format.dead ∷ [])
Goes l g w earlier us (Absent k) es = (us ≡ []) × (p : ℕ) × (es ≡ Event.Lock w (g.row_of k) Mode.Alone ∷ Event.Read w p k None ∷ [])
Goes l g w earlier us (Met from to k v alone) es = (us ≡ []) × (k ≤ to) × (met_last earlier < l.pairs) × Walks w (scan_from earlier from) es (λ at. at ≡ suc k)
Goes l g w earlier us (Paused from to k) es = (us ≡ []) × (es ≡ []) × (met_last earlier ≡ l.pairs) × (k ≡ scan_from earlier from) × (k ≤ to)
Goes l g w earlier us (Over from to) es = AreAbove to us × (met_last earlier ≡ l.pairs → to < scan_from earlier from) × Walks w (scan_from earlier from) es (λ at. to < at)
Goes l g w earlier us (Committed n at) es = (us ≡ []) × (f : ℕ) × (others : List Event) × (es ≡ Event.End w true f ∷ others) × Unlocks w others
Goes l g w earlier us (Aborted c n at backs) es = (us ≡ []) × Undoes w es
Goes l g w earlier us (Refused c why backs) es = (us ≡ []) × MayPutBack (call_behind earlier c) why backs × Tries g w earlier (call_behind earlier c) why es
Goes l g w earlier us (Synced at) es = (us ≡ []) × (es ≡ [])
Goes l g w earlier us (Checkpointed at) es = (us ≡ []) × (es ≡ [])

-- the call's transaction is aborted, or its abort is refused
abbrev pub IsAbortOf : Call → Deed → Type 0
IsAbortOf c (Aborted d n at backs) = d ≡ c
IsAbortOf c (Refused d why backs) = (d ≡ c) × (why ≡ refusal.RowSpent)
IsAbortOf c _ = ⊥

-- if a transaction is aborted, an abort was asked
abbrev pub IsAnAbort : Deed → Type 0
IsAnAbort (Aborted c n at backs) = c ≡ call.Abort
IsAnAbort _ = Unit {0}

-- behind a call of session w that met a conflict, or behind another
abbrev pub IsBehind : Option Call → ℕ → Outcome → Type 0
IsBehind None w x = IsAnAbort x.deed
IsBehind (Some c) w x = (x.session ≡ w) × IsAbortOf c x.deed

-- Behind a conflict its session's transaction is aborted; and it is then alone that another call than an abort is answered so.
abbrev pub FollowsConflict : List Outcome → Outcome → Type 0
FollowsConflict [] x = IsAnAbort x.deed
FollowsConflict (y ∷ earlier) x = IsBehind (hindered_in y.deed) y.session x

-- it asks for a change
abbrev pub is_change_call : Call → Bool
is_change_call (call.Put k v) = true
is_change_call (call.Del k) = true
is_change_call _ = false

-- it comes behind the row of the call's key
abbrev pub is_behind_row : Refusal → Bool
is_behind_row refusal.TooTall = true
is_behind_row refusal.NoPages = true
is_behind_row refusal.ClockSpent = true
is_behind_row refusal.RowSpent = true
is_behind_row _ = false

-- room is made for it, or it tidies the tree; so may one that is refused behind its row
abbrev pub is_change : Deed → Bool
is_change (Changed k v a) = true
is_change (Deleted k a) = true
is_change (Refused c why backs) = is_change_call c && is_behind_row why
is_change _ = false
