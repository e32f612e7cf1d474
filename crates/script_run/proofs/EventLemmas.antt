-- Events of a call that was not answered: they end nothing, and the first of them are such events too.
use Rattle.std.proofs.Common.{◌≡◌, ◌++◌, ◌∷◌, [], ℕ, arith, Bool, true, false, cond, ◌||◌, List, Option, Some, None, refl, sym, ap, ◌∙◌, subst, true≢false}
use Rattle.std.proofs.lemmas.List.{length-append}
use Rattle.std.proofs.lemmas.Bool.{and_parts, and_from}
use Rattle.map_model.specs.declared.call.Call.{Call}
use Rattle.map_model.specs.declared.call.Call.TheVariants as call
use Rattle.map_model.specs.Lists.{all, any}
use Rattle.map_model.specs.Maps.{MapAnswer}
use Rattle.call_parts.specs.image_model.Entries.{Entry}
use Rattle.call_parts.specs.core_state.Events.{Event, Mode}
use Rattle.call_parts.specs.core_state.Openings.{Opening}
use Rattle.call_parts.specs.core_state.States.{State}
use Rattle.call_parts.specs.core_state.Local.{is_of}
use Rattle.call_parts.specs.core_state.Needs.{may}
use Rattle.call_parts.specs.core_state.Steps.{state_after, step}
use Rattle.call_parts.specs.core_calls.Deeds.{commits}
use Rattle.call_parts.specs.core_calls.Fronts.{Done, front, outcomes}
use Rattle.call_parts.specs.core_calls.Marks.{Ended, Mark, back_in, mark, marks, met_in, onto}
use Rattle.call_parts.specs.core_calls.Steps.{call_behind, is_structure}
use Rattle.call_parts.specs.run_crashes.Laws.{CommitsNone, OfEachFirst}
use Rattle.call_parts.proofs.engine_calls.MarkLemmas.{either_false}
use Rattle.call_parts.specs.engine_trait.Rooms.{needs_sync}
use Rattle.call_parts.specs.session_state.tidy_rules.Rooms.{MakesRoom}
use Rattle.call_parts.specs.session_state.tidy_rules.Tidying.{Stage, Tidies, behind}
use Rattle.call_parts.specs.Rooms.{AreReady, HasDoneFor, IsRoomFor, changes_tree, is_paging, makes_sync, puts_back, takes_row, walks}
use Rattle.script_run.specs.Runs.{Hand, StoppedIn}

neither : (p q : Bool) → (p || q) ≡ false → (p ≡ false) × (q ≡ false)
neither true q none = absurd (true≢false none)
neither false q none = (refl, none)

-- a transaction ends by it
abbrev ends : Event → Bool
ends (Event.End w commit f) = true
ends _ = false

-- by another event no commit is told
abbrev IsNoCommit : Option Mark → Type 0
IsNoCommit (Some (Ended commit number at)) = ⊥
IsNoCommit _ = Unit {0}

no_end : (g : Opening) (s : State) (e : Event) → ends e ≡ false → IsNoCommit (mark g s e)
no_end g s (Event.Next w p k a) q = met a
  where
    met : (a : MapAnswer) → IsNoCommit (met_in g s w p a)
    met (MapAnswer.Pair j v) = tt
    met _ = tt
no_end g s (Event.Put_back w p) q = back (s.worker w).changes
  where
    back : (changes : List Entry) → IsNoCommit (back_in g s p changes)
    back [] = tt
    back (c ∷ earlier) = tt
no_end g s (Event.End w commit f) q = absurd (true≢false q)
no_end g s _ q = tt

marks_no_end : (g : Opening) (s : State) (es : List Event) (w : ℕ) (ms : List Mark) → any ends es ≡ false → commits (marks g s es w ms) ≡ commits ms
marks_no_end g s [] w ms q = refl
marks_no_end g s (e ∷ es) w ms q =
    let parts = neither (ends e) (any ends es) q in
    marks_no_end g (step g s e) es w (cond (may g s e) (cond (is_of e w) (onto (mark g s e) ms) ms) ms) parts.1 ∙ one (may g s e) (is_of e w) (mark g s e) (no_end g s e parts.0)
  where
    one : (b c : Bool) (o : Option Mark) → IsNoCommit o → commits (cond b (cond c (onto o ms) ms) ms) ≡ commits ms
    one false c o none = refl
    one true false o none = refl
    one true true None none = refl
    one true true (Some (Ended commit number at)) none = absurd none
    one true true (Some _) none = refl

-- events that each pass a test
pub each_none : (p q : Event → Bool) → ((e : Event) → p e ≡ true → q e ≡ false) → (es : List Event) → all p es ≡ true → any q es ≡ false
each_none p q so [] each = refl
each_none p q so (e ∷ es) each =
    let parts = and_parts (p e) (all p es) each in
    either_false (q e) (any q es) (so e parts.0) (each_none p q so es parts.1)

-- what a call may have done behind which its disk failed
abbrev for_room : (own row : ℕ) → Mode → Event → Bool
for_room own row mode e = takes_row own row mode e || (changes_tree own e || is_paging e)

abbrev for_back : (own : ℕ) → Event → Bool
for_back own e = puts_back own e || is_paging e

abbrev for_walk : (own : ℕ) → Event → Bool
for_walk own e = walks own e || is_paging e

room_ends_none : (own row : ℕ) (mode : Mode) (e : Event) → for_room own row mode e ≡ true → ends e ≡ false
room_ends_none own row Mode.Alone (Event.End w commit f) room = absurd (true≢false (sym room))
room_ends_none own row Mode.Shared (Event.End w commit f) room = absurd (true≢false (sym room))
room_ends_none own row mode _ room = refl

back_ends_none : (own : ℕ) (e : Event) → for_back own e ≡ true → ends e ≡ false
back_ends_none own (Event.End w commit f) back = absurd (true≢false (sym back))
back_ends_none own _ back = refl

walk_ends_none : (own : ℕ) (e : Event) → for_walk own e ≡ true → ends e ≡ false
walk_ends_none own (Event.End w commit f) walk = absurd (true≢false (sym walk))
walk_ends_none own _ walk = refl

sync_ends_none : (e : Event) → makes_sync e ≡ true → ends e ≡ false
sync_ends_none (Event.End w commit f) sync = absurd (true≢false (sym sync))
sync_ends_none _ sync = refl

ready_end_none : (syncs : Bool) (es : List Event) → AreReady syncs es → any ends es ≡ false
ready_end_none true es ready = each_none makes_sync ends sync_ends_none es ready
ready_end_none false es ready = ap (any ends) ready

ends_none : (g : Opening) (xs : List Done) (own : ℕ) (c : Call) (es : List Event) → HasDoneFor g xs own c es → any ends es ≡ false
ends_none g xs own (call.Put key value) es room = each_none (for_room own (g.row_of key) Mode.Alone) ends (room_ends_none own (g.row_of key) Mode.Alone) es room.0
ends_none g xs own (call.Get key) es room = each_none (for_room own (g.row_of key) Mode.Shared) ends (room_ends_none own (g.row_of key) Mode.Shared) es room.0
ends_none g xs own (call.Del key) es room = each_none (for_room own (g.row_of key) Mode.Alone) ends (room_ends_none own (g.row_of key) Mode.Alone) es room.0
ends_none g xs own (call.Scan from to) es walk = each_none (for_walk own) ends (walk_ends_none own) es walk.0
ends_none g xs own call.Abort es backs = each_none (for_back own) ends (back_ends_none own) es backs
ends_none g xs own c es ready = ready_end_none (needs_sync g xs own c) es ready

-- such events commit nothing
pub room_commits_none : (g : Opening) (xs : List Done) (own : ℕ) (c : Call) (es : List Event) → IsRoomFor g xs own c es → CommitsNone g xs es
room_commits_none g xs own c es room w = marks_no_end g (state_after g (front xs)) es w [] (ends_none g xs own c es room.0)

-- the first events of those that each pass a test, of those of which none does, of none, of those that make room, and of those that tidy
front_of_all : (p : Event → Bool) (first rest : List Event) → all p (first ++ rest) ≡ true → all p first ≡ true
front_of_all p [] rest each = refl
front_of_all p (e ∷ first) rest each =
    let parts = and_parts (p e) (all p (first ++ rest)) each in
    and_from (p e) (all p first) parts.0 (front_of_all p first rest parts.1)

front_of_none : (q : Event → Bool) (first rest : List Event) → any q (first ++ rest) ≡ false → any q first ≡ false
front_of_none q [] rest none = refl
front_of_none q (e ∷ first) rest none =
    let parts = neither (q e) (any q (first ++ rest)) none in
    either_false (q e) (any q first) parts.0 (front_of_none q first rest parts.1)

front_of_nothing : (first rest : List Event) → first ++ rest ≡ [] → first ≡ []
front_of_nothing [] rest none = refl
front_of_nothing (e ∷ first) rest none = let clash : e ∷ (first ++ rest) ≡ [] = none in cc

front_makes : (own : ℕ) (g : Opening) (s : State) (key : ℕ) (first rest : List Event) → MakesRoom own g s key (first ++ rest) → MakesRoom own g s key first
front_makes own g s key [] rest makes = tt
front_makes own g s key (e ∷ first) rest makes = (makes.0, front_makes own g (step g s e) key first rest makes.1)

front_tidies : (own : ℕ) (g : Opening) (s : State) (key : ℕ) (at : Stage) (first rest : List Event) → Tidies own g s key at (first ++ rest) → Tidies own g s key at first
front_tidies own g s key at [] rest tidies = tt
front_tidies own g s key at (e ∷ first) rest tidies = (tidies.0, front_tidies own g (step g s e) key (behind s at e) first rest tidies.1)

front_ready : (syncs : Bool) (first rest : List Event) → AreReady syncs (first ++ rest) → AreReady syncs first
front_ready true first rest ready = front_of_all makes_sync first rest ready
front_ready false first rest ready = front_of_nothing first rest ready

front_done : (g : Opening) (xs : List Done) (own : ℕ) (c : Call) (first rest : List Event) → HasDoneFor g xs own c (first ++ rest) → HasDoneFor g xs own c first
front_done g xs own (call.Put key value) first rest room = (front_of_all (for_room own (g.row_of key) Mode.Alone) first rest room.0, front_makes own g (state_after g (front xs)) key first rest room.1)
front_done g xs own (call.Get key) first rest room = (front_of_all (for_room own (g.row_of key) Mode.Shared) first rest room.0, front_of_none is_structure first rest room.1)
front_done g xs own (call.Del key) first rest room = (front_of_all (for_room own (g.row_of key) Mode.Alone) first rest room.0, front_tidies own g (state_after g (front xs)) key Stage.Before first rest room.1)
front_done g xs own (call.Scan from to) first rest walk = (front_of_all (for_walk own) first rest walk.0, front_of_none is_structure first rest walk.1)
front_done g xs own call.Abort first rest backs = front_of_all (for_back own) first rest backs
front_done g xs own c first rest ready = front_ready (needs_sync g xs own c) first rest ready

front_for : (g : Opening) (xs : List Done) (own : ℕ) (c : Call) (first rest : List Event) → IsRoomFor g xs own c (first ++ rest) → IsRoomFor g xs own c first
front_for g xs own c first rest room = (front_done g xs own c first rest room.0, (let few = room.1 in let more = length-append first rest in omega arith))

-- and the first of them are such events too
pub stopped_of_each_first : (g : Opening) (xs : List Done) (hand : Hand) (es : List Event) → IsRoomFor g xs hand.session (call_behind (outcomes xs) hand.call) es → OfEachFirst (StoppedIn g xs hand xs) es
stopped_of_each_first g xs hand es room first rest is =
    (refl, front_for g xs hand.session (call_behind (outcomes xs) hand.call) first rest (subst (IsRoomFor g xs hand.session (call_behind (outcomes xs) hand.call)) (sym is) room))
