-- What a crash may find of a call that was not answered, by the lines of the script.
use Rattle.std.proofs.Common.{◌≡◌, ◌⊎◌, ◌++◌, inl, inr, ◌||◌, ◌&&◌, ℕ, Bool, true, false, cond, List, [], ◌∷◌, Option, Some, None, refl, sym, ◌∙◌, ap, subst, true≢false}
use Rattle.std.proofs.lemmas.Bool.{and_parts, or_parts, or_right}
use Rattle.map_model.specs.declared.call.Call.{Call}
use Rattle.map_model.specs.declared.call.Call.TheVariants as call
use Rattle.map_model.specs.declared.call.Refusal.{Refusal}
use Rattle.map_model.specs.declared.call.Refusal.TheVariants as refusal
use Rattle.map_model.specs.Lists.{Has, all, any}
use Rattle.map_model.specs.Maps.{MapAnswer}
use Rattle.map_model.specs.Pairings.{is_last, is_last_refusal, script_of}
use Rattle.lean_shell.specs.core_state.Events.{Event, Mode}
use Rattle.lean_shell.specs.core_state.Openings.{Opening}
use Rattle.lean_shell.specs.core_calls.Deeds.{Deed, Met, Refused, answered, asked}
use Rattle.lean_shell.specs.core_calls.Fronts.{Done, outcomes}
use Rattle.lean_shell.specs.core_calls.Steps.{call_behind, due_call, hindered_in, is_conflict, is_structure}
use Rattle.lean_shell.specs.engine_trait.Rooms.{needs_sync}
use Rattle.lean_shell.specs.call_parts.Rooms.{AreReady, HasDoneFor, IsRoomFor, changes_tree, is_paging, makes_sync, puts_back, takes_row, walks}
use Rattle.lean_shell.specs.engine_front.Turns.{IsHindered, IsScanning}
use Rattle.lean_shell.specs.script_run.Runs.{calls_of}
use Rattle.lean_shell.specs.transcripts.Laws.{ComesNext}
use Rattle.lean_shell.specs.transcripts.Told.{ask, asked_lines, LineFits}
use Rattle.lean_shell.specs.Starts.{IsAskedNext}
use Rattle.lean_shell.specs.Starts.IsAskedNext.{OfAbort, OfLine, OfScan}
use Rattle.run_tests.specs.RuledOut.{Asks, EveryStoppedCall, IsAbort, IsDel, IsGet, IsPut, IsScan, StoppedLaws, is_back, is_look, is_walk, passes_gap}

has_behind : (xs : List (List ℕ)) (y : List ℕ) (ys : List (List ℕ)) → Has y (xs ++ y ∷ ys)
has_behind [] y ys = inl refl
has_behind (x ∷ xs) y ys = inr (has_behind xs y ys)

each_none : (p q : Event → Bool) → ((e : Event) → p e ≡ true → q e ≡ false) → (es : List Event) → all p es ≡ true → any q es ≡ false
each_none p q so [] h = refl
each_none p q so (e ∷ es) h =
    let a = and_parts (p e) (all p es) h in
    subst (λ (b : Bool). (b || any q es) ≡ false) (sym (so e a.0)) (each_none p q so es a.1)

-- the events of each kind change no tree, or put nothing back
back_grows_none : (own : ℕ) (e : Event) → (puts_back own e || is_paging e) ≡ true → is_structure e ≡ false
back_grows_none own (Event.Split w l r q i) back = absurd (true≢false (sym back))
back_grows_none own (Event.Lift w c) back = absurd (true≢false (sym back))
back_grows_none own (Event.Join w l r q) back = absurd (true≢false (sym back))
back_grows_none own (Event.Drop w c) back = absurd (true≢false (sym back))
back_grows_none own (Event.Purge w p keys) back = absurd (true≢false (sym back))
back_grows_none own _ back = refl

abbrev in_room : (own row : ℕ) → Mode → Event → Bool
in_room own row mode e = takes_row own row mode e || (changes_tree own e || is_paging e)

room_backs_none : (own row : ℕ) (mode : Mode) (e : Event) → in_room own row mode e ≡ true → is_back e ≡ false
room_backs_none own row Mode.Alone (Event.Put_back w p) room = absurd (true≢false (sym room))
room_backs_none own row Mode.Shared (Event.Put_back w p) room = absurd (true≢false (sym room))
room_backs_none own row mode _ room = refl

sync_grows_none : (e : Event) → makes_sync e ≡ true → is_structure e ≡ false
sync_grows_none (Event.Split w l r q i) sync = absurd (true≢false (sym sync))
sync_grows_none (Event.Lift w c) sync = absurd (true≢false (sym sync))
sync_grows_none (Event.Join w l r q) sync = absurd (true≢false (sym sync))
sync_grows_none (Event.Drop w c) sync = absurd (true≢false (sym sync))
sync_grows_none (Event.Purge w p keys) sync = absurd (true≢false (sym sync))
sync_grows_none _ sync = refl

sync_backs_none : (e : Event) → makes_sync e ≡ true → is_back e ≡ false
sync_backs_none (Event.Put_back w p) sync = absurd (true≢false (sym sync))
sync_backs_none _ sync = refl

-- a row that is taken with others, and pages that are moved for it
look_of : (own row : ℕ) (e : Event) → in_room own row Mode.Shared e ≡ true → is_structure e ≡ false → is_look e ≡ true
look_of own row (Event.Split w l r q i) room still = absurd (true≢false still)
look_of own row (Event.Lift w c) room still = absurd (true≢false still)
look_of own row (Event.Purge w p keys) room still = absurd (true≢false still)
look_of own row (Event.Join w l r q) room still = absurd (true≢false still)
look_of own row (Event.Drop w c) room still = absurd (true≢false still)
look_of own row (Event.Lock w i Mode.Shared) room still = refl
look_of own row (Event.Lock w i Mode.Alone) room still = absurd (true≢false (sym room))
look_of own row (Event.Miss w) room still = refl
look_of own row _ room still = room

sync_looks : (e : Event) → makes_sync e ≡ true → is_look e ≡ true
sync_looks (Event.Flush w n) sync = refl
sync_looks (Event.Sync n) sync = refl
sync_looks _ sync = absurd (true≢false (sym sync))

each_looks : (own row : ℕ) (es : List Event) → all (in_room own row Mode.Shared) es ≡ true → any is_structure es ≡ false → all is_look es ≡ true
each_looks own row [] room still = refl
each_looks own row (e ∷ es) room still =
    let a = and_parts (in_room own row Mode.Shared e) (all (in_room own row Mode.Shared) es) room in
    let b = or_parts (is_structure e) (any is_structure es) still in
    subst (λ (c : Bool). (c && all is_look es) ≡ true) (sym (look_of own row e a.0 b.0)) (each_looks own row es a.1 b.1)

each_so : (p q : Event → Bool) → ((e : Event) → p e ≡ true → q e ≡ true) → (es : List Event) → all p es ≡ true → all q es ≡ true
each_so p q so [] h = refl
each_so p q so (e ∷ es) h =
    let a = and_parts (p e) (all p es) h in
    subst (λ (b : Bool). (b && all q es) ≡ true) (sym (so e a.0)) (each_so p q so es a.1)

ready_for_sync : (b : Bool) (es : List Event) → AreReady b es → all makes_sync es ≡ true
ready_for_sync true es ready = ready
ready_for_sync false es ready = ap (all makes_sync) ready

-- a walk puts nothing back, and is what may be where keys are looked for
abbrev in_walk : (own : ℕ) → Event → Bool
in_walk own e = walks own e || is_paging e

walk_backs_none : (own : ℕ) (e : Event) → in_walk own e ≡ true → is_back e ≡ false
walk_backs_none own (Event.Put_back w p) walk = absurd (true≢false (sym walk))
walk_backs_none own _ walk = refl

walk_of : (own : ℕ) (e : Event) → in_walk own e ≡ true → is_walk e ≡ true
walk_of own (Event.Lock w i Mode.Shared) walk = refl
walk_of own (Event.Lock w i Mode.Alone) walk = absurd (true≢false (sym walk))
walk_of own (Event.Next w p k (MapAnswer.Gap high)) walk = refl
walk_of own (Event.Next w p k (MapAnswer.Pair j v)) walk = absurd (true≢false (sym walk))
walk_of own (Event.Next w p k (MapAnswer.Value v)) walk = absurd (true≢false (sym walk))
walk_of own (Event.Next w p k (MapAnswer.Was v)) walk = absurd (true≢false (sym walk))
walk_of own _ walk = walk

look_walks : (e : Event) → is_look e ≡ true → is_walk e ≡ true
look_walks e look = or_right (passes_gap e) (is_look e) look

-- ## What may be asked next

-- what waits for a further answer, and met no conflict, is a scan
goes_scan : (d : Deed) → is_last (answered d) ≡ false → hindered_in d ≡ None → (from : ℕ) × (to : ℕ) × (asked d ≡ call.Scan from to)
goes_scan (Met from to k v alone) more none = (from, to, refl)
goes_scan (Refused c why backs) more none = absurd (at why more none)
  where
    at : (why : Refusal) → is_last_refusal why ≡ false → cond {A = Option Call} (is_conflict why) (Some c) None ≡ None → ⊥
    at (refusal.Conflict h) more none = cc
    at _ more none = true≢false more
goes_scan _ more none = absurd (true≢false more)

-- the newest call met a conflict and the abort is due, or what is asked is done
due_or_own : (heard : List Done) (c : Call) → (IsHindered heard × (call_behind (outcomes heard) c ≡ call.Abort)) ⊎ (call_behind (outcomes heard) c ≡ c)
due_or_own [] c = inr refl
due_or_own (y ∷ earlier) c = go (hindered_in y.outcome.deed) refl
  where
    go : (o : Option Call) → hindered_in y.outcome.deed ≡ o → (IsHindered (y ∷ earlier) × (call_behind (outcomes (y ∷ earlier)) c ≡ call.Abort)) ⊎ (call_behind (outcomes (y ∷ earlier)) c ≡ c)
    go None is = inr (ap (λ (o : Option Call). due_call o c) is)
    go (Some h) is = inl (record { newest = y; earlier = earlier; are = refl; hindered = h; is = is }, ap (λ (o : Option Call). due_call o c) is)

module _ (sessions : ℕ) (input : List ℕ) (g : Opening) (heard : List Done) (session : ℕ) (es : List Event) where
  -- the script's next line asks it
  abbrev IsLine : Call → Type 0
  IsLine c = LineFits sessions session c × ComesNext (script_of (calls_of heard)) (ask session c) input

  -- the abort that is due, the next step of a scan, or the script's next line
  data Turn (c : Call) : Type 0 where
    Due : IsHindered heard → call_behind (outcomes heard) c ≡ call.Abort → Turn c
    Goes : IsScanning heard → (from to : ℕ) → call_behind (outcomes heard) c ≡ call.Scan from to → Turn c
    Own : call_behind (outcomes heard) c ≡ c → IsLine c → Turn c

  turn : (c : Call) → IsAskedNext sessions input heard session c → Turn c
  turn c (OfAbort y earlier are is hindered) = Due
      (record { newest = y; earlier = earlier; are = are; hindered = c; is = hindered })
      (subst (λ (xs : List Done). call_behind (outcomes xs) c ≡ call.Abort) (sym are) (ap (λ (o : Option Call). due_call o c) hindered))
  turn c (OfScan y earlier are is same more none) =
      let scan = goes_scan y.outcome.deed more none in
      Goes (record { newest = y; earlier = earlier; are = are; from = scan.0; to = scan.1; asked_is = scan.2; more = more; hindered = none }) scan.0 scan.1
      (subst (λ (xs : List Done). call_behind (outcomes xs) c ≡ call.Scan scan.0 scan.1) (sym are) (ap (λ (o : Option Call). due_call o c) none ∙ (sym same ∙ scan.2)))
  turn c (OfLine fits line) = elim (due_or_own heard c) [
    | inl due ↦ Due due.0 due.1
    | inr own ↦ Own own (fits, line)
  ]

  asks : (c : Call) → IsLine c → (Such : Call → Type 0) → Such c → Asks sessions Such input
  asks c line Such such = record {
    text = ask session c;
    has = subst (Has (ask session c)) (sym line.1.begins) (has_behind (asked_lines (script_of (calls_of heard))) (ask session c) line.1.others);
    session = session;
    call = c;
    spelled = record { spelled = refl; session = line.0.session; call = line.0.fits };
    such = such;
  }

  structure : (c : Call) → IsLine c → HasDoneFor g heard session c es → (Asks sessions IsPut input → ⊥) → (Asks sessions IsDel input → ⊥) → any is_structure es ≡ false
  structure (call.Put key value) line room none calm = absurd (none (asks (call.Put key value) line IsPut tt))
  structure (call.Get key) line room none calm = room.1
  structure (call.Del key) line room none calm = absurd (calm (asks (call.Del key) line IsDel tt))
  structure (call.Scan from to) line room none calm = room.1
  structure call.Abort line backs none calm = each_none (λ e. puts_back session e || is_paging e) is_structure (back_grows_none session) es backs
  structure c line ready none calm = each_none makes_sync is_structure sync_grows_none es (ready_for_sync (needs_sync g heard session c) es ready)

  backs : (c : Call) → IsLine c → HasDoneFor g heard session c es → (Asks sessions IsAbort input → ⊥) → any is_back es ≡ false
  backs (call.Put key value) line room none = each_none (in_room session (g.row_of key) Mode.Alone) is_back (room_backs_none session (g.row_of key) Mode.Alone) es room.0
  backs (call.Get key) line room none = each_none (in_room session (g.row_of key) Mode.Shared) is_back (room_backs_none session (g.row_of key) Mode.Shared) es room.0
  backs (call.Del key) line room none = each_none (in_room session (g.row_of key) Mode.Alone) is_back (room_backs_none session (g.row_of key) Mode.Alone) es room.0
  backs (call.Scan from to) line room none = each_none (in_walk session) is_back (walk_backs_none session) es room.0
  backs call.Abort line room none = absurd (none (asks call.Abort line IsAbort tt))
  backs c line ready none = each_none makes_sync is_back sync_backs_none es (ready_for_sync (needs_sync g heard session c) es ready)

  looks : (c : Call) → IsLine c → HasDoneFor g heard session c es → (Asks sessions IsPut input → ⊥) → (Asks sessions IsDel input → ⊥) → (Asks sessions IsScan input → ⊥) → (Asks sessions IsAbort input → ⊥) → all is_look es ≡ true
  looks (call.Put key value) line room put del scan abort = absurd (put (asks (call.Put key value) line IsPut tt))
  looks (call.Get key) line room put del scan abort = each_looks session (g.row_of key) es room.0 room.1
  looks (call.Del key) line room put del scan abort = absurd (del (asks (call.Del key) line IsDel tt))
  looks (call.Scan from to) line room put del scan abort = absurd (scan (asks (call.Scan from to) line IsScan tt))
  looks call.Abort line room put del scan abort = absurd (abort (asks call.Abort line IsAbort tt))
  looks c line ready put del scan abort = each_so makes_sync is_look sync_looks es (ready_for_sync (needs_sync g heard session c) es ready)

  walks_by : (c : Call) → IsLine c → HasDoneFor g heard session c es → (Asks sessions IsPut input → ⊥) → (Asks sessions IsDel input → ⊥) → (Asks sessions IsAbort input → ⊥) → all is_walk es ≡ true
  walks_by (call.Put key value) line room put del abort = absurd (put (asks (call.Put key value) line IsPut tt))
  walks_by (call.Get key) line room put del abort = each_so is_look is_walk look_walks es (each_looks session (g.row_of key) es room.0 room.1)
  walks_by (call.Del key) line room put del abort = absurd (del (asks (call.Del key) line IsDel tt))
  walks_by (call.Scan from to) line room put del abort = each_so (in_walk session) is_walk (walk_of session) es room.0
  walks_by call.Abort line room put del abort = absurd (abort (asks call.Abort line IsAbort tt))
  walks_by c line ready put del abort = each_so is_look is_walk look_walks es (each_so makes_sync is_look sync_looks es (ready_for_sync (needs_sync g heard session c) es ready))

  for_sync : (c : Call) → IsLine c → HasDoneFor g heard session c es → (Asks sessions IsPut input → ⊥) → (Asks sessions IsGet input → ⊥) → (Asks sessions IsDel input → ⊥) → (Asks sessions IsScan input → ⊥) → (Asks sessions IsAbort input → ⊥) → all makes_sync es ≡ true
  for_sync (call.Put key value) line room put get del scan abort = absurd (put (asks (call.Put key value) line IsPut tt))
  for_sync (call.Get key) line room put get del scan abort = absurd (get (asks (call.Get key) line IsGet tt))
  for_sync (call.Del key) line room put get del scan abort = absurd (del (asks (call.Del key) line IsDel tt))
  for_sync (call.Scan from to) line room put get del scan abort = absurd (scan (asks (call.Scan from to) line IsScan tt))
  for_sync call.Abort line room put get del scan abort = absurd (abort (asks call.Abort line IsAbort tt))
  for_sync c line ready put get del scan abort = ready_for_sync (needs_sync g heard session c) es ready

  pub stopped : (c : Call) → IsAskedNext sessions input heard session c → IsRoomFor g heard session (call_behind (outcomes heard) c) es → StoppedLaws sessions input heard es
  stopped c asked room = go (turn c asked)
    where
      there : (d : Call) → call_behind (outcomes heard) c ≡ d → HasDoneFor g heard session d es
      there d is = subst (λ (d : Call). HasDoneFor g heard session d es) is room.0

      go : Turn c → StoppedLaws sessions input heard es
      go (Due due is) = record {
        structure = λ none calm. each_none (λ e. puts_back session e || is_paging e) is_structure (back_grows_none session) es (there call.Abort is);
        backs = λ none calm. absurd (calm due);
        walks = λ put del abort calm. absurd (calm due);
        looks = λ put del scan abort calm still. absurd (calm due);
        for_sync = λ put get del scan abort calm still. absurd (calm due);
      }
      go (Goes on from to is) = let done = there (call.Scan from to) is in record {
        structure = λ none calm. done.1;
        backs = λ none calm. each_none (in_walk session) is_back (walk_backs_none session) es done.0;
        walks = λ put del abort calm. each_so (in_walk session) is_walk (walk_of session) es done.0;
        looks = λ put del scan abort calm still. absurd (still on);
        for_sync = λ put get del scan abort calm still. absurd (still on);
      }
      go (Own is line) = let done = there c is in record {
        structure = structure c line done;
        backs = λ none calm. backs c line done none;
        walks = λ put del abort calm. walks_by c line done put del abort;
        looks = λ put del scan abort calm still. looks c line done put del scan abort;
        for_sync = λ put get del scan abort calm still. for_sync c line done put get del scan abort;
      }

pub every_stopped_call : EveryStoppedCall
every_stopped_call input g heard es r = stopped g.workers input g heard r.session es r.call r.asks r.room
