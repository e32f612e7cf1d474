-- A step of a scan, in each run to which its machine is tied.
use Rattle.std.proofs.Common.{◌≡◌, ◌∙◌, ◌⊎◌, inl, inr, ◌≤◌, ◌<◌, ◌+◌, ◌^◌, ◌++◌, ◌==◌, ◌||◌, ◌&&◌, leb, ltb, ℕ, suc, Bool, true, false, cond, List, [], ◌∷◌, map, length, Option, Some, None, Ok, Err, append-nil, ap, refl, sym, subst, arith, true≢false, Result}
use Rattle.std.proofs.lemmas.Bool.{and_parts, leb-true, ltb-true}
use Rattle.std.proofs.lemmas.List.{append_assoc, length-append}
use Rattle.map_model.specs.Lists.{Has, all, any, keep}
use Rattle.map_model.specs.Maps.{MapAnswer}
use Rattle.map_model.specs.declared.call.Answer.{Answer}
use Rattle.map_model.specs.declared.call.Answer.TheVariants as answer
use Rattle.map_model.specs.declared.call.Call.{Call}
use Rattle.map_model.specs.declared.call.Call.TheVariants as call
use Rattle.map_model.specs.declared.call.Refusal.{Refusal}
use Rattle.map_model.specs.declared.call.Refusal.TheVariants as refusal
use Rattle.paged_calls.specs.engine_trait.declared.unserved.Unanswered.{Unanswered}
use Rattle.paged_calls.specs.engine_trait.declared.unserved.Unserved.{Unserved}
use Rattle.paged_calls.specs.engine_trait.Serving.{MayRefuse, unserved_answer}
use Rattle.paged_calls.specs.engine_trait.declared.unserved.Unanswered.TheVariants as unanswered
use Rattle.paged_calls.specs.engine_trait.declared.unserved.Unserved.TheVariants as unserved
use Rattle.paged_calls.proofs.call_parts.RunLemmas.{behind_more, core_is}
use Rattle.paged_calls.specs.call_parts.Areas.{is_save}
use Rattle.paged_calls.specs.call_parts.Deeds.{Answers, Fails, HasNoneToGo}
use Rattle.paged_calls.specs.call_parts.Memory.{Memory}
use Rattle.paged_calls.specs.call_parts.Parts.{Failed, Part}
use Rattle.paged_calls.specs.call_parts.Rooms.{ChangesTree, IsRoomFor, is_paging, looks, may_save, most_of, walks}
use Rattle.paged_calls.specs.core_calls.Deeds.{Deed, Met, Over, Paused, Refused, Unsaid, answered, asked, marks_by, marks_for}
use Rattle.paged_calls.specs.core_calls.Fronts.{Done, front, outcomes}
use Rattle.paged_calls.specs.core_calls.LogEvents.{IsPressedYet, IsTight, IsTightSomewhere, SyncsWhere}
use Rattle.paged_calls.specs.core_calls.Marks.{Mark, is_half}
use Rattle.paged_calls.specs.core_calls.Refusals.{Hinders, IsCause}
use Rattle.paged_calls.specs.core_calls.Runs.{Tells}
use Rattle.paged_calls.specs.core_calls.Scans.{IsHinderedNext, IsOnWay, IsTold, IsWay, ScansRows, StopsOnWay, TakesMet, rows_met}
use Rattle.paged_calls.specs.core_calls.Steps.{IsAnAbort, MayPutBack, Tries, Walks, is_step, is_structure, met_last, scan_from}
use Rattle.paged_calls.proofs.core_calls.WhereLemmas.{syncs_more, syncs_weaker}
use Rattle.paged_calls.specs.core_index.Walks.{met_keys}
use Rattle.paged_calls.proofs.core_state.Runs.{run_more}
use Rattle.paged_calls.specs.core_state.Events as happening
use Rattle.paged_calls.specs.core_state.Local.{is_sync}
use Rattle.paged_calls.specs.core_state.Needs.{value_in}
use Rattle.paged_calls.specs.core_state.Openings.{Opening}
use Rattle.paged_calls.specs.core_state.States.{State}
use Rattle.paged_calls.specs.core_state.Steps.{AllMet, run, state_after, step}
use Rattle.paged_calls.specs.disk_runs.Quiet.{is_quiet}
use Rattle.paged_calls.specs.disk_runs.Stands.{Stands}
use Rattle.paged_calls.proofs.engine_calls.MarkLemmas.{any_append, either_false, fresh_none, has_mark, marks_none, no_step}
use Rattle.paged_calls.specs.engine_calls.Answers.{EveryAnswer}
use Rattle.paged_calls.specs.engine_calls.Clauses.{EveryComing, IsNewLine, MayCome}
use Rattle.paged_calls.specs.engine_calls.Parts.{behind_first}
use Rattle.paged_calls.specs.engine_calls.Puts.{IsWhole, is_alone}
use Rattle.paged_calls.specs.engine_calls.Refused.{refused_by}
use Rattle.paged_calls.specs.engine_calls.Scans.{IsPair, IsScan, PassesGaps, pair_behind, scanned_by, unsaid_pair}
use Rattle.paged_calls.specs.engine_trait.Calls as trait_calls
use Rattle.paged_calls.specs.engine_trait.Calls.{call_behind, due_call, is_half_done}
use Rattle.paged_calls.specs.engine_trait.Limits.{limits}
use Rattle.paged_calls.specs.engine_trait.Refusals.{IsRefusedFor, refusal_in}
use Rattle.paged_calls.specs.engine_trait.Rooms.{needs_sync}
use Rattle.lean_disk.specs.Story.{IsLawful, Story}
use Rattle.page_model.specs.Nodes.{Format, holds}
use Rattle.page_model.specs.Pairs.{Pair}
use Rattle.paged_calls.specs.page_pool.Counts.{EveryFrame}
use Rattle.row_scans.specs.Meets.{HasMet, HasMetConflict, HasMetSpent, HasTaken, IsButRows, takes_of, told_of, walk_of}
use Rattle.row_scans.specs.declared.meets.Met.TheVariants as met
use Rattle.paged_calls.specs.row_words.declared.event.Event.{Event}
use Rattle.paged_calls.specs.row_words.declared.event.Event.TheVariants.{Next}
use Rattle.paged_calls.specs.row_words.Moments.{events_of}
use Rattle.paged_calls.specs.row_words.Openings.{opening}
use Rattle.paged_calls.specs.rows_trait.declared.view.View.{View}
use Rattle.paged_calls.specs.rows_trait.Views.{Shape, state}
use Rattle.paged_calls.proofs.session_desks.DeskLemmas.{desk_own}
use Rattle.paged_calls.proofs.session_desks.SeatLemmas.{holds_of, turn_high, turn_low}
use Rattle.paged_calls.specs.session_desks.Desks.{desk_of}
use Rattle.paged_calls.specs.session_desks.Parts.{AreAsMany, HasLogs, SeatFits, here, shape}
use Rattle.paged_calls.specs.session_desks.declared.desk.Desk.{Desk}
use Rattle.paged_calls.proofs.session_state.Moments.{events_more}
use Rattle.paged_calls.specs.session_state.Holds.{Holds}
use Rattle.paged_calls.specs.session_state.Ties.{Behind}
use Rattle.paged_calls.specs.session_state.declared.session.Session.{Session}
use Rattle.paged_calls.specs.worker_log.Logs.{Log}
use Rattle.paged_calls.proofs.paged_desks.Doing.{hot_few}
use Rattle.paged_calls.proofs.paged_desks.EndingLemmas.{Grounds, begins, does_tied, end_laws, grows_none, half_own, none_to_go, refused_tied}
use Rattle.paged_calls.proofs.paged_desks.HalfLates.{half_late}
use Rattle.paged_calls.proofs.paged_desks.StandLemmas.{halves_are, memory_is}
use Rattle.paged_calls.specs.paged_desks.Calls.{AreHalf, CallDoes, DoesTied, EndsWork, IsBeside, StandsNot, Tied, works_behind}
use Rattle.paged_calls.specs.paged_desks.Machines.{IsReady, memory, view_of}
use Rattle.paged_calls.specs.paged_desks.Parts.{IsSpent, StandsNowhere}
use Rattle.paged_calls.specs.paged_desks.declared.machine.PagedMachine.{PagedMachine}
use Rattle.paged_calls.specs.Steps.{FailsWarm, HasCome}
use Rattle.paged_calls.specs.Tests.{is_going}
use Rattle.paged_calls.proofs.EventLemmas.{length_events, paging_steps, paging_structure, structure_of}
use Rattle.paged_calls.proofs.GoingLemmas.{not_going, tests_as}
use Rattle.paged_calls.proofs.PieceLemmas.{as_beside, failed_from, joins_at, none_part, steps_at}
use Rattle.paged_calls.proofs.TakingLemmas.{late_end, none_is, some_is, spent_end}
use Rattle.paged_calls.proofs.WarmLemmas.{beside_self}
use Rattle.paged_scans.specs.Calls.{IsBehindPair, IsIn, StandsAt}
use Rattle.paged_scans.specs.declared.scans.Scan.{Scan}
use Rattle.paged_scans.specs.Steps.{HasPassed, IsSpentWarm, Nexts, NoOther}
use Rattle.paged_scans.proofs.LeafLemmas.{above_few, events_takes, events_walk, few_walk, leaf_few, locks_there, takes_long, walk_long}
use Rattle.paged_scans.proofs.NextLemmas.{all_more, moves_walk, walk_part}
use Rattle.paged_scans.proofs.PassLemmas.{gaps_more, idle_steps, idle_takes, keep_more, locks, locks_pass, locks_take, locks_walk, steps_more, takes_more, walk_steps, walk_takes, walk_walks}

-- ## What a line asks

-- a scan that goes on is what its line asked
scan_call : (own : ℕ) (c : Call) (xs : List Done) → IsNewLine (outcomes xs) ⊎ IsBehindPair own c (outcomes xs) → call_behind (outcomes xs) c ≡ c
scan_call own c [] line = refl
scan_call own c (y ∷ earlier) (inl line) = ap (λ o. due_call o c) line.0
scan_call own c (y ∷ earlier) (inr pair) = ap (λ o. due_call o c) pair.0

-- so its next outcome may come
scan_comes : EveryComing → (own : ℕ) (c : Call) (d : Deed) (us : List Unsaid) → asked d ≡ c → IsAnAbort d → (xs : List Done) → IsNewLine (outcomes xs) ⊎ IsBehindPair own c (outcomes xs) → MayCome xs (record { session = own; deed = d; unsaid = us })
scan_comes coming own c d us is none [] line = (coming [] (record { session = own; deed = d; unsaid = us })).new tt none
scan_comes coming own c d us is none (y ∷ earlier) (inl line) = (coming (y ∷ earlier) (record { session = own; deed = d; unsaid = us })).new line none
scan_comes coming own c d us is none (y ∷ earlier) (inr pair) = (coming earlier (record { session = own; deed = d; unsaid = us })).more y pair.0 (sym pair.2) (is ∙ sym pair.3) none

-- ## Events

locks_steps : (w : ℕ) (rows : List ℕ) → keep is_step (locks w rows) ≡ locks w rows
locks_steps w [] = refl
locks_steps w (i ∷ rows) = ap (λ es. happening.Event.Lock w i happening.Mode.Shared ∷ es) (locks_steps w rows)

locks_structure : (w : ℕ) (rows : List ℕ) → any is_structure (locks w rows) ≡ false
locks_structure w [] = refl
locks_structure w (i ∷ rows) = locks_structure w rows

locks_syncs : (P : State → Type 0) (g : Opening) (w : ℕ) (rows : List ℕ) (s : State) → SyncsWhere P g s false (locks w rows)
locks_syncs P g w [] s = tt
locks_syncs P g w (i ∷ rows) s = locks_syncs P g w rows (step g s (happening.Event.Lock w i happening.Mode.Shared))

quiet_takes : (w : ℕ) (rows : List ℕ) → all is_quiet (events_of (takes_of w rows)) ≡ true
quiet_takes w [] = refl
quiet_takes w (i ∷ rows) = quiet_takes w rows

-- where it has come to, told more weakly
walks_weaker : (w at : ℕ) (es : List happening.Event) (P Q : ℕ → Type 0) → ((k : ℕ) → P k → Q k) → Walks w at es P → Walks w at es Q
walks_weaker w at [] P Q h a = h at a
walks_weaker w at (happening.Event.Lock v i happening.Mode.Shared ∷ es) P Q h a = (a.0, walks_weaker w at es P Q h a.1)
walks_weaker w at (happening.Event.Next v p k (MapAnswer.Pair j x) ∷ es) P Q h a = (a.0, a.1, walks_weaker w (suc j) es P Q h a.2)
walks_weaker w at (happening.Event.Next v p k (MapAnswer.Gap high) ∷ es) P Q h a = (a.0, a.1, walks_weaker w high es P Q h a.2)
walks_weaker w at (_ ∷ es) P Q h a = absurd a

takes_weaker : (g : Opening) (P Q : State → ℕ → List ℕ → Type 0) → ((s : State) (k : ℕ) (ts : List ℕ) → P s k ts → Q s k ts) → (es : List happening.Event) (s : State) (at : ℕ) (taken : List ℕ) → TakesMet g s at taken es P → TakesMet g s at taken es Q
takes_weaker g P Q h es s at taken a =
    subst (λ ys. TakesMet g s at taken ys Q) (append-nil es) (takes_more g P Q es [] s at taken a (λ t k rows e p. h t k rows p))

-- gaps tell nothing of a session
gap_first : (e : happening.Event) (es : List happening.Event) → PassesGaps (e ∷ es) → (has_mark e ≡ false) × PassesGaps es
gap_first (happening.Event.Lock w i happening.Mode.Shared) es t = (refl, t)
gap_first (happening.Event.Next w p k (MapAnswer.Gap h)) es t = (refl, t)
gap_first _ es t = absurd t

gaps_none : (es : List happening.Event) → PassesGaps (keep is_step es) → any has_mark es ≡ false
gaps_none [] t = refl
gaps_none (e ∷ es) t = go (is_step e) refl (gaps_none es) t
  where
    go : (b : Bool) → is_step e ≡ b → (PassesGaps (keep is_step es) → any has_mark es ≡ false) → PassesGaps (cond b (e ∷ keep is_step es) (keep is_step es)) → (has_mark e || any has_mark es) ≡ false
    go true q h t = let x = gap_first e (keep is_step es) t in either_false (has_mark e) (any has_mark es) x.0 (h x.1)
    go false q h t = either_false (has_mark e) (any has_mark es) (no_step e q) (h t)

-- ## A way, in another opening's words

way_as : (g h : Opening) (s t : State) (at : ℕ) (taken rest : List ℕ) → g.format ≡ h.format → g.row_of ≡ h.row_of → t ≡ s → IsWay h s at taken rest → IsWay g t at taken rest
way_as g h s t at taken rest format rows e k = record {
  page = k.page;
  leaf = (λ i. ltb k.page (format i).pages && holds ((e i).page k.page).node at) ∙ k.leaf;
  rows = (λ i. map (rows i) (met_keys (format i) at ((e i).page k.page).node.pairs)) ∙ k.rows;
}

-- which entry a row is of
cons_head : (x y : ℕ) (xs ys : List ℕ) → x ∷ xs ≡ y ∷ ys → x ≡ y
cons_head x y xs ys e = cc

cons_tail : (x y : ℕ) (xs ys : List ℕ) → x ∷ xs ≡ y ∷ ys → xs ≡ ys
cons_tail x y xs ys e = cc

nil_cons : (y : ℕ) (ys : List ℕ) → [] ≡ y ∷ ys → ⊥
nil_cons y ys e = absurd (cc)

key_of_row : (f : ℕ → ℕ) (ks earlier : List ℕ) (i : ℕ) (rest : List ℕ) → map f ks ≡ earlier ++ i ∷ rest → (k : ℕ) × Has k ks × (f k ≡ i)
key_of_row f [] [] i rest e = absurd (nil_cons i rest e)
key_of_row f [] (a ∷ earlier) i rest e = absurd (nil_cons a (earlier ++ i ∷ rest) e)
key_of_row f (k ∷ ks) [] i rest e = (k, inl refl, cons_head (f k) i (map f ks) rest e)
key_of_row f (k ∷ ks) (a ∷ earlier) i rest e = let r = key_of_row f ks earlier i rest (cons_tail (f k) a (map f ks) (earlier ++ i ∷ rest) e) in (r.0, inr r.1, r.2)

-- it is from the walk's key on
met_above : (f : Format) (at : ℕ) (ps : List Pair) (j : ℕ) → Has j (met_keys f at ps) → at ≤ j
met_above f at [] j h = absurd h
met_above f at (x ∷ xs) j h = go (leb at x.key) (ltb x.word f.dead) refl (met_above f at xs j) h
  where
    go : (b c : Bool) → leb at x.key ≡ b → (Has j (met_keys f at xs) → at ≤ j) → Has j (cond b (x.key ∷ cond c [] (met_keys f at xs)) (met_keys f at xs)) → at ≤ j
    go true c q ih (inl e) = let a = leb-true at x.key q in omega arith
    go true true q ih (inr k) = absurd k
    go true false q ih (inr k) = ih k
    go false c q ih k = ih k

-- ## In one run

module _ (l : Grounds) (answers : EveryAnswer) (coming : EveryComing) (frames : EveryFrame) {D : Type 0} (story : D → Story) (lawful : (d : D) → IsLawful (story d)) (m : PagedMachine D) (ready : IsReady story m) (scan : Scan) (within : IsIn scan)
    (g : Opening) (xs : List Done) (workers : g.workers ≡ m.machine.work.session.workers) (tied : Tied g m.machine.work.session.group xs (view_of m) (memory m)) (halves : AreHalf g.workers xs m.machine) (stands : StandsAt m.machine.work.session.own scan g xs) where
  abbrev x : Session
  x = m.machine.work.session

  abbrev own : ℕ
  own = x.own

  abbrev v : View
  v = view_of m

  abbrev z : Shape
  z = shape m.machine

  -- where the step begins
  abbrev there : State
  there = state_after g (front xs)

  abbrev log : Log
  log = (memory m).log own

  abbrev c : Call
  c = call.Scan scan.from scan.to

  abbrev old : Story
  old = story m.machine.work.disk

  -- where the scan stands
  abbrev start : ℕ
  start = scan_from (outcomes xs) scan.from

  start_is : scan.at ≡ start
  start_is = sym stands.at

  sound : Holds z v x m.machine.work.log
  sound = holds_of z v (here m.machine) m.machine.desks.items ready.sound.desks

  low : 0 < own
  low = turn_low z v (here m.machine) m.machine.desks.items ready.sound.desks

  high : own ≤ x.workers
  high = turn_high z v (here m.machine) m.machine.desks.items ready.sound.desks

  b0 : Behind g xs [] v
  b0 = begins g x.group xs v (memory m) tied

  core_at : (state v).core ≡ there
  core_at = core_is l.reached l.needs g xs [] v b0

  half_is : is_half_done own xs ≡ x.is_half_aborted
  half_is = halves own low (let e = workers in let h = high in omega arith) ∙ ap (λ (d : Desk). d.session.is_half_aborted) (desk_own (here m.machine) m.machine.desks.items own refl)

  open_is : (there.worker own).is_open ≡ x.is_open
  open_is = ap (λ (s : State). (s.worker own).is_open) (sym core_at) ∙ sound.session.is_open

  asks : call_behind (outcomes xs) c ≡ c
  asks = scan_call own c xs stands.line

  comes : (d : Deed) (us : List Unsaid) → asked d ≡ c → IsAnAbort d → MayCome xs (record { session = own; deed = d; unsaid = us })
  comes d us is none = scan_comes coming own c d us is none xs stands.line

  -- ## No transaction goes on

  module _ (shut : is_going x ≡ false) where
    shut_is : refusal_in g there own (is_half_done own xs) log c ≡ Some refusal.NoTransaction
    shut_is = tests_as there (is_half_done own xs) x open_is half_is None ∙ ap (λ b. cond b None (Some refusal.NoTransaction)) shut

    cause : (x.is_half_aborted ≡ true) ⊎ (x.is_open ≡ false) → ((there.worker own).is_open ≡ false) ⊎ ((is_half_done own xs ≡ true) × (c ≡ call.Abort → ⊥))
    cause (inl half) = inr (half_is ∙ half, λ q. absurd (cc))
    cause (inr closed) = inl (open_is ∙ closed)

    pub not_begun : DoesTied g x.group xs own c (answer.Refused refusal.NoTransaction) (memory m) m old old
    not_begun = refused_tied l m m old old (lawful m.machine.work.disk) g xs workers tied halves [] (none_part l story lawful m m (beside_self l story lawful 0 m) refl x.workers refl refl) ready.logged (refl, refl) answers own c refusal.NoTransaction refl low high
        (record {
          comes = comes (Refused c refusal.NoTransaction []) [] refl tt;
          met = tt;
          rows = tt;
          tries = subst (λ d. Tries g own (outcomes xs) d refusal.NoTransaction []) (sym asks) refl;
          scans = subst (λ d. StopsOnWay g own (outcomes xs) there d refusal.NoTransaction []) (sym asks) tt;
          structure = λ _. refl;
          cause = cause (not_going x shut);
          due = tt;
        })
        (record {
          few = (let k : 0 ≤ 2 ^ 26 = omega arith in k);
          is_for = subst (λ ys. IsRefusedFor g (state_after g ys) own (is_half_done own xs) log (call_behind (outcomes xs) c) refusal.NoTransaction) (sym (append-nil (front xs)))
              (inl (ap (refusal_in g there own (is_half_done own xs) log) asks ∙ shut_is));
          kept = tt;
          refuses = λ q sure e. inl (some_is refusal.NoTransaction q (sym (ap (refusal_in g there own (is_half_done own xs) log) asks ∙ shut_is) ∙ e));
          still = λ q e. refl;
          stays = λ q sure e. refl;
          room = subst (λ d. ChangesTree own g there d []) (sym asks) refl;
        })
        (λ w lo hi. refl)

  -- ## By these events

  module _ (is_open : x.is_open ≡ true) (whole : x.is_half_aborted ≡ false) where
    -- no test refuses it
    none : refusal_in g there own (is_half_done own xs) log c ≡ None
    none = λ i. cond ((half_is ∙ whole) i) (Some refusal.NoTransaction) (cond ((open_is ∙ is_open) i) None (Some refusal.NoTransaction))

    module _ (n : PagedMachine D) (es : List Event) (part : Part x.workers es v (view_of n) (memory m) (memory n) old (story n.machine.work.disk)) (logged : HasLogs n.machine) (as_many : AreAsMany m.machine n.machine)
        (same : (w : ℕ) → 0 < w → w ≤ x.workers → (desk_of (here n.machine) n.machine.desks.items w).session.is_half_aborted ≡ (desk_of (here m.machine) m.machine.desks.items w).session.is_half_aborted)
        (structure : any is_structure (events_of es) ≡ false) (few : length es ≤ 2 ^ 26) where
      -- it has done this
      answered_by : (d : Deed) (us : List Unsaid) (a : Answer) → asked d ≡ c → answered d ≡ a → is_half (marks_for (record { session = own; deed = d; unsaid = us }) ++ marks_by own (outcomes xs)) ≡ is_half_done own xs
          → Tells limits g x.group xs (scanned_by own d us (events_of es)) → ((why : Refusal) → answered d ≡ answer.Refused why → IsRefusedFor g (state_after g (front xs ++ events_of es)) own (is_half_done own xs) log c why)
          → DoesTied g x.group xs own c a (memory m) n old (story n.machine.work.disk)
      answered_by d us a is told half tells is_for = does_tied l m n old (story n.machine.work.disk) (lawful m.machine.work.disk) g xs workers tied halves es part logged as_many own c a (scanned_by own d us (events_of es)) refl refl is told tells how
          (half_own own (scanned_by own d us (events_of es)) xs refl ∙ (half ∙ (halves own low (let e = workers in let h = high in omega arith) ∙ sym (same own low high)))) (λ w lo hi ne. same w lo hi)
        where
          behind : call_behind (outcomes xs) (asked d) ≡ c
          behind = ap (call_behind (outcomes xs)) is ∙ asks

          few_of : length (events_of es) ≤ most_of c
          few_of = let a = length_events es in let b = few in let k : length (events_of es) ≤ 2 ^ 26 = omega arith in k

          how : Answers g xs (scanned_by own d us (events_of es)) log
          how = record {
            few = subst (λ (e : Call). length (events_of es) ≤ most_of e) (sym is) few_of;
            refused = λ why q. subst (λ (e : Call). IsRefusedFor g (state_after g (front xs ++ events_of es)) own (is_half_done own xs) log e why) (sym behind) (is_for why q);
            kept = λ why q. subst (λ (e : Call). HasNoneToGo g (state_after g (front xs ++ events_of es)) e why) (sym behind) (none_to_go g (state_after g (front xs ++ events_of es)) c why tt);
            refuses = λ why sure q. absurd (none_is why (sym none ∙ (ap (refusal_in g there own (is_half_done own xs) log) (sym behind) ∙ q)));
            still = λ why q. grows_none (events_of es) structure;
            stays = λ why sure q. structure;
            room = subst (λ (e : Call). ChangesTree own g there e (events_of es)) (sym behind) structure;
          }

    -- ## Nothing is done

    abbrev Did : Answer → PagedMachine D → Type 0
    Did a n = DoesTied g x.group xs own c a (memory m) n old (story n.machine.work.disk)

    at_once : (d : Deed) (a : Answer) → asked d ≡ c → answered d ≡ a → is_half (marks_for (record { session = own; deed = d; unsaid = [] }) ++ marks_by own (outcomes xs)) ≡ is_half_done own xs → Tells limits g x.group xs (scanned_by own d [] [])
        → ((why : Refusal) → answered d ≡ answer.Refused why → ⊥) → Did a m
    at_once d a is told half tells never =
        answered_by m [] (none_part l story lawful m m (beside_self l story lawful 0 m) refl x.workers refl refl) ready.logged (refl, refl) (λ w lo hi. refl) refl (omega arith) d [] a is told half tells (λ why q. absurd (never why q))

    -- the last key is passed
    pub above : scan.to < scan.at → Did answer.End m
    above lt = at_once (Over scan.from scan.to) answer.End refl refl refl
        ((answers limits g x.group xs).over [] own scan.from scan.to (record { comes = comes (Over scan.from scan.to) [] refl tt; met = tt; rows = refl; gaps = tt; structure = refl; syncs = tt }) (λ full. subst (λ k. scan.to < k) start_is lt) (subst (λ k. scan.to < k) start_is lt))
        (λ why q. absurd (cc))

    -- so many pairs were told as may be
    pub paused : scan.met ≡ 64 → scan.at ≤ scan.to → Did (answer.More scan.at) m
    paused full le = at_once (Paused scan.from scan.to scan.at) (answer.More scan.at) refl refl refl
        ((answers limits g x.group xs).paused [] own scan.from scan.to scan.at (record { comes = comes (Paused scan.from scan.to scan.at) [] refl tt; met = tt; rows = tt; gaps = tt; structure = refl; syncs = tt }) refl (stands.met ∙ full) start_is le)
        (λ why q. absurd (cc))

    -- ## Gaps were passed

    module _ (at : ℕ) (low_at : scan.at ≤ at) (u : PagedMachine D) (p : HasPassed story scan.at at m u) where
      abbrev A : List happening.Event
      A = events_of p.events

      b1 : Behind g xs A (view_of u)
      b1 = behind_more g xs [] v b0 p.events (view_of u) p.part.given p.part.seen (p.part.logged g xs [] b0).met

      passed_few : length p.events ≤ 2 ^ 25 + 2 ^ 17
      passed_few = let a = p.few in let h = hot_few story m ready frames in let b = above_few story m ready scan.at in omega arith

      -- up to behind the last key
      pub gaps_over : HasLogs u.machine → scan.met < 64 → scan.to < at → Did answer.End u
      gaps_over logged fewer lt =
          answered_by u p.events p.part logged p.same p.halves p.structure (let a = passed_few in omega arith) (Over scan.from scan.to) [] answer.End refl refl refl
          ((answers limits g x.group xs).over A own scan.from scan.to
          (record {
            comes = comes (Over scan.from scan.to) [] refl tt;
            met = (p.part.logged g xs [] b0).met;
            rows = subst (λ k. TakesMet g there k [] A IsTold) start_is (takes_weaker g (λ s k taken. (k ≡ at) × (taken ≡ [])) IsTold (λ s k taken q. q.1) A there scan.at [] (p.rows g xs [] b0));
            gaps = p.gaps;
            structure = p.structure;
            syncs = p.tight g xs [] b0;
          })
          (λ full. let a : met_last (outcomes xs) ≡ 64 = full in let b = stands.met in let e = fewer in absurd (omega arith))
          (subst (λ k. Walks own k (keep is_step A) (λ j. scan.to < j)) start_is (walks_weaker own scan.at (keep is_step A) (λ j. j ≡ at) (λ j. scan.to < j) (λ j e. subst (λ i. scan.to < i) (sym e) lt) p.walks)))
          (λ why q. absurd (cc))

      -- it stands there, and has taken no row since
      abbrev IsThere : State → ℕ → List ℕ → Type 0
      IsThere s j taken = (j ≡ at) × (taken ≡ [])

      -- ## And the pages of a way came

      module _ (k : PagedMachine D) (come : HasCome story at u k) where
        abbrev B : List happening.Event
        B = events_of come.events

        came : Part x.workers come.events (view_of u) (view_of k) (memory u) (memory k) (story u.machine.work.disk) (story k.machine.work.disk)
        came = subst (λ w. Part w come.events (view_of u) (view_of k) (memory u) (memory k) (story u.machine.work.disk) (story k.machine.work.disk)) p.same.0 come.part

        b2 : Behind g xs (A ++ B) (view_of k)
        b2 = behind_more g xs A (view_of u) b1 come.events (view_of k) came.given came.seen (came.logged g xs A b1).met

        -- the state there
        abbrev mid : State
        mid = run g (run g there A) B

        mid_is : (state (view_of k)).core ≡ mid
        mid_is = core_is l.reached l.needs g xs (A ++ B) (view_of k) b2 ∙ run_more g there A B

        no_steps : any is_step B ≡ false
        no_steps = paging_steps come.events come.paging

        -- what is so of later events is so behind these
        way_takes : (C : List happening.Event) (Q : State → ℕ → List ℕ → Type 0) → ((s : State) → s ≡ mid → TakesMet g s at [] C Q) → TakesMet g there start [] (A ++ (B ++ C)) Q
        way_takes C Q h = subst (λ i. TakesMet g there i [] (A ++ (B ++ C)) Q) start_is (takes_more g IsThere Q A (B ++ C) there scan.at [] (p.rows g xs [] b0) then_way)
          where
            then_leaf : (r : State) (j : ℕ) (taken : List ℕ) → r ≡ mid → IsThere r j taken → TakesMet g r j taken C Q
            then_leaf r j taken e q = subst (λ i. TakesMet g r i taken C Q) (sym q.0) (subst (λ ts. TakesMet g r at ts C Q) (sym q.1) (h r e))

            then_way : (s : State) (j : ℕ) (taken : List ℕ) → s ≡ run g there A → IsThere s j taken → TakesMet g s j taken (B ++ C) Q
            then_way s j taken e q = takes_more g IsThere Q B C s j taken (idle_takes g IsThere B s j taken no_steps q) (λ r i ts f w. then_leaf r i ts (f ∙ ap (λ t. run g t B) e) w)

        idle_before : (C : List happening.Event) → keep is_step (B ++ C) ≡ keep is_step C
        idle_before C = keep_more is_step B C ∙ ap (λ ys. ys ++ keep is_step C) (idle_steps B no_steps)

        way_walks : (C : List happening.Event) (Q : ℕ → Type 0) → Walks own at (keep is_step C) Q → Walks own start (keep is_step (A ++ (B ++ C))) Q
        way_walks C Q h = subst (λ i. Walks own i (keep is_step (A ++ (B ++ C))) Q) start_is
            (steps_more own scan.at A (B ++ C) (λ j. j ≡ at) Q p.walks (λ j e. subst (λ i. Walks own i (keep is_step (B ++ C)) Q) (sym e) (subst (λ ys. Walks own at ys Q) (sym (idle_before C)) h)))

        way_gaps : (C : List happening.Event) → PassesGaps (keep is_step C) → PassesGaps (keep is_step (A ++ (B ++ C)))
        way_gaps C h = gaps_more A (B ++ C) p.gaps (subst PassesGaps (sym (idle_before C)) h)

        way_structure : (C : List happening.Event) → any is_structure C ≡ false → any is_structure (A ++ (B ++ C)) ≡ false
        way_structure C h = any_append is_structure A (B ++ C) p.structure (any_append is_structure B C (paging_structure come.events come.paging) h)

        way_syncs : (C : List happening.Event) → SyncsWhere (IsTightSomewhere g) g mid false C → SyncsWhere (IsTightSomewhere g) g there false (A ++ (B ++ C))
        way_syncs C h = syncs_more (IsTightSomewhere g) g A (B ++ C) there false (p.tight g xs [] b0)
            (syncs_more (IsTightSomewhere g) g B C (run g there A) false (syncs_weaker (λ s. IsTight g s at) (IsTightSomewhere g) (λ s q. (at, q)) g B (run g there A) false (come.tight g xs A b1)) h)

        -- as its sessions are
        module _ (n : PagedMachine D) (beside : IsBeside k n) (session : IsButRows k.machine.work.session n.machine.work.session) where
          same_own : n.machine.work.session.own ≡ k.machine.work.session.own
          same_own = ap (λ (y : Session). y.own) session

          all_many : AreAsMany m.machine n.machine
          all_many = (ap (λ (y : Session). y.workers) session ∙ (come.same.0 ∙ p.same.0), ap (λ (y : Session). y.group) session ∙ (come.same.1 ∙ p.same.1))

          all_halves : (w : ℕ) → 0 < w → w ≤ x.workers → (desk_of (here n.machine) n.machine.desks.items w).session.is_half_aborted ≡ (desk_of (here m.machine) m.machine.desks.items w).session.is_half_aborted
          all_halves w lo hi = halves_are story k n beside same_own (ap (λ (y : Session). y.is_half_aborted) session) w ∙ (come.halves w lo (let e = p.same.0 in omega arith) ∙ p.halves w lo hi)

          -- ## And a pair was met

          module _ (ready_k : IsReady story k) (logged : HasLogs n.machine) (key value : ℕ) (d : HasMet own (view_of k) (view_of n) at (met.Pair key value)) (fewer : scan.met < 64) where
            abbrev page : ℕ
            page = d.page

            abbrev rows : List ℕ
            rows = rows_met (opening (view_of k).given) (state (view_of k)).core page at

            abbrev told : List Event
            told = walk_of (opening (view_of k).given) (state (view_of k)).core own page at (met.Pair key value)

            abbrev L : List happening.Event
            L = locks own rows

            abbrev last : happening.Event
            last = happening.Event.Next own page at (MapAnswer.Pair key value)

            abbrev first : List happening.Event
            first = A ++ (B ++ L)

            abbrev es : List Event
            es = p.events ++ (come.events ++ told)

            part : Part x.workers es v (view_of n) (memory m) (memory n) old (story n.machine.work.disk)
            part = (joins_at l story lawful m.machine.work.disk u.machine.work.disk n.machine.work.disk x.workers p.events v (view_of u) (view_of n) (memory m) (memory u) (memory n)).join (come.events ++ told) p.part
                ((joins_at l story lawful u.machine.work.disk k.machine.work.disk n.machine.work.disk x.workers come.events (view_of u) (view_of k) (view_of n) (memory u) (memory k) (memory n)).join told came
                (walk_part l story lawful x.workers own at (met.Pair key value) k n beside same_own d))

            arrange : A ++ (B ++ (L ++ last ∷ [])) ≡ first ++ last ∷ []
            arrange = ap (λ ys. A ++ ys) (sym (append_assoc B L (last ∷ []))) ∙ sym (append_assoc A (B ++ L) (last ∷ []))

            events_are : events_of es ≡ first ++ last ∷ []
            events_are = events_more p.events (come.events ++ told) ∙ (ap (λ ys. A ++ ys) (events_more come.events told ∙ ap (λ ys. B ++ ys) (events_walk own page at rows (met.Pair key value))) ∙ arrange)

            all_met : AllMet g there (first ++ last ∷ [])
            all_met = subst (AllMet g there) events_are (part.logged g xs [] b0).met

            rows_are : (s : State) → s ≡ mid → rows ≡ rows_met g s page at
            rows_are s e i = map (sym b2.opens.locks i) (met_keys (sym b2.opens.format i) at (((mid_is ∙ sym e) i).page page).node.pairs)

            takes : TakesMet g there start [] (first ++ last ∷ []) IsTold
            takes = subst (λ ys. TakesMet g there start [] ys IsTold) arrange (way_takes (L ++ last ∷ []) IsTold (λ s e. walk_takes g own page at (MapAnswer.Pair key value) IsTold rows [] s (rows_are s e) refl))

            walks_by : (Q : ℕ → Type 0) → Q (suc key) → Walks own start (keep is_step (first ++ last ∷ [])) Q
            walks_by Q q = subst (λ ys. Walks own start (keep is_step ys) Q) arrange (way_walks (L ++ last ∷ []) Q (subst (λ ys. Walks own at ys Q) (sym (walk_steps own page at rows (MapAnswer.Pair key value))) (walk_walks own page at rows key value Q q)))

            pages_are : (behind_first g xs first).page ≡ (state (view_of k)).core.page
            pages_are = ap (λ (s : State). s.page) (run_more g there A (B ++ L) ∙ run_more g (run g there A) B L) ∙ ((locks_there g own rows mid).0 ∙ ap (λ (s : State). s.page) (sym mid_is))

            pair : IsPair g xs first page key value
            pair = (λ i. value_in (b2.opens.format i) (pages_are i page).node key) ∙ d.leaf.1

            is_scan : (e : Deed) (us : List Unsaid) → MayCome xs (record { session = own; deed = e; unsaid = us }) → ScansRows g own (outcomes xs) there e (first ++ last ∷ []) → IsScan g xs (scanned_by own e us (pair_behind first own page at key value)) first
            is_scan e us may scans = record {
              comes = may;
              met = all_met;
              rows = scans;
              gaps = way_gaps L (subst PassesGaps (sym (locks_steps own rows)) (locks_pass own rows));
              structure = way_structure L (locks_structure own rows);
              syncs = way_syncs L (locks_syncs (IsTightSomewhere g) g own rows mid);
            }

            whole_is : IsWhole xs own
            whole_is = half_is ∙ whole

            few_all : length es ≤ 2 ^ 26
            few_all =
                let a = length-append p.events (come.events ++ told) in
                let b = length-append come.events told in
                let e = walk_long own rows (Next own page at (told_of (met.Pair key value))) in
                let f = few_walk own at (met.Pair key value) k n d story ready_k in
                let h = passed_few in
                let i = come.few in
                omega arith

            structure_all : any is_structure (events_of es) ≡ false
            structure_all = subst (λ ys. any is_structure ys ≡ false) (sym events_are) (any_append is_structure first (last ∷ []) (way_structure L (locks_structure own rows)) refl)

            -- it is told
            pub met_pair : key ≤ scan.to → Did (answer.Pair key value) n
            met_pair le =
                let e = Met scan.from scan.to key value (is_alone g xs first own key) in
                answered_by n es part logged all_many all_halves structure_all few_all e [] (answer.Pair key value) refl refl refl
                (subst (λ ys. Tells limits g x.group xs (scanned_by own e [] ys)) (sym events_are)
                ((answers limits g x.group xs).met first own page at scan.from scan.to key value (is_scan e [] (comes e [] refl tt) takes) pair whole_is le
                (let a = stands.met in let b = fewer in let k : met_last (outcomes xs) < 64 = omega arith in k) (walks_by (λ j. j ≡ suc key) refl)))
                (λ why q. absurd (cc))

            -- it is behind the last key, and nobody is told
            pub beyond_pair : scan.to < key → Did answer.End n
            beyond_pair lt =
                let e = Over scan.from scan.to in
                let us = unsaid_pair g xs first own key value ∷ [] in
                answered_by n es part logged all_many all_halves structure_all few_all e us answer.End refl refl refl
                (subst (λ ys. Tells limits g x.group xs (scanned_by own e us ys)) (sym events_are)
                ((answers limits g x.group xs).beyond first own page at scan.from scan.to key value (is_scan e us (comes e us refl tt) takes) pair lt
                (λ full. let a : met_last (outcomes xs) ≡ 64 = full in let b = stands.met in let f = fewer in absurd (omega arith)) (walks_by (λ j. scan.to < j) (omega arith))))
                (λ why q. absurd (cc))

        -- ## It is refused behind the first rows

        module _ (n : PagedMachine D) (now : IsReady story n) (es : List Event) (rows : List ℕ) (events_are : events_of es ≡ A ++ (B ++ locks own rows)) (part : Part x.workers es v (view_of n) (memory m) (memory n) old (story n.machine.work.disk)) (many : AreAsMany m.machine n.machine)
            (same : (w : ℕ) → 0 < w → w ≤ x.workers → (desk_of (here n.machine) n.machine.desks.items w).session.is_half_aborted ≡ (desk_of (here m.machine) m.machine.desks.items w).session.is_half_aborted) (few : length es ≤ 2 ^ 26) where
          abbrev pub F : List happening.Event
          F = A ++ (B ++ locks own rows)

          pub b3 : Behind g xs F (view_of n)
          b3 = subst (λ ys. Behind g xs ys (view_of n)) events_are (behind_more g xs [] v b0 es (view_of n) part.given part.seen (part.logged g xs [] b0).met)

          -- the state there
          pub last_is : (state (view_of n)).core ≡ behind_first g xs F
          last_is = core_is l.reached l.needs g xs F (view_of n) b3

          steps_to : (s : State) → s ≡ mid → run g s (locks own rows) ≡ (state (view_of n)).core
          steps_to s e = ap (λ t. run g t (locks own rows)) e ∙ (sym (run_more g there A (B ++ locks own rows) ∙ run_more g (run g there A) B (locks own rows)) ∙ sym last_is)

          pub way_to : (s : State) (taken rest : List ℕ) → s ≡ mid → IsWay (opening (view_of n).given) (state (view_of n)).core at taken rest → IsWay g (run g s (locks own rows)) at taken rest
          way_to s taken rest e k = way_as g (opening (view_of n).given) (state (view_of n)).core (run g s (locks own rows)) at taken rest b3.opens.format b3.opens.locks (steps_to s e) k

          walks_all : Walks own start (keep is_step F) (λ j. Unit {0})
          walks_all = way_walks (locks own rows) (λ j. Unit {0}) (subst (λ ys. Walks own at ys (λ j. Unit {0})) (sym (locks_steps own rows)) (locks_walk own at rows (λ j. Unit {0}) tt))

          gaps_all : PassesGaps (keep is_step F)
          gaps_all = way_gaps (locks own rows) (subst PassesGaps (sym (locks_steps own rows)) (locks_pass own rows))

          stop_structure : any is_structure F ≡ false
          stop_structure = way_structure (locks own rows) (locks_structure own rows)

          syncs_all : SyncsWhere (IsTightSomewhere g) g there false F
          syncs_all = way_syncs (locks own rows) (locks_syncs (IsTightSomewhere g) g own rows mid)

          stop_met : AllMet g there F
          stop_met = subst (AllMet g there) events_are (part.logged g xs [] b0).met

          -- by why
          stopped : (why : Refusal) → Tries g own (outcomes xs) c why (keep is_step F) → StopsOnWay g own (outcomes xs) there c why F → IsCause limits g (front xs ++ F) (behind_first g xs F) (is_half (marks_by own (outcomes xs))) own c why
              → SyncsWhere (IsPressedYet g c why) g there false F → IsRefusedFor g (state_after g (front xs ++ F)) own (is_half_done own xs) log c why → Did (answer.Refused why) n
          stopped why tries scans cause due is_for =
              answered_by n es part now.logged many same (subst (λ ys. any is_structure ys ≡ false) (sym events_are) stop_structure) few (Refused c why []) [] (answer.Refused why) refl refl refl
              (subst (λ ys. Tells limits g x.group xs (scanned_by own (Refused c why []) [] ys)) (sym events_are) tells)
              (λ q e. subst (λ ys. IsRefusedFor g (state_after g (front xs ++ ys)) own (is_half_done own xs) log c q) (sym events_are) (subst (λ (r : Refusal). IsRefusedFor g (state_after g (front xs ++ F)) own (is_half_done own xs) log c r) (refused_is why q e) is_for))
            where
              refused_is : (a b : Refusal) → answer.Refused a ≡ answer.Refused b → a ≡ b
              refused_is a b e = cc

              may : MayCome xs (refused_by own c why F).outcome
              may = comes (Refused c why []) [] refl tt

              no_one : (b : Bool) → ◌≡◌ {A = List Mark} [] (cond b [] [])
              no_one true = refl
              no_one false = refl

              tells : Tells limits g x.group xs (refused_by own c why F)
              tells = record {
                met = stop_met;
                fresh = fresh_none g there F (gaps_none F gaps_all);
                told = λ w. marks_none g there F w [] (gaps_none F gaps_all) ∙ no_one (own == w);
                in_turn = tt;
                steps = (refl, subst (λ (e : Call). MayPutBack e why []) (sym asks) refl, subst (λ (e : Call). Tries g own (outcomes xs) e why (keep is_step F)) (sym asks) tries);
                scans = subst (λ (e : Call). StopsOnWay g own (outcomes xs) there e why F) (sym asks) scans;
                hindered = may.hindered;
                goes_on = may.goes_on;
                structure = λ _. stop_structure;
                logs = subst (λ (e : Call). SyncsWhere (IsPressedYet g e why) g there false F) (sym asks) due;
                refused = (F, [], sym (append-nil F), cause);
                released = λ e. absurd (true≢false (sym e));
              }

          -- another session has the row of the next entry
          pub conflict : (h : ℕ) → IsHinderedNext (opening (view_of n).given) own h (state (view_of n)).core at rows → Did (answer.Refused (refusal.Conflict h)) n
          conflict h hinders = stopped (refusal.Conflict h) walks_all (way_takes (locks own rows) (IsHinderedNext g own h) (λ s e. locks_take g own at (IsHinderedNext g own h) rows [] s (hindered_at s e))) cause syncs_all (inr (inr tt))
            where
              hindered_at : (s : State) → s ≡ mid → IsHinderedNext g own h (run g s (locks own rows)) at rows
              hindered_at s e = (hinders.0, hinders.1, way_to s rows (hinders.0 ∷ hinders.1) e hinders.2, subst (λ (t : State). Hinders (t.row hinders.0) own happening.Mode.Shared h) (sym (steps_to s e)) hinders.3)

              way_here : IsWay g (behind_first g xs F) at rows (hinders.0 ∷ hinders.1)
              way_here = way_as g (opening (view_of n).given) (state (view_of n)).core (behind_first g xs F) at rows (hinders.0 ∷ hinders.1) b3.opens.format b3.opens.locks (sym last_is) hinders.2

              cause : IsCause limits g (front xs ++ F) (behind_first g xs F) (is_half (marks_by own (outcomes xs))) own c (refusal.Conflict h)
              cause =
                  let s = behind_first g xs F in
                  let ps = (s.page way_here.page).node.pairs in
                  let r = key_of_row g.row_of (met_keys g.format at ps) rows hinders.0 hinders.1 way_here.rows in
                  let a = met_above g.format at ps r.0 r.1 in
                  let b = low_at in
                  let e = within.low in
                  (r.0, omega arith, subst (λ i. Hinders (s.row i) own happening.Mode.Shared h) (sym r.2) (subst (λ (t : State). Hinders (t.row hinders.0) own happening.Mode.Shared h) last_is hinders.3))

          -- a latch is spent
          pub spent : IsOnWay (opening (view_of n).given) (state (view_of n)).core at rows → 2 ^ 61 ≤ length (front xs ++ F) → Did (answer.Refused refusal.RowSpent) n
          spent way many_events = stopped refusal.RowSpent walks_all (way_takes (locks own rows) (IsOnWay g) (λ s e. locks_take g own at (IsOnWay g) rows [] s (on_way s e way))) many_events syncs_all (inr (inl refl))
            where
              on_way : (s : State) → s ≡ mid → IsOnWay (opening (view_of n).given) (state (view_of n)).core at rows → IsOnWay g (run g s (locks own rows)) at rows
              on_way s e (inl none) = inl none
              on_way s e (inr k) = inr (k.0, way_to s rows k.0 e k.1)

        -- ## By what stopped the walk

        -- rows were taken
        module _ (n : PagedMachine D) (now : IsReady story n) (beside : IsBeside k n) (session : IsButRows k.machine.work.session n.machine.work.session) (rows : List ℕ) (t : HasTaken own rows (view_of k) (view_of n)) (sixty : length rows ≤ 60) where
          abbrev taken_es : List Event
          taken_es = p.events ++ (come.events ++ takes_of own rows)

          taken_part : Part x.workers (takes_of own rows) (view_of k) (view_of n) (memory k) (memory n) (story k.machine.work.disk) (story n.machine.work.disk)
          taken_part = as_beside l story lawful k n beside (same_own n beside session) (λ q s. Part x.workers (takes_of own rows) (view_of k) (view_of n) (memory k) q (story k.machine.work.disk) s)
              ((steps_at l story lawful k.machine.work.disk x.workers (view_of k) (view_of n) (memory k)).rest (takes_of own rows) (record { given = t.given; seen = t.seen; met = t.met }) (quiet_takes own rows))

          part_taken : Part x.workers taken_es v (view_of n) (memory m) (memory n) old (story n.machine.work.disk)
          part_taken = (joins_at l story lawful m.machine.work.disk u.machine.work.disk n.machine.work.disk x.workers p.events v (view_of u) (view_of n) (memory m) (memory u) (memory n)).join (come.events ++ takes_of own rows) p.part
              ((joins_at l story lawful u.machine.work.disk k.machine.work.disk n.machine.work.disk x.workers come.events (view_of u) (view_of k) (view_of n) (memory u) (memory k) (memory n)).join (takes_of own rows) came taken_part)

          taken_are : events_of taken_es ≡ A ++ (B ++ locks own rows)
          taken_are = events_more p.events (come.events ++ takes_of own rows) ∙ ap (λ ys. A ++ ys) (events_more come.events (takes_of own rows) ∙ ap (λ ys. B ++ ys) (events_takes own rows))

          taken_few : length taken_es ≤ 2 ^ 26
          taken_few =
              let a = length-append p.events (come.events ++ takes_of own rows) in
              let b = length-append come.events (takes_of own rows) in
              let e = takes_long own rows in
              let f = sixty in
              let h = passed_few in
              let i = come.few in
              omega arith

          pub walk_conflict : (h : ℕ) → IsHinderedNext (opening (view_of n).given) own h (state (view_of n)).core at rows → Did (answer.Refused (refusal.Conflict h)) n
          walk_conflict h hinders = conflict n now taken_es rows taken_are part_taken (all_many n beside session) (all_halves n beside session) taken_few h hinders

          pub walk_spent : IsOnWay (opening (view_of n).given) (state (view_of n)).core at rows → 2 ^ 61 ≤ length (view_of n).seen → Did (answer.Refused refusal.RowSpent) n
          walk_spent way many = spent n now taken_es rows taken_are part_taken (all_many n beside session) (all_halves n beside session) taken_few way
              (spent_end g xs (A ++ (B ++ locks own rows)) (view_of n) (b3 n now taken_es rows taken_are part_taken (all_many n beside session) (all_halves n beside session) taken_few) many)

        -- none was, since a page did not come
        pub come_spent : IsReady story k → IsSpent u k → Did (answer.Refused refusal.RowSpent) k
        come_spent now s = spent k now (p.events ++ come.events) [] are part many same few (inl refl) (late s)
          where
            are : events_of (p.events ++ come.events) ≡ A ++ (B ++ [])
            are = events_more p.events come.events ∙ ap (λ ys. A ++ ys) (sym (append-nil B))

            part : Part x.workers (p.events ++ come.events) v (view_of k) (memory m) (memory k) old (story k.machine.work.disk)
            part = (joins_at l story lawful m.machine.work.disk u.machine.work.disk k.machine.work.disk x.workers p.events v (view_of u) (view_of k) (memory m) (memory u) (memory k)).join come.events p.part came

            many : AreAsMany m.machine k.machine
            many = (come.same.0 ∙ p.same.0, come.same.1 ∙ p.same.1)

            same : (w : ℕ) → 0 < w → w ≤ x.workers → (desk_of (here k.machine) k.machine.desks.items w).session.is_half_aborted ≡ (desk_of (here m.machine) m.machine.desks.items w).session.is_half_aborted
            same w lo hi = come.halves w lo (let e = p.same.0 in omega arith) ∙ p.halves w lo hi

            few : length (p.events ++ come.events) ≤ 2 ^ 26
            few = let a = length-append p.events come.events in let h = passed_few in let i = come.few in omega arith

            late : IsSpent u k → 2 ^ 61 ≤ length (front xs ++ (A ++ (B ++ [])))
            late (inl old) = late_end l.reached l.needs g xs (A ++ (B ++ [])) (view_of k) (subst (λ ys. Behind g xs (A ++ ys) (view_of k)) (sym (append-nil B)) b2) old
            late (inr h) =
                let e = workers in
                let o = p.same.0 in
                let f = h.high in
                let in_g : h.session ≤ g.workers = omega arith in
                let in_x : h.session ≤ x.workers = omega arith in
                let a = half_late g x.group xs (tied.ties own).told h.session (halves h.session h.low in_g ∙ (sym (p.halves h.session h.low in_x) ∙ h.half)) in
                let b = length-append (front xs) (A ++ (B ++ [])) in
                omega arith

      -- ## Its disk fails

      module _ (n : PagedMachine D) (f : FailsWarm story u n) where
        warm : Failed x.workers true true f.failed.events (view_of u) (memory u) (story u.machine.work.disk) (story n.machine.work.disk)
        warm = failed_from x.workers true true f.failed.events (view_of u) (view_of f.between) (memory u) (story u.machine.work.disk) (story n.machine.work.disk) f.still.given f.still.seen
            (subst (λ (d : D). Failed x.workers true true f.failed.events (view_of f.between) (memory u) (story d) (story n.machine.work.disk)) f.still.beside.disk
            (subst (λ (q : Memory). Failed x.workers true true f.failed.events (view_of f.between) q (story f.between.machine.work.disk) (story n.machine.work.disk)) (memory_is story u f.between f.still.beside (ap (λ (y : Session). y.own) f.still.session))
            (subst (λ w. Failed w true true f.failed.events (view_of f.between) (memory f.between) (story f.between.machine.work.disk) (story n.machine.work.disk)) (ap (λ (y : Session). y.workers) f.still.session ∙ p.same.0) f.failed.failed)))

        failed : Failed x.workers (any is_save A || true) (any is_sync A || true) (A ++ f.failed.events) v (memory m) old (story n.machine.work.disk)
        failed = (joins_at l story lawful m.machine.work.disk u.machine.work.disk n.machine.work.disk x.workers p.events v (view_of u) v (memory m) (memory u) (memory u)).failed true true f.failed.events p.part warm

        saves : may_save xs c ≡ true
        saves = ap looks asks

        room : IsRoomFor g xs own (call_behind (outcomes xs) c) (A ++ f.failed.events)
        room = subst (λ (d : Call). IsRoomFor g xs own d (A ++ f.failed.events)) (sym asks) (
          (
            all_more (λ e. walks own e || is_paging e) A f.failed.events p.walking (moves_walk own f.failed.events f.failed.paging),
            any_append is_structure A f.failed.events p.structure (structure_of f.failed.events f.failed.paging),
          ),
          (let a = length-append A f.failed.events in let b = length_events p.events in let h = passed_few in let i = f.failed.few in let k : length (A ++ f.failed.events) ≤ 2 ^ 26 = omega arith in k),
        )

        pub fault : Fails g x.group xs own c (memory m) old (story n.machine.work.disk)
        fault = (end_laws g x.group xs v (memory m) tied x.workers own c old (story n.machine.work.disk) workers).fails (any is_save A || true) (any is_sync A || true) (A ++ f.failed.events) failed (λ _. saves) (λ _. ap (λ b. b || needs_sync g xs own c) saves) room

      -- the disk stands for no run, where a page of it is damaged
      pub never : StandsNowhere story u → StandsNot g x.group xs (memory m) old
      never nowhere s0 k b o =
          let r = p.part.goes g xs [] b0 s0 k (subst (λ ys. Stands g ys s0 k old) (sym (append-nil (front xs))) b.stands) o in
          nowhere g xs A b1 s0 r.known r.moved.stands r.has

-- ## In each run

-- a way has no more entries than a leaf
way_sixty : {D : Type 0} (story : D → Story) (n : PagedMachine D) → IsReady story n → (at : ℕ) (rows rest : List ℕ) → IsWay (opening (view_of n).given) (state (view_of n)).core at rows rest → length rows ≤ 60
way_sixty story n now at rows rest k =
    let p = and_parts (ltb k.page (opening (view_of n).given).format.pages) (holds ((state (view_of n)).core.page k.page).node at) k.leaf in
    let a = leaf_few story n now k.page at (ltb-true k.page (opening (view_of n).given).format.pages p.0) p.1 in
    let b = ap (λ (ks : List ℕ). length ks) k.rows in
    let e = length-append rows rest in
    omega arith

on_way_sixty : {D : Type 0} (story : D → Story) (n : PagedMachine D) → IsReady story n → (at : ℕ) (rows : List ℕ) → IsOnWay (opening (view_of n).given) (state (view_of n)).core at rows → length rows ≤ 60
on_way_sixty story n now at rows (inl none) = let a = ap (λ (ks : List ℕ). length ks) none in omega arith
on_way_sixty story n now at rows (inr k) = way_sixty story n now at rows k.0 k.1

module _ (l : Grounds) (answers : EveryAnswer) (coming : EveryComing) (frames : EveryFrame) {D : Type 0} (story : D → Story) (lawful : (d : D) → IsLawful (story d)) (m : PagedMachine D) (ready : IsReady story m) (scan : Scan) (within : IsIn scan) where
  abbrev pub Does : Result Answer Unanswered → PagedMachine D → Type 0
  Does a n = CallDoes story (StandsAt m.machine.work.session.own scan) m.machine.work.session.own (call.Scan scan.from scan.to) a m n

  pub scan_closed : is_going m.machine.work.session ≡ false → Does (Ok (answer.Refused refusal.NoTransaction)) m
  scan_closed shut g xs workers tied halves stands = not_begun l answers coming frames story lawful m ready scan within g xs workers tied halves stands shut

  module _ (is_open : m.machine.work.session.is_open ≡ true) (whole : m.machine.work.session.is_half_aborted ≡ false) where
    pub scan_above : scan.to < scan.at → Does (Ok answer.End) m
    scan_above lt g xs workers tied halves stands = above l answers coming frames story lawful m ready scan within g xs workers tied halves stands is_open whole lt

    pub scan_paused : scan.met ≡ 64 → scan.at ≤ scan.to → Does (Ok (answer.More scan.at)) m
    scan_paused full le g xs workers tied halves stands = paused l answers coming frames story lawful m ready scan within g xs workers tied halves stands is_open whole full le

    module _ (n : PagedMachine D) (fewer : scan.met < 64) (le : scan.at ≤ scan.to) where
      pub scan_pair : (key value : ℕ) → IsReady story n → Nexts story scan.at scan.to (Ok (Some (key, value))) m n → Does (Ok (answer.Pair key value)) n
      scan_pair key value now q g xs workers tied halves stands =
          let b = q.1 in
          let t = b.is in
          met_pair l answers coming frames story lawful m ready scan within g xs workers tied halves stands is_open whole b.at b.low b.between b.passed t.between t.come n t.beside t.session t.ready now.logged key value
          (subst (λ w. HasMet w (view_of t.between) (view_of n) b.at (met.Pair key value)) b.passed.turn t.is) fewer q.0

      pub scan_over : IsReady story n → Nexts story scan.at scan.to (Ok None) m n → Does (Ok answer.End) n
      scan_over now (inl q) g xs workers tied halves stands =
          let a = le in let b = q.1 in
          gaps_over l answers coming frames story lawful m ready scan within g xs workers tied halves stands is_open whole q.0 (omega arith) n q.2 now.logged fewer q.1
      scan_over now (inr q) g xs workers tied halves stands =
          let b = q.3 in
          let t = b.is in
          beyond_pair l answers coming frames story lawful m ready scan within g xs workers tied halves stands is_open whole b.at b.low b.between b.passed t.between t.come n t.beside t.session t.ready now.logged q.0 q.1
          (subst (λ w. HasMet w (view_of t.between) (view_of n) b.at (met.Pair q.0 q.1)) b.passed.turn t.is) fewer q.2

      pub scan_refused : (why : Unserved) → (works_behind {A = Unit {0}} (Err why) ≡ true → IsReady story n) → Nexts story scan.at scan.to (Err why) m n → Does (unserved_answer why) n
      scan_refused (unserved.Refused (refusal.Conflict h)) ready_n b g xs workers tied halves stands =
          let now = ready_n refl in
          let t = b.is in
          let d = subst (λ w. HasMetConflict w (view_of t.between) (view_of n) b.at h) b.passed.turn t.is in
          walk_conflict l answers coming frames story lawful m ready scan within g xs workers tied halves stands is_open whole b.at b.low b.between b.passed t.between t.come n now t.beside t.session d.rows d.taken
          (way_sixty story n now b.at d.rows (d.hindered.0 ∷ d.hindered.1) d.hindered.2) h d.hindered
      scan_refused (unserved.Refused refusal.RowSpent) ready_n b g xs workers tied halves stands = go b.is
        where
          go : IsSpentWarm story b.at b.between n → DoesTied g m.machine.work.session.group xs m.machine.work.session.own (call.Scan scan.from scan.to) (answer.Refused refusal.RowSpent) (memory m) n (story m.machine.work.disk) (story n.machine.work.disk)
          go (inl t) =
              let now = ready_n refl in
              let d = subst (λ w. HasMetSpent w (view_of t.between) (view_of n) b.at) b.passed.turn t.is in
              walk_spent l answers coming frames story lawful m ready scan within g xs workers tied halves stands is_open whole b.at b.low b.between b.passed t.between t.come n now t.beside t.session d.rows d.taken
              (on_way_sixty story n now b.at d.rows d.way) d.way d.many
          go (inr q) = come_spent l answers coming frames story lawful m ready scan within g xs workers tied halves stands is_open whole b.at b.low b.between b.passed n q.0 (ready_n refl) q.1
      scan_refused (unserved.Unanswered unanswered.DiskFault) ready_n b g xs workers tied halves stands = fault l answers coming frames story lawful m ready scan within g xs workers tied halves stands is_open whole b.at b.low b.between b.passed n b.is
      scan_refused (unserved.Unanswered (unanswered.Damaged place)) ready_n b g xs workers tied halves stands = (
        fault l answers coming frames story lawful m ready scan within g xs workers tied halves stands is_open whole b.at b.low b.between b.passed n b.is.0,
        never l answers coming frames story lawful m ready scan within g xs workers tied halves stands is_open whole b.at b.low b.between b.passed b.is.1,
      )
      scan_refused _ ready_n b g xs workers tied halves stands = absurd b

-- ## By answer

-- by another name of what was met
pub next_as : {D : Type 0} (story : D → Story) (from to : ℕ) (m n : PagedMachine D) (a b : Option (ℕ × ℕ)) → a ≡ b → Nexts story from to (Ok a) m n → Nexts story from to (Ok b) m n
next_as story from to m n a b e k = subst (λ (o : Option (ℕ × ℕ)). Nexts story from to (Ok o) m n) e k

-- the seat is that of the rows still
pub fits_refused : {D : Type 0} (story : D → Story) (from to : ℕ) (m n : PagedMachine D) (why : Unserved) → (works_behind {A = Unit {0}} (Err why) ≡ true → IsReady story n) → Nexts story from to (Err why) m n → SeatFits n.machine
fits_refused story from to m n (unserved.Refused (refusal.Conflict h)) ready b = (ready refl).sound.fits
fits_refused story from to m n (unserved.Refused refusal.RowSpent) ready b = (ready refl).sound.fits
fits_refused story from to m n (unserved.Unanswered unanswered.DiskFault) ready b = b.is.failed.fits
fits_refused story from to m n (unserved.Unanswered (unanswered.Damaged place)) ready b = b.is.0.failed.fits
fits_refused story from to m n _ ready b = absurd b

-- why it is refused may come, a conflict where there are several sessions
pub come_refused : {D : Type 0} (story : D → Story) (from to : ℕ) (m n : PagedMachine D) (workers : ℕ) (why : Unserved) → (workers ≡ 1 → NoOther why) → Nexts story from to (Err why) m n → MayRefuse workers why ⊎ EndsWork why
come_refused story from to m n workers (unserved.Refused (refusal.Conflict h)) only b = inl only
come_refused story from to m n workers (unserved.Refused refusal.RowSpent) only b = inl tt
come_refused story from to m n workers (unserved.Unanswered unanswered.DiskFault) only b = inr refl
come_refused story from to m n workers (unserved.Unanswered (unanswered.Damaged place)) only b = inr refl
come_refused story from to m n workers _ only b = absurd b
