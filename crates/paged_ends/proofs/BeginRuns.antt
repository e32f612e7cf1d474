-- A begin in a run, behind a sync or none: its transaction began, or it was refused.
use Rattle.std.proofs.Common.{◌≡◌, ◌∙◌, ◌≤◌, ◌<◌, ◌^◌, inl, ◌++◌, ℕ, suc, cond, leb, Bool, true, false, List, [], ◌∷◌, length, Some, None, ap, refl, sym, subst, arith}
use Rattle.std.proofs.lemmas.Bool.{leb-true}
use Rattle.std.proofs.lemmas.List.{length-append}
use Rattle.map_model.specs.Lists.{any, keep}
use Rattle.map_model.specs.declared.call.Answer.TheVariants as answer
use Rattle.map_model.specs.declared.call.Call.{Call}
use Rattle.map_model.specs.declared.call.Call.TheVariants as call
use Rattle.map_model.specs.declared.call.Refusal.{Refusal}
use Rattle.map_model.specs.declared.call.Refusal.TheVariants as refusal
use Rattle.rfa_model.specs.Reaches.{least}
use Rattle.paged_desks.specs.core_calls.Deeds.{marks_by}
use Rattle.paged_desks.specs.core_calls.Fronts.{Done, front, outcomes}
use Rattle.paged_desks.specs.core_calls.LogEvents.{Prepares, RefusedLogs, is_log}
use Rattle.paged_desks.specs.core_calls.Marks.{is_half}
use Rattle.paged_desks.specs.core_calls.Refusals.{IsCause}
use Rattle.paged_desks.specs.core_calls.Runs.{Tells}
use Rattle.paged_desks.specs.core_calls.Scans.{StopsOnWay}
use Rattle.paged_desks.specs.core_calls.Steps.{Tries, call_behind, is_step, is_structure}
use Rattle.paged_desks.specs.core_state.Events as happening
use Rattle.paged_desks.specs.core_state.Openings.{Opening}
use Rattle.paged_desks.specs.core_state.States.{State}
use Rattle.paged_desks.specs.core_state.Steps.{AllMet, state_after}
use Rattle.paged_desks.proofs.engine_calls.MarkLemmas.{any_append, keep_none}
use Rattle.paged_desks.specs.engine_calls.Answers.{EveryAnswer}
use Rattle.paged_desks.specs.engine_calls.Begins.{IsBegin, begun_by}
use Rattle.paged_desks.specs.engine_calls.Clauses.{EveryComing, IsNewLine}
use Rattle.paged_desks.specs.engine_calls.Parts.{behind_first}
use Rattle.paged_desks.specs.engine_calls.Refused.{IsRefusal, TakesRows, refused_by}
use Rattle.paged_desks.specs.engine_trait.Calls.{is_half_done}
use Rattle.paged_desks.specs.engine_trait.Limits.{limits}
use Rattle.paged_desks.specs.engine_trait.Refusals.{log_refusal, refusal_in}
use Rattle.lean_disk.specs.Story.{IsLawful, Story}
use Rattle.paged_desks.specs.row_words.declared.event.Event.{Event}
use Rattle.paged_desks.specs.row_words.declared.event.Event.TheVariants as told
use Rattle.paged_desks.specs.row_words.Moments.{events_of}
use Rattle.paged_desks.specs.rows_trait.Views.{state}
use Rattle.paged_desks.proofs.session_state.Moments.{events_more}
use Rattle.paged_desks.specs.session_state.Ties.{Behind}
use Rattle.paged_desks.specs.session_state.declared.session.Session.{Session}
use Rattle.paged_desks.proofs.session_desks.DeskLemmas.{desk_own}
use Rattle.paged_desks.specs.session_desks.Desks.{desk_of}
use Rattle.paged_desks.specs.session_desks.Parts.{AreAsMany, here}
use Rattle.paged_desks.specs.session_desks.declared.desk.Desk.{Desk}
use Rattle.paged_desks.specs.worker_log.Logs.{Log, limit, used}
use Rattle.paged_desks.proofs.call_parts.RunLemmas.{behind_more, core_is}
use Rattle.paged_desks.specs.call_parts.Deeds.{Answers, HasNoneToGo}
use Rattle.paged_desks.specs.call_parts.Rooms.{ChangesTree}
use Rattle.paged_desks.specs.call_parts.Parts.{Part}
use Rattle.paged_desks.specs.Calls.{AreHalf, DoesTied, Tied}
use Rattle.paged_desks.specs.Machines.{IsReady, memory, view_of}
use Rattle.paged_desks.specs.declared.machine.PagedMachine.{PagedMachine}
use Rattle.paged_desks.proofs.AsideLemmas.{other_desk}
use Rattle.paged_desks.proofs.EndingLemmas.{Grounds, begins, does_tied, grows_none, half_own, line_call, none_to_go, refused_tied}
use Rattle.paged_desks.proofs.Moments.{length_events}
use Rattle.paged_ends.proofs.BeginStands.{begin_part, join_parts, same_begun}
use Rattle.paged_ends.specs.Pieces.{HasBegun}

begun_refused : (n : ℕ) (why : Refusal) → answer.Begun n ≡ answer.Refused why → ⊥
begun_refused n why e = absurd (cc)

some_is : (r q : Refusal) → Some r ≡ Some q → r ≡ q
some_is r q e = cc

none_is : (r : Refusal) → None ≡ Some r → ⊥
none_is r e = absurd (cc)

-- From m on these events came, for a sync or none, up to p, of whose sessions the same aborts are half done.
pub record Comes {D : Type 0} (story : D → Story) (m p : PagedMachine D) (es : List Event) : Type 0 where
  pub part : Part m.machine.work.session.workers es (view_of m) (view_of p) (memory m) (memory p) (story m.machine.work.disk) (story p.machine.work.disk)
  pub steps : any is_step (events_of es) ≡ false
  pub structure : any is_structure (events_of es) ≡ false
  pub few : length es ≤ 17
  pub turn : p.machine.work.session.own ≡ m.machine.work.session.own
  pub same : AreAsMany m.machine p.machine
  pub halves : (w : ℕ) → 0 < w → w ≤ m.machine.work.session.workers → (desk_of (here p.machine) p.machine.desks.items w).session.is_half_aborted ≡ (desk_of (here m.machine) m.machine.desks.items w).session.is_half_aborted

module _ (l : Grounds) (answers : EveryAnswer) (coming : EveryComing) {D : Type 0} (story : D → Story) (lawful : (d : D) → IsLawful (story d)) (m p : PagedMachine D) (g : Opening) (xs : List Done) (many : g.workers ≡ m.machine.work.session.workers)
    (tied : Tied g m.machine.work.session.group xs (view_of m) (memory m)) (halves : AreHalf g.workers xs m.machine) (line : IsNewLine (outcomes xs)) (es : List Event) (c : Comes story m p es)
    (low : 0 < m.machine.work.session.own) (high : m.machine.work.session.own ≤ m.machine.work.session.workers) where
  abbrev own : ℕ
  own = m.machine.work.session.own

  abbrev group : ℕ
  group = m.machine.work.session.group

  abbrev first : List happening.Event
  first = events_of es

  asks : call_behind (outcomes xs) call.Begin ≡ call.Begin
  asks = line_call xs call.Begin line

  start : Behind g xs [] (view_of m)
  start = begins g group xs (view_of m) (memory m) tied

  pub at_p : Behind g xs first (view_of p)
  at_p = behind_more g xs [] (view_of m) start es (view_of p) c.part.given c.part.seen (c.part.logged g xs [] start).met

  abbrev s : State
  s = behind_first g xs first

  core_p : (state (view_of p)).core ≡ s
  core_p = core_is l.reached l.needs g xs first (view_of p) at_p

  -- ## It began

  module _ (n : PagedMachine D) (ready_p : IsReady story p) (ready_n : IsReady story n) (number : ℕ) (b : HasBegun p n number) (prepares : Prepares false limits g xs own (keep is_log first))
      (free : (q : Refusal) → refusal_in g (state_after g (front xs)) own (is_half_done own xs) ((memory m).log own) call.Begin ≡ Some q → ⊥) where
    abbrev o : ℕ
    o = p.machine.work.session.own

    abbrev f : ℕ
    f = b.begins.floor

    abbrev all : List Event
    all = es ++ told.Begin o f ∷ []

    part : Part m.machine.work.session.workers all (view_of m) (view_of n) (memory m) (memory n) (story m.machine.work.disk) (story n.machine.work.disk)
    part = join_parts l story lawful m.machine.work.session.workers m p n es (told.Begin o f ∷ []) c.part (begin_part story p n l lawful m.machine.work.session.workers number b)

    abbrev done : Done
    done = begun_by first o number f

    told_is : done.events ≡ events_of all
    told_is = sym (events_more es (told.Begin o f ∷ []))

    is_begin : IsBegin limits g xs first o number f
    is_begin = record {
      line = line;
      steps = c.steps;
      structure = c.structure;
      half = false;
      prepares = subst (λ (w : ℕ). Prepares false limits g xs w (keep is_log first)) (sym c.turn) prepares;
      met = subst (AllMet g (state_after g (front xs))) (sym told_is) (part.logged g xs [] start).met;
      flushed = b.begins.floor_is ∙ (λ i. least (core_p i).flushed (sym at_p.opens.workers i));
      next = b.begins.next ∙ ap (λ (k : State). suc (k.worker o).txn) core_p;
    }

    tells : Tells limits g group xs done
    tells = (answers limits g group xs).begin first o number f is_begin

    abbrev how : Answers g xs done ((memory m).log own)
    how = record {
      few = let a = c.few in let e = length_events es in let d = length-append first (happening.Event.Begin o f ∷ []) in omega arith;
      refused = λ why q. absurd (begun_refused number why q);
      kept = λ why q. absurd (begun_refused number why q);
      refuses = λ why sure q. absurd (free why (subst (λ (w : ℕ). refusal_in g (state_after g (front xs)) w (is_half_done w xs) ((memory m).log own) call.Begin ≡ Some why) c.turn (subst (λ (d : Call). refusal_in g (state_after g (front xs)) o (is_half_done o xs) ((memory m).log own) d ≡ Some why) asks q)));
      still = λ why q. grows_none done.events (any_append is_structure first (happening.Event.Begin o f ∷ []) c.structure refl);
      stays = λ why sure q. any_append is_structure first (happening.Event.Begin o f ∷ []) c.structure refl;
      room = subst (λ (d : Call). ChangesTree o g (state_after g (front xs)) d done.events) (sym asks) (any_append is_structure first (happening.Event.Begin o f ∷ []) c.structure refl);
    }

    n_own : n.machine.work.session.own ≡ own
    n_own = (same_begun story p n number b.begins).0 ∙ c.turn

    own_desk : desk_of (here n.machine) n.machine.desks.items own ≡ here n.machine
    own_desk = desk_own (here n.machine) n.machine.desks.items own (sym n_own)

    others : (w : ℕ) → 0 < w → w ≤ m.machine.work.session.workers → (w ≡ own → ⊥) → (desk_of (here n.machine) n.machine.desks.items w).session.is_half_aborted ≡ (desk_of (here m.machine) m.machine.desks.items w).session.is_half_aborted
    others w lo hi ne = ap (λ (d : Desk). d.session.is_half_aborted)
        (other_desk story p n (record { shape = b.beside.shape; desks = b.beside.desks; latches = b.beside.latches; master = b.beside.master; pager = b.beside.pager }) (same_begun story p n number b.begins) ready_p w lo (let e = c.same.0 in omega arith) (λ q. ne (q ∙ c.turn))) ∙ c.halves w lo hi

    pub began : DoesTied g group xs own call.Begin (answer.Begun number) (memory m) n (story m.machine.work.disk) (story n.machine.work.disk)
    began = does_tied l m n (story m.machine.work.disk) (story n.machine.work.disk) (lawful m.machine.work.disk) g xs many tied halves all part ready_n.logged
        (let k = same_begun story p n number b.begins in (k.1 ∙ c.same.0, k.2 ∙ c.same.1)) own call.Begin (answer.Begun number) done told_is c.turn refl refl tells how
        (half_own own done xs c.turn ∙ sym (ap (λ (d : Desk). d.session.is_half_aborted) own_desk ∙ ap (λ (k : Session). k.is_half_aborted) b.begins.session)) others

  -- ## It was refused

  abbrev refuses_at : List happening.Event → Log → Refusal → Type 0
  refuses_at ys log why = refusal_in g (state_after g (front xs ++ ys)) own (is_half_done own xs) log call.Begin ≡ Some why

  module _ (ready_p : IsReady story p) (log : Log) (why : Refusal) (test : refusal_in g s own (is_half_done own xs) log call.Begin ≡ Some why) (test_was : refuses_at first ((memory m).log own) why)
      (stays : (q : Refusal) → refusal_in g (state_after g (front xs)) own (is_half_done own xs) ((memory m).log own) call.Begin ≡ Some q → why ≡ q)
      (closed : (s.worker own).is_open ≡ false → Prepares false limits g xs own (keep is_log first)) (still_open : (s.worker own).is_open ≡ true → keep is_log first ≡ []) where
    by_cause : (q : Refusal) → q ≡ why → IsCause limits g (front xs ++ first) s (is_half (marks_by own (outcomes xs))) own call.Begin q → RefusedLogs limits g xs own call.Begin q first → IsRefusal limits g xs own call.Begin why first
    by_cause q e cause due = subst (λ (k : Refusal). IsRefusal limits g xs own call.Begin k first) e (record {
      comes = (coming xs (refused_by own call.Begin q first).outcome).new line tt;
      met = (c.part.logged g xs [] start).met;
      rows = subst (TakesRows own) (sym (keep_none is_step first c.steps)) tt;
      tries = subst (λ (d : Call). Tries g own (outcomes xs) d q (keep is_step first)) (sym asks) (keep_none is_step first c.steps);
      scans = subst (λ (d : Call). StopsOnWay g own (outcomes xs) (state_after g (front xs)) d q first) (sym asks) tt;
      structure = λ _. c.structure;
      cause = cause;
      due = due;
    })

    abbrev clock : ℕ
    clock = (s.worker own).clock

    clock_case : (s.worker own).is_open ≡ false → (b : Bool) → leb (2 ^ 62) clock ≡ b → cond b (Some refusal.ClockSpent) None ≡ Some why → IsRefusal limits g xs own call.Begin why first
    clock_case shut true q t = by_cause refusal.ClockSpent (some_is _ why t) (leb-true (2 ^ 62) clock q) (false, closed shut)
    clock_case shut false q t = absurd (none_is why t)

    full_case : (s.worker own).is_open ≡ false → (b : Bool) → cond b (Some (refusal.LogFull (used log) (limit log))) (cond (leb (2 ^ 62) clock) (Some refusal.ClockSpent) None) ≡ Some why → IsRefusal limits g xs own call.Begin why first
    full_case shut true t = by_cause (refusal.LogFull (used log) (limit log)) (some_is _ why t) refl (false, closed shut)
    full_case shut false t = clock_case shut (leb (2 ^ 62) clock) refl t

    open_case : (b : Bool) → (s.worker own).is_open ≡ b → cond b (Some refusal.InTransaction) (log_refusal clock log None) ≡ Some why → IsRefusal limits g xs own call.Begin why first
    open_case true q t = by_cause refusal.InTransaction (some_is _ why t) q (still_open q)
    open_case false q t = full_case q (leb (limit log) (used log)) t

    pub not_begun : DoesTied g group xs own call.Begin (answer.Refused why) (memory m) p (story m.machine.work.disk) (story p.machine.work.disk)
    not_begun = refused_tied l m p (story m.machine.work.disk) (story p.machine.work.disk) (lawful m.machine.work.disk) g xs many tied halves es c.part ready_p.logged c.same answers own call.Begin why refl low high (open_case (s.worker own).is_open refl test)
        (record {
          few = let a = c.few in let e = length_events es in omega arith;
          is_for = inl (subst (λ (d : Call). refusal_in g (state_after g (front xs ++ first)) own (is_half_done own xs) ((memory m).log own) d ≡ Some why) (sym asks) test_was);
          kept = subst (λ (d : Call). HasNoneToGo g (state_after g (front xs ++ first)) d why) (sym asks) (none_to_go g (state_after g (front xs ++ first)) call.Begin why tt);
          refuses = λ q sure e. inl (stays q (subst (λ (d : Call). refusal_in g (state_after g (front xs)) own (is_half_done own xs) ((memory m).log own) d ≡ Some q) asks e));
          still = λ q e. grows_none first c.structure;
          stays = λ q sure e. c.structure;
          room = subst (λ (d : Call). ChangesTree own g (state_after g (front xs)) d first) (sym asks) c.structure;
        }) c.halves
