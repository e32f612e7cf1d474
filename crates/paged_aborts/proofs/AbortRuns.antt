-- An abort in a run to which its machine is tied: which outcome it is, or what is left where its disk failed.
use Rattle.std.proofs.Common.{◌≡◌, ◌∙◌, ◌⊎◌, inl, inr, ◌≤◌, ◌<◌, ◌+◌, ◌*◌, ◌^◌, ◌||◌, ◌++◌, ℕ, Bool, true, false, cond, List, [], length, Some, None, ap, refl, sym, subst, arith, append-nil, true≢false}
use Rattle.std.proofs.lemmas.List.{length-append}
use Rattle.map_model.specs.Histories.{Step}
use Rattle.map_model.specs.Lists.{any}
use Rattle.map_model.specs.declared.call.Answer.TheVariants as answer
use Rattle.map_model.specs.declared.call.Call.{Call}
use Rattle.map_model.specs.declared.call.Call.TheVariants as call
use Rattle.map_model.specs.declared.call.Refusal.{Refusal}
use Rattle.map_model.specs.declared.call.Refusal.TheVariants as refusal
use Rattle.paged_desks.proofs.core_calls.WhereLemmas.{refused_kept}
use Rattle.paged_desks.specs.core_calls.Deeds.{Deed, Outcome, Refused, marks_by}
use Rattle.paged_desks.specs.core_calls.Fronts.{Done, front, outcomes}
use Rattle.paged_desks.specs.core_calls.LogEvents.{IsPressedYet, IsTightSomewhere, RefusedLogs, SyncsWhere}
use Rattle.paged_desks.specs.core_calls.Refusals.{IsHindered}
use Rattle.paged_desks.specs.core_calls.Runs.{EachTells, IsRefused, Tells}
use Rattle.paged_desks.specs.core_calls.Scans.{StopsOnWay}
use Rattle.paged_desks.specs.core_calls.Steps.{IsAbortOf, IsAnAbort, Tries, call_behind, hindered_in}
use Rattle.paged_desks.specs.core_state.Events as happening
use Rattle.paged_desks.specs.core_state.Lists.{is_empty}
use Rattle.paged_desks.specs.core_state.Openings.{Opening}
use Rattle.paged_desks.specs.core_state.States.{State}
use Rattle.paged_desks.specs.core_state.Steps.{AllMet, run, state_after}
use Rattle.paged_desks.specs.disk_runs.Stands.{Stands}
use Rattle.paged_desks.specs.engine_calls.Aborts.{backs_by}
use Rattle.paged_desks.specs.engine_calls.Answers.{EveryAnswer}
use Rattle.paged_desks.specs.engine_calls.Clauses.{EveryComing, MayCome}
use Rattle.paged_desks.specs.engine_calls.Halves.{IsHalved, halved_by}
use Rattle.paged_desks.specs.engine_calls.Refused.{refused_by}
use Rattle.paged_desks.specs.engine_trait.Calls.{due_call, is_half_done}
use Rattle.paged_desks.specs.engine_trait.Limits.{limits}
use Rattle.paged_desks.specs.engine_trait.Refusals.{refusal_in}
use Rattle.paged_desks.specs.engine_trait.Rooms.{needs_sync}
use Rattle.lean_disk.specs.Story.{IsLawful, Story}
use Rattle.paged_desks.specs.page_pool.Counts.{EveryFrame}
use Rattle.paged_desks.specs.row_words.Moments.{events_of}
use Rattle.paged_desks.specs.rows_trait.Views.{state}
use Rattle.paged_desks.proofs.session_desks.DeskLemmas.{desk_own}
use Rattle.paged_desks.proofs.session_desks.SeatLemmas.{holds_of, turn_high, turn_low}
use Rattle.paged_desks.specs.session_desks.Desks.{desk_of}
use Rattle.paged_desks.specs.session_desks.Parts.{HasLogs, here, shape}
use Rattle.paged_desks.specs.session_desks.declared.desk.Desk.{Desk}
use Rattle.paged_desks.specs.session_state.Holds.{Holds}
use Rattle.paged_desks.specs.session_state.Ties.{Behind}
use Rattle.paged_desks.specs.session_state.declared.session.Session.{Session}
use Rattle.paged_desks.specs.worker_log.Logs.{Log}
use Rattle.paged_desks.proofs.call_parts.EndLemmas.{most_least}
use Rattle.paged_desks.proofs.call_parts.RunLemmas.{behind_more, core_is}
use Rattle.paged_desks.proofs.call_parts.StepLemmas.{every_step}
use Rattle.paged_desks.specs.call_parts.Deeds.{Answers, Fails, HasNoneToGo}
use Rattle.paged_desks.specs.call_parts.Parts.{Part}
use Rattle.paged_desks.specs.call_parts.Rooms.{ChangesTree, IsRoomFor, looks, may_save}
use Rattle.paged_desks.proofs.Doing.{hot_few}
use Rattle.paged_desks.proofs.EndingLemmas.{Grounds, begins, does_tied, end_laws, grows_none, half_own, line_call, refused_tied}
use Rattle.paged_desks.proofs.HalfLates.{half_late}
use Rattle.paged_desks.specs.Calls.{AreHalf, DoesTied, StandsNot, Tied}
use Rattle.paged_desks.specs.Machines.{IsReady, memory, view_of}
use Rattle.paged_desks.specs.Parts.{HasHalf, IsLate, StandsNowhere}
use Rattle.paged_desks.specs.declared.machine.PagedMachine.{PagedMachine}
use Rattle.paged_aborts.specs.Aborts.{Asked, Hindered, MayAbort}
use Rattle.paged_aborts.specs.Backs.{HasFailedBack, HasUndone, is_back}
use Rattle.paged_aborts.proofs.AbortEvents.{Backs, backs_of, half_with, told_backs}
use Rattle.paged_aborts.proofs.BackEvents.{length_events}
use Rattle.paged_aborts.proofs.LateLemmas.{late_end}

some_is : (p q : Refusal) → Some p ≡ Some q → p ≡ q
some_is p q e = cc

-- a call that met a conflict is no begin
not_begin : (g : Opening) (group : ℕ) (xs : List Done) (own : ℕ) (is_open : Bool) (c : Call) → MayAbort own is_open c g xs → EachTells limits g group xs → c ≡ call.Begin → ⊥
not_begin g group xs own is_open c (Asked line e) told q = absurd (cc)
not_begin g group xs own is_open c (Hindered going y earlier is hindered other) told q = from_deed y.outcome.deed hindered (subst (λ ys. EachTells limits g group ys) is told).1.refused
  where
    from_deed : (d : Deed) → hindered_in d ≡ Some c → IsRefused limits g earlier y d → ⊥
    from_deed (Refused b (refusal.Conflict h) backs) e r = subst (λ k. IsHindered g (run g (state_after g (front earlier)) r.0) y.outcome.session k h) (call_is b c e ∙ q) r.3
      where
        call_is : (a b : Call) → Some a ≡ Some b → a ≡ b
        call_is a b e = cc
    from_deed (Refused b _ backs) e r = absurd (cc)
    from_deed _ e r = absurd (cc)

module _ (l : Grounds) (answers : EveryAnswer) (coming : EveryComing) (frames : EveryFrame) {D : Type 0} (story : D → Story) (lawful : (d : D) → IsLawful (story d)) (m : PagedMachine D) (ready : IsReady story m) (c : Call) (g : Opening) (xs : List Done) (many : g.workers ≡ m.machine.work.session.workers)
    (tied : Tied g m.machine.work.session.group xs (view_of m) (memory m)) (halves : AreHalf g.workers xs m.machine) (due : MayAbort m.machine.work.session.own m.machine.work.session.is_open c g xs) where
  abbrev x : Session
  x = m.machine.work.session

  abbrev own : ℕ
  own = x.own

  abbrev old : Story
  old = story m.machine.work.disk

  abbrev at : State
  at = state_after g (front xs)

  abbrev log : Log
  log = (memory m).log own

  held : Holds (shape m.machine) (view_of m) x m.machine.work.log
  held = holds_of (shape m.machine) (view_of m) (here m.machine) m.machine.desks.items ready.sound.desks

  pub low : 0 < own
  low = turn_low (shape m.machine) (view_of m) (here m.machine) m.machine.desks.items ready.sound.desks

  pub high : own ≤ x.workers
  high = turn_high (shape m.machine) (view_of m) (here m.machine) m.machine.desks.items ready.sound.desks

  pub b0 : Behind g xs [] (view_of m)
  b0 = begins g x.group xs (view_of m) (memory m) tied

  core_m : (state (view_of m)).core ≡ at
  core_m = core_is l.reached l.needs g xs [] (view_of m) b0

  half_is : is_half_done own xs ≡ x.is_half_aborted
  half_is = halves own low (let e = many in let k = high in omega arith) ∙ ap (λ (d : Desk). d.session.is_half_aborted) (desk_own (here m.machine) m.machine.desks.items own refl)

  pub open_is : (at.worker own).is_open ≡ x.is_open
  open_is = ap (λ (k : State). (k.worker own).is_open) (sym core_m) ∙ held.session.is_open

  -- behind a conflict too it is an abort that is asked
  pub asks : call_behind (outcomes xs) c ≡ call.Abort
  asks = go due
    where
      go : MayAbort own x.is_open c g xs → call_behind (outcomes xs) c ≡ call.Abort
      go (Asked line e) = line_call xs c line ∙ e
      go (Hindered going y earlier is hindered same) = ap (λ ys. call_behind (outcomes ys) c) is ∙ ap (λ d. due_call d c) hindered

  -- it may come, with this outcome
  pub comes : (o : Outcome) → o.session ≡ own → (c ≡ call.Abort → IsAnAbort o.deed) → IsAbortOf c o.deed → MayCome xs o
  comes o same asked of_it = go due
    where
      go : MayAbort own x.is_open c g xs → MayCome xs o
      go (Asked line e) = (coming xs o).new line (asked e)
      go (Hindered going y earlier is hindered other) = subst (λ ys. MayCome ys o) (sym is) ((coming earlier o).abort y c hindered (same ∙ sym other) of_it)

  -- few sessions, and few pages that are hot
  few_by : (n most hot : ℕ) → n + 2 * hot ≤ 2 * Rattle.paged_desks.specs.Pages.hot_in m + most → most ≤ 2 ^ 17 → n ≤ 2 ^ 18
  few_by n most hot h small = let a = hot_few story m ready frames in omega arith

  -- ## It is refused by a test

  pub closed_does : x.is_open ≡ false → DoesTied g x.group xs own c (answer.Refused refusal.NoTransaction) (memory m) m old old
  closed_does closed = refused_tied l m m old old (lawful m.machine.work.disk) g xs many tied halves [] part ready.logged (refl, refl) answers own c refusal.NoTransaction refl low high
      (record {
        comes = asked;
        met = tt;
        rows = tt;
        tries = subst (λ (d : Call). Tries g own (outcomes xs) d refusal.NoTransaction []) (sym asks) refl;
        scans = subst (λ (d : Call). StopsOnWay g own (outcomes xs) at d refusal.NoTransaction []) (sym asks) tt;
        structure = λ _. refl;
        cause = inl (open_is ∙ closed);
        due = refused_kept limits g xs own c refusal.NoTransaction [] (none_due c (not_begin g x.group xs own x.is_open c due (tied.ties own).told)) refl;
      })
      (record {
        few = omega arith;
        is_for = inl (subst (λ (d : Call). refusal_in g (state_after g (front xs ++ [])) own (is_half_done own xs) log d ≡ Some refusal.NoTransaction) (sym asks) (ap (λ ys. refusal_in g (state_after g ys) own (is_half_done own xs) log call.Abort) (append-nil (front xs)) ∙ none));
        kept = tt;
        refuses = λ q sure e. inl (some_is refusal.NoTransaction q (sym none ∙ subst (λ (d : Call). refusal_in g at own (is_half_done own xs) log d ≡ Some q) asks e));
        still = λ q e. refl;
        stays = λ q sure e. refl;
        room = subst (λ (d : Call). ChangesTree own g at d []) (sym asks) refl;
      })
      (λ w lo hi. refl)
    where
      part : Part x.workers [] (view_of m) (view_of m) (memory m) (memory m) old old
      part = (every_step l.reached l.needs l.versions l.kept l.prefixes l.seals old old (lawful m.machine.work.disk) x.workers (view_of m) (view_of m) (memory m)).none

      none : refusal_in g at own (is_half_done own xs) log call.Abort ≡ Some refusal.NoTransaction
      none = ap (λ b. cond b None (Some refusal.NoTransaction)) (open_is ∙ closed)

      -- no transaction was open, so its line asks it
      asked : MayCome xs (refused_by own c refusal.NoTransaction []).outcome
      asked = go due
        where
          go : MayAbort own x.is_open c g xs → MayCome xs (refused_by own c refusal.NoTransaction []).outcome
          go (Asked line e) = (coming xs (refused_by own c refusal.NoTransaction []).outcome).new line (line_done e)
            where
              line_done : c ≡ call.Abort → IsAnAbort (refused_by own c refusal.NoTransaction []).outcome.deed
              line_done e = tt
          go (Hindered going y earlier is hindered other) = absurd (true≢false (sym going ∙ closed))

      none_due : (c : Call) → (c ≡ call.Begin → ⊥) → RefusedLogs limits g xs own c refusal.NoTransaction []
      none_due call.Begin other = absurd (other refl)
      none_due _ other = tt

  -- ## Behind the changes that were put back

  module _ (most : ℕ) (le : most ≤ 2 ^ 17) (n : PagedMachine D) (u : HasUndone story most m n) where
    abbrev fs : List happening.Event
    fs = events_of u.events

    met : AllMet g at fs
    met = (u.part.logged g xs [] b0).met

    pub behind_u : Behind g xs fs (view_of n)
    behind_u = behind_more g xs [] (view_of m) b0 u.events (view_of n) u.part.given u.part.seen met

    pub facts : Backs own fs
    facts = backs_of own fs u.backs

    few : length fs ≤ 2 ^ 18
    few = let a = length_events u.events in let b = few_by (length u.events) most (Rattle.paged_desks.specs.Pages.hot_in n) u.few le in omega arith

    pub tight : SyncsWhere (IsTightSomewhere g) g at false fs
    tight = u.tight g xs [] b0

    -- the session's abort is half done where one was put back
    half_told : (backs : List Step) → is_empty backs ≡ cond (any is_back u.events) false true → cond (is_empty backs) (is_half_done own xs) true ≡ n.machine.work.session.is_half_aborted
    half_told backs e = ap (λ b. cond b (is_half_done own xs) true) e ∙ (go (any is_back u.events) (is_half_done own xs) ∙ (ap (λ h. any is_back u.events || h) half_is ∙ sym u.half))
      where
        go : (b h : Bool) → cond (cond b false true) h true ≡ (b || h)
        go true h = refl
        go false h = refl

    own_half : (desk_of (here n.machine) n.machine.desks.items own).session.is_half_aborted ≡ n.machine.work.session.is_half_aborted
    own_half = ap (λ (d : Desk). d.session.is_half_aborted) (desk_own (here n.machine) n.machine.desks.items own (sym u.turn))

    -- ### It is refused, since a latch is spent

    module _ (logged : HasLogs n.machine) (late : 2 ^ 61 ≤ length (front xs ++ fs)) where
      abbrev half_done : Done
      half_done = halved_by g xs own c fs

      logs_due : (c : Call) → (c ≡ call.Begin → ⊥) → call_behind (outcomes xs) c ≡ call.Abort → RefusedLogs limits g xs own c refusal.RowSpent fs
      logs_due call.Begin other e = absurd (other refl)
      logs_due (call.Get k) other e = subst (λ d. SyncsWhere (IsPressedYet g d refusal.RowSpent) g at false fs) (sym e) tight
      logs_due (call.Put k v) other e = subst (λ d. SyncsWhere (IsPressedYet g d refusal.RowSpent) g at false fs) (sym e) tight
      logs_due (call.Del k) other e = subst (λ d. SyncsWhere (IsPressedYet g d refusal.RowSpent) g at false fs) (sym e) tight
      logs_due (call.Scan from to) other e = subst (λ d. SyncsWhere (IsPressedYet g d refusal.RowSpent) g at false fs) (sym e) tight
      logs_due _ other e = subst (λ d. SyncsWhere (IsPressedYet g d refusal.RowSpent) g at false fs) (sym e) tight

      is_halved : IsHalved limits g xs own c fs
      is_halved = record {
        comes = comes half_done.outcome refl (λ e. tt) (refl, refl);
        asks = asks;
        met = met;
        backs = facts.steps;
        structure = facts.structure;
        cause = late;
        due = logs_due c (not_begin g x.group xs own x.is_open c due (tied.ties own).told) asks;
      }

      tells : Tells limits g x.group xs half_done
      tells = (answers limits g x.group xs).halved own c fs is_halved

      how : Answers g xs half_done log
      how = record {
        few = let a = few in let b = most_least c in omega arith;
        refused = λ why e. inr (inl (sym (refused_is refusal.RowSpent why e)));
        kept = λ why e. subst (HasNoneToGo g (state_after g (front xs ++ fs)) (call_behind (outcomes xs) c)) (refused_is refusal.RowSpent why e) tt;
        refuses = λ why sure e. inr (inl refl);
        still = λ _ _. grows_none fs facts.structure;
        stays = λ _ _ _. facts.structure;
        room = subst (λ d. ChangesTree own g at d fs) (sym asks) facts.structure;
      }
        where
          refused_is : (p q : Refusal) → answer.Refused p ≡ answer.Refused q → p ≡ q
          refused_is p q e = cc

      pub halved_does : DoesTied g x.group xs own c (answer.Refused refusal.RowSpent) (memory m) n old (story n.machine.work.disk)
      halved_does = does_tied l m n old (story n.machine.work.disk) (lawful m.machine.work.disk) g xs many tied halves u.events u.part logged u.same own c (answer.Refused refusal.RowSpent) half_done refl refl refl refl tells how
          (half_own own half_done xs refl ∙ (half_with (backs_by g at fs []) (marks_by own (outcomes xs)) ∙ (half_told (backs_by g at fs []) (told_backs own g at u.events [] u.backs met) ∙ sym own_half)))
          u.others

    -- so it is where it is late, or where an abort was half done before the call
    pub late_of : IsLate (view_of n) ⊎ HasHalf m → 2 ^ 61 ≤ length (front xs ++ fs)
    late_of (inl late) = late_end l.reached l.needs g xs fs (view_of n) behind_u late
    late_of (inr h) =
        let a = half_late g x.group xs (tied.ties own).told h.session (halves h.session h.low (let e = many in let k = h.high in omega arith) ∙ h.half) in
        let b = length-append (front xs) fs in
        omega arith

  -- ## Its disk fails, or a page is damaged

  module _ (most : ℕ) (le : most ≤ 2 ^ 17) (n : PagedMachine D) (f : HasFailedBack story most m n) where
    saves : may_save xs c ≡ true
    saves = ap looks asks

    pub failed_does : Fails g x.group xs own c (memory m) old (story n.machine.work.disk)
    failed_does = (end_laws g x.group xs (view_of m) (memory m) tied x.workers own c old (story n.machine.work.disk) many).fails true true f.events f.failed (λ _. saves) (λ _. ap (λ b. b || needs_sync g xs own c) saves)
        (subst (λ (d : Call). IsRoomFor g xs own d f.events) (sym asks) (f.backs, (let a = f.few in let b = hot_few story m ready frames in let d = le in omega arith)))

  pub never : StandsNowhere story m → StandsNot g x.group xs (memory m) old
  never nowhere s0 k b o = nowhere g xs [] b0 s0 k (subst (λ ys. Stands g ys s0 k old) (sym (append-nil (front xs))) b.stands) o
