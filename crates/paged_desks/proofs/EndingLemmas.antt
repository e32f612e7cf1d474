-- How a call ends in a run: by one outcome more, to which the machine is tied; or by a fault.
use Rattle.std.proofs.Common.{◌≡◌, ◌∙◌, ◌≤◌, ◌<◌, ◌==◌, ◌++◌, ◌||◌, ◌⊎◌, inl, inr, ℕ, Bool, true, false, cond, List, [], ◌∷◌, Some, length, ap, refl, sym, subst, arith, append-nil, true≢false}
use Rattle.std.proofs.lemmas.Bool.{cases_eq, cond-false, eq-eqb, ne_eqb}
use Rattle.map_model.specs.Lists.{any}
use Rattle.map_model.specs.declared.call.Answer.{Answer}
use Rattle.map_model.specs.declared.call.Answer.TheVariants as answer
use Rattle.map_model.specs.declared.call.Call.{Call}
use Rattle.map_model.specs.declared.call.Refusal.{Refusal}
use Rattle.map_model.specs.declared.call.Refusal.TheVariants as refusal
use Rattle.desk_parts.specs.core_calls.Deeds.{answered, asked, marks_by, marks_for}
use Rattle.desk_parts.specs.core_calls.Fronts.{Done, front, outcomes}
use Rattle.desk_parts.specs.core_calls.Marks.{is_half}
use Rattle.desk_parts.specs.core_calls.Runs.{Tells}
use Rattle.desk_parts.specs.core_calls.Steps.{is_structure}
use Rattle.desk_parts.specs.core_state.Events as happening
use Rattle.desk_parts.specs.core_state.Local.{is_sync}
use Rattle.desk_parts.specs.core_state.Openings.{Opening}
use Rattle.desk_parts.specs.core_state.States.{State}
use Rattle.desk_parts.specs.core_state.Steps.{AllMet, state_after}
use Rattle.desk_parts.specs.disk_runs.Masters.{IsNoEarlier}
use Rattle.desk_parts.specs.disk_runs.Stands.{Known, Stands}
use Rattle.desk_parts.specs.engine_calls.Answers.{EveryAnswer}
use Rattle.desk_parts.proofs.engine_calls.PartLemmas.{every_part}
use Rattle.desk_parts.specs.engine_calls.Clauses.{Between, IsNewLine}
use Rattle.desk_parts.specs.engine_calls.Parts.{Gone, PartLaws}
use Rattle.desk_parts.specs.engine_calls.Refused.{IsRefusal, refused_by}
use Rattle.desk_parts.specs.engine_trait.Calls.{call_behind, due_call, is_half_done}
use Rattle.desk_parts.specs.engine_trait.Limits.{limits}
use Rattle.desk_parts.specs.engine_trait.Logs.{Logs}
use Rattle.desk_parts.specs.engine_trait.Refusals.{IsRefusedFor, refusal_in}
use Rattle.lean_disk.specs.Moments.{LeavesOnly}
use Rattle.lean_disk.specs.Story.{Crash, IsLawful, Story}
use Rattle.desk_parts.specs.row_words.declared.event.Event.{Event}
use Rattle.desk_parts.specs.row_words.Moments.{events_of}
use Rattle.desk_parts.specs.row_words.Openings.{opening}
use Rattle.desk_parts.specs.rows_trait.declared.view.View.{View}
use Rattle.desk_parts.specs.session_desks.Desks.{desk_of}
use Rattle.desk_parts.specs.session_desks.Machines.{IsLogged}
use Rattle.desk_parts.specs.session_desks.Parts.{AreAsMany, HasLogs, here}
use Rattle.desk_parts.specs.session_state.Ties.{Behind, Ties}
use Rattle.desk_parts.specs.worker_log.Logs.{Log}
use Rattle.desk_parts.proofs.call_parts.EndLemmas.{every_end}
use Rattle.desk_parts.proofs.call_parts.RunLemmas.{behind_more, core_is}
use Rattle.desk_parts.specs.call_parts.Areas.{Around, Beside, is_save}
use Rattle.desk_parts.specs.call_parts.Deeds.{Answers, Does, Fails, HasNoneToGo, IsRefusedOr, IsSure, Keeps}
use Rattle.desk_parts.specs.call_parts.Laws.{EndLaws}
use Rattle.desk_parts.specs.call_parts.Memory.{IsOf, Memory}
use Rattle.desk_parts.specs.call_parts.Parts.{Failed, GoesOn, Part}
use Rattle.desk_parts.specs.call_parts.Rooms.{ChangesTree, IsRoomFor, NoneGoesFor, grows, looks, may_save, most_of}
use Rattle.desk_parts.specs.engine_trait.Rooms.{needs_sync}
use Rattle.paged_desks.specs.Machines.{memory, view_of}
use Rattle.paged_desks.specs.declared.machine.PagedMachine.{PagedMachine}
use Rattle.paged_desks.specs.Calls.{AreHalf, DoesTied, Tied}
use Rattle.desk_parts.specs.core_disk.Versions.{EveryVersion}
use Rattle.desk_parts.specs.disk_image.Laws.{EverySealed}
use Rattle.desk_parts.specs.row_opening.Openings.{EveryNeed, EveryReached}
use Rattle.desk_parts.specs.worker_log.Laws.{EveryKept, EveryPrefix}

-- the laws on which a call stands
pub record Grounds : Type 0 where
  pub reached : EveryReached
  pub needs : EveryNeed
  pub versions : EveryVersion
  pub kept : EveryKept
  pub prefixes : EveryPrefix
  pub seals : EverySealed

-- on a new line a call is what its line asks
pub line_call : (xs : List Done) (c : Call) → IsNewLine (outcomes xs) → call_behind (outcomes xs) c ≡ c
line_call [] c line = refl
line_call (y ∷ earlier) c line = ap (λ o. due_call o c) line.0

-- what an outcome says of another session than its own
pub half_other : (w : ℕ) (x : Done) (xs : List Done) → (w ≡ x.outcome.session → ⊥) → is_half_done w (x ∷ xs) ≡ is_half_done w xs
half_other w x xs n = ap is_half (cond-false (x.outcome.session == w) (marks_for x.outcome ++ marks_by w (outcomes xs)) (marks_by w (outcomes xs)) (ne_eqb x.outcome.session w (λ q. n (sym q))))

-- and of its own
pub half_own : (own : ℕ) (x : Done) (xs : List Done) → x.outcome.session ≡ own → is_half_done own (x ∷ xs) ≡ is_half (marks_for x.outcome ++ marks_by own (outcomes xs))
half_own own x xs e = ap (λ b. is_half (cond b (marks_for x.outcome ++ marks_by own (outcomes xs)) (marks_by own (outcomes xs)))) (eq-eqb x.outcome.session own e)

-- ## Where a call begins

module _ (g : Opening) (group : ℕ) (xs : List Done) (v : View) (was : Memory) (tied : Tied g group xs v was) where
  pub begins : Behind g xs [] v
  begins = subst (λ ys. Behind g xs ys v) (tied.begun 0) (record { opens = (tied.ties 0).opens; met = (tied.ties 0).met; seen = (tied.ties 0).seen })

  pub workers_of : (many : ℕ) → g.workers ≡ many → (opening v.given).workers ≡ many
  workers_of many e = sym begins.opens.workers ∙ e

  pub end_laws : (many own : ℕ) (c : Call) (old new : Story) → g.workers ≡ many → EndLaws many g group xs own c v was old new
  end_laws many own c old new e = every_end old new many g group xs own (is_half_done own xs) c v was (tied.ties own) (tied.begun own) (workers_of many e)

-- it is this refusal, or one that comes before it
abbrev pub IsOr : (why q : Refusal) → Type 0
IsOr why q = (why ≡ q) ⊎ ((why ≡ refusal.RowSpent) ⊎ (why ≡ refusal.ClockSpent))

-- what a call that is refused by these events has to show beside its cause
pub record IsAnswerTo (g : Opening) (xs : List Done) (own : ℕ) (c : Call) (why : Refusal) (es : List happening.Event) (log : Log) : Type 0 where
  pub few : length es ≤ most_of c
  pub is_for : IsRefusedFor g (state_after g (front xs ++ es)) own (is_half_done own xs) log (call_behind (outcomes xs) c) why
  pub kept : HasNoneToGo g (state_after g (front xs ++ es)) (call_behind (outcomes xs) c) why
  pub refuses : (q : Refusal) → IsSure g (state_after g (front xs)) (call_behind (outcomes xs) c) es q → refusal_in g (state_after g (front xs)) own (is_half_done own xs) log (call_behind (outcomes xs) c) ≡ Some q → IsOr why q
  pub still : (q : Refusal) → refusal_in g (state_after g (front xs)) own (is_half_done own xs) log (call_behind (outcomes xs) c) ≡ Some q → any grows es ≡ false
  pub stays : (q : Refusal) → IsSure g (state_after g (front xs)) (call_behind (outcomes xs) c) es q → refusal_in g (state_after g (front xs)) own (is_half_done own xs) log (call_behind (outcomes xs) c) ≡ Some q → any is_structure es ≡ false
  pub room : ChangesTree own g (state_after g (front xs)) (call_behind (outcomes xs) c) es

-- which is asked of a put alone
pub none_to_go : (g : Opening) (s : State) (c : Call) (why : Refusal) → NoneGoesFor g s c → HasNoneToGo g s c why
none_to_go g s c refusal.TooTall none = none
none_to_go g s c refusal.NoPages none = none
none_to_go g s c _ none = tt

-- where the tree is as it was, no page was given to it
grows_one : (e : happening.Event) → is_structure e ≡ false → grows e ≡ false
grows_one (happening.Event.Split w l r q i) h = h
grows_one (happening.Event.Lift w c) h = h
grows_one _ h = refl

pub grows_none : (es : List happening.Event) → any is_structure es ≡ false → any grows es ≡ false
grows_none [] h = refl
grows_none (e ∷ es) h = neither (grows e) (any grows es) (grows_one e (first (is_structure e) (any is_structure es) h)) (grows_none es (second (is_structure e) (any is_structure es) h))
  where
    neither : (p q : Bool) → p ≡ false → q ≡ false → (p || q) ≡ false
    neither true q x y = x
    neither false q x y = y

    first : (p q : Bool) → (p || q) ≡ false → p ≡ false
    first true q x = x
    first false q x = refl

    second : (p q : Bool) → (p || q) ≡ false → q ≡ false
    second true q x = absurd (true≢false x)
    second false q x = x

-- ## It is answered

module _ (l : Grounds) {D : Type 0} (m n : PagedMachine D) (old new : Story) (lawful : IsLawful old) (g : Opening) (xs : List Done) (many : g.workers ≡ m.machine.work.session.workers) (tied : Tied g m.machine.work.session.group xs (view_of m) (memory m)) (halves : AreHalf g.workers xs m.machine)
    (es : List Event) (part : Part m.machine.work.session.workers es (view_of m) (view_of n) (memory m) (memory n) old new) (logged : HasLogs n.machine) (as_many : AreAsMany m.machine n.machine) where
  abbrev group : ℕ
  group = m.machine.work.session.group

  pub start : Behind g xs [] (view_of m)
  start = begins g group xs (view_of m) (memory m) tied

  pub met : AllMet g (state_after g (front xs)) (events_of es)
  met = (part.logged g xs [] start).met

  -- behind the events of the part
  pub behind_part : Behind g xs (events_of es) (view_of n)
  behind_part = behind_more g xs [] (view_of m) start es (view_of n) part.given part.seen met

  module _ (own : ℕ) (c : Call) (a : Answer) (x : Done) (told : x.events ≡ events_of es) (session : x.outcome.session ≡ own) (asks : asked x.outcome.deed ≡ c) (is_a : answered x.outcome.deed ≡ a) (tells : Tells limits g group xs x) (how : Answers g xs x ((memory m).log own)) where
    -- by as many logs as the run has
    as_run : Part g.workers es (view_of m) (view_of n) (memory m) (memory n) old new
    as_run = subst (λ k. Part k es (view_of m) (view_of n) (memory m) (memory n) old new) (sym many) part

    back : events_of es ≡ x.events
    back = sym told

    keeps : (s0 : Crash) (k : Known) → Between limits g group xs s0 k old → IsOf g (memory m) k → Keeps g group xs x s0 k (memory n) old new
    keeps s0 k b o = record {
      answers = record { answer = tells; known = r.known; no_earlier = gone.no_earlier; stands = gone.stands; notes = gone.notes; any_moment = gone.any_moment };
      memory = r.has;
      within = subst (λ ys. LeavesOnly old new (Beside g.workers (any is_save ys) (any is_sync ys) old)) back r.within;
    }
      where
        r : GoesOn g.workers g xs [] (events_of es) s0 k (memory n) old new
        r = as_run.goes g xs [] start s0 k (subst (λ ys. Stands g ys s0 k old) (sym (append-nil (front xs))) b.stands) o

        law : PartLaws limits g group xs s0 k old old new [] k
        law = every_part l.versions l.kept l.prefixes l.seals old old new limits g group xs s0 k [] k b

        gone : Gone g xs x.events s0 k old r.known new
        gone = subst (λ ys. Gone g xs ys s0 k old r.known new) back (law.pass (events_of es) r.known (law.none lawful) r.moved.passes r.moved.line r.moved.stands r.moved.notes)

    abbrev does : Does g group xs own c a (memory m) (memory n) old new
    does = record {
      done = x;
      session = session;
      asked_is = asks;
      answer_is = is_a;
      happens = record {
        tells = tells;
        how = subst (λ k. Answers g xs x ((memory m).log k)) (sym session) how;
        logs = λ w lo hi. subst (λ ys. Logs w g (state_after g (front xs)) ys ((memory m).log w) ((memory n).log w)) back ((as_run.logged g xs [] start).logs w lo hi);
        master = subst (λ ys. any is_sync ys ≡ false → (memory n).master ≡ (memory m).master) back part.master;
        no_earlier = subst (λ ys. IsNoEarlier ys (memory m).master (memory n).master) back part.no_earlier;
      };
      frame = subst (λ ys. Around g.workers (any is_save ys) (any is_sync ys) old new) back as_run.around;
      keeps = keeps;
    }

    seen_all : events_of (view_of n).given.before ++ events_of (view_of n).seen ≡ front (x ∷ xs) ++ []
    seen_all = behind_part.seen ∙ (ap (λ ys. front xs ++ ys) (sym told) ∙ sym (append-nil (front xs ++ x.events)))

    abbrev ties : (w : ℕ) → Ties g group (x ∷ xs) w (is_half_done w (x ∷ xs)) (view_of n)
    ties w = record { opens = behind_part.opens; told = ((tied.ties w).told, tells); half_is = refl; loads = []; are_loads = tt; few = omega arith; met = tt; seen = seen_all }

    next : Behind g (x ∷ xs) [] (view_of n)
    next = record { opens = behind_part.opens; met = tt; seen = seen_all }

    logged_in : (w : ℕ) → 0 < w → w ≤ g.workers → IsLogged (state_after g (front (x ∷ xs))) w ((memory n).log w)
    logged_in w low high = subst (λ (s : State). IsLogged s w ((memory n).log w)) (core_is l.reached l.needs g (x ∷ xs) [] (view_of n) next) (logged w low (let e = many in let f = as_many.0 in omega arith))

    half_all : (is_half_done own (x ∷ xs) ≡ (desk_of (here n.machine) n.machine.desks.items own).session.is_half_aborted)
        → ((w : ℕ) → 0 < w → w ≤ m.machine.work.session.workers → (w ≡ own → ⊥) → (desk_of (here n.machine) n.machine.desks.items w).session.is_half_aborted ≡ (desk_of (here m.machine) m.machine.desks.items w).session.is_half_aborted)
        → AreHalf g.workers (x ∷ xs) n.machine
    half_all of_own others w low high = go (cases_eq w own)
      where
        go : (w ≡ own) ⊎ (w ≡ own → ⊥) → is_half_done w (x ∷ xs) ≡ (desk_of (here n.machine) n.machine.desks.items w).session.is_half_aborted
        go (inl e) = subst (λ (k : ℕ). is_half_done k (x ∷ xs) ≡ (desk_of (here n.machine) n.machine.desks.items k).session.is_half_aborted) (sym e) of_own
        go (inr ne) = half_other w x xs (λ q. ne (q ∙ session)) ∙ (halves w low high ∙ sym (others w low (let e = many in omega arith) ne))

    -- where the sessions say which aborts are half done then
    pub does_half : AreHalf g.workers (x ∷ xs) n.machine → DoesTied g group xs own c a (memory m) n old new
    does_half are = record { does = does; tied = record { ties = ties; begun = λ w. refl; logged = logged_in }; is_half_aborted = are }

    pub does_tied : (is_half_done own (x ∷ xs) ≡ (desk_of (here n.machine) n.machine.desks.items own).session.is_half_aborted)
        → ((w : ℕ) → 0 < w → w ≤ m.machine.work.session.workers → (w ≡ own → ⊥) → (desk_of (here n.machine) n.machine.desks.items w).session.is_half_aborted ≡ (desk_of (here m.machine) m.machine.desks.items w).session.is_half_aborted)
        → DoesTied g group xs own c a (memory m) n old new
    does_tied of_own others = does_half (half_all of_own others)

  -- ## It is refused

  module _ (answers : EveryAnswer) (own : ℕ) (c : Call) (why : Refusal) where
    abbrev refused : Done
    refused = refused_by own c why (events_of es)

    refused_is : (p q : Refusal) → answer.Refused p ≡ answer.Refused q → p ≡ q
    refused_is p q e = cc

    abbrev Shown : Type 0
    Shown = IsAnswerTo g xs own c why (events_of es) ((memory m).log own)

    answers_of : Shown → Answers g xs refused ((memory m).log own)
    answers_of k = record {
      few = k.few;
      refused = λ q e. subst (λ (p : Refusal). IsRefusedFor g (state_after g (front xs ++ events_of es)) own (is_half_done own xs) ((memory m).log own) (call_behind (outcomes xs) c) p) (refused_is why q e) k.is_for;
      kept = λ q e. subst (HasNoneToGo g (state_after g (front xs ++ events_of es)) (call_behind (outcomes xs) c)) (refused_is why q e) k.kept;
      refuses = λ q sure e. either q (k.refuses q sure e);
      still = k.still;
      stays = k.stays;
      room = k.room;
    }
      where
        either : (q : Refusal) → IsOr why q → IsRefusedOr q (answer.Refused why)
        either q (inl e) = inl (ap answer.Refused e)
        either q (inr (inl e)) = inr (inl (ap answer.Refused e))
        either q (inr (inr e)) = inr (inr (ap answer.Refused e))

    pub refused_half : IsRefusal limits g xs own c why (events_of es) → Shown → AreHalf g.workers (refused ∷ xs) n.machine → DoesTied g group xs own c (answer.Refused why) (memory m) n old new
    refused_half r k are = does_half own c (answer.Refused why) refused refl refl refl refl ((answers limits g group xs).refused own c why (events_of es) r) (answers_of k) are

    -- where no change was put back, all aborts are as they were
    pub refused_tied : own ≡ m.machine.work.session.own → 0 < own → own ≤ m.machine.work.session.workers → IsRefusal limits g xs own c why (events_of es) → Shown
        → ((w : ℕ) → 0 < w → w ≤ m.machine.work.session.workers → (desk_of (here n.machine) n.machine.desks.items w).session.is_half_aborted ≡ (desk_of (here m.machine) m.machine.desks.items w).session.is_half_aborted)
        → DoesTied g group xs own c (answer.Refused why) (memory m) n old new
    refused_tied turn low high r k same = does_tied own c (answer.Refused why) refused refl refl refl refl ((answers limits g group xs).refused own c why (events_of es) r) (answers_of k)
        (half_own own refused xs refl ∙ (halves own low (let e = many in omega arith) ∙ sym (same own low high))) (λ w l h ne. same w l h)

-- ## Its disk fails

-- a call that looks at pages may have saved some, and made syncs
pub fails_by : (g : Opening) (group : ℕ) (xs : List Done) (many : ℕ) → g.workers ≡ many → (own : ℕ) (c : Call) (v : View) (was : Memory) → Tied g group xs v was → IsNewLine (outcomes xs) → looks c ≡ true → (old new : Story) (es : List happening.Event)
    → Failed many true true es v was old new → IsRoomFor g xs own c es → Fails g group xs own c was old new
fails_by g group xs many workers own c v was tied line look old new es f room =
    (end_laws g group xs v was tied many own c old new workers).fails true true es f (λ _. saves) (λ _. ap (λ b. b || needs_sync g xs own c) saves) (subst (λ (d : Call). IsRoomFor g xs own d es) (sym (line_call xs c line)) room)
  where
    saves : may_save xs c ≡ true
    saves = ap looks (line_call xs c line) ∙ look
