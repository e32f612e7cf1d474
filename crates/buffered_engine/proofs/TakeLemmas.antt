-- The engine stands in its run, whatever is told durable.
use Rattle.std.proofs.Common.{◌≡◌, inl, inr, ◌≤◌, ◌<◌, ◌-◌, ◌++◌, ℕ, Bool, true, false, cond, List, [], ◌∷◌, length, drop, take, Option, Some, None, refl, sym, ap, ◌∙◌, subst, arith}
use Rattle.std.proofs.lemmas.Bool.{cases_eq}
use Rattle.std.proofs.lemmas.List.{get_or-take, length-drop, length-take-le}
use Rattle.map_model.specs.Journals.{Name}
use Rattle.rfa_model.specs.Reaches.{least}
use Rattle.paged_scans.specs.core_state.Openings.{Opening}
use Rattle.paged_scans.specs.core_state.States as core
use Rattle.paged_scans.specs.core_state.Steps.{state_after}
use Rattle.paged_scans.specs.core_calls.Durables.{due}
use Rattle.paged_scans.specs.core_calls.Fronts.{Done, front}
use Rattle.paged_scans.specs.core_calls.Refusals.{waiting}
use Rattle.paged_scans.specs.call_parts.Memory.{Memory}
use Rattle.paged_scans.specs.engine_trait.Calls.{is_half_done}
use Rattle.engine_front.specs.Turns.{IsNext, IsTaken, behind_durables, told_with}
use Rattle.engine_front.specs.declared.calls.Next.{Next}
use Rattle.engine_front.specs.declared.calls.Next.TheVariants.{Abort, Durables, Line, Scan}
use Rattle.group_commit.specs.Laws.{EveryTake, NothingLaws, TakenLaws}
use Rattle.group_commit.specs.Queues.{IsSoonest, Takes, is_done, left, next_of, queue_of, settled}
use Rattle.group_commit.specs.Ripeness.{flushed_of}
use Rattle.group_commit.specs.Tracks.{AreFlushed}
use Rattle.group_commit.specs.declared.queue.End.{End}
use Rattle.group_commit.specs.declared.receipts.Receipt.{Receipt}
use Rattle.group_commit.proofs.ListLemmas.{queue_set_other, queue_set_same}
use Rattle.paged_scans.specs.rows_trait.declared.view.View.{View}
use Rattle.paged_scans.specs.session_desks.Desks.{desk_of}
use Rattle.buffered_engine.specs.Inside.Asks.{AreNumbers, durable_of}
use Rattle.paged_scans.specs.paged_desks.Calls.{Tied}
use Rattle.paged_scans.specs.declared.scans.Scan as scans
use Rattle.buffered_engine.specs.States.{GoesOnAt, HasRoom, HasRun, InRun, IsOfTurn, IsSettled, State, WhereDue, WhereScanning, memory_in}
use Rattle.paged_scans.specs.session_desks.declared.desk.Desk.{Desk}

-- ## Queues get no longer

settled_less : (f all : ℕ) (q : List End) → length (settled f all q) ≤ length q
settled_less f all [] = omega arith
settled_less f all (e ∷ q) = go (settled_less f all q) (is_done f all e)
  where
    go : length (settled f all q) ≤ length q → (b : Bool) → length (cond b (settled f all q) (e ∷ q)) ≤ length (e ∷ q)
    go h true = omega arith
    go h false = omega arith

left_less : (r : Option Receipt) (qs : List (List End)) → ((x : Receipt) → r ≡ Some x → (0 < x.log) × (x.log ≤ length qs)) → (w : ℕ) → 0 < w → length (queue_of (left r qs) w) ≤ length (queue_of qs w)
left_less None qs within w low = omega arith
left_less (Some x) qs within w low = let p = within x refl in elim (cases_eq w x.log) [
  | inl e ↦ (let a = ap (λ (k : ℕ). length (queue_of (left (Some x) qs) k)) e in let b = ap (λ (k : ℕ). length (queue_of qs k)) e in
      let c = ap length (queue_set_same qs x.log (drop 1 (queue_of qs x.log)) p.0 p.1) in let d = length-drop 1 (queue_of qs x.log) in omega arith)
  | inr n ↦ (let c = ap length (queue_set_other qs x.log w (drop 1 (queue_of qs x.log)) p.0 low n) in omega arith)
]

within_of : (fs : List ℕ) (old new : List (List End)) (found : Option Receipt) (t : Takes fs old found new) (x : Receipt) → found ≡ Some x → (0 < x.log) × (x.log ≤ length t.between)
within_of fs old new found t x e =
    let s = subst (λ (o : Option Receipt). IsSoonest (next_of fs (least (flushed_of fs) (length fs)) t.between) (length old) o) e t.soonest in
    (s.some, (let w = s.within in let l = t.aborts.sessions in omega arith))

pub taken_less : (fs : List ℕ) (old new : List (List End)) (found : Option Receipt) → Takes fs old found new → (w : ℕ) → 0 < w → w ≤ length old → length (queue_of new w) ≤ length (queue_of old w)
taken_less fs old new found t w low high =
    let a = ap (λ (qs : List (List End)). length (queue_of qs w)) t.taken in
    let b = left_less found t.between (within_of fs old new found t) w low in
    let c = ap length (t.aborts.each w low high) in
    let d = settled_less (flushed_of fs w) (least (flushed_of fs) (length fs)) (queue_of old w) in
    omega arith

-- ## What may be asked next

pub behind_next : (n : Next) (xs : List Done) → IsNext n xs → IsNext (behind_durables n) xs
behind_next Line xs h = h
behind_next Durables xs h = h
behind_next Scan xs h = h
behind_next Abort xs h = h

pub behind_due : (n : Next) (P : Type 0) → WhereDue n P → WhereDue (behind_durables n) P
behind_due Line P h = h
behind_due Durables P h = h
behind_due Scan P h = h
behind_due Abort P h = h

behind_scanning : (n : Next) (P : Type 0) → WhereScanning n P → WhereScanning (behind_durables n) P
behind_scanning Line P h = h
behind_scanning Durables P h = h
behind_scanning Scan P h = h
behind_scanning Abort P h = h

settled_if : (n : Next) (P : Type 0) → P → IsSettled n P
settled_if Line P h = h
settled_if Durables P h = tt
settled_if Scan P h = tt
settled_if Abort P h = tt

-- where it is said that it is settled, it is, or durable lines are still to be told
settled_as : (n : Next) (P Q : Type 0) → (P → Q) → IsSettled n P → IsSettled n Q
settled_as Line P Q f h = f h
settled_as Durables P Q f h = tt
settled_as Scan P Q f h = tt
settled_as Abort P Q f h = tt

room_less : (n : Next) (b : Bool) (p q waits : ℕ) → p ≤ q → HasRoom n b q waits → HasRoom n b p waits
room_less Line true p q waits l h = omega arith
room_less Line false p q waits l h = omega arith
room_less Scan true p q waits l h = omega arith
room_less Scan false p q waits l h = omega arith
room_less Abort true p q waits l h = omega arith
room_less Abort false p q waits l h = omega arith
room_less Durables true p q waits l h = elim h [ inl a ↦ inl (omega arith) | inr a ↦ inr (let c = a.0 in (omega arith), a.1) ]
room_less Durables false p q waits l h = omega arith

room_behind : (n : Next) (b : Bool) (p q waits : ℕ) → p ≤ q → p ≡ waits → HasRoom n b q waits → HasRoom (behind_durables n) b p waits
room_behind Line b p q waits l e h = room_less Line b p q waits l h
room_behind Scan b p q waits l e h = room_less Scan b p q waits l h
room_behind Abort b p q waits l e h = room_less Abort b p q waits l h
room_behind Durables true p q waits l e h = elim h [ inl a ↦ (omega arith) | inr a ↦ (let c = a.1 in omega arith) ]
room_behind Durables false p q waits l e h = omega arith

-- ## A take

no_line : (ns : List Name) (n : Name) → ns ++ n ∷ [] ≡ [] → ⊥
no_line [] n e = absurd (cc)
no_line (m ∷ ns) n e = absurd (cc)

pub flushed_take : (n w : ℕ) (numbers : List ℕ) → 0 < w → w ≤ n → flushed_of (take n numbers) w ≡ flushed_of numbers w
flushed_take n w numbers low high = get_or-take n numbers (w - 1) 0 (omega arith)

module _ {D : Type 0} (law : EveryTake) (was is : State D) (fs : List ℕ) (numbers : List ℕ) (found : Option Receipt)
    (fs_are : fs ≡ take was.sessions numbers) (long : was.sessions ≤ length numbers) (flushed : AreNumbers was.sessions (memory_in was).log numbers)
    (view : is.view ≡ was.view) (memory : (memory_in is) ≡ (memory_in was)) (sessions : is.sessions ≡ was.sessions) (group : is.group ≡ was.group) (turn : is.turn ≡ was.turn) (scan : is.scan ≡ was.scan)
    (takes : Takes fs was.ends found is.ends) where
  pub are_flushed : (g : Opening) (xs : List Done) (names : List Name) → InRun was g xs names → AreFlushed g (state_after g (front xs)) fs
  are_flushed g xs names run = record {
    logs = ap length fs_are ∙ (length-take-le was.sessions numbers long ∙ sym run.workers);
    each = λ w low high. let h = subst (λ (n : ℕ). w ≤ n) run.workers high in
        ap (λ (l : List ℕ). flushed_of l w) fs_are ∙ (flushed_take was.sessions w numbers low h ∙ (flushed w low h ∙ sym (run.tied.logged w low high).flushed));
  }

  module _ (g : Opening) (xs : List Done) (names : List Name) (run : InRun was g xs names) where
    some : (r : Receipt) → found ≡ Some r → TakenLaws g (state_after g (front xs)) names is.ends r
    some r e = law g (front xs) names fs was.ends is.ends (Some r) (are_flushed g xs names run) run.tracks (subst (λ (o : Option Receipt). Takes fs was.ends o is.ends) e takes)

    none : found ≡ None → NothingLaws g (state_after g (front xs)) names is.ends
    none e = law g (front xs) names fs was.ends is.ends None (are_flushed g xs names run) run.tracks (subst (λ (o : Option Receipt). Takes fs was.ends o is.ends) e takes)

    moved : Tied g is.group xs is.view (memory_in is)
    moved = subst (λ (n : ℕ). Tied g n xs is.view (memory_in is)) (sym group)
        (subst (λ (v : View). Tied g was.group xs v (memory_in is)) (sym view)
        (subst (λ (m : Memory). Tied g was.group xs was.view m) (sym memory) run.tied))

    turned : (n : Next) → WhereDue n (IsOfTurn was.turn xs) → WhereDue n (IsOfTurn is.turn xs)
    turned n h = subst (λ (t : ℕ). WhereDue n (IsOfTurn t xs)) (sym turn) h

    scanned : (n : Next) → WhereScanning n (GoesOnAt was.turn was.scan g xs) → WhereScanning n (GoesOnAt is.turn is.scan g xs)
    scanned n h = subst (λ (q : ℕ × scans.Scan). WhereScanning n (GoesOnAt q.0 q.1 g xs)) (λ i. (sym turn i, sym scan i)) h

    -- the line that is due first
    pub in_run_some : (r : Receipt) → found ≡ Some r → is.next ≡ was.next → IsTaken g xs names (durable_of found) × InRun is g xs (told_with (durable_of found) names)
    in_run_some r e next = subst (λ (o : Option Receipt). IsTaken g xs names (durable_of o) × InRun is g xs (told_with (durable_of o) names)) (sym e) (
      t.due_is,
      record {
        workers = run.workers ∙ sym sessions;
        next = subst (λ (n : Next). IsNext n xs) (sym next) run.next;
        turn = turned is.next (subst (λ (n : Next). WhereDue n (IsOfTurn was.turn xs)) (sym next) run.turn);
        scan = scanned is.next (subst (λ (n : Next). WhereScanning n (GoesOnAt was.turn was.scan g xs)) (sym next) run.scan);
        tied = moved;
        tracks = t.tracks;
        told = subst (λ (n : Next). IsSettled n (due g (state_after g (front xs)) (told_with (durable_of (Some r)) names) ≡ [])) (sym next) (settled_as was.next (due g (state_after g (front xs)) names ≡ []) (due g (state_after g (front xs)) (told_with (durable_of (Some r)) names) ≡ []) (λ d. absurd (not_none d)) run.told);
        settled = subst (λ (n : Next). IsSettled n ((w : ℕ) → 0 < w → w ≤ g.workers → length (queue_of is.ends w) ≡ waiting g (state_after g (front xs)) w)) (sym next) (settled_as was.next (due g (state_after g (front xs)) names ≡ []) ((w : ℕ) → 0 < w → w ≤ g.workers → length (queue_of is.ends w) ≡ waiting g (state_after g (front xs)) w) (λ d. absurd (not_none d)) run.told);
      },
    )
      where
        t : TakenLaws g (state_after g (front xs)) names is.ends r
        t = some r e

        not_none : due g (state_after g (front xs)) names ≡ [] → ⊥
        not_none d = no_line (due g (state_after g (front xs)) (record { session = r.log; number = r.txn } ∷ names)) (record { session = r.log; number = r.txn }) (sym t.due_is ∙ d)

    -- none is due
    pub in_run_none : found ≡ None → is.next ≡ behind_durables was.next → IsTaken g xs names (durable_of found) × InRun is g xs (told_with (durable_of found) names)
    in_run_none e next = subst (λ (o : Option Receipt). IsTaken g xs names (durable_of o) × InRun is g xs (told_with (durable_of o) names)) (sym e) (
      t.due_is,
      record {
        workers = run.workers ∙ sym sessions;
        next = subst (λ (n : Next). IsNext n xs) (sym next) (behind_next was.next xs run.next);
        turn = turned is.next (subst (λ (n : Next). WhereDue n (IsOfTurn was.turn xs)) (sym next) (behind_due was.next (IsOfTurn was.turn xs) run.turn));
        scan = scanned is.next (subst (λ (n : Next). WhereScanning n (GoesOnAt was.turn was.scan g xs)) (sym next) (behind_scanning was.next (GoesOnAt was.turn was.scan g xs) run.scan));
        tied = moved;
        tracks = t.tracks;
        told = settled_if is.next (due g (state_after g (front xs)) names ≡ []) t.due_is;
        settled = settled_if is.next ((w : ℕ) → 0 < w → w ≤ g.workers → length (queue_of is.ends w) ≡ waiting g (state_after g (front xs)) w) t.waiting_is;
      },
    )
      where
        t : NothingLaws g (state_after g (front xs)) names is.ends
        t = none e

  -- ## The run in which it stands

  module _ (same : (w : ℕ) → desk_of is.work is.desks w ≡ desk_of was.work was.desks w) (work : is.work ≡ was.work) (stood : HasRun was) where
    abbrev s : core.State
    s = state_after stood.opening (front stood.done)

    queues : length was.ends ≡ stood.opening.workers
    queues = stood.in_run.tracks.sessions

    less : (w : ℕ) → 0 < w → w ≤ stood.opening.workers → length (queue_of is.ends w) ≤ length (queue_of was.ends w)
    less w low high = taken_less fs was.ends is.ends found takes w low (subst (λ (n : ℕ). w ≤ n) (sym queues) high)

    half : (w : ℕ) → 0 < w → w ≤ stood.opening.workers → is_half_done w stood.done ≡ (desk_of is.work is.desks w).session.is_half_aborted
    half w low high = stood.is_half_aborted w low high ∙ sym (ap (λ (d : Desk). d.session.is_half_aborted) (same w))

    has_room : (n : Next) (w : ℕ) → HasRoom n (desk_of was.work was.desks w).session.is_open (length (queue_of is.ends w)) (waiting stood.opening s w) → is.next ≡ n
        → HasRoom is.next (desk_of is.work is.desks w).session.is_open (length (queue_of is.ends w)) (waiting stood.opening s w)
    has_room n w h e = subst (λ (q : Next × Desk). HasRoom q.0 q.1.session.is_open (length (queue_of is.ends w)) (waiting stood.opening s w)) (λ i. (sym e i, sym (same w) i)) h

    due_is : (n : Next) → WhereDue n (was.work.session.is_open ≡ true) → is.next ≡ n → WhereDue is.next (is.work.session.is_open ≡ true)
    due_is n h e = subst (λ (q : Next × Desk). WhereDue q.0 (q.1.session.is_open ≡ true)) (λ i. (sym e i, sym work i)) h

    pub has_run_some : (r : Receipt) → found ≡ Some r → is.next ≡ was.next → HasRun is
    has_run_some r e next = record {
      opening = stood.opening;
      done = stood.done;
      names = told_with (durable_of found) stood.names;
      in_run = (in_run_some stood.opening stood.done stood.names stood.in_run r e next).1;
      is_half_aborted = half;
      room = λ w low high. has_room was.next w (room_less was.next (desk_of was.work was.desks w).session.is_open (length (queue_of is.ends w)) (length (queue_of was.ends w)) (waiting stood.opening s w) (less w low high) (stood.room w low high)) next;
      is_open = due_is was.next stood.is_open next;
    }

    pub has_run_none : found ≡ None → is.next ≡ behind_durables was.next → HasRun is
    has_run_none e next = record {
      opening = stood.opening;
      done = stood.done;
      names = told_with (durable_of found) stood.names;
      in_run = (in_run_none stood.opening stood.done stood.names stood.in_run e next).1;
      is_half_aborted = half;
      room = λ w low high. has_room (behind_durables was.next) w (room_behind was.next (desk_of was.work was.desks w).session.is_open (length (queue_of is.ends w)) (length (queue_of was.ends w)) (waiting stood.opening s w) (less w low high)
          ((none stood.opening stood.done stood.names stood.in_run e).waiting_is w low high) (stood.room w low high)) next;
      is_open = due_is (behind_durables was.next) (behind_due was.next (was.work.session.is_open ≡ true) stood.is_open) next;
    }
