-- Which sessions may be flushed, by the desks.
use Rattle.std.proofs.Common.{◌≡◌, ◌↔◌, ◌⊎◌, inl, inr, ◌≤◌, ◌<◌, ◌==◌, ℕ, zero, suc, Bool, true, false, cond, List, [], ◌∷◌, length, get_or, refl, sym, ap, ◌∙◌, subst, arith}
use Rattle.std.proofs.lemmas.Bool.{and_from, and_parts, cases_eq}
use Rattle.map_model.specs.Lists.{all}
use Rattle.session_state.specs.rows_trait.declared.view.View.{View}
use Rattle.session_state.specs.rows_trait.Views.{Shape}
use Rattle.session_state.specs.worker_log.Calls.{flushed_log}
use Rattle.session_state.specs.worker_log.Logs.{Log}
use Rattle.session_state.specs.Syncs.{EveryFlush, MayFlush, flushed_of}
use Rattle.session_state.specs.declared.session.Session.{Session}
use Rattle.session_desks.specs.Desks.{desk_of, log_of, place_of}
use Rattle.session_desks.specs.Machines.{AreDesks}
use Rattle.session_desks.specs.Syncs.{AreRaisedTo, AreStill, AreWhole, MayFlushEach, all_find_room, finds_room_desk}
use Rattle.session_desks.specs.declared.desk.Desk.{Desk}
use Rattle.session_desks.proofs.DeskLemmas.{desk_apart, desk_own, get_any, place_low}
use Rattle.session_desks.proofs.SeatLemmas.{turn_high, turn_low}
use Rattle.session_desks.proofs.SyncNeeds.{Seats, seats}

-- ## At a place

each_of : (desks : List Desk) → all finds_room_desk desks ≡ true → (i : ℕ) (x : Desk) → i < length desks → finds_room_desk (get_or desks i x) ≡ true
each_of [] h i x lt = absurd (omega arith)
each_of (d ∷ ds) h zero x lt = (and_parts (finds_room_desk d) (all finds_room_desk ds) h).0
each_of (d ∷ ds) h (suc i) x lt = each_of ds (and_parts (finds_room_desk d) (all finds_room_desk ds) h).1 i x (omega arith)

of_each : (desks : List Desk) → ((i : ℕ) (x : Desk) → i < length desks → finds_room_desk (get_or desks i x) ≡ true) → all finds_room_desk desks ≡ true
of_each [] h = refl
of_each (d ∷ ds) h = and_from (finds_room_desk d) (all finds_room_desk ds) (h 0 d (omega arith)) (of_each ds (λ i x lt. h (suc i) x (omega arith)))

-- ## Of each session

module _ (law : EveryFlush) (z : Shape) (v : View) (work : Desk) (desks : List Desk) (are : AreDesks z v work desks) where
  -- while no abort is half done
  pub may_whole : AreWhole work.session.workers work desks → MayFlushEach work.session.workers work desks
  may_whole whole w low high = let d = desk_of work desks w in
      law.whole z v (record d.session { free = work.session.free }) d.log (are.each w low high).holds (whole w low high)

  decided : (d : Desk) → (finds_room_desk d ≡ true) ↔ MayFlush d.session d.log
  decided d = law.decided d.session d.log

  found : all_find_room work desks ≡ true → MayFlushEach work.session.workers work desks
  found h w low high = (decided (desk_of work desks w)).0 (at (cases_eq w work.session.own))
    where
      p : (finds_room_desk work ≡ true) × (all finds_room_desk desks ≡ true)
      p = and_parts (finds_room_desk work) (all finds_room_desk desks) h

      at : (w ≡ work.session.own) ⊎ (w ≡ work.session.own → ⊥) → finds_room_desk (desk_of work desks w) ≡ true
      at (inl e) = ap finds_room_desk (desk_own work desks w e) ∙ p.0
      at (inr n) = ap finds_room_desk (desk_apart work desks w n) ∙ each_of desks p.1 (place_of work.session.own w) work
          (place_low work.session.own w work.session.workers desks are.count (turn_low z v work desks are) (turn_high z v work desks are) low high n)

  find : MayFlushEach work.session.workers work desks → all_find_room work desks ≡ true
  find may = and_from (finds_room_desk work) (all finds_room_desk desks) first (of_each desks each)
    where
      own : ℕ
      own = work.session.own

      at : (w : ℕ) → 0 < w → w ≤ work.session.workers → finds_room_desk (desk_of work desks w) ≡ true
      at w low high = (decided (desk_of work desks w)).1 (may w low high)

      first : finds_room_desk work ≡ true
      first = ap finds_room_desk (sym (desk_own work desks own refl)) ∙ at own (turn_low z v work desks are) (turn_high z v work desks are)

      one_some : 0 < work.session.workers
      one_some = let c = are.count in omega arith

      each : (i : ℕ) (x : Desk) → i < length desks → finds_room_desk (get_or desks i x) ≡ true
      each i x lt = ap finds_room_desk (get_any desks i x work lt ∙ (ap (λ (k : ℕ). get_or desks k work) (sym s.1.place) ∙ sym (desk_apart work desks s.0 s.1.other))) ∙ at s.0 s.1.low (high s.1.high)
        where
          s : (w : ℕ) × Seats own i w
          s = seats own i

          high : {w : ℕ} → (w ≡ suc (suc i)) ⊎ (w ≡ 1) → w ≤ work.session.workers
          high (inl e) = let c = are.count in let l = lt in omega arith
          high (inr e) = let a = one_some in omega arith

  pub all_decided : (all_find_room work desks ≡ true) ↔ MayFlushEach work.session.workers work desks
  all_decided = (found, find)

-- ## Behind flushes and a sync

-- where the log of a session is as it was
pub may_still : (o x : Session) (was is : Log) → x ≡ record o { free = x.free; unflushed = x.unflushed } → is ≡ was → MayFlush o was → MayFlush x is
may_still o x was is still same may = subst (λ (s : Session). MayFlush s is) (sym still) (subst (λ (l : Log). MayFlush (record o { free = x.free; unflushed = x.unflushed }) l) (sym same) may)

-- where it was flushed, and all were synced
flushed_too : EveryFlush → (x : Session) (log : Log) → MayFlush x log → MayFlush x (flushed_of log)
flushed_too law x log may = go (log.last == log.flushed)
  where
    go : (b : Bool) → MayFlush x (cond b log (flushed_log log))
    go true = may
    go false = law.flushed x log may

pub may_raised : EveryFlush → (many : ℕ) (x d y : Desk) (xs ds ys : List Desk) (n : ℕ) → AreStill many x xs d ds → ((w : ℕ) → 0 < w → w ≤ many → log_of d ds w ≡ flushed_of (log_of x xs w)) → AreRaisedTo many d ds y ys n
    → MayFlushEach many x xs → MayFlushEach many y ys
may_raised law many x d y xs ds ys n still after raised may w low high =
    let a = flushed_too law (desk_of x xs w).session (desk_of x xs w).log (may w low high) in
    let b = may_still (desk_of x xs w).session (desk_of d ds w).session (flushed_of (desk_of x xs w).log) (desk_of d ds w).log (still w low high) (after w low high) a in
    subst (λ (e : Desk). MayFlush e.session e.log) (sym (raised w low high)) (law.synced (desk_of d ds w).session (desk_of d ds w).log n b)
