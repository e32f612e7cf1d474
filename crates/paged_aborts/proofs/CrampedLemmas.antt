-- An abort that was not half done before the call is not held up by its own log: behind all that it put back, and the syncs that pages asked for, what is left to put back finds room
-- behind a flush.
use Rattle.std.proofs.Common.{◌≡◌, ◌∙◌, ◌≤◌, ◌++◌, ℕ, false, List, [], length, ap, refl, sym, subst, arith}
use Rattle.std.specs.Prelude.{min}
use Rattle.std.proofs.Math.Nat.{min-eq_left, min-le_left}
use Rattle.paged_desks.specs.core_calls.Fronts.{Done, front}
use Rattle.paged_desks.specs.core_calls.LogEvents.{IsTight, IsTightSomewhere, SyncsWhere}
use Rattle.paged_desks.specs.core_covers.Highs.{pages_above, writes}
use Rattle.paged_desks.specs.core_state.Events as happening
use Rattle.paged_desks.specs.core_state.Openings.{Opening}
use Rattle.paged_desks.specs.core_state.States.{State, nodes_of}
use Rattle.paged_desks.specs.core_state.Steps.{AllMet, state_after}
use Rattle.paged_desks.specs.engine_trait.Logs.{Logs}
use Rattle.lean_disk.specs.Story.{Story}
use Rattle.page_model.specs.Nodes.{Format, NodeOk}
use Rattle.page_model.specs.Tree.{IsTree}
use Rattle.paged_desks.specs.row_opening.Openings.{EveryNeed, EveryOpened, EveryReached}
use Rattle.paged_desks.specs.row_words.Moments.{events_of}
use Rattle.paged_desks.specs.row_words.Openings.{opening}
use Rattle.paged_desks.specs.rows_trait.declared.view.View.{View}
use Rattle.paged_desks.specs.rows_trait.Views.{state}
use Rattle.paged_desks.proofs.session_desks.DeskLemmas.{desk_own}
use Rattle.paged_desks.proofs.session_desks.SeatLemmas.{holds_of, turn_high, turn_low}
use Rattle.paged_desks.specs.session_desks.Desks.{desk_of}
use Rattle.paged_desks.specs.session_desks.Parts.{here, shape}
use Rattle.paged_desks.specs.session_desks.declared.desk.Desk.{Desk}
use Rattle.paged_desks.specs.session_state.Holds.{Holds}
use Rattle.paged_desks.specs.session_state.Reserves.{EveryReserve}
use Rattle.paged_desks.specs.session_state.Syncs.{MayFlush}
use Rattle.paged_desks.specs.session_state.Ties.{Behind}
use Rattle.paged_desks.specs.session_state.declared.session.Session.{Session}
use Rattle.sync_counts.specs.Syncs.{EverySyncCount, EveryTight, syncs}
use Rattle.paged_desks.specs.worker_log.Logs.{Log}
use Rattle.paged_desks.proofs.call_parts.RunLemmas.{behind_more, core_is, front_is}
use Rattle.paged_desks.proofs.Full.{tight_behind}
use Rattle.paged_desks.specs.Machines.{IsReady, memory, view_of}
use Rattle.paged_desks.specs.Parts.{IsStuck}
use Rattle.paged_desks.specs.declared.machine.PagedMachine.{PagedMachine}
use Rattle.paged_aborts.specs.Backs.{HasUndone, backs_in}
use Rattle.paged_aborts.proofs.FilledLemmas.{Phase, Steps, alike_self, fills, room_alike, writes_backs}

-- by what syncs are few, and blocks enough
pub record Bounds : Type 0 where
  pub opened : EveryOpened
  pub reserve : EveryReserve
  pub counts : EverySyncCount
  pub tights : EveryTight

-- ## How tall the tree is

levels_of : (g : Opening) (v : View) → EveryOpened → (xs : List Done) (first : List happening.Event) → Behind g xs first v → (nodes_of (state v).core 0).level ≤ 7
levels_of g v opened xs first b = ok.tall
  where
    tree : IsTree (opening v.given).format (nodes_of (state v).core)
    tree = (opened g v.given b.opens v.seen).tree

    ok : NodeOk (opening v.given).format (nodes_of (state v).core 0)
    ok = (tree.formed 0 tree.some).node tree.root.0

-- ## How many syncs there were

-- of pages above so many are counted at most
counted : (n : ℕ) → 24 ≤ n → min 24 n ≡ 24
counted n le = min-eq_left le

-- A page finds no frame behind these events of a run, among which syncs stand only where one does: so few of them were made.
two_syncs : EverySyncCount → EveryTight → (g : Opening) (es fs : List happening.Event) (key : ℕ) → 32 ≤ g.frames → g.format.levels ≤ 7 → (nodes_of (state_after g (es ++ fs)) 0).level ≤ 7
    → AllMet g (state_after g es) fs → SyncsWhere (IsTightSomewhere g) g (state_after g es) false fs → IsTight g (state_after g (es ++ fs)) key → writes fs ≤ 64 → syncs fs ≤ 2
two_syncs counts tights g es fs key frames levels tall met where_ tight few =
    let a = (counts g es fs).count 24 (omega arith) met where_ in
    let b = tights g (es ++ fs) key tight in
    let c = counted (pages_above g (state_after g (es ++ fs))) (omega arith) in
    let d = min-le_left 24 (pages_above g (state_after g es)) in
    omega arith

-- ## Its own log

module _ (reached : EveryReached) (needs : EveryNeed) (bounds : Bounds) {D : Type 0} (story : D → Story) (m n : PagedMachine D) (ready : IsReady story m) (most : ℕ) (u : HasUndone story most m n) (g : Opening) (xs : List Done) (b : Behind g xs [] (view_of m)) (key : ℕ) (s : IsStuck key n) where
  abbrev x : Session
  x = m.machine.work.session

  abbrev own : ℕ
  own = x.own

  abbrev at : State
  at = state_after g (front xs)

  abbrev fs : List happening.Event
  fs = events_of u.events

  held : Holds (shape m.machine) (view_of m) x m.machine.work.log
  held = holds_of (shape m.machine) (view_of m) (here m.machine) m.machine.desks.items ready.sound.desks

  met : AllMet g at fs
  met = (u.part.logged g xs [] b).met

  behind_u : Behind g xs fs (view_of n)
  behind_u = behind_more g xs [] (view_of m) b u.events (view_of n) u.part.given u.part.seen met

  -- the session's own log, before and behind
  log_m : (memory m).log own ≡ m.machine.work.log
  log_m = ap (λ (d : Desk). d.log) (desk_own (here m.machine) m.machine.desks.items own refl)

  log_n : (memory n).log own ≡ n.machine.work.log
  log_n = ap (λ (d : Desk). d.log) (desk_own (here n.machine) n.machine.desks.items own (sym u.turn))

  logs : Logs own g at fs m.machine.work.log n.machine.work.log
  logs = subst (λ (q : Log × Log). Logs own g at fs q.0 q.1) (λ i. (log_m i, log_n i))
      ((u.part.logged g xs [] b).logs own (turn_low (shape m.machine) (view_of m) (here m.machine) m.machine.desks.items ready.sound.desks) (turn_high (shape m.machine) (view_of m) (here m.machine) m.machine.desks.items ready.sound.desks))

  -- ### The syncs

  few : backs_in u.events ≤ 64
  few = let a = u.left in let c = held.numbers.few in omega arith

  tall : (nodes_of (state_after g (front xs ++ fs)) 0).level ≤ 7
  tall = subst (λ (k : State). (nodes_of k 0).level ≤ 7) (core_is reached needs g xs fs (view_of n) behind_u ∙ sym (front_is g xs fs)) (levels_of g (view_of n) bounds.opened xs fs behind_u)

  tight : IsTight g (state_after g (front xs ++ fs)) key
  tight = subst (λ (k : State). IsTight g k key) (sym (front_is g xs fs)) (tight_behind reached needs g xs fs (view_of n) key behind_u s.tight)

  syncs_few : syncs fs ≤ 2
  syncs_few = two_syncs bounds.counts bounds.tights g (front xs) fs key
      (let a = b.opens.frames in let c = ready.keeps.sized.given in let d = ready.frames in omega arith)
      (let a = ap (λ (f : Format). f.levels) b.opens.format in omega arith)
      tall met (u.tight g xs [] b) tight (let a = few in let c = writes_backs own u.events u.backs in omega arith)

  -- ### What it filled

  filled_by : Steps Phase.Idle fs n.machine.work.log m.machine.work.log
  filled_by = fills (IsTightSomewhere g) g own fs Phase.Idle at m.machine.work.log n.machine.work.log m.machine.work.log (u.tight g xs [] b) u.backs logs (alike_self m.machine.work.log) tt

  may : x.is_half_aborted ≡ false → MayFlush n.machine.work.session n.machine.work.log
  may whole some = room_alike n.machine.work.log filled_by.log (length n.machine.work.session.undo) filled_by.alike
      (bounds.reserve.flush filled_by.steps m.machine.work.log filled_by.log (length n.machine.work.session.undo) held.numbers.hand (held.numbers.flush_room whole (let a = u.left in omega arith)) filled_by.made
      (let a = u.left in let c = held.numbers.few in let d = writes_backs own u.events u.backs in let e = syncs_few in let f = filled_by.takes in omega arith))

  -- so it is another session's abort that holds a sync up, where the own one was not half done
  pub not_own : x.is_half_aborted ≡ false → s.cramped.session ≡ own → ⊥
  not_own whole same = s.cramped.cramped (subst (λ (d : Desk). MayFlush d.session d.log) (sym (ap (λ w. desk_of (here n.machine) n.machine.desks.items w) same ∙ desk_own (here n.machine) n.machine.desks.items own (sym u.turn))) (may whole))
