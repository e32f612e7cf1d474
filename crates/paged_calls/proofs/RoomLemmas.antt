-- A key may still be changed behind the coming of pages: no flush fills a log further, and no row is touched.
use Rattle.std.proofs.Common.{◌≡◌, ◌∙◌, ◌≤◌, ◌<◌, ◌+◌, ◌-◌, ◌%◌, ◌==◌, ◌++◌, ◌⊎◌, inl, inr, ℕ, Bool, true, false, cond, List, [], ◌∷◌, length, ap, refl, sym, subst, arith, true≢false}
use Rattle.std.proofs.lemmas.Bool.{cases_eq}
use Rattle.paged_desks.specs.core_state.Needs.{is_held_by, may}
use Rattle.paged_desks.specs.core_state.Openings.{Opening}
use Rattle.paged_desks.specs.core_state.States.{State}
use Rattle.paged_desks.specs.core_state.Steps as core
use Rattle.paged_desks.specs.core_state.Steps.{happens}
use Rattle.paged_desks.specs.engine_trait.Logs.{Logs, LogsOne}
use Rattle.lean_disk.specs.Story.{Story}
use Rattle.paged_desks.specs.row_words.declared.event.Event.{Event}
use Rattle.paged_desks.specs.row_words.declared.event.Event.TheVariants as told
use Rattle.paged_desks.specs.row_words.Moments.{event_of, events_of}
use Rattle.paged_desks.specs.row_words.Openings.{opening}
use Rattle.paged_desks.specs.rows_trait.declared.view.View.{View}
use Rattle.paged_desks.specs.rows_trait.Views.{state}
use Rattle.paged_desks.proofs.session_desks.DeskLemmas.{desk_own}
use Rattle.paged_desks.proofs.session_desks.SeatLemmas.{turn_high, turn_low}
use Rattle.paged_desks.specs.session_desks.Parts.{here, logs, shape}
use Rattle.paged_desks.specs.session_desks.declared.desk.Desk.{Desk}
use Rattle.paged_desks.proofs.session_state.Moments.{seen_state}
use Rattle.paged_desks.specs.session_state.declared.session.Session.{Session}
use Rattle.paged_desks.specs.worker_log.Calls.{flushed_log}
use Rattle.paged_desks.specs.worker_log.Logs.{Log, limit, used}
use Rattle.paged_desks.proofs.call_parts.RunLemmas.{run_core}
use Rattle.paged_desks.specs.Machines.{IsReady, view_of}
use Rattle.paged_desks.specs.Pages.{ArePaging, HasPagedWhere, IsKept, is_paging}
use Rattle.paged_desks.specs.declared.machine.PagedMachine.{PagedMachine}
use Rattle.paged_calls.specs.Changes.{MayStill}
use Rattle.paged_calls.proofs.WarmLemmas.{kept_own}

-- ## A log

-- it uses no more blocks of as many
pub record IsNoFuller (was is : Log) : Type 0 where
  pub fill : used is ≤ used was
  pub blocks : is.blocks ≡ was.blocks

same_log : (was is : Log) → is ≡ was → IsNoFuller was is
same_log was is e = record { fill = subst (λ (l : Log). used l ≤ used was) (sym e) (omega arith); blocks = ap (λ (l : Log). l.blocks) e }

-- a flush closes the block in hand, which was used
flushed_no_fuller : (log : Log) → IsNoFuller log (flushed_log log)
flushed_no_fuller log = record { fill = go (log.count == 0); blocks = refl }
  where
    go : (b : Bool) → ((log.next + cond b 0 1) - log.head) + 0 ≤ (log.next - log.head) + cond b 0 1
    go true = omega arith
    go false = omega arith

one_no_fuller : (w : ℕ) (g : Opening) (s : State) (e : Event) → is_paging e ≡ true → (was is : Log) → LogsOne w g s (event_of e) was is → IsNoFuller was is
one_no_fuller w g s (told.Flush v n) k was is o = go (cases_eq v w)
  where
    go : (v ≡ w) ⊎ (v ≡ w → ⊥) → IsNoFuller was is
    go (inl e) = subst (λ (l : Log). IsNoFuller was l) (sym (o.own e)) (flushed_no_fuller was)
    go (inr other) = same_log was is (o.other other)
one_no_fuller w g s (told.Sync n) k was is o = subst (λ (l : Log). IsNoFuller was l) (sym o) (record { fill = omega arith; blocks = refl })
one_no_fuller w g s (told.Fetch p pairs) k was is o = same_log was is o
one_no_fuller w g s (told.Load p f) k was is o = same_log was is o
one_no_fuller w g s (told.Cool p) k was is o = same_log was is o
one_no_fuller w g s (told.Rescue p) k was is o = same_log was is o
one_no_fuller w g s (told.Save p) k was is o = same_log was is o
one_no_fuller w g s (told.Evict p) k was is o = same_log was is o
one_no_fuller w g s told.Tick k was is o = same_log was is o
one_no_fuller w g s (told.Miss v) k was is o = same_log was is o
one_no_fuller w g s _ k was is o = absurd (true≢false (sym k))

-- whatever pages come, and however often all logs are synced for them
pub no_fuller : (w : ℕ) (g : Opening) (s : State) (es : List Event) → ArePaging es → (was is : Log) → Logs w g s (events_of es) was is → IsNoFuller was is
no_fuller w g s [] k was is l = same_log was is l
no_fuller w g s (e ∷ es) k was is l =
    let a = one_no_fuller w g s e k.0 was l.0 l.1 in
    let b = no_fuller w g (core.step g s (event_of e)) es k.1 l.0 is l.2 in
    record { fill = let p = a.fill in let q = b.fill in omega arith; blocks = b.blocks ∙ a.blocks }

-- so blocks for changes are left still
pub room_left : (was is : Log) → IsNoFuller was is → used was < limit was → used is < limit is
room_left was is n room = let p = n.fill in let q = n.blocks in omega arith

-- ## Rows

row_one : (g : Opening) (s : State) (e : Event) → is_paging e ≡ true → (happens g s (event_of e)).row ≡ s.row
row_one g s (told.Flush v n) k = refl
row_one g s (told.Sync n) k = refl
row_one g s (told.Fetch p pairs) k = refl
row_one g s (told.Load p f) k = refl
row_one g s (told.Cool p) k = refl
row_one g s (told.Rescue p) k = refl
row_one g s (told.Save p) k = refl
row_one g s (told.Evict p) k = refl
row_one g s told.Tick k = refl
row_one g s (told.Miss v) k = refl
row_one g s _ k = absurd (true≢false (sym k))

row_run : (g : Opening) (s : State) (es : List Event) → ArePaging es → (core.run g s (events_of es)).row ≡ s.row
row_run g s [] k = refl
row_run g s (e ∷ es) k = row_run g (core.step g s (event_of e)) es k.1 ∙ go (may g s (event_of e))
  where
    go : (b : Bool) → (cond b (happens g s (event_of e)) s).row ≡ s.row
    go true = row_one g s e k.0
    go false = refl

pub rows_kept : (v w : View) (es : List Event) → ArePaging es → w.given ≡ v.given → w.seen ≡ v.seen ++ es → (state w).core.row ≡ (state v).core.row
rows_kept v w es k given seen = ap (λ m. m.core.row) (seen_state v w es given seen) ∙ (ap (λ (s : State). s.row) (run_core v.given (state v) es) ∙ row_run (opening v.given) (state v).core es k)

-- ## A change

module _ {D : Type 0} (story : D → Story) (key : ℕ) where
  -- its log is used no further
  pub gone_no_fuller : {P : Opening → State → Type 0} (most : ℕ) (m n : PagedMachine D) → IsReady story m → HasPagedWhere P most m n → IsNoFuller m.machine.work.log n.machine.work.log
  gone_no_fuller most m n ready p = subst (λ (l : Log). IsNoFuller l n.machine.work.log) here_was (subst (λ (l : Log). IsNoFuller (logs m.machine own) l) here_is
      (no_fuller own (opening (view_of m).given) (state (view_of m)).core p.events p.paging (logs m.machine own) (logs n.machine own)
      (p.logged own (turn_low (shape m.machine) (view_of m) (here m.machine) m.machine.desks.items ready.sound.desks) (turn_high (shape m.machine) (view_of m) (here m.machine) m.machine.desks.items ready.sound.desks) (opening (view_of m).given) (state (view_of m)).core)))
    where
      own : ℕ
      own = m.machine.work.session.own

      here_was : logs m.machine own ≡ m.machine.work.log
      here_was = ap (λ (d : Desk). d.log) (desk_own (here m.machine) m.machine.desks.items own refl)

      here_is : logs n.machine own ≡ n.machine.work.log
      here_is = ap (λ (d : Desk). d.log) (desk_own (here n.machine) n.machine.desks.items own (sym p.turn))

  -- behind the coming of pages
  pub may_behind : {P : Opening → State → Type 0} (most : ℕ) (m n : PagedMachine D) → IsReady story m → HasPagedWhere P most m n → MayStill key m → MayStill key n
  may_behind most m n ready p f = record {
    is_open = ap (λ (x : Session). x.is_open) k.session ∙ f.is_open;
    whole = ap (λ (x : Session). x.is_half_aborted) k.session ∙ f.whole;
    few = let a = ap (λ (x : Session). length x.undo) k.session in let b = f.few in omega arith;
    room = room_left m.machine.work.log n.machine.work.log (gone_no_fuller most m n ready p) f.room;
    row = (λ i. is_held_by ((rows i) (key % (ap (λ (x : Session). x.held.count) k.session) i)).holder ((ap (λ (x : Session). x.own) k.session) i)) ∙ f.row;
  }
    where
      k : IsKept m.machine.work.session n.machine.work.session
      k = kept_own story key most m n ready p

      rows : (state (view_of n)).core.row ≡ (state (view_of m)).core.row
      rows = rows_kept (view_of m) (view_of n) p.events p.paging p.given p.seen
