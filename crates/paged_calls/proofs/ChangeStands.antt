-- A machine stands while the session whose turn it is changes a key, and its log has the record.
use Rattle.std.proofs.Common.{◌≡◌, ℕ, true, Option, [], ◌∷◌, ap}
use Rattle.paged_desks.specs.core_state.Steps.{at_pages, write_entry}
use Rattle.paged_desks.specs.image_model.Entries.{Kind}
use Rattle.lean_disk.specs.Story.{Story}
use Rattle.paged_desks.specs.log_record.declared.record.Record.{Record}
use Rattle.paged_desks.specs.page_pool.Pools.{EveryStanding}
use Rattle.row_room.specs.row_changes.Puts.{IsChanged}
use Rattle.paged_desks.specs.row_words.declared.event.Event.TheVariants as told
use Rattle.paged_desks.specs.row_words.Openings.{opening}
use Rattle.paged_desks.specs.rows_trait.Views.{state}
use Rattle.paged_desks.specs.session_desks.Parts.{SeatFits, shape}
use Rattle.row_room.proofs.row_changes.SeenLemmas.{seen_core}
use Rattle.paged_desks.proofs.session_state.OtherLemmas.{is_own, one_step}
use Rattle.paged_desks.specs.session_state.Holds.{Holds, IsSameSession}
use Rattle.paged_desks.specs.session_state.Others.{EveryOther}
use Rattle.paged_desks.specs.Machines.{IsReady, view_of}
use Rattle.paged_desks.specs.declared.machine.PagedMachine.{PagedMachine}
use Rattle.paged_desks.specs.Calls.{IsAside}
use Rattle.paged_calls.proofs.RecordStands.{change_enters, ready_entered}

pub ready_changed : {D : Type 0} (story : D → Story) (m n : PagedMachine D) → IsAside m n → IsSameSession m.machine.work.session n.machine.work.session → IsReady story m → EveryOther → EveryStanding → (key word : ℕ) (before : Option ℕ)
    → IsChanged m.machine.work.session.own (view_of m) (view_of n) key word before m.machine.work.log n.machine.work.log (story m.machine.work.disk) (story n.machine.work.disk) → SeatFits n.machine → n.machine.work.session.works ≡ true
    → Holds (shape n.machine) (view_of n) n.machine.work.session n.machine.work.log → IsReady story n
ready_changed story m n a same ready law standing key word before c fits works holds =
    let own = m.machine.work.session.own in
    let s = (state (view_of m)).core in
    let g = opening (view_of m).given in
    ready_entered story m n a same ready law standing (told.Change own c.page key word) (write_entry g Kind.Change s own (at_pages s own (s.worker own) (c.page ∷ [])) c.page key word) c.given
    (one_step own (view_of m) (view_of n) (told.Change own c.page key word) c.given c.seen (is_own own) c.met) (seen_core (view_of m) (view_of n) (told.Change own c.page key word) c.given c.seen c.met) (change_enters own c.page key word g s c.met)
    c.entry (ap (λ (r : Record). r.gsn) c.entry_is) c.after c.keeps fits works holds
