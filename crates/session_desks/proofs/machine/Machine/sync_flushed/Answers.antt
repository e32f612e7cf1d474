use Rattle.std.proofs.Common.{◌≡◌, ◌≤◌, true, false, ⊎_elim, ap, sym, subst, ◌∙◌, arith, true≢false}
use Rattle.std.proofs.lemmas.Bool.{cases_Bool}
use Rattle.session_state.specs.row_words.declared.event.Event.TheVariants as told
use Rattle.session_state.specs.declared.session.Session.{Session}
use Rattle.session_desks.specs.Parts.{here, shape}
use Rattle.session_desks.specs.Machines.{IsMachine}
use Rattle.session_desks.specs.Syncs.{IsWriting, IsWritten, all_end_at, greatest, next_with}
use Rattle.session_desks.specs.declared.desk.Desk.{Desk}
use Rattle.session_desks.proofs.NumberLemmas.{numbers_before}
use Rattle.session_desks.proofs.SyncGoes.{at_desk, at_store, end_at_all, end_at_none, may_sync_at, numbers_new, raised_to}
use Rattle.session_desks.proofs.SyncMachines.{machine_synced}
use Rattle.session_desks.proofs.SyncNeeds.{numbered}
use Rattle.session_desks.proofs.machine.Machine.sync_flushed.Goals as goal

pub returns-in-Err-clause-failed : goal.returns-in-Err-clause-failed
returns-in-Err-clause-failed g c =
    let s = c.args.self.now in
    let at = c.greatest_clock-number.ensures ∙ ap (greatest s.work.session.clock.clock) c.deref.ensures.value in
    λ _. subst (λ k. IsWriting (next_with s.master k) (g.D.Disk.story s.work.disk) (g.D.Disk.story c.write_floor.new.disk)) at
    (⊎_elim (λ (q : c.end_at-all_end.result ≡ true). absurd (true≢false (sym (c.in-Err.ensures.same q).0))) (λ (q : c.end_at-all_end.result ≡ false). c.in-Err.ensures.any_moment q) (cases_Bool c.end_at-all_end.result))

pub clocks_low-requires-clause-numbered : goal.clocks_low-requires-clause-numbered
clocks_low-requires-clause-numbered g c = let s = c.args.self.now in numbered (shape s) s.seat.view (here s) s.desks.items c.requires.machine.desks

pub store_synced-requires-clause-met : goal.store_synced-requires-clause-met
store_synced-requires-clause-met g c =
    let s = c.args.self.now in
    let x : Desk = here s in
    let z = shape s in
    let are = c.requires.machine.desks in
    let at = c.greatest_clock-number.ensures ∙ ap (greatest s.work.session.clock.clock) c.deref.ensures.value in
    (may_sync_at c.every_reached.ensures z s.seat.view x s.desks.items are s.master c.requires.machine.numbers c.requires.opens c.requires.logged c.requires.flushed c.clocks_low.ensures c.greatest_clock-number.result at).met

pub raise-requires-clause-flushed : goal.raise-requires-clause-flushed
raise-requires-clause-flushed g c =
    let s = c.args.self.now in
    let x : Desk = here s in
    let z = shape s in
    let are = c.requires.machine.desks in
    at_store z s.seat.view x s.desks.items are (λ d. d.log.flushed ≡ d.log.last) c.requires.flushed

pub raise-requires-clause-rises : goal.raise-requires-clause-rises
raise-requires-clause-rises g c =
    let s = c.args.self.now in
    let x : Desk = here s in
    let z = shape s in
    let are = c.requires.machine.desks in
    let at = c.greatest_clock-number.ensures ∙ ap (greatest s.work.session.clock.clock) c.deref.ensures.value in
    at_store z s.seat.view x s.desks.items are (λ d. d.log.last ≤ c.greatest_clock-number.result) (may_sync_at c.every_reached.ensures z s.seat.view x s.desks.items are s.master c.requires.machine.numbers c.requires.opens c.requires.logged c.requires.flushed c.clocks_low.ensures c.greatest_clock-number.result at).within

pub raise_desks-requires-clause-flushed : goal.raise_desks-requires-clause-flushed
raise_desks-requires-clause-flushed g c =
    let s = c.args.self.now in
    let x : Desk = here s in
    let z = shape s in
    let are = c.requires.machine.desks in
    at_desk z s.seat.view x s.desks.items are (λ d. d.log.flushed ≡ d.log.last) c.requires.flushed

pub raise_desks-requires-clause-rises : goal.raise_desks-requires-clause-rises
raise_desks-requires-clause-rises g c =
    let s = c.args.self.now in
    let x : Desk = here s in
    let z = shape s in
    let are = c.requires.machine.desks in
    let at = c.greatest_clock-number.ensures ∙ ap (greatest s.work.session.clock.clock) c.deref.ensures.value in
    at_desk z s.seat.view x s.desks.items are (λ d. d.log.last ≤ c.greatest_clock-number.result) (may_sync_at c.every_reached.ensures z s.seat.view x s.desks.items are s.master c.requires.machine.numbers c.requires.opens c.requires.logged c.requires.flushed c.clocks_low.ensures c.greatest_clock-number.result at).within

pub returns-clause-machine : goal.returns-clause-machine
returns-clause-machine g c =
    let s = c.args.self.now in
    let x : Desk = here s in
    let z = shape s in
    let are = c.requires.machine.desks in
    let at = c.greatest_clock-number.ensures ∙ ap (greatest s.work.session.clock.clock) c.deref.ensures.value in
    let n = c.greatest_clock-number.result in
    let rows = c.store_synced.new.rows in
    let e = c.in_default.ensures in
    let next = numbers_new c.every_reached.ensures z s.seat.view x s.desks.items are s.master c.requires.machine.numbers c.requires.opens c.requires.logged c.requires.flushed c.clocks_low.ensures c.requires.machine.floor c.write_floor.new.master
    c.end_at-all_end.result (c.end_at-all_end.ensures ∙ (ap (all_end_at n x.log) c.deref-2.ensures.value ∙ ap (λ k. all_end_at k x.log s.desks.items) at)) (λ q. (e.same q).2) (λ q. subst (λ k. c.write_floor.new.master ≡ next_with s.master k) at (e.next q).1) in
    subst (λ (d : Desk). IsMachine rows.frames rows.locks rows.workers rows.words.items c.store_synced.new.seat.view d c.raise_desks.new.desks.items s.latches c.write_floor.new.master) (λ i. record { session = sym c.raise.ensures.session i; log = sym c.raise.ensures.log i })
    (machine_synced c.every_synced.ensures s.rows.frames s.rows.locks s.rows.workers rows.frames rows.locks rows.workers s.rows.words.items rows.words.items s.seat.view c.store_synced.new.seat.view x s.desks.items c.raise_desks.new.desks.items s.latches s.master c.write_floor.new.master n
    c.requires.machine c.store_synced.ensures.fits.1 c.store_synced.ensures.fits.0 c.raise_desks.ensures c.requires.flushed c.store_synced.ensures.synced (let a = next.0 in omega arith) next.1)

pub returns-clause-numbers : goal.returns-clause-numbers
returns-clause-numbers g c =
    let s = c.args.self.now in
    let x : Desk = here s in
    let z = shape s in
    let are = c.requires.machine.desks in
    let at = c.greatest_clock-number.ensures ∙ ap (greatest s.work.session.clock.clock) c.deref.ensures.value in
    let n = c.greatest_clock-number.result in
    let e = c.in_default.ensures in
    let next = numbers_new c.every_reached.ensures z s.seat.view x s.desks.items are s.master c.requires.machine.numbers c.requires.opens c.requires.logged c.requires.flushed c.clocks_low.ensures c.requires.machine.floor c.write_floor.new.master
    c.end_at-all_end.result (c.end_at-all_end.ensures ∙ (ap (all_end_at n x.log) c.deref-2.ensures.value ∙ ap (λ k. all_end_at k x.log s.desks.items) at)) (λ q. (e.same q).2) (λ q. subst (λ k. c.write_floor.new.master ≡ next_with s.master k) at (e.next q).1) in
    numbers_before c.write_floor.new.master s.seat.view c.store_synced.new.seat.view (told.Sync n) x.session.workers c.raise.new.session.workers c.store_synced.ensures.synced.seen (ap (λ (k : Session). k.workers) c.raise.ensures.session) next.1

pub returns-clause-raised : goal.returns-clause-raised
returns-clause-raised g c =
    let s = c.args.self.now in
    let x : Desk = here s in
    let z = shape s in
    let are = c.requires.machine.desks in
    raised_to z s.seat.view x (record { session = c.raise.new.session; log = c.raise.new.log }) s.desks.items c.raise_desks.new.desks.items c.greatest_clock-number.result are c.raise_desks.ensures c.raise.ensures.session c.raise.ensures.log

pub returns-clause-written : goal.returns-clause-written
returns-clause-written g c =
    let s = c.args.self.now in
    let x : Desk = here s in
    let z = shape s in
    let are = c.requires.machine.desks in
    let n = c.greatest_clock-number.result in
    let ends = c.end_at-all_end.ensures ∙ ap (all_end_at n x.log) c.deref-2.ensures.value in
    let e = c.in_default.ensures in
    ⊎_elim
    (λ (q : c.end_at-all_end.result ≡ true). IsWritten.Still (end_at_all z s.seat.view x s.desks.items are n (sym ends ∙ q)) (e.same q).1 (e.same q).2)
    (λ (q : c.end_at-all_end.result ≡ false). IsWritten.Wrote (end_at_none z s.seat.view x s.desks.items are n (sym ends ∙ q)) (e.next q).0 (e.any_moment q) (e.next q).1)
    (cases_Bool c.end_at-all_end.result)
