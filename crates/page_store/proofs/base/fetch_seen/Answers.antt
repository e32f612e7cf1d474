use Rattle.std.proofs.Common.{◌≡◌, ℕ, refl, ◌∙◌, ap, subst}
use Rattle.lean_disk.specs.Area.{Area}
use Rattle.lean_disk.specs.Moments.{OnlyReads}
use Rattle.lean_disk.specs.Story.{Seat, Story, Tells, areas_of}
use Rattle.lean_disk.proofs.MomentLemmas.{reads_none, reads_then}
use Rattle.disk_image.specs.disk_slots.declared.master.Master.{Master}
use Rattle.page_store.specs.Inside.{page_of, valid_in}
use Rattle.page_store.specs.Slots.{HoldsIn, IsHeldOf, slot_bytes}
use Rattle.page_store.specs.declared.slot.Held.{Held}
use Rattle.page_store.proofs.BaseLemmas.{ahead_found, base_found, bounds_of, held_valid, is_ahead_of, newest_own, none_found}
use Rattle.page_store.proofs.base.fetch_seen.Goals as goal

-- what was read of a slot is what stands in area 1 as it was at first
found : (s0 s : Story) (q0 q : Seat) (m : Master) (page i : ℕ) (h : Held) → OnlyReads s0 s → q ≡ q0 → q0.area ≡ 1
    → (Tells s q.area → HoldsIn (bounds_of m) page (slot_bytes page i (s.area q.area).bytes) h) → Tells s0 1 → HoldsIn (bounds_of m) page (slot_bytes page i (areas_of s0 1)) h
found s0 s q0 q m page i h reads seat area is told =
    let at : q.area ≡ 1 = ap (λ (x : Seat). x.area) seat ∙ area in
    let here : Tells s 1 → HoldsIn (bounds_of m) page (slot_bytes page i (s.area 1).bytes) h = subst (λ (a : ℕ). Tells s a → HoldsIn (bounds_of m) page (slot_bytes page i (s.area a).bytes) h) at is in
    subst (λ (x : Area). HoldsIn (bounds_of m) page (slot_bytes page i x.bytes) h) (reads.area 1) (here (reads.tells 1 ∙ told))

-- so it is what is valid there
valid : (m : Master) (page i : ℕ) (h : Held) (s0 : Story) → IsHeldOf (bounds_of m) page h → HoldsIn (bounds_of m) page (slot_bytes page i (areas_of s0 1)) h → page_of h ≡ valid_in m page i (areas_of s0 1)
valid m page i h s0 own is = held_valid (bounds_of m) page (slot_bytes page i (areas_of s0 1)) h is own

pub returns-in-Some-clause-own : goal.returns-in-Some-clause-own
returns-in-Some-clause-own g c = newest_own c.args.master.now c.args.page c.in-Ok.first c.in-Ok-fetch_at.second c.in-Some.seen.base c.in-Ok.ensures.own c.in-Ok-fetch_at.ensures.own c.in-Some.ensures.0

pub returns-in-Some-clause-base : goal.returns-in-Some-clause-base
returns-in-Some-clause-base g c told =
    let s0 = g.P.Part.story c.args.dev.now in
    let s1 = g.P.Part.story c.fetch_at.new.dev in
    let q0 = g.P.Part.seat c.args.dev.now in
    let q1 = g.P.Part.seat c.fetch_at.new.dev in
    let m = c.args.master.now in
    let page = c.args.page in
    let first = c.in-Ok.first in
    let second = c.in-Ok-fetch_at.second in
    let own_one = c.in-Ok.ensures.own in
    let own_two = c.in-Ok-fetch_at.ensures.own in
    base_found m page (areas_of s0) (page_of first) (page_of second)
    (valid m page 0 first s0 own_one (found s0 s0 q0 q0 m page 0 first (reads_none s0 (g.met.P.Part.lawful c.args.dev.now)) refl c.requires.seat c.in-Ok.ensures.answer told))
    (valid m page 1 second s0 own_two (found s0 s1 q0 q1 m page 1 second c.fetch_at.ensures.reads c.fetch_at.ensures.seat c.requires.seat c.in-Ok-fetch_at.ensures.answer told))
    c.in-Some.seen.base (newest_own m page first second c.in-Some.seen.base own_one own_two c.in-Some.ensures.0) c.in-Some.ensures.0

pub returns-in-Some-clause-ahead : goal.returns-in-Some-clause-ahead
returns-in-Some-clause-ahead g c told =
    let s0 = g.P.Part.story c.args.dev.now in
    let s1 = g.P.Part.story c.fetch_at.new.dev in
    let q0 = g.P.Part.seat c.args.dev.now in
    let q1 = g.P.Part.seat c.fetch_at.new.dev in
    let m = c.args.master.now in
    let page = c.args.page in
    let first = c.in-Ok.first in
    let second = c.in-Ok-fetch_at.second in
    let seen = c.in-Some.seen in
    is_ahead_of m page (areas_of s0) seen.base.slot seen.ahead (ahead_found m page (areas_of s0 1) first second
    (found s0 s0 q0 q0 m page 0 first (reads_none s0 (g.met.P.Part.lawful c.args.dev.now)) refl c.requires.seat c.in-Ok.ensures.answer told)
    (found s0 s1 q0 q1 m page 1 second c.fetch_at.ensures.reads c.fetch_at.ensures.seat c.requires.seat c.in-Ok-fetch_at.ensures.answer told)
    c.in-Ok.ensures.own c.in-Ok-fetch_at.ensures.own seen.base c.in-Some.ensures.0 seen.ahead c.in-Some.ensures.1)

pub returns-in-Some-clause-reads : goal.returns-in-Some-clause-reads
returns-in-Some-clause-reads g c = reads_then (g.P.Part.story c.args.dev.now) (g.P.Part.story c.fetch_at.new.dev) (g.P.Part.story c.fetch_at-2.new.dev) c.fetch_at.ensures.reads c.fetch_at-2.ensures.reads

pub returns-in-None-clause-reads : goal.returns-in-None-clause-reads
returns-in-None-clause-reads g c = reads_then (g.P.Part.story c.args.dev.now) (g.P.Part.story c.fetch_at.new.dev) (g.P.Part.story c.fetch_at-2.new.dev) c.fetch_at.ensures.reads c.fetch_at-2.ensures.reads

pub returns-in-None-clause-cause_damaged : goal.returns-in-None-clause-cause_damaged
returns-in-None-clause-cause_damaged g c same told =
    let s0 = g.P.Part.story c.args.dev.now in
    let s1 = g.P.Part.story c.fetch_at.new.dev in
    let q0 = g.P.Part.seat c.args.dev.now in
    let q1 = g.P.Part.seat c.fetch_at.new.dev in
    let m = c.args.master.now in
    let page = c.args.page in
    let first = c.in-Ok.first in
    let second = c.in-Ok-fetch_at.second in
    none_found m page (areas_of s0) (page_of first) (page_of second)
    (valid m page 0 first s0 c.in-Ok.ensures.own (found s0 s0 q0 q0 m page 0 first (reads_none s0 (g.met.P.Part.lawful c.args.dev.now)) refl c.requires.seat c.in-Ok.ensures.answer told))
    (valid m page 1 second s0 c.in-Ok-fetch_at.ensures.own (found s0 s1 q0 q1 m page 1 second c.fetch_at.ensures.reads c.fetch_at.ensures.seat c.requires.seat c.in-Ok-fetch_at.ensures.answer told))
    c.requires.page c.in-None.ensures
