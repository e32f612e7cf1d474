use Rattle.std.proofs.Common.{◌≡◌, ◌-◌, ℕ, IfOk, sym, subst}
use Rattle.std.proofs.lemmas.Result.{IfOk-weaker}
use Rattle.lean_disk.specs.Story.{Tells}
use Rattle.disk_runs.specs.page_store.Slots.{HasSeal, HoldsIn, IsOf, slot_bytes}
use Rattle.disk_runs.specs.page_store.declared.slot.Held.TheVariants as held
use Rattle.page_calls.specs.Calls.{bounds_of}
use Rattle.page_calls.specs.Mirrors.{LoadsMirrored}
use Rattle.page_calls.specs.Slots.{last_slot}
use Rattle.page_calls.proofs.Loading.{loads_on, reads_moments, reads_on}
use Rattle.page_calls.proofs.Mirroring.{loads_mirrored, reads_mirrors}
use Rattle.page_calls.proofs.calls.load.Goals as goal

-- what is said of the part's area and of this slot is said of the pages' area and of the slot that was written last
there : (P : ℕ → ℕ → Type 0) (area slot last : ℕ) → area ≡ 1 → slot ≡ last → P area slot → P 1 last
there P area slot last seat is p = subst (λ (k : ℕ). P 1 k) is (subst (λ (a : ℕ). P a slot) seat p)

pub returns-clause-answer : goal.returns-clause-answer
returns-clause-answer g c =
    let s0 = g.P.Part.story c.args.dev.now in
    let slots = c.args.slots.now in
    let s = c.of.result in
    let p = c.args.page in
    let b = bounds_of slots c.args.generation in
    let result = c.fetch_known.result in
    let e = c.fetch_known.ensures in
    loads_on slots s c.args.generation p c.of.ensures c.requires.page result s0 c.every_seal.ensures
    (there (λ a k. IfOk result (λ y. Tells s0 a → HoldsIn b p (slot_bytes p k (s0.area a).bytes) (held.Page y))) (g.P.Part.seat c.args.dev.now).area c.last_slot.result (last_slot s) c.requires.seat c.last_slot.ensures.answer
    (subst (λ n. IfOk result (λ y. Tells s0 (g.P.Part.seat c.args.dev.now).area → HoldsIn (record { pages = n; generation = c.args.generation }) p (slot_bytes p c.last_slot.result (s0.area (g.P.Part.seat c.args.dev.now).area).bytes) (held.Page y))) c.len.ensures e.answer))
    (subst (λ n. IfOk result (IsOf (record { pages = n; generation = c.args.generation }) p)) c.len.ensures e.own)
    e.not_valid
    (λ counts other same. there (λ a k. Tells s0 a → HasSeal b p (slot_bytes p k (s0.area a).bytes) counts) (g.P.Part.seat c.args.dev.now).area c.last_slot.result (last_slot s) c.requires.seat c.last_slot.ensures.answer
    (subst (λ n. Tells s0 (g.P.Part.seat c.args.dev.now).area → HasSeal (record { pages = n; generation = c.args.generation }) p (slot_bytes p c.last_slot.result (s0.area (g.P.Part.seat c.args.dev.now).area).bytes) counts) c.len.ensures
    (λ told. (e.cause_damaged counts other same told).0)))

pub returns-clause-stands : goal.returns-clause-stands
returns-clause-stands g c = reads_on c.args.slots.now (g.P.Part.story c.args.dev.now) (g.P.Part.story c.fetch_known.new.dev) c.fetch_known.ensures.reads

pub returns-clause-any_moment : goal.returns-clause-any_moment
returns-clause-any_moment g c = reads_moments c.every_kept.ensures c.every_prefix.ensures c.every_sealed.ensures c.args.slots.now (g.P.Part.story c.args.dev.now) (g.P.Part.story c.fetch_known.new.dev) c.fetch_known.ensures.reads

pub returns-clause-cause_damaged : goal.returns-clause-cause_damaged
returns-clause-cause_damaged g c counts other same told =
    let s0 = g.P.Part.story c.args.dev.now in
    let slots = c.args.slots.now in
    let s = c.of.result in
    let p = c.args.page in
    let b = bounds_of slots c.args.generation in
    let e = c.fetch_known.ensures in
    let area = (g.P.Part.seat c.args.dev.now).area in
    let both = e.cause_damaged counts other same (subst (Tells s0) (sym c.requires.seat) told) in
    record {
      slot = s;
      there = c.of.ensures;
      counts_is = there (λ a k. HasSeal b p (slot_bytes p k (s0.area a).bytes) counts) area c.last_slot.result (last_slot s) c.requires.seat c.last_slot.ensures.answer
          (subst (λ n. HasSeal (record { pages = n; generation = c.args.generation }) p (slot_bytes p c.last_slot.result (s0.area area).bytes) counts) c.len.ensures both.0);
      other_is = there (λ a k. HasSeal b p (slot_bytes p (1 - k) (s0.area a).bytes) other) area c.last_slot.result (last_slot s) c.requires.seat c.last_slot.ensures.answer
          (subst (λ n. HasSeal (record { pages = n; generation = c.args.generation }) p (slot_bytes p (1 - c.last_slot.result) (s0.area area).bytes) other) c.len.ensures both.1);
      not_valid = e.not_valid counts other same;
    }

pub returns-clause-saved : goal.returns-clause-saved
returns-clause-saved g c =
    let s0 = g.P.Part.story c.args.dev.now in
    let slots = c.args.slots.now in
    let s = c.of.result in
    let p = c.args.page in
    let b = bounds_of slots c.args.generation in
    let area = (g.P.Part.seat c.args.dev.now).area in
    IfOk-weaker c.fetch_known.result (λ y. Tells s0 1 → HoldsIn b p (slot_bytes p (last_slot s) (s0.area 1).bytes) (held.Page y)) (LoadsMirrored slots c.args.generation p s0)
    (λ y given. loads_mirrored slots c.args.generation p s s0 y c.of.ensures c.requires.page given)
    (there (λ a k. IfOk c.fetch_known.result (λ y. Tells s0 a → HoldsIn b p (slot_bytes p k (s0.area a).bytes) (held.Page y))) area c.last_slot.result (last_slot s) c.requires.seat c.last_slot.ensures.answer
    (subst (λ n. IfOk c.fetch_known.result (λ y. Tells s0 area → HoldsIn (record { pages = n; generation = c.args.generation }) p (slot_bytes p c.last_slot.result (s0.area area).bytes) (held.Page y))) c.len.ensures c.fetch_known.ensures.answer))

pub returns-clause-mirrors : goal.returns-clause-mirrors
returns-clause-mirrors g c = reads_mirrors c.args.slots.now (g.P.Part.story c.args.dev.now) (g.P.Part.story c.fetch_known.new.dev) c.fetch_known.ensures.reads
