use Rattle.std.proofs.Common.{◌≡◌, ◌∙◌, Some, slice_get, sym, ap, subst}
use Rattle.lean_disk.specs.Calls.{Wrote}
use Rattle.disk_runs.specs.disk_slots.Pages.{page_slot}
use Rattle.disk_runs.specs.page_store.Saved.{place_of}
use Rattle.page_calls.specs.Slots.{saved_slot}
use Rattle.page_calls.specs.Calls.{SavesOn}
use Rattle.page_calls.specs.Mirrors.{SavesMirrors}
use Rattle.page_calls.proofs.Saving.{keeps_moments, saves_on, other_of, wrote_within}
use Rattle.page_calls.proofs.Mirroring.{fails_mirrors, saves_mirrors}
use Rattle.page_calls.proofs.calls.save.Goals as goal

pub returns-in_default-clause-any_moment : goal.returns-in_default-clause-any_moment
returns-in_default-clause-any_moment g c =
    let y = c.args.node.now in
    let slots = c.args.slots.now in
    let s = c.of-slot.result in
    let there : slice_get slots y.number ≡ Some s = subst (λ p. slice_get slots p ≡ Some s) c.number-page.ensures c.of-slot.ensures in
    let wrote = subst (λ a. Wrote a (place_of y.number c.other.result) (page_slot y) c.save.result (g.P.Part.story c.args.dev.now) (g.P.Part.story c.save.new.dev)) c.requires.seat c.save.ensures.wrote in
    keeps_moments slots s y there (c.requires.early s there) c.requires.page c.every_kept.ensures c.every_prefix.ensures c.every_sealed.ensures c.every_version.ensures
    (g.P.Part.story c.args.dev.now) (g.P.Part.story c.save.new.dev) (g.met.P.Part.lawful c.args.dev.now) c.other.result (other_of s.second c.other.result c.other.ensures.other c.other.ensures.first) c.save.result wrote

pub returns-clause-any_moment : goal.returns-clause-any_moment
returns-clause-any_moment g c =
    let y = c.args.node.now in
    let slots = c.args.slots.now in
    let s = c.of-slot.result in
    let there : slice_get slots y.number ≡ Some s = subst (λ p. slice_get slots p ≡ Some s) c.number-page.ensures c.of-slot.ensures in
    let wrote = subst (λ a. Wrote a (place_of y.number c.other.result) (page_slot y) c.save.result (g.P.Part.story c.args.dev.now) (g.P.Part.story c.save.new.dev)) c.requires.seat c.save.ensures.wrote in
    keeps_moments slots s y there (c.requires.early s there) c.requires.page c.every_kept.ensures c.every_prefix.ensures c.every_sealed.ensures c.every_version.ensures
    (g.P.Part.story c.args.dev.now) (g.P.Part.story c.save.new.dev) (g.met.P.Part.lawful c.args.dev.now) c.other.result (other_of s.second c.other.result c.other.ensures.other c.other.ensures.first) c.save.result wrote

pub returns-clause-stands : goal.returns-clause-stands
returns-clause-stands g c = λ _.
    let y = c.args.node.now in
    let slots = c.args.slots.now in
    let s = c.of-slot.result in
    let there : slice_get slots y.number ≡ Some s = subst (λ p. slice_get slots p ≡ Some s) c.number-page.ensures c.of-slot.ensures in
    let wrote = subst (λ a. Wrote a (place_of y.number c.other.result) (page_slot y) c.save.result (g.P.Part.story c.args.dev.now) (g.P.Part.story c.save.new.dev)) c.requires.seat c.save.ensures.wrote in
    let is = c.note.ensures ∙ ap (λ p. saved_slot p slots) c.number-page.ensures in
    subst (λ n. SavesOn slots n y (g.P.Part.story c.args.dev.now) (g.P.Part.story c.save.new.dev)) (sym is)
    (saves_on slots s y there (c.requires.early s there) c.requires.page c.every_kept.ensures c.every_prefix.ensures c.every_sealed.ensures c.every_version.ensures
    (g.P.Part.story c.args.dev.now) (g.P.Part.story c.save.new.dev) (g.met.P.Part.lawful c.args.dev.now) c.other.result (other_of s.second c.other.result c.other.ensures.other c.other.ensures.first) c.save.result wrote c.in-Done.is)

pub returns-in_default-clause-within : goal.returns-in_default-clause-within
returns-in_default-clause-within g c =
    wrote_within (place_of c.args.node.now.number c.other.result) (page_slot c.args.node.now) c.save.result (g.P.Part.story c.args.dev.now) (g.P.Part.story c.save.new.dev) (g.met.P.Part.lawful c.args.dev.now)
    (subst (λ a. Wrote a (place_of c.args.node.now.number c.other.result) (page_slot c.args.node.now) c.save.result (g.P.Part.story c.args.dev.now) (g.P.Part.story c.save.new.dev)) c.requires.seat c.save.ensures.wrote)

pub returns-clause-within : goal.returns-clause-within
returns-clause-within g c =
    wrote_within (place_of c.args.node.now.number c.other.result) (page_slot c.args.node.now) c.save.result (g.P.Part.story c.args.dev.now) (g.P.Part.story c.save.new.dev) (g.met.P.Part.lawful c.args.dev.now)
    (subst (λ a. Wrote a (place_of c.args.node.now.number c.other.result) (page_slot c.args.node.now) c.save.result (g.P.Part.story c.args.dev.now) (g.P.Part.story c.save.new.dev)) c.requires.seat c.save.ensures.wrote)

pub returns-clause-mirrors : goal.returns-clause-mirrors
returns-clause-mirrors g c = λ _.
    let y = c.args.node.now in
    let slots = c.args.slots.now in
    let s = c.of-slot.result in
    let there : slice_get slots y.number ≡ Some s = subst (λ p. slice_get slots p ≡ Some s) c.number-page.ensures c.of-slot.ensures in
    let wrote = subst (λ a. Wrote a (place_of y.number c.other.result) (page_slot y) c.save.result (g.P.Part.story c.args.dev.now) (g.P.Part.story c.save.new.dev)) c.requires.seat c.save.ensures.wrote in
    subst (λ n. SavesMirrors slots n y (g.P.Part.story c.args.dev.now) (g.P.Part.story c.save.new.dev)) (sym (c.note.ensures ∙ ap (λ p. saved_slot p slots) c.number-page.ensures))
    (saves_mirrors slots s y there (c.requires.early s there) c.requires.page (g.P.Part.story c.args.dev.now) (g.P.Part.story c.save.new.dev) c.other.result (other_of s.second c.other.result c.other.ensures.other c.other.ensures.first) c.save.result wrote
    c.every_read.ensures c.in-Done.is)

pub returns-in_default-clause-mirrors_failed : goal.returns-in_default-clause-mirrors_failed
returns-in_default-clause-mirrors_failed g c = λ _.
    let y = c.args.node.now in
    let slots = c.args.slots.now in
    let s = c.of-slot.result in
    let there : slice_get slots y.number ≡ Some s = subst (λ p. slice_get slots p ≡ Some s) c.number-page.ensures c.of-slot.ensures in
    let wrote = subst (λ a. Wrote a (place_of y.number c.other.result) (page_slot y) c.save.result (g.P.Part.story c.args.dev.now) (g.P.Part.story c.save.new.dev)) c.requires.seat c.save.ensures.wrote in
    fails_mirrors slots s y there (c.requires.early s there) c.requires.page (g.P.Part.story c.args.dev.now) (g.P.Part.story c.save.new.dev) c.other.result (other_of s.second c.other.result c.other.ensures.other c.other.ensures.first) c.save.result wrote
    c.every_page.ensures (g.met.P.Part.lawful c.args.dev.now) (g.met.P.Part.lawful c.save.new.dev)
