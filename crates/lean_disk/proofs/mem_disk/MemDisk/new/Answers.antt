use Rattle.std.proofs.Common.{◌≡◌, ◌<◌, ◌++◌, ◌∷◌, [], List, true, length, refl, sym, ap, subst, arith, length-append, vec_len}
use Rattle.lean_disk.specs.Memory.{view_at, all_here, never}
use Rattle.lean_disk.specs.declared.slot.Slot.{Slot}
use Rattle.lean_disk.specs.declared.slot.Slot.TheVariants.{Here}
use Rattle.lean_disk.proofs.BeginLemmas.{each_push, whole_push, log_begun, begin_dated, story_begins}
use Rattle.lean_disk.proofs.StepLemmas.{begin_in_step}
use Rattle.lean_disk.proofs.mem_disk.MemDisk.new.Goals as goal

pub loop-init : goal.loop-init
loop-init c = record {
  each = λ a. ap (λ (xs : List Slot). view_at xs a) c.new-list.ensures.items;
  whole = ap all_here c.new-list.ensures.items;
  size = ap length c.new-list.ensures.items;
}

pub loop-preserved : goal.loop-preserved
loop-preserved c =
    let list = c.loop.list.items in
    let slot = Here c.new.result in
    let more : c.push.new.self.items ≡ list ++ slot ∷ [] = c.in-Ok.ensures.items in
    record {
      each = λ a. subst (λ (xs : List Slot). view_at xs a ≡ never) (sym more) (each_push (λ a v. v ≡ never) list slot c.loop.invariant.each (log_begun c.new.result [] c.new.ensures.first c.new.ensures.calls) a);
      whole = subst (λ (xs : List Slot). all_here xs ≡ true) (sym more) (whole_push list slot c.loop.invariant.whole refl);
      size = omega (arith, ap length more, length-append list (slot ∷ []), c.loop.invariant.size);
    }

pub invariant_of-result : goal.invariant_of-result
invariant_of-result c =
    let size : length c.loop.list.items ≡ c.loop.counter = c.loop.invariant.size in
    let some : 0 < vec_len c.loop.list = omega arith in
    record { some = some; dated = begin_dated c.loop.list.items (length c.loop.list.items) (λ a. []) c.loop.invariant.whole refl c.loop.invariant.each; in_step = λ is. begin_in_step (view_at c.loop.list.items) (λ a. []) c.loop.invariant.each }

pub returns : goal.returns
returns c =
    let size : length c.loop.list.items ≡ c.args.areas = omega (arith, c.loop.invariant.size) in
    story_begins c.loop.list.items c.args.areas (λ a. []) c.loop.invariant.whole size c.loop.invariant.each
