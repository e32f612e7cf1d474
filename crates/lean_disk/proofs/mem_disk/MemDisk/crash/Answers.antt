use Rattle.std.proofs.Common.{◌≡◌, ◌∙◌, ◌+◌, ◌<◌, ◌++◌, ◌∷◌, [], ℕ, List, true, length, get_or, take, refl, sym, ap, subst, arith, length-append, vec_len}
use Rattle.std.proofs.lemmas.List.{take_more, take_all, length-take}
use Rattle.lean_disk.specs.Memory.{View, view_at, all_here, begun, area_now}
use Rattle.lean_disk.specs.Crashed.{left_by}
use Rattle.lean_disk.specs.declared.slot.Slot.{Slot}
use Rattle.lean_disk.specs.declared.slot.Slot.TheVariants.{Here}
use Rattle.lean_disk.proofs.BeginLemmas.{whole_push, begin_dated, story_begins}
use Rattle.lean_disk.proofs.CopyLemmas.{crashed_more, begins_after}
use Rattle.lean_disk.proofs.StepLemmas.{begin_in_step}
use Rattle.lean_disk.proofs.mem_disk.MemDisk.crash.Goals as goal

pub loop-slot-preserved : goal.loop-slot-preserved
loop-slot-preserved c =
    let areas = c.args.self.now.areas.items in
    let i = c.loop-slot.slot-index in
    let slot = c.slot-item.result in
    let news = c.loop-slot.list.items in
    let next = Here c.in_ok-log.log in
    let choice = c.args.choice in
    let m = c.args.moment in
    let inside : i < length areas = omega (arith, ap length c.deref-slot-items.ensures.value) in
    let is : slot ≡ get_or areas i slot = c.slot-item.is ∙ ap (λ (l : List Slot). get_or l i slot) c.deref-slot-items.ensures.value in
    let more : take (i + 1) areas ≡ take i areas ++ slot ∷ [] = take_more areas i slot inside ∙ ap (λ (s : Slot). take i areas ++ s ∷ []) (sym is) in
    let pushed : c.push.new.self.items ≡ news ++ next ∷ [] = c.in-Ok.ensures.items in
    let same : length news ≡ length (take i areas) = omega (arith, c.loop-slot.invariant.size, length-take i areas, inside) in
    record {
      each = λ a. subst (λ (xs : List Slot). view_at c.push.new.self.items a ≡ begun (left_by choice m (view_at xs a))) (sym more)
          (subst (λ (ys : List Slot). view_at ys a ≡ begun (left_by choice m (view_at (take i areas ++ slot ∷ []) a))) (sym pushed)
          (crashed_more choice m (take i areas) news slot next same c.loop-slot.invariant.each c.in_ok-log.ensures a));
      whole = subst (λ (xs : List Slot). all_here xs ≡ true) (sym pushed) (whole_push news next c.loop-slot.invariant.whole refl);
      size = omega (arith, ap length pushed, length-append news (next ∷ []), c.loop-slot.invariant.size);
    }

pub invariant_of-result : goal.invariant_of-result
invariant_of-result c =
    let d = c.args.self.now in
    let areas = d.areas.items in
    let size : length c.loop-slot.list.items ≡ c.loop-slot.slot-index = c.loop-slot.invariant.size in
    let all : c.loop-slot.slot-index ≡ length areas = omega (arith, ap length c.deref-slot-items.ensures.value) in
    let some : 0 < vec_len c.loop-slot.list = omega (arith, d.some, all, size) in
    record {
      some = some;
      dated = begin_dated c.loop-slot.list.items (length c.loop-slot.list.items) (λ a. left_by c.args.choice c.args.moment (view_at (take c.loop-slot.slot-index areas) a)) c.loop-slot.invariant.whole refl c.loop-slot.invariant.each;
      in_step = λ is. begin_in_step (view_at c.loop-slot.list.items) (λ a. left_by c.args.choice c.args.moment (view_at (take c.loop-slot.slot-index areas) a)) c.loop-slot.invariant.each;
    }

pub returns-clause-after : goal.returns-clause-after
returns-clause-after c =
    let d = c.args.self.now in
    let areas = d.areas.items in
    let news = c.loop-slot.list.items in
    let choice = c.args.choice in
    let m = c.args.moment in
    let all : c.loop-slot.slot-index ≡ length areas = omega (arith, ap length c.deref-slot-items.ensures.value) in
    let size : length news ≡ length areas = omega (arith, c.loop-slot.invariant.size, all) in
    let taken : take c.loop-slot.slot-index areas ≡ areas = take_all c.loop-slot.slot-index areas (omega (arith, all)) in
    let each : (a : ℕ) → view_at news a ≡ begun (left_by choice m (view_at areas a)) = λ a. subst (λ (xs : List Slot). view_at news a ≡ begun (left_by choice m (view_at xs a))) taken (c.loop-slot.invariant.each a) in
    begins_after d.own choice m d.made d.notes areas news each (story_begins news (length areas) (λ a. left_by choice m (view_at areas a)) c.loop-slot.invariant.whole size each)

pub returns-clause-left : goal.returns-clause-left
returns-clause-left c a =
    let areas = c.args.self.now.areas.items in
    let all : c.loop-slot.slot-index ≡ length areas = omega (arith, ap length c.deref-slot-items.ensures.value) in
    let taken : take c.loop-slot.slot-index areas ≡ areas = take_all c.loop-slot.slot-index areas (omega (arith, all)) in
    ap (λ (v : View). (area_now v).bytes) (c.loop-slot.invariant.each a) ∙ ap (λ (xs : List Slot). left_by c.args.choice c.args.moment (view_at xs a)) taken
