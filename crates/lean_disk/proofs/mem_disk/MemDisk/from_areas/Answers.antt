use Rattle.std.specs.Prelude.{Vec}
use Rattle.std.proofs.Common.{◌≡◌, ◌∙◌, ◌<◌, ◌++◌, ◌∷◌, [], ℕ, List, true, length, refl, sym, ap, subst, arith, length-append, vec_len, Global}
use Rattle.std.proofs.lemmas.Iterator.Adapters.{YieldsList-from_vec}
use Rattle.std.proofs.lemmas.Iterator.Consumers.{YieldsList-end}
use Rattle.lean_disk.specs.Memory.{view_at, all_here, begun}
use Rattle.lean_disk.specs.MemDisk.{bytes_at}
use Rattle.lean_disk.specs.declared.slot.Slot.{Slot}
use Rattle.lean_disk.specs.declared.slot.Slot.TheVariants.{Here}
use Rattle.lean_disk.proofs.BeginLemmas.{whole_push, log_begun, begin_dated, story_begins}
use Rattle.lean_disk.proofs.CopyLemmas.{bytes_more, map_same}
use Rattle.lean_disk.proofs.StepLemmas.{begin_in_step}
use Rattle.lean_disk.proofs.mem_disk.MemDisk.from_areas.Goals as goal

pub loop-bytes-preserved : goal.loop-bytes-preserved
loop-bytes-preserved c =
    let list = c.loop-bytes.list.items in
    let slot = Here c.in_ok-log.log in
    let more : c.push.new.self.items ≡ list ++ slot ∷ [] = c.in-Ok.ensures.items in
    record {
      each = λ a. subst (λ (xs : List Slot). view_at xs a ≡ begun (bytes_at (c.loop-bytes.yielded ++ c.in-Some.bytes ∷ []) a)) (sym more)
          (bytes_more c.loop-bytes.yielded list c.in-Some.bytes slot c.loop-bytes.invariant.size c.loop-bytes.invariant.each (log_begun c.in_ok-log.log c.in-Some.bytes.items c.in_ok-log.ensures.first c.in_ok-log.ensures.calls) a);
      whole = subst (λ (xs : List Slot). all_here xs ≡ true) (sym more) (whole_push list slot c.loop-bytes.invariant.whole refl);
      size = omega (arith, ap length more, length-append list (slot ∷ []), length-append c.loop-bytes.yielded (c.in-Some.bytes ∷ []), c.loop-bytes.invariant.size);
    }

pub invariant_of-result : goal.invariant_of-result
invariant_of-result c =
    let items : c.into_iter-bytes-iterator.result.rest.items ≡ c.args.areas.items = c.into_iter-bytes-iterator.ensures.into_iter_gives.0 in
    let size : c.into_iter-bytes-iterator.result.rest.len ≡ length c.args.areas.items = omega (arith, ap length items) in
    let seen = YieldsList-end (YieldsList-from_vec c.args.areas.items items size) c.loop-bytes.yielded c.loop-bytes.bytes-iterator c.loop-bytes.yielded_by c.next.result c.next.new.self c.in-None.is c.next.ensures.steps in
    let all : c.loop-bytes.yielded ≡ c.args.areas.items = sym (map_same c.loop-bytes.yielded) ∙ seen.0 in
    let some : 0 < vec_len c.loop-bytes.list = omega (arith, ap length all, c.loop-bytes.invariant.size) in
    record { some = some; dated = begin_dated c.loop-bytes.list.items (length c.loop-bytes.list.items) (bytes_at c.loop-bytes.yielded) c.loop-bytes.invariant.whole refl c.loop-bytes.invariant.each; in_step = λ is. begin_in_step (view_at c.loop-bytes.list.items) (bytes_at c.loop-bytes.yielded) c.loop-bytes.invariant.each }

pub returns : goal.returns
returns c =
    let items : c.into_iter-bytes-iterator.result.rest.items ≡ c.args.areas.items = c.into_iter-bytes-iterator.ensures.into_iter_gives.0 in
    let size : c.into_iter-bytes-iterator.result.rest.len ≡ length c.args.areas.items = omega (arith, ap length items) in
    let seen = YieldsList-end (YieldsList-from_vec c.args.areas.items items size) c.loop-bytes.yielded c.loop-bytes.bytes-iterator c.loop-bytes.yielded_by c.next.result c.next.new.self c.in-None.is c.next.ensures.steps in
    let all : c.loop-bytes.yielded ≡ c.args.areas.items = sym (map_same c.loop-bytes.yielded) ∙ seen.0 in
    let number : length c.loop-bytes.list.items ≡ vec_len c.args.areas = omega (arith, ap length all, c.loop-bytes.invariant.size) in
    story_begins c.loop-bytes.list.items (vec_len c.args.areas) (bytes_at c.args.areas.items) c.loop-bytes.invariant.whole number
    (λ a. subst (λ (xs : List (Vec ℕ Global)). view_at c.loop-bytes.list.items a ≡ begun (bytes_at xs a)) all (c.loop-bytes.invariant.each a))
