-- A page that was out is in.
use Rattle.std.proofs.Common.{◌≡◌, ◌<◌, length, set, true, false, arith}
use Rattle.free_pages.specs.Pages.{is_in}
use Rattle.free_pages.specs.declared.blocks.TheConstants.{BLOCK}
use Rattle.free_pages.proofs.CountLemmas.{count_most}
use Rattle.free_pages.proofs.PartLemmas.{found_most, counted_in}
use Rattle.free_pages.proofs.pages.FreePages.insert.Goals as goal

pub overflow_add-index_mut : goal.overflow_add-index_mut
overflow_add-index_mut c =
    let lt : c.args.page < length c.self.inside.marks.items = rw c.self.view_is c.requires in
    let most = found_most BLOCK _ _ _ _ _ (omega arith) lt c.self.invariant c.index_mut-2.ensures.value in
    omega arith

-- with this page too the count is no more than there are pages
pub overflow_add-self : goal.overflow_add-self
overflow_add-self c =
    let lt : c.args.page < length c.self.inside.marks.items = rw c.self.view_is c.requires in
    let out : is_in c.self.inside.marks.items c.args.page ≡ false = cc in
    let k = counted_in BLOCK _ _ _ _ _ (omega arith) lt c.self.invariant c.index_mut-2.ensures.value out in
    let most = count_most (set c.self.inside.marks.items c.args.page true) in
    let few = k.few in
    let sum = k.sum in
    omega arith

pub invariant_of-self : goal.invariant_of-self
invariant_of-self c =
    let lt : c.args.page < length c.self.inside.marks.items = rw c.self.view_is c.requires in
    counted_in BLOCK _ _ _ _ _ (omega arith) lt c.self.invariant c.index_mut-2.ensures.value (cc)
