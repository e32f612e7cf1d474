-- A page that was in is out.
use Rattle.std.proofs.Common.{◌≡◌, ◌<◌, length, true, false, arith}
use Rattle.std.proofs.lemmas.List.{get_or_default}
use Rattle.free_pages.specs.Pages.{is_in}
use Rattle.free_pages.specs.declared.blocks.TheConstants.{BLOCK}
use Rattle.free_pages.proofs.CountLemmas.{count_some}
use Rattle.free_pages.proofs.PartLemmas.{found_some, counted_out}
use Rattle.free_pages.proofs.pages.FreePages.remove.Goals as goal

pub overflow_sub-index_mut : goal.overflow_sub-index_mut
overflow_sub-index_mut c =
    let lt : c.args.page < length c.self.inside.marks.items = rw c.self.view_is c.requires in
    let here : is_in c.self.inside.marks.items c.args.page ≡ true = cc (get_or_default c.self.inside.marks.items c.args.page false true lt) in
    let some = found_some BLOCK _ _ _ _ _ (omega arith) lt c.self.invariant c.index_mut-2.ensures.value here in
    omega arith

pub overflow_sub-self : goal.overflow_sub-self
overflow_sub-self c =
    let lt : c.args.page < length c.self.inside.marks.items = rw c.self.view_is c.requires in
    let here : is_in c.self.inside.marks.items c.args.page ≡ true = cc (get_or_default c.self.inside.marks.items c.args.page false true lt) in
    let some = count_some c.self.inside.marks.items c.args.page here in
    let sum = c.self.invariant.sum in
    omega arith

pub invariant_of-self : goal.invariant_of-self
invariant_of-self c =
    let lt : c.args.page < length c.self.inside.marks.items = rw c.self.view_is c.requires in
    counted_out BLOCK _ _ _ _ _ (omega arith) lt c.self.invariant c.index_mut-2.ensures.value (cc (get_or_default c.self.inside.marks.items c.args.page false true lt))
