-- The least page, by the first block of which one is in.
use Rattle.std.proofs.Common.{◌*◌, drop, arith}
use Rattle.std.proofs.lemmas.List.{take_rest}
use Rattle.free_pages.specs.Pages.{IsEmpty, IsLeast}
use Rattle.free_pages.specs.Inside.{AreUnused, IsFirstUsed}
use Rattle.free_pages.specs.declared.blocks.TheConstants.{BLOCK}
use Rattle.free_pages.proofs.PartLemmas.{least_from_block, none_from_blocks, some_from_block}
use Rattle.free_pages.proofs.pages.FreePages.least.Goals as goal

pub returns-in_err-block : goal.returns-in_err-block
returns-in_err-block c =
    let unused : AreUnused c.self.inside.in_block.items = rw c.deref.ensures.value at (c.in_err-block.ensures) in
    rw (c.from_residual.ensures, ← c.self.view_is) (none_from_blocks BLOCK _ _ _ (omega arith) c.self.invariant unused)

pub returns-in_err-place : goal.returns-in_err-place
returns-in_err-place c =
    let first : IsFirstUsed c.self.inside.in_block.items c.in_ok-block.block = rw c.deref.ensures.value at (c.in_ok-block.ensures) in
    let none : IsEmpty (drop (c.in_ok-block.block * BLOCK) c.self.inside.marks.items) = rw (take_rest, c.deref-2.ensures.value) at (c.in_err-place.ensures) in
    absurd (some_from_block BLOCK _ _ _ (omega arith) c.self.invariant c.in_ok-block.block first none)

pub returns : goal.returns
returns c =
    let first : IsFirstUsed c.self.inside.in_block.items c.in_ok-block.block = rw c.deref.ensures.value at (c.in_ok-block.ensures) in
    let l : IsLeast (drop (c.in_ok-block.block * BLOCK) c.self.inside.marks.items) c.in_ok-place.place = rw (take_rest, c.deref-2.ensures.value) at (c.in_ok-place.ensures) in
    rw (← c.self.view_is) (least_from_block BLOCK _ _ _ (omega arith) c.self.invariant c.in_ok-block.block first c.in_ok-place.place l)
