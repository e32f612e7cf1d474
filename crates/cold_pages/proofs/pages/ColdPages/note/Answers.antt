-- The words of a page are written.
use Rattle.std.proofs.Common.{◌∙◌, ap, set, arith, List}
use Rattle.cold_pages.specs.declared.kept.Kept.{Kept}
use Rattle.cold_pages.proofs.RowLemmas.{page_within, rows-set}
use Rattle.cold_pages.proofs.pages.ColdPages.note.Goals as goal

pub index_mut-requires : goal.index_mut-requires
index_mut-requires c = let l = page_within _ _ _ _ _ _ _ c.self.invariant _ c.args.page c.self.view_is c.requires.page in omega arith

pub index_mut-requires-2 : goal.index_mut-requires-2
index_mut-requires-2 c = let l = page_within _ _ _ _ _ _ _ c.self.invariant _ c.args.page c.self.view_is c.requires.page in let e = c.self.invariant.lasts in omega arith

pub index_mut-requires-3 : goal.index_mut-requires-3
index_mut-requires-3 c = let l = page_within _ _ _ _ _ _ _ c.self.invariant _ c.args.page c.self.view_is c.requires.page in let e = c.self.invariant.levels in omega arith

pub index_mut-requires-4 : goal.index_mut-requires-4
index_mut-requires-4 c = let l = page_within _ _ _ _ _ _ _ c.self.invariant _ c.args.page c.self.view_is c.requires.page in let e = c.self.invariant.lows in omega arith

pub index_mut-requires-5 : goal.index_mut-requires-5
index_mut-requires-5 c = let l = page_within _ _ _ _ _ _ _ c.self.invariant _ c.args.page c.self.view_is c.requires.page in let e = c.self.invariant.highs in omega arith

pub index_mut-requires-6 : goal.index_mut-requires-6
index_mut-requires-6 c = let l = page_within _ _ _ _ _ _ _ c.self.invariant _ c.args.page c.self.view_is c.requires.page in let e = c.self.invariant.counts in omega arith

pub index_mut-requires-7 : goal.index_mut-requires-7
index_mut-requires-7 c = let l = page_within _ _ _ _ _ _ _ c.self.invariant _ c.args.page c.self.view_is c.requires.page in let e = c.self.invariant.parents in omega arith

pub returns : goal.returns
returns c =
    rw (c.to_byte.ensures, c.to_word.ensures) (rows-set _ _ _ _ _ _ _ c.self.invariant c.args.page c.args.kept c.requires.level c.requires.parent ∙ ap (λ (z : List Kept). set z c.args.page c.args.kept) c.self.view_is)
