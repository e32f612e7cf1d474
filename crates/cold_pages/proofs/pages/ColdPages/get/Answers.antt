-- What the words of a page say.
use Rattle.std.proofs.Common.{◌∙◌, sym, arith}
use Rattle.std.proofs.lemmas.List.{get_or_default}
use Rattle.cold_pages.proofs.RowLemmas.{page_within, kept_of-rows}
use Rattle.cold_pages.proofs.pages.ColdPages.get.Goals as goal

pub index-requires : goal.index-requires
index-requires c = let l = page_within _ _ _ _ _ _ _ c.self.invariant _ c.args.page c.self.view_is c.requires in omega arith

pub index-requires-2 : goal.index-requires-2
index-requires-2 c = let l = page_within _ _ _ _ _ _ _ c.self.invariant _ c.args.page c.self.view_is c.requires in let e = c.self.invariant.lasts in omega arith

pub index-requires-3 : goal.index-requires-3
index-requires-3 c = let l = page_within _ _ _ _ _ _ _ c.self.invariant _ c.args.page c.self.view_is c.requires in let e = c.self.invariant.levels in omega arith

pub index-requires-4 : goal.index-requires-4
index-requires-4 c = let l = page_within _ _ _ _ _ _ _ c.self.invariant _ c.args.page c.self.view_is c.requires in let e = c.self.invariant.lows in omega arith

pub index-requires-5 : goal.index-requires-5
index-requires-5 c = let l = page_within _ _ _ _ _ _ _ c.self.invariant _ c.args.page c.self.view_is c.requires in let e = c.self.invariant.highs in omega arith

pub index-requires-6 : goal.index-requires-6
index-requires-6 c = let l = page_within _ _ _ _ _ _ _ c.self.invariant _ c.args.page c.self.view_is c.requires in let e = c.self.invariant.counts in omega arith

pub index-requires-7 : goal.index-requires-7
index-requires-7 c = let l = page_within _ _ _ _ _ _ _ c.self.invariant _ c.args.page c.self.view_is c.requires in let e = c.self.invariant.parents in omega arith

pub returns-clause-answer : goal.returns-clause-answer
returns-clause-answer c =
    let i = c.self.inside in
    let p = c.args.page in
    let l = page_within _ _ _ _ _ _ _ c.self.invariant _ p c.self.view_is c.requires in
    let e2 = c.self.invariant.lasts in
    let e3 = c.self.invariant.levels in
    let e4 = c.self.invariant.lows in
    let e5 = c.self.invariant.highs in
    let e6 = c.self.invariant.counts in
    let e7 = c.self.invariant.parents in
    let g1 = c.index.ensures ∙ get_or_default i.gsns.items p c.index.result.now 0 (omega arith) in
    let g2 = c.index-2.ensures ∙ get_or_default i.lasts.items p c.index-2.result.now 0 (omega arith) in
    let g3 = c.index-3.ensures ∙ get_or_default i.levels.items p c.index-3.result.now 0 (omega arith) in
    let g4 = c.index-4.ensures ∙ get_or_default i.lows.items p c.index-4.result.now 0 (omega arith) in
    let g5 = c.index-5.ensures ∙ get_or_default i.highs.items p c.index-5.result.now 0 (omega arith) in
    let g6 = c.index-6.ensures ∙ get_or_default i.counts.items p c.index-6.result.now 0 (omega arith) in
    let g7 = c.index-7.ensures ∙ get_or_default i.parents.items p c.index-7.result.now 0 (omega arith) in
    rw (c.from_byte.ensures.answer, c.from_word.ensures.answer, g1, g2, g3, g4, g5, g6, g7, ← c.self.view_is) (sym (kept_of-rows _ _ _ _ _ _ _ c.self.invariant p l))
