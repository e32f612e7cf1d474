use Rattle.std.proofs.Common.{◌≡◌, None, Some, refl}
use Rattle.cooling_stage.specs.Queue.{found}
use Rattle.row_saver.proofs.FrameLemmas.{found_clean, found_cooling, found_elsewhere, found_hot, found_nowhere, found_wide}
use Rattle.row_saver.proofs.looking.dirty_in.Goals as goal

pub returns-then-words-clause-found : goal.returns-then-words-clause-found
returns-then-words-clause-found g c = let w = c.words_in-words in found_clean c.requires.seated c.requires.frame w.ensures.looks w.result w.ensures.shows c.if-words.true

pub returns-in-Err-clause-found : goal.returns-in-Err-clause-found
returns-in-Err-clause-found g c = let w = c.words_in-words in found_wide c.requires.seated c.requires.frame w.ensures.looks w.result w.ensures.shows c.in-Err.ensures

pub returns-then-words-2-clause-found : goal.returns-then-words-2-clause-found
returns-then-words-2-clause-found g c =
    let w = c.words_in-words in
    found_hot c.requires.seated c.requires.frame w.ensures.looks w.result w.ensures.shows c.if-words.false c.if-words-2.true (record { page = c.in-Ok.page; gsn = w.result.gsn }) c.in-Ok.ensures.1 refl

pub returns-in_default-clause-found : goal.returns-in_default-clause-found
returns-in_default-clause-found g c =
    let w = c.words_in-words in
    let a = c.in_default.ensures in
    let b = c.in_default.is in
    let none : found c.in-Ok.page c.args.stage.now.queue ≡ None = cc in
    found_nowhere c.requires.seated c.requires.frame w.ensures.looks w.result w.ensures.shows c.if-words-2.false c.in-Ok.ensures.1 none

pub returns-then-entry-frame-clause-found : goal.returns-then-entry-frame-clause-found
returns-then-entry-frame-clause-found g c =
    let w = c.words_in-words in
    let a = c.in-Some.ensures in
    let b = c.in-Some.is in
    let there : found c.in-Ok.page c.args.stage.now.queue ≡ Some c.in-Some.entry = cc in
    found_cooling c.requires.seated c.requires.frame w.ensures.looks w.result w.ensures.shows c.if-words-2.false c.in-Ok.ensures.1 c.in-Some.entry there c.if-entry-frame.true c.if-words.false (record { page = c.in-Ok.page; gsn = w.result.gsn }) refl refl

pub returns-clause-found : goal.returns-clause-found
returns-clause-found g c =
    let w = c.words_in-words in
    let a = c.in-Some.ensures in
    let b = c.in-Some.is in
    let there : found c.in-Ok.page c.args.stage.now.queue ≡ Some c.in-Some.entry = cc in
    found_elsewhere c.requires.seated c.requires.frame w.ensures.looks w.result w.ensures.shows c.if-words-2.false c.in-Ok.ensures.1 c.in-Some.entry there c.if-entry-frame.false
