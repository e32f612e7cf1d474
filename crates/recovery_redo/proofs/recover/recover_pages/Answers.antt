use Rattle.std.proofs.Common.{◌≡◌, ◌<◌, ℕ, Bool, false, List, length, get_or, Err, sym, ◌∙◌, ap, subst, arith}
use Rattle.std.specs.BTreeSet.{BTreeSet}
use Rattle.std.proofs.lemmas.Result.{err_from_is_err_and}
use Rattle.disk_image.specs.image_model.Ends as ends
use Rattle.disk_image.specs.Breaks.{Breaks}
use Rattle.node_tree.specs.Nodes.{nodes_of}
use Rattle.record_redo.specs.Pages.{MarksFor}
use Rattle.recovery_scan.specs.Records.{entries_of}
use Rattle.recovery_scan.specs.Scans.{AreOfLogs}
use Rattle.recovery_redo.specs.declared.recover.Failed.TheVariants.{Damaged}
use Rattle.recovery_redo.specs.Inside.{AreEnded, AreWords, IsRedone, is_named, is_leaf_of}
use Rattle.recovery_redo.proofs.CountLemmas.{words_from}
use Rattle.recovery_redo.proofs.PageLemmas.{own_both, same_both}
use Rattle.recovery_redo.proofs.MarkLemmas.{written, meant_from}
use Rattle.recovery_redo.proofs.ImageLemmas.{redone_within}
use Rattle.recovery_redo.proofs.DiskLemmas.{some_on, undoable, broken, lacking, recovered}
use Rattle.recovery_redo.proofs.recover.recover_pages.Goals as goal

pub returns-in_err-counted-clause-cause_damaged : goal.returns-in_err-counted-clause-cause_damaged
returns-in_err-counted-clause-cause_damaged c a place same m area loaded =
    let p = err_from_is_err_and c.from_residual.result c.from_residual.ensures.1 in
    let p1 = p.1 in
    let p2 = p.2 in
    let e : c.in_err-counted.field-0.0 ≡ Damaged a place = cc in
    undoable m area c.args.pages.now c.args.index.now c.args.logs c.args.floor c.requires.of_logs loaded a place (c.in_err-counted.ensures.cause a place (ap Err e))

pub returns-in_err-check_tree-clause-cause_damaged : goal.returns-in_err-check_tree-clause-cause_damaged
returns-in_err-check_tree-clause-cause_damaged c a page same m area loaded =
    let p = err_from_is_err_and c.from_residual-in_err-check_tree.result c.from_residual-in_err-check_tree.ensures.1 in
    let p1 = p.1 in
    let p2 = p.2 in
    let e : c.in_err-check_tree.field-0.0 ≡ Damaged a page = cc in
    let r = c.in_ok-counted.ensures in
    let k = r.kept.count in
    let n = loaded.count in
    let some : 0 < m.pages = some_on (area 0) m loaded.master in
    let f = c.in_err-check_tree.ensures.cause a page (ap Err e) (omega arith) in
    subst (λ (n : ℕ). Breaks m area n page) (sym f.0)
    (broken m area c.args.pages.now c.args.index.now c.args.logs c.args.floor c.requires.of_logs loaded c.redo_all.new.pages c.in_ok-counted.counted.items r.redone r.kept.count page f.1)

pub losers-requires : goal.losers-requires
losers-requires c =
    let count = ap length c.deref.ensures.value ∙ c.in-Ok-ended.ensures.count in
    record { of_logs = subst (λ n. AreOfLogs n c.args.index.now) (sym count) c.requires.of_logs }

pub undo-requires-clause-words : goal.undo-requires-clause-words
undo-requires-clause-words c =
    subst (AreWords c.args.index.now) (sym c.deref-2.ensures.value) (words_from c.args.pages.now c.redo_all.new.pages c.args.index.now c.in_ok-counted.counted.items c.in_ok-counted.ensures.redone)

pub undo-requires-clause-of_logs : goal.undo-requires-clause-of_logs
undo-requires-clause-of_logs c =
    let count = ap length c.deref-3.ensures.value ∙ c.in-Ok-ended.ensures.count in
    subst (λ n. AreOfLogs n c.args.index.now) (sym count) c.requires.of_logs

pub returns-in_err-undo-clause-cause_damaged : goal.returns-in_err-undo-clause-cause_damaged
returns-in_err-undo-clause-cause_damaged c a place same m area loaded =
    let p = err_from_is_err_and c.from_residual-in_err-undo.result c.from_residual-in_err-undo.ensures.1 in
    let p1 = p.1 in
    let p2 = p.2 in
    let e : c.in_err-undo.field-0.0 ≡ Damaged a place = cc in
    let old = c.args.pages.now in
    let items = c.args.index.now in
    let logs = c.args.logs in
    let mid = c.redo_all.new.pages in
    let r = c.in_ok-counted.ensures in
    let all = subst (λ (ms : List Bool). IsRedone old mid items ms (length items)) (sym c.deref-2.ensures.value) r.redone in
    let same_sets = subst (λ (sets : List (BTreeSet ℕ)). AreEnded logs c.reach-far.result (entries_of items) sets) (sym c.deref-3.ensures.value) c.in-Ok-ended.ensures.ended in
    let ended = subst (λ n. AreEnded logs n (entries_of items) c.deref-3.result.now) c.reach-far.ensures same_sets in
    lacking m area old items logs c.args.floor c.requires.of_logs loaded mid c.deref-2.result.now all r.kept.count c.deref-3.result.now ended a place (c.in_err-undo.ensures.cause a place (ap Err e))

pub returns-clause-recovered : goal.returns-clause-recovered
returns-clause-recovered c m area loaded =
    let old = c.args.pages.now in
    let items = c.args.index.now in
    let logs = c.args.logs in
    let mid = c.redo_all.new.pages in
    let r = c.in_ok-counted.ensures in
    let all = subst (λ (ms : List Bool). IsRedone old mid items ms (length items)) (sym c.deref-2.ensures.value) r.redone in
    let far = c.reach-far.ensures in
    let told = c.in-Ok-ended.ensures in
    let same_sets = subst (λ (sets : List (BTreeSet ℕ)). AreEnded logs c.reach-far.result (entries_of items) sets) (sym c.deref-3.ensures.value) told.ended in
    let ended = subst (λ n. AreEnded logs n (entries_of items) c.deref-3.result.now) far same_sets in
    let first = subst (λ (sets : List (BTreeSet ℕ)). AreEnded logs c.reach-far.result (entries_of items) sets) (sym c.deref.ensures.value) told.ended in
    let count = ap length c.deref.ensures.value ∙ told.count in
    let counted = subst (λ n. AreEnded n c.reach-far.result (entries_of items) c.deref.result.now) (sym count) first in
    recovered m area old items logs c.args.floor c.requires.of_logs loaded mid c.deref-2.result.now all r.kept.count c.deref-3.result.now ended c.in_ok-check_tree.ensures.tree
    c.undo.new.pages c.in_ok-undo.ensures.undone _ c.top.result c.top.ensures c.base_number-base.ensures
    (c.winners.ensures ∙ ap (λ n. length (ends.winners n (entries_of items))) far)
    (c.in-Ok-losers.ensures c.reach-far.result counted ∙ ap (λ n. length (ends.losers n (entries_of items))) far)

pub returns-clause-own : goal.returns-clause-own
returns-clause-own c = own_both c.args.pages.now c.redo_all.new.pages c.undo.new.pages _ _ _ _ c.in_ok-counted.ensures.kept c.in_ok-undo.ensures.kept

pub returns-clause-only : goal.returns-clause-only
returns-clause-only c p h =
    let items = c.args.index.now in
    let n = length c.args.pages.now in
    let first = c.deref_mut.ensures.value ∙ c.in-Ok.ensures in
    let a = c.redo_all.auto.changed in
    let b = c.undo.auto.changed in
    let ok = c.in-Ok.changed.ok.0 in
    let v : length c.deref_mut.result.now ≡ length c.in-Ok.changed.items = ap length c.deref_mut.ensures.value in
    let one = written c.in-Ok.changed.len c.redo_all.new.changed _ (omega arith) in
    let second = c.deref_mut-2.ensures.value ∙ one in
    let w : length c.deref_mut-2.result.now ≡ length c.redo_all.new.changed = ap length second in
    let two = written c.in-Ok.changed.len c.undo.new.changed _ (omega arith) in
    meant_from items c.undo.new.pages _ c.redo_all.new.changed c.undo.new.changed
    (subst (λ (ms : List Bool). MarksFor (is_named (entries_of items)) ms c.redo_all.new.changed) first c.in_ok-counted.ensures.only)
    (subst (λ (ms : List Bool). MarksFor (is_leaf_of (entries_of items) (nodes_of c.undo.new.pages)) ms c.undo.new.changed) second c.in_ok-undo.ensures.only)
    p (ap (λ (ms : List Bool). get_or ms p false) (sym two) ∙ h)

pub returns-clause-same : goal.returns-clause-same
returns-clause-same c p h =
    let a = c.redo_all.auto.changed in
    let b = c.undo.auto.changed in
    let ok = c.in-Ok.changed.ok.0 in
    let v : length c.deref_mut.result.now ≡ length c.in-Ok.changed.items = ap length c.deref_mut.ensures.value in
    let one = written c.in-Ok.changed.len c.redo_all.new.changed _ (omega arith) in
    let second = c.deref_mut-2.ensures.value ∙ one in
    let w : length c.deref_mut-2.result.now ≡ length c.redo_all.new.changed = ap length second in
    let two = written c.in-Ok.changed.len c.undo.new.changed _ (omega arith) in
    same_both c.args.pages.now c.redo_all.new.pages c.undo.new.pages c.deref_mut.result.now c.redo_all.new.changed c.deref_mut-2.result.now c.undo.new.changed second c.in_ok-counted.ensures.kept c.in_ok-undo.ensures.kept
    p (ap (λ (ms : List Bool). get_or ms p false) (sym two) ∙ h)

pub returns-clause-numbers : goal.returns-clause-numbers
returns-clause-numbers c =
    let r = c.in_ok-counted.ensures in
    let u = c.in_ok-undo.ensures in
    redone_within c.args.floor c.top.result c.args.pages.now c.redo_all.new.pages c.undo.new.pages c.args.index.now c.in_ok-counted.counted.items c.base_number-base.result r.redone r.kept.count u.kept.count u.numbers
    c.top.ensures c.base_number-base.ensures
