use Rattle.std.proofs.Common.{◌+◌, ◌∷◌, ◌∙◌, ap, length, arith}
use Rattle.std.proofs.lemmas.List.{length-append}
use Rattle.lean_bytes.proofs.NumberLemmas.{length-number_bytes}
use Rattle.log_record.specs.Spelling.{ref_text, pairs_text, keys_text}
use Rattle.log_record.specs.declared.record.Body.TheVariants.{Change, PutBack, Split, Lift, Join, DropRoot, Purge, Commit, Abort}
use Rattle.log_record.proofs.PartLemmas.{ref_long, key_change_long, siblings_long, root_change_long}
use Rattle.log_record.proofs.RecordLemmas.{size_by}
use Rattle.log_record.proofs.write.record_size.Goals as goal

pub returns-in-Change-clause-spelled : goal.returns-in-Change-clause-spelled
returns-in-Change-clause-spelled c =
    let v = c.in-Change in
    size_by c.args.entry.now (Change v.leaf v.key v.before v.after) 36 v.is (key_change_long (record { leaf = v.leaf; key = v.key; before = v.before; after = v.after }))

pub returns-in-PutBack-clause-spelled : goal.returns-in-PutBack-clause-spelled
returns-in-PutBack-clause-spelled c =
    let v = c.in-PutBack in
    size_by c.args.entry.now (PutBack v.leaf v.key v.before v.after) 36 v.is (key_change_long (record { leaf = v.leaf; key = v.key; before = v.before; after = v.after }))

pub returns-in-Split-clause-spelled : goal.returns-in-Split-clause-spelled
returns-in-Split-clause-spelled c =
    let v = c.in-Split in
    let size = size_by c.args.entry.now (Split v.left v.right v.parent v.separator v.high v.level v.pairs) _ v.is (siblings_long (record { left = v.left; right = v.right; parent = v.parent; separator = v.separator; high = v.high }) (v.level ∷ pairs_text v.pairs)) in
    omega arith

pub returns-in-Lift-clause-spelled : goal.returns-in-Lift-clause-spelled
returns-in-Lift-clause-spelled c =
    let v = c.in-Lift in
    let size = size_by c.args.entry.now (Lift v.root_prev v.page v.level v.pairs) _ v.is (root_change_long (record { root_prev = v.root_prev; page = v.page; level = v.level }) (pairs_text v.pairs)) in
    omega arith

pub returns-in-Join-clause-spelled : goal.returns-in-Join-clause-spelled
returns-in-Join-clause-spelled c =
    let v = c.in-Join in
    let size = size_by c.args.entry.now (Join v.left v.right v.parent v.separator v.high v.pairs) _ v.is (siblings_long (record { left = v.left; right = v.right; parent = v.parent; separator = v.separator; high = v.high }) (pairs_text v.pairs)) in
    omega arith

pub returns-in-DropRoot-clause-spelled : goal.returns-in-DropRoot-clause-spelled
returns-in-DropRoot-clause-spelled c =
    let v = c.in-DropRoot in
    let size = size_by c.args.entry.now (DropRoot v.root_prev v.child v.level v.pairs) _ v.is (root_change_long (record { root_prev = v.root_prev; page = v.child; level = v.level }) (pairs_text v.pairs)) in
    omega arith

pub returns-in-Purge-clause-spelled : goal.returns-in-Purge-clause-spelled
returns-in-Purge-clause-spelled c =
    let v = c.in-Purge in
    let size = size_by c.args.entry.now (Purge v.leaf v.keys) _ v.is (length-append (ref_text v.leaf) (keys_text v.keys) ∙ ap (λ n. n + length (keys_text v.keys)) (ref_long v.leaf)) in
    omega arith

pub returns-in-Commit-clause-spelled : goal.returns-in-Commit-clause-spelled
returns-in-Commit-clause-spelled c = size_by c.args.entry.now (Commit c.in-Commit.need) 8 c.in-Commit.is (length-number_bytes 8 c.in-Commit.need)

pub returns-in-Abort-clause-spelled : goal.returns-in-Abort-clause-spelled
returns-in-Abort-clause-spelled c = size_by c.args.entry.now (Abort c.in-Abort.need) 8 c.in-Abort.is (length-number_bytes 8 c.in-Abort.need)
