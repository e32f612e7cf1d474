use Rattle.std.proofs.Common.{arith}
use Rattle.log_record.proofs.KindLemmas.{no_short}
use Rattle.log_record.proofs.MadeLemmas.{some_by, none_by, change_body, put_back_body, split_body, lift_body, join_body, drop_body, purge_body, commit_body, abort_body, no_split_counted, no_lift_counted, no_join_counted, no_drop_counted, no_purge_counted}
use Rattle.log_record.proofs.head.body_size.Goals as goal

pub returns-in-1-clause-answer : goal.returns-in-1-clause-answer
returns-in-1-clause-answer c = some_by 1 c.args.kind c.args.bytes.now _ _ c.in-1.is (change_body c.args.bytes.now (record { byte = λ k. let f = c.type_inv.bytes k in omega arith })) c.fixed_size.ensures.answer

pub returns-in-1-clause-cause : goal.returns-in-1-clause-cause
returns-in-1-clause-cause c = none_by 1 c.args.kind c.args.bytes.now _ _ c.in-1.is (no_short 1 c.args.bytes.now) c.fixed_size.ensures.cause

pub returns-in-2-clause-answer : goal.returns-in-2-clause-answer
returns-in-2-clause-answer c = some_by 2 c.args.kind c.args.bytes.now _ _ c.in-2.is (put_back_body c.args.bytes.now (record { byte = λ k. let f = c.type_inv.bytes k in omega arith })) c.fixed_size-in-2.ensures.answer

pub returns-in-2-clause-cause : goal.returns-in-2-clause-cause
returns-in-2-clause-cause c = none_by 2 c.args.kind c.args.bytes.now _ _ c.in-2.is (no_short 2 c.args.bytes.now) c.fixed_size-in-2.ensures.cause

pub returns-in-3-clause-answer : goal.returns-in-3-clause-answer
returns-in-3-clause-answer c = some_by 3 c.args.kind c.args.bytes.now _ _ c.in-3.is (split_body c.args.bytes.now (record { byte = λ k. let f = c.type_inv.bytes k in omega arith })) c.counted_size.ensures.answer

pub returns-in-3-clause-cause : goal.returns-in-3-clause-cause
returns-in-3-clause-cause c = none_by 3 c.args.kind c.args.bytes.now _ _ c.in-3.is (no_split_counted c.args.bytes.now (record { byte = λ k. let f = c.type_inv.bytes k in omega arith })) c.counted_size.ensures.cause

pub returns-in-4-clause-answer : goal.returns-in-4-clause-answer
returns-in-4-clause-answer c = some_by 4 c.args.kind c.args.bytes.now _ _ c.in-4.is (lift_body c.args.bytes.now (record { byte = λ k. let f = c.type_inv.bytes k in omega arith })) c.counted_size-in-4.ensures.answer

pub returns-in-4-clause-cause : goal.returns-in-4-clause-cause
returns-in-4-clause-cause c = none_by 4 c.args.kind c.args.bytes.now _ _ c.in-4.is (no_lift_counted c.args.bytes.now (record { byte = λ k. let f = c.type_inv.bytes k in omega arith })) c.counted_size-in-4.ensures.cause

pub returns-in-5-clause-answer : goal.returns-in-5-clause-answer
returns-in-5-clause-answer c = some_by 5 c.args.kind c.args.bytes.now _ _ c.in-5.is (join_body c.args.bytes.now (record { byte = λ k. let f = c.type_inv.bytes k in omega arith })) c.counted_size-in-5.ensures.answer

pub returns-in-5-clause-cause : goal.returns-in-5-clause-cause
returns-in-5-clause-cause c = none_by 5 c.args.kind c.args.bytes.now _ _ c.in-5.is (no_join_counted c.args.bytes.now (record { byte = λ k. let f = c.type_inv.bytes k in omega arith })) c.counted_size-in-5.ensures.cause

pub returns-in-6-clause-answer : goal.returns-in-6-clause-answer
returns-in-6-clause-answer c = some_by 6 c.args.kind c.args.bytes.now _ _ c.in-6.is (drop_body c.args.bytes.now (record { byte = λ k. let f = c.type_inv.bytes k in omega arith })) c.counted_size-in-6.ensures.answer

pub returns-in-6-clause-cause : goal.returns-in-6-clause-cause
returns-in-6-clause-cause c = none_by 6 c.args.kind c.args.bytes.now _ _ c.in-6.is (no_drop_counted c.args.bytes.now (record { byte = λ k. let f = c.type_inv.bytes k in omega arith })) c.counted_size-in-6.ensures.cause

pub returns-in-7-clause-answer : goal.returns-in-7-clause-answer
returns-in-7-clause-answer c = some_by 7 c.args.kind c.args.bytes.now _ _ c.in-7.is (purge_body c.args.bytes.now (record { byte = λ k. let f = c.type_inv.bytes k in omega arith })) c.counted_size-in-7.ensures.answer

pub returns-in-7-clause-cause : goal.returns-in-7-clause-cause
returns-in-7-clause-cause c = none_by 7 c.args.kind c.args.bytes.now _ _ c.in-7.is (no_purge_counted c.args.bytes.now (record { byte = λ k. let f = c.type_inv.bytes k in omega arith })) c.counted_size-in-7.ensures.cause

pub returns-in-8-clause-answer : goal.returns-in-8-clause-answer
returns-in-8-clause-answer c = some_by 8 c.args.kind c.args.bytes.now _ _ c.in-8.is (commit_body c.args.bytes.now (record { byte = λ k. let f = c.type_inv.bytes k in omega arith })) c.fixed_size-in-8.ensures.answer

pub returns-in-8-clause-cause : goal.returns-in-8-clause-cause
returns-in-8-clause-cause c = none_by 8 c.args.kind c.args.bytes.now _ _ c.in-8.is (no_short 8 c.args.bytes.now) c.fixed_size-in-8.ensures.cause

pub returns-in-9-clause-answer : goal.returns-in-9-clause-answer
returns-in-9-clause-answer c = some_by 9 c.args.kind c.args.bytes.now _ _ c.in-9.is (abort_body c.args.bytes.now (record { byte = λ k. let f = c.type_inv.bytes k in omega arith })) c.fixed_size-in-9.ensures.answer

pub returns-in-9-clause-cause : goal.returns-in-9-clause-cause
returns-in-9-clause-cause c = none_by 9 c.args.kind c.args.bytes.now _ _ c.in-9.is (no_short 9 c.args.bytes.now) c.fixed_size-in-9.ensures.cause
