use Rattle.std.proofs.Common.{arith}
use Rattle.map_model.specs.Outputs.{Reply}
use Rattle.script_lang.specs.Replies.{reply_text}
use Rattle.script_lang.proofs.PieceLemmas.{one_whole_line}
use Rattle.script_run.proofs.replies.put_durable.Goals as goal

pub put_line-requires : goal.put_line-requires
put_line-requires g c = one_whole_line (reply_text (Reply.Durable c.args.durable.now.session c.args.durable.now.number)) (c.replies_are_read_back.ensures (Reply.Durable c.args.durable.now.session c.args.durable.now.number) (omega arith, omega arith)).1 c.durable_bytes-end.ensures
