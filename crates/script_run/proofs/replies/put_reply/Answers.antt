use Rattle.std.proofs.Common.{arith}
use Rattle.map_model.specs.Outputs.{Reply}
use Rattle.script_lang.specs.Replies.{reply_text}
use Rattle.script_lang.proofs.PieceLemmas.{one_whole_line}
use Rattle.script_run.proofs.FitLemmas.{reply_is_line}
use Rattle.script_run.proofs.replies.put_reply.Goals as goal

pub put_line-requires : goal.put_line-requires
put_line-requires g c = one_whole_line (reply_text (Reply.Answered c.args.session c.args.answer.now)) (reply_is_line (λ r fits. (c.replies_are_read_back.ensures r fits).1) c.args.session c.args.answer.now (omega arith) c.requires) c.reply_bytes-end.ensures
