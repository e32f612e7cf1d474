use Rattle.map_model.specs.Outputs.Reply.{Answered}
use Rattle.script_lang.specs.Replies.{reply_text}
use Rattle.script_lang.proofs.reply.reply_bytes.Goals as goal

pub returns : goal.returns
returns c = c.put_text.ensures.written (reply_text (Answered c.args.session c.args.answer.now)) c.args.into.now c.put_answer-at.ensures.written
