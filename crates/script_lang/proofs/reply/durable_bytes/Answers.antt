use Rattle.map_model.specs.Outputs.Reply.{Durable}
use Rattle.script_lang.specs.Replies.{reply_text}
use Rattle.script_lang.proofs.reply.durable_bytes.Goals as goal

pub returns : goal.returns
returns c = c.put_text.ensures.written (reply_text (Durable c.args.session c.args.number)) c.args.into.now c.say_name-at.ensures.written
