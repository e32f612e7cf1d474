use Rattle.std.proofs.Common.{[], sym, subst}
use Rattle.map_model.specs.declared.call.Answer.{Answer}
use Rattle.map_model.specs.Outputs.Reply.{Answered}
use Rattle.script_lang.specs.Pieces.{Holds}
use Rattle.script_lang.specs.Replies.{reply_text}
use Rattle.script_lang.proofs.PieceLemmas.{holds_none}
use Rattle.script_lang.proofs.reply.put_answer.Goals as goal

pub returns-in-Synced-clause-written : goal.returns-in-Synced-clause-written
returns-in-Synced-clause-written c =
    subst (λ (a : Answer). Holds (reply_text (Answered c.args.session a)) c.args.into.now c.put_with_number.new.into c.put_with_number.result) (sym c.in-Synced.is)
    (c.put_with_number.ensures.written [] c.args.into.now (holds_none c.args.into.now))
