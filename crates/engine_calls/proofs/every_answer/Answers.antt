use Rattle.engine_calls.proofs.every_answer.Goals as goal
use Rattle.engine_calls.proofs.AnswerLemmas.{every_answer}

pub returns : goal.returns
returns c = every_answer
