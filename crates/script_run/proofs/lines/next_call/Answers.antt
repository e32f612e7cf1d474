use Rattle.script_run.proofs.lines.next_call.Goals as goal

pub returns-in-End-clause-read : goal.returns-in-End-clause-read
returns-in-End-clause-read g c start seen was newer hand = (c.in-End.ensures).read start seen was
