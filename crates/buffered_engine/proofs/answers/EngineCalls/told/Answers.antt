use Rattle.buffered_engine.proofs.answers.EngineCalls.told.Goals as goal

pub returns-clause-told : goal.returns-clause-told
returns-clause-told g c o xs names run = ((run.tied.ties 0).told, run.next)
