use Rattle.buffered_engine.proofs.answers.EngineCalls.front.Given as goal

-- the seat itself
abbrev pub ghosts-seen : goal.ghosts-seen
ghosts-seen g a = record { which = a.seat.now.view }
