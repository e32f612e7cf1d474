use Rattle.call_parts.specs.rows_trait.Inside.{no_view}
use Rattle.script_run.proofs.run.no_events.Given as goal

abbrev pub ghosts-of : goal.ghosts-of
ghosts-of a = record { which = no_view }
