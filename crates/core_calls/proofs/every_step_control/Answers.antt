use Rattle.core_calls.proofs.StepControls.{every_step_control}
use Rattle.core_calls.proofs.every_step_control.Goals as goal

pub returns : goal.returns
returns c = every_step_control
