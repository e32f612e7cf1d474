use Rattle.core_calls.proofs.ScanControls.{every_scan_control}
use Rattle.core_calls.proofs.every_scan_control.Goals as goal

pub returns : goal.returns
returns c = every_scan_control
