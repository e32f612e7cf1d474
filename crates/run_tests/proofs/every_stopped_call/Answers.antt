use Rattle.run_tests.proofs.RoomLemmas as room
use Rattle.run_tests.proofs.every_stopped_call.Goals as goal

pub returns : goal.returns
returns c = room.every_stopped_call
