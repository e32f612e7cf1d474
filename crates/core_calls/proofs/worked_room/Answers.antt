use Rattle.core_calls.proofs.RoomByHand.{room}
use Rattle.core_calls.proofs.worked_room.Goals as goal

pub returns : goal.returns
returns c = room
