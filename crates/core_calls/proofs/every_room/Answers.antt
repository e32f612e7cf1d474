use Rattle.core_calls.proofs.RoomLemmas.{every_room}
use Rattle.core_calls.proofs.every_room.Goals as goal

pub returns : goal.returns
returns c = every_room
