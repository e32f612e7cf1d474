use Rattle.std.proofs.Common.{◌+◌, ◌-◌, vec_len}
use Rattle.disk_file.proofs.area_files.make_room.Given as goal

abbrev pub decreases-loop-files : goal.decreases-loop-files
decreases-loop-files l = l.area + 1 - vec_len l.files
