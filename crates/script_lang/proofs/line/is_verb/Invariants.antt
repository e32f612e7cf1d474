use Rattle.std.proofs.Common.{◌≡◌, take}
use Rattle.script_lang.proofs.line.is_verb.Given as goal

abbrev pub invariant-loop-i : goal.invariant-loop-i
invariant-loop-i l = take l.i l.bytes ≡ take l.i l.verb
