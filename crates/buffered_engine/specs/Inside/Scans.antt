-- Which scan an engine has, by what is asked of it and answered.
use Rattle.std.specs.Prelude.{suc, Result, Ok}
use Rattle.map_model.specs.declared.call.Answer.{Answer}
use Rattle.map_model.specs.declared.call.Answer.TheVariants as answer
use Rattle.map_model.specs.declared.call.Call.{Call}
use Rattle.map_model.specs.declared.call.Call.TheVariants as call
use Rattle.paged_scans.specs.declared.scans.Scan.{Scan}
use Rattle.paged_scans.specs.engine_trait.declared.unserved.Unanswered.{Unanswered}

-- the one that the call begins, or else the one that was there
abbrev pub scan_of : Call → Scan → Scan
scan_of (call.Scan from to) x = record { from = from; to = to; at = from; met = 0 }
scan_of c x = x

-- behind an answer: a pair more was told
abbrev pub scan_behind : Result Answer Unanswered → Scan → Scan
scan_behind (Ok (answer.Pair key value)) x = record x { at = suc key; met = suc x.met }
scan_behind a x = x
