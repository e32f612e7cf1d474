-- The answers alone.
use Rattle.std.proofs.Common.{Bool, cond, ap}
use Rattle.std.proofs.lemmas.Bool.{lt-ltb}
use Rattle.map_model.specs.Maps.{MapCall}
use Rattle.engine_calls.specs.Answers.{EveryAnswer}
use Rattle.engine_calls.proofs.AbortLemmas as aborts
use Rattle.engine_calls.proofs.BeginLemmas as begins
use Rattle.engine_calls.proofs.CommitLemmas as commits
use Rattle.engine_calls.proofs.GetLemmas.{absent_tells, get_tells}
use Rattle.engine_calls.proofs.HalfLemmas as halves
use Rattle.engine_calls.proofs.PutLemmas.{del_tells, not_below, put_tells}
use Rattle.engine_calls.proofs.RefusalLemmas as refusals
use Rattle.engine_calls.proofs.ScanLemmas.{beyond_tells, met_tells, over_tells, paused_tells}

pub every_answer : EveryAnswer
every_answer l g group xs = record {
  begin = begins.tells l g group xs;
  get = get_tells l g group xs;
  absent = absent_tells l g group xs;
  put = λ before between w page key value was r i within.
      put_tells l g group xs before between w page key value was r i (ap (λ (c : Bool). cond c (MapCall.Put key value) (MapCall.Del key)) (lt-ltb value g.format.dead within));
  del = λ before between w page key was r i.
      del_tells l g group xs before between w page key was r i (ap (λ (c : Bool). cond c (MapCall.Put key g.format.dead) (MapCall.Del key)) (not_below g.format.dead));
  met = met_tells l g group xs;
  paused = paused_tells l g group xs;
  over = over_tells l g group xs;
  beyond = beyond_tells l g group xs;
  commit = commits.tells l g group xs;
  abort = λ c first w number at f rows r i. aborts.tells l g group xs c first w number at f rows r i;
  halved = halves.tells l g group xs;
  refused = refusals.tells l g group xs;
}
