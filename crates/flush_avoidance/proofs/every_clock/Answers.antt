use Rattle.std.proofs.Common.{refl}
use Rattle.flush_avoidance.proofs.every_clock.Goals as goal

pub returns : goal.returns
returns c = λ k. record {
  started = λ g own. refl;
  touched_is = λ own number log is_open. refl;
  begun_is = λ f. refl;
  ended_is = refl;
}
