-- What is asked behind an answer.
use Rattle.std.specs.Prelude.{◌≡◌}
use Rattle.map_model.specs.declared.call.Answer.{Answer}
use Rattle.host_disk.specs.buffered_engine.engine_front.Turns.{behind_answer}
use Rattle.host_disk.specs.buffered_engine.engine_front.declared.calls.Next.{Next}
use Rattle.host_disk.specs.buffered_engine.engine_front.declared.calls.Next.TheVariants.{Scan}

-- it comes behind some answer
pub record IsBehindAnswer (next : Next) : Type 0 where
  pub answer : Answer
  pub is : next ≡ behind_answer answer

-- no scan goes on
abbrev pub IsNoScan : Next → Type 0
IsNoScan next = next ≡ Scan → ⊥
