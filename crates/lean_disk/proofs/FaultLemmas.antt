-- Counts of faults over calls that follow each other.
use Rattle.std.proofs.Common.{◌≡◌, ℕ, ◌∙◌, sym, subst}
use Rattle.lean_disk.specs.Faults.{HasCause}
use Rattle.lean_disk.specs.declared.disk.Did.{Did}
use Rattle.lean_disk.specs.declared.disk.Did.TheVariants.{Done, Failed}

abbrev IsDone : Did → Type 0
IsDone Done = Unit {0}
IsDone Failed = ⊥

-- what is done has not failed
pub done_only : (d : Did) → d ≡ Done → d ≡ Failed → ⊥
done_only Done done failed = subst IsDone failed tt
done_only Failed done failed = subst IsDone (sym done) tt

-- a call more that is done leaves the count as it was
pub done_still : (before now after : ℕ) (d : Did) → now ≡ before → HasCause now after (d ≡ Failed) → d ≡ Done → after ≡ before
done_still before now after d same cause done = cause.calm (done_only d done) ∙ same
