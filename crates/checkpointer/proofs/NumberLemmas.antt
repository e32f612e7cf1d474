-- The number of a cut.
use Rattle.std.proofs.Common.{◌≡◌, ⊎_elim, ◌≤◌, ◌<◌, ◌+◌, ℕ, min, List, Option, ap, arith}
use Rattle.std.proofs.lemmas.Bool.{cases_lt}
use Rattle.disk_runs.specs.core_state.Openings.{Opening}
use Rattle.disk_runs.specs.core_state.States.{State}
use Rattle.disk_runs.specs.core_state.Steps.{state_after}
use Rattle.core_covers.specs.Cuts.{EveryCutMet, EveryCutNumber}
use Rattle.core_covers.specs.Firsts.{IsBelowFirsts}
use Rattle.page_model.specs.Nodes.{Format}
use Rattle.lean_disk.specs.Story.{Story}
use Rattle.checkpointer.specs.Inside.{IsLeastCover}
use Rattle.checkpointer.specs.Numbers.{EveryMayCut, EveryNumber, IsBelow, IsFirstOfAll, cover_of}
use Rattle.checkpointer.specs.Savers.{firm_of}

-- below the first of all is below each
below_all : (g : Opening) (s : State) (first : Option ℕ) (x : ℕ) → IsFirstOfAll g s first → IsBelow first x → IsBelowFirsts g s x
below_all g s first x all below w n low high is = let q = all.least w n low high is in let a = below q.0 q.1 in let b = q.2 in omega arith

below_one : (g : Opening) (s : State) (first : Option ℕ) (x : ℕ) → IsFirstOfAll g s first → IsBelowFirsts g s x → IsBelow first x
below_one g s first x all below n is = let q = all.one n is in below q.session n q.low q.high q.is

pub every_number : EveryCutNumber → EveryNumber
every_number law g es covers floor first x floor_is flushed all is = (law g es).number flushed (cover_of covers) x (record {
  covered = is.covered;
  flushed = let l = is.low in omega arith;
  below = below_all g (state_after g es) first x all is.below;
  greatest = λ y covered low below. is.greatest y covered (omega arith) (below_one g (state_after g es) first y all below);
})

pub every_may_cut : EveryCutMet → (s : Story) → EveryMayCut s
every_may_cut law s s0 g es k cover x stands covers may = record {
  met = (law g es cover (firm_of k) x covers may).met;
  firm = λ p lt. (law g es cover (firm_of k) x covers may).has p (let q = ap (λ (f : Format). f.pages) stands.is.format in omega arith);
}

-- one cover more
pub least_more : (covers : List ℕ) (floor k f c : ℕ) → IsLeastCover covers floor k f → cover_of covers k ≡ c → IsLeastCover covers floor (k + 1) (min f c)
least_more covers floor k f c is here = record {
  covered = λ j lt. ⊎_elim
      (λ (a : j < k). let l = is.covered j a in omega arith)
      (λ (b : k ≤ j). let e : j ≡ k = omega arith in let q = ap (cover_of covers) e in omega arith)
      (cases_lt j k);
  low = let l = is.low in omega arith;
  greatest = λ y covered low. let a = is.greatest y (λ j lt. covered j (omega arith)) low in let b = covered k (omega arith) in omega arith;
}
