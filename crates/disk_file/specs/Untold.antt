-- A disk that tells nothing.
use Rattle.std.specs.Prelude.{◌≡◌, ℕ, [], false, true, IsTrue}
use Rattle.lean_disk.specs.Area.{fresh}
use Rattle.lean_disk.specs.Story.{Story, IsLawful, Tells}

-- no area is told of, and no crash
abbrev pub untold : Story
untold = record {
  counts = false;
  tells = λ a. false;
  areas = 0;
  area = λ a. fresh [];
  notes = 0;
  moment = 0;
  left_at = λ m c. ⊥;
}

differs : false ≡ true → ⊥
differs e = cc

-- nothing is said, so each law holds
pub untold_lawful : IsLawful untold
untold_lawful = record {
  reads_so = λ a told. absurd (differs told);
  counts_now = λ c now. absurd (differs now.counts);
  only_now = λ m c le left. absurd left;
}

-- no crash is told of
pub untold_whole : (a : ℕ) → IsTrue untold.counts → Tells untold a
untold_whole a counts = counts
