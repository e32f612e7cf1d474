-- The seal of bytes under a tag.
use Rattle.std.specs.Prelude.{ℕ, List, ◌++◌, take}
use Rattle.sha2.specs.Sha256.{sha256}

-- the first sixteen bytes of SHA-256 over the tag and then the bytes
unfoldable pub seal_of : List ℕ → List ℕ → List ℕ
seal_of tag bytes = take 16 (sha256 (tag ++ bytes))
