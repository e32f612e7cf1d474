-- The lines of output that name no session, each without its newline.
use Rattle.std.specs.Prelude.{◌++◌, ◌^◌, ◌<◌, ℕ, List, ◌∷◌, codes}
use Rattle.std.specs.Fmt.{decimal}

pub data Notice : Type 0 where
  Opened : ℕ → ℕ → ℕ → Notice
  Formatted : ℕ → ℕ → ℕ → Notice
  Refused : ℕ → Notice
  Damaged : ℕ → ℕ → Notice
  Pair : ℕ → ℕ → Notice
  Made : ℕ → ℕ → ℕ → ℕ → Notice
  End Usage ReadFault DiskFault NoMemory NotFormatted AlreadyFormatted : Notice

abbrev pub notice_text : Notice → List ℕ
notice_text (Opened g w u) = codes "open " ++ (decimal g ++ (codes " winners " ++ (decimal w ++ (codes " undone " ++ decimal u))))
notice_text (Formatted w p n) = codes "formatted " ++ (decimal w ++ 32 ∷ (decimal p ++ 32 ∷ decimal n))
notice_text (Refused n) = codes "lean: line " ++ (decimal n ++ codes " refused")
notice_text (Damaged a p) = codes "lean: damaged area " ++ (decimal a ++ (codes " place " ++ decimal p))
notice_text (Pair k v) = codes "pair " ++ (decimal k ++ 32 ∷ decimal v)
notice_text (Made c r p t) = codes "made " ++ (decimal c ++ (codes " refused " ++ (decimal r ++ (codes " pairs " ++ (decimal p ++ (codes " sum " ++ decimal t))))))
notice_text End = codes "end"
notice_text Usage = codes "lean: usage"
notice_text ReadFault = codes "lean: read fault"
notice_text DiskFault = codes "lean: disk fault"
notice_text NoMemory = codes "lean: no memory"
notice_text NotFormatted = codes "lean: not formatted"
notice_text AlreadyFormatted = codes "lean: already formatted"

-- numbers fit their types
abbrev pub NoticeFits : Notice → Type 0
NoticeFits (Opened g w u) = (g < 2 ^ 64) × (w < 2 ^ 64) × (u < 2 ^ 64)
NoticeFits (Formatted w p n) = (w < 2 ^ 32) × (p < 2 ^ 32) × (n < 2 ^ 32)
NoticeFits (Refused n) = n < 2 ^ 64
NoticeFits (Damaged a p) = (a < 2 ^ 32) × (p < 2 ^ 64)
NoticeFits (Pair k v) = (k < 2 ^ 64) × (v < 2 ^ 64)
NoticeFits (Made c r p t) = (c < 2 ^ 32) × (r < 2 ^ 64) × (p < 2 ^ 64) × (t < 2 ^ 128)
NoticeFits _ = Unit {0}
