-- The bytes of a record, what fits in them, and what stands first.
use Rattle.std.specs.Prelude.{◌≡◌, ◌<◌, ◌≤◌, ◌^◌, ◌+◌, ◌-◌, ◌*◌, ◌++◌, ◌∷◌, ℕ, List, length, take, drop, replicate}
use Rattle.std.specs.List.{All, flat_map}
use Rattle.lean_bytes.specs.Numbers.{number_bytes}
use Rattle.log_record.specs.declared.record.Record.{Record}
use Rattle.log_record.specs.declared.record.PageRef.{PageRef}
use Rattle.log_record.specs.declared.record.Pair.{Pair}
use Rattle.log_record.specs.declared.record.Pairs.{Pairs}
use Rattle.log_record.specs.declared.record.Keys.{Keys}
use Rattle.log_record.specs.declared.record.Body.{Body}
use Rattle.log_record.specs.declared.record.Body.TheVariants.{Change, PutBack, Split, Lift, Join, DropRoot, Purge, Commit, Abort}

-- the buffer begins with the text, of so many bytes, and is behind it as it was
pub record Holds (text first now : List ℕ) (end : ℕ) : Type 0 where
  pub count : end ≡ length text
  pub bytes : now ≡ text ++ drop (length text) first

abbrev pub ref_text : PageRef → List ℕ
ref_text r = number_bytes 4 r.page ++ number_bytes 8 r.prev

abbrev pub pair_text : Pair → List ℕ
pair_text p = number_bytes 8 p.key ++ number_bytes 8 p.word

abbrev pub pairs_text : Pairs → List ℕ
pairs_text ps = ps.count ∷ flat_map pair_text (take ps.count ps.pairs)

abbrev pub keys_text : Keys → List ℕ
keys_text ks = ks.count ∷ flat_map (number_bytes 8) (take ks.count ks.keys)

-- the kind, as it stands on disks
abbrev pub kind_of : Body → ℕ
kind_of (Change leaf key before after) = 1
kind_of (PutBack leaf key before after) = 2
kind_of (Split left right parent separator high level pairs) = 3
kind_of (Lift prev page level pairs) = 4
kind_of (Join left right parent separator high pairs) = 5
kind_of (DropRoot prev child level pairs) = 6
kind_of (Purge leaf keys) = 7
kind_of (Commit need) = 8
kind_of (Abort need) = 9

abbrev pub write_text : PageRef → ℕ → ℕ → ℕ → List ℕ
write_text leaf key before after = ref_text leaf ++ (number_bytes 8 key ++ (number_bytes 8 before ++ number_bytes 8 after))

-- what stands behind kind, transaction and number
abbrev pub body_text : Body → List ℕ
body_text (Change leaf key before after) = write_text leaf key before after
body_text (PutBack leaf key before after) = write_text leaf key before after
body_text (Split left right parent separator high level pairs) =
    ref_text left ++ (ref_text right ++ (ref_text parent ++ (number_bytes 8 separator ++ (number_bytes 8 high ++ level ∷ pairs_text pairs))))
body_text (Lift prev page level pairs) = number_bytes 8 prev ++ (ref_text page ++ level ∷ pairs_text pairs)
body_text (Join left right parent separator high pairs) =
    ref_text left ++ (ref_text right ++ (ref_text parent ++ (number_bytes 8 separator ++ (number_bytes 8 high ++ pairs_text pairs))))
body_text (DropRoot prev child level pairs) = number_bytes 8 prev ++ (ref_text child ++ level ∷ pairs_text pairs)
body_text (Purge leaf keys) = ref_text leaf ++ keys_text keys
body_text (Commit need) = number_bytes 8 need
body_text (Abort need) = number_bytes 8 need

abbrev pub record_text : Record → List ℕ
record_text r = kind_of r.body ∷ (number_bytes 8 r.txn ++ (number_bytes 8 r.gsn ++ body_text r.body))

-- how many bytes that are, with kind, transaction and number
abbrev pub size_of : Body → ℕ
size_of (Change leaf key before after) = 53
size_of (PutBack leaf key before after) = 53
size_of (Split left right parent separator high level pairs) = 71 + 16 * pairs.count
size_of (Lift prev page level pairs) = 39 + 16 * pairs.count
size_of (Join left right parent separator high pairs) = 70 + 16 * pairs.count
size_of (DropRoot prev child level pairs) = 39 + 16 * pairs.count
size_of (Purge leaf keys) = 30 + 8 * keys.count
size_of (Commit need) = 25
size_of (Abort need) = 25

-- numbers fit their bytes
abbrev pub RefFits : PageRef → Type 0
RefFits r = (r.page < 2 ^ 32) × (r.prev < 2 ^ 64)

-- at most 60 pairs or keys count
abbrev pub IsCounted : Body → Type 0
IsCounted (Split left right parent separator high level pairs) = pairs.count ≤ 60
IsCounted (Lift prev page level pairs) = pairs.count ≤ 60
IsCounted (Join left right parent separator high pairs) = pairs.count ≤ 60
IsCounted (DropRoot prev child level pairs) = pairs.count ≤ 60
IsCounted (Purge leaf keys) = keys.count ≤ 60
IsCounted _ = Unit {0}

abbrev pub no_pair : Pair
no_pair = record { key = 0; word = 0 }

abbrev pub PairFits : Pair → Type 0
PairFits p = (p.key < 2 ^ 64) × (p.word < 2 ^ 64)

abbrev pub KeyFits : ℕ → Type 0
KeyFits key = key < 2 ^ 64

-- of 60 places the first `count` hold items that fit, and the others are 0
pub record ItemsFit {A : Type 0} (Fit : A → Type 0) (zero : A) (count : ℕ) (items : List A) : Type 0 where
  pub most : count ≤ 60
  pub places : length items ≡ 60
  pub each : All Fit (take count items)
  pub zeros : drop count items ≡ replicate (60 - count) zero

abbrev pub PairsFit : Pairs → Type 0
PairsFit ps = ItemsFit PairFits no_pair ps.count ps.pairs

abbrev pub KeysFit : Keys → Type 0
KeysFit ks = ItemsFit KeyFits 0 ks.count ks.keys

-- numbers fit their bytes, and pairs and keys fit
abbrev pub BodyFits : Body → Type 0
BodyFits (Change leaf key before after) = RefFits leaf × (key < 2 ^ 64) × (before < 2 ^ 64) × (after < 2 ^ 64)
BodyFits (PutBack leaf key before after) = RefFits leaf × (key < 2 ^ 64) × (before < 2 ^ 64) × (after < 2 ^ 64)
BodyFits (Split left right parent separator high level pairs) = RefFits left × RefFits right × RefFits parent × (separator < 2 ^ 64) × (high < 2 ^ 64) × (level < 2 ^ 8) × PairsFit pairs
BodyFits (Lift prev page level pairs) = (prev < 2 ^ 64) × RefFits page × (level < 2 ^ 8) × PairsFit pairs
BodyFits (Join left right parent separator high pairs) = RefFits left × RefFits right × RefFits parent × (separator < 2 ^ 64) × (high < 2 ^ 64) × PairsFit pairs
BodyFits (DropRoot prev child level pairs) = (prev < 2 ^ 64) × RefFits child × (level < 2 ^ 8) × PairsFit pairs
BodyFits (Purge leaf keys) = RefFits leaf × KeysFit keys
BodyFits (Commit need) = need < 2 ^ 64
BodyFits (Abort need) = need < 2 ^ 64

pub record Fits (r : Record) : Type 0 where
  pub txn : r.txn < 2 ^ 64
  pub gsn : r.gsn < 2 ^ 64
  pub body : BodyFits r.body

-- the record stands first, and takes so many bytes
pub record Begins (bytes : List ℕ) (r : Record) (n : ℕ) : Type 0 where
  pub fits : Fits r
  pub count : n ≡ length (record_text r)
  pub rest : List ℕ
  pub spelled : bytes ≡ record_text r ++ rest
