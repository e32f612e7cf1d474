-- The record that stands first in a list of numbers: a candidate read off its places, taken where the list begins with its text.
use Rattle.std.specs.Prelude.{ℕ, zero, suc, Bool, ◌&&◌, leb, ltb, ◌==◌, ◌+◌, ◌-◌, ◌^◌, List, [], ◌∷◌, ◌++◌, length, take, drop, replicate, Option, Some, None, if◌then◌else◌}
use Rattle.std.specs.Str.{bytes_eq}
use Rattle.std.specs.List.{list_all}
use Rattle.lean_bytes.specs.Numbers.{number_at}
use Rattle.log_record.specs.declared.record.Record.{Record}
use Rattle.log_record.specs.declared.record.PageRef.{PageRef}
use Rattle.log_record.specs.declared.record.Pair.{Pair}
use Rattle.log_record.specs.declared.record.Pairs.{Pairs}
use Rattle.log_record.specs.declared.record.Keys.{Keys}
use Rattle.log_record.specs.declared.record.Body.{Body}
use Rattle.log_record.specs.declared.record.Body.TheVariants.{Change, PutBack, Split, Lift, Join, DropRoot, Purge, Commit, Abort}
use Rattle.log_record.specs.Spelling.{record_text, no_pair}

-- a page that a record changes, from a place on
abbrev pub ref_at : ℕ → List ℕ → PageRef
ref_at at bytes = record { page = number_at 4 at bytes; prev = number_at 8 (at + 4) bytes }

abbrev pub pair_at : ℕ → List ℕ → Pair
pair_at at bytes = record { key = number_at 8 at bytes; word = number_at 8 (at + 8) bytes }

-- so many items of a width, from a place on
abbrev pub items_at : {A : Type 0} → (ℕ → List ℕ → A) → (width count at : ℕ) → List ℕ → List A
items_at item width zero at bytes = []
items_at item width (suc n) at bytes = item at bytes ∷ items_at item width n (at + width) bytes

-- as many pairs as the byte says, and 0 in the other places up to 60
abbrev pub pairs_at : ℕ → List ℕ → Pairs
pairs_at at bytes = record {
  count = number_at 1 at bytes;
  pairs = items_at pair_at 16 (number_at 1 at bytes) (at + 1) bytes ++ replicate (60 - number_at 1 at bytes) no_pair;
}

-- as many keys
abbrev pub keys_at : ℕ → List ℕ → Keys
keys_at at bytes = record {
  count = number_at 1 at bytes;
  keys = items_at (number_at 8) 8 (number_at 1 at bytes) (at + 1) bytes ++ replicate (60 - number_at 1 at bytes) 0;
}

-- the body that a record of this kind has; no text begins with a kind that is none of the nine
abbrev pub body_at : ℕ → List ℕ → Body
body_at kind bytes =
    if kind == 1 then Change (ref_at 17 bytes) (number_at 8 29 bytes) (number_at 8 37 bytes) (number_at 8 45 bytes)
    else if kind == 2 then PutBack (ref_at 17 bytes) (number_at 8 29 bytes) (number_at 8 37 bytes) (number_at 8 45 bytes)
    else if kind == 3 then Split (ref_at 17 bytes) (ref_at 29 bytes) (ref_at 41 bytes) (number_at 8 53 bytes) (number_at 8 61 bytes) (number_at 1 69 bytes) (pairs_at 70 bytes)
    else if kind == 4 then Lift (number_at 8 17 bytes) (ref_at 25 bytes) (number_at 1 37 bytes) (pairs_at 38 bytes)
    else if kind == 5 then Join (ref_at 17 bytes) (ref_at 29 bytes) (ref_at 41 bytes) (number_at 8 53 bytes) (number_at 8 61 bytes) (pairs_at 69 bytes)
    else if kind == 6 then DropRoot (number_at 8 17 bytes) (ref_at 25 bytes) (number_at 1 37 bytes) (pairs_at 38 bytes)
    else if kind == 7 then Purge (ref_at 17 bytes) (keys_at 29 bytes)
    else if kind == 8 then Commit (number_at 8 17 bytes)
    else Abort (number_at 8 17 bytes)

-- the one record that may stand first
abbrev pub record_at : List ℕ → Record
record_at bytes = record { txn = number_at 8 1 bytes; gsn = number_at 8 9 bytes; body = body_at (number_at 1 0 bytes) bytes }

-- numbers fit their bytes
abbrev pub ref_fits : PageRef → Bool
ref_fits r = ltb r.page (2 ^ 32) && ltb r.prev (2 ^ 64)

abbrev pub is_word : ℕ → Bool
is_word n = ltb n (2 ^ 64)

abbrev pub pair_fits : Pair → Bool
pair_fits p = is_word p.key && is_word p.word

-- of 60 places the first `count` hold items that fit, and the others are 0
abbrev pub items_fit : {A : Type 0} → (fits is_zero : A → Bool) → ℕ → List A → Bool
items_fit fits is_zero count items = leb count 60 && ((length items == 60) && (list_all fits (take count items) && list_all is_zero (drop count items)))

abbrev pub pairs_fit : Pairs → Bool
pairs_fit ps = items_fit pair_fits (λ p. (p.key == 0) && (p.word == 0)) ps.count ps.pairs

abbrev pub keys_fit : Keys → Bool
keys_fit ks = items_fit is_word (λ key. key == 0) ks.count ks.keys

-- the numbers, pairs and keys of a body fit
abbrev pub body_fits : Body → Bool
body_fits (Change leaf key before after) = ref_fits leaf && (is_word key && (is_word before && is_word after))
body_fits (PutBack leaf key before after) = ref_fits leaf && (is_word key && (is_word before && is_word after))
body_fits (Split left right parent separator high level pairs) =
    ref_fits left && (ref_fits right && (ref_fits parent && (is_word separator && (is_word high && (ltb level (2 ^ 8) && pairs_fit pairs)))))
body_fits (Lift prev page level pairs) = is_word prev && (ref_fits page && (ltb level (2 ^ 8) && pairs_fit pairs))
body_fits (Join left right parent separator high pairs) = ref_fits left && (ref_fits right && (ref_fits parent && (is_word separator && (is_word high && pairs_fit pairs))))
body_fits (DropRoot prev child level pairs) = is_word prev && (ref_fits child && (ltb level (2 ^ 8) && pairs_fit pairs))
body_fits (Purge leaf keys) = ref_fits leaf && keys_fit keys
body_fits (Commit need) = is_word need
body_fits (Abort need) = is_word need

abbrev pub fits : Record → Bool
fits r = is_word r.txn && (is_word r.gsn && body_fits r.body)

-- the bytes begin with the record
abbrev pub begins : List ℕ → Record → Bool
begins bytes r = fits r && bytes_eq (take (length (record_text r)) bytes) (record_text r)

-- the record that stands first, if one does
abbrev pub record_in : List ℕ → Option Record
record_in bytes = if begins bytes (record_at bytes) then Some (record_at bytes) else None
