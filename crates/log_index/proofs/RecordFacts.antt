-- How long a record is that stands first, and where its transaction stands.
use Rattle.std.proofs.Common.{◌≡◌, ◌≤◌, ◌<◌, ◌+◌, ◌-◌, ◌^◌, ◌++◌, ℕ, List, length, drop, ap, sym, ◌∙◌, arith}
use Rattle.std.proofs.lemmas.List.{length-append, length-drop, append_assoc, drop-drop}
use Rattle.lean_bytes.specs.Numbers.{number_bytes}
use Rattle.log_record.specs.Spelling.{record_text, body_text, size_of, Begins}
use Rattle.log_record.specs.declared.record.Record.{Record}
use Rattle.log_record.proofs.NumberCuts.{number_cut}
use Rattle.log_record.proofs.SizeLemmas.{text_size, size_range}

-- it ends within the bytes
pub begins_within : (bytes : List ℕ) (r : Record) (n : ℕ) → Begins bytes r n → n ≤ length bytes
begins_within bytes r n b =
    let long : length bytes ≡ length (record_text r ++ b.rest) = ap length b.spelled in
    let sum : length (record_text r ++ b.rest) ≡ length (record_text r) + length b.rest = length-append (record_text r) b.rest in
    let count : n ≡ length (record_text r) = b.count in
    omega arith

-- it has the bytes of an end at least
pub begins_least : (bytes : List ℕ) (r : Record) (n : ℕ) → Begins bytes r n → 25 ≤ n
begins_least bytes r n b =
    let size : length (record_text r) ≡ size_of r.body = text_size r b.fits in
    let least : 25 ≤ size_of r.body = (size_range r.body b.fits.body).0 in
    let count : n ≡ length (record_text r) = b.count in
    omega arith

-- the transaction stands behind the kind, and there is room for it
pub txn_room : (bytes : List ℕ) (at : ℕ) (r : Record) (n : ℕ) → Begins (drop at bytes) r n → at + 9 ≤ length bytes
txn_room bytes at r n b =
    let within : n ≤ length (drop at bytes) = begins_within (drop at bytes) r n b in
    let least : 25 ≤ n = begins_least (drop at bytes) r n b in
    let long : length (drop at bytes) ≡ length bytes - at = length-drop at bytes in
    omega arith

-- what was read there is it
pub txn_is : (bytes rest : List ℕ) (at txn : ℕ) (r : Record) (n : ℕ) → txn < 2 ^ 64 → drop (at + 1) bytes ≡ number_bytes 8 txn ++ rest → Begins (drop at bytes) r n → txn ≡ r.txn
txn_is bytes rest at txn r n few read b =
    let behind : List ℕ = number_bytes 8 r.gsn ++ body_text r.body in
    let here : drop (at + 1) bytes ≡ number_bytes 8 r.txn ++ (behind ++ b.rest) =
    sym (drop-drop 1 at bytes) ∙ ap (drop 1) b.spelled ∙ append_assoc (number_bytes 8 r.txn) behind b.rest in
    (number_cut 8 txn r.txn rest (behind ++ b.rest) few b.fits.txn (sym read ∙ here)).0
