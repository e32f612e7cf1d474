-- How long records are that fit.
use Rattle.std.proofs.Common.{◌≡◌, ◌∷◌, ◌∙◌, ◌+◌, ◌*◌, ◌≤◌, length, arith}
use Rattle.std.proofs.lemmas.List.{length-append}
use Rattle.lean_bytes.proofs.NumberLemmas.{length-number_bytes}
use Rattle.log_record.specs.Spelling.{record_text, body_text, ref_text, pairs_text, keys_text, size_of, IsCounted, BodyFits, Fits, PairsFit, KeysFit}
use Rattle.log_record.specs.declared.record.Record.{Record}
use Rattle.log_record.specs.declared.record.Pairs.{Pairs}
use Rattle.log_record.specs.declared.record.Keys.{Keys}
use Rattle.log_record.specs.declared.record.Body.{Body}
use Rattle.log_record.specs.declared.record.Body.TheVariants.{Change, PutBack, Split, Lift, Join, DropRoot, Purge, Commit, Abort}
use Rattle.log_record.proofs.ItemLemmas.{pairs_long, keys_long}
use Rattle.log_record.proofs.PartLemmas.{ref_long, key_change_long, siblings_long, root_change_long}
use Rattle.log_record.proofs.RecordLemmas.{head_long}

-- at most 60 pairs or keys count
pub counted : (b : Body) → BodyFits b → IsCounted b
counted (Change l k v a) f = tt
counted (PutBack l k v a) f = tt
counted (Split l r p s t level pairs) f = f.6.most
counted (Lift v p level pairs) f = f.3.most
counted (Join l r p s t pairs) f = f.5.most
counted (DropRoot v p level pairs) f = f.3.most
counted (Purge l keys) f = f.1.most
counted (Commit n) f = tt
counted (Abort n) f = tt

pairs_size : (ps : Pairs) → PairsFit ps → length (pairs_text ps) ≡ 16 * ps.count + 1
pairs_size ps f = pairs_long ps (let m = f.most in let p = f.places in omega arith)

keys_size : (ks : Keys) → KeysFit ks → length (keys_text ks) ≡ 8 * ks.count + 1
keys_size ks f = keys_long ks (let m = f.most in let p = f.places in omega arith)

body_size : (b : Body) → BodyFits b → 17 + length (body_text b) ≡ size_of b
body_size (Change l k v a) f = let e = key_change_long (record { leaf = l; key = k; before = v; after = a }) in omega arith
body_size (PutBack l k v a) f = let e = key_change_long (record { leaf = l; key = k; before = v; after = a }) in omega arith
body_size (Split l r p s t level pairs) f = let e = siblings_long (record { left = l; right = r; parent = p; separator = s; high = t }) (level ∷ pairs_text pairs) in let n = pairs_size pairs f.6 in omega arith
body_size (Lift v p level pairs) f = let e = root_change_long (record { root_prev = v; page = p; level = level }) (pairs_text pairs) in let n = pairs_size pairs f.3 in omega arith
body_size (Join l r p s t pairs) f = let e = siblings_long (record { left = l; right = r; parent = p; separator = s; high = t }) (pairs_text pairs) in let n = pairs_size pairs f.5 in omega arith
body_size (DropRoot v p level pairs) f = let e = root_change_long (record { root_prev = v; page = p; level = level }) (pairs_text pairs) in let n = pairs_size pairs f.3 in omega arith
body_size (Purge l keys) f = let e = length-append (ref_text l) (keys_text keys) in let g = ref_long l in let n = keys_size keys f.1 in omega arith
body_size (Commit n) f = let e = length-number_bytes 8 n in omega arith
body_size (Abort n) f = let e = length-number_bytes 8 n in omega arith

-- a record has as many bytes as its size says
pub text_size : (r : Record) → Fits r → length (record_text r) ≡ size_of r.body
text_size r f = head_long r ∙ body_size r.body f.body

-- the bytes of an end at least, and those of a split of 60 pairs at most
pub size_range : (b : Body) → BodyFits b → (25 ≤ size_of b) × (size_of b ≤ 1031)
size_range (Change l k v a) f = (omega arith, omega arith)
size_range (PutBack l k v a) f = (omega arith, omega arith)
size_range (Split l r p s t level pairs) f = let m = f.6.most in (omega arith, omega arith)
size_range (Lift v p level pairs) f = let m = f.3.most in (omega arith, omega arith)
size_range (Join l r p s t pairs) f = let m = f.5.most in (omega arith, omega arith)
size_range (DropRoot v p level pairs) f = let m = f.3.most in (omega arith, omega arith)
size_range (Purge l keys) f = let m = f.1.most in (omega arith, omega arith)
size_range (Commit n) f = (omega arith, omega arith)
size_range (Abort n) f = (omega arith, omega arith)
