-- The record that stands first is read off its places.
use Rattle.std.proofs.Common.{◌≡◌, ◌+◌, ◌-◌, ℕ, true, List, [], ◌∷◌, ◌++◌, length, take, drop, replicate, Some, None, bytes_eq, refl, sym, ap, subst, ◌∙◌, arith}
use Rattle.std.specs.List.{All, flat_map}
use mathlib.Core.List.{append_assoc}
use Rattle.std.specs.Bool.{Decides}
use Rattle.std.proofs.lemmas.Bool.{cond-true}
use Rattle.std.proofs.lemmas.Bool.Decides.{Decides-and}
use Rattle.std.proofs.lemmas.Option.{cond_some}
use Rattle.std.proofs.lemmas.List.{take_at, drop-drop, take-append-drop, length-take-le}
use Rattle.std.proofs.lemmas.List.Elements.{All-head, All-tail}
use Rattle.std.proofs.lemmas.Slice.Eq.{bytes_eq-Decides}
use Rattle.lean_bytes.specs.Numbers.{number_bytes, number_of, number_at}
use Rattle.log_record.specs.Spelling.{record_text, body_text, ref_text, pair_text, pairs_text, keys_text, kind_of, RefFits, PairFits, KeyFits, PairsFit, KeysFit, ItemsFit, BodyFits, Fits, Begins, no_pair}
use Rattle.log_record.specs.Inside.{change_of, put_back_of, split_of, lift_of, join_of, drop_of, SiblingsFit, RootChangeFits, KeyChangeFits, key_change_text, siblings_text, root_change_text}
use Rattle.log_record.specs.Reading.{ref_at, pair_at, items_at, pairs_at, keys_at, body_at, record_at, fits, begins, record_in}
use Rattle.log_record.specs.Laws.{EveryRecordIn, EveryLonger}
use Rattle.log_record.specs.declared.record.Record.{Record}
use Rattle.log_record.specs.declared.record.Pairs.{Pairs}
use Rattle.log_record.specs.declared.record.Keys.{Keys}
use Rattle.log_record.specs.declared.record.Body.{Body}
use Rattle.log_record.specs.declared.record.Body.TheVariants.{Change, PutBack, Split, Lift, Join, DropRoot, Purge, Commit, Abort}
use Rattle.log_record.specs.declared.parts.KeyChange.{KeyChange}
use Rattle.log_record.specs.declared.parts.Siblings.{Siblings}
use Rattle.log_record.specs.declared.parts.RootChange.{RootChange}
use Rattle.log_record.proofs.NumberCuts.{drop_next, number_there}
use Rattle.log_record.proofs.PartLemmas.{siblings_in, root_change_in}
use Rattle.log_record.proofs.FitLemmas.{fits_decides}

-- ## Parts at places

-- what stands at a place is read there, and others behind it
abbrev Reads : {A : Type 0} → (ℕ → List ℕ → A) → ℕ → (A → List ℕ) → (A → Type 0) → Type 0
Reads {A} item width text Fit = (x : A) (at : ℕ) (bytes xs : List ℕ) → Fit x → drop at bytes ≡ text x ++ xs → (item at bytes ≡ x) × (drop (at + width) bytes ≡ xs)

word_reads : Reads (number_at 8) 8 (number_bytes 8) KeyFits
word_reads x at bytes xs f e = (number_there 8 at x bytes xs e f, drop_next 8 (at + 8) at x bytes xs e refl)

first_byte : (x : ℕ) (xs : List ℕ) → number_of 1 (x ∷ xs) ≡ x
unfolding number_of
first_byte x xs = omega arith

byte_reads : (x at : ℕ) (bytes xs : List ℕ) → drop at bytes ≡ x ∷ xs → (number_at 1 at bytes ≡ x) × (drop (at + 1) bytes ≡ xs)
byte_reads x at bytes xs e = (ap (number_of 1) e ∙ first_byte x xs, sym (drop-drop 1 at bytes) ∙ ap (drop 1) e)

ref_reads : Reads ref_at 12 ref_text RefFits
ref_reads r at bytes xs f e =
    let e0 = e ∙ append_assoc (number_bytes 4 r.page) (number_bytes 8 r.prev) xs in
    let e1 = drop_next 4 (at + 4) at r.page bytes _ e0 refl in
    let page = number_there 4 at r.page bytes _ e0 f.0 in
    let prev = number_there 8 (at + 4) r.prev bytes xs e1 f.1 in
    (λ i. record { page = page i; prev = prev i }, drop_next 8 (at + 12) (at + 4) r.prev bytes xs e1 (omega arith))

pair_reads : Reads pair_at 16 pair_text PairFits
pair_reads p at bytes xs f e =
    let e0 = e ∙ append_assoc (number_bytes 8 p.key) (number_bytes 8 p.word) xs in
    let e1 = drop_next 8 (at + 8) at p.key bytes _ e0 refl in
    let key = number_there 8 at p.key bytes _ e0 f.0 in
    let value = number_there 8 (at + 8) p.word bytes xs e1 f.1 in
    (λ i. record { key = key i; word = value i }, drop_next 8 (at + 16) (at + 8) p.word bytes xs e1 (omega arith))

module _ {A : Type 0} (item : ℕ → List ℕ → A) (width : ℕ) (text : A → List ℕ) (Fit : A → Type 0) (reads : Reads item width text Fit) where
  items_read : (items : List A) (at : ℕ) (bytes xs : List ℕ) → All Fit items → drop at bytes ≡ flat_map text items ++ xs → items_at item width (length items) at bytes ≡ items
  items_read [] at bytes xs f e = refl
  items_read (x ∷ items) at bytes xs f e =
      let one = reads x at bytes (flat_map text items ++ xs) (All-head Fit x items f) (e ∙ append_assoc (text x) (flat_map text items) xs) in
      let more = items_read items (at + width) bytes xs (All-tail Fit x items f) one.1 in
      λ i. one.0 i ∷ more i

  -- the places behind a count
  counted_read : (nothing : A) (count : ℕ) (items : List A) (at : ℕ) (bytes xs : List ℕ) → ItemsFit Fit nothing count items → drop at bytes ≡ flat_map text (take count items) ++ xs
      → items_at item width count at bytes ++ replicate (60 - count) nothing ≡ items
  counted_read nothing count items at bytes xs f e =
      let long : length (take count items) ≡ count = length-take-le count items (let a = f.most in let b = f.places in omega arith) in
      let some : items_at item width count at bytes ≡ take count items = ap (λ n. items_at item width n at bytes) (sym long) ∙ items_read (take count items) at bytes xs f.each e in
      (λ i. some i ++ sym f.zeros i) ∙ take-append-drop count items

pairs_read : (ps : Pairs) (at : ℕ) (bytes xs : List ℕ) → PairsFit ps → drop at bytes ≡ pairs_text ps ++ xs → pairs_at at bytes ≡ ps
pairs_read ps at bytes xs f e =
    let c = byte_reads ps.count at bytes (flat_map pair_text (take ps.count ps.pairs) ++ xs) e in
    let places = ap (λ n. items_at pair_at 16 n (at + 1) bytes ++ replicate (60 - n) no_pair) c.0 ∙ counted_read pair_at 16 pair_text PairFits pair_reads no_pair ps.count ps.pairs (at + 1) bytes xs f c.1 in
    λ i. record { count = c.0 i; pairs = places i }

keys_read : (ks : Keys) (at : ℕ) (bytes xs : List ℕ) → KeysFit ks → drop at bytes ≡ keys_text ks ++ xs → keys_at at bytes ≡ ks
keys_read ks at bytes xs f e =
    let c = byte_reads ks.count at bytes (flat_map (number_bytes 8) (take ks.count ks.keys) ++ xs) e in
    let places = ap (λ n. items_at (number_at 8) 8 n (at + 1) bytes ++ replicate (60 - n) 0) c.0
    ∙ counted_read (number_at 8) 8 (number_bytes 8) KeyFits word_reads 0 ks.count ks.keys (at + 1) bytes xs f c.1 in
    λ i. record { count = c.0 i; keys = places i }

-- ## Parts of bodies

abbrev key_change_at : List ℕ → KeyChange
key_change_at bytes = record { leaf = ref_at 17 bytes; key = number_at 8 29 bytes; before = number_at 8 37 bytes; after = number_at 8 45 bytes }

abbrev siblings_at : List ℕ → Siblings
siblings_at bytes = record { left = ref_at 17 bytes; right = ref_at 29 bytes; parent = ref_at 41 bytes; separator = number_at 8 53 bytes; high = number_at 8 61 bytes }

abbrev root_change_at : List ℕ → RootChange
root_change_at bytes = record { root_prev = number_at 8 17 bytes; page = ref_at 25 bytes; level = number_at 1 37 bytes }

key_change_pieces : (c : KeyChange) (xs : List ℕ) → key_change_text c ++ xs ≡ ref_text c.leaf ++ (number_bytes 8 c.key ++ (number_bytes 8 c.before ++ (number_bytes 8 c.after ++ xs)))
key_change_pieces c xs = simp append_assoc

key_change_read : (c : KeyChange) (bytes xs : List ℕ) → KeyChangeFits c → drop 17 bytes ≡ key_change_text c ++ xs → key_change_at bytes ≡ c
key_change_read c bytes xs f e =
    let c0 = ref_reads c.leaf 17 bytes _ f.0 (e ∙ key_change_pieces c xs) in
    let c1 = word_reads c.key 29 bytes _ f.1 c0.1 in
    let c2 = word_reads c.before 37 bytes _ f.2 c1.1 in
    let c3 = word_reads c.after 45 bytes _ f.3 c2.1 in
    λ i. record { leaf = c0.0 i; key = c1.0 i; before = c2.0 i; after = c3.0 i }

siblings_read : (s : Siblings) (bytes xs : List ℕ) → SiblingsFit s → drop 17 bytes ≡ siblings_text s xs → (siblings_at bytes ≡ s) × (drop 69 bytes ≡ xs)
siblings_read s bytes xs f e =
    let c0 = ref_reads s.left 17 bytes _ f.0 e in
    let c1 = ref_reads s.right 29 bytes _ f.1 c0.1 in
    let c2 = ref_reads s.parent 41 bytes _ f.2 c1.1 in
    let c3 = word_reads s.separator 53 bytes _ f.3 c2.1 in
    let c4 = word_reads s.high 61 bytes xs f.4 c3.1 in
    (λ i. record { left = c0.0 i; right = c1.0 i; parent = c2.0 i; separator = c3.0 i; high = c4.0 i }, c4.1)

root_change_read : (c : RootChange) (bytes xs : List ℕ) → RootChangeFits c → drop 17 bytes ≡ root_change_text c xs → (root_change_at bytes ≡ c) × (drop 38 bytes ≡ xs)
root_change_read c bytes xs f e =
    let c0 = word_reads c.root_prev 17 bytes _ f.0 e in
    let c1 = ref_reads c.page 25 bytes _ f.1 c0.1 in
    let c2 = byte_reads c.level 37 bytes xs c1.1 in
    (λ i. record { root_prev = c0.0 i; page = c1.0 i; level = c2.0 i }, c2.1)

-- ## Bodies

body_read : (b : Body) (bytes xs : List ℕ) → BodyFits b → drop 17 bytes ≡ body_text b ++ xs → body_at (kind_of b) bytes ≡ b
body_read (Change l k v a) bytes xs f e = ap change_of (key_change_read (record { leaf = l; key = k; before = v; after = a }) bytes xs f e)
body_read (PutBack l k v a) bytes xs f e = ap put_back_of (key_change_read (record { leaf = l; key = k; before = v; after = a }) bytes xs f e)
body_read (Split l r p s t level ps) bytes xs f e =
    let m : Siblings = record { left = l; right = r; parent = p; separator = s; high = t } in
    let c0 = siblings_read m bytes (level ∷ (pairs_text ps ++ xs)) (f.0, f.1, f.2, f.3, f.4) (e ∙ siblings_in m (level ∷ pairs_text ps) xs) in
    let c1 = byte_reads level 69 bytes (pairs_text ps ++ xs) c0.1 in
    let c2 = pairs_read ps 70 bytes xs f.6 c1.1 in
    λ i. split_of (c0.0 i) (c1.0 i) (c2 i)
body_read (Lift v p level ps) bytes xs f e =
    let m : RootChange = record { root_prev = v; page = p; level = level } in
    let c0 = root_change_read m bytes (pairs_text ps ++ xs) (f.0, f.1, f.2) (e ∙ root_change_in m (pairs_text ps) xs) in
    let c1 = pairs_read ps 38 bytes xs f.3 c0.1 in
    λ i. lift_of (c0.0 i) (c1 i)
body_read (Join l r p s t ps) bytes xs f e =
    let m : Siblings = record { left = l; right = r; parent = p; separator = s; high = t } in
    let c0 = siblings_read m bytes (pairs_text ps ++ xs) (f.0, f.1, f.2, f.3, f.4) (e ∙ siblings_in m (pairs_text ps) xs) in
    let c1 = pairs_read ps 69 bytes xs f.5 c0.1 in
    λ i. join_of (c0.0 i) (c1 i)
body_read (DropRoot v p level ps) bytes xs f e =
    let m : RootChange = record { root_prev = v; page = p; level = level } in
    let c0 = root_change_read m bytes (pairs_text ps ++ xs) (f.0, f.1, f.2) (e ∙ root_change_in m (pairs_text ps) xs) in
    let c1 = pairs_read ps 38 bytes xs f.3 c0.1 in
    λ i. drop_of (c0.0 i) (c1 i)
body_read (Purge l ks) bytes xs f e =
    let c0 = ref_reads l 17 bytes (keys_text ks ++ xs) f.0 (e ∙ append_assoc (ref_text l) (keys_text ks) xs) in
    let c1 = keys_read ks 29 bytes xs f.1 c0.1 in
    λ i. Purge (c0.0 i) (c1 i)
body_read (Commit n) bytes xs f e = ap Commit (word_reads n 17 bytes xs f e).0
body_read (Abort n) bytes xs f e = ap Abort (word_reads n 17 bytes xs f e).0

-- ## Records

head_pieces : (t g b xs : List ℕ) → (t ++ (g ++ b)) ++ xs ≡ t ++ (g ++ (b ++ xs))
head_pieces t g b xs = simp append_assoc

record_read : (r : Record) (bytes xs : List ℕ) → Fits r → bytes ≡ record_text r ++ xs → record_at bytes ≡ r
record_read r bytes xs f e =
    let c0 = byte_reads (kind_of r.body) 0 bytes ((number_bytes 8 r.txn ++ (number_bytes 8 r.gsn ++ body_text r.body)) ++ xs) e in
    let c1 = word_reads r.txn 1 bytes _ f.txn (c0.1 ∙ head_pieces (number_bytes 8 r.txn) (number_bytes 8 r.gsn) (body_text r.body) xs) in
    let c2 = word_reads r.gsn 9 bytes _ f.gsn c1.1 in
    let body = ap (λ k. body_at k bytes) c0.0 ∙ body_read r.body bytes xs f.body c2.1 in
    λ i. record { txn = c1.0 i; gsn = c2.0 i; body = body i }

module _ (bytes : List ℕ) (r : Record) where
  abbrev long : ℕ
  long = length (record_text r)

  decided : Decides (begins bytes r) (Fits r × (take long bytes ≡ record_text r))
  decided = Decides-and (fits r) (bytes_eq (take long bytes) (record_text r)) (fits_decides r) (bytes_eq-Decides (take long bytes) (record_text r))

  begins_to : begins bytes r ≡ true → Begins bytes r long
  begins_to h =
      let d = decided.0 h in
      record { fits = d.0; count = refl; rest = drop long bytes; spelled = sym (take-append-drop long bytes) ∙ ap (λ (us : List ℕ). us ++ drop long bytes) d.1 }

  begins_from : (rest : List ℕ) → Fits r → bytes ≡ record_text r ++ rest → begins bytes r ≡ true
  begins_from rest f e = decided.1 (f, ap (take long) e ∙ take_at (record_text r) rest long refl)

-- ## The record that stands first

pub record_found : (bytes rest : List ℕ) (r : Record) → Fits r → bytes ≡ record_text r ++ rest → record_in bytes ≡ Some r
record_found bytes rest r f e =
    let same = record_read r bytes rest f e in
    cond-true (begins bytes (record_at bytes)) (Some (record_at bytes)) None (ap (begins bytes) same ∙ begins_from bytes r rest f e) ∙ ap Some same

found_to : (bytes : List ℕ) (r : Record) → record_in bytes ≡ Some r → Begins bytes r (length (record_text r))
found_to bytes r h =
    let t = cond_some (begins bytes (record_at bytes)) (record_at bytes) r h in
    subst (λ (z : Record). Begins bytes z (length (record_text z))) t.1 (begins_to bytes (record_at bytes) t.0)

pub every_record_in : EveryRecordIn
every_record_in bytes r = (found_to bytes r, λ b. record_found bytes b.rest r b.fits b.spelled)

pub every_longer : EveryLonger
every_longer bytes more r h =
    let b = found_to bytes r h in
    record_found (bytes ++ more) (b.rest ++ more) r b.fits (ap (λ (us : List ℕ). us ++ more) b.spelled ∙ append_assoc (record_text r) b.rest more)
