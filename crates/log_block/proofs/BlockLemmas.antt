-- Blocks: what is written, what was read, and that bytes are of one block alone.
use Rattle.std.proofs.Common.{◌≡◌, ◌++◌, ◌∷◌, [], ℕ, suc, List, ◌+◌, ◌-◌, ◌^◌, ◌<◌, ◌≤◌, length, take, drop, replicate, codes, refl, ap, sym, subst, ◌∙◌, arith}
use mathlib.Core.List.{append_assoc}
use Rattle.std.proofs.lemmas.List.{length-append, length-replicate, take_at, drop_at, drop-drop, drop_all, take_all, nil_from_length, append-nil, take-append-drop}
use Rattle.lean_bytes.specs.Numbers.{number_bytes, number_of}
use Rattle.lean_bytes.proofs.NumberLemmas.{length-number_bytes, number-read}
use Rattle.lean_bytes.proofs.SealLemmas.{length-seal_of}
use Rattle.log_record.specs.Spelling.{Holds, record_text, Begins}
use Rattle.log_record.specs.declared.record.Record.{Record}
use Rattle.log_record.proofs.RecordLemmas.{number_cut}
use Rattle.log_block.specs.Block.{header_text, body_text, seal_text, block_text, generation_of, log_of, block_of, IsSealed, Belongs, records_text, Lists, IsBlock, Spells}

-- ## Writing

pub holds_same : (text other first now : List ℕ) (end : ℕ) → text ≡ other → Holds text first now end → Holds other first now end
holds_same text other first now end same is = let P : List ℕ → Type 0 = λ t. Holds t first now end in subst P same is

pub header_pieces : (g s q n c : List ℕ) → (((g ++ s) ++ q) ++ n) ++ c ≡ g ++ (s ++ (q ++ (n ++ c)))
header_pieces g s q n c = simp append_assoc

-- a text that fills the buffer is all that is there
pub holds_all : (text first now : List ℕ) (end : ℕ) → length first ≡ length text → Holds text first now end → now ≡ text
holds_all text first now end full is =
    let none : drop (length text) first ≡ [] = drop_all (length text) first (omega arith) in
    is.bytes ∙ ap (λ (u : List ℕ). text ++ u) none ∙ append-nil text

-- the prefix of a buffer is the text that it holds
pub holds_prefix : (text first now : List ℕ) (end k : ℕ) → k ≡ end → Holds text first now end → take k now ≡ text
holds_prefix text first now end k same is =
    let count : end ≡ length text = is.count in
    ap (take k) is.bytes ∙ take_at text (drop (length text) first) k (omega arith)

pub header_long : (g s q n c : ℕ) → length (header_text g s q n c) ≡ 32
header_long g s q n c = simp (length-append, length-number_bytes) (omega arith)

-- ## The numbers of a header

pub header_spread : (g s q n c rest : List ℕ) → (g ++ (s ++ (q ++ (n ++ c)))) ++ rest ≡ g ++ (s ++ (q ++ (n ++ (c ++ rest))))
header_spread g s q n c rest = simp append_assoc

module _ (g s q n c : ℕ) (bytes rest : List ℕ) (fg : g < 2 ^ 64) (fs : s < 2 ^ 64) (fq : q < 2 ^ 64) (prefix : bytes ≡ header_text g s q n c ++ rest) where
  abbrev behind : List ℕ
  behind = number_bytes 4 n ++ (number_bytes 4 c ++ rest)

  spread : bytes ≡ number_bytes 8 g ++ (number_bytes 8 s ++ (number_bytes 8 q ++ behind))
  spread = prefix ∙ header_spread (number_bytes 8 g) (number_bytes 8 s) (number_bytes 8 q) (number_bytes 4 n) (number_bytes 4 c) rest

  pub generation_read : generation_of bytes ≡ g
  unfolding generation_of
  generation_read = ap (number_of 8) spread ∙ number-read 8 g (number_bytes 8 s ++ (number_bytes 8 q ++ behind)) fg

  eight : (xs : List ℕ) (x k : ℕ) → k ≡ 8 → drop k (number_bytes 8 x ++ xs) ≡ xs
  eight xs x k e = drop_at (number_bytes 8 x) xs k (length-number_bytes 8 x ∙ sym e)

  pub log_read : log_of bytes ≡ s
  unfolding log_of
  log_read = ap (λ (u : List ℕ). number_of 8 (drop 8 u)) spread ∙ ap (number_of 8) (eight (number_bytes 8 s ++ (number_bytes 8 q ++ behind)) g 8 refl) ∙ number-read 8 s (number_bytes 8 q ++ behind) fs

  pub block_read : block_of bytes ≡ q
  unfolding block_of
  block_read =
      ap (λ (u : List ℕ). number_of 8 (drop 16 u)) spread
      ∙ ap (number_of 8) (sym (drop-drop 8 8 (number_bytes 8 g ++ (number_bytes 8 s ++ (number_bytes 8 q ++ behind)))) ∙ ap (drop 8) (eight (number_bytes 8 s ++ (number_bytes 8 q ++ behind)) g 8 refl) ∙ eight (number_bytes 8 q ++ behind) s 8 refl)
      ∙ number-read 8 q behind fq

-- two headers in front of the same bytes are the same
pub record SameHeader (g s q n c h t r m d : ℕ) (xs ys : List ℕ) : Type 0 where
  pub size : n ≡ m
  pub count : c ≡ d
  pub rest : xs ≡ ys

pub same_header : (g s q n c h t r m d : ℕ) (xs ys : List ℕ) → g < 2 ^ 64 → s < 2 ^ 64 → q < 2 ^ 64 → n < 2 ^ 32 → c < 2 ^ 32 → h < 2 ^ 64 → t < 2 ^ 64 → r < 2 ^ 64 → m < 2 ^ 32 → d < 2 ^ 32
    → header_text g s q n c ++ xs ≡ header_text h t r m d ++ ys → SameHeader g s q n c h t r m d xs ys
same_header g s q n c h t r m d xs ys fg fs fq fn fc fh ft fr fm fd e =
    let w = sym (header_spread (number_bytes 8 g) (number_bytes 8 s) (number_bytes 8 q) (number_bytes 4 n) (number_bytes 4 c) xs) ∙ e
    ∙ header_spread (number_bytes 8 h) (number_bytes 8 t) (number_bytes 8 r) (number_bytes 4 m) (number_bytes 4 d) ys in
    let c0 = number_cut 8 g h _ _ fg fh w in
    let c1 = number_cut 8 s t _ _ fs ft c0.1 in
    let c2 = number_cut 8 q r _ _ fq fr c1.1 in
    let c3 = number_cut 4 n m _ _ fn fm c2.1 in
    let c4 = number_cut 4 c d _ _ fc fd c3.1 in
    record { size = c3.0; count = c4.0; rest = c4.1 }

-- ## Lists of records

pub lists_none : (bytes : List ℕ) → length bytes ≡ 0 → Lists [] 0 bytes
lists_none bytes none = record { fit = tt; many = refl; spelled = nil_from_length bytes none }

pub lists_more : (bytes left : List ℕ) (r : Record) (n count : ℕ) (records : List Record) → Begins bytes r n → left ≡ take (length bytes - n) (drop n bytes) → 0 < count → Lists records (count - 1) left → Lists (r ∷ records) count bytes
lists_more bytes left r n count records is at some more =
    let l : length bytes ≡ length (record_text r) + length is.rest = ap length is.spelled ∙ length-append (record_text r) is.rest in
    let k : n ≡ length (record_text r) = is.count in
    let behind : drop n bytes ≡ is.rest = ap (drop n) is.spelled ∙ drop_at (record_text r) is.rest n (sym k) in
    let whole : take (length bytes - n) is.rest ≡ is.rest = take_all (length bytes - n) is.rest (omega arith) in
    let rest : is.rest ≡ records_text records = sym (at ∙ ap (take (length bytes - n)) behind ∙ whole) ∙ more.spelled in
    let many : length records ≡ count - 1 = more.many in
    record {
      fit = (is.fits, more.fit);
      many = omega arith;
      spelled = is.spelled ∙ ap (λ (u : List ℕ). record_text r ++ u) rest;
    }

-- the first record that is listed stands first
pub lists_begin : (bytes : List ℕ) (r : Record) (count : ℕ) (records : List Record) → Lists (r ∷ records) count bytes → Begins bytes r (length (record_text r))
lists_begin bytes r count records is = record { fits = is.fit.0; count = refl; rest = records_text records; spelled = is.spelled }

-- what is listed behind the first record
pub lists_rest : (bytes left : List ℕ) (n count : ℕ) (r : Record) (records : List Record) → left ≡ take (length bytes - n) (drop n bytes) → n ≡ length (record_text r) → 0 < count → Lists (r ∷ records) count bytes
    → Lists records (count - 1) left
lists_rest bytes left n count r records at k some is =
    let l : length bytes ≡ length (record_text r) + length (records_text records) = ap length is.spelled ∙ length-append (record_text r) (records_text records) in
    let behind : drop n bytes ≡ records_text records = ap (drop n) is.spelled ∙ drop_at (record_text r) (records_text records) n (sym k) in
    let whole : take (length bytes - n) (records_text records) ≡ records_text records = take_all (length bytes - n) (records_text records) (omega arith) in
    let many : suc (length records) ≡ count = is.many in
    record { fit = is.fit.1; many = omega arith; spelled = at ∙ ap (take (length bytes - n)) behind ∙ whole }

-- each record takes a byte at least
pub records_long : (records : List Record) → length records ≤ length (records_text records)
records_long [] = omega arith
records_long (r ∷ records) =
    let e : length (records_text (r ∷ records)) ≡ length (record_text r) + length (records_text records) = length-append (record_text r) (records_text records) in
    let ih = records_long records in
    omega arith

-- ## A block

room_long : (payload : List ℕ) → length payload ≤ 2000 → length (payload ++ replicate (2000 - length payload) 0) ≡ 2000
room_long payload few =
    let a = length-append payload (replicate {A = ℕ} (2000 - length payload) 0) in
    let b = length-replicate {A = ℕ} (2000 - length payload) 0 in
    omega arith

pub body_long : (g s q c : ℕ) (payload : List ℕ) → length payload ≤ 2000 → length (body_text g s q c payload) ≡ 2032
body_long g s q c payload few =
    let a = length-append (header_text g s q (length payload) c) (payload ++ replicate (2000 - length payload) 0) in
    let b = header_long g s q (length payload) c in
    let d = room_long payload few in
    omega arith

-- what stands in front of the last sixteen bytes, and these
pub sealed_parts : (bytes body seal : List ℕ) → bytes ≡ body ++ seal → length body ≡ 2032 → length bytes ≡ 2048 → (take (length bytes - 16) bytes ≡ body) × (drop (length bytes - 16) bytes ≡ seal)
sealed_parts bytes body seal e l k =
    let at : length body ≡ length bytes - 16 = omega arith in
    (ap (take (length bytes - 16)) e ∙ take_at body seal (length bytes - 16) at, ap (drop (length bytes - 16)) e ∙ drop_at body seal (length bytes - 16) at)

pub is_sealed : (bytes body seal : List ℕ) → bytes ≡ body ++ seal → length body ≡ 2032 → length seal ≡ 16 → seal ≡ seal_text body → IsSealed bytes
is_sealed bytes body seal e l m is =
    let whole : length bytes ≡ 2048 = let a : length bytes ≡ length body + length seal = ap length e ∙ length-append body seal in omega arith in
    let parts = sealed_parts bytes body seal e l whole in
    record { whole = whole; seal = parts.1 ∙ is ∙ ap seal_text (sym parts.0) }

-- the parts of a block's bytes behind its header
pub record Parts (payload : List ℕ) (many n c : ℕ) (rest : List ℕ) : Type 0 where
  pub size : n ≡ length payload
  pub count : c ≡ many
  pub rest_is : (seal : List ℕ) × (rest ≡ (payload ++ replicate (2000 - length payload) 0) ++ seal)

pub parts_of : (g s q n c g1 s1 q1 many : ℕ) (bytes rest payload : List ℕ) → g < 2 ^ 64 → s < 2 ^ 64 → q < 2 ^ 64 → g1 < 2 ^ 64 → s1 < 2 ^ 64 → q1 < 2 ^ 64 → n < 2 ^ 32 → c < 2 ^ 32
    → bytes ≡ header_text g1 s1 q1 n c ++ rest → Spells g s q bytes many payload → Parts payload many n c rest
parts_of g s q n c g1 s1 q1 many bytes rest payload fg fs fq fg1 fs1 fq1 fn fc prefix is =
    let few : length payload ≤ 2000 = is.room in
    let header : List ℕ = header_text g s q (length payload) many in
    let room : List ℕ = payload ++ replicate (2000 - length payload) 0 in
    let seal : List ℕ = seal_text (body_text g s q many payload) in
    let e : header_text g1 s1 q1 n c ++ rest ≡ header ++ (room ++ seal) = sym prefix ∙ is.spelled ∙ append_assoc header room seal in
    let same = same_header g1 s1 q1 n c g s q (length payload) many rest (room ++ seal) fg1 fs1 fq1 fn fc fg fs fq (omega arith) is.fits e in
    record { size = same.size; count = same.count; rest_is = (seal, same.rest) }

-- the block that was read
pub assembled : (g s q n c g1 s1 q1 : ℕ) (bytes rest room tail payload zeros : List ℕ) → c < 2 ^ 32 → g1 < 2 ^ 64 → s1 < 2 ^ 64 → q1 < 2 ^ 64
    → bytes ≡ header_text g1 s1 q1 n c ++ rest → length rest + 32 ≡ length bytes → rest ≡ room ++ tail → length room ≡ 2000 → room ≡ payload ++ zeros → length payload ≡ n → n ≤ 2000 → zeros ≡ replicate (length zeros) 0
    → Belongs g s q bytes → Spells g s q bytes c payload
assembled g s q n c g1 s1 q1 bytes rest room tail payload zeros fc fg1 fs1 fq1 prefix long cut few parts size most nothing is =
    let eg : g1 ≡ g = sym (generation_read g1 s1 q1 n c bytes rest fg1 fs1 fq1 prefix) ∙ is.of_generation in
    let es : s1 ≡ s = sym (log_read g1 s1 q1 n c bytes rest fg1 fs1 fq1 prefix) ∙ is.of_log in
    let eq : q1 ≡ q = sym (block_read g1 s1 q1 n c bytes rest fg1 fs1 fq1 prefix) ∙ is.of_block in
    let en : n ≡ length payload = sym size in
    let whole : length bytes ≡ 2048 = is.sealed.whole in
    let split : length room ≡ length payload + length zeros = ap length parts ∙ length-append payload zeros in
    let left : length zeros ≡ 2000 - length payload = omega arith in
    let room_is : room ≡ payload ++ replicate (2000 - length payload) 0 = parts ∙ ap (λ (u : List ℕ). payload ++ u) (nothing ∙ ap (λ (k : ℕ). replicate {A = ℕ} k 0) left) in
    let head : header_text g1 s1 q1 n c ≡ header_text g s q (length payload) c =
    ap (λ (x : ℕ). header_text x s1 q1 n c) eg ∙ ap (λ (x : ℕ). header_text g x q1 n c) es ∙ ap (λ (x : ℕ). header_text g s x n c) eq
    ∙ ap (λ (x : ℕ). header_text g s q x c) en in
    let body : header_text g1 s1 q1 n c ++ room ≡ body_text g s q c payload =
    ap (λ (u : List ℕ). u ++ room) head ∙ ap (λ (u : List ℕ). header_text g s q (length payload) c ++ u) room_is in
    let joined : bytes ≡ (header_text g1 s1 q1 n c ++ room) ++ tail = prefix ∙ ap (λ (u : List ℕ). header_text g1 s1 q1 n c ++ u) cut ∙ sym (append_assoc (header_text g1 s1 q1 n c) room tail) in
    let body_size : length (header_text g1 s1 q1 n c ++ room) ≡ 2032 =
    let a = length-append (header_text g1 s1 q1 n c) room in let b = header_long g1 s1 q1 n c in omega arith in
    let ends = sealed_parts bytes (header_text g1 s1 q1 n c ++ room) tail joined body_size whole in
    let seal : tail ≡ seal_text (header_text g1 s1 q1 n c ++ room) = sym ends.1 ∙ is.sealed.seal ∙ ap seal_text ends.0 in
    let text : bytes ≡ block_text g s q c payload =
    joined ∙ ap (λ (u : List ℕ). (header_text g1 s1 q1 n c ++ room) ++ u) seal ∙ ap (λ (u : List ℕ). u ++ seal_text u) body in
    record { room = omega arith; fits = fc; spelled = text }

-- what was read of a block that is one
module _ (p : List ℕ) (many n c end : ℕ) (rest room zeros : List ℕ) (few : length p ≤ 2000) (at : end ≡ 2000) (is : Parts p many n c rest) (cut : room ≡ take end rest) (back : zeros ≡ drop n room) where
  room_is : room ≡ p ++ replicate (2000 - length p) 0
  room_is = let long = room_long p few in cut ∙ ap (take end) is.rest_is.1 ∙ take_at (p ++ replicate (2000 - length p) 0) is.rest_is.0 end (long ∙ sym at)

  pub zeros_are : zeros ≡ replicate (length zeros) 0
  zeros_are =
      let k : ℕ = 2000 - length p in
      let e : zeros ≡ replicate {A = ℕ} k 0 = back ∙ ap (drop n) room_is ∙ drop_at p (replicate {A = ℕ} k 0) n (sym is.size) in
      let l : length zeros ≡ k = ap length e ∙ length-replicate {A = ℕ} k 0 in
      e ∙ ap (λ (j : ℕ). replicate {A = ℕ} j 0) (sym l)

-- bytes are the block of one count and one payload alone
pub record OneBlock (c d : ℕ) (p r : List ℕ) : Type 0 where
  pub count : c ≡ d
  pub payload : p ≡ r

pub one_block : (g s q c d : ℕ) (bytes p r : List ℕ) → g < 2 ^ 64 → s < 2 ^ 64 → q < 2 ^ 64 → Spells g s q bytes c p → Spells g s q bytes d r → OneBlock c d p r
one_block g s q c d bytes p r fg fs fq is other =
    let few : length p ≤ 2000 = is.room in
    let zeros : List ℕ = replicate (2000 - length p) 0 in
    let rest : List ℕ = (p ++ zeros) ++ seal_text (body_text g s q c p) in
    let prefix : bytes ≡ header_text g s q (length p) c ++ rest = is.spelled ∙ append_assoc (header_text g s q (length p) c) (p ++ zeros) (seal_text (body_text g s q c p)) in
    let parts = parts_of g s q (length p) c g s q d bytes rest r fg fs fq fg fs fq (omega arith) is.fits prefix other in
    let left : List ℕ = replicate (2000 - length r) 0 in
    let mine : take (length p) rest ≡ p = ap (take (length p)) (append_assoc p zeros (seal_text (body_text g s q c p))) ∙ take_at p (zeros ++ seal_text (body_text g s q c p)) (length p) refl in
    let theirs : take (length p) rest ≡ r = ap (take (length p)) (parts.rest_is.1 ∙ append_assoc r left parts.rest_is.0) ∙ take_at r (left ++ parts.rest_is.0) (length p) (sym parts.size) in
    record { count = parts.count; payload = sym mine ∙ theirs }

-- a block of records is one of their bytes
pub spells_records : (g s q : ℕ) (bytes : List ℕ) (records : List Record) → IsBlock g s q bytes records → Spells g s q bytes (length records) (records_text records)
spells_records g s q bytes records is =
    let many = records_long records in
    let few : length (records_text records) ≤ 2000 = is.room in
    record { room = is.room; fits = omega arith; spelled = is.spelled }

pub block_of_records : (g s q c : ℕ) (bytes payload : List ℕ) (records : List Record) → Spells g s q bytes c payload → Lists records c payload → IsBlock g s q bytes records
block_of_records g s q c bytes payload records is listed =
    let P : List ℕ → Type 0 = λ u. length u ≤ 2000 in
    record {
      fit = listed.fit;
      room = subst P listed.spelled is.room;
      spelled = is.spelled ∙ ap (λ (k : ℕ). block_text g s q k payload) (sym listed.many) ∙ ap (λ (u : List ℕ). block_text g s q (length records) u) listed.spelled;
    }

-- the payload lists no other records than the block's
pub block_lists : (g s q c : ℕ) (bytes payload : List ℕ) (records : List Record) → g < 2 ^ 64 → s < 2 ^ 64 → q < 2 ^ 64 → Spells g s q bytes c payload → IsBlock g s q bytes records → Lists records c payload
block_lists g s q c bytes payload records fg fs fq spells is =
    let one = one_block g s q c (length records) bytes payload (records_text records) fg fs fq spells (spells_records g s q bytes records is) in
    record { fit = is.fit; many = sym one.count; spelled = one.payload }

-- a block belongs where it says
pub spells_belongs : (g s q c : ℕ) (bytes payload : List ℕ) → g < 2 ^ 64 → s < 2 ^ 64 → q < 2 ^ 64 → Spells g s q bytes c payload → Belongs g s q bytes
spells_belongs g s q c bytes payload fg fs fq is =
    let n : ℕ = length payload in
    let body : List ℕ = body_text g s q c payload in
    let room : List ℕ = payload ++ replicate (2000 - n) 0 in
    let rest : List ℕ = room ++ seal_text body in
    let prefix : bytes ≡ header_text g s q n c ++ rest = is.spelled ∙ append_assoc (header_text g s q n c) room (seal_text body) in
    record {
      sealed = is_sealed bytes body (seal_text body) is.spelled (body_long g s q c payload is.room) (length-seal_of (codes "LEANLOGB") body) refl;
      of_generation = generation_read g s q n c bytes rest fg fs fq prefix;
      of_log = log_read g s q n c bytes rest fg fs fq prefix;
      of_block = block_read g s q n c bytes rest fg fs fq prefix;
    }

pub block_belongs : (g s q : ℕ) (bytes : List ℕ) (records : List Record) → g < 2 ^ 64 → s < 2 ^ 64 → q < 2 ^ 64 → IsBlock g s q bytes records → Belongs g s q bytes
block_belongs g s q bytes records fg fs fq is = spells_belongs g s q (length records) bytes (records_text records) fg fs fq (spells_records g s q bytes records is)

-- two parts of a list are the list
pub parts_join : (k : ℕ) (xs prefix back : List ℕ) → prefix ≡ take k xs → back ≡ drop k xs → xs ≡ prefix ++ back
parts_join k xs prefix back f b = sym (ap (λ (u : List ℕ). u ++ back) f ∙ ap (λ (u : List ℕ). take k xs ++ u) b ∙ take-append-drop k xs)
