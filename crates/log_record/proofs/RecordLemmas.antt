-- A record's bytes: how many there are, that they are of one record alone, and what was read of them.
use Rattle.std.proofs.Common.{◌≡◌, ◌++◌, ◌∷◌, ℕ, List, Some, ◌+◌, ◌<◌, length, get_or, ap, sym, ◌∙◌, arith}
use mathlib.Core.List.{append_assoc}
use Rattle.std.proofs.lemmas.List.{length-append}
use Rattle.lean_bytes.specs.Numbers.{number_bytes}
use Rattle.lean_bytes.proofs.NumberLemmas.{length-number_bytes}
use Rattle.log_record.specs.Spelling.{record_text, body_text, kind_of, Fits, Begins}
use Rattle.log_record.specs.Heads.{head_of}
use Rattle.log_record.specs.Inside.{BodyStands, NoBody, HeadFits, head_text}
use Rattle.log_record.specs.declared.record.Record.{Record}
use Rattle.log_record.specs.declared.parts.Head.{Head}
use Rattle.log_record.specs.declared.record.Body.{Body}
use Rattle.log_record.proofs.NumberCuts.{number_in_cut}
use Rattle.log_record.proofs.PartLemmas.{byte_cut}
use Rattle.log_record.proofs.KindLemmas.{one_body}
pub use Rattle.log_record.proofs.NumberCuts.{number_cut}

-- ## Lengths

pub change_long : (t g page prev key before after : ℕ)
    → length (1 ∷ (number_bytes 8 t ++ (number_bytes 8 g ++ ((number_bytes 4 page ++ number_bytes 8 prev) ++ (number_bytes 8 key ++ (number_bytes 8 before ++ number_bytes 8 after)))))) ≡ 53
change_long t g page prev key before after = simp (length-append, length-number_bytes) (omega arith)

pub end_long : (kind t g need : ℕ) → length (kind ∷ (number_bytes 8 t ++ (number_bytes 8 g ++ number_bytes 8 need))) ≡ 25
end_long kind t g need = simp (length-append, length-number_bytes) (omega arith)

pub head_long : (r : Record) → length (record_text r) ≡ 17 + length (body_text r.body)
head_long r = simp (length-append, length-number_bytes) (omega arith)

pub size_by : (r : Record) (b : Body) (n : ℕ) → r.body ≡ b → length (body_text b) ≡ n → 17 + n ≡ length (record_text r)
size_by r b n is long =
    let head = head_long r in
    let same : length (body_text r.body) ≡ length (body_text b) = ap (λ (c : Body). length (body_text c)) is in
    omega arith

-- ## One record

-- bytes begin with one record at most
pub one_record : (r s : Record) (xs ys : List ℕ) → Fits r → Fits s → record_text r ++ xs ≡ record_text s ++ ys → r ≡ s
one_record r s xs ys f g e =
    let c0 = byte_cut (kind_of r.body) (kind_of s.body) _ _ e in
    let c1 = number_in_cut 8 r.txn s.txn (number_bytes 8 r.gsn ++ body_text r.body) (number_bytes 8 s.gsn ++ body_text s.body) xs ys f.txn g.txn c0.1 in
    let c2 = number_in_cut 8 r.gsn s.gsn (body_text r.body) (body_text s.body) xs ys f.gsn g.gsn c1.1 in
    let body : r.body ≡ s.body = one_body r.body s.body xs ys c0.0 f.body g.body c2.1 in
    λ i. record { txn = c1.0 i; gsn = c2.0 i; body = body i }

-- what was found is the record that stands there
pub found : (bytes : List ℕ) (r s : Record) (n : ℕ) (rest : List ℕ) → Begins bytes s n → Fits r → bytes ≡ record_text r ++ rest → (n ≡ length (record_text r)) × (s ≡ r)
found bytes r s n rest is fits e =
    let same : s ≡ r = one_record s r is.rest rest is.fits fits (sym is.spelled ∙ e) in
    (is.count ∙ ap (λ (x : Record). length (record_text x)) same, same)

-- bytes that begin with a record have its kind first, and are as long
pub first_kind : (bytes rest : List ℕ) (r : Record) → bytes ≡ record_text r ++ rest → get_or bytes 0 0 ≡ kind_of r.body
first_kind bytes rest r e = ap (λ (u : List ℕ). get_or u 0 0) e

-- ## A record behind its head

-- what stands behind the head is a body of its kind
pub stands : (bytes behind : List ℕ) (h : Head) (n : ℕ) (b : Body) → bytes ≡ head_text h behind → HeadFits h → BodyStands h.kind behind b n → Begins bytes (record { txn = h.txn; gsn = h.gsn; body = b }) (17 + n)
stands bytes behind h n b e f is =
    let r : Record = record { txn = h.txn; gsn = h.gsn; body = b } in
    let spread : record_text r ++ is.rest ≡ kind_of b ∷ (number_bytes 8 h.txn ++ (number_bytes 8 h.gsn ++ (body_text b ++ is.rest))) = simp append_assoc in
    record {
      fits = record { txn = f.0; gsn = f.1; body = is.fits };
      count = let l = head_long r in let k = is.count in omega arith;
      rest = is.rest;
      spelled = e ∙ (let kind = sym is.is in λ i. head_text (record { kind = kind i; txn = h.txn; gsn = h.gsn }) (is.spelled i)) ∙ sym spread;
    }

-- the head of the record that stands there
pub head_found : (bytes behind : List ℕ) (h : Head) (m : ℕ) (b : Body) (r : Record) (n : ℕ) → bytes ≡ head_text h behind → HeadFits h → BodyStands h.kind behind b m → Begins bytes r n
    → Some (record { kind = h.kind; txn = h.txn; gsn = h.gsn; size = 17 + m }) ≡ Some (head_of r n)
head_found bytes behind h m b r n e f is begins =
    let mine = stands bytes behind h m b e f is in
    let same = found bytes r _ (17 + m) begins.rest mine begins.fits begins.spelled in
    let size : 17 + m ≡ n = same.0 ∙ sym begins.count in
    λ i. Some (record { kind = (sym is.is ∙ ap (λ (x : Record). kind_of x.body) same.1) i; txn = (same.1 i).txn; gsn = (same.1 i).gsn; size = size i })

-- where no body of its kind does, no record stands first
pub no_stands : (bytes behind : List ℕ) (h : Head) → bytes ≡ head_text h behind → HeadFits h → NoBody h.kind behind → (r : Record) (rest : List ℕ) → Fits r → bytes ≡ record_text r ++ rest → ⊥
no_stands bytes behind h e f none r rest g is =
    let c0 = byte_cut h.kind (kind_of r.body) (number_bytes 8 h.txn ++ (number_bytes 8 h.gsn ++ behind)) _ (sym e ∙ is) in
    let c1 = number_cut 8 h.txn r.txn (number_bytes 8 h.gsn ++ behind) ((number_bytes 8 r.gsn ++ body_text r.body) ++ rest) f.0 g.txn
    (c0.1 ∙ append_assoc (number_bytes 8 r.txn) (number_bytes 8 r.gsn ++ body_text r.body) rest) in
    let c2 = number_cut 8 h.gsn r.gsn behind (body_text r.body ++ rest) f.1 g.gsn (c1.1 ∙ append_assoc (number_bytes 8 r.gsn) (body_text r.body) rest) in
    none r.body rest (sym c0.0) g.body c2.1

pub no_head : (bytes rest : List ℕ) (r : Record) → length bytes < 17 → bytes ≡ record_text r ++ rest → ⊥
no_head bytes rest r short e =
    let all : length bytes ≡ length (record_text r) + length rest = ap length e ∙ length-append (record_text r) rest in
    let long = head_long r in
    omega arith
