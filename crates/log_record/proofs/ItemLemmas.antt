-- Items of one width behind one another, and a count in front of them.
use Rattle.std.proofs.Common.{◌≡◌, ◌++◌, ◌∷◌, [], ℕ, List, ◌+◌, ◌-◌, ◌*◌, slice_set, ◌<◌, ◌≤◌, suc, length, get_or, take, drop, replicate, refl, length-drop, ap, sym, ◌∙◌, arith}
use Rattle.std.specs.List.{All, flat_map}
use mathlib.Core.List.{append_assoc}
use borrow.Rule.Slice.PartMut.{put_mid}
use Rattle.std.proofs.lemmas.List.{length-append, drop_all, length-take-le, take-append-drop, take_at, drop_at, length-replicate, take_more, take_more_set, flat_map_more, append-nil, take_all}
use Rattle.std.proofs.lemmas.List.Elements.{All-head, All-tail, All-same, All-push, All-nil}
use Rattle.lean_bytes.specs.Numbers.{number_bytes}
use Rattle.lean_bytes.proofs.NumberLemmas.{length-number_bytes}
use Rattle.log_record.specs.Spelling.{Holds, pair_text, pairs_text, keys_text, PairFits, KeyFits, ItemsFit, PairsFit, KeysFit, no_pair}
use Rattle.log_record.specs.Inside.{Spell, PairsStand, KeysStand}
use Rattle.log_record.specs.declared.record.Pair.{Pair}
use Rattle.log_record.specs.declared.record.Pairs.{Pairs}
use Rattle.log_record.specs.declared.record.Keys.{Keys}
use Rattle.log_record.proofs.HoldLemmas.{holds_same}
use Rattle.log_record.proofs.NumberCuts.{number_cut, number_in_cut}

-- ## Items of any kind

-- items in front of the same bytes are the same, where one is
abbrev Cuts : {A : Type 0} → (A → Type 0) → (A → List ℕ) → Type 0
Cuts {A} Fit text = (x y : A) (xs ys : List ℕ) → Fit x → Fit y → text x ++ xs ≡ text y ++ ys → (x ≡ y) × (xs ≡ ys)

each_cut : {A : Type 0} (Fit : A → Type 0) (text : A → List ℕ) → Cuts Fit text → (ps qs : List A) (xs ys : List ℕ) → length ps ≡ length qs → All Fit ps → All Fit qs
    → flat_map text ps ++ xs ≡ flat_map text qs ++ ys → (ps ≡ qs) × (xs ≡ ys)
each_cut Fit text cut [] [] xs ys l f g e = (refl, e)
each_cut Fit text cut [] (q ∷ qs) xs ys l f g e = absurd (omega arith)
each_cut Fit text cut (p ∷ ps) [] xs ys l f g e = absurd (omega arith)
each_cut Fit text cut (p ∷ ps) (q ∷ qs) xs ys l f g e =
    let one = cut p q (flat_map text ps ++ xs) (flat_map text qs ++ ys) (All-head Fit p ps f) (All-head Fit q qs g)
    (sym (append_assoc (text p) (flat_map text ps) xs) ∙ e ∙ append_assoc (text q) (flat_map text qs) ys) in
    let more = each_cut Fit text cut ps qs xs ys (omega arith) (All-tail Fit p ps f) (All-tail Fit q qs g) one.1 in
    (λ i. one.0 i ∷ more.0 i, more.1)

-- so are counted ones
pub record Same {A : Type 0} (m n : ℕ) (ps qs : List A) (xs ys : List ℕ) : Type 0 where
  pub count : m ≡ n
  pub items : ps ≡ qs
  pub rest : xs ≡ ys

counted_cut : {A : Type 0} (Fit : A → Type 0) (text : A → List ℕ) (zero : A) → Cuts Fit text → (m n : ℕ) (ps qs : List A) (xs ys : List ℕ) → ItemsFit Fit zero m ps → ItemsFit Fit zero n qs
    → m ∷ (flat_map text (take m ps) ++ xs) ≡ n ∷ (flat_map text (take n qs) ++ ys) → Same m n ps qs xs ys
counted_cut Fit text zero cut m n ps qs xs ys f g e =
    let count : m ≡ n = ap (λ (z : List ℕ). get_or z 0 0) e in
    let first : length (take m ps) ≡ m = length-take-le m ps (let a = f.most in let b = f.places in omega arith) in
    let second : length (take n qs) ≡ n = length-take-le n qs (let a = g.most in let b = g.places in omega arith) in
    let some = each_cut Fit text cut (take m ps) (take n qs) xs ys (first ∙ count ∙ sym second) f.each g.each (ap (drop 1) e) in
    let others : drop m ps ≡ drop n qs = f.zeros ∙ ap (λ k. replicate (60 - k) zero) count ∙ sym g.zeros in
    record {
      count = count;
      items = sym (take-append-drop m ps) ∙ (λ i. some.0 i ++ others i) ∙ take-append-drop n qs;
      rest = some.1;
    }

pub each_long : {A : Type 0} (text : A → List ℕ) (width : ℕ) → ((x : A) → length (text x) ≡ width) → (ps : List A) → length (flat_map text ps) ≡ width * length ps
each_long text width one [] = omega arith
each_long text width one (p ∷ ps) =
    let a = length-append (text p) (flat_map text ps) in
    let b = one p in
    let c = each_long text width one ps in
    let d : width * suc (length ps) ≡ width + width * length ps = omega arith in
    a ∙ omega arith

-- what stands behind the new items was written over
over : {A : Type 0} (k n : ℕ) (new post behind : List A) → length new ≡ k → length post ≤ n → put_mid k n (new ++ post) behind ≡ new ++ behind
over k n new post behind long short =
    let rest : drop n (drop k (new ++ post)) ≡ [] = ap (drop n) (drop_at new post k long) ∙ drop_all n post short in
    (λ i. take_at new post k long i ++ (behind ++ rest i)) ∙ ap (λ (zs : List _). new ++ zs) (append-nil behind)

-- the places of an array of 60, the first so many of them new and the others written over
pub record Places {A : Type 0} (k : ℕ) (new behind all : List A) : Type 0 where
  pub some : length new ≡ k
  pub others : length (take (60 - k) (drop k all)) ≡ 60 - k
  pub is : put_mid k (60 - k) all behind ≡ new ++ behind

pub places : {A : Type 0} (k : ℕ) (old new behind : List A) → length old ≡ 60 → k ≤ 60 → length new ≡ length (take k old) → Places k new behind (new ++ drop k old)
places k old new behind all most same =
    let some : length new ≡ k = same ∙ length-take-le k old (omega arith) in
    let post : length (drop k old) ≡ 60 - k = length-drop k old ∙ omega arith in
    let others : drop k (new ++ drop k old) ≡ drop k old = drop_at new (drop k old) k some in
    record {
      some = some;
      others = ap (λ (zs : List _). length (take (60 - k) zs)) others ∙ length-take-le (60 - k) (drop k old) (omega arith) ∙ refl;
      is = over k (60 - k) new (drop k old) behind some (omega arith);
    }

-- so many were read, and 0 was written behind them
filled : {A : Type 0} (Fit : A → Type 0) (zero : A) (many : ℕ) (new behind : List A) → length new ≡ many → many ≤ 60 → behind ≡ replicate (60 - many) zero → All Fit new → ItemsFit Fit zero many (new ++ behind)
filled Fit zero many new behind long most none each = record {
  most = most;
  places = length-append new behind ∙ ap (λ (zs : List _). length new + length zs) none ∙ ap (λ k. length new + k) (length-replicate (60 - many) zero) ∙ omega arith;
  each = All-same Fit (take many (new ++ behind)) new (take_at new behind many long) each;
  zeros = drop_at new behind many long ∙ none;
}

-- ## Loops

-- one more item was put
pub put_more : {A : Type 0} (text : A → List ℕ) (items : List A) (k : ℕ) (d : A) (prefix first now : List ℕ) (end : ℕ) → k < length items
    → Holds ((prefix ++ flat_map text (take k items)) ++ text (get_or items k d)) first now end → Holds (prefix ++ flat_map text (take (k + 1) items)) first now end
put_more text items k d prefix first now end less is =
    holds_same _ _ first now end (flat_map_more text prefix (take k items) (get_or items k d) ∙ ap (λ (zs : List _). prefix ++ flat_map text zs) (sym (take_more items k d less))) is

-- one more item was read
pub record Read {A : Type 0} (Fit : A → Type 0) (text : A → List ℕ) (width : ℕ) (bytes rest : List ℕ) (k : ℕ) (items : List A) : Type 0 where
  pub each : All Fit (take k items)
  pub spelled : bytes ≡ flat_map text (take k items) ++ rest
  pub long : length rest + width * k ≡ length bytes

pub read_none : {A : Type 0} (Fit : A → Type 0) (text : A → List ℕ) (width : ℕ) (bytes : List ℕ) (items : List A) → Read Fit text width bytes bytes 0 items
read_none Fit text width bytes items = record { each = All-nil Fit; spelled = refl; long = omega arith }

pub read_more : {A : Type 0} (Fit : A → Type 0) (text : A → List ℕ) (width : ℕ) (bytes rest more : List ℕ) (k : ℕ) (items : List A) (x : A) → k < length items → Read Fit text width bytes rest k items
    → Fit x → rest ≡ text x ++ more → length more + width ≡ length rest → Read Fit text width bytes more (k + 1) (slice_set items k x)
read_more Fit text width bytes rest more k items x less was fit first long =
    let now : take (k + 1) (slice_set items k x) ≡ take k items ++ x ∷ [] = take_more_set items k x less in
    let before = was.long in
    let more_width : width * (k + 1) ≡ width * k + width = omega arith in
    record {
      each = All-same Fit _ _ now (All-push Fit (take k items) x was.each fit);
      spelled = was.spelled ∙ ap (λ (u : List ℕ). flat_map text (take k items) ++ u) first ∙ sym (append_assoc (flat_map text (take k items)) (text x) more)
          ∙ ap (λ (u : List ℕ). u ++ more) (flat_map_more text [] (take k items) x ∙ ap (flat_map text) (sym now));
      long = omega arith;
    }

pub read_all : {A : Type 0} (Fit : A → Type 0) (text : A → List ℕ) (width : ℕ) (bytes rest : List ℕ) (k : ℕ) (items : List A) → length items ≤ k → Read Fit text width bytes rest k items → Spell Fit text items bytes
read_all Fit text width bytes rest k items all was =
    let same : take k items ≡ items = take_all k items all in
    record { each = All-same Fit items (take k items) (sym same) was.each; rest = rest; spelled = was.spelled ∙ ap (λ (zs : List _). flat_map text zs ++ rest) same }

-- ## Pairs

pub pair_long : (p : Pair) → length (pair_text p) ≡ 16
pair_long p = simp (length-append, length-number_bytes) (omega arith)

pair_cut : Cuts PairFits pair_text
pair_cut p q xs ys f g e =
    let a = number_in_cut 8 p.key q.key (number_bytes 8 p.word) (number_bytes 8 q.word) xs ys f.0 g.0 e in
    let b = number_cut 8 p.word q.word xs ys f.1 g.1 a.1 in
    (λ i. record { key = a.0 i; word = b.0 i }, b.1)

pub pairs_cut : (ps qs : Pairs) (xs ys : List ℕ) → PairsFit ps → PairsFit qs → pairs_text ps ++ xs ≡ pairs_text qs ++ ys → (ps ≡ qs) × (xs ≡ ys)
pairs_cut ps qs xs ys f g e =
    let same = counted_cut PairFits pair_text no_pair pair_cut ps.count qs.count ps.pairs qs.pairs xs ys f g e in
    (λ i. record { count = same.count i; pairs = same.items i }, same.rest)

pub pairs_long : (ps : Pairs) → ps.count ≤ length ps.pairs → length (pairs_text ps) ≡ 16 * ps.count + 1
pairs_long ps enough =
    let a = each_long pair_text 16 pair_long (take ps.count ps.pairs) in
    let b = length-take-le ps.count ps.pairs enough in
    omega arith

-- the pairs were read
pub pairs_stand : (bytes rest : List ℕ) (count : ℕ) (new behind : List Pair) → bytes ≡ count ∷ rest → length new ≡ count → count ≤ 60 → behind ≡ replicate (60 - count) no_pair → Spell PairFits pair_text new rest
    → PairsStand bytes (record { count = count; pairs = new ++ behind }) (1 + 16 * count)
pairs_stand bytes rest count new behind e long most none is =
    let ps : Pairs = record { count = count; pairs = new ++ behind } in
    let fits : PairsFit ps = filled PairFits no_pair count new behind long most none is.each in
    let some : take count (new ++ behind) ≡ new = take_at new behind count long in
    record {
      fits = fits;
      count = let l = pairs_long ps (let p = fits.places in omega arith) in omega arith;
      rest = is.rest;
      spelled = e ∙ ap (λ (u : List ℕ). count ∷ u) (is.spelled ∙ ap (λ (zs : List Pair). flat_map pair_text zs ++ is.rest) (sym some));
    }

pub no_pairs_empty : (bytes rest : List ℕ) (ps : Pairs) → bytes ≡ pairs_text ps ++ rest → length bytes ≡ 0 → ⊥
no_pairs_empty bytes rest ps e none = let long : length bytes ≡ length (pairs_text ps ++ rest) = ap length e in omega arith

pub no_pairs_many : (bytes more rest : List ℕ) (count : ℕ) (ps : Pairs) → bytes ≡ count ∷ more → PairsFit ps → bytes ≡ pairs_text ps ++ rest → 60 < count → ⊥
no_pairs_many bytes more rest count ps is f e many =
    let same : count ≡ ps.count = ap (λ (z : List ℕ). get_or z 0 0) (sym is ∙ e) in
    let most = f.most in
    omega arith

pub no_pairs_short : (bytes more rest : List ℕ) (count : ℕ) (ps : Pairs) → bytes ≡ count ∷ more → PairsFit ps → bytes ≡ pairs_text ps ++ rest → length more < 16 * count → ⊥
no_pairs_short bytes more rest count ps is f e short =
    let same : count ≡ ps.count = ap (λ (z : List ℕ). get_or z 0 0) (sym is ∙ e) in
    let first : length bytes ≡ suc (length more) = ap length is in
    let second : length bytes ≡ length (pairs_text ps) + length rest = ap length e ∙ length-append (pairs_text ps) rest in
    let long = pairs_long ps (let m = f.most in let p = f.places in omega arith) in
    omega arith

-- ## Keys

pub key_long : (key : ℕ) → length (number_bytes 8 key) ≡ 8
key_long key = length-number_bytes 8 key

key_cut : Cuts KeyFits (number_bytes 8)
key_cut p q xs ys f g e = number_cut 8 p q xs ys f g e

pub keys_cut : (ps qs : Keys) (xs ys : List ℕ) → KeysFit ps → KeysFit qs → keys_text ps ++ xs ≡ keys_text qs ++ ys → (ps ≡ qs) × (xs ≡ ys)
keys_cut ps qs xs ys f g e =
    let same = counted_cut KeyFits (number_bytes 8) 0 key_cut ps.count qs.count ps.keys qs.keys xs ys f g e in
    (λ i. record { count = same.count i; keys = same.items i }, same.rest)

pub keys_long : (ks : Keys) → ks.count ≤ length ks.keys → length (keys_text ks) ≡ 8 * ks.count + 1
keys_long ks enough =
    let a = each_long (number_bytes 8) 8 key_long (take ks.count ks.keys) in
    let b = length-take-le ks.count ks.keys enough in
    omega arith

-- the keys were read
pub keys_stand : (bytes rest : List ℕ) (count : ℕ) (new behind : List ℕ) → bytes ≡ count ∷ rest → length new ≡ count → count ≤ 60 → behind ≡ replicate (60 - count) 0 → Spell KeyFits (number_bytes 8) new rest
    → KeysStand bytes (record { count = count; keys = new ++ behind }) (1 + 8 * count)
keys_stand bytes rest count new behind e long most none is =
    let ks : Keys = record { count = count; keys = new ++ behind } in
    let fits : KeysFit ks = filled KeyFits 0 count new behind long most none is.each in
    let some : take count (new ++ behind) ≡ new = take_at new behind count long in
    record {
      fits = fits;
      count = let l = keys_long ks (let p = fits.places in omega arith) in omega arith;
      rest = is.rest;
      spelled = e ∙ ap (λ (u : List ℕ). count ∷ u) (is.spelled ∙ ap (λ (zs : List ℕ). flat_map (number_bytes 8) zs ++ is.rest) (sym some));
    }

pub no_keys_empty : (bytes rest : List ℕ) (ks : Keys) → bytes ≡ keys_text ks ++ rest → length bytes ≡ 0 → ⊥
no_keys_empty bytes rest ks e none = let long : length bytes ≡ length (keys_text ks ++ rest) = ap length e in omega arith

pub no_keys_many : (bytes more rest : List ℕ) (count : ℕ) (ks : Keys) → bytes ≡ count ∷ more → KeysFit ks → bytes ≡ keys_text ks ++ rest → 60 < count → ⊥
no_keys_many bytes more rest count ks is f e many =
    let same : count ≡ ks.count = ap (λ (z : List ℕ). get_or z 0 0) (sym is ∙ e) in
    let most = f.most in
    omega arith

pub no_keys_short : (bytes more rest : List ℕ) (count : ℕ) (ks : Keys) → bytes ≡ count ∷ more → KeysFit ks → bytes ≡ keys_text ks ++ rest → length more < 8 * count → ⊥
no_keys_short bytes more rest count ks is f e short =
    let same : count ≡ ks.count = ap (λ (z : List ℕ). get_or z 0 0) (sym is ∙ e) in
    let first : length bytes ≡ suc (length more) = ap length is in
    let second : length bytes ≡ length (keys_text ks) + length rest = ap length e ∙ length-append (keys_text ks) rest in
    let long = keys_long ks (let m = f.most in let p = f.places in omega arith) in
    omega arith
