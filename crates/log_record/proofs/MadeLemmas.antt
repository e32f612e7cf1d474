-- Bytes that are long enough spell a part, whatever they are.
use Rattle.std.proofs.Common.{◌≡◌, ◌++◌, ◌∷◌, [], ℕ, List, suc, zero, ◌+◌, ◌-◌, ◌*◌, ◌^◌, ◌<◌, ◌≤◌, length, take, drop, replicate, Option, Some, None, inl, inr, refl, ap, sym, subst, ◌∙◌, arith, length-drop}
use Rattle.std.specs.List.{flat_map}
use mathlib.Core.List.{append_assoc}
use Rattle.std.proofs.lemmas.List.{length-append, drop-drop}
use Rattle.std.proofs.lemmas.List.Elements.{All-nil, All-cons}
use Rattle.std.proofs.lemmas.Bool.{cases_lt}
use Rattle.std.proofs.lemmas.Option.{IfSome_then}
use Rattle.std.specs.Option.{IfSome, IfNone}
use Rattle.lean_bytes.specs.Numbers.{number_bytes, number_of, AreBytes}
use Rattle.lean_bytes.proofs.NumberLemmas.{bytes-drop, number-split, number-fits}
use Rattle.log_record.specs.Spelling.{RefFits, ref_text, pair_text, PairFits, KeyFits, no_pair}
use Rattle.log_record.specs.Inside.{key_change_text, KeyChangeFits, siblings_text, SiblingsFit, root_change_text, RootChangeFits, Spell, Counted, PairsStand, KeysStand, NoPairs, NoKeys, BodyStands, NoBody, change_of, put_back_of, split_of, lift_of, join_of, drop_of}
use Rattle.log_record.specs.declared.record.PageRef.{PageRef}
use Rattle.log_record.specs.declared.record.Body.{Body}
use Rattle.log_record.specs.declared.record.Body.TheVariants.{Purge, Commit, Abort}
use Rattle.log_record.specs.declared.parts.KeyChange.{KeyChange}
use Rattle.log_record.proofs.ItemLemmas.{pairs_stand, keys_stand, pairs_long, keys_long}
use Rattle.log_record.proofs.KindLemmas.{no_short, change_stands, put_back_stands, split_stands, lift_stands, join_stands, drop_stands, purge_stands, commit_stands, abort_stands, no_split, no_lift, no_join, no_drop, no_purge}

-- ## Parts of one width

-- a part that fits stands first, with the other bytes behind it
pub record Made {A : Type 0} (Fit : A → Type 0) (text : A → List ℕ → List ℕ) (width : ℕ) (bytes : List ℕ) : Type 0 where
  pub part : A
  pub fits : Fit part
  pub spelled : bytes ≡ text part (drop width bytes)

-- one part, and another behind it
both_made : {A B : Type 0} (Fit : A → Type 0) (text : A → List ℕ → List ℕ) (m : ℕ) (Next : B → Type 0) (next : B → List ℕ → List ℕ) (n : ℕ) (bytes : List ℕ) → Made Fit text m bytes → Made Next next n (drop m bytes)
    → Made (λ (p : A × B). Fit p.0 × Next p.1) (λ p u. text p.0 (next p.1 u)) (m + n) bytes
both_made Fit text m Next next n bytes a b = record {
  part = (a.part, b.part);
  fits = (a.fits, b.fits);
  spelled = a.spelled ∙ ap (text a.part) (b.spelled ∙ ap (next b.part) (drop-drop n m bytes));
}

-- a part by the parts that it has
made_as : {A B : Type 0} (Fit : A → Type 0) (text : A → List ℕ → List ℕ) (Next : B → Type 0) (next : B → List ℕ → List ℕ) (n : ℕ) (bytes : List ℕ) (f : A → B) → ((x : A) → Fit x → Next (f x))
    → ((x : A) (u : List ℕ) → text x u ≡ next (f x) u) → Made Fit text n bytes → Made Next next n bytes
made_as Fit text Next next n bytes f fit same a = record {
  part = f a.part;
  fits = fit a.part a.fits;
  spelled = a.spelled ∙ same a.part (drop n bytes);
}

abbrev NumberFits : ℕ → ℕ → Type 0
NumberFits n x = x < 256 ^ n

abbrev number_front : ℕ → ℕ → List ℕ → List ℕ
number_front n x u = number_bytes n x ++ u

abbrev ref_front : PageRef → List ℕ → List ℕ
ref_front r u = ref_text r ++ u

abbrev change_front : KeyChange → List ℕ → List ℕ
change_front c u = key_change_text c ++ u

abbrev byte_front : ℕ → List ℕ → List ℕ
byte_front x u = x ∷ u

number_made : (n : ℕ) (bytes : List ℕ) → AreBytes bytes → n ≤ length bytes → Made (NumberFits n) (number_front n) n bytes
number_made n bytes are enough = record { part = number_of n bytes; fits = number-fits n bytes are; spelled = number-split n bytes enough are }

byte_made : (bytes : List ℕ) → AreBytes bytes → 1 ≤ length bytes → Made (λ x. x < 2 ^ 8) byte_front 1 bytes
byte_made [] are enough = absurd (omega arith)
byte_made (x ∷ bytes) are enough = record { part = x; fits = are.byte 0; spelled = refl }

-- a number of so many bytes behind a part
then_number : {A : Type 0} (Fit : A → Type 0) (text : A → List ℕ → List ℕ) (m n : ℕ) (bytes : List ℕ) → AreBytes bytes → m + n ≤ length bytes → Made Fit text m bytes
    → Made (λ (p : A × ℕ). Fit p.0 × NumberFits n p.1) (λ p u. text p.0 (number_front n p.1 u)) (m + n) bytes
then_number Fit text m n bytes are enough a =
    both_made Fit text m (NumberFits n) (number_front n) n bytes a (number_made n (drop m bytes) (bytes-drop m bytes are) (let l = length-drop m bytes in omega arith))

ref_made : (bytes : List ℕ) → AreBytes bytes → 12 ≤ length bytes → Made RefFits ref_front 12 bytes
ref_made bytes are enough =
    made_as _ _ RefFits ref_front 12 bytes (λ (p : ℕ × ℕ). record { page = p.0; prev = p.1 }) (λ p f. f) (λ p u. sym (append_assoc (number_bytes 4 p.0) (number_bytes 8 p.1) u))
    (then_number (NumberFits 4) (number_front 4) 4 8 bytes are enough (number_made 4 bytes are (omega arith)))

-- a page behind a part
then_ref : {A : Type 0} (Fit : A → Type 0) (text : A → List ℕ → List ℕ) (m : ℕ) (bytes : List ℕ) → AreBytes bytes → m + 12 ≤ length bytes → Made Fit text m bytes
    → Made (λ (p : A × PageRef). Fit p.0 × RefFits p.1) (λ p u. text p.0 (ref_front p.1 u)) (m + 12) bytes
then_ref Fit text m bytes are enough a = both_made Fit text m RefFits ref_front 12 bytes a (ref_made (drop m bytes) (bytes-drop m bytes are) (let l = length-drop m bytes in omega arith))

pub key_change_made : (bytes : List ℕ) → AreBytes bytes → 36 ≤ length bytes → Made KeyChangeFits change_front 36 bytes
key_change_made bytes are enough =
    made_as _ _ KeyChangeFits change_front 36 bytes (λ (p : ((PageRef × ℕ) × ℕ) × ℕ). record { leaf = p.0.0.0; key = p.0.0.1; before = p.0.1; after = p.1 })
    (λ p f. (f.0.0.0, f.0.0.1, f.0.1, f.1)) (λ p u. simp append_assoc)
    (then_number _ _ 28 8 bytes are enough (then_number _ _ 20 8 bytes are (omega arith) (then_number _ _ 12 8 bytes are (omega arith) (ref_made bytes are (omega arith)))))

pub siblings_made : (bytes : List ℕ) → AreBytes bytes → 52 ≤ length bytes → Made SiblingsFit siblings_text 52 bytes
siblings_made bytes are enough =
    made_as _ _ SiblingsFit siblings_text 52 bytes (λ (p : (((PageRef × PageRef) × PageRef) × ℕ) × ℕ). record { left = p.0.0.0.0; right = p.0.0.0.1; parent = p.0.0.1; separator = p.0.1; high = p.1 })
    (λ p f. (f.0.0.0.0, f.0.0.0.1, f.0.0.1, f.0.1, f.1)) (λ p u. refl)
    (then_number _ _ 44 8 bytes are enough (then_number _ _ 36 8 bytes are (omega arith) (then_ref _ _ 24 bytes are (omega arith) (then_ref _ _ 12 bytes are (omega arith) (ref_made bytes are (omega arith))))))

-- a byte behind a part
then_byte : {A : Type 0} (Fit : A → Type 0) (text : A → List ℕ → List ℕ) (m : ℕ) (bytes : List ℕ) → AreBytes bytes → m + 1 ≤ length bytes → Made Fit text m bytes
    → Made (λ (p : A × ℕ). Fit p.0 × (p.1 < 2 ^ 8)) (λ p u. text p.0 (p.1 ∷ u)) (m + 1) bytes
then_byte Fit text m bytes are enough a =
    both_made Fit text m (λ x. x < 2 ^ 8) byte_front 1 bytes a (byte_made (drop m bytes) (bytes-drop m bytes are) (let l = length-drop m bytes in omega arith))

pub root_change_made : (bytes : List ℕ) → AreBytes bytes → 21 ≤ length bytes → Made RootChangeFits root_change_text 21 bytes
root_change_made bytes are enough =
    made_as _ _ RootChangeFits root_change_text 21 bytes (λ (p : (ℕ × PageRef) × ℕ). record { root_prev = p.0.0; page = p.0.1; level = p.1 }) (λ p f. (f.0.0, f.0.1, f.1)) (λ p u. refl)
    (then_byte _ _ 20 bytes are enough (then_ref _ _ 8 bytes are (omega arith) (number_made 8 bytes are (omega arith))))

-- ## Items

pub record Items {A : Type 0} (Fit : A → Type 0) (text : A → List ℕ) (many : ℕ) (bytes : List ℕ) : Type 0 where
  pub items : List A
  pub long : length items ≡ many
  pub is : Spell Fit text items bytes

each_made : {A : Type 0} (Fit : A → Type 0) (text : A → List ℕ) (width : ℕ) → ((bytes : List ℕ) → AreBytes bytes → width ≤ length bytes → Made Fit (λ x u. text x ++ u) width bytes)
    → (many : ℕ) (bytes : List ℕ) → AreBytes bytes → width * many ≤ length bytes → Items Fit text many bytes
each_made Fit text width one zero bytes are enough = record { items = []; long = refl; is = record { each = All-nil Fit; rest = bytes; spelled = refl } }
each_made Fit text width one (suc many) bytes are enough =
    let all : width * suc many ≡ width + width * many = omega arith in
    let l = length-drop width bytes in
    let a = one bytes are (omega arith) in
    let b = each_made Fit text width one many (drop width bytes) (bytes-drop width bytes are) (omega arith) in
    record {
      items = a.part ∷ b.items;
      long = ap suc b.long;
      is = record {
        each = All-cons Fit a.part b.items a.fits b.is.each;
        rest = b.is.rest;
        spelled = a.spelled ∙ ap (λ (u : List ℕ). text a.part ++ u) b.is.spelled ∙ sym (append_assoc (text a.part) (flat_map text b.items) b.is.rest);
      };
    }

-- a count stands behind a front, and items that many
pub record Behind {A : Type 0} (Stand : List ℕ → A → ℕ → Type 0) (front : ℕ) (bytes : List ℕ) (n : ℕ) : Type 0 where
  pub room : front < length bytes
  pub items : A
  pub size : ℕ
  pub is : Stand (drop front bytes) items size
  pub count : front + size ≡ n

counted_room : (front width : ℕ) (bytes : List ℕ) (n : ℕ) → Counted front width bytes n → front < length bytes
counted_room front width bytes n c =
    let l : length (drop front bytes) ≡ suc (length c.more) = ap length c.behind in
    let d = length-drop front bytes in
    omega arith

counted_bytes : (front width : ℕ) (bytes : List ℕ) (n : ℕ) → AreBytes bytes → (c : Counted front width bytes n) → AreBytes c.more
counted_bytes front width bytes n are c = bytes-drop 1 (c.many ∷ c.more) (subst AreBytes c.behind (bytes-drop front bytes are))

pair_made : (bytes : List ℕ) → AreBytes bytes → 16 ≤ length bytes → Made PairFits (λ p u. pair_text p ++ u) 16 bytes
pair_made bytes are enough =
    made_as _ _ PairFits (λ p u. pair_text p ++ u) 16 bytes (λ (p : ℕ × ℕ). record { key = p.0; word = p.1 }) (λ p f. f) (λ p u. sym (append_assoc (number_bytes 8 p.0) (number_bytes 8 p.1) u))
    (then_number (NumberFits 8) (number_front 8) 8 8 bytes are enough (number_made 8 bytes are (omega arith)))

pairs_behind : (front : ℕ) (bytes : List ℕ) (n : ℕ) → AreBytes bytes → Counted front 16 bytes n → Behind PairsStand front bytes n
pairs_behind front bytes n are c =
    let m = each_made PairFits pair_text 16 pair_made c.many c.more (counted_bytes front 16 bytes n are c) c.enough in
    record {
      room = counted_room front 16 bytes n c;
      items = _;
      size = _;
      is = pairs_stand (drop front bytes) c.more c.many m.items (replicate (60 - c.many) no_pair) c.behind m.long c.most refl m.is;
      count = let s = c.size in omega arith;
    }

keys_behind : (front : ℕ) (bytes : List ℕ) (n : ℕ) → AreBytes bytes → Counted front 8 bytes n → Behind KeysStand front bytes n
keys_behind front bytes n are c =
    let m = each_made KeyFits (number_bytes 8) 8 (number_made 8) c.many c.more (counted_bytes front 8 bytes n are c) c.enough in
    record {
      room = counted_room front 8 bytes n c;
      items = _;
      size = _;
      is = keys_stand (drop front bytes) c.more c.many m.items (replicate (60 - c.many) 0) c.behind m.long c.most refl m.is;
      count = let s = c.size in omega arith;
    }

no_pairs_behind : (front : ℕ) (bytes : List ℕ) → ((n : ℕ) → Counted front 16 bytes n → ⊥) → NoPairs (drop front bytes)
no_pairs_behind front bytes none ps rest f e =
    let items : List ℕ = flat_map pair_text (take ps.count ps.pairs) in
    let a : length (items ++ rest) ≡ length items + length rest = length-append items rest in
    let l : suc (length items) ≡ 16 * ps.count + 1 = pairs_long ps (let m = f.most in let p = f.places in omega arith) in
    none (front + 1 + 16 * ps.count) (record { many = ps.count; most = f.most; more = items ++ rest; behind = e; enough = omega arith; size = refl })

no_keys_behind : (front : ℕ) (bytes : List ℕ) → ((n : ℕ) → Counted front 8 bytes n → ⊥) → NoKeys (drop front bytes)
no_keys_behind front bytes none ks rest f e =
    let items : List ℕ = flat_map (number_bytes 8) (take ks.count ks.keys) in
    let a : length (items ++ rest) ≡ length items + length rest = length-append items rest in
    let l : suc (length items) ≡ 8 * ks.count + 1 = keys_long ks (let m = f.most in let p = f.places in omega arith) in
    none (front + 1 + 8 * ks.count) (record { many = ks.count; most = f.most; more = items ++ rest; behind = e; enough = omega arith; size = refl })

-- ## Bodies

-- so many bytes are there
abbrev Enough : ℕ → List ℕ → ℕ → Type 0
Enough size bytes n = (n ≡ size) × (size ≤ length bytes)

-- a body of this kind stands first, and takes so many bytes
abbrev SomeBody : ℕ → List ℕ → ℕ → Type 0
SomeBody kind bytes n = (b : Body) × BodyStands kind bytes b n

module _ (bytes : List ℕ) (are : AreBytes bytes) where
  pub change_body : (n : ℕ) → Enough 36 bytes n → SomeBody 1 bytes n
  change_body n e = let a = key_change_made bytes are e.1 in (change_of a.part, subst (BodyStands 1 bytes (change_of a.part)) (sym e.0) (change_stands bytes _ a.part _ refl a.spelled a.fits))

  pub put_back_body : (n : ℕ) → Enough 36 bytes n → SomeBody 2 bytes n
  put_back_body n e = let a = key_change_made bytes are e.1 in (put_back_of a.part, subst (BodyStands 2 bytes (put_back_of a.part)) (sym e.0) (put_back_stands bytes _ a.part _ refl a.spelled a.fits))

  pub commit_body : (n : ℕ) → Enough 8 bytes n → SomeBody 8 bytes n
  commit_body n e = let a = number_made 8 bytes are e.1 in (Commit a.part, subst (BodyStands 8 bytes (Commit a.part)) (sym e.0) (commit_stands bytes _ a.part _ refl a.spelled a.fits))

  pub abort_body : (n : ℕ) → Enough 8 bytes n → SomeBody 9 bytes n
  abort_body n e = let a = number_made 8 bytes are e.1 in (Abort a.part, subst (BodyStands 9 bytes (Abort a.part)) (sym e.0) (abort_stands bytes _ a.part _ refl a.spelled a.fits))

  -- the level behind the fences of a split
  level_made : 53 < length bytes → Made (λ x. x < 2 ^ 8) byte_front 1 (drop 52 bytes)
  level_made room = byte_made (drop 52 bytes) (bytes-drop 52 bytes are) (let l = length-drop 52 bytes in omega arith)

  level_spelled : (l : Made (λ x. x < 2 ^ 8) byte_front 1 (drop 52 bytes)) → drop 52 bytes ≡ l.part ∷ drop 53 bytes
  level_spelled l = l.spelled ∙ ap (λ (u : List ℕ). l.part ∷ u) (drop-drop 1 52 bytes)

  pub split_body : (n : ℕ) → Counted 53 16 bytes n → SomeBody 3 bytes n
  split_body n c =
      let p = pairs_behind 53 bytes n are c in
      let s = siblings_made bytes are (let r = p.room in omega arith) in
      let l = level_made p.room in
      let b : Body = split_of s.part l.part p.items in
      (b, subst (BodyStands 3 bytes b) p.count (split_stands bytes (drop 52 bytes) (drop 53 bytes) s.part l.part p.items b p.size refl s.spelled (level_spelled l) s.fits l.fits p.is))

  pub lift_body : (n : ℕ) → Counted 21 16 bytes n → SomeBody 4 bytes n
  lift_body n c =
      let p = pairs_behind 21 bytes n are c in
      let s = root_change_made bytes are (let r = p.room in omega arith) in
      let b : Body = lift_of s.part p.items in
      (b, subst (BodyStands 4 bytes b) p.count (lift_stands bytes _ s.part p.items b p.size refl s.spelled s.fits p.is))

  pub join_body : (n : ℕ) → Counted 52 16 bytes n → SomeBody 5 bytes n
  join_body n c =
      let p = pairs_behind 52 bytes n are c in
      let s = siblings_made bytes are (let r = p.room in omega arith) in
      let b : Body = join_of s.part p.items in
      (b, subst (BodyStands 5 bytes b) p.count (join_stands bytes _ s.part p.items b p.size refl s.spelled s.fits p.is))

  pub drop_body : (n : ℕ) → Counted 21 16 bytes n → SomeBody 6 bytes n
  drop_body n c =
      let p = pairs_behind 21 bytes n are c in
      let s = root_change_made bytes are (let r = p.room in omega arith) in
      let b : Body = drop_of s.part p.items in
      (b, subst (BodyStands 6 bytes b) p.count (drop_stands bytes _ s.part p.items b p.size refl s.spelled s.fits p.is))

  pub purge_body : (n : ℕ) → Counted 12 8 bytes n → SomeBody 7 bytes n
  purge_body n c =
      let p = keys_behind 12 bytes n are c in
      let r = ref_made bytes are (let r = p.room in omega arith) in
      let b : Body = Purge r.part p.items in
      (b, subst (BodyStands 7 bytes b) p.count (purge_stands bytes _ r.part p.items b p.size refl r.spelled r.fits p.is))

  pub no_split_counted : ((n : ℕ) → Counted 53 16 bytes n → ⊥) → NoBody 3 bytes
  no_split_counted none = elim (cases_lt (length bytes) 54) [
    | inl short ↦ no_short 3 bytes short
    | inr room ↦
        let s = siblings_made bytes are (omega arith) in
        let l = level_made (omega arith) in
        no_split bytes (drop 52 bytes) (drop 53 bytes) s.part l.part s.spelled (level_spelled l) s.fits (no_pairs_behind 53 bytes none)
  ]

  pub no_lift_counted : ((n : ℕ) → Counted 21 16 bytes n → ⊥) → NoBody 4 bytes
  no_lift_counted none = elim (cases_lt (length bytes) 22) [
    | inl short ↦ no_short 4 bytes short
    | inr room ↦ let s = root_change_made bytes are (omega arith) in no_lift bytes _ s.part s.spelled s.fits (no_pairs_behind 21 bytes none)
  ]

  pub no_join_counted : ((n : ℕ) → Counted 52 16 bytes n → ⊥) → NoBody 5 bytes
  no_join_counted none = elim (cases_lt (length bytes) 53) [
    | inl short ↦ no_short 5 bytes short
    | inr room ↦ let s = siblings_made bytes are (omega arith) in no_join bytes _ s.part s.spelled s.fits (no_pairs_behind 52 bytes none)
  ]

  pub no_drop_counted : ((n : ℕ) → Counted 21 16 bytes n → ⊥) → NoBody 6 bytes
  no_drop_counted none = elim (cases_lt (length bytes) 22) [
    | inl short ↦ no_short 6 bytes short
    | inr room ↦ let s = root_change_made bytes are (omega arith) in no_drop bytes _ s.part s.spelled s.fits (no_pairs_behind 21 bytes none)
  ]

  pub no_purge_counted : ((n : ℕ) → Counted 12 8 bytes n → ⊥) → NoBody 7 bytes
  no_purge_counted none = elim (cases_lt (length bytes) 13) [
    | inl short ↦ no_short 7 bytes short
    | inr room ↦ let r = ref_made bytes are (omega arith) in no_purge bytes _ r.part r.spelled r.fits (no_keys_behind 12 bytes none)
  ]

-- ## Answers

pub some_by : (k kind : ℕ) (bytes : List ℕ) (P : ℕ → Type 0) (r : Option ℕ) → kind ≡ k → ((n : ℕ) → P n → SomeBody k bytes n) → IfSome r P → IfSome r (λ n. (b : Body) × BodyStands kind bytes b n)
some_by k kind bytes P r is f a = IfSome_then r a (λ n p. let s = f n p in (s.0, subst (λ (j : ℕ). BodyStands j bytes s.0 n) (sym is) s.1))

pub none_by : (k kind : ℕ) (bytes : List ℕ) (P : Type 0) (r : Option ℕ) → kind ≡ k → (P → NoBody k bytes) → IfNone r P → IfNone r (NoBody kind bytes)
none_by k kind bytes P (Some n) is f a = tt
none_by k kind bytes P None is f a = subst (λ (j : ℕ). NoBody j bytes) (sym is) (f a)
