-- Bodies by their kinds: how long they are at least, and that bytes begin with one body of a kind at most.
use Rattle.std.proofs.Common.{◌≡◌, ◌==◌, ◌++◌, ◌∷◌, ℕ, List, cond, ◌+◌, ◌^◌, ◌<◌, ◌≤◌, length, refl, ap, sym, subst, ◌∙◌, arith}
use mathlib.Core.List.{append_assoc}
use Rattle.std.proofs.lemmas.List.{length-append}
use Rattle.lean_bytes.specs.Numbers.{number_bytes}
use Rattle.lean_bytes.proofs.NumberLemmas.{length-number_bytes}
use Rattle.log_record.specs.Spelling.{RefFits, kind_of, ref_text, body_text, pairs_text, keys_text, BodyFits}
use Rattle.log_record.specs.Inside.{change_of, put_back_of, split_of, lift_of, join_of, drop_of, BodyStands, PairsStand, KeysStand, NoBody, NoPairs, NoKeys, SiblingsFit, RootChangeFits, key_change_text, KeyChangeFits, siblings_text, root_change_text}
use Rattle.log_record.specs.declared.record.PageRef.{PageRef}
use Rattle.log_record.specs.declared.record.Pairs.{Pairs}
use Rattle.log_record.specs.declared.record.Keys.{Keys}
use Rattle.log_record.specs.declared.record.Body.{Body}
use Rattle.log_record.specs.declared.record.Body.TheVariants.{Change, PutBack, Split, Lift, Join, DropRoot, Purge, Commit, Abort}
use Rattle.log_record.specs.declared.parts.KeyChange.{KeyChange}
use Rattle.log_record.specs.declared.parts.Siblings.{Siblings}
use Rattle.log_record.specs.declared.parts.RootChange.{RootChange}
use Rattle.log_record.proofs.NumberCuts.{number_cut}
use Rattle.log_record.proofs.ItemLemmas.{pairs_cut, keys_cut}
use Rattle.log_record.proofs.PartLemmas.{ref_long, key_change_long, siblings_long, root_change_long, siblings_in, root_change_in, ref_cut, ref_in_cut, key_change_cut, siblings_cut, root_change_cut, byte_cut}

-- ## A body of a kind, by its parts

pub as_change : (P : Body → Type 0) → ((c : KeyChange) → P (change_of c)) → (b : Body) → kind_of b ≡ 1 → P b
as_change P h (Change l k b a) is = h (record { leaf = l; key = k; before = b; after = a })
as_change P h _ is = absurd (omega arith)

pub as_put_back : (P : Body → Type 0) → ((c : KeyChange) → P (put_back_of c)) → (b : Body) → kind_of b ≡ 2 → P b
as_put_back P h (PutBack l k b a) is = h (record { leaf = l; key = k; before = b; after = a })
as_put_back P h _ is = absurd (omega arith)

pub as_split : (P : Body → Type 0) → ((s : Siblings) (level : ℕ) (pairs : Pairs) → P (split_of s level pairs)) → (b : Body) → kind_of b ≡ 3 → P b
as_split P h (Split l r p s t level pairs) is = h (record { left = l; right = r; parent = p; separator = s; high = t }) level pairs
as_split P h _ is = absurd (omega arith)

pub as_lift : (P : Body → Type 0) → ((c : RootChange) (pairs : Pairs) → P (lift_of c pairs)) → (b : Body) → kind_of b ≡ 4 → P b
as_lift P h (Lift v p level pairs) is = h (record { root_prev = v; page = p; level = level }) pairs
as_lift P h _ is = absurd (omega arith)

pub as_join : (P : Body → Type 0) → ((s : Siblings) (pairs : Pairs) → P (join_of s pairs)) → (b : Body) → kind_of b ≡ 5 → P b
as_join P h (Join l r p s t pairs) is = h (record { left = l; right = r; parent = p; separator = s; high = t }) pairs
as_join P h _ is = absurd (omega arith)

pub as_drop : (P : Body → Type 0) → ((c : RootChange) (pairs : Pairs) → P (drop_of c pairs)) → (b : Body) → kind_of b ≡ 6 → P b
as_drop P h (DropRoot v p level pairs) is = h (record { root_prev = v; page = p; level = level }) pairs
as_drop P h _ is = absurd (omega arith)

pub as_purge : (P : Body → Type 0) → ((leaf : PageRef) (keys : Keys) → P (Purge leaf keys)) → (b : Body) → kind_of b ≡ 7 → P b
as_purge P h (Purge l k) is = h l k
as_purge P h _ is = absurd (omega arith)

pub as_commit : (P : Body → Type 0) → ((need : ℕ) → P (Commit need)) → (b : Body) → kind_of b ≡ 8 → P b
as_commit P h (Commit n) is = h n
as_commit P h _ is = absurd (omega arith)

pub as_abort : (P : Body → Type 0) → ((need : ℕ) → P (Abort need)) → (b : Body) → kind_of b ≡ 9 → P b
as_abort P h (Abort n) is = h n
as_abort P h _ is = absurd (omega arith)

pub no_other_kind : (b : Body) → (1 ≤ kind_of b) × (kind_of b ≤ 9)
no_other_kind (Change l k b a) = (omega arith, omega arith)
no_other_kind _ = (omega arith, omega arith)

-- ## How long bodies are

-- at least so many bytes
abbrev pub least_of : ℕ → ℕ
least_of kind = cond (kind == 3) 54 (cond (kind == 4) 22 (cond (kind == 5) 53 (cond (kind == 6) 22 (cond (kind == 7) 13 (cond (kind == 8) 8 (cond (kind == 9) 8 36))))))

least : (b : Body) → least_of (kind_of b) ≤ length (body_text b)
least (Change l k b a) = let e = key_change_long (record { leaf = l; key = k; before = b; after = a }) in omega arith
least (PutBack l k b a) = let e = key_change_long (record { leaf = l; key = k; before = b; after = a }) in omega arith
least (Split l r p s t level pairs) = let e = siblings_long (record { left = l; right = r; parent = p; separator = s; high = t }) (level ∷ pairs_text pairs) in omega arith
least (Lift v p level pairs) = let e = root_change_long (record { root_prev = v; page = p; level = level }) (pairs_text pairs) in omega arith
least (Join l r p s t pairs) = let e = siblings_long (record { left = l; right = r; parent = p; separator = s; high = t }) (pairs_text pairs) in omega arith
least (DropRoot v p level pairs) = let e = root_change_long (record { root_prev = v; page = p; level = level }) (pairs_text pairs) in omega arith
least (Purge l k) = let e = length-append (ref_text l) (keys_text k) in let f = ref_long l in omega arith
least (Commit n) = let e = length-number_bytes 8 n in omega arith
least (Abort n) = let e = length-number_bytes 8 n in omega arith

pub no_short : (kind : ℕ) (bytes : List ℕ) → length bytes < least_of kind → NoBody kind bytes
no_short kind bytes short b rest is f e =
    let enough = least b in
    let all : length bytes ≡ length (body_text b) + length rest = ap length e ∙ length-append (body_text b) rest in
    let less : length bytes < least_of (kind_of b) = subst (λ (k : ℕ). length bytes < least_of k) (sym is) short in
    omega arith

-- ## One body of a kind

-- bytes begin with one body of a kind at most
pub one_body : (b c : Body) (xs ys : List ℕ) → kind_of b ≡ kind_of c → BodyFits b → BodyFits c → body_text b ++ xs ≡ body_text c ++ ys → b ≡ c
one_body (Change l k v a) c xs ys is f g e =
    as_change (λ d. BodyFits d → body_text (Change l k v a) ++ xs ≡ body_text d ++ ys → Change l k v a ≡ d)
    (λ d h u. ap change_of (key_change_cut (record { leaf = l; key = k; before = v; after = a }) d xs ys f h u).0) c (sym is) g e
one_body (PutBack l k v a) c xs ys is f g e =
    as_put_back (λ d. BodyFits d → body_text (PutBack l k v a) ++ xs ≡ body_text d ++ ys → PutBack l k v a ≡ d)
    (λ d h u. ap put_back_of (key_change_cut (record { leaf = l; key = k; before = v; after = a }) d xs ys f h u).0) c (sym is) g e
one_body (Split l r p s t level pairs) c xs ys is f g e =
    let m : Siblings = record { left = l; right = r; parent = p; separator = s; high = t } in
    as_split (λ d. BodyFits d → body_text (split_of m level pairs) ++ xs ≡ body_text d ++ ys → split_of m level pairs ≡ d)
    (λ n other qs h u.
    let c0 = siblings_cut m n _ _ (f.0, f.1, f.2, f.3, f.4) (h.0, h.1, h.2, h.3, h.4) (sym (siblings_in m (level ∷ pairs_text pairs) xs) ∙ u ∙ siblings_in n (other ∷ pairs_text qs) ys) in
    let c1 = byte_cut level other _ _ c0.1 in
    let c2 = pairs_cut pairs qs xs ys f.6 h.6 c1.1 in
    λ i. split_of (c0.0 i) (c1.0 i) (c2.0 i)) c (sym is) g e
one_body (Lift v p level pairs) c xs ys is f g e =
    let m : RootChange = record { root_prev = v; page = p; level = level } in
    as_lift (λ d. BodyFits d → body_text (lift_of m pairs) ++ xs ≡ body_text d ++ ys → lift_of m pairs ≡ d)
    (λ n qs h u.
    let c0 = root_change_cut m n _ _ (f.0, f.1, f.2) (h.0, h.1, h.2) (sym (root_change_in m (pairs_text pairs) xs) ∙ u ∙ root_change_in n (pairs_text qs) ys) in
    let c1 = pairs_cut pairs qs xs ys f.3 h.3 c0.1 in
    λ i. lift_of (c0.0 i) (c1.0 i)) c (sym is) g e
one_body (Join l r p s t pairs) c xs ys is f g e =
    let m : Siblings = record { left = l; right = r; parent = p; separator = s; high = t } in
    as_join (λ d. BodyFits d → body_text (join_of m pairs) ++ xs ≡ body_text d ++ ys → join_of m pairs ≡ d)
    (λ n qs h u.
    let c0 = siblings_cut m n _ _ (f.0, f.1, f.2, f.3, f.4) (h.0, h.1, h.2, h.3, h.4) (sym (siblings_in m (pairs_text pairs) xs) ∙ u ∙ siblings_in n (pairs_text qs) ys) in
    let c1 = pairs_cut pairs qs xs ys f.5 h.5 c0.1 in
    λ i. join_of (c0.0 i) (c1.0 i)) c (sym is) g e
one_body (DropRoot v p level pairs) c xs ys is f g e =
    let m : RootChange = record { root_prev = v; page = p; level = level } in
    as_drop (λ d. BodyFits d → body_text (drop_of m pairs) ++ xs ≡ body_text d ++ ys → drop_of m pairs ≡ d)
    (λ n qs h u.
    let c0 = root_change_cut m n _ _ (f.0, f.1, f.2) (h.0, h.1, h.2) (sym (root_change_in m (pairs_text pairs) xs) ∙ u ∙ root_change_in n (pairs_text qs) ys) in
    let c1 = pairs_cut pairs qs xs ys f.3 h.3 c0.1 in
    λ i. drop_of (c0.0 i) (c1.0 i)) c (sym is) g e
one_body (Purge l keys) c xs ys is f g e =
    as_purge (λ d. BodyFits d → body_text (Purge l keys) ++ xs ≡ body_text d ++ ys → Purge l keys ≡ d)
    (λ m ks h u.
    let c0 = ref_in_cut l m (keys_text keys) (keys_text ks) xs ys f.0 h.0 u in
    let c1 = keys_cut keys ks xs ys f.1 h.1 c0.1 in
    λ i. Purge (c0.0 i) (c1.0 i)) c (sym is) g e
one_body (Commit n) c xs ys is f g e =
    as_commit (λ d. BodyFits d → body_text (Commit n) ++ xs ≡ body_text d ++ ys → Commit n ≡ d) (λ m h u. ap Commit (number_cut 8 n m xs ys f h u).0) c (sym is) g e
one_body (Abort n) c xs ys is f g e =
    as_abort (λ d. BodyFits d → body_text (Abort n) ++ xs ≡ body_text d ++ ys → Abort n ≡ d) (λ m h u. ap Abort (number_cut 8 n m xs ys f h u).0) c (sym is) g e

-- ## Bytes that were read

-- the body with other pairs or keys
abbrev pub with_pairs : Pairs → Body → Body
with_pairs qs (Split l r p s t level pairs) = Split l r p s t level qs
with_pairs qs (Lift v p level pairs) = Lift v p level qs
with_pairs qs (Join l r p s t pairs) = Join l r p s t qs
with_pairs qs (DropRoot v p level pairs) = DropRoot v p level qs
with_pairs qs b = b

abbrev pub with_keys : Keys → Body → Body
with_keys ks (Purge l keys) = Purge l ks
with_keys ks b = b

pub change_stands : (bytes r1 : List ℕ) (c : KeyChange) (b : Body) → b ≡ change_of c → bytes ≡ key_change_text c ++ r1 → KeyChangeFits c → BodyStands 1 bytes b 36
change_stands bytes r1 c b same e f = subst (λ (d : Body). BodyStands 1 bytes d 36) (sym same) (record { is = refl; fits = f; count = sym (key_change_long c); rest = r1; spelled = e })

pub put_back_stands : (bytes r1 : List ℕ) (c : KeyChange) (b : Body) → b ≡ put_back_of c → bytes ≡ key_change_text c ++ r1 → KeyChangeFits c → BodyStands 2 bytes b 36
put_back_stands bytes r1 c b same e f = subst (λ (d : Body). BodyStands 2 bytes d 36) (sym same) (record { is = refl; fits = f; count = sym (key_change_long c); rest = r1; spelled = e })

pub commit_stands : (bytes r1 : List ℕ) (n : ℕ) (b : Body) → b ≡ Commit n → bytes ≡ number_bytes 8 n ++ r1 → n < 2 ^ 64 → BodyStands 8 bytes b 8
commit_stands bytes r1 n b same e f = subst (λ (d : Body). BodyStands 8 bytes d 8) (sym same) (record { is = refl; fits = f; count = sym (length-number_bytes 8 n); rest = r1; spelled = e })

pub abort_stands : (bytes r1 : List ℕ) (n : ℕ) (b : Body) → b ≡ Abort n → bytes ≡ number_bytes 8 n ++ r1 → n < 2 ^ 64 → BodyStands 9 bytes b 8
abort_stands bytes r1 n b same e f = subst (λ (d : Body). BodyStands 9 bytes d 8) (sym same) (record { is = refl; fits = f; count = sym (length-number_bytes 8 n); rest = r1; spelled = e })

pub split_stands : (bytes r1 r2 : List ℕ) (s : Siblings) (level : ℕ) (ps : Pairs) (b : Body) (n : ℕ) → split_of s level ps ≡ b → bytes ≡ siblings_text s r1 → r1 ≡ level ∷ r2 → SiblingsFit s → level < 2 ^ 8
    → PairsStand r2 ps n → BodyStands 3 bytes b (53 + n)
split_stands bytes r1 r2 s level ps b n same e0 e1 f fl is = subst (λ (c : Body). BodyStands 3 bytes c (53 + n)) same (record {
  is = refl;
  fits = (f.0, f.1, f.2, f.3, f.4, fl, is.fits);
  count = let l = siblings_long s (level ∷ pairs_text ps) in let k = is.count in omega arith;
  rest = is.rest;
  spelled = e0 ∙ ap (siblings_text s) (e1 ∙ ap (λ (u : List ℕ). level ∷ u) is.spelled) ∙ sym (siblings_in s (level ∷ pairs_text ps) is.rest);
})

pub join_stands : (bytes r1 : List ℕ) (s : Siblings) (ps : Pairs) (b : Body) (n : ℕ) → join_of s ps ≡ b → bytes ≡ siblings_text s r1 → SiblingsFit s → PairsStand r1 ps n → BodyStands 5 bytes b (52 + n)
join_stands bytes r1 s ps b n same e0 f is = subst (λ (c : Body). BodyStands 5 bytes c (52 + n)) same (record {
  is = refl;
  fits = (f.0, f.1, f.2, f.3, f.4, is.fits);
  count = let l = siblings_long s (pairs_text ps) in let k = is.count in omega arith;
  rest = is.rest;
  spelled = e0 ∙ ap (siblings_text s) is.spelled ∙ sym (siblings_in s (pairs_text ps) is.rest);
})

pub lift_stands : (bytes r1 : List ℕ) (s : RootChange) (ps : Pairs) (b : Body) (n : ℕ) → lift_of s ps ≡ b → bytes ≡ root_change_text s r1 → RootChangeFits s → PairsStand r1 ps n → BodyStands 4 bytes b (21 + n)
lift_stands bytes r1 s ps b n same e0 f is = subst (λ (c : Body). BodyStands 4 bytes c (21 + n)) same (record {
  is = refl;
  fits = (f.0, f.1, f.2, is.fits);
  count = let l = root_change_long s (pairs_text ps) in let k = is.count in omega arith;
  rest = is.rest;
  spelled = e0 ∙ ap (root_change_text s) is.spelled ∙ sym (root_change_in s (pairs_text ps) is.rest);
})

pub drop_stands : (bytes r1 : List ℕ) (s : RootChange) (ps : Pairs) (b : Body) (n : ℕ) → drop_of s ps ≡ b → bytes ≡ root_change_text s r1 → RootChangeFits s → PairsStand r1 ps n → BodyStands 6 bytes b (21 + n)
drop_stands bytes r1 s ps b n same e0 f is = subst (λ (c : Body). BodyStands 6 bytes c (21 + n)) same (record {
  is = refl;
  fits = (f.0, f.1, f.2, is.fits);
  count = let l = root_change_long s (pairs_text ps) in let k = is.count in omega arith;
  rest = is.rest;
  spelled = e0 ∙ ap (root_change_text s) is.spelled ∙ sym (root_change_in s (pairs_text ps) is.rest);
})

pub purge_stands : (bytes r1 : List ℕ) (l : PageRef) (ks : Keys) (b : Body) (n : ℕ) → Purge l ks ≡ b → bytes ≡ ref_text l ++ r1 → RefFits l → KeysStand r1 ks n → BodyStands 7 bytes b (12 + n)
purge_stands bytes r1 l ks b n same e0 f is = subst (λ (c : Body). BodyStands 7 bytes c (12 + n)) same (record {
  is = refl;
  fits = (f, is.fits);
  count = let a = length-append (ref_text l) (keys_text ks) in let h = ref_long l in let k = is.count in omega arith;
  rest = is.rest;
  spelled = e0 ∙ ap (λ (u : List ℕ). ref_text l ++ u) is.spelled ∙ sym (append_assoc (ref_text l) (keys_text ks) is.rest);
})

-- where no pairs stand behind the front, no body does
pub no_split : (bytes r1 r2 : List ℕ) (s : Siblings) (level : ℕ) → bytes ≡ siblings_text s r1 → r1 ≡ level ∷ r2 → SiblingsFit s → NoPairs r2 → NoBody 3 bytes
no_split bytes r1 r2 s level e0 e1 f none b rest is g e =
    as_split (λ d. BodyFits d → bytes ≡ body_text d ++ rest → ⊥)
    (λ n other qs h u.
    let c0 = siblings_cut s n r1 ((other ∷ pairs_text qs) ++ rest) f (h.0, h.1, h.2, h.3, h.4) (sym e0 ∙ u ∙ siblings_in n (other ∷ pairs_text qs) rest) in
    let c1 = byte_cut level other r2 (pairs_text qs ++ rest) (sym e1 ∙ c0.1) in
    none qs rest h.6 c1.1) b is g e

pub no_join : (bytes r1 : List ℕ) (s : Siblings) → bytes ≡ siblings_text s r1 → SiblingsFit s → NoPairs r1 → NoBody 5 bytes
no_join bytes r1 s e0 f none b rest is g e =
    as_join (λ d. BodyFits d → bytes ≡ body_text d ++ rest → ⊥)
    (λ n qs h u.
    let c0 = siblings_cut s n r1 (pairs_text qs ++ rest) f (h.0, h.1, h.2, h.3, h.4) (sym e0 ∙ u ∙ siblings_in n (pairs_text qs) rest) in
    none qs rest h.5 c0.1) b is g e

pub no_lift : (bytes r1 : List ℕ) (s : RootChange) → bytes ≡ root_change_text s r1 → RootChangeFits s → NoPairs r1 → NoBody 4 bytes
no_lift bytes r1 s e0 f none b rest is g e =
    as_lift (λ d. BodyFits d → bytes ≡ body_text d ++ rest → ⊥)
    (λ n qs h u.
    let c0 = root_change_cut s n r1 (pairs_text qs ++ rest) f (h.0, h.1, h.2) (sym e0 ∙ u ∙ root_change_in n (pairs_text qs) rest) in
    none qs rest h.3 c0.1) b is g e

pub no_drop : (bytes r1 : List ℕ) (s : RootChange) → bytes ≡ root_change_text s r1 → RootChangeFits s → NoPairs r1 → NoBody 6 bytes
no_drop bytes r1 s e0 f none b rest is g e =
    as_drop (λ d. BodyFits d → bytes ≡ body_text d ++ rest → ⊥)
    (λ n qs h u.
    let c0 = root_change_cut s n r1 (pairs_text qs ++ rest) f (h.0, h.1, h.2) (sym e0 ∙ u ∙ root_change_in n (pairs_text qs) rest) in
    none qs rest h.3 c0.1) b is g e

pub no_purge : (bytes r1 : List ℕ) (l : PageRef) → bytes ≡ ref_text l ++ r1 → RefFits l → NoKeys r1 → NoBody 7 bytes
no_purge bytes r1 l e0 f none b rest is g e =
    as_purge (λ d. BodyFits d → bytes ≡ body_text d ++ rest → ⊥)
    (λ m ks h u.
    let c0 = ref_cut l m r1 (keys_text ks ++ rest) f h.0 (sym e0 ∙ u ∙ append_assoc (ref_text m) (keys_text ks) rest) in
    none ks rest h.1 c0.1) b is g e
