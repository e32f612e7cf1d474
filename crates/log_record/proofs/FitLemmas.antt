-- The tests whether a record fits say what the words of the grammar say.
use Rattle.std.proofs.Common.{◌≡◌, ◌<◌, ltb, ◌&&◌, ◌==◌, ◌^◌, ◌-◌, ℕ, Bool, List, [], ◌∷◌, length, take, drop, replicate, refl, length-drop, ap, ◌∙◌}
use Rattle.std.specs.Bool.{Decides}
use Rattle.std.specs.List.{All, list_all}
use Rattle.std.proofs.lemmas.Bool.{leb-true, le-leb}
use Rattle.std.proofs.lemmas.Bool.Decides.{Decides-and, Decides-like, Decides-ltb, Decides-eqb, Decides-by_and}
use Rattle.std.proofs.lemmas.List.Elements.{All-head, All-tail, All-same, All-replicate}
use Rattle.log_record.specs.Spelling.{RefFits, PairFits, PairsFit, KeysFit, ItemsFit, BodyFits, Fits, no_pair}
use Rattle.log_record.specs.Reading.{ref_fits, is_word, pair_fits, items_fit, pairs_fit, keys_fit, body_fits, fits}
use Rattle.log_record.specs.declared.record.Record.{Record}
use Rattle.log_record.specs.declared.record.PageRef.{PageRef}
use Rattle.log_record.specs.declared.record.Pair.{Pair}
use Rattle.log_record.specs.declared.record.Pairs.{Pairs}
use Rattle.log_record.specs.declared.record.Keys.{Keys}
use Rattle.log_record.specs.declared.record.Body.{Body}
use Rattle.log_record.specs.declared.record.Body.TheVariants.{Change, PutBack, Split, Lift, Join, DropRoot, Purge, Commit, Abort}

-- ## Numbers

word : (n : ℕ) → Decides (is_word n) (n < 2 ^ 64)
word n = Decides-ltb n (2 ^ 64)

level_fits : (n : ℕ) → Decides (ltb n (2 ^ 8)) (n < 2 ^ 8)
level_fits n = Decides-ltb n (2 ^ 8)

ref : (r : PageRef) → Decides (ref_fits r) (RefFits r)
ref r = Decides-and _ _ (Decides-ltb r.page (2 ^ 32)) (word r.prev)

pair : (p : Pair) → Decides (pair_fits p) (PairFits p)
pair p = Decides-and _ _ (word p.key) (word p.word)

none : (p : Pair) → Decides ((p.key == 0) && (p.word == 0)) (p ≡ no_pair)
none p =
    Decides-like ((p.key == 0) && (p.word == 0)) (λ h. λ i. record { key = h.0 i; word = h.1 i }) (λ e. (ap (λ (q : Pair). q.key) e, ap (λ (q : Pair). q.word) e))
    (Decides-and _ _ (Decides-eqb p.key 0) (Decides-eqb p.word 0))

-- ## Items

module _ {A : Type 0} (fit is_zero : A → Bool) (Fit : A → Type 0) (zero : A) (one : (x : A) → Decides (fit x) (Fit x)) (nothing : (x : A) → Decides (is_zero x) (x ≡ zero)) where
  zeros : (xs : List A) → All (λ x. x ≡ zero) xs → xs ≡ replicate (length xs) zero
  zeros [] a = refl
  zeros (x ∷ xs) a = λ i. All-head (λ y. y ≡ zero) x xs a i ∷ zeros xs (All-tail (λ y. y ≡ zero) x xs a) i

  each : (xs : List A) → Decides (list_all fit xs) (All Fit xs)
  each xs = Decides-by_and fit Fit (list_all fit) one refl (λ _ _. refl) xs

  all_zero : (xs : List A) → Decides (list_all is_zero xs) (All (λ x. x ≡ zero) xs)
  all_zero xs = Decides-by_and is_zero (λ x. x ≡ zero) (list_all is_zero) nothing refl (λ _ _. refl) xs

  items : (count : ℕ) (xs : List A) → Decides (items_fit fit is_zero count xs) (ItemsFit Fit zero count xs)
  items count xs =
      Decides-like (items_fit fit is_zero count xs)
      (λ h. let places : length xs ≡ 60 = h.1.0 in record {
        most = h.0;
        places = places;
        each = h.1.1.0;
        zeros = zeros (drop count xs) h.1.1.1 ∙ ap (λ k. replicate k zero) (length-drop count xs ∙ ap (λ n. n - count) places);
      })
      (λ f. (f.most, (f.places, (f.each, All-same (λ x. x ≡ zero) (drop count xs) (replicate (60 - count) zero) f.zeros (All-replicate (λ x. x ≡ zero) (60 - count) zero refl)))))
      (Decides-and _ _ (leb-true count 60, le-leb count 60)
      (Decides-and _ _ (Decides-eqb (length xs) 60)
      (Decides-and _ _ (each (take count xs)) (all_zero (drop count xs)))))

pairs_decide : (ps : Pairs) → Decides (pairs_fit ps) (PairsFit ps)
pairs_decide ps = items pair_fits (λ p. (p.key == 0) && (p.word == 0)) PairFits no_pair pair none ps.count ps.pairs

keys_decide : (ks : Keys) → Decides (keys_fit ks) (KeysFit ks)
keys_decide ks = items is_word (λ key. key == 0) (λ n. n < 2 ^ 64) 0 word (λ n. Decides-eqb n 0) ks.count ks.keys

-- ## Bodies

body : (b : Body) → Decides (body_fits b) (BodyFits b)
body (Change l k v a) =
    Decides-like _ (λ h. (h.0, h.1.0, h.1.1.0, h.1.1.1)) (λ f. (f.0, (f.1, (f.2, f.3)))) (Decides-and _ _ (ref l) (Decides-and _ _ (word k) (Decides-and _ _ (word v) (word a))))
body (PutBack l k v a) =
    Decides-like _ (λ h. (h.0, h.1.0, h.1.1.0, h.1.1.1)) (λ f. (f.0, (f.1, (f.2, f.3)))) (Decides-and _ _ (ref l) (Decides-and _ _ (word k) (Decides-and _ _ (word v) (word a))))
body (Split l r p s t level ps) =
    Decides-like _ (λ h. (h.0, h.1.0, h.1.1.0, h.1.1.1.0, h.1.1.1.1.0, h.1.1.1.1.1.0, h.1.1.1.1.1.1)) (λ f. (f.0, (f.1, (f.2, (f.3, (f.4, (f.5, f.6)))))))
    (Decides-and _ _ (ref l) (Decides-and _ _ (ref r) (Decides-and _ _ (ref p) (Decides-and _ _ (word s) (Decides-and _ _ (word t) (Decides-and _ _ (level_fits level) (pairs_decide ps)))))))
body (Lift v p level ps) =
    Decides-like _ (λ h. (h.0, h.1.0, h.1.1.0, h.1.1.1)) (λ f. (f.0, (f.1, (f.2, f.3)))) (Decides-and _ _ (word v) (Decides-and _ _ (ref p) (Decides-and _ _ (level_fits level) (pairs_decide ps))))
body (Join l r p s t ps) =
    Decides-like _ (λ h. (h.0, h.1.0, h.1.1.0, h.1.1.1.0, h.1.1.1.1.0, h.1.1.1.1.1)) (λ f. (f.0, (f.1, (f.2, (f.3, (f.4, f.5))))))
    (Decides-and _ _ (ref l) (Decides-and _ _ (ref r) (Decides-and _ _ (ref p) (Decides-and _ _ (word s) (Decides-and _ _ (word t) (pairs_decide ps))))))
body (DropRoot v p level ps) =
    Decides-like _ (λ h. (h.0, h.1.0, h.1.1.0, h.1.1.1)) (λ f. (f.0, (f.1, (f.2, f.3)))) (Decides-and _ _ (word v) (Decides-and _ _ (ref p) (Decides-and _ _ (level_fits level) (pairs_decide ps))))
body (Purge l ks) = Decides-and _ _ (ref l) (keys_decide ks)
body (Commit n) = word n
body (Abort n) = word n

pub fits_decides : (r : Record) → Decides (fits r) (Fits r)
fits_decides r =
    Decides-like (fits r) (λ h. record { txn = h.0; gsn = h.1.0; body = h.1.1 }) (λ f. (f.txn, (f.gsn, f.body)))
    (Decides-and _ _ (word r.txn) (Decides-and _ _ (word r.gsn) (body r.body)))
