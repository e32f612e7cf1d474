-- What is asked of a page is what the calls on it need, and what they make is what the record makes.
use Rattle.std.proofs.Common.{◌≡◌, ◌↔◌, ◌⊎◌, ◌<◌, ◌≤◌, ◌+◌, ◌-◌, ◌*◌, ◌^◌, ℕ, suc, Bool, true, false, ◌&&◌, not, leb, ltb, ◌==◌, List, [], ◌∷◌, ◌++◌, length, map, take, get_or, set, refl, sym, ◌∙◌, ap, subst, inl, inr, arith, true≢false}
use Rattle.std.specs.Prelude.{IsTrue}
use Rattle.std.proofs.lemmas.Bool.{and_parts, leb-true, le-leb, eq-eqb, cond-true, cases_Bool}
use Rattle.std.proofs.lemmas.List.{take_more, take_more_set, append_assoc, length-set, map-append}
use Rattle.page_model.specs.Pairs.{Pair, Rising}
use Rattle.page_model.specs.Nodes.{Node}
use Rattle.page_model.specs.Check.{is_rising}
use Rattle.page_model.specs.Redo.{is_ordered}
use Rattle.disk_image.specs.btree_node.Words.{IsOrdered, pairs_of, flat}
use Rattle.disk_image.proofs.btree_node.FlatLemmas.{words-pairs_of, words-whole, length-flat, flat-append}
use Rattle.disk_image.specs.log_record.Model.{model_pair, model_pairs}
use Rattle.disk_image.specs.log_record.declared.record.PageRef.{PageRef}
use Rattle.disk_image.specs.log_record.declared.record.Pairs.{Pairs}
use Rattle.disk_image.specs.log_record.declared.record.Pair as log
use Rattle.disk_image.specs.log_record.declared.record.Body.TheVariants.{Split, Lift, Join, DropRoot}
use Rattle.disk_image.specs.log_record.declared.record.Body.{Body}
use Rattle.record_redo.specs.Inside.{record_in, is_sayable, can_be, AreWordsOf}

-- ## Order

rising_from : (low : ℕ) (ps : List Pair) (high : ℕ) → is_rising low ps high ≡ true → Rising low ps high
rising_from low [] high e = leb-true low high e
rising_from low (x ∷ ps) high e =
    let h = and_parts (leb low x.key) (is_rising (suc x.key) ps high) e in
    (leb-true low x.key h.0, rising_from (suc x.key) ps high h.1)

rising_to : (low : ℕ) (ps : List Pair) (high : ℕ) → Rising low ps high → is_rising low ps high ≡ true
rising_to low [] high r = le-leb low high r
rising_to low (x ∷ ps) high r = ap (λ b. b && is_rising (suc x.key) ps high) (le-leb low x.key r.0) ∙ rising_to (suc x.key) ps high r.1

pub ordered_from : (low : ℕ) (ps : List Pair) (high : ℕ) → is_ordered low ps high ≡ true → IsOrdered low ps high
ordered_from low [] high e = tt
ordered_from low (x ∷ ps) high e = rising_from low (x ∷ ps) high e

pub ordered_to : (low : ℕ) (ps : List Pair) (high : ℕ) → IsOrdered low ps high → is_ordered low ps high ≡ true
ordered_to low [] high o = refl
ordered_to low (x ∷ ps) high o = rising_to low (x ∷ ps) high o

-- a test of the one is a test of the other
pub ordered_test : (low : ℕ) (ps : List Pair) (high : ℕ) (b : Bool) → IsTrue b ↔ IsOrdered low ps high → b ≡ is_ordered low ps high
ordered_test low ps high b h = go (cases_Bool (is_ordered low ps high)) (cases_Bool b)
  where
    go : (is_ordered low ps high ≡ true) ⊎ (is_ordered low ps high ≡ false) → (b ≡ true) ⊎ (b ≡ false) → b ≡ is_ordered low ps high
    go (inl e) (inl f) = f ∙ sym e
    go (inr e) (inr f) = f ∙ sym e
    go (inl e) (inr f) = absurd (true≢false (sym (h.1 (ordered_from low ps high e)) ∙ f))
    go (inr e) (inl f) = absurd (true≢false (sym (ordered_to low ps high (h.0 f)) ∙ e))

-- ## The pairs of a record, as words

pub split_ordered : (body : Body) (left right parent : PageRef) (separator high level : ℕ) (pairs : Pairs) (ws : List ℕ) → body ≡ Split left right parent separator high level pairs →
    is_sayable body ≡ true → AreWordsOf (record_in body).pairs ws → IsOrdered separator (pairs_of ws) high
split_ordered body left right parent separator high level pairs ws e h w =
    let s : is_sayable (Split left right parent separator high level pairs) ≡ true = ap is_sayable (sym e) ∙ h in
    let v : pairs_of ws ≡ model_pairs pairs = w.spelled ∙ ap (λ b. (record_in b).pairs) e in
    let a = and_parts (not (left.page == right.page)) _ s in
    let b = and_parts (not (left.page == parent.page)) _ a.1 in
    let c = and_parts (not (right.page == parent.page)) _ b.1 in
    let d = and_parts (leb (length (model_pairs pairs)) 60) _ c.1 in
    let o = and_parts (leb level 7) (is_ordered separator (model_pairs pairs) high) d.1 in
    subst (λ (ps : List Pair). IsOrdered separator ps high) (sym v) (ordered_from separator (model_pairs pairs) high o.1)

pub lift_ordered : (body : Body) (prev : ℕ) (page : PageRef) (level : ℕ) (pairs : Pairs) (ws : List ℕ) → body ≡ Lift prev page level pairs →
    is_sayable body ≡ true → AreWordsOf (record_in body).pairs ws → IsOrdered 0 (pairs_of ws) (2 ^ 64 - 1)
lift_ordered body prev page level pairs ws e h w =
    let s : is_sayable (Lift prev page level pairs) ≡ true = ap is_sayable (sym e) ∙ h in
    let v : pairs_of ws ≡ model_pairs pairs = w.spelled ∙ ap (λ b. (record_in b).pairs) e in
    let a = and_parts (not (page.page == 0)) _ s in
    let b = and_parts (ltb level 7) _ a.1 in
    let o = and_parts (leb (length (model_pairs pairs)) 60) (is_ordered 0 (model_pairs pairs) (2 ^ 64 - 1)) b.1 in
    subst (λ (ps : List Pair). IsOrdered 0 ps (2 ^ 64 - 1)) (sym v) (ordered_from 0 (model_pairs pairs) (2 ^ 64 - 1) o.1)

pub join_ordered : (body : Body) (left right parent : PageRef) (separator high : ℕ) (pairs : Pairs) (ws : List ℕ) (p : ℕ) (v : Node) → body ≡ Join left right parent separator high pairs →
    p ≡ left.page → can_be body p v ≡ true → AreWordsOf (record_in body).pairs ws → IsOrdered v.low (v.pairs ++ pairs_of ws) high
join_ordered body left right parent separator high pairs ws p v e at h w =
    let s : can_be (Join left right parent separator high pairs) p v ≡ true = ap (λ b. can_be b p v) (sym e) ∙ h in
    let u : pairs_of ws ≡ model_pairs pairs = w.spelled ∙ ap (λ b. (record_in b).pairs) e in
    let t = sym (cond-true (p == left.page) _ _ (eq-eqb p left.page at)) ∙ s in
    let a = and_parts v.live (leb (length v.pairs + length (model_pairs pairs)) 60 && is_ordered v.low (v.pairs ++ model_pairs pairs) high) t in
    let o = and_parts (leb (length v.pairs + length (model_pairs pairs)) 60) (is_ordered v.low (v.pairs ++ model_pairs pairs) high) a.1 in
    subst (λ (ps : List Pair). IsOrdered v.low (v.pairs ++ ps) high) (sym u) (ordered_from v.low (v.pairs ++ model_pairs pairs) high o.1)

pub drop_ordered : (body : Body) (prev : ℕ) (child : PageRef) (level : ℕ) (pairs : Pairs) (ws : List ℕ) (p : ℕ) (v : Node) → body ≡ DropRoot prev child level pairs →
    p ≡ 0 → can_be body p v ≡ true → AreWordsOf (record_in body).pairs ws → IsOrdered v.low (pairs_of ws) v.high
drop_ordered body prev child level pairs ws p v e at h w =
    let s : can_be (DropRoot prev child level pairs) p v ≡ true = ap (λ b. can_be b p v) (sym e) ∙ h in
    let u : pairs_of ws ≡ model_pairs pairs = w.spelled ∙ ap (λ b. (record_in b).pairs) e in
    let t = sym (cond-true (p == 0) (v.live && is_ordered v.low (model_pairs pairs) v.high) true (eq-eqb p 0 at)) ∙ s in
    let o = and_parts v.live (is_ordered v.low (model_pairs pairs) v.high) t in
    subst (λ (ps : List Pair). IsOrdered v.low ps v.high) (sym u) (ordered_from v.low (model_pairs pairs) v.high o.1)

-- words that spell pairs
pub words_from : (ps : List Pair) (ws : List ℕ) → ws ≡ flat ps → AreWordsOf ps ws
words_from ps ws e = record { spelled = words-pairs_of ws ps e; whole = words-whole ws ps e; count = ap length e ∙ length-flat ps }

-- one pair more
pub spelled_more : (pairs : List log.Pair) (ws : List ℕ) (i : ℕ) (d : log.Pair) → length ws ≡ 120 → length pairs ≤ 60 → i < length pairs → take (2 * i) ws ≡ flat (map model_pair (take i pairs)) →
    take (2 * (i + 1)) (set (set ws (2 * i) (get_or pairs i d).key) (2 * i + 1) (get_or pairs i d).word) ≡ flat (map model_pair (take (i + 1) pairs))
spelled_more pairs ws i d long most l e =
    let x = get_or pairs i d in
    let us = set ws (2 * i) x.key in
    let lu : length us ≡ 120 = length-set ws (2 * i) x.key ∙ long in
    let n : 2 * (i + 1) ≡ 2 * i + 1 + 1 = omega arith in
    let mapped : map model_pair (take (i + 1) pairs) ≡ map model_pair (take i pairs) ++ model_pair x ∷ [] = ap (map model_pair) (take_more pairs i d l) ∙ map-append model_pair (take i pairs) (x ∷ []) in
    ap (λ j. take j (set us (2 * i + 1) x.word)) n
    ∙ take_more_set us (2 * i + 1) x.word (omega arith)
    ∙ ap (λ (zs : List ℕ). zs ++ x.word ∷ []) (take_more_set ws (2 * i) x.key (omega arith))
    ∙ append_assoc (take (2 * i) ws) (x.key ∷ []) (x.word ∷ [])
    ∙ ap (λ (zs : List ℕ). zs ++ x.key ∷ x.word ∷ []) e
    ∙ sym (flat-append (map model_pair (take i pairs)) (model_pair x ∷ []))
    ∙ sym (ap flat mapped)
