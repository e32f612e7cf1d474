-- Pages and their slots.
use Rattle.std.proofs.Common.{◌≡◌, ℕ, zero, suc, ◌+◌, ◌-◌, ◌*◌, ◌^◌, ◌<◌, ◌≤◌, inl, inr, true, true≢false, List, [], ◌∷◌, length, replicate, refl, sym, ap, subst, ◌∙◌, arith, codes}
use Rattle.std.proofs.lemmas.List.{length-append, length-replicate}
use Rattle.page_model.specs.Pairs.{Pair, Has, first_key}
use Rattle.page_model.specs.Nodes.{Node}
use Rattle.page_model.specs.Needs.{key_at}
use Rattle.page_model.specs.Page.{Page, word_at}
use Rattle.btree_node.specs.Words.{flat, pair_words, words_of, Fits, Spells}
use Rattle.btree_node.proofs.FlatLemmas.{length-flat}
use Rattle.btree_node.proofs.SpellingLemmas.{one-page}
use Rattle.lean_bytes.specs.Numbers.{AreWords}
use Rattle.disk_slots.specs.declared.refusal.Refusal.{Refusal}
use Rattle.disk_slots.specs.declared.refusal.Refusal.TheVariants.{NoSeal, Malformed}
use Rattle.disk_slots.specs.Slots.{slot_of, IsSealed, HasWords}
use Rattle.disk_slots.specs.Pages.{page_slot, IsStorable, IsPageSlot}
use Rattle.disk_slots.proofs.SlotLemmas.{slot-one, slot-sealed}

-- ## Pairs by place, and pairs of a list

has-at : (x : Pair) (xs : List Pair) → Has x xs → (i : ℕ) × (i < length xs) × (x.word ≡ word_at i xs)
has-at x [] h = absurd h
has-at x (y ∷ ys) (inl e) = (0, omega arith, ap (λ (z : Pair). z.word) e)
has-at x (y ∷ ys) (inr h) = let r = has-at x ys h in let l = r.1 in (suc r.0, omega arith, r.2)

at-has : (i : ℕ) (xs : List Pair) → i < length xs → Has (record { key = key_at i xs; word = word_at i xs }) xs
at-has i [] h = absurd (omega arith)
at-has zero (x ∷ xs) h = inl refl
at-has (suc i) (x ∷ xs) h = inr (at-has i xs (omega arith))

each-from : (P : ℕ → Type 0) (xs : List Pair) → ((i : ℕ) → i < length xs → P (word_at i xs)) → (x : Pair) → Has x xs → P x.word
each-from P xs e x h = let r = has-at x xs h in subst P (sym r.2) (e r.0 r.1)

each-to : (P : ℕ → Type 0) (xs : List Pair) → ((x : Pair) → Has x xs → P x.word) → (i : ℕ) → i < length xs → P (word_at i xs)
each-to P xs e i h = e _ (at-has i xs h)

first-from : (xs : List Pair) (high low : ℕ) → (length xs ≡ 0 → ⊥) → key_at 0 xs ≡ low → (xs ≡ [] → ⊥) × (first_key xs high ≡ low)
first-from [] high low n e = absurd (n refl)
first-from (x ∷ xs) high low n e = ((λ q. n (ap (λ (ys : List Pair). length ys) q)), e)

first-some : (xs : List Pair) → (xs ≡ [] → ⊥) → length xs ≡ 0 → ⊥
first-some [] n e = n refl
first-some (x ∷ xs) n e = omega arith

first-to : (xs : List Pair) (high low : ℕ) → (xs ≡ [] → ⊥) → first_key xs high ≡ low → key_at 0 xs ≡ low
first-to [] high low n e = absurd (n refl)
first-to (x ∷ xs) high low n e = e

-- ## What may be stored

pub leaf-from : (pages : ℕ) (v : Node) → v.live ≡ true → v.level ≡ 0 → ((i : ℕ) → i < length v.pairs → word_at i v.pairs ≤ 2 ^ 63) → IsStorable pages v
leaf-from pages v l z e = record {
  values = λ _ _. each-from (λ w. w ≤ 2 ^ 63) v.pairs e;
  children = λ _ h. absurd (omega arith);
  first = λ _ h. absurd (omega arith);
  other = λ f. absurd (true≢false (sym l ∙ f));
}

pub leaf-to : (pages : ℕ) (v : Node) → v.live ≡ true → v.level ≡ 0 → IsStorable pages v → (i : ℕ) → i < length v.pairs → word_at i v.pairs ≤ 2 ^ 63
leaf-to pages v l z s = each-to (λ w. w ≤ 2 ^ 63) v.pairs (s.values l z)

pub inner-from : (pages : ℕ) (v : Node) → v.live ≡ true → 0 < v.level → (length v.pairs ≡ 0 → ⊥) → key_at 0 v.pairs ≡ v.low → ((i : ℕ) → i < length v.pairs → (0 < word_at i v.pairs) × (word_at i v.pairs < pages)) → IsStorable pages v
inner-from pages v l p n k e = record {
  values = λ _ z. absurd (omega arith);
  children = λ _ _. each-from (λ w. (0 < w) × (w < pages)) v.pairs e;
  first = λ _ _. first-from v.pairs v.high v.low n k;
  other = λ f. absurd (true≢false (sym l ∙ f));
}

pub inner-to : (pages : ℕ) (v : Node) → v.live ≡ true → 0 < v.level → IsStorable pages v → (i : ℕ) → i < length v.pairs → (0 < word_at i v.pairs) × (word_at i v.pairs < pages)
inner-to pages v l p s = each-to (λ w. (0 < w) × (w < pages)) v.pairs (s.children l p)

pub inner-some : (pages : ℕ) (v : Node) → v.live ≡ true → 0 < v.level → IsStorable pages v → length v.pairs ≡ 0 → ⊥
inner-some pages v l p s = first-some v.pairs ((s.first l p).0)

pub inner-first : (pages : ℕ) (v : Node) → v.live ≡ true → 0 < v.level → IsStorable pages v → key_at 0 v.pairs ≡ v.low
inner-first pages v l p s = first-to v.pairs v.high v.low (s.first l p).0 (s.first l p).1

-- ## A page and its slot

length-words_of : (v : Page) → Fits v → length (words_of v) ≡ 126
length-words_of v f =
    let ps = v.node.pairs in
    let r = f.room in
    let a = length-flat ps in
    let c : length (replicate {A = ℕ} (120 - 2 * length ps) 0) ≡ 120 - 2 * length ps = length-replicate (120 - 2 * length ps) 0 in
    let m : 2 * length ps + (120 - 2 * length ps) ≡ 120 = omega arith in
    let b : length (pair_words ps) ≡ 120 = length-append (flat ps) (replicate (120 - 2 * length ps) 0) ∙ ap (λ j. j + length (replicate {A = ℕ} (120 - 2 * length ps) 0)) a ∙ ap (λ j. 2 * length ps + j) c ∙ m in
    ap (λ n. suc (suc (suc (suc (suc (suc n)))))) b

pub page-words : (n pages : ℕ) (bytes : List ℕ) (p : Page) → IsPageSlot n pages bytes p → HasWords (codes "LEANPAGE") bytes (words_of p)
unfolding page_slot
page-words n pages bytes p s = record { long = length-words_of p s.holds.fits; fit = s.holds.words; spelled = s.spelled }

-- the words of a slot spell the page that it holds
pub page-spells : (n pages : ℕ) (bytes ws : List ℕ) (p : Page) → HasWords (codes "LEANPAGE") bytes ws → IsPageSlot n pages bytes p → Spells ws p
page-spells n pages bytes ws p h s = record { spelled = slot-one (codes "LEANPAGE") bytes ws (words_of p) h (page-words n pages bytes p s); fits = s.holds.fits }

pub page-same : (n pages : ℕ) (bytes ws : List ℕ) (p q : Page) → HasWords (codes "LEANPAGE") bytes ws → Spells ws q → IsPageSlot n pages bytes p → q ≡ p
page-same n pages bytes ws p q h t s = sym (one-page ws q t) ∙ one-page ws p (page-spells n pages bytes ws p h s)

pub page-read : (n pages : ℕ) (bytes ws : List ℕ) (p : Page) → HasWords (codes "LEANPAGE") bytes ws → Spells ws p → p.number ≡ n → IsStorable pages p.node → IsPageSlot n pages bytes p
unfolding page_slot
page-read n pages bytes ws p h t e s = record {
  holds = record { fits = t.fits; words = subst AreWords t.spelled h.fit; number = e; node = s };
  spelled = h.spelled ∙ ap (slot_of (codes "LEANPAGE")) t.spelled;
}

-- bytes that were refused are no slot
pub refused : (n pages : ℕ) (bytes : List ℕ) (p : Page) (r : Refusal) → (r ≡ NoSeal → IsSealed (codes "LEANPAGE") bytes → ⊥) → (r ≡ Malformed → IsSealed (codes "LEANPAGE") bytes × ((q : Page) → IsPageSlot n pages bytes q → ⊥)) → IsPageSlot n pages bytes p → ⊥
refused n pages bytes p NoSeal a b s = a refl (slot-sealed _ _ _ (page-words n pages bytes p s))
refused n pages bytes p Malformed a b s = (b refl).1 p s
