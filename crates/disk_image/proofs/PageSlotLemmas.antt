-- The page of a slot.
use Rattle.std.proofs.Common.{◌≡◌, ◌<◌, ◌⊎◌, ◌^◌, ℕ, Bool, true, false, ◌&&◌, ◌||◌, not, leb, ltb, ◌==◌, List, [], ◌∷◌, length, Some, None, codes, bytes_eq, refl, sym, ap, subst, ◌∙◌, inl, inr, arith, true≢false}
use Rattle.std.proofs.lemmas.Bool.{cases_Bool, cases_eq, and_parts, and_from, or_cases, or_left, or_right, leb-true, le-leb, ltb-true, lt-ltb, eqb-true, eq-eqb, ne_eqb, cond-true, cond-false, not-true}
use Rattle.std.proofs.lemmas.Slice.Eq.{bytes_eq-Decides}
use Rattle.map_model.specs.Lists.{all}
use Rattle.page_model.specs.Pairs.{Pair, first_key}
use Rattle.page_model.specs.Nodes.{Node, free}
use Rattle.page_model.specs.Check.{is_nil, is_rising, is_free}
use Rattle.page_model.specs.Page.{Page}
use Rattle.btree_node.specs.Words.{words_of, page_of, Fits, IsOrdered}
use Rattle.btree_node.proofs.SpellingLemmas.{page_of-words_of}
use Rattle.disk_slots.specs.Pages.{page_slot, IsStorable, IsPage, IsPageSlot}
use Rattle.disk_slots.proofs.PageLemmas.{page-words}
use Rattle.disk_image.specs.Words.{words_in, are_words}
use Rattle.disk_image.specs.PageSlots.{fits, is_word, is_storable, is_page, page_if}
use Rattle.disk_image.specs.Laws.{EveryPageIn}
use Rattle.disk_image.proofs.TestLemmas.{if_some, nil_to, rising_to, rising_from}
use Rattle.map_model.proofs.ListLemmas.{all_to, all_of}
use Rattle.disk_image.proofs.WordLemmas.{are_words_to, are_words_from, words_in-slot}

-- ## What 126 words can say

ordered_to : (low : ℕ) (ps : List Pair) (high : ℕ) → (is_nil ps || is_rising low ps high) ≡ true → IsOrdered low ps high
ordered_to low [] high h = tt
ordered_to low (p ∷ ps) high h = rising_to low (p ∷ ps) high h

ordered_from : (low : ℕ) (ps : List Pair) (high : ℕ) → IsOrdered low ps high → (is_nil ps || is_rising low ps high) ≡ true
ordered_from low [] high o = refl
ordered_from low (p ∷ ps) high o = rising_from low (p ∷ ps) high o

module _ (p : Page) where
  abbrev ordered : Bool
  ordered = is_nil p.node.pairs || is_rising p.node.low p.node.pairs p.node.high

  fits_to : fits p ≡ true → Fits p
  fits_to h =
      let a = and_parts (leb (length p.node.pairs) 60) (leb p.node.level 7 && (ltb p.last_log 256 && ordered)) h in
      let b = and_parts (leb p.node.level 7) (ltb p.last_log 256 && ordered) a.1 in
      let c = and_parts (ltb p.last_log 256) ordered b.1 in
      record {
        room = leb-true (length p.node.pairs) 60 a.0;
        level = leb-true p.node.level 7 b.0;
        last_log = ltb-true p.last_log 256 c.0;
        ordered = ordered_to p.node.low p.node.pairs p.node.high c.1;
      }

  fits_from : Fits p → fits p ≡ true
  fits_from f =
      and_from (leb (length p.node.pairs) 60) (leb p.node.level 7 && (ltb p.last_log 256 && ordered)) (le-leb (length p.node.pairs) 60 f.room)
      (and_from (leb p.node.level 7) (ltb p.last_log 256 && ordered) (le-leb p.node.level 7 f.level)
      (and_from (ltb p.last_log 256) ordered (lt-ltb p.last_log 256 f.last_log) (ordered_from p.node.low p.node.pairs p.node.high f.ordered)))

-- ## What may be stored

module _ (v : Node) where
  free_to : is_free v ≡ true → v ≡ free
  free_to h =
      let a = and_parts (not v.live) ((v.level == 0) && ((v.low == 0) && ((v.high == 0) && is_nil v.pairs))) h in
      let b = and_parts (v.level == 0) ((v.low == 0) && ((v.high == 0) && is_nil v.pairs)) a.1 in
      let c = and_parts (v.low == 0) ((v.high == 0) && is_nil v.pairs) b.1 in
      let d = and_parts (v.high == 0) (is_nil v.pairs) c.1 in
      ap (λ z. record v { live = z }) (not-true v.live a.0)
      ∙ ap (λ z. record v { live = false; level = z }) (eqb-true v.level 0 b.0)
      ∙ ap (λ z. record v { live = false; level = 0; low = z }) (eqb-true v.low 0 c.0)
      ∙ ap (λ z. record v { live = false; level = 0; low = 0; high = z }) (eqb-true v.high 0 d.0)
      ∙ ap (λ (z : List Pair). record { live = false; level = 0; low = 0; high = 0; pairs = z }) (nil_to v.pairs d.1)

some_pairs : (ps : List Pair) → not (is_nil ps) ≡ true → ps ≡ [] → ⊥
some_pairs [] h e = true≢false (sym h)
some_pairs (p ∷ ps) h e = true≢false (sym (ap is_nil e))

pairs_some : (ps : List Pair) → (ps ≡ [] → ⊥) → not (is_nil ps) ≡ true
pairs_some [] n = absurd (n refl)
pairs_some (p ∷ ps) n = refl

module _ (pages : ℕ) (v : Node) where
  abbrev is_child : Pair → Bool
  is_child x = ltb 0 x.word && ltb x.word pages

  abbrev has_first : Bool
  has_first = not (is_nil v.pairs) && (first_key v.pairs v.high == v.low)

  abbrev is_node : Bool
  is_node = all (is_word pages v) v.pairs && ((v.level == 0) || has_first)

  leaf_word : v.level ≡ 0 → (x : Pair) → is_word pages v x ≡ leb x.word (2 ^ 63)
  leaf_word z x = cond-true (v.level == 0) (leb x.word (2 ^ 63)) (is_child x) (eq-eqb v.level 0 z)

  inner_word : 0 < v.level → (x : Pair) → is_word pages v x ≡ is_child x
  inner_word l x = cond-false (v.level == 0) (leb x.word (2 ^ 63)) (is_child x) (ne_eqb v.level 0 (λ e. omega arith))

  node_to : v.live ≡ true → is_node ≡ true → IsStorable pages v
  node_to live h = record {
    values = λ _ z x m. leb-true x.word (2 ^ 63) (sym (leaf_word z x) ∙ all_to (is_word pages v) v.pairs parts.0 x m);
    children = λ _ l x m. (let b = and_parts (ltb 0 x.word) (ltb x.word pages) (sym (inner_word l x) ∙ all_to (is_word pages v) v.pairs parts.0 x m) in (ltb-true 0 x.word b.0, ltb-true x.word pages b.1));
    first = λ _ l. first l (or_cases (v.level == 0) has_first parts.1);
    other = λ d. absurd (true≢false (sym live ∙ d));
  }
    where
      parts : (all (is_word pages v) v.pairs ≡ true) × (((v.level == 0) || has_first) ≡ true)
      parts = and_parts (all (is_word pages v) v.pairs) ((v.level == 0) || has_first) h

      first : 0 < v.level → ((v.level == 0) ≡ true) ⊎ (has_first ≡ true) → (v.pairs ≡ [] → ⊥) × (first_key v.pairs v.high ≡ v.low)
      first l (inl e) = let z = eqb-true v.level 0 e in absurd (omega arith)
      first l (inr e) = let b = and_parts (not (is_nil v.pairs)) (first_key v.pairs v.high == v.low) e in (some_pairs v.pairs b.0, eqb-true (first_key v.pairs v.high) v.low b.1)

  node_from : v.live ≡ true → IsStorable pages v → is_node ≡ true
  node_from live s = go (cases_eq v.level 0)
    where
      go : (v.level ≡ 0) ⊎ (v.level ≡ 0 → ⊥) → is_node ≡ true
      go (inl z) =
          and_from (all (is_word pages v) v.pairs) ((v.level == 0) || has_first)
          (all_of (is_word pages v) v.pairs (λ x m. leaf_word z x ∙ le-leb x.word (2 ^ 63) (s.values live z x m)))
          (or_left (v.level == 0) has_first (eq-eqb v.level 0 z))
      go (inr n) =
          let l : 0 < v.level = omega arith in
          let f = s.first live l in
          and_from (all (is_word pages v) v.pairs) ((v.level == 0) || has_first)
          (all_of (is_word pages v) v.pairs (λ x m. (let c = s.children live l x m in inner_word l x ∙ and_from (ltb 0 x.word) (ltb x.word pages) (lt-ltb 0 x.word c.0) (lt-ltb x.word pages c.1))))
          (or_right (v.level == 0) has_first (and_from (not (is_nil v.pairs)) (first_key v.pairs v.high == v.low) (pairs_some v.pairs f.0) (eq-eqb (first_key v.pairs v.high) v.low f.1)))

  storable_to : is_storable pages v ≡ true → IsStorable pages v
  storable_to h = elim (cases_Bool v.live) [
    | inl live ↦ node_to live (sym (cond-true v.live is_node (is_free v) live) ∙ h)
    | inr dead ↦ record {
      values = λ live. absurd (true≢false (sym live ∙ dead));
      children = λ live. absurd (true≢false (sym live ∙ dead));
      first = λ live. absurd (true≢false (sym live ∙ dead));
      other = λ _. free_to v (sym (cond-false v.live is_node (is_free v) dead) ∙ h);
    }
  ]

  storable_from : IsStorable pages v → is_storable pages v ≡ true
  storable_from s = elim (cases_Bool v.live) [
    | inl live ↦ cond-true v.live is_node (is_free v) live ∙ node_from live s
    | inr dead ↦ cond-false v.live is_node (is_free v) dead ∙ ap is_free (s.other dead)
  ]

-- ## A page and its slot

module _ (n pages : ℕ) (p : Page) where
  page_to : is_page n pages p ≡ true → IsPage n pages p
  page_to h =
      let a = and_parts (fits p) (are_words (words_of p) && ((p.number == n) && is_storable pages p.node)) h in
      let b = and_parts (are_words (words_of p)) ((p.number == n) && is_storable pages p.node) a.1 in
      let c = and_parts (p.number == n) (is_storable pages p.node) b.1 in
      record {
        fits = fits_to p a.0;
        words = are_words_to (words_of p) b.0;
        number = eqb-true p.number n c.0;
        node = storable_to pages p.node c.1;
      }

  page_from : IsPage n pages p → is_page n pages p ≡ true
  page_from s =
      and_from (fits p) (are_words (words_of p) && ((p.number == n) && is_storable pages p.node)) (fits_from p s.fits)
      (and_from (are_words (words_of p)) ((p.number == n) && is_storable pages p.node) (are_words_from (words_of p) s.words)
      (and_from (p.number == n) (is_storable pages p.node) (eq-eqb p.number n s.number) (storable_from pages p.node s.node)))

module _ (n pages : ℕ) (bytes : List ℕ) where
  slot_to : (q p : Page) → page_if n pages bytes q ≡ Some p → IsPageSlot n pages bytes p
  slot_to q p h =
      let a = if_some (bytes_eq bytes (page_slot q) && is_page n pages q) q p h in
      let b = and_parts (bytes_eq bytes (page_slot q)) (is_page n pages q) a.0 in
      subst (IsPageSlot n pages bytes) a.1 (record { holds = page_to n pages q b.1; spelled = (bytes_eq-Decides bytes (page_slot q)).0 b.0 })

  slot_from : (p : Page) → IsPageSlot n pages bytes p → page_if n pages bytes p ≡ Some p
  slot_from p s = cond-true (bytes_eq bytes (page_slot p) && is_page n pages p) (Some p) None
      (and_from (bytes_eq bytes (page_slot p)) (is_page n pages p) ((bytes_eq-Decides bytes (page_slot p)).1 s.spelled) (page_from n pages p s.holds))

  -- the words of a slot spell its page
  page_read : (p : Page) → IsPageSlot n pages bytes p → page_of (words_in 126 bytes) ≡ p
  page_read p s = ap page_of (words_in-slot 126 (codes "LEANPAGE") bytes (words_of p) refl (page-words n pages bytes p s)) ∙ page_of-words_of p s.holds.fits

pub every_page_in : EveryPageIn
every_page_in n pages bytes p = (
  slot_to n pages bytes (page_of (words_in 126 bytes)) p,
  λ s. ap (page_if n pages bytes) (page_read n pages bytes p s) ∙ slot_from n pages bytes p s,
)
