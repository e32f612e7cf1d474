-- The check of an image's pages: whether they form a tree, page by page.
use Rattle.std.specs.Prelude.{length, ◌≡◌, ◌<◌, ℕ, zero, suc, Bool, true, false, ◌&&◌, ◌||◌, not, leb, ltb, ◌==◌, List, [], ◌∷◌, Option, Some, None, if◌then◌else◌}
use Rattle.page_model.specs.Pairs.{Pair, first_key, Span, spans}
use Rattle.page_model.specs.Nodes.{Format, Node}
use Rattle.page_model.specs.Tree.{IsTree}
use Rattle.page_model.specs.Records.{any}

abbrev pub all : {A : Type 0} → (A → Bool) → List A → Bool
all p [] = true
all p (x ∷ xs) = p x && all p xs

abbrev pub is_nil : {A : Type 0} → List A → Bool
is_nil [] = true
is_nil (x ∷ xs) = false

-- some number below n passes
abbrev pub some_below : ℕ → (ℕ → Bool) → Bool
some_below zero p = false
some_below (suc n) p = p n || some_below n p

-- the least number below n that fails
abbrev pub or_else : Option ℕ → Bool → ℕ → Option ℕ
or_else (Some q) b n = Some q
or_else None b n = if b then None else Some n

abbrev pub first_bad : ℕ → (ℕ → Bool) → Option ℕ
first_bad zero p = None
first_bad (suc n) p = or_else (first_bad n p) (p n) n

abbrev pub is_rising : ℕ → List Pair → ℕ → Bool
is_rising low [] high = leb low high
is_rising low (x ∷ xs) high = leb low x.key && is_rising (suc x.key) xs high

abbrev pub word_ok : Format → Node → Pair → Bool
word_ok f v x = if v.level == 0 then leb x.word f.dead else (ltb 0 x.word && ltb x.word f.pages)

abbrev pub is_node_ok : Format → Node → Bool
is_node_ok f v = leb (length v.pairs) f.room && (leb v.level f.levels && (is_rising v.low v.pairs v.high && (
    all (word_ok f v) v.pairs && ((v.level == 0) || (not (is_nil v.pairs) && (first_key v.pairs v.high == v.low))))))

abbrev pub is_free : Node → Bool
is_free v = not v.live && ((v.level == 0) && ((v.low == 0) && ((v.high == 0) && is_nil v.pairs)))

abbrev pub is_formed : Format → Node → Bool
is_formed f v = if v.live then is_node_ok f v else is_free v

abbrev pub is_child : Node → Node → Span → Bool
is_child v c s = c.live && ((suc c.level == v.level) && ((c.low == s.low) && (c.high == s.high)))

-- each child of v is one level below, between its fences
abbrev pub has_children : (ℕ → Node) → Node → Bool
has_children node v = if v.live && ltb 0 v.level then all (λ s. is_child v (node s.child) s) (spans v.pairs v.high) else true

abbrev pub names_page : Node → ℕ → Bool
names_page v p = (v.live && ltb 0 v.level) && any (λ s. s.child == p) (spans v.pairs v.high)

-- some page names p, if p is a node and not the root
abbrev pub is_named : Format → (ℕ → Node) → ℕ → Bool
is_named f node p = if (node p).live && not (p == 0) then some_below f.pages (λ q. names_page (node q) p) else true

abbrev pub is_root : Format → Node → ℕ → Bool
is_root f v p = if p == 0 then v.live && ((v.low == 0) && (v.high == f.top)) else true

abbrev pub page_ok : Format → (ℕ → Node) → ℕ → Bool
page_ok f node p = is_formed f (node p) && (is_root f (node p) p && (has_children node (node p) && is_named f node p))

-- the least page that breaks the rule
abbrev pub first_break : Format → (ℕ → Node) → Option ℕ
first_break f node = first_bad f.pages (page_ok f node)

pub record CheckLaws (f : Format) (node : ℕ → Node) : Type 0 where
  pub sound : 0 < f.pages → first_break f node ≡ None → IsTree f node
  pub complete : IsTree f node → first_break f node ≡ None
  pub least : (p : ℕ) → first_break f node ≡ Some p → (p < f.pages) × (page_ok f node p ≡ false) × ((q : ℕ) → q < p → page_ok f node q ≡ true)

abbrev pub EveryCheck : Type 0
EveryCheck = (f : Format) (node : ℕ → Node) → CheckLaws f node
