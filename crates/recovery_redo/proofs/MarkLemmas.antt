-- Why marks were set.
use Rattle.std.proofs.Common.{◌≡◌, ◌<◌, ◌≤◌, ◌⊎◌, ℕ, suc, Bool, true, false, cond, ◌&&◌, ◌||◌, leb, ltb, ◌==◌, List, [], ◌∷◌, ◌++◌, length, get_or, set, take, replicate, refl, sym, ◌∙◌, ap, subst, inl, inr, arith, true≢false}
use Rattle.std.proofs.lemmas.Bool.{cases_eq, or_left, or_right, or_cases}
use Rattle.std.proofs.lemmas.List.{get_or-set_other}
use Rattle.std.proofs.Math.Seq.{take-append_seam}
use Rattle.map_model.specs.Lists.{Has, any}
use Rattle.map_model.proofs.ListLemmas.{has_any}
use Rattle.page_model.specs.Page.{Page}
use Rattle.page_model.specs.Pairs.{put}
use Rattle.page_model.specs.Nodes.{Node, holds}
use Rattle.disk_image.specs.image_model.Entries as model
use Rattle.disk_image.specs.image_model.Entries.{Entry, touches}
use Rattle.disk_image.specs.image_model.Undo.{set_in}
use Rattle.node_tree.specs.Nodes.{nodes_of}
use Rattle.log_index.specs.Items.{Item}
use Rattle.record_redo.specs.Pages.{pages_of, MarksFor}
use Rattle.recovery_redo.specs.Recoveries.{is_meant}
use Rattle.recovery_scan.specs.Records.{entry_of, entries_of}
use Rattle.recovery_redo.specs.Inside.{set_back, is_named, is_leaf_of}
use Rattle.recovery_redo.proofs.LogLemmas.{entries_at, entries_all}
use Rattle.recovery_redo.proofs.PageLemmas.{node_at}
use Rattle.record_redo.proofs.PageLemmas.{marks_none, marks_both}

pub marks_set : (why : ℕ → Bool) (marks : List Bool) (i : ℕ) → why i ≡ true → MarksFor why marks (set marks i true)
marks_set why marks i here = record {
  at = λ p h. elim (cases_eq p i) [
    | inl e ↦ inr (ap why e ∙ here)
    | inr n ↦ inl (sym (get_or-set_other marks i p true false n) ∙ h)
  ];
}

any_to : (a b : Entry → Bool) → ((r : Entry) → a r ≡ true → b r ≡ true) → (z : List Entry) → any a z ≡ true → any b z ≡ true
any_to a b f [] h = absurd (true≢false (sym h))
any_to a b f (x ∷ xs) h = elim (or_cases (a x) (any a xs) h) [ inl e ↦ or_left (b x) (any b xs) (f x e) | inr e ↦ or_right (b x) (any b xs) (any_to a b f xs e) ]

-- ## Redo

-- one record more
pub named_more : (items : List Item) (k j : ℕ) (x d : Item) (was marks next : List Bool) → j ≡ suc k → k < length items → x ≡ get_or items k d →
    MarksFor (is_named (entries_of (take k items))) was marks → MarksFor (λ p. touches p (entry_of x)) marks next → MarksFor (is_named (entries_of (take j items))) was next
named_more items k j x d was marks next e l is one two =
    subst (λ (z : List Entry). MarksFor (is_named z) was next) (sym (entries_at items k j x d e l is))
    (marks_both (is_named (entries_of (take k items))) (λ p. touches p (entry_of x)) (is_named (entry_of x ∷ entries_of (take k items))) was marks next
    (λ p h. or_right (touches p (entry_of x)) (is_named (entries_of (take k items)) p) h) (λ p h. or_left (touches p (entry_of x)) (is_named (entries_of (take k items)) p) h) one two)

pub named_all : (items : List Item) (k : ℕ) (was marks : List Bool) → k ≡ length items → MarksFor (is_named (entries_of (take k items))) was marks → MarksFor (is_named (entries_of items)) was marks
named_all items k was marks e m = subst (λ (z : List Entry). MarksFor (is_named z) was marks) (ap (λ n. entries_of (take n items)) e ∙ entries_all items) m

-- ## Undo

holds_set : (b : Bool) (key w : ℕ) (v : Node) (k : ℕ) → holds (cond b (set_in key w v) v) k ≡ holds v k
holds_set false key w v k = refl
holds_set true key w v k = go (holds v key)
  where
    go : (b : Bool) → holds (cond b (record v { pairs = put key w v.pairs }) v) k ≡ holds v k
    go true = refl
    go false = refl

-- a word set back leaves the fences
pub holds_same : (pages next : List Page) (b : Bool) (key w : ℕ) → pages_of next ≡ set_back b key w (pages_of pages) → (p k : ℕ) → holds (nodes_of next p) k ≡ holds (nodes_of pages p) k
holds_same pages next b key w e p k =
    ap (λ (v : Node). holds v k) (sym (node_at next p))
    ∙ ap (λ (page : ℕ → model.Contents). holds (page p).node k) e
    ∙ holds_set b key w (pages_of pages p).node k
    ∙ ap (λ (v : Node). holds v k) (node_at pages p)

-- marks that were set for leaves of pages, as these stand later
pub leaves_later : (z : List Entry) (pages next : List Page) (was marks : List Bool) → ((p k : ℕ) → holds (nodes_of next p) k ≡ holds (nodes_of pages p) k) →
    MarksFor (is_leaf_of z (nodes_of pages)) was marks → MarksFor (is_leaf_of z (nodes_of next)) was marks
leaves_later z pages next was marks same m = marks_both (is_leaf_of z (nodes_of pages)) (is_leaf_of z (nodes_of pages)) (is_leaf_of z (nodes_of next)) was marks marks to to m (marks_none (is_leaf_of z (nodes_of pages)) marks)
  where
    to : (p : ℕ) → is_leaf_of z (nodes_of pages) p ≡ true → is_leaf_of z (nodes_of next) p ≡ true
    to p h = any_to (λ r. holds (nodes_of pages p) r.key) (λ r. holds (nodes_of next p) r.key) (λ r e. same p r.key ∙ e) z h

pub leaves_more : (z : List Entry) (r : Entry) (start now : List Page) (was marks next : List Bool) → Has r z → ((p k : ℕ) → holds (nodes_of now p) k ≡ holds (nodes_of start p) k) →
    MarksFor (is_leaf_of z (nodes_of start)) was marks → MarksFor (λ p. holds (nodes_of now p) r.key) marks next → MarksFor (is_leaf_of z (nodes_of start)) was next
leaves_more z r start now was marks next m same one two =
    marks_both (is_leaf_of z (nodes_of start)) (λ p. holds (nodes_of now p) r.key) (is_leaf_of z (nodes_of start)) was marks next (λ p h. h)
    (λ p h. has_any (λ (x : Entry). holds (nodes_of start p) x.key) z r m (sym (same p r.key) ∙ h)) one two

-- ## Both

get_replicate : (n p : ℕ) → get_or (replicate n false) p false ≡ true → ⊥
get_replicate Rattle.std.proofs.Common.zero p h = true≢false (sym h)
get_replicate (suc n) Rattle.std.proofs.Common.zero h = true≢false (sym h)
get_replicate (suc n) (suc p) h = get_replicate n p h

pub meant_from : (items : List Item) (pages : List Page) (n : ℕ) (marks more : List Bool) → MarksFor (is_named (entries_of items)) (replicate n false) marks → MarksFor (is_leaf_of (entries_of items) (nodes_of pages)) marks more →
    (p : ℕ) → get_or more p false ≡ true → is_meant items (nodes_of pages) p ≡ true
meant_from items pages n marks more one two p h = last (both.at p h)
  where
    both : MarksFor (is_meant items (nodes_of pages)) (replicate n false) more
    both = marks_both (is_named (entries_of items)) (is_leaf_of (entries_of items) (nodes_of pages)) (is_meant items (nodes_of pages)) (replicate n false) marks more
        (λ p h. any_to (λ r. touches p r) (λ r. touches p r || holds (nodes_of pages p) r.key) (λ r e. or_left (touches p r) (holds (nodes_of pages p) r.key) e) (entries_of items) h)
        (λ p h. any_to (λ r. holds (nodes_of pages p) r.key) (λ r. touches p r || holds (nodes_of pages p) r.key) (λ r e. or_right (touches p r) (holds (nodes_of pages p) r.key) e) (entries_of items) h)
        one two

    last : (get_or (replicate n false) p false ≡ true) ⊎ (is_meant items (nodes_of pages) p ≡ true) → is_meant items (nodes_of pages) p ≡ true
    last (inl e) = absurd (get_replicate n p e)
    last (inr e) = e

-- a row written over whole
pub written : {A : Type 0} (n : ℕ) (new rest : List A) → length new ≡ n → take n (new ++ rest) ≡ new
written {A} n new rest e = ap (λ k. take k (new ++ rest)) (sym e) ∙ take-append_seam new rest
