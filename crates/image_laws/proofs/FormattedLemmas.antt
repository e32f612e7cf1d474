-- A formatted image is clean and stands for the empty map.
use Rattle.std.proofs.Common.{◌≡◌, ◌<◌, ◌≤◌, ℕ, zero, suc, Bool, true, false, cond, ◌==◌, ltb, List, [], ◌++◌, Option, Some, None, refl, sym, ◌∙◌, ap, subst, inl, inr, arith, true≢false}
use Rattle.std.proofs.lemmas.Bool.{cases_eq, cases_lt, ne_eqb, le-ltb, cond-false}
use mathlib.Core.Path.{fun_ext}
use Rattle.map_model.specs.Lists.{Has, in_order}
use Rattle.page_model.specs.Pairs.{find}
use Rattle.page_model.specs.Nodes.{Format, Node, free, WellFormed, holds}
use Rattle.page_model.specs.Tree.{Names, IsTree, entry, value_of, word_or}
use Rattle.image_model.specs.Entries.{Entry, Contents, earlier}
use Rattle.image_model.specs.Undo.{nodes_of}
use Rattle.image_model.specs.Images.{Image, gathered, found, sorted, bases, redone, page_or, has_base, map_of, recovered, IsFalling, IsSound, lost}
use Rattle.image_model.specs.Redo.{redo, all_pass}
use Rattle.image_model.specs.Ends.{reach, winners}
use Rattle.image_model.specs.Slots.{Shown, image_of}
use Rattle.image_laws.specs.Formatted.{formatted_node, IsFormatted, FormattedLaws, EveryFormatted}

abbrev root_leaf : Format → Node
root_leaf f = record { live = true; level = 0; low = 0; high = f.top; pairs = [] }

-- ## The tree

-- what holds of the two kinds of page holds of each
each : (f : Format) (P : Node → Type 0) (p : ℕ) → P (root_leaf f) → P free → P (formatted_node f p)
each f P p a b = go (p == 0)
  where
    go : (b' : Bool) → P (cond b' (root_leaf f) free)
    go true = a
    go false = b

tree : (f : Format) → 0 < f.pages → IsTree f (formatted_node f)
tree f some = record {
  some = some;
  root = (refl, refl, refl);
  formed = λ p l. each f (WellFormed f) p
      (record {
        node = λ v. record {
          sized = omega arith;
          tall = omega arith;
          rising = omega arith;
          values = λ z x h. absurd h;
          children = λ z x h. absurd h;
          first = λ z. absurd (omega arith);
        };
        other = λ v. absurd (true≢false v);
      })
      (record { node = λ v. absurd (true≢false (sym v)); other = λ v. refl });
  down = λ q l s m. absurd (each f (λ (v : Node). Names v s → ⊥) q (λ n. (let a = n.inner in omega arith)) (λ n. true≢false (sym n.live)) m);
  up = λ p l v n. absurd (n (is_root p v));
}
  where
    is_root : (p : ℕ) → (formatted_node f p).live ≡ true → p ≡ 0
    is_root p v = elim (cases_eq p 0) [
      | inl e ↦ e
      | inr ne ↦ absurd (true≢false (sym v ∙ ap (λ b. (cond b (root_leaf f) free).live) (ne_eqb p 0 ne)))
    ]

no_entry : (f : Format) (n k : ℕ) → entry n (formatted_node f) k ≡ None
no_entry f zero k = refl
no_entry f (suc n) k = go (holds (formatted_node f n) k) (each f (λ (v : Node). find k v.pairs ≡ None) n refl refl) (no_entry f n k)
  where
    go : (b : Bool) → find k (formatted_node f n).pairs ≡ None → entry n (formatted_node f) k ≡ None → cond b (find k (formatted_node f n).pairs) (entry n (formatted_node f) k) ≡ None
    go true a ih = a
    go false a ih = ih

-- ## The image

no_records : (log : ℕ → List Entry) (n : ℕ) → ((w : ℕ) → 0 < w → w ≤ n → log w ≡ []) → gathered log n ≡ []
no_records log zero h = refl
no_records log (suc n) h = ap (λ (z : List Entry). z ++ gathered log n) (h (suc n) (omega arith) (omega arith)) ∙ no_records log n (λ w a b. h w a (omega arith))

module _ (s : Shown) (some : 0 < s.format.pages) (is : IsFormatted s) where
  abbrev i : Image
  i = image_of s

  nothing : found i ≡ []
  nothing = no_records s.log s.logs is.logs

  sorted_none : sorted i ≡ []
  sorted_none = ap (in_order earlier) nothing

  node_at : (p : ℕ) → (bases i p).node ≡ formatted_node s.format p
  node_at p = elim (cases_lt p s.format.pages) [
    | inl l ↦ ap (λ (o : Option Contents). (page_or o).node) (is.pages p l)
    | inr g ↦ ap (λ (o : Option Contents). (page_or o).node) (is.beyond p g) ∙ sym (ap (λ b. cond b (root_leaf s.format) free) (ne_eqb p 0 (λ e. (let a = some in let b = g in let c = e in omega arith))))
  ]

  nodes : nodes_of (redone i) ≡ formatted_node s.format
  nodes = ap (λ (z : List Entry). nodes_of (redo (bases i) z)) sorted_none ∙ fun_ext node_at

  sound : IsSound i
  sound = record {
    whole = λ p l. ap has_base (is.pages p l);
    rising = λ w a b. subst IsFalling (sym (is.logs w a b)) tt;
    done = ap (all_pass i.format (bases i)) sorted_none;
    tree = subst (λ (n : ℕ → Node). IsTree s.format n) (sym nodes) (tree s.format some);
    entries = λ r h. absurd (subst (λ (z : List Entry). Has r z) sorted_none h);
  }

  dead : value_of s.format (Some s.format.dead) ≡ None
  dead = cond-false (ltb s.format.dead s.format.dead) (Some s.format.dead) None (le-ltb s.format.dead s.format.dead (omega arith))

  empty : (k : ℕ) → map_of i k ≡ None
  empty k = ap (λ n. value_of s.format (Some n)) word ∙ dead
    where
      word : recovered i k ≡ s.format.dead
      word = ap (λ (z : List Entry). Rattle.image_model.specs.Undo.undo (lost i) z (Rattle.image_model.specs.Undo.values s.format (redone i)) k) sorted_none
          ∙ (ap (λ (n : ℕ → Node). word_or s.format.dead (entry s.format.pages n k)) nodes
          ∙ ap (word_or s.format.dead) (no_entry s.format s.format.pages k))

  laws : FormattedLaws s
  laws = record {
    clean = record {
      sound = sound;
      blocks = λ w g a b h. absurd (subst (λ (z : List ℕ). Has g z) (is.sealed w a b) h);
      slots = λ p j x l m e late. (let a = is.slots p j x l m e in let b = late in absurd (omega arith));
    };
    stands = record {
      sound = sound;
      map = λ k. sym (empty k);
      won = sym (ap (λ (z : List Entry). winners (reach i.logs i.floor z) z) nothing);
    };
  }

pub every_formatted : EveryFormatted
every_formatted s some is = laws s some is
