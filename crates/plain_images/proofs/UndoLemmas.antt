-- The lost, and their words set back, as the definitions have them.
use Rattle.std.proofs.Common.{◌≡◌, ℕ, Bool, true, false, cond, ◌&&◌, not, ◌==◌, List, [], ◌∷◌, refl, sym, ◌∙◌, ap}
use mathlib.Core.Path.{fun_ext}
use Rattle.map_model.specs.Lists.{upd, in_order}
use Rattle.image_model.specs.Entries.{Entry, Contents, earlier, is_write}
use Rattle.image_model.specs.Ends as ends
use Rattle.image_model.specs.Redo.{Redone, redo}
use Rattle.image_model.specs.Images.{Image, found, sorted, bases, redone, lost, recovered, recovered_page}
use Rattle.image_model.specs.Undo.{is_lost, undo, undo_one, undo_node, values}
use Rattle.page_model.specs.Nodes.{Node}
use Rattle.plain_images.specs.Undo.{is_lost_by, word_undone}
use Rattle.plain_images.proofs.OrderLemmas.{any_in_order, reach_in_order}

pub word_of_undo : (lost : Entry → Bool) (z : List Entry) (m : ℕ → ℕ) (k : ℕ) → undo lost z m k ≡ word_undone lost z k (m k)
word_of_undo lost [] m k = refl
word_of_undo lost (r ∷ z) m k = word_of_undo lost z (undo_one lost m r) k ∙ ap (word_undone lost z k) (go (lost r))
  where
    go : (b : Bool) → (cond b (upd m r.key r.before) m) k ≡ cond (b && (k == r.key)) r.before (m k)
    go true = refl
    go false = refl

-- the lost by the sorted records are the lost by the logs
pub lost_same : (logs floor : ℕ) (z : List Entry) (d : Redone) → is_lost_by (ends.reach logs floor (in_order earlier z)) (in_order earlier z) d.counts ≡ is_lost logs floor z d
lost_same logs floor z d = fun_ext (λ r.
    ap (λ b. is_write r.kind && (d.counts r.log r.number && not b)) (any_in_order (ends.ends (ends.reach logs floor (in_order earlier z)) r) z)
    ∙ ap (λ n. is_write r.kind && (d.counts r.log r.number && not (ends.ended n z r))) (reach_in_order logs floor z))

pub recovered_is : (i : Image) (z : List Entry) (far : ℕ) (d : Redone) (k : ℕ) → z ≡ sorted i → far ≡ ends.reach i.logs i.floor z → d ≡ redo (bases i) z →
    word_undone (is_lost_by far z d.counts) z k (values i.format d k) ≡ recovered i k
recovered_is i z far d k ez ef ed =
    ap (λ n. word_undone (is_lost_by n z d.counts) z k (values i.format d k)) ef
    ∙ ap (λ (t : Redone). word_undone (is_lost_by (ends.reach i.logs i.floor z) z t.counts) z k (values i.format t k)) ed
    ∙ ap (λ (y : List Entry). word_undone (is_lost_by (ends.reach i.logs i.floor y) y (redo (bases i) y).counts) y k (values i.format (redo (bases i) y) k)) ez
    ∙ ap (λ (l : Entry → Bool). word_undone l (sorted i) k (values i.format (redone i) k)) (lost_same i.logs i.floor (found i) (redone i))
    ∙ sym (word_of_undo (lost i) (sorted i) (values i.format (redone i)) k)

abbrev undone_page : (Entry → Bool) → List Entry → Contents → Contents
undone_page l z v = record v { node = undo_node l z v.node }

pub page_is : (i : Image) (z : List Entry) (far : ℕ) (d : Redone) (p : ℕ) → z ≡ sorted i → far ≡ ends.reach i.logs i.floor z → d ≡ redo (bases i) z →
    undone_page (is_lost_by far z d.counts) z (d.page p) ≡ recovered_page i p
page_is i z far d p ez ef ed =
    ap (λ n. undone_page (is_lost_by n z d.counts) z (d.page p)) ef
    ∙ ap (λ (t : Redone). undone_page (is_lost_by (ends.reach i.logs i.floor z) z t.counts) z (t.page p)) ed
    ∙ ap (λ (y : List Entry). undone_page (is_lost_by (ends.reach i.logs i.floor y) y (redo (bases i) y).counts) y ((redo (bases i) y).page p)) ez
    ∙ ap (λ (l : Entry → Bool). undone_page l (sorted i) ((redone i).page p)) (lost_same i.logs i.floor (found i) (redone i))

-- a page made of its parts
pub page_made : (l : Entry → Bool) (z : List Entry) (v was out : Contents) → was ≡ v → out.gsn ≡ was.gsn → out.last ≡ was.last → out.node ≡ undo_node l z was.node → out ≡ undone_page l z v
page_made l z v was out e g a n =
    ap (λ (x : ℕ). record { gsn = x; last = out.last; node = out.node }) g
    ∙ ap (λ (x : ℕ). record { gsn = was.gsn; last = x; node = out.node }) a
    ∙ ap (λ (x : Node). record { gsn = was.gsn; last = was.last; node = x }) n
    ∙ ap (undone_page l z) e
