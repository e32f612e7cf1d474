-- Images that agree up to the number of logs and the number of pages stand for the same.
use Rattle.std.proofs.Common.{◌≡◌, ◌<◌, ◌≤◌, ℕ, zero, suc, Bool, ◌&&◌, not, List, ◌++◌, Option, Some, refl, sym, ap, ◌∙◌, subst, arith}
use mathlib.Core.Path.{fun_ext}
use Rattle.map_model.specs.Lists.{Has, in_order}
use Rattle.page_model.specs.Nodes.{Format}
use Rattle.page_model.specs.Tree.{entry, value_of, word_or}
use Rattle.page_model.specs.Redo.{is_some}
use Rattle.image_model.specs.Entries.{Entry, Contents, is_write, earlier}
use Rattle.image_model.specs.Ends.{reach, ended, winners, losers}
use Rattle.image_model.specs.Redo.{redo, all_pass}
use Rattle.image_model.specs.Undo.{undo, undo_node, nodes_of, values}
use Rattle.image_model.specs.Images.{Image, gathered, found, sorted, has_base, page_or, bases, redone, lost, recovered, IsFalling, IsSound}
use Rattle.disk_image.specs.Laws.{Agree, Agreement, EveryAgreement}
use Rattle.page_model.proofs.Same.{entry_same, tree_same}
use Rattle.image_model.proofs.SameLemmas.{SameRedone, redo_same, pass_same}

-- ## Logs

gathered_same : (log other : ℕ → List Entry) (n : ℕ) → ((w : ℕ) → 0 < w → w ≤ n → log w ≡ other w) → gathered log n ≡ gathered other n
gathered_same log other zero h = refl
gathered_same log other (suc n) h =
    ap (λ (z : List Entry). z ++ gathered log n) (h (suc n) (omega arith) (omega arith))
    ∙ ap (λ (z : List Entry). other (suc n) ++ z) (gathered_same log other n (λ w s l. h w s (omega arith)))

-- ## Two images with one format, as many logs and one floor

module _ (i : Image) (log : ℕ → List Entry) (base : ℕ → Option Contents) (same_log : (w : ℕ) → 0 < w → w ≤ i.logs → i.log w ≡ log w)
    (same_base : (p : ℕ) → p < i.format.pages → i.base p ≡ base p) (s : IsSound i) where
  abbrev j : Image
  j = record { format = i.format; logs = i.logs; floor = i.floor; log = log; base = base }

  found_same : found i ≡ found j
  found_same = gathered_same i.log log i.logs same_log

  sorted_same : sorted i ≡ sorted j
  sorted_same = ap (in_order earlier) found_same

  bases_same : (p : ℕ) → p < i.format.pages → bases i p ≡ bases j p
  bases_same p l = ap page_or (same_base p l)

  redone_same : SameRedone i.format (redone i) (redone j)
  redone_same = subst (λ (z : List Entry). SameRedone i.format (redone i) (redo (bases j) z)) sorted_same (redo_same i.format (bases i) (bases j) bases_same (sorted i) s.done)

  nodes_same : (p : ℕ) → p < i.format.pages → nodes_of (redone i) p ≡ nodes_of (redone j) p
  nodes_same p l = ap (λ (v : Contents). v.node) (redone_same.page p l)

  -- of what redo left, only which records counted is asked
  abbrev lost_in : List Entry → (ℕ → ℕ → Bool) → Entry → Bool
  lost_in z counts r = is_write r.kind && (counts r.log r.number && not (ended (reach i.logs i.floor z) z r))

  lost_same : lost i ≡ lost j
  lost_same = ap (λ (z : List Entry). lost_in z (redone i).counts) found_same ∙ ap (lost_in (found j)) redone_same.counts

  entries_same : (k : ℕ) → entry i.format.pages (nodes_of (redone i)) k ≡ entry i.format.pages (nodes_of (redone j)) k
  entries_same k = entry_same i.format.pages (nodes_of (redone i)) (nodes_of (redone j)) k nodes_same

  values_same : values i.format (redone i) ≡ values i.format (redone j)
  values_same = fun_ext (λ k. ap (word_or i.format.dead) (entries_same k))

  recovered_same : (k : ℕ) → recovered i k ≡ recovered j k
  recovered_same k =
      ap (λ (l : Entry → Bool). undo l (sorted i) (values i.format (redone i)) k) lost_same
      ∙ ap (λ (z : List Entry). undo (lost j) z (values i.format (redone i)) k) sorted_same
      ∙ ap (λ (m : ℕ → ℕ). undo (lost j) (sorted j) m k) values_same

  sound_same : IsSound j
  sound_same = record {
    whole = λ p l. ap has_base (sym (same_base p l)) ∙ s.whole p l;
    rising = λ w o l. subst IsFalling (same_log w o l) (s.rising w o l);
    done = ap (all_pass i.format (bases j)) (sym sorted_same) ∙ pass_same i.format (bases i) (bases j) bases_same (sorted i) s.done;
    tree = tree_same i.format (nodes_of (redone i)) (nodes_of (redone j)) s.tree nodes_same;
    entries = λ r m l. ap is_some (sym (entries_same r.key))
        ∙ s.entries r (subst (λ (z : List Entry). Has r z) (sym sorted_same) m) (ap (λ (t : Entry → Bool). t r) lost_same ∙ l);
  }

  agreement : Agreement i j
  agreement = record {
    sound = sound_same;
    map = λ k. ap (λ w. value_of i.format (Some w)) (sym (recovered_same k));
    won = ap (λ (z : List Entry). winners (reach i.logs i.floor z) z) (sym found_same);
    lost = ap (λ (z : List Entry). losers (reach i.logs i.floor z) z) (sym found_same);
    recovered = λ p l. sym (
        ap (λ (t : Entry → Bool). record ((redone i).page p) { node = undo_node t (sorted i) ((redone i).page p).node }) lost_same
        ∙ ap (λ (z : List Entry). record ((redone i).page p) { node = undo_node (lost j) z ((redone i).page p).node }) sorted_same
        ∙ ap (λ (v : Contents). record v { node = undo_node (lost j) (sorted j) v.node }) (redone_same.page p l));
  }

-- with the first one's format, number of logs and floor it is the same image
mended : (i j : Image) → Agree i j → ◌≡◌ {A = Image} (record { format = i.format; logs = i.logs; floor = i.floor; log = j.log; base = j.base }) j
mended i j a =
    ap (λ (f : Format). record { format = f; logs = i.logs; floor = i.floor; log = j.log; base = j.base }) a.format
    ∙ ap (λ n. record { format = j.format; logs = n; floor = i.floor; log = j.log; base = j.base }) a.logs
    ∙ ap (λ n. record { format = j.format; logs = j.logs; floor = n; log = j.log; base = j.base }) a.floor

pub every_agreement : EveryAgreement
every_agreement i j a s = subst (Agreement i) (mended i j a) (agreement i j.log j.base a.log a.base s)
