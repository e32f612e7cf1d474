-- What redo and undo made of the image that is in memory.
use Rattle.std.proofs.Common.{◌≡◌, ◌<◌, ◌≤◌, ◌⊎◌, ℕ, Bool, true, false, cond, ◌&&◌, not, List, [], ◌∷◌, length, get_or, Some, refl, sym, ◌∙◌, ap, subst, inl, inr, arith}
use Rattle.std.specs.BTreeSet.{BTreeSet}
use Rattle.map_model.specs.Lists.{Has, in_order}
use Rattle.page_model.specs.Page.{Page}
use Rattle.page_model.specs.Tree.{IsTree, entry}
use Rattle.page_model.specs.Redo.{is_some}
use Rattle.disk_image.specs.image_model.Entries as model
use Rattle.disk_image.specs.image_model.Entries.{Entry, earlier, is_write, written}
use Rattle.disk_image.specs.image_model.Ends as ends
use Rattle.disk_image.specs.image_model.Redo.{Redone, redo, stands, at_prev, all_pass}
use Rattle.disk_image.specs.image_model.Undo as undoing
use Rattle.disk_image.specs.image_model.Undo.{is_lost, undo_node}
use Rattle.disk_image.specs.image_model.Images.{Image, gathered, sorted, redone, lost, has_entry, recovered_page, won_by, lost_by, IsFalling, IsSound}
use Rattle.image_laws.proofs.OrderLemmas.{every_order}
use Rattle.disk_image.specs.Formats.{format_of}
use Rattle.node_tree.specs.Nodes.{nodes_of}
use Rattle.log_index.specs.Items.{Item}
use Rattle.record_redo.specs.Pages.{pages_of}
use Rattle.recovery_scan.specs.Records.{entry_of, entries_of}
use Rattle.recovery_scan.specs.Scans.{AreOfLogs}
use Rattle.recovery_redo.specs.Recoveries.{IsGreatest}
use Rattle.recovery_redo.specs.Inside as inside
use Rattle.recovery_redo.specs.Inside.{has, IsTop, AreEnded, IsRedone, IsUndone, TellsLost, IsAtop, SameNumbers}
use Rattle.recovery_redo.proofs.LogLemmas.{entry_at, log_at, At}
use Rattle.recovery_redo.proofs.PageLemmas.{node_at}
use Rattle.page_model.proofs.Same.{tree_same, entry_same}
use Rattle.recovery_redo.proofs.CountLemmas.{AreApart, redone_pages, redone_pass, counts_at}

-- the image in memory: its bases are the pages as they were
abbrev pub image_in : (log : ℕ → List Entry) → (logs floor : ℕ) → List Page → Image
image_in log logs floor pages = record { format = format_of (length pages); logs = logs; floor = floor; log = log; base = λ p. Some (pages_of pages p) }

-- ## Which records are lost

-- the records in order have the same ends
ended_in_order : (logs floor : ℕ) (z y : List Entry) (r : Entry) → z ≡ in_order earlier y → ends.ended (ends.reach logs floor z) z r ≡ ends.ended (ends.reach logs floor y) y r
ended_in_order logs floor z y r e =
    let o = every_order y in
    ap (λ (v : List Entry). ends.ended (ends.reach logs floor v) v r) e
    ∙ ap (λ n. ends.ended n (in_order earlier y) r) (o.reach logs floor)
    ∙ o.ended (ends.reach logs floor y) r

pub lost_from : (logs floor : ℕ) (z : List Entry) (sets : List (BTreeSet ℕ)) → AreEnded logs (ends.reach logs floor z) z sets → (y : List Entry) → z ≡ in_order earlier y → (d : Redone) (x : Item) (c : Bool) →
    0 < x.log → x.log ≤ logs → d.counts x.log x.said.gsn ≡ c → is_lost logs floor y d (entry_of x) ≡ inside.lost_by sets c x
lost_from logs floor z sets e y order d x c some most counts =
    let k : Bool = is_write (entry_of x).kind in
    ap (λ b. k && (d.counts x.log x.said.gsn && not b)) (sym (ended_in_order logs floor z y (entry_of x) order))
    ∙ ap (λ b. k && (b && not (ends.ended (ends.reach logs floor z) z (entry_of x)))) counts
    ∙ ap (λ b. k && (c && not b)) (sym (e.at x.log x.said.txn some most))

-- ## The base number

pub base_from : (floor : ℕ) (z : List Entry) (pages : List Page) (top n : ℕ) → IsTop floor z top → IsAtop top pages n → IsGreatest floor z pages n
base_from floor z pages top n t a = record {
  above_floor = (let l = a.low in let b = t.low in omega arith);
  above_entries = λ r h. (let l = a.low in let b = t.each r h in omega arith);
  above_pages = a.each;
  met = go a.met t.met;
}
  where
    go : (n ≡ top) ⊎ ((p : ℕ) × (p < length pages) × (n ≡ (pages_of pages p).gsn)) → (top ≡ floor) ⊎ ((r : Entry) × Has r z × (top ≡ r.number)) →
        (n ≡ floor) ⊎ (((r : Entry) × Has r z × (n ≡ r.number)) ⊎ ((p : ℕ) × (p < length pages) × (n ≡ (pages_of pages p).gsn)))
    go (inl e) (inl q) = inl (e ∙ q)
    go (inl e) (inr h) = inr (inl (h.0, h.1, e ∙ h.2))
    go (inr h) m = inr (inr h)

-- no number of a page goes above it
pub numbers_within : (page : ℕ → model.Contents) (n p : ℕ) → (page p).gsn ≤ n → (z : List Entry) → ((r : Entry) → Has r z → r.number ≤ n) → ((redo page z).page p).gsn ≤ n
numbers_within page n p low [] h = low
numbers_within page n p low (r ∷ z) h = go (stands (redo page z).page r && at_prev r p ((redo page z).page p)) (numbers_within page n p low z (λ s m. h s (inr m)))
  where
    go : (b : Bool) → ((redo page z).page p).gsn ≤ n → (cond b (written r p ((redo page z).page p)) ((redo page z).page p)).gsn ≤ n
    go true ih = h r (inl refl)
    go false ih = ih

-- so it is of pages that were redone, whatever disk they are of
pub redone_within : (floor top : ℕ) (old mid new : List Page) (items : List Item) (counted : List Bool) (n : ℕ) → IsRedone old mid items counted (length items) → length mid ≡ length old → length new ≡ length mid →
    SameNumbers mid new → IsTop floor (entries_of items) top → IsAtop top old n → (p : ℕ) → p < length new → (pages_of new p).gsn ≤ n
redone_within floor top old mid new items counted n all count more same t a p l =
    let b = base_from floor (entries_of items) old top n t a in
    let g = same.at p ∙ ap (λ (page : ℕ → model.Contents). (page p).gsn) (redone_pages old mid items counted all) in
    let w = numbers_within (pages_of old) n p (b.above_pages p (omega arith)) (entries_of items) b.above_entries in
    omega arith

-- ## The image

module _ (log : ℕ → List Entry) (logs floor : ℕ) (old mid : List Page) (items : List Item) (counted : List Bool) (of_logs : AreOfLogs logs items) (order : entries_of items ≡ in_order earlier (gathered log logs))
    (rising : (w : ℕ) → 0 < w → w ≤ logs → IsFalling (log w)) (apart : AreApart (entries_of items)) (all : IsRedone old mid items counted (length items)) where
  abbrev z : List Entry
  z = entries_of items

  abbrev j : Image
  j = image_in log logs floor old

  pub redone_is : redone j ≡ redo (pages_of old) z
  redone_is = ap (redo (pages_of old)) (sym order)

  pub won_is : length (ends.winners (ends.reach logs floor z) z) ≡ length (won_by j)
  won_is =
      let o = every_order (gathered log logs) in
      ap (λ (y : List Entry). length (ends.winners (ends.reach logs floor y) y)) order
      ∙ ap (λ n. length (ends.winners n (in_order earlier (gathered log logs)))) (o.reach logs floor)
      ∙ o.winners (ends.reach logs floor (gathered log logs))

  pub undone_is : length (ends.losers (ends.reach logs floor z) z) ≡ length (lost_by j)
  undone_is =
      let o = every_order (gathered log logs) in
      ap (λ (y : List Entry). length (ends.losers (ends.reach logs floor y) y)) order
      ∙ ap (λ n. length (ends.losers n (in_order earlier (gathered log logs)))) (o.reach logs floor)
      ∙ o.losers (ends.reach logs floor (gathered log logs))

  nodes_is : (p : ℕ) → nodes_of mid p ≡ undoing.nodes_of (redone j) p
  nodes_is p = sym (node_at mid p) ∙ ap (λ (page : ℕ → model.Contents). (page p).node) (redone_pages old mid items counted all) ∙ ap (λ (e : Redone). (e.page p).node) (sym redone_is)

  module _ (tree : IsTree (format_of (length mid)) (nodes_of mid)) (count : length mid ≡ length old) (ended : List (BTreeSet ℕ)) (ends_at : AreEnded logs (ends.reach logs floor z) z ended) where
    tree_is : IsTree (format_of (length old)) (undoing.nodes_of (redone j))
    tree_is = tree_same (format_of (length old)) (nodes_of mid) (undoing.nodes_of (redone j)) (subst (λ n. IsTree (format_of n) (nodes_of mid)) count tree) (λ p l. nodes_is p)

    has_is : (k : ℕ) → has mid k ≡ has_entry j k
    has_is k = ap (λ n. is_some (entry n (nodes_of mid) k)) count ∙ ap is_some (entry_same (length old) (nodes_of mid) (undoing.nodes_of (redone j)) k (λ p l. nodes_is p))

    lost_is : (k : ℕ) (x : Item) → k < length items → x ≡ get_or items k x → lost j (entry_of x) ≡ inside.lost_by ended (get_or counted k false) x
    lost_is k x l is =
        let w = log_at logs items of_logs k x l is in
        lost_from logs floor z ended ends_at (gathered log logs) order (redone j) x (get_or counted k false) w.0 w.1
        (ap (λ (e : Redone). e.counts x.log x.said.gsn) redone_is ∙ counts_at old mid items counted all apart k x l is)

    tells : TellsLost (lost j) items counted ended
    tells = record { at = lost_is }

    module _ (new : List Page) (undone : IsUndone mid new items counted ended 0) where
      pub recovered_is : (p : ℕ) → pages_of new p ≡ recovered_page j p
      recovered_is p =
          undone.pages (lost j) tells p
          ∙ ap (λ (page : ℕ → model.Contents). record (page p) { node = undo_node (lost j) z (page p).node }) (redone_pages old mid items counted all)
          ∙ ap (λ (y : List Entry). record ((redo (pages_of old) z).page p) { node = undo_node (lost j) y ((redo (pages_of old) z).page p).node }) order
          ∙ ap (λ (e : Redone). record (e.page p) { node = undo_node (lost j) (sorted j) (e.page p).node }) (sym redone_is)

      entered : (r : Entry) → lost j r ≡ true → At items r → has_entry j r.key ≡ true
      entered r h a =
          let gone : lost j (entry_of a.x) ≡ true = ap (lost j) (sym a.made) ∙ h in
          ap (λ (u : Entry). has_entry j u.key) a.made ∙ sym (has_is (entry_of a.x).key)
          ∙ undone.has_each a.k a.x (omega arith) a.within a.is (sym (lost_is a.k a.x a.within a.is) ∙ gone)

      pub sound_is : IsSound j
      sound_is = record {
        whole = λ p l. refl;
        rising = rising;
        done = ap (all_pass (format_of (length old)) (pages_of old)) (sym order) ∙ redone_pass old mid items counted all;
        tree = tree_is;
        entries = λ r m h. entered r h (entry_at items r (subst (λ (y : List Entry). Has r y) (sym order) m));
      }
