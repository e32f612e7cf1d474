-- The pages that recovery gives stand for the map of the disk.
use Rattle.std.proofs.Common.{◌≡◌, ⊎_elim, ◌≤◌, ◌<◌, ℕ, List, length, get_or, Some, None, slice_get, refl, sym, ◌∙◌, ap, subst, arith}
use Rattle.std.proofs.lemmas.Option.{slice_get_cases}
use Rattle.map_model.specs.Maps.{key_end}
use Rattle.page_model.specs.Page.{Page}
use Rattle.page_model.specs.Nodes.{Node}
use Rattle.page_model.specs.Pairs.{Pair}
use Rattle.page_model.specs.Tree.{IsTree, value, value_of}
use Rattle.page_model.proofs.Same.{entry_same}
use Rattle.buffered_engine.specs.image_model.Entries.{Contents}
use Rattle.buffered_engine.specs.image_model.Images.{Image, map_of, recovered_page}
use Rattle.buffered_engine.specs.image_model.Laws.{EveryUndone, UndoneLaws}
use Rattle.buffered_engine.proofs.image_model.WordLemmas.{words}
use Rattle.lean_disk.specs.Story.{Story, areas_of}
use Rattle.buffered_engine.specs.disk_slots.declared.master.Master.{Master}
use Rattle.buffered_engine.specs.disk_image.Formats.{format_of}
use Rattle.buffered_engine.specs.disk_image.Shown.{Areas, image_by}
use Rattle.node_tree.specs.Nodes.{node_or, nodes_of}
use Rattle.pair_walk.specs.Laws.{ListingLaws}
use Rattle.pair_walk.specs.Listings.{ArePairsOf, Lists}
use Rattle.buffered_engine.specs.recovery.Masters.{IsOpenable}
use Rattle.buffered_engine.specs.recovery.Opened.{IsRecovered, IsWhole}
use Rattle.buffered_engine.specs.recovery.Own.{EveryOwn}
use Rattle.buffered_engine.specs.recovery.declared.opening.Recovered.{Recovered}
use Rattle.lean_shell.specs.Dumps.{AreOfDisk}
use Rattle.lean_shell.specs.Inside.Puts.{counts_of}

pub whole_tree : (r : Recovered) → IsWhole r → IsTree (format_of (length r.pages.items)) (nodes_of r.pages.items)
whole_tree r whole = subst (λ (n : ℕ). IsTree (format_of n) (nodes_of r.pages.items)) (sym whole.count) whole.tree

module _ (undone : EveryUndone) (every_own : EveryOwn) (m : Master) (area : Areas) (r : Recovered) (is : IsRecovered m area r) where
  abbrev i : Image
  i = image_by m area

  abbrev there : ℕ → Node
  there p = (recovered_page i p).node

  -- each page is there
  at : (p : ℕ) → p < m.pages → (v : Page) × (slice_get r.pages.items p ≡ Some v)
  at p lt = ⊎_elim (λ (q : (x : Page) × (p < length r.pages.items) × (slice_get r.pages.items p ≡ Some x) × (get_or r.pages.items p x ≡ x)). (q.0, q.2))
      (λ (q : (length r.pages.items ≤ p) × (slice_get r.pages.items p ≡ None)). absurd (let e = is.count in let low = q.0 in omega arith))
      (slice_get_cases r.pages.items p).1

  node_is : (p : ℕ) → p < m.pages → nodes_of r.pages.items p ≡ there p
  node_is p lt = let v = at p lt in ap node_or v.1 ∙ ap (λ (c : Contents). c.node) (is.page p v.0 v.1).is

  laws : UndoneLaws i
  laws = undone i is.sound.sound (words i is.sound.sound (λ w low high e h. (every_own m area w e h).log) (λ w low high e h. (every_own m area w e h).before))

  map_is : (k : ℕ) → value (format_of (length r.pages.items)) (nodes_of r.pages.items) k ≡ map_of i k
  map_is k =
      ap (λ (n : ℕ). value (format_of n) (nodes_of r.pages.items) k) is.count
      ∙ (ap (value_of (format_of m.pages)) (entry_same m.pages (nodes_of r.pages.items) there k node_is) ∙ laws.values k)

  pub pairs_are : IsWhole r → ListingLaws → (ps : List Pair) → Lists (value (format_of (length r.pages.items)) (nodes_of r.pages.items)) 0 key_end ps → ArePairsOf (map_of i) ps
  pairs_are whole listing ps lists =
      let all = listing.whole (format_of (length r.pages.items)) (nodes_of r.pages.items) ps refl (whole_tree r whole) lists in
      record { rising = all.rising; all = λ k. all.all k ∙ map_is k }

pub of_disk : EveryUndone → EveryOwn → ListingLaws → (s : Story) (r : Recovered) → IsWhole r → (q : (m : Master) × IsOpenable 16 m × IsRecovered m (areas_of s) r)
    → (ps : List Pair) → Lists (value (format_of (length r.pages.items)) (nodes_of r.pages.items)) 0 key_end ps → AreOfDisk s (counts_of r) ps
of_disk undone every_own listing s r whole q ps lists = let is : IsRecovered q.0 (areas_of s) r = q.2 in record {
  m = q.0;
  openable = q.1;
  sound = is.sound;
  generation = ap (λ (x : Master). x.generation) is.master;
  won = is.won;
  lost = is.lost;
  are = pairs_are undone every_own q.0 (areas_of s) r is whole listing ps lists;
}
