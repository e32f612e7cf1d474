-- A fresh page.
use Rattle.std.proofs.Common.{◌≡◌, ◌+◌, ◌-◌, ◌==◌, ◌^◌, ◌≤◌, ℕ, List, ◌++◌, length, replicate, arith, length-append, Bool, true, false, if◌then◌else◌}
use Rattle.std.proofs.lemmas.List.{length-replicate}
use Rattle.page_model.specs.Nodes.{free}
use Rattle.page_model.specs.Page.{Page, empty_leaf, new_page}
use Rattle.master_store.specs.btree_node.Words.{words_of}
use Rattle.lean_bytes.specs.Numbers.{words_bytes}
use Rattle.lean_bytes.specs.Seals.{seal_of}
use Rattle.lean_bytes.proofs.NumberLemmas.{length-words_bytes}
use Rattle.lean_bytes.proofs.SealLemmas.{length-seal_of}
use Rattle.master_store.specs.disk_slots.Masters.{master_slot, master_words}
use Rattle.master_store.specs.disk_slots.Pages.{page_slot}
use Rattle.master_store.specs.disk_slots.Slots.{slot_of}
use Rattle.disk_format.specs.Fresh.{first_master, first_slot, fresh_node, fresh_page}
use Rattle.disk_format.specs.declared.shape.Shape.{Shape}

length-words : (ws : List ℕ) → length ws ≡ 126 → length (words_bytes ws) ≡ 1008
length-words ws long = omega (arith, long, length-words_bytes ws)

length-slot_of : (tag ws : List ℕ) → length ws ≡ 126 → length (slot_of tag ws) ≡ 1024
unfolding slot_of
length-slot_of tag ws long = omega (arith, length-append (words_bytes ws) (seal_of tag (words_bytes ws)), length-words ws long, length-seal_of tag (words_bytes ws))

length-page_slot : (p : Page) → length (words_of p) ≡ 126 → length (page_slot p) ≡ 1024
unfolding page_slot
length-page_slot p long = length-slot_of _ (words_of p) long

fresh_words : (p : ℕ) (b : Bool) → length (words_of (new_page p (if b then empty_leaf 0 (2 ^ 64 - 1) else free))) ≡ 126
fresh_words p true = omega (arith, length-replicate {A = ℕ} 120 0)
fresh_words p false = omega (arith, length-replicate {A = ℕ} 120 0)

pub length-fresh_slot : (p : ℕ) → length (page_slot (new_page p (fresh_node p))) ≡ 1024
length-fresh_slot p = length-page_slot (new_page p (fresh_node p)) (fresh_words p (p == 0))

pub length-fresh_page : (p : ℕ) → length (fresh_page p) ≡ 2048
unfolding fresh_page
length-fresh_page p = omega (arith, length-append (page_slot (new_page p (fresh_node p))) (replicate 1024 0), length-fresh_slot p, length-replicate {A = ℕ} 1024 0)

pub length-first_slot : (shape : Shape) → shape.workers ≤ 16 → length (first_slot shape) ≡ 1024
unfolding master_slot
length-first_slot shape few =
    let m = first_master shape in
    let long : length m.heads ≡ shape.workers = length-replicate {A = ℕ} shape.workers 0 in
    let rest : length (replicate {A = ℕ} (119 - length m.heads) 0) ≡ 119 - length m.heads = length-replicate {A = ℕ} (119 - length m.heads) 0 in
    let both : length (m.heads ++ replicate {A = ℕ} (119 - length m.heads) 0) ≡ length m.heads + length (replicate {A = ℕ} (119 - length m.heads) 0) = length-append m.heads (replicate (119 - length m.heads) 0) in
    length-slot_of _ (master_words m) (omega (arith, both, rest, long))
