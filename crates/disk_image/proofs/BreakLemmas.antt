-- A place that breaks a rule stands on no sound disk.
use Rattle.std.proofs.Common.{◌≡◌, ◌<◌, ℕ, suc, true, List, [], ◌∷◌, ◌++◌, Some, sym, ap, subst, ◌∙◌, inl, inr, arith, true≢false}
use Rattle.std.proofs.lemmas.Bool.{and_parts}
use Rattle.map_model.specs.Lists.{Has}
use Rattle.page_model.specs.Nodes.{Format}
use Rattle.page_model.specs.Check.{page_ok}
use Rattle.page_model.proofs.Check.{none_bad, every_check}
use Rattle.image_model.specs.Entries.{Entry, Contents}
use Rattle.image_model.specs.Redo.{redo, passes, all_pass}
use Rattle.image_model.specs.Undo.{nodes_of}
use Rattle.image_model.specs.Images.{bases, redone, has_base, IsFalling}
use Rattle.disk_slots.specs.declared.master.Master.{Master}
use Rattle.log_record.specs.declared.record.Record.{Record}
use Rattle.disk_image.specs.Blocks.{block_in}
use Rattle.disk_image.specs.Runs.{Block, Logged, entries_in, AreReadable}
use Rattle.disk_image.specs.Shown.{Areas, run_of, image_by, IsSoundDisk}
use Rattle.disk_image.specs.Breaks.{HasNoBase, IsNoBlock, IsUnordered, IsUndoable, BreaksTree, HasNoEntry, BreaksLog, Breaks}
use Rattle.disk_image.specs.Laws.{EveryBreak}
use Rattle.disk_image.proofs.TestLemmas.{none_some}

-- a block of a readable run is the block of some records
pub readable_at : (generation log : ℕ) (bs : List Block) → AreReadable generation log bs → (b : Block) → Has b bs → (records : List Record) × (block_in generation log b.number b.bytes ≡ Some records)
readable_at generation log [] a b m = absurd m
readable_at generation log (c ∷ cs) a b (inl e) = (a.0.0, ap (λ (x : Block). block_in generation log x.number x.bytes) e ∙ a.0.1)
readable_at generation log (c ∷ cs) a b (inr m) = readable_at generation log cs a.1 b m

-- numbers rise: what stands behind a record is below it
falling_at : (newer : List Logged) (it : Logged) (older : List Logged) → IsFalling (entries_in (newer ++ it ∷ older)) → (x : Entry) → Has x (entries_in older) → x.number < it.entry.number
falling_at [] it older f x m = f.1 x m
falling_at (y ∷ ys) it older f x m = falling_at ys it older f.0 x m

-- each record passes at its turn
passes_at : (f : Format) (page : ℕ → Contents) (newer : List Entry) (r : Entry) (older : List Entry) → all_pass f page (newer ++ r ∷ older) ≡ true → passes f (redo page older).page r ≡ true
passes_at f page [] r older h = (and_parts (all_pass f page older) (passes f (redo page older).page r) h).1
passes_at f page (y ∷ ys) r older h = passes_at f page ys r older (and_parts (all_pass f page (ys ++ r ∷ older)) (passes f (redo page (ys ++ r ∷ older)).page y) h).0

module _ (m : Master) (area : Areas) (s : IsSoundDisk m area) where
  no_base : (p : ℕ) → HasNoBase m area p → ⊥
  no_base p b = true≢false (sym (s.sound.whole p b.page) ∙ ap has_base b.none)

  no_tree : (p : ℕ) → BreaksTree m area p → ⊥
  no_tree p b =
      let f = (image_by m area).format in
      let node = nodes_of (redone (image_by m area)) in
      true≢false (sym (none_bad f.pages (page_ok f node) ((every_check f node).complete s.sound.tree) p b.page) ∙ b.fails)

  no_block : (w place : ℕ) → IsNoBlock m area w place → ⊥
  no_block w place b =
      let r = readable_at m.generation w (run_of m w (area (suc w))) (s.readable w b.log.0 b.log.1) b.block b.has in
      none_some r.0 (sym b.none ∙ r.1)

  no_order : (w place : ℕ) → IsUnordered m area w place → ⊥
  no_order w place b =
      let falls : IsFalling (entries_in (b.newer ++ b.it ∷ b.older)) = falling b.splits (s.sound.rising w b.log.0 b.log.1) in
      let below = falling_at b.newer b.it b.older falls b.other b.has in
      let above = b.above in
      omega arith
    where
      falling : {xs ys : List Logged} → xs ≡ ys → IsFalling (entries_in xs) → IsFalling (entries_in ys)
      falling e f = subst (λ (zs : List Logged). IsFalling (entries_in zs)) e f

  no_redo : (w place : ℕ) → IsUndoable m area w place → ⊥
  no_redo w place b =
      let i = image_by m area in
      true≢false (sym (passes_at i.format (bases i) b.newer b.r b.older (ap (all_pass i.format (bases i)) (sym b.splits) ∙ s.sound.done)) ∙ b.fails)

  no_entry : (w place : ℕ) → HasNoEntry m area w place → ⊥
  no_entry w place b = true≢false (sym (s.sound.entries b.r b.has b.is_lost) ∙ b.none)

  no_log : (w place : ℕ) → BreaksLog m area w place → ⊥
  no_log w place (inl b) = no_block w place b
  no_log w place (inr (inl b)) = no_order w place b
  no_log w place (inr (inr (inl b))) = no_redo w place b
  no_log w place (inr (inr (inr b))) = no_entry w place b

  no_break : (a place : ℕ) → Breaks m area a place → ⊥
  no_break a place (inl (e, inl b)) = no_base place b
  no_break a place (inl (e, inr b)) = no_tree place b
  no_break a place (inr (w, e, b)) = no_log w place b

pub every_break : EveryBreak
every_break m area a place b s = no_break m area s a place b
