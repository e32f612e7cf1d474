-- What a crash leaves of the blocks of a ring: a prefix of them, with those that are synced.
use Rattle.std.proofs.Common.{◌≡◌, ⊎_elim, ℕ, ◌+◌, ◌*◌, ◌%◌, ◌^◌, ◌≤◌, ◌<◌, true, List, length, get_or, take, sym, ◌∙◌, ap, subst, arith}
use Rattle.std.proofs.lemmas.List.{length-take}
use Rattle.std.proofs.Math.Nat.{mod-lt}
use Rattle.map_model.specs.Lists.{Has}
use Rattle.disk_image.specs.image_model.Fair.{piece, IsFair}
use Rattle.disk_image.proofs.image_model.FairLemmas.{IsOfOne, narrow}
use Rattle.lean_disk.specs.Area.{Area, Write, IsApart}
use Rattle.disk_image.specs.log_record.declared.record.Record.{Record}
use Rattle.disk_image.specs.log_block.Block.{Belongs, IsSealed, block_of}
use Rattle.disk_image.specs.Blocks.{belongs}
use Rattle.disk_image.specs.Runs.{Block, block_at, HasNone}
use Rattle.disk_image.proofs.BlockInLemmas.{every_belongs}
use Rattle.worker_log.specs.Accounts.{spelled_from}
use Rattle.worker_log.specs.Kept.{AllFitBlocks, AreLate, HoldsBlocks, IsBlockWrite, IsOwnWrite, IsPassed, write_of}
use Rattle.worker_log.proofs.ListLemmas.{spelled-number, spelled-at, spelled-take, spelled-belongs}
use Rattle.worker_log.proofs.RingLemmas.{same_piece, piece_within, block_apart}
use Rattle.worker_log.proofs.PrefixLemmas.{Prefix, found, prefix}

-- ## A synced block

module _ (g s n h : ℕ) (first : List ℕ) (older : List Write) (written : List (List Record)) (synced : ℕ) (area : Area) (fg : g < 2 ^ 64) (fs : s < 2 ^ 64) (fh : h + n ≤ 2 ^ 64)
    (le : synced ≤ length written) (few : length written ≤ n) (fit : AllFitBlocks written) (holds : HoldsBlocks g s n h first older written synced area) where
  pub written_belongs : (b : Block) → Has b (spelled_from g s h written) → belongs g s b.number b.bytes ≡ true
  written_belongs b has = spelled-belongs g s fg fs h written (omega (arith, few, fh)) fit b has

  pub written_within : (b : Block) → Has b (spelled_from g s h written) → 2048 * (b.number % n) + 2048 ≤ length area.bytes
  written_within b has = piece_within (b.number % n) area.bytes (ap length (holds.reads b has) ∙ ((every_belongs g s b.number b.bytes).0 (written_belongs b has)).sealed.whole)

  -- it stands in what a crash leaves
  pub synced_stands : (c : List ℕ) (high : ℕ) (ranges : List (ℕ × ℕ)) → AreLate n (h + synced) high ranges → high ≤ h + n → area.end ≤ length c
      → ((j : ℕ) → j < area.end → IsApart j ranges → get_or c j 0 ≡ get_or area.bytes j 0) → (b : Block) → Has b (spelled_from g s h (take synced written)) → block_at n b.number c ≡ b.bytes
  synced_stands c high ranges late near longer same b has =
      let among = spelled-take g s synced h written b has in
      let size : length (take synced written) ≡ synced = omega (arith, le, length-take synced written) in
      let number = spelled-number g s h (take synced written) b has in
      let below : b.number < h + synced = omega (arith, number.1, size) in
      let close : high ≤ b.number + n = omega (arith, number.0, near) in
      let end : 2048 * (b.number % n) + 2048 ≤ area.end = holds.end b has in
      same_piece (b.number % n) c area.bytes (omega (arith, end, longer)) (written_within b among)
      (λ j from to. same j (omega (arith, end, to)) (block_apart n (h + synced) high b.number j ranges late below close from to))
      ∙ holds.reads b among

-- ## The run of a fair image

-- The image c of a ring, where each write since it had the first bytes is one of these blocks or one that the head has passed,
-- and the synced ones stand.
module _ (g s n h : ℕ) (first : List ℕ) (ws : List (List Record)) (synced : ℕ) (c : List ℕ) (since : List Write) (fg : g < 2 ^ 64) (fs : s < 2 ^ 64) (fh : h + n ≤ 2 ^ 64)
    (le : synced ≤ length ws) (few : length ws ≤ n) (fit : AllFitBlocks ws) (some : 0 < n) (new : HasNone g n first)
    (writes : (w : Write) → Has w since → IsOwnWrite g s n h ws w) (fair : IsFair 2048 IsSealed first since c)
    (stands : (b : Block) → Has b (spelled_from g s h (take synced ws)) → block_at n b.number c ≡ b.bytes) where
  ws_belongs : (b : Block) → Has b (spelled_from g s h ws) → belongs g s b.number b.bytes ≡ true
  ws_belongs b has = spelled-belongs g s fg fs h ws (omega (arith, few, fh)) fit b has

  block_one : (b : Block) (w : Write) → Belongs g s b.number b.bytes → w ≡ write_of n b → IsOfOne 2048 w
  block_one b w its is = record {
    slot = b.number % n;
    place = ap (λ (x : Write). x.0) is;
    whole = ap (λ (x : Write). length x.1) is ∙ its.sealed.whole;
  }

  -- each write is of one block
  of_one : (w : Write) → Has w since → IsOfOne 2048 w
  of_one w has = ⊎_elim
      (λ (one : IsBlockWrite n (spelled_from g s h ws) w). block_one one.block w ((every_belongs g s one.block.number one.block.bytes).0 (ws_belongs one.block one.has)) one.at)
      (λ (old : IsPassed g s n h w). block_one old.block w old.belongs old.at)
      (writes w has)

  -- a block that belongs is one of them
  listed : (r : ℕ) → h ≤ r → belongs g s r (block_at n r c) ≡ true → Has (found g s n c r) (spelled_from g s h ws)
  listed r low yes_it =
      let is : Belongs g s r (block_at n r c) = (every_belongs g s r (block_at n r c)).0 yes_it in
      ⊎_elim
      (λ (stood : piece 2048 (r % n) c ≡ piece 2048 (r % n) first). absurd (let P : List ℕ → Type 0 = Belongs g s r in let old : Belongs g s r (piece 2048 (r % n) first) = subst P stood is in new (r % n) (mod-lt r some) old.sealed old.of_generation))
      (λ (has : Has (2048 * (r % n), piece 2048 (r % n) c) since).
      let w : Write = (2048 * (r % n), piece 2048 (r % n) c) in
      ⊎_elim
      (λ (one : IsBlockWrite n (spelled_from g s h ws) w).
      let b : Block = one.block in
      let bytes : block_at n r c ≡ b.bytes = ap (λ (x : Write). x.1) one.at in
      let its : Belongs g s b.number b.bytes = (every_belongs g s b.number b.bytes).0 (ws_belongs b one.has) in
      let number : r ≡ b.number = sym is.of_block ∙ ap block_of bytes ∙ its.of_block in
      let same : b ≡ found g s n c r = ap (λ (x : ℕ). record { number = x; bytes = b.bytes }) (sym number) ∙ ap (λ (x : List ℕ). record { number = r; bytes = x }) (sym bytes) in
      subst (λ (x : Block). Has x (spelled_from g s h ws)) same one.has)
      (λ (old : IsPassed g s n h w).
      let bytes : block_at n r c ≡ old.block.bytes = ap (λ (x : Write). x.1) old.at in
      let number : r ≡ old.block.number = sym is.of_block ∙ ap block_of bytes ∙ old.belongs.of_block in
      absurd (omega (arith, number, old.below, low)))
      (writes w has))
      (narrow 2048 IsSealed first since c (omega arith) of_one fair (r % n) is.sealed)

  synced_belongs : (r : ℕ) → h ≤ r → r < h + synced → belongs g s r (block_at n r c) ≡ true
  synced_belongs r low high =
      let size : length (take synced ws) ≡ synced = omega (arith, le, length-take synced ws) in
      let it = spelled-at g s h (take synced ws) r low (omega (arith, high, size)) in
      let b : Block = record { number = r; bytes = it.0 } in
      ap (belongs g s r) (stands b it.1) ∙ ws_belongs b (spelled-take g s synced h ws b it.1)

  pub prefix_left : Prefix g s n c n h synced ws
  prefix_left = prefix g s n c n h synced ws few le listed synced_belongs
