-- A run that takes no block but those of a list, in their order, is a prefix of the list.
use Rattle.std.proofs.Common.{◌≡◌, ⊎_elim, ℕ, zero, suc, ◌+◌, ◌-◌, ◌≤◌, ◌<◌, true, false, List, [], ◌∷◌, length, take, refl, ◌∙◌, ap, arith}
use Rattle.std.proofs.lemmas.Bool.{cases_lt, cases_Bool}
use Rattle.map_model.specs.Lists.{Has}
use Rattle.disk_image.specs.log_record.declared.record.Record.{Record}
use Rattle.disk_image.specs.Blocks.{belongs}
use Rattle.disk_image.specs.Runs.{Block, run_in, block_at}
use Rattle.disk_image.proofs.RunLemmas.{run_in-more, run_in-end}
use Rattle.worker_log.specs.Accounts.{spelled, spelled_from}
use Rattle.worker_log.proofs.ListLemmas.{spelled-number}

-- the run from number q on is the first k of the blocks, and at least so many
pub record Prefix (g s n : ℕ) (c : List ℕ) (most q least : ℕ) (ws : List (List Record)) : Type 0 where
  pub k : ℕ
  pub enough : least ≤ k
  pub within : k ≤ length ws
  pub run : run_in g s n c most q ≡ spelled_from g s q (take k ws)

module _ (g s n : ℕ) (c : List ℕ) where
  -- what stands at the place of block q
  abbrev pub found : ℕ → Block
  found q = record { number = q; bytes = block_at n q c }

  abbrev pub Fits_at : ℕ → Type 0
  Fits_at q = belongs g s q (block_at n q c) ≡ true

  -- a block that belongs is one of the list
  abbrev pub Listed : ℕ → List (List Record) → Type 0
  Listed q ws = (r : ℕ) → q ≤ r → Fits_at r → Has (found r) (spelled_from g s q ws)

  listed_rest : (q : ℕ) (rs : List Record) (ws : List (List Record)) → Listed q (rs ∷ ws) → Listed (suc q) ws
  listed_rest q rs ws listed r le fits = ⊎_elim
      (λ (is : found r ≡ record { number = q; bytes = spelled g s q rs }). let e : r ≡ q = ap (λ (b : Block). b.number) is in absurd (omega (arith, e, le)))
      (λ has. has)
      (listed r (omega (arith, le)) fits)

  here : (q : ℕ) (rs : List Record) (ws : List (List Record)) → Listed q (rs ∷ ws) → Fits_at q → found q ≡ record { number = q; bytes = spelled g s q rs }
  here q rs ws listed fits = ⊎_elim
      (λ is. is)
      (λ (has : Has (found q) (spelled_from g s (suc q) ws)). let m = spelled-number g s (suc q) ws (found q) has in absurd (omega (arith, m.0)))
      (listed q (omega arith) fits)

  pub prefix : (most q least : ℕ) (ws : List (List Record)) → length ws ≤ most → least ≤ length ws → Listed q ws → ((r : ℕ) → q ≤ r → r < q + least → Fits_at r) → Prefix g s n c most q least ws
  prefix zero q least [] few le listed stands = record { k = 0; enough = omega arith; within = omega arith; run = refl }
  prefix zero q least (rs ∷ ws) few le listed stands = absurd (omega arith)
  prefix (suc most) q least [] few le listed stands = ⊎_elim
      (λ (yes_it : Fits_at q). absurd (listed q (omega arith) yes_it))
      (λ (is_not : belongs g s q (block_at n q c) ≡ false). record { k = 0; enough = omega arith; within = omega arith; run = run_in-end g s n c most q is_not })
      (cases_Bool (belongs g s q (block_at n q c)))
  prefix (suc most) q least (rs ∷ ws) few le listed stands =
      let more : Prefix g s n c most (suc q) (least - 1) ws = prefix most (suc q) (least - 1) ws (omega arith) (omega arith) (listed_rest q rs ws listed) (λ r low high. stands r (omega (arith, low)) (omega (arith, low, high))) in
      ⊎_elim
      (λ (is_one : Fits_at q). record {
        k = suc more.k;
        enough = omega (arith, more.enough);
        within = omega (arith, more.within);
        run = run_in-more g s n c most q is_one ∙ ap (λ (b : Block). b ∷ run_in g s n c most (suc q)) (here q rs ws listed is_one) ∙ ap (λ (bs : List Block). record { number = q; bytes = spelled g s q rs } ∷ bs) more.run;
      })
      (λ (is_not : belongs g s q (block_at n q c) ≡ false). record {
        k = 0;
        enough = ⊎_elim (λ (lt : 0 < least). absurd (let one : Fits_at q = stands q (omega arith) (omega (arith, lt)) in cc)) (λ (none : least ≤ 0). none) (cases_lt 0 least);
        within = omega arith;
        run = run_in-end g s n c most q is_not;
      })
      (cases_Bool (belongs g s q (block_at n q c)))
