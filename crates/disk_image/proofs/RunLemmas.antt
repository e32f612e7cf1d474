-- Runs, and the blocks that they take.
use Rattle.std.proofs.Common.{◌≡◌, ◌<◌, ◌≤◌, ◌+◌, ◌-◌, ◌%◌, ◌^◌, ℕ, zero, suc, true, false, cond, min, List, [], ◌∷◌, ◌++◌, length, take, drop, length-take, length-drop, replicate, codes, Some, refl, sym, ap, subst, ◌∙◌, arith}
use mathlib.Core.List.{append_assoc}
use Rattle.std.proofs.lemmas.Bool.{cond-true, cond-false}
use Rattle.lean_bytes.proofs.SealLemmas.{length-seal_of}
use Rattle.log_record.specs.declared.record.Record.{Record}
use Rattle.log_block.specs.Block.{header_text, body_text, seal_text, block_text, Belongs, records_text, AllFit}
use Rattle.log_block.specs.Run.{place, StandsAt}
use Rattle.log_block.proofs.BlockLemmas as blocks
use Rattle.disk_image.specs.Blocks.{belongs, block_in}
use Rattle.disk_image.specs.Runs.{block_at, Block, run_in, Logged, records_onto, records_or, logged_onto}
use Rattle.disk_image.proofs.BlockInLemmas.{belongs_from, every_belongs, every_block_in}

-- ## A block that was spelled

-- it has its records
pub block_in-text : (generation log q : ℕ) (rs : List Record) → AllFit rs → length (records_text rs) ≤ 2000 → block_in generation log q (block_text generation log q (length rs) (records_text rs)) ≡ Some rs
block_in-text generation log q rs fit room = (every_block_in generation log q (block_text generation log q (length rs) (records_text rs)) rs).1 (record { fit = fit; room = room; spelled = refl })

-- it belongs where it says, whatever its payload is
pub belongs-text : (generation log q count : ℕ) (payload : List ℕ) → generation < 2 ^ 64 → log < 2 ^ 64 → q < 2 ^ 64 → length payload ≤ 2000 → belongs generation log q (block_text generation log q count payload) ≡ true
belongs-text generation log q count payload fg fl fq few =
    let n = length payload in
    let body = body_text generation log q count payload in
    let bytes = block_text generation log q count payload in
    let room : List ℕ = payload ++ replicate (2000 - n) 0 in
    let rest = room ++ seal_text body in
    let prefix : bytes ≡ header_text generation log q n count ++ rest = append_assoc (header_text generation log q n count) room (seal_text body) in
    belongs_from generation log q bytes (record {
      sealed = blocks.is_sealed bytes body (seal_text body) refl (blocks.body_long generation log q count payload few) (length-seal_of (codes "LEANLOGB") body) refl;
      of_generation = blocks.generation_read generation log q n count bytes rest fg fl fq prefix;
      of_log = blocks.log_read generation log q n count bytes rest fg fl fq prefix;
      of_block = blocks.block_read generation log q n count bytes rest fg fl fq prefix;
    })

-- ## Runs

module _ (generation log n : ℕ) (area : List ℕ) (count q : ℕ) where
  abbrev here : List Block
  here = record { number = q; bytes = block_at n q area } ∷ run_in generation log n area count (suc q)

  -- a run goes on with a block that belongs
  pub run_in-more : belongs generation log q (block_at n q area) ≡ true → run_in generation log n area (suc count) q ≡ record { number = q; bytes = block_at n q area } ∷ run_in generation log n area count (suc q)
  run_in-more h = cond-true (belongs generation log q (block_at n q area)) here [] h

  -- and ends at one that does not
  pub run_in-end : belongs generation log q (block_at n q area) ≡ false → run_in generation log n area (suc count) q ≡ []
  run_in-end h = cond-false (belongs generation log q (block_at n q area)) here [] h

-- a run hangs on the blocks at its places alone
pub run_in-same : (generation log n : ℕ) (area other : List ℕ) (count q : ℕ) → ((k : ℕ) → q ≤ k → k < q + count → block_at n k area ≡ block_at n k other)
    → run_in generation log n area count q ≡ run_in generation log n other count q
run_in-same generation log n area other zero q h = refl
run_in-same generation log n area other (suc count) q h =
    ap (λ (b : List ℕ). cond (belongs generation log q b) (record { number = q; bytes = b } ∷ run_in generation log n area count (suc q)) []) (h q (omega arith) (omega arith))
    ∙ ap (λ (bs : List Block). cond (belongs generation log q (block_at n q other)) (record { number = q; bytes = block_at n q other } ∷ bs) [])
    (run_in-same generation log n area other count (suc q) (λ k least most. h k (omega arith) (omega arith)))

-- a block stands at its place, as the reader of a run asks
pub stands_at-belongs : (generation log q n : ℕ) (area : List ℕ) → StandsAt generation log q n area → belongs generation log q (block_at n q area) ≡ true
stands_at-belongs generation log q n area s =
    let at = place n q in
    let long : at + 2048 - at ≡ 2048 = omega arith in
    belongs_from generation log q (block_at n q area) (subst (Belongs generation log q) (ap (λ j. take j (drop at area)) long) s.belongs)

pub belongs-stands_at : (generation log q n : ℕ) (area : List ℕ) → belongs generation log q (block_at n q area) ≡ true → StandsAt generation log q n area
belongs-stands_at generation log q n area h =
    let at = place n q in
    let long : at + 2048 - at ≡ 2048 = omega arith in
    let b = (every_belongs generation log q (block_at n q area)).0 h in
    let whole : min 2048 (length (drop at area)) ≡ 2048 = sym (length-take 2048 (drop at area)) ∙ b.sealed.whole in
    let left = length-drop at area in
    record { room = omega arith; belongs = subst (Belongs generation log q) (ap (λ j. take j (drop at area)) (sym long)) b }

-- where so many blocks belong and the next one, if more are asked for, does not, the run has so many
pub run_in-cut : (generation log n : ℕ) (area : List ℕ) (most count q : ℕ) → count ≤ most → ((k : ℕ) → k < count → belongs generation log (q + k) (block_at n (q + k) area) ≡ true)
    → (count < most → belongs generation log (q + count) (block_at n (q + count) area) ≡ false) → length (run_in generation log n area most q) ≡ count
run_in-cut generation log n area zero zero q l all end = refl
run_in-cut generation log n area zero (suc count) q l all end = absurd (omega arith)
run_in-cut generation log n area (suc most) zero q l all end =
    let here : q + 0 ≡ q = omega arith in
    ap (λ (bs : List Block). length bs) (run_in-end generation log n area most q (ap (λ j. belongs generation log j (block_at n j area)) (sym here) ∙ end (omega arith)))
run_in-cut generation log n area (suc most) (suc count) q l all end =
    let here : q + 0 ≡ q = omega arith in
    let next = λ (k : ℕ). let e : suc q + k ≡ q + suc k = omega arith in ap (λ j. belongs generation log j (block_at n j area)) e in
    ap (λ (bs : List Block). length bs) (run_in-more generation log n area most q (ap (λ j. belongs generation log j (block_at n j area)) (sym here) ∙ all 0 (omega arith)))
    ∙ ap suc (run_in-cut generation log n area most count (suc q) (omega arith) (λ k lt. next k ∙ all (suc k) (omega arith)) (λ lt. next count ∙ end (omega arith)))

-- ## The records of a run

pub logged_onto-append : (generation log n : ℕ) (behind : List Logged) (bs cs : List Block) → logged_onto generation log n behind (bs ++ cs) ≡ logged_onto generation log n (logged_onto generation log n behind bs) cs
logged_onto-append generation log n behind [] cs = refl
logged_onto-append generation log n behind (b ∷ bs) cs = logged_onto-append generation log n (records_onto log (b.number % n) behind (records_or (block_in generation log b.number b.bytes))) bs cs
