-- The marks by blocks, and their counts.
use Rattle.std.proofs.Common.{◌≡◌, ◌⊎◌, inl, inr, ◌≤◌, ◌<◌, ◌^◌, ◌+◌, ◌-◌, ◌*◌, ◌/◌, ◌%◌, ℕ, Bool, true, false, List, length, get_or, set, take, drop, replicate, sym, ap, ◌∙◌, subst, arith}
use Rattle.std.proofs.Math.Seq.{take-set-lt}
use Rattle.std.proofs.lemmas.Bool.{cases_eq, cases_lt}
use Rattle.std.proofs.lemmas.Nat.{div-add-mod', div-mul-add, div_below, mod_below}
use Rattle.std.proofs.lemmas.List.{drop-set-add, drop-set-lt, get_or-drop, get_or-replicate, get_or-set_other, get_or-set_same, get_or-take, get_or_default, get_or_past, length-drop, length-replicate, length-set, length-take, take-set-le}
use Rattle.free_pages.specs.Pages.{count, is_in, IsEmpty, IsLeast}
use Rattle.free_pages.specs.Inside.{part, IsCounted, AreUnused, IsFirstUsed}
use Rattle.free_pages.proofs.CountLemmas.{one, count_most, count-set, count_none, none_from_count, count_some, count-replicate}

module _ (size : ℕ) where
  -- ## A mark and its block

  -- of a block, mark j is the one of this page
  is_in-part : (marks : List Bool) (b j : ℕ) → j < size → is_in (part size marks b) j ≡ is_in marks (b * size + j)
  is_in-part marks b j lt = get_or-take size (drop (b * size) marks) j false lt ∙ get_or-drop (b * size) marks j false

  is_in_place : (marks : List Bool) (page : ℕ) → 0 < size → is_in (part size marks (page / size)) (page % size) ≡ is_in marks page
  is_in_place marks page pos = is_in-part marks (page / size) (page % size) (mod_below page size pos) ∙ ap (is_in marks) (div-add-mod' page size)

  -- where none of its block is counted, a page is out
  out_from_block : (marks : List Bool) (page : ℕ) → 0 < size → count (part size marks (page / size)) ≡ 0 → is_in marks page ≡ false
  out_from_block marks page pos e = sym (is_in_place marks page pos) ∙ none_from_count (part size marks (page / size)) e (page % size)

  -- ## A mark is written

  -- in its block
  part-set_same : (marks : List Bool) (b j : ℕ) (mark : Bool) → j < size → part size (set marks (b * size + j) mark) b ≡ set (part size marks b) j mark
  part-set_same marks b j mark lt = ap (take size) (drop-set-add (b * size) marks j mark) ∙ take-set-lt size (drop (b * size) marks) j mark lt

  -- in no other one
  part-set_other : (marks : List Bool) (page : ℕ) (mark : Bool) (b : ℕ) → (b ≡ page / size → ⊥) → part size (set marks page mark) b ≡ part size marks b
  part-set_other marks page mark b other = elim (cases_lt page (b * size)) [ inl lt ↦ ap (take size) (drop-set-lt (b * size) marks page mark lt) | inr le ↦ behind le ]
    where
      at : (j : ℕ) → page ≡ b * size + j → (j < size) ⊎ (size ≤ j) → part size (set marks page mark) b ≡ part size marks b
      at j e (inl lt) = absurd (other (sym (ap (λ n. n / size) e ∙ div-mul-add b size j lt)))
      at j e (inr le) = ap (λ n. part size (set marks n mark) b) e ∙ ap (take size) (drop-set-add (b * size) marks j mark) ∙ take-set-le size (drop (b * size) marks) j mark le

      behind : b * size ≤ page → part size (set marks page mark) b ≡ part size marks b
      behind le = let j = page - b * size in at j (omega arith) (cases_lt j size)

  -- the count of its block
  count_part_set : (marks : List Bool) (page : ℕ) (mark : Bool) → 0 < size → page < length marks → count (part size (set marks page mark) (page / size)) + one (is_in marks page) ≡ count (part size marks (page / size)) + one mark
  count_part_set marks page mark pos lt = at (page / size) (page % size) (mod_below page size pos) (div-add-mod' page size)
    where
      at : (b j : ℕ) → j < size → b * size + j ≡ page → count (part size (set marks page mark) b) + one (is_in marks page) ≡ count (part size marks b) + one mark
      at b j small e =
          let here = part-set_same marks b j mark small in
          let long : j < length (part size marks b) = omega (arith, length-take size (drop (b * size) marks), length-drop (b * size) marks) in
          let n = count-set (part size marks b) j mark long in
          subst (λ p. count (part size (set marks p mark) b) + one (is_in marks p) ≡ count (part size marks b) + one mark) e (ap (λ xs. count xs + one (is_in marks (b * size + j))) here ∙ ap (λ m. count (set (part size marks b) j mark) + one m) (sym (is_in-part marks b j small)) ∙ n)

  -- ## The counts

  pub block_within : (marks : List Bool) (in_block : List ℕ) (total page : ℕ) → 0 < size → page < length marks → IsCounted size marks in_block total → page / size < length in_block
  block_within marks in_block total page pos lt k = div_below page size (length in_block) pos (let r = k.reach in omega arith)

  -- the count of a page's block, as it was found
  module _ (marks : List Bool) (in_block : List ℕ) (total page found : ℕ) (pos : 0 < size) (lt : page < length marks) (k : IsCounted size marks in_block total) (e : found ≡ get_or in_block (page / size) found) where
    found_is : found ≡ count (part size marks (page / size))
    found_is = let w = block_within marks in_block total page pos lt k in e ∙ get_or_default in_block (page / size) found 0 w ∙ k.counted (page / size) w

    -- it is no more than the size
    pub found_most : found ≤ size
    found_most = let f = found_is in let q = count_most (part size marks (page / size)) in omega (arith, length-take size (drop (page / size * size) marks))

    -- a page that is in is counted there
    pub found_some : is_in marks page ≡ true → 0 < found
    found_some here = let f = found_is in let q = count_some (part size marks (page / size)) (page % size) (is_in_place marks page pos ∙ here) in omega arith

  -- one mark is written, and the two counts with it
  counted-set : (marks : List Bool) (in_block : List ℕ) (total page : ℕ) (mark : Bool) (n m : ℕ) → 0 < size → page < length marks → n + one (is_in marks page) ≡ count (part size marks (page / size)) + one mark → m + one (is_in marks page) ≡ total + one mark → IsCounted size marks in_block total → IsCounted size (set marks page mark) (set in_block (page / size) n) m
  counted-set marks in_block total page mark n m pos lt en em k = record {
    few = let e = length-set marks page mark in let f = k.few in omega arith;
    reach = subst (λ x. x ≤ length (set in_block (page / size) n) * size) (sym (length-set marks page mark)) (subst (λ x. length marks ≤ x * size) (sym (length-set in_block (page / size) n)) k.reach);
    counted = λ b w. at b (subst (λ x. b < x) (length-set in_block (page / size) n) w) (cases_eq b (page / size));
    sum = let e = count-set marks page mark lt in let s = k.sum in omega arith;
  }
    where
      here : page / size < length in_block → get_or (set in_block (page / size) n) (page / size) 0 ≡ count (part size (set marks page mark) (page / size))
      here w = let e = count_part_set marks page mark pos lt in let g = get_or-set_same in_block (page / size) n 0 w in omega arith

      at : (b : ℕ) → b < length in_block → (b ≡ page / size) ⊎ (b ≡ page / size → ⊥) → get_or (set in_block (page / size) n) b 0 ≡ count (part size (set marks page mark) b)
      at b w (inl e) = subst (λ x. get_or (set in_block (page / size) n) x 0 ≡ count (part size (set marks page mark) x)) (sym e) (here (subst (λ x. x < length in_block) e w))
      at b w (inr other) = get_or-set_other in_block (page / size) b n 0 other ∙ k.counted b w ∙ sym (ap count (part-set_other marks page mark b other))

  module _ (marks : List Bool) (in_block : List ℕ) (total page found : ℕ) (pos : 0 < size) (lt : page < length marks) (k : IsCounted size marks in_block total) (e : found ≡ get_or in_block (page / size) found) where
    -- a page comes in
    pub counted_in : is_in marks page ≡ false → IsCounted size (set marks page true) (set in_block (page / size) (found + 1)) (total + 1)
    counted_in out =
        let f = found_is marks in_block total page found pos lt k e in
        let z = ap one out in
        counted-set marks in_block total page true (found + 1) (total + 1) pos lt (omega arith) (omega arith) k

    -- a page goes out
    pub counted_out : is_in marks page ≡ true → IsCounted size (set marks page false) (set in_block (page / size) (found - 1)) (total - 1)
    counted_out here =
        let f = found_is marks in_block total page found pos lt k e in
        let z = ap one here in
        let some = found_some marks in_block total page found pos lt k e here in
        let any = count_some marks page here in
        let sum = k.sum in
        counted-set marks in_block total page false (found - 1) (total - 1) pos lt (omega arith) (omega arith) k

  -- no mark stands, and each count is nothing
  pub counted_none : (pages blocks : ℕ) → pages < 2 ^ 32 → pages ≤ blocks * size → IsCounted size (replicate pages false) (replicate blocks 0) 0
  counted_none pages blocks few reach = record {
    few = let e = length-replicate pages false in omega arith;
    reach = let zero : ℕ = 0 in subst (λ x. x ≤ length (replicate blocks zero) * size) (sym (length-replicate pages false)) (subst (λ x. pages ≤ x * size) (sym (length-replicate blocks zero)) reach);
    counted = λ b w. get_or-replicate blocks b 0 0 (subst (λ x. b < x) (length-replicate blocks 0) w) ∙ sym (count_none (part size (replicate pages false) b) (λ j. none b j (cases_lt j size)));
    sum = sym (count-replicate pages);
  }
    where
      out : (i : ℕ) → is_in (replicate pages false) i ≡ false
      out = none_from_count (replicate pages false) (count-replicate pages)

      none : (b j : ℕ) → (j < size) ⊎ (size ≤ j) → is_in (part size (replicate pages false) b) j ≡ false
      none b j (inl lt) = is_in-part (replicate pages false) b j lt ∙ out (b * size + j)
      none b j (inr le) = get_or_past (part size (replicate pages false) b) j false (omega (arith, length-take size (drop (b * size) (replicate pages false))))

  -- ## The least page

  module _ (marks : List Bool) (in_block : List ℕ) (total : ℕ) (pos : 0 < size) (k : IsCounted size marks in_block total) where
    -- no block has any
    pub none_from_blocks : AreUnused in_block → IsEmpty marks
    none_from_blocks f page = elim (cases_lt page (length marks)) [ inl lt ↦ (let w = block_within marks in_block total page pos lt k in out_from_block marks page pos (sym (k.counted (page / size) w) ∙ f (page / size) w)) | inr le ↦ get_or_past marks page false le ]

    module _ (block : ℕ) (first : IsFirstUsed in_block block) where
      -- the marks from that block on are not all down
      pub some_from_block : IsEmpty (drop (block * size) marks) → ⊥
      some_from_block none = let e = count_none (part size marks block) (λ j. at j (cases_lt j size)) in let f = k.counted block first.within in let g = first.here in absurd (omega arith)
        where
          at : (j : ℕ) → (j < size) ⊎ (size ≤ j) → is_in (part size marks block) j ≡ false
          at j (inl lt) = get_or-take size (drop (block * size) marks) j false lt ∙ none j
          at j (inr le) = get_or_past (part size marks block) j false (omega (arith, length-take size (drop (block * size) marks)))

      -- so it starts within the marks
      pub block_starts : block * size ≤ length marks
      block_starts = elim (cases_lt (block * size) (length marks)) [ inl lt ↦ omega arith | inr le ↦ absurd (some_from_block (λ j. get_or_past (drop (block * size) marks) j false (omega (arith, length-drop (block * size) marks)))) ]

      -- and the first mark there is that of the least page
      pub least_from_block : (place : ℕ) → IsLeast (drop (block * size) marks) place → IsLeast marks (block * size + place)
      least_from_block place l = record {
        within = let w = l.within in omega (arith, length-drop (block * size) marks);
        here = sym (get_or-drop (block * size) marks place false) ∙ l.here;
        none_lower = λ q w. at q w (cases_lt q (block * size));
      }
        where
          before : (q : ℕ) → q < block * size → is_in marks q ≡ false
          before q w = let b = div_below q size block pos w in let h = first.within in out_from_block marks q pos (sym (k.counted (q / size) (omega arith)) ∙ first.none_before (q / size) b)

          behind : (q j : ℕ) → q ≡ block * size + j → j < place → is_in marks q ≡ false
          behind q j e w = ap (is_in marks) e ∙ sym (get_or-drop (block * size) marks j false) ∙ l.none_lower j w

          at : (q : ℕ) → q < block * size + place → (q < block * size) ⊎ (block * size ≤ q) → is_in marks q ≡ false
          at q w (inl lt) = before q lt
          at q w (inr le) = behind q (q - block * size) (omega arith) (omega arith)
