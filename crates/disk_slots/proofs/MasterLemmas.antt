-- Masters and their slots.
use Rattle.std.proofs.Common.{◌≡◌, ℕ, zero, suc, ◌+◌, ◌-◌, ◌%◌, ◌^◌, ◌<◌, ◌≤◌, inl, inr, List, [], ◌∷◌, ◌++◌, length, get_or, set, take, drop, replicate, refl, sym, ap, subst, ◌∙◌, arith, codes, length-drop}
use Rattle.std.proofs.lemmas.Bool.{cases_lt}
use Rattle.std.proofs.lemmas.List.{drop_more, drop-drop, length-append, length-replicate, length-take-le, take-append-drop, get_or_append_left, get_or-append_right, get_or-drop, get_or-take, get_or-replicate, get_or_past, drop-replicate}
use Rattle.lean_bytes.specs.Numbers.{AreWords}
use Rattle.disk_slots.specs.declared.master.Master.{Master}
use Rattle.disk_slots.specs.Slots.{slot_of, HasWords}
use Rattle.disk_slots.specs.Masters.{master_words, master_slot, IsMaster, IsMasterSlot}
use Rattle.disk_slots.specs.Inside.{IsSound}
use Rattle.disk_slots.proofs.SlotLemmas.{slot-one}

-- ## Zeros

pub zeros-at : (n k : ℕ) → get_or {A = ℕ} (replicate n 0) k 0 ≡ 0
zeros-at n k = elim (cases_lt k n) [
  | inl lt ↦ get_or-replicate n k 0 0 lt
  | inr ge ↦ get_or_past (replicate n 0) k 0 (let l : length (replicate {A = ℕ} n 0) ≡ n = length-replicate n 0 in omega arith)
]

zeros-by : (xs : List ℕ) → ((k : ℕ) → get_or xs k 0 ≡ 0) → xs ≡ replicate (length xs) 0
zeros-by [] z = refl
zeros-by (x ∷ xs) z = ap (λ y. y ∷ xs) (z 0) ∙ ap (λ (us : List ℕ). 0 ∷ us) (zeros-by xs (λ k. z (suc k)))

-- ## The words of a master, as they are written

pub heads-written : (hs ws : List ℕ) → length hs ≤ 16 → ws ≡ take 7 (replicate 126 0) ++ (hs ++ drop (7 + length hs) (replicate 126 0)) → ws ≡ 0 ∷ 0 ∷ 0 ∷ 0 ∷ 0 ∷ 0 ∷ 0 ∷ (hs ++ replicate (119 - length hs) 0)
heads-written hs ws h e =
    let m : 126 - (7 + length hs) ≡ 119 - length hs = omega arith in
    e ∙ ap (λ (us : List ℕ). 0 ∷ 0 ∷ 0 ∷ 0 ∷ 0 ∷ 0 ∷ 0 ∷ (hs ++ us)) (drop-replicate (7 + length hs) 126 0 ∙ ap (λ j. replicate j 0) m)

pub master-written : (m : Master) (ws : List ℕ) (p b l : ℕ) → length m.heads ≤ 16 → ws ≡ take 7 (replicate 126 0) ++ (m.heads ++ drop (7 + length m.heads) (replicate 126 0)) → p ≡ m.pages → b ≡ m.blocks → l ≡ length m.heads →
    set (set (set (set (set (set (set ws 0 1) 1 m.sequence) 2 m.generation) 3 m.floor) 4 p) 5 b) 6 l ≡ master_words m
master-written m ws p b l h e ep eb el =
    let tail = m.heads ++ replicate (119 - length m.heads) 0 in
    ap (λ (us : List ℕ). set (set (set (set (set (set (set us 0 1) 1 m.sequence) 2 m.generation) 3 m.floor) 4 p) 5 b) 6 l) (heads-written m.heads ws h e)
    ∙ ap (λ j. 1 ∷ m.sequence ∷ m.generation ∷ m.floor ∷ j ∷ b ∷ l ∷ tail) ep
    ∙ ap (λ j. 1 ∷ m.sequence ∷ m.generation ∷ m.floor ∷ m.pages ∷ j ∷ l ∷ tail) eb
    ∙ ap (λ j. 1 ∷ m.sequence ∷ m.generation ∷ m.floor ∷ m.pages ∷ m.blocks ∷ j ∷ tail) el

-- ## The tests of words

heads-at : (ws : List ℕ) (n w k : ℕ) → n ≡ w → k < w → get_or (take n (drop 7 ws)) k 0 ≡ get_or ws (7 + k) 0
heads-at ws n w k e lt = get_or-take n (drop 7 ws) k 0 (omega arith) ∙ get_or-drop 7 ws k 0

rest-at : (ws : List ℕ) (n m k : ℕ) → k < n → get_or (take n (drop m ws)) k 0 ≡ get_or ws (m + k) 0
rest-at ws n m k lt = get_or-take n (drop m ws) k 0 lt ∙ get_or-drop m ws k 0

part-long : (ws : List ℕ) (n m : ℕ) → n + m ≤ length ws → length (take n (drop m ws)) ≡ n
part-long ws n m h = length-take-le n (drop m ws) (let l = length-drop m ws in omega arith)

pub heads-from : (ws : List ℕ) (n w : ℕ) → length ws ≡ 126 → w ≤ 16 → n ≡ w → ((k : ℕ) → k < length (take n (drop 7 ws)) → get_or (take n (drop 7 ws)) k 0 < 2 ^ 63) → (k : ℕ) → k < w → get_or ws (7 + k) 0 < 2 ^ 63
heads-from ws n w l h e f k lt =
    let p = part-long ws n 7 (omega arith) in
    subst (λ j. j < 2 ^ 63) (heads-at ws n w k e lt) (f k (omega arith))

pub heads-to : (ws : List ℕ) (n w : ℕ) → length ws ≡ 126 → w ≤ 16 → n ≡ w → ((k : ℕ) → k < w → get_or ws (7 + k) 0 < 2 ^ 63) → (k : ℕ) → k < length (take n (drop 7 ws)) → get_or (take n (drop 7 ws)) k 0 < 2 ^ 63
heads-to ws n w l h e f k lt =
    let p = part-long ws n 7 (omega arith) in
    let lw : k < w = omega arith in
    subst (λ j. j < 2 ^ 63) (sym (heads-at ws n w k e lw)) (f k lw)

pub rest-from : (ws : List ℕ) (n m : ℕ) → length ws ≡ 126 → n + m ≡ 126 → ((k : ℕ) → k < length (take n (drop m ws)) → get_or (take n (drop m ws)) k 0 ≡ 0) → (k : ℕ) → m ≤ k → get_or ws k 0 ≡ 0
rest-from ws n m l h f k le = elim (cases_lt k (length ws)) [
  | inl lt ↦
      let p = part-long ws n m (omega arith) in
      let d : k - m < n = omega arith in
      ap (λ j. get_or ws j 0) (omega arith) ∙ sym (rest-at ws n m (k - m) d) ∙ f (k - m) (omega arith)
  | inr ge ↦ get_or_past ws k 0 ge
]

pub rest-to : (ws : List ℕ) (n m : ℕ) → length ws ≡ 126 → n + m ≡ 126 → ((k : ℕ) → m ≤ k → get_or ws k 0 ≡ 0) → (k : ℕ) → k < length (take n (drop m ws)) → get_or (take n (drop m ws)) k 0 ≡ 0
rest-to ws n m l h f k lt =
    let p = part-long ws n m (omega arith) in
    let d : k < n = omega arith in
    rest-at ws n m k d ∙ f (m + k) (omega arith)

-- ## A master and its words

-- seven words, then the rest
seven-words : (ws : List ℕ) → length ws ≡ 126 → ws ≡ get_or ws 0 0 ∷ get_or ws 1 0 ∷ get_or ws 2 0 ∷ get_or ws 3 0 ∷ get_or ws 4 0 ∷ get_or ws 5 0 ∷ get_or ws 6 0 ∷ drop 7 ws
seven-words ws l =
    let at = λ (i : ℕ) (h : i < length ws). drop_more ws i 0 h in
    at 0 (omega arith)
    ∙ ap (λ (r : List ℕ). get_or ws 0 0 ∷ r) (at 1 (omega arith)
    ∙ ap (λ (r : List ℕ). get_or ws 1 0 ∷ r) (at 2 (omega arith)
    ∙ ap (λ (r : List ℕ). get_or ws 2 0 ∷ r) (at 3 (omega arith)
    ∙ ap (λ (r : List ℕ). get_or ws 3 0 ∷ r) (at 4 (omega arith)
    ∙ ap (λ (r : List ℕ). get_or ws 4 0 ∷ r) (at 5 (omega arith)
    ∙ ap (λ (r : List ℕ). get_or ws 5 0 ∷ r) (at 6 (omega arith)))))))

-- the master has the numbers that stand in the words
pub record HasNumbers (ws : List ℕ) (m : Master) : Type 0 where
  pub sequence : m.sequence ≡ get_or ws 1 0
  pub generation : m.generation ≡ get_or ws 2 0
  pub floor : m.floor ≡ get_or ws 3 0
  pub pages : m.pages ≡ get_or ws 4 0
  pub blocks : m.blocks ≡ get_or ws 5 0
  pub heads : m.heads ≡ take (get_or ws 6 0) (drop 7 ws)

heads-long : (ws : List ℕ) (n : ℕ) (m : Master) → length ws ≡ 126 → IsSound n ws → HasNumbers ws m → length m.heads ≡ get_or ws 6 0
heads-long ws n m l s e = let a = s.limits.logs.1 in ap length e.heads ∙ part-long ws (get_or ws 6 0) 7 (omega arith)

-- sound words are spelled by the master of their numbers
pub sound-spelled : (ws : List ℕ) (n : ℕ) (m : Master) → length ws ≡ 126 → IsSound n ws → HasNumbers ws m → ws ≡ master_words m
sound-spelled ws n m l s e =
    let w = get_or ws 6 0 in
    let a = s.limits.logs.1 in
    let lh = heads-long ws n m l s e in
    let z : drop (7 + w) ws ≡ replicate (119 - length m.heads) 0 =
    zeros-by (drop (7 + w) ws) (λ k. get_or-drop (7 + w) ws k 0 ∙ s.rest (7 + w + k) (omega arith))
    ∙ ap (λ j. replicate j 0) (length-drop (7 + w) ws ∙ omega arith) in
    let tail : drop 7 ws ≡ m.heads ++ replicate (119 - length m.heads) 0 =
    sym (take-append-drop w (drop 7 ws)) ∙ ap (λ (us : List ℕ). us ++ drop w (drop 7 ws)) (sym e.heads)
    ∙ ap (λ (us : List ℕ). m.heads ++ us) (drop-drop w 7 ws ∙ z) in
    seven-words ws l
    ∙ ap (λ j. j ∷ get_or ws 1 0 ∷ get_or ws 2 0 ∷ get_or ws 3 0 ∷ get_or ws 4 0 ∷ get_or ws 5 0 ∷ w ∷ drop 7 ws) s.limits.format
    ∙ ap (λ j. 1 ∷ j ∷ get_or ws 2 0 ∷ get_or ws 3 0 ∷ get_or ws 4 0 ∷ get_or ws 5 0 ∷ w ∷ drop 7 ws) (sym e.sequence)
    ∙ ap (λ j. 1 ∷ m.sequence ∷ j ∷ get_or ws 3 0 ∷ get_or ws 4 0 ∷ get_or ws 5 0 ∷ w ∷ drop 7 ws) (sym e.generation)
    ∙ ap (λ j. 1 ∷ m.sequence ∷ m.generation ∷ j ∷ get_or ws 4 0 ∷ get_or ws 5 0 ∷ w ∷ drop 7 ws) (sym e.floor)
    ∙ ap (λ j. 1 ∷ m.sequence ∷ m.generation ∷ m.floor ∷ j ∷ get_or ws 5 0 ∷ w ∷ drop 7 ws) (sym e.pages)
    ∙ ap (λ j. 1 ∷ m.sequence ∷ m.generation ∷ m.floor ∷ m.pages ∷ j ∷ w ∷ drop 7 ws) (sym e.blocks)
    ∙ ap (λ j. 1 ∷ m.sequence ∷ m.generation ∷ m.floor ∷ m.pages ∷ m.blocks ∷ j ∷ drop 7 ws) (sym lh)
    ∙ ap (λ (us : List ℕ). 1 ∷ m.sequence ∷ m.generation ∷ m.floor ∷ m.pages ∷ m.blocks ∷ length m.heads ∷ us) tail

pub sound-master : (ws : List ℕ) (n : ℕ) (m : Master) → length ws ≡ 126 → AreWords ws → IsSound n ws → HasNumbers ws m → IsMaster n m
sound-master ws n m l a s e =
    let lh = heads-long ws n m l s e in
    let p0 = s.limits.pages.0 in
    let p1 = s.limits.pages.1 in
    let b0 = s.limits.blocks.0 in
    let b1 = s.limits.blocks.1 in
    let l0 = s.limits.logs.0 in
    let l1 = s.limits.logs.1 in
    let ep = e.pages in
    let eb = e.blocks in
    let es = e.sequence in
    let eg = e.generation in
    let ef = e.floor in
    let q = s.sequence in
    let g = s.generation in
    let f = a.word 3 in
    record {
      pages = (omega arith, omega arith);
      blocks = (omega arith, omega arith);
      logs = (omega arith, omega arith);
      parity = ap (λ j. j % 2) e.sequence ∙ s.parity;
      sequence = omega arith;
      generation = omega arith;
      floor = omega arith;
      heads = λ k lt.
          let lw : k < get_or ws 6 0 = omega arith in
          subst (λ j. j < 2 ^ 63) (sym (ap (λ (us : List ℕ). get_or us k 0) e.heads ∙ heads-at ws (get_or ws 6 0) (get_or ws 6 0) k refl lw)) (s.heads k lw);
    }

tail-at : (m : Master) (k : ℕ) → get_or (master_words m) (7 + k) 0 ≡ get_or (m.heads ++ replicate (119 - length m.heads) 0) k 0
tail-at m k =
    let seven : 7 + k ≡ suc (suc (suc (suc (suc (suc (suc k)))))) = omega arith in
    ap (λ j. get_or (master_words m) j 0) seven

-- the words of a master are sound
pub master-sound : (n : ℕ) (m : Master) → IsMaster n m → IsSound n (master_words m)
master-sound n m h = record {
  limits = record { format = refl; pages = h.pages; blocks = h.blocks; logs = h.logs };
  parity = h.parity;
  sequence = h.sequence;
  generation = h.generation;
  heads = λ k lt. subst (λ j. j < 2 ^ 63) (sym (tail-at m k ∙ get_or_append_left m.heads _ 0 k lt)) (h.heads k lt);
  rest = λ k le.
      let k7 : k ≡ 7 + (k - 7) = omega arith in
      ap (λ j. get_or (master_words m) j 0) k7 ∙ tail-at m (k - 7) ∙ get_or-append_right m.heads _ (length m.heads) (k - 7) 0 refl (omega arith) ∙ zeros-at (119 - length m.heads) (k - 7 - length m.heads);
}

words-cons : (x : ℕ) (xs : List ℕ) → x < 2 ^ 64 → AreWords xs → AreWords (x ∷ xs)
words-cons x xs h a = record { word = go }
  where
    go : (k : ℕ) → get_or (x ∷ xs) k 0 < 2 ^ 64
    go zero = h
    go (suc k) = a.word k

tail-words : (n : ℕ) (m : Master) → IsMaster n m → AreWords (m.heads ++ replicate (119 - length m.heads) 0)
tail-words n m h = record {
  word = λ k. elim (cases_lt k (length m.heads)) [
    | inl lt ↦ let e = get_or_append_left m.heads (replicate (119 - length m.heads) 0) 0 k lt in let b = h.heads k lt in omega arith
    | inr ge ↦ let e = get_or-append_right m.heads (replicate (119 - length m.heads) 0) (length m.heads) k 0 refl ge ∙ zeros-at (119 - length m.heads) (k - length m.heads) in omega arith
  ];
}

pub master-fit : (n : ℕ) (m : Master) → IsMaster n m → AreWords (master_words m)
master-fit n m h =
    let p = h.pages.1 in
    let b = h.blocks.1 in
    let l = h.logs.1 in
    let s = h.sequence in
    let g = h.generation in
    words-cons _ _ (omega arith) (words-cons _ _ (omega arith) (words-cons _ _ (omega arith) (words-cons _ _ h.floor (words-cons _ _ (omega arith) (words-cons _ _ (omega arith) (words-cons _ _ (omega arith) (tail-words n m h)))))))

length-master_words : (n : ℕ) (m : Master) → IsMaster n m → length (master_words m) ≡ 126
length-master_words n m h =
    let l = h.logs.1 in
    let c : length (replicate {A = ℕ} (119 - length m.heads) 0) ≡ 119 - length m.heads = length-replicate (119 - length m.heads) 0 in
    let b : length (m.heads ++ replicate {A = ℕ} (119 - length m.heads) 0) ≡ 119 = length-append m.heads (replicate (119 - length m.heads) 0) ∙ omega arith in
    ap (λ j. suc (suc (suc (suc (suc (suc (suc j))))))) b

-- ## A master and its slot

pub master-has : (n : ℕ) (bytes : List ℕ) (m : Master) → IsMasterSlot n bytes m → HasWords (codes "LEANMAST") bytes (master_words m)
unfolding master_slot
master-has n bytes m s = record { long = length-master_words n m s.holds; fit = master-fit n m s.holds; spelled = s.spelled }

-- the words of a master's slot are sound
pub slot-sound : (n : ℕ) (bytes ws : List ℕ) (m : Master) → HasWords (codes "LEANMAST") bytes ws → IsMasterSlot n bytes m → IsSound n ws
slot-sound n bytes ws m h s = subst (IsSound n) (slot-one (codes "LEANMAST") bytes (master_words m) ws (master-has n bytes m s) h) (master-sound n m s.holds)

pub master-read : (n : ℕ) (bytes ws : List ℕ) (m : Master) → HasWords (codes "LEANMAST") bytes ws → IsSound n ws → HasNumbers ws m → IsMasterSlot n bytes m
unfolding master_slot
master-read n bytes ws m h s e = record {
  holds = sound-master ws n m h.long h.fit s e;
  spelled = h.spelled ∙ ap (slot_of (codes "LEANMAST")) (sound-spelled ws n m h.long s e);
}
