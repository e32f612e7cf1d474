-- The laws of slots.
use Rattle.std.proofs.Common.{◌≡◌, ℕ, zero, suc, ◌-◌, ◌*◌, ◌<◌, ◌≤◌, true, false, List, [], ◌∷◌, ◌++◌, length, get_or, take, drop, replicate, refl, sym, ap, subst, ◌∙◌, arith, codes}
use Rattle.std.proofs.lemmas.List.{length-replicate, take-replicate, take_at}
use Rattle.page_model.specs.Pairs.{Pair, Rising}
use Rattle.page_model.specs.Nodes.{Format, Node, WellFormed}
use Rattle.page_model.specs.Page.{Page}
use Rattle.btree_node.specs.Words.{words_of, kind_of, packed, Fits, IsOrdered}
use Rattle.btree_node.proofs.SpellingLemmas.{one-page}
use Rattle.lean_bytes.specs.Numbers.{words_bytes, number_bytes, AreWords}
use Rattle.disk_slots.specs.declared.master.Master.{Master}
use Rattle.disk_slots.specs.Slots.{HasWords}
use Rattle.disk_slots.specs.Pages.{IsPage, IsPageSlot}
use Rattle.disk_slots.specs.Masters.{master_words, IsMasterSlot}
use Rattle.disk_slots.specs.Laws.{IsSized, EveryPage, EveryMaster}
use Rattle.disk_slots.proofs.SlotLemmas.{slot-one, slot-sealed, slot-words_prefix}
use Rattle.disk_slots.proofs.PageLemmas.{page-words, page-spells}
use Rattle.disk_slots.proofs.MasterLemmas.{master-has, zeros-at}

-- ## Zeros are no slot

zero-bytes : number_bytes 8 0 ≡ replicate 8 0
unfolding number_bytes
zero-bytes = refl

zero-words : (n : ℕ) → words_bytes (replicate n 0) ≡ replicate (8 * n) 0
unfolding words_bytes
zero-words zero = refl
zero-words (suc n) =
    let e : 8 * suc n ≡ suc (suc (suc (suc (suc (suc (suc (suc (8 * n)))))))) = omega arith in
    ap (λ (us : List ℕ). us ++ words_bytes (replicate n 0)) zero-bytes
    ∙ ap (λ (us : List ℕ). 0 ∷ 0 ∷ 0 ∷ 0 ∷ 0 ∷ 0 ∷ 0 ∷ 0 ∷ us) (zero-words n)
    ∙ ap (λ j. replicate j 0) (sym e)

zeros-fit : (n : ℕ) → AreWords (replicate n 0)
zeros-fit n = record { word = λ k. let e = zeros-at n k in omega arith }

prefix-zeros : (n m : ℕ) → m ≡ n → n ≤ 1024 → replicate m 0 ≡ take n (replicate {A = ℕ} 1024 0)
prefix-zeros n m e h = ap (λ j. replicate j 0) e ∙ sym (take-replicate n 1024 0 h)

-- words whose bytes are zeros are zeros
zeros-words : (tag ws : List ℕ) → HasWords tag (replicate 1024 0) ws → ws ≡ replicate 126 0
zeros-words tag ws h = slot-words_prefix tag (replicate 1024 0) ws (replicate 126 0) (1024 - 16) refl h (length-replicate {A = ℕ} 126 0) (zeros-fit 126)
    (zero-words 126 ∙ prefix-zeros (1024 - 16) (8 * 126) (omega arith) (omega arith))

page-zeros : (n pages : ℕ) (p : Page) → IsPageSlot n pages (replicate 1024 0) p → ⊥
page-zeros n pages p s =
    let e = zeros-words (codes "LEANPAGE") (words_of p) (page-words n pages (replicate 1024 0) p s) in
    let f : packed (length p.node.pairs) p.node.level p.last_log (kind_of p.node.live) ≡ 0 = ap (λ (us : List ℕ). get_or us 3 0) e in
    go p.node.live (omega arith)
  where
    go : (b : _) → kind_of b ≡ 0 → ⊥
    go true z = absurd (omega arith)
    go false z = absurd (omega arith)

master-zeros : (n : ℕ) (m : Master) → IsMasterSlot n (replicate 1024 0) m → ⊥
master-zeros n m s =
    let e = zeros-words (codes "LEANMAST") (master_words m) (master-has n (replicate 1024 0) m s) in
    let zero' : ℕ = 0 in
    let one : ℕ = 1 in
    let f : one ≡ zero' = ap (λ (us : List ℕ). get_or us 0 0) e in
    omega arith

-- ## One page, one master

pub page-one : (n pages m others : ℕ) (bytes : List ℕ) (p q : Page) → IsPageSlot n pages bytes p → IsPageSlot m others bytes q → p ≡ q
page-one n pages m others bytes p q s t =
    let h = page-words n pages bytes p s in
    sym (one-page (words_of p) p (page-spells n pages bytes (words_of p) p h s)) ∙ one-page (words_of p) q (page-spells m others bytes (words_of p) q h t)

master-one : (n k : ℕ) (bytes : List ℕ) (m o : Master) → IsMasterSlot n bytes m → IsMasterSlot k bytes o → m ≡ o
master-one n k bytes m o s t =
    let e : master_words m ≡ master_words o = slot-one (codes "LEANMAST") bytes (master_words m) (master_words o) (master-has n bytes m s) (master-has k bytes o t) in
    let at = λ (i : ℕ). ap (λ (us : List ℕ). get_or us i 0) e in
    let lh : length m.heads ≡ length o.heads = at 6 in
    let tail : m.heads ++ replicate (119 - length m.heads) 0 ≡ o.heads ++ replicate (119 - length o.heads) 0 = ap (drop 7) e in
    let heads : m.heads ≡ o.heads = sym (take_at m.heads (replicate (119 - length m.heads) 0) (length m.heads) refl) ∙ ap (take (length m.heads)) tail ∙ take_at o.heads (replicate (119 - length o.heads) 0) (length m.heads) (sym lh) in
    same m o (at 1) (at 2) (at 3) (at 4) (at 5) heads
  where
    same : (m o : Master) → m.sequence ≡ o.sequence → m.generation ≡ o.generation → m.floor ≡ o.floor → m.pages ≡ o.pages → m.blocks ≡ o.blocks → m.heads ≡ o.heads → m ≡ o
    same m o a b c d e f =
        ap (λ x. record m { sequence = x }) a ∙ ap (λ x. record m { sequence = o.sequence; generation = x }) b
        ∙ ap (λ x. record m { sequence = o.sequence; generation = o.generation; floor = x }) c
        ∙ ap (λ x. record m { sequence = o.sequence; generation = o.generation; floor = o.floor; pages = x }) d
        ∙ ap (λ x. record m { sequence = o.sequence; generation = o.generation; floor = o.floor; pages = o.pages; blocks = x }) e
        ∙ ap (λ (x : List ℕ). record m { sequence = o.sequence; generation = o.generation; floor = o.floor; pages = o.pages; blocks = o.blocks; heads = x }) f

-- ## Well formed nodes

rising-from_ordered : (low : ℕ) (ps : List Pair) (high : ℕ) → IsOrdered low ps high → (ps ≡ [] → low ≤ high) → Rising low ps high
rising-from_ordered low [] high o e = e refl
rising-from_ordered low (p ∷ ps) high o e = o

ordered-from_rising : (low : ℕ) (ps : List Pair) (high : ℕ) → Rising low ps high → IsOrdered low ps high
ordered-from_rising low [] high r = tt
ordered-from_rising low (p ∷ ps) high r = r

page-formed : (n pages : ℕ) (p : Page) (f : Format) → IsSized f → f.pages ≡ pages → IsPage n pages p → (p.node.pairs ≡ [] → p.node.low ≤ p.node.high) → WellFormed f p.node
page-formed n pages p f z e s o = record {
  node = λ l. record {
    sized = let a = s.fits.room in let b = z.room in omega arith;
    tall = let a = s.fits.level in let b = z.levels in omega arith;
    rising = rising-from_ordered p.node.low p.node.pairs p.node.high s.fits.ordered o;
    values = λ q x h. let a = s.node.values l q x h in let b = z.dead in omega arith;
    children = λ q x h. let a = s.node.children l q x h in (a.0, (let b = a.1 in omega arith));
    first = s.node.first l;
  };
  other = s.node.other;
}

page-stored : (n pages : ℕ) (p : Page) (f : Format) → IsSized f → f.pages ≡ pages → WellFormed f p.node → p.number ≡ n → p.last_log < 256 → AreWords (words_of p) → IsPage n pages p
page-stored n pages p f z e w q l a = record {
  fits = fits p.node.live refl;
  words = a;
  number = q;
  node = record {
    values = λ v y x h. let k = (w.node v).values y x h in let b = z.dead in omega arith;
    children = λ v y x h. let k = (w.node v).children y x h in (k.0, (let b = k.1 in omega arith));
    first = λ v. (w.node v).first;
    other = w.other;
  };
}
  where
    fits : (b : _) → p.node.live ≡ b → Fits p
    fits true v = record {
      room = let k = (w.node v).sized in let b = z.room in omega arith;
      level = let k = (w.node v).tall in let b = z.levels in omega arith;
      last_log = l;
      ordered = ordered-from_rising p.node.low p.node.pairs p.node.high (w.node v).rising;
    }
    fits false v = subst (λ (x : Node). Fits (record p { node = x })) (sym (w.other v)) (record { room = omega arith; level = omega arith; last_log = l; ordered = tt })

pub every_page : EveryPage
every_page n pages p = record {
  one = λ bytes m others q. page-one n pages m others bytes p q;
  sealed = λ bytes s. slot-sealed _ _ _ (page-words n pages bytes p s);
  zeros = page-zeros n pages p;
  formed = page-formed n pages p;
  stored = page-stored n pages p;
}

pub every_master : EveryMaster
every_master n m = record {
  one = λ bytes k o. master-one n k bytes m o;
  sealed = λ bytes s. slot-sealed _ _ _ (master-has n bytes m s);
  zeros = master-zeros n m;
}
