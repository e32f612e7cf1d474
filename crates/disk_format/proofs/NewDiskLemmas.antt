-- A disk as `format` leaves it is clean, and stands for the empty map.
use Rattle.std.proofs.Common.{◌≡◌, ⊎_elim, ◌<◌, ◌≤◌, ◌+◌, ◌-◌, ◌*◌, ◌^◌, ◌%◌, ◌==◌, ltb, ℕ, zero, suc, Bool, true, false, cond, List, [], ◌∷◌, ◌++◌, length, take, drop, replicate, Option, Some, None, refl, sym, ◌∙◌, ap, subst, arith, append_assoc, get_or}
use Rattle.std.proofs.lemmas.List.{take_at, drop_at, drop-drop, take-append-drop, length-replicate}
use Rattle.std.proofs.lemmas.Bool.{cases_Bool, and_from, lt-ltb, le-ltb, cond-true, cond-false}
use Rattle.std.proofs.lemmas.Nat.{mod_below}
use Rattle.master_store.specs.image_model.Fair.{piece}
use Rattle.master_store.specs.image_model.Slots.{Shown, Slot, base_of, image_of, newer_page, valid}
use Rattle.image_laws.specs.Formatted.{IsFormatted as IsFormattedImage, FormattedLaws, formatted_page}
use Rattle.image_laws.proofs.FormattedLemmas.{every_formatted}
use Rattle.page_model.specs.Nodes.{free}
use Rattle.page_model.specs.Page.{empty_leaf, new_page}
use Rattle.master_store.specs.btree_node.Words.{words_of, Fits}
use Rattle.master_store.specs.log_block.Block.{generation_of}
use Rattle.master_store.specs.disk_slots.Masters.{IsMaster as HoldsMaster, IsMasterSlot}
use Rattle.master_store.specs.disk_slots.Pages.{IsPage, IsPageSlot, IsStorable, page_slot}
use Rattle.master_store.specs.disk_slots.declared.master.Master.{Master}
use Rattle.master_store.proofs.disk_slots.LawLemmas.{every_master, every_page}
use Rattle.master_store.specs.disk_image.Blocks.{belongs, is_sealed}
use Rattle.master_store.specs.disk_image.Laws.{Agree, Agreement}
use Rattle.master_store.specs.disk_image.MasterSlots.{master_in, master_on, newer}
use Rattle.master_store.specs.disk_image.PageSlots.{page_in}
use Rattle.master_store.specs.disk_image.Runs.{Block, AreReadable, block_at, entries_in, logged_onto, run_in, sealed_in}
use Rattle.master_store.specs.disk_image.Shown.{IsReadable, run_of, shown_by, slot_of}
use Rattle.master_store.specs.disk_image.Words.{are_words}
use Rattle.master_store.proofs.disk_image.AgreementLemmas.{every_agreement}
use Rattle.master_store.proofs.disk_image.BlockInLemmas.{every_belongs, every_sealed}
use Rattle.master_store.proofs.disk_image.MasterSlotLemmas.{every_master_in}
use Rattle.master_store.proofs.disk_image.PageSlotLemmas.{every_page_in}
use Rattle.master_store.proofs.disk_image.TestLemmas.{none_some, some_is}
use Rattle.master_store.proofs.disk_image.WordLemmas.{are_words_to}
use Rattle.disk_format.specs.Formatted.{HasPages, IsFormatted}
use Rattle.disk_format.specs.Fresh.{first_master, fresh_node, fresh_page}
use Rattle.disk_format.specs.Laws.{EveryNewDisk, HasNoBlock, IsNew, IsShape}
use Rattle.disk_format.specs.Pieces.{pages_from}
use Rattle.disk_format.specs.declared.shape.Shape.{Shape}
use Rattle.disk_format.proofs.FreshLemmas.{length-fresh_page, length-fresh_slot}
use Rattle.disk_format.proofs.PieceLemmas.{length-pages_from, pages_from-more}

none_of : {A : Type 0} (o : Option A) → ((x : A) → o ≡ Some x → ⊥) → o ≡ None
none_of None h = refl
none_of (Some x) h = absurd (h x refl)

-- ## A page's place

-- what begins at the place of a page
record Begins (prefix bytes : List ℕ) : Type 0 where
  rest : List ℕ
  is : bytes ≡ prefix ++ rest

module _ (pages p : ℕ) (bytes : List ℕ) (has : HasPages pages bytes) (lt : p < pages) where
  abbrev before : List ℕ
  before = pages_from fresh_page 0 p

  abbrev behind : ℕ
  behind = pages - suc p

  abbrev later : List ℕ
  later = pages_from fresh_page (suc (0 + p)) behind

  all_pages : pages_from fresh_page 0 pages ≡ before ++ (fresh_page p ++ later)
  all_pages =
      let count : pages ≡ p + suc behind = omega (arith, lt) in
      let none : 0 + p ≡ p = omega arith in
      ap (pages_from fresh_page 0) count
      ∙ (pages_from-more fresh_page 2048 length-fresh_page 0 p (suc behind)
      ∙ ap (λ (q : ℕ). before ++ (fresh_page q ++ later)) none)

  page_begins : Begins (fresh_page p) (drop (2048 * p) bytes)
  page_begins =
      let tail : List ℕ = drop (2048 * pages) bytes in
      let split : bytes ≡ before ++ (fresh_page p ++ later) ++ tail = sym (take-append-drop (2048 * pages) bytes) ∙ ap (λ (xs : List ℕ). xs ++ tail) (has ∙ all_pages) in
      let is : bytes ≡ before ++ (fresh_page p ++ (later ++ tail)) =
      split ∙ (append_assoc before (fresh_page p ++ later) tail ∙ ap (λ (xs : List ℕ). before ++ xs) (append_assoc (fresh_page p) later tail)) in
      record {
        rest = later ++ tail;
        is = ap (drop (2048 * p)) is ∙ drop_at before (fresh_page p ++ (later ++ tail)) (2048 * p) (length-pages_from fresh_page 2048 length-fresh_page 0 p);
      }

abbrev first_half : ℕ → List ℕ
first_half p = page_slot (new_page p (fresh_node p))

module _ (p : ℕ) (bytes : List ℕ) (begins : Begins (fresh_page p) (drop (2048 * p) bytes)) where
  abbrev zeros : List ℕ
  zeros = replicate 1024 0

  halves : drop (2048 * p) bytes ≡ first_half p ++ (zeros ++ begins.rest)
  unfolding fresh_page
  halves = begins.is ∙ append_assoc (first_half p) zeros begins.rest

  half_0 : piece 1024 (2 * p + 0) bytes ≡ first_half p
  half_0 =
      let at : 1024 * (2 * p + 0) ≡ 2048 * p = omega arith in
      ap (λ (n : ℕ). take 1024 (drop n bytes)) at ∙ (ap (take 1024) halves ∙ take_at (first_half p) (zeros ++ begins.rest) 1024 (length-fresh_slot p))

  half_1 : piece 1024 (2 * p + 1) bytes ≡ zeros
  half_1 =
      let at : 1024 * (2 * p + 1) ≡ 2048 * p + 1024 = omega arith in
      ap (λ (n : ℕ). take 1024 (drop n bytes)) at
      ∙ (ap (take 1024) (sym (drop-drop 1024 (2048 * p) bytes) ∙ (ap (drop 1024) halves ∙ drop_at (first_half p) (zeros ++ begins.rest) 1024 (length-fresh_slot p)))
      ∙ take_at zeros begins.rest 1024 (length-replicate {A = ℕ} 1024 0))

-- ## A fresh page is one that may be stored

module _ (p pages : ℕ) (small : p < 2 ^ 64) where
  fresh_words : (b : Bool) → are_words (words_of (new_page p (cond b (empty_leaf 0 (2 ^ 64 - 1)) free))) ≡ true
  fresh_words true = and_from (ltb p (2 ^ 64)) _ (lt-ltb p (2 ^ 64) small) refl
  fresh_words false = and_from (ltb p (2 ^ 64)) _ (lt-ltb p (2 ^ 64) small) refl

  fresh_fits : (b : Bool) → Fits (new_page p (cond b (empty_leaf 0 (2 ^ 64 - 1)) free))
  fresh_fits true = record { room = omega arith; level = omega arith; last_log = omega arith; ordered = tt }
  fresh_fits false = record { room = omega arith; level = omega arith; last_log = omega arith; ordered = tt }

  fresh_stores : (b : Bool) → IsStorable pages (cond b (empty_leaf 0 (2 ^ 64 - 1)) free)
  fresh_stores true = record {
    values = λ live level x h. absurd h;
    children = λ live level. absurd (omega (arith, level));
    first = λ live level. absurd (omega (arith, level));
    other = λ dead. cc;
  }
  fresh_stores false = record {
    values = λ live level x h. absurd h;
    children = λ live level. absurd (omega (arith, level));
    first = λ live level. absurd (omega (arith, level));
    other = λ dead. refl;
  }

  fresh_is_page : IsPage p pages (new_page p (fresh_node p))
  fresh_is_page = record {
    fits = fresh_fits (p == 0);
    words = are_words_to (words_of (new_page p (fresh_node p))) (fresh_words (p == 0));
    number = refl;
    node = fresh_stores (p == 0);
  }

-- ## A log without a block

module _ (n : ℕ) (area : List ℕ) (none : HasNoBlock n area) where
  sealed_none : (k : ℕ) → k ≤ n → sealed_in k area ≡ []
  sealed_none zero le = refl
  sealed_none (suc k) le = ⊎_elim
      (λ (e : is_sealed (piece 2048 k area) ≡ true). absurd (none k (omega (arith, le)) ((every_sealed (piece 2048 k area)).0 e)))
      (λ (e : is_sealed (piece 2048 k area) ≡ false). cond-false (is_sealed (piece 2048 k area)) (generation_of (piece 2048 k area) ∷ sealed_in k area) (sealed_in k area) e ∙ sealed_none k (omega (arith, le)))
      (cases_Bool (is_sealed (piece 2048 k area)))

  run_none : (generation log count q : ℕ) → 0 < n → run_in generation log n area count q ≡ []
  run_none generation log zero q some = refl
  run_none generation log (suc count) q some = ⊎_elim
      (λ (e : belongs generation log q (block_at n q area) ≡ true). absurd (none (q % n) (mod_below q n some) ((every_belongs generation log q (block_at n q area)).0 e).sealed))
      (λ (e : belongs generation log q (block_at n q area) ≡ false).
      cond-false (belongs generation log q (block_at n q area)) (record { number = q; bytes = block_at n q area } ∷ run_in generation log n area count (suc q)) [] e)
      (cases_Bool (belongs generation log q (block_at n q area)))

-- ## The disk

zero_head : (n k : ℕ) → ◌≡◌ {A = ℕ} (get_or {A = ℕ} (replicate {A = ℕ} n 0) k 0) 0
zero_head zero k = refl
zero_head (suc n) zero = refl
zero_head (suc n) (suc k) = zero_head n k

module _ (shape : Shape) (area : ℕ → List ℕ) (fit : IsShape shape) (is : IsFormatted shape area) (none : (w : ℕ) → 0 < w → w ≤ shape.workers → HasNoBlock shape.blocks (area (suc w))) where
  abbrev m : Master
  m = first_master shape

  abbrev s : Shown
  s = shown_by m area

  logs_are : length m.heads ≡ shape.workers
  logs_are = length-replicate shape.workers 0

  head_is : (k : ℕ) → get_or m.heads k 0 ≡ 0
  head_is k = zero_head shape.workers k

  holds : HoldsMaster 0 m
  holds = record {
    pages = (fit.pages.0, omega (arith, fit.pages.1));
    blocks = fit.blocks;
    logs = (let few = fit.workers in omega (arith, logs_are, few.0), let few = fit.workers in omega (arith, logs_are, few.1));
    parity = refl;
    sequence = omega arith;
    generation = omega arith;
    floor = omega arith;
    heads = heads;
  }
    where
      heads : (k : ℕ) → k < length m.heads → get_or m.heads k 0 < 2 ^ 63
      heads k lt = omega (arith, head_is k)

  master_is : master_on (area 0) ≡ Some m
  master_is =
      let zero_is : master_in 0 (piece 1024 0 (area 0)) ≡ Some m = (every_master_in 0 (piece 1024 0 (area 0)) m).1 (record { holds = holds; spelled = is.master }) in
      let one_is : master_in 1 (piece 1024 1 (area 0)) ≡ None = none_of (master_in 1 (piece 1024 1 (area 0))) (λ o e.
      let slot : IsMasterSlot 1 (piece 1024 1 (area 0)) o = (every_master_in 1 (piece 1024 1 (area 0)) o).0 e in
      is.no_other (record { sealed = (every_master 1 o).sealed (piece 1024 1 (area 0)) slot; master = o; is = slot })) in
      ap (λ (o : Option Master). newer o (master_in 1 (piece 1024 1 (area 0)))) zero_is ∙ ap (λ (o : Option Master). newer (Some m) o) one_is

  -- the logs
  one_of : (w : ℕ) → w ≤ length m.heads → w ≤ shape.workers
  one_of w last = omega (arith, logs_are, last)

  log_none : (w : ℕ) → 0 < w → w ≤ length m.heads → run_of m w (area (suc w)) ≡ []
  log_none w some last = run_none shape.blocks (area (suc w)) (none w some (one_of w last)) 0 w shape.blocks (get_or m.heads (w - 1) 0) (omega (arith, fit.blocks.0))

  readable : IsReadable m area
  readable w some last = subst (AreReadable 0 w) (sym (log_none w some last)) tt

  -- the slots
  abbrev fresh_slot : ℕ → Slot
  fresh_slot p = record { generation = 0; page = formatted_page s.format p }

  slot_0 : (p : ℕ) → p < shape.pages → s.slot p 0 ≡ Some (fresh_slot p)
  slot_0 p lt =
      let small : p < 2 ^ 64 = omega (arith, lt, fit.pages.1) in
      ap slot_of ((every_page_in p shape.pages (piece 1024 (2 * p + 0) (area 1)) (new_page p (fresh_node p))).1
      (record { holds = fresh_is_page p shape.pages small; spelled = half_0 p (area 1) (page_begins shape.pages p (area 1) is.pages lt) }))

  slot_1 : (p : ℕ) → p < shape.pages → s.slot p 1 ≡ None
  slot_1 p lt = ap slot_of (none_of (page_in p shape.pages (piece 1024 (2 * p + 1) (area 1))) (λ q e.
      let at : IsPageSlot p shape.pages (piece 1024 (2 * p + 1) (area 1)) q = (every_page_in p shape.pages (piece 1024 (2 * p + 1) (area 1)) q).0 e in
      (every_page p shape.pages q).zeros (subst (λ (bs : List ℕ). IsPageSlot p shape.pages bs q) (half_1 p (area 1) (page_begins shape.pages p (area 1) is.pages lt)) at)))

  -- What is shown, but for slots of pages that there are not.
  abbrev cut : Shown
  cut = record s { slot = λ p i. cond (ltb p shape.pages) (s.slot p i) None }

  kept : (p i : ℕ) → p < shape.pages → cut.slot p i ≡ s.slot p i
  kept p i lt = cond-true (ltb p shape.pages) (s.slot p i) None (lt-ltb p shape.pages lt)

  same_base : (p : ℕ) → p < shape.pages → base_of cut p ≡ base_of s p
  same_base p lt = ap (λ (o : Option Slot). newer_page (valid 0 o) (valid 0 (cut.slot p 1))) (kept p 0 lt) ∙ ap (λ (o : Option Slot). newer_page (valid 0 (s.slot p 0)) (valid 0 o)) (kept p 1 lt)

  base_is : (p : ℕ) → p < shape.pages → base_of s p ≡ Some (formatted_page s.format p)
  base_is p lt = ap (λ (o : Option Slot). newer_page (valid 0 o) (valid 0 (s.slot p 1))) (slot_0 p lt) ∙ ap (λ (o : Option Slot). newer_page (Some (fresh_slot p)) (valid 0 o)) (slot_1 p lt)

  no_base : (p : ℕ) → shape.pages ≤ p → base_of cut p ≡ None
  no_base p ge =
      let none_at : (i : ℕ) → cut.slot p i ≡ None = λ i. cond-false (ltb p shape.pages) (s.slot p i) None (le-ltb p shape.pages ge) in
      ap (λ (o : Option Slot). newer_page (valid 0 o) (valid 0 (cut.slot p 1))) (none_at 0) ∙ ap (λ (o : Option Slot). newer_page None (valid 0 o)) (none_at 1)

  of_first : (p i : ℕ) (x : Slot) → p < shape.pages → i < 2 → s.slot p i ≡ Some x → x.generation ≡ 0
  of_first p zero x lt two e = sym (ap (λ (y : Slot). y.generation) (some_is (fresh_slot p) x (sym (slot_0 p lt) ∙ e)))
  of_first p (suc zero) x lt two e = absurd (none_some x (sym (slot_1 p lt) ∙ e))
  of_first p (suc (suc i)) x lt two e = absurd (omega (arith, two))

  formatted : IsFormattedImage cut
  formatted = record {
    pages = λ p lt. same_base p lt ∙ base_is p lt;
    beyond = no_base;
    slots = λ p i x lt two e. let first : x.generation ≡ 0 = of_first p i x lt two (sym (kept p i lt) ∙ e) in omega (arith, first);
    logs = λ w some last. ap (λ (bs : List Block). entries_in (logged_onto 0 w shape.blocks [] bs)) (log_none w some last);
    sealed = λ w some last. sealed_none shape.blocks (area (suc w)) (none w some (one_of w last)) shape.blocks (omega arith);
  }

  laws : FormattedLaws cut
  laws = every_formatted cut (omega (arith, fit.pages.0)) formatted

  agree : Agree (image_of cut) (image_of s)
  agree = record { format = refl; logs = refl; floor = refl; log = λ w some last. refl; base = same_base }

  agreement : Agreement (image_of cut) (image_of s)
  agreement = every_agreement (image_of cut) (image_of s) agree laws.clean.sound

  pub is_new : IsNew shape area
  is_new = record {
    clean = record {
      master = master_is;
      readable = readable;
      clean = record {
        sound = agreement.sound;
        blocks = laws.clean.blocks;
        slots = λ p i x lt two e after. absurd (let first : x.generation ≡ 0 = of_first p i x lt two e in omega (arith, first, after));
      };
    };
    stands = record {
      master = master_is;
      readable = readable;
      stands = record {
        sound = agreement.sound;
        map = λ k. laws.stands.map k ∙ sym (agreement.map k);
        won = laws.stands.won ∙ sym agreement.won;
      };
    };
  }

pub every_new_disk : EveryNewDisk
every_new_disk shape area fit is none = is_new shape area fit is none
