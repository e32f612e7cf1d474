-- A run that is read block by block.
use Rattle.std.proofs.Common.{◌≡◌, ◌⊎◌, inl, inr, ◌<◌, ◌≤◌, ◌-◌, ◌+◌, ◌%◌, ◌++◌, ℕ, suc, zero, true, false, List, [], ◌∷◌, length, Option, Some, None, refl, sym, ◌∙◌, ap, subst, arith}
use Rattle.std.proofs.lemmas.Bool.{cond-true, cond-false, false_from_ne_true}
use Rattle.std.proofs.lemmas.List.{append_assoc, length-append}
use Rattle.map_model.specs.Lists.{Has}
use Rattle.disk_image.specs.image_model.Images.{IsFalling}
use Rattle.disk_image.specs.log_record.declared.record.Record.{Record}
use Rattle.disk_image.specs.log_block.Block.{Belongs}
use Rattle.log_index.specs.Items.{Item, items_of}
use Rattle.disk_image.specs.disk_slots.declared.master.Master.{Master}
use Rattle.disk_image.specs.Records.{entry_of as entry_in}
use Rattle.disk_image.specs.Blocks.{belongs, block_in}
use Rattle.disk_image.specs.Runs as runs
use Rattle.disk_image.specs.Runs.{Block, Logged, block_at, run_in, records_onto, records_or, entries_in, AreReadable}
use Rattle.disk_image.specs.Shown.{Areas, head_of, run_of, logged_in}
use Rattle.disk_image.proofs.BlockInLemmas.{every_belongs}
use Rattle.recovery_scan.specs.Records.{entry_of, logged_of}
use Rattle.recovery_scan.specs.Scans.{IsBadLog}
use Rattle.recovery_scan.specs.Inside.{logged, rest_of, BlockAdded, IsBadBlock, IsGoing, IsLate, IsScan}
use Rattle.recovery_scan.proofs.ItemLemmas.{has_items, logged_at, logged_block, logged_last}
use Rattle.recovery_scan.proofs.RisingLemmas.{IsLateIn, falling_more, late_in}

-- records are put before all that stood there
pub record Before (xs behind : List Logged) : Type 0 where
  pub newer : List Logged
  pub is : xs ≡ newer ++ behind

before-more : (newer : List Logged) (x : Logged) (behind xs : List Logged) → xs ≡ newer ++ x ∷ behind → Before xs behind
before-more newer x behind xs is = record { newer = newer ++ x ∷ []; is = is ∙ at newer }
  where
    at : (ys : List Logged) → ys ++ x ∷ behind ≡ (ys ++ x ∷ []) ++ behind
    at [] = refl
    at (y ∷ ys) = ap (λ (zs : List Logged). y ∷ zs) (at ys)

pub onto-before : (w place : ℕ) (behind : List Logged) (rs : List Record) → Before (records_onto w place behind rs) behind
onto-before w place behind [] = record { newer = []; is = refl }
onto-before w place behind (r ∷ rs) =
    let b = onto-before w place (record { place = place; entry = entry_in w r } ∷ behind) rs in
    before-more b.newer (record { place = place; entry = entry_in w r }) behind (records_onto w place (record { place = place; entry = entry_in w r } ∷ behind) rs) b.is

before-before : (xs ys zs : List Logged) → Before xs ys → Before ys zs → Before xs zs
before-before xs ys zs a b = record { newer = a.newer ++ b.newer; is = a.is ∙ (ap (λ (l : List Logged). a.newer ++ l) b.is ∙ at a.newer) }
  where
    at : (ns : List Logged) → ns ++ (b.newer ++ zs) ≡ (ns ++ b.newer) ++ zs
    at [] = refl
    at (n ∷ ns) = ap (λ (l : List Logged). n ∷ l) (at ns)

pub run-before : (generation w n : ℕ) (behind : List Logged) (bs : List Block) → Before (runs.logged_onto generation w n behind bs) behind
run-before generation w n behind [] = record { newer = []; is = refl }
run-before generation w n behind (b ∷ bs) =
    let rs : List Record = records_or (block_in generation w b.number b.bytes) in
    before-before (runs.logged_onto generation w n (records_onto w (b.number % n) behind rs) bs) (records_onto w (b.number % n) behind rs) behind
    (run-before generation w n (records_onto w (b.number % n) behind rs) bs) (onto-before w (b.number % n) behind rs)

module _ (m : Master) (w : ℕ) (bytes : List ℕ) where
  -- nothing was read
  pub going-none : IsGoing m w bytes 0 []
  going-none =
      let all : m.blocks - 0 ≡ m.blocks = omega arith in
      let first : head_of m w + 0 ≡ head_of m w = omega arith in
      let same : run_of m w bytes ≡ rest_of m w bytes 0 = sym (ap (λ (k : ℕ). run_in m.generation w m.blocks bytes k (head_of m w + 0)) all ∙ ap (run_in m.generation w m.blocks bytes m.blocks) first) in
      record {
        records = ap (runs.logged_onto m.generation w m.blocks []) same;
        readable = subst (AreReadable m.generation w) (sym same);
        has = λ b. subst (Has b) (sym same);
        falling = tt;
      }

  module _ (count : ℕ) (found : List Item) (going : IsGoing m w bytes count found) where
    abbrev here : ℕ
    here = head_of m w + count

    -- the run goes on
    run-more : count < m.blocks → belongs m.generation w here (block_at m.blocks here bytes) ≡ true → rest_of m w bytes count ≡ record { number = here; bytes = block_at m.blocks here bytes } ∷ rest_of m w bytes (count + 1)
    run-more lt is =
        let more : m.blocks - count ≡ suc (m.blocks - (count + 1)) = omega (arith, lt) in
        let next : suc (head_of m w + count) ≡ head_of m w + (count + 1) = omega arith in
        ap (λ (k : ℕ). run_in m.generation w m.blocks bytes k here) more
        ∙ (cond-true (belongs m.generation w here (block_at m.blocks here bytes)) _ _ is
        ∙ ap (λ (q : ℕ). record { number = here; bytes = block_at m.blocks here bytes } ∷ run_in m.generation w m.blocks bytes (m.blocks - (count + 1)) q) next)

    -- or ends
    run-ends : belongs m.generation w here (block_at m.blocks here bytes) ≡ false → rest_of m w bytes count ≡ []
    run-ends is = at (m.blocks - count)
      where
        at : (k : ℕ) → run_in m.generation w m.blocks bytes k here ≡ []
        at zero = refl
        at (suc k) = cond-false (belongs m.generation w here (block_at m.blocks here bytes)) _ _ is

    run-over : m.blocks ≤ count → rest_of m w bytes count ≡ []
    run-over le = let none : m.blocks - count ≡ 0 = omega (arith, le) in ap (λ (k : ℕ). run_in m.generation w m.blocks bytes k here) none

    -- where it ends, all was found
    pub scanned : (area : Areas) → area (suc w) ≡ bytes → rest_of m w bytes count ≡ [] → IsScan m w area found
    scanned area is over =
        let all : logged found ≡ logged_in m w bytes = sym (going.records ∙ ap (runs.logged_onto m.generation w m.blocks (logged found)) over) in
        subst (λ (b : List ℕ). AreReadable m.generation w (run_of m w b) × (logged found ≡ logged_in m w b) × IsFalling (entries_in (logged_in m w b)) → IsScan m w area found) is
        (λ (t : AreReadable m.generation w (run_of m w (area (suc w))) × (logged found ≡ logged_in m w (area (suc w))) × IsFalling (entries_in (logged_in m w (area (suc w))))). record { readable = t.0; records = t.1; rising = t.2 })
        (going.readable (subst (AreReadable m.generation w) (sym over) tt), all, subst (λ (l : List Logged). IsFalling (entries_in l)) all going.falling)

    pub scanned-over : (area : Areas) → area (suc w) ≡ bytes → m.blocks ≤ count → IsScan m w area found
    scanned-over area is le = scanned area is (run-over le)

    -- the next block was read
    module _ (lt : count < m.blocks) (start : ℕ) (old index : List Item) (begins : start ≡ length old) (so_far : index ≡ old ++ found)
        (number : ℕ) (named : number ≡ here) (buffer : List ℕ) (holds : buffer ≡ block_at m.blocks number bytes) where
      abbrev it : Block
      it = record { number = number; bytes = block_at m.blocks number bytes }

      goes : Belongs m.generation w number buffer → rest_of m w bytes count ≡ it ∷ rest_of m w bytes (count + 1)
      goes b = subst (λ (q : ℕ). belongs m.generation w q (block_at m.blocks q bytes) ≡ true → rest_of m w bytes count ≡ record { number = q; bytes = block_at m.blocks q bytes } ∷ rest_of m w bytes (count + 1)) (sym named) (run-more lt)
          ((every_belongs m.generation w number (block_at m.blocks number bytes)).1 (subst (Belongs m.generation w number) holds b))

      -- it does not belong to the run
      pub going-ends : (area : Areas) → area (suc w) ≡ bytes → (Belongs m.generation w number buffer → ⊥) → IsScan m w area found
      going-ends area is other = scanned area is (run-ends (subst (λ (q : ℕ). belongs m.generation w q (block_at m.blocks q bytes) ≡ false) named
          (false_from_ne_true (belongs m.generation w number (block_at m.blocks number bytes)) (λ e. other (subst (Belongs m.generation w number) (sym holds) ((every_belongs m.generation w number (block_at m.blocks number bytes)).0 e))))))

      spelled : block_in m.generation w number (block_at m.blocks number bytes) ≡ block_in m.generation w number buffer
      spelled = ap (block_in m.generation w number) (sym holds)

      -- its records are added
      pub going-more : (next : List Item) (b : BlockAdded start m.generation w number (number % m.blocks) buffer index next)
          → IsGoing m w bytes (count + 1) (found ++ items_of w (number % m.blocks) b.records)
      going-more next b =
          let place : ℕ = number % m.blocks in
          let more = goes b.belongs in
          let added : List Item = items_of w place b.records in
          let all : next ≡ old ++ (found ++ added) = b.added ∙ (ap (λ (xs : List Item). xs ++ added) so_far ∙ append_assoc old found added) in
          let long : length index ≡ length old + length found = ap length so_far ∙ length-append old found in
          record {
            records = going.records ∙ (ap (runs.logged_onto m.generation w m.blocks (logged found)) more
                ∙ ap (λ (l : List Logged). runs.logged_onto m.generation w m.blocks l (rest_of m w bytes (count + 1)))
                (ap (λ (o : Option (List Record)). records_onto w place (logged found) (records_or o)) (spelled ∙ b.is) ∙ sym (logged_block w place found b.records)));
            readable = λ r. going.readable (subst (AreReadable m.generation w) (sym more) ((b.records, spelled ∙ b.is), r));
            has = λ x h. going.has x (subst (Has x) (sym more) (inr h));
            falling = falling_more start (length index) (length next) old next begins refl b.rising found added all (omega (arith, long)) going.falling;
          }

      -- it is bad
      pub going-bad : (area : Areas) → area (suc w) ≡ bytes → (0 < w) × (w ≤ length m.heads) → IsBadBlock start m.generation w number (number % m.blocks) buffer index → IsBadLog m w area (number % m.blocks)
      going-bad area same log b = at b.bad
        where
          place : ℕ
          place = number % m.blocks

          at : (block_in m.generation w number buffer ≡ None) ⊎ ((rs : List Record) × (block_in m.generation w number buffer ≡ Some rs) × IsLate start (length index) (index ++ items_of w place rs)) → IsBadLog m w area place
          at (inl none) = inl (record {
            log = log;
            block = it;
            has = subst (λ (b : List ℕ). Has it (run_of m w b)) (sym same) (going.has it (subst (Has it) (sym (goes b.belongs)) (inl refl)));
            at = refl;
            none = spelled ∙ none;
          })
          at (inr (rs, is, late)) =
              let added : List Item = items_of w place rs in
              let l : IsLateIn found added = late_in start (length index) old found added begins (ap length so_far) (subst (λ (xs : List Item). IsLate start (length index) (xs ++ added)) so_far late) in
              let older : List Item = l.older ++ l.one ∷ [] in
              let here : records_onto w place (logged found) rs ≡ logged l.newer ++ logged_of l.other ∷ logged older =
              sym (logged_block w place found rs) ∙ (ap logged l.splits ∙ logged_at older l.other l.newer) in
              let all : logged_in m w bytes ≡ runs.logged_onto m.generation w m.blocks (records_onto w place (logged found) rs) (rest_of m w bytes (count + 1)) =
              going.records ∙ (ap (runs.logged_onto m.generation w m.blocks (logged found)) (goes b.belongs)
              ∙ ap (λ (o : Option (List Record)). runs.logged_onto m.generation w m.blocks (records_onto w place (logged found) (records_or o)) (rest_of m w bytes (count + 1))) (spelled ∙ is)) in
              let both = before-before (runs.logged_onto m.generation w m.blocks (records_onto w place (logged found) rs) (rest_of m w bytes (count + 1))) (records_onto w place (logged found) rs) (logged_of l.other ∷ logged older)
              (run-before m.generation w m.blocks (records_onto w place (logged found) rs) (rest_of m w bytes (count + 1))) (record { newer = logged l.newer; is = here }) in
              inr (record {
                log = log;
                newer = both.newer;
                it = logged_of l.other;
                older = logged older;
                splits = ap (logged_in m w) same ∙ (all ∙ both.is);
                at = (has_items w place rs l.other l.has).1;
                other = entry_of l.one;
                has = subst (λ (ls : List Logged). Has (entry_of l.one) (entries_in ls)) (sym (logged_last l.older l.one)) (inl refl);
                above = l.late;
              })

-- what is no value is none
pub none-of : {A : Type 0} (o : Option A) → ((x : A) → o ≡ Some x → ⊥) → o ≡ None
none-of None other = refl
none-of (Some x) other = absurd (other x refl)
