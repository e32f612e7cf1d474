-- What stands in the slot that is not the base's: the base once more, or a stray version.
use Rattle.std.proofs.Common.{◌≡◌, ◌⊎◌, ◌↔◌, ◌<◌, ◌≤◌, ◌+◌, ◌-◌, ℕ, Bool, true, false, not, List, [], ◌∷◌, drop, get_or, refl, sym, ◌∙◌, ap, inl, inr, arith, true≢false}
use mathlib.Core.Bool.{beq}
use Rattle.std.proofs.lemmas.Bool.{cases_lt}
use Rattle.std.proofs.lemmas.Option.{same_Some}
use Rattle.page_model.specs.Nodes.{Node}
use Rattle.page_model.specs.Page.{Page}
use Rattle.page_model.specs.Pairs.{Pair}
use Rattle.master_store.specs.btree_node.Words.{flat}
use Rattle.master_store.specs.disk_slots.declared.master.Master.{Master}
use Rattle.master_store.specs.disk_image.Shown.{Areas, slot_of}
use Rattle.master_store.specs.page_store.Bases.{IsAhead, image_page}
use Rattle.master_store.specs.page_store.Slots.{EverySeal, HasSeal, HoldsIn, slot_bytes}
use Rattle.master_store.specs.page_store.declared.base.Base.{Base}
use Rattle.master_store.specs.page_store.declared.slot.Bounds.{Bounds}
use Rattle.master_store.specs.page_store.declared.slot.Held.TheVariants as held
use Rattle.master_store.specs.page_store.declared.slot.Seal.{Seal}
use Rattle.master_store.specs.page_store.declared.slot.Seal.TheVariants as seal
use Rattle.recovery.specs.Inside.{HasOther, IsStray}
use Rattle.recovery.specs.Installed.{EveryClean}

-- ## The same nodes

pub same_bool : (a b : Bool) → not (beq a b) ≡ false → a ≡ b
same_bool true true e = refl
same_bool true false e = absurd (true≢false e)
same_bool false true e = absurd (true≢false e)
same_bool false false e = refl

pub same_pairs : (xs ys : List Pair) → flat xs ≡ flat ys → xs ≡ ys
same_pairs [] [] e = refl
same_pairs [] (y ∷ ys) e = absurd (cc)
same_pairs (x ∷ xs) [] e = absurd (cc)
same_pairs (x ∷ xs) (y ∷ ys) e =
    let key : x.key ≡ y.key = ap (λ (l : List ℕ). get_or l 0 0) e in
    let word : x.word ≡ y.word = ap (λ (l : List ℕ). get_or l 1 0) e in
    let rest : xs ≡ ys = same_pairs xs ys (ap (drop 2) e) in
    λ i. record { key = key i; word = word i } ∷ rest i

pub same_nodes : (x y : Node) → x.live ≡ y.live → x.level ≡ y.level → x.low ≡ y.low → x.high ≡ y.high → flat x.pairs ≡ flat y.pairs → x ≡ y
same_nodes x y live level low high pairs =
    let all : x.pairs ≡ y.pairs = same_pairs x.pairs y.pairs pairs in
    λ i. record { live = live i; level = level i; low = low i; high = high i; pairs = all i }

-- ## What is read of that slot

module _ (m : Master) (p : ℕ) (area : Areas) (base : Base) where
  abbrev bounds : Bounds
  bounds = record { pages = m.pages; generation = m.generation + 1 }

  abbrev bytes : List ℕ
  bytes = slot_bytes p (1 - base.slot) (area 1)

  -- nothing is ahead
  pub not_ahead : (ahead : Bool) → ahead ≡ false → IsAhead m p area base.slot ahead → IsStray m p area base false
  not_ahead true e is = absurd (true≢false e)
  not_ahead false e is = λ y there late. absurd (let low = is y there in omega arith)

  -- a version that the next master counts
  seen_as : (version : Page) (same : Bool) → HoldsIn bounds p bytes (held.Page version) → ((same ≡ true) ↔ (image_page base.node ≡ image_page version)) → IsAhead m p area base.slot true → IsStray m p area base (not same)
  seen_as version true holds iff is = λ y there late.
      let is_it : version ≡ y = same_Some version y (sym holds.0 ∙ there) in
      let low : version.generation ≤ m.generation + 1 = holds.1 in
      let g = ap (λ (z : Page). z.generation) is_it in
      ((omega arith), sym (iff.0 refl ∙ ap image_page is_it))
  seen_as version false holds iff is =
      let is_it : is.0 ≡ version = same_Some is.0 version (sym is.1 ∙ holds.0) in
      record {
        version = version;
        there = holds.0;
        later = let g = ap (λ (z : Page). z.generation) is_it in let l = is.2 in omega arith;
        other = λ k. true≢false (sym (iff.1 (sym k.1)));
      }

  pub seen_page : (ahead : Bool) → ahead ≡ true → IsAhead m p area base.slot ahead → (version : Page) (same : Bool) → HoldsIn bounds p bytes (held.Page version) → ((same ≡ true) ↔ (image_page base.node ≡ image_page version)) → IsStray m p area base (not same)
  seen_page true e is version same holds iff = seen_as version same holds iff is
  seen_page false e is version same holds iff = absurd (true≢false (sym e))

  -- one that it does not
  module _ (every : EverySeal) where
    seen_none : (s : Seal) → HasSeal bounds p bytes s → (s ≡ seal.Valid → ⊥) → IsAhead m p area base.slot true → IsStray m p area base true
    seen_none s has none is = go (cases_lt (m.generation + 1) is.0.generation)
      where
        go : (m.generation + 1 < is.0.generation) ⊎ (is.0.generation ≤ m.generation + 1) → HasOther m p area base
        go (inl high) = record { version = is.0; there = is.1; later = is.2; other = λ k. (let g = k.0 in omega arith) }
        go (inr low) = absurd (none (every bounds p bytes s seal.Valid has (is.0, is.1, low)))

    pub seen_no_page : (ahead : Bool) → ahead ≡ true → IsAhead m p area base.slot ahead → (s : Seal) → HasSeal bounds p bytes s → (s ≡ seal.Valid → ⊥) → IsStray m p area base true
    seen_no_page true e is s has none = seen_none s has none is
    seen_no_page false e is s has none = absurd (true≢false (sym e))

-- ## A clean disk

pub every_clean : EveryClean
every_clean m area p i clean lt half stray =
    let v = stray.version in
    let k = clean.clean.slots p i (record { generation = v.generation; page = image_page v }) lt half (ap slot_of stray.there) stray.later in
    stray.other k.0 k.1
