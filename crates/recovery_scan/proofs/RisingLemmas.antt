-- Numbers that rise from neighbour to neighbour.
use Rattle.std.proofs.Common.{◌≡◌, ◌⊎◌, inl, inr, ◌≤◌, ◌<◌, ◌-◌, ◌+◌, ◌++◌, ℕ, zero, suc, List, [], ◌∷◌, length, drop, get_or, refl, sym, ◌∙◌, ap, subst, arith}
use Rattle.std.proofs.lemmas.List.{append-nil, append_assoc, length-append, length-drop, get_or_at}
use Rattle.map_model.specs.Lists.{Has}
use Rattle.disk_image.specs.image_model.Entries.{Entry}
use Rattle.disk_image.specs.image_model.Images.{IsFalling}
use Rattle.disk_image.specs.Runs.{Logged, entries_in}
use Rattle.log_index.specs.Items.{Item}
use Rattle.recovery_scan.specs.Records.{logged_of}
use Rattle.recovery_scan.specs.Inside.{logged, Neighbours, NoneIsLate, IsLate}
use Rattle.recovery_scan.proofs.ItemLemmas.{has_middle, cut, logged_last}

-- ## Neighbours

-- two neighbours stand at a place and the next one
pub record Stand (items : List Item) (i : ℕ) : Type 0 where
  pub at : Neighbours items
  pub place : length at.older ≡ i

pub stand : (items : List Item) (i : ℕ) → suc i < length items → Stand items i
stand [] i lt = absurd (omega (arith, lt))
stand (x ∷ []) i lt = absurd (omega (arith, lt))
stand (x ∷ (y ∷ ys)) zero lt = record { at = record { older = []; one = x; other = y; newer = ys; splits = refl }; place = refl }
stand (x ∷ (y ∷ ys)) (suc i) lt =
    let s = stand (y ∷ ys) i (omega (arith, lt)) in
    let place : length s.at.older ≡ i = s.place in
    record {
      at = record { older = x ∷ s.at.older; one = s.at.one; other = s.at.other; newer = s.at.newer; splits = ap (λ (zs : List Item). x ∷ zs) s.at.splits };
      place = omega (arith, place);
    }

module _ (items : List Item) (n : Neighbours items) (i : ℕ) (place : suc (length n.older) ≡ i) (d : Item) where
  pub one_is : get_or items (i - 1) d ≡ n.one
  one_is = ap (λ (xs : List Item). get_or xs (i - 1) d) n.splits ∙ get_or_at n.older n.one (n.other ∷ n.newer) d (i - 1) (omega (arith, place))

  pub other_is : get_or items i d ≡ n.other
  other_is =
      let long : length (n.older ++ n.one ∷ []) ≡ length n.older + 1 = length-append n.older (n.one ∷ []) in
      ap (λ (xs : List Item). get_or xs i d) (n.splits ∙ sym (append_assoc n.older (n.one ∷ []) (n.other ∷ n.newer)))
      ∙ get_or_at (n.older ++ n.one ∷ []) n.other n.newer d i (omega (arith, place, long))

-- ## A log whose numbers rise

-- a list that ends in an item
record Ends (xs : List Item) : Type 0 where
  pub prefix : List Item
  pub last : Item
  pub is : xs ≡ prefix ++ last ∷ []

ends : (xs : List Item) → (xs ≡ []) ⊎ Ends xs
ends [] = inl refl
ends (x ∷ xs) = elim (ends xs) [
  | inl e ↦ inr (record { prefix = []; last = x; is = ap (λ (zs : List Item). x ∷ zs) e })
  | inr e ↦ inr (record { prefix = x ∷ e.prefix; last = e.last; is = ap (λ (zs : List Item). x ∷ zs) e.is })
]

-- all are below what is above the last
below_last : (prefix : List Item) (x : Item) (number : ℕ) → x.said.gsn < number → IsFalling (entries_in (logged_of x ∷ logged prefix))
    → (z : Entry) → Has z (entries_in (logged_of x ∷ logged prefix)) → z.number < number
below_last prefix x number lt falling z (inl e) = let is : z.number ≡ x.said.gsn = ap (λ (y : Entry). y.number) e in omega (arith, is, lt)
below_last prefix x number lt falling z (inr h) = let below : z.number < x.said.gsn = falling.1 z h in omega (arith, below, lt)

module _ (before : List Item) (y : Item) (above : (e : Ends before) → e.last.said.gsn < y.said.gsn) (falling : IsFalling (entries_in (logged before))) where
  all_below : (before ≡ []) ⊎ Ends before → (z : Entry) → Has z (entries_in (logged before)) → z.number < y.said.gsn
  all_below (inl e) z h = absurd (subst (λ (xs : List Item). Has z (entries_in (logged xs))) e h)
  all_below (inr e) z h =
      let is : logged before ≡ logged_of e.last ∷ logged e.prefix = ap logged e.is ∙ logged_last e.prefix e.last in
      below_last e.prefix e.last y.said.gsn (above e) (subst (λ (l : List Logged). IsFalling (entries_in l)) is falling) z (subst (λ (l : List Logged). Has z (entries_in l)) is h)

  falling_one : IsFalling (entries_in (logged (before ++ y ∷ [])))
  falling_one = subst (λ (l : List Logged). IsFalling (entries_in l)) (sym (logged_last before y)) (falling, all_below (ends before))

module _ (start from to : ℕ) (base items : List Item) (begins : start ≡ length base) (all : to ≡ length items) (none : NoneIsLate start from to items) where
  -- items whose numbers rise are added
  pub falling_more : (before added : List Item) → items ≡ base ++ (before ++ added) → from ≤ length base + length before → IsFalling (entries_in (logged before)) → IsFalling (entries_in (logged (before ++ added)))
  falling_more before [] is le falling = subst (λ (xs : List Item). IsFalling (entries_in (logged xs))) (sym (append-nil before)) falling
  falling_more before (y ∷ ys) is le falling =
      let long : length (before ++ y ∷ []) ≡ length before + 1 = length-append before (y ∷ []) in
      subst (λ (xs : List Item). IsFalling (entries_in (logged xs))) (append_assoc before (y ∷ []) ys)
      (falling_more (before ++ y ∷ []) ys (is ∙ ap (λ (zs : List Item). base ++ zs) (sym (append_assoc before (y ∷ []) ys))) (omega (arith, le, long))
      (falling_one before y above falling))
    where
      above : (e : Ends before) → e.last.said.gsn < y.said.gsn
      above e =
          let older : List Item = base ++ e.prefix in
          let splits : items ≡ older ++ e.last ∷ y ∷ ys = is ∙ (ap (λ (zs : List Item). base ++ (zs ++ y ∷ ys)) e.is
          ∙ (ap (λ (zs : List Item). base ++ zs) (append_assoc e.prefix (e.last ∷ []) (y ∷ ys)) ∙ sym (append_assoc base e.prefix (e.last ∷ y ∷ ys)))) in
          let here : length older ≡ length base + length e.prefix = length-append base e.prefix in
          let long : length before ≡ length e.prefix + 1 = ap length e.is ∙ length-append e.prefix (e.last ∷ []) in
          let whole : length items ≡ length older + suc (suc (length ys)) = ap length splits ∙ length-append older (e.last ∷ y ∷ ys) in
          none (record { older = older; one = e.last; other = y; newer = ys; splits = splits }) (omega (arith, begins, here)) (omega (arith, le, here, long)) (omega (arith, all, whole))

-- ## A number that is late

-- one of the items that were added is not above the one before it
pub record IsLateIn (before added : List Item) : Type 0 where
  pub older : List Item
  pub one : Item
  pub other : Item
  pub newer : List Item
  pub splits : before ++ added ≡ (older ++ one ∷ []) ++ other ∷ newer
  pub has : Has other added
  pub late : other.said.gsn ≤ one.said.gsn

pub late_in : (start from : ℕ) (base before added : List Item) → start ≡ length base → from ≡ length (base ++ before) → IsLate start from ((base ++ before) ++ added) → IsLateIn before added
late_in start from base before added begins to l =
    let n = l.at in
    let older : List Item = drop (length base) n.older in
    let begins_in : start ≤ length n.older = l.begins in
    let added_in : from ≤ suc (length n.older) = l.added in
    let all : length (base ++ before) ≡ length base + length before = length-append base before in
    let rest : length older ≡ length n.older - length base = length-drop (length base) n.older in
    let more : length (older ++ n.one ∷ []) ≡ length older + 1 = length-append older (n.one ∷ []) in
    let within : before ++ added ≡ older ++ n.one ∷ n.other ∷ n.newer =
    cut base (before ++ added) n.older (n.one ∷ n.other ∷ n.newer) (sym (append_assoc base before added) ∙ n.splits) (omega (arith, begins, begins_in)) in
    let splits : before ++ added ≡ (older ++ n.one ∷ []) ++ n.other ∷ n.newer = within ∙ sym (append_assoc older (n.one ∷ []) (n.other ∷ n.newer)) in
    let left : added ≡ drop (length before) (older ++ n.one ∷ []) ++ n.other ∷ n.newer =
    cut before added (older ++ n.one ∷ []) (n.other ∷ n.newer) splits (omega (arith, begins, to, begins_in, added_in, all, rest, more)) in
    record {
      older = older;
      one = n.one;
      other = n.other;
      newer = n.newer;
      splits = splits;
      has = subst (Has n.other) (sym left) (has_middle (drop (length before) (older ++ n.one ∷ [])) n.other n.newer);
      late = l.late;
    }
