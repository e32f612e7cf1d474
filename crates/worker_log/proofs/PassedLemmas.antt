-- What blocks a head may pass up to a number.
use Rattle.std.proofs.Common.{◌≡◌, ◌⊎◌, inl, inr, ⊎_elim, ◌≤◌, ◌<◌, ℕ, zero, suc, max, Bool, true, false, cond, leb, List, [], ◌∷◌, ◌++◌, drop, take, length, refl, sym, ap, ◌∙◌, subst, arith, append_assoc}
use Rattle.std.proofs.lemmas.Bool.{cases_lt, cases_Bool, cond-true, cond-false, leb-true, lt-leb, le-leb}
use Rattle.map_model.specs.Lists.{Has}
use Rattle.lean_disk.specs.Area.{Area}
use Rattle.disk_image.specs.log_record.declared.record.Record.{Record}
use Rattle.worker_log.specs.Logs.{Log, passed_by, passed_end}
use Rattle.worker_log.specs.Accounts.{Account, joined, records_of}
use Rattle.worker_log.specs.Kept.{AllFitBlocks, IsKept, RiseFrom, cut, end_behind, end_of, ends_of}
use Rattle.worker_log.specs.Laws.{EveryPassed, PassesUpTo}
use Rattle.map_model.proofs.ListLemmas.{has_cases, has_left, has_right}

-- ## One block

-- the numbers of its records rise up to its end
end_top : (low : ℕ) (rs more : List Record) (last : ℕ) → RiseFrom low (rs ++ more) last → (n : ℕ) → n ≤ low → (r : Record) → Has r rs → (r.gsn ≤ end_behind n rs) × (n < end_behind n rs)
end_top low [] more last rise n le r has = absurd has
end_top low (s ∷ []) more last rise n le r (inl is) = let e = ap (λ (z : Record). z.gsn) is in let a = rise.0 in (omega arith, omega arith)
end_top low (s ∷ []) more last rise n le r (inr has) = absurd has
end_top low (s ∷ t ∷ rs) more last rise n le r (inl is) =
    let q = end_top s.gsn (t ∷ rs) more last rise.1 s.gsn (omega arith) t (inl refl) in
    let e = ap (λ (z : Record). z.gsn) is in let a = rise.0 in let b = q.1 in (omega arith, omega arith)
end_top low (s ∷ t ∷ rs) more last rise n le r (inr has) =
    let q = end_top s.gsn (t ∷ rs) more last rise.1 s.gsn (omega arith) r has in
    let a = rise.0 in let b = q.1 in (q.0, omega arith)

top : (low : ℕ) (rs more : List Record) (last : ℕ) → RiseFrom low (rs ++ more) last → (r : Record) → Has r rs → r.gsn ≤ end_of rs
top low [] more last rise r has = absurd has
top low (s ∷ []) more last rise r (inl is) = let e = ap (λ (z : Record). z.gsn) is in omega arith
top low (s ∷ []) more last rise r (inr has) = absurd has
top low (s ∷ t ∷ rs) more last rise r (inl is) = let q = (end_top s.gsn (t ∷ rs) more last rise.1 s.gsn (omega arith) t (inl refl)).1 in let e = ap (λ (z : Record). z.gsn) is in omega arith
top low (s ∷ t ∷ rs) more last rise r (inr has) = (end_top s.gsn (t ∷ rs) more last rise.1 s.gsn (omega arith) r has).0

-- what is behind it is above its end
later : (low : ℕ) (more : List Record) (last : ℕ) → RiseFrom low more last → (r : Record) → Has r more → low < r.gsn
later low [] last rise r has = absurd has
later low (s ∷ more) last rise r (inl is) = let e = ap (λ (z : Record). z.gsn) is in let a = rise.0 in omega arith
later low (s ∷ more) last rise r (inr has) = let q = later s.gsn more last rise.1 r has in let a = rise.0 in omega arith

rest_rises : (low : ℕ) (rs more : List Record) (last : ℕ) → RiseFrom low (rs ++ more) last → RiseFrom (end_behind low rs) more last
rest_rises low [] more last rise = rise
rest_rises low (s ∷ rs) more last rise = rest_rises s.gsn rs more last rise.1

behind_block : (low : ℕ) (rs more : List Record) (last : ℕ) → 0 < length rs → RiseFrom low (rs ++ more) last → RiseFrom (end_of rs) more last
behind_block low [] more last some rise = absurd (omega arith)
behind_block low (s ∷ rs) more last some rise = rest_rises s.gsn rs more last rise.1

-- its end is the number of one of its records
has_end : (n : ℕ) (rs : List Record) → (end_behind n rs ≡ n) ⊎ ((r : Record) × Has r rs × (r.gsn ≡ end_behind n rs))
has_end n [] = inl refl
has_end n (s ∷ rs) = elim (has_end s.gsn rs) [
  | inl e ↦ inr (s, inl refl, sym e)
  | inr q ↦ inr (q.0, inr q.1, q.2)
]

end_has : (rs : List Record) → 0 < length rs → (r : Record) × Has r rs × (r.gsn ≡ end_of rs)
end_has [] some = absurd (omega arith)
end_has (s ∷ rs) some = elim (has_end s.gsn rs) [
  | inl e ↦ (s, inl refl, sym e)
  | inr q ↦ (q.0, inr q.1, q.2)
]

-- ## Blocks

end_low : (x : ℕ) (ends : List ℕ) → passed_end x ends ≤ x
end_low x [] = omega arith
end_low x (e ∷ ends) = elim (cases_Bool (leb e x)) [
  | inl le ↦ (let a = cond-true (leb e x) (max e (passed_end x ends)) 0 le in let b = leb-true e x le in let c = end_low x ends in omega arith)
  | inr gt ↦ (let a = cond-false (leb e x) (max e (passed_end x ends)) 0 gt in omega arith)
]

-- none is passed
end_none : (x : ℕ) (ends : List ℕ) → passed_by x ends ≡ 0 → passed_end x ends ≡ 0
end_none x [] none = refl
end_none x (e ∷ ends) none = elim (cases_Bool (leb e x)) [
  | inl le ↦ absurd (let a = cond-true (leb e x) (suc (passed_by x ends)) 0 le in omega arith)
  | inr gt ↦ cond-false (leb e x) (max e (passed_end x ends)) 0 gt
]

module _ (x : ℕ) (c : List Record) (last : ℕ) where
  abbrev by : List (List Record) → ℕ
  by ws = passed_by x (ends_of ws)

  abbrev top_of : List (List Record) → ℕ
  top_of ws = passed_end x (ends_of ws)

  rise_of : (low : ℕ) (rs : List Record) (ws : List (List Record)) → RiseFrom low (joined (rs ∷ ws) ++ c) last → RiseFrom low (rs ++ (joined ws ++ c)) last
  rise_of low rs ws rise = subst (λ (l : List Record). RiseFrom low l last) (append_assoc rs (joined ws) c) rise

  all_before : (low : ℕ) (ws : List (List Record)) → AllFitBlocks ws → RiseFrom low (joined ws ++ c) last → (r : Record) → Has r (joined (take (by ws) ws)) → r.gsn ≤ top_of ws
  all_before low [] fit rise r has = absurd has
  all_before low (rs ∷ ws) fit rise r has = elim (cases_Bool (leb (end_of rs) x)) [
    | inr gt ↦ absurd (subst (λ (k : ℕ). Has r (joined (take k (rs ∷ ws)))) (cond-false (leb (end_of rs) x) (suc (by ws)) 0 gt) has)
    | inl le ↦ (let h : Has r (rs ++ joined (take (by ws) ws)) = subst (λ (k : ℕ). Has r (joined (take k (rs ∷ ws)))) (cond-true (leb (end_of rs) x) (suc (by ws)) 0 le) has in
        let a = cond-true (leb (end_of rs) x) (max (end_of rs) (top_of ws)) 0 le in
        let up = rise_of low rs ws rise in
        ⊎_elim
        (λ (here : Has r rs). let t = top low rs (joined ws ++ c) last up r here in omega arith)
        (λ (there : Has r (joined (take (by ws) ws))). let t = all_before (end_of rs) ws fit.2 (behind_block low rs (joined ws ++ c) last fit.0 up) r there in omega arith)
        (has_cases r rs (joined (take (by ws) ws)) h))
  ]

  dropped_has : (k : ℕ) (ws : List (List Record)) (r : Record) → Has r (joined (drop k ws) ++ c) → Has r (joined ws ++ c)
  dropped_has zero ws r has = has
  dropped_has (suc k) [] r has = has
  dropped_has (suc k) (rs ∷ ws) r has = subst (Has r) (sym (append_assoc rs (joined ws) c)) (has_right r rs (joined ws ++ c) (dropped_has k ws r has))

  all_behind : (low : ℕ) (ws : List (List Record)) → AllFitBlocks ws → RiseFrom low (joined ws ++ c) last → 0 < by ws → (r : Record) → Has r (joined (drop (by ws) ws) ++ c) → top_of ws < r.gsn
  all_behind low [] fit rise some r has = absurd (omega arith)
  all_behind low (rs ∷ ws) fit rise some r has = elim (cases_Bool (leb (end_of rs) x)) [
    | inr gt ↦ absurd (let a = cond-false (leb (end_of rs) x) (suc (by ws)) 0 gt in omega arith)
    | inl le ↦ (let h : Has r (joined (drop (by ws) ws) ++ c) = subst (λ (k : ℕ). Has r (joined (drop k (rs ∷ ws)) ++ c)) (cond-true (leb (end_of rs) x) (suc (by ws)) 0 le) has in
        let a = cond-true (leb (end_of rs) x) (max (end_of rs) (top_of ws)) 0 le in
        let up = behind_block low rs (joined ws ++ c) last fit.0 (rise_of low rs ws rise) in
        let b = later (end_of rs) (joined ws ++ c) last up r (dropped_has (by ws) ws r h) in
        ⊎_elim
        (λ (more : 0 < by ws). let t = all_behind (end_of rs) ws fit.2 up more r h in omega arith)
        (λ (none : by ws ≤ 0). let t = end_none x (ends_of ws) (omega arith) in omega arith)
        (cases_lt 0 (by ws)))
  ]

all_first : (x : ℕ) (ws : List (List Record)) → AllFitBlocks ws → (rs : List Record) (rest : List (List Record)) → drop (passed_by x (ends_of ws)) ws ≡ rs ∷ rest → (r : Record) × Has r rs × (x < r.gsn)
all_first x [] fit rs rest is = absurd (let e = ap length is in omega arith)
all_first x (s ∷ ws) fit rs rest is = elim (cases_Bool (leb (end_of s) x)) [
  | inl le ↦ all_first x ws fit.2 rs rest (sym (ap (λ (k : ℕ). drop k (s ∷ ws)) (cond-true (leb (end_of s) x) (suc (passed_by x (ends_of ws))) 0 le)) ∙ is)
  | inr gt ↦ (let e : s ∷ ws ≡ rs ∷ rest = sym (ap (λ (k : ℕ). drop k (s ∷ ws)) (cond-false (leb (end_of s) x) (suc (passed_by x (ends_of ws))) 0 gt)) ∙ is in
      let q = end_has s fit.0 in
      (q.0, subst (Has q.0) (first_same s rs ws rest e) q.1, above (end_of s) q.0.gsn gt q.2))
]
  where
    first_same : (a b : List Record) (al bl : List (List Record)) → a ∷ al ≡ b ∷ bl → a ≡ b
    first_same a b al bl e = cc

    above : (n m : ℕ) → leb n x ≡ false → m ≡ n → x < m
    above n m gt e = elim (cases_lt x n) [
      | inl lt ↦ omega arith
      | inr le ↦ absurd (Rattle.std.proofs.Common.true≢false (sym (le-leb n x le) ∙ gt))
    ]

-- a block that is passed and behind the first n
both_have : (n p : ℕ) (ws : List (List Record)) → AllFitBlocks ws → n < p → p ≤ length ws → (r : Record) × Has r (joined (drop n ws)) × Has r (joined (take p ws))
both_have n p [] fit lt le = absurd (omega arith)
both_have n zero (rs ∷ ws) fit lt le = absurd (omega arith)
both_have zero (suc p) (rs ∷ ws) fit lt le = let q = end_has rs fit.0 in (q.0, has_left q.0 rs (joined ws) q.1, has_left q.0 rs (joined (take p ws)) q.1)
both_have (suc n) (suc p) (rs ∷ ws) fit lt le = let q = both_have n p ws fit.2 (omega arith) (omega arith) in (q.0, q.1, has_right q.0 rs (joined (take p ws)) q.2)

within : (x : ℕ) (ws : List (List Record)) → passed_by x (ends_of ws) ≤ length ws
within x [] = omega arith
within x (rs ∷ ws) = elim (cases_Bool (leb (end_of rs) x)) [
  | inl le ↦ (let a = cond-true (leb (end_of rs) x) (suc (passed_by x (ends_of ws))) 0 le in let b = within x ws in omega arith)
  | inr gt ↦ (let a = cond-false (leb (end_of rs) x) (suc (passed_by x (ends_of ws))) 0 gt in omega arith)
]

-- ## An account

abbrev At : (x : ℕ) → Account → List ℕ → Type 0
At x a ends =
    (passed_by x ends ≤ a.synced) × ((r : Record) → Has r (joined (take (passed_by x ends) a.written)) → r.gsn ≤ passed_end x ends)
    × (0 < passed_by x ends → (r : Record) → Has r (records_of (cut (passed_by x ends) a)) → passed_end x ends < r.gsn)
    × ((rs : List Record) (rest : List (List Record)) → drop (passed_by x ends) a.written ≡ rs ∷ rest → (r : Record) × Has r rs × (x < r.gsn))

pub every_passed : EveryPassed
every_passed x a log area flushed kept = record { synced = at.0; low = end_low x log.ends; none = end_none x log.ends; before = at.1; behind = at.2; first = at.3 }
  where
    ws : List (List Record)
    ws = a.written

    before : (r : Record) → Has r (joined (take (passed_by x (ends_of ws)) ws)) → r.gsn ≤ passed_end x (ends_of ws)
    before = all_before x a.current log.last kept.numbers.0 ws kept.fit.0 kept.numbers.1

    synced : passed_by x (ends_of ws) ≤ a.synced
    synced = elim (cases_lt a.synced (passed_by x (ends_of ws))) [
      | inr le ↦ le
      | inl lt ↦ absurd (let q = both_have a.synced (passed_by x (ends_of ws)) ws kept.fit.0 lt (within x ws) in
          let up = kept.above q.0 (has_left q.0 (joined (drop a.synced ws)) a.current q.1) in
          let down = before q.0 q.2 in let l = end_low x (ends_of ws) in omega arith)
    ]

    at : At x a log.ends
    at = subst (At x a) (sym kept.ends) (synced, before, all_behind x a.current log.last kept.numbers.0 ws kept.fit.0 kept.numbers.1, all_first x ws kept.fit.0)
