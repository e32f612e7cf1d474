-- Rows in memory go as the core's do.
use Rattle.std.proofs.Common.{◌≡◌, ℕ, zero, suc, ◌<◌, Bool, true, false, cond, not, ◌&&◌, ◌||◌, ◌==◌, max, List, [], ◌∷◌, length, get_or, replicate, set, length-set, Option, Some, None, MatchOption, refl, sym, ap, ap₂, ◌∙◌, subst, inl, inr, arith, true≢false}
use Rattle.std.proofs.lemmas.Bool.{cond-true, cond-false, eqb-true, eq-eqb}
use Rattle.map_model.specs.Lists.{any, keep}
use Rattle.core_commit.specs.core_state.States as core
use Rattle.core_commit.specs.core_state.Events.{Mode}
use Rattle.core_commit.specs.core_state.Needs.{is_held_by, is_free, is_reader, may_hold}
use Rattle.core_commit.specs.core_state.Steps.{locked, unlocked}
use Rattle.transactions.specs.declared.hindrance.Mode as modes
use Rattle.transactions.specs.declared.hindrance.Mode.TheVariants.{Shared, Alone}
use Rattle.transactions.specs.Memory.{mode_of}
use Rattle.transactions.proofs.RowLemmas.{swap_ne}
use Rattle.transactions.proofs.KnowLemmas.{row_set}
use Rattle.mem_journal.specs.declared.row.Row.{Row}
use Rattle.mem_journal.specs.Rows.{has_reader, row_locked, row_unlocked, IsRow, HasNoOther, IsLeastOther, IsInTheWay}

or_right : (a b : Bool) → b ≡ true → (a || b) ≡ true
or_right true b e = refl
or_right false b e = e

-- ## Readers

shared_reader : (w v : ℕ) (rs : List ℕ) → is_reader v (cond (is_reader w rs) rs (w ∷ rs)) ≡ cond (v == w) true (is_reader v rs)
shared_reader w v rs = go (v == w) refl (is_reader w rs) refl
  where
    go : (a : Bool) → (v == w) ≡ a → (b : Bool) → is_reader w rs ≡ b → is_reader v (cond b rs (w ∷ rs)) ≡ cond a true (is_reader v rs)
    go true e true f = subst (λ (x : ℕ). is_reader x rs ≡ true) (sym (eqb-true v w e)) f
    go true e false f = ap (λ (x : Bool). x || is_reader v rs) (eq-eqb w v (sym (eqb-true v w e)))
    go false e true f = refl
    go false e false f = ap (λ (x : Bool). x || is_reader v rs) (swap_ne v w e)

kept_reader : (w v : ℕ) (rs : List ℕ) → is_reader v (keep (λ u. not (u == w)) rs) ≡ cond (v == w) false (is_reader v rs)
kept_reader w v [] = none (v == w)
  where
    none : (a : Bool) → false ≡ cond a false false
    none true = refl
    none false = refl
kept_reader w v (u ∷ us) = go (u == w) refl (v == w) refl (kept_reader w v us)
  where
    go : (a : Bool) → (u == w) ≡ a → (b : Bool) → (v == w) ≡ b → is_reader v (keep (λ x. not (x == w)) us) ≡ cond (v == w) false (is_reader v us) →
        is_reader v (cond (not a) (u ∷ keep (λ x. not (x == w)) us) (keep (λ x. not (x == w)) us)) ≡ cond b false ((u == v) || is_reader v us)
    go true e true f ih = ih ∙ cond-true (v == w) false (is_reader v us) f
    go true e false f ih = ih ∙ (cond-false (v == w) false (is_reader v us) f ∙ ap (λ (x : Bool). x || is_reader v us) (sym (ap (λ (x : ℕ). x == v) (eqb-true u w e) ∙ swap_ne v w f)))
    go false e true f ih = ap₂ (λ (x y : Bool). x || y) (ap (λ (x : ℕ). u == x) (eqb-true v w f) ∙ e) (ih ∙ cond-true (v == w) false (is_reader v us) f)
    go false e false f ih = ap (λ (x : Bool). (u == v) || x) (ih ∙ cond-false (v == w) false (is_reader v us) f)

none_reads : (n v : ℕ) → get_or (replicate n false) v false ≡ false
none_reads zero v = refl
none_reads (suc n) zero = refl
none_reads (suc n) (suc v) = none_reads n v

-- ## Locks and unlocks

pub locked_row : (o : core.Row) (r : Row) (w : ℕ) (mode : modes.Mode) → w < 17 → IsRow o r → IsRow (locked o w (mode_of mode)) (row_locked r w mode)
locked_row o r w Shared l x = go (is_held_by o.holder w) (is_held_by r.holder w) (ap (λ (h : Option ℕ). is_held_by h w) x.holder)
  where
    within : w < length r.readers
    within = omega (arith, x.size, l)

    go : (a b : Bool) → a ≡ b → IsRow (cond a o (record o { readers = cond (is_reader w o.readers) o.readers (w ∷ o.readers) })) (cond b r (record r { readers = set r.readers w true }))
    go true true e = x
    go false false e = record {
      holder = x.holder;
      reader = λ v. shared_reader w v o.readers ∙ (ap (λ (y : Bool). cond (v == w) true y) (x.reader v) ∙ sym (row_set r.readers w v true within));
      size = length-set r.readers w true ∙ x.size;
      number = x.number;
      log = x.log;
      read_end = x.read_end;
    }
    go true false e = absurd (true≢false e)
    go false true e = absurd (true≢false (sym e))
locked_row o r w Alone l x = go (is_held_by o.holder w) (is_held_by r.holder w) (ap (λ (h : Option ℕ). is_held_by h w) x.holder)
  where
    go : (a b : Bool) → a ≡ b → IsRow (cond a o (record o { holder = Some w; readers = [] })) (cond b r (record r { holder = Some w; readers = replicate 17 false }))
    go true true e = x
    go false false e = record { holder = refl; reader = λ v. sym (none_reads 17 v); size = refl; number = x.number; log = x.log; read_end = x.read_end }
    go true false e = absurd (true≢false e)
    go false true e = absurd (true≢false (sym e))

pub unlocked_row : (o : core.Row) (r : Row) (w end : ℕ) → w < 17 → IsRow o r → IsRow (unlocked o w end) (row_unlocked r w end)
unlocked_row o r w end l x = go (is_held_by o.holder w) (is_held_by r.holder w) (ap (λ (h : Option ℕ). is_held_by h w) x.holder)
  where
    within : w < length r.readers
    within = omega (arith, x.size, l)

    others : List ℕ
    others = keep (λ v. not (v == w)) o.readers

    reads : (v : ℕ) → is_reader v (keep (λ u. not (u == w)) o.readers) ≡ has_reader (set r.readers w false) v
    reads v = kept_reader w v o.readers ∙ (ap (λ (y : Bool). cond (v == w) false y) (x.reader v) ∙ sym (row_set r.readers w v false within))

    go : (a b : Bool) → a ≡ b →
        IsRow (cond a (record { holder = None; readers = keep (λ v. not (v == w)) o.readers; number = max o.number end; log = w; read_end = o.read_end }) (record { holder = o.holder; readers = keep (λ v. not (v == w)) o.readers; number = o.number; log = o.log; read_end = max o.read_end end }))
        (cond b (record { holder = None; readers = set r.readers w false; number = max r.number end; log = w; read_end = r.read_end }) (record { holder = r.holder; readers = set r.readers w false; number = r.number; log = r.log; read_end = max r.read_end end }))
    go true true e = record { holder = refl; reader = reads; size = length-set r.readers w false ∙ x.size; number = ap (λ (n : ℕ). max n end) x.number; log = refl; read_end = x.read_end }
    go false false e = record { holder = x.holder; reader = reads; size = length-set r.readers w false ∙ x.size; number = x.number; log = x.log; read_end = ap (λ (n : ℕ). max n end) x.read_end }
    go true false e = absurd (true≢false e)
    go false true e = absurd (true≢false (sym e))

-- ## Who stands in the way

no_other : (w : ℕ) (rs : List ℕ) → ((v : ℕ) → is_reader v rs ≡ true → (v == w) ≡ true) → any (λ u. not (u == w)) rs ≡ false
no_other w [] h = refl
no_other w (u ∷ us) h = ap₂ (λ (x y : Bool). not x || y) (h u (ap (λ (x : Bool). x || is_reader u us) (eq-eqb u u refl))) (no_other w us (λ v e. h v (or_right (u == v) (is_reader v us) e)))

some_other : (w v : ℕ) (rs : List ℕ) → is_reader v rs ≡ true → (v == w) ≡ false → any (λ u. not (u == w)) rs ≡ true
some_other w v [] e ne = absurd (true≢false (sym e))
some_other w v (u ∷ us) e ne = go (u == v) refl e (λ q. some_other w v us q ne)
  where
    go : (b : Bool) → (u == v) ≡ b → (b || is_reader v us) ≡ true → (is_reader v us ≡ true → any (λ x. not (x == w)) us ≡ true) → (not (u == w) || any (λ x. not (x == w)) us) ≡ true
    go true f q ih = ap (λ (x : Bool). not x || any (λ y. not (y == w)) us) (ap (λ (x : ℕ). x == w) (eqb-true u v f) ∙ ne)
    go false f q ih = or_right (not (u == w)) (any (λ y. not (y == w)) us) (ih q)

-- the one who holds it may have it
pub way_own : (o : core.Row) (r : Row) (w : ℕ) (mode : modes.Mode) → IsRow o r → is_held_by r.holder w ≡ true → may_hold o w (mode_of mode) ≡ true
way_own o r w Shared x e = ap (λ (b : Bool). b || is_free o.holder) (ap (λ (h : Option ℕ). is_held_by h w) x.holder ∙ e)
way_own o r w Alone x e = ap (λ (b : Bool). b || (is_free o.holder && not (any (λ v. not (v == w)) o.readers))) (ap (λ (h : Option ℕ). is_held_by h w) x.holder ∙ e)

-- another holds it
pub way_held : (o : core.Row) (r : Row) (w v : ℕ) (mode : modes.Mode) → IsRow o r → is_held_by r.holder w ≡ false → r.holder ≡ Some v → IsInTheWay o w (mode_of mode) v
way_held o r w v mode x e h = record { refused = go mode; is = inl (x.holder ∙ h) }
  where
    not_own : is_held_by o.holder w ≡ false
    not_own = ap (λ (p : Option ℕ). is_held_by p w) x.holder ∙ e

    not_free : is_free o.holder ≡ false
    not_free = ap is_free (x.holder ∙ h)

    go : (mode : modes.Mode) → may_hold o w (mode_of mode) ≡ false
    go Shared = ap₂ (λ (a b : Bool). a || b) not_own not_free
    go Alone = ap₂ (λ (a b : Bool). a || (b && not (any (λ u. not (u == w)) o.readers))) not_own not_free

-- nobody holds it
pub way_free : (o : core.Row) (r : Row) (w : ℕ) → IsRow o r → r.holder ≡ None → may_hold o w Mode.Shared ≡ true
way_free o r w x h = or_right (is_held_by o.holder w) (is_free o.holder) (ap is_free (x.holder ∙ h))

pub way_readers : (o : core.Row) (r : Row) (w : ℕ) (q : Option ℕ) → IsRow o r → r.holder ≡ None → MatchOption q (HasNoOther r.readers w) (IsLeastOther r.readers w) → MatchOption q (may_hold o w Mode.Alone ≡ true) (IsInTheWay o w Mode.Alone)
way_readers o r w None x h n =
    or_right (is_held_by o.holder w) (is_free o.holder && not (any (λ u. not (u == w)) o.readers))
    (ap₂ (λ (a b : Bool). a && not b) (ap is_free (x.holder ∙ h)) (no_other w o.readers (λ v e. n v (sym (x.reader v) ∙ e))))
way_readers o r w (Some v) x h n =
    let reads : is_reader v o.readers ≡ true = x.reader v ∙ n.reads in
    let free : is_free o.holder ≡ true = ap is_free (x.holder ∙ h) in
    record {
      refused = ap₂ (λ (a b : Bool). a || b) (ap (λ (p : Option ℕ). is_held_by p w) (x.holder ∙ h)) (ap₂ (λ (a b : Bool). a && not b) free (some_other w v o.readers reads n.other));
      is = inr (free, reads, n.other, λ u l e. n.least u l (sym (x.reader u) ∙ e));
    }
