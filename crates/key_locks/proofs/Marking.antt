-- Marks and holds change together.
use Rattle.std.proofs.Common.{◌≡◌, ◌≢◌, ◌+◌, ◌<◌, ℕ, Bool, true, false, List, length, set, get_or, sym, ap, subst, ◌∙◌, ⊎_elim, true≢false, arith, length-set}
use Rattle.std.proofs.lemmas.Bool.{cases_eq}
use Rattle.std.proofs.lemmas.List.{get_or-set_same, get_or-set_other, set-get_or, get_or_default}
use Rattle.lean_proto.specs.rows_trait.declared.view.Hold.{Hold}
use Rattle.lean_proto.specs.rows_trait.declared.view.View.{View}
use Rattle.lean_proto.specs.rows_trait.Views.{hold, holds, held_at, without}
use Rattle.lean_proto.proofs.rows_trait.Holds.{holds_without, holds_without_here, without_apart}
use Rattle.key_locks.specs.Inside.{IsCaught}
use Rattle.key_locks.specs.Latching.{is_marked, IsLatch, AreLatched}
use Rattle.key_locks.proofs.Lists.{without_none, without_new, holds_new, at_new}

pub without_twice : (hs : List Hold) (row : ℕ) → without (without hs row) row ≡ without hs row
without_twice hs row = without_none (without hs row) row (holds_without_here hs row)

-- a row that is another's
same_hold : (hs ks : List Hold) (row q : ℕ) → q ≢ row → without ks row ≡ without hs row → (holds ks q ≡ holds hs q) × (held_at ks q ≡ held_at hs q)
same_hold hs ks row q ne e = (
  sym (holds_without ks row q ne) ∙ (ap (λ l. holds l q) e ∙ holds_without hs row q ne),
  sym (without_apart ks row q ne) ∙ (ap (λ l. held_at l q) e ∙ without_apart hs row q ne),
)

latch_on : (hs ks : List Hold) (row q : ℕ) → q ≢ row → without ks row ≡ without hs row → IsLatch hs q → IsLatch ks q
latch_on hs ks row q ne e l = let s = same_hold hs ks row q ne e in record {
  here = s.0 ∙ l.here;
  fresh = ap (λ h. h.done) s.1 ∙ l.fresh;
  same = ap (λ h. h.now) s.1 ∙ (l.same ∙ sym (ap (λ h. h.was) s.1));
  size = ap (λ h. length h.now) s.1 ∙ l.size;
}

-- mark i changes with the hold of its row
pub marking : (frames i : ℕ) (b : Bool) (marks : List Bool) (hs ks : List Hold) → i < length marks → without ks (frames + i) ≡ without hs (frames + i) → AreLatched frames marks hs
    → (b ≡ true → IsLatch ks (frames + i)) → (b ≡ false → holds ks (frames + i) ≡ false) → AreLatched frames (set marks i b) ks
marking frames i b marks hs ks lt e a on off = record { marked = marked; others = others }
  where
    at_i : (j : ℕ) → j ≡ i → is_marked (set marks i b) j ≡ b
    at_i j s = ap (λ q. get_or (set marks i b) q false) s ∙ get_or-set_same marks i b false lt

    else_where : (j : ℕ) → j ≢ i → is_marked (set marks i b) j ≡ is_marked marks j
    else_where j ne = get_or-set_other marks i j b false ne

    apart : (j : ℕ) → j ≢ i → frames + j ≢ frames + i
    apart j ne s = ne (omega arith)

    marked : (j : ℕ) → is_marked (set marks i b) j ≡ true → IsLatch ks (frames + j)
    marked j m = ⊎_elim
        (λ (s : j ≡ i). subst (λ (q : ℕ). IsLatch ks (frames + q)) (sym s) (on (sym (at_i j s) ∙ m)))
        (λ (ne : j ≡ i → ⊥). latch_on hs ks (frames + i) (frames + j) (apart j ne) e (a.marked j (sym (else_where j ne) ∙ m)))
        (cases_eq j i)

    others : (j : ℕ) → j < length (set marks i b) → is_marked (set marks i b) j ≡ false → holds ks (frames + j) ≡ false
    others j l m = ⊎_elim
        (λ (s : j ≡ i). ap (λ q. holds ks (frames + q)) s ∙ off (sym (at_i j s) ∙ m))
        (λ (ne : j ≡ i → ⊥). (same_hold hs ks (frames + i) (frames + j) (apart j ne) e).0 ∙ a.others j (let n = length-set marks i b in omega arith) (sym (else_where j ne) ∙ m))
        (cases_eq j i)

-- ## A row that was latched

pub caught_latch : (alone : Bool) (row : ℕ) (v w : View) → IsCaught alone row 5 v w → IsLatch w.held row
caught_latch alone row v w k =
    let at : held_at w.held row ≡ hold row k.version k.was k.was false = ap (λ hs. held_at hs row) k.held ∙ at_new v.held row k.version k.was k.was in record {
      here = ap (λ hs. holds hs row) k.held ∙ holds_new v.held row k.version k.was k.was;
      fresh = ap (λ h. h.done) at;
      same = ap (λ h. h.now) at ∙ sym (ap (λ h. h.was) at);
      size = ap (λ h. length h.now) at ∙ k.size;
    }

pub caught_rest : (alone : Bool) (row n : ℕ) (v w : View) → IsCaught alone row n v w → without w.held row ≡ without v.held row
caught_rest alone row n v w k = ap (λ hs. without hs row) k.held ∙ without_new v.held row k.version k.was k.was

-- a mark that is already so
pub set_same : (marks : List Bool) (i : ℕ) (b : Bool) → is_marked marks i ≡ b → set marks i b ≡ marks
set_same marks i b e = ap (set marks i) (sym e) ∙ set-get_or marks i false

-- a mark that was read
pub marked_at : (items marks : List Bool) (place i : ℕ) (b d : Bool) → items ≡ marks → place ≡ i → place < length marks → b ≡ get_or items place b → b ≡ d → is_marked marks i ≡ d
marked_at items marks place i b d same is lt read e = ap (λ q. get_or marks q false) (sym is) ∙ (ap (λ l. get_or l place false) (sym same) ∙ (get_or_default items place false b (let n = ap length same in omega arith) ∙ (sym read ∙ e)))

-- the row of mark i is given up
pub unmarking : (frames i : ℕ) (marks : List Bool) (hs ks : List Hold) → i < length marks → ks ≡ without hs (frames + i) → AreLatched frames marks hs
    → AreLatched frames (set marks i false) ks × (without ks (frames + i) ≡ without hs (frames + i))
unmarking frames i marks hs ks lt e a =
    let rest : without ks (frames + i) ≡ without hs (frames + i) = ap (λ l. without l (frames + i)) e ∙ without_twice hs (frames + i) in
    (marking frames i false marks hs ks lt rest a (λ t. absurd (true≢false (sym t))) (λ f. ap (λ l. holds l (frames + i)) e ∙ holds_without_here hs (frames + i)), rest)
