-- Words as values, and what a write of a word writes.
use Rattle.map_model.specs.Maps.{MapCall, write_of}
use Rattle.core_state.specs.image_model.Histories.{said, write_call}
use Rattle.page_model.specs.Nodes.{Format}
use Rattle.page_model.specs.Tree.{value_of, word_or}
use Rattle.std.proofs.Common.{◌≡◌, ℕ, Bool, true, false, cond, ltb, ◌==◌, Option, Some, None, refl, sym, ap, ◌∙◌, arith}
use Rattle.std.proofs.lemmas.Bool.{eq-eqb, ne_eqb, le-ltb, cond-true, cond-false}

pub said_live : (f : Format) (w : ℕ) → ltb w f.dead ≡ true → said f w ≡ Some w
said_live f w e = cond-true (ltb w f.dead) (Some w) None e

pub said_dead : (f : Format) (w : ℕ) → ltb w f.dead ≡ false → said f w ≡ None
said_dead f w e = cond-false (ltb w f.dead) (Some w) None e

-- an absent word says as much as a tombstone's
pub said_word : (f : Format) (o : Option ℕ) → said f (word_or f.dead o) ≡ value_of f o
said_word f None = said_dead f f.dead (le-ltb f.dead f.dead (omega arith))
said_word f (Some w) = refl

-- what a write of the word writes at its key, and elsewhere
pub write_here : (f : Format) (key word k : ℕ) → k ≡ key → write_of (write_call f key word) k ≡ Some (said f word)
write_here f key word k e = go (ltb word f.dead) refl
  where
    go : (b : Bool) → ltb word f.dead ≡ b → write_of (cond b (MapCall.Put key word) (MapCall.Del key)) k ≡ Some (said f word)
    go true q = cond-true (key == k) (Some (Some word)) None (eq-eqb key k (sym e)) ∙ ap (λ (v : Option ℕ). Some v) (sym (said_live f word q))
    go false q = cond-true (key == k) (Some None) None (eq-eqb key k (sym e)) ∙ ap (λ (v : Option ℕ). Some v) (sym (said_dead f word q))

pub write_else : (f : Format) (key word k : ℕ) → (k ≡ key → ⊥) → write_of (write_call f key word) k ≡ None
write_else f key word k n = go (ltb word f.dead)
  where
    go : (b : Bool) → write_of (cond b (MapCall.Put key word) (MapCall.Del key)) k ≡ None
    go true = cond-false (key == k) (Some (Some word)) None (ne_eqb key k (λ e. n (sym e)))
    go false = cond-false (key == k) (Some None) None (ne_eqb key k (λ e. n (sym e)))
