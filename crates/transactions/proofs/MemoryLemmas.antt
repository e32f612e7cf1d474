-- What a session remembers of its changes.
use Rattle.std.proofs.Common.{◌≡◌, ◌≢◌, ℕ, zero, suc, ◌<◌, ◌≤◌, List, ◌∷◌, length, set, ◌+◌, add-one, refl, ap, ap₂, ◌∙◌, arith}
use Rattle.std.proofs.lemmas.List.{get_or-set_same, get_or-set_other}
use Rattle.transactions.specs.declared.session.Undo.{Undo}
use Rattle.transactions.specs.Memory.{no_undo, newest}

pub length_newest : (n : ℕ) (us : List Undo) → length (newest n us) ≡ n
length_newest zero us = refl
length_newest (suc n) us = ap suc (length_newest n us)

newest_below : (us : List Undo) (n i : ℕ) (u : Undo) → i ≤ n → newest i (set us n u) ≡ newest i us
newest_below us n zero u l = refl
newest_below us n (suc i) u l = let ne : i ≢ n = omega arith in ap₂ (λ x y. x ∷ y) (get_or-set_other us n i u no_undo ne) (newest_below us n i u (omega arith))

pub newest_set : (us : List Undo) (n : ℕ) (u : Undo) → n < length us → newest (suc n) (set us n u) ≡ u ∷ newest n us
newest_set us n u l = ap₂ (λ x y. x ∷ y) (get_or-set_same us n u no_undo l) (newest_below us n n u (omega arith))

pub remembered : (us : List Undo) (n key word w : ℕ) → n < length us → word ≡ w → newest (n + 1) (set us n (record { key = key; word = word })) ≡ record { key = key; word = w } ∷ newest n us
remembered us n key word w l e =
    ap (λ (i : ℕ). newest i (set us n (record { key = key; word = word }))) (add-one n)
    ∙ (newest_set us n (record { key = key; word = word }) l ∙ ap (λ (x : ℕ). record { key = key; word = x } ∷ newest n us) e)
