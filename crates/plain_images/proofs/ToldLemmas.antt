-- What depends on the ends of transactions alone.
use Rattle.std.proofs.Common.{◌≡◌, ℕ, max, Bool, true, false, cond, ◌&&◌, ◌||◌, not, leb, ◌==◌, List, [], ◌∷◌, map, refl, ◌∙◌, ap}
use mathlib.Core.Path.{fun_ext}
use Rattle.map_model.specs.Lists.{any, keep}
use Rattle.map_model.specs.Journals as journals
use Rattle.rfa_model.specs.Reaches.{least}
use Rattle.image_model.specs.Entries.{Kind, Entry, is_end, is_commit, same_txn}
use Rattle.image_model.specs.Entries.Kind.{Change, Put_back, Split, Lift, Join, Drop, Purge, Read, Commit, Abort}
use Rattle.image_model.specs.Ends as ends
use Rattle.plain_images.specs.Told.{ending_of, need_of, told_of, EveryTold}

end_same : (k : Kind) (n far : ℕ) (b : Bool) → (is_end (ending_of k) && (b && leb (need_of k n) far)) ≡ (is_end k && (b && leb n far))
end_same Commit n far b = refl
end_same Abort n far b = refl
end_same Change n far b = refl
end_same Put_back n far b = refl
end_same Split n far b = refl
end_same Lift n far b = refl
end_same Join n far b = refl
end_same Drop n far b = refl
end_same Purge n far b = refl
end_same Read n far b = refl

win_same : (k : Kind) (n far : ℕ) → (is_commit (ending_of k) && leb (need_of k n) far) ≡ (is_commit k && leb n far)
win_same Commit n far = refl
win_same Abort n far = refl
win_same Change n far = refl
win_same Put_back n far = refl
win_same Split n far = refl
win_same Lift n far = refl
win_same Join n far = refl
win_same Drop n far = refl
win_same Purge n far = refl
win_same Read n far = refl

abbrev told : List Entry → List Entry
told z = map told_of z

greatest_same : (w : ℕ) (z : List Entry) → ends.greatest w (told z) ≡ ends.greatest w z
greatest_same w [] = refl
greatest_same w (r ∷ z) = ap (λ n. cond (r.log == w) (max r.number n) n) (greatest_same w z)

any_end : (far : ℕ) (r : Entry) (z : List Entry) → any (ends.ends far (told_of r)) (told z) ≡ any (ends.ends far r) z
any_end far r [] = refl
any_end far r (e ∷ z) = ap (λ b. b || any (ends.ends far (told_of r)) (told z)) (end_same e.kind e.need far (same_txn e r)) ∙ ap (λ b. ends.ends far r e || b) (any_end far r z)

any_txn : (r : Entry) (z : List Entry) → any (same_txn (told_of r)) (told z) ≡ any (same_txn r) z
any_txn r [] = refl
any_txn r (e ∷ z) = ap (λ b. same_txn r e || b) (any_txn r z)

winners_same : (far : ℕ) (z : List Entry) → ends.winners far (told z) ≡ ends.winners far z
winners_same far [] = refl
winners_same far (r ∷ z) =
    ap (λ b. ends.names_of (cond b (told_of r ∷ keep (ends.wins far) (told z)) (keep (ends.wins far) (told z)))) (win_same r.kind r.need far)
    ∙ go (ends.wins far r) (winners_same far z)
  where
    go : (b : Bool) → ends.winners far (told z) ≡ ends.winners far z →
        ends.names_of (cond b (told_of r ∷ keep (ends.wins far) (told z)) (keep (ends.wins far) (told z))) ≡ ends.names_of (cond b (r ∷ keep (ends.wins far) z) (keep (ends.wins far) z))
    go true ih = ap (λ (t : List journals.Name). ends.name_of r ∷ t) ih
    go false ih = ih

losers_same : (far : ℕ) (all z : List Entry) → ends.names_of (keep (λ r. not (ends.ended far (told all) r)) (ends.firsts (told z))) ≡ ends.names_of (keep (λ r. not (ends.ended far all r)) (ends.firsts z))
losers_same far all [] = refl
losers_same far all (r ∷ z) =
    ap (λ b. ends.names_of (keep P (cond (not b) (told_of r ∷ ends.firsts (told z)) (ends.firsts (told z))))) (any_txn r z)
    ∙ go (not (any (same_txn r) z)) (losers_same far all z)
  where
    P : Entry → Bool
    P x = not (ends.ended far (told all) x)

    Q : Entry → Bool
    Q x = not (ends.ended far all x)

    one : (b : Bool) → ends.names_of (keep P (ends.firsts (told z))) ≡ ends.names_of (keep Q (ends.firsts z)) →
        ends.names_of (cond b (told_of r ∷ keep P (ends.firsts (told z))) (keep P (ends.firsts (told z)))) ≡ ends.names_of (cond b (r ∷ keep Q (ends.firsts z)) (keep Q (ends.firsts z)))
    one true ih = ap (λ (t : List journals.Name). ends.name_of r ∷ t) ih
    one false ih = ih

    go : (b : Bool) → ends.names_of (keep P (ends.firsts (told z))) ≡ ends.names_of (keep Q (ends.firsts z)) →
        ends.names_of (keep P (cond b (told_of r ∷ ends.firsts (told z)) (ends.firsts (told z)))) ≡ ends.names_of (keep Q (cond b (r ∷ ends.firsts z) (ends.firsts z)))
    go false ih = ih
    go true ih = ap (λ b. ends.names_of (cond (not b) (told_of r ∷ keep P (ends.firsts (told z))) (keep P (ends.firsts (told z))))) (any_end far r all) ∙ one (Q r) ih

pub every_told : EveryTold
every_told z = record {
  reach = λ logs floor. ap (λ (g : ℕ → ℕ). least (λ w. max floor (g w)) logs) (fun_ext (λ w. greatest_same w z));
  winners = λ far. winners_same far z;
  losers = λ far. losers_same far z z;
}
