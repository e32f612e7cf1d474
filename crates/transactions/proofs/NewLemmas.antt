-- Sessions as they are made.
use Rattle.std.proofs.Common.{◌≡◌, ◌⊎◌, ◌<◌, ◌≤◌, ◌+◌, ◌++◌, ◌&&◌, ℕ, suc, zero, true, List, [], ◌∷◌, length, Some, slice_get, add-one, refl, sym, ap, ap₂, ◌∙◌, subst, inl, inr, arith}
use Rattle.std.proofs.lemmas.Bool.{lt-ltb, le-leb}
use Rattle.std.proofs.lemmas.Option.{slice_get_within}
use Rattle.core_state.specs.Openings.{Opening}
use Rattle.core_state.specs.Needs.{is_worker}
use Rattle.transactions.specs.declared.session.Session.{Session}
use Rattle.transactions.specs.Memory.{Memory, IsUsual}
use Rattle.transactions.specs.Laws.{AllKnow}
use Rattle.transactions.specs.Sessions.{IsNew, AreNew}

length_more : {A : Type 0} (list : List A) (a : A) → length (list ++ a ∷ []) ≡ suc (length list)
length_more [] a = refl
length_more (b ∷ list) a = ap suc (length_more list a)

-- an element behind the others, or one of them
one_more : {A : Type 0} (list : List A) (a : A) (i : ℕ) (b : A) → slice_get (list ++ a ∷ []) i ≡ Some b → (slice_get list i ≡ Some b) ⊎ ((i ≡ length list) × (a ≡ b))
one_more [] a zero b e = inr (refl, cc)
one_more [] a (suc i) b e = absurd cc
one_more (c ∷ list) a zero b e = inl e
one_more (c ∷ list) a (suc i) b e = further (one_more list a i b e)
  where
    further : (slice_get list i ≡ Some b) ⊎ ((i ≡ length list) × (a ≡ b)) → (slice_get list i ≡ Some b) ⊎ ((suc i ≡ suc (length list)) × (a ≡ b))
    further (inl k) = inl k
    further (inr k) = inr (ap suc k.0, k.1)

-- one more session behind the others
pub more_new : (sessions rows : ℕ) (list : List Session) (s : Session) → AreNew sessions rows list → IsNew rows (sessions + 1) s → AreNew (sessions + 1) rows (list ++ s ∷ [])
more_new sessions rows list s k new = record {
  count = length_more list s ∙ (ap suc k.count ∙ sym (add-one sessions));
  each = λ i b e. this i b (one_more list s i b e);
}
  where
    this : (i : ℕ) (b : Session) → (slice_get list i ≡ Some b) ⊎ ((i ≡ length list) × (s ≡ b)) → IsNew rows (suc i) b
    this i b (inl e) = k.each i b e
    this i b (inr e) =
        let number : sessions + 1 ≡ suc i = add-one sessions ∙ ap suc (sym k.count ∙ sym e.0) in
        subst (λ (x : Session). IsNew rows (suc i) x) e.1 (subst (λ (n : ℕ). IsNew rows n s) number new)

-- they know, where there are as many workers
pub new_know : (sessions rows : ℕ) (list : List Session) → AreNew sessions rows list → (g : Opening) → IsUsual g rows → sessions ≤ g.workers → AllKnow g [] list
new_know sessions rows list k g usual enough = record {
  number = λ i s e. ap (λ (m : Memory). m.session) (k.each i s e).memory;
  knows = λ i s e. (k.each i s e).knows g usual (worker i (within i s e));
}
  where
    within : (i : ℕ) (s : Session) → slice_get list i ≡ Some s → suc i ≤ g.workers
    within i s e = let l : i < length list = slice_get_within list i s e in let c = k.count in omega (arith, l, c, enough)

    worker : (i : ℕ) → suc i ≤ g.workers → is_worker g (suc i) ≡ true
    worker i l = ap₂ (λ x y. x && y) (lt-ltb 0 (suc i) (omega arith)) (le-leb (suc i) g.workers l)
