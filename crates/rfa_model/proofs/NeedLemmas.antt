-- A debt is the greatest remote number that was touched, where that is above the floor.
use Rattle.std.proofs.Common.{◌≡◌, ◌<◌, ◌≤◌, ℕ, max, Bool, true, false, cond, ◌&&◌, not, leb, ltb, ◌==◌, List, [], ◌∷◌, ◌⊎◌, refl, sym, ◌∙◌, subst, inl, inr, arith, true≢false}
use Rattle.std.proofs.lemmas.Bool.{cases_eq, cases_lt, eq-eqb, ne_eqb, and_parts, leb-true, le-leb, lt-leb, lt-ltb, le-ltb, cond-true, cond-false}
use Rattle.rfa_model.specs.Stamps.{is_remote, need_of}
use Rattle.rfa_model.specs.Runs.{upd, Worker, Start, World, start, Event, flushed_by_all, may, begun, touched, ended, happens, step, run, IsRemoteTouch, Touched, EveryNeed}
use Rattle.rfa_model.specs.Runs.Event.{Begin, Touch, End, Flush}

at_upd : {A : Type 0} (P : ℕ → A → Type 0) (f : ℕ → A) (i : ℕ) (a : A) (j : ℕ) → (j ≡ i → P j a) → ((j ≡ i → ⊥) → P j (f j)) → P j (upd f i a j)
at_upd P f i a j h k = elim (cases_eq j i) [
  | inl e ↦ subst (λ x. P j x) (sym (cond-true (j == i) a (f j) (eq-eqb j i e))) (h e)
  | inr n ↦ subst (λ x. P j x) (sym (cond-false (j == i) a (f j) (ne_eqb j i n))) (k n)
]

-- of a worker that touched the numbers P as remote ones
pub record Owes (P : ℕ → Type 0) (a : Worker) : Type 0 where
  pub most : (n : ℕ) → P n → n ≤ max a.debt a.floor
  pub one : (a.debt ≡ 0) ⊎ P a.debt

abbrev AllOwe : (ℕ → ℕ → Type 0) → World → Type 0
AllOwe P s = (w : ℕ) → Owes (P w) (s.worker w)

owes_more : (P Q : ℕ → Type 0) (a : Worker) → ((n : ℕ) → P n → Q n) → ((n : ℕ) → Q n → P n) → Owes P a → Owes Q a
owes_more P Q a f h o = record { most = λ n q. o.most n (h n q); one = elim o.one [ inl e ↦ inl e | inr p ↦ inr (f a.debt p) ] }

owes_begun : (P : ℕ → Type 0) (a : Worker) (f : ℕ) → a.floor ≤ f → Owes P a → Owes P (begun a f)
owes_begun P a f l o = go (cases_lt f a.debt)
  where
    go : (f < a.debt) ⊎ (a.debt ≤ f) → Owes P (begun a f)
    go (inl q) = rw (lt-leb a.debt f q) (record { most = λ n p. let m = o.most n p in omega arith; one = o.one })
    go (inr q) = rw (le-leb a.debt f q) (record { most = λ n p. let m = o.most n p in omega arith; one = inl refl })

owes_touched : (P : ℕ → Type 0) (a : Worker) (w n l : ℕ) → Owes P a → Owes (λ m. P m ⊎ ((n ≡ m) × (is_remote w a.floor n l ≡ true))) (touched w a n l)
owes_touched P a w n l o = go (is_remote w a.floor n l) refl
  where
    go : (b : Bool) → is_remote w a.floor n l ≡ b → Owes (λ m. P m ⊎ ((n ≡ m) × (is_remote w a.floor n l ≡ true))) (record { clock = max a.clock n; floor = a.floor; debt = cond b (max a.debt n) a.debt; is_open = a.is_open })
    go false e = record {
      most = λ m p. elim p [ inl x ↦ o.most m x | inr x ↦ absurd (true≢false (sym x.1 ∙ e)) ];
      one = elim o.one [ inl z ↦ inl z | inr z ↦ inr (inl z) ];
    }
    go true e = record {
      most = λ m p. elim p [ inl x ↦ (let q = o.most m x in omega arith) | inr x ↦ (let q = x.0 in omega arith) ];
      one = elim (cases_lt a.debt n) [
        | inl q ↦ (let z : n ≡ max a.debt n = omega arith in inr (inr (z, e)))
        | inr q ↦ (let z : a.debt ≡ max a.debt n = omega arith in elim o.one [ inl x ↦ inl (sym z ∙ x) | inr x ↦ inr (inl (subst P z x)) ])
      ];
    }

-- nobody touches anything
quiet : (P Q : ℕ → ℕ → Type 0) (s : World) (v : ℕ) (a : Worker) → ((w n : ℕ) → Q w n → ⊥) → Owes (P v) a → AllOwe P s → (w : ℕ) → Owes (λ n. P w n ⊎ Q w n) (upd s.worker v a w)
quiet P Q s v a none h k w = at_upd (λ j b. Owes (λ n. P j n ⊎ Q j n) b) s.worker v a w
    (λ e. owes_more (P w) (λ n. P w n ⊎ Q w n) a (λ n p. inl p) (λ n q. elim q [ inl p ↦ p | inr z ↦ absurd (none w n z) ]) (subst (λ j. Owes (P j) a) (sym e) h))
    (λ _. owes_more (P w) (λ n. P w n ⊎ Q w n) (s.worker w) (λ n p. inl p) (λ n q. elim q [ inl p ↦ p | inr z ↦ absurd (none w n z) ]) (k w))

owe_event : (P : ℕ → ℕ → Type 0) (g : Start) (s : World) (e : Event) → may g s e ≡ true → AllOwe P s → AllOwe (λ w n. P w n ⊎ IsRemoteTouch g s e w n) (happens s e)
owe_event P g s (Begin v f) m k = quiet P (IsRemoteTouch g s (Begin v f)) s v (begun (s.worker v) f) (λ w n z. z)
    (owes_begun (P v) (s.worker v) f (leb-true (s.worker v).floor f (and_parts (leb (s.worker v).floor f) (leb f (flushed_by_all g s)) (and_parts (not (s.worker v).is_open) (leb (s.worker v).floor f && leb f (flushed_by_all g s)) (and_parts (leb v g.logs) (not (s.worker v).is_open && (leb (s.worker v).floor f && leb f (flushed_by_all g s))) m).1).1).0) (k v)) k
owe_event P g s (End v f) m k = quiet P (IsRemoteTouch g s (End v f)) s v (ended (s.worker v)) (λ w n z. z) (record { most = (k v).most; one = (k v).one }) k
owe_event P g s (Flush v n) m k = λ w. owes_more (P w) (λ i. P w i ⊎ IsRemoteTouch g s (Flush v n) w i) (s.worker w) (λ i p. inl p) (λ i q. elim q [ inl p ↦ p | inr z ↦ absurd z ]) (k w)
owe_event P g s (Touch v n l) m k = λ w. at_upd (λ j b. Owes (λ i. P j i ⊎ IsRemoteTouch g s (Touch v n l) j i) b) s.worker v (touched v (s.worker v) n l) w
    (λ e. owes_more (λ i. P v i ⊎ ((n ≡ i) × (is_remote v (s.worker v).floor n l ≡ true))) (λ i. P w i ⊎ IsRemoteTouch g s (Touch v n l) w i) (touched v (s.worker v) n l)
    (λ i q. elim q [ inl p ↦ inl (subst (λ j. P j i) (sym e) p) | inr z ↦ inr (m, sym e, z.0, z.1) ])
    (λ i q. elim q [ inl p ↦ inl (subst (λ j. P j i) e p) | inr z ↦ inr (z.2, z.3) ])
    (owes_touched (P v) (s.worker v) v n l (k v)))
    (λ ne. owes_more (P w) (λ i. P w i ⊎ IsRemoteTouch g s (Touch v n l) w i) (s.worker w) (λ i p. inl p) (λ i q. elim q [ inl p ↦ p | inr z ↦ absurd (ne (sym z.1)) ]) (k w))

not_met : (g : Start) (s : World) (e : Event) (w n : ℕ) → may g s e ≡ false → IsRemoteTouch g s e w n → ⊥
not_met g s (Touch v m l) w n f z = true≢false (sym z.0 ∙ f)
not_met g s (Begin v m) w n f z = z
not_met g s (End v m) w n f z = z
not_met g s (Flush v m) w n f z = z

owe_step : (P : ℕ → ℕ → Type 0) (g : Start) (s : World) (e : Event) → AllOwe P s → AllOwe (λ w n. P w n ⊎ IsRemoteTouch g s e w n) (step g s e)
owe_step P g s e k = go (may g s e) refl
  where
    go : (b : Bool) → may g s e ≡ b → AllOwe (λ w n. P w n ⊎ IsRemoteTouch g s e w n) (cond b (happens s e) s)
    go true m = owe_event P g s e m k
    go false m = λ w. owes_more (P w) (λ n. P w n ⊎ IsRemoteTouch g s e w n) (s.worker w) (λ n p. inl p) (λ n q. elim q [ inl p ↦ p | inr z ↦ absurd (not_met g s e w n m z) ]) (k w)

owe_run : (P : ℕ → ℕ → Type 0) (g : Start) (es : List Event) (s : World) → AllOwe P s → AllOwe (λ w n. P w n ⊎ Touched g s es w n) (run g s es)
owe_run P g [] s k = λ w. owes_more (P w) (λ n. P w n ⊎ ⊥) (s.worker w) (λ n p. inl p) (λ n q. elim q [ inl p ↦ p | inr z ↦ absurd z ]) (k w)
owe_run P g (e ∷ es) s k = λ w. owes_more (λ n. (P w n ⊎ IsRemoteTouch g s e w n) ⊎ Touched g (step g s e) es w n) (λ n. P w n ⊎ Touched g s (e ∷ es) w n) ((run g (step g s e) es).worker w)
    (λ n q. elim q [ inl a ↦ elim a [ inl p ↦ inl p | inr t ↦ inr (inl t) ] | inr t ↦ inr (inr t) ])
    (λ n q. elim q [ inl p ↦ inl (inl p) | inr a ↦ elim a [ inl t ↦ inl (inr t) | inr t ↦ inr t ] ])
    (owe_run (λ w n. P w n ⊎ IsRemoteTouch g s e w n) g es (step g s e) (owe_step P g s e k) w)

pub every_need : EveryNeed
every_need g es w f m = record { named = least_of; touched = greatest }
  where
    s : World
    s = run g (start g) es

    a : Worker
    a = s.worker w

    o : Owes (λ n. ⊥ ⊎ Touched g (start g) es w n) a
    o = owe_run (λ _ _. ⊥) g es (start g) (λ v. record { most = λ n z. absurd z; one = inl refl }) w

    low : a.floor ≤ f
    low = leb-true a.floor f (and_parts (leb a.floor f) (leb f (flushed_by_all g s)) (and_parts a.is_open (leb a.floor f && leb f (flushed_by_all g s)) m).1).0

    is_debt : f < a.debt → need_of a.debt f ≡ a.debt
    is_debt l = cond-true (ltb f a.debt) a.debt 0 (lt-ltb f a.debt l)

    least_of : (n : ℕ) → Touched g (start g) es w n → f < n → (0 < need_of a.debt f) × (n ≤ need_of a.debt f)
    least_of n t l = let q = o.most n (inr t) in let z = low in let d : f < a.debt = omega arith in let e = is_debt d in (omega arith, omega arith)

    greatest : 0 < need_of a.debt f → Touched g (start g) es w (need_of a.debt f) × (f < need_of a.debt f)
    greatest nz = elim (cases_lt f a.debt) [
      | inr le ↦ (let z = cond-false (ltb f a.debt) a.debt 0 (le-ltb f a.debt le) in let p = nz in absurd (omega arith))
      | inl lt ↦ (let e = is_debt lt in elim o.one [
        | inl z ↦ absurd (omega arith)
        | inr p ↦ elim p [ inl b ↦ absurd b | inr t ↦ (subst (λ i. Touched g (start g) es w i) (sym e) t, omega arith) ]
      ])
    ]
