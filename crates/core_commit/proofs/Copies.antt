-- What is saved of each page: a cold page, and one that is not dirty, is as it was saved.
use Rattle.map_model.specs.Lists.{upd, all, Has}
use Rattle.core_state.specs.image_model.Entries.{Entry, Contents, touches, written}
use Rattle.core_state.specs.States.{Place, State, flushed_by_all, is_hot, is_cold, left_by, start}
use Rattle.core_state.specs.Openings.{Opening}
use Rattle.core_state.specs.Needs.{are_hot}
use Rattle.core_state.specs.Steps.{at_pages, refs_of}
use Rattle.map_model.proofs.ListLemmas.{upd_same, upd_other}
use Rattle.core_commit.proofs.Invariants.{Inv, stamp_flushed}
use Rattle.core_commit.proofs.Events.{touch_has, touched_all}
use Rattle.std.proofs.Common.{◌≡◌, ◌<◌, ◌≤◌, ℕ, suc, Bool, true, false, cond, List, [], ◌∷◌, refl, sym, ap, ◌∙◌, subst, inl, inr, arith, true≢false}
use Rattle.std.proofs.lemmas.Bool.{cases_eq, cases_Bool, and_parts, cond-false}
pub use Rattle.core_commit.specs.Invariants.{Copied}

-- P of an update, from P at the place and P elsewhere
pub at_place : {A : Type 0} (P : ℕ → A → Type 0) (f : ℕ → A) (i : ℕ) (a : A) (j : ℕ) → (j ≡ i → P j a) → ((j ≡ i → ⊥) → P j (f j)) → P j (upd f i a j)
at_place P f i a j h k = elim (cases_eq j i) [
  | inl e ↦ subst (λ x. P j x) (sym (upd_same f i a j e)) (h e)
  | inr n ↦ subst (λ x. P j x) (sym (upd_other f i a j n)) (k n)
]

pub hot_not_cold : (x : Place) → is_hot x ≡ true → is_cold x ≡ false
hot_not_cold (Place.Hot f) h = refl
hot_not_cold (Place.Cooling f e v) h = absurd (true≢false (sym h))
hot_not_cold Place.Cold h = absurd (true≢false (sym h))

pub left_cold : (w : ℕ) (x : Place) → is_cold (left_by w x) ≡ is_cold x
left_cold w (Place.Hot f) = refl
left_cold w (Place.Cooling f e v) = refl
left_cold w Place.Cold = refl

-- what a Load brings is what the page has
pub loaded : (page saved : ℕ → Contents) (place : ℕ → Place) → Copied page saved place → (p : ℕ) → is_cold (place p) ≡ true → (q : ℕ) → upd page p (saved p) q ≡ page q
loaded page saved place k p c q = at_place (λ j v. v ≡ page j) page p (saved p) q (λ e. sym (k.cold p c) ∙ ap page (sym e)) (λ _. refl)

-- a record's pages are hot, and its number is above theirs
pub copied_records : (s : State) → Copied s.page s.saved s.place → (x : Entry) → ((p : ℕ) → touches p x ≡ true → (is_hot (s.place p) ≡ true) × ((s.page p).gsn < x.number)) →
    Copied (λ p. cond (touches p x) (written x p (s.page p)) (s.page p)) s.saved s.place
copied_records s k x h = record { cold = cold; clean = clean; behind = behind }
  where
    cold : (p : ℕ) → is_cold (s.place p) ≡ true → cond (touches p x) (written x p (s.page p)) (s.page p) ≡ s.saved p
    cold p c = elim (cases_Bool (touches p x)) [
      | inl t ↦ absurd (true≢false (sym c ∙ hot_not_cold (s.place p) (h p t).0))
      | inr t ↦ cond-false (touches p x) (written x p (s.page p)) (s.page p) t ∙ k.cold p c
    ]

    clean : (p : ℕ) → (cond (touches p x) (written x p (s.page p)) (s.page p)).gsn ≤ (s.saved p).gsn → cond (touches p x) (written x p (s.page p)) (s.page p) ≡ s.saved p
    clean p = go (touches p x) refl
      where
        go : (b : Bool) → touches p x ≡ b → (cond b (written x p (s.page p)) (s.page p)).gsn ≤ (s.saved p).gsn → cond b (written x p (s.page p)) (s.page p) ≡ s.saved p
        go true t l = let a = (h p t).1 in let b = k.behind p in absurd (omega arith)
        go false t l = k.clean p l

    behind : (p : ℕ) → (s.saved p).gsn ≤ (cond (touches p x) (written x p (s.page p)) (s.page p)).gsn
    behind p = go (touches p x) refl
      where
        go : (b : Bool) → touches p x ≡ b → (s.saved p).gsn ≤ (cond b (written x p (s.page p)) (s.page p)).gsn
        go true t = let a = (h p t).1 in let b = k.behind p in omega arith
        go false t = k.behind p

-- p's place changes, and it is not cold then
pub copied_place : (page saved : ℕ → Contents) (place : ℕ → Place) (p : ℕ) (x : Place) → is_cold x ≡ false → Copied page saved place → Copied page saved (upd place p x)
copied_place page saved place p x n k = record {
  cold = λ j. at_place (λ j y. is_cold y ≡ true → page j ≡ saved j) place p x j (λ _ c. absurd (true≢false (sym c ∙ n))) (λ _ c. k.cold j c);
  clean = k.clean;
  behind = k.behind;
}

pub copied_load : (page saved : ℕ → Contents) (place : ℕ → Place) (p f : ℕ) → Copied page saved place → is_cold (place p) ≡ true → Copied (upd page p (saved p)) saved (upd place p (Place.Hot f))
copied_load page saved place p f k c =
    let n = copied_place page saved place p (Place.Hot f) refl k in record {
      cold = λ j h. loaded page saved place k p c j ∙ n.cold j h;
      clean = λ j l. loaded page saved place k p c j ∙ k.clean j (let e = ap (λ (v : Contents). v.gsn) (loaded page saved place k p c j) in omega arith);
      behind = λ j. let e = ap (λ (v : Contents). v.gsn) (loaded page saved place k p c j) in let b = k.behind j in omega arith;
    }

pub copied_save : (page saved : ℕ → Contents) (place : ℕ → Place) (p : ℕ) → Copied page saved place → Copied page (upd saved p (page p)) place
copied_save page saved place p k = record {
  cold = λ j c. at_place (λ j v. page j ≡ saved j → page j ≡ v) saved p (page p) j (λ e _. ap page e) (λ _ q. q) (k.cold j c);
  clean = λ j. at_place (λ j v. (page j).gsn ≤ v.gsn → page j ≡ v) saved p (page p) j (λ e _. ap page e) (λ _ l. k.clean j l);
  behind = λ j. at_place (λ j v. v.gsn ≤ (page j).gsn) saved p (page p) j (λ e. let q = ap (λ (i : ℕ). (page i).gsn) e in omega arith) (λ _. k.behind j);
}

pub copied_evict : (page saved : ℕ → Contents) (place : ℕ → Place) (p : ℕ) → Copied page saved place → (page p).gsn ≤ (saved p).gsn → Copied page saved (upd place p Place.Cold)
copied_evict page saved place p k l = record {
  cold = λ j. at_place (λ j y. is_cold y ≡ true → page j ≡ saved j) place p Place.Cold j (λ e _. ap page e ∙ (k.clean p l ∙ ap saved (sym e))) (λ _ c. k.cold j c);
  clean = k.clean;
  behind = k.behind;
}

pub copied_leave : (page saved : ℕ → Contents) (place : ℕ → Place) (w : ℕ) → Copied page saved place → Copied page saved (λ p. left_by w (place p))
copied_leave page saved place w k = record { cold = λ p c. k.cold p (sym (left_cold w (place p)) ∙ c); clean = k.clean; behind = k.behind }

pub copied_start : (g : Opening) → Copied (start g).page (start g).saved (start g).place
copied_start g = record { cold = λ p c. refl; clean = λ p l. refl; behind = λ p. omega arith }

-- ## The pages of a record

all_at : (p : ℕ → Bool) (xs : List ℕ) → all p xs ≡ true → (x : ℕ) → Has x xs → p x ≡ true
all_at p [] h x i = absurd i
all_at p (y ∷ ys) h x (inl e) = ap p e ∙ (and_parts (p y) (all p ys) h).0
all_at p (y ∷ ys) h x (inr i) = all_at p ys (and_parts (p y) (all p ys) h).1 x i

-- of a record of these pages by w, which are hot
pub above_pages : (g : Opening) (s : State) → Inv g s → (w : ℕ) (ps : List ℕ) (x : Entry) → are_hot s ps ≡ true → x.refs ≡ refs_of s ps → x.number ≡ suc (at_pages s w (s.worker w) ps).clock →
    (p : ℕ) → touches p x ≡ true → (is_hot (s.place p) ≡ true) × ((s.page p).gsn < x.number)
above_pages g s i w ps x h xr nx p t =
    let j = touch_has s ps x xr p t in
    let a = touched_all s w (flushed_by_all g s) (s.worker w) ps (stamp_flushed g s i) (i.workers w).floor (i.workers w).debt in
    let b = (a.4 p j).0 in
    (all_at (λ q. is_hot (s.place q)) ps h p j, omega arith)
