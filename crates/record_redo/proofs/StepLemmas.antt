-- Redo of distinct pages, one after the other, is what `redo_one` says at once.
use Rattle.std.proofs.Common.{◌≡◌, ◌⊎◌, ℕ, Bool, true, false, cond, ◌&&◌, ◌||◌, not, ◌==◌, List, [], ◌∷◌, refl, sym, ◌∙◌, ap, subst, inl, inr}
use Rattle.std.proofs.lemmas.Bool.{cases_Bool, and_parts, and_left, or_from, or_left, eq-eqb, ne_eqb, eqb-true, cond-true, cond-false}
use mathlib.Core.Path.{fun_ext}
use Rattle.map_model.specs.Lists.{Has, any, all}
use Rattle.page_model.specs.Records.{Ref}
use Rattle.disk_image.specs.image_model.Entries.{Entry, Contents, written}
use Rattle.disk_image.specs.image_model.Redo.{stands, at_prev}
use Rattle.record_redo.specs.Pages.{one_redone}
use Rattle.record_redo.specs.Inside.{is_at, step, steps, can_all}
use Rattle.record_redo.specs.Inside as inside
use Rattle.disk_image.specs.log_record.declared.record.Body.{Body}

-- the page is none of these
abbrev pub Apart : ℕ → List Ref → Type 0
Apart p [] = Unit {0}
Apart p (f ∷ fs) = (f.page ≡ p → ⊥) × Apart p fs

-- no two pages are the same
abbrev pub Distinct : List Ref → Type 0
Distinct [] = Unit {0}
Distinct (f ∷ fs) = Apart f.page fs × Distinct fs

-- the page p, which stands so, is this one at its prev
abbrev pub stood : ℕ → Contents → Ref → Bool
stood p v f = (f.page == p) && (v.gsn == f.prev)

pub none_stood : (p : ℕ) (v : Contents) (fs : List Ref) → Apart p fs → any (stood p v) fs ≡ false
none_stood p v [] a = refl
none_stood p v (f ∷ fs) a = or_from (stood p v f) (any (stood p v) fs) (and_left (f.page == p) (v.gsn == f.prev) (ne_eqb f.page p a.0)) (none_stood p v fs a.1)

steps_at : (r : Entry) (fs : List Ref) (page : ℕ → Contents) (p : ℕ) → Distinct fs → steps r fs page p ≡ cond (any (stood p (page p)) fs) (written r p (page p)) (page p)
steps_at r [] page p d = refl
steps_at r (f ∷ fs) page p d = go (steps_at r fs (step r f page) p d.1) (cases_Bool (stood p (page p) f))
  where
    go : steps r fs (step r f page) p ≡ cond (any (stood p (step r f page p)) fs) (written r p (step r f page p)) (step r f page p) →
        (stood p (page p) f ≡ true) ⊎ (stood p (page p) f ≡ false) →
        steps r fs (step r f page) p ≡ cond (stood p (page p) f || any (stood p (page p)) fs) (written r p (page p)) (page p)
    go ih (inl e) =
        let here : f.page ≡ p = eqb-true f.page p (and_parts (f.page == p) ((page p).gsn == f.prev) e).0 in
        ih ∙ cond-false (any (stood p (step r f page p)) fs) (written r p (step r f page p)) (step r f page p) (none_stood p (step r f page p) fs (subst (λ q. Apart q fs) here d.0))
        ∙ cond-true (stood p (page p) f) (written r p (page p)) (page p) e
        ∙ sym (cond-true (stood p (page p) f || any (stood p (page p)) fs) (written r p (page p)) (page p) (or_left (stood p (page p) f) (any (stood p (page p)) fs) e))
    go ih (inr e) =
        ih ∙ ap (λ (v : Contents). cond (any (stood p v) fs) (written r p v) v) (cond-false (stood p (page p) f) (written r p (page p)) (page p) e)
        ∙ ap (λ b. cond (b || any (stood p (page p)) fs) (written r p (page p)) (page p)) (sym e)

-- a record that counts
pub steps_redone : (r : Entry) (page : ℕ → Contents) → Distinct r.refs → stands page r ≡ true → steps r r.refs page ≡ one_redone page r
steps_redone r page d s = fun_ext (λ p. steps_at r r.refs page p d ∙ ap (λ b. cond (b && at_prev r p (page p)) (written r p (page p)) (page p)) (sym s))

-- one that does not count
pub none_redone : (r : Entry) (page : ℕ → Contents) → stands page r ≡ false → page ≡ one_redone page r
none_redone r page s = fun_ext (λ p. ap (λ b. cond (b && at_prev r p (page p)) (written r p (page p)) (page p)) (sym s))

-- ## What is asked of each page

pub apart_from : (p : ℕ) (x : Ref) (fs : List Ref) → Apart p fs → Has x fs → x.page ≡ p → ⊥
apart_from p x [] a m = absurd m
apart_from p x (f ∷ fs) a (inl e) = λ h. a.0 (ap (λ (g : Ref). g.page) (sym e) ∙ h)
apart_from p x (f ∷ fs) a (inr m) = apart_from p x fs a.1 m

pub all_same : {A : Type 0} (P Q : A → Bool) (xs : List A) → ((x : A) → Has x xs → P x ≡ Q x) → all P xs ≡ all Q xs
all_same P Q [] h = refl
all_same P Q (x ∷ xs) h = ap (λ b. b && all P xs) (h x (inl refl)) ∙ ap (λ b. Q x && b) (all_same P Q xs (λ y m. h y (inr m)))

alone : (a b c : Bool) → a ≡ true → c ≡ false → ((a && b) || c) ≡ b
alone true true true p q = refl
alone true true false p q = refl
alone true false c p q = q
alone false true c p q = q ∙ p
alone false false c p q = q

-- of distinct pages each is named once
pub own_stood : (v : Contents) (x : Ref) (fs : List Ref) → Distinct fs → Has x fs → any (stood x.page v) fs ≡ (v.gsn == x.prev)
own_stood v x [] d m = absurd m
own_stood v x (f ∷ fs) d (inl e) =
    subst (λ (y : Ref). any (stood y.page v) (f ∷ fs) ≡ (v.gsn == y.prev)) (sym e)
    (alone (f.page == f.page) (v.gsn == f.prev) (any (stood f.page v) fs) (eq-eqb f.page f.page refl) (none_stood f.page v fs d.0))
own_stood v x (f ∷ fs) d (inr m) =
    ap (λ b. b || any (stood x.page v) fs) (and_left (f.page == x.page) (v.gsn == f.prev) (ne_eqb f.page x.page (λ e. apart_from f.page x fs d.0 m (sym e))))
    ∙ own_stood v x fs d.1 m

-- ## One page more

-- a page is left as it is by a step on another
pub step_other : (r : Entry) (f : Ref) (page : ℕ → Contents) (p : ℕ) → (f.page ≡ p → ⊥) → step r f page p ≡ page p
step_other r f page p n = cond-false (stood p (page p) f) (written r p (page p)) (page p) (and_left (f.page == p) ((page p).gsn == f.prev) (ne_eqb f.page p n))

-- what is asked of the pages behind it is asked of the same pages
pub can_step : (body : Body) (r : Entry) (f : Ref) (fs : List Ref) (page : ℕ → Contents) → Apart f.page fs → can_all body (step r f page) fs ≡ can_all body page fs
can_step body r f fs page a = all_same _ _ fs (λ x m. ap (λ (v : Contents). not (v.gsn == x.prev) || inside.can_be body x.page v.node) (step_other r f page x.page (λ e. apart_from f.page x fs a m (sym e))))
