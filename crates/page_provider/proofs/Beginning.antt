-- A fresh pager is the pager of rows of which page 0 alone is in a frame.
use Rattle.std.proofs.Common.{◌≡◌, ◌≢◌, ◌<◌, ◌≤◌, ◌+◌, ◌-◌, ◌⊎◌, append-nil, append_assoc, ◌==◌, not, ◌&&◌, ℕ, zero, suc, Bool, true, false, List, [], ◌∷◌, ◌++◌, inl, inr, refl, sym, ap, ◌∙◌, arith, true≢false}
use Rattle.std.proofs.lemmas.Bool.{cases_eq, eq-eqb, eqb-true}
use Rattle.map_model.specs.Lists.{Has}
use Rattle.btree_descent.specs.core_state.Lists.{all_below}
use Rattle.btree_descent.specs.core_state.Openings.{Opening}
use Rattle.btree_descent.specs.core_state.States.{Place, State, in_frame, is_hot}
use Rattle.btree_descent.specs.core_state.Needs.{is_empty_frame}
use Rattle.btree_descent.specs.core_paging.Paging.{Residence}
use Rattle.btree_descent.specs.row_words.Openings.{opening}
use Rattle.btree_descent.specs.rows_trait.Views.{state}
use Rattle.page_pool.specs.Pools.{AreOnce}
use Rattle.page_provider.specs.Fresh.{EveryFresh, down_to_one}

-- ## The numbers

has_down : (n f : ℕ) → Has f (down_to_one n) → (0 < f) × (f < n)
has_down zero f h = absurd h
has_down (suc zero) f h = absurd h
has_down (suc (suc n)) f (inl e) = let x : f ≡ suc n = e in (omega arith, omega arith)
has_down (suc (suc n)) f (inr h) = let k = has_down (suc n) f h in let a = k.0 in let b = k.1 in (a, omega arith)

down_has : (n f : ℕ) → 0 < f → f < n → Has f (down_to_one n)
down_has zero f some lt = absurd (omega arith)
down_has (suc zero) f some lt = absurd (omega arith)
down_has (suc (suc n)) f some lt = elim (cases_eq (suc n) f) [
  | inl e ↦ inl (sym e)
  | inr ne ↦ inr (down_has (suc n) f some (lower n f lt ne))
]
  where
    lower : (n f : ℕ) → f < suc (suc n) → suc n ≢ f → f < suc n
    lower n f l ne = elim (cases_eq f (suc n)) [
      | inl e ↦ absurd (ne (sym e))
      | inr k ↦ omega arith
    ]

down_once : (n : ℕ) → AreOnce (down_to_one n)
down_once zero = tt
down_once (suc zero) = tt
down_once (suc (suc n)) = (λ h. (let k = (has_down (suc n) (suc n) h).1 in absurd (omega arith)), down_once (suc n))

-- ## The frames

all_true : (n : ℕ) (P : ℕ → Bool) → ((p : ℕ) → p < n → P p ≡ true) → all_below n P ≡ true
all_true zero P each = refl
all_true (suc n) P each = Rattle.std.proofs.lemmas.Bool.and_from (P n) (all_below n P) (each n (omega arith)) (all_true n P (λ p l. each p (omega arith)))

all_at : (n : ℕ) (P : ℕ → Bool) → all_below n P ≡ true → (p : ℕ) → p < n → P p ≡ true
all_at zero P a p lt = absurd (omega arith)
all_at (suc n) P a p lt = let k = Rattle.btree_descent.proofs.row_words.Stays.and_true (P n) (all_below n P) a in elim (cases_eq p n) [
  | inl e ↦ ap P e ∙ k.0
  | inr ne ↦ all_at n P k.1 p (omega arith)
]

module _ (g : Opening) (s : State) (res : Residence g s) (cold : (p : ℕ) → 0 < p → s.place p ≡ Place.Cold) where
  nowhere : (f p : ℕ) → 0 < f → in_frame (s.place p) f ≡ false
  nowhere f zero some = ap (λ x. in_frame x f) res.root ∙ not_zero f some
    where
      not_zero : (f : ℕ) → 0 < f → (0 == f) ≡ false
      not_zero f l = go (0 == f) refl
        where
          go : (b : Bool) → (0 == f) ≡ b → b ≡ false
          go true e = let x = eqb-true 0 f e in absurd (omega arith)
          go false e = refl
  nowhere f (suc p) some = ap (λ x. in_frame x f) (cold (suc p) (omega arith))

  others_empty : (f : ℕ) → 0 < f → is_empty_frame g s f ≡ true
  others_empty f some = all_true g.format.pages (λ p. not (in_frame (s.place p) f)) (λ p l. ap not (nowhere f p some))

  root_full : is_empty_frame g s 0 ≡ true → ⊥
  root_full e = true≢false (sym (all_at g.format.pages (λ p. not (in_frame (s.place p) 0)) e 0 (res.within 0 0 here).0) ∙ ap not here)
    where
      here : in_frame (s.place 0) 0 ≡ true
      here = ap (λ x. in_frame x 0) res.root

pub fresh_keeps : EveryFresh
fresh_keeps z v frames workers generation free slots kept b =
    let g = opening v.given in
    let s = (state v).core in
    let res = (b.sound v.seen).residence in
    let sized = b.sized.given in
    record {
      actor = b.actor;
      sound = b.sound;
      waiting = b.waiting;
      sized = b.sized;
      some = b.some;
      workers = b.workers_are;
      pages = b.pages;
      agrees = record {
        queue = sym b.queue;
        entries = λ x h. absurd h;
        empty = λ f h. (let k = has_down frames f h in ((let l = k.1 in omega arith), others_empty g s res b.cold f k.0));
        every = λ f lt e. elim (cases_eq f 0) [
          | inl is ↦ absurd (root_full g s res b.cold (ap (λ n. is_empty_frame g s n) (sym is) ∙ e))
          | inr ne ↦ down_has frames f (positive f ne) (omega arith)
        ];
        once = down_once frames;
        free = λ p lt. b.marks p lt ∙ free_is p lt;
      };
      kept = b.table;
      epoch = b.epoch;
    }
  where
    positive : (f : ℕ) → f ≢ 0 → 0 < f
    positive zero ne = absurd (ne refl)
    positive (suc f) ne = omega arith

    live_root : (a h : Bool) → a ≡ true → not a ≡ (not a && not h)
    live_root true h e = refl
    live_root false h e = absurd (true≢false (sym e))

    and_both : (a : Bool) → a ≡ (a && true)
    and_both true = refl
    and_both false = refl

    free_is : (p : ℕ) → p < (opening v.given).format.pages → not ((state v).core.page p).node.live ≡ (not ((state v).core.page p).node.live && not (is_hot ((state v).core.place p)))
    free_is zero lt = live_root ((state v).core.page 0).node.live (is_hot ((state v).core.place 0)) (b.sound v.seen).tree.root.0
    free_is (suc p) lt = and_both (not ((state v).core.page (suc p)).node.live) ∙ ap (λ x. not ((state v).core.page (suc p)).node.live && not (is_hot x)) (sym (b.cold (suc p) (omega arith)))

-- ## The frames in memory

down_step : (n : ℕ) → 0 < n → down_to_one (suc n) ≡ n ∷ down_to_one n
down_step zero some = absurd (omega arith)
down_step (suc n) some = refl

-- one more was put behind the others
pub down_more : (frames i : ℕ) (items : List ℕ) → i < frames → down_to_one frames ≡ items ++ down_to_one (suc frames - i) → down_to_one frames ≡ (items ++ (frames - i) ∷ []) ++ down_to_one (suc frames - (i + 1))
down_more frames i items lt is =
    let a : suc frames - i ≡ suc (frames - i) = omega arith in
    let b : suc frames - (i + 1) ≡ frames - i = omega arith in
    is ∙ (ap (λ n. items ++ down_to_one n) a ∙ (ap (λ ys. items ++ ys) (down_step (frames - i) (omega arith)) ∙ (sym (append_assoc items ((frames - i) ∷ []) (down_to_one (frames - i))) ∙ ap (λ n. (items ++ (frames - i) ∷ []) ++ down_to_one n) (sym b))))

-- behind the last
pub down_all : (frames i : ℕ) (items : List ℕ) → frames ≤ i → (i ≤ frames) ⊎ (i ≡ 1) → down_to_one frames ≡ items ++ down_to_one (suc frames - i) → items ≡ down_to_one frames
down_all frames i items most top is = let k = none frames i most top in sym (is ∙ (ap (λ ys. items ++ ys) k ∙ append-nil items))
  where
    none : (frames i : ℕ) → frames ≤ i → (i ≤ frames) ⊎ (i ≡ 1) → down_to_one (suc frames - i) ≡ []
    none frames i most (inl l) = let e : suc frames - i ≡ 1 = omega arith in ap down_to_one e
    none frames i most (inr o) = few (suc frames - i) (omega arith)
      where
        few : (n : ℕ) → n < 2 → down_to_one n ≡ []
        few zero l = refl
        few (suc zero) l = refl
        few (suc (suc n)) l = absurd (omega arith)
