-- How many events a call has, by how many pages are hot before it and behind it.
use Rattle.std.proofs.Common.{◌≡◌, ◌≢◌, ◌<◌, ◌≤◌, ◌+◌, ◌==◌, ◌&&◌, not, ℕ, zero, suc, Bool, true, false, List, [], ◌∷◌, length, append-nil, append_assoc, inl, inr, refl, sym, ap, subst, ◌∙◌, arith, true≢false}
use Rattle.std.specs.Prelude.{if◌then◌else◌}
use Rattle.std.proofs.lemmas.Bool.{cases_eq, eq-eqb, eqb-true}
use Rattle.map_model.specs.Lists.{upd}
use Rattle.map_model.proofs.ListLemmas.{upd_same, upd_other}
use Rattle.btree_descent.specs.core_state.Lists.{count_below}
use Rattle.btree_descent.specs.core_state.Openings.{Opening}
use Rattle.btree_descent.specs.core_state.States.{Place, State, frame_of, in_frame, is_hot}
use Rattle.btree_descent.specs.core_state.Events as happening
use Rattle.btree_descent.specs.core_state.Needs as core
use Rattle.btree_descent.specs.core_state.Steps.{happens}
use Rattle.btree_descent.specs.core_paging.Paging.{Residence}
use Rattle.btree_descent.specs.row_words.declared.event.Event.{Event}
use Rattle.btree_descent.specs.row_words.declared.event.Event.TheVariants as told
use Rattle.btree_descent.specs.row_words.Moments.{Moment, actor_of, by, event_of, pager}
use Rattle.btree_descent.specs.row_words.Openings.{opening}
use Rattle.btree_descent.proofs.row_words.Stays as words
use Rattle.btree_descent.specs.rows_trait.declared.view.View.{View}
use Rattle.btree_descent.specs.rows_trait.Turns.{Ran}
use Rattle.btree_descent.specs.rows_trait.Views.{Shape, after_all, may, state}
use Rattle.btree_descent.specs.Known.{IsSound}
use Rattle.btree_descent.specs.lean_proto.Still.{EveryStood}
use Rattle.page_pool.specs.Counts.{hot_pages}
use Rattle.page_provider.specs.Amounts.{EveryFew}
use Rattle.page_provider.specs.Moves.{AreMet, ArePagers, AreTicked, is_pagers, others_in}
use Rattle.page_provider.proofs.Keeping.{plays}
use Rattle.page_provider.proofs.Standing.{core_step, onward, ran_state, state_on, stood_others}

-- ## Counts

pub count_same : (n : ℕ) (P Q : ℕ → Bool) → ((q : ℕ) → q < n → Q q ≡ P q) → count_below n Q ≡ count_below n P
count_same zero P Q same = refl
count_same (suc n) P Q same =
    let ih = count_same n P Q (λ q l. same q (omega arith)) in
    (λ i. if same n (omega arith) i then suc (ih i) else ih i)

if_le : (b : Bool) (m n : ℕ) → m ≤ n → (if b then suc m else m) ≤ (if b then suc n else n)
if_le true m n l = omega arith
if_le false m n l = l

if_up : (b : Bool) (m : ℕ) → (if b then suc m else m) ≤ suc m
if_up true m = omega arith
if_up false m = omega arith

if_down : (b : Bool) (m : ℕ) → m ≤ (if b then suc m else m)
if_down true m = omega arith
if_down false m = omega arith

-- where one place alone may have changed there is one more at most
count_up : (n p : ℕ) (P Q : ℕ → Bool) → ((q : ℕ) → q ≢ p → Q q ≡ P q) → count_below n Q ≤ suc (count_below n P)
count_up zero p P Q same = omega arith
count_up (suc n) p P Q same = elim (cases_eq n p) [
  | inl e ↦ (
      let r : count_below n Q ≡ count_below n P = count_same n P Q (λ q l. same q (λ x. let y : q ≡ n = x ∙ sym e in absurd (omega arith))) in
      let a = if_up (Q n) (count_below n Q) in
      let b = if_down (P n) (count_below n P) in
      omega arith)
  | inr ne ↦ (
      let ih = count_up n p P Q same in
      let a : (if Q n then suc (count_below n Q) else count_below n Q) ≤ (if Q n then suc (suc (count_below n P)) else suc (count_below n P)) = if_le (Q n) (count_below n Q) (suc (count_below n P)) ih in
      let b : (if Q n then suc (suc (count_below n P)) else suc (count_below n P)) ≤ suc (if P n then suc (count_below n P) else count_below n P) = one_more (Q n) (P n) (count_below n P) (same n ne) in
      omega arith)
]
  where
    one_more : (b c : Bool) (m : ℕ) → b ≡ c → (if b then suc (suc m) else suc m) ≤ suc (if c then suc m else m)
    one_more true true m e = omega arith
    one_more false false m e = omega arith
    one_more true false m e = absurd (true≢false e)
    one_more false true m e = absurd (true≢false (sym e))

-- where it was one and is none there is one less
count_down : (n p : ℕ) (P Q : ℕ → Bool) → p < n → P p ≡ true → Q p ≡ false → ((q : ℕ) → q ≢ p → Q q ≡ P q) → suc (count_below n Q) ≤ count_below n P
count_down zero p P Q lt was now same = absurd (omega arith)
count_down (suc n) p P Q lt was now same = elim (cases_eq n p) [
  | inl e ↦ (
      let r : count_below n Q ≡ count_below n P = count_same n P Q (λ q l. same q (λ x. let y : q ≡ n = x ∙ sym e in absurd (omega arith))) in
      let a : (if Q n then suc (count_below n Q) else count_below n Q) ≡ count_below n Q = ap (λ b. if b then suc (count_below n Q) else count_below n Q) (ap Q e ∙ now) in
      let b : (if P n then suc (count_below n P) else count_below n P) ≡ suc (count_below n P) = ap (λ b. if b then suc (count_below n P) else count_below n P) (ap P e ∙ was) in
      omega arith)
  | inr ne ↦ (
      let ih = count_down n p P Q (let l : n ≢ p = ne in other n p lt l) was now same in
      one_less (Q n) (P n) (count_below n Q) (count_below n P) (same n ne) ih)
]
  where
    other : (n p : ℕ) → p < suc n → n ≢ p → p < n
    other n p l ne = elim (cases_eq p n) [
      | inl e ↦ absurd (ne (sym e))
      | inr f ↦ omega arith
    ]

    one_less : (b c : Bool) (m k : ℕ) → b ≡ c → suc m ≤ k → suc (if b then suc m else m) ≤ (if c then suc k else k)
    one_less true true m k e l = omega arith
    one_less false false m k e l = l
    one_less true false m k e l = absurd (true≢false e)
    one_less false true m k e l = absurd (true≢false (sym e))

-- where none came there are no more
count_less : (n : ℕ) (P Q : ℕ → Bool) → ((q : ℕ) → Q q ≡ true → P q ≡ true) → count_below n Q ≤ count_below n P
count_less zero P Q less = omega arith
count_less (suc n) P Q less =
    let ih = count_less n P Q less in
    go (Q n) (P n) (count_below n Q) (count_below n P) (less n) ih
  where
    go : (b c : Bool) (m k : ℕ) → (b ≡ true → c ≡ true) → m ≤ k → (if b then suc m else m) ≤ (if c then suc k else k)
    go true true m k f l = omega arith
    go false true m k f l = omega arith
    go false false m k f l = l
    go true false m k f l = absurd (true≢false (sym (f refl)))

-- ## Events

-- how many of them cool a page
abbrev cools_in : List Event → ℕ
cools_in [] = 0
cools_in (told.Cool p ∷ es) = suc (cools_in es)
cools_in (_ ∷ es) = cools_in es

abbrev ticks_in : List Event → ℕ
ticks_in [] = 0
ticks_in (told.Tick ∷ es) = suc (ticks_in es)
ticks_in (_ ∷ es) = ticks_in es

-- each of them is one of these
parts_of : (es : List Event) → length es ≡ cools_in es + ticks_in es + others_in es
parts_of [] = refl
parts_of (told.Cool p ∷ es) = let a = parts_of es in omega arith
parts_of (told.Tick ∷ es) = let a = parts_of es in omega arith
parts_of (_ ∷ es) = let a = parts_of es in omega arith

-- a tick for each that cools
ticked_are : (es : List Event) → AreTicked es → ticks_in es ≡ cools_in es
ticked_are [] k = refl
ticked_are (told.Cool p ∷ (told.Tick ∷ es)) k = ap suc (ticked_are es k)
ticked_are (told.Cool p ∷ []) k = absurd k
ticked_are (told.Cool p ∷ (_ ∷ es)) k = absurd k
ticked_are (told.Tick ∷ es) k = absurd k
ticked_are (_ ∷ es) k = ticked_are es k

cools_cons : (e : Event) (es : List Event) → cools_in (e ∷ es) ≡ cools_in (e ∷ []) + cools_in es
cools_cons (told.Cool p) es = omega arith
cools_cons _ es = omega arith

others_cons : (e : Event) (es : List Event) → others_in (e ∷ es) ≡ others_in (e ∷ []) + others_in es
others_cons (told.Cool p) es = omega arith
others_cons told.Tick es = omega arith
others_cons _ es = omega arith

-- of the only seat's events those that are the pager's: all but misses of workers
pagers_by : (es : List Event) → ArePagers es → ArePagers (by pager es)
pagers_by [] k = tt
pagers_by (e ∷ es) k = go (actor_of e == pager) (pagers_by es k.1)
  where
    go : (b : Bool) → ArePagers (by pager es) → ArePagers (if b then e ∷ by pager es else by pager es)
    go true ih = (k.0, ih)
    go false ih = ih

others_by : (es : List Event) → others_in (by pager es) ≤ others_in es
others_by [] = omega arith
others_by (e ∷ es) = let ih = others_by es in let o = others_cons e es in go (actor_of e == pager) ih o
  where
    go : (b : Bool) → others_in (by pager es) ≤ others_in es → others_in (e ∷ es) ≡ others_in (e ∷ []) + others_in es → others_in (if b then e ∷ by pager es else by pager es) ≤ others_in (e ∷ es)
    go true ih o = let c = others_cons e (by pager es) in omega arith
    go false ih o = omega arith

cools_by : (es : List Event) → cools_in (by pager es) ≡ cools_in es
cools_by [] = refl
cools_by (e ∷ es) = go (actor_of e == pager) refl (cools_by es)
  where
    none : (x : Event) → (actor_of x == pager) ≡ false → cools_in (x ∷ []) ≡ 0
    none (told.Cool p) k = absurd (true≢false k)
    none _ k = refl

    go : (b : Bool) → (actor_of e == pager) ≡ b → cools_in (by pager es) ≡ cools_in es → cools_in (if b then e ∷ by pager es else by pager es) ≡ cools_in (e ∷ es)
    go true is ih = let a = cools_cons e (by pager es) in let b = cools_cons e es in omega arith
    go false is ih = let a = cools_cons e es in let b = none e is in omega arith

-- ## One event

abbrev hot : View → ℕ
hot v = hot_pages (opening v.given) (state v).core

in_own : (x : Place) → is_hot x ≡ true → in_frame x (frame_of x) ≡ true
in_own (Place.Hot f) h = eq-eqb f f refl
in_own (Place.Cooling f e w) h = absurd (true≢false (sym h))
in_own Place.Cold h = absurd (true≢false (sym h))

module _ (g : Opening) (s : State) (res : Residence g s) where
  cold_less : (p q : ℕ) → is_hot (upd s.place p Place.Cold q) ≡ true → is_hot (s.place q) ≡ true
  cold_less p q h = elim (cases_eq q p) [
    | inl e ↦ absurd (true≢false (sym h ∙ ap is_hot (upd_same s.place p Place.Cold q e)))
    | inr ne ↦ ap is_hot (sym (upd_other s.place p Place.Cold q ne)) ∙ h
  ]

  step_hot : (e : Event) → is_pagers e ≡ true → core.may g s (event_of e) ≡ true → hot_pages g (happens g s (event_of e)) + cools_in (e ∷ []) ≤ hot_pages g s + others_in (e ∷ [])
  step_hot (told.Load p f) k m =
      let c : hot_pages g (happens g s (happening.Event.Load p f)) ≤ suc (hot_pages g s) = count_up g.format.pages p (λ q. is_hot (s.place q)) (λ q. is_hot (upd s.place p (Place.Hot f) q)) (λ q ne. ap is_hot (upd_other s.place p (Place.Hot f) q ne)) in
      omega arith
  step_hot (told.Rescue p) k m =
      let c : hot_pages g (happens g s (happening.Event.Rescue p)) ≤ suc (hot_pages g s) = count_up g.format.pages p (λ q. is_hot (s.place q)) (λ q. is_hot (upd s.place p (Place.Hot (frame_of (s.place p))) q)) (λ q ne. ap is_hot (upd_other s.place p (Place.Hot (frame_of (s.place p))) q ne)) in
      omega arith
  step_hot (told.Evict p) k m =
      let c : hot_pages g (happens g s (happening.Event.Evict p)) ≤ hot_pages g s = count_less g.format.pages (λ q. is_hot (s.place q)) (λ q. is_hot (upd s.place p Place.Cold q)) (cold_less p) in
      omega arith
  step_hot (told.Cool p) k m =
      let was : is_hot (s.place p) ≡ true = (words.and_true (is_hot (s.place p)) true (words.and_true (is_hot (s.place p) && true) (not (p == 0) && not (core.has_hot_child g s p)) m).0).0 in
      let cooling : Place = Place.Cooling (frame_of (s.place p)) s.epoch (λ w. core.is_inside (s.inside w)) in
      let lt : p < g.format.pages = (res.within p (frame_of (s.place p)) (in_own (s.place p) was)).0 in
      let c : suc (hot_pages g (happens g s (happening.Event.Cool p))) ≤ hot_pages g s = count_down g.format.pages p (λ q. is_hot (s.place q)) (λ q. is_hot (upd s.place p cooling q)) lt was (ap is_hot (upd_same s.place p cooling p refl)) (λ q ne. ap is_hot (upd_other s.place p cooling q ne)) in
      omega arith
  step_hot (told.Fetch p pairs) k m = let c : hot_pages g (happens g s (event_of (told.Fetch p pairs))) ≡ hot_pages g s = refl in omega arith
  step_hot (told.Save p) k m = let c : hot_pages g (happens g s (happening.Event.Save p)) ≡ hot_pages g s = refl in omega arith
  step_hot told.Tick k m = let c : hot_pages g (happens g s happening.Event.Tick) ≡ hot_pages g s = refl in omega arith
  step_hot (told.Miss w) k m = let c : hot_pages g (happens g s (happening.Event.Miss w)) ≡ hot_pages g s = refl in omega arith
  step_hot _ k m = absurd (true≢false (sym k))

-- ## A call

module _ (every : EveryStood) (z : Shape) where
  hot_stood : (v : View) (e : Event) → (actor_of e == pager) ≡ false → hot (onward v (e ∷ [])) ≡ hot v
  hot_stood v e is =
      let st = stood_others every z v (e ∷ []) (ap (λ b. if b then e ∷ [] else []) is) in
      count_same (opening v.given).format.pages (λ q. is_hot ((state v).core.place q)) (λ q. is_hot ((state (onward v (e ∷ []))).core.place q)) (λ q l. st.hot q)

  hot_met : (v : View) (e : Event) → IsSound v.given → is_pagers e ≡ true → core.may (opening v.given) (state v).core (event_of e) ≡ true → hot (onward v (e ∷ [])) + cools_in (e ∷ []) ≤ hot v + others_in (e ∷ [])
  hot_met v e sound k m =
      let now : (state (onward v (e ∷ []))).core ≡ happens (opening v.given) (state v).core (event_of e) = ap (λ n. n.core) (state_on v (e ∷ [])) ∙ (core_step v.given (state v) e ∙ ap (λ b. if b then happens (opening v.given) (state v).core (event_of e) else (state v).core) m) in
      subst (λ (t : State). hot_pages (opening v.given) t + cools_in (e ∷ []) ≤ hot v + others_in (e ∷ [])) (sym now) (step_hot (opening v.given) (state v).core (sound v.seen).residence e k m)

  hot_on : (es : List Event) (v : View) → IsSound v.given → ArePagers (by pager es) → AreMet v.given (state v) es → hot (onward v es) + cools_in (by pager es) ≤ hot v + others_in (by pager es)
  hot_on [] v sound k m = let a : hot (onward v []) ≡ hot v = ap (λ s. hot_pages (opening v.given) (after_all v.given s).core) (append-nil v.seen) in omega arith
  hot_on (e ∷ es) v sound k m = go (actor_of e == pager) refl k (hot_on es (onward v (e ∷ [])) sound)
    where
      tail : AreMet v.given (state (onward v (e ∷ []))) es
      tail = subst (λ (n : Moment). AreMet v.given n es) (sym (state_on v (e ∷ []))) m.1

      whole : hot (onward (onward v (e ∷ [])) es) ≡ hot (onward v (e ∷ es))
      whole = ap (λ s. hot_pages (opening v.given) (after_all v.given s).core) (append_assoc v.seen (e ∷ []) es)

      go : (b : Bool) → (actor_of e == pager) ≡ b → ArePagers (if b then e ∷ by pager es else by pager es)
          → (ArePagers (by pager es) → AreMet v.given (state (onward v (e ∷ []))) es → hot (onward (onward v (e ∷ [])) es) + cools_in (by pager es) ≤ hot (onward v (e ∷ [])) + others_in (by pager es))
          → hot (onward v (e ∷ es)) + cools_in (if b then e ∷ by pager es else by pager es) ≤ hot v + others_in (if b then e ∷ by pager es else by pager es)
      go true is r ih =
          let a = ih r.1 tail in
          let b = hot_met v e sound r.0 (m.0 (eqb-true (actor_of e) pager is)) in
          let c = cools_cons e (by pager es) in
          let d = others_cons e (by pager es) in
          let w = whole in
          omega arith
      go false is r ih =
          let a = ih r tail in
          let b = hot_stood v e is in
          let w = whole in
          omega arith

pub few_are : EveryStood → EveryFew
few_are every most z v was u is c m =
    let h = go z.alone m.goes.ran refl c.actor m.met in
    let p = parts_of m.events in
    let t = ticked_are m.events m.ticked in
    let f = m.few in
    omega arith
  where
    back : {alone : Bool} → (r : Ran alone v m.events u) → hot u ≡ hot (onward v r.more)
    back r = let s = ran_state r in let g = r.given in (λ i. hot_pages (opening (g i)) (s i).core)

    go : (alone : Bool) → (r : Ran alone v m.events u) → z.alone ≡ alone → may alone v pager ≡ true → AreMet v.given (state v) r.more → hot u + cools_in m.events ≤ hot v + others_in m.events
    go true r is a met =
        let e : r.more ≡ m.events = r.all refl in
        let k = hot_on every z r.more v c.sound (pagers_by r.more (subst ArePagers (sym e) m.pagers)) met in
        let b = back r in
        let x = cools_by r.more in
        let y = others_by r.more in
        let x2 : cools_in r.more ≡ cools_in m.events = ap cools_in e in
        let y2 : others_in r.more ≡ others_in m.events = ap others_in e in
        omega arith
    go false r is a met =
        let e : by pager r.more ≡ m.events = subst (λ n. by n r.more ≡ m.events) (plays false v a refl) (r.own refl) in
        let k = hot_on every z r.more v c.sound (subst ArePagers (sym e) m.pagers) met in
        let b = back r in
        let x2 : cools_in (by pager r.more) ≡ cools_in m.events = ap cools_in e in
        let y2 : others_in (by pager r.more) ≡ others_in m.events = ap others_in e in
        omega arith
