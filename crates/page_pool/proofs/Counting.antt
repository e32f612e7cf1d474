-- The frames, one by one: those that are empty, those of the queue, those of the hot pages.
use Rattle.std.proofs.Common.{◌≡◌, ◌<◌, not, ℕ, zero, suc, Bool, true, false, List, [], ◌∷◌, ◌++◌, map, length, length-append, inl, inr, refl, sym, ap, subst, ◌∙◌, arith, true≢false}
use Rattle.std.specs.Prelude.{if◌then◌else◌}
use Rattle.std.proofs.lemmas.Bool.{cases_eq, eq-eqb}
use Rattle.map_model.specs.Lists.{Has}
use Rattle.lean_proto.specs.core_state.Lists.{count_below}
use Rattle.lean_proto.specs.core_state.Openings.{Opening}
use Rattle.lean_proto.specs.core_state.States.{Place, State, is_hot, is_cooling, in_frame, frame_of}
use Rattle.lean_proto.specs.core_state.Needs.{is_empty_frame}
use Rattle.lean_proto.specs.core_paging.Paging.{Residence}
use Rattle.lean_proto.proofs.row_words.Stays as words
use Rattle.cooling_stage.specs.declared.stage.Cooling.{Cooling}
use Rattle.page_pool.specs.Pools.{Pool, Agrees, AreOnce}
use Rattle.page_pool.specs.Counts.{EveryFrame}
use Rattle.page_pool.proofs.Agreeing.{empty_to}
use Rattle.page_pool.proofs.Numbers.{few, enough, once_append, has_either, either_left, either_right}
use Rattle.page_pool.proofs.Queueing.{its_frame, tells, has_frame, length_frames, once_frames, found_has, frame_is, one, its_entry, is_there}
use Rattle.page_pool.proofs.Taken.{stands}

-- ## The frames of the hot pages below a number

hot_frames : (ℕ → Place) → ℕ → List ℕ
hot_frames place zero = []
hot_frames place (suc n) = if is_hot (place n) then frame_of (place n) ∷ hot_frames place n else hot_frames place n

length_hot : (place : ℕ → Place) (n : ℕ) → length (hot_frames place n) ≡ count_below n (λ p. is_hot (place p))
unfolding hot_frames
length_hot place zero = refl
length_hot place (suc n) = go (is_hot (place n)) (length_hot place n)
  where
    go : (b : Bool) → length (hot_frames place n) ≡ count_below n (λ p. is_hot (place p))
        → length (if b then frame_of (place n) ∷ hot_frames place n else hot_frames place n) ≡ (if b then suc (count_below n (λ p. is_hot (place p))) else count_below n (λ p. is_hot (place p)))
    go true ih = ap suc ih
    go false ih = ih

record HotIn (place : ℕ → Place) (n f : ℕ) : Type 0 where
  pub page : ℕ
  pub below : page < n
  pub hot : is_hot (place page) ≡ true
  pub frame : frame_of (place page) ≡ f

has_hot : (place : ℕ → Place) (n f : ℕ) → Has f (hot_frames place n) → HotIn place n f
unfolding hot_frames
has_hot place zero f h = absurd h
has_hot place (suc n) f h = go (is_hot (place n)) refl (has_hot place n f) h
  where
    more : HotIn place n f → HotIn place (suc n) f
    more o = let l = o.below in record { page = o.page; below = omega arith; hot = o.hot; frame = o.frame }

    go : (b : Bool) → is_hot (place n) ≡ b → (Has f (hot_frames place n) → HotIn place n f) → Has f (if b then frame_of (place n) ∷ hot_frames place n else hot_frames place n) → HotIn place (suc n) f
    go true e ih (inl is) = record { page = n; below = omega arith; hot = e; frame = sym is }
    go true e ih (inr h) = more (ih h)
    go false e ih h = more (ih h)

hot_has : (place : ℕ → Place) (n p : ℕ) → p < n → is_hot (place p) ≡ true → Has (frame_of (place p)) (hot_frames place n)
unfolding hot_frames
hot_has place zero p lt h = absurd (omega arith)
hot_has place (suc n) p lt h = elim (cases_eq p n) [
  | inl e ↦ here (is_hot (place n)) (sym (ap (λ j. is_hot (place j)) e) ∙ h) (ap (λ j. frame_of (place j)) e)
  | inr ne ↦ there (is_hot (place n)) (hot_has place n p (omega arith) h)
]
  where
    here : (b : Bool) → b ≡ true → frame_of (place p) ≡ frame_of (place n) → Has (frame_of (place p)) (if b then frame_of (place n) ∷ hot_frames place n else hot_frames place n)
    here true e same = inl same
    here false e same = absurd (true≢false (sym e))

    there : (b : Bool) → Has (frame_of (place p)) (hot_frames place n) → Has (frame_of (place p)) (if b then frame_of (place n) ∷ hot_frames place n else hot_frames place n)
    there true i = inr i
    there false i = i

once_hot : (place : ℕ → Place) → ((p q : ℕ) → is_hot (place p) ≡ true → is_hot (place q) ≡ true → frame_of (place p) ≡ frame_of (place q) → p ≡ q) → (n : ℕ) → AreOnce (hot_frames place n)
unfolding hot_frames
once_hot place same zero = tt
once_hot place same (suc n) = go (is_hot (place n)) refl (once_hot place same n)
  where
    go : (b : Bool) → is_hot (place n) ≡ b → AreOnce (hot_frames place n) → AreOnce (if b then frame_of (place n) ∷ hot_frames place n else hot_frames place n)
    go true e ih = (λ h. let o = has_hot place n (frame_of (place n)) h in let l = o.below in let z = same o.page n o.hot e o.frame in omega arith, ih)
    go false e ih = ih

in_hot : (x : Place) → is_hot x ≡ true → in_frame x (frame_of x) ≡ true
in_hot (Place.Hot f) h = eq-eqb f f refl
in_hot (Place.Cooling f e w) h = absurd (true≢false (sym h))
in_hot Place.Cold h = absurd (true≢false (sym h))

hot_in : (x : Place) (f : ℕ) → is_hot x ≡ true → frame_of x ≡ f → in_frame x f ≡ true
hot_in x f h e = subst (λ j. in_frame x j ≡ true) e (in_hot x h)

hot_off : (x : Place) → is_hot x ≡ true → is_cooling x ≡ false
hot_off (Place.Hot f) h = refl
hot_off (Place.Cooling f e w) h = absurd (true≢false (sym h))
hot_off Place.Cold h = absurd (true≢false (sym h))

has_its : (x : Cooling) (q : List Cooling) → Has x q → Has x.frame (map its_frame q)
has_its x [] h = absurd h
has_its x (y ∷ ys) (inl e) = inl (ap its_frame e)
has_its x (y ∷ ys) (inr h) = inr (has_its x ys h)

-- ## All frames

module _ (g : Opening) (s : State) (k : Pool) (r : Residence g s) (a : Agrees g s k) where
  abbrev queued : List ℕ
  queued = map its_frame k.queue

  abbrev hot : List ℕ
  hot = hot_frames s.place g.format.pages

  in_queue : (f : ℕ) → Has f queued → (x : Cooling) × (Has x k.queue) × (in_frame (s.place x.page) f ≡ true)
  in_queue f h = let x = has_frame f k.queue h in (x.0, x.1, subst (λ j. in_frame (s.place x.0.page) j ≡ true) x.2 (a.entries x.0 x.1).frame)

  in_hots : (f : ℕ) → Has f hot → (p : ℕ) × (is_hot (s.place p) ≡ true) × (in_frame (s.place p) f ≡ true)
  in_hots f h = let o = has_hot s.place g.format.pages f h in (o.page, o.hot, hot_in (s.place o.page) f o.hot o.frame)

  not_empty : (p f : ℕ) → in_frame (s.place p) f ≡ true → Has f k.empty → ⊥
  not_empty p f here i = true≢false (sym here ∙ empty_to g s f p (a.empty f i).1 (r.within p f here).0)

  once_all : AreOnce (k.empty ++ (queued ++ hot))
  once_all = once_append k.empty (queued ++ hot) a.once
      (once_append queued hot (once_frames k.queue (tells g s k r a).once (one g s k r a))
      (once_hot s.place (λ p q hp hq e. r.one p q (frame_of (s.place q)) (hot_in (s.place p) (frame_of (s.place q)) hp e) (in_hot (s.place q) hq)) g.format.pages)
      (λ f i j. let x = in_queue f i in let y = in_hots f j in
      true≢false (sym (a.entries x.0 x.1).cooling ∙ (ap (λ p. is_cooling (s.place p)) (r.one x.0.page y.0 f x.2 y.2) ∙ hot_off (s.place y.0) y.1))))
      (λ f i j. elim (has_either f queued hot j) [
        | inl h ↦ (let x = in_queue f h in not_empty x.0.page f x.2 i)
        | inr h ↦ (let y = in_hots f h in not_empty y.0 f y.2 i)
      ])

  within_all : (f : ℕ) → Has f (k.empty ++ (queued ++ hot)) → f < g.frames
  within_all f h = elim (has_either f k.empty (queued ++ hot) h) [
    | inl i ↦ (a.empty f i).0
    | inr j ↦ elim (has_either f queued hot j) [
      | inl i ↦ (let x = in_queue f i in (r.within x.0.page f x.2).1)
      | inr i ↦ (let y = in_hots f i in (r.within y.0 f y.2).1)
    ]
  ]

  has_all : (f : ℕ) → f < g.frames → Has f (k.empty ++ (queued ++ hot))
  has_all f lt = words.cases (is_empty_frame g s f)
      (λ y. either_left f k.empty (queued ++ hot) (a.every f lt y))
      (λ n. let p = words.some_below g.format.pages (λ q. in_frame (s.place q) f) (ap not n) in
      either_right f k.empty (queued ++ hot) (elim (stands (s.place p.0) f p.2) [
        | inl h ↦ either_right f queued hot (subst (λ j. Has j hot) (frame_is (s.place p.0) f p.2) (hot_has s.place g.format.pages p.0 p.1 h))
        | inr c ↦ either_left f queued hot (subst (λ j. Has j queued) (frame_is (s.place p.0) f p.2)
            (has_its (its_entry g s k r a p.0 c) k.queue (found_has p.0 k.queue (its_entry g s k r a p.0 c) (is_there g s k r a p.0 c)).0))
      ]))

pub every_frame : EveryFrame
every_frame g s k r a =
    let l = k.empty ++ (map its_frame k.queue ++ hot_frames s.place g.format.pages) in
    let most = few g.frames l (once_all g s k r a) (within_all g s k r a) in
    let least = enough g.frames l (has_all g s k r a) in
    let long = length-append k.empty (map its_frame k.queue ++ hot_frames s.place g.format.pages) in
    let rest = length-append (map its_frame k.queue) (hot_frames s.place g.format.pages) in
    let entries = length_frames k.queue in
    let hots = length_hot s.place g.format.pages in
    omega arith
