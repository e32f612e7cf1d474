-- What the queue tells of pages, and what its calls are among the pager's events.
use Rattle.std.proofs.Common.{◌≡◌, ◌≢◌, ◌<◌, ◌≤◌, ◌==◌, ◌&&◌, not, ℕ, suc, Bool, true, false, List, [], ◌∷◌, ◌++◌, map, length, Option, None, Some, inl, inr, refl, sym, ap, subst, ◌∙◌, arith, true≢false}
use Rattle.std.specs.Prelude.{if◌then◌else◌}
use Rattle.std.proofs.lemmas.Bool.{and_parts, eq-eqb, eqb-true}
use Rattle.map_model.specs.Lists.{Has, upd}
use Rattle.lean_proto.specs.core_state.Lists.{all_below, times}
use Rattle.lean_proto.specs.core_state.Openings.{Opening}
use Rattle.lean_proto.specs.core_state.States.{Place, State, is_hot, is_cooling, in_frame, frame_of, epoch_of, waits_for}
use Rattle.lean_proto.specs.core_state.Needs.{has_hot_parent, has_hot_child, is_dirty}
use Rattle.lean_proto.specs.core_paging.Paging.{Residence, one_if}
use Rattle.cooling_stage.specs.declared.stage.Cooling.{Cooling}
use Rattle.cooling_stage.specs.Queue.{found, IsOnce}
use Rattle.page_pool.specs.Pools.{Pool, Agrees, AreOnce}
use Rattle.page_pool.specs.Queues.{entry_of, IsFound, Tells, EveryQueue, EveryChill, EveryRescue, EveryTake}
use Rattle.page_pool.proofs.Numbers.{few}

-- ## Lists

abbrev page_of : Cooling → ℕ
page_of = λ x. x.page

abbrev pub its_frame : Cooling → ℕ
its_frame = λ x. x.frame

times_found : (p : ℕ) (q : List Cooling) → times p (map page_of q) ≡ 0 → found p q ≡ None
times_found p [] h = refl
times_found p (x ∷ xs) h = go (x.page == p) (times_found p xs) h
  where
    go : (b : Bool) → (times p (map page_of xs) ≡ 0 → found p xs ≡ None) → (if b then suc (times p (map page_of xs)) else times p (map page_of xs)) ≡ 0 → (if b then Some x else found p xs) ≡ None
    go true ih h = absurd (omega arith)
    go false ih h = ih h

found_times : (p : ℕ) (q : List Cooling) → found p q ≡ None → times p (map page_of q) ≡ 0
found_times p [] h = refl
found_times p (x ∷ xs) h = go (x.page == p) (found_times p xs) h
  where
    go : (b : Bool) → (found p xs ≡ None → times p (map page_of xs) ≡ 0) → (if b then Some x else found p xs) ≡ None → (if b then suc (times p (map page_of xs)) else times p (map page_of xs)) ≡ 0
    go true ih h = absurd (let no : ⊥ = cc in no)
    go false ih h = ih h

pub found_has : (p : ℕ) (q : List Cooling) (x : Cooling) → found p q ≡ Some x → (Has x q) × (x.page ≡ p)
found_has p [] x h = absurd (let no : ⊥ = cc in no)
found_has p (y ∷ ys) x h = go (y.page == p) refl (found_has p ys x) h
  where
    go : (b : Bool) → (y.page == p) ≡ b → (found p ys ≡ Some x → (Has x ys) × (x.page ≡ p)) → (if b then Some y else found p ys) ≡ Some x → (Has x (y ∷ ys)) × (x.page ≡ p)
    go true e ih h = let same : y ≡ x = cc in (inl (sym same), sym (ap page_of same) ∙ eqb-true y.page p e)
    go false e ih h = let k = ih h in (inr k.0, k.1)

-- a page that is not found is that of no entry
not_found : (p : ℕ) (q : List Cooling) → found p q ≡ None → (x : Cooling) → Has x q → x.page ≢ p
not_found p [] h x i = absurd i
not_found p (y ∷ ys) h x i = go (y.page == p) refl (not_found p ys) h i
  where
    go : (b : Bool) → (y.page == p) ≡ b → (found p ys ≡ None → (x : Cooling) → Has x ys → x.page ≢ p) → (if b then Some y else found p ys) ≡ None → Has x (y ∷ ys) → x.page ≢ p
    go true e ih h i = absurd (let no : ⊥ = cc in no)
    go false e ih h (inl is) = λ z. true≢false (sym (eq-eqb y.page p (ap page_of (sym is) ∙ z)) ∙ e)
    go false e ih h (inr i) = ih h x i

once_from : (q : List Cooling) → ((p : ℕ) → times p (map page_of q) ≤ 1) → IsOnce q
once_from [] h = tt
once_from (x ∷ xs) h = (times_found x.page xs (here (x.page == x.page) (eq-eqb x.page x.page refl) (h x.page)), once_from xs (λ p. fewer p (x.page == p) (h p)))
  where
    here : (b : Bool) → b ≡ true → (if b then suc (times x.page (map page_of xs)) else times x.page (map page_of xs)) ≤ 1 → times x.page (map page_of xs) ≡ 0
    here true e l = omega arith
    here false e l = absurd (true≢false (sym e))

    fewer : (p : ℕ) (b : Bool) → (if b then suc (times p (map page_of xs)) else times p (map page_of xs)) ≤ 1 → times p (map page_of xs) ≤ 1
    fewer p true l = omega arith
    fewer p false l = l

pub has_frame : (f : ℕ) (q : List Cooling) → Has f (map its_frame q) → (x : Cooling) × (Has x q) × (x.frame ≡ f)
has_frame f [] h = absurd h
has_frame f (y ∷ ys) (inl e) = (y, inl refl, sym e)
has_frame f (y ∷ ys) (inr h) = let k = has_frame f ys h in (k.0, inr k.1, k.2)

-- pages in frames of their own
pub once_frames : (q : List Cooling) → IsOnce q → ((x y : Cooling) → Has x q → Has y q → x.frame ≡ y.frame → x.page ≡ y.page) → AreOnce (map its_frame q)
once_frames [] once one = tt
once_frames (x ∷ xs) once one = (
  λ h. let y = has_frame x.frame xs h in not_found x.page xs once.0 y.0 y.1 (one y.0 x (inr y.1) (inl refl) y.2),
  once_frames xs once.1 (λ a b i j. one a b (inr i) (inr j)),
)

pub length_frames : (q : List Cooling) → length (map its_frame q) ≡ length q
length_frames [] = refl
length_frames (x ∷ xs) = ap suc (length_frames xs)

-- ## Places

hot_entry : (p : ℕ) (x : Place) → is_hot x ≡ true → entry_of p x ≡ None
hot_entry p (Place.Hot f) h = refl
hot_entry p (Place.Cooling f e w) h = absurd (true≢false (sym h))
hot_entry p Place.Cold h = refl

pub frame_is : (x : Place) (f : ℕ) → in_frame x f ≡ true → frame_of x ≡ f
frame_is (Place.Hot i) f h = eqb-true i f h
frame_is (Place.Cooling i e w) f h = eqb-true i f h
frame_is Place.Cold f h = absurd (true≢false (sym h))

-- what an entry says of its page's place
pub record Says (p : ℕ) (place : Place) (x : Cooling) : Type 0 where
  pub page : x.page ≡ p
  pub cooling : is_cooling place ≡ true
  pub frame : frame_of place ≡ x.frame
  pub here : in_frame place x.frame ≡ true
  pub epoch : epoch_of place ≡ x.epoch

says : (p : ℕ) (place : Place) (x : Cooling) → entry_of p place ≡ Some x → Says p place x
says p (Place.Hot f) x h = absurd (let no : ⊥ = cc in no)
says p (Place.Cooling f e w) x h =
    let same : record { page = p; frame = f; epoch = e } ≡ x = cc in record {
      page = sym (ap page_of same);
      cooling = refl;
      frame = ap its_frame same;
      here = eq-eqb f x.frame (ap its_frame same);
      epoch = ap (λ (c : Cooling). c.epoch) same;
    }
says p Place.Cold x h = absurd (let no : ⊥ = cc in no)

has_entry : (p : ℕ) (place : Place) → is_cooling place ≡ true → entry_of p place ≡ Some (record { page = p; frame = frame_of place; epoch = epoch_of place })
has_entry p (Place.Hot f) h = absurd (true≢false (sym h))
has_entry p (Place.Cooling f e w) h = refl
has_entry p Place.Cold h = absurd (true≢false (sym h))

-- ## What it tells

module _ (g : Opening) (s : State) (k : Pool) (r : Residence g s) (a : Agrees g s k) where
  often : (p : ℕ) → times p (map page_of k.queue) ≡ one_if (is_cooling (s.place p))
  often p = ap (times p) a.queue ∙ r.queue p

  at_most : (b : Bool) → one_if b ≤ 1
  at_most true = omega arith
  at_most false = omega arith

  once : IsOnce k.queue
  once = once_from k.queue (λ p. let o = often p in let m = at_most (is_cooling (s.place p)) in omega arith)

  -- two entries in one frame are of one page
  pub one : (x y : Cooling) → Has x k.queue → Has y k.queue → x.frame ≡ y.frame → x.page ≡ y.page
  one x y i j e = r.one x.page y.page y.frame (subst (λ f. in_frame (s.place x.page) f ≡ true) e (a.entries x i).frame) (a.entries y j).frame

  -- none is in frame 0, which page 0 has
  not_root : (x : Cooling) → Has x k.queue → x.frame ≢ 0
  not_root x i e =
      let home : in_frame (s.place 0) 0 ≡ true = ap (λ y. in_frame y 0) r.root in
      let zero_page = r.one x.page 0 0 (subst (λ f. in_frame (s.place x.page) f ≡ true) e (a.entries x i).frame) home in
      true≢false (sym (a.entries x i).cooling ∙ (ap (λ j. is_cooling (s.place j)) zero_page ∙ ap is_cooling r.root))

  fewer : length k.queue < g.frames
  fewer =
      let long = length_frames k.queue in
      let all = few g.frames (0 ∷ map its_frame k.queue)
      ((λ h. let x = has_frame 0 k.queue h in not_root x.0 x.1 x.2), once_frames k.queue once one)
      (λ f h. under f h) in
      omega arith
    where
      under : (f : ℕ) → Has f (0 ∷ map its_frame k.queue) → f < g.frames
      under f (inl e) = subst (λ j. j < g.frames) (sym e) (r.within 0 0 (ap (λ y. in_frame y 0) r.root)).1
      under f (inr h) = let x = has_frame f k.queue h in subst (λ j. j < g.frames) x.2 (r.within x.0.page x.0.frame (a.entries x.0 x.1).frame).1

  told : (p : ℕ) → found p k.queue ≡ entry_of p (s.place p)
  told p = by (s.place p) refl (found p k.queue) refl
    where
      none : (x : Place) → s.place p ≡ x → is_cooling x ≡ false → found p k.queue ≡ None
      none x e off = times_found p k.queue (often p ∙ (ap (λ y. one_if (is_cooling y)) e ∙ ap one_if off))

      by : (x : Place) → s.place p ≡ x → (o : Option Cooling) → found p k.queue ≡ o → found p k.queue ≡ entry_of p x
      by (Place.Hot f) e o is = none (Place.Hot f) e refl
      by Place.Cold e o is = none Place.Cold e refl
      by (Place.Cooling f since w) e None is =
          let zero_times = found_times p k.queue is in
          let one_time = often p ∙ ap (λ y. one_if (is_cooling y)) e in
          absurd (let no : ⊥ = omega arith in no)
      by (Place.Cooling f since w) e (Some x) is =
          let h = found_has p k.queue x is in
          let i = a.entries x h.0 in
          let place = ap s.place h.1 ∙ e in
          let frame : f ≡ x.frame = eqb-true f x.frame (sym (ap (λ y. in_frame y x.frame) place) ∙ i.frame) in
          let epoch : since ≡ x.epoch = sym (ap epoch_of place) ∙ i.epoch in
          is ∙ (λ j. Some (record { page = h.1 j; frame = sym frame j; epoch = sym epoch j }))

  cooling : (p : ℕ) (x : Cooling) → found p k.queue ≡ Some x → IsFound g s p x
  cooling p x h =
      let y = says p (s.place p) x (sym (told p) ∙ h) in
      let z = r.within p x.frame y.here in
      let ne = not_root x (found_has p k.queue x h).0 in record {
        page = y.page;
        cooling = y.cooling;
        frame = y.frame;
        here = y.here;
        epoch = y.epoch;
        below = z.0;
        within = z.1;
        some = omega arith;
      }

  pub tells : Tells g s k
  tells = record { once = once; fewer = fewer; told = told; cooling = cooling; hot = λ p h. told p ∙ hot_entry p (s.place p) h }

  -- a page that cools
  module _ (p : ℕ) (cool : is_cooling (s.place p) ≡ true) where
    abbrev pub its_entry : Cooling
    its_entry = record { page = p; frame = frame_of (s.place p); epoch = epoch_of (s.place p) }

    pub is_there : found p k.queue ≡ Some its_entry
    is_there = told p ∙ has_entry p (s.place p) cool

    pub is_found : IsFound g s p its_entry
    is_found = cooling p its_entry is_there

pub every_queue : EveryQueue
every_queue g s k r a = tells g s k r a

-- ## What its calls are

pub every_chill : EveryChill
every_chill g s p f k m r a here =
    let t = tells g s k r a in record {
      absent = t.hot p hot;
      room = t.fewer;
      pool = ap (λ j. record { queue = k.queue ++ record { page = p; frame = j; epoch = s.epoch } ∷ []; empty = k.empty; free = upd k.free p (not (s.page p).node.live) }) (frame_is (s.place p) f here);
    }
  where
    hot : is_hot (s.place p) ≡ true
    hot = (and_parts (is_hot (s.place p)) true (and_parts (is_hot (s.place p) && true) (not (p == 0) && not (has_hot_child g s p)) m).0).0

pub every_rescue : EveryRescue
every_rescue g s p k m r a = record {
  entry = its_entry g s k r a p cool;
  there = is_there g s k r a p cool;
  told = is_found g s k r a p cool;
  hot = ap (λ b. if b then Place.Hot (frame_of (s.place p)) else s.place p) (eq-eqb p p refl);
  pool = refl;
}
  where
    cool : is_cooling (s.place p) ≡ true
    cool = (and_parts (is_cooling (s.place p)) (has_hot_parent g s p) m).0

pub every_take : EveryTake
every_take g s p k m r a = record { entry = its_entry g s k r a p cool; there = is_there g s k r a p cool; told = is_found g s k r a p cool; pool = refl }
  where
    cool : is_cooling (s.place p) ≡ true
    cool = (and_parts (is_cooling (s.place p)) (not (is_dirty s p) && all_below (suc g.workers) (λ w. not (waits_for (s.place p) w))) m).0
