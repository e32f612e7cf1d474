-- Where no frame can be given and nobody else steps: the hot pages stand in the frames of the path, and so they are no more than these.
use Rattle.std.proofs.Common.{◌≡◌, ◌≢◌, ◌<◌, ◌≤◌, ◌+◌, ◌==◌, ◌||◌, ◌⊎◌, inl, inr, ℕ, zero, suc, Bool, true, false, List, [], ◌∷◌, length, refl, sym, ap, subst, ◌∙◌, arith, true≢false}
use Rattle.std.specs.Prelude.{if◌then◌else◌}
use Rattle.std.proofs.lemmas.Bool.{cases_eq, cases_Bool, eq-eqb, eqb-true}
use Rattle.map_model.specs.Lists.{Has, any}
use Rattle.map_model.proofs.ListLemmas.{upd_other, upd_same}
use Rattle.btree_descent.specs.core_paging.Paging.{Residence}
use Rattle.btree_descent.specs.core_state.Events as happening
use Rattle.btree_descent.specs.core_state.Lists.{count_below}
use Rattle.btree_descent.specs.core_state.Needs as core
use Rattle.btree_descent.specs.core_state.Openings.{Opening}
use Rattle.btree_descent.specs.core_state.States.{Place, State, frame_of, in_frame, is_hot}
use Rattle.btree_descent.specs.core_state.Steps.{happens, step}
use Rattle.btree_descent.specs.row_words.declared.event.Event.{Event}
use Rattle.btree_descent.specs.row_words.declared.event.Event.TheVariants.{Cool, Tick}
use Rattle.btree_descent.specs.row_words.declared.given.Given.{Given}
use Rattle.btree_descent.specs.row_words.Moments.{Moment}
use Rattle.btree_descent.specs.row_words.Openings.{opening}
use Rattle.btree_descent.specs.row_words.Sealed.{run, stepped}
use Rattle.btree_descent.specs.rows_trait.declared.view.View.{View}
use Rattle.btree_descent.specs.rows_trait.Views.{Shape, state}
use Rattle.page_pool.specs.Counts.{hot_pages}
use Rattle.page_pool.specs.Full.{IsWay, NoCandidate}
use Rattle.page_pool.proofs.Taken.{on_way}
use Rattle.page_provider.specs.declared.refusal.Refusal.{Refusal}
use Rattle.page_provider.specs.declared.refusal.Refusal.TheVariants as refusal
use Rattle.page_provider.specs.Cools.{Chills}
use Rattle.page_provider.specs.Faults.{FullCause, IsDescent, IsFull}
use Rattle.page_provider.specs.Laws.{RowLaws}
use Rattle.page_provider.specs.Leaves.{IsCounted, NoneLeaves}
use Rattle.page_provider.specs.Moves.{AreTicked, is_on, others_in, way}
use Rattle.page_provider.specs.Providers.{Provider, Keeps, pool}
use Rattle.page_provider.proofs.Chilling.{way_at}
use Rattle.page_provider.proofs.Standing.{core_step, onward, ran_state, state_on}

-- ## As many as frames

-- the list but for one of its numbers
record Fewer (x : ℕ) (l : List ℕ) : Type 0 where
  pub rest : List ℕ
  pub long : length l ≡ suc (length rest)
  pub others : (y : ℕ) → y ≢ x → Has y l → Has y rest

fewer : (x : ℕ) (l : List ℕ) → Has x l → Fewer x l
fewer x [] h = absurd h
fewer x (y ∷ l) (inl e) = record { rest = l; long = refl; others = λ z ne h. elim h [ inl same ↦ absurd (ne (same ∙ sym e)) | inr k ↦ k ] }
fewer x (y ∷ l) (inr h) =
    let o = fewer x l h in record {
      rest = y ∷ o.rest;
      long = ap suc o.long;
      others = λ z ne k. elim k [ inl same ↦ inl same | inr j ↦ inr (o.others z ne j) ];
    }

count_few : (n : ℕ) (P : ℕ → Bool) (f : ℕ → ℕ) (l : List ℕ) → ((p : ℕ) → p < n → P p ≡ true → Has (f p) l) → ((p q : ℕ) → P p ≡ true → P q ≡ true → f p ≡ f q → p ≡ q) → count_below n P ≤ length l
count_few zero P f l has one = omega arith
count_few (suc n) P f l has one = go (P n) refl (λ m. count_few n P f m)
  where
    go : (b : Bool) → P n ≡ b → ((m : List ℕ) → ((p : ℕ) → p < n → P p ≡ true → Has (f p) m) → ((p q : ℕ) → P p ≡ true → P q ≡ true → f p ≡ f q → p ≡ q) → count_below n P ≤ length m) → (if b then suc (count_below n P) else count_below n P) ≤ length l
    go true is ih =
        let o = fewer (f n) l (has n (omega arith) is) in
        let few = ih o.rest (λ p lt h. o.others (f p) (λ e. let same = one p n h is e in omega arith) (has p (omega arith) h)) one in
        let long = o.long in
        omega arith
    go false is ih = ih l (λ p lt h. has p (omega arith) h) one

hot_in : (x : Place) → is_hot x ≡ true → in_frame x (frame_of x) ≡ true
hot_in (Place.Hot f) h = eq-eqb f f refl
hot_in (Place.Cooling f e w) h = absurd (true≢false (sym h))
hot_in Place.Cold h = absurd (true≢false (sym h))

-- ## The way

any_has : (f : ℕ) (path : List ℕ) → any (λ i. i == f) path ≡ true → Has f path
any_has f [] h = absurd (true≢false (sym h))
any_has f (i ∷ path) h = go (any_has f path) (i == f) refl h
  where
    go : (any (λ j. j == f) path ≡ true → Has f path) → (b : Bool) → (i == f) ≡ b → (b || any (λ j. j == f) path) ≡ true → Has f (i ∷ path)
    go rest true e k = inl (sym (eqb-true i f e))
    go rest false e k = inr (rest k)

or_either : (a b : Bool) → (a || b) ≡ true → (a ≡ true) ⊎ (b ≡ true)
or_either true b h = inl refl
or_either false b h = inr h

-- a page of the way that is hot is page 0, or stands in a frame of the path
on_path : (path : List ℕ) (p : ℕ) (x : Place) → is_on path p x ≡ true → is_hot x ≡ true → (p ≡ 0) ⊎ Has (frame_of x) path
on_path path p (Place.Hot f) h hot = elim (or_either (p == 0) (any (λ i. i == f) path) h) [ inl e ↦ inl (eqb-true p 0 e) | inr e ↦ inr (any_has f path e) ]
on_path path p (Place.Cooling f e w) h hot = absurd (true≢false (sym hot))
on_path path p Place.Cold h hot = absurd (true≢false (sym hot))

-- one that is not is page 0
off_path : (path : List ℕ) (p : ℕ) (x : Place) → is_on path p x ≡ true → is_hot x ≡ false → p ≡ 0
off_path path p (Place.Hot f) h cold = absurd (true≢false cold)
off_path path p (Place.Cooling f e w) h cold = eqb-true p 0 h
off_path path p Place.Cold h cold = eqb-true p 0 h

root_on : (path : List ℕ) (x : Place) → is_on path 0 x ≡ true
root_on path (Place.Hot f) = refl
root_on path (Place.Cooling f e w) = refl
root_on path Place.Cold = refl

-- ## Pages that cool alone

cool_hot : (g : Opening) (s : State) (c p : ℕ) → is_hot ((step g s (happening.Event.Cool c)).place p) ≡ true → (step g s (happening.Event.Cool c)).place p ≡ s.place p
cool_hot g s c p = go (core.may g s (happening.Event.Cool c))
  where
    cooled : Place
    cooled = Place.Cooling (frame_of (s.place c)) s.epoch (λ w. core.is_inside (s.inside w))

    go : (b : Bool) → is_hot ((if b then happens g s (happening.Event.Cool c) else s).place p) ≡ true → (if b then happens g s (happening.Event.Cool c) else s).place p ≡ s.place p
    go true h = elim (cases_eq p c) [
      | inl e ↦ absurd (true≢false (sym h ∙ ap is_hot (upd_same s.place c (Place.Cooling (frame_of (s.place c)) s.epoch (λ w. core.is_inside (s.inside w))) p e)))
      | inr ne ↦ upd_other s.place c (Place.Cooling (frame_of (s.place c)) s.epoch (λ w. core.is_inside (s.inside w))) p ne
    ]
    go false h = refl

-- a page that is hot behind such events stood there before them
hot_before : (g : Given) (m : Moment) (es : List Event) (p : ℕ) → AreTicked es → others_in es ≤ 0 → is_hot ((run g m es).core.place p) ≡ true → (run g m es).core.place p ≡ m.core.place p
hot_before g m [] p t few h = refl
hot_before g m (Cool c ∷ (Tick ∷ es)) p t few h =
    let one = stepped g m (Cool c) in
    let two = stepped g one Tick in
    let rest = hot_before g two es p t few h in
    let tick : two.core.place p ≡ one.core.place p = ap (λ s. s.place p) (core_step g one Tick) in
    let cool = core_step g m (Cool c) in
    let hot : is_hot ((step (opening g) m.core (happening.Event.Cool c)).place p) ≡ true = ap (λ s. is_hot (s.place p)) (sym cool) ∙ (ap is_hot (sym tick) ∙ (ap is_hot (sym rest) ∙ h)) in
    rest ∙ (tick ∙ (ap (λ s. s.place p) cool ∙ cool_hot (opening g) m.core c p hot))
hot_before g m (Cool c ∷ _) p t few h = absurd t
hot_before g m (Tick ∷ es) p t few h = absurd t
hot_before g m (_ ∷ es) p t few h = absurd (omega arith)

module _ {z : Shape} {path : List ℕ} {v u : View} {was is : Provider} (alone : z.alone ≡ true) (h : Chills z path v was u is) where
  place_before : (p : ℕ) → is_hot ((state u).core.place p) ≡ true → (state u).core.place p ≡ (state v).core.place p
  place_before p hot =
      let r = h.moved.goes.ran in
      let now : state u ≡ run v.given (state v) h.moved.events = ran_state r ∙ (ap (λ es. state (onward v es)) (r.all alone) ∙ state_on v h.moved.events) in
      let back = hot_before v.given (state v) h.moved.events p h.moved.ticked h.moved.few (ap (λ m. is_hot (m.core.place p)) (sym now) ∙ hot) in
      ap (λ m. m.core.place p) now ∙ back

  way_back : (p : ℕ) → way path (state u).core p ≡ true → way path (state v).core p ≡ true
  way_back p on = elim (cases_Bool (is_hot ((state u).core.place p))) [
    | inl hot ↦ ap (is_on path p) (sym (place_before p hot)) ∙ on
    | inr cold ↦ let e = off_path path p ((state u).core.place p) on cold in subst (λ q. way path (state v).core q ≡ true) (sym e) (root_on path ((state v).core.place 0))
  ]

  way_on : (p : ℕ) → way path (state v).core p ≡ true → way path (state u).core p ≡ true
  way_on p on = by ((state v).core.place p) refl
    where
      root : p ≡ 0 → way path (state u).core p ≡ true
      root e = subst (λ q. way path (state u).core q ≡ true) (sym e) (root_on path ((state u).core.place 0))

      by : (x : Place) → (state v).core.place p ≡ x → way path (state u).core p ≡ true
      by (Place.Hot f) e = elim (on_path path p (Place.Hot f) (ap (is_on path p) (sym e) ∙ on) refl) [
        | inl first ↦ root first
        | inr has ↦ way_at path (state u).core f p has (h.keeps f p has e)
      ]
      by (Place.Cooling f t w) e = root (off_path path p (Place.Cooling f t w) (ap (is_on path p) (sym e) ∙ on) refl)
      by Place.Cold e = root (off_path path p Place.Cold (ap (is_on path p) (sym e) ∙ on) refl)

  -- the frames of the descent are those of one still
  pub way_closed : IsDescent z v path → IsWay (opening u.given) (state u).core (way path (state u).core)
  way_closed d q p below names on =
      let given = h.moved.goes.ran.given in
      let lt : q < (opening v.given).format.pages = subst (λ (g : Given). q < (opening g).format.pages) given below in
      let page = h.rested.pages alone q in
      way_on q (d.closed alone q p lt (ap (λ c. Rattle.page_model.specs.Check.names_page c.node p) (sym page) ∙ names) (way_back p on))

-- ## No frame

module _ {z : Shape} {v : View} {k : Provider} (path : List ℕ) (laws : RowLaws) (c : Keeps z v k) (root : Has 0 path) (closed : IsWay (opening v.given) (state v).core (way path (state v).core)) (none : NoCandidate (opening v.given) (state v).core (way path (state v).core)) where
  residence : Residence (opening v.given) (state v).core
  residence = (c.sound v.seen).residence

  in_path : (p : ℕ) → p < (opening v.given).format.pages → is_hot ((state v).core.place p) ≡ true → Has (frame_of ((state v).core.place p)) path
  in_path p below hot = elim (on_path path p ((state v).core.place p) (on_way (opening v.given) (state v).core (way path (state v).core) (c.sound v.seen).tree closed none p below hot) hot) [
    | inl e ↦ subst (λ f. Has f path) (sym (ap (λ q. frame_of ((state v).core.place q)) e ∙ ap frame_of residence.root)) root
    | inr has ↦ has
  ]

  hot_few : hot_pages (opening v.given) (state v).core ≤ length path
  hot_few = count_few (opening v.given).format.pages (λ p. is_hot ((state v).core.place p)) (λ p. frame_of ((state v).core.place p)) path in_path
      (λ p q a b e. residence.one p q (frame_of ((state v).core.place q)) (subst (λ f. in_frame ((state v).core.place p) f ≡ true) e (hot_in ((state v).core.place p) a)) (hot_in ((state v).core.place q) b))

  pub crowded : k.empty ≡ [] → k.frames ≤ length k.queue + length path
  crowded bare =
      let a = laws.counts (opening v.given) (state v).core (pool k) residence c.agrees in
      let b = ap length bare in
      let d = c.sized.given in
      let few = hot_few in
      omega arith

  pub is_full : {on above held : ℕ} → k.empty ≡ [] → NoneLeaves k held v → on ≤ length path → above + held ≡ length k.queue → IsFull z path on above held v
  is_full {on} {above} {held} bare n few sum = record {
    taken = λ f below. laws.full (opening v.given) (state v).core (way path (state v).core) (c.sound v.seen).tree closed none n.none f (some f below);
    on_few = few;
    some_above = λ more. n.some_above (omega arith);
    some_held = n.some_held;
  }
    where
      some : (f : ℕ) → f < (opening v.given).frames → core.is_empty_frame (opening v.given) (state v).core f ≡ false
      some f below = elim (cases_Bool (core.is_empty_frame (opening v.given) (state v).core f)) [
        | inl e ↦ absurd (subst (λ l. Has f l) bare (c.agrees.every f below e))
        | inr e ↦ e
      ]

-- why no frame was given
pub full_cause : {z : Shape} {v : View} {k : Provider} (path : List ℕ) (held : ℕ) (why : Refusal) → RowLaws → Keeps z v k → k.empty ≡ [] → (z.alone ≡ true → Has 0 path) → (z.alone ≡ true → IsWay (opening v.given) (state v).core (way path (state v).core))
    → (z.alone ≡ true → NoCandidate (opening v.given) (state v).core (way path (state v).core)) → (z.alone ≡ true → NoneLeaves k held v) → IsCounted k path held why → FullCause z path v k why
full_cause {z = z} {v = v} {k = k} path held (refusal.PoolFull on latched above h) laws c bare root closed none leaves count = (
  (let a = count.0 in let b = count.1 in let d = count.2 in omega arith),
  λ alone. (
    count.4 (crowded path laws c (root alone) (closed alone) (none alone) bare),
    subst (λ n. IsFull z path on above n v) (sym count.2) (is_full path laws c (root alone) (closed alone) (none alone) bare (leaves alone) count.3 count.1),
  ),
)
full_cause path held _ laws c bare root closed none leaves count = tt
