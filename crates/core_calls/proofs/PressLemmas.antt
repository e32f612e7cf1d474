-- Where a page that is needed finds no frame.
use Rattle.std.proofs.Common.{◌≡◌, ◌⊎◌, ◌<◌, ◌≤◌, ℕ, suc, Bool, true, false, cond, not, ltb, ◌&&◌, ◌||◌, ◌==◌, ◌++◌, List, [], ◌∷◌, refl, sym, ap, ◌∙◌, subst, inl, inr, arith, true≢false}
use Rattle.std.proofs.lemmas.Bool.{and_parts, cases_eq, lt-ltb, ltb-true}
use Rattle.map_model.specs.Lists.{all, any, upd}
use Rattle.map_model.proofs.ListLemmas.{upd_other, upd_same}
use Rattle.core_crash.specs.image_model.Entries.{Contents}
use Rattle.page_model.specs.Pairs.{Pair}
use Rattle.page_model.specs.Nodes.{covers}
use Rattle.core_crash.specs.core_state.Openings.{Opening}
use Rattle.core_crash.specs.core_state.Events.{Event}
use Rattle.core_crash.specs.core_state.Lists.{all_below}
use Rattle.core_crash.specs.core_state.Needs.{has_hot_child, has_hot_parent, is_dirty, is_empty_frame, is_inside, may, may_have}
use Rattle.core_crash.specs.core_state.States.{Place, State, flushed_by_all, frame_of, in_frame, is_cold, is_cooling, is_hot, start, waits_for}
use Rattle.core_crash.specs.core_state.Steps.{AllMet, happens, run, state_after, step, with_pairs}
use Rattle.core_crash.proofs.core_state.Runs.{run_more}
use Rattle.core_crash.specs.core_paging.Paging.{EveryResidence, EverySaved, Residence}
use Rattle.core_crash.proofs.core_paging.Places.{below}
use Rattle.core_calls.specs.LogEvents.{AreTaken, IsTaken, IsTight}
use Rattle.core_calls.specs.Presses.{EveryPress, IsLoose, KeepsWay, is_load, is_move}

none_loose : (g : Opening) (s : State) (key frame : ℕ) → Residence g s → frame < g.frames → IsLoose g s key frame → AreTaken g s key → ⊥
none_loose g s key frame r lt (IsLoose.Empty e) t =
    let k = t frame lt in
    let w = r.within k.page frame k.here in
    true≢false (sym (below g.format.pages (λ p. not (in_frame (s.place p) frame)) e k.page w.0) ∙ ap not k.here)
none_loose g s key frame r lt (IsLoose.Ready page here out low) t = go k.stays
  where
    k : IsTaken g s key frame
    k = t frame lt

    same : k.page ≡ page
    same = r.one k.page page frame k.here here

    go : (covers (s.page k.page).node key ≡ true) ⊎ (flushed_by_all g s < (s.page k.page).gsn) → ⊥
    go (inl c) = true≢false (sym c ∙ (ap (λ p. covers (s.page p).node key) same ∙ out))
    go (inr high) = let q = ap (λ p. (s.page p).gsn) same in omega arith

-- a page that stays in its frame
hot_in : (x : Place) (f : ℕ) → is_hot x ≡ true → in_frame x f ≡ true → (e : ℕ) (v : ℕ → Bool) → in_frame (Place.Cooling (frame_of x) e v) f ≡ true
hot_in (Place.Hot h) f i q e v = q
hot_in (Place.Cooling h d u) f i q e v = absurd (true≢false (sym i))
hot_in Place.Cold f i q e v = absurd (true≢false (sym i))

cool_in : (x : Place) (f : ℕ) → is_cooling x ≡ true → in_frame x f ≡ true → in_frame (Place.Hot (frame_of x)) f ≡ true
cool_in (Place.Hot h) f i q = absurd (true≢false (sym i))
cool_in (Place.Cooling h d u) f i q = q
cool_in Place.Cold f i q = absurd (true≢false (sym i))

not_hot : (x : Place) → is_cold x ≡ true → is_hot x ≡ true → ⊥
not_hot (Place.Hot h) c i = true≢false (sym c)
not_hot (Place.Cooling h d u) c i = true≢false (sym c)
not_hot Place.Cold c i = true≢false (sym i)

not_cooling : (x : Place) → is_cold x ≡ true → is_cooling x ≡ true → ⊥
not_cooling (Place.Hot h) c i = true≢false (sym c)
not_cooling (Place.Cooling h d u) c i = true≢false (sym c)
not_cooling Place.Cold c i = true≢false (sym i)

-- where page p goes to another place, in the same frame if it had one
module _ (g : Opening) (s : State) (key p : ℕ) (place : Place) (t : IsTight g s key) where
  moved : (n : State) → n.place ≡ upd s.place p place → n.page ≡ s.page → flushed_by_all g n ≡ flushed_by_all g s → (t.page ≡ p → is_cold place ≡ true)
      → ((f : ℕ) → f < g.frames → (k : IsTaken g s key f) → k.page ≡ p → in_frame place f ≡ true) → IsTight g n key
  moved n places pages flushed cold_yet frame_yet = record {
    page = t.page;
    below = t.below;
    needed = subst (λ f. (covers (f t.page).node key ≡ true) ⊎ ((f t.page).node.live ≡ false)) (sym pages) t.needed;
    cold = ap (λ f. is_cold (f t.page)) places ∙ is_cold_then (cases_eq t.page p);
    taken = λ f lt. taken_then f lt (t.taken f lt);
  }
    where
      is_cold_then : (t.page ≡ p) ⊎ (t.page ≡ p → ⊥) → is_cold (upd s.place p place t.page) ≡ true
      is_cold_then (inl e) = ap is_cold (upd_same s.place p place t.page e) ∙ cold_yet e
      is_cold_then (inr ne) = ap is_cold (upd_other s.place p place t.page ne) ∙ t.cold

      here_then : (f : ℕ) → f < g.frames → (k : IsTaken g s key f) → (k.page ≡ p) ⊎ (k.page ≡ p → ⊥) → in_frame (upd s.place p place k.page) f ≡ true
      here_then f lt k (inl e) = ap (λ x. in_frame x f) (upd_same s.place p place k.page e) ∙ frame_yet f lt k e
      here_then f lt k (inr ne) = ap (λ x. in_frame x f) (upd_other s.place p place k.page ne) ∙ k.here

      stays_then : (f : ℕ) (k : IsTaken g s key f) → (covers (n.page k.page).node key ≡ true) ⊎ (flushed_by_all g n < (n.page k.page).gsn)
      stays_then f k = subst (λ h. (covers (h k.page).node key ≡ true) ⊎ (flushed_by_all g n < (h k.page).gsn)) (sym pages) (subst (λ h. (covers (s.page k.page).node key ≡ true) ⊎ (h < (s.page k.page).gsn)) (sym flushed) k.stays)

      taken_then : (f : ℕ) → f < g.frames → IsTaken g s key f → IsTaken g n key f
      taken_then f lt k = record { page = k.page; here = ap (λ h. in_frame (h k.page) f) places ∙ here_then f lt k (cases_eq k.page p); stays = stays_then f k }

-- a cold leaf is read: fences and numbers stay
fetched : (g : Opening) (s : State) (key p : ℕ) (pairs : List Pair) → Residence g s → is_cold (s.place p) ≡ true → IsTight g s key → IsTight g (happens g s (Event.Fetch p pairs)) key
fetched g s key p pairs r cold t = record {
  page = t.page;
  below = t.below;
  needed = same t.page (λ v. (covers v.node key ≡ true) ⊎ (v.node.live ≡ false)) t.needed t.needed;
  cold = t.cold;
  taken = λ f lt. let k = t.taken f lt in record { page = k.page; here = k.here; stays = same k.page (λ v. (covers v.node key ≡ true) ⊎ (flushed_by_all g s < v.gsn)) k.stays k.stays };
}
  where
    here : (q : ℕ) → q ≡ p → s.saved p ≡ s.page q
    here q e = sym (r.cold p cold) ∙ ap s.page (sym e)

    same : (q : ℕ) (P : Contents → Type 0) → P (s.page q) → P (with_pairs pairs (s.page q)) → P (upd s.page p (with_pairs pairs (s.saved p)) q)
    same q P a b = elim (cases_eq q p) [
      | inl e ↦ subst P (sym (upd_same s.page p (with_pairs pairs (s.saved p)) q e)) (subst (λ v. P (with_pairs pairs v)) (sym (here q e)) b)
      | inr n ↦ subst P (sym (upd_other s.page p (with_pairs pairs (s.saved p)) q n)) a
    ]

-- one event, whose need is met
one_move : (g : Opening) (s : State) (key : ℕ) (e : Event) → Residence g s → ((p : ℕ) → (s.saved p).gsn ≤ flushed_by_all g s) → is_move e ≡ true → may g s e ≡ true
    → ((p f : ℕ) → covers (s.page p).node key ≡ true → in_frame (s.place p) f ≡ true → in_frame ((happens g s e).place p) f ≡ true) → IsTight g s key → IsTight g (happens g s e) key × (is_load e ≡ false)
one_move g s key (Event.Load p f) r saved move met keeps t =
    let a = and_parts (ltb p g.format.pages) (ltb f g.frames && (is_cold (s.place p) && (has_hot_parent g s p && is_empty_frame g s f))) met in
    let b = and_parts (ltb f g.frames) (is_cold (s.place p) && (has_hot_parent g s p && is_empty_frame g s f)) a.1 in
    let c = and_parts (is_cold (s.place p)) (has_hot_parent g s p && is_empty_frame g s f) b.1 in
    let d = and_parts (has_hot_parent g s p) (is_empty_frame g s f) c.1 in
    absurd (none_loose g s key f r (ltb-true f g.frames b.0) (IsLoose.Empty d.1) t.taken)
one_move g s key (Event.Fetch p pairs) r saved move met keeps t = (fetched g s key p pairs r (and_parts (is_cold (s.place p)) (may_have g (s.saved p).node pairs) (and_parts (ltb p g.format.pages) (is_cold (s.place p) && may_have g (s.saved p).node pairs) met).1).0 t, refl)
one_move g s key (Event.Cool p) r saved move met keeps t =
    let hot = (and_parts (is_hot (s.place p)) true (and_parts (is_hot (s.place p) && true) (not (p == 0) && not (has_hot_child g s p)) met).0).0 in (
      moved g s key p (Place.Cooling (frame_of (s.place p)) s.epoch (λ w. is_inside (s.inside w))) t (happens g s (Event.Cool p)) refl refl refl (λ e. absurd (not_hot (s.place p) (ap (λ x. is_cold (s.place x)) (sym e) ∙ t.cold) hot))
          (λ f lt k e. hot_in (s.place p) f hot (ap (λ x. in_frame (s.place x) f) (sym e) ∙ k.here) s.epoch (λ w. is_inside (s.inside w))),
      refl,
    )
one_move g s key (Event.Rescue p) r saved move met keeps t =
    let cooling = (and_parts (is_cooling (s.place p)) (has_hot_parent g s p) met).0 in (
      moved g s key p (Place.Hot (frame_of (s.place p))) t (happens g s (Event.Rescue p)) refl refl refl (λ e. absurd (not_cooling (s.place p) (ap (λ x. is_cold (s.place x)) (sym e) ∙ t.cold) cooling))
          (λ f lt k e. cool_in (s.place p) f cooling (ap (λ x. in_frame (s.place x) f) (sym e) ∙ k.here)),
      refl,
    )
one_move g s key (Event.Save p) r saved move met keeps t = (record { page = t.page; below = t.below; needed = t.needed; cold = t.cold; taken = λ f lt. let k = t.taken f lt in record { page = k.page; here = k.here; stays = k.stays } }, refl)
one_move g s key (Event.Evict p) r saved move met keeps t = (moved g s key p Place.Cold t (happens g s (Event.Evict p)) refl refl refl (λ e. refl) (λ f lt k e. absurd (leaves f k e k.stays)), refl)
  where
    clean : is_dirty s p ≡ false
    clean = never (is_dirty s p) (and_parts (not (is_dirty s p)) (all_below (suc g.workers) (λ w. not (waits_for (s.place p) w))) (and_parts (is_cooling (s.place p)) (not (is_dirty s p) && all_below (suc g.workers) (λ w. not (waits_for (s.place p) w))) met).1).0
      where
        never : (b : Bool) → not b ≡ true → b ≡ false
        never true q = absurd (true≢false (sym q))
        never false q = refl

    leaves : (f : ℕ) (k : IsTaken g s key f) → k.page ≡ p → (covers (s.page k.page).node key ≡ true) ⊎ (flushed_by_all g s < (s.page k.page).gsn) → ⊥
    leaves f k e (inl c) = true≢false (sym (keeps k.page f c k.here) ∙ ap (λ x. in_frame x f) (upd_same s.place p Place.Cold k.page e))
    leaves f k e (inr high) = let a = saved p in let b = ap (λ x. (s.page x).gsn) e in true≢false (sym (lt-ltb (s.saved p).gsn (s.page p).gsn (omega arith)) ∙ clean)
one_move g s key Event.Tick r saved move met keeps t = (record { page = t.page; below = t.below; needed = t.needed; cold = t.cold; taken = λ f lt. let k = t.taken f lt in record { page = k.page; here = k.here; stays = k.stays } }, refl)
one_move g s key e r saved move met keeps t = absurd (true≢false (sym move))

stuck : (g : Opening) (key : ℕ) (moves : List Event) (s : State) → ((ms : List Event) → Residence g (run g s ms)) → ((ms : List Event) (p : ℕ) → ((run g s ms).saved p).gsn ≤ flushed_by_all g (run g s ms))
    → all is_move moves ≡ true → AllMet g s moves → KeepsWay g s key moves → IsTight g s key → IsTight g (run g s moves) key × (any is_load moves ≡ false)
stuck g key [] s r saved move met keeps t = (t, refl)
stuck g key (e ∷ es) s r saved move met keeps t =
    let m = and_parts (is_move e) (all is_move es) move in
    let step_is : step g s e ≡ happens g s e = ap (λ b. cond b (happens g s e) s) met.0 in
    let one = one_move g s key e (r []) (saved []) m.0 met.0 (λ p f c i. ap (λ (n : State). in_frame (n.place p) f) (sym step_is) ∙ keeps.0 p f c i) t in
    let rest = stuck g key es (step g s e) (λ ms. r (e ∷ ms)) (λ ms. saved (e ∷ ms)) m.1 met.1 keeps.1 (subst (λ n. IsTight g n key) (sym step_is) one.0) in
    (rest.0, no_or (is_load e) (any is_load es) one.1 rest.1)
  where
    no_or : (a b : Bool) → a ≡ false → b ≡ false → (a || b) ≡ false
    no_or true b p q = p
    no_or false b p q = q

pub every_press : EveryResidence → EverySaved → EveryPress
every_press residence saved g es key = record {
  loose = λ frame lt l t. none_loose g (state_after g es) key frame (residence g es) lt l t;
  stuck = λ moves. stuck g key moves (state_after g es) (λ ms. subst (Residence g) (run_more g (start g) es ms) (residence g (es ++ ms)))
      (λ ms p. subst (λ (n : State). (n.saved p).gsn ≤ flushed_by_all g n) (run_more g (start g) es ms) ((saved g (es ++ ms)).numbers p));
}
