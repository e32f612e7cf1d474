-- A frame that a worker could have seen keeps its page until the worker leaves.
use Rattle.map_model.specs.Lists.{upd, any}
use Rattle.map_model.specs.Maps.{MapAnswer}
use Rattle.core_commit.specs.image_model.Entries.{Entry}
use Rattle.core_commit.specs.core_state.Lists.{all_below}
use Rattle.core_commit.specs.core_state.States.{Place, State, is_hot, is_cooling, is_cold, in_frame, frame_of, epoch_of, waits_for, left_by}
use Rattle.core_commit.specs.core_state.Openings.{Opening}
use Rattle.core_commit.specs.core_state.States.Place.{Hot, Cooling, Cold}
use Rattle.core_commit.specs.core_state.Events.{Event}
use Rattle.core_commit.specs.core_state.Needs.{are_hot, pages_of, is_worker, is_inside, has_hot_parent, is_empty_frame, is_dirty, needs}
use Rattle.core_commit.specs.core_state.Steps.{put_back, follows, happens, step, run}
use Rattle.map_model.proofs.ListLemmas.{upd_same, upd_other}
use Rattle.core_commit.proofs.Copies.{at_place as at_upd}
use Rattle.core_commit.proofs.Controls.{worker_to}
use Rattle.core_commit.proofs.Runs.{step_keeps}
use Rattle.core_paging.specs.Paging.{leaves, Stays}
use Rattle.core_paging.proofs.Places.{below, framed, hot_not_cooling, framed_not_cold, left_hot, left_frame, left_waits, left_no_more, or_off}
use Rattle.std.proofs.Common.{◌≡◌, ◌<◌, ◌≤◌, ℕ, suc, true, false, ◌&&◌, not, leb, ltb, List, [], ◌∷◌, ◌⊎◌, Option, Some, None, refl, sym, ap, ◌∙◌, subst, inl, inr, arith, true≢false}
use Rattle.std.proofs.lemmas.Bool.{cases_eq, eq-eqb, eqb-false, and_parts, leb-true, not-true}

-- ## A worker that stays is inside

pub record Inside (g : Opening) (w : ℕ) (s : State) : Type 0 where
  pub inside : is_inside (s.inside w) ≡ true
  pub known : w ≤ g.workers

inside_event : (g : Opening) (s : State) (w : ℕ) → Inside g w s → (e : Event) → leaves w e ≡ false → Inside g w (happens g s e)
inside_event g s w k (Event.Enter v e) l = record { inside = at_upd (λ _ o. is_inside o ≡ true) s.inside v (Some e) w (λ _. refl) (λ _. k.inside); known = k.known }
inside_event g s w k (Event.Leave v) l = record { inside = ap is_inside (upd_other s.inside v None w (λ z. eqb-false v w l (sym z))) ∙ k.inside; known = k.known }
inside_event g s w k (Event.Next v q j a) l = go a
  where
    go : (a : MapAnswer) → Inside g w (follows g s v q a)
    go (MapAnswer.Pair at word) = record { inside = k.inside; known = k.known }
    go (MapAnswer.Gap b) = record { inside = k.inside; known = k.known }
    go (MapAnswer.Value b) = record { inside = k.inside; known = k.known }
    go (MapAnswer.Was b) = record { inside = k.inside; known = k.known }
inside_event g s w k (Event.Put_back v q) l = go (s.worker v).changes
  where
    go : (cs : List Entry) → Inside g w (put_back g s v q cs)
    go [] = record { inside = k.inside; known = k.known }
    go (c ∷ cs) = record { inside = k.inside; known = k.known }
inside_event g s w k _ l = record { inside = k.inside; known = k.known }

pub inside_run : (g : Opening) (s : State) (w : ℕ) → Inside g w s → (es : List Event) → Stays w es → Inside g w (run g s es)
inside_run g s w k [] st = k
inside_run g s w k (e ∷ es) st =
    let q = or_off (leaves w e) (any (leaves w) es) st in
    inside_run g (step g s e) w (step_keeps (Inside g w) g s e k (λ m. inside_event g s w k e q.0)) es q.1

-- ## And so its frames keep their pages

-- frame f has page p, which cannot be evicted before w leaves
pub record Kept (g : Opening) (w f p : ℕ) (s : State) : Type 0 where
  pub worker : Inside g w s
  pub here : in_frame (s.place p) f ≡ true
  pub held : (is_hot (s.place p) ≡ true) ⊎ (waits_for (s.place p) w ≡ true)

kept_at : (g : Opening) (w f p : ℕ) (s t : State) → Kept g w f p s → Inside g w t → t.place p ≡ s.place p → Kept g w f p t
kept_at g w f p s t k i e = record {
  worker = i;
  here = ap (λ (x : Place). in_frame x f) e ∙ k.here;
  held = elim k.held [ inl h ↦ inl (ap is_hot e ∙ h) | inr h ↦ inr (ap (λ (x : Place). waits_for x w) e ∙ h) ];
}

kept_as : (g : Opening) (w f p : ℕ) (t : State) (x : Place) → Inside g w t → t.place p ≡ x → in_frame x f ≡ true → (is_hot x ≡ true) ⊎ (waits_for x w ≡ true) → Kept g w f p t
kept_as g w f p t x i e a b = record {
  worker = i;
  here = ap (λ (x : Place). in_frame x f) e ∙ a;
  held = elim b [ inl h ↦ inl (ap is_hot e ∙ h) | inr h ↦ inr (ap (λ (x : Place). waits_for x w) e ∙ h) ];
}

kept_event : (g : Opening) (s : State) (w f p : ℕ) → Kept g w f p s → (e : Event) → needs g s e ≡ true → leaves w e ≡ false → Kept g w f p (happens g s e)
kept_event g s w f p k (Event.Leave v) m l = record {
  worker = inside_event g s w k.worker (Event.Leave v) l;
  here = left_frame v (s.place p) f ∙ k.here;
  held = elim k.held [ inl h ↦ inl (left_hot v (s.place p) ∙ h) | inr h ↦ inr (left_waits v w (s.place p) (λ z. eqb-false v w l (sym z)) ∙ h) ];
}
kept_event g s w f p k (Event.Load q i) m l =
    let a = and_parts (ltb q g.format.pages) (ltb i g.frames && (is_cold (s.place q) && (has_hot_parent g s q && is_empty_frame g s i))) m in
    let b = and_parts (ltb i g.frames) (is_cold (s.place q) && (has_hot_parent g s q && is_empty_frame g s i)) a.1 in
    let c = and_parts (is_cold (s.place q)) (has_hot_parent g s q && is_empty_frame g s i) b.1 in
    let ne : p ≡ q → ⊥ = λ z. true≢false (sym c.0 ∙ (ap (λ (j : ℕ). is_cold (s.place j)) (sym z) ∙ framed_not_cold (s.place p) f k.here)) in
    kept_at g w f p s (happens g s (Event.Load q i)) k (inside_event g s w k.worker (Event.Load q i) l) (upd_other s.place q (Hot i) p ne)
kept_event g s w f p k (Event.Cool q) m l = elim (cases_eq p q) [
  | inl e ↦ kept_as g w f p (happens g s (Event.Cool q)) x (inside_event g s w k.worker (Event.Cool q) l) (upd_same s.place q x p e) (eq-eqb (frame_of (s.place q)) f (ap (λ (j : ℕ). frame_of (s.place j)) (sym e) ∙ framed (s.place p) f k.here)) (inr k.worker.inside)
  | inr n ↦ kept_at g w f p s (happens g s (Event.Cool q)) k (inside_event g s w k.worker (Event.Cool q) l) (upd_other s.place q x p n)
]
  where
    x : Place
    x = Cooling (frame_of (s.place q)) s.epoch (λ v. is_inside (s.inside v))
kept_event g s w f p k (Event.Rescue q) m l = elim (cases_eq p q) [
  | inl e ↦ kept_as g w f p (happens g s (Event.Rescue q)) (Hot (frame_of (s.place q))) (inside_event g s w k.worker (Event.Rescue q) l) (upd_same s.place q (Hot (frame_of (s.place q))) p e) (eq-eqb (frame_of (s.place q)) f (ap (λ (j : ℕ). frame_of (s.place j)) (sym e) ∙ framed (s.place p) f k.here)) (inl refl)
  | inr n ↦ kept_at g w f p s (happens g s (Event.Rescue q)) k (inside_event g s w k.worker (Event.Rescue q) l) (upd_other s.place q (Hot (frame_of (s.place q))) p n)
]
kept_event g s w f p k (Event.Evict q) m l =
    let a = and_parts (is_cooling (s.place q)) (not (is_dirty s q) && all_below (suc g.workers) (λ v. not (waits_for (s.place q) v))) m in
    let b = and_parts (not (is_dirty s q)) (all_below (suc g.workers) (λ v. not (waits_for (s.place q) v))) a.1 in
    let top = k.worker.known in
    let free = not-true (waits_for (s.place q) w) (below (suc g.workers) (λ v. not (waits_for (s.place q) v)) b.1 w (omega arith)) in
    let ne : p ≡ q → ⊥ = λ z. elim k.held [
      | inl h ↦ true≢false (sym a.0 ∙ hot_not_cooling (s.place q) (ap (λ (j : ℕ). is_hot (s.place j)) (sym z) ∙ h))
      | inr h ↦ true≢false (sym h ∙ (ap (λ (j : ℕ). waits_for (s.place j) w) z ∙ free))
    ] in
    kept_at g w f p s (happens g s (Event.Evict q)) k (inside_event g s w k.worker (Event.Evict q) l) (upd_other s.place q Cold p ne)
kept_event g s w f p k (Event.Next v q j a) m l = go a
  where
    go : (a : MapAnswer) → Kept g w f p (follows g s v q a)
    go (MapAnswer.Pair at word) = record { worker = record { inside = k.worker.inside; known = k.worker.known }; here = k.here; held = k.held }
    go (MapAnswer.Gap b) = record { worker = record { inside = k.worker.inside; known = k.worker.known }; here = k.here; held = k.held }
    go (MapAnswer.Value b) = record { worker = record { inside = k.worker.inside; known = k.worker.known }; here = k.here; held = k.held }
    go (MapAnswer.Was b) = record { worker = record { inside = k.worker.inside; known = k.worker.known }; here = k.here; held = k.held }
kept_event g s w f p k (Event.Put_back v q) m l = go (s.worker v).changes
  where
    go : (cs : List Entry) → Kept g w f p (put_back g s v q cs)
    go [] = record { worker = record { inside = k.worker.inside; known = k.worker.known }; here = k.here; held = k.held }
    go (c ∷ cs) = record { worker = record { inside = k.worker.inside; known = k.worker.known }; here = k.here; held = k.held }
kept_event g s w f p k e m l = record { worker = inside_event g s w k.worker e l; here = k.here; held = k.held }

pub kept_run : (g : Opening) (s : State) (w f p : ℕ) → Kept g w f p s → (es : List Event) → Stays w es → Kept g w f p (run g s es)
kept_run g s w f p k [] st = k
kept_run g s w f p k (e ∷ es) st =
    let q = or_off (leaves w e) (any (leaves w) es) st in
    kept_run g (step g s e) w f p (step_keeps (Kept g w f p) g s e k (λ m. kept_event g s w f p k e (and_parts (are_hot s (pages_of e)) (needs g s e) m).1 q.0)) es q.1

-- ## Whom a cooling page waits for, by numbers

pub record Waits (s : State) : Type 0 where
  pub local : (w x : ℕ) → s.inside w ≡ Some x → x ≤ s.epoch
  pub some : (w x : ℕ) → s.inside w ≡ Some x → 0 < w
  pub waits : (p w : ℕ) → waits_for (s.place p) w ≡ true → (x : ℕ) × (s.inside w ≡ Some x) × (x ≤ epoch_of (s.place p))

some_same : (a b : ℕ) → Some a ≡ Some b → a ≡ b
some_same a b e = ap (λ (o : Option ℕ). or_zero o) e
  where
    or_zero : Option ℕ → ℕ
    or_zero None = 0
    or_zero (Some n) = n

none_some : {A : Type 0} (h : Option ℕ) (x : ℕ) → h ≡ None → h ≡ Some x → A
none_some h x a b = absurd (true≢false (sym (ap is_inside (sym a ∙ b))))

inside_some : (o : Option ℕ) → is_inside o ≡ true → (x : ℕ) × (o ≡ Some x)
inside_some None h = absurd (true≢false (sym h))
inside_some (Some x) h = (x, refl)

left_epoch : (w : ℕ) (x : Place) → epoch_of (left_by w x) ≡ epoch_of x
left_epoch w (Hot f) = refl
left_epoch w (Cooling f e v) = refl
left_epoch w Cold = refl

-- a page that waits for nobody, at p
waits_none : (s t : State) (p : ℕ) (x : Place) → Waits s → ((w : ℕ) → waits_for x w ≡ false) → t.place ≡ upd s.place p x → t.inside ≡ s.inside → t.epoch ≡ s.epoch → Waits t
waits_none s t p x k n ep el ee = record {
  local = λ w y e. subst (λ i. y ≤ i) (sym ee) (k.local w y (ap (λ (l : ℕ → Option ℕ). l w) (sym el) ∙ e));
  some = λ w y e. k.some w y (ap (λ (l : ℕ → Option ℕ). l w) (sym el) ∙ e);
  waits = λ j w h. subst (λ (l : ℕ → Place). waits_for (l j) w ≡ true → (y : ℕ) × (t.inside w ≡ Some y) × (y ≤ epoch_of (l j))) (sym ep)
      (at_upd (λ j z. waits_for z w ≡ true → (y : ℕ) × (t.inside w ≡ Some y) × (y ≤ epoch_of z)) s.place p x j (λ _ b. absurd (true≢false (sym b ∙ n w)))
      (λ _ b. let q = k.waits j w b in (q.0, ap (λ (l : ℕ → Option ℕ). l w) el ∙ q.1, q.2))) h;
}

pub waits_event : (g : Opening) (s : State) → Waits s → (e : Event) → needs g s e ≡ true → Waits (happens g s e)
waits_event g s k (Event.Enter w e) m = record {
  local = λ v x. at_upd (λ j o. o ≡ Some x → x ≤ s.epoch) s.inside w (Some e) v (λ _ q. subst (λ i. i ≤ s.epoch) (some_same e x q) old) (λ _ q. k.local v x q);
  some = λ v x. at_upd (λ j o. o ≡ Some x → 0 < j) s.inside w (Some e) v (λ z q. subst (λ i. 0 < i) (sym z) (worker_to g w a.0).0) (λ _ q. k.some v x q);
  waits = λ p v h. let q = k.waits p v h in (q.0, upd_other s.inside w (Some e) v (λ z. true≢false (sym (ap is_inside (ap s.inside (sym z) ∙ q.1)) ∙ out)) ∙ q.1, q.2);
}
  where
    a : (is_worker g w ≡ true) × ((not (is_inside (s.inside w)) && leb e s.epoch) ≡ true)
    a = and_parts (is_worker g w) (not (is_inside (s.inside w)) && leb e s.epoch) m

    b : (not (is_inside (s.inside w)) ≡ true) × (leb e s.epoch ≡ true)
    b = and_parts (not (is_inside (s.inside w))) (leb e s.epoch) a.1

    out : is_inside (s.inside w) ≡ false
    out = not-true (is_inside (s.inside w)) b.0

    old : e ≤ s.epoch
    old = leb-true e s.epoch b.1
waits_event g s k (Event.Leave w) m = record {
  local = λ v x. at_upd (λ j o. o ≡ Some x → x ≤ s.epoch) s.inside w None v (λ _ q. none_some None x refl q) (λ _ q. k.local v x q);
  some = λ v x. at_upd (λ j o. o ≡ Some x → 0 < j) s.inside w None v (λ _ q. none_some None x refl q) (λ _ q. k.some v x q);
  waits = λ p v h. elim (cases_eq v w) [
    | inl e ↦ absurd (true≢false (sym h ∙ (ap (λ (i : ℕ). waits_for (left_by w (s.place p)) i) e ∙ left_no_more w (s.place p))))
    | inr n ↦ (let q = k.waits p v (sym (left_waits w v (s.place p) n) ∙ h) in (q.0, upd_other s.inside w None v n ∙ q.1, subst (λ i. q.0 ≤ i) (sym (left_epoch w (s.place p))) q.2))
  ];
}
waits_event g s k (Event.Load p f) m = waits_none s (happens g s (Event.Load p f)) p (Hot f) k (λ _. refl) refl refl refl
waits_event g s k (Event.Rescue p) m = waits_none s (happens g s (Event.Rescue p)) p (Hot (frame_of (s.place p))) k (λ _. refl) refl refl refl
waits_event g s k (Event.Evict p) m = waits_none s (happens g s (Event.Evict p)) p Cold k (λ _. refl) refl refl refl
waits_event g s k (Event.Cool p) m = record {
  local = k.local;
  some = k.some;
  waits = λ j w. at_upd (λ j z. waits_for z w ≡ true → (y : ℕ) × (s.inside w ≡ Some y) × (y ≤ epoch_of z)) s.place p (Cooling (frame_of (s.place p)) s.epoch (λ v. is_inside (s.inside v))) j
      (λ _ h. let q = inside_some (s.inside w) h in (q.0, q.1, k.local w q.0 q.1)) (λ _ h. k.waits j w h);
}
waits_event g s k Event.Tick m = record { local = λ w x e. let q = k.local w x e in omega arith; some = k.some; waits = k.waits }
waits_event g s k (Event.Next v q j a) m = go a
  where
    go : (a : MapAnswer) → Waits (follows g s v q a)
    go (MapAnswer.Pair at word) = record { local = k.local; some = k.some; waits = k.waits }
    go (MapAnswer.Gap b) = record { local = k.local; some = k.some; waits = k.waits }
    go (MapAnswer.Value b) = record { local = k.local; some = k.some; waits = k.waits }
    go (MapAnswer.Was b) = record { local = k.local; some = k.some; waits = k.waits }
waits_event g s k (Event.Put_back v q) m = go (s.worker v).changes
  where
    go : (cs : List Entry) → Waits (put_back g s v q cs)
    go [] = record { local = k.local; some = k.some; waits = k.waits }
    go (c ∷ cs) = record { local = k.local; some = k.some; waits = k.waits }
waits_event g s k e m = record { local = k.local; some = k.some; waits = k.waits }
