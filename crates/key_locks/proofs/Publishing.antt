-- A lock and an unlock may be published once the row's words are stored, whatever others did meanwhile.
use Rattle.std.proofs.Common.{◌≡◌, ◌==◌, ◌&&◌, not, ◌+◌, ◌-◌, ℕ, true, false, List, [], ◌∷◌, ◌++◌, get_or, refl, sym, ap, subst, ◌∙◌, true≢false, arith, ltb}
use Rattle.std.proofs.lemmas.Bool.{cond-true, cond-false, le-ltb, eqb-true, eq-eqb, and_parts}
use Rattle.lean_proto.specs.core_state.Openings.{Opening}
use Rattle.lean_proto.specs.core_state.States.{Row, State}
use Rattle.lean_proto.specs.core_state.Events as happening
use Rattle.lean_proto.specs.core_state.Needs as core
use Rattle.lean_proto.specs.core_state.Needs.{holds_row, may_hold}
use Rattle.lean_proto.specs.core_state.Steps as steps
use Rattle.lean_proto.specs.core_state.Steps.{happens, locked, unlocked}
use Rattle.lean_proto.specs.core_state.Local.{publishes_row}
use Rattle.lean_proto.specs.row_words.declared.event.Event.{Event}
use Rattle.lean_proto.specs.row_words.declared.event.Event.TheVariants.{Lock, Unlock}
use Rattle.lean_proto.specs.row_words.declared.given.Given.{Given}
use Rattle.lean_proto.specs.row_words.Moments.{is_rising, Moment, event_of, actor_of, is_sync}
use Rattle.lean_proto.specs.row_words.Openings.{opening}
use Rattle.lean_proto.specs.row_words.Sealed.{begun, stepped, run, changes, sets, Shown}
use Rattle.lean_proto.specs.row_words.Words.{lock_words, publishes, publishes_frame}
use Rattle.lean_proto.proofs.row_words.Stays.{cases, here}
use Rattle.lean_proto.proofs.row_words.SealedLemmas.{calm_tame, run_append}
use Rattle.lean_proto.specs.rows_trait.declared.view.View.{View}
use Rattle.lean_proto.specs.rows_trait.Views.{Shape, after_all, state, AreApart, holds, held_at, without, settle, may}
use Rattle.lean_proto.specs.rows_trait.Turns.{Leaves, MayPublish, Published}
use Rattle.lean_proto.proofs.rows_trait.Holds.{holds_without_here}
use Rattle.lean_proto.proofs.rows_trait.Runs.{ran_goes}
use Rattle.lean_proto.proofs.Meanwhile.{meanwhile}
use Rattle.lean_proto.proofs.Owns.{worker_apart}
use Rattle.key_locks.specs.declared.mode.Mode.{Mode}
use Rattle.key_locks.specs.declared.mode.Mode.TheVariants.{Shared, Alone}
use Rattle.key_locks.specs.Rows.{core_mode, event_mode}
use Rattle.key_locks.specs.Inside.{IsAt, IsHeld, Stayed}
use Rattle.key_locks.specs.Locking.{IsPublished}
use Rattle.key_locks.proofs.Lists.{settle_none}
use Rattle.lean_proto.proofs.version_latch.Keeping.{may_ran}
use Rattle.key_locks.proofs.Calls.{published_before}
use Rattle.key_locks.proofs.Staying.{past, index, row_apart, worker_ran, at_after}

-- ## Which row an event changes

-- an event that changes no frame row, and the lock row i alone
pub record IsOf (g : Opening) (e : Event) (i : ℕ) : Type 0 where
  pub frame : (s : State) (q : ℕ) → publishes_frame g s (event_of e) q ≡ false
  pub lock : (j : ℕ) → publishes_row (event_of e) j ≡ (i == j)
  pub part : is_sync e ≡ false
  pub words : (c j : ℕ) → sets e c j ≡ false
  pub calm : is_rising e ≡ false

pub of_lock : (g : Opening) (w i : ℕ) (mode : Mode) → IsOf g (Lock w i (event_mode mode)) i
unfolding sets
of_lock g w i mode = record { frame = λ s q. refl; lock = λ j. refl; part = refl; words = λ c j. refl; calm = refl }

pub of_unlock : (g : Opening) (w i : ℕ) → IsOf g (Unlock w i) i
unfolding sets
of_unlock g w i = record { frame = λ s q. refl; lock = λ j. refl; part = refl; words = λ c j. refl; calm = refl }

only : (g : Opening) (e : Event) (i row q : ℕ) (s : State) → IsOf g e i → g.frames + i ≡ row → publishes g s (event_of e) q ≡ true → q ≡ row
only g e i row q s of place h = cases (ltb q g.frames)
    (λ t. absurd (true≢false (sym h ∙ (cond-true (ltb q g.frames) (publishes_frame g s (event_of e) q) (publishes_row (event_of e) (q - g.frames)) t ∙ of.frame s q))))
    (λ f. let y : (i == (q - g.frames)) ≡ true = sym (of.lock (q - g.frames)) ∙ (sym (cond-false (ltb q g.frames) (publishes_frame g s (event_of e) q) (publishes_row (event_of e) (q - g.frames)) f) ∙ h) in
    let is = eqb-true i (q - g.frames) y in let le = Rattle.std.proofs.lemmas.Bool.ltb-false q g.frames f in omega arith)

hit : (g : Opening) (e : Event) (i row : ℕ) (s : State) → IsOf g e i → g.frames + i ≡ row → publishes g s (event_of e) row ≡ true
hit g e i row s of place =
    let f : ltb row g.frames ≡ false = le-ltb row g.frames (omega arith) in
    let is : i ≡ row - g.frames = omega arith in
    cond-false (ltb row g.frames) (publishes_frame g s (event_of e) row) (publishes_row (event_of e) (row - g.frames)) f ∙ (of.lock (row - g.frames) ∙ eq-eqb i (row - g.frames) is)

-- ## The publish

module _ (z : Shape) (v : View) (row i w : ℕ) (e : Event) (o : Row) (now : List ℕ) (at : IsAt z v row i) (held : IsHeld row now v) (own : may z.alone v w ≡ true) (actor : actor_of e ≡ w)
    (of : IsOf (opening v.given) e i)
    (alike : (s : State) → s.row i ≡ (state v).core.row i → s.worker w ≡ (state v).core.worker w → (core.may (opening v.given) s (event_of e) ≡ true) × ((happens (opening v.given) s (event_of e)).row i ≡ o))
    (spelled : now ≡ lock_words (opening v.given).workers o) where
  abbrev g : Opening
  g = opening v.given

  -- the row and the worker at the moment of the publish
  stays : (between : List Event) → (z.alone ≡ true → between ≡ []) → AreApart v (state v) between
      → ((after_all v.given (v.seen ++ between)).core.row i ≡ (state v).core.row i) × ((after_all v.given (v.seen ++ between)).core.worker w ≡ (state v).core.worker w)
  stays = meanwhile z v w (λ m. (m.core.row i ≡ (state v).core.row i) × (m.core.worker w ≡ (state v).core.worker w)) own (refl, refl)
      (λ es is a. (row_apart v row i at.place held.here es (state v) a, subst (λ (b : ℕ). (run v.given (state v) es).core.worker b ≡ (state v).core.worker b) is (worker_apart v es (state v) a)))

  met_at : (m : Moment) → m.core.row i ≡ (state v).core.row i → m.core.worker w ≡ (state v).core.worker w → core.may g m.core (event_of e) ≡ true
  met_at m r k = (alike m.core r k).0

  step_is : (m : Moment) → m.core.row i ≡ (state v).core.row i → m.core.worker w ≡ (state v).core.worker w → (steps.step g m.core (event_of e)).row i ≡ o
  step_is m r k = ap (λ s. s.row i) (cond-true (core.may g m.core (event_of e)) (happens g m.core (event_of e)) m.core (met_at m r k)) ∙ (alike m.core r k).1

  shows : (m : Moment) → m.core.row i ≡ (state v).core.row i → m.core.worker w ≡ (state v).core.worker w → (q j : ℕ) → q ≡ row → Shown v.given (stepped v.given m e) q j (get_or (held_at v.held q).now j 0)
  unfolding Shown stepped
  shows m r k q j is = record {
    frame = λ t. absurd (true≢false (sym t ∙ (ap (λ y. ltb y g.frames) is ∙ past v.given row i at.place)));
    lock = λ t. ap (λ y. get_or (held_at v.held y).now j 0) is ∙ (ap (λ l. get_or l j 0) (held.now ∙ spelled) ∙ ap (λ p. get_or (lock_words g.workers p) j 0) (sym (step_is m r k) ∙ ap (λ y. (steps.step g m.core (event_of e)).row y) (sym (ap (λ y. y - g.frames) is ∙ index v.given row i at.place))));
  }

  leaves : (m : Moment) → m.core.row i ≡ (state v).core.row i → m.core.worker w ≡ (state v).core.worker w → Leaves z row e v m
  unfolding changes
  leaves m r k = record {
    here = hit g e i row m.core of at.place;
    rows = λ q h. let is = only g e i row q m.core of at.place h in (ap (holds v.held) is ∙ held.here, λ j l. shows m r k q j is);
  }

  pub may_publish : MayPublish z row e v
  may_publish = record {
    actor = subst (λ (a : ℕ). may z.alone v a ≡ true) (sym actor) own;
    part = of.part;
    words = of.words;
    tame = calm_tame (state v) e of.calm;
    leaves = λ between quiet apart. let s = stays between quiet apart in leaves (after_all v.given (v.seen ++ between)) s.0 s.1;
  }

  -- the other holds stay
  others : (m : Moment) → settle v.given m (without v.held row) e ≡ without v.held row
  unfolding changes
  others m = settle_none v.given m (without v.held row) e (λ q h. cases (publishes g m.core (event_of e) q)
      (λ t. absurd (true≢false (sym h ∙ (ap (holds (without v.held row)) (only g e i row q m.core of at.place t) ∙ holds_without_here v.held row))))
      (λ f. f))

  now_is : (m : Moment) → m.core.row i ≡ (state v).core.row i → m.core.worker w ≡ (state v).core.worker w → (stepped v.given m e).core.row i ≡ o
  unfolding stepped
  now_is m r k = step_is m r k

  pub published : (u : View) → Published z row e v u → (u.held ≡ without v.held row) × IsPublished z.alone e i ((state v).core.row i) o v u
  published u p =
      let s = stays p.goes.between p.goes.quiet p.goes.apart in
      let m = after_all v.given (v.seen ++ p.goes.between) in (
        p.held ∙ others m,
        record {
          ran = ran_goes z v (e ∷ []) u (subst (λ (a : ℕ). may z.alone v a ≡ true) (sym actor) own, tt) p.goes;
          between = p.goes.between;
          seen = p.goes.seen;
          met = met_at m s.0 s.1;
          was = s.0;
          now = ap (λ n. n.core.row i) ((λ j. after_all (p.goes.given j) (p.goes.seen j)) ∙ run_append v.given (begun v.given) (v.seen ++ p.goes.between) (e ∷ [])) ∙ now_is m s.0 s.1;
        },
      )

-- ## A lock, and an unlock

module _ (v : View) (i w : ℕ) where
  abbrev h : Opening
  h = opening v.given

  pub lock_alike : (mode : Mode) → core.may h (state v).core (event_of (Lock w i (event_mode mode))) ≡ true → (s : State) → s.row i ≡ (state v).core.row i → s.worker w ≡ (state v).core.worker w
      → (core.may h s (event_of (Lock w i (event_mode mode))) ≡ true) × ((happens h s (event_of (Lock w i (event_mode mode)))).row i ≡ locked ((state v).core.row i) w (core_mode mode))
  lock_alike Shared met s r k = ((λ j. (k j).is_open && may_hold (r j) w happening.Mode.Shared) ∙ met, here s.row i (locked (s.row i) w happening.Mode.Shared) i (eq-eqb i i refl) ∙ ap (λ o. locked o w happening.Mode.Shared) r)
  lock_alike Alone met s r k = ((λ j. (k j).is_open && may_hold (r j) w happening.Mode.Alone) ∙ met, here s.row i (locked (s.row i) w happening.Mode.Alone) i (eq-eqb i i refl) ∙ ap (λ o. locked o w happening.Mode.Alone) r)

  pub unlock_alike : (end : ℕ) → end ≡ ((state v).core.worker w).end → core.may h (state v).core (event_of (Unlock w i)) ≡ true → (s : State) → s.row i ≡ (state v).core.row i → s.worker w ≡ (state v).core.worker w
      → (core.may h s (event_of (Unlock w i)) ≡ true) × ((happens h s (event_of (Unlock w i))).row i ≡ unlocked ((state v).core.row i) w end)
  unlock_alike end e met s r k = ((λ j. not (k j).is_open && holds_row (r j) w) ∙ met, here s.row i (unlocked (s.row i) w (s.worker w).end) i (eq-eqb i i refl) ∙ (λ j. unlocked (r j) w ((ap (λ y. y.end) k ∙ sym e) j)))

-- ## After the stores

-- the event may be published after the stores of a call, and counts from the call's beginning
ready : (z : Shape) (v u : View) (row i w : ℕ) (e : Event) (o : Row) (now : List ℕ) → IsAt z v row i → may z.alone v w ≡ true → actor_of e ≡ w → ((g : Opening) → IsOf g e i)
    → ((s : State) → s.row i ≡ (state v).core.row i → s.worker w ≡ (state v).core.worker w → (core.may (opening v.given) s (event_of e) ≡ true) × ((happens (opening v.given) s (event_of e)).row i ≡ o))
    → Stayed z.alone row v u → IsHeld row now u → now ≡ lock_words (opening v.given).workers o
    → MayPublish z row e u × ((x : View) → Published z row e u x → (x.held ≡ without v.held row) × IsPublished z.alone e i ((state v).core.row i) o v x)
ready z v u row i w e o now at own actor of alike stayed held spelled = (
  may_publish z u row i w e o now at_u held own_u actor (of (opening u.given)) alike_u spelled_u,
  λ x p. let q = published z u row i w e o now at_u held own_u actor (of (opening u.given)) alike_u spelled_u x p in
      (q.0 ∙ stayed.rest, published_before z.alone e i ((state v).core.row i) o v u x stayed.ran (subst (λ (y : Row). IsPublished z.alone e i y o u x) (stayed.same i at.place) q.1)),
)
  where
    at_u : IsAt z u row i
    at_u = at_after z z v u row i refl stayed.ran.given at

    own_u : may z.alone u w ≡ true
    own_u = may_ran z.alone v u [] w stayed.ran own

    alike_u : (s : State) → s.row i ≡ (state u).core.row i → s.worker w ≡ (state u).core.worker w → (core.may (opening u.given) s (event_of e) ≡ true) × ((happens (opening u.given) s (event_of e)).row i ≡ o)
    alike_u s r k = subst (λ (g : Given). (core.may (opening g) s (event_of e) ≡ true) × ((happens (opening g) s (event_of e)).row i ≡ o)) (sym stayed.ran.given)
        (alike s (r ∙ stayed.same i at.place) (k ∙ worker_ran z.alone v u w own stayed.ran))

    spelled_u : now ≡ lock_words (opening u.given).workers o
    spelled_u = spelled ∙ ap (λ (g : Given). lock_words (opening g).workers o) (sym stayed.ran.given)

-- the publish of a hold whose row was stored, from the view before the stores
pub record Publishes (z y : Shape) (row q i : ℕ) (e : Event) (o : Row) (v u : View) : Type 0 where
  pub event : MayPublish y q e u
  pub after : (x : View) (f : Event) → f ≡ e → Published y q f u x → (x.held ≡ without v.held row) × IsPublished z.alone e i ((state v).core.row i) o v x

after_stores : (z y : Shape) (row q i w : ℕ) (e : Event) (o : Row) (v u : View) → y ≡ z → q ≡ row
    → MayPublish z row e u × ((x : View) → Published z row e u x → (x.held ≡ without v.held row) × IsPublished z.alone e i ((state v).core.row i) o v x) → Publishes z y row q i e o v u
after_stores z y row q i w e o v u shape place both = record {
  event = subst (λ (p : Shape × ℕ). MayPublish p.0 p.1 e u) (λ j. (sym shape j, sym place j)) both.0;
  after = λ x f is p. both.1 x (subst (λ (k : Shape × ℕ × Event). Published k.0 k.1 k.2 u x) (λ j. (shape j, place j, is j)) p);
}

pub lock_ready : {z y : Shape} {row q : ℕ} {words : List ℕ} {u : View} (v : View) (i w : ℕ) (mode : Mode) → IsAt z v row i → may z.alone v w ≡ true → core.may (opening v.given) (state v).core (event_of (Lock w i (event_mode mode))) ≡ true
    → y ≡ z → q ≡ row → Stayed z.alone row v u → IsHeld row words u → words ≡ lock_words (opening v.given).workers (locked ((state v).core.row i) w (core_mode mode))
    → Publishes z y row q i (Lock w i (event_mode mode)) (locked ((state v).core.row i) w (core_mode mode)) v u
lock_ready {z = z} {y = y} {row = row} {q = q} {words = words} {u = u} v i w mode at own met shape place stayed held said =
    let o = locked ((state v).core.row i) w (core_mode mode) in
    after_stores z y row q i w (Lock w i (event_mode mode)) o v u shape place (ready z v u row i w (Lock w i (event_mode mode)) o words at own refl (λ g. of_lock g w i mode) (lock_alike v i w mode met) stayed held said)

pub unlock_ready : {z y : Shape} {row q : ℕ} {words : List ℕ} {u : View} (v : View) (i w end : ℕ) → IsAt z v row i → may z.alone v w ≡ true → end ≡ ((state v).core.worker w).end → core.may (opening v.given) (state v).core (event_of (Unlock w i)) ≡ true
    → y ≡ z → q ≡ row → Stayed z.alone row v u → IsHeld row words u → words ≡ lock_words (opening v.given).workers (unlocked ((state v).core.row i) w end)
    → Publishes z y row q i (Unlock w i) (unlocked ((state v).core.row i) w end) v u
unlock_ready {z = z} {y = y} {row = row} {q = q} {words = words} {u = u} v i w end at own ended met shape place stayed held said =
    let o = unlocked ((state v).core.row i) w end in
    after_stores z y row q i w (Unlock w i) o v u shape place (ready z v u row i w (Unlock w i) o words at own refl (λ g. of_unlock g w i) (unlock_alike v i w end ended met) stayed held said)
