-- A row that a worker holds, alone or with others, stays so under the events of others.
use Rattle.std.proofs.Common.{◌≡◌, ◌≢◌, ◌==◌, ◌||◌, ◌&&◌, not, ℕ, Bool, true, false, List, [], ◌∷◌, Option, Some, None, refl, sym, ap, ◌∙◌, true≢false, arith}
use Rattle.std.specs.Prelude.{if◌then◌else◌}
use Rattle.std.proofs.lemmas.Bool.{cond-true, cond-false, or_left, or_right, eqb-true, ne_eqb}
use Rattle.std.proofs.lemmas.Bool.Decides.{nat_tests}
use Rattle.map_model.specs.Lists.{any, keep, upd}
use Rattle.core_paging.specs.image_model.Entries.{Entry}
use Rattle.core_paging.specs.core_state.Openings.{Opening}
use Rattle.core_paging.specs.core_state.States.{State, Row}
use Rattle.core_paging.specs.core_state.Events.{Mode}
use Rattle.core_paging.specs.core_state.Needs as core
use Rattle.core_paging.specs.core_state.Needs.{is_held_by, is_free, is_reader, holds_row, may_hold}
use Rattle.core_paging.specs.core_state.Steps.{happens, locked, unlocked, put_back}
use Rattle.version_latch.specs.row_words.declared.event.Event.{Event}
use Rattle.version_latch.specs.row_words.declared.event.Event.TheVariants as told
use Rattle.version_latch.specs.row_words.declared.event.Mode.TheVariants as mode
use Rattle.version_latch.specs.row_words.declared.event.Met.TheVariants as met
use Rattle.version_latch.specs.row_words.declared.given.Given.{Given}
use Rattle.version_latch.specs.row_words.Moments.{Moment, event_of, actor_of, by}
use Rattle.version_latch.specs.row_words.Openings.{opening}
use Rattle.version_latch.specs.row_words.Sealed.{stepped, run}
use Rattle.version_latch.proofs.row_words.Stays as words
use Rattle.version_latch.proofs.row_words.Stays.{cases}

-- ## Lists of readers

reads_kept : (v w : ℕ) → v ≢ w → (l : List ℕ) → is_reader w l ≡ true → is_reader w (keep (λ u. not (u == v)) l) ≡ true
reads_kept v w ne [] h = absurd (true≢false (sym h))
reads_kept v w ne (x ∷ xs) h = go (reads_kept v w ne xs) (x == v) refl (x == w) refl
  where
    go : (is_reader w xs ≡ true → is_reader w (keep (λ u. not (u == v)) xs) ≡ true) → (a : Bool) → (x == v) ≡ a → (b : Bool) → (x == w) ≡ b → is_reader w (if not a then x ∷ keep (λ u. not (u == v)) xs else keep (λ u. not (u == v)) xs) ≡ true
    go rest true e true f = absurd (ne (sym (eqb-true x v e) ∙ eqb-true x w f))
    go rest true e false f = rest (ap (λ z. z || is_reader w xs) (sym f) ∙ h)
    go rest false e true f = or_left (x == w) _ f
    go rest false e false f = or_right (x == w) _ (rest (ap (λ z. z || is_reader w xs) (sym f) ∙ h))

any_other : (v w : ℕ) → v ≢ w → (l : List ℕ) → is_reader w l ≡ true → any (λ u. not (u == v)) l ≡ true
any_other v w ne [] h = absurd (true≢false (sym h))
any_other v w ne (x ∷ xs) h = cases (x == w)
    (λ y. or_left (not (x == v)) _ (ap not (ne_eqb x v (λ e. ne (sym e ∙ eqb-true x w y)))))
    (λ n. or_right (not (x == v)) _ (any_other v w ne xs (ap (λ z. z || is_reader w xs) (sym n) ∙ h)))

-- ## One row

either : (a b : Bool) → (a || b) ≡ true → a ≡ false → b ≡ true
either true b h n = absurd (true≢false n)
either false b h n = h

not_held : (x : Option ℕ) (v w : ℕ) → v ≢ w → is_held_by x v ≡ true → is_held_by x w ≡ false
not_held None v w ne h = absurd (true≢false (sym h))
not_held (Some y) v w ne h = let e : y ≡ v = eqb-true y v h in ne_eqb y w (λ z. ne (sym e ∙ z))

free_none : (x : Option ℕ) (w : ℕ) → is_free x ≡ true → is_held_by x w ≡ false
free_none None w h = refl
free_none (Some y) w h = absurd (true≢false (sym h))

still_locked : (o : Row) (v w : ℕ) (m : Mode) → v ≢ w → holds_row o w ≡ true → may_hold o v m ≡ true → holds_row (locked o v m) w ≡ true
still_locked o v w Mode.Shared ne h ok = go (is_held_by o.holder v)
  where
    more : is_reader w o.readers ≡ true → (b : Bool) → is_reader w (if b then o.readers else v ∷ o.readers) ≡ true
    more r true = r
    more r false = or_right (v == w) _ r

    go : (b : Bool) → holds_row (if b then o else record o { readers = if is_reader v o.readers then o.readers else v ∷ o.readers }) w ≡ true
    go true = h
    go false = cases (is_held_by o.holder w)
        (λ y. or_left (is_held_by o.holder w) _ y)
        (λ n. or_right (is_held_by o.holder w) _ (more (either (is_held_by o.holder w) (is_reader w o.readers) h n) (is_reader v o.readers)))
still_locked o v w Mode.Alone ne h ok = go (is_held_by o.holder v) refl
  where
    go : (b : Bool) → is_held_by o.holder v ≡ b → holds_row (if b then o else record o { holder = Some v; readers = [] }) w ≡ true
    go true e = h
    go false e =
        let a = words.and_true (is_free o.holder) _ (ap (λ z. z || (is_free o.holder && not (any (λ u. not (u == v)) o.readers))) (sym e) ∙ ok) in
        let r = either (is_held_by o.holder w) (is_reader w o.readers) h (free_none o.holder w a.0) in
        absurd (true≢false (sym (sym (ap not (any_other v w ne o.readers r)) ∙ a.1)))

still_unlocked : (o : Row) (v w end : ℕ) → v ≢ w → holds_row o w ≡ true → holds_row (unlocked o v end) w ≡ true
still_unlocked o v w end ne h = go (is_held_by o.holder v) refl
  where
    kept : is_reader w o.readers ≡ true → is_reader w (keep (λ u. not (u == v)) o.readers) ≡ true
    kept = reads_kept v w ne o.readers

    go : (b : Bool) → is_held_by o.holder v ≡ b
        → holds_row (if b then record { holder = None; readers = keep (λ u. not (u == v)) o.readers; number = Rattle.std.specs.Prelude.max o.number end; log = v; read_end = o.read_end }
        else record { holder = o.holder; readers = keep (λ u. not (u == v)) o.readers; number = o.number; log = o.log; read_end = Rattle.std.specs.Prelude.max o.read_end end }) w ≡ true
    go true e = kept (either (is_held_by o.holder w) (is_reader w o.readers) h (not_held o.holder v w ne e))
    go false e = cases (is_held_by o.holder w)
        (λ y. or_left (is_held_by o.holder w) _ y)
        (λ n. or_right (is_held_by o.holder w) _ (kept (either (is_held_by o.holder w) (is_reader w o.readers) h n)))

-- ## Events

module _ (g : Opening) (s : State) (w j : ℕ) (h : holds_row (s.row j) w ≡ true) where
  at_row : (i : ℕ) (o : Row) → (i ≡ j → holds_row o w ≡ true) → holds_row (upd s.row i o j) w ≡ true
  at_row i o f = cases (i == j)
      (λ y. let e : i ≡ j = grind (arith, nat_tests) in ap (λ z. holds_row z w) (words.here s.row i o j y) ∙ f e)
      (λ n. ap (λ z. holds_row z w) (words.kept s.row i o j n) ∙ h)

  has_on : (e : Event) → actor_of e ≢ w → core.may g s (event_of e) ≡ true → holds_row ((happens g s (event_of e)).row j) w ≡ true
  has_on (told.Lock v i mode.Shared) ne ok = at_row i (locked (s.row i) v Mode.Shared) (λ e. still_locked (s.row i) v w Mode.Shared ne (ap (λ z. holds_row (s.row z) w) e ∙ h) (words.and_true (s.worker v).is_open (may_hold (s.row i) v Mode.Shared) ok).1)
  has_on (told.Lock v i mode.Alone) ne ok = at_row i (locked (s.row i) v Mode.Alone) (λ e. still_locked (s.row i) v w Mode.Alone ne (ap (λ z. holds_row (s.row z) w) e ∙ h) (words.and_true (s.worker v).is_open (may_hold (s.row i) v Mode.Alone) ok).1)
  has_on (told.Unlock v i) ne ok = at_row i (unlocked (s.row i) v (s.worker v).end) (λ e. still_unlocked (s.row i) v w (s.worker v).end ne (ap (λ z. holds_row (s.row z) w) e ∙ h))
  has_on (told.Next v p k (met.Pair at word)) ne ok = h
  has_on (told.Next v p k (met.Gap b)) ne ok = h
  has_on (told.PutBack v p) ne ok = go (s.worker v).changes
    where
      go : (cs : List Entry) → holds_row ((put_back g s v p cs).row j) w ≡ true
      go [] = h
      go (c ∷ cs) = h
  has_on _ ne ok = h

module _ (v : Given) (a : ℕ) where
  has_next : (j : ℕ) (m : Moment) (e : Event) → actor_of e ≢ a → holds_row (m.core.row j) a ≡ true → holds_row ((stepped v m e).core.row j) a ≡ true
  unfolding stepped
  has_next j m e ne h = go (core.may (opening v) m.core (event_of e)) refl
    where
      go : (b : Bool) → core.may (opening v) m.core (event_of e) ≡ b → holds_row ((Rattle.core_paging.specs.core_state.Steps.step (opening v) m.core (event_of e)).row j) a ≡ true
      go true ok = ap (λ s. holds_row (s.row j) a) (cond-true (core.may (opening v) m.core (event_of e)) (happens (opening v) m.core (event_of e)) m.core ok) ∙ has_on (opening v) m.core a j h e ne ok
      go false off_it = ap (λ s. holds_row (s.row j) a) (cond-false (core.may (opening v) m.core (event_of e)) (happens (opening v) m.core (event_of e)) m.core off_it) ∙ h

  pub shares_on : (j : ℕ) (es : List Event) (m : Moment) → ((e : Event) (fs : List Event) → by a (e ∷ fs) ≡ [] → (actor_of e ≢ a) × (by a fs ≡ [])) → by a es ≡ [] → holds_row (m.core.row j) a ≡ true → holds_row ((run v m es).core.row j) a ≡ true
  shares_on j [] m none n h = h
  shares_on j (e ∷ es) m none n h = let o = none e es n in shares_on j es (stepped v m e) none o.1 (has_next j m e o.0 h)
