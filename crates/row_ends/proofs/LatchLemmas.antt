-- Lock rows that are latched one after another, and given up one after another.
use Rattle.std.proofs.Common.{◌≡◌, ◌≢◌, ◌⊎◌, inl, inr, ⊎_elim, ◌≤◌, ◌<◌, ◌+◌, ◌%◌, ◌^◌, ◌&&◌, ◌||◌, not, ◌==◌, ℕ, zero, suc, Bool, true, false, cond, List, [], ◌∷◌, ◌++◌, length, set, get_or, drop, replicate, refl, sym, ap, ◌∙◌, subst, arith, append-nil, length-set, true≢false}
use Rattle.std.proofs.lemmas.Bool.{cases_eq, cases_lt, eq-eqb}
use Rattle.std.proofs.lemmas.List.{append_assoc, drop_more, ext_get_or, get_or-set_same, get_or-set_other, get_or-replicate, get_or_past, length-append, length-replicate}
use Rattle.std.proofs.Math.Nat.{mod-eq_of_lt}
use Rattle.std.proofs.Math.Seq.{drop-length}
use Rattle.map_model.specs.Lists.{Has, keep}
use Rattle.map_model.proofs.ListLemmas.{upd_same, upd_other}
use Rattle.session_state.specs.core_state.Events as happening
use Rattle.session_state.specs.core_state.States.{Row, State}
use Rattle.session_state.specs.core_state.Openings.{Opening}
use Rattle.session_state.specs.core_state.Needs.{holds_row, is_held_by, is_reader, may}
use Rattle.session_state.specs.core_state.Steps as core
use Rattle.session_state.specs.core_state.Steps.{AllMet, happens, unlocked}
use Rattle.session_state.proofs.core_state.Runs.{run_more}
use Rattle.session_state.specs.engine_calls.Commits.{unlocks}
use Rattle.session_state.proofs.engine_calls.MarkLemmas.{met_join}
use Rattle.session_state.proofs.engine_calls.UnlockLemmas.{if_met}
use Rattle.session_state.specs.row_words.declared.event.Event.{Event}
use Rattle.session_state.specs.row_words.declared.event.Event.TheVariants.{Miss, Unlock}
use Rattle.session_state.specs.row_words.Moments.{events_of}
use Rattle.session_state.specs.row_words.Openings.{opening}
use Rattle.session_state.specs.rows_trait.declared.view.Hold.{Hold}
use Rattle.session_state.specs.rows_trait.declared.view.View.{View}
use Rattle.session_state.specs.rows_trait.Causes.{EveryLow}
use Rattle.session_state.specs.rows_trait.Views.{Shape, AreLow, holds, state, without}
use Rattle.session_state.specs.rows_trait.Turns.{Ran}
use Rattle.session_state.proofs.rows_trait.Holds.{holds_without}
use Rattle.session_state.specs.key_locks.declared.latches.Unlatched.{Unlatched}
use Rattle.session_state.specs.key_locks.declared.latches.Unlatched.TheVariants.{Moved, Latched, RowSpent}
use Rattle.session_state.specs.key_locks.Latching.{AreLatched, IsAlone, IsGivenUp, NotLatched, is_marked}
use Rattle.session_state.specs.key_locks.Rows.{IsWorker, Sized, Spans}
use Rattle.session_state.proofs.key_locks.Masks.{others_not}
use Rattle.held_rows.specs.Steps.{AreMisses}
use Rattle.row_ends.specs.Ends.{AreAmong, AreHeld, AreMarkedTo, AreMine, Gave, Gives, Giving, Latching, Missed, Missing, gives}
use Rattle.session_state.specs.Held.{Held}
use Rattle.session_state.proofs.Moments.{met_core, seen_state}

-- ## The rows

-- there are so many rows, whatever was seen
pub sized_on : (z y : Shape) (v u : View) (own frames count n : ℕ) → y ≡ z → u.given ≡ v.given → n ≡ count → Sized z v own frames count → Sized y u own frames n
sized_on z y v u own frames count n same given many s = subst (λ k. Sized k u own frames n) (sym same) (subst (λ k. Sized z u own frames k) (sym many) (record {
  spans = s.spans;
  given = ap (λ k. (opening k).frames) given ∙ s.given;
  locks = ap (λ k. k.rows) given ∙ s.locks;
  few = subst (λ k. (opening k).workers ≤ 16) (sym given) s.few;
  works = subst (λ k. IsWorker (opening k).workers own) (sym given) s.works;
}))

pub spans_on : (z y : Shape) (frames count n : ℕ) → y ≡ z → n ≡ count → Spans z frames count → Spans y frames n
spans_on z y frames count n same many s = subst (λ k. Spans k frames n) (sym same) (subst (λ k. Spans z frames k) (sym many) s)

-- ## Marks

-- the place of a row
pub place : (row count : ℕ) (marks : List Bool) → row < count → length marks ≡ count → row % length marks ≡ row
place row count marks lt many = mod-eq_of_lt {n = row} {m = length marks} (omega arith)

-- no mark stands
pub none_marked : (marks : List Bool) (count : ℕ) → length marks ≡ count → ((i : ℕ) → is_marked marks i ≡ true → ⊥) → marks ≡ replicate count false
none_marked marks count many none = ext_get_or false marks (replicate count false) (many ∙ sym (length-replicate count false))
    (λ i lt. off i (is_marked marks i) refl ∙ sym (get_or-replicate count i false false (let q = many in omega arith)))
  where
    off : (i : ℕ) → (b : Bool) → is_marked marks i ≡ b → is_marked marks i ≡ false
    off i true e = absurd (none i e)
    off i false e = e

-- of marks that none is of
pub replicated : (count i : ℕ) → is_marked (replicate count false) i ≡ true → ⊥
replicated count i e = go (cases_lt i count)
  where
    go : (i < count) ⊎ (count ≤ i) → ⊥
    go (inl lt) = true≢false (sym e ∙ get_or-replicate count i false false lt)
    go (inr le) = true≢false (sym e ∙ get_or_past (replicate count false) i false (let q = length-replicate count false in omega arith))

-- ## Lists

pub has_step : (rows : List ℕ) (at i : ℕ) → at < length rows → Has i (drop at rows) → (i ≡ get_or rows at 0) ⊎ Has i (drop (at + 1) rows)
has_step rows at i lt h = subst (Has i) (drop_more rows at 0 lt) h

pub has_none : (rows : List ℕ) (at i : ℕ) → at ≡ length rows → Has i (drop at rows) → ⊥
has_none rows at i e h = subst (Has i) (ap (λ n. drop n rows) e ∙ drop-length rows) h

-- no row is held
pub none_held : (hs : List Hold) → ((row : ℕ) → holds hs row ≡ true → ⊥) → hs ≡ []
none_held [] none = refl
none_held (h ∷ hs) none = absurd (none h.row (ap (λ b. cond b true (holds hs h.row)) (eq-eqb h.row h.row refl)))

-- ## One mark more or less

module _ (frames count r p : ℕ) (b : Bool) (marks more : List Bool) (hs ks : List Hold) (lt : r < count) (p_is : p ≡ r) (is : more ≡ set marks p b) (mine : AreMine frames count marks hs) (tied : AreLatched frames more ks)
    (rest : without ks (frames + p) ≡ without hs (frames + p)) where
  mark_here : is_marked more r ≡ b
  mark_here = ap (λ m. is_marked m r) (is ∙ ap (λ q. set marks q b) p_is) ∙ get_or-set_same marks r b false (let q = mine.many in omega arith)

  mark_else : (i : ℕ) → i ≢ r → is_marked more i ≡ is_marked marks i
  mark_else i ne = ap (λ m. is_marked m i) (is ∙ ap (λ q. set marks q b) p_is) ∙ get_or-set_other marks r i b false ne

  many_more : length more ≡ count
  many_more = ap length is ∙ (length-set marks p b ∙ mine.many)

  mine_more : AreMine frames count more ks
  mine_more = record {
    many = many_more;
    latched = tied;
    only = λ row held. ⊎_elim
        (λ (s : row ≡ frames + r). here row s held (is_marked more r) refl)
        (λ (ne : row ≡ frames + r → ⊥). there row ne held)
        (cases_eq row (frames + r));
  }
    where
      here : (row : ℕ) → row ≡ frames + r → holds ks row ≡ true → (a : Bool) → is_marked more r ≡ a → (j : ℕ) × (row ≡ frames + j) × (is_marked more j ≡ true)
      here row s held true e = (r, s, e)
      here row s held false e = absurd (true≢false (sym held ∙ (ap (holds ks) s ∙ tied.others r (let q = many_more in omega arith) e)))

      there : (row : ℕ) → row ≢ frames + r → holds ks row ≡ true → (j : ℕ) × (row ≡ frames + j) × (is_marked more j ≡ true)
      there row ne held =
          let same : without ks (frames + r) ≡ without hs (frames + r) = subst (λ q. without ks (frames + q) ≡ without hs (frames + q)) p_is rest in
          let was : holds hs row ≡ true = sym (holds_without hs (frames + r) row ne) ∙ (ap (λ l. holds l row) (sym same) ∙ (holds_without ks (frames + r) row ne ∙ held)) in
          let o = mine.only row was in
          (o.0, o.1, mark_else o.0 (λ q. ne (o.1 ∙ ap (λ n. frames + n) q)) ∙ o.2)

-- ## Latching

pub start_latching : (frames : ℕ) (h : Held) (marks : List Bool) (v : View) → AreMine frames h.count marks v.held → AreAmong marks h.rows → Latching frames h marks v v
start_latching frames h marks v mine among = record { given = refl; seen = refl; mine = mine; among = among }

-- nothing was seen
pub ran_nothing : (alone : Bool) (v w : View) → alone ≡ true → Ran alone v [] w → w.seen ≡ v.seen
ran_nothing alone v w e r = r.seen ∙ (ap (λ ys. v.seen ++ ys) (r.all e) ∙ append-nil v.seen)

pub latched_more : (alone : Bool) (frames : ℕ) (h : Held) (at r p : ℕ) (marks more : List Bool) (v u w : View) → alone ≡ true → at < length h.rows → r ≡ get_or h.rows at 0 → r < h.count → p ≡ r → more ≡ set marks p true
    → Ran alone u [] w → AreLatched frames more w.held → without w.held (frames + p) ≡ without u.held (frames + p) → Latching frames h marks v u → AreMarkedTo at h.rows marks → Has r h.rows
    → Latching frames h more v w × AreMarkedTo (at + 1) h.rows more
latched_more alone frames h at r p marks more v u w alone_is lt r_is within p_is is ran tied rest l to has = (
  record {
    given = ran.given ∙ l.given;
    seen = ran_nothing alone u w alone_is ran ∙ l.seen;
    mine = mine_more frames h.count r p true marks more u.held w.held within p_is is l.mine tied rest;
    among = λ i on. ⊎_elim
        (λ (s : i ≡ r). subst (λ q. Has q h.rows) (sym s) has)
        (λ (ne : i ≡ r → ⊥). l.among i (sym (else_where i ne) ∙ on))
        (cases_eq i r);
  },
  λ i of_it. ⊎_elim
      (λ (s : i ≡ r). inl (ap (is_marked more) s ∙ mark_here frames h.count r p true marks more u.held w.held within p_is is l.mine tied rest))
      (λ (ne : i ≡ r → ⊥). ⊎_elim (λ on. inl (else_where i ne ∙ on)) (λ later. further i ne (has_step h.rows at i lt later)) (to i of_it))
      (cases_eq i r),
)
  where
    else_where : (i : ℕ) → i ≢ r → is_marked more i ≡ is_marked marks i
    else_where = mark_else frames h.count r p true marks more u.held w.held within p_is is l.mine tied rest

    further : (i : ℕ) → i ≢ r → (i ≡ get_or h.rows at 0) ⊎ Has i (drop (at + 1) h.rows) → (is_marked more i ≡ true) ⊎ Has i (drop (at + 1) h.rows)
    further i ne (inl s) = absurd (ne (s ∙ sym r_is))
    further i ne (inr later) = inr later

-- what stands in a list at a place
pub has_at : (rows : List ℕ) (at : ℕ) → at < length rows → Has (get_or rows at 0) rows
has_at [] at lt = absurd (omega arith)
has_at (x ∷ xs) zero lt = inl refl
has_at (x ∷ xs) (suc n) lt = inr (has_at xs n (omega arith))

-- a latch has come to its end
pub record Stopped (v w : View) : Type 0 where
  pub given : w.given ≡ v.given
  pub seen : w.seen ≡ v.seen
  pub many : AreLow (length w.seen) w.steps → 2 ^ 61 ≤ length w.seen

pub stopped : EveryLow → (alone : Bool) (worker row : ℕ) (v w : View) (e : Unlatched) → alone ≡ true → NotLatched alone worker row v e w → IsAlone e → Stopped v w
stopped low alone worker row v w (Moved m) one n a = absurd a
stopped low alone worker row v w (Latched l) one n a = absurd a
stopped low alone worker row v w (RowSpent r) one n a = record {
  given = n.ran.given;
  seen = ran_nothing alone v w one n.ran;
  many = λ lows. let q = low (length w.seen) n.found.loads.acts v.steps row n.version (subst (AreLow (length w.seen)) n.found.loads.steps lows) n.found.finds in let c = n.last in omega arith;
}

pub latched_less : (frames : ℕ) (h : Held) (marks more : List Bool) (v u w : View) → more ≡ marks → w.held ≡ u.held → Stopped u w → Latching frames h marks v u → Latching frames h more v w
latched_less frames h marks more v u w is held s l = record {
  given = s.given ∙ l.given;
  seen = s.seen ∙ l.seen;
  mine = subst (λ m. AreMine frames h.count m w.held) (sym is) (subst (λ ks. AreMine frames h.count marks ks) (sym held) l.mine);
  among = subst (λ m. AreAmong m h.rows) (sym is) l.among;
}

-- ## Latches that are given back

misses_more : (es : List Event) (a : ℕ) → AreMisses es → AreMisses (es ++ Miss a ∷ [])
misses_more [] a m = tt
misses_more (Miss b ∷ es) a m = misses_more es a m
misses_more _ a m = absurd m

pub start_missing : (frames : ℕ) (h : Held) (marks : List Bool) (v : View) → AreMine frames h.count marks v.held → AreAmong marks h.rows → Missing frames h 0 marks v v
start_missing frames h marks v mine among = record { given = refl; misses = []; are_misses = tt; few = omega arith; seen = sym (append-nil v.seen); mine = mine; left = among }

-- the marks that are left
left_more : (rows : List ℕ) (at r : ℕ) (marks more : List Bool) → at < length rows → r ≡ get_or rows at 0 → is_marked more r ≡ false → ((i : ℕ) → i ≢ r → is_marked more i ≡ is_marked marks i) → AreAmong marks (drop at rows) → AreAmong more (drop (at + 1) rows)
left_more rows at r marks more lt r_is here else_where left i on = ⊎_elim
    (λ (s : i ≡ r). absurd (true≢false (sym on ∙ (ap (is_marked more) s ∙ here))))
    (λ (ne : i ≡ r → ⊥). further ne (has_step rows at i lt (left i (sym (else_where i ne) ∙ on))))
    (cases_eq i r)
  where
    further : i ≢ r → (i ≡ get_or rows at 0) ⊎ Has i (drop (at + 1) rows) → Has i (drop (at + 1) rows)
    further ne (inl s) = absurd (ne (s ∙ sym r_is))
    further ne (inr later) = later

pub missed_more : (alone : Bool) (frames : ℕ) (h : Held) (at r p : ℕ) (marks more : List Bool) (v u w : View) → alone ≡ true → at < length h.rows → r ≡ get_or h.rows at 0 → r < h.count → p ≡ r → more ≡ set marks p false
    → AreLatched frames more w.held → without w.held (frames + p) ≡ without u.held (frames + p) → (is_marked marks p ≡ true → Ran alone u (Miss u.actor ∷ []) w) → (is_marked marks p ≡ false → w ≡ u) → Missing frames h at marks v u
    → Missing frames h (at + 1) more v w
missed_more alone frames h at r p marks more v u w alone_is lt r_is within p_is is tied rest ran same m = go (is_marked marks p) refl
  where
    mine : AreMine frames h.count more w.held
    mine = mine_more frames h.count r p false marks more u.held w.held within p_is is m.mine tied rest

    left : AreAmong more (drop (at + 1) h.rows)
    left = left_more h.rows at r marks more lt r_is (mark_here frames h.count r p false marks more u.held w.held within p_is is m.mine tied rest) (mark_else frames h.count r p false marks more u.held w.held within p_is is m.mine tied rest) m.left

    go : (b : Bool) → is_marked marks p ≡ b → Missing frames h (at + 1) more v w
    go true on = let q = ran on in record {
      given = q.given ∙ m.given;
      misses = m.misses ++ Miss u.actor ∷ [];
      are_misses = misses_more m.misses u.actor m.are_misses;
      few = let n = length-append m.misses (Miss u.actor ∷ []) in let k = m.few in omega arith;
      seen = q.seen ∙ (ap (λ ys. u.seen ++ ys) (q.all alone_is) ∙ (ap (λ ys. ys ++ Miss u.actor ∷ []) m.seen ∙ append_assoc v.seen m.misses (Miss u.actor ∷ [])));
      mine = mine;
      left = left;
    }
    go false off = let q = same off in record { given = ap (λ k. k.given) q ∙ m.given; misses = m.misses; are_misses = m.are_misses; few = let k = m.few in omega arith; seen = ap (λ k. k.seen) q ∙ m.seen; mine = mine; left = left }

module _ (frames : ℕ) (h : Held) (at : ℕ) (marks : List Bool) (hs : List Hold) (mine : AreMine frames h.count marks hs) (left : AreAmong marks (drop at h.rows)) (end : at ≡ length h.rows) where
  pub unmarked : marks ≡ replicate h.count false
  unmarked = none_marked marks h.count mine.many (λ i on. has_none h.rows at i end (left i on))

  pub idle : hs ≡ []
  idle = none_held hs (λ row held. let o = mine.only row held in has_none h.rows at o.0 end (left o.0 o.2))

  pub off : (i : ℕ) → is_marked marks i ≡ false
  off i = go (is_marked marks i) refl
    where
      go : (b : Bool) → is_marked marks i ≡ b → is_marked marks i ≡ false
      go true e = absurd (has_none h.rows at i end (left i e))
      go false e = e

pub all_missed : (frames : ℕ) (h : Held) (at : ℕ) (marks : List Bool) (v w : View) → at ≡ length h.rows → Missing frames h at marks v w → Missed (length h.rows) v w
all_missed frames h at marks v w end m = record { given = m.given; misses = m.misses; are_misses = m.are_misses; few = let k = m.few in omega arith; seen = m.seen; idle = idle frames h at marks w.held m.mine m.left end }

-- ## Rows that are given back

gives_append : (own : ℕ) (rows : List ℕ) (i : ℕ) → gives own (rows ++ i ∷ []) ≡ gives own rows ++ Unlock own i ∷ []
gives_append own [] i = refl
gives_append own (j ∷ rows) i = ap (λ z. Unlock own j ∷ z) (gives_append own rows i)

unlocks_append : (own : ℕ) (rows : List ℕ) (i : ℕ) → unlocks own (rows ++ i ∷ []) ≡ unlocks own rows ++ happening.Event.Unlock own i ∷ []
unlocks_append own [] i = refl
unlocks_append own (j ∷ rows) i = ap (λ z. happening.Event.Unlock own j ∷ z) (unlocks_append own rows i)

pub gives_events : (own : ℕ) (rows : List ℕ) → events_of (gives own rows) ≡ unlocks own rows
gives_events own [] = refl
gives_events own (i ∷ rows) = ap (λ z. happening.Event.Unlock own i ∷ z) (gives_events own rows)

-- of workers they change nothing
pub unlocks_worker : (g : Opening) (own : ℕ) (rows : List ℕ) (s : State) → (core.run g s (unlocks own rows)).worker ≡ s.worker
unlocks_worker g own [] s = refl
unlocks_worker g own (i ∷ rows) s = unlocks_worker g own rows (core.step g s (happening.Event.Unlock own i)) ∙ go (may g s (happening.Event.Unlock own i))
  where
    go : (c : Bool) → (cond c (happens g s (happening.Event.Unlock own i)) s).worker ≡ s.worker
    go true = refl
    go false = refl

-- a row that was given back is not held
pub not_held : (own : ℕ) (o : Row) (end : ℕ) → holds_row (unlocked o own end) own ≡ false
not_held own o end = go (is_held_by o.holder own) refl
  where
    row : Bool → Row
    row b = cond b (record { holder = Rattle.std.proofs.Common.None; readers = keep (λ v. not (v == own)) o.readers; number = Rattle.std.proofs.Common.max o.number end; log = own; read_end = o.read_end })
        (record { holder = o.holder; readers = keep (λ v. not (v == own)) o.readers; number = o.number; log = o.log; read_end = Rattle.std.proofs.Common.max o.read_end end })

    go : (b : Bool) → is_held_by o.holder own ≡ b → holds_row (row (is_held_by o.holder own)) own ≡ false
    go true e = ap (λ b. holds_row (row b) own) e ∙ others_not own o.readers
    go false e = ap (λ b. holds_row (row b) own) e ∙ (ap (λ b. b || is_reader own (keep (λ v. not (v == own)) o.readers)) e ∙ others_not own o.readers)

pub start_giving : (own frames : ℕ) (h : Held) (marks : List Bool) (v : View) → AreMine frames h.count marks v.held → AreAmong marks h.rows → AreHeld own v marks → Giving own frames h 0 marks v v
start_giving own frames h marks v mine among held = record { rows = []; few = omega arith; gives = record { given = refl; seen = sym (append-nil v.seen); met = tt; core = refl }; mine = mine; left = among; held = held }

-- the worker of the session is as it was
pub gives_worker : (own : ℕ) (v w : View) (rows : List ℕ) → Gives own v rows w → (state w).core.worker ≡ (state v).core.worker
gives_worker own v w rows g = ap (λ s. s.worker) g.core ∙ unlocks_worker (opening v.given) own rows (state v).core

pub closed_on : (own : ℕ) (v w : View) (rows : List ℕ) → Gives own v rows w → ((state v).core.worker own).is_open ≡ false → ((state w).core.worker own).is_open ≡ false
closed_on own v w rows g closed = ap (λ k. (k own).is_open) (gives_worker own v w rows g) ∙ closed

pub end_on : (own : ℕ) (v w : View) (rows : List ℕ) → Gives own v rows w → ((state w).core.worker own).end ≡ ((state v).core.worker own).end
end_on own v w rows g = ap (λ k. (k own).end) (gives_worker own v w rows g)

both : (b c d : Bool) → b ≡ false → c ≡ true → (not b && c) ≡ true
both false c d p q = q
both true c d p q = absurd (true≢false p)

module _ (own : ℕ) (v u w : View) (rows : List ℕ) (r end : ℕ) (gs : Gives own v rows u) (closed : ((state v).core.worker own).is_open ≡ false) (end_is : end ≡ ((state v).core.worker own).end) (held : holds_row ((state u).core.row r) own ≡ true)
    (given : w.given ≡ u.given) (seen : w.seen ≡ u.seen ++ Unlock own r ∷ []) where
  abbrev s : State
  s = core.run (opening v.given) (state v).core (unlocks own rows)

  worker : (state u).core.worker ≡ (state v).core.worker
  worker = gives_worker own v u rows gs

  met : may (opening u.given) (state u).core (happening.Event.Unlock own r) ≡ true
  met = both ((state u).core.worker own).is_open (holds_row ((state u).core.row r) own) true (ap (λ k. (k own).is_open) worker ∙ closed) held

  met_v : may (opening v.given) (core.run (opening v.given) (state v).core (unlocks own rows)) (happening.Event.Unlock own r) ≡ true
  met_v = (λ i. may (opening (sym gs.given i)) (sym gs.core i) (happening.Event.Unlock own r)) ∙ met

  core_u : (state w).core ≡ happens (opening u.given) (state u).core (happening.Event.Unlock own r)
  core_u = ap (λ m. m.core) (seen_state u w (Unlock own r ∷ []) given seen) ∙ met_core u.given (state u) (Unlock own r) met

  pub gives_more : Gives own v (rows ++ r ∷ []) w
  gives_more = record {
    given = given ∙ gs.given;
    seen = seen ∙ (ap (λ ys. ys ++ Unlock own r ∷ []) gs.seen ∙ (append_assoc v.seen (gives own rows) (Unlock own r ∷ []) ∙ ap (λ ys. v.seen ++ ys) (sym (gives_append own rows r))));
    met = subst (AllMet (opening v.given) (state v).core) (sym (unlocks_append own rows r)) (met_join (opening v.given) (state v).core (unlocks own rows) (happening.Event.Unlock own r ∷ []) gs.met (met_v, tt));
    core = core_u ∙ ((λ i. happens (opening (gs.given i)) (gs.core i) (happening.Event.Unlock own r))
        ∙ (sym (if_met (may (opening v.given) s (happening.Event.Unlock own r)) met_v s (happens (opening v.given) s (happening.Event.Unlock own r)))
        ∙ (sym (run_more (opening v.given) (state v).core (unlocks own rows) (happening.Event.Unlock own r ∷ [])) ∙ ap (core.run (opening v.given) (state v).core) (sym (unlocks_append own rows r)))));
  }

  pub row_here : holds_row ((state w).core.row r) own ≡ false
  row_here = ap (λ s. holds_row (s.row r) own) core_u
      ∙ (ap (λ o. holds_row o own) (upd_same (state u).core.row r (unlocked ((state u).core.row r) own ((state u).core.worker own).end) r refl) ∙ not_held own ((state u).core.row r) ((state u).core.worker own).end)

  pub row_else : (i : ℕ) → i ≢ r → holds_row ((state w).core.row i) own ≡ holds_row ((state u).core.row i) own
  row_else i ne = ap (λ s. holds_row (s.row i) own) core_u ∙ ap (λ o. holds_row o own) (upd_other (state u).core.row r (unlocked ((state u).core.row r) own ((state u).core.worker own).end) i ne)

pub gave_more : (alone : Bool) (own frames : ℕ) (h : Held) (at r p end : ℕ) (marks more : List Bool) (v u w : View) → alone ≡ true → at < length h.rows → r ≡ get_or h.rows at 0 → r < h.count → p ≡ r → more ≡ set marks p false
    → AreLatched frames more w.held → without w.held (frames + p) ≡ without u.held (frames + p) → ((state v).core.worker own).is_open ≡ false → end ≡ ((state v).core.worker own).end
    → (is_marked marks p ≡ true → IsGivenUp alone own p end u w) → (is_marked marks p ≡ false → w ≡ u) → Giving own frames h at marks v u → Giving own frames h (at + 1) more v w
gave_more alone own frames h at r p end marks more v u w alone_is lt r_is within p_is is tied rest closed end_is up same m = go (is_marked marks p) refl
  where
    mine : AreMine frames h.count more w.held
    mine = mine_more frames h.count r p false marks more u.held w.held within p_is is m.mine tied rest

    here : is_marked more r ≡ false
    here = mark_here frames h.count r p false marks more u.held w.held within p_is is m.mine tied rest

    else_where : (i : ℕ) → i ≢ r → is_marked more i ≡ is_marked marks i
    else_where = mark_else frames h.count r p false marks more u.held w.held within p_is is m.mine tied rest

    left : AreAmong more (drop (at + 1) h.rows)
    left = left_more h.rows at r marks more lt r_is here else_where m.left

    go : (b : Bool) → is_marked marks p ≡ b → Giving own frames h (at + 1) more v w
    go true on =
        let q = (up on).ran in
        let seen : w.seen ≡ u.seen ++ Unlock own r ∷ [] = q.seen ∙ (ap (λ ys. u.seen ++ ys) (q.all alone_is) ∙ ap (λ j. u.seen ++ Unlock own j ∷ []) p_is) in
        let held : holds_row ((state u).core.row r) own ≡ true = m.held r ∙ (ap (is_marked marks) (sym p_is) ∙ on) in record {
          rows = m.rows ++ r ∷ [];
          few = let n = length-append m.rows (r ∷ []) in let k = m.few in omega arith;
          gives = gives_more own v u w m.rows r end m.gives closed end_is held q.given seen;
          mine = mine;
          left = left;
          held = λ i. ⊎_elim
              (λ (s : i ≡ r). ap (λ j. holds_row ((state w).core.row j) own) s ∙ (row_here own v u w m.rows r end m.gives closed end_is held q.given seen ∙ sym (ap (is_marked more) s ∙ here)))
              (λ (ne : i ≡ r → ⊥). row_else own v u w m.rows r end m.gives closed end_is held q.given seen i ne ∙ (m.held i ∙ sym (else_where i ne)))
              (cases_eq i r);
        }
    go false off =
        let q = same off in record {
          rows = m.rows;
          few = let k = m.few in omega arith;
          gives = subst (λ k. Gives own v m.rows k) (sym q) m.gives;
          mine = mine;
          left = left;
          held = λ i. ap (λ k. holds_row ((state k).core.row i) own) q ∙ (m.held i ∙ ⊎_elim
              (λ (s : i ≡ r). ap (is_marked marks) (s ∙ sym p_is) ∙ (off ∙ sym (ap (is_marked more) s ∙ here)))
              (λ (ne : i ≡ r → ⊥). sym (else_where i ne))
              (cases_eq i r));
        }

pub all_gave : (own frames : ℕ) (h : Held) (at : ℕ) (marks : List Bool) (v w : View) → at ≡ length h.rows → Giving own frames h at marks v w → Gave own (length h.rows) v w
all_gave own frames h at marks v w end m = record {
  rows = m.rows;
  few = let k = m.few in omega arith;
  gives = m.gives;
  idle = idle frames h at marks w.held m.mine m.left end;
  free = λ i. m.held i ∙ off frames h at marks w.held m.mine m.left end i;
}
