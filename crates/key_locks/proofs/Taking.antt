-- A row is latched from words that were loaded before, or refused by them.
use Rattle.std.proofs.Common.{◌≡◌, ◌+◌, ◌%◌, ◌<◌, ◌^◌, ℕ, true, List, [], ◌∷◌, get_or, Option, Some, None, refl, sym, ap, subst, ◌∙◌, arith}
use Rattle.std.proofs.lemmas.Bool.{eq-eqb, and_from}
use Rattle.lean_proto.specs.core_state.Openings.{Opening}
use Rattle.lean_proto.specs.core_state.States.{Row, State}
use Rattle.lean_proto.specs.core_state.Events as happening
use Rattle.lean_proto.specs.core_state.Needs as core
use Rattle.lean_proto.specs.core_state.Needs.{is_held_by, is_reader, may_hold}
use Rattle.lean_proto.specs.row_words.declared.event.Event.{Event}
use Rattle.lean_proto.specs.row_words.declared.event.Event.TheVariants.{Lock, Miss}
use Rattle.lean_proto.specs.row_words.declared.given.Given.{Given}
use Rattle.lean_proto.specs.row_words.Moments.{event_of}
use Rattle.lean_proto.specs.row_words.Openings.{opening}
use Rattle.lean_proto.specs.row_words.Sealed.{Shown}
use Rattle.lean_proto.specs.row_words.Words.{lock_words}
use Rattle.lean_proto.specs.rows_trait.declared.view.View.{View}
use Rattle.lean_proto.specs.rows_trait.Views.{Shape, Spells, after_all, state, Knows, holds, held_at, without, may}
use Rattle.lean_proto.specs.rows_trait.Turns.{Goes, Looked, Taken, Ran}
use Rattle.lean_proto.specs.rows_trait.Causes.{HasFound, IsLatched}
use Rattle.lean_proto.specs.version_latch.declared.glimpse.Moved as versions
use Rattle.lean_proto.specs.version_latch.declared.glimpse.Latched as latches
use Rattle.lean_proto.specs.version_latch.declared.glimpse.Unheld.TheVariants as unheld
use Rattle.lean_proto.specs.version_latch.Unheld.{NotHeld}
use Rattle.lean_proto.proofs.rows_trait.Runs.{ran_append}
use Rattle.key_locks.specs.declared.mode.Mode.{Mode}
use Rattle.key_locks.specs.declared.mode.Mode.TheVariants.{Shared, Alone}
use Rattle.key_locks.specs.declared.words.Words.{Words}
use Rattle.lean_proto.specs.version_latch.Named.{missed, checked}
use Rattle.key_locks.specs.Rows.{IsWorker, IsRow, IsSound, IsBlocking, Stands, core_mode, event_mode}
use Rattle.lean_proto.specs.version_latch.Kept.{Kept}
use Rattle.key_locks.specs.Inside.{IsAt, IsHeld, IsSaid, AreKnown, list_of}
use Rattle.key_locks.specs.Locking.{IsStamp, IsMoved, IsTaken}
use Rattle.lean_proto.proofs.version_latch.Keeping.{goes_ran}
use Rattle.lean_proto.proofs.version_latch.Naming.{checked_same, checked_other, missed_even, missed_odd}
use Rattle.key_locks.proofs.Calls.{workers_given}
use Rattle.key_locks.proofs.Lists.{without_none, without_new, holds_new, at_new}
use Rattle.key_locks.proofs.Holding.{five_words}
use Rattle.key_locks.proofs.Sayings.{number_is, log_is, ends_is}
use Rattle.key_locks.proofs.Staying.{shown_word, spelled_words, five_wide}

-- ## Words that count

-- what was loaded after the version that is found again is the row's
pub known_said : (z : Shape) (v w : View) (row i version : ℕ) (x : Words) → IsAt z v row i → w.given ≡ v.given → AreKnown row version x v.steps
    → ((j n : ℕ) → Knows row version j n v.steps → Shown w.given (state w) row j n) → IsSaid (opening v.given).workers ((after_all v.given w.seen).core.row i) x
known_said z v w row i version x at given k valid = subst (λ (g : Given). IsSaid (opening g).workers ((after_all g w.seen).core.row i) x) given
    (λ j. a j ∷ b j ∷ c j ∷ d j ∷ e j ∷ [])
  where
    place : (opening w.given).frames + i ≡ row
    place = ap (λ (g : Given). (opening g).frames + i) given ∙ at.place

    a : x.readers ≡ get_or (lock_words (opening w.given).workers ((state w).core.row i)) 0 0
    a = shown_word w.given row i place (state w) 0 x.readers (valid 0 x.readers k.readers)

    b : x.holder ≡ get_or (lock_words (opening w.given).workers ((state w).core.row i)) 1 0
    b = shown_word w.given row i place (state w) 1 x.holder (valid 1 x.holder k.holder)

    c : x.number ≡ get_or (lock_words (opening w.given).workers ((state w).core.row i)) 2 0
    c = shown_word w.given row i place (state w) 2 x.number (valid 2 x.number k.number)

    d : x.log ≡ get_or (lock_words (opening w.given).workers ((state w).core.row i)) 3 0
    d = shown_word w.given row i place (state w) 3 x.log (valid 3 x.log k.log)

    e : x.ends ≡ get_or (lock_words (opening w.given).workers ((state w).core.row i)) 4 0
    e = shown_word w.given row i place (state w) 4 x.ends (valid 4 x.ends k.ends)

-- who stands in the way is a worker
pub blocker_works : (n : ℕ) (o : Row) (w b : ℕ) (mode : happening.Mode) → IsRow n o → IsBlocking o w mode b → IsWorker n b
blocker_works n o w b mode is k = go o.holder is.holder k.blocks
  where
    go : (h : Option ℕ) → ((u : ℕ) → is_held_by h u ≡ true → IsWorker n u) → Stands h o.readers w b → IsWorker n b
    go None f s = is.reader b s.reads
    go (Some v) f s = subst (λ (u : ℕ). IsWorker n u) (sym s.1) (f v (eq-eqb v v refl))

-- ## A row that was latched

pub taken_held : (z : Shape) (row i version : ℕ) (names : ℕ → List Event) (v u : View) (x : Words) → IsAt z v row i → Taken z row version names v u → AreKnown row version x v.steps → IsHeld row (list_of x) u
taken_held z row i version names v u x at t k =
    let is : t.was ≡ list_of x = five_words t.was x.readers x.holder x.number x.log x.ends (t.size ∙ five_wide z v row i at) (sym (t.known 0 x.readers k.readers)) (sym (t.known 1 x.holder k.holder)) (sym (t.known 2 x.number k.number)) (sym (t.known 3 x.log k.log)) (sym (t.known 4 x.ends k.ends)) in record {
      here = ap (λ hs. holds hs row) t.held ∙ holds_new v.held row version t.was t.was;
      fresh = ap (λ hs. (held_at hs row).done) t.held ∙ ap (λ h. h.done) (at_new v.held row version t.was t.was);
      now = ap (λ hs. (held_at hs row).now) t.held ∙ (ap (λ h. h.now) (at_new v.held row version t.was t.was) ∙ is);
    }

pub taken_said : (z : Shape) (row i version : ℕ) (names : ℕ → List Event) (v u : View) (x : Words) → IsAt z v row i → Taken z row version names v u → AreKnown row version x v.steps → IsSaid (opening u.given).workers ((state u).core.row i) x
taken_said z row i version names v u x at t k =
    let h = taken_held z row i version names v u x at t k in
    let was : (held_at u.held row).was ≡ (held_at u.held row).now = ap (λ hs. (held_at hs row).was) t.held ∙ (ap (λ h. h.was) (at_new v.held row version t.was t.was) ∙ sym (ap (λ hs. (held_at hs row).now) t.held ∙ ap (λ h. h.now) (at_new v.held row version t.was t.was))) in
    let stands : Spells u.given (state u) 5 row (list_of x) = subst (λ (y : ℕ × List ℕ). Spells u.given (state u) y.0 row y.1) (λ j. (five_wide z v row i at j, (was ∙ h.now) j)) (t.goes.stands row h.here) in
    spelled_words u.given row i (ap (λ (g : Given). (opening g).frames + i) t.goes.given ∙ at.place) (state u) (list_of x) refl stands

-- the other holds
pub taken_rest : (z : Shape) (row version : ℕ) (names : ℕ → List Event) (v u : View) → Taken z row version names v u → without u.held row ≡ v.held
taken_rest z row version names v u t = ap (λ hs. without hs row) t.held ∙ (without_new v.held row version t.was t.was ∙ without_none v.held row t.fresh)

pub checked_ran : (z : Shape) (worker version : ℕ) (v u : View) → Goes z v (checked worker version version) u → Ran z.alone v [] u
checked_ran z worker version v u g = goes_ran z (checked worker version version) [] v u g (checked_same worker version) tt

-- ## The need of a lock

pub lock_met : (g : Opening) (s : State) (w i : ℕ) (mode : Mode) → (s.worker w).is_open ≡ true → may_hold (s.row i) w (core_mode mode) ≡ true → core.may g s (event_of (Lock w i (event_mode mode))) ≡ true
lock_met g s w i Shared a b = and_from (s.worker w).is_open (may_hold (s.row i) w happening.Mode.Shared) a b
lock_met g s w i Alone a b = and_from (s.worker w).is_open (may_hold (s.row i) w happening.Mode.Alone) a b

-- a row that is said is sound at the view's state
pub sound_now : (v u : View) (i : ℕ) → u.given ≡ v.given → IsSound v.given → IsRow (opening u.given).workers ((state u).core.row i)
sound_now v u i given s = subst (λ (g : Given). IsRow (opening g).workers ((after_all g u.seen).core.row i)) (sym given) (s u.seen i)

pub stamp_of : (n : ℕ) (o : Row) (x : Words) → IsSaid n o x → IsStamp o (record { number = x.number; log = x.log; readers = x.ends })
stamp_of n o x s = record { number = number_is n o x s; log = log_is n o x s; readers = ends_is n o x s }

pub small_log : (n : ℕ) (o : Row) (x : Words) → IsSaid n o x → IsRow n o → n < 64 → x.log < 2 ^ 32
small_log n o x s is lt = let e = log_is n o x s in let l = is.log in omega arith

-- ## What a latch gives

-- the row was latched from the version at which its words were loaded: they are its words, and it is sound
pub record IsTaking (z : Shape) (row i : ℕ) (x : Words) (v u : View) : Type 0 where
  pub ran : Ran z.alone v [] u
  pub rest : without u.held row ≡ v.held
  pub held : IsHeld row (list_of x) u
  pub said : IsSaid (opening u.given).workers ((state u).core.row i) x
  pub sound : IsRow (opening u.given).workers ((state u).core.row i)
  pub workers : (opening u.given).workers ≡ (opening v.given).workers

pub taking : {z : Shape} {row i version : ℕ} {x : Words} {v u : View} (worker : ℕ) → IsAt z v row i → AreKnown row version x v.steps → IsSound v.given → Taken z row version (checked worker version) v u → IsTaking z row i x v u
taking {z = z} {row = row} {i = i} {version = version} {x = x} {v = v} {u = u} worker at known sound t = record {
  ran = checked_ran z worker version v u t.goes;
  rest = taken_rest z row version (checked worker version) v u t;
  held = taken_held z row i version (checked worker version) v u x at t known;
  said = taken_said z row i version (checked worker version) v u x at t known;
  sound = sound_now v u i t.goes.given sound;
  workers = workers_given v u t.goes.given;
}

-- ## Why a row was not latched

-- the row had another version, in a call that began before
pub moved_after : (z : Shape) (worker row version : ℕ) (first v u : View) (m : versions.Moved) → Ran z.alone first [] v → HasFound row version first v → may z.alone v worker ≡ true
    → NotHeld z row version (checked worker version) v (unheld.Moved m) u → IsMoved z.alone worker row m first u
moved_after z worker row version first v u m r f own e = record {
  at = e.0;
  ran = ran_append z.alone first [] v (Miss worker ∷ []) u r (goes_ran z (checked worker version m.found) (Miss worker ∷ []) v u e.2.looked.goes (checked_other worker version m.found e.2.other) (own, tt));
  cause = e.3 first f;
}

-- the latch was odd
pub taken_by : (z : Shape) (worker row : ℕ) (v u : View) (l : latches.Latched) → may z.alone v worker ≡ true → l.row ≡ row → l.word % 2 ≡ 1 → Looked z row (missed worker) v l.word u → IsLatched l.row l.word v u → IsTaken z.alone worker row l v u
taken_by z worker row v u l own at odd looked cause = record { at = at; ran = goes_ran z (missed worker l.word) (Miss worker ∷ []) v u looked.goes (missed_odd worker l.word odd) (own, tt); cause = cause }

-- a free row's version, and looks after it
pub looked_ran : (z : Shape) (worker row n : ℕ) (v u : View) → n % 2 ≡ 0 → Looked z row (missed worker) v n u → Ran z.alone v [] u
looked_ran z worker row n v u even l = goes_ran z (missed worker n) [] v u l.goes (missed_even worker n even) tt

pub kept_ran : {z y : Shape} {row n : ℕ} {v u w : View} (worker : ℕ) → n % 2 ≡ 0 → Looked z row (missed worker) v n u → y ≡ z → Kept y.alone u w → Ran z.alone v [] w
kept_ran {z = z} {row = row} {n = n} {v = v} {u = u} {w = w} worker even l same k = ran_append z.alone v [] u [] w (looked_ran z worker row n v u even l) (subst (λ (s : Shape). Ran s.alone u [] w) same k.ran)
