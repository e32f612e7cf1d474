-- The parts of an eviction, put together.
use Rattle.std.proofs.Common.{◌≡◌, ◌≤◌, ℕ, Bool, true, false, [], ◌++◌, Ok, Err, refl, sym, ap, subst, ◌∙◌, arith, true≢false}
use Rattle.std.specs.Prelude.{Result, IfErr, IfOk}
use Rattle.btree_descent.specs.core_state.Needs.{is_dirty}
use Rattle.btree_descent.specs.core_state.States.{flushed_by_all, frame_of}
use Rattle.cooling_stage.specs.declared.stage.Cooling.{Cooling}
use Rattle.lean_disk.specs.Faults.{HasCause}
use Rattle.lean_disk.specs.Story.{IsLawful, Story}
use Rattle.btree_descent.specs.row_words.Openings.{opening}
use Rattle.btree_descent.specs.rows_trait.declared.view.View.{View}
use Rattle.btree_descent.specs.rows_trait.Turns.{Ran}
use Rattle.btree_descent.specs.rows_trait.Views.{Shape, state}
use Rattle.page_provider.specs.Refusals.{IsOfRow}
use Rattle.page_provider.specs.declared.refusal.Refusal.{Refusal}
use Rattle.page_provider.specs.declared.refusal.Refusal.TheVariants as refusal
use Rattle.page_provider.specs.Disks.{Disked}
use Rattle.page_provider.specs.Evicts.{CanLeave, HasLeft, HasStayed, saving}
use Rattle.page_provider.specs.Inside.{HasCleared, HasGone, HasSaved, IsEntered, Judges}
use Rattle.page_provider.specs.Laws.{DiskLaws, RowLaws}
use Rattle.page_provider.specs.Providers.{Provider, Keeps}
use Rattle.page_provider.proofs.Departures.{dirty_on}
use Rattle.page_provider.proofs.Keeping.{keeps_ran, ran_stood}
use Rattle.page_provider.proofs.Outcomes.{entered_on, entry_frame, low_ran, stayed_after}
use Rattle.page_provider.proofs.Running.{disked_quiet, disked_then}
use Rattle.page_provider.proofs.Savings.{disked_gone, frame_is, left_dirty}
use Rattle.page_provider.proofs.Writing.{disked_misses}

-- what is known once it was seen whether the page is dirty
pub record Seen (z : Shape) (v u : View) (k : Provider) (entry : Cooling) (page : ℕ) (dirty : Bool) : Type 0 where
  pub ran : Ran z.alone v [] u
  pub keeps : Keeps z u k
  pub entered : IsEntered u k entry
  pub low : ((state u).core.page entry.page).gsn ≤ flushed_by_all (opening u.given) (state u).core
  pub now : is_dirty (state u).core entry.page ≡ dirty
  pub before : is_dirty (state v).core page ≡ dirty
  pub frame : frame_of ((state v).core.place page) ≡ entry.frame

pub seen : {z : Shape} {v u : View} {k : Provider} {entry : Cooling} {page : ℕ} {dirty : Bool} → RowLaws → Keeps z v k → v.held ≡ [] → CanLeave v page → IsEntered v k entry → entry.page ≡ page → Judges z v entry.frame dirty u → Seen z v u k entry page dirty
seen {z = z} {v = v} {u = u} {k = k} {entry = entry} {page = page} {dirty = dirty} laws c none m e same j =
    let there = keeps_ran laws.stood laws.standing tt j.ran c in
    let e2 = entered_on laws c j.ran e in
    let is : is_dirty (state u).core entry.page ≡ dirty = sym (j.says entry.page e2.goes.below (entry_frame there e2)) in
    record {
      ran = j.ran;
      keeps = there;
      entered = e2;
      low = low_ran laws c none e.goes j.ran (subst (λ p. ((state v).core.page p).gsn ≤ flushed_by_all (opening v.given) (state v).core) (sym same) m.low);
      now = is;
      before = ap (λ p. is_dirty (state v).core p) (sym same) ∙ (sym (dirty_on (ran_stood laws.stood c tt j.ran) e.goes) ∙ is);
      frame = frame_is c e same;
    }

pub keeps_shape : {z y : Shape} {v : View} {k : Provider} → y ≡ z → Keeps z v k → Keeps y v k
keeps_shape {v = v} {k = k} same c = subst (λ s. Keeps s v k) (sym same) c

-- ## Refusals, and what has left

module _ {z y : Shape} {v u w : View} {k is : Provider} {entry : Cooling} {page : ℕ} {dirty : Bool} (s : Seen z v u k entry page dirty) (same : entry.page ≡ page) (shape : y ≡ z) where
  -- of a save, or of a leave with no save before it
  pub first_stayed : {why : Refusal} → HasStayed y u k entry.page why w is → HasStayed z v k page why w is
  first_stayed {why} h = stayed_after s.ran (ap (λ p. is_dirty (state u).core p) (sym same) ∙ (s.now ∙ sym s.before)) (frame_is s.keeps s.entered same ∙ sym s.frame) (subst (λ (q : Shape × ℕ). HasStayed q.0 u k q.1 why w is) (λ i. (shape i, same i)) h)

  -- of a dirty page, which has left
  pub cleared_left : dirty ≡ true → HasCleared y u k entry w is → HasLeft z v k page w is
  cleared_left now h =
      let saved = subst (λ (q : Shape). HasSaved q u k entry h.behind h.mid) shape h.saved in
      let gone = subst (λ (q : Shape). HasGone q h.behind h.mid entry w is) shape h.gone in
      left_dirty same s.ran s.frame (s.before ∙ now) saved gone

-- a save that was done breaks nothing
pub saved_well : {z : Shape} {v u : View} {was is : Provider} {entry : Cooling} → HasSaved z v was entry u is → was.broken ≡ false → is.broken ≡ false
saved_well h well = ap (λ (p : Provider). p.broken) h.pool ∙ well

-- ## Results

pub err_to : {A E : Type 0} {S : Type 0} (P Q : E → Type 0) (r : Result A E) → ((e : E) → S → P e → Q e) → IfErr r (λ _. S) → IfErr r P → IfErr r Q
err_to P Q (Ok a) f s p = tt
err_to P Q (Err e) f s p = f e s p

-- the device was asked for nothing more
pub cause_to : {m n : ℕ} {A B : Type 0} → HasCause m n A → (A → ⊥) → (B → ⊥) → HasCause m n B
cause_to h first last = record { later = h.later; cause = λ b. absurd (last b); calm = λ _. h.calm first }

-- it failed in both senses
pub cause_for : {m n : ℕ} {A B : Type 0} → HasCause m n A → A → B → HasCause m n B
cause_for c a b = record { later = c.later; cause = λ _. c.cause a; calm = λ k. absurd (k b) }

-- it is told on
pub cause_up : {m n : ℕ} {A B E : Type 0} {q : Result A E} {why told fault : E} (r : Result B E) → q ≡ Err why → r ≡ Err told → why ≡ told → HasCause m n (q ≡ Err fault) → HasCause m n (r ≡ Err fault)
cause_up r was is same h = record { later = h.later; cause = λ b. h.cause (cc); calm = λ none. h.calm (λ a. none (cc)) }

-- it was asked for nothing
pub cause_none : {n : ℕ} {A : Type 0} → (A → ⊥) → HasCause n n A
cause_none none = record { later = omega arith; cause = λ a. absurd (none a); calm = λ _. refl }

-- a row was not as it has to be, so the device did not fail
pub row_unlike : {A : Type 0} {why told : Refusal} (r : Result A Refusal) → r ≡ Err told → why ≡ told → IsOfRow why → r ≡ Err refusal.DiskFault → ⊥
row_unlike {why = why} r is same kind failed = let e : why ≡ refusal.DiskFault = cc in subst IsOfRow e kind

-- nor was it where a row was not as it has to be
pub cause_row : {n : ℕ} {A : Type 0} {why told : Refusal} (r : Result A Refusal) → r ≡ Err told → why ≡ told → IsOfRow why → HasCause n n (r ≡ Err refusal.DiskFault)
cause_row r is same kind = cause_none (row_unlike r is same kind)

-- ## The disk

pub leave_disk : {z y : Shape} {t w : View} {mid is : Provider} {s : Story} (entry : Cooling) → DiskLaws → IsLawful s → y ≡ z → is_dirty (state t).core entry.page ≡ false → (r : Result (Unit {0}) Refusal)
    → IfOk r (λ _. HasGone y t mid entry w is) → IfErr r (λ why. HasStayed y t mid entry.page why w is) → IfErr r (λ _. is ≡ mid) → Disked z.alone mid t is w s s
leave_disk {t = t} {w = w} {mid = mid} {is = is} {s = s} entry disk law shape clean (Ok a) gone stayed kept = subst (λ (q : Shape). Disked q.alone mid t is w s s) shape (disked_gone disk law gone)
leave_disk {z = z} {y = y} {t = t} {w = w} {mid = mid} {is = is} {s = s} entry disk law shape clean (Err why) gone stayed kept =
    subst (λ (q : Shape). Disked q.alone mid t is w s s) shape (subst (λ p. Disked y.alone mid t p w s s) (sym kept) (go stayed.saved refl))
  where
    go : (b : Bool) → stayed.saved ≡ b → Disked y.alone mid t mid w s s
    go true e = absurd (true≢false (sym (stayed.dirty e) ∙ clean))
    go false e = disked_misses disk law (subst (λ b. Ran y.alone t (saving b entry.page ++ stayed.misses) w) e stayed.goes.ran) stayed.few

-- nothing was asked of the device before
pub disk_after : {alone : Bool} {v u w : View} {k is : Provider} {old new : Story} → DiskLaws → IsLawful old → k.broken ≡ false → Ran alone v [] u → Disked alone k u is w old new → Disked alone k v is w old new
disk_after disk law well r d = disked_then disk well (disked_quiet disk law r refl refl refl) d
