-- Refusals, and what they leave of a machine.
use Rattle.std.proofs.Common.{◌≡◌, ◌∙◌, ◌<◌, ◌≤◌, ◌⊎◌, ◌||◌, inl, inr, ℕ, zero, suc, Bool, true, false, Option, Result, Err, List, [], ◌∷◌, length, get_or, ap, refl, sym, arith, true≢false}
use Rattle.std.proofs.lemmas.Bool.{cases_eq}
use Rattle.map_model.specs.Lists.{any}
use Rattle.desk_parts.specs.page_provider.declared.refusal.Refusal.{Refusal}
use Rattle.desk_parts.specs.page_provider.declared.refusal.Refusal.TheVariants as refusal
use Rattle.desk_parts.specs.page_provider.Refusals.{breaks}
use Rattle.paged_rows.specs.Paged.{IsPaged, Paged}
use Rattle.paged_rows.specs.Warms.{CrowdedCause, IsCrowded, IsRefusedTo, KeepsRest, RestCause}
use Rattle.paged_rows.specs.declared.wanted.Wanted.{Wanted}
use Rattle.desk_parts.specs.rows_trait.declared.view.View.{View}
use Rattle.desk_parts.specs.rows_trait.Views.{Shape}
use Rattle.desk_parts.specs.session_desks.Desks.{desk_of, place_of}
use Rattle.desk_parts.specs.session_desks.Machines.{AreDesks}
use Rattle.desk_parts.specs.session_desks.Syncs.{AreWhole, has_half, is_half_desk}
use Rattle.desk_parts.specs.session_desks.declared.desk.Desk.{Desk}
use Rattle.desk_parts.proofs.session_desks.DeskLemmas.{desk_apart, desk_own, place_low}
use Rattle.desk_parts.proofs.session_desks.SeatLemmas.{turn_high, turn_low}
use Rattle.paged_desks.specs.Machines.{pages}
use Rattle.paged_desks.specs.Pages.{goes_on}
use Rattle.paged_desks.specs.declared.machine.PagedMachine.{PagedMachine}
use Rattle.paged_desks.specs.declared.warming.Unwarmed.TheVariants as unwarmed
use Rattle.lean_disk.specs.Faults.{HasCause}
use Rattle.paged_desks.specs.Inside.{IsOfPage, IsTooFull, is_full, stopped_by}
use Rattle.paged_desks.specs.declared.warming.Unwarmed.{Unwarmed}

-- ## Refusals

-- where nobody else steps and the pager was not broken, a row, the device or the page is why, unless no frame could be given
pub of_page : (key : ℕ) (wanted : Wanted) (p q : Paged) (why : Refusal) → IsPaged p → p.pager.broken ≡ false → is_full why ≡ false → IsRefusedTo key wanted p why q → IsOfPage why
of_page key wanted p q (refusal.Moved m) i well full e = e.refused.quiet i.alone tt
of_page key wanted p q (refusal.Latched l) i well full e = e.refused.quiet i.alone tt
of_page key wanted p q (refusal.PoolFull on latched above held) i well full e = true≢false full
of_page key wanted p q refusal.NoPages i well full e = e.crowded
of_page key wanted p q (refusal.Damaged page counts other) i well full e = tt
of_page key wanted p q (refusal.Altered page) i well full e = tt
of_page key wanted p q refusal.DiskFault i well full e = tt
of_page key wanted p q (refusal.RowSpent row) i well full e = tt
of_page key wanted p q refusal.Broken i well full e = true≢false (sym (e.refused.earlier refl) ∙ well)

-- no frame could be given to what was wanted
pub too_full : {D : Type 0} (key : ℕ) (wanted : Wanted) (m : PagedMachine D) (why : Refusal) → is_full why ≡ true → CrowdedCause key wanted why (pages m) → IsTooFull key wanted m
too_full key wanted m (refusal.PoolFull on latched above held) full c = record { on = on; above = above; held = held; crowded = c }
too_full key wanted m _ full c = absurd (true≢false (sym full))

-- and what is known of the other pages then
pub full_rest : (wanted : Wanted) (p q : Paged) (why : Refusal) → is_full why ≡ true → RestCause wanted p why q → KeepsRest wanted p q
full_rest wanted p q (refusal.PoolFull on latched above held) full k = k
full_rest wanted p q _ full k = absurd (true≢false (sym full))

pub full_calm : (why : Refusal) → is_full why ≡ true → breaks why ≡ false
full_calm (refusal.PoolFull on latched above held) full = refl
full_calm _ full = absurd (true≢false (sym full))

-- unless that never is so
pub not_full : (key : ℕ) (wanted : Wanted) (q : Paged) (why : Refusal) → ((on above held : ℕ) → IsCrowded key wanted on above held q → ⊥) → CrowdedCause key wanted why q → is_full why ≡ false
not_full key wanted q (refusal.PoolFull on latched above held) never c = absurd (never on above held c)
not_full key wanted q _ never c = refl

-- whether the machine works on
pub broken_is : (key : ℕ) (wanted : Wanted) (p q : Paged) (why : Refusal) → p.pager.broken ≡ false → IsRefusedTo key wanted p why q → q.pager.broken ≡ breaks why
broken_is key wanted p q why well e = e.refused.broken ∙ ap (λ b. b || breaks why) well

pub stop_works : (A : Type 0) (why : Refusal) (u : Unwarmed) (broken works then : Bool) → u ≡ stopped_by why → IsOfPage why → broken ≡ breaks why → works ≡ true → (broken ≡ false → then ≡ works) → (broken ≡ true → then ≡ false) → then ≡ goes_on {A = A} (Err u)
stop_works A (refusal.RowSpent row) u broken works then e k b w on off = on b ∙ (w ∙ ap (λ x. goes_on {A = A} (Err x)) (sym e))
stop_works A refusal.DiskFault u broken works then e k b w on off = off b ∙ ap (λ x. goes_on {A = A} (Err x)) (sym e)
stop_works A (refusal.Damaged page counts other) u broken works then e k b w on off = off b ∙ ap (λ x. goes_on {A = A} (Err x)) (sym e)
stop_works A (refusal.Altered page) u broken works then e k b w on off = off b ∙ ap (λ x. goes_on {A = A} (Err x)) (sym e)
stop_works A _ u broken works then e k b w on off = absurd k

pub going : (A : Type 0) (why : Refusal) (u : Unwarmed) → u ≡ stopped_by why → IsOfPage why → goes_on {A = A} (Err u) ≡ true → breaks why ≡ false
going A (refusal.RowSpent row) u e k g = refl
going A refusal.DiskFault u e k g = absurd (true≢false (sym g ∙ ap (λ x. goes_on {A = A} (Err x)) e))
going A (refusal.Damaged page counts other) u e k g = absurd (true≢false (sym g ∙ ap (λ x. goes_on {A = A} (Err x)) e))
going A (refusal.Altered page) u e k g = absurd (true≢false (sym g ∙ ap (λ x. goes_on {A = A} (Err x)) e))
going A _ u e k g = absurd k

-- the device failed just where that is said
fault_is : (why : Refusal) → IsOfPage why → stopped_by why ≡ unwarmed.DiskFault → why ≡ refusal.DiskFault
fault_is refusal.DiskFault k e = refl
fault_is (refusal.RowSpent row) k e = cc
fault_is (refusal.Damaged page counts other) k e = cc
fault_is (refusal.Altered page) k e = cc
fault_is _ k e = absurd k

-- as a call answers it
abbrev pub refusing : Unwarmed → Result (Option ℕ) Unwarmed
refusing u = Err u

pub err_same : {A E : Type 0} (r q : Result A E) (a b : E) → r ≡ Err a → q ≡ Err b → r ≡ q → a ≡ b
err_same r q a b x y e = cc

-- as warm answers it
abbrev pub unwarmed_by : Unwarmed → Result (Unit {0}) Unwarmed
unwarmed_by u = Err u

-- as frame_for and beside do
abbrev pub frameless_by : Unwarmed → Result ℕ Unwarmed
frameless_by u = Err u

pub frame_same : (a b : Unwarmed) → frameless_by a ≡ frameless_by b → a ≡ b
frame_same a b e = err_same (frameless_by a) (frameless_by b) a b refl refl e

pub warm_same : (a b : Unwarmed) → unwarmed_by a ≡ unwarmed_by b → a ≡ b
warm_same a b e = err_same (unwarmed_by a) (unwarmed_by b) a b refl refl e

pub stop_cause : (a b : ℕ) (r : Result (Option ℕ) Refusal) (why : Refusal) (u : Unwarmed) → r ≡ Err why → u ≡ stopped_by why → IsOfPage why → HasCause a b (r ≡ Err refusal.DiskFault) → HasCause a b (refusing u ≡ refusing unwarmed.DiskFault)
stop_cause a b r why u is by k c = record {
  later = c.later;
  cause = λ e. c.cause (let f = fault_is why k (sym by ∙ err_same (refusing u) (refusing unwarmed.DiskFault) u unwarmed.DiskFault refl refl e) in cc);
  calm = λ none. c.calm (λ e. none (ap refusing (by ∙ ap stopped_by (err_same r r why refusal.DiskFault is e refl))));
}

-- ## Aborts

unfound : (desks : List Desk) → any is_half_desk desks ≡ false → (i : ℕ) (x : Desk) → i < length desks → (get_or desks i x).session.is_half_aborted ≡ false
unfound [] h i x lt = absurd (omega arith)
unfound (d ∷ ds) h zero x lt = go d.session.is_half_aborted h
  where
    go : (b : Bool) → (b || any is_half_desk ds) ≡ false → b ≡ false
    go true k = absurd (true≢false k)
    go false k = refl
unfound (d ∷ ds) h (suc i) x lt = unfound ds (go d.session.is_half_aborted h) i x (omega arith)
  where
    go : (b : Bool) → (b || any is_half_desk ds) ≡ false → any is_half_desk ds ≡ false
    go true k = absurd (true≢false k)
    go false k = k

module _ (z : Shape) (v : View) (work : Desk) (desks : List Desk) (are : AreDesks z v work desks) where
  place : (w : ℕ) → 0 < w → w ≤ work.session.workers → (w ≡ work.session.own → ⊥) → place_of work.session.own w < length desks
  place w low high other = place_low work.session.own w work.session.workers desks are.count (turn_low z v work desks are) (turn_high z v work desks are) low high other

  -- none is half done
  pub whole : has_half work desks ≡ false → AreWhole work.session.workers work desks
  whole h w low high = at (cases_eq w work.session.own) work.session.is_half_aborted refl h
    where
      at : (w ≡ work.session.own) ⊎ (w ≡ work.session.own → ⊥) → (b : Bool) → work.session.is_half_aborted ≡ b → (b || any is_half_desk desks) ≡ false → (desk_of work desks w).session.is_half_aborted ≡ false
      at (inl e) true q k = absurd (true≢false k)
      at (inl e) false q k = ap (λ (d : Desk). d.session.is_half_aborted) (desk_own work desks w e) ∙ q
      at (inr n) true q k = absurd (true≢false k)
      at (inr n) false q k = ap (λ (d : Desk). d.session.is_half_aborted) (desk_apart work desks w n) ∙ unfound desks k (place_of work.session.own w) work (place w low high n)
