-- Why a RowSpent comes.
use Rattle.std.proofs.Common.{◌≡◌, ◌∙◌, ◌≤◌, ◌<◌, ◌⊎◌, ◌↔◌, inl, inr, ℕ, zero, suc, Bool, true, false, Option, Result, Ok, Err, IfErr, length, ap, refl, sym, subst, arith, true≢false}
use Rattle.std.proofs.lemmas.Bool.{cases_eq, cases_lt}
use Rattle.desk_parts.specs.page_provider.declared.refusal.Refusal.{Refusal}
use Rattle.desk_parts.specs.page_provider.declared.refusal.Refusal.TheVariants as refusal
use Rattle.desk_parts.specs.page_provider.Refusals.{Caused}
use Rattle.paged_rows.specs.Paged.{Paged}
use Rattle.paged_rows.specs.Warms.{IsRefusedTo}
use Rattle.paged_rows.specs.declared.wanted.Wanted.{Wanted}
use Rattle.desk_parts.specs.core_state.Openings.{Opening}
use Rattle.desk_parts.specs.core_state.States.{State}
use Rattle.desk_parts.specs.rows_trait.Causes.{EveryLow}
use Rattle.desk_parts.specs.rows_trait.declared.view.View.{View}
use Rattle.desk_parts.specs.rows_trait.Views.{AreLow}
use Rattle.desk_parts.specs.session_desks.Desks.{desk_of}
use Rattle.desk_parts.specs.session_desks.Machines.{AreDesks}
use Rattle.desk_parts.specs.session_desks.Parts.{MaySync, here, shape}
use Rattle.desk_parts.specs.session_desks.declared.desk.Desk.{Desk}
use Rattle.desk_parts.specs.session_state.Syncs.{EveryFlush, MayFlush, finds_room}
use Rattle.desk_parts.specs.session_state.declared.session.Session.{Session}
use Rattle.paged_desks.specs.Inside.{IsOfPage, LateCause, stopped_by}
use Rattle.paged_desks.specs.Machines.{view_of}
use Rattle.paged_desks.specs.Pages.{AreKept}
use Rattle.paged_desks.specs.Parts.{HasHalf, IsCramped, IsLate, IsLateOrStuckWhere, IsSpent}
use Rattle.paged_desks.specs.declared.machine.PagedMachine.{PagedMachine}
use Rattle.paged_desks.specs.declared.warming.Unwarmed.TheVariants as unwarmed

-- ## A row

late_row : EveryLow → (v u : View) (row : ℕ) → AreLow (length u.seen) u.steps → Caused v (refusal.RowSpent row) u → IsLate u
late_row low v u row lows (inl h) = let q = low (length u.seen) h.1.2.acts v.steps row h.1.0 (subst (AreLow (length u.seen)) h.1.2.steps lows) h.1.2.finds in let last = h.1.1 in inl (omega arith)
late_row low v u row lows (inr h) = inr h.1

pub late_err : EveryLow → (key : ℕ) (wanted : Wanted) (p q : Paged) → AreLow (length q.view.seen) q.view.steps → (r : Result (Option ℕ) Refusal) → IfErr r (λ why. IsRefusedTo key wanted p why q) → IfErr r (LateCause q.view)
late_err low key wanted p q lows (Ok x) e = tt
late_err low key wanted p q lows (Err (refusal.RowSpent row)) e = late_row low p.view q.view row lows e.refused.cause
late_err low key wanted p q lows (Err _) e = tt

pub late_of : (v : View) (why : Refusal) → IsOfPage why → stopped_by why ≡ unwarmed.RowSpent → LateCause v why → IsLate v
late_of v (refusal.RowSpent row) k e h = h
late_of v refusal.DiskFault k e h = cc
late_of v (refusal.Damaged page counts other) k e h = cc
late_of v (refusal.Altered page) k e h = cc
late_of v _ k e h = absurd k

-- ## An abort

-- if not each session may be flushed, one may not
module _ {D : Type 0} (m : PagedMachine D) (law : EveryFlush) (are : AreDesks (shape m.machine) (view_of m) (here m.machine) m.machine.desks.items) where
  abbrev desk : ℕ → Desk
  desk w = desk_of (here m.machine) m.machine.desks.items w

  look : (n : ℕ) → n ≤ m.machine.work.session.workers → ((w : ℕ) → 0 < w → w ≤ n → MayFlush (desk w).session (desk w).log) ⊎ IsCramped m
  look zero le = inl (λ w low high. absurd (omega arith))
  look (suc n) le = elim (look n (omega arith)) [ inl all ↦ go all (finds_room (desk (suc n)).session (desk (suc n)).log) refl | inr c ↦ inr c ]
    where
      decided : (finds_room (desk (suc n)).session (desk (suc n)).log ≡ true) ↔ MayFlush (desk (suc n)).session (desk (suc n)).log
      decided = law.decided (desk (suc n)).session (desk (suc n)).log

      more : ((w : ℕ) → 0 < w → w ≤ n → MayFlush (desk w).session (desk w).log) → MayFlush (desk (suc n)).session (desk (suc n)).log → (w : ℕ) → 0 < w → w ≤ suc n → MayFlush (desk w).session (desk w).log
      more all last w low high = elim (cases_eq w (suc n)) [ inl e ↦ subst (λ i. MayFlush (desk i).session (desk i).log) (sym e) last | inr other ↦ all w low (below w high other) ]
        where
          below : (w : ℕ) → w ≤ suc n → (w ≡ suc n → ⊥) → w ≤ n
          below w high other = elim (cases_lt n w) [ inl g ↦ absurd (other (omega arith)) | inr l ↦ l ]

      half : (b : Bool) → (desk (suc n)).session.is_half_aborted ≡ b → (MayFlush (desk (suc n)).session (desk (suc n)).log → ⊥) → (desk (suc n)).session.is_half_aborted ≡ true
      half true e no_room = e
      half false e no_room = absurd (no_room (law.whole (shape m.machine) (view_of m) (record (desk (suc n)).session { free = m.machine.work.session.free }) (desk (suc n)).log (are.each (suc n) (omega arith) le).holds e))

      go : ((w : ℕ) → 0 < w → w ≤ n → MayFlush (desk w).session (desk w).log) → (b : Bool) → finds_room (desk (suc n)).session (desk (suc n)).log ≡ b → ((w : ℕ) → 0 < w → w ≤ suc n → MayFlush (desk w).session (desk w).log) ⊎ IsCramped m
      go all true e = inl (more all (decided.0 e))
      go all false e =
          let no_room : MayFlush (desk (suc n)).session (desk (suc n)).log → ⊥ = λ may. true≢false (sym (decided.1 may) ∙ e) in
          inr (record { session = suc n; low = omega arith; high = le; half = half (desk (suc n)).session.is_half_aborted refl no_room; cramped = no_room })

  pub cramped_of : (MaySync m.machine → ⊥) → IsCramped m
  cramped_of not_all = elim (look m.machine.work.session.workers (omega arith)) [ inl all ↦ absurd (not_all all) | inr c ↦ c ]

-- and if each may, none is such
pub may_all : {D : Type 0} {m : PagedMachine D} → MaySync m.machine → IsCramped m → ⊥
may_all all c = c.cramped (all c.session c.low c.high)

pub half_in : {D : Type 0} {m : PagedMachine D} → IsCramped m → HasHalf m
half_in c = record { session = c.session; low = c.low; high = c.high; half = c.half }

-- it was so before what leaves aborts as they were
pub half_kept : {D : Type 0} {m n : PagedMachine D} → n.machine.work.session.workers ≡ m.machine.work.session.workers → AreKept m.machine n.machine → HasHalf n → HasHalf m
half_kept many kept h = let high = subst (λ k. h.session ≤ k) many h.high in record { session = h.session; low = h.low; high = high; half = sym (ap (λ (s : Session). s.is_half_aborted) (kept h.session h.low high).session) ∙ h.half }

pub spent_from : {D : Type 0} (P : Opening → State → Type 0) (m n : PagedMachine D) → (HasHalf n → HasHalf m) → IsLateOrStuckWhere P n → IsSpent m n
spent_from P m n f (inl l) = inl l
spent_from P m n f (inr h) = inr (f (half_in h.cramped))
