-- The desks of a machine as it is opened.
use Rattle.std.proofs.Common.{◌≡◌, ◌≤◌, ◌<◌, ◌-◌, ◌==◌, ℕ, Bool, List, get_or, cond, refl, sym, subst, inl, inr, arith}
use Rattle.std.proofs.lemmas.Bool.{cases_eq, ne_eqb}
use Rattle.std.proofs.lemmas.Option.{slice_get-get_or}
use Rattle.paged_desks.specs.disk_slots.declared.master.Master.{Master}
use Rattle.paged_desks.specs.session_state.declared.session.Session.{Session}
use Rattle.paged_desks.specs.worker_log.Logs.{Log}
use Rattle.paged_desks.specs.session_desks.Desks.{desk_of, place_of}
use Rattle.paged_engine.specs.Openings.{AreFurther, IsFurther}
use Rattle.paged_desks.specs.session_desks.declared.desk.Desk.{Desk}

module _ (n : Master) (x : Session) (own : x.own ≡ 1) (log : Log) (desks : List Desk) (further : AreFurther n x desks) where
  abbrev first : Desk
  first = record { session = x; log = log }

  -- session 1 has the turn
  at_first : desk_of first desks 1 ≡ first
  at_first = subst (λ (o : ℕ). cond (1 == o) first (get_or desks (place_of o 1) first) ≡ first) (sym own) refl

  at_further : (w : ℕ) → (w ≡ 1 → ⊥) → desk_of first desks w ≡ get_or desks (w - 2) first
  at_further w not = subst (λ (o : ℕ). cond (w == o) first (get_or desks (place_of o w) first) ≡ get_or desks (w - 2) first) (sym own)
      (subst (λ (b : Bool). cond b first (get_or desks (cond b 1 w - 2) first) ≡ get_or desks (w - 2) first) (sym (ne_eqb w 1 not)) refl)

  further_is : (w : ℕ) → 1 < w → w ≤ x.workers → IsFurther n x w (get_or desks (w - 2) first)
  further_is w low high = let c = further.count in
      subst (λ (v : ℕ). IsFurther n x v (get_or desks (w - 2) first)) (omega arith) (further.each (w - 2) (get_or desks (w - 2) first) (slice_get-get_or desks (w - 2) first (omega arith)))

  -- what holds of the first session's desk and of each further one's, holds of each
  pub at_each : (P : ℕ → Desk → Type 0) → P 1 first → ((w : ℕ) (d : Desk) → IsFurther n x w d → 0 < w → w ≤ x.workers → P w d) → (w : ℕ) → 0 < w → w ≤ x.workers → P w (desk_of first desks w)
  at_each P one more w low high = elim (cases_eq w 1) [
    | inl e ↦ subst (λ (v : ℕ). P v (desk_of first desks v)) (sym e) (subst (P 1) (sym at_first) one)
    | inr not ↦ subst (P w) (sym (at_further w not)) (more w (get_or desks (w - 2) first) (further_is w (omega arith) high) low high)
  ]
