-- The parts of an engine belong together wherever the turn goes.
use Rattle.std.proofs.Common.{◌≡◌, inl, inr, ◌<◌, ◌≤◌, ◌-◌, ℕ, zero, suc, Bool, true, false, List, [], ◌∷◌, length, get_or, replicate, refl, sym, ap, ◌∙◌, subst, arith}
use Rattle.std.proofs.lemmas.Bool.{cases_lt}
use Rattle.session_state.specs.disk_slots.declared.master.Master.{Master}
use Rattle.session_state.specs.rows_trait.declared.view.View.{View}
use Rattle.session_state.specs.rows_trait.Views.{Shape}
use Rattle.session_state.specs.worker_log.Logs.{Log}
use Rattle.session_state.specs.Holds.{Holds}
use Rattle.session_state.specs.Opened.{plain_shape}
use Rattle.session_state.specs.declared.session.Session.{Session}
use Rattle.session_desks.specs.Desks.{AreSeated, Turned, desk_of, place_of}
use Rattle.session_desks.specs.Machines.{AreDesks, IsDesk, IsMachine}
use Rattle.session_desks.specs.declared.desk.Desk.{Desk}
use Rattle.session_desks.proofs.DeskLemmas.{desk_apart, desk_own, place_apart, place_first}

-- ## Who has the turn is one of the sessions

get_none : {A : Type 0} (xs : List A) (i : ℕ) (a : A) → length xs ≤ i → get_or xs i a ≡ a
get_none [] i a l = refl
get_none (x ∷ xs) zero a l = absurd (omega arith)
get_none (x ∷ xs) (suc i) a l = get_none xs i a (omega arith)

module _ (z : Shape) (v : View) (work : Desk) (desks : List Desk) (are : AreDesks z v work desks) where
  one : 1 ≤ work.session.workers
  one = let c = are.count in omega arith

  own_at : (w : ℕ) → 0 < w → w ≤ work.session.workers → (w ≡ work.session.own → ⊥) → (get_or desks (place_of work.session.own w) work).session.own ≡ w
  own_at w low high n = ap (λ (d : Desk). d.session.own) (sym (desk_apart work desks w n)) ∙ (are.each w low high).own

  pub turn_high : work.session.own ≤ work.session.workers
  turn_high = elim (cases_lt work.session.workers work.session.own) [
    | inr l ↦ l
    | inl l ↦ absurd (
        let c = are.count in let k = one in
        let r : work.session.own ≡ 1 = ap (λ (d : Desk). d.session.own) (sym (get_none desks (work.session.own - 2) work (omega arith))) ∙ (ap (λ (k : ℕ). (get_or desks k work).session.own) (sym (place_first work.session.own 1 refl)) ∙ own_at 1 (omega arith) k (λ e. absurd (omega arith))) in
        omega arith)
  ]

  pub turn_low : 0 < work.session.own
  turn_low = elim (cases_lt 0 work.session.own) [
    | inl l ↦ l
    | inr l ↦ elim (cases_lt 1 work.session.workers) [
      | inl many ↦ absurd (
          let a : (get_or desks 0 work).session.own ≡ 1 = ap (λ (k : ℕ). (get_or desks k work).session.own) (sym (place_first work.session.own 1 refl ∙ nothing l)) ∙ own_at 1 (omega arith) one (λ e. absurd (omega arith)) in
          let b : (get_or desks 0 work).session.own ≡ 2 = ap (λ (k : ℕ). (get_or desks k work).session.own) (sym (place_apart work.session.own 2 (λ e. absurd (omega arith)))) ∙ own_at 2 (omega arith) many (λ e. absurd (omega arith)) in
          omega arith)
      | inr few ↦ absurd (
          let c = are.count in
          let r : work.session.own ≡ 1 = ap (λ (d : Desk). d.session.own) (sym (get_none desks (place_of work.session.own 1) work (omega arith))) ∙ own_at 1 (omega arith) one (λ e. absurd (omega arith)) in
          omega arith)
    ]
  ]
    where
      nothing : work.session.own ≤ 0 → work.session.own - 2 ≡ 0
      nothing l = omega arith

  -- each has a desk
  pub seated_of : AreSeated work desks
  seated_of = record {
    count = are.count;
    low = turn_low;
    high = turn_high;
    own = λ w low high. (are.each w low high).own;
    workers = λ w low high. (are.each w low high).workers;
  }

  -- the one in the store is as between two calls
  pub turn_is : IsDesk z v work.session work.session.own work
  turn_is = subst (λ (d : Desk). IsDesk z v work.session work.session.own d) (desk_own work desks work.session.own refl) (are.each work.session.own turn_low turn_high)

  pub holds_of : Holds z v work.session work.log
  holds_of = turn_is.holds

-- ## The turn goes

module _ (z : Shape) (v : View) (session : ℕ) (old new : Desk) (desks_old desks_new : List Desk) (are : AreDesks z v old desks_old) (some : 0 < session) (most : session ≤ old.session.workers) (t : Turned session old new desks_old desks_new) where
  high_new : (w : ℕ) → w ≤ new.session.workers → w ≤ old.session.workers
  high_new w high = subst (λ (n : ℕ). w ≤ n) t.workers high

  come : new.session ≡ record (desk_of old desks_old session).session { free = new.session.free }
  come = subst (λ (d : Desk). d.session ≡ record (desk_of old desks_old session).session { free = d.session.free }) (desk_own new desks_new session (sym t.own)) (t.session_of session some most)

  pub turned_group : new.session.group ≡ old.session.group
  turned_group = ap (λ (s : Session). s.group) come ∙ (are.each session some most).group

  pub turned_frames : new.session.frames ≡ old.session.frames
  turned_frames = ap (λ (s : Session). s.frames) come ∙ (are.each session some most).frames

  pub turned_count : new.session.held.count ≡ old.session.held.count
  turned_count = ap (λ (s : Session). s.held.count) come ∙ (are.each session some most).count

  pub turned_works : new.session.works ≡ true
  turned_works = ap (λ (s : Session). s.works) come ∙ (are.each session some most).works

  each_turned : (w : ℕ) → 0 < w → w ≤ old.session.workers → IsDesk z v new.session w (desk_of new desks_new w)
  each_turned w low high =
      let e = t.session_of w low high in
      let m = are.each w low high in
      record {
        own = ap (λ (s : Session). s.own) e ∙ m.own;
        workers = ap (λ (s : Session). s.workers) e ∙ (m.workers ∙ sym t.workers);
        group = ap (λ (s : Session). s.group) e ∙ (m.group ∙ sym turned_group);
        frames = ap (λ (s : Session). s.frames) e ∙ (m.frames ∙ sym turned_frames);
        count = ap (λ (s : Session). s.held.count) e ∙ (m.count ∙ sym turned_count);
        works = ap (λ (s : Session). s.works) e ∙ m.works;
        holds = subst (λ (l : Log). Holds z v (record (desk_of new desks_new w).session { free = new.session.free }) l) (sym (t.log_of w low high))
            (subst (λ (s : Session). Holds z v s (desk_of old desks_old w).log) (sym (ap (λ (s : Session). record s { free = new.session.free }) e))
            (subst (λ (f : List ℕ). Holds z v (record (desk_of old desks_old w).session { free = f }) (desk_of old desks_old w).log) (sym t.free) m.holds));
      }

  pub desks_turned : AreDesks z v new desks_new
  desks_turned = record { count = ap suc t.count ∙ (are.count ∙ sym t.workers); each = λ w low high. each_turned w low (high_new w high) }

pub machine_turned : (frames locks workers : ℕ) (words : List ℕ) (v : View) (session : ℕ) (old new : Desk) (desks_old desks_new : List Desk) (marks : List Bool) (master : Master) → 0 < session → session ≤ old.session.workers → IsMachine frames locks workers words v old desks_old marks master
    → Turned session old new desks_old desks_new → IsMachine frames locks workers words v new desks_new marks master
machine_turned frames locks workers words v session old new desks_old desks_new marks master some most m t = record {
  fits = m.fits;
  desks = desks_turned (plain_shape frames locks workers) v session old new desks_old desks_new m.desks some most t;
  unmarked = m.unmarked ∙ ap (λ (n : ℕ). replicate n false) (sym (turned_count (plain_shape frames locks workers) v session old new desks_old desks_new m.desks some most t));
  numbers = record { sequence = m.numbers.sequence; heads = m.numbers.heads ∙ sym t.workers };
  floor = m.floor;
}
