-- The parts of an engine behind a call of the session in the store.
use Rattle.std.proofs.Common.{◌≡◌, ◌⊎◌, inl, inr, ◌≤◌, ◌<◌, ℕ, Bool, true, false, List, length, replicate, refl, sym, ap, ◌∙◌, subst, arith}
use Rattle.std.proofs.lemmas.Bool.{cases_eq}
use Rattle.session_state.specs.disk_slots.declared.master.Master.{Master}
use Rattle.session_state.specs.rows_trait.Plain.{sizes}
use Rattle.session_state.specs.rows_trait.Rule.{IsPicture, plan}
use Rattle.session_state.specs.rows_trait.Views.{Shape}
use Rattle.session_state.specs.rows_trait.declared.view.View.{View}
use Rattle.session_state.specs.Holds.{Holds, IsSameSession}
use Rattle.session_state.specs.Opened.{plain_shape}
use Rattle.session_state.specs.Others.{EveryOther, Steps}
use Rattle.session_desks.specs.Desks.{desk_of}
use Rattle.session_desks.specs.Machines.{AreDesks, HasNumbers, IsDesk, IsMachine}
use Rattle.session_desks.specs.declared.desk.Desk.{Desk}
use Rattle.session_desks.proofs.DeskLemmas.{desk_own, desk_same, place_low}
use Rattle.session_desks.proofs.FloorLemmas.{steps_floor}
use Rattle.session_desks.proofs.NumberLemmas.{numbers_seen}
use Rattle.session_desks.proofs.SeatLemmas.{holds_of, turn_high, turn_low}

module _ (law : EveryOther) (z : Shape) (v w : View) (x y : Desk) (desks : List Desk) (are : AreDesks z v x desks) (works : y.session.works ≡ true) (same : IsSameSession x.session y.session) (steps : Steps x.session.own v w) (holds : Holds z w y.session y.log) where
  before : Holds z v x.session x.log
  before = holds_of z v x desks are

  frames_same : y.session.frames ≡ x.session.frames
  frames_same = sym holds.rows.tree.shape ∙ before.rows.tree.shape

  pub count_same : y.session.held.count ≡ x.session.held.count
  count_same = sym holds.rows.locks.spans.rows ∙ before.rows.locks.spans.rows

  high_old : (n : ℕ) → n ≤ y.session.workers → n ≤ x.session.workers
  high_old n high = subst (λ (k : ℕ). n ≤ k) same.1 high

  -- the session in the store
  of_own : IsDesk z w y.session y.session.own y
  of_own = record { own = refl; workers = refl; group = refl; frames = refl; count = refl; works = works; holds = holds }

  -- another one, with the free pages that are left
  of_other : (n : ℕ) → 0 < n → n ≤ x.session.workers → (n ≡ x.session.own → ⊥) → IsDesk z w y.session n (desk_of x desks n)
  of_other n low high other =
      let m = are.each n low high in
      record {
        own = m.own;
        workers = m.workers ∙ sym same.1;
        group = m.group ∙ sym same.2;
        frames = m.frames ∙ sym frames_same;
        count = m.count ∙ sym count_same;
        works = m.works;
        holds = law z v w (record (desk_of x desks n).session { free = x.session.free }) y.session (desk_of x desks n).log y.log m.holds holds
            (λ q. other (sym m.own ∙ (q ∙ same.0))) (m.workers ∙ sym same.1) (m.frames ∙ sym frames_same) (m.count ∙ sym count_same)
            (subst (λ (k : ℕ). Steps k v w) (sym same.0) steps);
      }

  pub desks_behind : AreDesks z w y desks
  desks_behind = record { count = are.count ∙ sym same.1; each = λ n low high. each n low (high_old n high) (cases_eq n x.session.own) }
    where
      each : (n : ℕ) → 0 < n → n ≤ x.session.workers → (n ≡ x.session.own) ⊎ (n ≡ x.session.own → ⊥) → IsDesk z w y.session n (desk_of y desks n)
      each n low high (inl e) = subst (λ (d : Desk). IsDesk z w y.session n d) (sym (desk_own y desks n (e ∙ sym same.0))) (subst (λ (k : ℕ). IsDesk z w y.session k y) (sym (e ∙ sym same.0)) of_own)
      each n low high (inr other) = subst (λ (d : Desk). IsDesk z w y.session n d) (sym (desk_same x y desks n same.0 other (place_low x.session.own n x.session.workers desks are.count (turn_low z v x desks are) (turn_high z v x desks are) low high other))) (of_other n low high other)

-- with the law of other sessions the parts belong together behind a call
pub machine_behind : EveryOther → (f l m f' l' m' : ℕ) (words words' : List ℕ) (v w : View) (x y : Desk) (desks : List Desk) (marks marks' : List Bool) (master : Master) → IsMachine f l m words v x desks marks master → plain_shape f' l' m' ≡ plain_shape f l m → IsPicture (plan (sizes f' l' m') w.given) words' w
    → y.session.works ≡ true → IsSameSession x.session y.session → Steps x.session.own v w → Holds (plain_shape f' l' m') w y.session y.log → marks' ≡ marks → IsMachine f' l' m' words' w y desks marks' master
machine_behind law f l m f' l' m' words words' v w x y desks marks marks' master was shape fits works same steps holds free =
    record {
      fits = fits;
      desks = desks_behind law (plain_shape f' l' m') v w x y desks are works same steps holds;
      unmarked = free ∙ (was.unmarked ∙ ap (λ (n : ℕ). replicate n false) (sym (count_same law (plain_shape f' l' m') v w x y desks are works same steps holds)));
      numbers = subst (HasNumbers master (length w.seen)) (sym same.1) (numbers_seen master v w steps.events x.session.workers steps.seen was.numbers);
      floor = let a = was.floor in let b = steps_floor x.session.own v w steps in omega arith;
    }
  where
    are : AreDesks (plain_shape f' l' m') v x desks
    are = subst (λ (s : Shape). AreDesks s v x desks) (sym shape) was.desks
