-- A machine stands while pages move.
use Rattle.std.proofs.Common.{◌≡◌, ◌∙◌, ◌≤◌, ◌↔◌, ℕ, zero, suc, if◌then◌else◌, Bool, true, false, List, [], ◌∷◌, length, ap, refl, sym, subst, arith}
use Rattle.core_covers.specs.Firsts.{first_of}
use Rattle.desk_parts.specs.core_calls.LogEvents.{behind}
use Rattle.desk_parts.specs.core_calls.Room.{free_list, frees_from}
use Rattle.desk_parts.specs.core_state.Needs.{holds_row}
use Rattle.desk_parts.specs.core_state.States.{State, flushed_by_all}
use Rattle.desk_parts.specs.Pages.{HasSlots}
use Rattle.desk_parts.specs.disk_slots.declared.master.Master.{Master}
use Rattle.desk_parts.specs.image_model.Entries.{Entry, is_record}
use Rattle.lean_disk.specs.Story.{Story}
use Rattle.desk_parts.specs.log_calls.Wholes.{EndsInRecord}
use Rattle.map_model.specs.Lists.{Has}
use Rattle.page_model.specs.Nodes.{Node}
use Rattle.desk_parts.specs.page_provider.Moves.{Moved}
use Rattle.desk_parts.specs.page_provider.Sequels.{EverySequel}
use Rattle.paged_rows.specs.Paged.{IsFedIfFaithful, IsPaged}
use Rattle.desk_parts.specs.row_words.declared.given.Given.{Given}
use Rattle.desk_parts.specs.row_words.Openings.{opening}
use Rattle.desk_parts.specs.rows_trait.declared.view.View.{View}
use Rattle.desk_parts.specs.rows_trait.Views.{Shape, state}
use Rattle.desk_parts.specs.session_desks.Desks.{desk_of, log_of}
use Rattle.desk_parts.specs.session_desks.Machines.{AreDesks, AreLogged, HasNumbers}
use Rattle.desk_parts.specs.session_desks.Parts.{IsSound, SeatFits, here, logs, shape}
use Rattle.desk_parts.specs.session_desks.Syncs.{HasOpening}
use Rattle.desk_parts.specs.session_desks.declared.desk.Desk.{Desk}
use Rattle.desk_parts.proofs.session_desks.NumberLemmas.{numbers_seen}
use Rattle.desk_parts.proofs.session_state.HoldLemmas.{rows_on}
use Rattle.desk_parts.specs.session_state.Holds.{Holds, IsOf}
use Rattle.desk_parts.specs.session_state.declared.session.Session.{Session}
use Rattle.desk_parts.specs.worker_log.Logs.{Log}
use Rattle.paged_desks.specs.Machines.{IsNobodyInside, IsReady, memory, pages, view_of}
use Rattle.paged_desks.specs.Inside.{IsBeside}
use Rattle.paged_desks.specs.declared.machine.PagedMachine.{PagedMachine}
use Rattle.paged_desks.proofs.Moments.{IsRest, rest_is}

-- ## Sessions

-- the free pages are the same where the same pages are free
pub frees_same : (a b : ℕ → Node) → ((p : ℕ) → (a p).live ≡ (b p).live) → (n p : ℕ) → frees_from a n p ≡ frees_from b n p
frees_same a b same zero p = refl
frees_same a b same (suc n) p = λ i. if same p i then frees_same a b same n (suc p) i else p ∷ frees_same a b same n (suc p) i

module _ (z : Shape) (v u : View) (given : u.given ≡ v.given) (idle : u.held ≡ []) (r : IsRest (state v).core (state u).core) where
  pub holds_on : (x : Session) (log : Log) → Holds z v x log → Holds z u x log
  holds_on x log h = record {
    alone = h.alone;
    idle = idle;
    rows = rows_on z v u x.own x.workers x.frames x.held.count given h.rows;
    session = subst (λ (t : State). IsOf x (t.worker x.own)) (sym r.is) h.session;
    first = ap (λ (t : State). first_of t x.own) r.is ∙ h.first;
    numbers = h.numbers;
    flushed = ap (λ (t : State). t.flushed x.own) r.is ∙ h.flushed;
    floor = subst (λ (q : Given × State). x.clock.floor ≤ flushed_by_all (opening q.0) q.1) (λ i. (sym given i, sym r.is i)) h.floor;
    behind = subst (λ (t : State). behind t x.own ≡ x.unflushed) (sym r.is) h.behind;
    held = subst (λ (t : State). (i : ℕ) → holds_row (t.row i) x.own ≡ true ↔ Has i x.held.rows) (sym r.is) h.held;
    within = h.within;
    fewer = h.fewer;
    none = h.none;
    free = subst (λ (q : Given × State). x.free ≡ free_list (opening q.0) q.1) (λ i. (sym given i, sym r.is i)) (h.free ∙ frees_same (λ p. ((state v).core.page p).node) (λ p. (r.page p).node) (λ p. sym (r.live p)) (opening v.given).format.pages 0);
    spare = h.spare;
  }

  pub desks_on : (work : Desk) (desks : List Desk) → AreDesks z v work desks → AreDesks z u work desks
  desks_on work desks are = record {
    count = are.count;
    each = λ w low high. let d = are.each w low high in record {
      own = d.own;
      workers = d.workers;
      group = d.group;
      frames = d.frames;
      count = d.count;
      works = d.works;
      holds = holds_on (record (desk_of work desks w).session { free = work.session.free }) (desk_of work desks w).log d.holds;
    };
  }

  pub logged_on : (log : ℕ → Log) (many : ℕ) → AreLogged (state v).core log many → AreLogged (state u).core log many
  logged_on log many are w low high = let l = are w low high in record {
    last = subst (λ (t : State). (e : Entry) → Has e t.entries → is_record e.kind ≡ true → e.log ≡ w → e.number ≤ (log w).last) (sym r.is) l.last;
    ends = subst (λ (t : State). EndsInRecord t w (log w)) (sym r.is) l.ends;
    flushed = ap (λ (t : State). t.flushed w) r.is ∙ l.flushed;
  }

  pub outside_on : IsNobodyInside (state v).core → IsNobodyInside (state u).core
  outside_on o = subst IsNobodyInside (sym r.is) o

-- ## Machines

-- who has the turn, and the desks, are as they were
pub here_is : {D : Type 0} {m n : PagedMachine D} → IsBeside m n → here n.machine ≡ here m.machine
here_is b = λ i. record { session = b.session i; log = b.log i }

pub desk_is : {D : Type 0} {m n : PagedMachine D} → IsBeside m n → (w : ℕ) → desk_of (here n.machine) n.machine.desks.items w ≡ desk_of (here m.machine) m.machine.desks.items w
desk_is b w = λ i. desk_of (here_is b i) (b.desks i).items w

pub logs_are : {D : Type 0} {m n : PagedMachine D} → IsBeside m n → logs n.machine ≡ logs m.machine
logs_are b = λ i. log_of (here_is b i) (b.desks i).items

module _ {D : Type 0} (story : D → Story) (m n : PagedMachine D) (seq : EverySequel) (ready : IsReady story m) (b : IsBeside m n) {most : ℕ} (moved : Moved most (shape m.machine) (view_of m) m.pager (view_of n) n.pager) where
  abbrev rest : IsRest (state (view_of m)).core (state (view_of n)).core
  rest = rest_is seq refl ready.keeps moved

  given : (view_of n).given ≡ (view_of m).given
  given = moved.goes.ran.given

  sound_on : SeatFits n.machine → IsSound n.machine
  sound_on fits = record {
    fits = fits;
    desks = subst (λ (q : Desk × List Desk). AreDesks (shape n.machine) (view_of n) q.0 q.1) (λ i. (sym (here_is b) i, (sym b.desks i).items))
        (desks_on (shape n.machine) (view_of m) (view_of n) given moved.goes.held rest (here m.machine) m.machine.desks.items (subst (λ (z : Shape). AreDesks z (view_of m) (here m.machine) m.machine.desks.items) (sym b.shape) ready.sound.desks));
    unmarked = subst (λ (q : List Bool × ℕ). q.0 ≡ Rattle.std.specs.Prelude.replicate q.1 false) (λ i. (sym b.latches i, (sym b.session i).held.count)) ready.sound.unmarked;
    numbers = subst (λ (q : Master × ℕ). HasNumbers q.0 (length (view_of n).seen) q.1) (λ i. (sym b.master i, (sym b.session i).workers))
        (numbers_seen m.machine.master (view_of m) (view_of n) moved.goes.ran.more m.machine.work.session.workers moved.goes.ran.seen ready.sound.numbers);
    floor = subst (λ (q : Master × State). q.0.floor ≤ q.1.floor) (λ i. (sym b.master i, sym rest.is i)) ready.sound.floor;
  }

  pub ready_on : SeatFits n.machine → IsPaged (pages n) → n.pager.broken ≡ false → IsFedIfFaithful (pages n) (story n.machine.work.disk) → HasSlots (memory n) n.pager → IsReady story n
  ready_on fits paged well fed slots = record {
    slots = slots;
    sound = sound_on fits;
    works = ap (λ (s : Session). s.works) b.session ∙ ready.works;
    logged = subst (λ (q : (ℕ → Log) × ℕ). AreLogged (state (view_of n)).core q.0 q.1) (λ i. (sym (logs_are b) i, (sym b.session i).workers))
        (logged_on (shape n.machine) (view_of m) (view_of n) given moved.goes.held rest (logs m.machine) m.machine.work.session.workers ready.logged);
    opens = subst HasOpening (sym given) ready.opens;
    keeps = paged.keeps;
    well = well;
    fed = fed;
    frames = let f = moved.same.frames in let k = ready.frames in omega arith;
    few = let f = moved.same.frames in let k = ready.few in omega arith;
    outside = outside_on (shape n.machine) (view_of m) (view_of n) given moved.goes.held rest ready.outside;
  }
