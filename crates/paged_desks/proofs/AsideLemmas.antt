-- A machine of which the session in the store has worked on, with its log and its disk.
use Rattle.std.proofs.Common.{◌≡◌, ◌∙◌, ◌≤◌, ◌<◌, ◌^◌, ◌⊎◌, inl, inr, ℕ, suc, true, IsTrue, List, length, Global, Vec, ap, sym, subst, arith}
use Rattle.std.proofs.lemmas.Bool.{cases_eq}
use Rattle.desk_parts.specs.disk_slots.declared.master.Master.{Master}
use Rattle.lean_disk.specs.Area.{Area}
use Rattle.lean_disk.specs.Moments.{Framed}
use Rattle.desk_parts.specs.page_calls.Mirrors.{HoldsLast}
use Rattle.desk_parts.specs.page_provider.Mirrored.{IsMirrored}
use Rattle.desk_parts.specs.page_provider.Providers.{Keeps}
use Rattle.desk_parts.specs.page_store.Saved.{Reaches}
use Rattle.desk_parts.specs.row_words.declared.given.Given.{Given}
use Rattle.desk_parts.specs.rows_trait.Views.{Shape, state}
use Rattle.desk_parts.proofs.session_desks.MachineLemmas.{machine_behind}
use Rattle.desk_parts.specs.session_desks.Machines.{IsMachine}
use Rattle.desk_parts.specs.session_desks.Parts.{HasLogs, IsSound, SeatFits}
use Rattle.desk_parts.specs.session_desks.Syncs.{HasOpening}
use Rattle.desk_parts.specs.session_state.Holds.{Holds}
use Rattle.desk_parts.specs.session_state.Others.{EveryOther, Steps}
use Rattle.paged_desks.proofs.StandLemmas.{IsBusy, keeps_on, mirrored_on, outside_on}
use Rattle.lean_disk.specs.Story.{Story, Tells}
use Rattle.map_model.proofs.ListLemmas.{upd_other, upd_same}
use Rattle.map_model.specs.Lists.{upd}
use Rattle.desk_parts.specs.page_provider.Providers.{Provider}
use Rattle.desk_parts.proofs.session_desks.DeskLemmas.{desk_own, desk_same, place_low}
use Rattle.desk_parts.proofs.session_desks.SeatLemmas.{turn_high, turn_low}
use Rattle.desk_parts.specs.session_desks.Desks.{desk_of}
use Rattle.desk_parts.specs.session_desks.Parts.{here, shape}
use Rattle.desk_parts.specs.session_desks.declared.desk.Desk.{Desk}
use Rattle.desk_parts.specs.session_state.Holds.{IsSameSession}
use Rattle.desk_parts.specs.call_parts.Memory.{IsSame, with_own}
use Rattle.paged_desks.specs.Machines.{IsReady, memory, view_of}
use Rattle.paged_desks.specs.declared.machine.PagedMachine.{PagedMachine}
use Rattle.paged_desks.specs.Calls.{IsAside}

-- beside the session in the store
module _ {D : Type 0} (story : D → Story) (m n : PagedMachine D) (a : IsAside m n) (same : IsSameSession m.machine.work.session n.machine.work.session) (ready : IsReady story m) where
  abbrev own : ℕ
  own = m.machine.work.session.own

  items : n.machine.desks.items ≡ m.machine.desks.items
  items = ap (λ (d : Vec Desk Global). d.items) a.desks

  low : 0 < own
  low = turn_low (shape m.machine) (view_of m) (here m.machine) m.machine.desks.items ready.sound.desks

  high : own ≤ m.machine.work.session.workers
  high = turn_high (shape m.machine) (view_of m) (here m.machine) m.machine.desks.items ready.sound.desks

  -- its own desk
  pub own_desk : desk_of (here n.machine) n.machine.desks.items own ≡ here n.machine
  own_desk = desk_own (here n.machine) n.machine.desks.items own (sym same.0)

  -- and the others
  pub other_desk : (k : ℕ) → 0 < k → k ≤ m.machine.work.session.workers → (k ≡ own → ⊥) → desk_of (here n.machine) n.machine.desks.items k ≡ desk_of (here m.machine) m.machine.desks.items k
  other_desk k lo hi other = (λ i. desk_of (here n.machine) (items i) k)
      ∙ desk_same (here m.machine) (here n.machine) m.machine.desks.items k same.0 other (place_low own k m.machine.work.session.workers m.machine.desks.items ready.sound.desks.count low high lo hi other)

  -- what is in memory of the disk, but for its log
  pub memory_aside : IsSame m.machine.work.session.workers (with_own own n.machine.work.log (memory m)) (memory n)
  memory_aside = record { log = λ k lo hi. go k lo hi (cases_eq k own); master = a.master; slots = ap (λ (p : Provider). p.slots) a.pager }
    where
      go : (k : ℕ) → 0 < k → k ≤ m.machine.work.session.workers → (k ≡ own) ⊎ (k ≡ own → ⊥) → (memory n).log k ≡ upd (memory m).log own n.machine.work.log k
      go k lo hi (inl e) = ap (λ (q : ℕ). (memory n).log q) e ∙ (ap (λ (d : Desk). d.log) own_desk ∙ sym (upd_same (memory m).log own n.machine.work.log k e))
      go k lo hi (inr other) = ap (λ (d : Desk). d.log) (other_desk k lo hi other) ∙ sym (upd_other (memory m).log own n.machine.work.log k other)

  -- the same aborts are half done
  pub halves_aside : n.machine.work.session.is_half_aborted ≡ m.machine.work.session.is_half_aborted → (k : ℕ) → 0 < k → k ≤ m.machine.work.session.workers
      → (desk_of (here n.machine) n.machine.desks.items k).session.is_half_aborted ≡ (desk_of (here m.machine) m.machine.desks.items k).session.is_half_aborted
  halves_aside half k lo hi = go (cases_eq k own)
    where
      go : (k ≡ own) ⊎ (k ≡ own → ⊥) → (desk_of (here n.machine) n.machine.desks.items k).session.is_half_aborted ≡ (desk_of (here m.machine) m.machine.desks.items k).session.is_half_aborted
      go (inl e) = ap (λ (q : ℕ). (desk_of (here n.machine) n.machine.desks.items q).session.is_half_aborted) e ∙ (ap (λ (d : Desk). d.session.is_half_aborted) own_desk ∙ (half ∙ sym (ap (λ (d : Desk). d.session.is_half_aborted) (desk_own (here m.machine) m.machine.desks.items k e))))
      go (inr other) = ap (λ (d : Desk). d.session.is_half_aborted) (other_desk k lo hi other)

  -- It stands, where the session's work has moved no page, and the area of its log alone was written.
  module _ (law : EveryOther) (given : (view_of n).given ≡ (view_of m).given) (busy : IsBusy (state (view_of m)).core (state (view_of n)).core) (steps : Steps own (view_of m) (view_of n)) (framed : Framed (suc own) (story m.machine.work.disk) (story n.machine.work.disk)) (fits : SeatFits n.machine)
      (works : n.machine.work.session.works ≡ true) (holds : Holds (shape n.machine) (view_of n) n.machine.work.session n.machine.work.log) (logged : HasLogs n.machine) where
    alone : (shape m.machine).alone ≡ true
    alone = subst (λ (z : Shape). z.alone ≡ true) a.shape holds.alone

    sound : IsSound n.machine
    sound = subst (λ (k : Master). IsMachine n.machine.rows.frames n.machine.rows.locks n.machine.rows.workers n.machine.rows.words.items n.machine.seat.view (here n.machine) n.machine.desks.items n.machine.latches k) (sym a.master)
        (subst (λ (ds : List Desk). IsMachine n.machine.rows.frames n.machine.rows.locks n.machine.rows.workers n.machine.rows.words.items n.machine.seat.view (here n.machine) ds n.machine.latches m.machine.master) (sym items)
        (machine_behind law m.machine.rows.frames m.machine.rows.locks m.machine.rows.workers n.machine.rows.frames n.machine.rows.locks n.machine.rows.workers m.machine.rows.words.items n.machine.rows.words.items m.machine.seat.view n.machine.seat.view (here m.machine) (here n.machine) m.machine.desks.items
        m.machine.latches n.machine.latches m.machine.master ready.sound a.shape fits works same steps holds a.latches))

    pages_same : (story n.machine.work.disk).area 1 ≡ (story m.machine.work.disk).area 1
    pages_same = framed.elsewhere 1 (λ e. absurd (let q = low in omega arith))

    pub ready_aside : IsReady story n
    ready_aside = record {
      sound = sound;
      works = works;
      logged = logged;
      opens = subst HasOpening (sym given) ready.opens;
      keeps = subst (λ (q : Shape × Provider). Keeps q.0 (view_of n) q.1) (λ i. (sym a.shape i, sym a.pager i)) (keeps_on (shape m.machine) (view_of m) (view_of n) given alone busy m.pager ready.keeps);
      well = ap (λ (k : Provider). k.broken) a.pager ∙ ready.well;
      fed = λ faithful. let f = ready.fed (ap (λ (q : Given). q.faithful) (sym given) ∙ faithful) in record {
        tells = subst (λ b. IsTrue b) (sym (framed.tells 1)) f.tells;
        mirrored = subst (λ (q : Provider). IsMirrored (view_of n) q (story n.machine.work.disk)) (sym a.pager) (mirrored_by (mirrored_on (shape m.machine) (view_of m) (view_of n) given alone busy m.pager (story m.machine.work.disk) f.mirrored));
      };
      slots = let h = ready.slots in record {
        slots = ap (λ (q : Provider). q.slots) a.pager ∙ (h.slots ∙ ap (λ (q : Provider). q.slots) (sym a.pager));
        generation = ap (λ (k : Master). k.generation) a.master ∙ (h.generation ∙ ap (λ (q : Provider). q.generation) (sym a.pager));
        count = ap (λ (q : Provider). length q.slots) a.pager ∙ (h.count ∙ ap (λ (k : Master). k.pages) (sym a.master));
      };
      frames = subst (λ (k : Provider). 32 ≤ k.frames) (sym a.pager) ready.frames;
      few = subst (λ (k : Provider). k.frames ≤ 2 ^ 16) (sym a.pager) ready.few;
      outside = outside_on (shape m.machine) (view_of m) (view_of n) given alone busy ready.outside;
    }
      where
        told_of : Tells (story n.machine.work.disk) 1 → Tells (story m.machine.work.disk) 1
        told_of = subst (λ b. IsTrue b) (framed.tells 1)

        mirrored_by : IsMirrored (view_of n) m.pager (story m.machine.work.disk) → IsMirrored (view_of n) m.pager (story n.machine.work.disk)
        mirrored_by h = record {
          mirrors = λ tells p lt y holds. h.mirrors (told_of tells) p lt y (subst (λ (q : Area). HoldsLast m.pager.slots m.pager.generation p q.bytes y) pages_same holds);
          spans = λ tells. subst (λ (q : Area). Reaches (length m.pager.slots) q.bytes) (sym pages_same) (h.spans (told_of tells));
        }
