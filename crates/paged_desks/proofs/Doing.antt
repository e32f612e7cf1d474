-- What was done, as a part of a call of an engine, and one part behind another.
use Rattle.std.proofs.Common.{◌≡◌, ◌∙◌, ◌≤◌, ◌+◌, ◌*◌, ◌^◌, ◌||◌, ℕ, suc, false, List, [], ◌∷◌, length, refl, sym, subst, arith}
use Rattle.std.proofs.Math.Nat.{mul-le-mul_right}
use Rattle.desk_parts.proofs.call_parts.JoinLemmas.{every_join}
use Rattle.desk_parts.proofs.call_parts.StepLemmas.{every_step}
use Rattle.desk_parts.specs.call_parts.Areas.{is_save}
use Rattle.desk_parts.specs.call_parts.Memory.{Memory, with_slots}
use Rattle.desk_parts.specs.call_parts.Parts.{Part}
use Rattle.desk_parts.specs.core_disk.Versions.{EveryVersion}
use Rattle.desk_parts.specs.core_state.Events as happening
use Rattle.desk_parts.specs.core_state.Openings.{Opening}
use Rattle.desk_parts.specs.core_state.States.{State}
use Rattle.desk_parts.specs.Laws.{EveryPagePart, PageLaws}
use Rattle.desk_parts.specs.Pages.{HasSlots}
use Rattle.desk_parts.specs.disk_image.Laws.{EverySealed}
use Rattle.desk_parts.proofs.engine_calls.MoveLemmas.{every_move}
use Rattle.lean_disk.specs.Story.{IsLawful, Story}
use Rattle.map_model.specs.Lists.{any}
use Rattle.page_pool.specs.Counts.{EveryFrame}
use Rattle.desk_parts.specs.page_provider.Amounts.{EveryFew}
use Rattle.desk_parts.specs.page_provider.Disks.{saves_page}
use Rattle.desk_parts.specs.page_provider.Moves.{Moved}
use Rattle.desk_parts.specs.page_provider.Providers.{pool}
use Rattle.desk_parts.specs.page_provider.Sequels.{EverySequel}
use Rattle.paged_rows.specs.declared.wanted.Wanted.{Wanted}
use Rattle.desk_parts.specs.row_opening.Openings.{EveryNeed, EveryReached}
use Rattle.desk_parts.specs.row_words.Moments.{events_of}
use Rattle.desk_parts.specs.row_words.Openings.{opening}
use Rattle.desk_parts.specs.rows_trait.Views.{state}
use Rattle.desk_parts.specs.session_desks.Parts.{here, shape}
use Rattle.desk_parts.proofs.session_desks.SeatLemmas.{holds_of}
use Rattle.desk_parts.specs.worker_log.Laws.{EveryKept, EveryPrefix}
use Rattle.paged_desks.specs.Inside.{HasDone, HasServed, IsBeside}
use Rattle.paged_desks.specs.Syncs.{IsSynced}
use Rattle.paged_desks.specs.Machines.{IsReady, memory, view_of}
use Rattle.paged_desks.specs.Pages.{IsTightFor, hot_in, most_a_level}
use Rattle.paged_desks.specs.Parts.{HasGoneWhere}
use Rattle.paged_desks.specs.declared.machine.PagedMachine.{PagedMachine}
use Rattle.paged_desks.proofs.Full.{paged_sync, sync_events}
use Rattle.paged_desks.proofs.Going.{by_events, none_events, paged_by, paged_none, paged_then, paged_up, then_events, up_events}
use Rattle.paged_desks.proofs.Standing.{logs_are}

-- ## A call of the pager

-- the pager's word for a save is that of parts
save_one : (e : happening.Event) → is_save e ≡ saves_page e
save_one (happening.Event.Save p) = refl
save_one _ = refl

same_saves : (es : List happening.Event) → any is_save es ≡ any saves_page es
same_saves [] = refl
same_saves (e ∷ es) = λ i. save_one e i || same_saves es i

-- what is in memory behind it
pub memory_with : {D : Type 0} {m n : PagedMachine D} → IsBeside m n → with_slots n.pager.slots (memory m) ≡ memory n
memory_with {m = m} {n = n} b = λ i. record { log = sym (logs_are b) i; master = sym b.master i; slots = n.pager.slots }

module _ {D : Type 0} (story : D → Story) (m n : PagedMachine D) (ready : IsReady story m) (b : IsBeside m n) {most : ℕ} (moved : Moved most (shape m.machine) (view_of m) m.pager (view_of n) n.pager) (law : EveryPagePart (story m.machine.work.disk) (story n.machine.work.disk)) where
  laws : PageLaws m.machine.work.session.workers most (shape m.machine) (view_of m) (view_of n) m.pager n.pager (memory m) (story m.machine.work.disk) (story n.machine.work.disk)
  laws = law m.machine.work.session.workers most (shape m.machine) (view_of m) (view_of n) m.pager n.pager (memory m) refl ready.slots

  pub slots_on : length n.pager.slots ≡ length m.pager.slots → HasSlots (memory n) n.pager
  slots_on e = subst (λ (x : Memory). HasSlots x n.pager) (memory_with b) (laws.slots moved e)

  pub part_by : HasServed story m n → n.pager.broken ≡ false → Part m.machine.work.session.workers moved.events (view_of m) (view_of n) (memory m) (memory n) (story m.machine.work.disk) (story n.machine.work.disk)
  part_by served well = subst (λ (is : Memory). Part m.machine.work.session.workers moved.events (view_of m) (view_of n) (memory m) is (story m.machine.work.disk) (story n.machine.work.disk)) (memory_with b)
      (laws.part (record { call = record { moved = moved; disk = served.disk; stays = served.stays }; well = well; reads = λ none. served.reads most moved well (sym (same_saves (events_of moved.events)) ∙ none) }))

  pub done_by : (P : Opening → State → Type 0) → EveryReached → EveryNeed → EveryFew → EverySequel → HasServed story m n → n.pager.broken ≡ false → HasDone story P (3 * most) m n
  done_by P reached needs few seq served well = record { paged = paged_by story P m n reached needs few seq ready b moved; part = subst (λ es. Part m.machine.work.session.workers es (view_of m) (view_of n) (memory m) (memory n) (story m.machine.work.disk) (story n.machine.work.disk)) (sym (by_events story P m n reached needs few seq ready b moved)) (part_by served well) }

-- ## A sync

pub done_sync : {D : Type 0} (story : D → Story) (wanted : Wanted) (key : ℕ) (m n : PagedMachine D) → EveryReached → EveryNeed → {number : ℕ} → (s : IsSynced story m n number) → IsTightFor wanted key (opening (view_of m).given) (state (view_of m)).core → HasDone story (IsTightFor wanted key) (suc m.machine.work.session.workers) m n
done_sync story wanted key m n reached needs s t = record { paged = paged_sync story wanted key m n reached needs s t; part = subst (λ es. Part m.machine.work.session.workers es (view_of m) (view_of n) (memory m) (memory n) (story m.machine.work.disk) (story n.machine.work.disk)) (sym (sync_events story wanted key m n reached needs s t)) s.part }

-- ## One behind another

module _ {D : Type 0} (story : D → Story) (P : Opening → State → Type 0) (keeps : EveryKept) (prefixes : EveryPrefix) (seals : EverySealed) (versions : EveryVersion) (lawful : (d : D) → IsLawful (story d)) where
  pub done_then : {p q r : PagedMachine D} {i j most : ℕ} → i + j ≤ most → HasDone story P i p q → HasDone story P j q r → HasDone story P most p r
  done_then {p = p} {q = q} {r = r} few a b =
      let x = story p.machine.work.disk in
      let y = story q.machine.work.disk in
      let z = story r.machine.work.disk in record {
        paged = paged_then P few a.paged b.paged;
        part = subst (λ es. Part p.machine.work.session.workers es (view_of p) (view_of r) (memory p) (memory r) x z) (sym (then_events P few a.paged b.paged))
            ((every_join x y z (lawful p.machine.work.disk) (every_move keeps prefixes seals versions x y z) p.machine.work.session.workers a.paged.events (view_of p) (view_of q) (view_of r) (memory p) (memory q) (memory r)).join b.paged.events a.part
            (subst (λ k. Part k b.paged.events (view_of q) (view_of r) (memory q) (memory r) y z) a.paged.same.0 b.part));
      }

  pub done_none : EveryReached → EveryNeed → (m : PagedMachine D) → HasDone story P 0 m m
  done_none reached needs m = let s = story m.machine.work.disk in record {
    paged = paged_none P m;
    part = subst (λ es. Part m.machine.work.session.workers es (view_of m) (view_of m) (memory m) (memory m) s s) (sym (none_events P m))
        (every_step reached needs versions keeps prefixes seals s s (lawful m.machine.work.disk) m.machine.work.session.workers (view_of m) (view_of m) (memory m)).none;
  }

pub done_up : {D : Type 0} {story : D → Story} {P : Opening → State → Type 0} {i j : ℕ} {p q : PagedMachine D} → i ≤ j → HasDone story P i p q → HasDone story P j p q
done_up {story = story} {p = p} {q = q} few a = record { paged = paged_up few a.paged; part = subst (λ es. Part p.machine.work.session.workers es (view_of p) (view_of q) (memory p) (memory q) (story p.machine.work.disk) (story q.machine.work.disk)) (sym (up_events few a.paged)) a.part }

-- one level more
module _ {D : Type 0} (story : D → Story) (P : Opening → State → Type 0) (keeps : EveryKept) (prefixes : EveryPrefix) (seals : EverySealed) (versions : EveryVersion) (lawful : (d : D) → IsLawful (story d)) where
  pub done_more : (m p q : PagedMachine D) (n : ℕ) → HasDone story P (n * most_a_level m.machine.work.session.workers) m p → HasDone story P (most_a_level p.machine.work.session.workers) p q → HasDone story P ((n + 1) * most_a_level m.machine.work.session.workers) m q
  done_more m p q n a b = done_then story P keeps prefixes seals versions lawful (step n m.machine.work.session.workers p.machine.work.session.workers a.paged.same.0) a b
    where
      step : (n a b : ℕ) → b ≡ a → n * most_a_level a + most_a_level b ≤ (n + 1) * most_a_level a
      step n a b e = subst (λ c. n * most_a_level a + most_a_level c ≤ (n + 1) * most_a_level a) (sym e) (let x = most_a_level a in omega arith)

-- at most nine of them
pub done_nine : {D : Type 0} {story : D → Story} {P : Opening → State → Type 0} {m q : PagedMachine D} (n : ℕ) → n ≤ 8 → HasDone story P ((n + 1) * most_a_level m.machine.work.session.workers) m q → HasDone story P (9 * most_a_level m.machine.work.session.workers) m q
done_nine {m = m} n few a = done_up (mul-le-mul_right (most_a_level m.machine.work.session.workers) (let f : n + 1 ≤ 9 = omega arith in f)) a

-- ## How many events

module _ {D : Type 0} (story : D → Story) (m : PagedMachine D) (ready : IsReady story m) (frames : EveryFrame) where
  pub hot_few : hot_in m ≤ 2 ^ 16
  hot_few =
      let v = view_of m in
      let all = frames (opening v.given) (state v).core (pool m.pager) (ready.keeps.sound v.seen).residence ready.keeps.agrees in
      let given = ready.keeps.sized.given in
      let few = ready.few in omega arith

  pub sessions_few : m.machine.work.session.workers ≤ 16
  sessions_few = (holds_of (shape m.machine) (view_of m) (here m.machine) m.machine.desks.items ready.sound.desks).rows.most

  pub gone_of : (P : Opening → State → Type 0) (most : ℕ) (n : PagedMachine D) → most ≤ 9 * most_a_level m.machine.work.session.workers → HasDone story P most m n → HasGoneWhere story P most m n
  gone_of P most n few d = record { paged = d.paged; few = let a = d.paged.few in let h = hot_few in let w = sessions_few in let b = few in omega arith; part = d.part }
