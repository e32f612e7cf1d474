-- What an opening made is a machine that is ready, at the start of a run.
use Rattle.std.proofs.Common.{◌≡◌, ◌≤◌, ◌<◌, ◌+◌, ◌-◌, ◌*◌, ◌^◌, ℕ, suc, true, false, List, [], length, map, replicate, refl, sym, ap, ◌∙◌, subst, arith}
use Rattle.paged_desks.specs.image_model.Laws.{EveryUndone}
use Rattle.paged_desks.specs.core_state.Openings.{Opening}
use Rattle.paged_desks.specs.core_state.States as core
use Rattle.paged_desks.specs.draw_trait.declared.staged.Staged.{Staged}
use Rattle.paged_desks.specs.disk_runs.Openings as runs
use Rattle.paged_desks.specs.disk_slots.declared.master.Master.{Master}
use Rattle.lean_disk.specs.Story.{Story, Tells}
use Rattle.paged_desks.specs.btree_descent.Known as descent
use Rattle.paged_desks.specs.row_words.declared.given.Given.{Given}
use Rattle.paged_desks.specs.rows_trait.declared.view.View.{View}
use Rattle.paged_desks.specs.rows_trait.Views.{Shape, first_plain, state}
use Rattle.paged_desks.specs.call_parts.Memory.{Memory}
use Rattle.paged_desks.specs.page_calls.Mirrors.{IsMirror}
use Rattle.paged_desks.specs.page_calls.Slots.{opened_slot}
use Rattle.paged_desks.specs.page_calls.declared.slots.Slot.{Slot}
use Rattle.paged_desks.specs.page_provider.Providers.{Provider}
use Rattle.paged_desks.specs.paged_rows.Paged.{IsFedIfFaithful}
use Rattle.recovery.specs.Opened.{IsUntouched, Keeps}
use Rattle.recovery.specs.Own.{EveryOwn}
use Rattle.recovery.specs.Telling.{TellsAll}
use Rattle.recovery.specs.declared.opening.Recovered.{Recovered}
use Rattle.run_opening.proofs.StartLemmas.{every_start}
use Rattle.paged_desks.specs.session_desks.Desks.{desk_of, log_of}
use Rattle.paged_desks.specs.session_desks.Machines.{AreDesks, IsDesk, IsLogged, IsMachine}
use Rattle.paged_desks.specs.session_desks.Syncs.{HasOpening}
use Rattle.paged_desks.specs.session_desks.declared.desk.Desk.{Desk}
use Rattle.paged_desks.specs.session_state.Holds.{Holds}
use Rattle.paged_desks.specs.session_state.Opened.{IsFirst, plain_shape}
use Rattle.paged_desks.specs.session_state.Ties.{Behind, Ties}
use Rattle.paged_desks.specs.session_state.Undo.{HasHand}
use Rattle.paged_desks.specs.session_state.declared.session.Session.{Session}
use Rattle.paged_desks.specs.worker_log.Logs.{Log}
use Rattle.paged_opening.specs.Opened as paging
use Rattle.paged_opening.specs.Opened.{given_by}
use Rattle.paged_opening.specs.declared.opening.Opened as paged
use Rattle.paged_opening.proofs.BeginLemmas.{pages_long}
use Rattle.paged_opening.proofs.MirrorLemmas.{opened_length}
use Rattle.paged_desks.specs.Machines.{IsReady, memory, pages}
use Rattle.paged_desks.specs.declared.machine.PagedMachine.{PagedMachine}
use Rattle.paged_engine.specs.Inside.{HasSeats}
use Rattle.paged_engine.specs.Openings.{BeginsOn, HasOpened, IsAtStart, IsFrom, IsFurther, IsMadeBy, OpeningLaws}
use Rattle.paged_engine.specs.declared.opening.Size.{Size}
use Rattle.paged_engine.specs.declared.seats.Seats.{Seats}
use Rattle.paged_engine.proofs.OpeningLemmas.{every_opening}
use Rattle.paged_engine.proofs.SeatLemmas.{at_each}
use Rattle.paged_engine.proofs.StartLemmas as begun
use Rattle.paged_engine.proofs.StartLemmas.{Begun, Laws, first_too}

-- a log that is made begins at the master's floor, up to which it is flushed
last_of : (n : Master) (w : ℕ) (log : Log) → IsMadeBy n w log → log.last ≡ n.floor
last_of n w log made = ap (λ (l : Log). l.last) made.is

flushed_of : (n : Master) (w : ℕ) (log : Log) → IsMadeBy n w log → log.flushed ≡ n.floor
flushed_of n w log made = ap (λ (l : Log). l.flushed) made.is

hand_of : (n : Master) (w : ℕ) (log : Log) → IsMadeBy n w log → HasHand log
hand_of n w log made none = ap (λ (l : Log). l.payload) made.is

below_more : (n more seen : ℕ) → n < 2 ^ 61 → 2 * n < 2 * (2 ^ 61 + more) + seen
below_more n more seen low = omega arith

-- nothing has happened, and the log begins at the base number
logged_start : (g : Opening) (w : ℕ) (log : Log) → log.last ≡ g.base → log.flushed ≡ g.base → IsLogged (core.start g) w log
logged_start g w log a b = record { last = λ r i k l. absurd i; ends = λ n. absurd (n (a ∙ sym b)); flushed = sym b }

module _ (D : Type 0) (story : D → Story) (disk : D) (laws : Laws) (size : Size) (frames_are : (32 ≤ size.frames) × (size.frames ≤ 4096)) (locks_are : (1 ≤ size.rows) × (size.rows ≤ 65536))
    (s0 : Story) (o : paged.Opened) (h : paging.HasOpened size.frames size.rows size.sessions s0 (story disk) o) (made : Seats) (seats : HasSeats size o.master o.free made) where
  abbrev s1 : Story
  s1 = story disk

  abbrev r : Recovered
  r = h.recovered

  abbrev x : Session
  x = made.first.session

  abbrev many : ℕ
  many = length r.master.heads

  abbrev v : Given
  v = given_by (s1.tells 1) size.frames size.rows r

  abbrev z : Shape
  z = plain_shape size.frames size.rows many

  abbrev u : View
  u = first_plain v

  abbrev g : Opening
  g = h.paged.rooted.start

  master_is : o.master ≡ r.master
  master_is = h.paged.master

  floor_is : o.master.floor ≡ r.master.floor
  floor_is = ap (λ (n : Master). n.floor) master_is

  many_is : x.workers ≡ many
  many_is = seats.first.workers ∙ ap (λ (n : Master). length n.heads) master_is

  -- ## What begins with these rows

  some_page : 0 < length r.pages.items
  some_page = let c = h.is.whole.count in let l = h.is.whole.master.1.pages.0 in omega arith

  few_pages : length r.pages.items ≤ 65536
  few_pages = let c = h.is.whole.count in let l = h.is.whole.master.1.pages.1 in omega arith

  some_frame : 1 ≤ size.frames
  some_frame = let l = frames_are.0 in omega arith

  few_frames : size.frames ≤ 65536
  few_frames = let l = frames_are.1 in omega arith

  abbrev rows : Begun
  rows = record {
    pages = r.pages.items;
    faithful = s1.tells 1;
    frames = size.frames;
    count = size.rows;
    many = many;
    base = r.master.floor;
    some_page = some_page;
    few_pages = few_pages;
    some_frame = some_frame;
    few_frames = few_frames;
    some_lock = locks_are.0;
    few_locks = locks_are.1;
    some_worker = h.is.whole.master.1.logs.0;
    few_workers = h.is.whole.master.1.logs.1;
    small = h.is.whole.master.1.floor;
    rooted = h.paged.rooted;
    tree_sound = subst (λ (t : View). descent.IsSound t.given) h.paged.view h.paged.keeps.sound;
  }

  base_is : g.base ≡ r.master.floor
  base_is = begun.base_is laws rows

  -- the seat stands at the start of the run
  state_is : (state o.seat.view).core ≡ core.start g
  state_is = ap (λ (t : View). (state t).core) h.paged.view ∙ begun.rest laws rows

  -- ## Sessions and logs

  abbrev first : Desk
  first = made.first

  abbrev desk : ℕ → Desk
  desk w = desk_of first made.desks.items w

  abbrev logs : ℕ → Log
  logs = log_of first made.desks.items

  each : (P : ℕ → Desk → Type 0) → P 1 first → ((w : ℕ) (d : Desk) → IsFurther o.master x w d → 0 < w → w ≤ x.workers → P w d) → (w : ℕ) → 0 < w → w ≤ x.workers → P w (desk w)
  each = at_each o.master x seats.first.own first.log made.desks.items seats.further

  made_each : (w : ℕ) → 0 < w → w ≤ x.workers → IsMadeBy o.master w (logs w)
  made_each = each (λ w d. IsMadeBy o.master w d.log) seats.log (λ w d it low high. it.made)

  logged : (w : ℕ) → 0 < w → w ≤ x.workers → IsLogged (core.start g) w (logs w)
  logged w low high = let it = made_each w low high in logged_start g w (logs w) (last_of o.master w (logs w) it ∙ (floor_is ∙ sym base_is)) (flushed_of o.master w (logs w) it ∙ (floor_is ∙ sym base_is))

  first_is : IsFirst r.master.floor x
  first_is = subst (λ (n : ℕ). IsFirst n x) floor_is seats.first.first

  first_each : (w : ℕ) → 0 < w → w ≤ x.workers → IsFirst r.master.floor (desk w).session
  first_each = each (λ w d. IsFirst r.master.floor d.session) first_is (λ w d it low high. subst (IsFirst r.master.floor) (sym it.session_is) (first_too r.master.floor x w [] it.few first_is))

  some_worker : 1 ≤ many
  some_worker = h.is.whole.master.1.logs.0

  first_low : 0 < x.own
  first_low = let e = seats.first.own in omega arith

  first_high : x.own ≤ many
  first_high = let e = seats.first.own in let l = some_worker in omega arith

  among : (w : ℕ) → w ≤ x.workers → w ≤ many
  among w high = let e = many_is in omega arith

  -- a session of this number, with the log that was made for it, and all else of the first one
  holding : (w : ℕ) (few : w ≤ 16) (log : Log) → IsMadeBy o.master w log → 0 < w → w ≤ x.workers → Holds z u (record x { own = w; few = few }) log
  holding w few log it low high = begun.holding laws rows (record x { own = w; few = few }) log (first_too r.master.floor x w x.free few first_is)
      (last_of o.master w log it ∙ floor_is) (flushed_of o.master w log it ∙ floor_is) (hand_of o.master w log it) low (among w high) many_is seats.first.frames seats.first.rows (seats.first.free ∙ h.paged.free)

  first_desk : IsDesk z u x 1 first
  first_desk = record {
    own = seats.first.own;
    workers = refl;
    group = refl;
    frames = refl;
    count = refl;
    works = first_is.works;
    holds = begun.holding laws rows x first.log first_is (last_of o.master 1 first.log seats.log ∙ floor_is) (flushed_of o.master 1 first.log seats.log ∙ floor_is) (hand_of o.master 1 first.log seats.log)
        first_low first_high many_is seats.first.frames seats.first.rows (seats.first.free ∙ h.paged.free);
  }

  further_desk : (w : ℕ) (d : Desk) → IsFurther o.master x w d → 0 < w → w ≤ x.workers → IsDesk z u x w d
  further_desk w d it low high = record {
    own = ap (λ (s : Session). s.own) it.session_is;
    workers = ap (λ (s : Session). s.workers) it.session_is;
    group = ap (λ (s : Session). s.group) it.session_is;
    frames = ap (λ (s : Session). s.frames) it.session_is;
    count = ap (λ (s : Session). s.held.count) it.session_is;
    works = ap (λ (s : Session). s.works) it.session_is ∙ first_is.works;
    holds = subst (λ (s : Session). Holds z u (record s { free = x.free }) d.log) (sym it.session_is) (holding w it.few d.log it.made low high);
  }

  -- as the rows and the seat are
  desks_at : (k l w : ℕ) (t : View) → k ≡ size.frames → l ≡ size.rows → w ≡ many → t ≡ u → AreDesks (plain_shape k l w) t first made.desks.items
  desks_at k l w t p q e same =
      subst (λ (y : View). AreDesks (plain_shape k l w) y first made.desks.items) (sym same)
      (subst (λ (n : ℕ). AreDesks (plain_shape n l w) u first made.desks.items) (sym p)
      (subst (λ (n : ℕ). AreDesks (plain_shape size.frames n w) u first made.desks.items) (sym q)
      (subst (λ (n : ℕ). AreDesks (plain_shape size.frames size.rows n) u first made.desks.items) (sym e)
      (record { count = seats.further.count; each = each (IsDesk z u x) first_desk further_desk }))))

  machine_is : IsMachine o.rows.frames o.rows.locks o.rows.workers o.rows.words.items o.seat.view first made.desks.items made.latches o.master
  machine_is = record {
    fits = h.paged.fits;
    desks = desks_at o.rows.frames o.rows.locks o.rows.workers o.seat.view h.paged.frames_are h.paged.locks_are h.paged.workers_are h.paged.view;
    unmarked = seats.latches ∙ ap (λ (n : ℕ). replicate n false) (sym seats.first.rows);
    numbers = record { sequence = below_more o.master.sequence _ _ (let e = ap (λ (n : Master). n.sequence) master_is in let l = h.is.sequence in omega arith); heads = sym seats.first.workers };
    floor = let e = ap (λ (s : core.State). s.floor) state_is ∙ base_is in let k = floor_is in omega arith;
  }

  -- ## The machine

  abbrev slots : List Slot
  slots = map opened_slot r.slots.items

  slots_are : o.pager.slots ≡ slots
  slots_are = ap (λ (k : Provider). k.slots) h.paged.pager

  workers_are : g.workers ≡ many
  workers_are = h.paged.rooted.opens.workers ∙ (let l = some_worker in let e : suc (many - 1) ≡ many = omega arith in e)

  faithful_is : g.faithful ≡ s1.tells 1
  faithful_is = h.paged.rooted.opens.faithful

  module _ (staged : Staged) where
    abbrev machine : PagedMachine D
    machine = record {
      machine = record {
        rows = o.rows;
        seat = o.seat;
        work = record { disk = disk; log = first.log; session = x; staged = staged };
        desks = made.desks;
        latches = made.latches;
        master = o.master;
      };
      pager = o.pager;
    }

    at_start : IsAtStart g machine
    at_start = record {
      workers = workers_are ∙ sym many_is;
      behind = subst (Behind g [] []) (sym h.paged.view) (begun.behind_none laws rows);
      ties = λ w. subst (Ties g x.group [] w false) (sym h.paged.view) (begun.ties_none laws rows x.group w);
      logged = λ w low high. logged w low (let e = workers_are in let k = many_is in omega arith);
      sessions = λ w low high. subst (λ (n : ℕ). IsFirst n (desk w).session) (sym base_is) (first_each w low (let e = workers_are in let k = many_is in omega arith));
    }

    is_ready : IsFedIfFaithful (pages machine) s1 → IsReady story machine
    is_ready fed = record {
      sound = machine_is;
      works = first_is.works;
      logged = λ w low high. subst (λ (s : core.State). IsLogged s w (logs w)) (sym state_is) (logged w low high);
      opens = subst (λ (t : View). HasOpening t.given) (sym h.paged.view) (record { opening = g; opens = h.paged.rooted.opens; few = (let a = pages_long r.pages.items in let b = few_pages in omega arith) });
      keeps = h.paged.keeps;
      well = h.paged.works;
      fed = fed;
      slots = record {
        slots = refl;
        generation = ap (λ (n : Master). n.generation) master_is ∙ sym (ap (λ (k : Provider). k.generation) h.paged.pager);
        count = ap (λ (ss : List Slot). length ss) slots_are ∙ (opened_length r.slots.items ∙ (h.is.whole.places ∙ ap (λ (n : Master). n.pages) (sym master_is)));
      };
      frames = let e = ap (λ (k : Provider). k.frames) h.paged.pager in let l = frames_are.0 in omega arith;
      few = let e = ap (λ (k : Provider). k.frames) h.paged.pager in let l = frames_are.1 in omega arith;
      outside = λ w. ap (λ (s : core.State). s.inside w) state_is;
    }

    -- ## What the device gives

    module _ (keeps : Keeps s0 s1) (mirrors : Tells s0 1 → IsMirror o.pager.slots o.pager.generation (state o.seat.view).core.saved s1) where
      is_fed : IsFedIfFaithful (pages machine) s1
      is_fed faithful =
          let tells : s1.tells 1 ≡ true = sym (ap (λ (t : View). t.given.faithful) h.paged.view) ∙ faithful in
          let mirror = mirrors (sym (keeps.tells 1) ∙ tells) in
          record { tells = tells; mirrored = record { mirrors = mirror.mirrors; spans = mirror.spans } }

      pub ready : IsReady story machine
      ready = is_ready is_fed

      -- ## The run

      module _ (undone : EveryUndone) (own : EveryOwn) (stands : runs.EveryOpened s1) (untouched : (a : ℕ) → 1 < a → IsUntouched (s0.area a) (s1.area a)) where
        made_by : (w : ℕ) → 0 < w → w ≤ x.workers → IsMadeBy r.master w (logs w)
        made_by w low high = subst (λ (n : Master). IsMadeBy n w (logs w)) master_is (made_each w low high)

        run : OpeningLaws size.sessions g r (record { log = logs; master = r.master; slots = slots }) s0 s1
        run = every_opening size.sessions s0 s1 undone own (every_start s1 stands s0) r logs g h.is keeps faithful_is untouched (λ w low high. made_by w low (let e = workers_are in let k = many_is in omega arith))
            (record { workers = workers_are; format = begun.format_is laws rows; base_is = base_is; page = begun.page_is laws rows })

        memory_is : record { log = logs; master = r.master; slots = slots } ≡ memory machine
        memory_is = (λ i. record { log = logs; master = sym master_is i; slots = sym slots_are i })

        from : TellsAll size.sessions s0 → IsFrom size.sessions g s0 o.master.generation o.winners o.undone
        from tells = let k = run.from tells in record {
          faithful = k.faithful;
          m = k.m;
          openable = k.openable;
          sound = k.sound;
          starts = k.starts;
          map = k.map;
          generation_is = ap (λ (n : Master). n.generation) master_is ∙ k.generation_is;
          won_is = h.paged.won ∙ k.won_is;
          lost_is = h.paged.lost ∙ k.lost_is;
        }

        pub has_opened : HasOpened story size s0 machine o.winners o.undone
        has_opened = record {
          group = seats.first.group;
          turn = seats.first.own;
          opening = g;
          at_start = at_start;
          rows = λ k. ap (λ (row : ℕ → ℕ). row k) h.paged.rooted.opens.locks;
          frames = h.paged.rooted.opens.frames ∙ (let l = some_frame in let e : suc (size.frames - 1) ≡ size.frames = omega arith in e);
          faithful = faithful_is ∙ keeps.tells 1;
          recovered = r;
          is = h.is;
          sessions = many_is;
          master = master_is;
          made = made_by;
          won_is = h.paged.won;
          lost_is = h.paged.lost;
          from = from;
          clean = λ tells n is. subst (λ (m : Memory). BeginsOn g m s0 s1 n) memory_is (run.clean tells n is);
        }
