-- Changes that were put back, one behind another, and pages that came before them, as a part of a call.
use Rattle.std.proofs.Common.{◌≡◌, ◌∙◌, ◌≤◌, ◌<◌, ◌+◌, ◌*◌, ◌||◌, ◌++◌, ℕ, true, false, List, [], ◌∷◌, length, ap, refl, sym, subst, arith, append-nil, eq-eqb}
use Rattle.std.proofs.lemmas.List.{length-append}
use Rattle.map_model.specs.Lists.{any}
use Rattle.map_model.specs.declared.call.Call.TheVariants as call
use Rattle.paged_desks.proofs.call_parts.AreaLemmas.{around_wider, within_wider}
use Rattle.paged_desks.proofs.call_parts.JoinLemmas.{every_join}
use Rattle.paged_desks.proofs.call_parts.MemoryLemmas.{every_memory}
use Rattle.paged_desks.proofs.call_parts.OwnLemmas.{every_own}
use Rattle.paged_desks.proofs.call_parts.RunLemmas.{behind_more, first_more}
use Rattle.paged_desks.proofs.call_parts.StepLemmas.{every_step}
use Rattle.paged_desks.specs.call_parts.Areas.{is_save}
use Rattle.paged_desks.specs.call_parts.Laws.{EveryJoin}
use Rattle.paged_desks.specs.call_parts.Memory.{Memory, with_own}
use Rattle.paged_desks.specs.call_parts.Parts.{Failed, Part}
use Rattle.paged_desks.specs.call_parts.Steps.{Stages}
use Rattle.paged_desks.specs.core_calls.Fronts.{Done}
use Rattle.paged_desks.specs.core_calls.LogEvents.{EveryWhere, IsTightSomewhere, SyncsWhere}
use Rattle.paged_desks.specs.core_state.Events as happening
use Rattle.paged_desks.specs.core_state.Local.{is_sync}
use Rattle.paged_desks.specs.core_state.Openings.{Opening}
use Rattle.paged_desks.specs.core_state.States.{State}
use Rattle.paged_desks.proofs.engine_calls.MoveLemmas.{every_move}
use Rattle.paged_desks.specs.engine_calls.Parts.{behind_first}
use Rattle.lean_disk.specs.Story.{IsLawful, Story}
use Rattle.paged_desks.specs.page_pool.Counts.{hot_pages}
use Rattle.paged_desks.specs.row_words.declared.event.Event.TheVariants as told
use Rattle.paged_desks.specs.row_words.Moments.{events_of}
use Rattle.paged_desks.specs.row_words.Openings.{opening}
use Rattle.paged_desks.specs.rows_trait.declared.view.View.{View}
use Rattle.paged_desks.specs.rows_trait.Views.{after_all}
use Rattle.paged_desks.proofs.session_desks.DeskLemmas.{desk_own}
use Rattle.paged_desks.proofs.session_desks.SeatLemmas.{holds_of, turn_high, turn_low}
use Rattle.paged_desks.specs.session_desks.Desks.{desk_of}
use Rattle.paged_desks.specs.session_desks.Parts.{SeatFits, here, shape}
use Rattle.paged_desks.specs.session_desks.declared.desk.Desk.{Desk}
use Rattle.paged_desks.proofs.session_state.Moments.{events_more}
use Rattle.paged_desks.specs.session_state.Holds.{IsSameSession}
use Rattle.paged_desks.specs.session_state.Staging.{KeepsLog}
use Rattle.paged_desks.specs.session_state.Ties.{Behind}
use Rattle.paged_desks.specs.session_state.declared.undo.Undone.{Undone}
use Rattle.paged_desks.specs.session_state.declared.session.Session.{Session}
use Rattle.paged_desks.specs.session_state.declared.work.Work.{Work}
use Rattle.paged_desks.specs.worker_log.Logs.{Log}
use Rattle.row_changes.specs.Backs.{IsPutBack}
use Rattle.paged_desks.proofs.AsideLemmas.{memory_aside, other_desk}
use Rattle.paged_desks.proofs.EndingLemmas.{Grounds}
use Rattle.paged_desks.proofs.StandLemmas.{halves_are, memory_is}
use Rattle.paged_desks.specs.Calls.{IsAside, IsBeside}
use Rattle.paged_desks.specs.Machines.{IsReady, memory, view_of}
use Rattle.paged_desks.specs.Pages.{HasPaged, IsKept, hot_in, most_a_level}
use Rattle.paged_desks.specs.Parts.{HasFailed, HasGone}
use Rattle.paged_desks.specs.declared.machine.PagedMachine.{PagedMachine}
use Rattle.paged_aborts.specs.Backs.{HasFailedBack, HasUndone, IsGivenUp, is_back}
use Rattle.paged_aborts.proofs.BackEvents.{back_join, backs_join, come_back, come_backs, half_join, length_events, one_back, paging_backs}
use Rattle.paged_aborts.proofs.BackStands as stands
use Rattle.paged_aborts.proofs.BackSteps.{beside_of}
use Rattle.paged_aborts.proofs.FilledLemmas.{come_none, left_more}

-- as many pages are hot where the rows stand as they did
hot_same : {D : Type 0} (m n : PagedMachine D) → (view_of n).given ≡ (view_of m).given → (view_of n).seen ≡ (view_of m).seen → hot_in n ≡ hot_in m
hot_same m n given seen = λ i. hot_pages (opening (given i)) (after_all (given i) (seen i)).core

module _ (l : Grounds) (places : EveryWhere) {D : Type 0} (story : D → Story) (lawful : (d : D) → IsLawful (story d)) where
  joins_at : (a b c : D) → EveryJoin (story a) (story b) (story c)
  joins_at a b c = every_join (story a) (story b) (story c) (lawful a) (every_move l.kept l.prefixes l.seals l.versions (story a) (story b) (story c))

  -- ## Nothing

  none_at : (many : ℕ) (v : View) (was : Memory) (d : D) → Part many [] v v was was (story d) (story d)
  none_at many v was d = (every_step l.reached l.needs l.versions l.kept l.prefixes l.seals (story d) (story d) (lawful d) many v v was).none

  -- a device that was not called
  failed_none : (many : ℕ) (v : View) (was : Memory) (d : D) → Failed many true true [] v was (story d) (story d)
  failed_none many v was d = record {
    around = around_wider many false false true true (story d) (story d) (λ _. refl) (λ _. refl) p.around;
    fails = λ g xs first b s0 a st is. let r = p.goes g xs first b s0 a st is in record { passes = r.moved.passes; within = within_wider many false false true true (story d) (story d) (λ _. refl) (λ _. refl) r.within };
  }
    where
      p : Part many [] v v was was (story d) (story d)
      p = none_at many v was d

  -- nothing was seen, and all else is as it was
  pub undone_same : (m n : PagedMachine D) → IsAside m n → n.machine.work ≡ m.machine.work → (view_of n).given ≡ (view_of m).given → (view_of n).seen ≡ (view_of m).seen → HasUndone story 0 m n
  undone_same m n a e given seen = record {
    events = [];
    part = subst (λ (d : D). Part m.machine.work.session.workers [] (view_of m) (view_of n) (memory m) (memory n) (story m.machine.work.disk) (story d)) (sym b.disk)
        (subst (λ (k : Memory). Part m.machine.work.session.workers [] (view_of m) (view_of n) (memory m) k (story m.machine.work.disk) (story m.machine.work.disk)) (sym (memory_is story m n b own_is))
        ((every_step l.reached l.needs l.versions l.kept l.prefixes l.seals (story m.machine.work.disk) (story m.machine.work.disk) (lawful m.machine.work.disk) m.machine.work.session.workers (view_of m) (view_of n) (memory m)).rest [] (record { given = given; seen = seen ∙ sym (append-nil (view_of m).seen); met = tt }) refl));
    backs = refl;
    left = (let q = ap (λ (k : Work D). length k.session.undo) e in omega arith);
    few = (let q = hot_same m n given seen in omega arith);
    tight = λ g xs first k. tt;
    same = (ap (λ (k : Work D). k.session.workers) e, ap (λ (k : Work D). k.session.group) e);
    turn = own_is;
    is_open = ap (λ (k : Work D). k.session.is_open) e;
    half = ap (λ (k : Work D). k.session.is_half_aborted) e;
    others = λ w lo hi other. halves_are story m n b own_is (ap (λ (k : Work D). k.session.is_half_aborted) e) w;
  }
    where
      b : IsBeside m n
      b = beside_of m n a e

      own_is : n.machine.work.session.own ≡ m.machine.work.session.own
      own_is = ap (λ (k : Work D). k.session.own) e

  pub undone_self : (m : PagedMachine D) → HasUndone story 0 m m
  undone_self m = undone_same m m (record { shape = refl; desks = refl; latches = refl; master = refl; pager = refl }) refl refl refl

  -- ## One change

  module _ (m n : PagedMachine D) (ready : IsReady story m) (a : IsAside m n) (same : IsSameSession m.machine.work.session n.machine.work.session) where
    abbrev x : Session
    x = m.machine.work.session

    abbrev own : ℕ
    own = x.own

    low : 0 < own
    low = turn_low (shape m.machine) (view_of m) (here m.machine) m.machine.desks.items ready.sound.desks

    high : own ≤ x.workers
    high = turn_high (shape m.machine) (view_of m) (here m.machine) m.machine.desks.items ready.sound.desks

    workers_in : (opening (view_of m).given).workers ≡ x.workers
    workers_in = (holds_of (shape m.machine) (view_of m) (here m.machine) m.machine.desks.items ready.sound.desks).rows.workers

    log_is : (memory m).log own ≡ m.machine.work.log
    log_is = ap (λ (d : Desk). d.log) (desk_own (here m.machine) m.machine.desks.items own refl)

    abbrev old : Story
    old = story m.machine.work.disk

    abbrev new : Story
    new = story n.machine.work.disk

    -- it was put back
    pub undone_one : IsPutBack (view_of m) (view_of n) x n.machine.work.session m.machine.work.log n.machine.work.log old new → HasUndone story 1 m n
    undone_one c = record {
      events = told.PutBack own c.page ∷ [];
      part = (every_memory old new x.workers (view_of m) (view_of n) (memory m) (with_own own n.machine.work.log (memory m)) (memory m) (memory n) workers_in (record { log = λ w lo hi. refl; master = refl; slots = refl }) (memory_aside story m n a same ready)).part (told.PutBack own c.page ∷ [])
          ((every_own l.reached l.needs old new x.workers own (view_of m) (view_of n) (memory m) n.machine.work.log low high workers_in).stage (told.PutBack own c.page)
          (subst (λ (q : Log). Stages own (told.PutBack own c.page) (view_of m) (view_of n) q n.machine.work.log old new) (sym log_is) (record {
            sees = record { given = c.given; seen = c.seen; met = (c.met, tt) };
            entry = c.entry;
            enters = record { of_own = eq-eqb own own refl; entry_is = c.entry_is };
            after = c.after;
            stands = c.stands;
            keeps = c.keeps;
          })));
      backs = one_back own c.page;
      left = (let q = c.fewer in omega arith);
      few = (let q = hot_is in omega arith);
      tight = λ g xs first k. tt;
      same = (same.1, same.2);
      turn = same.0;
      is_open = ap (λ (y : Session). y.is_open) c.session;
      half = ap (λ (y : Session). y.is_half_aborted) c.session;
      others = λ w lo hi other. ap (λ (d : Desk). d.session.is_half_aborted) (other_desk story m n a same ready w lo hi other);
    }
      where
        hot_is : hot_in n ≡ hot_in m
        hot_is = λ i. hot_pages (opening (c.given i)) (stands.core_is (view_of m) (view_of n) own c.page c.given c.seen c.met i)

  -- ## The log's device failed

  pub failed_log : (m n : PagedMachine D) → IsReady story m → IsSameSession m.machine.work.session n.machine.work.session → KeepsLog m.machine.work.session.own m.machine.work.log (story m.machine.work.disk) (story n.machine.work.disk) → SeatFits n.machine → HasFailedBack story 0 m n
  failed_log m n ready same k fits = record {
    events = [];
    failed = record { around = around_wider m.machine.work.session.workers false false true true (story m.machine.work.disk) (story n.machine.work.disk) (λ _. refl) (λ _. refl) f.around; fails = λ g xs first b s0 y st is. let r = f.fails g xs first b s0 y st is in record { passes = r.passes; within = within_wider m.machine.work.session.workers false false true true (story m.machine.work.disk) (story n.machine.work.disk) (λ _. refl) (λ _. refl) r.within } };
    backs = refl;
    few = omega arith;
    same = (same.1, same.2);
    fits = fits;
  }
    where
      log_is : (memory m).log m.machine.work.session.own ≡ m.machine.work.log
      log_is = ap (λ (d : Desk). d.log) (desk_own (here m.machine) m.machine.desks.items m.machine.work.session.own refl)

      f : Failed m.machine.work.session.workers false false [] (view_of m) (memory m) (story m.machine.work.disk) (story n.machine.work.disk)
      f = (every_own l.reached l.needs (story m.machine.work.disk) (story n.machine.work.disk) m.machine.work.session.workers m.machine.work.session.own (view_of m) (view_of m) (memory m) m.machine.work.log
          (turn_low (shape m.machine) (view_of m) (here m.machine) m.machine.desks.items ready.sound.desks) (turn_high (shape m.machine) (view_of m) (here m.machine) m.machine.desks.items ready.sound.desks)
          (holds_of (shape m.machine) (view_of m) (here m.machine) m.machine.desks.items ready.sound.desks).rows.workers).fails (subst (λ (q : Log). KeepsLog m.machine.work.session.own q (story m.machine.work.disk) (story n.machine.work.disk)) (sym log_is) k)

  -- ## Pages come

  module _ (m n : PagedMachine D) (ready : IsReady story m) where
    own_kept : {key most : ℕ} → HasPaged key most m n → IsKept m.machine.work.session n.machine.work.session
    own_kept p =
        subst (λ (d : Desk). IsKept m.machine.work.session d.session) (desk_own (here n.machine) n.machine.desks.items m.machine.work.session.own (sym p.turn))
        (subst (λ (d : Desk). IsKept d.session (desk_of (here n.machine) n.machine.desks.items m.machine.work.session.own).session) (desk_own (here m.machine) m.machine.desks.items m.machine.work.session.own refl)
        (p.sessions m.machine.work.session.own (turn_low (shape m.machine) (view_of m) (here m.machine) m.machine.desks.items ready.sound.desks) (turn_high (shape m.machine) (view_of m) (here m.machine) m.machine.desks.items ready.sound.desks)))

    -- the changes that are left are the same
    pub undo_kept : {key most : ℕ} → HasPaged key most m n → n.machine.work.session.undo ≡ m.machine.work.session.undo
    undo_kept p = ap (λ (y : Session). y.undo) (own_kept p).session

    pub undone_come : {key most : ℕ} → HasGone story key most m n → HasUndone story most m n
    undone_come {key = key} c = record {
      events = c.paged.events;
      part = c.part;
      backs = come_backs m.machine.work.session.own c.paged.events c.paged.paging;
      left = (let p = come_none c.paged.events c.paged.paging in let q = ap (λ (us : List Undone). length us) (undo_kept c.paged) in omega arith);
      few = c.paged.few;
      tight = λ g xs first b. (places (call.Get key) call.Abort g (behind_first g xs first) (events_of c.paged.events)).weaker false (λ t k. (key, k)) (c.paged.tight g xs first b);
      same = c.paged.same;
      turn = c.paged.turn;
      is_open = ap (λ (y : Session). y.is_open) (own_kept c.paged).session;
      half = ap (λ (y : Session). y.is_half_aborted) (own_kept c.paged).session ∙ ap (λ b. b || m.machine.work.session.is_half_aborted) (sym (come_back c.paged.events c.paged.paging));
      others = λ w lo hi other. ap (λ (y : Session). y.is_half_aborted) (c.paged.sessions w lo hi).session;
    }

    pub open_kept : {key most : ℕ} → HasPaged key most m n → n.machine.work.session.is_open ≡ m.machine.work.session.is_open
    open_kept p = ap (λ (y : Session). y.is_open) (own_kept p).session

    pub half_kept : {key most : ℕ} → HasPaged key most m n → n.machine.work.session.is_half_aborted ≡ m.machine.work.session.is_half_aborted
    half_kept p = ap (λ (y : Session). y.is_half_aborted) (own_kept p).session

    pub failed_come : HasFailed story m n → HasFailedBack story (9 * most_a_level m.machine.work.session.workers) m n
    failed_come f = record { events = f.events; failed = f.failed; backs = paging_backs m.machine.work.session.own f.events f.paging; few = f.fewer; same = f.same; fits = f.fits }

  -- ## A leaf lost an entry

  pub failed_lost : (m n : PagedMachine D) → IsGivenUp m n → HasFailedBack story 0 m n
  failed_lost m n u = record {
    events = [];
    failed = subst (λ (d : D). Failed m.machine.work.session.workers true true [] (view_of m) (memory m) (story m.machine.work.disk) (story d)) (sym u.disk) (failed_none m.machine.work.session.workers (view_of m) (memory m) m.machine.work.disk);
    backs = refl;
    few = omega arith;
    same = u.same;
    fits = u.fits;
  }

  -- ## One behind another

  module _ (m k n : PagedMachine D) (i j : ℕ) (a : HasUndone story i m k) where
    abbrev many : ℕ
    many = m.machine.work.session.workers

    abbrev es : List happening.Event
    es = events_of a.events

    -- the view stands behind it
    pub behind_a : (g : Opening) (xs : List Done) (first : List happening.Event) → Behind g xs first (view_of m) → Behind g xs (first ++ es) (view_of k)
    behind_a g xs first b = behind_more g xs first (view_of m) b a.events (view_of k) a.part.given a.part.seen (a.part.logged g xs first b).met

    pub undone_then : HasUndone story j k n → HasUndone story (i + j) m n
    undone_then b = record {
      events = a.events ++ b.events;
      part = (joins_at m.machine.work.disk k.machine.work.disk n.machine.work.disk many a.events (view_of m) (view_of k) (view_of n) (memory m) (memory k) (memory n)).join b.events a.part
          (subst (λ w. Part w b.events (view_of k) (view_of n) (memory k) (memory n) (story k.machine.work.disk) (story n.machine.work.disk)) a.same.0 b.part);
      backs = subst (Rattle.paged_desks.specs.call_parts.Rooms.AreBacks m.machine.work.session.own) (sym (events_more a.events b.events)) (backs_join m.machine.work.session.own es (events_of b.events) a.backs (subst (λ w. Rattle.paged_desks.specs.call_parts.Rooms.AreBacks w (events_of b.events)) a.turn b.backs));
      left = left_more a.events b.events (length m.machine.work.session.undo) (length k.machine.work.session.undo) (length n.machine.work.session.undo) a.left b.left;
      few = (let p = a.few in let q = b.few in let r = length-append a.events b.events in omega arith);
      tight = λ g xs first f. subst (SyncsWhere (IsTightSomewhere g) g (behind_first g xs first) false) (sym (events_more a.events b.events))
          ((places call.Abort call.Abort g (behind_first g xs first) es).more (events_of b.events) (a.tight g xs first f)
          (subst (λ (s : State). SyncsWhere (IsTightSomewhere g) g s false (events_of b.events)) (first_more g xs first es) (b.tight g xs (first ++ es) (behind_a g xs first f))));
      same = (b.same.0 ∙ a.same.0, b.same.1 ∙ a.same.1);
      turn = b.turn ∙ a.turn;
      is_open = b.is_open ∙ a.is_open;
      half = b.half ∙ (ap (λ h. any is_back b.events || h) a.half ∙ (half_join (any is_back a.events) (any is_back b.events) m.machine.work.session.is_half_aborted ∙ ap (λ h. h || m.machine.work.session.is_half_aborted) (sym (back_join a.events b.events))));
      others = λ w lo hi other. b.others w lo (let q = a.same.0 in omega arith) (λ e. other (e ∙ a.turn)) ∙ a.others w lo hi other;
    }

    pub failed_then : HasFailedBack story j k n → HasFailedBack story (i + j) m n
    failed_then b = record {
      events = es ++ b.events;
      failed = record {
        around = around_wider many (any is_save es || true) (any is_sync es || true) true true (story m.machine.work.disk) (story n.machine.work.disk) (λ _. refl) (λ _. refl) f.around;
        fails = λ g xs first y s0 z st is. let r = f.fails g xs first y s0 z st is in record { passes = r.passes; within = within_wider many (any is_save es || true) (any is_sync es || true) true true (story m.machine.work.disk) (story n.machine.work.disk) (λ _. refl) (λ _. refl) r.within };
      };
      backs = backs_join m.machine.work.session.own es b.events a.backs (subst (λ w. Rattle.paged_desks.specs.call_parts.Rooms.AreBacks w b.events) a.turn b.backs);
      few = (let p = a.few in let q = b.few in let r = length-append es b.events in let s = length_events a.events in omega arith);
      same = (b.same.0 ∙ a.same.0, b.same.1 ∙ a.same.1);
      fits = b.fits;
    }
      where
        f : Failed many (any is_save es || true) (any is_sync es || true) (es ++ b.events) (view_of m) (memory m) (story m.machine.work.disk) (story n.machine.work.disk)
        f = (joins_at m.machine.work.disk k.machine.work.disk n.machine.work.disk many a.events (view_of m) (view_of k) (view_of n) (memory m) (memory k) (memory n)).failed true true b.events a.part
            (subst (λ w. Failed w true true b.events (view_of k) (memory k) (story k.machine.work.disk) (story n.machine.work.disk)) a.same.0 b.failed)

  -- by more events at most
  pub undone_up : (m n : PagedMachine D) (i j : ℕ) → i ≤ j → HasUndone story i m n → HasUndone story j m n
  undone_up m n i j le a = record { events = a.events; part = a.part; backs = a.backs; left = a.left; few = (let p = a.few in omega arith); tight = a.tight; same = a.same; turn = a.turn; is_open = a.is_open; half = a.half; others = a.others }

  pub failed_up : (m n : PagedMachine D) (i j : ℕ) → i ≤ j → HasFailedBack story i m n → HasFailedBack story j m n
  failed_up m n i j le a = record { events = a.events; failed = a.failed; backs = a.backs; few = (let p = a.few in omega arith); same = a.same; fits = a.fits }
