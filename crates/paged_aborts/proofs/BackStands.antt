-- A machine stands while the session whose turn it is puts a change back, and its log has the record.
use Rattle.std.proofs.Common.{◌≡◌, ◌∙◌, ◌≤◌, ◌<◌, ◌+◌, ◌||◌, ◌++◌, ◌^◌, ◌⊎◌, inl, inr, ℕ, suc, true, false, IsTrue, List, [], ◌∷◌, Global, Vec, length, ap, refl, sym, subst, arith, true≢false}
use Rattle.std.proofs.lemmas.Bool.{and_parts, cases_eq, cases_lt, cond-false, ne_eqb}
use Rattle.paged_desks.specs.core_paging.Paging.{Waiting}
use Rattle.paged_desks.specs.core_state.Events as happening
use Rattle.paged_desks.specs.core_state.Needs.{are_hot, may, may_put_back, needs}
use Rattle.paged_desks.specs.core_state.Openings.{Opening}
use Rattle.paged_desks.specs.core_state.States.{Place, State, epoch_of, in_frame, is_cold, is_cooling, is_hot, waits_for}
use Rattle.paged_desks.specs.core_state.Steps.{at_pages, happens, put_back, write_entry, writes}
use Rattle.paged_desks.specs.disk_image.Records.{entry_of}
use Rattle.paged_desks.specs.btree_descent.Known.{IsSound as IsSoundTree}
use Rattle.paged_desks.specs.disk_slots.declared.master.Master.{Master}
use Rattle.paged_desks.specs.image_model.Entries.{Entry, Kind, is_record, touches, written}
use Rattle.lean_disk.specs.Area.{Area}
use Rattle.lean_disk.specs.Moments.{Framed}
use Rattle.lean_disk.specs.Story.{Story, Tells}
use Rattle.paged_desks.specs.lean_proto.Still.{Stood}
use Rattle.paged_desks.specs.log_calls.Wholes.{EndsInRecord}
use Rattle.paged_desks.specs.log_block.Block.{records_text}
use Rattle.paged_desks.specs.log_record.declared.record.Record.{Record}
use Rattle.map_model.specs.Lists.{Has}
use Rattle.paged_desks.specs.page_calls.Mirrors.{HoldsLast, Mirrors}
use Rattle.paged_desks.specs.page_store.Saved.{Reaches}
use Rattle.paged_desks.specs.page_pool.Pools.{EveryStanding}
use Rattle.paged_desks.proofs.page_provider.Kept.{kept_same}
use Rattle.paged_desks.specs.page_provider.Mirrored.{IsMirrored}
use Rattle.paged_desks.specs.page_provider.Providers.{IsKept, Keeps, Provider, pool}
use Rattle.row_changes.proofs.TouchLemmas.{touched}
use Rattle.row_changes.proofs.SeenLemmas.{seen_core}
use Rattle.row_changes.specs.Backs.{IsPutBack}
use Rattle.paged_desks.specs.row_words.declared.event.Event.{Event}
use Rattle.paged_desks.specs.row_words.declared.event.Event.TheVariants as told
use Rattle.paged_desks.specs.row_words.declared.given.Given.{Given}
use Rattle.paged_desks.specs.row_words.Openings.{opening}
use Rattle.paged_desks.specs.rows_trait.declared.view.View.{View}
use Rattle.paged_desks.specs.rows_trait.Views.{Shape, after_all, state}
use Rattle.paged_desks.proofs.session_desks.DeskLemmas.{desk_own}
use Rattle.paged_desks.proofs.session_desks.MachineLemmas.{machine_behind}
use Rattle.paged_desks.proofs.session_desks.SeatLemmas.{holds_of, turn_high, turn_low}
use Rattle.paged_desks.specs.session_desks.Machines.{IsLogged, IsMachine}
use Rattle.paged_desks.specs.session_desks.Parts.{HasLogs, IsSound, SeatFits, here, logs, shape}
use Rattle.paged_desks.specs.session_desks.Syncs.{HasOpening}
use Rattle.paged_desks.specs.session_desks.declared.desk.Desk.{Desk}
use Rattle.paged_desks.proofs.session_state.Moments.{acts}
use Rattle.paged_desks.proofs.session_state.OtherLemmas.{is_own, one_step}
use Rattle.paged_desks.proofs.session_state.StageLemmas.{staged_flushed}
use Rattle.paged_desks.specs.session_state.Holds.{Holds, IsSameSession}
use Rattle.paged_desks.specs.session_state.Others.{EveryOther}
use Rattle.paged_desks.specs.worker_log.Calls.{After}
use Rattle.paged_desks.specs.worker_log.Logs.{Log}
use Rattle.paged_desks.specs.Machines.{IsNobodyInside, IsReady, view_of}
use Rattle.paged_desks.specs.declared.machine.PagedMachine.{PagedMachine}
use Rattle.paged_desks.specs.Calls.{IsAside}
use Rattle.paged_desks.proofs.AsideLemmas.{other_desk, own_desk}

-- ## A record

-- its number is the log's last
after_last : (r : Record) (was is : Log) → After r was is → is.last ≡ r.gsn
after_last r was is a = elim (cases_le (length was.payload + length (records_text (r ∷ []))) 2000) [ inl fits ↦ ap (λ (l : Log). l.last) (a.room fits) | inr over ↦ ap (λ (l : Log). l.last) (a.full over) ]
  where
    cases_le : (x y : ℕ) → (x ≤ y) ⊎ (x ≤ y → ⊥)
    cases_le x y = elim (cases_lt y x) [ inl lt ↦ inr (λ le. absurd (let p = lt in let q = le in omega arith)) | inr le ↦ inl le ]

-- ## The state

module _ (v w : View) (own page : ℕ) (given : w.given ≡ v.given) (seen : w.seen ≡ v.seen ++ told.PutBack own page ∷ []) (met : may (opening v.given) (state v).core (happening.Event.Put_back own page) ≡ true) where
  abbrev pub s : State
  s = (state v).core

  abbrev pub g : Opening
  g = opening v.given

  -- the newest change
  pub record Newest : Type 0 where
    pub first : Entry
    pub rest : List Entry
    pub is : (s.worker own).changes ≡ first ∷ rest

  pub newest : Newest
  newest = go (s.worker own).changes refl (and_parts (s.worker own).is_open (may_put_back g (s.page page).node page (s.worker own).changes) (and_parts (are_hot s (page ∷ [])) (needs g s (happening.Event.Put_back own page)) met).1).1
    where
      go : (cs : List Entry) → (s.worker own).changes ≡ cs → may_put_back g (s.page page).node page cs ≡ true → Newest
      go [] e k = absurd (true≢false (sym k))
      go (c ∷ cs) e k = record { first = c; rest = cs; is = e }

  abbrev pub t : State
  t = writes g s Kind.Put_back own page newest.first.key newest.first.before (λ _. newest.rest)

  abbrev pub r : Entry
  r = write_entry g Kind.Put_back s own (at_pages s own (s.worker own) (page ∷ [])) page newest.first.key newest.first.before

  happens_is : happens g s (happening.Event.Put_back own page) ≡ t
  happens_is = ap (put_back g s own page) newest.is

  pub core_is : (state w).core ≡ t
  core_is = seen_core v w (told.PutBack own page) given seen met ∙ happens_is

  -- the page is hot
  hot : is_hot (s.place page) ≡ true
  hot = (and_parts (is_hot (s.place page)) true (and_parts (are_hot s (page ∷ [])) (needs g s (happening.Event.Put_back own page)) met).0).0

  -- another one is as it was
  page_else : (q : ℕ) → is_hot (s.place q) ≡ false → t.page q ≡ s.page q
  page_else q cold = cond-false (touches q r) (written r q (s.page q)) (s.page q) (ap (λ b. b || false) (ne_eqb page q (λ e. true≢false (sym hot ∙ (ap (λ n. is_hot (s.place n)) e ∙ cold)))))

  pub stood : Stood v w
  stood = record {
    queue = ap (λ (k : State). k.queue) core_is;
    epoch = ap (λ (k : State). k.epoch) core_is;
    hot = λ q. ap (λ (k : State). is_hot (k.place q)) core_is;
    cooling = λ q. ap (λ (k : State). is_cooling (k.place q)) core_is;
    cold = λ q. ap (λ (k : State). is_cold (k.place q)) core_is;
    frame = λ q f. ap (λ (k : State). in_frame (k.place q) f) core_is;
    since = λ q. ap (λ (k : State). epoch_of (k.place q)) core_is;
    saved = λ q. ap (λ (k : State). k.saved q) core_is;
    page = λ q cold. ap (λ (k : State). k.page q) core_is ∙ page_else q cold;
    unwaited = λ q u e. ap (λ (k : State). waits_for (k.place q) u) core_is ∙ e;
  }

  cold_off : (x : Place) → is_cold x ≡ true → is_hot x ≡ false
  cold_off (Place.Hot f) h = absurd (true≢false (sym h))
  cold_off (Place.Cooling f e q) h = absurd (true≢false (sym h))
  cold_off Place.Cold h = refl

  -- ## The pager

  pub keeps_back : EveryStanding → (z : Shape) → z.alone ≡ true → (k : Provider) → Keeps z v k → Keeps z w k
  keeps_back standing z alone k h = record {
    actor = acts z w _ alone;
    sound = subst IsSoundTree (sym given) h.sound;
    waiting = subst (λ (q : Given). (es : List Event) → Waiting (after_all q es).core) (sym given) h.waiting;
    sized = record { some = h.sized.some; shape = h.sized.shape; given = ap (λ (q : Given). (opening q).frames) given ∙ h.sized.given };
    some = h.some;
    workers = (h.workers.0, ap (λ (q : Given). (opening q).workers) given ∙ h.workers.1);
    pages = h.pages ∙ ap (λ (q : Given). (opening q).format.pages) (sym given);
    agrees = standing v w (pool k) given stood h.agrees;
    kept = subst (λ (q : Given). IsKept (opening q) (state w).core k.kept) (sym given)
        (kept_same (opening v.given) s k.kept (h.sound v.seen).tree h.kept (state w).core stood.cold (λ q cold. stood.page q (cold_off (s.place q) cold)));
    epoch = subst (λ n. n ≤ 2 ^ 62) (sym stood.epoch) h.epoch;
  }

  -- the area of the log alone was written
  pub mirrored_back : (k : Provider) (old new : Story) → 0 < own → Framed (suc own) old new → IsMirrored v k old → IsMirrored w k new
  mirrored_back k old new low f h = record {
    mirrors = subst (λ (x : State). Mirrors k.slots k.generation x.saved new) (sym core_is) (λ tells p lt y holds. h.mirrors (told_of tells) p lt y (subst (λ (a : Area). HoldsLast k.slots k.generation p a.bytes y) pages_same holds));
    spans = λ tells. subst (λ (a : Area). Reaches (length k.slots) a.bytes) (sym pages_same) (h.spans (told_of tells));
  }
    where
      pages_same : new.area 1 ≡ old.area 1
      pages_same = f.elsewhere 1 (λ e. absurd (let a = low in omega arith))

      told_of : Tells new 1 → Tells old 1
      told_of = subst (λ b. IsTrue b) (f.tells 1)

  pub outside_back : IsNobodyInside s → IsNobodyInside (state w).core
  outside_back o = subst IsNobodyInside (sym core_is) o

  -- ## The logs

  module _ (entry : Record) (entry_is : (happens g s (happening.Event.Put_back own page)).entries ≡ entry_of own entry ∷ s.entries) (was is : Log) (after : After entry was is) where
    entered : r ≡ entry_of own entry
    entered = let e : r ∷ s.entries ≡ entry_of own entry ∷ s.entries = ap (λ (x : State). x.entries) (sym happens_is) ∙ entry_is in cc

    number_is : is.last ≡ r.number
    number_is = after_last entry was is after ∙ ap (λ (e : Entry). e.number) (sym entered)

    -- its own has the record
    pub own_back : was.last ≤ (s.worker own).clock → IsLogged s own was → IsLogged (state w).core own is
    own_back low l = record {
      last = subst (λ (x : State). (e : Entry) → Has e x.entries → is_record e.kind ≡ true → e.log ≡ own → e.number ≤ is.last) (sym core_is) last;
      ends = subst (λ (x : State). EndsInRecord x own is) (sym core_is) (λ unflushed. (r, inl refl, refl, refl, sym number_is));
      flushed = ap (λ (x : State). x.flushed own) core_is ∙ (l.flushed ∙ sym (staged_flushed entry was is after));
    }
      where
        last : (e : Entry) → Has e t.entries → is_record e.kind ≡ true → e.log ≡ own → e.number ≤ is.last
        last e (inl q) k o = let a = ap (λ (x : Entry). x.number) q in let b = number_is in omega arith
        last e (inr h) k o = let a = l.last e h k o in let b = number_is in let c = low in let d = (touched s own (s.worker own) (page ∷ [])).clock in omega arith

    -- another one is as it was
    pub other_back : (n : ℕ) → (n ≡ own → ⊥) → (log : Log) → IsLogged s n log → IsLogged (state w).core n log
    other_back n other log l = record {
      last = subst (λ (x : State). (e : Entry) → Has e x.entries → is_record e.kind ≡ true → e.log ≡ n → e.number ≤ log.last) (sym core_is) last;
      ends = subst (λ (x : State). EndsInRecord x n log) (sym core_is) (λ unflushed. let x = l.ends unflushed in (x.0, inr x.1, x.2, x.3, x.4));
      flushed = ap (λ (x : State). x.flushed n) core_is ∙ l.flushed;
    }
      where
        last : (e : Entry) → Has e t.entries → is_record e.kind ≡ true → e.log ≡ n → e.number ≤ log.last
        last e (inl q) k o = absurd (other (sym o ∙ ap (λ (x : Entry). x.log) q))
        last e (inr h) k o = l.last e h k o

-- ## A machine

-- beside the session in the store
module _ {D : Type 0} (story : D → Story) (m n : PagedMachine D) (a : IsAside m n) (same : IsSameSession m.machine.work.session n.machine.work.session) (ready : IsReady story m) where
  abbrev own : ℕ
  own = m.machine.work.session.own

  items : n.machine.desks.items ≡ m.machine.desks.items
  items = ap (λ (d : Vec Desk Global). d.items) a.desks

  low : 0 < own
  low = turn_low (shape m.machine) (view_of m) (here m.machine) m.machine.desks.items ready.sound.desks

  high : own ≤ m.machine.work.session.workers
  high = turn_high (shape m.machine) (view_of m) (here m.machine) m.machine.desks.items ready.sound.desks

  -- it put a change back
  module _ (law : EveryOther) (standing : EveryStanding) (c : IsPutBack (view_of m) (view_of n) m.machine.work.session n.machine.work.session m.machine.work.log n.machine.work.log (story m.machine.work.disk) (story n.machine.work.disk)) (fits : SeatFits n.machine)
      (works : n.machine.work.session.works ≡ true) (holds : Holds (shape n.machine) (view_of n) n.machine.work.session n.machine.work.log) where
    was_holds : Holds (shape m.machine) (view_of m) m.machine.work.session m.machine.work.log
    was_holds = holds_of (shape m.machine) (view_of m) (here m.machine) m.machine.desks.items ready.sound.desks

    sound : IsSound n.machine
    sound = subst (λ (k : Master). IsMachine n.machine.rows.frames n.machine.rows.locks n.machine.rows.workers n.machine.rows.words.items n.machine.seat.view (here n.machine) n.machine.desks.items n.machine.latches k) (sym a.master)
        (subst (λ (ds : List Desk). IsMachine n.machine.rows.frames n.machine.rows.locks n.machine.rows.workers n.machine.rows.words.items n.machine.seat.view (here n.machine) ds n.machine.latches m.machine.master) (sym items)
        (machine_behind law m.machine.rows.frames m.machine.rows.locks m.machine.rows.workers n.machine.rows.frames n.machine.rows.locks n.machine.rows.workers m.machine.rows.words.items n.machine.rows.words.items m.machine.seat.view n.machine.seat.view (here m.machine) (here n.machine) m.machine.desks.items
        m.machine.latches n.machine.latches m.machine.master ready.sound a.shape fits works same (one_step own (view_of m) (view_of n) (told.PutBack own c.page) c.given c.seen (is_own own) c.met) holds a.latches))

    logged : HasLogs n.machine
    logged k lo hi = go (cases_eq k own)
      where
        hi_too : k ≤ m.machine.work.session.workers
        hi_too = subst (λ (q : ℕ). k ≤ q) same.1 hi

        numbers : m.machine.work.log.last ≤ ((state (view_of m)).core.worker own).clock
        numbers = let p = was_holds.numbers.last in let q = was_holds.session.clock in omega arith

        own_log : IsLogged (state (view_of m)).core own m.machine.work.log
        own_log = subst (λ (d : Desk). IsLogged (state (view_of m)).core own d.log) (desk_own (here m.machine) m.machine.desks.items own refl) (ready.logged own low high)

        go : (k ≡ own) ⊎ (k ≡ own → ⊥) → IsLogged (state (view_of n)).core k (logs n.machine k)
        go (inl e) = subst (λ (q : ℕ). IsLogged (state (view_of n)).core q (logs n.machine q)) (sym e) (subst (λ (d : Desk). IsLogged (state (view_of n)).core own d.log) (sym (own_desk story m n a same ready))
            (own_back (view_of m) (view_of n) own c.page c.given c.seen c.met c.entry c.entry_is m.machine.work.log n.machine.work.log c.after numbers own_log))
        go (inr other) = subst (λ (d : Desk). IsLogged (state (view_of n)).core k d.log) (sym (other_desk story m n a same ready k lo hi_too other))
            (other_back (view_of m) (view_of n) own c.page c.given c.seen c.met c.entry c.entry_is m.machine.work.log n.machine.work.log c.after k other (logs m.machine k) (ready.logged k lo hi_too))

    pub ready_back : IsReady story n
    ready_back = record {
      sound = sound;
      works = works;
      logged = logged;
      opens = subst HasOpening (sym c.given) ready.opens;
      keeps = subst (λ (q : Shape × Provider). Keeps q.0 (view_of n) q.1) (λ i. (sym a.shape i, sym a.pager i)) (keeps_back (view_of m) (view_of n) own c.page c.given c.seen c.met standing (shape m.machine) was_holds.alone m.pager ready.keeps);
      well = ap (λ (k : Provider). k.broken) a.pager ∙ ready.well;
      fed = λ faithful. let f = ready.fed (ap (λ (q : Given). q.faithful) (sym c.given) ∙ faithful) in record {
        tells = subst (λ b. IsTrue b) (sym (c.keeps.frame.tells 1)) f.tells;
        mirrored = subst (λ (q : Provider). IsMirrored (view_of n) q (story n.machine.work.disk)) (sym a.pager)
            (mirrored_back (view_of m) (view_of n) own c.page c.given c.seen c.met m.pager (story m.machine.work.disk) (story n.machine.work.disk) low c.keeps.frame f.mirrored);
      };
      slots = let h = ready.slots in record {
        slots = ap (λ (q : Provider). q.slots) a.pager ∙ (h.slots ∙ ap (λ (q : Provider). q.slots) (sym a.pager));
        generation = ap (λ (k : Master). k.generation) a.master ∙ (h.generation ∙ ap (λ (q : Provider). q.generation) (sym a.pager));
        count = ap (λ (q : Provider). length q.slots) a.pager ∙ (h.count ∙ ap (λ (k : Master). k.pages) (sym a.master));
      };
      frames = subst (λ (k : Provider). 32 ≤ k.frames) (sym a.pager) ready.frames;
      few = subst (λ (k : Provider). k.frames ≤ 2 ^ 16) (sym a.pager) ready.few;
      outside = outside_back (view_of m) (view_of n) own c.page c.given c.seen c.met ready.outside;
    }
