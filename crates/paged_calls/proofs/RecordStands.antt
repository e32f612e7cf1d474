-- A machine stands while the session whose turn it is enters a record: a change, or a change of the tree.
use Rattle.std.proofs.Common.{◌≡◌, ◌∙◌, ◌≤◌, ◌<◌, ◌+◌, ◌==◌, ◌||◌, ◌^◌, ◌⊎◌, inl, inr, ℕ, suc, true, false, IsTrue, List, [], ◌∷◌, Global, Vec, Option, length, ap, refl, sym, subst, arith, true≢false}
use Rattle.std.proofs.lemmas.Bool.{and_parts, cases_eq, cases_lt, cond-false, ne_eqb}
use Rattle.map_model.specs.Lists.{Has}
use Rattle.paged_desks.specs.core_paging.Paging.{Waiting}
use Rattle.paged_desks.specs.core_state.Events as happening
use Rattle.paged_desks.specs.core_state.Needs.{are_hot, may, needs}
use Rattle.paged_desks.specs.core_state.Openings.{Opening}
use Rattle.paged_desks.specs.core_state.States.{Place, State, Worker, epoch_of, in_frame, is_cold, is_cooling, is_hot, waits_for}
use Rattle.paged_desks.specs.core_state.Steps.{at_pages, happens, write_entry}
use Rattle.paged_desks.specs.btree_descent.Known.{IsSound as IsSoundTree}
use Rattle.paged_desks.specs.disk_slots.declared.master.Master.{Master}
use Rattle.paged_desks.specs.image_model.Entries.{Contents, Entry, Kind, is_record, touches, written}
use Rattle.lean_disk.specs.Area.{Area}
use Rattle.lean_disk.specs.Moments.{Framed}
use Rattle.lean_disk.specs.Story.{Story, Tells}
use Rattle.paged_desks.specs.lean_proto.Still.{Stood}
use Rattle.paged_desks.specs.log_block.Block.{records_text}
use Rattle.paged_desks.specs.log_record.declared.record.Record.{Record}
use Rattle.paged_desks.specs.page_calls.Mirrors.{HoldsLast, Mirrors}
use Rattle.paged_desks.specs.page_store.Saved.{Reaches}
use Rattle.paged_desks.specs.page_pool.Pools.{EveryStanding}
use Rattle.paged_desks.proofs.page_provider.Kept.{kept_same}
use Rattle.paged_desks.specs.page_provider.Mirrored.{IsMirrored}
use Rattle.paged_desks.specs.page_provider.Providers.{IsKept, Keeps, Provider, pool}
use Rattle.paged_desks.specs.row_words.declared.event.Event.{Event}
use Rattle.paged_desks.specs.row_words.declared.event.Event.TheVariants as told
use Rattle.paged_desks.specs.row_words.declared.given.Given.{Given}
use Rattle.paged_desks.specs.row_words.Moments.{event_of}
use Rattle.paged_desks.specs.row_words.Openings.{opening}
use Rattle.paged_desks.specs.rows_trait.declared.view.View.{View}
use Rattle.paged_desks.specs.rows_trait.Views.{Shape, after_all, state}
use Rattle.paged_desks.proofs.session_desks.DeskLemmas.{desk_own}
use Rattle.paged_desks.proofs.session_desks.MachineLemmas.{machine_behind}
use Rattle.paged_desks.proofs.session_desks.SeatLemmas.{holds_of, turn_high, turn_low}
use Rattle.paged_desks.specs.session_desks.Machines.{IsLogged, IsMachine}
use Rattle.paged_desks.specs.session_desks.Parts.{HasLogs, IsSound, SeatFits, here, logs, shape}
use Rattle.paged_desks.specs.session_desks.Syncs.{HasOpening}
use Rattle.paged_desks.specs.session_desks.declared.desk.Desk.{Desk}
use Rattle.paged_desks.proofs.session_state.Moments.{acts}
use Rattle.paged_desks.proofs.session_state.OtherLemmas.{is_own}
use Rattle.paged_desks.proofs.session_state.StageLemmas.{staged_flushed}
use Rattle.paged_desks.specs.session_state.Holds.{Holds, IsSameSession}
use Rattle.paged_desks.specs.session_state.Others.{EveryOther, Steps, is_of}
use Rattle.paged_desks.specs.session_state.Staging.{KeepsLog}
use Rattle.paged_desks.specs.worker_log.Calls.{After}
use Rattle.paged_desks.specs.worker_log.Logs.{Log}
use Rattle.paged_desks.specs.Machines.{IsNobodyInside, IsReady, view_of}
use Rattle.paged_desks.specs.declared.machine.PagedMachine.{PagedMachine}
use Rattle.paged_desks.specs.Calls.{IsAside}
use Rattle.paged_desks.proofs.AsideLemmas.{other_desk, own_desk}

-- ## A record

-- its number is the log's last
after_last : (r : Record) (was is : Log) → After r was is → is.last ≡ r.gsn
after_last r was is a = elim (cases_le (length was.payload + length (records_text (r ∷ []))) 2000) [ inl fits ↦ ap (λ (l : Log). l.last) (a.room fits) | inr over ↦ ap (λ (l : Log). l.last) (a.full over) ]
  where
    cases_le : (x y : ℕ) → (x ≤ y) ⊎ (x ≤ y → ⊥)
    cases_le x y = elim (cases_lt y x) [ inl lt ↦ inr (λ le. absurd (let p = lt in let q = le in omega arith)) | inr le ↦ inl le ]

-- the event enters this record of session `own`, and moves no page
pub record Enters (own : ℕ) (g : Opening) (s : State) (e : Event) (r : Entry) : Type 0 where
  pub of_own : is_of own e ≡ true
  pub entries : (happens g s (event_of e)).entries ≡ r ∷ s.entries
  pub kind : is_record r.kind ≡ true
  pub log : r.log ≡ own
  pub number : (s.worker own).clock ≤ r.number
  pub queue : (happens g s (event_of e)).queue ≡ s.queue
  pub epoch : (happens g s (event_of e)).epoch ≡ s.epoch
  pub place : (happens g s (event_of e)).place ≡ s.place
  pub saved : (happens g s (event_of e)).saved ≡ s.saved
  pub flushed : (happens g s (event_of e)).flushed ≡ s.flushed
  pub inside : (happens g s (event_of e)).inside ≡ s.inside
  -- a page that is not hot is as it was
  pub page : (q : ℕ) → is_hot (s.place q) ≡ false → (happens g s (event_of e)).page q ≡ s.page q

-- ## Which events do so

-- the clock of a worker that meets pages
pub clock_met : (s : State) (own : ℕ) (b : Worker) (ps : List ℕ) → b.clock ≤ (at_pages s own b ps).clock
clock_met s own b [] = omega arith
clock_met s own b (p ∷ ps) = let q = clock_met s own b ps in omega arith

pub other_page : (s : State) (p q : ℕ) → is_hot (s.place p) ≡ true → is_hot (s.place q) ≡ false → (p == q) ≡ false
other_page s p q hot cold = ne_eqb p q (λ e. true≢false (sym hot ∙ (ap (λ n. is_hot (s.place n)) e ∙ cold)))

pub change_enters : (own page key word : ℕ) (g : Opening) (s : State) → may g s (happening.Event.Change own page key word) ≡ true
    → Enters own g s (told.Change own page key word) (write_entry g Kind.Change s own (at_pages s own (s.worker own) (page ∷ [])) page key word)
change_enters own page key word g s met = record {
  of_own = is_own own;
  entries = refl;
  kind = refl;
  log = refl;
  number = let q = clock_met s own (s.worker own) (page ∷ []) in omega arith;
  queue = refl;
  epoch = refl;
  place = refl;
  saved = refl;
  flushed = refl;
  inside = refl;
  page = λ q cold. cond-false (touches q r) (written r q (s.page q)) (s.page q) (ap (λ b. b || false) (other_page s page q hot cold));
}
  where
    r : Entry
    r = write_entry g Kind.Change s own (at_pages s own (s.worker own) (page ∷ [])) page key word

    hot : is_hot (s.place page) ≡ true
    hot = (and_parts (is_hot (s.place page)) true (and_parts (are_hot s (page ∷ [])) (needs g s (happening.Event.Change own page key word)) met).0).0

-- ## The state

module _ (v w : View) (own : ℕ) (e : Event) (r : Entry) (given : w.given ≡ v.given) (core_is : (state w).core ≡ happens (opening v.given) (state v).core (event_of e)) (k : Enters own (opening v.given) (state v).core e r) where
  abbrev s : State
  s = (state v).core

  place_is : (state w).core.place ≡ s.place
  place_is = ap (λ (x : State). x.place) core_is ∙ k.place

  entries_is : (state w).core.entries ≡ r ∷ s.entries
  entries_is = ap (λ (x : State). x.entries) core_is ∙ k.entries

  flushed_is : (state w).core.flushed ≡ s.flushed
  flushed_is = ap (λ (x : State). x.flushed) core_is ∙ k.flushed

  pub stood : Stood v w
  stood = record {
    queue = ap (λ (x : State). x.queue) core_is ∙ k.queue;
    epoch = ap (λ (x : State). x.epoch) core_is ∙ k.epoch;
    hot = λ q. ap (λ (f : ℕ → Place). is_hot (f q)) place_is;
    cooling = λ q. ap (λ (f : ℕ → Place). is_cooling (f q)) place_is;
    cold = λ q. ap (λ (f : ℕ → Place). is_cold (f q)) place_is;
    frame = λ q n. ap (λ (f : ℕ → Place). in_frame (f q) n) place_is;
    since = λ q. ap (λ (f : ℕ → Place). epoch_of (f q)) place_is;
    saved = λ q. ap (λ (f : ℕ → Contents). f q) (ap (λ (x : State). x.saved) core_is ∙ k.saved);
    page = λ q cold. ap (λ (x : State). x.page q) core_is ∙ k.page q cold;
    unwaited = λ q u h. ap (λ (f : ℕ → Place). waits_for (f q) u) place_is ∙ h;
  }

  cold_off : (x : Place) → is_cold x ≡ true → is_hot x ≡ false
  cold_off (Place.Hot f) h = absurd (true≢false (sym h))
  cold_off (Place.Cooling f n q) h = absurd (true≢false (sym h))
  cold_off Place.Cold h = refl

  -- ## The pager

  keeps_on : EveryStanding → (z : Shape) → z.alone ≡ true → (p : Provider) → Keeps z v p → Keeps z w p
  keeps_on standing z alone p h = record {
    actor = acts z w _ alone;
    sound = subst IsSoundTree (sym given) h.sound;
    waiting = subst (λ (q : Given). (es : List Event) → Waiting (after_all q es).core) (sym given) h.waiting;
    sized = record { some = h.sized.some; shape = h.sized.shape; given = ap (λ (q : Given). (opening q).frames) given ∙ h.sized.given };
    some = h.some;
    workers = (h.workers.0, ap (λ (q : Given). (opening q).workers) given ∙ h.workers.1);
    pages = h.pages ∙ ap (λ (q : Given). (opening q).format.pages) (sym given);
    agrees = standing v w (pool p) given stood h.agrees;
    kept = subst (λ (q : Given). IsKept (opening q) (state w).core p.kept) (sym given)
        (kept_same (opening v.given) s p.kept (h.sound v.seen).tree h.kept (state w).core stood.cold (λ q cold. stood.page q (cold_off (s.place q) cold)));
    epoch = subst (λ n. n ≤ 2 ^ 62) (sym stood.epoch) h.epoch;
  }

  -- the area of the log alone was written
  mirrored_on : (p : Provider) (old new : Story) → 0 < own → Framed (suc own) old new → IsMirrored v p old → IsMirrored w p new
  mirrored_on p old new low f h = record {
    mirrors = subst (λ (x : ℕ → Contents). Mirrors p.slots p.generation x new) (sym (ap (λ (x : State). x.saved) core_is ∙ k.saved))
        (λ tells q lt y holds. h.mirrors (told_of tells) q lt y (subst (λ (a : Area). HoldsLast p.slots p.generation q a.bytes y) pages_same holds));
    spans = λ tells. subst (λ (a : Area). Reaches (length p.slots) a.bytes) (sym pages_same) (h.spans (told_of tells));
  }
    where
      pages_same : new.area 1 ≡ old.area 1
      pages_same = f.elsewhere 1 (λ q. absurd (let a = low in omega arith))

      told_of : Tells new 1 → Tells old 1
      told_of = subst (λ b. IsTrue b) (f.tells 1)

  outside_on : IsNobodyInside s → IsNobodyInside (state w).core
  outside_on o u = ap (λ (f : ℕ → Option ℕ). f u) (ap (λ (x : State). x.inside) core_is ∙ k.inside) ∙ o u

  -- ## The logs

  module _ (entry : Record) (number : entry.gsn ≡ r.number) (was is : Log) (after : After entry was is) where
    number_is : is.last ≡ r.number
    number_is = after_last entry was is after ∙ number

    -- its own has the record
    own_on : was.last ≤ (s.worker own).clock → IsLogged s own was → IsLogged (state w).core own is
    own_on low l = record {
      last = subst (λ (es : List Entry). (x : Entry) → Has x es → is_record x.kind ≡ true → x.log ≡ own → x.number ≤ is.last) (sym entries_is) last;
      ends = λ unflushed. (r, subst (λ (es : List Entry). Has r es) (sym entries_is) (inl refl), k.kind, k.log, sym number_is);
      flushed = ap (λ (f : ℕ → ℕ). f own) flushed_is ∙ (l.flushed ∙ sym (staged_flushed entry was is after));
    }
      where
        last : (x : Entry) → Has x (r ∷ s.entries) → is_record x.kind ≡ true → x.log ≡ own → x.number ≤ is.last
        last x (inl q) h o = let a = ap (λ (y : Entry). y.number) q in let b = number_is in omega arith
        last x (inr h) j o = let a = l.last x h j o in let b = number_is in let c = low in let d = k.number in omega arith

    -- another one is as it was
    other_on : (n : ℕ) → (n ≡ own → ⊥) → (log : Log) → IsLogged s n log → IsLogged (state w).core n log
    other_on n other log l = record {
      last = subst (λ (es : List Entry). (x : Entry) → Has x es → is_record x.kind ≡ true → x.log ≡ n → x.number ≤ log.last) (sym entries_is) last;
      ends = λ unflushed. let x = l.ends unflushed in (x.0, subst (λ (es : List Entry). Has x.0 es) (sym entries_is) (inr x.1), x.2, x.3, x.4);
      flushed = ap (λ (f : ℕ → ℕ). f n) flushed_is ∙ l.flushed;
    }
      where
        last : (x : Entry) → Has x (r ∷ s.entries) → is_record x.kind ≡ true → x.log ≡ n → x.number ≤ log.last
        last x (inl q) h o = absurd (other (sym o ∙ (ap (λ (y : Entry). y.log) q ∙ k.log)))
        last x (inr h) j o = l.last x h j o

-- ## A machine

-- beside the session in the store
module _ {D : Type 0} (story : D → Story) (m n : PagedMachine D) (a : IsAside m n) (same : IsSameSession m.machine.work.session n.machine.work.session) (ready : IsReady story m) where
  abbrev own : ℕ
  own = m.machine.work.session.own

  items : n.machine.desks.items ≡ m.machine.desks.items
  items = ap (λ (d : Vec Desk Global). d.items) a.desks

  low : 0 < own
  low = turn_low (shape m.machine) (view_of m) (here m.machine) m.machine.desks.items ready.sound.desks

  high : own ≤ m.machine.work.session.workers
  high = turn_high (shape m.machine) (view_of m) (here m.machine) m.machine.desks.items ready.sound.desks

  -- it entered a record
  module _ (law : EveryOther) (standing : EveryStanding) (e : Event) (r : Entry) (given : (view_of n).given ≡ (view_of m).given) (steps : Steps own (view_of m) (view_of n)) (happened : (state (view_of n)).core ≡ happens (opening (view_of m).given) (state (view_of m)).core (event_of e))
      (k : Enters own (opening (view_of m).given) (state (view_of m)).core e r) (entry : Record) (number : entry.gsn ≡ r.number) (after : After entry m.machine.work.log n.machine.work.log) (keeps : KeepsLog own m.machine.work.log (story m.machine.work.disk) (story n.machine.work.disk)) (fits : SeatFits n.machine)
      (works : n.machine.work.session.works ≡ true) (holds : Holds (shape n.machine) (view_of n) n.machine.work.session n.machine.work.log) where
    was_holds : Holds (shape m.machine) (view_of m) m.machine.work.session m.machine.work.log
    was_holds = holds_of (shape m.machine) (view_of m) (here m.machine) m.machine.desks.items ready.sound.desks

    sound : IsSound n.machine
    sound = subst (λ (q : Master). IsMachine n.machine.rows.frames n.machine.rows.locks n.machine.rows.workers n.machine.rows.words.items n.machine.seat.view (here n.machine) n.machine.desks.items n.machine.latches q) (sym a.master)
        (subst (λ (ds : List Desk). IsMachine n.machine.rows.frames n.machine.rows.locks n.machine.rows.workers n.machine.rows.words.items n.machine.seat.view (here n.machine) ds n.machine.latches m.machine.master) (sym items)
        (machine_behind law m.machine.rows.frames m.machine.rows.locks m.machine.rows.workers n.machine.rows.frames n.machine.rows.locks n.machine.rows.workers m.machine.rows.words.items n.machine.rows.words.items m.machine.seat.view n.machine.seat.view (here m.machine) (here n.machine) m.machine.desks.items
        m.machine.latches n.machine.latches m.machine.master ready.sound a.shape fits works same steps holds a.latches))

    logged : HasLogs n.machine
    logged i lo hi = go (cases_eq i own)
      where
        hi_too : i ≤ m.machine.work.session.workers
        hi_too = subst (λ (q : ℕ). i ≤ q) same.1 hi

        numbers : m.machine.work.log.last ≤ ((state (view_of m)).core.worker own).clock
        numbers = let p = was_holds.numbers.last in let q = was_holds.session.clock in omega arith

        own_log : IsLogged (state (view_of m)).core own m.machine.work.log
        own_log = subst (λ (d : Desk). IsLogged (state (view_of m)).core own d.log) (desk_own (here m.machine) m.machine.desks.items own refl) (ready.logged own low high)

        go : (i ≡ own) ⊎ (i ≡ own → ⊥) → IsLogged (state (view_of n)).core i (logs n.machine i)
        go (inl q) = subst (λ (j : ℕ). IsLogged (state (view_of n)).core j (logs n.machine j)) (sym q) (subst (λ (d : Desk). IsLogged (state (view_of n)).core own d.log) (sym (own_desk story m n a same ready))
            (own_on (view_of m) (view_of n) own e r given happened k entry number m.machine.work.log n.machine.work.log after numbers own_log))
        go (inr other) = subst (λ (d : Desk). IsLogged (state (view_of n)).core i d.log) (sym (other_desk story m n a same ready i lo hi_too other))
            (other_on (view_of m) (view_of n) own e r given happened k entry number m.machine.work.log n.machine.work.log after i other (logs m.machine i) (ready.logged i lo hi_too))

    pub ready_entered : IsReady story n
    ready_entered = record {
      sound = sound;
      works = works;
      logged = logged;
      opens = subst HasOpening (sym given) ready.opens;
      keeps = subst (λ (q : Shape × Provider). Keeps q.0 (view_of n) q.1) (λ i. (sym a.shape i, sym a.pager i)) (keeps_on (view_of m) (view_of n) own e r given happened k standing (shape m.machine) was_holds.alone m.pager ready.keeps);
      well = ap (λ (q : Provider). q.broken) a.pager ∙ ready.well;
      fed = λ faithful. let f = ready.fed (ap (λ (q : Given). q.faithful) (sym given) ∙ faithful) in record {
        tells = subst (λ b. IsTrue b) (sym (keeps.frame.tells 1)) f.tells;
        mirrored = subst (λ (q : Provider). IsMirrored (view_of n) q (story n.machine.work.disk)) (sym a.pager)
            (mirrored_on (view_of m) (view_of n) own e r given happened k m.pager (story m.machine.work.disk) (story n.machine.work.disk) low keeps.frame f.mirrored);
      };
      slots = let h = ready.slots in record {
        slots = ap (λ (q : Provider). q.slots) a.pager ∙ (h.slots ∙ ap (λ (q : Provider). q.slots) (sym a.pager));
        generation = ap (λ (q : Master). q.generation) a.master ∙ (h.generation ∙ ap (λ (q : Provider). q.generation) (sym a.pager));
        count = ap (λ (q : Provider). length q.slots) a.pager ∙ (h.count ∙ ap (λ (q : Master). q.pages) (sym a.master));
      };
      frames = subst (λ (q : Provider). 32 ≤ q.frames) (sym a.pager) ready.frames;
      few = subst (λ (q : Provider). q.frames ≤ 2 ^ 16) (sym a.pager) ready.few;
      outside = outside_on (view_of m) (view_of n) own e r given happened k ready.outside;
    }
