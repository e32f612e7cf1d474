-- A key was read behind the coming of the pages of its way.
use Rattle.std.proofs.Common.{◌≡◌, ◌∙◌, ◌⊎◌, inl, inr, ◌%◌, ◌++◌, ℕ, Bool, true, false, [], Option, Result, Ok, Err, ap, refl, sym, subst, arith, true≢false}
use Rattle.map_model.specs.Lists.{Has}
use Rattle.paged_desks.specs.core_calls.Fronts.{front}
use Rattle.paged_desks.specs.core_state.Openings.{Opening}
use Rattle.paged_desks.specs.core_state.States.{State}
use Rattle.lean_disk.specs.Faults.{HasCause}
use Rattle.lean_disk.specs.Story.{IsLawful, Story}
use Rattle.paged_desks.specs.call_parts.Memory.{IsOf, Memory}
use Rattle.paged_desks.specs.call_parts.Parts.{Part}
use Rattle.paged_desks.specs.disk_runs.Stands.{Stands}
use Rattle.row_room.specs.row_changes.Reads.{HasRead}
use Rattle.row_room.specs.row_changes.Ways.{HasMetCold}
use Rattle.paged_desks.proofs.session_desks.DeskLemmas.{desk_own}
use Rattle.paged_desks.proofs.session_desks.SeatLemmas.{holds_of, turn_high, turn_low}
use Rattle.paged_desks.specs.session_desks.Desks.{desk_of}
use Rattle.paged_desks.specs.session_desks.Parts.{SeatFits, here, shape}
use Rattle.paged_desks.specs.session_desks.declared.desk.Desk.{Desk}
use Rattle.paged_desks.specs.session_state.Held.{Held}
use Rattle.paged_desks.specs.session_state.Holds.{Holds as HoldsSession}
use Rattle.paged_desks.specs.session_state.Staging.{IsButClock}
use Rattle.paged_desks.specs.session_state.declared.session.Session.{Session}
use Rattle.paged_desks.specs.Machines.{IsReady, memory, view_of}
use Rattle.paged_desks.specs.Pages.{HasPagedWhere, IsKept, goes_on}
use Rattle.paged_desks.specs.Parts.{HasFailed, HasGone, IsSpent, StandsNowhere}
use Rattle.paged_desks.specs.declared.machine.PagedMachine.{PagedMachine}
use Rattle.paged_desks.specs.declared.warming.Unwarmed.{Unwarmed}
use Rattle.paged_desks.specs.declared.warming.Unwarmed.TheVariants as stopped
use Rattle.paged_calls.specs.Steps.{HasCome, HasReadWarm, Holds, IsStill, ReadsWarm}
use Rattle.paged_desks.specs.Calls.{IsBeside}
use Rattle.paged_desks.proofs.EndingLemmas.{Grounds}
use Rattle.paged_calls.proofs.PieceLemmas.{behind_as, none_part, part_from}
use Rattle.paged_desks.proofs.StandLemmas.{halves_are, memory_is}

-- ## Faults

-- told by other words
pub cause_as : (before now : ℕ) (P Q : Type 0) → (P → Q) → (Q → P) → HasCause before now P → HasCause before now Q
cause_as before now P Q f h c = record { later = c.later; cause = λ q. c.cause (h q); calm = λ n. c.calm (λ p. n (f p)) }

pub cause_none : (before now : ℕ) (P : Type 0) → now ≡ before → (P → ⊥) → HasCause before now P
cause_none before now P e never = record { later = (let q = e in omega arith); cause = λ p. absurd (never p); calm = λ _. e }

-- counts that are the same
pub cause_at : (a b c d : ℕ) (P : Type 0) → a ≡ b → d ≡ c → HasCause b c P → HasCause a d P
cause_at a b c d P e f h = subst (λ n. HasCause a n P) (sym f) (subst (λ n. HasCause n c P) (sym e) h)

-- a refusal of another kind of answer
abbrev why_in : {A : Type 0} → Unwarmed → Result A Unwarmed → Unwarmed
why_in other (Ok a) = other
why_in other (Err why) = why

pub err_to : (A B : Type 0) (p q : Unwarmed) → ◌≡◌ {A = Result A Unwarmed} (Err p) (Err q) → ◌≡◌ {A = Result B Unwarmed} (Err p) (Err q)
err_to A B p q e = ap (λ (w : Unwarmed). Err w) (ap (why_in p) e)

abbrev is_ok : {A : Type 0} → Result A Unwarmed → Bool
is_ok (Ok a) = true
is_ok (Err why) = false

pub ok_err : (A : Type 0) (a : A) (q : Unwarmed) → ◌≡◌ {A = Result A Unwarmed} (Ok a) (Err q) → ⊥
ok_err A a q e = true≢false (ap is_ok e)

-- ## What a call holds

-- where its session has the same rows
pub holds_on : {D : Type 0} (story : D → Story) (m n : PagedMachine D) → IsReady story m → IsReady story n → (key : ℕ) → n.machine.work.session.own ≡ m.machine.work.session.own → n.machine.work.session.is_open ≡ m.machine.work.session.is_open → n.machine.work.session.held ≡ m.machine.work.session.held → Holds key m → Holds key n
holds_on story m n a b key own is_open held h = record {
  is_open = is_open ∙ h.is_open;
  row = (now.held (key % n.machine.work.session.held.count)).1 (subst (λ (k : Held). Has (key % k.count) k.rows) (sym held) ((was.held (key % m.machine.work.session.held.count)).0 h.row));
}
  where
    was : HoldsSession (shape m.machine) (view_of m) m.machine.work.session m.machine.work.log
    was = holds_of (shape m.machine) (view_of m) (here m.machine) m.machine.desks.items a.sound.desks

    now : HoldsSession (shape n.machine) (view_of n) n.machine.work.session n.machine.work.log
    now = holds_of (shape n.machine) (view_of n) (here n.machine) n.machine.desks.items b.sound.desks

-- the session whose turn it is, behind the coming of pages
pub kept_own : {P : Opening → State → Type 0} {D : Type 0} (story : D → Story) (key most : ℕ) (m n : PagedMachine D) → IsReady story m → HasPagedWhere P most m n → IsKept m.machine.work.session n.machine.work.session
kept_own story key most m n ready p =
    subst (λ (d : Desk). IsKept m.machine.work.session d.session) (desk_own (here n.machine) n.machine.desks.items m.machine.work.session.own (sym p.turn))
    (subst (λ (d : Desk). IsKept d.session (desk_of (here n.machine) n.machine.desks.items m.machine.work.session.own).session) (desk_own (here m.machine) m.machine.desks.items m.machine.work.session.own refl)
    (p.sessions m.machine.work.session.own (turn_low (shape m.machine) (view_of m) (here m.machine) m.machine.desks.items ready.sound.desks) (turn_high (shape m.machine) (view_of m) (here m.machine) m.machine.desks.items ready.sound.desks)))

module _ (l : Grounds) {D : Type 0} (story : D → Story) (lawful : (d : D) → IsLawful (story d)) (key : ℕ) where
  pub beside_self : (m : PagedMachine D) → IsBeside m m
  beside_self m = record { shape = refl; disk = refl; log = refl; desks = refl; latches = refl; master = refl; pager = refl }

  -- ## No page was missing

  pub come_none : (m : PagedMachine D) → HasCome story key m m
  come_none m = record { events = []; paging = tt; few = omega arith; part = none_part l story lawful m m (beside_self m) refl m.machine.work.session.workers refl refl; tight = λ g xs first b. tt; same = (refl, refl); turn = refl; halves = λ w lo hi. refl }

  pub read_at_once : (m n : PagedMachine D) (value : Option ℕ) → HasRead m.machine.work.session.own (view_of m) (view_of n) key value → IsBeside m n → IsButClock m.machine.work.session n.machine.work.session → HasReadWarm story key value m n
  read_at_once m n value read beside session = record { between = m; come = come_none m; read = read; beside = beside; session = session }

  -- ## Pages came

  -- from a machine on that is still as it was
  module _ (m u : PagedMachine D) (s : IsStill story m u) where
    own_is : u.machine.work.session.own ≡ m.machine.work.session.own
    own_is = ap (λ (x : Session). x.own) s.session

    workers_is : u.machine.work.session.workers ≡ m.machine.work.session.workers
    workers_is = ap (λ (x : Session). x.workers) s.session

    memory_same : memory u ≡ memory m
    memory_same = memory_is story m u s.beside own_is

    pub come_from : (most : ℕ) (n : PagedMachine D) → HasGone story key most u n → HasCome story key m n
    come_from most n g = record {
      events = g.paged.events;
      paging = g.paged.paging;
      few = g.few;
      part = part_from m.machine.work.session.workers g.paged.events (view_of m) (view_of u) (view_of n) (memory m) (memory n) (story m.machine.work.disk) (story n.machine.work.disk) s.given s.seen
          (subst (λ (d : D). Part m.machine.work.session.workers g.paged.events (view_of u) (view_of n) (memory m) (memory n) (story d) (story n.machine.work.disk)) s.beside.disk
          (subst (λ (k : Memory). Part m.machine.work.session.workers g.paged.events (view_of u) (view_of n) k (memory n) (story u.machine.work.disk) (story n.machine.work.disk)) memory_same
          (subst (λ w. Part w g.paged.events (view_of u) (view_of n) (memory u) (memory n) (story u.machine.work.disk) (story n.machine.work.disk)) workers_is g.part)));
      tight = λ h xs first b. g.paged.tight h xs first (behind_as h xs first (view_of m) (view_of u) s.given s.seen b);
      same = (g.paged.same.0 ∙ workers_is, g.paged.same.1 ∙ ap (λ (x : Session). x.group) s.session);
      turn = g.paged.turn ∙ own_is;
      halves = λ w lo hi. ap (λ (x : Session). x.is_half_aborted) (g.paged.sessions w lo (let e = workers_is in omega arith)).session ∙ halves_are story m u s.beside own_is (ap (λ (x : Session). x.is_half_aborted) s.session) w;
    }

    pub spent_from : (n : PagedMachine D) → IsSpent u n → IsSpent m n
    spent_from n (inl many) = inl many
    spent_from n (inr h) = inr (record { session = h.session; low = h.low; high = (let e = workers_is in let k = h.high in omega arith); half = sym (halves_are story m u s.beside own_is (ap (λ (x : Session). x.is_half_aborted) s.session) h.session) ∙ h.half })

    pub nowhere_from : StandsNowhere story u → StandsNowhere story m
    nowhere_from nowhere g xs first b s0 a st o = nowhere g xs first (behind_as g xs first (view_of m) (view_of u) s.given s.seen b) s0 a
        (subst (λ (d : D). Stands g (front xs ++ first) s0 a (story d)) (sym s.beside.disk) st) (subst (λ (k : Memory). IsOf g k a) (sym memory_same) o)

    -- by why they did not come all
    pub err_reads : (most : ℕ) (n : PagedMachine D) (why : Unwarmed) → (goes_on {A = Unit {0}} (Err why) ≡ true → HasGone story key most u n) → (goes_on {A = Unit {0}} (Err why) ≡ false → HasFailed story u n)
        → (◌≡◌ {A = Result (Unit {0}) Unwarmed} (Err why) (Err stopped.RowSpent) → IsSpent u n) → ((page : ℕ) → (◌≡◌ {A = Result (Unit {0}) Unwarmed} (Err why) (Err (stopped.Damaged page))) ⊎ (◌≡◌ {A = Result (Unit {0}) Unwarmed} (Err why) (Err (stopped.Altered page))) → StandsNowhere story u) → ReadsWarm story key (Err why) m n
    err_reads most n stopped.RowSpent gone failed spent damaged = (come_from most n (gone refl), spent_from n (spent refl))
    err_reads most n stopped.DiskFault gone failed spent damaged = record { between = u; still = s; failed = failed refl }
    err_reads most n (stopped.Damaged page) gone failed spent damaged = (record { between = u; still = s; failed = failed refl }, nowhere_from (damaged page (inl refl)))
    err_reads most n (stopped.Altered page) gone failed spent damaged = (record { between = u; still = s; failed = failed refl }, nowhere_from (damaged page (inr refl)))

    -- and the key was read
    pub read_behind : (most : ℕ) (n k : PagedMachine D) (value : Option ℕ) → HasGone story key most u n → HasRead n.machine.work.session.own (view_of n) (view_of k) key value → IsBeside n k → IsButClock n.machine.work.session k.machine.work.session → HasReadWarm story key value m k
    read_behind most n k value gone read beside session = record {
      between = n;
      come = come_from most n gone;
      read = subst (λ w. HasRead w (view_of n) (view_of k) key value) (gone.paged.turn ∙ own_is) read;
      beside = beside;
      session = session;
    }

-- a page that is not hot was met, and nothing was seen
pub still_of : {D : Type 0} (story : D → Story) (m n : PagedMachine D) (key page : ℕ) → IsBeside m n → HasMetCold key page (view_of m) (view_of n) → n.machine.work.session ≡ m.machine.work.session → IsStill story m n
still_of story m n key page b h e = record { given = h.given; seen = h.seen; session = e; beside = b }

-- ## Where it failed

-- the seat is that of the rows still
pub fits_warm : {D : Type 0} (story : D → Story) (key : ℕ) (why : Unwarmed) (m n : PagedMachine D) → ReadsWarm story key (Err why) m n → (goes_on {A = Option ℕ} (Err why) ≡ true → IsReady story n) → SeatFits n.machine
fits_warm story key stopped.RowSpent m n r ready = (ready refl).sound.fits
fits_warm story key stopped.DiskFault m n r ready = r.failed.fits
fits_warm story key (stopped.Damaged page) m n r ready = r.0.failed.fits
fits_warm story key (stopped.Altered page) m n r ready = r.0.failed.fits
