-- From the parts of a sync to the whole, by what its rows and its disk show.
use Rattle.std.proofs.Common.{◌≡◌, ◌≤◌, ◌<◌, ◌+◌, ◌*◌, ◌^◌, ◌⊎◌, inl, inr, ◌==◌, ℕ, zero, suc, Bool, true, false, List, [], ◌∷◌, length, get_or, Result, Ok, Err, IfOk, refl, sym, ap, ◌∙◌, subst, arith, true≢false}
use Rattle.std.proofs.lemmas.Bool.{and_from, and_parts, cases_eq, cases_lt, eq-eqb, eqb-true}
use Rattle.map_model.specs.Lists.{all}
use Rattle.session_state.specs.disk_slots.declared.master.Master.{Master}
use Rattle.session_state.specs.disk_runs.MasterLaws.{raised}
use Rattle.session_state.specs.core_disk.Versions.{EveryVersion}
use Rattle.session_state.specs.disk_image.Laws.{EverySealed}
use Rattle.lean_disk.specs.Story.{IsLawful, Story}
use Rattle.session_state.specs.row_opening.Openings.{EveryNeed, EveryReached}
use Rattle.session_state.specs.rows_trait.declared.view.View.{View}
use Rattle.session_state.specs.rows_trait.Views.{Shape, state}
use Rattle.session_state.specs.worker_log.Laws.{EveryKept, EveryPrefix}
use Rattle.session_state.specs.Numbers.{AreClocksLow}
use Rattle.session_state.specs.Syncs.{HasSynced, synced_session}
use Rattle.session_state.specs.declared.session.Session.{Session}
use Rattle.session_desks.specs.Desks.{desk_of, log_of, place_of}
use Rattle.session_desks.specs.Machines.{AreDesks, AreLogged, HasNumbers}
use Rattle.session_desks.specs.Runs.{memory_with}
use Rattle.session_desks.specs.Syncs.{AllEndAt, AllFlushed, AreRaised, AreRaisedTo, AreStill, AreSynced, Flushed, HasOpening, IsWriting, IsWritten, MeetsSync, SyncFails, SyncMade, all_end_at, ends_at, greatest, next_with, raised_desk}
use Rattle.session_desks.specs.declared.desk.Desk.{Desk}
use Rattle.session_desks.proofs.DeskLemmas.{desk_apart, desk_own, get_any, place_low}
use Rattle.session_desks.proofs.NumberLemmas.{numbers_next, sequence_small}
use Rattle.session_desks.proofs.SeatLemmas.{turn_high, turn_low}
use Rattle.session_desks.proofs.SyncMachines.{desk_raised, logged_flushed}
use Rattle.session_desks.proofs.SyncNeeds as needs
use Rattle.session_desks.proofs.SyncWholes.{master_fails, sync_goes}

-- ## Sessions

synced_by : (o m y : Session) (n : ℕ) → m ≡ record o { free = m.free; unflushed = m.unflushed } → y ≡ synced_session m n → y ≡ record o { clock = record o.clock { clock = n }; free = y.free; unflushed = 0 }
synced_by o m y n p q = q ∙ (ap (λ (s : Session). synced_session s n) p ∙ (λ i. record o { clock = record o.clock { clock = n }; free = sym (ap (λ (s : Session). s.free) q) i; unflushed = 0 }))

-- the sessions in the store and at the desks were raised
pub raised_to : (z : Shape) (v : View) (work new : Desk) (desks news : List Desk) (n : ℕ) → AreDesks z v work desks → AreRaised desks news n → new.session ≡ synced_session work.session n → new.log ≡ raised work.log n → AreRaisedTo work.session.workers work desks new news n
raised_to z v work new desks news n are r s l w low high = subst (λ (d : Desk). desk_of d news w ≡ raised_desk (desk_of work desks w) n) (λ i. record { session = sym s i; log = sym l i }) (desk_raised z v work desks news n are r w low high)

-- ## By results

pub if_ok : {A E : Type 0} {P Q R : A → Type 0} (r : Result A E) → IfOk r P → IfOk r Q → ((a : A) → P a → Q a → R a) → IfOk r R
if_ok (Ok x) p q f = f x p q
if_ok (Err e) p q f = tt

pub if_all : {A E : Type 0} {P Q R S T : A → Type 0} (r : Result A E) → IfOk r P → IfOk r Q → IfOk r R → IfOk r S → ((a : A) → P a → Q a → R a → S a → T a) → IfOk r T
if_all (Ok x) p q t s f = f x p q t s
if_all (Err e) p q t s f = tt

-- ## By desks

module _ (z : Shape) (v : View) (work : Desk) (desks : List Desk) (are : AreDesks z v work desks) (P : Desk → Type 0) (each : (w : ℕ) → 0 < w → w ≤ work.session.workers → P (desk_of work desks w)) where
  -- what holds of each session holds of the one in the store
  pub at_store : P work
  at_store = subst P (desk_own work desks work.session.own refl) (each work.session.own (turn_low z v work desks are) (turn_high z v work desks are))

  -- and of each at a desk
  pub at_desk : (i : ℕ) (d : Desk) → i < length desks → P (get_or desks i d)
  at_desk i d lt = let s = needs.seats work.session.own i in
      subst P (desk_apart work desks s.0 s.1.other ∙ (ap (λ (k : ℕ). get_or desks k work) s.1.place ∙ get_any desks i work d lt)) (each s.0 s.1.low (high s.1.high))
    where
      high : {w : ℕ} → (w ≡ suc (suc i)) ⊎ (w ≡ 1) → w ≤ work.session.workers
      high (inl e) = let b = are.count in omega arith
      high (inr e) = let a = turn_low z v work desks are in let b = turn_high z v work desks are in omega arith

-- ## Ends of logs

ends_each : (n : ℕ) (ds : List Desk) → all (ends_at n) ds ≡ true → (i : ℕ) (x : Desk) → i < length ds → (get_or ds i x).log.last ≡ n
ends_each n [] e i x lt = absurd (omega arith)
ends_each n (d ∷ ds) e zero x lt = eqb-true d.log.last n (and_parts (d.log.last == n) (all (ends_at n) ds) e).0
ends_each n (d ∷ ds) e (suc i) x lt = ends_each n ds (and_parts (d.log.last == n) (all (ends_at n) ds) e).1 i x (omega arith)

each_ends : (n : ℕ) (ds : List Desk) → ((i : ℕ) (x : Desk) → i < length ds → (get_or ds i x).log.last ≡ n) → all (ends_at n) ds ≡ true
each_ends n [] each = refl
each_ends n (d ∷ ds) each = and_from (d.log.last == n) (all (ends_at n) ds) (eq-eqb d.log.last n (each 0 d (omega arith))) (each_ends n ds (λ i x lt. each (suc i) x (omega arith)))

-- whether each log ends at the number
module _ (z : Shape) (v : View) (work : Desk) (desks : List Desk) (are : AreDesks z v work desks) (n : ℕ) where
  pub end_at_all : all_end_at n work.log desks ≡ true → AllEndAt work.session.workers n (log_of work desks)
  end_at_all e w low high = elim (cases_eq w work.session.own) [
    | inl q ↦ ap (λ (d : Desk). d.log.last) (desk_own work desks w q) ∙ eqb-true work.log.last n both.0
    | inr other ↦ ap (λ (d : Desk). d.log.last) (desk_apart work desks w other)
        ∙ ends_each n desks both.1 (place_of work.session.own w) work (place_low work.session.own w work.session.workers desks are.count (turn_low z v work desks are) (turn_high z v work desks are) low high other)
  ]
    where
      both : ((work.log.last == n) ≡ true) × (all (ends_at n) desks ≡ true)
      both = and_parts (work.log.last == n) (all (ends_at n) desks) e

  pub end_at_from : AllEndAt work.session.workers n (log_of work desks) → all_end_at n work.log desks ≡ true
  end_at_from all_end = and_from (work.log.last == n) (all (ends_at n) desks) (eq-eqb work.log.last n (at_store z v work desks are (λ d. d.log.last ≡ n) all_end))
      (each_ends n desks (at_desk z v work desks are (λ d. d.log.last ≡ n) all_end))

  pub end_at_none : all_end_at n work.log desks ≡ false → AllEndAt work.session.workers n (log_of work desks) → ⊥
  end_at_none e all_end = true≢false (sym (end_at_from all_end) ∙ e)

-- ## What a sync needs

module _ (reached : EveryReached) (z : Shape) (u : View) (work : Desk) (desks : List Desk) (are : AreDesks z u work desks) (master : Master) (numbers : HasNumbers master (length u.seen) work.session.workers) (o : HasOpening u.given) (logged : AreLogged (state u).core (log_of work desks) work.session.workers)
    (flushed : AllFlushed work.session.workers (log_of work desks)) (clocks : AreClocksLow u) where
  abbrev number : ℕ
  number = greatest work.session.clock.clock desks

  pub may_sync : MeetsSync work.session.workers number master u (log_of work desks)
  may_sync = record {
    met = needs.sync_met z u work desks are reached o logged flushed;
    within = needs.within z u work desks are;
    counted = λ w low high. (logged w low high).flushed ∙ flushed w low high;
    low = needs.number_small z u work desks are clocks;
    small = sequence_small master (length u.seen) work.session.workers numbers;
  }

  pub may_sync_at : (n : ℕ) → n ≡ number → MeetsSync work.session.workers n master u (log_of work desks)
  may_sync_at n e = subst (λ k. MeetsSync work.session.workers k master u (log_of work desks)) (sym e) may_sync

  -- behind it the master's floor is at most the number, and it has numbers for more
  module _ (floor : master.floor ≤ (state u).core.floor) where
    module _ (some_below : all_end_at number work.log desks ≡ false) where
      above_floor : (state u).core.floor < number
      above_floor = elim (cases_lt (state u).core.floor number) [
        | inl lt ↦ lt
        | inr le ↦ absurd (true≢false (sym (end_at_from z u work desks are number (needs.end_at_floor z u work desks are reached o logged flushed le)) ∙ some_below))
      ]

      high : number ≤ 2 ^ 62 + 66 * 16
      high = go (needs.low_or_floor z u work desks are reached o logged flushed clocks)
        where
          go : (number ≤ 2 ^ 62 + 66 * 16) ⊎ (number ≡ (state u).core.floor) → number ≤ 2 ^ 62 + 66 * 16
          go (inl le) = le
          go (inr e) = let a = above_floor in absurd (omega arith)

    pub numbers_new : (next : Master) (all_end : Bool) → all_end ≡ all_end_at number work.log desks → (all_end ≡ true → next ≡ master) → (all_end ≡ false → next ≡ next_with master number) → (next.floor ≤ number) × HasNumbers next (length u.seen) work.session.workers
    numbers_new next true e still wrote =
        let low = needs.floor_low z u work desks are reached o logged flushed in let f = ap (λ (m : Master). m.floor) (still refl) in
        (omega arith, subst (λ (m : Master). HasNumbers m (length u.seen) work.session.workers) (sym (still refl)) numbers)
    numbers_new next false e still wrote =
        let f = ap (λ (m : Master). m.floor) (wrote refl) in let up = above_floor (sym e) in (
          omega arith,
          subst (λ (m : Master). HasNumbers m (length u.seen) work.session.workers) (sym (wrote refl)) (numbers_next master number (length u.seen) work.session.workers numbers (omega arith) (λ q. omega arith) (high (sym e))),
        )

-- ## Behind the flushes

module _ (z : Shape) (v u : View) (work mid : Desk) (desks desks_mid : List Desk) {D : Type 0} (story : D → Story) (old between : D) (same : mid.session.workers ≡ work.session.workers) (logged : AreLogged (state v).core (log_of work desks) work.session.workers)
    (f : Flushed work.session.workers work.session.workers v u (log_of work desks) (log_of mid desks_mid) (story old) (story between)) (are : AreDesks z u mid desks_mid) where
  on_store : (a : ℕ) → a ≤ mid.session.workers → a ≤ work.session.workers
  on_store a h = subst (λ k. a ≤ k) same h

  flushed_at : (a : ℕ) → 0 < a → a ≤ mid.session.workers → (state u).core.flushed a ≡ (log_of mid desks_mid a).flushed
  flushed_at a some most = let d = are.each a some most in ap (λ k. (state u).core.flushed k) (sym d.own) ∙ d.holds.flushed

  pub all_flushed : AllFlushed mid.session.workers (log_of mid desks_mid)
  all_flushed a some most = f.flushed a some (on_store a most)

  pub all_logged : AreLogged (state u).core (log_of mid desks_mid) mid.session.workers
  all_logged a some most = logged_flushed v u work.session.workers (log_of work desks) (log_of mid desks_mid) (story old) (story between) logged (λ b low high. flushed_at b low (subst (λ k. b ≤ k) (sym same) high)) f a some (on_store a most)

  pub opens_still : HasOpening v.given → HasOpening u.given
  opens_still o = subst HasOpening (sym f.given) o

  module _ (reached : EveryReached) (master : Master) (numbers : HasNumbers master (length u.seen) mid.session.workers) (o : HasOpening v.given) (clocks : AreClocksLow u) where
    abbrev n : ℕ
    n = greatest mid.session.clock.clock desks_mid

    ready : MeetsSync work.session.workers n master u (log_of mid desks_mid)
    ready = subst (λ k. MeetsSync k n master u (log_of mid desks_mid)) same (may_sync reached z u mid desks_mid are master numbers (opens_still o) all_logged all_flushed clocks)

    -- it was made
    pub sync_made : EveryNeed → ((d : D) → IsLawful (story d)) → EveryKept → EveryPrefix → EverySealed → EveryVersion → (number : ℕ) → number ≡ n → (w : View) (new_store : Desk) (news : List Desk) (next : Master) (new : D) → HasSynced u w number → AreRaisedTo mid.session.workers mid desks_mid new_store news number
        → IsWritten story mid.session.workers number (log_of mid desks_mid) master next between new → SyncMade story work.session.workers number v w (memory_with (log_of work desks) master) (memory_with (log_of new_store news) next) old new
    sync_made need laws keeps prefixes seals versions number e w new_store news next new sync rises written = record {
      view = u;
      logs = log_of mid desks_mid;
      between = between;
      flushed = f;
      ready = ready_at;
      synced = sync;
      raised = raised_at;
      written = written_at;
      whole = sync_goes reached need work.session.workers number v u (memory_with (log_of work desks) master) (log_of mid desks_mid) story laws old between f ready_at keeps prefixes seals versions w (memory_with (log_of new_store news) next) sync raised_at new written_at;
    }
      where
        ready_at : MeetsSync work.session.workers number master u (log_of mid desks_mid)
        ready_at = subst (λ k. MeetsSync work.session.workers k master u (log_of mid desks_mid)) (sym e) ready

        raised_at : (a : ℕ) → 0 < a → a ≤ work.session.workers → log_of new_store news a ≡ raised (log_of mid desks_mid a) number
        raised_at a some most = ap (λ (d : Desk). d.log) (rises a some (subst (λ k. a ≤ k) (sym same) most))

        written_at : IsWritten story work.session.workers number (log_of mid desks_mid) master next between new
        written_at = subst (λ k. IsWritten story k number (log_of mid desks_mid) master next between new) same written

    -- its sessions
    pub sync_sessions : (number : ℕ) → number ≡ n → (new_store : Desk) (news : List Desk) → AreStill work.session.workers work desks mid desks_mid → AreRaisedTo mid.session.workers mid desks_mid new_store news number → AreSynced work.session.workers work desks new_store news number
    sync_sessions number e new_store news still raised a some most =
        let on = subst (λ k. a ≤ k) (sym same) most in (
          (let b = needs.desk_low z u mid desks_mid are a some on in let c = ap (λ (s : Session). s.clock.clock) (still a some most) in omega arith),
          synced_by (desk_of work desks a).session (desk_of mid desks_mid a).session (desk_of new_store news a).session number (still a some most) (ap (λ (d : Desk). d.session) (raised a some on)),
        )

    -- a device failed at the master
    pub sync_fails : EveryNeed → ((d : D) → IsLawful (story d)) → (new : D) → IsWriting (next_with master n) (story between) (story new) → SyncFails work.session.workers v (memory_with (log_of work desks) master) (story old) (story new)
    sync_fails need laws new writes = master_fails reached need work.session.workers n v u (memory_with (log_of work desks) master) (log_of mid desks_mid) story laws old between f ready (story new) writes
