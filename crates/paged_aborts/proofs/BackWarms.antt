-- A change that is put back at once, or behind the coming of the pages of its key's way, by answer.
use Rattle.std.proofs.Common.{◌≡◌, ◌∙◌, ◌≤◌, ◌+◌, ◌*◌, ◌++◌, ◌⊎◌, inl, inr, ℕ, suc, true, false, List, [], ◌∷◌, length, Result, Ok, Err, ap, refl, sym, subst, arith}
use Rattle.std.proofs.Math.Nat.{mul-le-mul_right}
use Rattle.paged_desks.specs.core_calls.LogEvents.{EveryWhere}
use Rattle.lean_disk.specs.Story.{IsLawful, Story}
use Rattle.map_model.specs.declared.call.Refusal.TheVariants as refusal
use Rattle.paged_desks.specs.engine_trait.declared.unserved.Unanswered.TheVariants as unanswered
use Rattle.paged_desks.specs.engine_trait.declared.unserved.Unserved.{Unserved}
use Rattle.paged_desks.specs.engine_trait.declared.unserved.Unserved.TheVariants as unserved
use Rattle.paged_desks.specs.row_words.Moments.{events_of}
use Rattle.row_changes.specs.declared.ways.Cold.{Cold}
use Rattle.row_changes.specs.declared.ways.Unmade.{Unmade}
use Rattle.row_changes.specs.declared.ways.Unmade.TheVariants as unmade
use Rattle.paged_desks.proofs.session_desks.SeatLemmas.{holds_of}
use Rattle.paged_desks.specs.session_desks.Parts.{SeatFits, here, shape}
use Rattle.paged_desks.specs.session_state.Holds.{IsSameSession}
use Rattle.paged_desks.specs.session_state.declared.undo.Undone.{Undone}
use Rattle.paged_desks.specs.session_state.declared.work.Work.{Work}
use Rattle.paged_desks.proofs.EndingLemmas.{Grounds}
use Rattle.paged_desks.specs.Calls.{IsAside, unserved_of}
use Rattle.paged_desks.specs.Machines.{IsReady, view_of}
use Rattle.paged_desks.specs.Pages.{goes_on, most_a_level}
use Rattle.paged_desks.specs.Parts.{HasFailed, HasGone, IsLateOrStuck, StandsNowhere}
use Rattle.paged_desks.specs.declared.machine.PagedMachine.{PagedMachine}
use Rattle.paged_desks.specs.declared.warming.Unwarmed.{Unwarmed}
use Rattle.paged_desks.specs.declared.warming.Unwarmed.TheVariants as stopped
use Rattle.paged_aborts.specs.Backs.{BacksInLeaf, HasUndone, IsDamaged, IsGivenUp, IsWhy, NoneLeft, OneLess, PutsBack, SoFar, most_a_back, most_in_all}
use Rattle.paged_aborts.proofs.UndoneLemmas.{behind_a, failed_come, failed_log, failed_lost, failed_then, failed_up, undone_come, undone_one, undone_same, undone_then, undone_up}

why_of : {D : Type 0} (key : ℕ) (n : PagedMachine D) → IsLateOrStuck key n → IsWhy n
why_of key n (inl late) = inl late
why_of key n (inr stuck) = inr (key, stuck)

module _ (l : Grounds) (places : EveryWhere) {D : Type 0} (story : D → Story) (lawful : (d : D) → IsLawful (story d)) where
  -- behind changes that were put back
  pub nowhere_then : (m k : PagedMachine D) (i : ℕ) → HasUndone story i m k → StandsNowhere story k → StandsNowhere story m
  nowhere_then m k i a off g xs first b s0 y st is =
      let r = a.part.goes g xs first b s0 y st is in
      off g xs (first ++ events_of a.events) (behind_a l places story lawful m k k i 0 a g xs first b) s0 r.known r.moved.stands r.has

  -- where rows did not begin faithful no run stands
  pub nowhere_of : (m : PagedMachine D) → ((view_of m).given.faithful ≡ true → ⊥) → StandsNowhere story m
  nowhere_of m not g xs first b s0 y st is = not (sym b.opens.faithful ∙ st.is.faithful)

  -- ## The pages did not come all

  pub come_refused : (key : ℕ) (m k : PagedMachine D) → IsReady story m → (Left : PagedMachine D → PagedMachine D → Type 0) (why : Unwarmed)
      → (goes_on {A = Unit {0}} (Err why) ≡ true → HasGone story key (9 * most_a_level m.machine.work.session.workers) m k) → (goes_on {A = Unit {0}} (Err why) ≡ false → HasFailed story m k)
      → (◌≡◌ {A = Result (Unit {0}) Unwarmed} (Err why) (Err stopped.RowSpent) → IsLateOrStuck key k)
      → ((page : ℕ) → (◌≡◌ {A = Result (Unit {0}) Unwarmed} (Err why) (Err (stopped.Damaged page))) ⊎ (◌≡◌ {A = Result (Unit {0}) Unwarmed} (Err why) (Err (stopped.Altered page))) → StandsNowhere story m)
      → PutsBack story (most_a_back m.machine.work.session.workers) Left (Err (unserved_of why)) m k
  come_refused key m k ready Left stopped.RowSpent gone failed tight damaged = (undone_up l places story lawful m k (9 * most_a_level m.machine.work.session.workers) (most_a_back m.machine.work.session.workers) (omega arith) (undone_come l places story lawful m k ready (gone refl)), why_of key k (tight refl))
  come_refused key m k ready Left stopped.DiskFault gone failed tight damaged = failed_up l places story lawful m k (9 * most_a_level m.machine.work.session.workers) (most_a_back m.machine.work.session.workers) (omega arith) (failed_come l places story lawful m k ready (failed refl))
  come_refused key m k ready Left (stopped.Damaged page) gone failed tight damaged = (failed_up l places story lawful m k (9 * most_a_level m.machine.work.session.workers) (most_a_back m.machine.work.session.workers) (omega arith) (failed_come l places story lawful m k ready (failed refl)), damaged page (inl refl))
  come_refused key m k ready Left (stopped.Altered page) gone failed tight damaged = (failed_up l places story lawful m k (9 * most_a_level m.machine.work.session.workers) (most_a_back m.machine.work.session.workers) (omega arith) (failed_come l places story lawful m k ready (failed refl)), damaged page (inr refl))

  -- ## A try, behind so many events at most

  module _ (m k n : PagedMachine D) (i : ℕ) (few : suc i ≤ most_a_back m.machine.work.session.workers) (come : HasUndone story i m k) (ready : IsReady story k) (a : IsAside k n) (same : IsSameSession k.machine.work.session n.machine.work.session) where
    abbrev most : ℕ
    most = most_a_back m.machine.work.session.workers

    -- it was put back
    pub tried_ok : k.machine.work.session.undo ≡ m.machine.work.session.undo → BacksInLeaf story (Ok tt) k n → PutsBack story most OneLess (Ok tt) m n
    tried_ok undo c = (undone_up l places story lawful m n (i + 1) most (let q = few in omega arith) (undone_then l places story lawful m k n i 1 come (undone_one l places story lawful k n ready a same c)), c.fewer ∙ ap length undo)

    -- nothing was seen
    met : n.machine.work ≡ k.machine.work → (view_of n).given ≡ (view_of k).given → (view_of n).seen ≡ (view_of k).seen → HasUndone story (i + 0) m n
    met e given seen = undone_then l places story lawful m k n i 0 come (undone_same l places story lawful k n a e given seen)

    refused : SeatFits n.machine → (why : Unserved) → BacksInLeaf story (Err (unmade.Unserved why)) k n → PutsBack story most OneLess (Err why) m n
    refused fits (unserved.Refused refusal.RowSpent) d = (undone_up l places story lawful m n (i + 0) most (let q = few in omega arith) (met d.1 d.0.given d.0.seen), inl (inl d.0.many))
    refused fits (unserved.Unanswered unanswered.DiskFault) d = failed_up l places story lawful m n (i + 0) most (let q = few in omega arith) (failed_then l places story lawful m k n i 0 come (failed_log l places story lawful k n ready same d fits))
    refused fits _ d = absurd d

    pub tried_err : SeatFits n.machine → (why : Unserved) (made : Unmade) → made ≡ unmade.Unserved why → BacksInLeaf story (Err made) k n → PutsBack story most OneLess (Err why) m n
    tried_err fits why made is d = refused fits why (subst (λ (r : Unmade). BacksInLeaf story (Err r) k n) is d)

    -- its leaf has lost the entry
    lost : (o : PagedMachine D) → IsGivenUp n o → BacksInLeaf story (Err unmade.Lost) k n → ((view_of k).given.faithful ≡ true → ⊥) → (why : Unserved) → IsDamaged why → PutsBack story most OneLess (Err why) m o
    lost o u d not (unserved.Unanswered (unanswered.Damaged place)) is = (
      failed_up l places story lawful m o ((i + 0) + 0) most (let q = few in omega arith) (failed_then l places story lawful m n o (i + 0) 0 (met d.1 d.0.given d.0.seen) (failed_lost l places story lawful n o u)),
      nowhere_then m k i come (nowhere_of k not),
    )
    lost o u d not _ is = absurd is

    pub tried_lost : (o : PagedMachine D) → IsGivenUp n o → (made : Unmade) → made ≡ unmade.Lost → BacksInLeaf story (Err made) k n → ((view_of k).given.faithful ≡ true → ⊥) → (why : Unserved) → IsDamaged why → PutsBack story most OneLess (Err why) m o
    tried_lost o u made is d not why damaged = lost o u (subst (λ (r : Unmade). BacksInLeaf story (Err r) k n) is d) not why damaged

  -- ## A page of the way was not hot

  met_cold : (m u : PagedMachine D) (made : Unmade) (cold : Cold) → made ≡ unmade.Cold cold → BacksInLeaf story (Err made) m u → BacksInLeaf story (Err (unmade.Cold cold)) m u
  met_cold m u made cold is d = subst (λ (r : Unmade). BacksInLeaf story (Err r) m u) is d

  -- nothing was seen then, so it is the same from there
  module _ (m u : PagedMachine D) (a : IsAside m u) (made : Unmade) (cold : Cold) (is : made ≡ unmade.Cold cold) (d : BacksInLeaf story (Err made) m u) where
    pub work_cold : u.machine.work ≡ m.machine.work
    work_cold = (met_cold m u made cold is d).1

    still : HasUndone story 0 m u
    still = let t = met_cold m u made cold is d in undone_same l places story lawful m u a t.1 t.0.met.given t.0.met.seen

    same_most : most_a_back u.machine.work.session.workers ≡ most_a_back m.machine.work.session.workers
    same_most = ap (λ (k : Work D). most_a_back k.session.workers) work_cold

    pub backs_on : (n : PagedMachine D) (r : Result (Unit {0}) Unserved) → PutsBack story (most_a_back u.machine.work.session.workers) OneLess r u n → PutsBack story (most_a_back m.machine.work.session.workers) OneLess r m n
    backs_on n r p = go r (subst (λ k. PutsBack story k OneLess r u n) same_most p)
      where
        go : (r : Result (Unit {0}) Unserved) → PutsBack story (most_a_back m.machine.work.session.workers) OneLess r u n → PutsBack story (most_a_back m.machine.work.session.workers) OneLess r m n
        go (Ok e) p = (undone_up l places story lawful m n (0 + (most_a_back m.machine.work.session.workers)) (most_a_back m.machine.work.session.workers) (omega arith) (undone_then l places story lawful m u n 0 (most_a_back m.machine.work.session.workers) still p.0), p.1 ∙ ap (λ (k : Work D). length k.session.undo) work_cold)
        go (Err (unserved.Refused refusal.RowSpent)) p = (undone_up l places story lawful m n (0 + (most_a_back m.machine.work.session.workers)) (most_a_back m.machine.work.session.workers) (omega arith) (undone_then l places story lawful m u n 0 (most_a_back m.machine.work.session.workers) still p.0), p.1)
        go (Err (unserved.Unanswered unanswered.DiskFault)) p = failed_up l places story lawful m n (0 + (most_a_back m.machine.work.session.workers)) (most_a_back m.machine.work.session.workers) (omega arith) (failed_then l places story lawful m u n 0 (most_a_back m.machine.work.session.workers) still p)
        go (Err (unserved.Unanswered (unanswered.Damaged place))) p = (failed_up l places story lawful m n (0 + (most_a_back m.machine.work.session.workers)) (most_a_back m.machine.work.session.workers) (omega arith) (failed_then l places story lawful m u n 0 (most_a_back m.machine.work.session.workers) still p.0), nowhere_then m u 0 still p.1)
        go (Err _) p = absurd p

-- ## One after another

next_many : (i x : ℕ) → i * x + x ≤ (i + 1) * x
next_many i x = omega arith

within_all : (i x n : ℕ) → i + 1 ≤ n → i * x + x ≤ n * x
within_all i x n le = let a = mul-le-mul_right x le in let b = next_many i x in omega arith

shorter : (a b c : ℕ) → a + b ≤ c → a ≤ c
shorter a b c le = omega arith

none_in : (us : List Undone) → length us ≡ 0 → us ≡ []
none_in [] e = refl
none_in (u ∷ us) e = absurd (omega arith)

module _ (l : Grounds) (places : EveryWhere) {D : Type 0} (story : D → Story) (lawful : (d : D) → IsLawful (story d)) (m : PagedMachine D) (ready : IsReady story m) where
  abbrev each : ℕ
  each = most_a_back m.machine.work.session.workers

  abbrev all : ℕ
  all = most_in_all m.machine.work.session.workers

  few : length m.machine.work.session.undo ≤ 64
  few = (holds_of (shape m.machine) (view_of m) (here m.machine) m.machine.desks.items ready.sound.desks).numbers.few

  pub so_far_none : SoFar story m m
  so_far_none = record { many = 0; undone = undone_up l places story lawful m m 0 (0 * each) (omega arith) (undone_same l places story lawful m m (record { shape = refl; desks = refl; latches = refl; master = refl; pager = refl }) refl refl refl); left = omega arith }

  module _ (k n : PagedMachine D) (s : SoFar story m k) where
    same_each : most_a_back k.machine.work.session.workers ≡ each
    same_each = ap most_a_back s.undone.same.0

    -- one more
    pub so_far_next : PutsBack story (most_a_back k.machine.work.session.workers) OneLess (Ok tt) k n → SoFar story m n
    so_far_next p = record {
      many = s.many + 1;
      undone = undone_up l places story lawful m n (s.many * each + each) ((s.many + 1) * each) (next_many s.many each) (undone_then l places story lawful m k n (s.many * each) each s.undone (subst (λ q. HasUndone story q k n) same_each p.0));
      left = (let a = p.1 in let b = s.left in omega arith);
    }

    within : s.many * each + each ≤ all
    within = within_all s.many each 65 (let c = s.left in let d = few in omega arith)

    -- none is left
    pub all_back : length k.machine.work.session.undo ≡ 0 → PutsBack story all NoneLeft (Ok tt) m k
    all_back e = (undone_up l places story lawful m k (s.many * each) all (shorter (s.many * each) each all within) s.undone, none_in k.machine.work.session.undo e)

    -- or one could not be put back
    pub not_back : (why : Unserved) → PutsBack story (most_a_back k.machine.work.session.workers) OneLess (Err why) k n → PutsBack story all NoneLeft (Err why) m n
    not_back why p = go why (subst (λ q. PutsBack story q OneLess (Err why) k n) same_each p)
      where
        go : (why : Unserved) → PutsBack story each OneLess (Err why) k n → PutsBack story all NoneLeft (Err why) m n
        go (unserved.Refused refusal.RowSpent) p = (undone_up l places story lawful m n (s.many * each + each) all within (undone_then l places story lawful m k n (s.many * each) each s.undone p.0), p.1)
        go (unserved.Unanswered unanswered.DiskFault) p = failed_up l places story lawful m n (s.many * each + each) all within (failed_then l places story lawful m k n (s.many * each) each s.undone p)
        go (unserved.Unanswered (unanswered.Damaged place)) p = (failed_up l places story lawful m n (s.many * each + each) all within (failed_then l places story lawful m k n (s.many * each) each s.undone p.0), nowhere_then l places story lawful m k (s.many * each) s.undone p.1)
        go _ p = absurd p
