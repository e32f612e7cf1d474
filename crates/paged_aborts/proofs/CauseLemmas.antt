-- What is told of a fault, and whether a machine works on, by the answers of the pieces of an abort.
use Rattle.std.proofs.Common.{◌≡◌, ◌∙◌, ◌<◌, ℕ, true, false, List, [], ◌∷◌, length, Some, Result, Ok, Err, IsErrAnd, ap, refl, sym, subst, arith, true≢false}
use Rattle.lean_disk.specs.Faults.{HasCause}
use Rattle.lean_disk.specs.Story.{Story}
use Rattle.map_model.specs.declared.call.Refusal.TheVariants as refusal
use Rattle.paged_desks.specs.engine_trait.declared.unserved.Unanswered.TheVariants as unanswered
use Rattle.paged_desks.specs.engine_trait.declared.unserved.Unserved.{Unserved}
use Rattle.paged_desks.specs.engine_trait.declared.unserved.Unserved.TheVariants as unserved
use Rattle.row_changes.specs.Puts.{works_behind as works_after_try}
use Rattle.row_changes.specs.declared.ways.Cold.{Cold}
use Rattle.row_changes.specs.declared.ways.Unmade.{Unmade}
use Rattle.row_changes.specs.declared.ways.Unmade.TheVariants as unmade
use Rattle.row_changes.specs.Ways.{IsCut, IsLost}
use Rattle.paged_desks.specs.session_desks.Parts.{AreAsMany, SeatFits}
use Rattle.paged_desks.specs.session_state.Holds.{IsSameSession}
use Rattle.paged_desks.specs.session_state.Undo.{newest_of}
use Rattle.paged_desks.specs.session_state.declared.undo.Undone.{Undone}
use Rattle.row_ends.specs.declared.ending.Ended.{Ended}
use Rattle.paged_desks.specs.Calls.{unserved_of, works_behind}
use Rattle.paged_desks.specs.Machines.{IsReady, pages}
use Rattle.paged_desks.specs.paged_rows.Paged.{IsWarm}
use Rattle.paged_desks.specs.Pages.{goes_on}
use Rattle.paged_desks.specs.Parts.{HasFailed, HasGone}
use Rattle.paged_desks.specs.declared.machine.PagedMachine.{PagedMachine}
use Rattle.paged_desks.specs.declared.warming.Unwarmed.{Unwarmed}
use Rattle.paged_desks.specs.declared.warming.Unwarmed.TheVariants as stopped
use Rattle.paged_aborts.specs.Backs.{BacksInLeaf, IsDamaged, IsNewestKey, IsWarmNewest}

-- an answer of a piece
abbrev pub Told : Type 0
Told = Result (Unit {0}) Unserved

-- ## Faults

-- told by other words
cause_as : (before now : ℕ) (P Q : Type 0) → (P → Q) → (Q → P) → HasCause before now P → HasCause before now Q
cause_as before now P Q f h c = record { later = c.later; cause = λ q. c.cause (h q); calm = λ n. c.calm (λ p. n (f p)) }

pub cause_none : (before now : ℕ) (P : Type 0) → now ≡ before → (P → ⊥) → HasCause before now P
cause_none before now P e never = record { later = (let q = e in omega arith); cause = λ p. absurd (never p); calm = λ _. e }

-- counts that are the same
pub cause_at : (a b c d : ℕ) (P : Type 0) → a ≡ b → d ≡ c → HasCause b c P → HasCause a d P
cause_at a b c d P e f h = subst (λ n. HasCause a n P) (sym f) (subst (λ n. HasCause n c P) (sym e) h)

fault_to : (why : Unwarmed) → ◌≡◌ {A = Result (Unit {0}) Unwarmed} (Err why) (Err stopped.DiskFault) → ◌≡◌ {A = Told} (Err (unserved_of why)) (Err (unserved.Unanswered unanswered.DiskFault))
fault_to stopped.DiskFault e = refl
fault_to stopped.RowSpent e = absurd (cc)
fault_to (stopped.Damaged page) e = absurd (cc)
fault_to (stopped.Altered page) e = absurd (cc)

fault_from : (why : Unwarmed) → ◌≡◌ {A = Told} (Err (unserved_of why)) (Err (unserved.Unanswered unanswered.DiskFault)) → ◌≡◌ {A = Result (Unit {0}) Unwarmed} (Err why) (Err stopped.DiskFault)
fault_from stopped.DiskFault e = refl
fault_from stopped.RowSpent e = absurd (cc)
fault_from (stopped.Damaged page) e = absurd (cc)
fault_from (stopped.Altered page) e = absurd (cc)

-- a fault of a warm is told as one of the call
pub cause_warm : (before now : ℕ) (why : Unwarmed) (told : Unserved) → told ≡ unserved_of why → HasCause before now (◌≡◌ {A = Result (Unit {0}) Unwarmed} (Err why) (Err stopped.DiskFault)) → HasCause before now (◌≡◌ {A = Told} (Err told) (Err (unserved.Unanswered unanswered.DiskFault)))
cause_warm before now why told is h = subst (λ (r : Unserved). HasCause before now (◌≡◌ {A = Told} (Err r) (Err (unserved.Unanswered unanswered.DiskFault)))) (sym is) (cause_as before now _ _ (fault_to why) (fault_from why) h)

abbrev TriedFault : Unmade → Type 0
TriedFault made = ◌≡◌ {A = Result (Unit {0}) Unmade} (Err made) (Err (unmade.Unserved (unserved.Unanswered unanswered.DiskFault)))

-- and one of a try
pub cause_try : (before now : ℕ) (made : Unmade) (why : Unserved) → made ≡ unmade.Unserved why → HasCause before now (TriedFault made) → HasCause before now (◌≡◌ {A = Told} (Err why) (Err (unserved.Unanswered unanswered.DiskFault)))
cause_try before now made why is h = cause_as before now _ _ to from (subst (λ (r : Unmade). HasCause before now (TriedFault r)) is h)
  where
    to : TriedFault (unmade.Unserved why) → ◌≡◌ {A = Told} (Err why) (Err (unserved.Unanswered unanswered.DiskFault))
    to e = cc

    from : ◌≡◌ {A = Told} (Err why) (Err (unserved.Unanswered unanswered.DiskFault)) → TriedFault (unmade.Unserved why)
    from e = cc

-- none where an entry was lost
pub cause_lost : (before at now : ℕ) (made : Unmade) (why : Unserved) → made ≡ unmade.Lost → IsDamaged why → HasCause before at (TriedFault made) → now ≡ at → HasCause before now (◌≡◌ {A = Told} (Err why) (Err (unserved.Unanswered unanswered.DiskFault)))
cause_lost before at now made why is damaged h e = cause_none before now _ (e ∙ h.calm (λ f. lost_fault (subst TriedFault is f))) (no_fault why damaged)
  where
    lost_fault : TriedFault unmade.Lost → ⊥
    lost_fault f = absurd (cc)

    no_fault : (why : Unserved) → IsDamaged why → ◌≡◌ {A = Told} (Err why) (Err (unserved.Unanswered unanswered.DiskFault)) → ⊥
    no_fault (unserved.Unanswered (unanswered.Damaged place)) is f = absurd (cc)
    no_fault _ is f = absurd is

-- nor where a page was not hot
pub calm_cold : (before now : ℕ) (made : Unmade) (cold : Cold) → made ≡ unmade.Cold cold → HasCause before now (TriedFault made) → now ≡ before
calm_cold before now made cold is h = h.calm (λ f. cold_fault (subst TriedFault is f))
  where
    cold_fault : TriedFault (unmade.Cold cold) → ⊥
    cold_fault f = absurd (cc)

pub ok_err : (q : Unwarmed) → ◌≡◌ {A = Result (Unit {0}) Unwarmed} (Ok tt) (Err q) → ⊥
ok_err q e = absurd (cc)

pub all_calm : ◌≡◌ {A = Told} (Ok tt) (Err (unserved.Unanswered unanswered.DiskFault)) → ⊥
all_calm e = absurd (cc)

-- where all was answered
pub cause_ok : (before now : ℕ) → HasCause before now (◌≡◌ {A = Result (Unit {0}) Unmade} (Ok tt) (Err (unmade.Unserved (unserved.Unanswered unanswered.DiskFault)))) → HasCause before now (◌≡◌ {A = Told} (Ok tt) (Err (unserved.Unanswered unanswered.DiskFault)))
cause_ok before now h = cause_none before now _ (h.calm made_calm) all_calm
  where
    made_calm : ◌≡◌ {A = Result (Unit {0}) Unmade} (Ok tt) (Err (unmade.Unserved (unserved.Unanswered unanswered.DiskFault))) → ⊥
    made_calm e = absurd (cc)

-- as the abort is answered
pub cause_ended : (before now : ℕ) (why : Unserved) → HasCause before now (◌≡◌ {A = Told} (Err why) (Err (unserved.Unanswered unanswered.DiskFault))) → HasCause before now (◌≡◌ {A = Result Ended Unserved} (Err why) (Err (unserved.Unanswered unanswered.DiskFault)))
cause_ended before now why h = cause_as before now _ _ to from h
  where
    to : ◌≡◌ {A = Told} (Err why) (Err (unserved.Unanswered unanswered.DiskFault)) → ◌≡◌ {A = Result Ended Unserved} (Err why) (Err (unserved.Unanswered unanswered.DiskFault))
    to e = cc

    from : ◌≡◌ {A = Result Ended Unserved} (Err why) (Err (unserved.Unanswered unanswered.DiskFault)) → ◌≡◌ {A = Told} (Err why) (Err (unserved.Unanswered unanswered.DiskFault))
    from e = cc

-- ## Whether the machine works on

pub as_ended : (why : Unserved) → works_behind {A = Unit {0}} (Err why) ≡ works_behind {A = Ended} (Err why)
as_ended (unserved.Refused why) = refl
as_ended (unserved.Unanswered why) = refl

pub tried_works : {D : Type 0} (story : D → Story) (m n : PagedMachine D) (made : Unmade) (why : Unserved) → made ≡ unmade.Unserved why → BacksInLeaf story (Err made) m n → works_after_try {A = Unit {0}} (Err made) ≡ works_behind {A = Unit {0}} (Err why)
tried_works story m n made why is d = ap (λ (r : Unmade). works_after_try {A = Unit {0}} (Err r)) is ∙ go why (subst (λ (r : Unmade). BacksInLeaf story (Err r) m n) is d)
  where
    go : (why : Unserved) → BacksInLeaf story (Err (unmade.Unserved why)) m n → works_after_try {A = Unit {0}} (Err (unmade.Unserved why)) ≡ works_behind {A = Unit {0}} (Err why)
    go (unserved.Refused refusal.RowSpent) d = refl
    go (unserved.Unanswered unanswered.DiskFault) d = refl
    go _ d = absurd d

pub lost_works : (why : Unserved) → IsDamaged why → works_behind {A = Unit {0}} (Err why) ≡ false
lost_works (unserved.Unanswered (unanswered.Damaged place)) is = refl
lost_works _ is = absurd is

module _ {D : Type 0} (story : D → Story) (key most : ℕ) (m n : PagedMachine D) where
  pub works_unwarmed : (why : Unwarmed) (told : Unserved) → told ≡ unserved_of why → n.machine.work.session.works ≡ goes_on {A = Unit {0}} (Err why) → n.machine.work.session.works ≡ works_behind {A = Unit {0}} (Err told)
  works_unwarmed stopped.RowSpent told is e = e ∙ ap (λ (r : Unserved). works_behind {A = Unit {0}} (Err r)) (sym is)
  works_unwarmed stopped.DiskFault told is e = e ∙ ap (λ (r : Unserved). works_behind {A = Unit {0}} (Err r)) (sym is)
  works_unwarmed (stopped.Damaged page) told is e = e ∙ ap (λ (r : Unserved). works_behind {A = Unit {0}} (Err r)) (sym is)
  works_unwarmed (stopped.Altered page) told is e = e ∙ ap (λ (r : Unserved). works_behind {A = Unit {0}} (Err r)) (sym is)

  pub ready_unwarmed : (why : Unwarmed) (told : Unserved) → told ≡ unserved_of why → (goes_on {A = Unit {0}} (Err why) ≡ true → IsReady story n) → works_behind {A = Unit {0}} (Err told) ≡ true → IsReady story n
  ready_unwarmed stopped.RowSpent told is p w = p refl
  ready_unwarmed stopped.DiskFault told is p w = absurd (true≢false (sym w ∙ ap (λ (r : Unserved). works_behind {A = Unit {0}} (Err r)) is))
  ready_unwarmed (stopped.Damaged page) told is p w = absurd (true≢false (sym w ∙ ap (λ (r : Unserved). works_behind {A = Unit {0}} (Err r)) is))
  ready_unwarmed (stopped.Altered page) told is p w = absurd (true≢false (sym w ∙ ap (λ (r : Unserved). works_behind {A = Unit {0}} (Err r)) is))

  pub fits_unwarmed : (why : Unwarmed) → (goes_on {A = Unit {0}} (Err why) ≡ true → IsReady story n) → (goes_on {A = Unit {0}} (Err why) ≡ false → HasFailed story m n) → SeatFits n.machine
  fits_unwarmed stopped.RowSpent ready failed = (ready refl).sound.fits
  fits_unwarmed stopped.DiskFault ready failed = (failed refl).fits
  fits_unwarmed (stopped.Damaged page) ready failed = (failed refl).fits
  fits_unwarmed (stopped.Altered page) ready failed = (failed refl).fits

  pub same_unwarmed : (why : Unwarmed) → (goes_on {A = Unit {0}} (Err why) ≡ true → HasGone story key most m n) → (goes_on {A = Unit {0}} (Err why) ≡ false → HasFailed story m n) → AreAsMany m.machine n.machine
  same_unwarmed stopped.RowSpent gone failed = (gone refl).paged.same
  same_unwarmed stopped.DiskFault gone failed = (failed refl).same
  same_unwarmed (stopped.Damaged page) gone failed = (failed refl).same
  same_unwarmed (stopped.Altered page) gone failed = (failed refl).same

-- ## What is left

-- where a change is the newest, one is left
pub some_left : (us : List Undone) (u : Undone) → newest_of us ≡ Some u → 0 < length us
some_left [] u e = absurd (cc)
some_left (x ∷ us) u e = omega arith

-- a way that is hot is met by no cold page
pub cold_never : (made : Unmade) (cold : Cold) → made ≡ unmade.Cold cold → (IsErrAnd {T = Unit {0}} (Err made) IsCut → ⊥) → ⊥
cold_never made cold is never = never (subst IsCut (sym is) tt)

-- an entry is lost in no other way
pub lost_never : (made : Unmade) → made ≡ unmade.Lost → (IsErrAnd {T = Unit {0}} (Err made) IsLost → ⊥) → ⊥
lost_never made is never = never (subst IsLost (sym is) tt)

-- as many sessions
pub same_then : {D : Type 0} (m k n : PagedMachine D) → AreAsMany m.machine k.machine → IsSameSession k.machine.work.session n.machine.work.session → AreAsMany m.machine n.machine
same_then m k n a s = (s.1 ∙ a.0, s.2 ∙ a.1)

-- the newest change of a session whose changes are those that they were
pub newest_as : {D : Type 0} (key : ℕ) (m k : PagedMachine D) → k.machine.work.session.undo ≡ m.machine.work.session.undo → IsNewestKey key m → IsNewestKey key k
newest_as key m k e q = (q.0, ap newest_of e ∙ q.1, q.2)

-- where the way of its key is hot
pub warm_newest : {D : Type 0} (key : ℕ) (k : PagedMachine D) → IsNewestKey key k → IsWarm (pages k) key 0 → IsWarmNewest k
warm_newest key k q warm u e = subst (λ (n : ℕ). IsWarm (pages k) n 0) (sym q.2 ∙ sym (ap (λ (v : Undone). v.key) (newest_is u q.0 (sym e ∙ q.1)))) warm
  where
    newest_is : (u v : Undone) → Some u ≡ Some v → u ≡ v
    newest_is u v p = cc
