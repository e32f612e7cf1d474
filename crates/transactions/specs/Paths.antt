-- From one place to another, by events. A place is what sessions' calls stand on: S says for which events it stands, with which
-- lock rows latched, the newest first; L what a crash at each moment between two places may leave; Q whether nobody else steps;
-- K which events of a worker's own may stand there besides the steps of its transaction.
use Rattle.std.specs.Prelude.{◌≡◌, ℕ, Bool, true, false, List, [], ◌∷◌, ◌++◌, if◌then◌else◌}
use Rattle.core_state.specs.States.{State}
use Rattle.core_state.specs.Openings.{Opening}
use Rattle.core_state.specs.Events.{Event}
use Rattle.core_state.specs.Steps.{run, state_after, AllMet}
use Rattle.transactions.specs.declared.hindrance.Hindrance.{Hindrance}
use Rattle.transactions.specs.declared.hindrance.Hindrance.TheVariants.{DiskFault, Damaged}
use Rattle.transactions.specs.Steps.{AreOnly, AreQuiet, steps_of}
use Rattle.transactions.specs.Kinds.{AllMay, flushes_of}

-- the place is not used again
abbrev pub is_fault : Hindrance → Bool
is_fault DiskFault = true
is_fault (Damaged area place) = true
is_fault _ = false

-- nothing is said of the state
abbrev pub Any : State → Type 0
Any s = Unit {0}

-- a flush of w's log up to n, where it is due
abbrev pub flush_if : Bool → (w n : ℕ) → List Event
flush_if due w n = if due then Event.Flush w n ∷ [] else []

-- the first of these
abbrev pub IsFirstOf : List Event → List Event → Type 0
IsFirstOf all steps = (rest : List Event) × (steps ++ rest ≡ all)

-- e is one of the events that came behind es, and of the state in which it came At holds
pub record Occurs (g : Opening) (es more : List Event) (e : Event) (At : State → Type 0) : Type 0 where
  pub before : List Event
  pub after : List Event
  pub whole : more ≡ before ++ e ∷ after
  pub at : At (state_after g (es ++ before))

module _ {A : Type 0} (S : Opening → List Event → List ℕ → A → Type 0) (L : Opening → List Event → List Event → A → A → Type 0) (Q : A → Bool) (K : ℕ → Event → Bool) (g : Opening) (es : List Event) where
  -- these events happened, and m are the rows latched then
  pub record Goes (more : List Event) (m : List ℕ) (a b : A) : Type 0 where
    pub met : AllMet g (state_after g es) more
    pub stands : S g (es ++ more) m b
    pub leaves : L g es more a b
    pub alone : Q b ≡ Q a

  -- w took one step, in a state of which At holds
  pub record Takes (w : ℕ) (e : Event) (At : State → Type 0) (m : List ℕ) (a b : A) : Type 0 where
    pub before : List Event
    pub after : List Event
    pub goes : Goes (before ++ e ∷ after) m a b
    pub quiet_before : AreQuiet w before
    pub quiet_after : AreQuiet w after
    pub at : At (run g (state_after g es) before)
    pub only : Q a ≡ true → AreOnly w (before ++ e ∷ after)
    pub kinds : AllMay (K w) (before ++ e ∷ after)

  -- w took no step
  pub record Idles (w : ℕ) (m : List ℕ) (a b : A) : Type 0 where
    pub more : List Event
    pub goes : Goes more m a b
    pub quiet : AreQuiet w more
    pub only : Q a ≡ true → AreOnly w more
    pub kinds : AllMay (K w) more

  -- w took these steps
  pub record Did (w : ℕ) (steps : List Event) (m : List ℕ) (a b : A) : Type 0 where
    pub more : List Event
    pub goes : Goes more m a b
    pub steps_are : steps_of w more ≡ steps
    pub only : Q a ≡ true → AreOnly w more
    pub kinds : AllMay (K w) more

  -- Where a group of w's commits waits for it, and only there, w's log is flushed, up to its last end. None waits then.
  pub record Flushes (w : ℕ) (waits : State → Bool) (a b : A) : Type 0 where
    pub idles : Idles w [] a b
    pub flushes_are : flushes_of w idles.more ≡ flush_if (waits (state_after g es)) w ((state_after g es).worker w).end
    pub none_waits : waits (state_after g (es ++ idles.more)) ≡ false

  -- a device failed, behind such steps of w: besides them, what a crash may leave is all that is known
  pub record Breaks (w : ℕ) (May : List Event → Type 0) (a b : A) : Type 0 where
    pub more : List Event
    pub met : AllMet g (state_after g es) more
    pub leaves : L g es more a b
    pub may : May (steps_of w more)
    pub only : Q a ≡ true → AreOnly w more
    pub kinds : AllMay (K w) more

  -- w's call was hindered, and took no step. Where a device failed it may have taken such steps.
  pub record Hindered (C : Hindrance → Opening → List Event → A → A → Type 0) (w : ℕ) (May : List Event → Type 0) (m : List ℕ) (h : Hindrance) (a b : A) : Type 0 where
    pub cause : C h g es a b
    pub breaks : is_fault h ≡ true → Breaks w May a b
    pub idles : is_fault h ≡ false → Idles w m a b
