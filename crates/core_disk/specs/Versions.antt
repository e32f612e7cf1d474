-- Which contents of a page a crash may leave, as a run goes on.
use Rattle.std.specs.Prelude.{◌≡◌, ◌≤◌, ℕ, Bool, true, false, List, [], ◌∷◌, ◌++◌}
use Rattle.map_model.specs.Lists.{Has}
use Rattle.core_crash.specs.image_model.Entries.{Entry, Contents, touches}
use Rattle.core_crash.specs.core_state.Openings.{Opening}
use Rattle.core_crash.specs.core_state.States.{flushed_by_all, start}
use Rattle.core_crash.specs.core_state.Events.{Event}
use Rattle.core_crash.specs.core_state.Steps.{HasBeen, state_after}
use Rattle.core_disk.specs.Held.{IsVersion}

-- a run and one event more
abbrev pub then : List Event → Event → List Event
then es e = es ++ e ∷ []

-- the event is a cut
abbrev pub is_cut : Event → Bool
is_cut (Event.Cut x heads) = true
is_cut _ = false

-- the version has the page's changes up to x
abbrev pub HasUpTo : Opening → List Event → (p x : ℕ) → Contents → Type 0
HasUpTo g es p x v = (r : Entry) → Has r (state_after g es).entries → touches p r ≡ true → r.number ≤ x → r.number ≤ v.gsn

-- What may be left of page p after es, and what of it may still be left after one event more.
pub record VersionLaws (g : Opening) (es : List Event) (p : ℕ) : Type 0 where
  -- the saved contents are one, and so are the contents where they may be saved
  pub saved : IsVersion g es p ((state_after g es).saved p)
  pub now : ((state_after g es).page p).gsn ≤ flushed_by_all g (state_after g es) → IsVersion g es p ((state_after g es).page p)
  -- the page's number never falls
  pub known : (v : Contents) → HasBeen g (start g) es p v → v.gsn ≤ ((state_after g es).page p).gsn
  -- one stays one, whatever happens but a cut; and where a cut happens, if it has the changes up to its number
  pub more : (e : Event) (v : Contents) → is_cut e ≡ false → IsVersion g es p v → IsVersion g (then es e) p v
  pub cut : (x : ℕ) (heads : ℕ → ℕ) (v : Contents) → HasUpTo g es p x v → IsVersion g es p v → IsVersion g (then es (Event.Cut x heads)) p v
  -- what has the changes up to a number that is flushed everywhere has them from then on
  pub covered : (e : Event) (x : ℕ) (v : Contents) → x ≤ flushed_by_all g (state_after g es) → HasUpTo g es p x v → HasUpTo g (then es e) p x v

-- in each run, of each page
abbrev pub EveryVersion : Type 0
EveryVersion = (g : Opening) (es : List Event) (p : ℕ) → VersionLaws g es p
