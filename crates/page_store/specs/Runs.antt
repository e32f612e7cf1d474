-- Runs of calls that save pages, over an area that was synced when they began. proofs/RunLemmas.antt says how they begin and go on.
use Rattle.std.specs.Prelude.{◌≡◌, ℕ, List, IsTrue}
use Rattle.lean_disk.specs.Area.{synced}
use Rattle.lean_disk.specs.Story.{Story, Tells}
use Rattle.lean_disk.specs.Moments.{LeavesOnly, Framed, CrashIn}
use Rattle.lean_disk.specs.declared.disk.Did.{Did}
use Rattle.lean_disk.specs.declared.disk.Did.TheVariants as did
use Rattle.page_store.specs.Saved.{Save, IsSynced, LeavesSaves, IsSaving, saved}

-- From the story s0 on, at each moment, nothing but these may have been saved over the area a.
pub record IsRun (pages a : ℕ) (s0 : Story) (saves : List Save) (s : Story) : Type 0 where
  pub any_moment : LeavesOnly s0 s (CrashIn s0 a (LeavesSaves pages (s0.area a) saves))
  pub frame : Framed a s0 s

-- And now all of them are.
pub record HasSaved (pages a : ℕ) (s0 : Story) (saves : List Save) (s : Story) : Type 0 where
  pub run : IsRun pages a s0 saves s
  pub area : Tells s0 a → s.area a ≡ saved saves (s0.area a)

-- the area a was synced when the run began, where it was told of, and it is told of at each moment
pub record IsReady (a : ℕ) (s0 : Story) : Type 0 where
  pub seated : IsTrue s0.counts → Tells s0 a
  pub clean : Tells s0 a → IsSynced (s0.area a)

-- one page more was saved
pub record SavesMore (pages a : ℕ) (s0 : Story) (saves : List Save) (result : Did) (new : Story) : Type 0 where
  pub run : IsRun pages a s0 saves new
  pub saving : Tells s0 a → IsSaving pages (s0.area a) saves (new.area a)
  pub done : result ≡ did.Done → HasSaved pages a s0 saves new

-- the area was synced
pub record SyncsSaves (pages a : ℕ) (s0 : Story) (saves : List Save) (result : Did) (new : Story) : Type 0 where
  pub run : IsRun pages a s0 saves new
  pub saving : Tells s0 a → IsSaving pages (s0.area a) saves (new.area a)
  pub done : result ≡ did.Done → Tells s0 a → new.area a ≡ synced (saved saves (s0.area a))
