-- Lines that are put: whether they went out, and what that does to what a disk tells.
use Rattle.std.specs.Prelude.{◌≡◌, ◌⊎◌, ◌++◌, ℕ, List, [], ◌∷◌, take}
use Rattle.script_lang.specs.Notices.{Notice, notice_text}
use Rattle.lean_disk.specs.Calls.{Noted}
use Rattle.lean_disk.specs.Faults.{Rose}
use Rattle.lean_disk.specs.Story.{Story}
use Rattle.lean_disk.specs.Told.{TellsSame}
use Rattle.buffered_engine.specs.lean_edge.Outside.{Held, Puts}
use Rattle.buffered_engine.specs.lean_edge.declared.sink.Put.{Put}
use Rattle.buffered_engine.specs.lean_edge.declared.sink.Put.TheVariants as put

-- a line of the program's own
abbrev pub line_of : Notice → List ℕ
line_of notice = notice_text notice ++ 10 ∷ []

-- the line went out, and the sink's count of faults stands; or a prefix of it, and the count rose
abbrev pub WentOut : (line put : List ℕ) (before now : ℕ) → Type 0
WentOut line put before now = ((put ≡ line) × (now ≡ before)) ⊎ (((prefix : ℕ) × (put ≡ take prefix line)) × Rose before now)

-- A line was put: it was noted if it went out, and else all is as it was.
pub record IsPut (line : List ℕ) (answer : Put) (held0 held1 : Held) (s0 s1 : Story) : Type 0 where
  pub puts : Puts line answer held0 held1
  pub noted : answer ≡ put.Done → Noted s0 s1
  pub same : answer ≡ put.Failed → TellsSame s0 s1
