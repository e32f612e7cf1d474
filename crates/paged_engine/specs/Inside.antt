-- Words of private functions.
use Rattle.std.specs.Prelude.{◌≡◌, ℕ, false, List, length, replicate}
use Rattle.paged_desks.specs.disk_slots.declared.master.Master.{Master}
use Rattle.paged_desks.specs.session_state.Opened.{IsFirst}
use Rattle.paged_desks.specs.session_state.declared.session.Session.{Session}
use Rattle.paged_engine.specs.Openings.{AreFurther, IsMadeBy}
use Rattle.paged_engine.specs.declared.opening.Size.{Size}
use Rattle.paged_engine.specs.declared.seats.Seats.{Seats}

-- Session 1 of as many as the master has logs, in a machine so large, with these free pages; it has done nothing.
pub record IsFirstOf (size : Size) (master : Master) (frees : List ℕ) (x : Session) : Type 0 where
  pub first : IsFirst master.floor x
  pub own : x.own ≡ 1
  pub workers : x.workers ≡ length master.heads
  pub group : x.group ≡ size.group
  pub frames : x.frames ≡ size.frames
  pub rows : x.held.count ≡ size.rows
  pub free : x.free ≡ frees

-- It has the turn, the further ones are at their desks, each log is empty, and no lock row is latched.
pub record HasSeats (size : Size) (master : Master) (frees : List ℕ) (s : Seats) : Type 0 where
  pub first : IsFirstOf size master frees s.first.session
  pub log : IsMadeBy master 1 s.first.log
  pub further : AreFurther master s.first.session s.desks.items
  pub latches : s.latches ≡ replicate size.rows false
