-- A session as a draw has it.
use Rattle.btree_descent.specs.draw_trait.Clocks.{Clock}
use Rattle.row_sessions.specs.declared.session.Session.{Session}

-- its clock, its floor and what it owes
abbrev pub clock_of : Session → Clock
clock_of s = record { clock = s.clock; floor = s.floor; debt = s.debt }
