use Rattle.std.proofs.Common.{refl, subst, sym}
use Rattle.paged_desks.specs.btree_descent.Descents.{Sized}
use Rattle.paged_desks.specs.session_desks.Parts.{shape}
use Rattle.paged_desks.proofs.session_state.Moments.{acts}
use Rattle.paged_desks.proofs.Warmth.{paged_is}
use Rattle.paged_desks.specs.Machines.{view_of}
use Rattle.paged_aborts.proofs.leaves.lose.Goals as goal

pub last_page-place-requires-clause-sized : goal.last_page-place-requires-clause-sized
last_page-place-requires-clause-sized g c = let m = c.args.machine.now in subst (Sized (shape m.machine) (view_of m)) (sym c.frames-frames.ensures) c.requires.ready.keeps.sized

pub last_page-place-requires-clause-actor : goal.last_page-place-requires-clause-actor
last_page-place-requires-clause-actor g c = let m = c.args.machine.now in acts (shape m.machine) (view_of m) m.machine.work.session.own (paged_is c.requires.ready).alone

pub last_page-place-requires-clause-alone : goal.last_page-place-requires-clause-alone
last_page-place-requires-clause-alone g c = (paged_is c.requires.ready).alone

pub last_page-place-requires-clause-held : goal.last_page-place-requires-clause-held
last_page-place-requires-clause-held g c = (paged_is c.requires.ready).held

pub returns-clause-given_up : goal.returns-clause-given_up
returns-clause-given_up g c = let e = c.last_page-place.ensures in record { works = refl; given = e.given; seen = e.seen; disk = refl; same = (refl, refl); fits = e.fits.0 }
