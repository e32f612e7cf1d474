-- Words of private functions: the tests of a call.
use Rattle.std.specs.Prelude.{Bool, false, leb, length, Option, Some, None, if◌then◌else◌}
use Rattle.page_model.specs.Limits.{transaction_changes}
use Rattle.map_model.specs.declared.call.Refusal.TheVariants as refusal
use Rattle.paged_desks.specs.engine_trait.declared.unserved.Unserved.{Unserved}
use Rattle.paged_desks.specs.session_state.declared.session.Session.{Session}
use Rattle.paged_desks.specs.engine_trait.Refusals.{log_refusal}
use Rattle.paged_desks.specs.engine_trait.Serving.{broken, refused_by}
use Rattle.paged_desks.specs.worker_log.Logs.{Log}

-- a transaction is open, and its abort is not half done
abbrev pub is_going : Session → Bool
is_going x = if x.is_half_aborted then false else x.is_open

-- why a call within a transaction is not served before it is begun
abbrev pub call_test : Session → Option Unserved
call_test x = if x.works then refused_by (if is_going x then None else Some refusal.NoTransaction) else Some broken

-- and one that changes its key, which tests more
abbrev pub change_test : Session → Log → Option Unserved
change_test x log = if x.works then refused_by (if is_going x then (if leb transaction_changes (length x.undo) then Some refusal.TooLong else log_refusal x.clock.clock log None) else Some refusal.NoTransaction) else Some broken
