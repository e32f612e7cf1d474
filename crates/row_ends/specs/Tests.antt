-- Which test refuses a begin, an end, or any call within a transaction, before it is begun.
use Rattle.std.specs.Prelude.{Bool, false, Option, Some, None, if◌then◌else◌}
use Rattle.map_model.specs.declared.call.Refusal.TheVariants.{InTransaction, NoTransaction}
use Rattle.session_state.specs.worker_log.Logs.{Log}
use Rattle.session_state.specs.engine_trait.Refusals.{log_refusal}
use Rattle.session_state.specs.engine_trait.Serving.{broken, refused_by}
use Rattle.session_state.specs.engine_trait.declared.unserved.Unserved.{Unserved}
use Rattle.session_state.specs.declared.session.Session.{Session}

-- why a begin is not served before it is begun
abbrev pub begin_test : Session → Log → Option Unserved
begin_test x log = if x.works then refused_by (if x.is_open then Some InTransaction else log_refusal x.clock.clock log None) else Some broken

-- a transaction is open, and its abort is not half done
abbrev pub is_going : Session → Bool
is_going x = if x.is_half_aborted then false else x.is_open

-- why a call within a transaction is not
abbrev pub call_test : Session → Option Unserved
call_test x = if x.works then refused_by (if is_going x then None else Some NoTransaction) else Some broken

-- why an abort is not, which may go on
abbrev pub abort_test : Session → Option Unserved
abort_test x = if x.works then refused_by (if x.is_open then None else Some NoTransaction) else Some broken
