-- A lock and a read, joined.
use Rattle.std.proofs.Common.{refl, [], ◌∷◌}
use Rattle.lean_disk.specs.Story.{Story}
use Rattle.session_state.specs.row_words.declared.event.Event.TheVariants.{Lock, Read}
use Rattle.call_parts.specs.ByHand.{Worked}
use Rattle.call_parts.specs.Laws.{EveryJoin, EveryStep}

pub worked : (s : Story) → EveryStep s s → EveryJoin s s s → Worked s
worked s step join many own row page key mode value v u w was a b =
    (join many (Lock own row mode ∷ []) v u w was was was).join (Read own page key value ∷ []) ((step many v u was).rest (Lock own row mode ∷ []) a refl) ((step many u w was).rest (Read own page key value ∷ []) b refl)
