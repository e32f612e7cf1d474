-- Tests that refuse a call, and why the call was not served.
use Rattle.std.proofs.Common.{◌≡◌, Option, Some, None, refl, ap}
use Rattle.map_model.specs.declared.call.Refusal.{Refusal}
use Rattle.engine_trait.specs.Serving.{refused_by}
use Rattle.engine_trait.specs.declared.unserved.Unanswered.{Unanswered}
use Rattle.engine_trait.specs.declared.unserved.Unserved.TheVariants as unserved

-- where it was not refused none of them refuses it
pub refused_none : (test : Option Refusal) → refused_by test ≡ None → test ≡ None
refused_none None e = refl
refused_none (Some why) e = absurd (cc)

-- where it was refused they say why
pub refused_was : (test : Option Refusal) (why : Refusal) → refused_by test ≡ Some (unserved.Refused why) → test ≡ Some why
refused_was None why e = absurd (cc)
refused_was (Some r) why e = cc

-- a test that refuses a call is no fault
pub refused_not : (test : Option Refusal) (fault : Unanswered) → refused_by test ≡ Some (unserved.Unanswered fault) → ⊥
refused_not None fault e = absurd (cc)
refused_not (Some why) fault e = absurd (cc)
