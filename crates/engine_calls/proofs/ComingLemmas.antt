-- What may come next.
use Rattle.std.proofs.Common.{◌≡◌, Bool, true, false, cond, List, [], ◌∷◌, map, Option, Some, None, sym, ◌∙◌, subst, true≢false}
use Rattle.map_model.specs.declared.call.Call.{Call}
use Rattle.map_model.specs.Pairings.{GoesOn}
use Rattle.run_crashes.specs.core_calls.Deeds.{Deed, Aborted, Outcome, Refused, asked, in_words}
use Rattle.run_crashes.specs.core_calls.Fronts.{outcomes}
use Rattle.run_crashes.specs.core_calls.Steps.{FollowsConflict, IsAbortOf, IsAnAbort, IsBehind, hindered_in, is_conflict}
use Rattle.engine_calls.specs.Clauses.{EveryComing, IsNewLine}

-- a new line is not behind a conflict
pub follows : (earlier : List Outcome) (x : Outcome) → IsNewLine earlier → IsAnAbort x.deed → FollowsConflict earlier x
follows [] x n a = a
follows (y ∷ earlier) x n a = subst (λ (o : Option Call). IsBehind o y.session x) (sym n.0) a

-- and goes on with none
pub goes_on : (earlier : List Outcome) (x : Outcome) → IsNewLine earlier → GoesOn (map in_words earlier) (in_words x)
goes_on [] x n = tt
goes_on (y ∷ earlier) x n = λ e. absurd (true≢false (sym n.1 ∙ e))

some_none : (c : Call) → ◌≡◌ {A = Option Call} None (Some c) → ⊥
some_none c e = cc

same_call : (c d : Call) → ◌≡◌ {A = Option Call} (Some c) (Some d) → c ≡ d
same_call c d e = cc

-- the call that met a conflict
asked_first : (d : Deed) (c : Call) → hindered_in d ≡ Some c → asked d ≡ c
asked_first (Refused b why backs) c e = go (is_conflict why) e
  where
    go : (x : Bool) → cond x (Some b) None ≡ Some c → b ≡ c
    go true e = same_call b c e
    go false e = absurd (some_none c e)
asked_first _ c e = absurd (some_none c e)

-- and its abort
asked_then : (c : Call) (d : Deed) → IsAbortOf c d → asked d ≡ c
asked_then c (Aborted b n at backs) a = a
asked_then c (Refused b why backs) a = a.0
asked_then c _ a = absurd a

pub every_coming : EveryComing
every_coming xs x = record {
  new = λ n a. record { hindered = follows (outcomes xs) x n a; goes_on = goes_on (outcomes xs) x n };
  more = λ y n w c a. record {
    hindered = subst (λ (o : Option Call). IsBehind o y.outcome.session x) (sym n) a;
    goes_on = λ _. (w, c);
  };
  abort = λ y c e w a. record {
    hindered = subst (λ (o : Option Call). IsBehind o y.outcome.session x) (sym e) (w, a);
    goes_on = λ _. (w, asked_then c x.deed a ∙ sym (asked_first y.outcome.deed c e));
  };
}
