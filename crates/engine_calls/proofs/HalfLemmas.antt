-- An abort that is refused.
use Rattle.std.proofs.Common.{◌≡◌, ℕ, Bool, true, false, cond, ◌==◌, List, [], ◌++◌, refl, sym, ap, ◌∙◌, subst, true≢false}
use Rattle.std.proofs.lemmas.List.{append-nil}
use Rattle.map_model.specs.declared.call.Call.{Call}
use Rattle.map_model.specs.declared.call.Call.TheVariants as call
use Rattle.map_model.specs.declared.call.Refusal.TheVariants.{RowSpent}
use Rattle.map_model.specs.Lists.{keep}
use Rattle.run_crashes.specs.core_state.Openings.{Opening}
use Rattle.run_crashes.specs.core_state.Events.{Event}
use Rattle.run_crashes.specs.core_state.Steps.{state_after}
use Rattle.lean_disk.specs.Story.{Story}
use Rattle.run_crashes.specs.core_calls.Deeds.{put_backs}
use Rattle.run_crashes.specs.core_calls.Fronts.{AreFresh, Done, front, outcomes}
use Rattle.run_crashes.specs.core_calls.Marks.{Mark, marks}
use Rattle.run_crashes.specs.core_calls.Refusals.{Limits}
use Rattle.run_crashes.specs.core_calls.Runs.{Tells}
use Rattle.run_crashes.specs.core_calls.Scans.{StopsOnWay}
use Rattle.run_crashes.specs.core_calls.Steps.{MayPutBack, Tries, is_step}
use Rattle.engine_calls.specs.Aborts.{backs_by}
use Rattle.engine_calls.specs.Halves.{EveryHalved, IsHalved, halved_by}
use Rattle.engine_calls.proofs.AbortLemmas.{fresh_back, marks_backs, no_one}

-- nothing is told behind it
and_none : (c : Bool) (backs : List Mark) → cond c backs [] ≡ cond c (backs ++ []) []
and_none true backs = sym (append-nil backs)
and_none false backs = refl

pub tells : (l : Limits) (g : Opening) (group : ℕ) (xs : List Done) (w : ℕ) (c : Call) (es : List Event) → IsHalved l g xs w c es → Tells l g group xs (halved_by g xs w c es)
tells l g group xs w c es i =
    let s = state_after g (front xs) in
    record {
      met = i.met;
      fresh = subst (AreFresh g s) (append-nil es) (fresh_back g s w es [] i.backs tt);
      told = λ v. ap (marks g s es v) (no_one (w == v)) ∙ (marks_backs g s w es i.backs i.met v [] ∙ and_none (w == v) (put_backs (backs_by g s es [])));
      in_turn = tt;
      steps = (refl, may_put_back i.asks, tries i.asks);
      hindered = i.comes.hindered;
      goes_on = i.comes.goes_on;
      structure = λ e. i.structure;
      logs = i.due;
      refused = (es, [], sym (append-nil es), i.cause);
      scans = no_scan i.asks;
      released = λ e. absurd (true≢false (sym e));
    }
  where
    -- the abort
    may_put_back : {d : Call} → d ≡ call.Abort → MayPutBack d RowSpent (backs_by g (state_after g (front xs)) es [])
    may_put_back e = subst (λ d. MayPutBack d RowSpent (backs_by g (state_after g (front xs)) es [])) (sym e) tt

    tries : {d : Call} → d ≡ call.Abort → Tries g w (outcomes xs) d RowSpent (keep is_step es)
    tries e = subst (λ d. Tries g w (outcomes xs) d RowSpent (keep is_step es)) (sym e) i.backs

    no_scan : {d : Call} → d ≡ call.Abort → StopsOnWay g w (outcomes xs) (state_after g (front xs)) d RowSpent es
    no_scan e = subst (λ d. StopsOnWay g w (outcomes xs) (state_after g (front xs)) d RowSpent es) (sym e) tt

pub every_halved : (old new : Story) → EveryHalved old new
every_halved old new l g group xs s0 k a w c es b x i =
    record { answer = tells l g group xs w c es i; known = a; no_earlier = x.no_earlier; stands = x.stands; notes = x.notes; any_moment = x.any_moment }
