-- Where a scan stands: on a new line, and behind a pair of it.
use Rattle.std.proofs.Common.{◌≡◌, inl, inr, ◌<◌, ◌≤◌, ◌-◌, ℕ, suc, Bool, true, false, List, [], ◌∷◌, None, Result, Ok, Err, refl, sym, ap, ◌∙◌, arith, true≢false}
use Rattle.map_model.specs.Maps.{key_end}
use Rattle.map_model.specs.Pairings.{is_last}
use Rattle.map_model.specs.declared.call.Answer.{Answer}
use Rattle.map_model.specs.declared.call.Answer.TheVariants as answer
use Rattle.map_model.specs.declared.call.Call.{Call}
use Rattle.map_model.specs.declared.call.Call.TheVariants as call
use Rattle.paged_scans.specs.engine_trait.declared.unserved.Unserved.{Unserved}
use Rattle.paged_scans.specs.core_state.Openings.{Opening}
use Rattle.paged_scans.specs.core_calls.Deeds.{Deed, Met, Outcome, answered, asked}
use Rattle.paged_scans.specs.core_calls.Fronts.{Done, outcomes}
use Rattle.paged_scans.specs.core_calls.Steps.{behind_pair, hindered_in, met_last, one_pair, scan_from}
use Rattle.paged_scans.specs.engine_calls.Clauses.{IsNewLine}
use Rattle.paged_scans.specs.Calls.{IsBehindPair, IsIn, StandsAt, step_answer, step_behind}
use Rattle.paged_scans.specs.declared.scans.Scan.{Scan}
use Rattle.paged_scans.specs.declared.scans.Step.{Step}
use Rattle.paged_scans.specs.declared.scans.Step.TheVariants as step
use Rattle.buffered_engine.specs.Calls.{IsTo}
use Rattle.buffered_engine.specs.Inside.Asks.{OnAsked}
use Rattle.buffered_engine.specs.Inside.Scans.{scan_behind, scan_of}
use Rattle.buffered_engine.specs.States.{GoesOnAt}
use Rattle.paged_scans.specs.engine_trait.declared.unserved.Unanswered.{Unanswered}
use Rattle.paged_scans.specs.engine_trait.declared.unserved.Unserved.TheVariants as unserved

-- ## Behind a pair

-- a deed that told a pair of this key
record IsPairOf (d : Deed) (key : ℕ) : Type 0 where
  pub hindered : hindered_in d ≡ None
  pub more : is_last (answered d) ≡ false
  pub at : (from : ℕ) → behind_pair d from ≡ suc key
  pub met : (n : ℕ) → one_pair d n ≡ suc n

same_key : (k v key value : ℕ) → answer.Pair k v ≡ answer.Pair key value → k ≡ key
same_key k v key value e = cc

pair_of : (d : Deed) (key value : ℕ) → answered d ≡ answer.Pair key value → IsPairOf d key
pair_of (Met from to k v alone) key value e = record { hindered = refl; more = refl; at = λ _. ap suc (same_key k v key value e); met = λ _. refl }
pair_of _ key value e = absurd (cc)

-- the scan goes on behind it
pub goes_on : (own : ℕ) (y : Scan) (g : Opening) (xs : List Done) (x : Done) (key value : ℕ) → StandsAt own y g xs → x.outcome.session ≡ own → asked x.outcome.deed ≡ call.Scan y.from y.to → answered x.outcome.deed ≡ answer.Pair key value
    → GoesOnAt own (record y { at = suc key; met = suc y.met }) g (x ∷ xs)
goes_on own y g xs x key value s session is told =
    let p = pair_of x.outcome.deed key value told in
    let pair : IsBehindPair own (call.Scan y.from y.to) (outcomes (x ∷ xs)) = (p.hindered, p.more, session, is) in
    (pair, record { line = inr pair; at = p.at y.from; met = p.met (met_last (outcomes xs)) ∙ ap suc s.met })

-- ## On a new line

last_from : (d : Deed) (from : ℕ) → is_last (answered d) ≡ true → behind_pair d from ≡ from
last_from (Met a b k v alone) from e = absurd (true≢false (sym e))
last_from _ from e = refl

last_met : (d : Deed) (n : ℕ) → is_last (answered d) ≡ true → one_pair d n ≡ 0
last_met (Met a b k v alone) n e = absurd (true≢false (sym e))
last_met _ n e = refl

new_from : (ys : List Outcome) (from : ℕ) → IsNewLine ys → scan_from ys from ≡ from
new_from [] from line = refl
new_from (y ∷ earlier) from line = last_from y.deed from line.1

new_met : (ys : List Outcome) → IsNewLine ys → met_last ys ≡ 0
new_met [] line = refl
new_met (y ∷ earlier) line = last_met y.deed (met_last earlier) line.1

pub stands_new : (own from to : ℕ) (g : Opening) (xs : List Done) → IsNewLine (outcomes xs) → StandsAt own (record { from = from; to = to; at = from; met = 0 }) g xs
stands_new own from to g xs line = record { line = inl line; at = new_from (outcomes xs) from line; met = new_met (outcomes xs) line }

pub new_in : (from to : ℕ) → from < key_end → to < key_end → IsIn (record { from = from; to = to; at = from; met = 0 })
new_in from to low high = record { from = low; to = high; at = omega arith; low = omega arith; met = omega arith }

-- ## What is asked, and what is answered

-- a pair is told to a scan alone
pub pair_asked : (c : Call) (x : Scan) (key value : ℕ) → IsTo c (Ok (answer.Pair key value)) → c ≡ call.Scan (scan_of c x).from (scan_of c x).to
pair_asked (call.Scan from to) x key value t = refl
pair_asked c x key value t = absurd t

pub pair_stands : (own : ℕ) (c : Call) (is_long : Bool) (x : Scan) (g : Opening) (xs : List Done) (key value : ℕ) → IsTo c (Ok (answer.Pair key value)) → OnAsked own c is_long g xs → StandsAt own (scan_of c x) g xs
pair_stands own (call.Scan from to) is_long x g xs key value t on = stands_new own from to g xs on
pair_stands own c is_long x g xs key value t on = absurd t

-- a call that is no scan leaves the engine's as it is
pub scan_kept : (c : Call) (a : Result Answer Unanswered) (x : Scan) → IsTo c a → ((from to : ℕ) → c ≡ call.Scan from to → ⊥) → x ≡ scan_behind a (scan_of c x)
scan_kept (call.Scan from to) a x t n = absurd (n from to refl)
scan_kept c (Ok (answer.Pair key value)) x t n = absurd t
scan_kept c (Err why) x t n = refl
scan_kept c a x t n = refl

pub step_is : (r : Result Step Unserved) (x : Scan) → step_behind r x ≡ scan_behind (step_answer r) x
step_is (Ok (step.Pair key value)) x = refl
step_is (Ok (step.More from)) x = refl
step_is (Ok step.End) x = refl
step_is (Err (unserved.Refused why)) x = refl
step_is (Err (unserved.Unanswered why)) x = refl

pub is_step : (from to : ℕ) (r : Result Step Unserved) → IsTo (call.Scan from to) (step_answer r)
is_step from to (Ok (step.Pair key value)) = tt
is_step from to (Ok (step.More at)) = tt
is_step from to (Ok step.End) = tt
is_step from to (Err (unserved.Refused why)) = tt
is_step from to (Err (unserved.Unanswered why)) = tt

-- ## Fewer pairs are left

pub fewer_left : (met now : ℕ) → now ≡ suc met → now ≤ 64 → 64 - now < 64 - met
fewer_left met now e h = omega arith
