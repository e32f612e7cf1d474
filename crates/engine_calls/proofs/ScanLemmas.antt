-- A scan.
use Rattle.std.proofs.Common.{◌≡◌, ◌≤◌, ◌<◌, ℕ, suc, Bool, true, false, cond, ◌==◌, ◌||◌, List, [], ◌∷◌, ◌++◌, Option, Some, refl, sym, ap, ◌∙◌, subst, true≢false}
use Rattle.map_model.specs.Lists.{any, keep}
use Rattle.map_model.specs.Maps.{MapCall, MapAnswer}
use Rattle.run_crashes.specs.core_state.Openings.{Opening}
use Rattle.run_crashes.specs.core_state.States.{State}
use Rattle.run_crashes.specs.core_state.Events.{Event, Mode}
use Rattle.run_crashes.specs.core_state.Needs.{may, value_in}
use Rattle.run_crashes.specs.core_state.Steps.{state_after}
use Rattle.run_crashes.proofs.core_state.Runs.{met_more}
use Rattle.lean_disk.specs.Story.{Story}
use Rattle.run_crashes.specs.core_disk.Versions.{EveryVersion}
use Rattle.run_crashes.specs.core_calls.Deeds.{Met, Over, Paused}
use Rattle.run_crashes.specs.core_calls.Fronts.{Done, front, outcomes}
use Rattle.run_crashes.specs.core_calls.Marks.{Called, Mark, marks}
use Rattle.run_crashes.specs.core_calls.Refusals.{Limits}
use Rattle.run_crashes.specs.core_calls.Runs.{Tells}
use Rattle.run_crashes.specs.core_calls.Steps.{Walks, is_step, is_structure, met_last, scan_from}
use Rattle.engine_calls.specs.Parts.{behind_first}
use Rattle.engine_calls.specs.Puts.{IsWhole, is_alone}
use Rattle.engine_calls.specs.Scans.{EveryScan, IsPair, IsScan, PassesGaps, pair_behind, scanned_by, unsaid_pair}
use Rattle.run_crashes.specs.core_calls.LogEvents.{IsTightSomewhere}
use Rattle.run_crashes.proofs.core_calls.WhereLemmas.{syncs_more}
use Rattle.engine_calls.proofs.MarkLemmas.{any_append, either_false, fresh_append, fresh_none, has_mark, marks_last, marks_none, no_step}
use Rattle.engine_calls.proofs.PartLemmas.{quiet}

gap_first : (e : Event) (es : List Event) → PassesGaps (e ∷ es) → (has_mark e ≡ false) × PassesGaps es
gap_first (Event.Lock w i Mode.Shared) es t = (refl, t)
gap_first (Event.Next w p k (MapAnswer.Gap h)) es t = (refl, t)
gap_first _ es t = absurd t

gaps_none : (es : List Event) → PassesGaps (keep is_step es) → any has_mark es ≡ false
gaps_none [] t = refl
gaps_none (e ∷ es) t = go (is_step e) refl (gaps_none es) t
  where
    go : (b : Bool) → is_step e ≡ b → (PassesGaps (keep is_step es) → any has_mark es ≡ false) → PassesGaps (cond b (e ∷ keep is_step es) (keep is_step es)) → (has_mark e || any has_mark es) ≡ false
    go true q h t = let x = gap_first e (keep is_step es) t in either_false (has_mark e) (any has_mark es) x.0 (h x.1)
    go false q h t = either_false (has_mark e) (any has_mark es) (no_step e q) (h t)

abbrev nothing : List Mark
nothing = []

no_one : (c : Bool) → nothing ≡ cond c nothing nothing
no_one true = refl
no_one false = refl

-- no pair is met
none_told : (g : Opening) (xs : List Done) (w : ℕ) (first : List Event) → PassesGaps (keep is_step first) → (v : ℕ) → marks g (state_after g (front xs)) first v [] ≡ cond (w == v) nothing nothing
none_told g xs w first t v = marks_none g (state_after g (front xs)) first v [] (gaps_none first t) ∙ no_one (w == v)

module _ (g : Opening) (xs : List Done) (x : Done) (first : List Event) (w page at key v : ℕ) (is : x.events ≡ pair_behind first w page at key v) (i : IsScan g xs x first) (p : IsPair g xs first page key v) where
  abbrev event : Event
  event = Event.Next w page at (MapAnswer.Pair key v)

  abbrev s : State
  s = behind_first g xs first

  pub pair_told : (u : ℕ) → marks g (state_after g (front xs)) (first ++ event ∷ []) u [] ≡ cond (w == u) (Called (MapCall.Get key) (MapAnswer.Value (Some v)) (is_alone g xs first w key) ∷ []) []
  pair_told u = marks_last g (state_after g (front xs)) first (event ∷ []) u (gaps_none first i.gaps)
      ∙ go (may g s event) (met_more g (state_after g (front xs)) first (event ∷ []) (subst (λ (es : List Event). Rattle.run_crashes.specs.core_state.Steps.AllMet g (state_after g (front xs)) es) is i.met)).0 (w == u)
    where
      go : (a : Bool) → a ≡ true → (b : Bool) → cond a (cond b (Called (MapCall.Get key) (MapAnswer.Value (value_in g.format (s.page page).node key)) (is_alone g xs first w key) ∷ []) []) []
          ≡ cond b (Called (MapCall.Get key) (MapAnswer.Value (Some v)) (is_alone g xs first w key) ∷ []) []
      go true e true = ap (λ (o : Option ℕ). Called (MapCall.Get key) (MapAnswer.Value o) (is_alone g xs first w key) ∷ []) p
      go true e false = refl
      go false e b = absurd (true≢false (sym e))

-- ## What is told

pub met_tells : (l : Limits) (g : Opening) (group : ℕ) (xs : List Done) (first : List Event) (w page at from to key v : ℕ) → let es = pair_behind first w page at key v in
    let x = scanned_by w (Met from to key v (is_alone g xs first w key)) [] es in IsScan g xs x first → IsPair g xs first page key v → IsWhole xs w → key ≤ to → met_last (outcomes xs) < l.pairs
    → Walks w (scan_from (outcomes xs) from) (keep is_step es) (λ n. n ≡ suc key) → Tells l g group xs x
met_tells l g group xs first w page at from to key v i p whole low few walks = record {
  met = i.met;
  fresh = fresh_append g (state_after g (front xs)) first (Event.Next w page at (MapAnswer.Pair key v) ∷ []) (gaps_none first i.gaps) (tt, tt);
  told = pair_told g xs _ first w page at key v refl i p;
  in_turn = whole;
  steps = (refl, low, few, walks);
  hindered = i.comes.hindered;
  goes_on = i.comes.goes_on;
  structure = λ e. any_append is_structure first (Event.Next w page at (MapAnswer.Pair key v) ∷ []) i.structure refl;
  logs = syncs_more (IsTightSomewhere g) g first (Event.Next w page at (MapAnswer.Pair key v) ∷ []) (state_after g (front xs)) false i.syncs tt;
  refused = tt;
  scans = i.rows;
  released = λ e. absurd (true≢false (sym e));
}

pub paused_tells : (l : Limits) (g : Opening) (group : ℕ) (xs : List Done) (first : List Event) (w from to next : ℕ) → let x = scanned_by w (Paused from to next) [] first in IsScan g xs x first
    → keep is_step first ≡ [] → met_last (outcomes xs) ≡ l.pairs → next ≡ scan_from (outcomes xs) from → next ≤ to → Tells l g group xs x
paused_tells l g group xs first w from to next i none full is low = record {
  met = i.met;
  fresh = fresh_none g (state_after g (front xs)) first (gaps_none first i.gaps);
  told = none_told g xs w first i.gaps;
  in_turn = tt;
  steps = (refl, none, full, is, low);
  hindered = i.comes.hindered;
  goes_on = i.comes.goes_on;
  structure = λ e. i.structure;
  logs = i.syncs;
  refused = tt;
  scans = tt;
  released = λ e. absurd (true≢false (sym e));
}

pub over_tells : (l : Limits) (g : Opening) (group : ℕ) (xs : List Done) (first : List Event) (w from to : ℕ) → let x = scanned_by w (Over from to) [] first in IsScan g xs x first
    → (met_last (outcomes xs) ≡ l.pairs → to < scan_from (outcomes xs) from) → Walks w (scan_from (outcomes xs) from) (keep is_step first) (λ n. to < n) → Tells l g group xs x
over_tells l g group xs first w from to i all walks = record {
  met = i.met;
  fresh = fresh_none g (state_after g (front xs)) first (gaps_none first i.gaps);
  told = none_told g xs w first i.gaps;
  in_turn = tt;
  steps = (tt, all, walks);
  hindered = i.comes.hindered;
  goes_on = i.comes.goes_on;
  structure = λ e. i.structure;
  logs = i.syncs;
  refused = tt;
  scans = i.rows;
  released = λ e. absurd (true≢false (sym e));
}

pub beyond_tells : (l : Limits) (g : Opening) (group : ℕ) (xs : List Done) (first : List Event) (w page at from to key v : ℕ) → let es = pair_behind first w page at key v in
    let x = scanned_by w (Over from to) (unsaid_pair g xs first w key v ∷ []) es in IsScan g xs x first → IsPair g xs first page key v → to < key
    → (met_last (outcomes xs) ≡ l.pairs → to < scan_from (outcomes xs) from) → Walks w (scan_from (outcomes xs) from) (keep is_step es) (λ n. to < n) → Tells l g group xs x
beyond_tells l g group xs first w page at from to key v i p above all walks = record {
  met = i.met;
  fresh = fresh_append g (state_after g (front xs)) first (Event.Next w page at (MapAnswer.Pair key v) ∷ []) (gaps_none first i.gaps) (tt, tt);
  told = pair_told g xs _ first w page at key v refl i p;
  in_turn = tt;
  steps = ((above, tt), all, walks);
  hindered = i.comes.hindered;
  goes_on = i.comes.goes_on;
  structure = λ e. any_append is_structure first (Event.Next w page at (MapAnswer.Pair key v) ∷ []) i.structure refl;
  logs = syncs_more (IsTightSomewhere g) g first (Event.Next w page at (MapAnswer.Pair key v) ∷ []) (state_after g (front xs)) false i.syncs tt;
  refused = tt;
  scans = i.rows;
  released = λ e. absurd (true≢false (sym e));
}

-- ## And of the disk

pub every_scan : EveryVersion → (old new : Story) → EveryScan old new
every_scan versions old new l g group xs s0 k a first w from to b = record {
  met = λ page at key v gone i p whole low few walks.
      let y = quiet l g group xs s0 k old new new first a b versions (Event.Next w page at (MapAnswer.Pair key v) ∷ []) refl gone in
      record { answer = met_tells l g group xs first w page at from to key v i p whole low few walks; known = a; no_earlier = y.no_earlier; stands = y.stands; notes = y.notes; any_moment = y.any_moment };
  paused = λ next gone i none full is low.
      record { answer = paused_tells l g group xs first w from to next i none full is low; known = a; no_earlier = gone.no_earlier; stands = gone.stands; notes = gone.notes; any_moment = gone.any_moment };
  over = λ gone i all walks.
      record { answer = over_tells l g group xs first w from to i all walks; known = a; no_earlier = gone.no_earlier; stands = gone.stands; notes = gone.notes; any_moment = gone.any_moment };
  beyond = λ page at key v gone i p above all walks.
      let y = quiet l g group xs s0 k old new new first a b versions (Event.Next w page at (MapAnswer.Pair key v) ∷ []) refl gone in
      record { answer = beyond_tells l g group xs first w page at from to key v i p above all walks; known = a; no_earlier = y.no_earlier; stands = y.stands; notes = y.notes; any_moment = y.any_moment };
}
