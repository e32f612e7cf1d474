-- The scripts by hand, computed.
use Rattle.std.proofs.Common.{◌^◌, ◌-◌, ℕ, true, false, List, [], ◌∷◌, Some, None, refl, sym, inl, inr, arith, true≢false}
use Rattle.core_crash.specs.core_state.Events.{Event, Mode}
use Rattle.core_crash.specs.core_state.Steps.{state_after}
use Rattle.core_crash.proofs.ByHand.{opening}
use Rattle.map_model.specs.declared.call.Call.TheVariants as call
use Rattle.map_model.specs.declared.call.Refusal.TheVariants as refusal
use Rattle.map_model.specs.Maps.{MapCall, MapAnswer}
use Rattle.core_calls.specs.Deeds.{Begun, Got, Changed, Deleted, Absent, Met, Over, Committed, Aborted, Refused, Synced}
use Rattle.core_calls.specs.Fronts.{Done, front}
use Rattle.core_calls.specs.Runs.{Tells, EachTells}
use Rattle.core_calls.specs.Rows.{by, Rows}
use Rattle.core_calls.proofs.HandLemmas.{limits, told, nothing, free_all}

abbrev Told : ℕ → List Done → Done → Type 0
Told group earlier x = Tells limits opening group earlier x

-- ### grouped

abbrev grouped_0 : List Done
grouped_0 = []

abbrev grouped_1 : List Done
grouped_1 = by 1 (Begun 1) (Event.Begin 1 0 ∷ []) ∷ grouped_0

grouped_is_1 : Told 2 grouped_0 (by 1 (Begun 1) (Event.Begin 1 0 ∷ []))
grouped_is_1 = record {
  met = (refl, tt);
  fresh = (refl, tt);
  told = told (state_after opening (front grouped_0)) (by 1 (Begun 1) (Event.Begin 1 0 ∷ [])) (tt, inl (λ w. refl)) refl refl;
  in_turn = tt;
  steps = (refl, 0, refl);
  scans = tt;
  structure = λ _. refl;
  logs = ([], 0, false, refl, refl);
  hindered = tt;
  goes_on = tt;
  released = λ q. absurd (true≢false (sym q));
  refused = tt;
}

abbrev grouped_2 : List Done
grouped_2 = by 1 (Changed 5 7 None) (Event.Lock 1 5 Mode.Alone ∷ Event.Change 1 0 5 7 ∷ []) ∷ grouped_1

grouped_is_2 : Told 2 grouped_1 (by 1 (Changed 5 7 None) (Event.Lock 1 5 Mode.Alone ∷ Event.Change 1 0 5 7 ∷ []))
grouped_is_2 = record {
  met = (refl, (refl, tt));
  fresh = (tt, (tt, tt));
  told = told (state_after opening (front grouped_1)) (by 1 (Changed 5 7 None) (Event.Lock 1 5 Mode.Alone ∷ Event.Change 1 0 5 7 ∷ [])) ((tt, inl (λ w. refl)), inl (λ w. refl)) refl refl;
  in_turn = refl;
  steps = (refl, 0, refl);
  scans = tt;
  structure = λ _. refl;
  logs = tt;
  hindered = tt;
  goes_on = λ q. absurd (true≢false q);
  released = λ q. absurd (true≢false (sym q));
  refused = tt;
}

abbrev grouped_3 : List Done
grouped_3 = by 1 (Committed 1 2) (Event.End 1 true 0 ∷ Event.Unlock 1 5 ∷ []) ∷ grouped_2

grouped_is_3 : Told 2 grouped_2 (by 1 (Committed 1 2) (Event.End 1 true 0 ∷ Event.Unlock 1 5 ∷ []))
grouped_is_3 = record {
  met = (refl, (refl, tt));
  fresh = (refl, (tt, tt));
  told = told (state_after opening (front grouped_2)) (by 1 (Committed 1 2) (Event.End 1 true 0 ∷ Event.Unlock 1 5 ∷ [])) ((tt, inl (λ w. refl)), inl (λ w. refl)) refl refl;
  in_turn = refl;
  steps = (refl, 0, Event.Unlock 1 5 ∷ [], refl, (refl, tt));
  scans = tt;
  structure = λ _. refl;
  logs = record { before = Event.End 1 true 0 ∷ Event.Unlock 1 5 ∷ []; is = refl; else_none = refl };
  hindered = tt;
  goes_on = λ q. absurd (true≢false q);
  released = λ _. free_all (front grouped_3) 1 refl;
  refused = tt;
}

abbrev grouped_4 : List Done
grouped_4 = by 2 (Begun 1) (Event.Begin 2 0 ∷ []) ∷ grouped_3

grouped_is_4 : Told 2 grouped_3 (by 2 (Begun 1) (Event.Begin 2 0 ∷ []))
grouped_is_4 = record {
  met = (refl, tt);
  fresh = (refl, tt);
  told = told (state_after opening (front grouped_3)) (by 2 (Begun 1) (Event.Begin 2 0 ∷ [])) (tt, inl (λ w. refl)) refl refl;
  in_turn = tt;
  steps = (refl, 0, refl);
  scans = tt;
  structure = λ _. refl;
  logs = ([], 0, false, refl, refl);
  hindered = tt;
  goes_on = λ q. absurd (true≢false q);
  released = λ q. absurd (true≢false (sym q));
  refused = tt;
}

abbrev grouped_5 : List Done
grouped_5 = by 2 (Got 5 (Some 7) false) (Event.Lock 2 5 Mode.Shared ∷ Event.Read 2 0 5 (Some 7) ∷ []) ∷ grouped_4

grouped_is_5 : Told 2 grouped_4 (by 2 (Got 5 (Some 7) false) (Event.Lock 2 5 Mode.Shared ∷ Event.Read 2 0 5 (Some 7) ∷ []))
grouped_is_5 = record {
  met = (refl, (refl, tt));
  fresh = (tt, (tt, tt));
  told = told (state_after opening (front grouped_4)) (by 2 (Got 5 (Some 7) false) (Event.Lock 2 5 Mode.Shared ∷ Event.Read 2 0 5 (Some 7) ∷ [])) ((tt, inl (λ w. refl)), inl (λ w. refl)) refl refl;
  in_turn = refl;
  steps = (refl, 0, refl);
  scans = tt;
  structure = λ _. refl;
  logs = tt;
  hindered = tt;
  goes_on = λ q. absurd (true≢false q);
  released = λ q. absurd (true≢false (sym q));
  refused = tt;
}

abbrev grouped_6 : List Done
grouped_6 = by 2 (Committed 1 3) (Event.End 2 true 0 ∷ Event.Unlock 2 5 ∷ []) ∷ grouped_5

grouped_is_6 : Told 2 grouped_5 (by 2 (Committed 1 3) (Event.End 2 true 0 ∷ Event.Unlock 2 5 ∷ []))
grouped_is_6 = record {
  met = (refl, (refl, tt));
  fresh = (refl, (tt, tt));
  told = told (state_after opening (front grouped_5)) (by 2 (Committed 1 3) (Event.End 2 true 0 ∷ Event.Unlock 2 5 ∷ [])) ((tt, inl (λ w. refl)), inl (λ w. refl)) refl refl;
  in_turn = refl;
  steps = (refl, 0, Event.Unlock 2 5 ∷ [], refl, (refl, tt));
  scans = tt;
  structure = λ _. refl;
  logs = record { before = Event.End 2 true 0 ∷ Event.Unlock 2 5 ∷ []; is = refl; else_none = refl };
  hindered = tt;
  goes_on = λ q. absurd (true≢false q);
  released = λ _. free_all (front grouped_6) 2 refl;
  refused = tt;
}

abbrev grouped_7 : List Done
grouped_7 = by 2 (Begun 2) (Event.Begin 2 0 ∷ []) ∷ grouped_6

grouped_is_7 : Told 2 grouped_6 (by 2 (Begun 2) (Event.Begin 2 0 ∷ []))
grouped_is_7 = record {
  met = (refl, tt);
  fresh = (refl, tt);
  told = told (state_after opening (front grouped_6)) (by 2 (Begun 2) (Event.Begin 2 0 ∷ [])) (tt, inl (λ w. refl)) refl refl;
  in_turn = tt;
  steps = (refl, 0, refl);
  scans = tt;
  structure = λ _. refl;
  logs = ([], 0, false, refl, refl);
  hindered = tt;
  goes_on = λ q. absurd (true≢false q);
  released = λ q. absurd (true≢false (sym q));
  refused = tt;
}

abbrev grouped_8 : List Done
grouped_8 = by 2 (Committed 2 4) (Event.End 2 true 0 ∷ Event.Flush 2 4 ∷ []) ∷ grouped_7

grouped_is_8 : Told 2 grouped_7 (by 2 (Committed 2 4) (Event.End 2 true 0 ∷ Event.Flush 2 4 ∷ []))
grouped_is_8 = record {
  met = (refl, (refl, tt));
  fresh = (refl, (tt, tt));
  told = told (state_after opening (front grouped_7)) (by 2 (Committed 2 4) (Event.End 2 true 0 ∷ Event.Flush 2 4 ∷ [])) ((tt, inl (λ w. refl)), inl (λ w. refl)) refl refl;
  in_turn = refl;
  steps = (refl, 0, [], refl, tt);
  scans = tt;
  structure = λ _. refl;
  logs = record { before = Event.End 2 true 0 ∷ []; is = refl; else_none = refl };
  hindered = tt;
  goes_on = λ q. absurd (true≢false q);
  released = λ _. free_all (front grouped_8) 2 refl;
  refused = tt;
}

abbrev grouped_9 : List Done
grouped_9 = by 0 (Synced 4) (Event.Flush 1 2 ∷ Event.Sync 4 ∷ []) ∷ grouped_8

grouped_is_9 : Told 2 grouped_8 (by 0 (Synced 4) (Event.Flush 1 2 ∷ Event.Sync 4 ∷ []))
grouped_is_9 = record {
  met = (refl, (refl, tt));
  fresh = (tt, (tt, tt));
  told = told (state_after opening (front grouped_8)) (by 0 (Synced 4) (Event.Flush 1 2 ∷ Event.Sync 4 ∷ [])) ((tt, inr (λ g s. refl)), inr (λ g s. refl)) refl refl;
  in_turn = tt;
  steps = (refl, refl);
  scans = tt;
  structure = λ _. refl;
  logs = (Event.Flush 1 2 ∷ [], refl, (Event.Flush 1 2 ∷ [], refl, tt));
  hindered = tt;
  goes_on = λ q. absurd (true≢false q);
  released = λ q. absurd (true≢false (sym q));
  refused = tt;
}

pub grouped_tells : EachTells limits opening 2 grouped_9
grouped_tells = (((((((((tt, grouped_is_1), grouped_is_2), grouped_is_3), grouped_is_4), grouped_is_5), grouped_is_6), grouped_is_7), grouped_is_8), grouped_is_9)

-- ### needy

abbrev needy_0 : List Done
needy_0 = []

abbrev needy_1 : List Done
needy_1 = by 1 (Begun 1) (Event.Begin 1 0 ∷ []) ∷ needy_0

needy_is_1 : Told 1 needy_0 (by 1 (Begun 1) (Event.Begin 1 0 ∷ []))
needy_is_1 = record {
  met = (refl, tt);
  fresh = (refl, tt);
  told = told (state_after opening (front needy_0)) (by 1 (Begun 1) (Event.Begin 1 0 ∷ [])) (tt, inl (λ w. refl)) refl refl;
  in_turn = tt;
  steps = (refl, 0, refl);
  scans = tt;
  structure = λ _. refl;
  logs = ([], 0, false, refl, refl);
  hindered = tt;
  goes_on = tt;
  released = λ q. absurd (true≢false (sym q));
  refused = tt;
}

abbrev needy_2 : List Done
needy_2 = by 1 (Changed 5 7 None) (Event.Lock 1 5 Mode.Alone ∷ Event.Change 1 0 5 7 ∷ []) ∷ needy_1

needy_is_2 : Told 1 needy_1 (by 1 (Changed 5 7 None) (Event.Lock 1 5 Mode.Alone ∷ Event.Change 1 0 5 7 ∷ []))
needy_is_2 = record {
  met = (refl, (refl, tt));
  fresh = (tt, (tt, tt));
  told = told (state_after opening (front needy_1)) (by 1 (Changed 5 7 None) (Event.Lock 1 5 Mode.Alone ∷ Event.Change 1 0 5 7 ∷ [])) ((tt, inl (λ w. refl)), inl (λ w. refl)) refl refl;
  in_turn = refl;
  steps = (refl, 0, refl);
  scans = tt;
  structure = λ _. refl;
  logs = tt;
  hindered = tt;
  goes_on = λ q. absurd (true≢false q);
  released = λ q. absurd (true≢false (sym q));
  refused = tt;
}

abbrev needy_3 : List Done
needy_3 = by 2 (Begun 1) (Event.Begin 2 0 ∷ []) ∷ needy_2

needy_is_3 : Told 1 needy_2 (by 2 (Begun 1) (Event.Begin 2 0 ∷ []))
needy_is_3 = record {
  met = (refl, tt);
  fresh = (refl, tt);
  told = told (state_after opening (front needy_2)) (by 2 (Begun 1) (Event.Begin 2 0 ∷ [])) (tt, inl (λ w. refl)) refl refl;
  in_turn = tt;
  steps = (refl, 0, refl);
  scans = tt;
  structure = λ _. refl;
  logs = ([], 0, false, refl, refl);
  hindered = tt;
  goes_on = λ q. absurd (true≢false q);
  released = λ q. absurd (true≢false (sym q));
  refused = tt;
}

abbrev needy_4 : List Done
needy_4 = by 2 (Changed 6 1 None) (Event.Lock 2 6 Mode.Alone ∷ Event.Change 2 0 6 1 ∷ []) ∷ needy_3

needy_is_4 : Told 1 needy_3 (by 2 (Changed 6 1 None) (Event.Lock 2 6 Mode.Alone ∷ Event.Change 2 0 6 1 ∷ []))
needy_is_4 = record {
  met = (refl, (refl, tt));
  fresh = (tt, (tt, tt));
  told = told (state_after opening (front needy_3)) (by 2 (Changed 6 1 None) (Event.Lock 2 6 Mode.Alone ∷ Event.Change 2 0 6 1 ∷ [])) ((tt, inl (λ w. refl)), inl (λ w. refl)) refl refl;
  in_turn = refl;
  steps = (refl, 0, refl);
  scans = tt;
  structure = λ _. refl;
  logs = tt;
  hindered = tt;
  goes_on = λ q. absurd (true≢false q);
  released = λ q. absurd (true≢false (sym q));
  refused = tt;
}

abbrev needy_5 : List Done
needy_5 = by 2 (Aborted call.Abort 1 4 (record { session = 2; call = MapCall.Del 6; answer = MapAnswer.Was (Some 1) } ∷ [])) (Event.Put_back 2 0 ∷ Event.End 2 false 0 ∷ Event.Unlock 2 6 ∷ []) ∷ needy_4

needy_is_5 : Told 1 needy_4 (by 2 (Aborted call.Abort 1 4 (record { session = 2; call = MapCall.Del 6; answer = MapAnswer.Was (Some 1) } ∷ [])) (Event.Put_back 2 0 ∷ Event.End 2 false 0 ∷ Event.Unlock 2 6 ∷ []))
needy_is_5 = record {
  met = (refl, (refl, (refl, tt)));
  fresh = (tt, (refl, (tt, tt)));
  told = told (state_after opening (front needy_4)) (by 2 (Aborted call.Abort 1 4 (record { session = 2; call = MapCall.Del 6; answer = MapAnswer.Was (Some 1) } ∷ [])) (Event.Put_back 2 0 ∷ Event.End 2 false 0 ∷ Event.Unlock 2 6 ∷ [])) (((tt, inl (λ w. refl)), inl (λ w. refl)), inl (λ w. refl)) refl refl;
  in_turn = tt;
  steps = (refl, (refl, (refl, (refl, tt))));
  scans = tt;
  structure = λ _. refl;
  logs = tt;
  hindered = refl;
  goes_on = λ q. absurd (true≢false q);
  released = λ _. free_all (front needy_5) 2 refl;
  refused = tt;
}

abbrev needy_6 : List Done
needy_6 = by 2 (Begun 2) (Event.Begin 2 0 ∷ []) ∷ needy_5

needy_is_6 : Told 1 needy_5 (by 2 (Begun 2) (Event.Begin 2 0 ∷ []))
needy_is_6 = record {
  met = (refl, tt);
  fresh = (refl, tt);
  told = told (state_after opening (front needy_5)) (by 2 (Begun 2) (Event.Begin 2 0 ∷ [])) (tt, inl (λ w. refl)) refl refl;
  in_turn = tt;
  steps = (refl, 0, refl);
  scans = tt;
  structure = λ _. refl;
  logs = ([], 0, false, refl, refl);
  hindered = tt;
  goes_on = λ q. absurd (true≢false q);
  released = λ q. absurd (true≢false (sym q));
  refused = tt;
}

abbrev needy_7 : List Done
needy_7 = by 2 (Changed 6 2 None) (Event.Lock 2 6 Mode.Alone ∷ Event.Change 2 0 6 2 ∷ []) ∷ needy_6

needy_is_7 : Told 1 needy_6 (by 2 (Changed 6 2 None) (Event.Lock 2 6 Mode.Alone ∷ Event.Change 2 0 6 2 ∷ []))
needy_is_7 = record {
  met = (refl, (refl, tt));
  fresh = (tt, (tt, tt));
  told = told (state_after opening (front needy_6)) (by 2 (Changed 6 2 None) (Event.Lock 2 6 Mode.Alone ∷ Event.Change 2 0 6 2 ∷ [])) ((tt, inl (λ w. refl)), inl (λ w. refl)) refl refl;
  in_turn = refl;
  steps = (refl, 0, refl);
  scans = tt;
  structure = λ _. refl;
  logs = tt;
  hindered = tt;
  goes_on = λ q. absurd (true≢false q);
  released = λ q. absurd (true≢false (sym q));
  refused = tt;
}

abbrev needy_8 : List Done
needy_8 = by 2 (Committed 2 6) (Event.End 2 true 0 ∷ Event.Unlock 2 6 ∷ Event.Flush 2 6 ∷ []) ∷ needy_7

needy_is_8 : Told 1 needy_7 (by 2 (Committed 2 6) (Event.End 2 true 0 ∷ Event.Unlock 2 6 ∷ Event.Flush 2 6 ∷ []))
needy_is_8 = record {
  met = (refl, (refl, (refl, tt)));
  fresh = (refl, (tt, (tt, tt)));
  told = told (state_after opening (front needy_7)) (by 2 (Committed 2 6) (Event.End 2 true 0 ∷ Event.Unlock 2 6 ∷ Event.Flush 2 6 ∷ [])) (((tt, inl (λ w. refl)), inl (λ w. refl)), inl (λ w. refl)) refl refl;
  in_turn = refl;
  steps = (refl, 0, Event.Unlock 2 6 ∷ [], refl, (refl, tt));
  scans = tt;
  structure = λ _. refl;
  logs = record { before = Event.End 2 true 0 ∷ Event.Unlock 2 6 ∷ []; is = refl; else_none = refl };
  hindered = tt;
  goes_on = λ q. absurd (true≢false q);
  released = λ _. free_all (front needy_8) 2 refl;
  refused = tt;
}

abbrev needy_9 : List Done
needy_9 = by 0 (Synced 6) (Event.Flush 1 1 ∷ Event.Sync 6 ∷ []) ∷ needy_8

needy_is_9 : Told 1 needy_8 (by 0 (Synced 6) (Event.Flush 1 1 ∷ Event.Sync 6 ∷ []))
needy_is_9 = record {
  met = (refl, (refl, tt));
  fresh = (tt, (tt, tt));
  told = told (state_after opening (front needy_8)) (by 0 (Synced 6) (Event.Flush 1 1 ∷ Event.Sync 6 ∷ [])) ((tt, inr (λ g s. refl)), inr (λ g s. refl)) refl refl;
  in_turn = tt;
  steps = (refl, refl);
  scans = tt;
  structure = λ _. refl;
  logs = (Event.Flush 1 1 ∷ [], refl, (Event.Flush 1 1 ∷ [], refl, tt));
  hindered = tt;
  goes_on = λ q. absurd (true≢false q);
  released = λ q. absurd (true≢false (sym q));
  refused = tt;
}

pub needy_tells : EachTells limits opening 1 needy_9
needy_tells = (((((((((tt, needy_is_1), needy_is_2), needy_is_3), needy_is_4), needy_is_5), needy_is_6), needy_is_7), needy_is_8), needy_is_9)

-- ### hindered

abbrev hindered_0 : List Done
hindered_0 = []

abbrev hindered_1 : List Done
hindered_1 = by 1 (Begun 1) (Event.Begin 1 0 ∷ []) ∷ hindered_0

hindered_is_1 : Told 1 hindered_0 (by 1 (Begun 1) (Event.Begin 1 0 ∷ []))
hindered_is_1 = record {
  met = (refl, tt);
  fresh = (refl, tt);
  told = told (state_after opening (front hindered_0)) (by 1 (Begun 1) (Event.Begin 1 0 ∷ [])) (tt, inl (λ w. refl)) refl refl;
  in_turn = tt;
  steps = (refl, 0, refl);
  scans = tt;
  structure = λ _. refl;
  logs = ([], 0, false, refl, refl);
  hindered = tt;
  goes_on = tt;
  released = λ q. absurd (true≢false (sym q));
  refused = tt;
}

abbrev hindered_2 : List Done
hindered_2 = by 1 (Changed 5 7 None) (Event.Lock 1 5 Mode.Alone ∷ Event.Change 1 0 5 7 ∷ []) ∷ hindered_1

hindered_is_2 : Told 1 hindered_1 (by 1 (Changed 5 7 None) (Event.Lock 1 5 Mode.Alone ∷ Event.Change 1 0 5 7 ∷ []))
hindered_is_2 = record {
  met = (refl, (refl, tt));
  fresh = (tt, (tt, tt));
  told = told (state_after opening (front hindered_1)) (by 1 (Changed 5 7 None) (Event.Lock 1 5 Mode.Alone ∷ Event.Change 1 0 5 7 ∷ [])) ((tt, inl (λ w. refl)), inl (λ w. refl)) refl refl;
  in_turn = refl;
  steps = (refl, 0, refl);
  scans = tt;
  structure = λ _. refl;
  logs = tt;
  hindered = tt;
  goes_on = λ q. absurd (true≢false q);
  released = λ q. absurd (true≢false (sym q));
  refused = tt;
}

abbrev hindered_3 : List Done
hindered_3 = by 2 (Begun 1) (Event.Begin 2 0 ∷ []) ∷ hindered_2

hindered_is_3 : Told 1 hindered_2 (by 2 (Begun 1) (Event.Begin 2 0 ∷ []))
hindered_is_3 = record {
  met = (refl, tt);
  fresh = (refl, tt);
  told = told (state_after opening (front hindered_2)) (by 2 (Begun 1) (Event.Begin 2 0 ∷ [])) (tt, inl (λ w. refl)) refl refl;
  in_turn = tt;
  steps = (refl, 0, refl);
  scans = tt;
  structure = λ _. refl;
  logs = ([], 0, false, refl, refl);
  hindered = tt;
  goes_on = λ q. absurd (true≢false q);
  released = λ q. absurd (true≢false (sym q));
  refused = tt;
}

abbrev hindered_4 : List Done
hindered_4 = by 2 (Refused (call.Get 5) (refusal.Conflict 1) []) ([]) ∷ hindered_3

hindered_is_4 : Told 1 hindered_3 (by 2 (Refused (call.Get 5) (refusal.Conflict 1) []) ([]))
hindered_is_4 = record {
  met = tt;
  fresh = tt;
  told = told (state_after opening (front hindered_3)) (by 2 (Refused (call.Get 5) (refusal.Conflict 1) []) ([])) tt refl refl;
  in_turn = tt;
  steps = (refl, refl, refl);
  scans = tt;
  structure = λ _. refl;
  logs = tt;
  hindered = tt;
  goes_on = λ q. absurd (true≢false q);
  released = λ q. absurd (true≢false (sym q));
  refused = ([], [], refl, record { may_not = refl; other = λ q. (let z = q in absurd (omega arith)); holds = inl refl });
}

abbrev hindered_5 : List Done
hindered_5 = by 2 (Aborted (call.Get 5) 1 1 []) (Event.End 2 false 0 ∷ []) ∷ hindered_4

hindered_is_5 : Told 1 hindered_4 (by 2 (Aborted (call.Get 5) 1 1 []) (Event.End 2 false 0 ∷ []))
hindered_is_5 = record {
  met = (refl, tt);
  fresh = (refl, tt);
  told = told (state_after opening (front hindered_4)) (by 2 (Aborted (call.Get 5) 1 1 []) (Event.End 2 false 0 ∷ [])) (tt, inl (λ w. refl)) refl refl;
  in_turn = tt;
  steps = (refl, (refl, tt));
  scans = tt;
  structure = λ _. refl;
  logs = tt;
  hindered = (refl, refl);
  goes_on = λ q. (refl, refl);
  released = λ _. free_all (front hindered_5) 2 refl;
  refused = tt;
}

abbrev hindered_6 : List Done
hindered_6 = by 2 (Refused (call.Put 5 9) refusal.NoTransaction []) ([]) ∷ hindered_5

hindered_is_6 : Told 1 hindered_5 (by 2 (Refused (call.Put 5 9) refusal.NoTransaction []) ([]))
hindered_is_6 = record {
  met = tt;
  fresh = tt;
  told = told (state_after opening (front hindered_5)) (by 2 (Refused (call.Put 5 9) refusal.NoTransaction []) ([])) tt refl refl;
  in_turn = tt;
  steps = (refl, refl, refl);
  scans = tt;
  structure = λ _. refl;
  logs = tt;
  hindered = tt;
  goes_on = λ q. absurd (true≢false q);
  released = λ q. absurd (true≢false (sym q));
  refused = ([], [], refl, inl refl);
}

pub hindered_tells : EachTells limits opening 1 hindered_6
hindered_tells = ((((((tt, hindered_is_1), hindered_is_2), hindered_is_3), hindered_is_4), hindered_is_5), hindered_is_6)

-- ### scanned

abbrev scanned_0 : List Done
scanned_0 = []

abbrev scanned_1 : List Done
scanned_1 = by 1 (Begun 1) (Event.Begin 1 0 ∷ []) ∷ scanned_0

scanned_is_1 : Told 1 scanned_0 (by 1 (Begun 1) (Event.Begin 1 0 ∷ []))
scanned_is_1 = record {
  met = (refl, tt);
  fresh = (refl, tt);
  told = told (state_after opening (front scanned_0)) (by 1 (Begun 1) (Event.Begin 1 0 ∷ [])) (tt, inl (λ w. refl)) refl refl;
  in_turn = tt;
  steps = (refl, 0, refl);
  scans = tt;
  structure = λ _. refl;
  logs = ([], 0, false, refl, refl);
  hindered = tt;
  goes_on = tt;
  released = λ q. absurd (true≢false (sym q));
  refused = tt;
}

abbrev scanned_2 : List Done
scanned_2 = by 1 (Changed 1 10 None) (Event.Lock 1 1 Mode.Alone ∷ Event.Change 1 0 1 10 ∷ []) ∷ scanned_1

scanned_is_2 : Told 1 scanned_1 (by 1 (Changed 1 10 None) (Event.Lock 1 1 Mode.Alone ∷ Event.Change 1 0 1 10 ∷ []))
scanned_is_2 = record {
  met = (refl, (refl, tt));
  fresh = (tt, (tt, tt));
  told = told (state_after opening (front scanned_1)) (by 1 (Changed 1 10 None) (Event.Lock 1 1 Mode.Alone ∷ Event.Change 1 0 1 10 ∷ [])) ((tt, inl (λ w. refl)), inl (λ w. refl)) refl refl;
  in_turn = refl;
  steps = (refl, 0, refl);
  scans = tt;
  structure = λ _. refl;
  logs = tt;
  hindered = tt;
  goes_on = λ q. absurd (true≢false q);
  released = λ q. absurd (true≢false (sym q));
  refused = tt;
}

abbrev scanned_3 : List Done
scanned_3 = by 1 (Changed 2 20 None) (Event.Lock 1 2 Mode.Alone ∷ Event.Change 1 0 2 20 ∷ []) ∷ scanned_2

scanned_is_3 : Told 1 scanned_2 (by 1 (Changed 2 20 None) (Event.Lock 1 2 Mode.Alone ∷ Event.Change 1 0 2 20 ∷ []))
scanned_is_3 = record {
  met = (refl, (refl, tt));
  fresh = (tt, (tt, tt));
  told = told (state_after opening (front scanned_2)) (by 1 (Changed 2 20 None) (Event.Lock 1 2 Mode.Alone ∷ Event.Change 1 0 2 20 ∷ [])) ((tt, inl (λ w. refl)), inl (λ w. refl)) refl refl;
  in_turn = refl;
  steps = (refl, 0, refl);
  scans = tt;
  structure = λ _. refl;
  logs = tt;
  hindered = tt;
  goes_on = λ q. absurd (true≢false q);
  released = λ q. absurd (true≢false (sym q));
  refused = tt;
}

abbrev scanned_4 : List Done
scanned_4 = by 1 (Changed 3 30 None) (Event.Lock 1 3 Mode.Alone ∷ Event.Change 1 0 3 30 ∷ []) ∷ scanned_3

scanned_is_4 : Told 1 scanned_3 (by 1 (Changed 3 30 None) (Event.Lock 1 3 Mode.Alone ∷ Event.Change 1 0 3 30 ∷ []))
scanned_is_4 = record {
  met = (refl, (refl, tt));
  fresh = (tt, (tt, tt));
  told = told (state_after opening (front scanned_3)) (by 1 (Changed 3 30 None) (Event.Lock 1 3 Mode.Alone ∷ Event.Change 1 0 3 30 ∷ [])) ((tt, inl (λ w. refl)), inl (λ w. refl)) refl refl;
  in_turn = refl;
  steps = (refl, 0, refl);
  scans = tt;
  structure = λ _. refl;
  logs = tt;
  hindered = tt;
  goes_on = λ q. absurd (true≢false q);
  released = λ q. absurd (true≢false (sym q));
  refused = tt;
}

abbrev scanned_5 : List Done
scanned_5 = by 1 (Deleted 2 20) (Event.Lock 1 2 Mode.Alone ∷ Event.Change 1 0 2 (2 ^ 63) ∷ []) ∷ scanned_4

scanned_is_5 : Told 1 scanned_4 (by 1 (Deleted 2 20) (Event.Lock 1 2 Mode.Alone ∷ Event.Change 1 0 2 (2 ^ 63) ∷ []))
scanned_is_5 = record {
  met = (refl, (refl, tt));
  fresh = (tt, (tt, tt));
  told = told (state_after opening (front scanned_4)) (by 1 (Deleted 2 20) (Event.Lock 1 2 Mode.Alone ∷ Event.Change 1 0 2 (2 ^ 63) ∷ [])) ((tt, inl (λ w. refl)), inl (λ w. refl)) refl refl;
  in_turn = refl;
  steps = (refl, 0, refl);
  scans = tt;
  structure = λ _. refl;
  logs = tt;
  hindered = tt;
  goes_on = λ q. absurd (true≢false q);
  released = λ q. absurd (true≢false (sym q));
  refused = tt;
}

abbrev scanned_6 : List Done
scanned_6 = by 1 (Absent 2) (Event.Lock 1 2 Mode.Alone ∷ Event.Read 1 0 2 None ∷ []) ∷ scanned_5

scanned_is_6 : Told 1 scanned_5 (by 1 (Absent 2) (Event.Lock 1 2 Mode.Alone ∷ Event.Read 1 0 2 None ∷ []))
scanned_is_6 = record {
  met = (refl, (refl, tt));
  fresh = (tt, (tt, tt));
  told = told (state_after opening (front scanned_5)) (by 1 (Absent 2) (Event.Lock 1 2 Mode.Alone ∷ Event.Read 1 0 2 None ∷ [])) ((tt, inl (λ w. refl)), inl (λ w. refl)) refl refl;
  in_turn = refl;
  steps = (refl, 0, refl);
  scans = tt;
  structure = λ _. refl;
  logs = tt;
  hindered = tt;
  goes_on = λ q. absurd (true≢false q);
  released = λ q. absurd (true≢false (sym q));
  refused = tt;
}

abbrev scanned_7 : List Done
scanned_7 = by 1 (Met 1 9 1 10 true) (Event.Lock 1 1 Mode.Shared ∷ Event.Next 1 0 1 (MapAnswer.Pair 1 10) ∷ []) ∷ scanned_6

scanned_is_7 : Told 1 scanned_6 (by 1 (Met 1 9 1 10 true) (Event.Lock 1 1 Mode.Shared ∷ Event.Next 1 0 1 (MapAnswer.Pair 1 10) ∷ []))
scanned_is_7 = record {
  met = (refl, (refl, tt));
  fresh = (tt, (tt, tt));
  told = told (state_after opening (front scanned_6)) (by 1 (Met 1 9 1 10 true) (Event.Lock 1 1 Mode.Shared ∷ Event.Next 1 0 1 (MapAnswer.Pair 1 10) ∷ [])) ((tt, inl (λ w. refl)), inl (λ w. refl)) refl refl;
  in_turn = refl;
  steps = (refl, omega arith, omega arith, (refl, (refl, refl, refl)));
  scans = (refl, refl);
  structure = λ _. refl;
  logs = tt;
  hindered = tt;
  goes_on = λ q. absurd (true≢false q);
  released = λ q. absurd (true≢false (sym q));
  refused = tt;
}

abbrev scanned_8 : List Done
scanned_8 = by 1 (Met 1 9 3 30 true) (Event.Lock 1 2 Mode.Shared ∷ Event.Lock 1 3 Mode.Shared ∷ Event.Next 1 0 2 (MapAnswer.Pair 3 30) ∷ []) ∷ scanned_7

scanned_is_8 : Told 1 scanned_7 (by 1 (Met 1 9 3 30 true) (Event.Lock 1 2 Mode.Shared ∷ Event.Lock 1 3 Mode.Shared ∷ Event.Next 1 0 2 (MapAnswer.Pair 3 30) ∷ []))
scanned_is_8 = record {
  met = (refl, (refl, (refl, tt)));
  fresh = (tt, (tt, (tt, tt)));
  told = told (state_after opening (front scanned_7)) (by 1 (Met 1 9 3 30 true) (Event.Lock 1 2 Mode.Shared ∷ Event.Lock 1 3 Mode.Shared ∷ Event.Next 1 0 2 (MapAnswer.Pair 3 30) ∷ [])) (((tt, inl (λ w. refl)), inl (λ w. refl)), inl (λ w. refl)) refl refl;
  in_turn = refl;
  steps = (refl, omega arith, omega arith, (refl, (refl, (refl, refl, refl))));
  scans = (refl, refl);
  structure = λ _. refl;
  logs = tt;
  hindered = tt;
  goes_on = λ q. (refl, refl);
  released = λ q. absurd (true≢false (sym q));
  refused = tt;
}

abbrev scanned_9 : List Done
scanned_9 = by 1 (Over 1 9) (Event.Next 1 0 4 (MapAnswer.Gap (2 ^ 64 - 1)) ∷ []) ∷ scanned_8

scanned_is_9 : Told 1 scanned_8 (by 1 (Over 1 9) (Event.Next 1 0 4 (MapAnswer.Gap (2 ^ 64 - 1)) ∷ []))
scanned_is_9 = record {
  met = (refl, tt);
  fresh = (tt, tt);
  told = told (state_after opening (front scanned_8)) (by 1 (Over 1 9) (Event.Next 1 0 4 (MapAnswer.Gap (2 ^ 64 - 1)) ∷ [])) (tt, inl (λ w. refl)) refl refl;
  in_turn = tt;
  steps = (tt, λ q. omega arith, (refl, refl, omega arith));
  scans = (refl, refl);
  structure = λ _. refl;
  logs = tt;
  hindered = tt;
  goes_on = λ q. (refl, refl);
  released = λ q. absurd (true≢false (sym q));
  refused = tt;
}

abbrev scanned_10 : List Done
scanned_10 = by 1 (Committed 1 5) (Event.End 1 true 0 ∷ Event.Unlock 1 1 ∷ Event.Unlock 1 2 ∷ Event.Unlock 1 3 ∷ Event.Flush 1 5 ∷ []) ∷ scanned_9

scanned_is_10 : Told 1 scanned_9 (by 1 (Committed 1 5) (Event.End 1 true 0 ∷ Event.Unlock 1 1 ∷ Event.Unlock 1 2 ∷ Event.Unlock 1 3 ∷ Event.Flush 1 5 ∷ []))
scanned_is_10 = record {
  met = (refl, (refl, (refl, (refl, (refl, tt)))));
  fresh = (refl, (tt, (tt, (tt, (tt, tt)))));
  told = told (state_after opening (front scanned_9)) (by 1 (Committed 1 5) (Event.End 1 true 0 ∷ Event.Unlock 1 1 ∷ Event.Unlock 1 2 ∷ Event.Unlock 1 3 ∷ Event.Flush 1 5 ∷ [])) (((((tt, inl (λ w. refl)), inl (λ w. refl)), inl (λ w. refl)), inl (λ w. refl)), inl (λ w. refl)) refl refl;
  in_turn = refl;
  steps = (refl, 0, Event.Unlock 1 1 ∷ Event.Unlock 1 2 ∷ Event.Unlock 1 3 ∷ [], refl, (refl, (refl, (refl, tt))));
  scans = tt;
  structure = λ _. refl;
  logs = record { before = Event.End 1 true 0 ∷ Event.Unlock 1 1 ∷ Event.Unlock 1 2 ∷ Event.Unlock 1 3 ∷ []; is = refl; else_none = refl };
  hindered = tt;
  goes_on = λ q. absurd (true≢false q);
  released = λ _. free_all (front scanned_10) 1 refl;
  refused = tt;
}

pub scanned_tells : EachTells limits opening 1 scanned_10
scanned_tells = ((((((((((tt, scanned_is_1), scanned_is_2), scanned_is_3), scanned_is_4), scanned_is_5), scanned_is_6), scanned_is_7), scanned_is_8), scanned_is_9), scanned_is_10)

pub rows : Rows
rows = record {
  opening = opening;
  limits = limits;
  workers = refl;
  base = refl;
  empty = nothing;
  grouped_is = grouped_tells;
  none_yet = refl;
  all_then = refl;
  needy_is = needy_tells;
  not_yet = refl;
  one_then = refl;
  told = refl;
  hindered_is = hindered_tells;
  scanned_is = scanned_tells;
  hindered_paired = refl;
  scanned_paired = refl;
  at_once = refl;
}
