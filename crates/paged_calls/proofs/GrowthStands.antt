-- A machine stands while the session whose turn it is changes the tree, and its log has the record; and that is a part of a call.
use Rattle.std.proofs.Common.{◌≡◌, ◌∙◌, ◌⊎◌, ◌≤◌, ◌<◌, ◌+◌, ◌==◌, ◌||◌, ◌&&◌, ◌++◌, inl, inr, ℕ, suc, Bool, true, false, List, [], ◌∷◌, length, None, ap, refl, sym, subst, arith, append_assoc}
use Rattle.std.proofs.lemmas.Bool.{and_from, and_parts, cond-false, eq-eqb}
use Rattle.std.proofs.lemmas.List.{length-append}
use Rattle.map_model.specs.Lists.{all, any}
use Rattle.row_room.specs.btree_smo.Outcomes.{AreMisses}
use Rattle.paged_desks.specs.core_calls.Fronts.{Done}
use Rattle.paged_desks.proofs.core_calls.WhereLemmas.{syncs_none}
use Rattle.paged_desks.specs.core_calls.LogEvents.{IsTight, SyncsWhere, is_log}
use Rattle.paged_desks.specs.core_calls.Steps.{is_structure}
use Rattle.paged_desks.specs.core_state.Events as happening
use Rattle.paged_desks.specs.core_state.Needs.{are_hot, may, needs}
use Rattle.paged_desks.specs.core_state.Openings.{Opening}
use Rattle.paged_desks.specs.core_state.States.{Place, State, is_hot, nodes_of, gsns_of}
use Rattle.paged_desks.specs.core_state.Lists.{count_below}
use Rattle.paged_desks.specs.core_state.Steps as core
use Rattle.paged_desks.specs.core_state.Steps.{AllMet, at_pages, happens, page_entry}
use Rattle.paged_desks.specs.disk_image.Records.{entry_of}
use Rattle.paged_desks.specs.disk_runs.Quiet.{is_quiet}
use Rattle.paged_desks.proofs.engine_calls.MarkLemmas.{any_append, met_join}
use Rattle.paged_desks.specs.engine_calls.Parts.{behind_first}
use Rattle.paged_desks.specs.engine_trait.Refusals.{room_refusal}
use Rattle.paged_desks.specs.session_state.tidy_rules.Rooms.{IsNextRoom, MakesRoom}
use Rattle.paged_desks.specs.image_model.Entries.{Entry, Kind, touches, written}
use Rattle.lean_disk.specs.Story.{IsLawful, Story}
use Rattle.page_model.specs.Needs.{drop_record, join_record, lift_record, purge_record, split_record}
use Rattle.paged_desks.specs.page_pool.Counts.{hot_pages}
use Rattle.paged_desks.specs.page_pool.Pools.{EveryStanding}
use Rattle.row_room.specs.Rooms.{IsKept, IsRoomBy, IsRoomed, TakesPage}
use Rattle.row_room.specs.row_tidying.Outcomes.{IsSpentWithin}
use Rattle.paged_desks.specs.row_words.declared.event.Event.{Event}
use Rattle.paged_desks.specs.row_words.declared.event.Event.TheVariants as told
use Rattle.paged_desks.specs.row_words.Moments.{Moment, event_of, events_of}
use Rattle.paged_desks.specs.row_words.Openings.{opening}
use Rattle.paged_desks.specs.rows_trait.declared.view.View.{View}
use Rattle.paged_desks.specs.rows_trait.Views.{state}
use Rattle.paged_desks.proofs.session_desks.DeskLemmas.{desk_own}
use Rattle.paged_desks.proofs.session_desks.SeatLemmas.{holds_of, turn_high, turn_low}
use Rattle.paged_desks.specs.session_desks.Parts.{SeatFits, here, shape}
use Rattle.paged_desks.specs.session_desks.declared.desk.Desk.{Desk}
use Rattle.paged_desks.proofs.session_state.Moments.{events_more, seen_state}
use Rattle.paged_desks.specs.session_state.Holds.{Holds, IsSameSession}
use Rattle.paged_desks.specs.session_state.Others.{EveryOther, Steps, is_of}
use Rattle.paged_desks.specs.session_state.Ties.{Behind}
use Rattle.paged_desks.specs.session_state.Staging.{KeepsLog}
use Rattle.paged_desks.specs.session_state.declared.work.Work.{Work}
use Rattle.paged_desks.specs.log_calls.Calls.{StagesOn}
use Rattle.paged_desks.specs.log_record.declared.record.Record.{Record}
use Rattle.paged_desks.specs.worker_log.Calls.{After}
use Rattle.paged_desks.specs.worker_log.Logs.{Log}
use Rattle.paged_desks.proofs.call_parts.MemoryLemmas.{every_memory}
use Rattle.paged_desks.proofs.call_parts.OwnLemmas.{every_own}
use Rattle.paged_desks.proofs.call_parts.RunLemmas.{core_is, run_core}
use Rattle.paged_desks.specs.call_parts.Memory.{with_own}
use Rattle.paged_desks.specs.call_parts.Parts.{Part}
use Rattle.paged_desks.specs.call_parts.Rooms.{grows}
use Rattle.paged_desks.specs.call_parts.Steps.{Sees, Stages, is_entered}
use Rattle.paged_desks.specs.Calls.{IsAside, IsBeside}
use Rattle.paged_desks.specs.Machines.{IsReady, memory, view_of}
use Rattle.paged_desks.specs.Pages.{hot_in}
use Rattle.paged_desks.specs.declared.machine.PagedMachine.{PagedMachine}
use Rattle.paged_desks.proofs.AsideLemmas.{halves_aside, memory_aside}
use Rattle.paged_desks.proofs.EndingLemmas.{Grounds, grows_none}
use Rattle.paged_desks.proofs.StandLemmas.{halves_are, ready_on}
use Rattle.paged_calls.specs.Growths.{HasMade, HasMadeWhere, HasWay, IsRoom, is_making}
use Rattle.paged_calls.specs.Tidyings.{is_tidying}
use Rattle.row_walks.specs.Steps.{IsShrinkBy}
use Rattle.paged_calls.proofs.ChangeSteps.{beside_of}
use Rattle.paged_calls.proofs.MadeLemmas.{all_append, makes_join, makes_none}
use Rattle.paged_calls.proofs.PieceLemmas.{as_beside, joins_at, steps_at}
use Rattle.paged_calls.proofs.RecordStands.{Enters, clock_met, other_page, ready_entered}
use Rattle.paged_calls.proofs.WayLemmas.{next_as, refusal_as, way_of}

-- ## Which record it enters

pages_hot : (g : Opening) (s : State) (e : happening.Event) (ps : List ℕ) → (are_hot s ps && needs g s e) ≡ true → all (λ p. is_hot (s.place p)) ps ≡ true
pages_hot g s e ps met = (and_parts (are_hot s ps) (needs g s e) met).0

one_more : (a b : ℕ) → a ≤ b → a ≤ suc b
one_more a b le = omega arith

-- what entering it does to the state
pub record IsOf (own : ℕ) (g : Opening) (s : State) (e : Event) : Type 0 where
  pub entry : Entry
  pub enters : Enters own g s e entry

split_of : (own l r q i : ℕ) (g : Opening) (s : State) → may g s (happening.Event.Split own l r q i) ≡ true → IsOf own g s (told.Split own l r q i)
split_of own l r q i g s met = record {
  entry = x;
  enters = record {
    of_own = eq-eqb own own refl;
    entries = refl;
    kind = refl;
    log = refl;
    number = one_more (s.worker own).clock (at_pages s own (s.worker own) (l ∷ r ∷ q ∷ [])).clock (clock_met s own (s.worker own) (l ∷ r ∷ q ∷ []));
    queue = refl;
    epoch = refl;
    place = refl;
    saved = refl;
    flushed = refl;
    inside = refl;
    page = λ p cold. cond-false (touches p x) (written x p (s.page p)) (s.page p) (untouched p cold);
  };
}
  where
    x : Entry
    x = page_entry Kind.Split s own (at_pages s own (s.worker own) (l ∷ r ∷ q ∷ [])) (l ∷ r ∷ q ∷ []) (split_record (nodes_of s) (gsns_of s) l r q i)

    hot : (is_hot (s.place l) && (is_hot (s.place r) && (is_hot (s.place q) && true))) ≡ true
    hot = pages_hot g s (happening.Event.Split own l r q i) (l ∷ r ∷ q ∷ []) met

    untouched : (p : ℕ) → is_hot (s.place p) ≡ false → ((l == p) || ((r == p) || ((q == p) || false))) ≡ false
    untouched p cold =
        let a = and_parts (is_hot (s.place l)) (is_hot (s.place r) && (is_hot (s.place q) && true)) hot in
        let b = and_parts (is_hot (s.place r)) (is_hot (s.place q) && true) a.1 in
        let c = and_parts (is_hot (s.place q)) true b.1 in
        (λ j. other_page s l p a.0 cold j || ((r == p) || ((q == p) || false))) ∙ ((λ j. other_page s r p b.0 cold j || ((q == p) || false)) ∙ (λ j. other_page s q p c.0 cold j || false))

lift_of : (own c : ℕ) (g : Opening) (s : State) → may g s (happening.Event.Lift own c) ≡ true → IsOf own g s (told.Lift own c)
lift_of own c g s met = record {
  entry = x;
  enters = record {
    of_own = eq-eqb own own refl;
    entries = refl;
    kind = refl;
    log = refl;
    number = one_more (s.worker own).clock (at_pages s own (s.worker own) (0 ∷ c ∷ [])).clock (clock_met s own (s.worker own) (0 ∷ c ∷ []));
    queue = refl;
    epoch = refl;
    place = refl;
    saved = refl;
    flushed = refl;
    inside = refl;
    page = λ p cold. cond-false (touches p x) (written x p (s.page p)) (s.page p) (untouched p cold);
  };
}
  where
    x : Entry
    x = page_entry Kind.Lift s own (at_pages s own (s.worker own) (0 ∷ c ∷ [])) (0 ∷ c ∷ []) (lift_record (nodes_of s) (gsns_of s) c)

    hot : (is_hot (s.place 0) && (is_hot (s.place c) && true)) ≡ true
    hot = pages_hot g s (happening.Event.Lift own c) (0 ∷ c ∷ []) met

    untouched : (p : ℕ) → is_hot (s.place p) ≡ false → ((0 == p) || ((c == p) || false)) ≡ false
    untouched p cold =
        let a = and_parts (is_hot (s.place 0)) (is_hot (s.place c) && true) hot in
        let b = and_parts (is_hot (s.place c)) true a.1 in
        (λ j. other_page s 0 p a.0 cold j || ((c == p) || false)) ∙ (λ j. other_page s c p b.0 cold j || false)

purge_of : (own q : ℕ) (keys : List ℕ) (g : Opening) (s : State) → may g s (happening.Event.Purge own q keys) ≡ true → IsOf own g s (told.Purge own q keys)
purge_of own q keys g s met = record {
  entry = x;
  enters = record {
    of_own = eq-eqb own own refl;
    entries = refl;
    kind = refl;
    log = refl;
    number = one_more (s.worker own).clock (at_pages s own (s.worker own) (q ∷ [])).clock (clock_met s own (s.worker own) (q ∷ []));
    queue = refl;
    epoch = refl;
    place = refl;
    saved = refl;
    flushed = refl;
    inside = refl;
    page = λ p cold. cond-false (touches p x) (written x p (s.page p)) (s.page p) (λ j. other_page s q p hot cold j || false);
  };
}
  where
    x : Entry
    x = page_entry Kind.Purge s own (at_pages s own (s.worker own) (q ∷ [])) (q ∷ []) (purge_record (gsns_of s) q keys)

    hot : is_hot (s.place q) ≡ true
    hot = (and_parts (is_hot (s.place q)) true (pages_hot g s (happening.Event.Purge own q keys) (q ∷ []) met)).0

join_is : (own l r q : ℕ) (g : Opening) (s : State) → may g s (happening.Event.Join own l r q) ≡ true → IsOf own g s (told.Join own l r q)
join_is own l r q g s met = record {
  entry = x;
  enters = record {
    of_own = eq-eqb own own refl;
    entries = refl;
    kind = refl;
    log = refl;
    number = one_more (s.worker own).clock (at_pages s own (s.worker own) (l ∷ r ∷ q ∷ [])).clock (clock_met s own (s.worker own) (l ∷ r ∷ q ∷ []));
    queue = refl;
    epoch = refl;
    place = refl;
    saved = refl;
    flushed = refl;
    inside = refl;
    page = λ p cold. cond-false (touches p x) (written x p (s.page p)) (s.page p) (untouched p cold);
  };
}
  where
    x : Entry
    x = page_entry Kind.Join s own (at_pages s own (s.worker own) (l ∷ r ∷ q ∷ [])) (l ∷ r ∷ q ∷ []) (join_record (nodes_of s) (gsns_of s) l r q)

    hot : (is_hot (s.place l) && (is_hot (s.place r) && (is_hot (s.place q) && true))) ≡ true
    hot = pages_hot g s (happening.Event.Join own l r q) (l ∷ r ∷ q ∷ []) met

    untouched : (p : ℕ) → is_hot (s.place p) ≡ false → ((l == p) || ((r == p) || ((q == p) || false))) ≡ false
    untouched p cold =
        let a = and_parts (is_hot (s.place l)) (is_hot (s.place r) && (is_hot (s.place q) && true)) hot in
        let b = and_parts (is_hot (s.place r)) (is_hot (s.place q) && true) a.1 in
        let c = and_parts (is_hot (s.place q)) true b.1 in
        (λ j. other_page s l p a.0 cold j || ((r == p) || ((q == p) || false))) ∙ ((λ j. other_page s r p b.0 cold j || ((q == p) || false)) ∙ (λ j. other_page s q p c.0 cold j || false))

drop_is : (own c : ℕ) (g : Opening) (s : State) → may g s (happening.Event.Drop own c) ≡ true → IsOf own g s (told.Drop own c)
drop_is own c g s met = record {
  entry = x;
  enters = record {
    of_own = eq-eqb own own refl;
    entries = refl;
    kind = refl;
    log = refl;
    number = one_more (s.worker own).clock (at_pages s own (s.worker own) (0 ∷ c ∷ [])).clock (clock_met s own (s.worker own) (0 ∷ c ∷ []));
    queue = refl;
    epoch = refl;
    place = refl;
    saved = refl;
    flushed = refl;
    inside = refl;
    page = λ p cold. cond-false (touches p x) (written x p (s.page p)) (s.page p) (untouched p cold);
  };
}
  where
    x : Entry
    x = page_entry Kind.Drop s own (at_pages s own (s.worker own) (0 ∷ c ∷ [])) (0 ∷ c ∷ []) (drop_record (nodes_of s) (gsns_of s) c)

    hot : (is_hot (s.place 0) && (is_hot (s.place c) && true)) ≡ true
    hot = pages_hot g s (happening.Event.Drop own c) (0 ∷ c ∷ []) met

    untouched : (p : ℕ) → is_hot (s.place p) ≡ false → ((0 == p) || ((c == p) || false)) ≡ false
    untouched p cold =
        let a = and_parts (is_hot (s.place 0)) (is_hot (s.place c) && true) hot in
        let b = and_parts (is_hot (s.place c)) true a.1 in
        (λ j. other_page s 0 p a.0 cold j || ((c == p) || false)) ∙ (λ j. other_page s c p b.0 cold j || false)

growth_of : (own : ℕ) (g : Opening) (s : State) (e : Event) → IsRoomBy own e → may g s (event_of e) ≡ true → IsOf own g s e
growth_of own g s (told.Purge w p keys) k met = subst (λ n. IsOf n g s (told.Purge w p keys)) k (purge_of w p keys g s met)
growth_of own g s (told.Split w l r q i) k met = subst (λ n. IsOf n g s (told.Split w l r q i)) k (split_of w l r q i g s met)
growth_of own g s (told.Lift w c) k met = subst (λ n. IsOf n g s (told.Lift w c)) k (lift_of w c g s met)
growth_of own g s _ k met = absurd k

pub shrink_of : (own : ℕ) (g : Opening) (s : State) (e : Event) → IsShrinkBy own e → may g s (event_of e) ≡ true → IsOf own g s e
shrink_of own g s (told.Purge w p keys) k met = subst (λ n. IsOf n g s (told.Purge w p keys)) k (purge_of w p keys g s met)
shrink_of own g s (told.Join w l r q) k met = subst (λ n. IsOf n g s (told.Join w l r q)) k (join_is w l r q g s met)
shrink_of own g s (told.Drop w c) k met = subst (λ n. IsOf n g s (told.Drop w c)) k (drop_is w c g s met)
shrink_of own g s _ k met = absurd k

-- ## What kind of event it is

making_growth : (own : ℕ) (e : Event) → IsRoomBy own e → is_making own e ≡ true
making_growth own (told.Purge w p keys) k = eq-eqb w own k
making_growth own (told.Split w l r q i) k = eq-eqb w own k
making_growth own (told.Lift w c) k = eq-eqb w own k
making_growth own _ k = absurd k

entered_growth : (own : ℕ) (e : Event) → IsRoomBy own e → is_entered own (event_of e) ≡ true
entered_growth own (told.Purge w p keys) k = eq-eqb w own k
entered_growth own (told.Split w l r q i) k = eq-eqb w own k
entered_growth own (told.Lift w c) k = eq-eqb w own k
entered_growth own _ k = absurd k

no_log : (own : ℕ) (e : Event) → IsRoomBy own e → is_log (event_of e) ≡ false
no_log own (told.Purge w p keys) k = refl
no_log own (told.Split w l r q i) k = refl
no_log own (told.Lift w c) k = refl
no_log own _ k = absurd k

pub tidying_shrink : (own : ℕ) (e : Event) → IsShrinkBy own e → is_tidying own e ≡ true
tidying_shrink own (told.Purge w p keys) k = eq-eqb w own k
tidying_shrink own (told.Join w l r q) k = eq-eqb w own k
tidying_shrink own (told.Drop w c) k = eq-eqb w own k
tidying_shrink own _ k = absurd k

pub entered_shrink : (own : ℕ) (e : Event) → IsShrinkBy own e → is_entered own (event_of e) ≡ true
entered_shrink own (told.Purge w p keys) k = eq-eqb w own k
entered_shrink own (told.Join w l r q) k = eq-eqb w own k
entered_shrink own (told.Drop w c) k = eq-eqb w own k
entered_shrink own _ k = absurd k

pub no_log_shrink : (own : ℕ) (e : Event) → IsShrinkBy own e → is_log (event_of e) ≡ false
no_log_shrink own (told.Purge w p keys) k = refl
no_log_shrink own (told.Join w l r q) k = refl
no_log_shrink own (told.Drop w c) k = refl
no_log_shrink own _ k = absurd k

-- where a page was given to the tree there was a way
growth_way : (own : ℕ) (e : Event) → IsRoomBy own e → (g : Opening) (s : State) (key : ℕ) → IsNextRoom own g s key (event_of e) → (before now : List ℕ) → TakesPage e before now (room_refusal g s key ≡ None) → (grows (event_of e) ≡ false) ⊎ HasWay g s key
growth_way own (told.Purge w p keys) k g s key n before now t = inl refl
growth_way own (told.Split w l r q i) k g s key n before now t = inr (way_of g s key n.1.1 t.1)
growth_way own (told.Lift w c) k g s key n before now t = inr (way_of g s key n.1.1 t.1)
growth_way own _ k g s key n before now t = absurd k

-- of what comes of the free pages this alone hangs on the state
takes_as : (e : Event) (before now : List ℕ) (P Q : Type 0) → (P → Q) → TakesPage e before now P → TakesPage e before now Q
takes_as (told.Purge w p keys) before now P Q f t = t
takes_as _ before now P Q f t = (t.0, f t.1)

same_head : (a b : Entry) (ps : List Entry) → a ∷ ps ≡ b ∷ ps → a ≡ b
same_head a b ps q = cc

-- ## Misses

pub miss_making : (own : ℕ) (es : List Event) → AreMisses es → all (is_making own) es ≡ true
miss_making _ [] k = refl
miss_making own (told.Miss w ∷ es) k = miss_making own es k
miss_making _ (_ ∷ es) k = absurd k

pub miss_tidying : (own : ℕ) (es : List Event) → AreMisses es → all (is_tidying own) es ≡ true
miss_tidying _ [] k = refl
miss_tidying own (told.Miss w ∷ es) k = miss_tidying own es k
miss_tidying _ (_ ∷ es) k = absurd k

miss_quiet : (es : List Event) → AreMisses es → all is_quiet (events_of es) ≡ true
miss_quiet [] k = refl
miss_quiet (told.Miss w ∷ es) k = miss_quiet es k
miss_quiet (_ ∷ es) k = absurd k

pub miss_structure : (es : List Event) → AreMisses es → any is_structure (events_of es) ≡ false
miss_structure [] k = refl
miss_structure (told.Miss w ∷ es) k = miss_structure es k
miss_structure (_ ∷ es) k = absurd k

pub miss_log : (es : List Event) → AreMisses es → any is_log (events_of es) ≡ false
miss_log [] k = refl
miss_log (told.Miss w ∷ es) k = miss_log es k
miss_log (_ ∷ es) k = absurd k

miss_met : (g : Opening) (s : State) (es : List Event) → AreMisses es → AllMet g s (events_of es)
miss_met g s [] k = tt
miss_met g s (told.Miss w ∷ es) k = (refl, miss_met g s es k)
miss_met g s (_ ∷ es) k = absurd k

pub miss_run : (g : Opening) (s : State) (es : List Event) → AreMisses es → core.run g s (events_of es) ≡ s
miss_run g s [] k = refl
miss_run g s (told.Miss w ∷ es) k = miss_run g s es k
miss_run g s (_ ∷ es) k = absurd k

miss_own : (own : ℕ) (es : List Event) → AreMisses es → all (is_of own) es ≡ true
miss_own _ [] k = refl
miss_own own (told.Miss w ∷ es) k = miss_own own es k
miss_own _ (_ ∷ es) k = absurd k

-- nothing was seen but those, at most so many
pub record IsMissed (most : ℕ) (v w : View) : Type 0 where
  pub misses : List Event
  pub are_misses : AreMisses misses
  pub few : length misses ≤ most
  pub given : w.given ≡ v.given
  pub seen : w.seen ≡ v.seen ++ misses

pub missed_kept : (key : ℕ) (v w : View) → IsKept key v w → IsMissed 61 v w
missed_kept key v w k = record { misses = k.misses; are_misses = k.are_misses; few = k.few; given = k.given; seen = k.seen }

pub missed_spent : (most : ℕ) (v w : View) → IsSpentWithin most v w → IsMissed most v w
missed_spent most v w k = record { misses = k.misses; are_misses = k.are_misses; few = k.few; given = k.given; seen = k.seen }

-- so it stands at the same state
pub missed_state : (v w : View) (es : List Event) → AreMisses es → w.given ≡ v.given → w.seen ≡ v.seen ++ es → (state w).core ≡ (state v).core
missed_state v w es k given seen = ap (λ (x : Moment). x.core) (seen_state v w es given seen) ∙ (run_core v.given (state v) es ∙ miss_run (opening v.given) (state v).core es k)

pub missed_core : (most : ℕ) (v w : View) → IsMissed most v w → (state w).core ≡ (state v).core
missed_core most v w q = missed_state v w q.misses q.are_misses q.given q.seen

sees_misses : (v w : View) (es : List Event) → AreMisses es → w.given ≡ v.given → w.seen ≡ v.seen ++ es → Sees es v w
sees_misses v w es k given seen = record { given = given; seen = seen; met = miss_met (opening v.given) (state v).core es k }

-- ## One change, with misses before it and behind it

module _ (own : ℕ) (g : Opening) (s : State) (first later : List Event) (are_first : AreMisses first) (are_later : AreMisses later) (e : Event) where
  abbrev all_of : List Event
  all_of = first ++ e ∷ later

  pub all_is : events_of all_of ≡ events_of first ++ event_of e ∷ events_of later
  all_is = events_more first (e ∷ later)

  pub with_misses : (f : happening.Event → Bool) → any f (events_of first) ≡ false → any f (events_of later) ≡ false → f (event_of e) ≡ false → any f (events_of all_of) ≡ false
  with_misses f a b c = ap (λ es. any f es) all_is ∙ any_append f (events_of first) (event_of e ∷ events_of later) a ((λ i. c i || any f (events_of later)) ∙ b)

  makes_all : (key : ℕ) → IsNextRoom own g s key (event_of e) → MakesRoom own g s key (events_of all_of)
  makes_all key next = subst (λ es. MakesRoom own g s key es) (sym all_is) (makes_join own g key s (events_of first) (event_of e ∷ events_of later) (makes_none own g key s (events_of first) (miss_structure first are_first))
      (subst (λ (t : State). MakesRoom own g t key (event_of e ∷ events_of later)) (sym (miss_run g s first are_first)) (next, makes_none own g key (core.step g s (event_of e)) (events_of later) (miss_structure later are_later))))

  room_all : (key : ℕ) → IsNextRoom own g s key (event_of e) → (grows (event_of e) ≡ false) ⊎ HasWay g s key → IsRoom own key g s (events_of all_of)
  room_all key next way = record {
    makes = makes_all key next;
    way = elim way [
      | inl none ↦ inl (with_misses grows (grows_none (events_of first) (miss_structure first are_first)) (grows_none (events_of later) (miss_structure later are_later)) none)
      | inr there ↦ inr there
    ];
  }

  met_all : may g s (event_of e) ≡ true → AllMet g s (events_of all_of)
  met_all met = subst (AllMet g s) (sym all_is) (met_join g s (events_of first) (event_of e ∷ events_of later) (miss_met g s first are_first)
      (subst (λ (t : State). AllMet g t (event_of e ∷ events_of later)) (sym (miss_run g s first are_first)) (met, miss_met g (core.step g s (event_of e)) later are_later)))

  own_all : is_of own e ≡ true → all (is_of own) all_of ≡ true
  own_all is = all_append (is_of own) first (e ∷ later) (miss_own own first are_first) (and_from (is_of own e) (all (is_of own) later) is (miss_own own later are_later))

  such_all : (is_such : (own : ℕ) → Event → Bool) → ((es : List Event) → AreMisses es → all (is_such own) es ≡ true) → is_such own e ≡ true → all (is_such own) all_of ≡ true
  such_all is_such misses is = all_append (is_such own) first (e ∷ later) (misses first are_first) (and_from (is_such own e) (all (is_such own) later) is (misses later are_later))

  tight_all : (P : State → Type 0) → is_log (event_of e) ≡ false → SyncsWhere P g s false (events_of all_of)
  tight_all P none = syncs_none P g (events_of all_of) s (with_misses is_log (miss_log first are_first) (miss_log later are_later) none)

-- It was seen next, by session `own`, and its record was staged.
pub record IsOneChange (own : ℕ) (v w : View) (was is : Log) (old new : Story) : Type 0 where
  pub event : Event
  pub first : List Event
  pub later : List Event
  pub are_first : AreMisses first
  pub are_later : AreMisses later
  pub few : length first + length later ≤ 61
  pub given : w.given ≡ v.given
  pub seen : w.seen ≡ v.seen ++ (first ++ event ∷ later)
  pub met : may (opening v.given) (state v).core (event_of event) ≡ true
  pub happened : (state w).core ≡ happens (opening v.given) (state v).core (event_of event)
  pub enters_as : IsOf own (opening v.given) (state v).core event
  pub entered : is_entered own (event_of event) ≡ true
  pub unlogged : is_log (event_of event) ≡ false
  pub entry : Record
  pub entry_is : (happens (opening v.given) (state v).core (event_of event)).entries ≡ entry_of own entry ∷ (state v).core.entries
  pub after : After entry was is
  pub stands : StagesOn own entry was is old new
  pub keeps : KeepsLog own was old new
  pub stays : (state w).core.place ≡ (state v).core.place

-- ## A machine behind it

module _ (l : Grounds) {D : Type 0} (story : D → Story) (m n : PagedMachine D) (a : IsAside m n) (same : IsSameSession m.machine.work.session n.machine.work.session) (ready : IsReady story m)
    (c : IsOneChange m.machine.work.session.own (view_of m) (view_of n) m.machine.work.log n.machine.work.log (story m.machine.work.disk) (story n.machine.work.disk)) where
  abbrev own : ℕ
  own = m.machine.work.session.own

  abbrev many : ℕ
  many = m.machine.work.session.workers

  abbrev v : View
  v = view_of m

  abbrev s : State
  s = (state v).core

  abbrev g : Opening
  g = opening v.given

  abbrev events : List Event
  events = c.first ++ c.event ∷ c.later

  number : c.entry.gsn ≡ c.enters_as.entry.number
  number = ap (λ (x : Entry). x.number) (sym (same_head c.enters_as.entry (entry_of own c.entry) s.entries (sym c.enters_as.enters.entries ∙ c.entry_is)))

  steps : Steps own v (view_of n)
  steps = record { events = events; given = c.given; seen = c.seen; are_own = own_all own g s c.first c.later c.are_first c.are_later c.event c.enters_as.enters.of_own; met = met_all own g s c.first c.later c.are_first c.are_later c.event c.met }

  pub ready_one : EveryOther → EveryStanding → SeatFits n.machine → n.machine.work.session.works ≡ true → Holds (shape n.machine) (view_of n) n.machine.work.session n.machine.work.log → IsReady story n
  ready_one law standing fits works holds = ready_entered story m n a same ready law standing c.event c.enters_as.entry c.given steps c.happened c.enters_as.enters c.entry number c.after c.keeps fits works holds

  -- ## As a part of a call

  low : 0 < own
  low = turn_low (shape m.machine) (view_of m) (here m.machine) m.machine.desks.items ready.sound.desks

  high : own ≤ many
  high = turn_high (shape m.machine) (view_of m) (here m.machine) m.machine.desks.items ready.sound.desks

  log_is : (memory m).log own ≡ m.machine.work.log
  log_is = ap (λ (d : Desk). d.log) (desk_own (here m.machine) m.machine.desks.items own refl)

  workers_in : g.workers ≡ many
  workers_in = (holds_of (shape m.machine) (view_of m) (here m.machine) m.machine.desks.items ready.sound.desks).rows.workers

  -- behind the first misses, and behind the event
  abbrev v1 : View
  v1 = record v { seen = v.seen ++ c.first }

  abbrev v2 : View
  v2 = record v { seen = (v.seen ++ c.first) ++ c.event ∷ [] }

  core_1 : (state v1).core ≡ s
  core_1 = missed_state v v1 c.first c.are_first refl refl

  met_1 : may g (state v1).core (event_of c.event) ≡ true
  met_1 = ap (λ (t : State). may g t (event_of c.event)) core_1 ∙ c.met

  entered_1 : (happens g (state v1).core (event_of c.event)).entries ≡ entry_of own c.entry ∷ (state v1).core.entries
  entered_1 = subst (λ (t : State). (happens g t (event_of c.event)).entries ≡ entry_of own c.entry ∷ t.entries) (sym core_1) c.entry_is

  module _ (lawful : (d : D) → IsLawful (story d)) where
    before : Part many c.first v v1 (memory m) (memory m) (story m.machine.work.disk) (story m.machine.work.disk)
    before = (steps_at l story lawful m.machine.work.disk many v v1 (memory m)).rest c.first (sees_misses v v1 c.first c.are_first refl refl) (miss_quiet c.first c.are_first)

    staged : Part many (c.event ∷ []) v1 v2 (memory m) (memory n) (story m.machine.work.disk) (story n.machine.work.disk)
    staged = (every_memory (story m.machine.work.disk) (story n.machine.work.disk) many v1 v2 (memory m) (with_own own n.machine.work.log (memory m)) (memory m) (memory n) workers_in (record { log = λ w lo hi. refl; master = refl; slots = refl })
        (memory_aside story m n a same ready)).part (c.event ∷ [])
        ((every_own l.reached l.needs (story m.machine.work.disk) (story n.machine.work.disk) many own v1 v2 (memory m) n.machine.work.log low high workers_in).stage c.event
        (subst (λ (q : Log). Stages own c.event v1 v2 q n.machine.work.log (story m.machine.work.disk) (story n.machine.work.disk)) (sym log_is) (record {
          sees = record { given = refl; seen = refl; met = (met_1, tt) };
          entry = c.entry;
          enters = record { of_own = c.entered; entry_is = entered_1 };
          after = c.after;
          stands = c.stands;
          keeps = c.keeps;
        })))

    seen_2 : (view_of n).seen ≡ v2.seen ++ c.later
    seen_2 = c.seen ∙ (sym (append_assoc v.seen c.first (c.event ∷ c.later)) ∙ sym (append_assoc (v.seen ++ c.first) (c.event ∷ []) c.later))

    behind : Part many c.later v2 (view_of n) (memory n) (memory n) (story n.machine.work.disk) (story n.machine.work.disk)
    behind = (steps_at l story lawful n.machine.work.disk many v2 (view_of n) (memory n)).rest c.later (sees_misses v2 (view_of n) c.later c.are_later c.given seen_2) (miss_quiet c.later c.are_later)

    part : Part many events v (view_of n) (memory m) (memory n) (story m.machine.work.disk) (story n.machine.work.disk)
    part = (joins_at l story lawful m.machine.work.disk m.machine.work.disk n.machine.work.disk many c.first v v1 (view_of n) (memory m) (memory m) (memory n)).join (c.event ∷ c.later) before
        ((joins_at l story lawful m.machine.work.disk n.machine.work.disk n.machine.work.disk many (c.event ∷ []) v1 v2 (view_of n) (memory m) (memory n) (memory n)).join c.later staged behind)

  hot_same : hot_in n ≡ hot_in m
  hot_same = (λ i. hot_pages (opening (c.given i)) (state (view_of n)).core) ∙ ap (λ (place : ℕ → Place). count_below g.format.pages (λ p. is_hot (place p))) c.stays

  -- whichever it is said to be
  module _ (is_such : (own : ℕ) → Event → Bool) (P : Opening → State → Type 0) (Q : (own : ℕ) → Opening → State → List happening.Event → Type 0) (misses : (es : List Event) → AreMisses es → all (is_such own) es ≡ true) (such : is_such own c.event ≡ true)
      (room : (h : Opening) (xs : List Done) (first : List happening.Event) → Behind h xs first (view_of m) → Q own h (behind_first h xs first) (events_of events)) where
    pub made_one : ((d : D) → IsLawful (story d)) → n.machine.work.session.is_half_aborted ≡ m.machine.work.session.is_half_aborted → HasMadeWhere story is_such P Q 62 m n
    made_one lawful half = record {
      events = events;
      making = such_all own g s c.first c.later c.are_first c.are_later c.event is_such misses such;
      few = let e = hot_same in let k = c.few in let j = length-append c.first (c.event ∷ c.later) in omega arith;
      part = part lawful;
      tight = λ h xs first b. tight_all own h (behind_first h xs first) c.first c.later c.are_first c.are_later c.event (P h) c.unlogged;
      room = room;
      same = (same.1, same.2);
      turn = same.0;
      halves = λ w lo hi. halves_aside story m n a same ready half w lo hi;
    }

-- ## Room that was made

module _ (l : Grounds) {D : Type 0} (story : D → Story) (m n : PagedMachine D) (a : IsAside m n) (same : IsSameSession m.machine.work.session n.machine.work.session) (ready : IsReady story m) (key : ℕ)
    (c : IsRoomed key (view_of m) (view_of n) m.machine.work.session n.machine.work.session m.machine.work.log n.machine.work.log (story m.machine.work.disk) (story n.machine.work.disk)) where
  abbrev own_here : ℕ
  own_here = m.machine.work.session.own

  one : IsOneChange own_here (view_of m) (view_of n) m.machine.work.log n.machine.work.log (story m.machine.work.disk) (story n.machine.work.disk)
  one = record {
    event = c.event;
    first = c.first;
    later = c.later;
    are_first = c.are_first;
    are_later = c.are_later;
    few = c.few;
    given = c.given;
    seen = c.seen;
    met = c.met;
    happened = c.happened;
    enters_as = growth_of own_here (opening (view_of m).given) (state (view_of m)).core c.event c.by c.met;
    entered = entered_growth own_here c.event c.by;
    unlogged = no_log own_here c.event c.by;
    entry = c.entry;
    entry_is = c.entry_is;
    after = c.after;
    stands = c.stands;
    keeps = c.keeps;
    stays = c.stays;
  }

  pub ready_grown : EveryOther → EveryStanding → SeatFits n.machine → n.machine.work.session.works ≡ true → Holds (shape n.machine) (view_of n) n.machine.work.session n.machine.work.log → IsReady story n
  ready_grown = ready_one l story m n a same ready one

  abbrev g0 : Opening
  g0 = opening (view_of m).given

  abbrev s0 : State
  s0 = (state (view_of m)).core

  room : (h : Opening) (xs : List Done) (first : List happening.Event) → Behind h xs first (view_of m) → IsRoom own_here key h (behind_first h xs first) (events_of (c.first ++ c.event ∷ c.later))
  room h xs first b = room_all own_here h (behind_first h xs first) c.first c.later c.are_first c.are_later c.event key next
      (growth_way own_here c.event c.by h (behind_first h xs first) key next m.machine.work.session.free n.machine.work.session.free
      (takes_as c.event m.machine.work.session.free n.machine.work.session.free (room_refusal g0 s0 key ≡ None) (room_refusal h (behind_first h xs first) key ≡ None) fits c.free))
    where
      format_is : g0.format ≡ h.format
      format_is = sym b.opens.format

      core_at : s0 ≡ behind_first h xs first
      core_at = core_is l.reached l.needs h xs first (view_of m) b

      next : IsNextRoom own_here h (behind_first h xs first) key (event_of c.event)
      next = subst (λ (t : State). IsNextRoom own_here h t key (event_of c.event)) core_at (next_as g0 h format_is s0 key (sym b.opens.locks) (sym b.opens.workers) own_here (event_of c.event) c.next)

      fits : room_refusal g0 s0 key ≡ None → room_refusal h (behind_first h xs first) key ≡ None
      fits e = ap (λ (t : State). room_refusal h t key) (sym core_at) ∙ (sym (refusal_as g0 h format_is s0 key) ∙ e)

  pub made_grown : ((d : D) → IsLawful (story d)) → n.machine.work.session.is_half_aborted ≡ m.machine.work.session.is_half_aborted → HasMade story key 62 m n
  unfolding one
  made_grown = made_one l story m n a same ready one is_making (λ g s. IsTight g s key) (λ own g s es. IsRoom own key g s es) (miss_making own_here) (making_growth own_here c.event c.by) room

-- rows were given up as they stood
module _ (l : Grounds) {D : Type 0} (story : D → Story) (lawful : (d : D) → IsLawful (story d)) (m n : PagedMachine D) (a : IsAside m n) (key most : ℕ) (q : IsMissed most (view_of m) (view_of n)) (e : n.machine.work ≡ m.machine.work) where
  b : IsBeside m n
  b = beside_of m n a (ap (λ (k : Work D). k.log) e) (ap (λ (k : Work D). k.disk) e)

  own_is : n.machine.work.session.own ≡ m.machine.work.session.own
  own_is = ap (λ (k : Work D). k.session.own) e

  core_same : (state (view_of n)).core ≡ (state (view_of m)).core
  core_same = missed_core most (view_of m) (view_of n) q

  hot_still : hot_in n ≡ hot_in m
  hot_still i = hot_pages (opening (q.given i)) (core_same i)

  pub ready_missed : EveryOther → IsReady story m → SeatFits n.machine → Holds (shape n.machine) (view_of n) n.machine.work.session n.machine.work.log → IsReady story n
  ready_missed law ready fits holds = ready_on story m n b ready law q.given
      (record { entries = (state (view_of m)).core.entries; row = (state (view_of m)).core.row; worker = (state (view_of m)).core.worker; is = core_same; more = λ r h. h; less = λ r k h. h })
      fits (ap (λ (k : Work D). k.session.works) e ∙ ready.works) (own_is, ap (λ (k : Work D). k.session.workers) e, ap (λ (k : Work D). k.session.group) e)
      (record { events = q.misses; given = q.given; seen = q.seen; are_own = miss_own m.machine.work.session.own q.misses q.are_misses; met = miss_met (opening (view_of m).given) (state (view_of m)).core q.misses q.are_misses }) holds

  pub made_missed_where : (is_such : (own : ℕ) → Event → Bool) (P : Opening → State → Type 0) (Q : (own : ℕ) → Opening → State → List happening.Event → Type 0) → ((es : List Event) → AreMisses es → all (is_such m.machine.work.session.own) es ≡ true)
      → ((g : Opening) (s : State) (es : List Event) → AreMisses es → Q m.machine.work.session.own g s (events_of es)) → HasMadeWhere story is_such P Q most m n
  made_missed_where is_such P Q such calm = record {
    events = q.misses;
    making = such q.misses q.are_misses;
    few = let x = hot_still in let y = q.few in omega arith;
    part = as_beside l story lawful m n b own_is (λ k s. Part m.machine.work.session.workers q.misses (view_of m) (view_of n) (memory m) k (story m.machine.work.disk) s)
        ((steps_at l story lawful m.machine.work.disk m.machine.work.session.workers (view_of m) (view_of n) (memory m)).rest q.misses
        (record { given = q.given; seen = q.seen; met = miss_met (opening (view_of m).given) (state (view_of m)).core q.misses q.are_misses }) (miss_quiet q.misses q.are_misses));
    tight = λ h xs first c. syncs_none (P h) h (events_of q.misses) (behind_first h xs first) (miss_log q.misses q.are_misses);
    room = λ h xs first c. calm h (behind_first h xs first) q.misses q.are_misses;
    same = (ap (λ (k : Work D). k.session.workers) e, ap (λ (k : Work D). k.session.group) e);
    turn = own_is;
    halves = λ w lo hi. halves_are story m n b own_is (ap (λ (k : Work D). k.session.is_half_aborted) e) w;
  }

  pub made_missed : HasMade story key most m n
  made_missed = made_missed_where is_making (λ g s. IsTight g s key) (λ own g s es. IsRoom own key g s es) (miss_making m.machine.work.session.own)
      (λ h s es k. record { makes = makes_none m.machine.work.session.own h key s (events_of es) (miss_structure es k); way = inl (grows_none (events_of es) (miss_structure es k)) })
