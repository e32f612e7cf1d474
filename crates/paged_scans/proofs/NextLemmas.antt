-- From leaf to leaf.
use Rattle.std.proofs.Common.{◌≡◌, ◌∙◌, inr, ◌≤◌, ◌<◌, ◌+◌, ◌*◌, ◌++◌, ◌||◌, ◌==◌, ℕ, Bool, true, false, List, [], ◌∷◌, map, length, Some, None, Ok, Err, refl, sym, ap, subst, arith}
use Rattle.std.proofs.lemmas.Bool.{and_from, and_parts, eq-eqb}
use Rattle.std.proofs.lemmas.List.{length-append}
use Rattle.map_model.specs.Lists.{all, any, keep}
use Rattle.map_model.specs.Maps.{MapAnswer}
use Rattle.map_model.specs.declared.call.Refusal.TheVariants as refusal
use Rattle.paged_calls.specs.engine_trait.declared.unserved.Unserved.{Unserved}
use Rattle.paged_calls.specs.engine_trait.declared.unserved.Unanswered.TheVariants as unanswered
use Rattle.paged_calls.specs.engine_trait.declared.unserved.Unserved.TheVariants as unserved
use Rattle.paged_calls.specs.core_calls.Fronts.{Done, front}
use Rattle.paged_calls.specs.core_calls.LogEvents.{IsTight, IsTightSomewhere, SyncsWhere}
use Rattle.paged_calls.specs.core_calls.Scans.{TakesMet, rows_met}
use Rattle.paged_calls.specs.core_calls.Steps.{Walks, is_step, is_structure}
use Rattle.paged_calls.proofs.core_calls.WhereLemmas.{syncs_more, syncs_weaker}
use Rattle.paged_calls.specs.core_index.Walks.{met_keys}
use Rattle.paged_calls.specs.core_state.Steps.{run, state_after}
use Rattle.paged_calls.proofs.core_state.Runs.{run_more}
use Rattle.paged_calls.specs.engine_calls.Parts.{behind_first}
use Rattle.paged_calls.specs.engine_calls.Scans.{PassesGaps}
use Rattle.paged_calls.proofs.engine_calls.MarkLemmas.{any_append}
use Rattle.paged_calls.specs.session_state.Ties.{Behind}
use Rattle.paged_calls.specs.session_state.declared.session.Session.{Session}
use Rattle.paged_calls.proofs.session_state.Moments.{events_more}
use Rattle.paged_calls.proofs.call_parts.RunLemmas.{behind_more, core_is}
use Rattle.paged_calls.specs.paged_desks.Parts.{StandsNowhere}
use Rattle.paged_calls.proofs.paged_desks.StandLemmas.{halves_are}
use Rattle.paged_calls.specs.Steps.{FailsWarm}
use Rattle.paged_calls.proofs.EventLemmas.{paging_steps, paging_structure}
use Rattle.paged_calls.specs.core_state.Events as happening
use Rattle.paged_calls.specs.core_state.Openings.{Opening}
use Rattle.paged_calls.specs.core_state.States.{State}
use Rattle.paged_calls.specs.disk_runs.Quiet.{is_quiet}
use Rattle.lean_disk.specs.Story.{IsLawful, Story}
use Rattle.paged_calls.specs.row_words.declared.event.Event.{Event}
use Rattle.paged_calls.specs.row_words.declared.event.Event.TheVariants.{Next}
use Rattle.paged_calls.specs.row_words.Moments.{events_of}
use Rattle.paged_calls.specs.row_words.Openings.{opening}
use Rattle.paged_calls.specs.rows_trait.Views.{state}
use Rattle.paged_calls.specs.call_parts.Parts.{Part}
use Rattle.paged_calls.specs.call_parts.Rooms.{AreWalk, is_paging, walks}
use Rattle.row_scans.specs.Meets.{HasMet, HasMetConflict, takes_of, told_of, walk_of}
use Rattle.row_scans.specs.declared.meets.Met.{Met}
use Rattle.row_scans.specs.declared.meets.Met.TheVariants as met
use Rattle.paged_calls.specs.paged_desks.Calls.{IsBeside}
use Rattle.paged_calls.specs.paged_desks.Machines.{IsReady, memory, view_of}
use Rattle.paged_calls.specs.paged_desks.Pages.{ArePaging, hot_in}
use Rattle.paged_calls.specs.paged_desks.declared.machine.PagedMachine.{PagedMachine}
use Rattle.paged_calls.proofs.paged_desks.EndingLemmas.{Grounds}
use Rattle.paged_calls.proofs.PieceLemmas.{as_beside, joins_at, none_part, steps_at}
use Rattle.paged_calls.proofs.WarmLemmas.{beside_self}
use Rattle.paged_calls.proofs.MadeLemmas.{core_paging, making_paging}
use Rattle.paged_calls.proofs.session_desks.SeatLemmas.{holds_of}
use Rattle.paged_calls.specs.session_desks.Parts.{here, shape}
use Rattle.paged_scans.specs.Steps.{Behinds, HasPassed, IsSpentWarm, MeetsWarm, Nexts, Then, above_in, most_a_leaf}
use Rattle.paged_scans.proofs.LeafLemmas.{above_come, events_walk, few_walk, gap_fewer, hot_walk, walk_long}
use Rattle.paged_scans.proofs.PassLemmas.{gap_passes, gap_walks, gaps_more, idle_steps, idle_takes, keep_more, steps_more, takes_more, walk, walk_steps, walk_structure, walk_syncs, walk_takes}

-- ## The events of a walk

-- the disk sees none of them
quiet_walk : (own page key : ℕ) (rows : List ℕ) (x : Met) → all is_quiet (events_of (takes_of own rows ++ Next own page key (told_of x) ∷ [])) ≡ true
quiet_walk own page key [] (met.Pair at value) = refl
quiet_walk own page key [] (met.Gap high) = refl
quiet_walk own page key (i ∷ rows) x = quiet_walk own page key rows x

-- ## How a walk goes on

-- a step of the walk, or a move of pages
abbrev goes_on : (own : ℕ) → happening.Event → Bool
goes_on own e = walks own e || is_paging e

pub all_more : (p : happening.Event → Bool) (es fs : List happening.Event) → all p es ≡ true → all p fs ≡ true → all p (es ++ fs) ≡ true
all_more p [] fs a b = b
all_more p (e ∷ es) fs a b = let q = and_parts (p e) (all p es) a in and_from (p e) (all p (es ++ fs)) q.0 (all_more p es fs q.1 b)

or_right : (a b : Bool) → b ≡ true → (a || b) ≡ true
or_right true b e = refl
or_right false b e = e

pub moves_walk : (own : ℕ) (es : List happening.Event) → all is_paging es ≡ true → all (goes_on own) es ≡ true
moves_walk own [] k = refl
moves_walk own (e ∷ es) k = let q = and_parts (is_paging e) (all is_paging es) k in and_from (goes_on own e) (all (goes_on own) es) (or_right (walks own e) (is_paging e) q.0) (moves_walk own es q.1)

pub paging_walk : (own : ℕ) (es : List Event) → ArePaging es → all (goes_on own) (events_of es) ≡ true
paging_walk own es k = moves_walk own (events_of es) (core_paging 0 es (making_paging 0 es k) (paging_structure es k))

own_goes : (own : ℕ) (e : happening.Event) → walks own e ≡ (own == own) → goes_on own e ≡ true
own_goes own e is = ap (λ b. b || is_paging e) (is ∙ eq-eqb own own refl)

gap_walk : (own page at : ℕ) (rows : List ℕ) (high : ℕ) → all (goes_on own) (walk own page at rows (MapAnswer.Gap high)) ≡ true
gap_walk own page at [] high = and_from (goes_on own (happening.Event.Next own page at (MapAnswer.Gap high))) true (own_goes own (happening.Event.Next own page at (MapAnswer.Gap high)) refl) refl
gap_walk own page at (i ∷ rows) high =
    and_from (goes_on own (happening.Event.Lock own i happening.Mode.Shared)) (all (goes_on own) (walk own page at rows (MapAnswer.Gap high))) (own_goes own (happening.Event.Lock own i happening.Mode.Shared) refl) (gap_walk own page at rows high)

-- so many sessions at most
pub sessions_most : {D : Type 0} (story : D → Story) (m : PagedMachine D) → IsReady story m → m.machine.work.session.workers ≤ 16
sessions_most story m ready = (holds_of (shape m.machine) (view_of m) (here m.machine) m.machine.desks.items ready.sound.desks).rows.most

module _ (l : Grounds) {D : Type 0} (story : D → Story) (lawful : (d : D) → IsLawful (story d)) where
  -- a walk is a part of a call
  pub walk_part : (many own key : ℕ) (x : Met) (m n : PagedMachine D) → IsBeside m n → n.machine.work.session.own ≡ m.machine.work.session.own → (d : HasMet own (view_of m) (view_of n) key x)
      → Part many (walk_of (opening (view_of m).given) (state (view_of m)).core own d.page key x) (view_of m) (view_of n) (memory m) (memory n) (story m.machine.work.disk) (story n.machine.work.disk)
  walk_part many own key x m n b same d =
      let es = walk_of (opening (view_of m).given) (state (view_of m)).core own d.page key x in
      as_beside l story lawful m n b same (λ k s. Part many es (view_of m) (view_of n) (memory m) k (story m.machine.work.disk) s)
      ((steps_at l story lawful m.machine.work.disk many (view_of m) (view_of n) (memory m)).rest es (record { given = d.given; seen = d.seen; met = d.met })
      (quiet_walk own d.page key (rows_met (opening (view_of m).given) (state (view_of m)).core d.page key) x))

  -- before the first leaf
  pub passed_none : (from : ℕ) (m : PagedMachine D) → HasPassed story from from m m
  passed_none from m = record {
    events = [];
    part = none_part l story lawful m m (beside_self l story lawful from m) refl m.machine.work.session.workers refl refl;
    walks = refl;
    gaps = tt;
    walking = refl;
    structure = refl;
    few = omega arith;
    rows = λ g xs first b. (refl, refl);
    tight = λ g xs first b. tt;
    same = (refl, refl);
    turn = refl;
    halves = λ w lo hi. refl;
  }

  -- ## A gap is passed

  module _ (from at high : ℕ) (m u n : PagedMachine D) (ready : IsReady story u) (p : HasPassed story from at m u) (t : Then story at (λ a b. HasMet u.machine.work.session.own (view_of a) (view_of b) at (met.Gap high)) u n) where
    abbrev k : PagedMachine D
    k = t.between

    abbrev own : ℕ
    own = u.machine.work.session.own

    abbrev page : ℕ
    page = t.is.page

    abbrev rows : List ℕ
    rows = rows_met (opening (view_of k).given) (state (view_of k)).core page at

    abbrev told : List Event
    told = walk_of (opening (view_of k).given) (state (view_of k)).core own page at (met.Gap high)

    abbrev A : List happening.Event
    A = events_of p.events

    abbrev B : List happening.Event
    B = events_of t.come.events

    abbrev C : List happening.Event
    C = walk own page at rows (MapAnswer.Gap high)

    all_is : events_of (p.events ++ (t.come.events ++ told)) ≡ A ++ (B ++ C)
    all_is = events_more p.events (t.come.events ++ told) ∙ ap (λ ys. A ++ ys) (events_more t.come.events told ∙ ap (λ ys. B ++ ys) (events_walk own page at rows (met.Gap high)))

    steps_is : keep is_step (B ++ C) ≡ C
    steps_is = keep_more is_step B C ∙ (ap (λ ys. ys ++ keep is_step C) (idle_steps B (paging_steps t.come.events t.come.paging)) ∙ walk_steps own page at rows (MapAnswer.Gap high))

    gap_goes : Walks m.machine.work.session.own at (keep is_step (B ++ C)) (λ j. j ≡ high)
    gap_goes = subst (λ ys. Walks m.machine.work.session.own at ys (λ j. j ≡ high)) (sym steps_is) (subst (λ w. Walks w at C (λ j. j ≡ high)) p.turn (gap_walks own page at rows high (λ j. j ≡ high) refl))

    gap_part : Part m.machine.work.session.workers (p.events ++ (t.come.events ++ told)) (view_of m) (view_of n) (memory m) (memory n) (story m.machine.work.disk) (story n.machine.work.disk)
    gap_part = (joins_at l story lawful m.machine.work.disk u.machine.work.disk n.machine.work.disk m.machine.work.session.workers p.events (view_of m) (view_of u) (view_of n) (memory m) (memory u) (memory n)).join (t.come.events ++ told) p.part
        ((joins_at l story lawful u.machine.work.disk k.machine.work.disk n.machine.work.disk m.machine.work.session.workers t.come.events (view_of u) (view_of k) (view_of n) (memory u) (memory k) (memory n)).join told
        (subst (λ w. Part w t.come.events (view_of u) (view_of k) (memory u) (memory k) (story u.machine.work.disk) (story k.machine.work.disk)) p.same.0 t.come.part)
        (walk_part m.machine.work.session.workers own at (met.Gap high) k n t.beside (ap (λ (x : Session). x.own) t.session) t.is))

    -- its events go on with the walk
    gap_walking : AreWalk m.machine.work.session.own (events_of (p.events ++ (t.come.events ++ told)))
    gap_walking = subst (AreWalk m.machine.work.session.own) (sym all_is)
        (all_more (goes_on m.machine.work.session.own) A (B ++ C) p.walking (all_more (goes_on m.machine.work.session.own) B C (paging_walk m.machine.work.session.own t.come.events t.come.paging)
        (subst (λ w. all (goes_on m.machine.work.session.own) (walk w page at rows (MapAnswer.Gap high)) ≡ true) (sym p.turn) (gap_walk m.machine.work.session.own page at rows high))))

    -- and are few
    gap_few : length (p.events ++ (t.come.events ++ told)) + 2 * hot_in n + most_a_leaf * above_in n high ≤ 2 * hot_in m + most_a_leaf * above_in m from
    gap_few =
        let a = length-append p.events (t.come.events ++ told) in
        let b = length-append t.come.events told in
        let c = walk_long own rows (Next own page at (told_of (met.Gap high))) in
        let d = few_walk own at (met.Gap high) k n t.is story t.ready in
        let e = p.few in
        let f = t.few in
        let h = hot_walk own at (met.Gap high) k n t.is in
        let i = gap_fewer own at high k n t.is in
        let j = above_come story u ready k t.come.events t.come.paging t.come.part.given t.come.part.seen at in
        let o = sessions_most story u ready in
        omega arith

    -- in a run
    module _ (g : Opening) (xs : List Done) (first : List happening.Event) (b : Behind g xs first (view_of m)) where
      b1 : Behind g xs (first ++ A) (view_of u)
      b1 = behind_more g xs first (view_of m) b p.events (view_of u) p.part.given p.part.seen (p.part.logged g xs first b).met

      b2 : Behind g xs ((first ++ A) ++ B) (view_of k)
      b2 = behind_more g xs (first ++ A) (view_of u) b1 t.come.events (view_of k) t.come.part.given t.come.part.seen (t.come.part.logged g xs (first ++ A) b1).met

      abbrev S : State
      S = behind_first g xs first

      before_is : behind_first g xs (first ++ A) ≡ run g S A
      before_is = run_more g (state_after g (front xs)) first A

      there_is : (state (view_of k)).core ≡ run g (run g S A) B
      there_is = core_is l.reached l.needs g xs ((first ++ A) ++ B) (view_of k) b2 ∙ (run_more g (state_after g (front xs)) (first ++ A) B ∙ ap (λ s. run g s B) before_is)

      rows_is : (s : State) → s ≡ run g (run g S A) B → rows ≡ rows_met g s page at
      rows_is s e i = map (sym b2.opens.locks i) (met_keys (sym b2.opens.format i) at (((there_is ∙ sym e) i).page page).node.pairs)

      abbrev Q : State → ℕ → List ℕ → Type 0
      Q s j taken = (j ≡ high) × (taken ≡ [])

      abbrev P : State → ℕ → List ℕ → Type 0
      P s j taken = (j ≡ at) × (taken ≡ [])

      leaf_takes : (s : State) (j : ℕ) (taken : List ℕ) → s ≡ run g (run g S A) B → P s j taken → TakesMet g s j taken C Q
      leaf_takes s j taken e q = subst (λ i. TakesMet g s i taken C Q) (sym q.0) (subst (λ ts. TakesMet g s at ts C Q) (sym q.1)
          (walk_takes g own page at (MapAnswer.Gap high) Q rows [] s (rows_is s e) (refl, refl)))

      way_takes : (s : State) (j : ℕ) (taken : List ℕ) → s ≡ run g S A → P s j taken → TakesMet g s j taken (B ++ C) Q
      way_takes s j taken e q = takes_more g P Q B C s j taken (idle_takes g P B s j taken (paging_steps t.come.events t.come.paging) q) (λ r i ts f h. leaf_takes r i ts (f ∙ ap (λ z. run g z B) e) h)

      gap_takes : TakesMet g S from [] (events_of (p.events ++ (t.come.events ++ told))) Q
      gap_takes = subst (λ ys. TakesMet g S from [] ys Q) (sym all_is) (takes_more g P Q A (B ++ C) S from [] (p.rows g xs first b) (λ s j taken e q. way_takes s j taken e q))

      gap_tight : SyncsWhere (IsTightSomewhere g) g S false (events_of (p.events ++ (t.come.events ++ told)))
      gap_tight = subst (SyncsWhere (IsTightSomewhere g) g S false) (sym all_is)
          (syncs_more (IsTightSomewhere g) g A (B ++ C) S false (p.tight g xs first b)
          (syncs_more (IsTightSomewhere g) g B C (run g S A) false
          (syncs_weaker (λ s. IsTight g s at) (IsTightSomewhere g) (λ s q. (at, q)) g B (run g S A) false (subst (λ s. SyncsWhere (λ s. IsTight g s at) g s false B) before_is (t.come.tight g xs (first ++ A) b1)))
          (walk_syncs (IsTightSomewhere g) g own page at rows (MapAnswer.Gap high) (run g (run g S A) B))))

    pub passed_gap : HasPassed story from high m n
    passed_gap = record {
      events = p.events ++ (t.come.events ++ told);
      part = gap_part;
      walks = subst (λ ys. Walks m.machine.work.session.own from (keep is_step ys) (λ j. j ≡ high)) (sym all_is)
          (steps_more m.machine.work.session.own from A (B ++ C) (λ j. j ≡ at) (λ j. j ≡ high) p.walks (λ j e. subst (λ i. Walks m.machine.work.session.own i (keep is_step (B ++ C)) (λ z. z ≡ high)) (sym e) gap_goes));
      walking = gap_walking;
      few = gap_few;
      gaps = subst (λ ys. PassesGaps (keep is_step ys)) (sym all_is) (gaps_more A (B ++ C) p.gaps (subst PassesGaps (sym steps_is) (gap_passes own page at rows high)));
      structure = subst (λ ys. any is_structure ys ≡ false) (sym all_is) (any_append is_structure A (B ++ C) p.structure (any_append is_structure B C (paging_structure t.come.events t.come.paging) (walk_structure own page at rows (MapAnswer.Gap high))));
      rows = gap_takes;
      tight = gap_tight;
      same = (ap (λ (x : Session). x.workers) t.session ∙ (t.come.same.0 ∙ p.same.0), ap (λ (x : Session). x.group) t.session ∙ (t.come.same.1 ∙ p.same.1));
      turn = ap (λ (x : Session). x.own) t.session ∙ (t.come.turn ∙ p.turn);
      halves = λ w lo hi. halves_are story k n t.beside (ap (λ (x : Session). x.own) t.session) (ap (λ (x : Session). x.is_half_aborted) t.session) w ∙ (t.come.halves w lo (let e = p.same.0 in omega arith) ∙ p.halves w lo hi);
    }

-- ## By answer

module _ {D : Type 0} (story : D → Story) (from to at : ℕ) (m u n : PagedMachine D) (low : from ≤ at) (high : at ≤ to) (p : HasPassed story from at m u) where
  behinds : (P : (at : ℕ) → (between n : PagedMachine D) → Type 0) → P at u n → Behinds story from to P m n
  behinds P k = record { between = u; at = at; low = low; high = high; passed = p; is = k }

  pub next_pair : (key value : ℕ) → key ≤ to → MeetsWarm story at (Ok (met.Pair key value)) u n → Nexts story from to (Ok (Some (key, value))) m n
  next_pair key value le k = (le, behinds (λ a v w. Then story a (λ b c. HasMet v.machine.work.session.own (view_of b) (view_of c) a (met.Pair key value)) v w) k)

  pub next_over : (key value : ℕ) → to < key → MeetsWarm story at (Ok (met.Pair key value)) u n → Nexts story from to (Ok None) m n
  next_over key value lt k = inr (key, value, lt, behinds (λ a v w. Then story a (λ b c. HasMet v.machine.work.session.own (view_of b) (view_of c) a (met.Pair key value)) v w) k)

  pub next_refused : (why : Unserved) → MeetsWarm story at (Err why) u n → Nexts story from to (Err why) m n
  next_refused (unserved.Refused (refusal.Conflict h)) k = behinds (λ a v w. Then story a (λ b c. HasMetConflict v.machine.work.session.own (view_of b) (view_of c) a h) v w) k
  next_refused (unserved.Refused refusal.RowSpent) k = behinds (λ a v w. IsSpentWarm story a v w) k
  next_refused (unserved.Unanswered unanswered.DiskFault) k = behinds (λ a v w. FailsWarm story v w) k
  next_refused (unserved.Unanswered (unanswered.Damaged place)) k = behinds (λ a v w. FailsWarm story v w × StandsNowhere story v) k
  next_refused _ k = absurd k

-- by another name of what was met
pub warm_met : {D : Type 0} (story : D → Story) (key : ℕ) (m n : PagedMachine D) (x y : Met) → x ≡ y → MeetsWarm story key (Ok x) m n → MeetsWarm story key (Ok y) m n
warm_met story key m n x y e k = subst (λ (z : Met). MeetsWarm story key (Ok z) m n) e k
