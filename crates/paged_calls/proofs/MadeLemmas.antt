-- Room that was made, put together: pages that came, changes of the tree, and one behind the other.
use Rattle.std.proofs.Common.{◌≡◌, ◌∙◌, ◌⊎◌, inl, inr, ◌≤◌, ◌+◌, ◌++◌, ◌||◌, ℕ, Bool, true, false, List, [], ◌∷◌, ap, refl, sym, subst, arith, true≢false}
use Rattle.std.proofs.lemmas.Bool.{and_from, and_parts}
use Rattle.std.proofs.lemmas.List.{length-append}
use Rattle.map_model.specs.Lists.{all, any}
use Rattle.paged_desks.proofs.core_calls.WhereLemmas.{syncs_more}
use Rattle.paged_desks.specs.core_calls.Fronts.{Done, front}
use Rattle.paged_desks.specs.core_calls.LogEvents.{IsTight, SyncsWhere}
use Rattle.paged_desks.specs.core_calls.Steps.{is_structure}
use Rattle.paged_desks.specs.core_paging.Paging.{EveryResidence, Residence}
use Rattle.paged_desks.proofs.core_state.Runs.{run_more}
use Rattle.paged_desks.specs.core_state.Events as happening
use Rattle.paged_desks.specs.core_state.Openings.{Opening}
use Rattle.paged_desks.specs.core_state.States.{State}
use Rattle.paged_desks.specs.core_state.States.{start as core_start}
use Rattle.paged_desks.specs.core_state.Steps as core
use Rattle.paged_desks.specs.core_state.Steps.{AllMet}
use Rattle.paged_desks.proofs.engine_calls.MarkLemmas.{any_append}
use Rattle.paged_desks.specs.engine_calls.Parts.{behind_first}
use Rattle.lean_disk.specs.Story.{IsLawful, Story}
use Rattle.paged_desks.specs.page_pool.Counts.{hot_pages}
use Rattle.paged_desks.specs.row_words.declared.event.Event.{Event}
use Rattle.paged_desks.specs.row_words.declared.event.Event.TheVariants as told
use Rattle.paged_desks.specs.row_words.Moments.{event_of, events_of}
use Rattle.paged_desks.specs.row_words.Openings.{opening}
use Rattle.paged_desks.specs.rows_trait.Views.{after_all}
use Rattle.paged_desks.proofs.session_state.Moments.{events_more}
use Rattle.paged_desks.specs.session_state.Ties.{Behind}
use Rattle.paged_desks.specs.session_state.tidy_rules.Rooms.{IsNextRoom, MakesRoom}
use Rattle.paged_desks.specs.session_state.declared.session.Session.{Session}
use Rattle.paged_desks.proofs.call_parts.RunLemmas.{behind_more, first_more, front_is}
use Rattle.paged_desks.specs.call_parts.Parts.{Part}
use Rattle.paged_desks.specs.call_parts.Rooms.{grows, is_paging as pages_come}
use Rattle.paged_desks.specs.Machines.{memory, view_of}
use Rattle.paged_desks.specs.Pages.{ArePaging, hot_in, is_paging}
use Rattle.paged_desks.specs.Parts.{HasGone, HasGoneWhere}
use Rattle.paged_desks.specs.declared.machine.PagedMachine.{PagedMachine}
use Rattle.paged_desks.proofs.EndingLemmas.{Grounds, grows_none}
use Rattle.paged_desks.proofs.StandLemmas.{halves_are}
use Rattle.paged_calls.specs.Growths.{AreLike, AreMaking, HasMade, HasMadeWhere, HasWay, IsRoom, is_making}
use Rattle.paged_calls.specs.Steps.{IsStill}
use Rattle.paged_calls.proofs.EventLemmas.{paging_structure}
use Rattle.paged_calls.proofs.LikeLemmas.{changes_entries, run_like}
use Rattle.paged_calls.proofs.PieceLemmas.{joins_at, none_part}
use Rattle.paged_calls.proofs.WayLemmas.{way_back}

-- ## Events

first_false : (p q : Bool) → (p || q) ≡ false → p ≡ false
first_false true q e = e
first_false false q e = refl

second_false : (p q : Bool) → (p || q) ≡ false → q ≡ false
second_false true q e = absurd (true≢false e)
second_false false q e = e

pub all_append : (f : Event → Bool) (es fs : List Event) → all f es ≡ true → all f fs ≡ true → all f (es ++ fs) ≡ true
all_append f [] fs a b = b
all_append f (e ∷ es) fs a b = let p = and_parts (f e) (all f es) a in and_from (f e) (all f (es ++ fs)) p.0 (all_append f es fs p.1 b)

-- pages that come
making_one : (own : ℕ) (e : Event) → is_paging e ≡ true → is_making own e ≡ true
making_one own (told.Purge w p keys) k = absurd (true≢false (sym k))
making_one own (told.Split w l r q i) k = absurd (true≢false (sym k))
making_one own (told.Lift w c) k = absurd (true≢false (sym k))
making_one own _ k = k

pub making_paging : (own : ℕ) (es : List Event) → ArePaging es → AreMaking own es
making_paging own [] k = refl
making_paging own (e ∷ es) k = and_from (is_making own e) (all (is_making own) es) (making_one own e k.0) (making_paging own es k.1)

-- where the tree is as it was, the others are those
core_one : (own : ℕ) (e : Event) → is_making own e ≡ true → is_structure (event_of e) ≡ false → pages_come (event_of e) ≡ true
core_one own (told.Purge w p keys) k none = absurd (true≢false none)
core_one own (told.Split w l r q i) k none = absurd (true≢false none)
core_one own (told.Lift w c) k none = absurd (true≢false none)
core_one own (told.Flush w n) k none = refl
core_one own (told.Sync n) k none = refl
core_one own (told.Fetch p pairs) k none = refl
core_one own (told.Load p f) k none = refl
core_one own (told.Cool p) k none = refl
core_one own (told.Rescue p) k none = refl
core_one own (told.Save p) k none = refl
core_one own (told.Evict p) k none = refl
core_one own told.Tick k none = refl
core_one own (told.Miss w) k none = refl
core_one own _ k none = absurd (true≢false (sym k))

pub core_paging : (own : ℕ) (es : List Event) → AreMaking own es → any is_structure (events_of es) ≡ false → all pages_come (events_of es) ≡ true
core_paging own [] k none = refl
core_paging own (e ∷ es) k none =
    let a = and_parts (is_making own e) (all (is_making own) es) k in
    and_from (pages_come (event_of e)) (all pages_come (events_of es)) (core_one own e a.0 (first_false (is_structure (event_of e)) (any is_structure (events_of es)) none))
    (core_paging own es a.1 (second_false (is_structure (event_of e)) (any is_structure (events_of es)) none))

-- where no page was given to it, they change entries alone
entries_one : (own : ℕ) (e : Event) → is_making own e ≡ true → grows (event_of e) ≡ false → changes_entries (event_of e) ≡ true
entries_one own (told.Purge w p keys) k none = refl
entries_one own (told.Split w l r q i) k none = absurd (true≢false none)
entries_one own (told.Lift w c) k none = absurd (true≢false none)
entries_one own (told.Flush w n) k none = refl
entries_one own (told.Sync n) k none = refl
entries_one own (told.Fetch p pairs) k none = refl
entries_one own (told.Load p f) k none = refl
entries_one own (told.Cool p) k none = refl
entries_one own (told.Rescue p) k none = refl
entries_one own (told.Save p) k none = refl
entries_one own (told.Evict p) k none = refl
entries_one own told.Tick k none = refl
entries_one own (told.Miss w) k none = refl
entries_one own _ k none = absurd (true≢false (sym k))

pub made_entries : (own : ℕ) (es : List Event) → AreMaking own es → any grows (events_of es) ≡ false → all changes_entries (events_of es) ≡ true
made_entries own [] k none = refl
made_entries own (e ∷ es) k none =
    let a = and_parts (is_making own e) (all (is_making own) es) k in
    and_from (changes_entries (event_of e)) (all changes_entries (events_of es)) (entries_one own e a.0 (first_false (grows (event_of e)) (any grows (events_of es)) none))
    (made_entries own es a.1 (second_false (grows (event_of e)) (any grows (events_of es)) none))

-- ## Room

-- what changes nothing of the tree makes room, as far as that goes
module _ (own : ℕ) (g : Opening) (key : ℕ) where
  next_none : (s : State) (e : happening.Event) → is_structure e ≡ false → IsNextRoom own g s key e
  next_none s (happening.Event.Split w k r q i) h = absurd (true≢false h)
  next_none s (happening.Event.Lift w k) h = absurd (true≢false h)
  next_none s (happening.Event.Join w k r q) h = absurd (true≢false h)
  next_none s (happening.Event.Drop w k) h = absurd (true≢false h)
  next_none s (happening.Event.Purge w p keys) h = absurd (true≢false h)
  next_none s _ h = tt

  pub makes_none : (s : State) (es : List happening.Event) → any is_structure es ≡ false → MakesRoom own g s key es
  makes_none s [] h = tt
  makes_none s (e ∷ es) h = (next_none s e (first_false (is_structure e) (any is_structure es) h), makes_none (core.step g s e) es (second_false (is_structure e) (any is_structure es) h))

  pub makes_join : (s : State) (es fs : List happening.Event) → MakesRoom own g s key es → MakesRoom own g (core.run g s es) key fs → MakesRoom own g s key (es ++ fs)
  makes_join s [] fs a b = b
  makes_join s (e ∷ es) fs a b = (a.0, makes_join (core.step g s e) es fs a.1 b)

  -- one behind the other
  pub room_join : (s : State) (es fs : List happening.Event) → (any grows es ≡ false → AreLike s (core.run g s es)) → IsRoom own key g s es → IsRoom own key g (core.run g s es) fs → IsRoom own key g s (es ++ fs)
  room_join s es fs like a b = record { makes = makes_join s es fs a.makes b.makes; way = go a.way b.way }
    where
      go : (any grows es ≡ false) ⊎ HasWay g s key → (any grows fs ≡ false) ⊎ HasWay g (core.run g s es) key → (any grows (es ++ fs) ≡ false) ⊎ HasWay g s key
      go (inr w) d = inr w
      go (inl none) (inl rest) = inl (any_append grows es fs none rest)
      go (inl none) (inr w) = inr (way_back g s (core.run g s es) key (like none) w)

-- in a run places are in order
pub resides : EveryResidence → (g : Opening) (xs : List Done) (first : List happening.Event) (more : List Event) → Residence g (core.run g (behind_first g xs first) (events_of more))
resides residence g xs first more = subst (λ (s : State). Residence g s)
    (run_more g (core_start g) (front xs ++ first) (events_of more) ∙ ap (λ (s : State). core.run g s (events_of more)) (front_is g xs first)) (residence g ((front xs ++ first) ++ events_of more))

-- ## Whatever is made

-- each event is such, a sync begins where P is so, and Q is so of them
module _ (l : Grounds) {D : Type 0} (story : D → Story) (lawful : (d : D) → IsLawful (story d)) (is_such : (own : ℕ) → Event → Bool) (P : Opening → State → Type 0) where
  -- none
  pub made_still : (Q : (own : ℕ) → Opening → State → List happening.Event → Type 0) (m u : PagedMachine D) → ((g : Opening) (s : State) → Q m.machine.work.session.own g s []) → IsStill story m u → HasMadeWhere story is_such P Q 0 m u
  made_still Q m u none s = record {
    events = [];
    making = refl;
    few = let e = hot_same in omega arith;
    part = none_part l story lawful m u s.beside own_is m.machine.work.session.workers s.given s.seen;
    tight = λ g xs first b. tt;
    room = λ g xs first b. none g (behind_first g xs first);
    same = (ap (λ (x : Session). x.workers) s.session, ap (λ (x : Session). x.group) s.session);
    turn = own_is;
    halves = λ w lo hi. halves_are story m u s.beside own_is (ap (λ (x : Session). x.is_half_aborted) s.session) w;
  }
    where
      own_is : u.machine.work.session.own ≡ m.machine.work.session.own
      own_is = ap (λ (x : Session). x.own) s.session

      hot_same : hot_in u ≡ hot_in m
      hot_same i = hot_pages (opening (s.given i)) (after_all (s.given i) (s.seen i)).core

  -- pages came
  pub made_come : (Q : (own : ℕ) → Opening → State → List happening.Event → Type 0) (most : ℕ) (m n : PagedMachine D) → ((es : List Event) → ArePaging es → all (is_such m.machine.work.session.own) es ≡ true)
      → ((g : Opening) (s : State) (es : List Event) → ArePaging es → Q m.machine.work.session.own g s (events_of es)) → HasGoneWhere story P most m n → HasMadeWhere story is_such P Q most m n
  made_come Q most m n such calm g = record {
    events = g.paged.events;
    making = such g.paged.events g.paged.paging;
    few = g.paged.few;
    part = g.part;
    tight = g.paged.tight;
    room = λ h xs first b. calm h (behind_first h xs first) g.paged.events g.paged.paging;
    same = g.paged.same;
    turn = g.paged.turn;
    halves = λ w lo hi. ap (λ (x : Session). x.is_half_aborted) (g.paged.sessions w lo hi).session;
  }

  -- one behind the other
  module _ (A B C : (own : ℕ) → Opening → State → List happening.Event → Type 0) (a b : ℕ) (m u n : PagedMachine D) (d : HasMadeWhere story is_such P A a m u) (e : HasMadeWhere story is_such P B b u n)
      (join : (g : Opening) (xs : List Done) (first : List happening.Event) → Behind g xs first (view_of m) → A m.machine.work.session.own g (behind_first g xs first) (events_of d.events)
      → B m.machine.work.session.own g (core.run g (behind_first g xs first) (events_of d.events)) (events_of e.events) → C m.machine.work.session.own g (behind_first g xs first) (events_of d.events ++ events_of e.events)) where
    abbrev own : ℕ
    own = m.machine.work.session.own

    abbrev many : ℕ
    many = m.machine.work.session.workers

    all_events : events_of (d.events ++ e.events) ≡ events_of d.events ++ events_of e.events
    all_events = events_more d.events e.events

    later : Part many e.events (view_of u) (view_of n) (memory u) (memory n) (story u.machine.work.disk) (story n.machine.work.disk)
    later = subst (λ w. Part w e.events (view_of u) (view_of n) (memory u) (memory n) (story u.machine.work.disk) (story n.machine.work.disk)) d.same.0 e.part

    module _ (g : Opening) (xs : List Done) (first : List happening.Event) (s : Behind g xs first (view_of m)) where
      met : AllMet g (behind_first g xs first) (events_of d.events)
      met = (d.part.logged g xs first s).met

      there : Behind g xs (first ++ events_of d.events) (view_of u)
      there = behind_more g xs first (view_of m) s d.events (view_of u) d.part.given d.part.seen met

      run_is : behind_first g xs (first ++ events_of d.events) ≡ core.run g (behind_first g xs first) (events_of d.events)
      run_is = first_more g xs first (events_of d.events)

      tight : SyncsWhere (P g) g (behind_first g xs first) false (events_of (d.events ++ e.events))
      tight = subst (λ ys. SyncsWhere (P g) g (behind_first g xs first) false ys) (sym all_events)
          (syncs_more (P g) g (events_of d.events) (events_of e.events) (behind_first g xs first) false (d.tight g xs first s)
          (subst (λ (t : State). SyncsWhere (P g) g t false (events_of e.events)) run_is (e.tight g xs (first ++ events_of d.events) there)))

      room : C own g (behind_first g xs first) (events_of (d.events ++ e.events))
      room = subst (λ ys. C own g (behind_first g xs first) ys) (sym all_events)
          (join g xs first s (d.room g xs first s)
          (subst (λ (t : State). B own g t (events_of e.events)) run_is (subst (λ w. B w g (behind_first g xs (first ++ events_of d.events)) (events_of e.events)) d.turn (e.room g xs (first ++ events_of d.events) there))))

    pub made_both : HasMadeWhere story is_such P C (a + b) m n
    made_both = record {
      events = d.events ++ e.events;
      making = all_append (is_such own) d.events e.events d.making (subst (λ w. all (is_such w) e.events ≡ true) d.turn e.making);
      few = let p = d.few in let q = e.few in let r = length-append d.events e.events in omega arith;
      part = (joins_at l story lawful m.machine.work.disk u.machine.work.disk n.machine.work.disk many d.events (view_of m) (view_of u) (view_of n) (memory m) (memory u) (memory n)).join e.events d.part later;
      tight = tight;
      room = room;
      same = (e.same.0 ∙ d.same.0, e.same.1 ∙ d.same.1);
      turn = e.turn ∙ d.turn;
      halves = λ w lo hi. e.halves w lo (let q = d.same.0 in omega arith) ∙ d.halves w lo hi;
    }

-- by a greater number
pub made_more : {D : Type 0} (story : D → Story) (is_such : (own : ℕ) → Event → Bool) (P : Opening → State → Type 0) (Q : (own : ℕ) → Opening → State → List happening.Event → Type 0) (a b : ℕ) (m n : PagedMachine D) → a ≤ b → HasMadeWhere story is_such P Q a m n → HasMadeWhere story is_such P Q b m n
made_more story is_such P Q a b m n up d = record { events = d.events; making = d.making; few = (let p = d.few in let q = up in omega arith); part = d.part; tight = d.tight; room = d.room; same = d.same; turn = d.turn; halves = d.halves }

-- ## Room

module _ (l : Grounds) (residence : EveryResidence) {D : Type 0} (story : D → Story) (lawful : (d : D) → IsLawful (story d)) (key : ℕ) where
  abbrev tight_for : Opening → State → Type 0
  tight_for g s = IsTight g s key

  abbrev room_by : (own : ℕ) → Opening → State → List happening.Event → Type 0
  room_by own g s es = IsRoom own key g s es

  pub made_none : (m u : PagedMachine D) → IsStill story m u → HasMade story key 0 m u
  made_none m u s = made_still l story lawful is_making tight_for room_by m u (λ g t. record { makes = tt; way = inl refl }) s

  -- pages came
  pub made_gone : (most : ℕ) (m n : PagedMachine D) → HasGone story key most m n → HasMade story key most m n
  made_gone most m n g = made_come l story lawful is_making tight_for room_by most m n (making_paging m.machine.work.session.own)
      (λ h s es k. let none = paging_structure es k in record { makes = makes_none m.machine.work.session.own h key s (events_of es) none; way = inl (grows_none (events_of es) none) }) g

  -- one behind the other
  pub made_then : (a b : ℕ) (m u n : PagedMachine D) → HasMade story key a m u → HasMade story key b u n → HasMade story key (a + b) m n
  made_then a b m u n d e = made_both l story lawful is_making tight_for room_by room_by room_by a b m u n d e
      (λ g xs first s x y. room_join m.machine.work.session.own g key (behind_first g xs first) (events_of d.events) (events_of e.events)
      (λ none. run_like g d.events (behind_first g xs first) (resides residence g xs first) (made_entries m.machine.work.session.own d.events d.making none)) x y)

-- by a greater number
pub made_up : {D : Type 0} (story : D → Story) (key a b : ℕ) (m n : PagedMachine D) → a ≤ b → HasMade story key a m n → HasMade story key b m n
made_up story key a b m n up d = made_more story is_making (λ g s. IsTight g s key) (λ own g s es. IsRoom own key g s es) a b m n up d
