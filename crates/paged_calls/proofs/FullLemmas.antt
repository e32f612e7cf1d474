-- A full leaf, a row that is held, and the events by which room is made.
use Rattle.std.proofs.Common.{◌≡◌, ◌∙◌, ◌⊎◌, inl, inr, ◌≤◌, ◌<◌, ◌^◌, ◌&&◌, ◌||◌, ◌==◌, ◌++◌, not, leb, ltb, ℕ, zero, suc, Bool, true, false, cond, List, [], ◌∷◌, length, Option, Some, None, ap, refl, sym, subst, arith, true≢false}
use Rattle.std.proofs.lemmas.Bool.{and_from, and_parts, eq-eqb, eqb-true, lt-leb, ltb-true}
use Rattle.map_model.proofs.ListLemmas.{at_upd, upd_same}
use Rattle.map_model.specs.Lists.{all, any}
use Rattle.map_model.specs.declared.call.Refusal.{Refusal}
use Rattle.map_model.specs.declared.call.Refusal.TheVariants as refusal
use Rattle.paged_desks.specs.core_calls.Room.{free_list, is_all_full, room_takes}
use Rattle.paged_desks.specs.core_calls.Steps.{is_step}
use Rattle.paged_desks.specs.core_state.Events as happening
use Rattle.paged_desks.specs.core_state.Needs.{are_hot, is_free, is_held_by, may, may_put, needs}
use Rattle.paged_desks.specs.core_state.Openings.{Opening}
use Rattle.paged_desks.specs.core_state.States.{Row, State, Worker, nodes_of, gsns_of}
use Rattle.paged_desks.specs.core_state.Steps as core
use Rattle.paged_desks.specs.core_state.Steps.{at_pages, at_row, happens, locked, moves}
use Rattle.paged_desks.specs.engine_trait.Refusals.{is_full_for, lock_refusal, met_refusal, room_refusal}
use Rattle.paged_desks.specs.image_model.Entries.{Kind}
use Rattle.page_model.proofs.Laws.{every_tree}
use Rattle.page_model.specs.Check.{some_below}
use Rattle.page_model.specs.Needs.{lift_record, purge_record, split_record}
use Rattle.page_model.specs.Nodes.{Node, holds}
use Rattle.page_model.specs.Records as records
use Rattle.page_model.specs.Redo.{has_key}
use Rattle.page_model.specs.Tree.{IsTree}
use Rattle.paged_desks.specs.row_words.declared.event.Event.{Event}
use Rattle.paged_desks.specs.row_words.declared.event.Event.TheVariants as told
use Rattle.paged_desks.specs.row_words.Moments.{event_of, events_of}
use Rattle.paged_desks.specs.call_parts.Rooms.{AreRoom, changes_tree, is_paging as pages_come, takes_row}
use Rattle.paged_calls.specs.Growths.{AreMaking, is_making}
use Rattle.paged_calls.proofs.Conflicts.{lock_free}
use Rattle.paged_calls.proofs.RecordStands.{clock_met}

-- ## Events

neither : (p q : Bool) → p ≡ false → q ≡ false → (p || q) ≡ false
neither true q x y = x
neither false q x y = y

or_left : (a b : Bool) → a ≡ true → (a || b) ≡ true
or_left true b e = refl
or_left false b e = absurd (true≢false (sym e))

or_right : (a b : Bool) → b ≡ true → (a || b) ≡ true
or_right true b e = refl
or_right false b e = e

first_false : (p q : Bool) → (p || q) ≡ false → p ≡ false
first_false true q e = e
first_false false q e = refl

second_false : (p q : Bool) → (p || q) ≡ false → q ≡ false
second_false true q e = absurd (true≢false e)
second_false false q e = e

pub all_more : (f : happening.Event → Bool) (es fs : List happening.Event) → all f es ≡ true → all f fs ≡ true → all f (es ++ fs) ≡ true
all_more f [] fs a b = b
all_more f (e ∷ es) fs a b = let p = and_parts (f e) (all f es) a in and_from (f e) (all f (es ++ fs)) p.0 (all_more f es fs p.1 b)

pub any_first : (f : happening.Event → Bool) (es fs : List happening.Event) → any f (es ++ fs) ≡ false → any f es ≡ false
any_first f [] fs e = refl
any_first f (x ∷ es) fs e = neither (f x) (any f es) (first_false (f x) (any f (es ++ fs)) e) (any_first f es fs (second_false (f x) (any f (es ++ fs)) e))

-- what is so of one by which room is made
record Making (own row : ℕ) (e : Event) : Type 0 where
  step : is_step (event_of e) ≡ false
  room : (takes_row own row happening.Mode.Alone (event_of e) || (changes_tree own (event_of e) || pages_come (event_of e))) ≡ true

making_one : (own row : ℕ) (e : Event) → is_making own e ≡ true → Making own row e
making_one own row (told.Purge w p keys) k = record { step = refl; room = or_left (w == own) false k }
making_one own row (told.Split w l r q i) k = record { step = refl; room = or_left (w == own) false k }
making_one own row (told.Lift w c) k = record { step = refl; room = or_left (w == own) false k }
making_one own row (told.Flush w n) k = record { step = refl; room = refl }
making_one own row (told.Sync n) k = record { step = refl; room = refl }
making_one own row (told.Fetch p pairs) k = record { step = refl; room = refl }
making_one own row (told.Load p f) k = record { step = refl; room = refl }
making_one own row (told.Cool p) k = record { step = refl; room = refl }
making_one own row (told.Rescue p) k = record { step = refl; room = refl }
making_one own row (told.Save p) k = record { step = refl; room = refl }
making_one own row (told.Evict p) k = record { step = refl; room = refl }
making_one own row told.Tick k = record { step = refl; room = refl }
making_one own row (told.Miss w) k = record { step = refl; room = refl }
making_one own row _ k = absurd (true≢false (sym k))

pub making_steps : (own : ℕ) (es : List Event) → AreMaking own es → any is_step (events_of es) ≡ false
making_steps own [] k = refl
making_steps own (e ∷ es) k = let a = and_parts (is_making own e) (all (is_making own) es) k in neither (is_step (event_of e)) (any is_step (events_of es)) (making_one own 0 e a.0).step (making_steps own es a.1)

pub making_room : (own row : ℕ) (es : List Event) → AreMaking own es → AreRoom own row happening.Mode.Alone (events_of es)
making_room own row [] k = refl
making_room own row (e ∷ es) k =
    let a = and_parts (is_making own e) (all (is_making own) es) k in
    and_from (takes_row own row happening.Mode.Alone (event_of e) || (changes_tree own (event_of e) || pages_come (event_of e))) (all (λ x. takes_row own row happening.Mode.Alone x || (changes_tree own x || pages_come x)) (events_of es)) (making_one own row e a.0).room (making_room own row es a.1)

-- ## The leaf of a key

pub all_three : (a b c : Bool) → a ≡ true → b ≡ true → c ≡ false → (a && (b && not c)) ≡ true
all_three true true false p q r = refl
all_three false b c p q r = p
all_three true false c p q r = q
all_three true true true p q r = absurd (true≢false r)

some_false : (n : ℕ) (f : ℕ → Bool) → ((p : ℕ) → p < n → f p ≡ false) → some_below n f ≡ false
some_false zero f h = refl
some_false (suc n) f h = neither (f n) (some_below n f) (h n (omega arith)) (some_false n f (λ p lt. h p (omega arith)))

below_room : (n room : ℕ) → ltb n room ≡ true → (n == room) ≡ false
below_room n room e = go (n == room) refl
  where
    go : (b : Bool) → (n == room) ≡ b → b ≡ false
    go false q = refl
    go true q = let lt = ltb-true n room e in let is = eqb-true n room q in absurd (omega arith)

fits_in : (has low full : Bool) → (has || low) ≡ true → (low ≡ true → full ≡ false) → (full && not has) ≡ false
fits_in true low full e h = no full
  where
    no : (b : Bool) → (b && false) ≡ false
    no true = refl
    no false = refl
fits_in false low full e h = ap (λ b. b && true) (h e)

-- where the key may be changed its leaf is not full, and no other leaf has the key
pub not_full : (g : Opening) (s : State) (key own page value : ℕ) → IsTree g.format (nodes_of s) → may g s (happening.Event.Change own page key value) ≡ true → is_full_for g s key ≡ false
not_full g s key own page value t met = some_false g.format.pages (λ p. holds (s.page p).node key && ((length (s.page p).node.pairs == g.format.room) && not (has_key key (s.page p).node))) (λ p lt. at p lt (holds (s.page p).node key) refl)
  where
    node : Node
    node = (s.page page).node

    parts : (page < g.format.pages) × (holds node key ≡ true) × ((has_key key node || ltb (length node.pairs) g.format.room) ≡ true)
    parts =
        let p1 = and_parts (are_hot s (page ∷ [])) (needs g s (happening.Event.Change own page key value)) met in
        let p2 = and_parts (ltb (length (s.worker own).changes) g.changes) ((s.worker own).is_open && (is_held_by (s.row (g.row_of key)).holder own && may_put g node page key value)) p1.1 in
        let p3 = and_parts (s.worker own).is_open (is_held_by (s.row (g.row_of key)).holder own && may_put g node page key value) p2.1 in
        let p4 = and_parts (is_held_by (s.row (g.row_of key)).holder own) (may_put g node page key value) p3.1 in
        let p5 = and_parts (ltb page g.format.pages) (holds node key && (leb value g.format.dead && (has_key key node || ltb (length node.pairs) g.format.room))) p4.1 in
        let p6 = and_parts (holds node key) (leb value g.format.dead && (has_key key node || ltb (length node.pairs) g.format.room)) p5.1 in
        let p7 = and_parts (leb value g.format.dead) (has_key key node || ltb (length node.pairs) g.format.room) p6.1 in
        (ltb-true page g.format.pages p5.0, p6.0, p7.1)

    at : (p : ℕ) → p < g.format.pages → (b : Bool) → holds (s.page p).node key ≡ b → (b && ((length (s.page p).node.pairs == g.format.room) && not (has_key key (s.page p).node))) ≡ false
    at p lt false e = refl
    at p lt true e =
        let is = (every_tree g.format (nodes_of s) t).one_leaf page p key parts.0 lt parts.1 e in
        fits_in (has_key key (s.page p).node) (ltb (length (s.page p).node.pairs) g.format.room) (length (s.page p).node.pairs == g.format.room)
        (subst (λ q. (has_key key (s.page q).node || ltb (length (s.page q).node.pairs) g.format.room) ≡ true) is parts.2) (below_room (length (s.page p).node.pairs) g.format.room)

-- ## Why there is no room

module _ (g : Opening) (t : State) (key : ℕ) where
  pub tall_is : room_refusal g t key ≡ Some refusal.TooTall → (is_all_full g t key ≡ true) × ((nodes_of t 0).level ≡ g.format.levels)
  tall_is e = go (is_all_full g t key) ((nodes_of t 0).level == g.format.levels) (ltb (length (free_list g t)) (room_takes g t key)) refl refl e
    where
      go : (a b c : Bool) → is_all_full g t key ≡ a → ((nodes_of t 0).level == g.format.levels) ≡ b → cond (a && b) (Some refusal.TooTall) (cond c (Some refusal.NoPages) None) ≡ Some refusal.TooTall → (is_all_full g t key ≡ true) × ((nodes_of t 0).level ≡ g.format.levels)
      go true true c p q e = (p, eqb-true (nodes_of t 0).level g.format.levels q)
      go true false true p q e = absurd (cc)
      go true false false p q e = absurd (cc)
      go false b true p q e = absurd (cc)
      go false b false p q e = absurd (cc)

  pub short_is : room_refusal g t key ≡ Some refusal.NoPages → length (free_list g t) < room_takes g t key
  short_is e = go (is_all_full g t key && ((nodes_of t 0).level == g.format.levels)) (ltb (length (free_list g t)) (room_takes g t key)) refl e
    where
      go : (a c : Bool) → ltb (length (free_list g t)) (room_takes g t key) ≡ c → cond a (Some refusal.TooTall) (cond c (Some refusal.NoPages) None) ≡ Some refusal.NoPages → length (free_list g t) < room_takes g t key
      go false true q e = ltb-true (length (free_list g t)) (room_takes g t key) q
      go false false q e = absurd (cc)
      go true c q e = absurd (cc)

  -- it is one of these
  pub room_kind : (q : Refusal) → room_refusal g t key ≡ Some q → (q ≡ refusal.TooTall) ⊎ (q ≡ refusal.NoPages)
  room_kind q e = go (is_all_full g t key && ((nodes_of t 0).level == g.format.levels)) (ltb (length (free_list g t)) (room_takes g t key)) e
    where
      go : (a c : Bool) → cond a (Some refusal.TooTall) (cond c (Some refusal.NoPages) None) ≡ Some q → (q ≡ refusal.TooTall) ⊎ (q ≡ refusal.NoPages)
      go true c e = inl (cc)
      go false true e = inr (cc)
      go false false e = absurd (cc)

-- ## A row that is held

-- a worker holds it alone, and has met what it tells
pub record IsTaken (own i : ℕ) (t : State) : Type 0 where
  pub held : is_held_by (t.row i).holder own ≡ true
  pub number : (t.row i).number ≤ (t.worker own).clock
  pub read_end : (t.row i).read_end ≤ (t.worker own).clock

-- what the taking of it makes of a row
record Locked (own : ℕ) (o l : Row) : Type 0 where
  held : is_held_by l.holder own ≡ true
  number : l.number ≡ o.number
  read_end : l.read_end ≡ o.read_end

locked_alone : (own : ℕ) (o : Row) → Locked own o (locked o own happening.Mode.Alone)
locked_alone own o = go (is_held_by o.holder own) refl
  where
    go : (b : Bool) → is_held_by o.holder own ≡ b → Locked own o (cond b o (record o { holder = Some own; readers = [] }))
    go true e = record { held = e; number = refl; read_end = refl }
    go false e = record { held = eq-eqb own own refl; number = refl; read_end = refl }

-- so it is behind the lock
pub taken_alone : (g : Opening) (s : State) (own i : ℕ) → IsTaken own i (happens g s (happening.Event.Lock own i happening.Mode.Alone))
taken_alone g s own i =
    let row = upd_same s.row i (locked (s.row i) own happening.Mode.Alone) i refl in
    let clock = ap (λ (a : Worker). a.clock) (upd_same s.worker own (at_row own (s.worker own) (s.row i)) own refl) in
    let l = locked_alone own (s.row i) in
    let number = ap (λ (o : Row). o.number) row in
    let read_end = ap (λ (o : Row). o.read_end) row in
    let same_number = l.number in
    let same_end = l.read_end in
    record { held = ap (λ (o : Row). is_held_by o.holder own) row ∙ l.held; number = omega arith; read_end = omega arith }

-- what the making of room leaves
record Stays (own : ℕ) (s t : State) : Type 0 where
  row : t.row ≡ s.row
  clock : (s.worker own).clock ≤ (t.worker own).clock

stays_same : (own : ℕ) (s t : State) → t.row ≡ s.row → t.worker ≡ s.worker → Stays own s t
stays_same own s t row worker = record { row = row; clock = let e = ap (λ (f : ℕ → Worker). (f own).clock) worker in omega arith }

moves_stay : (s : State) (kind : Kind) (w : ℕ) (ps : List ℕ) (made : records.Record) (own : ℕ) → Stays own s (moves s kind w ps made)
moves_stay s kind w ps made own = record {
  row = refl;
  clock = at_upd (λ j (a : Worker). (s.worker j).clock ≤ a.clock) s.worker w (record (at_pages s w (s.worker w) ps) { clock = suc (at_pages s w (s.worker w) ps).clock; changes = (at_pages s w (s.worker w) ps).changes }) own
      (let q = clock_met s w (s.worker w) ps in omega arith) (λ _. omega arith);
}

one_stays : (g : Opening) (own : ℕ) (s : State) (e : Event) → is_making own e ≡ true → Stays own s (happens g s (event_of e))
one_stays g own s (told.Purge w p keys) k = moves_stay s Kind.Purge w (p ∷ []) (purge_record (gsns_of s) p keys) own
one_stays g own s (told.Split w l r q i) k = moves_stay s Kind.Split w (l ∷ r ∷ q ∷ []) (split_record (nodes_of s) (gsns_of s) l r q i) own
one_stays g own s (told.Lift w c) k = moves_stay s Kind.Lift w (0 ∷ c ∷ []) (lift_record (nodes_of s) (gsns_of s) c) own
one_stays g own s (told.Sync n) k = record { row = refl; clock = omega arith }
one_stays g own s (told.Flush w n) k = stays_same own s _ refl refl
one_stays g own s (told.Fetch p pairs) k = stays_same own s _ refl refl
one_stays g own s (told.Load p f) k = stays_same own s _ refl refl
one_stays g own s (told.Cool p) k = stays_same own s _ refl refl
one_stays g own s (told.Rescue p) k = stays_same own s _ refl refl
one_stays g own s (told.Save p) k = stays_same own s _ refl refl
one_stays g own s (told.Evict p) k = stays_same own s _ refl refl
one_stays g own s told.Tick k = stays_same own s _ refl refl
one_stays g own s (told.Miss w) k = stays_same own s s refl refl
one_stays g own s _ k = absurd (true≢false (sym k))

-- it is taken still
pub taken_stays : (g : Opening) (own i : ℕ) (s : State) (es : List Event) → AreMaking own es → IsTaken own i s → IsTaken own i (core.run g s (events_of es))
taken_stays g own i s [] a t = t
taken_stays g own i s (e ∷ es) a t = taken_stays g own i (core.step g s (event_of e)) es parts.1 one
  where
    parts : (is_making own e ≡ true) × (all (is_making own) es ≡ true)
    parts = and_parts (is_making own e) (all (is_making own) es) a

    stepped : (b : Bool) → Stays own s (cond b (happens g s (event_of e)) s)
    stepped true = one_stays g own s e parts.0
    stepped false = stays_same own s s refl refl

    k : Stays own s (core.step g s (event_of e))
    k = stepped (may g s (event_of e))

    one : IsTaken own i (core.step g s (event_of e))
    one =
        let row = ap (λ (f : ℕ → Row). f i) k.row in
        let number = ap (λ (o : Row). o.number) row in
        let read_end = ap (λ (o : Row). o.read_end) row in
        let low = t.number in
        let ends = t.read_end in
        let rises = k.clock in
        record { held = ap (λ (o : Row). is_held_by o.holder own) row ∙ t.held; number = omega arith; read_end = omega arith }

-- where its worker's clock is below its end it refuses nothing
pub taken_passes : (g : Opening) (s : State) (own key : ℕ) (later : Option Refusal) → IsTaken own (g.row_of key) s → (s.worker own).clock < 2 ^ 62 → lock_refusal g s own key happening.Mode.Alone (met_refusal g s own key later) ≡ later
taken_passes g s own key later t low =
    let clock : (at_row own (s.worker own) (s.row (g.row_of key))).clock < 2 ^ 62 = (let n = t.number in let r = t.read_end in omega arith) in
    lock_free g s own key happening.Mode.Alone (ap (λ b. b || (is_free (s.row (g.row_of key)).holder && not (any (λ v. not (v == own)) (s.row (g.row_of key)).readers))) t.held) (met_refusal g s own key later)
    ∙ ap (λ b. cond b (Some refusal.ClockSpent) later) (lt-leb (2 ^ 62) (at_row own (s.worker own) (s.row (g.row_of key))).clock clock)
