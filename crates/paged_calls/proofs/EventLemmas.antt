-- Events by which pages come, among those of a call.
use Rattle.std.proofs.Common.{◌≡◌, ◌==◌, ◌||◌, ℕ, suc, Bool, true, false, List, [], ◌∷◌, length, ap, refl, sym, eq-eqb, true≢false}
use Rattle.std.proofs.lemmas.Bool.{and_from, and_parts}
use Rattle.map_model.specs.Lists.{all, any}
use Rattle.paged_desks.specs.core_calls.Steps.{is_step, is_structure}
use Rattle.paged_desks.specs.core_state.Events as happening
use Rattle.paged_desks.specs.row_words.declared.event.Event.{Event}
use Rattle.paged_desks.specs.row_words.declared.event.Event.TheVariants as told
use Rattle.paged_desks.specs.row_words.Moments.{event_of, events_of}
use Rattle.paged_desks.specs.call_parts.Rooms.{AreRoom, changes_tree, is_paging as pages_come, takes_row}
use Rattle.paged_desks.specs.Pages.{ArePaging, is_paging}

pub length_events : (es : List Event) → length (events_of es) ≡ length es
length_events [] = refl
length_events (e ∷ es) = ap suc (length_events es)

-- ## As they are seen

-- it is no step of a session, and leaves the tree as it is
step_one : (e : Event) → is_paging e ≡ true → (is_step (event_of e) ≡ false) × (is_structure (event_of e) ≡ false)
step_one (told.Flush w n) k = (refl, refl)
step_one (told.Sync n) k = (refl, refl)
step_one (told.Fetch p pairs) k = (refl, refl)
step_one (told.Load p f) k = (refl, refl)
step_one (told.Cool p) k = (refl, refl)
step_one (told.Rescue p) k = (refl, refl)
step_one (told.Save p) k = (refl, refl)
step_one (told.Evict p) k = (refl, refl)
step_one told.Tick k = (refl, refl)
step_one (told.Miss w) k = (refl, refl)
step_one _ k = absurd (true≢false (sym k))

neither : (p q : Bool) → p ≡ false → q ≡ false → (p || q) ≡ false
neither true q x y = x
neither false q x y = y

pub paging_steps : (es : List Event) → ArePaging es → any is_step (events_of es) ≡ false
paging_steps [] k = refl
paging_steps (e ∷ es) k = neither (is_step (event_of e)) (any is_step (events_of es)) (step_one e k.0).0 (paging_steps es k.1)

pub paging_structure : (es : List Event) → ArePaging es → any is_structure (events_of es) ≡ false
paging_structure [] k = refl
paging_structure (e ∷ es) k = neither (is_structure (event_of e)) (any is_structure (events_of es)) (step_one e k.0).1 (paging_structure es k.1)

-- ## Where a device failed

or_right : (a b : Bool) → b ≡ true → (a || b) ≡ true
or_right true b e = refl
or_right false b e = e

or_left : (a b : Bool) → a ≡ true → (a || b) ≡ true
or_left true b e = refl
or_left false b e = absurd (true≢false (sym e))

paging_room : (own row : ℕ) (mode : happening.Mode) (e : happening.Event) → pages_come e ≡ true → (takes_row own row mode e || (changes_tree own e || pages_come e)) ≡ true
paging_room own row mode e k = or_right (takes_row own row mode e) (changes_tree own e || pages_come e) (or_right (changes_tree own e) (pages_come e) k)

no_structure : (e : happening.Event) → pages_come e ≡ true → is_structure e ≡ false
no_structure (happening.Event.Split w l r q i) k = absurd (true≢false (sym k))
no_structure (happening.Event.Lift w c) k = absurd (true≢false (sym k))
no_structure (happening.Event.Join w l r q) k = absurd (true≢false (sym k))
no_structure (happening.Event.Drop w c) k = absurd (true≢false (sym k))
no_structure (happening.Event.Purge w p keys) k = absurd (true≢false (sym k))
no_structure _ k = refl

-- they make room, as far as that goes
pub room_of : (own row : ℕ) (mode : happening.Mode) (es : List happening.Event) → all pages_come es ≡ true → AreRoom own row mode es
room_of own row mode [] k = refl
room_of own row mode (e ∷ es) k =
    let p = and_parts (pages_come e) (all pages_come es) k in
    and_from (takes_row own row mode e || (changes_tree own e || pages_come e)) (all (λ x. takes_row own row mode x || (changes_tree own x || pages_come x)) es) (paging_room own row mode e p.0) (room_of own row mode es p.1)

pub structure_of : (es : List happening.Event) → all pages_come es ≡ true → any is_structure es ≡ false
structure_of [] k = refl
structure_of (e ∷ es) k = let p = and_parts (pages_come e) (all pages_come es) k in neither (is_structure e) (any is_structure es) (no_structure e p.0) (structure_of es p.1)

-- behind the lock of the row
pub locked_room : (own row : ℕ) (mode : happening.Mode) (es : List happening.Event) → AreRoom own row mode es → AreRoom own row mode (happening.Event.Lock own row mode ∷ es)
locked_room own row mode es k =
    and_from (takes_row own row mode (happening.Event.Lock own row mode) || false) (all (λ x. takes_row own row mode x || (changes_tree own x || pages_come x)) es) (or_left (takes_row own row mode (happening.Event.Lock own row mode)) false (takes mode)) k
  where
    takes : (q : happening.Mode) → takes_row own row q (happening.Event.Lock own row q) ≡ true
    takes happening.Mode.Shared = and_from (own == own) (row == row) (eq-eqb own own refl) (eq-eqb row row refl)
    takes happening.Mode.Alone = and_from (own == own) (row == row) (eq-eqb own own refl) (eq-eqb row row refl)
