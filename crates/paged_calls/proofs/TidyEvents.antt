-- Events by which a del tidies: they are no steps of its session, and what it may have done where its disk fails.
use Rattle.std.proofs.Common.{◌≡◌, ◌==◌, ◌||◌, ℕ, Bool, true, false, List, [], ◌∷◌, refl, sym, true≢false}
use Rattle.std.proofs.lemmas.Bool.{and_from, and_parts}
use Rattle.map_model.specs.Lists.{all, any}
use Rattle.paged_desks.specs.core_calls.Steps.{is_step}
use Rattle.paged_desks.specs.core_state.Events as happening
use Rattle.paged_desks.specs.row_words.declared.event.Event.{Event}
use Rattle.paged_desks.specs.row_words.declared.event.Event.TheVariants as told
use Rattle.paged_desks.specs.row_words.Moments.{event_of, events_of}
use Rattle.paged_desks.specs.call_parts.Rooms.{AreRoom, changes_tree, is_paging as pages_come, takes_row}
use Rattle.paged_desks.specs.Pages.{ArePaging, is_paging}
use Rattle.paged_calls.specs.Tidyings.{is_tidying}
use Rattle.paged_calls.proofs.TidyRules.{is_write}

neither : (p q : Bool) → p ≡ false → q ≡ false → (p || q) ≡ false
neither true q x y = x
neither false q x y = y

or_left : (a b : Bool) → a ≡ true → (a || b) ≡ true
or_left true b e = refl
or_left false b e = absurd (true≢false (sym e))

-- ## One

record Tidying (own row : ℕ) (e : Event) : Type 0 where
  step : is_step (event_of e) ≡ false
  room : (takes_row own row happening.Mode.Alone (event_of e) || (changes_tree own (event_of e) || pages_come (event_of e))) ≡ true

tidying_one : (own row : ℕ) (e : Event) → is_tidying own e ≡ true → Tidying own row e
tidying_one own row (told.Purge w p keys) k = record { step = refl; room = or_left (w == own) false k }
tidying_one own row (told.Join w l r q) k = record { step = refl; room = or_left (w == own) false k }
tidying_one own row (told.Drop w c) k = record { step = refl; room = or_left (w == own) false k }
tidying_one own row (told.Flush w n) k = record { step = refl; room = refl }
tidying_one own row (told.Sync n) k = record { step = refl; room = refl }
tidying_one own row (told.Fetch p pairs) k = record { step = refl; room = refl }
tidying_one own row (told.Load p f) k = record { step = refl; room = refl }
tidying_one own row (told.Cool p) k = record { step = refl; room = refl }
tidying_one own row (told.Rescue p) k = record { step = refl; room = refl }
tidying_one own row (told.Save p) k = record { step = refl; room = refl }
tidying_one own row (told.Evict p) k = record { step = refl; room = refl }
tidying_one own row told.Tick k = record { step = refl; room = refl }
tidying_one own row (told.Miss w) k = record { step = refl; room = refl }
tidying_one own row _ k = absurd (true≢false (sym k))

-- ## All of them

pub tidying_steps : (own : ℕ) (es : List Event) → all (is_tidying own) es ≡ true → any is_step (events_of es) ≡ false
tidying_steps own [] k = refl
tidying_steps own (e ∷ es) k = let a = and_parts (is_tidying own e) (all (is_tidying own) es) k in neither (is_step (event_of e)) (any is_step (events_of es)) (tidying_one own 0 e a.0).step (tidying_steps own es a.1)

pub tidying_room : (own row : ℕ) (es : List Event) → all (is_tidying own) es ≡ true → AreRoom own row happening.Mode.Alone (events_of es)
tidying_room own row [] k = refl
tidying_room own row (e ∷ es) k =
    let a = and_parts (is_tidying own e) (all (is_tidying own) es) k in
    and_from (takes_row own row happening.Mode.Alone (event_of e) || (changes_tree own (event_of e) || pages_come (event_of e))) (all (λ x. takes_row own row happening.Mode.Alone x || (changes_tree own x || pages_come x)) (events_of es)) (tidying_one own row e a.0).room (tidying_room own row es a.1)

-- ## Pages that come

paging_one : (own : ℕ) (e : Event) → is_paging e ≡ true → is_tidying own e ≡ true
paging_one own (told.Purge w p keys) k = absurd (true≢false (sym k))
paging_one own (told.Join w l r q) k = absurd (true≢false (sym k))
paging_one own (told.Drop w c) k = absurd (true≢false (sym k))
paging_one own _ k = k

pub tidying_paging : (own : ℕ) (es : List Event) → ArePaging es → all (is_tidying own) es ≡ true
tidying_paging own [] k = refl
tidying_paging own (e ∷ es) k = and_from (is_tidying own e) (all (is_tidying own) es) (paging_one own e k.0) (tidying_paging own es k.1)

-- they change no value
come_one : (e : happening.Event) → pages_come e ≡ true → is_write e ≡ false
come_one (happening.Event.Change w p k v) c = absurd (true≢false (sym c))
come_one _ c = refl

pub come_writes : (es : List happening.Event) → all pages_come es ≡ true → any is_write es ≡ false
come_writes [] k = refl
come_writes (e ∷ es) k = let a = and_parts (pages_come e) (all pages_come es) k in neither (is_write e) (any is_write es) (come_one e a.0) (come_writes es a.1)

write_one : (e : Event) → is_paging e ≡ true → is_write (event_of e) ≡ false
write_one (told.Flush w n) k = refl
write_one (told.Sync n) k = refl
write_one (told.Fetch p pairs) k = refl
write_one (told.Load p f) k = refl
write_one (told.Cool p) k = refl
write_one (told.Rescue p) k = refl
write_one (told.Save p) k = refl
write_one (told.Evict p) k = refl
write_one told.Tick k = refl
write_one (told.Miss w) k = refl
write_one _ k = absurd (true≢false (sym k))

pub paging_writes : (es : List Event) → ArePaging es → any is_write (events_of es) ≡ false
paging_writes [] k = refl
paging_writes (e ∷ es) k = neither (is_write (event_of e)) (any is_write (events_of es)) (write_one e k.0) (paging_writes es k.1)
