-- Events of an abort before its end.
use Rattle.std.proofs.Common.{◌≡◌, ◌∙◌, ◌==◌, ◌||◌, ◌++◌, ℕ, suc, Bool, true, false, List, [], ◌∷◌, length, ap, refl, sym, eq-eqb, true≢false}
use Rattle.std.proofs.lemmas.Bool.{and_from, and_parts}
use Rattle.map_model.specs.Lists.{all, any}
use Rattle.paged_desks.specs.core_state.Events as happening
use Rattle.paged_desks.specs.row_words.declared.event.Event.{Event}
use Rattle.paged_desks.specs.row_words.declared.event.Event.TheVariants as told
use Rattle.paged_desks.specs.row_words.Moments.{event_of, events_of}
use Rattle.paged_desks.specs.call_parts.Rooms.{AreBacks, is_paging as pages_come, puts_back}
use Rattle.paged_desks.specs.call_parts.Rooms as rooms
use Rattle.paged_desks.specs.Pages.{ArePaging, is_paging}
use Rattle.paged_aborts.specs.Backs.{is_back}

pub length_events : (es : List Event) → length (events_of es) ≡ length es
length_events [] = refl
length_events (e ∷ es) = ap suc (length_events es)

or_right : (a b : Bool) → b ≡ true → (a || b) ≡ true
or_right true b e = refl
or_right false b e = e

or_left : (a b : Bool) → a ≡ true → (a || b) ≡ true
or_left true b e = refl
or_left false b e = absurd (true≢false (sym e))

-- ## Pages come

paging_one : (e : Event) → is_paging e ≡ true → pages_come (event_of e) ≡ true
paging_one (told.Fetch p pairs) k = refl
paging_one (told.Load p f) k = refl
paging_one (told.Cool p) k = refl
paging_one (told.Rescue p) k = refl
paging_one (told.Save p) k = refl
paging_one (told.Evict p) k = refl
paging_one told.Tick k = refl
paging_one (told.Miss w) k = refl
paging_one (told.Flush w n) k = refl
paging_one (told.Sync n) k = refl
paging_one _ k = absurd (true≢false (sym k))

paging_core : (es : List Event) → ArePaging es → rooms.ArePaging (events_of es)
paging_core [] k = refl
paging_core (e ∷ es) k = and_from (pages_come (event_of e)) (all pages_come (events_of es)) (paging_one e k.0) (paging_core es k.1)

abbrev pub allowed : ℕ → happening.Event → Bool
allowed own e = puts_back own e || pages_come e

-- an abort may do that
pub paging_backs : (own : ℕ) (es : List happening.Event) → rooms.ArePaging es → AreBacks own es
paging_backs own [] k = refl
paging_backs own (e ∷ es) k = let p = and_parts (pages_come e) (all pages_come es) k in and_from (allowed own e) (all (allowed own) es) (or_right (puts_back own e) (pages_come e) p.0) (paging_backs own es p.1)

pub come_backs : (own : ℕ) (es : List Event) → ArePaging es → AreBacks own (events_of es)
come_backs own es k = paging_backs own (events_of es) (paging_core es k)

-- none is put back then
no_back : (e : Event) → is_paging e ≡ true → is_back e ≡ false
no_back (told.PutBack w p) k = absurd (true≢false (sym k))
no_back _ k = refl

pub come_back : (es : List Event) → ArePaging es → any is_back es ≡ false
come_back [] k = refl
come_back (e ∷ es) k = neither (is_back e) (any is_back es) (no_back e k.0) (come_back es k.1)
  where
    neither : (p q : Bool) → p ≡ false → q ≡ false → (p || q) ≡ false
    neither true q x y = x
    neither false q x y = y

-- ## A change is put back

pub one_back : (own page : ℕ) → AreBacks own (happening.Event.Put_back own page ∷ [])
one_back own page = and_from (allowed own (happening.Event.Put_back own page)) true (or_left (own == own) (pages_come (happening.Event.Put_back own page)) (eq-eqb own own refl)) refl

-- ## One behind another

pub backs_join : (own : ℕ) (a b : List happening.Event) → AreBacks own a → AreBacks own b → AreBacks own (a ++ b)
backs_join own [] b p q = q
backs_join own (e ∷ a) b p q = let x = and_parts (allowed own e) (all (allowed own) a) p in and_from (allowed own e) (all (allowed own) (a ++ b)) x.0 (backs_join own a b x.1 q)

pub back_join : (a b : List Event) → any is_back (a ++ b) ≡ (any is_back a || any is_back b)
back_join [] b = refl
back_join (e ∷ a) b = ap (λ k. is_back e || k) (back_join a b) ∙ or_shift (is_back e) (any is_back a) (any is_back b)
  where
    or_shift : (p q r : Bool) → (p || (q || r)) ≡ ((p || q) || r)
    or_shift true q r = refl
    or_shift false q r = refl

-- the half that is done then
pub half_join : (p q r : Bool) → (q || (p || r)) ≡ ((p || q) || r)
half_join true true r = refl
half_join true false r = refl
half_join false true r = refl
half_join false false r = refl
