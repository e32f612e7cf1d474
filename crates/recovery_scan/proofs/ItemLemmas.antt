-- Items in turn, and the newest-first list for which they stand.
use Rattle.std.proofs.Common.{◌≡◌, ◌⊎◌, inl, inr, ◌≤◌, ◌++◌, ℕ, List, [], ◌∷◌, length, map, reverse, drop, refl, sym, ◌∙◌, ap, subst}
use mathlib.Core.List.{reverse_aux}
use Rattle.std.proofs.lemmas.List.{append-nil, append_assoc, map-append, reverse-append, reverse-reverse, drop-append-le, drop_at}
use Rattle.map_model.specs.Lists.{Has}
use Rattle.disk_image.specs.image_model.Entries.{Entry}
use Rattle.disk_image.specs.log_record.declared.record.Record.{Record}
use Rattle.disk_image.specs.Runs.{Logged, records_onto, entries_in}
use Rattle.log_index.specs.Items.{Item, item_of, items_of}
use Rattle.log_index.proofs.OrderLemmas.{has_reverse}
use Rattle.recovery_scan.specs.Records.{entry_of, logged_of, entries_of}
use Rattle.recovery_scan.specs.Inside.{logged}

-- ## What stands in a list

pub has_middle : {A : Type 0} (xs : List A) (y : A) (ys : List A) → Has y (xs ++ y ∷ ys)
has_middle [] y ys = inl refl
has_middle (x ∷ xs) y ys = inr (has_middle xs y ys)

pub has_either : {A : Type 0} (xs ys : List A) (z : A) → Has z (xs ++ ys) → Has z xs ⊎ Has z ys
has_either [] ys z h = inr h
has_either (x ∷ xs) ys z (inl e) = inl (inl e)
has_either (x ∷ xs) ys z (inr h) = elim (has_either xs ys z h) [ inl m ↦ inl (inr m) | inr m ↦ inr m ]

pub has_back : {A : Type 0} (xs : List A) (z : A) → Has z xs → Has z (reverse xs)
has_back xs z h = has_reverse (reverse xs) z (subst (Has z) (sym (reverse-reverse xs)) h)

pub has_map : {A B : Type 0} (f : A → B) (xs : List A) (z : A) → Has z xs → Has (f z) (map f xs)
has_map f [] z h = absurd h
has_map f (x ∷ xs) z (inl e) = inl (ap f e)
has_map f (x ∷ xs) z (inr h) = inr (has_map f xs z h)

pub has_items : (w place : ℕ) (rs : List Record) (x : Item) → Has x (items_of w place rs) → (x.log ≡ w) × (x.place ≡ place)
has_items w place [] x h = absurd h
has_items w place (r ∷ rs) x (inl e) = (ap (λ (y : Item). y.log) e, ap (λ (y : Item). y.place) e)
has_items w place (r ∷ rs) x (inr h) = has_items w place rs x h

-- what is left of a list behind the shorter of two beginnings
pub cut : {A : Type 0} (xs ys us vs : List A) → xs ++ ys ≡ us ++ vs → length xs ≤ length us → ys ≡ drop (length xs) us ++ vs
cut xs ys us vs e le = sym (drop_at xs ys (length xs) refl) ∙ (ap (drop (length xs)) e ∙ drop-append-le (length xs) us vs le)

-- ## The newest first

back_append : {A : Type 0} (xs ys zs : List A) → reverse_aux (xs ++ ys) zs ≡ reverse_aux ys (reverse_aux xs zs)
back_append [] ys zs = refl
back_append (x ∷ xs) ys zs = back_append xs ys (x ∷ zs)

back_onto : {A : Type 0} (xs ys zs : List A) → reverse_aux xs (ys ++ zs) ≡ reverse_aux xs ys ++ zs
back_onto [] ys zs = refl
back_onto (x ∷ xs) ys zs = back_onto xs (x ∷ ys) zs

-- those behind an item stand before it
pub logged_at : (xs : List Item) (y : Item) (ys : List Item) → logged (xs ++ y ∷ ys) ≡ logged ys ++ logged_of y ∷ logged xs
logged_at xs y ys =
    ap (map logged_of) (back_append xs (y ∷ ys) [] ∙ back_onto ys [] (y ∷ reverse_aux xs []))
    ∙ map-append logged_of (reverse ys) (y ∷ reverse xs)

pub logged_last : (xs : List Item) (y : Item) → logged (xs ++ y ∷ []) ≡ logged_of y ∷ logged xs
logged_last xs y = logged_at xs y []

pub logged_block : (w place : ℕ) (xs : List Item) (rs : List Record) → logged (xs ++ items_of w place rs) ≡ records_onto w place (logged xs) rs
logged_block w place xs [] = ap logged (append-nil xs)
logged_block w place xs (r ∷ rs) =
    let x : Item = item_of w place r in
    ap logged (sym (append_assoc xs (x ∷ []) (items_of w place rs)))
    ∙ (logged_block w place (xs ++ x ∷ []) rs ∙ ap (λ (l : List Logged). records_onto w place l rs) (logged_last xs x))

entries_logged : (xs : List Item) → entries_in (map logged_of xs) ≡ map entry_of xs
entries_logged [] = refl
entries_logged (x ∷ xs) = ap (λ (l : List Entry). entry_of x ∷ l) (entries_logged xs)

pub entries_joined : (old added : List Item) → entries_of (old ++ added) ≡ entries_in (logged added) ++ entries_of old
entries_joined old added =
    ap (map entry_of) (reverse-append old added)
    ∙ (map-append entry_of (reverse added) (reverse old) ∙ ap (λ (l : List Entry). l ++ entries_of old) (sym (entries_logged (reverse added))))
