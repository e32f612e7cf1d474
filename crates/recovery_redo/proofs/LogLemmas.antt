-- The records of logs, of which the code has the oldest first and the model the newest.
use Rattle.std.proofs.Common.{◌≡◌, ◌<◌, ◌≤◌, ℕ, zero, suc, List, [], ◌∷◌, ◌++◌, length, get_or, take, drop, map, reverse, refl, sym, ◌∙◌, ap, inl, inr, arith, subst}
use Rattle.std.proofs.Math.Seq.{take-suc, take-length}
use Rattle.std.proofs.lemmas.List.{reverse-append, map-append}
use Rattle.map_model.specs.Lists.{Has}
use Rattle.map_model.proofs.ListLemmas.{has_cases, has_right}
use Rattle.disk_image.specs.image_model.Entries.{Entry}
use Rattle.disk_image.specs.log_record.declared.record.Body.TheVariants.{Commit}
use Rattle.log_index.specs.Items.{Item}
use Rattle.recovery_scan.specs.Records.{entry_of, entries_of}
use Rattle.recovery_scan.specs.Scans.{AreOfLogs}

-- what stands behind the end of a list of records
abbrev pub nothing : Item
nothing = record { log = 0; place = 0; said = record { txn = 0; gsn = 0; body = Commit 0 } }

-- what stands behind stays there
entries_append : (xs ys : List Item) → entries_of (xs ++ ys) ≡ entries_of ys ++ entries_of xs
entries_append xs ys = ap (map entry_of) (reverse-append xs ys) ∙ map-append entry_of (reverse ys) (reverse xs)

-- one record more
pub entries_more : (items : List Item) (k : ℕ) (d : Item) → k < length items → entries_of (take (suc k) items) ≡ entry_of (get_or items k d) ∷ entries_of (take k items)
entries_more items k d l = ap entries_of (take-suc items k d l) ∙ entries_append (take k items) (get_or items k d ∷ [])

pub entries_at : (items : List Item) (k j : ℕ) (x d : Item) → j ≡ suc k → k < length items → x ≡ get_or items k d → entries_of (take j items) ≡ entry_of x ∷ entries_of (take k items)
entries_at items k j x d e l is =
    ap (λ n. entries_of (take n items)) e ∙ entries_more items k d l
    ∙ ap (λ (y : Item). entry_of y ∷ entries_of (take k items)) (sym is)

pub entries_all : (items : List Item) → entries_of (take (length items) items) ≡ entries_of items
entries_all items = ap entries_of (take-length items)

-- a record with those behind it
pub entries_split : (items : List Item) (k : ℕ) (x : Item) → k < length items → x ≡ get_or items k x → (newer : List Entry) × (entries_of items ≡ newer ++ entry_of x ∷ entries_of (take k items))
entries_split items k x l is = (
  entries_of (drop (suc k) items),
  ap entries_of (sym (split items k x l is))
      ∙ (ap entries_of (sym (Rattle.std.proofs.Common.append_assoc (take k items) (x ∷ []) (drop (suc k) items)))
      ∙ (entries_append (take k items ++ x ∷ []) (drop (suc k) items)
      ∙ ap (λ (z : List Entry). entries_of (drop (suc k) items) ++ z) (entries_append (take k items) (x ∷ [])))),
)
  where
    split : (xs : List Item) (i : ℕ) (y : Item) → i < length xs → y ≡ get_or xs i y → take i xs ++ y ∷ drop (suc i) xs ≡ xs
    split [] i y h e = absurd (omega arith)
    split (z ∷ zs) zero y h e = ap (λ (w : Item). w ∷ zs) e
    split (z ∷ zs) (suc i) y h e = ap (λ (ws : List Item). z ∷ ws) (split zs i y (omega arith) e)

-- ## What stands in a list

pub has_at : {A : Type 0} (xs : List A) (k : ℕ) (x : A) → k < length xs → x ≡ get_or xs k x → Has x xs
has_at [] k x l e = absurd (omega arith)
has_at (y ∷ ys) zero x l e = inl e
has_at (y ∷ ys) (suc k) x l e = inr (has_at ys k x (omega arith) e)

-- a record of one of the logs
pub log_at : (logs : ℕ) (items : List Item) → AreOfLogs logs items → (k : ℕ) (x : Item) → k < length items → x ≡ get_or items k x → (0 < x.log) × (x.log ≤ logs)
log_at logs items all k x l e = all x (has_at items k x l e)

-- an entry is that of a record
pub record At (items : List Item) (r : Entry) : Type 0 where
  pub k : ℕ
  pub x : Item
  pub within : k < length items
  pub is : x ≡ get_or items k x
  pub made : r ≡ entry_of x

entry_from : (items : List Item) (r : Entry) → Has r (entries_of items) → At items r
entry_from [] r h = absurd h
entry_from (y ∷ ys) r h = elim (has_cases r (entries_of ys) (entry_of y ∷ []) (subst (λ (z : List Entry). Has r z) (entries_append (y ∷ []) ys) h)) [
  | inl i ↦ let a = entry_from ys r i in record { k = suc a.k; x = a.x; within = (let w = a.within in omega arith); is = a.is; made = a.made }
  | inr i ↦ elim i [
    | inl e ↦ record { k = 0; x = y; within = omega arith; is = refl; made = e }
    | inr g ↦ absurd g
  ]
]

pub entry_at : (items : List Item) (r : Entry) → Has r (entries_of items) → At items r
entry_at items r h = entry_from items r h

pub has_entry_of : (items : List Item) (k : ℕ) (x : Item) → k < length items → x ≡ get_or items k x → Has (entry_of x) (entries_of items)
has_entry_of items k x l e = let s = entries_split items k x l e in subst (λ (z : List Entry). Has (entry_of x) z) (sym s.1) (has_right (entry_of x) s.0 (entry_of x ∷ entries_of (take k items)) (inl refl))
