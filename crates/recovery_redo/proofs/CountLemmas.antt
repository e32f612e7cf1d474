-- Records no two of which have one number and one log: which of them counted.
use Rattle.std.proofs.Common.{◌≡◌, ◌<◌, ◌≤◌, ◌⊎◌, ◌^◌, ℕ, zero, suc, Bool, true, false, cond, ◌&&◌, ◌||◌, not, leb, List, [], ◌∷◌, ◌++◌, length, get_or, take, refl, sym, ◌∙◌, ap, subst, inl, inr, arith}
use Rattle.std.proofs.lemmas.Bool.{cases_eq, eq-eqb, ne_eqb, and_parts, leb-true}
use Rattle.map_model.specs.Lists.{Has, upd, insert_by, in_order}
use Rattle.map_model.proofs.ListLemmas.{has_cases, has_right, insert_has, order_has}
use Rattle.page_model.specs.Page.{Page}
use Rattle.page_model.specs.Nodes.{Format}
use Rattle.disk_image.specs.image_model.Entries as model
use Rattle.disk_image.specs.image_model.Entries.{Entry, earlier}
use Rattle.disk_image.specs.image_model.Redo.{mark, redo, stands, names_pages, can_change, passes, all_pass}
use Rattle.disk_image.specs.image_model.Images.{IsFalling, gathered}
use Rattle.disk_image.specs.Formats.{format_of}
use Rattle.disk_image.specs.Records as records
use Rattle.disk_image.specs.log_record.declared.record.Body.{Body}
use Rattle.disk_image.specs.log_record.declared.record.Body.TheVariants as body
use Rattle.log_index.specs.Items.{Item}
use Rattle.record_redo.specs.Pages.{pages_of}
use Rattle.recovery_scan.specs.Records.{entry_of, entries_of}
use Rattle.recovery_redo.specs.Inside.{AreWords, IsRedone}
use Rattle.recovery_redo.proofs.LogLemmas.{entries_split, entries_all}

-- ## One number and one log

abbrev pub IsSame : Entry → Entry → Type 0
IsSame x y = (x.log ≡ y.log) × (x.number ≡ y.number)

-- no two have one number and one log
abbrev pub AreApart : List Entry → Type 0
AreApart [] = Unit {0}
AreApart (r ∷ z) = AreApart z × ((x : Entry) → Has x z → IsSame x r → ⊥)

apart_falling : (z : List Entry) → IsFalling z → AreApart z
apart_falling [] h = tt
apart_falling (r ∷ z) h = (apart_falling z h.0, λ x m s. let l = h.1 x m in let e = s.1 in absurd (omega arith))

apart_append : (a b : List Entry) → AreApart a → AreApart b → ((x y : Entry) → Has x a → Has y b → IsSame y x → ⊥) → AreApart (a ++ b)
apart_append [] b f g h = g
apart_append (r ∷ a) b f g h = (apart_append a b f.0 g (λ x y m n. h x y (inr m) n), λ x m. split x (has_cases x a b m))
  where
    split : (x : Entry) → Has x a ⊎ Has x b → IsSame x r → ⊥
    split x (inl m) = f.1 x m
    split x (inr m) = h r x (inl refl) m

gathered_has : (log : ℕ → List Entry) (n : ℕ) (r : Entry) → Has r (gathered log n) → (w : ℕ) × (0 < w) × (w ≤ n) × Has r (log w)
gathered_has log zero r m = absurd m
gathered_has log (suc n) r m = elim (has_cases r (log (suc n)) (gathered log n) m) [
  | inl h ↦ (suc n, omega arith, omega arith, h)
  | inr h ↦ let q = gathered_has log n r h in (q.0, q.1, (let l = q.2 in omega arith), q.3)
]

pub apart_gathered : (log : ℕ → List Entry) (n : ℕ) → ((w : ℕ) → 0 < w → w ≤ n → IsFalling (log w)) → ((w : ℕ) (r : Entry) → Has r (log w) → r.log ≡ w) → AreApart (gathered log n)
apart_gathered log zero falls own = tt
apart_gathered log (suc n) falls own =
    apart_append (log (suc n)) (gathered log n) (apart_falling (log (suc n)) (falls (suc n) (omega arith) (omega arith)))
    (apart_gathered log n (λ w o l. falls w o (omega arith)) own)
    (λ x y m h s.
    let q = gathered_has log n y h in
    let a = own (suc n) x m in let b = own q.0 y q.3 in let l = q.2 in let e = s.0 in absurd (omega arith))

apart_insert : (x : Entry) (ys : List Entry) → AreApart ys → ((y : Entry) → Has y ys → IsSame y x → ⊥) → AreApart (insert_by earlier x ys)
apart_insert x [] a h = (tt, λ y m. absurd m)
apart_insert x (y ∷ ys) a h = go (earlier x y) (apart_insert x ys a.0 (λ v m. h v (inr m)))
  where
    behind : (v : Entry) → (v ≡ x) ⊎ Has v ys → IsSame v y → ⊥
    behind v (inl e) s = h y (inl refl) (sym s.0 ∙ ap (λ (u : Entry). u.log) e, sym s.1 ∙ ap (λ (u : Entry). u.number) e)
    behind v (inr m) s = a.1 v m s

    go : (b : Bool) → AreApart (insert_by earlier x ys) → AreApart (cond b (y ∷ insert_by earlier x ys) (x ∷ y ∷ ys))
    go true ih = (ih, λ v m. behind v (insert_has earlier x ys v m))
    go false ih = (a, h)

pub apart_order : (z : List Entry) → AreApart z → AreApart (in_order earlier z)
apart_order [] a = tt
apart_order (x ∷ xs) a = apart_insert x (in_order earlier xs) (apart_order xs a.0) (λ y m. a.1 y (order_has earlier xs y m))

newer_apart : (newer : List Entry) (r : Entry) (older : List Entry) → AreApart (newer ++ r ∷ older) → (x : Entry) → Has x newer → IsSame r x → ⊥
newer_apart [] r older h x m s = absurd m
newer_apart (y ∷ ys) r older h x (inl e) s = h.1 r (has_right r ys (r ∷ older) (inl refl)) (s.0 ∙ ap (λ (u : Entry). u.log) e, s.1 ∙ ap (λ (u : Entry). u.number) e)
newer_apart (y ∷ ys) r older h x (inr m) s = newer_apart ys r older h.0 x m s

-- ## Marks

mark_same : (f : ℕ → ℕ → Bool) (i j : ℕ) (b : Bool) → mark f i j b i j ≡ b
mark_same f i j b = ap (λ c. (cond c (upd (f i) j b) (f i)) j) (eq-eqb i i refl) ∙ ap (λ c. cond c b (f i j)) (eq-eqb j j refl)

mark_other : (f : ℕ → ℕ → Bool) (i j : ℕ) (b : Bool) (w n : ℕ) → ((w ≡ i) × (n ≡ j) → ⊥) → mark f i j b w n ≡ f w n
mark_other f i j b w n ne = elim (cases_eq w i) [
  | inl e ↦ ap (λ c. (cond c (upd (f i) j b) (f w)) n) (eq-eqb w i e) ∙ ap (λ c. cond c b (f i n)) (ne_eqb n j (λ q. ne (e, q))) ∙ ap (λ v. f v n) (sym e)
  | inr a ↦ ap (λ c. (cond c (upd (f i) j b) (f w)) n) (ne_eqb w i a)
]

counts_behind : (page : ℕ → model.Contents) (newer : List Entry) (r : Entry) (older : List Entry) → ((x : Entry) → Has x newer → IsSame r x → ⊥) →
    (redo page (newer ++ r ∷ older)).counts r.log r.number ≡ stands (redo page older).page r
counts_behind page [] r older b = mark_same (redo page older).counts r.log r.number (stands (redo page older).page r)
counts_behind page (y ∷ ys) r older b =
    mark_other (redo page (ys ++ r ∷ older)).counts y.log y.number (stands (redo page (ys ++ r ∷ older)).page y) r.log r.number (b y (inl refl))
    ∙ counts_behind page ys r older (λ x m. b x (inr m))

pass_behind : (f : Format) (page : ℕ → model.Contents) (newer : List Entry) (r : Entry) (older : List Entry) → all_pass f page (newer ++ r ∷ older) ≡ true → passes f (redo page older).page r ≡ true
pass_behind f page [] r older h = (and_parts (all_pass f page older) (passes f (redo page older).page r) h).1
pass_behind f page (y ∷ ys) r older h = pass_behind f page ys r older (and_parts (all_pass f page (ys ++ r ∷ older)) (passes f (redo page (ys ++ r ∷ older)).page y) h).0

-- the word before of a write that counts and passes is one of a leaf
said_fits : (before after : ℕ) (named stood can : Bool) → (named && (not (true && stood) || ((leb before (2 ^ 63) && leb after (2 ^ 63)) && can))) ≡ true → stood ≡ true → before ≤ 2 ^ 63
said_fits before after named stood can h s =
    let said : Bool = leb before (2 ^ 63) && leb after (2 ^ 63) in
    let a = (and_parts named (not (true && stood) || (said && can)) h).1 in
    let b : (said && can) ≡ true = sym (ap (λ c. not (true && c) || (said && can)) s) ∙ a in
    leb-true before (2 ^ 63) (and_parts (leb before (2 ^ 63)) (leb after (2 ^ 63)) (and_parts said can b).0).0

word_fits : (n : ℕ) (page : ℕ → model.Contents) (log txn gsn : ℕ) (does : Body) →
    passes (format_of n) page (records.entry_of log (record { txn = txn; gsn = gsn; body = does })) ≡ true → stands page (records.entry_of log (record { txn = txn; gsn = gsn; body = does })) ≡ true → records.before_of does ≤ 2 ^ 63
word_fits n page log txn gsn (body.Change leaf key before after) h s =
    said_fits before after (names_pages (format_of n) (records.entry_of log (record { txn = txn; gsn = gsn; body = body.Change leaf key before after })))
    (stands page (records.entry_of log (record { txn = txn; gsn = gsn; body = body.Change leaf key before after })))
    (can_change (format_of n) page (records.entry_of log (record { txn = txn; gsn = gsn; body = body.Change leaf key before after }))) h s
word_fits n page log txn gsn (body.PutBack leaf key before after) h s =
    said_fits before after (names_pages (format_of n) (records.entry_of log (record { txn = txn; gsn = gsn; body = body.PutBack leaf key before after })))
    (stands page (records.entry_of log (record { txn = txn; gsn = gsn; body = body.PutBack leaf key before after })))
    (can_change (format_of n) page (records.entry_of log (record { txn = txn; gsn = gsn; body = body.PutBack leaf key before after }))) h s
word_fits n page log txn gsn (body.Split left right parent separator high level pairs) h s = omega arith
word_fits n page log txn gsn (body.Lift prev other level pairs) h s = omega arith
word_fits n page log txn gsn (body.Join left right parent separator high pairs) h s = omega arith
word_fits n page log txn gsn (body.DropRoot prev child level pairs) h s = omega arith
word_fits n page log txn gsn (body.Purge leaf keys) h s = omega arith
word_fits n page log txn gsn (body.Commit need) h s = omega arith
word_fits n page log txn gsn (body.Abort need) h s = omega arith

-- ## All records redone

module _ (old mid : List Page) (items : List Item) (counted : List Bool) (all : IsRedone old mid items counted (length items)) where
  pub redone_pages : pages_of mid ≡ (redo (pages_of old) (entries_of items)).page
  redone_pages = all.pages ∙ ap (λ (y : List Entry). (redo (pages_of old) y).page) (entries_all items)

  pub redone_pass : all_pass (format_of (length old)) (pages_of old) (entries_of items) ≡ true
  redone_pass = sym (ap (all_pass (format_of (length old)) (pages_of old)) (entries_all items)) ∙ all.pass

  pub words_from : AreWords items counted
  words_from = record { at = λ k x l is counts. word k x l is counts (entries_split items k x l is) }
    where
      word : (k : ℕ) (x : Item) → k < length items → x ≡ get_or items k x → get_or counted k false ≡ true → (newer : List Entry) × (entries_of items ≡ newer ++ entry_of x ∷ entries_of (take k items)) → (entry_of x).before ≤ 2 ^ 63
      word k x l is counts s =
          let page : ℕ → model.Contents = (redo (pages_of old) (entries_of (take k items))).page in
          word_fits (length old) page x.log x.said.txn x.said.gsn x.said.body
          (pass_behind (format_of (length old)) (pages_of old) s.0 (entry_of x) (entries_of (take k items)) (sym (ap (all_pass (format_of (length old)) (pages_of old)) s.1) ∙ redone_pass))
          (sym (all.marks.at k x l is) ∙ counts)

  pub counts_at : AreApart (entries_of items) → (k : ℕ) (x : Item) → k < length items → x ≡ get_or items k x → (redo (pages_of old) (entries_of items)).counts x.log x.said.gsn ≡ get_or counted k false
  counts_at apart k x l is =
      let s = entries_split items k x l is in
      ap (λ (y : List Entry). (redo (pages_of old) y).counts x.log x.said.gsn) s.1
      ∙ counts_behind (pages_of old) s.0 (entry_of x) (entries_of (take k items)) (newer_apart s.0 (entry_of x) (entries_of (take k items)) (subst AreApart s.1 apart))
      ∙ sym (all.marks.at k x l is)
