-- What holds of the entries of a run, and which records a crash cannot part.
use Rattle.std.proofs.Common.{◌≡◌, ℕ, ◌≤◌, Bool, true, false, cond, if◌then◌else◌, ◌==◌, List, [], ◌∷◌, ◌⊎◌, refl, sym, ap, ◌∙◌, subst, inl, inr, arith}
use Rattle.std.proofs.lemmas.Bool.{cases_Bool, cond-true, cond-false, eq-eqb, eqb-true, and_parts, and_from}
use Rattle.core_state.specs.image_model.Entries.{Entry, same_txn, touches, applied_as, Contents, written}
use Rattle.map_model.specs.Lists.{Has}
use Rattle.page_model.specs.Records.{Ref}
use Rattle.core_state.specs.Openings.{Opening, first}
use Rattle.page_model.specs.Nodes.{Node}
use Rattle.page_model.specs.Tree.{lookup, IsTree}
use Rattle.core_commit.proofs.Lists.{Each, each_map, Before, pick, any_is}
use Rattle.map_model.proofs.ListLemmas.{any_has, has_any}
use Rattle.core_commit.proofs.Nodes.{on_key, Fits, moved_on, fits_parted, fits_on, fits_off}
use mathlib.Core.Path.{fun_ext}
pub use Rattle.core_commit.specs.Past.{answer, SameTxn, page_at, nodes, history_value, not_by, without, Covered, PagesCovered, EndOf, Closes, Recorded, IsRecorded, Entered, IsHistory, HasStamp}

pub same_from : (a b : Entry) → SameTxn a b → same_txn a b ≡ true
same_from a b h = and_from (a.log == b.log) (a.txn == b.txn) (eq-eqb a.log b.log h.0) (eq-eqb a.txn b.txn h.1)

pub same_to : (a b : Entry) → same_txn a b ≡ true → SameTxn a b
same_to a b h = let p = and_parts (a.log == b.log) (a.txn == b.txn) h in (eqb-true a.log b.log p.0, eqb-true a.txn b.txn p.1)

pub records_of : (g : Opening) (F : ℕ) (h : List Entry) → IsHistory g F h → IsRecorded g F h
records_of g F h hist = each_map (Entered g F) (Recorded g F) h (λ r b n. n.recorded) hist

-- an entry makes the same stamp of equal ones
pub stamp_step : (r : Entry) (p : ℕ) (v u : Contents) → HasStamp v u → HasStamp (if touches p r then written r p v else v) (if touches p r then written r p u else u)
stamp_step r p v u e = go (touches p r)
  where
    go : (b : Bool) → HasStamp (cond b (written r p v) v) (cond b (written r p u) u)
    go true = (refl, refl)
    go false = e

pub page_hit : (g : Opening) (p : ℕ) (r : Entry) (h : List Entry) → touches p r ≡ true → page_at g (r ∷ h) p ≡ written r p (page_at g h p)
page_hit g p r h e = rw e refl

pub page_miss : (g : Opening) (p : ℕ) (r : Entry) (h : List Entry) → touches p r ≡ false → page_at g (r ∷ h) p ≡ page_at g h p
page_miss g p r h e = rw e refl

-- a page's number does not fall
pub gsn_rises : (g : Opening) (F : ℕ) (p : ℕ) (r : Entry) (h : List Entry) → Recorded g F r h → (page_at g h p).gsn ≤ (page_at g (r ∷ h) p).gsn
gsn_rises g F p r h n = go (touches p r) refl
  where
    go : (b : Bool) → touches p r ≡ b → (page_at g h p).gsn ≤ (cond b (written r p (page_at g h p)) (page_at g h p)).gsn
    go true e = let k = n.rises p e in omega arith
    go false e = omega arith

-- each record of a page has a number up to the page's
pub number_le_gsn : (g : Opening) (F : ℕ) (p : ℕ) (h : List Entry) → IsRecorded g F h → (y : Entry) → Has y h → touches p y ≡ true → y.number ≤ (page_at g h p).gsn
number_le_gsn g F p [] hist y i o = absurd i
number_le_gsn g F p (r ∷ h) hist y (inl e) o =
    let q : touches p r ≡ true = subst (λ (x : Entry). touches p x ≡ true) e o in
    rw (page_hit g p r h q) (rw e (omega arith))
number_le_gsn g F p (r ∷ h) hist y (inr i) o =
    let k = number_le_gsn g F p h hist.1 y i o in
    let m = gsn_rises g F p r h hist.0 in
    omega arith

pub touch_ref : (p : ℕ) (r : Entry) → touches p r ≡ true → (f : Ref) × Has f r.refs × (f.page ≡ p)
touch_ref p r h = let a = any_has (λ f. f.page == p) r.refs (sym (any_is (λ (f : Ref). f.page == p) r.refs) ∙ h) in (a.0, a.1, eqb-true a.0.page p a.2)

pub ref_touch : (r : Entry) (f : Ref) → Has f r.refs → touches f.page r ≡ true
ref_touch r f i = any_is (λ (x : Ref). x.page == f.page) r.refs ∙ has_any (λ (x : Ref). x.page == f.page) r.refs f i (eq-eqb f.page f.page refl)

-- ## The history's values

-- what a record makes of contents
pub nodes_step : (page : ℕ → Contents) (r : Entry) → nodes (λ p. if touches p r then written r p (page p) else page p) ≡ moved_on (nodes page) r
nodes_step page r = fun_ext (λ p. go p (touches p r))
  where
    go : (p : ℕ) (b : Bool) → (cond b (written r p (page p)) (page p)).node ≡ cond b (applied_as r.kind r p (page p).node) (page p).node
    go p true = refl
    go p false = refl

pub history_step : (g : Opening) (r : Entry) (h : List Entry) → nodes (page_at g (r ∷ h)) ≡ moved_on (nodes (page_at g h)) r
history_step g r h = nodes_step (page_at g h) r

pub history_parted : (g : Opening) (F : ℕ) (h : List Entry) → IsHistory g F h → IsTree g.format (nodes (page_at g h))
history_parted g F [] hist = g.tree
history_parted g F (r ∷ h) hist = subst (IsTree g.format) (sym (history_step g r h)) (fits_parted g.format (nodes (page_at g h)) r (history_parted g F h hist.1) hist.0.fits)

pub history_on : (g : Opening) (F k : ℕ) (x : Entry) (h : List Entry) → IsHistory g F h → Fits g.format (nodes (page_at g h)) x → on_key k x ≡ true → history_value g k (x ∷ h) ≡ x.after
history_on g F k x h hist f o = ap (λ (n : ℕ → Node). lookup g.format n k) (history_step g x h) ∙ fits_on g.format (nodes (page_at g h)) x (history_parted g F h hist) f k o

pub history_off : (g : Opening) (F k : ℕ) (x : Entry) (h : List Entry) → IsHistory g F h → Fits g.format (nodes (page_at g h)) x → on_key k x ≡ false → history_value g k (x ∷ h) ≡ history_value g k h
history_off g F k x h hist f o = ap (λ (n : ℕ → Node). lookup g.format n k) (history_step g x h) ∙ fits_off g.format (nodes (page_at g h)) x (history_parted g F h hist) f k o

-- it is that of the key's newest write
pub history_pick : (g : Opening) (F k : ℕ) (h : List Entry) → IsHistory g F h → history_value g k h ≡ pick (λ r b. on_key k r) (λ r b. r.after) (first g k) h
history_pick g F k [] hist = refl
history_pick g F k (r ∷ h) hist = go (history_pick g F k h hist.1) (cases_Bool (on_key k r))
  where
    P : ℕ
    P = pick (λ r b. on_key k r) (λ r b. r.after) (first g k) h

    go : history_value g k h ≡ P → (on_key k r ≡ true) ⊎ (on_key k r ≡ false) → history_value g k (r ∷ h) ≡ cond (on_key k r) r.after P
    go ih (inl o) = history_on g F k r h hist.1 hist.0.fits o ∙ sym (cond-true (on_key k r) r.after P o)
    go ih (inr o) = history_off g F k r h hist.1 hist.0.fits o ∙ (ih ∙ sym (cond-false (on_key k r) r.after P o))

-- two places in a list
pub compare : {A : Type 0} (l : List A) (x : A) (xs : List A) (y : A) (ys : List A) → Before x xs l → Before y ys l →
    ((x ≡ y) × (xs ≡ ys)) ⊎ (Before x xs ys ⊎ Before y ys xs)
compare [] x xs y ys a b = absurd a
compare (z ∷ zs) x xs y ys (inl a) (inl b) = inl (a.0 ∙ sym b.0, a.1 ∙ sym b.1)
compare {A} (z ∷ zs) x xs y ys (inl a) (inr b) = inr (inr (subst (λ (l : List A). Before y ys l) (sym a.1) b))
compare {A} (z ∷ zs) x xs y ys (inr a) (inl b) = inr (inl (subst (λ (l : List A). Before x xs l) (sym b.1) a))
compare (z ∷ zs) x xs y ys (inr a) (inr b) = compare zs x xs y ys a b

pub each_behind : {A : Type 0} (P : A → List A → Type 0) (l : List A) (x : A) (xs : List A) → Each P l → Before x xs l → Each P xs
each_behind P [] x xs h b = absurd b
each_behind {A} P (z ∷ zs) x xs h (inl e) = subst (λ (l : List A). Each P l) (sym e.1) h.1
each_behind P (z ∷ zs) x xs h (inr b) = each_behind P zs x xs h.1 b

pub before_trans : {A : Type 0} (l : List A) (d : A) (ds : List A) (x : A) (xs : List A) → Before d ds l → Before x xs ds → Before x xs l
before_trans [] d ds x xs a b = absurd a
before_trans {A} (z ∷ zs) d ds x xs (inl e) b = inr (subst (λ (l : List A). Before x xs l) e.1 b)
before_trans (z ∷ zs) d ds x xs (inr a) b = inr (before_trans zs d ds x xs a b)
