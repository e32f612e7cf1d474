-- Committed transactions by their entries are those of the journal, with the same writes and the same answers.
use Rattle.map_model.specs.Lists.{Has, any, keep, upd, in_order, insert_by}
use Rattle.map_model.specs.Maps.{Map, MapCall, MapAnswer, IsLawful, writes_key, uses_key}
use Rattle.map_model.specs.Histories.{Step, last_write, over, first_of, write_or}
use Rattle.map_model.specs.Journals as maps
use Rattle.map_model.specs.Journals.{Txn, is_earlier, Gives}
use Rattle.core_paging.specs.image_model.Histories as histories
use Rattle.core_paging.specs.image_model.Histories.{said, write_call, step_onto, steps_of, txn_of}
use Rattle.core_paging.specs.image_model.Ends as images
use Rattle.core_paging.specs.image_model.Ends.{reach}
use Rattle.core_paging.specs.image_model.Entries.{Kind, Entry, is_write, is_call, is_commit, same_txn}
use Rattle.page_model.specs.Nodes.{Format}
use Rattle.page_model.specs.Tree.{entry}
use Rattle.core_paging.specs.core_state.Openings.{Opening, first, first_map}
use Rattle.map_model.proofs.ListLemmas.{upd_same, upd_other}
use Rattle.core_paging.proofs.core_commit.History.{answer}
use Rattle.core_paging.proofs.core_commit.Says.{said_word, write_here, write_else}
use Rattle.core_crash.proofs.Words.{Done, calls_of, committed, done_earlier, journal, write_all, after, kept, wins, Lawful, Serial}
use Rattle.core_crash.proofs.Cuts.{keep_same}
use Rattle.std.proofs.Common.{◌≡◌, ℕ, Bool, true, false, cond, ◌&&◌, ◌||◌, leb, ltb, ◌==◌, List, [], ◌∷◌, ◌⊎◌, Option, refl, sym, ap, ap₂, ◌∙◌, inl, inr, true≢false}
use Rattle.std.proofs.lemmas.Bool.{cases_eq, eqb-true}

abbrev pub to_txn : Format → Done → Txn
to_txn f t = record { session = t.end.log; number = t.end.txn; at = t.end.number; calls = steps_of f t.calls }

abbrev pub txns : Format → List Done → List Txn
txns f [] = []
txns f (t ∷ ts) = to_txn f t ∷ txns f ts

-- ## The journal

committed_as : (f : Format) (h : List Entry) → histories.committed f h ≡ txns f (committed h)
committed_as f [] = refl
committed_as f (e ∷ h) = go (committed_as f h) (is_commit e.kind)
  where
    go : histories.committed f h ≡ txns f (committed h) → (b : Bool) → cond b (txn_of f e h ∷ histories.committed f h) (histories.committed f h) ≡ txns f (cond b (record { end = e; calls = calls_of e h } ∷ committed h) (committed h))
    go ih true = ap (λ (l : List Txn). txn_of f e h ∷ l) ih
    go ih false = ih

insert_as : (f : Format) (x : Done) (ys : List Done) → insert_by is_earlier (to_txn f x) (txns f ys) ≡ txns f (insert_by done_earlier x ys)
insert_as f x [] = refl
insert_as f x (y ∷ ys) = go (insert_as f x ys) (done_earlier x y)
  where
    go : insert_by is_earlier (to_txn f x) (txns f ys) ≡ txns f (insert_by done_earlier x ys) → (b : Bool) → cond b (to_txn f y ∷ insert_by is_earlier (to_txn f x) (txns f ys)) (to_txn f x ∷ to_txn f y ∷ txns f ys) ≡ txns f (cond b (y ∷ insert_by done_earlier x ys) (x ∷ y ∷ ys))
    go ih true = ap (λ (l : List Txn). to_txn f y ∷ l) ih
    go ih false = refl

order_as : (f : Format) (l : List Done) → in_order is_earlier (txns f l) ≡ txns f (in_order done_earlier l)
order_as f [] = refl
order_as f (x ∷ l) = ap (insert_by is_earlier (to_txn f x)) (order_as f l) ∙ insert_as f x (in_order done_earlier l)

pub journal_as : (f : Format) (h : List Entry) → histories.journal f h ≡ txns f (journal h)
journal_as f h = ap (in_order is_earlier) (committed_as f h) ∙ order_as f (committed h)

keep_as : (f : Format) (p : Txn → Bool) (l : List Done) → keep p (txns f l) ≡ txns f (keep (λ t. p (to_txn f t)) l)
keep_as f p [] = refl
keep_as f p (t ∷ l) = go (keep_as f p l) (p (to_txn f t))
  where
    go : keep p (txns f l) ≡ txns f (keep (λ t. p (to_txn f t)) l) → (b : Bool) → cond b (to_txn f t ∷ keep p (txns f l)) (keep p (txns f l)) ≡ txns f (cond b (t ∷ keep (λ t. p (to_txn f t)) l) (keep (λ t. p (to_txn f t)) l))
    go ih true = ap (λ (l : List Txn). to_txn f t ∷ l) ih
    go ih false = ih

any_as : {A : Type 0} (p q : A → Bool) (l : List A) → ((x : A) → p x ≡ q x) → any p l ≡ any q l
any_as p q [] h = refl
any_as p q (x ∷ l) h = ap₂ (λ (a b : Bool). a || b) (h x) (any_as p q l h)

shuffle : (a b c : Bool) → ((a && c) && b) ≡ (a && (b && c))
shuffle false b c = refl
shuffle true false false = refl
shuffle true false true = refl
shuffle true true false = refl
shuffle true true true = refl

pub kept_as : (g : Opening) (floor : ℕ) (z : List Entry) (l : List Done) → images.kept g.workers floor z (txns g.format l) ≡ txns g.format (kept g floor z l)
kept_as g floor z l = keep_as g.format (images.is_kept g.workers floor z) l ∙ ap (txns g.format) (keep_same (λ t. images.is_kept g.workers floor z (to_txn g.format t)) (λ t. leb t.end.number floor || wins (reach g.workers floor z) z t) l (λ t i.
    ap (λ (b : Bool). leb t.end.number floor || b) (any_as (λ e. images.wins (reach g.workers floor z) e && ((e.log == t.end.log) && (e.txn == t.end.txn))) (λ e. is_commit e.kind && (same_txn e t.end && leb e.need (reach g.workers floor z))) z
    (λ e. shuffle (is_commit e.kind) (same_txn e t.end) (leb e.need (reach g.workers floor z))))))

pub txns_has : (f : Format) (l : List Done) (t : Txn) → Has t (txns f l) → (d : Done) × Has d l × (t ≡ to_txn f d)
txns_has f [] t i = absurd i
txns_has f (x ∷ l) t (inl e) = (x, inl refl, e)
txns_has f (x ∷ l) t (inr i) = let q = txns_has f l t i in (q.0, inr q.1, q.2)

pub has_txns : (f : Format) (l : List Done) (d : Done) → Has d l → Has (to_txn f d) (txns f l)
has_txns f [] d i = absurd i
has_txns f (x ∷ l) d (inl e) = inl (ap (to_txn f) e)
has_txns f (x ∷ l) d (inr i) = inr (has_txns f l d i)

-- ## Writes

abbrev IsSaid : Format → (ℕ → ℕ) → Map → Type 0
IsSaid f m n = (k : ℕ) → said f (m k) ≡ n k

-- one write
write_as : (f : Format) (r : Entry) (W : ℕ → ℕ) (n : Map) (S : List Step) (answer : MapAnswer) → IsSaid f W (over n (last_write S)) →
    IsSaid f (upd W r.key r.after) (over n (last_write (record { session = r.log; call = write_call f r.key r.after; answer = answer } ∷ S)))
write_as f r W n S answer ih k = elim (cases_eq k r.key) [
  | inl e ↦ ap (said f) (upd_same W r.key r.after k e) ∙ sym (ap (λ (w : Option (Option ℕ)). write_or (first_of w (last_write S k)) (n k)) (write_here f r.key r.after k e))
  | inr x ↦ ap (said f) (upd_other W r.key r.after k x) ∙ (ih k ∙ sym (ap (λ (w : Option (Option ℕ)). write_or (first_of w (last_write S k)) (n k)) (write_else f r.key r.after k x)))
]

pub writes_as : (f : Format) (m : ℕ → ℕ) (n : Map) (rs : List Entry) → IsSaid f m n → IsSaid f (write_all rs m) (over n (last_write (steps_of f rs)))
writes_as f m n [] h = h
writes_as f m n (r ∷ rs) h = go (writes_as f m n rs h) r.kind
  where
    W : ℕ → ℕ
    W = write_all rs m

    S : List Step
    S = steps_of f rs

    go : IsSaid f W (over n (last_write S)) → (K : Kind) → IsSaid f (cond (is_write K) (upd W r.key r.after) W) (over n (last_write (step_onto f K r S)))
    go ih Kind.Change = write_as f r W n S (MapAnswer.Was (said f r.before)) ih
    go ih Kind.Put_back = write_as f r W n S (MapAnswer.Was (said f r.before)) ih
    go ih Kind.Read = ih
    go ih Kind.Split = ih
    go ih Kind.Lift = ih
    go ih Kind.Join = ih
    go ih Kind.Drop = ih
    go ih Kind.Purge = ih
    go ih Kind.Commit = ih
    go ih Kind.Abort = ih

pub after_as : (f : Format) (m : ℕ → ℕ) (n : Map) (ts : List Done) → IsSaid f m n → IsSaid f (after m ts) (maps.after n (txns f ts))
after_as f m n [] h = h
after_as f m n (t ∷ ts) h = writes_as f (after m ts) (maps.after n (txns f ts)) t.calls (after_as f m n ts h)

pub first_as : (g : Opening) → IsSaid g.format (first g) (first_map g)
first_as g k = said_word g.format (entry g.format.pages g.node k)

-- ## Uses and writes of a key

write_uses : (f : Format) (key word k : ℕ) (a : MapAnswer) → uses_key (write_call f key word) a k ≡ true → key ≡ k
write_uses f key word k a = go (ltb word f.dead)
  where
    go : (b : Bool) → uses_key (cond b (MapCall.Put key word) (MapCall.Del key)) a k ≡ true → key ≡ k
    go true h = eqb-true key k h
    go false h = eqb-true key k h

write_writes : (f : Format) (key word k : ℕ) → writes_key (write_call f key word) k ≡ true → key ≡ k
write_writes f key word k = go (ltb word f.dead)
  where
    go : (b : Bool) → writes_key (cond b (MapCall.Put key word) (MapCall.Del key)) k ≡ true → key ≡ k
    go true h = eqb-true key k h
    go false h = eqb-true key k h

abbrev UsedIn : List Entry → ℕ → Type 0
UsedIn rs k = (r : Entry) × Has r rs × (is_call r.kind ≡ true) × (r.key ≡ k)

abbrev WroteIn : List Entry → ℕ → Type 0
WroteIn rs k = (r : Entry) × Has r rs × (is_write r.kind ≡ true) × (r.key ≡ k)

-- the step is that of a write, or of a read
abbrev IsStepOf : Format → Entry → Step → Type 0
IsStepOf f r x =
    ((is_write r.kind ≡ true) × (a : MapAnswer) × (x ≡ record { session = r.log; call = write_call f r.key r.after; answer = a }))
    ⊎ ((a : MapAnswer) × (x ≡ record { session = r.log; call = MapCall.Get r.key; answer = a }))

-- a step of entries is that of one of them, a call
step_has : (f : Format) (rs : List Entry) (x : Step) → Has x (steps_of f rs) → (r : Entry) × Has r rs × (is_call r.kind ≡ true) × IsStepOf f r x
step_has f [] x i = absurd i
step_has f (r ∷ rs) x i = go (step_has f rs x) r.kind refl i
  where
    later : (y : Entry) × Has y rs × (is_call y.kind ≡ true) × IsStepOf f y x → (y : Entry) × Has y (r ∷ rs) × (is_call y.kind ≡ true) × IsStepOf f y x
    later q = (q.0, inr q.1, q.2, q.3)

    go : (Has x (steps_of f rs) → (y : Entry) × Has y rs × (is_call y.kind ≡ true) × IsStepOf f y x) → (K : Kind) → r.kind ≡ K → Has x (step_onto f K r (steps_of f rs)) →
        (y : Entry) × Has y (r ∷ rs) × (is_call y.kind ≡ true) × IsStepOf f y x
    go ih Kind.Change e (inl q) = (r, inl refl, ap is_call e, inl (ap is_write e, MapAnswer.Was (said f r.before), q))
    go ih Kind.Put_back e (inl q) = (r, inl refl, ap is_call e, inl (ap is_write e, MapAnswer.Was (said f r.before), q))
    go ih Kind.Read e (inl q) = (r, inl refl, ap is_call e, inr (MapAnswer.Value (said f r.after), q))
    go ih Kind.Change e (inr i) = later (ih i)
    go ih Kind.Put_back e (inr i) = later (ih i)
    go ih Kind.Read e (inr i) = later (ih i)
    go ih Kind.Split e i = later (ih i)
    go ih Kind.Lift e i = later (ih i)
    go ih Kind.Join e i = later (ih i)
    go ih Kind.Drop e i = later (ih i)
    go ih Kind.Purge e i = later (ih i)
    go ih Kind.Commit e i = later (ih i)
    go ih Kind.Abort e i = later (ih i)

pub used_in : (f : Format) (k : ℕ) (rs : List Entry) (x : Step) → Has x (steps_of f rs) → uses_key x.call x.answer k ≡ true → UsedIn rs k
used_in f k rs x i u =
    let s = step_has f rs x i in
    elim s.3 [
      | inl w ↦ (s.0, s.1, s.2, write_uses f s.0.key s.0.after k w.1 (sym (ap (λ (y : Step). uses_key y.call y.answer k) w.2) ∙ u))
      | inr q ↦ (s.0, s.1, s.2, eqb-true s.0.key k (sym (ap (λ (y : Step). uses_key y.call y.answer k) q.1) ∙ u))
    ]

pub wrote_in : (f : Format) (k : ℕ) (rs : List Entry) (x : Step) → Has x (steps_of f rs) → writes_key x.call k ≡ true → WroteIn rs k
wrote_in f k rs x i u =
    let s = step_has f rs x i in
    elim s.3 [
      | inl w ↦ (s.0, s.1, w.0, write_writes f s.0.key s.0.after k (sym (ap (λ (y : Step). writes_key y.call k) w.2) ∙ u))
      | inr q ↦ absurd (true≢false (sym u ∙ ap (λ (y : Step). writes_key y.call k) q.1))
    ]

-- ## Answers

lawful_write : (f : Format) (key word before : ℕ) (n : Map) → said f before ≡ n key → IsLawful n (write_call f key word) (MapAnswer.Was (said f before))
lawful_write f key word before n e = go (ltb word f.dead)
  where
    go : (b : Bool) → IsLawful n (cond b (MapCall.Put key word) (MapCall.Del key)) (MapAnswer.Was (said f before))
    go true = ap (λ (v : Option ℕ). MapAnswer.Was v) e
    go false = ap (λ (v : Option ℕ). MapAnswer.Was v) e

pub gives_as : (f : Format) (m : ℕ → ℕ) (n : Map) (rs : List Entry) → IsSaid f m n → Lawful m rs → Gives n (steps_of f rs)
gives_as f m n [] h l = tt
gives_as f m n (r ∷ rs) h l = go (gives_as f m n rs h l.0) (writes_as f m n rs h r.key) r.kind l.1
  where
    W : ℕ → ℕ
    W = write_all rs m

    N : Map
    N = over n (last_write (steps_of f rs))

    go : Gives n (steps_of f rs) → said f (W r.key) ≡ N r.key → (K : Kind) → (is_call K ≡ true → cond (is_write K) r.before r.after ≡ W r.key) → Gives n (step_onto f K r (steps_of f rs))
    go ih s Kind.Change a = (ih, λ _. lawful_write f r.key r.after r.before N (ap (said f) (a refl) ∙ s))
    go ih s Kind.Put_back a = (ih, λ _. lawful_write f r.key r.after r.before N (ap (said f) (a refl) ∙ s))
    go ih s Kind.Read a = (ih, λ _. ap (λ (v : Option ℕ). MapAnswer.Value v) (ap (said f) (a refl) ∙ s))
    go ih s Kind.Split a = ih
    go ih s Kind.Lift a = ih
    go ih s Kind.Join a = ih
    go ih s Kind.Drop a = ih
    go ih s Kind.Purge a = ih
    go ih s Kind.Commit a = ih
    go ih s Kind.Abort a = ih

pub serial_as : (f : Format) (m : ℕ → ℕ) (n : Map) (ts : List Done) → IsSaid f m n → Serial m ts → maps.Serial n (txns f ts)
serial_as f m n [] h l = tt
serial_as f m n (t ∷ ts) h l = (serial_as f m n ts h l.0, gives_as f (after m ts) (maps.after n (txns f ts)) t.calls (after_as f m n ts h) l.1)
