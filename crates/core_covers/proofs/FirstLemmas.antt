-- The first record of an open transaction.
use Rattle.std.proofs.Common.{◌≡◌, ◌⊎◌, inl, inr, ◌≤◌, ◌==◌, ◌&&◌, ℕ, suc, Bool, true, false, cond, List, [], ◌∷◌, ◌++◌, Option, Some, None, refl, sym, ap, ◌∙◌, arith}
use Rattle.std.proofs.lemmas.Bool.{and_parts, cases_Bool, cond-true, cond-false, eqb-true}
use Rattle.map_model.specs.Lists.{Has}
use Rattle.map_model.proofs.ListLemmas.{upd_same}
use Rattle.core_paging.specs.image_model.Entries.{Entry, is_record}
use Rattle.core_paging.specs.core_state.Openings.{Opening}
use Rattle.core_paging.specs.core_state.States.{State, Worker, flushed_by_all}
use Rattle.core_paging.specs.core_state.Events.{Event}
use Rattle.core_paging.specs.core_state.Needs.{may}
use Rattle.core_paging.specs.core_state.Steps.{begun, finished, happens, state_after}
use Rattle.core_paging.proofs.core_commit.History.{IsRecorded}
use Rattle.core_paging.proofs.core_commit.Invariants.{Inv}
use Rattle.core_covers.proofs.ChangeLemmas.{good, state_then}
use Rattle.core_covers.specs.Firsts.{EveryFirst, EveryFirstStep, IsNotBeforeFirst, first_of, is_own, oldest, or_else}

-- ## Lists

pub own_is : (w t : ℕ) (r : Entry) → is_own w t r ≡ true → (is_record r.kind ≡ true) × (r.log ≡ w) × (r.txn ≡ t)
own_is w t r h =
    let a = and_parts (is_record r.kind) ((r.log == w) && (r.txn == t)) h in
    let b = and_parts (r.log == w) (r.txn == t) a.1 in (a.0, eqb-true r.log w b.0, eqb-true r.txn t b.1)

some_or : (m : Option ℕ) (n : ℕ) (d : Option ℕ) → m ≡ Some n → or_else m d ≡ Some n
some_or m n d e = ap (λ (o : Option ℕ). or_else o d) e

none_or : (m d : Option ℕ) → m ≡ None → or_else m d ≡ d
none_or m d e = ap (λ (o : Option ℕ). or_else o d) e

cases_option : (m : Option ℕ) → (m ≡ None) ⊎ ((n : ℕ) × (m ≡ Some n))
cases_option None = inl refl
cases_option (Some n) = inr (n, refl)

some_same : (a b : ℕ) → Some a ≡ Some b → a ≡ b
some_same a b e = cc

-- it is the number of one of them
pub oldest_has : (own : Entry → Bool) (h : List Entry) (n : ℕ) → oldest own h ≡ Some n → (r : Entry) × Has r h × (own r ≡ true) × (r.number ≡ n)
oldest_has own [] n e = absurd (none_some n e)
  where
    none_some : (n : ℕ) → None ≡ Some n → ⊥
    none_some n e = cc
oldest_has own (r ∷ h) n e = elim (cases_option (oldest own h)) [
  | inr m ↦ (let q = oldest_has own h n (m.1 ∙ (sym (some_or (oldest own h) m.0 (cond (own r) (Some r.number) None) m.1) ∙ e)) in (q.0, inr q.1, q.2, q.3))
  | inl none ↦ here (own r) refl (sym (none_or (oldest own h) (cond (own r) (Some r.number) None) none) ∙ e)
]
  where
    here : (b : Bool) → own r ≡ b → cond (own r) (Some r.number) None ≡ Some n → (x : Entry) × Has x (r ∷ h) × (own x ≡ true) × (x.number ≡ n)
    here true o q = (r, inl refl, o, some_same r.number n (sym (cond-true (own r) (Some r.number) None o) ∙ q))
    here false o q = absurd (let z = sym (cond-false (own r) (Some r.number) None o) ∙ q in cc)

oldest_none : (own : Entry → Bool) (h : List Entry) → ((r : Entry) → Has r h → own r ≡ false) → oldest own h ≡ None
oldest_none own [] n = refl
oldest_none own (r ∷ h) n = none_or (oldest own h) (cond (own r) (Some r.number) None) (oldest_none own h (λ x i. n x (inr i))) ∙ cond-false (own r) (Some r.number) None (n r (inl refl))

-- none of them is earlier
abbrev Least : (Entry → Bool) → List Entry → Entry → Type 0
Least own h r = (n : ℕ) × (oldest own h ≡ Some n) × (n ≤ r.number)

oldest_least : (g : Opening) (F w t : ℕ) (h : List Entry) → IsRecorded g F h → (r : Entry) → Has r h → is_own w t r ≡ true → Least (is_own w t) h r
oldest_least g F w t [] hist r i o = absurd i
oldest_least g F w t (z ∷ h) hist r (inr i) o =
    let q = oldest_least g F w t h hist.1 r i o in (q.0, some_or (oldest (is_own w t) h) q.0 (cond (is_own w t z) (Some z.number) None) q.1, q.2)
oldest_least g F w t (z ∷ h) hist r (inl e) o = elim (cases_option (oldest own h)) [
  | inl none ↦ (z.number, none_or (oldest own h) (cond (own z) (Some z.number) None) none ∙ cond-true (own z) (Some z.number) None oz, (let q = ap (λ (x : Entry). x.number) e in omega arith))
  | inr m ↦ (m.0, some_or (oldest own h) m.0 (cond (own z) (Some z.number) None) m.1, below m.0 m.1)
]
  where
    own : Entry → Bool
    own = is_own w t

    oz : own z ≡ true
    oz = ap own (sym e) ∙ o

    below : (n : ℕ) → oldest own h ≡ Some n → n ≤ r.number
    below n q =
        let y = oldest_has own h n q in
        let a = own_is w t y.0 y.2 in let b = own_is w t z oz in
        let lt = hist.0.later b.0 y.0 y.1 (a.1 ∙ sym b.1) in let f = y.3 in let d = ap (λ (x : Entry). x.number) e in omega arith

-- ## Steps

first_open : (s : State) (w : ℕ) → (s.worker w).is_open ≡ true → first_of s w ≡ oldest (is_own w (s.worker w).txn) s.entries
first_open s w o = cond-true (s.worker w).is_open (oldest (is_own w (s.worker w).txn) s.entries) None o

first_closed : (s : State) (w : ℕ) → (s.worker w).is_open ≡ false → first_of s w ≡ None
first_closed s w o = cond-false (s.worker w).is_open (oldest (is_own w (s.worker w).txn) s.entries) None o

-- by what it is of
abbrev first_in : Bool → (w t : ℕ) → List Entry → Option ℕ
first_in open_now w t h = cond open_now (oldest (is_own w t) h) None

pub every_first_step : EveryFirstStep
every_first_step s t w opens txns = record {
  same = λ e. moved ∙ ap (first_in (s.worker w).is_open w (s.worker w).txn) e;
  other = λ r e non. moved ∙ (ap (first_in (s.worker w).is_open w (s.worker w).txn) e ∙ ap (λ (o : Option ℕ). cond (s.worker w).is_open o None) (passes r non));
  own = λ r e is o. moved ∙ (ap (first_in (s.worker w).is_open w (s.worker w).txn) e ∙ (cond-true (s.worker w).is_open (oldest (is_own w (s.worker w).txn) (r ∷ s.entries)) None is
      ∙ (ap (or_else (oldest (is_own w (s.worker w).txn) s.entries)) (cond-true (is_own w (s.worker w).txn r) (Some r.number) None o) ∙ ap (λ (m : Option ℕ). or_else m (Some r.number)) (sym (first_open s w is)))));
}
  where
    moved : first_of t w ≡ first_in (s.worker w).is_open w (s.worker w).txn t.entries
    moved = ap (λ (b : Bool). first_in b w (t.worker w).txn t.entries) opens ∙ ap (λ (n : ℕ). first_in (s.worker w).is_open w n t.entries) txns

    passes : (r : Entry) → is_own w (s.worker w).txn r ≡ false → oldest (is_own w (s.worker w).txn) (r ∷ s.entries) ≡ oldest (is_own w (s.worker w).txn) s.entries
    passes r non = ap (or_else (oldest (is_own w (s.worker w).txn) s.entries)) (cond-false (is_own w (s.worker w).txn r) (Some r.number) None non) ∙ last (oldest (is_own w (s.worker w).txn) s.entries)
      where
        last : (m : Option ℕ) → or_else m None ≡ m
        last None = refl
        last (Some n) = refl

pub every_first : EveryFirst
every_first g es w = record { least = least; begin = begins; end = ended }
  where
    s : State
    s = state_after g es

    i : Inv g s
    i = (good g es).inv

    least : (r : Entry) → Has r s.entries → (s.worker w).is_open ≡ true → is_own w (s.worker w).txn r ≡ true → IsNotBeforeFirst s w r
    least r h o own = let q = oldest_least g (flushed_by_all g s) w (s.worker w).txn s.entries i.records r h own in record { first = q.0; is = first_open s w o ∙ q.1; low = q.2 }

    none : oldest (is_own w (suc (s.worker w).txn)) s.entries ≡ None
    none = oldest_none (is_own w (suc (s.worker w).txn)) s.entries (λ r h. elim (cases_Bool (is_own w (suc (s.worker w).txn) r)) [
      | inr non ↦ non
      | inl own ↦ absurd (let a = own_is w (suc (s.worker w).txn) r own in let b = ((i.workers w).numbers r h a.1).1 in let c = a.2 in omega arith)
    ])

    begins : (f : ℕ) → may g s (Event.Begin w f) ≡ true → first_of (state_after g (es ++ Event.Begin w f ∷ [])) w ≡ None
    begins f m = ap (λ (t : State). first_of t w) (state_then g es (Event.Begin w f) ∙ cond-true (may g s (Event.Begin w f)) (happens g s (Event.Begin w f)) s m)
        ∙ (ap (λ (a : Worker). cond a.is_open (oldest (is_own w a.txn) s.entries) None) (upd_same s.worker w (begun (s.worker w) f) w refl) ∙ none)

    ended : (commit : Bool) (f : ℕ) → may g s (Event.End w commit f) ≡ true → first_of (state_after g (es ++ Event.End w commit f ∷ [])) w ≡ None
    ended commit f m =
        let e : Event = Event.End w commit f in
        let t : State = happens g s e in
        ap (λ (u : State). first_of u w) (state_then g es e ∙ cond-true (may g s e) t s m)
        ∙ first_closed t w (ap (λ (a : Worker). a.is_open) (upd_same s.worker w (finished (s.worker w) (suc (s.worker w).clock)) w refl))
