-- A debt is the greatest remote number that was touched, where that is above the floor; and what it covers.
use Rattle.map_model.specs.Lists.{upd, Has}
use Rattle.map_model.specs.Maps.{MapAnswer}
use Rattle.rfa_model.specs.Stamps.{is_remote, owed, debt_at_begin, need_of}
use Rattle.core_state.specs.image_model.Entries.{Kind, Entry, is_write, touches}
use Rattle.page_model.specs.Records.{Record}
use Rattle.page_model.specs.Needs as record_needs
use Rattle.core_state.specs.Lists.{is_empty}
use Rattle.core_state.specs.States.{State, Worker, start, flushed_by_all, nodes_of, gsns_of}
use Rattle.core_state.specs.Openings.{Opening}
use Rattle.core_state.specs.Events.{Event}
use Rattle.core_state.specs.Needs.{are_hot, pages_of, is_worker, holds_row, may_put_back, may, needs}
use Rattle.core_state.specs.Steps.{at_pages, at_row, begun, finished, write_entry, moves, put_back, follows, happens, step, run}
use Rattle.core_commit.specs.Debts.{Stamp, IsBy, stamps_of, touched, IsRemoteTouch, Touched, EveryNeed, Ended, Knows, Debt, EveryDebt}
use Rattle.core_commit.proofs.KindFacts.{write_claims}
use Rattle.core_commit.proofs.Lists.{Before, has_before, before_has, each_at}
use Rattle.core_commit.proofs.History.{EndOf, Recorded, PagesCovered, Covered, compare, same_from, page_at, number_le_gsn}
use Rattle.core_commit.proofs.Invariants.{Inv, Holds}
use Rattle.core_commit.proofs.Events.{holds_to}
use Rattle.core_commit.proofs.Copies.{at_place}
use Rattle.core_commit.proofs.Nexts.{no_answer}
use Rattle.core_commit.proofs.Runs.{good_run, good_start}
use Rattle.std.proofs.Common.{◌≡◌, ◌<◌, ◌≤◌, ℕ, suc, max, Bool, true, false, cond, ◌&&◌, ◌||◌, not, leb, ltb, List, [], ◌∷◌, ◌⊎◌, refl, sym, ap, ◌∙◌, subst, inl, inr, arith, true≢false}
use Rattle.std.proofs.lemmas.Bool.{cases_lt, and_parts, leb-true, le-leb, lt-leb, lt-ltb, le-ltb, cond-true, cond-false}

-- of a worker that touched the numbers P as remote ones
pub record Owes (P : ℕ → Type 0) (floor debt : ℕ) : Type 0 where
  pub most : (n : ℕ) → P n → n ≤ max debt floor
  pub one : (debt ≡ 0) ⊎ P debt

abbrev pub AllOwe : (ℕ → ℕ → Type 0) → (ℕ → Worker) → Type 0
AllOwe P worker = (w : ℕ) → Owes (P w) (worker w).floor (worker w).debt

owes_more : (P Q : ℕ → Type 0) (floor debt : ℕ) → ((n : ℕ) → P n → Q n) → ((n : ℕ) → Q n → P n) → Owes P floor debt → Owes Q floor debt
owes_more P Q floor debt f h o = record { most = λ n q. o.most n (h n q); one = elim o.one [ inl e ↦ inl e | inr p ↦ inr (f debt p) ] }

owes_begun : (P : ℕ → Type 0) (floor debt f : ℕ) → floor ≤ f → Owes P floor debt → Owes P f (debt_at_begin debt f)
owes_begun P floor debt f l o = go (cases_lt f debt)
  where
    go : (f < debt) ⊎ (debt ≤ f) → Owes P f (debt_at_begin debt f)
    go (inl q) = rw (lt-leb debt f q) (record { most = λ n p. let m = o.most n p in omega arith; one = o.one })
    go (inr q) = rw (le-leb debt f q) (record { most = λ n p. let m = o.most n p in omega arith; one = inl refl })

owes_touched : (P : ℕ → Type 0) (w floor debt n l : ℕ) → Owes P floor debt → Owes (λ m. P m ⊎ ((n ≡ m) × (is_remote w floor n l ≡ true))) floor (owed w floor debt n l)
owes_touched P w floor debt n l o = go (is_remote w floor n l) refl
  where
    go : (b : Bool) → is_remote w floor n l ≡ b → Owes (λ m. P m ⊎ ((n ≡ m) × (is_remote w floor n l ≡ true))) floor (cond b (max debt n) debt)
    go false e = record {
      most = λ m p. elim p [ inl x ↦ o.most m x | inr x ↦ absurd (true≢false (sym x.1 ∙ e)) ];
      one = elim o.one [ inl z ↦ inl z | inr z ↦ inr (inl z) ];
    }
    go true e = record {
      most = λ m p. elim p [ inl x ↦ (let q = o.most m x in omega arith) | inr x ↦ (let q = x.0 in omega arith) ];
      one = elim (cases_lt debt n) [
        | inl q ↦ (let z : n ≡ max debt n = omega arith in inr (inr (z, e)))
        | inr q ↦ (let z : debt ≡ max debt n = omega arith in elim o.one [ inl x ↦ inl (sym z ∙ x) | inr x ↦ inr (inl (subst P z x)) ])
      ];
    }

-- a remote one of these stamps has the number
abbrev RemoteIn : ℕ → ℕ → List Stamp → ℕ → Type 0
RemoteIn w floor l n = (x : Stamp) × Has x l × (x.number ≡ n) × (is_remote w floor x.number x.log ≡ true)

floor_stays : (s : State) (w : ℕ) (a : Worker) (ps : List ℕ) → (at_pages s w a ps).floor ≡ a.floor
floor_stays s w a [] = refl
floor_stays s w a (p ∷ ps) = floor_stays s w a ps

owes_pages : (P : ℕ → Type 0) (s : State) (w : ℕ) (a : Worker) (ps : List ℕ) → Owes P a.floor a.debt → Owes (λ n. P n ⊎ RemoteIn w a.floor (stamps_of s ps) n) a.floor (at_pages s w a ps).debt
owes_pages P s w a [] o = owes_more P (λ n. P n ⊎ RemoteIn w a.floor [] n) a.floor a.debt (λ n p. inl p) (λ n q. elim q [ inl p ↦ p | inr z ↦ absurd z.1 ]) o
owes_pages P s w a (p ∷ ps) o = subst (λ (f : ℕ). Owes (λ n. P n ⊎ RemoteIn w a.floor (stamps_of s (p ∷ ps)) n) a.floor (owed w f b.debt (s.page p).gsn (s.page p).last)) (sym (floor_stays s w a ps))
    (owes_more (λ n. (P n ⊎ RemoteIn w a.floor (stamps_of s ps) n) ⊎ (((s.page p).gsn ≡ n) × (is_remote w a.floor (s.page p).gsn (s.page p).last ≡ true))) (λ n. P n ⊎ RemoteIn w a.floor (stamps_of s (p ∷ ps)) n) a.floor (owed w a.floor b.debt (s.page p).gsn (s.page p).last)
    (λ n q. elim q [ inl x ↦ elim x [ inl y ↦ inl y | inr y ↦ inr (y.0, inr y.1, y.2, y.3) ] | inr x ↦ inr (here, inl refl, x.0, x.1) ])
    (λ n q. elim q [ inl y ↦ inl (inl y) | inr y ↦ split n y ])
    (owes_touched (λ n. P n ⊎ RemoteIn w a.floor (stamps_of s ps) n) w a.floor b.debt (s.page p).gsn (s.page p).last (owes_pages P s w a ps o)))
  where
    b : Worker
    b = at_pages s w a ps

    here : Stamp
    here = record { number = (s.page p).gsn; log = (s.page p).last }

    split : (n : ℕ) → RemoteIn w a.floor (stamps_of s (p ∷ ps)) n → (P n ⊎ RemoteIn w a.floor (stamps_of s ps) n) ⊎ (((s.page p).gsn ≡ n) × (is_remote w a.floor (s.page p).gsn (s.page p).last ≡ true))
    split n y = elim y.1 [
      | inl e ↦ inr (ap (λ (x : Stamp). x.number) (sym e) ∙ y.2, ap (λ (x : Stamp). is_remote w a.floor x.number x.log) (sym e) ∙ y.3)
      | inr i ↦ inl (inr (y.0, i, y.2, y.3))
    ]

-- ## Every event

-- v alone changes, and owes what it touched
acts : (P : ℕ → ℕ → Type 0) (g : Opening) (s : State) (e : Event) (v floor debt : ℕ) (worker : ℕ → Worker) → AllOwe P s.worker → (a : Worker) → ((w : ℕ) → worker w ≡ upd s.worker v a w) → a.floor ≡ floor → a.debt ≡ debt →
    Owes (λ n. P v n ⊎ IsRemoteTouch g s e v n) floor debt → ((w n : ℕ) → IsRemoteTouch g s e w n → v ≡ w) → AllOwe (λ w n. P w n ⊎ IsRemoteTouch g s e w n) worker
acts P g s e v floor debt worker k a same ef ed o only w = subst (λ (b : Worker). Owes (λ n. P w n ⊎ IsRemoteTouch g s e w n) b.floor b.debt) (sym (same w))
    (at_place (λ j b. Owes (λ n. P j n ⊎ IsRemoteTouch g s e j n) b.floor b.debt) s.worker v a w
    (λ q. subst (λ (j : ℕ). Owes (λ n. P j n ⊎ IsRemoteTouch g s e j n) a.floor a.debt) (sym q) (rw (ef, ed) o))
    (λ q. owes_more (P w) (λ n. P w n ⊎ IsRemoteTouch g s e w n) (s.worker w).floor (s.worker w).debt (λ n p. inl p) (λ n z. elim z [ inl p ↦ p | inr t ↦ absurd (q (sym (only w n t))) ]) (k w)))

-- v touches these pages
acts_on : (P : ℕ → ℕ → Type 0) (g : Opening) (s : State) (e : Event) (v : ℕ) (ps : List ℕ) → may g s e ≡ true → AllOwe P s.worker → IsBy e v → touched s e ≡ stamps_of s ps → Owes (λ n. P v n ⊎ IsRemoteTouch g s e v n) (s.worker v).floor (at_pages s v (s.worker v) ps).debt
acts_on P g s e v ps m k by es =
    owes_more (λ n. P v n ⊎ RemoteIn v (s.worker v).floor (stamps_of s ps) n) (λ n. P v n ⊎ IsRemoteTouch g s e v n) (s.worker v).floor (at_pages s v (s.worker v) ps).debt
    (λ n q. elim q [ inl p ↦ inl p | inr z ↦ inr (record { may = m; by = by; stamp = z.0; has = subst (λ (l : List Stamp). Has z.0 l) (sym es) z.1; number = z.2; remote = z.3 }) ])
    (λ n q. elim q [ inl p ↦ inl p | inr z ↦ inr (z.stamp, subst (λ (l : List Stamp). Has z.stamp l) es z.has, z.number, z.remote) ])
    (owes_pages (P v) s v (s.worker v) ps (k v))

-- nobody touches anything, and floors and debts stay
quiet : (P : ℕ → ℕ → Type 0) (g : Opening) (s : State) (e : Event) (worker : ℕ → Worker) → AllOwe P s.worker → ((w n : ℕ) → IsRemoteTouch g s e w n → ⊥) → ((w : ℕ) → Owes (P w) (s.worker w).floor (s.worker w).debt → Owes (P w) (worker w).floor (worker w).debt) → AllOwe (λ w n. P w n ⊎ IsRemoteTouch g s e w n) worker
quiet P g s e worker k none f w = owes_more (P w) (λ n. P w n ⊎ IsRemoteTouch g s e w n) (worker w).floor (worker w).debt (λ n p. inl p) (λ n q. elim q [ inl p ↦ p | inr t ↦ absurd (none w n t) ]) (f w (k w))

owe_moves : (P : ℕ → ℕ → Type 0) (g : Opening) (s : State) (e : Event) (K : Kind) (v : ℕ) (ps : List ℕ) (y : Record) → may g s e ≡ true → AllOwe P s.worker → IsBy e v → touched s e ≡ stamps_of s ps → ((w n : ℕ) → IsRemoteTouch g s e w n → v ≡ w) → AllOwe (λ w n. P w n ⊎ IsRemoteTouch g s e w n) (moves s K v ps y).worker
owe_moves P g s e K v ps y m k by es only = acts P g s e v (s.worker v).floor (at_pages s v (s.worker v) ps).debt (moves s K v ps y).worker k
    (record (at_pages s v (s.worker v) ps) { clock = suc (at_pages s v (s.worker v) ps).clock }) (λ w. refl) (floor_stays s v (s.worker v) ps) refl (acts_on P g s e v ps m k by es) only

owe_event : (P : ℕ → ℕ → Type 0) (g : Opening) (s : State) (e : Event) → may g s e ≡ true → needs g s e ≡ true → AllOwe P s.worker → AllOwe (λ w n. P w n ⊎ IsRemoteTouch g s e w n) (happens g s e).worker
owe_event P g s (Event.Begin v f) m q k = quiet P g s (Event.Begin v f) (upd s.worker v (begun (s.worker v) f)) k (λ w n z. z.by)
    (λ w. at_place (λ j b. Owes (P j) (s.worker j).floor (s.worker j).debt → Owes (P j) b.floor b.debt) s.worker v (begun (s.worker v) f) w
    (λ e o. owes_begun (P w) (s.worker v).floor (s.worker v).debt f low (subst (λ (j : ℕ). Owes (P w) (s.worker j).floor (s.worker j).debt) e o)) (λ _ o. o))
  where
    low : (s.worker v).floor ≤ f
    low =
        let a = and_parts (is_worker g v) (not (s.worker v).is_open && (leb (s.worker v).floor f && leb f (flushed_by_all g s))) q in
        let b = and_parts (not (s.worker v).is_open) (leb (s.worker v).floor f && leb f (flushed_by_all g s)) a.1 in
        leb-true (s.worker v).floor f (and_parts (leb (s.worker v).floor f) (leb f (flushed_by_all g s)) b.1).0
owe_event P g s (Event.Lock v i mode) m q k = acts P g s (Event.Lock v i mode) v (s.worker v).floor (at_row v (s.worker v) (s.row i)).debt (happens g s (Event.Lock v i mode)).worker k (at_row v (s.worker v) (s.row i)) (λ w. refl) refl refl
    (owes_more (λ n. P v n ⊎ (((s.row i).number ≡ n) × (is_remote v (s.worker v).floor (s.row i).number (s.row i).log ≡ true))) (λ n. P v n ⊎ IsRemoteTouch g s (Event.Lock v i mode) v n) (s.worker v).floor (at_row v (s.worker v) (s.row i)).debt
    (λ n z. elim z [ inl p ↦ inl p | inr t ↦ inr (record { may = m; by = refl; stamp = record { number = (s.row i).number; log = (s.row i).log }; has = inl refl; number = t.0; remote = t.1 }) ])
    (λ n z. elim z [ inl p ↦ inl p | inr t ↦ inr (elim t.has [ inl e ↦ (ap (λ (x : Stamp). x.number) (sym e) ∙ t.number, ap (λ (x : Stamp). is_remote v (s.worker v).floor x.number x.log) (sym e) ∙ t.remote) | inr e ↦ absurd e ]) ])
    (owes_touched (P v) v (s.worker v).floor (s.worker v).debt (s.row i).number (s.row i).log (k v)))
    (λ w n z. z.by)
owe_event P g s (Event.Read v p j a) m q k = acts P g s (Event.Read v p j a) v (s.worker v).floor (at_pages s v (s.worker v) (p ∷ [])).debt (happens g s (Event.Read v p j a)).worker k (at_pages s v (s.worker v) (p ∷ [])) (λ w. refl) refl refl (acts_on P g s (Event.Read v p j a) v (p ∷ []) m k refl refl) (λ w n z. z.by)
owe_event P g s (Event.Next v p j a) m q k = go a m q
  where
    go : (a : MapAnswer) → may g s (Event.Next v p j a) ≡ true → needs g s (Event.Next v p j a) ≡ true → AllOwe (λ w n. P w n ⊎ IsRemoteTouch g s (Event.Next v p j a) w n) (follows g s v p a).worker
    go (MapAnswer.Pair at word) m q = acts P g s (Event.Next v p j (MapAnswer.Pair at word)) v (s.worker v).floor (at_pages s v (s.worker v) (p ∷ [])).debt (follows g s v p (MapAnswer.Pair at word)).worker k (at_pages s v (s.worker v) (p ∷ [])) (λ w. refl) refl refl (acts_on P g s (Event.Next v p j (MapAnswer.Pair at word)) v (p ∷ []) m k refl refl) (λ w n z. z.by)
    go (MapAnswer.Gap h) m q = acts P g s (Event.Next v p j (MapAnswer.Gap h)) v (s.worker v).floor (at_pages s v (s.worker v) (p ∷ [])).debt (follows g s v p (MapAnswer.Gap h)).worker k (at_pages s v (s.worker v) (p ∷ [])) (λ w. refl) refl refl (acts_on P g s (Event.Next v p j (MapAnswer.Gap h)) v (p ∷ []) m k refl refl) (λ w n z. z.by)
    go (MapAnswer.Value x) m q = absurd (no_answer g s v p j (MapAnswer.Value x) refl q)
    go (MapAnswer.Was x) m q = absurd (no_answer g s v p j (MapAnswer.Was x) refl q)
owe_event P g s (Event.Change v p j x) m q k = acts P g s (Event.Change v p j x) v (s.worker v).floor (at_pages s v (s.worker v) (p ∷ [])).debt (happens g s (Event.Change v p j x)).worker k
    (record (at_pages s v (s.worker v) (p ∷ [])) { clock = suc (at_pages s v (s.worker v) (p ∷ [])).clock; changes = write_entry g Kind.Change s v (at_pages s v (s.worker v) (p ∷ [])) p j x ∷ (s.worker v).changes }) (λ w. refl) refl refl (acts_on P g s (Event.Change v p j x) v (p ∷ []) m k refl refl) (λ w n z. z.by)
owe_event P g s (Event.Put_back v p) m q k = go (s.worker v).changes (and_parts (s.worker v).is_open (may_put_back g (s.page p).node p (s.worker v).changes) q).1
  where
    go : (cs : List Entry) → may_put_back g (s.page p).node p cs ≡ true → AllOwe (λ w n. P w n ⊎ IsRemoteTouch g s (Event.Put_back v p) w n) (put_back g s v p cs).worker
    go [] z = absurd (true≢false (sym z))
    go (c ∷ cs) z = acts P g s (Event.Put_back v p) v (s.worker v).floor (at_pages s v (s.worker v) (p ∷ [])).debt (put_back g s v p (c ∷ cs)).worker k
        (record (at_pages s v (s.worker v) (p ∷ [])) { clock = suc (at_pages s v (s.worker v) (p ∷ [])).clock; changes = cs }) (λ w. refl) refl refl (acts_on P g s (Event.Put_back v p) v (p ∷ []) m k refl refl) (λ w n z. z.by)
owe_event P g s (Event.Split v l r p j) m q k = owe_moves P g s (Event.Split v l r p j) Kind.Split v (l ∷ r ∷ p ∷ []) (record_needs.split_record (nodes_of s) (gsns_of s) l r p j) m k refl refl (λ w n z. z.by)
owe_event P g s (Event.Lift v c) m q k = owe_moves P g s (Event.Lift v c) Kind.Lift v (0 ∷ c ∷ []) (record_needs.lift_record (nodes_of s) (gsns_of s) c) m k refl refl (λ w n z. z.by)
owe_event P g s (Event.Join v l r p) m q k = owe_moves P g s (Event.Join v l r p) Kind.Join v (l ∷ r ∷ p ∷ []) (record_needs.join_record (nodes_of s) (gsns_of s) l r p) m k refl refl (λ w n z. z.by)
owe_event P g s (Event.Drop v c) m q k = owe_moves P g s (Event.Drop v c) Kind.Drop v (0 ∷ c ∷ []) (record_needs.drop_record (nodes_of s) (gsns_of s) c) m k refl refl (λ w n z. z.by)
owe_event P g s (Event.Purge v p keys) m q k = owe_moves P g s (Event.Purge v p keys) Kind.Purge v (p ∷ []) (record_needs.purge_record (gsns_of s) p keys) m k refl refl (λ w n z. z.by)
owe_event P g s (Event.End v commit f) m q k = quiet P g s (Event.End v commit f) (upd s.worker v (finished (s.worker v) (suc (s.worker v).clock))) k (λ w n z. z.by)
    (λ w. at_place (λ j b. Owes (P j) (s.worker j).floor (s.worker j).debt → Owes (P j) b.floor b.debt) s.worker v (finished (s.worker v) (suc (s.worker v).clock)) w
    (λ e o. subst (λ (j : ℕ). Owes (P w) (s.worker j).floor (s.worker j).debt) e o) (λ _ o. o))
owe_event P g s (Event.Fetch p pairs) m q k = quiet P g s (Event.Fetch p pairs) s.worker k (λ w n z. z.by) (λ w o. o)
owe_event P g s (Event.Sync n) m q k = quiet P g s (Event.Sync n) (happens g s (Event.Sync n)).worker k (λ w n z. z.by) (λ w o. o)
owe_event P g s (Event.Enter w e) m q k = quiet P g s (Event.Enter w e) s.worker k (λ w n z. z.by) (λ w o. o)
owe_event P g s (Event.Leave w) m q k = quiet P g s (Event.Leave w) s.worker k (λ w n z. z.by) (λ w o. o)
owe_event P g s (Event.Peek w p j a) m q k = quiet P g s (Event.Peek w p j a) s.worker k (λ w n z. z.by) (λ w o. o)
owe_event P g s (Event.Unlock w i) m q k = quiet P g s (Event.Unlock w i) s.worker k (λ w n z. z.by) (λ w o. o)
owe_event P g s (Event.Flush w n) m q k = quiet P g s (Event.Flush w n) s.worker k (λ w n z. z.by) (λ w o. o)
owe_event P g s (Event.Post w n) m q k = quiet P g s (Event.Post w n) s.worker k (λ w n z. z.by) (λ w o. o)
owe_event P g s (Event.Load p f) m q k = quiet P g s (Event.Load p f) s.worker k (λ w n z. z.by) (λ w o. o)
owe_event P g s (Event.Cool p) m q k = quiet P g s (Event.Cool p) s.worker k (λ w n z. z.by) (λ w o. o)
owe_event P g s (Event.Rescue p) m q k = quiet P g s (Event.Rescue p) s.worker k (λ w n z. z.by) (λ w o. o)
owe_event P g s (Event.Save p) m q k = quiet P g s (Event.Save p) s.worker k (λ w n z. z.by) (λ w o. o)
owe_event P g s (Event.Evict p) m q k = quiet P g s (Event.Evict p) s.worker k (λ w n z. z.by) (λ w o. o)
owe_event P g s Event.Tick m q k = quiet P g s Event.Tick s.worker k (λ w n z. z.by) (λ w o. o)
owe_event P g s (Event.Cut x heads) m q k = quiet P g s (Event.Cut x heads) s.worker k (λ w n z. z.by) (λ w o. o)
owe_event P g s (Event.Ask w) m q k = quiet P g s (Event.Ask w) s.worker k (λ w n z. z.by) (λ w o. o)
owe_event P g s (Event.Refused w n i) m q k = quiet P g s (Event.Refused w n i) s.worker k (λ w n z. z.by) (λ w o. o)
owe_event P g s (Event.Miss w) m q k = quiet P g s (Event.Miss w) s.worker k (λ w n z. z.by) (λ w o. o)

owe_step : (P : ℕ → ℕ → Type 0) (g : Opening) (s : State) (e : Event) → AllOwe P s.worker → AllOwe (λ w n. P w n ⊎ IsRemoteTouch g s e w n) (step g s e).worker
owe_step P g s e k = go (may g s e) refl
  where
    go : (b : Bool) → may g s e ≡ b → AllOwe (λ w n. P w n ⊎ IsRemoteTouch g s e w n) (cond b (happens g s e) s).worker
    go true m = owe_event P g s e m (and_parts (are_hot s (pages_of e)) (needs g s e) m).1 k
    go false m = λ w. owes_more (P w) (λ n. P w n ⊎ IsRemoteTouch g s e w n) (s.worker w).floor (s.worker w).debt (λ n p. inl p) (λ n q. elim q [ inl p ↦ p | inr z ↦ absurd (true≢false (sym z.may ∙ m)) ]) (k w)

pub owe_run : (P : ℕ → ℕ → Type 0) (g : Opening) (es : List Event) (s : State) → AllOwe P s.worker → AllOwe (λ w n. P w n ⊎ Touched g s es w n) (run g s es).worker
owe_run P g [] s k = λ w. owes_more (P w) (λ n. P w n ⊎ ⊥) (s.worker w).floor (s.worker w).debt (λ n p. inl p) (λ n q. elim q [ inl p ↦ p | inr z ↦ absurd z ]) (k w)
owe_run P g (e ∷ es) s k = λ w. owes_more (λ n. (P w n ⊎ IsRemoteTouch g s e w n) ⊎ Touched g (step g s e) es w n) (λ n. P w n ⊎ Touched g s (e ∷ es) w n) ((run g (step g s e) es).worker w).floor ((run g (step g s e) es).worker w).debt
    (λ n q. elim q [ inl a ↦ elim a [ inl p ↦ inl p | inr t ↦ inr (inl t) ] | inr t ↦ inr (inr t) ])
    (λ n q. elim q [ inl p ↦ inl (inl p) | inr a ↦ elim a [ inl t ↦ inl (inr t) | inr t ↦ inr t ] ])
    (owe_run (λ w n. P w n ⊎ IsRemoteTouch g s e w n) g es (step g s e) (owe_step P g s e k) w)

pub every_need : EveryNeed
every_need g es w commit f m = (least_of, greatest)
  where
    s : State
    s = run g (start g) es

    a : Worker
    a = s.worker w

    o : Owes (λ n. ⊥ ⊎ Touched g (start g) es w n) a.floor a.debt
    o = owe_run (λ _ _. ⊥) g es (start g) (λ v. record { most = λ n z. absurd z; one = inl refl }) w

    low : a.floor ≤ f
    low =
        let q = (and_parts true (needs g s (Event.End w commit f)) m).1 in
        let p = and_parts a.is_open (leb a.floor f && (leb f (flushed_by_all g s) && (commit || is_empty a.changes))) q in
        leb-true a.floor f (and_parts (leb a.floor f) (leb f (flushed_by_all g s) && (commit || is_empty a.changes)) p.1).0

    is_debt : f < a.debt → need_of a.debt f ≡ a.debt
    is_debt l = cond-true (ltb f a.debt) a.debt 0 (lt-ltb f a.debt l)

    least_of : (n : ℕ) → Touched g (start g) es w n → f < n → (need_of a.debt f ≡ 0 → ⊥) × (n ≤ need_of a.debt f)
    least_of n t l = let q = o.most n (inr t) in let z = low in let d : f < a.debt = omega arith in let e = is_debt d in ((λ u. absurd (omega arith)), omega arith)

    greatest : (need_of a.debt f ≡ 0 → ⊥) → Touched g (start g) es w (need_of a.debt f) × (f < need_of a.debt f)
    greatest nz = elim (cases_lt f a.debt) [
      | inr le ↦ absurd (nz (cond-false (ltb f a.debt) a.debt 0 (le-ltb f a.debt le)))
      | inl lt ↦ (let e = is_debt lt in elim o.one [
        | inl z ↦ absurd (omega arith)
        | inr p ↦ elim p [ inl b ↦ absurd b | inr t ↦ (subst (λ i. Touched g (start g) es w i) (sym e) t, omega arith) ]
      ])
    ]

-- ## What a worker knows

abbrev ended_of : (s : State) (y : Entry) → EndOf s.entries y → Ended s y
ended_of s y d = record { end = d.end; has = d.stands; is_end = d.is_end; same = same_from d.end y d.same }

pub debt_in : (g : Opening) (s : State) → Inv g s → (w : ℕ) → Debt g s w
debt_in g s i w = record { pages = pages; rows = rows; floor = o.floor; debt = o.debt }
  where
    F : ℕ
    F = flushed_by_all g s

    o : Rattle.core_commit.proofs.Invariants.WorkerOk g F s.floor (s.flushed w) s.entries s.row w (s.worker w)
    o = i.workers w

    pages : (r y : Entry) (p : ℕ) → Has r s.entries → Has y s.entries → r.log ≡ w → touches p r ≡ true → touches p y ≡ true → y.number < r.number → Knows g s w y
    pages r y p ir iy l tr ty lt =
        let pr = has_before r s.entries ir in
        let py = has_before y s.entries iy in
        each_at (λ (r : Entry) (b : List Entry). r.log ≡ w → (p : ℕ) → touches p r ≡ true → (y : Entry) → Has y b → touches p y ≡ true → Covered w (max (s.worker w).debt F) y) s.entries r pr.0 o.pages pr.1 l p tr y
        (behind pr.0 py.0 pr.1 py.1) ty
      where
        behind : (br byy : List Entry) → Before r br s.entries → Before y byy s.entries → Has y br
        behind br byy pr py = elim (compare s.entries r br y byy pr py) [
          | inl q ↦ (let e = ap (λ (z : Entry). z.number) q.0 in absurd (omega arith))
          | inr q ↦ elim q [
            | inl q ↦ (let n = each_at (Recorded g F) s.entries y byy i.records py in
                let up = n.rises p ty in
                let le = number_le_gsn g F p byy (Rattle.core_commit.proofs.History.each_behind (Recorded g F) s.entries y byy i.records py) r (before_has r br byy q) tr in absurd (omega arith))
            | inr q ↦ before_has y byy br q
          ]
        ]

    rows : (j : ℕ) → holds_row (s.row j) w ≡ true → (y : Entry) → Has y s.entries → is_write y.kind ≡ true → g.row_of y.key ≡ j → (y.log ≡ w) ⊎ ((d : Ended s y) × Knows g s w d.end)
    rows j h y iy ky row = elim ((i.rows j).touched w (holds_to (s.row j) w h) y iy (write_claims y ky) row) [ inl e ↦ inl e | inr d ↦ inr (ended_of s y d.0, d.2) ]

pub every_debt : EveryDebt
every_debt g es w = debt_in g (run g (start g) es) (good_run g es (start g) (good_start g)).inv w
