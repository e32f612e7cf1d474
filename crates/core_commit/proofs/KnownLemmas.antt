-- What is touched is known from then on.
use Rattle.map_model.specs.Lists.{Has}
use Rattle.core_state.specs.States.{State, flushed_by_all}
use Rattle.core_state.specs.Openings.{Opening}
use Rattle.core_state.specs.Events.{Event}
use Rattle.core_state.specs.Steps.{step, run}
use Rattle.core_commit.specs.Debts.{Stamp, stamps_of, touched, Touched}
use Rattle.core_commit.specs.Known.{Met, IsKnown, EveryKnown}
use Rattle.core_commit.proofs.Lists.{each_map}
use Rattle.core_commit.proofs.History.{Recorded}
use Rattle.core_commit.proofs.Invariants.{Inv, stamp_flushed}
use Rattle.core_commit.proofs.Runs.{Good, good_step, good_run}
use Rattle.core_commit.proofs.RiseLemmas.{rises_run}
use Rattle.core_commit.proofs.Debts.{owe_run, debt_in}
use Rattle.std.proofs.Common.{◌≡◌, ◌≤◌, ℕ, max, ◌&&◌, not, ltb, ◌==◌, List, [], ◌∷◌, ◌⊎◌, refl, sym, ap, ◌∙◌, inl, inr, arith}
use Rattle.std.proofs.lemmas.Bool.{cases_eq, cases_lt, and_from, lt-ltb, ne_eqb, not_from_false}

-- a stamp of no log is flushed everywhere
module _ (g : Opening) (s : State) (i : Inv g s) where
  of_pages : (ps : List ℕ) (x : Stamp) → Has x (stamps_of s ps) → x.log ≡ 0 → x.number ≤ flushed_by_all g s
  of_pages [] x h z = absurd h
  of_pages (p ∷ ps) x (inl e) z = let q = stamp_flushed g s i p (ap (λ (y : Stamp). y.log) (sym e) ∙ z) in let n = ap (λ (y : Stamp). y.number) e in omega arith
  of_pages (p ∷ ps) x (inr h) z = of_pages ps x h z

  of_none : (e : Event) (x : Stamp) → Has x (touched s e) → x.log ≡ 0 → x.number ≤ flushed_by_all g s
  of_none (Event.Lock v j mode) x (inl e) z = let q = (i.rows j).fresh (ap (λ (y : Stamp). y.log) (sym e) ∙ z) in let n = ap (λ (y : Stamp). y.number) e in omega arith
  of_none (Event.Lock v j mode) x (inr h) z = absurd h
  of_none (Event.Read v p k a) x h z = of_pages (p ∷ []) x h z
  of_none (Event.Next v p k a) x h z = of_pages (p ∷ []) x h z
  of_none (Event.Change v p k y) x h z = of_pages (p ∷ []) x h z
  of_none (Event.Put_back v p) x h z = of_pages (p ∷ []) x h z
  of_none (Event.Split v l r q j) x h z = of_pages (l ∷ r ∷ q ∷ []) x h z
  of_none (Event.Lift v c) x h z = of_pages (0 ∷ c ∷ []) x h z
  of_none (Event.Join v l r q) x h z = of_pages (l ∷ r ∷ q ∷ []) x h z
  of_none (Event.Drop v c) x h z = of_pages (0 ∷ c ∷ []) x h z
  of_none (Event.Purge v p keys) x h z = of_pages (p ∷ []) x h z
  of_none _ x h z = absurd h

-- it was remote then, or it is its own, or flushed everywhere
met_as : (g : Opening) (es : List Event) (s : State) → Good g s → (w : ℕ) (x : Stamp) → Met g s es w x → (x.log ≡ w) ⊎ (Touched g s es w x.number ⊎ (x.number ≤ flushed_by_all g (run g s es)))
met_as g [] s i w x m = absurd m
met_as g (e ∷ es) s i w x (inr m) = elim (met_as g es (step g s e) (good_step g s e i) w x m) [
  | inl o ↦ inl o
  | inr o ↦ elim o [ inl t ↦ inr (inl (inr t)) | inr l ↦ inr (inr l) ]
]
met_as g (e ∷ es) s i w x (inl m) = elim (cases_eq x.log w) [
  | inl o ↦ inl o
  | inr ne ↦ elim (cases_eq x.log 0) [
    | inl z ↦ (let l = of_none g s i.inv e x m.2 z in let u = up in inr (inr (omega arith)))
    | inr nz ↦ elim (cases_lt (s.worker w).floor x.number) [
      | inr l ↦ (let f = (i.inv.workers w).floor in let u = up in inr (inr (omega arith)))
      | inl l ↦ inr (inl (inl (record {
        may = m.0;
        by = m.1;
        stamp = x;
        has = m.2;
        number = refl;
        remote = and_from (ltb (s.worker w).floor x.number) (not (x.log == w) && not (x.log == 0)) (lt-ltb (s.worker w).floor x.number l)
            (and_from (not (x.log == w)) (not (x.log == 0)) (not_from_false (x.log == w) (ne_eqb x.log w ne)) (not_from_false (x.log == 0) (ne_eqb x.log 0 nz)));
      })))
    ]
  ]
]
  where
    up : flushed_by_all g s ≤ flushed_by_all g (run g s (e ∷ es))
    up = (rises_run g (e ∷ es) s i).flushed_by_all

met_known : (g : Opening) (es : List Event) (s : State) → Good g s → (w : ℕ) (x : Stamp) → Met g s es w x → IsKnown g (run g s es) w x
met_known g es s i w x m = elim (met_as g es s i w x m) [
  | inl o ↦ inl o
  | inr o ↦ elim o [
    | inr l ↦ inr (omega arith)
    | inl t ↦ (
        let q = (owe_run (λ v n. n ≤ max (s.worker v).debt (s.worker v).floor) g es s (λ v. record { most = λ n l. l; one = inr (omega arith) }) w).most x.number (inr t) in
        let f = ((good_run g es s i).inv.workers w).floor in
        inr (omega arith))
  ]
]

pub every_known : EveryKnown
every_known g s i = record {
  debts = debt_in g s i.inv;
  stamps = λ es w x m. met_known g es s i w x m;
  numbers = each_map (Recorded g (flushed_by_all g s)) _ s.entries (λ r b n. n.later) i.inv.records;
}
