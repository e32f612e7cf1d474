-- What a sync needs, once each log is flushed: its number is the greatest clock, and no record is above what is flushed.
use Rattle.std.proofs.Common.{◌≡◌, ◌≤◌, ◌<◌, ◌+◌, ◌^◌, ◌*◌, ◌⊎◌, inl, inr, ◌==◌, ◌&&◌, ◌++◌, not, ltb, max, ℕ, zero, suc, Bool, true, false, List, [], ◌∷◌, length, get_or, refl, sym, ap, ◌∙◌, subst, arith, eq-eqb}
use Rattle.std.proofs.lemmas.Bool.{and_from, and_parts, cases_eq, cases_lt, ltb-true}
use Rattle.map_model.specs.Lists.{Has}
use Rattle.map_model.proofs.ListLemmas.{any_has}
use Rattle.session_state.specs.image_model.Entries.{Entry, is_record}
use Rattle.session_state.specs.core_state.Lists.{most}
use Rattle.session_state.specs.core_state.States.{State, flushed_by_all, start}
use Rattle.session_state.specs.core_state.Events as happening
use Rattle.session_state.specs.core_state.Needs.{is_behind, may}
use Rattle.session_state.proofs.core_commit.Controls.{le_most}
use Rattle.session_state.proofs.core_commit.History.{IsRecorded}
use Rattle.session_state.proofs.core_commit.Lists.{Within}
use Rattle.session_state.proofs.core_commit.Runs.{Good, good_run, good_start}
use Rattle.session_state.specs.row_opening.Openings.{EveryReached}
use Rattle.session_state.specs.row_words.Moments.{events_of}
use Rattle.session_state.specs.row_words.Openings.{opening}
use Rattle.session_state.specs.rows_trait.declared.view.View.{View}
use Rattle.session_state.specs.rows_trait.Views.{Shape, state}
use Rattle.session_state.specs.Numbers.{AreClocksLow, AreNumbered}
use Rattle.session_desks.specs.Desks.{desk_of, log_of, place_of}
use Rattle.session_desks.specs.Machines.{AreDesks, AreLogged}
use Rattle.session_desks.specs.Syncs.{HasOpening, greatest}
use Rattle.session_desks.specs.declared.desk.Desk.{Desk}
use Rattle.session_desks.proofs.DeskLemmas.{desk_apart, desk_own, place_apart, place_low}
use Rattle.session_desks.proofs.SeatLemmas.{turn_high, turn_low}

-- ## The greatest clock

pub greatest_first : (n : ℕ) (ds : List Desk) → n ≤ greatest n ds
greatest_first n [] = omega arith
greatest_first n (d ∷ ds) = let a = greatest_first (max n d.session.clock.clock) ds in omega arith

greatest_each : (n : ℕ) (ds : List Desk) (i : ℕ) (x : Desk) → i < length ds → (get_or ds i x).session.clock.clock ≤ greatest n ds
greatest_each n [] i x lt = absurd (omega arith)
greatest_each n (d ∷ ds) zero x lt = let a = greatest_first (max n d.session.clock.clock) ds in omega arith
greatest_each n (d ∷ ds) (suc i) x lt = greatest_each (max n d.session.clock.clock) ds i x (omega arith)

-- it is one of them
record IsOne (n : ℕ) (ds : List Desk) (found : ℕ) : Type 0 where
  pub at : ℕ
  pub within : at < length ds
  pub is : (x : Desk) → (get_or ds at x).session.clock.clock ≡ found

greatest_is : (n : ℕ) (ds : List Desk) → (greatest n ds ≡ n) ⊎ IsOne n ds (greatest n ds)
greatest_is n [] = inl refl
greatest_is n (d ∷ ds) = go (greatest_is (max n d.session.clock.clock) ds)
  where
    go : (greatest (max n d.session.clock.clock) ds ≡ max n d.session.clock.clock) ⊎ IsOne (max n d.session.clock.clock) ds (greatest (max n d.session.clock.clock) ds) → (greatest n (d ∷ ds) ≡ n) ⊎ IsOne n (d ∷ ds) (greatest n (d ∷ ds))
    go (inl e) = elim (cases_lt n d.session.clock.clock) [
      | inl lt ↦ inr (record { at = 0; within = omega arith; is = λ x. omega arith })
      | inr le ↦ inl (omega arith)
    ]
    go (inr o) = inr (record { at = suc o.at; within = let a = o.within in omega arith; is = o.is })

-- the greatest of f 1 to f k
most_up : (f : ℕ → ℕ) (n k : ℕ) → 0 < k → ((w : ℕ) → 0 < w → w ≤ k → f w ≤ n) → most f k ≤ n
most_up f n zero some h = absurd (omega arith)
most_up f n (suc zero) some h = let a = h 1 (omega arith) (omega arith) in omega arith
most_up f n (suc (suc k)) some h = let a = h (suc (suc k)) (omega arith) (omega arith) in let b = most_up f n (suc k) (omega arith) (λ w low high. h w low (omega arith)) in omega arith

most_is : (f : ℕ → ℕ) (n k w : ℕ) → 0 < w → w ≤ k → f w ≡ n → ((u : ℕ) → 0 < u → u ≤ k → f u ≤ n) → n ≡ most f k
most_is f n k w low high is h = let a = most_up f n k (omega arith) h in let b = le_most f k w (low, high) in omega arith

-- whose desk stands at a place
pub record Seats (own i : ℕ) (w : ℕ) : Type 0 where
  pub low : 0 < w
  pub other : w ≡ own → ⊥
  pub place : place_of own w ≡ i
  pub high : (w ≡ suc (suc i)) ⊎ (w ≡ 1)

pub seats : (own i : ℕ) → (w : ℕ) × Seats own i w
seats own i = elim (cases_eq (suc (suc i)) own) [
  | inl e ↦ (1, record { low = omega arith; other = λ q. absurd (omega arith); place = omega arith; high = inr refl })
  | inr n ↦ (suc (suc i), record { low = omega arith; other = λ q. absurd (n q); place = place_apart own (suc (suc i)) (λ q. absurd (omega arith)) ∙ omega arith; high = inl refl })
]

module _ (z : Shape) (v : View) (work : Desk) (desks : List Desk) (are : AreDesks z v work desks) where
  abbrev many : ℕ
  many = work.session.workers

  abbrev number : ℕ
  number = greatest work.session.clock.clock desks

  one_some : 0 < many
  one_some = let a = turn_low z v work desks are in let b = turn_high z v work desks are in omega arith

  pub desk_low : (w : ℕ) → 0 < w → w ≤ many → (desk_of work desks w).session.clock.clock ≤ number
  desk_low w low high = elim (cases_eq w work.session.own) [
    | inl e ↦ (let a = ap (λ (d : Desk). d.session.clock.clock) (desk_own work desks w e) in let b = greatest_first work.session.clock.clock desks in omega arith)
    | inr n ↦ (
        let a = ap (λ (d : Desk). d.session.clock.clock) (desk_apart work desks w n) in
        let b = greatest_each work.session.clock.clock desks (place_of work.session.own w) work (place_low work.session.own w many desks are.count (turn_low z v work desks are) (turn_high z v work desks are) low high n) in
        omega arith)
  ]

  -- somebody's clock is the number
  pub who : (w : ℕ) × (0 < w) × (w ≤ many) × ((desk_of work desks w).session.clock.clock ≡ number)
  who = go (greatest_is work.session.clock.clock desks)
    where
      go : (number ≡ work.session.clock.clock) ⊎ IsOne work.session.clock.clock desks number → (w : ℕ) × (0 < w) × (w ≤ many) × ((desk_of work desks w).session.clock.clock ≡ number)
      go (inl e) = (work.session.own, turn_low z v work desks are, turn_high z v work desks are, ap (λ (d : Desk). d.session.clock.clock) (desk_own work desks work.session.own refl) ∙ sym e)
      go (inr o) = let s = seats work.session.own o.at in
          (s.0, s.1.low, high s.1.high, ap (λ (d : Desk). d.session.clock.clock) (desk_apart work desks s.0 s.1.other) ∙ (ap (λ (i : ℕ). (get_or desks i work).session.clock.clock) s.1.place ∙ o.is work))
        where
          high : {w : ℕ} → (w ≡ suc (suc o.at)) ⊎ (w ≡ 1) → w ≤ many
          high (inl e) = let a = o.within in let b = are.count in omega arith
          high (inr e) = let a = one_some in omega arith

  clock_at : (w : ℕ) → 0 < w → w ≤ many → ((state v).core.worker w).clock ≡ (desk_of work desks w).session.clock.clock
  clock_at w low high = let d = are.each w low high in ap (λ (u : ℕ). ((state v).core.worker u).clock) (sym d.own) ∙ d.holds.session.clock

  workers_are : (opening v.given).workers ≡ many
  workers_are = (are.each 1 (omega arith) one_some).holds.rows.workers ∙ (are.each 1 (omega arith) one_some).workers

  -- numbers were in order where the rows began
  pub numbered : AreNumbered v.given
  numbered = (are.each 1 (omega arith) one_some).holds.rows.numbered

  number_is : number ≡ most (λ w. ((state v).core.worker w).clock) (opening v.given).workers
  number_is = let w = who in most_is (λ u. ((state v).core.worker u).clock) number (opening v.given).workers w.0 w.1 (let a = workers_are in let b = w.2 in omega arith) (clock_at w.0 w.1 w.2 ∙ w.3)
      (λ u low high. let b : u ≤ many = subst (λ n. u ≤ n) workers_are high in let a = clock_at u low b in let c = desk_low u low b in omega arith)

  -- ## No record is above

  module _ (reached : EveryReached) (o : HasOpening v.given) (logged : AreLogged (state v).core (log_of work desks) many) (flushed : (w : ℕ) → 0 < w → w ≤ many → (log_of work desks w).flushed ≡ (log_of work desks w).last) where
    pub good : Good o.opening (state v).core
    good = subst (Good o.opening) (sym (reached o.opening v.given o.opens v.seen)) (good_run o.opening (events_of v.given.before ++ events_of v.seen) (start o.opening) (good_start o.opening))

    entered : (F : ℕ) (h : List Entry) (r : Entry) → IsRecorded o.opening F h → Has r h → Within o.opening.workers r.log
    entered F [] r i has = absurd has
    entered F (x ∷ h) r i (inl e) = subst (λ (y : Entry). Within o.opening.workers y.log) (sym e) i.0.log
    entered F (x ∷ h) r i (inr has) = entered F h r i.1 has

    none_behind : (r : Entry) → Has r (state v).core.entries → (is_record r.kind && ltb ((state v).core.flushed r.log) r.number) ≡ true → ⊥
    none_behind r has q =
        let p = and_parts (is_record r.kind) (ltb ((state v).core.flushed r.log) r.number) q in
        let i = entered (flushed_by_all o.opening (state v).core) (state v).core.entries r good.inv.records has in
        let high : r.log ≤ many = let a = i.1 in let b = o.opens.workers in let c = workers_are in omega arith in
        let l = logged r.log i.0 high in
        let a = l.last r has p.0 refl in let b = l.flushed in let c = flushed r.log i.0 high in let d = ltb-true ((state v).core.flushed r.log) r.number p.1 in absurd (omega arith)

    not_behind : is_behind (state v).core ≡ false
    not_behind = go (is_behind (state v).core) refl
      where
        go : (b : Bool) → is_behind (state v).core ≡ b → b ≡ false
        go true e = let r = any_has (λ r. is_record r.kind && ltb ((state v).core.flushed r.log) r.number) (state v).core.entries e in absurd (none_behind r.0 r.1 r.2)
        go false e = refl

    pub sync_met : may (opening v.given) (state v).core (happening.Event.Sync number) ≡ true
    sync_met = and_from (number == most (λ w. ((state v).core.worker w).clock) (opening v.given).workers) (not (is_behind (state v).core))
        (eq-eqb number (most (λ w. ((state v).core.worker w).clock) (opening v.given).workers) number_is) (ap not not_behind)

    -- each clock is at the floor at least
    pub floor_low : (state v).core.floor ≤ number
    floor_low =
        let a = (good.inv.workers 1).flushed in
        let b = (good.inv.workers 1).based (omega arith, (let b = o.opens.workers in let c = workers_are in let d = one_some in omega arith)) in
        let c = clock_at 1 (omega arith) one_some in let d = desk_low 1 (omega arith) one_some in omega arith

    -- where that is the number, each log ends there
    pub end_at_floor : number ≤ (state v).core.floor → (w : ℕ) → 0 < w → w ≤ many → (log_of work desks w).last ≡ number
    end_at_floor le w low high =
        let based = (good.inv.workers w).based (low, (let b = o.opens.workers in let c = workers_are in omega arith)) in
        let l = (logged w low high).flushed in
        let f = flushed w low high in
        let top = (are.each w low high).holds.numbers.last in let d = desk_low w low high in
        omega arith

    -- where clocks have come to their end at the opening, none has risen since
    pub low_or_floor : AreClocksLow v → (number ≤ 2 ^ 62 + 66 * 16) ⊎ (number ≡ (state v).core.floor)
    low_or_floor low = elim (cases_lt (2 ^ 62 + 66 * 16) number) [
      | inl far ↦ inr (
          let w = who in
          let a = low w.0 in let b = clock_at w.0 w.1 w.2 in let c = w.3 in
          let d = ap (λ (s : State). (s.worker 0).clock) o.opens.first in let e = good.inv.cuts.base in let f = floor_low in
          omega arith)
      | inr near ↦ inl near
    ]

  -- it fits a clock
  pub number_small : AreClocksLow v → number < 2 ^ 64
  number_small low =
      let w = who in
      let a = low w.0 in let b = clock_at w.0 w.1 w.2 in let c = w.3 in let d = numbered.small in
      omega arith

  -- no log goes above it
  pub within : (w : ℕ) → 0 < w → w ≤ many → (log_of work desks w).last ≤ number
  within w low high = let a = (are.each w low high).holds.numbers.last in let b = desk_low w low high in omega arith
