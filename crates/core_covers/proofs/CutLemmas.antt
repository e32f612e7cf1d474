-- A cut's need is met by what covers know, and its number behind a sync.
use Rattle.std.proofs.Common.{◌≡◌, inl, inr, ◌≤◌, ◌<◌, ◌==◌, ◌&&◌, ◌||◌, ℕ, Bool, true, false, not, leb, List, [], ◌∷◌, Some, None, refl, sym, ◌∙◌, arith, true≢false}
use Rattle.std.proofs.lemmas.Bool.{and_parts, and_from, cases_Bool, le-leb, leb-true, or_left, or_right, not-true, not_from_false, cases_lt, cond-true, cond-false, eq-eqb}
use Rattle.map_model.specs.Lists.{Has, all, any}
use Rattle.map_model.proofs.ListLemmas.{any_has, has_any}
use Rattle.core_paging.specs.image_model.Entries.{Entry, is_end, is_record, same_txn}
use Rattle.page_model.specs.Records.{Ref}
use Rattle.core_paging.specs.core_state.Openings.{Opening}
use Rattle.core_paging.specs.core_state.States.{State, flushed_by_all}
use Rattle.core_paging.specs.core_state.Events.{Event}
use Rattle.core_paging.specs.core_state.Needs.{is_ripe_end, is_ripe_up_to, is_saved_up_to}
use Rattle.core_paging.specs.core_state.Steps.{state_after}
use Rattle.core_paging.proofs.core_commit.History.{EndOf, ref_touch, same_from, same_to}
use Rattle.core_paging.proofs.core_commit.Invariants.{Inv}
use Rattle.core_paging.proofs.core_commit.Lists.{Within, least_le}
use Rattle.core_covers.specs.Changes.{EveryChange, HasChanges}
use Rattle.core_covers.specs.Cuts.{EveryCutMet, EveryCutNumber}
use Rattle.core_covers.specs.Lows.{IsAllFlushed}
use Rattle.core_covers.specs.Firsts.{EveryFirst, IsBelowFirsts, first_of, is_own, oldest}
use Rattle.core_covers.proofs.ChangeLemmas.{good, recorded}
use Rattle.core_covers.proofs.CoverLemmas.{saved_up}
use Rattle.core_covers.proofs.FirstLemmas.{oldest_has, own_is}

-- ## Lists

all_from : {A : Type 0} (p : A → Bool) (xs : List A) → ((x : A) → Has x xs → p x ≡ true) → all p xs ≡ true
all_from p [] h = refl
all_from p (x ∷ xs) h = and_from (p x) (all p xs) (h x (inl refl)) (all_from p xs (λ y i. h y (inr i)))

any_none : {A : Type 0} (p : A → Bool) (xs : List A) → ((x : A) → Has x xs → p x ≡ true → ⊥) → not (any p xs) ≡ true
any_none p xs h = elim (cases_Bool (any p xs)) [
  | inr none ↦ not_from_false (any p xs) none
  | inl has ↦ absurd (let q = any_has p xs has in h q.0 q.1 q.2)
]

-- ## The need

saved_word : (g : Opening) (es : List Event) (x : ℕ) → ((p : ℕ) → HasChanges (state_after g es) p x ((state_after g es).saved p).gsn) → is_saved_up_to (state_after g es) x ≡ true
saved_word g es x up = all_from (λ r. not (leb r.number x) || all (λ f. leb r.number (s.saved f.page).gsn) r.refs) s.entries (λ r h. elim (cases_Bool (leb r.number x)) [
  | inr none ↦ or_left (not (leb r.number x)) (all (λ f. leb r.number (s.saved f.page).gsn) r.refs) (not_from_false (leb r.number x) none)
  | inl has ↦ or_right (not (leb r.number x)) (all (λ f. leb r.number (s.saved f.page).gsn) r.refs)
      (all_from (λ (f : Ref). leb r.number (s.saved f.page).gsn) r.refs (λ f i. le-leb r.number (s.saved f.page).gsn (up f.page r h (ref_touch r f i) (leb-true r.number x has))))
])
  where
    s : State
    s = state_after g es

pub every_cut_met : EveryChange → EveryCutMet
every_cut_met changes g es cover firm x c m = record {
  met = λ heads. and_from (leb x (flushed_by_all g s)) (is_ripe_up_to g s x && is_saved_up_to s x) (le-leb x (flushed_by_all g s) m.flushed)
      (and_from (is_ripe_up_to g s x) (is_saved_up_to s x) m.ripe (saved_word g es x (λ p. saved_up changes g es cover c.framed p x m.covered)));
  has = λ p lt. c.synced p x lt m.covered;
}
  where
    s : State
    s = state_after g es

-- ## The number

module _ (firsts : EveryFirst) (g : Opening) (es : List Event) where
  abbrev s : State
  s = state_after g es

  abbrev F : ℕ
  F = flushed_by_all g s

  inv : Inv g s
  inv = (good g es).inv

  within : (r : Entry) → Has r s.entries → Within g.workers r.log
  within r h = (recorded g F s.entries inv.records r h).0

  abbrev ripes : Entry → Bool
  ripes r = any (λ e. is_ripe_end s.flushed F r e) s.entries

  -- where no clock is above what is flushed everywhere, each end is ripe
  ripe_end : IsAllFlushed g s → (r : Entry) (d : EndOf s.entries r) → ripes r ≡ true
  ripe_end all_flushed r d = has_any (λ e. is_ripe_end s.flushed F r e) s.entries d.end d.stands
      (and_from (is_end d.end.kind) (same_txn d.end r && (leb d.end.number (s.flushed d.end.log) && leb d.end.need F)) d.is_end
      (and_from (same_txn d.end r) (leb d.end.number (s.flushed d.end.log) && leb d.end.need F) (same_from d.end r d.same)
      (and_from (leb d.end.number (s.flushed d.end.log)) (leb d.end.need F) (le-leb d.end.number (s.flushed d.end.log) number) (le-leb d.end.need F need))))
    where
      w : Within g.workers d.end.log
      w = within d.end d.stands

      clock : (s.worker d.end.log).clock ≤ F
      clock = all_flushed d.end.log w.0 w.1

      number : d.end.number ≤ s.flushed d.end.log
      number =
          let a = ((inv.workers d.end.log).ends d.end d.stands d.is_end refl).0 in let b = (inv.workers d.end.log).end in let c = clock in let l = least_le s.flushed g.workers d.end.log w in omega arith

      need : d.end.need ≤ F
      need = let a = ((inv.workers d.end.log).ends d.end d.stands d.is_end refl).1 in let b = (inv.workers d.end.log).debt in let c = clock in omega arith

  below_ripe : IsAllFlushed g s → (x : ℕ) → IsBelowFirsts g s x → is_ripe_up_to g s x ≡ true
  below_ripe all_flushed x below = any_none (λ r. is_record r.kind && (leb r.number x && not (ripes r))) s.entries none
    where
      none : (r : Entry) → Has r s.entries → (is_record r.kind && (leb r.number x && not (ripes r))) ≡ true → ⊥
      none r h bad = elim ((inv.workers r.log).past r h refl) [
        | inr d ↦ true≢false (sym (ripe_end all_flushed r d) ∙ not-true (ripes r) b.1)
        | inl o ↦ (let f = (firsts g es r.log).least r h o.0 (and_from (is_record r.kind) ((r.log == r.log) && (r.txn == (s.worker r.log).txn)) a.0 (and_from (r.log == r.log) (r.txn == (s.worker r.log).txn) (eq-eqb r.log r.log refl) (eq-eqb r.txn (s.worker r.log).txn o.1))) in
            let w = within r h in let lt = below r.log f.first w.0 w.1 f.is in let le = f.low in let n = leb-true r.number x b.0 in absurd (omega arith))
      ]
        where
          a : (is_record r.kind ≡ true) × ((leb r.number x && not (ripes r)) ≡ true)
          a = and_parts (is_record r.kind) (leb r.number x && not (ripes r)) bad

          b : (leb r.number x ≡ true) × (not (ripes r) ≡ true)
          b = and_parts (leb r.number x) (not (ripes r)) a.1

  -- and a number that is ripe is below the first records of open transactions
  module _ (x : ℕ) (ripe : is_ripe_up_to g s x ≡ true) (w : ℕ) where
    -- none of an open transaction is up to it
    ended : (s.worker w).is_open ≡ true → (r : Entry) → Has r s.entries → is_record r.kind ≡ true → r.log ≡ w → r.txn ≡ (s.worker w).txn → r.number ≤ x → ⊥
    ended o r h k l t le = elim (cases_Bool (ripes r)) [
      | inl has ↦ (let e = any_has (λ e. is_ripe_end s.flushed F r e) s.entries has in
          let p = and_parts (is_end e.0.kind) (same_txn e.0 r && (leb e.0.number (s.flushed e.0.log) && leb e.0.need F)) e.2 in
          let m = same_to e.0 r (and_parts (same_txn e.0 r) (leb e.0.number (s.flushed e.0.log) && leb e.0.need F) p.1).0 in
          (inv.workers w).unended o e.0 e.1 p.0 (m.0 ∙ l) (m.1 ∙ t))
      | inr none ↦ true≢false (sym (has_any (λ r. is_record r.kind && (leb r.number x && not (ripes r))) s.entries r h (and_from (is_record r.kind) (leb r.number x && not (ripes r)) k (and_from (leb r.number x) (not (ripes r)) (le-leb r.number x le) (not_from_false (ripes r) none)))) ∙ not-true (any (λ r. is_record r.kind && (leb r.number x && not (ripes r))) s.entries) ripe)
    ]

    below_first : (n : ℕ) → (b : Bool) → (s.worker w).is_open ≡ b → first_of s w ≡ Some n → x < n
    below_first n false o first = absurd (none_some (sym (cond-false (s.worker w).is_open (oldest (is_own w (s.worker w).txn) s.entries) None o) ∙ first))
      where
        none_some : None ≡ Some n → ⊥
        none_some e = cc
    below_first n true o first = elim (cases_lt x n) [
      | inl lt ↦ lt
      | inr le ↦ absurd (let q = oldest_has (is_own w (s.worker w).txn) s.entries n (sym (cond-true (s.worker w).is_open (oldest (is_own w (s.worker w).txn) s.entries) None o) ∙ first) in
          let own = own_is w (s.worker w).txn q.0 q.2 in let e = q.3 in
          ended o q.0 q.1 own.0 own.1 own.2 (omega arith))
    ]

  ripe_below : (x : ℕ) → is_ripe_up_to g s x ≡ true → IsBelowFirsts g s x
  ripe_below x ripe w n low high first = below_first x ripe w n (s.worker w).is_open refl first

pub every_cut_number : EveryFirst → EveryCutNumber
every_cut_number firsts g es = record {
  below = ripe_below firsts g es;
  ripe = λ all_flushed x. below_ripe firsts g es all_flushed x;
  number = λ all_flushed cover x least. record {
    may_be = record { covered = least.covered; flushed = least.flushed; ripe = below_ripe firsts g es all_flushed x least.below };
    greatest = λ y m. least.greatest y m.covered m.flushed (ripe_below firsts g es y m.ripe);
  };
}
