-- How many pages are above what is flushed everywhere.
use Rattle.std.proofs.Common.{◌≡◌, ◌⊎◌, inl, inr, ◌≤◌, ◌+◌, ℕ, List, [], ◌∷◌, ◌++◌, length, sym, ap, ◌∙◌, subst, arith, append_assoc}
use Rattle.std.proofs.lemmas.Bool.{cases_Bool, lt-ltb, ltb-true}
use Rattle.std.proofs.lemmas.List.{append-nil}
use Rattle.map_model.specs.Lists.{Has}
use Rattle.core_paging.specs.image_model.Entries.{Contents, Entry, touches}
use Rattle.core_paging.specs.core_state.Openings.{Opening}
use Rattle.core_paging.specs.core_state.States.{State, flushed_by_all}
use Rattle.core_paging.specs.core_state.Events.{Event}
use Rattle.core_paging.specs.core_state.Steps.{state_after, step}
use Rattle.core_paging.specs.core_commit.Rises.{EveryRise}
use Rattle.core_paging.proofs.core_commit.Events.{touch_has}
use Rattle.core_paging.proofs.core_commit.History.{page_at, page_miss}
use Rattle.core_paging.proofs.core_commit.Runs.{Good, good_step}
use Rattle.core_covers.specs.Highs.{EveryHigh, is_above, pages_above, written_in, writes}
use Rattle.core_covers.specs.Lows.{EveryLow, IsAllFlushed}
use Rattle.core_covers.proofs.ChangeLemmas.{Enters, enters_step, good, state_then}
use Rattle.core_covers.proofs.CountLemmas.{count_more, count_none}

-- a page in which nothing is written keeps its number
gsn_same : (g : Opening) (s : State) → Good g s → (e : Event) (p : ℕ) → ((((step g s e).page p).gsn ≡ (s.page p).gsn)) ⊎ Has p (written_in e)
gsn_same g s i e p = go (enters_step g s e)
  where
    t : State
    t = step g s e

    -- by what the entries make of it
    by : (page_at g t.entries p).gsn ≡ (page_at g s.entries p).gsn → (t.page p).gsn ≡ (s.page p).gsn
    by same = ((good_step g s e i).inv.stamps p).0 ∙ (same ∙ sym (i.inv.stamps p).0)

    go : Enters s e t.entries → ((t.page p).gsn ≡ (s.page p).gsn) ⊎ Has p (written_in e)
    go (inl same) = inl (by (ap (λ (h : List Entry). (page_at g h p).gsn) same))
    go (inr one) = elim (cases_Bool (touches p one.0)) [
      | inl hit ↦ inr (touch_has s (written_in e) one.0 one.3 p hit)
      | inr miss ↦ inl (by (ap (λ (h : List Entry). (page_at g h p).gsn) one.1 ∙ ap (λ (c : Contents). c.gsn) (page_miss g p one.0 s.entries miss)))
    ]

module _ (rises : EveryRise) (g : Opening) where
  one : (es : List Event) (e : Event) → pages_above g (state_after g (es ++ e ∷ [])) ≤ pages_above g (state_after g es) + length (written_in e)
  one es e = subst (λ (t : State). pages_above g t ≤ pages_above g s + length (written_in e)) (sym (state_then g es e)) (count_more g.format.pages (is_above g s) (is_above g t) (written_in e) (λ p lt above. elim (gsn_same g s (good g es) e p) [
    | inl same ↦ inl (let a = ltb-true (flushed_by_all g t) (t.page p).gsn above in let b = (rises g es (e ∷ [])).flushed_by_all in lt-ltb (flushed_by_all g s) (s.page p).gsn (omega arith))
    | inr has ↦ inr has
  ]))
    where
      s : State
      s = state_after g es

      t : State
      t = step g s e

  rise : (later es : List Event) → pages_above g (state_after g (es ++ later)) ≤ pages_above g (state_after g es) + writes later
  rise [] es = let e = ap (λ (l : List Event). pages_above g (state_after g l)) (append-nil es) in omega arith
  rise (e ∷ later) es =
      let a = one es e in
      let b = rise later (es ++ e ∷ []) in
      let q = ap (λ (l : List Event). pages_above g (state_after g l)) (append_assoc es (e ∷ []) later) in omega arith

none : EveryLow → (g : Opening) (es : List Event) → IsAllFlushed g (state_after g es) → pages_above g (state_after g es) ≡ 0
none lows g es all_flushed = count_none g.format.pages (is_above g s) (λ p lt. elim (cases_Bool (is_above g s p)) [
  | inl above ↦ absurd (let a = ltb-true (flushed_by_all g s) (s.page p).gsn above in let b = lows g es all_flushed p in omega arith)
  | inr below ↦ below
])
  where
    s : State
    s = state_after g es

pub every_high : EveryLow → EveryRise → EveryHigh
every_high lows rises g es = record { none = none lows g es; rise = λ later. rise rises g later es }
