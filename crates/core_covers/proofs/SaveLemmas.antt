-- Saves of pages change what is saved of them, and nothing else.
use Rattle.std.proofs.Common.{◌≡◌, inl, inr, ◌≤◌, ℕ, true, List, [], ◌∷◌, ◌++◌, refl, sym, ap, ◌∙◌, subst, arith}
use Rattle.std.proofs.lemmas.Bool.{cases_Bool, cond-true, ltb-false}
use Rattle.map_model.specs.Lists.{Has}
use Rattle.core_paging.specs.core_state.Openings.{Opening}
use Rattle.core_paging.specs.core_state.States.{Place, State, in_frame, start}
use Rattle.core_paging.specs.core_state.Events.{Event}
use Rattle.core_paging.specs.core_state.Needs.{is_dirty, may}
use Rattle.core_paging.specs.core_state.Steps.{AllMet, happens, run, state_after, step}
use Rattle.core_paging.proofs.core_state.Runs.{run_more}
use Rattle.core_paging.proofs.core_commit.Copies.{at_place}
use Rattle.core_covers.specs.Changes.{EveryChange}
use Rattle.core_covers.specs.Covers.{EveryIncrement, saves}

-- a page that is not dirty
abbrev IsClean : State → ℕ → Type 0
IsClean s p = (s.page p).gsn ≤ (s.saved p).gsn

-- pages stand where they stood, clean ones are clean, and so are those that were saved
record Saved (s t : State) (pages : List ℕ) : Type 0 where
  place : t.place ≡ s.place
  clean : (p : ℕ) → IsClean s p → IsClean t p
  saved : (p : ℕ) → Has p pages → IsClean t p

saved_run : (g : Opening) (pages : List ℕ) (s : State) → AllMet g s (saves pages) → Saved s (run g s (saves pages)) pages
saved_run g [] s met = record { place = refl; clean = λ p c. c; saved = λ p h. absurd h }
saved_run g (q ∷ pages) s met =
    let later = saved_run g pages (step g s (Event.Save q)) met.1 in record {
      place = later.place ∙ ap (λ (t : State). t.place) is;
      clean = λ p c. later.clean p (subst (λ (t : State). IsClean t p) (sym is) (clean p (λ _. c)));
      saved = λ p h. elim h [
        | inl e ↦ later.clean p (subst (λ (t : State). IsClean t p) (sym is) (clean p (λ ne. absurd (ne e))))
        | inr among ↦ later.saved p among
      ];
    }
  where
    is : step g s (Event.Save q) ≡ happens g s (Event.Save q)
    is = cond-true (may g s (Event.Save q)) (happens g s (Event.Save q)) s met.0

    clean : (p : ℕ) → ((p ≡ q → ⊥) → IsClean s p) → IsClean (happens g s (Event.Save q)) p
    clean p other = at_place (λ j v. (s.page j).gsn ≤ v.gsn) s.saved q (s.page q) p (λ e. let n = ap (λ (j : ℕ). (s.page j).gsn) e in omega arith) other

pub every_increment : EveryChange → EveryIncrement
every_increment changes g es k pages met dirty x p f stands here = (changes g (es ++ saves pages) p).clean x (subst (λ (t : State). IsClean t p) (sym at) now)
  where
    s : State
    s = state_after g es

    at : state_after g (es ++ saves pages) ≡ run g s (saves pages)
    at = run_more g (start g) es (saves pages)

    all : Saved s (run g s (saves pages)) pages
    all = saved_run g pages s met

    was : in_frame (s.place p) f ≡ true
    was = ap (λ (place : ℕ → Place). in_frame (place p) f) (sym all.place) ∙ (ap (λ (t : State). in_frame (t.place p) f) (sym at) ∙ stands)

    now : IsClean (run g s (saves pages)) p
    now = elim (cases_Bool (is_dirty s p)) [
      | inl has ↦ all.saved p (dirty p f was here has)
      | inr none ↦ all.clean p (ltb-false (s.saved p).gsn (s.page p).gsn none)
    ]
