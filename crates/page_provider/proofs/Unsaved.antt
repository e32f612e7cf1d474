-- Events that change nothing of what is saved, and of which the disk sees nothing.
use Rattle.std.proofs.Common.{◌≡◌, ◌≤◌, Bool, true, false, List, [], ◌∷◌, ◌++◌, ◌&&◌, refl, sym, arith, true≢false}
use Rattle.map_model.specs.Lists.{all}
use Rattle.disk_runs.specs.Quiet.{is_quiet}
use Rattle.held_rows.specs.Steps as held
use Rattle.btree_descent.specs.row_words.declared.event.Event.{Event}
use Rattle.btree_descent.specs.row_words.declared.event.Event.TheVariants.{Cool, Miss, Tick}
use Rattle.btree_descent.specs.row_words.Moments.{event_of, events_of}
use Rattle.page_provider.specs.Mirrored.{NoSaves}
use Rattle.page_provider.specs.Moves.{AreTicked, others_in}
use Rattle.page_provider.specs.Steps.{IsMissAtMost}

-- ## Misses

pub misses_quiet : (es : List Event) → held.AreMisses es → all is_quiet (events_of es) ≡ true
misses_quiet [] m = refl
misses_quiet (Miss w ∷ es) m = misses_quiet es m
misses_quiet (_ ∷ es) m = absurd m

pub few_quiet : (es : List Event) → IsMissAtMost es → all is_quiet (events_of es) ≡ true
few_quiet [] k = refl
few_quiet (Miss w ∷ []) k = refl
few_quiet (Miss w ∷ (e ∷ es)) k = absurd k
few_quiet (_ ∷ es) k = absurd k

pub misses_none : (es : List Event) → held.AreMisses es → NoSaves es
misses_none [] k = tt
misses_none (Miss w ∷ es) k = (refl, misses_none es k)
misses_none (_ ∷ es) k = absurd k

pub few_none : (es : List Event) → IsMissAtMost es → NoSaves es
few_none [] k = tt
few_none (Miss w ∷ []) k = (refl, tt)
few_none (Miss w ∷ (e ∷ es)) k = absurd k
few_none (_ ∷ es) k = absurd k

-- ## Pages that cool

pub cools_quiet : (es : List Event) → AreTicked es → others_in es ≤ 0 → all is_quiet (events_of es) ≡ true
cools_quiet [] t few = refl
cools_quiet (Cool p ∷ (Tick ∷ es)) t few = cools_quiet es t few
cools_quiet (Cool p ∷ _) t few = absurd t
cools_quiet (Tick ∷ es) t few = absurd t
cools_quiet (_ ∷ es) t few = absurd (omega arith)

pub cools_none : (es : List Event) → AreTicked es → others_in es ≤ 0 → NoSaves es
cools_none [] t few = tt
cools_none (Cool p ∷ (Tick ∷ es)) t few = (refl, (refl, cools_none es t few))
cools_none (Cool p ∷ _) t few = absurd t
cools_none (Tick ∷ es) t few = absurd t
cools_none (_ ∷ es) t few = absurd (omega arith)

-- ## Together

pub quiet_append : (es fs : List Event) → all is_quiet (events_of es) ≡ true → all is_quiet (events_of fs) ≡ true → all is_quiet (events_of (es ++ fs)) ≡ true
quiet_append [] fs a b = b
quiet_append (e ∷ es) fs a b = go (is_quiet (event_of e)) a (λ k. quiet_append es fs k b)
  where
    go : (q : Bool) → (q && all is_quiet (events_of es)) ≡ true → (all is_quiet (events_of es) ≡ true → all is_quiet (events_of (es ++ fs)) ≡ true) → (q && all is_quiet (events_of (es ++ fs))) ≡ true
    go true k rest = rest k
    go false k rest = absurd (true≢false (sym k))

pub none_append : (es fs : List Event) → NoSaves es → NoSaves fs → NoSaves (es ++ fs)
none_append [] fs a b = b
none_append (e ∷ es) fs a b = (a.0, none_append es fs a.1 b)
