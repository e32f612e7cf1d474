-- What a disk gives of a page, where a run of the core stands over it.
use Rattle.std.proofs.Common.{◌≡◌, ◌<◌, ℕ, zero, suc, List, [], ◌∷◌, length, Some, slice_get, refl, sym, ap, ◌∙◌, arith}
use Rattle.btree_descent.specs.core_state.States.{State}
use Rattle.btree_descent.specs.core_state.Steps.{state_after}
use Rattle.lean_disk.specs.Story.{Story}
use Rattle.page_calls.specs.Calls.{EveryHeld}
use Rattle.row_opening.specs.Openings.{EveryReached}
use Rattle.btree_descent.specs.row_words.Openings.{opening}
use Rattle.btree_descent.specs.rows_trait.Views.{state}
use Rattle.page_provider.specs.Disks.{told}
use Rattle.page_provider.specs.Gives.{EveryGiven}

-- there is such a slot
record At {A : Type 0} (xs : List A) (i : ℕ) : Type 0 where
  pub item : A
  pub there : slice_get xs i ≡ Some item

at_least : {A : Type 0} (xs : List A) (i : ℕ) → i < length xs → At xs i
at_least [] i lt = absurd (omega arith)
at_least (x ∷ xs) zero lt = record { item = x; there = refl }
at_least (x ∷ xs) (suc i) lt = let k = at_least xs i (omega arith) in record { item = k.item; there = k.there }

pub given_is : (s : Story) → EveryHeld s → EveryReached → EveryGiven s
given_is s each reached g s0 x k v page below r =
    let count = r.on.knows.count in
    let format : g.format.pages ≡ x.master.pages = ap (λ f. f.pages) r.on.stands.is.format in
    let sizes : g.format.pages ≡ (opening v.given).format.pages = ap (λ f. f.pages) r.opens.format in
    let few : page < length k.slots = omega arith in
    let slot = at_least k.slots page few in
    let same : (state v).core ≡ state_after g (told v) = reached g v.given r.opens v.seen in
    record {
      tells = r.on.stands.tells 1 (omega arith);
      saved = λ y holds. each s0 g (told v) x k.slots k.generation page slot.item y r.on few slot.there (holds slot.item slot.there) ∙ ap (λ (t : State). t.saved page) (sym same);
    }
