-- A tidying by hand.
use Rattle.std.specs.Prelude.{◌≡◌, ◌++◌, ◌^◌, ℕ, zero, suc, true, List, [], ◌∷◌}
use Rattle.page_model.specs.Nodes.{Node, free}
use Rattle.page_model.specs.Pairs.{Pair}
use Rattle.core_commit.specs.core_state.image_model.Entries.{Entry}
use Rattle.core_commit.specs.core_state.Events.{Event, Mode}
use Rattle.core_commit.specs.core_state.Openings.{Opening}
use Rattle.core_commit.specs.core_state.States.{State, nodes_of}
use Rattle.core_commit.specs.core_state.Steps.{run, state_after}
use Rattle.core_calls.specs.Room.{free_list}
use Rattle.tidy_rules.specs.Laws.{IsTidying}
use Rattle.tidy_rules.specs.Tidying.{Stage}

-- so many pairs from this key on, all with this word
abbrev pub pairs_from : (word n key : ℕ) → List Pair
pairs_from word zero k = []
pairs_from word (suc n) k = record { key = k; word = word } ∷ pairs_from word n (suc k)

-- and their keys
abbrev pub keys_from : (n key : ℕ) → List ℕ
keys_from zero k = []
keys_from (suc n) k = k ∷ keys_from n (suc k)

-- A root over two leaves. Of the keys 1 to 61 those up to 16 are tombstones.
abbrev pub two_leaves : ℕ → Node
two_leaves zero = record { live = true; level = 1; low = 0; high = 100; pairs = record { key = 0; word = 1 } ∷ record { key = 31; word = 2 } ∷ [] }
two_leaves (suc zero) = record { live = true; level = 0; low = 0; high = 31; pairs = pairs_from (2 ^ 63) 16 1 ++ pairs_from 7 14 17 }
two_leaves (suc (suc zero)) = record { live = true; level = 0; low = 31; high = 100; pairs = pairs_from 7 31 31 }
two_leaves (suc (suc (suc p))) = free

-- all pages stand in frames, and key 17's row is held alone
abbrev pub ready : Opening → State
ready g = state_after g (Event.Begin 1 81 ∷ Event.Load 1 1 ∷ Event.Load 2 2 ∷ Event.Lock 1 17 Mode.Alone ∷ [])

-- the sixteen tombstones go; of 14 and 31 entries the leaves are joined; and the root takes what is left
abbrev pub tidied : List Event
tidied = Event.Purge 1 1 (keys_from 16 1) ∷ Event.Join 1 1 2 0 ∷ Event.Drop 1 1 ∷ []

abbrev pub behind_it : Opening → State
behind_it g = run g (ready g) tidied

-- the numbers of these entries
abbrev pub numbers_of : List Entry → List ℕ
numbers_of [] = []
numbers_of (r ∷ rs) = r.number ∷ numbers_of rs

-- With number 81 as its base, two pages free and 45 pairs that are joined: a del of key 17 tidies with numbers 82 to 84, and changes its key with 85.
pub record WorkedTidying : Type 0 where
  pub opening : Opening
  pub base : opening.base ≡ 81
  pub joined : opening.joined ≡ 45
  pub nodes : (p : ℕ) → opening.node p ≡ two_leaves p
  pub tidies : IsTidying 1 opening (ready opening) 17 Stage.Before tidied
  pub root : (nodes_of (behind_it opening) 0).pairs ≡ pairs_from 7 14 17 ++ pairs_from 7 31 31
  pub freed : free_list opening (behind_it opening) ≡ 1 ∷ 2 ∷ []
  pub numbers : numbers_of (run opening (behind_it opening) (Event.Change 1 0 17 (2 ^ 63) ∷ [])).entries ≡ 85 ∷ 84 ∷ 83 ∷ 82 ∷ []
