-- The master that counts has further sequence numbers.
use Rattle.std.proofs.Common.{◌≡◌, ◌≤◌, ◌<◌, ◌+◌, ◌-◌, ◌*◌, ◌^◌, ◌++◌, inl, inr, ℕ, List, [], ◌∷◌, length, ap, sym, ◌∙◌, arith}
use Rattle.std.proofs.lemmas.Bool.{cases_lt}
use Rattle.std.proofs.lemmas.List.{length-append}
use Rattle.session_state.specs.disk_slots.declared.master.Master.{Master}
use Rattle.session_state.specs.row_words.declared.event.Event.{Event}
use Rattle.session_state.specs.rows_trait.declared.view.View.{View}
use Rattle.session_desks.specs.Machines.{HasNumbers}
use Rattle.session_desks.specs.Syncs.{next_with}

pub sequence_small : (m : Master) (seen logs : ℕ) → HasNumbers m seen logs → m.sequence + 1 < 2 ^ 63
sequence_small m seen logs h = let a = h.sequence in omega arith

-- behind further events
pub numbers_seen : (m : Master) (v w : View) (es : List Event) (logs : ℕ) → w.seen ≡ v.seen ++ es → HasNumbers m (length v.seen) logs → HasNumbers m (length w.seen) logs
numbers_seen m v w es logs more h = record { sequence = let a = h.sequence in let b : length w.seen ≡ length v.seen + length es = ap length more ∙ length-append v.seen es in omega arith; heads = h.heads }

-- behind one more, without counting it
pub numbers_before : (m : Master) (v w : View) (e : Event) (logs many : ℕ) → w.seen ≡ v.seen ++ e ∷ [] → many ≡ logs → HasNumbers m (length v.seen) logs → HasNumbers m (length w.seen - 1) many
numbers_before m v w e logs many more same h = record { sequence = let a = h.sequence in let b : length w.seen ≡ length v.seen + 1 = ap length more ∙ length-append v.seen (e ∷ []) in omega arith; heads = h.heads ∙ sym same }

-- behind a sync, by the next master
pub numbers_next : (m : Master) (n seen logs : ℕ) → HasNumbers m seen logs → m.floor ≤ n → (n ≡ m.floor → ⊥) → n ≤ 2 ^ 62 + 66 * 16 → HasNumbers (next_with m n) seen logs
numbers_next m n seen logs h low other high = record { sequence = let a = h.sequence in let b = risen in omega arith; heads = h.heads }
  where
    risen : m.floor < n
    risen = elim (cases_lt m.floor n) [ inl lt ↦ lt | inr le ↦ absurd (other (omega arith)) ]

-- Behind a cut too, where so few were made before it; and where as many were, a latch may be spent.
pub numbers_cut : (m : Master) (heads : List ℕ) (seen logs : ℕ) → HasNumbers m seen logs → m.sequence < 2 ^ 61 + 2 ^ 60 + m.floor → m.floor ≤ 2 ^ 62 + 66 * 16 → length heads ≡ logs → HasNumbers (record m { sequence = m.sequence + 1; heads = heads }) (seen + 2) logs
numbers_cut m heads seen logs h few low are = record { sequence = let a = h.sequence in omega arith; heads = are }

pub numbers_late : (m : Master) (seen logs : ℕ) → HasNumbers m seen logs → 2 ^ 61 + 2 ^ 60 + m.floor ≤ m.sequence → 2 ^ 61 ≤ seen
numbers_late m seen logs h many = let a = h.sequence in omega arith
