-- A further session.
use Rattle.std.proofs.Common.{◌≡◌, ◌≤◌, ℕ, List, [], sym, ◌∙◌}
use Rattle.session_state.specs.Held.{Held}
use Rattle.session_state.specs.declared.session.Session.{Session}
use Rattle.session_state.specs.declared.undo.Undone.{Undone}

-- it holds no lock row and no free page, and has all else of the first one
pub further : (x : Session) (own : ℕ) (few : own ≤ 16) (undo : List Undone) (held : Held) (free : List ℕ) (n : ℕ) → undo ≡ [] → x.undo ≡ [] → held ≡ record { count = n; rows = [] } → n ≡ x.held.count → x.held.rows ≡ [] → free ≡ []
    → (k : own ≤ 16) × (record x { own = own; undo = undo; held = held; free = free; few = few } ≡ record x { own = own; free = []; few = k })
further x own few undo held free n u old_u h count rows f =
    let same : held ≡ x.held = h ∙ (λ i. record { count = count i; rows = sym rows i }) in
    (few, (λ i. record x { own = own; undo = (u ∙ sym old_u) i; held = same i; free = f i; few = few }))
