-- What a failed call of a sink leaves.
use Rattle.std.proofs.Common.{◌≡◌, ◌⊎◌, ℕ, List, ◌++◌, take, refl, sym, ◌∙◌, ⊎_elim}
use Rattle.std.proofs.lemmas.List.{append-nil}
use Rattle.lean_edge.specs.Outside.{Puts}
use Rattle.lean_edge.specs.declared.sink.Put.TheVariants as put
use Rattle.std.specs.Prelude.{true}

-- nothing more, or a prefix
pub puts_prefix : (bytes old new : List ℕ) (prefix : ℕ) → (new ≡ old) ⊎ (new ≡ old ++ take prefix bytes) → Puts bytes put.Failed (record { tells = true; bytes = old }) (record { tells = true; bytes = new })
puts_prefix bytes old new prefix either = record {
  same = refl;
  done = λ e. absurd cc;
  failed = λ _. ⊎_elim (λ same. (0, λ _. same ∙ sym (append-nil old))) (λ held. (prefix, λ _. held)) either;
}
