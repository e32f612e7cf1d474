-- Behind a conflict the abort was executed.
use Rattle.std.proofs.Common.{◌≡◌, ◌++◌, Bool, true, false, cond, List, [], ◌∷◌, refl, sym, ap, subst, true≢false, Option, Some}
use Rattle.std.proofs.lemmas.List.{append-nil}
use Rattle.map_model.specs.Journals.{Name}
use Rattle.map_model.specs.Pairings.{is_open_line}
use Rattle.buffered_engine.specs.core_state.Openings.{Opening}
use Rattle.buffered_engine.specs.core_calls.Fronts.{Done, outcomes}
use Rattle.buffered_engine.specs.engine_calls.Clauses.{IsNewLine}
use Rattle.buffered_engine.specs.engine_front.Turns.{IsNext}
use Rattle.buffered_engine.specs.engine_front.declared.calls.Next.{Next}
use Rattle.buffered_engine.specs.engine_front.declared.calls.Next.TheVariants.{Line}
use Rattle.script_run.specs.Runs.{EngineStands, calls_of, works_on}
use Rattle.script_run.specs.declared.stop.Stop.{Stop}
use Rattle.script_run.specs.declared.stop.Stop.TheVariants as stops
use Rattle.lean_shell.specs.Runs.{IsClosed}

new_line : (xs : List Done) → IsNewLine (outcomes xs) → is_open_line (calls_of xs) ≡ false
new_line [] l = refl
new_line (y ∷ earlier) l = ap (λ (b : Bool). cond b false true) l.1

-- of an engine that stands in such runs, and of which this may be asked next
module _ (Stands : List Done → Option (List Name) → Type 0) (next : Next) (told : (xs : List Done) (names : List Name) → Stands xs (Some names) → IsNext next xs) (g : Opening) where
  closed_in : (xs : List Done) (names : List Name) → Stands xs (Some names) → next ≡ Line → is_open_line (calls_of xs) ≡ false
  closed_in xs names r line = new_line xs (subst (λ (n : Next). IsNext n xs) line (told xs names r))

  at_stop : (stop : Stop) (xs : List Done) → EngineStands stop (Stands xs) g xs → ((stop ≡ stops.WriteFault → ⊥) → works_on stop ≡ true → next ≡ Line) → IsClosed stop xs
  at_stop stops.End xs s line w d = closed_in xs _ s (line w d)
  at_stop (stops.Refused number) xs s line w d = closed_in xs _ s (line w d)
  at_stop stops.ReadFault xs s line w d = closed_in xs _ s (line w d)
  at_stop stops.WriteFault xs s line w d = absurd (w refl)
  at_stop stops.DiskFault xs s line w d = absurd (true≢false (sym d))
  at_stop (stops.Damaged place) xs s line w d = absurd (true≢false (sym d))

  pub closed_by : (stop : Stop) (newer : List Done) → EngineStands stop (Stands (newer ++ [])) g (newer ++ []) → ((stop ≡ stops.WriteFault → ⊥) → works_on stop ≡ true → next ≡ Line) → IsClosed stop newer
  closed_by stop newer s line = subst (IsClosed stop) (append-nil newer) (at_stop stop (newer ++ []) s line)
