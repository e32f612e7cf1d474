-- What a read gives of an area after writes within it.
use Rattle.std.proofs.Common.{◌≡◌, ◌⊎◌, inl, inr, ◌≤◌, ◌+◌, ◌-◌, ◌*◌, ℕ, List, [], ◌∷◌, length, take, drop, refl, sym, ◌∙◌, ap, arith}
use Rattle.std.proofs.lemmas.Bool.{cases_lt}
use Rattle.map_model.specs.Lists.{Has}
use Rattle.lean_shell.specs.image_model.Fair.{Touches, after_writes, piece}
use Rattle.lean_shell.proofs.image_model.FairLemmas.{ahead, behind, long_after}
use Rattle.lean_disk.specs.Area.{Write, put_over}
use Rattle.run_tests.specs.RuledOut.{EveryReadIsFair}

-- a write that touches the slot, or none does, and it stands
module _ (size p : ℕ) (first : List ℕ) where
  abbrev Stands : List Write → Type 0
  Stands ws = (length (after_writes first ws) ≡ length first) × (Touches size p ws ⊎ (piece size p (after_writes first ws) ≡ piece size p first))

  more : (w : Write) (older : List Write) → w.0 + length w.1 ≤ length first → Stands older → Stands (w ∷ older)
  more w older within s = (
    same,
    elim s.1 [
      | inl t ↦ inl (record { write = t.write; has = inr t.has; begins = t.begins; ends = t.ends })
      | inr stood ↦ elim (cases_lt w.0 (size * p + size)) [
        | inl begins ↦ elim (cases_lt (size * p) (w.0 + length w.1)) [
          | inl ends ↦ inl (record { write = w; has = inl refl; begins = begins; ends = ends })
          | inr before ↦ inr (by_place (omega (arith, before)) before ∙ stood)
        ]
        | inr after ↦ inr (ahead w.0 w.1 (after_writes first older) (size * p) size after (omega (arith, after, within, old)) ∙ stood)
      ]
    ],
  )
    where
      old : length (after_writes first older) ≡ length first
      old = s.0

      same : length (put_over w.0 w.1 (after_writes first older)) ≡ length first
      same = let long = long_after w.0 w.1 (after_writes first older) in omega (arith, long, old, within)

      by_place : w.0 ≤ size * p → w.0 + length w.1 ≤ size * p → piece size p (put_over w.0 w.1 (after_writes first older)) ≡ piece size p (after_writes first older)
      by_place low before =
          let k : w.0 + (size * p - w.0) ≡ size * p = omega (arith, low) in
          ap (λ (n : ℕ). take size (drop n (put_over w.0 w.1 (after_writes first older)))) (sym k)
          ∙ (ap (λ (l : List ℕ). take size l) (behind w.0 w.1 (after_writes first older) (size * p - w.0) (omega (arith, before))) ∙ ap (λ (n : ℕ). take size (drop n (after_writes first older))) k)

  stands : (ws : List Write) → ((w : Write) → Has w ws → w.0 + length w.1 ≤ length first) → Stands ws
  stands [] within = (refl, inr refl)
  stands (w ∷ older) within = more w older (within w (inl refl)) (stands older (λ x h. within x (inr h)))

pub every_read_is_fair : (size : ℕ) (IsSealed : List ℕ → Type 0) → EveryReadIsFair size IsSealed
every_read_is_fair size IsSealed first writes within p sealed = elim (stands size p first writes within).1 [
  | inl t ↦ inr (record { newer = []; older = writes; split = refl; touched = t; same = refl })
  | inr stood ↦ inl stood
]
