-- The first broken rule is found exactly where a rule is broken.
use Rattle.std.proofs.Common.{◌≡◌, ◌<◌, ◌≤◌, ◌⊎◌, ℕ, zero, suc, Bool, true, false, cond, ◌||◌, not, ltb, List, [], ◌∷◌, Option, Some, None, refl, sym, ◌∙◌, ap, inl, inr, arith, true≢false}
use Rattle.std.proofs.lemmas.Bool.{cases_eq, and_parts, and_from, ltb-true, lt-ltb}
use Rattle.map_model.specs.Lists.{Has, all}
use Rattle.page_model.specs.Nodes.{Format}
use Rattle.page_model.specs.Check.{first_bad, first_break}
use Rattle.page_model.proofs.Check.{none_bad, bad_none, every_check}
use Rattle.image_model.specs.Entries.{Entry, Contents}
use Rattle.image_model.specs.Redo.{redo, passes, all_pass}
use Rattle.image_model.specs.Undo.{nodes_of}
use Rattle.image_model.specs.Images.{Image, sorted, bases, redone, lost, has_base, has_entry, IsFalling, IsSound}
use Rattle.image_model.specs.Damage.{Damage, page_damage, or_first, first_failing, first_in_logs, first_without, damage}
use Rattle.image_model.specs.Laws.{EveryDamage}
use Rattle.map_model.proofs.ListLemmas.{all_to, all_of}

some_not : (d : Damage) → Some d ≡ None → ⊥
some_not d e = cc

-- ## Of two, the first

both_none : (a b : Option Damage) → or_first a b ≡ None → (a ≡ None) × (b ≡ None)
both_none (Some d) b e = absurd (some_not d e)
both_none None b e = (refl, e)

none_both : (a b : Option Damage) → a ≡ None → b ≡ None → or_first a b ≡ None
none_both a b e f = ap (λ (x : Option Damage). or_first x b) e ∙ f

if_none : (b : Bool) (d : Damage) → cond b None (Some d) ≡ None → b ≡ true
if_none true d e = refl
if_none false d e = absurd (some_not d e)

none_if : (b : Bool) (d : Damage) → b ≡ true → cond b None (Some d) ≡ None
none_if b d e = ap (λ x. cond x None (Some d)) e

page_none : (kind : ℕ → Damage) (o : Option ℕ) → page_damage kind o ≡ None → o ≡ None
page_none kind (Some p) e = absurd (some_not (kind p) e)
page_none kind None e = refl

-- ## Lists of records

-- each record passes, with those behind it
abbrev AllPass : (Entry → List Entry → Bool) → List Entry → Type 0
AllPass test [] = Unit {0}
AllPass test (r ∷ z) = AllPass test z × (test r z ≡ true)

failing_to : (test : Entry → List Entry → Bool) (kind : ℕ → ℕ → Damage) (z : List Entry) → first_failing test kind z ≡ None → AllPass test z
failing_to test kind [] e = tt
failing_to test kind (r ∷ z) e =
    let b = both_none (first_failing test kind z) (cond (test r z) None (Some (kind r.log r.number))) e in
    (failing_to test kind z b.0, if_none (test r z) (kind r.log r.number) b.1)

failing_from : (test : Entry → List Entry → Bool) (kind : ℕ → ℕ → Damage) (z : List Entry) → AllPass test z → first_failing test kind z ≡ None
failing_from test kind [] a = refl
failing_from test kind (r ∷ z) a =
    none_both (first_failing test kind z) (cond (test r z) None (Some (kind r.log r.number))) (failing_from test kind z a.0) (none_if (test r z) (kind r.log r.number) a.1)

abbrev is_above : Entry → List Entry → Bool
is_above r z = all (λ x. ltb x.number r.number) z

falling_to : (z : List Entry) → AllPass is_above z → IsFalling z
falling_to [] a = tt
falling_to (r ∷ z) a = (falling_to z a.0, λ x h. ltb-true x.number r.number (all_to (λ y. ltb y.number r.number) z a.1 x h))

falling_from : (z : List Entry) → IsFalling z → AllPass is_above z
falling_from [] f = tt
falling_from (r ∷ z) f = (falling_from z f.0, all_of (λ y. ltb y.number r.number) z (λ x h. lt-ltb x.number r.number (f.1 x h)))

logs_to : (d : ℕ → Option Damage) (n : ℕ) → first_in_logs d n ≡ None → (w : ℕ) → 0 < w → w ≤ n → d w ≡ None
logs_to d zero e w some low = absurd (omega arith)
logs_to d (suc n) e w some low = go (logs_to d n) (cases_eq w (suc n))
  where
    both : (first_in_logs d n ≡ None) × (d (suc n) ≡ None)
    both = both_none (first_in_logs d n) (d (suc n)) e

    go : (first_in_logs d n ≡ None → (w : ℕ) → 0 < w → w ≤ n → d w ≡ None) → (w ≡ suc n) ⊎ (w ≡ suc n → ⊥) → d w ≡ None
    go ih (inl q) = ap d q ∙ both.1
    go ih (inr ne) = ih both.0 w some (omega arith)

logs_from : (d : ℕ → Option Damage) (n : ℕ) → ((w : ℕ) → 0 < w → w ≤ n → d w ≡ None) → first_in_logs d n ≡ None
logs_from d zero f = refl
logs_from d (suc n) f = none_both (first_in_logs d n) (d (suc n)) (logs_from d n (λ w s l. f w s (omega arith))) (f (suc n) (omega arith) (omega arith))

-- ## Redo and put-backs

pass_to : (f : Format) (page : ℕ → Contents) (z : List Entry) → AllPass (λ r z. passes f (redo page z).page r) z → all_pass f page z ≡ true
pass_to f page [] a = refl
pass_to f page (r ∷ z) a = and_from (all_pass f page z) (passes f (redo page z).page r) (pass_to f page z a.0) a.1

pass_from : (f : Format) (page : ℕ → Contents) (z : List Entry) → all_pass f page z ≡ true → AllPass (λ r z. passes f (redo page z).page r) z
pass_from f page [] e = tt
pass_from f page (r ∷ z) e = let b = and_parts (all_pass f page z) (passes f (redo page z).page r) e in (pass_from f page z b.0, b.1)

not_or : (a b : Bool) → (not a || b) ≡ true → a ≡ true → b ≡ true
not_or true b e h = e
not_or false b e h = absurd (true≢false (sym h))

or_not : (a b : Bool) → (a ≡ true → b ≡ true) → (not a || b) ≡ true
or_not true b f = f refl
or_not false b f = refl

without_to : (i : Image) (z : List Entry) → first_without i z ≡ None → (r : Entry) → Has r z → lost i r ≡ true → has_entry i r.key ≡ true
without_to i [] e r h l = absurd h
without_to i (x ∷ z) e r h l = go (without_to i z) h
  where
    both : (cond (not (lost i x) || has_entry i x.key) None (Some (Damage.No_entry x.log x.number)) ≡ None) × (first_without i z ≡ None)
    both = both_none (cond (not (lost i x) || has_entry i x.key) None (Some (Damage.No_entry x.log x.number))) (first_without i z) e

    here : lost i x ≡ true → has_entry i x.key ≡ true
    here = not_or (lost i x) (has_entry i x.key) (if_none (not (lost i x) || has_entry i x.key) (Damage.No_entry x.log x.number) both.0)

    go : (first_without i z ≡ None → (r : Entry) → Has r z → lost i r ≡ true → has_entry i r.key ≡ true) → (r ≡ x) ⊎ Has r z → has_entry i r.key ≡ true
    go ih (inl q) = ap (λ (y : Entry). has_entry i y.key) q ∙ here (sym (ap (λ (y : Entry). lost i y) q) ∙ l)
    go ih (inr m) = ih both.1 r m l

without_from : (i : Image) (z : List Entry) → ((r : Entry) → Has r z → lost i r ≡ true → has_entry i r.key ≡ true) → first_without i z ≡ None
without_from i [] f = refl
without_from i (x ∷ z) f =
    none_both (cond (not (lost i x) || has_entry i x.key) None (Some (Damage.No_entry x.log x.number))) (first_without i z)
    (none_if (not (lost i x) || has_entry i x.key) (Damage.No_entry x.log x.number) (or_not (lost i x) (has_entry i x.key) (f x (inl refl)))) (without_from i z (λ r h. f r (inr h)))

-- ## The whole

module _ (i : Image) where
  abbrev no_base : Option Damage
  no_base = page_damage Damage.No_base (first_bad i.format.pages (λ p. has_base (i.base p)))

  abbrev unordered : ℕ → Option Damage
  unordered w = first_failing is_above Damage.Unordered (i.log w)

  abbrev undoable : Option Damage
  undoable = first_failing (λ r z. passes i.format (redo (bases i) z).page r) Damage.Undoable (sorted i)

  abbrev broken : Option Damage
  broken = page_damage Damage.Broken (first_break i.format (nodes_of (redone i)))

  abbrev fourth : Option Damage
  fourth = or_first broken (first_without i (sorted i))

  abbrev third : Option Damage
  third = or_first undoable fourth

  abbrev second : Option Damage
  second = or_first (first_in_logs unordered i.logs) third

  sound : 0 < i.format.pages → damage i ≡ None → IsSound i
  sound some e =
      let a = both_none no_base second e in
      let b = both_none (first_in_logs unordered i.logs) third a.1 in
      let c = both_none undoable fourth b.1 in
      let d = both_none broken (first_without i (sorted i)) c.1 in
      record {
        whole = none_bad i.format.pages (λ p. has_base (i.base p)) (page_none Damage.No_base (first_bad i.format.pages (λ p. has_base (i.base p))) a.0);
        rising = λ w s l. falling_to (i.log w) (failing_to is_above Damage.Unordered (i.log w) (logs_to unordered i.logs b.0 w s l));
        done = pass_to i.format (bases i) (sorted i) (failing_to (λ r z. passes i.format (redo (bases i) z).page r) Damage.Undoable (sorted i) c.0);
        tree = (every_check i.format (nodes_of (redone i))).sound some (page_none Damage.Broken (first_break i.format (nodes_of (redone i))) d.0);
        entries = without_to i (sorted i) d.1;
      }

  complete : IsSound i → damage i ≡ None
  complete s =
      none_both no_base second (ap (page_damage Damage.No_base) (bad_none i.format.pages (λ p. has_base (i.base p)) s.whole))
      (none_both (first_in_logs unordered i.logs) third (logs_from unordered i.logs (λ w o l. failing_from is_above Damage.Unordered (i.log w) (falling_from (i.log w) (s.rising w o l))))
      (none_both undoable fourth (failing_from (λ r z. passes i.format (redo (bases i) z).page r) Damage.Undoable (sorted i) (pass_from i.format (bases i) (sorted i) s.done))
      (none_both broken (first_without i (sorted i)) (ap (page_damage Damage.Broken) ((every_check i.format (nodes_of (redone i))).complete s.tree))
      (without_from i (sorted i) s.entries))))

pub every_damage : EveryDamage
every_damage i = record { sound = sound i; complete = complete i }
