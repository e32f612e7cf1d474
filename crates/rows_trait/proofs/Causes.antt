-- What a call has loaded: the causes of its refusals.
use Rattle.std.proofs.Common.{◌≡◌, ◌≢◌, ℕ, ◌+◌, ◌*◌, ◌%◌, ◌≤◌, inl, inr, List, [], ◌∷◌, ◌++◌, refl, sym, ap, subst, ◌∙◌, append_assoc}
use Rattle.row_words.specs.declared.event.Event.{Event}
use Rattle.rows_trait.specs.declared.view.Act.{Act}
use Rattle.rows_trait.specs.declared.view.Act.TheVariants.{Look, Load, Store, Set, Hear, Turn}
use Rattle.rows_trait.specs.declared.view.View.{View}
use Rattle.rows_trait.specs.Views.{Shape, Since, AreLow}
use Rattle.rows_trait.specs.Causes.{AreLoads, Finds, OnlyLoads, HasFound, IsLatched, HasMoved}
use Rattle.rows_trait.specs.Turns.{Looked, Loaded, Stepped}

pub loads_append : (ss ts : List Act) → AreLoads ss → AreLoads ts → AreLoads (ss ++ ts)
loads_append [] ts a b = b
loads_append (Look q n at ∷ ss) ts a b = loads_append ss ts a b
loads_append (Load q i n ∷ ss) ts a b = loads_append ss ts a b
loads_append (Store q i n ∷ ss) ts a b = absurd a
loads_append (Set q n ∷ ss) ts a b = absurd a
loads_append (Hear c j n ∷ ss) ts a b = loads_append ss ts a b
loads_append (Turn c j n ∷ ss) ts a b = absurd a

-- what was found before
pub finds_older : (row n : ℕ) (ss ts : List Act) → Finds row n ts → Finds row n (ss ++ ts)
finds_older row n [] ts h = h
finds_older row n (Look q m at ∷ ss) ts h = inr (finds_older row n ss ts h)
finds_older row n (Load q i m ∷ ss) ts h = finds_older row n ss ts h
finds_older row n (Store q i m ∷ ss) ts h = finds_older row n ss ts h
finds_older row n (Set q m ∷ ss) ts h = finds_older row n ss ts h
finds_older row n (Hear c j m ∷ ss) ts h = finds_older row n ss ts h
finds_older row n (Turn c j m ∷ ss) ts h = finds_older row n ss ts h

pub finds_newer : (row n : ℕ) (ss ts : List Act) → Finds row n ss → Finds row n (ss ++ ts)
finds_newer row n [] ts h = absurd h
finds_newer row n (Look q m at ∷ ss) ts (inl t) = inl t
finds_newer row n (Look q m at ∷ ss) ts (inr t) = inr (finds_newer row n ss ts t)
finds_newer row n (Load q i m ∷ ss) ts h = finds_newer row n ss ts h
finds_newer row n (Store q i m ∷ ss) ts h = finds_newer row n ss ts h
finds_newer row n (Set q m ∷ ss) ts h = finds_newer row n ss ts h
finds_newer row n (Hear c j m ∷ ss) ts h = finds_newer row n ss ts h
finds_newer row n (Turn c j m ∷ ss) ts h = finds_newer row n ss ts h

since_older : (row s : ℕ) (at : List Event) (ss ts : List Act) → Since row s at ts → Since row s at (ss ++ ts)
since_older row s at [] ts h = h
since_older row s at (Look q m a ∷ ss) ts h = inr (since_older row s at ss ts h)
since_older row s at (Load q i m ∷ ss) ts h = since_older row s at ss ts h
since_older row s at (Store q i m ∷ ss) ts h = since_older row s at ss ts h
since_older row s at (Set q m ∷ ss) ts h = since_older row s at ss ts h
since_older row s at (Hear c j m ∷ ss) ts h = since_older row s at ss ts h
since_older row s at (Turn c j m ∷ ss) ts h = since_older row s at ss ts h

-- what was found is low
pub finds_low : (n : ℕ) (ss ts : List Act) (row m : ℕ) → AreLow n (ss ++ ts) → Finds row m ss → m ≤ 2 * n + 1
finds_low n [] ts row m low h = absurd h
finds_low n (Look q x at ∷ ss) ts row m low (inl t) = subst (λ z. z ≤ 2 * n + 1) t.1 low.0
finds_low n (Look q x at ∷ ss) ts row m low (inr t) = finds_low n ss ts row m low.1 t
finds_low n (Load q i x ∷ ss) ts row m low h = finds_low n ss ts row m low h
finds_low n (Store q i x ∷ ss) ts row m low h = finds_low n ss ts row m low h
finds_low n (Set q x ∷ ss) ts row m low h = finds_low n ss ts row m low h
finds_low n (Hear c j x ∷ ss) ts row m low h = finds_low n ss ts row m low h
finds_low n (Turn c j x ∷ ss) ts row m low h = finds_low n ss ts row m low h

abbrev pub loads_none : (v : View) → OnlyLoads v v
loads_none v = record { acts = []; steps = refl; loads = tt }

abbrev pub stepped_loads : {v w : View} → OnlyLoads v w → Stepped v w
stepped_loads o = record { acts = o.acts; steps = o.steps }

abbrev pub loads_then : (v w u : View) → OnlyLoads v w → OnlyLoads w u → OnlyLoads v u
loads_then v w u a b = record { acts = b.acts ++ a.acts; steps = b.steps ∙ (ap (λ z. b.acts ++ z) a.steps ∙ sym (append_assoc b.acts a.acts v.steps)); loads = loads_append b.acts a.acts b.loads a.loads }

abbrev pub looked_loads : (z : Shape) (row n : ℕ) (names : ℕ → List Event) (v w : View) → Looked z row names v n w → OnlyLoads v w
looked_loads z row n names v w l = record { acts = Look row n w.seen ∷ []; steps = l.steps; loads = tt }

abbrev pub loaded_loads : (z : Shape) (row i n : ℕ) (v w : View) → Loaded z row i v n w → OnlyLoads v w
loaded_loads z row i n v w l = record { acts = Load row i n ∷ []; steps = l.steps; loads = tt }

pub looked_found : (z : Shape) (row n : ℕ) (names : ℕ → List Event) (v w : View) → Looked z row names v n w → HasFound row n v w
looked_found z row n names v w l = record { loads = looked_loads z row n names v w l; finds = inl (refl, refl) }

pub looked_since : (z : Shape) (row n : ℕ) (names : ℕ → List Event) (v w : View) → n % 2 ≡ 0 → Looked z row names v n w → Since row n w.seen w.steps
looked_since z row n names v w ev l = let P : List Act → Type 0 = λ ss. Since row n w.seen ss in subst P (sym l.steps) (inl (refl, refl, refl, ev))

pub since_after : (row s : ℕ) (at : List Event) (v w : View) → OnlyLoads v w → Since row s at v.steps → Since row s at w.steps
since_after row s at v w o h = let P : List Act → Type 0 = λ ss. Since row s at ss in subst P (sym o.steps) (since_older row s at o.acts v.steps h)

-- what was found stays found, in a call that began before
pub found_after : (row n : ℕ) (u v w : View) → HasFound row n u v → OnlyLoads v w → HasFound row n u w
found_after row n u v w f o = record { loads = loads_then u v w f.loads o; finds = finds_older row n o.acts f.loads.acts f.finds }

pub found_before : (row n : ℕ) (u v w : View) → OnlyLoads u v → HasFound row n v w → HasFound row n u w
found_before row n u v w o f = record { loads = loads_then u v w o f.loads; finds = finds_newer row n f.loads.acts o.acts f.finds }

pub latched_before : (row word : ℕ) (u v w : View) → OnlyLoads u v → IsLatched row word v w → IsLatched row word u w
latched_before row word u v w o l = record { odd = l.odd; found = found_before row word u v w o l.found }

pub looked_latched : (z : Shape) (row n : ℕ) (names : ℕ → List Event) (v w : View) → n % 2 ≡ 1 → Looked z row names v n w → IsLatched row n v w
looked_latched z row n names v w odd l = record { odd = odd; found = looked_found z row n names v w l }

pub looked_moved : (z : Shape) (row seen n : ℕ) (names : ℕ → List Event) (u v w : View) → HasFound row seen u v → n ≢ seen → Looked z row names v n w → HasMoved row seen n u w
unfolding found_after found_before looked_found
looked_moved z row seen n names u v w f ne l =
    let o = looked_loads z row n names v w l in
    let a = found_after row seen u v w f o in
    record { unequal = ne; loads = a.loads; first = a.finds; last = (found_before row n u v w f.loads (looked_found z row n names v w l)).finds }
