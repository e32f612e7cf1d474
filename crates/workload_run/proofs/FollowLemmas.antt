-- Each scan goes on where the answer before it says.
use Rattle.std.proofs.Common.{◌≡◌, ◌<◌, ◌+◌, ◌++◌, [], ◌∷◌, ℕ, Bool, true, false, cond, List, length, refl, sym, ap, ◌∙◌, subst, arith, true≢false}
use Rattle.std.proofs.lemmas.List.{length-append}
use Rattle.map_model.specs.declared.call.Answered.{Answered}
use Rattle.map_model.specs.declared.call.Call.{Call}
use Rattle.map_model.specs.Pairings.{is_open_line, script_of}
use Rattle.workload_run.specs.Plans.{EachFollows, Follows}

-- answers have a line
some_asked : (x : Answered) (xs : List Answered) → 0 < length (script_of (x ∷ xs))
some_asked x [] = omega arith
some_asked x (y ∷ ys) = go (some_asked y ys) (is_open_line (y ∷ ys))
  where
    go : 0 < length (script_of (y ∷ ys)) → (b : Bool) → 0 < length (cond b (script_of (y ∷ ys)) (script_of (y ∷ ys) ++ (x.session, x.call) ∷ []))
    go some true = some
    go some false = let n : length (script_of (y ∷ ys) ++ (x.session, x.call) ∷ []) ≡ length (script_of (y ∷ ys)) + 1 = length-append (script_of (y ∷ ys)) ((x.session, x.call) ∷ []) in omega (arith, n)

pub none_asked : (xs : List Answered) → length (script_of xs) ≡ 0 → EachFollows xs
none_asked [] none = tt
none_asked (x ∷ xs) none = let n : 0 < length (script_of (x ∷ xs)) = some_asked x xs in absurd (omega (arith, n, none))

-- Behind these answers come those to one line.
module _ (xs : List Answered) (session : ℕ) (c : Call) (follows : Follows xs c) (each : EachFollows xs) where
  pub line_follows : (ys : List Answered) → script_of ys ≡ (session, c) ∷ [] → EachFollows (ys ++ xs)
  line_follows [] is = absurd (let n : 0 ≡ 1 = ap (λ (ls : List (ℕ × Call)). length ls) is in omega (arith, n))
  line_follows (y ∷ []) is = (each, λ closed. let same : y.call ≡ c = (let e : (y.session, y.call) ∷ [] ≡ (session, c) ∷ [] = is in ap head_call e) in subst (Follows xs) (sym same) follows)
    where
      head_call : List (ℕ × Call) → Call
      head_call [] = c
      head_call (p ∷ ps) = p.1
  line_follows (y ∷ z ∷ zs) is = go (λ rest. line_follows (z ∷ zs) rest) (is_open_line (z ∷ zs)) refl
    where
      go : (script_of (z ∷ zs) ≡ (session, c) ∷ [] → EachFollows (z ∷ (zs ++ xs))) → (b : Bool) → is_open_line (z ∷ zs) ≡ b → EachFollows (y ∷ z ∷ (zs ++ xs))
      go earlier true open_now =
          let rest : script_of (z ∷ zs) ≡ (session, c) ∷ [] = sym (ap (λ b. cond b (script_of (z ∷ zs)) (script_of (z ∷ zs) ++ (y.session, y.call) ∷ [])) open_now) ∙ is in
          (earlier rest, λ closed. absurd (true≢false (sym open_now ∙ closed)))
      go earlier false closed =
          let all : script_of (z ∷ zs) ++ (y.session, y.call) ∷ [] ≡ (session, c) ∷ [] = sym (ap (λ b. cond b (script_of (z ∷ zs)) (script_of (z ∷ zs) ++ (y.session, y.call) ∷ [])) closed) ∙ is in
          let n : length (script_of (z ∷ zs)) + 1 ≡ 1 = sym (length-append (script_of (z ∷ zs)) ((y.session, y.call) ∷ [])) ∙ ap (λ (ls : List (ℕ × Call)). length ls) all in
          let some : 0 < length (script_of (z ∷ zs)) = some_asked z zs in
          absurd (omega (arith, n, some))
