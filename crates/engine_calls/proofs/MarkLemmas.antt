-- Events of which nothing is told, among others.
use Rattle.std.proofs.Common.{◌≡◌, ℕ, Bool, true, false, cond, ◌||◌, List, [], ◌∷◌, ◌++◌, Option, None, refl, sym, ap, ap₂, ◌∙◌, true≢false}
use Rattle.map_model.specs.Lists.{any, keep}
use Rattle.map_model.specs.Maps.{MapAnswer}
use Rattle.run_crashes.specs.core_state.Openings.{Opening}
use Rattle.run_crashes.specs.core_state.States.{State}
use Rattle.run_crashes.specs.core_state.Events.{Event, Mode}
use Rattle.run_crashes.specs.core_state.Local.{is_of}
use Rattle.run_crashes.specs.core_state.Needs.{may}
use Rattle.run_crashes.specs.core_state.Steps.{AllMet, run, step}
use Rattle.run_crashes.specs.core_calls.Deeds.{commits}
use Rattle.run_crashes.specs.core_calls.Fronts.{AreFresh, IsFresh}
use Rattle.run_crashes.specs.core_calls.Marks.{Mark, mark, marks, met_in, onto}
use Rattle.run_crashes.specs.core_calls.Steps.{is_step}
use Rattle.run_crashes.proofs.core_calls.RunLemmas.{marks_run}
use Rattle.engine_calls.specs.Refused.{TakesRows}

-- ## Lists

pub either_false : (p q : Bool) → p ≡ false → q ≡ false → (p || q) ≡ false
either_false true q x y = x
either_false false q x y = y

first_false : (p q : Bool) → (p || q) ≡ false → p ≡ false
first_false true q x = x
first_false false q x = refl

second_false : (p q : Bool) → (p || q) ≡ false → q ≡ false
second_false true q x = absurd (true≢false x)
second_false false q x = x

pub any_append : {A : Type 0} (p : A → Bool) (a b : List A) → any p a ≡ false → any p b ≡ false → any p (a ++ b) ≡ false
any_append p [] b x y = y
any_append p (e ∷ a) b x y = either_false (p e) (any p (a ++ b)) (first_false (p e) (any p a) x) (any_append p a b (second_false (p e) (any p a) x) y)

pub keep_append : {A : Type 0} (p : A → Bool) (a b : List A) → keep p (a ++ b) ≡ keep p a ++ keep p b
keep_append p [] b = refl
keep_append p (e ∷ a) b = go (p e) (keep_append p a b)
  where
    go : (c : Bool) → keep p (a ++ b) ≡ keep p a ++ keep p b → cond c (e ∷ keep p (a ++ b)) (keep p (a ++ b)) ≡ cond c (e ∷ keep p a) (keep p a) ++ keep p b
    go true h = ap (λ xs. e ∷ xs) h
    go false h = h

pub keep_none : {A : Type 0} (p : A → Bool) (a : List A) → any p a ≡ false → keep p a ≡ []
keep_none p [] x = refl
keep_none p (e ∷ a) x = go (p e) (first_false (p e) (any p a) x) (keep_none p a (second_false (p e) (any p a) x))
  where
    go : (c : Bool) → c ≡ false → keep p a ≡ [] → cond c (e ∷ keep p a) (keep p a) ≡ []
    go true q h = absurd (true≢false q)
    go false q h = h

-- ## Events

-- a pair was met
abbrev pub is_pair : MapAnswer → Bool
is_pair (MapAnswer.Pair k v) = true
is_pair _ = false

-- its session is told of it
abbrev pub has_mark : Event → Bool
has_mark (Event.Begin w f) = true
has_mark (Event.Read w p k a) = true
has_mark (Event.Next w p k a) = is_pair a
has_mark (Event.Change w p k v) = true
has_mark (Event.Put_back w p) = true
has_mark (Event.End w commit f) = true
has_mark _ = false

pub no_step : (e : Event) → is_step e ≡ false → has_mark e ≡ false
no_step (Event.Begin w f) q = absurd (true≢false q)
no_step (Event.Read w p k a) q = absurd (true≢false q)
no_step (Event.Next w p k a) q = absurd (true≢false q)
no_step (Event.Change w p k v) q = absurd (true≢false q)
no_step (Event.Put_back w p) q = absurd (true≢false q)
no_step (Event.End w commit f) q = absurd (true≢false q)
no_step _ q = refl

pub no_mark : (g : Opening) (s : State) (e : Event) → has_mark e ≡ false → mark g s e ≡ None
no_mark g s (Event.Begin w f) q = absurd (true≢false q)
no_mark g s (Event.Read w p k a) q = absurd (true≢false q)
no_mark g s (Event.Next w p k a) q = go a q
  where
    go : (a : MapAnswer) → is_pair a ≡ false → met_in g s w p a ≡ None
    go (MapAnswer.Pair j v) q = absurd (true≢false q)
    go _ q = refl
no_mark g s (Event.Change w p k v) q = absurd (true≢false q)
no_mark g s (Event.Put_back w p) q = absurd (true≢false q)
no_mark g s (Event.End w commit f) q = absurd (true≢false q)
no_mark g s _ q = refl

pub is_fresh : (g : Opening) (s : State) (e : Event) → has_mark e ≡ false → IsFresh g s e
is_fresh g s (Event.Begin w f) q = absurd (true≢false q)
is_fresh g s (Event.End w commit f) q = absurd (true≢false q)
is_fresh g s _ q = tt

-- ## Runs

pub steps_none : (es : List Event) → any is_step es ≡ false → any has_mark es ≡ false
steps_none [] q = refl
steps_none (e ∷ es) q = either_false (has_mark e) (any has_mark es) (no_step e (first_false (is_step e) (any is_step es) q)) (steps_none es (second_false (is_step e) (any is_step es) q))

-- nothing is told
pub marks_none : (g : Opening) (s : State) (es : List Event) (w : ℕ) (ms : List Mark) → any has_mark es ≡ false → marks g s es w ms ≡ ms
marks_none g s [] w ms q = refl
marks_none g s (e ∷ es) w ms q =
    marks_none g (step g s e) es w (cond (may g s e) (cond (is_of e w) (onto (mark g s e) ms) ms) ms) (second_false (has_mark e) (any has_mark es) q)
    ∙ go (may g s e) (is_of e w) (mark g s e) (no_mark g s e (first_false (has_mark e) (any has_mark es) q))
  where
    go : (a b : Bool) (o : Option Mark) → o ≡ None → cond a (cond b (onto o ms) ms) ms ≡ ms
    go false b o n = refl
    go true false o n = refl
    go true true o n = ap (λ (x : Option Mark). onto x ms) n

-- so of what follows alone is told
pub marks_last : (g : Opening) (s : State) (es more : List Event) (w : ℕ) → any has_mark es ≡ false → marks g s (es ++ more) w [] ≡ marks g (run g s es) more w []
marks_last g s es more w q = marks_run g s es more w [] ∙ ap (marks g (run g s es) more w) (marks_none g s es w [] q)

pub commits_none : (g : Opening) (s : State) (es : List Event) → any has_mark es ≡ false → (w : ℕ) → commits (marks g s es w []) ≡ false
commits_none g s es q w = ap commits (marks_none g s es w [] q)

pub fresh_append : (g : Opening) (s : State) (es more : List Event) → any has_mark es ≡ false → AreFresh g (run g s es) more → AreFresh g s (es ++ more)
fresh_append g s [] more q f = f
fresh_append g s (e ∷ es) more q f = (is_fresh g s e (first_false (has_mark e) (any has_mark es) q), fresh_append g (step g s e) es more (second_false (has_mark e) (any has_mark es) q) f)

pub fresh_none : (g : Opening) (s : State) (es : List Event) → any has_mark es ≡ false → AreFresh g s es
fresh_none g s [] q = tt
fresh_none g s (e ∷ es) q = (is_fresh g s e (first_false (has_mark e) (any has_mark es) q), fresh_none g (step g s e) es (second_false (has_mark e) (any has_mark es) q))

-- ## Needs

pub met_first : (g : Opening) (s : State) (es more : List Event) → AllMet g s (es ++ more) → AllMet g s es
met_first g s [] more m = tt
met_first g s (e ∷ es) more m = (m.0, met_first g (step g s e) es more m.1)

pub met_join : (g : Opening) (s : State) (es more : List Event) → AllMet g s es → AllMet g (run g s es) more → AllMet g s (es ++ more)
met_join g s [] more m n = n
met_join g s (e ∷ es) more m n = (m.0, met_join g (step g s e) es more m.1 n)

-- ## Rows that are taken

lock_first : (w : ℕ) (e : Event) (es : List Event) → TakesRows w (e ∷ es) → (has_mark e ≡ false) × TakesRows w es
lock_first w (Event.Lock v i mode) es t = (refl, t.1)
lock_first w _ es t = absurd t

pub taken_none : (w : ℕ) (es : List Event) → TakesRows w (keep is_step es) → any has_mark es ≡ false
taken_none w [] t = refl
taken_none w (e ∷ es) t = go (is_step e) refl (taken_none w es) t
  where
    go : (b : Bool) → is_step e ≡ b → (TakesRows w (keep is_step es) → any has_mark es ≡ false) → TakesRows w (cond b (e ∷ keep is_step es) (keep is_step es)) → (has_mark e || any has_mark es) ≡ false
    go true q h t = let x = lock_first w e (keep is_step es) t in either_false (has_mark e) (any has_mark es) x.0 (h x.1)
    go false q h t = either_false (has_mark e) (any has_mark es) (no_step e q) (h t)

-- ## One row that is taken

module _ (w i : ℕ) (mode : Mode) (before between : List Event) (b : any is_step before ≡ false) (c : any is_step between ≡ false) where
  abbrev lock : Event
  lock = Event.Lock w i mode

  abbrev first : List Event
  first = before ++ lock ∷ between

  pub first_none : any has_mark first ≡ false
  first_none = any_append has_mark before (lock ∷ between) (steps_none before b) (steps_none between c)

  pub first_steps : (e : Event) → is_step e ≡ true → keep is_step (first ++ e ∷ []) ≡ lock ∷ e ∷ []
  first_steps e q = keep_append is_step first (e ∷ [])
      ∙ ap₂ (λ (xs ys : List Event). xs ++ ys) (keep_append is_step before (lock ∷ between) ∙ ap₂ (λ (xs ys : List Event). xs ++ lock ∷ ys) (keep_none is_step before b) (keep_none is_step between c)) (go (is_step e) q)
    where
      go : (x : Bool) → x ≡ true → cond x (e ∷ []) [] ≡ e ∷ []
      go true y = refl
      go false y = absurd (true≢false (sym y))
