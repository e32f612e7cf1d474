-- One path behind another.
use Rattle.std.proofs.Common.{◌≡◌, ℕ, Bool, true, false, List, [], ◌∷◌, ◌++◌, refl, sym, ap, ap₂, ◌∙◌, subst, append_assoc}
use Rattle.core_state.specs.States.{State, start}
use Rattle.core_state.specs.Openings.{Opening}
use Rattle.core_state.specs.Events.{Event}
use Rattle.core_state.specs.Needs.{may}
use Rattle.core_state.specs.Steps.{happens, step, run, state_after, AllMet}
use Rattle.std.proofs.lemmas.Bool.{cond-true}
use Rattle.transactions.specs.Steps.{is_step_of, AreOnly, steps_of, is_half_after}
use Rattle.transactions.specs.Paths.{Goes, Takes, Idles, Did, IsFirstOf, Occurs}
use Rattle.transactions.proofs.QuietLemmas.{Same, quiet_run, met_parts, met_from, steps_more, quiet_steps, may_more, stepped, half_more, half_same}
use Rattle.core_state.proofs.Runs.{run_more}

pub only_more : (w : ℕ) (xs ys : List Event) → AreOnly w xs → AreOnly w ys → AreOnly w (xs ++ ys)
only_more w [] ys p q = q
only_more w (e ∷ xs) ys p q = (p.0, only_more w xs ys p.1 q)

-- the first ones of some are the first ones of more
pub first_more : (xs ys l : List Event) → IsFirstOf xs l → IsFirstOf (xs ++ ys) l
first_more xs ys l (rest, e) = (rest ++ ys, sym (append_assoc l rest ys) ∙ ap (λ (k : List Event). k ++ ys) e)

-- ## An event among others

pub occurs_behind : (g : Opening) (es xs ys : List Event) (e : Event) (At : State → Type 0) → Occurs g (es ++ xs) ys e At → Occurs g es (xs ++ ys) e At
occurs_behind g es xs ys e At o = record {
  before = xs ++ o.before;
  after = o.after;
  whole = ap (λ (l : List Event). xs ++ l) o.whole ∙ sym (append_assoc xs o.before (e ∷ o.after));
  at = subst (λ (l : List Event). At (state_after g l)) (append_assoc es xs o.before) o.at;
}

pub occurs_ahead : (g : Opening) (es xs ys : List Event) (e : Event) (At : State → Type 0) → Occurs g es xs e At → Occurs g es (xs ++ ys) e At
occurs_ahead g es xs ys e At o = record { before = o.before; after = o.after ++ ys; whole = ap (λ (l : List Event). l ++ ys) o.whole ∙ append_assoc o.before (e ∷ o.after) ys; at = o.at }

-- a step among quiet events, in the states before, at and after it
pub record Turn (g : Opening) (w : ℕ) (e : Event) (At : State → Type 0) (es more : List Event) : Type 0 where
  pub mid : State
  pub first : Same w (state_after g es) mid
  pub may : may g mid e ≡ true
  pub at : At mid
  pub last : Same w (happens g mid e) (state_after g (es ++ more))
  pub half : is_half_after w false (es ++ more) ≡ is_half_after w (is_half_after w false es) (e ∷ [])

module _ {A : Type 0} (S : Opening → List Event → List ℕ → A → Type 0) (L : Opening → List Event → List Event → A → A → Type 0) (Q : A → Bool) (K : ℕ → Event → Bool) (g : Opening) where
  -- L composes
  abbrev pub Joins : Type 0
  Joins = (es xs ys : List Event) (a b c : A) → L g es xs a b → L g (es ++ xs) ys b c → L g es (xs ++ ys) a c

  abbrev pub goes_then : Joins → (es xs ys : List Event) (m n : List ℕ) (a b c : A) → Goes S L Q K g es xs m a b → Goes S L Q K g (es ++ xs) ys n b c → Goes S L Q K g es (xs ++ ys) n a c
  goes_then j es xs ys m n a b c p q = record {
    met = met_from g (state_after g es) xs ys p.met (subst (λ (s : State). AllMet g s ys) (run_more g (start g) es xs) q.met);
    stands = subst (λ (l : List Event). S g l n c) (append_assoc es xs ys) q.stands;
    leaves = j es xs ys a b c p.leaves q.leaves;
    alone = q.alone ∙ p.alone;
  }

  abbrev pub did_then : Joins → (es : List Event) (w : ℕ) (xs ys : List Event) (m n : List ℕ) (a b c : A) → (p : Did S L Q K g es w xs m a b) → (q : Did S L Q K g (es ++ p.more) w ys n b c) → Did S L Q K g es w (xs ++ ys) n a c
  did_then j es w xs ys m n a b c p q = record {
    more = p.more ++ q.more;
    goes = goes_then j es p.more q.more m n a b c p.goes q.goes;
    steps_are = steps_more w p.more q.more ∙ ap₂ (λ (k l : List Event). k ++ l) p.steps_are q.steps_are;
    only = λ h. only_more w p.more q.more (p.only h) (q.only (p.goes.alone ∙ h));
    kinds = may_more (K w) p.more q.more p.kinds q.kinds;
  }

  abbrev pub did_idle : (es : List Event) (w : ℕ) (m : List ℕ) (a b : A) → Idles S L Q K g es w m a b → Did S L Q K g es w [] m a b
  did_idle es w m a b i = record { more = i.more; goes = i.goes; steps_are = quiet_steps w i.more i.quiet; only = i.only; kinds = i.kinds }

  abbrev pub did_take : (es : List Event) (w : ℕ) (e : Event) (At : State → Type 0) (m : List ℕ) (a b : A) → is_step_of w e ≡ true → Takes S L Q K g es w e At m a b → Did S L Q K g es w (e ∷ []) m a b
  did_take es w e At m a b own t = record {
    more = t.before ++ e ∷ t.after;
    goes = t.goes;
    steps_are =
        steps_more w t.before (e ∷ t.after)
        ∙ ap₂ (λ (k l : List Event). k ++ l) (quiet_steps w t.before t.quiet_before)
        (cond-true (is_step_of w e) (e ∷ steps_of w t.after) (steps_of w t.after) own ∙ ap (λ (l : List Event). e ∷ l) (quiet_steps w t.after t.quiet_after));
    only = t.only;
    kinds = t.kinds;
  }

  pub turn : (es : List Event) (w : ℕ) (e : Event) (At : State → Type 0) (m : List ℕ) (a b : A) → (t : Takes S L Q K g es w e At m a b) → Turn g w e At es (t.before ++ e ∷ t.after)
  turn es w e At m a b t =
      let s = state_after g es in
      let parts = met_parts g s t.before (e ∷ t.after) t.goes.met in
      let mid = run g s t.before in
      record {
        mid = mid;
        first = quiet_run g s w t.before parts.0 t.quiet_before;
        may = parts.1.0;
        at = t.at;
        last =
            subst (λ (u : State). Same w (happens g mid e) u) (sym (run_more g (start g) es (t.before ++ e ∷ t.after) ∙ run_more g s t.before (e ∷ t.after)))
            (subst (λ (v : State). Same w v (run g (step g mid e) t.after)) (stepped g mid e parts.1.0) (quiet_run g (step g mid e) w t.after parts.1.1 t.quiet_after));
        half =
            half_more w false es (t.before ++ e ∷ t.after)
            ∙ (half_more w (is_half_after w false es) t.before (e ∷ t.after)
            ∙ (ap (λ (b : Bool). is_half_after w b (e ∷ t.after)) (half_same w (is_half_after w false es) t.before t.quiet_before)
            ∙ (half_more w (is_half_after w false es) (e ∷ []) t.after
            ∙ half_same w (is_half_after w (is_half_after w false es) (e ∷ [])) t.after t.quiet_after)));
      }

  pub occurs_take : (es : List Event) (w : ℕ) (e : Event) (At : State → Type 0) (m : List ℕ) (a b : A) → (t : Takes S L Q K g es w e At m a b) → Occurs g es (t.before ++ e ∷ t.after) e At
  occurs_take es w e At m a b t = record { before = t.before; after = t.after; whole = refl; at = subst At (sym (run_more g (start g) es t.before)) t.at }
