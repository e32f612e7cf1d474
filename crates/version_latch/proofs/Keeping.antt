-- What stays over the steps of a call: who may act, what ran, and over looks alone all that is held and known.
use Rattle.std.proofs.Common.{cond, Some, arith, ◌∷◌, ◌≡◌, ◌==◌, ◌||◌, ℕ, Bool, true, false, List, [], refl, sym, ap, subst, ◌∙◌, inr, eq-eqb}
use Rattle.std.proofs.lemmas.Bool.{cond-true}
use Rattle.std.proofs.lemmas.Bool.Decides.{nat_tests}
use Rattle.rows_trait.specs.row_words.declared.event.Event.{Event}
use Rattle.rows_trait.specs.declared.view.Act.{Act}
use Rattle.rows_trait.specs.declared.view.Act.TheVariants.{Look}
use Rattle.rows_trait.specs.declared.view.View.{View}
use Rattle.rows_trait.specs.Views.{Shape, Has, Knows, latest, may}
use Rattle.rows_trait.specs.Turns.{Goes, Looked, Loaded, Ran}
use Rattle.rows_trait.proofs.Runs.{AreOwn, ran_goes, ran_none, ran_append}
use Rattle.rows_trait.proofs.Causes.{loads_none, loads_then, loaded_loads}
use Rattle.version_latch.specs.Kept.{Kept}

-- ## What ran

pub goes_ran : (z : Shape) (names es : List Event) (v w : View) → Goes z v names w → names ≡ es → AreOwn (may z.alone v) es → Ran z.alone v es w
goes_ran z names es v w g is own = ran_goes z v es w own (subst (λ (y : List Event). Goes z v y w) is g)

-- on rows of the same shape, after other steps
pub goes_after : (z y : Shape) (names es : List Event) (u v w : View) → z ≡ y → Ran y.alone u [] v → Goes z v names w → names ≡ es → AreOwn (may y.alone v) es → Ran y.alone u es w
goes_after z y names es u v w same r g is own = ran_append y.alone u [] v es w r (goes_ran y names es v w (subst (λ (s : Shape). Goes s v names w) same g) is own)

-- with the number that a look found
pub looked_ran : (z : Shape) (row n : ℕ) (names : ℕ → List Event) (v w : View) (es : List Event) → Looked z row names v n w → names n ≡ es → AreOwn (may z.alone v) es → Ran z.alone v es w
looked_ran z row n names v w es l is own = goes_ran z (names n) es v w l.goes is own

pub looked_after : (z y : Shape) (row n : ℕ) (names : ℕ → List Event) (u v w : View) (es : List Event) → z ≡ y → Ran y.alone u [] v → Looked z row names v n w → names n ≡ es → AreOwn (may y.alone v) es → Ran y.alone u es w
looked_after z y row n names u v w es same r l is own = goes_after z y (names n) es u v w same r l.goes is own

-- who may act before may act after
pub may_ran : (alone : Bool) (v w : View) (es : List Event) (a : ℕ) → Ran alone v es w → may alone v a ≡ true → may alone w a ≡ true
may_ran alone v w es a r m = subst (λ (z : ℕ). (alone || (a == z)) ≡ true) (sym r.actor) m

pub may_shape : (z y : Shape) (v : View) (a : ℕ) → z ≡ y → may y.alone v a ≡ true → may z.alone v a ≡ true
may_shape z y v a same m = subst (λ (s : Shape). may s.alone v a ≡ true) (sym same) m

pub ran_shape : (z y : Shape) (v w : View) (es : List Event) → z ≡ y → Ran z.alone v es w → Ran y.alone v es w
ran_shape z y v w es same r = subst (λ (s : Shape). Ran s.alone v es w) same r

-- a seat may act for its own actor
pub may_self : (alone : Bool) (v : View) → may alone v v.actor ≡ true
may_self true v = refl
may_self false v = eq-eqb v.actor v.actor refl

-- ## Looks alone

pub kept_none : (alone : Bool) (v : View) → Kept alone v v
kept_none alone v = record { ran = ran_none alone v; held = refl; loads = loads_none v; has = λ row s h. h; knows = λ row s i x h. h; latest = λ row. refl }

pub kept_then : (alone : Bool) (v w u : View) → Kept alone v w → Kept alone w u → Kept alone v u
kept_then alone v w u a b = record {
  ran = ran_append alone v [] w [] u a.ran b.ran;
  held = b.held ∙ a.held;
  loads = loads_then v w u a.loads b.loads;
  has = λ row s h. b.has row s (a.has row s h);
  knows = λ row s i x h. b.knows row s i x (a.knows row s i x h);
  latest = λ row. b.latest row ∙ a.latest row;
}

pub kept_load : (z : Shape) (row i n : ℕ) (v w : View) → Loaded z row i v n w → Kept z.alone v w
kept_load z row i n v w l = record {
  ran = ran_goes z v [] w tt l.goes;
  held = l.held;
  loads = loaded_loads z row i n v w l;
  has = λ q s h. let P : List Act → Type 0 = λ ss. Has q s ss in subst P (sym l.steps) h;
  knows = λ q s j x h. let P : List Act → Type 0 = λ ss. Knows q s j x ss in subst P (sym l.steps) (inr h);
  latest = λ q. ap (latest q) l.steps;
}

-- one more load, on rows of the same shape
pub kept_more : (z y : Shape) (row i n : ℕ) (u v w : View) → z ≡ y → Kept y.alone u v → Loaded z row i v n w → Kept y.alone u w
kept_more z y row i n u v w same k l = kept_then y.alone u v w k (subst (λ (s : Shape). Kept s.alone v w) same (kept_load z row i n v w l))

-- on rows of the same shape
pub kept_same : (z y : Shape) (v w : View) → z ≡ y → Kept z.alone v w → Kept y.alone v w
kept_same z y v w same k = subst (λ (s : Shape). Kept s.alone v w) same k

-- ## The last number of a latch

latest_here : (row n : ℕ) (at : List Event) (ss : List Act) → latest row (Look row n at ∷ ss) ≡ Some n
latest_here row n at ss = cond-true (row == row) (Some n) (latest row ss) (eq-eqb row row refl)

-- that of the row that was looked at
pub looked_latest : (z : Shape) (row n : ℕ) (names : ℕ → List Event) (v w : View) → Looked z row names v n w → latest row w.steps ≡ Some n
looked_latest z row n names v w l = ap (latest row) l.steps ∙ latest_here row n w.seen v.steps

-- where nobody else steps the last number of a row's latch stays over a look
pub latest_look : (z : Shape) (row n q s : ℕ) (names : ℕ → List Event) (v w : View) → Looked z row names v n w → z.alone ≡ true → latest q v.steps ≡ Some s → latest q w.steps ≡ Some s
latest_look z row n q s names v w l alone last = ap (latest q) l.steps ∙ go (row == q) refl
  where
    go : (b : Bool) → (row == q) ≡ b → cond b (Some n) (latest q v.steps) ≡ Some s
    go true t = let e : row ≡ q = grind (arith, nat_tests) in ap Some (l.steady alone s (ap (λ r. latest r v.steps) e ∙ last))
    go false t = last
