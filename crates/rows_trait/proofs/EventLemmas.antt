-- Events that change nothing for a view.
use Rattle.std.proofs.Common.{◌≡◌, ◌≢◌, ℕ, Bool, true, false, List, [], ◌∷◌, ◌++◌, ◌<◌, cond, append-nil, refl, sym, ap, subst, ◌∙◌, arith, ◌==◌, append_assoc}
use Rattle.std.proofs.lemmas.Bool.Decides.{nat_tests}
use Rattle.row_words.specs.declared.event.Event.{Event}
use Rattle.row_words.specs.declared.given.Given.{Given}
use Rattle.row_words.specs.Moments.{Moment, actor_of, by}
use Rattle.row_words.specs.Sealed.{begun, stepped, run, Shown, changes, heard, IsTame}
use Rattle.row_words.proofs.SealedLemmas.{shown_stays, heard_stays, run_append, by_append, calm_tame, tame_stays}
use Rattle.rows_trait.specs.declared.view.View.{View}
use Rattle.rows_trait.specs.Views.{after_all, holds, AreApart, AreAside, AreSilent, AreTame, AreCalm, BeginsTame, NoSync, may, AreBelow, AreStill, IsStill, IsPart}
use Rattle.rows_trait.specs.Inside.{NoneBy}

pub apart_append : (v : View) (m : Moment) (es fs : List Event) → AreApart v m es → AreApart v (run v.given m es) fs → AreApart v m (es ++ fs)
apart_append v m [] fs a b = b
apart_append v m (e ∷ es) fs a b = (a.0, apart_append v (stepped v.given m e) es fs a.1 b)

pub apart_shown : (v : View) (es : List Event) (m : Moment) (row i x : ℕ) → AreApart v m es → holds v.held row ≡ true → Shown v.given m row i x → Shown v.given (run v.given m es) row i x
apart_shown v [] m row i x a h s = s
apart_shown v (e ∷ es) m row i x a h s = apart_shown v es (stepped v.given m e) row i x a.1 h (shown_stays v.given m e row i x (a.0.rows row h) s)

pub silent_shown : (p : ℕ → Bool) (v : Given) (es : List Event) (m : Moment) (row i x : ℕ) → AreAside p v es → Shown v m row i x → Shown v (run v m es) row i x
silent_shown p v [] m row i x a s = s
silent_shown p v (e ∷ es) m row i x a s = silent_shown p v es (stepped v m e) row i x a.1 (shown_stays v m e row i x (a.0.rows m row) s)

pub silent_heard : (p : ℕ → Bool) (v : Given) (es : List Event) (m : Moment) (c i : ℕ) → AreAside p v es → heard (run v m es) c i ≡ heard m c i
silent_heard p v [] m c i a = refl
silent_heard p v (e ∷ es) m c i a = silent_heard p v es (stepped v m e) c i a.1 ∙ heard_stays v m e c i (a.0.words c i)

pub silent_apart : (v u : View) (es : List Event) (m : Moment) → u.given ≡ v.given → u.actor ≢ v.actor → AreAside (may false v) v.given es → AreApart u m es
silent_apart v u [] m same ne a = tt
silent_apart v u (e ∷ es) m same ne a =
    let s : actor_of e ≡ v.actor = let t : (actor_of e == v.actor) ≡ true = a.0.own in grind (arith, nat_tests) in
    (record { other = λ (x : actor_of e ≡ u.actor). ne (sym x ∙ s); part = a.0.part; rows = λ row h. ap (λ z. changes z m e row) same ∙ a.0.rows m row }, silent_apart v u es (stepped u.given m e) same ne a.1)

pub below_append : (m : ℕ) (es fs : List Event) → AreBelow m es → AreBelow m fs → AreBelow m (es ++ fs)
below_append m [] fs a b = b
below_append m (e ∷ es) fs a b = (a.0, below_append m es fs a.1 b)

pub by_none : (a : ℕ) (es : List Event) → NoneBy a es → by a es ≡ []
by_none a [] n = refl
by_none a (e ∷ es) n = at (actor_of e == a) refl (by_none a es n.1)
  where
    at : (b : Bool) → (actor_of e == a) ≡ b → by a es ≡ [] → cond b (e ∷ by a es) (by a es) ≡ []
    at true t ih = absurd (n.0 (grind (arith, nat_tests)))
    at false t ih = ih

pub by_longer : (a : ℕ) (es fs : List Event) → NoneBy a fs → by a (es ++ fs) ≡ by a es
by_longer a es fs n = by_append a es fs ∙ (ap (λ z. by a es ++ z) (by_none a fs n) ∙ append-nil (by a es))

pub part_more : (a : ℕ) (seen all es : List Event) → IsPart a seen all → NoneBy a es → IsPart a seen (all ++ es)
part_more a seen all es p n = record { rest = p.rest ++ es; whole = ap (λ z. z ++ es) p.whole ∙ append_assoc seen p.rest es; others = by_longer a p.rest es n ∙ p.others }

pub none_apart : (v : View) (m : Moment) (es : List Event) → AreApart v m es → NoneBy v.actor es
none_apart v m [] a = tt
none_apart v m (e ∷ es) a = (a.0.other, none_apart v (stepped v.given m e) es a.1)

pub silent_none : (v : View) (a : ℕ) (es : List Event) → v.actor ≢ a → AreAside (may false v) v.given es → NoneBy a es
silent_none v a [] ne s = tt
silent_none v a (e ∷ es) ne s =
    let t : (actor_of e == v.actor) ≡ true = s.0.own in let same : actor_of e ≡ v.actor = grind (arith, nat_tests) in
    ((λ x. ne (sym same ∙ x)), silent_none v a es ne s.1)

pub silent_below : (v : View) (m : ℕ) (es : List Event) → v.actor < m → AreAside (may false v) v.given es → AreBelow m es
silent_below v m [] lt s = tt
silent_below v m (e ∷ es) lt s =
    let t : (actor_of e == v.actor) ≡ true = s.0.own in let same : actor_of e ≡ v.actor = grind (arith, nat_tests) in
    (omega arith, silent_below v m es lt s.1)

pub silent_sync : (p : ℕ → Bool) (v : Given) (es : List Event) → AreAside p v es → NoSync es
silent_sync p v [] a = tt
silent_sync p v (e ∷ es) a = (a.0.part, silent_sync p v es a.1)

pub apart_sync : (v : View) (m : Moment) (es : List Event) → AreApart v m es → NoSync es
apart_sync v m [] a = tt
apart_sync v m (e ∷ es) a = (a.0.part, apart_sync v (stepped v.given m e) es a.1)

pub sync_append : (es fs : List Event) → NoSync es → NoSync fs → NoSync (es ++ fs)
sync_append [] fs a b = b
sync_append (e ∷ es) fs a b = (a.0, sync_append es fs a.1 b)

pub still_append : (v : Given) (row : ℕ) (m : Moment) (es fs : List Event) → AreStill v row m es → AreStill v row (run v m es) fs → AreStill v row m (es ++ fs)
still_append v row m [] fs a b = b
still_append v row m (e ∷ es) fs a b = (a.0, still_append v row (stepped v m e) es fs a.1 b)

pub silent_still : (p : ℕ → Bool) (v : Given) (row : ℕ) (es : List Event) (m : Moment) → AreAside p v es → AreStill v row m es
silent_still p v row [] m a = tt
silent_still p v row (e ∷ es) m a = (a.0.rows m row, silent_still p v row es (stepped v m e) a.1)

-- the events behind some of them
pub still_rest : (v : Given) (row : ℕ) (m : Moment) (es fs : List Event) → AreStill v row m (es ++ fs) → AreStill v row (run v m es) fs
still_rest v row m [] fs a = a
still_rest v row m (e ∷ es) fs a = still_rest v row (stepped v m e) es fs a.1

pub still_none : (v : Given) (row : ℕ) (at : List Event) → IsStill v row at at
still_none v row at = record { more = []; whole = sym (append-nil at); still = tt }

pub still_more : (v : Given) (row : ℕ) (at happened es : List Event) → IsStill v row at happened → AreStill v row (after_all v happened) es → IsStill v row at (happened ++ es)
still_more v row at happened es s a = record {
  more = s.more ++ es;
  whole = ap (λ z. z ++ es) s.whole ∙ append_assoc at s.more es;
  still = still_append v row (after_all v at) s.more es s.still (subst (λ m. AreStill v row m es) (ap (run v (begun v)) s.whole ∙ run_append v (begun v) at s.more) a);
}

-- ## Tame events

pub tame_append : (v : Given) (m : Moment) (es fs : List Event) → AreTame v m es → AreTame v (run v m es) fs → AreTame v m (es ++ fs)
tame_append v m [] fs a b = b
tame_append v m (e ∷ es) fs a b = (a.0, tame_append v (stepped v m e) es fs a.1 b)

pub tame_first : (v : Given) (m : Moment) (es fs : List Event) → AreTame v m (es ++ fs) → AreTame v m es
tame_first v m [] fs a = tt
tame_first v m (e ∷ es) fs a = (a.0, tame_first v (stepped v m e) es fs a.1)

pub calm_are : (v : Given) (m : Moment) (es : List Event) → AreCalm es → AreTame v m es
calm_are v m [] a = tt
calm_are v m (e ∷ es) a = (calm_tame m e a.0, calm_are v (stepped v m e) es a.1)

pub begins_are : (v : Given) (m : Moment) (es : List Event) → BeginsTame m es → AreTame v m es
begins_are v m [] a = tt
begins_are v m (e ∷ es) a = (a.0, calm_are v (stepped v m e) es a.1)

pub silent_calm : (p : ℕ → Bool) (v : Given) (es : List Event) → AreSilent p v es → AreCalm es
silent_calm p v [] a = tt
silent_calm p v (e ∷ es) a = (a.0.calm, silent_calm p v es a.1)

pub silent_aside : (p : ℕ → Bool) (v : Given) (es : List Event) → AreSilent p v es → AreAside p v es
silent_aside p v [] a = tt
silent_aside p v (e ∷ es) a = (record { own = a.0.own; part = a.0.part; rows = a.0.rows; words = a.0.words }, silent_aside p v es a.1)

-- what others do leaves an event tame
pub apart_tame : (v : View) (m : Moment) (es : List Event) (e : Event) → actor_of e ≡ v.actor → AreApart v m es → IsTame m e → IsTame (run v.given m es) e
apart_tame v m [] e own a t = t
apart_tame v m (x ∷ es) e own a t = apart_tame v (stepped v.given m x) es e own a.1 (tame_stays v.given m x e (λ same. a.0.other (same ∙ own)) a.0.part t)
