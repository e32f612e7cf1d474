-- Several steps, one after another.
use Rattle.std.proofs.Common.{◌≡◌, ℕ, Bool, true, false, cond, List, [], ◌∷◌, ◌++◌, refl, sym, ap, subst, ◌∙◌, append_assoc, append-nil, ◌==◌}
use Rattle.row_words.specs.declared.event.Event.{Event}
use Rattle.row_words.specs.Moments.{actor_of, by}
use Rattle.row_words.proofs.SealedLemmas.{by_append}
use Rattle.rows_trait.specs.declared.view.View.{View}
use Rattle.rows_trait.specs.Views.{Shape, state, may}
use Rattle.rows_trait.specs.Turns.{Goes, Ran, Stepped}
use Rattle.rows_trait.proofs.EventLemmas.{by_none, none_apart, apart_sync, sync_append}

-- all events are of actors that the seat may play
abbrev pub AreOwn : (ℕ → Bool) → List Event → Type 0
AreOwn p [] = Unit {0}
AreOwn p (e ∷ es) = (p (actor_of e) ≡ true) × AreOwn p es

pub by_own : (v : View) (es : List Event) → AreOwn (may false v) es → by v.actor es ≡ es
by_own v [] o = refl
by_own v (e ∷ es) o = let t : (actor_of e == v.actor) ≡ true = o.0 in subst (λ (b : Bool). cond b (e ∷ by v.actor es) (by v.actor es) ≡ e ∷ es) (sym t) (ap (λ z. e ∷ z) (by_own v es o.1))

abbrev pub stepped_none : (v : View) → Stepped v v
stepped_none v = record { acts = []; steps = refl }

abbrev pub stepped_then : {v w u : View} → Stepped v w → Stepped w u → Stepped v u
stepped_then {v} a b = record { acts = b.acts ++ a.acts; steps = b.steps ∙ (ap (λ z. b.acts ++ z) a.steps ∙ sym (append_assoc b.acts a.acts v.steps)) }

pub ran_goes : (z : Shape) (v : View) (es : List Event) (w : View) → AreOwn (may z.alone v) es → Goes z v es w → Ran z.alone v es w
ran_goes z v es w o g = record {
  more = g.between ++ es;
  seen = g.seen ∙ append_assoc v.seen g.between es;
  own = λ n. by_append v.actor g.between es ∙ (ap (λ z. z ++ by v.actor es) (by_none v.actor g.between (none_apart v (state v) g.between g.apart)) ∙ by_own v es (subst (λ (b : Bool). AreOwn (may b v) es) n o));
  all = λ y. ap (λ z. z ++ es) (g.quiet y);
  part = λ n. sync_append g.between es (apart_sync v (state v) g.between g.apart) (g.part n);
  since = g.since;
  given = g.given;
  actor = g.actor;
  live = g.live;
  made = g.made;
  ended = g.ended;
}

pub ran_none : (alone : Bool) (v : View) → Ran alone v [] v
ran_none alone v = record { more = []; seen = sym (append-nil v.seen); own = λ n. refl; all = λ y. refl; part = λ n. tt; since = stepped_none v; given = refl; actor = refl; live = refl; made = refl; ended = refl }

pub ran_append : (alone : Bool) (v : View) (es : List Event) (w : View) (fs : List Event) (u : View) → Ran alone v es w → Ran alone w fs u → Ran alone v (es ++ fs) u
ran_append alone v es w fs u a b = record {
  more = a.more ++ b.more;
  seen = b.seen ∙ (ap (λ z. z ++ b.more) a.seen ∙ append_assoc v.seen a.more b.more);
  own = λ n. by_append v.actor a.more b.more ∙ ((λ i. a.own n i ++ by v.actor b.more) ∙ ap (λ z. es ++ z) (ap (λ z. by z b.more) (sym a.actor) ∙ b.own n));
  all = λ y. (λ i. a.all y i ++ b.all y i);
  part = λ n. sync_append a.more b.more (a.part n) (b.part n);
  since = stepped_then a.since b.since;
  given = b.given ∙ a.given;
  actor = b.actor ∙ a.actor;
  live = b.live ∙ a.live;
  made = b.made ∙ a.made;
  ended = b.ended ∙ a.ended;
}
