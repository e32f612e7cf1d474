-- Lists of events of a call, one after another; and where the first event of its own stands among others'.
use Rattle.std.proofs.Common.{◌≡◌, ◌≤◌, ◌+◌, ◌==◌, ℕ, Bool, true, false, List, [], ◌∷◌, ◌++◌, length, append-nil, append_assoc, refl, sym, ap, subst, ◌∙◌, arith, true≢false, eq-eqb}
use Rattle.std.specs.Prelude.{if◌then◌else◌}
use Rattle.btree_descent.specs.core_state.Openings.{Opening}
use Rattle.btree_descent.specs.core_state.States.{State}
use Rattle.btree_descent.specs.core_state.Needs as core
use Rattle.btree_descent.specs.row_words.declared.event.Event.{Event}
use Rattle.btree_descent.specs.row_words.declared.event.Event.TheVariants as told
use Rattle.btree_descent.specs.row_words.declared.given.Given.{Given}
use Rattle.btree_descent.specs.row_words.Moments.{Moment, actor_of, by, event_of, pager}
use Rattle.btree_descent.specs.row_words.Openings.{opening}
use Rattle.btree_descent.specs.row_words.Sealed.{run, stepped}
use Rattle.btree_descent.proofs.row_words.SealedLemmas.{by_append}
use Rattle.held_rows.specs.Steps as held
use Rattle.btree_descent.specs.rows_trait.declared.view.View.{View}
use Rattle.btree_descent.specs.rows_trait.Views.{NoSync, may, state}
use Rattle.btree_descent.specs.rows_trait.Turns.{Ran}
use Rattle.btree_descent.proofs.rows_trait.EventLemmas.{sync_append}
use Rattle.page_provider.specs.Moves.{AreMet, ArePagers, AreTicked, others_in}
use Rattle.page_provider.specs.Steps.{AreMisses, IsMissAtMost}
use Rattle.page_provider.proofs.Keeping.{plays}
use Rattle.page_provider.proofs.Standing.{onward, ran_state, state_on}
use Rattle.btree_descent.proofs.rows_trait.Runs.{stepped_then}

-- ## One list behind another

pub pagers_append : (es fs : List Event) → ArePagers es → ArePagers fs → ArePagers (es ++ fs)
pagers_append [] fs a b = b
pagers_append (e ∷ es) fs a b = (a.0, pagers_append es fs a.1 b)

pub ticked_append : (es fs : List Event) → AreTicked es → AreTicked fs → AreTicked (es ++ fs)
ticked_append [] fs a b = b
ticked_append (told.Cool p ∷ []) fs a b = absurd a
ticked_append (told.Cool p ∷ (told.Tick ∷ es)) fs a b = ticked_append es fs a b
ticked_append (told.Cool p ∷ (_ ∷ es)) fs a b = absurd a
ticked_append (told.Tick ∷ es) fs a b = absurd a
ticked_append (_ ∷ es) fs a b = ticked_append es fs a b

pub others_append : (es fs : List Event) → others_in (es ++ fs) ≡ others_in es + others_in fs
others_append [] fs = omega arith
others_append (told.Cool p ∷ es) fs = others_append es fs
others_append (told.Tick ∷ es) fs = others_append es fs
others_append (_ ∷ es) fs = let ih = others_append es fs in omega arith

pub met_append : (g : Given) (m : Moment) (es fs : List Event) → AreMet g m es → AreMet g (run g m es) fs → AreMet g m (es ++ fs)
met_append g m [] fs a b = b
met_append g m (e ∷ es) fs a b = (a.0, met_append g (stepped g m e) es fs a.1 b)

-- as ran_none and ran_append, with all that ran in sight
abbrev pub ran_still : (alone : Bool) (v : View) → Ran alone v [] v
ran_still alone v = record { more = []; seen = sym (append-nil v.seen); own = λ n. refl; all = λ y. refl; part = λ n. tt; since = record { acts = []; steps = refl }; given = refl; actor = refl; live = refl; made = refl; ended = refl }

abbrev pub ran_join : (alone : Bool) (v : View) (es : List Event) (w : View) (fs : List Event) (u : View) → Ran alone v es w → Ran alone w fs u → Ran alone v (es ++ fs) u
ran_join alone v es w fs u a b = record {
  more = a.more ++ b.more;
  seen = b.seen ∙ (ap (λ z. z ++ b.more) a.seen ∙ append_assoc v.seen a.more b.more);
  own = λ n. by_append v.actor a.more b.more ∙ ((λ i. a.own n i ++ by v.actor b.more) ∙ ap (λ z. es ++ z) (ap (λ z. by z b.more) (sym a.actor) ∙ b.own n));
  all = λ y. (λ i. a.all y i ++ b.all y i);
  part = λ n. sync_append a.more b.more (a.part n) (b.part n);
  since = stepped_then a.since b.since;
  given = b.given ∙ a.given;
  actor = b.actor ∙ a.actor;
  live = b.live ∙ a.live;
  made = b.made ∙ a.made;
  ended = b.ended ∙ a.ended;
}

pub met_then : {alone : Bool} {v u w : View} {es fs : List Event} → (a : Ran alone v es u) → (b : Ran alone u fs w) → AreMet v.given (state v) a.more → AreMet u.given (state u) b.more → AreMet v.given (state v) (a.more ++ b.more)
met_then {v = v} a b first last = met_append v.given (state v) a.more b.more first
    (subst (λ (q : Given × Moment). AreMet q.0 q.1 b.more) (λ i. (a.given i, (ran_state a ∙ state_on v a.more) i)) last)

-- ## Misses

pub held_misses : (es : List Event) → held.AreMisses es → AreMisses es
held_misses [] m = tt
held_misses (told.Miss w ∷ es) m = held_misses es m
held_misses (_ ∷ es) m = absurd m

pub few_misses : (es : List Event) → IsMissAtMost es → AreMisses es × (length es ≤ 1)
few_misses [] k = (tt, omega arith)
few_misses (told.Miss w ∷ []) k = (tt, omega arith)
few_misses (told.Miss w ∷ (e ∷ es)) k = absurd k
few_misses (_ ∷ es) k = absurd k

pub misses_pagers : (es : List Event) → AreMisses es → ArePagers es
misses_pagers [] m = tt
misses_pagers (told.Miss w ∷ es) m = (refl, misses_pagers es m)
misses_pagers (_ ∷ es) m = absurd m

pub misses_ticked : (es : List Event) → AreMisses es → AreTicked es
misses_ticked [] m = tt
misses_ticked (told.Miss w ∷ es) m = misses_ticked es m
misses_ticked (_ ∷ es) m = absurd m

pub misses_others : (es : List Event) → AreMisses es → others_in es ≡ length es
misses_others [] m = refl
misses_others (told.Miss w ∷ es) m = let ih = misses_others es m in omega arith
misses_others (_ ∷ es) m = absurd m

miss_may : (g : Opening) (s : State) (e : Event) (es : List Event) → AreMisses (e ∷ es) → (core.may g s (event_of e) ≡ true) × AreMisses es
miss_may g s (told.Miss w) es m = (refl, m)
miss_may g s _ es m = absurd m

misses_met : (g : Given) (m : Moment) (es : List Event) → AreMisses es → AreMet g m es
misses_met g m [] k = tt
misses_met g m (e ∷ es) k = let o = miss_may (opening g) m.core e es k in (λ _. o.0, misses_met g (stepped g m e) es o.1)

-- of the pager's events it alone asks
by_met : (g : Given) (m : Moment) (es : List Event) → AreMisses (by pager es) → AreMet g m es
by_met g m [] k = tt
by_met g m (e ∷ es) k = go (λ h. by_met g (stepped g m e) es h) (actor_of e == pager) refl k
  where
    go : (AreMisses (by pager es) → AreMet g (stepped g m e) es) → (b : Bool) → (actor_of e == pager) ≡ b → AreMisses (if b then e ∷ by pager es else by pager es) → AreMet g m (e ∷ es)
    go rest true is h = let o = miss_may (opening g) m.core e (by pager es) h in (λ _. o.0, rest o.1)
    go rest false is h = (λ same. absurd (true≢false (sym (eq-eqb (actor_of e) pager same) ∙ is)), rest h)

pub met_misses : (alone : Bool) (v u : View) (es : List Event) → may alone v pager ≡ true → (r : Ran alone v es u) → AreMisses es → AreMet v.given (state v) r.more
met_misses true v u es m r k = misses_met v.given (state v) r.more (subst AreMisses (sym (r.all refl)) k)
met_misses false v u es m r k = by_met v.given (state v) r.more (subst AreMisses (sym (subst (λ a. by a r.more ≡ es) (plays false v m refl) (r.own refl))) k)

-- ## The first of its own

record Found (a : ℕ) (e : Event) (ds es : List Event) : Type 0 where
  pub before : List Event
  pub after : List Event
  pub is : es ≡ before ++ e ∷ after
  pub first : by a before ≡ []
  pub own : by a (e ∷ []) ≡ e ∷ []
  pub last : by a after ≡ ds

abbrev head_of : Event → List Event → Event
head_of d [] = d
head_of d (x ∷ xs) = x

abbrev tail_of : List Event → List Event
tail_of [] = []
tail_of (x ∷ xs) = xs

find : (a : ℕ) (e : Event) (ds es : List Event) → by a es ≡ e ∷ ds → Found a e ds es
find a e ds [] h = absurd (cc)
find a e ds (x ∷ xs) h = go (λ k. find a e ds xs k) (actor_of x == a) refl h
  where
    go : (by a xs ≡ e ∷ ds → Found a e ds xs) → (b : Bool) → (actor_of x == a) ≡ b → (if b then x ∷ by a xs else by a xs) ≡ e ∷ ds → Found a e ds (x ∷ xs)
    go rest true is k =
        let same : x ≡ e = ap (head_of x) k in
        record {
          before = [];
          after = xs;
          is = ap (λ y. y ∷ xs) same;
          first = refl;
          own = subst (λ y. by a (y ∷ []) ≡ y ∷ []) same (ap (λ b. if b then x ∷ [] else []) is);
          last = ap tail_of k;
        }
    go rest false is k = let o = rest k in record {
      before = x ∷ o.before;
      after = o.after;
      is = ap (λ ys. x ∷ ys) o.is;
      first = ap (λ b. if b then x ∷ by a o.before else by a o.before) is ∙ o.first;
      own = o.own;
      last = o.last;
    }

sync_split : (es : List Event) (e : Event) (fs : List Event) → NoSync (es ++ e ∷ fs) → NoSync es × (NoSync (e ∷ []) × NoSync fs)
sync_split [] e fs h = (tt, ((h.0, tt), h.1))
sync_split (x ∷ es) e fs h = let o = sync_split es e fs h.1 in ((h.0, o.0), o.1)

-- What ran up to the first of the events, and behind it.
pub record Cut (alone : Bool) (v : View) (e : Event) (es : List Event) (u : View) (more : List Event) : Type 0 where
  pub mid : View
  pub first : Ran alone v (e ∷ []) mid
  pub last : Ran alone mid es u
  pub joined : more ≡ first.more ++ last.more
  pub held : mid.held ≡ v.held

pub cut : (alone : Bool) (v u : View) (e : Event) (es : List Event) → (r : Ran alone v (e ∷ es) u) → Cut alone v e es u r.more
cut true v u e es r = record {
  mid = onward v (e ∷ []);
  first = record { more = e ∷ []; seen = refl; own = λ n. absurd (true≢false n); all = λ _. refl; part = λ n. absurd (true≢false n); since = record { acts = []; steps = refl }; given = refl; actor = refl; live = refl; made = refl; ended = refl };
  last = record {
    more = es;
    seen = r.seen ∙ (ap (λ x. v.seen ++ x) (r.all refl) ∙ sym (append_assoc v.seen (e ∷ []) es));
    own = λ n. absurd (true≢false n);
    all = λ _. refl;
    part = λ n. absurd (true≢false n);
    since = record { acts = r.since.acts; steps = r.since.steps };
    given = r.given;
    actor = r.actor;
    live = r.live;
    made = r.made;
    ended = r.ended;
  };
  joined = r.all refl;
  held = refl;
}
cut false v u e es r =
    let f = find v.actor e es r.more (r.own refl) in
    let s = sync_split f.before e f.after (subst NoSync f.is (r.part refl)) in
    let whole : r.more ≡ (f.before ++ e ∷ []) ++ f.after = f.is ∙ sym (append_assoc f.before (e ∷ []) f.after) in
    record {
      mid = onward v (f.before ++ e ∷ []);
      first = record {
        more = f.before ++ e ∷ [];
        seen = refl;
        own = λ _. by_append v.actor f.before (e ∷ []) ∙ (λ i. f.first i ++ f.own i);
        all = λ n. absurd (true≢false (sym n));
        part = λ _. sync_append f.before (e ∷ []) s.0 s.1.0;
        since = record { acts = []; steps = refl };
        given = refl;
        actor = refl;
        live = refl;
        made = refl;
        ended = refl;
      };
      last = record {
        more = f.after;
        seen = r.seen ∙ (ap (λ x. v.seen ++ x) whole ∙ sym (append_assoc v.seen (f.before ++ e ∷ []) f.after));
        own = λ _. f.last;
        all = λ n. absurd (true≢false (sym n));
        part = λ _. s.1.1;
        since = record { acts = r.since.acts; steps = r.since.steps };
        given = r.given;
        actor = r.actor;
        live = r.live;
        made = r.made;
        ended = r.ended;
      };
      joined = whole;
      held = refl;
    }

pub met_cut : {alone : Bool} {v u : View} {e : Event} {es more : List Event} → (c : Cut alone v e es u more) → AreMet v.given (state v) c.first.more → AreMet c.mid.given (state c.mid) c.last.more → AreMet v.given (state v) more
met_cut {v = v} c a b = subst (AreMet v.given (state v)) (sym c.joined) (met_then c.first c.last a b)

others_met : (g : Given) (m : Moment) (es : List Event) → by pager es ≡ [] → AreMet g m es
others_met g m es none = by_met g m es (subst AreMisses (sym none) tt)

-- One event alone: its need is met wherever others' events have led.
pub met_one : (alone : Bool) (v u : View) (e : Event) → may alone v pager ≡ true → (r : Ran alone v (e ∷ []) u)
    → ((before : List Event) → by pager before ≡ [] → NoSync before → core.may (opening v.given) (state (onward v before)).core (event_of e) ≡ true) → AreMet v.given (state v) r.more
met_one true v u e m r need = subst (AreMet v.given (state v)) (sym (r.all refl)) (λ _. subst (λ (x : Moment). core.may (opening v.given) x.core (event_of e) ≡ true) (state_on v []) (need [] refl tt), tt)
met_one false v u e m r need =
    let f = find pager e [] r.more (subst (λ a. by a r.more ≡ e ∷ []) (plays false v m refl) (r.own refl)) in
    let s = sync_split f.before e f.after (subst NoSync f.is (r.part refl)) in
    subst (AreMet v.given (state v)) (sym f.is) (met_append v.given (state v) f.before (e ∷ f.after) (others_met v.given (state v) f.before f.first)
    (λ _. subst (λ (x : Moment). core.may (opening v.given) x.core (event_of e) ≡ true) (state_on v f.before) (need f.before f.first s.0), others_met v.given (stepped v.given (run v.given (state v) f.before) e) f.after f.last))
