-- How views follow one another between which others have stepped, and what of held rows stays.
use Rattle.std.proofs.Common.{◌≡◌, ◌<◌, ◌≤◌, ◌+◌, ℕ, Bool, true, List, [], ◌∷◌, ◌++◌, append-nil, append_assoc, length, set, refl, sym, ap, subst, ◌∙◌}
use Rattle.std.specs.Prelude.{slice_index}
use Rattle.std.proofs.lemmas.List.{length-append}
use Rattle.std.proofs.Math.Nat.{add-le-add}
use Rattle.row_words.specs.declared.event.Event.{Event}
use Rattle.row_words.specs.declared.event.Event.TheVariants as event
use Rattle.row_words.specs.declared.given.Given.{Given}
use Rattle.row_words.specs.Openings.{opening}
use Rattle.row_words.specs.Sealed.{begun, run, Shown}
use Rattle.row_words.proofs.SealedLemmas.{run_append}
use Rattle.rows_trait.specs.declared.view.View.{View}
use Rattle.rows_trait.specs.Views.{Shape, AreApart, after_all, state, holds, held_at}
use Rattle.rows_trait.specs.Turns.{Goes, Loaded, MayPublish}
use Rattle.rows_trait.proofs.Runs.{ran_goes, ran_none, ran_append}
use Rattle.rows_trait.proofs.EventLemmas.{apart_append, apart_shown, none_apart, by_none, apart_sync}
use Rattle.lean_proto.proofs.Meanwhile.{apart_as}
use Rattle.held_rows.specs.Steps.{AreMisses, MissedUpTo}
use Rattle.held_rows.specs.Rows.{Waited, Stood, Wrote, IsFrame, HoldsOne, HoldsTwo, HoldsThree, IsOpen, IsUnchanged, OpensOne, OpensTwo, OpensThree}
use Rattle.held_rows.specs.Publishing.{IsChanged, Went}

-- ## Misses

misses_append : (es fs : List Event) → AreMisses es → AreMisses fs → AreMisses (es ++ fs)
misses_append [] fs a b = b
misses_append (event.Miss w ∷ es) fs a b = misses_append es fs a b
misses_append (_ ∷ es) fs a b = absurd a

pub missed_then : {m n : ℕ} {alone : Bool} {v u w : View} → MissedUpTo m alone v u → MissedUpTo n alone u w → MissedUpTo (m + n) alone v w
missed_then {m = m} {n = n} {alone = alone} {v = v} {u = u} {w = w} a b = record {
  events = a.events ++ b.events;
  ran = ran_append alone v a.events u b.events w a.ran b.ran;
  misses = misses_append a.events b.events a.misses b.misses;
  few = subst (λ k. k ≤ m + n) (sym (length-append a.events b.events)) (add-le-add a.few b.few);
}

-- ## One after another

-- the moment to which a view leads that has waited
pub moment_is : {alone : Bool} {v w : View} → (k : Waited alone v w) → state w ≡ after_all v.given (v.seen ++ k.between)
moment_is {v = v} {w = w} k = (λ i. after_all (k.ran.given i) (k.seen i))

pub moment_run : {alone : Bool} {v w : View} → (k : Waited alone v w) → state w ≡ run v.given (state v) k.between
moment_run {v = v} k = moment_is k ∙ run_append v.given (begun v.given) v.seen k.between

-- what is apart from the later view is apart from the first one
pub apart_then : {alone : Bool} {v w : View} (k : Waited alone v w) (es : List Event) → AreApart w (state w) es → AreApart v (state v) (k.between ++ es)
apart_then {v = v} {w = w} k es a =
    apart_append v (state v) k.between es k.apart (apart_as v w k.ran.given k.ran.actor k.rows es (run v.given (state v) k.between) (subst (λ m. AreApart w m es) (moment_run k) a))

pub waited_none : (alone : Bool) (v : View) → Waited alone v v
waited_none alone v = record { ran = ran_none alone v; between = []; quiet = λ y. refl; apart = tt; seen = sym (append-nil v.seen); rows = λ q. refl }

pub waited_then : {alone : Bool} {v w u : View} → Waited alone v w → Waited alone w u → Waited alone v u
waited_then {alone = alone} {v = v} {w = w} {u = u} a b = record {
  ran = ran_append alone v [] w [] u a.ran b.ran;
  between = a.between ++ b.between;
  quiet = λ y. (λ i. a.quiet y i ++ b.quiet y i);
  apart = apart_then a b.between b.apart;
  seen = b.seen ∙ (ap (λ z. z ++ b.between) a.seen ∙ append_assoc v.seen a.between b.between);
  rows = λ q. b.rows q ∙ a.rows q;
}

pub waited_goes : {z : Shape} {v w : View} → Goes z v [] w → ((q : ℕ) → holds w.held q ≡ holds v.held q) → Waited z.alone v w
waited_goes {z = z} {v = v} {w = w} g rows = record { ran = ran_goes z v [] w tt g; between = g.between; quiet = g.quiet; apart = g.apart; seen = g.seen ∙ append-nil (v.seen ++ g.between); rows = rows }

-- where others are apart from a view, the view goes on by what they did
pub waited_apart : (z : Shape) (v : View) (between : List Event) → (z.alone ≡ true → between ≡ []) → AreApart v (state v) between → Waited z.alone v (record v { seen = v.seen ++ between })
waited_apart z v between quiet apart = record {
  ran = record {
    more = between;
    seen = refl;
    own = λ n. by_none v.actor between (none_apart v (state v) between apart);
    all = quiet;
    part = λ n. apart_sync v (state v) between apart;
    since = record { acts = []; steps = refl };
    given = refl;
    actor = refl;
    live = refl;
    made = refl;
    ended = refl;
  };
  between = between;
  quiet = quiet;
  apart = apart;
  seen = refl;
  rows = λ q. refl;
}

pub stood_none : (alone : Bool) (v : View) → Stood alone v v
stood_none alone v = record { waited = waited_none alone v; held = refl }

pub stood_then : {alone : Bool} {v w u : View} → Stood alone v w → Stood alone w u → Stood alone v u
stood_then a b = record { waited = waited_then a.waited b.waited; held = b.held ∙ a.held }

pub stood_shape : {z y : Shape} {v w : View} → z ≡ y → Stood z.alone v w → Stood y.alone v w
stood_shape {v = v} {w = w} same k = subst (λ (s : Shape). Stood s.alone v w) same k

pub stood_load : {z : Shape} {row i n : ℕ} {v w : View} → Loaded z row i v n w → Stood z.alone v w
stood_load l = record { waited = waited_goes l.goes (λ q. ap (λ hs. holds hs q) l.held); held = l.held }

-- ## Stores

pub wrote_none : (alone : Bool) (v : View) (row : ℕ) → Wrote alone row (held_at v.held row).now v v
wrote_none alone v row = record { waited = waited_none alone v; was = refl; now = refl; done = refl; others = λ q ne. refl }

-- said of the shape, the row and the words that others speak of
pub wrote_as : {z y : Shape} {row q : ℕ} {ws us : List ℕ} {v w : View} → y ≡ z → q ≡ row → ws ≡ us → Wrote y.alone q ws v w → Wrote z.alone row us v w
wrote_as {v = v} {w = w} a b e k = subst (λ (s : Shape × ℕ × List ℕ). Wrote s.0.alone s.1 s.2 v w) (λ i. (a i, b i, e i)) k

-- one more word of the row
pub wrote_more : {alone : Bool} {row : ℕ} {ws : List ℕ} {v u w : View} (i x : ℕ) → Wrote alone row ws v u → Wrote alone row (set (held_at u.held row).now i x) u w → Wrote alone row (set ws i x) v w
wrote_more i x a b = record {
  waited = waited_then a.waited b.waited;
  was = b.was ∙ a.was;
  now = b.now ∙ ap (λ (xs : List ℕ). set xs i x) a.now;
  done = b.done ∙ a.done;
  others = λ q ne. b.others q ne ∙ a.others q ne;
}

pub word_as : {z y : Shape} {row q : ℕ} {v w : View} (i x : ℕ) → y ≡ z → q ≡ row → Wrote y.alone q (set (held_at v.held q).now i x) v w → Wrote z.alone row (set (held_at v.held row).now i x) v w
word_as {v = v} {w = w} i x a b k = subst (λ (s : Shape × ℕ). Wrote s.0.alone s.1 (set (held_at v.held s.1).now i x) v w) (λ j. (a j, b j)) k

-- ## What stays of a frame row

-- it shows the words that it had
pub was_on : {alone : Bool} {z : Shape} {v w : View} {row : ℕ} → Waited alone v w → IsFrame z v row → (i : ℕ) → i < 128 → Shown v.given (state w) row i (slice_index (held_at v.held row).was i)
was_on {v = v} {w = w} {row = row} k f i l =
    subst (λ m. Shown v.given m row i (slice_index (held_at v.held row).was i)) (sym (moment_run k)) (apart_shown v k.between (state v) row i (slice_index (held_at v.held row).was i) k.apart f.mine (f.spells i l))

pub frame_on : {z : Shape} {v w : View} {row : ℕ} → Stood z.alone v w → IsFrame z v row → IsFrame z w row
frame_on {z = z} {v = v} {w = w} {row = row} s f = record {
  mine = s.waited.rows row ∙ f.mine;
  frames = subst (λ (q : Given). row < (opening q).frames) (sym s.waited.ran.given) f.frames;
  inside = f.inside;
  wide = f.wide;
  done = ap (λ hs. (held_at hs row).done) s.held ∙ f.done;
  same = ap (λ hs. (held_at hs row).now) s.held ∙ (f.same ∙ sym (ap (λ hs. (held_at hs row).was) s.held));
  size = ap (λ hs. length (held_at hs row).was) s.held ∙ f.size;
  spells = λ i l.
      subst (λ (ws : List ℕ). Shown w.given (state w) row i (slice_index ws i)) (sym (ap (λ hs. (held_at hs row).was) s.held))
      (subst (λ (q : Given). Shown q (state w) row i (slice_index (held_at v.held row).was i)) (sym s.waited.ran.given) (was_on s.waited f i l));
}

pub two_on : {z : Shape} {v w : View} {a b : ℕ} → Stood z.alone v w → HoldsTwo z v a b → HoldsTwo z w a b
two_on s t = record { first = frame_on s t.first; second = frame_on s t.second; apart = t.apart; only = λ q h. t.only q (sym (s.waited.rows q) ∙ h) }

pub three_on : {z : Shape} {v w : View} {a b d : ℕ} → Stood z.alone v w → HoldsThree z v a b d → HoldsThree z w a b d
three_on s t = record { first = frame_on s t.first; second = frame_on s t.second; third = frame_on s t.third; apart = t.apart; far = t.far; near = t.near; only = λ q h. t.only q (sym (s.waited.rows q) ∙ h) }

-- ## Rows that are open still

pub open_on : {z : Shape} {v w : View} {row : ℕ} → ((q : ℕ) → holds w.held q ≡ holds v.held q) → (held_at w.held row).done ≡ (held_at v.held row).done → IsFrame z v row → IsOpen z w row
open_on {row = row} rows done f = record { mine = rows row ∙ f.mine; inside = f.inside; done = done ∙ f.done }

pub opens_one : {z : Shape} {v w : View} {a : ℕ} → ((q : ℕ) → holds w.held q ≡ holds v.held q) → HoldsOne z v a → (held_at w.held a).done ≡ (held_at v.held a).done → OpensOne z w a
opens_one rows t a = record { first = open_on rows a t.first; only = λ q h. t.only q (sym (rows q) ∙ h) }

pub opens_two : {z : Shape} {v w : View} {a b : ℕ} → ((q : ℕ) → holds w.held q ≡ holds v.held q) → HoldsTwo z v a b → (held_at w.held a).done ≡ (held_at v.held a).done → (held_at w.held b).done ≡ (held_at v.held b).done → OpensTwo z w a b
opens_two rows t a b = record { first = open_on rows a t.first; second = open_on rows b t.second; apart = t.apart; only = λ q h. t.only q (sym (rows q) ∙ h) }

pub opens_three : {z : Shape} {v w : View} {a b d : ℕ} → ((q : ℕ) → holds w.held q ≡ holds v.held q) → HoldsThree z v a b d → (held_at w.held a).done ≡ (held_at v.held a).done → (held_at w.held b).done ≡ (held_at v.held b).done → (held_at w.held d).done ≡ (held_at v.held d).done → OpensThree z w a b d
opens_three rows t a b d = record { first = open_on rows a t.first; second = open_on rows b t.second; third = open_on rows d t.third; apart = t.apart; far = t.far; near = t.near; only = λ q h. t.only q (sym (rows q) ∙ h) }

-- where nothing was stored
pub two_open : {z : Shape} {v w : View} {a b : ℕ} → w.held ≡ v.held → HoldsTwo z v a b → OpensTwo z w a b
two_open {a = a} {b = b} e t = opens_two (λ q. ap (λ hs. holds hs q) e) t (ap (λ hs. (held_at hs a).done) e) (ap (λ hs. (held_at hs b).done) e)

pub three_open : {z : Shape} {v w : View} {a b d : ℕ} → w.held ≡ v.held → HoldsThree z v a b d → OpensThree z w a b d
three_open {a = a} {b = b} {d = d} e t = opens_three (λ q. ap (λ hs. holds hs q) e) t (ap (λ hs. (held_at hs a).done) e) (ap (λ hs. (held_at hs b).done) e) (ap (λ hs. (held_at hs d).done) e)

pub unchanged_on : {z : Shape} {v : View} {row : ℕ} (w : View) → w.held ≡ v.held → IsFrame z v row → IsUnchanged w row
unchanged_on {row = row} w e f = ap (λ hs. (held_at hs row).now) e ∙ (f.same ∙ sym (ap (λ hs. (held_at hs row).was) e))

-- said of the shape and the rows that others speak of
pub opens_one_as : {z y : Shape} {v : View} {a p : ℕ} → y ≡ z → p ≡ a → OpensOne z v a → OpensOne y v p
opens_one_as {v = v} e f t = subst (λ (s : Shape × ℕ). OpensOne s.0 v s.1) (λ i. (sym e i, sym f i)) t

pub opens_two_as : {z y : Shape} {v : View} {a b p q : ℕ} → y ≡ z → p ≡ a → q ≡ b → OpensTwo z v a b → OpensTwo y v p q
opens_two_as {v = v} e f g t = subst (λ (s : Shape × ℕ × ℕ). OpensTwo s.0 v s.1 s.2) (λ i. (sym e i, sym f i, sym g i)) t

pub opens_three_as : {z y : Shape} {v : View} {a b d p q r : ℕ} → y ≡ z → p ≡ a → q ≡ b → r ≡ d → OpensThree z v a b d → OpensThree y v p q r
opens_three_as {v = v} e f g h t = subst (λ (s : Shape × ℕ × ℕ × ℕ). OpensThree s.0 v s.1 s.2 s.3) (λ i. (sym e i, sym f i, sym g i, sym h i)) t

-- ## Publishes

pub may_as : {z y : Shape} {row q : ℕ} {e : Event} {v : View} → y ≡ z → q ≡ row → MayPublish z row e v → MayPublish y q e v
may_as {e = e} {v = v} a b m = subst (λ (s : Shape × ℕ). MayPublish s.0 s.1 e v) (λ i. (sym a i, sym b i)) m

pub changed_as : {z y : Shape} {row q : ℕ} {v : View} (e : Event) → y ≡ z → q ≡ row → IsChanged z v e row → IsChanged y v e q
changed_as {v = v} e a b m = subst (λ (s : Shape × ℕ). IsChanged s.0 v e s.1) (λ i. (sym a i, sym b i)) m

pub went_as : {z y : Shape} {v w : View} {e : Event} → y ≡ z → Went y.alone v e w → Went z.alone v e w
went_as {v = v} {w = w} {e = e} a m = subst (λ (s : Shape). Went s.alone v e w) a m

-- what went behind a later view went behind the first one
pub went_after : {alone : Bool} {v u w : View} {e : Event} → Waited alone v u → Went alone u e w → Went alone v e w
went_after {alone = alone} {v = v} {u = u} {w = w} {e = e} k m = record {
  between = k.between ++ m.between;
  quiet = λ y. (λ i. k.quiet y i ++ m.quiet y i);
  apart = apart_then k m.between m.apart;
  ran = ran_append alone v [] u (e ∷ []) w k.ran m.ran;
  later = m.later;
  seen = m.seen ∙ (ap (λ s. ((s ++ m.between) ++ e ∷ []) ++ m.later) k.seen ∙ ap (λ s. (s ++ e ∷ []) ++ m.later) (append_assoc v.seen k.between m.between));
  held = m.held;
}
