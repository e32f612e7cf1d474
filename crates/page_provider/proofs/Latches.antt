-- Rows that were latched as they were seen, or were not, and why.
use Rattle.std.proofs.Common.{◌≡◌, ◌≢◌, ◌+◌, ◌<◌, ◌≤◌, ◌^◌, ◌==◌, ltb, inl, inr, ℕ, Bool, true, false, List, [], ◌∷◌, ◌++◌, Some, append_assoc, refl, sym, ap, subst, ◌∙◌, arith}
use Rattle.std.proofs.lemmas.Bool.{cond-true, cond-false, eq-eqb, lt-ltb, ne_eqb}
use Rattle.btree_descent.specs.row_words.declared.event.Event.TheVariants.{Miss}
use Rattle.btree_descent.specs.row_words.declared.given.Given.{Given}
use Rattle.btree_descent.specs.row_words.Moments.{pager}
use Rattle.btree_descent.specs.row_words.Openings.{opening}
use Rattle.btree_descent.specs.rows_trait.declared.view.Act.{Act}
use Rattle.btree_descent.specs.rows_trait.declared.view.Act.TheVariants.{Look, Load, Store, Set, Hear, Turn}
use Rattle.btree_descent.specs.rows_trait.declared.view.View.{View}
use Rattle.btree_descent.specs.rows_trait.Causes.{Finds, HasFound, HasMoved, IsLatched, OnlyLoads}
use Rattle.btree_descent.specs.rows_trait.Turns.{Ran, Released}
use Rattle.btree_descent.specs.rows_trait.Views.{Shape, hold, held_at, holds, latest, state}
use Rattle.btree_descent.specs.rows_trait.declared.view.Hold.{Hold}
use Rattle.btree_descent.proofs.rows_trait.Causes.{finds_newer, finds_older}
use Rattle.btree_descent.proofs.rows_trait.Runs.{ran_none}
use Rattle.btree_descent.specs.version_latch.declared.glimpse.Moved.{Moved}
use Rattle.btree_descent.specs.version_latch.declared.glimpse.Latched.{Latched}
use Rattle.btree_descent.specs.Known.{IsSound}
use Rattle.btree_descent.proofs.Calls.{sound_after}
use Rattle.held_rows.specs.Latching.{IsFrameRow, Refused, Took, TookTwo}
use Rattle.held_rows.specs.Rows.{HoldsOne, OpensOne}
use Rattle.held_rows.specs.Steps.{MissedUpTo}
use Rattle.held_rows.specs.Waits.{missed_then, opens_one}
use Rattle.held_rows.proofs.GivingUp.{held_before, released_missed}
use Rattle.held_rows.proofs.Holding.{none_held}
use Rattle.held_rows.proofs.TakingMore.{took_missed, took_one, took_two}
use Rattle.row_image.specs.declared.sight.Sight.{Sight}
use Rattle.row_image.specs.Hot.{StandsIn}
use Rattle.row_image.specs.Sights.{EverySight, HasTaken, HasWords, IsBehind, IsKnown}
use Rattle.page_provider.specs.declared.refusal.Refusal.{Refusal}
use Rattle.page_provider.specs.declared.refusal.Refusal.TheVariants as refusal
use Rattle.page_provider.specs.Finds.{IsSeen, SinceFound, SinceBoth, Stopped, TakesSeen, TakesTwo, TakesWith}
use Rattle.page_provider.specs.Refusals.{Caused, HasLoaded, HasLoadedTwo, IsOfRow, IsOthers, NoSet}
use Rattle.page_provider.proofs.Loaded.{found_loaded, loads_unset}

-- ## A row that was taken

pub as_took : {z : Shape} {s : Sight} {v w : View} → HasTaken z s v w → Took z s.glimpse.row v w
as_took {s = s} {w = w} t = record {
  ran = t.ran;
  version = s.glimpse.version;
  was = t.taken.was;
  held = t.taken.held;
  size = t.taken.size;
  stands = t.taken.goes.stands;
  fresh = t.taken.fresh;
}

pub frame_row : {z : Shape} {v : View} {row : ℕ} → row < z.sizes.frames → row < (opening v.given).frames → IsFrameRow z v row
frame_row {z = z} {row = row} inside frame = record { frames = frame; inside = omega arith; wide = cond-true (ltb row z.sizes.frames) 128 5 (lt-ltb row z.sizes.frames inside) }

pub takes_seen : {z : Shape} {s : Sight} {v w : View} → v.held ≡ [] → IsSeen z s v → HasTaken z s v w → TakesSeen z s v w
takes_seen none seen t = record { ran = t.ran; one = took_one none (frame_row seen.inside seen.frame) (as_took t); stands = t.stands }

-- it has the sight's words
pub taken_words : {z : Shape} {s : Sight} {v w : View} → HasTaken z s v w → HasWords s (held_at w.held s.glimpse.row).was
taken_words {s = s} {v = v} {w = w} t =
    let row = s.glimpse.row in
    let first : held_at w.held row ≡ hold row s.glimpse.version t.taken.was t.taken.was false = ap (λ hs. held_at hs row) t.taken.held ∙ cond-true (row == row) (hold row s.glimpse.version t.taken.was t.taken.was false) (held_at v.held row) (eq-eqb row row refl) in
    subst (λ ws. HasWords s ws) (sym (ap (λ (h : Hold). h.was) first)) t.words

-- nothing was done
pub stopped_spent : {z : Shape} {v w : View} {row : ℕ} → v.held ≡ [] → w ≡ v → Stopped 1 z v (refusal.RowSpent row) w
stopped_spent {z = z} {v = v} none is = record {
  missed = record { events = []; ran = subst (λ x. Ran z.alone v [] x) (sym is) (ran_none z.alone v); misses = tt; few = omega arith };
  held = ap (λ (x : View). x.held) is ∙ none;
  kind = tt;
  quiet = λ _ o. o;
}

-- ## A second row

-- what was seen of another row is so still
pub seen_still : {z : Shape} {a b : Sight} {v u : View} → EverySight → a.glimpse.row ≢ b.glimpse.row → HasTaken z a v u → IsSeen z b v → IsSeen z b u
seen_still {a = a} {b = b} {v = v} {u = u} every ne t s =
    let off : (a.glimpse.row == b.glimpse.row) ≡ false = ne_eqb a.glimpse.row b.glimpse.row ne in
    let front = Set a.glimpse.row (a.glimpse.version + 1) ∷ Look a.glimpse.row a.glimpse.version u.seen ∷ [] in
    record {
      inside = s.inside;
      frame = subst (λ (g : Given). b.glimpse.row < (opening g).frames) (sym t.ran.given) s.frame;
      known = subst (λ (acts : List Act). IsKnown b acts) (sym t.taken.steps) ((every b).known front v.steps s.known);
      last = λ alone. ap (λ acts. latest b.glimpse.row acts) t.taken.steps
          ∙ (cond-false (a.glimpse.row == b.glimpse.row) (Some (a.glimpse.version + 1)) (latest b.glimpse.row (Look a.glimpse.row a.glimpse.version u.seen ∷ v.steps)) off
          ∙ (cond-false (a.glimpse.row == b.glimpse.row) (Some a.glimpse.version) (latest b.glimpse.row v.steps) off ∙ s.last alone));
    }

-- the page of the first sight stands where it was seen, whatever others did
first_stands : {z : Shape} {a : Sight} {v u w : View} {b : ℕ} → EverySight → IsSound v.given → a.glimpse.row ≢ b → HasTaken z a v u → Took z b u w → TookTwo z a.glimpse.row b v w → StandsIn w.given (state w) a.glimpse.row a.node
first_stands {a = a} {v = v} {u = u} {w = w} {b = b} every sound ne t q two =
    let row = a.glimpse.row in
    let off : (b == row) ≡ false = ne_eqb b row (λ e. ne (sym e)) in
    let later : held_at w.held row ≡ held_at u.held row = ap (λ hs. held_at hs row) q.held ∙ cond-false (b == row) (hold b q.version q.was q.was false) (held_at u.held row) off in
    let first : held_at u.held row ≡ hold row a.glimpse.version t.taken.was t.taken.was false = ap (λ hs. held_at hs row) t.taken.held ∙ cond-true (row == row) (hold row a.glimpse.version t.taken.was t.taken.was false) (held_at v.held row) (eq-eqb row row refl) in
    let same : (held_at w.held row).was ≡ t.taken.was = ap (λ (h : Hold). h.was) (later ∙ first) in
    (every a).stands w.given (state w) row (held_at w.held row).was two.two.first.frames (sound_after v w two.ran.given sound) (subst (λ ws. HasWords a ws) (sym same) t.words) two.two.first.spells

module _ {z : Shape} {a : Sight} {v u : View} (every : EverySight) (sound : IsSound v.given) (none : v.held ≡ []) (seen : IsSeen z a v) (t : HasTaken z a v u) where
  one : HoldsOne z u a.glimpse.row
  one = took_one none (frame_row seen.inside seen.frame) (as_took t)

  pub takes_two : {b : Sight} {w : View} → a.glimpse.row ≢ b.glimpse.row → IsSeen z b v → HasTaken z b u w → TakesTwo z a b v w
  takes_two {b} {w} ne other q =
      let two = took_two one (frame_row other.inside other.frame) (as_took t) (as_took q) in
      record { ran = two.ran; two = two.two; first = first_stands every sound ne t (as_took q) two; second = q.stands }

  pub takes_with : {row : ℕ} {w : View} → a.glimpse.row ≢ row → row < z.sizes.frames → row < (opening v.given).frames → Took z row u w → TakesWith z a row v w
  takes_with {row} {w} ne inside frame q =
      let two = took_two one (frame_row inside frame) (as_took t) q in
      record { ran = two.ran; two = two.two; first = first_stands every sound ne t q two }

-- ## The second row was not latched, and the first one is given up

module _ {z : Shape} {a : Sight} {v u w x : View} (none : v.held ≡ []) (seen : IsSeen z a v) (t : HasTaken z a v u) (same : w.held ≡ u.held) (r : Released z a.glimpse.row w x) where
  held_one : HoldsOne z u a.glimpse.row
  held_one = took_one none (frame_row seen.inside seen.frame) (as_took t)

  still_one : OpensOne z w a.glimpse.row
  still_one = opens_one (λ q. ap (λ hs. holds hs q) same) held_one (ap (λ hs. (held_at hs a.glimpse.row).done) same)

  pub stopped_second : {why : Refusal} → IsOfRow why → MissedUpTo 1 z.alone u w → (z.alone ≡ true → IsOthers why → ⊥) → Stopped 2 z v why x
  stopped_second kind m quiet = record {
    missed = missed_then (missed_then (took_missed (as_took t)) m) (released_missed still_one.first r);
    held = none_held x.held (held_before r (λ q. ⊥) (λ q h. inl (still_one.only q h)));
    kind = kind;
    quiet = quiet;
  }

pub behind_missed : {alone : Bool} {a : Sight} {u w : View} {m : Moved} → IsBehind alone pager a u m w → MissedUpTo 1 alone u w
behind_missed k = record { events = Miss pager ∷ []; ran = k.ran; misses = tt; few = omega arith }

pub spent_missed : {alone : Bool} {u w : View} → w ≡ u → MissedUpTo 1 alone u w
spent_missed {alone = alone} {u = u} is = record { events = []; ran = subst (λ y. Ran alone u [] y) (sym is) (ran_none alone u); misses = tt; few = omega arith }

-- ## What was loaded by then

unset_append : (row : ℕ) (ss ts : List Act) → NoSet row ss → NoSet row ts → NoSet row (ss ++ ts)
unset_append row [] ts a b = b
unset_append row (Look q m at ∷ ss) ts a b = unset_append row ss ts a b
unset_append row (Load q i m ∷ ss) ts a b = unset_append row ss ts a b
unset_append row (Store q i m ∷ ss) ts a b = unset_append row ss ts a b
unset_append row (Set q m ∷ ss) ts a b = (a.0, unset_append row ss ts a.1 b)
unset_append row (Hear c j m ∷ ss) ts a b = unset_append row ss ts a b
unset_append row (Turn c j m ∷ ss) ts a b = unset_append row ss ts a b

module _ {z : Shape} {a : Sight} {from v u w x : View} (t : HasTaken z a v u) (o : OnlyLoads from v) (k : OnlyLoads u w) (r : Released z a.glimpse.row w x) where
  abbrev first_acts : List Act
  first_acts = Set a.glimpse.row (a.glimpse.version + 1) ∷ (Look a.glimpse.row a.glimpse.version u.seen ∷ o.acts)

  abbrev all_acts : List Act
  all_acts = Set a.glimpse.row ((held_at w.held a.glimpse.row).version + 2) ∷ (k.acts ++ first_acts)

  all_steps : x.steps ≡ all_acts ++ from.steps
  all_steps =
      let first : u.steps ≡ first_acts ++ from.steps = t.taken.steps ∙ ap (λ ss. Set a.glimpse.row (a.glimpse.version + 1) ∷ (Look a.glimpse.row a.glimpse.version u.seen ∷ ss)) o.steps in
      r.steps ∙ ap (λ ss. Set a.glimpse.row ((held_at w.held a.glimpse.row).version + 2) ∷ ss) (k.steps ∙ (ap (λ ss. k.acts ++ ss) first ∙ sym (append_assoc k.acts first_acts from.steps)))

  before_finds : (row n : ℕ) → Finds row n o.acts → Finds row n all_acts
  before_finds row n h = finds_older row n k.acts first_acts (inr h)

  after_finds : (row n : ℕ) → Finds row n k.acts → Finds row n all_acts
  after_finds row n h = finds_newer row n k.acts first_acts h

  all_unset : (row : ℕ) → a.glimpse.row ≢ row → NoSet row all_acts
  all_unset row ne = (ne, unset_append row k.acts first_acts (loads_unset row k.acts k.loads) (ne, loads_unset row o.acts o.loads))

  -- before the first row was latched
  pub loaded_before : (row n : ℕ) → Finds row n o.acts → HasLoaded row n from x
  loaded_before row n h = record { acts = all_acts; steps = all_steps; finds = before_finds row n h }

  -- behind that
  pub loaded_after : (row n : ℕ) → Finds row n k.acts → HasLoaded row n from x
  loaded_after row n h = record { acts = all_acts; steps = all_steps; finds = after_finds row n h }

  pub moved_over : (row seen found : ℕ) → a.glimpse.row ≢ row → found ≢ seen → Finds row seen o.acts → Finds row found k.acts → HasLoadedTwo row seen found from x
  moved_over row seen found ne unequal f l = record { unequal = unequal; early = []; acts = all_acts; steps = all_steps; first = before_finds row seen f; last = after_finds row found l; unset = all_unset row ne }

  pub moved_after : (row seen found : ℕ) → a.glimpse.row ≢ row → found ≢ seen → Finds row seen k.acts → Finds row found k.acts → HasLoadedTwo row seen found from x
  moved_after row seen found ne unequal f l = record { unequal = unequal; early = []; acts = all_acts; steps = all_steps; first = after_finds row seen f; last = after_finds row found l; unset = all_unset row ne }

-- ## Why a row was not latched

pub spent_seen : {z : Shape} {s : Sight} {from v w : View} → IsSeen z s v → 2 ^ 62 ≤ s.glimpse.version → w ≡ v → HasFound s.glimpse.row s.glimpse.version from v → Caused from (refusal.RowSpent s.glimpse.row) w
spent_seen {s = s} {from = from} seen last is f = subst (λ (y : View). Caused from (refusal.RowSpent s.glimpse.row) y) (sym is) (inl (seen.frame, (s.glimpse.version, last, found_loaded f)))

-- ## Why the second row was not latched

-- of two sights
module _ {z : Shape} {a : Sight} (b : Sight) {v u w x : View} (ne : a.glimpse.row ≢ b.glimpse.row) (t : HasTaken z a v u) (r : Released z a.glimpse.row w x) where
  pub both_moved : {alone : Bool} {m : Moved} → IsBehind alone pager b u m w → SinceBoth a b v (refusal.Moved m) x
  both_moved {m = m} k from fa fb =
      let at : b.glimpse.row ≡ m.row = sym k.of_row in
      let f : Finds m.row m.seen fb.loads.acts = subst (λ (p : ℕ × ℕ). Finds p.0 p.1 fb.loads.acts) (λ i. (at i, sym k.seen i)) fb.finds in
      moved_over t fb.loads k.looked.loads r m.row m.seen m.found (λ e. ne (e ∙ k.of_row)) k.unequal f k.looked.finds

  pub both_spent : b.glimpse.row < (opening v.given).frames → 2 ^ 62 ≤ b.glimpse.version → w ≡ u → SinceBoth a b v (refusal.RowSpent b.glimpse.row) x
  both_spent low last is from fa fb = inl (subst (λ (g : Given). b.glimpse.row < (opening g).frames) (sym (r.goes.given ∙ (ap (λ (y : View). y.given) is ∙ t.ran.given))) low, (b.glimpse.version, last, loaded_before t fb.loads (record { acts = []; steps = ap (λ (y : View). y.steps) is; loads = tt }) r b.glimpse.row b.glimpse.version fb.finds))

-- of a sight and another row
module _ {z : Shape} {a : Sight} {v u w x : View} {row : ℕ} (ne : a.glimpse.row ≢ row) (t : HasTaken z a v u) (r : Released z a.glimpse.row w x) where
  pub with_moved : {m : Moved} → m.row ≡ row → HasMoved m.row m.seen m.found u w → SinceFound a v (refusal.Moved m) x
  with_moved {m} at k from fa = moved_after t fa.loads k.loads r m.row m.seen m.found (λ e. ne (e ∙ at)) k.unequal k.first k.last

  pub with_latched : {l : Latched} → IsLatched l.row l.word u w → SinceFound a v (refusal.Latched l) x
  with_latched {l} k from fa = (k.odd, loaded_after t fa.loads k.found.loads r l.row l.word k.found.finds)

  pub with_spent : {q version : ℕ} → row < (opening v.given).frames → w.given ≡ u.given → q ≡ row → 2 ^ 62 ≤ version → HasFound row version u w → SinceFound a v (refusal.RowSpent q) x
  with_spent {q} {version} low given at last k from fa = inl (subst (λ (y : Given × ℕ). y.1 < (opening y.0).frames) (λ i. (sym (r.goes.given ∙ (given ∙ t.ran.given)) i, sym at i)) low, (version, last, loaded_after t fa.loads k.loads r q version (subst (λ p. Finds p version k.loads.acts) (sym at) k.finds)))

-- said of the shape that others speak of
pub refused_as : {z y : Shape} {u w : View} → y ≡ z → Refused y.alone u w → Refused z.alone u w
refused_as {u = u} {w = w} same k = subst (λ (s : Shape). Refused s.alone u w) same k
