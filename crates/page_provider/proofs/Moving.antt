-- What a call has done so far, and how its parts join.
use Rattle.std.proofs.Common.{◌≡◌, ◌≤◌, ◌+◌, ◌||◌, ℕ, Bool, true, false, List, [], ◌∷◌, ◌++◌, length, refl, sym, ap, subst, ◌∙◌, arith}
use Rattle.btree_descent.specs.core_state.Needs.{is_dirty}
use Rattle.btree_descent.specs.row_words.declared.event.Event.{Event}
use Rattle.btree_descent.specs.row_words.declared.event.Event.TheVariants as told
use Rattle.btree_descent.specs.rows_trait.declared.view.View.{View}
use Rattle.btree_descent.specs.rows_trait.Views.{Shape, state}
use Rattle.btree_descent.specs.rows_trait.Turns.{Ran}
use Rattle.held_rows.specs.Steps.{MissedUpTo}
use Rattle.page_provider.specs.declared.refusal.Refusal.{Refusal}
use Rattle.page_provider.specs.declared.refusal.Refusal.TheVariants as refusal
use Rattle.page_provider.specs.Comes.{HasCome}
use Rattle.page_provider.specs.Ends.{HasRefused}
use Rattle.page_provider.specs.Evicts.{CanLeave, HasLeft, HasStayed, leaving, saving}
use Rattle.page_provider.specs.Finds.{Halts, Stalls, Stopped}
use Rattle.page_provider.specs.Inside.{MayGo, Missed}
use Rattle.page_provider.specs.Laws.{RowLaws}
use Rattle.page_provider.specs.Moves.{AreMet, AreTicked, IsSame, KeepsPath, Moved, Rested, is_pagers, others_in}
use Rattle.page_provider.specs.Providers.{Provider, Keeps}
use Rattle.page_provider.specs.Refusals.{Caused, IsOfRow, breaks}
use Rattle.page_provider.specs.Steps.{AreMisses}
use Rattle.page_provider.proofs.Easing.{AreResting, Eased, eased_path, eased_rested, eased_stood, eased_then, evict_eases, evict_ran, save_clean, save_eases, save_goes, save_keeps, save_ran}
use Rattle.page_provider.proofs.Joins.{Cut, cut, few_misses, held_misses, met_cut, met_misses, met_then, misses_others, misses_pagers, misses_ticked, others_append, pagers_append, ran_join, ran_still, ticked_append}
use Rattle.page_provider.proofs.Keeping.{keeps_ran, ran_stood}
use Rattle.page_provider.proofs.Loaded.{caused_before}

-- ## One after another

pub same_none : {k : Provider} → IsSame k k
same_none = record { frames = refl; workers = refl; generation = refl }

pub same_then : {a b c : Provider} → IsSame a b → IsSame b c → IsSame a c
same_then x y = record { frames = y.frames ∙ x.frames; workers = y.workers ∙ x.workers; generation = y.generation ∙ x.generation }

pub moved_none : {z : Shape} {v : View} {k : Provider} → Keeps z v k → v.held ≡ [] → Moved 0 z v k v k
moved_none {z = z} {v = v} c none = record {
  events = [];
  goes = record {
    ran = ran_still z.alone v;
    held = none;
    keeps = c;
  };
  pagers = tt;
  ticked = tt;
  few = omega arith;
  met = tt;
  same = same_none;
}

pub moved_then : {m n : ℕ} {z : Shape} {v u w : View} {a b c : Provider} → Moved m z v a u b → Moved n z u b w c → Moved (m + n) z v a w c
moved_then {z = z} {v = v} {u = u} {w = w} x y = record {
  events = x.events ++ y.events;
  goes = record { ran = ran_join z.alone v x.events u y.events w x.goes.ran y.goes.ran; held = y.goes.held; keeps = y.goes.keeps };
  pagers = pagers_append x.events y.events x.pagers y.pagers;
  ticked = ticked_append x.events y.events x.ticked y.ticked;
  few = let f = x.few in let g = y.few in let h = others_append x.events y.events in omega arith;
  met = met_then x.goes.ran y.goes.ran x.met y.met;
  same = same_then x.same y.same;
}

pub then_events : {m n : ℕ} {z : Shape} {v u w : View} {a b c : Provider} (x : Moved m z v a u b) (y : Moved n z u b w c) → (moved_then x y).events ≡ x.events ++ y.events
unfolding moved_then
then_events x y = refl

pub moved_up : {m n : ℕ} {z : Shape} {v u : View} {a b : Provider} → m ≤ n → Moved m z v a u b → Moved n z v a u b
moved_up le x = record { events = x.events; goes = x.goes; pagers = x.pagers; ticked = x.ticked; few = let f = x.few in omega arith; met = x.met; same = x.same }

pub path_none : (path : List ℕ) (v : View) → KeepsPath path v v
path_none path v f p h e = e

pub path_then : (path : List ℕ) (v u w : View) → KeepsPath path v u → KeepsPath path u w → KeepsPath path v w
path_then path v u w a b f p h e = b f p h (a f p h e)

pub rested_none : (z : Shape) (v : View) → Rested z v v
rested_none z v = record { cold = λ p h. h; saved = λ p h. refl; pages = λ a p. refl }

pub rested_then : {z : Shape} {v u w : View} → Rested z v u → Rested z u w → Rested z v w
rested_then a b = record { cold = λ p h. b.cold p (a.cold p h); saved = λ p h. b.saved p (a.cold p h) ∙ a.saved p h; pages = λ n p. b.pages n p ∙ a.pages n p }

-- of the memory the hand may go on
hand_keeps : {z : Shape} {v : View} {k : Provider} (hand : ℕ) → Keeps z v k → Keeps z v (record k { hand = hand })
hand_keeps hand c = record { actor = c.actor; sound = c.sound; waiting = c.waiting; sized = c.sized; some = c.some; workers = c.workers; pages = c.pages; agrees = c.agrees; kept = c.kept; epoch = c.epoch }

pub keeps_hand : {z : Shape} {v : View} {k is : Provider} → is ≡ record k { hand = is.hand } → Keeps z v k → Keeps z v is
keeps_hand {z = z} {v = v} {is = is} same c = subst (Keeps z v) (sym same) (hand_keeps is.hand c)

-- ## Refusals

row_well : (why : Refusal) → IsOfRow why → (breaks why ≡ false) × (why ≡ refusal.Broken → ⊥)
row_well (refusal.Moved m) k = (refl, λ e. cc)
row_well (refusal.Latched l) k = (refl, λ e. cc)
row_well (refusal.RowSpent row) k = (refl, λ e. cc)
row_well _ k = absurd k

or_false : (b : Bool) → b ≡ (b || false)
or_false true = refl
or_false false = refl

-- a finder was stopped
pub missed_halts : {z : Shape} {v u : View} {why : Refusal} → v.held ≡ [] → Missed z v why u → Halts 1 z v why u
missed_halts none m = record {
  stopped = record {
    missed = record { events = m.misses; ran = m.ran; misses = to_held m.misses (few_misses m.misses m.few).0; few = (few_misses m.misses m.few).1 };
    held = m.held ∙ none;
    kind = m.kind;
    quiet = λ alone o. m.quiet alone none o;
  };
  cause = m.cause;
}
  where
    to_held : (es : List Event) → AreMisses es → Rattle.held_rows.specs.Steps.AreMisses es
    to_held [] k = tt
    to_held (told.Miss w ∷ es) k = to_held es k
    to_held (_ ∷ es) k = absurd k

-- misses alone
misses_moved : {n : ℕ} {z : Shape} {v u : View} {k : Provider} → RowLaws → Keeps z v k → u.held ≡ [] → (es : List Event) → AreMisses es → length es ≤ n → Ran z.alone v es u → Moved n z v k u k
misses_moved {z = z} {v = v} {u = u} laws c none es m few r = record {
  events = es;
  goes = record { ran = r; held = none; keeps = keeps_ran laws.stood laws.standing m r c };
  pagers = misses_pagers es m;
  ticked = misses_ticked es m;
  few = let o = misses_others es m in omega arith;
  met = met_misses z.alone v u es c.actor r m;
  same = same_none;
}

-- a part that had done nothing was stopped
stopped_refused : {n : ℕ} {z : Shape} {path : List ℕ} {v u : View} {k : Provider} {why : Refusal} → RowLaws → Keeps z v k → Stopped n z v why u → Caused v why u → HasRefused n z path v k why u k
stopped_refused {z = z} {path = path} {v = v} {u = u} {k = k} {why = why} laws c s cause =
    let m = held_misses s.missed.events s.missed.misses in
    record {
      moved = misses_moved laws c s.held s.missed.events m s.missed.few s.missed.ran;
      keeps = eased_path v u path (eased_stood (ran_stood laws.stood c m s.missed.ran));
      broken = or_false k.broken ∙ ap (λ b. k.broken || b) (sym (row_well why s.kind).0);
      cause = cause;
      quiet = s.quiet;
      earlier = λ e. absurd ((row_well why s.kind).1 e);
    }

pub halts_refused : {n : ℕ} {z : Shape} {path : List ℕ} {v u : View} {k : Provider} {why : Refusal} → RowLaws → Keeps z v k → v.held ≡ [] → Halts n z v why u → HasRefused n z path v k why u k
halts_refused laws c none h = stopped_refused laws c h.stopped h.cause

refused_hand : {n : ℕ} {z : Shape} {path : List ℕ} {v u : View} {a k : Provider} {why : Refusal} (hand : ℕ) → HasRefused n z path v a why u k → HasRefused n z path v a why u (record k { hand = hand })
refused_hand hand h =
    let x = h.moved in
    record {
      moved = record {
        events = x.events;
        goes = record { ran = x.goes.ran; held = x.goes.held; keeps = hand_keeps hand x.goes.keeps };
        pagers = x.pagers;
        ticked = x.ticked;
        few = x.few;
        met = x.met;
        same = record { frames = x.same.frames; workers = x.same.workers; generation = x.same.generation };
      };
      keeps = h.keeps;
      broken = h.broken;
      cause = h.cause;
      quiet = h.quiet;
      earlier = h.earlier;
    }

pub stalls_refused : {n : ℕ} {z : Shape} {path : List ℕ} {v u : View} {k is : Provider} {why : Refusal} → RowLaws → Keeps z v k → v.held ≡ [] → Stalls n z v k why u is → HasRefused n z path v k why u is
stalls_refused {n = n} {z = z} {path = path} {v = v} {u = u} {k = k} {is = is} {why = why} laws c none s = subst (λ (p : Provider). HasRefused n z path v k why u p) (sym s.memory) (refused_hand is.hand (stopped_refused laws c s.stopped s.cause))

-- a part was refused behind others
pub refused_then : {m n : ℕ} {z : Shape} {path : List ℕ} {v u w : View} {a b c : Provider} {why : Refusal} → Moved m z v a u b → KeepsPath path v u → b.broken ≡ a.broken → HasRefused n z path u b why w c → HasRefused (m + n) z path v a why w c
refused_then {z = z} {path = path} {v = v} {u = u} {w = w} {why = why} x k well r = record {
  moved = moved_then x r.moved;
  keeps = path_then path v u w k r.keeps;
  broken = r.broken ∙ ap (λ b. b || breaks why) well;
  cause = caused_before w why x.goes.ran.since r.cause;
  quiet = r.quiet;
  earlier = λ e. sym well ∙ r.earlier e;
}

pub refused_up : {m n : ℕ} {z : Shape} {path : List ℕ} {v u : View} {a b : Provider} {why : Refusal} → m ≤ n → HasRefused m z path v a why u b → HasRefused n z path v a why u b
refused_up le r = record { moved = moved_up le r.moved; keeps = r.keeps; broken = r.broken; cause = r.cause; quiet = r.quiet; earlier = r.earlier }

-- ## Evictions

may_go : {v : View} {page : ℕ} → CanLeave v page → MayGo v page
may_go m = record { below = m.below; cooling = m.cooling; unwaited = m.unwaited }

-- what its events have done
record Gone (z : Shape) (v : View) (page : ℕ) (dirty : Bool) (u : View) (more : List Event) : Type 0 where
  met : AreMet v.given (state v) more
  eased : Eased (state v).core (state u).core

gone_by : {z : Shape} {v u : View} {k : Provider} {page : ℕ} → RowLaws → Keeps z v k → v.held ≡ [] → CanLeave v page → (dirty : Bool) → is_dirty (state v).core page ≡ dirty → (r : Ran z.alone v (leaving dirty page) u) → Gone z v page dirty u r.more
gone_by {z = z} {v = v} {u = u} {page = page} laws c none m false clean r = record { met = evict_ran laws none c (may_go m) clean r; eased = evict_eases laws none c (may_go m) clean r }
gone_by {z = z} {v = v} {u = u} {page = page} laws c none m true dirty r =
    let x : Cut z.alone v (told.Save page) (told.Evict page ∷ []) u r.more = cut z.alone v u (told.Save page) (told.Evict page ∷ []) r in
    let there = save_keeps laws none c (may_go m) m.low x.first in
    let goes = save_goes laws none c (may_go m) m.low x.first in
    let clean = save_clean laws none c (may_go m) m.low x.first in
    record {
      met = met_cut x (save_ran laws none c (may_go m) m.low x.first) (evict_ran laws (x.held ∙ none) there goes clean x.last);
      eased = eased_then (save_eases laws none c (may_go m) m.low x.first) (evict_eases laws (x.held ∙ none) there goes clean x.last);
    }

leaving_are : (dirty : Bool) (page : ℕ) → (Rattle.page_provider.specs.Moves.ArePagers (leaving dirty page)) × ((AreTicked (leaving dirty page)) × ((others_in (leaving dirty page) ≤ 2) × AreResting (leaving dirty page)))
leaving_are true page = ((refl, (refl, tt)), (tt, (omega arith, tt)))
leaving_are false page = ((refl, tt), (tt, (omega arith, tt)))

module _ {z : Shape} {v u : View} {k is : Provider} {page : ℕ} (laws : RowLaws) (c : Keeps z v k) (none : v.held ≡ []) (m : CanLeave v page) (h : HasLeft z v k page u is) where
  left_gone : Gone z v page (is_dirty (state v).core page) u h.goes.ran.more
  left_gone = gone_by laws c none m (is_dirty (state v).core page) refl h.goes.ran

  -- a page that has left: no hot page was moved, and no page came
  left_moves : Moved 2 z v k u is
  left_moves =
      let a = leaving_are (is_dirty (state v).core page) page in
      record {
        events = leaving (is_dirty (state v).core page) page;
        goes = h.goes;
        pagers = a.0;
        ticked = a.1.0;
        few = a.1.1.0;
        met = left_gone.met;
        same = record { frames = ap (λ (p : Provider). p.frames) h.pool; workers = ap (λ (p : Provider). p.workers) h.pool; generation = ap (λ (p : Provider). p.generation) h.pool };
      }

  left_rests : Rested z v u
  left_rests = eased_rested h.goes.ran (leaving_are (is_dirty (state v).core page) page).1.1.1 left_gone.eased

pub left_moved : {z : Shape} {v u : View} {k is : Provider} {page : ℕ} → RowLaws → Keeps z v k → v.held ≡ [] → CanLeave v page → HasLeft z v k page u is → Moved 2 z v k u is
left_moved laws c none m h = left_moves laws c none m h

pub left_rested : {z : Shape} {v u : View} {k is : Provider} {page : ℕ} → RowLaws → Keeps z v k → v.held ≡ [] → CanLeave v page → HasLeft z v k page u is → Rested z v u
left_rested laws c none m h = left_rests laws c none m h

pub left_path : {z : Shape} {v u : View} {k is : Provider} {page : ℕ} (path : List ℕ) → RowLaws → Keeps z v k → v.held ≡ [] → CanLeave v page → HasLeft z v k page u is → KeepsPath path v u
left_path {v = v} {u = u} path laws c none m h = let g = left_gone laws c none m h in eased_path v u path g.eased

-- one that stayed
stayed_gone : {z : Shape} {v u : View} {k : Provider} {page : ℕ} → RowLaws → Keeps z v k → v.held ≡ [] → CanLeave v page → (saved : Bool) (es : List Event) → AreMisses es → (r : Ran z.alone v (saving saved page ++ es) u) → Gone z v page saved u r.more
stayed_gone {z = z} {v = v} {u = u} laws c none m false es misses r = record { met = met_misses z.alone v u es c.actor r misses; eased = eased_stood (ran_stood laws.stood c misses r) }
stayed_gone {z = z} {v = v} {u = u} {page = page} laws c none m true es misses r =
    let x : Cut z.alone v (told.Save page) es u r.more = cut z.alone v u (told.Save page) es r in
    let there = save_keeps laws none c (may_go m) m.low x.first in
    record {
      met = met_cut x (save_ran laws none c (may_go m) m.low x.first) (met_misses z.alone x.mid u es there.actor x.last misses);
      eased = eased_then (save_eases laws none c (may_go m) m.low x.first) (eased_stood (ran_stood laws.stood there misses x.last));
    }

saving_are : (saved : Bool) (page : ℕ) (es : List Event) → AreMisses es → length es ≤ 1 → (Rattle.page_provider.specs.Moves.ArePagers (saving saved page ++ es)) × ((AreTicked (saving saved page ++ es)) × (others_in (saving saved page ++ es) ≤ 2))
saving_are true page es m few = ((refl, misses_pagers es m), (misses_ticked es m, let o = misses_others es m in omega arith))
saving_are false page es m few = (misses_pagers es m, (misses_ticked es m, let o = misses_others es m in omega arith))

pub stayed_refused : {z : Shape} {v u : View} {k is : Provider} {page : ℕ} {path : List ℕ} {why : Refusal} → RowLaws → Keeps z v k → v.held ≡ [] → CanLeave v page → HasStayed z v k page why u is → HasRefused 2 z path v k why u is
stayed_refused {v = v} {u = u} {page = page} {path = path} laws c none m h =
    let f = few_misses h.misses h.few in
    let g = stayed_gone laws c none m h.saved h.misses f.0 h.goes.ran in
    let a = saving_are h.saved page h.misses f.0 f.1 in
    record {
      moved = record {
        events = saving h.saved page ++ h.misses;
        goes = h.goes;
        pagers = a.0;
        ticked = a.1.0;
        few = a.1.1;
        met = g.met;
        same = record { frames = ap (λ (p : Provider). p.frames) h.pool; workers = ap (λ (p : Provider). p.workers) h.pool; generation = ap (λ (p : Provider). p.generation) h.pool };
      };
      keeps = eased_path v u path g.eased;
      broken = h.broken;
      cause = h.cause;
      quiet = h.quiet;
      earlier = h.earlier;
    }

-- ## A page comes

ticked_one : (e : Event) → others_in (e ∷ []) ≡ 1 → AreTicked (e ∷ [])
ticked_one (told.Cool p) h = absurd (omega arith)
ticked_one told.Tick h = absurd (omega arith)
ticked_one _ h = tt

pub come_moved : {z : Shape} {v u : View} {k is : Provider} {page frame : ℕ} {e : Event} → is_pagers e ≡ true → others_in (e ∷ []) ≡ 1 → HasCome z e page frame v k u is → Moved 1 z v k u is
come_moved {e = e} pagers one h = record {
  events = e ∷ [];
  goes = h.goes;
  pagers = (pagers, tt);
  ticked = ticked_one e one;
  few = omega arith;
  met = h.met;
  same = record { frames = ap (λ (p : Provider). p.frames) h.memory; workers = ap (λ (p : Provider). p.workers) h.memory; generation = ap (λ (p : Provider). p.generation) h.memory };
}
