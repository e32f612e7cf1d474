-- A page that comes into a frame: what its event needs, and what is so behind it.
use Rattle.std.proofs.Common.{◌≡◌, ◌≢◌, ◌<◌, ◌≤◌, ◌^◌, ◌==◌, ◌&&◌, ◌||◌, not, ltb, ℕ, zero, suc, Bool, true, false, List, [], ◌∷◌, ◌++◌, length, take, Some, inl, inr, refl, sym, ap, subst, ◌∙◌, arith, true≢false, ◌-◌}
use Rattle.std.specs.Prelude.{if◌then◌else◌, slice_set}
use Rattle.std.proofs.lemmas.Bool.{and_from, eq-eqb, eqb-true, lt-ltb, ltb-true}
use Rattle.std.proofs.lemmas.List.{append_cancel_left, get_or-set_other, get_or-set_same, length-append, length-set}
use Rattle.std.proofs.Math.Seq.{take-append_seam}
use Rattle.map_model.specs.Lists.{Has, upd}
use Rattle.map_model.proofs.ListLemmas.{upd_other, upd_same}
use Rattle.page_model.specs.Check.{names_page}
use Rattle.page_model.specs.Page as stored
use Rattle.page_model.specs.Tree.{IsTree, Names}
use Rattle.page_model.specs.Nodes.{Node}
use Rattle.page_model.specs.Pairs as pairs
use Rattle.page_model.specs.Records.{any}
use Rattle.btree_descent.specs.core_state.Lists.{all_below}
use Rattle.btree_descent.specs.core_state.Openings.{Opening}
use Rattle.btree_descent.specs.core_state.States.{Place, State, frame_of, in_frame, is_cold, is_cooling, is_hot, nodes_of}
use Rattle.btree_descent.specs.core_state.Events as happening
use Rattle.btree_descent.specs.core_state.Needs as core
use Rattle.btree_descent.specs.core_state.Needs.{has_hot_parent, is_empty_frame}
use Rattle.btree_descent.specs.core_state.Steps.{happens}
use Rattle.btree_descent.specs.row_words.declared.event.Event.{Event}
use Rattle.btree_descent.specs.row_words.declared.event.Event.TheVariants.{Load, Miss, Rescue}
use Rattle.btree_descent.specs.row_words.declared.given.Given.{Given}
use Rattle.btree_descent.specs.row_words.Moments.{Moment, event_of, actor_of, pager, by}
use Rattle.btree_descent.specs.row_words.Openings.{opening}
use Rattle.btree_descent.specs.row_words.Sealed.{stepped, run}
use Rattle.btree_descent.proofs.row_words.Stays.{and_true}
use Rattle.btree_descent.specs.rows_trait.declared.view.View.{View}
use Rattle.btree_descent.specs.rows_trait.Views.{Shape, state}
use Rattle.btree_descent.specs.rows_trait.Turns.{Ran}
use Rattle.btree_descent.specs.lean_proto.Still.{Stood}
use Rattle.cooling_stage.specs.declared.stage.Cooling.{Cooling}
use Rattle.cooling_stage.specs.Queue.{Stage, found, stage, without}
use Rattle.free_pages.specs.Pages.{is_in}
use Rattle.page_moves.specs.Moves.{CanFillFree, CanRevive, contents_of}
use Rattle.page_pool.specs.Pools.{Agrees, AreOnce, Pool, others}
use Rattle.page_pool.specs.Queues.{IsFound}
use Rattle.page_provider.specs.Comes.{CanCome, HasCome}
use Rattle.page_provider.specs.Finds.{Halts}
use Rattle.page_provider.specs.Inside.{Missed}
use Rattle.page_provider.specs.Laws.{RowLaws}
use Rattle.page_provider.specs.Moves.{AreMet}
use Rattle.cold_pages.specs.declared.kept.Kept.{Kept}
use Rattle.cold_pages.specs.Kept.{AreWithin, come as come_kept}
use Rattle.page_provider.specs.Providers.{IsKept, Provider, Keeps, pool}
use Rattle.page_provider.specs.Steps.{IsMissAtMost}
use Rattle.page_provider.specs.declared.refusal.Refusal.{Refusal}
use Rattle.held_rows.specs.Steps as steps
use Rattle.page_provider.proofs.Departures.{framed}
use Rattle.page_provider.proofs.Kept.{kept_come, kept_placed, kept_within}
use Rattle.page_provider.proofs.Keeping.{Parted, at_event, by_event, event_happens, keeps_before, keeps_event, keeps_ran, parted, ran_stood, stood_after, stood_before}
use Rattle.page_provider.proofs.Outcomes.{is_pager}
use Rattle.page_provider.proofs.Standing.{state_on}

-- ## What its event needs stays

or_true : (b : Bool) → (b || true) ≡ true
or_true true = refl
or_true false = refl

-- where nothing but workers stepped, as many of the pages that name it are hot
pub parent_same : {v u : View} → Stood v u → (g : Opening) (p : ℕ) → has_hot_parent g (state u).core p ≡ has_hot_parent g (state v).core p
parent_same {v = v} {u = u} st g p = ap (λ (f : ℕ → Bool). all_below g.format.pages f) (λ i q. one q (is_hot ((state v).core.place q)) refl i)
  where
    one : (q : ℕ) (b : Bool) → is_hot ((state v).core.place q) ≡ b
        → (not (names_page ((state u).core.page q).node p) || is_hot ((state u).core.place q)) ≡ (not (names_page ((state v).core.page q).node p) || is_hot ((state v).core.place q))
    one q true e =
        let a = ap (λ b. not (names_page ((state u).core.page q).node p) || b) (st.hot q ∙ e) ∙ or_true (not (names_page ((state u).core.page q).node p)) in
        let b = ap (λ b. not (names_page ((state v).core.page q).node p) || b) e ∙ or_true (not (names_page ((state v).core.page q).node p)) in
        a ∙ sym b
    one q false e = let s = st.page q e in (λ i. not (names_page (s i).node p) || st.hot q i)

pub empty_same : {v u : View} → Stood v u → (g : Opening) (f : ℕ) → is_empty_frame g (state u).core f ≡ is_empty_frame g (state v).core f
empty_same st g f = ap (λ (h : ℕ → Bool). all_below g.format.pages h) (λ i q. not (st.frame q f i))

pub rescue_same : {v u : View} → Stood v u → (g : Opening) (p : ℕ) → core.may g (state u).core (happening.Event.Rescue p) ≡ core.may g (state v).core (happening.Event.Rescue p)
rescue_same st g p = (λ i. st.cooling p i && parent_same st g p i)

pub load_same : {v u : View} → Stood v u → (g : Opening) (p f : ℕ) → core.may g (state u).core (happening.Event.Load p f) ≡ core.may g (state v).core (happening.Event.Load p f)
load_same st g p f = (λ i. ltb p g.format.pages && (ltb f g.frames && (st.cold p i && (parent_same st g p i && empty_same st g f i))))

pub rescue_met : (g : Opening) (s : State) (p : ℕ) → is_cooling (s.place p) ≡ true → has_hot_parent g s p ≡ true → core.may g s (happening.Event.Rescue p) ≡ true
rescue_met g s p c h = and_from (is_cooling (s.place p)) (has_hot_parent g s p) c h

pub load_met : (g : Opening) (s : State) (p f : ℕ) → p < g.format.pages → f < g.frames → is_cold (s.place p) ≡ true → has_hot_parent g s p ≡ true → is_empty_frame g s f ≡ true → core.may g s (happening.Event.Load p f) ≡ true
load_met g s p f a b c h e =
    and_from (ltb p g.format.pages) (ltb f g.frames && (is_cold (s.place p) && (has_hot_parent g s p && is_empty_frame g s f))) (lt-ltb p g.format.pages a)
    (and_from (ltb f g.frames) (is_cold (s.place p) && (has_hot_parent g s p && is_empty_frame g s f)) (lt-ltb f g.frames b)
    (and_from (is_cold (s.place p)) (has_hot_parent g s p && is_empty_frame g s f) c (and_from (has_hot_parent g s p) (is_empty_frame g s f) h e)))

-- ## Hot parents

any_has : (p : pairs.Span → Bool) (xs : List pairs.Span) → any p xs ≡ true → (x : pairs.Span) × pairs.Has x xs × (p x ≡ true)
any_has p [] h = absurd (true≢false (sym h))
any_has p (x ∷ xs) h = go (λ k. any_has p xs k) (p x) refl h
  where
    go : (any p xs ≡ true → (y : pairs.Span) × pairs.Has y xs × (p y ≡ true)) → (b : Bool) → p x ≡ b → (b || any p xs) ≡ true → (y : pairs.Span) × pairs.Has y (x ∷ xs) × (p y ≡ true)
    go rest true e k = (x, inl refl, e)
    go rest false e k = let o = rest k in (o.0, inr o.1, o.2)

-- the pair by which a node names a page
pub names_to : (v : Node) (c : ℕ) → names_page v c ≡ true → (s : pairs.Span) × Names v s × (s.child ≡ c)
names_to v c h =
    let a = and_true (v.live && ltb 0 v.level) (any (λ (s : pairs.Span). s.child == c) (pairs.spans v.pairs v.high)) h in
    let b = and_true v.live (ltb 0 v.level) a.0 in
    let e = any_has (λ (s : pairs.Span). s.child == c) (pairs.spans v.pairs v.high) a.1 in
    (e.0, record { live = b.0; inner = ltb-true 0 v.level b.1; has = e.1 }, eqb-true e.0.child c e.2)

each_below : (n : ℕ) (f : ℕ → Bool) → ((q : ℕ) → q < n → f q ≡ true) → all_below n f ≡ true
each_below zero f h = refl
each_below (suc n) f h = and_from (f n) (all_below n f) (h n (omega arith)) (each_below n f (λ q l. h q (omega arith)))

-- each page that names it is hot
pub hot_parents : (g : Opening) (s : State) (p : ℕ) → ((q : ℕ) → q < g.format.pages → names_page (s.page q).node p ≡ true → is_hot (s.place q) ≡ true) → has_hot_parent g s p ≡ true
hot_parents g s p h = each_below g.format.pages (λ q. not (names_page (s.page q).node p) || is_hot (s.place q)) (λ q l. go q l (names_page (s.page q).node p) refl)
  where
    go : (q : ℕ) → q < g.format.pages → (b : Bool) → names_page (s.page q).node p ≡ b → (not b || is_hot (s.place q)) ≡ true
    go q l true e = h q l e
    go q l false e = refl

-- no page names a free one
pub free_parents : (g : Opening) (s : State) (p : ℕ) → IsTree g.format (nodes_of s) → (s.page p).node.live ≡ false → has_hot_parent g s p ≡ true
free_parents g s p t free = hot_parents g s p (λ q l n.
    let z = names_to (s.page q).node p n in
    absurd (true≢false (sym (t.down q l z.0 z.1).live ∙ (ap (λ c. (s.page c).node.live) z.2 ∙ free))))

-- ## One event among others'

met_none : (g : Given) (m : Moment) (es : List Event) → by pager es ≡ [] → AreMet g m es
met_none g m [] h = tt
met_none g m (e ∷ es) h = go (λ k. met_none g (stepped g m e) es k) (actor_of e == pager) refl h
  where
    go : (by pager es ≡ [] → AreMet g (stepped g m e) es) → (b : Bool) → (actor_of e == pager) ≡ b → (if b then e ∷ by pager es else by pager es) ≡ [] → AreMet g m (e ∷ es)
    go rest true is k = absurd (cc)
    go rest false is k = (λ a. absurd (true≢false (sym (eq-eqb (actor_of e) pager a) ∙ is)), rest k)

met_event : (g : Given) (m : Moment) (before : List Event) (e : Event) (after : List Event) → by pager before ≡ [] → by pager after ≡ [] → core.may (opening g) (run g m before).core (event_of e) ≡ true → AreMet g m (before ++ e ∷ after)
met_event g m [] e after first last h = (λ _. h, met_none g (stepped g m e) after last)
met_event g m (x ∷ xs) e after first last h = go (λ k. met_event g (stepped g m x) xs e after k last h) (actor_of x == pager) refl first
  where
    go : (by pager xs ≡ [] → AreMet g (stepped g m x) (xs ++ e ∷ after)) → (b : Bool) → (actor_of x == pager) ≡ b → (if b then x ∷ by pager xs else by pager xs) ≡ [] → AreMet g m (x ∷ (xs ++ e ∷ after))
    go rest true is k = absurd (cc)
    go rest false is k = (λ a. absurd (true≢false (sym (eq-eqb (actor_of x) pager a) ∙ is)), rest k)

-- where nothing of the pager was appended
pub ran_met : {alone : Bool} {v u : View} (r : Ran alone v [] u) → (alone ≡ false → v.actor ≡ pager) → AreMet v.given (state v) r.more
ran_met {alone = true} {v = v} r plays = subst (AreMet v.given (state v)) (sym (r.all refl)) tt
ran_met {alone = false} {v = v} r plays = met_none v.given (state v) r.more (subst (λ a. by a r.more ≡ []) (plays refl) (r.own refl))

-- ## Places

pub place_hot : (x : Place) (f : ℕ) → is_hot x ≡ true → in_frame x f ≡ true → x ≡ Place.Hot f
place_hot (Place.Hot i) f h e = ap Place.Hot (eqb-true i f e)
place_hot (Place.Cooling i e w) f h k = absurd (true≢false (sym h))
place_hot Place.Cold f h e = absurd (true≢false (sym h))

pub frame_hot : (x : Place) → is_hot x ≡ true → in_frame x (frame_of x) ≡ true
frame_hot (Place.Hot i) h = eq-eqb i i refl
frame_hot (Place.Cooling i e w) h = absurd (true≢false (sym h))
frame_hot Place.Cold h = absurd (true≢false (sym h))

pub hot_kept : {v u : View} → Stood v u → (q : ℕ) → is_hot ((state v).core.place q) ≡ true → (state u).core.place q ≡ (state v).core.place q
hot_kept {v = v} {u = u} st q h =
    let x = (state v).core.place q in
    let at = frame_hot x h in
    place_hot ((state u).core.place q) (frame_of x) (st.hot q ∙ h) (st.frame q (frame_of x) ∙ at) ∙ sym (place_hot x (frame_of x) h at)

-- ## Behind the event

agrees_free : {g : Opening} {s : State} {k : Pool} (free : ℕ → Bool) → ((p : ℕ) → p < g.format.pages → free p ≡ k.free p) → Agrees g s k → Agrees g s (record k { free = free })
agrees_free free same a = record { queue = a.queue; entries = a.entries; empty = a.empty; every = a.every; once = a.once; free = λ p l. same p l ∙ a.free p l }

module _ {z : Shape} {v u : View} {e : Event} {was : Provider} (page frame : ℕ) (laws : RowLaws) (c : Keeps z v was) (r : Ran z.alone v (e ∷ []) u) (none : u.held ≡ []) (q : Parted v e u) where
  abbrev at : State
  at = (state (at_event q)).core

  abbrev gone : State
  gone = happens (opening v.given) at (event_of e)

  pub come : {is : Provider} → core.may (opening v.given) at (event_of e) ≡ true → gone.place ≡ upd at.place page (Place.Hot frame) → gone.epoch ≡ at.epoch → is_hot ((state v).core.place page) ≡ false
      → Agrees (opening v.given) gone (pool is) → IsKept (opening v.given) gone is.kept → is.frames ≡ was.frames → is.workers ≡ was.workers → length is.free ≡ length was.free → is ≡ record was { queue = is.queue; empty = is.empty; free = is.free; kept = is.kept } → HasCome z e page frame v was u is
  come may place epoch off agrees table frames workers pages memory = record {
    goes = record { ran = r; held = none; keeps = keeps_event laws.stood laws.standing r q c gone now (record { frame = frames; worker = workers; page = pages; agrees = agrees; kept = table; epoch = subst (λ n. n ≤ 2 ^ 62) (sym epoch) (keeps_before laws.stood laws.standing r.given q c).epoch }) };
    met = subst (AreMet v.given (state v)) (append_cancel_left v.seen (q.before ++ e ∷ q.after) r.more (sym q.seen ∙ r.seen))
        (met_event v.given (state v) q.before e q.after q.first q.last (subst (λ (m : Moment). core.may (opening v.given) m.core (event_of e) ≡ true) (state_on v q.before) may));
    hot = place_hot ((state u).core.place page) frame (last.hot page ∙ ap is_hot here) (last.frame page frame ∙ (ap (λ x. in_frame x frame) here ∙ eq-eqb frame frame refl));
    others = λ p h.
        let same : (state (at_event q)).core.place p ≡ (state v).core.place p = hot_kept first p h in
        let other : p ≢ page = (λ s. absurd (true≢false (sym h ∙ (ap (λ x. is_hot ((state v).core.place x)) s ∙ off)))) in
        let mid : (state (by_event q)).core.place p ≡ at.place p = ap (λ (s : State). s.place p) now ∙ (ap (λ (f : ℕ → Place). f p) place ∙ upd_other at.place page (Place.Hot frame) p other) in
        hot_kept last p (ap is_hot (mid ∙ same) ∙ h) ∙ (mid ∙ same);
    memory = memory;
  }
    where
      now : (state (by_event q)).core ≡ gone
      now = event_happens q may

      first : Stood v (at_event q)
      first = stood_before z laws.stood r.given q

      last : Stood (by_event q) u
      last = stood_after z laws.stood r.given q

      here : (state (by_event q)).core.place page ≡ Place.Hot frame
      here = ap (λ (s : State). s.place page) now ∙ (ap (λ (f : ℕ → Place). f page) place ∙ upd_same at.place page (Place.Hot frame) page refl)

-- ## A page that cools comes

pub cool_hot : (x : Place) → is_cooling x ≡ true → is_hot x ≡ false
cool_hot (Place.Hot f) h = absurd (true≢false (sym h))
cool_hot (Place.Cooling f e w) h = refl
cool_hot Place.Cold h = refl

pub cold_hot : (x : Place) → is_cold x ≡ true → is_hot x ≡ false
cold_hot (Place.Hot f) h = absurd (true≢false (sym h))
cold_hot (Place.Cooling f e w) h = refl
cold_hot Place.Cold h = refl

pub cool_cold : (x : Place) → is_cooling x ≡ true → is_cold x ≡ false
cool_cold (Place.Hot f) h = absurd (true≢false (sym h))
cool_cold (Place.Cooling f e w) h = refl
cool_cold Place.Cold h = absurd (true≢false (sym h))

-- what the queue has of it
pub entry_is : {z : Shape} {v : View} {k : Provider} {entry : Cooling} → RowLaws → Keeps z v k → found entry.page k.queue ≡ Some entry → IsFound (opening v.given) (state v).core entry.page entry
entry_is {v = v} {k = k} {entry = entry} laws c there = (laws.queues (opening v.given) (state v).core (pool k) (c.sound v.seen).residence c.agrees).cooling entry.page entry there

pub rescued : {z : Shape} {v u : View} {was : Provider} {entry : Cooling} → RowLaws → Keeps z v was → found entry.page was.queue ≡ Some entry → has_hot_parent (opening v.given) (state v).core entry.page ≡ true → Ran z.alone v (Rescue entry.page ∷ []) u → u.held ≡ []
    → (free : List Bool) → length free ≡ length was.free → ((p : ℕ) → p < (opening v.given).format.pages → is_in free p ≡ upd (is_in was.free) entry.page false p)
    → HasCome z (Rescue entry.page) entry.page entry.frame v was u (record was { queue = without entry.page was.queue; free = free })
rescued {z = z} {v = v} {u = u} {was = was} {entry = entry} laws c there parent r none free long same =
    let g = opening v.given in
    let q = parted z.alone v u (Rescue entry.page) c.actor r in
    let x = entry_is laws c there in
    let first = stood_before z laws.stood r.given q in
    let s = (state (at_event q)).core in
    let kept = keeps_before laws.stood laws.standing r.given q c in
    let may = rescue_same first g entry.page ∙ rescue_met g (state v).core entry.page x.cooling parent in
    let home : frame_of (s.place entry.page) ≡ entry.frame = framed (s.place entry.page) entry.frame (first.frame entry.page entry.frame ∙ x.here) in
    come entry.page entry.frame laws c r none q may (λ i. upd s.place entry.page (Place.Hot (home i))) refl (cool_hot ((state v).core.place entry.page) x.cooling)
    (agrees_free (is_in free) same (laws.pools g s (happening.Event.Rescue entry.page) (pool was) refl may (c.sound (v.seen ++ q.before)).residence kept.agrees))
    (kept_placed g s was.kept (c.sound (v.seen ++ q.before)).tree kept.kept entry.page _ (happens g s (happening.Event.Rescue entry.page)) refl refl (cool_cold (s.place entry.page) (first.cooling entry.page ∙ x.cooling)) refl) refl refl long refl

-- ## A cold page comes

has_last : (l : List ℕ) (f : ℕ) → Has f (l ++ f ∷ [])
has_last [] f = inl refl
has_last (x ∷ xs) f = inr (has_last xs f)

-- the frame is empty
pub empty_is : {z : Shape} {v : View} {k : Provider} {page frame : ℕ} {n : stored.Page} → Keeps z v k → CanCome v k page frame n → (frame < (opening v.given).frames) × (is_empty_frame (opening v.given) (state v).core frame ≡ true)
empty_is {frame = frame} c m = c.agrees.empty frame (subst (Has frame) (sym m.last) (has_last m.rest frame))

-- its contents are the saved ones
pub node_is : {z : Shape} {v : View} {k : Provider} {page frame : ℕ} {n : stored.Page} → Keeps z v k → CanCome v k page frame n → (state v).core.page page ≡ contents_of n
node_is {v = v} {page = page} c m = (c.sound v.seen).residence.cold page m.cold ∙ sym m.contents

-- each page that it names is in the table
pub comes_within : {z : Shape} {v : View} {k now : Provider} {page frame : ℕ} {n : stored.Page} → k ≡ now → Keeps z v now → CanCome v now page frame n → AreWithin (length k.kept) n.node
comes_within {v = v} {k = k} {now = now} {page = page} same c m =
    subst (λ (w : Node). AreWithin (length k.kept) w) (ap (λ x. x.node) (node_is c m))
    (subst (λ (p : Provider). AreWithin (length p.kept) ((state v).core.page page).node) (sym same) (kept_within (opening v.given) (state v).core now.kept (c.sound v.seen).tree c.kept page m.below))

pub loaded : {z : Shape} {v u : View} {was : Provider} {page frame : ℕ} {n : stored.Page} → RowLaws → Keeps z v was → (m : CanCome v was page frame n) → has_hot_parent (opening v.given) (state v).core page ≡ true → Ran z.alone v (Load page frame ∷ []) u → u.held ≡ []
    → (empty : List ℕ) → empty ≡ m.rest → (free : List Bool) → length free ≡ length was.free → ((p : ℕ) → p < (opening v.given).format.pages → is_in free p ≡ upd (is_in was.free) page false p)
    → HasCome z (Load page frame) page frame v was u (record was { empty = empty; free = free; kept = come_kept was.kept n.node })
loaded {z = z} {v = v} {u = u} {was = was} {page = page} {frame = frame} {n = n} laws c m parent r none empty rest free long same =
    let g = opening v.given in
    let q = parted z.alone v u (Load page frame) c.actor r in
    let first = stood_before z laws.stood r.given q in
    let s = (state (at_event q)).core in
    let kept = keeps_before laws.stood laws.standing r.given q c in
    let room = empty_is c m in
    let may = load_same first g page frame ∙ load_met g (state v).core page frame m.below room.0 m.cold parent room.1 in
    let here : is_cold (s.place page) ≡ true = first.cold page ∙ m.cold in
    let left : others frame was.empty ≡ empty = ap (others frame) m.last ∙ (laws.pops m.rest frame (subst AreOnce m.last c.agrees.once) ∙ sym rest) in
    let t = happens g s (happening.Event.Load page frame) in
    come page frame laws c r none q may refl refl (cold_hot ((state v).core.place page) m.cold)
    (subst (λ (l : List ℕ). Agrees g t (record { queue = was.queue; empty = l; free = is_in free })) left
    (agrees_free (is_in free) same (laws.pools g s (happening.Event.Load page frame) (pool was) refl may (c.sound (v.seen ++ q.before)).residence kept.agrees)))
    (kept_come g s was.kept (c.sound (v.seen ++ q.before)).tree kept.kept page frame n.node m.below here ((c.sound (v.seen ++ q.before)).residence.cold page here)
    (ap (λ x. x.node) (sym (first.page page (cold_hot ((state v).core.place page) m.cold) ∙ node_is c m)))) refl refl long refl

-- the others of the empty frames
pub popped : (l all rest : List ℕ) (f : ℕ) → all ≡ rest ++ f ∷ [] → l ≡ take (length all - 1) all → l ≡ rest
popped l all rest f e t = t ∙ (ap (λ xs. take (length xs - 1) xs) e ∙ front rest f)
  where
    front : (xs : List ℕ) (f : ℕ) → take (length (xs ++ f ∷ []) - 1) (xs ++ f ∷ []) ≡ xs
    front xs f = let n : length (xs ++ f ∷ []) - 1 ≡ length xs = omega (arith, length-append xs (f ∷ [])) in ap (λ n. take n (xs ++ f ∷ [])) n ∙ take-append_seam xs (f ∷ [])

-- ## Which pages are free

pub removed : (marks : List Bool) (page p : ℕ) → page < length marks → is_in (slice_set marks page false) p ≡ upd (is_in marks) page false p
removed marks page p few = go (p == page) refl
  where
    go : (b : Bool) → (p == page) ≡ b → is_in (slice_set marks page false) p ≡ (if b then false else is_in marks p)
    go true e = ap (is_in (slice_set marks page false)) (eqb-true p page e) ∙ get_or-set_same marks page false false few
    go false e = get_or-set_other marks page p false false (λ s. absurd (true≢false (sym (eq-eqb p page s) ∙ e)))

-- a page that is live is none of them
pub unmarked : {z : Shape} {v : View} {k : Provider} (page : ℕ) → Keeps z v k → page < (opening v.given).format.pages → ((state v).core.page page).node.live ≡ true → (p : ℕ) → is_in k.free p ≡ upd (is_in k.free) page false p
unmarked {v = v} {k = k} page c below live p = go (p == page) refl
  where
    go : (b : Bool) → (p == page) ≡ b → is_in k.free p ≡ (if b then false else is_in k.free p)
    go true e = ap (is_in k.free) (eqb-true p page e) ∙ (c.agrees.free page below ∙ ap (λ b. not b && not (is_hot ((state v).core.place page))) live)
    go false e = refl

-- ## A free page, which no node names

pub free_on : {v t : View} (p : ℕ) → Stood v t → is_hot ((state v).core.place p) ≡ false → ((state v).core.page p).node.live ≡ false → ((state t).core.page p).node.live ≡ false
free_on p st off free = ap (λ c. c.node.live) (st.page p off) ∙ free

pub can_revive : {z y : Shape} {v t : View} {k : Provider} {entry : Cooling} {row : ℕ} → RowLaws → Keeps z v k → found entry.page k.queue ≡ Some entry → ((state v).core.page entry.page).node.live ≡ false → Ran z.alone v [] t → y ≡ z → row ≡ entry.frame → CanRevive y t row entry.page
can_revive {z = z} {v = v} {t = t} {entry = entry} laws c there free r shape place =
    let now = keeps_ran laws.stood laws.standing tt r c in
    let x = entry_is laws now there in
    let none = free_on entry.page (ran_stood laws.stood c tt r) (cool_hot ((state v).core.place entry.page) (entry_is laws c there).cooling) free in
    subst (λ (s : Shape × ℕ). CanRevive s.0 t s.1 entry.page) (λ i. (sym shape i, sym place i)) (record {
      on = is_pager now;
      here = record { below = x.below; stands = x.here };
      free = none;
      met = rescue_met (opening t.given) (state t).core entry.page x.cooling (free_parents (opening t.given) (state t).core entry.page (now.sound t.seen).tree none);
    })

-- what it needs stays while nothing is appended
pub come_on : {z : Shape} {v t : View} {k : Provider} {page frame : ℕ} {n : stored.Page} → RowLaws → Keeps z v k → CanCome v k page frame n → Ran z.alone v [] t → CanCome t k page frame n
come_on {page = page} laws c m r = let st = ran_stood laws.stood c tt r in record {
  below = subst (λ (g : Given). page < (opening g).format.pages) (sym r.given) m.below;
  cold = st.cold page ∙ m.cold;
  number_is = m.number_is;
  contents = m.contents ∙ sym (st.saved page);
  rest = m.rest;
  last = m.last;
}

pub can_fill_free : {z y : Shape} {v t : View} {k : Provider} {page frame row : ℕ} {n : stored.Page} → RowLaws → Keeps z v k → CanCome v k page frame n → n.node.live ≡ false → Ran z.alone v [] t → y ≡ z → row ≡ frame → CanFillFree y t row page n
can_fill_free {z = z} {t = t} {page = page} {frame = frame} {n = n} laws c come free r shape place =
    let now = keeps_ran laws.stood laws.standing tt r c in
    let m = come_on laws c come r in
    let room = empty_is now m in
    subst (λ (s : Shape × ℕ). CanFillFree s.0 t s.1 page n) (λ i. (sym shape i, sym place i)) (record {
      on = is_pager now;
      below = m.below;
      free = free;
      met = load_met (opening t.given) (state t).core page frame m.below room.0 m.cold (free_parents (opening t.given) (state t).core page (now.sound t.seen).tree (ap (λ x. x.node.live) (node_is now m) ∙ free)) room.1;
      number_is = m.number_is;
      contents = m.contents;
    })

-- ## Refusals

few_misses : (es : List Event) → IsMissAtMost es → steps.AreMisses es
few_misses [] k = tt
few_misses (Miss w ∷ []) k = tt
few_misses (Miss w ∷ (e ∷ es)) k = absurd k
few_misses (_ ∷ es) k = absurd k

few_short : (es : List Event) → IsMissAtMost es → length es ≤ 2
few_short [] k = omega arith
few_short (Miss w ∷ []) k = omega arith
few_short (Miss w ∷ (e ∷ es)) k = absurd k
few_short (_ ∷ es) k = absurd k

-- a row was not as it has to be
pub halts_missed : {z : Shape} {v u : View} {why : Refusal} → v.held ≡ [] → Missed z v why u → Halts 2 z v why u
halts_missed none m = record {
  stopped = record {
    missed = record { events = m.misses; ran = m.ran; misses = few_misses m.misses m.few; few = few_short m.misses m.few };
    held = m.held ∙ none;
    kind = m.kind;
    quiet = λ alone o. m.quiet alone none o;
  };
  cause = m.cause;
}

-- ## The pager's memory, as the calls left it

module _ {z : Shape} {v u : View} {k now : Provider} (same : k ≡ now) (laws : RowLaws) (c : Keeps z v now) (none : u.held ≡ []) where
  rescued_as : (entry : Cooling) {free : List Bool} (queue : Stage) → queue ≡ stage k.frames (without entry.page k.queue) → (marks : List Bool) → marks ≡ free → HasCome z (Rescue entry.page) entry.page entry.frame v now u (record now { queue = without entry.page now.queue; free = free })
      → HasCome z (Rescue entry.page) entry.page entry.frame v now u (record k { frames = queue.frames; queue = queue.queue; free = marks })
  rescued_as entry {free} queue a marks b h =
      let at : HasCome z (Rescue entry.page) entry.page entry.frame v now u (record k { queue = without entry.page k.queue; free = free }) = subst (λ (p : Provider). HasCome z (Rescue entry.page) entry.page entry.frame v now u (record p { queue = without entry.page p.queue; free = free })) (sym same) h in
      subst (λ (s : Stage × List Bool). HasCome z (Rescue entry.page) entry.page entry.frame v now u (record k { frames = s.0.frames; queue = s.0.queue; free = s.1 })) (λ i. (sym a i, sym b i)) at

  pub revived : {entry : Cooling} → found entry.page now.queue ≡ Some entry → ((state v).core.page entry.page).node.live ≡ false → Ran z.alone v (Rescue entry.page ∷ []) u
      → (queue : Stage) → queue ≡ stage k.frames (without entry.page k.queue) → (free : List Bool) → free ≡ slice_set k.free entry.page false
      → HasCome z (Rescue entry.page) entry.page entry.frame v now u (record k { frames = queue.frames; queue = queue.queue; free = free })
  revived {entry} there off r queue a free b =
      let x = entry_is laws c there in
      let d = x.below in
      let e = c.pages in
      let few : entry.page < length now.free = omega arith in
      rescued_as entry queue a free (b ∙ ap (λ (p : Provider). slice_set p.free entry.page false) same)
      (rescued laws c there (free_parents (opening v.given) (state v).core entry.page (c.sound v.seen).tree off) r none (slice_set now.free entry.page false) (length-set now.free entry.page false) (λ p l. removed now.free entry.page p few))

  filled_as : {page frame : ℕ} {free : List Bool} (node : Node) (empty : List ℕ) (marks : List Bool) → marks ≡ free → (table : List Kept) → table ≡ come_kept k.kept node → HasCome z (Load page frame) page frame v now u (record now { empty = empty; free = free; kept = come_kept now.kept node })
      → HasCome z (Load page frame) page frame v now u (record k { empty = empty; free = marks; kept = table })
  filled_as {page} {frame} node empty marks b table d h =
      let e : table ≡ come_kept now.kept node = d ∙ ap (λ (p : Provider). come_kept p.kept node) same in
      subst (λ (s : Provider × (List Bool × List Kept)). HasCome z (Load page frame) page frame v now u (record (s.0) { empty = empty; free = s.1.0; kept = s.1.1 })) (λ i. (sym same i, (sym b i, sym e i))) h

  pub filled_free : {page frame : ℕ} {n : stored.Page} → (m : CanCome v now page frame n) → n.node.live ≡ false → Ran z.alone v (Load page frame ∷ []) u
      → (empty : List ℕ) → empty ≡ take (length k.empty - 1) k.empty → (free : List Bool) → free ≡ slice_set k.free page false → (table : List Kept) → table ≡ come_kept k.kept n.node → HasCome z (Load page frame) page frame v now u (record k { empty = empty; free = free; kept = table })
  filled_free {page} {frame} {n} m off r empty a free b table d0 =
      let d = m.below in
      let e = c.pages in
      let few : page < length now.free = omega arith in
      filled_as n.node empty free (b ∙ ap (λ (p : Provider). slice_set p.free page false) same) table d0
      (loaded laws c m (free_parents (opening v.given) (state v).core page (c.sound v.seen).tree (ap (λ x. x.node.live) (node_is c m) ∙ off)) r none empty (popped empty k.empty m.rest frame (ap (λ (p : Provider). p.empty) same ∙ m.last) a)
      (slice_set now.free page false) (length-set now.free page false) (λ p l. removed now.free page p few))

  pub rescued_node : {entry : Cooling} → found entry.page now.queue ≡ Some entry → ((state v).core.page entry.page).node.live ≡ true → has_hot_parent (opening v.given) (state v).core entry.page ≡ true → Ran z.alone v (Rescue entry.page ∷ []) u
      → (queue : Stage) → queue ≡ stage k.frames (without entry.page k.queue) → HasCome z (Rescue entry.page) entry.page entry.frame v now u (record k { frames = queue.frames; queue = queue.queue })
  rescued_node {entry} there live parent r queue a = rescued_as entry queue a k.free (ap (λ (p : Provider). p.free) same)
      (rescued laws c there parent r none now.free refl (λ p l. unmarked entry.page c (entry_is laws c there).below live p))

  pub filled_node : {page frame : ℕ} {n : stored.Page} → (m : CanCome v now page frame n) → n.node.live ≡ true → has_hot_parent (opening v.given) (state v).core page ≡ true → Ran z.alone v (Load page frame ∷ []) u
      → (empty : List ℕ) → empty ≡ take (length k.empty - 1) k.empty → (table : List Kept) → table ≡ come_kept k.kept n.node → HasCome z (Load page frame) page frame v now u (record k { empty = empty; kept = table })
  filled_node {page} {frame} {n} m live parent r empty a table d0 = filled_as n.node empty k.free (ap (λ (p : Provider). p.free) same) table d0
      (loaded laws c m parent r none empty (popped empty k.empty m.rest frame (ap (λ (p : Provider). p.empty) same ∙ m.last) a)
      now.free refl (λ p l. unmarked page c m.below (ap (λ x. x.node.live) (node_is c m) ∙ live) p))
