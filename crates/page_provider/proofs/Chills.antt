-- A page that cools: what its event needs, and what the pager keeps over it.
use Rattle.std.proofs.Common.{◌≡◌, ◌≢◌, ◌<◌, ◌≤◌, ◌^◌, ◌==◌, ◌&&◌, ltb, not, ℕ, zero, suc, Bool, true, false, List, [], ◌∷◌, ◌++◌, length, inl, inr, None, get_or, get_or-set_other, get_or-set_same, append_assoc, refl, sym, ap, subst, ◌∙◌, true≢false}
use Rattle.std.specs.Prelude.{if◌then◌else◌, slice_set}
use Rattle.std.proofs.lemmas.Bool.{and_from, cases_eq, eq-eqb, eqb-true, ne_eqb}
use Rattle.std.proofs.Math.ListN.{length-set}
use Rattle.std.proofs.lemmas.List.{append_cancel_left}
use Rattle.map_model.specs.Lists.{any, upd}
use Rattle.map_model.proofs.ListLemmas.{upd_same, upd_other}
use Rattle.page_model.specs.Check.{names_page}
use Rattle.page_model.specs.Page as stored
use Rattle.btree_descent.specs.core_state.Lists.{all_below}
use Rattle.btree_descent.specs.core_state.Openings.{Opening}
use Rattle.btree_descent.specs.core_state.States.{Place, State, in_frame, is_cold, is_hot}
use Rattle.btree_descent.specs.core_state.Events as happening
use Rattle.btree_descent.specs.core_state.Needs as core
use Rattle.btree_descent.specs.core_state.Needs.{are_hot, has_hot_child, is_inside}
use Rattle.btree_descent.specs.core_state.Steps.{happens, step}
use Rattle.btree_descent.specs.core_paging.Paging.{Residence}
use Rattle.btree_descent.specs.row_words.declared.event.Event.{Event}
use Rattle.btree_descent.specs.row_words.declared.event.Event.TheVariants as told
use Rattle.btree_descent.specs.row_words.declared.given.Given.{Given}
use Rattle.btree_descent.specs.row_words.Moments.{Moment, actor_of, by, event_of, pager}
use Rattle.btree_descent.specs.row_words.Openings.{opening}
use Rattle.btree_descent.specs.row_words.Sealed.{run, stepped}
use Rattle.btree_descent.proofs.row_words.Frames.{framed_live}
use Rattle.btree_descent.proofs.row_words.SealedLemmas.{by_append}
use Rattle.btree_descent.specs.rows_trait.declared.view.View.{View}
use Rattle.btree_descent.specs.rows_trait.Turns.{Ran}
use Rattle.btree_descent.specs.rows_trait.Views.{AreApart, NoSync, Shape, after_all, held_at, may, state}
use Rattle.btree_descent.proofs.rows_trait.EventLemmas.{apart_sync, by_none, none_apart, sync_append}
use Rattle.btree_descent.proofs.rows_trait.Runs.{ran_append}
use Rattle.btree_descent.proofs.version_latch.Keeping.{may_ran}
use Rattle.btree_descent.specs.Known.{IsSound, Sound}
use Rattle.held_rows.specs.Publishing.{Went}
use Rattle.held_rows.specs.Rows.{IsFrame}
use Rattle.held_rows.specs.Waits.{waited_apart, was_on}
use Rattle.row_image.specs.declared.sight.Sight.{Sight}
use Rattle.row_image.specs.Hot.{StandsIn}
use Rattle.row_image.specs.Sights.{EverySight, HasTaken, HasWords}
use Rattle.btree_descent.specs.lean_proto.Still.{Stood}
use Rattle.cooling_stage.specs.declared.stage.Cooling.{Cooling}
use Rattle.cooling_stage.specs.Queue.{Stage, found, stage}
use Rattle.free_pages.specs.Pages.{is_in}
use Rattle.page_pool.specs.Pools.{Agrees, Pool, after}
use Rattle.page_pool.specs.Queues.{Chills, Tells}
use Rattle.page_provider.specs.Cools.{HasUnhooked, chilled}
use Rattle.page_moves.specs.Moves.{CanChill, IsIn}
use Rattle.page_provider.specs.Finds.{IsChildless, TakesSeen}
use Rattle.page_provider.specs.Laws.{RowLaws}
use Rattle.page_provider.specs.Moves.{AreMet}
use Rattle.page_provider.specs.Providers.{Provider, Keeps, pool}
use Rattle.page_provider.proofs.Kept.{kept_placed}
use Rattle.page_provider.proofs.Keeping.{Parted, at_event, by_event, event_happens, keeps_before, keeps_event, keeps_ran, plays, stood_after, stood_before}
use Rattle.page_provider.proofs.Latches.{taken_words}
use Rattle.page_provider.proofs.Outcomes.{is_pager}
use Rattle.page_provider.proofs.Standing.{core_step, onward, ran_state, state_on}

-- ## What the event needs

none_child : (n : ℕ) (f : ℕ → Bool) → ((c : ℕ) → f c ≡ true) → all_below n f ≡ true
none_child zero f h = refl
none_child (suc n) f h = and_from (f n) (all_below n f) (h n) (none_child n f h)

-- a free page names none
pub free_childless : (g : Opening) (s : State) (p : ℕ) → (s.page p).node.live ≡ false → has_hot_child g s p ≡ false
free_childless g s p free = ap not (none_child g.format.pages (λ c. not (names_page (s.page p).node c && is_hot (s.place c)))
    (λ c. ap (λ b. not (((b && ltb 0 (s.page p).node.level) && any (λ x. x.child == c) (Rattle.page_model.specs.Pairs.spans (s.page p).node.pairs (s.page p).node.high)) && is_hot (s.place c))) free))

-- The page may be cooled at the moment: it stands hot in the frame, is not page 0, and has no hot child.
pub record MayChill (g : Given) (m : Moment) (p f : ℕ) (live : Bool) : Type 0 where
  pub below : p < (opening g).format.pages
  pub hot : m.core.place p ≡ Place.Hot f
  pub other : p ≢ 0
  pub childless : has_hot_child (opening g) m.core p ≡ false
  pub live_is : (m.core.page p).node.live ≡ live

pub chill_met : {g : Given} {m : Moment} {p f : ℕ} {live : Bool} → MayChill g m p f live → core.may (opening g) m.core (happening.Event.Cool p) ≡ true
chill_met {g = g} {m = m} {p = p} k = and_from (are_hot m.core (p ∷ [])) (not (p == 0) && not (has_hot_child (opening g) m.core p))
    (ap (λ x. is_hot x && true) k.hot)
    (and_from (not (p == 0)) (not (has_hot_child (opening g) m.core p)) (ap not (ne_eqb p 0 k.other)) (ap not k.childless))

-- ## What stays of a row that is held

-- its page stands there whatever others do
pub stands_later : {z : Shape} {s : Sight} {t : View} → EverySight → IsSound t.given → IsFrame z t s.glimpse.row → HasWords s (held_at t.held s.glimpse.row).was → (between : List Event) → (z.alone ≡ true → between ≡ []) → AreApart t (state t) between
    → StandsIn t.given (after_all t.given (t.seen ++ between)) s.glimpse.row s.node
stands_later {z = z} {s = s} {t = t} every sound f words between quiet apart = (every s).stands t.given (after_all t.given (t.seen ++ between)) s.glimpse.row (held_at t.held s.glimpse.row).was f.frames (sound (t.seen ++ between)) words (was_on (waited_apart z t between quiet apart) f)

-- ## The event among what others did

abbrev tail_of : List Event → List Event
tail_of [] = []
tail_of (x ∷ xs) = xs

pub none_ran : (alone : Bool) (v u : View) → may alone v pager ≡ true → (r : Ran alone v [] u) → by pager r.more ≡ []
none_ran true v u m r = ap (by pager) (r.all refl)
none_ran false v u m r = subst (λ a. by a r.more ≡ []) (plays false v m refl) (r.own refl)

own_ran : (alone : Bool) (v u : View) (p : ℕ) → may alone v pager ≡ true → (r : Ran alone v (told.Cool p ∷ []) u) → by pager r.more ≡ told.Cool p ∷ []
own_ran true v u p m r = ap (by pager) (r.all refl)
own_ran false v u p m r = subst (λ a. by a r.more ≡ told.Cool p ∷ []) (plays false v m refl) (r.own refl)

none_between : (alone : Bool) (v : View) (es : List Event) → may alone v pager ≡ true → (alone ≡ true → es ≡ []) → AreApart v (state v) es → by pager es ≡ []
none_between true v es m quiet apart = ap (by pager) (quiet refl)
none_between false v es m quiet apart = subst (λ a. by a es ≡ []) (plays false v m refl) (by_none v.actor es (none_apart v (state v) es apart))

quiet_ran : (alone : Bool) (v u : View) → (r : Ran alone v [] u) → NoSync r.more
quiet_ran true v u r = subst NoSync (sym (r.all refl)) tt
quiet_ran false v u r = r.part refl

module _ {alone : Bool} {v t u : View} {p : ℕ} (m : may alone v pager ≡ true) (r : Ran alone v [] t) (w : Went alone t (told.Cool p) u) where
  abbrev cooled : Event
  cooled = told.Cool p

  pub went_seen : u.seen ≡ v.seen ++ ((r.more ++ w.between) ++ cooled ∷ w.later)
  went_seen = w.seen ∙ (ap (λ s. ((s ++ w.between) ++ cooled ∷ []) ++ w.later) r.seen ∙ (ap (λ s. (s ++ cooled ∷ []) ++ w.later) (append_assoc v.seen r.more w.between)
      ∙ (append_assoc (v.seen ++ (r.more ++ w.between)) (cooled ∷ []) w.later ∙ append_assoc v.seen (r.more ++ w.between) (cooled ∷ w.later))))

  still_pager : may alone t pager ≡ true
  still_pager = may_ran alone v t [] pager r m

  pub none_first : by pager (r.more ++ w.between) ≡ []
  none_first = by_append pager r.more w.between ∙ (ap (λ xs. xs ++ by pager w.between) (none_ran alone v t m r) ∙ none_between alone t w.between still_pager w.quiet w.apart)

  pub none_last : by pager w.later ≡ []
  none_last =
      let more_is : w.ran.more ≡ w.between ++ cooled ∷ w.later = append_cancel_left t.seen w.ran.more (w.between ++ cooled ∷ w.later) (sym w.ran.seen ∙ (w.seen ∙ (append_assoc (t.seen ++ w.between) (cooled ∷ []) w.later ∙ append_assoc t.seen w.between (cooled ∷ w.later)))) in
      let own : by pager (w.between ++ cooled ∷ w.later) ≡ cooled ∷ [] = ap (by pager) (sym more_is) ∙ own_ran alone t u p still_pager w.ran in
      let whole : by pager w.between ++ cooled ∷ by pager w.later ≡ cooled ∷ [] = sym (by_append pager w.between (cooled ∷ w.later)) ∙ own in
      let one : cooled ∷ by pager w.later ≡ cooled ∷ [] = ap (λ xs. xs ++ cooled ∷ by pager w.later) (sym (none_between alone t w.between still_pager w.quiet w.apart)) ∙ whole in
      ap tail_of one

  pub none_sync : NoSync (r.more ++ w.between)
  none_sync = sync_append r.more w.between (quiet_ran alone v t r) (apart_sync t (state t) w.between w.apart)

  abbrev pub parted_went : Parted v cooled u
  parted_went = record { before = r.more ++ w.between; after = w.later; seen = went_seen; first = none_first; last = none_last; part = none_sync }

-- ## Each of the pager's events is met

pub met_others : (g : Given) (es : List Event) (m : Moment) → by pager es ≡ [] → AreMet g m es
met_others g [] m none = tt
met_others g (x ∷ xs) m none = go (λ n. met_others g xs (stepped g m x) n) (actor_of x == pager) refl none
  where
    go : (by pager xs ≡ [] → AreMet g (stepped g m x) xs) → (b : Bool) → (actor_of x == pager) ≡ b → (if b then x ∷ by pager xs else by pager xs) ≡ [] → AreMet g m (x ∷ xs)
    go rest true is n = absurd (cc)
    go rest false is n = ((λ a. absurd (true≢false (sym (eq-eqb (actor_of x) pager a) ∙ is))), rest n)

met_one : (g : Given) (before : List Event) (x : Event) (after : List Event) (m : Moment) → by pager before ≡ [] → by pager after ≡ [] → core.may (opening g) (run g m before).core (event_of x) ≡ true → AreMet g m (before ++ x ∷ after)
met_one g [] x after m first last met = ((λ _. met), met_others g after (stepped g m x) last)
met_one g (y ∷ ys) x after m first last met = go (λ n. met_one g ys x after (stepped g m y) n last met) (actor_of y == pager) refl first
  where
    go : (by pager ys ≡ [] → AreMet g (stepped g m y) (ys ++ x ∷ after)) → (b : Bool) → (actor_of y == pager) ≡ b → (if b then y ∷ by pager ys else by pager ys) ≡ [] → AreMet g m (y ∷ (ys ++ x ∷ after))
    go rest true is n = absurd (cc)
    go rest false is n = ((λ a. absurd (true≢false (sym (eq-eqb (actor_of y) pager a) ∙ is))), rest n)

-- where only this one of them is the pager's
pub met_parted : {alone : Bool} {v u : View} {es : List Event} {x : Event} → (r : Ran alone v es u) → (q : Parted v x u) → core.may (opening v.given) (state (at_event q)).core (event_of x) ≡ true → AreMet v.given (state v) r.more
met_parted {v = v} {u = u} {x = x} r q met =
    let more_is : r.more ≡ q.before ++ x ∷ q.after = append_cancel_left v.seen r.more (q.before ++ x ∷ q.after) (sym r.seen ∙ q.seen) in
    subst (λ es. AreMet v.given (state v) es) (sym more_is) (met_one v.given q.before x q.after (state v) q.first q.last (subst (λ (m : Moment). core.may (opening v.given) m.core (event_of x) ≡ true) (state_on v q.before) met))

-- ## Places

pub same_place : (x y : Place) → is_hot x ≡ true → is_hot y ≡ is_hot x → ((f : ℕ) → in_frame y f ≡ in_frame x f) → y ≡ x
same_place (Place.Hot f) (Place.Hot g) h e i = ap Place.Hot (eqb-true g f (i f ∙ eq-eqb f f refl))
same_place (Place.Hot f) (Place.Cooling g n w) h e i = absurd (true≢false (sym e))
same_place (Place.Hot f) Place.Cold h e i = absurd (true≢false (sym e))
same_place (Place.Cooling g n w) y h e i = absurd (true≢false (sym h))
same_place Place.Cold y h e i = absurd (true≢false (sym h))

-- a hot page stands where it stood
pub stood_place : {v u : View} (p : ℕ) → Stood v u → is_hot ((state v).core.place p) ≡ true → (state u).core.place p ≡ (state v).core.place p
stood_place {v = v} {u = u} p st h = same_place ((state v).core.place p) ((state u).core.place p) h (st.hot p) (st.frame p)

cool_page : (g : Opening) (s : State) (p j : ℕ) (b : Bool) → (if b then happens g s (happening.Event.Cool p) else s).page j ≡ s.page j
cool_page g s p j true = refl
cool_page g s p j false = refl

-- what is known of free pages, as another function says it
agrees_free : {g : Opening} {s : State} {k : Pool} {free : ℕ → Bool} → ((j : ℕ) → j < g.format.pages → free j ≡ k.free j) → Agrees g s k → Agrees g s (record { queue = k.queue; empty = k.empty; free = free })
agrees_free e a = record { queue = a.queue; entries = a.entries; empty = a.empty; every = a.every; once = a.once; free = λ p lt. e p lt ∙ a.free p lt }

-- ## A page that was seen

pub lived : {g : Given} {m : Moment} {row : ℕ} {n : stored.Page} → StandsIn g m row n → n.node.live ≡ (m.core.page n.number).node.live
lived {m = m} {n = n} it = ap (λ (x : stored.Page). x.node.live) it.page ∙ framed_live m.core.place (m.core.page n.number).node

-- one that is free is not page 0
free_may : {g : Given} {m : Moment} {row : ℕ} {n : stored.Page} → Sound g m → StandsIn g m row n → n.node.live ≡ false → MayChill g m n.number row false
free_may {g = g} {m = m} {n = n} sound it free =
    let live : (m.core.page n.number).node.live ≡ false = sym (lived it) ∙ free in
    record {
      below = it.stands.below;
      hot = it.stands.hot;
      other = λ e. true≢false (sym sound.tree.root.0 ∙ (ap (λ x. (m.core.page x).node.live) (sym e) ∙ live));
      childless = free_childless (opening g) m.core n.number live;
      live_is = live;
    }

-- one that was seen without a hot child
pub node_may : {g : Given} {m : Moment} (s : Sight) → (opening g).frames ≤ 2 ^ 32 → Sound g m → StandsIn g m s.glimpse.row s.node → IsChildless s → s.node.number ≢ 0 → s.node.node.live ≡ true → MayChill g m s.node.number s.glimpse.row true
node_may {g = g} {m = m} s few sound it childless other live = record {
  below = it.stands.below;
  hot = it.stands.hot;
  other = other;
  childless = childless g m few sound it;
  live_is = sym (lived it) ∙ live;
}

-- said of the entry that it has from then on
pub fits_entry : {g : Given} {m : Moment} {live : Bool} (s : Sight) (entry : Cooling) → entry.page ≡ s.node.number → entry.frame ≡ s.glimpse.row → MayChill g m s.node.number s.glimpse.row live → MayChill g m entry.page entry.frame live
fits_entry {g = g} {m = m} {live = live} s entry page frame fit = subst (λ (x : ℕ × ℕ). MayChill g m x.0 x.1 live) (λ i. (sym page i, sym frame i)) fit

module _ {z : Shape} {t : View} {k : Provider} {live : Bool} (entry : Cooling) (laws : RowLaws) (there : Keeps z t k) (fit : MayChill t.given (state t) entry.page entry.frame live) where
  told_of : Tells (opening t.given) (state t).core (pool k)
  told_of = laws.queues (opening t.given) (state t).core (pool k) (there.sound t.seen).residence there.agrees

  -- it stands not in the queue, which has room
  pub chill_absent : found entry.page k.queue ≡ None
  chill_absent = told_of.hot entry.page (ap is_hot fit.hot)

  pub chill_room : length k.queue < k.frames
  chill_room = subst (λ n. length k.queue < n) there.sized.given told_of.fewer

  pub entry_in : (row : ℕ) → row ≡ entry.frame → IsIn t row entry.page
  entry_in row at = record { below = fit.below; stands = ap (λ x. in_frame x row) fit.hot ∙ eq-eqb entry.frame row (sym at) }

  pub can_chill : {y : Shape} {row : ℕ} → live ≡ false → y ≡ z → row ≡ entry.frame → CanChill y t row entry.page
  can_chill {y} {row} free shape at = subst (λ (s : Shape). CanChill s t row entry.page) (sym shape) (record { on = is_pager there; here = entry_in row at; free = fit.live_is ∙ free; met = chill_met fit })

-- ## The page has cooled

module _ {z : Shape} {v t u : View} {k : Provider} {live : Bool} (entry : Cooling) (laws : RowLaws) (c : Keeps z v k) (r : Ran z.alone v [] t) (w : Went z.alone t (told.Cool entry.page) u)
    (fit : MayChill t.given (after_all t.given (t.seen ++ w.between)) entry.page entry.frame live) (epoch : entry.epoch ≡ (state v).core.epoch) where
  abbrev p : ℕ
  p = entry.page

  abbrev q : Parted v (told.Cool p) u
  q = parted_went c.actor r w

  all : Ran z.alone v (told.Cool p ∷ []) u
  all = ran_append z.alone v [] t (told.Cool p ∷ []) u r w.ran

  abbrev at : State
  at = (state (at_event q)).core

  fit_at : MayChill v.given (state (at_event q)) p entry.frame live
  fit_at =
      let seen : t.seen ++ w.between ≡ v.seen ++ (r.more ++ w.between) = ap (λ s. s ++ w.between) r.seen ∙ append_assoc v.seen r.more w.between in
      subst (λ (x : Given × Moment). MayChill x.0 x.1 p entry.frame live) (λ i. (r.given i, after_all (r.given i) (seen i))) fit

  met : core.may (opening v.given) at (happening.Event.Cool p) ≡ true
  met = chill_met fit_at

  before : Stood v (at_event q)
  before = stood_before z laws.stood all.given q

  behind : Stood (by_event q) u
  behind = stood_after z laws.stood all.given q

  abbrev gone : State
  gone = happens (opening v.given) at (happening.Event.Cool p)

  is_now : (state (by_event q)).core ≡ gone
  is_now = event_happens q met

  kept : Keeps z (at_event q) k
  kept = keeps_before laws.stood laws.standing all.given q c

  residence : Residence (opening v.given) at
  residence = (c.sound (v.seen ++ q.before)).residence

  here : in_frame (at.place p) entry.frame ≡ true
  here = ap (λ x. in_frame x entry.frame) fit_at.hot ∙ eq-eqb entry.frame entry.frame refl

  chills : Chills (opening v.given) at p entry.frame (pool k)
  chills = laws.chills (opening v.given) at p entry.frame (pool k) met residence kept.agrees here

  agrees : Agrees (opening v.given) gone (record { queue = k.queue ++ entry ∷ []; empty = k.empty; free = upd (is_in k.free) p (not live) })
  agrees = subst (λ (x : ℕ × Bool). Agrees (opening v.given) gone (record { queue = k.queue ++ record { page = p; frame = entry.frame; epoch = x.0 } ∷ []; empty = k.empty; free = upd (is_in k.free) p (not x.1) }))
      (λ i. ((before.epoch ∙ sym epoch) i, fit_at.live_is i))
      (subst (λ (x : Pool). Agrees (opening v.given) gone x) chills.pool (laws.pools (opening v.given) at (happening.Event.Cool p) (pool k) refl met residence kept.agrees))

  module _ (free : List Bool) (size : length free ≡ length k.free) (marks : (j : ℕ) → j < (opening v.given).format.pages → is_in free j ≡ upd (is_in k.free) p (not live) j) where
    chilled_keeps : Keeps z u (chilled k entry free k.hand)
    chilled_keeps = keeps_event laws.stood laws.standing all q c gone is_now (record {
      frame = refl;
      worker = refl;
      page = size;
      agrees = agrees_free marks agrees;
      kept = kept_placed (opening v.given) at k.kept (c.sound (v.seen ++ q.before)).tree kept.kept p _ gone refl refl (ap is_cold fit_at.hot) refl;
      epoch = kept.epoch;
    })

    hot_before : (state v).core.place p ≡ Place.Hot entry.frame
    hot_before =
        let h : is_hot ((state v).core.place p) ≡ true = sym (before.hot p) ∙ ap is_hot fit_at.hot in
        sym (stood_place p before h) ∙ fit_at.hot

    others_stand : (j : ℕ) → j ≢ p → is_hot ((state v).core.place j) ≡ true → (state u).core.place j ≡ (state v).core.place j
    others_stand j ne h =
        let first = stood_place j before h in
        let mid : (state (by_event q)).core.place j ≡ (state v).core.place j = ap (λ (s : State). s.place j) is_now ∙ (upd_other at.place p _ j ne ∙ first) in
        stood_place j behind (ap is_hot mid ∙ h) ∙ mid

    cold_stays : (j : ℕ) → is_cold ((state v).core.place j) ≡ true → is_cold ((state u).core.place j) ≡ true
    cold_stays j h =
        let here_cold : is_cold (at.place j) ≡ true = before.cold j ∙ h in
        let ne : j ≢ p = λ e. true≢false (sym here_cold ∙ (ap (λ x. is_cold (at.place x)) e ∙ ap is_cold fit_at.hot)) in
        behind.cold j ∙ (ap (λ (s : State). is_cold (s.place j)) is_now ∙ (ap is_cold (upd_other at.place p _ j ne) ∙ here_cold))

    pages_stay : z.alone ≡ true → (j : ℕ) → (state u).core.page j ≡ (state v).core.page j
    pages_stay alone j =
        let one : state u ≡ state (onward v (told.Cool p ∷ [])) = ran_state all ∙ ap (λ es. state (onward v es)) (all.all alone) in
        let core_is : (state u).core ≡ step (opening v.given) (state v).core (happening.Event.Cool p) = ap (λ n. n.core) (one ∙ state_on v (told.Cool p ∷ [])) ∙ core_step v.given (state v) (told.Cool p) in
        ap (λ (s : State). s.page j) core_is ∙ cool_page (opening v.given) (state v).core p j (core.may (opening v.given) (state v).core (happening.Event.Cool p))

    pub has_unhooked : HasUnhooked z v k entry u (chilled k entry free k.hand)
    has_unhooked = record {
      goes = record { ran = all; held = w.held; keeps = chilled_keeps };
      met = met_parted all q met;
      hot = hot_before;
      memory = refl;
      epoch = behind.epoch ∙ (ap (λ (s : State). s.epoch) is_now ∙ before.epoch);
      rested = record {
        cold = cold_stays;
        saved = λ j h. behind.saved j ∙ (ap (λ (s : State). s.saved j) is_now ∙ before.saved j);
        pages = pages_stay;
      };
      others = others_stand;
    }

-- ## A free page

free_marks : (l : List Bool) (p : ℕ) → p < length l → (j : ℕ) → is_in (slice_set l p true) j ≡ upd (is_in l) p true j
free_marks l p lt j = elim (cases_eq j p) [
  | inl e ↦ ap (λ x. get_or (slice_set l p true) x false) e ∙ (get_or-set_same l p true false lt ∙ sym (upd_same (is_in l) p true j e))
  | inr n ↦ get_or-set_other l p j true false n ∙ sym (upd_other (is_in l) p true j n)
]

module _ {z : Shape} {v t : View} {k : Provider} {s : Sight} (entry : Cooling) (laws : RowLaws) (c : Keeps z v k) (free : s.node.node.live ≡ false)
    (is : (entry.page ≡ s.node.number) × (entry.frame ≡ s.glimpse.row) × (entry.epoch ≡ (state v).core.epoch)) (h : HasTaken z s v t) (o : TakesSeen z s v t) where
  free_there : Keeps z t k
  free_there = keeps_ran laws.stood laws.standing tt h.ran c

  free_fit : MayChill t.given (state t) entry.page entry.frame false
  free_fit = fits_entry s entry is.0 is.1 (free_may (free_there.sound t.seen) o.stands free)

  pub free_chills : {y : Shape} {row : ℕ} → y ≡ z → row ≡ s.glimpse.row → CanChill y t row entry.page
  free_chills shape at = can_chill entry laws free_there free_fit refl shape (at ∙ sym is.1)

  pub free_absent : found entry.page k.queue ≡ None
  free_absent = chill_absent entry laws free_there free_fit

  pub free_room : length k.queue < k.frames
  free_room = chill_room entry laws free_there free_fit

  pub free_unhooked : {u : View} → Went z.alone t (told.Cool entry.page) u → HasUnhooked z v k entry u (chilled k entry (slice_set k.free entry.page true) k.hand)
  free_unhooked {u} w =
      let later = stands_later laws.sights free_there.sound o.one.first (taken_words h) w.between w.quiet w.apart in
      let fit = fits_entry s entry is.0 is.1 (free_may (free_there.sound (t.seen ++ w.between)) later free) in
      has_unhooked entry laws c h.ran w fit is.2 (slice_set k.free entry.page true) (length-set k.free entry.page true) (λ j lt. free_marks k.free entry.page (subst (λ n. entry.page < n) (sym free_there.pages) free_fit.below) j)

-- ## Said of the memory as the calls left it

pub unhooked_as : {z : Shape} {v u : View} {k now : Provider} {entry : Cooling} → k ≡ now → (queue : Stage) (free marks : List Bool) → queue ≡ stage k.frames (k.queue ++ entry ∷ []) → free ≡ marks → HasUnhooked z v k entry u (chilled k entry marks k.hand)
    → HasUnhooked z v now entry u (record k { frames = queue.frames; queue = queue.queue; free = free })
unhooked_as {z = z} {v = v} {u = u} {k = k} {now = now} {entry = entry} same queue free marks a b h =
    subst (λ (p : Provider). HasUnhooked z v p entry u (record k { frames = queue.frames; queue = queue.queue; free = free })) same
    (subst (λ (x : Stage × List Bool). HasUnhooked z v k entry u (record k { frames = x.0.frames; queue = x.0.queue; free = x.1 })) (λ i. (sym a i, sym b i)) h)
