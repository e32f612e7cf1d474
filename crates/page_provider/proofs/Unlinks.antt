-- A node that cools: the pair above it, and what its call says.
use Rattle.std.proofs.Common.{◌≡◌, ◌≢◌, ◌+◌, ◌<◌, ◌≤◌, ◌^◌, ◌==◌, ◌&&◌, ◌||◌, ltb, not, ℕ, suc, Bool, true, false, List, [], ◌∷◌, ◌++◌, length, inl, inr, None, append-nil, refl, sym, ap, subst, ◌∙◌, arith, true≢false}
use Rattle.std.proofs.lemmas.Bool.{and_from, cases_eq, eq-eqb, lt-ltb}
use Rattle.map_model.specs.Lists.{any, upd}
use Rattle.map_model.proofs.ListLemmas.{upd_same, upd_other}
use Rattle.page_model.specs.Pairs.{Has, Pair, Span, spans}
use Rattle.page_model.specs.Nodes.{Node}
use Rattle.page_model.specs.Page.{word_at}
use Rattle.page_model.specs.Page as stored
use Rattle.page_model.specs.Check.{names_page}
use Rattle.page_model.specs.Tree.{Parent}
use Rattle.btree_descent.specs.core_state.States.{Place, State, in_frame, is_hot, nodes_of}
use Rattle.btree_descent.specs.row_words.declared.event.Event.TheVariants as told
use Rattle.btree_descent.specs.row_words.declared.given.Given.{Given}
use Rattle.btree_descent.specs.row_words.Moments.{Moment}
use Rattle.btree_descent.specs.row_words.Openings.{opening}
use Rattle.btree_descent.specs.row_words.Words.{framed_page, is_inner}
use Rattle.btree_descent.specs.rows_trait.declared.view.Act.{Act}
use Rattle.btree_descent.specs.rows_trait.declared.view.View.{View}
use Rattle.btree_descent.specs.rows_trait.Turns.{Ran}
use Rattle.btree_descent.specs.rows_trait.Views.{Shape, after_all, held_at, state}
use Rattle.btree_descent.proofs.rows_trait.Causes.{found_after, found_before, stepped_loads}
use Rattle.btree_descent.proofs.rows_trait.Runs.{ran_append}
use Rattle.btree_descent.specs.Known.{Sound}
use Rattle.held_rows.specs.Publishing.{Went}
use Rattle.held_rows.specs.Steps.{MissedUpTo}
use Rattle.held_rows.specs.Waits.{missed_then}
use Rattle.row_image.specs.declared.sight.Sight.{Sight}
use Rattle.row_image.specs.Hot.{StandsIn}
use Rattle.row_image.specs.Looks.{Watched}
use Rattle.row_image.specs.Sights.{EverySight, HasHotChild, HasWords, IsFirst, IsKnown, IsSight, NamesAt}
use Rattle.row_image.proofs.Naming.{hot_child_at}
use Rattle.cooling_stage.specs.declared.stage.Cooling.{Cooling}
use Rattle.cooling_stage.specs.Queue.{found}
use Rattle.free_pages.specs.Pages.{is_in}
use Rattle.page_moves.specs.Moves.{CanUnlink, HasLink}
use Rattle.page_provider.specs.declared.refusal.Refusal.{Refusal}
use Rattle.page_provider.specs.Cools.{HasUnhooked, Idle, chilled}
use Rattle.page_provider.specs.Finds.{IsChildless, IsSeen, NoneNames, SinceBoth, SinceFound, Stopped, TakesTwo}
use Rattle.page_provider.specs.Inside.{Missed}
use Rattle.page_provider.specs.Laws.{RowLaws}
use Rattle.page_provider.specs.Providers.{Provider, Keeps}
use Rattle.page_provider.proofs.Chills.{MayChill, chill_absent, chill_met, chill_room, entry_in, fits_entry, has_unhooked, lived, met_others, node_may, none_ran, stands_later}
use Rattle.page_provider.proofs.Keeping.{keeps_ran, ran_stood}
use Rattle.page_provider.proofs.Loaded.{caused_before}
use Rattle.page_provider.proofs.Outcomes.{is_pager}
use Rattle.page_provider.proofs.Standing.{onward, ran_state}

-- ## What was seen, behind looks

pub seen_watched : {z : Shape} {s : Sight} {v u : View} → EverySight → Watched z.alone v u → IsSeen z s v → IsSeen z s u
seen_watched {s = s} {v = v} every k seen = record {
  inside = seen.inside;
  frame = subst (λ (g : Given). s.glimpse.row < (opening g).frames) (sym k.ran.given) seen.frame;
  known = subst (λ (acts : List Act). IsKnown s acts) (sym k.loads.steps) ((every s).known k.loads.acts v.steps seen.known);
  last = λ alone. k.latest alone s.glimpse.row s.glimpse.version (seen.last alone);
}

hot_here : {x : Place} {f : ℕ} (g : ℕ) → f ≡ g → x ≡ Place.Hot f → in_frame x g ≡ true
hot_here {f = f} g same hot = ap (λ y. in_frame y g) hot ∙ eq-eqb f g same

pub seen_sight : {z : Shape} {s : Sight} {v u : View} {k : Provider} → Keeps z u k → IsSight z.alone s.glimpse.row v s u → IsSeen z s u
seen_sight {s = s} {u = u} c i =
    let low = ((c.sound u.seen).residence.within s.node.number s.glimpse.row (hot_here s.glimpse.row refl i.stands.stands.hot)).1 in
    let given = c.sized.given in
    let shape = c.sized.shape in
    record { inside = omega arith; frame = low; known = i.known; last = λ alone. i.last }

-- ## Why it stopped

pub missed_since : {z : Shape} {v u : View} {why : Refusal} (s : Sight) → Missed z v why u → SinceFound s v why u
missed_since {u = u} {why = why} s m from f = caused_before u why (stepped_loads f.loads) m.cause

pub both_since : {alone : Bool} {v n : View} (w : View) (why : Refusal) (a s : Sight) → Watched alone v n → IsSight alone a.glimpse.row v a n → SinceBoth a s n why w → SinceFound s v why w
both_since {v = v} {n = n} w why a s k i b from f = b from (found_before a.glimpse.row a.glimpse.version from v n f.loads i.found) (found_after s.glimpse.row s.glimpse.version from v n f k.loads)

pub stopped_after : {z : Shape} {v n w : View} {why : Refusal} → Ran z.alone v [] n → Stopped 2 z n why w → Stopped 2 z v why w
stopped_after {z = z} {v = v} {n = n} r s =
    let none : MissedUpTo 0 z.alone v n = record { events = []; ran = r; misses = tt; few = omega arith } in
    record { missed = missed_then none s.missed; held = s.held; kind = s.kind; quiet = s.quiet }

-- ## Nothing was done

pub state_alone : {alone : Bool} {v u : View} → Ran alone v [] u → alone ≡ true → state u ≡ state v
state_alone {v = v} r alone = ran_state r ∙ (ap (λ es. state (onward v es)) (r.all alone) ∙ ap (after_all v.given) (append-nil v.seen))

pub idle_ran : {z : Shape} {v u : View} {k : Provider} → RowLaws → Keeps z v k → Ran z.alone v [] u → u.held ≡ [] → Idle z v k u k
idle_ran {z = z} {v = v} {u = u} laws c r none =
    let st = ran_stood laws.stood c tt r in
    record {
      moved = record {
        events = [];
        goes = record { ran = r; held = none; keeps = keeps_ran laws.stood laws.standing tt r c };
        pagers = tt;
        ticked = tt;
        few = omega arith;
        met = met_others v.given r.more (state v) (none_ran z.alone v u c.actor r);
        same = record { frames = refl; workers = refl; generation = refl };
      };
      events_are = refl;
      memory = refl;
      rested = record { cold = λ j h. st.cold j ∙ h; saved = λ j h. st.saved j; pages = λ alone j. ap (λ (m : Moment). m.core.page j) (state_alone r alone) };
    }

-- ## Pairs

span_pair : (xs : List Pair) (high : ℕ) (s : Span) → Has s (spans xs high) → (j : ℕ) × (j < length xs) × (word_at j xs ≡ s.child)
span_pair [] high s h = absurd h
span_pair (x ∷ xs) high s (inl e) = (0, omega arith, ap (λ (y : Span). y.child) (sym e))
span_pair (x ∷ xs) high s (inr h) = let r = span_pair xs high s h in (suc r.0, (let l = r.1 in omega arith), r.2)

any_child : (p : ℕ) (s : Span) (xs : List Span) → s.child ≡ p → Has s xs → any (λ (y : Span). y.child == p) xs ≡ true
any_child p s [] is h = absurd h
any_child p s (x ∷ xs) is (inl e) = ap (λ b. b || any (λ (y : Span). y.child == p) xs) (eq-eqb x.child p (ap (λ (y : Span). y.child) (sym e) ∙ is))
any_child p s (x ∷ xs) is (inr h) = go (x.child == p) (any_child p s xs is h)
  where
    go : (b : Bool) → any (λ (y : Span). y.child == p) xs ≡ true → (b || any (λ (y : Span). y.child == p) xs) ≡ true
    go true k = refl
    go false k = k

hot_frame : (x : Place) → is_hot x ≡ true → (f : ℕ) × (x ≡ Place.Hot f)
hot_frame (Place.Hot f) h = (f, refl)
hot_frame (Place.Cooling f e w) h = absurd (true≢false (sym h))
hot_frame Place.Cold h = absurd (true≢false (sym h))

-- the node whose pair names a frame stands in another one, since it is of a higher level
pub link_apart : {g : Given} {m : Moment} {w at : ℕ} (a : Sight) (f : ℕ) → Sound g m → StandsIn g m a.glimpse.row a.node → IsFirst a.node w at → w ≡ 2 ^ 63 + f → a.glimpse.row ≢ f
link_apart {g = g} {m = m} {at = at} a f sound it first word e =
    let h : HasHotChild g m a.node.number f = hot_child_at g m a.glimpse.row a.node sound it at f first.inner first.short (first.word_is ∙ word) in
    let same : h.page ≡ a.node.number = sound.residence.one h.page a.node.number f (hot_here f refl h.hot) (hot_here f e it.stands.hot) in
    let level = ap (λ x. (m.core.page x).node.level) same in
    let lower = h.lower in
    absurd (omega arith)

-- it names the page that stands there
has_link : {t : View} {w at : ℕ} (a : Sight) (p f : ℕ) → RowLaws → Sound t.given (state t) → StandsIn t.given (state t) a.glimpse.row a.node → IsFirst a.node w at → w ≡ 2 ^ 63 + f → (state t).core.place p ≡ Place.Hot f → HasLink t a.glimpse.row at p
has_link {t = t} {at = at} a p f laws sound it first word hot =
    let l = (laws.pairs t.given (state t) a.glimpse.row a.node sound it).hot at f first.inner first.short (first.word_is ∙ word) in
    let same : l.0 ≡ p = sound.residence.one l.0 p f (hot_here f refl l.2) (hot_here f refl hot) in
    record { parent = a.node.number; below = it.stands.below; hot = it.stands.hot; inner = l.1.inner; short = l.1.short; names = l.1.names ∙ same }

-- a node that stands hot is named by one that does
module _ {z : Shape} {v n : View} {k : Provider} {frames word : ℕ} (s : Sight) (laws : RowLaws) (c : Keeps z v k) (stands : z.alone ≡ true → StandsIn v.given (state v) s.glimpse.row s.node) (live : s.node.node.live ≡ true) (other : s.node.number ≢ 0)
    (r : Ran z.alone v [] n) (none : z.alone ≡ true → NoneNames frames word n) (whole : frames ≡ k.frames) (is : word ≡ 2 ^ 63 + s.glimpse.row) where
  there_none : Keeps z n k
  there_none = keeps_ran laws.stood laws.standing tt r c

  sound_none : Sound n.given (state n)
  sound_none = there_none.sound n.seen

  must_name : StandsIn n.given (state n) s.glimpse.row s.node → NoneNames frames word n → ⊥
  must_name it named =
      let core : State = (state n).core in
      let up : Parent (opening n.given).format (nodes_of core) s.node.number = sound_none.tree.up s.node.number it.stands.below (sym (lived it) ∙ live) other in
      let node : Node = (core.page up.page).node in
      let inner : is_inner node ≡ true = and_from node.live (ltb 0 node.level) up.names.live (lt-ltb 0 node.level up.names.inner) in
      let says : names_page node s.node.number ≡ true = and_from (is_inner node) (any (λ (y : Span). y.child == s.node.number) (spans node.pairs node.high)) inner (any_child s.node.number up.span (spans node.pairs node.high) up.child up.names.has) in
      let hot = sound_none.residence.parent up.page s.node.number up.below says (ap is_hot it.stands.hot) in
      let at = hot_frame (core.place up.page) hot in
      let page : stored.Page = framed_page core up.page 0 in
      let here : StandsIn n.given (state n) at.0 page = record { stands = record { below = up.below; hot = at.1 }; page = refl } in
      let j = span_pair node.pairs node.high up.span up.names.has in
      let names : NamesAt (state n) up.page j.0 s.node.number = record { inner = inner; short = j.1; names = j.2 ∙ up.child } in
      let w = (laws.pairs n.given (state n) at.0 page sound_none here).named_hot j.0 s.node.number s.glimpse.row names it.stands.hot in
      let low = (sound_none.residence.within up.page at.0 (hot_here {f = at.0} at.0 refl at.1)).1 in
      let given = there_none.sized.given in
      named at.0 page (omega arith) here w.0 j.0 w.1 (w.2 ∙ sym is)

  pub not_alone : z.alone ≡ false
  not_alone = go z.alone refl
    where
      go : (b : Bool) → z.alone ≡ b → z.alone ≡ false
      go true e = absurd (must_name (subst (λ (x : Given × Moment). StandsIn x.0 x.1 s.glimpse.row s.node) (λ i. (sym r.given i, sym (state_alone r e) i)) (stands e)) (none e))
      go false e = e

-- ## The node and the one above it are held

module _ {z : Shape} {v n t : View} {k : Provider} {a s : Sight} (entry : Cooling) (laws : RowLaws) (c : Keeps z v k) (few : k.frames ≤ 2 ^ 32) (childless : IsChildless s) (other : s.node.number ≢ 0) (live : s.node.node.live ≡ true)
    (is : (entry.page ≡ s.node.number) × (entry.frame ≡ s.glimpse.row) × (entry.epoch ≡ (state v).core.epoch)) (r : Ran z.alone v [] n) (o : TakesTwo z a s n t) where
  two_ran : Ran z.alone v [] t
  two_ran = ran_append z.alone v [] n [] t r o.ran

  two_there : Keeps z t k
  two_there = keeps_ran laws.stood laws.standing tt two_ran c

  two_few : (opening t.given).frames ≤ 2 ^ 32
  two_few = let given = two_there.sized.given in omega arith

  two_fit : MayChill t.given (state t) entry.page entry.frame true
  two_fit = fits_entry s entry is.0 is.1 (node_may s two_few (two_there.sound t.seen) o.second childless other live)

  pub node_unlinks : {y : Shape} {above own w at : ℕ} → IsFirst a.node w at → w ≡ 2 ^ 63 + entry.frame → y ≡ z → above ≡ a.glimpse.row → own ≡ s.glimpse.row → CanUnlink y t above own at entry.page
  node_unlinks {own = own} {at = at} first word shape row mine = subst (λ (x : Shape × ℕ). CanUnlink x.0 t x.1 own at entry.page) (λ i. (sym shape i, sym row i)) (record {
    on = is_pager two_there;
    link = has_link a entry.page entry.frame laws (two_there.sound t.seen) o.first first word two_fit.hot;
    here = entry_in entry laws two_there two_fit own (mine ∙ sym is.1);
    met = chill_met two_fit;
  })

  pub node_absent : found entry.page k.queue ≡ None
  node_absent = chill_absent entry laws two_there two_fit

  pub node_room : length k.queue < k.frames
  node_room = chill_room entry laws two_there two_fit

  pub node_unhooked : {u : View} → HasWords s (held_at t.held s.glimpse.row).was → Went z.alone t (told.Cool entry.page) u → HasUnhooked z v k entry u (chilled k entry k.free k.hand)
  node_unhooked {u} words w =
      let later = stands_later laws.sights two_there.sound o.two.second words w.between w.quiet w.apart in
      let fit = fits_entry s entry is.0 is.1 (node_may s two_few (two_there.sound (t.seen ++ w.between)) later childless other live) in
      has_unhooked entry laws c two_ran w fit is.2 k.free refl (λ j lt. marks j)
    where
      marks : (j : ℕ) → is_in k.free j ≡ upd (is_in k.free) entry.page false j
      marks j = elim (cases_eq j entry.page) [
        | inl e ↦
            let none : is_in k.free entry.page ≡ false = two_there.agrees.free entry.page two_fit.below ∙ ap (λ b. not b && not (is_hot ((state t).core.place entry.page))) two_fit.live_is in
            ap (is_in k.free) e ∙ (none ∙ sym (upd_same (is_in k.free) entry.page false j e))
        | inr ne ↦ sym (upd_other (is_in k.free) entry.page false j ne)
      ]
