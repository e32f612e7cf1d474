-- Calls behind one another, and that no page has other contents behind them.
use Rattle.std.proofs.Common.{◌≡◌, ◌==◌, ◌∙◌, ℕ, Bool, true, false, List, [], ◌∷◌, ◌++◌, ap, refl, subst, sym, ltb, ◌&&◌}
use Rattle.std.proofs.lemmas.Bool.{and_parts}
use Rattle.map_model.proofs.ListLemmas.{at_upd}
use Rattle.btree_descent.specs.core_paging.Paging.{Residence}
use Rattle.btree_descent.specs.core_state.Needs as core
use Rattle.btree_descent.specs.core_state.Openings.{Opening}
use Rattle.btree_descent.specs.core_state.States.{State, is_cold}
use Rattle.btree_descent.specs.core_state.Steps.{happens}
use Rattle.btree_descent.specs.row_words.declared.event.Event.{Event}
use Rattle.btree_descent.specs.row_words.declared.event.Event.TheVariants as told
use Rattle.btree_descent.specs.row_words.declared.given.Given.{Given}
use Rattle.btree_descent.specs.row_words.Moments.{event_of}
use Rattle.btree_descent.specs.row_words.Openings.{opening}
use Rattle.btree_descent.specs.rows_trait.declared.view.View.{View}
use Rattle.btree_descent.specs.rows_trait.Views.{Shape, state}
use Rattle.page_provider.specs.Laws.{RowLaws}
use Rattle.page_provider.specs.Moves.{ArePagers, Moved, is_pagers}
use Rattle.page_provider.specs.Providers.{Keeps, Provider}
use Rattle.btree_descent.specs.core_state.Needs.{has_hot_parent, is_empty_frame}
use Rattle.btree_descent.proofs.row_words.SealedLemmas.{run_append}
use Rattle.btree_descent.specs.row_words.Moments.{Moment}
use Rattle.btree_descent.specs.row_words.Sealed.{begun, run, stepped}
use Rattle.std.proofs.Common.{true≢false, if◌then◌else◌}
use Rattle.page_provider.proofs.Standing.{core_step, ran_state, state_on}
use Rattle.page_provider.proofs.Chilling.{moved_ran}
use Rattle.page_provider.proofs.Moving.{moved_then, moved_up, refused_then, refused_up}
use Rattle.cold_pages.specs.Laws.{IsButEntries}
use Rattle.btree_descent.specs.image_model.Entries.{Contents}
use Rattle.page_model.specs.Nodes.{Node, is_leaf}
use Rattle.page_model.specs.Pairs.{Pair}
use Rattle.btree_descent.proofs.core_commit.Fetched.{fetch_is}
use Rattle.btree_descent.specs.core_state.Events as happening
use Rattle.btree_descent.specs.core_state.Steps.{with_pairs}
use Rattle.btree_descent.specs.row_words.Moments.{pairs_of}
use Rattle.std.proofs.lemmas.Bool.{and_from, eq-eqb}
use Rattle.page_provider.proofs.Fetched.{buts_fetched}
use Rattle.page_provider.proofs.Kept.{but_none}
use Rattle.page_provider.proofs.Running.{disked_then}
use Rattle.page_provider.specs.Laws.{DiskLaws}
use Rattle.page_provider.specs.Sequels.{EveryDiskSequel, EverySequel}
use Rattle.lean_disk.specs.Story.{Story}

-- ## Contents

-- a page that comes is as it was saved, and so as it was
pub page_load : (g : Opening) (s : State) (q f p : ℕ) → core.may g s (happening.Event.Load q f) ≡ true → Residence g s → (happens g s (happening.Event.Load q f)).page p ≡ s.page p
page_load g s q f p met r = at_upd (λ i v. v ≡ s.page i) s.page q (s.saved q) p (sym (r.cold q cold)) (λ n. refl)
  where
    cold : is_cold (s.place q) ≡ true
    cold =
        let x = and_parts (ltb q g.format.pages) (ltb f g.frames && (is_cold (s.place q) && (has_hot_parent g s q && is_empty_frame g s f))) met in
        let y = and_parts (ltb f g.frames) (is_cold (s.place q) && (has_hot_parent g s q && is_empty_frame g s f)) x.1 in
        (and_parts (is_cold (s.place q)) (has_hot_parent g s q && is_empty_frame g s f) y.1).0

-- one that is read again, but for the entries of a leaf
page_fetch : (g : Opening) (s : State) (q p : ℕ) (pairs : List Pair) → core.may g s (happening.Event.Fetch q pairs) ≡ true → Residence g s → IsButEntries (s.page p) ((happens g s (happening.Event.Fetch q pairs)).page p)
page_fetch g s q p pairs met r =
    let f = fetch_is g s q pairs met in
    buts_fetched s q pairs (r.cold q f.cold) (and_from (s.saved q).node.live ((s.saved q).node.level == 0) f.live (eq-eqb (s.saved q).node.level 0 f.leaf)) p

page_happens : (g : Opening) (s : State) (e : Event) (p : ℕ) → is_pagers e ≡ true → core.may g s (event_of e) ≡ true → Residence g s → IsButEntries (s.page p) ((happens g s (event_of e)).page p)
page_happens g s (told.Load q f) p k met r = but_none (page_load g s q f p met r)
page_happens g s (told.Fetch q ps) p k met r = page_fetch g s q p (pairs_of ps) met r
page_happens g s (told.Cool q) p k met r = but_none refl
page_happens g s (told.Rescue q) p k met r = but_none refl
page_happens g s (told.Save q) p k met r = but_none refl
page_happens g s (told.Evict q) p k met r = but_none refl
page_happens g s told.Tick p k met r = but_none refl
page_happens g s (told.Miss w) p k met r = but_none refl
page_happens g s _ p k met r = absurd (true≢false (sym k))

-- where the rows began faithful, not these either
page_faithful : (g : Opening) → g.faithful ≡ true → (s : State) (e : Event) (p : ℕ) → is_pagers e ≡ true → core.may g s (event_of e) ≡ true → Residence g s → (happens g s (event_of e)).page p ≡ s.page p
page_faithful g y s (told.Load q f) p k met r = page_load g s q f p met r
page_faithful g y s (told.Fetch q ps) p k met r =
    let f = fetch_is g s q (pairs_of ps) met in
    let own : with_pairs (pairs_of ps) (s.saved q) ≡ s.saved q = ap (λ (l : List Pair). with_pairs l (s.saved q)) (f.own y) in
    at_upd (λ i v. v ≡ s.page i) s.page q (with_pairs (pairs_of ps) (s.saved q)) p (own ∙ sym (r.cold q f.cold)) (λ n. refl)
page_faithful g y s (told.Cool q) p k met r = refl
page_faithful g y s (told.Rescue q) p k met r = refl
page_faithful g y s (told.Save q) p k met r = refl
page_faithful g y s (told.Evict q) p k met r = refl
page_faithful g y s told.Tick p k met r = refl
page_faithful g y s (told.Miss w) p k met r = refl
page_faithful g y s _ p k met r = absurd (true≢false (sym k))

-- what holds of a page at each event, and of two such steps, holds of a call
module _ (v : Given) (p : ℕ) (R : Contents → Contents → Type 0) (none : (x : Contents) → R x x) (both : (x y w : Contents) → R x y → R y w → R x w)
    (each : (s : State) (e : Event) → is_pagers e ≡ true → core.may (opening v) s (event_of e) ≡ true → Residence (opening v) s → R (s.page p) ((happens (opening v) s (event_of e)).page p)) where
  page_next : (m : Moment) (e : Event) → is_pagers e ≡ true → Residence (opening v) m.core → R (m.core.page p) ((stepped v m e).core.page p)
  page_next m e k r = subst (λ (s : State). R (m.core.page p) (s.page p)) (sym (core_step v m e)) (go (core.may (opening v) m.core (event_of e)) refl)
    where
      go : (b : Bool) → core.may (opening v) m.core (event_of e) ≡ b → R (m.core.page p) ((if b then happens (opening v) m.core (event_of e) else m.core).page p)
      go true y = each m.core e k y r
      go false y = none (m.core.page p)

  page_on : (es : List Event) (m : Moment) → ((more : List Event) → Residence (opening v) (run v m more).core) → ArePagers es → R (m.core.page p) ((run v m es).core.page p)
  page_on [] m r k = none (m.core.page p)
  page_on (e ∷ es) m r k = both (m.core.page p) ((stepped v m e).core.page p) ((run v m (e ∷ es)).core.page p) (page_next m e k.0 (r [])) (page_on es (stepped v m e) (λ more. r (e ∷ more)) k.1)

but_then : (x y w : Contents) → IsButEntries x y → IsButEntries y w → IsButEntries x w
but_then x y w a b = record {
  gsn = b.gsn ∙ a.gsn;
  last = b.last ∙ a.last;
  fields = b.fields ∙ ap (λ (n : Node). record n { pairs = w.node.pairs }) a.fields;
  other = λ e. b.other (ap is_leaf a.fields ∙ e) ∙ a.other e;
}

module _ (most : ℕ) (z : Shape) (v u : View) (a b : Provider) (alone : z.alone ≡ true) (c : Keeps z v a) (m : Moved most z v a u b) (p : ℕ) where
  run_is : state u ≡ run v.given (state v) m.events
  run_is = ran_state m.goes.ran ∙ (state_on v m.goes.ran.more ∙ ap (run v.given (state v)) (m.goes.ran.all alone))

  resides : (more : List Event) → Residence (opening v.given) (run v.given (state v) more).core
  resides more = subst (λ (n : Moment). Residence (opening v.given) n.core) (run_append v.given (begun v.given) v.seen more) (c.sound (v.seen ++ more)).residence

  pages_but : IsButEntries ((state v).core.page p) ((state u).core.page p)
  pages_but = subst (λ (n : Moment). IsButEntries ((state v).core.page p) (n.core.page p)) (sym run_is)
      (page_on v.given p IsButEntries (λ x. but_none refl) but_then (λ s e k met r. page_happens (opening v.given) s e p k met r) m.events (state v) resides m.pagers)

  pages_same : v.given.faithful ≡ true → (state u).core.page p ≡ (state v).core.page p
  pages_same y = ap (λ (n : Moment). n.core.page p) run_is
      ∙ page_on v.given p (λ x w. w ≡ x) (λ x. refl) (λ x w t f g. g ∙ f) (λ s e k met r. page_faithful (opening v.given) y s e p k met r) m.events (state v) resides m.pagers

-- ## The laws

pub sequels : RowLaws → EverySequel
sequels laws = record {
  rest = λ z v u k c none free r. moved_ran laws c none r (free ∙ sym none);
  moved = λ m n most z v u w a b c few x y. moved_up few (moved_then x y);
  refused = λ m n most z path v u w a b c why few x same r. refused_up few (refused_then x (λ f p h. absurd h) same (record { moved = r.moved; keeps = λ f p h. absurd h; broken = r.broken; cause = r.cause; quiet = r.quiet; earlier = r.earlier }));
  pages = pages_but;
  contents = λ most z v u a b alone y c m p. pages_same most z v u a b alone c m p y;
}

pub disk_sequels : (old mid new : Story) → DiskLaws → EveryDiskSequel old mid new
disk_sequels old mid new laws alone v u w a b c whole p q = disked_then laws whole p q
