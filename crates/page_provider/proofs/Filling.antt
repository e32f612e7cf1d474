-- A cold page that was read comes into a frame that is made empty for it.
use Rattle.std.proofs.Common.{◌≡◌, ◌≢◌, ◌<◌, ◌≤◌, ◌+◌, ◌==◌, ◌||◌, not, inl, inr, ℕ, zero, suc, Bool, true, false, List, [], ◌∷◌, append-nil, Option, Some, None, refl, sym, ap, subst, ◌∙◌, arith, true≢false}
use Rattle.std.specs.Prelude.{Result, Err, IfErr, if◌then◌else◌}
use Rattle.std.proofs.lemmas.Bool.{eqb-true, and_from}
use Rattle.map_model.specs.Lists.{Has, any}
use Rattle.map_model.proofs.ListLemmas.{upd_other}
use Rattle.page_model.specs.Page as stored
use Rattle.page_model.specs.Check.{names_page}
use Rattle.btree_descent.specs.core_state.Lists.{all_below}
use Rattle.btree_descent.specs.core_state.Events as happening
use Rattle.btree_descent.specs.core_state.Needs as core
use Rattle.btree_descent.specs.core_state.Needs.{has_hot_parent}
use Rattle.btree_descent.specs.core_state.Openings.{Opening}
use Rattle.btree_descent.specs.core_state.States.{Place, State, is_cold, is_cooling, is_hot}
use Rattle.btree_descent.specs.core_state.Steps.{happens, step}
use Rattle.btree_descent.specs.row_words.declared.given.Given.{Given}
use Rattle.btree_descent.specs.row_words.declared.event.Event.TheVariants.{Load}
use Rattle.btree_descent.specs.row_words.Openings.{opening}
use Rattle.btree_descent.specs.rows_trait.declared.view.View.{View}
use Rattle.btree_descent.specs.rows_trait.Views.{Shape, state}
use Rattle.page_provider.specs.declared.refusal.Refusal.{Refusal}
use Rattle.page_provider.specs.declared.refusal.Refusal.TheVariants as refusal
use Rattle.page_provider.specs.Comes.{CanCome, ComesOrNot, Fills, HasCome, HasContents, HasRoom, HasRead, IsOfRoom, PlaceCause, ReadsWell}
use Rattle.page_provider.specs.Ends.{HasRefused}
use Rattle.page_provider.specs.Faults.{Faulted, FullCause, HasLost, HasPlaced, LeadsTo, LostCause, StaysCold}
use Rattle.page_provider.specs.Finds.{Halts}
use Rattle.page_provider.specs.Laws.{RowLaws}
use Rattle.page_provider.specs.Leaves.{IsCounted}
use Rattle.page_provider.specs.Moves.{Rested, is_on, way}
use Rattle.page_provider.specs.Providers.{Provider, Keeps}
use Rattle.page_provider.specs.Refusals.{Caused, IsOfEvict, IsOfRow, IsOthers, breaks}
use Rattle.lean_disk.specs.Story.{Story}
use Rattle.page_calls.specs.Calls.{IsOn}
use Rattle.btree_descent.proofs.rows_trait.Runs.{ran_none}
use Rattle.page_provider.specs.Disks.{Disked, told}
use Rattle.page_provider.specs.Laws.{DiskLaws}
use Rattle.page_provider.proofs.Keeping.{keeps_slots}
use Rattle.page_provider.proofs.Running.{beside_same, went_call}
use Rattle.page_provider.proofs.Moving.{come_moved, halts_refused, moved_then, moved_up, path_then, refused_then, refused_up}
use Rattle.page_pool.specs.Full.{NoneRipe}
use Rattle.page_provider.proofs.Placing.{none_lost}
use Rattle.page_provider.proofs.Shares.{loaded_long, needed_behind, none_sunk, share_behind, sinks_ran}
use Rattle.page_provider.proofs.Joins.{ran_still}
use Rattle.page_provider.proofs.Standing.{core_one}

-- ## Refusals

pub row_room : (why : Refusal) → IsOfRow why → IsOfRoom why
row_room (refusal.Moved m) k = tt
row_room (refusal.Latched l) k = tt
row_room (refusal.RowSpent row) k = tt
row_room _ k = absurd k

pub evict_room : (why : Refusal) → IsOfEvict why → IsOfRoom why
evict_room (refusal.Moved m) k = tt
evict_room (refusal.Latched l) k = tt
evict_room (refusal.RowSpent row) k = tt
evict_room refusal.DiskFault k = tt
evict_room refusal.Broken k = tt
evict_room _ k = absurd k

pub counted_room : (k : Provider) (path : List ℕ) (held : ℕ) (why : Refusal) → IsCounted k path held why → IsOfRoom why
counted_room k path held (refusal.PoolFull on latched above h) c = tt
counted_room k path held _ c = absurd c

pub room_cause : (z : Shape) (path : List ℕ) (page : ℕ) (v u : View) (is : Provider) (why : Refusal) → IsOfRoom why → FullCause z path u is why → StaysCold z v why u → is_cold ((state v).core.place page) ≡ true → PlaceCause z path v page u is why
room_cause z path page v u is (refusal.PoolFull on latched above held) k f stays cold = record { full = f; cold = stays.cold page cold; others = λ alone p other. stays.pages alone p }
room_cause z path page v u is (refusal.Moved m) k f stays cold = tt
room_cause z path page v u is (refusal.Latched l) k f stays cold = tt
room_cause z path page v u is (refusal.RowSpent row) k f stays cold = tt
room_cause z path page v u is refusal.DiskFault k f stays cold = tt
room_cause z path page v u is refusal.Broken k f stays cold = tt
room_cause z path page v u is refusal.NoPages k f stays cold = absurd k
room_cause z path page v u is (refusal.Damaged p counts other) k f stays cold = absurd k
room_cause z path page v u is (refusal.Altered p) k f stays cold = absurd k

-- pages that rested are cold still
pub stays_cold : {z : Shape} {v u : View} (why : Refusal) → Rested z v u → StaysCold z v why u
stays_cold (refusal.PoolFull on latched above held) r = r
stays_cold _ r = tt

pub row_place : (z : Shape) (path : List ℕ) (v : View) (page : ℕ) (u : View) (is : Provider) (why : Refusal) → IsOfRow why → PlaceCause z path v page u is why
row_place z path v page u is (refusal.Moved m) k = tt
row_place z path v page u is (refusal.Latched l) k = tt
row_place z path v page u is (refusal.RowSpent row) k = tt
row_place z path v page u is _ k = absurd k

pub row_fault : (why : Refusal) → IsOfRow why → why ≡ refusal.DiskFault → ⊥
row_fault (refusal.Moved m) k e = cc
row_fault (refusal.Latched l) k e = cc
row_fault (refusal.RowSpent row) k e = cc
row_fault _ k e = absurd k

-- a call that asks nothing of the device has no fault
pub halts_fault : {A : Type 0} (P : Refusal → Type 0) → ((why : Refusal) → P why → IsOfRow why) → (r : Result A Refusal) → IfErr r P → r ≡ Err refusal.DiskFault → ⊥
halts_fault P kind r h e = row_fault refusal.DiskFault (kind refusal.DiskFault (subst (λ q. IfErr q P) e h)) refl

-- ## It fills the frame

cold_off : (x : Place) → is_cold x ≡ true → is_hot x ≡ false
cold_off (Place.Hot f) h = absurd (true≢false (sym h))
cold_off (Place.Cooling f e w) h = absurd (true≢false (sym h))
cold_off Place.Cold h = refl

-- what was read is live where the page is
pub live_as : {z : Shape} {v : View} {k : Provider} {page frame : ℕ} {n : stored.Page} → Keeps z v k → CanCome v k page frame n → n.node.live ≡ ((state v).core.page page).node.live
live_as {v = v} {page = page} c come = ap (λ x. x.node.live) come.contents ∙ sym (ap (λ x. x.node.live) ((c.sound v.seen).residence.cold page come.cold))

pub lost_once : (path : List ℕ) {z : Shape} {v u : View} {k is : Provider} {page frame : ℕ} {n : stored.Page} → RowLaws → Keeps z v k → CanCome v k page frame n → n.node.live ≡ true → ComesOrNot false z (Load page frame) page frame v k u is → HasLost 1 z path v k page u is
lost_once path {v = v} {page = page} laws c come live h =
    let l = none_lost path laws c (cold_off ((state v).core.place page) come.cold) (sym (live_as c come) ∙ live) h in
    record { moved = moved_up (let few : 0 ≤ 1 = omega arith in few) h.0.moved; keeps = l.keeps; broken = l.broken; hot = l.hot; live = l.live; astray = l.astray }

-- ## Behind the room

-- the page that came is as it was saved, and each other one as it was
loaded : (g : Opening) (s : State) (q f p : ℕ) → p ≢ q → (step g s (happening.Event.Load q f)).page p ≡ s.page p
loaded g s q f p other = go (core.may g s (happening.Event.Load q f))
  where
    go : (b : Bool) → (if b then happens g s (happening.Event.Load q f) else s).page p ≡ s.page p
    go true = upd_other s.page q (s.saved q) p other
    go false = refl

has_any : (path : List ℕ) (f : ℕ) → any (λ i. i == f) path ≡ true → Has f path
has_any [] f a = absurd (true≢false (sym a))
has_any (i ∷ path) f a = one (i == f) refl a (has_any path f)
  where
    one : (b : Bool) → (i == f) ≡ b → (b || any (λ j. j == f) path) ≡ true → (any (λ j. j == f) path ≡ true → Has f path) → Has f (i ∷ path)
    one true e k more = inl (sym (eqb-true i f e))
    one false e k more = inr (more k)

module _ {z : Shape} {path : List ℕ} {v u : View} {was mid : Provider} {frame : ℕ} (laws : RowLaws) (c : Keeps z v was) (room : HasRoom z path v was frame u mid) where
  pub can_come : {page : ℕ} {n : stored.Page} → HasContents v page n → CanCome u mid page frame n
  can_come {page} h = record {
    below = subst (λ (g : Given). page < (opening g).format.pages) (sym room.moved.goes.ran.given) h.below;
    cold = room.rested.cold page h.cold;
    number_is = h.number_is;
    contents = h.contents ∙ sym (room.rested.saved page h.cold);
    rest = room.rest;
    last = room.last;
  }

  pub placed_then : {w : View} {is : Provider} {page f : ℕ} → HasCome z (Load page f) page f u mid w is → HasPlaced 4 z path v was page f w is
  placed_then {w} {is} {page} {f} h = record {
    moved = moved_up (let few : 2 + 1 ≤ 4 = omega arith in few) (moved_then room.moved (come_moved refl refl h));
    keeps = path_then path v u w room.keeps (λ i p has hot. h.others p (ap is_hot hot) ∙ hot);
    hot = h.hot;
    broken = ap (λ (p : Provider). p.broken) h.memory ∙ room.broken;
    needed = λ alone. needed_behind refl h.goes.ran (still alone) (room.needed alone);
    enough = λ alone cold. share_behind was mid is h.goes.ran (loaded_long room.moved.goes.keeps h.goes.keeps h.goes.ran alone) (room.enough alone);
    others = λ alone p other. ap (λ (s : State). s.page p) (core_one h.goes.ran alone) ∙ (loaded (opening u.given) (state u).core page f p other ∙ room.rested.pages alone p);
  }
    where
      still : z.alone ≡ true → NoneRipe (opening u.given) (state u).core → NoneRipe (opening w.given) (state w).core
      still alone none = subst (λ (g : Given). NoneRipe (opening g) (state w).core) (sym h.goes.ran.given)
          (none_sunk (opening u.given) (sinks_ran h.goes.ran tt alone) page (λ q below ne c. none q below c) (ap is_cooling h.hot))

  -- a cold page is as it was
  same_page : {page : ℕ} {n : stored.Page} → HasContents v page n → (state u).core.page page ≡ (state v).core.page page
  same_page {page} h =
      let now = room.moved.goes.keeps in
      (now.sound u.seen).residence.cold page (room.rested.cold page h.cold) ∙ (room.rested.saved page h.cold ∙ sym ((c.sound v.seen).residence.cold page h.cold))

  -- where nobody else steps its hot parent, to which the path leads, is hot still
  on_hot : (q : ℕ) → way path (state v).core q ≡ true → is_hot ((state v).core.place q) ≡ true → is_hot ((state u).core.place q) ≡ true
  on_hot q on hot = go ((state v).core.place q) refl on hot
    where
      root : q ≡ 0 → is_hot ((state u).core.place q) ≡ true
      root e = ap (λ n. is_hot ((state u).core.place n)) e ∙ ap is_hot (room.moved.goes.keeps.sound u.seen).residence.root

      either : (f : ℕ) (b : Bool) → (q == 0) ≡ b → (b || any (λ i. i == f) path) ≡ true → (state v).core.place q ≡ Place.Hot f → is_hot ((state u).core.place q) ≡ true
      either f true e k at = root (eqb-true q 0 e)
      either f false e k at = ap is_hot (room.keeps f q (has_any path f k) at)

      go : (x : Place) → (state v).core.place q ≡ x → is_on path q x ≡ true → is_hot x ≡ true → is_hot ((state u).core.place q) ≡ true
      go (Place.Hot f) at k h = either f (q == 0) refl k at
      go (Place.Cooling f e w) at k h = absurd (true≢false (sym h))
      go Place.Cold at k h = absurd (true≢false (sym h))

  all_to : (n : ℕ) (P Q : ℕ → Bool) → ((q : ℕ) → q < n → P q ≡ true → Q q ≡ true) → all_below n P ≡ true → all_below n Q ≡ true
  all_to zero P Q f a = refl
  all_to (suc n) P Q f a =
      let k = Rattle.btree_descent.proofs.row_words.Stays.and_true (P n) (all_below n P) a in
      and_from (Q n) (all_below n Q) (f n (omega arith) k.0) (all_to n P Q (λ q l. f q (omega arith)) k.1)

  pub parent_on : (page : ℕ) → z.alone ≡ true → LeadsTo z v path page → has_hot_parent (opening v.given) (state v).core page ≡ true → has_hot_parent (opening u.given) (state u).core page ≡ true
  parent_on page alone leads hot = subst (λ (g : Given). has_hot_parent (opening g) (state u).core page ≡ true) (sym room.moved.goes.ran.given)
      (all_to (opening v.given).format.pages (λ q. not (names_page ((state v).core.page q).node page) || is_hot ((state v).core.place q)) (λ q. not (names_page ((state u).core.page q).node page) || is_hot ((state u).core.place q)) each hot)
    where
      each : (q : ℕ) → q < (opening v.given).format.pages → (not (names_page ((state v).core.page q).node page) || is_hot ((state v).core.place q)) ≡ true → (not (names_page ((state u).core.page q).node page) || is_hot ((state u).core.place q)) ≡ true
      each q lt k = go (names_page ((state v).core.page q).node page) refl (names_page ((state u).core.page q).node page) (ap (λ x. names_page x.node page) (room.rested.pages alone q)) k
        where
          go : (b : Bool) → names_page ((state v).core.page q).node page ≡ b → (d : Bool) → d ≡ names_page ((state v).core.page q).node page → (not b || is_hot ((state v).core.place q)) ≡ true → (not d || is_hot ((state u).core.place q)) ≡ true
          go b e false s k = refl
          go true e true s k = on_hot q (leads alone q lt e k) k
          go false e true s k = absurd (true≢false (s ∙ e))

  pub lost_then : {w : View} {is : Provider} {page : ℕ} {n : stored.Page} → HasContents v page n → LeadsTo z v path page → (z.alone ≡ true → has_hot_parent (opening v.given) (state v).core page ≡ true) → HasLost 1 z path u mid page w is → HasLost 4 z path v was page w is
  lost_then {w} {is} {page} h leads parent l = record {
    moved = moved_up (let few : 2 + 1 ≤ 4 = omega arith in few) (moved_then room.moved l.moved);
    keeps = path_then path v u w room.keeps l.keeps;
    broken = l.broken ∙ room.broken;
    hot = cold_off ((state v).core.place page) h.cold;
    live = sym (ap (λ x. x.node.live) (same_page h)) ∙ l.live;
    astray = λ alone. absurd (true≢false (sym (parent_on page alone leads (parent alone)) ∙ (l.astray alone).0.parent));
  }

  pub refused_behind : {w : View} {is : Provider} {why : Refusal} → is ≡ mid → Halts 2 z u why w → HasRefused 4 z path v was why w is
  refused_behind {w} {is} {why} same h = subst (λ p. HasRefused 4 z path v was why w p) (sym same) (refused_up (let few : 2 + 2 ≤ 4 = omega arith in few) (refused_then room.moved room.keeps room.broken (halts_refused laws room.moved.goes.keeps room.moved.goes.held h)))

  pub faulted_then : (w : View) (is : Provider) {page : ℕ} {n : stored.Page} → HasContents v page n → LeadsTo z v path page → (z.alone ≡ true → has_hot_parent (opening v.given) (state v).core page ≡ true)
      → (come : Option ℕ) → Fills z path u mid page come w is → Faulted 4 z path v was page come w is
  faulted_then w is h leads parent (Some f) k = placed_then k
  faulted_then w is h leads parent None k = lost_then h leads parent k

-- ## What was read

lost_breaks : (was : Provider) (page : ℕ) (s : Story) (why : Refusal) → LostCause was page s why → breaks why ≡ true
lost_breaks was page s refusal.DiskFault k = refl
lost_breaks was page s (refusal.Damaged p counts other) k = refl
lost_breaks was page s (refusal.Altered p) k = refl
lost_breaks was page s _ k = absurd k

lost_others : (was : Provider) (page : ℕ) (s : Story) (why : Refusal) → LostCause was page s why → IsOthers why → ⊥
lost_others was page s (refusal.Moved m) k o = k
lost_others was page s (refusal.Latched l) k o = k
lost_others was page s _ k o = o

lost_earlier : (was : Provider) (page : ℕ) (s : Story) (why : Refusal) → LostCause was page s why → why ≡ refusal.Broken → ⊥
lost_earlier was page s refusal.DiskFault k e = cc
lost_earlier was page s (refusal.Damaged p counts other) k e = cc
lost_earlier was page s (refusal.Altered p) k e = cc
lost_earlier was page s _ k e = absurd k

lost_caused : (v u : View) (was : Provider) (page : ℕ) (s : Story) (why : Refusal) → LostCause was page s why → Caused v why u
lost_caused v u was page s refusal.DiskFault k = tt
lost_caused v u was page s (refusal.Damaged p counts other) k = tt
lost_caused v u was page s (refusal.Altered p) k = tt
lost_caused v u was page s _ k = absurd k

or_on : (b : Bool) → true ≡ (b || true)
or_on true = refl
or_on false = refl

pub read_refused : {z : Shape} {v : View} {k is : Provider} {page : ℕ} {s : Story} {why : Refusal} (path : List ℕ) → Keeps z v k → v.held ≡ [] → HasRead k page s why is → HasRefused 5 z path v k why v is
read_refused {z} {v} {k} {is} {page} {s} {why} path c none h =
    record {
      moved = record {
        events = [];
        goes = record { ran = ran_still z.alone v; held = none; keeps = subst (Keeps z v) (sym h.memory) (keeps_slots k.slots true c) };
        pagers = tt;
        ticked = tt;
        few = omega arith;
        met = tt;
        same = record { frames = ap (λ (p : Provider). p.frames) h.memory; workers = ap (λ (p : Provider). p.workers) h.memory; generation = ap (λ (p : Provider). p.generation) h.memory };
      };
      keeps = λ f p has e. e;
      broken = ap (λ (p : Provider). p.broken) h.memory ∙ (or_on k.broken ∙ ap (λ b. k.broken || b) (sym (lost_breaks k page s why h.cause)));
      cause = lost_caused v v k page s why h.cause;
      quiet = λ alone o. lost_others k page s why h.cause o;
      earlier = λ e. absurd (lost_earlier k page s why h.cause e);
    }

pub reads_disked : {alone : Bool} {v : View} {was is : Provider} {old new : Story} → DiskLaws → ReadsWell was is old new → Disked alone was v is v old new
reads_disked {v = v} {is = is} {new = new} laws reads only g s0 x k =
    let r = reads g s0 x v k in
    went_call laws k (ran_none true v) (sym r.1.generation ∙ k.generation) r.0
    (λ _. (x, beside_same x, subst (λ es. IsOn g es s0 x is.slots new) (sym (append-nil (told v))) r.1.on))
