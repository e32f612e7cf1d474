-- What the pager finds in frames without a latch, over several looks.
use Rattle.std.proofs.Common.{◌≡◌, ◌≢◌, ◌<◌, ◌≤◌, ◌+◌, ℕ, suc, Bool, true, false, List, [], ◌∷◌, ◌++◌, length, Option, Some, None, append-nil, refl, sym, ap, subst, ◌∙◌, arith, below_more, true≢false}
use Rattle.std.proofs.lemmas.Bool.{eq-eqb, eqb-true}
use Rattle.page_model.specs.Check.{names_page}
use Rattle.page_model.specs.Nodes.{Format, Node, WellFormed}
use Rattle.page_model.specs.Page as stored
use Rattle.page_model.specs.Page.{word_at}
use Rattle.btree_descent.specs.core_state.States.{Place, State, in_frame, is_hot}
use Rattle.btree_descent.specs.row_words.Moments.{Moment, pager}
use Rattle.btree_descent.specs.row_words.Openings.{opening}
use Rattle.btree_descent.specs.row_words.Words.{framed, is_inner}
use Rattle.btree_descent.specs.row_words.declared.event.Event.TheVariants.{Miss}
use Rattle.btree_descent.specs.row_words.declared.given.Given.{Given}
use Rattle.btree_descent.specs.rows_trait.declared.view.View.{View}
use Rattle.btree_descent.specs.rows_trait.Causes.{HasFound}
use Rattle.btree_descent.specs.rows_trait.Turns.{Ran}
use Rattle.btree_descent.specs.rows_trait.Views.{Shape, after_all, latest, may, state}
use Rattle.btree_descent.proofs.rows_trait.Causes.{found_before}
use Rattle.btree_descent.proofs.rows_trait.Runs.{ran_append}
use Rattle.btree_descent.specs.version_latch.declared.glimpse.Latched.{Latched}
use Rattle.btree_descent.specs.version_latch.declared.glimpse.Moved.{Moved}
use Rattle.btree_descent.proofs.version_latch.Keeping.{may_ran}
use Rattle.btree_descent.specs.Descents.{Sized}
use Rattle.btree_descent.specs.Known.{IsSound, Sound}
use Rattle.btree_descent.proofs.Calls.{sound_after}
use Rattle.btree_descent.specs.lean_proto.Still.{EveryStood, IsStill, Stood}
use Rattle.row_image.specs.declared.refusal.Unseen.TheVariants as unseen
use Rattle.row_image.specs.declared.sight.Sight.{Sight}
use Rattle.row_image.specs.Hot.{IsBare, IsHotIn, StandsIn}
use Rattle.row_image.specs.Images.{IsMissed}
use Rattle.row_image.specs.Looks.{Watched}
use Rattle.row_image.specs.Sights.{HasHotChild, HasNone, IsSight}
use Rattle.row_image.proofs.Watching.{watched_none, watched_shape, watched_then}
use Rattle.page_provider.specs.declared.refusal.Refusal.{Refusal}
use Rattle.page_provider.specs.declared.refusal.Refusal.TheVariants as refusal
use Rattle.page_provider.specs.Cools.{Hangs}
use Rattle.page_provider.specs.Finds.{Candidate, HasCandidate, HasNaming, IsChildless, Naming, NoneNames}
use Rattle.page_provider.specs.Inside.{Missed}
use Rattle.page_provider.proofs.Keeping.{plays}
use Rattle.page_provider.proofs.Loaded.{caused_before, latched_loaded, moved_loaded}
use Rattle.page_provider.proofs.Standing.{ran_state}

-- ## A look that was refused

module _ {z : Shape} {v w : View} where
  pub unseen_moved : {m : Moved} → IsMissed z.alone pager v (unseen.Moved m) w → w.held ≡ v.held → (z.alone ≡ true → v.held ≡ [] → ⊥) → Missed z v (refusal.Moved m) w
  unseen_moved i held quiet = record { misses = Miss pager ∷ []; few = tt; ran = i.ran; held = held; kind = tt; cause = moved_loaded i.cause; quiet = λ alone none _. quiet alone none }

  pub unseen_latched : {l : Latched} → IsMissed z.alone pager v (unseen.Latched l) w → w.held ≡ v.held → (z.alone ≡ true → v.held ≡ [] → ⊥) → Missed z v (refusal.Latched l) w
  unseen_latched i held quiet = record { misses = Miss pager ∷ []; few = tt; ran = i.ran; held = held; kind = tt; cause = latched_loaded i.cause; quiet = λ alone none _. quiet alone none }

-- ## Several looks

pub missed_before : {z y : Shape} {v u w : View} {why : Refusal} → y ≡ z → Watched z.alone v u → Missed y u why w → Missed z v why w
missed_before {z = z} {v = v} {u = u} {w = w} {why = why} same k n =
    let m : Missed z u why w = subst (λ (s : Shape). Missed s u why w) same n in
    record {
      misses = m.misses;
      few = m.few;
      ran = ran_append z.alone v [] u m.misses w k.ran m.ran;
      held = m.held ∙ k.held;
      kind = m.kind;
      cause = caused_before w why k.ran.since m.cause;
      quiet = λ alone none other. m.quiet alone (k.held ∙ none) other;
    }

-- a sight of a later look is one since an earlier view
pub sight_since : {alone : Bool} {row : ℕ} {v u w : View} {s : Sight} → Watched alone v u → IsSight alone row u s w → IsSight alone s.glimpse.row v s w
sight_since {alone = alone} {v = v} {u = u} {w = w} {s = s} k i = record {
  ran = ran_append alone v [] u [] w k.ran i.ran;
  of_row = refl;
  found = found_before s.glimpse.row s.glimpse.version v u w k.loads (subst (λ q. HasFound q s.glimpse.version u w) (sym i.of_row) i.found);
  stands = subst (λ q. StandsIn w.given (state w) q s.node) (sym i.of_row) i.stands;
  known = i.known;
  last = ap (λ q. latest q w.steps) i.of_row ∙ i.last;
}

-- ## What is known of places

-- where nobody else steps nothing has changed
pub state_same : {alone : Bool} {v u : View} → Ran alone v [] u → alone ≡ true → state u ≡ state v
state_same {v = v} r only = ran_state r ∙ ap (λ es. after_all v.given (v.seen ++ es)) (r.all only) ∙ ap (after_all v.given) (append-nil v.seen)

pub stood_ran : (z : Shape) {v u : View} → EveryStood → may z.alone v pager ≡ true → Ran z.alone v [] u → Stood v u
stood_ran z {v = v} {u = u} every m r = every z v u [] (still z.alone m) r
  where
    still : (alone : Bool) → may alone v pager ≡ true → IsStill alone v []
    still true m = refl
    still false m = (plays false v m refl, refl)

pub hot_in : {x : Place} {f : ℕ} → x ≡ Place.Hot f → in_frame x f ≡ true
hot_in {f = f} e = ap (λ y. in_frame y f) e ∙ eq-eqb f f refl

hot_is : (x : Place) (f : ℕ) → is_hot x ≡ true → in_frame x f ≡ true → x ≡ Place.Hot f
hot_is (Place.Hot h) f a b = ap Place.Hot (eqb-true h f b)
hot_is (Place.Cooling h e w) f a b = absurd (true≢false (sym a))
hot_is Place.Cold f a b = absurd (true≢false (sym a))

-- a page that stands hot in a frame stood there before
pub hot_before : {v u : View} (p f : ℕ) → Stood v u → (state u).core.place p ≡ Place.Hot f → (state v).core.place p ≡ Place.Hot f
hot_before {v = v} p f st e = hot_is ((state v).core.place p) f (sym (st.hot p) ∙ ap is_hot e) (sym (st.frame p f) ∙ hot_in e)

pub sound_still : (v u : View) → u.given ≡ v.given → IsSound v.given → IsSound u.given
sound_still v u same s = subst IsSound (sym same) s

-- no two pages stand in one frame
pub one_page : {g : Given} {m : Moment} {p q f : ℕ} → Sound g m → m.core.place p ≡ Place.Hot f → m.core.place q ≡ Place.Hot f → p ≡ q
one_page {p = p} {q = q} {f = f} s a b = s.residence.one p q f (hot_in a) (hot_in b)

-- ## The frame of a page

-- the page stands hot in no frame below this one
pub record Passed (z : Shape) (v : View) (page frame : ℕ) (u : View) : Type 0 where
  pub watched : Watched z.alone v u
  pub none : (f : ℕ) → f < frame → (state u).core.place page ≡ Place.Hot f → ⊥

pub passed_none : (z : Shape) (v : View) (page : ℕ) → Passed z v page 0 v
passed_none z v page = record { watched = watched_none z.alone v; none = λ f lt e. absurd (omega arith) }

pub passed_next : {z y : Shape} {v u w : View} {page frame : ℕ} → EveryStood → may z.alone v pager ≡ true → Passed z v page frame u → y ≡ z → Watched y.alone u w → ((state w).core.place page ≡ Place.Hot frame → ⊥) → Passed z v page (frame + 1) w
passed_next {z = z} {v = v} {u = u} {w = w} {page = page} {frame = frame} every m p same k here =
    let j : Watched z.alone u w = watched_shape same k in
    let st = stood_ran z every (may_ran z.alone v u [] pager p.watched.ran m) j.ran in
    record { watched = watched_then p.watched j; none = below_more (λ f. (state w).core.place page ≡ Place.Hot f → ⊥) frame (λ f lt e. p.none f lt (hot_before page f st e)) here }

-- another page stands there, or none
pub other_here : (v w : View) {page frame : ℕ} {n : stored.Page} → IsSound v.given → w.given ≡ v.given → StandsIn w.given (state w) frame n → (n.number ≡ page → ⊥) → (state w).core.place page ≡ Place.Hot frame → ⊥
other_here v w sound given s ne e = ne (one_page (sound_after v w given sound) s.stands.hot e)

pub none_here : (v w : View) {page frame : ℕ} → page < (opening v.given).format.pages → w.given ≡ v.given → IsBare w.given (state w) frame → (state w).core.place page ≡ Place.Hot frame → ⊥
none_here v w {page = page} below given bare e = bare page (record { below = subst (λ (g : Given). page < (opening g).format.pages) (sym given) below; hot = e })

pub stands_nowhere : {z : Shape} {v u : View} {page frames n : ℕ} → frames ≤ n → Sized z v frames → IsSound v.given → Passed z v page n u → is_hot ((state u).core.place page) ≡ false
stands_nowhere {z = z} {v = v} {u = u} {page = page} {frames = frames} {n = n} all sized sound p = go ((state u).core.place page) refl
  where
    within : (f : ℕ) → (state u).core.place page ≡ Place.Hot f → f < frames
    within f e = subst (λ n. f < n) (ap (λ (g : Given). (opening g).frames) p.watched.ran.given ∙ sized.given) ((sound_after v u p.watched.ran.given sound).residence.within page f (hot_in e)).1

    go : (x : Place) → (state u).core.place page ≡ x → is_hot x ≡ false
    go (Place.Hot f) e = let lt = within f e in absurd (p.none f (omega arith) e)
    go (Place.Cooling f d w) e = refl
    go Place.Cold e = refl

-- ## A node that names a page

pub none_named : (v w : View) {frame word : ℕ} {s : stored.Page} → IsSound v.given → w.given ≡ v.given → StandsIn w.given (state w) frame s → HasNone s word → (n : stored.Page) → StandsIn w.given (state w) frame n → HasNone n word
none_named v w {frame = frame} {word = word} {s = s} sound given a none n b =
    let same : n.number ≡ s.number = one_page (sound_after v w given sound) b.stands.hot a.stands.hot in
    let node : n.node ≡ s.node = ap (λ (x : stored.Page). x.node) b.page ∙ (ap (λ p. framed (state w).core.place ((state w).core.page p).node) same ∙ sym (ap (λ (x : stored.Page). x.node) a.page)) in
    subst (λ (x : Node). is_inner x ≡ true → (j : ℕ) → j < length x.pairs → word_at j x.pairs ≢ word) (sym node) none

-- no node in a frame below this one names the page, where nobody else steps
pub record Unnamed (z : Shape) (v : View) (word frame : ℕ) (u : View) : Type 0 where
  pub watched : Watched z.alone v u
  pub none : z.alone ≡ true → NoneNames frame word u

pub unnamed_none : (z : Shape) (v : View) (word : ℕ) → Unnamed z v word 0 v
unnamed_none z v word = record { watched = watched_none z.alone v; none = λ only f n lt s. absurd (omega arith) }

pub unnamed_next : {z y : Shape} {v u w : View} {word frame : ℕ} → Unnamed z v word frame u → y ≡ z → Watched y.alone u w → ((n : stored.Page) → StandsIn w.given (state w) frame n → HasNone n word) → Unnamed z v word (frame + 1) w
unnamed_next {z = z} {v = v} {u = u} {w = w} {word = word} {frame = frame} p same k here =
    let j : Watched z.alone u w = watched_shape same k in
    record {
      watched = watched_then p.watched j;
      none = λ only f n lt s. below_more (λ f. (n : stored.Page) → StandsIn w.given (state w) f n → HasNone n word) frame
          (λ f below n s. p.none only f n below (subst (λ (q : Given × Moment). StandsIn q.0 q.1 f n) (λ i. (j.ran.given i, state_same j.ran only i)) s)) here f lt n s;
    }

pub naming_since : {z y : Shape} {v u w : View} {word at : ℕ} {s : Sight} → y ≡ z → Watched z.alone v u → HasNaming y u word s at w → HasNaming z v word s at w
naming_since {z = z} {u = u} {w = w} {word = word} {at = at} {s = s} same k n =
    let m : HasNaming z u word s at w = subst (λ (q : Shape). HasNaming q u word s at w) same n in
    record { sight = sight_since k m.sight; pair = m.pair }

pub naming_before : {z y : Shape} {v u : View} (frames word : ℕ) (w : View) (o : Option (Sight × ℕ)) → y ≡ z → Watched z.alone v u → Naming y u frames word o w → Naming z v frames word o w
naming_before frames word w (Some x) same k h = naming_since same k h
naming_before {z = z} {y = y} {v = v} {u = u} frames word w None same k h =
    let n = subst (λ (q : Shape). Naming q u frames word None w) same h in
    (ran_append z.alone v [] u [] w k.ran n.0, n.1)

-- ## A page that can be cooled

-- one child more
pub hangs_more : (s : State) (p : ℕ) (cs : List ℕ) (q c : ℕ) → Hangs s p cs q → names_page (s.page q).node c ≡ true → is_hot (s.place c) ≡ true → Hangs s p (cs ++ c ∷ []) c
hangs_more s p [] q c h n t = (subst (λ x. names_page (s.page x).node c ≡ true) (sym h) n, t, refl)
hangs_more s p (x ∷ xs) q c h n t = (h.0, h.1, hangs_more s x xs q c h.2 n t)

-- from page q so many steps down to the page in a frame
pub record Down (s : State) (q at n : ℕ) : Type 0 where
  pub chain : List ℕ
  pub page : ℕ
  pub hangs : Hangs s q chain page
  pub hot : s.place page ≡ Place.Hot at
  pub low : (s.page page).node.level + n ≤ 7

pub record Descended (z : Shape) (v : View) (frame frames at n : ℕ) (u : View) : Type 0 where
  pub watched : Watched z.alone v u
  pub within : at < frames
  pub down : z.alone ≡ true → (q : ℕ) → IsHotIn u.given (state u) frame q → Down (state u).core q at n

level_low : {f : Format} {x : Node} → f.levels ≡ 7 → WellFormed f x → x.level ≤ 7
level_low {f = f} {x = x} seven ok = go x.live refl
  where
    go : (b : Bool) → x.live ≡ b → x.level ≤ 7
    go true e = let a = (ok.node e).tall in omega arith
    go false e = let a = ap (λ (y : Node). y.level) (ok.other e) in omega arith

pub descended_none : {z : Shape} {v : View} {frame frames : ℕ} → IsSound v.given → frame < frames → Descended z v frame frames frame 0 v
descended_none {z = z} {v = v} sound lt = record {
  watched = watched_none z.alone v;
  within = lt;
  down = λ only q h. let a = level_low {f = (opening v.given).format} refl ((sound v.seen).tree.formed q h.below) in record { chain = []; page = q; hangs = refl; hot = h.hot; low = omega arith };
}

module _ {z y : Shape} {v u w : View} {frame frames at n : ℕ} (d : Descended z v frame frames at n u) (same : y ≡ z) (sound : IsSound v.given) where
  -- the same way behind a look
  pub down_after : Ran z.alone u [] w → z.alone ≡ true → (q : ℕ) → IsHotIn w.given (state w) frame q → Down (state w).core q at n
  down_after r only q h =
      let e = state_same r only in
      subst (λ (m : Moment). Down m.core q at n) (sym e) (d.down only q (subst (λ (x : Given × Moment). IsHotIn x.0 x.1 frame q) (λ i. (r.given i, e i)) h))

  sound_then : Ran z.alone u [] w → Sound w.given (state w)
  sound_then r = sound_after v w (r.given ∙ d.watched.ran.given) sound

  pub descended_next : {s : Sight} {child : ℕ} → Sized z v frames → Watched y.alone u w → IsSight y.alone at u s w → ((g : Given) (m : Moment) → Sound g m → StandsIn g m s.glimpse.row s.node → HasHotChild g m s.node.number child) → Descended z v frame frames child (n + 1) w
  descended_next {s} {child} sized k i hot =
      let j : Watched z.alone u w = watched_shape same k in
      let here = subst (λ q. StandsIn w.given (state w) q s.node) (sym i.of_row) i.stands in
      let c = hot w.given (state w) (sound_then j.ran) here in
      record {
        watched = watched_then d.watched j;
        within = subst (λ m. child < m) (ap (λ (g : Given). (opening g).frames) (j.ran.given ∙ d.watched.ran.given) ∙ sized.given) c.within;
        down = λ only q h.
            let o = down_after j.ran only q h in
            let is : s.node.number ≡ o.page = one_page (sound_then j.ran) i.stands.stands.hot o.hot in
            let name : names_page ((state w).core.page o.page).node c.page ≡ true = subst (λ p. names_page ((state w).core.page p).node c.page ≡ true) is c.names in
            let lower : suc ((state w).core.page c.page).node.level ≡ ((state w).core.page o.page).node.level = c.lower ∙ ap (λ p. ((state w).core.page p).node.level) is in
            let low = o.low in
            record { chain = o.chain ++ c.page ∷ []; page = c.page; hangs = hangs_more (state w).core q o.chain o.page c.page o.hangs name (ap is_hot c.hot); hot = c.hot; low = omega arith };
      }

  pub candidate_found : {s : Sight} → Watched y.alone u w → IsSight y.alone at u s w → IsChildless s → HasCandidate z v frame s w
  candidate_found {s} k i none =
      let j : Watched z.alone u w = watched_shape same k in
      let t : IsSight z.alone at u s w = subst (λ (x : Shape). IsSight x.alone at u s w) same i in
      record {
        sight = sight_since d.watched t;
        childless = none;
        hangs = λ only q h.
            let o = down_after j.ran only q h in
            let is : o.page ≡ s.node.number = one_page (sound_then j.ran) o.hot i.stands.stands.hot in
            (o.chain, subst (λ p. Hangs (state w).core q o.chain p) is o.hangs);
      }

  pub candidate_bare : Ran y.alone u [] w → IsBare w.given (state w) at → Candidate z v frame None w
  candidate_bare r bare =
      let j : Ran z.alone u [] w = subst (λ (x : Shape). Ran x.alone u [] w) same r in (
        ran_append z.alone v [] u [] w d.watched.ran j,
        λ only q h.
            let o = down_after j only q h in
            bare o.page (record { below = ((sound_then j).residence.within o.page at (hot_in o.hot)).0; hot = o.hot }),
      )

-- no page has as many levels below it
pub candidate_deep : {z : Shape} {v u : View} {frame frames at n : ℕ} → 8 ≤ n → Descended z v frame frames at n u → Candidate z v frame None u
candidate_deep deep d = (d.watched.ran, λ only q h. let low = (d.down only q h).low in omega arith)
