-- The node that names a page: as it was found, as it is latched, and that there is none.
use Rattle.std.proofs.Common.{◌≡◌, ◌≢◌, ◌<◌, ◌≤◌, ◌^◌, ◌==◌, ◌&&◌, ◌||◌, not, ltb, ℕ, zero, suc, Bool, true, false, List, [], ◌∷◌, ◌++◌, length, Some, inl, inr, refl, sym, ap, subst, ◌∙◌, arith, true≢false}
use Rattle.std.proofs.lemmas.Bool.{and_from, eq-eqb, eqb-true, lt-ltb}
use Rattle.page_model.specs.Check.{names_page}
use Rattle.page_model.specs.Limits.{frame_bit}
use Rattle.page_model.specs.Page.{word_at}
use Rattle.page_model.specs.Page as stored
use Rattle.page_model.specs.Pairs as pairs
use Rattle.btree_descent.specs.core_state.Lists.{all_below}
use Rattle.btree_descent.specs.core_state.Openings.{Opening}
use Rattle.btree_descent.specs.core_state.States.{State, frame_of, in_frame, is_hot}
use Rattle.btree_descent.specs.core_state.Needs.{has_hot_parent, is_empty_frame}
use Rattle.btree_descent.specs.row_words.declared.given.Given.{Given}
use Rattle.btree_descent.specs.row_words.Openings.{opening}
use Rattle.btree_descent.specs.row_words.Words.{framed_page}
use Rattle.btree_descent.proofs.row_words.Stays.{and_true}
use Rattle.btree_descent.specs.rows_trait.declared.view.View.{View}
use Rattle.btree_descent.specs.rows_trait.Views.{Shape, state}
use Rattle.btree_descent.specs.rows_trait.Turns.{Ran}
use Rattle.btree_descent.proofs.rows_trait.Runs.{ran_append}
use Rattle.btree_descent.specs.Known.{IsSound}
use Rattle.btree_descent.proofs.lean_proto.Loads.{names_from}
use Rattle.cooling_stage.specs.declared.stage.Cooling.{Cooling}
use Rattle.cooling_stage.specs.Queue.{found}
use Rattle.page_moves.specs.Moves.{CanFill, CanRelink, HasLink}
use Rattle.page_moves.proofs.Links.{Linked, sole}
use Rattle.row_image.specs.declared.sight.Sight.{Sight}
use Rattle.row_image.specs.Hot.{StandsIn}
use Rattle.row_image.specs.Sights.{IsFirst, NamesAt}
use Rattle.page_provider.specs.Comes.{CanCome}
use Rattle.page_provider.specs.Cools.{Idle}
use Rattle.page_provider.specs.Finds.{Halts, HasNaming, IsSeen, NoneNames, SinceFound, Stopped, TakesWith}
use Rattle.page_provider.specs.Laws.{RowLaws}
use Rattle.page_provider.specs.Providers.{Provider, Keeps}
use Rattle.page_provider.specs.declared.refusal.Refusal.{Refusal}
use Rattle.page_provider.proofs.Sightings.{state_same}
use Rattle.page_provider.proofs.Coming.{come_on, cool_hot, empty_is, entry_is, frame_hot, hot_parents, load_met, parent_same, place_hot, ran_met, rescue_met}
use Rattle.page_provider.proofs.Keeping.{keeps_ran, plays, ran_stood}
use Rattle.page_provider.proofs.Outcomes.{is_pager}
use Rattle.page_provider.proofs.Standing.{onward, ran_state}

-- ## Pages below a number

all_at : (n : ℕ) (f : ℕ → Bool) → all_below n f ≡ true → (q : ℕ) → q < n → f q ≡ true
all_at zero f h q l = absurd (omega arith)
all_at (suc n) f h q l = let a = and_true (f n) (all_below n f) h in go (λ k. all_at n f a.1 q k) a.0 (q == n) refl
  where
    go : (q < n → f q ≡ true) → f n ≡ true → (b : Bool) → (q == n) ≡ b → f q ≡ true
    go rest last true e = ap f (eqb-true q n e) ∙ last
    go rest last false e = let ne : q ≢ n = (λ s. absurd (true≢false (sym (eq-eqb q n s) ∙ e))) in rest (omega arith)

-- a page that names one with hot parents is hot
parent_hot : (g : Opening) (s : State) (p : ℕ) → has_hot_parent g s p ≡ true → (q : ℕ) → q < g.format.pages → names_page (s.page q).node p ≡ true → is_hot (s.place q) ≡ true
parent_hot g s p h q l n = sym (ap (λ b. not b || is_hot (s.place q)) n) ∙ all_at g.format.pages (λ q. not (names_page (s.page q).node p) || is_hot (s.place q)) h q l

-- no page stands in an empty frame
none_in : (g : Opening) (s : State) (f q : ℕ) → is_empty_frame g s f ≡ true → q < g.format.pages → in_frame (s.place q) f ≡ true → ⊥
none_in g s f q h l i = true≢false (sym (all_at g.format.pages (λ p. not (in_frame (s.place p) f)) h q l) ∙ ap not i)

-- ## The pair that names a page

link : {v : View} {a at p : ℕ} {n : stored.Page} → RowLaws → IsSound v.given → StandsIn v.given (state v) a n → IsFirst n p at → p < frame_bit → HasLink v a at p
link {v} {a} {at} {p} {n} laws sound st f low =
    let q = ((laws.pairs v.given (state v) a n (sound v.seen) st).cold at p f.inner f.short f.word_is low).0 in
    record { parent = n.number; below = st.stands.below; hot = st.stands.hot; inner = q.inner; short = q.short; names = q.names }

-- it stands in the row
link_in : {v : View} {a at p : ℕ} → (l : HasLink v a at p) → in_frame ((state v).core.place l.parent) a ≡ true
link_in {a = a} l = ap (λ x. in_frame x a) l.hot ∙ eq-eqb a a refl

link_within : {v : View} {a at p : ℕ} → IsSound v.given → HasLink v a at p → a < (opening v.given).frames
link_within {v = v} {a = a} sound l = ((sound v.seen).residence.within l.parent a (link_in l)).1

-- so each page that names it is hot, since there is one
link_hot : {v : View} {a at p : ℕ} → IsSound v.given → HasLink v a at p → p < (opening v.given).format.pages → is_hot ((state v).core.place p) ≡ false → has_hot_parent (opening v.given) (state v).core p ≡ true
link_hot {v} {a} {at} {p} sound l below off =
    let hot : is_hot ((state v).core.place l.parent) ≡ true = ap is_hot l.hot in
    let k : Linked v.given (state v) a at p l.parent = record {
      tree = (sound v.seen).tree;
      places = (sound v.seen).residence;
      below_q = l.below;
      below_p = below;
      in_a = link_in l;
      inner = l.inner;
      short = l.short;
      names = l.names;
      other = other l.parent hot (p == l.parent) refl;
    } in
    hot_parents (opening v.given) (state v).core p (λ o few n. ap (λ x. is_hot ((state v).core.place x)) (sole v.given (state v) a at p l.parent k o few n) ∙ hot)
  where
    other : (q : ℕ) → is_hot ((state v).core.place q) ≡ true → (b : Bool) → (p == q) ≡ b → b ≡ false
    other q hot true e = absurd (true≢false (sym hot ∙ (ap (λ x. is_hot ((state v).core.place x)) (sym (eqb-true p q e)) ∙ off)))
    other q hot false e = refl

-- ## As it was found

pub named_keeps : {z : Shape} {v u : View} {k : Provider} {word at : ℕ} {s : Sight} → RowLaws → Keeps z v k → HasNaming z v word s at u → Keeps z u k
named_keeps laws c n = keeps_ran laws.stood laws.standing tt n.sight.ran c

pub named_seen : {z : Shape} {v u : View} {k : Provider} {word at : ℕ} {s : Sight} → RowLaws → Keeps z v k → HasNaming z v word s at u → IsSeen z s u
named_seen {z} {v} {u} {k} {word} {at} {s} laws c n =
    let now = named_keeps laws c n in
    let row = s.glimpse.row in
    let here : in_frame ((state u).core.place s.node.number) row ≡ true = ap (λ x. in_frame x row) n.sight.stands.stands.hot ∙ eq-eqb row row refl in
    let low = ((now.sound u.seen).residence.within s.node.number row here).1 in
    let a = now.sized.shape in
    let b = now.sized.given in
    record { inside = omega arith; frame = low; known = n.sight.known; last = λ alone. n.sight.last }

-- a frame of rows, as the calls take it
pub frame_fits : {z y : Shape} {v : View} {k : Provider} {f : ℕ} → y ≡ z → Keeps z v k → f < (opening v.given).frames → (f < y.sizes.frames) × (f < (opening v.given).frames)
frame_fits {v = v} {f = f} same c low =
    let a = c.sized.shape in
    let b = c.sized.given in
    let d = ap (λ (s : Shape). s.sizes.frames) same in
    (omega arith, low)

-- it stands in another row than a page that cools
pub named_apart : {z : Shape} {v u : View} {k : Provider} {word at : ℕ} {s : Sight} {entry : Cooling} → RowLaws → Keeps z v k → HasNaming z v word s at u → found entry.page k.queue ≡ Some entry → s.glimpse.row ≢ entry.frame
named_apart {u = u} {s = s} {entry = entry} laws c n there e =
    let now = named_keeps laws c n in
    let x = entry_is laws now there in
    let hot = n.sight.stands.stands.hot in
    let here : in_frame ((state u).core.place s.node.number) entry.frame ≡ true = ap (λ x. in_frame x entry.frame) hot ∙ eq-eqb s.glimpse.row entry.frame e in
    let same : s.node.number ≡ entry.page = (now.sound u.seen).residence.one s.node.number entry.page entry.frame here x.here in
    true≢false (sym (ap is_hot hot) ∙ (ap (λ p. is_hot ((state u).core.place p)) same ∙ cool_hot ((state u).core.place entry.page) x.cooling))

-- and than an empty one
pub named_off : {z : Shape} {v u : View} {k : Provider} {word at page frame : ℕ} {s : Sight} {m : stored.Page} → RowLaws → Keeps z v k → HasNaming z v word s at u → CanCome v k page frame m → s.glimpse.row ≢ frame
named_off {u = u} {frame = frame} {s = s} laws c n come e =
    let now = named_keeps laws c n in
    let hot = n.sight.stands.stands.hot in
    let here : in_frame ((state u).core.place s.node.number) frame ≡ true = ap (λ x. in_frame x frame) hot ∙ eq-eqb s.glimpse.row frame e in
    none_in (opening u.given) (state u).core frame s.node.number (empty_is now (come_on laws c come n.sight.ran)).1 n.sight.stands.stands.below here

-- the call stopped behind that
pub halts_stopped : {z y : Shape} {v u w : View} {word at : ℕ} {s : Sight} {why : Refusal} → y ≡ z → HasNaming z v word s at u → Stopped 2 y u why w → SinceFound s u why w → Halts 2 z v why w
halts_stopped {z} {y} {v} {u} {w} {word} {at} {s} {why} same n x since =
    let t = subst (λ (q : Shape). Stopped 2 q u why w) same x in
    record {
      stopped = record {
        missed = record { events = t.missed.events; ran = ran_append z.alone v [] u t.missed.events w n.sight.ran t.missed.ran; misses = t.missed.misses; few = t.missed.few };
        held = t.held;
        kind = t.kind;
        quiet = t.quiet;
      };
      cause = since v n.sight.found;
    }

-- ## As it is latched

pub record IsLinked (z : Shape) (v t : View) (a at p : ℕ) : Type 0 where
  pub ran : Ran z.alone v [] t
  pub link_is : HasLink t a at p
  pub within : a < (opening t.given).frames
  pub parent : has_hot_parent (opening t.given) (state t).core p ≡ true
  pub before : has_hot_parent (opening v.given) (state v).core p ≡ true

pub linked : {z y : Shape} {v u t : View} {k : Provider} {word at row p : ℕ} {s : Sight} → RowLaws → Keeps z v k → y ≡ z → p < (opening v.given).format.pages → is_hot ((state v).core.place p) ≡ false → word ≡ p → HasNaming z v word s at u → TakesWith y s row u t → IsLinked z v t s.glimpse.row at p
linked {z} {y} {v} {u} {t} {k} {word} {at} {row} {p} {s} laws c same below off is n w =
    let x = subst (λ (q : Shape). TakesWith q s row u t) same w in
    let r = ran_append z.alone v [] u [] t n.sight.ran x.ran in
    let now = keeps_ran laws.stood laws.standing tt r c in
    let st = ran_stood laws.stood c tt r in
    let few = (c.sound v.seen).few in
    let low : p < frame_bit = omega arith in
    let l = link laws now.sound x.first (subst (λ i. IsFirst s.node i at) is n.pair) low in
    let here = subst (λ (g : Given). p < (opening g).format.pages) (sym r.given) below in
    let hot = link_hot now.sound l here (st.hot p ∙ off) in
    record {
      ran = r;
      link_is = l;
      within = link_within now.sound l;
      parent = hot;
      before = sym (parent_same st (opening v.given) p) ∙ subst (λ (g : Given). has_hot_parent (opening g) (state t).core p ≡ true) r.given hot;
    }

-- a row's number has not the bit
row_few : {z : Shape} {t : View} {k : Provider} {a : ℕ} → Keeps z t k → k.frames < 4294967296 → a < (opening t.given).frames → a < frame_bit
row_few c small low = let b = c.sized.given in omega arith

pub can_relink : {z y : Shape} {v t : View} {k : Provider} {entry : Cooling} {a b at row : ℕ} → RowLaws → Keeps z v k → k.frames < 4294967296 → found entry.page k.queue ≡ Some entry → IsLinked z v t row at entry.page → y ≡ z → a ≡ row → b ≡ entry.frame → CanRelink y t a b at entry.page
can_relink {z} {y} {v} {t} {k} {entry} {a} {b} {at} {row} laws c small there l shape above place =
    let now = keeps_ran laws.stood laws.standing tt l.ran c in
    let x = entry_is laws now there in
    subst (λ (s : Shape × ℕ × ℕ). CanRelink s.0 t s.1 s.2 at entry.page) (λ i. (sym shape i, sym above i, sym place i)) (record {
      on = is_pager now;
      link = l.link_is;
      here = record { below = x.below; stands = x.here };
      met = rescue_met (opening t.given) (state t).core entry.page x.cooling l.parent;
      few = row_few now small l.within;
    })

pub can_fill : {z y : Shape} {v t : View} {k : Provider} {page frame a b at row : ℕ} {n : stored.Page} → RowLaws → Keeps z v k → k.frames < 4294967296 → CanCome v k page frame n → IsLinked z v t row at page → y ≡ z → a ≡ row → b ≡ frame → CanFill y t a b at page n
can_fill {z} {y} {v} {t} {k} {page} {frame} {a} {b} {at} {row} {n} laws c small come l shape above place =
    let now = keeps_ran laws.stood laws.standing tt l.ran c in
    let m = come_on laws c come l.ran in
    let room = empty_is now m in
    subst (λ (s : Shape × ℕ × ℕ). CanFill s.0 t s.1 s.2 at page n) (λ i. (sym shape i, sym above i, sym place i)) (record {
      on = is_pager now;
      link = l.link_is;
      below = m.below;
      met = load_met (opening t.given) (state t).core page frame m.below room.0 m.cold l.parent room.1;
      number_is = m.number_is;
      contents = m.contents;
      few = row_few now small l.within;
    })

-- ## None

-- the seat has seen no more, where nobody else steps
alone_state : {alone : Bool} {v u : View} → alone ≡ true → Ran alone v [] u → state u ≡ state v
alone_state {v = v} alone r = ran_state r ∙ (ap (λ es. state (onward v es)) (r.all alone) ∙ ap (λ es. state (record v { seen = es })) (Rattle.std.proofs.Common.append-nil v.seen))

pub idle_ran : {z : Shape} {v u : View} {k : Provider} → RowLaws → Keeps z v k → Ran z.alone v [] u → u.held ≡ [] → Idle z v k u k
idle_ran {z} {v} {u} {k} laws c r none = record {
  moved = record {
    events = [];
    goes = record { ran = r; held = none; keeps = keeps_ran laws.stood laws.standing tt r c };
    pagers = tt;
    ticked = tt;
    few = omega arith;
    met = ran_met r (plays z.alone v c.actor);
    same = record { frames = refl; workers = refl; generation = refl };
  };
  events_are = refl;
  memory = refl;
  rested = let st = ran_stood laws.stood c tt r in record {
    cold = λ p h. st.cold p ∙ h;
    saved = λ p h. st.saved p;
    pages = λ alone p. ap (λ m. m.core.page p) (alone_state alone r);
  };
}

-- the place of a pair
record IsAt (xs : List pairs.Pair) (child : ℕ) : Type 0 where
  pub at : ℕ
  pub short : at < length xs
  pub is : word_at at xs ≡ child

span_at : (xs : List pairs.Pair) (high : ℕ) (s : pairs.Span) → pairs.Has s (pairs.spans xs high) → IsAt xs s.child
span_at [] high s h = absurd h
span_at (x ∷ xs) high s h = elim h [
  | inl e ↦ record { at = 0; short = omega arith; is = sym (ap (λ (t : pairs.Span). t.child) e) }
  | inr k ↦ let o = span_at xs high s k in let l = o.short in record { at = suc o.at; short = omega arith; is = o.is }
]

-- a page that no node in a frame names has a parent that is in none
none_hot : (v : View) {frames p : ℕ} → RowLaws → IsSound v.given → frames ≡ (opening v.given).frames → p < (opening v.given).format.pages → is_hot ((state v).core.place p) ≡ false → ((state v).core.page p).node.live ≡ true → NoneNames frames p v → has_hot_parent (opening v.given) (state v).core p ≡ false
none_hot v {frames} {p} laws sound many below off live none = go (has_hot_parent (opening v.given) (state v).core p) refl
  where
    go : (b : Bool) → has_hot_parent (opening v.given) (state v).core p ≡ b → b ≡ false
    go false e = refl
    go true e =
        let s = sound v.seen in
        let o = s.tree.up p below live (λ z. true≢false (sym (ap is_hot s.residence.root) ∙ (ap (λ q. is_hot ((state v).core.place q)) (sym z) ∙ off))) in
        let q = o.page in
        let x = (state v).core.place q in
        let hot = parent_hot (opening v.given) (state v).core p e q o.below (names_from ((state v).core.page q).node o.span p o.names o.child) in
        let in_f = frame_hot x hot in
        let f = frame_of x in
        let n = framed_page (state v).core q 0 in
        let st : StandsIn v.given (state v) f n = record { stands = record { below = o.below; hot = place_hot x f hot in_f }; page = refl } in
        let i = span_at ((state v).core.page q).node.pairs ((state v).core.page q).node.high o.span o.names.has in
        let a : NamesAt (state v) q i.at p = record { inner = and_from ((state v).core.page q).node.live (ltb 0 ((state v).core.page q).node.level) o.names.live (lt-ltb 0 ((state v).core.page q).node.level o.names.inner); short = i.short; names = i.is ∙ o.child } in
        let w = (laws.pairs v.given (state v) f n s st).named_cold i.at p a off in
        absurd (none f n (subst (λ m. f < m) (sym many) (s.residence.within q f in_f).1) st w.0 i.at w.1 w.2)

-- so where none was found
pub none_comes : {z : Shape} {v u : View} {k : Provider} {frames word : ℕ} (p : ℕ) → RowLaws → Keeps z v k → v.held ≡ [] → p < (opening v.given).format.pages → is_hot ((state v).core.place p) ≡ false → ((state v).core.page p).node.live ≡ true → u.held ≡ v.held → frames ≡ k.frames → word ≡ p
    → Ran z.alone v [] u → (z.alone ≡ true → NoneNames frames word u) → Idle z v k u k × (k ≡ k) × (z.alone ≡ true → has_hot_parent (opening v.given) (state v).core p ≡ false)
none_comes {z} {v} {u} {k} {frames} {word} p laws c free below off live held many is r none =
    let now = keeps_ran laws.stood laws.standing tt r c in
    let st = ran_stood laws.stood c tt r in (
      idle_ran laws c r (held ∙ free),
      refl,
      λ alone.
          let h = none_hot u laws now.sound (many ∙ sym now.sized.given) (subst (λ (g : Given). p < (opening g).format.pages) (sym r.given) below) (st.hot p ∙ off) (ap (λ x. x.node.live) (st.page p off) ∙ live) (subst (λ w. NoneNames frames w u) is (none alone)) in
          sym (parent_same st (opening v.given) p) ∙ subst (λ (g : Given). has_hot_parent (opening g) (state u).core p ≡ false) r.given h,
    )

-- where nobody else steps, a page that some node names by its number has a hot parent
pub named_hot : {z : Shape} {v u : View} {k : Provider} {word at p : ℕ} {s : Sight} → RowLaws → Keeps z v k → p < (opening v.given).format.pages → is_hot ((state v).core.place p) ≡ false → word ≡ p → HasNaming z v word s at u → z.alone ≡ true
    → has_hot_parent (opening v.given) (state v).core p ≡ true
named_hot {z} {v} {u} {k} {word} {at} {p} {s} laws c below off is n alone =
    let r = n.sight.ran in
    let now = keeps_ran laws.stood laws.standing tt r c in
    let st = ran_stood laws.stood c tt r in
    let few = (c.sound v.seen).few in
    let low : p < frame_bit = omega arith in
    let l : HasLink u s.glimpse.row at p = link laws now.sound n.sight.stands (subst (λ i. IsFirst s.node i at) is n.pair) low in
    let here = subst (λ (g : Given). p < (opening g).format.pages) (sym r.given) below in
    let hot : has_hot_parent (opening u.given) (state u).core p ≡ true = link_hot now.sound l here (st.hot p ∙ off) in
    let same = state_same r alone in
    let given = r.given in
    (λ i. has_hot_parent (opening (sym given i)) (sym same i).core p) ∙ hot
