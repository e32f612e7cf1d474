-- What a purge has appended and staged, and what it leaves where nothing goes.
use Rattle.std.proofs.Common.{◌≡◌, ◌==◌, ltb, ◌<◌, ◌≤◌, ◌+◌, ◌%◌, ◌^◌, ◌⊎◌, inl, inr, ℕ, suc, Bool, true, false, List, [], ◌∷◌, ◌++◌, length, refl, sym, ap, subst, ◌∙◌, true≢false, arith}
use Rattle.std.specs.Prelude.{if◌then◌else◌}
use Rattle.std.proofs.lemmas.Bool.{cond-true, and_from, eq-eqb, lt-ltb}
use Rattle.map_model.specs.Lists.{Has}
use Rattle.map_model.proofs.ListLemmas.{upd_same}
use Rattle.page_model.specs.Nodes.{Node, is_leaf}
use Rattle.page_model.specs.Pairs.{Pair, is_in, find}
use Rattle.page_model.specs.Page as stored
use Rattle.page_model.specs.Records as records
use Rattle.page_model.specs.Redo.{all_keys}
use Rattle.disk_image.specs.image_model.Entries.{Entry, Kind, Contents}
use Rattle.btree_descent.specs.core_state.States.{Place, State, Worker, nodes_of, is_hot, flushed_by_all}
use Rattle.btree_descent.specs.core_state.Events as happening
use Rattle.btree_descent.specs.core_state.Needs as core
use Rattle.btree_descent.specs.core_state.Needs.{is_dead}
use Rattle.btree_descent.specs.core_state.Steps.{at_pages, happens, touch}
use Rattle.btree_descent.specs.row_words.declared.event.Event.{Event}
use Rattle.btree_descent.specs.row_words.declared.event.Event.TheVariants.{Purge}
use Rattle.btree_descent.specs.row_words.declared.given.Given.{Given}
use Rattle.btree_descent.specs.row_words.Moments.{Moment}
use Rattle.btree_descent.specs.row_words.Openings.{opening}
use Rattle.btree_descent.specs.row_words.Sealed.{begun, stepped}
use Rattle.btree_descent.specs.row_words.Words.{framed}
use Rattle.btree_descent.proofs.row_words.Frames.{framed_leaf, framed_level}
use Rattle.btree_descent.proofs.row_words.SealedLemmas.{run_append}
use Rattle.btree_descent.specs.rows_trait.declared.view.View.{View}
use Rattle.btree_descent.specs.rows_trait.Views.{Shape, Spells, AreApart, after_all, state, may}
use Rattle.btree_descent.specs.rows_trait.Turns.{Ran}
use Rattle.btree_descent.proofs.rows_trait.Runs.{ran_append}
use Rattle.btree_descent.proofs.rows_trait.EventLemmas.{apart_sync}
use Rattle.key_locks.specs.Rows.{Sized}
use Rattle.btree_descent.specs.lean_proto.Purges.{CanPurge, IsQuiet}
use Rattle.btree_descent.specs.lean_proto.Kept.{OwnKept}
use Rattle.btree_descent.proofs.lean_proto.Again.{Rest, again_purge}
use Rattle.btree_descent.proofs.lean_proto.Near.{SameNear}
use Rattle.btree_descent.proofs.lean_proto.Owns.{own_after}
use Rattle.btree_descent.proofs.lean_proto.Growing.{flushed_on}
use Rattle.btree_descent.proofs.lean_proto.Settling.{settled_on}
use Rattle.btree_descent.proofs.lean_proto.Steady.{every_purge}
use Rattle.disk_image.specs.log_record.declared.record.Record.{Record}
use Rattle.btree_descent.specs.draw_trait.Clocks.{Clock, touched, drawn}
use Rattle.disk_image.specs.Records.{entry_of}
use Rattle.btree_descent.specs.Puts.{DrawsFor, clock_in}
use Rattle.btree_smo.specs.declared.outcome.Outcome.{Outcome}
use Rattle.btree_smo.specs.declared.outcome.Outcome.TheVariants as outcome
use Rattle.btree_smo.specs.Outcomes.{MissedUpTo, WasSo, MayChange, IsSpentIn}
use Rattle.btree_smo.specs.Purges.{IsFloor, purge_entry, purgeable_keys, Cleared, Keeps, NotCleared, Gave, IsNoLeaf, Declined}
use Rattle.held_rows.specs.Rows.{Waited, Stood, IsFrame, HoldsOne}
use Rattle.held_rows.specs.Waits.{waited_apart, moment_run, frame_on}
use Rattle.btree_smo.specs.Inside.{StandsIn}
use Rattle.btree_smo.specs.Inside.Quiet.{with_holds}
use Rattle.btree_smo.specs.Inside.Purging.{Holding, KeepsBeside, CanGo, IsLeafIn, NotLeaf, IsPurging, IsRecord, WentOn}
use Rattle.btree_smo.proofs.Waiting.{near_wait, stands_on}
use Rattle.btree_smo.proofs.Reading.{reads}
use Rattle.btree_smo.proofs.Changing.{onward_all, given_up, was_so}
use Rattle.btree_smo.proofs.LockRows.{same_moment, place_stays}

-- ## On the way

-- the worker may change still
pub may_on : {alone : Bool} {v u : View} {worker : ℕ} → may alone v worker ≡ true → Ran alone v [] u → MayChange v worker → MayChange u worker
may_on {alone = alone} {v = v} {u = u} {worker = worker} actor ran m =
    let own = own_after alone v u worker actor ran in
    record { is_open = ap (λ (a : Worker). a.is_open) own.worker ∙ m.is_open; small = m.small; young = subst (λ (a : Worker). a.clock < 2 ^ 62) (sym own.worker) m.young }

-- what ran hangs on no holds
pub bare_ran : {alone : Bool} {v u : View} {es : List Event} (x : View) → Ran alone v es (with_holds u x) → Ran alone v es u
bare_ran x r = record { more = r.more; seen = r.seen; own = r.own; all = r.all; part = r.part; since = record { acts = r.since.acts; steps = r.since.steps }; given = r.given; actor = r.actor; live = r.live; made = r.made; ended = r.ended }

pub holds_on : {z : Shape} {leaf : ℕ} {v u : View} → Stood z.alone v u → HoldsOne z v leaf → HoldsOne z u leaf
holds_on s h = record { first = frame_on s h.first; only = λ q t. h.only q (sym (s.waited.rows q) ∙ t) }

-- logs are flushed no less
flushed_wait : {alone : Bool} {v u : View} → Waited alone v u → (q : ℕ) → (state v).core.flushed q ≤ (state u).core.flushed q
flushed_wait {alone} {v} {u} k q = subst (λ (m : Moment). (state v).core.flushed q ≤ m.core.flushed q) (sym (moment_run k)) (flushed_on v.given k.between (state v) (apart_sync v (state v) k.between k.apart) q)

pub floor_on : {z : Shape} {v u : View} {f : ℕ} → Waited z.alone v u → IsFloor z v f → IsFloor z u f
floor_on {z} {v} {u} {f} k i = record {
  low = λ q some among. let a = i.low q some (subst (λ (g : Given). q ≤ (opening g).workers) k.ran.given among) in let b = flushed_wait k q in omega arith;
  exact = λ y. i.exact y ∙ sym (λ j. flushed_by_all (opening (k.ran.given j)) (same_moment k y j).core);
}

-- the leaf's row behind the latches of lock rows
frame_held : {z : Shape} {frames f leaf : ℕ} {places : List ℕ} {v w : View} → Holding z frames f leaf places v w → IsFrame z v leaf → IsFrame z w leaf
frame_held {z} {frames} {f} {leaf} {places} {v} {w} h i =
    let k = frame_on h.stood i in record {
      mine = h.less leaf i.mine;
      frames = k.frames;
      inside = k.inside;
      wide = k.wide;
      done = ap (λ x. x.done) h.leaf_is ∙ k.done;
      same = ap (λ x. x.now) h.leaf_is ∙ (k.same ∙ sym (ap (λ x. x.was) h.leaf_is));
      size = ap (λ x. length x.was) h.leaf_is ∙ k.size;
      spells = subst (λ (ws : List ℕ). Spells w.given (state w) 128 leaf ws) (sym (ap (λ x. x.was) h.leaf_is)) k.spells;
    }

pub beside_of : {z : Shape} {worker frames locks f leaf : ℕ} {places : List ℕ} {v w : View} → Sized z v worker frames locks → HoldsOne z v leaf → Holding z frames f leaf places v w → KeepsBeside z w frames leaf places
beside_of {z} {worker} {frames} {locks} {f} {leaf} {places} {v} {w} s l h =
    let k = frame_held h l.first in record {
      first = record { mine = k.mine; inside = k.inside; done = k.done; same = k.same };
      each = h.each;
      only = h.only;
      far = λ i t e. absurd (let a = l.first.frames in let b = s.given in omega arith);
      distinct = h.distinct;
    }

-- ## The need

all_from : (P : ℕ → Bool) (keys : List ℕ) → ((k : ℕ) → is_in k keys ≡ true → P k ≡ true) → all_keys P keys ≡ true
all_from P [] f = refl
all_from P (k ∷ ks) f = and_from (P k) (all_keys P ks) (f k (ap (λ b. if b then true else is_in k ks) (eq-eqb k k refl))) (all_from P ks (λ j h. f j (later (k == j) h)))
  where
    later : {x : Bool} (b : Bool) → x ≡ true → (if b then true else x) ≡ true
    later true h = refl
    later false h = h

module _ {z : Shape} {worker frames locks f leaf : ℕ} {places keys : List ℕ} {v w : View} (n : stored.Page) (s : Sized z v worker frames locks) (l : HoldsOne z v leaf) (i : IsFloor z v f) (it : IsLeafIn v leaf n)
    (may_change : MayChange v worker) (actor : may z.alone v worker ≡ true) (h : Holding z frames f leaf places v w) (d : CanGo z locks n.node.pairs (length n.node.pairs) places keys w) where
  abbrev p : ℕ
  p = n.number

  k0 : Waited z.alone v (with_holds w v)
  k0 = h.stood.waited

  pub stands_now : StandsIn w.given (state w) leaf n
  stands_now = stands_on k0 l.first.frames l.first.mine it.stands

  -- the pairs are the page's
  pub pairs_are : n.node.pairs ≡ ((state w).core.page p).node.pairs
  pairs_are =
      let node : n.node ≡ framed (state w).core.place ((state w).core.page p).node = ap (λ (q : stored.Page). q.node) stands_now.page in
      let flat : ((state w).core.page p).node.level ≡ 0 = sym (ap (λ (x : Node). x.level) node ∙ framed_level (state w).core.place ((state w).core.page p).node) ∙ it.flat in
      ap (λ (x : Node). x.pairs) (node ∙ framed_leaf (state w).core.place ((state w).core.page p).node flat)

  pub leaf_now : is_leaf ((state w).core.page p).node ≡ true
  leaf_now = let r = reads stands_now in and_from ((state w).core.page p).node.live _ (sym r.live ∙ it.live) (eq-eqb ((state w).core.page p).node.level 0 (sym r.level ∙ it.flat))

  dead : core.may_purge (opening w.given) (nodes_of (state w).core) p keys ≡ true
  dead =
      let r = reads stands_now in
      and_from (ltb p (opening w.given).format.pages) _ (lt-ltb p (opening w.given).format.pages stands_now.stands.below)
      (and_from ((state w).core.page p).node.live _ (sym r.live ∙ it.live)
      (and_from (((state w).core.page p).node.level == 0) _ (eq-eqb ((state w).core.page p).node.level 0 (sym r.level ∙ it.flat))
      (all_from (λ k. is_dead (opening w.given).format (find k ((state w).core.page p).node.pairs)) keys (λ k m. ap (λ (ps : List Pair). is_dead (opening w.given).format (find k ps)) (sym pairs_are) ∙ (ap (is_dead (opening w.given).format) (d.dead k m) ∙ eq-eqb (2 ^ 63) (2 ^ 63) refl)))))

  row_is : (k : ℕ) → (opening w.given).row_of k ≡ k % locks
  row_is k = (λ j. k % (k0.ran.given j).rows) ∙ ap (λ m. k % m) s.locks

  pub can : CanPurge (opening w.given) (state w).core worker p keys f
  can = record {
    is_open = (may_on actor k0.ran may_change).is_open;
    hot = ap is_hot stands_now.stands.hot;
    dead = dead;
    flushed = λ u some among. let a = i.low u some (subst (λ (g : Given). u ≤ (opening g).workers) k0.ran.given among) in let b = flushed_wait k0 u in omega arith;
    rows = λ k m. subst (λ q. IsQuiet ((state w).core.row q) f) (sym (row_is k)) (h.quiet (k % locks) (d.locked k m));
  }

  pub met_now : core.may (opening w.given) (state w).core (happening.Event.Purge worker p keys) ≡ true
  met_now = (every_purge z w leaf worker p keys).need f can

  pub purging : IsPurging z w worker frames leaf n places keys
  purging = record {
    rows = record {
      frame = frame_held h l.first;
      beside = beside_of s l h;
      locked = λ k m. ap (λ q. is_in q places) (row_is k) ∙ d.locked k m;
      frames_is = ap (λ (g : Given). (opening g).frames) k0.ran.given ∙ s.given;
    };
    stands = stands_now;
    flat = it.flat;
    met = met_now;
    young = (may_on actor k0.ran may_change).young;
  }

  -- where nobody else steps these are all that can go
  pub all_now : z.alone ≡ true → keys ≡ purgeable_keys (opening w.given) (state w).core ((state w).core.page p).node.pairs
  all_now y = d.all y ∙ ap (purgeable_keys (opening w.given) (state w).core) (Rattle.std.proofs.lemmas.List.take_all (length n.node.pairs) n.node.pairs (omega arith) ∙ pairs_are)

  -- what is left where nothing goes
  pub spared : (most left : ℕ) → left + length keys ≡ length n.node.pairs → (length keys ≡ 0) ⊎ (most < left) → Keeps z.alone leaf most left w.given (state w)
  spared most left sum why = record {
    page = p;
    stands = stands_now.stands;
    leaf = leaf_now;
    few = (let e = ap (λ (ps : List Pair). length ps) pairs_are in omega arith);
    exact = λ y. (let a = ap (λ (ks : List ℕ). length ks) (all_now y) in let e = ap (λ (ps : List Pair). length ps) pairs_are in omega arith);
    none = λ y. elim why [ inl none ↦ inl (sym (ap (λ (ks : List ℕ). length ks) (all_now y)) ∙ none) | inr more ↦ inr more ];
  }

-- ## The entry

abbrev entry_in : Worker → Contents → (w p : ℕ) → List ℕ → Entry
entry_in a c w p keys =
    let b = touch w a c.gsn c.last in
    record { kind = Kind.Purge; log = w; txn = b.txn; number = suc b.clock; key = 0; before = 0; after = 0; need = 0; refs = record { page = p; prev = c.gsn } ∷ []; record_of = record { kind = records.Kind.Purge; left = record { page = p; prev = c.gsn }; right = records.nowhere; parent = records.nowhere; key = 0; before = 0; after = 0; sep = 0; high = 0; level = 0; pairs = []; keys = keys } }

entry_is : (s : State) (w p : ℕ) (keys : List ℕ) → purge_entry w p keys s ≡ entry_in (s.worker w) (s.page p) w p keys
entry_is s w p keys = refl

clock_after : (v : Given) (m : Moment) (w p : ℕ) (keys : List ℕ) → core.may (opening v) m.core (happening.Event.Purge w p keys) ≡ true → clock_in ((stepped v m (Purge w p keys)).core.worker w) ≡ drawn (clock_in (at_pages m.core w (m.core.worker w) (p ∷ [])))
unfolding stepped
clock_after v m w p keys ok =
    let e = happening.Event.Purge w p keys in
    ap (λ (s : State). clock_in (s.worker w)) (cond-true (core.may (opening v) m.core e) (happens (opening v) m.core e) m.core ok) ∙ ap clock_in (upd_same m.core.worker w _ w refl)

module _ {z : Shape} {u : View} {worker frames leaf : ℕ} {places keys : List ℕ} (n : stored.Page) (it : IsPurging z u worker frames leaf n places keys) (actor : may z.alone u worker ≡ true) where
  abbrev s : State
  s = (state u).core

  draws_clock : (lg tx : ℕ) (d : Clock) (m : ℕ) → DrawsFor u worker lg tx d m → drawn (touched lg d n.gsn n.last_log) ≡ drawn (clock_in (at_pages s worker (s.worker worker) (n.number ∷ [])))
  draws_clock lg tx d m k = let r = reads it.stands in (λ i. drawn (touched (k.log i) (k.clock i) (r.gsn i) (r.last i)))

  pub number_is : (lg tx : ℕ) (d e : Clock) (m number : ℕ) → DrawsFor u worker lg tx d m → e ≡ drawn (touched lg d n.gsn n.last_log) → number ≡ e.clock → number ≡ (purge_entry worker n.number keys s).number
  number_is lg tx d e m number k is num = num ∙ ap (λ (x : Clock). x.clock) (is ∙ draws_clock lg tx d m k)

  record_is : (lg tx : ℕ) (d : Clock) (m number : ℕ) (r : Record) → DrawsFor u worker lg tx d m → number ≡ (purge_entry worker n.number keys s).number → IsRecord tx number n keys r → entry_of worker r ≡ purge_entry worker n.number keys s
  record_is lg tx d m number r k num is =
      let q = reads it.stands in
      let txn : r.txn ≡ (s.worker worker).txn = is.txn_is ∙ k.txn in
      let gsn : r.gsn ≡ (purge_entry worker n.number keys s).number = is.number_is ∙ num in
      (λ i. entry_of worker (record { txn = txn i; gsn = gsn i; body = is.body_is i }))
      ∙ ((λ i. record {
        kind = Kind.Purge;
        log = worker;
        txn = (s.worker worker).txn;
        number = (purge_entry worker n.number keys s).number;
        key = 0;
        before = 0;
        after = 0;
        need = 0;
        refs = record { page = n.number; prev = q.gsn i } ∷ [];
        record_of = record { kind = records.Kind.Purge; left = record { page = n.number; prev = q.gsn i }; right = records.nowhere; parent = records.nowhere; key = 0; before = 0; after = 0; sep = 0; high = 0; level = 0; pairs = []; keys = is.gone_are i };
      }) ∙ sym (entry_is s worker n.number keys))

  module _ (between : List Event) (quiet : z.alone ≡ true → between ≡ []) (apart : AreApart u (state u) between) where
    abbrev at : View
    at = record u { seen = u.seen ++ between }

    abbrev k : Waited z.alone u at
    k = waited_apart z u between quiet apart

    own : OwnKept u at worker
    own = own_after z.alone u at worker actor k.ran

    near : SameNear s (state at).core n.number
    near = near_wait leaf n.number k it.rows.frame.frames it.rows.frame.mine it.stands.stands.below it.stands.stands.hot

    rest : Rest s (state at).core worker (happening.Event.Purge worker n.number keys)
    rest = record { worker = own.worker; alone = own.alone; rows = λ j h. absurd (true≢false (sym h)); near = each }
      where
        each : (q : ℕ) → Has q (n.number ∷ []) → SameNear s (state at).core q
        each q (inl e) = subst (SameNear s (state at).core) (sym e) near
        each q (inr h) = absurd h

    row_stays : (j : ℕ) → is_in j keys ≡ true → (state at).core.row ((opening u.given).row_of j) ≡ s.row ((opening u.given).row_of j)
    row_stays j m = place_stays frames ((opening u.given).row_of j) it.rows.frames_is k (it.rows.beside.each ((opening u.given).row_of j) (it.rows.locked j m)).mine

    pub met_then : core.may (opening u.given) (state at).core (happening.Event.Purge worker n.number keys) ≡ true
    met_then = (again_purge (opening u.given) s (state at).core worker n.number keys it.met (settled_on (opening u.given) s (state at).core worker n.number keys it.met (flushed_wait k) row_stays) rest).met

    pub entry_then : purge_entry worker n.number keys s ≡ purge_entry worker n.number keys (state at).core
    entry_then = (λ i. entry_in (sym own.worker i) (sym near.page i) worker n.number keys)

    pub clock_then : drawn (clock_in (at_pages s worker (s.worker worker) (n.number ∷ []))) ≡ drawn (clock_in (at_pages (state at).core worker ((state at).core.worker worker) (n.number ∷ [])))
    clock_then = (λ i. drawn (clock_in (touch worker (sym own.worker i) (sym near.page i).gsn (sym near.page i).last)))

    pub page_then : (state at).core.page n.number ≡ s.page n.number
    page_then = near.page

    pub hot_then : (state at).core.place n.number ≡ Place.Hot leaf
    hot_then = near.place ∙ it.stands.stands.hot

    pub alone_then : z.alone ≡ true → state at ≡ state u
    alone_then y = same_moment k y

-- ## The whole call

pub cleared_done : {z : Shape} {v u w : View} {worker frames leaf most : ℕ} {places keys : List ℕ} (n : stored.Page) → IsPurging z u worker frames leaf n places keys → may z.alone u worker ≡ true → (hs : View) → Waited z.alone v (with_holds u hs) → WentOn z.alone u (Purge worker n.number keys) w
    → (z.alone ≡ true → keys ≡ purgeable_keys (opening u.given) (state u).core ((state u).core.page n.number).node.pairs) → 0 < length keys → length ((state u).core.page n.number).node.pairs ≤ most + length keys
    → (lg tx : ℕ) (d e : Clock) (m number : ℕ) (rs now : List Record) → DrawsFor u worker lg tx d m → e ≡ drawn (touched lg d n.gsn n.last_log) → number ≡ e.clock
    → (r : Record) × (now ≡ r ∷ rs) × IsRecord tx number n keys r → Cleared z.alone worker leaf most v rs w e now
cleared_done {z} {v} {u} {w} {worker} {frames} {leaf} {most} {places} {keys} n it actor hs waited went all some left lg tx d e m number rs now dr clock num staged =
    let p = n.number in
    let ev = Purge worker p keys in
    let past = u.seen ++ went.between in
    let given : w.given ≡ u.given = went.ran.given in
    let mo = after_all u.given past in
    let met = met_then n it actor went.between went.quiet went.apart in
    let whole = number_is n it actor lg tx d e m number dr clock num in
    let same = record_is n it actor lg tx d m number staged.0 dr whole staged.2 ∙ entry_then n it actor went.between went.quiet went.apart in
    let after : after_all u.given (past ++ ev ∷ []) ≡ stepped u.given mo ev = run_append u.given (begun u.given) past (ev ∷ []) in
    let ticks = clock ∙ (draws_clock n it actor lg tx d m dr ∙ (clock_then n it actor went.between went.quiet went.apart ∙ (sym (clock_after u.given mo worker p keys met) ∙ ap (λ (x : Moment). clock_in (x.core.worker worker)) (sym after)))) in
    let page = page_then n it actor went.between went.quiet went.apart in record {
      page = p;
      keys = keys;
      past = past;
      onward = onward_all waited went.between went.quiet;
      misses = went.misses;
      ran = ran_append z.alone v [] u (ev ∷ went.misses) w (bare_ran hs waited.ran) went.ran;
      only = went.only;
      later = went.later;
      seen = went.seen;
      met = subst (λ (g : Given). core.may (opening g) (after_all g past).core (happening.Event.Purge worker p keys) ≡ true) (sym given) met;
      staged = (staged.0, staged.1, subst (λ (g : Given). entry_of worker staged.0 ≡ purge_entry worker p keys (after_all g past).core) (sym given) same);
      clock = subst (λ (g : Given). e ≡ clock_in ((after_all g (past ++ ev ∷ [])).core.worker worker)) (sym given) ticks;
      hot = subst (λ (g : Given). (after_all g past).core.place p ≡ Place.Hot leaf) (sym given) (hot_then n it actor went.between went.quiet went.apart);
      some = some;
      left = subst (λ (g : Given). length ((after_all g past).core.page p).node.pairs ≤ most + length keys) (sym given) (subst (λ (c : Contents). length c.node.pairs ≤ most + length keys) (sym page) left);
      all = λ y. subst (λ (g : Given). keys ≡ purgeable_keys (opening g) (after_all g past).core ((after_all g past).core.page p).node.pairs) (sym given)
          (subst (λ (x : Moment). keys ≡ purgeable_keys (opening u.given) x.core (x.core.page p).node.pairs) (sym (alone_then n it actor went.between went.quiet went.apart y)) (all y));
    }

-- misses behind the latches of lock rows
pub bare_missed : {most : ℕ} {alone : Bool} {u w : View} (x : View) → MissedUpTo most alone u w → MissedUpTo most alone (with_holds u x) w
bare_missed x m = record { events = m.events; ran = record { more = m.ran.more; seen = m.ran.seen; own = m.ran.own; all = m.ran.all; part = m.ran.part; since = record { acts = m.ran.since.acts; steps = m.ran.since.steps }; given = m.ran.given; actor = m.ran.actor; live = m.ran.live; made = m.ran.made; ended = m.ran.ended }; misses = m.misses; few = m.few }

pub gave : {most : ℕ} {alone : Bool} {v u w : View} (x : View) → most ≤ 61 → Stood alone v (with_holds u x) → MissedUpTo most alone u w → Gave alone v w
gave {most} {alone} {v} {u} {w} x le s m = let g = given_up s (bare_missed x m) in record { events = g.events; ran = g.ran; misses = g.misses; few = (let l = g.few in omega arith) }

unfoldable pub so_gave : {most : ℕ} {alone : Bool} {v u w : View} (x : View) (P : Moment → Type 0) → Stood alone v (with_holds u x) → MissedUpTo most alone u w → P (state u) → WasSo alone v w P
unfolding was_so
so_gave {most} {alone} {v} {u} {w} x P s m so = was_so {P = P} s (bare_missed x m) so

pub not_cleared : {most : ℕ} {z : Shape} {v u w : View} {worker frames leaf : ℕ} {places keys : List ℕ} (n : stored.Page) → IsPurging z u worker frames leaf n places keys → may z.alone u worker ≡ true → (x : View) → most ≤ 61 → Stood z.alone v (with_holds u x) → MissedUpTo most z.alone u w
    → (lg tx : ℕ) (d e : Clock) (m : ℕ) (rs now : List Record) → DrawsFor u worker lg tx d m → e ≡ drawn (touched lg d n.gsn n.last_log) → now ≡ rs → NotCleared z.alone worker leaf v rs w e now
unfolding was_so so_gave
not_cleared {most} {z} {v} {u} {w} {worker} {frames} {leaf} {places} {keys} n it actor x le s missed lg tx d e m rs now dr clock same =
    let given : w.given ≡ u.given = missed.ran.given in record {
      page = n.number;
      keys = keys;
      missed = gave x le s missed;
      met = so_gave x (λ o. core.may (opening w.given) o.core (happening.Event.Purge worker n.number keys) ≡ true) s missed (subst (λ (g : Given). core.may (opening g) (state u).core (happening.Event.Purge worker n.number keys) ≡ true) (sym given) it.met);
      staged = same;
      clock = subst (λ (g : Given). e ≡ drawn (clock_in (at_pages (after_all g u.seen).core worker ((after_all g u.seen).core.worker worker) (n.number ∷ [])))) (sym given) (clock ∙ draws_clock n it actor lg tx d m dr);
      hot = subst (λ (g : Given). (after_all g u.seen).core.place n.number ≡ Place.Hot leaf) (sym given) it.stands.stands.hot;
    }

few_gave : {most : ℕ} {alone : Bool} {v w : View} → most ≤ 61 → MissedUpTo most alone v w → Gave alone v w
few_gave le m = record { events = m.events; ran = m.ran; misses = m.misses; few = (let l = m.few in omega arith) }

-- no leaf stands in the row
pub declined : {most : ℕ} {alone : Bool} {v u w : View} (worker row : ℕ) (rs now : List Record) (c : Clock) (why : Outcome) → most ≤ 61 → Stood alone v u → MissedUpTo most alone u w → NotLeaf row why u → Declined alone worker row v rs why w c now
unfolding was_so
declined worker row rs now c outcome.Done le s m n = absurd n
declined worker row rs now c (outcome.Full r) le s m n = absurd n
declined worker row rs now c outcome.TooTall le s m n = absurd n
declined {most} {alone} {v} {u} {w} worker row rs now c (outcome.Stale r) le s m n = (few_gave le (given_up s m), was_so {P = IsNoLeaf row r w.given} s m (subst (λ (g : Given). IsNoLeaf row r g (state u)) (sym m.ran.given) n))
declined worker row rs now c (outcome.Moved x) le s m n = absurd n
declined worker row rs now c (outcome.Latched x) le s m n = absurd n
declined worker row rs now c (outcome.RowSpent r) le s m n = absurd n
declined {most} {alone} {v} {u} {w} worker row rs now c outcome.ClockSpent le s m n = (few_gave le (given_up s m), was_so {P = λ o. IsSpentIn w.given o row} s m (subst (λ (g : Given). IsSpentIn g (state u) row) (sym m.ran.given) n))
declined worker row rs now c (outcome.Unstaged x) le s m n = absurd n
