-- The keys that can go, pair by pair.
use Rattle.std.proofs.Common.{◌≡◌, ◌==◌, ◌&&◌, ◌<◌, ◌≤◌, ◌+◌, ◌%◌, ◌^◌, inl, inr, ℕ, zero, suc, Bool, true, false, List, [], ◌∷◌, ◌++◌, append-nil, length, take, Some, refl, sym, ap, subst, ◌∙◌, eq-eqb, arith, true≢false}
use Rattle.std.specs.Prelude.{if◌then◌else◌}
use Rattle.std.proofs.lemmas.Bool.{cond-true, cond-false, and_from, and_left, and_right, ne_eqb, leb-true, le-leb}
use Rattle.std.proofs.lemmas.List.{length-append}
use Rattle.page_model.specs.Pairs.{Pair, Rising, find, is_in}
use Rattle.page_model.specs.Needs.{key_at}
use Rattle.page_model.specs.Page.{word_at}
use Rattle.disk_image.proofs.btree_node.PlaceLemmas.{rising-from, ordered-rising}
use Rattle.btree_descent.specs.core_state.Lists.{is_empty}
use Rattle.btree_descent.specs.core_state.Openings.{Opening}
use Rattle.btree_descent.specs.core_state.States.{State, flushed_by_all}
use Rattle.btree_descent.specs.core_state.Needs.{is_settled, is_free}
use Rattle.btree_descent.proofs.row_words.Stays.{cases, and_true}
use Rattle.btree_descent.specs.lean_proto.Purges.{IsQuiet}
use Rattle.btree_smo.specs.Purges.{purgeable_keys, IsFloor}
use Rattle.btree_descent.specs.row_words.declared.given.Given.{Given}
use Rattle.btree_descent.specs.row_words.Openings.{opening}
use Rattle.btree_descent.specs.rows_trait.declared.view.View.{View}
use Rattle.btree_descent.specs.rows_trait.Layout.{rows_of}
use Rattle.btree_descent.specs.rows_trait.Views.{Shape, state}
use Rattle.key_locks.specs.Rows.{Sized, Spans, IsWorker}
use Rattle.page_model.specs.Page as stored
use Rattle.disk_image.specs.btree_node.Words.{Fits, IsOrdered}
use Rattle.btree_descent.specs.rows_trait.Turns.{Stepped}
use Rattle.btree_smo.proofs.Causes.{found_before}
use Rattle.btree_smo.specs.declared.quiet.Quiet.TheVariants.{Taken, Busy}
use Rattle.held_rows.specs.Rows.{Waited, Stood, HoldsOne}
use Rattle.btree_smo.specs.Inside.Quiet.{IsSpentRow, with_holds}
use Rattle.btree_smo.specs.Inside.Purging.{Holding, Passing, TookPlace, IsLast}
use Rattle.btree_smo.proofs.LockRows.{hold_none, hold_stood, hold_taken, place_free, same_moment}
use Rattle.btree_smo.proofs.LockRows.{in_append, in_left, in_last}

-- ## Pairs

pub take_pair : (i : ℕ) (ps : List Pair) → i < length ps → take (i + 1) ps ≡ take i ps ++ record { key = key_at i ps; word = word_at i ps } ∷ []
take_pair i ps lt = (let e : i + 1 ≡ suc i = omega arith in ap (λ n. take n ps) e) ∙ go i ps lt
  where
    go : (i : ℕ) (ps : List Pair) → i < length ps → take (suc i) ps ≡ take i ps ++ record { key = key_at i ps; word = word_at i ps } ∷ []
    go i [] lt = absurd (omega arith)
    go zero (x ∷ xs) lt = refl
    go (suc i) (x ∷ xs) lt = ap (λ ys. x ∷ ys) (go i xs (omega arith))

-- the entry of a key in a list with rising keys is found
pub find_at : (low high : ℕ) (ps : List Pair) (i : ℕ) → Rising low ps high → i < length ps → find (key_at i ps) ps ≡ Some (word_at i ps)
find_at low high [] i r lt = absurd (omega arith)
find_at low high (x ∷ xs) zero r lt = cond-true (x.key == x.key) (Some x.word) (find x.key xs) (eq-eqb x.key x.key refl)
find_at low high (x ∷ xs) (suc i) r lt =
    let le = rising-from (suc x.key) high xs i r.1 (omega arith) in
    cond-false (x.key == key_at i xs) (Some x.word) (find (key_at i xs) xs) (ne_eqb x.key (key_at i xs) (λ e. absurd (omega arith))) ∙ find_at (suc x.key) high xs i r.1 (omega arith)

-- ## Settled keys

pub quiet_settled : (g : Opening) (s : State) (k f : ℕ) → f ≡ flushed_by_all g s → IsQuiet (s.row (g.row_of k)) f → is_settled g s k ≡ true
quiet_settled g s k f e q =
    let n = q.number in
    and_from (is_free (s.row (g.row_of k)).holder) _ q.holder (and_from (is_empty (s.row (g.row_of k)).readers) _ (ap is_empty q.readers) (le-leb (s.row (g.row_of k)).number (flushed_by_all g s) (omega arith)))

pub busy_settled : (g : Opening) (s : State) (k f : ℕ) → f ≡ flushed_by_all g s → (IsQuiet (s.row (g.row_of k)) f → ⊥) → is_settled g s k ≡ false
busy_settled g s k f e off = cases (is_settled g s k)
    (λ t. let a = and_true (is_free (s.row (g.row_of k)).holder) _ t in let b = and_true (is_empty (s.row (g.row_of k)).readers) _ a.1 in
    absurd (off (record { holder = a.0; readers = none (s.row (g.row_of k)).readers b.0; number = (let le = leb-true (s.row (g.row_of k)).number (flushed_by_all g s) b.1 in omega arith) })))
    (λ n. n)
  where
    none : (l : List ℕ) → is_empty l ≡ true → l ≡ []
    none [] h = refl
    none (x ∷ xs) h = absurd (true≢false (sym h))

-- ## Goners

abbrev goes : Opening → State → Pair → Bool
goes g s x = (x.word == g.format.dead) && is_settled g s x.key

pub purgeable_none : (g : Opening) (s : State) (x : Pair) (xs : List Pair) → goes g s x ≡ false → purgeable_keys g s (xs ++ x ∷ []) ≡ purgeable_keys g s xs
purgeable_none g s x [] h = cond-false (goes g s x) (x.key ∷ []) [] h
purgeable_none g s x (y ∷ ys) h = go (purgeable_none g s x ys h) (goes g s y)
  where
    go : purgeable_keys g s (ys ++ x ∷ []) ≡ purgeable_keys g s ys → (b : Bool) → (if b then y.key ∷ purgeable_keys g s (ys ++ x ∷ []) else purgeable_keys g s (ys ++ x ∷ [])) ≡ (if b then y.key ∷ purgeable_keys g s ys else purgeable_keys g s ys)
    go rest true = ap (λ zs. y.key ∷ zs) rest
    go rest false = rest

pub purgeable_one : (g : Opening) (s : State) (x : Pair) (xs : List Pair) → goes g s x ≡ true → purgeable_keys g s (xs ++ x ∷ []) ≡ purgeable_keys g s xs ++ x.key ∷ []
purgeable_one g s x [] h = cond-true (goes g s x) (x.key ∷ []) [] h
purgeable_one g s x (y ∷ ys) h = go (purgeable_one g s x ys h) (goes g s y)
  where
    go : purgeable_keys g s (ys ++ x ∷ []) ≡ purgeable_keys g s ys ++ x.key ∷ [] → (b : Bool) → (if b then y.key ∷ purgeable_keys g s (ys ++ x ∷ []) else purgeable_keys g s (ys ++ x ∷ [])) ≡ (if b then y.key ∷ purgeable_keys g s ys else purgeable_keys g s ys) ++ x.key ∷ []
    go rest true = ap (λ zs. y.key ∷ zs) rest
    go rest false = rest

pub purgeable_few : (g : Opening) (s : State) (xs : List Pair) → length (purgeable_keys g s xs) ≤ length xs
purgeable_few g s [] = omega arith
purgeable_few g s (x ∷ xs) = go (purgeable_few g s xs) (goes g s x)
  where
    go : length (purgeable_keys g s xs) ≤ length xs → (b : Bool) → length (if b then x.key ∷ purgeable_keys g s xs else purgeable_keys g s xs) ≤ suc (length xs)
    go le true = omega arith
    go le false = omega arith

-- ## On the way

-- what does not change on the way
pub record Way (z : Shape) (worker frames f locks leaf : ℕ) (pairs : List Pair) (v : View) : Type 0 where
  pub sized : Sized z v worker frames locks
  pub on : HoldsOne z v leaf
  pub floor : IsFloor z v f
  pub low : ℕ
  pub high : ℕ
  pub rising : Rising low pairs high

module _ {z : Shape} {worker frames f locks leaf : ℕ} {pairs : List Pair} {v : View} (y : Way z worker frames f locks leaf pairs v) where
  is : (opening v.given).frames ≡ frames
  is = y.sized.given

  near : leaf < frames
  near = let a = y.on.first.frames in let e = is in omega arith

  inside : (i : ℕ) → i < locks → frames + i < rows_of z.sizes
  inside i lt = let a = y.sized.spans.shape in let b = y.sized.spans.rows in omega arith

  pub pass_none : Passing z frames f locks leaf pairs 0 [] [] v v
  pass_none = record {
    holding = hold_none frames f leaf v y.on;
    gone = record { dead = λ k h. absurd (true≢false (sym h)); locked = λ k h. absurd (true≢false (sym h)); few = omega arith; fewer = omega arith; all = λ t. refl };
  }

  module _ {i : ℕ} {places keys : List ℕ} {w : View} (p : Passing z frames f locks leaf pairs i places keys v w) where
    given : w.given ≡ v.given
    given = p.holding.stood.waited.ran.given

    -- the pair with the key and its word
    module _ (k x : ℕ) (lt : i < length pairs) (key_is : k ≡ key_at i pairs) (word_is : x ≡ word_at i pairs) where
      abbrev pair : Pair
      pair = record { key = k; word = x }

      taken : take (i + 1) pairs ≡ take i pairs ++ pair ∷ []
      taken = take_pair i pairs lt ∙ (λ j. take i pairs ++ record { key = sym key_is j; word = sym word_is j } ∷ [])

      pub pass_skip : (x ≡ 2 ^ 63 → ⊥) → Passing z frames f locks leaf pairs (i + 1) places keys v w
      pass_skip ne = record {
        holding = p.holding;
        gone = record {
          dead = p.gone.dead;
          locked = p.gone.locked;
          few = (let n = p.gone.few in omega arith);
          fewer = p.gone.fewer;
          all = λ t. p.gone.all t ∙ sym (ap (purgeable_keys (opening w.given) (state w).core) taken ∙ purgeable_none (opening w.given) (state w).core pair (take i pairs) (and_left (x == 2 ^ 63) (is_settled (opening w.given) (state w).core k) (ne_eqb x (2 ^ 63) ne)));
        };
      }

      module _ (dead : x ≡ 2 ^ 63) where
        -- where nobody else steps, all is as it was
        same : (u : View) → Waited z.alone w (with_holds u w) → z.alone ≡ true → (pairs : List Pair) → purgeable_keys (opening u.given) (state u).core pairs ≡ purgeable_keys (opening w.given) (state w).core pairs
        same u k t ps = (λ j. purgeable_keys (opening (k.ran.given j)) (same_moment k t j).core ps)

        least : (u : View) → Waited z.alone w (with_holds u w) → z.alone ≡ true → f ≡ flushed_by_all (opening u.given) (state u).core
        least u k t = y.floor.exact t ∙ sym ((λ j. flushed_by_all (opening (k.ran.given j)) (same_moment k t j).core) ∙ (λ j. flushed_by_all (opening (given j)) (same_moment p.holding.stood.waited t j).core))

        row_is : (u : View) → u.given ≡ w.given → (opening u.given).row_of k ≡ k % locks
        row_is u e = (λ j. k % (e j).rows) ∙ ((λ j. k % (given j).rows) ∙ ap (λ n. k % n) y.sized.locks)

        grown : (u : View) → Stood z.alone w u → Waited z.alone w (with_holds u w)
        grown u s = record { ran = Rattle.btree_smo.proofs.Quieting.ran_held w.held s.waited.ran; between = s.waited.between; quiet = s.waited.quiet; apart = s.waited.apart; seen = s.waited.seen; rows = λ q. refl }

        pub pass_busy : {u : View} {more : List ℕ} → TookPlace z frames (k % locks) f places w Busy more u → Passing z frames f locks leaf pairs (i + 1) more keys v u
        pass_busy {u} {more} e =
            let s = e.2.stood in
            let g = grown u s in
            let h = hold_stood is p.holding s in
            subst (λ ps. Passing z frames f locks leaf pairs (i + 1) ps keys v u) (sym e.1) (record {
              holding = h;
              gone = record {
                dead = p.gone.dead;
                locked = p.gone.locked;
                few = (let n = p.gone.few in omega arith);
                fewer = p.gone.fewer;
                all = λ t.
                    let off : is_settled (opening u.given) (state u).core k ≡ false = busy_settled (opening u.given) (state u).core k f (least u g t)
                    (λ q. e.2.busy t (place_free (k % locks) near p.holding e.0) (subst (λ r. IsQuiet ((state u).core.row r) f) (row_is u g.ran.given) q)) in
                    p.gone.all t ∙ (sym (same u g t (take i pairs)) ∙ sym (ap (purgeable_keys (opening u.given) (state u).core) taken ∙ purgeable_none (opening u.given) (state u).core pair (take i pairs) (and_right (x == 2 ^ 63) (is_settled (opening u.given) (state u).core k) off)));
              };
            })

        -- the key goes
        settled_then : (u : View) → Waited z.alone w (with_holds u w) → IsQuiet ((state u).core.row (k % locks)) f → z.alone ≡ true → purgeable_keys (opening u.given) (state u).core (take (i + 1) pairs) ≡ purgeable_keys (opening w.given) (state w).core (take i pairs) ++ k ∷ []
        settled_then u g q t =
            let e : f ≡ flushed_by_all (opening u.given) (state u).core = y.floor.exact t ∙ sym ((λ j. flushed_by_all (opening (g.ran.given j)) (same_moment g t j).core) ∙ (λ j. flushed_by_all (opening (given j)) (same_moment p.holding.stood.waited t j).core)) in
            let r : (opening u.given).row_of k ≡ k % locks = (λ j. k % (g.ran.given j).rows) ∙ ((λ j. k % (given j).rows) ∙ ap (λ n. k % n) y.sized.locks) in
            let on : is_settled (opening u.given) (state u).core k ≡ true = quiet_settled (opening u.given) (state u).core k f e (subst (λ n. IsQuiet ((state u).core.row n) f) (sym r) q) in
            ap (purgeable_keys (opening u.given) (state u).core) taken
            ∙ (purgeable_one (opening u.given) (state u).core pair (take i pairs) (and_from (x == 2 ^ 63) (is_settled (opening u.given) (state u).core k) (eq-eqb x (2 ^ 63) dead) on)
            ∙ (λ j. purgeable_keys (opening (g.ran.given j)) (same_moment g t j).core (take i pairs) ++ k ∷ []))

        dead_more : (n : ℕ) → is_in n (keys ++ k ∷ []) ≡ true → find n pairs ≡ Some (2 ^ 63)
        dead_more n h = elim (in_append n k keys h) [
          | inl a ↦ p.gone.dead n a
          | inr e ↦ subst (λ m. find m pairs ≡ Some (2 ^ 63)) (sym key_is ∙ e) (find_at y.low y.high pairs i y.rising lt ∙ ap Some (sym word_is ∙ dead))
        ]

        locked_more : (more : List ℕ) → ((n : ℕ) → is_in n places ≡ true → is_in n more ≡ true) → is_in (k % locks) more ≡ true → (n : ℕ) → is_in n (keys ++ k ∷ []) ≡ true → is_in (n % locks) more ≡ true
        locked_more more wide here n h = elim (in_append n k keys h) [
          | inl a ↦ wide (n % locks) (p.gone.locked n a)
          | inr e ↦ subst (λ m. is_in (m % locks) more ≡ true) e here
        ]

        longer : length (keys ++ k ∷ []) ≡ length keys + 1
        longer = length-append keys (k ∷ [])

        pub pass_taken : {u : View} {more : List ℕ} → k % locks < locks → TookPlace z frames (k % locks) f places w Taken more u → Passing z frames f locks leaf pairs (i + 1) more (keys ++ k ∷ []) v u
        pass_taken {u} {more} small (inl e) =
            let g : Waited z.alone w (with_holds u w) = subst (λ x. Waited z.alone w (with_holds x w)) (sym e.2) (record { ran = Rattle.btree_smo.proofs.Quieting.ran_held w.held (Rattle.btree_descent.proofs.rows_trait.Runs.ran_none z.alone w); between = []; quiet = λ t. refl; apart = tt; seen = sym (append-nil w.seen); rows = λ q. refl }) in
            let h : Holding z frames f leaf places v u = subst (λ x. Holding z frames f leaf places v x) (sym e.2) p.holding in
            subst (λ ps. Passing z frames f locks leaf pairs (i + 1) ps (keys ++ k ∷ []) v u) (sym e.1) (record {
              holding = h;
              gone = record {
                dead = dead_more;
                locked = locked_more places (λ n m. m) e.0;
                few = (let n = p.gone.few in let l = longer in omega arith);
                fewer = (let n = p.gone.fewer in let l = longer in omega arith);
                all = λ t. ap (λ ks. ks ++ k ∷ []) (p.gone.all t) ∙ sym (settled_then u g (h.quiet (k % locks) e.0) t);
              };
            })
        pass_taken {u} {more} small (inr e) =
            let t = e.2 in
            let h = hold_taken (k % locks) is (inside (k % locks) small) y.on.first.mine p.holding e.0 t in
            let len = length-append places (k % locks ∷ []) in
            subst (λ ps. Passing z frames f locks leaf pairs (i + 1) ps (keys ++ k ∷ []) v u) (sym e.1) (record {
              holding = h;
              gone = record {
                dead = dead_more;
                locked = locked_more (places ++ (k % locks) ∷ []) (λ n m. in_left n (k % locks) places m) (in_last (k % locks) places);
                few = (let n = p.gone.few in let l = longer in omega arith);
                fewer = (let n = p.gone.fewer in let l = longer in let m = len in omega arith);
                all = λ a. ap (λ ks. ks ++ k ∷ []) (p.gone.all a) ∙ sym (settled_then u t.grew t.quiet a);
              };
            })

-- ## For the loop

pub way_of : {z : Shape} {worker frames f locks leaf : ℕ} {n : stored.Page} {v : View} → Sized z v worker frames locks → HoldsOne z v leaf → IsFloor z v f → Fits n → Way z worker frames f locks leaf n.node.pairs v
way_of {z} {worker} {frames} {f} {locks} {leaf} {n} {v} s l fl fits = go n.node.pairs fits.ordered
  where
    go : (ps : List Pair) → IsOrdered n.node.low ps n.node.high → Way z worker frames f locks leaf ps v
    go [] o = record { sized = s; on = l; floor = fl; low = 0; high = 0; rising = omega arith }
    go (x ∷ xs) o = record { sized = s; on = l; floor = fl; low = n.node.low; high = n.node.high; rising = ordered-rising n.node.low (x ∷ xs) n.node.high 0 o (omega arith) }

pub sized_on : {y z : Shape} {v w : View} {worker frames locks : ℕ} → y ≡ z → w.given ≡ v.given → Sized z v worker frames locks → Sized y w worker frames locks
sized_on {y} {z} {v} {w} {worker} {frames} {locks} e g s = record {
  spans = subst (λ (x : Shape). Spans x frames locks) (sym e) s.spans;
  given = ap (λ (x : Given). (opening x).frames) g ∙ s.given;
  locks = ap (λ (x : Given). x.rows) g ∙ s.locks;
  few = subst (λ (x : Given). (opening x).workers ≤ 16) (sym g) s.few;
  works = subst (λ (x : Given). IsWorker (opening x).workers worker) (sym g) s.works;
}

pub spent_last : {z : Shape} {frames i : ℕ} {v w u : View} → Stepped v w → IsSpentRow z frames i w u → IsLast (frames + i) v u
spent_last o e = record { version = e.version; last = e.last; found = found_before o e.found }
