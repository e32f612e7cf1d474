-- A purge, a join and a drop leave each key its word.
use Rattle.std.proofs.Common.{◌≡◌, ◌∙◌, ◌+◌, ◌&&◌, ◌==◌, leb, ltb, ℕ, Bool, true, false, List, [], ◌∷◌, length, Option, Some, None, ap, refl, sym, subst, arith, true≢false}
use Rattle.std.proofs.lemmas.Bool.{and_parts, cond-false, eqb-true, leb-true, ltb-true}
use Rattle.page_model.proofs.Check.{nil_is}
use Rattle.page_model.proofs.Needs.{span_is}
use Rattle.page_model.specs.Check.{is_nil, names_page}
use Rattle.page_model.specs.Fits.{FitsAs}
use Rattle.page_model.specs.Needs.{drop_record, join_record, purge_record}
use Rattle.page_model.specs.Nodes.{Format, Node}
use Rattle.page_model.specs.Pairs.{Pair, find, is_in}
use Rattle.page_model.specs.Records.{Record, refs_as}
use Rattle.page_model.specs.Redo.{all_keys}
use Rattle.page_model.specs.Tree.{IsTree, Names, lookup}
use Rattle.paged_desks.proofs.core_commit.Events.{names_to}
use Rattle.paged_desks.proofs.core_commit.History.{nodes_step}
use Rattle.paged_desks.proofs.core_commit.Nodes.{Fits, fits_off}
use Rattle.paged_desks.specs.core_state.Events as happening
use Rattle.paged_desks.specs.core_state.Needs.{are_hot, is_dead, is_settled, is_single, may, may_drop, may_join, may_purge, needs}
use Rattle.paged_desks.specs.core_state.Openings.{Opening}
use Rattle.paged_desks.specs.core_state.States.{State, gsns_of, nodes_of}
use Rattle.paged_desks.specs.core_state.Steps.{at_pages, happens, moves, page_entry, refs_of}
use Rattle.paged_desks.specs.image_model.Entries.{Entry, Kind, is_page, is_write, page_kind}

-- by its record
module _ (g : Opening) (s : State) (tree : IsTree g.format (nodes_of s)) (kind : Kind) (own : ℕ) (ps : List ℕ) (y : Record) (page : is_page kind ≡ true) (calm : is_write kind ≡ false) (refs : refs_of s ps ≡ refs_as (page_kind kind) y) (fits : FitsAs g.format (page_kind kind) (nodes_of s) y) where
  abbrev entry_of : Entry
  entry_of = page_entry kind s own (at_pages s own (s.worker own) ps) ps y

  fit : Fits g.format (nodes_of s) entry_of
  fit = record {
    page = λ _. record { refs = refs; key = λ z. absurd (true≢false (sym z ∙ calm)); fits = fits };
    none = λ z. absurd (true≢false (sym page ∙ z));
  }

  word_moved : (key : ℕ) → lookup g.format (nodes_of (moves s kind own ps y)) key ≡ lookup g.format (nodes_of s) key
  word_moved key = ap (λ (n : ℕ → Node). lookup g.format n key) (nodes_step s.page entry_of) ∙ fits_off g.format (nodes_of s) entry_of tree fit key (λ i. calm i && (0 == key))

-- ## What their needs say

single_to : (xs : List Pair) (c : ℕ) → is_single xs c ≡ true → (k : ℕ) × (xs ≡ record { key = k; word = c } ∷ [])
single_to [] c h = absurd (true≢false (sym h))
single_to (x ∷ xs) c h = let a = and_parts (x.word == c) (is_nil xs) h in
    (x.key, ap (λ (z : List Pair). x ∷ z) (nil_is xs a.1) ∙ ap (λ (z : ℕ). record { key = x.key; word = z } ∷ []) (eqb-true x.word c a.0))

dead_to : (f : Format) (z : Option ℕ) → is_dead f z ≡ true → z ≡ Some f.dead
dead_to f None h = absurd (true≢false (sym h))
dead_to f (Some x) h = ap (λ (y : ℕ). Some y) (eqb-true x f.dead h)

all_dead : (p : ℕ → Bool) (ks : List ℕ) → all_keys p ks ≡ true → (k : ℕ) → is_in k ks ≡ true → p k ≡ true
all_dead p [] h k e = absurd (true≢false (sym e))
all_dead p (j ∷ ks) h k e = go (all_dead p ks (and_parts (p j) (all_keys p ks) h).1 k) (j == k) refl
  where
    go : (is_in k ks ≡ true → p k ≡ true) → (b : Bool) → (j == k) ≡ b → p k ≡ true
    go ih true q = ap p (sym (eqb-true j k q)) ∙ (and_parts (p j) (all_keys p ks) h).0
    go ih false q = ih (sym (cond-false (j == k) true (is_in k ks) q) ∙ e)

-- ## Each

module _ (g : Opening) (s : State) (tree : IsTree g.format (nodes_of s)) (key : ℕ) where
  abbrev n : ℕ → Node
  n = nodes_of s

  pub word_join : (w l r q : ℕ) → may g s (happening.Event.Join w l r q) ≡ true → lookup g.format (nodes_of (happens g s (happening.Event.Join w l r q))) key ≡ lookup g.format (nodes_of s) key
  word_join w l r q met =
      let m = (and_parts (are_hot s (l ∷ r ∷ q ∷ [])) (needs g s (happening.Event.Join w l r q)) met).1 in
      let p0 = and_parts (s.worker w).is_open (may_join g n l r q) m in
      let p1 = and_parts (ltb q g.format.pages) (names_page (n q) l && (names_page (n q) r && (((n l).high == (n r).low) && leb (length (n l).pairs + length (n r).pairs) g.joined))) p0.1 in
      let p2 = and_parts (names_page (n q) l) (names_page (n q) r && (((n l).high == (n r).low) && leb (length (n l).pairs + length (n r).pairs) g.joined)) p1.1 in
      let p3 = and_parts (names_page (n q) r) (((n l).high == (n r).low) && leb (length (n l).pairs + length (n r).pairs) g.joined) p2.1 in
      let p4 = and_parts ((n l).high == (n r).low) (leb (length (n l).pairs + length (n r).pairs) g.joined) p3.1 in
      let lq = ltb-true q g.format.pages p1.0 in
      let a = names_to (n q) l p2.0 in
      let b = names_to (n q) r p3.0 in
      let ea = span_is g.format n tree q l a.0 lq a.1 a.2 in
      let eb = span_is g.format n tree q r b.0 lq b.1 b.2 in
      let meet = eqb-true (n l).high (n r).low p4.0 in
      word_moved g s tree Kind.Join w (l ∷ r ∷ q ∷ []) (join_record n (gsns_of s) l r q) refl refl refl
      (record {
        parent = lq;
        left_named = subst (λ (h : ℕ). Names (n q) (record { child = l; low = (n l).low; high = h })) meet (subst (Names (n q)) ea a.1);
        right_named = subst (Names (n q)) eb b.1;
        pairs = refl;
        room = (let u = leb-true (length (n l).pairs + length (n r).pairs) g.joined p4.1 in let v = g.fit in omega arith);
      }) key

  pub word_drop : (w c : ℕ) → may g s (happening.Event.Drop w c) ≡ true → lookup g.format (nodes_of (happens g s (happening.Event.Drop w c))) key ≡ lookup g.format (nodes_of s) key
  word_drop w c met =
      let m = (and_parts (are_hot s (0 ∷ c ∷ [])) (needs g s (happening.Event.Drop w c)) met).1 in
      let p0 = and_parts (s.worker w).is_open (may_drop n c) m in
      let p1 = and_parts (ltb 0 (n 0).level) (is_single (n 0).pairs c) p0.1 in
      word_moved g s tree Kind.Drop w (0 ∷ c ∷ []) (drop_record n (gsns_of s) c) refl refl refl
      (record { inner = ltb-true 0 (n 0).level p1.0; one = single_to (n 0).pairs c p1.1; level = refl; pairs = refl }) key

  pub word_purge : (w p : ℕ) (keys : List ℕ) → may g s (happening.Event.Purge w p keys) ≡ true → lookup g.format (nodes_of (happens g s (happening.Event.Purge w p keys))) key ≡ lookup g.format (nodes_of s) key
  word_purge w p keys met =
      let m = (and_parts (are_hot s (p ∷ [])) (needs g s (happening.Event.Purge w p keys)) met).1 in
      let p0 = and_parts (s.worker w).is_open (may_purge g n p keys && all_keys (λ k. is_settled g s k) keys) m in
      let p1 = and_parts (may_purge g n p keys) (all_keys (λ k. is_settled g s k) keys) p0.1 in
      let p2 = and_parts (ltb p g.format.pages) ((n p).live && (((n p).level == 0) && all_keys (λ k. is_dead g.format (find k (n p).pairs)) keys)) p1.0 in
      let p3 = and_parts (n p).live (((n p).level == 0) && all_keys (λ k. is_dead g.format (find k (n p).pairs)) keys) p2.1 in
      let p4 = and_parts ((n p).level == 0) (all_keys (λ k. is_dead g.format (find k (n p).pairs)) keys) p3.1 in
      word_moved g s tree Kind.Purge w (p ∷ []) (purge_record (gsns_of s) p keys) refl refl refl
      (record {
        page = ltb-true p g.format.pages p2.0;
        live = p3.0;
        leaf = eqb-true (n p).level 0 p4.0;
        dead = λ k e. dead_to g.format (find k (n p).pairs) (all_dead (λ k. is_dead g.format (find k (n p).pairs)) keys p4.1 k e);
      }) key
