-- What pages contain while others come and tombstones go: each is as it was, but for the entries of leaves.
use Rattle.std.proofs.Common.{◌≡◌, ◌∙◌, ◌⊎◌, inl, inr, ◌<◌, ◌||◌, ◌&&◌, ◌==◌, not, ltb, ℕ, Bool, true, false, cond, List, [], ◌∷◌, ap, refl, sym, true≢false}
use Rattle.std.proofs.lemmas.Bool.{and_from, and_parts, eq-eqb, eqb-true, ltb-true}
use Rattle.map_model.proofs.ListLemmas.{at_upd}
use Rattle.map_model.specs.Lists.{all, any}
use Rattle.paged_desks.specs.cold_pages.Laws.{IsButEntries}
use Rattle.paged_desks.proofs.core_commit.Fetched.{fetch_is}
use Rattle.paged_desks.specs.core_paging.Paging.{Residence}
use Rattle.paged_desks.specs.core_state.Events as happening
use Rattle.paged_desks.specs.core_state.Needs.{are_hot, has_hot_parent, is_dead, is_empty_frame, is_settled, may, may_purge, needs}
use Rattle.paged_desks.specs.core_state.Openings.{Opening}
use Rattle.paged_desks.specs.core_state.States.{State, gsns_of, is_cold, nodes_of}
use Rattle.paged_desks.specs.core_state.Steps.{at_pages, happens, page_entry, run, step, with_pairs}
use Rattle.paged_desks.specs.image_model.Entries.{Contents, Entry, Kind, written}
use Rattle.page_model.specs.Needs.{purge_record}
use Rattle.page_model.specs.Nodes.{Node, is_leaf}
use Rattle.page_model.specs.Pairs.{Pair, find, is_in, keep}
use Rattle.page_model.specs.Redo.{all_keys}
use Rattle.paged_desks.proofs.page_provider.Fetched.{buts_fetched}
use Rattle.paged_desks.specs.row_words.declared.event.Event.{Event}
use Rattle.paged_desks.specs.row_words.Moments.{event_of, events_of}
use Rattle.paged_desks.specs.call_parts.Deeds.{is_fetch}
use Rattle.paged_desks.specs.call_parts.Rooms.{is_paging}
use Rattle.paged_calls.specs.Growths.{AreLike, IsLike}

-- ## One page

node_same : {x y : Node} → y ≡ x → IsLike x y
node_same {x} {y} e = record { fields = e ∙ (λ i. record x { pairs = (sym e i).pairs }); other = λ _. e }

node_then : (x y w : Node) → IsLike x y → IsLike y w → IsLike x w
node_then x y w a b = record {
  fields = b.fields ∙ ap (λ (n : Node). record n { pairs = w.pairs }) a.fields;
  other = λ e. b.other (ap is_leaf a.fields ∙ e) ∙ a.other e;
}

node_back : (x y : Node) → IsLike x y → IsLike y x
node_back x y a = record {
  fields = ap (λ (n : Node). record n { pairs = x.pairs }) (sym a.fields);
  other = λ e. sym (a.other (ap is_leaf (sym a.fields) ∙ e));
}

-- the same contents but for entries
node_but : (x y : Contents) → IsButEntries x y → IsLike x.node y.node
node_but x y b = record { fields = b.fields; other = b.other }

either_like : (b : Bool) (n : Node) (x y : Contents) → IsLike n x.node → IsLike n y.node → IsLike n (cond b x y).node
either_like true n x y a c = a
either_like false n x y a c = c

pub like_same : (s t : State) → ((p : ℕ) → t.page p ≡ s.page p) → AreLike s t
like_same s t e p = node_same (ap (λ (c : Contents). c.node) (e p))

pub like_then : (s t u : State) → AreLike s t → AreLike t u → AreLike s u
like_then s t u a b p = node_then (nodes_of s p) (nodes_of t p) (nodes_of u p) (a p) (b p)

pub like_back : (s t : State) → AreLike s t → AreLike t s
like_back s t a p = node_back (nodes_of s p) (nodes_of t p) (a p)

-- ## One event

-- a page that comes is as it was saved, and so as it was
page_load : (g : Opening) (s : State) (q f p : ℕ) → may g s (happening.Event.Load q f) ≡ true → Residence g s → (happens g s (happening.Event.Load q f)).page p ≡ s.page p
page_load g s q f p met r = at_upd (λ i v. v ≡ s.page i) s.page q (s.saved q) p (sym (r.cold q cold)) (λ n. refl)
  where
    cold : is_cold (s.place q) ≡ true
    cold =
        let x = and_parts (ltb q g.format.pages) (ltb f g.frames && (is_cold (s.place q) && (has_hot_parent g s q && is_empty_frame g s f))) met in
        let y = and_parts (ltb f g.frames) (is_cold (s.place q) && (has_hot_parent g s q && is_empty_frame g s f)) x.1 in
        (and_parts (is_cold (s.place q)) (has_hot_parent g s q && is_empty_frame g s f) y.1).0

page_fetch : (g : Opening) (s : State) (q p : ℕ) (pairs : List Pair) → may g s (happening.Event.Fetch q pairs) ≡ true → Residence g s → IsButEntries (s.page p) ((happens g s (happening.Event.Fetch q pairs)).page p)
page_fetch g s q p pairs met r =
    let f = fetch_is g s q pairs met in
    buts_fetched s q pairs (r.cold q f.cold) (and_from (s.saved q).node.live ((s.saved q).node.level == 0) f.live (eq-eqb (s.saved q).node.level 0 f.leaf)) p

-- what a purge needs: its page is a leaf
pub purge_parts : (g : Opening) (s : State) (w q : ℕ) (keys : List ℕ) → may g s (happening.Event.Purge w q keys) ≡ true → (q < g.format.pages) × (is_leaf (nodes_of s q) ≡ true)
purge_parts g s w q keys met =
    let n = nodes_of s q in
    let dead = all_keys (λ k. is_dead g.format (find k n.pairs)) keys in
    let settled = all_keys (λ k. is_settled g s k) keys in
    let a = and_parts (are_hot s (q ∷ [])) (needs g s (happening.Event.Purge w q keys)) met in
    let b = and_parts (s.worker w).is_open (may_purge g (nodes_of s) q keys && settled) a.1 in
    let c = and_parts (may_purge g (nodes_of s) q keys) settled b.1 in
    let d = and_parts (ltb q g.format.pages) (n.live && ((n.level == 0) && dead)) c.0 in
    let f = and_parts n.live ((n.level == 0) && dead) d.1 in
    let h = and_parts (n.level == 0) dead f.1 in
    (ltb-true q g.format.pages d.0, and_from n.live (n.level == 0) f.0 h.0)

-- tombstones go of a leaf
page_purge : (g : Opening) (s : State) (w q : ℕ) (keys : List ℕ) (p : ℕ) → may g s (happening.Event.Purge w q keys) ≡ true → IsLike (nodes_of s p) (nodes_of (happens g s (happening.Event.Purge w q keys)) p)
page_purge g s w q keys p met = either_like ((q == p) || false) n (written r p (s.page p)) (s.page p) (go (p == q) refl) (node_same refl)
  where
    n : Node
    n = nodes_of s p

    r : Entry
    r = page_entry Kind.Purge s w (at_pages s w (s.worker w) (q ∷ [])) (q ∷ []) (purge_record (gsns_of s) q keys)

    purged : Node
    purged = record { live = n.live; level = n.level; low = n.low; high = n.high; pairs = keep (λ k. not (is_in k keys)) n.pairs }

    leaf_there : is_leaf (nodes_of s q) ≡ true
    leaf_there = (purge_parts g s w q keys met).1

    go : (b : Bool) → (p == q) ≡ b → IsLike n (cond b purged n)
    go true e = record { fields = refl; other = λ f. absurd (true≢false (sym leaf_there ∙ (ap (λ i. is_leaf (nodes_of s i)) (sym (eqb-true p q e)) ∙ f))) }
    go false e = node_same refl

-- pages come, or tombstones go
abbrev pub changes_entries : happening.Event → Bool
changes_entries (happening.Event.Purge w p keys) = true
changes_entries e = is_paging e

page_like : (g : Opening) (s : State) (e : happening.Event) (p : ℕ) → changes_entries e ≡ true → may g s e ≡ true → Residence g s → IsLike (nodes_of s p) (nodes_of (happens g s e) p)
page_like g s (happening.Event.Purge w q keys) p k met r = page_purge g s w q keys p met
page_like g s (happening.Event.Load q f) p k met r = node_same (ap (λ (c : Contents). c.node) (page_load g s q f p met r))
page_like g s (happening.Event.Fetch q ps) p k met r = node_but (s.page p) ((happens g s (happening.Event.Fetch q ps)).page p) (page_fetch g s q p ps met r)
page_like g s (happening.Event.Cool q) p k met r = node_same refl
page_like g s (happening.Event.Rescue q) p k met r = node_same refl
page_like g s (happening.Event.Save q) p k met r = node_same refl
page_like g s (happening.Event.Evict q) p k met r = node_same refl
page_like g s happening.Event.Tick p k met r = node_same refl
page_like g s (happening.Event.Miss w) p k met r = node_same refl
page_like g s (happening.Event.Flush w n) p k met r = node_same refl
page_like g s (happening.Event.Sync n) p k met r = node_same refl
page_like g s _ p k met r = absurd (true≢false (sym k))

come_one : (e : happening.Event) → is_paging e ≡ true → changes_entries e ≡ true
come_one (happening.Event.Purge w p keys) k = refl
come_one _ k = k

come_entries : (es : List happening.Event) → all is_paging es ≡ true → all changes_entries es ≡ true
come_entries [] k = refl
come_entries (e ∷ es) k = let a = and_parts (is_paging e) (all is_paging es) k in and_from (changes_entries e) (all changes_entries es) (come_one e a.0) (come_entries es a.1)

-- where the rows began faithful, or none is read again, it is as it was
page_same : (g : Opening) (s : State) (e : happening.Event) (p : ℕ) → is_paging e ≡ true → may g s e ≡ true → Residence g s → (g.faithful ≡ true) ⊎ (is_fetch e ≡ false) → (happens g s e).page p ≡ s.page p
page_same g s (happening.Event.Load q f) p k met r sure = page_load g s q f p met r
page_same g s (happening.Event.Fetch q ps) p k met r (inr none) = absurd (true≢false none)
page_same g s (happening.Event.Fetch q ps) p k met r (inl y) =
    let f = fetch_is g s q ps met in
    let own : with_pairs ps (s.saved q) ≡ s.saved q = ap (λ (l : List Pair). with_pairs l (s.saved q)) (f.own y) in
    at_upd (λ i v. v ≡ s.page i) s.page q (with_pairs ps (s.saved q)) p (own ∙ sym (r.cold q f.cold)) (λ n. refl)
page_same g s (happening.Event.Cool q) p k met r sure = refl
page_same g s (happening.Event.Rescue q) p k met r sure = refl
page_same g s (happening.Event.Save q) p k met r sure = refl
page_same g s (happening.Event.Evict q) p k met r sure = refl
page_same g s happening.Event.Tick p k met r sure = refl
page_same g s (happening.Event.Miss w) p k met r sure = refl
page_same g s (happening.Event.Flush w n) p k met r sure = refl
page_same g s (happening.Event.Sync n) p k met r sure = refl
page_same g s _ p k met r sure = absurd (true≢false (sym k))

-- ## All of them

first_false : (p q : Bool) → (p || q) ≡ false → p ≡ false
first_false true q e = e
first_false false q e = refl

second_false : (p q : Bool) → (p || q) ≡ false → q ≡ false
second_false true q e = absurd (true≢false e)
second_false false q e = e

-- whatever of them is met
module _ (g : Opening) where
  step_like : (s : State) (e : happening.Event) → Residence g s → changes_entries e ≡ true → AreLike s (step g s e)
  step_like s e r k p = go (may g s e) refl
    where
      go : (b : Bool) → may g s e ≡ b → IsLike (nodes_of s p) (nodes_of (cond b (happens g s e) s) p)
      go true met = page_like g s e p k met r
      go false none = node_same refl

  pub step_same : (s : State) (e : happening.Event) → Residence g s → is_paging e ≡ true → (g.faithful ≡ true) ⊎ (is_fetch e ≡ false) → (p : ℕ) → (step g s e).page p ≡ s.page p
  step_same s e r k sure p = go (may g s e) refl
    where
      go : (b : Bool) → may g s e ≡ b → (cond b (happens g s e) s).page p ≡ s.page p
      go true met = page_same g s e p k met r sure
      go false none = refl

  pub run_like : (es : List Event) (s : State) → ((more : List Event) → Residence g (run g s (events_of more))) → all changes_entries (events_of es) ≡ true → AreLike s (run g s (events_of es))
  run_like [] s r k p = node_same refl
  run_like (e ∷ es) s r k p =
      let a = and_parts (changes_entries (event_of e)) (all changes_entries (events_of es)) k in
      node_then (nodes_of s p) (nodes_of (step g s (event_of e)) p) (nodes_of (run g (step g s (event_of e)) (events_of es)) p) (step_like s (event_of e) (r []) a.0 p)
      (run_like es (step g s (event_of e)) (λ more. r (e ∷ more)) a.1 p)

  pub run_came : (es : List Event) (s : State) → ((more : List Event) → Residence g (run g s (events_of more))) → all is_paging (events_of es) ≡ true → AreLike s (run g s (events_of es))
  run_came es s r k = run_like es s r (come_entries (events_of es) k)

  pub run_same : (es : List Event) (s : State) → ((more : List Event) → Residence g (run g s (events_of more))) → all is_paging (events_of es) ≡ true → (g.faithful ≡ true) ⊎ (any is_fetch (events_of es) ≡ false) → (p : ℕ) → (run g s (events_of es)).page p ≡ s.page p
  run_same [] s r k sure p = refl
  run_same (e ∷ es) s r k sure p =
      let a = and_parts (is_paging (event_of e)) (all is_paging (events_of es)) k in
      run_same es (step g s (event_of e)) (λ more. r (e ∷ more)) a.1 (elim sure [ inl y ↦ inl y | inr none ↦ inr (second_false (is_fetch (event_of e)) (any is_fetch (events_of es)) none) ]) p
      ∙ step_same s (event_of e) (r []) a.0 (elim sure [ inl y ↦ inl y | inr none ↦ inr (first_false (is_fetch (event_of e)) (any is_fetch (events_of es)) none) ]) p
