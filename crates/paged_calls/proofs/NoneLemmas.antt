-- Tombstones that cannot go: while pages come without a flush, none can later; so where none could at first, nothing makes room but pages that are given to the tree.
use Rattle.std.proofs.Common.{◌≡◌, ◌∙◌, ◌⊎◌, inl, inr, ◌<◌, ◌&&◌, ◌||◌, ◌==◌, leb, ℕ, Bool, true, false, cond, List, [], ◌∷◌, length, Some, ap, refl, sym, subst, arith, true≢false}
use Rattle.std.proofs.lemmas.Bool.{and_from, and_parts}
use Rattle.map_model.proofs.ListLemmas.{at_upd}
use Rattle.map_model.specs.Lists.{all, any}
use Rattle.paged_desks.specs.core_paging.Paging.{Residence}
use Rattle.paged_desks.specs.core_state.Events as happening
use Rattle.paged_desks.specs.core_state.Lists.{is_empty}
use Rattle.paged_desks.specs.core_state.Needs.{is_free, is_held_by, is_settled, may}
use Rattle.paged_desks.specs.core_state.Openings.{Opening}
use Rattle.paged_desks.specs.core_state.States.{Row, State, flushed_by_all, nodes_of}
use Rattle.paged_desks.specs.core_state.Steps as core
use Rattle.paged_desks.specs.core_state.Steps.{AllMet, happens, locked}
use Rattle.paged_desks.specs.image_model.Entries.{Contents}
use Rattle.page_model.specs.Nodes.{Format, Node, holds}
use Rattle.rfa_model.specs.Reaches.{least}
use Rattle.page_model.specs.Pairs.{Pair}
use Rattle.paged_desks.specs.row_words.declared.event.Event.{Event}
use Rattle.paged_desks.specs.row_words.declared.event.Event.TheVariants as told
use Rattle.paged_desks.specs.row_words.Moments.{event_of, events_of}
use Rattle.paged_desks.specs.session_state.tidy_rules.Purges.{purgeable}
use Rattle.paged_desks.specs.session_state.tidy_rules.Rooms.{IsNextRoom, MakesRoom, NoneGoes}
use Rattle.paged_desks.specs.call_parts.Deeds.{is_fetch}
use Rattle.paged_desks.specs.call_parts.Rooms.{grows, is_paging as pages_come, makes_sync}
use Rattle.paged_calls.specs.Growths.{AreMaking, is_making}
use Rattle.paged_calls.proofs.LikeLemmas.{purge_parts, step_same}

first_false : (p q : Bool) → (p || q) ≡ false → p ≡ false
first_false true q e = e
first_false false q e = refl

second_false : (p q : Bool) → (p || q) ≡ false → q ≡ false
second_false true q e = absurd (true≢false e)
second_false false q e = e

-- ## Which can go

-- where fewer keys are settled, none can
module _ (g : Opening) (s t : State) (fewer : (k : ℕ) → is_settled g t k ≡ true → is_settled g s k ≡ true) where
  none_left : (xs : List Pair) → purgeable g s xs ≡ [] → purgeable g t xs ≡ []
  none_left [] e = refl
  none_left (x ∷ xs) e = go (x.word == g.format.dead) (is_settled g s x.key) (is_settled g t x.key) refl refl (none_left xs) e
    where
      rest : (b : Bool) → cond b (x.key ∷ purgeable g s xs) (purgeable g s xs) ≡ [] → b ≡ false
      rest true q = absurd (cc)
      rest false q = refl

      go : (d a b : Bool) → is_settled g s x.key ≡ a → is_settled g t x.key ≡ b → (purgeable g s xs ≡ [] → purgeable g t xs ≡ []) → cond (d && a) (x.key ∷ purgeable g s xs) (purgeable g s xs) ≡ [] → cond (d && b) (x.key ∷ purgeable g t xs) (purgeable g t xs) ≡ []
      go false a b p q ih f = ih f
      go true true b p q ih f = absurd (true≢false (rest true f))
      go true false false p q ih f = ih f
      go true false true p q ih f = absurd (true≢false (sym (fewer x.key q) ∙ p))

  -- of the leaf of a key
  pub none_on : (key : ℕ) → ((p : ℕ) → nodes_of t p ≡ nodes_of s p) → NoneGoes g s key → NoneGoes g t key
  none_on key same none p below over = ap (λ (n : Node). purgeable g t n.pairs) (same p) ∙ none_left (nodes_of s p).pairs (none p below (ap (λ (n : Node). holds n key) (sym (same p)) ∙ over))

-- ## By the sizes of an opening

module _ (o g : Opening) (format : o.format ≡ g.format) (rows : o.row_of ≡ g.row_of) (workers : o.workers ≡ g.workers) (s : State) where
  settled_as : (k : ℕ) → is_settled o s k ≡ is_settled g s k
  settled_as k i = is_free (s.row (rows i k)).holder && (is_empty (s.row (rows i k)).readers && leb (s.row (rows i k)).number (least s.flushed (workers i)))

  pub purgeable_as : (xs : List Pair) → purgeable o s xs ≡ purgeable g s xs
  purgeable_as [] = refl
  purgeable_as (x ∷ xs) = let ih = purgeable_as xs in (λ i. cond ((x.word == (format i).dead) && settled_as x.key i) (x.key ∷ ih i) (ih i))

  pub none_as : (key : ℕ) → NoneGoes o s key → NoneGoes g s key
  none_as key none p below over = sym (purgeable_as (nodes_of s p).pairs) ∙ none p (subst (λ (f : Format). p < f.pages) (sym format) below) over

-- ## While pages come

-- a row that its worker takes alone is settled no more
settled_lock : (g : Opening) (s : State) (own i k : ℕ) → is_settled g (happens g s (happening.Event.Lock own i happening.Mode.Alone)) k ≡ true → is_settled g s k ≡ true
settled_lock g s own i k = at_upd (λ j (o : Row). is_so o ≡ true → is_so (s.row j) ≡ true) s.row i (locked (s.row i) own happening.Mode.Alone) (g.row_of k) (taken (is_held_by (s.row i).holder own)) (λ n e. e)
  where
    is_so : Row → Bool
    is_so o = is_free o.holder && (is_empty o.readers && leb o.number (flushed_by_all g s))

    taken : (b : Bool) → is_so (cond b (s.row i) (record (s.row i) { holder = Some own; readers = [] })) ≡ true → is_so (s.row i) ≡ true
    taken true e = e
    taken false e = absurd (true≢false (sym e))

pub settled_behind : (g : Opening) (s : State) (own i : ℕ) (b : Bool) (k : ℕ) → is_settled g (cond b (happens g s (happening.Event.Lock own i happening.Mode.Alone)) s) k ≡ true → is_settled g s k ≡ true
settled_behind g s own i true k e = settled_lock g s own i k e
settled_behind g s own i false k e = e

-- without a flush nothing else is settled
settled_one : (g : Opening) (s : State) (e : happening.Event) → pages_come e ≡ true → makes_sync e ≡ false → (k : ℕ) → is_settled g (happens g s e) k ≡ true → is_settled g s k ≡ true
settled_one g s (happening.Event.Fetch p pairs) a b k h = h
settled_one g s (happening.Event.Load p f) a b k h = h
settled_one g s (happening.Event.Cool p) a b k h = h
settled_one g s (happening.Event.Rescue p) a b k h = h
settled_one g s (happening.Event.Save p) a b k h = h
settled_one g s (happening.Event.Evict p) a b k h = h
settled_one g s happening.Event.Tick a b k h = h
settled_one g s (happening.Event.Miss w) a b k h = h
settled_one g s (happening.Event.Flush w n) a b k h = absurd (true≢false b)
settled_one g s (happening.Event.Sync n) a b k h = absurd (true≢false b)
settled_one g s _ a b k h = absurd (true≢false (sym a))

settled_step : (g : Opening) (s : State) (e : happening.Event) → pages_come e ≡ true → makes_sync e ≡ false → (k : ℕ) → is_settled g (core.step g s e) k ≡ true → is_settled g s k ≡ true
settled_step g s e a b k = go (may g s e)
  where
    go : (m : Bool) → is_settled g (cond m (happens g s e) s) k ≡ true → is_settled g s k ≡ true
    go true h = settled_one g s e a b k h
    go false h = h

-- ## Room for a key

module _ (own key : ℕ) (g : Opening) where
  empty_not : (keys : List ℕ) → keys ≡ [] → 0 < length keys → ⊥
  empty_not keys e some = let n : length keys ≡ 0 = ap length e in absurd (omega arith)

  -- where none can go and no page is given to the tree, a page comes next
  come_one : (s : State) (e : Event) → NoneGoes g s key → is_making own e ≡ true → may g s (event_of e) ≡ true → IsNextRoom own g s key (event_of e) → grows (event_of e) ≡ false → pages_come (event_of e) ≡ true
  come_one s (told.Purge w p keys) none k met next still = absurd (empty_not keys (next.3 ∙ none p (purge_parts g s w p keys met).0 next.2) next.4)
  come_one s (told.Split w l r q i) none k met next still = absurd (true≢false still)
  come_one s (told.Lift w c) none k met next still = absurd (true≢false still)
  come_one s (told.Flush w n) none k met next still = refl
  come_one s (told.Sync n) none k met next still = refl
  come_one s (told.Fetch p pairs) none k met next still = refl
  come_one s (told.Load p f) none k met next still = refl
  come_one s (told.Cool p) none k met next still = refl
  come_one s (told.Rescue p) none k met next still = refl
  come_one s (told.Save p) none k met next still = refl
  come_one s (told.Evict p) none k met next still = refl
  come_one s told.Tick none k met next still = refl
  come_one s (told.Miss w) none k met next still = refl
  come_one s _ none k met next still = absurd (true≢false (sym k))

  -- and so each event is, where no log is flushed, and the rows began faithful or no leaf is read again
  pub none_stays : (es : List Event) (s : State) → ((more : List Event) → Residence g (core.run g s (events_of more))) → AreMaking own es → AllMet g s (events_of es) → MakesRoom own g s key (events_of es) → any grows (events_of es) ≡ false → any makes_sync (events_of es) ≡ false
      → (g.faithful ≡ true) ⊎ (any is_fetch (events_of es) ≡ false) → NoneGoes g s key → all pages_come (events_of es) ≡ true
  none_stays [] s r making met makes still quiet sure none = refl
  none_stays (e ∷ es) s r making met makes still quiet sure none =
      let m = and_parts (is_making own e) (all (is_making own) es) making in
      let come = come_one s e none m.0 met.0 makes.0 (first_false (grows (event_of e)) (any grows (events_of es)) still) in
      let here : (g.faithful ≡ true) ⊎ (is_fetch (event_of e) ≡ false) = elim sure [ inl y ↦ inl y | inr unread ↦ inr (first_false (is_fetch (event_of e)) (any is_fetch (events_of es)) unread) ] in
      let next = none_on g s (core.step g s (event_of e)) (settled_step g s (event_of e) come (first_false (makes_sync (event_of e)) (any makes_sync (events_of es)) quiet)) key
      (λ p. ap (λ (c : Contents). c.node) (step_same g s (event_of e) (r []) come here p)) none in
      and_from (pages_come (event_of e)) (all pages_come (events_of es)) come
      (none_stays es (core.step g s (event_of e)) (λ more. r (e ∷ more)) m.1 met.1 makes.1 (second_false (grows (event_of e)) (any grows (events_of es)) still) (second_false (makes_sync (event_of e)) (any makes_sync (events_of es)) quiet)
      (elim sure [ inl y ↦ inl y | inr unread ↦ inr (second_false (is_fetch (event_of e)) (any is_fetch (events_of es)) unread) ]) next)
