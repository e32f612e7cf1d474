-- A change that its worker has still to put back keeps its entry.
use Rattle.map_model.specs.Lists.{Has, upd}
use Rattle.map_model.specs.Maps.{MapAnswer}
use Rattle.core_commit.specs.image_model.Entries.{Kind, Entry, is_write, is_purge, word_in}
use Rattle.page_model.specs.Pairs as pairs
use Rattle.page_model.specs.Nodes.{Node, holds}
use Rattle.page_model.specs.Tree.{IsTree, entry}
use Rattle.page_model.specs.Records.{Record}
use Rattle.page_model.specs.Redo as redo
use Rattle.page_model.specs.Needs as record_needs
use Rattle.page_model.proofs.Pairs.{some_none}
use Rattle.page_model.proofs.Tree.{leaf_of}
use Rattle.page_model.proofs.Entries.{LeafWith, holds_from, entry_at, entry_beyond}
use Rattle.core_commit.specs.core_state.States.{State, Worker, start, nodes_of, gsns_of, flushed_by_all}
use Rattle.core_commit.specs.core_state.Openings.{Opening}
use Rattle.core_commit.specs.core_state.Events.{Event}
use Rattle.core_commit.specs.core_state.Lists.{is_empty}
use Rattle.core_commit.specs.core_state.Needs.{are_hot, pages_of, is_free, is_held_by, is_settled, may_put, may_purge, needs}
use Rattle.core_commit.specs.core_state.Steps.{reads, at_pages, at_row, begun, finished, page_entry, write_entry, read_entry, end_entry, moves, put_back, follows, happens, step, run}
use Rattle.core_commit.proofs.Nodes.{moved_on, Fits, fits_entry, entry_stays}
use Rattle.core_commit.proofs.History.{IsHistory, page_at, nodes, history_step}
use Rattle.core_commit.proofs.Invariants.{IsTold, Inv}
use Rattle.core_commit.proofs.Events.{same_nodes}
use Rattle.core_commit.proofs.Runs.{Good, good_event, good_start, step_keeps}
use Rattle.map_model.proofs.ListLemmas.{at_upd}
use Rattle.core_index.specs.Undo.{EveryUndo}
use Rattle.std.proofs.Common.{◌≡◌, ◌<◌, ℕ, suc, Bool, true, false, ◌&&◌, leb, ltb, ◌==◌, List, [], ◌∷◌, Option, Some, None, length, refl, sym, ap, ◌∙◌, subst, inl, inr, true≢false}
use Rattle.std.proofs.lemmas.Bool.{cases_lt, and_parts, cond-false, eq-eqb, eqb-true}

-- what is told of contents, where the opening is faithful
abbrev Told : Opening → State → Type 0
Told g s = g.faithful ≡ true → IsTold g s

-- the key of each change of an open worker has an entry then, and a closed worker has no changes
record Kept (g : Opening) (s : State) (a : Worker) : Type 0 where
  is_open : (c : Entry) → Has c a.changes → a.is_open ≡ true
  has : g.faithful ≡ true → (c : Entry) → Has c a.changes → entry g.format.pages (nodes_of s) c.key ≡ None → ⊥

abbrev AllKept : Opening → State → Type 0
AllKept g s = (w : ℕ) → Kept g s (s.worker w)

-- ## Entries

-- no entry came
entry_same : (g : Opening) (s t : State) → IsTold g s → IsTold g t → t.entries ≡ s.entries → (k : ℕ) → (entry g.format.pages (nodes_of s) k ≡ None → ⊥) → entry g.format.pages (nodes_of t) k ≡ None → ⊥
entry_same g s t i j e k has none =
    has (ap (λ (n : ℕ → Node). entry g.format.pages n k) (same_nodes g s i ∙ (ap (λ (l : List Entry). nodes (page_at g l)) (sym e) ∙ sym (same_nodes g t j))) ∙ none)

-- it fits the pages as they stood
fits_now : (g : Opening) (s t : State) → IsTold g s → IsTold g t → (x : Entry) → t.entries ≡ x ∷ s.entries → Fits g.format (nodes_of s) x
fits_now g s t i j x e =
    let hist = subst (λ (l : List Entry). IsHistory g (flushed_by_all g t) l) e j.history in
    subst (λ (n : ℕ → Node). Fits g.format n x) (sym (same_nodes g s i)) hist.0.fits

moved_now : (g : Opening) (s t : State) → IsTold g s → IsTold g t → (x : Entry) → t.entries ≡ x ∷ s.entries → nodes_of t ≡ moved_on (nodes_of s) x
moved_now g s t i j x e =
    same_nodes g t j ∙ (ap (λ (l : List Entry). nodes (page_at g l)) e ∙ (history_step g x s.entries ∙ ap (λ (n : ℕ → Node). moved_on n x) (sym (same_nodes g s i))))

-- an entry came that does not purge the key
entry_more : (g : Opening) (s t : State) → Inv g s → IsTold g s → IsTold g t → (x : Entry) → t.entries ≡ x ∷ s.entries → (k : ℕ) → (is_purge x.kind ≡ true → pairs.is_in k x.record_of.keys ≡ true → ⊥) → (entry g.format.pages (nodes_of s) k ≡ None → ⊥) → entry g.format.pages (nodes_of t) k ≡ None → ⊥
entry_more g s t inv i j x e k np has none =
    entry_stays g.format (nodes_of s) x inv.tree (fits_now g s t i j x e) k np has (ap (λ (n : ℕ → Node). entry g.format.pages n k) (sym (moved_now g s t i j x e)) ∙ none)

-- the key that is written has an entry
entry_written : (g : Opening) (s t : State) → Inv g s → IsTold g s → IsTold g t → (x : Entry) → t.entries ≡ x ∷ s.entries → is_write x.kind ≡ true → entry g.format.pages (nodes_of t) x.key ≡ None → ⊥
entry_written g s t inv i j x e wx none =
    some_none x.after (sym (fits_entry g.format (nodes_of s) x inv.tree (fits_now g s t i j x e) wx) ∙ (ap (λ (n : ℕ → Node). entry g.format.pages n x.key) (sym (moved_now g s t i j x e)) ∙ none))

-- ## Workers

-- the entries of a worker's changes stay
abbrev Carries : Opening → State → State → Worker → Type 0
Carries g s t a = g.faithful ≡ true → (c : Entry) → Has c a.changes → (entry g.format.pages (nodes_of s) c.key ≡ None → ⊥) → entry g.format.pages (nodes_of t) c.key ≡ None → ⊥

-- no change is new
kept_fewer : (g : Opening) (s t : State) (a b : Worker) → Carries g s t a → ((c : Entry) → Has c b.changes → Has c a.changes) → (a.is_open ≡ true → b.is_open ≡ true) → Kept g s a → Kept g t b
kept_fewer g s t a b m l o k = record { is_open = λ c i. o (k.is_open c (l c i)); has = λ f c i. m f c (l c i) (k.has f c (l c i)) }

-- there are none
kept_none : (g : Opening) (t : State) (b : Worker) → b.changes ≡ [] → Kept g t b
kept_none g t b e = record { is_open = λ c i. absurd (subst (Has c) e i); has = λ _ c i. absurd (subst (Has c) e i) }

-- the workers stay
all_same : (g : Opening) (s t : State) → ((v : ℕ) → Carries g s t (s.worker v)) → AllKept g s → (v : ℕ) → Kept g t (s.worker v)
all_same g s t m k v = kept_fewer g s t (s.worker v) (s.worker v) (m v) (λ c i. i) (λ o. o) (k v)

-- one of them is another
all_but : (g : Opening) (s t : State) → ((v : ℕ) → Carries g s t (s.worker v)) → AllKept g s → (w : ℕ) (b : Worker) → Kept g t b → t.worker ≡ upd s.worker w b → AllKept g t
all_but g s t m k w b o e v = subst (λ (f : ℕ → Worker). Kept g t (f v)) (sym e) (at_upd (λ _ a. Kept g t a) s.worker w b v o (λ _. all_same g s t m k v))

-- no entry came, and the worker w has the same changes
kept_same : (g : Opening) (s t : State) → Told g s → Told g t → t.entries ≡ s.entries → t.worker ≡ s.worker → AllKept g s → AllKept g t
kept_same g s t i j e q k v = subst (λ (f : ℕ → Worker). Kept g t (f v)) (sym q) (all_same g s t (λ v f c _ h. entry_same g s t (i f) (j f) e c.key h) k v)

kept_but : (g : Opening) (s t : State) → Told g s → Told g t → t.entries ≡ s.entries → (w : ℕ) (b : Worker) → b.changes ≡ (s.worker w).changes → ((s.worker w).is_open ≡ true → b.is_open ≡ true) → t.worker ≡ upd s.worker w b → AllKept g s → AllKept g t
kept_but g s t i j e w b cb ob q k =
    all_but g s t m k w b (kept_fewer g s t (s.worker w) b (m w) (λ c z. subst (Has c) cb z) ob (k w)) q
  where
    m : (v : ℕ) → Carries g s t (s.worker v)
    m v f c _ h = entry_same g s t (i f) (j f) e c.key h

-- an entry came that purges nothing
carries_more : (g : Opening) (s t : State) → Inv g s → Told g s → Told g t → (x : Entry) → t.entries ≡ x ∷ s.entries → is_purge x.kind ≡ false → (v : ℕ) → Carries g s t (s.worker v)
carries_more g s t inv i j x e np v f c _ h = entry_more g s t inv (i f) (j f) x e c.key (λ p. absurd (true≢false (sym p ∙ np))) h

kept_entry : (g : Opening) (s t : State) → Inv g s → Told g s → Told g t → (x : Entry) → t.entries ≡ x ∷ s.entries → is_purge x.kind ≡ false → (w : ℕ) (b : Worker) → b.changes ≡ (s.worker w).changes → ((s.worker w).is_open ≡ true → b.is_open ≡ true) → t.worker ≡ upd s.worker w b → AllKept g s → AllKept g t
kept_entry g s t inv i j x e np w b cb ob q k =
    all_but g s t m k w b (kept_fewer g s t (s.worker w) b (m w) (λ c z. subst (Has c) cb z) ob (k w)) q
  where
    m : (v : ℕ) → Carries g s t (s.worker v)
    m = carries_more g s t inv i j x e np

-- ## Every event

-- pages move, and no key goes
kept_moves : (g : Opening) (s : State) (K : Kind) (w : ℕ) (ps : List ℕ) (y : Record) → Inv g s → Told g s → Told g (moves s K w ps y) → is_purge K ≡ false →
    (at_pages s w (s.worker w) ps).changes ≡ (s.worker w).changes → (at_pages s w (s.worker w) ps).is_open ≡ (s.worker w).is_open → AllKept g s → AllKept g (moves s K w ps y)
kept_moves g s K w ps y inv i j np ce oe k = kept_entry g s (moves s K w ps y) inv i j x refl np w (record a { clock = x.number; changes = a.changes }) ce (λ o. oe ∙ o) refl k
  where
    a : Worker
    a = at_pages s w (s.worker w) ps

    x : Entry
    x = page_entry K s w a ps y

free_holder : (h : Option ℕ) (w : ℕ) → is_free h ≡ true → h ≡ Some w → ⊥
free_holder None w f e = true≢false (sym (ap redo.is_some e))
free_holder (Some v) w f e = true≢false (sym f)

-- what passes for all keys passes for each
of_each : (p : ℕ → Bool) (ks : List ℕ) → redo.all_keys p ks ≡ true → (k : ℕ) → pairs.is_in k ks ≡ true → p k ≡ true
of_each p [] h k e = absurd (true≢false (sym e))
of_each p (j ∷ ks) h k e = go (of_each p ks (and_parts (p j) (redo.all_keys p ks) h).1 k) (j == k) refl
  where
    go : (pairs.is_in k ks ≡ true → p k ≡ true) → (b : Bool) → (j == k) ≡ b → p k ≡ true
    go ih true q = ap p (sym (eqb-true j k q)) ∙ (and_parts (p j) (redo.all_keys p ks) h).0
    go ih false q = ih (sym (cond-false (j == k) true (pairs.is_in k ks) q) ∙ e)

-- a key that is purged has a free row, so no worker has it to put back
kept_purge : (g : Opening) (s : State) (w p : ℕ) (keys : List ℕ) → Inv g s → Told g s → Told g (happens g s (Event.Purge w p keys)) → needs g s (Event.Purge w p keys) ≡ true → AllKept g s → AllKept g (happens g s (Event.Purge w p keys))
kept_purge g s w p keys inv i j m k =
    all_but g s t carries k w (record a { clock = x.number; changes = a.changes }) (kept_fewer g s t (s.worker w) (record a { clock = x.number; changes = a.changes }) (carries w) (λ c z. z) (λ o. o) (k w)) refl
  where
    t : State
    t = happens g s (Event.Purge w p keys)

    a : Worker
    a = at_pages s w (s.worker w) (p ∷ [])

    x : Entry
    x = page_entry Kind.Purge s w a (p ∷ []) (record_needs.purge_record (gsns_of s) p keys)

    settled : (q : ℕ) → pairs.is_in q keys ≡ true → is_settled g s q ≡ true
    settled q e = of_each (λ n. is_settled g s n) keys (and_parts (may_purge g (nodes_of s) p keys) (redo.all_keys (λ n. is_settled g s n) keys) (and_parts (s.worker w).is_open (may_purge g (nodes_of s) p keys && redo.all_keys (λ n. is_settled g s n) keys) m).1).1 q e

    carries : (v : ℕ) → Carries g s t (s.worker v)
    carries v f c has h = entry_more g s t inv (i f) (j f) x refl c.key (λ _ e. free_holder (s.row (g.row_of c.key)).holder v
        (and_parts (is_free (s.row (g.row_of c.key)).holder) (is_empty (s.row (g.row_of c.key)).readers && leb (s.row (g.row_of c.key)).number (flushed_by_all g s)) (settled c.key e)).0
        ((inv.workers v).changes ((k v).is_open c has) c has)) h

kept_change : (g : Opening) (s : State) (w p n v : ℕ) → Inv g s → Told g s → Told g (happens g s (Event.Change w p n v)) → needs g s (Event.Change w p n v) ≡ true → AllKept g s → AllKept g (happens g s (Event.Change w p n v))
kept_change g s w p n v inv i j m k = all_but g s t carries k w b own refl
  where
    t : State
    t = happens g s (Event.Change w p n v)

    a : Worker
    a = at_pages s w (s.worker w) (p ∷ [])

    x : Entry
    x = write_entry g Kind.Change s w a p n v

    b : Worker
    b = record a { clock = x.number; changes = x ∷ (s.worker w).changes }

    carries : (u : ℕ) → Carries g s t (s.worker u)
    carries = carries_more g s t inv i j x refl refl

    op : (s.worker w).is_open ≡ true
    op = (and_parts (s.worker w).is_open (is_held_by (s.row (g.row_of n)).holder w && may_put g (s.page p).node p n v) (and_parts (ltb (length (s.worker w).changes) g.changes) ((s.worker w).is_open && (is_held_by (s.row (g.row_of n)).holder w && may_put g (s.page p).node p n v)) m).1).0

    has : g.faithful ≡ true → (c : Entry) → Has c b.changes → entry g.format.pages (nodes_of t) c.key ≡ None → ⊥
    has f c (inl e) none = entry_written g s t inv (i f) (j f) x refl refl (ap (λ (y : Entry). entry g.format.pages (nodes_of t) y.key) (sym e) ∙ none)
    has f c (inr z) none = carries w f c z ((k w).has f c z) none

    own : Kept g t b
    own = record { is_open = λ c z. op; has = has }

kept_put_back : (g : Opening) (s : State) (w p : ℕ) → Inv g s → Told g s → Told g (happens g s (Event.Put_back w p)) → AllKept g s → AllKept g (happens g s (Event.Put_back w p))
kept_put_back g s w p inv i j k = go (s.worker w).changes refl j
  where
    go : (cs : List Entry) → (s.worker w).changes ≡ cs → Told g (put_back g s w p cs) → AllKept g (put_back g s w p cs)
    go [] e j = k
    go (c ∷ cs) e j = all_but g s t carries k w b (kept_fewer g s t (s.worker w) b (carries w) (λ d z. subst (Has d) (sym e) (inr z)) (λ o. o) (k w)) refl
      where
        t : State
        t = put_back g s w p (c ∷ cs)

        a : Worker
        a = at_pages s w (s.worker w) (p ∷ [])

        x : Entry
        x = write_entry g Kind.Put_back s w a p c.key c.before

        b : Worker
        b = record a { clock = x.number; changes = cs }

        carries : (u : ℕ) → Carries g s t (s.worker u)
        carries = carries_more g s t inv i j x refl refl

kept_reads : (g : Opening) (s : State) (w p n : ℕ) → Inv g s → Told g s → Told g (reads g s w p n) → AllKept g s → AllKept g (reads g s w p n)
kept_reads g s w p n inv i j k =
    kept_entry g s (reads g s w p n) inv i j (read_entry w a n (word_in g.format (s.page p).node n) (is_held_by (s.row (g.row_of n)).holder w)) refl refl w a refl (λ o. o) refl k
  where
    a : Worker
    a = at_pages s w (s.worker w) (p ∷ [])

kept_end : (g : Opening) (s : State) (w : ℕ) (commit : Bool) (f : ℕ) → Inv g s → Told g s → Told g (happens g s (Event.End w commit f)) → AllKept g s → AllKept g (happens g s (Event.End w commit f))
kept_end g s w commit f inv i j k = all_but g s (happens g s (Event.End w commit f)) (carries commit j) k w (finished (s.worker w) (suc (s.worker w).clock)) (kept_none g (happens g s (Event.End w commit f)) (finished (s.worker w) (suc (s.worker w).clock)) refl) refl
  where
    carries : (b : Bool) → Told g (happens g s (Event.End w b f)) → (v : ℕ) → Carries g s (happens g s (Event.End w b f)) (s.worker v)
    carries true j = carries_more g s (happens g s (Event.End w true f)) inv i j (end_entry Kind.Commit w (s.worker w) f) refl refl
    carries false j = carries_more g s (happens g s (Event.End w false f)) inv i j (end_entry Kind.Abort w (s.worker w) f) refl refl

kept_event : (g : Opening) (s : State) (e : Event) → Inv g s → Told g s → Told g (happens g s e) → needs g s e ≡ true → AllKept g s → AllKept g (happens g s e)
kept_event g s (Event.Read w p n a) inv i j m k = kept_reads g s w p n inv i j k
kept_event g s (Event.Next w p n a) inv i j m k = go a j
  where
    go : (a : MapAnswer) → Told g (follows g s w p a) → AllKept g (follows g s w p a)
    go (MapAnswer.Pair at word) j = kept_reads g s w p at inv i j k
    go (MapAnswer.Gap b) j = kept_but g s (follows g s w p (MapAnswer.Gap b)) i j refl w (at_pages s w (s.worker w) (p ∷ [])) refl (λ o. o) refl k
    go (MapAnswer.Value b) j = k
    go (MapAnswer.Was b) j = k
kept_event g s (Event.Change w p n v) inv i j m k = kept_change g s w p n v inv i j m k
kept_event g s (Event.Put_back w p) inv i j m k = kept_put_back g s w p inv i j k
kept_event g s (Event.Split w l r q n) inv i j m k = kept_moves g s Kind.Split w (l ∷ r ∷ q ∷ []) (record_needs.split_record (nodes_of s) (gsns_of s) l r q n) inv i j refl refl refl k
kept_event g s (Event.Lift w c) inv i j m k = kept_moves g s Kind.Lift w (0 ∷ c ∷ []) (record_needs.lift_record (nodes_of s) (gsns_of s) c) inv i j refl refl refl k
kept_event g s (Event.Join w l r q) inv i j m k = kept_moves g s Kind.Join w (l ∷ r ∷ q ∷ []) (record_needs.join_record (nodes_of s) (gsns_of s) l r q) inv i j refl refl refl k
kept_event g s (Event.Drop w c) inv i j m k = kept_moves g s Kind.Drop w (0 ∷ c ∷ []) (record_needs.drop_record (nodes_of s) (gsns_of s) c) inv i j refl refl refl k
kept_event g s (Event.Purge w p keys) inv i j m k = kept_purge g s w p keys inv i j m k
kept_event g s (Event.End w commit f) inv i j m k = kept_end g s w commit f inv i j k
kept_event g s (Event.Begin w f) inv i j m k = all_but g s t (λ v f c _ h. entry_same g s t (i f) (j f) refl c.key h) k w (begun (s.worker w) f) (kept_none g t (begun (s.worker w) f) refl) refl
  where
    t : State
    t = happens g s (Event.Begin w f)
kept_event g s (Event.Lock w o mode) inv i j m k = kept_but g s (happens g s (Event.Lock w o mode)) i j refl w (at_row w (s.worker w) (s.row o)) refl (λ o. o) refl k
kept_event g s (Event.Sync n) inv i j m k = λ v. kept_fewer g s (happens g s (Event.Sync n)) (s.worker v) ((happens g s (Event.Sync n)).worker v) (λ f c _ h. entry_same g s (happens g s (Event.Sync n)) (i f) (j f) refl c.key h) (λ c z. z) (λ o. o) (k v)
kept_event g s (Event.Enter w e) inv i j m k = kept_same g s (happens g s (Event.Enter w e)) i j refl refl k
kept_event g s (Event.Leave w) inv i j m k = kept_same g s (happens g s (Event.Leave w)) i j refl refl k
kept_event g s (Event.Unlock w o) inv i j m k = kept_same g s (happens g s (Event.Unlock w o)) i j refl refl k
kept_event g s (Event.Flush w n) inv i j m k = kept_same g s (happens g s (Event.Flush w n)) i j refl refl k
kept_event g s (Event.Post w n) inv i j m k = kept_same g s (happens g s (Event.Post w n)) i j refl refl k
kept_event g s (Event.Fetch p pairs) inv i j m k = kept_same g s (happens g s (Event.Fetch p pairs)) i j refl refl k
kept_event g s (Event.Load p f) inv i j m k = kept_same g s (happens g s (Event.Load p f)) i j refl refl k
kept_event g s (Event.Cool p) inv i j m k = kept_same g s (happens g s (Event.Cool p)) i j refl refl k
kept_event g s (Event.Rescue p) inv i j m k = kept_same g s (happens g s (Event.Rescue p)) i j refl refl k
kept_event g s (Event.Save p) inv i j m k = kept_same g s (happens g s (Event.Save p)) i j refl refl k
kept_event g s (Event.Evict p) inv i j m k = kept_same g s (happens g s (Event.Evict p)) i j refl refl k
kept_event g s Event.Tick inv i j m k = kept_same g s (happens g s Event.Tick) i j refl refl k
kept_event g s (Event.Cut x heads) inv i j m k = kept_same g s (happens g s (Event.Cut x heads)) i j refl refl k
kept_event g s (Event.Peek w p n a) inv i j m k = k
kept_event g s (Event.Ask w) inv i j m k = k
kept_event g s (Event.Refused w n o) inv i j m k = k
kept_event g s (Event.Miss w) inv i j m k = k

-- ## Every list of events

-- the state is good, and the entries of what is to put back are there
record GoodKept (g : Opening) (s : State) : Type 0 where
  good : Good g s
  kept : AllKept g s

good_kept_run : (g : Opening) (es : List Event) (s : State) → GoodKept g s → GoodKept g (run g s es)
good_kept_run g [] s k = k
good_kept_run g (e ∷ es) s k = good_kept_run g es (step g s e) (step_keeps (GoodKept g) g s e k (λ m.
    (let j = good_event g s k.good e m in record {
      good = j;
      kept = kept_event g s e k.good.inv k.good.inv.told j.inv.told (and_parts (are_hot s (pages_of e)) (needs g s e) m).1 k.kept;
    })))

-- a key with an entry has its leaf, which has the key
has_leaf : (g : Opening) (s : State) (k : ℕ) → IsTree g.format (nodes_of s) → (entry g.format.pages (nodes_of s) k ≡ None → ⊥) → (p : ℕ) × (p < g.format.pages) × (holds (s.page p).node k ≡ true) × (redo.has_key k (s.page p).node ≡ true)
has_leaf g s k t has = elim (cases_lt k g.format.top) [
  | inr l ↦ absurd (has (entry_beyond g.format (nodes_of s) t k l))
  | inl l ↦ (let x = leaf_of g.format (nodes_of s) t k l in let lw : LeafWith (nodes_of s x.0) k = record { lies = x.2; leaf = x.3 } in
      (x.0, x.1, holds_from (nodes_of s x.0) k lw, found (pairs.find k (nodes_of s x.0).pairs) (λ e. has (entry_at g.format (nodes_of s) t k x.0 x.1 lw ∙ e))))
]
  where
    found : (o : Option ℕ) → (o ≡ None → ⊥) → redo.is_some o ≡ true
    found None n = absurd (n refl)
    found (Some x) n = refl

pub every_undo : EveryUndo
every_undo g es w c i =
    let k = good_kept_run g es (start g) (record { good = good_start g; kept = λ v. kept_none g (start g) ((start g).worker v) refl }) in
    let s = run g (start g) es in
    let a = k.good.inv.workers w in
    record {
      there = λ f. let l = has_leaf g s c.key k.good.inv.tree ((k.kept w).has f c i) in record { page = l.0; below = l.1; leaf = l.2; has = l.3 };
      holder = ap (λ (h : Option ℕ). is_held_by h w) (a.changes ((k.kept w).is_open c i) c i) ∙ eq-eqb w w refl;
      word = a.words ((k.kept w).is_open c i) c i;
    }
