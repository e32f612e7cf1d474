-- A step reads of an opening its sizes alone.
use Rattle.std.proofs.Common.{◌≡◌, ◌<◌, ◌≤◌, ℕ, true, ◌&&◌, ltb, leb, List, [], ◌∷◌, ◌++◌, refl, sym, ap, subst, ◌∙◌, arith}
use Rattle.std.specs.Prelude.{Bool, if◌then◌else◌}
use Rattle.map_model.specs.Maps.{MapAnswer, key_end, value_end}
use Rattle.core_paging.specs.image_model.Entries.{Entry}
use Rattle.page_model.specs.Nodes.{Format, Node}
use Rattle.page_model.specs.Tree.{IsTree}
use Rattle.core_paging.specs.core_state.Openings.{Opening}
use Rattle.core_paging.specs.core_state.States.{State, start, nodes_of}
use Rattle.core_paging.specs.core_state.Events as happening
use Rattle.core_paging.specs.core_state.Needs.{is_held_by, is_worker, may, may_put_back}
use Rattle.core_paging.specs.core_state.Steps.{happens, follows, put_back}
use Rattle.core_paging.specs.core_state.Steps as steps
use Rattle.core_paging.proofs.core_state.Runs.{run_more}
use Rattle.core_paging.specs.Paging.{Residence, Waiting}
use Rattle.core_paging.specs.core_commit.Holders.{HeldByWorkers}
use Rattle.core_paging.proofs.core_commit.HolderLemmas as commit
use Rattle.core_paging.proofs.Laws as paging
use Rattle.core_paging.proofs.LogLemmas as logs
use Rattle.core_paging.specs.Logs.{LogsWithin}
use Rattle.core_index.proofs.Legal as index
use Rattle.core_index.proofs.UndoLemmas as undo
use Rattle.core_index.specs.Undo.{EachUndo}
use Rattle.rows_trait.specs.row_words.declared.event.Event.{Event}
use Rattle.rows_trait.specs.row_words.declared.given.Given.{Given}
use Rattle.rows_trait.specs.row_words.Moments.{Moment, event_of, events_of, first_state, first_moment}
use Rattle.rows_trait.specs.row_words.Moments as moments
use Rattle.rows_trait.specs.row_words.Openings as rows
use Rattle.rows_trait.specs.row_words.Sealed.{begun, stepped, run}
use Rattle.rows_trait.specs.Views.{after_all}
use Rattle.row_opening.specs.Openings.{Opens, Opened, EveryNeed, EveryOpened, EveryReached}

-- what a step reads
record Sizes : Type 0 where
  faithful : Bool
  workers : ℕ
  frames : ℕ
  changes : ℕ
  joined : ℕ
  row_of : ℕ → ℕ
  format : Format

abbrev sizes_of : Opening → Sizes
sizes_of x = record { faithful = x.faithful; workers = x.workers; frames = x.frames; changes = x.changes; joined = x.joined; row_of = x.row_of; format = x.format }

-- the rest of an opening of these sizes
record Rest (z : Sizes) : Type 0 where
  node : ℕ → Node
  tree : IsTree z.format node
  some_worker : 0 < z.workers
  some_frame : 0 < z.frames
  fit : z.joined ≤ z.format.room
  keys : z.format.top ≤ key_end
  values : z.format.dead ≤ value_end
  base : ℕ
  gsn : ℕ → ℕ
  last : ℕ → ℕ
  low : (p : ℕ) → gsn p ≤ base

abbrev make : (z : Sizes) → Rest z → Opening
make z r = record {
  faithful = z.faithful;
  workers = z.workers;
  frames = z.frames;
  row_of = z.row_of;
  changes = z.changes;
  joined = z.joined;
  base = r.base;
  format = z.format;
  gsn = r.gsn;
  last = r.last;
  node = r.node;
  some_worker = r.some_worker;
  some_frame = r.some_frame;
  fit = r.fit;
  keys = r.keys;
  values = r.values;
  low = r.low;
  tree = r.tree;
}

abbrev rest_of : (x : Opening) → Rest (record { faithful = x.faithful; workers = x.workers; frames = x.frames; changes = x.changes; joined = x.joined; row_of = x.row_of; format = x.format })
rest_of x = record { node = x.node; tree = x.tree; some_worker = x.some_worker; some_frame = x.some_frame; fit = x.fit; keys = x.keys; values = x.values; base = x.base; gsn = x.gsn; last = x.last; low = x.low }

module _ (z : Sizes) (a b : Rest z) (s : State) where
  back_may : (n : Node) (p : ℕ) (cs : List Entry) → may_put_back (make z a) n p cs ≡ may_put_back (make z b) n p cs
  back_may n p [] = refl
  back_may n p (c ∷ cs) = refl

  same_may : (e : happening.Event) → may (make z a) s e ≡ may (make z b) s e
  same_may (happening.Event.Put_back w p) = go (s.worker w).changes
    where
      go : (cs : List Entry) → Rattle.std.specs.Prelude.◌&&◌ (Rattle.core_paging.specs.core_state.Needs.are_hot s (p ∷ [])) (Rattle.std.specs.Prelude.◌&&◌ (s.worker w).is_open (may_put_back (make z a) (s.page p).node p cs)) ≡ Rattle.std.specs.Prelude.◌&&◌ (Rattle.core_paging.specs.core_state.Needs.are_hot s (p ∷ [])) (Rattle.std.specs.Prelude.◌&&◌ (s.worker w).is_open (may_put_back (make z b) (s.page p).node p cs))
      go cs = ap (λ y. Rattle.std.specs.Prelude.◌&&◌ (Rattle.core_paging.specs.core_state.Needs.are_hot s (p ∷ [])) (Rattle.std.specs.Prelude.◌&&◌ (s.worker w).is_open y)) (back_may (s.page p).node p cs)
  same_may (happening.Event.Next w p k (MapAnswer.Pair q x)) = refl
  same_may (happening.Event.Next w p k (MapAnswer.Gap h)) = refl
  same_may (happening.Event.Next w p k (MapAnswer.Value x)) = refl
  same_may (happening.Event.Next w p k (MapAnswer.Was x)) = refl
  same_may _ = refl

  same_happens : (e : happening.Event) → happens (make z a) s e ≡ happens (make z b) s e
  same_happens (happening.Event.Put_back w p) = go (s.worker w).changes
    where
      go : (cs : List Entry) → put_back (make z a) s w p cs ≡ put_back (make z b) s w p cs
      go [] = refl
      go (c ∷ cs) = refl
  same_happens (happening.Event.Next w p k (MapAnswer.Pair q x)) = refl
  same_happens (happening.Event.Next w p k (MapAnswer.Gap h)) = refl
  same_happens (happening.Event.Next w p k (MapAnswer.Value x)) = refl
  same_happens (happening.Event.Next w p k (MapAnswer.Was x)) = refl
  same_happens _ = refl

  same_step : (e : happening.Event) → steps.step (make z a) s e ≡ steps.step (make z b) s e
  same_step e = λ i. if same_may e i then same_happens e i else s

-- openings of the same sizes
of_sizes : (x y : Opening) (s : State) (e : happening.Event) → sizes_of x ≡ sizes_of y → steps.step x s e ≡ steps.step y s e
of_sizes x y s e same = go (rest_of x)
  where
    go : (r : Rest (sizes_of x)) → steps.step (make (sizes_of x) r) s e ≡ steps.step y s e
    go = subst (λ z. (r : Rest z) → steps.step (make z r) s e ≡ steps.step y s e) (sym same) (λ r. same_step (sizes_of y) r (rest_of y) s e)

may_of_sizes : (x y : Opening) (s : State) (e : happening.Event) → sizes_of x ≡ sizes_of y → may x s e ≡ may y s e
may_of_sizes x y s e same = go (rest_of x)
  where
    go : (r : Rest (sizes_of x)) → may (make (sizes_of x) r) s e ≡ may y s e
    go = subst (λ z. (r : Rest z) → may (make z r) s e ≡ may y s e) (sym same) (λ r. same_may (sizes_of y) r (rest_of y) s e)

module _ (x : Opening) (v : Given) (o : Opens x v) where
  sizes_same : sizes_of x ≡ sizes_of (rows.opening v)
  sizes_same = λ i. record { faithful = o.faithful i; workers = o.workers i; frames = o.frames i; changes = o.changes i; joined = o.joined i; row_of = o.locks i; format = o.format i }

  runs : (es : List Event) (m : Moment) → (run v m es).core ≡ steps.run x m.core (events_of es)
  unfolding stepped
  runs [] m = refl
  runs (e ∷ es) m = runs es (moments.step (rows.opening v) m e) ∙ ap (λ s. steps.run x s (events_of es)) (sym (of_sizes x (rows.opening v) m.core (event_of e) sizes_same))

  before : (es : List Event) (m : Moment) → (moments.run (rows.opening v) m es).core ≡ steps.run x m.core (events_of es)
  before [] m = refl
  before (e ∷ es) m = before es (moments.step (rows.opening v) m e) ∙ ap (λ s. steps.run x s (events_of es)) (sym (of_sizes x (rows.opening v) m.core (event_of e) sizes_same))

  pub reached : (es : List Event) → (after_all v es).core ≡ steps.run x (start x) (events_of v.before ++ events_of es)
  unfolding begun
  reached es = runs es (first_moment (rows.opening v) v)
      ∙ (ap (λ s. steps.run x s (events_of es)) (before v.before (record { core = first_state v; answer = λ q. 0 }) ∙ ap (λ s. steps.run x s (events_of v.before)) (sym o.first))
      ∙ sym (run_more x (start x) (events_of v.before) (events_of es)))

  residence : (s : State) → Residence x s → Residence (rows.opening v) s
  residence s r = record {
    one = r.one;
    within = λ p f h. let a = r.within p f h in (subst (λ z. p < z) (ap (λ z. z.pages) o.format) a.0, subst (λ z. f < z) o.frames a.1);
    root = r.root;
    parent = λ q p lt. r.parent q p (subst (λ z. q < z) (ap (λ z. z.pages) (sym o.format)) lt);
    queue = r.queue;
    cold = r.cold;
  }

  worker_same : (w : ℕ) → is_worker x w ≡ true → is_worker (rows.opening v) w ≡ true
  worker_same w h = subst (λ n. (ltb 0 w && leb w n) ≡ true) o.workers h

  holders : (s : State) → HeldByWorkers x s → HeldByWorkers (rows.opening v) s
  holders s r = record { holder = λ j w h. worker_same w (r.holder j w h); reader = λ j w h. worker_same w (r.reader j w h); apart = r.apart; log = λ j. subst (λ n. (s.row j).log ≤ n) o.workers (r.log j) }

  undone : (s : State) → EachUndo x s → EachUndo (rows.opening v) s
  undone s u w c i = let a = u w c i in record {
    there = λ f. let e = a.there (o.faithful ∙ f) in record { page = e.page; below = subst (λ f. e.page < f.pages) o.format e.below; leaf = e.leaf; has = e.has };
    holder = subst (λ f. is_held_by (s.row (f c.key)).holder w ≡ true) o.locks a.holder;
    word = subst (λ f. c.before ≤ f.dead) o.format a.word;
  }

  within : (rows.opening v).workers < 256 → (es : List happening.Event) → LogsWithin 255 (steps.run x (start x) es)
  within few es = logs.every_last_log x 255 (let w = o.workers in omega arith) (λ p. let l = o.logs p in omega arith) es

  pub opened : (es : List Event) → Opened v es
  opened es = let all = events_of v.before ++ events_of es in record {
    tree = subst (λ s. IsTree (rows.opening v).format (nodes_of s)) (sym (reached es)) (subst (λ f. IsTree f (nodes_of (steps.run x (start x) all))) o.format (index.every_tree x all));
    places = subst (λ s. Residence (rows.opening v) s) (sym (reached es)) (residence (steps.run x (start x) all) (paging.every_residence x all));
    waiting = subst Waiting (sym (reached es)) (paging.every_waiting x all);
    logs = λ few p. subst (λ s. (s.page p).last < 256) (sym (reached es)) (let l = (within few all).page p in omega arith);
    saved = λ few p. subst (λ s. (s.saved p).last < 256) (sym (reached es)) (let l = (within few all).saved p in omega arith);
    locks = subst (λ s. HeldByWorkers (rows.opening v) s) (sym (reached es)) (holders (steps.run x (start x) all) (commit.every_holder x all));
    undo = subst (λ s. EachUndo (rows.opening v) s) (sym (reached es)) (undone (steps.run x (start x) all) (undo.every_undo x all));
  }

pub every_opened : EveryOpened
every_opened x v o = opened x v o

pub every_reached : EveryReached
every_reached x v o = reached x v o

pub every_need : EveryNeed
every_need x v o s e = may_of_sizes x (rows.opening v) s e (sizes_same x v o)
