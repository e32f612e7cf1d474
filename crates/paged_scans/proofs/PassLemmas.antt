-- The events of a walk in one leaf, as steps of a scan.
use Rattle.std.proofs.Common.{◌≡◌, ◌∙◌, ◌++◌, ◌||◌, ℕ, suc, Bool, true, false, cond, List, [], ◌∷◌, map, refl, sym, ap, subst, append-nil, true≢false}
use Rattle.std.proofs.lemmas.List.{append_assoc}
use Rattle.map_model.specs.Lists.{any, keep}
use Rattle.map_model.specs.Maps.{MapAnswer}
use Rattle.paged_calls.specs.core_index.Walks.{met_keys}
use Rattle.paged_calls.specs.core_state.Events as happening
use Rattle.paged_calls.specs.core_state.Needs.{may}
use Rattle.paged_calls.specs.core_state.Openings.{Opening}
use Rattle.paged_calls.specs.core_state.States.{State}
use Rattle.paged_calls.specs.core_state.Steps.{happens, run, step}
use Rattle.paged_calls.specs.core_calls.LogEvents.{SyncsWhere}
use Rattle.paged_calls.specs.core_calls.Scans.{TakesMet, behind, rows_met}
use Rattle.paged_calls.specs.core_calls.Steps.{Walks, is_step, is_structure}
use Rattle.paged_calls.specs.engine_calls.Scans.{PassesGaps}

-- ## Lists of steps

-- session w takes rows, shared
abbrev pub locks : (w : ℕ) → List ℕ → List happening.Event
locks w [] = []
locks w (i ∷ is) = happening.Event.Lock w i happening.Mode.Shared ∷ locks w is

-- a walk by these rows
abbrev pub walk : (w page at : ℕ) → List ℕ → MapAnswer → List happening.Event
walk w page at rows a = locks w rows ++ happening.Event.Next w page at a ∷ []

-- each is a step
pub walk_steps : (w page at : ℕ) (rows : List ℕ) (a : MapAnswer) → keep is_step (walk w page at rows a) ≡ walk w page at rows a
walk_steps w page at [] a = refl
walk_steps w page at (i ∷ rows) a = ap (λ es. happening.Event.Lock w i happening.Mode.Shared ∷ es) (walk_steps w page at rows a)

pub walk_structure : (w page at : ℕ) (rows : List ℕ) (a : MapAnswer) → any is_structure (walk w page at rows a) ≡ false
walk_structure w page at [] a = refl
walk_structure w page at (i ∷ rows) a = walk_structure w page at rows a

-- nothing is done to logs
pub walk_syncs : (P : State → Type 0) (g : Opening) (w page at : ℕ) (rows : List ℕ) (a : MapAnswer) (s : State) → SyncsWhere P g s false (walk w page at rows a)
walk_syncs P g w page at [] a s = tt
walk_syncs P g w page at (i ∷ rows) a s = walk_syncs P g w page at rows a (step g s (happening.Event.Lock w i happening.Mode.Shared))

-- it comes to the pair, or to the gap's bound
pub walk_walks : (w page at : ℕ) (rows : List ℕ) (key x : ℕ) (P : ℕ → Type 0) → P (suc key) → Walks w at (walk w page at rows (MapAnswer.Pair key x)) P
walk_walks w page at [] key x P p = (refl, refl, p)
walk_walks w page at (i ∷ rows) key x P p = (refl, walk_walks w page at rows key x P p)

pub gap_walks : (w page at : ℕ) (rows : List ℕ) (high : ℕ) (P : ℕ → Type 0) → P high → Walks w at (walk w page at rows (MapAnswer.Gap high)) P
gap_walks w page at [] high P p = (refl, refl, p)
gap_walks w page at (i ∷ rows) high P p = (refl, gap_walks w page at rows high P p)

pub gap_passes : (w page at : ℕ) (rows : List ℕ) (high : ℕ) → PassesGaps (walk w page at rows (MapAnswer.Gap high))
gap_passes w page at [] high = tt
gap_passes w page at (i ∷ rows) high = gap_passes w page at rows high

pub locks_pass : (w : ℕ) (rows : List ℕ) → PassesGaps (locks w rows)
locks_pass w [] = tt
locks_pass w (i ∷ rows) = locks_pass w rows

pub locks_walk : (w at : ℕ) (rows : List ℕ) (P : ℕ → Type 0) → P at → Walks w at (locks w rows) P
locks_walk w at [] P p = p
locks_walk w at (i ∷ rows) P p = (refl, locks_walk w at rows P p)

-- ## The rows that it takes

-- to take a row changes no page
lock_page : (g : Opening) (s : State) (w i : ℕ) → (step g s (happening.Event.Lock w i happening.Mode.Shared)).page ≡ s.page
lock_page g s w i = go (may g s (happening.Event.Lock w i happening.Mode.Shared))
  where
    go : (b : Bool) → (cond b (happens g s (happening.Event.Lock w i happening.Mode.Shared)) s).page ≡ s.page
    go true = refl
    go false = refl

rows_same : (g : Opening) (s t : State) (page at : ℕ) → t.page ≡ s.page → rows_met g t page at ≡ rows_met g s page at
rows_same g s t page at e i = map g.row_of (met_keys g.format at (e i page).node.pairs)

-- those of the entries that it meets, and no others
pub walk_takes : (g : Opening) (w page at : ℕ) (a : MapAnswer) (P : State → ℕ → List ℕ → Type 0) (rows taken : List ℕ) (s : State) → taken ++ rows ≡ rows_met g s page at
    → P (run g s (walk w page at rows a)) (behind a at) [] → TakesMet g s at taken (walk w page at rows a) P
walk_takes g w page at a P [] taken s e p = (sym (append-nil taken) ∙ e, p)
walk_takes g w page at a P (i ∷ rows) taken s e p =
    let t = step g s (happening.Event.Lock w i happening.Mode.Shared) in
    walk_takes g w page at a P rows (taken ++ i ∷ []) t (append_assoc taken (i ∷ []) rows ∙ (e ∙ sym (rows_same g s t page at (lock_page g s w i)))) p

-- where it has taken rows alone
pub locks_take : (g : Opening) (w at : ℕ) (P : State → ℕ → List ℕ → Type 0) (rows taken : List ℕ) (s : State) → P (run g s (locks w rows)) at (taken ++ rows) → TakesMet g s at taken (locks w rows) P
locks_take g w at P [] taken s p = subst (P s at) (append-nil taken) p
locks_take g w at P (i ∷ rows) taken s p =
    let t = step g s (happening.Event.Lock w i happening.Mode.Shared) in
    locks_take g w at P rows (taken ++ i ∷ []) t (subst (P (run g t (locks w rows)) at) (sym (append_assoc taken (i ∷ []) rows)) p)

-- ## One behind another

pub keep_more : (p : happening.Event → Bool) (es fs : List happening.Event) → keep p (es ++ fs) ≡ keep p es ++ keep p fs
keep_more p [] fs = refl
keep_more p (e ∷ es) fs = go (p e) (keep_more p es fs)
  where
    go : (b : Bool) → keep p (es ++ fs) ≡ keep p es ++ keep p fs → cond b (e ∷ keep p (es ++ fs)) (keep p (es ++ fs)) ≡ cond b (e ∷ keep p es) (keep p es) ++ keep p fs
    go true ih = ap (λ ys. e ∷ ys) ih
    go false ih = ih

pub walks_more : (w at : ℕ) (es fs : List happening.Event) (P Q : ℕ → Type 0) → Walks w at es P → ((k : ℕ) → P k → Walks w k fs Q) → Walks w at (es ++ fs) Q
walks_more w at [] fs P Q a h = h at a
walks_more w at (happening.Event.Lock v i happening.Mode.Shared ∷ es) fs P Q a h = (a.0, walks_more w at es fs P Q a.1 h)
walks_more w at (happening.Event.Next v p k (MapAnswer.Pair j x) ∷ es) fs P Q a h = (a.0, a.1, walks_more w (suc j) es fs P Q a.2 h)
walks_more w at (happening.Event.Next v p k (MapAnswer.Gap high) ∷ es) fs P Q a h = (a.0, a.1, walks_more w high es fs P Q a.2 h)
walks_more w at (_ ∷ es) fs P Q a h = absurd a

-- of steps among other events
pub steps_more : (w at : ℕ) (es fs : List happening.Event) (P Q : ℕ → Type 0) → Walks w at (keep is_step es) P → ((k : ℕ) → P k → Walks w k (keep is_step fs) Q) → Walks w at (keep is_step (es ++ fs)) Q
steps_more w at es fs P Q a h = subst (λ ys. Walks w at ys Q) (sym (keep_more is_step es fs)) (walks_more w at (keep is_step es) (keep is_step fs) P Q a h)

passes_more : (es fs : List happening.Event) → PassesGaps es → PassesGaps fs → PassesGaps (es ++ fs)
passes_more [] fs a b = b
passes_more (happening.Event.Lock w i happening.Mode.Shared ∷ es) fs a b = passes_more es fs a b
passes_more (happening.Event.Next w p k (MapAnswer.Gap h) ∷ es) fs a b = passes_more es fs a b
passes_more (_ ∷ es) fs a b = absurd a

pub gaps_more : (es fs : List happening.Event) → PassesGaps (keep is_step es) → PassesGaps (keep is_step fs) → PassesGaps (keep is_step (es ++ fs))
gaps_more es fs a b = subst PassesGaps (sym (keep_more is_step es fs)) (passes_more (keep is_step es) (keep is_step fs) a b)

pub takes_more : (g : Opening) (P Q : State → ℕ → List ℕ → Type 0) (es fs : List happening.Event) (s : State) (at : ℕ) (taken : List ℕ) → TakesMet g s at taken es P → ((t : State) (k : ℕ) (rows : List ℕ) → t ≡ run g s es → P t k rows → TakesMet g t k rows fs Q) → TakesMet g s at taken (es ++ fs) Q
takes_more g P Q [] fs s at taken a h = h s at taken refl a
takes_more g P Q (happening.Event.Lock w i mode ∷ es) fs s at taken a h = takes_more g P Q es fs (step g s (happening.Event.Lock w i mode)) at (taken ++ i ∷ []) a h
takes_more g P Q (happening.Event.Next w p k b ∷ es) fs s at taken a h = (a.0, takes_more g P Q es fs (step g s (happening.Event.Next w p k b)) (behind b at) [] a.1 h)
takes_more g P Q (e ∷ es) fs s at taken a h = takes_more g P Q es fs (step g s e) at taken a h

-- ## Events that are no steps

-- by them no scan goes on
pub idle_steps : (es : List happening.Event) → any is_step es ≡ false → keep is_step es ≡ []
idle_steps [] e = refl
idle_steps (x ∷ es) e = go (is_step x) e (idle_steps es)
  where
    go : (b : Bool) → (b || any is_step es) ≡ false → (any is_step es ≡ false → keep is_step es ≡ []) → cond b (x ∷ keep is_step es) (keep is_step es) ≡ []
    go true r ih = absurd (true≢false r)
    go false r ih = ih r

-- it stands where it stood
pub idle_takes : (g : Opening) (P : State → ℕ → List ℕ → Type 0) (es : List happening.Event) (s : State) (at : ℕ) (taken : List ℕ) → any is_step es ≡ false → P (run g s es) at taken → TakesMet g s at taken es P
idle_takes g P [] s at taken e p = p
idle_takes g P (happening.Event.Lock w i mode ∷ es) s at taken e p = absurd (true≢false e)
idle_takes g P (happening.Event.Next w q k b ∷ es) s at taken e p = absurd (true≢false e)
idle_takes g P (x ∷ es) s at taken e p = idle_takes g P es (step g s x) at taken (rest (is_step x) (any is_step es) e) p
  where
    rest : (a b : Bool) → (a || b) ≡ false → b ≡ false
    rest true b q = absurd (true≢false q)
    rest false b q = q
