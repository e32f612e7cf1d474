-- The events of an outcome: where its transaction ends, and what the events before and behind that end leave.
use Rattle.std.proofs.Common.{◌≡◌, ◌⊎◌, ℕ, Bool, true, false, cond, ◌||◌, List, [], ◌∷◌, ◌++◌, refl, sym, ap, ◌∙◌, inl, inr, true≢false}
use Rattle.std.proofs.lemmas.Bool.{or_parts, or_right}
use Rattle.map_model.specs.declared.call.Call.{Call}
use Rattle.map_model.specs.declared.call.Call.TheVariants as call
use Rattle.map_model.specs.declared.call.Refusal.{Refusal}
use Rattle.map_model.specs.declared.call.Refusal.TheVariants as refusal
use Rattle.map_model.specs.Lists.{keep, any}
use Rattle.map_model.specs.Maps.{MapAnswer}
use Rattle.core_crash.specs.image_model.Entries.{Entry}
use Rattle.core_crash.specs.core_state.Openings.{Opening}
use Rattle.core_crash.specs.core_state.States.{State, flushed_by_all}
use Rattle.core_crash.specs.core_state.Events.{Event, Mode}
use Rattle.core_crash.specs.core_state.Local.{is_sync}
use Rattle.core_crash.specs.core_state.Needs.{may}
use Rattle.core_crash.specs.core_state.Steps.{follows, put_back, happens, step, run}
use Rattle.core_calls.specs.Deeds.{Outcome}
use Rattle.core_calls.specs.Fronts.{AreFresh}
use Rattle.core_calls.specs.Steps.{is_step, is_structure, PutsBack, TakesRow, Tries, Undoes, Unlocks, Walks}
use Rattle.core_calls.specs.LogEvents.{is_log, AreSyncs}
use Rattle.group_commit.specs.Tracks.{is_ending}

-- ## No end

-- ends are steps
pub no_end : (es : List Event) → any is_ending (keep is_step es) ≡ false → any is_ending es ≡ false
no_end [] q = refl
no_end (Event.Begin w f ∷ es) q = no_end es q
no_end (Event.Lock w i mode ∷ es) q = no_end es q
no_end (Event.Read w p k a ∷ es) q = no_end es q
no_end (Event.Next w p k a ∷ es) q = no_end es q
no_end (Event.Change w p k v ∷ es) q = no_end es q
no_end (Event.Put_back w p ∷ es) q = no_end es q
no_end (Event.Unlock w i ∷ es) q = no_end es q
no_end (Event.End w commit f ∷ es) q = q
no_end (e ∷ es) q = no_end es q

pub unlocks_no_end : (w : ℕ) (es : List Event) → Unlocks w es → any is_ending es ≡ false
unlocks_no_end w [] u = refl
unlocks_no_end w (Event.Unlock v i ∷ es) u = unlocks_no_end w es u.1
unlocks_no_end w (e ∷ es) u = absurd u

pub walks_no_end : (w at : ℕ) (es : List Event) (P : ℕ → Type 0) → Walks w at es P → any is_ending es ≡ false
walks_no_end w at [] P u = refl
walks_no_end w at (Event.Lock v i Mode.Shared ∷ es) P u = walks_no_end w at es P u.1
walks_no_end w at (Event.Next v p k (MapAnswer.Pair j x) ∷ es) P u = walks_no_end w _ es P u.2
walks_no_end w at (Event.Next v p k (MapAnswer.Gap h) ∷ es) P u = walks_no_end w _ es P u.2
walks_no_end w at (e ∷ es) P u = absurd u

taken_or_not : (w i : ℕ) (mode : Mode) (es : List Event) → (es ≡ []) ⊎ (es ≡ Event.Lock w i mode ∷ []) → any is_ending es ≡ false
taken_or_not w i mode es (inl q) = ap (any is_ending) q
taken_or_not w i mode es (inr q) = ap (any is_ending) q

row_no_end : (why : Refusal) (w i : ℕ) (mode : Mode) (es : List Event) → TakesRow why w i mode es → any is_ending es ≡ false
row_no_end refusal.TooTall w i mode es u = ap (any is_ending) u
row_no_end refusal.NoPages w i mode es u = ap (any is_ending) u
row_no_end refusal.ClockSpent w i mode es u = taken_or_not w i mode es u
row_no_end refusal.RowSpent w i mode es u = taken_or_not w i mode es u
row_no_end why w i mode es u = ap (any is_ending) u

backs_no_end : (w : ℕ) (es : List Event) → PutsBack w es → any is_ending es ≡ false
backs_no_end w [] u = refl
backs_no_end w (Event.Put_back v p ∷ es) u = backs_no_end w es u.1
backs_no_end w (e ∷ es) u = absurd u

pub tries_no_end : (g : Opening) (w : ℕ) (earlier : List Outcome) (c : Call) (why : Refusal) (es : List Event) → Tries g w earlier c why es → any is_ending es ≡ false
tries_no_end g w earlier (call.Get k) why es u = row_no_end why w (g.row_of k) Mode.Shared es u
tries_no_end g w earlier (call.Put k v) why es u = row_no_end why w (g.row_of k) Mode.Alone es u
tries_no_end g w earlier (call.Del k) why es u = row_no_end why w (g.row_of k) Mode.Alone es u
tries_no_end g w earlier (call.Scan from to) (refusal.Conflict h) es u = walks_no_end w _ es _ u
tries_no_end g w earlier (call.Scan from to) refusal.RowSpent es u = walks_no_end w _ es _ u
tries_no_end g w earlier call.Abort refusal.RowSpent es u = backs_no_end w es u
tries_no_end g w earlier c why es u = ap (any is_ending) u

-- ## The end

-- steps that put changes back, and then end, and then unlock
abbrev pub Ends : ℕ → Bool → List Event → Type 0
Ends w commit (Event.Put_back v p ∷ es) = Ends w commit es
Ends w commit (Event.End v c f ∷ es) = (v ≡ w) × (c ≡ commit) × Unlocks w es
Ends w commit _ = ⊥

pub undoes_ends : (w : ℕ) (es : List Event) → Undoes w es → Ends w false es
undoes_ends w [] u = absurd u
undoes_ends w (Event.Put_back v p ∷ es) u = undoes_ends w es u.1
undoes_ends w (Event.End v false f ∷ es) u = (u.0, refl, u.1)
undoes_ends w (e ∷ es) u = absurd u

-- the one end, with what stands before it and behind it
pub record EndIn (w : ℕ) (commit : Bool) (es : List Event) : Type 0 where
  pub found : ℕ
  pub before : List Event
  pub after : List Event
  pub is : es ≡ before ++ Event.End w commit found ∷ after
  pub none_before : any is_ending before ≡ false
  pub unlocks : Unlocks w (keep is_step after)

one_before : (w : ℕ) (commit : Bool) (e : Event) (es : List Event) → is_ending e ≡ false → EndIn w commit es → EndIn w commit (e ∷ es)
one_before w commit e es n x = record {
  found = x.found;
  before = e ∷ x.before;
  after = x.after;
  is = ap (λ (l : List Event). e ∷ l) x.is;
  none_before = ap (λ (b : Bool). b || any is_ending x.before) n ∙ x.none_before;
  unlocks = x.unlocks;
}

pub end_in : (w : ℕ) (commit : Bool) (es : List Event) → Ends w commit (keep is_step es) → EndIn w commit es
end_in w commit [] u = absurd u
end_in w commit (Event.End v c f ∷ es) u = record {
  found = f;
  before = [];
  after = es;
  is = ap (λ (x : ℕ). Event.End x c f ∷ es) u.0 ∙ ap (λ (b : Bool). Event.End w b f ∷ es) u.1;
  none_before = refl;
  unlocks = u.2;
}
end_in w commit (Event.Put_back v p ∷ es) u = one_before w commit (Event.Put_back v p) es refl (end_in w commit es u)
end_in w commit (Event.Begin v f ∷ es) u = absurd u
end_in w commit (Event.Lock v i mode ∷ es) u = absurd u
end_in w commit (Event.Read v p k a ∷ es) u = absurd u
end_in w commit (Event.Next v p k a ∷ es) u = absurd u
end_in w commit (Event.Change v p k x ∷ es) u = absurd u
end_in w commit (Event.Unlock v i ∷ es) u = absurd u
end_in w commit (e ∷ es) u = one_before w commit e es refl (end_in w commit es u)

-- ## Lists of which one begins another

pub none_left : {A : Type 0} (p : A → Bool) (a b : List A) → any p (a ++ b) ≡ false → any p a ≡ false
none_left p [] b h = refl
none_left p (x ∷ a) b h = let q = or_parts (p x) (any p (a ++ b)) h in ap (λ (c : Bool). c || any p a) q.0 ∙ none_left p a b q.1

pub none_right : {A : Type 0} (p : A → Bool) (a b : List A) → any p (a ++ b) ≡ false → any p b ≡ false
none_right p [] b h = h
none_right p (x ∷ a) b h = none_right p a b (or_parts (p x) (any p (a ++ b)) h).1

some_right : {A : Type 0} (p : A → Bool) (a : List A) (x : A) (b : List A) → p x ≡ true → any p (a ++ x ∷ b) ≡ true
some_right p [] x b h = ap (λ (c : Bool). c || any p b) h
some_right p (y ∷ a) x b h = or_right (p y) (any p (a ++ x ∷ b)) (some_right p a x b h)

-- of two ways to part a list: x stands in no tail that has none like it, so what stands before x is of the other part
pub none_before : {A : Type 0} (p q : A → Bool) (a : List A) (x : A) (b c d : List A) → a ++ x ∷ b ≡ c ++ d → p x ≡ true → any p d ≡ false → any q c ≡ false → any q a ≡ false
none_before p q [] x b c d e i n m = refl
none_before p q (y ∷ a) x b [] d e i n m = absurd (true≢false (sym (some_right p (y ∷ a) x b i) ∙ (ap (any p) e ∙ n)))
none_before {A} p q (y ∷ a) x b (z ∷ c) d e i n m =
    let o = or_parts (q z) (any q c) m in
    ap (λ (k : Bool). k || any q a) (ap q (head_is e) ∙ o.0) ∙ none_before p q a x b c d (ap tail_of e) i n o.1
  where
    head_or : List A → A
    head_or [] = y
    head_or (u ∷ us) = u

    tail_of : List A → List A
    tail_of [] = []
    tail_of (u ∷ us) = us

    head_is : y ∷ (a ++ x ∷ b) ≡ z ∷ (c ++ d) → y ≡ z
    head_is k = ap head_or k

-- ## What events leave

-- whole syncs without a sync are none
pub no_log : (es : List Event) → AreSyncs false (keep is_log es) → any is_sync es ≡ false → any is_log es ≡ false
no_log es a n = go es false a n
  where
    go : (es : List Event) (b : Bool) → AreSyncs b (keep is_log es) → any is_sync es ≡ false → any is_log es ≡ false
    go [] b a n = refl
    go (Event.Flush v m ∷ es) b a n = absurd (unfinished es a n)
      where
        unfinished : (es : List Event) → AreSyncs true (keep is_log es) → any is_sync es ≡ false → ⊥
        unfinished [] a n = a
        unfinished (Event.Flush v m ∷ es) a n = unfinished es a n
        unfinished (Event.Sync m ∷ es) a n = true≢false n
        unfinished (Event.Cut x heads ∷ es) a n = a
        unfinished (e ∷ es) a n = unfinished es a n
    go (Event.Sync m ∷ es) b a n = absurd (true≢false n)
    go (Event.Cut x heads ∷ es) b a n = absurd (cut b a)
      where
        cut : (b : Bool) → AreSyncs b (Event.Cut x heads ∷ keep is_log es) → ⊥
        cut true a = a
        cut false a = a
    go (e ∷ es) b a n = go es b a n

flushed_event : (g : Opening) (s : State) (e : Event) → is_log e ≡ false → (happens g s e).flushed ≡ s.flushed
flushed_event g s (Event.Flush v m) n = absurd (true≢false n)
flushed_event g s (Event.Sync m) n = absurd (true≢false n)
flushed_event g s (Event.Next v p k a) n = go a
  where
    go : (a : MapAnswer) → (follows g s v p a).flushed ≡ s.flushed
    go (MapAnswer.Pair at x) = refl
    go (MapAnswer.Gap h) = refl
    go (MapAnswer.Value x) = refl
    go (MapAnswer.Was x) = refl
flushed_event g s (Event.Put_back v p) n = go (s.worker v).changes
  where
    go : (cs : List Entry) → (put_back g s v p cs).flushed ≡ s.flushed
    go [] = refl
    go (c ∷ cs) = refl
flushed_event g s e n = refl

pub flushed_run : (g : Opening) (es : List Event) (s : State) → any is_log es ≡ false → (run g s es).flushed ≡ s.flushed
flushed_run g [] s n = refl
flushed_run g (e ∷ es) s n = let p = or_parts (is_log e) (any is_log es) n in flushed_run g es (step g s e) p.1 ∙ go (may g s e) p.0
  where
    go : (b : Bool) → is_log e ≡ false → (cond b (happens g s e) s).flushed ≡ s.flushed
    go true q = flushed_event g s e q
    go false q = refl

-- the worker has the transaction, the last end and the debt that it had
pub record SameEnd (s t : State) (w : ℕ) : Type 0 where
  pub txn : (t.worker w).txn ≡ (s.worker w).txn
  pub end : (t.worker w).end ≡ (s.worker w).end
  pub debt : (t.worker w).debt ≡ (s.worker w).debt

same_here : (s : State) (w : ℕ) → SameEnd s s w
same_here s w = record { txn = refl; end = refl; debt = refl }

same_then : (s t u : State) (w : ℕ) → SameEnd s t w → SameEnd t u w → SameEnd s u w
same_then s t u w a b = record { txn = b.txn ∙ a.txn; end = b.end ∙ a.end; debt = b.debt ∙ a.debt }

-- it is of pages, logs and epochs, or gives a row back
abbrev is_still : Event → Bool
is_still (Event.Unlock w i) = true
is_still e = cond (is_step e) false (cond (is_structure e) false true)

still_event : (g : Opening) (s : State) (e : Event) (w : ℕ) → is_still e ≡ true → SameEnd s (happens g s e) w
still_event g s (Event.Begin v f) w q = absurd (true≢false (sym q))
still_event g s (Event.Lock v i mode) w q = absurd (true≢false (sym q))
still_event g s (Event.Read v p k a) w q = absurd (true≢false (sym q))
still_event g s (Event.Next v p k a) w q = absurd (true≢false (sym q))
still_event g s (Event.Change v p k x) w q = absurd (true≢false (sym q))
still_event g s (Event.Put_back v p) w q = absurd (true≢false (sym q))
still_event g s (Event.End v commit f) w q = absurd (true≢false (sym q))
still_event g s (Event.Split v l r p i) w q = absurd (true≢false (sym q))
still_event g s (Event.Lift v c) w q = absurd (true≢false (sym q))
still_event g s (Event.Join v l r p) w q = absurd (true≢false (sym q))
still_event g s (Event.Drop v c) w q = absurd (true≢false (sym q))
still_event g s (Event.Purge v p keys) w q = absurd (true≢false (sym q))
still_event g s e w q = record { txn = refl; end = refl; debt = refl }

still_step : (g : Opening) (s : State) (e : Event) (w : ℕ) → is_still e ≡ true → SameEnd s (step g s e) w
still_step g s e w q = go (may g s e)
  where
    go : (b : Bool) → SameEnd s (cond b (happens g s e) s) w
    go true = still_event g s e w q
    go false = same_here s w

-- behind an end the worker stays as it is
pub same_after : (g : Opening) (es : List Event) (s : State) (w : ℕ) → Unlocks w (keep is_step es) → any is_structure es ≡ false → SameEnd s (run g s es) w
same_after g [] s w u n = same_here s w
same_after g (e ∷ es) s w u n = let m = or_parts (is_structure e) (any is_structure es) n in let r = rest e u in
    same_then s (step g s e) (run g (step g s e) es) w (still_step g s e w (still e u m.0)) (same_after g es (step g s e) w r m.1)
  where
    rest : (e : Event) → Unlocks w (keep is_step (e ∷ es)) → Unlocks w (keep is_step es)
    rest (Event.Unlock v i) u = u.1
    rest (Event.Begin v f) u = absurd u
    rest (Event.Lock v i mode) u = absurd u
    rest (Event.Read v p k a) u = absurd u
    rest (Event.Next v p k a) u = absurd u
    rest (Event.Change v p k x) u = absurd u
    rest (Event.Put_back v p) u = absurd u
    rest (Event.End v commit f) u = absurd u
    rest e u = u

    still : (e : Event) → Unlocks w (keep is_step (e ∷ es)) → is_structure e ≡ false → is_still e ≡ true
    still (Event.Unlock v i) u n = refl
    still (Event.Begin v f) u n = absurd u
    still (Event.Lock v i mode) u n = absurd u
    still (Event.Read v p k a) u n = absurd u
    still (Event.Next v p k a) u n = absurd u
    still (Event.Change v p k x) u n = absurd u
    still (Event.Put_back v p) u n = absurd u
    still (Event.End v commit f) u n = absurd u
    still (Event.Split v l r p i) u n = absurd (true≢false n)
    still (Event.Lift v c) u n = absurd (true≢false n)
    still (Event.Join v l r p) u n = absurd (true≢false n)
    still (Event.Drop v c) u n = absurd (true≢false n)
    still (Event.Purge v p keys) u n = absurd (true≢false n)
    still e u n = refl

-- the end finds the logs flushed as they are
pub fresh_end : (g : Opening) (es more : List Event) (s : State) (w : ℕ) (commit : Bool) (f : ℕ) → AreFresh g s (es ++ Event.End w commit f ∷ more) → f ≡ flushed_by_all g (run g s es)
fresh_end g [] more s w commit f a = a.0
fresh_end g (e ∷ es) more s w commit f a = fresh_end g es more (step g s e) w commit f a.1
