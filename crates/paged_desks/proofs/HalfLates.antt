-- An abort is half done only late, in a run so long that a latch is spent.
use Rattle.std.proofs.Common.{◌≡◌, ◌≤◌, ◌+◌, ◌^◌, ◌++◌, ◌==◌, ℕ, Bool, true, false, List, [], ◌∷◌, length, refl, sym, ap, ◌∙◌, subst, arith, true≢false}
use Rattle.std.proofs.lemmas.Bool.{cond-false, cond-true}
use Rattle.std.proofs.lemmas.List.{length-append}
use Rattle.map_model.specs.declared.call.Call.{Call}
use Rattle.map_model.specs.declared.call.Call.TheVariants as call
use Rattle.map_model.specs.declared.call.Refusal.{Refusal}
use Rattle.map_model.specs.declared.call.Refusal.TheVariants as refusal
use Rattle.map_model.specs.Lists.{keep}
use Rattle.desk_parts.specs.core_state.Openings.{Opening}
use Rattle.desk_parts.specs.core_state.Events.{Event}
use Rattle.desk_parts.specs.core_calls.Deeds.{Deed, Begun, Got, Changed, Deleted, Absent, Met, Paused, Over, Committed, Aborted, Refused, Synced, Checkpointed, Unsaid, marks_by, marks_for, marks_of, reads_of}
use Rattle.desk_parts.specs.core_calls.Fronts.{Done, front, outcomes}
use Rattle.desk_parts.specs.core_calls.Marks.{Mark, is_half}
use Rattle.desk_parts.specs.core_calls.Runs.{EachTells, IsRefused, Tells}
use Rattle.desk_parts.specs.core_calls.Steps.{Goes, MayPutBack, call_behind, is_step}
use Rattle.map_model.specs.Histories.{Step}
use Rattle.desk_parts.specs.engine_trait.Calls.{is_half_done}
use Rattle.desk_parts.specs.engine_trait.Limits.{limits}

-- ## In a run

-- reads of which nobody is told put nothing back
reads_half : (us : List Unsaid) (ms : List Mark) → is_half (reads_of us ++ ms) ≡ is_half ms
reads_half [] ms = refl
reads_half (u ∷ us) ms = reads_half us ms

-- a refusal that put changes back found a latch that was spent
spent_back : (q : Call) (why : Refusal) (b : Step) (backs : List Step) → MayPutBack q why (b ∷ backs) → why ≡ refusal.RowSpent
spent_back call.Abort refusal.RowSpent b backs m = refl
spent_back q why b backs m = absurd (cc)

-- so it comes late
spent_late : (g : Opening) (xs : List Done) (x : Done) (c : Call) (b : Step) (backs : List Step) → IsRefused limits g xs x (Refused c refusal.RowSpent (b ∷ backs)) → 2 ^ 61 ≤ length (front xs) + length x.events
spent_late g xs x c b backs r =
    let own = ap (λ (es : List Event). length es) r.2 in
    let split = length-append r.0 r.1 in
    let all = length-append (front xs) r.0 in
    let late = r.3 in
    omega (arith, own, split, all, late)

is_late : (g : Opening) (xs : List Done) (x : Done) (c q : Call) (why : Refusal) (b : Step) (backs : List Step) → MayPutBack q why (b ∷ backs) → IsRefused limits g xs x (Refused c why (b ∷ backs)) → 2 ^ 61 ≤ length (front xs) + length x.events
is_late g xs x c q why b backs m r = spent_late g xs x c b backs (subst (λ (p : Refusal). IsRefused limits g xs x (Refused c p (b ∷ backs))) (spent_back q why b backs m) r)

longer : (n m more : ℕ) → n ≤ m → n ≤ m + more
longer n m more h = omega arith

-- What is half done behind a deed of the session was so before, or the deed came late.
deed_late : (g : Opening) (xs : List Done) (x : Done) (d : Deed) (us : List Unsaid) (ms : List Mark) (es : List Event) → Goes limits g x.outcome.session (outcomes xs) us d es → IsRefused limits g xs x d → (is_half ms ≡ true → 2 ^ 61 ≤ length (front xs))
    → is_half ((marks_of d ++ reads_of us) ++ ms) ≡ true → 2 ^ 61 ≤ length (front xs) + length x.events
deed_late g xs x (Begun n) us ms es go r ih h = absurd (true≢false (sym h))
deed_late g xs x (Committed n at) us ms es go r ih h = absurd (true≢false (sym h))
deed_late g xs x (Aborted c n at backs) us ms es go r ih h = absurd (true≢false (sym h))
deed_late g xs x (Refused c why (b ∷ backs)) us ms es go r ih h = is_late g xs x c (call_behind (outcomes xs) c) why b backs go.1 r
deed_late g xs x (Refused c why []) us ms es go r ih h = longer (2 ^ 61) (length (front xs)) (length x.events) (ih (sym (reads_half us ms) ∙ h))
deed_late g xs x (Got k a alone) us ms es go r ih h = longer (2 ^ 61) (length (front xs)) (length x.events) (ih (sym (reads_half us ms) ∙ h))
deed_late g xs x (Changed k v a) us ms es go r ih h = longer (2 ^ 61) (length (front xs)) (length x.events) (ih (sym (reads_half us ms) ∙ h))
deed_late g xs x (Deleted k a) us ms es go r ih h = longer (2 ^ 61) (length (front xs)) (length x.events) (ih (sym (reads_half us ms) ∙ h))
deed_late g xs x (Absent k) us ms es go r ih h = longer (2 ^ 61) (length (front xs)) (length x.events) (ih (sym (reads_half us ms) ∙ h))
deed_late g xs x (Met from to k v alone) us ms es go r ih h = longer (2 ^ 61) (length (front xs)) (length x.events) (ih (sym (reads_half us ms) ∙ h))
deed_late g xs x (Paused from to k) us ms es go r ih h = longer (2 ^ 61) (length (front xs)) (length x.events) (ih (sym (reads_half us ms) ∙ h))
deed_late g xs x (Over from to) us ms es go r ih h = longer (2 ^ 61) (length (front xs)) (length x.events) (ih (sym (reads_half us ms) ∙ h))
deed_late g xs x (Synced at) us ms es go r ih h = longer (2 ^ 61) (length (front xs)) (length x.events) (ih (sym (reads_half us ms) ∙ h))
deed_late g xs x (Checkpointed at) us ms es go r ih h = longer (2 ^ 61) (length (front xs)) (length x.events) (ih (sym (reads_half us ms) ∙ h))

-- an outcome more
more_late : (g : Opening) (group : ℕ) (xs : List Done) (x : Done) → Tells limits g group xs x → (w : ℕ) → (is_half_done w xs ≡ true → 2 ^ 61 ≤ length (front xs)) → is_half_done w (x ∷ xs) ≡ true → 2 ^ 61 ≤ length (front xs) + length x.events
more_late g group xs x t w ih h = go (x.outcome.session == w) refl
  where
    go : (b : Bool) → (x.outcome.session == w) ≡ b → 2 ^ 61 ≤ length (front xs) + length x.events
    go true q = deed_late g xs x x.outcome.deed x.outcome.unsaid (marks_by w (outcomes xs)) (keep is_step x.events) t.steps t.refused ih
        (sym (ap is_half (cond-true (x.outcome.session == w) (marks_for x.outcome ++ marks_by w (outcomes xs)) (marks_by w (outcomes xs)) q)) ∙ h)
    go false q = longer (2 ^ 61) (length (front xs)) (length x.events) (ih
        (sym (ap is_half (cond-false (x.outcome.session == w) (marks_for x.outcome ++ marks_by w (outcomes xs)) (marks_by w (outcomes xs)) q)) ∙ h))

pub half_late : (g : Opening) (group : ℕ) (xs : List Done) → EachTells limits g group xs → (w : ℕ) → is_half_done w xs ≡ true → 2 ^ 61 ≤ length (front xs)
half_late g group [] t w h = absurd (true≢false (sym h))
half_late g group (x ∷ xs) t w h = let a = length-append (front xs) x.events in let b = more_late g group xs x t.1 w (half_late g group xs t.0 w) h in omega arith
