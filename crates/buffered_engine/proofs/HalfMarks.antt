-- Whether an abort is half done is told by the events.
use Rattle.std.proofs.Common.{◌≡◌, ℕ, Bool, true, false, cond, ◌&&◌, ◌==◌, List, [], ◌∷◌, ◌++◌, refl, sym, ap, ◌∙◌, true≢false}
use Rattle.map_model.specs.Maps.{MapAnswer}
use Rattle.paged_scans.specs.image_model.Entries.{Entry}
use Rattle.page_model.specs.Nodes.{Node}
use Rattle.paged_scans.specs.core_state.Openings.{Opening}
use Rattle.paged_scans.specs.core_state.States.{State}
use Rattle.paged_scans.specs.core_state.Events.{Event}
use Rattle.paged_scans.specs.core_state.Local.{is_of}
use Rattle.paged_scans.specs.core_state.Needs.{are_hot, may, may_put_back, pages_of}
use Rattle.paged_scans.specs.core_state.Steps.{AllMet, state_after, step}
use Rattle.paged_scans.specs.core_calls.Deeds.{marks_by, marks_for}
use Rattle.paged_scans.specs.core_calls.Fronts.{Done, front, outcomes}
use Rattle.paged_scans.specs.core_calls.Marks.{Mark, back_in, is_half, mark, marks, met_in, onto}
use Rattle.paged_scans.specs.core_calls.Refusals.{Limits}
use Rattle.paged_scans.specs.core_calls.Runs.{EachTells}
use Rattle.paged_scans.proofs.core_calls.RunLemmas.{marks_more}

-- behind an event, if it was so or not before
abbrev pub half_behind : ℕ → Event → Bool → Bool
half_behind w (Event.Begin v f) is_half_aborted = cond (v == w) false is_half_aborted
half_behind w (Event.End v commit f) is_half_aborted = cond (v == w) false is_half_aborted
half_behind w (Event.Put_back v p) is_half_aborted = cond (v == w) true is_half_aborted
half_behind w _ is_half_aborted = is_half_aborted

abbrev pub halves : ℕ → List Event → Bool → Bool
halves w [] is_half_aborted = is_half_aborted
halves w (e ∷ es) is_half_aborted = halves w es (half_behind w e is_half_aborted)

pub halves_more : (w : ℕ) (es more : List Event) (is_half_aborted : Bool) → halves w (es ++ more) is_half_aborted ≡ halves w more (halves w es is_half_aborted)
halves_more w [] more is_half_aborted = refl
halves_more w (e ∷ es) more is_half_aborted = halves_more w es more (half_behind w e is_half_aborted)

-- ## One event

-- a call
called : (b : Bool) (ms : List Mark) (m : Mark) → is_half (m ∷ ms) ≡ is_half ms → is_half (cond b (m ∷ ms) ms) ≡ is_half ms
called true ms m q = q
called false ms m q = refl

-- a begin, an end or a put-back
said : (b is_half_aborted : Bool) (ms : List Mark) (m : Mark) → is_half (m ∷ ms) ≡ is_half_aborted → is_half (cond b (m ∷ ms) ms) ≡ cond b is_half_aborted (is_half ms)
said true is_half_aborted ms m q = q
said false is_half_aborted ms m q = refl

silent : (b : Bool) (ms : List Mark) → is_half (cond b ms ms) ≡ is_half ms
silent true ms = refl
silent false ms = refl

second : (p q : Bool) → (p && q) ≡ true → q ≡ true
second true q e = e
second false q e = absurd (true≢false (sym e))

back : (g : Opening) (s : State) (p : ℕ) (node : Node) (b : Bool) (ms : List Mark) (cs : List Entry) → may_put_back g node p cs ≡ true → is_half (cond b (onto (back_in g s p cs) ms) ms) ≡ cond b true (is_half ms)
back g s p node b ms [] e = absurd (true≢false (sym e))
back g s p node b ms (c ∷ cs) e = said b true ms _ refl

walked : (g : Opening) (s : State) (w p : ℕ) (b : Bool) (ms : List Mark) (a : MapAnswer) → is_half (cond b (onto (met_in g s w p a) ms) ms) ≡ is_half ms
walked g s w p b ms (MapAnswer.Pair k v) = called b ms _ refl
walked g s w p b ms _ = silent b ms

of_event : (g : Opening) (s : State) (e : Event) (w : ℕ) (ms : List Mark) → may g s e ≡ true → is_half (cond (is_of e w) (onto (mark g s e) ms) ms) ≡ half_behind w e (is_half ms)
of_event g s (Event.Begin v f) w ms m = said (v == w) false ms _ refl
of_event g s (Event.Read v p k a) w ms m = called (v == w) ms _ refl
of_event g s (Event.Next v p k a) w ms m = walked g s v p (v == w) ms a
of_event g s (Event.Change v p k x) w ms m = called (v == w) ms _ refl
of_event g s (Event.Put_back v p) w ms m =
    back g s p (s.page p).node (v == w) ms (s.worker v).changes
    (second (s.worker v).is_open (may_put_back g (s.page p).node p (s.worker v).changes) (second (are_hot s (pages_of (Event.Put_back v p))) ((s.worker v).is_open && may_put_back g (s.page p).node p (s.worker v).changes) m))
of_event g s (Event.End v commit f) w ms m = said (v == w) false ms _ refl
of_event g s e w ms m = silent (is_of e w) ms

one : (g : Opening) (s : State) (e : Event) (w : ℕ) (ms : List Mark) → may g s e ≡ true → is_half (cond (may g s e) (cond (is_of e w) (onto (mark g s e) ms) ms) ms) ≡ half_behind w e (is_half ms)
one g s e w ms m = ap (λ (b : Bool). is_half (cond b (cond (is_of e w) (onto (mark g s e) ms) ms) ms)) m ∙ of_event g s e w ms m

-- ## Events

pub half_marks : (g : Opening) (s : State) (es : List Event) (w : ℕ) (ms : List Mark) → AllMet g s es → is_half (marks g s es w ms) ≡ halves w es (is_half ms)
half_marks g s [] w ms m = refl
half_marks g s (e ∷ es) w ms m = half_marks g (step g s e) es w (cond (may g s e) (cond (is_of e w) (onto (mark g s e) ms) ms) ms) m.1 ∙ ap (halves w es) (one g s e w ms m.0)

-- ## Outcomes

pub half_told : (l : Limits) (g : Opening) (group : ℕ) (xs : List Done) → EachTells l g group xs → (w : ℕ) → is_half (marks_by w (outcomes xs)) ≡ halves w (front xs) false
half_told l g group [] t w = refl
half_told l g group (x ∷ xs) t w =
    let s = state_after g (front xs) in
    let ms = marks_by w (outcomes xs) in
    ap is_half (sym (marks_more g s x.events w ms ∙ (ap (λ (new : List Mark). new ++ ms) (t.1.told w) ∙ go (x.outcome.session == w))))
    ∙ (half_marks g s x.events w ms t.1.met ∙ (ap (halves w x.events) (half_told l g group xs t.0 w) ∙ sym (halves_more w (front xs) x.events false)))
  where
    go : (b : Bool) → cond b (marks_for x.outcome) [] ++ marks_by w (outcomes xs) ≡ cond b (marks_for x.outcome ++ marks_by w (outcomes xs)) (marks_by w (outcomes xs))
    go true = refl
    go false = refl
