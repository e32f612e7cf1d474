-- Line by line.
use Rattle.std.proofs.Common.{◌≡◌, inl, inr, ◌+◌, ℕ, false, true, List, [], ◌∷◌, ◌++◌, length, Option, Some, None, refl, sym, ap, ◌∙◌, subst, arith, append_assoc, Bool, cond, true≢false}
use Rattle.std.proofs.lemmas.List.{append-nil, length-append}
use Rattle.map_model.specs.Journals.{Journal, Name}
use Rattle.map_model.specs.Outputs.{Reply}
use Rattle.map_model.specs.Pairings.{is_last}
use Rattle.disk_runs.specs.image_model.Images.{Image}
use Rattle.disk_runs.specs.core_state.Openings.{Opening}
use Rattle.disk_runs.specs.core_state.Events.{Event}
use Rattle.disk_runs.specs.core_state.Steps.{run, state_after}
use Rattle.lean_disk.specs.Story.{Crash, Story}
use Rattle.lean_disk.proofs.MomentLemmas.{weaker}
use Rattle.lean_disk.proofs.MomentLemmas as moments
use Rattle.disk_runs.specs.disk_slots.declared.master.Master.{Master}
use Rattle.disk_runs.specs.disk_image.Laws.{EveryAgreement}
use Rattle.disk_runs.specs.disk_image.Shown.{Areas, image_by}
use Rattle.disk_runs.specs.core_disk.Held.{HoldsRun}
use Rattle.disk_runs.specs.core_disk.Shows.{EveryShown}
use Rattle.disk_runs.specs.Masters.{IsOfRunBy}
use Rattle.disk_runs.specs.Moments.{HoldsSome}
use Rattle.disk_runs.proofs.LineLemmas.{opened}
use Rattle.core_calls.specs.Crashes.{EveryRunCrash, WithOneInHand}
use Rattle.core_calls.specs.Deeds.{Outcome, answered, commits}
use Rattle.core_calls.specs.Durables.{due, durables}
use Rattle.core_calls.specs.Durables as durable
use Rattle.core_calls.specs.Fronts.{Done, front, outcomes}
use Rattle.core_calls.specs.Marks.{Mark, Began, Called, Back, Ended, marks}
use Rattle.core_calls.specs.Printed.{due_lines, durable_lines, printed}
use Rattle.core_calls.specs.Refusals.{Limits}
use Rattle.core_calls.specs.Runs.{EachTells}
use Rattle.core_calls.proofs.RunLemmas.{marks_run, marks_more}
use Rattle.run_crashes.specs.Laws.{CommitsNone, EveryCrashedLine, EveryCrashedLineFor, EveryLine, EveryLineFor, EveryReopenedFor, EveryStop, EveryStopFor, OfEachFirst, Passing}
use Rattle.run_crashes.specs.Lines.{FellIn, Between, InCall, Stopped, CallLeaves, PutLeaves, Recovers, RunLeft, lines_of, next_of, notes_of, outcome_of}
use Rattle.run_crashes.proofs.ReopenLemmas.{every_reopened_for}

-- ## Lists

-- what stands before some line of these is durable lines
abbrev Durables : List Reply → Type 0
Durables later = (ones : List Name) × (durable_lines ones ≡ later)

abbrev is_none : {A : Type 0} → List A → Bool
is_none [] = true
is_none (x ∷ xs) = false

cons_nil : {A : Type 0} (x : A) (xs : List A) → x ∷ xs ≡ [] → ⊥
cons_nil x xs e = true≢false (sym (ap is_none e))

abbrev head_or : Reply → List Reply → Reply
head_or y [] = y
head_or y (z ∷ zs) = z

abbrev tail_of : List Reply → List Reply
tail_of [] = []
tail_of (y ∷ ys) = ys

same_tail : (x y : Reply) (xs ys : List Reply) → x ∷ xs ≡ y ∷ ys → xs ≡ ys
same_tail x y xs ys e = ap tail_of e

same_head : (x y : Reply) (xs ys : List Reply) → x ∷ xs ≡ y ∷ ys → x ≡ y
same_head x y xs ys e = ap (head_or x) e

no_more : (zs : List Reply) (y : Reply) (ys : List Reply) → zs ++ y ∷ ys ≡ [] → ⊥
no_more [] y ys q = cons_nil y ys q
no_more (z ∷ zs) y ys q = cons_nil z (zs ++ y ∷ ys) q

abbrev durable_line : Name → Reply
durable_line n = Reply.Durable n.session n.number

cut_off : (later : List Reply) (o : Reply) (first : List Reply) (ns : List Name) (r : Reply) → later ++ o ∷ first ≡ durable_lines ns ++ r ∷ [] → Durables later
cut_off [] o first ns r e = ([], refl)
cut_off (x ∷ later) o first [] r e = absurd (no_more later o first (same_tail x r (later ++ o ∷ first) [] e))
cut_off (x ∷ later) o first (m ∷ ms) r e =
    let rest = cut_off later o first ms r (same_tail x (durable_line m) (later ++ o ∷ first) (durable_lines ms ++ r ∷ []) e) in
    (m ∷ rest.0, ap (λ (z : List Reply). durable_line m ∷ z) rest.1 ∙ ap (λ (y : Reply). y ∷ later) (sym (same_head x (durable_line m) (later ++ o ∷ first) (durable_lines ms ++ r ∷ []) e)))

nil_first : (a b : List Event) → a ++ b ≡ [] → a ≡ []
nil_first [] b e = refl
nil_first (x ∷ a) b e = absurd (cons_nil x (a ++ b) e)

-- behind no event of a call the disk holds what one after those before it leaves
at_end : (g : Opening) (es : List Event) (n : Master) (area : Areas) (a : HoldsSome g es [] n area) → HoldsRun g es a.master area
at_end g es n area a = subst (λ (k : List Event). HoldsRun g k a.master area) (ap (λ (k : List Event). es ++ k) (nil_first a.first a.rest a.is) ∙ append-nil es) a.holds

-- by a master that is of the run behind these
of_end : (g : Opening) (es : List Event) (m n : Master) (area : Areas) (a : HoldsSome g es [] n area) → IsOfRunBy es m n → IsOfRunBy es m a.master
of_end g es m n area a q =
    subst (λ (k : List Event). IsOfRunBy k m a.master) (ap (λ (k : List Event). es ++ k) (nil_first a.first a.rest a.is) ∙ append-nil es) (opened es a.first m n a.master q a.no_earlier)

-- ## What commits nothing

commits_later : (a b : List Mark) → commits (a ++ b) ≡ false → commits b ≡ false
commits_later [] b e = e
commits_later (Ended true n at ∷ a) b e = absurd (true≢false e)
commits_later (Ended false n at ∷ a) b e = commits_later a b e
commits_later (Began n ∷ a) b e = commits_later a b e
commits_later (Called k a alone ∷ ms) b e = commits_later ms b e
commits_later (Back k a ∷ ms) b e = commits_later ms b e

-- has not committed anything on its way
part : (g : Opening) (xs : List Done) (first rest es : List Event) → first ++ rest ≡ es → CommitsNone g xs es → CommitsNone g xs first
part g xs first rest es is none w =
    commits_later (marks g (run g (state_after g (front xs)) first) rest w []) (marks g (state_after g (front xs)) first w [])
    (ap commits (sym (marks_run g (state_after g (front xs)) first rest w [] ∙ marks_more g (run g (state_after g (front xs)) first) rest w (marks g (state_after g (front xs)) first w [])))
    ∙ (ap (λ (k : List Event). commits (marks g (state_after g (front xs)) k w [])) is ∙ none w))

-- ## What is in hand

-- with no next outcome none is in hand
none_in_hand : (i : Image) (told : List Outcome) (next : Option Outcome) (by_then : Journal) → WithOneInHand i told None by_then → WithOneInHand i told next by_then
none_in_hand i told next by_then (inl e) = inl e
none_in_hand i told next by_then (inr h) = absurd (no h.outcome h.is_next)
  where
    no : (x : Outcome) → ◌≡◌ {A = Option Outcome} None (Some x) → ⊥
    no x e = cc

-- and no call was in hand, so it fell between two or in one that stopped
none_fell : (Such : List Event → Type 0) (next : Option Done) (es : List Event) → FellIn Such None es → FellIn Such next es
none_fell Such next es (Between e) = Between e
none_fell Such next es (InCall x is after e) = absurd (no x is)
  where
    no : (y : Done) → ◌≡◌ {A = Option Done} None (Some y) → ⊥
    no y q = cc
none_fell Such next es (Stopped such) = Stopped such

any_next : (g : Opening) (Such : List Done → List Event → Type 0) (heard : List Done) (next : Option Done) (out : List Reply) (m : Master) (area : Areas) → Recovers g Such heard None out m area
    → Recovers g Such heard next out m area
any_next g Such heard next out m area r = record {
  n = r.n;
  behind = r.behind;
  fell = none_fell (Such heard) next r.behind r.fell;
  of_run = r.of_run;
  holds = r.holds;
  by_then = r.by_then;
  by_then_is = none_in_hand (image_by r.n area) (outcomes heard) (outcome_of next) r.by_then r.by_then_is;
  falls = r.falls;
  serial = r.serial;
  numbers = r.numbers;
  kept_ones = r.kept_ones;
  kept_is = r.kept_is;
  closed = r.closed;
  reported = r.reported;
  clean = r.clean;
  stands = r.stands;
}

-- the oldest stays so where one more comes, or comes where there was none
one_more : (g : Opening) (Such : List Done → List Event → Type 0) (x : Done) (unheard heard : List Done) (out : List Reply) (m : Master) (area : Areas) → Recovers g Such heard (next_of unheard) out m area
    → Recovers g Such heard (next_of (x ∷ unheard)) out m area
one_more g Such x [] heard out m area r = any_next g Such heard (Some x) out m area r
one_more g Such x (y ∷ unheard) heard out m area r = r

-- ## Wider

-- what is such an event of the one is such of the other
pub wider : (g : Opening) (Such Other : List Done → List Event → Type 0) → ((heard : List Done) (es : List Event) → Such heard es → Other heard es) → (s0 : Crash) (m : Master) (xs : List Done) (c : Crash)
    → RunLeft g Such xs s0 m c → RunLeft g Other xs s0 m c
wider g Such Other so s0 m xs c r = record {
  unheard = r.unheard;
  heard = r.heard;
  calls = r.calls;
  missing = r.missing;
  out = r.out;
  lines = r.lines;
  notes = r.notes;
  recovers = λ fair. recovered (r.recovers fair);
}
  where
    fell : (next : Option Done) (es : List Event) → FellIn (Such r.heard) next es → FellIn (Other r.heard) next es
    fell next es (Between e) = Between e
    fell next es (InCall x is after e) = InCall x is after e
    fell next es (Stopped such) = Stopped (so r.heard es such)

    recovered : Recovers g Such r.heard (next_of r.unheard) r.out m c.image → Recovers g Other r.heard (next_of r.unheard) r.out m c.image
    recovered a = record {
      n = a.n;
      behind = a.behind;
      fell = fell (next_of r.unheard) a.behind a.fell;
      of_run = a.of_run;
      holds = a.holds;
      by_then = a.by_then;
      by_then_is = a.by_then_is;
      falls = a.falls;
      serial = a.serial;
      numbers = a.numbers;
      kept_ones = a.kept_ones;
      kept_is = a.kept_is;
      closed = a.closed;
      reported = a.reported;
      clean = a.clean;
      stands = a.stands;
    }

-- ## Moments

-- what is put behind the answer to an outcome is durable lines
names_of : (g : Opening) (xs : List Done) (x : Done) → (ns : List Name) × (due_lines g xs x ≡ durable_lines ns)
names_of g xs x = go (is_last (answered x.outcome.deed))
  where
    now : List Name
    now = due g (state_after g (front (x ∷ xs))) (durables g (durable.moments xs))

    go : (b : Bool) → (ns : List Name) × (cond b (durable_lines now) [] ≡ durable_lines ns)
    go true = (now, refl)
    go false = ([], refl)

abbrev reply_of : Done → Reply
reply_of x = Reply.Answered x.outcome.session (answered x.outcome.deed)

module _ (Such : List Done → List Event → Type 0) (reopened : EveryReopenedFor Such) (l : Limits) (g : Opening) (group : ℕ) (s0 : Crash) (m n : Master) where
  pub more : (xs : List Done) (c : Crash) (x : Done) → RunLeft g Such xs s0 m c → RunLeft g Such (x ∷ xs) s0 m c
  more xs c x r = record {
    unheard = x ∷ r.unheard;
    heard = r.heard;
    calls = ap (λ (k : List Done). x ∷ k) r.calls;
    missing = r.missing;
    out = r.out;
    lines = r.lines;
    notes = r.notes;
    recovers = λ fair. one_more g Such x r.unheard r.heard r.out m c.image (r.recovers fair);
  }

  -- all lines before the call are out, and none of it
  pub call : (xs : List Done) (c : Crash) (x : Done) → EachTells l g group (x ∷ xs) → IsOfRunBy (front xs) m n → CallLeaves g xs x.events s0 n c → RunLeft g Such (x ∷ xs) s0 m c
  call xs c x t q h = record {
    unheard = x ∷ [];
    heard = xs;
    calls = refl;
    missing = [];
    out = printed g xs;
    lines = refl;
    notes = h.notes;
    recovers = λ fair. let a = h.some fair in
        (reopened l g group xs m a.master c.image).between x a.first a.rest [] (printed g xs) t a.is refl (opened (front xs) a.first m n a.master q a.no_earlier) a.holds;
  }

  pub stopped : (xs : List Done) (c : Crash) (es : List Event) → EachTells l g group xs → CommitsNone g xs es → OfEachFirst (Such xs) es → IsOfRunBy (front xs) m n → CallLeaves g xs es s0 n c → RunLeft g Such xs s0 m c
  stopped xs c es t none such q h = record {
    unheard = [];
    heard = xs;
    calls = refl;
    missing = [];
    out = printed g xs;
    lines = refl;
    notes = h.notes;
    recovers = λ fair. let a = h.some fair in
        (reopened l g group xs m a.master c.image).stopped a.first [] (printed g xs) t (part g xs a.first a.rest es a.is none) (such a.first a.rest a.is) refl (opened (front xs) a.first m n a.master q a.no_earlier) a.holds;
  }

  -- between two calls
  pub behind : (xs : List Done) (c : Crash) → EachTells l g group xs → IsOfRunBy (front xs) m n → CallLeaves g xs [] s0 n c → RunLeft g Such xs s0 m c
  behind xs c t q h = record {
    unheard = [];
    heard = xs;
    calls = refl;
    missing = [];
    out = printed g xs;
    lines = refl;
    notes = h.notes;
    recovers = λ fair. let a = h.some fair in
        (reopened l g group xs m a.master c.image).behind [] (printed g xs) t refl (of_end g (front xs) m n c.image a q) (at_end g (front xs) n c.image a);
  }

  -- no line of the outcome is out
  silent : (xs : List Done) (c : Crash) (x : Done) → EachTells l g group (x ∷ xs) → IsOfRunBy (front (x ∷ xs)) m n → PutLeaves g xs x s0 n c → c.notes ≡ notes_of g xs s0 → RunLeft g Such (x ∷ xs) s0 m c
  silent xs c x t q h notes = record {
    unheard = x ∷ [];
    heard = xs;
    calls = refl;
    missing = [];
    out = printed g xs;
    lines = refl;
    notes = notes;
    recovers = λ fair. let a = h.some fair in
        (reopened l g group xs m a.master c.image).between x x.events [] [] (printed g xs) t (append-nil x.events) refl (of_end g (front (x ∷ xs)) m n c.image a q) (at_end g (front (x ∷ xs)) n c.image a);
  }

  -- some lines are
  spoken : (xs : List Done) (c : Crash) (x : Done) → EachTells l g group (x ∷ xs) → IsOfRunBy (front (x ∷ xs)) m n → PutLeaves g xs x s0 n c → (later : List Reply) (o : Reply) (first : List Reply)
      → later ++ o ∷ first ≡ lines_of g xs x → c.notes ≡ notes_of g xs s0 + length (o ∷ first) → RunLeft g Such (x ∷ xs) s0 m c
  spoken xs c x t q h later o first split notes = record {
    unheard = [];
    heard = x ∷ xs;
    calls = refl;
    missing = d.0;
    out = (o ∷ first) ++ printed g xs;
    lines = lines;
    notes = let e = length-append (o ∷ first) (printed g xs) in omega (arith, notes, e);
    recovers = λ fair. let a = h.some fair in
        (reopened l g group (x ∷ xs) m a.master c.image).behind (durable_lines d.0) ((o ∷ first) ++ printed g xs) t lines (of_end g (front (x ∷ xs)) m n c.image a q) (at_end g (front (x ∷ xs)) n c.image a);
  }
    where
      d : Durables later
      d = let ns = names_of g xs x in cut_off later o first ns.0 (reply_of x) (split ∙ ap (λ (k : List Reply). k ++ reply_of x ∷ []) ns.1)

      lines : durable_lines d.0 ++ ((o ∷ first) ++ printed g xs) ≡ printed g (x ∷ xs)
      lines = ap (λ (k : List Reply). k ++ ((o ∷ first) ++ printed g xs)) d.1
          ∙ (sym (append_assoc later (o ∷ first) (printed g xs))
          ∙ (ap (λ (k : List Reply). k ++ printed g xs) split
          ∙ append_assoc (due_lines g xs x) (reply_of x ∷ []) (printed g xs)))

  pub put : (xs : List Done) (c : Crash) (x : Done) → EachTells l g group (x ∷ xs) → IsOfRunBy (front (x ∷ xs)) m n → PutLeaves g xs x s0 n c → RunLeft g Such (x ∷ xs) s0 m c
  put xs c x t q h = go h.later h.first h.split h.notes
    where
      go : (later first : List Reply) → later ++ first ≡ lines_of g xs x → c.notes ≡ notes_of g xs s0 + length first → RunLeft g Such (x ∷ xs) s0 m c
      go later [] split notes = silent xs c x t q h (omega (arith, notes))
      go later (o ∷ first) split notes = spoken xs c x t q h later o first split notes

-- ## Of events of any kind

pub every_crashed_line_for : EveryShown → EveryRunCrash → EveryAgreement → (Such : List Done → List Event → Type 0) → EveryCrashedLineFor Such
every_crashed_line_for shown crashes agrees Such l g group s0 m n xs c = let r = every_reopened_for shown crashes agrees Such in record {
  call = call Such r l g group s0 m n xs c;
  stopped = stopped Such r l g group s0 m n xs c;
  put = put Such r l g group s0 m n xs c;
  behind = behind Such r l g group s0 m n xs c;
  more = more Such r l g group s0 m n xs c;
}

pub every_line_for : EveryShown → EveryRunCrash → EveryAgreement → (Such : List Done → List Event → Type 0) → (from old mid new : Story) → EveryLineFor Such from old mid new
every_line_for shown crashes agrees Such from old mid new l g group s0 m n k xs x t q p so_far calls puts =
    let r = every_reopened_for shown crashes agrees Such in
    moments.then from mid new (RunLeft g Such (x ∷ xs) s0 m)
    (moments.then from old mid (RunLeft g Such (x ∷ xs) s0 m)
    (weaker from old (RunLeft g Such xs s0 m) (RunLeft g Such (x ∷ xs) s0 m) (λ c. more Such r l g group s0 m n xs c x) so_far)
    (weaker old mid (CallLeaves g xs x.events s0 n) (RunLeft g Such (x ∷ xs) s0 m) (λ c. call Such r l g group s0 m n xs c x t q) calls))
    (weaker mid new (PutLeaves g xs x s0 k) (RunLeft g Such (x ∷ xs) s0 m) (λ c. put Such r l g group s0 m k xs c x t p) puts)

pub every_stop_for : EveryShown → EveryRunCrash → EveryAgreement → (Such : List Done → List Event → Type 0) → (from old new : Story) → EveryStopFor Such from old new
every_stop_for shown crashes agrees Such from old new l g group s0 m n xs = let r = every_reopened_for shown crashes agrees Such in record {
  nothing = λ es t none such q so_far calls. moments.then from old new (RunLeft g Such xs s0 m) so_far
      (weaker old new (CallLeaves g xs es s0 n) (RunLeft g Such xs s0 m) (λ c. stopped Such r l g group s0 m n xs c es t none such q) calls);
  part = λ x t q so_far calls. moments.then from old new (RunLeft g Such (x ∷ xs) s0 m)
      (weaker from old (RunLeft g Such xs s0 m) (RunLeft g Such (x ∷ xs) s0 m) (λ c. more Such r l g group s0 m n xs c x) so_far)
      (weaker old new (CallLeaves g xs x.events s0 n) (RunLeft g Such (x ∷ xs) s0 m) (λ c. call Such r l g group s0 m n xs c x t q) calls);
}

-- ## Of those that a test tells

pub every_crashed_line : EveryShown → EveryRunCrash → EveryAgreement → EveryCrashedLine
every_crashed_line shown crashes agrees test = every_crashed_line_for shown crashes agrees (Passing test)

pub every_line : EveryShown → EveryRunCrash → EveryAgreement → (from old mid new : Story) → EveryLine from old mid new
every_line shown crashes agrees from old mid new test = every_line_for shown crashes agrees (Passing test) from old mid new

pub every_stop : EveryShown → EveryRunCrash → EveryAgreement → (from old new : Story) → EveryStop from old new
every_stop shown crashes agrees from old new test = every_stop_for shown crashes agrees (Passing test) from old new
