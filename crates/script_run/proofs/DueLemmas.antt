-- The durable lines that are due, and the lines of an outcome.
use Rattle.std.proofs.Common.{◌≡◌, ◌++◌, ◌∷◌, [], ℕ, Bool, true, false, cond, List, Option, Some, None, refl, sym, ap, ◌∙◌, subst}
use Rattle.std.proofs.lemmas.List.{append-nil}
use mathlib.Core.List.{append_assoc}
use Rattle.lean_edge.specs.Outside.{Held, Puts}
use Rattle.lean_edge.specs.declared.sink.Put.TheVariants.{Done, Failed}
use Rattle.lean_disk.specs.Calls.{Noted}
use Rattle.lean_disk.specs.Story.{IsLawful, Story}
use Rattle.map_model.specs.declared.call.Answer.{Answer}
use Rattle.map_model.specs.Journals.{Name}
use Rattle.map_model.specs.Outputs.{Reply}
use Rattle.map_model.specs.Pairings.{is_last}
use Rattle.call_parts.specs.core_state.Events.{Event}
use Rattle.call_parts.specs.core_state.Openings.{Opening}
use Rattle.call_parts.specs.core_state.Steps.{state_after}
use Rattle.call_parts.specs.core_calls.Deeds.{answered}
use Rattle.call_parts.specs.core_calls.Durables.{due, durables, moments}
use Rattle.call_parts.specs.core_calls.Fronts.{front}
use Rattle.call_parts.specs.core_calls.Fronts as fronts
use Rattle.call_parts.specs.core_calls.Printed.{due_lines, durable_lines, printed}
use Rattle.call_parts.proofs.core_calls.CommitLemmas.{moments_last, moments_open, up_to_next}
use Rattle.call_parts.specs.run_crashes.Lines.{lines_of}
use Rattle.script_lang.specs.Replies.{Fits, reply_line}
use Rattle.script_run.specs.Inside.{HasTold, Says, Taking}
use Rattle.script_run.specs.declared.stop.Stop.{Stop}
use Rattle.script_run.specs.declared.stop.Stop.TheVariants.{WriteFault}
use Rattle.script_run.proofs.PutLemmas.{says_none, says_more, says_failed, says_then}

-- what is printed has the lines of an outcome more
pub printed_more : (g : Opening) (xs : List fronts.Done) (x : fronts.Done) → printed g (x ∷ xs) ≡ lines_of g xs x ++ printed g xs
printed_more g xs x = sym (append_assoc (due_lines g xs x) (Reply.Answered x.outcome.session (answered x.outcome.deed) ∷ []) (printed g xs))

-- and what was told durable has those that are due more, behind the last answer to a line
pub durables_more : (g : Opening) (xs : List fronts.Done) (x : fronts.Done) → is_last (answered x.outcome.deed) ≡ true
    → due g (state_after g (front (x ∷ xs))) (durables g (moments xs)) ++ durables g (moments xs) ≡ durables g (moments (x ∷ xs))
durables_more g xs x last =
    ap (λ (es : List Event). due g (state_after g es) (durables g (moments xs)) ++ durables g (moments xs)) (sym (up_to_next x xs)) ∙ ap (λ (ms : List (List Event)). durables g ms) (sym (moments_last x xs last))

-- behind another one it is the same
pub durables_same : (g : Opening) (xs : List fronts.Done) (x : fronts.Done) → is_last (answered x.outcome.deed) ≡ false → durables g (moments xs) ≡ durables g (moments (x ∷ xs))
durables_same g xs x more = ap (λ (ms : List (List Event)). durables g ms) (sym (moments_open x xs more))

lines_append : (ns ms : List Name) → durable_lines (ns ++ ms) ≡ durable_lines ns ++ durable_lines ms
lines_append [] ms = refl
lines_append (n ∷ ns) ms = ap (λ (rs : List Reply). Reply.Durable n.session n.number ∷ rs) (lines_append ns ms)

-- ## One durable line after another

module _ (dues : List Name → List Name) (names : List Name) where
  pub none_taken : (Stands : List Name → Type 0) (h : Held) (s : Story) → IsLawful s → Stands names → Taking dues Stands names h h s s
  none_taken Stands h s law stands = record { taken = []; is = sym (append-nil (dues names)); says = says_none h s law; stands = stands }

  module _ (First Stands : List Name → Type 0) (h0 h1 h2 : Held) (s0 s1 s2 : Story) (t : Taking dues First names h0 h1 s0 s1) where
    module _ (n : Name) (first : dues (t.taken ++ names) ≡ dues (n ∷ (t.taken ++ names)) ++ n ∷ []) (fits : Fits (Reply.Durable n.session n.number)) where
      abbrev line : Reply
      line = Reply.Durable n.session n.number

      is_more : dues names ≡ dues ((n ∷ t.taken) ++ names) ++ (n ∷ t.taken)
      is_more = t.is ∙ (ap (λ (ns : List Name). ns ++ t.taken) first ∙ append_assoc (dues (n ∷ (t.taken ++ names))) (n ∷ []) t.taken)

      -- one more was
      pub one_taken : (s3 : Story) → s3 ≡ s1 → Puts (reply_line line) Done h1 h2 → Noted s3 s2 → Stands (n ∷ (t.taken ++ names)) → Taking dues Stands names h0 h2 s0 s2
      one_taken s3 same p noted stands = record {
        taken = n ∷ t.taken;
        is = is_more;
        says = says_more (durable_lines t.taken) line h0 h1 h2 s0 s1 s2 t.says fits p (subst (λ (s : Story). Noted s s2) same noted);
        stands = stands;
      }

      -- its line failed
      pub one_failed : s2 ≡ s1 → Puts (reply_line line) Failed h1 h2 → Stands (n ∷ (t.taken ++ names)) → Says (durable_lines (dues names)) (Some WriteFault) h0 h2 s0 s2 × HasTold (Some WriteFault) Stands (dues names ++ names)
      one_failed same p stands =
          let rest : List Name = dues ((n ∷ t.taken) ++ names) in
          let all : durable_lines rest ++ line ∷ durable_lines t.taken ≡ durable_lines (dues names) = sym (ap durable_lines is_more ∙ lines_append rest (n ∷ t.taken)) in
          (subst (λ (rs : List Reply). Says rs (Some WriteFault) h0 h2 s0 s2) all (says_failed (durable_lines t.taken) line h0 h1 h2 s0 s1 s2 t.says fits (durable_lines rest) p same), (n ∷ (t.taken ++ names), stands))

-- ## The lines of an outcome

module _ (g : Opening) (xs : List fronts.Done) (x : fronts.Done) (session : ℕ) (a : Answer) (s : x.outcome.session ≡ session) (is : answered x.outcome.deed ≡ a) (fits : Fits (Reply.Answered session a))
    (Stands : List Name → Type 0) (h0 h1 : Held) (s0 s1 : Story) (law : IsLawful s0) where
  abbrev dues : List Name
  dues = due g (state_after g (front (x ∷ xs))) (durables g (moments xs))

  abbrev reply : Reply
  reply = Reply.Answered session a

  lines_are : due_lines g xs x ++ reply ∷ [] ≡ lines_of g xs x
  lines_are = sym (ap (λ (w : ℕ). due_lines g xs x ++ Reply.Answered w (answered x.outcome.deed) ∷ []) s ∙ ap (λ (b : Answer). due_lines g xs x ++ Reply.Answered session b ∷ []) is)

  last_lines : is_last a ≡ true → durable_lines dues ++ reply ∷ [] ≡ lines_of g xs x
  last_lines last = ap (λ (b : Bool). cond b (durable_lines dues) [] ++ reply ∷ []) (sym (ap is_last is ∙ last)) ∙ lines_are

  open_lines : is_last a ≡ false → reply ∷ [] ≡ lines_of g xs x
  open_lines more = ap (λ (b : Bool). cond b (durable_lines dues) [] ++ reply ∷ []) (sym (ap is_last is ∙ more)) ∙ lines_are

  pub answer_failed : Puts (reply_line reply) Failed h0 h1 → s1 ≡ s0 → Stands (durables g (moments xs)) → Says (lines_of g xs x) (Some WriteFault) h0 h1 s0 s1 × HasTold (Some WriteFault) Stands (durables g (moments (x ∷ xs)))
  answer_failed p same stands =
      (subst (λ (rs : List Reply). Says rs (Some WriteFault) h0 h1 s0 s1) lines_are (says_failed [] reply h0 h0 h1 s0 s0 s1 (says_none h0 s0 law) fits (due_lines g xs x) p same), (durables g (moments xs), stands))

  -- a further answer follows
  pub answer_open : is_last a ≡ false → Puts (reply_line reply) Done h0 h1 → Noted s0 s1 → Stands (durables g (moments xs)) → Says (lines_of g xs x) None h0 h1 s0 s1 × HasTold None Stands (durables g (moments (x ∷ xs)))
  answer_open more p noted stands = (
    subst (λ (rs : List Reply). Says rs None h0 h1 s0 s1) (open_lines more) (says_more [] reply h0 h0 h1 s0 s0 s1 (says_none h0 s0 law) fits p noted),
    subst Stands (durables_same g xs x (ap is_last is ∙ more)) stands,
  )

  -- it is the last

  pub answer_put : is_last a ≡ true → (stop : Option Stop) (h2 : Held) (s2 : Story) → Puts (reply_line reply) Done h0 h1 → Noted s0 s1 → Says (durable_lines dues) stop h1 h2 s1 s2 → HasTold stop Stands (dues ++ durables g (moments xs))
      → Says (lines_of g xs x) stop h0 h2 s0 s2 × HasTold stop Stands (durables g (moments (x ∷ xs)))
  answer_put last stop h2 s2 p noted more told = (
    subst (λ (rs : List Reply). Says rs stop h0 h2 s0 s2) (last_lines last) (says_then (reply ∷ []) (durable_lines dues) stop h0 h1 h2 s0 s1 s2 (says_more [] reply h0 h0 h1 s0 s0 s1 (says_none h0 s0 law) fits p noted) more),
    subst (HasTold stop Stands) (durables_more g xs x (ap is_last is ∙ last)) told,
  )
