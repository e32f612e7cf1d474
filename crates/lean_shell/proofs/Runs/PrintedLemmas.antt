-- What a run prints: the answers to its calls, and the lines that come with them.
use Rattle.std.proofs.Common.{◌≡◌, ◌⊎◌, inl, inr, ⊎_elim, ◌<◌, ◌≤◌, ◌++◌, ℕ, List, [], ◌∷◌, length, Option, Some, None, refl, sym, ◌∙◌, ap, arith}
use Rattle.std.proofs.lemmas.List.{append-nil, length-append}
use mathlib.Core.List.{append_assoc}
use Rattle.map_model.specs.declared.call.Answer.{Answer}
use Rattle.map_model.specs.declared.call.Answered.{Answered}
use Rattle.map_model.specs.Journals.{Name}
use Rattle.map_model.specs.Outputs.{Reply, answers_told}
use Rattle.map_model.specs.Pairings.{EachGoesOn, answers_in, in_turn}
use Rattle.buffered_engine.specs.core_state.Openings.{Opening}
use Rattle.buffered_engine.specs.core_calls.Deeds.{Outcome, answered, in_words}
use Rattle.buffered_engine.specs.core_calls.Fronts.{Done}
use Rattle.buffered_engine.specs.core_calls.Printed.{EveryPrinted, due_lines, durable_lines, printed}
use Rattle.buffered_engine.specs.core_calls.Runs.{EachTells}
use Rattle.buffered_engine.specs.engine_trait.Limits.{limits}
use Rattle.buffered_engine.specs.run_crashes.Lines.{next_of, outcome_of}
use Rattle.script_run.specs.Runs.{calls_of}

-- ## The lines of a run

tail_of : {A : Type 0} (x y : A) (xs ys : List A) → x ∷ xs ≡ y ∷ ys → xs ≡ ys
tail_of x y xs ys e = cc

not_answer : (w n v : ℕ) (a : Answer) (rs ss : List Reply) → Reply.Durable w n ∷ rs ≡ Reply.Answered v a ∷ ss → ⊥
not_answer w n v a rs ss e = cc

-- durable lines answer nothing
no_answers : (names : List Name) (out : List Reply) → answers_told (durable_lines names ++ out) ≡ answers_told out
no_answers [] out = refl
no_answers (n ∷ ns) out = append-nil (answers_told (durable_lines ns ++ out)) ∙ no_answers ns out

-- the answers among the lines of outcomes, of which some durable ones may be missing
pub answers_heard : EveryPrinted → (g : Opening) (heard : List Done) (missing : List Name) (out : List Reply) → durable_lines missing ++ out ≡ printed g heard → answers_told out ≡ answers_in (in_turn (calls_of heard))
answers_heard law g heard missing out e = sym (no_answers missing out) ∙ (ap answers_told e ∙ (law g heard).answers)

-- the lines of the first of the outcomes come first
pub record FirstPrinted (g : Opening) (later first : List Done) : Type 0 where
  pub more : List Reply
  pub is : more ++ printed g first ≡ printed g (later ++ first)

pub first_printed : (g : Opening) (later first : List Done) → FirstPrinted g later first
first_printed g [] first = record { more = []; is = refl }
first_printed g (x ∷ later) first =
    let f = first_printed g later first in
    let lines : List Reply = due_lines g (later ++ first) x ++ Reply.Answered x.outcome.session (answered x.outcome.deed) ∷ [] in
    record {
      more = lines ++ f.more;
      is = append_assoc lines f.more (printed g first)
          ∙ (ap (λ (rs : List Reply). lines ++ rs) f.is
          ∙ append_assoc (due_lines g (later ++ first) x) (Reply.Answered x.outcome.session (answered x.outcome.deed) ∷ []) (printed g (later ++ first)));
    }

-- of two that are the oldest of a list, the shorter is the oldest of the other
pub first_of : (a out b told all : List Reply) → a ++ out ≡ all → b ++ told ≡ all → length out ≤ length told → (later : List Reply) × (later ++ out ≡ told)
first_of a out [] told all e f few = (a, e ∙ sym f)
first_of [] out (r ∷ b) told all e f few =
    absurd (let p = ap (λ (l : List Reply). length l) (e ∙ sym f) in let q = length-append b told in omega arith)
first_of (s ∷ a) out (r ∷ b) told all e f few = first_of a out b told (b ++ told) (tail_of s r (a ++ out) (b ++ told) (e ∙ sym f)) refl few

pub prefix_few : (later first all : List Reply) → later ++ first ≡ all → length first ≤ length all
prefix_few later first all e = let a = length-append later first in let b = ap (λ (rs : List Reply). length rs) e in omega arith

pub same_prefix : (later first all : List Reply) → later ++ first ≡ all → length first ≡ length all → first ≡ all
same_prefix [] first all e same = e
same_prefix (r ∷ later) first all e same =
    absurd (let a = length-append later first in let b = ap (λ (rs : List Reply). length rs) e in omega arith)

-- with an answer go the replies before it
pub answered_out : (missing due : List Name) (w : ℕ) (a : Answer) (older out : List Reply) → durable_lines missing ++ out ≡ durable_lines due ++ Reply.Answered w a ∷ older → length older < length out
answered_out [] due w a older out e =
    let p = ap (λ (l : List Reply). length l) e in let q = length-append (durable_lines due) (Reply.Answered w a ∷ older) in omega arith
answered_out (n ∷ ns) [] w a older out e = absurd (not_answer n.session n.number w a (durable_lines ns ++ out) older e)
answered_out (n ∷ ns) (d ∷ ds) w a older out e =
    answered_out ns ds w a older out (tail_of (Reply.Durable n.session n.number) (Reply.Durable d.session d.number) (durable_lines ns ++ out) (durable_lines ds ++ Reply.Answered w a ∷ older) e)

-- what lacks some of the last lines lacks durable lines alone, or the answer too
pub record Lacks (told older all : List Reply) : Type 0 where
  pub missing : List Name
  pub is : durable_lines missing ++ told ≡ all

pub lacks : (due : List Name) (w : ℕ) (a : Answer) (older newer told : List Reply) → newer ++ told ≡ durable_lines due ++ Reply.Answered w a ∷ older → Lacks told older (durable_lines due ++ Reply.Answered w a ∷ older) ⊎ ((n : List Reply) × (n ++ told ≡ older))
lacks due w a older [] told e = inl (record { missing = []; is = e })
lacks [] w a older (r ∷ newer) told e = inr (newer, tail_of r (Reply.Answered w a) (newer ++ told) older e)
lacks (d ∷ ds) w a older (r ∷ newer) told e =
    ⊎_elim (λ l. inl (record { missing = d ∷ l.missing; is = ap (λ (rs : List Reply). Reply.Durable d.session d.number ∷ rs) l.is })) inr
    (lacks ds w a older newer told (tail_of r (Reply.Durable d.session d.number) (newer ++ told) (durable_lines ds ++ Reply.Answered w a ∷ older) e))

-- ## The first outcomes, and the next one

pub calls_append : (later first : List Done) → calls_of (later ++ first) ≡ calls_of later ++ calls_of first
calls_append [] first = refl
calls_append (x ∷ later) first = ap (λ (xs : List Answered). in_words x.outcome ∷ xs) (calls_append later first)

-- a further answer to a line is to its call
pub goes_on : (g : Opening) (group : ℕ) (xs : List Done) → EachTells limits g group xs → EachGoesOn (calls_of xs)
goes_on g group [] t = tt
goes_on g group (x ∷ xs) t = (goes_on g group xs t.0, t.1.goes_on)

pub tells_first : (g : Opening) (group : ℕ) (later first : List Done) → EachTells limits g group (later ++ first) → EachTells limits g group first
tells_first g group [] first t = t
tells_first g group (x ∷ later) first t = tells_first g group later first t.0

-- the oldest of these is the next
abbrev pub IsNext : List Done → Done → Type 0
IsNext unheard x = (newer : List Done) × (unheard ≡ newer ++ x ∷ [])

pub next_is : (unheard : List Done) (x : Done) → next_of unheard ≡ Some x → IsNext unheard x
next_is [] x e = absurd (none x e)
  where
    none : (x : Done) → ◌≡◌ {A = Option Done} None (Some x) → ⊥
    none x e = cc
next_is (y ∷ []) x e = ([], ap (λ (z : Done). z ∷ []) (one y x e))
  where
    one : (a b : Done) → Some a ≡ Some b → a ≡ b
    one a b e = cc
next_is (y ∷ z ∷ earlier) x e = let n = next_is (z ∷ earlier) x e in (y ∷ n.0, ap (λ (xs : List Done). y ∷ xs) n.1)

-- it comes behind those that were heard
pub next_behind : (unheard heard xs : List Done) (x : Done) → unheard ++ heard ≡ xs → (n : IsNext unheard x) → n.0 ++ (x ∷ heard) ≡ xs
next_behind unheard heard xs x e n = sym (append_assoc n.0 (x ∷ []) heard) ∙ (ap (λ (ys : List Done). ys ++ heard) (sym n.1) ∙ e)

-- which has this outcome
pub record HasOutcome (next : Option Done) (y : Outcome) : Type 0 where
  pub done : Done
  pub is : next ≡ Some done
  pub outcome : done.outcome ≡ y

pub with_outcome : (next : Option Done) (y : Outcome) → outcome_of next ≡ Some y → HasOutcome next y
with_outcome None y e = absurd (none y e)
  where
    none : (y : Outcome) → ◌≡◌ {A = Option Outcome} None (Some y) → ⊥
    none y e = cc
with_outcome (Some x) y e = record { done = x; is = refl; outcome = one x.outcome y e }
  where
    one : (a b : Outcome) → Some a ≡ Some b → a ≡ b
    one a b e = cc
