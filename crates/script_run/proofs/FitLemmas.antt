-- Which answers and which lines fit.
use Rattle.std.proofs.Common.{◌≡◌, ◌<◌, ◌≤◌, ◌^◌, ℕ, suc, Bool, true, false, cond, Option, Some, None, refl, sym, ap, ◌∙◌, subst, arith, true≢false}
use Rattle.map_model.specs.declared.call.Answer.{Answer}
use Rattle.map_model.specs.declared.call.Answer.TheVariants as answer
use Rattle.map_model.specs.declared.call.Call.{Call}
use Rattle.map_model.specs.declared.call.Call.TheVariants as call
use Rattle.map_model.specs.declared.call.Refusal.{Refusal}
use Rattle.map_model.specs.declared.call.Refusal.TheVariants as refusal
use Rattle.map_model.specs.Outputs.{Reply}
use Rattle.map_model.specs.Pairings.{is_last}
use Rattle.call_parts.specs.core_calls.Deeds.{Deed, Outcome, Begun, Got, Changed, Deleted, Absent, Met, Paused, Over, Committed, Aborted, Refused, Synced, Checkpointed, answered, asked}
use Rattle.call_parts.specs.core_calls.Steps.{IsAbortOf, IsBehind, hindered_in, is_conflict}
use Rattle.call_parts.specs.engine_trait.Calls.{IsAsked}
use Rattle.engine_front.specs.Turns.{behind_answer, behind_durables, behind_last, is_conflict_in}
use Rattle.engine_front.specs.declared.calls.Next.TheVariants.{Abort, Line, Scan}
use Rattle.script_lang.specs.Replies.{AnswerFits, Fits, SessionFits, reply_text}
use Rattle.script_lang.specs.Text.{IsLine}
use Rattle.transcripts.specs.Told.{LineFits}
use Rattle.script_run.specs.Inside.{is_pair}

-- a session's answer is one line, and the line of a sync names none
pub reply_is_line : ((r : Reply) → Fits r → IsLine (reply_text r)) → (s : ℕ) (a : Answer) → s < 2 ^ 32 → AnswerFits a → IsLine (reply_text (Reply.Answered s a))
reply_is_line each s (answer.Synced at) few fits = each (Reply.Answered 0 (answer.Synced at)) (refl, fits)
reply_is_line each s (answer.Begun n) few fits = each (Reply.Answered s (answer.Begun n)) (few, fits)
reply_is_line each s (answer.Value v) few fits = each (Reply.Answered s (answer.Value v)) (few, fits)
reply_is_line each s (answer.Was v) few fits = each (Reply.Answered s (answer.Was v)) (few, fits)
reply_is_line each s (answer.Pair k v) few fits = each (Reply.Answered s (answer.Pair k v)) (few, fits)
reply_is_line each s (answer.More k) few fits = each (Reply.Answered s (answer.More k)) (few, fits)
reply_is_line each s answer.End few fits = each (Reply.Answered s answer.End) (few, fits)
reply_is_line each s (answer.Committed n at) few fits = each (Reply.Answered s (answer.Committed n at)) (few, fits)
reply_is_line each s (answer.Aborted n) few fits = each (Reply.Answered s (answer.Aborted n)) (few, fits)
reply_is_line each s (answer.Refused why) few fits = each (Reply.Answered s (answer.Refused why)) (few, fits)
reply_is_line each s _ few fits = absurd fits

-- a call of a script is one that the engine takes
pub asked_of : (sessions s : ℕ) (c : Call) → LineFits sessions s c → IsAsked sessions s c
asked_of sessions s call.Begin fits = (fits.session.0, fits.session.1, tt)
asked_of sessions s (call.Get key) fits = (fits.session.0, fits.session.1, fits.fits)
asked_of sessions s (call.Put key value) fits = (fits.session.0, fits.session.1, fits.fits)
asked_of sessions s (call.Del key) fits = (fits.session.0, fits.session.1, fits.fits)
asked_of sessions s (call.Scan from to) fits = (fits.session.0, fits.session.1, fits.fits)
asked_of sessions s call.Commit fits = (fits.session.0, fits.session.1, tt)
asked_of sessions s call.Abort fits = (fits.session.0, fits.session.1, tt)
asked_of sessions s call.Sync fits = fits.session
asked_of sessions s _ fits = absurd fits.fits

pub session_few : (sessions s : ℕ) (c : Call) → LineFits sessions s c → sessions ≤ 16 → s < 2 ^ 32
session_few sessions s call.Sync fits few = let none : s ≡ 0 = fits.session in omega arith
session_few sessions s _ fits few = let high : s ≤ sessions = fits.session.1 in omega arith

-- a sync alone is answered that it is done
synced_asked : (d : Deed) (at : ℕ) → answered d ≡ answer.Synced at → asked d ≡ call.Sync
synced_asked (Synced t) at is = refl
synced_asked (Begun n) at is = let e : answer.Begun n ≡ answer.Synced at = is in cc
synced_asked (Got k a alone) at is = let e : answer.Value a ≡ answer.Synced at = is in cc
synced_asked (Changed k v a) at is = let e : answer.Was a ≡ answer.Synced at = is in cc
synced_asked (Deleted k a) at is = let e : answer.Was (Some a) ≡ answer.Synced at = is in cc
synced_asked (Absent k) at is = let e : answer.Was None ≡ answer.Synced at = is in cc
synced_asked (Met from to k v alone) at is = let e : answer.Pair k v ≡ answer.Synced at = is in cc
synced_asked (Paused from to k) at is = let e : answer.More k ≡ answer.Synced at = is in cc
synced_asked (Over from to) at is = let e : answer.End ≡ answer.Synced at = is in cc
synced_asked (Committed n t) at is = let e : answer.Committed n t ≡ answer.Synced at = is in cc
synced_asked (Aborted c n t backs) at is = let e : answer.Aborted n ≡ answer.Synced at = is in cc
synced_asked (Refused c why backs) at is = let e : answer.Refused why ≡ answer.Synced at = is in cc
synced_asked (Checkpointed t) at is = let e : answer.Checkpointed t ≡ answer.Synced at = is in cc

-- so an answer fits the session that asked
session_fits : (s : ℕ) (a : Answer) → s < 2 ^ 32 → ((at : ℕ) → a ≡ answer.Synced at → s ≡ 0) → SessionFits s a
session_fits s (answer.Synced at) few none = none at refl
session_fits s (answer.Begun n) few none = few
session_fits s (answer.Value v) few none = few
session_fits s (answer.Was v) few none = few
session_fits s (answer.Pair k v) few none = few
session_fits s (answer.More k) few none = few
session_fits s answer.End few none = few
session_fits s (answer.Committed n at) few none = few
session_fits s (answer.Aborted n) few none = few
session_fits s (answer.Refused why) few none = few
session_fits s (answer.Checkpointed at) few none = few

pub answer_fits : (sessions s : ℕ) (c : Call) (a : Answer) (d : Deed) → IsAsked sessions s c → asked d ≡ c → answered d ≡ a → s < 2 ^ 32 → AnswerFits a → Fits (Reply.Answered s a)
answer_fits sessions s c a d may asks answers few fits =
    (session_fits s a few (λ at is. subst (IsAsked sessions s) (sym asks ∙ synced_asked d at (answers ∙ is)) may), fits)

-- a step of a scan
pub scan_fits : (s from to : ℕ) (a : Answer) (d : Deed) → asked d ≡ call.Scan from to → answered d ≡ a → s < 2 ^ 32 → AnswerFits a → Fits (Reply.Answered s a)
scan_fits s from to a d asks answers few fits =
    (session_fits s a few (λ at is. let clash : call.Scan from to ≡ call.Sync = sym asks ∙ synced_asked d at (answers ∙ is) in cc), fits)

-- an abort is answered so, or it is refused
pub abort_fits : (s : ℕ) (c : Call) (a : Answer) (d : Deed) → IsAbortOf c d → answered d ≡ a → s < 2 ^ 32 → AnswerFits a → Fits (Reply.Answered s a)
abort_fits s c a d abort answers few fits = (session_fits s a few (λ at is. absurd (never d abort at (answers ∙ is))), fits)
  where
    never : (d : Deed) → IsAbortOf c d → (at : ℕ) → answered d ≡ answer.Synced at → ⊥
    never (Aborted e n t backs) abort at is = let e : answer.Aborted n ≡ answer.Synced at = is in cc
    never (Refused e why backs) abort at is = let e : answer.Refused why ≡ answer.Synced at = is in cc
    never _ abort at is = absurd abort

-- behind a conflict comes such an abort
pub abort_behind : (o : Option Call) (c : Call) (w : ℕ) (x : Outcome) → o ≡ Some c → IsBehind o w x → IsAbortOf c x.deed
abort_behind o c w x is behind = let abort : IsBehind (Some c) w x = subst (λ (p : Option Call). IsBehind p w x) is behind in abort.1

-- ## Conflicts

-- a call that met one
conflict_met : (d : Deed) (c : Call) (h : ℕ) → asked d ≡ c → answered d ≡ answer.Refused (refusal.Conflict h) → hindered_in d ≡ Some c
conflict_met (Refused e why backs) c h asks is =
    let same : answer.Refused why ≡ answer.Refused (refusal.Conflict h) = is in
    let conflict : why ≡ refusal.Conflict h = cc in
    ap (λ (w : Refusal). hindered_in (Refused e w backs)) conflict ∙ ap (λ (x : Call). Some x) asks
conflict_met (Begun n) c h asks is = let e : answer.Begun n ≡ answer.Refused (refusal.Conflict h) = is in cc
conflict_met (Got k a alone) c h asks is = let e : answer.Value a ≡ answer.Refused (refusal.Conflict h) = is in cc
conflict_met (Changed k v a) c h asks is = let e : answer.Was a ≡ answer.Refused (refusal.Conflict h) = is in cc
conflict_met (Deleted k a) c h asks is = let e : answer.Was (Some a) ≡ answer.Refused (refusal.Conflict h) = is in cc
conflict_met (Absent k) c h asks is = let e : answer.Was None ≡ answer.Refused (refusal.Conflict h) = is in cc
conflict_met (Met from to k v alone) c h asks is = let e : answer.Pair k v ≡ answer.Refused (refusal.Conflict h) = is in cc
conflict_met (Paused from to k) c h asks is = let e : answer.More k ≡ answer.Refused (refusal.Conflict h) = is in cc
conflict_met (Over from to) c h asks is = let e : answer.End ≡ answer.Refused (refusal.Conflict h) = is in cc
conflict_met (Committed n t) c h asks is = let e : answer.Committed n t ≡ answer.Refused (refusal.Conflict h) = is in cc
conflict_met (Aborted x n t backs) c h asks is = let e : answer.Aborted n ≡ answer.Refused (refusal.Conflict h) = is in cc
conflict_met (Synced t) c h asks is = let e : answer.Synced t ≡ answer.Refused (refusal.Conflict h) = is in cc
conflict_met (Checkpointed t) c h asks is = let e : answer.Checkpointed t ≡ answer.Refused (refusal.Conflict h) = is in cc

pub met_conflict : (d : Deed) (c : Call) (a : Answer) → asked d ≡ c → answered d ≡ a → is_conflict_in a ≡ true → hindered_in d ≡ Some c
met_conflict d c (answer.Refused why) asks is met = go why is met
  where
    go : (why : Refusal) → answered d ≡ answer.Refused why → is_conflict_in (answer.Refused why) ≡ true → hindered_in d ≡ Some c
    go (refusal.Conflict h) is met = conflict_met d c h asks is
    go _ is met = absurd (true≢false (sym met))
met_conflict d c _ asks is met = absurd (true≢false (sym met))

-- its answer is not the last to its line
pub hindered_open : (d : Deed) (c : Call) → hindered_in d ≡ Some c → is_last (answered d) ≡ false
hindered_open (Refused e why backs) c is = go why is
  where
    go : (why : Refusal) → hindered_in (Refused e why backs) ≡ Some c → is_last (answer.Refused why) ≡ false
    go (refusal.Conflict h) is = refl
    go _ is = let never : None ≡ Some c = is in cc
hindered_open _ c is = let never : None ≡ Some c = is in cc

-- ## What comes behind an answer

-- behind a pair the next step of its scan
pub behind_pair : (a : Answer) → is_pair a ≡ true → behind_durables (behind_answer a) ≡ Scan
behind_pair (answer.Pair k v) is = refl
behind_pair _ is = absurd (true≢false (sym is))

pub pair_open : (a : Answer) → is_pair a ≡ true → is_last a ≡ false
pair_open (answer.Pair k v) is = refl
pair_open _ is = absurd (true≢false (sym is))

-- behind a conflict the abort
pub behind_conflict : (a : Answer) → is_conflict_in a ≡ true → behind_durables (behind_answer a) ≡ Abort
behind_conflict (answer.Pair k v) is = absurd (true≢false (sym is))
behind_conflict _ is = ap (λ (b : Bool). behind_durables (behind_last b)) is

-- behind any other a new line, since it is the last to its own
module _ (a : Answer) (no_pair : is_pair a ≡ false) (no_conflict : is_conflict_in a ≡ false) where
  pub behind_end : behind_durables (behind_answer a) ≡ Line
  behind_end = go a no_pair no_conflict
    where
      go : (a : Answer) → is_pair a ≡ false → is_conflict_in a ≡ false → behind_durables (behind_answer a) ≡ Line
      go (answer.Pair k v) is none = absurd (true≢false is)
      go _ is none = ap (λ (b : Bool). behind_durables (behind_last b)) none

  pub end_last : is_last a ≡ true
  end_last = go a no_pair no_conflict
    where
      refused : (why : Refusal) → is_conflict why ≡ false → is_last (answer.Refused why) ≡ true
      refused (refusal.Conflict h) none = absurd (true≢false none)
      refused _ none = refl

      go : (a : Answer) → is_pair a ≡ false → is_conflict_in a ≡ false → is_last a ≡ true
      go (answer.Pair k v) is none = absurd (true≢false is)
      go (answer.Refused why) is none = refused why none
      go _ is none = refl

-- behind one that is not the last there is no durable line, and behind the last there are
pub open_behind : (a : Answer) → is_last a ≡ false → behind_durables (behind_answer a) ≡ behind_answer a
open_behind (answer.Pair k v) more = refl
open_behind (answer.Refused why) more = go why more
  where
    go : (why : Refusal) → is_last (answer.Refused why) ≡ false → behind_durables (behind_answer (answer.Refused why)) ≡ behind_answer (answer.Refused why)
    go (refusal.Conflict h) more = refl
    go _ more = absurd (true≢false more)
open_behind _ more = absurd (true≢false more)

pub last_behind : (a : Answer) → is_last a ≡ true → behind_durables (behind_answer a) ≡ Line
last_behind (answer.Pair k v) last = absurd (true≢false (sym last))
last_behind (answer.Refused why) last = go why last
  where
    go : (why : Refusal) → is_last (answer.Refused why) ≡ true → behind_durables (behind_answer (answer.Refused why)) ≡ Line
    go (refusal.Conflict h) last = absurd (true≢false (sym last))
    go _ last = refl
last_behind _ last = refl

-- a step of a scan that is behind a pair comes closer to its end
pub fewer_pairs : (b : Bool) (new old : ℕ) → (b ≡ true → new < old) → cond b (suc new) 0 < suc old
fewer_pairs true new old fewer = let less : new < old = fewer refl in omega arith
fewer_pairs false new old fewer = omega arith
