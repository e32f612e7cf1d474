-- What was put, as an output: replies, and what stands behind them.
use Rattle.std.proofs.Common.{◌≡◌, ◌⊎◌, inl, inr, ⊎_elim, ◌≤◌, ◌<◌, ◌++◌, ℕ, suc, List, [], ◌∷◌, length, take, drop, Some, refl, sym, ◌∙◌, ap, subst, arith}
use Rattle.std.proofs.lemmas.List.{append-nil, take-append-le, take_all, take-append-drop}
use mathlib.Core.List.{append_assoc}
use Rattle.std.proofs.lemmas.Bool.{cases_lt}
use Rattle.script_lang.specs.Notices.{Notice, notice_text, NoticeFits}
use Rattle.map_model.specs.Outputs.{Reply}
use Rattle.transcripts.specs.Told.{EachReplyFits, IsCut, IsTail}
use Rattle.transcripts.specs.Told.IsTail.{CutNotice, WholeNotice}
use Rattle.script_run.specs.Runs.{IsWhole, PrintsTo}
use Rattle.script_run.specs.Texts.{IsTailOf}
use Rattle.script_run.specs.declared.stop.Stop.{Stop}
use Rattle.script_run.specs.declared.stop.Stop.TheVariants as stops

-- ## Prefixes of lines

-- a prefix of a line lacks its newline at least, or is all of it
pub cut_or_whole : (text : List ℕ) (k : ℕ) → IsCut text (take k (text ++ 10 ∷ [])) ⊎ (take k (text ++ 10 ∷ []) ≡ text ++ 10 ∷ [])
cut_or_whole text k = go (cases_lt (length text) k)
  where
    length_line : (xs : List ℕ) → length (xs ++ 10 ∷ []) ≡ suc (length xs)
    length_line [] = refl
    length_line (x ∷ xs) = ap suc (length_line xs)

    go : (length text < k) ⊎ (k ≤ length text) → IsCut text (take k (text ++ 10 ∷ [])) ⊎ (take k (text ++ 10 ∷ []) ≡ text ++ 10 ∷ [])
    go (inl lt) = inr (take_all k (text ++ 10 ∷ []) (let e = length_line text in omega arith))
    go (inr le) = inl (record { more = drop k text; is = ap (λ (t : List ℕ). t ++ drop k text) (take-append-le k text (10 ∷ []) le) ∙ take-append-drop k text })

-- a prefix of a notice's line
pub notice_tail : (n : Notice) → NoticeFits n → (k : ℕ) → IsTail (take k (notice_text n ++ 10 ∷ []))
notice_tail n fits k = ⊎_elim (λ cut. CutNotice n fits cut) (λ e. WholeNotice n fits e) (cut_or_whole (notice_text n) k)

pub no_tail : (n : Notice) → NoticeFits n → IsTail []
no_tail n fits = CutNotice n fits (record { more = notice_text n; is = refl })

-- ## Replies

pub older_fit : (later first : List Reply) → EachReplyFits (later ++ first) → EachReplyFits first
older_fit [] first fit = fit
older_fit (r ∷ later) first fit = older_fit later first fit.0

-- where the sink did not fail, all were put
pub all_put : (stop : Stop) (all told : List Reply) (tail : List ℕ) → (stop ≡ stops.WriteFault → ⊥) → PrintsTo (Some stop) all told tail → IsWhole all told tail
all_put stops.End all told tail not_write p = p
all_put (stops.Refused line) all told tail not_write p = p
all_put stops.ReadFault all told tail not_write p = p
all_put stops.WriteFault all told tail not_write p = absurd (not_write refl)
all_put stops.DiskFault all told tail not_write p = p
all_put (stops.Damaged place) all told tail not_write p = p

-- what was told are the first of the replies
pub told_first : (stop : Stop) (all told : List Reply) (tail : List ℕ) → PrintsTo (Some stop) all told tail → (newer : List Reply) × (newer ++ told ≡ all)
told_first stops.End all told tail p = ([], p.told_is)
told_first (stops.Refused line) all told tail p = ([], p.told_is)
told_first stops.ReadFault all told tail p = ([], p.told_is)
told_first stops.WriteFault all told tail p = (p.later ++ p.next ∷ [], append_assoc p.later (p.next ∷ []) told ∙ p.split)
told_first stops.DiskFault all told tail p = ([], p.told_is)
told_first (stops.Damaged place) all told tail p = ([], p.told_is)

-- what stands behind the replies, with a last line behind it
pub both_tails : (stop : Stop) (tail text : List ℕ) → IsTailOf stop tail → ((stop ≡ stops.WriteFault → ⊥) → IsTail text) → (stop ≡ stops.WriteFault → text ≡ []) → IsTail (tail ++ text)
both_tails stop tail text is behind none = go stop is behind none
  where
    only : tail ≡ [] → IsTail text → IsTail (tail ++ text)
    only e t = subst IsTail (sym (ap (λ (r : List ℕ). r ++ text) e)) t

    go : (stop : Stop) → IsTailOf stop tail → ((stop ≡ stops.WriteFault → ⊥) → IsTail text) → (stop ≡ stops.WriteFault → text ≡ []) → IsTail (tail ++ text)
    go stops.End e behind none = only e (behind (λ q. cc))
    go (stops.Refused line) e behind none = only e (behind (λ q. cc))
    go stops.ReadFault e behind none = only e (behind (λ q. cc))
    go stops.DiskFault e behind none = only e (behind (λ q. cc))
    go (stops.Damaged place) e behind none = only e (behind (λ q. cc))
    go stops.WriteFault t behind none = subst IsTail (sym (ap (λ (x : List ℕ). tail ++ x) (none refl) ∙ append-nil tail)) t
