-- The events of a sync.
use Rattle.std.proofs.Common.{◌≡◌, ◌∙◌, ◌||◌, ◌++◌, ℕ, Bool, true, false, List, [], ◌∷◌, ap, refl, sym, subst, true≢false}
use Rattle.map_model.specs.Lists.{any, keep}
use Rattle.paged_desks.specs.core_calls.LogEvents.{AreFlushes, IsSync, is_log}
use Rattle.paged_desks.specs.core_state.Events.{Event}
use Rattle.paged_desks.proofs.engine_calls.MarkLemmas.{any_append, keep_append}

either : (a b : Bool) → a ≡ false → b ≡ false → (a || b) ≡ false
either false false x y = refl
either true b x y = absurd (true≢false x)
either false true x y = absurd (true≢false y)

flushes_none : (p : Event → Bool) → ((w n : ℕ) → p (Event.Flush w n) ≡ false) → (es : List Event) → AreFlushes es → any p es ≡ false
flushes_none p h [] a = refl
flushes_none p h (Event.Flush w n ∷ es) a = either (p (Event.Flush w n)) (any p es) (h w n) (flushes_none p h es a)
flushes_none p h (e ∷ es) a = absurd a

flushes_kept : (es : List Event) → AreFlushes es → keep is_log es ≡ es
flushes_kept [] a = refl
flushes_kept (Event.Flush w n ∷ es) a = ap (λ ys. Event.Flush w n ∷ ys) (flushes_kept es a)
flushes_kept (e ∷ es) a = absurd a

-- none of them is so
pub sync_none : (p : Event → Bool) (n : ℕ) (es : List Event) → ((w m : ℕ) → p (Event.Flush w m) ≡ false) → p (Event.Sync n) ≡ false → IsSync n es → any p es ≡ false
sync_none p n es f e is = subst (λ ys. any p ys ≡ false) (sym is.1) (any_append p is.0 (Event.Sync n ∷ []) (flushes_none p f is.0 is.2) (go (p (Event.Sync n)) e))
  where
    go : (b : Bool) → b ≡ false → (b || false) ≡ false
    go false q = refl
    go true q = absurd (true≢false q)

-- they are all that is done to logs
pub sync_logs : (n : ℕ) (es : List Event) → IsSync n es → IsSync n (keep is_log es)
sync_logs n es is = subst (IsSync n) (sym kept) is
  where
    kept : keep is_log es ≡ es
    kept = subst (λ ys. keep is_log ys ≡ ys) (sym is.1) (keep_append is_log is.0 (Event.Sync n ∷ []) ∙ ap (λ ys. ys ++ Event.Sync n ∷ []) (flushes_kept is.0 is.2))
