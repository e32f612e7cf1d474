-- Where no oldest end is ripe, no take finds one.
use Rattle.std.proofs.Common.{◌≡◌, ◌≤◌, ◌<◌, ℕ, Bool, true, false, cond, ◌&&◌, not, List, [], ◌∷◌, length, Option, Some, None, refl, sym, ap, ◌∙◌, subst, true≢false}
use Rattle.rfa_model.specs.Reaches.{least}
use Rattle.group_commit.specs.declared.queue.End.{End}
use Rattle.group_commit.specs.Ripeness.{flushed_of}
use Rattle.group_commit.specs.declared.receipts.Receipt.{Receipt}
use Rattle.group_commit.specs.Queues.{IsSettled, IsSoonest, Takes, begins_ripe, is_ripe_at, next_of, queue_of, receipt_if, ripe_first, settled}

still : (f all : ℕ) (q : List End) → begins_ripe f all q ≡ false → q ≡ settled f all q
still f all [] h = refl
still f all (e ∷ q) h = go (not e.is_commit) (is_ripe_at f all e) h
  where
    go : (a b : Bool) → b ≡ false → e ∷ q ≡ cond (a && b) (settled f all q) (e ∷ q)
    go true true k = absurd (true≢false k)
    go true false k = refl
    go false b k = refl

not_first : (f all : ℕ) (q : List End) → begins_ripe f all q ≡ false → ripe_first f all q ≡ None
not_first f all [] h = refl
not_first f all (e ∷ q) h = go e.is_commit (is_ripe_at f all e) h
  where
    go : (a b : Bool) → b ≡ false → cond (a && b) (Some e) None ≡ None
    go true true k = absurd (true≢false k)
    go true false k = refl
    go false b k = refl

-- ## Behind a take that found none

settled_twice : (f all : ℕ) (q : List End) → settled f all q ≡ settled f all (settled f all q)
settled_twice f all [] = refl
settled_twice f all (e ∷ q) = go (settled_twice f all q) (not e.is_commit && is_ripe_at f all e) refl
  where
    go : settled f all q ≡ settled f all (settled f all q) → (b : Bool) → (not e.is_commit && is_ripe_at f all e) ≡ b → cond b (settled f all q) (e ∷ q) ≡ settled f all (cond b (settled f all q) (e ∷ q))
    go twice true h = twice
    go twice false h = sym (ap (λ (b : Bool). cond b (settled f all q) (e ∷ q)) h)

pub takes_again : (fs : List ℕ) (old new : List (List End)) (found : Option Receipt) → IsSettled fs (least (flushed_of fs) (length fs)) old new → IsSoonest (next_of fs (least (flushed_of fs) (length fs)) new) (length new) found → found ≡ None → Takes fs new None new
takes_again fs old new found t soon none = record {
  between = new;
  aborts = record { sessions = refl; each = λ w some high. each w some (subst (λ (n : ℕ). w ≤ n) t.sessions high) };
  soonest = subst (IsSoonest (next_of fs all new) (length new)) none soon;
  taken = refl;
}
  where
    all : ℕ
    all = least (flushed_of fs) (length fs)

    each : (w : ℕ) → 0 < w → w ≤ length old → queue_of new w ≡ settled (flushed_of fs w) all (queue_of new w)
    each w some high =
        let e = t.each w some high in
        e ∙ (settled_twice (flushed_of fs w) all (queue_of old w) ∙ sym (ap (settled (flushed_of fs w) all) e))

pub takes_calm : (fs : List ℕ) (qs : List (List End)) → ((w : ℕ) → 0 < w → w ≤ length qs → begins_ripe (flushed_of fs w) (least (flushed_of fs) (length fs)) (queue_of qs w) ≡ false) → Takes fs qs None qs
takes_calm fs qs h = record {
  between = qs;
  aborts = record { sessions = refl; each = λ w some high. still (flushed_of fs w) (least (flushed_of fs) (length fs)) (queue_of qs w) (h w some high) };
  soonest = λ w some high. ap (receipt_if w) (not_first (flushed_of fs w) (least (flushed_of fs) (length fs)) (queue_of qs w) (h w some high));
  taken = refl;
}
