-- An event changes the control words alone that it publishes, and of workers its own.
use Rattle.std.proofs.Common.{◌≡◌, ◌≢◌, ◌==◌, ◌&&◌, ℕ, zero, suc, Bool, true, false, List, [], ◌∷◌, refl, sym, ap, ◌∙◌, true≢false, arith, ◌⊎◌, inl, inr, ⊎_elim}
use Rattle.std.proofs.lemmas.Bool.Decides.{nat_tests}
use Rattle.std.specs.Prelude.{slice_index}
use Rattle.map_model.specs.Lists.{upd}
use Rattle.core_state.specs.image_model.Entries.{Entry}
use Rattle.core_state.specs.Openings.{Opening}
use Rattle.core_state.specs.States.{State, Worker}
use Rattle.core_state.specs.Needs.{may}
use Rattle.core_state.specs.Local.{is_of}
use Rattle.core_state.specs.Local as local
use Rattle.core_state.specs.Steps.{happens, put_back}
use Rattle.core_state.specs.Steps as steps
use Rattle.core_state.proofs.Locality.{every_local}
use Rattle.row_words.specs.declared.event.Event.{Event}
use Rattle.row_words.specs.declared.event.Event.TheVariants as told
use Rattle.row_words.specs.declared.event.Met.TheVariants as met
use Rattle.row_words.specs.Moments.{event_of, answered, actor_of, is_sync}
use Rattle.row_words.specs.Words.{epoch_word}
use Rattle.row_words.specs.Laws.{sets, EveryControl, EveryOwn}
use Rattle.row_words.proofs.Stays.{cases, kept, here}

-- a step, from what happens where it may
pub stepped : {A : Type 0} (g : Opening) (s : State) (e : Event) (f : State → A) → f (happens g s (event_of e)) ≡ f s → f (steps.step g s (event_of e)) ≡ f s
stepped g s e f h = go (may g s (event_of e))
  where
    go : (b : Bool) → f (Rattle.std.specs.Prelude.if◌then◌else◌ b (happens g s (event_of e)) s) ≡ f s
    go true = h
    go false = refl

-- a field of an updated worker
field_of : {A : Type 0} (f : Worker → A) (F : ℕ → Worker) (v : ℕ) (a : Worker) (w : ℕ) → f a ≡ f (F v) → f (upd F v a w) ≡ f (F w)
field_of f F v a w h = cases (v == w)
    (λ t. ap f (here F v a w t) ∙ (h ∙ ap (λ z. f (F z)) (let e : v ≡ w = grind (arith, nat_tests) in e)))
    (λ n. ap f (kept F v a w n))

and_false : (a b : Bool) → (a && b) ≡ false → b ≡ true → a ≡ false
and_false true b e t = absurd (true≢false (sym t ∙ e))
and_false false b e t = refl

flip : (a b : ℕ) → (a == b) ≡ false → (b == a) ≡ false
flip a b h = grind (arith, nat_tests)

module _ (g : Opening) (s : State) where
  epoch : (e : Event) → sets e 0 0 ≡ false → (happens g s (event_of e)).epoch ≡ s.epoch
  epoch told.Tick off = absurd (true≢false off)
  epoch (told.PutBack w p) off = go (s.worker w).changes
    where
      go : (cs : List Entry) → (put_back g s w p cs).epoch ≡ s.epoch
      go [] = refl
      go (c ∷ cs) = refl
  epoch (told.Next w p k (met.Pair at word)) off = refl
  epoch (told.Next w p k (met.Gap h)) off = refl
  epoch _ off = refl

  posted : (e : Event) → sets e 0 1 ≡ false → (happens g s (event_of e)).posted ≡ s.posted
  posted (told.Post w n) off = absurd (true≢false off)
  posted (told.PutBack w p) off = go (s.worker w).changes
    where
      go : (cs : List Entry) → (put_back g s w p cs).posted ≡ s.posted
      go [] = refl
      go (c ∷ cs) = refl
  posted (told.Next w p k (met.Pair at word)) off = refl
  posted (told.Next w p k (met.Gap h)) off = refl
  posted _ off = refl

  flushed : (e : Event) (w : ℕ) → sets e (suc w) 0 ≡ false → (happens g s (event_of e)).flushed (suc w) ≡ s.flushed (suc w)
  flushed (told.Flush v n) w off = kept s.flushed v n (suc w) (flip (suc w) v (and_false (suc w == v) true off refl))
  flushed (told.Sync n) w off = let t : (suc w == 0) ≡ false = grind (arith, nat_tests) in absurd (true≢false (sym (rw t refl) ∙ off))
  flushed (told.PutBack v p) w off = go (s.worker v).changes
    where
      go : (cs : List Entry) → (put_back g s v p cs).flushed (suc w) ≡ s.flushed (suc w)
      go [] = refl
      go (c ∷ cs) = refl
  flushed (told.Next v p k (met.Pair at word)) w off = refl
  flushed (told.Next v p k (met.Gap h)) w off = refl
  flushed _ w off = refl

  ended : (e : Event) (w : ℕ) → sets e (suc w) 1 ≡ false → ((happens g s (event_of e)).worker (suc w)).end ≡ (s.worker (suc w)).end
  ended (told.Begin v f) w off = field_of (λ z. z.end) s.worker v _ (suc w) refl
  ended (told.Lock v i m) w off = field_of (λ z. z.end) s.worker v _ (suc w) refl
  ended (told.Read v p k a) w off = field_of (λ z. z.end) s.worker v _ (suc w) refl
  ended (told.Next v p k (met.Pair at word)) w off = field_of (λ z. z.end) s.worker v _ (suc w) refl
  ended (told.Next v p k (met.Gap h)) w off = field_of (λ z. z.end) s.worker v _ (suc w) refl
  ended (told.Change v p k x) w off = field_of (λ z. z.end) s.worker v _ (suc w) refl
  ended (told.PutBack v p) w off = go (s.worker v).changes
    where
      go : (cs : List Entry) → ((put_back g s v p cs).worker (suc w)).end ≡ (s.worker (suc w)).end
      go [] = refl
      go (c ∷ cs) = field_of (λ z. z.end) s.worker v _ (suc w) refl
  ended (told.Split v l r q i) w off = field_of (λ z. z.end) s.worker v _ (suc w) refl
  ended (told.Lift v c) w off = field_of (λ z. z.end) s.worker v _ (suc w) refl
  ended (told.Join v l r q) w off = field_of (λ z. z.end) s.worker v _ (suc w) refl
  ended (told.Drop v c) w off = field_of (λ z. z.end) s.worker v _ (suc w) refl
  ended (told.Purge v p keys) w off = field_of (λ z. z.end) s.worker v _ (suc w) refl
  ended (told.End v commit f) w off = ap (λ z. z.end) (kept s.worker v _ (suc w) (flip (suc w) v (and_false (suc w == v) true off refl)))
  ended (told.Sync n) w off = refl
  ended _ w off = refl

  inside : (e : Event) (w : ℕ) → sets e (suc w) 2 ≡ false → (happens g s (event_of e)).inside (suc w) ≡ s.inside (suc w)
  inside (told.Enter v x) w off = kept s.inside v _ (suc w) (flip (suc w) v (and_false (suc w == v) true off refl))
  inside (told.Leave v) w off = kept s.inside v _ (suc w) (flip (suc w) v (and_false (suc w == v) true off refl))
  inside (told.PutBack v p) w off = go (s.worker v).changes
    where
      go : (cs : List Entry) → (put_back g s v p cs).inside (suc w) ≡ s.inside (suc w)
      go [] = refl
      go (c ∷ cs) = refl
  inside (told.Next v p k (met.Pair at word)) w off = refl
  inside (told.Next v p k (met.Gap h)) w off = refl
  inside _ w off = refl

answer : (a : ℕ → ℕ) (e : Event) (w : ℕ) → sets e (suc w) 3 ≡ false → answered a e (suc w) ≡ a (suc w)
answer a (told.Ask v) w off = kept a v 0 (suc w) (flip (suc w) v (and_false (suc w == v) true off refl))
answer a (told.Refused v n m) w off = kept a v n (suc w) (flip (suc w) v (and_false (suc w == v) true off refl))
answer a _ w off = refl

pub every_control : EveryControl
every_control g m e zero zero off = stepped g m.core e (λ z. z.epoch) (epoch g m.core e off)
every_control g m e zero (suc zero) off = stepped g m.core e (λ z. z.posted) (posted g m.core e off)
every_control g m e zero (suc (suc i)) off = refl
every_control g m e (suc w) zero off = stepped g m.core e (λ z. z.flushed (suc w)) (flushed g m.core e w off)
every_control g m e (suc w) (suc zero) off = stepped g m.core e (λ z. (z.worker (suc w)).end) (ended g m.core e w off)
every_control g m e (suc w) (suc (suc zero)) off = stepped g m.core e (λ z. epoch_word (z.inside (suc w))) (ap epoch_word (inside g m.core e w off))
every_control g m e (suc w) (suc (suc (suc zero))) off = answer m.answer e w off
every_control g m e (suc w) (suc (suc (suc (suc i)))) off = refl

-- ## Own

other : (v w : ℕ) → v ≢ w → (v == w) ≡ false
other v w ne = cases (v == w) (λ t. let e : v ≡ w = grind (arith, nat_tests) in absurd (ne e)) (λ n. n)

not_of : (g : Opening) (s : State) (e : Event) (w : ℕ) → actor_of e ≢ w → (is_of (event_of e) w ≡ false) ⊎ (happens g s (event_of e) ≡ s)
not_of g s (told.Enter v e) w ne = inl (other v w ne)
not_of g s (told.Leave v) w ne = inl (other v w ne)
not_of g s (told.Begin v f) w ne = inl (other v w ne)
not_of g s (told.Lock v i m) w ne = inl (other v w ne)
not_of g s (told.Read v p k a) w ne = inl (other v w ne)
not_of g s (told.Next v p k a) w ne = inl (other v w ne)
not_of g s (told.Peek v p k a) w ne = inl (other v w ne)
not_of g s (told.Change v p k x) w ne = inl (other v w ne)
not_of g s (told.PutBack v p) w ne = inl (other v w ne)
not_of g s (told.Split v l r q i) w ne = inl (other v w ne)
not_of g s (told.Lift v c) w ne = inl (other v w ne)
not_of g s (told.Join v l r q) w ne = inl (other v w ne)
not_of g s (told.Drop v c) w ne = inl (other v w ne)
not_of g s (told.Purge v p keys) w ne = inl (other v w ne)
not_of g s (told.End v commit f) w ne = inl (other v w ne)
not_of g s (told.Unlock v i) w ne = inl (other v w ne)
not_of g s (told.Flush v n) w ne = inl (other v w ne)
not_of g s (told.Post v n) w ne = inl (other v w ne)
not_of g s (told.Ask v) w ne = inl (other v w ne)
not_of g s (told.Miss v) w ne = inl (other v w ne)
not_of g s (told.Refused v n m) w ne = inr refl
not_of g s _ w ne = inl refl

same_sync : (e : Event) → is_sync e ≡ false → local.is_sync (event_of e) ≡ false
same_sync (told.Sync n) h = h
same_sync _ h = refl

pub every_own : EveryOwn
every_own g m e w ne n = ⊎_elim
    (λ (o : is_of (event_of e) w ≡ false). let l = every_local g m.core (event_of e) in record {
      worker = stepped g m.core e (λ z. z.worker w) (l.workers w o (same_sync e n));
      flushed = stepped g m.core e (λ z. z.flushed w) (l.flushed w o (same_sync e n));
      inside = stepped g m.core e (λ z. z.inside w) (l.inside w o);
    })
    (λ (o : happens g m.core (event_of e) ≡ m.core). record {
      worker = stepped g m.core e (λ z. z.worker w) (ap (λ z. z.worker w) o);
      flushed = stepped g m.core e (λ z. z.flushed w) (ap (λ z. z.flushed w) o);
      inside = stepped g m.core e (λ z. z.inside w) (ap (λ z. z.inside w) o);
    })
    (not_of g m.core e w ne)
