-- Covers last whatever happens, and rise where a shard is saved.
use Rattle.std.proofs.Common.{◌≡◌, ◌⊎◌, inl, inr, ◌≤◌, ◌<◌, ℕ, Bool, true, List, [], ◌∷◌, ◌++◌, refl, sym, ap, ◌∙◌, subst, arith, true≢false, append_assoc}
use Rattle.std.proofs.lemmas.Bool.{and_parts, eq-eqb}
use Rattle.std.proofs.lemmas.List.{append-nil}
use Rattle.std.proofs.lemmas.Nat.{mod_below}
use Rattle.map_model.specs.Lists.{upd}
use Rattle.map_model.specs.Maps.{MapAnswer}
use Rattle.core_paging.specs.image_model.Entries.{Entry}
use Rattle.core_paging.specs.core_state.Openings.{Opening}
use Rattle.core_paging.specs.core_state.States.{Place, State, flushed_by_all, frame_of, in_frame, is_cold, left_by}
use Rattle.core_paging.specs.core_state.Events.{Event}
use Rattle.core_paging.specs.core_state.Needs.{are_hot, is_inside, needs, pages_of}
use Rattle.core_paging.specs.core_state.Steps.{follows, happens, put_back, state_after, step, with_pairs}
use Rattle.core_paging.specs.core_commit.Rises.{EveryRise}
use Rattle.core_paging.proofs.core_commit.Copies.{at_place}
use Rattle.core_paging.proofs.core_commit.Lists.{le_least}
use Rattle.core_paging.proofs.core_commit.Runs.{load_cold, step_keeps}
use Rattle.core_covers.specs.Changes.{EveryChange, HasChanges}
use Rattle.core_covers.specs.Covers.{AreCovers, EveryBaseCover, EveryCover, IsCovered, IsSettled, IsShardSaved, shard_of}
use Rattle.core_covers.proofs.ChangeLemmas.{has_more, state_then}

-- ## Places

-- what stands in a frame stood there before, or was cold
abbrev Stood : Place → Place → ℕ → Type 0
Stood old new f = in_frame new f ≡ true → (in_frame old f ≡ true) ⊎ (is_cold old ≡ true)

stood_left : (w : ℕ) (x : Place) (f : ℕ) → Stood x (left_by w x) f
stood_left w (Place.Hot i) f = inl
stood_left w (Place.Cooling i e v) f = inl
stood_left w Place.Cold f = inl

stood_cooling : (x : Place) (e : ℕ) (v : ℕ → Bool) (f : ℕ) → Stood x (Place.Cooling (frame_of x) e v) f
stood_cooling (Place.Hot i) e v f = inl
stood_cooling (Place.Cooling i u t) e v f = inl
stood_cooling Place.Cold e v f = λ _. inr refl

stood_hot : (x : Place) (f : ℕ) → Stood x (Place.Hot (frame_of x)) f
stood_hot (Place.Hot i) f = inl
stood_hot (Place.Cooling i u t) f = inl
stood_hot Place.Cold f = λ _. inr refl

-- one page's place changes
stood_at : (place : ℕ → Place) (q : ℕ) (x : Place) (p f : ℕ) → Stood (place q) x f → Stood (place p) (upd place q x p) f
stood_at place q x p f h = at_place (λ j y. Stood (place j) y f) place q x p (λ e. subst (λ (j : ℕ). Stood (place j) x f) (sym e) h) (λ _. inl)

stood_event : (g : Opening) (s : State) (e : Event) (p f : ℕ) → needs g s e ≡ true → Stood (s.place p) ((happens g s e).place p) f
stood_event g s (Event.Leave w) p f m = stood_left w (s.place p) f
stood_event g s (Event.Next w q k a) p f m = go a
  where
    go : (a : MapAnswer) → Stood (s.place p) ((follows g s w q a).place p) f
    go (MapAnswer.Pair at word) = inl
    go (MapAnswer.Gap b) = inl
    go (MapAnswer.Value v) = inl
    go (MapAnswer.Was v) = inl
stood_event g s (Event.Put_back w q) p f m = go (s.worker w).changes
  where
    go : (cs : List Entry) → Stood (s.place p) ((put_back g s w q cs).place p) f
    go [] = inl
    go (c ∷ cs) = inl
stood_event g s (Event.Load q i) p f m = stood_at s.place q (Place.Hot i) p f (λ _. inr (load_cold g s q i m))
stood_event g s (Event.Cool q) p f m = stood_at s.place q (Place.Cooling (frame_of (s.place q)) s.epoch (λ w. is_inside (s.inside w))) p f (stood_cooling (s.place q) s.epoch (λ w. is_inside (s.inside w)) f)
stood_event g s (Event.Rescue q) p f m = stood_at s.place q (Place.Hot (frame_of (s.place q))) p f (stood_hot (s.place q) f)
stood_event g s (Event.Evict q) p f m = stood_at s.place q Place.Cold p f (λ n. absurd (true≢false (sym n)))
stood_event g s _ p f m = inl

stood_step : (g : Opening) (s : State) (e : Event) (p f : ℕ) → Stood (s.place p) ((step g s e).place p) f
stood_step g s e p f = step_keeps (λ t. Stood (s.place p) (t.place p) f) g s e inl (λ m. stood_event g s e p f (and_parts (are_hot s (pages_of e)) (needs g s e) m).1)

-- ## Saved contents

-- the number is that of what was saved of the page, or that of the page
abbrev IsSaved : State → (p n : ℕ) → Type 0
IsSaved s p n = (n ≡ (s.saved p).gsn) ⊎ (n ≡ (s.page p).gsn)

saved_event : (g : Opening) (s : State) (e : Event) (p : ℕ) → IsSaved s p ((happens g s e).saved p).gsn
saved_event g s (Event.Save q) p = at_place (λ j v. IsSaved s j v.gsn) s.saved q (s.page q) p (λ e. inr (ap (λ (j : ℕ). (s.page j).gsn) (sym e))) (λ _. inl refl)
saved_event g s (Event.Fetch q pairs) p = at_place (λ j v. IsSaved s j v.gsn) s.saved q (with_pairs pairs (s.saved q)) p (λ e. inl (ap (λ (j : ℕ). (s.saved j).gsn) (sym e))) (λ _. inl refl)
saved_event g s (Event.Next w q j a) p = go a
  where
    go : (a : MapAnswer) → IsSaved s p ((follows g s w q a).saved p).gsn
    go (MapAnswer.Pair at word) = inl refl
    go (MapAnswer.Gap b) = inl refl
    go (MapAnswer.Value v) = inl refl
    go (MapAnswer.Was v) = inl refl
saved_event g s (Event.Put_back w q) p = go (s.worker w).changes
  where
    go : (cs : List Entry) → IsSaved s p ((put_back g s w q cs).saved p).gsn
    go [] = inl refl
    go (c ∷ cs) = inl refl
saved_event g s _ p = inl refl

saved_step : (g : Opening) (s : State) (e : Event) (p : ℕ) → IsSaved s p ((step g s e).saved p).gsn
saved_step g s e p = step_keeps (λ t. IsSaved s p (t.saved p).gsn) g s e (inl refl) (λ _. saved_event g s e p)

-- ## All pages

-- What is saved of a page in a frame has its changes up to the cover of the frame's shard: so what is saved of each page has those up to all covers.
pub saved_up : EveryChange → (g : Opening) (es : List Event) (cover : ℕ → ℕ)
    → ((p f : ℕ) → in_frame ((state_after g es).place p) f ≡ true → HasChanges (state_after g es) p (cover (shard_of f)) ((state_after g es).saved p).gsn)
    → (p x : ℕ) → IsCovered cover x → HasChanges (state_after g es) p x ((state_after g es).saved p).gsn
saved_up changes g es cover framed p x covered = go (s.place p) refl
  where
    s : State
    s = state_after g es

    at : (f : ℕ) → in_frame (s.place p) f ≡ true → HasChanges s p x (s.saved p).gsn
    at f stands r h t l = framed p f stands r h t (let c = covered (shard_of f) (mod_below f 8 (omega arith)) in omega arith)

    go : (place : Place) → s.place p ≡ place → HasChanges s p x (s.saved p).gsn
    go (Place.Hot f) e = at f (ap (λ (y : Place). in_frame y f) e ∙ eq-eqb f f refl)
    go (Place.Cooling f u v) e = at f (ap (λ (y : Place). in_frame y f) e ∙ eq-eqb f f refl)
    go Place.Cold e = (changes g es p).cold x (ap is_cold e)

-- ## Laws

module _ (changes : EveryChange) (rises : EveryRise) (g : Opening) (cover : ℕ → ℕ) where
  one : (es : List Event) (e : Event) (firm : ℕ → ℕ) → AreCovers g (state_after g es) cover firm → AreCovers g (state_after g (es ++ e ∷ [])) cover firm
  one es e firm c = record {
    low = λ k lt. let a = c.low k lt in let b = (rises g es (e ∷ [])).flushed_by_all in let q = ap (flushed_by_all g) (state_then g es e) in omega arith;
    framed = λ p f stands. framed p f (was p f (stood_step g s e p f (ap (λ (t : State). in_frame (t.place p) f) (sym (state_then g es e)) ∙ stands)));
    synced = λ p x lt covered. (changes g es p).more (e ∷ []) x (firm p) (let a = covered 0 (omega arith) in let b = c.low 0 (omega arith) in omega arith) (c.synced p x lt covered);
  }
    where
      s : State
      s = state_after g es

      -- what was saved of it before
      was : (p f : ℕ) → (in_frame (s.place p) f ≡ true) ⊎ (is_cold (s.place p) ≡ true) → HasChanges s p (cover (shard_of f)) (s.saved p).gsn
      was p f (inl here) = c.framed p f here
      was p f (inr cold) = (changes g es p).cold (cover (shard_of f)) cold

      -- and what is saved now
      is : (p f : ℕ) → HasChanges s p (cover (shard_of f)) (s.saved p).gsn → IsSaved s p ((step g s e).saved p).gsn → HasChanges s p (cover (shard_of f)) ((step g s e).saved p).gsn
      is p f up (inl same) = has_more s p (cover (shard_of f)) (s.saved p).gsn ((step g s e).saved p).gsn (omega arith) up
      is p f up (inr new) = has_more s p (cover (shard_of f)) (s.page p).gsn ((step g s e).saved p).gsn (omega arith) ((changes g es p).now (cover (shard_of f)))

      framed : (p f : ℕ) → HasChanges s p (cover (shard_of f)) (s.saved p).gsn → HasChanges (state_after g (es ++ e ∷ [])) p (cover (shard_of f)) ((state_after g (es ++ e ∷ [])).saved p).gsn
      framed p f up = subst (λ (t : State). HasChanges (state_after g (es ++ e ∷ [])) p (cover (shard_of f)) (t.saved p).gsn) (sym (state_then g es e))
          ((changes g es p).more (e ∷ []) (cover (shard_of f)) ((step g s e).saved p).gsn (c.low (shard_of f) (mod_below f 8 (omega arith))) (is p f up (saved_step g s e p)))

  more : (later es : List Event) (firm : ℕ → ℕ) → AreCovers g (state_after g es) cover firm → AreCovers g (state_after g (es ++ later)) cover firm
  more [] es firm c = subst (λ (l : List Event). AreCovers g (state_after g l) cover firm) (sym (append-nil es)) c
  more (e ∷ later) es firm c = subst (λ (l : List Event). AreCovers g (state_after g l) cover firm) (append_assoc es (e ∷ []) later) (more later (es ++ e ∷ []) firm (one es e firm c))

  module _ (es : List Event) (firm : ℕ → ℕ) (c : AreCovers g (state_after g es) cover firm) (now : ℕ → ℕ) where
    abbrev s : State
    s = state_after g es

    newer : ((p : ℕ) → p < g.format.pages → firm p ≤ now p) → AreCovers g s cover now
    newer is = record {
      low = c.low;
      framed = c.framed;
      synced = λ p x lt covered. has_more s p x (firm p) (now p) (is p lt) (c.synced p x lt covered);
    }

    settled : IsSettled g s now → AreCovers g s cover now
    settled is = record {
      low = c.low;
      framed = c.framed;
      synced = λ p x lt covered. has_more s p x (s.saved p).gsn (now p) (is p lt) (saved_up changes g es cover c.framed p x covered);
    }

    shard : (k x : ℕ) → IsShardSaved s k x → IsSettled g s now → x ≤ flushed_by_all g s → AreCovers g s (upd cover k x) now
    shard k x is_saved is low = record {
      low = λ j lt. at_place (λ i n. n ≤ flushed_by_all g s) cover k x j (λ _. low) (λ _. c.low j lt);
      framed = framed;
      synced = λ p y lt covered. has_more s p y (s.saved p).gsn (now p) (is p lt) (saved_up changes g es (upd cover k x) framed p y covered);
    }
      where
        framed : (p f : ℕ) → in_frame (s.place p) f ≡ true → HasChanges s p (upd cover k x (shard_of f)) (s.saved p).gsn
        framed p f stands = at_place (λ i n. HasChanges s p n (s.saved p).gsn) cover k x (shard_of f) (λ here. is_saved p f stands here) (λ _. c.framed p f stands)

pub every_cover : EveryChange → EveryRise → EveryCover
every_cover changes rises g es cover firm = record {
  more = λ later. more changes rises g cover later es firm;
  newer = λ now c. newer changes rises g cover es firm c now;
  settled = λ now c. settled changes rises g cover es firm c now;
  shard = λ k x now c. shard changes rises g cover es firm c now k x;
}

pub every_base_cover : EveryBaseCover
every_base_cover g firm = record {
  low = λ k lt. le_least (λ _. g.base) g.workers g.base g.some_worker (λ w l. omega arith);
  framed = λ p f stands r h. absurd h;
  synced = λ p x lt covered r h. absurd h;
}
