-- A frame is made empty: how the call ends.
use Rattle.std.proofs.Common.{◌≡◌, ◌<◌, ◌≤◌, ◌+◌, ◌-◌, ◌||◌, ◌⊎◌, inl, inr, ℕ, zero, suc, Bool, true, false, List, [], ◌∷◌, ◌++◌, length, length-append, slice_get, None, Some, refl, sym, ap, subst, ◌∙◌, arith}
use Rattle.lean_disk.specs.Story.{IsLawful, Story}
use Rattle.btree_descent.specs.rows_trait.declared.view.View.{View}
use Rattle.btree_descent.specs.row_words.declared.given.Given.{Given}
use Rattle.btree_descent.specs.row_words.Openings.{opening}
use Rattle.btree_descent.specs.rows_trait.Views.{Shape, state}
use Rattle.btree_descent.proofs.rows_trait.Runs.{ran_append, ran_none}
use Rattle.btree_descent.specs.core_state.Needs.{is_dirty}
use Rattle.page_pool.specs.Full.{NoneRipe}
use Rattle.page_provider.specs.declared.leaving.Chosen.TheVariants as chosen
use Rattle.cooling_stage.specs.declared.stage.Cooling.{Cooling}
use Rattle.cooling_stage.specs.Queue.{found}
use Rattle.page_provider.specs.declared.refusal.Refusal.{Refusal}
use Rattle.page_provider.specs.declared.refusal.Refusal.TheVariants as refusal
use Rattle.page_provider.specs.Comes.{HasRoom}
use Rattle.page_provider.specs.Cools.{Chills, HasChilled}
use Rattle.page_provider.specs.Disks.{Disked}
use Rattle.page_provider.specs.Ends.{HasRefused}
use Rattle.page_provider.specs.Evicts.{CanLeave, HasLeft, HasStayed, leaving}
use Rattle.page_provider.specs.Laws.{DiskLaws, RowLaws}
use Rattle.page_provider.specs.Leaves.{IsCalm, IsCounted, NoOther}
use Rattle.page_provider.specs.Providers.{Provider}
use Rattle.page_provider.specs.Shares.{AreNeeded, HasShare, cools_in, share}
use Rattle.page_provider.proofs.Chilling.{chills_then}
use Rattle.page_provider.proofs.Judging.{entry_is, tells}
use Rattle.page_provider.proofs.Moving.{left_moved, left_path, left_rested, moved_then, moved_up, refused_then, refused_up, rested_then, stayed_refused}
use Rattle.page_provider.proofs.Running.{disked_quiet}
use Rattle.page_provider.proofs.Shares.{cools_then, leaving_cools, leaving_sinks, left_off, none_sunk, sinks_ran, without_long}

-- the queue has what it had, and what cooled
chills_long : {z : Shape} {path : List ℕ} {v u : View} {was k : Provider} → (h : Chills z path v was u k) → length k.queue ≡ length was.queue + cools_in h.moved.events
chills_long {was = was} h = ap length h.queue ∙ (let a = length-append was.queue h.more in let b = h.count in omega arith)

-- one was empty
pub room_kept : {z : Shape} {path : List ℕ} {v u : View} {was k : Provider} {frame : ℕ} → HasChilled z path (share was.frames) v was u k → (rest : List ℕ) → k.empty ≡ rest ++ frame ∷ [] → HasRoom z path v was frame u k
room_kept {z} {path} {v} {u} {was} {k} d rest last =
    let h = d.chills in
    record {
      moved = moved_up (let few : 0 ≤ 2 = omega arith in few) h.moved;
      keeps = h.keeps;
      rested = h.rested;
      rest = rest;
      last = last;
      broken = ap (λ (p : Provider). p.broken) h.memory;
      needed = λ alone. record {
        events = h.moved.events;
        ran = h.moved.goes.ran;
        few = elim d.few [ inl e ↦ inl (let a = chills_long h in omega arith) | inr few ↦ inr (inl (let a = chills_long h in omega arith)) ];
      };
      enough = λ alone. elim d.enough [
        | inl many ↦ inl many
        | inr none ↦ inr (inr (record { at = u; before = h.moved.events; after = []; came = h.moved.goes.ran; went = ran_none z.alone u; none = none alone }))
      ];
    }

-- a page has left
module _ {z : Shape} {path : List ℕ} {v t u : View} {was first k : Provider} {entry : Cooling} (laws : RowLaws) (d : HasChilled z path (share was.frames) v was t first) (two : Chills z path t first u k)
    (few : (length k.queue ≡ length first.queue) ⊎ NoOther z u (chosen.Page entry)) (bare : first.empty ≡ []) (can : CanLeave u entry.page) (there : found entry.page k.queue ≡ Some entry) where
  both : Chills z path v was u k
  both = chills_then d.chills two

  full_then : was.empty ≡ []
  full_then = sym (ap (λ (p : Provider). p.empty) d.chills.memory) ∙ bare

  left_needed : {w : View} {is : Provider} → HasLeft z u k entry.page w is → z.alone ≡ true → AreNeeded z.alone v was w
  left_needed {w} {is} left alone =
      let dirty = is_dirty (state u).core entry.page in
      let same = cools_then both.moved.events (leaving dirty entry.page) (leaving_cools dirty entry.page) in
      let long = chills_long both in
      record {
        events = both.moved.events ++ leaving dirty entry.page;
        ran = ran_append z.alone v both.moved.events u (leaving dirty entry.page) w both.moved.goes.ran left.goes.ran;
        few = elim few [
          | inl equal ↦ elim d.few [ inl e ↦ inl (omega arith) | inr low ↦ inr (inl (omega arith)) ]
          | inr others ↦ inr (inr (
            full_then,
            subst (λ (g : Given). NoneRipe (opening g) (state w).core) (sym left.goes.ran.given)
                (none_sunk (opening u.given) (sinks_ran left.goes.ran (leaving_sinks dirty entry.page) alone) entry.page (others alone) (left_off laws left)),
          ))
        ];
      }

  left_enough : {w : View} {is : Provider} → HasLeft z u k entry.page w is → z.alone ≡ true → HasShare path z.alone v was w is
  left_enough {w} {is} left alone = elim d.enough [
    | inl many ↦ inr (inl (
      full_then,
      let a = chills_long two in
          let b = without_long entry.page k.queue (tells laws both.moved.goes.keeps).once in
          let e = ap (λ (p : Provider). length p.queue) left.pool in
          omega arith,
    ))
    | inr none ↦ inr (inr (record {
      at = t;
      before = d.chills.moved.events;
      after = two.moved.events ++ leaving (is_dirty (state u).core entry.page) entry.page;
      came = d.chills.moved.goes.ran;
      went = ran_append z.alone t two.moved.events u (leaving (is_dirty (state u).core entry.page) entry.page) w two.moved.goes.ran left.goes.ran;
      none = none alone;
    }))
  ]

  pub room_left : {w : View} {is : Provider} → HasLeft z u k entry.page w is → HasRoom z path v was entry.frame w is
  room_left {w} {is} left =
      let h = both in
      let c = h.moved.goes.keeps in
      let none = h.moved.goes.held in
      record {
        moved = moved_up (let small : 0 + 2 ≤ 2 = omega arith in small) (moved_then h.moved (left_moved laws c none can left));
        keeps = λ f p has e. left_path path laws c none can left f p has (h.keeps f p has e);
        rested = rested_then h.rested (left_rested laws c none can left);
        rest = k.empty;
        last = ap (λ (p : Provider). p.empty) left.pool ∙ ap (λ f. k.empty ++ f ∷ []) (entry_is laws c there).frame;
        broken = ap (λ (p : Provider). p.broken) left.pool ∙ ap (λ (p : Provider). p.broken) h.memory;
        needed = left_needed left;
        enough = left_enough left;
      }

module _ {z : Shape} {path : List ℕ} {v u : View} {was k : Provider} (laws : RowLaws) (h : Chills z path v was u k) where
  -- it stayed
  pub room_stayed : {w : View} {is : Provider} {page : ℕ} {why : Refusal} → CanLeave u page → HasStayed z u k page why w is → HasRefused 3 z path v was why w is
  room_stayed can st =
      refused_up (let few : 0 + 2 ≤ 3 = omega arith in few) (refused_then h.moved h.keeps (ap (λ (p : Provider). p.broken) h.memory) (stayed_refused laws h.moved.goes.keeps h.moved.goes.held can st))

or_false : (b : Bool) → b ≡ (b || false)
or_false true = refl
or_false false = refl

-- none could be made empty
pub room_full : {z : Shape} {path : List ℕ} {v u : View} {was k : Provider} (held : ℕ) (why : Refusal) → Chills z path v was u k → IsCounted k path held why → HasRefused 3 z path v was why u k
room_full {z = z} {v = v} {u = u} {was = was} {k = k} held (refusal.PoolFull on latched above n) h count = record {
  moved = moved_up (let few : 0 ≤ 3 = omega arith in few) h.moved;
  keeps = h.keeps;
  broken = ap (λ (p : Provider). p.broken) h.memory ∙ or_false was.broken;
  cause = tt;
  quiet = λ alone o. o;
  earlier = λ e. absurd (cc);
}
room_full held _ h count = absurd count

-- ## The device

pub calm_disked : {z : Shape} {v u : View} {k is : Provider} {s : Story} → DiskLaws → IsLawful s → IsCalm z v k u is → Disked z.alone k v is u s s
calm_disked disk law q = disked_quiet disk law q.ran q.quiet (ap (λ (p : Provider). p.slots) q.memory) (ap (λ (p : Provider). p.generation) q.memory)

-- ## The last of the empty frames

last_at : (l : List ℕ) (n f : ℕ) → suc n ≡ length l → slice_get l n ≡ Some f → (rest : List ℕ) × (l ≡ rest ++ f ∷ [])
last_at [] n f e h = absurd (cc)
last_at (x ∷ []) zero f e h = ([], let same : x ≡ f = cc in ap (λ y. y ∷ []) same)
last_at (x ∷ (y ∷ ys)) zero f e h = absurd (omega arith)
last_at (x ∷ xs) (suc n) f e h = let o = last_at xs n f (omega arith) h in (x ∷ o.0, ap (λ ys. x ∷ ys) o.1)

pub last_split : (l : List ℕ) (f : ℕ) → slice_get l (length l - 1) ≡ Some f → (rest : List ℕ) × (l ≡ rest ++ f ∷ [])
last_split [] f h = absurd (cc)
last_split (x ∷ xs) f h = last_at (x ∷ xs) (length (x ∷ xs) - 1) f (omega arith) h

pub last_none : (l : List ℕ) → slice_get l (length l - 1) ≡ None → l ≡ []
last_none [] h = refl
last_none (x ∷ xs) h = absurd (number_some (x ∷ xs) (length (x ∷ xs) - 1) (omega arith) (sym h))
  where
    number_some : (q : List ℕ) (i : ℕ) → i < length q → None ≡ slice_get q i → ⊥
    number_some q i few e = cc (Rattle.std.proofs.lemmas.Option.slice_get-get_or q i 0 few)
