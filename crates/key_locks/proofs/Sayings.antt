-- What a row's words say.
use Rattle.std.proofs.Common.{◌≡◌, ◌≢◌, ◌==◌, ◌||◌, ◌<◌, not, ℕ, zero, suc, ◌≤◌, MatchOption, Bool, true, false, [], ◌∷◌, Option, Some, None, get_or, refl, sym, ap, ◌∙◌, ⊎_elim, true≢false, arith}
use Rattle.std.proofs.lemmas.Bool.{eq-eqb, ne_eqb, cases_eq}
use Rattle.map_model.specs.Lists.{any}
use Rattle.lean_proto.specs.core_state.States.{Row}
use Rattle.lean_proto.specs.core_state.Needs.{is_held_by, is_free, is_reader, may_hold}
use Rattle.lean_proto.specs.core_state.Steps as core
use Rattle.lean_proto.specs.row_words.Words.{mask, holder_word, lock_words}
use Rattle.key_locks.specs.declared.mode.Mode.{Mode}
use Rattle.key_locks.specs.declared.mode.Mode.TheVariants.{Shared, Alone}
use Rattle.key_locks.specs.declared.words.Words.{Words}
use Rattle.key_locks.specs.Rows.{IsWorker, IsRow, Stands, IsBlocking, core_mode}
use Rattle.key_locks.specs.Inside.{others, IsSaid}
use Rattle.key_locks.proofs.Masks.{others_none, others_some, others_not, others_else}

-- ## Words one by one

pub readers_is : (n : ℕ) (o : Row) (x : Words) → IsSaid n o x → x.readers ≡ mask n o.readers
readers_is n o x s = ap (λ l. get_or l 0 0) s

pub holder_is : (n : ℕ) (o : Row) (x : Words) → IsSaid n o x → x.holder ≡ holder_word o.holder
holder_is n o x s = ap (λ l. get_or l 1 0) s

pub number_is : (n : ℕ) (o : Row) (x : Words) → IsSaid n o x → x.number ≡ o.number
number_is n o x s = ap (λ l. get_or l 2 0) s

pub log_is : (n : ℕ) (o : Row) (x : Words) → IsSaid n o x → x.log ≡ o.log
log_is n o x s = ap (λ l. get_or l 3 0) s

pub ends_is : (n : ℕ) (o : Row) (x : Words) → IsSaid n o x → x.ends ≡ o.read_end
ends_is n o x s = ap (λ l. get_or l 4 0) s

-- ## The holder's word

pub held : (h : Option ℕ) (x w : ℕ) → x ≡ holder_word h → 0 < w → x ≡ w → is_held_by h w ≡ true
held None x w e some same = absurd (omega arith)
held (Some v) x w e some same = eq-eqb v w (sym e ∙ same)

pub not_held : (h : Option ℕ) (x w : ℕ) → x ≡ holder_word h → x ≢ w → is_held_by h w ≡ false
not_held None x w e ne = refl
not_held (Some v) x w e ne = ne_eqb v w (λ z. ne (e ∙ z))

-- ## May the worker have the lock

pub holder_may : (o : Row) (w : ℕ) (mode : Mode) → is_held_by o.holder w ≡ true → may_hold o w (core_mode mode) ≡ true
holder_may o w Shared h = rw h refl
holder_may o w Alone h = rw h refl

-- another holder
pub other_holder : (o : Row) (x w : ℕ) (mode : Mode) → x ≡ holder_word o.holder → x ≢ w → x ≢ 0 → IsBlocking o w (core_mode mode) x
other_holder o x w mode e ne some = record { refused = no mode (is_taken o.holder e); blocks = stands o.holder e }
  where
    is_taken : (h : Option ℕ) → x ≡ holder_word h → is_free h ≡ false
    is_taken None e = absurd (some e)
    is_taken (Some v) e = refl

    no : (mode : Mode) → is_free o.holder ≡ false → may_hold o w (core_mode mode) ≡ false
    no Shared f = let h : is_held_by o.holder w ≡ false = not_held o.holder x w e ne in rw (h, f) refl
    no Alone f = let h : is_held_by o.holder w ≡ false = not_held o.holder x w e ne in rw (h, f) refl

    stands : (h : Option ℕ) → x ≡ holder_word h → Stands h o.readers w x
    stands None e = absurd (some e)
    stands (Some v) e = ((λ z. ne (e ∙ z)), e)

-- nobody holds it alone
pub none_holds : (n : ℕ) (o : Row) (x : ℕ) → IsRow n o → x ≡ holder_word o.holder → x ≡ 0 → o.holder ≡ None
none_holds n o x is e z = go o.holder e is.holder
  where
    go : (h : Option ℕ) → x ≡ holder_word h → ((w : ℕ) → is_held_by h w ≡ true → IsWorker n w) → h ≡ None
    go None e f = refl
    go (Some v) e f = absurd (let one = (f v (eq-eqb v v refl)).one in omega arith)

pub may_share : (o : Row) (w : ℕ) → o.holder ≡ None → may_hold o w (core_mode Shared) ≡ true
may_share o w none = go (is_held_by o.holder w) (ap is_free none)
  where
    go : (b : Bool) → is_free o.holder ≡ true → (b || is_free o.holder) ≡ true
    go true f = refl
    go false f = f

pub may_alone : (o : Row) (w : ℕ) → o.holder ≡ None → others w o.readers ≡ [] → may_hold o w (core_mode Alone) ≡ true
may_alone o w none e =
    let h : is_held_by o.holder w ≡ false = ap (λ z. is_held_by z w) none in
    let f : is_free o.holder ≡ true = ap is_free none in
    let a : any (λ v. not (v == w)) o.readers ≡ false = others_none w o.readers e in rw (h, f, a) refl

pub first_reader : (o : Row) (w b : ℕ) → o.holder ≡ None → is_reader b (others w o.readers) ≡ true → ((u : ℕ) → is_reader u (others w o.readers) ≡ true → b ≤ u) → IsBlocking o w (core_mode Alone) b
first_reader o w b none r least = record { refused = no; blocks = stands o.holder none }
  where
    other : b ≢ w
    other e = true≢false (sym r ∙ (ap (λ z. is_reader z (others w o.readers)) e ∙ others_not w o.readers))

    no : may_hold o w (core_mode Alone) ≡ false
    no =
        let h : is_held_by o.holder w ≡ false = ap (λ z. is_held_by z w) none in
        let f : is_free o.holder ≡ true = ap is_free none in
        let a : any (λ v. not (v == w)) o.readers ≡ true = others_some w b o.readers r in rw (h, f, a) refl

    stands : (h : Option ℕ) → h ≡ None → Stands h o.readers w b
    stands None e = record {
      reads = sym (others_else w b o.readers other) ∙ r;
      other = other;
      least = λ u q ne. least u (others_else w u o.readers ne ∙ q);
    }
    stands (Some v) e = absurd (cc)

-- ## What code makes of the words

pub first_of : (n : ℕ) (o : Row) (w : ℕ) (least : Option ℕ) → o.holder ≡ None
    → MatchOption least (others w o.readers ≡ []) (λ b. (is_reader b (others w o.readers) ≡ true) × ((u : ℕ) → is_reader u (others w o.readers) ≡ true → b ≤ u))
    → MatchOption least (may_hold o w (core_mode Alone) ≡ true) (λ b. IsBlocking o w (core_mode Alone) b)
first_of n o w None none e = may_alone o w none e
first_of n o w (Some b) none f = first_reader o w b none f.0 f.1

-- the other readers are workers too
pub others_are : (n : ℕ) (o : Row) (w : ℕ) → IsRow n o → (u : ℕ) → is_reader u (others w o.readers) ≡ true → IsWorker n u
others_are n o w is u r = ⊎_elim
    (λ (e : u ≡ w). absurd (true≢false (sym r ∙ (ap (λ z. is_reader z (others w o.readers)) e ∙ others_not w o.readers))))
    (λ (ne : u ≡ w → ⊥). is.reader u (sym (others_else w u o.readers ne) ∙ r))
    (cases_eq u w)

pub locked_alone : (n : ℕ) (o : Row) (x : Words) (w : ℕ) → is_held_by o.holder w ≡ false → IsSaid n o x
    → (0 ∷ w ∷ x.number ∷ x.log ∷ x.ends ∷ []) ≡ lock_words n (core.locked o w (core_mode Alone))
locked_alone n o x w h s = rw h (λ i. no_mask n i ∷ w ∷ number_is n o x s i ∷ log_is n o x s i ∷ ends_is n o x s i ∷ [])
  where
    no_mask : (n : ℕ) → 0 ≡ mask n []
    no_mask zero = refl
    no_mask (suc n) = no_mask n
