-- Rows are latched, given back and given up one after another.
use Rattle.std.proofs.Common.{◌≡◌, ◌≢◌, ℕ, zero, suc, ◌<◌, ◌≤◌, ◌+◌, Bool, true, false, cond, List, [], ◌∷◌, ◌++◌, length, refl, sym, ap, ap₂, ◌∙◌, subst, arith, set, add-one, append_assoc, ◌⊎◌, inl, inr, ◌==◌, length-set, append-nil, true≢false}
use Rattle.std.proofs.lemmas.List.{get_or-set_other, set-get_or}
use Rattle.std.proofs.lemmas.Bool.{cond-true, cond-false, eq-eqb, ne_eqb, cases_eq}
use Rattle.core_state.specs.Needs.{holds_row}
use Rattle.core_state.specs.Openings.{Opening}
use Rattle.core_state.specs.Events.{Event}
use Rattle.transactions.specs.declared.hindrance.Hindrance.{Hindrance}
use Rattle.core_state.specs.Steps.{state_after}
use Rattle.transactions.specs.Paths.{is_fault, Any, Takes, Idles, Did, Hindered}
use Rattle.transactions.specs.Memory.{Memory, Ties, has_row, held_rows}
use Rattle.transactions.specs.Calls.{unlocks, IsNoStep, Unlatched, Unlocked}
use Rattle.transactions.proofs.QuietLemmas.{quiet_more, may_more}
use Rattle.transactions.proofs.PathLemmas.{only_more, Joins, goes_then, did_then, did_take, did_idle, turn}
use Rattle.transactions.proofs.KnowLemmas.{ties_more, ties_unlocked, row_set}

held_set : (held : List Bool) (n k : ℕ) → k ≤ n → held_rows (set held n false) k ≡ held_rows held k
held_set held n zero l = refl
held_set held n (suc k) l =
    let ne : k ≢ n = omega arith in
    ap₂ (λ (b : Bool) (xs : List ℕ). cond b (k ∷ xs) xs) (get_or-set_other held n k false false ne) (held_set held n k (omega arith))

unlocks_more : (w : ℕ) (xs ys : List ℕ) → unlocks w xs ++ unlocks w ys ≡ unlocks w (xs ++ ys)
unlocks_more w [] ys = refl
unlocks_more w (x ∷ xs) ys = ap (λ (l : List Event). Event.Unlock w x ∷ l) (unlocks_more w xs ys)

module _ {A : Type 0} (S : Opening → List Event → List ℕ → A → Type 0) (L : Opening → List Event → List Event → A → A → Type 0) (Q : A → Bool) (K : ℕ → Event → Bool) (g : Opening) where
  -- the rows from here on are given up
  pub record UnlockedSo (es : List Event) (a b : A) (m n : Memory) (row : ℕ) : Type 0 where
    pub rows : List ℕ
    pub did : Did S L Q K g es m.session (unlocks m.session rows) (held_rows n.held row) a b
    pub whole : rows ++ held_rows n.held row ≡ held_rows m.held (length m.held)
    pub ties : Ties g (es ++ did.more) n

module _ {A : Type 0} (S : Opening → List Event → List ℕ → A → Type 0) (L : Opening → List Event → List Event → A → A → Type 0) (Q : A → Bool) (K : ℕ → Event → Bool) (C : Hindrance → Opening → List Event → A → A → Type 0) (g : Opening)
    (rests : (es : List Event) (latched : List ℕ) (a : A) → S g es latched a → L g es [] a a) (joins : Joins S L Q K g) where
  abbrev pub idles_none : (es : List Event) (w : ℕ) (latched : List ℕ) (a : A) → S g es latched a → Idles S L Q K g es w latched a a
  idles_none es w latched a s = record { more = []; goes = record { met = tt; stands = subst (λ (l : List Event). S g l latched a) (sym (append-nil es)) s; leaves = rests es latched a s; alone = refl }; quiet = tt; only = λ h. tt; kinds = tt }

  abbrev pub idles_then : (es : List Event) (w : ℕ) (m n : List ℕ) (a b c : A) → (i : Idles S L Q K g es w m a b) → Idles S L Q K g (es ++ i.more) w n b c → Idles S L Q K g es w n a c
  idles_then es w m n a b c i j = record { more = i.more ++ j.more; goes = goes_then S L Q K g joins es i.more j.more m n a b c i.goes j.goes; quiet = quiet_more w i.more j.more i.quiet j.quiet; only = λ h. only_more w i.more j.more (i.only h) (j.only (i.goes.alone ∙ h)); kinds = may_more (K w) i.more j.more i.kinds j.kinds }

  -- ## Latches

  abbrev pub with_it : List Bool → ℕ → List ℕ → List ℕ
  with_it held row latched = cond (has_row held row) (row ∷ latched) latched

  -- a row that is not held
  pub latch_free : (es : List Event) (w : ℕ) (held : List Bool) (row : ℕ) (latched : List ℕ) (a : A) → has_row held row ≡ false → S g es latched a → Idles S L Q K g es w (with_it held row latched) a a
  latch_free es w held row latched a e s = subst (λ (x : List ℕ). Idles S L Q K g es w x a a) (sym (cond-false (has_row held row) (row ∷ latched) latched e)) (idles_none es w latched a s)

  pub unlatch_free : (es : List Event) (w : ℕ) (held : List Bool) (row : ℕ) (latched : List ℕ) (a : A) → has_row held row ≡ false → S g es (with_it held row latched) a → Idles S L Q K g es w latched a a
  unlatch_free es w held row latched a e s = idles_none es w latched a (subst (λ (x : List ℕ). S g es x a) (cond-false (has_row held row) (row ∷ latched) latched e) s)

  pub latch_more : (es : List Event) (a b c : A) (m : Memory) (row : ℕ) → Ties g es m → (i : Idles S L Q K g es m.session (held_rows m.held row) a b) →
      (S g (es ++ i.more) (held_rows m.held row) b → Ties g (es ++ i.more) m → Idles S L Q K g (es ++ i.more) m.session (with_it m.held row (held_rows m.held row)) b c) →
      Idles S L Q K g es m.session (held_rows m.held (row + 1)) a c
  latch_more es a b c m row k i next =
      subst (λ (n : ℕ). Idles S L Q K g es m.session (held_rows m.held n) a c) (sym (add-one row))
      (idles_then es m.session (held_rows m.held row) (held_rows m.held (suc row)) a b c i (next i.goes.stands (ties_more g es i.more m k i.goes.met i.quiet)))

  pub latch_failed : (es : List Event) (a b c d : A) (m : Memory) (row : ℕ) (h : Hindrance) → Ties g es m → (i : Idles S L Q K g es m.session (held_rows m.held row) a b) → is_fault h ≡ false →
      (S g (es ++ i.more) (held_rows m.held row) b → Ties g (es ++ i.more) m → Hindered S L Q K g (es ++ i.more) C m.session IsNoStep (held_rows m.held row) h b c) →
      ((fs : List Event) → S g fs (held_rows m.held row) c → Idles S L Q K g fs m.session [] c d) → Unlatched S L Q K C g es a d m m h
  latch_failed es a b c d m row h k i sound next back =
      let x = next i.goes.stands (ties_more g es i.more m k i.goes.met i.quiet) in
      record {
        latched = held_rows m.held row;
        at = b;
        way = i;
        stops = record {
          to = c;
          cause = x.cause;
          breaks = λ f. absurd (true≢false (sym f ∙ sound));
          idles = λ f. (x.idles f, back ((es ++ i.more) ++ (x.idles f).more) (x.idles f).goes.stands);
        };
      }

  pub unlatch_more : (es : List Event) (a b c : A) (w : ℕ) (held : List Bool) (row before : ℕ) → row ≡ suc before → (i : Idles S L Q K g es w (held_rows held row) a b) →
      (S g (es ++ i.more) (with_it held before (held_rows held before)) b → Idles S L Q K g (es ++ i.more) w (held_rows held before) b c) → Idles S L Q K g es w (held_rows held before) a c
  unlatch_more es a b c w held row before e i next =
      idles_then es w (held_rows held row) (held_rows held before) a b c i (next (subst (λ (n : ℕ). S g (es ++ i.more) (held_rows held n) b) e i.goes.stands))

  -- ## Unlocks

  pub unlocked_none : (es : List Event) (a : A) (m : Memory) (row : ℕ) → row ≡ length m.held → S g es (held_rows m.held (length m.held)) a → Ties g es m → UnlockedSo S L Q K g es a a m m row
  unlocked_none es a m row e s k = record {
    rows = [];
    did = record { more = []; goes = record { met = tt; stands = subst (λ (l : List Event). S g l (held_rows m.held row) a) (sym (append-nil es)) (subst (λ (n : ℕ). S g es (held_rows m.held n) a) (sym e) s); leaves = rests es (held_rows m.held (length m.held)) a s; alone = refl }; steps_are = refl; only = λ h. tt; kinds = tt };
    whole = ap (held_rows m.held) e;
    ties = subst (λ (l : List Event). Ties g l m) (sym (append-nil es)) k;
  }

  pub unlock_more : (es : List Event) (a b c : A) (m n p : Memory) (row before : ℕ) → row ≡ suc before → n.session ≡ m.session → p.held ≡ set n.held before false → (u : UnlockedSo S L Q K g es a b m n row) →
      (S g (es ++ u.did.more) (with_it n.held before (held_rows n.held before)) b → Ties g (es ++ u.did.more) n →
      Unlocked S L Q K C g (es ++ u.did.more) b c n p (cond (has_row n.held before) (before ∷ []) []) (held_rows n.held before)) →
      UnlockedSo S L Q K g es a c m p before
  unlock_more es a b c m n p row before e s h u next =
      let w = m.session in
      let x = next (subst (λ (k : ℕ). S g (es ++ u.did.more) (held_rows n.held k) b) e u.did.goes.stands) u.ties in
      let ys = cond (has_row n.held before) (before ∷ []) [] in
      let q = subst (λ (v : ℕ). (d : Did S L Q K g (es ++ u.did.more) v (unlocks v ys) (held_rows n.held before) b c) × Ties g ((es ++ u.did.more) ++ d.more) p) s (x.did, x.ties) in
      let same : held_rows p.held before ≡ held_rows n.held before = ap (λ (l : List Bool). held_rows l before) h ∙ held_set n.held before before (omega arith) in
      let d = did_then S L Q K g joins es w (unlocks w u.rows) (unlocks w ys) (held_rows n.held row) (held_rows n.held before) a b c u.did q.0 in
      record {
        rows = u.rows ++ ys;
        did = record {
          more = d.more;
          goes = record { met = d.goes.met; stands = subst (λ (l : List ℕ). S g (es ++ d.more) l c) (sym same) d.goes.stands; leaves = d.goes.leaves; alone = d.goes.alone };
          steps_are = d.steps_are ∙ unlocks_more w u.rows ys;
          only = d.only;
          kinds = d.kinds;
        };
        whole = ap (λ (l : List ℕ). (u.rows ++ ys) ++ l) same ∙ (shuffle (has_row n.held before) u.rows (held_rows n.held before) ∙ (ap (λ (k : ℕ). u.rows ++ held_rows n.held k) (sym e) ∙ u.whole));
        ties = subst (λ (l : List Event). Ties g l p) (append_assoc es u.did.more q.0.more) q.1;
      }
    where
      shuffle : (b : Bool) (xs ys : List ℕ) → (xs ++ cond b (before ∷ []) []) ++ ys ≡ xs ++ cond b (before ∷ ys) ys
      shuffle true xs ys = append_assoc xs (before ∷ []) ys
      shuffle false xs ys = ap (λ (l : List ℕ). l ++ ys) (append-nil xs)

  pub unlocked_all : (es : List Event) (a b : A) (m n : Memory) (row : ℕ) → row ≡ 0 → UnlockedSo S L Q K g es a b m n row → Unlocked S L Q K C g es a b m n (held_rows m.held (length m.held)) []
  unlocked_all es a b m n row z u =
      let none : held_rows n.held row ≡ [] = ap (held_rows n.held) z in
      let all : u.rows ≡ held_rows m.held (length m.held) = sym (append-nil u.rows) ∙ (ap (λ (l : List ℕ). u.rows ++ l) (sym none) ∙ u.whole) in
      record {
        did = record { more = u.did.more; goes = record { met = u.did.goes.met; stands = subst (λ (l : List ℕ). S g (es ++ u.did.more) l b) none u.did.goes.stands; leaves = u.did.goes.leaves; alone = u.did.goes.alone }; steps_are = u.did.steps_are ∙ ap (unlocks m.session) all; only = u.did.only; kinds = u.did.kinds };
        ties = u.ties;
      }

  -- one row
  pub unlock_held : (es : List Event) (latched : List ℕ) (a b : A) (m : Memory) (row : ℕ) → has_row m.held row ≡ true → Ties g es m → row < length m.held → S g es (cond (has_row m.held row) (row ∷ latched) latched) a →
      (S g es (row ∷ latched) a → holds_row ((state_after g es).row row) m.session ≡ true → Takes S L Q K g es m.session (Event.Unlock m.session row) Any latched a b) →
      Unlocked S L Q K C g es a b m (record m { held = set m.held row false }) (cond (has_row m.held row) (row ∷ []) []) latched
  unlock_held es latched a b m row e k l s next =
      let w = m.session in
      let t = next (subst (λ (x : List ℕ). S g es x a) (cond-true (has_row m.held row) (row ∷ latched) latched e) s) (k.held row l ∙ e) in
      let n : Memory = record m { held = set m.held row false } in
      subst (λ (x : List ℕ). Unlocked S L Q K C g es a b m n x latched) (sym (cond-true (has_row m.held row) (row ∷ []) [] e))
      (record {
        did = did_take S L Q K g es w (Event.Unlock w row) Any latched a b (eq-eqb w w refl) t;
        ties = ties_unlocked g es (t.before ++ Event.Unlock w row ∷ t.after) m row Any k l (turn S L Q K g es w (Event.Unlock w row) Any latched a b t);
      })

  pub unlock_free : (es : List Event) (latched : List ℕ) (a : A) (m : Memory) (row : ℕ) → has_row m.held row ≡ false → Ties g es m → S g es (cond (has_row m.held row) (row ∷ latched) latched) a →
      Unlocked S L Q K C g es a a m m (cond (has_row m.held row) (row ∷ []) []) latched
  unlock_free es latched a m row e k s =
      let t = subst (λ (x : List ℕ). S g es x a) (cond-false (has_row m.held row) (row ∷ latched) latched e) s in
      let i = idles_none es m.session latched a t in
      subst (λ (x : List ℕ). Unlocked S L Q K C g es a a m m x latched) (sym (cond-false (has_row m.held row) (row ∷ []) [] e))
      (record {
        did = did_idle S L Q K g es m.session latched a a i;
        ties = ties_more g es i.more m k i.goes.met i.quiet;
      })

-- a row that is not held is as it was
pub same_row : (held : List Bool) (row : ℕ) → has_row held row ≡ false → held ≡ set held row false
same_row held row e = sym (ap (set held row) (sym e) ∙ set-get_or held row false)

pub none_more : (held next : List Bool) (row before : ℕ) → row ≡ suc before → before < length held → next ≡ set held before false → ((i : ℕ) → row ≤ i → i < length held → has_row held i ≡ false) →
    (i : ℕ) → before ≤ i → i < length next → has_row next i ≡ false
none_more held next row before e l h none i le lt =
    ap (λ (xs : List Bool). has_row xs i) h ∙ (row_set held before i false l ∙ go (cases_eq i before))
  where
    size : length next ≡ length held
    size = ap length h ∙ length-set held before false

    go : (i ≡ before) ⊎ (i ≡ before → ⊥) → cond (i == before) false (has_row held i) ≡ false
    go (inl q) = cond-true (i == before) false (has_row held i) (eq-eqb i before q)
    go (inr n) = cond-false (i == before) false (has_row held i) (ne_eqb i before n) ∙ none i (omega (arith, n, e, le)) (omega (arith, lt, size))
