-- What each record makes of the pages' words.
use Rattle.page_model.specs.Records as page_records
use Rattle.page_model.specs.Tree as page_tree
use Rattle.page_model.specs.Pairs as pairs
use Rattle.page_model.specs.Laws as laws
use Rattle.page_model.proofs.Laws as page_laws
use Rattle.std.proofs.Common.{◌≡◌, ℕ, ◌<◌, Bool, true, false, ◌&&◌, if◌then◌else◌, ◌==◌, List, ◌⊎◌, Some, None, refl, sym, ap, ◌∙◌, subst, inl, inr, true≢false}
use Rattle.std.proofs.lemmas.Bool.{cases_Bool, eqb-true, and_parts, and_left, cond-true, cond-false}
use Rattle.map_model.specs.Lists.{any}
use Rattle.core_state.specs.image_model.Entries.{Entry, Kind, is_write, is_page, is_purge, page_kind, word_in, applied_as, touches}
use Rattle.page_model.specs.Records.{Ref}
use Rattle.page_model.specs.Nodes.{Format, Node, holds}
use Rattle.page_model.specs.Tree.{IsTree, lookup}
use Rattle.core_state.specs.image_model.Entries.Kind.{Change, Put_back, Split, Lift, Join, Drop, Purge, Read, Commit, Abort}
use Rattle.page_model.proofs.Entries.{entry_at, holds_to}
use Rattle.page_model.proofs.Pairs.{some_none}
use mathlib.Core.Path.{fun_ext}
pub use Rattle.core_commit.specs.Past.{on_key, FitsPage, Fits}

pub key_parts : (k : ℕ) (r : Entry) → on_key k r ≡ true → (is_write r.kind ≡ true) × (r.key ≡ k)
key_parts k r h = let q = and_parts (is_write r.kind) (r.key == k) h in (q.0, eqb-true r.key k q.1)

-- a record of pages that changes no value
abbrev pub is_move : Kind → Bool
is_move Split = true
is_move Lift = true
is_move Join = true
is_move Drop = true
is_move Purge = true
is_move _ = false

-- the pages after the record
abbrev pub moved_on : (ℕ → Node) → Entry → ℕ → Node
moved_on node r p = if touches p r then applied_as r.kind r p (node p) else node p

-- it asks of its own pages alone
pub fits_local : (f : Format) (node other : ℕ → Node) (r : Entry) → ((p : ℕ) → touches p r ≡ true → node p ≡ other p) → Fits f node r → Fits f other r
fits_local f node other r e m = record {
  page = λ k. (let w = m.page k in record {
    refs = w.refs;
    key = w.key;
    fits = page_laws.local_as (page_kind r.kind) f node other r.record_of
        (λ x i. e x.page (ap (λ (l : List Ref). any (λ (z : Ref). z.page == x.page) l) w.refs ∙ page_laws.touch_at (page_records.refs_as (page_kind r.kind) r.record_of) x i)) w.fits;
  });
  none = m.none;
}

-- ## Looking a key up

pub lookup_at : (f : Format) (node : ℕ → Node) (k p : ℕ) → IsTree f node → p < f.pages → holds (node p) k ≡ true → lookup f node k ≡ word_in f (node p) k
lookup_at f node k p t l h = ap (page_tree.word_or f.dead) (entry_at f node t k p l (holds_to (node p) k h))

write_kind : (K : Kind) → is_write K ≡ true → (is_page K ≡ true) × (laws.is_write (page_kind K) ≡ true)
write_kind Change h = (refl, refl)
write_kind Put_back h = (refl, refl)
write_kind Split h = absurd (true≢false (sym h))
write_kind Lift h = absurd (true≢false (sym h))
write_kind Join h = absurd (true≢false (sym h))
write_kind Drop h = absurd (true≢false (sym h))
write_kind Purge h = absurd (true≢false (sym h))
write_kind Read h = absurd (true≢false (sym h))
write_kind Commit h = absurd (true≢false (sym h))
write_kind Abort h = absurd (true≢false (sym h))

same_kind : (K : Kind) → laws.is_write (page_kind K) ≡ is_write K
same_kind Change = refl
same_kind Put_back = refl
same_kind Split = refl
same_kind Lift = refl
same_kind Join = refl
same_kind Drop = refl
same_kind Purge = refl
same_kind Read = refl
same_kind Commit = refl
same_kind Abort = refl

clean_kind : (K : Kind) → is_page K ≡ true → laws.is_purge (page_kind K) ≡ is_purge K
clean_kind Read h = absurd (true≢false (sym h))
clean_kind Commit h = absurd (true≢false (sym h))
clean_kind Abort h = absurd (true≢false (sym h))
clean_kind Change h = refl
clean_kind Put_back h = refl
clean_kind Split h = refl
clean_kind Lift h = refl
clean_kind Join h = refl
clean_kind Drop h = refl
clean_kind Purge h = refl

module _ (f : Format) (node : ℕ → Node) (r : Entry) (t : IsTree f node) where
  abbrev made : ℕ → Node
  made p = page_records.applied_as (page_kind r.kind) r.record_of p (node p)

  is_made : FitsPage f node r → moved_on node r ≡ made
  is_made m = fun_ext (λ p. elim (cases_Bool (touches p r)) [
    | inl e ↦ cond-true (touches p r) (applied_as r.kind r p (node p)) (node p) e
    | inr e ↦ cond-false (touches p r) (applied_as r.kind r p (node p)) (node p) e ∙ sym (page_laws.applied_off (page_kind r.kind) r.record_of p (node p) (ap (λ (l : List Ref). any (λ (z : Ref). z.page == p) l) (sym m.refs) ∙ e))
  ])

  none_same : ((p : ℕ) → touches p r ≡ false) → moved_on node r ≡ node
  none_same h = fun_ext (λ p. cond-false (touches p r) (applied_as r.kind r p (node p)) (node p) (h p))

  -- ## The laws

  pub fits_parted : Fits f node r → IsTree f (moved_on node r)
  fits_parted m = elim (cases_Bool (is_page r.kind)) [
    | inl k ↦ (let w = m.page k in subst (IsTree f) (sym (is_made w)) (page_laws.keeps_tree (page_kind r.kind) f node r.record_of t w.fits))
    | inr k ↦ subst (IsTree f) (sym (none_same (m.none k))) t
  ]

  pub fits_on : Fits f node r → (k : ℕ) → on_key k r ≡ true → lookup f (moved_on node r) k ≡ r.after
  fits_on m k o =
      let q = and_parts (is_write r.kind) (r.key == k) o in
      let z = write_kind r.kind q.0 in
      let w = m.page z.0 in let e = w.key q.0 in
      ap (λ (n : ℕ → Node). lookup f n k) (is_made w)
      ∙ (ap (lookup f made) (sym (eqb-true r.key k q.1) ∙ e.0) ∙ (ap (page_tree.word_or f.dead) (page_laws.sets_key (page_kind r.kind) f node r.record_of t w.fits z.1) ∙ sym e.2))

  pub fits_before : Fits f node r → is_write r.kind ≡ true → r.before ≡ lookup f node r.key
  fits_before m k =
      let z = write_kind r.kind k in
      let w = m.page z.0 in let e = w.key k in
      e.1 ∙ (page_laws.says_before (page_kind r.kind) f node r.record_of t w.fits z.1 ∙ ap (lookup f node) (sym e.0))

  pub fits_off : Fits f node r → (k : ℕ) → on_key k r ≡ false → lookup f (moved_on node r) k ≡ lookup f node k
  fits_off m k o = elim (cases_Bool (is_page r.kind)) [
    | inl p ↦ (let w = m.page p in ap (λ (n : ℕ → Node). lookup f n k) (is_made w) ∙ page_laws.keeps_word (page_kind r.kind) f node r.record_of t w.fits k (other w))
    | inr p ↦ ap (λ (n : ℕ → Node). lookup f n k) (none_same (m.none p))
  ]
    where
      other : FitsPage f node r → (laws.is_write (page_kind r.kind) && (r.record_of.key == k)) ≡ false
      other w = elim (cases_Bool (is_write r.kind)) [
        | inl e ↦ ap (λ (i : ℕ). laws.is_write (page_kind r.kind) && (i == k)) (sym (w.key e).0) ∙ (ap (λ (b : Bool). b && (r.key == k)) (same_kind r.kind) ∙ o)
        | inr e ↦ and_left (laws.is_write (page_kind r.kind)) (r.record_of.key == k) (same_kind r.kind ∙ e)
      ]

  -- ## Entries

  pub fits_entry : Fits f node r → is_write r.kind ≡ true → page_tree.entry f.pages (moved_on node r) r.key ≡ Some r.after
  fits_entry m k =
      let z = write_kind r.kind k in
      let w = m.page z.0 in let e = w.key k in
      ap (λ (n : ℕ → Node). page_tree.entry f.pages n r.key) (is_made w) ∙ (ap (page_tree.entry f.pages made) e.0 ∙ (page_laws.sets_key (page_kind r.kind) f node r.record_of t w.fits z.1 ∙ ap (λ (v : ℕ). Some v) (sym e.2)))

  -- an entry that is not purged stays one
  pub entry_stays : Fits f node r → (k : ℕ) → (is_purge r.kind ≡ true → pairs.is_in k r.record_of.keys ≡ true → ⊥) → (page_tree.entry f.pages node k ≡ None → ⊥) → page_tree.entry f.pages (moved_on node r) k ≡ None → ⊥
  entry_stays m k np has e = elim (cases_Bool (is_page r.kind)) [
    | inr p ↦ has (ap (λ (n : ℕ → Node). page_tree.entry f.pages n k) (sym (none_same (m.none p))) ∙ e)
    | inl p ↦ go p (m.page p) (cases_Bool (laws.is_write (page_kind r.kind) && (r.record_of.key == k))) (cases_Bool (laws.is_purge (page_kind r.kind) && pairs.is_in k r.record_of.keys))
  ]
    where
      go : is_page r.kind ≡ true → FitsPage f node r → ((laws.is_write (page_kind r.kind) && (r.record_of.key == k)) ≡ true) ⊎ ((laws.is_write (page_kind r.kind) && (r.record_of.key == k)) ≡ false) →
          ((laws.is_purge (page_kind r.kind) && pairs.is_in k r.record_of.keys) ≡ true) ⊎ ((laws.is_purge (page_kind r.kind) && pairs.is_in k r.record_of.keys) ≡ false) → ⊥
      go p w (inl a) c =
          let q = and_parts (laws.is_write (page_kind r.kind)) (r.record_of.key == k) a in
          some_none r.record_of.after (sym (page_laws.sets_key (page_kind r.kind) f node r.record_of t w.fits q.0) ∙ (ap (page_tree.entry f.pages made) (eqb-true r.record_of.key k q.1) ∙ (ap (λ (n : ℕ → Node). page_tree.entry f.pages n k) (sym (is_made w)) ∙ e)))
      go p w (inr a) (inl c) = let q = and_parts (laws.is_purge (page_kind r.kind)) (pairs.is_in k r.record_of.keys) c in np (sym (clean_kind r.kind p) ∙ q.0) q.1
      go p w (inr a) (inr c) = has (sym (page_laws.keeps_entry (page_kind r.kind) f node r.record_of t w.fits k a c) ∙ (ap (λ (n : ℕ → Node). page_tree.entry f.pages n k) (sym (is_made w)) ∙ e))
