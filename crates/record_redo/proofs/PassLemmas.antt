-- Whether a record passes, by its tests in turn.
use Rattle.std.proofs.Common.{◌≡◌, ℕ, Bool, true, false, ◌&&◌, ◌||◌, not, ◌==◌, [], ◌∷◌, refl, sym, ◌∙◌, ap, true≢false}
use Rattle.std.proofs.lemmas.Bool.{and_parts, eq-eqb}
use Rattle.page_model.specs.Nodes.{Node}
use Rattle.page_model.specs.Redo as asked
use Rattle.page_model.specs.Records as records
use Rattle.page_model.specs.Records.{Ref}
use Rattle.disk_image.specs.image_model.Entries.{Contents, page_kind}
use Rattle.disk_image.specs.image_model.Redo.{passes, is_sayable_as, can_change}
use Rattle.disk_image.specs.Formats.{format_of}
use Rattle.disk_image.specs.Records.{entry_of, kind_of, refs_of}
use Rattle.disk_image.specs.log_record.Model.{model_ref, root_ref}
use Rattle.disk_image.specs.log_record.declared.record.Record.{Record}
use Rattle.disk_image.specs.log_record.declared.record.Body.{Body}
use Rattle.disk_image.specs.log_record.declared.record.Body.TheVariants.{Change, PutBack, Split, Lift, Join, DropRoot, Purge, Commit, Abort}
use Rattle.record_redo.specs.Inside.{is_page, is_sayable, can_all, are_below, are_met, record_in}
use Rattle.record_redo.proofs.StepLemmas.{Distinct, all_same, own_stood}

-- ## The number of pages plays no part

pub sayable_in : (n : ℕ) (k : records.Kind) (r : records.Record) → is_sayable_as (format_of n) k r ≡ is_sayable_as (format_of 0) k r
sayable_in n records.Kind.Change r = refl
sayable_in n records.Kind.Put_back r = refl
sayable_in n records.Kind.Split r = refl
sayable_in n records.Kind.Join r = refl
sayable_in n records.Kind.Lift r = refl
sayable_in n records.Kind.Drop r = refl
sayable_in n records.Kind.Purge r = refl

pub can_in : (n : ℕ) (k : records.Kind) (r : records.Record) (p : ℕ) (v : Node) → asked.can_be (format_of n) k r p v ≡ asked.can_be (format_of 0) k r p v
can_in n records.Kind.Change r p v = refl
can_in n records.Kind.Put_back r p v = refl
can_in n records.Kind.Split r p v = refl
can_in n records.Kind.Join r p v = refl
can_in n records.Kind.Lift r p v = refl
can_in n records.Kind.Drop r p v = refl
can_in n records.Kind.Purge r p v = refl

-- ## The pages of a record are distinct

pub unlike : (a b : ℕ) → not (a == b) ≡ true → a ≡ b → ⊥
unlike a b h e = true≢false (sym h ∙ ap not (eq-eqb a b e))

three : (l r p : Ref) (rest : Bool) → (not (l.page == r.page) && (not (l.page == p.page) && (not (r.page == p.page) && rest))) ≡ true → Distinct (l ∷ r ∷ p ∷ [])
three l r p rest h =
    let a = and_parts (not (l.page == r.page)) (not (l.page == p.page) && (not (r.page == p.page) && rest)) h in
    let b = and_parts (not (l.page == p.page)) (not (r.page == p.page) && rest) a.1 in
    let c = and_parts (not (r.page == p.page)) rest b.1 in
    (((λ e. unlike l.page r.page a.0 (sym e)), ((λ e. unlike l.page p.page b.0 (sym e)), tt)), (((λ e. unlike r.page p.page c.0 (sym e)), tt), (tt, tt)))

two : (l r : Ref) (rest : Bool) → l.page ≡ 0 → (not (r.page == 0) && rest) ≡ true → Distinct (l ∷ r ∷ [])
two l r rest z h = (((λ e. unlike r.page 0 (and_parts (not (r.page == 0)) rest h).0 (e ∙ z)), tt), (tt, tt))

pub distinct_refs : (body : Body) → is_sayable body ≡ true → Distinct (refs_of body)
distinct_refs (Change leaf key before after) h = (tt, tt)
distinct_refs (PutBack leaf key before after) h = (tt, tt)
distinct_refs (Split left right parent separator high level pairs) h = three (model_ref left) (model_ref right) (model_ref parent) _ h
distinct_refs (Lift prev page level pairs) h = two (root_ref prev) (model_ref page) _ refl h
distinct_refs (Join left right parent separator high pairs) h = three (model_ref left) (model_ref right) (model_ref parent) _ h
distinct_refs (DropRoot prev child level pairs) h = two (root_ref prev) (model_ref child) _ refl h
distinct_refs (Purge leaf keys) h = (tt, tt)
distinct_refs (Commit need) h = tt
distinct_refs (Abort need) h = tt

-- ## The tests in turn

module _ (n : ℕ) (page : ℕ → Contents) (log : ℕ) (x : Record) where
  abbrev tested : (names pages counts says can : Bool) → Bool
  tested names pages counts says can = names && (not (pages && counts) || (says && can))

  parted : passes (format_of n) page (entry_of log x) ≡
      tested (are_below n (refs_of x.body)) (is_page x.body) (are_met page x.gsn (refs_of x.body)) (is_sayable x.body) (can_change (format_of n) page (entry_of log x))
  parted = ap (λ b. tested (are_below n (refs_of x.body)) (is_page x.body) (are_met page x.gsn (refs_of x.body)) b (can_change (format_of n) page (entry_of log x))) (sayable_in n (page_kind (kind_of x.body)) (record_in x.body))

  can_same : is_sayable x.body ≡ true → can_change (format_of n) page (entry_of log x) ≡ can_all x.body page (refs_of x.body)
  can_same s = all_same _ _ (refs_of x.body) (λ f m.
      ap (λ b. not b || asked.can_be (format_of n) (page_kind (kind_of x.body)) (record_in x.body) f.page (page f.page).node) (own_stood (page f.page) f (refs_of x.body) (distinct_refs x.body s) m)
      ∙ ap (λ b. not ((page f.page).gsn == f.prev) || b) (can_in n (page_kind (kind_of x.body)) (record_in x.body) f.page (page f.page).node))

  pub missing : are_below n (refs_of x.body) ≡ false → false ≡ passes (format_of n) page (entry_of log x)
  missing h = sym (parted ∙ ap (λ b. tested b (is_page x.body) (are_met page x.gsn (refs_of x.body)) (is_sayable x.body) (can_change (format_of n) page (entry_of log x))) h)

  pub uncounted : are_below n (refs_of x.body) ≡ true → are_met page x.gsn (refs_of x.body) ≡ false → true ≡ passes (format_of n) page (entry_of log x)
  uncounted h m = sym (parted ∙ ap (λ b. tested b (is_page x.body) (are_met page x.gsn (refs_of x.body)) (is_sayable x.body) (can_change (format_of n) page (entry_of log x))) h
      ∙ ap (λ b. tested true (is_page x.body) b (is_sayable x.body) (can_change (format_of n) page (entry_of log x))) m ∙ none (is_page x.body))
    where
      none : (b : Bool) → tested true b false (is_sayable x.body) (can_change (format_of n) page (entry_of log x)) ≡ true
      none true = refl
      none false = refl

  module _ (is : is_page x.body ≡ true) (h : are_below n (refs_of x.body) ≡ true) (m : are_met page x.gsn (refs_of x.body) ≡ true) where
    counted : passes (format_of n) page (entry_of log x) ≡ (is_sayable x.body && can_change (format_of n) page (entry_of log x))
    counted = parted ∙ ap (λ b. tested b (is_page x.body) (are_met page x.gsn (refs_of x.body)) (is_sayable x.body) (can_change (format_of n) page (entry_of log x))) h
        ∙ ap (λ b. tested true b (are_met page x.gsn (refs_of x.body)) (is_sayable x.body) (can_change (format_of n) page (entry_of log x))) is
        ∙ ap (λ b. tested true true b (is_sayable x.body) (can_change (format_of n) page (entry_of log x))) m

    pub unsayable : is_sayable x.body ≡ false → false ≡ passes (format_of n) page (entry_of log x)
    unsayable s = sym (counted ∙ ap (λ b. b && can_change (format_of n) page (entry_of log x)) s)

    pub decided : (b : Bool) → is_sayable x.body ≡ true → can_all x.body page (refs_of x.body) ≡ b → b ≡ passes (format_of n) page (entry_of log x)
    decided b s c = sym (counted ∙ ap (λ b. b && can_change (format_of n) page (entry_of log x)) s ∙ can_same s ∙ c)
