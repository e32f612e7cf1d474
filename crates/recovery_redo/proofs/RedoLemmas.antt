-- Redo, one record more at a time.
use Rattle.std.proofs.Common.{◌≡◌, ◌<◌, ◌⊎◌, ℕ, suc, Bool, true, false, List, [], ◌∷◌, length, get_or, set, take, refl, sym, ◌∙◌, ap, subst, inl, inr, arith}
use Rattle.std.proofs.lemmas.Bool.{cases_eq, and_from}
use Rattle.std.proofs.lemmas.List.{get_or-set_same, get_or-set_other, get_or_default}
use Rattle.page_model.specs.Page.{Page}
use Rattle.disk_image.specs.image_model.Entries as model
use Rattle.disk_image.specs.image_model.Entries.{Entry}
use Rattle.disk_image.specs.image_model.Redo.{redo, stands, passes, all_pass}
use Rattle.disk_image.specs.Formats.{format_of}
use Rattle.log_index.specs.Items.{Item}
use Rattle.record_redo.specs.Pages.{pages_of, one_redone, Keeps, MarksFor}
use Rattle.recovery_scan.specs.Records.{entry_of, entries_of}
use Rattle.recovery_redo.specs.Inside.{IsRedone, FailsAt, is_named}
use Rattle.recovery_redo.proofs.LogLemmas.{entries_at}
use Rattle.record_redo.proofs.PageLemmas.{keeps_all, marks_none}

-- the first records are redone, and what has changed is marked
pub record IsRedoing (start now : List Page) (was marks : List Bool) (items : List Item) (counted : List Bool) (k : ℕ) : Type 0 where
  pub redone : IsRedone start now items counted k
  pub kept : Keeps start now was marks
  pub only : MarksFor (is_named (entries_of (take k items))) was marks

pub redone_none : (start : List Page) (marks : List Bool) (items : List Item) (counted : List Bool) → IsRedoing start start marks marks items counted 0
redone_none start marks items counted = record {
  redone = record { pages = refl; pass = refl; marks = record { at = λ k x l e. absurd (omega arith) } };
  kept = keeps_all start marks;
  only = marks_none (is_named []) marks;
}

module _ (start now : List Page) (items : List Item) (counted : List Bool) (k : ℕ) (x d : Item) (l : k < length items) (is : x ≡ get_or items k d) (long : length now ≡ length start) (before : IsRedone start now items counted k) where
  tested : (b : Bool) → b ≡ passes (format_of (length now)) (pages_of now) (entry_of x) → passes (format_of (length start)) (redo (pages_of start) (entries_of (take k items))).page (entry_of x) ≡ b
  tested b e = sym (e ∙ ap (λ n. passes (format_of n) (pages_of now) (entry_of x)) long ∙ ap (λ (page : ℕ → model.Contents). passes (format_of (length start)) page (entry_of x)) before.pages)

  pub redone_more : (next : List Page) (j : ℕ) (b : Bool) → j ≡ suc k → k < length counted →
      true ≡ passes (format_of (length now)) (pages_of now) (entry_of x) → b ≡ stands (pages_of now) (entry_of x) → pages_of next ≡ one_redone (pages_of now) (entry_of x) →
      IsRedone start next items (set counted k b) j
  redone_more next j b e within pass counts after = record {
    pages = after ∙ ap (λ (page : ℕ → model.Contents). one_redone page (entry_of x)) before.pages ∙ ap (λ (z : List Entry). (redo (pages_of start) z).page) (sym here);
    pass = ap (all_pass (format_of (length start)) (pages_of start)) here
        ∙ and_from (all_pass (format_of (length start)) (pages_of start) (entries_of (take k items))) (passes (format_of (length start)) (redo (pages_of start) (entries_of (take k items))).page (entry_of x)) before.pass (tested true pass);
    marks = record { at = λ i y h q. mark i y h q (cases_eq i k) };
  }
    where
      here : entries_of (take j items) ≡ entry_of x ∷ entries_of (take k items)
      here = entries_at items k j x d e l is

      mark : (i : ℕ) (y : Item) → i < j → y ≡ get_or items i y → (i ≡ k) ⊎ (i ≡ k → ⊥) → get_or (set counted k b) i false ≡ stands (redo (pages_of start) (entries_of (take i items))).page (entry_of y)
      mark i y h q (inr ne) = get_or-set_other counted k i b false ne ∙ before.marks.at i y (omega arith) q
      mark i y h q (inl same) =
          ap (λ n. get_or (set counted k b) n false) same ∙ get_or-set_same counted k b false within
          ∙ (counts ∙ ap (λ (page : ℕ → model.Contents). stands page (entry_of x)) before.pages)
          ∙ ap (λ n. stands (redo (pages_of start) (entries_of (take n items))).page (entry_of x)) (sym same)
          ∙ ap (λ (u : Item). stands (redo (pages_of start) (entries_of (take i items))).page (entry_of u)) (is ∙ get_or_default items k d y l ∙ sym (q ∙ ap (λ n. get_or items n y) same))

  pub fails_here : false ≡ passes (format_of (length now)) (pages_of now) (entry_of x) → (a : ℕ) → a ≡ suc x.log → FailsAt start items a x.place
  fails_here e a area = record { k = k; x = x; within = l; is = is ∙ get_or_default items k d x l; area_is = area; place_is = refl; pass = before.pass; fails = tested false e }

pub redone_all : (start now : List Page) (items : List Item) (counted : List Bool) (k : ℕ) → k ≡ length items → IsRedone start now items counted k → IsRedone start now items counted (length items)
redone_all start now items counted k e h = subst (λ n. IsRedone start now items counted n) e h
