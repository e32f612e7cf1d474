-- Redo: which records count, and what they make of the pages. A list of entries has the one to be redone first as its last.
use Rattle.std.specs.Prelude.{if◌then◌else◌, ℕ, Bool, true, false, ◌&&◌, ◌||◌, not, leb, ltb, ◌==◌, List, [], ◌∷◌, length}
use Rattle.map_model.specs.Lists.{any, all, upd}
use Rattle.page_model.specs.Nodes.{Format}
use Rattle.page_model.specs.Records as records
use Rattle.page_model.specs.Records.{Record}
use Rattle.page_model.specs.Redo.{can_be, is_ordered}
use Rattle.image_model.specs.Entries.{Entry, Contents, is_page, page_kind, written}

-- pages, and which records (by log and number) counted
pub record Redone : Type 0 where
  pub page : ℕ → Contents
  pub counts : ℕ → ℕ → Bool

abbrev pub mark : (ℕ → ℕ → Bool) → ℕ → ℕ → Bool → ℕ → ℕ → Bool
mark f i j b = upd f i (upd (f i) j b)

-- the record counts: each page stands at its prev, or at the record's number or beyond
abbrev pub stands : (ℕ → Contents) → Entry → Bool
stands page r = all (λ f. ((page f.page).gsn == f.prev) || leb r.number (page f.page).gsn) r.refs

-- the page stands at its prev
abbrev pub at_prev : Entry → ℕ → Contents → Bool
at_prev r p v = any (λ f. (f.page == p) && (v.gsn == f.prev)) r.refs

-- a record that counts changes those of its pages that stand at their prev
abbrev pub redo_one : Redone → Entry → Redone
redo_one d r = record {
  page = λ p. if stands d.page r && at_prev r p (d.page p) then written r p (d.page p) else d.page p;
  counts = mark d.counts r.log r.number (stands d.page r);
}

abbrev pub redo : (ℕ → Contents) → List Entry → Redone
redo page [] = record { page = page; counts = λ _ _. false }
redo page (r ∷ z) = redo_one (redo page z) r

-- ## Whether it could be done

-- each page that the record names is below the number of pages
abbrev pub names_pages : Format → Entry → Bool
names_pages f r = all (λ x. ltb x.page f.pages) r.refs

-- what a record asks of itself: words that a leaf can have, pages of which no two are the same, a level, and pairs that fit in a node of it
abbrev pub is_sayable_as : Format → records.Kind → Record → Bool
is_sayable_as f records.Kind.Change r = leb r.before f.dead && leb r.after f.dead
is_sayable_as f records.Kind.Put_back r = leb r.before f.dead && leb r.after f.dead
is_sayable_as f records.Kind.Split r = not (r.left.page == r.right.page) && (not (r.left.page == r.parent.page) && (not (r.right.page == r.parent.page) && (
    leb (length r.pairs) f.room && (leb r.level f.levels && is_ordered r.sep r.pairs r.high))))
is_sayable_as f records.Kind.Join r = not (r.left.page == r.right.page) && (not (r.left.page == r.parent.page) && (not (r.right.page == r.parent.page) && leb (length r.pairs) f.room))
is_sayable_as f records.Kind.Lift r = not (r.right.page == 0) && (ltb r.level f.levels && (leb (length r.pairs) f.room && is_ordered 0 r.pairs r.high))
is_sayable_as f records.Kind.Drop r = not (r.right.page == 0) && (leb (length r.pairs) f.room && leb r.level f.levels)
is_sayable_as f records.Kind.Purge r = true

-- what it asks of each page that it changes
abbrev pub can_change : Format → (ℕ → Contents) → Entry → Bool
can_change f page r = all (λ x. not (at_prev r x.page (page x.page)) || can_be f (page_kind r.kind) r.record_of x.page (page x.page).node) r.refs

-- the record names pages that there are and, if it counts, can be done
abbrev pub passes : Format → (ℕ → Contents) → Entry → Bool
passes f page r = names_pages f r && (not (is_page r.kind && stands page r) || (is_sayable_as f (page_kind r.kind) r.record_of && can_change f page r))

-- each record passes, at its turn
abbrev pub all_pass : Format → (ℕ → Contents) → List Entry → Bool
all_pass f page [] = true
all_pass f page (r ∷ z) = all_pass f page z && passes f (redo page z).page r
