-- Words of private functions: what a record's body says to the model, and redo of its pages one after the other.
use Rattle.std.specs.Prelude.{◌≡◌, ◌*◌, ◌%◌, ℕ, Bool, ◌&&◌, ◌||◌, not, ltb, leb, ◌==◌, List, [], ◌∷◌, length, map, take, if◌then◌else◌}
use Rattle.map_model.specs.Lists.{all}
use Rattle.page_model.specs.Pairs.{Pair}
use Rattle.page_model.specs.Nodes.{Node}
use Rattle.page_model.specs.Page.{Page}
use Rattle.page_model.specs.Redo as asked
use Rattle.page_model.specs.Records as records
use Rattle.page_model.specs.Records.{Ref, any}
use Rattle.disk_image.specs.image_model.Entries as model
use Rattle.disk_image.specs.image_model.Entries.{Entry, page_kind, written}
use Rattle.disk_image.specs.image_model.Redo.{is_sayable_as}
use Rattle.disk_image.specs.Formats.{format_of}
use Rattle.disk_image.specs.Records.{kind_of, record_or}
use Rattle.disk_image.specs.btree_node.Words as words
use Rattle.disk_image.specs.log_record.Model.{model_of, model_ref}
use Rattle.disk_image.specs.log_record.declared.record.Body.{Body}
use Rattle.disk_image.specs.log_record.declared.record.PageRef.{PageRef}
use Rattle.record_redo.specs.declared.refs.Refs.{Refs}

-- ## A record's body

-- it changes pages
abbrev pub is_page : Body → Bool
is_page body = model.is_page (kind_of body)

abbrev pub record_in : Body → records.Record
record_in body = record_or (model_of body)

-- what it asks of itself
abbrev pub is_sayable : Body → Bool
is_sayable body = is_sayable_as (format_of 0) (page_kind (kind_of body)) (record_in body)

-- what it asks of its page p
abbrev pub can_be : Body → ℕ → Node → Bool
can_be body p v = asked.can_be (format_of 0) (page_kind (kind_of body)) (record_in body) p v

-- what it makes of its page p
abbrev pub made : Body → ℕ → Page → Page
made body p v = record v { node = records.applied_as (page_kind (kind_of body)) (record_in body) p v.node }

-- the words are those of the pairs
pub record AreWordsOf (pairs : List Pair) (ws : List ℕ) : Type 0 where
  pub spelled : words.pairs_of ws ≡ pairs
  pub whole : length ws % 2 ≡ 0
  pub count : length ws ≡ 2 * length pairs

-- ## Its pages

abbrev pub model_refs : List PageRef → List Ref
model_refs refs = map model_ref refs

-- of three places the first `count`
abbrev pub refs_in : Refs → List Ref
refs_in refs = model_refs (take refs.count refs.refs)

-- a page with its number is one of these
abbrev pub is_among : List Ref → ℕ → Bool
is_among refs p = any (λ f. f.page == p) refs

-- each of them is below the number of pages
abbrev pub are_below : ℕ → List Ref → Bool
are_below count refs = all (λ f. ltb f.page count) refs

-- the page stands at its prev
abbrev pub is_at : (ℕ → model.Contents) → Ref → Bool
is_at page f = (page f.page).gsn == f.prev

-- each of them stands at its prev, or at the record's number or beyond
abbrev pub are_met : (ℕ → model.Contents) → ℕ → List Ref → Bool
are_met page number refs = all (λ f. is_at page f || leb number (page f.page).gsn) refs

-- each of them that stands at its prev can be what the record asks
abbrev pub can_all : Body → (ℕ → model.Contents) → List Ref → Bool
can_all body page refs = all (λ f. not (is_at page f) || can_be body f.page (page f.page).node) refs

-- the one page is written, if it stands at its prev
abbrev pub step : Entry → Ref → (ℕ → model.Contents) → ℕ → model.Contents
step r f page p = if (f.page == p) && ((page p).gsn == f.prev) then written r p (page p) else page p

-- one page after the other
abbrev pub steps : Entry → List Ref → (ℕ → model.Contents) → ℕ → model.Contents
steps r [] page = page
steps r (f ∷ fs) page = steps r fs (step r f page)
