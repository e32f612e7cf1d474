-- The seven records of pages, and what each makes of its pages.
use Rattle.std.specs.Prelude.{if◌then◌else◌, ◌++◌, ℕ, suc, Bool, true, false, ◌||◌, not, ◌==◌, List, [], ◌∷◌}
use Rattle.page_model.specs.Pairs.{Pair, find, put, keep, below, without, is_in}
use Rattle.page_model.specs.Nodes.{Format, Node, free}
use Rattle.page_model.specs.Tree.{word_or}

pub data Kind : Type 0 where
  Change Put_back Split Lift Join Drop Purge : Kind

-- a page that a record changes, with the page's number before it
pub record Ref : Type 0 where
  pub page : ℕ
  pub prev : ℕ

-- A write and a purge have their leaf as `left`. A split and a join have left, right and parent. A lift and a drop
-- have page 0 as `left` (its prev alone is said) and the other page as `right`; a lift has the root's high fence. What a kind does not have is 0.
pub record Record : Type 0 where
  pub kind : Kind
  pub left : Ref
  pub right : Ref
  pub parent : Ref
  pub key : ℕ
  pub before : ℕ
  pub after : ℕ
  pub sep : ℕ
  pub high : ℕ
  pub level : ℕ
  pub pairs : List Pair
  pub keys : List ℕ

abbrev pub nowhere : Ref
nowhere = record { page = 0; prev = 0 }

-- what stands where there is no record of pages
abbrev pub no_record : Record
no_record = record { kind = Kind.Purge; left = nowhere; right = nowhere; parent = nowhere; key = 0; before = 0; after = 0; sep = 0; high = 0; level = 0; pairs = []; keys = [] }

-- a page, with the number that it has
abbrev pub ref : (ℕ → ℕ) → ℕ → Ref
ref gsn p = record { page = p; prev = gsn p }

-- the record of a write of a key in page p
abbrev pub write_record : Kind → Format → (ℕ → Node) → (ℕ → ℕ) → (p k v : ℕ) → Record
write_record kind f node gsn p k v = record { kind = kind; left = ref gsn p; right = nowhere; parent = nowhere; key = k; before = word_or f.dead (find k (node p).pairs); after = v; sep = 0; high = 0; level = 0; pairs = []; keys = [] }

abbrev pub refs_as : Kind → Record → List Ref
refs_as Split r = r.left ∷ r.right ∷ r.parent ∷ []
refs_as Join r = r.left ∷ r.right ∷ r.parent ∷ []
refs_as Lift r = record { page = 0; prev = r.left.prev } ∷ r.right ∷ []
refs_as Drop r = record { page = 0; prev = r.left.prev } ∷ r.right ∷ []
refs_as _ r = r.left ∷ []

abbrev pub refs : Record → List Ref
refs r = refs_as r.kind r

abbrev pub any : {A : Type 0} → (A → Bool) → List A → Bool
any p [] = false
any p (x ∷ xs) = p x || any p xs

abbrev pub touches : ℕ → Record → Bool
touches p r = any (λ x. x.page == p) (refs r)

-- what the record makes of its page p
abbrev pub applied_as : Kind → Record → ℕ → Node → Node
applied_as Split r p v =
    if p == r.left.page then record { live = v.live; level = v.level; low = v.low; high = r.sep; pairs = below r.sep v.pairs }
    else (if p == r.right.page then record { live = true; level = r.level; low = r.sep; high = r.high; pairs = r.pairs }
    else (if p == r.parent.page then record { live = v.live; level = v.level; low = v.low; high = v.high; pairs = put r.sep r.right.page v.pairs }
    else v))
applied_as Join r p v =
    if p == r.left.page then record { live = v.live; level = v.level; low = v.low; high = r.high; pairs = (v.pairs ++ r.pairs) }
    else (if p == r.right.page then free
    else (if p == r.parent.page then record { live = v.live; level = v.level; low = v.low; high = v.high; pairs = without r.sep v.pairs }
    else v))
applied_as Lift r p v =
    if p == 0 then record { live = v.live; level = suc r.level; low = v.low; high = v.high; pairs = record { key = 0; word = r.right.page } ∷ [] }
    else (if p == r.right.page then record { live = true; level = r.level; low = 0; high = r.high; pairs = r.pairs } else v)
applied_as Drop r p v =
    if p == 0 then record { live = v.live; level = r.level; low = v.low; high = v.high; pairs = r.pairs }
    else (if p == r.right.page then free else v)
applied_as Purge r p v =
    if p == r.left.page then record { live = v.live; level = v.level; low = v.low; high = v.high; pairs = keep (λ k. not (is_in k r.keys)) v.pairs } else v
applied_as Change r p v =
    if p == r.left.page then record { live = v.live; level = v.level; low = v.low; high = v.high; pairs = put r.key r.after v.pairs } else v
applied_as Put_back r p v =
    if p == r.left.page then record { live = v.live; level = v.level; low = v.low; high = v.high; pairs = put r.key r.after v.pairs } else v

-- the pages after the record
abbrev pub after : (ℕ → Node) → Record → ℕ → Node
after node r p = applied_as r.kind r p (node p)
