-- Parts of records that several kinds share, and what stands behind kind, transaction and number.
use Rattle.std.specs.Prelude.{◌≡◌, ◌<◌, ◌≤◌, ◌^◌, ◌+◌, ◌*◌, ◌++◌, ◌∷◌, ℕ, List, length, drop}
use Rattle.std.specs.List.{All, flat_map}
use Rattle.log_record.specs.declared.record.Pairs.{Pairs}
use Rattle.log_record.specs.declared.record.Keys.{Keys}
use Rattle.log_record.specs.declared.record.PageRef.{PageRef}
use Rattle.log_record.specs.declared.record.Body.{Body}
use Rattle.log_record.specs.declared.record.Body.TheVariants.{Change, PutBack, Split, Lift, Join, DropRoot, Purge}
use Rattle.log_record.specs.declared.parts.Head.{Head}
use Rattle.log_record.specs.declared.parts.KeyChange.{KeyChange}
use Rattle.log_record.specs.declared.parts.Siblings.{Siblings}
use Rattle.log_record.specs.declared.parts.RootChange.{RootChange}
use Rattle.lean_bytes.specs.Numbers.{number_bytes}
use Rattle.log_record.specs.Spelling.{RefFits, kind_of, ref_text, write_text, body_text, pairs_text, keys_text, BodyFits, PairsFit, KeysFit}

-- kind, transaction and number, and the bytes behind them
abbrev pub head_text : Head → List ℕ → List ℕ
head_text h rest = h.kind ∷ (number_bytes 8 h.txn ++ (number_bytes 8 h.gsn ++ rest))

abbrev pub HeadFits : Head → Type 0
HeadFits h = (h.txn < 2 ^ 64) × (h.gsn < 2 ^ 64)

abbrev pub key_change_text : KeyChange → List ℕ
key_change_text c = write_text c.leaf c.key c.before c.after

abbrev pub KeyChangeFits : KeyChange → Type 0
KeyChangeFits c = RefFits c.leaf × (c.key < 2 ^ 64) × (c.before < 2 ^ 64) × (c.after < 2 ^ 64)

-- the pages and fences of a split or a join, and the bytes behind them
abbrev pub siblings_text : Siblings → List ℕ → List ℕ
siblings_text s rest = ref_text s.left ++ (ref_text s.right ++ (ref_text s.parent ++ (number_bytes 8 s.separator ++ (number_bytes 8 s.high ++ rest))))

abbrev pub SiblingsFit : Siblings → Type 0
SiblingsFit s = RefFits s.left × RefFits s.right × RefFits s.parent × (s.separator < 2 ^ 64) × (s.high < 2 ^ 64)

-- the pages and the level of a lift or a drop, and the bytes behind them
abbrev pub root_change_text : RootChange → List ℕ → List ℕ
root_change_text c rest = number_bytes 8 c.root_prev ++ (ref_text c.page ++ c.level ∷ rest)

abbrev pub RootChangeFits : RootChange → Type 0
RootChangeFits c = (c.root_prev < 2 ^ 64) × RefFits c.page × (c.level < 2 ^ 8)

-- bodies by their parts
abbrev pub change_of : KeyChange → Body
change_of c = Change c.leaf c.key c.before c.after

abbrev pub put_back_of : KeyChange → Body
put_back_of c = PutBack c.leaf c.key c.before c.after

abbrev pub split_of : Siblings → ℕ → Pairs → Body
split_of s level pairs = Split s.left s.right s.parent s.separator s.high level pairs

abbrev pub lift_of : RootChange → Pairs → Body
lift_of c pairs = Lift c.root_prev c.page c.level pairs

abbrev pub join_of : Siblings → Pairs → Body
join_of s pairs = Join s.left s.right s.parent s.separator s.high pairs

abbrev pub drop_of : RootChange → Pairs → Body
drop_of c pairs = DropRoot c.root_prev c.page c.level pairs

abbrev pub purge_of : PageRef → Keys → Body
purge_of leaf keys = Purge leaf keys

-- the body is this one, with some pairs or keys
pub record IsWith {A : Type 0} (made : A → Body) (body : Body) : Type 0 where
  pub items : A
  pub is : body ≡ made items

-- a body of this kind stands first, and takes so many bytes
pub record BodyStands (kind : ℕ) (bytes : List ℕ) (body : Body) (n : ℕ) : Type 0 where
  pub is : kind_of body ≡ kind
  pub fits : BodyFits body
  pub count : n ≡ length (body_text body)
  pub rest : List ℕ
  pub spelled : bytes ≡ body_text body ++ rest

-- no body of this kind stands first
abbrev pub NoBody : ℕ → List ℕ → Type 0
NoBody kind bytes = (body : Body) (rest : List ℕ) → kind_of body ≡ kind → BodyFits body → bytes ≡ body_text body ++ rest → ⊥

-- items that fit stand first, one behind the other
pub record Spell {A : Type 0} (Fit : A → Type 0) (text : A → List ℕ) (items : List A) (bytes : List ℕ) : Type 0 where
  pub each : All Fit items
  pub rest : List ℕ
  pub spelled : bytes ≡ flat_map text items ++ rest

-- pairs stand first, and take so many bytes
pub record PairsStand (bytes : List ℕ) (ps : Pairs) (n : ℕ) : Type 0 where
  pub fits : PairsFit ps
  pub count : n ≡ length (pairs_text ps)
  pub rest : List ℕ
  pub spelled : bytes ≡ pairs_text ps ++ rest

abbrev pub NoPairs : List ℕ → Type 0
NoPairs bytes = (ps : Pairs) (rest : List ℕ) → PairsFit ps → bytes ≡ pairs_text ps ++ rest → ⊥

-- keys stand first, and take so many bytes
pub record KeysStand (bytes : List ℕ) (ks : Keys) (n : ℕ) : Type 0 where
  pub fits : KeysFit ks
  pub count : n ≡ length (keys_text ks)
  pub rest : List ℕ
  pub spelled : bytes ≡ keys_text ks ++ rest

abbrev pub NoKeys : List ℕ → Type 0
NoKeys bytes = (ks : Keys) (rest : List ℕ) → KeysFit ks → bytes ≡ keys_text ks ++ rest → ⊥

-- behind a front of so many bytes stand a count, at most 60, and so many items of this width
pub record Counted (front width : ℕ) (bytes : List ℕ) (n : ℕ) : Type 0 where
  pub many : ℕ
  pub most : many ≤ 60
  pub more : List ℕ
  pub behind : drop front bytes ≡ many ∷ more
  pub enough : width * many ≤ length more
  pub size : n ≡ front + 1 + width * many
