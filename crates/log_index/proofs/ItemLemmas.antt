-- What the spots of an index stand for.
use Rattle.std.proofs.Common.{◌≡◌, ◌≤◌, ◌<◌, ◌+◌, ◌-◌, ◌++◌, ◌∷◌, [], ℕ, List, Option, length, drop, get_or, refl, sym, ap, subst, ◌∙◌, arith, unwrap_or}
use Rattle.std.specs.List.{All}
use Rattle.std.proofs.lemmas.List.{length-append, length-drop, append_assoc, map-append, get_or-map, drop-append-le, drop-drop, drop_at}
use Rattle.std.proofs.lemmas.List.Elements.{All-nil, All-cons, All-head, All-tail, All-append, All-weaker, All-get_or}
use Rattle.std.proofs.lemmas.List.Sums.{sum_by-cons, sum_by-append}
use Rattle.log_record.specs.Spelling.{record_text, Fits, Begins}
use Rattle.log_record.specs.declared.record.Record.{Record}
use Rattle.log_record.proofs.ReadingLemmas.{every_record_in}
use Rattle.log_block.specs.Block.{AllFit, records_text}
use Rattle.log_index.specs.declared.spot.Spot.{Spot}
use Rattle.log_index.specs.Items.{Item, item_of, items_of, item_size, held, head_of}
use Rattle.log_index.specs.Inside.{no_record, said_at, item_at, items_at, Stands, spot_of, spots_of}
use Rattle.log_index.proofs.RecordFacts.{begins_within, begins_least}

-- ## One spot

pub said_is : (bytes : List ℕ) (at : ℕ) (r : Record) → Begins (drop at bytes) r (length (record_text r)) → said_at bytes at ≡ r
unfolding said_at
said_is bytes at r b = ap (λ (o : Option Record). unwrap_or o no_record) ((every_record_in (drop at bytes) r).1 b)

-- more bytes behind change nothing
begins_more : (bytes more : List ℕ) (at n : ℕ) (r : Record) → Begins (drop at bytes) r n → Begins (drop at (bytes ++ more)) r n
begins_more bytes more at n r b =
    let within : n ≤ length (drop at bytes) = begins_within (drop at bytes) r n b in
    let least : 25 ≤ n = begins_least (drop at bytes) r n b in
    let long : length (drop at bytes) ≡ length bytes - at = length-drop at bytes in
    let inside : at ≤ length bytes = omega arith in
    record {
      fits = b.fits;
      count = b.count;
      rest = b.rest ++ more;
      spelled = drop-append-le at bytes more inside ∙ ap (λ (z : List ℕ). z ++ more) b.spelled ∙ append_assoc (record_text r) b.rest more;
    }

pub stands_more : (bytes more : List ℕ) (s : Spot) → Stands bytes s → Stands (bytes ++ more) s
stands_more bytes more s st = record { is = st.is; begins = begins_more bytes more s.at (length (record_text st.is)) st.is st.begins; number = st.number; kind = st.kind }

pub item_said : (bytes : List ℕ) (s : Spot) (st : Stands bytes s) → item_at bytes s ≡ item_of s.log s.place st.is
item_said bytes s st = ap (item_of s.log s.place) (said_is bytes s.at st.is st.begins)

item_more : (bytes more : List ℕ) (s : Spot) → Stands bytes s → item_at (bytes ++ more) s ≡ item_at bytes s
item_more bytes more s st =
    ap (item_of s.log s.place) (said_is (bytes ++ more) s.at st.is (begins_more bytes more s.at (length (record_text st.is)) st.is st.begins) ∙ sym (said_is bytes s.at st.is st.begins))

-- ## The spots of an index

items_more : (bytes more : List ℕ) (spots : List Spot) → All (Stands bytes) spots → items_at (bytes ++ more) spots ≡ items_at bytes spots
items_more bytes more [] h = refl
items_more bytes more (s ∷ spots) h =
    let here : item_at (bytes ++ more) s ≡ item_at bytes s = item_more bytes more s (All-head (Stands bytes) s spots h) in
    let behind : items_at (bytes ++ more) spots ≡ items_at bytes spots = items_more bytes more spots (All-tail (Stands bytes) s spots h) in
    ap (λ (x : Item). x ∷ items_at (bytes ++ more) spots) here ∙ ap (λ (xs : List Item). item_at bytes s ∷ xs) behind

-- ## The spots of a block, whose records stand at the end of the bytes

behind_one : (bytes : List ℕ) (at : ℕ) (r : Record) (rest : List ℕ) → drop at bytes ≡ record_text r ++ rest → drop (at + length (record_text r)) bytes ≡ rest
behind_one bytes at r rest e =
    sym (drop-drop (length (record_text r)) at bytes) ∙ ap (drop (length (record_text r))) e ∙ drop_at (record_text r) rest (length (record_text r)) refl

first_begins : (bytes : List ℕ) (at : ℕ) (r : Record) (rest : List ℕ) → Fits r → drop at bytes ≡ record_text r ++ rest → Begins (drop at bytes) r (length (record_text r))
first_begins bytes at r rest fit e = record { fits = fit; count = refl; rest = rest; spelled = e }

stand_of : (log place : ℕ) (bytes : List ℕ) (at : ℕ) (rs : List Record) → AllFit rs → drop at bytes ≡ records_text rs → All (Stands bytes) (spots_of log place at rs)
stand_of log place bytes at [] fit e = All-nil (Stands bytes)
stand_of log place bytes at (r ∷ rs) fit e =
    All-cons (Stands bytes) (spot_of log place at r) (spots_of log place (at + length (record_text r)) rs)
    (record { is = r; begins = first_begins bytes at r (records_text rs) fit.0 e; number = refl; kind = refl })
    (stand_of log place bytes (at + length (record_text r)) rs fit.1 (behind_one bytes at r (records_text rs) e))

items_stand : (log place : ℕ) (bytes : List ℕ) (at : ℕ) (rs : List Record) → AllFit rs → drop at bytes ≡ records_text rs → items_at bytes (spots_of log place at rs) ≡ items_of log place rs
items_stand log place bytes at [] fit e = refl
items_stand log place bytes at (r ∷ rs) fit e =
    let here : item_at bytes (spot_of log place at r) ≡ item_of log place r = ap (item_of log place) (said_is bytes at r (first_begins bytes at r (records_text rs) fit.0 e)) in
    let next : ℕ = at + length (record_text r) in
    let behind : items_at bytes (spots_of log place next rs) ≡ items_of log place rs = items_stand log place bytes next rs fit.1 (behind_one bytes at r (records_text rs) e) in
    ap (λ (x : Item). x ∷ items_at bytes (spots_of log place next rs)) here ∙ ap (λ (xs : List Item). item_of log place r ∷ xs) behind

held_of : (log place : ℕ) (rs : List Record) → held (items_of log place rs) ≡ length (records_text rs)
held_of log place [] = refl
held_of log place (r ∷ rs) =
    sum_by-cons item_size (item_of log place r) (items_of log place rs) ∙ ap (λ n. length (record_text r) + n) (held_of log place rs) ∙ sym (length-append (record_text r) (records_text rs))

-- ## A block's payload and spots behind those that are there

module _ (log place start : ℕ) (bytes payload : List ℕ) (spots now : List Spot) (stand : All (Stands bytes) spots) (at : start ≡ length bytes) (rs : List Record) (fit : AllFit rs)
    (spelled : payload ≡ records_text rs) (is : now ≡ spots ++ spots_of log place start rs) where
  behind_all : drop start (bytes ++ payload) ≡ records_text rs
  behind_all = drop_at bytes payload start (sym at) ∙ spelled

  pub pushed_items : items_at (bytes ++ payload) now ≡ items_at bytes spots ++ items_of log place rs
  pushed_items =
      ap (items_at (bytes ++ payload)) is
      ∙ map-append (item_at (bytes ++ payload)) spots (spots_of log place start rs)
      ∙ ap (λ (xs : List Item). xs ++ items_at (bytes ++ payload) (spots_of log place start rs)) (items_more bytes payload spots stand)
      ∙ ap (λ (xs : List Item). items_at bytes spots ++ xs) (items_stand log place (bytes ++ payload) start rs fit behind_all)

  pub pushed_stand : All (Stands (bytes ++ payload)) now
  pushed_stand =
      subst (All (Stands (bytes ++ payload))) (sym is)
      (All-append (Stands (bytes ++ payload)) spots (spots_of log place start rs)
      (All-weaker (Stands bytes) (Stands (bytes ++ payload)) (stands_more bytes payload) spots stand)
      (stand_of log place (bytes ++ payload) start rs fit behind_all))

  pub pushed_held : held (items_at (bytes ++ payload) now) ≡ held (items_at bytes spots) + length payload
  pushed_held =
      ap held pushed_items
      ∙ sum_by-append item_size (items_at bytes spots) (items_of log place rs)
      ∙ ap (λ n. held (items_at bytes spots) + n) (held_of log place rs ∙ ap length (sym spelled))

-- ## The item at a place

pub item_there : (bytes : List ℕ) (spots : List Spot) (i : ℕ) (s : Spot) → i < length spots → s ≡ get_or spots i s → (d : Item) → get_or (items_at bytes spots) i d ≡ item_at bytes s
item_there bytes spots i s l e d = get_or-map (item_at bytes) spots i s d l ∙ ap (item_at bytes) (sym e)

pub stands_there : (bytes : List ℕ) (spots : List Spot) (i : ℕ) (s : Spot) → All (Stands bytes) spots → i < length spots → s ≡ get_or spots i s → Stands bytes s
stands_there bytes spots i s all l e = subst (Stands bytes) (sym e) (All-get_or (Stands bytes) spots i s l all)

pub head_there : (bytes : List ℕ) (s : Spot) (txn : ℕ) (st : Stands bytes s) → txn ≡ st.is.txn
    → head_of (item_at bytes s) ≡ record { number = s.number; txn = txn; log = s.log; place = s.place; kind = s.kind }
head_there bytes s txn st t =
    ap head_of (item_said bytes s st) ∙ λ i. record { number = sym st.number i; txn = sym t i; log = s.log; place = s.place; kind = sym st.kind i }
