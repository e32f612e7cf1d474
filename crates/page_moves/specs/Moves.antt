-- What the pager knows of rows that it holds, before it moves a page or notes that one was saved.
use Rattle.std.specs.Prelude.{◌≡◌, ◌<◌, ℕ, true, false, List, length}
use Rattle.lean_proto.specs.image_model.Entries.{Contents}
use Rattle.page_model.specs.Limits.{frame_bit}
use Rattle.page_model.specs.Page.{word_at}
use Rattle.page_model.specs.Page as stored
use Rattle.lean_proto.specs.core_state.Needs as core
use Rattle.lean_proto.specs.core_state.States.{Place, in_frame}
use Rattle.lean_proto.specs.row_words.declared.event.Event.{Event}
use Rattle.lean_proto.specs.row_words.declared.event.Event.TheVariants.{Load, Cool, Rescue, Save, Evict}
use Rattle.lean_proto.specs.row_words.Moments.{event_of, pager}
use Rattle.lean_proto.specs.row_words.Openings.{opening}
use Rattle.lean_proto.specs.row_words.Words.{is_inner}
use Rattle.lean_proto.specs.rows_trait.declared.view.View.{View}
use Rattle.lean_proto.specs.rows_trait.Views.{Shape, may, state}
use Rattle.lean_proto.specs.Ready.{InOrder}

-- the seat plays the pager, and pages and places are in order at every moment
pub record IsPager (z : Shape) (v : View) : Type 0 where
  pub actor : may z.alone v pager ≡ true
  pub order : (es : List Event) → InOrder v es

-- page p stands in the frame
pub record IsIn (v : View) (row p : ℕ) : Type 0 where
  pub below : p < (opening v.given).format.pages
  pub stands : in_frame ((state v).core.place p) row ≡ true

-- the event may happen
abbrev pub IsMet : View → Event → Type 0
IsMet v e = core.may (opening v.given) (state v).core (event_of e) ≡ true

-- The page in the row may be saved, and has this number.
pub record CanSave (z : Shape) (v : View) (row p number : ℕ) : Type 0 where
  pub on : IsPager z v
  pub here : IsIn v row p
  pub met : IsMet v (Save p)
  pub number_is : number ≡ ((state v).core.page p).gsn

-- the page in the row may be evicted
pub record CanEvict (z : Shape) (v : View) (row p : ℕ) : Type 0 where
  pub on : IsPager z v
  pub here : IsIn v row p
  pub met : IsMet v (Evict p)

-- ## Links

-- a node stands hot in row a, and its pair `at` names page p
pub record HasLink (v : View) (a at p : ℕ) : Type 0 where
  pub parent : ℕ
  pub below : parent < (opening v.given).format.pages
  pub hot : (state v).core.place parent ≡ Place.Hot a
  pub inner : is_inner ((state v).core.page parent).node ≡ true
  pub short : at < length ((state v).core.page parent).node.pairs
  pub names : word_at at ((state v).core.page parent).node.pairs ≡ p

-- The page in row b, which row a names, may be cooled: it is unswizzled there.
pub record CanUnlink (z : Shape) (v : View) (a b at p : ℕ) : Type 0 where
  pub on : IsPager z v
  pub link : HasLink v a at p
  pub here : IsIn v b p
  pub met : IsMet v (Cool p)

-- The page in row b, which row a names, may be rescued: it is swizzled again.
pub record CanRelink (z : Shape) (v : View) (a b at p : ℕ) : Type 0 where
  pub on : IsPager z v
  pub link : HasLink v a at p
  pub here : IsIn v b p
  pub met : IsMet v (Rescue p)
  -- the row's number has not the bit of a frame's word, so it is no mark
  pub few : a < frame_bit

-- ## Loads

-- what a state has of a page
abbrev pub contents_of : stored.Page → Contents
contents_of n = record { gsn = n.gsn; last = n.last_log; node = n.node }

-- The page, which row a names, may be loaded into row b: these are its saved contents.
pub record CanFill (z : Shape) (v : View) (a b at p : ℕ) (n : stored.Page) : Type 0 where
  pub on : IsPager z v
  pub link : HasLink v a at p
  pub below : p < (opening v.given).format.pages
  pub met : IsMet v (Load p b)
  pub number_is : n.number ≡ p
  pub contents : contents_of n ≡ (state v).core.saved p
  -- the row's number has not the bit of a frame's word, so it is no mark
  pub few : a < frame_bit

-- ## Free pages, which no node names

-- The free page in row b may be cooled.
pub record CanChill (z : Shape) (v : View) (b p : ℕ) : Type 0 where
  pub on : IsPager z v
  pub here : IsIn v b p
  pub free : ((state v).core.page p).node.live ≡ false
  pub met : IsMet v (Cool p)

-- it may be rescued
pub record CanRevive (z : Shape) (v : View) (b p : ℕ) : Type 0 where
  pub on : IsPager z v
  pub here : IsIn v b p
  pub free : ((state v).core.page p).node.live ≡ false
  pub met : IsMet v (Rescue p)

-- The free page may be loaded into row b: these are its saved contents.
pub record CanFillFree (z : Shape) (v : View) (b p : ℕ) (n : stored.Page) : Type 0 where
  pub on : IsPager z v
  pub below : p < (opening v.given).format.pages
  pub free : n.node.live ≡ false
  pub met : IsMet v (Load p b)
  pub number_is : n.number ≡ p
  pub contents : contents_of n ≡ (state v).core.saved p
