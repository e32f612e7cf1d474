-- What is found of a level, by what is seen from look to look.
use Rattle.std.proofs.Common.{◌≡◌, ◌≢◌, ◌⊎◌, inl, inr, ◌≤◌, ◌<◌, ◌+◌, ◌-◌, ◌∙◌, ◌^◌, ℕ, zero, suc, Bool, true, false, List, [], ◌∷◌, length, slice_index_or, Option, Some, None, refl, sym, ap, subst, arith}
use Rattle.std.specs.Prelude.{slice_index}
use Rattle.std.proofs.lemmas.Bool.{cases_lt}
use Rattle.page_model.specs.Limits.{frame_bit}
use Rattle.page_model.specs.Page.{word_at}
use Rattle.row_changes.specs.session_state.core_calls.Room.{EveryRoom}
use Rattle.row_changes.specs.session_state.core_state.States.{Place}
use Rattle.row_changes.specs.session_state.worker_log.Logs.{Log}
use Rattle.row_changes.specs.session_state.row_words.Openings.{opening}
use Rattle.row_changes.specs.session_state.rows_trait.Views.{Shape, state}
use Rattle.row_changes.specs.session_state.rows_trait.declared.view.View.{View}
use Rattle.row_changes.specs.session_state.Holds.{Holds}
use Rattle.row_changes.specs.session_state.declared.session.Session.{Session}
use Rattle.row_tidying.specs.row_ends.Flushed.{Looked}
use Rattle.row_image.specs.Hot.{StandsIn}
use Rattle.row_image.specs.Sights.{EveryPair, HasNone, IsFirst}
use Rattle.row_image.specs.declared.sight.Sight.{Sight}
use Rattle.row_tidying.specs.tidy_rules.Laws.{EveryTidy}
use Rattle.row_tidying.specs.tidy_rules.Tidying.{is_thin, join_under, page_at}
use Rattle.row_tidying.proofs.MadeLemmas.{framed}
use Rattle.row_walks.specs.Inside.Levels.{IsJoinable}
use Rattle.row_walks.specs.Inside.Ways.{IsSeen, IsWayIn, frame_at}
use Rattle.row_walks.specs.Stages.{IsNeighbour}
use Rattle.row_walks.proofs.FoundLemmas.{cold_there, crowded_last, crowded_next, hot_there, joins_last, joins_next, level_alone, level_thick, level_thin, low_there, needs_last, needs_next, some_pair}
use Rattle.row_walks.proofs.LookLemmas.{core_looked, hot_on, looked_then, seen_back}

-- the frames of a level and of the one above it
abbrev pub own_frame : List ℕ → (level : ℕ) → ℕ
own_frame fs l = slice_index_or fs (length fs - (l + 1)) 0

abbrev pub parent_frame : List ℕ → (level : ℕ) → ℕ
parent_frame fs l = slice_index_or fs (length fs - (l + 2)) 0

pub own_is : (fs path : List ℕ) (l : ℕ) → fs ≡ path → own_frame fs l ≡ frame_at path l
own_is fs path l e = (λ i. slice_index_or (e i) (length (e i) - (l + 1)) 0) ∙ (let k : length path - (l + 1) ≡ length path - suc l = omega arith in ap (slice_index path) k)

pub parent_is : (fs path : List ℕ) (l : ℕ) → fs ≡ path → parent_frame fs l ≡ frame_at path (suc l)
parent_is fs path l e = (λ i. slice_index_or (e i) (length (e i) - (l + 2)) 0) ∙ (let k : length path - (l + 2) ≡ length path - suc (suc l) = omega arith in ap (slice_index path) k)

-- the number of a page that is seen is low
pub low_number : (z : Shape) (v : View) (x : Session) (log : Log) → Holds z v x log → (f : ℕ) (s : Sight) → IsSeen v f s → s.node.number < 2 ^ 16
low_number z v x log h f s st = let a = st.stands.below in let b = h.rows.few_pages in omega arith

-- the page of a level stands in its frame
pub hot_at : (v : View) (key : ℕ) (path : List ℕ) → IsWayIn v key path → (l f : ℕ) → l < length path → f ≡ frame_at path l → (p : ℕ) × ((state v).core.place p ≡ Place.Hot f)
hot_at v key path way l f lt e = (way.page l, (way.way l lt).hot ∙ ap Place.Hot (sym e))

module _ (pairs : EveryPair) (tidy : EveryTidy) (z : Shape) (v : View) (x : Session) (log : Log) (h : Holds z v x log) (open_is : x.is_open ≡ true) (key : ℕ) (path : List ℕ) (way : IsWayIn v key path) (l : ℕ) (lt : suc l < length path)
    (fs : List ℕ) (fs_is : fs ≡ path) (child : Sight) (child_seen : IsSeen v (own_frame fs l) child) where
  child_st : StandsIn v.given (state v) (frame_at path l) child.node
  child_st = subst (λ f. StandsIn v.given (state v) f child.node) (own_is fs path l fs_is) child_seen

  pub thick : 15 < length child.node.node.pairs → is_thin (state v).core (page_at (opening v.given) (state v).core key l) ≡ false
  thick = level_thick pairs tidy z v x log h open_is key path way l lt child.node child_st

  thin : length child.node.node.pairs ≤ 15 → is_thin (state v).core (page_at (opening v.given) (state v).core key l) ≡ true
  thin = level_thin pairs tidy z v x log h open_is key path way l lt child.node child_st

  module _ (u1 : View) (k1 : Looked v u1) (parent : Sight) (parent_seen : IsSeen u1 (parent_frame fs l) parent) where
    parent_st : StandsIn v.given (state v) (frame_at path (suc l)) parent.node
    parent_st = subst (λ f. StandsIn v.given (state v) f parent.node) (parent_is fs path l fs_is) (seen_back v u1 k1 (parent_frame fs l) parent parent_seen)

    -- its word, as it is looked for
    word_is : (w : ℕ) → w ≡ own_frame fs l → frame_bit + w ≡ frame_bit + frame_at path l
    word_is w e = ap (λ i. frame_bit + i) (e ∙ own_is fs path l fs_is)

    pub named : (w : ℕ) → w ≡ own_frame fs l → HasNone parent.node (frame_bit + w) → ⊥
    named w e none = some_pair pairs tidy z v x log h open_is key path way l lt parent.node parent_st (subst (λ (k : ℕ). HasNone parent.node k) (word_is w e) none)

    module _ (w : ℕ) (w_is : w ≡ own_frame fs l) (at : ℕ) (found : IsFirst parent.node (frame_bit + w) at) (few : length child.node.node.pairs ≤ 15) where
      first : IsFirst parent.node (frame_bit + frame_at path l) at
      first = subst (λ (k : ℕ). IsFirst parent.node k at) (word_is w w_is) found

      pub at_short : at < length parent.node.node.pairs
      at_short = first.short

      pub alone : length parent.node.node.pairs < 2
          → (is_thin (state v).core (page_at (opening v.given) (state v).core key l) ≡ true) × (join_under x.own (opening v.given) (state v).core (page_at (opening v.given) (state v).core key l) (page_at (opening v.given) (state v).core key (suc l)) ≡ None)
      alone lone = (thin few, level_alone pairs tidy z v x log h open_is key path way l lt parent.node parent_st at first lone)

      -- the pair beside it
      module _ (other : ℕ) (within : other < length parent.node.node.pairs) (next : suc at < length parent.node.node.pairs → other ≡ suc at) (last : suc at ≡ length parent.node.node.pairs → suc other ≡ at) (word : ℕ) (word_at_is : word ≡ word_at other parent.node.node.pairs) where
        -- not hot
        pub low_word : word < frame_bit → word < 2 ^ 16
        low_word cold =
            let k = cold_there pairs tidy z v x log h open_is key path way l lt parent.node parent_st at first other word within (sym word_at_is) cold in
            let low = low_there pairs tidy z v x log h open_is key path way l lt parent.node parent_st at first other within in
            let e = k.0 in omega arith

        pub needs : word < frame_bit → IsNeighbour (opening v.given) (state v).core key l word
        needs cold = elim (cases_lt (suc at) (length parent.node.node.pairs)) [
          | inl more ↦ needs_next pairs tidy z v x log h open_is key path way l lt parent.node parent_st at first (thin few) word more (ap (λ (i : ℕ). word_at i parent.node.node.pairs) (sym (next more)) ∙ sym word_at_is) cold
          | inr end ↦ needs_last pairs tidy z v x log h open_is key path way l lt parent.node parent_st at first (thin few) other word (sym (last (exact end))) (exact end) (sym word_at_is) cold
        ]
          where
            exact : length parent.node.node.pairs ≤ suc at → suc at ≡ length parent.node.node.pairs
            exact end = let s = first.short in omega arith

        -- hot
        module _ (hot : frame_bit ≤ word) where
          abbrev f : ℕ
          f = word - frame_bit

          word_of : word_at other parent.node.node.pairs ≡ frame_bit + f
          word_of = let e : word ≡ frame_bit + (word - frame_bit) = omega arith in sym word_at_is ∙ e

          there : (p : ℕ) × (word_at other (Rattle.row_changes.specs.session_state.core_state.States.nodes_of (state v).core (way.page (suc l))).pairs ≡ p) × ((state v).core.place p ≡ Place.Hot f)
          there = hot_there pairs tidy z v x log h open_is key path way l lt parent.node parent_st at first other f within word_of

          pub low_frame : f < x.frames
          low_frame = framed z v x log h there.0 f there.2

          pub stands : (u : View) → Looked v u → (p : ℕ) × ((state u).core.place p ≡ Place.Hot f)
          stands u k = (there.0, hot_on v u k.given (core_looked v u k) there.0 f there.2)

          module _ (u2 : View) (k2 : Looked v u2) (sister : Sight) (sister_seen : IsSeen u2 f sister) where
            sister_st : StandsIn v.given (state v) f sister.node
            sister_st = seen_back v u2 k2 f sister sister_seen

            exactly : length parent.node.node.pairs ≤ suc at → suc at ≡ length parent.node.node.pairs
            exactly end = let s = first.short in omega arith

            pub crowded : 45 < length child.node.node.pairs + length sister.node.node.pairs
                → (is_thin (state v).core (page_at (opening v.given) (state v).core key l) ≡ true) × (join_under x.own (opening v.given) (state v).core (page_at (opening v.given) (state v).core key l) (page_at (opening v.given) (state v).core key (suc l)) ≡ None)
            crowded many = (
              thin few,
              elim (cases_lt (suc at) (length parent.node.node.pairs)) [
                | inl more ↦ crowded_next pairs tidy z v x log h open_is key path way l lt parent.node parent_st at first child.node child_st sister.node f sister_st more (ap (λ (i : ℕ). word_at i parent.node.node.pairs) (sym (next more)) ∙ word_of) many
                | inr end ↦ crowded_last pairs tidy z v x log h open_is key path way l lt parent.node parent_st at first child.node child_st sister.node f sister_st other (sym (last (exactly end))) (exactly end) word_of many
              ],
            )

            -- the last one is the right one
            pub joins_left : other < at → length child.node.node.pairs + length sister.node.node.pairs ≤ 45 → IsJoinable x.own v key l f (own_frame fs l) (parent_frame fs l) child.node.number
            joins_left less small = subst (λ (d : ℕ). IsJoinable x.own v key l f (own_frame fs l) d child.node.number) (sym (parent_is fs path l fs_is)) (subst (λ (b : ℕ). IsJoinable x.own v key l f b (frame_at path (suc l)) child.node.number) (sym (own_is fs path l fs_is)) made)
              where
                made : IsJoinable x.own v key l f (frame_at path l) (frame_at path (suc l)) child.node.number
                made = elim (cases_lt (suc at) (length parent.node.node.pairs)) [
                  | inl more ↦ absurd (let e = next more in omega arith)
                  | inr end ↦ joins_last pairs tidy z v x log h open_is key path way l lt parent.node parent_st at first child.node child_st sister.node f sister_st (thin few) other (sym (last (exactly end))) (exactly end) word_of small
                ]

            -- any other one the left one
            pub joins_right : at ≤ other → length child.node.node.pairs + length sister.node.node.pairs ≤ 45 → IsJoinable x.own v key l (own_frame fs l) f (parent_frame fs l) sister.node.number
            joins_right more_than small = subst (λ (d : ℕ). IsJoinable x.own v key l (own_frame fs l) f d sister.node.number) (sym (parent_is fs path l fs_is)) (subst (λ (a : ℕ). IsJoinable x.own v key l a f (frame_at path (suc l)) sister.node.number) (sym (own_is fs path l fs_is)) made)
              where
                made : IsJoinable x.own v key l (frame_at path l) f (frame_at path (suc l)) sister.node.number
                made = elim (cases_lt (suc at) (length parent.node.node.pairs)) [
                  | inl more ↦ joins_next pairs tidy z v x log h open_is key path way l lt parent.node parent_st at first child.node child_st sister.node f sister_st (thin few) more (ap (λ (i : ℕ). word_at i parent.node.node.pairs) (sym (next more)) ∙ word_of) small
                  | inr end ↦ absurd (let e = last (exactly end) in omega arith)
                ]
