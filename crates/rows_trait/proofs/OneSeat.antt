-- Each step of the one seat of plain rows.
use Rattle.std.proofs.Common.{◌≡◌, ℕ, zero, suc, get_or, ◌+◌, ◌<◌, ◌≤◌, true, false, cond, List, [], ◌∷◌, ◌++◌, length, set, refl, sym, ap, subst, ◌∙◌, arith, append-nil}
use Rattle.std.specs.Prelude.{slice_index}
use Rattle.row_words.specs.declared.event.Event.{Event}
use Rattle.row_words.specs.declared.event.Event.TheVariants.{Miss}
use Rattle.row_words.specs.Sealed.{begun, heard}
use Rattle.rows_trait.specs.Layout.{Sizes, rows_of, width, row_at, cell, count_of, control_at}
use Rattle.rows_trait.specs.Inside.{row_cells, flushed_words, after, look_at, first_of}
use Rattle.rows_trait.specs.declared.view.Act.TheVariants.{Load, Store, Set, Hear, Turn}
use Rattle.rows_trait.specs.declared.view.View.{View}
use Rattle.rows_trait.specs.Views.{IsEven, after_all, state, no_place, Shape, AreLow, hold, holds, held_at, without, write, settle, AreApart, AreAside, AreSilent, AreTame, BeginsTame, may}
use Rattle.rows_trait.specs.Turns.{Looked, Loaded, Taken, Stored, MayPublish, Published, Released, Heard, MayTurn, Turned, MaySync, Synced}
use Rattle.rows_trait.specs.Rule.{Plan, plan, Keeps, IsAlone, IsPicture}
use Rattle.rows_trait.proofs.Steps.{looks, loads, stores, takes, publishing, releases, latch_of}
use Rattle.rows_trait.proofs.ControlSteps.{hears, turns, syncs}

module _ (k : Plan) (words : List ℕ) (v : View) (p : IsPicture k words v) where
  whole : p.happened ≡ v.seen ++ []
  whole = p.alone.seen ∙ sym (append-nil v.seen)

  solo : true ≡ true → IsAlone k p.happened words (v ∷ []) v
  solo e = p.alone

  abbrev shape : Shape
  shape = record { sizes = k.sizes; alone = true; place = no_place }

  -- a step, put together
  module _ (T : View → Type 0) (now : List ℕ) (es : List Event) (w : View) (live : w.live ≡ true)
      (l : (u : View) × (u ≡ w) × Keeps k (p.happened ++ es) now (set (v ∷ []) 0 u) × T u × (true ≡ true → IsAlone k (p.happened ++ es) now (set (v ∷ []) 0 u) u)) where
    stepped : IsPicture k now w × T w
    stepped = let P : View → Type 0 = λ u. Keeps k (p.happened ++ es) now (u ∷ []) × T u × IsAlone k (p.happened ++ es) now (u ∷ []) u in
        let t : P w = subst P l.1 (l.2, l.3, l.4 refl) in (record { happened = p.happened ++ es; live = live; keeps = t.0; alone = t.2 }, t.1)

  pub plain_look : (row n : ℕ) (names : ℕ → List Event) → row < rows_of k.sizes → n ≡ cell k.sizes words row 0 → ((n : ℕ) → AreSilent (may true v) v.given (names n))
      → IsPicture k words (after v [] (names n) (look_at row n v [] (names n) ∷ v.steps) v.held) × Looked shape row names v n (after v [] (names n) (look_at row n v [] (names n) ∷ v.steps) v.held)
  plain_look row n names lt is s =
      stepped (Looked shape row names v n) words (names n) (after v [] (names n) (look_at row n v [] (names n) ∷ v.steps) v.held) p.live (looks true no_place k p.happened words (v ∷ []) 0 v p.keeps refl p.live [] whole tt solo row n names lt is (s n))

  pub plain_load : (row i n : ℕ) → row < rows_of k.sizes → i < width k.sizes row → n ≡ cell k.sizes words row (i + 1)
      → IsPicture k words (after v [] [] (Load row i n ∷ v.steps) v.held) × Loaded shape row i v n (after v [] [] (Load row i n ∷ v.steps) v.held)
  plain_load row i n lt l is =
      stepped (Loaded shape row i v n) words [] (after v [] [] (Load row i n ∷ v.steps) v.held) p.live (loads true no_place k p.happened words (v ∷ []) 0 v p.keeps refl p.live [] whole tt solo row i n lt l is)

  pub plain_store : (row i x : ℕ) → row < rows_of k.sizes → i < width k.sizes row → holds v.held row ≡ true
      → IsPicture k (set words (row_at k.sizes row (i + 1)) x) (after v [] [] (Store row i x ∷ v.steps) (write v.held row i x)) × Stored shape row i x v (after v [] [] (Store row i x ∷ v.steps) (write v.held row i x))
  plain_store row i x lt l h =
      stepped (Stored shape row i x v) (set words (row_at k.sizes row (i + 1)) x) [] (after v [] [] (Store row i x ∷ v.steps) (write v.held row i x)) p.live (stores true no_place k p.happened words (v ∷ []) 0 v p.keeps refl p.live [] whole tt solo row i x lt l h)

  abbrev pub taken : ℕ → ℕ → List Event → View
  taken row version es = let c = row_cells k.sizes words row in after v [] es (Set row (version + 1) ∷ look_at row version v [] es ∷ v.steps) (hold row version c c false ∷ v.held)

  pub plain_take : (row version : ℕ) (names : ℕ → List Event) → row < rows_of k.sizes → IsEven version → version + 2 < 18446744073709551616 → cell k.sizes words row 0 ≡ version → ((n : ℕ) → AreSilent (may true v) v.given (names n))
      → IsPicture k (set words (row_at k.sizes row 0) (version + 1)) (taken row version (names version)) × Taken shape row version names v (taken row version (names version))
  plain_take row version names lt ev room is s =
      stepped (Taken shape row version names v) (set words (row_at k.sizes row 0) (version + 1)) (names version) (taken row version (names version)) p.live (takes true no_place k p.happened words (v ∷ []) 0 v p.keeps refl p.live [] whole tt solo row version names lt ev room is (s version))

  abbrev pub settled_view : ℕ → List Event → View
  settled_view row es = after v [] es (Set row ((held_at v.held row).version + 2) ∷ v.steps) (settle v.given (after_all v.given (v.seen ++ [])) (without v.held row) (first_of es))

  pub plain_publish : (row : ℕ) (e : Event) → row < rows_of k.sizes → holds v.held row ≡ true → MayPublish shape row e v
      → IsPicture k (set words (row_at k.sizes row 0) ((held_at v.held row).version + 2)) (settled_view row (e ∷ [])) × Published shape row e v (settled_view row (e ∷ []))
  plain_publish row e lt h m =
      stepped (Published shape row e v) (set words (row_at k.sizes row 0) ((held_at v.held row).version + 2)) (e ∷ []) (settled_view row (e ∷ [])) p.live (publishing true no_place k p.happened words (v ∷ []) 0 v p.keeps refl p.live [] whole tt solo row e lt h m)

  abbrev pub released_view : ℕ → View
  released_view row = after v [] (cond (held_at v.held row).done [] (Miss v.actor ∷ [])) (Set row ((held_at v.held row).version + 2) ∷ v.steps) (without v.held row)

  pub plain_release : (row : ℕ) → row < rows_of k.sizes → holds v.held row ≡ true → (held_at v.held row).now ≡ (held_at v.held row).was
      → IsPicture k (set words (row_at k.sizes row 0) ((held_at v.held row).version + 2)) (released_view row) × Released shape row v (released_view row)
  plain_release row lt h same =
      stepped (Released shape row v) (set words (row_at k.sizes row 0) ((held_at v.held row).version + 2)) (cond (held_at v.held row).done [] (Miss v.actor ∷ [])) (released_view row) p.live (releases true no_place k p.happened words (v ∷ []) 0 v p.keeps refl p.live [] whole tt solo row lt h same)

  pub plain_latch : (row : ℕ) → holds v.held row ≡ true → (cell k.sizes words row 0 ≡ (held_at v.held row).version + 1) × ((held_at v.held row).version + 2 < 18446744073709551616)
  plain_latch row h = latch_of true no_place k p.happened words (v ∷ []) 0 v p.keeps refl p.live [] whole tt solo row h

  pub plain_low : AreLow (length v.seen) v.steps
  plain_low = (p.keeps.fits 0 v refl p.live).low

  pub plain_tame : AreTame v.given (begun v.given) v.seen
  plain_tame = subst (λ g. AreTame g (begun g) v.seen) (sym (p.keeps.fits 0 v refl p.live).given) (subst (λ z. AreTame k.given (begun k.given) z) p.alone.seen p.keeps.tame)

  pub plain_hear : (c i n : ℕ) (names : ℕ → List Event) → c ≤ k.sizes.workers → i < count_of c → n ≡ slice_index words (control_at c i) → ((n : ℕ) → AreAside (may true v) v.given (names n)) → ((n : ℕ) → BeginsTame (state v) (names n))
      → IsPicture k words (after v [] (names n) (Hear c i n ∷ v.steps) v.held) × Heard shape c i names v n (after v [] (names n) (Hear c i n ∷ v.steps) v.held)
  plain_hear c i n names h l is s b =
      stepped (Heard shape c i names v n) words (names n) (after v [] (names n) (Hear c i n ∷ v.steps) v.held) p.live (hears true no_place k p.happened words (v ∷ []) 0 v p.keeps refl p.live [] whole tt solo c i n names h l is (s n) (b n))

  pub plain_turn : (c i n : ℕ) (f : ℕ → ℕ) (names : ℕ → List Event) → c ≤ k.sizes.workers → i < count_of c → n ≡ slice_index words (control_at c i) → MayTurn shape c i f names v
      → IsPicture k (set words (control_at c i) (f n)) (after v [] (names n) (Turn c i n ∷ v.steps) v.held) × Turned shape c i f names v n (after v [] (names n) (Turn c i n ∷ v.steps) v.held)
  plain_turn c i n f names h l is m =
      stepped (Turned shape c i f names v n) (set words (control_at c i) (f n)) (names n) (after v [] (names n) (Turn c i n ∷ v.steps) v.held) p.live (turns true no_place k p.happened words (v ∷ []) 0 v p.keeps refl p.live [] whole tt solo c i n f names h l is m)

  pub plain_sync : (number : ℕ) (es : List Event) → MaySync shape number es v
      → IsPicture k (flushed_words k.sizes.workers words number) (after v [] es v.steps v.held) × Synced shape number es v (after v [] es v.steps v.held)
  plain_sync number es m =
      stepped (Synced shape number es v) (flushed_words k.sizes.workers words number) es (after v [] es v.steps v.held) p.live (syncs true no_place k p.happened words (v ∷ []) 0 v p.keeps refl p.live [] whole tt solo number es refl m)

  -- a turn does not overflow
  pub plain_small : (c i n : ℕ) (f : ℕ → ℕ) (names : ℕ → List Event) → c ≤ k.sizes.workers → i < count_of c → n ≡ slice_index words (control_at c i) → MayTurn shape c i f names v → f n < 18446744073709551616
  plain_small c i n f names h l is m = (m.turns [] (λ e. refl) tt n (let s = p.alone.seen in (λ j. heard (Rattle.rows_trait.specs.Views.after_all ((p.keeps.fits 0 v refl p.live).given j) (sym whole j)) c i) ∙ (sym (p.keeps.controls c i h l) ∙ sym is))).1

any_default : (words : List ℕ) (i d e : ℕ) → i < length words → get_or words i d ≡ get_or words i e
any_default [] i d e h = absurd (omega arith)
any_default (x ∷ xs) zero d e h = refl
any_default (x ∷ xs) (suc i) d e h = any_default xs i d e (omega arith)

-- a word that was read by its place
pub word_at : (words : List ℕ) (place at n : ℕ) → n ≡ get_or words place n → place < length words → place ≡ at → n ≡ slice_index words at
word_at words place at n e h is = e ∙ (any_default words place n 0 h ∙ ap (slice_index words) is)

-- a picture, at a view that is known
pub picture_at : (z : Sizes) (words : List ℕ) (u w : View) → u ≡ w → IsPicture (plan z w.given) words w → IsPicture (plan z u.given) words u
picture_at z words u w e p = let P : View → Type 0 = λ y. IsPicture (plan z y.given) words y in subst P (sym e) p

pub written_at : (k : Plan) (words : List ℕ) (place at n m : ℕ) (w : View) → place ≡ at → n ≡ m → IsPicture k (set words at m) w → IsPicture k (set words place n) w
written_at k words place at n m w e f p = let P : ℕ × ℕ → Type 0 = λ z. IsPicture k (set words z.0 z.1) w in subst P (λ i. (sym e i, sym f i)) p
