-- The answers about an image, of what was replayed of it.
use Rattle.std.proofs.Common.{◌≡◌, ℕ, Bool, List, length, Option, Some, refl, sym, ◌∙◌, ap, subst}
use Rattle.page_model.specs.Nodes.{Format}
use Rattle.page_model.specs.Pairs as pairs
use Rattle.page_model.specs.Redo.{is_some}
use Rattle.page_model.specs.Tree as tree
use Rattle.page_model.specs.Tree.{value_of}
use Rattle.image_model.specs.Entries.{Entry}
use Rattle.image_model.specs.Entries as entries
use Rattle.image_model.specs.Ends as ends
use Rattle.image_model.specs.Images as images
use Rattle.image_model.specs.Damage as rules
use Rattle.image_model.specs.Redo as redoing
use Rattle.image_model.specs.Redo.{redo}
use Rattle.image_model.specs.Undo.{values, nodes_of, undo_node}
use Rattle.plain_images.specs.declared.pages.Pair.{Pair}
use Rattle.plain_images.specs.declared.records.Image.{Image}
use Rattle.plain_images.specs.declared.records.Log.{Log}
use Rattle.plain_images.specs.declared.records.Page.{Page}
use Rattle.plain_images.specs.declared.records.Record.{Record}
use Rattle.plain_images.specs.declared.redone.Placed.{Placed}
use Rattle.plain_images.specs.declared.replayed.Replayed.{Replayed}
use Rattle.plain_images.specs.Damages.{missing_base, unordered_in, undoable_in, broken, without_in}
use Rattle.plain_images.specs.Images.{log_of, base_of, bases_of, image_of, pages_of, redone_of}
use Rattle.plain_images.specs.Pages.{format_of, pairs_of}
use Rattle.plain_images.specs.Records.{entries_of}
use Rattle.plain_images.specs.Replayed.{IsReplayed, lost_in}
use Rattle.plain_images.specs.Undo.{is_lost_by, word_undone}
use Rattle.plain_images.specs.Words as listed
use Rattle.plain_images.proofs.DamageLemmas.{first_without_is}
use Rattle.plain_images.proofs.UndoLemmas.{lost_same, recovered_is, page_is, page_made}
use Rattle.plain_images.proofs.WordsLemmas.{find_all, rising_all}

-- the pairs are the image's map
pub record IsMap (image : Image) (out : List Pair) : Type 0 where
  pub finds : (k : ℕ) → pairs.find k (pairs_of out) ≡ images.map_of (image_of image) k
  pub rises : listed.IsRising 0 (pairs_of out)

module _ (image : Image) (d : Replayed) (x : IsReplayed image d) where
  abbrev i : images.Image
  i = image_of image

  abbrev own : List (Option Page)
  own = image.bases.items

  abbrev z : List Entry
  z = entries_of d.records.items

  abbrev lost : Entry → Bool
  lost = lost_in d

  abbrev made : List (Option Page) → redoing.Redone
  made bases = redone_of bases d.redone

  pub word_read : (bases : List (Option Page)) (k w out : ℕ) → bases ≡ own → w ≡ values (format_of (length bases)) (made bases) k → out ≡ word_undone lost z k w → out ≡ images.recovered i k
  word_read bases k w out eb ew e =
      e ∙ ap (word_undone lost z k) (ew ∙ ap (λ (t : List (Option Page)). values (format_of (length t)) (made t) k) eb)
      ∙ recovered_is i z d.far (made own) k x.sorted x.reached x.made

  pub page_read : (bases : List (Option Page)) (placed : List Placed) (p : ℕ) (was out : entries.Contents) → bases ≡ own → placed ≡ d.redone.placed.items → was ≡ pages_of bases placed p →
      out.gsn ≡ was.gsn → out.last ≡ was.last → out.node ≡ undo_node lost z was.node → out ≡ images.recovered_page i p
  page_read bases placed p was out eb ep ew eg el e =
      page_made lost z ((made own).page p) was out (ew ∙ ap (λ (t : List (Option Page)). pages_of t placed p) eb ∙ ap (λ (t : List Placed). pages_of own t p) ep) eg el e
      ∙ page_is i z d.far (made own) p x.sorted x.reached x.made

  abbrev f : Format
  f = format_of 0

  -- the values of all words are the map
  pub map_read : (bases : List (Option Page)) (words undone s out : List Pair) → bases ≡ own → pairs_of words ≡ listed.words_in (length bases) (nodes_of (made bases)) →
      pairs_of undone ≡ listed.undo_words lost z (pairs_of words) → s ≡ undone → pairs_of out ≡ listed.values_in f (pairs_of s) → IsMap image out
  map_read bases words undone s out eb ew eu es e = record {
    finds = λ k.
        ap (pairs.find k) whole
        ∙ find_all f lost z (length own) (nodes_of (made own)) k
        ∙ ap (λ w. value_of f (Some w)) (word_read own k (values (format_of (length own)) (made own) k) _ refl refl refl);
    rises = subst (listed.IsRising 0) (sym whole) (rising_all f lost z (length own) (nodes_of (made own)));
  }
    where
      whole : pairs_of out ≡ listed.values_in f (listed.undo_words lost z (listed.words_in (length own) (nodes_of (made own))))
      whole =
          e ∙ ap (λ (t : List Pair). listed.values_in f (pairs_of t)) es ∙ ap (listed.values_in f) eu
          ∙ ap (λ (t : List pairs.Pair). listed.values_in f (listed.undo_words lost z t)) (ew ∙ ap (λ (t : List (Option Page)). listed.words_in (length t) (nodes_of (made t))) eb)

  abbrev lacking : (Entry → Bool) → redoing.Redone → List Entry → Option rules.Damage
  lacking l t y = without_in l (λ k. is_some (tree.entry (length own) (nodes_of t) k)) y

  abbrev reach_in : List Entry → ℕ
  reach_in y = ends.reach (length image.logs.items) image.floor y

  lacking_read : lacking lost (made own) z ≡ rules.first_without i (images.sorted i)
  lacking_read =
      ap (λ n. lacking (is_lost_by n z (made own).counts) (made own) z) x.reached
      ∙ ap (λ (t : redoing.Redone). lacking (is_lost_by (reach_in z) z t.counts) t z) x.made
      ∙ ap (λ (y : List Entry). lacking (is_lost_by (reach_in y) y (redo (bases_of own) y).counts) (redo (bases_of own) y) y) x.sorted
      ∙ ap (λ (l : Entry → Bool). lacking l (images.redone i) (images.sorted i)) (lost_same (length image.logs.items) image.floor (images.found i) (images.redone i))
      ∙ sym (first_without_is i (images.sorted i))

  -- the rules in turn
  abbrev Damaged : Type 0
  Damaged = Option rules.Damage

  pub damage_read : (logs : List Log) (bases : List (Option Page)) (records : List Record) (missing unordered undoable torn lack late later latest out : Damaged) →
      logs ≡ image.logs.items → bases ≡ own → records ≡ d.records.items →
      missing ≡ missing_base (length bases) (base_of bases) → unordered ≡ rules.first_in_logs (λ w. unordered_in (log_of logs w)) (length logs) →
      undoable ≡ undoable_in (format_of (length bases)) (bases_of bases) (entries_of records) → torn ≡ broken (format_of (length bases)) (nodes_of (made bases)) →
      lack ≡ without_in lost (λ k. is_some (tree.entry (length bases) (nodes_of (made bases)) k)) z →
      late ≡ rules.or_first torn lack → later ≡ rules.or_first undoable late → latest ≡ rules.or_first unordered later → out ≡ rules.or_first missing latest → out ≡ rules.damage i
  damage_read logs bases records missing unordered undoable torn lack late later latest out el eb er em eo eu et ek e1 e2 e3 e4 =
      e4 ∙ ap (λ o. rules.or_first o latest) (em ∙ ap (λ (t : List (Option Page)). missing_base (length t) (base_of t)) eb)
      ∙ ap (rules.or_first m) (e3 ∙ ap (λ o. rules.or_first o later) (eo ∙ ap (λ (t : List Log). rules.first_in_logs (λ w. unordered_in (log_of t w)) (length t)) el)
      ∙ ap (rules.or_first u) (e2 ∙ ap (λ o. rules.or_first o late) (eu ∙ ap (λ (t : List (Option Page)). undoable_in (format_of (length t)) (bases_of t) (entries_of records)) eb
      ∙ ap (undoable_in (format_of (length own)) (bases_of own)) (ap entries_of er ∙ x.sorted))
      ∙ ap (rules.or_first v) (e1 ∙ ap (λ o. rules.or_first o lack) (et ∙ ap (λ (t : List (Option Page)). broken (format_of (length t)) (nodes_of (made t))) eb
      ∙ ap (λ (t : redoing.Redone). broken (format_of (length own)) (nodes_of t)) (x.made ∙ ap (redo (bases_of own)) x.sorted))
      ∙ ap (rules.or_first (broken (format_of (length own)) (nodes_of (images.redone i)))) (ek ∙ ap (λ (t : List (Option Page)). without_in lost (λ k. is_some (tree.entry (length t) (nodes_of (made t)) k)) z) eb ∙ lacking_read))))
    where
      m : Damaged
      m = missing_base (length own) (base_of own)

      u : Damaged
      u = rules.first_in_logs (λ w. unordered_in (log_of image.logs.items w)) (length image.logs.items)

      v : Damaged
      v = undoable_in (format_of (length own)) (bases_of own) (images.sorted i)
