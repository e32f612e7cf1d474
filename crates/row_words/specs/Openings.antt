-- The core's opening for what rows begin with. A step reads of an opening its sizes alone (row_opening proves it), so the tree
-- of this one is the least: page 0 is an empty leaf, and all else is free.
use Rattle.std.specs.Prelude.{◌≡◌, ◌-◌, ◌<◌, ◌%◌, ℕ, zero, suc, Bool, true, [], length}
use Rattle.std.proofs.Common.{lit≤, refl, sym, true≢false}
use Rattle.std.proofs.Math.Nat.{zero-lt-suc}
use Rattle.std.proofs.Math.Bridge.{no_suc-le-zero}
use Rattle.page_model.specs.Nodes.{Format, Node, WellFormed, free}
use Rattle.page_model.specs.Tree.{Names, IsTree}
use Rattle.core_state.specs.Openings.{Opening}
use Rattle.row_words.specs.declared.given.Given.{Given}
use Rattle.row_words.specs.Moments.{format_of}

-- an empty leaf with all keys
abbrev pub lone_leaf : Format → Node
lone_leaf f = record { live = true; level = 0; low = 0; high = f.top; pairs = [] }

-- it as page 0, and no other
abbrev pub lone : Format → ℕ → Node
lone f zero = lone_leaf f
lone f (suc p) = free

-- each of these pages is well formed
pub lone_formed : (n p : ℕ) → WellFormed (format_of n) (lone (format_of n) p)
lone_formed n zero = record {
  node = λ e. record { sized = lit≤ tt; tall = lit≤ tt; rising = lit≤ tt; values = λ z x h. absurd h; children = λ z x h. absurd h; first = λ z. absurd (no_suc-le-zero z) };
  other = λ e. absurd (true≢false e);
}
lone_formed n (suc p) = record { node = λ e. absurd (true≢false (sym e)); other = λ e. refl }

-- and they are a tree
pub lone_tree : (n : ℕ) → IsTree (format_of (suc n)) (lone (format_of (suc n)))
lone_tree n = record {
  some = zero-lt-suc n;
  root = (refl, refl, refl);
  formed = λ p lt. lone_formed (suc n) p;
  down = λ q lt s m. absurd (leaf q m.inner);
  up = upward;
}
  where
    leaf : (q : ℕ) → 0 < (lone (format_of (suc n)) q).level → ⊥
    leaf zero h = no_suc-le-zero h
    leaf (suc q) h = no_suc-le-zero h

    upward : (p : ℕ) → p < suc n → (lone (format_of (suc n)) p).live ≡ true → (p ≡ 0 → ⊥) → Rattle.page_model.specs.Tree.Parent (format_of (suc n)) (lone (format_of (suc n))) p
    upward zero lt l ne = absurd (ne refl)
    upward (suc p) lt l ne = absurd (true≢false (sym l))

-- an opening of these sizes, with at least one worker, frame and page; a transaction makes up to 64 changes, and pages of up to
-- 45 pairs together are joined
abbrev pub like : (faithful : Bool) → (workers frames rows pages : ℕ) → Opening
like faithful workers frames rows pages = record {
  faithful = faithful;
  workers = suc (workers - 1);
  frames = suc (frames - 1);
  row_of = λ k. k % rows;
  changes = 64;
  joined = 45;
  base = 0;
  format = format_of (suc (pages - 1));
  gsn = λ p. 0;
  last = λ p. 0;
  node = lone (format_of (suc (pages - 1)));
  some_worker = zero-lt-suc (workers - 1);
  some_frame = zero-lt-suc (frames - 1);
  fit = lit≤ tt;
  keys = lit≤ tt;
  values = lit≤ tt;
  low = λ p. lit≤ tt;
  tree = lone_tree (pages - 1);
}

-- the opening for what is given
abbrev pub opening : Given → Opening
opening v = like v.faithful v.workers v.frames v.rows (length v.pages)
