-- One empty leaf is a tree.
use Rattle.std.proofs.Common.{ℕ, zero, suc, ◌<◌, ◌^◌, ◌%◌, true, [], refl, sym, arith, true≢false}
use Rattle.page_model.specs.Nodes.{Format, Node, free, WellFormed}
use Rattle.page_model.specs.Tree.{IsTree, Names}
use Rattle.page_model.specs.Pairs.{Span}
use Rattle.mem_journal.specs.Openings.{EveryOpening}

abbrev format : (keys room : ℕ) → 0 < room → 0 < keys → Format
format keys room some wide = record { pages = 1; room = room; levels = 0; dead = 2 ^ 63; top = keys; some = some; wide = wide }

-- the leaf, and no other page
abbrev leaf : ℕ → ℕ → Node
leaf keys zero = record { live = true; level = 0; low = 0; high = keys; pairs = [] }
leaf keys (suc p) = free

formed : (keys room : ℕ) (some : 0 < room) (wide : 0 < keys) (p : ℕ) → WellFormed (format keys room some wide) (leaf keys p)
formed keys room some wide zero = record {
  node = λ h. record {
    sized = omega arith;
    tall = omega arith;
    rising = omega arith;
    values = λ l x has. absurd has;
    children = λ l x has. absurd has;
    first = λ l. absurd (omega arith);
  };
  other = λ h. absurd (true≢false h);
}
formed keys room some wide (suc p) = record { node = λ h. absurd (true≢false (sym h)); other = λ h. refl }

no_names : (keys p : ℕ) (s : Span) → Names (leaf keys p) s → ⊥
no_names keys zero s n = let i = n.inner in omega arith
no_names keys (suc p) s n = true≢false (sym n.live)

tree : (keys room : ℕ) (some : 0 < room) (wide : 0 < keys) → IsTree (format keys room some wide) (leaf keys)
tree keys room some wide = record {
  some = omega arith;
  root = (refl, refl, refl);
  formed = λ p l. formed keys room some wide p;
  down = λ q l s n. absurd (no_names keys q s n);
  up = λ p l h n. absurd (n (omega arith));
}

pub every_opening : EveryOpening
every_opening sessions rows base keys room some_worker some wide end = record {
  opening = record {
    faithful = true;
    workers = sessions;
    frames = 1;
    row_of = λ k. k % rows;
    changes = 64;
    joined = 0;
    base = base;
    format = format keys room some wide;
    gsn = λ p. 0;
    last = λ p. 0;
    node = leaf keys;
    some_worker = some_worker;
    some_frame = omega arith;
    fit = omega arith;
    keys = end;
    values = omega arith;
    low = λ p. omega arith;
    tree = tree keys room some wide;
  };
  empty = record { workers = refl; base_is = refl; pages = omega arith; room_is = refl; dead = refl; live = refl; level = refl; low = refl; high = refl; pairs = refl; number = refl; log = refl };
  usual = record { row = λ k. refl; dead = refl; most = refl };
}
