-- There is one greatest number, and the master that an opening writes is of its run.
use Rattle.std.proofs.Common.{◌≡◌, ◌⊎◌, inl, inr, ◌≤◌, ◌<◌, ℕ, suc, length, Some, ◌∙◌, ap, arith}
use Rattle.std.proofs.lemmas.List.{length-replicate}
use Rattle.map_model.specs.Lists.{Has}
use Rattle.buffered_engine.specs.image_model.Entries.{Entry}
use Rattle.buffered_engine.specs.image_model.Images.{Image, bases, sorted}
use Rattle.buffered_engine.specs.disk_slots.declared.master.Master.{Master}
use Rattle.buffered_engine.specs.disk_image.Masters.{IsOfRun}
use Rattle.buffered_engine.specs.recovery.Masters.{next_master}
use Rattle.buffered_engine.specs.recovery.Opened.{IsGreatest}

no_greater : (i : Image) (n k : ℕ) → IsGreatest i n → IsGreatest i k → n ≤ k
no_greater i n k a b = go a.met
  where
    go : (n ≡ i.floor) ⊎ (((r : Entry) × Has r (sorted i) × (n ≡ r.number)) ⊎ ((p : ℕ) × (p < i.format.pages) × (n ≡ (bases i p).gsn))) → n ≤ k
    go (inl e) = let f = b.floor in omega arith
    go (inr (inl q)) = let f = b.records q.0 q.1 in let e = q.2 in omega arith
    go (inr (inr q)) = let f = b.stored q.0 q.1 in let e = q.2 in omega arith

pub one_greatest : (i : Image) (n k : ℕ) → IsGreatest i n → IsGreatest i k → n ≡ k
one_greatest i n k a b = let p = no_greater i n k a b in let q = no_greater i k n b a in omega arith

pub some_is : (x y : Master) → Some x ≡ Some y → x ≡ y
some_is x y e = cc

-- the next master is of the run that began with this one
pub next_of_run : (m n : Master) (base : ℕ) → n ≡ next_master m base → IsOfRun m n
next_of_run m n base e = record {
  pages = ap (λ (x : Master). x.pages) e;
  blocks = ap (λ (x : Master). x.blocks) e;
  logs = ap (λ (x : Master). length x.heads) e ∙ length-replicate (length m.heads) 0;
  generation = inr (ap (λ (x : Master). x.generation) e);
  sequence = let q : n.sequence ≡ suc m.sequence = ap (λ (x : Master). x.sequence) e in omega arith;
}
