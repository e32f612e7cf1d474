use Rattle.std.proofs.Common.{rules, ◌≡◌, ◌++◌, List, ℕ, length, replicate, ap, ◌∙◌}
use Rattle.page_model.specs.Page.{new_page}
use Rattle.master_store.specs.disk_slots.Pages.{page_slot}
use Rattle.disk_format.specs.Fresh.{fresh_node, fresh_page}
use Rattle.disk_format.proofs.parts.write_fresh.Goals as goal

pub returns : goal.returns
unfolding fresh_page
returns c =
    let half : length c.split_at_mut-slot.result.1.now ≡ 1024 = search rules in
    ap (λ (xs : List ℕ). xs ++ c.clear.new.into) c.write_slot.ensures ∙ ap (λ (ys : List ℕ). page_slot (new_page c.args.number (fresh_node c.args.number)) ++ ys) (c.clear.ensures ∙ ap (λ (n : ℕ). replicate n 0) half)
