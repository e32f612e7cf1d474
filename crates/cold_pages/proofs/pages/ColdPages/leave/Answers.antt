use Rattle.std.proofs.Common.{◌<◌, ℕ, List, length, sym, ap, ◌∙◌, subst}
use Rattle.std.proofs.lemmas.List.{length-set}
use Rattle.cold_pages.specs.declared.kept.Kept.{Kept}
use Rattle.cold_pages.specs.Kept.{kept_of, own}
use Rattle.cold_pages.proofs.pages.ColdPages.leave.Goals as goal

pub name-requires-clause-within : goal.name-requires-clause-within
name-requires-clause-within c = λ x m. subst (λ (n : ℕ). x.word < n) (sym (ap (λ (t : List Kept). length t) c.note_own.ensures ∙ length-set c.args.self.now c.args.page (own (kept_of c.args.self.now c.args.page) c.args.node.now))) (c.requires.within x m)
