use Rattle.std.proofs.Common.{◌≡◌, ap, ◌∙◌, sym, subst, true≢false}
use Rattle.page_model.specs.Page.{Page}
use Rattle.disk_slots.specs.Pages.{IsStorable}
use Rattle.disk_slots.proofs.SlotLemmas.{slot-sealed}
use Rattle.disk_slots.proofs.PageLemmas.{page-spells, page-same, page-read}
use Rattle.disk_slots.proofs.page.read_page.Goals as goal

pub returns-in_default-from_words-clause-cause_malformed : goal.returns-in_default-from_words-clause-cause_malformed
returns-in_default-from_words-clause-cause_malformed c _ =
    let h = c.in-Some.ensures.answer in
    (slot-sealed _ _ _ h, (λ p s. c.in_default-from_words.ensures.cause p (page-spells c.args.page c.args.pages c.args.bytes.now c.in-Some.words p h s)))

pub returns-then-number-from-clause-cause_malformed : goal.returns-then-number-from-clause-cause_malformed
returns-then-number-from-clause-cause_malformed c _ =
    let h = c.in-Some.ensures.answer in (
      slot-sealed _ _ _ h,
      (λ p s.
          let e : c.in-Some-from_words.node ≡ p = page-same c.args.page c.args.pages c.args.bytes.now c.in-Some.words p c.in-Some-from_words.node h c.in-Some-from_words.ensures.answer s in
          c.if-number-from.true (c.number.ensures ∙ ap (λ (x : Page). x.number) e ∙ s.holds.number ∙ sym c.from.ensures)),
    )

pub returns-then-not-is_storable-clause-cause_malformed : goal.returns-then-not-is_storable-clause-cause_malformed
returns-then-not-is_storable-clause-cause_malformed c _ =
    let h = c.in-Some.ensures.answer in (
      slot-sealed _ _ _ h,
      (λ p s.
          let e : c.in-Some-from_words.node ≡ p = page-same c.args.page c.args.pages c.args.bytes.now c.in-Some.words p c.in-Some-from_words.node h c.in-Some-from_words.ensures.answer s in
          let t : IsStorable c.args.pages c.in-Some-from_words.node.node = subst (λ (x : Page). IsStorable c.args.pages x.node) (sym e) s.holds.node in
          true≢false (sym (c.is_storable.ensures.1 (subst (λ j. IsStorable j c.in-Some-from_words.node.node) (sym c.from-2.ensures) t)) ∙ c.if-not-is_storable.true)),
    )

pub returns-clause-answer : goal.returns-clause-answer
returns-clause-answer c =
    page-read c.args.page c.args.pages c.args.bytes.now c.in-Some.words c.in-Some-from_words.node c.in-Some.ensures.answer c.in-Some-from_words.ensures.answer (sym c.number.ensures ∙ c.if-number-from.false ∙ c.from.ensures) (subst (λ j. IsStorable j c.in-Some-from_words.node.node) c.from-2.ensures (c.is_storable.ensures.0 c.if-not-is_storable.false))
