use Rattle.std.proofs.Common.{ap, subst, ◌∙◌, codes}
use Rattle.lean_bytes.specs.Numbers.{AreWords}
use Rattle.disk_slots.specs.Slots.{slot_of}
use Rattle.disk_slots.specs.Pages.{page_slot}
use Rattle.disk_slots.proofs.page.page_bytes.Goals as goal

pub returns-clause-after : goal.returns-clause-after
unfolding page_slot
returns-clause-after c = c.put_slot.ensures.after ∙ ap (slot_of (codes "LEANPAGE")) c.words.ensures.answer.spelled

pub returns-clause-words : goal.returns-clause-words
returns-clause-words c = subst AreWords c.words.ensures.answer.spelled c.put_slot.ensures.words
