use Rattle.std.proofs.Common.{◌∙◌, ap, sym}
use Rattle.plain_core.specs.declared.state.Worker.{Worker}
use Rattle.plain_core.specs.Inside.{newest_of}
use Rattle.plain_core.specs.Records.{entries_of}
use Rattle.plain_core.specs.States.{opening, state_of}
use Rattle.plain_core.proofs.Runs.{becomes, put_back_is}
use Rattle.plain_core.proofs.state.Core.put_back.Goals as goal

pub returns-in_ok-put_word_back-in-Some : goal.returns-in_ok-put_word_back-in-Some
returns-in_ok-put_word_back-in-Some c =
    let e = ap entries_of c.deref.ensures.value ∙ ap (λ (a : Worker). entries_of a.changes.items) c.get.ensures in
    let h = ap newest_of (sym e) ∙ (sym c.newest-newest.ensures ∙ c.in-Some.is) in
    λ x. becomes c.args.self.now c.put_word_back.new.self _ _ (c.in_ok-put_word_back-in-Some.ensures x) (put_back_is (opening c.args.self.now.settings x) (state_of c.args.self.now) c.args.worker c.args.page _ _ h)
