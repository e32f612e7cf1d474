use Rattle.std.proofs.Common.{◌∷◌, sym, ap, ◌∙◌, true≢false}
use Rattle.call_parts.specs.core_calls.Durables.{durables, moments}
use Rattle.engine_front.specs.Turns.{behind_durables}
use Rattle.script_run.proofs.DueLemmas.{answer_failed, answer_open, answer_put}
use Rattle.script_run.proofs.FitLemmas.{open_behind}
use Rattle.script_run.proofs.replies.put_answer.Goals as goal

pub returns-in_default-clause-says : goal.returns-in_default-clause-says
returns-in_default-clause-says g c o xs x run session answers fits =
    let E = g.E.Calls in
    let held = g.K.Sink.held in
    let D = g.D.Disk in
    answer_failed o xs x c.args.session c.args.answer.now session answers fits (E.in_run c.put_reply.new.engine o (x ∷ xs)) (held c.args.sink.now) (held c.put_reply.new.sink) (D.story (E.disk c.args.engine.now)) (D.story (E.disk c.put_reply.new.engine))
    c.told.ensures.lawful (c.in_default.ensures).put (ap (λ e. D.story (E.disk e)) (c.put_reply.ensures.not_noted c.in_default.is)) (c.put_reply.ensures.in_run o (x ∷ xs) (durables o (moments xs)) run)

pub returns-then-not-is_last-clause-says : goal.returns-then-not-is_last-clause-says
returns-then-not-is_last-clause-says g c o xs x run session answers fits =
    let E = g.E.Calls in
    let held = g.K.Sink.held in
    let D = g.D.Disk in
    answer_open o xs x c.args.session c.args.answer.now session answers fits (E.in_run c.put_reply.new.engine o (x ∷ xs)) (held c.args.sink.now) (held c.put_reply.new.sink) (D.story (E.disk c.args.engine.now)) (D.story (E.disk c.put_reply.new.engine))
    c.told.ensures.lawful (sym c.is_last.ensures ∙ c.if-not-is_last.true) (c.in-Done.ensures).put (c.put_reply.ensures.noted c.in-Done.is) (c.put_reply.ensures.in_run o (x ∷ xs) (durables o (moments xs)) run)

pub returns-then-not-is_last-clause-next : goal.returns-then-not-is_last-clause-next
returns-then-not-is_last-clause-next g c none =
    let next = g.E.Calls.next in
    c.put_reply.ensures.same.3 ∙ (c.requires.next ∙ (sym (open_behind c.args.answer.now (sym c.is_last.ensures ∙ c.if-not-is_last.true)) ∙ ap behind_durables (sym c.requires.next)))

pub returns-clause-says : goal.returns-clause-says
returns-clause-says g c o xs x run session answers fits =
    let E = g.E.Calls in
    let held = g.K.Sink.held in
    let D = g.D.Disk in
    let more = c.put_durables.ensures.says o (x ∷ xs) (durables o (moments xs)) (c.put_reply.ensures.in_run o (x ∷ xs) (durables o (moments xs)) run) in
    answer_put o xs x c.args.session c.args.answer.now session answers fits (E.in_run c.put_durables.new.engine o (x ∷ xs)) (held c.args.sink.now) (held c.put_reply.new.sink) (D.story (E.disk c.args.engine.now)) (D.story (E.disk c.put_reply.new.engine))
    c.told.ensures.lawful (sym c.is_last.ensures ∙ c.if-not-is_last.false) c.put_durables.result (held c.put_durables.new.sink) (D.story (E.disk c.put_durables.new.engine)) (c.in-Done.ensures).put (c.put_reply.ensures.noted c.in-Done.is) more.0 more.1

pub returns-clause-pairs : goal.returns-clause-pairs
returns-clause-pairs g c more = absurd (true≢false (sym (sym c.is_last.ensures ∙ c.if-not-is_last.false) ∙ more))
