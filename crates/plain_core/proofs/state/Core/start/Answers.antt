use Rattle.std.proofs.Common.{◌∙◌, ap, refl}
use mathlib.Core.Path.{fun_ext}
use Rattle.map_model.specs.Lists.{upd}
use Rattle.core_state.specs.States as model
use Rattle.plain_core.specs.declared.state.Core.{Core}
use Rattle.plain_core.specs.Tables.{at}
use Rattle.plain_core.specs.Records.{entries_of}
use Rattle.plain_core.specs.States.{opening, place_of, row_of, worker_of, state_of}
use Rattle.plain_core.proofs.Updates.{set_meaning}
use Rattle.plain_core.proofs.Started.{started}
use Rattle.plain_core.proofs.state.Core.start.Goals as goal

pub returns : goal.returns
returns c =
    let core : Core = record { settings = c.args.settings; entries = c.new-2.result; pages = c.args.pages; saved = c.in_ok-saved.saved; places = c.set.new.self; queue = c.new-3.result; rows = c.new-rows.result; workers = c.new-workers.result; flushed = c.new-flushed.result; heads = c.new-heads.result; floor = c.args.settings.base; cut = 0; posted = 0; inside = c.new-inside.result; epoch = 0 } in
    let place = set_meaning place_of (at c.set.new.self) (at c.new-places.result) 0 _ c.in_ok-set.ensures ∙ ap (λ f. upd f 0 (model.Place.Hot 0)) (fun_ext (λ j. ap place_of (c.new-places.ensures j))) in (
      refl,
      λ x h. started (opening c.args.settings x) (state_of core) (record {
        entries = ap entries_of c.new-2.ensures.items;
        page = h;
        saved = λ p. c.in_ok-saved.ensures p ∙ h p;
        place = place;
        queue = c.new-3.ensures.items;
        row = λ i. ap row_of (c.new-rows.ensures i) ∙ c.free.ensures;
        worker = λ i. ap worker_of (c.new-workers.ensures i) ∙ c.new.ensures;
        flushed = c.new-flushed.ensures;
        head = c.new-heads.ensures;
        inside = c.new-inside.ensures;
      }),
    )
