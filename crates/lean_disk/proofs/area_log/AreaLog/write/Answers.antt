use Rattle.std.proofs.Common.{◌≡◌, ◌∙◌, ◌++◌, ◌∷◌, [], refl, sym, ap, ℕ, List, true, false}
use Rattle.lean_disk.specs.Area.{Area, fresh, put_over}
use Rattle.lean_disk.specs.declared.area_log.What.TheVariants.{Wrote}
use Rattle.lean_disk.specs.Inside.Lists.{kept_push, replay_push}
use Rattle.lean_disk.specs.Inside.Newest.{ordered_if}
use Rattle.lean_disk.specs.Replay.{replay}
use Rattle.lean_disk.specs.declared.area_log.Call.{Call}
use Rattle.lean_disk.proofs.area_log.AreaLog.write.Goals as goal

pub invariant_of-self-2 : goal.invariant_of-self-2
invariant_of-self-2 c =
    let log = c.args.self.now in
    let call : Call = record { number = c.args.number; notes = c.args.notes; what = Wrote c.args.at c.in_ok-copy.copy false } in
    let more : c.push_reserved-2.new.self.items ≡ log.calls.items ++ call ∷ [] = c.push_reserved-2.ensures.items ∙ ap (λ (l : List Call). l ++ call ∷ []) c.reserve.ensures.items in
    record {
      kept = kept_push (fresh log.first.items) log.calls.items c.push_reserved-2.new.self.items call log.bytes.items true more (λ y. refl) log.kept;
      ordered = ordered_if log.calls.items c.push_reserved-2.new.self.items call true more c.requires log.ordered;
    }

pub invariant_of-self-then-done : goal.invariant_of-self-then-done
invariant_of-self-then-done c =
    let log = c.args.self.now in
    let x : Area = fresh log.first.items in
    let call : Call = record { number = c.args.number; notes = c.args.notes; what = Wrote c.args.at c.in_ok-copy.copy true } in
    let more : c.push_reserved.new.self.items ≡ log.calls.items ++ call ∷ [] = c.push_reserved.ensures.items ∙ ap (λ (l : List Call). l ++ call ∷ []) c.reserve.ensures.items in
    record {
      kept = ap (λ (cs : List Call). (replay x cs).bytes) more
          ∙ ap (λ (y : Area). y.bytes) (replay_push x log.calls.items call)
          ∙ ap (λ (b : List ℕ). put_over c.args.at b (replay x log.calls.items).bytes) (c.in_ok-copy.ensures.items_if_clones_equal (λ x y e. e))
          ∙ ap (λ (b : List ℕ). put_over c.args.at c.args.bytes.now b) log.kept
          ∙ sym c.in_ok-overwrite.ensures.after;
      ordered = ordered_if log.calls.items c.push_reserved.new.self.items call true more c.requires log.ordered;
    }
