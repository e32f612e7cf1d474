use Rattle.std.proofs.Common.{length, ap, arith}
use Rattle.page_provider.specs.Providers.{Provider}
use Rattle.page_provider.proofs.pager.Pager.full.Goals as goal

pub overflow_cast-cooling : goal.overflow_cast-cooling
overflow_cast-cooling c =
    let a = c.len-cooling.ensures.answer in
    let b = ap (λ (p : Provider). length p.queue) c.self.view_is in
    let d = ap (λ (p : Provider). p.frames) c.self.view_is in
    let e = c.frames-frames.ensures in
    let few = c.requires.frames in
    let fits = c.frames-frames.type_inv in
    omega arith
