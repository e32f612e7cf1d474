use Rattle.std.proofs.Common.{◌≡◌, ◌<◌, ◌≤◌, Bool, true, false, List, [], ◌∷◌, suc, ℕ, refl, sym, ap, ◌∙◌, arith}
use Rattle.std.specs.Prelude.{if◌then◌else◌}
use Rattle.free_pages.specs.Pages.{IsEmpty, count}
use Rattle.page_provider.specs.Providers.{Provider}
use Rattle.page_provider.proofs.pager.Pager.page_for.Goals as goal

-- an empty set has none
none_in : (marks : List Bool) → IsEmpty marks → count marks ≡ 0
none_in [] h = refl
none_in (mark ∷ marks) h = go mark (h 0) (none_in marks (λ q. h (suc q)))
  where
    go : (b : Bool) → b ≡ false → count marks ≡ 0 → (if b then suc (count marks) else count marks) ≡ 0
    go true e rest = absurd (Rattle.std.proofs.Common.true≢false e)
    go false e rest = rest

pub returns-in_default-clause-cause : goal.returns-in_default-clause-cause
returns-in_default-clause-cause c =
    let none = none_in c.self.inside.free c.in_default.ensures in
    let some = c.if-len-wanted.false in
    let is = c.len.ensures in
    let same = ap (λ (k : Provider). count k.free) c.self.view_is in
    (ap (λ (k : Provider). k.broken) (sym c.self.view_is) ∙ c.if-self.false, omega arith)
