-- What opening gives.
use Rattle.std.proofs.Common.{◌≡◌, ℕ, List, [], Option, None, ◌∙◌, ap}
use mathlib.Core.Path.{fun_ext}
use Rattle.core_state.specs.image_model.Entries as logged
use Rattle.core_state.specs.States as model
use Rattle.core_state.specs.Openings as openings

-- a state with the fields of a start
pub record Starts (g : openings.Opening) (s : model.State) : Type 0 where
  pub entries : s.entries ≡ []
  pub page : (p : ℕ) → s.page p ≡ (model.start g).page p
  pub saved : (p : ℕ) → s.saved p ≡ (model.start g).saved p
  pub place : s.place ≡ (model.start g).place
  pub queue : s.queue ≡ []
  pub row : (i : ℕ) → s.row i ≡ (model.start g).row i
  pub worker : (w : ℕ) → s.worker w ≡ (model.start g).worker w
  pub flushed : (w : ℕ) → s.flushed w ≡ g.base
  pub head : (w : ℕ) → s.head w ≡ 0
  pub inside : (w : ℕ) → s.inside w ≡ None

-- is one, where its numbers are those
pub started : (g : openings.Opening) (s : model.State) → Starts g s → record s { floor = g.base; cut = 0; posted = 0; epoch = 0 } ≡ model.start g
started g s h =
    let t : model.State = model.start g in
    let k : model.State = record s { floor = g.base; cut = 0; posted = 0; epoch = 0 } in
    ap (λ (z : List logged.Entry). let u : model.State = record k { entries = z } in u) (h.entries)
    ∙ ap (λ (z : ℕ → logged.Contents). let u : model.State = record k { entries = t.entries; page = z } in u) (fun_ext h.page)
    ∙ ap (λ (z : ℕ → logged.Contents). let u : model.State = record k { entries = t.entries; page = t.page; saved = z } in u) (fun_ext h.saved)
    ∙ ap (λ (z : ℕ → model.Place). let u : model.State = record k { entries = t.entries; page = t.page; saved = t.saved; place = z } in u) (h.place)
    ∙ ap (λ (z : List ℕ). let u : model.State = record k { entries = t.entries; page = t.page; saved = t.saved; place = t.place; queue = z } in u) (h.queue)
    ∙ ap (λ (z : ℕ → model.Row). let u : model.State = record k { entries = t.entries; page = t.page; saved = t.saved; place = t.place; queue = t.queue; row = z } in u) (fun_ext h.row)
    ∙ ap (λ (z : ℕ → model.Worker). let u : model.State = record k { entries = t.entries; page = t.page; saved = t.saved; place = t.place; queue = t.queue; row = t.row; worker = z } in u) (fun_ext h.worker)
    ∙ ap (λ (z : ℕ → ℕ). let u : model.State = record k { entries = t.entries; page = t.page; saved = t.saved; place = t.place; queue = t.queue; row = t.row; worker = t.worker; flushed = z } in u) (fun_ext h.flushed)
    ∙ ap (λ (z : ℕ → ℕ). let u : model.State = record k { entries = t.entries; page = t.page; saved = t.saved; place = t.place; queue = t.queue; row = t.row; worker = t.worker; flushed = t.flushed; head = z } in u) (fun_ext h.head)
    ∙ ap (λ (z : ℕ → Option ℕ). let u : model.State = record k { entries = t.entries; page = t.page; saved = t.saved; place = t.place; queue = t.queue; row = t.row; worker = t.worker; flushed = t.flushed; head = t.head; inside = z } in u) (fun_ext h.inside)
