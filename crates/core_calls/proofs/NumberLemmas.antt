-- The number of a commit is that of its transaction.
use Rattle.std.proofs.Common.{◌≡◌, Bool, true, false, cond, List, [], ◌∷◌, inl, inr, refl, sym, ap, ◌∙◌}
use Rattle.map_model.specs.Lists.{Has}
use Rattle.map_model.specs.Journals.{Txn, is_earlier}
use Rattle.map_model.proofs.ListLemmas.{order_has}
use Rattle.page_model.specs.Nodes.{Format}
use Rattle.core_crash.specs.image_model.Entries.{Entry, is_commit}
use Rattle.core_crash.specs.image_model.Histories.{committed, txn_of}
use Rattle.core_crash.specs.core_state.Openings.{Opening}
use Rattle.core_crash.specs.core_state.States.{flushed_by_all}
use Rattle.core_crash.specs.core_state.Events.{Event}
use Rattle.core_crash.specs.core_state.Steps.{state_after}
use Rattle.core_crash.specs.Crashes.{journal_in}
use Rattle.core_crash.proofs.Ends.{one_end}
use Rattle.core_crash.proofs.Journal.{commit_is_end}
use Rattle.core_calls.proofs.DurableLemmas.{recorded_of}

-- the commit of a transaction
record Commits (h : List Entry) (u : Txn) : Type 0 where
  end : Entry
  has : Has end h
  commit : is_commit end.kind ≡ true
  session : u.session ≡ end.log
  number : u.number ≡ end.txn
  at : u.at ≡ end.number

commits_of : (f : Format) (h : List Entry) (u : Txn) → Has u (committed f h) → Commits h u
commits_of f [] u i = absurd i
commits_of f (e ∷ h) u i = go (commits_of f h u) (is_commit e.kind) refl i
  where
    more : Commits h u → Commits (e ∷ h) u
    more c = record { end = c.end; has = inr c.has; commit = c.commit; session = c.session; number = c.number; at = c.at }

    go : (Has u (committed f h) → Commits h u) → (b : Bool) → is_commit e.kind ≡ b → Has u (cond b (txn_of f e h ∷ committed f h) (committed f h)) → Commits (e ∷ h) u
    go ih true k (inl q) = record { end = e; has = inl refl; commit = k; session = ap (λ (t : Txn). t.session) q; number = ap (λ (t : Txn). t.number) q; at = ap (λ (t : Txn). t.at) q }
    go ih true k (inr j) = more (ih j)
    go ih false k j = more (ih j)

-- each commit of that name is this one, since a transaction ends once
pub number_of : (g : Opening) (es : List Event) (u : Txn) → Has u (journal_in g (state_after g es)) → (r : Entry) → Has r (state_after g es).entries → is_commit r.kind ≡ true
    → u.session ≡ r.log → u.number ≡ r.txn → u.at ≡ r.number
number_of g es u i r here commit session number =
    let c = commits_of g.format (state_after g es).entries u (order_has is_earlier (committed g.format (state_after g es).entries) u i) in
    let same = one_end g (flushed_by_all g (state_after g es)) (state_after g es).entries (recorded_of g es) c.end r c.has here (commit_is_end c.end.kind c.commit) (commit_is_end r.kind commit)
    (sym c.session ∙ session, sym c.number ∙ number) in
    c.at ∙ ap (λ (x : Entry). x.number) same
