-- Durable lines stand in the order of commits.
use Rattle.std.proofs.Common.{◌≡◌, ◌<◌, Bool, true, false, cond, List, [], ◌∷◌, map, refl, sym, ap, ◌∙◌, subst, inl, inr, arith, true≢false}
use Rattle.core_calls.proofs.EntryLemmas.{commit_record}
use Rattle.map_model.proofs.ListLemmas.{keep_has}
use Rattle.map_model.specs.Lists.{Has, keep, insert_by, in_order}
use Rattle.map_model.specs.Journals.{Txn, is_earlier, journal_of}
use Rattle.map_model.specs.Laws.{IsFalling, AreApart, EveryOrder}
use Rattle.core_crash.specs.image_model.Entries.{Entry, is_commit, earlier}
use Rattle.core_crash.specs.core_state.Openings.{Opening}
use Rattle.core_crash.specs.core_state.States.{start, flushed_by_all}
use Rattle.core_crash.specs.core_state.Steps.{run}
use Rattle.core_crash.proofs.core_commit.History.{IsRecorded}
use Rattle.core_calls.specs.Durables.{is_ripe, is_told, place_of, EveryDue}
use Rattle.core_calls.proofs.DurableLemmas.{recorded_of, passes, ripe_to}

insert_as : (x : Entry) (ys : List Entry) → map place_of (insert_by earlier x ys) ≡ insert_by is_earlier (place_of x) (map place_of ys)
insert_as x [] = refl
insert_as x (y ∷ ys) = go (insert_as x ys) (earlier x y)
  where
    go : map place_of (insert_by earlier x ys) ≡ insert_by is_earlier (place_of x) (map place_of ys) → (b : Bool) →
        map place_of (cond b (y ∷ insert_by earlier x ys) (x ∷ y ∷ ys)) ≡ cond b (place_of y ∷ insert_by is_earlier (place_of x) (map place_of ys)) (place_of x ∷ place_of y ∷ map place_of ys)
    go ih true = ap (λ (l : List Txn). place_of y ∷ l) ih
    go ih false = refl

order_as : (xs : List Entry) → map place_of (in_order earlier xs) ≡ journal_of (map place_of xs)
order_as [] = refl
order_as (x ∷ xs) = insert_as x (in_order earlier xs) ∙ ap (insert_by is_earlier (place_of x)) (order_as xs)

mapped : (xs : List Entry) (t : Txn) → Has t (map place_of xs) → (e : Entry) × Has e xs × (t ≡ place_of e)
mapped [] t i = absurd i
mapped (x ∷ xs) t (inl q) = (x, inl refl, q)
mapped (x ∷ xs) t (inr i) = let r = mapped xs t i in (r.0, inr r.1, r.2)

apart : (g : Opening) (p : Entry → Bool) (h : List Entry) → ((e : Entry) → p e ≡ true → is_commit e.kind ≡ true) → (F : Rattle.std.proofs.Common.ℕ) → IsRecorded g F h → AreApart (map place_of (keep p h))
apart g p [] c F hist = tt
apart g p (e ∷ h) c F hist = go (apart g p h c F hist.1) (p e) refl
  where
    go : AreApart (map place_of (keep p h)) → (b : Bool) → p e ≡ b → AreApart (map place_of (cond b (e ∷ keep p h) (keep p h)))
    go ih false q = ih
    go ih true q = (
      ih,
      λ u i same.
          let a = mapped (keep p h) u i in
          let k = keep_has p h a.0 a.1 in
          let l = hist.0.later (commit_record e.kind (c e q)) a.0 k.0 (sym (ap (λ (t : Txn). t.session) a.2) ∙ same.1) in
          let n = ap (λ (t : Txn). t.at) a.2 in let m = same.0 in absurd (omega arith),
    )

pub every_due : EveryOrder → EveryDue
every_due order g es told = subst IsFalling (sym (order_as (keep (passes g (run g (start g) es) told) (run g (start g) es).entries)))
    (order (map place_of (keep (passes g (run g (start g) es) told) (run g (start g) es).entries))
    (apart g (passes g (run g (start g) es) told) (run g (start g) es).entries
    (λ e q. (ripe_to g (run g (start g) es) e (Rattle.std.proofs.lemmas.Bool.and_parts (is_ripe g (run g (start g) es) e) (Rattle.std.specs.Prelude.not (is_told told e)) q).0).commit)
    (flushed_by_all g (run g (start g) es)) (recorded_of g es))).falls
