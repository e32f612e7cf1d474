-- The journal that outcomes tell, beside the core's.
use Rattle.std.proofs.Common.{◌≡◌, ℕ, Bool, true, false, cond, ◌&&◌, ltb, ◌==◌, List, [], ◌∷◌, Option, Some, None, refl, sym, ap, ap₂, ◌∙◌, subst, inl, inr, arith, true≢false}
use Rattle.map_model.proofs.ListLemmas.{has_keep, keep_has}
use Rattle.std.proofs.lemmas.Bool.{cases_eq, eq-eqb, ne_eqb, eqb-true, and_parts, cond-true, cond-false}
use Rattle.map_model.specs.Lists.{Has, keep}
use Rattle.map_model.specs.Maps.{Map, MapCall, MapAnswer, IsLawful, is_point, write_of, writes_key, uses_key}
use Rattle.map_model.specs.Histories.{Step, first_of, write_or, last_write, over}
use Rattle.map_model.specs.Journals.{Txn, Journal, journal_of, after, Gives, Serial, Wrote, Used}
use Rattle.map_model.specs.Laws.{AreApart, EveryOrder}
use Rattle.page_model.specs.Nodes.{Format}
use Rattle.core_crash.specs.image_model.Entries.{Kind, Entry, is_commit, is_write, is_call, same_txn}
use Rattle.core_crash.specs.image_model.Histories as histories
use Rattle.core_crash.specs.image_model.Histories.{said, write_call, steps_of, step_onto}
use Rattle.core_crash.specs.core_state.Openings.{Opening}
use Rattle.core_crash.specs.core_state.Steps.{claims}
use Rattle.core_crash.proofs.core_commit.History.{IsRecorded}
use Rattle.core_calls.specs.Marks.{Mark, Began, Called, Back, Ended}
use Rattle.core_calls.specs.Told.{Pairwise, Covers, SameCall, Same, Absent, Met, IsRead}
use Rattle.core_calls.proofs.PairLemmas.{pair_of, pair_for, covers_of, covers_join, pairs_keep, pairs_join, SameKey, falls_pair, apart_keep, apart_pairs, of_session, apart_from}
use Rattle.core_calls.proofs.EntryLemmas.{call_mark, call_marks, Deal, deal_of, deals_of, commit_record}
use Rattle.core_calls.proofs.MarkLemmas.{is_by}
use Rattle.core_calls.proofs.TranscriptLemmas.{Shows, Plain, Missed, Paired, IsSeen, IsDeal}
use mathlib.Core.Path.{fun_ext}

-- ## What the core's journal says of its entries

-- u's session held the key's row alone, as a call of its transaction
pub record Claim (h : List Entry) (k w n : ℕ) : Type 0 where
  pub entry : Entry
  pub has : Has entry h
  pub claims : claims entry ≡ true
  pub of_key : entry.key ≡ k
  pub session : entry.log ≡ w
  pub number : entry.txn ≡ n

-- a call for which its key's row was held alone
abbrev pub claim_key : Mark → ℕ → Bool
claim_key (Called (MapCall.Get j) a alone) k = alone && (j == k)
claim_key (Called (MapCall.Put j v) a alone) k = j == k
claim_key (Called (MapCall.Del j) a alone) k = j == k
claim_key _ k = false

-- the mark of a step of the core's journal
pub data IsCall (x : Step) (m : Mark) : Type 0 where
  Live : (alone : Bool) → m ≡ Called x.call x.answer alone → IsCall x m
  Undone : m ≡ Back x.call x.answer → IsCall x m

pub record IsCore (h : List Entry) (u : Txn) (d : Deal) : Type 0 where
  pub session : u.session ≡ d.session
  pub number : u.number ≡ d.number
  pub at : u.at ≡ d.at
  pub calls : Pairwise IsCall u.calls d.marks
  pub claims : (m : Mark) (k : ℕ) → Has m d.marks → claim_key m k ≡ true → Claim h k d.session d.number

steps_marks : (f : Format) (h : List Entry) → Pairwise IsCall (steps_of f h) (call_marks f h)
steps_marks f [] = tt
steps_marks f (r ∷ h) = go (steps_marks f h) r.kind
  where
    go : Pairwise IsCall (steps_of f h) (call_marks f h) → (K : Kind) → Pairwise IsCall (step_onto f K r (steps_of f h)) (Rattle.core_calls.specs.Marks.onto (call_mark f K r) (call_marks f h))
    go ih Kind.Change = (ih, Live true refl)
    go ih Kind.Put_back = (ih, Undone refl)
    go ih Kind.Read = (ih, Live (r.need == 1) refl)
    go ih Kind.Split = ih
    go ih Kind.Lift = ih
    go ih Kind.Join = ih
    go ih Kind.Drop = ih
    go ih Kind.Purge = ih
    go ih Kind.Commit = ih
    go ih Kind.Abort = ih

-- the entry of a claim
claimed : (f : Format) (h : List Entry) (m : Mark) (k : ℕ) → Has m (call_marks f h) → claim_key m k ≡ true → (r : Entry) × Has r h × (claims r ≡ true) × (r.key ≡ k)
claimed f [] m k i c = absurd i
claimed f (r ∷ h) m k i c = go (claimed f h m k) r.kind refl i
  where
    later : ((x : Entry) × Has x h × (claims x ≡ true) × (x.key ≡ k)) → (x : Entry) × Has x (r ∷ h) × (claims x ≡ true) × (x.key ≡ k)
    later q = (q.0, inr q.1, q.2, q.3)

    written : (b : Bool) → claim_key (Called (cond b (MapCall.Put r.key r.after) (MapCall.Del r.key)) (MapAnswer.Was (said f r.before)) true) k ≡ true → r.key ≡ k
    written true q = eqb-true r.key k q
    written false q = eqb-true r.key k q

    go : (Has m (call_marks f h) → claim_key m k ≡ true → (x : Entry) × Has x h × (claims x ≡ true) × (x.key ≡ k)) → (K : Kind) → r.kind ≡ K → Has m (Rattle.core_calls.specs.Marks.onto (call_mark f K r) (call_marks f h)) → (x : Entry) × Has x (r ∷ h) × (claims x ≡ true) × (x.key ≡ k)
    go ih Kind.Change e (inl q) = (r, inl refl, ap (λ (K : Kind). Rattle.std.specs.Prelude.◌||◌ (is_write K) (is_call K && (r.need == 1))) e, written (ltb r.after f.dead) (ap (λ (x : Mark). claim_key x k) (sym q) ∙ c))
    go ih Kind.Put_back e (inl q) = absurd (true≢false (sym c ∙ ap (λ (x : Mark). claim_key x k) q))
    go ih Kind.Read e (inl q) =
        let p = and_parts (r.need == 1) (r.key == k) (ap (λ (x : Mark). claim_key x k) (sym q) ∙ c) in
        (r, inl refl, ap (λ (K : Kind). Rattle.std.specs.Prelude.◌||◌ (is_write K) (is_call K && (r.need == 1))) e ∙ p.0, eqb-true r.key k p.1)
    go ih Kind.Change e (inr j) = later (ih j c)
    go ih Kind.Put_back e (inr j) = later (ih j c)
    go ih Kind.Read e (inr j) = later (ih j c)
    go ih Kind.Split e j = later (ih j c)
    go ih Kind.Lift e j = later (ih j c)
    go ih Kind.Join e j = later (ih j c)
    go ih Kind.Drop e j = later (ih j c)
    go ih Kind.Purge e j = later (ih j c)
    go ih Kind.Commit e j = later (ih j c)
    go ih Kind.Abort e j = later (ih j c)

core_deals : (f : Format) (all h : List Entry) → ((r : Entry) → Has r h → Has r all) → Pairwise (IsCore all) (histories.committed f h) (deals_of f h)
core_deals f all [] sub = tt
core_deals f all (e ∷ h) sub = go (core_deals f all h (λ r i. sub r (inr i))) (is_commit e.kind)
  where
    here : IsCore all (histories.txn_of f e h) (deal_of f e h)
    here = record {
      session = refl;
      number = refl;
      at = refl;
      calls = steps_marks f (keep (λ r. same_txn r e) h);
      claims = λ m k i c.
          let q = claimed f (keep (λ r. same_txn r e) h) m k i c in
          let z = keep_has (λ r. same_txn r e) h q.0 q.1 in
          let y = and_parts (q.0.log == e.log) (q.0.txn == e.txn) z.1 in
          record { entry = q.0; has = sub q.0 (inr z.0); claims = q.2; of_key = q.3; session = eqb-true q.0.log e.log y.0; number = eqb-true q.0.txn e.txn y.1 };
    }

    go : Pairwise (IsCore all) (histories.committed f h) (deals_of f h) → (b : Bool) → Pairwise (IsCore all) (cond b (histories.txn_of f e h ∷ histories.committed f h) (histories.committed f h)) (cond b (deal_of f e h ∷ deals_of f h) (deals_of f h))
    go ih true = (ih, here)
    go ih false = ih

-- no two have a number and a session in common
ended_at : (f : Format) (h : List Entry) (u : Txn) → Has u (histories.committed f h) → (e : Entry) × Has e h × (u.at ≡ e.number) × (u.session ≡ e.log)
ended_at f [] u i = absurd i
ended_at f (e ∷ h) u i = go (ended_at f h u) (is_commit e.kind) i
  where
    go : (Has u (histories.committed f h) → (x : Entry) × Has x h × (u.at ≡ x.number) × (u.session ≡ x.log)) → (b : Bool) → Has u (cond b (histories.txn_of f e h ∷ histories.committed f h) (histories.committed f h)) → (x : Entry) × Has x (e ∷ h) × (u.at ≡ x.number) × (u.session ≡ x.log)
    go ih true (inl q) = (e, inl refl, ap (λ (t : Txn). t.at) q, ap (λ (t : Txn). t.session) q)
    go ih true (inr j) = let z = ih j in (z.0, inr z.1, z.2, z.3)
    go ih false j = let z = ih j in (z.0, inr z.1, z.2, z.3)

pub core_apart : (g : Opening) (F : ℕ) (f : Format) (h : List Entry) → IsRecorded g F h → AreApart (histories.committed f h)
core_apart g F f [] hist = tt
core_apart g F f (e ∷ h) hist = go (core_apart g F f h hist.1) (is_commit e.kind) refl
  where
    go : AreApart (histories.committed f h) → (b : Bool) → is_commit e.kind ≡ b → AreApart (cond b (histories.txn_of f e h ∷ histories.committed f h) (histories.committed f h))
    go ih true k = (
      ih,
      λ u i q.
          let z = ended_at f h u i in
          let l = hist.0.later (commit_record e.kind k) z.0 z.1 (sym z.3 ∙ q.1) in
          let a = z.2 in let b = q.0 in absurd (omega arith),
    )
    go ih false k = ih

-- ## A transaction as it is told, and as the core has it

pub record Ties (h : List Entry) (t u : Txn) : Type 0 where
  pub session : t.session ≡ u.session
  pub number : t.number ≡ u.number
  pub at : t.at ≡ u.at
  pub calls : Covers SameCall IsRead t.calls u.calls
  pub claims : (k : ℕ) → Wrote t k → Claim h k u.session u.number

pub ties_key : (h : List Entry) (t u : Txn) → Ties h t u → SameKey t u
ties_key h t u c = record { session = c.session; at = c.at }

abbrev call_in : Mark → MapCall → MapCall
call_in (Called c a alone) d = c
call_in (Back c a) d = c
call_in _ d = d

abbrev answer_in : Mark → MapAnswer → MapAnswer
answer_in (Called c a alone) d = a
answer_in (Back c a) d = a
answer_in _ d = d

abbrev is_back : Mark → Bool
is_back (Back c a) = true
is_back _ = false

-- one call
call_same : (x y : Step) (m : Mark) → Shows x m → IsCall y m → SameCall x y
call_same x y m (Plain alone e) (Live b q) = Same (ap (λ (z : Mark). call_in z x.call) (sym e ∙ q)) (ap (λ (z : Mark). answer_in z x.answer) (sym e ∙ q))
call_same x y m (Missed k c a e) (Live b q) = Absent k c a (sym (ap (λ (z : Mark). call_in z x.call) (sym e ∙ q))) (sym (ap (λ (z : Mark). answer_in z x.answer) (sym e ∙ q)))
call_same x y m (Paired k v alone c a e) (Live b q) = Met k v c a (sym (ap (λ (z : Mark). call_in z x.call) (sym e ∙ q))) (sym (ap (λ (z : Mark). answer_in z x.answer) (sym e ∙ q)))
call_same x y m (Plain alone e) (Undone q) = absurd (true≢false (sym (ap is_back (sym e ∙ q))))
call_same x y m (Missed k c a e) (Undone q) = absurd (true≢false (sym (ap is_back (sym e ∙ q))))
call_same x y m (Paired k v alone c a e) (Undone q) = absurd (true≢false (sym (ap is_back (sym e ∙ q))))

-- a read that nobody was told
read_is : (y : Step) (m : Mark) → IsSeen m → IsCall y m → IsRead y
read_is y m (x, e) (Live b q) = (x.key, sym (ap (λ (z : Mark). call_in z y.call) (sym e ∙ q)))
read_is y m (x, e) (Undone q) = absurd (true≢false (sym (ap is_back (sym e ∙ q))))

-- a write claims
write_claims : (c : MapCall) (a : MapAnswer) (alone : Bool) (k : ℕ) → writes_key c k ≡ true → claim_key (Called c a alone) k ≡ true
write_claims (MapCall.Get j) a alone k w = absurd (true≢false (sym w))
write_claims (MapCall.Put j v) a alone k w = w
write_claims (MapCall.Del j) a alone k w = w
write_claims (MapCall.Next j) a alone k w = absurd (true≢false (sym w))

shown_claims : (x : Step) (m : Mark) (k : ℕ) → Shows x m → writes_key x.call k ≡ true → claim_key m k ≡ true
shown_claims x m k (Plain alone e) w = ap (λ (z : Mark). claim_key z k) e ∙ write_claims x.call x.answer alone k w
shown_claims x m k (Missed j c a e) w = ap (λ (z : Mark). claim_key z k) e ∙ (ap (λ (z : MapCall). writes_key z k) (sym c) ∙ w)
shown_claims x m k (Paired j v alone c a e) w = absurd (true≢false (sym w ∙ ap (λ (z : MapCall). writes_key z k) c))

tie : (h : List Entry) (t u : Txn) (d : Deal) → IsDeal t d → IsCore h u d → Ties h t u
tie h t u d a b = record {
  session = a.session ∙ sym b.session;
  number = a.number ∙ sym b.number;
  at = a.at ∙ sym b.at;
  calls = covers_join Shows IsSeen IsCall SameCall IsRead call_same read_is t.calls u.calls d.marks a.calls b.calls;
  claims = λ k w.
      let p = covers_of Shows IsSeen t.calls d.marks a.calls w.step w.has in
      let c = b.claims p.0 k p.1 (shown_claims w.step p.0 k p.2 w.writes) in
      record { entry = c.entry; has = c.has; claims = c.claims; of_key = c.of_key; session = c.session ∙ sym b.session; number = c.number ∙ sym b.number };
}

-- Where each session's transactions are those of the entries, the two journals are tied pair by pair.
module _ (order : EveryOrder) (g : Opening) (F : ℕ) (h : List Entry) (hist : IsRecorded g F h) (ts : List Txn)
    (each : (w : ℕ) → Pairwise IsDeal (keep (of_session w) ts) (keep (is_by w) (deals_of g.format h))) where
  abbrev us : List Txn
  us = histories.committed g.format h

  core : (w : ℕ) → Pairwise (IsCore h) (keep (of_session w) us) (keep (is_by w) (deals_of g.format h))
  core w = pairs_keep (IsCore h) (of_session w) (is_by w) (λ u d c. ap (λ (n : ℕ). n == w) c.session) us (deals_of g.format h) (core_deals g.format h h (λ r i. i))

  tied_by : (w : ℕ) → Pairwise (Ties h) (keep (of_session w) ts) (keep (of_session w) us)
  tied_by w = pairs_join IsDeal (IsCore h) (Ties h) (tie h) (keep (of_session w) ts) (keep (of_session w) us) (keep (is_by w) (deals_of g.format h)) (each w) (core w)

  us_apart : AreApart us
  us_apart = core_apart g F g.format h hist

  pub ts_apart : AreApart ts
  ts_apart = apart_from ts (λ w. apart_pairs (Ties h) (ties_key h) (keep (of_session w) ts) (keep (of_session w) us) (tied_by w) (apart_keep (of_session w) us us_apart))

  pub tied : Pairwise (Ties h) (journal_of ts) (journal_of us)
  tied = falls_pair (Ties h) (ties_key h) (journal_of ts) (journal_of us) (order ts ts_apart).falls (order us us_apart).falls to_core to_told
    where
      to_core : (t : Txn) → Has t (journal_of ts) → (u : Txn) × Has u (journal_of us) × Ties h t u
      to_core t i =
          let p = pair_of (Ties h) (keep (of_session t.session) ts) (keep (of_session t.session) us) (tied_by t.session) t (has_keep (of_session t.session) ts t ((order ts ts_apart).only t i) (eq-eqb t.session t.session refl)) in
          (p.0, (order us us_apart).has p.0 (keep_has (of_session t.session) us p.0 p.1).0, p.2)

      to_told : (u : Txn) → Has u (journal_of us) → (t : Txn) × Has t (journal_of ts) × Ties h t u
      to_told u i =
          let p = pair_for (Ties h) (keep (of_session u.session) ts) (keep (of_session u.session) us) (tied_by u.session) u (has_keep (of_session u.session) us u ((order us us_apart).only u i) (eq-eqb u.session u.session refl)) in
          (p.0, (order ts ts_apart).has p.0 (keep_has (of_session u.session) ts p.0 p.1).0, p.2)

-- ## The same answers and the same map

-- a map after a call
abbrev pub put_on : MapCall → Map → Map
put_on c n k = write_or (write_of c k) (n k)

over_more : (m : Map) (x : Step) (l : List Step) → over m (last_write (x ∷ l)) ≡ put_on x.call (over m (last_write l))
over_more m x l = fun_ext (λ k. go (write_of x.call k) (last_write l k) (m k))
  where
    go : (a b : Option (Option ℕ)) (v : Option ℕ) → write_or (first_of a b) v ≡ write_or a (write_or b v)
    go (Some w) b v = refl
    go None b v = refl

-- who finds a key absent deletes nothing
absent_same : (n : Map) (k : ℕ) → n k ≡ None → put_on (MapCall.Del k) n ≡ put_on (MapCall.Get k) n
absent_same n k e = fun_ext (λ j. elim (cases_eq k j) [
  | inl q ↦ ap (λ (w : Option (Option ℕ)). write_or w (n j)) (cond-true (k == j) (Some None) None (eq-eqb k j q)) ∙ (sym e ∙ ap n q)
  | inr q ↦ ap (λ (w : Option (Option ℕ)). write_or w (n j)) (cond-false (k == j) (Some None) None (ne_eqb k j q))
])

abbrev value_or : MapAnswer → Option ℕ
value_or (MapAnswer.Value v) = v
value_or _ = None

pub record SameCalls (m : Map) (xs ys : List Step) : Type 0 where
  pub map : over m (last_write xs) ≡ over m (last_write ys)
  pub gives : Gives m xs

-- a read changes nothing
skipped : (m : Map) (xs ys : List Step) (y : Step) → IsRead y → SameCalls m xs ys → SameCalls m xs (y ∷ ys)
skipped m xs ys y r ih = record { map = ih.map ∙ sym (over_more m y ys ∙ ap (λ (z : MapCall). put_on z (over m (last_write ys))) r.1); gives = ih.gives }

calls_same : (m : Map) (xs ys : List Step) → Covers SameCall IsRead xs ys → Gives m ys → SameCalls m xs ys
calls_same m [] [] p q = record { map = refl; gives = tt }
calls_same m [] (y ∷ ys) p q = skipped m [] ys y p.1 (calls_same m [] ys p.0 q.0)
calls_same m (x ∷ xs) [] p q = absurd p
calls_same m (x ∷ xs) (y ∷ ys) p q = which (λ c. calls_same m xs ys c q.0) (λ c. calls_same m (x ∷ xs) ys c q.0) p
  where
    N : Map
    N = over m (last_write ys)

    lawful : SameCalls m xs ys → (is_point x.call ≡ true → IsLawful N x.call x.answer) → Gives m (x ∷ xs)
    lawful ih l = (ih.gives, λ c. subst (λ (n : Map). IsLawful n x.call x.answer) (sym ih.map) (l c))

    maps : SameCalls m xs ys → put_on x.call N ≡ put_on y.call N → over m (last_write (x ∷ xs)) ≡ over m (last_write (y ∷ ys))
    maps ih e = over_more m x xs ∙ (ap (put_on x.call) ih.map ∙ (e ∙ sym (over_more m y ys)))

    go : SameCalls m xs ys → SameCall x y → SameCalls m (x ∷ xs) (y ∷ ys)
    go ih (Same c a) = record {
      map = maps ih (ap (λ (z : MapCall). put_on z N) c);
      gives = lawful ih (λ t. subst (λ (z : MapCall). IsLawful N z x.answer) (sym c) (subst (λ (z : MapAnswer). IsLawful N y.call z) (sym a) (q.1 (ap is_point (sym c) ∙ t))));
    }
    go ih (Absent k c a d b) = record {
      map = maps ih (ap (λ (z : MapCall). put_on z N) c ∙ (absent_same N k none ∙ ap (λ (z : MapCall). put_on z N) (sym d)));
      gives = lawful ih (λ t. subst (λ (z : MapCall). IsLawful N z x.answer) (sym c) (a ∙ ap (λ (v : Option ℕ). MapAnswer.Was v) (sym none)));
    }
      where
        none : N k ≡ None
        none = sym (ap value_or (sym b ∙ subst (λ (z : MapCall). IsLawful N z y.answer) d (q.1 (ap is_point d))))
    go ih (Met k v c a d b) = record {
      map = maps ih (ap (λ (z : MapCall). put_on z N) c ∙ ap (λ (z : MapCall). put_on z N) (sym d));
      gives = lawful ih (λ t. absurd (true≢false (sym t ∙ ap is_point c)));
    }

    which : (Covers SameCall IsRead xs ys → SameCalls m xs ys) → (Covers SameCall IsRead (x ∷ xs) ys → SameCalls m (x ∷ xs) ys) → Covers SameCall IsRead (x ∷ xs) (y ∷ ys) → SameCalls m (x ∷ xs) (y ∷ ys)
    which f h (inl c) = go (f c.0) c.1
    which f h (inr c) = skipped m (x ∷ xs) ys y c.1 (h c.0)

pub record SameRun (m : Map) (ts us : Journal) : Type 0 where
  pub map : after m ts ≡ after m us
  pub serial : Serial m ts

pub run_same : (h : List Entry) (m : Map) (ts vs : Journal) → Pairwise (Ties h) ts vs → Serial m vs → SameRun m ts vs
run_same h m [] [] p q = record { map = refl; serial = tt }
run_same h m [] (u ∷ vs) p q = absurd p
run_same h m (t ∷ ts) [] p q = absurd p
run_same h m (t ∷ ts) (u ∷ vs) p q = go (run_same h m ts vs p.0 q.0) (calls_same (after m vs) t.calls u.calls p.1.calls q.1)
  where
    go : SameRun m ts vs → SameCalls (after m vs) t.calls u.calls → SameRun m (t ∷ ts) (u ∷ vs)
    go ih one = record {
      map = ap (λ (n : Map). over n (last_write t.calls)) ih.map ∙ one.map;
      serial = (ih.serial, subst (λ (n : Map). Gives n t.calls) (sym ih.map) one.gives);
    }

-- a use of a key
call_uses : (x y : Step) (k : ℕ) → SameCall x y → uses_key x.call x.answer k ≡ true → uses_key y.call y.answer k ≡ true
call_uses x y k (Same c a) u = sym (ap₂ (λ (d : MapCall) (b : MapAnswer). uses_key d b k) c a) ∙ u
call_uses x y k (Absent j c a d b) u = ap₂ (λ (z : MapCall) (o : MapAnswer). uses_key z o k) d b ∙ (sym (ap₂ (λ (z : MapCall) (o : MapAnswer). uses_key z o k) c a) ∙ u)
call_uses x y k (Met j v c a d b) u = ap₂ (λ (z : MapCall) (o : MapAnswer). uses_key z o k) d b ∙ (sym (ap₂ (λ (z : MapCall) (o : MapAnswer). uses_key z o k) c a) ∙ u)

pub used_same : (h : List Entry) (t u : Txn) (k : ℕ) → Ties h t u → Used t k → Used u k
used_same h t u k c w = let p = covers_of SameCall IsRead t.calls u.calls c.calls w.step w.has in record { step = p.0; has = p.1; uses = call_uses w.step p.0 k p.2 w.uses }
