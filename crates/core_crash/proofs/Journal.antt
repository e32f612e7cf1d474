-- The values that last are those after the kept transactions, and the kept are closed.
use Rattle.std.proofs.Common.{◌≡◌, ℕ, ◌≤◌, Bool, true, false, cond, ◌&&◌, if◌then◌else◌, not, leb, ◌==◌, List, [], ◌∷◌, ◌⊎◌, refl, sym, ap, ◌∙◌, subst, inl, inr, arith, true≢false}
use Rattle.std.proofs.lemmas.Bool.{cases_Bool, cases_eq, eq-eqb, ne_eqb, and_parts, and_from, leb-true, le-leb, and_left, and_right, cond-true, cond-false, false_from_ne_true, not_from_false, not-true}
use Rattle.map_model.specs.Lists.{upd, keep, any, Has}
use Rattle.core_paging.specs.image_model.Entries.{Entry, Kind, is_write, is_end, is_commit, same_txn}
use Rattle.core_paging.specs.core_state.Openings.{first, Opening}
use Rattle.core_crash.proofs.Words.{found, Done, calls_of, committed, write_all, after, wins}
use Rattle.core_paging.proofs.core_commit.KindFacts.{write_claims, write_is_call, write_is_record, write_is_no_end}
use Rattle.core_paging.specs.image_model.Entries.Kind.{Change, Put_back, Split, Lift, Join, Drop, Purge, Read, Commit, Abort}
use Rattle.core_paging.proofs.core_commit.Lists.{Before, has_before, before_has, behind_has, each_at, pick, Newest, NoneOf, newest, newest_before, newest_holds, newest_first, newest_from, pick_newest, pick_none}
use Rattle.map_model.proofs.ListLemmas.{any_has, has_any, keep_has, has_keep, upd_same, upd_other}
use Rattle.core_crash.proofs.Order.{fold_up}
use Rattle.core_paging.proofs.core_commit.History.{SameTxn, same_to, same_from, EndOf, Closes, Recorded, Entered, IsHistory, history_pick, history_value, not_by, without, before_trans, each_behind}
use Rattle.core_crash.proofs.Ends.{Cut, Ended, is_ended, ended_to, ended_from, ended_rows, behind_end, one_end}
use Rattle.core_paging.proofs.core_commit.Nodes.{key_parts, on_key}
use Rattle.core_crash.proofs.Undo.{stays, lasting}

pub commit_is_end : (k : Kind) → is_commit k ≡ true → is_end k ≡ true
commit_is_end Commit h = refl
commit_is_end Change h = absurd (true≢false (sym h))
commit_is_end Put_back h = absurd (true≢false (sym h))
commit_is_end Split h = absurd (true≢false (sym h))
commit_is_end Lift h = absurd (true≢false (sym h))
commit_is_end Drop h = absurd (true≢false (sym h))
commit_is_end Purge h = absurd (true≢false (sym h))
commit_is_end Join h = absurd (true≢false (sym h))
commit_is_end Read h = absurd (true≢false (sym h))
commit_is_end Abort h = absurd (true≢false (sym h))

pub key_from : (k : ℕ) (r : Entry) → is_write r.kind ≡ true → r.key ≡ k → on_key k r ≡ true
key_from k r w e = and_from (is_write r.kind) (r.key == k) w (eq-eqb r.key k e)

pub same_row : (g : Opening) (k : ℕ) (x y : Entry) → x.key ≡ k → y.key ≡ k → g.row_of x.key ≡ g.row_of y.key
same_row g k x y a b = ap g.row_of (a ∙ sym b)

pub flip : (a b : Entry) → SameTxn a b → SameTxn b a
flip a b s = (sym s.0, sym s.1)

pub chain : (a b c : Entry) → SameTxn a b → SameTxn b c → SameTxn a c
chain a b c s t = (s.0 ∙ t.0, s.1 ∙ t.1)

-- ## The key's value in the history is that of its newest write

pub history_newest : (g : Opening) (F k : ℕ) (r : Entry) (b h : List Entry) → IsHistory g F h → Newest (λ r b. on_key k r) r b h → history_value g k h ≡ r.after
history_newest g F k r b h hist n = history_pick g F k h hist ∙ pick_newest (λ r b. on_key k r) (λ r b. r.after) (first g k) r b h n

-- ## The key's value at the newest ended end of a transaction that wrote it

abbrev pub wrote : ℕ → Entry → List Entry → Bool
wrote k e b = any (λ r. on_key k r && same_txn r e) b

abbrev pub seals : ℕ → (ℕ → ℕ) → List Entry → ℕ → Entry → List Entry → Bool
seals R up_to all k e b = is_end e.kind && (wrote k e b && is_ended R up_to all e)

abbrev pub settled : Opening → ℕ → (ℕ → ℕ) → List Entry → ℕ → List Entry → ℕ
settled g R up_to all k h = pick (seals R up_to all k) (λ e b. history_value g k b) (first g k) h

pub record Sealed (R : ℕ) (up_to : ℕ → ℕ) (all : List Entry) (k : ℕ) (e : Entry) (b : List Entry) : Type 0 where
  pub is_end : is_end e.kind ≡ true
  pub write : Entry
  pub stands : Has write b
  pub on_key : on_key k write ≡ true
  pub same : SameTxn write e
  pub ended : is_ended R up_to all e ≡ true

seals_to : (R : ℕ) (up_to : ℕ → ℕ) (all : List Entry) (k : ℕ) (e : Entry) (b : List Entry) → seals R up_to all k e b ≡ true → Sealed R up_to all k e b
seals_to R up_to all k e b h =
    let p = and_parts (is_end e.kind) (wrote k e b && is_ended R up_to all e) h in
    let q = and_parts (wrote k e b) (is_ended R up_to all e) p.1 in
    let a = any_has (λ r. on_key k r && same_txn r e) b q.0 in
    let s = and_parts (on_key k a.0) (same_txn a.0 e) a.2 in
    record { is_end = p.0; write = a.0; stands = a.1; on_key = s.0; same = same_to a.0 e s.1; ended = q.1 }

seals_from : (R : ℕ) (up_to : ℕ → ℕ) (all : List Entry) (k : ℕ) (e : Entry) (b : List Entry) → is_end e.kind ≡ true → (r : Entry) → Has r b → on_key k r ≡ true → SameTxn r e → is_ended R up_to all e ≡ true → seals R up_to all k e b ≡ true
seals_from R up_to all k e b ke r i o s n =
    and_from (is_end e.kind) (wrote k e b && is_ended R up_to all e) ke
    (and_from (wrote k e b) (is_ended R up_to all e) (has_any (λ r. on_key k r && same_txn r e) b r i (and_from (on_key k r) (same_txn r e) o (same_from r e s))) n)

pub ended_same : (R : ℕ) (up_to : ℕ → ℕ) (all : List Entry) (a b : Entry) → SameTxn a b → is_ended R up_to all a ≡ true → is_ended R up_to all b ≡ true
ended_same R up_to all a b s q =
    let e = ended_to R up_to all a q in
    ended_from R up_to all b e.end (before_has e.end e.behind all e.place) e.is_end (chain e.end a b e.same s) e.found e.need

-- ## Folds over the journal

pub write_pick : (f : Entry → Bool) (m : ℕ → ℕ) (k : ℕ) (h : List Entry) → write_all (keep f h) m k ≡ pick (λ r b. on_key k r && f r) (λ r b. r.after) (m k) h
write_pick f m k [] = refl
write_pick f m k (r ∷ h) = go (write_pick f m k h) (cases_Bool (f r)) (cases_Bool (is_write r.kind)) (cases_eq r.key k)
  where
    P : ℕ
    P = pick (λ r b. on_key k r && f r) (λ r b. r.after) (m k) h

    T : ℕ → ℕ
    T = write_all (keep f h) m

    kept_one : f r ≡ true → write_all (keep f (r ∷ h)) m k ≡ (cond (is_write r.kind) (upd T r.key r.after) T) k
    kept_one e = ap (λ (z : List Entry). write_all z m k) (cond-true (f r) (r ∷ keep f h) (keep f h) e)

    off : on_key k r && f r ≡ false → P ≡ cond (on_key k r && f r) r.after P
    off e = sym (cond-false (on_key k r && f r) r.after P e)

    go : T k ≡ P → (f r ≡ true) ⊎ (f r ≡ false) → (is_write r.kind ≡ true) ⊎ (is_write r.kind ≡ false) → (r.key ≡ k) ⊎ (r.key ≡ k → ⊥) → write_all (keep f (r ∷ h)) m k ≡ cond (on_key k r && f r) r.after P
    go ih (inr e) w q = ap (λ (z : List Entry). write_all z m k) (cond-false (f r) (r ∷ keep f h) (keep f h) e) ∙ (ih ∙ off (and_right (on_key k r) (f r) e))
    go ih (inl e) (inr w) q = kept_one e ∙ (ap (λ (v : ℕ → ℕ). v k) (cond-false (is_write r.kind) (upd T r.key r.after) T w) ∙ (ih ∙ off (and_left (on_key k r) (f r) (and_left (is_write r.kind) (r.key == k) w))))
    go ih (inl e) (inl w) (inl q) = kept_one e ∙ (ap (λ (v : ℕ → ℕ). v k) (cond-true (is_write r.kind) (upd T r.key r.after) T w) ∙ (upd_same T r.key r.after k (sym q) ∙ sym (cond-true (on_key k r && f r) r.after P (and_from (on_key k r) (f r) (key_from k r w q) e))))
    go ih (inl e) (inl w) (inr q) = kept_one e ∙ (ap (λ (v : ℕ → ℕ). v k) (cond-true (is_write r.kind) (upd T r.key r.after) T w) ∙ (upd_other T r.key r.after k (λ s. q (sym s)) ∙ (ih ∙ off (and_left (on_key k r) (f r) (and_right (is_write r.kind) (r.key == k) (ne_eqb r.key k q))))))

abbrev pub apply_one : (Done → Bool) → (ℕ → ℕ) → Done → ℕ → ℕ
apply_one w m t = if w t then write_all t.calls m else m

pub after_fold : (w : Done → Bool) (m : ℕ → ℕ) (l : List Done) → after m (keep w l) ≡ fold_up (apply_one w) m l
after_fold w m [] = refl
after_fold w m (t ∷ l) = go (after_fold w m l) (cases_Bool (w t))
  where
    go : after m (keep w l) ≡ fold_up (apply_one w) m l → (w t ≡ true) ⊎ (w t ≡ false) → after m (keep w (t ∷ l)) ≡ apply_one w (fold_up (apply_one w) m l) t
    go ih (inl e) = ap (after m) (cond-true (w t) (t ∷ keep w l) (keep w l) e) ∙ (ap (write_all t.calls) ih ∙ sym (cond-true (w t) (write_all t.calls (fold_up (apply_one w) m l)) (fold_up (apply_one w) m l) e))
    go ih (inr e) = ap (after m) (cond-false (w t) (t ∷ keep w l) (keep w l) e) ∙ (ih ∙ sym (cond-false (w t) (write_all t.calls (fold_up (apply_one w) m l)) (fold_up (apply_one w) m l) e))

pub committed_on : (e : Entry) (h : List Entry) → is_commit e.kind ≡ true → committed (e ∷ h) ≡ record { end = e; calls = calls_of e h } ∷ committed h
committed_on e h k = cond-true (is_commit e.kind) (record { end = e; calls = calls_of e h } ∷ committed h) (committed h) k

pub committed_off : (e : Entry) (h : List Entry) → is_commit e.kind ≡ false → committed (e ∷ h) ≡ committed h
committed_off e h k = cond-false (is_commit e.kind) (record { end = e; calls = calls_of e h } ∷ committed h) (committed h) k

-- where a committed transaction stands
pub record Stood (t : Done) (h : List Entry) : Type 0 where
  pub behind : List Entry
  pub place : Before t.end behind h
  pub commit : is_commit t.end.kind ≡ true
  pub calls : t.calls ≡ calls_of t.end behind

pub stood : (t : Done) (h : List Entry) → Has t (committed h) → Stood t h
stood t [] i = absurd i
stood t (e ∷ h) i = go (stood t h) (cases_Bool (is_commit e.kind))
  where
    more : Stood t h → Stood t (e ∷ h)
    more s = record { behind = s.behind; place = inr s.place; commit = s.commit; calls = s.calls }

    this : is_commit e.kind ≡ true → t ≡ record { end = e; calls = calls_of e h } → Stood t (e ∷ h)
    this k q = record { behind = h; place = inl (ap (λ (x : Done). x.end) q, refl); commit = ap (λ (x : Done). is_commit x.end.kind) q ∙ k; calls = ap (λ (x : Done). x.calls) q ∙ ap (λ (x : Entry). calls_of x h) (sym (ap (λ (x : Done). x.end) q)) }

    split : Has t (record { end = e; calls = calls_of e h } ∷ committed h) → (t ≡ record { end = e; calls = calls_of e h }) ⊎ Has t (committed h)
    split x = x

    go : (Has t (committed h) → Stood t h) → (is_commit e.kind ≡ true) ⊎ (is_commit e.kind ≡ false) → Stood t (e ∷ h)
    go ih (inl k) = elim (split (subst (λ (l : List Done). Has t l) (committed_on e h k) i)) [ inl q ↦ this k q | inr j ↦ more (ih j) ]
    go ih (inr k) = more (ih (subst (λ (l : List Done). Has t l) (committed_off e h k) i))

module _ (g : Opening) (F R : ℕ) (up_to : ℕ → ℕ) (all : List Entry) (c : Cut g F R up_to all) where
  pub at : (x : Entry) (b : List Entry) → Before x b all → Recorded g F x b
  at x b p = each_at (Recorded g F) all x b c.records p

  -- no entry of a transaction stands before its end
  pub closed_off : (x : Entry) (bx : List Entry) → Before x bx all → (d : Entry) → Has d bx → is_end d.kind ≡ true → SameTxn d x → ⊥
  closed_off x bx p d i k s = (at x bx p).still_open d i k s

  pub behind_itself : (r : Entry) (b : List Entry) → Before r b all → is_write r.kind ≡ true → Has r b → ⊥
  behind_itself r b p k i = let lt = (at r b p).later (write_is_record r.kind k) r i refl in omega arith

  -- lasting is settled
  pub lasting_settled : IsHistory g F all → (k : ℕ) → lasting g R up_to all k all ≡ settled g R up_to all k all
  lasting_settled hist k = go (newest (stays R up_to all k) all)
    where
      none : NoneOf (stays R up_to all k) all → NoneOf (seals R up_to all k) all
      none n e b p = false_from_ne_true (seals R up_to all k e b) (λ q.
          let s = seals_to R up_to all k e b q in
          let w = has_before s.write all (behind_has e b all p s.write s.stands) in
          true≢false (sym (and_from (on_key k s.write) (is_ended R up_to all s.write) s.on_key (ended_same R up_to all e s.write (flip s.write e s.same) s.ended)) ∙ n s.write w.0 w.1))

      some : (r : Entry) (b : List Entry) → Newest (stays R up_to all k) r b all → lasting g R up_to all k all ≡ settled g R up_to all k all
      some r b n =
          let pr = newest_before (stays R up_to all k) r b all n in
          let qr = and_parts (on_key k r) (is_ended R up_to all r) (newest_holds (stays R up_to all k) r b all n) in
          let kr = key_parts k r qr.0 in
          let e = ended_to R up_to all r qr.1 in
          let be = behind_end g F all c.records e.end e.behind e.place e.is_end r b pr (write_is_no_end r.kind kr.0) e.same in
          let ie = ended_same R up_to all r e.end (flip e.end r e.same) qr.1 in
          let skip : (x : Entry) (bx : List Entry) → Before x bx all → Before e.end e.behind bx → seals R up_to all k x bx ≡ false = λ x bx px pe. false_from_ne_true (seals R up_to all k x bx) (λ q. newer r b n pr kr.1 e be x bx px pe (seals_to R up_to all k x bx q)) in
          let ns : Newest (seals R up_to all k) e.end e.behind all = newest_from (seals R up_to all k) e.end e.behind all e.place (seals_from R up_to all k e.end e.behind e.is_end r (before_has r b e.behind be) qr.0 (flip e.end r e.same) ie) skip in
          let nk : Newest (λ r b. on_key k r) r b e.behind = newest_from (λ r b. on_key k r) r b e.behind be qr.0 (λ x bx px pb. false_from_ne_true (on_key k x) (λ o. later_write r b n pr kr.0 kr.1 e be x bx px pb o)) in
          pick_newest (stays R up_to all k) (λ r b. r.after) (first g k) r b all n
          ∙ (sym (history_newest g F k r b e.behind (each_behind (Entered g F) all e.end e.behind hist e.place) nk) ∙ sym (pick_newest (seals R up_to all k) (λ e b. history_value g k b) (first g k) e.end e.behind all ns))
        where
          -- no newer end seals the key
          newer : (r : Entry) (b : List Entry) → Newest (stays R up_to all k) r b all → Before r b all → r.key ≡ k → (e : Ended R up_to all r) → Before r b e.behind →
              (x : Entry) (bx : List Entry) → Before x bx all → Before e.end e.behind bx → Sealed R up_to all k x bx → ⊥
          newer r b n pr kr e be x bx px pe s =
              let ws = has_before s.write all (behind_has x bx all px s.write s.stands) in
              let ks = key_parts k s.write s.on_key in
              let first = newest_first (stays R up_to all k) r b all n s.write ws.0 ws.1 (and_from (on_key k s.write) (is_ended R up_to all s.write) s.on_key (ended_same R up_to all x s.write (flip s.write x s.same) s.ended)) in
              let off : SameTxn e.end x → ⊥ = closed_off x bx px e.end (before_has e.end e.behind bx pe) e.is_end in
              elim first [
                | inl q ↦ off (chain e.end r x e.same (subst (λ (y : Entry). SameTxn y x) q.0 s.same))
                | inr q ↦ elim (((at e.end e.behind e.place).closes e.is_end).rows r (before_has r b e.behind be) (flip e.end r e.same) (write_is_call r.kind (key_parts k r (and_parts (on_key k r) (is_ended R up_to all r) (newest_holds (stays R up_to all k) r b all n)).0).0) s.write (behind_has r b e.behind be s.write (before_has s.write ws.0 b q)) (write_claims s.write ks.0) (same_row g k s.write r ks.1 kr)) [
                  | inl t ↦ off (chain e.end s.write x (flip s.write e.end t) s.same)
                  | inr d ↦ closed_off x bx px d.0.end (behind_has e.end e.behind bx pe d.0.end d.0.stands) d.0.is_end (chain d.0.end s.write x d.0.same s.same)
                ]
              ]

          -- no newer write of the key stands behind the end
          later_write : (r : Entry) (b : List Entry) → Newest (stays R up_to all k) r b all → Before r b all → is_write r.kind ≡ true → r.key ≡ k → (e : Ended R up_to all r) → Before r b e.behind →
              (x : Entry) (bx : List Entry) → Before x bx e.behind → Before r b bx → on_key k x ≡ true → ⊥
          later_write r b n pr kw kr e be x bx px pb o =
              let kx = key_parts k x o in
              let pxa = before_trans all e.end e.behind x bx e.place px in
              let en = ended_rows g F R up_to all c e.end e.behind e.place e.is_end e.found e.need r (before_has r b e.behind be) (flip e.end r e.same) (write_is_call r.kind kw) x (before_has x bx e.behind px) (write_claims x kx.0) (same_row g k x r kx.1 kr) in
              let first = newest_first (stays R up_to all k) r b all n x bx pxa (and_from (on_key k x) (is_ended R up_to all x) o en) in
              elim first [
                | inl q ↦ behind_itself r b pr kw (before_has r b b (subst (λ (l : List Entry). Before r b l) q.1 pb))
                | inr q ↦ behind_itself r b pr kw (behind_has x bx b q r (before_has r b bx pb))
              ]

      go : NoneOf (stays R up_to all k) all ⊎ ((r : Entry) × (b : List Entry) × Newest (stays R up_to all k) r b all) → lasting g R up_to all k all ≡ settled g R up_to all k all
      go (inl n) = pick_none (stays R up_to all k) (λ r b. r.after) (first g k) all n ∙ sym (pick_none (seals R up_to all k) (λ e b. history_value g k b) (first g k) all (none n))
      go (inr n) = some n.0 n.1 n.2

  -- a commit wins where it is ended
  pub won : (t : Done) → Has t.end all → is_commit t.end.kind ≡ true → wins R (keep (found up_to) all) t ≡ is_ended R up_to all t.end
  won t i k = go (cases_Bool (is_ended R up_to all t.end))
    where
      test : Entry → Bool
      test d = is_commit d.kind && (same_txn d t.end && leb d.need R)

      go : (is_ended R up_to all t.end ≡ true) ⊎ (is_ended R up_to all t.end ≡ false) → wins R (keep (found up_to) all) t ≡ is_ended R up_to all t.end
      go (inl q) =
          let d = ended_to R up_to all t.end q in
          let e = one_end g F all c.records d.end t.end (before_has d.end d.behind all d.place) i d.is_end (commit_is_end t.end.kind k) d.same in
          let f = subst (λ (x : Entry). found up_to x ≡ true) e d.found in
          let n = subst (λ (x : Entry). x.need ≤ R) e d.need in
          has_any test (keep (found up_to) all) t.end (has_keep (found up_to) all t.end i f)
          (and_from (is_commit t.end.kind) (same_txn t.end t.end && leb t.end.need R) k (and_from (same_txn t.end t.end) (leb t.end.need R) (same_from t.end t.end (refl, refl)) (le-leb t.end.need R n)))
          ∙ sym q
      go (inr q) = false_from_ne_true (wins R (keep (found up_to) all) t) (λ w.
          let a = any_has test (keep (found up_to) all) w in
          let f = keep_has (found up_to) all a.0 a.1 in
          let p = and_parts (is_commit a.0.kind) (same_txn a.0 t.end && leb a.0.need R) a.2 in
          let s = and_parts (same_txn a.0 t.end) (leb a.0.need R) p.1 in
          true≢false (sym (ended_from R up_to all t.end a.0 f.0 (commit_is_end a.0.kind p.0) (same_to a.0 t.end s.0) f.1 (leb-true a.0.need R s.1)) ∙ q)) ∙ sym q

  -- an aborted transaction that is ended leaves what was settled before it
  pub aborted : IsHistory g F all → (k : ℕ) (e : Entry) (h : List Entry) → Before e h all → Sealed R up_to all k e h → without g e k h ≡ settled g R up_to all k h
  aborted hist k e h pe s = go (newest (not_by e k) h)
    where
      cl : Closes g F e h
      cl = (at e h pe).closes s.is_end

      sk : (is_write s.write.kind ≡ true) × (s.write.key ≡ k)
      sk = key_parts k s.write s.on_key

      -- an end behind e is of another transaction
      other : (x : Entry) → Has x h → is_end x.kind ≡ true → (y : Entry) → SameTxn y x → SameTxn y e → ⊥
      other x i kx y a b = closed_off e h pe x i kx (chain x y e (flip y x a) b)

      not_e : (x : Entry) (hx : List Entry) → Before x hx h → (q : Sealed R up_to all k x hx) → not_by e k q.write h ≡ true
      not_e x hx px q = and_from (on_key k q.write) (not (same_txn q.write e)) q.on_key (not_from_false (same_txn q.write e) (false_from_ne_true (same_txn q.write e) (λ t. other x (before_has x hx h px) q.is_end q.write q.same (same_to q.write e t))))

      none : NoneOf (not_by e k) h → NoneOf (seals R up_to all k) h
      none n x hx px = false_from_ne_true (seals R up_to all k x hx) (λ w.
          let q = seals_to R up_to all k x hx w in
          let b = has_before q.write h (behind_has x hx h px q.write q.stands) in
          true≢false (sym (not_e x hx px q) ∙ n q.write b.0 b.1))

      some : (r : Entry) (b : List Entry) → Newest (not_by e k) r b h → without g e k h ≡ settled g R up_to all k h
      some r b n =
          let pr = newest_before (not_by e k) r b h n in
          let qr = and_parts (on_key k r) (not (same_txn r e)) (newest_holds (not_by e k) r b h n) in
          let kr = key_parts k r qr.0 in
          let ne : SameTxn r e → ⊥ = λ t. true≢false (sym (same_from r e t) ∙ not-true (same_txn r e) qr.1) in
          let pra = before_trans all e h r b pe pr in
          let se = ended_to R up_to all e s.ended in
          let ee = one_end g F all c.records se.end e (before_has se.end se.behind all se.place) (before_has e h all pe) se.is_end s.is_end se.same in
          let fe = subst (λ (x : Entry). found up_to x ≡ true) ee se.found in
          let nne = subst (λ (x : Entry). x.need ≤ R) ee se.need in
          let re = ended_rows g F R up_to all c e h pe s.is_end fe nne s.write s.stands s.same (write_is_call s.write.kind sk.0) r (before_has r b h pr) (write_claims r kr.0) (same_row g k r s.write kr.1 sk.1) in
          elim (cl.rows s.write s.stands s.same (write_is_call s.write.kind sk.0) r (before_has r b h pr) (write_claims r kr.0) (same_row g k r s.write kr.1 sk.1)) [
            | inl t ↦ absurd (ne t)
            | inr d ↦ with_end r b n pr kr ne re d.0
          ]
        where
          with_end : (r : Entry) (b : List Entry) → Newest (not_by e k) r b h → Before r b h → (is_write r.kind ≡ true) × (r.key ≡ k) → (SameTxn r e → ⊥) → is_ended R up_to all r ≡ true → EndOf h r → without g e k h ≡ settled g R up_to all k h
          with_end r b n pr kr ne re d =
              let bd = has_before d.end h d.stands in
              let pd = before_trans all e h d.end bd.0 pe bd.1 in
              let prd = behind_end g F all c.records d.end bd.0 pd d.is_end r b (before_trans all e h r b pe pr) (write_is_no_end r.kind kr.0) d.same in
              let nk : Newest (λ r b. on_key k r) r b bd.0 = newest_from (λ r b. on_key k r) r b bd.0 prd (key_from k r kr.0 kr.1) (λ x bx px pb. false_from_ne_true (on_key k x) (λ o. later r b n pr kr ne d bd.0 bd.1 prd x bx px pb o)) in
              let ns : Newest (seals R up_to all k) d.end bd.0 h = newest_from (seals R up_to all k) d.end bd.0 h bd.1 (seals_from R up_to all k d.end bd.0 d.is_end r (before_has r b bd.0 prd) (key_from k r kr.0 kr.1) (flip d.end r d.same) (ended_same R up_to all r d.end (flip d.end r d.same) re)) (λ x bx px pb. false_from_ne_true (seals R up_to all k x bx) (λ w. newer r b n pr kr d bd.0 bd.1 prd x bx px pb (seals_to R up_to all k x bx w))) in
              pick_newest (not_by e k) (λ r b. r.after) (first g k) r b h n
              ∙ (sym (history_newest g F k r b bd.0 (each_behind (Entered g F) all d.end bd.0 hist pd) nk) ∙ sym (pick_newest (seals R up_to all k) (λ e b. history_value g k b) (first g k) d.end bd.0 h ns))
            where
              newer : (r : Entry) (b : List Entry) → Newest (not_by e k) r b h → Before r b h → (is_write r.kind ≡ true) × (r.key ≡ k) → (d : EndOf h r) (bd : List Entry) → Before d.end bd h → Before r b bd →
                  (x : Entry) (hx : List Entry) → Before x hx h → Before d.end bd hx → Sealed R up_to all k x hx → ⊥
              newer r b n pr kr d bd pd prd x hx px pdx q =
                  let ws = has_before q.write h (behind_has x hx h px q.write q.stands) in
                  let wk = key_parts k q.write q.on_key in
                  let pxa = before_trans all e h x hx pe px in
                  let off : SameTxn r x → ⊥ = λ t. closed_off x hx pxa d.end (before_has d.end bd hx pdx) d.is_end (chain d.end r x d.same t) in
                  elim (newest_first (not_by e k) r b h n q.write ws.0 ws.1 (not_e x hx px q)) [
                    | inl u ↦ off (subst (λ (y : Entry). SameTxn y x) u.0 q.same)
                    | inr u ↦ elim ((at r b (before_trans all e h r b pe pr)).locked kr.0 q.write (before_has q.write ws.0 b u) wk.0 (same_row g k q.write r wk.1 kr.1)) [
                      | inl t ↦ off (chain r q.write x (flip q.write r t) q.same)
                      | inr f ↦
                          -- its end stands behind r, so behind d, so behind itself
                          let fx = one_end g F all c.records f.0.end x (behind_has r b all (before_trans all e h r b pe pr) f.0.end f.0.stands) (before_has x hx all pxa) f.0.is_end q.is_end (chain f.0.end q.write x f.0.same q.same) in
                          let i = behind_has d.end bd hx pdx f.0.end (behind_has r b bd prd f.0.end f.0.stands) in
                          closed_off x hx pxa f.0.end i f.0.is_end (chain f.0.end q.write x f.0.same q.same)
                    ]
                  ]

              later : (r : Entry) (b : List Entry) → Newest (not_by e k) r b h → Before r b h → (is_write r.kind ≡ true) × (r.key ≡ k) → (SameTxn r e → ⊥) → (d : EndOf h r) (bd : List Entry) → Before d.end bd h → Before r b bd →
                  (x : Entry) (bx : List Entry) → Before x bx bd → Before r b bx → on_key k x ≡ true → ⊥
              later r b n pr kr ne d bd pd prd x bx px pb o =
                  let kx = key_parts k x o in
                  let pxh = before_trans h d.end bd x bx pd px in
                  let pxa = before_trans all e h x bx pe pxh in
                  let pda = before_trans all e h d.end bd pe pd in
                  elim (cases_Bool (same_txn x e)) [
                    | inl t ↦ elim ((at x bx pxa).locked kx.0 r (before_has r b bx pb) kr.0 (same_row g k r x kr.1 kx.1)) [
                      | inl u ↦ ne (chain r x e u (same_to x e t))
                      | inr f ↦ closed_off d.end bd pda f.0.end (behind_has x bx bd px f.0.end f.0.stands) f.0.is_end (chain f.0.end r d.end f.0.same (flip d.end r d.same))
                    ]
                    | inr t ↦ elim (newest_first (not_by e k) r b h n x bx pxh (and_from (on_key k x) (not (same_txn x e)) o (not_from_false (same_txn x e) t))) [
                      | inl u ↦ behind_itself r b (before_trans all e h r b pe pr) kr.0 (before_has r b b (subst (λ (l : List Entry). Before r b l) u.1 pb))
                      | inr u ↦ behind_itself r b (before_trans all e h r b pe pr) kr.0 (behind_has x bx b u r (before_has r b bx pb))
                    ]
                  ]

      go : NoneOf (not_by e k) h ⊎ ((r : Entry) × (b : List Entry) × Newest (not_by e k) r b h) → without g e k h ≡ settled g R up_to all k h
      go (inl n) = pick_none (not_by e k) (λ r b. r.after) (first g k) h n ∙ sym (pick_none (seals R up_to all k) (λ e b. history_value g k b) (first g k) h (none n))
      go (inr n) = some n.0 n.1 n.2

  abbrev pub applied : ℕ → List Entry → ℕ
  applied k h = fold_up (apply_one (wins R (keep (found up_to) all))) (first g) (committed h) k

  pub settled_applied : IsHistory g F all → (k : ℕ) (h : List Entry) → ((x : Entry) (b : List Entry) → Before x b h → Before x b all) → settled g R up_to all k h ≡ applied k h
  settled_applied hist k [] sub = refl
  settled_applied hist k (e ∷ h) sub = go (settled_applied hist k h (λ x b i. sub x b (inr i))) (cases_Bool (is_commit e.kind)) (cases_Bool (is_ended R up_to all e)) (newest (λ r b. on_key k r && same_txn r e) h)
    where
      pe : Before e h all
      pe = sub e h (inl (refl, refl))

      w : Done → Bool
      w = wins R (keep (found up_to) all)

      t : Done
      t = record { end = e; calls = calls_of e h }

      S : ℕ
      S = settled g R up_to all k h

      A : ℕ → ℕ
      A = fold_up (apply_one w) (first g) (committed h)

      off : seals R up_to all k e h ≡ false → settled g R up_to all k (e ∷ h) ≡ S
      off q = cond-false (seals R up_to all k e h) (history_value g k h) S q

      on : seals R up_to all k e h ≡ true → settled g R up_to all k (e ∷ h) ≡ history_value g k h
      on q = cond-true (seals R up_to all k e h) (history_value g k h) S q

      head : is_commit e.kind ≡ true → applied k (e ∷ h) ≡ (cond (w t) (write_all (calls_of e h) A) A) k
      head q = ap (λ (l : List Done). fold_up (apply_one w) (first g) l k) (committed_on e h q)

      tail : is_commit e.kind ≡ false → applied k (e ∷ h) ≡ A k
      tail q = ap (λ (l : List Done). fold_up (apply_one w) (first g) l k) (committed_off e h q)

      own_only : (r : Entry) (b : List Entry) → Newest (λ r b. on_key k r && same_txn r e) r b h → is_end e.kind ≡ true → Newest (λ r b. on_key k r) r b h
      own_only r b n ke =
          let pr = newest_before (λ r b. on_key k r && same_txn r e) r b h n in
          let q = and_parts (on_key k r) (same_txn r e) (newest_holds (λ r b. on_key k r && same_txn r e) r b h n) in
          let kr = key_parts k r q.0 in
          let pra = before_trans all e h r b pe pr in
          newest_from (λ r b. on_key k r) r b h pr q.0 (λ x bx px pb. false_from_ne_true (on_key k x) (λ o.
          let kx = key_parts k x o in
          let pxa = before_trans all e h x bx pe px in
          elim (cases_Bool (same_txn x e)) [
            | inl s ↦ elim (newest_first (λ r b. on_key k r && same_txn r e) r b h n x bx px (and_from (on_key k x) (same_txn x e) o s)) [
              | inl u ↦ behind_itself r b pra kr.0 (before_has r b b (subst (λ (l : List Entry). Before r b l) u.1 pb))
              | inr u ↦ behind_itself r b pra kr.0 (behind_has x bx b u r (before_has r b bx pb))
            ]
            | inr s ↦ elim ((at x bx pxa).locked kx.0 r (before_has r b bx pb) kr.0 (same_row g k r x kr.1 kx.1)) [
              | inl u ↦ true≢false (sym (same_from x e (chain x r e (flip r x u) (same_to r e q.1))) ∙ s)
              | inr f ↦ closed_off e h pe f.0.end (behind_has x bx h px f.0.end f.0.stands) f.0.is_end (chain f.0.end r e f.0.same (same_to r e q.1))
            ]
          ]))

      go : S ≡ A k → (is_commit e.kind ≡ true) ⊎ (is_commit e.kind ≡ false) → (is_ended R up_to all e ≡ true) ⊎ (is_ended R up_to all e ≡ false)
          → NoneOf (λ r b. on_key k r && same_txn r e) h ⊎ ((r : Entry) × (b : List Entry) × Newest (λ r b. on_key k r && same_txn r e) r b h) → settled g R up_to all k (e ∷ h) ≡ applied k (e ∷ h)
      go ih (inl q) (inr n) o =
          off (and_right (is_end e.kind) (wrote k e h && is_ended R up_to all e) (and_right (wrote k e h) (is_ended R up_to all e) n))
          ∙ (ih ∙ sym (head q ∙ ap (λ (v : ℕ → ℕ). v k) (cond-false (w t) (write_all (calls_of e h) A) A (won t (before_has e h all pe) q ∙ n))))
      go ih (inl q) (inl n) (inl o) =
          off (and_right (is_end e.kind) (wrote k e h && is_ended R up_to all e) (and_left (wrote k e h) (is_ended R up_to all e) (false_from_ne_true (wrote k e h) (λ a.
          let b = any_has (λ r. on_key k r && same_txn r e) h a in
          let p = has_before b.0 h b.1 in
          true≢false (sym b.2 ∙ o b.0 p.0 p.1)))))
          ∙ (ih ∙ sym (head q ∙ (ap (λ (v : ℕ → ℕ). v k) (cond-true (w t) (write_all (calls_of e h) A) A (won t (before_has e h all pe) q ∙ n))
          ∙ (write_pick (λ r. same_txn r e) A k h ∙ pick_none (λ r b. on_key k r && same_txn r e) (λ r b. r.after) (A k) h o))))
      go ih (inl q) (inl n) (inr o) =
          let pr = newest_before (λ r b. on_key k r && same_txn r e) o.0 o.1 h o.2 in
          let qr = and_parts (on_key k o.0) (same_txn o.0 e) (newest_holds (λ r b. on_key k r && same_txn r e) o.0 o.1 h o.2) in
          let ke = commit_is_end e.kind q in
          on (seals_from R up_to all k e h ke o.0 (before_has o.0 o.1 h pr) qr.0 (same_to o.0 e qr.1) n)
          ∙ (history_newest g F k o.0 o.1 h (each_behind (Entered g F) all e h hist pe) (own_only o.0 o.1 o.2 ke)
          ∙ sym (head q ∙ (ap (λ (v : ℕ → ℕ). v k) (cond-true (w t) (write_all (calls_of e h) A) A (won t (before_has e h all pe) q ∙ n))
          ∙ (write_pick (λ r. same_txn r e) A k h ∙ pick_newest (λ r b. on_key k r && same_txn r e) (λ r b. r.after) (A k) o.0 o.1 h o.2))))
      go ih (inr q) n o = elim (cases_Bool (seals R up_to all k e h)) [
        | inl s ↦ let sl = seals_to R up_to all k e h s in on s ∙ ((each_at (Entered g F) all e h hist pe).aborts sl.is_end q k ∙ (aborted hist k e h pe sl ∙ (ih ∙ sym (tail q))))
        | inr s ↦ off s ∙ (ih ∙ sym (tail q))
      ]
