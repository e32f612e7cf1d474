-- The journal's order, and that the kept transactions are closed and hold each ripe one.
use Rattle.std.proofs.Common.{◌≡◌, ℕ, ◌≤◌, ◌<◌, Bool, true, false, cond, ◌||◌, List, [], ◌∷◌, ◌⊎◌, refl, sym, ap, ◌∙◌, subst, inl, inr, arith, true≢false}
use Rattle.std.proofs.lemmas.Bool.{cases_Bool, cases_eq, eq-eqb, ne_eqb, or_cases}
use Rattle.core_crash.proofs.Words.{recovered, found, Done, calls_of, committed, done_earlier, journal, write_all, after, wins, IsClosed}
use Rattle.core_paging.specs.image_model.Ends.{reach}
use Rattle.core_paging.proofs.core_commit.KindFacts.{write_claims, end_is_record, write_is_call}
use Rattle.core_paging.proofs.core_commit.Nodes.{key_parts}
use Rattle.core_paging.specs.image_model.Entries.{Contents, earlier, Entry, is_call, is_write, is_commit, same_txn}
use Rattle.map_model.specs.Lists.{upd, keep, any, Has}
use Rattle.core_paging.specs.core_state.Steps.{claims}
use Rattle.core_paging.specs.core_state.Openings.{first, Opening}
use Rattle.core_paging.proofs.core_commit.Lists.{Before, before_has, behind_has}
use Rattle.map_model.proofs.ListLemmas.{any_has, keep_has, has_keep, order_has}
use Rattle.core_crash.proofs.Order.{Swaps, Apart, fold_up_order}
use Rattle.core_paging.proofs.core_commit.History.{SameTxn, same_to, IsHistory, compare}
use Rattle.core_paging.proofs.core_commit.Nodes.{on_key}
use Rattle.core_crash.proofs.Ends.{Cut, is_ended, ended_to, ended_from, ended_rows, one_end, found_from}
use Rattle.core_crash.proofs.Redo.{Had}
use Rattle.core_crash.proofs.Undo.{earlier_le, lasting, recovered_lasting}
use Rattle.core_crash.proofs.Journal.{key_from, same_row, flip, chain, after_fold, apply_one, stood, Stood, commit_is_end, at, closed_off, won, lasting_settled, settled_applied, ended_same}
use mathlib.Core.Path.{fun_ext}

-- a write of the key among these
abbrev pub hits : ℕ → List Entry → Bool
hits k rs = any (λ r. on_key k r) rs

pub write_miss : (rs : List Entry) (m : ℕ → ℕ) (k : ℕ) → hits k rs ≡ false → write_all rs m k ≡ m k
write_miss [] m k h = refl
write_miss (r ∷ rs) m k h = go (write_miss rs m k (or_false (on_key k r) (hits k rs) h).1) (is_write r.kind) refl
  where
    or_false : (a b : Bool) → (a || b) ≡ false → (a ≡ false) × (b ≡ false)
    or_false true b h = absurd (true≢false h)
    or_false false b h = (refl, h)

    go : write_all rs m k ≡ m k → (b : Bool) → is_write r.kind ≡ b → (cond b (upd (write_all rs m) r.key r.after) (write_all rs m)) k ≡ m k
    go ih true e = elim (cases_eq k r.key) [
      | inl q ↦ absurd (true≢false (sym (key_from k r e (sym q)) ∙ (or_false (on_key k r) (hits k rs) h).0))
      | inr n ↦ (rw (ne_eqb k r.key n) ih)
    ]
    go ih false e = ih

pub write_hit : (rs : List Entry) (m n : ℕ → ℕ) (k : ℕ) → hits k rs ≡ true → write_all rs m k ≡ write_all rs n k
write_hit [] m n k h = absurd (true≢false (sym h))
write_hit (r ∷ rs) m n k h = go (write_hit rs m n k) (is_write r.kind) refl
  where
    rest : (on_key k r ≡ true → ⊥) → hits k rs ≡ true
    rest nope = elim (or_cases (on_key k r) (hits k rs) h) [ inl e ↦ absurd (nope e) | inr e ↦ e ]

    go : (hits k rs ≡ true → write_all rs m k ≡ write_all rs n k) → (b : Bool) → is_write r.kind ≡ b → (cond b (upd (write_all rs m) r.key r.after) (write_all rs m)) k ≡ (cond b (upd (write_all rs n) r.key r.after) (write_all rs n)) k
    go ih true e = elim (cases_eq k r.key) [
      | inl q ↦ (rw (eq-eqb k r.key q) refl)
      | inr ne ↦ (rw (ne_eqb k r.key ne) (ih (rest (λ o. ne (sym (key_parts k r o).1)))))
    ]
    go ih false e = ih (rest (λ o. true≢false (sym (key_parts k r o).0 ∙ e)))

-- transactions that write no key of each other can change places
pub apply_swaps : (w : Done → Bool) (t u : Done) → ((k : ℕ) → hits k t.calls ≡ true → hits k u.calls ≡ true → ⊥) → Swaps (apply_one w) t u
apply_swaps w t u apart m = fun_ext (λ k. go k (w t) refl (w u) refl)
  where
    both : (k : ℕ) → (hits k t.calls ≡ true) ⊎ (hits k t.calls ≡ false) → (hits k u.calls ≡ true) ⊎ (hits k u.calls ≡ false) → write_all u.calls (write_all t.calls m) k ≡ write_all t.calls (write_all u.calls m) k
    both k (inl a) (inl b) = absurd (apart k a b)
    both k (inl a) (inr b) = write_miss u.calls (write_all t.calls m) k b ∙ write_hit t.calls m (write_all u.calls m) k a
    both k (inr a) (inl b) = write_hit u.calls (write_all t.calls m) m k b ∙ sym (write_miss t.calls (write_all u.calls m) k a)
    both k (inr a) (inr b) = write_miss u.calls (write_all t.calls m) k b ∙ (write_miss t.calls m k a ∙ (sym (write_miss u.calls m k b) ∙ sym (write_miss t.calls (write_all u.calls m) k a)))

    go : (k : ℕ) (a : Bool) → w t ≡ a → (b : Bool) → w u ≡ b → apply_one w (apply_one w m t) u k ≡ apply_one w (apply_one w m u) t k
    go k true a true b = rw (a, b) (both k (cases_Bool (hits k t.calls)) (cases_Bool (hits k u.calls)))
    go k true a false b = rw (a, b) refl
    go k false a b _ = rw a refl

module _ (g : Opening) (F R : ℕ) (up_to : ℕ → ℕ) (all : List Entry) (c : Cut g F R up_to all) where
  pub call_parts : (e : Entry) (b : List Entry) (r : Entry) → Has r (calls_of e b) → Has r b × SameTxn r e
  call_parts e b r i = let q = keep_has (λ r. same_txn r e) b r i in (q.0, same_to r e q.1)

  -- of two commits that wrote one key the newer has the greater number
  pub ordered : (e : Entry) (b : List Entry) → Before e b all → is_commit e.kind ≡ true → (d : Entry) (bd : List Entry) → Before d bd b → is_commit d.kind ≡ true →
      (r : Entry) → Has r b → SameTxn r e → claims r ≡ true → (s : Entry) → Has s bd → SameTxn s d → is_call s.kind ≡ true → g.row_of s.key ≡ g.row_of r.key → d.number < e.number
  ordered e b pe ke d bd pd kd r ir sr wr s is ss ns row =
      let cl = (at g F R up_to all c e b pe).closes (commit_is_end e.kind ke) in
      let id = before_has d bd b pd in
      elim (cl.order r ir sr wr s (behind_has d bd b pd s is) ns row) [
        | inl t ↦ absurd (closed_off g F R up_to all c e b pe d id (commit_is_end d.kind kd) (chain d s e (flip s d ss) t))
        | inr f ↦
            let q = one_end g F all c.records f.0.end d (behind_has e b all pe f.0.end f.0.stands) (behind_has e b all pe d id) f.0.is_end (commit_is_end d.kind kd) (chain f.0.end s d f.0.same ss) in
            subst (λ (x : Entry). x.number < e.number) q f.1
      ]

  disjoint : (e : Entry) (b : List Entry) → Before e b all → is_commit e.kind ≡ true → (u : Done) → Has u (committed b) → earlier e u.end ≡ true →
      (k : ℕ) → hits k (calls_of e b) ≡ true → hits k u.calls ≡ true → ⊥
  disjoint e b pe ke u iu lt k a h =
      let su = stood u b iu in
      let x = any_has (λ r. on_key k r) (calls_of e b) a in
      let y = any_has (λ r. on_key k r) u.calls h in
      let xc = call_parts e b x.0 x.1 in
      let yc = call_parts u.end su.behind y.0 (subst (λ (l : List Entry). Has y.0 l) su.calls y.1) in
      let kx = key_parts k x.0 x.2 in
      let ky = key_parts k y.0 y.2 in
      let less = ordered e b pe ke u.end su.behind su.place su.commit x.0 xc.0 xc.1 (write_claims x.0 kx.0) y.0 yc.0 yc.1 (write_is_call y.0.kind ky.0) (same_row g k y.0 x.0 ky.1 kx.1) in
      let le = earlier_le e u.end lt in
      omega arith

  pub apart : (w : Done → Bool) (h : List Entry) → ((x : Entry) (b : List Entry) → Before x b h → Before x b all) → Apart done_earlier (apply_one w) (committed h)
  apart w [] sub = tt
  apart w (e ∷ h) sub = go (apart w h (λ x b i. sub x b (inr i))) (is_commit e.kind) refl
    where
      go : Apart done_earlier (apply_one w) (committed h) → (b : Bool) → is_commit e.kind ≡ b → Apart done_earlier (apply_one w) (cond b (record { end = e; calls = calls_of e h } ∷ committed h) (committed h))
      go ih true k = (λ u i lt. apply_swaps w (record { end = e; calls = calls_of e h }) u (disjoint e h (sub e h (inl (refl, refl))) k u i lt), ih)
      go ih false k = ih

  applied_after : IsHistory g F all → (k : ℕ) → lasting g R up_to all k all ≡ after (first g) (keep (wins R (keep (found up_to) all)) (journal all)) k
  applied_after hist k =
      lasting_settled g F R up_to all c hist k
      ∙ (settled_applied g F R up_to all c hist k all (λ x b i. i)
      ∙ (sym (ap (λ (m : ℕ → ℕ). m k) (fold_up_order done_earlier (apply_one (wins R (keep (found up_to) all))) (committed all) (apart (wins R (keep (found up_to) all)) all (λ x b i. i)) (first g)))
      ∙ sym (ap (λ (m : ℕ → ℕ). m k) (after_fold (wins R (keep (found up_to) all)) (first g) (journal all)))))

  -- ## Closed

  pub closed : IsClosed (journal all) (keep (wins R (keep (found up_to) all)) (journal all))
  closed t u it d =
      let kt = keep_has (wins R (keep (found up_to) all)) (journal all) t it in
      let st = stood t all (order_has done_earlier (committed all) t kt.0) in
      let su = stood u all (order_has done_earlier (committed all) u d.in_journal) in
      let it_all = before_has t.end st.behind all st.place in
      let iu_all = before_has u.end su.behind all su.place in
      let et = sym (won g F R up_to all c t it_all st.commit) ∙ kt.1 in
      let r = d.used in
      let s = d.wrote in
      let rc = call_parts t.end st.behind r.0 (subst (λ (l : List Entry). Has r.0 l) st.calls r.1) in
      let sc = call_parts u.end su.behind s.0 (subst (λ (l : List Entry). Has s.0 l) su.calls s.1) in
      has_keep (wins R (keep (found up_to) all)) (journal all) u d.in_journal
      (won g F R up_to all c u iu_all su.commit ∙ ended_same R up_to all s.0 u.end sc.1 (go t u d.before st su et r.0 rc.0 rc.1 r.2 s.0 sc.0 sc.1 s.2 (ap g.row_of (s.3 ∙ sym r.3)) (compare all t.end st.behind u.end su.behind st.place su.place)))
    where
      go : (t u : Done) → done_earlier u t ≡ true → (st : Stood t all) (su : Stood u all) → is_ended R up_to all t.end ≡ true → (r : Entry) → Has r st.behind → SameTxn r t.end → is_call r.kind ≡ true → (s : Entry) → Has s su.behind → SameTxn s u.end → claims s ≡ true → g.row_of s.key ≡ g.row_of r.key →
          ((t.end ≡ u.end) × (st.behind ≡ su.behind)) ⊎ (Before t.end st.behind su.behind ⊎ Before u.end su.behind st.behind) → is_ended R up_to all s ≡ true
      go t u lt st su et r ir sr cr s is ss ws row (inl q) = ended_same R up_to all t.end s (chain t.end u.end s (ap (λ (x : Entry). x.log) q.0, ap (λ (x : Entry). x.txn) q.0) (flip s u.end ss)) et
      go t u lt st su et r ir sr cr s is ss ws row (inr (inl q)) =
          -- t's end stands behind u's, so it has the smaller number
          let cl = (at g F R up_to all c u.end su.behind su.place).closes (commit_is_end u.end.kind su.commit) in
          let less = ordered u.end su.behind su.place su.commit t.end st.behind q st.commit s is ss ws r ir sr cr (sym row) in
          let le = earlier_le u.end t.end lt in
          absurd (omega arith)
      go t u lt st su et r ir sr cr s is ss ws row (inr (inr q)) =
          let e = ended_to R up_to all t.end et in
          let q2 = one_end g F all c.records e.end t.end (before_has e.end e.behind all e.place) (before_has t.end st.behind all st.place) e.is_end (commit_is_end t.end.kind st.commit) e.same in
          ended_rows g F R up_to all c t.end st.behind st.place (commit_is_end t.end.kind st.commit) (subst (λ (x : Entry). found up_to x ≡ true) q2 e.found) (subst (λ (x : Entry). x.need ≤ R) q2 e.need) r ir sr cr s (behind_has u.end su.behind st.behind q s is) ws row

  pub ripe : (t : Done) → Has t (journal all) → t.end.number ≤ up_to t.end.log → t.end.need ≤ R → Has t (keep (wins R (keep (found up_to) all)) (journal all))
  ripe t i n need =
      let st = stood t all (order_has done_earlier (committed all) t i) in
      let ia = before_has t.end st.behind all st.place in
      let ke = commit_is_end t.end.kind st.commit in
      has_keep (wins R (keep (found up_to) all)) (journal all) t i (won g F R up_to all c t ia st.commit
      ∙ ended_from R up_to all t.end t.end ia ke (refl, refl) (found_from up_to t.end (end_is_record t.end.kind ke) n) need)

-- ## Where nothing is cut

pub kept_map : (g : Opening) (F floor : ℕ) (up_to : ℕ → ℕ) (h : List Entry) (snap : ℕ → Contents) →
    Cut g F (reach g.workers floor (keep (found up_to) h)) up_to h → IsHistory g F h → ((p : ℕ) → (snap p).gsn ≤ F) → ((p : ℕ) → Had g h p (snap p)) →
    (k : ℕ) → recovered g floor snap (keep (found up_to) h) k ≡ after (first g) (keep (wins (reach g.workers floor (keep (found up_to) h)) (keep (found up_to) h)) (journal h)) k
kept_map g F floor up_to h snap c hist low had k = recovered_lasting g F floor up_to h snap c hist low had k ∙ applied_after g F (reach g.workers floor (keep (found up_to) h)) up_to h c hist k
