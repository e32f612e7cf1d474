-- What events tell is what their entries say.
use Rattle.std.proofs.Common.{◌≡◌, ◌<◌, ℕ, suc, Bool, true, false, cond, ◌&&◌, ◌||◌, leb, ltb, ◌==◌, List, [], ◌∷◌, length, Option, Some, None, refl, sym, ap, ap₂, ◌∙◌, subst, inl, inr, arith, true≢false}
use Rattle.map_model.proofs.ListLemmas.{upd_same, upd_other}
use Rattle.std.proofs.lemmas.Bool.{cases_eq, eq-eqb, ne_eqb, and_parts}
use Rattle.map_model.specs.Lists.{keep, upd}
use Rattle.map_model.specs.Maps.{MapCall, MapAnswer}
use Rattle.page_model.specs.Pairs.{find}
use Rattle.page_model.specs.Nodes.{Format}
use Rattle.page_model.specs.Records.{Record}
use Rattle.page_model.specs.Needs as record_needs
use Rattle.page_model.specs.Redo.{all_keys}
use Rattle.core_crash.specs.image_model.Entries.{Kind, Entry, is_end, is_commit, same_txn, word_in, is_record}
use Rattle.core_crash.specs.image_model.Histories.{said, write_call}
use Rattle.core_crash.specs.core_state.Lists.{is_empty}
use Rattle.core_crash.specs.core_state.Openings.{Opening}
use Rattle.core_crash.specs.core_state.States.{State, Worker, nodes_of, gsns_of, flushed_by_all}
use Rattle.core_crash.specs.core_state.Events.{Event}
use Rattle.core_crash.specs.core_state.Local.{is_of}
use Rattle.core_crash.specs.core_state.Needs.{is_held_by, holds_row, is_value, is_following, following, holds_answer, is_leaf_of, value_in, may_read, may_put, may_put_back, may_split, may_lift, may_join, may_drop, may_purge, is_settled, needs}
use Rattle.core_crash.specs.core_state.Steps.{at_pages, at_row, begun, finished, read_entry, write_entry, end_entry, page_entry, moves, put_back, follows, happens, step, run}
use Rattle.core_crash.proofs.core_commit.Says.{said_word}
use Rattle.core_calls.specs.Marks.{Mark, Began, Called, Back, Ended, found_in, back_in, mark, onto}

-- ## What entries say

abbrev pub call_mark : Format → Kind → Entry → Option Mark
call_mark f Kind.Change r = Some (Called (write_call f r.key r.after) (MapAnswer.Was (said f r.before)) true)
call_mark f Kind.Put_back r = Some (Back (write_call f r.key r.after) (MapAnswer.Was (said f r.before)))
call_mark f Kind.Read r = Some (Called (MapCall.Get r.key) (MapAnswer.Value (said f r.after)) (r.need == 1))
call_mark f _ r = None

abbrev pub entry_mark : Format → Kind → Entry → Option Mark
entry_mark f Kind.Commit r = Some (Ended true r.txn r.number)
entry_mark f Kind.Abort r = Some (Ended false r.txn r.number)
entry_mark f K r = call_mark f K r

abbrev pub call_marks : Format → List Entry → List Mark
call_marks f [] = []
call_marks f (r ∷ h) = onto (call_mark f r.kind r) (call_marks f h)

-- a commit is a record
pub commit_record : (K : Kind) → is_commit K ≡ true → is_record K ≡ true
commit_record Kind.Commit e = refl
commit_record Kind.Change e = refl
commit_record Kind.Put_back e = refl
commit_record Kind.Split e = refl
commit_record Kind.Lift e = refl
commit_record Kind.Join e = refl
commit_record Kind.Drop e = refl
commit_record Kind.Purge e = refl
commit_record Kind.Abort e = refl
commit_record Kind.Read e = absurd (true≢false (sym e))

-- a committed transaction, by its marks
pub record Deal : Type 0 where
  pub session : ℕ
  pub number : ℕ
  pub at : ℕ
  pub marks : List Mark

abbrev pub deal_of : Format → Entry → List Entry → Deal
deal_of f e h = record { session = e.log; number = e.txn; at = e.number; marks = call_marks f (keep (λ r. same_txn r e) h) }

abbrev pub deals_of : Format → List Entry → List Deal
deals_of f [] = []
deals_of f (e ∷ h) = cond (is_commit e.kind) (deal_of f e h ∷ deals_of f h) (deals_of f h)

-- ## What marks say

-- the calls since the last begin or end
abbrev pub marks_in : List Mark → List Mark
marks_in [] = []
marks_in (Began n ∷ ms) = []
marks_in (Ended c n at ∷ ms) = []
marks_in (Called c a alone ∷ ms) = Called c a alone ∷ marks_in ms
marks_in (Back c a ∷ ms) = Back c a ∷ marks_in ms

abbrev pub deal_onto : ℕ → Mark → List Mark → List Deal → List Deal
deal_onto w (Ended true n at) ms ds = record { session = w; number = n; at = at; marks = marks_in ms } ∷ ds
deal_onto w _ ms ds = ds

abbrev pub deals_in : ℕ → List Mark → List Deal
deals_in w [] = []
deals_in w (m ∷ ms) = deal_onto w m ms (deals_in w ms)

-- ## What an event adds

-- no entry
pub record Quiet (g : Opening) (s : State) (e : Event) : Type 0 where
  pub entries : (happens g s e).entries ≡ s.entries
  pub mark : mark g s e ≡ None
  pub txns : (v : ℕ) → ((happens g s e).worker v).txn ≡ (s.worker v).txn
  pub opens : (v : ℕ) → ((happens g s e).worker v).is_open ≡ (s.worker v).is_open
  pub changes : (v : ℕ) → ((happens g s e).worker v).changes ≡ (s.worker v).changes
  pub ends : (v : ℕ) → ((happens g s e).worker v).end ≡ (s.worker v).end

-- the listed changes after an entry
abbrev pub listed : Kind → Entry → List Entry → List Entry
listed Kind.Change r cs = r ∷ cs
listed Kind.Put_back r [] = []
listed Kind.Put_back r (c ∷ cs) = cs
listed _ r cs = cs

-- it puts back the newest of them; an abort has none
abbrev pub IsUndoing : Kind → Entry → List Entry → Type 0
IsUndoing Kind.Put_back r [] = ⊥
IsUndoing Kind.Put_back r (c ∷ cs) = (r.key ≡ c.key) × (r.after ≡ c.before)
IsUndoing Kind.Abort r cs = cs ≡ []
IsUndoing _ r cs = Unit {0}

-- an entry of the worker w
pub record Enters (g : Opening) (s : State) (e : Event) : Type 0 where
  pub entry : Entry
  pub worker : ℕ
  pub entries : (happens g s e).entries ≡ entry ∷ s.entries
  pub mark : mark g s e ≡ entry_mark g.format entry.kind entry
  pub by : (v : ℕ) → is_of e v ≡ (worker == v)
  pub log : entry.log ≡ worker
  pub txn : entry.txn ≡ (s.worker worker).txn
  pub was_open : (s.worker worker).is_open ≡ true
  pub txns : (v : ℕ) → ((happens g s e).worker v).txn ≡ (s.worker v).txn
  pub opens : (v : ℕ) → ((happens g s e).worker v).is_open ≡ true → (s.worker v).is_open ≡ true
  pub closed : is_end entry.kind ≡ true → ((happens g s e).worker worker).is_open ≡ false
  pub clock : is_end entry.kind ≡ true → ((happens g s e).worker worker).clock ≡ entry.number
  pub changes : is_end entry.kind ≡ false → ((happens g s e).worker worker).changes ≡ listed entry.kind entry (s.worker worker).changes
  pub undoing : IsUndoing entry.kind entry (s.worker worker).changes
  pub end_stays : is_end entry.kind ≡ false → ((happens g s e).worker worker).end ≡ (s.worker worker).end
  pub end_now : is_end entry.kind ≡ true → ((happens g s e).worker worker).end ≡ entry.number
  pub above : is_end entry.kind ≡ true → (s.worker worker).clock < entry.number
  pub opens_same : is_end entry.kind ≡ false → (v : ℕ) → ((happens g s e).worker v).is_open ≡ (s.worker v).is_open
  pub others : (v : ℕ) → (v ≡ worker → ⊥) → (happens g s e).worker v ≡ s.worker v

-- a transaction of the worker w begins
pub record Opens (g : Opening) (s : State) (e : Event) : Type 0 where
  pub worker : ℕ
  pub entries : (happens g s e).entries ≡ s.entries
  pub mark : mark g s e ≡ Some (Began (suc (s.worker worker).txn))
  pub by : (v : ℕ) → is_of e v ≡ (worker == v)
  pub next : ((happens g s e).worker worker).txn ≡ suc (s.worker worker).txn
  pub fresh : ((happens g s e).worker worker).changes ≡ []
  pub opened : ((happens g s e).worker worker).is_open ≡ true
  pub end_stays : ((happens g s e).worker worker).end ≡ (s.worker worker).end
  pub others : (v : ℕ) → (v ≡ worker → ⊥) → (happens g s e).worker v ≡ s.worker v

pub data Adds (g : Opening) (s : State) (e : Event) : Type 0 where
  None_new : Quiet g s e → Adds g s e
  One_new : Enters g s e → Adds g s e
  Begin_new : Opens g s e → Adds g s e

-- of a worker more, what stays stays for all
pub stays : {A B : Type 0} (p : A → B) (f : ℕ → A) (w : ℕ) (a : A) → p a ≡ p (f w) → (v : ℕ) → p (upd f w a v) ≡ p (f v)
stays p f w a e v = elim (cases_eq v w) [
  | inl q ↦ (rw (eq-eqb v w q) (e ∙ ap (λ (i : ℕ). p (f i)) (sym q)))
  | inr n ↦ (rw (ne_eqb v w n) refl)
]

pages_txn : (s : State) (w : ℕ) (a : Worker) (ps : List ℕ) → (at_pages s w a ps).txn ≡ a.txn
pages_txn s w a [] = refl
pages_txn s w a (p ∷ ps) = pages_txn s w a ps

pages_end : (s : State) (w : ℕ) (a : Worker) (ps : List ℕ) → (at_pages s w a ps).end ≡ a.end
pages_end s w a [] = refl
pages_end s w a (p ∷ ps) = pages_end s w a ps

pages_changes : (s : State) (w : ℕ) (a : Worker) (ps : List ℕ) → (at_pages s w a ps).changes ≡ a.changes
pages_changes s w a [] = refl
pages_changes s w a (p ∷ ps) = pages_changes s w a ps

pages_open : (s : State) (w : ℕ) (a : Worker) (ps : List ℕ) → (at_pages s w a ps).is_open ≡ a.is_open
pages_open s w a [] = refl
pages_open s w a (p ∷ ps) = pages_open s w a ps

-- a record of pages
moved : (g : Opening) (s : State) (e : Event) (K : Kind) (w : ℕ) (ps : List ℕ) (x : Record) → happens g s e ≡ moves s K w ps x → mark g s e ≡ None → ((r : Entry) → entry_mark g.format K r ≡ None) → is_end K ≡ false → ((r : Entry) (cs : List Entry) → (listed K r cs ≡ cs) × IsUndoing K r cs) → ((v : ℕ) → is_of e v ≡ (w == v)) → (s.worker w).is_open ≡ true → Adds g s e
moved g s e K w ps x h m k n u b o = One_new (record {
  entry = r;
  worker = w;
  entries = ap (λ (t : State). t.entries) h;
  mark = m ∙ sym (k r);
  by = b;
  log = refl;
  txn = pages_txn s w (s.worker w) ps;
  was_open = o;
  txns = λ v. ap (λ (t : State). (t.worker v).txn) h ∙ stays (λ (a : Worker). a.txn) s.worker w c (pages_txn s w (s.worker w) ps) v;
  opens = λ v q. sym (stays (λ (a : Worker). a.is_open) s.worker w c (pages_open s w (s.worker w) ps) v) ∙ (sym (ap (λ (t : State). (t.worker v).is_open) h) ∙ q);
  closed = λ q. absurd (true≢false (sym q ∙ n));
  clock = λ q. absurd (true≢false (sym q ∙ n));
  changes = λ _. ap (λ (t : State). (t.worker w).changes) h ∙ (ap (λ (a : Worker). a.changes) (upd_same s.worker w c w refl) ∙ (pages_changes s w (s.worker w) ps ∙ sym (u r (s.worker w).changes).0));
  undoing = (u r (s.worker w).changes).1;
  end_stays = λ _. ap (λ (t : State). (t.worker w).end) h ∙ (ap (λ (a : Worker). a.end) (upd_same s.worker w c w refl) ∙ pages_end s w (s.worker w) ps);
  end_now = λ q. absurd (true≢false (sym q ∙ n));
  above = λ q. absurd (true≢false (sym q ∙ n));
  others = λ v i. ap (λ (t : State). t.worker v) h ∙ upd_other s.worker w c v i;
  opens_same = λ _ v. ap (λ (t : State). (t.worker v).is_open) h ∙ stays (λ (a : Worker). a.is_open) s.worker w c (pages_open s w (s.worker w) ps) v;
})
  where
    r : Entry
    r = page_entry K s w (at_pages s w (s.worker w) ps) ps x

    c : Worker
    c = record (at_pages s w (s.worker w) ps) { clock = r.number; changes = (at_pages s w (s.worker w) ps).changes }

-- nothing
same : (g : Opening) (s : State) (e : Event) → (happens g s e).entries ≡ s.entries → mark g s e ≡ None → (happens g s e).worker ≡ s.worker → Adds g s e
same g s e h m w = None_new (record { entries = h; mark = m; txns = λ v. ap (λ (f : ℕ → Worker). (f v).txn) w; opens = λ v. ap (λ (f : ℕ → Worker). (f v).is_open) w; changes = λ v. ap (λ (f : ℕ → Worker). (f v).changes) w; ends = λ v. ap (λ (f : ℕ → Worker). (f v).end) w })

alone_is : (b : Bool) → ((cond b 1 0) == 1) ≡ b
alone_is true = refl
alone_is false = refl

-- what a read enters
read_mark : (g : Opening) (s : State) (w p k : ℕ) → Some (found_in g s w p k) ≡ call_mark g.format Kind.Read (read_entry w (at_pages s w (s.worker w) (p ∷ [])) k (word_in g.format (s.page p).node k) (is_held_by (s.row (g.row_of k)).holder w))
read_mark g s w p k = ap₂ (λ (v : Option ℕ) (b : Bool). Some (Called (MapCall.Get k) (MapAnswer.Value v) b)) (sym (said_word g.format (find k (s.page p).node.pairs))) (sym (alone_is (is_held_by (s.row (g.row_of k)).holder w)))

-- a read
read_adds : (g : Opening) (s : State) (e : Event) (w p k : ℕ) → happens g s e ≡ Rattle.core_crash.specs.core_state.Steps.reads g s w p k → mark g s e ≡ Some (found_in g s w p k) → ((v : ℕ) → is_of e v ≡ (w == v)) → (s.worker w).is_open ≡ true → Adds g s e
read_adds g s e w p k h m b o = One_new (record {
  entry = read_entry w a k (word_in g.format (s.page p).node k) (is_held_by (s.row (g.row_of k)).holder w);
  worker = w;
  entries = ap (λ (t : State). t.entries) h;
  mark = m ∙ read_mark g s w p k;
  by = b;
  log = refl;
  txn = refl;
  was_open = o;
  txns = λ v. ap (λ (t : State). (t.worker v).txn) h ∙ stays (λ (a : Worker). a.txn) s.worker w a refl v;
  opens = λ v q. sym (stays (λ (a : Worker). a.is_open) s.worker w a refl v) ∙ (sym (ap (λ (t : State). (t.worker v).is_open) h) ∙ q);
  closed = λ q. absurd (true≢false (sym q));
  clock = λ q. absurd (true≢false (sym q));
  changes = λ _. ap (λ (t : State). (t.worker w).changes) h ∙ ap (λ (z : Worker). z.changes) (upd_same s.worker w a w refl);
  undoing = tt;
  end_stays = λ _. ap (λ (t : State). (t.worker w).end) h ∙ ap (λ (z : Worker). z.end) (upd_same s.worker w a w refl);
  end_now = λ q. absurd (true≢false (sym q));
  above = λ q. absurd (true≢false (sym q));
  others = λ v i. ap (λ (t : State). t.worker v) h ∙ upd_other s.worker w a v i;
  opens_same = λ _ v. ap (λ (t : State). (t.worker v).is_open) h ∙ stays (λ (z : Worker). z.is_open) s.worker w a refl v;
})
  where
    a : Worker
    a = at_pages s w (s.worker w) (p ∷ [])

-- a write, of a kind that is no end
write_adds : (g : Opening) (s : State) (e : Event) (K : Kind) (w p k v : ℕ) (changes : Entry → List Entry) → happens g s e ≡ Rattle.core_crash.specs.core_state.Steps.writes g s K w p k v changes →
    mark g s e ≡ entry_mark g.format K (write_entry g K s w (at_pages s w (s.worker w) (p ∷ [])) p k v) → is_end K ≡ false →
    ((r : Entry) → r.key ≡ k → r.after ≡ v → (changes r ≡ listed K r (s.worker w).changes) × IsUndoing K r (s.worker w).changes) → ((v : ℕ) → is_of e v ≡ (w == v)) → (s.worker w).is_open ≡ true → Adds g s e
write_adds g s e K w p k v changes h m n u b o = One_new (record {
  entry = r;
  worker = w;
  entries = ap (λ (t : State). t.entries) h;
  mark = m;
  by = b;
  log = refl;
  txn = refl;
  was_open = o;
  txns = λ v. ap (λ (t : State). (t.worker v).txn) h ∙ stays (λ (a : Worker). a.txn) s.worker w c refl v;
  opens = λ v q. sym (stays (λ (a : Worker). a.is_open) s.worker w c refl v) ∙ (sym (ap (λ (t : State). (t.worker v).is_open) h) ∙ q);
  closed = λ q. absurd (true≢false (sym q ∙ n));
  clock = λ q. absurd (true≢false (sym q ∙ n));
  changes = λ _. ap (λ (t : State). (t.worker w).changes) h ∙ (ap (λ (z : Worker). z.changes) (upd_same s.worker w c w refl) ∙ (u r refl refl).0);
  undoing = (u r refl refl).1;
  end_stays = λ _. ap (λ (t : State). (t.worker w).end) h ∙ ap (λ (z : Worker). z.end) (upd_same s.worker w c w refl);
  end_now = λ q. absurd (true≢false (sym q ∙ n));
  above = λ q. absurd (true≢false (sym q ∙ n));
  others = λ v i. ap (λ (t : State). t.worker v) h ∙ upd_other s.worker w c v i;
  opens_same = λ _ v. ap (λ (t : State). (t.worker v).is_open) h ∙ stays (λ (z : Worker). z.is_open) s.worker w c refl v;
})
  where
    r : Entry
    r = write_entry g K s w (at_pages s w (s.worker w) (p ∷ [])) p k v

    c : Worker
    c = record (at_pages s w (s.worker w) (p ∷ [])) { clock = r.number; changes = changes r }

end_adds : (g : Opening) (s : State) (w : ℕ) (b : Bool) (f : ℕ) → (s.worker w).is_open ≡ true → (b ≡ false → (s.worker w).changes ≡ []) → Adds g s (Event.End w b f)
end_adds g s w b f o empty = One_new (record {
  entry = end_entry (cond b Kind.Commit Kind.Abort) w (s.worker w) f;
  worker = w;
  entries = refl;
  mark = marked b;
  by = λ v. refl;
  log = refl;
  txn = refl;
  was_open = o;
  txns = λ v. stays (λ (a : Worker). a.txn) s.worker w (finished (s.worker w) (suc (s.worker w).clock)) refl v;
  opens = λ v q. elim (cases_eq v w) [
    | inl i ↦ absurd (true≢false (sym q ∙ ap (λ (a : Worker). a.is_open) (ap (upd s.worker w (finished (s.worker w) (suc (s.worker w).clock))) i ∙ upd_same s.worker w (finished (s.worker w) (suc (s.worker w).clock)) w refl)))
    | inr i ↦ sym (ap (λ (a : Worker). a.is_open) (upd_other s.worker w (finished (s.worker w) (suc (s.worker w).clock)) v i)) ∙ q
  ];
  closed = λ _. ap (λ (a : Worker). a.is_open) (upd_same s.worker w (finished (s.worker w) (suc (s.worker w).clock)) w refl);
  clock = λ _. ap (λ (a : Worker). a.clock) (upd_same s.worker w (finished (s.worker w) (suc (s.worker w).clock)) w refl);
  changes = λ q. absurd (true≢false (sym (ends b) ∙ q));
  undoing = undone b empty;
  end_stays = λ q. absurd (true≢false (sym (ends b) ∙ q));
  end_now = λ _. ap (λ (a : Worker). a.end) (upd_same s.worker w (finished (s.worker w) (suc (s.worker w).clock)) w refl);
  above = λ _. omega arith;
  others = λ v i. upd_other s.worker w (finished (s.worker w) (suc (s.worker w).clock)) v i;
  opens_same = λ q. absurd (true≢false (sym (ends b) ∙ q));
})
  where
    ends : (b : Bool) → is_end (cond b Kind.Commit Kind.Abort) ≡ true
    ends true = refl
    ends false = refl

    undone : (b : Bool) → (b ≡ false → (s.worker w).changes ≡ []) → IsUndoing (cond b Kind.Commit Kind.Abort) (end_entry (cond b Kind.Commit Kind.Abort) w (s.worker w) f) (s.worker w).changes
    undone true q = tt
    undone false q = q refl

    marked : (b : Bool) → Some (Ended b (s.worker w).txn (suc (s.worker w).clock)) ≡ entry_mark g.format (cond b Kind.Commit Kind.Abort) (end_entry (cond b Kind.Commit Kind.Abort) w (s.worker w) f)
    marked true = refl
    marked false = refl

pub adds : (g : Opening) (s : State) (e : Event) → needs g s e ≡ true → Adds g s e
adds g s (Event.Begin w f) m = Begin_new (record {
  worker = w;
  entries = refl;
  mark = refl;
  by = λ v. refl;
  next = ap (λ (a : Worker). a.txn) (upd_same s.worker w (begun (s.worker w) f) w refl);
  fresh = ap (λ (a : Worker). a.changes) (upd_same s.worker w (begun (s.worker w) f) w refl);
  opened = ap (λ (a : Worker). a.is_open) (upd_same s.worker w (begun (s.worker w) f) w refl);
  end_stays = ap (λ (a : Worker). a.end) (upd_same s.worker w (begun (s.worker w) f) w refl);
  others = λ v n. upd_other s.worker w (begun (s.worker w) f) v n;
})
adds g s (Event.Read w p k a) m = read_adds g s (Event.Read w p k a) w p k refl refl (λ v. refl)
    (and_parts (s.worker w).is_open (holds_row (s.row (g.row_of k)) w && is_leaf_of g (s.page p).node p k) (and_parts (may_read g s w p k) (is_value a (value_in g.format (s.page p).node k)) m).0).0
adds g s (Event.Next w p k a) m = go a (and_parts (s.worker w).is_open (is_leaf_of g (s.page p).node p k && (is_following a (following g.format k (s.page p).node.pairs (s.page p).node.high) && holds_answer g s w a)) m).0
  where
    go : (a : MapAnswer) → (s.worker w).is_open ≡ true → Adds g s (Event.Next w p k a)
    go (MapAnswer.Pair at v) o = read_adds g s (Event.Next w p k (MapAnswer.Pair at v)) w p at refl refl (λ v. refl) o
    go (MapAnswer.Gap b) o = None_new (record {
      entries = refl;
      mark = refl;
      txns = stays (λ (a : Worker). a.txn) s.worker w (at_pages s w (s.worker w) (p ∷ [])) refl;
      opens = stays (λ (a : Worker). a.is_open) s.worker w (at_pages s w (s.worker w) (p ∷ [])) refl;
      changes = stays (λ (a : Worker). a.changes) s.worker w (at_pages s w (s.worker w) (p ∷ [])) refl;
      ends = stays (λ (a : Worker). a.end) s.worker w (at_pages s w (s.worker w) (p ∷ [])) refl;
    })
    go (MapAnswer.Value b) o = same g s (Event.Next w p k (MapAnswer.Value b)) refl refl refl
    go (MapAnswer.Was b) o = same g s (Event.Next w p k (MapAnswer.Was b)) refl refl refl
adds g s (Event.Change w p k v) m = write_adds g s (Event.Change w p k v) Kind.Change w p k v (λ r. r ∷ (s.worker w).changes) refl
    (ap (λ (o : Option ℕ). Some (Called (write_call g.format k v) (MapAnswer.Was o) true)) (sym (said_word g.format (find k (s.page p).node.pairs)))) refl (λ r i j. (refl, tt)) (λ v. refl)
    (and_parts (s.worker w).is_open (is_held_by (s.row (g.row_of k)).holder w && may_put g (s.page p).node p k v) (and_parts (ltb (length (s.worker w).changes) g.changes) ((s.worker w).is_open && (is_held_by (s.row (g.row_of k)).holder w && may_put g (s.page p).node p k v)) m).1).0
adds g s (Event.Put_back w p) m = go (s.worker w).changes refl (and_parts (s.worker w).is_open (may_put_back g (s.page p).node p (s.worker w).changes) m)
  where
    go : (cs : List Entry) → (s.worker w).changes ≡ cs → ((s.worker w).is_open ≡ true) × (may_put_back g (s.page p).node p cs ≡ true) → Adds g s (Event.Put_back w p)
    go [] e q = absurd (true≢false (sym q.1))
    go (c ∷ cs) e q = write_adds g s (Event.Put_back w p) Kind.Put_back w p c.key c.before (λ _. cs)
        (ap (put_back g s w p) e) (ap (back_in g s p) e ∙ ap (λ (o : Option ℕ). Some (Back (write_call g.format c.key c.before) (MapAnswer.Was o))) (sym (said_word g.format (find c.key (s.page p).node.pairs)))) refl
        (λ r i j. (sym (ap (listed Kind.Put_back r) e), subst (IsUndoing Kind.Put_back r) (sym e) (i, j))) (λ v. refl) q.0
adds g s (Event.Split w l r q i) m = moved g s (Event.Split w l r q i) Kind.Split w (l ∷ r ∷ q ∷ []) (record_needs.split_record (nodes_of s) (gsns_of s) l r q i) refl refl (λ r. refl) refl (λ r cs. (refl, tt)) (λ v. refl) (and_parts (s.worker w).is_open (may_split g (nodes_of s) l r q i) m).0
adds g s (Event.Lift w c) m = moved g s (Event.Lift w c) Kind.Lift w (0 ∷ c ∷ []) (record_needs.lift_record (nodes_of s) (gsns_of s) c) refl refl (λ r. refl) refl (λ r cs. (refl, tt)) (λ v. refl) (and_parts (s.worker w).is_open (may_lift g (nodes_of s) c) m).0
adds g s (Event.Join w l r q) m = moved g s (Event.Join w l r q) Kind.Join w (l ∷ r ∷ q ∷ []) (record_needs.join_record (nodes_of s) (gsns_of s) l r q) refl refl (λ r. refl) refl (λ r cs. (refl, tt)) (λ v. refl) (and_parts (s.worker w).is_open (may_join g (nodes_of s) l r q) m).0
adds g s (Event.Drop w c) m = moved g s (Event.Drop w c) Kind.Drop w (0 ∷ c ∷ []) (record_needs.drop_record (nodes_of s) (gsns_of s) c) refl refl (λ r. refl) refl (λ r cs. (refl, tt)) (λ v. refl) (and_parts (s.worker w).is_open (may_drop (nodes_of s) c) m).0
adds g s (Event.Purge w p keys) m = moved g s (Event.Purge w p keys) Kind.Purge w (p ∷ []) (record_needs.purge_record (gsns_of s) p keys) refl refl (λ r. refl) refl (λ r cs. (refl, tt)) (λ v. refl) (and_parts (s.worker w).is_open (may_purge g (nodes_of s) p keys && all_keys (λ k. is_settled g s k) keys) m).0
adds g s (Event.End w commit f) m = end_adds g s w commit f q.0 (λ c. none (s.worker w).changes (sym (ap (λ (b : Bool). b || is_empty (s.worker w).changes) c) ∙ r.1))
  where
    q : ((s.worker w).is_open ≡ true) × ((leb (s.worker w).floor f && (leb f (flushed_by_all g s) && (commit || is_empty (s.worker w).changes))) ≡ true)
    q = and_parts (s.worker w).is_open (leb (s.worker w).floor f && (leb f (flushed_by_all g s) && (commit || is_empty (s.worker w).changes))) m

    r : (leb f (flushed_by_all g s) ≡ true) × ((commit || is_empty (s.worker w).changes) ≡ true)
    r = and_parts (leb f (flushed_by_all g s)) (commit || is_empty (s.worker w).changes) (and_parts (leb (s.worker w).floor f) (leb f (flushed_by_all g s) && (commit || is_empty (s.worker w).changes)) q.1).1

    none : (cs : List Entry) → is_empty cs ≡ true → cs ≡ []
    none [] e = refl
    none (c ∷ cs) e = absurd (true≢false (sym e))
adds g s (Event.Lock w i mode) m = None_new (record {
  entries = refl;
  mark = refl;
  txns = stays (λ (a : Worker). a.txn) s.worker w (at_row w (s.worker w) (s.row i)) refl;
  opens = stays (λ (a : Worker). a.is_open) s.worker w (at_row w (s.worker w) (s.row i)) refl;
  changes = stays (λ (a : Worker). a.changes) s.worker w (at_row w (s.worker w) (s.row i)) refl;
  ends = stays (λ (a : Worker). a.end) s.worker w (at_row w (s.worker w) (s.row i)) refl;
})
adds g s (Event.Sync n) m = None_new (record { entries = refl; mark = refl; txns = λ v. refl; opens = λ v. refl; changes = λ v. refl; ends = λ v. refl })
adds g s (Event.Enter w e) m = same g s (Event.Enter w e) refl refl refl
adds g s (Event.Leave w) m = same g s (Event.Leave w) refl refl refl
adds g s (Event.Peek w p k a) m = same g s (Event.Peek w p k a) refl refl refl
adds g s (Event.Unlock w i) m = same g s (Event.Unlock w i) refl refl refl
adds g s (Event.Flush w n) m = same g s (Event.Flush w n) refl refl refl
adds g s (Event.Post w n) m = same g s (Event.Post w n) refl refl refl
adds g s (Event.Fetch p pairs) m = same g s (Event.Fetch p pairs) refl refl refl
adds g s (Event.Load p f) m = same g s (Event.Load p f) refl refl refl
adds g s (Event.Cool p) m = same g s (Event.Cool p) refl refl refl
adds g s (Event.Rescue p) m = same g s (Event.Rescue p) refl refl refl
adds g s (Event.Save p) m = same g s (Event.Save p) refl refl refl
adds g s (Event.Evict p) m = same g s (Event.Evict p) refl refl refl
adds g s Event.Tick m = same g s Event.Tick refl refl refl
adds g s (Event.Cut x heads) m = same g s (Event.Cut x heads) refl refl refl
adds g s (Event.Ask w) m = same g s (Event.Ask w) refl refl refl
adds g s (Event.Refused w n k) m = same g s (Event.Refused w n k) refl refl refl
adds g s (Event.Miss w) m = same g s (Event.Miss w) refl refl refl
