-- Replays of calls.
use Rattle.std.specs.Prelude.{Vec, nat_le}
use Rattle.std.specs.declared.alloc.Global.{Global}
use Rattle.std.proofs.lemmas.List.{take_more}
use Rattle.std.proofs.lemmas.Bool.{cases_lt, le-leb}
use Rattle.std.proofs.Common.{◌+◌, ⊎_elim, length, get_or, take, not, ◌≡◌, ℕ, ◌≤◌, ◌<◌, Bool, true, false, if◌then◌else◌, List, [], ◌∷◌, ◌++◌, refl, sym, ◌∙◌, ap, arith}
use Rattle.lean_disk.specs.Area.{Area, written}
use Rattle.std.specs.List.{AllByRecursion}
use Rattle.std.proofs.lemmas.Bool.Decides.{nat_tests}
use Rattle.lean_disk.specs.Replay.{step, replay, upto}
use Rattle.lean_disk.specs.declared.area_log.Call.{Call}
use Rattle.lean_disk.specs.declared.area_log.What.TheVariants.{Wrote, Synced}

pub replay_push : (x : Area) (calls : List Call) (call : Call) → replay x (calls ++ call ∷ []) ≡ step (replay x calls) call.what
replay_push x [] call = refl
replay_push x (c ∷ calls) call = replay_push (step x c.what) calls call

-- one call more or none, which leaves the bytes as they are
pub kept_push : (x : Area) (calls after : List Call) (call : Call) (bytes : List ℕ) (b : Bool)
    → after ≡ (if b then calls ++ call ∷ [] else calls)
    → ((y : Area) → (step y call.what).bytes ≡ y.bytes) → (replay x calls).bytes ≡ bytes → (replay x after).bytes ≡ bytes
kept_push x calls after call bytes true is same kept = ap (λ (cs : List Call). (replay x cs).bytes) is ∙ ap (λ (y : Area). y.bytes) (replay_push x calls call) ∙ same (replay x calls) ∙ kept
kept_push x calls after call bytes false is same kept = ap (λ (cs : List Call). (replay x cs).bytes) is ∙ kept

pub sync_keeps : (done : Bool) (y : Area) → (step y (Synced done)).bytes ≡ y.bytes
sync_keeps true y = refl
sync_keeps false y = refl

pub wrote_keeps : (at : ℕ) (copy : Vec ℕ Global) (failed : Bool) → failed ≡ true → (y : Area) → (step y (Wrote at copy (not failed))).bytes ≡ y.bytes
wrote_keeps at copy true is y = refl
wrote_keeps at copy false is y = cc

pub wrote_does : (at : ℕ) (copy : Vec ℕ Global) (failed : Bool) → failed ≡ false → (y : Area) → step y (Wrote at copy (not failed)) ≡ written at copy.items y
wrote_does at copy false is y = refl
wrote_does at copy true is y = cc

pub upto_yes : (k : ℕ) (c : Call) (cs : List Call) → c.number ≤ k → upto k (c ∷ cs) ≡ c ∷ upto k cs
upto_yes k c cs le = ap (λ (b : Bool). if b then c ∷ upto k cs else upto k cs) (le-leb c.number k le)

pub upto_no : (k : ℕ) (c : Call) (cs : List Call) → k < c.number → upto k (c ∷ cs) ≡ upto k cs
upto_no k c cs lt = ap (λ (b : Bool). if b then c ∷ upto k cs else upto k cs) (let e : nat_le c.number k ≡ false = grind (arith, nat_tests) in e)

pub upto_push_later : (k : ℕ) (cs : List Call) (c : Call) → k < c.number → upto k (cs ++ c ∷ []) ≡ upto k cs
upto_push_later k [] c lt = upto_no k c [] lt
upto_push_later k (x ∷ cs) c lt = ap (λ (l : List Call). if nat_le x.number k then x ∷ l else l) (upto_push_later k cs c lt)

pub upto_all : (k : ℕ) (cs : List Call) → AllByRecursion (λ c. c.number ≤ k) cs → upto k cs ≡ cs
upto_all k [] all = refl
upto_all k (c ∷ cs) all = upto_yes k c cs all.0 ∙ ap (λ (l : List Call). c ∷ l) (upto_all k cs all.1)

module _ (P : Call → Type 0) where
  pub all_push : (cs : List Call) (c : Call) → AllByRecursion P cs → P c → AllByRecursion P (cs ++ c ∷ [])
  all_push [] c all here = (here, tt)
  all_push (x ∷ cs) c all here = (all.0, all_push cs c all.1 here)

  pub all_prefix : (cs : List Call) (c : Call) → AllByRecursion P (cs ++ c ∷ []) → AllByRecursion P cs
  all_prefix [] c all = tt
  all_prefix (x ∷ cs) c all = (all.0, all_prefix cs c all.1)

  pub all_last : (cs : List Call) (c : Call) → AllByRecursion P (cs ++ c ∷ []) → P c
  all_last [] c all = all.0
  all_last (x ∷ cs) c all = all_last cs c all.1

pub all_weaker : (P Q : Call → Type 0) → ((c : Call) → P c → Q c) → (cs : List Call) → AllByRecursion P cs → AllByRecursion Q cs
all_weaker P Q f [] all = tt
all_weaker P Q f (c ∷ cs) all = (f c all.0, all_weaker P Q f cs all.1)

pub all_both : (P Q R : Call → Type 0) → ((c : Call) → P c → Q c → R c) → (cs : List Call) → AllByRecursion P cs → AllByRecursion Q cs → AllByRecursion R cs
all_both P Q R f [] p q = tt
all_both P Q R f (c ∷ cs) p q = (f c p.0 q.0, all_both P Q R f cs p.1 q.1)

pub upto_push_now : (k : ℕ) (cs : List Call) (c : Call) → c.number ≤ k → upto k (cs ++ c ∷ []) ≡ upto k cs ++ c ∷ []
upto_push_now k [] c le = upto_yes k c [] le
upto_push_now k (x ∷ cs) c le = ⊎_elim
    (λ (lt : k < x.number). upto_no k x (cs ++ c ∷ []) lt ∙ upto_push_now k cs c le ∙ ap (λ (l : List Call). l ++ c ∷ []) (sym (upto_no k x cs lt)))
    (λ (l : x.number ≤ k). upto_yes k x (cs ++ c ∷ []) l ∙ ap (λ (m : List Call). x ∷ m) (upto_push_now k cs c le) ∙ ap (λ (m : List Call). m ++ c ∷ []) (sym (upto_yes k x cs l)))
    (cases_lt k x.number)

-- one more call of a list
pub replay_more_now : (x : Area) (k : ℕ) (calls : List Call) (i : ℕ) (c : Call) → i < length calls → c ≡ get_or calls i c → c.number ≤ k
    → replay x (upto k (take (i + 1) calls)) ≡ step (replay x (upto k (take i calls))) c.what
replay_more_now x k calls i c lt is le =
    ap (λ (l : List Call). replay x (upto k l)) (take_more calls i c lt ∙ ap (λ (d : Call). take i calls ++ d ∷ []) (sym is)) ∙ ap (replay x) (upto_push_now k (take i calls) c le) ∙ replay_push x (upto k (take i calls)) c

pub replay_more_later : (x : Area) (k : ℕ) (calls : List Call) (i : ℕ) (c : Call) → i < length calls → c ≡ get_or calls i c → k < c.number
    → replay x (upto k (take (i + 1) calls)) ≡ replay x (upto k (take i calls))
replay_more_later x k calls i c lt is gt =
    ap (λ (l : List Call). replay x (upto k l)) (take_more calls i c lt ∙ ap (λ (d : Call). take i calls ++ d ∷ []) (sym is)) ∙ ap (replay x) (upto_push_later k (take i calls) c gt)
