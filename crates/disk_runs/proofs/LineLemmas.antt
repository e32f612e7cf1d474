-- The masters of one run, and fairness since a story.
use Rattle.std.proofs.Common.{◌≡◌, ◌≤◌, inl, inr, ⊎_elim, ◌+◌, ◌++◌, ℕ, suc, Bool, true, false, cond, List, [], ◌∷◌, length, codes, refl, sym, ap, ◌∙◌, subst, arith}
use Rattle.map_model.specs.Lists.{keep}
use Rattle.master_store.specs.image_model.Fair.{IsFair}
use Rattle.core_disk.specs.core_state.Events.{Event}
use Rattle.lean_disk.specs.Area.{Write}
use Rattle.lean_disk.specs.Story.{Crash, Story}
use Rattle.master_store.specs.disk_slots.declared.master.Master.{Master}
use Rattle.master_store.specs.disk_slots.Slots.{IsSealed}
use Rattle.master_store.specs.log_block.Block as blocks
use Rattle.master_store.specs.disk_image.Fair.{IsFairCrash}
use Rattle.disk_runs.specs.Fair.{EveryFair, IsAsRead, IsFairFrom}
use Rattle.disk_runs.specs.Masters.{EveryMasterCount, EveryMasterLine, IsNextOf, IsNoEarlier, IsOfRunBy, is_master, masters}

-- ## Masters by events

-- those of two parts of a run
pub masters_more : (xs ys : List Event) → masters (xs ++ ys) ≡ masters xs + masters ys
masters_more [] ys = omega arith
masters_more (e ∷ xs) ys = go (masters_more xs ys) (is_master e)
  where
    go : masters (xs ++ ys) ≡ masters xs + masters ys → (b : Bool) → length (cond b (e ∷ keep is_master (xs ++ ys)) (keep is_master (xs ++ ys))) ≡ length (cond b (e ∷ keep is_master xs) (keep is_master xs)) + masters ys
    go ih true = omega (arith, ih)
    go ih false = ih

masters_few : (es : List Event) → masters es ≤ length es
masters_few [] = omega arith
masters_few (e ∷ es) = go (masters_few es) (is_master e)
  where
    go : masters es ≤ length es → (b : Bool) → length (cond b (e ∷ keep is_master es) (keep is_master es)) ≤ length (e ∷ es)
    go ih true = omega (arith, ih)
    go ih false = omega (arith, ih)

pub every_master_count : EveryMasterCount
every_master_count xs ys = record { more = masters_more xs ys; few = masters_few xs }

masters_one : (e : Event) → is_master e ≡ true → masters (e ∷ []) ≡ 1
masters_one e is = ap (λ (b : Bool). length (cond b (e ∷ []) [])) is

pub same : (es : List Event) (n : Master) → IsNoEarlier es n n
same es n = record { sequence = omega arith; most = omega arith; generation = refl; pages = refl; blocks = refl; logs = refl }

pub next : (e : Event) (n m : Master) → is_master e ≡ true → IsNextOf n m → IsNoEarlier (e ∷ []) n m
next e n m is x = record {
  sequence = let q = x.sequence in omega arith;
  most = let q = x.sequence in let one = masters_one e is in omega arith;
  generation = x.generation;
  pages = x.pages;
  blocks = x.blocks;
  logs = x.logs;
}

pub further : (xs ys : List Event) (n m k : Master) → IsNoEarlier xs n m → IsNoEarlier ys m k → IsNoEarlier (xs ++ ys) n k
further xs ys n m k x y = record {
  sequence = let a = x.sequence in let b = y.sequence in omega arith;
  most = let a = x.most in let b = y.most in let all = masters_more xs ys in omega arith;
  generation = y.generation ∙ x.generation;
  pages = y.pages ∙ x.pages;
  blocks = y.blocks ∙ x.blocks;
  logs = y.logs ∙ x.logs;
}

pub of_run : (es : List Event) (n m : Master) → IsNoEarlier es n m → IsOfRunBy es n m
of_run es n m x = record {
  of_run = record { pages = x.pages; blocks = x.blocks; logs = x.logs; generation = inl x.generation; sequence = x.sequence };
  most = let a = x.most in let q = x.generation in omega arith;
}

pub opened : (xs ys : List Event) (n m k : Master) → IsOfRunBy xs n m → IsNoEarlier ys m k → IsOfRunBy (xs ++ ys) n k
opened xs ys n m k x y = record {
  of_run = record {
    pages = y.pages ∙ x.of_run.pages;
    blocks = y.blocks ∙ x.of_run.blocks;
    logs = y.logs ∙ x.of_run.logs;
    generation = ⊎_elim (λ q. inl (y.generation ∙ q)) (λ q. inr (y.generation ∙ q)) x.of_run.generation;
    sequence = let a = x.of_run.sequence in let b = y.sequence in omega arith;
  };
  most = let a = x.most in let b = y.most in let q = y.generation in let all = masters_more xs ys in omega arith;
}

pub every_master_line : EveryMasterLine
every_master_line n m k = record { same = λ es. same es n; next = λ e. next e n m; further = λ xs ys. further xs ys n m k; of_run = λ es. of_run es n m; opened = λ xs ys. opened xs ys n m k }

-- ## Fairness

-- what is said of the bytes and the writes where it began is so of equal ones
moved : (first other : List ℕ) (older others writes : List Write) (P : List ℕ → List Write → Type 0) → first ≡ other → older ≡ others
    → ((since : List Write) → writes ≡ since ++ older → P first since) → (since : List Write) → writes ≡ since ++ others → P other since
moved first other older others writes P e q f since is = subst (λ (b : List ℕ). P b since) e (f since (is ∙ ap (λ (ws : List Write). since ++ ws) (sym q)))

module _ (s : Story) (logs : ℕ) (s0 c : Crash) (read : IsAsRead s s0) where
  abbrev Masters : List ℕ → List Write → Type 0
  Masters b ws = IsFair 1024 (IsSealed (codes "LEANMAST")) b ws (c.image 0)

  abbrev Pages : List ℕ → List Write → Type 0
  Pages b ws = IsFair 1024 (IsSealed (codes "LEANPAGE")) b ws (c.image 1)

  abbrev Log : ℕ → List ℕ → List Write → Type 0
  Log w b ws = IsFair 2048 blocks.IsSealed b ws (c.image (suc w))

  there : IsFairCrash logs s c → IsFairFrom logs s0 c
  there f = record {
    masters = moved (s.area 0).bytes (s0.image 0) (s.area 0).writes (s0.writes 0) (c.writes 0) Masters (sym (read.image 0)) (sym (read.writes 0)) f.masters;
    pages = moved (s.area 1).bytes (s0.image 1) (s.area 1).writes (s0.writes 1) (c.writes 1) Pages (sym (read.image 1)) (sym (read.writes 1)) f.pages;
    log = λ w low high. moved (s.area (suc w)).bytes (s0.image (suc w)) (s.area (suc w)).writes (s0.writes (suc w)) (c.writes (suc w)) (Log w) (sym (read.image (suc w))) (sym (read.writes (suc w))) (f.log w low high);
  }

  back : IsFairFrom logs s0 c → IsFairCrash logs s c
  back f = record {
    masters = moved (s0.image 0) (s.area 0).bytes (s0.writes 0) (s.area 0).writes (c.writes 0) Masters (read.image 0) (read.writes 0) f.masters;
    pages = moved (s0.image 1) (s.area 1).bytes (s0.writes 1) (s.area 1).writes (c.writes 1) Pages (read.image 1) (read.writes 1) f.pages;
    log = λ w low high. moved (s0.image (suc w)) (s.area (suc w)).bytes (s0.writes (suc w)) (s.area (suc w)).writes (c.writes (suc w)) (Log w) (read.image (suc w)) (read.writes (suc w)) (f.log w low high);
  }

pub every_fair : (s : Story) → EveryFair s
every_fair s logs s0 c read = (there s logs s0 c read, back s logs s0 c read)
