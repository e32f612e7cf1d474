-- Every run keeps all of it.
use Rattle.page_model.specs.Check.{names_page}
use Rattle.page_model.proofs.Tree.{ok}
use Rattle.core_commit.specs.core_state.States.{Place, State, start, nodes_of, is_hot, in_frame, waits_for}
use Rattle.core_commit.specs.core_state.Openings.{Opening}
use Rattle.core_commit.specs.core_state.States.Place.{Hot, Cold}
use Rattle.core_commit.specs.core_state.Events.{Event}
use Rattle.core_commit.specs.core_state.Needs.{are_hot, pages_of, is_worker, is_inside, may, needs}
use Rattle.core_commit.specs.core_state.Steps.{happens, step, run}
use Rattle.map_model.proofs.ListLemmas.{upd_same}
use Rattle.core_commit.proofs.Controls.{worker_to}
use Rattle.core_commit.proofs.Copies.{at_place}
use Rattle.core_commit.proofs.Runs.{Good, step_keeps, good_event, good_start}
use Rattle.core_paging.specs.Kept.{Paged, EveryKind}
use Rattle.core_commit.proofs.KindLemmas.{each_kind}
use Rattle.core_paging.specs.Paging.{EveryResidence, EverySaved, Linked, EpochRule, EveryWaiting, EveryRipe, EveryHot}
use Rattle.core_paging.proofs.Epochs.{Inside, inside_run, Kept, kept_run, Waits, waits_event}
use Rattle.core_paging.proofs.ResidenceKept.{PlacedIn, placed_event, placed_start}
use Rattle.core_paging.proofs.Saves.{Saves, saves_event, saves_start, saved_run, now_been}
use Rattle.std.proofs.Common.{◌≡◌, ◌<◌, ◌≤◌, ◌+◌, ℕ, zero, suc, Bool, true, false, cond, ◌&&◌, not, leb, ltb, ◌==◌, List, [], ◌∷◌, ◌⊎◌, Some, refl, sym, ap, ◌∙◌, inl, inr, arith, true≢false}
use Rattle.std.proofs.lemmas.Bool.{cases_eq, cases_Bool, eq-eqb, and_parts, and_from}

pub record Whole (g : Opening) (s : State) : Type 0 where
  pub good : Good g s
  pub placed : PlacedIn g s
  pub saves : Saves g s
  pub waits : Waits s

pub whole_event : (g : Opening) (s : State) → Whole g s → (e : Event) → may g s e ≡ true → Whole g (happens g s e)
whole_event g s i e m = let p = and_parts (are_hot s (pages_of e)) (needs g s e) m in record {
  good = good_event g s i.good e m;
  placed = placed_event g s i.good i.placed e p.0 p.1;
  saves = saves_event g s i.good i.saves e p.1;
  waits = waits_event g s i.waits e p.1;
}

pub whole_run : (g : Opening) (s : State) → Whole g s → (es : List Event) → Whole g (run g s es)
whole_run g s i [] = i
whole_run g s i (e ∷ es) = whole_run g (step g s e) (step_keeps (Whole g) g s e i (whole_event g s i e)) es

pub whole_start : (g : Opening) → Whole g (start g)
whole_start g = record {
  good = good_start g;
  placed = placed_start g;
  saves = saves_start g;
  waits = record {
    local = λ w x e. absurd (true≢false (sym (ap is_inside e)));
    some = λ w x e. absurd (true≢false (sym (ap is_inside e)));
    waits = λ p w h. absurd (true≢false (sym h ∙ at_place (λ j x. waits_for x w ≡ false) (λ _. Cold) 0 (Hot 0) p (λ _. refl) (λ _. refl)));
  };
}

pub every_whole : (g : Opening) (es : List Event) → Whole g (run g (start g) es)
every_whole g es = whole_run g (start g) (whole_start g) es

-- the same in the words of the contract
paged : (g : Opening) (s : State) → Whole g s → Paged g s
paged g s i = record {
  good = i.good;
  residence = record {
    one = i.placed.one;
    within = i.placed.within;
    root = i.placed.root;
    parent = i.placed.parent;
    queue = i.placed.queue;
    cold = i.good.copied.cold;
  };
  saves = i.saves;
  waiting = record { local = i.waits.local; some = i.waits.some; waits = i.waits.waits };
}

whole : (g : Opening) (s : State) → Paged g s → Whole g s
whole g s i = record {
  good = i.good;
  placed = record {
    one = i.residence.one;
    within = i.residence.within;
    root = i.residence.root;
    parent = i.residence.parent;
    queue = i.residence.queue;
  };
  saves = i.saves;
  waits = record { local = i.waiting.local; some = i.waiting.some; waits = i.waiting.waits };
}

pub every_kind : EveryKind
every_kind g = each_kind g (Paged g) (paged g (start g) (whole_start g)) (λ e s i m. paged g (happens g s e) (whole_event g s (whole g s i) e m))

pub every_residence : EveryResidence
every_residence g es = (paged g (run g (start g) es) (every_whole g es)).residence

pub every_saved : EverySaved
every_saved g es = let i = every_whole g es in record {
  pages = λ p. elim (saved_run g es (start g) p) [ inl e ↦ now_been g es (start g) p ((run g (start g) es).saved p) e | inr h ↦ h ];
  numbers = i.saves.numbers;
  changes = i.saves.held;
  clean = i.good.copied.clean;
}

pub epoch_rule : EpochRule
epoch_rule g before w e during after f p m sd sa r = (kept.here, λ q h. after_inv.placed.one q p f h kept.here)
  where
    entering : State
    entering = run g (start g) before

    inside : State
    inside = step g entering (Event.Enter w e)

    seen : State
    seen = run g inside during

    entered : inside ≡ happens g entering (Event.Enter w e)
    entered = go (may g entering (Event.Enter w e)) m
      where
        go : (b : Bool) → b ≡ true → cond b (happens g entering (Event.Enter w e)) entering ≡ happens g entering (Event.Enter w e)
        go true z = refl
        go false z = absurd (true≢false (sym z))

    first : Inside g w inside
    first = record {
      inside = ap (λ (s : State). is_inside (s.inside w)) entered ∙ ap is_inside (upd_same entering.inside w (Some e) w refl);
      known = (worker_to g w (and_parts (is_worker g w) (not (is_inside (entering.inside w)) && leb e entering.epoch) (and_parts true (needs g entering (Event.Enter w e)) m).1).0).1;
    }

    kept : Kept g w f p (run g seen after)
    kept = kept_run g seen w f p (record {
      worker = inside_run g inside w first during sd;
      here = ap (λ (x : Place). in_frame x f) r.hot ∙ eq-eqb f f refl;
      held = inl (ap is_hot r.hot);
    }) after sa

    after_inv : Whole g (run g seen after)
    after_inv = whole_run g seen (whole_run g inside (step_keeps (Whole g) g entering (Event.Enter w e) (every_whole g before) (whole_event g entering (every_whole g before) (Event.Enter w e))) during) after

pub every_ripe : EveryRipe
every_ripe g es p later w = elim (cases_Bool (waits_for ((run g (start g) es).place p) w)) [
  | inr n ↦ n
  | inl y ↦ (let q = (every_whole g es).waits.waits p w y in let l = later w q.0 q.1 in let q2 = q.2 in absurd (omega arith))
]

-- a page names its child
names_child : (g : Opening) (node : ℕ → Rattle.page_model.specs.Nodes.Node) (q p : ℕ) (z : Rattle.page_model.specs.Pairs.Span) → Rattle.page_model.specs.Tree.Names (node q) z → z.child ≡ p → names_page (node q) p ≡ true
names_child g node q p z n e =
    and_from ((node q).live && ltb 0 (node q).level) (Rattle.page_model.specs.Records.any (λ s. s.child == p) (Rattle.page_model.specs.Pairs.spans (node q).pairs (node q).high))
    (and_from (node q).live (ltb 0 (node q).level) n.live (Rattle.std.proofs.lemmas.Bool.lt-ltb 0 (node q).level n.inner))
    (Rattle.map_model.proofs.ListLemmas.has_any (λ s. s.child == p) (Rattle.page_model.specs.Pairs.spans (node q).pairs (node q).high) z n.has (eq-eqb z.child p e))

-- a hot node is linked to the root, at most d levels above it
climb : (g : Opening) (s : State) → Whole g s → (d p : ℕ) → p < g.format.pages → g.format.levels ≤ (nodes_of s p).level + d → (nodes_of s p).live ≡ true → is_hot (s.place p) ≡ true → (chain : List ℕ) × Linked s p chain
climb g s i zero p b e l h = elim (cases_eq p 0) [
  | inl z ↦ ([], z)
  | inr nz ↦ (let t = i.good.inv.tree in let o = t.up p b l nz in
      let c = t.down o.page o.below o.span o.names in
      let lv : suc (nodes_of s o.span.child).level ≡ (nodes_of s o.page).level = c.level in
      let same = ap (λ (j : ℕ). (nodes_of s j).level) o.child in
      let tall = (ok g.format (nodes_of s) t o.page o.below o.names.live).tall in absurd (omega arith))
]
climb g s i (suc d) p b e l h = go (λ q a b c. climb g s i d q a b c) (cases_eq p 0)
  where
    go : ((q : ℕ) → q < g.format.pages → g.format.levels ≤ (nodes_of s q).level + d → (nodes_of s q).live ≡ true → is_hot (s.place q) ≡ true → (chain : List ℕ) × Linked s q chain) → (p ≡ 0) ⊎ (p ≡ 0 → ⊥) → (chain : List ℕ) × Linked s p chain
    go ih (inl z) = ([], z)
    go ih (inr nz) =
        let t = i.good.inv.tree in
        let o = t.up p b l nz in
        let c = t.down o.page o.below o.span o.names in
        let lv : suc (nodes_of s o.span.child).level ≡ (nodes_of s o.page).level = c.level in
        let same = ap (λ (j : ℕ). (nodes_of s j).level) o.child in
        let named = names_child g (nodes_of s) o.page p o.span o.names o.child in
        let hot = i.placed.parent o.page p o.below named h in
        let r = ih o.page o.below (omega arith) o.names.live hot in
        (o.page ∷ r.0, (named, hot, r.1))

pub every_hot : EveryHot
every_hot g es p f b l h =
    let c = climb g (run g (start g) es) (every_whole g es) g.format.levels p b (omega arith) l (ap is_hot h) in
    record { hot = h; chain = c.0; linked = c.1 }

pub every_waiting : EveryWaiting
every_waiting g es = let i = (every_whole g es).waits in record { local = i.local; some = i.some; waits = i.waits }
