-- A key's way that is hot from a level up, behind what is done to pages.
use Rattle.std.proofs.Common.{◌≡◌, ◌∙◌, ◌≤◌, ◌<◌, ◌-◌, ◌&&◌, ◌==◌, ℕ, true, false, Result, Ok, Err, IfOk, IfErr, Option, Some, None, ap, refl, sym, subst, arith}
use Rattle.desk_parts.specs.btree_descent.Known.{Sound}
use Rattle.cold_pages.specs.Laws.{IsButEntries}
use Rattle.desk_parts.specs.core_calls.Room.{free_list}
use Rattle.desk_parts.specs.core_calls.Warms.{EveryWarm, IsWarmFrom}
use Rattle.desk_parts.specs.core_state.Openings.{Opening}
use Rattle.desk_parts.specs.core_state.States.{State, is_hot}
use Rattle.desk_parts.specs.image_model.Entries.{Contents}
use Rattle.lean_disk.specs.Story.{Story}
use Rattle.page_model.specs.Check.{names_page}
use Rattle.page_model.specs.Nodes.{Node, covers, is_leaf}
use Rattle.paged_rows.proofs.Warming.{inner_of}
use Rattle.desk_parts.specs.page_provider.declared.refusal.Refusal.{Refusal}
use Rattle.desk_parts.specs.page_provider.Moves.{Moved}
use Rattle.desk_parts.specs.page_provider.Sequels.{EverySequel}
use Rattle.paged_rows.specs.Paged.{IsNamed, IsPaged, IsWarm, Paged}
use Rattle.paged_rows.specs.Warms.{Brings, CanBring, HasCome, IsRefusedTo, KeepsRest, most_a_page}
use Rattle.paged_rows.specs.declared.wanted.Wanted.{Wanted}
use Rattle.paged_rows.specs.declared.wanted.Wanted.TheVariants as want
use Rattle.desk_parts.specs.row_words.declared.given.Given.{Given}
use Rattle.desk_parts.specs.row_words.Openings.{opening}
use Rattle.desk_parts.specs.rows_trait.Views.{state}
use Rattle.desk_parts.specs.session_desks.Parts.{here, shape}
use Rattle.desk_parts.proofs.session_desks.SeatLemmas.{holds_of}
use Rattle.paged_desks.specs.Machines.{IsReady, pages, view_of}
use Rattle.paged_desks.specs.Inside.{Comes, IsDrawn, IsHoused, IsWarmer}
use Rattle.paged_desks.specs.Pages.{IsHome, IsNear}
use Rattle.paged_desks.specs.Syncs.{IsSynced}
use Rattle.paged_desks.specs.declared.machine.PagedMachine.{PagedMachine}
use Rattle.paged_desks.proofs.Standing.{frees_same}

warm_up : (g : Opening) (s : State) (key : ℕ) {a b : ℕ} → a ≤ b → IsWarmFrom g s key a → IsWarmFrom g s key b
warm_up g s key le w p below covered level = w p below covered (omega arith)

-- between two calls no row is held, and so the pager's calls may be made
pub paged_is : {D : Type 0} {story : D → Story} {m : PagedMachine D} → IsReady story m → IsPaged (pages m)
paged_is {m = m} r = record { alone = refl; held = (holds_of (shape m.machine) (view_of m) (here m.machine) m.machine.desks.items r.sound.desks).idle; keeps = r.keeps }

-- at first, above all levels
pub warm_first : {D : Type 0} {story : D → Story} {m : PagedMachine D} (key : ℕ) → EveryWarm → IsReady story m → IsWarm (pages m) key 8
warm_first {m = m} key every r =
    let v = view_of m in
    let s : Sound v.given (state v) = r.keeps.sound v.seen in
    let tall = ((s.tree.formed 0 s.tree.some).node s.tree.root.0).tall in
    warm_up (opening v.given) (state v).core key (omega arith) ((every (opening v.given) (state v).core key).first s.tree)

-- pages have moved, however it ended
pub moved_of : (key : ℕ) (wanted : Wanted) (p q : Paged) (r : Result (Option ℕ) Refusal) → IfOk r (λ come. Brings key wanted come p q) → IfErr r (λ why. IsRefusedTo key wanted p why q) → (most : ℕ) × (most ≤ most_a_page) × Moved most p.shape p.view p.pager q.view q.pager
moved_of key want.Way p q (Ok None) h e = (0, omega arith, h.0.moved)
moved_of key want.Way p q (Ok (Some frame)) h e = (most_a_page, omega arith, h.moved.moved)
moved_of key (want.Free page) p q (Ok None) h e = absurd h
moved_of key (want.Free page) p q (Ok (Some frame)) h e = (most_a_page, omega arith, h.moved.moved)
moved_of key (want.Beside page) p q (Ok None) h e = absurd h
moved_of key (want.Beside page) p q (Ok (Some frame)) h e = (most_a_page, omega arith, h.moved.moved)
moved_of key wanted p q (Err why) h e = (most_a_page, omega arith, e.refused.moved)

-- one more page has come
pub warmer : (key frame : ℕ) (p q : Paged) → EveryWarm → EverySequel → IsPaged p → IsPaged q → HasCome key frame p q → (level : ℕ) → IsWarm p key level → (0 < level) × IsWarm q key (level - 1)
warmer key frame p q every seq i j c level w =
    let v = p.view in let u = q.view in
    let given : u.given ≡ v.given = c.moved.moved.goes.ran.given in
    let same = seq.pages most_a_page p.shape v u p.pager q.pager i.alone i.keeps c.moved.moved c.page in
    let lower = (every (opening v.given) (state v).core key).lower c.page level w c.below c.covers c.cold in
    let at : ((state u).core.page c.page).node.level ≡ ((state v).core.page c.page).node.level = ap (λ n. n.level) same.fields in
    let s : Sound u.given (state u) = j.keeps.sound u.seen in (
      omega arith,
      warm_up (opening u.given) (state u).core key (omega arith)
          ((every (opening u.given) (state u).core key).up s.tree s.residence c.page (subst (λ (g : Given). c.page < (opening g).format.pages) (sym given) c.below) (ap (λ n. covers n key) same.fields ∙ c.covers) (ap is_hot c.hot)),
    )

-- the same pages are free
frees_of : (p q : Paged) {most : ℕ} → EverySequel → IsPaged p → Moved most p.shape p.view p.pager q.view q.pager → (i : ℕ) → ((state q.view).core.page i).node.live ≡ ((state p.view).core.page i).node.live
frees_of p q {most = most} seq j m i = ap (λ n. n.live) (seq.pages most p.shape p.view q.view p.pager q.pager j.alone j.keeps m i).fields

pub comes_of : {D : Type 0} (key : ℕ) (wanted : Wanted) (m n : PagedMachine D) → EveryWarm → EverySequel → IsPaged (pages m) → IsPaged (pages n) → (come : Option ℕ) → Brings key wanted come (pages m) (pages n) → Comes key wanted come m n
comes_of key want.Way m n every seq i j None h = h.1
comes_of key want.Way m n every seq i j (Some frame) h = warmer key frame (pages m) (pages n) every seq i j h
comes_of key (want.Free page) m n every seq i j None h = absurd h
comes_of key (want.Free page) m n every seq i j (Some frame) h = record { hot = h.hot; same = h.same; warm = h.warm; frees = frees_of (pages m) (pages n) seq i h.moved.moved }
comes_of key (want.Beside page) m n every seq i j None h = absurd h
comes_of key (want.Beside page) m n every seq i j (Some frame) h = record { hot = h.hot; named = h.named; like = h.like; same = h.same; others = h.others; warm = h.warm; frees = frees_of (pages m) (pages n) seq i h.moved.moved }

-- a page more of the way
pub warmer_of : {D : Type 0} (key : ℕ) (m n : PagedMachine D) {come : Option ℕ} {frame : ℕ} → come ≡ Some frame → Comes key want.Way come m n → IsWarmer key m n
warmer_of key m n is h = subst (λ c. Comes key want.Way c m n) is h

-- ## Behind a refusal, and behind a sync

-- the way is as hot as it was, and the same pages are free, each as it was; the others are as they were but for entries of leaves, and where rows began faithful these too
pub record IsAsWarm {D : Type 0} (key : ℕ) (l m : PagedMachine D) : Type 0 where
  pub given : (view_of m).given ≡ (view_of l).given
  pub warm : (level : ℕ) → IsWarm (pages l) key level → IsWarm (pages m) key level
  pub frees : (p : ℕ) → ((state (view_of m)).core.page p).node.live ≡ ((state (view_of l)).core.page p).node.live
  pub same : (p : ℕ) → ((state (view_of l)).core.page p).node.live ≡ false → (state (view_of m)).core.page p ≡ (state (view_of l)).core.page p
  pub like : (p : ℕ) → IsButEntries ((state (view_of l)).core.page p) ((state (view_of m)).core.page p)
  pub alike : (view_of l).given.faithful ≡ true → (p : ℕ) → (state (view_of m)).core.page p ≡ (state (view_of l)).core.page p

but_same : (a b : Contents) → b ≡ a → IsButEntries a b
but_same a b e = record { gsn = ap (λ c. c.gsn) e; last = ap (λ c. c.last) e; fields = subst (λ c. c.node ≡ record a.node { pairs = c.node.pairs }) (sym e) refl; other = λ _. ap (λ c. c.node) e }

but_then : (a b c : Contents) → IsButEntries a b → IsButEntries b c → IsButEntries a c
but_then a b c x y = record {
  gsn = y.gsn ∙ x.gsn;
  last = y.last ∙ x.last;
  fields = y.fields ∙ ap (λ (n : Node). record n { pairs = c.node.pairs }) x.fields;
  other = λ inner. y.other (ap is_leaf (x.other inner) ∙ inner) ∙ x.other inner;
}

-- a sync does nothing to pages
pub warm_synced : {D : Type 0} {story : D → Story} (key : ℕ) {m n : PagedMachine D} {number : ℕ} → IsSynced story m n number → IsAsWarm key m n
warm_synced key {m = m} {n = n} s = record {
  given = s.given;
  warm = λ level w. subst (λ (q : Given × State). IsWarmFrom (opening q.0) q.1 key level) (λ i. (sym s.given i, sym s.rest i)) w;
  frees = λ p. ap (λ (t : State). (t.page p).node.live) s.rest;
  same = λ p _. ap (λ (t : State). t.page p) s.rest;
  like = λ p. but_same ((state (view_of m)).core.page p) ((state (view_of n)).core.page p) (ap (λ (t : State). t.page p) s.rest);
  alike = λ _ p. ap (λ (t : State). t.page p) s.rest;
}

page_is : (a b : Contents) → IsButEntries a b → a.node.live ≡ false → b ≡ a
page_is a b c dead = let n = c.other (ap (λ x. x && (a.node.level == 0)) dead) in λ i. record { gsn = c.gsn i; last = c.last i; node = n i }

-- and so each page is as it was
pub rest_synced : {D : Type 0} {story : D → Story} (wanted : Wanted) {m n : PagedMachine D} {number : ℕ} → IsSynced story m n number → KeepsRest wanted (pages m) (pages n)
rest_synced want.Way s = tt
rest_synced (want.Free page) s = tt
rest_synced (want.Beside page) s = λ p other. ap (λ (x : State). x.page p) s.rest

pub warm_refused : {D : Type 0} (key : ℕ) (wanted : Wanted) (l m : PagedMachine D) (why : Refusal) → EverySequel → IsPaged (pages l) → IsRefusedTo key wanted (pages l) why (pages m) → IsAsWarm key l m
warm_refused key wanted l m why seq i e = let n = e.refused.moved in record {
  given = n.goes.ran.given;
  warm = e.warm;
  frees = frees_of (pages l) (pages m) seq i n;
  same = λ p dead. page_is ((state (view_of l)).core.page p) ((state (view_of m)).core.page p) (seq.pages most_a_page (pages l).shape (view_of l) (view_of m) l.pager m.pager i.alone i.keeps n p) dead;
  like = λ p. seq.pages most_a_page (pages l).shape (view_of l) (view_of m) l.pager m.pager i.alone i.keeps n p;
  alike = λ faithful p. seq.contents most_a_page (pages l).shape (view_of l) (view_of m) l.pager m.pager i.alone faithful i.keeps n p;
}

-- and so a page is named that was
named_after : {D : Type 0} (key page : ℕ) (l m : PagedMachine D) → IsAsWarm key l m → IsNamed (pages l) key page → IsNamed (pages m) key page
named_after key page l m a b =
    let c = a.like b.parent in
    let n = ((state (view_of l)).core.page b.parent).node in record {
      parent = b.parent;
      below = subst (λ (g : Given). b.parent < (opening g).format.pages) (sym a.given) b.below;
      on = ap (λ n. covers n key) c.fields ∙ b.on;
      names = ap (λ n. names_page n page) (c.other (inner_of n page b.names)) ∙ b.names;
    }

pub can_after : {D : Type 0} (key : ℕ) (wanted : Wanted) (l m : PagedMachine D) → IsAsWarm key l m → CanBring key wanted (pages l) → CanBring key wanted (pages m)
can_after key want.Way l m a c = tt
can_after key (want.Free page) l m a c = ((subst (λ (g : Given). page < (opening g).format.pages) (sym a.given) c.0.0, a.frees page ∙ c.0.1), a.warm 0 c.1)
can_after key (want.Beside page) l m a c = (named_after key page l m a c.0, a.warm 0 c.1)

comes_after : {D : Type 0} (key : ℕ) (wanted : Wanted) (l m n : PagedMachine D) → IsAsWarm key l m → KeepsRest wanted (pages l) (pages m) → CanBring key wanted (pages l) → (come : Option ℕ) → Comes key wanted come m n → Comes key wanted come l n
comes_after key want.Way l m n a rest c None h = h
comes_after key want.Way l m n a rest c (Some frame) h = λ level w. h level (a.warm level w)
comes_after key (want.Free page) l m n a rest c None h = absurd h
comes_after key (want.Free page) l m n a rest c (Some frame) h = record { hot = h.hot; same = h.same ∙ a.same page c.0.1; warm = h.warm; frees = λ p. h.frees p ∙ a.frees p }
comes_after key (want.Beside page) l m n a rest c None h = absurd h
comes_after key (want.Beside page) l m n a rest c (Some frame) h = record {
  hot = h.hot;
  named = h.named;
  like = but_then ((state (view_of l)).core.page page) ((state (view_of m)).core.page page) ((state (view_of n)).core.page page) (a.like page) h.like;
  same = λ faithful. h.same (ap (λ (g : Given). g.faithful) a.given ∙ faithful) ∙ a.alike faithful page;
  others = λ p other. h.others p other ∙ rest p other;
  warm = h.warm;
  frees = λ p. h.frees p ∙ a.frees p;
}

pub comes_behind : {D E : Type 0} (key : ℕ) (wanted : Wanted) (l m n : PagedMachine D) → IsAsWarm key l m → KeepsRest wanted (pages l) (pages m) → CanBring key wanted (pages l) → (r : Result (Option ℕ) E) → IfOk r (λ come. Comes key wanted come m n) → IfOk r (λ come. Comes key wanted come l n)
comes_behind key wanted l m n a rest c (Ok come) h = comes_after key wanted l m n a rest c come h
comes_behind key wanted l m n a rest c (Err why) h = tt

-- a page came: the pager is not broken
pub well_of : (key : ℕ) (wanted : Wanted) (p q : Paged) (come : Option ℕ) → Brings key wanted come p q → p.pager.broken ≡ false → q.pager.broken ≡ false
well_of key want.Way p q None h well = h.0.broken ∙ well
well_of key want.Way p q (Some frame) h well = h.moved.broken ∙ well
well_of key (want.Free page) p q None h well = absurd h
well_of key (want.Free page) p q (Some frame) h well = h.moved.broken ∙ well
well_of key (want.Beside page) p q None h well = absurd h
well_of key (want.Beside page) p q (Some frame) h well = h.moved.broken ∙ well

-- ## A page beside the way that has come

pub free_is : {D : Type 0} {story : D → Story} {m : PagedMachine D} → IsReady story m → m.machine.work.session.free ≡ free_list (opening (view_of m).given) (state (view_of m)).core
free_is {m = m} r = (holds_of (shape m.machine) (view_of m) (here m.machine) m.machine.desks.items r.sound.desks).free

-- the session knows of the same ones
free_kept : {D : Type 0} {story : D → Story} {m n : PagedMachine D} → IsReady story m → IsReady story n → (view_of n).given ≡ (view_of m).given → ((p : ℕ) → ((state (view_of n)).core.page p).node.live ≡ ((state (view_of m)).core.page p).node.live) → n.machine.work.session.free ≡ m.machine.work.session.free
free_kept {m = m} {n = n} i j given frees = free_is j ∙ (ap (λ (g : Given). free_list (opening g) (state (view_of n)).core) given
    ∙ (frees_same (λ p. ((state (view_of n)).core.page p).node) (λ p. ((state (view_of m)).core.page p).node) frees (opening (view_of m).given).format.pages 0 ∙ sym (free_is i)))

pub home_of : {D : Type 0} {story : D → Story} (key page frame : ℕ) {m n : PagedMachine D} → IsReady story m → IsReady story n → (view_of n).given ≡ (view_of m).given → IsHoused key page frame m n → IsHome key page frame m n
home_of key page frame i j given h = record { hot = h.hot; same = h.same; free = free_kept i j given h.frees; warm = h.warm }

pub near_of : {D : Type 0} {story : D → Story} (key page frame : ℕ) {m n : PagedMachine D} → IsReady story m → IsReady story n → (view_of n).given ≡ (view_of m).given → IsDrawn key page frame m n → IsNear key page frame m n
near_of key page frame i j given h = record { hot = h.hot; named = h.named; like = h.like; same = h.same; others = h.others; free = free_kept i j given h.frees; warm = h.warm }
