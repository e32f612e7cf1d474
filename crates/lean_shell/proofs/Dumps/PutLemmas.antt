-- Several lines that are put, one after another.
use Rattle.std.proofs.Common.{◌≡◌, inl, inr, ⊎_elim, ◌++◌, ℕ, zero, suc, List, [], ◌∷◌, take, refl, sym, ◌∙◌, ap, subst, append_assoc, arith}
use Rattle.std.proofs.lemmas.List.{append-nil}
use Rattle.lean_disk.specs.Area.{Area, Leaves}
use Rattle.lean_disk.specs.Faults.{HasCause}
use Rattle.lean_disk.specs.Story.{Crash, LeavesNow, Story}
use Rattle.lean_disk.specs.Told.{OnlyNotes}
use Rattle.buffered_engine.specs.lean_edge.Outside.{Held, Puts}
use Rattle.buffered_engine.specs.lean_edge.declared.sink.Put.{Put}
use Rattle.buffered_engine.specs.lean_edge.declared.sink.Put.TheVariants.{Done, Failed}
use Rattle.lean_shell.specs.Lines.{IsPut}
use Rattle.lean_shell.specs.Inside.Puts.{ArePut, IsStillToPut, OnlyPuts}
use Rattle.lean_shell.proofs.Runs.NoteLemmas.{put_notes}

-- ## What is noted

-- a crash that there may be now might have been before, but for its notes
might_have_been : (old new : Story) → ((a : ℕ) → new.area a ≡ old.area a) → ((a : ℕ) → new.tells a ≡ old.tells a) → new.counts ≡ old.counts → (c : Crash) → LeavesNow new c → LeavesNow old (record c { notes = old.notes })
might_have_been old new area tells counts c now = record {
  counts = sym counts ∙ now.counts;
  notes = refl;
  writes = λ a told. now.writes a (tells a ∙ told) ∙ ap (λ (x : Area). x.writes) (area a);
  leaves = λ a told. subst (λ (x : Area). Leaves x (c.image a)) (area a) (now.leaves a (tells a ∙ told));
}

pub only_none : (s : Story) → OnlyPuts s s
only_none s = record { area = λ a. refl; tells = λ a. refl; areas = refl; counts = refl; later = omega arith; nothing_else = λ m c left. inl left }

pub only_noted : (old new : Story) → OnlyNotes old new → OnlyPuts old new
only_noted old new n = record {
  area = n.area;
  tells = n.tells;
  areas = n.areas;
  counts = n.counts;
  later = n.later;
  nothing_else = λ m c left. ⊎_elim inl (λ now. inr (might_have_been old new n.area n.tells n.counts c now)) (n.nothing_else m c left);
}

only_then : (old mid new : Story) → OnlyPuts old mid → OnlyPuts mid new → OnlyPuts old new
only_then old mid new x y = record {
  area = λ a. y.area a ∙ x.area a;
  tells = λ a. y.tells a ∙ x.tells a;
  areas = y.areas ∙ x.areas;
  counts = y.counts ∙ x.counts;
  later = let a = x.later in let b = y.later in omega arith;
  nothing_else = λ m c left. ⊎_elim (x.nothing_else m c) (λ now. inr (might_have_been old mid x.area x.tells x.counts (record c { notes = mid.notes }) now)) (y.nothing_else m c left);
}

-- ## What a sink holds

not_done : Failed ≡ Done → ⊥
not_done e = cc

not_failed : Done ≡ Failed → ⊥
not_failed e = cc

-- a prefix of the first text is one of both
take_first : (n : ℕ) (a b : List ℕ) → (k : ℕ) × (take n a ≡ take k (a ++ b))
take_first zero a b = (0, refl)
take_first (suc n) [] b = (0, refl)
take_first (suc n) (x ∷ a) b = let i = take_first n a b in (suc i.0, ap (λ (t : List ℕ). x ∷ t) i.1)

-- and so are the first text and a prefix of the second
take_second : (n : ℕ) (a b : List ℕ) → (k : ℕ) × (a ++ take n b ≡ take k (a ++ b))
take_second n [] b = (n, refl)
take_second n (x ∷ a) b = let i = take_second n a b in (suc i.0, ap (λ (t : List ℕ). x ∷ t) i.1)

puts_none : (h : Held) → Puts [] Done h h
puts_none h = record { same = refl; done = λ e told. sym (append-nil h.bytes); failed = λ e. absurd (not_failed e) }

puts_then : (a b : List ℕ) (r : Put) (h0 h1 h2 : Held) → Puts a Done h0 h1 → Puts b r h1 h2 → Puts (a ++ b) r h0 h2
puts_then a b r h0 h1 h2 p q = record {
  same = q.same ∙ p.same;
  done = λ e told. q.done e (p.same ∙ told) ∙ (ap (λ (t : List ℕ). t ++ b) (p.done refl told) ∙ append_assoc h0.bytes a b);
  failed = λ e. let f = q.failed e in let k = take_second f.0 a b in
      (k.0, λ told. f.1 (p.same ∙ told) ∙ (ap (λ (t : List ℕ). t ++ take f.0 b) (p.done refl told) ∙ (append_assoc h0.bytes a (take f.0 b) ∙ ap (λ (t : List ℕ). h0.bytes ++ t) k.1)));
}

puts_cut : (a b : List ℕ) (h0 h1 : Held) → Puts a Failed h0 h1 → Puts (a ++ b) Failed h0 h1
puts_cut a b h0 h1 p = record {
  same = p.same;
  done = λ e. absurd (not_done e);
  failed = λ e. let f = p.failed refl in let k = take_first f.0 a b in (k.0, λ told. f.1 told ∙ ap (λ (t : List ℕ). h0.bytes ++ t) k.1);
}

-- ## Both

pub are_put_none : (h : Held) (k : ℕ) (s : Story) → ArePut [] Done h h k k s s
are_put_none h k s = record { puts = puts_none h; cause = record { later = omega arith; cause = λ e. absurd (not_failed e); calm = λ n. refl }; only = only_none s }

pub are_put_line : (line : List ℕ) (r : Put) (h0 h1 : Held) (k0 k1 : ℕ) (s0 s1 : Story) → IsPut line r h0 h1 s0 s1 → HasCause k0 k1 (r ≡ Failed) → ArePut line r h0 h1 k0 k1 s0 s1
are_put_line line r h0 h1 k0 k1 s0 s1 p cause = record { puts = p.puts; cause = cause; only = only_noted s0 s1 (put_notes s0 s1 r p.noted p.same) }

pub are_put_then : (a b : List ℕ) (r : Put) (h0 h1 h2 : Held) (k0 k1 k2 : ℕ) (s0 s1 s2 : Story) → ArePut a Done h0 h1 k0 k1 s0 s1 → ArePut b r h1 h2 k1 k2 s1 s2 → ArePut (a ++ b) r h0 h2 k0 k2 s0 s2
are_put_then a b r h0 h1 h2 k0 k1 k2 s0 s1 s2 p q = record {
  puts = puts_then a b r h0 h1 h2 p.puts q.puts;
  cause = subst (λ (n : ℕ). HasCause n k2 (r ≡ Failed)) (p.cause.calm not_failed) q.cause;
  only = only_then s0 s1 s2 p.only q.only;
}

pub are_put_cut : (a b : List ℕ) (h0 h1 : Held) (k0 k1 : ℕ) (s0 s1 : Story) → ArePut a Failed h0 h1 k0 k1 s0 s1 → ArePut (a ++ b) Failed h0 h1 k0 k1 s0 s1
are_put_cut a b h0 h1 k0 k1 s0 s1 p = record { puts = puts_cut a b h0 h1 p.puts; cause = p.cause; only = p.only }

pub are_put_same : (a b : List ℕ) (r : Put) (h0 h1 : Held) (k0 k1 : ℕ) (s0 s1 : Story) → a ≡ b → ArePut a r h0 h1 k0 k1 s0 s1 → ArePut b r h0 h1 k0 k1 s0 s1
are_put_same a b r h0 h1 k0 k1 s0 s1 e p = subst (λ (t : List ℕ). ArePut t r h0 h1 k0 k1 s0 s1) e p

-- ## Of a text the rest

pub still_all : (text : List ℕ) (h : Held) (k : ℕ) (s : Story) → IsStillToPut text text h h k k s s
still_all text h k s = record { done = []; parts = refl; put = are_put_none h k s }

module _ (text a rest : List ℕ) (h0 h1 h2 : Held) (k0 k1 k2 : ℕ) (s0 s1 s2 : Story) (i : IsStillToPut text (a ++ rest) h0 h1 k0 k1 s0 s1) where
  pub still_more : ArePut a Done h1 h2 k1 k2 s1 s2 → IsStillToPut text rest h0 h2 k0 k2 s0 s2
  still_more p = record { done = i.done ++ a; parts = append_assoc i.done a rest ∙ i.parts; put = are_put_then i.done a Done h0 h1 h2 k0 k1 k2 s0 s1 s2 i.put p }

  pub still_cut : ArePut a Failed h1 h2 k1 k2 s1 s2 → ArePut text Failed h0 h2 k0 k2 s0 s2
  still_cut p =
      are_put_same ((i.done ++ a) ++ rest) text Failed h0 h2 k0 k2 s0 s2 (append_assoc i.done a rest ∙ i.parts)
      (are_put_cut (i.done ++ a) rest h0 h2 k0 k2 s0 s2 (are_put_then i.done a Failed h0 h1 h2 k0 k1 k2 s0 s1 s2 i.put p))

pub still_none : (text : List ℕ) (h0 h1 : Held) (k0 k1 : ℕ) (s0 s1 : Story) → IsStillToPut text [] h0 h1 k0 k1 s0 s1 → ArePut text Done h0 h1 k0 k1 s0 s1
still_none text h0 h1 k0 k1 s0 s1 i = are_put_same i.done text Done h0 h1 k0 k1 s0 s1 (sym (append-nil i.done) ∙ i.parts) i.put
