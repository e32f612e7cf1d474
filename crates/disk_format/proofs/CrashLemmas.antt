-- What a crash in `format` may leave, by what it leaves of each area.
use Rattle.std.proofs.Common.{◌≡◌, ◌⊎◌, inl, inr, ⊎_elim, ◌<◌, ◌≤◌, ◌-◌, ◌*◌, ℕ, true, false, List, [], ◌∷◌, length, take, sym, ◌∙◌, ap, subst, arith}
use Rattle.std.proofs.lemmas.Bool.{cases_Bool, true≢false}
use Rattle.std.proofs.lemmas.Slice.Eq.{bytes_eq-Decides}
use Rattle.std.specs.Str.{bytes_eq}
use Rattle.master_store.specs.image_model.Fair.{piece, IsWritten}
use Rattle.master_store.proofs.image_model.FairLemmas.{IsOfOne, narrow, not_written}
use Rattle.map_model.specs.Lists.{Has}
use Rattle.lean_disk.specs.Area.{Leaves, Write}
use Rattle.lean_disk.specs.Story.{Crash, Story, Tells}
use Rattle.disk_format.specs.Formatted.{HasMaster, HasPages, IsFormatted, writes_since, HasFairMasters, FormatLeaves, IsMaster, IsSealedMaster}
use Rattle.disk_format.specs.Fresh.{first_slot}
use Rattle.disk_format.proofs.FreshLemmas.{length-first_slot}
use Rattle.disk_format.specs.declared.shape.Shape.{Shape}

-- the writes of an area since then, where it has none or one more
none_since : (s : Story) (a : ℕ) (c : Crash) → c.writes a ≡ (s.area a).writes → writes_since s a c ≡ []
none_since s a c same =
    let none : length (c.writes a) - length (s.area a).writes ≡ 0 = omega (arith, ap (λ (ws : List Write). length ws) same) in
    ap (λ (n : ℕ). take n (c.writes a)) none

one_since : (s : Story) (a : ℕ) (c : Crash) (w : Write) → c.writes a ≡ w ∷ (s.area a).writes → writes_since s a c ≡ w ∷ []
one_since s a c w one =
    let more : length (c.writes a) - length (s.area a).writes ≡ 1 = omega (arith, ap (λ (ws : List Write). length ws) one) in
    ap (λ (n : ℕ). take n (c.writes a)) more ∙ ap (take 1) one

module _ (s : Story) (c : Crash) (fair : HasFairMasters s c) where
  -- where nothing was written there, a master is one that stood there
  pub stood_master : c.writes 0 ≡ (s.area 0).writes → HasMaster (c.image 0) → HasMaster (s.area 0).bytes
  stood_master same (inl m) = ⊎_elim
      (λ (e : piece 1024 0 (c.image 0) ≡ piece 1024 0 (s.area 0).bytes). inl (subst (IsMaster 0) e m))
      (λ (h : IsWritten 1024 0 (piece 1024 0 (c.image 0)) (s.area 0).bytes (writes_since s 0 c)). absurd (not_written 1024 0 (piece 1024 0 (c.image 0)) (s.area 0).bytes (writes_since s 0 c) (none_since s 0 c same) h))
      (fair 0 m.sealed)
  stood_master same (inr m) = ⊎_elim
      (λ (e : piece 1024 1 (c.image 0) ≡ piece 1024 1 (s.area 0).bytes). inr (subst (IsMaster 1) e m))
      (λ (h : IsWritten 1024 1 (piece 1024 1 (c.image 0)) (s.area 0).bytes (writes_since s 0 c)). absurd (not_written 1024 1 (piece 1024 1 (c.image 0)) (s.area 0).bytes (writes_since s 0 c) (none_since s 0 c same) h))
      (fair 1 m.sealed)

  module _ (slot : List ℕ) (long : length slot ≡ 1024) (one : c.writes 0 ≡ (0, slot) ∷ (s.area 0).writes) where
    of_one : (w : Write) → Has w (writes_since s 0 c) → IsOfOne 1024 w
    of_one w has = ⊎_elim
        (λ (e : w ≡ (0, slot)). record { slot = 0; place = ap (λ (x : Write). x.0) e; whole = ap (λ (x : Write). length x.1) e ∙ long })
        (λ (no : ⊥). absurd no)
        (subst (Has w) (one_since s 0 c (0, slot) one) has)

    just : (p : ℕ) → IsSealedMaster (piece 1024 p (c.image 0)) → (piece 1024 p (c.image 0) ≡ piece 1024 p (s.area 0).bytes) ⊎ Has (1024 * p, piece 1024 p (c.image 0)) (writes_since s 0 c)
    just = narrow 1024 IsSealedMaster (s.area 0).bytes (writes_since s 0 c) (c.image 0) (omega arith) of_one fair

    -- where one slot was written, what is sealed in it is what was written or what stood there
    pub written_0 : IsSealedMaster (piece 1024 0 (c.image 0)) → (piece 1024 0 (c.image 0) ≡ piece 1024 0 (s.area 0).bytes) ⊎ (piece 1024 0 (c.image 0) ≡ slot)
    written_0 sealed = ⊎_elim inl
        (λ (h : Has (0, piece 1024 0 (c.image 0)) (writes_since s 0 c)). ⊎_elim
        (λ (e : (0, piece 1024 0 (c.image 0)) ≡ (0, slot)). inr (ap (λ (w : Write). w.1) e))
        (λ (no : ⊥). absurd no)
        (subst (Has (0, piece 1024 0 (c.image 0))) (one_since s 0 c (0, slot) one) h))
        (just 0 sealed)

    pub written_1 : IsSealedMaster (piece 1024 1 (c.image 0)) → piece 1024 1 (c.image 0) ≡ piece 1024 1 (s.area 0).bytes
    written_1 sealed = ⊎_elim (λ e. e)
        (λ (h : Has (1024, piece 1024 1 (c.image 0)) (writes_since s 0 c)). ⊎_elim
        (λ (e : (1024, piece 1024 1 (c.image 0)) ≡ (0, slot)). absurd (let at : 1024 ≡ 0 = ap (λ (w : Write). w.0) e in omega (arith, at)))
        (λ (no : ⊥). absurd no)
        (subst (Has (1024, piece 1024 1 (c.image 0))) (one_since s 0 c (0, slot) one) h))
        (just 1 sealed)

module _ (shape : Shape) (s : Story) (c : Crash) where
  -- nothing was written
  pub not_touched : ((a : ℕ) → Tells s a → Leaves (s.area a) (c.image a)) → (Tells s 0 → c.writes 0 ≡ (s.area 0).writes) → FormatLeaves shape s c
  not_touched leaves same = record {
    logs = λ a lt told. leaves a told;
    untouched = λ t0 has. leaves;
    formatted = λ t0 t1 fair none. inl (λ has. none (stood_master s c fair (same t0) has));
  }

  module _ (few : shape.workers ≤ 16) (none : Tells s 0 → HasMaster (s.area 0).bytes → ⊥) (logs : (a : ℕ) → 1 < a → Tells s a → Leaves (s.area a) (c.image a)) where
    -- only pages were
    pub besides_pages : (Tells s 0 → c.writes 0 ≡ (s.area 0).writes) → FormatLeaves shape s c
    besides_pages same = record {
      logs = logs;
      untouched = λ t0 has. absurd (none t0 has);
      formatted = λ t0 t1 fair no. inl (λ has. none t0 (stood_master s c fair (same t0) has));
    }

    abbrev slot : List ℕ
    slot = first_slot shape

    module _ (t0 : Tells s 0) (fair : HasFairMasters s c) (one : c.writes 0 ≡ (0, slot) ∷ (s.area 0).writes) (pages : HasPages shape.pages (c.image 1)) where
      found : (bytes_eq (piece 1024 0 (c.image 0)) slot ≡ true) ⊎ (bytes_eq (piece 1024 0 (c.image 0)) slot ≡ false) → (HasMaster (c.image 0) → ⊥) ⊎ IsFormatted shape c.image
      found (inl equal) = inr (record {
        master = (bytes_eq-Decides (piece 1024 0 (c.image 0)) slot).0 equal;
        no_other = λ m. none t0 (inr (subst (IsMaster 1) (written_1 s c fair slot (length-first_slot shape few) one m.sealed) m));
        pages = pages;
      })
      found (inr differ) = inl (λ has. ⊎_elim
          (λ (m : IsMaster 0 (piece 1024 0 (c.image 0))). ⊎_elim
          (λ e. none t0 (inl (subst (IsMaster 0) e m)))
          (λ (e : piece 1024 0 (c.image 0) ≡ slot). absurd (let equal : bytes_eq (piece 1024 0 (c.image 0)) slot ≡ true = (bytes_eq-Decides (piece 1024 0 (c.image 0)) slot).1 e in true≢false (sym equal ∙ differ)))
          (written_0 s c fair slot (length-first_slot shape few) one m.sealed))
          (λ (m : IsMaster 1 (piece 1024 1 (c.image 0))). none t0 (inr (subst (IsMaster 1) (written_1 s c fair slot (length-first_slot shape few) one m.sealed) m)))
          has)

    -- the master was, or is being
    pub with_master : (Tells s 0 → (c.writes 0 ≡ (s.area 0).writes) ⊎ (c.writes 0 ≡ (0, slot) ∷ (s.area 0).writes)) → (Tells s 1 → HasPages shape.pages (c.image 1)) → FormatLeaves shape s c
    with_master writes pages = record {
      logs = logs;
      untouched = λ t0 has. absurd (none t0 has);
      formatted = λ t0 t1 fair no. ⊎_elim
          (λ same. inl (λ has. none t0 (stood_master s c fair same has)))
          (λ one. found t0 fair one (pages t1) (cases_Bool (bytes_eq (piece 1024 0 (c.image 0)) slot)))
          (writes t0);
    }
