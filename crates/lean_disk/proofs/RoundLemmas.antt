-- An area that is split off, and one that comes back.
use Rattle.std.proofs.Common.{◌≡◌, inl, inr, ⊎_elim, ℕ, ◌≤◌, ◌<◌, Bool, false, refl, sym, ◌∙◌, ap, subst, arith}
use Rattle.std.proofs.lemmas.Bool.{cases_eq, cases_lt}
use Rattle.lean_disk.specs.Story.{Crash, LeavesNow}
use Rattle.lean_disk.specs.Calls.{Split, Rejoined}
use Rattle.lean_disk.specs.Memory.{View, WasAt, Was, area_now, gone, only, kept_story}
use Rattle.lean_disk.specs.Inside.Kept.{was_gone}
use Rattle.lean_disk.specs.Inside.Slots.{only_same, only_other}

module _ (views views' : ℕ → View) (areas made notes a : ℕ) (there : (b : ℕ) → (b ≡ a → ⊥) → views' b ≡ views b) where
  pub story_split : (whole : Bool) → views' a ≡ gone → Split a (kept_story views whole areas made notes) (kept_story views' false areas made notes) (kept_story (only a (views a)) false 0 made notes)
  story_split whole here = record {
    here = λ told. (ap area_now (only_same a (views a)), ap (λ (v : View). v.here) (only_same a (views a)) ∙ told, refl);
    gone = ap (λ (v : View). v.here) here;
    counts = refl;
    tells = λ b other. ap (λ (v : View). v.here) (there b other);
    areas = refl;
    elsewhere = λ b other. ap area_now (there b other);
    notes = refl;
    past = λ m c (w : Was views' made notes m c) (p : Was (only a (views a)) made notes m c).
        let same : p.k ≡ w.k = omega (arith, w.at, p.at) in record {
          k = w.k;
          at = w.at;
          made = w.made;
          noted = w.noted;
          each = λ b. ⊎_elim
              (λ (is : b ≡ a). subst (λ (v : View). WasAt v w.k c.notes (c.writes b) (c.image b)) (ap (only a (views a)) is ∙ only_same a (views a) ∙ ap views (sym is))
              (subst (λ (k : ℕ). WasAt (only a (views a) b) k c.notes (c.writes b) (c.image b)) same (p.each b)))
              (λ other. subst (λ (v : View). WasAt v w.k c.notes (c.writes b) (c.image b)) (there b other) (w.each b))
              (cases_eq b a);
        };
    before = λ m c (w : Was views' made notes m c). omega (arith, w.at, w.made, w.noted);
    keeps = λ m c (w : Was views made notes m c). (
      record {
        k = w.k;
        at = w.at;
        made = w.made;
        noted = w.noted;
        each = λ b. ⊎_elim
            (λ (is : b ≡ a). subst (λ (v : View). WasAt v w.k c.notes (c.writes b) (c.image b)) (sym (ap views' is ∙ here)) (was_gone w.k c.notes (c.writes b) (c.image b)))
            (λ other. subst (λ (v : View). WasAt v w.k c.notes (c.writes b) (c.image b)) (sym (there b other)) (w.each b))
            (cases_eq b a);
      },
      record {
        k = w.k;
        at = w.at;
        made = w.made;
        noted = w.noted;
        each = λ b. ⊎_elim
            (λ (is : b ≡ a). subst (λ (v : View). WasAt v w.k c.notes (c.writes b) (c.image b)) (sym (ap (only a (views a)) is ∙ only_same a (views a) ∙ ap views (sym is))) (w.each b))
            (λ other. subst (λ (v : View). WasAt v w.k c.notes (c.writes b) (c.image b)) (sym (only_other a b (views a) other)) (was_gone w.k c.notes (c.writes b) (c.image b)))
            (cases_eq b a);
      },
    );
  }

  -- it comes back as v; a moment after those of old is now
  pub story_rejoined : (v : View) (whole : Bool) (then_made : ℕ) → views a ≡ gone → views' a ≡ v → made ≤ then_made
      → ((m : ℕ) (c : Crash) → (w : Was views' then_made notes m c) → made < w.k → LeavesNow (kept_story views' whole areas then_made notes) c)
      → Rejoined a (kept_story views false areas made notes) (kept_story (only a v) false 0 made notes) (kept_story views' whole areas then_made notes)
  story_rejoined v whole then_made out here grows now = record {
    here = λ told. (ap (λ (x : View). x.here) (here ∙ sym (only_same a v)) ∙ told, ap area_now (here ∙ sym (only_same a v)));
    tells = λ b other. ap (λ (x : View). x.here) (there b other);
    areas = refl;
    elsewhere = λ b other. ap area_now (there b other);
    notes = refl;
    past = λ m c (w : Was views' then_made notes m c). ⊎_elim
        (λ (lt : made < w.k). inr (now m c w lt))
        (λ (le : w.k ≤ made). inl (
          record {
            k = w.k;
            at = w.at;
            made = le;
            noted = w.noted;
            each = λ b. ⊎_elim
                (λ (is : b ≡ a). subst (λ (x : View). WasAt x w.k c.notes (c.writes b) (c.image b)) (sym (ap views is ∙ out)) (was_gone w.k c.notes (c.writes b) (c.image b)))
                (λ other. subst (λ (x : View). WasAt x w.k c.notes (c.writes b) (c.image b)) (there b other) (w.each b))
                (cases_eq b a);
          },
          record {
            k = w.k;
            at = w.at;
            made = le;
            noted = w.noted;
            each = λ b. ⊎_elim
                (λ (is : b ≡ a). subst (λ (x : View). WasAt x w.k c.notes (c.writes b) (c.image b)) (ap views' is ∙ here ∙ sym (only_same a v) ∙ ap (only a v) (sym is)) (w.each b))
                (λ other. subst (λ (x : View). WasAt x w.k c.notes (c.writes b) (c.image b)) (sym (only_other a b v other)) (was_gone w.k c.notes (c.writes b) (c.image b)))
                (cases_eq b a);
          },
        ))
        (cases_lt made w.k);
    keeps = λ m c (w : Was views made notes m c) (p : Was (only a v) made notes m c).
        let same : p.k ≡ w.k = omega (arith, w.at, p.at) in record {
          k = w.k;
          at = w.at;
          made = omega (arith, w.made, grows);
          noted = w.noted;
          each = λ b. ⊎_elim
              (λ (is : b ≡ a). subst (λ (x : View). WasAt x w.k c.notes (c.writes b) (c.image b)) (ap (only a v) is ∙ only_same a v ∙ sym here ∙ ap views' (sym is))
              (subst (λ (k : ℕ). WasAt (only a v b) k c.notes (c.writes b) (c.image b)) same (p.each b)))
              (λ other. subst (λ (x : View). WasAt x w.k c.notes (c.writes b) (c.image b)) (sym (there b other)) (w.each b))
              (cases_eq b a);
        };
  }
