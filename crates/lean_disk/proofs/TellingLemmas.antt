-- What a call does to what a disk in memory, or a part of one, tells.
use Rattle.std.proofs.Common.{◌≡◌, inl, inr, ℕ, ◌+◌, ◌≤◌, Bool, List, length, refl, sym, ◌∙◌, ap, subst, arith}
use Rattle.std.specs.List.{AllByRecursion}
use Rattle.std.proofs.lemmas.Bool.{cases_eq}
use Rattle.lean_disk.specs.Area.{Area, Leaves, torn, written, synced, fresh}
use Rattle.lean_disk.specs.Story.{Story, Elapses, IsLawful}
use Rattle.lean_disk.specs.Calls.{Gave, Looked, Wrote, Synced}
use Rattle.lean_disk.specs.Memory.{View, IsDated, area_now, kept_story, late}
use Rattle.lean_disk.specs.Inside.Grown.{Grew}
use Rattle.lean_disk.specs.Inside.Kept.{called, dated_on}
use Rattle.lean_disk.specs.Inside.Lists.{replay_push}
use Rattle.lean_disk.specs.Inside.Areas.{torn_more, written_crash, synced_crash, replay_fits}
use Rattle.lean_disk.specs.declared.disk.Did.TheVariants as did
use Rattle.lean_disk.specs.declared.disk.Read.{Read}
use Rattle.lean_disk.specs.declared.disk.Read.TheVariants as read

pub still : (s : Story) → IsLawful s → Elapses s s
still s law = record { later = omega arith; counts = refl; tells = λ a. refl; areas = refl; past = λ m c le left. left; now = λ m c gt left. law.only_now m c (omega (arith, gt)) left; keeps = λ m c left. left; frozen = λ out. refl }

-- a call that did nothing
pub looked_nothing : (a at : ℕ) (before after : List ℕ) (s : Story) → IsLawful s → Looked a at before after read.Failed s s
looked_nothing a at before after s law = record { time = still s law; notes = refl; area = λ b. refl; bytes = λ told. tt }

pub wrote_nothing : (a at : ℕ) (bytes : List ℕ) (s : Story) → IsLawful s → Wrote a at bytes did.Failed s s
wrote_nothing a at bytes s law = record { time = still s law; notes = refl; elsewhere = λ b other. refl; crash = λ told c left. torn_more at bytes (s.area a) c left; writes = λ told. inr refl; first = refl; done = λ told is. cc }

pub synced_nothing : (a : ℕ) (s : Story) → IsLawful s → Synced a did.Failed s s
synced_nothing a s law = record { time = still s law; notes = refl; elsewhere = λ b other. refl; bytes = refl; crash = λ told c left. left; writes = refl; first = refl; done = λ told is. cc }

-- a call was kept, which does this to the area a
module _ (views views' : ℕ → View) (whole : Bool) (areas made notes after a : ℕ) (dated : (b : ℕ) → AllByRecursion (IsDated made (late whole) notes) (views b).line)
    (counted : after + late whole ≡ made + 1) (does : Area → Area) (grew : Grew (made + 1) notes does (views a) (views' a)) (there : (b : ℕ) → (b ≡ a → ⊥) → views' b ≡ views b) where
  abbrev old : Story
  old = kept_story views whole areas made notes

  abbrev new : Story
  new = kept_story views' whole areas after notes

  pub grew_dated : (b : ℕ) → AllByRecursion (IsDated after (late whole) notes) (views' b).line
  grew_dated = dated_on views whole areas made notes dated views' after a grew.call counted grew.number grew.notes grew.view there

  time : Elapses old new
  time = called views whole areas made notes dated views' after a grew.call counted grew.number grew.notes grew.view there

  elsewhere : (b : ℕ) → (b ≡ a → ⊥) → new.area b ≡ old.area b
  elsewhere b other = ap area_now (there b other)

  at_area : new.area a ≡ does (old.area a)
  at_area = ap area_now grew.view ∙ replay_push (fresh (views a).first) (views a).line grew.call ∙ grew.step (old.area a)

  fits : (old.area a).end ≤ length (old.area a).bytes
  fits = replay_fits (fresh (views a).first) (views a).line (omega arith)

  pub story_looked : (at : ℕ) (before bytes : List ℕ) (result : Read) → ((x : Area) → does x ≡ x) → Gave at (old.area a).bytes before bytes result → Looked a at before bytes result old new
  story_looked at before bytes result nothing gave = record {
    time = time;
    notes = refl;
    area = λ b. elim (cases_eq b a) [ inl is ↦ ap new.area is ∙ at_area ∙ nothing (old.area a) ∙ ap old.area (sym is) | inr other ↦ elsewhere b other ];
    bytes = λ told. gave;
  }

  pub story_written : (at : ℕ) (bytes : List ℕ) → ((x : Area) → does x ≡ written at bytes x) → Wrote a at bytes did.Done old new
  story_written at bytes is = record {
    time = time;
    notes = refl;
    elsewhere = elsewhere;
    crash = λ told c left. written_crash at bytes (old.area a) fits c (subst (λ (x : Area). Leaves x c) (at_area ∙ is (old.area a)) left);
    writes = λ told. inl (ap (λ (x : Area). x.writes) (at_area ∙ is (old.area a)));
    first = ap (λ (x : Area). x.first) (at_area ∙ is (old.area a));
    done = λ told done. at_area ∙ is (old.area a);
  }

  pub story_torn : (at : ℕ) (bytes : List ℕ) → ((x : Area) → does x ≡ torn at bytes x) → Wrote a at bytes did.Failed old new
  story_torn at bytes is = record {
    time = time;
    notes = refl;
    elsewhere = elsewhere;
    crash = λ told c left. subst (λ (x : Area). Leaves x c) (at_area ∙ is (old.area a)) left;
    writes = λ told. inl (ap (λ (x : Area). x.writes) (at_area ∙ is (old.area a)));
    first = ap (λ (x : Area). x.first) (at_area ∙ is (old.area a));
    done = λ told done. cc;
  }

  pub story_synced : ((x : Area) → does x ≡ synced x) → Synced a did.Done old new
  story_synced is = record {
    time = time;
    notes = refl;
    elsewhere = elsewhere;
    bytes = ap (λ (x : Area). x.bytes) (at_area ∙ is (old.area a));
    crash = λ told c left. synced_crash (old.area a) fits c (subst (λ (x : Area). Leaves x c) (at_area ∙ is (old.area a)) left);
    writes = ap (λ (x : Area). x.writes) (at_area ∙ is (old.area a));
    first = ap (λ (x : Area). x.first) (at_area ∙ is (old.area a));
    done = λ told done. at_area ∙ is (old.area a);
  }

  pub story_not_synced : ((x : Area) → does x ≡ x) → Synced a did.Failed old new
  story_not_synced is = record {
    time = time;
    notes = refl;
    elsewhere = elsewhere;
    bytes = ap (λ (x : Area). x.bytes) (at_area ∙ is (old.area a));
    crash = λ told c left. subst (λ (x : Area). Leaves x c) (at_area ∙ is (old.area a)) left;
    writes = ap (λ (x : Area). x.writes) (at_area ∙ is (old.area a));
    first = ap (λ (x : Area). x.first) (at_area ∙ is (old.area a));
    done = λ told done. cc;
  }
