-- Where no page is saved the device was only read.
use Rattle.std.proofs.Common.{◌≡◌, ◌==◌, ◌||◌, ℕ, Bool, true, false, List, [], ◌∷◌, ◌++◌, Ok, Err, append_assoc, ap, refl, subst, sym, ◌∙◌, true≢false}
use Rattle.std.specs.Prelude.{IfErr, IfOk, Option, Result, if◌then◌else◌}
use Rattle.std.proofs.lemmas.Bool.{or_from, or_parts}
use Rattle.map_model.specs.Lists.{any}
use Rattle.lean_disk.specs.Moments.{OnlyReads}
use Rattle.lean_disk.specs.Story.{IsLawful, Story}
use Rattle.lean_disk.proofs.MomentLemmas.{framed, reads_none, reads_then}
use Rattle.btree_descent.specs.row_words.declared.event.Event.{Event}
use Rattle.btree_descent.specs.row_words.declared.event.Event.TheVariants.{Save}
use Rattle.btree_descent.specs.row_words.Moments.{actor_of, by, event_of, events_of}
use Rattle.btree_descent.specs.rows_trait.declared.view.View.{View}
use Rattle.btree_descent.specs.rows_trait.Turns.{Ran}
use Rattle.btree_descent.specs.rows_trait.Views.{Shape}
use Rattle.btree_descent.proofs.Nodes.{same_rest}
use Rattle.cooling_stage.specs.declared.stage.Cooling.{Cooling}
use Rattle.page_provider.specs.declared.refusal.Refusal.{Refusal}
use Rattle.page_provider.specs.Disks.{ReadsUnlessSaved, saves_page}
use Rattle.page_provider.specs.Evicts.{HasStayed}
use Rattle.page_provider.specs.Inside.{HasGone, Missed}
use Rattle.page_provider.specs.Providers.{Provider}
use Rattle.page_provider.specs.Sequels.{EveryAreaRest, EveryAreaSequel, EveryUnsaved}
use Rattle.page_provider.specs.Finds.{Standing}
use Rattle.page_provider.proofs.Faulting.{standing_ran}
use Rattle.page_provider.proofs.Sightings.{missed_before}
use Rattle.btree_descent.proofs.rows_trait.Runs.{ran_append}
use Rattle.row_image.specs.Looks.{Watched}
use Rattle.page_provider.proofs.Framing.{framed_then, within_none, within_then}

-- ## Which events save a page

abbrev saves : List Event → Bool
saves es = any saves_page (events_of es)

saves_append : (es fs : List Event) → saves (es ++ fs) ≡ (saves es || saves fs)
saves_append [] fs = refl
saves_append (e ∷ es) fs = go (saves_page (event_of e)) (saves_append es fs)
  where
    go : (b : Bool) → saves (es ++ fs) ≡ (saves es || saves fs) → (b || saves (es ++ fs)) ≡ ((b || saves es) || saves fs)
    go true q = refl
    go false q = q

-- where none does, none of one actor does
none_by : (actor : ℕ) (es : List Event) → saves es ≡ false → saves (by actor es) ≡ false
none_by actor [] none = refl
none_by actor (e ∷ es) none = let n = or_parts (saves_page (event_of e)) (saves es) none in go (actor_of e == actor) n.0 (none_by actor es n.1)
  where
    go : (b : Bool) → saves_page (event_of e) ≡ false → saves (by actor es) ≡ false → saves (if b then e ∷ by actor es else by actor es) ≡ false
    go true first rest = or_from (saves_page (event_of e)) (saves (by actor es)) first rest
    go false first rest = rest

-- one that this actor appended is among what was seen
saved_seen : {alone : Bool} {v u : View} {p : ℕ} → (r : Ran alone v (Save p ∷ []) u) → saves r.more ≡ false → ⊥
saved_seen {alone} {v} {u} {p} r quiet = go alone refl
  where
    go : (b : Bool) → alone ≡ b → ⊥
    go true is = true≢false (subst (λ (xs : List Event). saves xs ≡ false) (r.all is) quiet)
    go false is = true≢false (subst (λ (xs : List Event). saves xs ≡ false) (r.own is) (none_by v.actor r.more quiet))

-- ## Calls

-- nothing was asked
pub reads_untouched : {alone : Bool} {v u : View} {es : List Event} {is : Provider} {s : Story} → IsLawful s → Ran alone v es u → ReadsUnlessSaved v u is s s
reads_untouched {s = s} law r = record { more = r.more; seen = r.seen; reads = λ well none. reads_none s law }

-- the pager is broken
pub reads_broken : {alone : Bool} {v u : View} {es : List Event} {is : Provider} {old new : Story} → is.broken ≡ true → Ran alone v es u → ReadsUnlessSaved v u is old new
reads_broken broken r = record { more = r.more; seen = r.seen; reads = λ well none. absurd (true≢false (sym broken ∙ well)) }

-- a page was saved
pub reads_saved : {alone : Bool} {v u : View} {p : ℕ} {is : Provider} {old new : Story} → Ran alone v (Save p ∷ []) u → ReadsUnlessSaved v u is old new
reads_saved r = record { more = r.more; seen = r.seen; reads = λ well none. absurd (saved_seen r none) }

-- the device was only read
pub reads_only : {alone : Bool} {v u : View} {es : List Event} {is : Provider} {old new : Story} → OnlyReads old new → Ran alone v es u → ReadsUnlessSaved v u is old new
reads_only only r = record { more = r.more; seen = r.seen; reads = λ well none. only }

-- one call behind another
pub unsaved_then : {v u w : View} {c : Provider} {old mid new : Story} (b : Provider) → b.broken ≡ false → ReadsUnlessSaved v u b old mid → ReadsUnlessSaved u w c mid new → ReadsUnlessSaved v w c old new
unsaved_then {v} {u} {w} {c} {old} {mid} {new} b whole p q = record {
  more = p.more ++ q.more;
  seen = q.seen ∙ (ap (λ (xs : List Event). xs ++ q.more) p.seen ∙ append_assoc v.seen p.more q.more);
  reads = λ well none. let n = or_parts (saves p.more) (saves q.more) (sym (saves_append p.more q.more) ∙ none) in reads_then old mid new (p.reads whole n.0) (q.reads well n.1);
}

-- a page left its frame, or stayed
pub left_unsaved : {t w : View} {is : Provider} {s : Story} (z : Shape) (mid : Provider) (entry : Cooling) → IsLawful s → (r : Result (Unit {0}) Refusal) → IfOk r (λ _. HasGone z t mid entry w is) → IfErr r (λ why. HasStayed z t mid entry.page why w is)
    → ReadsUnlessSaved t w is s s
left_unsaved z mid entry law (Ok a) gone stayed = reads_untouched law gone.goes.ran
left_unsaved z mid entry law (Err why) gone stayed = reads_untouched law stayed.goes.ran

-- a page was looked for in frames
pub settled_unsaved : {z y : Shape} {v u w : View} {is : Provider} {s : Story} (page : ℕ) → IsLawful s → y ≡ z → Watched z.alone v u → (r : Result (Option ℕ) Refusal) → IfOk r (λ come. Standing y u page come w) → IfErr r (λ why. Missed y u why w)
    → ReadsUnlessSaved v w is s s
settled_unsaved {z = z} {v = v} {u = u} {w = w} page law same looked (Ok come) a b = reads_untouched law (ran_append z.alone v [] u [] w looked.ran (standing_ran z page come (subst (λ (s : Shape). Standing s u page come w) same a)))
settled_unsaved page law same looked (Err why) a b = reads_untouched law (missed_before same looked b).ran

-- ## The laws

pub area_rest : (s : Story) → IsLawful s → EveryAreaRest s
area_rest s law = record {
  frame = framed 1 s;
  within = within_none law;
  reads = λ v u k alone r. reads_untouched law r;
}

pub area_sequel : (old mid new : Story) → EveryAreaSequel old mid new
area_sequel old mid new = record {
  frame = framed_then;
  within = within_then;
  reads = λ v u w b c whole p q. unsaved_then b whole p q;
}

pub unsaved : (old new : Story) → EveryUnsaved old new
unsaved old new most z v u was is only m r whole none =
    r.reads whole (subst (λ (xs : List Event). saves xs ≡ false) (sym (m.goes.ran.all only) ∙ same_rest v.seen m.goes.ran.more r.more (sym m.goes.ran.seen ∙ r.seen)) none)
