-- An event changes no row that it does not publish, and of workers its own alone.
use Rattle.map_model.specs.Lists.{upd, any}
use Rattle.map_model.specs.Maps.{MapAnswer}
use Rattle.image_model.specs.Entries.{Kind, Entry}
use Rattle.page_model.specs.Records.{Record}
use Rattle.page_model.specs.Needs as page_needs
use Rattle.core_state.specs.States.{Place, State, Worker, is_hot, is_cooling, frame_of, left_by, nodes_of, gsns_of}
use Rattle.core_state.specs.Openings.{Opening}
use Rattle.core_state.specs.Events.{Event}
use Rattle.core_state.specs.Steps.{at_pages, at_row, begun, finished, write_entry, moves, put_back, looks, reads, follows, happens, with_pairs}
use Rattle.core_state.specs.Local.{publishes_row, publishes_page, is_of, is_sync, EveryLocal}
use Rattle.std.proofs.Common.{◌≡◌, ◌==◌, ◌||◌, ℕ, suc, Bool, true, false, List, [], ◌∷◌, Some, None, refl, sym, ap, true≢false}
use Rattle.std.proofs.lemmas.Bool.{cond-false, ne_eqb, eqb-false}

-- an update at i leaves j
kept : {A : Type 0} (f : ℕ → A) (i : ℕ) (a : A) (j : ℕ) → (i == j) ≡ false → upd f i a j ≡ f j
kept f i a j h = cond-false (j == i) a (f j) (ne_eqb j i (λ e. eqb-false i j h (sym e)))

-- of one page
one_page : (p q : ℕ) → any (λ x. x == q) (p ∷ []) ≡ false → (p == q) ≡ false
one_page p q h = go (p == q) h
  where
    go : (b : Bool) → (b || false) ≡ false → b ≡ false
    go true e = absurd (true≢false e)
    go false e = refl

module _ (g : Opening) (s : State) where
  -- what a put-back leaves, if a write of each change leaves it
  back_keeps : {A : Type 0} (f : State → A) (w p : ℕ) → ((c : Entry) (cs : List Entry) → f (put_back g s w p (c ∷ cs)) ≡ f s) → f (put_back g s w p (s.worker w).changes) ≡ f s
  back_keeps f w p h = go (s.worker w).changes
    where
      go : (cs : List Entry) → f (put_back g s w p cs) ≡ f s
      go [] = refl
      go (c ∷ cs) = h c cs

  -- what the answer of a Next leaves, if a read and a look leave it
  next_keeps : {A : Type 0} (f : State → A) (w p : ℕ) (a : MapAnswer) → ((k : ℕ) → f (reads g s w p k) ≡ f s) → f (looks s w p) ≡ f s → f (follows g s w p a) ≡ f s
  next_keeps f w p (MapAnswer.Pair k v) r l = r k
  next_keeps f w p (MapAnswer.Gap b) r l = l
  next_keeps f w p (MapAnswer.Value b) r l = refl
  next_keeps f w p (MapAnswer.Was b) r l = refl

  rows : (e : Event) (j : ℕ) → publishes_row e j ≡ false → (happens g s e).row j ≡ s.row j
  rows (Event.Lock w i mode) j h = kept s.row i (Rattle.core_state.specs.Steps.locked (s.row i) w mode) j h
  rows (Event.Unlock w i) j h = kept s.row i (Rattle.core_state.specs.Steps.unlocked (s.row i) w (s.worker w).end) j h
  rows (Event.Next w p k a) j h = next_keeps (λ (x : State). x.row j) w p a (λ i. refl) refl
  rows (Event.Put_back w p) j h = back_keeps (λ (x : State). x.row j) w p (λ c cs. refl)
  rows _ j h = refl

  pages : (e : Event) (q : ℕ) → publishes_page e q ≡ false → (happens g s e).page q ≡ s.page q
  pages (Event.Change w p k v) q h = rw h refl
  pages (Event.Put_back w p) q h = back_keeps (λ (x : State). x.page q) w p (λ c cs. rw h refl)
  pages (Event.Split w l r p i) q h = rw h refl
  pages (Event.Lift w c) q h = rw h refl
  pages (Event.Join w l r p) q h = rw h refl
  pages (Event.Drop w c) q h = rw h refl
  pages (Event.Purge w p keys) q h = rw h refl
  pages (Event.Fetch p pairs) q h = kept s.page p (with_pairs pairs (s.saved p)) q (one_page p q h)
  pages (Event.Load p f) q h = kept s.page p (s.saved p) q (one_page p q h)
  pages (Event.Next w p k a) q h = next_keeps (λ (x : State). x.page q) w p a (λ i. refl) refl
  pages _ q h = refl

  saved : (e : Event) (q : ℕ) → publishes_page e q ≡ false → (happens g s e).saved q ≡ s.saved q
  saved (Event.Fetch p pairs) q h = kept s.saved p (with_pairs pairs (s.saved p)) q (one_page p q h)
  saved (Event.Save p) q h = kept s.saved p (s.page p) q (one_page p q h)
  saved (Event.Put_back w p) q h = back_keeps (λ (x : State). x.saved q) w p (λ c cs. refl)
  saved (Event.Next w p k a) q h = next_keeps (λ (x : State). x.saved q) w p a (λ i. refl) refl
  saved _ q h = refl

  -- places, but for whom a cooling page waits
  places : {A : Type 0} (f : Place → A) → ((w : ℕ) (x : Place) → f (left_by w x) ≡ f x) → (e : Event) (q : ℕ) → publishes_page e q ≡ false → f ((happens g s e).place q) ≡ f (s.place q)
  places f l (Event.Leave w) q h = l w (s.place q)
  places f l (Event.Load p i) q h = ap f (kept s.place p (Place.Hot i) q (one_page p q h))
  places f l (Event.Cool p) q h = ap f (kept s.place p (Place.Cooling (frame_of (s.place p)) s.epoch (λ w. Rattle.core_state.specs.Needs.is_inside (s.inside w))) q (one_page p q h))
  places f l (Event.Rescue p) q h = ap f (kept s.place p (Place.Hot (frame_of (s.place p))) q (one_page p q h))
  places f l (Event.Evict p) q h = ap f (kept s.place p Place.Cold q (one_page p q h))
  places f l (Event.Put_back w p) q h = back_keeps (λ (x : State). f (x.place q)) w p (λ c cs. refl)
  places f l (Event.Next w p k a) q h = next_keeps (λ (x : State). f (x.place q)) w p a (λ i. refl) refl
  places f l _ q h = refl

  -- an update of one worker leaves the others
  own : (v : ℕ) (a : Worker) (w : ℕ) → (v == w) ≡ false → upd s.worker v a w ≡ s.worker w
  own v a w h = kept s.worker v a w h

  moved : (K : Kind) (v : ℕ) (ps : List ℕ) (y : Record) (w : ℕ) → (v == w) ≡ false → (moves s K v ps y).worker w ≡ s.worker w
  moved K v ps y w h = own v (record (at_pages s v (s.worker v) ps) { clock = suc (at_pages s v (s.worker v) ps).clock }) w h

  workers : (e : Event) (w : ℕ) → is_of e w ≡ false → is_sync e ≡ false → (happens g s e).worker w ≡ s.worker w
  workers (Event.Begin v f) w h n = own v (begun (s.worker v) f) w h
  workers (Event.Lock v i mode) w h n = own v (at_row v (s.worker v) (s.row i)) w h
  workers (Event.Read v p k a) w h n = own v (at_pages s v (s.worker v) (p ∷ [])) w h
  workers (Event.Next v p k a) w h n = next_keeps (λ (x : State). x.worker w) v p a (λ i. own v (at_pages s v (s.worker v) (p ∷ [])) w h) (own v (at_pages s v (s.worker v) (p ∷ [])) w h)
  workers (Event.Change v p k x) w h n = own v (record (at_pages s v (s.worker v) (p ∷ [])) { clock = suc (at_pages s v (s.worker v) (p ∷ [])).clock; changes = write_entry g Kind.Change s v (at_pages s v (s.worker v) (p ∷ [])) p k x ∷ (s.worker v).changes }) w h
  workers (Event.Put_back v p) w h n = back_keeps (λ (x : State). x.worker w) v p (λ c cs. own v (record (at_pages s v (s.worker v) (p ∷ [])) { clock = suc (at_pages s v (s.worker v) (p ∷ [])).clock; changes = cs }) w h)
  workers (Event.Split v l r p i) w h n = moved Kind.Split v (l ∷ r ∷ p ∷ []) (page_needs.split_record (nodes_of s) (gsns_of s) l r p i) w h
  workers (Event.Lift v c) w h n = moved Kind.Lift v (0 ∷ c ∷ []) (page_needs.lift_record (nodes_of s) (gsns_of s) c) w h
  workers (Event.Join v l r p) w h n = moved Kind.Join v (l ∷ r ∷ p ∷ []) (page_needs.join_record (nodes_of s) (gsns_of s) l r p) w h
  workers (Event.Drop v c) w h n = moved Kind.Drop v (0 ∷ c ∷ []) (page_needs.drop_record (nodes_of s) (gsns_of s) c) w h
  workers (Event.Purge v p keys) w h n = moved Kind.Purge v (p ∷ []) (page_needs.purge_record (gsns_of s) p keys) w h
  workers (Event.End v commit f) w h n = own v (finished (s.worker v) (suc (s.worker v).clock)) w h
  workers (Event.Sync m) w h n = absurd (true≢false n)
  workers _ w h n = refl

  flushed : (e : Event) (w : ℕ) → is_of e w ≡ false → is_sync e ≡ false → (happens g s e).flushed w ≡ s.flushed w
  flushed (Event.Flush v m) w h n = kept s.flushed v m w h
  flushed (Event.Sync m) w h n = absurd (true≢false n)
  flushed (Event.Next v p k a) w h n = next_keeps (λ (x : State). x.flushed w) v p a (λ i. refl) refl
  flushed (Event.Put_back v p) w h n = back_keeps (λ (x : State). x.flushed w) v p (λ c cs. refl)
  flushed _ w h n = refl

  inside : (e : Event) (w : ℕ) → is_of e w ≡ false → (happens g s e).inside w ≡ s.inside w
  inside (Event.Enter v x) w h = kept s.inside v (Some x) w h
  inside (Event.Leave v) w h = kept s.inside v None w h
  inside (Event.Next v p k a) w h = next_keeps (λ (x : State). x.inside w) v p a (λ i. refl) refl
  inside (Event.Put_back v p) w h = back_keeps (λ (x : State). x.inside w) v p (λ c cs. refl)
  inside _ w h = refl

left_hot : (w : ℕ) (x : Place) → is_hot (left_by w x) ≡ is_hot x
left_hot w (Place.Hot f) = refl
left_hot w (Place.Cooling f e v) = refl
left_hot w Place.Cold = refl

left_cooling : (w : ℕ) (x : Place) → is_cooling (left_by w x) ≡ is_cooling x
left_cooling w (Place.Hot f) = refl
left_cooling w (Place.Cooling f e v) = refl
left_cooling w Place.Cold = refl

left_frame : (w : ℕ) (x : Place) → frame_of (left_by w x) ≡ frame_of x
left_frame w (Place.Hot f) = refl
left_frame w (Place.Cooling f e v) = refl
left_frame w Place.Cold = refl

pub every_local : EveryLocal
every_local g s e = record {
  rows = rows g s e;
  pages = pages g s e;
  saved = saved g s e;
  hot = places g s is_hot left_hot e;
  cooling = places g s is_cooling left_cooling e;
  frame = places g s frame_of left_frame e;
  workers = workers g s e;
  flushed = flushed g s e;
  inside = inside g s e;
}
