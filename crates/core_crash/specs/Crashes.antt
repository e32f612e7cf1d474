-- What a crash of a run may leave of the logs and the pages, and that recovery from it gives the map after committed
-- transactions, which are closed and hold each one that was ripe.
use Rattle.std.specs.Prelude.{◌≡◌, ◌≤◌, ◌<◌, ℕ, true, ◌&&◌, not, leb, ◌==◌, List, ◌++◌, Some}
use Rattle.map_model.specs.Lists.{Has, keep}
use Rattle.map_model.specs.Journals.{Txn, Journal, is_earlier, Used, after, IsClosed, Serial}
use Rattle.core_paging.specs.image_model.Entries.{Entry, Contents, is_record, is_commit, touches}
use Rattle.core_paging.specs.image_model.Ends.{kept}
use Rattle.core_paging.specs.image_model.Images.{Image, StandsFor, found, won_by, recovered_page, map_of}
use Rattle.core_paging.specs.image_model.Histories.{journal}
use Rattle.core_paging.specs.core_state.States.{State, start, flushed_by_all}
use Rattle.core_paging.specs.core_state.Openings.{Opening, first_map}
use Rattle.core_paging.specs.core_state.Events.{Event}
use Rattle.core_paging.specs.core_state.Steps.{claims, run, HasBeen}

-- ## What a crash leaves

-- log w, the newest record first
abbrev pub log_of : ℕ → List Entry → List Entry
log_of w h = keep (λ r. is_record r.kind && (r.log == w)) h

-- xs is ys without some of its newest
abbrev pub IsPrefix : List Entry → List Entry → Type 0
IsPrefix xs ys = (newer : List Entry) × (newer ++ xs ≡ ys)

-- Of each log a prefix that holds all up to its flushed number; of each page contents that it has had, with a number up
-- to the least flushed one, which hold its changes up to the greatest number of a Cut.
pub record Leaves (g : Opening) (es : List Event) (logs : ℕ → List Entry) (page : ℕ → Contents) : Type 0 where
  pub prefixes : (w : ℕ) → 0 < w → w ≤ g.workers → IsPrefix (logs w) (log_of w (run g (start g) es).entries)
  pub flushed : (w : ℕ) → 0 < w → w ≤ g.workers → (r : Entry) → Has r (log_of w (run g (start g) es).entries) → r.number ≤ (run g (start g) es).flushed w → Has r (logs w)
  pub pages : (p : ℕ) → HasBeen g (start g) es p (page p)
  pub numbers : (p : ℕ) → (page p).gsn ≤ flushed_by_all g (run g (start g) es)
  pub changes : (p : ℕ) (r : Entry) → Has r (run g (start g) es).entries → touches p r ≡ true → r.number ≤ (run g (start g) es).cut → r.number ≤ (page p).gsn

-- from its head on
abbrev pub from_head : ℕ → List Entry → List Entry
from_head head l = keep (λ r. not (leb r.number head)) l

-- the image that the disk is then
abbrev pub image_of : Opening → State → (ℕ → List Entry) → (ℕ → Contents) → Image
image_of g s logs page = record { format = g.format; logs = g.workers; floor = s.floor; log = λ w. from_head (s.head w) (logs w); base = λ p. Some (page p) }

-- ## What recovery gives

-- the committed transactions of a state, by their commit numbers
abbrev pub journal_in : Opening → State → Journal
journal_in g s = journal g.format s.entries

-- those that the image keeps
abbrev pub kept_in : Opening → State → Image → Journal
kept_in g s i = kept i.logs i.floor (found i) (journal_in g s)

-- t's commit is flushed in its own log, and all logs are as far as it needs
pub record IsRipe (g : Opening) (s : State) (t : Txn) : Type 0 where
  pub end : Entry
  pub has : Has end s.entries
  pub commit : is_commit end.kind ≡ true
  pub session : end.log ≡ t.session
  pub number : end.txn ≡ t.number
  pub flushed : end.number ≤ s.flushed end.log
  pub need : end.need ≤ flushed_by_all g s

-- u used a key whose row it held alone, be it to find it absent, and t used it later
pub record Follows (g : Opening) (s : State) (t u : Txn) : Type 0 where
  pub key : ℕ
  pub used : Used t key
  pub claim : Entry
  pub has : Has claim s.entries
  pub claims : claims claim ≡ true
  pub of_key : claim.key ≡ key
  pub session : claim.log ≡ u.session
  pub number : claim.txn ≡ u.number
  pub in_journal : Has u (journal_in g s)
  pub before : is_earlier u t ≡ true

-- what recovery gives from an image that a crash of the state left
pub record Recovers (g : Opening) (s : State) (i : Image) : Type 0 where
  -- no rule is broken, and recovery gives the map after the kept
  pub stands : StandsFor i (after (first_map g) (kept_in g s i)) (won_by i)
  pub closed : IsClosed (journal_in g s) (kept_in g s i)
  -- also under what a member used later than one that held it alone
  pub followed : (t u : Txn) → Has t (kept_in g s i) → Follows g s t u → Has u (kept_in g s i)
  pub ripe : (t : Txn) → Has t (journal_in g s) → IsRipe g s t → Has t (kept_in g s i)

-- Where the opening is faithful, whatever happens and wherever a crash falls, recovery gives the map after a closed set of
-- committed transactions that holds each ripe one.
abbrev pub EveryCrash : Type 0
EveryCrash = (g : Opening) → g.faithful ≡ true → (es : List Event) (logs : ℕ → List Entry) (page : ℕ → Contents) → Leaves g es logs page →
    let s = run g (start g) es in Recovers g s (image_of g s logs page)

-- Where the opening is faithful: run one after another from the first map, in the order of their commit numbers, the committed transactions give their answers.
abbrev pub EverySerial : Type 0
EverySerial = (g : Opening) → g.faithful ≡ true → (es : List Event) → Serial (first_map g) (journal_in g (run g (start g) es))

-- The same of the saved contents: recovery from the logs and the saved pages.
abbrev pub EveryStored : Type 0
EveryStored = (g : Opening) → g.faithful ≡ true → (es : List Event) (logs : ℕ → List Entry) → let s = run g (start g) es in
    ((w : ℕ) → 0 < w → w ≤ g.workers → IsPrefix (logs w) (log_of w s.entries)) →
    ((w : ℕ) → 0 < w → w ≤ g.workers → (r : Entry) → Has r (log_of w s.entries) → r.number ≤ s.flushed w → Has r (logs w)) →
    Recovers g s (image_of g s logs s.saved)

-- What opening then gives: the pages that recovery leaves, with a new base number.
pub record Reopened (g : Opening) (i : Image) (base : ℕ) : Type 0 where
  pub opening : Opening
  pub faithful : opening.faithful ≡ true
  pub format : opening.format ≡ g.format
  pub workers : opening.workers ≡ g.workers
  pub frames : opening.frames ≡ g.frames
  pub row_of : opening.row_of ≡ g.row_of
  pub base_is : opening.base ≡ base
  pub node : (p : ℕ) → opening.node p ≡ (recovered_page i p).node
  pub gsn : (p : ℕ) → p < g.format.pages → opening.gsn p ≡ (recovered_page i p).gsn
  pub last : (p : ℕ) → p < g.format.pages → opening.last p ≡ (recovered_page i p).last
  pub map : (k : ℕ) → first_map opening k ≡ map_of i k

-- Where the opening is faithful: after a crash the engine opens again, as faithfully, on the map for which the image stands, at any base number that no page is above.
abbrev pub EveryReopening : Type 0
EveryReopening = (g : Opening) → g.faithful ≡ true → (es : List Event) (logs : ℕ → List Entry) (page : ℕ → Contents) → Leaves g es logs page →
    let i = image_of g (run g (start g) es) logs page in
    (base : ℕ) → ((p : ℕ) → p < g.format.pages → (recovered_page i p).gsn ≤ base) → Reopened g i base
