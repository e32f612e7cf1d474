-- What plain rows begin with of which the root alone is in a frame, so that there may be more pages than frames.
use Rattle.std.specs.Prelude.{◌≡◌, ◌<◌, ℕ, Bool, List, []}
use Rattle.page_model.specs.Page.{Page}
use Rattle.core_paging.specs.core_state.Openings.{Opening}
use Rattle.core_paging.specs.core_state.States.{Place}
use Rattle.rows_trait.specs.row_words.declared.given.Given.{Given}
use Rattle.rows_trait.specs.row_words.Moments.{first_state}
use Rattle.rows_trait.specs.row_words.Sealed.{begun}
use Rattle.row_opening.specs.Openings.{Opens}
use Rattle.row_opening.specs.Opened.{page_at, pages_of, contents_of}

-- the pages as they are, and nothing before: page 0 alone is hot, in frame 0
abbrev pub rooted_of : Bool → (frames locks workers base : ℕ) → List Page → Given
rooted_of faithful frames locks workers base pages = record { faithful = faithful; workers = workers; frames = frames; rows = locks; base = base; pages = pages_of pages; before = [] }

-- page 0 is hot in frame 0, and no other page is in a frame; each is as it was given, and saved so
pub record IsRooted (pages : List Page) (v : Given) : Type 0 where
  pub root : (begun v).core.place 0 ≡ Place.Hot 0
  pub cold : (p : ℕ) → 0 < p → (begun v).core.place p ≡ Place.Cold
  pub page : (p : ℕ) → (begun v).core.page p ≡ contents_of (page_at pages p)
  pub saved : (p : ℕ) → (begun v).core.saved p ≡ contents_of (page_at pages p)
  -- no page is cooling
  pub queue : (begun v).core.queue ≡ []
  -- all is as before anything happened
  pub rest : begun v ≡ record { core = first_state v; answer = λ _. 0 }
  -- an opening of the core opens so
  pub start : Opening
  pub opens : Opens start v
