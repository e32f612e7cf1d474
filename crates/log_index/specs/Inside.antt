-- Spots, and the items that they stand for.
use Rattle.std.specs.Prelude.{◌≡◌, ◌+◌, ◌++◌, ℕ, Bool, ◌==◌, ltb, ◌&&◌, ◌||◌, List, [], ◌∷◌, map, length, drop, unwrap_or}
use Rattle.log_record.specs.Spelling.{record_text, kind_of, Begins}
use Rattle.log_record.specs.Reading.{record_in}
use Rattle.log_record.specs.declared.record.Record.{Record}
use Rattle.log_record.specs.declared.record.Body.TheVariants.{Commit}
use Rattle.log_block.specs.Block.{Lists}
use Rattle.log_index.specs.declared.spot.Spot.{Spot}
use Rattle.log_index.specs.Items.{Item}

abbrev pub no_record : Record
no_record = record { txn = 0; gsn = 0; body = Commit 0 }

-- the record that stands at a place; one stands at every place that an index has
unfoldable pub said_at : List ℕ → ℕ → Record
said_at bytes at = unwrap_or (record_in (drop at bytes)) no_record

abbrev pub item_at : List ℕ → Spot → Item
item_at bytes s = record { log = s.log; place = s.place; said = said_at bytes s.at }

abbrev pub items_at : List ℕ → List Spot → List Item
items_at bytes spots = map (item_at bytes) spots

-- at the spot stands a record, whose number and kind are the spot's
pub record Stands (bytes : List ℕ) (s : Spot) : Type 0 where
  pub is : Record
  pub begins : Begins (drop s.at bytes) is (length (record_text is))
  pub number : s.number ≡ is.gsn
  pub kind : s.kind ≡ kind_of is.body

abbrev pub spot_of : (log place at : ℕ) → Record → Spot
spot_of log place at r = record { number = r.gsn; at = at; place = place; log = log; kind = kind_of r.body }

-- the spots of records that stand one behind another, from a place on
abbrev pub spots_of : (log place at : ℕ) → List Record → List Spot
spots_of log place at [] = []
spots_of log place at (r ∷ rs) = spot_of log place at r ∷ spots_of log place (at + length (record_text r)) rs

-- the payload is so many records, whose spots were added
pub record AreAdded (log place at count : ℕ) (payload : List ℕ) (old new : List Spot) : Type 0 where
  pub records : List Record
  pub lists : Lists records count payload
  pub spots : new ≡ old ++ spots_of log place at records

-- by number, then by log
abbrev pub earlier : Spot → Spot → Bool
earlier a b = ltb a.number b.number || ((a.number == b.number) && ltb a.log b.log)
