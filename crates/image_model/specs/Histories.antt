-- The calls and the committed transactions that a history of entries tells of.
use Rattle.std.specs.Prelude.{if◌then◌else◌, ℕ, ltb, List, [], ◌∷◌, Option, Some}
use Rattle.map_model.specs.Lists.{keep}
use Rattle.map_model.specs.Maps.{MapCall, MapAnswer}
use Rattle.map_model.specs.Histories.{Step}
use Rattle.map_model.specs.Journals.{Txn, Journal, journal_of}
use Rattle.page_model.specs.Nodes.{Format}
use Rattle.page_model.specs.Tree.{value_of}
use Rattle.image_model.specs.Entries.{Kind, Entry, is_commit, same_txn}

-- a word as a value, or none
abbrev pub said : Format → ℕ → Option ℕ
said f w = value_of f (Some w)

-- to write a tombstone's word is to delete
abbrev pub write_call : Format → ℕ → ℕ → MapCall
write_call f key word = if ltb word f.dead then MapCall.Put key word else MapCall.Del key

-- the call of an entry, if it is one; a put-back is a put or a del
abbrev pub step_onto : Format → Kind → Entry → List Step → List Step
step_onto f Kind.Change r earlier = record { session = r.log; call = write_call f r.key r.after; answer = MapAnswer.Was (said f r.before) } ∷ earlier
step_onto f Kind.Put_back r earlier = record { session = r.log; call = write_call f r.key r.after; answer = MapAnswer.Was (said f r.before) } ∷ earlier
step_onto f Kind.Read r earlier = record { session = r.log; call = MapCall.Get r.key; answer = MapAnswer.Value (said f r.after) } ∷ earlier
step_onto f _ r earlier = earlier

-- the calls of a history
abbrev pub steps_of : Format → List Entry → List Step
steps_of f [] = []
steps_of f (r ∷ h) = step_onto f r.kind r (steps_of f h)

-- the transaction that e commits, with the calls behind it
abbrev pub txn_of : Format → Entry → List Entry → Txn
txn_of f e h = record { session = e.log; number = e.txn; at = e.number; calls = steps_of f (keep (λ r. same_txn r e) h) }

abbrev pub committed : Format → List Entry → List Txn
committed f [] = []
committed f (e ∷ h) = if is_commit e.kind then txn_of f e h ∷ committed f h else committed f h

-- the journal of a history
abbrev pub journal : Format → List Entry → Journal
journal f h = journal_of (committed f h)
