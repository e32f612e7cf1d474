-- A session as it begins, and the shape of the rows that its engine has.
use Rattle.std.specs.Prelude.{◌≡◌, ◌<◌, ℕ, true, false, [], None}
use Rattle.btree_descent.specs.rows_trait.Plain.{sizes}
use Rattle.btree_descent.specs.rows_trait.Views.{Shape, no_place}
use Rattle.session_state.specs.declared.session.Session.{Session}

-- a session that has done nothing, where all is flushed up to the base
pub record IsFirst (base : ℕ) (x : Session) : Type 0 where
  pub group : 0 < x.group
  pub behind : x.unflushed ≡ 0
  pub works : x.works ≡ true
  pub is_open : x.is_open ≡ false
  pub txn : x.txn ≡ 0
  pub clock : x.clock.clock ≡ base
  pub floor : x.clock.floor ≡ base
  pub debt : x.clock.debt ≡ 0
  pub end : x.end ≡ base
  pub undo : x.undo ≡ []
  pub first : x.first ≡ None
  pub is_half_aborted : x.is_half_aborted ≡ false
  pub rows : x.held.rows ≡ []

-- the shape of plain rows
abbrev pub plain_shape : (frames locks workers : ℕ) → Shape
plain_shape frames locks workers = record { sizes = sizes frames locks workers; alone = true; place = no_place }
