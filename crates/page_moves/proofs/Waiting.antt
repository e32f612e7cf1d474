-- What stays for the pager while others step.
use Rattle.std.proofs.Common.{◌<◌, ℕ, [], sym, subst, ◌∙◌}
use Rattle.page_model.specs.Tree.{IsTree}
use Rattle.lean_proto.specs.core_state.States.{nodes_of}
use Rattle.lean_proto.specs.core_paging.Paging.{Residence}
use Rattle.lean_proto.specs.row_words.declared.given.Given.{Given}
use Rattle.lean_proto.specs.row_words.Moments.{Moment, pager}
use Rattle.lean_proto.specs.row_words.Openings.{opening}
use Rattle.lean_proto.specs.rows_trait.declared.view.View.{View}
use Rattle.lean_proto.specs.rows_trait.Views.{Shape, after_all, state}
use Rattle.lean_proto.proofs.version_latch.Keeping.{may_ran}
use Rattle.lean_proto.proofs.Moves.{Stays, stays_all}
use Rattle.held_rows.specs.Rows.{Waited}
use Rattle.held_rows.specs.Waits.{moment_is}
use Rattle.page_moves.specs.Moves.{IsPager, IsIn}

pub stays_wait : {z : Shape} {v w : View} → IsPager z v → (k : Waited z.alone v w) → Stays v (state v).core (state w).core
stays_wait {z = z} {v = v} on k = subst (λ (m : Moment). Stays v (state v).core m.core) (sym (moment_is k)) (stays_all z v on.actor k.between k.quiet k.apart)

pub pager_on : {z : Shape} {v w : View} → IsPager z v → Waited z.alone v w → IsPager z w
pager_on {z = z} {v = v} {w = w} on k = record {
  actor = may_ran z.alone v w [] pager k.ran on.actor;
  order = λ es. let o = on.order es in record {
    tree = subst (λ (g : Given). IsTree (opening g).format (nodes_of (after_all g es).core)) (sym k.ran.given) o.tree;
    places = subst (λ (g : Given). Residence (opening g) (after_all g es).core) (sym k.ran.given) o.places;
  };
}

pub in_on : {z : Shape} {v w : View} {row p : ℕ} → IsPager z v → Waited z.alone v w → IsIn v row p → IsIn w row p
in_on {v = v} {w = w} {row = row} {p = p} on k i = record {
  below = subst (λ (g : Given). p < (opening g).format.pages) (sym k.ran.given) i.below;
  stands = (stays_wait on k).places.frame p row ∙ i.stands;
}
