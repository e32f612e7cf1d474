-- A page stays in its row while the pager does nothing.
use Rattle.std.proofs.Common.{◌≡◌, inl, inr, true, List, ◌++◌, append-nil, sym, ap, subst, ◌∙◌}
use Rattle.btree_descent.specs.core_state.States.{in_frame}
use Rattle.btree_descent.specs.row_words.declared.event.Event.{Event}
use Rattle.btree_descent.specs.row_words.Moments.{Moment}
use Rattle.btree_descent.specs.row_words.Sealed.{begun}
use Rattle.btree_descent.proofs.row_words.SealedLemmas.{run_append}
use Rattle.btree_descent.specs.rows_trait.Views.{after_all, state}
use Rattle.btree_descent.proofs.lean_proto.Loads.{places_on}
use Rattle.row_image.specs.Images.{EveryStay}

pub every_stay : EveryStay
every_stay alone v row p (inl quiet) stands = record {
  stays = λ between none a. subst (λ (es : List Event). in_frame ((after_all v.given es).core.place p) row ≡ true) (sym (append-nil v.seen) ∙ ap (λ z. v.seen ++ z) (sym (none quiet))) stands;
}
every_stay alone v row p (inr own) stands = record {
  stays = λ between none a. subst (λ (m : Moment). in_frame (m.core.place p) row ≡ true) (sym (run_append v.given (begun v.given) v.seen between)) ((places_on v own between (state v) a).frame p row ∙ stands);
}
