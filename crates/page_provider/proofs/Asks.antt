-- What a call asks of rows behind earlier looks, and of what the pager keeps.
use Rattle.std.proofs.Common.{◌≡◌, ℕ, List, true, sym, subst, arith}
use Rattle.btree_descent.specs.row_words.Moments.{pager}
use Rattle.btree_descent.specs.row_words.declared.event.Event.{Event}
use Rattle.btree_descent.specs.rows_trait.declared.view.View.{View}
use Rattle.btree_descent.specs.rows_trait.Turns.{Ran}
use Rattle.btree_descent.specs.rows_trait.Views.{Shape, may}
use Rattle.btree_descent.specs.Descents.{Sized}
use Rattle.btree_descent.proofs.Calls.{sized_after}
use Rattle.btree_descent.proofs.version_latch.Keeping.{may_ran, may_shape}
use Rattle.held_rows.specs.Rows.{HoldsOne, HoldsTwo}
use Rattle.row_image.specs.Looks.{Watched}
use Rattle.page_provider.specs.Finds.{Stopped}
use Rattle.page_provider.specs.Providers.{Provider, Keeps}
use Rattle.page_provider.specs.declared.refusal.Refusal.{Refusal}

-- ## The frames, and the pager among the actors

pub actor_ran : {z y : Shape} {v u : View} {es : List Event} → y ≡ z → Ran z.alone v es u → may z.alone v pager ≡ true → may y.alone u pager ≡ true
actor_ran {z = z} {y = y} {v = v} {u = u} {es = es} same r m = may_shape y z u pager same (may_ran z.alone v u es pager r m)

pub actor_on : {z y : Shape} {v u : View} → y ≡ z → Watched z.alone v u → may z.alone v pager ≡ true → may y.alone u pager ≡ true
actor_on same k m = actor_ran same k.ran m

pub sized_ran : {z y : Shape} {v u : View} {es : List Event} {frames : ℕ} → y ≡ z → Ran z.alone v es u → Sized z v frames → Sized y u frames
sized_ran {z = z} {y = y} {v = v} {u = u} {frames = frames} same r s = sized_after y z v u frames same r.given s

pub sized_on : {z y : Shape} {v u : View} {frames : ℕ} → y ≡ z → Watched z.alone v u → Sized z v frames → Sized y u frames
sized_on same k s = sized_ran same k.ran s

pub sized_of : {z : Shape} {v : View} {k : Provider} {frames : ℕ} → Keeps z v k → frames ≡ k.frames → Sized z v frames
sized_of {z = z} {v = v} keeps same = subst (λ n. Sized z v n) (sym same) keeps.sized

-- ## Rows that are held

pub one_held : {z y : Shape} {u : View} {a q : ℕ} → y ≡ z → q ≡ a → HoldsOne z u a → HoldsOne y u q
one_held {z = z} {u = u} {q = q} same row one = subst (λ (s : Shape). HoldsOne s u q) (sym same) (subst (λ n. HoldsOne z u n) (sym row) one)

pub two_held : {z y : Shape} {u : View} {a b q r : ℕ} → y ≡ z → q ≡ a → r ≡ b → HoldsTwo z u a b → HoldsTwo y u q r
two_held {z = z} {u = u} {a = a} {q = q} {r = r} same first second two = subst (λ (s : Shape). HoldsTwo s u q r) (sym same) (subst (λ n. HoldsTwo z u n r) (sym first) (subst (λ n. HoldsTwo z u a n) (sym second) two))

-- ## A call that stopped

pub stopped_more : {z : Shape} {v u : View} {why : Refusal} → Stopped 1 z v why u → Stopped 2 z v why u
stopped_more s = let m = s.missed in let few = m.few in record { missed = record { events = m.events; ran = m.ran; misses = m.misses; few = omega arith }; held = s.held; kind = s.kind; quiet = s.quiet }
