-- The records are those that the caller picks.
use Rattle.atomic_table.proofs.Names.{◌≡◌, [], ◌∷◌, refl, a_type, dcons, dnil, Val, inst_fn, SProp, emp, ent, sem, Logic, Ura, ‵, raw, ◌⊛◌, ◌$◌, ◌∵◌, !, qed, by, keep, split, fjoin, use0, no_more, and_then, returns, enter, alloc_all, pass_all, free_all, look_at, get, sets, agg, tables, RattleType, owns, types_at, nothing, bounded, alive, Stays, walk_of, fact, fact_i, vstruct, vcons, vnil, makes_shadow}
use Rattle.atomic_table.proofs.Walks.{proved, leaves}
use denote.Struct.Struct.{Struct}
use denote.Struct.Owning.{shape}
use Rattle.draw_trait.specs.contracts.staged.Staged as staged
use Rattle.draw_trait.specs.contracts.staged.Staged.of.{ended, clauses}
use Rattle.draw_trait.specs.contracts.staged.Staged.of.Key.{name as #self}
use Rattle.draw_trait.proofs.staged.Staged.of.Statement.{statement}
use Rattle.draw_trait.proofs.staged.Staged.of.Code as code

abbrev token_val : Val
token_val = vstruct (vcons (vstruct vnil) vnil)

abbrev Data : RattleType
Data = Struct (shape staged.the_type)

data_made : {M : Type 1} {𝓤 : Ura M} (𝓛 : Logic 𝓤) → ent 𝓤 (emp 𝓤) (sem 𝓛 (Data.own_val (tt, tt) (token_val ∷ [])))
data_made 𝓛 = makes_shadow 𝓛 (Data.own_val (tt, tt) (token_val ∷ [])) (λ vss. (tt, ((λ uss. (tt, tt)), tt))) ((vstruct vnil ∷ [], tt), (refl, ((tt, (refl, tt)), tt)))

pub of_spec : {M : Type 1} → statement M
of_spec 𝓤 𝓛 𝓜 𝓡 wired K _ g d _ =
    let H = 𝓛.H in let 𝓣 = tables 𝓤 H 𝓜 𝓡 𝓡.env in let En = ended K g d in let c = clauses K g d 𝓛 𝓜.mem 𝓡.returns in
    let inst = bounded (a_type ∷ []) (K, tt) (dcons d dnil) in let fn = inst_fn inst code.function in let closed = code.unfolded 𝓤 H 𝓜 𝓡 wired (K, tt) d in let Br : RattleType = staged.the_row in
    let hs : Stays En.signature.params En.kept = tt in
    proved 𝓛 En hs c 𝓜 𝓡 tt (#self inst) fn closed (λ κs. tt) (λ κs. tt) (λ κs qs bounds a gh are.
    let r : Br.Denot = record { of = record {}; list = g.which } in
    let Told : Type 0 = r.list ≡ g.which in let y : (walk_of 𝓛 En hs c).Ghost = ((κs, qs, bounds, a, tt), gh) in let Post : Val → SProp 𝓤 = (walk_of 𝓛 En hs c).post y in
    qed 𝓛 ((raw (alive 𝓛 En.signature κs qs) ⊛ ‵ (owns (types_at En.signature.params κs) a y.0.4)) ∷ raw ((c κs a).requires gh) ∷ []) ∵
    split ! $ keep ! (0 ∷ []) $ nothing ! $ use0 𝓛 (‵ (Data.own_val (tt, tt) (token_val ∷ []))) (data_made 𝓛) $ fjoin ! $
    enter ! 𝓣.C 𝓣.Λ fn [] Post $ alloc_all ! (λ l. pass_all ! refl tt $
    sets ! (agg ! (no_more !)) refl (tt, tt) $ sets ! (agg ! (and_then ! (get ! refl) (no_more !))) refl (tt, (tt, tt)) $
    use0 𝓛 (raw (fact 𝓤 Told)) (fact_i 𝓤 Told (emp 𝓤) refl) $ nothing ! $
    returns ! (look_at ! 0 refl) $ free_all ! refl $ keep ! (3 ∷ 0 ∷ 2 ∷ 1 ∷ []) $ by ! (leaves 𝓛 En hs c y token_val r tt tt)))
