-- `reference_mut` hands its reference on to `referred_mut`.
use Rattle.jsonpath_base.proofs.LoanWords.{[], ◌∷◌, ◌≡◌, refl, proved, ftrue, flft, named, fact, tables, ‵, raw, ◌⊛◌, ◌$◌, ◌∵◌, !, qed, done, move, keep, drop, use0, use1, use2, split, join, fjoin, suffices, frame, enter, addr, stop, returns, alloc_all, pass_all, free_all, look_at, get, through, sets, lands_as, heard, MutRef, MutBor, mut_vals, mut_Tells, plain, nothing, no, yes, Stays, walk_of, stay_dropped, Goes-spent_ref, Goes-dropped, mut_ref_to, ends_at, says, calls_at, triple_of, lasts, framed, peeks, shows, no_more, and_then, id⊢}
use Rattle.jsonpath_base.specs.Prelude.Documents.{at, HasIndexesInRange, IsNormal, IsReferred, LendsReferred, lent_in, Location, OutOfMemory, value_document, value_is_whole, value_tree}
use Rattle.jsonpath_base.proofs.lemmas.documents.{Answer, answer_laws, normal_answered}
use Rattle.std.proofs.Common.{Option, Result, IfOk, IfErr, IfSome, IsTrue, option_map}
use Rattle.std.specs.contracts.alloc.Global.{the_row as A}
use Rattle.std.proofs.alloc.Global.TheLaws.{the_row_laws as A-laws, the_told as A-told}
use types.Kit.{pick, some, later, await}
use base.Fml.{Lft}
use base.Logic.{emp}
use contract.Monad.{fact_i}
use denote.Laws.{Is}
use denote.Ref.{NamedLft}
use denote.Text.{Str, StrRefOf, str-laws}
use denote.Triple.Clauses.{Lasts}
use Rattle.serde_json.specs.contracts.value.Value.{the_row as R}
use Rattle.jsonpath_parser.specs.contracts.errors.JsonPathError.{the_row as E}
use Rattle.jsonpath_base.specs.contracts.documents.queryable.value.ValueQueryable.reference_mut as f
use Rattle.jsonpath_base.proofs.documents.queryable.value.ValueQueryable.reference_mut.Statement.{statement}
use Rattle.jsonpath_base.proofs.documents.queryable.value.ValueQueryable.reference_mut.Code as code
use Rattle.jsonpath_base.specs.contracts.documents.lending.referred_mut as g₀
use Rattle.jsonpath_base.proofs.documents.lending.referred_mut.Met.{met as met₀}

abbrev stayed : Stays f.ended.signature.params f.ended.kept
stayed = (stay_dropped (mut_ref_to (0 ∷ []) tt (plain (λ _. R))) no, (stay_dropped (plain (λ _. A)) yes, (stay_dropped (StrRefOf (1 ∷ []) tt) yes, tt)))

abbrev second : Lft → NamedLft
second κ = record { mir = named 1; lft = κ }

pub reference_mut_spec : {M : Type 1} → statement M
reference_mut_spec 𝓤 𝓛 𝓜 𝓡 wired =
    let c = f.clauses 𝓛 𝓜.mem 𝓡.returns in let W = walk_of 𝓛 f.ended stayed c in let 𝓣 = tables 𝓤 𝓛.H 𝓜 𝓡 𝓡.env in
    proved 𝓛 f.ended stayed c 𝓜 𝓡
    (Goes-spent_ref 𝓛 2 (0 ∷ []) tt (plain (λ _. R)), (Goes-dropped 𝓛 2 (plain (λ _. A)) yes (λ κs x w. refl), (Goes-dropped 𝓛 2 (StrRefOf (1 ∷ []) tt) yes (λ κs x w. refl), tt)))
    f.Key.name code.function (code.unfolded 𝓤 𝓛.H 𝓜 𝓡 wired)
    (λ κs. (mut_vals, ((λ x. A-told.val x ∷ []), ((λ x. (str-laws (second κs.1.0)).val x ∷ []), tt)))) (λ κs. (mut_Tells (named 0) κs.0 R, (A-told.tells, ((str-laws (second κs.1.0)).tells, tt)))) (λ κs qs bounds a _ are.
    let κ = κs.0 in let κp = κs.1.0 in let q = qs.0 in let qp = qs.1.0 in let value = a.0 in let alloc = a.1.0 in let path = a.1.1.0 in
    let S = str-laws (second κp) in let alloc_vals = A-told.val alloc ∷ [] in let path_vals = S.val path ∷ [] in
    let doc = value_document value.now in
    let z : W.Ghost = ((κs, qs, bounds, a, (mut_vals value, (alloc_vals, (path_vals, tt)))), tt) in
    qed 𝓛 (((‵ (flft κ q) ⊛ ‵ (flft κp qp) ⊛ ‵ ftrue) ⊛ (‵ ((MutRef (named 0) κ R).own_val value (mut_vals value)) ⊛ ‵ (A.own_val alloc alloc_vals) ⊛ ‵ ((Str (named 1) κp).own_val path path_vals) ⊛ ‵ ftrue)) ∷ raw ((c κs a).requires tt) ∷ []) ∵
    split ! $ split ! $ move ! (1 ∷ []) $ split ! $ move ! (3 ∷ []) $ split ! $ move ! (1 ∷ []) $ split ! $ move ! (1 ∷ []) $ split ! $ keep ! (3 ∷ 0 ∷ 2 ∷ 6 ∷ 4 ∷ []) $
    -- [value; path; alloc; the token of κ; of κp]
    enter ! _ _ _ _ _ $ alloc_all ! (λ l. pass_all ! refl ((tt, tt), (((A-laws.lawful 𝓛).typed alloc alloc_vals are.1.0).0, (((S.lawful 𝓛).typed path path_vals are.1.1.0).0, tt))) $
    sets ! (addr ! (through ! refl (stop !))) refl (tt, tt) $
    let G₀ = triple_of 𝓛 g₀.signature (g₀.spec 𝓛 𝓜.mem 𝓡.returns) in
    let z₀ : G₀.Ghost = ((κs, qs, tt, (alloc, (value, (path, tt))), (alloc_vals, (mut_vals value, (path_vals, tt)))), tt) in
    nothing ! $ move ! (2 ∷ 0 ∷ []) $ join ! $ move ! (1 ∷ 0 ∷ []) $ join ! $ move ! (1 ∷ 0 ∷ []) $ join ! $ nothing ! $ move ! (3 ∷ 0 ∷ []) $ join ! $ move ! (2 ∷ 0 ∷ []) $ join ! $ join ! $
    use0 𝓛 (raw (emp 𝓤)) (id⊢ 𝓤 _) $ move ! (1 ∷ 0 ∷ []) $ use2 𝓛 (raw (G₀.pre z₀)) (id⊢ 𝓤 _) $
    calls_at ! (framed 𝓤 𝓛.H 𝓜 𝓣) G₀ (met₀ 𝓤 𝓛 𝓜 𝓡 (code.calls-jsonpath_base::documents::lending::referred_mut 𝓡.env wired)) z₀ (and_then ! (get ! refl) (and_then ! (get ! refl) (and_then ! (get ! refl) (no_more !)))) (λ v₀.
    let Out = Result (Option (MutBor R.Denot)) E.Denot in
    let Found = λ (o : Out). IfOk o (λ r. IsReferred path.now doc (option_map (λ v. value_tree v.now) r)) in let Normal = λ (o : Out). (m : Location) → IsNormal m path.now → HasIndexesInRange m → IfOk o (λ r. option_map (λ v. value_tree v.now) r ≡ at m (value_tree value.now)) in let Whole = λ (o : Out). IsTrue (value_is_whole value.now) → IfOk o (λ r. IfSome r (λ v. IsTrue (value_is_whole v.now))) in let Refused = λ (o : Out). IfErr o (λ e. e ≡ OutOfMemory) in
    use1 𝓛 (later (some (λ (o : Out). ((‵ (flft κ q) ⊛ ‵ (flft κp qp) ⊛ ‵ ftrue) ⊛ ‵ ((Answer κ).own_val o (v₀ ∷ []))) ⊛
    some (λ (ws : Lasts g₀.ended z₀.0.0 z₀.0.3). ‵ (lasts g₀.ended z₀.0.0 z₀.0.3 ws) ⊛ (‵ (LendsReferred path.now value (lent_in o)) ⊛ (raw (fact 𝓤 (Found o)) ⊛ (raw (fact 𝓤 (Whole o)) ⊛ raw (fact 𝓤 (Refused o))))))))) (id⊢ 𝓤 _) $
    await ! tt $ pick ! (λ given. split ! $ split ! $ split ! $ move ! (1 ∷ []) $ split ! $ move ! (4 ∷ []) $ pick ! (λ ws₀. split ! $ drop ! $ split ! $ move ! (1 ∷ []) $ split ! $ heard ! _ (λ found. split ! $ heard ! _ (λ whole. heard ! _ (λ refused.
    -- [the tie; the token of κp; nothing; the token of κ; the answer]
    move ! (4 ∷ []) $ peeks ! (Answer κ) (Is (Answer κ)) (shows 𝓛 (Answer κ)) given (v₀ ∷ []) (λ at₀. lands_as ! refl refl ((((answer_laws κ).lawful 𝓛).typed given (v₀ ∷ []) at₀).0) $
    returns ! (look_at ! 0 refl) $ free_all ! refl $ keep ! (0 ∷ 4 ∷ 2 ∷ 1 ∷ []) $
    suffices ! _ (ends_at 𝓛 f.ended stayed c z v₀ given (tt, (tt, (tt, tt))) (tt, (tt, (tt, tt)))) $
    nothing ! $ nothing ! $ fjoin ! $ nothing ! $ fjoin ! $ nothing ! $ fjoin ! $ join ! $
    nothing ! $ move ! (3 ∷ 0 ∷ []) $ join ! $ move ! (2 ∷ 0 ∷ []) $ join ! $ join ! $ frame ! $ frame ! $
    use0 𝓛 (raw (fact 𝓤 (Found given))) (fact_i 𝓤 _ (emp 𝓤) found) $ frame ! $
    use0 𝓛 (raw (fact 𝓤 (Normal given))) (fact_i 𝓤 _ (emp 𝓤) (λ m is small. normal_answered (λ (v : MutBor R.Denot). value_tree v.now) path.now m doc given is small found)) $ frame ! $ says ! refused $
    use0 𝓛 (raw (fact 𝓤 (Whole given))) (fact_i 𝓤 _ (emp 𝓤) whole) $ done !)))))))))
