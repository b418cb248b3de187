-- `lend_sought` asks what was sought, and then lends by it or gives its reference up.
use Rattle.jsonpath_base.proofs.LoanWords.{[], ◌∷◌, ◌≡◌, refl, lit<, proved, ftrue, flft, named, fact, tables, ‵, raw, ◌⊛◌, ◌$◌, ◌∵◌, !, qed, done, move, keep, drop, use0, use1, use2, split, join, fjoin, suffices, frame, enter, addr, stop, returns, alloc_all, pass_all, free_all, look_at, get, lit, through, sets, lands_as, heard, MutRef, MutBor, mut_vals, mut_Tells, plain, nothing, no, yes, Stays, walk_of, stay_dropped, Goes-spent_ref, Goes-dropped, mut_ref_to, ends_at, says, calls_at, triple_of, lasts, framed, peeks, shows, only, no_more, and_then, id⊢, ap, sym, ◌∙◌, fsplit3, first, branches, skips, exec, returns_within, env, bool, fres}
use Rattle.jsonpath_base.proofs.LoanTies.{so_none}
use Rattle.jsonpath_base.proofs.Loans.{is_true, is_false}
use Rattle.std.specs.Prelude.{⊤}
use Rattle.jsonpath_base.specs.Prelude.Documents.{at, LendsThere, Location, location_view, place_in, tree_there, value_is_whole, value_tree}
use Rattle.jsonpath_base.proofs.lemmas.documents.{lent_laws, no_place}
use Rattle.std.proofs.VecSteps.Shapes.{after}
use Rattle.std.proofs.Common.{Bool, List, IfSome, IsTrue, Some, None, Option, is_some, option_map}
use Rattle.std.specs.contracts.option.Option as OP
use Rattle.std.proofs.VecSteps.Element.{none_of}
use types.Kit.{at_ret, pick, some, later, await, rewrite}
use types.Part.{agg}
use types.Match.{live}
use base.Logic.{emp}
use contract.Monad.{fact_i}
use denote.Builtin.{RefOf}
use denote.Laws.{Is}
use denote.Ref.{shr_copy, Bor, ShrRef, shr_vals, shr_Tells}
use denote.Slice.{ShrSlice, shr_slice_vals}
use denote.Triple.Clauses.{Lasts}
use mir.Val.{Val, of_list}
use Rattle.serde_json.specs.contracts.value.Value.{the_row as R}
use Rattle.jsonpath_base.specs.Lending.{LendsAt}
use Rattle.jsonpath_base.specs.contracts.step.Step.{the_row as S}
use Rattle.jsonpath_base.specs.declared.step.Step.{Step}
use Rattle.jsonpath_base.specs.contracts.documents.lending.Sought.{the_row as N}
use Rattle.jsonpath_base.proofs.documents.lending.Sought.TheLaws.{the_row_laws as N-laws}
use Rattle.jsonpath_base.specs.contracts.documents.lending.lend_sought as f
use Rattle.jsonpath_base.proofs.documents.lending.lend_sought.Statement.{statement}
use Rattle.jsonpath_base.proofs.documents.lending.lend_sought.Code as code
use Rattle.jsonpath_base.specs.contracts.documents.lending.is_found as g₀
use Rattle.jsonpath_base.proofs.documents.lending.is_found.Met.{met as met₀}
use Rattle.jsonpath_base.specs.contracts.documents.lending.steps_in as g₁
use Rattle.jsonpath_base.proofs.documents.lending.steps_in.Met.{met as met₁}
use Rattle.jsonpath_base.specs.contracts.at_mut as g₂
use Rattle.jsonpath_base.proofs.at_mut.Met.{met as met₂}

abbrev stayed : Stays f.ended.signature.params f.ended.kept
stayed = (stay_dropped (mut_ref_to (0 ∷ []) tt (plain (λ _. R))) no, (stay_dropped (RefOf (1 ∷ []) tt (plain (λ _. N)) (λ _. tt)) yes, tt))

pub lend_sought_spec : {M : Type 1} → statement M
lend_sought_spec 𝓤 𝓛 𝓜 𝓡 wired =
    let c = f.clauses 𝓛 𝓜.mem 𝓡.returns in let W = walk_of 𝓛 f.ended stayed c in let 𝓣 = tables 𝓤 𝓛.H 𝓜 𝓡 𝓡.env in
    proved 𝓛 f.ended stayed c 𝓜 𝓡
    (Goes-spent_ref 𝓛 2 (0 ∷ []) tt (plain (λ _. R)), (Goes-dropped 𝓛 2 (RefOf (1 ∷ []) tt (plain (λ _. N)) (λ _. tt)) yes (λ κs x w. refl), tt))
    f.Key.name code.function (code.unfolded 𝓤 𝓛.H 𝓜 𝓡 wired)
    (λ κs. (mut_vals, (shr_vals, tt))) (λ κs. (mut_Tells (named 0) κs.0 R, (shr_Tells (named 1) κs.1.0 N, tt))) (λ κs qs bounds a _ are.
    let κ = κs.0 in let κs' = κs.1.0 in let q = qs.0 in let qs' = qs.1.0 in let value = a.0 in let sought = a.1.0 in
    let place = place_in sought.now.steps in let doc = value_tree value.now in
    let Sv = ‵ ((ShrRef (named 1) κs' N).own_val sought (shr_vals sought)) in let Ts = ‵ (flft κs' qs') in
    let z : W.Ghost = ((κs, qs, bounds, a, (mut_vals value, (shr_vals sought, tt))), tt) in
    qed 𝓛 (((‵ (flft κ q) ⊛ Ts ⊛ ‵ ftrue) ⊛ (‵ ((MutRef (named 0) κ R).own_val value (mut_vals value)) ⊛ Sv ⊛ ‵ ftrue)) ∷ raw ((c κs a).requires tt) ∷ []) ∵
    split ! $ split ! $ move ! (1 ∷ []) $ split ! $ move ! (3 ∷ []) $ split ! $ move ! (1 ∷ []) $ split ! $ keep ! (2 ∷ 0 ∷ 5 ∷ 3 ∷ []) $
    -- [value; sought; the token of κ; of κs']
    enter ! _ _ _ _ _ $ alloc_all ! (λ l. pass_all ! refl ((tt, tt), ((tt, tt), tt)) $
    -- is_found
    let G₀ = triple_of 𝓛 g₀.signature (g₀.spec 𝓛 𝓜.mem 𝓡.returns) in
    let z₀ : G₀.Ghost = (((κs', tt), (qs', tt), tt, (sought, tt), (shr_vals sought, tt)), tt) in
    move ! (1 ∷ []) $ use1 𝓛 (Sv ⊛ Sv) ((shr_copy 𝓛 (named 1) κs' N N-laws.shr_laws).twice sought (shr_vals sought)) $ split ! $
    nothing ! $ move ! (1 ∷ 0 ∷ []) $ join ! $ nothing ! $ move ! (5 ∷ 0 ∷ []) $ join ! $ join ! $ use0 𝓛 (raw (emp 𝓤)) (id⊢ 𝓤 _) $ move ! (1 ∷ 0 ∷ []) $ use2 𝓛 (raw (G₀.pre z₀)) (id⊢ 𝓤 _) $
    calls_at ! (framed 𝓤 𝓛.H 𝓜 𝓣) G₀ (met₀ 𝓤 𝓛 𝓜 𝓡 (code.calls-jsonpath_base::documents::lending::is_found 𝓡.env wired)) z₀ (and_then ! (get ! refl) (no_more !)) (λ v₀.
    use1 𝓛 (later (some (λ (r : Bool). ((Ts ⊛ ‵ ftrue) ⊛ ‵ (bool.own_val r (v₀ ∷ []))) ⊛ some (λ (ws : Lasts g₀.ended z₀.0.0 z₀.0.3). ‵ (lasts g₀.ended z₀.0.0 z₀.0.3 ws) ⊛ raw (fact 𝓤 (r ≡ is_some place)))))) (id⊢ 𝓤 _) $
    await ! tt $ pick ! (λ found. split ! $ split ! $ split ! $ move ! (3 ∷ []) $ pick ! (λ ws₀. split ! $ drop ! $ heard ! _ (λ found_is.
    -- [the token of κs'; nothing; the answer; sought; value; the token of κ]
    move ! (2 ∷ []) $ peeks ! bool _ (shows 𝓛 bool) found (v₀ ∷ []) (λ at₀.
    lands_as ! (ap only at₀) refl (tt, tt) $ drop ! $ move ! (1 ∷ []) $ drop ! $ move ! (2 ∷ 1 ∷ 3 ∷ 0 ∷ []) $
    -- [value; sought; the token of κ; of κs']
    first ! $ branches ! (get ! refl)
    (λ is_found. let there : IsTrue (is_some place) = sym found_is ∙ is_true found is_found in
    sets ! (addr ! (through ! refl (stop !))) refl (tt, tt) $
    -- steps_in
    let Sl = λ (x : Bor (List Step)) (vs : List Val). ‵ ((ShrSlice (named 1) κs' S).own_val x vs) in
    let G₁ = triple_of 𝓛 g₁.signature (g₁.spec 𝓛 𝓜.mem 𝓡.returns) in
    let z₁ : G₁.Ghost = (((κs', tt), (qs', tt), tt, (sought, tt), (shr_vals sought, tt)), tt) in
    nothing ! $ move ! (2 ∷ 0 ∷ []) $ join ! $ nothing ! $ move ! (4 ∷ 0 ∷ []) $ join ! $ join ! $ use0 𝓛 (raw (emp 𝓤)) (id⊢ 𝓤 _) $ move ! (1 ∷ 0 ∷ []) $ use2 𝓛 (raw (G₁.pre z₁)) (id⊢ 𝓤 _) $
    calls_at ! (framed 𝓤 𝓛.H 𝓜 𝓣) G₁ (met₁ 𝓤 𝓛 𝓜 𝓡 (code.calls-jsonpath_base::documents::lending::steps_in 𝓡.env wired)) z₁ (and_then ! (get ! refl) (no_more !)) (λ v₁.
    use1 𝓛 (later (some (λ (r : Bor (List Step)). ((Ts ⊛ ‵ ftrue) ⊛ Sl r (v₁ ∷ [])) ⊛ some (λ (ws : Lasts g₁.ended z₁.0.0 z₁.0.3). ‵ (lasts g₁.ended z₁.0.0 z₁.0.3 ws) ⊛
    raw (fact 𝓤 (IsTrue (is_some place) → place ≡ Some (location_view r.now))))))) (id⊢ 𝓤 _) $
    await ! tt $ pick ! (λ steps. split ! $ split ! $ split ! $ move ! (3 ∷ []) $ pick ! (λ ws₁. split ! $ drop ! $ heard ! _ (λ steps_are.
    move ! (2 ∷ []) $ peeks ! (ShrSlice (named 1) κs' S) (Is (ShrSlice (named 1) κs' S)) (shows 𝓛 (ShrSlice (named 1) κs' S)) steps (v₁ ∷ []) (λ at₁. rewrite ! 0 (Sl steps) at₁.0.0 refl $ lands_as ! (ap only at₁.0.0) refl (tt, (tt, (record { fits = at₁.0.1.0 }, tt))) $
    -- at_mut, of [the steps; the token of κs'; nothing; value; the token of κ]
    let place_is = steps_are there in
    let O = OP.the_row (MutRef (named 0) κ R) in
    let G₂ = triple_of 𝓛 g₂.signature (g₂.spec 𝓛 𝓜.mem 𝓡.returns) in
    let z₂ : G₂.Ghost = ((κs, qs, tt, (value, (steps, tt)), (mut_vals value, (shr_slice_vals steps, tt))), tt) in
    nothing ! $ move ! (1 ∷ 0 ∷ []) $ join ! $ move ! (3 ∷ 0 ∷ []) $ join ! $ move ! (1 ∷ 2 ∷ []) $ join ! $ move ! (2 ∷ 0 ∷ []) $ join ! $ join ! $
    use0 𝓛 (raw (emp 𝓤)) (id⊢ 𝓤 _) $ move ! (1 ∷ 0 ∷ []) $ use2 𝓛 (raw (G₂.pre z₂)) (id⊢ 𝓤 _) $
    calls_at ! (framed 𝓤 𝓛.H 𝓜 𝓣) G₂ (met₂ 𝓤 𝓛 𝓜 𝓡 (code.calls-jsonpath_base::lending::at_mut 𝓡.env wired)) z₂ (and_then ! (get ! refl) (and_then ! (get ! refl) (no_more !))) (λ v₂.
    use1 𝓛 (later (some (λ (r : Option (MutBor R.Denot)). ((‵ (flft κ q) ⊛ Ts ⊛ ‵ ftrue) ⊛ ‵ (O.own_val r (v₂ ∷ []))) ⊛
    some (λ (ws : Lasts g₂.ended z₂.0.0 z₂.0.3). ‵ (lasts g₂.ended z₂.0.0 z₂.0.3 ws) ⊛ ‵ (LendsAt (location_view steps.now) value r) ⊛ (raw (fact 𝓤 (option_map (λ v. value_tree v.now) r ≡ at (location_view steps.now) doc)) ⊛ raw (fact 𝓤 (IsTrue (value_is_whole value.now) → IfSome r (λ v. IsTrue (value_is_whole v.now))))))))) (id⊢ 𝓤 _) $
    await ! tt $ pick ! (λ lent. split ! $ split ! $ split ! $ move ! (1 ∷ []) $ split ! $ move ! (4 ∷ []) $ pick ! (λ ws₂. split ! $ drop ! $ split ! $ move ! (1 ∷ []) $ split ! $ heard ! _ (λ lent_is. heard ! _ (λ lent_whole.
    -- [the tie; the token of κs'; nothing; the token of κ; the option]
    move ! (4 ∷ []) $ peeks ! O (Is O) (shows 𝓛 O) lent (v₂ ∷ []) (λ at₂. lands_as ! refl refl ((((lent_laws κ).lawful 𝓛).typed lent (v₂ ∷ []) at₂).0) $
    returns_within ! (W.post z) refl (look_at ! 0 refl) $ free_all ! refl $ rewrite ! 1 (λ (o : Option Location). ‵ (LendsThere o value lent)) (sym place_is) refl $ keep ! (0 ∷ 4 ∷ 2 ∷ 1 ∷ []) $
    suffices ! _ (ends_at 𝓛 f.ended stayed c z v₂ lent (tt, (tt, tt)) (tt, (tt, tt))) $
    nothing ! $ nothing ! $ fjoin ! $ nothing ! $ fjoin ! $ join ! $
    nothing ! $ move ! (3 ∷ 0 ∷ []) $ join ! $ move ! (2 ∷ 0 ∷ []) $ join ! $ join ! $ frame ! $ frame ! $ says ! lent_whole $
    use0 𝓛 (raw (fact 𝓤 (option_map (λ (v : MutBor R.Denot). value_tree v.now) lent ≡ tree_there place doc))) (fact_i 𝓤 _ (emp 𝓤) (lent_is ∙ ap (λ o. tree_there o doc) (sym place_is))) $ done !))))))))))))
    (λ is_not. skips ! $ exec ! 𝓣.C 𝓣.Λ (env (code.function).locals l) (after 2 (code.function).body) (at_ret _ (W.post z)) $
    sets ! (agg ! (and_then ! (lit ! tt) (no_more !))) refl (tt, (record { fits = lit< tt }, tt)) $
    returns ! (look_at ! 0 refl) $ free_all ! refl $ fsplit3 ! $ move ! (1 ∷ []) $
    -- [the last value that is said; ..; sought; the token of κ; of κs']
    use1 𝓛 (‵ (fres value.ghost_name (R.coded.code value.now))) (𝓛.names.obs-res value.ghost_name (R.coded.code value.now)) $
    use1 𝓛 (‵ (LendsThere place value None)) (so_none 𝓛 R R value.ghost_name (λ w n. ⊤) (λ n. n ≡ value.now) (λ w. w) value.now (λ w. tt) refl) $
    let out = live 0 (of_list []) in
    keep ! (4 ∷ 5 ∷ 0 ∷ []) $ use0 𝓛 (‵ ((OP.the_row (MutRef (named 0) κ R)).own_val None (out ∷ []))) (none_of 𝓛 (MutRef (named 0) κ R)) $
    suffices ! _ (ends_at 𝓛 f.ended stayed c z out None (tt, (tt, tt)) (tt, (tt, tt))) $
    nothing ! $ nothing ! $ fjoin ! $ nothing ! $ fjoin ! $ join ! $
    nothing ! $ move ! (3 ∷ 0 ∷ []) $ join ! $ move ! (2 ∷ 0 ∷ []) $ join ! $ join ! $ frame ! $ frame ! $ says ! (λ h. tt) $
    use0 𝓛 (raw (fact 𝓤 (None ≡ tree_there place doc))) (fact_i 𝓤 _ (emp 𝓤) (no_place place doc (sym found_is ∙ is_false found is_not))) $ done !))))))))
