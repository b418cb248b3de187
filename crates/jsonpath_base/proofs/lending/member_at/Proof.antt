-- `member_at` takes the one reference out of an `Option`.
use base.Fml
use denote.Triple.Clauses.{Lasts}
use Rattle.jsonpath_base.proofs.LoanWords.{[], ◌∷◌, ◌≡◌, ◌≤◌, refl, List, lit<, proved, ftrue, flft, named, vint, fact, tables, ‵, raw, ◌⊛◌, ◌$◌, ◌∵◌, !, qed, done, move, keep, drop, use0, use1, use2, split, join, fjoin, suffices, frame, enter, addr, stop, returns, alloc_all, pass_all, free_all, look_at, get, through, sets, lands_as, heard, uint_vals, uint_Tells, usize, MutRef, MutBor, mut_vals, mut_Tells, plain, nothing, no, yes, Stays, walk_of, stay_dropped, Goes-spent_ref, Goes-dropped, mut_ref_to, ends_at, says, calls_at, triple_of, lasts, framed, peeks, shows, only, no_more, and_then, id⊢, ap, ◌∙◌, sym, feq_l}
use Rattle.jsonpath_base.proofs.LoanOut.{Some-out, get_some}
use Rattle.std.proofs.Common.{◌<◌, w64, length, Some, Option, option_map, IsSome}
use Rattle.std.specs.contracts.option.Option as OP
use Rattle.std.proofs.VecSteps.Element.{Some-of}
use types.Kit.{pick, some, later, await, rewrite}
use types.Match.{live}
use base.Logic.{emp}
use contract.Monad.{fact_i}
use denote.Builtin.{SliceRefOf}
use denote.Slice.{ShrSlice, shr_slice_vals, shr_slice_Tells}
use mir.Val.{Val, vptr, of_list}
use Rattle.serde_json.specs.contracts.value.Value.{the_row as R}
use Rattle.serde_json.specs.Rows.{map_row as K}
use Rattle.jsonpath_base.specs.contracts.step.Step.{the_row as S}
use Rattle.jsonpath_base.specs.Prelude.{is_entry, LendsMember, lookup, name_in, next}
use Rattle.jsonpath_base.specs.contracts.lending.member_at as f
use Rattle.jsonpath_base.proofs.lending.member_at.Statement.{statement}
use Rattle.jsonpath_base.proofs.lending.member_at.Code as code
use Rattle.jsonpath_base.specs.contracts.lending.parts.member_by as g₁
use Rattle.jsonpath_base.proofs.lending.parts.member_by.Met.{met as met₁}
use Rattle.jsonpath_base.specs.contracts.lending.parts.take as g₂
use Rattle.jsonpath_base.proofs.lending.parts.take.Met.{met as met₂}

abbrev stayed : Stays f.ended.signature.params f.ended.kept
stayed = (stay_dropped (mut_ref_to (0 ∷ []) tt (plain (λ _. K))) no, (stay_dropped (SliceRefOf (1 ∷ []) tt (plain (λ _. S)) (λ _. tt)) yes, (stay_dropped (plain (λ _. usize)) yes, tt)))

pub member_at_spec : {M : Type 1} → statement M
member_at_spec 𝓤 𝓛 𝓜 𝓡 wired =
    let c = f.clauses 𝓛 𝓜.mem 𝓡.returns in let W = walk_of 𝓛 f.ended stayed c in let 𝓣 = tables 𝓤 𝓛.H 𝓜 𝓡 𝓡.env in
    proved 𝓛 f.ended stayed c 𝓜 𝓡
    (Goes-spent_ref 𝓛 2 (0 ∷ []) tt (plain (λ _. K)), (Goes-dropped 𝓛 2 (SliceRefOf (1 ∷ []) tt (plain (λ _. S)) (λ _. tt)) yes (λ κs x w. refl), (Goes-dropped 𝓛 2 (plain (λ _. usize)) yes (λ κs x w. refl), tt)))
    f.Key.name code.function (code.unfolded 𝓤 𝓛.H 𝓜 𝓡 wired)
    (λ κs. (mut_vals, (shr_slice_vals, (uint_vals w64, tt)))) (λ κs. (mut_Tells (named 0) κs.0 K, (shr_slice_Tells (named 1) κs.1.0 S, (uint_Tells w64, tt)))) (λ κs qs bounds a _ are.
    let κ = κs.0 in let κp = κs.1.0 in let q = qs.0 in let qp = qs.1.0 in let map = a.0 in let path = a.1.0 in let k = a.1.1.0 in let name = name_in (next path.now k) in
    let z : W.Ghost = ((κs, qs, bounds, a, (mut_vals map, (shr_slice_vals path, (uint_vals w64 k, tt)))), tt) in
    qed 𝓛 (((‵ (flft κ q) ⊛ ‵ (flft κp qp) ⊛ ‵ ftrue) ⊛ (‵ ((MutRef (named 0) κ K).own_val map (mut_vals map)) ⊛ ‵ ((ShrSlice (named 1) κp S).own_val path (shr_slice_vals path)) ⊛ ‵ (usize.own_val k (vint w64 k ∷ [])) ⊛ ‵ ftrue))
    ∷ raw ((c κs a).requires tt) ∷ []) ∵
    move ! (1 ∷ []) $ heard ! _ (λ given. split ! $
    enter ! _ _ _ _ _ $ alloc_all ! (λ l. pass_all ! refl ((tt, tt), ((tt, (tt, (record { fits = are.1.0.0.1.0 }, tt))), ((tt, record { fits = are.1.1.0.1 }), tt))) $
    sets ! (addr ! (through ! refl (stop !))) refl (tt, tt) $
    -- member_by, of [the tokens; the parameters]
    let G₁ = triple_of 𝓛 g₁.signature (g₁.spec 𝓛 𝓜.mem 𝓡.returns) in
    let z₁ : G₁.Ghost = ((κs, qs, tt, (map, (path, (k, tt))), (mut_vals map, (shr_slice_vals path, (uint_vals w64 k, tt)))), tt) in
    join ! $ use0 𝓛 (raw (fact 𝓤 ((0 < k) × (k ≤ length path.now)))) (fact_i 𝓤 _ (emp 𝓤) (given.0, given.1)) $ move ! (1 ∷ 0 ∷ []) $ use2 𝓛 (raw (G₁.pre z₁)) (id⊢ 𝓤 _) $
    calls_at ! (framed 𝓤 𝓛.H 𝓜 𝓣) G₁ (met₁ 𝓤 𝓛 𝓜 𝓡 (code.calls-jsonpath_base::lending::parts::member_by 𝓡.env wired)) z₁ (and_then ! (get ! refl) (and_then ! (get ! refl) (and_then ! (get ! refl) (no_more !)))) (λ v₁.
    let O = OP.the_row (MutRef (named 0) κ R) in
    use1 𝓛 (later (some (λ (r : Option (MutBor R.Denot)). ((‵ (flft κ q) ⊛ ‵ (flft κp qp) ⊛ ‵ ftrue) ⊛ ‵ (O.own_val r (v₁ ∷ []))) ⊛
    some (λ (ws : Lasts g₁.ended z₁.0.0 z₁.0.3). ‵ (lasts g₁.ended z₁.0.0 z₁.0.3 ws) ⊛ ‵ (LendsMember name map r) ⊛ raw (fact 𝓤 (option_map (λ v. v.now) r ≡ lookup (is_entry name) map.now.entries)))))) (id⊢ 𝓤 _) $
    await ! tt $ pick ! (λ o. split ! $ split ! $ split ! $ move ! (1 ∷ []) $ split ! $ move ! (4 ∷ []) $ pick ! (λ ws₁. split ! $ drop ! $ split ! $ move ! (1 ∷ []) $ heard ! _ (λ o_is.
    let got = get_some (λ v. v.now) o _ o_is given.2 in let r = got.0 in let is = got.1 in
    -- [the tie; the token of κp; nothing; the token of κ; the option]
    rewrite ! 0 (λ x. ‵ (LendsMember name map x)) is refl $ rewrite ! 4 (λ x. ‵ (O.own_val x (v₁ ∷ []))) is refl $ move ! (4 ∷ []) $
    use1 𝓛 (‵ (base.Fml.feq (List Val) (v₁ ∷ []) (live 1 (of_list (mut_vals r)) ∷ [])) ⊛ ‵ ((MutRef (named 0) κ R).own_val r (mut_vals r))) (Some-out 𝓛 (named 0) κ R r (v₁ ∷ [])) $ split ! $ feq_l ! (λ at₁.
    lands_as ! (ap only at₁) refl (tt, (record { fits = lit< tt }, (tt, tt))) $
    -- take, of [the reference; the tie; the token of κp; nothing; the token of κ]
    let X = MutRef (named 0) κ R in let v = vptr r.ref_ptr.0 r.ref_ptr.1 in
    let G₂ = triple_of 𝓛 g₂.signature (g₂.spec 𝓛 𝓜.mem 𝓡.returns) in
    let z₂ : G₂.Ghost = (((κ, tt), (q, tt), tt, (Some r, tt), (live 1 (of_list (v ∷ [])) ∷ [], tt)), tt) in
    use1 𝓛 (‵ (O.own_val (Some r) (live 1 (of_list (v ∷ [])) ∷ []))) (Some-of 𝓛 X r v) $
    nothing ! $ move ! (1 ∷ 0 ∷ []) $ join ! $ move ! (4 ∷ 3 ∷ []) $ join ! $ join ! $
    use0 𝓛 (raw (fact 𝓤 (IsSome (Some r)))) (fact_i 𝓤 _ (emp 𝓤) refl) $ move ! (1 ∷ 0 ∷ []) $ use2 𝓛 (raw (G₂.pre z₂)) (id⊢ 𝓤 _) $
    calls_at ! (framed 𝓤 𝓛.H 𝓜 𝓣) G₂ (met₂ 𝓤 𝓛 𝓜 𝓡 (code.calls-jsonpath_base::lending::parts::take 𝓡.env wired)) z₂ (and_then ! (get ! refl) (no_more !)) (λ v₂.
    use1 𝓛 (later (some (λ (x : MutBor R.Denot). ((‵ (flft κ q) ⊛ ‵ ftrue) ⊛ ‵ (X.own_val x (v₂ ∷ []))) ⊛
    some (λ (ws : Lasts g₂.ended z₂.0.0 z₂.0.3). ‵ (lasts g₂.ended z₂.0.0 z₂.0.3 ws) ⊛ raw (fact 𝓤 (Some x ≡ Some r)))))) (id⊢ 𝓤 _) $
    await ! tt $ pick ! (λ x. split ! $ split ! $ split ! $ move ! (3 ∷ []) $ pick ! (λ ws₂. split ! $ drop ! $ heard ! _ (λ same.
    -- [the token of κ; nothing; the result; the tie; the token of κp]
    rewrite ! 3 (λ y. ‵ (LendsMember name map y)) (sym same) refl $ move ! (2 ∷ []) $ peeks ! X _ (shows 𝓛 X) x (v₂ ∷ []) (λ at₂.
    rewrite ! 0 (λ vs. ‵ (X.own_val x vs)) at₂.0 refl $ lands_as ! (ap only at₂.0) refl (tt, tt) $
    returns ! (look_at ! 0 refl) $ free_all ! refl $ keep ! (0 ∷ 1 ∷ 4 ∷ 3 ∷ []) $
    suffices ! _ (ends_at 𝓛 f.ended stayed c z (vptr x.ref_ptr.0 x.ref_ptr.1) x (tt, (tt, (tt, tt))) (tt, (tt, (tt, tt)))) $
    nothing ! $ nothing ! $ fjoin ! $ nothing ! $ fjoin ! $ nothing ! $ fjoin ! $ join ! $
    nothing ! $ move ! (3 ∷ 0 ∷ []) $ join ! $ move ! (2 ∷ 0 ∷ []) $ join ! $ join ! $ frame ! $
    says ! (ap (λ (y : Option (MutBor R.Denot)). option_map (λ u. u.now) y) (same ∙ sym is) ∙ o_is) $ done !)))))))))))))
