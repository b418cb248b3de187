-- `referred_mut` seeks through a `&` of its own, lends by what it found, and answers with both.
use Rattle.jsonpath_base.proofs.LoanWords.{[], ◌∷◌, ◌≡◌, refl, proved, ftrue, fat, flft, fres, named, fact, tables, full_share, ‵, raw, ◌⊛◌, ◌$◌, ◌∵◌, !, qed, done, move, keep, drop, use0, use1, use2, use3, split, join, fjoin, fsplit3, feq_i, feq_l, suffices, frame, enter, addr, stop, returns, alloc_all, pass_all, free_all, look_at, get, through, sets, lands_as, heard, MutRef, MutBor, mut_vals, mut_Tells, plain, nothing, no, yes, Stays, walk_of, stay_dropped, Goes-spent_ref, Goes-dropped, mut_ref_to, ends_at, says, calls_at, triple_of, lasts, framed, peeks, shows, no_more, and_then, id⊢, sym, of_opd, lends_again, comes_back, LentAgain}
use Rattle.jsonpath_base.specs.Prelude.Documents.{answer_of, IsReferred, LendsReferred, LendsThere, OutOfMemory, place_in, tree_there, value_document, value_is_whole, value_tree}
use Rattle.jsonpath_base.proofs.lemmas.documents.{Answer, answer_laws, Lent, lent_laws, lent_same, Means, referred_there, refused_so, tie_told, whole_there}
use Rattle.std.proofs.Common.{List, Option, Result, IfOk, IfErr, IfSome, IsTrue, option_map}
use Rattle.std.specs.contracts.alloc.Global.{the_row as A}
use Rattle.std.proofs.alloc.Global.TheLaws.{the_row_laws as A-laws, the_told as A-told}
use types.Kit.{pick, some, later, await, rewrite}
use types.Run.{from}
use types.Tokens.{lft_new, lft_end, lent_back}
use types.ByLocal.{take_at, give_at}
use borrow.Table.OneValue.{part_in, part_out}
use borrow.Rule.Reshare.{ref_Share}
use borrow.Table.Owned as owned_as
use base.Fml.{GName, Lft, flent}
use base.Logic.{emp}
use contract.BorrowLft.{meet_⊑_left}
use contract.Monad.{fact_i}
use denote.Laws.{Is}
use denote.Lend.{lends_shr}
use denote.Memory.{part_at, lone}
use denote.Ref.{Bor, ShrRef, NamedLft}
use denote.Shares.{Shares-less}
use denote.Text.{Str, StrRefOf, str-laws}
use denote.Triple.Clauses.{Lasts}
use mir.Syntax.{erased}
use mir.Val.{Val, vptr}
use Rattle.serde_json.specs.contracts.value.Value.{the_row as R}
use Rattle.serde_json.proofs.value.Value.TheLaws.{the_row_laws as R-laws}
use Rattle.jsonpath_parser.specs.contracts.errors.JsonPathError.{the_row as E}
use Rattle.jsonpath_base.specs.contracts.documents.lending.Sought.{the_row as N}
use Rattle.jsonpath_base.proofs.documents.lending.Sought.TheLaws.{the_row_laws as N-laws}
use Rattle.jsonpath_base.specs.contracts.documents.lending.referred_mut as f
use Rattle.jsonpath_base.proofs.documents.lending.referred_mut.Statement.{statement}
use Rattle.jsonpath_base.proofs.documents.lending.referred_mut.Code as code
use Rattle.jsonpath_base.specs.contracts.documents.lending.seek as g₀
use Rattle.jsonpath_base.proofs.documents.lending.seek.Met.{met as met₀}
use Rattle.jsonpath_base.specs.contracts.documents.lending.lend_sought as g₁
use Rattle.jsonpath_base.proofs.documents.lending.lend_sought.Met.{met as met₁}
use Rattle.jsonpath_base.specs.contracts.documents.lending.answer as g₂
use Rattle.jsonpath_base.proofs.documents.lending.answer.Met.{met as met₂}

abbrev stayed : Stays f.ended.signature.params f.ended.kept
stayed = (stay_dropped (plain (λ _. A)) yes, (stay_dropped (mut_ref_to (0 ∷ []) tt (plain (λ _. R))) no, (stay_dropped (StrRefOf (1 ∷ []) tt) yes, tt)))

abbrev second : Lft → NamedLft
second κ = record { mir = named 1; lft = κ }

pub referred_mut_spec : {M : Type 1} → statement M
referred_mut_spec 𝓤 𝓛 𝓜 𝓡 wired =
    let c = f.clauses 𝓛 𝓜.mem 𝓡.returns in let W = walk_of 𝓛 f.ended stayed c in let 𝓣 = tables 𝓤 𝓛.H 𝓜 𝓡 𝓡.env in
    proved 𝓛 f.ended stayed c 𝓜 𝓡
    (Goes-dropped 𝓛 2 (plain (λ _. A)) yes (λ κs x w. refl), (Goes-spent_ref 𝓛 2 (0 ∷ []) tt (plain (λ _. R)), (Goes-dropped 𝓛 2 (StrRefOf (1 ∷ []) tt) yes (λ κs x w. refl), tt)))
    f.Key.name code.function (code.unfolded 𝓤 𝓛.H 𝓜 𝓡 wired)
    (λ κs. ((λ x. A-told.val x ∷ []), (mut_vals, ((λ x. (str-laws (second κs.1.0)).val x ∷ []), tt)))) (λ κs. (A-told.tells, (mut_Tells (named 0) κs.0 R, ((str-laws (second κs.1.0)).tells, tt)))) (λ κs qs bounds a _ are.
    let κ = κs.0 in let κp = κs.1.0 in let q = qs.0 in let qp = qs.1.0 in let alloc = a.0 in let value = a.1.0 in let path = a.1.1.0 in
    let b₀ = value.ref_ptr.0 in let o₀ = value.ref_ptr.1 in let γ = value.ghost_name in let x = value.now in
    let S = str-laws (second κp) in let alloc_vals = A-told.val alloc ∷ [] in let path_vals = S.val path ∷ [] in
    let doc = value_document x in
    let z : W.Ghost = ((κs, qs, bounds, a, (alloc_vals, (mut_vals value, (path_vals, tt)))), tt) in
    qed 𝓛 (((‵ (flft κ q) ⊛ ‵ (flft κp qp) ⊛ ‵ ftrue) ⊛ (‵ (A.own_val alloc alloc_vals) ⊛ ‵ ((MutRef (named 0) κ R).own_val value (mut_vals value)) ⊛ ‵ ((Str (named 1) κp).own_val path path_vals) ⊛ ‵ ftrue)) ∷ raw ((c κs a).requires tt) ∷ []) ∵
    split ! $ split ! $ move ! (1 ∷ []) $ split ! $ move ! (3 ∷ []) $ split ! $ move ! (1 ∷ []) $ split ! $ move ! (1 ∷ []) $ split ! $ keep ! (2 ∷ 0 ∷ 3 ∷ 6 ∷ 4 ∷ []) $
    -- [value; path; alloc; the token of κ; of κp]
    enter ! _ _ _ _ _ $ alloc_all ! (λ l. pass_all ! refl (((A-laws.lawful 𝓛).typed alloc alloc_vals are.0).0, ((tt, tt), (((S.lawful 𝓛).typed path path_vals are.1.1.0).0, tt))) $
    -- seek, through a `&` for α
    sets ! (addr ! (through ! refl (stop !))) refl (tt, tt) $ lft_new ! tt (λ α. let β = α ∷ [] in move ! (1 ∷ 4 ∷ []) $
    use2 𝓛 (later (some (λ (γ₁ : GName). ‵ ((MutRef erased β R).own_val (record { ref_ptr = (b₀, o₀); ghost_name = γ₁; now = x }) (vptr b₀ o₀ ∷ [])) ⊛ ‵ (LentAgain R κ β q γ b₀ o₀ γ₁ x)))) (lends_again 𝓛 R (named 0) κ β q γ b₀ o₀ erased x) $
    await ! tt $ pick ! (λ γ₁. split ! $ fsplit3 ! $ feq_l ! (λ _. fjoin ! $ move ! (0 ∷ 2 ∷ []) $
    use2 𝓛 (later (‵ ((owned_as.ShrRef erased β R).own_val (record { ref_ptr = (b₀, o₀); now = x })) ⊛ (‵ (fres γ₁ (R.coded.code x)) ⊛ ‵ (flft β full_share))))
    (ref_Share 𝓛 R b₀ o₀ γ₁ x R-laws.shr_laws β full_share (Shares-less 𝓛 R R.lives β (meet_⊑_left [] β) (R-laws.shares 𝓛))) $ await ! tt $ split ! $ move ! (1 ∷ []) $ split ! $ move ! (2 ∷ []) $
    feq_i ! (List Val) (vptr b₀ o₀ ∷ []) (vptr b₀ o₀ ∷ []) refl $ fjoin ! $
    -- [the `&`; what its loan leaves; the token of α; what the reference keeps; path; alloc; the token of κp]
    let r : Bor R.Denot = record { ref_ptr = (b₀, o₀); now = x } in
    let G₀ = triple_of 𝓛 g₀.signature (g₀.spec 𝓛 𝓜.mem 𝓡.returns) in
    let z₀ : G₀.Ghost = (((β, (κp, tt)), (full_share, (qp, tt)), tt, (alloc, (r, (path, tt))), (alloc_vals, (vptr b₀ o₀ ∷ [], (path_vals, tt)))), tt) in
    nothing ! $ move ! (5 ∷ 0 ∷ []) $ join ! $ move ! (1 ∷ 0 ∷ []) $ join ! $ move ! (4 ∷ 0 ∷ []) $ join ! $ nothing ! $ move ! (5 ∷ 0 ∷ []) $ join ! $ move ! (3 ∷ 0 ∷ []) $ join ! $ join ! $
    use0 𝓛 (raw (emp 𝓤)) (id⊢ 𝓤 _) $ move ! (1 ∷ 0 ∷ []) $ use2 𝓛 (raw (G₀.pre z₀)) (id⊢ 𝓤 _) $
    calls_at ! (framed 𝓤 𝓛.H 𝓜 𝓣) G₀ (met₀ 𝓤 𝓛 𝓜 𝓡 (code.calls-jsonpath_base::documents::lending::seek 𝓡.env wired)) z₀ (and_then ! (get ! refl) (and_then ! (get ! refl) (and_then ! (get ! refl) (no_more !)))) (λ v₀.
    use1 𝓛 (later (some (λ (s : N.Denot). ((‵ (flft β full_share) ⊛ ‵ (flft κp qp) ⊛ ‵ ftrue) ⊛ ‵ (N.own_val s (v₀ ∷ []))) ⊛
    some (λ (ws : Lasts g₀.ended z₀.0.0 z₀.0.3). ‵ (lasts g₀.ended z₀.0.0 z₀.0.3 ws) ⊛ (raw (fact 𝓤 (Means path.now x s.steps)) ⊛ raw (fact 𝓤 (IfErr s.steps (λ e. e ≡ OutOfMemory)))))))) (id⊢ 𝓤 _) $
    await ! tt $ pick ! (λ sought. split ! $ split ! $ split ! $ move ! (1 ∷ []) $ split ! $ move ! (4 ∷ []) $ pick ! (λ ws₀. split ! $ drop ! $ split ! $ heard ! _ (λ means. heard ! _ (λ memory.
    -- [the token of κp; nothing; the token of α; what was sought; what the loan leaves; what the reference keeps]
    move ! (3 ∷ []) $ peeks ! N (Is N) (shows 𝓛 N) sought (v₀ ∷ []) (λ at₀. lands_as ! refl refl (((N-laws.lawful 𝓛).typed sought (v₀ ∷ []) at₀).0) $
    sets ! (of_opd ! (get ! refl)) refl (((N-laws.lawful 𝓛).typed sought (v₀ ∷ []) at₀).0) $
    move ! (3 ∷ []) $ lft_end ! tt $ move ! (0 ∷ 5 ∷ 4 ∷ []) $
    use3 𝓛 (later (‵ ((MutRef (named 0) κ R).own_val value (vptr b₀ o₀ ∷ [])) ⊛ ‵ (flft κ q))) (comes_back 𝓛 R (named 0) κ β q γ b₀ o₀ γ₁ x x) $ await ! tt $ split ! $ move ! (2 ∷ []) $
    -- [what was sought; value; the token of κ; of κp; nothing]
    sets ! (addr ! (through ! refl (stop !))) refl (tt, tt) $ sets ! (addr ! (from ! (stop !))) refl (tt, tt) $
    -- lend_sought, through a `&` of the local for α'
    take_at ! 4 $ use2 𝓛 (‵ (part_at N full_share sought (l 4) 0)) (part_in 𝓛 N refl full_share sought (l 4) 0 v₀) $ lft_new ! tt (λ α'. let β' = α' ∷ [] in move ! (1 ∷ 0 ∷ []) $
    use2 𝓛 (later ((‵ ((ShrRef (named 1) β' N).own_val (record { ref_ptr = (l 4, 0); now = sought }) (vptr (l 4) 0 ∷ [])) ⊛ ‵ (flent β' (part_at N full_share sought (l 4) 0))) ⊛ ‵ (flft β' full_share)))
    (lends_shr 𝓛 N (named 1) β' full_share sought (l 4) 0 β' (Shares-less 𝓛 N N.lives β' (meet_⊑_left [] β') (N-laws.shares 𝓛) sought) ((β', full_share) ∷ []) (λ x m. m) (λ x m. m)) $ await ! tt $ split ! $ split ! $
    -- [the `&`; the way back; the token of α'; value; the token of κ; of κp; nothing]
    let r₁ : Bor N.Denot = record { ref_ptr = (l 4, 0); now = sought } in
    let G₁ = triple_of 𝓛 g₁.signature (g₁.spec 𝓛 𝓜.mem 𝓡.returns) in
    let z₁ : G₁.Ghost = (((κ, (β', tt)), (q, (full_share, tt)), tt, (value, (r₁, tt)), (mut_vals value, (vptr (l 4) 0 ∷ [], tt))), tt) in
    nothing ! $ move ! (1 ∷ 0 ∷ []) $ join ! $ move ! (3 ∷ 0 ∷ []) $ join ! $ nothing ! $ move ! (3 ∷ 0 ∷ []) $ join ! $ move ! (3 ∷ 0 ∷ []) $ join ! $ join ! $
    use0 𝓛 (raw (emp 𝓤)) (id⊢ 𝓤 _) $ move ! (1 ∷ 0 ∷ []) $ use2 𝓛 (raw (G₁.pre z₁)) (id⊢ 𝓤 _) $
    calls_at ! (framed 𝓤 𝓛.H 𝓜 𝓣) G₁ (met₁ 𝓤 𝓛 𝓜 𝓡 (code.calls-jsonpath_base::documents::lending::lend_sought 𝓡.env wired)) z₁ (and_then ! (get ! refl) (and_then ! (get ! refl) (no_more !))) (λ v₁.
    use1 𝓛 (later (some (λ (o : Option (MutBor R.Denot)). ((‵ (flft κ q) ⊛ ‵ (flft β' full_share) ⊛ ‵ ftrue) ⊛ ‵ ((Lent κ).own_val o (v₁ ∷ []))) ⊛
    some (λ (ws : Lasts g₁.ended z₁.0.0 z₁.0.3). ‵ (lasts g₁.ended z₁.0.0 z₁.0.3 ws) ⊛ ‵ (LendsThere (place_in sought.steps) value o) ⊛ (raw (fact 𝓤 (option_map (λ v. value_tree v.now) o ≡ tree_there (place_in sought.steps) (value_tree x))) ⊛ raw (fact 𝓤 (IsTrue (value_is_whole x) → IfSome o (λ v. IsTrue (value_is_whole v.now))))))))) (id⊢ 𝓤 _) $
    await ! tt $ pick ! (λ lent. split ! $ split ! $ split ! $ move ! (1 ∷ []) $ split ! $ move ! (4 ∷ []) $ pick ! (λ ws₁. split ! $ drop ! $ split ! $ move ! (1 ∷ []) $ split ! $ heard ! _ (λ there. heard ! _ (λ lent_whole.
    -- [the tie; the token of α'; nothing; the token of κ; what is lent; the way back; the token of κp; nothing]
    move ! (4 ∷ []) $ peeks ! (Lent κ) (Is (Lent κ)) (shows 𝓛 (Lent κ)) lent (v₁ ∷ []) (λ at₁. lands_as ! refl refl ((((lent_laws κ).lawful 𝓛).typed lent (v₁ ∷ []) at₁).0) $
    move ! (2 ∷ []) $ lft_end ! tt $ move ! (0 ∷ 5 ∷ []) $ lent_back ! tt $
    use1 𝓛 (some (λ (u : Val). ‵ (fat full_share (lone N.mir) (l 4) 0 u) ⊛ ‵ (N.own_val sought (u ∷ [])))) (part_out 𝓛 N refl full_share sought (l 4) 0) $ pick ! (λ u. split ! $ give_at ! 4 $
    -- answered, of [what was sought; what is lent; the tie; nothing; the token of κ; of κp; nothing]
    peeks ! N (Is N) (shows 𝓛 N) sought (u ∷ []) (λ at_u. sets ! (of_opd ! (get ! refl)) refl (((N-laws.lawful 𝓛).typed sought (u ∷ []) at_u).0) $ sets ! (of_opd ! (get ! refl)) refl ((((lent_laws κ).lawful 𝓛).typed lent (v₁ ∷ []) at₁).0) $
    let G₂ = triple_of 𝓛 g₂.signature (g₂.spec 𝓛 𝓜.mem 𝓡.returns) in
    let z₂ : G₂.Ghost = (((κ, tt), (q, tt), tt, (sought, (lent, tt)), (u ∷ [], (v₁ ∷ [], tt))), tt) in
    nothing ! $ move ! (2 ∷ 0 ∷ []) $ join ! $ move ! (1 ∷ 0 ∷ []) $ join ! $ move ! (3 ∷ 2 ∷ []) $ join ! $ join ! $
    use0 𝓛 (raw (emp 𝓤)) (id⊢ 𝓤 _) $ move ! (1 ∷ 0 ∷ []) $ use2 𝓛 (raw (G₂.pre z₂)) (id⊢ 𝓤 _) $
    calls_at ! (framed 𝓤 𝓛.H 𝓜 𝓣) G₂ (met₂ 𝓤 𝓛 𝓜 𝓡 (code.calls-jsonpath_base::documents::lending::answer 𝓡.env wired)) z₂ (and_then ! (get ! refl) (and_then ! (get ! refl) (no_more !))) (λ v₂.
    let Out = Result (Option (MutBor R.Denot)) E.Denot in let out = answer_of sought.steps lent in
    use1 𝓛 (later (some (λ (o : Out). ((‵ (flft κ q) ⊛ ‵ ftrue) ⊛ ‵ ((Answer κ).own_val o (v₂ ∷ []))) ⊛
    some (λ (ws : Lasts g₂.ended z₂.0.0 z₂.0.3). ‵ (lasts g₂.ended z₂.0.0 z₂.0.3 ws) ⊛ raw (fact 𝓤 (o ≡ out)))))) (id⊢ 𝓤 _) $
    await ! tt $ pick ! (λ given. split ! $ split ! $ split ! $ move ! (3 ∷ []) $ pick ! (λ ws₂. split ! $ drop ! $ heard ! _ (λ given_is.
    -- [the token of κ; nothing; the answer; the tie; the token of κp; nothing]
    rewrite ! 2 (λ (o : Out). ‵ ((Answer κ).own_val o (v₂ ∷ []))) given_is refl $ move ! (2 ∷ []) $
    peeks ! (Answer κ) (Is (Answer κ)) (shows 𝓛 (Answer κ)) out (v₂ ∷ []) (λ at₂. lands_as ! refl refl ((((answer_laws κ).lawful 𝓛).typed out (v₂ ∷ []) at₂).0) $
    returns ! (look_at ! 0 refl) $ free_all ! refl $ keep ! (3 ∷ 0 ∷ 1 ∷ 4 ∷ []) $
    -- [the tie; the answer; the token of κ; of κp]
    use1 𝓛 (‵ (LendsReferred path.now value lent)) (tie_told 𝓛 path.now value sought.steps lent means there) $
    rewrite ! 0 (λ (o : Option (MutBor R.Denot)). ‵ (LendsReferred path.now value o)) (sym (lent_same sought.steps lent (value_tree x) there)) refl $ move ! (1 ∷ 2 ∷ 3 ∷ 0 ∷ []) $
    suffices ! _ (ends_at 𝓛 f.ended stayed c z v₂ out (tt, (tt, (tt, tt))) (tt, (tt, (tt, tt)))) $
    nothing ! $ nothing ! $ fjoin ! $ nothing ! $ fjoin ! $ nothing ! $ fjoin ! $ join ! $
    nothing ! $ move ! (3 ∷ 0 ∷ []) $ join ! $ move ! (2 ∷ 0 ∷ []) $ join ! $ join ! $ frame ! $ frame ! $
    use0 𝓛 (raw (fact 𝓤 (IfOk out (λ o. IsReferred path.now doc (option_map (λ v. value_tree v.now) o))))) (fact_i 𝓤 _ (emp 𝓤) (referred_there path.now x sought.steps lent means there)) $ frame ! $ says ! (refused_so sought.steps lent memory) $
    use0 𝓛 (raw (fact 𝓤 (IsTrue (value_is_whole x) → IfOk out (λ o. IfSome o (λ v. IsTrue (value_is_whole v.now)))))) (fact_i 𝓤 _ (emp 𝓤) (λ h. whole_there (λ v. IsTrue (value_is_whole v.now)) sought.steps lent (lent_whole h))) $ done !)))))))))))))))))))))))))
