-- `at_mut` asks whether something is there, through a `&` of its own, and then lends it or gives its reference up.
use Rattle.jsonpath_base.proofs.LoanWords.{[], ◌∷◌, ◌≡◌, ◌≤◌, refl, lit<, proved, ftrue, flft, named, fact, tables, ‵, raw, ◌⊛◌, ◌$◌, ◌∵◌, !, qed, done, move, keep, drop, use0, use1, use2, split, join, fjoin, suffices, frame, enter, addr, stop, returns, alloc_all, pass_all, free_all, look_at, get, lit, through, sets, lands_as, heard, uint_vals, MutRef, MutBor, mut_vals, mut_Tells, usize, plain, nothing, no, yes, Stays, walk_of, stay_dropped, Goes-spent_ref, Goes-dropped, mut_ref_to, ends_at, says, calls_at, triple_of, lasts, framed, owned, peeks, shows, only, no_more, and_then, uint_Makes, id⊢, ap, sym, fsplit3, of_opd, first, branches, skips, exec, returns_within, env, bool, fres}
use Rattle.jsonpath_base.proofs.LoanTies.{so_weaker, so_none}
use Rattle.jsonpath_base.proofs.Loans.{is_true, is_false, rest_all, no_tree}
use Rattle.jsonpath_base.specs.contracts.step.Step.{the_row as S}
use Rattle.std.proofs.VecSteps.Shapes.{after}
use Rattle.std.proofs.Common.{w64, arith, IsSome, IsTrue, is_some, option_map, Some, None, length, ◌∙◌}
use Rattle.std.specs.Prelude.{⊤}
use Rattle.std.specs.contracts.option.Option as OP
use Rattle.std.proofs.VecSteps.Element.{Some-of, none_of}
use types.Kit.{at_ret, pick, some, later, await, rewrite}
use types.Part.{agg}
use types.Match.{live}
use base.Logic.{emp}
use contract.Monad.{fact_i}
use denote.Builtin.{SliceRefOf}
use denote.Slice.{ShrSlice, shr_slice_vals, shr_slice_Tells}
use denote.Follow.{follows_so}
use mir.Val.{vptr, of_list}
use mathlib.Core.Option as maybe
use Rattle.serde_json.specs.contracts.value.Value.{the_row as R}
use Rattle.jsonpath_base.specs.Prelude.{at, location_view, put, rest, value_is_whole, value_tree}
use Rattle.jsonpath_base.specs.contracts.lending.at_mut as f
use Rattle.jsonpath_base.proofs.lending.at_mut.Statement.{statement}
use Rattle.jsonpath_base.proofs.lending.at_mut.Code as code
use Rattle.jsonpath_base.specs.contracts.lending.place_mut as g₂
use Rattle.jsonpath_base.proofs.lending.place_mut.Met.{met as met₂}
use Rattle.jsonpath_base.specs.contracts.lending.count as g₀
use Rattle.jsonpath_base.proofs.lending.count.Met.{met as met₀}
use Rattle.jsonpath_base.specs.contracts.lending.is_there as g₁
use Rattle.jsonpath_base.proofs.lending.is_there.Met.{met as met₁}
use Rattle.jsonpath_base.proofs.step.Step.TheLaws.{the_row_laws as S-laws}
use Rattle.serde_json.proofs.value.Value.TheLaws.{the_row_laws as R-laws}
use Rattle.std.proofs.Common.{Bool, List, ℕ}
use base.Fraction.{full_share}
use base.Fml.{GName}
use borrow.Rule.Reshare.{ref_Share}
use borrow.Table.Owned as owned_as
use denote.Lend.{LentAgain, lends_again, comes_back}
use denote.Ref.{Bor}
use denote.Shares.{Shares-less}
use denote.Slice.{shr_slice_copy}
use denote.Triple.Clauses.{Lasts}
use contract.BorrowLft.{meet_⊑_left}
use mir.Syntax.{erased}
use mir.Val.{Val}
use types.Kit.{use3, feq_l, feq_i}
use types.Tokens.{lft_new, lft_end}

abbrev stayed : Stays f.ended.signature.params f.ended.kept
stayed = (stay_dropped (mut_ref_to (0 ∷ []) tt (plain (λ _. R))) no, (stay_dropped (SliceRefOf (1 ∷ []) tt (plain (λ _. S)) (λ _. tt)) yes, tt))

pub at_mut_spec : {M : Type 1} → statement M
at_mut_spec 𝓤 𝓛 𝓜 𝓡 wired =
    let c = f.clauses 𝓛 𝓜.mem 𝓡.returns in let W = walk_of 𝓛 f.ended stayed c in let 𝓣 = tables 𝓤 𝓛.H 𝓜 𝓡 𝓡.env in
    proved 𝓛 f.ended stayed c 𝓜 𝓡
    (Goes-spent_ref 𝓛 2 (0 ∷ []) tt (plain (λ _. R)), (Goes-dropped 𝓛 2 (SliceRefOf (1 ∷ []) tt (plain (λ _. S)) (λ _. tt)) yes (λ κs x w. refl), tt))
    f.Key.name code.function (code.unfolded 𝓤 𝓛.H 𝓜 𝓡 wired)
    (λ κs. (mut_vals, (shr_slice_vals, tt))) (λ κs. (mut_Tells (named 0) κs.0 R, (shr_slice_Tells (named 1) κs.1.0 S, tt))) (λ κs qs bounds a _ are.
    let κ = κs.0 in let κp = κs.1.0 in let q = qs.0 in let qp = qs.1.0 in let value = a.0 in let path = a.1.0 in
    let b₀ = value.ref_ptr.0 in let o₀ = value.ref_ptr.1 in let γ = value.ghost_name in let x = value.now in
    let Path = ‵ ((ShrSlice (named 1) κp S).own_val path (shr_slice_vals path)) in
    let z : W.Ghost = ((κs, qs, bounds, a, (mut_vals value, (shr_slice_vals path, tt))), tt) in
    qed 𝓛 (((‵ (flft κ q) ⊛ ‵ (flft κp qp) ⊛ ‵ ftrue) ⊛ (‵ ((MutRef (named 0) κ R).own_val value (mut_vals value)) ⊛ ‵ ((ShrSlice (named 1) κp S).own_val path (shr_slice_vals path)) ⊛ ‵ ftrue))
    ∷ raw ((c κs a).requires tt) ∷ []) ∵
    split ! $ split ! $ move ! (1 ∷ []) $ split ! $ move ! (3 ∷ []) $ split ! $ move ! (1 ∷ []) $ split ! $ keep ! (2 ∷ 0 ∷ 5 ∷ 3 ∷ []) $
    -- [value; path; the token of κ; of κp]
    enter ! _ _ _ _ _ $ alloc_all ! (λ l. pass_all ! refl ((tt, tt), ((tt, (tt, (record { fits = are.1.0.0.1.0 }, tt))), tt)) $
    -- count
    let G₀ = triple_of 𝓛 g₀.signature (g₀.spec 𝓛 𝓜.mem 𝓡.returns) in
    let z₀ : G₀.Ghost = (((κp, tt), (qp, tt), tt, (path, tt), (shr_slice_vals path, tt)), tt) in
    move ! (1 ∷ []) $ use1 𝓛 (Path ⊛ Path) ((shr_slice_copy 𝓛 (named 1) κp S S-laws.shr_laws).twice path (shr_slice_vals path)) $ split ! $
    nothing ! $ move ! (1 ∷ 0 ∷ []) $ join ! $ nothing ! $ move ! (5 ∷ 0 ∷ []) $ join ! $ join ! $
    use0 𝓛 (raw (emp 𝓤)) (id⊢ 𝓤 _) $ move ! (1 ∷ 0 ∷ []) $ use2 𝓛 (raw (G₀.pre z₀)) (id⊢ 𝓤 _) $
    calls_at ! (framed 𝓤 𝓛.H 𝓜 𝓣) G₀ (met₀ 𝓤 𝓛 𝓜 𝓡 (code.calls-jsonpath_base::lending::count 𝓡.env wired)) z₀ (and_then ! (get ! refl) (no_more !)) (λ v₀.
    use1 𝓛 (later (some (λ (r : ℕ). ((‵ (flft κp qp) ⊛ ‵ ftrue) ⊛ ‵ (usize.own_val r (v₀ ∷ []))) ⊛
    some (λ (ws : Lasts g₀.ended z₀.0.0 z₀.0.3). ‵ (lasts g₀.ended z₀.0.0 z₀.0.3 ws) ⊛ raw (fact 𝓤 (r ≡ length path.now)))))) (id⊢ 𝓤 _) $
    await ! tt $ pick ! (λ k. split ! $ split ! $ split ! $ move ! (3 ∷ []) $ pick ! (λ ws₀. split ! $ drop ! $ heard ! _ (λ k_is.
    -- [the token of κp; nothing; the answer; path; value; the token of κ]
    move ! (2 ∷ []) $ peeks ! usize _ (shows 𝓛 usize) k (v₀ ∷ []) (λ at₀.
    lands_as ! (ap only at₀.0) refl (tt, record { fits = at₀.1 }) $ drop ! $ move ! (1 ∷ []) $ drop ! $ move ! (2 ∷ 1 ∷ 3 ∷ 0 ∷ []) $
    -- is_there, through a `&` for α, of [value; path; the token of κ; of κp]
    sets ! (addr ! (through ! refl (stop !))) refl (tt, tt) $ lft_new ! tt (λ α. let β = α ∷ [] in move ! (1 ∷ 3 ∷ []) $
    use2 𝓛 (later (some (λ (γ₁ : GName). ‵ ((MutRef erased β R).own_val (record { ref_ptr = (b₀, o₀); ghost_name = γ₁; now = x }) (vptr b₀ o₀ ∷ [])) ⊛ ‵ (LentAgain R κ β q γ b₀ o₀ γ₁ x)))) (lends_again 𝓛 R (named 0) κ β q γ b₀ o₀ erased x) $
    await ! tt $ pick ! (λ γ₁. split ! $ fsplit3 ! $ feq_l ! (λ _. fjoin ! $ move ! (0 ∷ 2 ∷ []) $
    use2 𝓛 (later (‵ ((owned_as.ShrRef erased β R).own_val (record { ref_ptr = (b₀, o₀); now = x })) ⊛ (‵ (fres γ₁ (R.coded.code x)) ⊛ ‵ (flft β full_share))))
    (ref_Share 𝓛 R b₀ o₀ γ₁ x R-laws.shr_laws β full_share (Shares-less 𝓛 R R.lives β (meet_⊑_left [] β) (R-laws.shares 𝓛))) $ await ! tt $ split ! $ move ! (1 ∷ []) $ split ! $ move ! (2 ∷ []) $
    feq_i ! (List Val) (vptr b₀ o₀ ∷ []) (vptr b₀ o₀ ∷ []) refl $ fjoin ! $
    -- [the `&`; what its loan leaves; the token of α; what the reference keeps; path; the token of κp]
    let r : Bor R.Denot = record { ref_ptr = (b₀, o₀); now = x } in
    let G₁ = triple_of 𝓛 g₁.signature (g₁.spec 𝓛 𝓜.mem 𝓡.returns) in
    let z₁ : G₁.Ghost = (((β, (κp, tt)), (full_share, (qp, tt)), tt, (r, (path, tt)), (vptr b₀ o₀ ∷ [], (shr_slice_vals path, tt))), tt) in
    move ! (4 ∷ []) $ use1 𝓛 (Path ⊛ Path) ((shr_slice_copy 𝓛 (named 1) κp S S-laws.shr_laws).twice path (shr_slice_vals path)) $ split ! $
    nothing ! $ move ! (1 ∷ 0 ∷ []) $ join ! $ move ! (2 ∷ 0 ∷ []) $ join ! $ nothing ! $ move ! (6 ∷ 0 ∷ []) $ join ! $ move ! (4 ∷ 0 ∷ []) $ join ! $ join ! $
    use0 𝓛 (raw (emp 𝓤)) (id⊢ 𝓤 _) $ move ! (1 ∷ 0 ∷ []) $ use2 𝓛 (raw (G₁.pre z₁)) (id⊢ 𝓤 _) $
    calls_at ! (framed 𝓤 𝓛.H 𝓜 𝓣) G₁ (met₁ 𝓤 𝓛 𝓜 𝓡 (code.calls-jsonpath_base::lending::is_there 𝓡.env wired)) z₁ (and_then ! (get ! refl) (and_then ! (get ! refl) (no_more !))) (λ v₁.
    use1 𝓛 (later (some (λ (r : Bool). ((‵ (flft β full_share) ⊛ ‵ (flft κp qp) ⊛ ‵ ftrue) ⊛ ‵ (bool.own_val r (v₁ ∷ []))) ⊛
    some (λ (ws : Lasts g₁.ended z₁.0.0 z₁.0.3). ‵ (lasts g₁.ended z₁.0.0 z₁.0.3 ws) ⊛ raw (fact 𝓤 (r ≡ is_some (at (location_view path.now) (value_tree x)))))))) (id⊢ 𝓤 _) $
    await ! tt $ pick ! (λ found. split ! $ split ! $ split ! $ move ! (1 ∷ []) $ split ! $ move ! (4 ∷ []) $ pick ! (λ ws₁. split ! $ drop ! $ heard ! _ (λ found_is.
    -- [the token of κp; nothing; the token of α; the answer; path; what the loan leaves; what the reference keeps]
    move ! (3 ∷ []) $ peeks ! bool _ (shows 𝓛 bool) found (v₁ ∷ []) (λ at₁.
    lands_as ! (ap only at₁) refl (tt, tt) $ drop ! $ move ! (1 ∷ []) $ drop ! $ move ! (1 ∷ []) $ lft_end ! tt $ move ! (0 ∷ 4 ∷ 3 ∷ []) $
    use3 𝓛 (later (‵ ((MutRef (named 0) κ R).own_val value (vptr b₀ o₀ ∷ [])) ⊛ ‵ (flft κ q))) (comes_back 𝓛 R (named 0) κ β q γ b₀ o₀ γ₁ x x) $ await ! tt $ split ! $
    move ! (0 ∷ 3 ∷ 1 ∷ 2 ∷ []) $
    -- [value; path; the token of κ; of κp]
    sets ! (of_opd ! (get ! refl)) refl (tt, tt) $ first ! $ branches ! (get ! refl)
    (λ is_found.
    let there = is_true found is_found in let all = rest_all path.now k k_is in
    let is_there : IsSome (at (rest path.now k) (value_tree value.now)) = ap (λ s. is_some (at s (value_tree value.now))) all ∙ sym found_is ∙ there in
    sets ! (addr ! (through ! refl (stop !))) refl (tt, tt) $
    -- place_mut
    let G₂ = triple_of 𝓛 g₂.signature (g₂.spec 𝓛 𝓜.mem 𝓡.returns) in
    let z₂ : G₂.Ghost = ((κs, qs, tt, (value, (path, (k, tt))), (mut_vals value, (shr_slice_vals path, (uint_vals w64 k, tt)))), tt) in
    nothing ! $ owned ! usize _ (uint_Makes 𝓛 w64) k _ (refl, at₀.1) $ join ! $ move ! (2 ∷ 0 ∷ []) $ join ! $ move ! (1 ∷ 0 ∷ []) $ join ! $ nothing ! $ move ! (3 ∷ 0 ∷ []) $ join ! $ move ! (2 ∷ 0 ∷ []) $ join ! $ join ! $
    use0 𝓛 (raw (fact 𝓤 ((k ≤ length path.now) × IsSome (at (rest path.now k) (value_tree value.now))))) (fact_i 𝓤 _ (emp 𝓤) (omega (arith, k_is), is_there)) $
    move ! (1 ∷ 0 ∷ []) $ use2 𝓛 (raw (G₂.pre z₂)) (id⊢ 𝓤 _) $
    calls_at ! (framed 𝓤 𝓛.H 𝓜 𝓣) G₂ (met₂ 𝓤 𝓛 𝓜 𝓡 (code.calls-jsonpath_base::lending::place_mut 𝓡.env wired)) z₂ (and_then ! (get ! refl) (and_then ! (get ! refl) (and_then ! (get ! refl) (no_more !)))) (λ v₂.
    let P₂ = λ (w n : R.Denot). value_tree n ≡ put (rest path.now k) (value_tree w) (value_tree value.now) in let Q₂ = λ (w n : R.Denot). value_tree n ≡ put (location_view path.now) (value_tree w) (value_tree value.now) in
    use1 𝓛 (later (some (λ (r : MutBor R.Denot). ((‵ (flft κ q) ⊛ ‵ (flft κp qp) ⊛ ‵ ftrue) ⊛ ‵ ((MutRef (named 0) κ R).own_val r (v₂ ∷ []))) ⊛
    some (λ (ws : Unit {0} × (Unit {0} × (Unit {0} × Unit {0}))). ‵ (lasts g₂.ended z₂.0.0 z₂.0.3 ws) ⊛ ‵ (follows_so R R value.ghost_name (maybe.some r.ghost_name) P₂ (λ n. ⊤)) ⊛ (raw (fact 𝓤 (Some (value_tree r.now) ≡ at (rest path.now k) (value_tree value.now))) ⊛ raw (fact 𝓤 (IsTrue (value_is_whole value.now) → IsTrue (value_is_whole r.now)))))))) (id⊢ 𝓤 _) $
    await ! tt $ pick ! (λ last. split ! $ split ! $ split ! $ move ! (1 ∷ []) $ split ! $ move ! (4 ∷ []) $ pick ! (λ ws₂. split ! $ drop ! $ split ! $ move ! (1 ∷ []) $ split ! $ heard ! _ (λ last_is. heard ! _ (λ last_whole.
    -- [the tie; the token of κp; nothing; the token of κ; the result]
    move ! (4 ∷ []) $ peeks ! (MutRef (named 0) κ R) _ (shows 𝓛 (MutRef (named 0) κ R)) last (v₂ ∷ []) (λ at₂.
    rewrite ! 0 (λ vs. ‵ ((MutRef (named 0) κ R).own_val last vs)) at₂.0 refl $ lands_as ! (ap only at₂.0) refl (tt, tt) $
    sets ! (agg ! (and_then ! (lit ! tt) (and_then ! (get ! refl) (no_more !)))) refl (tt, (record { fits = lit< tt }, (tt, tt))) $
    returns_within ! (W.post z) refl (look_at ! 0 refl) $ free_all ! refl $ move ! (1 ∷ []) $
    use1 𝓛 (‵ (follows_so R R value.ghost_name (maybe.some last.ghost_name) Q₂ (λ n. n ≡ value.now)))
    (so_weaker 𝓛 R R value.ghost_name last.ghost_name P₂ Q₂ (λ n. n ≡ value.now) value.now refl (λ w n is. is ∙ ap (λ s. put s (value_tree w) (value_tree value.now)) all)) $
    -- [the tie; the result; the token of κp; nothing; the token of κ]
    let out = live 1 (of_list (vptr last.ref_ptr.0 last.ref_ptr.1 ∷ [])) in
    keep ! (1 ∷ 4 ∷ 2 ∷ 0 ∷ []) $ use1 𝓛 (‵ ((OP.the_row (MutRef (named 0) κ R)).own_val (Some last) (out ∷ []))) (Some-of 𝓛 (MutRef (named 0) κ R) last (vptr last.ref_ptr.0 last.ref_ptr.1)) $
    suffices ! _ (ends_at 𝓛 f.ended stayed c z out (Some last) (tt, (tt, tt)) (tt, (tt, tt))) $
    nothing ! $ nothing ! $ fjoin ! $ nothing ! $ fjoin ! $ join ! $
    nothing ! $ move ! (3 ∷ 0 ∷ []) $ join ! $ move ! (2 ∷ 0 ∷ []) $ join ! $ join ! $ frame ! $ frame ! $ says ! last_whole $
    use0 𝓛 (raw (fact 𝓤 (option_map (λ (v : MutBor R.Denot). value_tree v.now) (Some last) ≡ at (location_view path.now) (value_tree value.now)))) (fact_i 𝓤 _ (emp 𝓤) (last_is ∙ ap (λ s. at s (value_tree value.now)) all)) $ done !)))))))
    (λ is_not. skips ! $ exec ! 𝓣.C 𝓣.Λ (env (code.function).locals l) (after 5 (code.function).body) (at_ret _ (W.post z)) $
    sets ! (agg ! (and_then ! (lit ! tt) (no_more !))) refl (tt, (record { fits = lit< tt }, tt)) $
    returns ! (look_at ! 0 refl) $ free_all ! refl $ fsplit3 ! $ move ! (1 ∷ []) $
    -- [the last value that is said; ..; path; the token of κ; of κp]
    use1 𝓛 (‵ (fres value.ghost_name (R.coded.code value.now))) (𝓛.names.obs-res value.ghost_name (R.coded.code value.now)) $
    use1 𝓛 (‵ (follows_so R R value.ghost_name maybe.none (λ w n. ⊤) (λ n. n ≡ value.now))) (so_none 𝓛 R R value.ghost_name (λ w n. ⊤) (λ n. n ≡ value.now) (λ w. w) value.now (λ w. tt) refl) $
    let out = live 0 (of_list []) in
    keep ! (4 ∷ 5 ∷ 0 ∷ []) $ use0 𝓛 (‵ ((OP.the_row (MutRef (named 0) κ R)).own_val None (out ∷ []))) (none_of 𝓛 (MutRef (named 0) κ R)) $
    suffices ! _ (ends_at 𝓛 f.ended stayed c z out None (tt, (tt, tt)) (tt, (tt, tt))) $
    nothing ! $ nothing ! $ fjoin ! $ nothing ! $ fjoin ! $ join ! $
    nothing ! $ move ! (3 ∷ 0 ∷ []) $ join ! $ move ! (2 ∷ 0 ∷ []) $ join ! $ join ! $ frame ! $ frame ! $ says ! (λ h. tt) $
    use0 𝓛 (raw (fact 𝓤 (None ≡ at (location_view path.now) (value_tree value.now)))) (fact_i 𝓤 _ (emp 𝓤) (no_tree _ (sym found_is ∙ is_false found is_not))) $ done !))))))))))))))))
