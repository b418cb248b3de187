use Rattle.jsonpath_base.proofs.LoanWords.{[], ◌∷◌, ◌≡◌, ◌≤◌, refl, arith, ftrue, flft, named, vint, fact, tables, ‵, raw, ◌⊛◌, ◌$◌, ◌∵◌, !, qed, done, move, keep, drop, use0, use1, use2, split, join, fjoin, suffices, frame, enter, addr, stop, bin, first, branches, skips, exec, returns, returns_within, alloc_all, pass_all, free_all, look_at, get, lit, through, sets, lands_as, env, heard, uint_vals, uint_Tells, MutRef, mut_vals, mut_Tells, usize, plain, nothing, no, yes, Stays, walk_of, stay_dropped, Goes-spent_ref, Goes-dropped, mut_ref_to, ends_at, says, follows, calls_at, triple_of, lasts, framed}
use Rattle.jsonpath_base.proofs.LoanTies.{follows_itself, so_from, so_chain, so_so}
use Rattle.jsonpath_base.proofs.Loans.{rest_index, rest_name, list_there, item_there, at_item, object_there, member_there, at_member, positive, is_true, is_false}
use Rattle.jsonpath_base.proofs.Putting.{put_element, put_member}
use Rattle.jsonpath_base.proofs.LoanWords.{MutBor, owned, peeks, shows, only, no_more, and_then, use3, uint_Makes, prop}
use Rattle.std.proofs.Common.{◌^◌, ◌-◌, eqb→eq, IsSome, IsTrue, is_some, Some, Bool, true, false, length}
use Rattle.jsonpath_base.specs.Prelude.{Array, as_array, as_object, at, has_index, index, index_in, is_entry, items_view, LendsMember, lookup, members_view, name, name_in, next, Object, put, rest, set_value, value_is_whole, value_tree, view, with_item}
use Rattle.std.specs.Prelude.{⊤, vec_len, slice_index_or}
use mathlib.Core.Option as maybe
use denote.Follow.{follows_so}
use denote.Triple.Call.{calls_from}
use Rattle.serde_json.specs.Rows.{list_row as L, map_row as K}
use Rattle.jsonpath_base.proofs.WholeParts.{item_whole, member_whole}
use Rattle.std.specs.Option.{OnSome}
use denote.Triple.Clauses.{Lasts}
use denote.Builtin.{bool}
use Rattle.jsonpath_base.specs.contracts.step.Step.{the_row as S}
use Rattle.jsonpath_base.proofs.step.Step.TheLaws.{the_row_laws}
use Rattle.jsonpath_base.specs.contracts.lending.parts.is_index as g₀
use Rattle.jsonpath_base.proofs.lending.parts.is_index.Met.{met as met₀}
use Rattle.jsonpath_base.specs.contracts.lending.parts.map_mut as g₄
use Rattle.jsonpath_base.proofs.lending.parts.map_mut.Met.{met as met₄}
use Rattle.jsonpath_base.specs.contracts.lending.member_at as g₅
use Rattle.jsonpath_base.proofs.lending.member_at.Met.{met as met₅}
use Rattle.jsonpath_base.specs.contracts.lending.parts.list_mut as g₁
use Rattle.jsonpath_base.proofs.lending.parts.list_mut.Met.{met as met₁}
use Rattle.jsonpath_base.specs.contracts.lending.parts.item_at as g₂
use Rattle.jsonpath_base.proofs.lending.parts.item_at.Met.{met as met₂}
use Rattle.std.proofs.Common.{w64, sym, ap, ◌∙◌}
use Rattle.std.proofs.VecSteps.Shapes.{after}
use types.Kit.{at_ret, pick, some, later, await, rewrite, Sq}
use base.Logic.{via, id⊢, emp}
use contract.Monad.{fact_i}
use contract.Running.{tables_of}
use denote.Triple.Cycle.{mutual_elim, measured, at_on}
use denote.Triple.Walked.{walked_at, walk_meets_at}
use denote.Builtin.{SliceRefOf}
use denote.Slice.{ShrSlice, shr_slice_vals, shr_slice_Tells, shr_slice_copy}
use mir.Val.{vptr}
use lib.WfN.{lt-wf_rel}
use prog.Wp.{WpFn}
use sound.WpLaws.{WpFn-mono}
use Prim.Native.Nat.{◌<◌}
use Rattle.jsonpath_base.specs.contracts.lending.place_mut as f
use Rattle.jsonpath_base.specs.contracts.lending.place_mut.Key as key
use Rattle.jsonpath_base.proofs.lending.+place_mut as cycle
use Rattle.jsonpath_base.proofs.lending.+place_mut.{statement}
use Rattle.jsonpath_base.proofs.lending.+place_mut.Code as code
use Rattle.serde_json.specs.contracts.value.Value.{the_row as R}

abbrev stayed : Stays f.ended.signature.params f.ended.kept
stayed = (stay_dropped (mut_ref_to (0 ∷ []) tt (plain (λ _. R))) no, (stay_dropped (SliceRefOf (1 ∷ []) tt (plain (λ _. S)) (λ _. tt)) yes, (stay_dropped (plain (λ _. usize)) yes, tt)))

pub +place_mut_spec : {M : Type 1} → statement M
unfolding tables_of
+place_mut_spec 𝓤 𝓛 𝓜 𝓡 wired =
    let c = f.clauses 𝓛 𝓜.mem 𝓡.returns in let W = walk_of 𝓛 f.ended stayed c in let 𝓣 = tables 𝓤 𝓛.H 𝓜 𝓡 𝓡.env in
    let fn = code.place_mut-function in let run = WpFn 𝓤 𝓛.H 𝓣.C 𝓣.Λ fn in
    mutual_elim 𝓛 (cycle.functions 𝓛 𝓜.mem 𝓡.run 𝓡.returns 𝓡.env) ◌<◌ lt-wf_rel.wf
    (measured 𝓛 _ (λ y. y.0.3.1.1.0))
    (λ t smaller. at_on 𝓛 f.signature (f.spec 𝓛 𝓜.mem 𝓡.returns) run (𝓡.run (𝓡.env key.name)) (code.place_mut-unfolded 𝓤 𝓛.H 𝓜 𝓡 wired) (λ y. y.0.3.1.1.0) t (λ y e.
    walk_meets_at 𝓛 f.ended stayed (Goes-spent_ref 𝓛 2 (0 ∷ []) tt (plain (λ _. R)), (Goes-dropped 𝓛 2 (SliceRefOf (1 ∷ []) tt (plain (λ _. S)) (λ _. tt)) yes (λ κs x w. refl), (Goes-dropped 𝓛 2 (plain (λ _. usize)) yes (λ κs x w. refl), tt))) c run (WpFn-mono 𝓤 𝓛.H 𝓛.laws (tables_of 𝓤 𝓛.H 𝓜 𝓣) fn) y
    (walked_at 𝓛 f.ended stayed c run y (mut_vals, (shr_slice_vals, (uint_vals w64, tt))) (mut_Tells (named 0) y.0.0.0 R, (shr_slice_Tells (named 1) y.0.0.1.0 S, (uint_Tells w64, tt))) (λ are.
    let κ = y.0.0.0 in let κp = y.0.0.1.0 in let q = y.0.1.0 in let qp = y.0.1.1.0 in
    let a = y.0.3 in let value = a.0 in let path = a.1.0 in let k = a.1.1.0 in
    let z : W.Ghost = ((y.0.0, y.0.1, y.0.2, a, (mut_vals value, (shr_slice_vals path, (uint_vals w64 k, tt)))), tt) in
    let Ref = λ (r : MutBor R.Denot). (MutRef (named 0) κ R).own_val r (mut_vals r) in let Path = (ShrSlice (named 1) κp S).own_val path (shr_slice_vals path) in
    let So = λ (r : MutBor R.Denot). follows_so R R value.ghost_name (maybe.some r.ghost_name) (λ w n. value_tree n ≡ put (rest path.now k) (value_tree w) (value_tree value.now)) (λ n. ⊤) in
    let out : (r : MutBor R.Denot) → Some (value_tree r.now) ≡ at (rest path.now k) (value_tree value.now) → (IsTrue (value_is_whole value.now) → IsTrue (value_is_whole r.now)) → Sq 𝓛 (‵ (Ref r) ∷ ‵ (flft κ q) ∷ ‵ (flft κp qp) ∷ ‵ (So r) ∷ []) (prop (W.post z (vptr r.ref_ptr.0 r.ref_ptr.1))) = λ r r_is r_whole.
    suffices ! _ (ends_at 𝓛 f.ended stayed c z (vptr r.ref_ptr.0 r.ref_ptr.1) r (tt, (tt, (tt, tt))) (tt, (tt, (tt, tt)))) $
    nothing ! $ nothing ! $ fjoin ! $ nothing ! $ fjoin ! $ nothing ! $ fjoin ! $ join ! $
    nothing ! $ move ! (3 ∷ 0 ∷ []) $ join ! $ move ! (2 ∷ 0 ∷ []) $ join ! $ join ! $ frame ! $ frame ! $ says ! r_whole $ use0 𝓛 (raw (fact 𝓤 (Some (value_tree r.now) ≡ at (rest path.now k) (value_tree value.now)))) (fact_i 𝓤 _ (emp 𝓤) r_is) $ done ! in
    qed 𝓛 (((‵ (flft κ q) ⊛ ‵ (flft κp qp) ⊛ ‵ ftrue) ⊛ (‵ ((MutRef (named 0) κ R).own_val value (mut_vals value)) ⊛ ‵ ((ShrSlice (named 1) κp S).own_val path (shr_slice_vals path)) ⊛ ‵ (usize.own_val k (vint w64 k ∷ [])) ⊛ ‵ ftrue))
    ∷ raw ((c y.0.0 a).requires tt) ∷ []) ∵
    move ! (1 ∷ []) $ heard ! _ (λ given. split ! $ split ! $ move ! (1 ∷ []) $ split ! $ move ! (3 ∷ []) $ split ! $ move ! (1 ∷ []) $ split ! $ keep ! (2 ∷ 0 ∷ 5 ∷ 3 ∷ []) $
    -- [value; path; the token of κ; of κp]
    enter ! _ _ _ _ _ $ alloc_all ! (λ l. pass_all ! refl ((tt, tt), ((tt, (tt, (record { fits = are.1.0.0.1.0 }, tt))), ((tt, record { fits = are.1.1.0.1 }), tt))) $
    sets ! (bin ! (get ! refl) (lit ! tt) tt) refl (tt, tt) $ first ! $ branches ! (get ! refl)
    (λ none. sets ! (addr ! (through ! refl (stop !))) refl (tt, tt) $
    returns_within ! (W.post z) refl (look_at ! 0 refl) $ free_all ! refl $ keep ! (0 ∷ 2 ∷ 3 ∷ []) $
    use0 𝓛 (‵ (So value)) (via 𝓤 _ (follows_itself 𝓛 R value.ghost_name) (so_from 𝓛 R R value.ghost_name value.ghost_name (λ w n. value_tree n ≡ put (rest path.now k) (value_tree w) (value_tree value.now)) (λ w. w) value.now
    (λ w. ap (λ m. put (rest path.now m) (value_tree w) (value_tree value.now)) (sym (eqb→eq k 0 none))))) $
    move ! (1 ∷ 2 ∷ 3 ∷ 0 ∷ []) $ out value (ap (λ m. at (rest path.now m) (value_tree value.now)) (sym (eqb→eq k 0 none))) (λ h. h))
    (λ some_left. skips ! $ exec ! 𝓣.C 𝓣.Λ (env fn.locals l) (after 2 fn.body) (at_ret (env fn.locals l) (W.post z)) $
    let j = k - 1 in let suc_is = (positive k some_left).1 in
    let way = rest path.now j in
    -- is_index
    let Path = ‵ ((ShrSlice (named 1) κp S).own_val path (shr_slice_vals path)) in
    let G₀ = triple_of 𝓛 g₀.signature (g₀.spec 𝓛 𝓜.mem 𝓡.returns) in
    let z₀ : G₀.Ghost = (((κp, tt), (qp, tt), tt, (path, (k, tt)), (shr_slice_vals path, (uint_vals w64 k, tt))), tt) in
    move ! (1 ∷ []) $ use1 𝓛 (Path ⊛ Path) ((shr_slice_copy 𝓛 (named 1) κp S the_row_laws.shr_laws).twice path (shr_slice_vals path)) $ split ! $
    nothing ! $ owned ! usize _ (uint_Makes 𝓛 w64) k _ (refl, are.1.1.0.1) $ join ! $ move ! (1 ∷ 0 ∷ []) $ join ! $ nothing ! $ move ! (5 ∷ 0 ∷ []) $ join ! $ join ! $
    use0 𝓛 (raw (fact 𝓤 ((0 < k) × (k ≤ length path.now)))) (fact_i 𝓤 _ (emp 𝓤) ((positive k some_left).0, given.0)) $ move ! (1 ∷ 0 ∷ []) $ use2 𝓛 (raw (G₀.pre z₀)) (id⊢ 𝓤 _) $
    calls_at ! (framed 𝓤 𝓛.H 𝓜 𝓣) G₀ (met₀ 𝓤 𝓛 𝓜 𝓡 (code.calls-jsonpath_base::lending::parts::is_index 𝓡.env wired)) z₀ (and_then ! (get ! refl) (and_then ! (get ! refl) (no_more !))) (λ v₀.
    use1 𝓛 (later (some (λ (r : Bool). ((‵ (flft κp qp) ⊛ ‵ ftrue) ⊛ ‵ (bool.own_val r (v₀ ∷ []))) ⊛
    some (λ (ws : Lasts g₀.ended z₀.0.0 z₀.0.3). ‵ (lasts g₀.ended z₀.0.0 z₀.0.3 ws) ⊛ raw (fact 𝓤 (r ≡ has_index (next path.now k))))))) (id⊢ 𝓤 _) $
    await ! tt $ pick ! (λ b. split ! $ split ! $ split ! $ move ! (3 ∷ []) $ pick ! (λ ws₀. split ! $ drop ! $ heard ! _ (λ b_is.
    -- [the token of κp; nothing; the answer; path; value; the token of κ]
    move ! (2 ∷ []) $ peeks ! bool _ (shows 𝓛 bool) b (v₀ ∷ []) (λ at₀.
    lands_as ! (ap only at₀) refl (tt, tt) $ drop ! $ move ! (1 ∷ []) $ drop ! $ move ! (2 ∷ 1 ∷ 3 ∷ 0 ∷ []) $
    first ! $ branches ! (get ! refl)
    (λ yes_index.
    let here : has_index (next path.now k) ≡ true = sym b_is ∙ is_true b yes_index in
    let i = index_in (next path.now k) in let steps_are = rest_index path.now k j suc_is here in
    let there : IsSome (at (index i ∷ way) (value_tree value.now)) = ap (λ s. is_some (at s (value_tree value.now))) (sym steps_are) ∙ given.1 in
    sets ! (addr ! (through ! refl (stop !))) refl (tt, tt) $
    -- list_mut
    let G₁ = triple_of 𝓛 g₁.signature (g₁.spec 𝓛 𝓜.mem 𝓡.returns) in
    let z₁ : G₁.Ghost = (((κ, tt), (q, tt), tt, (value, tt), (mut_vals value, tt)), tt) in
    nothing ! $ move ! (1 ∷ 0 ∷ []) $ join ! $ nothing ! $ move ! (3 ∷ 0 ∷ []) $ join ! $ join ! $
    use0 𝓛 (raw (fact 𝓤 (IsSome (as_array (view value.now))))) (fact_i 𝓤 _ (emp 𝓤) (list_there value.now i way there)) $ move ! (1 ∷ 0 ∷ []) $ use2 𝓛 (raw (G₁.pre z₁)) (id⊢ 𝓤 _) $
    calls_at ! (framed 𝓤 𝓛.H 𝓜 𝓣) G₁ (met₁ 𝓤 𝓛 𝓜 𝓡 (code.calls-jsonpath_base::lending::parts::list_mut 𝓡.env wired)) z₁ (and_then ! (get ! refl) (no_more !)) (λ v₁.
    use1 𝓛 (later (some (λ (r : MutBor L.Denot). ((‵ (flft κ q) ⊛ ‵ ftrue) ⊛ ‵ ((MutRef (named 0) κ L).own_val r (v₁ ∷ []))) ⊛
    some (λ (ws : Unit {0} × Unit {0}). ‵ (lasts g₁.ended z₁.0.0 z₁.0.3 ws) ⊛ ‵ (follows R L value.ghost_name r.ghost_name Array) ⊛ raw (fact 𝓤 (Some (items_view r.now.items) ≡ as_array (view value.now))))))) (id⊢ 𝓤 _) $
    await ! tt $ pick ! (λ list. split ! $ split ! $ split ! $ move ! (3 ∷ []) $ pick ! (λ ws₁. split ! $ drop ! $ split ! $ move ! (1 ∷ []) $ heard ! _ (λ held.
    -- [the first tie; the token of κ; nothing; list; path; the token of κp]
    move ! (3 ∷ []) $ peeks ! (MutRef (named 0) κ L) _ (shows 𝓛 (MutRef (named 0) κ L)) list (v₁ ∷ []) (λ at₁.
    rewrite ! 0 (λ vs. ‵ ((MutRef (named 0) κ L).own_val list vs)) at₁.0 refl $ lands_as ! (ap only at₁.0) refl (tt, tt) $
    sets ! (addr ! (through ! refl (stop !))) refl (tt, tt) $
    -- item_at, of [list; the first tie; the token of κ; nothing; path; the token of κp]
    let G₂ = triple_of 𝓛 g₂.signature (g₂.spec 𝓛 𝓜.mem 𝓡.returns) in
    let z₂ : G₂.Ghost = (((κ, (κp, tt)), (q, (qp, tt)), tt, (list, (path, (k, tt))), (mut_vals list, (shr_slice_vals path, (uint_vals w64 k, tt)))), tt) in
    let within = item_there value.now list.now i way held there in
    move ! (4 ∷ []) $ use1 𝓛 (Path ⊛ Path) ((shr_slice_copy 𝓛 (named 1) κp S the_row_laws.shr_laws).twice path (shr_slice_vals path)) $ split ! $ move ! (0 ∷ 2 ∷ 4 ∷ 6 ∷ []) $
    nothing ! $ owned ! usize _ (uint_Makes 𝓛 w64) k _ (refl, are.1.1.0.1) $ join ! $ move ! (1 ∷ 0 ∷ []) $ join ! $ move ! (1 ∷ 0 ∷ []) $ join ! $ move ! (2 ∷ 5 ∷ []) $ join ! $ move ! (2 ∷ 0 ∷ []) $ join ! $ join ! $
    use0 𝓛 (raw (fact 𝓤 ((0 < k) × (k ≤ length path.now) × (i < vec_len list.now)))) (fact_i 𝓤 _ (emp 𝓤) ((positive k some_left).0, given.0, omega (arith, within, list.now.ok.0))) $
    move ! (1 ∷ 0 ∷ []) $ use2 𝓛 (raw (G₂.pre z₂)) (id⊢ 𝓤 _) $
    calls_at ! (framed 𝓤 𝓛.H 𝓜 𝓣) G₂ (met₂ 𝓤 𝓛 𝓜 𝓡 (code.calls-jsonpath_base::lending::parts::item_at 𝓡.env wired)) z₂ (and_then ! (get ! refl) (and_then ! (get ! refl) (and_then ! (get ! refl) (no_more !)))) (λ v₂.
    use1 𝓛 (later (some (λ (r : MutBor R.Denot). ((‵ (flft κ q) ⊛ ‵ (flft κp qp) ⊛ ‵ ftrue) ⊛ ‵ ((MutRef (named 0) κ R).own_val r (v₂ ∷ []))) ⊛
    some (λ (ws : Unit {0} × (Unit {0} × (Unit {0} × Unit {0}))). ‵ (lasts g₂.ended z₂.0.0 z₂.0.3 ws) ⊛ ‵ (follows L R list.ghost_name r.ghost_name (with_item list.now (i))) ⊛ raw (fact 𝓤 (r.now ≡ slice_index_or list.now.items (i) r.now)))))) (id⊢ 𝓤 _) $
    await ! tt $ pick ! (λ item. split ! $ split ! $ split ! $ move ! (1 ∷ []) $ split ! $ move ! (4 ∷ []) $ pick ! (λ ws₂. split ! $ drop ! $ split ! $ move ! (1 ∷ []) $ heard ! _ (λ item_is.
    -- [the second tie; the token of κp; nothing; the token of κ; item; path; the first tie]
    move ! (4 ∷ []) $ peeks ! (MutRef (named 0) κ R) _ (shows 𝓛 (MutRef (named 0) κ R)) item (v₂ ∷ []) (λ at₂.
    rewrite ! 0 (λ vs. ‵ ((MutRef (named 0) κ R).own_val item vs)) at₂.0 refl $ lands_as ! (ap only at₂.0) refl (tt, tt) $
    sets ! (addr ! (through ! refl (stop !))) refl (tt, tt) $
    let less : j < t = omega (arith, (positive k some_left).0, e) in let small : j < 2 ^ 64 = omega (arith, are.1.1.0.1) in
    sets ! (bin ! (get ! refl) (lit ! tt) (omega (arith, (positive k some_left).0))) refl (tt, record { fits = small }) $
    let below = at_item value.now list.now i way item.now held within item_is in
    -- place_mut, of [item; the second tie; the token of κp; nothing; the token of κ; path; the first tie]
    let G₃ = triple_of 𝓛 f.signature (f.spec 𝓛 𝓜.mem 𝓡.returns) in
    let z₃ : G₃.Ghost = ((y.0.0, y.0.1, y.0.2, (item, (path, (j, tt))), (mut_vals item, (shr_slice_vals path, (uint_vals w64 j, tt)))), tt) in
    nothing ! $ owned ! usize _ (uint_Makes 𝓛 w64) j _ (refl, small) $ join ! $ move ! (6 ∷ 0 ∷ []) $ join ! $ move ! (1 ∷ 0 ∷ []) $ join ! $ move ! (2 ∷ 3 ∷ []) $ join ! $ move ! (3 ∷ 0 ∷ []) $ join ! $ join ! $
    use0 𝓛 (raw (fact 𝓤 ((j ≤ length path.now) × IsSome (at way (value_tree item.now))))) (fact_i 𝓤 _ (emp 𝓤) (omega (arith, given.0), ap is_some (sym below) ∙ there)) $
    move ! (1 ∷ 0 ∷ []) $ use2 𝓛 (raw (G₃.pre z₃)) (id⊢ 𝓤 _) $
    calls_from ! (framed 𝓤 𝓛.H 𝓜 𝓣) (raw (G₃.pre z₃)) (G₃.args z₃) (G₃.post z₃) (smaller j less z₃ refl) (and_then ! (get ! refl) (and_then ! (get ! refl) (and_then ! (get ! refl) (no_more !)))) (λ v₃.
    let P₃ = λ (w n : R.Denot). value_tree n ≡ put way (value_tree w) (value_tree item.now) in
    use1 𝓛 (later (some (λ (r : MutBor R.Denot). ((‵ (flft κ q) ⊛ ‵ (flft κp qp) ⊛ ‵ ftrue) ⊛ ‵ ((MutRef (named 0) κ R).own_val r (v₃ ∷ []))) ⊛
    some (λ (ws : Unit {0} × (Unit {0} × (Unit {0} × Unit {0}))). ‵ (lasts f.ended z₃.0.0 z₃.0.3 ws) ⊛ ‵ (follows_so R R item.ghost_name (maybe.some r.ghost_name) P₃ (λ n. ⊤)) ⊛ (raw (fact 𝓤 (Some (value_tree r.now) ≡ at way (value_tree item.now))) ⊛ raw (fact 𝓤 (IsTrue (value_is_whole item.now) → IsTrue (value_is_whole r.now)))))))) (id⊢ 𝓤 _) $
    await ! tt $ pick ! (λ last. split ! $ split ! $ split ! $ move ! (1 ∷ []) $ split ! $ move ! (4 ∷ []) $ pick ! (λ ws₃. split ! $ drop ! $ split ! $ move ! (1 ∷ []) $ split ! $ heard ! _ (λ last_is. heard ! _ (λ last_whole.
    -- [the third tie; the token of κp; nothing; the token of κ; the result; the second tie; the first tie]
    move ! (4 ∷ []) $ peeks ! (MutRef (named 0) κ R) _ (shows 𝓛 (MutRef (named 0) κ R)) last (v₃ ∷ []) (λ at₃.
    rewrite ! 0 (λ vs. ‵ ((MutRef (named 0) κ R).own_val last vs)) at₃.0 refl $ lands_as ! (ap only at₃.0) refl (tt, tt) $
    returns_within ! (W.post z) refl (look_at ! 0 refl) $ free_all ! refl $ move ! (6 ∷ 5 ∷ 1 ∷ []) $
    use3 𝓛 (‵ (So last)) (so_chain 𝓛 R L value.ghost_name list.ghost_name item.ghost_name last.ghost_name Array (with_item list.now (i)) (λ w n. value_tree n ≡ put (rest path.now k) (value_tree w) (value_tree value.now)) P₃ value.now
    (λ w n is. put_element value.now list.now (with_item list.now i n) i way item.now n (value_tree w) held within item_is refl is ∙ ap (λ s. put s (value_tree w) (value_tree value.now)) (sym steps_are))) $
    keep ! (1 ∷ 4 ∷ 2 ∷ 0 ∷ []) $ out last (last_is ∙ sym below ∙ ap (λ s. at s (value_tree value.now)) (sym steps_are)) (λ h. last_whole (item_whole value.now list.now i item.now held within item_is h)))))))))))))))))))
    (λ no_index. skips ! $ exec ! 𝓣.C 𝓣.Λ (env fn.locals l) (after 4 fn.body) (at_ret _ (W.post z)) $
    let here : has_index (next path.now k) ≡ false = sym b_is ∙ is_false b no_index in
    let text = name_in (next path.now k) in let steps_are = rest_name path.now k j suc_is given.0 here in
    let there : IsSome (at (name text ∷ way) (value_tree value.now)) = ap (λ s. is_some (at s (value_tree value.now))) (sym steps_are) ∙ given.1 in
    sets ! (addr ! (through ! refl (stop !))) refl (tt, tt) $
    -- map_mut
    let G₄ = triple_of 𝓛 g₄.signature (g₄.spec 𝓛 𝓜.mem 𝓡.returns) in
    let z₄ : G₄.Ghost = (((κ, tt), (q, tt), tt, (value, tt), (mut_vals value, tt)), tt) in
    nothing ! $ move ! (1 ∷ 0 ∷ []) $ join ! $ nothing ! $ move ! (3 ∷ 0 ∷ []) $ join ! $ join ! $
    use0 𝓛 (raw (fact 𝓤 (IsSome (as_object (view value.now))))) (fact_i 𝓤 _ (emp 𝓤) (object_there value.now text way there)) $ move ! (1 ∷ 0 ∷ []) $ use2 𝓛 (raw (G₄.pre z₄)) (id⊢ 𝓤 _) $
    calls_at ! (framed 𝓤 𝓛.H 𝓜 𝓣) G₄ (met₄ 𝓤 𝓛 𝓜 𝓡 (code.calls-jsonpath_base::lending::parts::map_mut 𝓡.env wired)) z₄ (and_then ! (get ! refl) (no_more !)) (λ v₁.
    use1 𝓛 (later (some (λ (r : MutBor K.Denot). ((‵ (flft κ q) ⊛ ‵ ftrue) ⊛ ‵ ((MutRef (named 0) κ K).own_val r (v₁ ∷ []))) ⊛
    some (λ (ws : Lasts g₄.ended z₄.0.0 z₄.0.3). ‵ (lasts g₄.ended z₄.0.0 z₄.0.3 ws) ⊛ ‵ (follows R K value.ghost_name r.ghost_name Object) ⊛ raw (fact 𝓤 (Some (members_view r.now.entries) ≡ as_object (view value.now))))))) (id⊢ 𝓤 _) $
    await ! tt $ pick ! (λ map. split ! $ split ! $ split ! $ move ! (3 ∷ []) $ pick ! (λ ws₁. split ! $ drop ! $ split ! $ move ! (1 ∷ []) $ heard ! _ (λ held.
    -- [the first tie; the token of κ; nothing; map; path; the token of κp]
    move ! (3 ∷ []) $ peeks ! (MutRef (named 0) κ K) _ (shows 𝓛 (MutRef (named 0) κ K)) map (v₁ ∷ []) (λ at₁.
    rewrite ! 0 (λ vs. ‵ ((MutRef (named 0) κ K).own_val map vs)) at₁.0 refl $ lands_as ! (ap only at₁.0) refl (tt, tt) $
    sets ! (addr ! (through ! refl (stop !))) refl (tt, tt) $
    -- member_at, of [map; the first tie; the token of κ; nothing; path; the token of κp]
    let G₅ = triple_of 𝓛 g₅.signature (g₅.spec 𝓛 𝓜.mem 𝓡.returns) in
    let z₅ : G₅.Ghost = (((κ, (κp, tt)), (q, (qp, tt)), tt, (map, (path, (k, tt))), (mut_vals map, (shr_slice_vals path, (uint_vals w64 k, tt)))), tt) in
    move ! (4 ∷ []) $ use1 𝓛 (Path ⊛ Path) ((shr_slice_copy 𝓛 (named 1) κp S the_row_laws.shr_laws).twice path (shr_slice_vals path)) $ split ! $ move ! (0 ∷ 2 ∷ 4 ∷ 6 ∷ []) $
    nothing ! $ owned ! usize _ (uint_Makes 𝓛 w64) k _ (refl, are.1.1.0.1) $ join ! $ move ! (1 ∷ 0 ∷ []) $ join ! $ move ! (1 ∷ 0 ∷ []) $ join ! $ move ! (2 ∷ 5 ∷ []) $ join ! $ move ! (2 ∷ 0 ∷ []) $ join ! $ join ! $
    use0 𝓛 (raw (fact 𝓤 ((0 < k) × (k ≤ length path.now) × IsSome (lookup (is_entry text) map.now.entries)))) (fact_i 𝓤 _ (emp 𝓤) ((positive k some_left).0, given.0, member_there value.now map.now text way held there)) $
    move ! (1 ∷ 0 ∷ []) $ use2 𝓛 (raw (G₅.pre z₅)) (id⊢ 𝓤 _) $
    calls_at ! (framed 𝓤 𝓛.H 𝓜 𝓣) G₅ (met₅ 𝓤 𝓛 𝓜 𝓡 (code.calls-jsonpath_base::lending::member_at 𝓡.env wired)) z₅ (and_then ! (get ! refl) (and_then ! (get ! refl) (and_then ! (get ! refl) (no_more !)))) (λ v₂.
    use1 𝓛 (later (some (λ (r : MutBor R.Denot). ((‵ (flft κ q) ⊛ ‵ (flft κp qp) ⊛ ‵ ftrue) ⊛ ‵ ((MutRef (named 0) κ R).own_val r (v₂ ∷ []))) ⊛
    some (λ (ws : Lasts g₅.ended z₅.0.0 z₅.0.3). ‵ (lasts g₅.ended z₅.0.0 z₅.0.3 ws) ⊛ ‵ (LendsMember text map (Some r)) ⊛ raw (fact 𝓤 (Some r.now ≡ lookup (is_entry text) map.now.entries)))))) (id⊢ 𝓤 _) $
    await ! tt $ pick ! (λ item. split ! $ split ! $ split ! $ move ! (1 ∷ []) $ split ! $ move ! (4 ∷ []) $ pick ! (λ ws₂. split ! $ drop ! $ split ! $ move ! (1 ∷ []) $ heard ! _ (λ item_is.
    -- [the second tie; the token of κp; nothing; the token of κ; member; path; the first tie]
    move ! (4 ∷ []) $ peeks ! (MutRef (named 0) κ R) _ (shows 𝓛 (MutRef (named 0) κ R)) item (v₂ ∷ []) (λ at₂.
    rewrite ! 0 (λ vs. ‵ ((MutRef (named 0) κ R).own_val item vs)) at₂.0 refl $ lands_as ! (ap only at₂.0) refl (tt, tt) $
    sets ! (addr ! (through ! refl (stop !))) refl (tt, tt) $
    let less : j < t = omega (arith, (positive k some_left).0, e) in let small : j < 2 ^ 64 = omega (arith, are.1.1.0.1) in
    sets ! (bin ! (get ! refl) (lit ! tt) (omega (arith, (positive k some_left).0))) refl (tt, record { fits = small }) $
    let below = at_member value.now map.now text way item.now held item_is in
    -- place_mut, of [member; the second tie; the token of κp; nothing; the token of κ; path; the first tie]
    let G₃ = triple_of 𝓛 f.signature (f.spec 𝓛 𝓜.mem 𝓡.returns) in
    let z₃ : G₃.Ghost = ((y.0.0, y.0.1, y.0.2, (item, (path, (j, tt))), (mut_vals item, (shr_slice_vals path, (uint_vals w64 j, tt)))), tt) in
    nothing ! $ owned ! usize _ (uint_Makes 𝓛 w64) j _ (refl, small) $ join ! $ move ! (6 ∷ 0 ∷ []) $ join ! $ move ! (1 ∷ 0 ∷ []) $ join ! $ move ! (2 ∷ 3 ∷ []) $ join ! $ move ! (3 ∷ 0 ∷ []) $ join ! $ join ! $
    use0 𝓛 (raw (fact 𝓤 ((j ≤ length path.now) × IsSome (at way (value_tree item.now))))) (fact_i 𝓤 _ (emp 𝓤) (omega (arith, given.0), ap is_some (sym below) ∙ there)) $
    move ! (1 ∷ 0 ∷ []) $ use2 𝓛 (raw (G₃.pre z₃)) (id⊢ 𝓤 _) $
    calls_from ! (framed 𝓤 𝓛.H 𝓜 𝓣) (raw (G₃.pre z₃)) (G₃.args z₃) (G₃.post z₃) (smaller j less z₃ refl) (and_then ! (get ! refl) (and_then ! (get ! refl) (and_then ! (get ! refl) (no_more !)))) (λ v₃.
    let P₃ = λ (w n : R.Denot). value_tree n ≡ put way (value_tree w) (value_tree item.now) in
    use1 𝓛 (later (some (λ (r : MutBor R.Denot). ((‵ (flft κ q) ⊛ ‵ (flft κp qp) ⊛ ‵ ftrue) ⊛ ‵ ((MutRef (named 0) κ R).own_val r (v₃ ∷ []))) ⊛
    some (λ (ws : Unit {0} × (Unit {0} × (Unit {0} × Unit {0}))). ‵ (lasts f.ended z₃.0.0 z₃.0.3 ws) ⊛ ‵ (follows_so R R item.ghost_name (maybe.some r.ghost_name) P₃ (λ n. ⊤)) ⊛ (raw (fact 𝓤 (Some (value_tree r.now) ≡ at way (value_tree item.now))) ⊛ raw (fact 𝓤 (IsTrue (value_is_whole item.now) → IsTrue (value_is_whole r.now)))))))) (id⊢ 𝓤 _) $
    await ! tt $ pick ! (λ last. split ! $ split ! $ split ! $ move ! (1 ∷ []) $ split ! $ move ! (4 ∷ []) $ pick ! (λ ws₃. split ! $ drop ! $ split ! $ move ! (1 ∷ []) $ split ! $ heard ! _ (λ last_is. heard ! _ (λ last_whole.
    -- [the third tie; the token of κp; nothing; the token of κ; the result; the second tie; the first tie]
    move ! (4 ∷ []) $ peeks ! (MutRef (named 0) κ R) _ (shows 𝓛 (MutRef (named 0) κ R)) last (v₃ ∷ []) (λ at₃.
    rewrite ! 0 (λ vs. ‵ ((MutRef (named 0) κ R).own_val last vs)) at₃.0 refl $ lands_as ! (ap only at₃.0) refl (tt, tt) $
    returns ! (look_at ! 0 refl) $ free_all ! refl $ move ! (6 ∷ 5 ∷ 1 ∷ []) $
    use3 𝓛 (‵ (So last)) (so_so 𝓛 R K value.ghost_name map.ghost_name item.ghost_name last.ghost_name Object (λ w n. value_tree n ≡ put (rest path.now k) (value_tree w) (value_tree value.now))
    (λ w n. OnSome (Some item) (n.entries ≡ set_value (is_entry text) map.now.entries w)) (λ n. n ≡ map.now) P₃ value.now
    (λ w n m is written. put_member value.now map.now m text way item.now n (value_tree w) held (sym item_is) written is ∙ ap (λ s. put s (value_tree w) (value_tree value.now)) (sym steps_are))) $
    keep ! (1 ∷ 4 ∷ 2 ∷ 0 ∷ []) $ out last (last_is ∙ sym below ∙ ap (λ s. at s (value_tree value.now)) (sym steps_are)) (λ h. last_whole (member_whole value.now map.now text item.now held item_is h)))))))))))))))))))))))))))))))
