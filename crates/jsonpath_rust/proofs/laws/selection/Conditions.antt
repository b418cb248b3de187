-- The query of an expression, and the expression of a query.
use Rattle.std.proofs.Common.{◌≡◌, nat_eq, List, [], ◌∷◌, map, length, Bool, true, false, Some, None, Result, Ok, Err, IfOk, IfErr, is_some, unwrap_or, sym, ap, ◌∙◌, subst}
use Rattle.jsonpath_base.specs.Prelude.Documents.{AsksPattern, Document, Filter, filter_patterns, holds, no_filters, Node, or, Query, Segment, segments_of, segments_patterns}
use Rattle.jsonpath_rust.specs.Prelude.Documents.{WalkError}
use Rattle.jsonpath_rust.specs.Prelude.Selection.{expression_of, filter_of, filter_query, IsWalkError, WorkLimit}
use Rattle.jsonpath_rust.proofs.laws.selection.HaltingLaws.{asked_left, halts_as}

-- the expression of its query is itself
pub expression_back : (f : Filter) (q : Query) → q ≡ filter_query f → expression_of q ≡ f
expression_back f q e = ap expression_of e

-- no query of an expression is one of none
pub never_none : (f : Filter) (q : Query) → q ≡ filter_query f → is_some (filter_of q) ≡ false → ⊥
never_none f q e h = let both : true ≡ false = ap (λ x. is_some (filter_of x)) (sym e) ∙ h in absurd cc

-- what an expression asks, its query asks
pub filter_asks : {d : Document} (f : Filter) → AsksPattern (filter_patterns f) d → AsksPattern (segments_patterns (filter_query f)) d
filter_asks f h = asked_left (filter_patterns f) [] h

-- of several segments none is the filter alone
pub none_of_more : {X : Type 0} (view : X → Segment) (xs rest : List X) (x : X) → xs ≡ x ∷ rest → nat_eq (length rest) 0 ≡ false → None ≡ filter_of (segments_of (map view xs))
none_of_more view xs [] x e h = absurd cc
none_of_more view xs (y ∷ ys) x e h = ap (λ zs. filter_of (segments_of (map view zs))) (sym e)

-- what the filter that was found means, the expression means
pub found_expression : (f : Filter) (q : Query) → Some f ≡ filter_of q → expression_of q ≡ f
found_expression f q e = ap (λ o. unwrap_or o (or no_filters)) (sym e)

pub none_holds : (q : Query) (d : Document) (n : Node) → None ≡ filter_of q → false ≡ holds (expression_of q) d n
none_holds q d n e = ap (λ o. holds (unwrap_or o (or no_filters)) d n) e

-- a result about a filter is one about the expression
pub held_as : {E : Type 0} (f : Filter) (q : Query) (d : Document) (n m : Node) (r : Result Bool E) → Some f ≡ filter_of q → n ≡ m → IfOk r (λ b. b ≡ holds f d n) → IfOk r (λ b. b ≡ holds (expression_of q) d m)
held_as f q d n m (Ok b) e k h = h ∙ ap (λ x. holds f d x) k ∙ ap (λ g. holds g d m) (sym (found_expression f q e))
held_as f q d n m (Err x) e k h = tt

pub refused_as : {A : Type 0} (limit : WorkLimit) (f : Filter) (q : Query) (d : Document) (r : Result A WalkError) → Some f ≡ filter_of q → IfErr r (IsWalkError limit (filter_patterns f) d) → IfErr r (IsWalkError limit (segments_patterns (filter_query (expression_of q))) d)
refused_as limit f q d r e h = halts_as limit r h (λ k. subst (λ g. AsksPattern (segments_patterns (filter_query g)) d) (sym (found_expression f q e)) (filter_asks f k))
