-- What is demanded of a query inside a filter, for the contracts of the walk alone: the definitions here are no part of what a query means.
use Rattle.std.specs.Prelude.{◌≡◌, ◌-◌, ℕ, nat_lt, List, [], map, Option, None, Some, option_to_list}
use Rattle.std.specs.declared.fmt.Debug as debug
use Rattle.jsonpath_base.specs.Tree.{Tree, truth}
use Rattle.jsonpath_base.specs.documents.Document.{Document}
use Rattle.jsonpath_base.specs.documents.Functions.{Evaluated, of_nodes, of_value, as_value, as_nodes, as_trees, as_truth, count_of, count_value}
use Rattle.jsonpath_base.specs.documents.Meaning.{argued}
use Rattle.jsonpath_base.specs.documents.Node.{Node}
use Rattle.jsonpath_rust.specs.documents.inner.FilterValues.{filter_value_tree}
use Rattle.jsonpath_rust.specs.selection.inner.PlanViews.{Constants, expr_view}
use Rattle.jsonpath_rust.specs.selection.inner.Sinks.{Seen, counted, one}
use Rattle.jsonpath_rust.specs.selection.inner.Sinks as sinks
use Rattle.jsonpath_base.specs.declared.documents.queryable.Queryable.{Ghosts}
use Rattle.jsonpath_rust.specs.declared.selection.constants.CachedResult.{CachedResult}
use Rattle.jsonpath_rust.specs.declared.selection.constants.CachedResult.TheVariants as cached
use Rattle.jsonpath_rust.specs.declared.selection.plan.Expr.{Expr}
use Rattle.jsonpath_rust.specs.declared.selection.sink.Demand.{Demand}
use Rattle.jsonpath_rust.specs.declared.selection.sink.Demand.TheVariants as demand

-- what is demanded, as a value: whether there is a node, how many there are, or the value of the only one
abbrev pub demand_of : Demand → Evaluated → Option Tree
demand_of demand.Exists e = Some (truth (as_truth e))
demand_of demand.Count e = count_of (as_nodes e)
demand_of demand.Single e = as_value e
demand_of demand.Values e = None

-- the same for any expression: an expression that is no query has its value, whatever the demand
abbrev pub demanded_value : Demand → Evaluated → Option Tree
demanded_value demand.Single e = as_value e
demanded_value w (of_value o) = o
demanded_value w (of_nodes ns) = demand_of w (of_nodes ns)

-- a result: a value, if there is one; or values; or none, because a pattern is too large
pub data ResultView : Type 0 where
  value : Option Tree → ResultView
  values : List Tree → ResultView
  refused : ResultView

abbrev pub result_view : {A : Type 0} {R : Ghosts A} {D : debug.Ghosts A} → CachedResult A R D → ResultView
result_view (cached.Value o) = value (filter_value_tree o)
result_view {R = R} (cached.Values vs) = values (map (λ v. R.tree v.now) vs.list.items)
result_view cached.Refused = refused

-- the result of a query: what is demanded, or all values
abbrev pub result_for : Demand → Evaluated → ResultView
result_for demand.Values e = values (as_trees e)
result_for w e = value (demand_of w e)

-- what is demanded of a number of nodes: this number, or whether there is one
abbrev pub told_of : Demand → ℕ → Tree
told_of demand.Exists k = truth (nat_lt 0 k)
told_of _ k = count_value k

-- the result of a sink for a demand
abbrev pub finished : Demand → Seen → ResultView
finished w (counted room most) = value (Some (told_of w (most - room)))
finished w (one t) = value (Some t)
finished w (sinks.values ts) = values ts
finished w _ = value None

-- the value, if the result has one
abbrev pub given_value : Option ResultView → Option Tree
given_value (Some (value t)) = t
given_value _ = None

-- the values of the result
abbrev pub trees_in : ResultView → List Tree
trees_in (value o) = option_to_list o
trees_in (values ts) = ts
trees_in refused = []

-- The expression is a query for this demand, and no value; or the other way round.
abbrev pub IsQuery : Constants → Expr → Demand → Type 0
IsQuery constants p w = (d : Document) (n : Node) → argued (expr_view constants p w) d n ≡ of_nodes (as_nodes (argued (expr_view constants p w) d n))

abbrev pub IsValue : Constants → Expr → Demand → Type 0
IsValue constants p w = (d : Document) (n : Node) → argued (expr_view constants p w) d n ≡ of_value (as_value (argued (expr_view constants p w) d n))

-- The expression has one value at most, which is the same for the demands `Values` and `Single`.
pub record IsOne (constants : Constants) (p : Expr) : Type 0 where
  pub same : expr_view constants p demand.Values ≡ expr_view constants p demand.Single
  pub alone : (d : Document) (n : Node) → as_trees (argued (expr_view constants p demand.Single) d n) ≡ option_to_list (as_value (argued (expr_view constants p demand.Single) d n))
