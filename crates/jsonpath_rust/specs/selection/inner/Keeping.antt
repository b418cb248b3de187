-- What one call of the evaluator caches, for the contracts of the walk alone: the definitions here are no part of what a query means.
use Rattle.std.specs.Prelude.{◌≡◌, ℕ, List, map, length, get_or, Bool, Option, None, Some, option_map, All}
use Rattle.std.specs.declared.fmt.Debug as debug
use Rattle.jsonpath_parser.specs.tree.Syntax.{Argument}
use Rattle.jsonpath_base.specs.Tree.{truth}
use Rattle.jsonpath_base.specs.documents.Document.{Document}
use Rattle.jsonpath_base.specs.documents.Functions.{of_nodes}
use Rattle.jsonpath_base.specs.documents.Meaning.{nodelist, holds, answer}
use Rattle.jsonpath_base.specs.documents.Node.{root_node}
use Rattle.jsonpath_base.specs.documents.Patterns.{AsksPattern, segments_patterns, filter_patterns, call_patterns}
use Rattle.jsonpath_rust.specs.documents.Whole.{document_at}
use Rattle.jsonpath_rust.specs.selection.inner.PlanViews.{Constants, ConstantPart, constants_view, part_at}
use Rattle.jsonpath_rust.specs.selection.inner.PlanViews as plan
use Rattle.jsonpath_rust.specs.selection.inner.Wanting.{ResultView, value, values, refused, result_view, result_for}
use Rattle.jsonpath_base.specs.declared.documents.queryable.Queryable.{Ghosts}
use Rattle.jsonpath_rust.specs.declared.selection.constants.Cache.{Cache}
use Rattle.jsonpath_rust.specs.declared.selection.constants.CachedResult.{CachedResult}
use Rattle.jsonpath_rust.specs.declared.selection.walk.WalkContext.{WalkContext}

-- the document of the walk, as the meaning of a query takes it
abbrev pub document : {A : Type 0} {R : Ghosts A} {D : debug.Ghosts A} → WalkContext A R D → Document
document context = document_at context.root

abbrev pub constants_of : {A : Type 0} {R : Ghosts A} {D : debug.Ghosts A} → WalkContext A R D → Constants
constants_of context = constants_view context.plan.now.constants.items

-- the result of a part of the query without `@`
abbrev pub result_of : ConstantPart → Document → ResultView
result_of (plan.nodes w q) doc = result_for w (of_nodes (nodelist q doc))
result_of (plan.call_result c) doc = value (answer c doc (root_node doc.root))
result_of (plan.compared f) doc = value (Some (truth (holds f doc (root_node doc.root))))

-- the patterns in a part of the query without `@`
abbrev pub part_patterns : ConstantPart → List (Bool × Argument)
part_patterns (plan.nodes w q) = segments_patterns q
part_patterns (plan.call_result c) = call_patterns c
part_patterns (plan.compared f) = filter_patterns f

-- the cached result is that of the part; where it is refused, the part asks a pattern
abbrev pub IsGiven : ResultView → ConstantPart → Document → Type 0
IsGiven (value t) p doc = value t ≡ result_of p doc
IsGiven (values ts) p doc = values ts ≡ result_of p doc
IsGiven refused p doc = AsksPattern (part_patterns p) doc

abbrev pub slots_of : {A : Type 0} {R : Ghosts A} {D : debug.Ghosts A} → Cache A R D → List (Option (CachedResult A R D))
slots_of cache = cache.slots.items

-- the result that is cached under a number
abbrev pub slot_at : {A : Type 0} {R : Ghosts A} {D : debug.Ghosts A} → List (Option (CachedResult A R D)) → ℕ → Option ResultView
slot_at slots n = get_or (map (option_map result_view) slots) n None

abbrev pub AreEmpty : {A : Type 0} {R : Ghosts A} {D : debug.Ghosts A} → List (Option (CachedResult A R D)) → Type 0
AreEmpty slots = All (λ o. o ≡ None) slots

-- there is a slot for each constant, and the cached results are correct
pub record IsCacheOf {A : Type 0} {R : Ghosts A} {D : debug.Ghosts A} (constants : Constants) (doc : Document) (cache : Cache A R D) : Type 0 where
  pub room : length (slots_of cache) ≡ length constants
  pub right : (n : ℕ) (s : ResultView) → slot_at (slots_of cache) n ≡ Some s → IsGiven s (part_at constants n) doc

-- the cached results are correct
abbrev pub IsCacheCorrect : {A : Type 0} {R : Ghosts A} {D : debug.Ghosts A} → WalkContext A R D → Cache A R D → Type 0
IsCacheCorrect context cache = IsCacheOf (constants_of context) (document context) cache
