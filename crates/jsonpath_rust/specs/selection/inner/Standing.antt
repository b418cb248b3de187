-- Where a walk is and how it returns, for the contracts of the walk alone: the definitions here are no part of what a query means.
use Rattle.std.specs.Prelude.{◌≡◌, List, map, Bool, Some, IsTrue, All, Result, IfErr, OnOk, OnErr}
use Rattle.std.specs.declared.fmt.Debug as debug
use Rattle.jsonpath_parser.specs.tree.Syntax.{Argument}
use Rattle.jsonpath_base.specs.Tree.{as_members}
use Rattle.jsonpath_rust.specs.selection.inner.Halting.{IsWalkError}
use Rattle.jsonpath_rust.specs.selection.inner.Keeping.{IsCacheCorrect, document}
use Rattle.jsonpath_rust.specs.documents.Whole.{tree_of}
use Rattle.jsonpath_rust.specs.selection.inner.Walking.{LeadTo}
use Rattle.jsonpath_base.specs.declared.documents.walk_error.WalkError.{WalkError}
use Rattle.jsonpath_base.specs.declared.documents.queryable.Queryable.{Ghosts}
use Rattle.jsonpath_rust.specs.declared.documents.whole.WholeRef.{WholeRef}
use Rattle.jsonpath_rust.specs.declared.selection.constants.Cache.{Cache}
use Rattle.jsonpath_rust.specs.declared.selection.walk.Members.{Members}
use Rattle.jsonpath_rust.specs.declared.selection.walk.WalkState.{WalkState}
use Rattle.jsonpath_rust.specs.declared.selection.walk.WalkContext.{WalkContext}
use Rattle.jsonpath_base.specs.declared.step.StepRef.{StepRef}

-- The walk is at a value to which these steps lead, and the cache is correct.
pub record IsPositioned {A : Type 0} {R : Ghosts A} {D : debug.Ghosts A} (context : WalkContext A R D) (x : WholeRef A R D) (steps : List StepRef) (cache : Cache A R D) : Type 0 where
  pub position : LeadTo steps context.root x
  pub ready : IsCacheCorrect context cache

-- The current path is as it was, and the cache is correct.
pub record Returns {A : Type 0} {R : Ghosts A} {D : debug.Ghosts A} (context : WalkContext A R D) (old new : WalkState A R D) : Type 0 where
  pub same : new.current_path.steps.items ≡ old.current_path.steps.items
  pub ready : IsCacheCorrect context new.cache

-- How a call ends: if it goes on, with the same current path; if it ends with an error, with a correct cache, and one of these patterns is asked, or
-- memory or the units ran out.
pub record EndsProperly {A B : Type 0} {R : Ghosts A} {D : debug.Ghosts A} (context : WalkContext A R D) (old new : WalkState A R D) (patterns : List (Bool × Argument)) (result : Result B WalkError) : Type 0 where
  pub back : OnOk result (Returns context old new)
  pub ready : OnErr result (IsCacheCorrect context new.cache)
  pub halts : IfErr result (IsWalkError context.limit patterns (document context))

-- the list holds the members of the object
pub record AreMembers {A : Type 0} {R : Ghosts A} {D : debug.Ghosts A} (members : Members A R D) : Type 0 where
  pub list : Some (map (λ m. (m.0.now, R.tree m.1.now)) members.list.now) ≡ as_members (tree_of members.of)
  pub whole : All (λ m. IsTrue (R.is_whole m.1.now)) members.list.now
