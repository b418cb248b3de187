-- What the answers of the walk name at every turn.
use Rattle.std.proofs.Common.{ℕ, List}
use Rattle.std.specs.declared.fmt.Debug as debug
use Rattle.jsonpath_base.specs.Prelude.Documents.{Document, Node, size}
use Rattle.jsonpath_rust.specs.Prelude.Documents.{Ghosts, tree_of, WholeRef}
use Rattle.jsonpath_rust.specs.Prelude.Selection.{Constants, document, constants_of, node_at, segments_meant, WalkContext, selected_from, WalkState}
use Rattle.jsonpath_rust.specs.declared.selection.walk.Continuation.{Continuation}

-- the constants of the plan, the document and its size, and the node of the value at hand
pub record Hand : Type 0 where
  pub constants : Constants
  pub d : Document
  pub big : ℕ
  pub n : Node

-- the same, and what the segments that are left make of a node
pub record HandOn : Type 0 where
  pub constants : Constants
  pub d : Document
  pub n : Node
  pub rest : Node → List Node

abbrev pub hand : {A : Type 0} {R : Ghosts A} {D : debug.Ghosts A} → WalkContext A R D → WalkState A R D → WholeRef A R D → Hand
hand context state x = record { constants = constants_of context; d = document context; big = size (tree_of context.root); n = node_at state x }

abbrev pub hand_on : {A N : Type 0} {R : Ghosts A} {D : debug.Ghosts A} → WalkContext A R D → WalkState A R D → WholeRef A R D → Continuation N → HandOn
hand_on context state x continuation = record { constants = constants_of context; d = document context; n = node_at state x; rest = selected_from (segments_meant (constants_of context) continuation.rest.now) (document context) }
