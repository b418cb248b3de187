-- A value whose numbers are all integers, as a tree and as a document.
use Rattle.std.specs.declared.fmt.Debug as debug
use Rattle.jsonpath_base.specs.Tree.{Tree}
use Rattle.jsonpath_base.specs.documents.Document.{Document, document_of}
use Rattle.jsonpath_base.specs.declared.documents.queryable.Queryable.{Ghosts}
use Rattle.jsonpath_rust.specs.declared.documents.whole.Whole.{Whole}
use Rattle.jsonpath_rust.specs.declared.documents.whole.WholeRef.{WholeRef}

-- its tree
abbrev pub tree_of : {A : Type 0} {R : Ghosts A} {D : debug.Ghosts A} → WholeRef A R D → Tree
tree_of {R = R} w = R.tree w.value.now

abbrev pub own_tree : {A : Type 0} {R : Ghosts A} {D : debug.Ghosts A} → Whole A R D → Tree
own_tree {R = R} w = R.tree w.value

-- the document that it is
abbrev pub document_at : {A : Type 0} {R : Ghosts A} {D : debug.Ghosts A} → WholeRef A R D → Document
document_at {R = R} w = document_of R.tree R.custom w.value.now
