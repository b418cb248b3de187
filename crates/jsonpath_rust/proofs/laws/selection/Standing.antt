-- Where a walk stands, and how it comes back, one call after another.
use Rattle.std.proofs.Common.{◌≡◌, List, [], refl, ◌∙◌, Bool, Result, Ok, Err, IfErr, OnOk}
use Rattle.jsonpath_base.specs.Prelude.Documents.{Argument, AsksPattern, IsErrAnd}
use Rattle.jsonpath_rust.specs.Prelude.Documents.{Ghosts, WalkError, StepRef, WholeRef}
use Rattle.jsonpath_rust.specs.Prelude.Selection.{Cache, EndsProperly, document, IsWalkError, IsCacheCorrect, Returns, IsPositioned, WalkContext, WalkState}
use Rattle.std.specs.declared.fmt.Debug as debug
use Rattle.jsonpath_rust.proofs.laws.selection.HaltingLaws.{asked_none, halts_as}
use Rattle.jsonpath_rust.proofs.laws.selection.Leading.{leads_as}

-- with the same steps in other words
pub stands_as : {A : Type 0} {R : Ghosts A} {D : debug.Ghosts A} {context : WalkContext A R D} {x : WholeRef A R D} {p q : List StepRef} {cache : Cache A R D} → q ≡ p → IsPositioned context x p cache → IsPositioned context x q cache
stands_as {p = p} {q = q} e s = record { position = leads_as q p _ _ e s.position; ready = s.ready }

-- where it stood before a call that came back
pub still : {A : Type 0} {R : Ghosts A} {D : debug.Ghosts A} {context : WalkContext A R D} {x : WholeRef A R D} {old new : WalkState A R D} → IsPositioned context x old.current_path.steps.items old.cache → Returns context old new → IsPositioned context x new.current_path.steps.items new.cache
still s r = record { position = leads_as _ _ _ _ r.same s.position; ready = r.ready }

-- nothing was done
pub stays : {A : Type 0} {R : Ghosts A} {D : debug.Ghosts A} {context : WalkContext A R D} {state : WalkState A R D} → IsCacheCorrect context state.cache → Returns context state state
stays h = record { same = refl; ready = h }

-- one call, then another
pub on : {A : Type 0} {R : Ghosts A} {D : debug.Ghosts A} {context : WalkContext A R D} {old mid new : WalkState A R D} → Returns context old mid → Returns context mid new → Returns context old new
on r k = record { same = k.same ∙ r.same; ready = k.ready }

on_ok : {A B E : Type 0} {R : Ghosts A} {D : debug.Ghosts A} {context : WalkContext A R D} {old mid : WalkState A R D} (new : WalkState A R D) (result : Result B E) → Returns context old mid → OnOk result (Returns context mid new) → OnOk result (Returns context old new)
on_ok new (Ok b) r k = on r k
on_ok new (Err e) r k = tt

-- a call that asks more
pub comes_as : {A B : Type 0} {R : Ghosts A} {D : debug.Ghosts A} {context : WalkContext A R D} {old new : WalkState A R D} {xs ys : List (Bool × Argument)} (result : Result B WalkError) → EndsProperly context old new xs result → (AsksPattern xs (document context) → AsksPattern ys (document context)) → EndsProperly context old new ys result
comes_as {context = context} result k f = record { back = k.back; ready = k.ready; halts = halts_as context.limit result k.halts f }

-- one call, then another, which ends it
pub comes_on : {A B : Type 0} {R : Ghosts A} {D : debug.Ghosts A} {context : WalkContext A R D} {old mid new : WalkState A R D} {xs ys : List (Bool × Argument)} (result : Result B WalkError) → Returns context old mid → EndsProperly context mid new xs result → (AsksPattern xs (document context) → AsksPattern ys (document context)) → EndsProperly context old new ys result
comes_on {context = context} {new = new} result r k f = record { back = on_ok new result r k.back; ready = k.ready; halts = halts_as context.limit result k.halts f }

-- a call that ends it, from where another one stood
pub comes_after : {A B : Type 0} {R : Ghosts A} {D : debug.Ghosts A} {context : WalkContext A R D} {old mid new : WalkState A R D} {xs ys : List (Bool × Argument)} (result : Result B WalkError) → EndsProperly context mid new xs result → mid.current_path.steps.items ≡ old.current_path.steps.items → IsCacheCorrect context mid.cache → (AsksPattern xs (document context) → AsksPattern ys (document context)) → EndsProperly context old new ys result
comes_after result k e h f = comes_on result (record { same = e; ready = h }) k f

-- an error that a `?` passes on
pub comes_err : {A C : Type 0} {R : Ghosts A} {D : debug.Ghosts A} {context : WalkContext A R D} {old new : WalkState A R D} {ys : List (Bool × Argument)} (result : Result C WalkError) (Q : WalkError → Type 0) → IsErrAnd result Q → IsCacheCorrect context new.cache → ((y : WalkError) → Q y → IsWalkError context.limit ys (document context) y) → EndsProperly context old new ys result
comes_err (Ok v) Q is r f = absurd is
comes_err (Err y) Q is r f = record { back = tt; ready = r; halts = f y is }

-- a halt that a `?` passes on
pub comes_halt : {A C : Type 0} {R : Ghosts A} {D : debug.Ghosts A} {context : WalkContext A R D} {old new : WalkState A R D} {xs ys : List (Bool × Argument)} (result : Result C WalkError) (e : WalkError) → IsErrAnd result (λ y. y ≡ e) → IsCacheCorrect context new.cache → IsWalkError context.limit xs (document context) e → (AsksPattern xs (document context) → AsksPattern ys (document context)) → EndsProperly context old new ys result
comes_halt result e is r h f = comes_err result _ is r (λ y same memory spent. f (h (λ m. memory (same ∙ m)) (λ s. spent (same ∙ s.0, s.1))))

-- that of a call of the walk
pub comes_so : {A B C : Type 0} {R : Ghosts A} {D : debug.Ghosts A} {context : WalkContext A R D} {old mid new : WalkState A R D} {xs ys : List (Bool × Argument)} (result : Result C WalkError) (e : WalkError) → IsErrAnd result (λ y. y ≡ e) → EndsProperly {B = B} context mid new xs (Err e) → (AsksPattern xs (document context) → AsksPattern ys (document context)) → EndsProperly context old new ys result
comes_so result e is k f = comes_halt result e is k.ready k.halts f

-- what only pays
pub comes_paid : {A C : Type 0} {R : Ghosts A} {D : debug.Ghosts A} {context : WalkContext A R D} {old new : WalkState A R D} {ys : List (Bool × Argument)} (result : Result C WalkError) → Returns context old new → IfErr result (IsWalkError context.limit [] (document context)) → EndsProperly context old new ys result
comes_paid (Ok v) r h = record { back = r; ready = tt; halts = tt }
comes_paid (Err e) r h = record { back = tt; ready = r.ready; halts = λ memory spent. asked_none _ (h memory spent) }
