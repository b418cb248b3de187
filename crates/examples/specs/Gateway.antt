-- Which queries a gateway admits.
use Rattle.std.specs.Prelude.{◌≡◌, ℕ, List, IsTrue, None}
use Rattle.std.specs.Borrow.{Bor}
use Rattle.jsonpath_rust.specs.ConstantPrefix.{constant_prefix}
use Rattle.jsonpath_rust.specs.Location.{Location, Begins}
use Rattle.jsonpath_rust.specs.Reach.{is_local, is_one_of, first_other}
use Rattle.jsonpath_rust.specs.Syntax.{Query}

-- Its fixed part lies in the part of a document at this location, no filter in it has a `$`, and each custom call is of one of the functions.
pub record IsAdmissible (part : Location) (functions : List (Bor (List ℕ))) (q : Query) : Type 0 where
  pub inside : Begins part (constant_prefix q)
  pub local : IsTrue (is_local q)
  pub known : first_other (is_one_of functions) q ≡ None
