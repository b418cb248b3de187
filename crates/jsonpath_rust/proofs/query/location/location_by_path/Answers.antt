use Rattle.std.proofs.Common.{option_map}
use Rattle.jsonpath_base.specs.Prelude.Documents.{location_view, query_view}
use Rattle.jsonpath_base.proofs.lemmas.documents.{only_location, own_location}
use Rattle.jsonpath_rust.proofs.query.location.location_by_path.Goals as goal

pub returns-clause-complete : goal.returns-clause-complete
returns-clause-complete c t derived =
    only_location (λ o. option_map (λ v. location_view v.items) o) (query_view c.in_ok-query.query) t c.location_of-location.result (c.in_ok-query.ensures.complete t derived) c.location_of-location.ensures.location c.location_of-location.ensures.memory

pub returns-clause-normal : goal.returns-clause-normal
returns-clause-normal c l is small =
    own_location (λ o. option_map (λ v. location_view v.items) o) (query_view c.in_ok-query.query) l c.location_of-location.result (c.in_ok-query.ensures.normal l is small) c.location_of-location.ensures.location c.location_of-location.ensures.memory
