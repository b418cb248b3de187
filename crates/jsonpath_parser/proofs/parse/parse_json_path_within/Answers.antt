use Rattle.jsonpath_parser.specs.Prelude.{steps_query}
use Rattle.jsonpath_parser.proofs.NormalQueries.{normal_derives}
use Rattle.jsonpath_parser.proofs.Whole.{read_derives, read_only, read_one, refused_only}
use Rattle.jsonpath_parser.proofs.parse.parse_json_path_within.Goals as goal

pub returns-in-Ok-clause-derived : goal.returns-in-Ok-clause-derived
returns-in-Ok-clause-derived c = read_derives _ _ _ c.in-Ok.ensures.within c.in-Ok.ensures.read

pub returns-in-Ok-clause-complete : goal.returns-in-Ok-clause-complete
returns-in-Ok-clause-complete c t h = read_only _ _ _ t c.in-Ok.ensures.read h

pub returns-in-Ok-clause-one_tree : goal.returns-in-Ok-clause-one_tree
returns-in-Ok-clause-one_tree c t h = read_one _ _ t c.in-Ok.ensures.read h

pub returns-in-Ok-clause-normal : goal.returns-in-Ok-clause-normal
returns-in-Ok-clause-normal c l is small deep = read_only _ _ _ (steps_query l) c.in-Ok.ensures.read (normal_derives _ l _ is small deep)

pub returns-in-Err-clause-normal : goal.returns-in-Err-clause-normal
returns-in-Err-clause-normal c l is small deep = refused_only _ _ _ (steps_query l) c.in-Err.ensures.refused (normal_derives _ l _ is small deep)
