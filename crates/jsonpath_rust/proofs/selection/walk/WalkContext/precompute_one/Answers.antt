use Rattle.jsonpath_rust.proofs.selection.walk.WalkContext.precompute_one.Goals as goal

pub ensure_cached-requires : goal.ensure_cached-requires
ensure_cached-requires g c = c.requires
