use Rattle.std.proofs.Common.{◌≡◌, take, string_bytes}
use Rattle.std.specs.List.{flat_map}
use Rattle.jpath.specs.Document.{json_tree}
use Rattle.jsonpath_rust.specs.documents.Answer.{shown}
use Rattle.jpath.specs.Json.{json_text}
use Rattle.jpath.specs.Output.{line}
use Rattle.jpath.proofs.output.nodes_text.Given as goal

-- the lines of the first nodes
abbrev pub invariant-loop-node : goal.invariant-loop-node
invariant-loop-node l = string_bytes l.text ≡ flat_map (λ n. line l.listing n.0 (json_text n.1)) (shown json_tree (take l.node-index l.nodes))
