use Rattle.std.proofs.Common.{◌≡◌, List, Vec, Global, map, IsTrue, IfSome, sym, ap, ◌∙◌, subst}
use Rattle.std.proofs.lemmas.Bool.{and_parts}
use Rattle.serde_json.specs.View.{view}
use Rattle.jsonpath_rust.specs.Masking as masking
use Rattle.jsonpath_rust.specs.Masking.{AgreeBut}
use Rattle.jsonpath_rust.specs.Overwritten.{overwritten}
use Rattle.jsonpath_rust.specs.Places.{at}
use Rattle.jsonpath_rust.specs.Tree.{has_distinct_names, null}
use Rattle.jsonpath_rust.specs.Location.{Location}
use Rattle.jsonpath_rust.specs.Meaning.{selected}
use Rattle.jsonpath_rust.specs.Without.{is_among, distinct_count}
use Rattle.jsonpath_rust.specs.base.Steps.{location_view}
use Rattle.jsonpath_rust.specs.base.Values.{has_whole_numbers, value_tree}
use Rattle.jsonpath_rust.specs.Step.{Step}
use Rattle.jsonpath_rust.specs.Document.{value_document}
use Rattle.jsonpath_rust.specs.View.{query_view}
use Rattle.examples.specs.Redaction.{all_selected}
use Rattle.examples.proofs.Redacting.{among_rules, by_views, views_have_none}
use Rattle.examples.proofs.redaction.redact.Goals as goal

pub returns-clause-redacted : goal.returns-clause-redacted
returns-clause-redacted c =
    let old = value_tree c.args.document.now.value in let u = value_tree c.args.mask.now.value in
    c.in_ok-count.ensures.replaced ∙ ap (λ (ps : List (Vec Step Global)). overwritten (is_among (map (λ p. location_view p.items) ps)) u old) c.deref.ensures.value ∙ ap (λ ks. overwritten (is_among ks) u old) c.in_ok-places.ensures.places

pub returns-clause-count : goal.returns-clause-count
returns-clause-count c = c.in_ok-count.ensures.count ∙ ap (λ (ps : List (Vec Step Global)). distinct_count (map (λ p. location_view p.items) ps)) c.deref.ensures.value ∙ ap distinct_count c.in_ok-places.ensures.places

pub returns-clause-forgotten : goal.returns-clause-forgotten
returns-clause-forgotten c other agree =
    let old = value_tree c.args.document.now.value in let u = value_tree c.args.mask.now.value in
    let set = is_among (all_selected c.args.rules.now (value_document c.args.document.now.value)) in
    let after : value_tree c.replace_all.new.self.value ≡ overwritten set u old = c.in_ok-count.ensures.replaced ∙ ap (λ (ps : List (Vec Step Global)). overwritten (is_among (map (λ p. location_view p.items) ps)) u old) c.deref.ensures.value ∙ ap (λ ks. overwritten (is_among ks) u old) c.in_ok-places.ensures.places in
    after ∙ sym (c.overwritten_forgets.ensures set u null old) ∙ ap (overwritten set u) agree ∙ c.overwritten_forgets.ensures set u null other

pub returns-clause-hidden : goal.returns-clause-hidden
returns-clause-hidden c free other agree =
    let rules = c.args.rules.now in
    let doc = value_document c.args.document.now.value in
    let old = value_tree c.args.document.now.value in let u = value_tree c.args.mask.now.value in
    let here : masking.all_selected (map query_view rules) doc ≡ all_selected rules doc = by_views rules doc in
    let after : value_tree c.replace_all.new.self.value ≡ overwritten (is_among (all_selected rules doc)) u old = c.in_ok-count.ensures.replaced ∙ ap (λ (ps : List (Vec Step Global)). overwritten (is_among (map (λ p. location_view p.items) ps)) u old) c.deref.ensures.value ∙ ap (λ ks. overwritten (is_among ks) u old) c.in_ok-places.ensures.places in
    after ∙ ap (λ ks. overwritten (is_among ks) u old) (sym here)
    ∙ c.masking_tells_nothing.ensures.all (map query_view rules) u doc other (views_have_none rules ∙ free) (subst (λ ks. AgreeBut ks old other.root) (sym here) agree)
    ∙ ap (λ ks. overwritten (is_among ks) u other.root) (by_views rules other)

pub returns-clause-named : goal.returns-clause-named
returns-clause-named c q k among is leaf l ends =
    let rules = c.args.rules.now in
    let v = c.args.document.now.value in
    let doc = value_document v in
    let u = value_tree c.args.mask.now.value in
    let after : value_tree c.replace_all.new.self.value ≡ overwritten (is_among (all_selected rules doc)) u (value_tree v) = c.in_ok-count.ensures.replaced ∙ ap (λ (ps : List (Vec Step Global)). overwritten (is_among (map (λ p. location_view p.items) ps)) u (value_tree v)) c.deref.ensures.value ∙ ap (λ ks. overwritten (is_among ks) u (value_tree v)) c.in_ok-places.ensures.places in
    let distinct = (and_parts (has_whole_numbers (view v)) (has_distinct_names (value_tree v)) c.args.document.now.whole).1 in
    let covered : (m : Location) → IsTrue (is_among (selected (masking.named_anywhere k) doc) m) → IsTrue (is_among (all_selected rules doc) m) = λ m h. among_rules rules q doc m among.0 among.1 among.2 (ap (λ g. is_among (selected g doc) m) is ∙ h) in
    subst (λ t. IfSome (at l t) (λ x. x ≡ u)) (sym after) (c.named_below.ensures.masked k doc (is_among (all_selected rules doc)) u distinct covered leaf l ends)

pub returns-clause-rest : goal.returns-clause-rest
returns-clause-rest c m apart =
    let old = value_tree c.args.document.now.value in let u = value_tree c.args.mask.now.value in
    let set = is_among (all_selected c.args.rules.now (value_document c.args.document.now.value)) in
    let after : value_tree c.replace_all.new.self.value ≡ overwritten set u old = c.in_ok-count.ensures.replaced ∙ ap (λ (ps : List (Vec Step Global)). overwritten (is_among (map (λ p. location_view p.items) ps)) u old) c.deref.ensures.value ∙ ap (λ ks. overwritten (is_among ks) u old) c.in_ok-places.ensures.places in
    ap (at m) after ∙ c.overwritten_is_seen.ensures.rest set m u old apart
