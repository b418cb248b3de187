-- The text of a document, a part at a time.
use Rattle.std.proofs.Common.{◌≡◌, ◌<◌, ◌+◌, ℕ, List, ◌∷◌, ◌++◌, length, get_or, drop, Bool, true, IsTrue, append_assoc, sym, ap, ◌∙◌, subst}
use Rattle.std.proofs.lemmas.Bool.{and_parts}
use Rattle.std.proofs.lemmas.List.{drop_more}
use Rattle.serde_json.specs.Data.{Data, Items, item, Members}
use Rattle.jpath.specs.declared.document.Json.{Json}
use Rattle.jpath.specs.Document.{json_data, items_data}
use Rattle.jsonpath_base.specs.Values.{has_whole_numbers, items_whole, members_whole, tree_of, trees_of, members_of}
use Rattle.jpath.specs.Json.{comma_after, json_text, elements_text, members_text}

-- a text that is written up to the elements that are left: with theirs it is all that is wanted
pub record ItemsLeft (all text : List ℕ) (later : Bool) (left : Items) : Type 0 where
  pub all_text : text ++ elements_text later (trees_of left) ≡ all
  pub whole : IsTrue (items_whole left)

pub record MembersLeft (all text : List ℕ) (later : Bool) (left : Members) : Type 0 where
  pub all_text : text ++ members_text later (members_of left) ≡ all
  pub whole : IsTrue (members_whole left)

-- one turn of the loop over elements
next_item : (all text now : List ℕ) (later : Bool) (d : Data) (ds : Items) → ItemsLeft all text later (item d ds) → now ≡ (text ++ comma_after later) ++ json_text (tree_of d) → ItemsLeft all now true ds
next_item all text now later d ds left e = record {
  all_text = rw e (append_assoc (text ++ comma_after later) (json_text (tree_of d)) _ ∙ append_assoc text (comma_after later) _ ∙ left.all_text);
  whole = (and_parts (has_whole_numbers d) (items_whole ds) left.whole).1;
}

item_here : (all text : List ℕ) (later : Bool) (vs : List Json) (i : ℕ) (v : Json) → i < length vs → v ≡ get_or vs i v → ItemsLeft all text later (items_data (drop i vs))
    → ItemsLeft all text later (item (json_data v) (items_data (drop (i + 1) vs)))
item_here all text later vs i v within read left =
    subst (λ ws. ItemsLeft all text later (items_data ws)) (drop_more vs i v within ∙ ap (λ w. w ∷ drop (i + 1) vs) (sym read)) left

pub items_next : (all text now : List ℕ) (later : Bool) (vs : List Json) (i : ℕ) (v : Json) → i < length vs → v ≡ get_or vs i v → ItemsLeft all text later (items_data (drop i vs))
    → now ≡ (text ++ comma_after later) ++ json_text (tree_of (json_data v)) → ItemsLeft all now true (items_data (drop (i + 1) vs))
items_next all text now later vs i v within read left e = next_item all text now later (json_data v) (items_data (drop (i + 1) vs)) (item_here all text later vs i v within read left) e
