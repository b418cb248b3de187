-- What the Normalized Path of a location deletes, and what it puts another tree in the place of.
use Rattle.std.proofs.Common.{◌≡◌, ℕ, [], ◌∷◌, map, Option, Some, None, is_some, option_to_list, if◌then◌else◌, IsTrue, true≢false, refl, sym, ap, ◌∙◌}
use Rattle.jsonpath_base.specs.Prelude.Documents.{at, distinct_count, Document, has_distinct_names, is_among, Location, overwritten, put, Query, selected, steps_query, Tree, without}
use Rattle.jsonpath_rust.specs.Prelude.Calls.{count_at, IsDeletion, IsDeletionAt, IsReplacement, IsReplacementAt}
use Rattle.jsonpath_base.proofs.lemmas.documents.{selected-steps}
use Rattle.jsonpath_base.proofs.Nowhere.{without_nowhere}
use Rattle.jsonpath_base.proofs.OverwrittenLaws.{at_one_is_put, leaves_the_rest}
use Rattle.jsonpath_base.proofs.PutLaws.{put_nowhere}
use Rattle.jsonpath_base.proofs.WithoutLaws.{without_none}

-- the query of a location's steps selects it where something is there
selected_there : (l : Location) (q : Query) (doc : Document) (o : Option Tree) → q ≡ steps_query l → at l doc.root ≡ o → selected q doc ≡ map (λ t. l) (option_to_list o)
selected_there l q doc o same there = ap (λ v. selected v doc) same ∙ selected-steps l doc ∙ ap (λ u. map (λ t. l) (option_to_list u)) there

counted_at : (l : Location) (q : Query) (doc : Document) (n : ℕ) → q ≡ steps_query l → n ≡ distinct_count (selected q doc) → n ≡ count_at l doc.root
counted_at l q doc n same counted = by_value (at l doc.root) refl
  where
    by_value : (o : Option Tree) → at l doc.root ≡ o → n ≡ count_at l doc.root
    by_value None there = counted ∙ ap distinct_count (selected_there l q doc None same there) ∙ sym (ap (λ o. if is_some o then 1 else 0) there)
    by_value (Some t) there = counted ∙ ap distinct_count (selected_there l q doc (Some t) same there) ∙ sym (ap (λ o. if is_some o then 1 else 0) there)

-- ---- deletion

deleted_at : (l : Location) (q : Query) (doc : Document) (left : Tree) → IsTrue (has_distinct_names doc.root) → q ≡ steps_query l → left ≡ without (is_among (selected q doc)) doc.root → left ≡ without (is_among (l ∷ [])) doc.root
deleted_at l q doc left distinct same removed = by_value (at l doc.root) refl
  where
    by_value : (o : Option Tree) → at l doc.root ≡ o → left ≡ without (is_among (l ∷ [])) doc.root
    by_value None there =
        removed ∙ ap (λ ls. without (is_among ls) doc.root) (selected_there l q doc None same there) ∙ without_none doc.root ∙ sym (without_nowhere l doc.root distinct there)
    by_value (Some t) there = removed ∙ ap (λ ls. without (is_among ls) doc.root) (selected_there l q doc (Some t) same there)

pub normal_deleted : (l : Location) (q : Query) (doc : Document) (left : Tree) (n : ℕ) → IsTrue (has_distinct_names doc.root) → q ≡ steps_query l → IsDeletion q doc left n → IsDeletionAt l doc.root left n
normal_deleted l q doc left n distinct same h = record { removed = deleted_at l q doc left distinct same h.removed; counted = counted_at l q doc n same h.counted }

-- ---- replacement

-- at no location nothing is replaced
overwritten_none : (u t : Tree) → overwritten (is_among []) u t ≡ t
overwritten_none u t = let same : Some (overwritten (is_among []) u t) ≡ Some t = leaves_the_rest (is_among []) [] u t (λ m h. absurd (true≢false (sym h))) in cc

replaced_at : (l : Location) (q : Query) (doc : Document) (u left : Tree) → IsTrue (has_distinct_names doc.root) → q ≡ steps_query l → left ≡ overwritten (is_among (selected q doc)) u doc.root → left ≡ put l u doc.root
replaced_at l q doc u left distinct same replaced = by_value (at l doc.root) refl
  where
    by_value : (o : Option Tree) → at l doc.root ≡ o → left ≡ put l u doc.root
    by_value None there =
        replaced ∙ ap (λ ls. overwritten (is_among ls) u doc.root) (selected_there l q doc None same there) ∙ overwritten_none u doc.root ∙ sym (put_nowhere l u doc.root there)
    by_value (Some t) there =
        replaced ∙ ap (λ ls. overwritten (is_among ls) u doc.root) (selected_there l q doc (Some t) same there) ∙ at_one_is_put l u doc.root distinct

pub normal_replaced : (l : Location) (q : Query) (doc : Document) (u left : Tree) (n : ℕ) → IsTrue (has_distinct_names doc.root) → q ≡ steps_query l → IsReplacement q u doc left n → IsReplacementAt l u doc.root left n
normal_replaced l q doc u left n distinct same h = record { replaced = replaced_at l q doc u left distinct same h.replaced; counted = counted_at l q doc n same h.counted }
