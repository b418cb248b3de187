use Rattle.std.proofs.Common.{◌≡◌, [], ◌∷◌, ◌++◌, sym, ap, ◌∙◌, subst, append_assoc}
use Rattle.std.specs.List.Sorted.{IsStrictlySortedBy}
use Rattle.std.specs.Map.{keys_of}
use Rattle.jpath.specs.Document.{members_data}
use Rattle.jpath.proofs.DocumentViews.{Entry, name_cmp}
use Rattle.jpath.proofs.DocumentCopies.{members_data-insert_entry, put_last}
use Rattle.jpath.proofs.document.copies.+copy.Goals as goal

pub copy_members-loop-name-preserved : goal.copy_members-loop-name-preserved
copy_members-loop-name-preserved t c =
    let l = c.loop-name in
    let done = l.invariant.0 in
    let e : Entry = (c.in-Some.name.now, c.in-Some.member.now) in
    let left = c.next.new.self in
    let all : c.args.members.now.entries ≡ done ++ e ∷ left = l.invariant.1 ∙ ap (λ es. done ++ es) c.in-Some.ensures.steps in
    let last = put_last done e left (subst (λ es. IsStrictlySortedBy name_cmp (keys_of es)) all c.iter-name-items.ensures.ordered) in (
      done ++ e ∷ [],
      all ∙ sym (append_assoc done (e ∷ []) left),
      ap members_data c.in_ok-insert.ensures.entries ∙ members_data-insert_entry l.copies.entries e.0 c.in_ok-copy.field-0 ∙ rw (c.in_ok-copy.ensures, l.invariant.2) last,
    )
