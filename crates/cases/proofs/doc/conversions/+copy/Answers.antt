use Rattle.std.proofs.Common.{◌≡◌, [], ◌∷◌, ◌++◌, string_bytes, sym, ap, ◌∙◌, subst, append_assoc}
use Rattle.std.specs.List.Sorted.{IsStrictlySortedBy}
use Rattle.std.specs.Map.{keys_of}
use Rattle.std.specs.String.{string_cmp}
use Rattle.cases.specs.DocTree.{pairs_of}
use Rattle.cases.proofs.Docs.{Entry}
use Rattle.cases.proofs.Copying.{pairs_of-insert_entry, put_last, copied_members}
use Rattle.cases.proofs.doc.conversions.+copy.Goals as goal

pub copy-returns-in_ok-copy_members-in-Members : goal.copy-returns-in_ok-copy_members-in-Members
copy-returns-in_ok-copy_members-in-Members t c = copied_members c.in_ok-copy_members-in-Members.field-0 c.in-Members.entries c.args.doc.now c.in-Members.is c.in_ok-copy_members-in-Members.ensures

pub copy_members-loop-key-preserved : goal.copy_members-loop-key-preserved
copy_members-loop-key-preserved t c =
    let l = c.loop-key in
    let done = l.invariant.0 in
    let e : Entry = (c.in-Some.key.now, c.in-Some.member.now) in
    let left = c.next.new.self in
    let all : c.args.entries.now.entries ≡ done ++ e ∷ left = l.invariant.1 ∙ ap (λ es. done ++ es) c.in-Some.ensures.steps in
    let last = put_last done e left (subst (λ es. IsStrictlySortedBy string_cmp (keys_of es)) all c.iter-key-items.ensures.ordered) in
    let same_name : string_bytes c.in_ok-name.name ≡ string_bytes e.0 = c.in_ok-name.ensures.cases in (
      done ++ e ∷ [],
      all ∙ sym (append_assoc done (e ∷ []) left),
      ap pairs_of c.in_ok-insert.ensures.entries ∙ pairs_of-insert_entry l.copies.entries c.in_ok-name.name c.in_ok-copy.field-0 ∙ rw (same_name, c.in_ok-copy.ensures, l.invariant.2) last,
    )
