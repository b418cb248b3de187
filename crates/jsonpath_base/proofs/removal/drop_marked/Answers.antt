use Rattle.std.proofs.Common.{◌≡◌, ◌≤◌, ◌<◌, ◌+◌, ◌-◌, ◌∷◌, [], false, nat_cmp, length, take, drop, subst, sym, ap, ◌∙◌, arith}
use Rattle.std.proofs.lemmas.List.{length-take-le, length-drop, drop_all}
use Rattle.jsonpath_base.specs.Prelude.{index, items_view, marked, sieved}
use Rattle.jsonpath_base.proofs.Marking.{marked_here, index_test, IsFrom, from_after, from_at_most, from_rest, none_before, none_held}
use Rattle.jsonpath_base.proofs.InOrder.{turn, turn_sorted}
use Rattle.jsonpath_base.proofs.Removing.{joined, run_moved, one_gone, unheld_sieved, none_left, drops_as}
use Rattle.jsonpath_base.proofs.removal.drop_marked.Goals as goal
use Rattle.jsonpath_base.proofs.removal.drop_marked.Goals.{then-below+then-index-length, else-below, else-below-via-then-below+else-index-length, else-below-via-else-below}

pub move_down-requires : goal.move_down-requires
move_down-requires c =
    let l = c.loop-index in let e = c.loop-index-item.result in let es = drop (l.index-index + 1) c.args.marks.now in
    let at = turn index nat_cmp index_test c.args.marks.now l.index-index e c.requires c.loop-index-test.true c.loop-index-item.is in
    let low = from_at_most e.0 e.1 es l.next (subst (λ xs. IsFrom xs l.next) at.all l.invariant.1) in
    (l.invariant.2, low, omega (arith, c.if-index-length.true, c.len-length.ensures, c.args.items.now.ok.0, l.items.ok.0, l.invariant.4))

pub loop-index-preserved : goal.loop-index-preserved
loop-index-preserved c =
    let l = c.loop-index in let marks = c.args.marks.now in let e = c.loop-index-item.result in let es = drop (l.index-index + 1) marks in
    let at = turn index nat_cmp index_test marks l.index-index e c.requires c.loop-index-test.true c.loop-index-item.is in
    let ordered = turn_sorted nat_cmp marks l.index-index e c.requires at.all in
    let xs = l.items.items in let n = l.next in let g = l.gone in let end = c.len-length.result in
    let start = c.args.items.now in let j = e.0 in let m = e.1 in
    elim c.if-below.branch [
      | then-below+then-index-length w ↦
          let ys = w.move_down.new.items.items in
          let from = from_after j m es ordered in
          let low : n ≤ j = from_at_most j m es n (subst (λ zs. IsFrom zs n) at.all l.invariant.1) in
          let same : length ys ≡ length xs = w.move_down.ensures.length in
          let within : j < length ys = omega (arith, w.if-index-length.true, c.len-length.ensures, start.ok.0, l.invariant.4, same) in
          let front : length (take (j - g) ys) ≡ j - g = length-take-le (j - g) ys (omega (arith, within)) in
          let kept : length (take (n - g) xs) ≡ n - g = length-take-le (n - g) xs (omega (arith, l.invariant.3)) in
          let run = run_moved (e ∷ es) j (none_before j m es from) (take (j - g) ys) (drop j ys) (take (n - g) xs) (drop n xs) n w.move_down.ensures.moved (omega (arith, front, kept, low, l.invariant.2)) low in
          let places : j + 1 - (g + 1) ≡ j - g = omega arith in
          drops_as marks start.items (l.index-index + 1) ys c.if-below.items.items (g + 1) (j + 1) c.if-below.gone c.if-below.next (ap (λ v. v.items) w.items-is) w.gone-is w.next-is (
            ap (λ k. joined (items_view (take k ys)) (sieved es (j + 1) (items_view (drop (j + 1) ys)))) places
                ∙ ap (joined (items_view (take (j - g) ys))) (one_gone j m es ys (marked_here m ∙ w.if-below.true) within)
                ∙ run
                ∙ ap (λ zs. joined (items_view (take (n - g) xs)) (sieved zs n (items_view (drop n xs)))) (sym at.all)
                ∙ l.invariant.0,
            from,
            omega (arith, low, l.invariant.2),
            omega (arith, within),
            same ∙ l.invariant.4,
          )
      | else-below w ↦
          let rest : n + length (drop n xs) ≤ end = omega (arith, length-drop n xs, l.invariant.3, l.invariant.4, c.len-length.ensures, start.ok.0) in
          let none : j < end → marked m [] ≡ false = elim w.else-below.branch [
            | else-below-via-then-below+else-index-length v ↦ λ lt. absurd (omega (arith, lt, v.if-index-length.false))
            | else-below-via-else-below v ↦ λ lt. marked_here m ∙ v.if-below.false
          ] in
          let unheld = unheld_sieved j m es end none at.once (drop n xs) n rest in
          drops_as marks start.items (l.index-index + 1) xs c.if-below.items.items g n c.if-below.gone c.if-below.next (ap (λ v. v.items) w.items-is) w.gone-is w.next-is (
            ap (joined (items_view (take (n - g) xs))) (sym unheld ∙ ap (λ zs. sieved zs n (items_view (drop n xs))) (sym at.all)) ∙ l.invariant.0,
            from_rest e es n (subst (λ zs. IsFrom zs n) at.all l.invariant.1),
            l.invariant.2,
            l.invariant.3,
            l.invariant.4,
          )
    ]

pub returns : goal.returns
returns c =
    let l = c.loop-index in let xs = l.items.items in let ys = c.move_down-2.new.items.items in let n = l.next in let g = l.gone in let end = c.len-length.result in
    let same : length ys ≡ length xs = c.move_down-2.ensures.length in
    let all : length xs ≡ end = omega (arith, l.invariant.4, c.len-length.ensures, c.args.items.now.ok.0) in
    let front : length (take (end - g) ys) ≡ end - g = length-take-le (end - g) ys (omega (arith, same, all)) in
    let kept : length (take (n - g) xs) ≡ n - g = length-take-le (n - g) xs (omega (arith, l.invariant.3)) in
    let run = run_moved [] end (none_held end) (take (end - g) ys) (drop end ys) (take (n - g) xs) (drop n xs) n c.move_down-2.ensures.moved (omega (arith, front, kept, all, l.invariant.2, l.invariant.3)) (omega (arith, all, l.invariant.3)) in
    ap items_view c.truncate.ensures.items
    ∙ none_left [] ys (end - g) end _ (omega (arith, same, all)) (run ∙ ap (λ zs. joined (items_view (take (n - g) xs)) (sieved zs n (items_view (drop n xs)))) (sym (drop_all l.index-index c.args.marks.now c.loop-index-test.false)) ∙ l.invariant.0)
