use Rattle.std.proofs.Common.{◌≡◌, ℕ, ◌<◌, List, ◌∷◌, length, arith}
use Rattle.jsonpath_parser.proofs.SliceLemmas.{rises_no_more, falls_no_more, rises_on, falls_on}
use Rattle.jsonpath_parser.proofs.slice.SlicePlacesIterator.next.Goals as goal

fewer : (xs ys : List ℕ) (x : ℕ) → xs ≡ x ∷ ys → length ys < length xs
fewer xs ys x is = rw is (omega arith)

pub returns-then-self-2-clause-steps : goal.returns-then-self-2-clause-steps
returns-then-self-2-clause-steps c =
    let none = falls_no_more c.args.self.now c.if-self.true c.if-self-2.true in
    (none, none)

pub returns-then-self-3-clause-steps : goal.returns-then-self-3-clause-steps
returns-then-self-3-clause-steps c =
    let none = rises_no_more c.args.self.now c.if-self.false c.if-self-3.true in
    (none, none)

pub returns-else-self-2-clause-steps : goal.returns-else-self-2-clause-steps
returns-else-self-2-clause-steps c = falls_on c.args.self.now c.saturating_sub-self.result c.if-self.true c.if-self-2.false (omega (arith, c.saturating_sub-self.ensures))

pub returns-else-self-2-clause-goes : goal.returns-else-self-2-clause-goes
returns-else-self-2-clause-goes c =
    let steps = falls_on c.args.self.now c.saturating_sub-self.result c.if-self.true c.if-self-2.false (omega (arith, c.saturating_sub-self.ensures)) in
    record { on = λ _. (tt, tt, fewer _ _ _ steps); keeps = tt; rests = λ _. tt }

pub returns-else-self-3-clause-steps : goal.returns-else-self-3-clause-steps
returns-else-self-3-clause-steps c =
    rises_on c.args.self.now c.saturating_add-self.result c.if-self.false c.if-self-3.false (omega (arith, c.saturating_add-self.ensures))
    (omega (arith, c.saturating_add-self.ensures)) (λ h. omega (arith, c.saturating_add-self.ensures, h))

pub returns-else-self-3-clause-goes : goal.returns-else-self-3-clause-goes
returns-else-self-3-clause-goes c =
    let steps = rises_on c.args.self.now c.saturating_add-self.result c.if-self.false c.if-self-3.false (omega (arith, c.saturating_add-self.ensures))
    (omega (arith, c.saturating_add-self.ensures)) (λ h. omega (arith, c.saturating_add-self.ensures, h)) in
    record { on = λ _. (tt, tt, fewer _ _ _ steps); keeps = tt; rests = λ _. tt }
