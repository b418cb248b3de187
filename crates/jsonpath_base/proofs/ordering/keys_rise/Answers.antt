use Rattle.std.proofs.Common.{◌≡◌, ◌-◌, get_or, true, is_lt, ap, arith, sym, ◌∙◌}
use Rattle.jsonpath_base.proofs.InOrder.{rises_more, rises_all}
use Rattle.jsonpath_base.proofs.ordering.keys_rise.Goals as goal

pub loop-i-preserved : goal.loop-i-preserved
loop-i-preserved g c =
    let less : is_lt (g.K.Ord.cmp c.index-entries-i.result.0 c.index-entries-i-in-loop-i.result.0) ≡ true =
    ap (λ x. is_lt (g.K.Ord.cmp x.0 c.index-entries-i-in-loop-i.result.0)) c.index-entries-i.is ∙ ap (λ x. is_lt (g.K.Ord.cmp (get_or c.args.entries.now (c.loop-i.i - 1) c.index-entries-i.result).0 x.0)) c.index-entries-i-in-loop-i.is
    ∙ ap is_lt (sym c.cmp.ensures) ∙ sym c.is_lt.ensures ∙ c.if-not-is_lt.false in
    rises_more g.K.Ord.cmp c.args.entries.now c.loop-i.i (c.loop-i.i - 1) c.index-entries-i.result c.index-entries-i-in-loop-i.result (omega arith) (omega arith) c.index-entries-i.is c.index-entries-i-in-loop-i.is less c.loop-i.invariant

pub returns : goal.returns
returns g c h = rises_all g.K.Ord.cmp g.met.K.Ord.total c.args.entries.now c.loop-i.i (omega arith) c.loop-i.invariant
