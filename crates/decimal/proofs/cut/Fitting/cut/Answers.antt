-- `Fitting::cut` meets its contract: a number that fits is cut to its truncation. Assumes nothing.
use Rattle.decimal.proofs.CutLaws.{cut_is, cut_said}
use Rattle.decimal.proofs.cut.Fitting.cut.Goals as goal

pub invariant_of-result : goal.invariant_of-result
invariant_of-result c =
    let f = c.args.self.now in
    record { made = cut_is f.image f.number f.fits c.keeps_minus.ensures c.kept_halves.ensures c.stored_exponent.ensures }

pub returns-clause-cut : goal.returns-clause-cut
returns-clause-cut c =
    let f = c.args.self.now in cut_said f.image f.number f.fits c.keeps_minus.ensures c.kept_halves.ensures c.stored_exponent.ensures
