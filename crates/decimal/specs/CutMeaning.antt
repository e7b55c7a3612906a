-- What the code's cut says, and what its fitting is truncated to. In a file of its own, since Cut and Fitting name definitions of Cuts and
-- Truncation in their ghost fields.
use Rattle.decimal.specs.declared.cut.Cut.{Cut}
use Rattle.decimal.specs.declared.cut.Fitting.{Fitting}
use Rattle.decimal.specs.Truncation.{Truncated, truncated_to}
use Rattle.decimal.specs.Cuts.{cut_of}

abbrev pub said_by_cut : Cut → Truncated
said_by_cut c = cut_of c.negative c.halves c.x

-- what a number that fits its image is truncated to
abbrev pub truncated_of : Fitting → Truncated
truncated_of f = truncated_to f.image f.number
