-- What the calls for print lines take in words.
use Rattle.std.specs.Prelude.{ℕ, List, map, length, eqb}
use Rattle.decimal.specs.Answer.{pick}
use Rattle.records.specs.declared.lines.fields.Element as records
use Rattle.records.specs.declared.lines.fields.Element.TheVariants.{Number, Text}
use Rattle.records.specs.Lines.Printing.{Print}
use Rattle.hulgyevan.specs.declared.lines.Element.{Element}
use Rattle.hulgyevan.specs.Words.{number_in}

-- an element: of kind 0 the number of its word, of any other kind the text from its start, of its length
unfoldable pub element_in : Element → records.Element
element_in e = pick (eqb e.kind 0) (Number (number_in e.number)) (Text e.start e.length)

-- elements, in order
abbrev pub elements_in : List Element → List records.Element
elements_in es = map element_in es

-- the count of bytes printed
abbrev pub printed_size : Print → ℕ
printed_size p = length p.bytes

-- the count of spilled elements
abbrev pub spilled_of : Print → ℕ
spilled_of p = p.spilled
