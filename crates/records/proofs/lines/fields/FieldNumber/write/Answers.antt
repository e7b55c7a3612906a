-- `write` meets its contract: an exponential field has the alpha text's length, and any other is filled. Assumes nothing.
use mathlib.Core.Path.{refl, ap, sym, ◌∙◌}
use native.Mathlib.Omega.{arith}
use Rattle.decimal.specs.CutMeaning.{said_by_cut}
use Rattle.decimal.specs.Image.{hashes}
use Rattle.records.proofs.LineProofs.FieldLaws.{hash_count_lem, shown_fixed, alpha_given, alpha_long, alpha_marked}
use Rattle.records.proofs.lines.fields.FieldNumber.write.Goals as goal

pub mark_point-requires : goal.mark_point-requires
mark_point-requires c = (
  omega (arith, ap hashes c.requires.read, c.requires.ready.fits),
  alpha_long c.requires c.if-self.true _ c.write_alpha.ensures.bytes,
)

pub fill-requires : goal.fill-requires
fill-requires c = omega (arith, hash_count_lem c.requires.ready.is_field, ap hashes c.requires.read)

pub returns-in_ok-write_alpha : goal.returns-in_ok-write_alpha
returns-in_ok-write_alpha c =
    record {
      answer = refl;
      bytes = alpha_marked c.requires c.if-self.true _ c.write_alpha.ensures.bytes c.args.self.now.marks c.mark_point.ensures;
    }

pub returns-in_err-write_alpha : goal.returns-in_err-write_alpha
returns-in_err-write_alpha c = alpha_given c.requires c.if-self.true _ c.in_err-write_alpha.ensures.answer

pub returns-else-self : goal.returns-else-self
returns-else-self c =
    let self = c.args.self.now in
    record {
      answer = refl;
      bytes = c.fill.ensures ∙ sym (shown_fixed self.marks c.args.field.now self.cut.image (said_by_cut self.cut) c.if-self.false);
    }
