-- Laws of what is done under the bytes of a contents: it is done under its images. Assumes nothing.
use Rattle.std.proofs.Common.{◌≡◌, ℕ, List, sym}
use Rattle.decimal.specs.Answer.{done, refused, ◌then◌}
use Rattle.decimal.specs.declared.number.Number.{Number}
use Rattle.decimal.proofs.AnswerLaws.{then_next, then_refused}
use Rattle.codec.specs.Contents.{Table, read_alone}
use Rattle.codec.specs.Packing.{packing, packing_under}
use Rattle.codec.specs.Remainders.{packing_remainders, remainders_under}
use Rattle.codec.specs.Unpacking.{unpacking, unpack_body}
use Rattle.codec.proofs.BodyLaws.{packing_contents}
use Rattle.codec.proofs.UnderLaws.{packing_same}
use Rattle.codec.proofs.RemainderLaws.{left_refused}

module _ (contents : List ℕ) (ns : List Number) (room : ℕ) where
  pub alone_refused : {number place : ℕ} → read_alone contents ≡ refused number place → packing contents ns room ≡ refused number place
  alone_refused h = packing_contents contents ns room h

  pub alone_left_refused : {number place : ℕ} → read_alone contents ≡ refused number place → packing_remainders contents ns room ≡ refused number place
  alone_left_refused h = left_refused contents ns room (alone_refused h)

  pub alone_packs : {c : Table} → done c ≡ read_alone contents → packing_under c.images ns room ≡ packing contents ns room
  alone_packs h = sym (packing_same contents ns room (sym h))

  pub alone_leaves : {c : Table} → done c ≡ read_alone contents → remainders_under c.images ns room ≡ packing_remainders contents ns room
  unfolding packing_remainders remainders_under ◌then◌
  alone_leaves {c} h = rw (sym h, packing_same contents ns room (sym h))

module _ (contents body : List ℕ) where
  pub alone_unread : {number place : ℕ} → read_alone contents ≡ refused number place → unpacking contents body ≡ refused number place
  unfolding unpacking
  alone_unread h = then_refused _ h

  pub alone_unpacks : {c : Table} → done c ≡ read_alone contents → unpack_body c.images body ≡ unpacking contents body
  unfolding unpacking
  alone_unpacks h = sym (then_next _ (sym h))
