use Rattle.std.proofs.Common.{rules, ◌≡◌, ◌<◌, length, take, arith, ap}
use Rattle.std.proofs.Common.{length-take-le}
use Rattle.arrayvec.specs.ArrayVec.{array_vec_len}
use Rattle.codec.proofs.PlaceLaws.{item_placed}
use Rattle.codec.proofs.lists.FixedList.push.Goals as goal

pub invariant_of-self : goal.invariant_of-self
invariant_of-self g c =
    let sized : length (take c.self.inside.count c.self.inside.values) ≡ c.self.inside.count =
    length-take-le c.self.inside.count c.self.inside.values (omega (arith, c.self.invariant.0, c.self.told)) in
    let few : c.self.inside.count < g.row.N = omega (arith, c.requires, ap array_vec_len c.self.view_is, sized) in (
      omega (arith, few),
      search rules,
      item_placed g.row.N c.self.inside.count c.self.inside.values g.T.Blank.blank c.args.item few c.self.told c.self.invariant.2,
    )
