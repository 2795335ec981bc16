use Rattle.bx_bifs.proofs.Words.{◌<◌, arith, nat_tests}
use Rattle.bx_bifs.proofs.Joining.{joined_takes}
use Rattle.bx_bifs.proofs.values.append.Goals as goal

pub join-requires-clause-takes : goal.join-requires-clause-takes
join-requires-clause-takes c =
    let some : 0 < c.in-Some-2.count = grind (arith, nat_tests) in
    joined_takes c.args.list.now c.args.rest.now c.in-Some-2.count c.in-Some-2.ensures some (omega arith) (omega arith)
