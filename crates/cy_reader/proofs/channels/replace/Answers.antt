use Rattle.std.proofs.Common.{arith, rules}
use Rattle.std.proofs.lemmas.Grind.{common_steps}
use Rattle.std.proofs.lemmas.List.{length-set}
use Rattle.cy_reader.proofs.Sums.{sums}
use Rattle.cy_reader.proofs.Tied.{tied-replaced}
use Rattle.cy_reader.proofs.channels.replace.Goals as goal

pub returns-clause-kept : goal.returns-clause-kept
returns-clause-kept c =
    let list = c.args.channels.now.list.items in
    record {
      small = record { few = search (rules, sums); small = grind (arith, common_steps, sums) };
      tied = tied-replaced c.args.channels.now.numbers list c.args.number c.args.known c.requires.tied c.requires.there;
      grown = omega (arith, length-set list c.args.number c.args.known);
    }
