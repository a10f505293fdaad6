-- The minus takes no room that the digits need.
use Rattle.std.proofs.Common.{arith, length-set}
use Rattle.speller.proofs.Decimals.{decimal_short}
use Rattle.speller.proofs.whole.put_whole.Goals as goal

pub put_decimal-requires : goal.put_decimal-requires
put_decimal-requires c = let d = decimal_short c.args.n c.requires.0 in omega (arith, length-set c.args.buffer.now 0 45)
