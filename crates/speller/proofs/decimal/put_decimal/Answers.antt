-- One digit is one byte.
use Rattle.std.proofs.Common.{◌≡◌, suc, ◌+◌, ◌<◌, length, ap, arith}
use Rattle.std.specs.Fmt.{decimal}
use Rattle.std.proofs.lemmas.Fmt.{decimal_digit}
use Rattle.std.proofs.lemmas.List.{set_split}
use Rattle.speller.proofs.decimal.put_decimal.Goals as goal

pub returns-then-n-lt10-clause-written : goal.returns-then-n-lt10-clause-written
returns-then-n-lt10-clause-written c =
    let d = decimal_digit c.args.n (omega arith) in
    let one : length (decimal c.args.n) ≡ 1 = ap length d in
    let within : c.args.start < length c.args.buffer.now = omega (arith, c.requires, one) in
    let next : c.args.start + 1 ≡ suc c.args.start = omega arith in
    rw (d, next) (set_split c.args.buffer.now c.args.start (48 + c.args.n) within)
