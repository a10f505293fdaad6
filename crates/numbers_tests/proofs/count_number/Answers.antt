-- The counter counts what was sent.
use Rattle.std.proofs.Common.{◌≡◌, ℕ, List, Some, None, Ok, Option, arith}
use Rattle.sink.specs.declared.counter.Counter.{Counter}
use Rattle.sink.specs.Sinks.{counter_means}
use Rattle.sink.proofs.Ends.{counter_counts}
use Rattle.sink.proofs.Puts.{put_fits}
use Rattle.numbers.specs.Sent.{Sent}
use Rattle.numbers_tests.specs.Held.{Counted}
use Rattle.numbers_tests.proofs.count_number.Goals as goal

counted : (c c' : Counter) (numeral : Option (List ℕ)) (n : ℕ) → counter_means.state c ≡ 0 → n ≡ counter_means.state c' → Sent counter_means c numeral (Ok tt) c' → Counted numeral (counter_means.space c) (Ok n)
counted c c' None n zero e s = s
counted c c' (Some t) n zero e s =
    let k = counter_counts s in
    let f = put_fits s in
    (omega (arith, k, e, zero), omega (arith, k, e, zero, f))

pub returns : goal.returns
returns g c =
    rw c.new-counter.ensures.space at
    (counted c.new-counter.result c.put_number.new.sink (g.S.Speller.means c.args.speller.now c.args.bits) c.count.result c.new-counter.ensures.state c.count.ensures c.in_ok-put_number.ensures)
