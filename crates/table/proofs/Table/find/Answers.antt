-- The search goes on while the bits differ.
use Rattle.std.proofs.Common.{◌≡◌, get_or, rules, tests}
use Rattle.std.proofs.lemmas.Iterator.{first_from_Range}
use Rattle.dump.specs.Heaps.{empty_numeral}
use Rattle.heap_check.specs.Heaps.{model}
use Rattle.table.proofs.Lookups.{finds}
use Rattle.table.proofs.Table.find.Goals as goal

pub returns : goal.returns
returns c =
    let ns = (model c.args.self.now.rows).numerals in
    finds ns c.args.bits c.numerals.result c.find.result c.numerals.ensures
    (first_from_Range _ _ _ c.find.result
    (λ i. (get_or ns i empty_numeral).bits ≡ c.args.bits)
    (λ i. (get_or ns i empty_numeral).bits ≡ c.args.bits → ⊥)
    c.find.ensures.ran
    (λ x q k. search (rules, tests))
    (λ x q k. search (rules, tests)))
