use Rattle.std.proofs.Common.{rules, tests}
use Rattle.std.proofs.lemmas.Iterator.{YieldsList-from_slice, YieldsList-from_map}
use Rattle.std.proofs.lemmas.Iterator.Search.{all_from_yields_List}
use Rattle.dump.specs.Bytes.{little}
use Rattle.numeral.specs.Digits.{is_digit}
use Rattle.numeral.proofs.Values.{are_digits_lem}
use Rattle.numeral.proofs.digits.all_digits.Goals as goal

pub returns : goal.returns
returns c = rw are_digits_lem (all_from_yields_List is_digit _ _ _ c.all.ensures.ran
    (YieldsList-from_map _ little (YieldsList-from_slice c.args.text.units.now (cc)) (cc) (λ x r q k. search rules)) (λ x b q k. search (rules, tests)))
