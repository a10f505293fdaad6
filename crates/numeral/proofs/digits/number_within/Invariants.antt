use Rattle.std.proofs.Common.{◌≡◌, ◌≤◌, drop, map}
use Rattle.dump.specs.Bytes.{little}
use Rattle.dump.specs.Texts.{text_units}
use Rattle.numeral.specs.Digits.{number_within}
use Rattle.numeral.proofs.Values.{within_from}
use Rattle.numeral.proofs.digits.number_within.Given as goal

abbrev pub invariant-loop-pair : goal.invariant-loop-pair
invariant-loop-pair l = record {
  small : l.value ≤ l.limit;
  rest : within_from l.limit l.value (map little (drop l.pair-index l.text.units.now)) ≡ number_within l.limit (text_units l.text);
}
