use Rattle.std.proofs.Common.{◌≡◌, ℕ, ◌<◌, false, get_or}
use Rattle.dump.specs.Places.{text_of}
use Rattle.dump.specs.Raws.{bytes}
use Rattle.numeral.specs.Numerals.{is_big_int}
use Rattle.rules.proofs.texts.Texts.mark.Given as goal

abbrev pub invariant-loop-i : goal.invariant-loop-i
invariant-loop-i l = (k : ℕ) → k < l.i → get_or l.flag-items k false ≡ is_big_int (text_of (bytes l.self.raw) l.self.raw.layout k)
