-- The units of a text that lies in a dump.
use Rattle.std.specs.Prelude.{ℕ, List, map}
use Rattle.dump.specs.declared.text.Text.{Text}
use Rattle.dump.specs.Bytes.{little}

abbrev pub text_units : Text → List ℕ
text_units t = map little t.units.now
