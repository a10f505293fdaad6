-- What a dump whose sections are found holds.
use Rattle.std.specs.Prelude.{ℕ, List}
use Rattle.dump.specs.declared.raw.Raw.{Raw}

abbrev pub bytes : Raw → List ℕ
bytes x = x.dump.now
