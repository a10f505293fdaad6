use Rattle.std.proofs.Common.{◌≡◌, ◌+◌, false}
use Rattle.dump.specs.Raws.{bytes}
use Rattle.dump.specs.Rules.{any_below}
use Rattle.shapes.specs.Cells.{same_zero}
use Rattle.rules.specs.Parts.{identity}
use Rattle.rules.proofs.part.Part.same_before.Given as goal

abbrev pub invariant-loop-j : goal.invariant-loop-j
invariant-loop-j l = any_below (λ j. same_zero l.sought.cell (identity (bytes l.self.texts.now.raw) l.self.texts.now.raw.layout l.self.run.role (l.self.run.first + j))) l.j ≡ false
