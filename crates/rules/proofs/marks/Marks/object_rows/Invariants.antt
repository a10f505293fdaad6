use Rattle.std.proofs.Common.{◌≡◌, ◌≤◌, Ok}
use Rattle.dump.specs.Raws.{bytes}
use Rattle.dump.specs.Rules.{each}
use Rattle.rules.specs.Objects.{object_row, parts_below, bytes_below}
use Rattle.rules.proofs.marks.Marks.object_rows.Given as goal

abbrev pub invariant-loop-i : goal.invariant-loop-i
invariant-loop-i l =
    (each (object_row (bytes l.self.raw) l.self.raw.layout) l.i ≡ Ok tt)
    × (l.parts ≡ parts_below (bytes l.self.raw) l.self.raw.layout l.i)
    × (l.parts ≤ l.self.raw.layout.parts.count)
    × (l.octets ≡ bytes_below (bytes l.self.raw) l.self.raw.layout l.i)
    × (l.octets ≤ l.self.raw.layout.octets.count)
