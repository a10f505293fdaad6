-- Each way gives the part that stands at its place.
use Rattle.std.proofs.Common.{rules}
use Rattle.dump.specs.Raws.{bytes}
use Rattle.dump.specs.Heaps.{no_part}
use Rattle.reads.proofs.Listed.{part_at_lem}
use Rattle.reads.proofs.parts.part_of.Goals as goal

pub returns-in-Ok-Dense-clause-is : goal.returns-in-Ok-Dense-clause-is
returns-in-Ok-Dense-clause-is c = let e = part_at_lem (bytes c.args.texts.now.raw) c.args.texts.now.raw.layout c.args.row c.args.k no_part c.requires.below in search rules

pub returns-in-Ok-Dense-2-clause-is : goal.returns-in-Ok-Dense-2-clause-is
returns-in-Ok-Dense-2-clause-is c = let e = part_at_lem (bytes c.args.texts.now.raw) c.args.texts.now.raw.layout c.args.row c.args.k no_part c.requires.below in search rules

pub returns-in_default-clause-is : goal.returns-in_default-clause-is
returns-in_default-clause-is c = let e = part_at_lem (bytes c.args.texts.now.raw) c.args.texts.now.raw.layout c.args.row c.args.k no_part c.requires.below in search rules
