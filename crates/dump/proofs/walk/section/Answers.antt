use Rattle.std.proofs.Common.{rules}
use Rattle.dump.specs.Layouts.{section_at}
use Rattle.dump.proofs.walk.section.Goals as goal

pub returns-then-dump-p-lt4 : goal.returns-then-dump-p-lt4
unfolding section_at
returns-then-dump-p-lt4 c = search rules

pub returns-then-bounds-count-clause-is : goal.returns-then-bounds-count-clause-is
unfolding section_at
returns-then-bounds-count-clause-is c = search rules

pub returns-then-dump-p : goal.returns-then-dump-p
unfolding section_at
returns-then-dump-p c = search rules

pub returns : goal.returns
unfolding section_at
returns c = search rules
