use Rattle.dump.specs.Raws.{bytes}
use Rattle.rules.proofs.Sound.{run_fits}
use Rattle.std.proofs.Common.{arith}
use Rattle.rules.proofs.texts.Texts.run.Goals as goal

pub returns-clause-fits : goal.returns-clause-fits
returns-clause-fits c =
    let fits = run_fits (bytes c.args.self.now.raw) c.args.self.now.raw.layout c.args.i c.args.self.now.sound c.requires in
    rw c.text.ensures (omega arith)
