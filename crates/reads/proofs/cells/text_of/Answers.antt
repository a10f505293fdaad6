use Rattle.dump.specs.Raws.{bytes}
use Rattle.reads.proofs.Sound.{text_fits}
use Rattle.reads.proofs.cells.text_of.Goals as goal

pub returns-clause-fits : goal.returns-clause-fits
returns-clause-fits c =
    let x = c.args.texts.now.raw in
    text_fits (bytes x) x.layout c.args.i c.text.result c.args.texts.now.sound x.units c.requires c.text.ensures
