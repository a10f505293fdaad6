use Rattle.dump.proofs.Texts.{run_units}
use Rattle.dump.proofs.text.Text.new.Goals as goal

pub returns : goal.returns
returns c = rw c.as_chunks.ensures.front (run_units c.args.run.count c.args.run.start c.args.dump.now c.requires)
