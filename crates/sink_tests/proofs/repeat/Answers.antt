-- Each turn takes one repetition off the rest.
use Rattle.sink.proofs.Owes.{owes_put, owes_full, owes_none, owes_as}
use Rattle.sink.proofs.Puts.{put_exit}
use Rattle.sink_tests.proofs.Repeats.{repeat_next, repeat_end}
use Rattle.sink_tests.proofs.repeat.Goals as goal

pub loop-preserved : goal.loop-preserved
loop-preserved g c = owes_put _ (owes_as (repeat_next _ _ _ c.loop-test.true) c.loop.invariant) c.in_ok-put_all.ensures

pub returns-in_err-put_all : goal.returns-in_err-put_all
returns-in_err-put_all g c =
    put_exit _ c.from_residual.ensures (owes_full _ (owes_as (repeat_next _ _ _ c.loop-test.true) c.loop.invariant) c.in_err-put_all.ensures)

pub returns : goal.returns
returns g c = owes_none (owes_as (repeat_end _ _ _ c.loop-test.false) c.loop.invariant)
