use Rattle.std.proofs.Common.{is_ok, sym, ap, ◌∙◌, arith}
use Rattle.std.proofs.lemmas.Result.{err_from_is_err_and}
use Rattle.dump.specs.Places.{row_at}
use Rattle.dump.specs.Raws.{bytes}
use Rattle.dump.proofs.Rules.{each_more, each_stop}
use Rattle.shapes.specs.Rows.{parts_in, bytes_in}
use Rattle.rules.specs.Objects.{parts_below, bytes_below}
use Rattle.rules.proofs.Sound.{passed, runs_fit, bytes_fit, parts_more, bytes_more}
use Rattle.rules.proofs.marks.Marks.object_rows.Goals as goal

pub returns-in_err-object_row : goal.returns-in_err-object_row
returns-in_err-object_row c =
    let p = err_from_is_err_and c.from_residual.result c.from_residual.ensures.1 in
    rw (p.1, p.2) (sym (each_stop _ c.loop-i.i c.args.self.now.raw.layout.objects.count _ c.loop-i.invariant.0 (sym c.in_err-object_row.ensures) (omega arith)))

pub loop-i-preserved : goal.loop-i-preserved
loop-i-preserved c =
    let b = bytes c.args.self.now.raw in
    let l = c.args.self.now.raw.layout in
    let i = c.loop-i.i in
    let here = sym c.in_ok-object_row.ensures in
    let kept = passed b l i (ap is_ok here) in
    let fit = runs_fit (row_at b l i) (parts_below b l i) l.parts.count (omega arith) kept.runs in
    let fit2 = bytes_fit (row_at b l i) (bytes_below b l i) l.octets.count (omega arith) kept.octets in
    let more = parts_more b l i in
    let more2 = bytes_more b l i in
    let same = c.parts_in-parts.ensures.0 ∙ ap parts_in c.row-row.ensures in
    let same2 = c.bytes_in-octets.ensures.0 ∙ ap bytes_in c.row-row.ensures in
    (each_more _ i c.loop-i.invariant.0 here, omega arith, omega arith, omega arith, omega arith)
