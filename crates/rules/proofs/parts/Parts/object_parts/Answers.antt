use Rattle.std.proofs.Common.{◌+◌, ◌≤◌, sym, ap, ◌∙◌, subst}
use Rattle.dump.specs.Places.{row_at}
use Rattle.dump.specs.Raws.{bytes}
use Rattle.rules.specs.Objects.{parts_below}
use Rattle.rules.specs.Parts.{first_run, second_run}
use Rattle.rules.specs.declared.role.PartRun.{PartRun}
use Rattle.rules.proofs.Sound.{object_passed, first_fits, second_fits}
use Rattle.rules.proofs.parts.Parts.object_parts.Goals as goal

pub part_run-requires : goal.part_run-requires
part_run-requires c =
    let b = bytes c.args.self.now.marks.raw in
    let l = c.args.self.now.marks.raw.layout in
    let fits = first_fits (row_at b l c.args.i) (parts_below b l c.args.i) l.parts.count (object_passed b l c.args.i c.requires.sound c.requires.here).runs in
    subst (λ (r : PartRun). r.first + r.count ≤ l.parts.count) (sym (c.first_run.ensures ∙ ap first_run c.row-row.ensures)) fits

pub part_run-requires-2 : goal.part_run-requires-2
part_run-requires-2 c =
    let b = bytes c.args.self.now.marks.raw in
    let l = c.args.self.now.marks.raw.layout in
    let fits = second_fits (row_at b l c.args.i) (parts_below b l c.args.i) l.parts.count (object_passed b l c.args.i c.requires.sound c.requires.here).runs in
    subst (λ (r : PartRun). r.first + r.count ≤ l.parts.count) (sym (c.second_run.ensures ∙ ap second_run c.row-row.ensures)) fits
