-- A buffer's run lies in the section of bytes.
use Rattle.std.proofs.Common.{◌≡◌, ◌+◌, rules, arith}
use Rattle.dump.specs.Raws.{bytes}
use Rattle.reads.proofs.Octets.{slice_bytes, slice_fits}
use Rattle.reads.proofs.kinds.kind_of.Goals as goal

pub returns-in-Ok-Buffer-clause-is : goal.returns-in-Ok-Buffer-clause-is
returns-in-Ok-Buffer-clause-is c =
    let l = c.args.texts.now.raw.layout in
    let fits = c.args.texts.now.raw.octets in
    let is_buffer : c.args.row.kind ≡ 11 = search rules in
    let within = c.requires.within is_buffer in
    let e = slice_bytes (bytes c.args.texts.now.raw) (l.octets.start + c.args.row.a) c.args.row.b (omega arith) in
    search rules

pub returns-in-Ok-Buffer-clause-fits : goal.returns-in-Ok-Buffer-clause-fits
returns-in-Ok-Buffer-clause-fits c =
    let l = c.args.texts.now.raw.layout in
    let fits = c.args.texts.now.raw.octets in
    let is_buffer : c.args.row.kind ≡ 11 = search rules in
    let within = c.requires.within is_buffer in
    slice_fits (bytes c.args.texts.now.raw) (l.octets.start + c.args.row.a) c.args.row.b (omega arith)
