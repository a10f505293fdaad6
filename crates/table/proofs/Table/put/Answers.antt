-- Each turn copies one unit, which is a byte.
use Rattle.std.proofs.Common.{◌≡◌, ◌<◌, length, refl, sym, ◌∙◌, arith}
use Rattle.table.proofs.Copies.{text_short, text_ascii, front_long, front_filled}
use Rattle.dump.specs.Texts.{text_units}
use Rattle.table.proofs.Table.put.Goals as goal

pub slice_bounds-byte-items-end : goal.slice_bounds-byte-items-end
slice_bounds-byte-items-end c =
    let s = text_short c.args.self.now.rows c.args.i c.requires.row (text_units c.numeral_digits-text.result) c.numeral_digits-text.ensures.is in
    omega (arith, c.len.ensures)

pub slice_bounds-byte-items-end-2 : goal.slice_bounds-byte-items-end-2
slice_bounds-byte-items-end-2 c =
    c.len.ensures ∙ sym (front_long c.args.self.now.rows c.args.i c.requires.row (text_units c.numeral_digits-text.result) c.numeral_digits-text.ensures.is c.args.buffer.now c.len.result c.len.ensures c.requires.room)

pub overflow_cast-byte : goal.overflow_cast-byte
overflow_cast-byte c =
    let t = text_units c.numeral_digits-text.result in
    let long = front_long c.args.self.now.rows c.args.i c.requires.row t c.numeral_digits-text.ensures.is c.args.buffer.now c.len.result c.len.ensures c.requires.room in
    let under : c.loop-k.k < length t = omega arith in
    let a = text_ascii c.args.self.now.rows c.args.i c.requires.row t c.numeral_digits-text.ensures.is c.loop-k.k under in
    omega (arith, c.unit.ensures)

pub returns-clause-short : goal.returns-clause-short
returns-clause-short c =
    rw c.len-2.ensures (text_short c.args.self.now.rows c.args.i c.requires.row (text_units c.numeral_digits-text.result) c.numeral_digits-text.ensures.is)

pub returns-clause-written : goal.returns-clause-written
returns-clause-written c =
    let same : c.len.result ≡ c.len-2.result = c.len.ensures ∙ sym c.len-2.ensures in
    rw (
      same,
      front_filled c.args.self.now.rows c.args.i c.requires.row (text_units c.numeral_digits-text.result) c.numeral_digits-text.ensures.is c.args.buffer.now c.len.result c.len.ensures c.requires.room
          c.loop-k.byte-items c.loop-k.k c.loop-k.auto.byte-items (omega (arith, c.loop-k.auto.k-end)) c.loop-k.invariant,
    ) refl
