use Rattle.std.proofs.Common.{◌∙◌, refl, arith, rules}
use Rattle.std.proofs.lemmas.Iterator.{YieldsList-from_range, YieldsList-from_map}
use Rattle.std.proofs.lemmas.Iterator.Consumers.{YieldsList-at, sum_from_yields_List, fits_from_yields_list}
use Rattle.dump.specs.Places.{row_at}
use Rattle.dump.specs.Raws.{bytes}
use Rattle.shapes.specs.Rows.{bytes_in}
use Rattle.rules.proofs.Sound.{bytes_sum, octets_fit}
use Rattle.rules.proofs.objects.Objects.all_octets.Goals as goal

pub sum-requires-clause-fits : goal.sum-requires-clause-fits
sum-requires-clause-fits c =
    let b = bytes c.args.self.now.raw in
    let l = c.args.self.now.raw.layout in
    let e = bytes_sum b l l.objects.count in
    let fit = octets_fit b l l.objects.count c.args.self.now.sound (omega arith) in
    fits_from_yields_list c.map.result _
    (YieldsList-from_map _ (λ i. bytes_in (row_at b l i)) (YieldsList-at c.map.ensures.source (YieldsList-from_range 0 l.objects.count l.objects.count refl (omega arith))) c.map.ensures.closure (λ x r q k. search rules))
    (omega arith)

pub returns-clause-is : goal.returns-clause-is
returns-clause-is c =
    let b = bytes c.args.self.now.raw in
    let l = c.args.self.now.raw.layout in
    sum_from_yields_List c.map.result _ c.sum.ensures.ran
    (YieldsList-from_map _ (λ i. bytes_in (row_at b l i)) (YieldsList-at c.map.ensures.source (YieldsList-from_range 0 l.objects.count l.objects.count refl (omega arith))) c.map.ensures.closure (λ x r q k. search rules))
    ∙ bytes_sum b l l.objects.count

pub returns-clause-within : goal.returns-clause-within
returns-clause-within c =
    let l = c.args.self.now.raw.layout in
    rw (returns-clause-is c) (octets_fit (bytes c.args.self.now.raw) l l.objects.count c.args.self.now.sound (omega arith))
