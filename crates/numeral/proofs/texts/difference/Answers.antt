use Rattle.std.proofs.Common.{◌≡◌, ℕ, rules, tests, arith, take, min, length, map, not, eqb}
use Rattle.std.specs.List.{position, zip}
use Rattle.std.proofs.lemmas.Iterator.{YieldsList-from_slice, YieldsList-from_map, YieldsList-from_zip}
use Rattle.std.proofs.lemmas.Iterator.Search.{position_from_yields_List}
use Rattle.std.proofs.lemmas.Grind.{common_steps}
use Rattle.dump.specs.Bytes.{little}
use Rattle.numeral.proofs.Orders.{zip_both}
use Rattle.numeral.proofs.texts.difference.Goals as goal

pub returns : goal.returns
returns c =
    let a : c.position.result ≡ position (λ (p : ℕ × ℕ). not (eqb p.0 p.1)) (zip (map little (take c.min-shared.result c.args.x.units.now)) (map little (take c.min-shared.result c.args.y.units.now))) = position_from_yields_List (λ (p : ℕ × ℕ). not (eqb p.0 p.1)) c.position.new.self _ _ c.position.ensures.ran (YieldsList-from_zip {s = c.zip.result}
    (YieldsList-from_map _ little (YieldsList-from_slice (take c.min-shared.result c.args.x.units.now) (cc)) (cc) (λ x r q k. search rules))
    (YieldsList-from_map _ little (YieldsList-from_slice (take c.min-shared.result c.args.y.units.now) (cc)) (cc) (λ x r q k. search rules))) (λ x b q k. search (rules, tests)) in
    let h : c.min-shared.result ≡ min (length c.args.x.units.now) (length c.args.y.units.now) = grind (arith, common_steps) in
    let e = zip_both little c.min-shared.result c.args.x.units.now c.args.y.units.now h in
    rw e at a
