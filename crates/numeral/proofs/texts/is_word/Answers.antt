use Rattle.std.proofs.Common.{◌≡◌, ℕ, eqb, rules, tests, arith}
use Rattle.std.specs.List.{list_all, zip}
use Rattle.std.proofs.lemmas.Iterator.{YieldsList-from_slice, YieldsList-from_map, YieldsList-from_zip}
use Rattle.std.proofs.lemmas.Iterator.Search.{all_from_yields_List}
use Rattle.dump.specs.Bytes.{little}
use Rattle.dump.specs.Texts.{text_units}
use Rattle.numeral.proofs.Orders.{same_zip}
use Rattle.numeral.proofs.texts.is_word.Goals as goal

pub returns-then-len-word : goal.returns-then-len-word
returns-then-len-word c =
    let a : c.all.result ≡ list_all (λ (p : ℕ × ℕ). eqb p.0 p.1) (zip (text_units c.args.text) c.args.word.now) = all_from_yields_List (λ (p : ℕ × ℕ). eqb p.0 p.1) c.all.new.self _ _ c.all.ensures.ran (YieldsList-from_zip {s = c.zip.result}
    (YieldsList-from_map _ little (YieldsList-from_slice c.args.text.units.now (cc)) (cc) (λ x r q k. search rules))
    (YieldsList-from_slice c.args.word.now c.zip.ensures.second.0)) (λ x b q k. search (rules, tests)) in
    grind (arith, same_zip)
