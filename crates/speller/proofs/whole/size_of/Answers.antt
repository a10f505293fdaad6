-- What the tests in the code say of the double's size.
use Rattle.std.proofs.Common.{sym, ◌∙◌}
use Rattle.std.proofs.lemmas.Bool.{cond-true, cond-false}
use Rattle.speller.proofs.Sizes.{size_none, size_test}
use Rattle.speller.proofs.whole.size_of.Goals as goal
use Rattle.speller.proofs.whole.size_of.Goals.{else-n-le-LIMIT-via-then-n-le-LIMIT+else-n-x, else-n-le-LIMIT-via-else-n-le-LIMIT}

pub returns-then-n-x-clause-is : goal.returns-then-n-x-clause-is
returns-then-n-x-clause-is c =
    let t = size_test c.args.bits _ _ _ c.without_sign.ensures.is c.f64_from_bits_with_nan-x.ensures c.saturating_f64_to_u64-n.ensures c.if-n-le-LIMIT.true c.without_sign.ensures.small in
    sym (cond-true _ _ _ c.if-n-x.true) ∙ t

pub returns-else-n-le-LIMIT-clause-is : goal.returns-else-n-le-LIMIT-clause-is
returns-else-n-le-LIMIT-clause-is c =
    elim c.else-n-le-LIMIT.branch [
      | else-n-le-LIMIT-via-then-n-le-LIMIT+else-n-x w ↦
          let t = size_test c.args.bits _ _ _ c.without_sign.ensures.is c.f64_from_bits_with_nan-x.ensures c.saturating_f64_to_u64-n.ensures w.if-n-le-LIMIT.true c.without_sign.ensures.small in
          sym (cond-false _ _ _ w.if-n-x.false) ∙ t
      | else-n-le-LIMIT-via-else-n-le-LIMIT w ↦ size_none c.args.bits _ _ _ c.without_sign.ensures.is c.f64_from_bits_with_nan-x.ensures c.saturating_f64_to_u64-n.ensures w.if-n-le-LIMIT.false
    ]
