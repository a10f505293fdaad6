use Rattle.std.proofs.Common.{◌≡◌, ℕ, ◌<◌, ◌≤◌, ◌≢◌, Bool, List, ◌++◌, false, length, take, get_or, ap, ◌∙◌, arith, get_or-set_other, get_or-set_same, below_more}
use Rattle.std.proofs.lemmas.List.{get_or_append_left, length-take-le}
use Rattle.numeral.specs.Numerals.{is_big_int}
use Rattle.rules.proofs.texts.Texts.mark.Goals as goal

pub loop-i-preserved : goal.loop-i-preserved
loop-i-preserved c =
    below_more _ _
    (λ k h. let ne : k ≢ c.loop-i.i = omega arith in rw get_or-set_other (c.loop-i.invariant k h))
    (let lt : c.loop-i.i < length c.loop-i.flag-items = omega (arith, c.loop-i.auto.flag-items, c.loop-i-test.true) in rw get_or-set_same (c.is_bigint.ensures ∙ ap is_big_int c.text.ensures))

front_marked : (front rest : List Bool) (n i : ℕ) (is : ℕ → Bool) → n ≤ length front → n ≤ i → ((k : ℕ) → k < i → get_or front k false ≡ is k) → (t : ℕ) → t < n → get_or (front ++ rest) t false ≡ is t
front_marked front rest n i is long end marked t h = get_or_append_left front rest false t (omega arith) ∙ marked t (omega arith)

pub returns : goal.returns
returns c =
    let n = c.args.self.now.raw.layout.texts.count in
    let all : List Bool = c.args.flags.now in
    let fits : n ≤ length all = omega (arith, c.args.self.now.raw.few_texts) in
    let long : length (take n all) ≡ n = length-take-le n all fits in
    let same : length c.loop-i.flag-items ≡ length (take n all) = c.loop-i.auto.flag-items in
    front_marked _ _ n c.loop-i.i _ (omega (arith, long, same)) (omega (arith, c.loop-i-test.false, long)) c.loop-i.invariant
