-- The page started empty, and what it holds stands in the memory that it was lent.
use Rattle.std.proofs.Common.{ℕ, List, length, ap, rules}
use Rattle.sink.proofs.Ends.{page_holds, page_short, page_full, page_memory, page_length}
use Rattle.sink.proofs.Puts.{put_fits}
use Rattle.sink_tests.proofs.page_twice.Goals as goal

pub returns-in_err-twice : goal.returns-in_err-twice
returns-in_err-twice c =
    let p = c.in_err-twice.ensures in
    let s = page_short p in
    let w = page_full p in
    let n = page_memory c.new-page.ensures.place p in
    search rules

pub returns : goal.returns
returns c =
    let p = c.in_ok-twice.ensures in
    let f = put_fits p in
    let h = page_holds p in
    let k = ap (λ (x : List ℕ). length x) h in
    let l = page_length c.twice.new.sink in
    let n = page_memory c.new-page.ensures.place p in
    (search rules, search rules, search rules)
