-- What is at each end after a put.
use Rattle.std.proofs.Common.{◌≡◌, ℕ, ◌+◌, ◌<◌, List, ◌++◌, length, take, Ok, Err, Result, sym, ap, ◌∙◌, arith, length-take-le, take_all}
use base.Fml.{GName}
use Rattle.sink.specs.declared.counter.Counter.{Counter}
use Rattle.sink.specs.declared.fault.SinkFault.{SinkFault}
use Rattle.sink.specs.declared.page.Page.{Page}
use Rattle.sink.specs.Faults.{refusal}
use Rattle.sink.specs.Puts.{Put}
use Rattle.sink.specs.Sinks.{page_means, counter_means}
use Rattle.sink.proofs.Puts.{due_short, put_state}
use Rattle.sink.proofs.Runs.{run_keeps, run_counts}

module _ {p p' : Page} {xs : List ℕ} where
  -- the page holds the bytes behind those that it held
  pub page_holds : {u : Unit {0}} → Put page_means p xs (Ok u) p' → page_means.state p' ≡ page_means.state p ++ xs
  page_holds h = put_state h ∙ run_keeps (page_means.state p) xs

  -- or as many of them as it had space for
  pub page_front : {r : Result Unit SinkFault} → Put page_means p xs r p' → page_means.state p' ≡ page_means.state p ++ take (page_means.space p) xs
  page_front h = h.goes ∙ run_keeps (page_means.state p) (take (page_means.space p) xs)

  -- a page refuses only for want of space
  pub page_short : {f : SinkFault} → Put page_means p xs (Err f) p' → page_means.space p < length xs
  page_short {f} h = due_short (page_means.space p) (length xs) (refusal f) h.answers

  -- a page that ran full fills its memory
  pub page_full : {f : SinkFault} → Put page_means p xs (Err f) p' → p'.bytes.now ≡ page_means.state p ++ take (page_means.space p) xs
  page_full h =
      let s = page_short h in
      let l = h.left in
      sym (take_all p'.len p'.bytes.now (omega arith)) ∙ page_front h

  -- it stands on the memory that it was lent
  pub page_memory : {r : Result Unit SinkFault} {n : GName} {l : ℕ} → page_means.place p ≡ (n, l) → Put page_means p xs r p' → p'.bytes.ghost_name ≡ n
  page_memory e h = ap (λ (x : GName × ℕ). x.0) (h.stays ∙ e)

pub page_length : (p : Page) → length (page_means.state p) ≡ p.len
page_length p = length-take-le p.len p.bytes.now p.fits.0

module _ {c c' : Counter} {xs : List ℕ} where
  -- the counter counts the bytes
  pub counter_counts : {u : Unit {0}} → Put counter_means c xs (Ok u) c' → counter_means.state c' ≡ counter_means.state c + length xs
  counter_counts h = put_state h ∙ run_counts (counter_means.state c) xs

  -- or as many of them as it had space for
  pub counter_front : {r : Result Unit SinkFault} → Put counter_means c xs r c' → counter_means.state c' ≡ counter_means.state c + length (take (counter_means.space c) xs)
  counter_front h = h.goes ∙ run_counts (counter_means.state c) (take (counter_means.space c) xs)

  -- a counter refuses only for want of space
  pub counter_short : {f : SinkFault} → Put counter_means c xs (Err f) c' → counter_means.space c < length xs
  counter_short {f} h = due_short (counter_means.space c) (length xs) (refusal f) h.answers
