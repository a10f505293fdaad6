-- What `check` tells is what the program finds.
use Rattle.std.proofs.Common.{◌≡◌, ℕ, ◌≤◌, List, length, Ok, Err, Result, sym, ap, ◌∙◌, subst, arith}
use Rattle.std.proofs.lemmas.Bool.{le-ltb}
use Rattle.dump.specs.declared.refusal.Refusal.{Refusal}
use Rattle.dump.specs.Heaps.{Heap as Meant}
use Rattle.rules.specs.Verdicts.{verdict}
use Rattle.heap_check.specs.declared.heap.Heap.{Heap}
use Rattle.heap_check.specs.Heaps.{Answers}
use Rattle.counter.specs.declared.Summary.{Summary}
use Rattle.counter.specs.Judged.{Found, Limited, Judged}

found_err : (v : Result Meant Refusal) (r : Result Summary Refusal) (e : Refusal) (h h' : Heap) → Answers v (Err e) h h' → r ≡ Err e → Found v r
found_err (Ok m) r e h h' a q = absurd (let x = a.0 in let z : ◌≡◌ {A = ℕ} 0 1 = cc in omega arith)
found_err (Err x) r e h h' a q = let y = a.0 in let z : e ≡ x = cc in q ∙ ap Err z

limited : (b : List ℕ) (r : Result Summary Refusal) → length b ≤ 65536 → Found (verdict b) r → Judged b r
limited b r h f = subst (λ t. Limited t b r) (sym (le-ltb 65536 (length b) h)) f

module _ (b : List ℕ) (small : length b ≤ 65536) (h h' : Heap) where
  pub refused : (r : Result Summary Refusal) (e : Refusal) → Answers (verdict b) (Err e) h h' → r ≡ Err e → Judged b r
  refused r e a q = limited b r small (found_err (verdict b) r e h h' a q)
