-- What the program finds of the bytes that it read.
use Rattle.std.specs.Prelude.{◌≡◌, ℕ, Bool, true, false, List, length, IfOk, Ok, Err, Result, nat_lt}
use Rattle.dump.specs.declared.refusal.Refusal.{Refusal}
use Rattle.dump.specs.Heaps.{Heap}
use Rattle.rules.specs.Verdicts.{verdict}
use Rattle.counter.specs.declared.Summary.{Summary}

-- the verdict's refusal, or the counts of its heap
abbrev pub Found : Result Heap Refusal → Result Summary Refusal → Type 0
Found (Err e) r = r ≡ Err e
Found (Ok m) r = IfOk r (λ s. (s.objects ≡ length m.objects) × (s.numerals ≡ length m.numerals))

-- a dump that is too long is refused unread
abbrev pub Limited : Bool → List ℕ → Result Summary Refusal → Type 0
Limited true b r = r ≡ Err (record { number = 2; section = 0; «record» = 0 })
Limited false b r = Found (verdict b) r

abbrev pub Judged : List ℕ → Result Summary Refusal → Type 0
Judged b r = Limited (nat_lt 65536 (length b)) b r
