-- When `check` accepts, in the words of the rules.
use Rattle.std.specs.Prelude.{◌≡◌, ℕ, true, List, is_ok, Result}
use Rattle.dump.specs.declared.refusal.Refusal.{Refusal}
use Rattle.dump.specs.Heaps.{Heap as Meant}
use Rattle.formed.specs.Theorems.{Means}
use Rattle.heap_check.specs.declared.heap.Heap.{Heap}
use Rattle.heap_check.specs.Heaps.{model}

-- accepted exactly if every rule holds at every row, and the heap is then what the dump means
abbrev pub Exactly : List ℕ → Result (Unit {0}) Refusal → Heap → Type 0
Exactly b r h = (is_ok r ≡ true → Means b (model h.checked)) × ((m : Meant) → Means b m → (is_ok r ≡ true) × (model h.checked ≡ m))
