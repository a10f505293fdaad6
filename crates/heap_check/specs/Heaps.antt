-- What a heap means, and what `check` answers.
use Rattle.std.specs.Prelude.{◌≡◌, ℕ, List, [], Ok, Err, Result}
use Rattle.dump.specs.declared.refusal.Refusal.{Refusal}
use Rattle.dump.specs.Heaps.{Heap as Meant, undefined}
use Rattle.dump.specs.Meaning.{heap_of}
use Rattle.heap_check.specs.declared.checked.Checked.{Checked}
use Rattle.heap_check.specs.declared.heap.Heap.{Heap}

-- the bytes that are read
abbrev pub dump_of : Checked → List ℕ
dump_of h = h.raw.dump.now

-- the heap that they mean
abbrev pub model : Checked → Meant
model h = heap_of (dump_of h) h.raw.layout

abbrev pub nothing : Meant
nothing = record { objects = []; numerals = []; root = undefined }

-- a refusal is told as it is, and the heap stays; else the heap means what the dump does
abbrev pub Answers : Result Meant Refusal → Result (Unit {0}) Refusal → Heap → Heap → Type 0
Answers (Err e) r h h' = (r ≡ Err e) × (h' ≡ h)
Answers (Ok m) r h h' = (r ≡ Ok tt) × (model h'.checked ≡ m)
