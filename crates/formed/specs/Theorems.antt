-- The theorems above the verdict.
use Rattle.std.specs.Prelude.{◌≡◌, ℕ, true, List, Ok}
use Rattle.std.proofs.Math.Pow.{are_bytes}
use Rattle.dump.specs.declared.layout.Layout.{Layout}
use Rattle.dump.specs.Heaps.{Heap}
use Rattle.dump.specs.Layouts.{layout_of}
use Rattle.dump.specs.Meaning.{heap_of}
use Rattle.rules.specs.Verdicts.{verdict}
use Rattle.formed.specs.Sound.{Sound}
use Rattle.formed.specs.Formed.{Formed}

-- the sections are found, every rule holds at every row, and h is what the dump means
abbrev pub Means : List ℕ → Heap → Type 0
Means b h = (l : Layout) × (layout_of b ≡ Ok l) × Sound b l × (heap_of b l ≡ h)

-- a dump is accepted exactly if every rule holds at every row
abbrev pub AcceptedExactlyIfSound : Type 0
AcceptedExactlyIfSound = (b : List ℕ) (h : Heap) → (verdict b ≡ Ok h → Means b h) × (Means b h → verdict b ≡ Ok h)

-- the heap of an accepted dump is well formed
abbrev pub AcceptedIsFormed : Type 0
AcceptedIsFormed = (b : List ℕ) (h : Heap) → are_bytes b ≡ true → verdict b ≡ Ok h → Formed h
