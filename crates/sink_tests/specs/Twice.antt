-- What the ends hold after some bytes were put twice.
use Rattle.std.specs.Prelude.{◌≡◌, ℕ, ◌<◌, ◌≤◌, List, ◌++◌, length, take, Ok, Err, Result}
use Rattle.sink.specs.declared.fault.SinkFault.{SinkFault}

-- a memory before and after it was a page
abbrev pub PagedTwice : List ℕ → List ℕ → Result ℕ SinkFault → List ℕ → Type 0
PagedTwice memory bs (Ok n) memory' = (n ≡ length (bs ++ bs)) × (n ≤ length memory) × (take n memory' ≡ bs ++ bs)
PagedTwice memory bs (Err f) memory' = (length memory < length (bs ++ bs)) × (memory' ≡ take (length memory) (bs ++ bs))

abbrev pub CountedTwice : ℕ → List ℕ → Result ℕ SinkFault → Type 0
CountedTwice space bs (Ok n) = (n ≡ length (bs ++ bs)) × (n ≤ space)
CountedTwice space bs (Err f) = space < length (bs ++ bs)
