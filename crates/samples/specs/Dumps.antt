-- Sample dumps, each with the heap that it was made of.
use Rattle.std.specs.Prelude.{◌≡◌, ℕ, ◌/◌, ◌%◌, List, [], ◌∷◌, ◌++◌, pos, Some, Ok, codes}
use Rattle.std.specs.List.{AllByRecursion}
use Rattle.dump.specs.Heaps.{Heap, whole, text, object, hole, name, plain, dense, map, date, property, element, entry}
use Rattle.rules.specs.Verdicts.{verdict}

-- numbers of 4 and of 2 bytes, low byte first
abbrev pub words : List ℕ → List ℕ
words [] = []
words (n ∷ ns) = n % 256 ∷ n / 256 % 256 ∷ n / 65536 % 256 ∷ n / 16777216 % 256 ∷ words ns

abbrev pub units : List ℕ → List ℕ
units [] = []
units (n ∷ ns) = n % 256 ∷ n / 256 % 256 ∷ units ns

pub record Sample : Type 0 where
  pub dump : List ℕ
  pub heap : Heap

-- 5
abbrev pub five : Sample
five = record {
  dump = words (0 ∷ 0 ∷ 0 ∷ 0 ∷ 0 ∷ 0 ∷ 1 ∷ 3 ∷ 5 ∷ 0 ∷ []);
  heap = record { objects = []; numerals = []; root = whole (pos 5) };
}

-- an empty Map
abbrev pub empty_map : Sample
empty_map = record {
  dump = words (0 ∷ 0 ∷ 0 ∷ 0 ∷ 1 ∷ 9 ∷ 0 ∷ 0 ∷ 0 ∷ 0 ∷ 0 ∷ 0 ∷ 1 ∷ 8 ∷ 0 ∷ 0 ∷ []);
  heap = record { objects = record { kind = map; parts = [] } ∷ []; numerals = []; root = object 0 };
}

-- an empty Object
abbrev pub empty_object : Sample
empty_object = record {
  dump = words (0 ∷ 0 ∷ 0 ∷ 0 ∷ 1 ∷ 6 ∷ 0 ∷ 0 ∷ 0 ∷ 0 ∷ 0 ∷ 0 ∷ 1 ∷ 8 ∷ 0 ∷ 0 ∷ []);
  heap = record { objects = record { kind = plain; parts = [] } ∷ []; numerals = []; root = object 0 };
}

-- an Object that holds itself under "me"
abbrev pub ring : Sample
ring = record {
  dump =
      words (1 ∷ 0 ∷ 2 ∷ 2 ∷ []) ++ units (codes "me")
      ++ words (0 ∷ 0 ∷ 1 ∷ 6 ∷ 0 ∷ 1 ∷ 0 ∷ 0 ∷ 0 ∷ 1 ∷ 7 ∷ 0 ∷ 0 ∷ 8 ∷ 0 ∷ 0 ∷ 1 ∷ 8 ∷ 0 ∷ 0 ∷ []);
  heap = record { objects = record { kind = plain; parts = property (name (codes "me")) (object 0) ∷ [] } ∷ []; numerals = []; root = object 0 };
}

-- one Date under "p" and "q"
abbrev pub shared : Sample
shared = record {
  dump =
      words (2 ∷ 0 ∷ 1 ∷ 1 ∷ 1 ∷ 2 ∷ []) ++ units (codes "pq")
      ++ words (0 ∷ 0 ∷ 2 ∷ 6 ∷ 0 ∷ 2 ∷ 0 ∷ 0 ∷ 0 ∷ 5 ∷ 0 ∷ 0 ∷ 0 ∷ 0 ∷ 0 ∷ 2 ∷ 7 ∷ 0 ∷ 0 ∷ 8 ∷ 1 ∷ 0 ∷ 7 ∷ 1 ∷ 0 ∷ 8 ∷ 1 ∷ 0 ∷ 1 ∷ 8 ∷ 0 ∷ 0 ∷ []);
  heap = record {
    objects =
        record { kind = plain; parts = property (name (codes "p")) (object 1) ∷ property (name (codes "q")) (object 1) ∷ [] }
        ∷ record { kind = date (Some (pos 0)); parts = [] }
        ∷ [];
    numerals = [];
    root = object 0;
  };
}

-- a Map of 1 to itself and of 2 to 3
abbrev pub ring_map : Sample
ring_map = record {
  dump = words (0 ∷ 0 ∷ 0 ∷ 0 ∷ 1 ∷ 9 ∷ 0 ∷ 2 ∷ 0 ∷ 0 ∷ 0 ∷ 2 ∷ 3 ∷ 1 ∷ 0 ∷ 8 ∷ 0 ∷ 0 ∷ 3 ∷ 2 ∷ 0 ∷ 3 ∷ 3 ∷ 0 ∷ 1 ∷ 8 ∷ 0 ∷ 0 ∷ []);
  heap = record {
    objects = record { kind = map; parts = entry (whole (pos 1)) (object 0) ∷ entry (whole (pos 2)) (whole (pos 3)) ∷ [] } ∷ [];
    numerals = [];
    root = object 0;
  };
}

-- an array of 1 and a hole
abbrev pub holed : Sample
holed = record {
  dump = words (0 ∷ 0 ∷ 0 ∷ 0 ∷ 1 ∷ 8 ∷ 0 ∷ 2 ∷ 2 ∷ 0 ∷ 0 ∷ 2 ∷ 0 ∷ 0 ∷ 0 ∷ 3 ∷ 1 ∷ 0 ∷ 0 ∷ 0 ∷ 0 ∷ 9 ∷ 0 ∷ 0 ∷ 1 ∷ 8 ∷ 0 ∷ 0 ∷ []);
  heap = record { objects = record { kind = dense 2; parts = element (whole (pos 1)) ∷ element hole ∷ [] } ∷ []; numerals = []; root = object 0 };
}

-- the text of a quote mark, a line end, half a surrogate pair and an A
abbrev pub escapes : Sample
escapes = record {
  dump = words (1 ∷ 0 ∷ 4 ∷ 4 ∷ []) ++ units (34 ∷ 10 ∷ 55296 ∷ 65 ∷ []) ++ words (0 ∷ 0 ∷ 0 ∷ 0 ∷ 1 ∷ 7 ∷ 0 ∷ 0 ∷ []);
  heap = record { objects = []; numerals = []; root = text (34 ∷ 10 ∷ 55296 ∷ 65 ∷ []) };
}

abbrev pub samples : List Sample
samples = five ∷ empty_map ∷ empty_object ∷ ring ∷ shared ∷ ring_map ∷ holed ∷ escapes ∷ []

-- each sample is accepted and means its heap
abbrev pub SamplesStand : Type 0
SamplesStand = AllByRecursion (λ s. verdict s.dump ≡ Ok s.heap) samples
