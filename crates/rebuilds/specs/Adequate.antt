-- What an order of a heap's objects must have for a plan by places. The order of a visit has it.
use Rattle.std.specs.Prelude.{◌≡◌, ℕ, ◌<◌, ◌≤◌, true, List, [], length}
use Rattle.dump.specs.Heaps.{object, Heap}
use Rattle.planner.specs.Visits.{edges, mem}
use Rattle.planner.specs.Names.{count, pos, uses, inlines}

pub record Adequate (h : Heap) (order : List ℕ) : Type 0 where
  pub once : (y : ℕ) → count y order ≤ 1
  pub inside : (y : ℕ) → mem y order ≡ true → y < length h.objects
  pub closed : (i j : ℕ) → mem i order ≡ true → mem j (edges h i) ≡ true → mem j order ≡ true
  pub rooted : (r : ℕ) → h.root ≡ object r → mem r order ≡ true
  -- an edge to an object without edges goes back, to a smaller place
  pub leaf : (i j : ℕ) → mem i order ≡ true → mem j (edges h i) ≡ true → edges h j ≡ [] → pos h order j < pos h order i
  -- the edges of what inlines go back, as do those to it, and it is used just once
  pub back : (x j : ℕ) → inlines h order x ≡ true → mem j (edges h x) ≡ true → pos h order j < pos h order x
  pub ahead : (i x : ℕ) → inlines h order x ≡ true → mem i order ≡ true → mem x (edges h i) ≡ true → pos h order x < pos h order i
  pub single : (x : ℕ) → inlines h order x ≡ true → mem x order ≡ true → uses h order x ≡ 1
