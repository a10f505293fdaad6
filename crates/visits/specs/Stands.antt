-- What a plan by places stands on: the visit from a root ends, with just what is reachable, and its order tells which edges close a cycle.
use Rattle.std.specs.Prelude.{◌≡◌, ℕ, ◌<◌, ◌≤◌, true, ◌⊎◌, List, [], ◌∷◌, ◌++◌}
use Rattle.dump.specs.Heaps.{object, Heap}
use Rattle.formed.specs.Formed.{Formed}
use Rattle.planner.specs.Visits.{edges, mem, at, visit_run, fuel, visit}
use Rattle.planner.specs.Names.{place_in, count, uses, needs_name, inlines}

-- what is reachable from the root
pub data Reach (h : Heap) (r : ℕ) : ℕ → Type 0 where
  at_root : Reach h r r
  by_edge : {i j : ℕ} → Reach h r i → mem j (edges h i) ≡ true → Reach h r j

-- the root is the last
pub record Last (r : ℕ) (post : List ℕ) : Type 0 where
  pub before : List ℕ
  pub whole : post ≡ before ++ (r ∷ [])

-- An edge goes back if its target has a smaller place, and turns if it has not.
pub record Stands (h : Heap) (r : ℕ) : Type 0 where
  -- no object is left half visited
  pub ends : (visit_run h (fuel h.objects) (record { stack = at r (edges h r) ∷ []; post = [] })).stack ≡ []
  pub once : (y : ℕ) → count y (visit h r) ≤ 1
  pub last : Last r (visit h r)
  pub reached : (y : ℕ) → mem y (visit h r) ≡ true → Reach h r y
  pub reachable : (y : ℕ) → Reach h r y → mem y (visit h r) ≡ true
  -- an edge goes back, or it turns and closes a cycle
  pub goes : (i j : ℕ) → mem i (visit h r) ≡ true → mem j (edges h i) ≡ true → (place_in (visit h r) j < place_in (visit h r) i) ⊎ ((place_in (visit h r) i ≤ place_in (visit h r) j) × Reach h j i)
  -- an object with an edge that turns needs a name
  pub named : (i j : ℕ) → mem j (edges h i) ≡ true → place_in (visit h r) i ≤ place_in (visit h r) j → needs_name h (visit h r) i ≡ true
  -- what such an edge goes to is used twice
  pub twice : (i j : ℕ) → mem i (visit h r) ≡ true → mem j (edges h i) ≡ true → place_in (visit h r) i ≤ place_in (visit h r) j → 2 ≤ uses h (visit h r) j
  -- the edges of what inlines go back, as do those to it, and it is used just once
  pub back : (x j : ℕ) → inlines h (visit h r) x ≡ true → mem j (edges h x) ≡ true → place_in (visit h r) j < place_in (visit h r) x
  pub ahead : (i x : ℕ) → inlines h (visit h r) x ≡ true → mem i (visit h r) ≡ true → mem x (edges h i) ≡ true → place_in (visit h r) x < place_in (visit h r) i
  pub single : (x : ℕ) → inlines h (visit h r) x ≡ true → mem x (visit h r) ≡ true → uses h (visit h r) x ≡ 1

-- of every heap of an accepted dump whose root is an object
abbrev pub VisitStands : Type 0
VisitStands = (h : Heap) (r : ℕ) → Formed h → h.root ≡ object r → Stands h r
