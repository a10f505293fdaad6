-- Where the parts of an object stand, and that the cells of a part are placed.
use Rattle.std.specs.Prelude.{◌≡◌, ℕ, ◌+◌, ◌-◌, ◌<◌, true, cond, ◌&&◌, List, ◌==◌, nat_le}
use Rattle.dump.specs.declared.layout.Layout.{Layout}
use Rattle.dump.specs.declared.row.Row.{Row}
use Rattle.dump.specs.Places.{key_at, value_at}
use Rattle.shapes.specs.Cells.{place_ok}
use Rattle.shapes.specs.Rows.{parts_in}

-- how many parts an object has: a view has the buffer below it
abbrev pub part_count : Row → ℕ
part_count r = cond (r.kind == 12) 1 (parts_in r)

-- the number of the row of the part k: a dense array's properties have a run of their own, and so has a cause
abbrev pub part_place : Row → ℕ → ℕ
part_place r k =
    cond (r.kind == 13) (r.d + k)
    (cond (r.kind == 8 && nat_le r.b k) (r.c + (k - r.b))
    (r.a + k))

-- the part p is there, and its key and its value name texts and objects that there are
pub record Placed (b : List ℕ) (l : Layout) (p : ℕ) : Type 0 where
  pub here : p < l.parts.count
  pub key : place_ok l.texts.count l.objects.count (key_at b l p) ≡ true
  pub value : place_ok l.texts.count l.objects.count (value_at b l p) ≡ true
