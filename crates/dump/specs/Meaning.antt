-- The heap that a dump means, read off its rows.
use Rattle.std.specs.Prelude.{ℕ, ◌+◌, ◌-◌, ◌*◌, ◌%◌, cond, List, [], ◌∷◌, ◌++◌, map, ℤ, pos, Some, None, Option, ◌==◌}
use Rattle.std.specs.Int.{w32, w64}
use Rattle.std.proofs.Common.{to_z}
use Rattle.std.specs.List.{range_with_len}
use Rattle.dump.specs.declared.layout.Layout.{Layout}
use Rattle.dump.specs.declared.row.Cell.{Cell}
use Rattle.dump.specs.declared.row.Row.{Row}
use Rattle.dump.specs.Bytes.{bytes_at}
use Rattle.dump.specs.Kinds.{view_kind, error_name}
use Rattle.dump.specs.Places.{text_of, numeral_bits, numeral_text, row_at, key_at, value_at, root_at}
use Rattle.dump.specs.Heaps.{Text, Value, undefined, null, hole, boolean, whole, double, bigint, text, object, Key, index, name, Kind, boolean_object, number_object, bigint_object, string_object, regexp, date, plain, sparse, dense, map as map_kind, set as set_kind, buffer, view, error, Part, property, element, entry, member, below, cause, Object, Numeral, Heap}

-- a low and a high word as one number of 64 bits
abbrev pub joined : ℕ → ℕ → ℕ
joined low high = low + high * 4294967296

-- the number that 32 or 64 bits hold in two's complement
abbrev pub signed32 : ℕ → ℤ
signed32 n = to_z w32 n

abbrev pub signed64 : ℕ → ℤ
signed64 n = to_z w64 n

module _ (b : List ℕ) (l : Layout) where
  abbrev pub value_of : Cell → Value
  value_of v =
      cond (v.tag == 0) undefined
      (cond (v.tag == 1) null
      (cond (v.tag == 2) (boolean (v.low == 1))
      (cond (v.tag == 3) (whole (signed32 v.low))
      (cond (v.tag == 4) (whole (pos v.low))
      (cond (v.tag == 5) (double (joined v.low v.high))
      (cond (v.tag == 6) (bigint (text_of b l v.low))
      (cond (v.tag == 7) (text (text_of b l v.low))
      (cond (v.tag == 8) (object v.low)
      hole))))))))

  abbrev pub key_of : Cell → Key
  key_of k = cond (k.tag == 7) (name (text_of b l k.low)) (index k.low)

  -- the text with a number counted from 1, none for 0
  abbrev pub maybe_text : ℕ → Option Text
  maybe_text n = cond (n == 0) None (Some (text_of b l (n - 1)))

  abbrev pub kind_of : Row → Kind
  kind_of r =
      cond (r.kind == 0) (boolean_object (r.a == 1))
      (cond (r.kind == 1) (number_object (joined r.a r.b))
      (cond (r.kind == 2) (bigint_object (text_of b l r.a))
      (cond (r.kind == 3) (string_object (text_of b l r.a))
      (cond (r.kind == 4) (regexp (text_of b l r.a) r.b)
      (cond (r.kind == 5) (date (cond (r.c == 1) None (Some (signed64 (joined r.a r.b)))))
      (cond (r.kind == 6) plain
      (cond (r.kind == 7) (sparse r.c)
      (cond (r.kind == 8) (dense r.b)
      (cond (r.kind == 9) map_kind
      (cond (r.kind == 10) set_kind
      (cond (r.kind == 11) (buffer (bytes_at b (l.octets.start + r.a) r.b) (cond (r.c == 1) (Some r.d) None))
      (cond (r.kind == 12) (view (view_kind r.b) r.c (cond (r.e % 2 == 1) 0 r.d) (r.e % 2 == 1))
      (error (error_name r.a) (maybe_text r.b) (maybe_text r.c))))))))))))))

  -- the part p in each of its roles
  abbrev pub property_at : ℕ → Part
  property_at p = property (key_of (key_at b l p)) (value_of (value_at b l p))

  abbrev pub element_at : ℕ → Part
  element_at p = element (value_of (value_at b l p))

  abbrev pub entry_at : ℕ → Part
  entry_at p = entry (value_of (key_at b l p)) (value_of (value_at b l p))

  abbrev pub member_at : ℕ → Part
  member_at p = member (value_of (value_at b l p))

  abbrev pub cause_at : ℕ → Part
  cause_at p = cause (value_of (value_at b l p))

  abbrev pub parts_of : Row → List Part
  parts_of r =
      cond (r.kind == 6) (map property_at (range_with_len r.a r.b))
      (cond (r.kind == 7) (map property_at (range_with_len r.a r.b))
      (cond (r.kind == 8) (map element_at (range_with_len r.a r.b) ++ map property_at (range_with_len r.c r.d))
      (cond (r.kind == 9) (map entry_at (range_with_len r.a r.b))
      (cond (r.kind == 10) (map member_at (range_with_len r.a r.b))
      (cond (r.kind == 12) (below r.a ∷ [])
      (cond (r.kind == 13) (map cause_at (range_with_len r.d r.e))
      []))))))

  abbrev pub object_of : ℕ → Object
  object_of i = record { kind = kind_of (row_at b l i); parts = parts_of (row_at b l i) }

  abbrev pub numeral_of : ℕ → Numeral
  numeral_of i = record { bits = numeral_bits b l i; digits = text_of b l (numeral_text b l i) }

  abbrev pub heap_of : Heap
  heap_of = record {
    objects = map object_of (range_with_len 0 l.objects.count);
    numerals = map numeral_of (range_with_len 0 l.numerals.count);
    root = value_of (root_at b l);
  }
