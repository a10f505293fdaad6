-- The rows of a heap, place by place; what they name is there, since the heap is sound.
use Rattle.std.proofs.Common.{◌≡◌, ℕ, ◌<◌, length, get_or, sym, ap, ◌∙◌, subst, arith}
use Rattle.std.proofs.lemmas.List.FromFn.{length-map-range_with_len, get_or-map-range_with_len}
use Rattle.dump.specs.declared.row.Row.{Row}
use Rattle.dump.specs.Heaps.{Object, nobody, empty_numeral}
use Rattle.dump.specs.Meaning.{object_of, numeral_of, kind_of, parts_of}
use Rattle.dump.specs.Places.{row_at}
use Rattle.reads.specs.Parts.{part_count}
use Rattle.reads.proofs.Listed.{length-parts}
use Rattle.reads.proofs.Sound.{Sections, sections, RowPlaced, row_placed, PartPlaced, part_placed}
use Rattle.heap_check.specs.declared.checked.Checked.{Checked}
use Rattle.heap_check.specs.Heaps.{model, dump_of}

module _ (h : Checked) where
  pub passed : Sections (dump_of h) h.raw.layout
  passed = sections (dump_of h) h.raw.layout h.sound

  pub numerals_are : length (model h).numerals ≡ h.raw.layout.numerals.count
  numerals_are = length-map-range_with_len (numeral_of (dump_of h) h.raw.layout) 0 h.raw.layout.numerals.count

  pub objects_are : length (model h).objects ≡ h.raw.layout.objects.count
  objects_are = length-map-range_with_len (object_of (dump_of h) h.raw.layout) 0 h.raw.layout.objects.count

  module _ (i : ℕ) (there : i < length (model h).numerals) where
    pub a_numeral : i < h.raw.layout.numerals.count
    a_numeral = omega (arith, numerals_are)

    pub numeral_at : get_or (model h).numerals i empty_numeral ≡ numeral_of (dump_of h) h.raw.layout i
    numeral_at = get_or-map-range_with_len (numeral_of (dump_of h) h.raw.layout) 0 h.raw.layout.numerals.count i i empty_numeral a_numeral (omega arith)

  module _ (i : ℕ) (there : i < length (model h).objects) where
    pub an_object : i < h.raw.layout.objects.count
    an_object = omega (arith, objects_are)

    pub object_at_lem : get_or (model h).objects i nobody ≡ object_of (dump_of h) h.raw.layout i
    object_at_lem = get_or-map-range_with_len (object_of (dump_of h) h.raw.layout) 0 h.raw.layout.objects.count i i nobody an_object (omega arith)

    -- a row that was read is the object's
    module _ (r : Row) (is : r ≡ row_at (dump_of h) h.raw.layout i) where
      pub kind_at_lem : kind_of (dump_of h) h.raw.layout r ≡ (get_or (model h).objects i nobody).kind
      kind_at_lem = ap (kind_of (dump_of h) h.raw.layout) is ∙ sym (ap (λ (o : Object). o.kind) object_at_lem)

      pub parts_at : parts_of (dump_of h) h.raw.layout r ≡ (get_or (model h).objects i nobody).parts
      parts_at = ap (parts_of (dump_of h) h.raw.layout) is ∙ sym (ap (λ (o : Object). o.parts) object_at_lem)

      pub count_at : part_count r ≡ length (get_or (model h).objects i nobody).parts
      count_at = sym (length-parts (dump_of h) h.raw.layout r) ∙ ap length parts_at

      pub row_at_lem : RowPlaced h.raw.layout r
      row_at_lem = subst (RowPlaced h.raw.layout) (sym is) (row_placed (dump_of h) h.raw.layout i passed an_object)

      pub part_there : (k : ℕ) → k < length (get_or (model h).objects i nobody).parts → PartPlaced (dump_of h) h.raw.layout r k
      part_there k under =
          let few : k < part_count (row_at (dump_of h) h.raw.layout i) = rw (← is, count_at) under in
          subst (λ (x : Row). PartPlaced (dump_of h) h.raw.layout x k) (sym is) (part_placed (dump_of h) h.raw.layout i k passed an_object few)
