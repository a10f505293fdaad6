-- The rules of part rows, each in its role for its object.
use Rattle.std.specs.Prelude.{ℕ, ◌+◌, ◌-◌, Bool, true, false, cond, not, ◌&&◌, ◌||◌, List, [], ◌∷◌, is_some, Some, None, Option, codes, ◌==◌, nat_lt}
use Rattle.dump.specs.declared.layout.Layout.{Layout}
use Rattle.dump.specs.declared.row.Cell.{Cell}
use Rattle.dump.specs.declared.row.Row.{Row}
use Rattle.dump.specs.Places.{text_of, row_at, key_at, value_at}
use Rattle.dump.specs.Rules.{Verdict, Rule, rule, judge, each, and_then, any_below}
use Rattle.numeral.specs.Digits.{index_of}
use Rattle.numeral.specs.Words.{same_units}
use Rattle.rules.specs.declared.role.Role.{Role}
use Rattle.rules.specs.declared.role.Role.TheVariants.{Property, Element, Entry, Member, Cause, Loose}
use Rattle.rules.specs.declared.role.PartRun.{PartRun}
use Rattle.shapes.specs.Cells.{tag_ok, place_ok, same_zero, minus_zero}
use Rattle.shapes.specs.Rows.{one_run}
use Rattle.rules.specs.Cells.{bigint_ok}
use Rattle.rules.specs.Objects.{parts_below}

-- The runs of parts of an object: one for most kinds, two for a dense array.
abbrev pub first_run : Row → PartRun
first_run r = record {
  role =
      cond (r.kind == 6) (Property None)
      (cond (r.kind == 7) (Property (Some r.c))
      (cond (r.kind == 8) Element
      (cond (r.kind == 9) Entry
      (cond (r.kind == 10) Member
      (cond (r.kind == 13) Cause
      Loose)))));
  first = cond (one_run r.kind || r.kind == 8) r.a (cond (r.kind == 13) r.d 0);
  count = cond (one_run r.kind || r.kind == 8) r.b (cond (r.kind == 13) r.e 0);
}

abbrev pub second_run : Row → PartRun
second_run r = record {
  role = Property (Some 0);
  first = cond (r.kind == 8) r.c 0;
  count = cond (r.kind == 8) r.d 0;
}

abbrev pub may_be_hole : Role → Bool
may_be_hole (Property array) = false
may_be_hole Element = true
may_be_hole Entry = false
may_be_hole Member = false
may_be_hole Cause = false
may_be_hole Loose = false

-- the limit of the index keys of an array, or of an object that is none
abbrev pub limit_of : Option ℕ → ℕ
limit_of None = 4294967295
limit_of (Some n) = n

module _ (b : List ℕ) (l : Layout) where
  -- the key of the part p is the text with this number
  abbrev pub named : ℕ → ℕ → Bool
  named text p = (key_at b l p).tag == 7 && (key_at b l p).low == text

  -- a key that array objects have or lack by themselves
  abbrev pub reserved : ℕ → Bool
  reserved text = same_units (text_of b l text) (codes "length") || same_units (text_of b l text) (codes "__proto__")

  -- An index key is below the limit, and first or after a lower index key.
  abbrev pub index_ok : ℕ → ℕ → ℕ → Bool
  index_ok limit first k =
      nat_lt (key_at b l (first + k)).low (cond ((key_at b l (first + k)).tag == 3) 2147483648 4294967295)
      && (nat_lt (key_at b l (first + k)).low limit
      && cond (k == 0) true (not ((key_at b l (first + (k - 1))).tag == 7) && nat_lt (key_at b l (first + (k - 1))).low (key_at b l (first + k)).low))

  -- A text key is no index, nothing reserved in an array, and none before it in the run is that text.
  abbrev pub name_ok : Bool → ℕ → ℕ → Bool
  name_ok array first k =
      not (is_some (index_of (text_of b l (key_at b l (first + k)).low)))
      && (not (array && reserved (key_at b l (first + k)).low)
      && not (any_below (λ j. named (key_at b l (first + k)).low (first + j)) k))

  abbrev pub property_ok : ℕ → Bool → ℕ → ℕ → Bool
  property_ok limit array first k =
      cond ((key_at b l (first + k)).tag == 7) (name_ok array first k)
      (((key_at b l (first + k)).tag == 3 || (key_at b l (first + k)).tag == 4) && index_ok limit first k)

  -- 7: a part has a key that its role wants
  abbrev pub key_ok : Role → ℕ → ℕ → Bool
  key_ok (Property array) first k = property_ok (limit_of array) (is_some array) first k
  key_ok Element first k = (key_at b l (first + k)).tag == 0
  key_ok Entry first k = true
  key_ok Member first k = (key_at b l (first + k)).tag == 0
  key_ok Cause first k = (key_at b l (first + k)).tag == 0
  key_ok Loose first k = true

  -- what tells the entries of a Map, or the members of a Set, apart
  abbrev pub identity : Role → ℕ → Cell
  identity (Property array) p = key_at b l p
  identity Element p = value_at b l p
  identity Entry p = key_at b l p
  identity Member p = value_at b l p
  identity Cause p = value_at b l p
  identity Loose p = value_at b l p

  -- it is not minus zero, and none before it in the run is the same
  abbrev pub apart : Role → ℕ → ℕ → Bool
  apart role first k =
      not (minus_zero (identity role (first + k)))
      && not (any_below (λ j. same_zero (identity role (first + k)) (identity role (first + j))) k)

  -- 8: a Map's keys and a Set's values are apart
  abbrev pub member_ok : Role → ℕ → ℕ → Bool
  member_ok (Property array) first k = true
  member_ok Element first k = true
  member_ok Entry first k = apart Entry first k
  member_ok Member first k = apart Member first k
  member_ok Cause first k = true
  member_ok Loose first k = true

  -- the part k of a run
  abbrev pub part_rules : PartRun → ℕ → List Rule
  part_rules r k =
      rule 4 (tag_ok false (key_at b l (r.first + k)) && tag_ok (may_be_hole r.role) (value_at b l (r.first + k)))
      ∷ rule 5 (place_ok l.texts.count l.objects.count (key_at b l (r.first + k)) && place_ok l.texts.count l.objects.count (value_at b l (r.first + k)))
      ∷ rule 6 (bigint_ok b l (key_at b l (r.first + k)) && bigint_ok b l (value_at b l (r.first + k)))
      ∷ rule 7 (key_ok r.role r.first k)
      ∷ rule 8 (member_ok r.role r.first k)
      ∷ []

  abbrev pub part_row : PartRun → ℕ → Verdict
  part_row r k = judge 6 (r.first + k) (part_rules r k)

  abbrev pub part_run : PartRun → Verdict
  part_run r = each (part_row r) r.count

  -- the parts of the object i
  abbrev pub object_parts : ℕ → Verdict
  object_parts i = and_then (part_run (first_run (row_at b l i))) (λ _. part_run (second_run (row_at b l i)))

  -- the parts in no run
  abbrev pub loose_run : PartRun
  loose_run = record { role = Loose; first = parts_below b l l.objects.count; count = l.parts.count - parts_below b l l.objects.count }
