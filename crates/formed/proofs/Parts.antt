-- The parts of a sound dump are well formed in each of their roles.
use Rattle.std.proofs.Common.{◌≡◌, ℕ, zero, suc, ◌+◌, ◌-◌, ◌<◌, Bool, true, false, not, ◌&&◌, eqb, ltb, ◌⊎◌, List, map, is_some, Option, codes, sym, refl, ◌∙◌, subst, inl, inr, ⊎_elim, arith}
use lib.Pow.{are_bytes}
use Rattle.std.specs.List.{range_with_len, AllByRecursion as All}
use Rattle.std.proofs.lemmas.Bool.{cases_Bool, cond-true, cond-false, and_parts, or_parts, not-true, ltb-true, eqb-true, ne_eqb, both_ways, and_from, eq-eqb}
use Rattle.std.proofs.lemmas.Bool.Decides.{not_from_Decides}
use Rattle.dump.specs.declared.layout.Layout.{Layout}
use Rattle.dump.specs.declared.row.Cell.{Cell}
use Rattle.dump.specs.Heaps.{index, name}
use Rattle.dump.specs.Meaning.{value_of, key_of, property_at, element_at, entry_at, member_at, cause_at}
use Rattle.dump.specs.Places.{text_of, key_at, value_at}
use Rattle.dump.specs.Rules.{Hold, any_below}
use Rattle.dump.proofs.Rules.{none_passes}
use Rattle.numeral.specs.Digits.{index_of}
use Rattle.numeral.proofs.Laws.{same_units_lem}
use Rattle.shapes.specs.Cells.{place_ok, same_zero, minus_zero}
use Rattle.rules.specs.declared.role.Role.TheVariants.{Property, Element, Entry, Member, Cause}
use Rattle.rules.specs.declared.role.PartRun.{PartRun}
use Rattle.rules.specs.Parts.{may_be_hole, named, reserved, limit_of, index_ok, name_ok, property_ok, part_rules}
use Rattle.formed.specs.Sound.{Sound}
use Rattle.formed.specs.Formed.{Pairwise, KeyFormed, KeyBefore, Kept, PropertyFormed, ElementFormed, EntryFormed, MemberFormed, CauseFormed, PropertyBefore, EntryApart, MemberApart, Properties, SameValueZero}
use Rattle.formed.proofs.Lists.{all_counting, pairwise_counting}
use Rattle.formed.proofs.Texts.{same_text}
use Rattle.formed.proofs.Values.{Placed, value_formed, element_formed}
use Rattle.formed.proofs.SameValues.{same_value_sym, same_found, is_minus_zero}
use Rattle.formed.proofs.Words.{units_below, low_below, high_below}

-- what the tests of a key tell, outside of any dump
not-false : (x y : Bool) → not (x && y) ≡ true → x ≡ true → y ≡ false
not-false true true h e = absurd (both_ways _ refl h)
not-false true false h e = refl
not-false false y h e = absurd (both_ways _ refl e)

-- an index key at place k, with the one before it
index_below_lem : (low most limit : ℕ) (c : Bool) → (ltb low most && (ltb low limit && c)) ≡ true → (low < limit) × (c ≡ true)
index_below_lem low most limit c h =
    let p = and_parts (ltb low most) _ h in
    let q = and_parts (ltb low limit) c p.1 in
    (ltb-true low limit q.0, q.1)

module _ (b : List ℕ) (l : Layout) (bytes : are_bytes b ≡ true) (s : Sound b l) where
  -- the rules of one part
  module _ (r : PartRun) (k : ℕ) (h : Hold (part_rules b l r k)) where
    pub key_placed : Placed b l false (key_at b l (r.first + k))
    key_placed = record {
      tag = (and_parts _ _ h.0).0;
      place = (and_parts _ _ h.1.0).0;
      bigint = (and_parts _ _ h.1.1.0).0;
      low = low_below b bytes _;
      high = high_below b bytes _;
    }

    pub value_placed : Placed b l (may_be_hole r.role) (value_at b l (r.first + k))
    value_placed = record {
      tag = (and_parts _ _ h.0).1;
      place = (and_parts _ _ h.1.0).1;
      bigint = (and_parts _ _ h.1.1.0).1;
      low = low_below b bytes _;
      high = high_below b bytes _;
    }

  -- a text key's number is that of a text
  name_there : (c : Cell) → eqb c.tag 7 ≡ true → place_ok l.texts.count l.objects.count c ≡ true → c.low < l.texts.count
  name_there c e h = let t = eqb-true c.tag 7 e in ltb-true c.low l.texts.count (rw t at h)

  key_name : (c : Cell) → eqb c.tag 7 ≡ true → key_of b l c ≡ name (text_of b l c.low)
  key_name c e = cond-true (eqb c.tag 7) (name (text_of b l c.low)) (index c.low) e

  key_index : (c : Cell) → eqb c.tag 7 ≡ false → key_of b l c ≡ index c.low
  key_index c e = cond-false (eqb c.tag 7) (name (text_of b l c.low)) (index c.low) e

  -- properties
  module _ (size : Option ℕ) (first count : ℕ) (holds : (k : ℕ) → k < count → Hold (part_rules b l (record { role = Property size; first = first; count = count }) k)) where
    abbrev cell : ℕ → Cell
    cell k = key_at b l (first + k)

    abbrev limit : ℕ
    limit = limit_of size

    abbrev array : Bool
    array = is_some size

    rule7 : (k : ℕ) → k < count → property_ok b l limit array first k ≡ true
    rule7 k g = (holds k g).1.1.1.0

    at_name : (k : ℕ) → k < count → eqb (cell k).tag 7 ≡ true → name_ok b l array first k ≡ true
    at_name k g e = sym (cond-true (eqb (cell k).tag 7) (name_ok b l array first k) _ e) ∙ rule7 k g

    at_index : (k : ℕ) → k < count → eqb (cell k).tag 7 ≡ false → index_ok b l limit first k ≡ true
    at_index k g e = (and_parts _ _ (sym (cond-false (eqb (cell k).tag 7) (name_ok b l array first k) _ e) ∙ rule7 k g)).1

    name_parts : (k : ℕ) → k < count → eqb (cell k).tag 7 ≡ true
        → (is_some (index_of (text_of b l (cell k).low)) ≡ false) × (not (array && reserved b l (cell k).low) ≡ true) × (any_below (λ j. named b l (cell k).low (first + j)) k ≡ false)
    name_parts k g e =
        let n = and_parts _ _ (at_name k g e) in
        let m = and_parts _ _ n.1 in
        (not-true (is_some (index_of (text_of b l (cell k).low))) n.0, m.0, not-true (any_below (λ j. named b l (cell k).low (first + j)) k) m.1)

    key_formed : (k : ℕ) → k < count → KeyFormed limit array (key_of b l (cell k))
    key_formed k g =
        ⊎_elim
        (λ (e : eqb (cell k).tag 7 ≡ true).
        let n = name_parts k g e in
        subst (KeyFormed limit array) (sym (key_name (cell k) e)) (
          units_below b bytes _ _,
          n.0,
          λ a.
              let w = or_parts _ _ (not-false array (reserved b l (cell k).low) n.1 a) in (
                not_from_Decides _ (same_units_lem (text_of b l (cell k).low) (codes "length")) w.0,
                not_from_Decides _ (same_units_lem (text_of b l (cell k).low) (codes "__proto__")) w.1,
              ),
        ))
        (λ (e : eqb (cell k).tag 7 ≡ false).
        subst (KeyFormed limit array) (sym (key_index (cell k) e))
        (index_below_lem (cell k).low _ limit _ (at_index k g e)).0)
        (cases_Bool (eqb (cell k).tag 7))

    -- an index key comes after lower ones alone
    before_index : (k : ℕ) → k + 1 < count → eqb (cell (k + 1)).tag 7 ≡ false → (eqb (cell k).tag 7 ≡ false) × ((cell k).low < (cell (k + 1)).low)
    before_index k g e =
        let n : eqb (k + 1) 0 ≡ false = ne_eqb (k + 1) 0 (λ i. omega arith) in
        let m : k + 1 - 1 ≡ k = omega arith in
        let x = (index_below_lem (cell (k + 1)).low _ limit _ (at_index (k + 1) g e)).1 in
        let y : (not (eqb (cell (k + 1 - 1)).tag 7) && ltb (cell (k + 1 - 1)).low (cell (k + 1)).low) ≡ true = rw n at x in
        let z = and_parts _ _ (subst (λ j. (not (eqb (cell j).tag 7) && ltb (cell j).low (cell (k + 1)).low) ≡ true) m y) in
        (not-true (eqb (cell k).tag 7) z.0, ltb-true _ _ z.1)

    before_indexes : (i d : ℕ) → i + (d + 1) < count → eqb (cell (i + (d + 1))).tag 7 ≡ false → (eqb (cell i).tag 7 ≡ false) × ((cell i).low < (cell (i + (d + 1))).low)
    before_indexes i zero g e = before_index i g e
    before_indexes i (suc d) g e =
        let m : i + (suc d + 1) ≡ i + (d + 1) + 1 = omega arith in
        let x = before_index (i + (d + 1)) (omega arith) (subst (λ j. eqb (cell j).tag 7 ≡ false) m e) in
        let y = before_indexes i d (omega arith) x.0 in
        (y.0, subst (λ j. (cell i).low < (cell j).low) (sym m) (lt_trans y.1 x.1))
      where
        lt_trans : {x y z : ℕ} → x < y → y < z → x < z
        lt_trans h k = omega arith

    keys_before : (i j : ℕ) → i < j → j < count → KeyBefore (key_of b l (cell i)) (key_of b l (cell j))
    keys_before i j h g =
        ⊎_elim
        (λ (e : eqb (cell j).tag 7 ≡ true). subst (KeyBefore (key_of b l (cell i))) (sym (key_name (cell j) e)) (to_name e (cases_Bool (eqb (cell i).tag 7))))
        (λ (e : eqb (cell j).tag 7 ≡ false).
        let m : i + ((j - (i + 1)) + 1) ≡ j = omega arith in
        let x = before_indexes i (j - (i + 1)) (omega arith) (subst (λ k. eqb (cell k).tag 7 ≡ false) (sym m) e) in
        let y = subst (λ k. (cell i).low < (cell k).low) m x.1 in
        rw (key_index (cell i) x.0, key_index (cell j) e) y)
        (cases_Bool (eqb (cell j).tag 7))
      where
        to_name : eqb (cell j).tag 7 ≡ true → (eqb (cell i).tag 7 ≡ true) ⊎ (eqb (cell i).tag 7 ≡ false) → KeyBefore (key_of b l (cell i)) (name (text_of b l (cell j).low))
        to_name e (inr f) = rw (key_index (cell i) f) tt
        to_name e (inl f) =
            rw (key_name (cell i) f)
            (λ same.
            let there : i < count = omega arith in
            let z = none_passes (λ k. named b l (cell j).low (first + k)) j i (name_parts j g e).2 h in
            let p = name_there (cell i) f (key_placed (record { role = Property size; first = first; count = count }) i (holds i there)).place in
            let q = name_there (cell j) e (key_placed (record { role = Property size; first = first; count = count }) j (holds j g)).place in
            let t = same_text b l s (cell i).low (cell j).low p q same in
            both_ways (named b l (cell j).low (first + i)) z (and_from (eqb (cell i).tag 7) (eqb (cell i).low (cell j).low) f (eq-eqb (cell i).low (cell j).low t)))

    pub properties : Properties l.objects.count limit array (map (property_at b l) (range_with_len first count))
    properties = (
      all_counting (PropertyFormed l.objects.count limit array) (property_at b l) first count (λ k g. (
        key_of b l (cell k),
        value_of b l (value_at b l (first + k)),
        refl,
        key_formed k g,
        value_formed b l bytes (value_at b l (first + k)) (value_placed (record { role = Property size; first = first; count = count }) k (holds k g)),
      )),
      pairwise_counting PropertyBefore (property_at b l) first count (λ i j h g k k' v v' e f.
          let x : key_of b l (cell i) ≡ k = cc in
          let y : key_of b l (cell j) ≡ k' = cc in
          subst (KeyBefore k) y (subst (λ z. KeyBefore z (key_of b l (cell j))) x (keys_before i j h g))),
    )

  -- elements and causes
  pub elements : (first count : ℕ) → ((k : ℕ) → k < count → Hold (part_rules b l (record { role = Element; first = first; count = count }) k)) → All (ElementFormed l.objects.count) (map (element_at b l) (range_with_len first count))
  elements first count holds = all_counting (ElementFormed l.objects.count) (element_at b l) first count (λ k g.
      (value_of b l (value_at b l (first + k)), refl, element_formed b l bytes (value_at b l (first + k)) (value_placed (record { role = Element; first = first; count = count }) k (holds k g))))

  pub causes : (first count : ℕ) → ((k : ℕ) → k < count → Hold (part_rules b l (record { role = Cause; first = first; count = count }) k)) → All (CauseFormed l.objects.count) (map (cause_at b l) (range_with_len first count))
  causes first count holds = all_counting (CauseFormed l.objects.count) (cause_at b l) first count (λ k g.
      (value_of b l (value_at b l (first + k)), refl, value_formed b l bytes (value_at b l (first + k)) (value_placed (record { role = Cause; first = first; count = count }) k (holds k g))))

  -- what a Map or a Set keeps is not minus zero
  kept : (c : Cell) → Placed b l false c → not (minus_zero c) ≡ true → Kept l.objects.count (value_of b l c)
  kept c p h = (value_formed b l bytes c p, λ e. both_ways _ (not-true (minus_zero c) h) (is_minus_zero b l c p e))

  -- entries
  module _ (first count : ℕ) (holds : (k : ℕ) → k < count → Hold (part_rules b l (record { role = Entry; first = first; count = count }) k)) where
    entry_key : (k : ℕ) → k < count → Placed b l false (key_at b l (first + k))
    entry_key k g = key_placed (record { role = Entry; first = first; count = count }) k (holds k g)

    pub entries : All (EntryFormed l.objects.count) (map (entry_at b l) (range_with_len first count)) × Pairwise EntryApart (map (entry_at b l) (range_with_len first count))
    entries = (
      all_counting (EntryFormed l.objects.count) (entry_at b l) first count (λ k g. (
        value_of b l (key_at b l (first + k)),
        value_of b l (value_at b l (first + k)),
        refl,
        kept (key_at b l (first + k)) (entry_key k g) (and_parts _ _ (holds k g).1.1.1.1.0).0,
        value_formed b l bytes (value_at b l (first + k)) (value_placed (record { role = Entry; first = first; count = count }) k (holds k g)),
      )),
      pairwise_counting EntryApart (entry_at b l) first count (λ i j h g k k' v v' e f same.
          let x : value_of b l (key_at b l (first + i)) ≡ k = cc in
          let y : value_of b l (key_at b l (first + j)) ≡ k' = cc in
          let z = subst (λ w. SameValueZero w (value_of b l (key_at b l (first + j)))) (sym x) (subst (SameValueZero k) (sym y) same) in
          let found = same_found b l s (key_at b l (first + j)) (key_at b l (first + i)) (entry_key j g) (entry_key i (omega arith)) (same_value_sym _ _ z) in
          both_ways _ (none_passes (λ n. same_zero (key_at b l (first + j)) (key_at b l (first + n))) j i (not-true _ (and_parts _ _ (holds j g).1.1.1.1.0).1) h) found),
    )

  -- members
  module _ (first count : ℕ) (holds : (k : ℕ) → k < count → Hold (part_rules b l (record { role = Member; first = first; count = count }) k)) where
    member_value : (k : ℕ) → k < count → Placed b l false (value_at b l (first + k))
    member_value k g = value_placed (record { role = Member; first = first; count = count }) k (holds k g)

    pub members : All (MemberFormed l.objects.count) (map (member_at b l) (range_with_len first count)) × Pairwise MemberApart (map (member_at b l) (range_with_len first count))
    members = (
      all_counting (MemberFormed l.objects.count) (member_at b l) first count (λ k g. (
        value_of b l (value_at b l (first + k)),
        refl,
        kept (value_at b l (first + k)) (member_value k g) (and_parts _ _ (holds k g).1.1.1.1.0).0,
      )),
      pairwise_counting MemberApart (member_at b l) first count (λ i j h g v v' e f same.
          let x : value_of b l (value_at b l (first + i)) ≡ v = cc in
          let y : value_of b l (value_at b l (first + j)) ≡ v' = cc in
          let z = subst (λ w. SameValueZero w (value_of b l (value_at b l (first + j)))) (sym x) (subst (SameValueZero v) (sym y) same) in
          let found = same_found b l s (value_at b l (first + j)) (value_at b l (first + i)) (member_value j g) (member_value i (omega arith)) (same_value_sym _ _ z) in
          both_ways _ (none_passes (λ n. same_zero (value_at b l (first + j)) (value_at b l (first + n))) j i (not-true _ (and_parts _ _ (holds j g).1.1.1.1.0).1) h) found),
    )
