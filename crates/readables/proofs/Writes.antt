-- The values and parts of a formed heap whose doubles are spelled may be written.
use Rattle.std.proofs.Common.{◌≡◌, ℕ, zero, suc, ◌≤◌, Bool, true, false, List, [], ◌∷◌, length, take, drop, Option, sym, refl, subst, ⊎_elim, arith}
use Rattle.std.specs.List.{AllByRecursion as All}
use Rattle.std.proofs.ByRecursion.{All-take, All-drop}
use Rattle.dump.specs.Heaps as heaps
use Rattle.dump.specs.Heaps.{Value, Key, index, name, Kind, Part, entry, Object, nobody, Heap}
use Rattle.formed.specs.Formed.{ValueFormed, KeyFormed, PropertyFormed, ElementFormed, EntryFormed, MemberFormed, CauseFormed, KindFormed, PartsFormed}
use Rattle.planner.specs.Visits.{object_at}
use Rattle.planner.specs.Lines.{value_unspelled, kind_unspelled}
use Rattle.effects.specs.Readable.{KeyReadable}
use Rattle.readables.specs.Writable.{Writable, ElementWritable, PartWritable, PartSpelled}
use Rattle.readables.proofs.Spelled.{spelled, HeapSpelled}
use Rattle.effects.specs.Bounded.{Bounded}
use Rattle.effects.proofs.Objects.{all_rows, formed_at}

-- what two facts of each element give
all_both : {X : Type 0} (P Q R : X → Type 0) → ((x : X) → P x → Q x → R x) → (xs : List X) → All P xs → All Q xs → All R xs
all_both P Q R f [] a b = tt
all_both P Q R f (x ∷ xs) a b = (f x a.0 b.0, all_both P Q R f xs a.1 b.1)

-- a front and the rest are the whole
all_parts_lem : {X : Type 0} (P : X → Type 0) (n : ℕ) (xs : List X) → All P (take n xs) → All P (drop n xs) → All P xs
all_parts_lem P zero xs a b = b
all_parts_lem P (suc n) [] a b = tt
all_parts_lem P (suc n) (x ∷ xs) a b = (a.0, all_parts_lem P n xs a.1 b)

-- an index below a limit of 32 bits is small
key_readable : (limit : ℕ) (array : Bool) (k : Key) → limit ≤ 4294967296 → KeyFormed limit array k → KeyReadable k
key_readable limit array (index i) l f = omega arith
key_readable limit array (name t) l f = f.0

module _ (numeral : ℕ → Option (List ℕ)) where
  -- a formed value whose double is spelled
  pub writable : (n : ℕ) (v : Value) → ValueFormed n v → value_unspelled numeral v ≡ false → Writable numeral v
  writable n heaps.undefined f s = tt
  writable n heaps.null f s = tt
  writable n heaps.hole f s = f
  writable n (heaps.boolean b) f s = tt
  writable n (heaps.whole z) f s = f
  writable n (heaps.double bits) f s = spelled numeral bits s
  writable n (heaps.bigint t) f s = f
  writable n (heaps.text t) f s = f
  writable n (heaps.object o) f s = tt

  -- each value may be an element
  element_writable : (v : Value) → Writable numeral v → ElementWritable numeral v
  element_writable heaps.undefined w = w
  element_writable heaps.null w = w
  element_writable heaps.hole w = tt
  element_writable (heaps.boolean b) w = w
  element_writable (heaps.whole z) w = w
  element_writable (heaps.double bits) w = w
  element_writable (heaps.bigint t) w = w
  element_writable (heaps.text t) w = w
  element_writable (heaps.object o) w = w

  abbrev From : (Part → Type 0) → Type 0
  From F = (p : Part) → F p → PartSpelled numeral p → PartWritable numeral p

  from_property : (n limit : ℕ) (array : Bool) → limit ≤ 4294967296 → From (PropertyFormed n limit array)
  from_property n limit array l p f s =
      subst (PartWritable numeral) (sym f.2) (key_readable limit array f.0 l f.3, writable n f.1 f.4 (subst (PartSpelled numeral) f.2 s))

  from_element : (n : ℕ) → From (ElementFormed n)
  from_element n p f s =
      subst (PartWritable numeral) (sym f.1)
      (⊎_elim (λ (e : f.0 ≡ heaps.hole). subst (ElementWritable numeral) (sym e) tt)
      (λ (g : ValueFormed n f.0). element_writable f.0 (writable n f.0 g (subst (PartSpelled numeral) f.1 s))) f.2)

  from_entry : (n : ℕ) → From (EntryFormed n)
  from_entry n p f s =
      let both : PartSpelled numeral (entry f.0 f.1) = subst (PartSpelled numeral) f.2 s in
      subst (PartWritable numeral) (sym f.2) (writable n f.0 f.3.0 both.0, writable n f.1 f.4 both.1)

  from_member : (n : ℕ) → From (MemberFormed n)
  from_member n p f s = subst (PartWritable numeral) (sym f.1) (writable n f.0 f.2.0 (subst (PartSpelled numeral) f.1 s))

  from_cause : (n : ℕ) → From (CauseFormed n)
  from_cause n p f s = subst (PartWritable numeral) (sym f.1) (writable n f.0 f.2 (subst (PartSpelled numeral) f.1 s))

  none_parts : (ps : List Part) → ps ≡ [] → All (PartWritable numeral) ps
  none_parts ps e = subst (All (PartWritable numeral)) (sym e) tt

  each_part : (F : Part → Type 0) → From F → (ps : List Part) → All F ps → All (PartSpelled numeral) ps → All (PartWritable numeral) ps
  each_part F from ps a s = all_both F (PartSpelled numeral) (PartWritable numeral) from ps a s

  -- the parts of a formed object whose doubles are spelled
  parts_by_kind : (h : Heap) (n : ℕ) (k : Kind) (ps : List Part) → KindFormed k → PartsFormed h n k ps → All (PartSpelled numeral) ps → All (PartWritable numeral) ps
  parts_by_kind h n (heaps.boolean_object v) ps g f s = none_parts ps f
  parts_by_kind h n (heaps.number_object bits) ps g f s = none_parts ps f
  parts_by_kind h n (heaps.bigint_object t) ps g f s = none_parts ps f
  parts_by_kind h n (heaps.string_object t) ps g f s = none_parts ps f
  parts_by_kind h n (heaps.regexp t flags) ps g f s = none_parts ps f
  parts_by_kind h n (heaps.date time) ps g f s = none_parts ps f
  parts_by_kind h n heaps.plain ps g f s = each_part (PropertyFormed n 4294967295 false) (from_property n 4294967295 false (omega arith)) ps f.0 s
  parts_by_kind h n (heaps.sparse limit) ps g f s = each_part (PropertyFormed n limit true) (from_property n limit true (omega arith)) ps f.0 s
  parts_by_kind h n (heaps.dense count) ps g f s =
      all_parts_lem (PartWritable numeral) count ps
      (each_part (ElementFormed n) (from_element n) (take count ps) f.1 (All-take (PartSpelled numeral) count ps s))
      (each_part (PropertyFormed n 0 true) (from_property n 0 true (omega arith)) (drop count ps) f.2.0 (All-drop (PartSpelled numeral) count ps s))
  parts_by_kind h n heaps.map ps g f s = each_part (EntryFormed n) (from_entry n) ps f.0 s
  parts_by_kind h n heaps.set ps g f s = each_part (MemberFormed n) (from_member n) ps f.0 s
  parts_by_kind h n (heaps.buffer bytes maximum) ps g f s = none_parts ps f
  parts_by_kind h n (heaps.view k offset count tracking) ps g f s = subst (All (PartWritable numeral)) (sym f.part) (tt, tt)
  parts_by_kind h n (heaps.error e message stack) ps g f s = each_part (CauseFormed n) (from_cause n) ps f.1 s

  module _ (h : Heap) (f : Bounded h) where
    pub parts_at : HeapSpelled numeral h → (o : ℕ) → All (PartWritable numeral) (object_at h o).parts
    parts_at s o =
        let g = formed_at h f o in
        parts_by_kind h (length h.objects) (object_at h o).kind (object_at h o).parts g.0 g.1
        (all_rows (λ (x : Object). All (PartSpelled numeral) x.parts) h.objects o nobody tt s.parts)

    pub kind_at_lem : HeapSpelled numeral h → (o : ℕ) → kind_unspelled numeral (object_at h o).kind ≡ false
    kind_at_lem s o = all_rows (λ (x : Object). kind_unspelled numeral x.kind ≡ false) h.objects o nobody refl s.kinds

    pub root_writable : HeapSpelled numeral h → Writable numeral h.root
    root_writable s = writable (length h.objects) h.root f.formed.root s.root
