-- The parts of an object: how many, and each by its place.
use Rattle.std.proofs.Common.{◌≡◌, ℕ, ◌+◌, ◌-◌, ◌<◌, ◌≤◌, cond, eqb, ltb, List, ◌++◌, map, length, get_or, refl, ap, ◌∙◌, arith, length-append, get_or-append-add}
use lib.ListN.{get_or-append}
use Rattle.std.specs.List.{range_with_len}
use Rattle.std.proofs.lemmas.List.FromFn.{length-map-range_with_len, get_or-map-range_with_len}
use Rattle.std.proofs.lemmas.Bool.Decides.{nat_tests}
use Rattle.dump.specs.declared.layout.Layout.{Layout}
use Rattle.dump.specs.declared.row.Row.{Row}
use Rattle.dump.specs.Heaps.{Part, below}
use Rattle.dump.specs.Meaning.{property_at, element_at, entry_at, member_at, cause_at, parts_of}
use Rattle.reads.specs.Parts.{part_count}

-- an object has so many parts
pub length-parts : (b : List ℕ) (l : Layout) (r : Row) → length (parts_of b l r) ≡ part_count r
length-parts b l r = grind (arith, nat_tests, length-map-range_with_len, length-append)

-- a part of one run of rows, and of one run behind another
one : (f : ℕ → Part) (a n k : ℕ) (d : Part) → k < n → get_or (map f (range_with_len a n)) k d ≡ f (a + k)
one f a n k d h = get_or-map-range_with_len f a n k (a + k) d h refl

early : (f g : ℕ → Part) (a n c m k : ℕ) (d : Part) → k < n → get_or (map f (range_with_len a n) ++ map g (range_with_len c m)) k d ≡ f (a + k)
early f g a n c m k d h =
    get_or-append (map f (range_with_len a n)) (map g (range_with_len c m)) d k (rw length-map-range_with_len h) ∙ one f a n k d h

late : (f g : ℕ → Part) (a n c m k : ℕ) (d : Part) → n ≤ k → k < n + m → get_or (map f (range_with_len a n) ++ map g (range_with_len c m)) k d ≡ g (c + (k - n))
late f g a n c m k d h t =
    let e : k ≡ length (map f (range_with_len a n)) + (k - n) = rw length-map-range_with_len (omega arith) in
    ap (λ i. get_or (map f (range_with_len a n) ++ map g (range_with_len c m)) i d) e
    ∙ get_or-append-add (map f (range_with_len a n)) (map g (range_with_len c m)) (k - n) d
    ∙ one g c m (k - n) d (omega arith)

-- the part k of an object
abbrev pub part_at : List ℕ → Layout → Row → ℕ → Part
part_at b l r k =
    cond (eqb r.kind 6) (property_at b l (r.a + k))
    (cond (eqb r.kind 7) (property_at b l (r.a + k))
    (cond (eqb r.kind 8) (cond (ltb k r.b) (element_at b l (r.a + k)) (property_at b l (r.c + (k - r.b))))
    (cond (eqb r.kind 9) (entry_at b l (r.a + k))
    (cond (eqb r.kind 10) (member_at b l (r.a + k))
    (cond (eqb r.kind 12) (below r.a)
    (cause_at b l (r.d + k)))))))

pub part_at_lem : (b : List ℕ) (l : Layout) (r : Row) (k : ℕ) (d : Part) → k < part_count r → get_or (parts_of b l r) k d ≡ part_at b l r k
part_at_lem b l r k d h = grind (arith, nat_tests, one, early, late)
