-- The buffers of an accepted dump have no more bytes than its section of bytes may have.
use Rattle.std.proofs.Common.{◌≡◌, ℕ, ◌+◌, ◌<◌, ◌≤◌, Bool, true, false, cond, ◌&&◌, eqb, leb, List, Option, Ok, subst, arith}
use lib.Pow.{are_bytes}
use Rattle.std.specs.List.{AllByRecursion as All}
use Rattle.std.proofs.lemmas.Bool.{and_parts, leb-true}
use Rattle.dump.specs.declared.layout.Layout.{Layout}
use Rattle.dump.specs.declared.row.Row.{Row}
use Rattle.dump.specs.Bytes.{bytes_at}
use Rattle.dump.specs.Heaps.{Kind, buffer, Heap}
use Rattle.dump.specs.Meaning.{kind_of, object_of, heap_of}
use Rattle.dump.specs.Places.{row_at}
use Rattle.dump.proofs.Runs.{length-bytes}
use Rattle.shapes.specs.Rows.{bytes_in, bytes_ok}
use Rattle.rules.specs.Objects.{bytes_below}
use Rattle.rules.specs.Verdicts.{verdict}
use Rattle.formed.specs.Sound.{Sound}
use Rattle.formed.proofs.Layouts.{few_octets}
use Rattle.formed.proofs.Lists.{all_counting}
use Rattle.formed.proofs.Heaps as heaps
use Rattle.formed.proofs.Verdict as verdicts
use Rattle.effects.specs.Bounded.{KindShort, ObjectShort, Bounded}

-- a buffer's bytes lie in the section of bytes
row_bytes : (r : Row) (begin total most : ℕ) → bytes_ok r begin total ≡ true → total ≤ most → bytes_in r ≤ most
row_bytes r begin total most h few = go (eqb r.kind 11) h
  where
    go : (t : Bool) → cond t (eqb r.a begin && leb (begin + r.b) total) true ≡ true → cond t r.b 0 ≤ most
    go true e = omega (arith, leb-true (begin + r.b) total (and_parts _ _ e).1)
    go false e = omega arith

-- of the kinds that a choice may give
other : (t : Bool) (k m : Kind) → KindShort k → KindShort m → KindShort (cond t k m)
other true k m p q = p
other false k m p q = q

module _ (b : List ℕ) (l : Layout) where
  kind_short : (r : Row) → bytes_in r ≤ 1048576 → KindShort (kind_of b l r)
  kind_short r few =
      other (eqb r.kind 0) _ _ tt (other (eqb r.kind 1) _ _ tt (other (eqb r.kind 2) _ _ tt (other (eqb r.kind 3) _ _ tt
      (other (eqb r.kind 4) _ _ tt (other (eqb r.kind 5) _ _ tt (other (eqb r.kind 6) _ _ tt (other (eqb r.kind 7) _ _ tt
      (other (eqb r.kind 8) _ _ tt (other (eqb r.kind 9) _ _ tt (other (eqb r.kind 10) _ _ tt
      (by_buffer (eqb r.kind 11) few _ _ (other (eqb r.kind 12) _ _ tt tt))))))))))))
    where
      by_buffer : (t : Bool) → cond t r.b 0 ≤ 1048576 → (maximum : Option ℕ) (m : Kind) → KindShort m → KindShort (cond t (buffer (bytes_at b (l.octets.start + r.a) r.b) maximum) m)
      by_buffer true g maximum m q = rw (length-bytes b (l.octets.start + r.a) r.b) g
      by_buffer false g maximum m q = q

  object_short : Sound b l → l.octets.count ≤ 1048576 → (i : ℕ) → i < l.objects.count → ObjectShort (object_of b l i)
  object_short s few i g =
      let h = s.objects i g in
      let fits = and_parts _ _ h.1.0 in
      let runs = and_parts _ _ fits.1 in
      kind_short (row_at b l i) (row_bytes (row_at b l i) (bytes_below b l i) l.octets.count 1048576 runs.1 few)

  objects_short : Sound b l → l.octets.count ≤ 1048576 → All ObjectShort (heap_of b l).objects
  objects_short s few = all_counting ObjectShort (object_of b l) 0 l.objects.count (λ k g. object_short s few (0 + k) (omega arith))

pub bounded : (b : List ℕ) (h : Heap) → are_bytes b ≡ true → verdict b ≡ Ok h → Bounded h
bounded b h bytes accepted =
    let m = (verdicts.every b h).0 accepted in
    record { formed = heaps.every b h bytes accepted; short = subst (λ (z : Heap). All ObjectShort z.objects) m.3 (objects_short b m.0 m.2 (few_octets b m.0 m.1)) }
