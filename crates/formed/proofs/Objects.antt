-- The objects of a sound dump are well formed, kind by kind.
use Rattle.std.proofs.Common.{◌≡◌, ℕ, zero, suc, ◌+◌, ◌-◌, ◌*◌, ◌%◌, ◌<◌, ◌≤◌, Bool, true, false, cond, ◌&&◌, eqb, ltb, leb, ◌⊎◌, List, [], ◌∷◌, ◌++◌, map, length, take, drop, pos, negsuc, Some, None, sym, refl, ap, ◌∙◌, subst, inl, inr, ⊎_elim, arith, lit≤, length-append}
use lib.Pow.{are_bytes}
use mir.Val.{sel}
use Rattle.std.specs.List.{range_with_len, AllByRecursion as All}
use Rattle.std.proofs.lemmas.List.FromFn.{length-map-range_with_len, get_or-map-range_with_len}
use Rattle.std.proofs.lemmas.List.{take_at, drop_at}
use Rattle.std.proofs.lemmas.Bool.{cond_both, and_parts, eqb-true, leb-true, leb-false, ltb-true, ltb-false, ne_eqb, cases_Bool, both_ways}
use Rattle.std.proofs.lemmas.Bool.Decides.{nat_tests}
use Rattle.dump.specs.declared.layout.Layout.{Layout}
use Rattle.dump.specs.declared.row.Row.{Row}
use Rattle.dump.specs.Bytes.{bytes_at}
use Rattle.dump.specs.Heaps.{buffer, below, Object, nobody}
use Rattle.dump.specs.Kinds.{view_kind, width}
use Rattle.dump.specs.Meaning.{joined, signed64, kind_of, parts_of, object_of, heap_of, maybe_text, element_at, property_at}
use Rattle.dump.specs.Places.{row_at, text_of}
use Rattle.dump.specs.Rules.{Hold}
use Rattle.dump.proofs.Runs.{length-bytes}
use Rattle.shapes.specs.Rows.{words_ok, numbers_ok, limits_ok, buffers_ok, view_ok, time_ok, tracking}
use Rattle.rules.specs.Objects.{bigint_row}
use Rattle.rules.specs.Parts.{first_run, second_run, part_rules}
use Rattle.formed.specs.Sound.{Sound}
use Rattle.formed.specs.Formed.{KindFormed, PartsFormed, ViewFormed, TimeFits, MaybeUnits, MaximumFits, kind_at, Properties, ElementFormed}
use Rattle.formed.proofs.Parts.{properties, elements, causes, entries, members}
use Rattle.formed.proofs.Values.{upto9}
use Rattle.formed.proofs.Words.{units_below, bytes_below_lem}

-- by cases on a number up to 13
upto13 : (P : ℕ → Type 0) → P 0 → P 1 → P 2 → P 3 → P 4 → P 5 → P 6 → P 7 → P 8 → P 9 → P 10 → P 11 → P 12 → P 13 → (n : ℕ) → n ≤ 13 → P n
upto13 P a b c d e f g h i j k l m n q w =
    ⊎_elim (λ (x : q ≤ 9). upto9 P a b c d e f g h i j q x) (λ (x : 10 ≤ q).
    let y : 10 + (q - 10) ≡ q = omega arith in subst P y (rest (q - 10) (omega arith)))
    (small q)
  where
    small : (q : ℕ) → (q ≤ 9) ⊎ (10 ≤ q)
    small q = ⊎_elim (λ (e : leb q 9 ≡ true). inl (leb-true q 9 e)) (λ (e : leb q 9 ≡ false). inr (grind (arith, nat_tests))) (cases_Bool (leb q 9))

    rest : (x : ℕ) → x ≤ 3 → P (10 + x)
    rest zero h = k
    rest (suc zero) h = l
    rest (suc (suc zero)) h = m
    rest (suc (suc (suc zero))) h = n
    rest (suc (suc (suc (suc x)))) h = absurd (omega arith)

kind_small : (r : Row) → words_ok r ≡ true → r.kind ≤ 13
kind_small r h = ⊎_elim (λ (e : leb r.kind 13 ≡ true). leb-true r.kind 13 e) (λ (e : leb r.kind 13 ≡ false). absurd (unknown (leb-false r.kind 13 e))) (cases_Bool (leb r.kind 13))
  where
    no : (n k : ℕ) → 13 < n → k ≤ 13 → eqb n k ≡ false
    no n k g f = ne_eqb n k (λ e. omega arith)

    unknown : 13 < r.kind → ⊥
    unknown g =
        let n : (k : ℕ) → k ≤ 13 → eqb r.kind k ≡ false = λ k f. no r.kind k g f in
        both_ways (words_ok r) (rw (n 0 (lit≤ tt), n 1 (lit≤ tt), n 2 (lit≤ tt), n 3 (lit≤ tt), n 4 (lit≤ tt), n 5 (lit≤ tt), n 6 (lit≤ tt), n 7 (lit≤ tt), n 8 (lit≤ tt), n 9 (lit≤ tt), n 10 (lit≤ tt), n 11 (lit≤ tt), n 12 (lit≤ tt), n 13 (lit≤ tt)) refl) h

time_fits : (n : ℕ) → n < 18446744073709551616 → time_ok n ≡ true → TimeFits (Some (signed64 n))
time_fits n fits h = go (ltb n 9223372036854775808) refl
  where
    early : (n : ℕ) → time_ok n ≡ true → n < 9223372036854775808 → n ≤ 8640000000000000
    early n h l = grind (arith, nat_tests)

    late : (n : ℕ) → time_ok n ≡ true → 9223372036854775808 ≤ n → 18438104073709551616 ≤ n
    late n h l = grind (arith, nat_tests)

    go : (t : Bool) → ltb n 9223372036854775808 ≡ t → TimeFits (Some (sel t (pos n) (negsuc (18446744073709551616 - suc n))))
    go true e = early n h (ltb-true n 9223372036854775808 e)
    go false e = omega (arith, late n h (ltb-false n 9223372036854775808 e))

-- what an object's row is known to keep
pub record RowKept (b : List ℕ) (l : Layout) (r : Row) : Type 0 where
  pub words : words_ok r ≡ true
  pub numbers : numbers_ok l.texts.count l.objects.count r ≡ true
  pub bigint : bigint_row b l r ≡ true
  pub limits : limits_ok r ≡ true
  pub buffers : buffers_ok r (row_at b l r.a) ≡ true
  pub a_below : r.a < 4294967296
  pub b_below : r.b < 4294967296
  pub c_below : r.c < 4294967296
  pub d_below : r.d < 4294967296
  pub parts : (k : ℕ) → k < (first_run r).count → Hold (part_rules b l (first_run r) k)
  pub more_parts : (k : ℕ) → k < (second_run r).count → Hold (part_rules b l (second_run r) k)

-- the tests of a view, one by one
record ViewKept (r on : Row) (w : ℕ) : Type 0 where
  kind : on.kind ≡ 11
  aligned : r.c % w ≡ 0
  even : on.b % w ≡ 0
  inside : r.c + cond (tracking r) 0 (r.d * w) ≤ on.b
  resizes : cond (eqb on.c 1) (leb 2 r.e) (eqb r.e 0) ≡ true

view_kept : (r on : Row) (w : ℕ) → view_ok r on w ≡ true → ViewKept r on w
view_kept r on w h =
    let p = and_parts (eqb on.kind 11) _ h in
    let q = and_parts (eqb (r.c % w) 0) _ p.1 in
    let s = and_parts (eqb (on.b % w) 0) _ q.1 in
    let t = and_parts (leb (r.c + cond (tracking r) 0 (r.d * w)) on.b) _ s.1 in
    record { kind = eqb-true _ _ p.0; aligned = eqb-true _ _ q.0; even = eqb-true _ _ s.0; inside = leb-true _ _ t.0; resizes = t.1 }

-- a view that tracks stands on a resizable buffer
tracks : (c e : ℕ) → cond (eqb c 1) (leb 2 e) (eqb e 0) ≡ true → eqb (e % 2) 1 ≡ true → c ≡ 1
tracks c e h t = ⊎_elim (λ (x : eqb c 1 ≡ true). eqb-true c 1 x) (λ (x : eqb c 1 ≡ false). absurd (fixed (eqb-true e 0 (rw x at h)))) (cases_Bool (eqb c 1))
  where
    fixed : e ≡ 0 → ⊥
    fixed z = both_ways (eqb (e % 2) 1) (rw z refl) t

covered : (t : Bool) (d w : ℕ) → cond t 0 d * w ≡ cond t 0 (d * w)
covered true d w = omega arith
covered false d w = refl

module _ (b : List ℕ) (l : Layout) (bytes : are_bytes b ≡ true) (s : Sound b l) where
  maybe_units : (n : ℕ) → MaybeUnits (maybe_text b l n)
  maybe_units n = cond_both (eqb n 0) None (Some (text_of b l (n - 1))) MaybeUnits (λ e. tt) (λ e. units_below b bytes _ _)

  pub object_count : length (heap_of b l).objects ≡ l.objects.count
  object_count = length-map-range_with_len (object_of b l) 0 l.objects.count

  kind_at_lem : (i : ℕ) → i < l.objects.count → kind_at (heap_of b l) i ≡ kind_of b l (row_at b l i)
  kind_at_lem i g = ap (λ (o : Object). o.kind) (get_or-map-range_with_len (object_of b l) 0 l.objects.count i i nobody g (omega arith))

  view_formed : (r : Row) → r.a < l.objects.count → view_ok r (row_at b l r.a) (width (view_kind r.b)) ≡ true
      → ViewFormed (heap_of b l) (view_kind r.b) r.c (cond (eqb (r.e % 2) 1) 0 r.d) (eqb (r.e % 2) 1) (below r.a ∷ [])
  view_formed r g h =
      let on = row_at b l r.a in
      let w = width (view_kind r.b) in
      let v = view_kept r on w h in
      let size = length-bytes b (l.octets.start + on.a) on.b in
      record {
        on = r.a;
        bytes = bytes_at b (l.octets.start + on.a) on.b;
        maximum = cond (eqb on.c 1) (Some on.d) None;
        part = refl;
        there = rw object_count g;
        on_buffer = kind_at_lem r.a g ∙ is_buffer on v.kind;
        aligned = v.aligned;
        even = rw size v.even;
        inside = rw (size, covered (eqb (r.e % 2) 1) r.d w) v.inside;
        tracks = λ t. (rw t refl, (let c = tracks on.c r.e v.resizes t in rw c refl));
      }
    where
      is_buffer : (x : Row) → x.kind ≡ 11 → kind_of b l x ≡ buffer (bytes_at b (l.octets.start + x.a) x.b) (cond (eqb x.c 1) (Some x.d) None)
      is_buffer x e = rw e refl

  -- elements and then properties
  dense_parts : (a n c d : ℕ)
      → All (ElementFormed l.objects.count) (map (element_at b l) (range_with_len a n))
      → Properties l.objects.count 0 true (map (property_at b l) (range_with_len c d))
      → (n ≤ length (map (element_at b l) (range_with_len a n) ++ map (property_at b l) (range_with_len c d)))
      × All (ElementFormed l.objects.count) (take n (map (element_at b l) (range_with_len a n) ++ map (property_at b l) (range_with_len c d)))
      × Properties l.objects.count 0 true (drop n (map (element_at b l) (range_with_len a n) ++ map (property_at b l) (range_with_len c d)))
  dense_parts a n c d es ps =
      let xs = map (element_at b l) (range_with_len a n) in
      let ys = map (property_at b l) (range_with_len c d) in
      let size : length xs ≡ n = length-map-range_with_len (element_at b l) a n in (
        omega (arith, length-append xs ys, size),
        subst (All (ElementFormed l.objects.count)) (sym (take_at xs ys n size)) es,
        subst (Properties l.objects.count 0 true) (sym (drop_at xs ys n size)) ps,
      )

  pub row_formed : (r : Row) → RowKept b l r → KindFormed (kind_of b l r) × PartsFormed (heap_of b l) l.objects.count (kind_of b l r) (parts_of b l r)
  row_formed r k =
      upto13 (λ t. r.kind ≡ t → KindFormed (kind_of b l r) × PartsFormed (heap_of b l) l.objects.count (kind_of b l r) (parts_of b l r))
      (λ e. rw e (tt, refl))
      (λ e. rw e (omega (arith, k.a_below, k.b_below), refl))
      (λ e. rw e (rw e at k.bigint, refl))
      (λ e. rw e (units_below b bytes _ _, refl))
      (λ e. rw e ((units_below b bytes _ _, rw e at k.limits), refl))
      (λ e. rw e (cond_both (eqb r.c 1) None (Some (signed64 (joined r.a r.b))) TimeFits (λ x. tt) (λ x. time_fits (joined r.a r.b) (omega (arith, k.a_below, k.b_below)) (rw e at k.limits)), refl))
      (λ e. rw e (tt, properties b l bytes s None r.a r.b (rw e at k.parts)))
      (λ e. rw e (k.c_below, properties b l bytes s (Some r.c) r.a r.b (rw e at k.parts)))
      (λ e. rw e (k.b_below, dense_parts r.a r.b r.c r.d (elements b l bytes s r.a r.b (rw e at k.parts)) (properties b l bytes s (Some 0) r.c r.d (rw e at k.more_parts))))
      (λ e. rw e (tt, entries b l bytes s r.a r.b (rw e at k.parts)))
      (λ e. rw e (tt, members b l bytes s r.a r.b (rw e at k.parts)))
      (λ e. rw e ((bytes_below_lem b bytes _ _, maximum_fits (rw e at k.buffers)), refl))
      (λ e. rw e (tt, view_formed r (ltb-true _ _ (rw e at k.numbers)) (rw e at k.buffers)))
      (λ e. rw e ((maybe_units r.b, maybe_units r.c), (rw length-map-range_with_len (few (rw e at k.words)), causes b l bytes s r.d r.e (rw e at k.parts))))
      r.kind (kind_small r k.words) refl
    where
      maximum_fits : cond (eqb r.c 1) (leb r.b r.d) true ≡ true → MaximumFits (length (bytes_at b (l.octets.start + r.a) r.b)) (cond (eqb r.c 1) (Some r.d) None)
      maximum_fits h = rw (length-bytes b (l.octets.start + r.a) r.b) (go (eqb r.c 1) h)
        where
          go : (t : Bool) → cond t (leb r.b r.d) true ≡ true → MaximumFits r.b (cond t (Some r.d) None)
          go true h = (leb-true r.b r.d h, k.d_below)
          go false h = tt

      few : (leb r.a 6 && leb r.e 1) ≡ true → r.e ≤ 1
      few h = leb-true r.e 1 (and_parts (leb r.a 6) (leb r.e 1) h).1
