-- Values of a sound dump are well formed, and SameValueZero on them is the test that check makes.
use Rattle.std.proofs.Common.{◌≡◌, ℕ, zero, suc, ◌-◌, ◌<◌, ◌≤◌, Bool, true, false, ◌&&◌, eqb, ltb, ◌⊎◌, List, pos, negsuc, refl, inl, inr, arith}
use lib.Pow.{are_bytes}
use mir.Val.{sel}
use Rattle.std.proofs.lemmas.Bool.{ltb-true, ltb-false}
use Rattle.std.proofs.lemmas.Bool.Decides.{nat_tests}
use Rattle.dump.specs.declared.layout.Layout.{Layout}
use Rattle.dump.specs.declared.row.Cell.{Cell}
use Rattle.dump.specs.Heaps.{Value, undefined, null, hole, boolean, whole, double, bigint, text, object}
use Rattle.dump.specs.Meaning.{value_of, joined, signed32}
use Rattle.dump.specs.Places.{text_of}
use Rattle.shapes.specs.Cells.{tag_ok, place_ok}
use Rattle.rules.specs.Cells.{bigint_ok}
use Rattle.formed.specs.Formed.{WholeFits, ValueFormed}
use Rattle.formed.proofs.Words.{units_below}

-- by cases on a number up to 9
pub upto9 : (P : ℕ → Type 0) → P 0 → P 1 → P 2 → P 3 → P 4 → P 5 → P 6 → P 7 → P 8 → P 9 → (n : ℕ) → n ≤ 9 → P n
upto9 P a b c d e f g h i j zero l = a
upto9 P a b c d e f g h i j (suc zero) l = b
upto9 P a b c d e f g h i j (suc (suc zero)) l = c
upto9 P a b c d e f g h i j (suc (suc (suc zero))) l = d
upto9 P a b c d e f g h i j (suc (suc (suc (suc zero)))) l = e
upto9 P a b c d e f g h i j (suc (suc (suc (suc (suc zero))))) l = f
upto9 P a b c d e f g h i j (suc (suc (suc (suc (suc (suc zero)))))) l = g
upto9 P a b c d e f g h i j (suc (suc (suc (suc (suc (suc (suc zero))))))) l = h
upto9 P a b c d e f g h i j (suc (suc (suc (suc (suc (suc (suc (suc zero)))))))) l = i
upto9 P a b c d e f g h i j (suc (suc (suc (suc (suc (suc (suc (suc (suc zero))))))))) l = j
upto9 P a b c d e f g h i j (suc (suc (suc (suc (suc (suc (suc (suc (suc (suc n)))))))))) l = absurd (omega arith)

pub tag_small : (holes : Bool) (v : Cell) → tag_ok holes v ≡ true → v.tag ≤ 9
tag_small holes v h = grind (arith, nat_tests)

signed_fits : (n : ℕ) → n < 4294967296 → WholeFits (signed32 n)
signed_fits n h = go (ltb n 2147483648) refl
  where
    go : (t : Bool) → ltb n 2147483648 ≡ t → WholeFits (sel t (pos n) (negsuc (4294967296 - suc n)))
    go true e = h
    go false e = omega (arith, ltb-false n 2147483648 e)

pub record Placed (b : List ℕ) (l : Layout) (holes : Bool) (v : Cell) : Type 0 where
  pub tag : tag_ok holes v ≡ true
  pub place : place_ok l.texts.count l.objects.count v ≡ true
  pub bigint : bigint_ok b l v ≡ true
  pub low : v.low < 4294967296
  pub high : v.high < 4294967296

module _ (b : List ℕ) (l : Layout) (bytes : are_bytes b ≡ true) where
  -- a value that may be a hole only where holes may stand
  abbrev OrHole : Bool → Value → Type 0
  OrHole true v = (v ≡ hole) ⊎ ValueFormed l.objects.count v
  OrHole false v = ValueFormed l.objects.count v

  formed_or_hole : (holes : Bool) (v : Value) → ValueFormed l.objects.count v → OrHole holes v
  formed_or_hole true v h = inr h
  formed_or_hole false v h = h

  value_or_hole : (holes : Bool) (v : Cell) → Placed b l holes v → OrHole holes (value_of b l v)
  value_or_hole holes v p =
      upto9 (λ t. v.tag ≡ t → OrHole holes (value_of b l v))
      (λ e. rw e (formed_or_hole holes undefined tt))
      (λ e. rw e (formed_or_hole holes null tt))
      (λ e. rw e (formed_or_hole holes (boolean (eqb v.low 1)) tt))
      (λ e. rw e (formed_or_hole holes (whole (signed32 v.low)) (signed_fits v.low p.low)))
      (λ e. rw e (formed_or_hole holes (whole (pos v.low)) p.low))
      (λ e. rw e (formed_or_hole holes (double (joined v.low v.high)) (omega (arith, p.low, p.high))))
      (λ e. rw e (formed_or_hole holes (bigint (text_of b l v.low)) (rw e at p.bigint)))
      (λ e. rw e (formed_or_hole holes (text (text_of b l v.low)) (units_below b bytes _ _)))
      (λ e. rw e (formed_or_hole holes (object v.low) (ltb-true v.low l.objects.count (rw e at p.place))))
      (λ e. rw e (no_hole holes (rw e at p.tag)))
      v.tag (tag_small holes v p.tag) refl
    where
      no_hole : (holes : Bool) → (holes && (eqb v.low 0 && eqb v.high 0)) ≡ true → OrHole holes hole
      no_hole true h = inl refl
      no_hole false h = absurd (let z : ◌≡◌ {A = ℕ} 0 1 = cc in omega arith)

  pub value_formed : (v : Cell) → Placed b l false v → ValueFormed l.objects.count (value_of b l v)
  value_formed v p = value_or_hole false v p

  pub element_formed : (v : Cell) → Placed b l true v → (value_of b l v ≡ hole) ⊎ ValueFormed l.objects.count (value_of b l v)
  element_formed v p = value_or_hole true v p
