-- A layout that is found keeps the limits of bytes and of objects.
use Rattle.std.proofs.Common.{◌≡◌, ℕ, ◌+◌, ◌*◌, ◌≤◌, Bool, true, false, cond, ◌||◌, eqb, ltb, List, length, Ok, Err, Result, refl, subst, arith}
use Rattle.std.proofs.lemmas.Bool.{ltb-false}
use Rattle.dump.specs.declared.layout.Layout.{Layout}
use Rattle.dump.specs.declared.layout.Section.{Section}
use Rattle.dump.specs.declared.refusal.Refusal.{Refusal}
use Rattle.dump.specs.Bytes.{word}
use Rattle.dump.specs.Layouts.{section_at, layout_of}
use Rattle.dump.specs.Rules.{refuse, and_then}

-- what comes after something that was made
pub then_ok : {A B : Type 0} (x : Result A Refusal) (f : A → Result B Refusal) (y : B) → and_then x f ≡ Ok y → (a : A) × (x ≡ Ok a) × (f a ≡ Ok y)
then_ok (Ok a) f y h = (a, refl, h)
then_ok (Err e) f y h = absurd (let z : ◌≡◌ {A = ℕ} 0 1 = cc in omega arith)

-- of a test and what is made if it holds
cond_ok : {A : Type 0} (t : Bool) (a : A) (e : Refusal) (y : A) → cond t (Ok a) (Err e) ≡ Ok y → a ≡ y
cond_ok true a e y h = cc
cond_ok false a e y h = absurd (let z : ◌≡◌ {A = ℕ} 0 1 = cc in omega arith)

section_most : (b : List ℕ) (s p least limit size : ℕ) (x : Section) → section_at b s p least limit size ≡ Ok x → x.count ≤ limit
unfolding section_at
section_most b s p least limit size x h = go (ltb (length b) (p + 4)) (ltb limit (word b p)) (ltb (word b p) least) (ltb (length b) (p + 4 + word b p * size)) refl h
  where
    made : Section
    made = record { start = p + 4; count = word b p }

    go : (t u v w : Bool) → ltb limit (word b p) ≡ u → cond t (refuse 1 s 0) (cond (u || v) (refuse 2 s 0) (cond w (refuse 1 s 0) (Ok made))) ≡ Ok x → x.count ≤ limit
    go true u v w e h = absurd (let z : ◌≡◌ {A = ℕ} 0 1 = cc in omega arith)
    go false true v w e h = absurd (let z : ◌≡◌ {A = ℕ} 0 1 = cc in omega arith)
    go false false true w e h = absurd (let z : ◌≡◌ {A = ℕ} 0 1 = cc in omega arith)
    go false false false true e h = absurd (let z : ◌≡◌ {A = ℕ} 0 1 = cc in omega arith)
    go false false false false e h = let m : made ≡ x = cc in subst (λ (y : Section). y.count ≤ limit) m (ltb-false limit (word b p) e)

limits : (b : List ℕ) (l : Layout) → layout_of b ≡ Ok l → (l.octets.count ≤ 1048576) × (l.objects.count ≤ 4096)
limits b l h =
    let t = then_ok (section_at b 1 0 0 8192 8) _ l h in
    let u = then_ok (section_at b 2 (t.0.start + t.0.count * 8) 0 1048576 2) _ l t.2 in
    let n = then_ok (section_at b 3 (u.0.start + u.0.count * 2) 0 4096 12) _ l u.2 in
    let y = then_ok (section_at b 4 (n.0.start + n.0.count * 12) 0 1048576 1) _ l n.2 in
    let o = then_ok (section_at b 5 (y.0.start + y.0.count * 1) 0 4096 24) _ l y.2 in
    let q = then_ok (section_at b 6 (o.0.start + o.0.count * 24) 0 65536 24) _ l o.2 in
    let r = then_ok (section_at b 7 (q.0.start + q.0.count * 24) 1 1 12) _ l q.2 in
    let m = cond_ok (eqb (length b) (r.0.start + r.0.count * 12)) (record { texts = t.0; units = u.0; numerals = n.0; octets = y.0; objects = o.0; parts = q.0; root = r.0 }) _ l r.2 in
    subst (λ (z : Layout). (z.octets.count ≤ 1048576) × (z.objects.count ≤ 4096)) m
    (section_most b 4 (n.0.start + n.0.count * 12) 0 1048576 1 y.0 y.1, section_most b 5 (y.0.start + y.0.count * 1) 0 4096 24 o.0 o.1)

pub few_octets : (b : List ℕ) (l : Layout) → layout_of b ≡ Ok l → l.octets.count ≤ 1048576
few_octets b l h = (limits b l h).0

pub few_objects : (b : List ℕ) (l : Layout) → layout_of b ≡ Ok l → l.objects.count ≤ 4096
few_objects b l h = (limits b l h).1
