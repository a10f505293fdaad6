-- Where the sections stand: each has a count word, then its records; nothing comes after the last.
use Rattle.std.specs.Prelude.{◌≡◌, ℕ, ◌+◌, ◌*◌, ◌≤◌, cond, ◌||◌, List, length, Ok, Result, ◌==◌, nat_lt}
use Rattle.dump.specs.declared.refusal.Refusal.{Refusal}
use Rattle.dump.specs.declared.layout.Section.{Section}
use Rattle.dump.specs.declared.layout.Layout.{Layout}
use Rattle.dump.specs.Bytes.{word}
use Rattle.dump.specs.Rules.{refuse, and_then}

-- the section s, whose count word stands at p: a missing word is 1, a count outside its limits 2, missing records 1
unfoldable pub section_at : List ℕ → ℕ → ℕ → ℕ → ℕ → ℕ → Result Section Refusal
section_at b s p least limit size =
    cond (nat_lt (length b) (p + 4)) (refuse 1 s 0)
    (cond (nat_lt limit (word b p) || nat_lt (word b p) least) (refuse 2 s 0)
    (cond (nat_lt (length b) (p + 4 + word b p * size)) (refuse 1 s 0)
    (Ok (record { start = p + 4; count = word b p }))))

-- the section lies in the dump and keeps its limits
pub record Within (b : List ℕ) (p least limit size : ℕ) (x : Section) : Type 0 where
  pub start : x.start ≡ p + 4
  pub fits : x.start + x.count * size ≤ length b
  pub enough : least ≤ x.count
  pub most : x.count ≤ limit

abbrev pub layout_of : List ℕ → Result Layout Refusal
layout_of b =
    and_then (section_at b 1 0 0 8192 8) (λ t.
    and_then (section_at b 2 (t.start + t.count * 8) 0 1048576 2) (λ u.
    and_then (section_at b 3 (u.start + u.count * 2) 0 4096 12) (λ n.
    and_then (section_at b 4 (n.start + n.count * 12) 0 1048576 1) (λ y.
    and_then (section_at b 5 (y.start + y.count * 1) 0 4096 24) (λ o.
    and_then (section_at b 6 (o.start + o.count * 24) 0 65536 24) (λ q.
    and_then (section_at b 7 (q.start + q.count * 24) 1 1 12) (λ r.
    cond (length b == r.start + r.count * 12) (Ok (record { texts = t; units = u; numerals = n; octets = y; objects = o; parts = q; root = r })) (refuse 1 7 0))))))))

-- the sections lie in the dump and keep their limits
pub record Laid (b : List ℕ) (l : Layout) : Type 0 where
  pub texts : l.texts.start + l.texts.count * 8 ≤ length b
  pub units : l.units.start + l.units.count * 2 ≤ length b
  pub numerals : l.numerals.start + l.numerals.count * 12 ≤ length b
  pub octets : l.octets.start + l.octets.count * 1 ≤ length b
  pub objects : l.objects.start + l.objects.count * 24 ≤ length b
  pub parts : l.parts.start + l.parts.count * 24 ≤ length b
  pub root : l.root.start + 12 ≤ length b
  pub few_texts : l.texts.count ≤ 8192
  pub few_units : l.units.count ≤ 1048576
  pub few_numerals : l.numerals.count ≤ 4096
  pub few_octets : l.octets.count ≤ 1048576
  pub few_objects : l.objects.count ≤ 4096
  pub few_parts : l.parts.count ≤ 65536
