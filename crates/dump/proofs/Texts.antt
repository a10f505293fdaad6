-- The pairs of bytes of a run, as units.
use Rattle.std.proofs.Common.{◌≡◌, ℕ, zero, suc, ◌+◌, ◌-◌, ◌*◌, ◌/◌, ◌≤◌, List, length, take, drop, map, get_or, refl, ap, ◌∙◌, arith}
use Rattle.std.specs.Simd.{first_chunks}
use Rattle.std.proofs.lemmas.List.{drop-take, drop-drop, get_or-take, get_or-drop, length-take, length-drop}
use Rattle.dump.specs.Bytes.{unit, units_at}
use Rattle.dump.specs.Bytes.{little}

pub first_pair : (m p : ℕ) (b : List ℕ) → little (take 2 (take (2 + m) (drop p b))) ≡ unit b p
unfolding unit
first_pair m p b =
    let t = take (2 + m) (drop p b) in
    let low : get_or (take 2 t) 0 0 ≡ get_or b p 0 = get_or-take 2 t 0 0 (omega arith) ∙ get_or-take (2 + m) (drop p b) 0 0 (omega arith) ∙ get_or-drop p b 0 0 ∙ ap (λ q. get_or b q 0) (omega arith) in
    let high : get_or (take 2 t) 1 0 ≡ get_or b (p + 1) 0 = get_or-take 2 t 1 0 (omega arith) ∙ get_or-take (2 + m) (drop p b) 1 0 (omega arith) ∙ get_or-drop p b 1 0 in
    rw (low, high) refl

pub chunk_units : (n p : ℕ) (b : List ℕ) → map little (first_chunks 2 n (take (n * 2) (drop p b))) ≡ units_at b p n
chunk_units zero p b = refl
chunk_units (suc n) p b =
    let e : suc n * 2 ≡ 2 + n * 2 = omega arith in
    let f : drop 2 (take (2 + n * 2) (drop p b)) ≡ take (n * 2) (drop (p + 2) b) =
    drop-take 2 (n * 2) (drop p b) ∙ ap (take (n * 2)) (drop-drop 2 p b) in
    rw (e, f, first_pair (n * 2) p b, chunk_units n (p + 2) b) refl

-- a run of n units, cut out of the dump
pub run_length : (n p : ℕ) (b : List ℕ) → p + n * 2 ≤ length b → length (take (p + n * 2 - p) (drop p b)) / 2 ≡ n
run_length n p b h = omega (arith, length-take (p + n * 2 - p) (drop p b), length-drop p b)

pub run_units : (n p : ℕ) (b : List ℕ) → p + n * 2 ≤ length b → map little (first_chunks 2 (length (take (p + n * 2 - p) (drop p b)) / 2) (take (p + n * 2 - p) (drop p b))) ≡ units_at b p n
run_units n p b h =
    let e : p + n * 2 - p ≡ n * 2 = omega arith in
    rw (run_length n p b h, e) (chunk_units n p b)
