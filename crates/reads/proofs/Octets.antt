-- A part of the dump, byte by byte.
use Rattle.std.proofs.Common.{◌≡◌, ℕ, zero, suc, ◌+◌, ◌-◌, ◌≤◌, List, ◌∷◌, length, take, drop, get_or, refl, sym, ap, ◌∙◌, arith}
use Rattle.std.proofs.Math.Seq.{drop-cons}
use Rattle.dump.specs.Bytes.{bytes_at}
use Rattle.dump.proofs.Runs.{length-bytes}
use Rattle.reads.specs.Typed.{OctetsFit}

take_bytes : (b : List ℕ) (p n : ℕ) → p + n ≤ length b → take n (drop p b) ≡ bytes_at b p n
take_bytes b p zero h = refl
take_bytes b p (suc n) h =
    let e : suc p ≡ p + 1 = omega arith in
    ap (take (suc n)) (drop-cons b p 0 (omega arith)) ∙ ap (λ xs. get_or b p 0 ∷ xs) (ap (λ q. take n (drop q b)) e ∙ take_bytes b (p + 1) n (omega arith))

pub slice_bytes : (b : List ℕ) (p n : ℕ) → p + n ≤ length b → take (p + n - p) (drop p b) ≡ bytes_at b p n
slice_bytes b p n h = let e : p + n - p ≡ n = omega arith in rw e (take_bytes b p n h)

pub slice_fits : (b : List ℕ) (p n : ℕ) → p + n ≤ length b → OctetsFit b (take (p + n - p) (drop p b))
slice_fits b p n h =
    let e = slice_bytes b p n h in
    let long : length (take (p + n - p) (drop p b)) ≡ n = ap length e ∙ length-bytes b p n in
    (p, (omega arith), rw long (sym e))
