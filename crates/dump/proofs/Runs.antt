-- Runs of units and bytes, place by place, and lists of bytes.
use Rattle.std.proofs.Common.{◌≡◌, ℕ, zero, suc, ◌+◌, ◌-◌, ◌*◌, ◌<◌, true, ltb, List, [], ◌∷◌, length, drop, get_or, refl, ap, ◌∙◌, arith}
use lib.Pow.{are_bytes}
use Rattle.std.proofs.lemmas.Bool.{and_parts, and_from, lt-ltb, ltb-true}
use Rattle.dump.specs.Bytes.{unit, units_at, bytes_at}

-- how many units a run has: by it a caller of `Text::new` knows how long the text is
pub length-units : (b : List ℕ) (p n : ℕ) → length (units_at b p n) ≡ n
length-units b p zero = refl
length-units b p (suc n) = ap suc (length-units b (p + 2) n)

-- a run without its first unit
pub drop_unit : (b : List ℕ) (p n : ℕ) → drop 1 (units_at b p n) ≡ units_at b (p + 2) (n - 1)
drop_unit b p zero = refl
drop_unit b p (suc n) = let e : suc n - 1 ≡ n = omega arith in rw e

pub length-bytes : (b : List ℕ) (p n : ℕ) → length (bytes_at b p n) ≡ n
length-bytes b p zero = refl
length-bytes b p (suc n) = ap suc (length-bytes b (p + 1) n)

pub get_or-units : (b : List ℕ) (p n j d : ℕ) → j < n → get_or (units_at b p n) j d ≡ unit b (p + j * 2)
get_or-units b p zero j d h = absurd (omega arith)
get_or-units b p (suc n) zero d h = let e : p ≡ p + 0 * 2 = omega arith in ap (unit b) e
get_or-units b p (suc n) (suc j) d h =
    let e : p + 2 + j * 2 ≡ p + suc j * 2 = omega arith in
    get_or-units b (p + 2) n j d (omega arith) ∙ ap (unit b) e

pub get_or-bytes : (b : List ℕ) (p n j d : ℕ) → j < n → get_or (bytes_at b p n) j d ≡ get_or b (p + j) 0
get_or-bytes b p zero j d h = absurd (omega arith)
get_or-bytes b p (suc n) zero d h = let e : p ≡ p + 0 = omega arith in ap (λ q. get_or b q 0) e
get_or-bytes b p (suc n) (suc j) d h =
    let e : p + 1 + j ≡ p + suc j = omega arith in
    get_or-bytes b (p + 1) n j d (omega arith) ∙ ap (λ q. get_or b q 0) e

-- a list of bytes, place by place
pub are_bytes_lem : (b : List ℕ) → ((k : ℕ) → k < length b → get_or b k 0 < 256) → are_bytes b ≡ true
are_bytes_lem [] h = refl
are_bytes_lem (x ∷ b) h = and_from (ltb x 256) (are_bytes b) (lt-ltb x 256 (h 0 (omega arith))) (are_bytes_lem b (λ k l. h (suc k) (omega arith)))

pub byte_below : (b : List ℕ) (k : ℕ) → are_bytes b ≡ true → get_or b k 0 < 256
byte_below [] k h = omega arith
byte_below (x ∷ b) zero h = ltb-true x 256 (and_parts (ltb x 256) (are_bytes b) h).0
byte_below (x ∷ b) (suc k) h = byte_below b k (and_parts (ltb x 256) (are_bytes b) h).1
