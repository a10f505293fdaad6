-- UTF-8: the code points of a list of bytes, none if they are not well formed.
use Rattle.std.specs.Prelude.{ℕ, zero, suc, ◌+◌, ◌-◌, ◌*◌, Bool, cond, not, ◌&&◌, List, [], ◌∷◌, ◌++◌, Some, None, Option, nat_le, nat_lt}
use Rattle.evaluator.specs.Options.{and_then}

-- between characters, or so many more bytes of one: what is known of it, and the least that so many bytes may mean
pub data Decoding : Type 0 where
  between : Decoding
  within : ℕ → ℕ → ℕ → Decoding

-- no surrogate, within Unicode, and not written longer than need be
abbrev pub is_scalar : ℕ → ℕ → Bool
is_scalar least c = nat_le least c && (nat_le c 1114111 && not (nat_le 55296 c && nat_le c 57343))

-- the characters that a byte ends, and what is known after it
pub data Decoded : Type 0 where
  gives : List ℕ → Decoding → Decoded
  bad : Decoded

abbrev pub decode_step : ℕ → Decoding → Decoded
decode_step b between =
    cond (nat_lt b 128) (gives (b ∷ []) between)
    (cond (nat_le 194 b && nat_le b 223) (gives [] (within 0 (b - 192) 128))
    (cond (nat_le 224 b && nat_le b 239) (gives [] (within 1 (b - 224) 2048))
    (cond (nat_le 240 b && nat_le b 244) (gives [] (within 2 (b - 240) 65536))
    bad)))
decode_step b (within zero c least) = cond (nat_le 128 b && (nat_le b 191 && is_scalar least (c * 64 + (b - 128)))) (gives ((c * 64 + (b - 128)) ∷ []) between) bad
decode_step b (within (suc n) c least) = cond (nat_le 128 b && nat_le b 191) (gives [] (within n (c * 64 + (b - 128)) least)) bad

abbrev pub decode_then : Decoded → (Decoding → Option (List ℕ)) → Option (List ℕ)
decode_then (gives cs d) k = and_then (k d) (λ ds. Some (cs ++ ds))
decode_then bad k = None

abbrev pub decode : List ℕ → Decoding → Option (List ℕ)
decode [] between = Some []
decode [] (within n c least) = None
decode (b ∷ bs) d = decode_then (decode_step b d) (decode bs)

abbrev pub characters : List ℕ → Option (List ℕ)
characters bs = decode bs between
