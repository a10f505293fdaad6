-- What a mask of one bit keeps of a word, for the bits that the flags of a regular expression are tested by.
use Rattle.std.proofs.Common.{◌≡◌, ℕ, ◌*◌, ◌/◌, ◌%◌, bit_and}
use Rattle.std.proofs.lemmas.Nat.Bits.{and_pow}

pub bit4 : (n : ℕ) → bit_and n 16 ≡ n / 16 % 2 * 16
bit4 n = and_pow n 4

pub bit6 : (n : ℕ) → bit_and n 64 ≡ n / 64 % 2 * 64
bit6 n = and_pow n 6

pub bit8 : (n : ℕ) → bit_and n 256 ≡ n / 256 % 2 * 256
bit8 n = and_pow n 8

pub ruleset flag_bits = (bit4, bit6, bit8)
