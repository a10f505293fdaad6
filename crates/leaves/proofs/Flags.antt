-- The letters of a RegExp's flags give the flags back.
use Rattle.std.proofs.Common.{◌≡◌, ℕ, zero, suc, ◌<◌, Bool, true, false, not, ◌&&◌, ◌||◌, eqb, ltb, [], Some, None, Option, sym, refl, ap, ◌∙◌, ⊎_elim, arith}
use Rattle.std.proofs.lemmas.Bool.{and_parts, cases_eq, eqb-true, ltb-true, false≢true}
use Rattle.shapes.specs.Rows.{bit, flags_ok}
use Rattle.script.specs.Texts.{flag_letters}
use Rattle.evaluator.specs.Makes.{flags_from}

-- There are 512 numbers to try.

abbrev is_flags : Option ℕ → ℕ → Bool
is_flags None n = false
is_flags (Some m) n = eqb m n

abbrev flags_back : ℕ → Bool
flags_back n = not (flags_ok n) || is_flags (flags_from 0 (flag_letters n)) n

abbrev all_back : ℕ → Bool
all_back zero = true
all_back (suc n) = flags_back n && all_back n

tried : all_back 512 ≡ true
tried = refl

back_below : (limit n : ℕ) → all_back limit ≡ true → n < limit → flags_back n ≡ true
back_below zero n h l = absurd (omega arith)
back_below (suc m) n h l =
    let p = and_parts (flags_back m) (all_back m) h in
    ⊎_elim (λ (e : n ≡ m). ap flags_back e ∙ p.0) (λ (e : n ≡ m → ⊥). back_below m n p.1 (omega arith)) (cases_eq n m)

pub flags_from_lem : (n : ℕ) → flags_ok n ≡ true → flags_from 0 (flag_letters n) ≡ Some n
flags_from_lem n ok = found (flags_from 0 (flag_letters n)) (sym (ap (λ b. not b || is_flags (flags_from 0 (flag_letters n)) n) ok) ∙ back_below 512 n tried small)
  where
    small : n < 512
    small = ltb-true n 512 (and_parts (ltb n 512) (not (bit n 64) && not (bit n 16 && bit n 256)) ok).0

    found : (o : Option ℕ) → is_flags o n ≡ true → o ≡ Some n
    found None h = absurd (false≢true h)
    found (Some m) h = ap Some (eqb-true m n h)

-- without letters there are no flags
pub no_flags : (n : ℕ) → flags_ok n ≡ true → flag_letters n ≡ [] → n ≡ 0
no_flags n ok e = let h : Some 0 ≡ Some n = sym (ap (flags_from 0) e) ∙ flags_from_lem n ok in sym cc
