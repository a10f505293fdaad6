-- Plain values: a value that is no object and no hole evaluates to what is alike to it.
use Rattle.std.proofs.Common.{◌≡◌, ℕ, ◌/◌, ◌%◌, ◌^◌, ◌<◌, Bool, true, false, cond, not, ◌&&◌, eqb, [], Some, sym, refl, ap, ◌∙◌, ⊎_elim, append-nil, arith, eq-eqb, ne_eqb, eqb-true}
use borrow.Author.Tests.{eqb-false}
use Rattle.std.proofs.lemmas.Bool.{cases_Bool, or_left, or_right, both_ways}
use Rattle.dump.specs.Heaps.{Value}
use Rattle.numeral.specs.Numerals.{finite}
use Rattle.evaluator.specs.Stores.{Val, number, State}
use Rattle.evaluator.specs.Isomorphic.{Pairing, Alike, AlikeNumber, is_nan, same_value, whole_double}
use Rattle.effects.specs.Effects.{canonical, plain_val, grown}

pub grown_nil : (s : State) → grown s [] ≡ s
grown_nil s = ap (λ xs. record { objects = xs; names = s.names }) (append-nil s.objects)

same_self : (a : ℕ) → same_value a a ≡ true
same_self a = or_left (eqb a a) (is_nan a && is_nan a) (eq-eqb a a refl)

-- bits that are not finite and neither infinity are NaN
nan : (bits : ℕ) → bits < 2 ^ 64 → finite bits ≡ false → eqb bits 9218868437227405312 ≡ false → eqb bits 18442240474082181120 ≡ false → is_nan bits ≡ true
nan bits lt f a b =
    let na = eqb-false bits 9218868437227405312 a in
    let nb = eqb-false bits 18442240474082181120 b in
    let q : bits / 2 ^ 52 % 2 ^ 11 ≡ 2047 = top f in
    let r : bits % 2 ^ 52 ≡ 0 → ⊥ = λ z. omega arith in
    ap (λ x. not x && not (eqb (bits % 2 ^ 52) 0)) f ∙ ap (λ x. not x) (ne_eqb (bits % 2 ^ 52) 0 r)
  where
    top : not (eqb (bits / 2 ^ 52 % 2 ^ 11) 2047) ≡ false → bits / 2 ^ 52 % 2 ^ 11 ≡ 2047
    top g = ⊎_elim (λ (t : eqb (bits / 2 ^ 52 % 2 ^ 11) 2047 ≡ true). eqb-true (bits / 2 ^ 52 % 2 ^ 11) 2047 t) (λ (n : eqb (bits / 2 ^ 52 % 2 ^ 11) 2047 ≡ false). absurd (both_ways true (sym (ap not n) ∙ g) refl)) (cases_Bool (eqb (bits / 2 ^ 52 % 2 ^ 11) 2047))

pub same_canonical : (bits : ℕ) → bits < 2 ^ 64 → same_value bits (canonical bits) ≡ true
same_canonical bits lt = on (finite bits) refl (eqb bits 9218868437227405312) refl (eqb bits 18442240474082181120) refl
  where
    on : (a : Bool) → finite bits ≡ a → (b : Bool) → eqb bits 9218868437227405312 ≡ b → (c : Bool) → eqb bits 18442240474082181120 ≡ c → same_value bits (cond a bits (cond b bits (cond c bits 9221120237041090560))) ≡ true
    on true ea b eb c ec = same_self bits
    on false ea true eb c ec = same_self bits
    on false ea false eb true ec = same_self bits
    on false ea false eb false ec = or_right (eqb bits 9221120237041090560) (is_nan bits && true) (ap (λ x. x && true) (nan bits lt ea eb ec))

-- what a value that may stand anywhere evaluates to
pub record Plainly (own : Pairing) (v : Value) : Type 0 where
  pub val : Val
  pub is : plain_val v ≡ Some val
  pub says : Alike own v val

pub double_alike : (own : Pairing) (bits : ℕ) → bits < 2 ^ 64 → AlikeNumber bits (number (canonical bits))
double_alike own bits lt = (canonical bits, refl, same_canonical bits lt)

pub whole_alike : (own : Pairing) (z : _) → AlikeNumber (whole_double z) (number (whole_double z))
whole_alike own z = (whole_double z, refl, same_self (whole_double z))
