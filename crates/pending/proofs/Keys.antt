-- Values of a heap that differ by SameValueZero differ on the evaluator, and a Map keeps its keys as they are.
use Rattle.std.proofs.Common.{◌≡◌, ℕ, suc, Bool, true, false, ◌&&◌, eqb, ℤ, pos, negsuc, Some, None, sym, refl, ap, ◌∙◌, subst, inl, inr, ⊎_elim, arith}
use lib.Ieee.{binary64, of_bits, to_unsigned}
use Rattle.std.proofs.lemmas.Bool.{cases_Bool, or_cases, and_parts, eqb-true, ne_eqb, false≢true, cond-false}
use Rattle.dump.specs.Heaps as heaps
use Rattle.dump.specs.Heaps.{Text, Value}
use Rattle.numeral.specs.Numerals.{is_big_int}
use Rattle.numeral.proofs.Laws.{same_units_lem}
use Rattle.formed.specs.Formed.{ValueFormed, WholeFits, number_in, SameValueZero, Kept}
use Rattle.speller.proofs.Floats.{bits_of, bits_below, cut_back}
use Rattle.evaluator.specs.Options.{nth}
use Rattle.evaluator.specs.Stores.{Val, undefined, null, boolean, number, big, text, ref, same_zero, same_integer, same_boolean, plus_zero}
use Rattle.evaluator.specs.Isomorphic.{Pairing, Alike, big_value, same_value, is_nan, whole_double}
use Rattle.pending.proofs.Doubles.{whole_double_lem, same_double_lem}
use Rattle.pending.proofs.BigInts.{same_big}

-- what a value of the evaluator stands for
abbrev StandsFor : Pairing → Val → Value → Type 0
StandsFor own undefined v = v ≡ heaps.undefined
StandsFor own null v = v ≡ heaps.null
StandsFor own (boolean b) v = v ≡ heaps.boolean b
StandsFor own (number b) v = number_in v ≡ Some (of_bits binary64 b)
StandsFor own (big z) v = (t : Text) × (v ≡ heaps.bigint t) × (is_big_int t ≡ true) × (z ≡ big_value t)
StandsFor own (text t) v = v ≡ heaps.text t
StandsFor own (ref p) v = (o : ℕ) × (v ≡ heaps.object o) × (nth own p ≡ Some (Some o))

stands_for : (own : Pairing) (n : ℕ) (v : Value) (w : Val) → ValueFormed n v → Alike own v w → StandsFor own w v
stands_for own n heaps.undefined w f a = subst (λ u. StandsFor own u heaps.undefined) (sym a) refl
stands_for own n heaps.null w f a = subst (λ u. StandsFor own u heaps.null) (sym a) refl
stands_for own n heaps.hole w f a = absurd a
stands_for own n (heaps.boolean b) w f a = subst (λ u. StandsFor own u (heaps.boolean b)) (sym a) refl
stands_for own n (heaps.whole z) w f a = subst (λ u. StandsFor own u (heaps.whole z)) (sym a.1) (ap Some (sym (whole_double_lem z) ∙ same_double_lem (whole_double z) a.0 a.2))
stands_for own n (heaps.double bits) w f a = subst (λ u. StandsFor own u (heaps.double bits)) (sym a.1) (ap Some (same_double_lem bits a.0 a.2))
stands_for own n (heaps.bigint t) w f a = subst (λ u. StandsFor own u (heaps.bigint t)) (sym a) (t, refl, f, refl)
stands_for own n (heaps.text t) w f a = subst (λ u. StandsFor own u (heaps.text t)) (sym a) refl
stands_for own n (heaps.object o) w f a = subst (λ u. StandsFor own u (heaps.object o)) (sym a.1) (o, refl, a.2)

-- the same value
same_value_lem : (v v' u : Value) → number_in u ≡ None → v ≡ u → v' ≡ u → SameValueZero v v'
same_value_lem v v' u n e d = inr (ap number_in e ∙ n, e ∙ sym d)

same_bool : (a b : Bool) → same_boolean a b ≡ true → b ≡ a
same_bool true b e = e
same_bool false true e = absurd (false≢true e)
same_bool false false e = refl

same_int : (a b : ℤ) → same_integer a b ≡ true → b ≡ a
same_int (pos a) (pos b) e = ap pos (sym (eqb-true a b e))
same_int (pos a) (negsuc b) e = absurd (false≢true e)
same_int (negsuc a) (pos b) e = absurd (false≢true e)
same_int (negsuc a) (negsuc b) e = ap negsuc (sym (eqb-true a b e))

-- what is the same on the evaluator is so in the heap
same_zero_lem : (own : Pairing) (v v' : Value) (w w' : Val) → StandsFor own w v → StandsFor own w' v' → same_zero w w' ≡ true → SameValueZero v v'
same_zero_lem own v v' undefined undefined f g e = same_value_lem v v' heaps.undefined refl f g
same_zero_lem own v v' undefined null f g e = absurd (false≢true e)
same_zero_lem own v v' undefined (boolean b) f g e = absurd (false≢true e)
same_zero_lem own v v' undefined (number b) f g e = absurd (false≢true e)
same_zero_lem own v v' undefined (big b) f g e = absurd (false≢true e)
same_zero_lem own v v' undefined (text b) f g e = absurd (false≢true e)
same_zero_lem own v v' undefined (ref b) f g e = absurd (false≢true e)
same_zero_lem own v v' null undefined f g e = absurd (false≢true e)
same_zero_lem own v v' null null f g e = same_value_lem v v' heaps.null refl f g
same_zero_lem own v v' null (boolean b) f g e = absurd (false≢true e)
same_zero_lem own v v' null (number b) f g e = absurd (false≢true e)
same_zero_lem own v v' null (big b) f g e = absurd (false≢true e)
same_zero_lem own v v' null (text b) f g e = absurd (false≢true e)
same_zero_lem own v v' null (ref b) f g e = absurd (false≢true e)
same_zero_lem own v v' (boolean a) undefined f g e = absurd (false≢true e)
same_zero_lem own v v' (boolean a) null f g e = absurd (false≢true e)
same_zero_lem own v v' (boolean a) (boolean b) f g e = same_value_lem v v' (heaps.boolean a) refl f (g ∙ ap heaps.boolean (same_bool a b e))
same_zero_lem own v v' (boolean a) (number b) f g e = absurd (false≢true e)
same_zero_lem own v v' (boolean a) (big b) f g e = absurd (false≢true e)
same_zero_lem own v v' (boolean a) (text b) f g e = absurd (false≢true e)
same_zero_lem own v v' (boolean a) (ref b) f g e = absurd (false≢true e)
same_zero_lem own v v' (number a) undefined f g e = absurd (false≢true e)
same_zero_lem own v v' (number a) null f g e = absurd (false≢true e)
same_zero_lem own v v' (number a) (boolean b) f g e = absurd (false≢true e)
same_zero_lem own v v' (number a) (number b) f g e = inl (of_bits binary64 a, of_bits binary64 b, f, g, e)
same_zero_lem own v v' (number a) (big b) f g e = absurd (false≢true e)
same_zero_lem own v v' (number a) (text b) f g e = absurd (false≢true e)
same_zero_lem own v v' (number a) (ref b) f g e = absurd (false≢true e)
same_zero_lem own v v' (big a) undefined f g e = absurd (false≢true e)
same_zero_lem own v v' (big a) null f g e = absurd (false≢true e)
same_zero_lem own v v' (big a) (boolean b) f g e = absurd (false≢true e)
same_zero_lem own v v' (big a) (number b) f g e = absurd (false≢true e)
same_zero_lem own v v' (big a) (big b) f g e =
    let d : big_value f.0 ≡ big_value g.0 = sym f.3 ∙ sym (same_int a b e) ∙ g.3 in
    let s = same_big f.0 g.0 f.2 g.2 d in
    same_value_lem v v' (heaps.bigint f.0) refl f.1 (g.1 ∙ ap heaps.bigint (sym s))
same_zero_lem own v v' (big a) (text b) f g e = absurd (false≢true e)
same_zero_lem own v v' (big a) (ref b) f g e = absurd (false≢true e)
same_zero_lem own v v' (text a) undefined f g e = absurd (false≢true e)
same_zero_lem own v v' (text a) null f g e = absurd (false≢true e)
same_zero_lem own v v' (text a) (boolean b) f g e = absurd (false≢true e)
same_zero_lem own v v' (text a) (number b) f g e = absurd (false≢true e)
same_zero_lem own v v' (text a) (big b) f g e = absurd (false≢true e)
same_zero_lem own v v' (text a) (text b) f g e = same_value_lem v v' (heaps.text a) refl f (g ∙ ap heaps.text (sym ((same_units_lem a b).0 e)))
same_zero_lem own v v' (text a) (ref b) f g e = absurd (false≢true e)
same_zero_lem own v v' (ref a) undefined f g e = absurd (false≢true e)
same_zero_lem own v v' (ref a) null f g e = absurd (false≢true e)
same_zero_lem own v v' (ref a) (boolean b) f g e = absurd (false≢true e)
same_zero_lem own v v' (ref a) (number b) f g e = absurd (false≢true e)
same_zero_lem own v v' (ref a) (big b) f g e = absurd (false≢true e)
same_zero_lem own v v' (ref a) (text b) f g e = absurd (false≢true e)
same_zero_lem own v v' (ref a) (ref b) f g e =
    let d : nth own a ≡ Some (Some g.0) = ap (nth own) (eqb-true a b e) ∙ g.2 in
    let s : Some (Some f.0) ≡ Some (Some g.0) = sym f.2 ∙ d in
    let o : f.0 ≡ g.0 = cc in
    same_value_lem v v' (heaps.object f.0) refl f.1 (g.1 ∙ ap heaps.object (sym o))

pub keys_apart : (own : Pairing) (n : ℕ) (v v' : Value) (w w' : Val) → ValueFormed n v → ValueFormed n v' → Alike own v w → Alike own v' w' → (SameValueZero v v' → ⊥) → same_zero w w' ≡ false
keys_apart own n v v' w w' f g a b apart =
    ⊎_elim (λ (e : same_zero w w' ≡ true). absurd (apart (same_zero_lem own v v' w w' (stands_for own n v w f a) (stands_for own n v' w' g b) e))) (λ (e : same_zero w w' ≡ false). e) (cases_Bool (same_zero w w'))

-- minus zero

kept_number : (a b : ℕ) → same_value a b ≡ true → (a ≡ 9223372036854775808 → ⊥) → plus_zero (number b) ≡ number b
kept_number a b e n = cond-false (eqb b 9223372036854775808) (number 0) (number b) (ne_eqb b 9223372036854775808 no)
  where
    no : b ≡ 9223372036854775808 → ⊥
    no d =
        ⊎_elim (λ (s : eqb a b ≡ true). n (eqb-true a b s ∙ d))
        (λ (s : (is_nan a && is_nan b) ≡ true). false≢true (let p = and_parts (is_nan a) (is_nan b) s in sym (ap is_nan d) ∙ p.1))
        (or_cases (eqb a b) (is_nan a && is_nan b) e)

whole_kept : (z : ℤ) → WholeFits z → whole_double z ≡ 9223372036854775808 → ⊥
unfolding to_unsigned of_bits
whole_kept (pos n) f e = let b = bits_below n (omega arith) in omega arith
whole_kept (negsuc n) f e =
    let z : bits_of (suc n) ≡ 0 = omega arith in
    let c : 0 ≡ suc n = sym (ap (λ b. to_unsigned 64 (of_bits binary64 b)) z) ∙ cut_back (suc n) (omega arith) in
    omega arith

pub kept_plus : (own : Pairing) (n : ℕ) (v : Value) (w : Val) → Kept n v → Alike own v w → plus_zero w ≡ w
kept_plus own n heaps.undefined w k a = subst (λ u. plus_zero u ≡ u) (sym a) refl
kept_plus own n heaps.null w k a = subst (λ u. plus_zero u ≡ u) (sym a) refl
kept_plus own n heaps.hole w k a = absurd a
kept_plus own n (heaps.boolean b) w k a = subst (λ u. plus_zero u ≡ u) (sym a) refl
kept_plus own n (heaps.whole z) w k a = subst (λ u. plus_zero u ≡ u) (sym a.1) (kept_number (whole_double z) a.0 a.2 (whole_kept z k.0))
kept_plus own n (heaps.double bits) w k a = subst (λ u. plus_zero u ≡ u) (sym a.1) (kept_number bits a.0 a.2 (λ e. k.1 (ap heaps.double e)))
kept_plus own n (heaps.bigint t) w k a = subst (λ u. plus_zero u ≡ u) (sym a) refl
kept_plus own n (heaps.text t) w k a = subst (λ u. plus_zero u ≡ u) (sym a) refl
kept_plus own n (heaps.object o) w k a = subst (λ u. plus_zero u ≡ u) (sym a.1) refl
